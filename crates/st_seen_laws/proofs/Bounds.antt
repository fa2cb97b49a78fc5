-- The final numbers of the ids of few ranges have 64 bits.
use Rattle.std.proofs.Common.{◌≡◌, ◌∙◌, ◌<◌, ◌≤◌, ◌+◌, ◌*◌, ◌^◌, ◌==◌, ℕ, zero, suc, true, cond, List, [], ◌∷◌, ◌++◌, inl, inr, refl, ap, arith}
use Rattle.std.specs.List.{sum_by}
use Rattle.std.proofs.lemmas.Bool.{cases_eq}
use Rattle.std.proofs.lemmas.Bool.Decides.{nat_tests}
use Rattle.std.proofs.lemmas.List.Sums.{sum_by-cons}
use Rattle.st_ids.specs.Listing.{Has}
use Rattle.st_ids.specs.declared.names.Rev.{Rev}
use Rattle.st_clusters.specs.Log.{GoOn, carried_count}
use Rattle.st_clusters.specs.Names.{IsInTable}
use Rattle.st_clusters.specs.Table.{at, next_free, table_of, with_range}
use Rattle.st_clusters.specs.declared.ids.Cluster.{Cluster}
use Rattle.st_clusters.specs.declared.ids.IdRange.{IdRange}
use Rattle.st_clusters.proofs.Kept.{range_free}
use Rattle.st_clusters.proofs.Logs.{AreMadeBy, after, front_in_turn, log_made, made_more, none_made}
use Rattle.st_clusters.proofs.Ranges.{free_above}
use Rattle.st_lists.proofs.Texts.{carried_append}
use Rattle.st_marks.proofs.Members.{append_left}
use Rattle.st_seen_laws.specs.Told.{HaveFewIds}

-- ## How many ids some ranges carry

-- of all sessions
abbrev carried_all : List IdRange → ℕ
carried_all rs = sum_by (λ (r : IdRange). r.count) rs

-- of the sessions below a number
abbrev carried_below : ℕ → List IdRange → ℕ
carried_below zero rs = 0
carried_below (suc m) rs = carried_count m rs + carried_below m rs

more_all : (r : IdRange) (rs : List IdRange) → carried_all (r ∷ rs) ≡ r.count + carried_all rs
more_all r rs = sum_by-cons (λ (r : IdRange). r.count) r rs

more_of : (m : ℕ) (r : IdRange) (rs : List IdRange) → carried_count m (r ∷ rs) ≡ cond (r.session == m) r.count 0 + carried_count m rs
more_of m r rs = sum_by-cons (λ (r : IdRange). cond (r.session == m) r.count 0) r rs

own_more : (m : ℕ) (r : IdRange) (rs : List IdRange) → r.session ≡ m → carried_count m (r ∷ rs) ≡ r.count + carried_count m rs
own_more m r rs own = let test : (r.session == m) ≡ true = grind (arith, nat_tests, own) in more_of m r rs ∙ ap (λ b. cond b r.count 0 + carried_count m rs) test

count_rises : (m : ℕ) (r : IdRange) (rs : List IdRange) → carried_count m rs ≤ carried_count m (r ∷ rs)
count_rises m r rs = omega (arith, more_of m r rs)

below_rises : (m : ℕ) (r : IdRange) (rs : List IdRange) → carried_below m rs ≤ carried_below m (r ∷ rs)
below_rises zero r rs = omega arith
below_rises (suc m) r rs = omega (arith, count_rises m r rs, below_rises m r rs)

below_grows : (m : ℕ) (r : IdRange) (rs : List IdRange) → r.session < m → r.count + carried_below m rs ≤ carried_below m (r ∷ rs)
below_grows zero r rs less = absurd (omega (arith, less))
below_grows (suc m) r rs less = elim (cases_eq r.session m) [
  | inl own ↦ omega (arith, own_more m r rs own, below_rises m r rs)
  | inr other ↦ omega (arith, count_rises m r rs, below_grows m r rs (omega (arith, less, other)))
]

all_below : (m : ℕ) (rs : List IdRange) → ((r : IdRange) → Has rs r → r.session < m) → carried_all rs ≤ carried_below m rs
all_below m [] low = omega arith
all_below m (r ∷ rs) low = omega (arith, more_all r rs, below_grows m r rs (low r (inl refl)), all_below m rs (λ q h. low q (inr h)))

few_below : (m : ℕ) (rs : List IdRange) → ((s : ℕ) → carried_count s rs ≤ 4294967294) → carried_below m rs ≤ m * 4294967294
few_below zero rs few = omega arith
few_below (suc m) rs few = omega (arith, few m, few_below m rs few)

few_all : (m : ℕ) (rs : List IdRange) → ((r : IdRange) → Has rs r → r.session < m) → ((s : ℕ) → carried_count s rs ≤ 4294967294) → carried_all rs ≤ m * 4294967294
few_all m rs low few = omega (arith, all_below m rs low, few_below m rs few)

-- ## Final numbers

-- ranges take no more than 512 numbers for each id
free_by : (before rs : List IdRange) (cs : List Cluster) → AreMadeBy before cs → GoOn before rs → next_free (after cs rs) ≤ next_free cs + 512 * carried_all rs
free_by before [] cs made on = omega arith
free_by before (r ∷ rs) cs made on =
    let rest : next_free (after (with_range r cs) rs) ≤ next_free (with_range r cs) + 512 * carried_all rs = free_by (before ++ r ∷ []) rs (with_range r cs) (made_more before r cs made on.0 on.1) on.2 in
    omega (arith, rest, range_free r cs made.apart, more_all r rs)

pub number_short : (rs : List IdRange) → HaveFewIds rs → (r : Rev) (n : ℕ) → IsInTable (table_of rs) r n → n < 2 ^ 63
number_short rs few r n h =
    let apart = (log_made rs few.turn).apart in
    let above : (at (table_of rs) h.place).first_final + (at (table_of rs) h.place).capacity ≤ next_free (table_of rs) = free_above (table_of rs) apart h.place h.there in
    let inside : (at (table_of rs) h.place).used ≤ (at (table_of rs) h.place).capacity = apart.fits h.place h.there in
    let free : next_free (table_of rs) ≤ 1 + 512 * carried_all rs = free_by [] rs [] none_made few.turn in
    let all : carried_all rs ≤ 65536 * 4294967294 = few_all 65536 rs (λ q there. omega (arith, few.sessions q there)) few.ids in
    omega (arith, above, inside, free, all, h.within.number, h.within.before, h.within.from)

-- ## The ranges up to some

pub few_front : (rs later : List IdRange) → HaveFewIds (rs ++ later) → HaveFewIds rs
few_front rs later few = record {
  turn = (front_in_turn [] rs later few.turn).0;
  ids = λ s. omega (arith, few.ids s, carried_append s rs later);
  sessions = λ r h. few.sessions r (append_left rs later r h);
}
