-- Each finalised id has a final number.
use Rattle.std.proofs.Common.{◌≡◌, ◌⊎◌, inl, inr, ◌<◌, ◌≤◌, ◌+◌, ◌-◌, ℕ, List, [], ◌∷◌, ◌++◌, length, set, refl, sym, subst, ap, ◌∙◌, arith, length-set}
use Rattle.std.proofs.lemmas.List.{get_or_append_left, get_or_push, length_push, get_or-set_same, append_assoc, append-nil}
use Rattle.std.proofs.lemmas.Bool.{cases_eq, cases_lt}
use Rattle.st_ids.specs.declared.names.Rev.{Rev}
use Rattle.st_clusters.specs.Table.{at, no_cluster, room, new_cluster, with_more, with_growth, with_range, table_of}
use Rattle.st_clusters.specs.Names.{IsInTable, IsWithin, IsFinal}
use Rattle.st_ids.specs.Root.{opening}
use Rattle.st_clusters.specs.Log.{carried_count, GoOn, AreInTurn}
use Rattle.st_clusters.specs.inside.Kept.{AreApart}
use Rattle.st_clusters.specs.declared.ids.Cluster.{Cluster}
use Rattle.st_clusters.specs.declared.ids.IdRange.{IdRange}
use Rattle.st_clusters.proofs.Ranges.{range_cases}
use Rattle.st_clusters.proofs.Staying.{EndsAt, stays}
use Rattle.st_clusters.proofs.Logs.{AreMadeBy, carried_own, carried_other, made_more, ends_at, after, none_made, log_made, in_carried}

-- an id has a number
abbrev pub HasNumber : List Cluster → Rev → Type 0
HasNumber cs r = (n : ℕ) × IsInTable cs r n

in_last : (cs : List Cluster) (c : Cluster) (r : Rev) → c.session ≡ r.session → c.first ≤ r.num → r.num < c.first + c.used → HasNumber (cs ++ c ∷ []) r
in_last cs c r own from before = (
  c.first_final + (r.num - c.first),
  record {
    place = length cs;
    there = let long : length (cs ++ c ∷ []) ≡ length cs + 1 = length_push cs c in omega (arith, long);
    within = subst (λ (x : Cluster). IsWithin x r (c.first_final + (r.num - c.first))) (sym (get_or_push cs c no_cluster (length cs) refl)) (record { own = own; from = from; before = before; number = refl });
  },
)

in_set : (cs : List Cluster) (i : ℕ) (c : Cluster) (r : Rev) → i < length cs → c.session ≡ r.session → c.first ≤ r.num → r.num < c.first + c.used → HasNumber (set cs i c) r
in_set cs i c r within own from before = (
  c.first_final + (r.num - c.first),
  record {
    place = i;
    there = let long : length (set cs i c) ≡ length cs = length-set cs i c in omega (arith, long, within);
    within = subst (λ (x : Cluster). IsWithin x r (c.first_final + (r.num - c.first))) (sym (get_or-set_same cs i c no_cluster within)) (record { own = own; from = from; before = before; number = refl });
  },
)

in_front : (cs : List Cluster) (c : Cluster) (r : Rev) → HasNumber cs r → HasNumber (cs ++ c ∷ []) r
in_front cs c r h = (
  h.0,
  record {
    place = h.1.place;
    there = let long : length (cs ++ c ∷ []) ≡ length cs + 1 = length_push cs c in omega (arith, long, h.1.there);
    within = subst (λ (x : Cluster). IsWithin x r h.0) (sym (get_or_append_left cs (c ∷ []) no_cluster h.1.place h.1.there)) h.1.within;
  },
)

-- the ids of a range have numbers once it is added
range_covers : (q : IdRange) (cs : List Cluster) (r : Rev) → EndsAt q cs → AreApart cs → q.session ≡ r.session → q.first ≤ r.num → r.num < q.first + q.count → HasNumber (with_range q cs) r
range_covers q cs r ends apart own from before = range_cases (λ ds. HasNumber ds r) q cs
    (λ none. absurd (omega (arith, none, from, before)))
    (λ some none. in_last cs (new_cluster cs q.session q.first q.count) r own from before)
    (λ i some last fits. let end : (at cs i).first + (at cs i).used ≡ q.first = ends i last in
    in_set cs i (with_more (at cs i) q.count) r last.there (last.own ∙ own) (omega (arith, end, from)) (omega (arith, end, before)))
    (λ i last past inner. let end : (at cs i).first + (at cs i).used ≡ q.first = ends i last in
    in_set cs i (with_growth (at cs i) q.count) r last.there (last.own ∙ own) (omega (arith, end, from)) (omega (arith, end, before)))
    (λ i last past inner. let end : (at cs i).first + (at cs i).used ≡ q.first = ends i last in
    elim (cases_lt r.num (q.first + room (at cs i))) [
      | inl l ↦ in_front (set cs i (with_more (at cs i) (room (at cs i)))) (new_cluster cs q.session (q.first + room (at cs i)) (q.count - room (at cs i))) r
          (in_set cs i (with_more (at cs i) (room (at cs i))) r last.there (last.own ∙ own) (omega (arith, end, from)) (omega (arith, end, l)))
      | inr g ↦ in_last (set cs i (with_more (at cs i) (room (at cs i)))) (new_cluster cs q.session (q.first + room (at cs i)) (q.count - room (at cs i))) r own g (omega (arith, before, past))
    ])

-- every id that some ranges carry has a number
abbrev pub AreCovered : List IdRange → List Cluster → Type 0
AreCovered before cs = (r : Rev) → 1 ≤ r.num → r.num ≤ carried_count r.session before → HasNumber cs r

covered_more : (before : List IdRange) (q : IdRange) (cs : List Cluster) → AreMadeBy before cs → q.first ≡ carried_count q.session before + 1 → AreCovered before cs → AreCovered (before ++ q ∷ []) (with_range q cs)
covered_more before q cs made next covered r some few = elim (cases_lt (carried_count r.session before) r.num) [
  | inr old ↦ let h : HasNumber cs r = covered r some old in (h.0, stays q cs r h.0 h.1)
  | inl new ↦ elim (cases_eq q.session r.session) [
    | inl own ↦
        let more : carried_count r.session (before ++ q ∷ []) ≡ carried_count r.session before + q.count = carried_own r.session before q own in
        let of_q : carried_count q.session before ≡ carried_count r.session before = ap (λ (t : ℕ). carried_count t before) own in
        range_covers q cs r (ends_at before q cs made next) made.apart own (omega (arith, next, of_q, new)) (omega (arith, next, of_q, few, more))
    | inr other ↦ let same : carried_count r.session (before ++ q ∷ []) ≡ carried_count r.session before = carried_other r.session before q other in absurd (omega (arith, same, few, new))
  ]
]

covered_by_all : (before rs : List IdRange) (cs : List Cluster) → AreMadeBy before cs → GoOn before rs → AreCovered before cs → AreCovered (before ++ rs) (after cs rs)
covered_by_all before [] cs made on covered = rw (append-nil before) covered
covered_by_all before (q ∷ qs) cs made on covered =
    let all : AreCovered ((before ++ q ∷ []) ++ qs) (after (with_range q cs) qs) =
    covered_by_all (before ++ q ∷ []) qs (with_range q cs) (made_more before q cs made on.0 on.1) on.2 (covered_more before q cs made on.1 covered) in
    rw append_assoc at all

pub law_covered : (rs : List IdRange) → AreInTurn rs → (r : Rev) → 1 ≤ r.num → r.num ≤ carried_count r.session rs → (n : ℕ) × IsFinal (table_of rs) r n
law_covered rs turn r some few =
    let none : AreCovered [] [] = λ s one low. absurd (omega (arith, one, low)) in
    let h : HasNumber (table_of rs) r = covered_by_all [] rs [] none_made turn none r some few in
    (h.0, inr h.1)

pub law_only : (rs : List IdRange) → AreInTurn rs → (r : Rev) (n : ℕ) → IsFinal (table_of rs) r n → (r ≡ opening) ⊎ ((1 ≤ r.num) × (r.num ≤ carried_count r.session rs))
law_only rs turn r n (inl h) = inl h.0
law_only rs turn r n (inr h) =
    let made : AreMadeBy rs (table_of rs) = log_made rs turn in
    let begins : 1 ≤ (at (table_of rs) h.place).first = made.apart.ids_begin h.place h.there in
    inr (omega (arith, begins, h.within.from), in_carried rs (table_of rs) r n made h)
