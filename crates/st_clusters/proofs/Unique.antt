-- One id, one number.
use Rattle.std.proofs.Common.{◌≡◌, ◌⊎◌, inl, inr, ◌<◌, ◌≤◌, ◌+◌, ◌-◌, ◌*◌, ◌^◌, ℕ, true, false, List, length, sym, subst, ap, ◌∙◌, arith, Option, Some, None, MatchOption}
use Rattle.std.proofs.lemmas.Bool.{cases_eq, cases_lt}
use Rattle.std.proofs.lemmas.Bool.Decides.{nat_tests}
use Rattle.std.proofs.lemmas.Option.{slice_get-get_or}
use Rattle.std.specs.Prelude.{slice_get, ◌==◌, IfSome}
use Rattle.st_ids.specs.declared.names.Rev.{Rev}
use Rattle.st_clusters.specs.Table.{at, no_session, next_free, session_of}
use Rattle.st_clusters.specs.Names.{IsInTable, IsFinal, IsFinalBefore, is_later}
use Rattle.st_ids.specs.Root.{opening}
use Rattle.st_clusters.specs.inside.Kept.{AreApart, IsSound, AreCounts, session_at}
use Rattle.st_clusters.specs.declared.ids.Cluster.{Cluster}
use Rattle.st_clusters.specs.declared.ids.IdRange.{IdRange}
use Rattle.st_clusters.specs.declared.ids.SessionIds.{SessionIds}
use Rattle.st_clusters.proofs.Ranges.{free_above}
use Rattle.st_clusters.proofs.Finalising.{numbers_fit}

-- the places of two clusters that have one number, or one id
same_number : (cs : List Cluster) (r s : Rev) (n : ℕ) → AreApart cs → (h : IsInTable cs r n) (k : IsInTable cs s n) → h.place < k.place → ⊥
same_number cs r s n apart h k less =
    let ends : (at cs h.place).first_final + (at cs h.place).capacity ≤ (at cs k.place).first_final = apart.numbers h.place k.place less k.there in
    let inside : (at cs h.place).used ≤ (at cs h.place).capacity = apart.fits h.place h.there in
    omega (arith, ends, inside, h.within.number, h.within.before, h.within.from, k.within.number)

same_id : (cs : List Cluster) (r : Rev) (m n : ℕ) → AreApart cs → (h : IsInTable cs r m) (k : IsInTable cs r n) → h.place < k.place → ⊥
same_id cs r m n apart h k less =
    let ends : (at cs h.place).first + (at cs h.place).used ≤ (at cs k.place).first = apart.ids h.place k.place less k.there (h.within.own ∙ sym k.within.own) in
    omega (arith, ends, h.within.before, k.within.from)

one_place : (a b : ℕ) → (a < b → ⊥) → (b < a → ⊥) → a ≡ b
one_place a b below above = elim (cases_eq a b) [
  | inl e ↦ e
  | inr ne ↦ elim (cases_lt a b) [ inl l ↦ absurd (below l) | inr g ↦ absurd (above (omega (arith, g, ne))) ]
]

abbrev rev_of : ℕ → ℕ → Rev
rev_of session num = record { session = session; num = num }

pub rev_is : (r s : Rev) → r.session ≡ s.session → r.num ≡ s.num → r ≡ s
rev_is r s a b =
    let num : rev_of r.session r.num ≡ rev_of r.session s.num = ap (λ (n : ℕ). rev_of r.session n) b in
    let session : rev_of r.session s.num ≡ rev_of s.session s.num = ap (λ (n : ℕ). rev_of n s.num) a in
    num ∙ session

pub one_id : (cs : List Cluster) (r s : Rev) (n : ℕ) → AreApart cs → IsInTable cs r n → IsInTable cs s n → r ≡ s
one_id cs r s n apart h k =
    let e : h.place ≡ k.place = one_place h.place k.place (same_number cs r s n apart h k) (same_number cs s r n apart k h) in
    let first : (at cs h.place).first ≡ (at cs k.place).first = ap (λ (i : ℕ). (at cs i).first) e in
    let final : (at cs h.place).first_final ≡ (at cs k.place).first_final = ap (λ (i : ℕ). (at cs i).first_final) e in
    rev_is r s (sym h.within.own ∙ ap (λ (i : ℕ). (at cs i).session) e ∙ k.within.own)
    (omega (arith, first, final, h.within.number, k.within.number, h.within.from, k.within.from))

pub one_number : (cs : List Cluster) (r : Rev) (m n : ℕ) → AreApart cs → IsInTable cs r m → IsInTable cs r n → m ≡ n
one_number cs r m n apart h k =
    let e : h.place ≡ k.place = one_place h.place k.place (same_id cs r m n apart h k) (same_id cs r n m apart k h) in
    let first : (at cs h.place).first ≡ (at cs k.place).first = ap (λ (i : ℕ). (at cs i).first) e in
    let final : (at cs h.place).first_final ≡ (at cs k.place).first_final = ap (λ (i : ℕ). (at cs i).first_final) e in
    omega (arith, first, final, h.within.number, k.within.number)

-- numbers of the table are neither 0 nor past i64
pub number_some : (cs : List Cluster) (r : Rev) (n : ℕ) → AreApart cs → IsInTable cs r n → 1 ≤ n
number_some cs r n apart h = let b : 1 ≤ (at cs h.place).first_final = apart.numbers_begin h.place h.there in omega (arith, b, h.within.number)

pub number_fits : (ss : List SessionIds) (cs : List Cluster) (ps : List (List ℕ)) (r : Rev) (n : ℕ) → IsSound ss cs ps → IsInTable cs r n → n < 2 ^ 63
number_fits ss cs ps r n sound h =
    let above : (at cs h.place).first_final + (at cs h.place).capacity ≤ next_free cs = free_above cs sound.apart h.place h.there in
    let inside : (at cs h.place).used ≤ (at cs h.place).capacity = sound.apart.fits h.place h.there in
    let low : next_free cs + 512 * 0 < 2 ^ 63 = numbers_fit ss cs ps 0 sound (omega arith) in
    omega (arith, above, inside, low, h.within.number, h.within.before, h.within.from)

pub no_final : (ss : List SessionIds) (cs : List Cluster) (ps : List (List ℕ)) (r : Rev) → IsSound ss cs ps → session_of ss r.session ≡ None → (n : ℕ) → ¬ IsInTable cs r n
no_final ss cs ps r sound none n h =
    let o : (1 ≤ (at cs h.place).session) × ((at cs h.place).session ≤ length ss) = sound.owned h.place h.there in
    let own : (at cs h.place).session ≡ r.session = h.within.own in
    let some : (r.session == 0) ≡ false = grind (arith, nat_tests, o.0, own) in
    let got : slice_get ss (r.session - 1) ≡ Some (session_at ss (r.session - 1)) = slice_get-get_or ss (r.session - 1) no_session (omega (arith, o.0, o.1, own)) in
    let absent : slice_get ss (r.session - 1) ≡ None = rw some at none in
    cc (got, absent)

pub ids_fit : (ss : List SessionIds) (cs : List Cluster) (ps : List (List ℕ)) → IsSound ss cs ps → (i : ℕ) → i < length cs → (at cs i).first + (at cs i).used < 2 ^ 32
ids_fit ss cs ps sound i h =
    let o : (1 ≤ (at cs i).session) × ((at cs i).session ≤ length ss) = sound.owned i h in
    let end : (at cs i).first + (at cs i).used ≤ (session_at ss ((at cs i).session - 1)).finalised + 1 = sound.finalised i h in
    let c : AreCounts (session_at ss ((at cs i).session - 1)) = sound.counts ((at cs i).session - 1) (omega (arith, o.0, o.1)) in
    omega (arith, end, c.final_taken, c.taken_made, c.made)

-- ## With later ranges

pub not_before : (cs : List Cluster) (later : List IdRange) (r : Rev) → (r ≡ opening → ⊥) → is_later later r ≡ true → (n : ℕ) → ¬ IsFinalBefore cs later r n
not_before cs later r other test n (inl h) = other h.0
not_before cs later r other test n (inr h) = cc (test, h.1)

not_final_before : (cs : List Cluster) (later : List IdRange) (r : Rev) → (r ≡ opening → ⊥) → ((n : ℕ) → ¬ IsInTable cs r n) → (n : ℕ) → IsFinalBefore cs later r n → ⊥
not_final_before cs later r other none n (inl h) = other h.0
not_final_before cs later r other none n (inr h) = none n h.0

pub final_before : (cs : List Cluster) (later : List IdRange) (r : Rev) (o : Option ℕ) → (r ≡ opening → ⊥) → is_later later r ≡ false → MatchOption o ((n : ℕ) → ¬ IsInTable cs r n) (λ n. IsInTable cs r n)
    → MatchOption o ((n : ℕ) → ¬ IsFinalBefore cs later r n) (λ n. IsFinalBefore cs later r n)
final_before cs later r None other test h = λ n k. not_final_before cs later r other h n k
final_before cs later r (Some n) other test h = inr (h, test)

-- the other way round
pub id_of_later : (cs : List Cluster) (later : List IdRange) (r : Rev) (n : ℕ) → AreApart cs → 1 ≤ n → IsInTable cs r n → is_later later r ≡ true → (s : Rev) → ¬ IsFinalBefore cs later s n
id_of_later cs later r n apart some h test s (inl k) = omega (arith, some, k.1)
id_of_later cs later r n apart some h test s (inr k) =
    let e : r ≡ s = one_id cs r s n apart h k.0 in
    let there : is_later later s ≡ true = subst (λ (x : Rev). is_later later x ≡ true) e test in
    cc (there, k.1)

pub no_id_before : (cs : List Cluster) (later : List IdRange) (n : ℕ) → 1 ≤ n → ((r : Rev) → ¬ IsInTable cs r n) → (r : Rev) → ¬ IsFinalBefore cs later r n
no_id_before cs later n some none r (inl k) = omega (arith, some, k.1)
no_id_before cs later n some none r (inr k) = none r k.0

pub final_bound : (ss : List SessionIds) (cs : List Cluster) (ps : List (List ℕ)) (r : Rev) (o : Option ℕ) → IsSound ss cs ps → MatchOption o ((n : ℕ) → ¬ IsInTable cs r n) (λ n. IsInTable cs r n) → IfSome o (λ n. (1 ≤ n) × (n < 2 ^ 63))
final_bound ss cs ps r None sound h = tt
final_bound ss cs ps r (Some n) sound h = (number_some cs r n sound.apart h, number_fits ss cs ps r n sound h)

pub not_opening : (r : Rev) → ((r.session ≡ 0) × (r.num ≡ 0 → ⊥)) ⊎ (r.session ≡ 0 → ⊥) → r ≡ opening → ⊥
not_opening r (inl h) e = h.1 (ap (λ (x : Rev). x.num) e)
not_opening r (inr h) e = h (ap (λ (x : Rev). x.session) e)

-- ## Op-space numbers

no_opening : (cs : List Cluster) (r : Rev) (n : ℕ) → ((i : ℕ) → i < length cs → 1 ≤ (at cs i).session) → r ≡ opening → IsInTable cs r n → ⊥
no_opening cs r n owned e h =
    let b : 1 ≤ (at cs h.place).session = owned h.place h.there in
    let zero_session : r.session ≡ 0 = ap (λ (x : Rev). x.session) e in
    omega (arith, b, h.within.own, zero_session)

pub one_before : (cs : List Cluster) (later : List IdRange) (r : Rev) (m n : ℕ) → AreApart cs → ((i : ℕ) → i < length cs → 1 ≤ (at cs i).session) → IsFinalBefore cs later r m → IsFinalBefore cs later r n → m ≡ n
one_before cs later r m n apart owned (inl h) (inl k) = h.1 ∙ sym k.1
one_before cs later r m n apart owned (inr h) (inr k) = one_number cs r m n apart h.0 k.0
one_before cs later r m n apart owned (inl h) (inr k) = absurd (no_opening cs r n owned h.0 k.0)
one_before cs later r m n apart owned (inr h) (inl k) = absurd (no_opening cs r m owned k.0 h.0)

pub one_id_before : (cs : List Cluster) (later : List IdRange) (r s : Rev) (n : ℕ) → AreApart cs → IsFinalBefore cs later r n → IsFinalBefore cs later s n → r ≡ s
one_id_before cs later r s n apart (inl h) (inl k) = h.0 ∙ sym k.0
one_id_before cs later r s n apart (inr h) (inr k) = one_id cs r s n apart h.0 k.0
one_id_before cs later r s n apart (inl h) (inr k) = let b : 1 ≤ n = number_some cs s n apart k.0 in absurd (omega (arith, b, h.1))
one_id_before cs later r s n apart (inr h) (inl k) = let b : 1 ≤ n = number_some cs r n apart h.0 in absurd (omega (arith, b, k.1))

pub one_final : (cs : List Cluster) (r s : Rev) (n : ℕ) → AreApart cs → IsFinal cs r n → IsFinal cs s n → r ≡ s
one_final cs r s n apart (inl h) (inl k) = h.0 ∙ sym k.0
one_final cs r s n apart (inr h) (inr k) = one_id cs r s n apart h k
one_final cs r s n apart (inl h) (inr k) = let b : 1 ≤ n = number_some cs s n apart k in absurd (omega (arith, b, h.1))
one_final cs r s n apart (inr h) (inl k) = let b : 1 ≤ n = number_some cs r n apart h in absurd (omega (arith, b, k.1))
