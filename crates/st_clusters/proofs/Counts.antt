-- A session whose counts change.
use Rattle.std.proofs.Common.{◌≡◌, inl, inr, ◌<◌, ◌≤◌, ◌+◌, ◌-◌, ℕ, true, false, List, length, get_or, set, refl, sym, subst, ap, ◌∙◌, arith, length-set}
use Rattle.std.proofs.lemmas.List.{get_or-set_same, get_or-set_other, get_or_read}
use Rattle.std.proofs.lemmas.List.Sums.{sum_by-set}
use Rattle.std.proofs.lemmas.Bool.{cases_eq}
use Rattle.std.proofs.lemmas.Bool.Decides.{nat_tests}
use Rattle.st_clusters.specs.Table.{Ids, at, no_session, most_ids, session_of, after_generating, after_taking, after_rewinding}
use Rattle.st_clusters.specs.declared.ids.IdFault.TheVariants.{Full}
use Rattle.std.proofs.lemmas.Option.{slice_get-get_or}
use Rattle.std.specs.Prelude.{Some, Ok, Err, nat_lt, ◌==◌}
use Rattle.st_clusters.specs.inside.Kept.{session_at, IsSound, AreCounts, finals}
use Rattle.st_clusters.specs.declared.ids.Cluster.{Cluster}
use Rattle.st_clusters.specs.declared.ids.SessionIds.{SessionIds}

-- what a session has after one is set
pub field_set : {B : Type 0} (f : SessionIds → B) (ss : List SessionIds) (k : ℕ) (x : SessionIds) (j : ℕ) → k < length ss → f x ≡ f (session_at ss k) → f (session_at (set ss k x) j) ≡ f (session_at ss j)
field_set f ss k x j within same = elim (cases_eq j k) [
  | inl e ↦ subst (λ (i : ℕ). f (session_at (set ss k x) i) ≡ f (session_at ss i)) (sym e) (ap f (get_or-set_same ss k x no_session within) ∙ same)
  | inr ne ↦ ap f (get_or-set_other ss k j x no_session ne)
]

-- the counts of the sessions after one is set
pub counts_at : (ss : List SessionIds) (k : ℕ) (x : SessionIds) (j : ℕ) → k < length ss → AreCounts x → AreCounts (session_at ss j) → AreCounts (session_at (set ss k x) j)
counts_at ss k x j within here there = elim (cases_eq j k) [
  | inl e ↦ subst (λ (i : ℕ). AreCounts (session_at (set ss k x) i)) (sym e) (subst AreCounts (sym (get_or-set_same ss k x no_session within)) here)
  | inr ne ↦ subst AreCounts (sym (get_or-set_other ss k j x no_session ne)) there
]

pub read_at : (ss : List SessionIds) (k : ℕ) (x : SessionIds) → k < length ss → x ≡ get_or ss k x → session_at ss k ≡ x
read_at ss k x within is = sym (get_or_read ss k x within is no_session)

-- a session that gets other counts, of which none is finalised
pub recounted : (ss : List SessionIds) (cs : List Cluster) (ps : List (List ℕ)) (k : ℕ) (x y : SessionIds) → IsSound ss cs ps → k < length ss → x ≡ get_or ss k x → y.uuid ≡ x.uuid → y.finalised ≡ x.finalised → (AreCounts x → AreCounts y) → IsSound (set ss k y) cs ps
recounted ss cs ps k x y sound within is uuid final counts =
    let here : session_at ss k ≡ x = read_at ss k x within is in
    let same_final : (j : ℕ) → (session_at (set ss k y) j).finalised ≡ (session_at ss j).finalised = λ j. field_set (λ z. z.finalised) ss k y j within (final ∙ sym (ap (λ (z : SessionIds). z.finalised) here)) in
    let same_uuid : (j : ℕ) → (session_at (set ss k y) j).uuid ≡ (session_at ss j).uuid = λ j. field_set (λ z. z.uuid) ss k y j within (uuid ∙ sym (ap (λ (z : SessionIds). z.uuid) here)) in
    let long : length (set ss k y) ≡ length ss = length-set ss k y in
    let total : finals (set ss k y) + (session_at ss k).finalised ≡ finals ss + y.finalised = sum_by-set (λ z. z.finalised) ss k y no_session within in
    let final_here : (session_at ss k).finalised ≡ y.finalised = ap (λ (z : SessionIds). z.finalised) here ∙ sym final in
    let same_total : finals (set ss k y) ≡ finals ss = omega (arith, total, final_here) in
    record {
      apart = sound.apart;
      counts = λ j h. counts_at ss k y j within (counts (subst AreCounts here (sound.counts k within))) (sound.counts j (omega (arith, long, h)));
      few = rw long sound.few;
      bound = omega (arith, sound.bound, same_total);
      owned = λ i h. rw long (sound.owned i h);
      finalised = λ i h. rw (same_final ((at cs i).session - 1)) (sound.finalised i h);
      each = sound.each ∙ sym long;
      places = λ j h. sound.places j (omega (arith, long, h));
      wide = λ j h. rw (same_uuid j) (sound.wide j (omega (arith, long, h)));
      v4 = λ j h. rw (same_uuid j) (sound.v4 j (omega (arith, long, h)));
      spans = λ i j l h. rw (same_uuid i, same_uuid j) (sound.spans i j l (omega (arith, long, h)));
    }

-- the session of a number
pub is_there : (ss : List SessionIds) (s k : ℕ) (x : SessionIds) → s ≡ k + 1 → k < length ss → x ≡ get_or ss k x → session_of ss s ≡ Some x
is_there ss s k x number within is =
    let back : s - 1 ≡ k = omega (arith, number) in
    let some : (s == 0) ≡ false = grind (arith, nat_tests, number) in
    rw (some, back) (slice_get-get_or ss k x within ∙ ap (λ (y : SessionIds). Some y) (sym is))

pub generating : (t : Ids) (s k : ℕ) (x : SessionIds) → s ≡ k + 1 → k < length t.sessions → x ≡ get_or t.sessions k x → x.generated < most_ids
    → after_generating s t ≡ Ok (x.generated + 1, record t { sessions = set t.sessions k (record x { generated = x.generated + 1 }) })
generating t s k x number within is less =
    let back : s - 1 ≡ k = omega (arith, number) in
    let under : nat_lt x.generated most_ids ≡ true = grind (arith, nat_tests, less) in
    rw (is_there t.sessions s k x number within is, under, back) refl

pub full : (t : Ids) (s k : ℕ) (x : SessionIds) → s ≡ k + 1 → k < length t.sessions → x ≡ get_or t.sessions k x → most_ids ≤ x.generated → after_generating s t ≡ Err Full
full t s k x number within is more =
    let under : nat_lt x.generated most_ids ≡ false = grind (arith, nat_tests, more) in
    rw (is_there t.sessions s k x number within is, under) refl

pub taking : (t : Ids) (s k : ℕ) (x : SessionIds) → s ≡ k + 1 → k < length t.sessions → x ≡ get_or t.sessions k x
    → after_taking s t ≡ Ok (record { session = s; first = x.taken + 1; count = x.generated - x.taken }, record t { sessions = set t.sessions k (record x { taken = x.generated }) })
taking t s k x number within is =
    let back : s - 1 ≡ k = omega (arith, number) in
    rw (is_there t.sessions s k x number within is, back) refl

pub rewinding : (t : Ids) (s k : ℕ) (x : SessionIds) → s ≡ k + 1 → k < length t.sessions → x ≡ get_or t.sessions k x
    → after_rewinding s t ≡ Ok (record t { sessions = set t.sessions k (record x { taken = x.finalised }) })
rewinding t s k x number within is =
    let back : s - 1 ≡ k = omega (arith, number) in
    rw (is_there t.sessions s k x number within is, back) refl
