-- A session that joins.
use Rattle.std.proofs.Common.{◌≡◌, inl, inr, ◌<◌, ◌≤◌, ◌+◌, ◌-◌, ◌^◌, ℕ, true, false, Bool, cond, List, [], ◌∷◌, ◌++◌, length, get_or, refl, sym, subst, ap, ◌∙◌, arith}
use Rattle.std.proofs.lemmas.List.{get_or_append_left, get_or_push, length_push}
use Rattle.std.proofs.lemmas.List.Sums.{sum_by_push, fails_before_first}
use Rattle.std.proofs.lemmas.Bool.{cases_eq, cases_lt}
use Rattle.std.proofs.lemmas.Bool.Decides.{nat_tests}
use Rattle.std.specs.Prelude.{Some, None, nat_lt}
use Rattle.std.specs.Option.{option_map}
use Rattle.std.specs.List.{position_or_len}
use Rattle.st_clusters.specs.Free.{is_v4, free_number, spans_meet}
use Rattle.st_clusters.specs.Table.{at, no_session, places_of, clash, new_session}
use Rattle.st_clusters.specs.inside.Kept.{session_at, IsSound, AreCounts, finals}
use Rattle.st_clusters.specs.declared.ids.Cluster.{Cluster}
use Rattle.st_clusters.specs.declared.ids.SessionIds.{SessionIds}
use Rattle.st_clusters.proofs.Clusters.{places_are}

-- a session after one is put behind the others
session_push : (Q : ℕ → SessionIds → Type 0) (ss : List SessionIds) (x : SessionIds) (j : ℕ) → j < length (ss ++ x ∷ []) → Q (length ss) x → (j < length ss → Q j (session_at ss j)) → Q j (session_at (ss ++ x ∷ []) j)
session_push Q ss x j within here there = elim (cases_eq j (length ss)) [
  | inl e ↦ subst (λ (k : ℕ). Q k (session_at (ss ++ x ∷ []) k)) (sym e) (subst (Q (length ss)) (sym (get_or_push ss x no_session (length ss) refl)) here)
  | inr ne ↦ let long : length (ss ++ x ∷ []) ≡ length ss + 1 = length_push ss x in
      let less : j < length ss = omega (arith, within, long, ne) in
      subst (Q j) (sym (get_or_append_left ss (x ∷ []) no_session j less)) (there less)
]

-- no cluster is the session's, so it has no places
none_of : (ps : List ℕ) → ((k : ℕ) → k < length ps → ⊥) → [] ≡ ps
none_of [] without = refl
none_of (p ∷ ps) without = absurd (without 0 (omega arith))

no_places : (n : ℕ) (cs : List Cluster) → ((i : ℕ) → i < length cs → (1 ≤ (at cs i).session) × ((at cs i).session ≤ n)) → [] ≡ places_of (n + 1) cs
no_places n cs owned = none_of (places_of (n + 1) cs) (λ k h.
    let p : (0 ≤ get_or (places_of (n + 1) cs) k 0) × (get_or (places_of (n + 1) cs) k 0 < 0 + length cs) × ((at cs (get_or (places_of (n + 1) cs) k 0 - 0)).session ≡ n + 1) = places_are (n + 1) 0 cs k h in
    let low : get_or (places_of (n + 1) cs) k 0 - 0 < length cs = omega (arith, p.1) in
    let few : (at cs (get_or (places_of (n + 1) cs) k 0 - 0)).session ≤ n = (owned (get_or (places_of (n + 1) cs) k 0 - 0) low).1 in
    omega (arith, p.2, few))

-- none meets
found_none : (b : Bool) (i : ℕ) → option_map (λ (i : ℕ). i + 1) (cond b (Some i) None) ≡ None → b ≡ false
found_none true i e = cc
found_none false i e = refl

none_meets : (uuid : ℕ) (ss : List SessionIds) (k : ℕ) → clash uuid ss ≡ None → k < length ss → spans_meet (free_number (session_at ss k).uuid) (free_number uuid) ≡ false
none_meets uuid ss k e h =
    let test : nat_lt (position_or_len (λ (x : SessionIds). spans_meet (free_number x.uuid) (free_number uuid)) ss) (length ss) ≡ false = found_none _ _ e in
    let past : length ss ≤ position_or_len (λ (x : SessionIds). spans_meet (free_number x.uuid) (free_number uuid)) ss = grind (arith, nat_tests, test) in
    fails_before_first (λ (x : SessionIds). spans_meet (free_number x.uuid) (free_number uuid)) ss k no_session (omega (arith, past, h))

pub sound_joined : (ss after : List SessionIds) (cs : List Cluster) (ps qs : List (List ℕ)) (uuid : ℕ) → IsSound ss cs ps → length ss < 65535 → uuid < 2 ^ 128 → is_v4 uuid ≡ true → clash uuid ss ≡ None
    → after ≡ ss ++ new_session uuid ∷ [] → qs ≡ ps ++ [] ∷ [] → IsSound after cs qs
sound_joined ss after cs ps qs uuid sound few wide v4 apart joined listed =
    let long : length (ss ++ new_session uuid ∷ []) ≡ length ss + 1 = length_push ss (new_session uuid) in
    let lists : length (ps ++ [] ∷ []) ≡ length ps + 1 = length_push ps [] in
    let total : finals (ss ++ new_session uuid ∷ []) ≡ finals ss + 0 = sum_by_push (λ (x : SessionIds). x.finalised) ss (new_session uuid) in
    rw (joined, listed) (record {
      apart = sound.apart;
      counts = λ j h. session_push (λ k x. AreCounts x) ss (new_session uuid) j h (record { final_taken = omega arith; taken_made = omega arith; made = omega arith }) (sound.counts j);
      few = omega (arith, long, few);
      bound = omega (arith, sound.bound, total);
      owned = λ i h. ((sound.owned i h).0, omega (arith, long, (sound.owned i h).1));
      finalised = λ i h. let o : (1 ≤ (at cs i).session) × ((at cs i).session ≤ length ss) = sound.owned i h in
          rw (get_or_append_left ss (new_session uuid ∷ []) no_session ((at cs i).session - 1) (omega (arith, o.0, o.1))) (sound.finalised i h);
      each = lists ∙ ap (λ (n : ℕ). n + 1) sound.each ∙ sym long;
      places = λ j h. elim (cases_lt j (length ss)) [
        | inl l ↦ get_or_append_left ps ([] ∷ []) [] j (omega (arith, l, sound.each)) ∙ sound.places j l
        | inr g ↦ let end : j ≡ length ss = omega (arith, g, h, long) in
            get_or_push ps [] [] j (omega (arith, end, sound.each)) ∙ no_places (length ss) cs sound.owned ∙ ap (λ (n : ℕ). places_of (n + 1) cs) (sym end)
      ];
      wide = λ j h. session_push (λ k x. x.uuid < 2 ^ 128) ss (new_session uuid) j h wide (sound.wide j);
      v4 = λ j h. session_push (λ k x. is_v4 x.uuid ≡ true) ss (new_session uuid) j h v4 (sound.v4 j);
      spans = λ i j l h. let front : i < length ss = omega (arith, l, h, long) in
          rw (get_or_append_left ss (new_session uuid ∷ []) no_session i front)
          (session_push (λ k x. i < k → spans_meet (free_number (session_at ss i).uuid) (free_number x.uuid) ≡ false) ss (new_session uuid) j h
          (λ m. none_meets uuid ss i apart front) (λ g m. sound.spans i j m g) l);
    })
