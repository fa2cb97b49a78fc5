-- A table in which sessions join, and ids are generated and taken, between the ranges.
use Rattle.std.proofs.Common.{◌≡◌, ◌≢◌, ◌⊎◌, inl, inr, ◌<◌, ◌≤◌, ◌+◌, ◌-◌, ℕ, List, [], ◌∷◌, ◌++◌, length, set, refl, sym, subst, ap, ◌∙◌, arith, length-set, Some}
use Rattle.std.proofs.lemmas.List.{get_or-set_same, get_or-set_other, get_or_append_left, get_or_push, length_push, append_assoc, append-nil}
use Rattle.std.proofs.lemmas.Bool.{cases_eq, cases_lt}
use Rattle.std.specs.Prelude.{Ok}
use Rattle.st_clusters.specs.Table.{Ids, no_session, session_of, raise_to, new_session, with_session, with_range, after_joining, after_finalising}
use Rattle.st_clusters.specs.Reached.{no_ids}
use Rattle.st_clusters.specs.Log.{carried_count, GoOn, IsTableOf}
use Rattle.st_clusters.specs.inside.Kept.{session_at}
use Rattle.st_clusters.specs.declared.ids.IdRange.{IdRange}
use Rattle.st_clusters.specs.declared.ids.SessionIds.{SessionIds}
use Rattle.st_clusters.proofs.Logs.{carried_other, table_then}
use Rattle.st_clusters.proofs.SessionsTouched.{IsTouched, with_joined, joined_is}
use Rattle.st_clusters.proofs.Stable.{session_known}
use Rattle.st_clusters.proofs.RangeTaken.{WasTaken, was_taken, known_session, carried_on}

none_known : (s : ℕ) (x : SessionIds) → session_of [] s ≡ Some x → x.finalised ≡ carried_count s []
none_known s x e = let k = session_known [] s x e in absurd (omega (arith, k.1))

pub table_begins : IsTableOf [] no_ids
table_begins = record { in_turn = tt; clusters = refl; finalised = none_known; later = λ s l. refl }

-- ## A session changes, but for what it has finalised

set_known : (ss : List SessionIds) (s : ℕ) (x y : SessionIds) (j : ℕ) (z : SessionIds) → session_of ss s ≡ Some x → session_of (set ss (s - 1) y) j ≡ Some z
    → ((s ≡ j) × (z ≡ y)) ⊎ (session_of ss j ≡ Some z)
set_known ss s x y j z known e =
    let of_s = session_known ss s x known in
    let of_j = session_known (set ss (s - 1) y) j z e in
    let long : length (set ss (s - 1) y) ≡ length ss = length-set ss (s - 1) y in
    elim (cases_eq (j - 1) (s - 1)) [
      | inl same ↦
          let own : s ≡ j = omega (arith, same, of_j.0, of_s.0) in
          let here : y ≡ z = sym (get_or-set_same ss (s - 1) y no_session of_s.1) ∙ ap (λ (k : ℕ). session_at (set ss (s - 1) y) k) (sym same) ∙ of_j.2 in
          inl (own, sym here)
      | inr other ↦
          let within : j - 1 < length ss = omega (arith, of_j.1, long) in
          let here : session_at ss (j - 1) ≡ z = sym (get_or-set_other ss (s - 1) (j - 1) y no_session other) ∙ of_j.2 in
          inr (known_session ss j (j - 1) of_j.0 within ∙ ap (λ (q : SessionIds). Some q) here)
    ]

stays : (rs : List IdRange) (t : Ids) (s : ℕ) (x y : SessionIds) → IsTableOf rs t → session_of t.sessions s ≡ Some x → y.finalised ≡ x.finalised → IsTableOf rs (with_session t s y)
stays rs t s x y is known same =
    let long : length (set t.sessions (s - 1) y) ≡ length t.sessions = length-set t.sessions (s - 1) y in
    record {
      in_turn = is.in_turn;
      clusters = is.clusters;
      finalised = λ j z e. elim (set_known t.sessions s x y j z known e) [
        | inl p ↦ ap (λ (q : SessionIds). q.finalised) p.1 ∙ same ∙ is.finalised s x known ∙ ap (λ (k : ℕ). carried_count k rs) p.0
        | inr old ↦ is.finalised j z old
      ];
      later = λ j l. is.later j (omega (arith, l, long));
    }

-- ids are generated, taken or given back
pub table_touched : (rs : List IdRange) (t v : Ids) → IsTableOf rs t → IsTouched t v → IsTableOf rs v
table_touched rs t v is h = subst (IsTableOf rs) h.made (stays rs t h.session h.before h.after is h.known h.finalised)

-- ## A session joins

joined_known : (rs : List IdRange) (u : ℕ) (t : Ids) → IsTableOf rs t → (s : ℕ) (x : SessionIds) → session_of (t.sessions ++ new_session u ∷ []) s ≡ Some x → x.finalised ≡ carried_count s rs
joined_known rs u t is s x e =
    let k = session_known (t.sessions ++ new_session u ∷ []) s x e in
    let long : length (t.sessions ++ new_session u ∷ []) ≡ length t.sessions + 1 = length_push t.sessions (new_session u) in
    elim (cases_lt (s - 1) (length t.sessions)) [
      | inl l ↦
          let here : session_at t.sessions (s - 1) ≡ x = sym (get_or_append_left t.sessions (new_session u ∷ []) no_session (s - 1) l) ∙ k.2 in
          is.finalised s x (known_session t.sessions s (s - 1) k.0 l ∙ ap (λ (q : SessionIds). Some q) here)
      | inr g ↦
          let end : s - 1 ≡ length t.sessions = omega (arith, g, k.1, long) in
          let here : new_session u ≡ x = sym (get_or_push t.sessions (new_session u) no_session (s - 1) (sym end)) ∙ k.2 in
          let past : length t.sessions < s = omega (arith, end, k.0) in
          let nothing : x.finalised ≡ 0 = ap (λ (q : SessionIds). q.finalised) (sym here) in
          nothing ∙ sym (is.later s past)
    ]

pub table_joins : (rs : List IdRange) (u n : ℕ) (t v : Ids) → IsTableOf rs t → after_joining u t ≡ Ok (n, v) → IsTableOf rs v
table_joins rs u n t v is e =
    let long : length (t.sessions ++ new_session u ∷ []) ≡ length t.sessions + 1 = length_push t.sessions (new_session u) in
    let joined : IsTableOf rs (with_joined u t) = record {
      in_turn = is.in_turn;
      clusters = is.clusters;
      finalised = joined_known rs u t is;
      later = λ s l. is.later s (omega (arith, l, long));
    } in
    subst (IsTableOf rs) (joined_is u t (n, v) e) joined

-- ## A range is finalised

goes_on : (before rs : List IdRange) (r : IdRange) → GoOn before rs → 1 ≤ r.session → r.first ≡ carried_count r.session (before ++ rs) + 1 → GoOn before (rs ++ r ∷ [])
goes_on before [] r on some first = (some, rw (append-nil before) at first, tt)
goes_on before (q ∷ rs) r on some first =
    let more : r.first ≡ carried_count r.session ((before ++ q ∷ []) ++ rs) + 1 = rw append_assoc first in
    (on.0, on.1, goes_on (before ++ q ∷ []) rs r on.2 some more)

pub table_finalises : (rs : List IdRange) (r : IdRange) (t v : Ids) → IsTableOf rs t → after_finalising r t ≡ Ok v → IsTableOf (rs ++ r ∷ []) v
table_finalises rs r t v is e =
    let took : WasTaken r t v = was_taken r t v e in
    let of_r = session_known t.sessions r.session took.ids took.known in
    let some : 1 ≤ r.session = omega (arith, of_r.0) in
    let next : r.first ≡ carried_count r.session rs + 1 = took.next ∙ ap (λ (n : ℕ). n + 1) (is.finalised r.session took.ids took.known) in
    let long : length v.sessions ≡ length t.sessions = ap length took.sessions ∙ length-set t.sessions (r.session - 1) (raise_to took.ids (took.ids.finalised + r.count)) in
    record {
      in_turn = goes_on [] rs r is.in_turn some next;
      clusters = took.clusters ∙ ap (λ cs. with_range r cs) is.clusters ∙ sym (table_then rs (r ∷ []));
      finalised = carried_on rs r t v is.finalised took;
      later = λ s l.
          let past : length t.sessions < s = omega (arith, l, long) in
          let apart : r.session ≢ s = λ own. absurd (omega (arith, own, past, of_r.0, of_r.1)) in
          carried_other s rs r apart ∙ is.later s past;
    }

pub one_table : (rs : List IdRange) (t v : Ids) → IsTableOf rs t → IsTableOf rs v → t.clusters ≡ v.clusters
one_table rs t v a b = a.clusters ∙ sym b.clusters
