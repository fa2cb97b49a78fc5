-- What a log's next entry adds to the ranges that were read.
use Rattle.std.proofs.Common.{◌≡◌, ◌<◌, ◌≤◌, ◌+◌, ◌-◌, ◌^◌, ◌==◌, ◌&&◌, ℕ, true, false, cond, nat_le, List, [], ◌∷◌, ◌++◌, length, take, drop, Option, Some, None, Ok, inl, refl, sym, ap, ◌∙◌, subst, arith, append_assoc, append-nil}
use Rattle.std.proofs.lemmas.Bool.Decides.{nat_tests}
use Rattle.std.specs.List.{cons_option, slice_get}
use Rattle.std.proofs.lemmas.List.{take-append-drop}
use Rattle.std.proofs.lemmas.List.Elements.{filter_map-append}
use Rattle.std.proofs.lemmas.Option.{slice_get_within}
use Rattle.st_clusters.specs.Ids.{ids_of}
use Rattle.st_clusters.specs.Log.{GoOn, IsTableOf, carried_count}
use Rattle.st_clusters.specs.Table.{Ids, after_finalising, is_next, most_ids, session_of}
use Rattle.st_clusters.specs.declared.ids.IdRange.{IdRange}
use Rattle.st_clusters.specs.declared.ids.SessionIds.{SessionIds}
use Rattle.st_clusters.proofs.Logs.{carried_own, front_in_turn}
use Rattle.st_clusters.proofs.TableOfRanges.{table_finalises}
use Rattle.st_lists.specs.Log.{range_of, ranges_in}
use Rattle.st_lists.specs.declared.lists.Entry.{Entry}
use Rattle.st_lists.proofs.Logs.{take-get}
use Rattle.st_lists.proofs.Texts.{carried_append}
use Rattle.st_marks.proofs.Members.{append_left, append_right}
use Rattle.st_entry_texts.specs.Numbered.{AreStandIns, HasFewIds, IsNumberedTo, IsRangeAt}
use Rattle.st_entry_texts.specs.declared.numbers.Numbers.{Numbers}
use Rattle.st_entry_texts.proofs.StandIns.{finalised, there}

-- the next entry carries no range
pub read_bare : (log : List Entry) (i : ℕ) (e : Entry) → slice_get log i ≡ Some e → range_of e ≡ None → ranges_in (take (i + 1) log) ≡ ranges_in (take i log)
read_bare log i e at none = ap ranges_in (take-get log i e at) ∙ filter_map-append range_of (take i log) (e ∷ []) ∙ ap (λ o. ranges_in (take i log) ++ cons_option o []) none ∙ append-nil (ranges_in (take i log))

module _ (log : List Entry) (i : ℕ) (r : IdRange) (at : IsRangeAt log i r) (few : HasFewIds log) where
  abbrev before : List IdRange
  before = ranges_in (take i log)

  abbrev rest : List IdRange
  rest = ranges_in (drop (i + 1) log)

  pub more : ranges_in (take (i + 1) log) ≡ before ++ r ∷ []
  more = ap ranges_in (take-get log i at.entry at.there) ∙ filter_map-append range_of (take i log) (at.entry ∷ []) ∙ ap (λ o. before ++ cons_option o []) at.carries

  whole : ranges_in log ≡ (before ++ r ∷ []) ++ rest
  whole = ap ranges_in (sym (take-append-drop (i + 1) log)) ∙ filter_map-append range_of (take (i + 1) log) (drop (i + 1) log) ∙ ap (λ l. l ++ rest) more

  turn : GoOn before (r ∷ [])
  turn = (front_in_turn [] before (r ∷ []) (front_in_turn [] (before ++ r ∷ []) rest (subst (GoOn []) whole few.turn)).0).1

  pub counted : 1 ≤ r.session
  counted = turn.0

  pub within : i < length log
  within = slice_get_within log i at.entry at.there

  pub known : r.session ≤ 65535
  known = few.sessions r (subst (λ l. Rattle.st_ids.specs.Listing.Has l r) (sym whole) (append_left (before ++ r ∷ []) rest r (append_right before (r ∷ []) r (inl refl))))

  carried : carried_count r.session before + r.count ≤ most_ids
  carried =
      let own : carried_count r.session (before ++ r ∷ []) ≡ carried_count r.session before + r.count = carried_own r.session before r refl in
      let all : carried_count r.session (ranges_in log) ≡ carried_count r.session (before ++ r ∷ []) + carried_count r.session rest = ap (carried_count r.session) whole ∙ carried_append r.session (before ++ r ∷ []) rest in
      omega (arith, own, all, few.ids r.session)

  -- it is the next range of its session
  pub is_next_of : (t : Ids) → IsTableOf before t → r.session ≤ length t.sessions → (x : SessionIds) × (session_of t.sessions r.session ≡ Some x) × (is_next r x ≡ true)
  is_next_of t table enough =
      let x = there t.sessions (r.session - 1) (omega (arith, enough, turn.0)) in
      let some : (r.session == 0) ≡ false = grind (arith, nat_tests, turn.0) in
      let at : session_of t.sessions r.session ≡ Some x.0 = ap (λ b. cond b None (slice_get t.sessions (r.session - 1))) some ∙ x.1 in
      let count : x.0.finalised ≡ carried_count r.session before = table.finalised r.session x.0 at in
      let first : r.first ≡ x.0.finalised + 1 = turn.1 ∙ ap (λ n. n + 1) (sym count) in
      let low : x.0.finalised + r.count ≤ most_ids = omega (arith, count, carried) in
      let one : (r.first == x.0.finalised + 1) ≡ true = grind (arith, nat_tests, first) in
      let two : nat_le (x.0.finalised + r.count) most_ids ≡ true = grind (arith, nat_tests, low) in
      (x.0, at, cc (one, two))

  pub read_more : (n : Numbers) (t : Ids) → IsTableOf before t → AreStandIns t.sessions → r.session ≤ length t.sessions → n.read ≡ i + 1 → after_finalising r t ≡ Ok (ids_of n.ids) → IsNumberedTo log (i + 1) n
  read_more n t table stand enough read done =
      let x = is_next_of t table enough in
      record {
        read = read;
        within = omega (arith, within);
        table = subst (λ l. IsTableOf l (ids_of n.ids)) (sym more) (table_finalises before r t (ids_of n.ids) table done);
        sessions = finalised r t x.0 x.1 turn.0 (ids_of n.ids) done stand;
      }
