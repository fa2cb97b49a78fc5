-- One item of a row, and the item left of an index.
use Rattle.std.proofs.Common.{◌≡◌, ◌∙◌, ◌≤◌, ◌<◌, ◌+◌, ◌-◌, ℕ, zero, suc, true, false, length, map, take, slice_get, nat_le, None, Some, Ok, Err, Result, List, [], ◌∷◌, drop, inl, inr, ap, sym, arith}
use Rattle.std.proofs.lemmas.Bool.Decides.{nat_tests}
use Rattle.std.proofs.lemmas.Option.{slice_get_cases, slice_get_within}
use Rattle.std.specs.Prelude.{if◌then◌else◌}
use Rattle.st_ids.specs.declared.names.NodeId.{NodeId}
use Rattle.st_lemmas.proofs.Lists.{drop-slice_get}
use Rattle.st_marks.specs.Document.{Document}
use Rattle.st_marks.specs.LiveTree.{live_slots}
use Rattle.st_marks.specs.declared.places.Slot.{Slot}
use Rattle.st_edits.specs.Paths.{row_length}
use Rattle.st_edits.specs.Resolve.{require, within_row}
use Rattle.st_tree.specs.declared.edit.EditFault.{EditFault}
use Rattle.st_tree.specs.declared.edit.EditFault.TheVariants.{Range}

-- the list is no longer than a place where nothing is
past_end : {A : Type 0} (xs : List A) (i : ℕ) → slice_get xs i ≡ None → length xs ≤ i
past_end xs i e = elim (slice_get_cases xs i).1 [
  | inl w ↦ let other : slice_get xs i ≡ Some w.0 = w.2 in cc
  | inr w ↦ w.0
]

pub one_is : (D : Document) (n : NodeId) (i : ℕ) (s : Slot) → slice_get (live_slots D n) i ≡ Some s → within_row D n i 1 ≡ Ok (s.node ∷ [])
one_is D n i s e =
    let xs = live_slots D n in
    let there = slice_get_within xs i s e in
    let low : nat_le (i + 1) (length xs) ≡ true = grind (arith, nat_tests, there) in
    ap (λ b. if b then Ok (map (λ (t : Slot). t.node) (take 1 (drop i xs))) else Err Range) low ∙ ap (λ l. Ok (map (λ (t : Slot). t.node) (take 1 l))) (drop-slice_get xs i s e)

pub one_is_past : (D : Document) (n : NodeId) (i : ℕ) → slice_get (live_slots D n) i ≡ None → within_row D n i 1 ≡ Err Range
one_is_past D n i e =
    let xs = live_slots D n in
    let past = past_end xs i e in
    let high : nat_le (i + 1) (length xs) ≡ false = grind (arith, nat_tests, past) in
    ap (λ b. if b then Ok (map (λ (t : Slot). t.node) (take 1 (drop i xs))) else Err Range) high

-- an index behind an item is one of the row, or its end
pub left_is : (D : Document) (n : NodeId) (i : ℕ) (s : Slot) → 0 < i → slice_get (live_slots D n) (i - 1) ≡ Some s → require (nat_le i (row_length D n)) Range ≡ Ok tt
left_is D n i s first e =
    let there = slice_get_within (live_slots D n) (i - 1) s e in
    let low : nat_le i (length (live_slots D n)) ≡ true = grind (arith, nat_tests, there, first) in
    ap (λ b. require b Range) low

pub left_is_past : (D : Document) (n : NodeId) (i : ℕ) → 0 < i → slice_get (live_slots D n) (i - 1) ≡ None → require (nat_le i (row_length D n)) Range ≡ Err Range
left_is_past D n i first e =
    let past = past_end (live_slots D n) (i - 1) e in
    let high : nat_le i (length (live_slots D n)) ≡ false = grind (arith, nat_tests, past, first) in
    ap (λ b. require b Range) high
