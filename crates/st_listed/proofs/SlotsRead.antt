-- The slots of a row, one after the other.
use Rattle.std.proofs.Common.{◌≡◌, ◌+◌, ◌∷◌, [], ◌++◌, ℕ, suc, List, Some, map, take, length, get_or, slice_get, refl, sym, ap, ◌∙◌}
use Rattle.std.proofs.lemmas.List.{take_more}
use Rattle.std.proofs.lemmas.Option.{get_or_from_slice_get, slice_get_within}
use Rattle.st_lemmas.proofs.Lists.{map-append}
use Rattle.st_marks.specs.declared.marks.Mark.{Mark}
use Rattle.st_marks.specs.declared.places.Slot.{Slot}
use Rattle.st_marks.specs.Row.{spread}
use Rattle.st_marks.proofs.MarkLengths.{spread-append}
use Rattle.st_listed.specs.Named.{slot_mark}

map-length : {A B : Type 0} (f : A → B) (xs : List A) → length (map f xs) ≡ length xs
map-length f [] = refl
map-length f (x ∷ xs) = ap suc (map-length f xs)

-- one slot more
pub one_read : (row : List Slot) (place : ℕ) (s : Slot) (m : Mark) (ms new : List Mark) → slice_get row place ≡ Some s → spread (m ∷ []) ≡ slot_mark s ∷ [] → new ≡ ms ++ m ∷ []
    → spread ms ≡ map slot_mark (take place row) → spread new ≡ map slot_mark (take (place + 1) row)
one_read row place s m ms new g e pushed so_far =
    let l = slice_get_within row place s g in
    let here : get_or row place s ≡ s = get_or_from_slice_get row place s s g in
    let more : take (place + 1) row ≡ take place row ++ s ∷ [] = take_more row place s l ∙ ap (λ y. take place row ++ y ∷ []) here in
    ap spread pushed ∙ spread-append ms (m ∷ []) ∙ (λ i. so_far i ++ e i) ∙ sym (map-append slot_mark (take place row) (s ∷ [])) ∙ ap (map slot_mark) (sym more)

-- as many marks as slots
pub few_read : (row : List Slot) (ms : List Mark) → spread ms ≡ map slot_mark row → length (spread ms) ≡ length row
few_read row ms e = ap length e ∙ map-length slot_mark row
