-- Sets of cells, by one more.
use Rattle.std.proofs.Common.{◌≡◌, ◌<◌, ◌+◌, ℕ, ◌||◌, Bool, true, false, cond, List, length, take, get_or, refl, sym, ap, ◌∙◌}
use Rattle.std.specs.Ordering.{is_eq}
use Rattle.st_ids.specs.Order.{cell_cmp, same_cell}
use Rattle.st_ids.specs.declared.names.CellId.{CellId}
use Rattle.st_lemmas.proofs.FirstItems.{any_more}
use Rattle.st_marks.specs.Listings.{is_among_cells}

or-last : (a b : Bool) → cond b true a ≡ (a || b)
or-last true true = refl
or-last true false = refl
or-last false true = refl
or-last false false = refl

pub set_more : (cells : List CellId) (i : ℕ) (d x : CellId) (before now : CellId → Bool) → i < length cells → get_or cells i d ≡ x → ((c : CellId) → now c ≡ cond (is_eq (cell_cmp x c)) true (before c))
    → ((c : CellId) → before c ≡ is_among_cells (take i cells) c) → (c : CellId) → now c ≡ is_among_cells (take (i + 1) cells) c
unfolding same_cell
set_more cells i d x before now l e more so_far c =
    more c ∙ or-last (before c) (is_eq (cell_cmp x c)) ∙ ap (λ b. b || same_cell x c) (so_far c) ∙ sym (any_more (λ y. same_cell y c) cells i d x l e)
