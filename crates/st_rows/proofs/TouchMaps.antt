-- How marks touch a node.
use Rattle.std.proofs.Common.{◌≡◌, ◌+◌, ◌<◌, ℕ, zero, suc, true, false, List, [], ◌∷◌, ◌++◌, Option, Some, None, cond, take, length, get_or, refl, sym, ap, ◌∙◌}
use Rattle.std.specs.Option.{option_or}
use Rattle.std.proofs.lemmas.List.{take_more, get_or_default}
use Rattle.st_ids.specs.Order.{same_node}
use Rattle.st_ids.specs.declared.names.NodeId.{NodeId}
use Rattle.st_marks.specs.declared.marks.How.{How}
use Rattle.st_marks.proofs.MarkLengths.{spread-append}
use Rattle.st_marks.specs.declared.marks.Mark.{Mark}
use Rattle.st_marks.specs.Row.{CellMark, Counted, Gap, Touch, Make, Fill, spread, counted_cells}
use Rattle.st_rows.specs.Cells.{touch_of}
use Rattle.st_lemmas.proofs.Options.{option_or-assoc}

touch-append : (xs ys : List CellMark) (n : NodeId) → touch_of (xs ++ ys) n ≡ option_or (touch_of ys n) (touch_of xs n)
touch-append [] ys n = none (touch_of ys n)
  where
    none : (o : Option How) → o ≡ option_or o None
    none None = refl
    none (Some h) = refl
touch-append (Counted ∷ xs) ys n = touch-append xs ys n
touch-append (Gap c ∷ xs) ys n = touch-append xs ys n
touch-append (Touch c m h ∷ xs) ys n = ap (λ o. option_or o (cond (same_node m n) (Some h) None)) (touch-append xs ys n) ∙ option_or-assoc (touch_of ys n) (touch_of xs n) (cond (same_node m n) (Some h) None)
touch-append (Make c m b ∷ xs) ys n = touch-append xs ys n
touch-append (Fill c m ∷ xs) ys n = touch-append xs ys n

pub counted-untouched : (k : ℕ) (n : NodeId) → touch_of (counted_cells k []) n ≡ None
counted-untouched zero n = refl
counted-untouched (suc k) n = counted-untouched k n

-- one touch more
pub touched_by : (c : _) (m n : NodeId) (h : How) (new old : Option How) → new ≡ cond (same_node m n) (Some h) old → new ≡ option_or (touch_of (Touch c m h ∷ []) n) old
touched_by c m n h new old e = e ∙ elim (same_node m n) as (λ b. cond b (Some h) old ≡ option_or (option_or None (cond b (Some h) None)) old) [ true ↦ refl | false ↦ refl ]

-- one mark more
pub touched_on : (ms : List Mark) (i : ℕ) (d : Mark) (n : NodeId) (new old : Option How) → i < length ms → old ≡ touch_of (spread (take i ms)) n → new ≡ option_or (touch_of (spread (get_or ms i d ∷ [])) n) old → new ≡ touch_of (spread (take (i + 1) ms)) n
touched_on ms i d n new old l e f =
    f ∙ ap (option_or (touch_of (spread (get_or ms i d ∷ [])) n)) e
    ∙ sym (touch-append (spread (take i ms)) (spread (get_or ms i d ∷ [])) n)
    ∙ ap (λ xs. touch_of xs n) (sym (ap spread (take_more ms i (get_or ms i d) l ∙ ap (λ y. take i ms ++ y ∷ []) (get_or_default ms i (get_or ms i d) d l)) ∙ spread-append (take i ms) (get_or ms i d ∷ [])))
