-- Lists that are gathered from the items of another, one item after the other.
use Rattle.std.proofs.Common.{◌≡◌, ◌↔◌, Bool, true, not, Option, subst, ℕ, zero, suc, ◌+◌, ◌<◌, List, [], ◌∷◌, ◌++◌, length, take, get_or, sym, ap, ◌∙◌, refl}
use Rattle.std.proofs.lemmas.Grind.{flat_map-append}
use Rattle.std.proofs.lemmas.List.{append-nil}
use Rattle.std.specs.List.{flat_map}
use Rattle.st_ids.specs.declared.names.NodeId.{NodeId}
use Rattle.st_lemmas.proofs.FirstItems.{take_one}
use Rattle.st_marks.specs.declared.marks.Mark.{Mark}
use Rattle.st_marks.specs.Row.{counted_cells, spread}
use Rattle.st_marks.proofs.MarkLengths.{spread-append}
use Rattle.st_rows.specs.Reading.{cell_of}
use Rattle.st_ids.specs.Listing.{Has}
use Rattle.st_marks.specs.declared.changes.Change.{Change}
use Rattle.st_doc.specs.inside.Ahead.{IsLeastOf, least_with}
use Rattle.st_doc.proofs.Verdicts.{least_more, not_tells}
use Rattle.st_void.specs.Standing.{IsShownLive}
use Rattle.st_void.specs.inside.Puts.{IsLeastRing, put_by, put_here}

joined : {A : Type 0} (xs ys zs : List A) → (xs ++ ys) ++ zs ≡ xs ++ (ys ++ zs)
joined [] ys zs = refl
joined (x ∷ xs) ys zs = ap (λ l. x ∷ l) (joined xs ys zs)

-- one item more
pub flat_more : {A B : Type 0} (f : A → List B) (xs : List A) (i : ℕ) (d x : A) → i < length xs → get_or xs i d ≡ x → flat_map f (take (i + 1) xs) ≡ flat_map f (take i xs) ++ f x
flat_more f xs i d x l e = ap (flat_map f) (take_one xs i d x l e) ∙ flat_map-append f (take i xs) (x ∷ []) ∙ ap (λ ys. flat_map f (take i xs) ++ ys) (append-nil (f x))

counted : (k : ℕ) → flat_map put_by (counted_cells k []) ≡ []
counted zero = refl
counted (suc k) = counted k

one_mark : (m : Mark) → flat_map put_by (spread (m ∷ [])) ≡ put_by (cell_of m)
one_mark (Mark.Skip k) = counted k
one_mark (Mark.Gap c) = refl
one_mark (Mark.Touch c n h) = append-nil (put_by (cell_of (Mark.Touch c n h)))
one_mark (Mark.Make c n b) = append-nil (put_by (cell_of (Mark.Make c n b)))
one_mark (Mark.Fill c n) = refl

-- one mark more
pub marks_more : (ms : List Mark) (i : ℕ) (d m : Mark) → i < length ms → get_or ms i d ≡ m → flat_map put_by (spread (take (i + 1) ms)) ≡ flat_map put_by (spread (take i ms)) ++ put_by (cell_of m)
marks_more ms i d m l e = ap (λ xs. flat_map put_by (spread xs)) (take_one ms i d m l e) ∙ ap (flat_map put_by) (spread-append (take i ms) (m ∷ [])) ∙ flat_map-append put_by (spread (take i ms)) (spread (m ∷ [])) ∙ ap (λ ys. flat_map put_by (spread (take i ms)) ++ ys) (one_mark m)

-- the least so far and one mark more
pub row_step : (C : Change) (ms : List Mark) (i : ℕ) (d : Mark) (next : Option NodeId) (seen : List NodeId) (node : Option NodeId) → i < length ms → put_here node ≡ put_by (cell_of (get_or ms i d))
    → IsLeastRing C ((seen ++ flat_map put_by (spread (take i ms))) ++ put_here node) next → IsLeastRing C (seen ++ flat_map put_by (spread (take (i + 1) ms))) next
row_step C ms i d next seen node l e h = subst (λ ys. IsLeastRing C ys next)
    (ap (λ ys. (seen ++ flat_map put_by (spread (take i ms))) ++ ys) e ∙ joined seen (flat_map put_by (spread (take i ms))) (put_by (cell_of (get_or ms i d))) ∙ ap (λ ys. seen ++ ys) (sym (marks_more ms i d (get_or ms i d) l refl)))
    h

-- and one row or register more
pub items_step : {A : Type 0} (C : Change) (f : A → List NodeId) (before : List NodeId) (xs : List A) (i : ℕ) (d : A) (next : Option NodeId) → i < length xs
    → IsLeastRing C ((before ++ flat_map f (take i xs)) ++ f (get_or xs i d)) next → IsLeastRing C (before ++ flat_map f (take (i + 1) xs)) next
items_step C f before xs i d next l h = subst (λ ys. IsLeastRing C ys next)
    (joined before (flat_map f (take i xs)) (f (get_or xs i d)) ∙ ap (λ ys. before ++ ys) (sym (flat_more f xs i d (get_or xs i d) l refl)))
    h

-- the least need so far and one more
pub needs_step : (C : Change) (ns : List NodeId) (i : ℕ) (d : NodeId) (b : Bool) (o next : Option NodeId) → i < length ns → ((b ≡ true) ↔ IsShownLive C (get_or ns i d)) → next ≡ least_with o (get_or ns i d) (not b)
    → IsLeastOf (λ n. Has (take i ns) n × (IsShownLive C n → ⊥)) o → IsLeastOf (λ n. Has (take (i + 1) ns) n × (IsShownLive C n → ⊥)) next
needs_step C ns i d b o next l tells e h =
    subst (λ ys. IsLeastOf (λ n. Has ys n × (IsShownLive C n → ⊥)) next) (sym (take_one ns i d (get_or ns i d) l refl))
    (subst (IsLeastOf (λ n. Has (take i ns ++ get_or ns i d ∷ []) n × (IsShownLive C n → ⊥))) (sym e)
    (least_more (λ n. IsShownLive C n → ⊥) (take i ns) (get_or ns i d) (not b) (not_tells b (IsShownLive C (get_or ns i d)) tells) o h))
