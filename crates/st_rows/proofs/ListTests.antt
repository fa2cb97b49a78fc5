-- Tests on lists, and on the cells of marks.
use Rattle.std.proofs.Common.{◌≡◌, ℕ, zero, suc, Bool, true, false, ◌||◌, List, [], ◌∷◌, refl, sym, ap, ◌∙◌, inl, inr}
use Rattle.std.specs.List.{list_any}
use Rattle.st_ids.specs.Listing.{Has}
use Rattle.st_marks.specs.declared.marks.Mark.{Mark}
use Rattle.st_marks.specs.Row.{CellMark, Counted, Gap, Touch, Make, Fill, spread, counted_cells}
use Rattle.st_rows.specs.Reading.{cell_of}

pub any_has : {A : Type 0} (t : A → Bool) (xs : List A) (x : A) → Has xs x → t x ≡ true → list_any t xs ≡ true
any_has t [] x h e = absurd h
any_has t (y ∷ xs) x (inl q) e = ap (λ b. b || list_any t xs) (ap t q ∙ e)
any_has t (y ∷ xs) x (inr h) e = later (t y) (list_any t xs) (any_has t xs x h e)
  where
    later : (a b : Bool) → b ≡ true → (a || b) ≡ true
    later true b e = refl
    later false b e = e

pub has_any : {A : Type 0} (t : A → Bool) (xs : List A) → list_any t xs ≡ true → (x : A) × Has xs x × (t x ≡ true)
has_any t [] e = cc
has_any t (y ∷ xs) e = elim (t y) as (λ b. t y ≡ b → (b || list_any t xs) ≡ true → (x : _) × Has (y ∷ xs) x × (t x ≡ true)) [
  | true ↦ (λ q r. (y, inl refl, q))
  | false ↦ (λ q r. let z = has_any t xs r in (z.0, inr z.1, z.2))
] refl e

pub none_any : {A : Type 0} (t : A → Bool) (xs : List A) → ((x : A) → Has xs x → t x ≡ true → ⊥) → list_any t xs ≡ false
none_any t xs h = elim (list_any t xs) as (λ b. list_any t xs ≡ b → b ≡ false) [
  | true ↦ (λ e. let r = has_any t xs e in absurd (h r.0 r.1 r.2))
  | false ↦ (λ e. refl)
] refl

-- ## Tests on cells, asked of marks

any_counted : (t : CellMark → Bool) → t Counted ≡ false → (k : ℕ) (xs : List CellMark) → list_any t xs ≡ list_any t (counted_cells k xs)
any_counted t e zero xs = refl
any_counted t e (suc k) xs = any_counted t e k xs ∙ ap (λ b. b || list_any t (counted_cells k xs)) (sym e)

-- a test on marks of cells that counted cells don't pass
pub any_spread : (t : CellMark → Bool) → t Counted ≡ false → (ms : List Mark) → list_any (λ m. t (cell_of m)) ms ≡ list_any t (spread ms)
any_spread t e [] = refl
any_spread t e (Mark.Skip k ∷ ms) = ap (λ b. b || list_any (λ m. t (cell_of m)) ms) e ∙ any_spread t e ms ∙ any_counted t e k (spread ms)
any_spread t e (Mark.Gap c ∷ ms) = ap (λ b. t (Gap c) || b) (any_spread t e ms)
any_spread t e (Mark.Touch c n h ∷ ms) = ap (λ b. t (Touch c n h) || b) (any_spread t e ms)
any_spread t e (Mark.Make c n b ∷ ms) = ap (λ x. t (Make c n b) || x) (any_spread t e ms)
any_spread t e (Mark.Fill c n ∷ ms) = ap (λ b. t (Fill c n) || b) (any_spread t e ms)
