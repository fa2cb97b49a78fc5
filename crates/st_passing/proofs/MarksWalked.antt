-- A walk over two rows that asks at each piece.
use Rattle.std.proofs.Common.{◌≡◌, ℕ, zero, suc, Bool, true, false, List, [], ◌∷◌, ◌++◌, cond, refl, sym, ap, ◌∙◌}
use Rattle.st_rows.specs.Pieces.{both_counted}
use Rattle.st_rows.specs.Walks.{CellPiece}
use Rattle.st_passing.specs.Passing.{all_pass, piece_passes}

pub counted_pass : (l : Bool) (k : ℕ) (ps : List CellPiece) → all_pass l (both_counted k ++ ps) ≡ all_pass l ps
counted_pass l zero ps = refl
counted_pass l (suc k) ps = counted_pass l k ps

-- the pieces that are left say what the whole says
pub counted_on : (l b : Bool) (k : ℕ) (W W' : List CellPiece) → all_pass l W ≡ b → W ≡ both_counted k ++ W' → all_pass l W' ≡ b
counted_on l b k W W' h e = sym (counted_pass l k W') ∙ ap (all_pass l) (sym e) ∙ h

pub one_on : (l b : Bool) (p : CellPiece) (W W' : List CellPiece) → all_pass l W ≡ b → W ≡ p ∷ W' → piece_passes l p ≡ true → all_pass l W' ≡ b
one_on l b p W W' h e q = sym (ap (λ c. cond c (all_pass l W') false) q) ∙ ap (all_pass l) (sym e) ∙ h

pub one_stops : (l b : Bool) (p : CellPiece) (W W' : List CellPiece) → all_pass l W ≡ b → W ≡ p ∷ W' → piece_passes l p ≡ false → false ≡ b
one_stops l b p W W' h e q = sym (ap (λ c. cond c (all_pass l W') false) q) ∙ ap (all_pass l) (sym e) ∙ h

pub none_left : (l b : Bool) (W : List CellPiece) → all_pass l W ≡ b → W ≡ [] → true ≡ b
none_left l b W h e = ap (all_pass l) (sym e) ∙ h
