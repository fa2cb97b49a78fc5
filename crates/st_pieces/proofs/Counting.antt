-- How many lines were answered, and how many bytes they have.
use Rattle.std.proofs.Common.{◌≡◌, ℕ, ◌+◌, List, [], ◌∷◌, ◌++◌, length, length-append, refl, arith}
use Rattle.st_pieces.specs.Lines.{Line, size_of}
use Rattle.st_pieces.specs.Told.{Answered, more, nothing}

size_more : (ls : List Line) (l : Line) → size_of (ls ++ l ∷ []) ≡ size_of ls + length l.bytes + l.feed
size_more [] l = omega arith
size_more (k ∷ ls) l = omega (arith, size_more ls l)

module _ {S : Type 0} (Takes : S → ℕ → List ℕ → List ℕ → S → Type 0) (first : S) where
  pub counted : {ls : List Line} {n start : ℕ} {text : List ℕ} {s : S} → Answered Takes first ls n start text s → (n ≡ length ls + 1) × (start ≡ size_of ls)
  counted nothing = (refl, refl)
  counted (more {ls} l told v a short takes) =
      let r = counted a in
      (omega (arith, r.0, length-append ls (l ∷ [])), omega (arith, r.1, size_more ls l))
