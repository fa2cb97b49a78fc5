-- Where a run stands between two lines.
use Rattle.std.specs.Prelude.{ℕ, List, Option}
use Rattle.st_io.specs.Bytes.{Appends}
use Rattle.st_pieces.specs.Lines.{Line}
use Rattle.st_pieces.specs.Outcomes.{IsFront, IsTold}
use Rattle.st_pieces.specs.Told.{Answered}
use Rattle.st_pieces.specs.declared.reading.Reading.{Reading}
use Rattle.st_pieces.specs.declared.responder.RunEnd.{RunEnd}
use Rattle.st_pieces.specs.inside.Placed.{tail_of}

module _ {S : Type 0} (Takes : S → ℕ → List ℕ → List ℕ → S → Type 0) where
  -- the lines read before a tail are answered, and the answers written
  pub record IsReached (first : S) (input old : Option (List ℕ)) (s : S)
      (left new : Option (List ℕ)) (n start : ℕ) (tail : List ℕ) : Type 0 where
    pub lines : List Line
    pub text : List ℕ
    pub answered : Answered Takes first lines n start text s
    pub read : IsFront input left lines tail
    pub written : Appends old text new

  -- from wherever the run stood it goes on: `Stood` and `Stands` are for what what answers stands before and after
  abbrev pub GoesOn : (Stood Stands : S → Type 0) (left_before left written_before written : Option (List ℕ))
      (before after : Reading) → Type 0
  GoesOn Stood Stands left_before left written_before written before after =
      (s first : S) (input old : Option (List ℕ)) → Stood s
      → IsReached first input old s left_before written_before before.number before.start (tail_of before)
      → (v : S) × Stands v × IsReached first input old v left written after.number after.start (tail_of after)

-- from wherever the run stood it ends so
abbrev pub EndsSo : {S E : Type 0} (Takes : S → ℕ → List ℕ → List ℕ → S → Type 0)
    (Ends : S → ℕ → List ℕ → List ℕ → E → Type 0) (Finishes : S → ℕ → List ℕ → Type 0)
    (Fails : S → ℕ → List ℕ → E → Type 0) (Stood : S → Type 0)
    (left_before left written_before written : Option (List ℕ)) → Reading → RunEnd E → Type 0
EndsSo {S} Takes Ends Finishes Fails Stood left_before left written_before written before o =
    (s first : S) (input old : Option (List ℕ)) → Stood s
    → IsReached Takes first input old s left_before written_before before.number before.start (tail_of before)
    → IsTold Takes Ends Finishes Fails first input old left written o
