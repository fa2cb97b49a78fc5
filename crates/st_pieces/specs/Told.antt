-- What is told of lines. `Takes`, `Ends`, `Finishes`, `Fails` say what a command makes of one.
use Rattle.std.specs.Prelude.{◌≡◌, ℕ, ◌+◌, false, List, [], ◌∷◌, ◌++◌, length, take, Option, codes}
use Rattle.std.specs.Fmt.{decimal}
use Rattle.st_io.specs.Bytes.{Appends}
use Rattle.st_pieces.specs.Lines.{Line, is_long}
use Rattle.st_pieces.specs.declared.responder.Reply.{Reply}
use Rattle.st_pieces.specs.declared.responder.Reply.TheVariants.{Goes, Ends}

-- the line that says that one is too long
abbrev pub long_line : ℕ → List ℕ
long_line n = codes "{\"line\":" ++ (decimal n ++ codes ",\"too\":\"long\"}\n")

module _ {S : Type 0} (Takes : S → ℕ → List ℕ → List ℕ → S → Type 0) where
  -- lines were answered one after the other: with the next number, the bytes before the next line,
  -- what was told and the state
  pub data Answered (first : S) : List Line → ℕ → ℕ → List ℕ → S → Type 0 where
    nothing : Answered first [] 1 0 [] first
    more : {ls : List Line} {n start : ℕ} {text : List ℕ} {s : S} (l : Line) (told : List ℕ) (v : S)
        → Answered first ls n start text s → is_long n start l ≡ false → Takes s n l.bytes told v
        → Answered first (ls ++ l ∷ []) (n + 1) (start + length l.bytes + l.feed) (text ++ told) v

-- a line is answered, and what answers stands for another state; or the run ends at it
abbrev pub IsReply : {S E : Type 0} → (List ℕ → S → Type 0) → (List ℕ → E → Type 0) → (S → Type 0)
    → Reply E → Type 0
IsReply {S} Takes EndsWith Stands (Goes text) = (v : S) × Takes text.items v × Stands v
IsReply Takes EndsWith Stands (Ends text e) = EndsWith text.items e

-- the input ends, as it may or as it may not
abbrev pub IsEnd : {E : Type 0} → (List ℕ → Type 0) → (List ℕ → E → Type 0) → Reply E → Type 0
IsEnd Finishes Fails (Goes text) = Finishes text.items
IsEnd Finishes Fails (Ends text e) = Fails text.items e

-- a front of some bytes was added
abbrev pub AppendsPrefix : Option (List ℕ) → List ℕ → Option (List ℕ) → Type 0
AppendsPrefix before whole after = (k : ℕ) × Appends before (take k whole) after
