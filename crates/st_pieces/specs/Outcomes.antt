-- What was told at each outcome of a run.
use Rattle.std.specs.Prelude.{◌≡◌, ◌⊎◌, ◌<◌, ℕ, true, false, List, [], ◌∷◌, ◌++◌, length, Option, IfSome, Some}
use Rattle.st_io.specs.Bytes.{Appends}
use Rattle.st_pieces.specs.Lines.{Line, cut, is_long, line_of, NoFeed}
use Rattle.st_pieces.specs.Told.{Answered, AppendsPrefix, long_line}
use Rattle.st_pieces.specs.declared.responder.RunEnd.{RunEnd}
use Rattle.st_pieces.specs.declared.responder.RunEnd.TheVariants.{Done, Bad, TooLong, ReadFault, WriteFault, NoMemory}

-- of the input the lines `ls` and then `tail` were read
pub record IsFront (input left : Option (List ℕ)) (ls : List Line) (tail : List ℕ) : Type 0 where
  pub front : List ℕ
  pub cuts : (more : List ℕ) → cut (front ++ more) ≡ ls ++ cut more
  pub whole : IfSome input (λ all.
      (rest : List ℕ) × (all ≡ front ++ (tail ++ rest)) × (left ≡ Some rest))

module _ {S E : Type 0} (Takes : S → ℕ → List ℕ → List ℕ → S → Type 0)
    (Ends : S → ℕ → List ℕ → List ℕ → E → Type 0)
    (Finishes : S → ℕ → List ℕ → Type 0) (Fails : S → ℕ → List ℕ → E → Type 0) where
  -- all lines are answered and told, with what is told at the end
  pub record IsDone (first : S) (input old left new : Option (List ℕ)) : Type 0 where
    pub lines : List Line
    pub n : ℕ
    pub start : ℕ
    pub text : List ℕ
    pub last : List ℕ
    pub s : S
    pub answered : Answered Takes first lines n start text s
    pub finishes : Finishes s n last
    pub whole : IfSome input (λ all. (cut all ≡ lines) × (left ≡ Some []))
    pub written : Appends old (text ++ last) new

  -- the input fails at its end
  pub record IsFailed (first : S) (input old new : Option (List ℕ)) (n : ℕ) (e : E) : Type 0 where
    pub lines : List Line
    pub start : ℕ
    pub text : List ℕ
    pub last : List ℕ
    pub s : S
    pub answered : Answered Takes first lines n start text s
    pub fails : Fails s n last e
    pub whole : IfSome input (λ all. cut all ≡ lines)
    pub written : Appends old (text ++ last) new

  -- the first line that ends the run, and those before it; the bytes need not have been read to its
  -- end
  pub record IsEnded (first : S) (input old new : Option (List ℕ)) (n : ℕ)
      (At : S → ℕ → ℕ → Line → List ℕ → Type 0) : Type 0 where
    pub lines : List Line
    pub start : ℕ
    pub text : List ℕ
    pub last : List ℕ
    pub s : S
    pub answered : Answered Takes first lines n start text s
    pub line : IfSome input (λ all.
        (l : Line) × (rest : List Line) × (cut all ≡ lines ++ l ∷ rest) × At s n start l last)
    pub written : Appends old (text ++ last) new

  abbrev pub AtBad : E → S → ℕ → ℕ → Line → List ℕ → Type 0
  AtBad e s n start l last = (is_long n start l ≡ false) × Ends s n l.bytes last e

  abbrev pub AtLong : S → ℕ → ℕ → Line → List ℕ → Type 0
  AtLong s n start l last = (is_long n start l ≡ true) × (last ≡ long_line n)

  -- the source failed after some lines and a tail, which isn't too long itself: all lines that end within what was read
  -- are answered and told, and nothing more
  pub record IsCutOff (first : S) (input old left new : Option (List ℕ)) : Type 0 where
    pub lines : List Line
    pub n : ℕ
    pub start : ℕ
    pub text : List ℕ
    pub tail : List ℕ
    pub s : S
    pub answered : Answered Takes first lines n start text s
    pub read : IsFront input left lines tail
    pub unended : NoFeed tail
    pub short : 0 < length tail → is_long n start (line_of tail 0) ≡ false
    pub written : Appends old text new

  -- what a line that isn't too long is answered with
  abbrev pub IsLineAnswer : S → ℕ → ℕ → Line → List ℕ → Type 0
  IsLineAnswer s n start l next =
      (is_long n start l ≡ false)
      × (((v : S) × Takes s n l.bytes next v) ⊎ ((e : E) × Ends s n l.bytes next e))

  -- what is told next, where some lines are left: nothing, or what the first is answered with
  abbrev pub IsNextTold : S → ℕ → ℕ → List Line → List ℕ → Type 0
  IsNextTold s n start [] next = (next ≡ []) ⊎ (Finishes s n next ⊎ ((e : E) × Fails s n next e))
  IsNextTold s n start (l ∷ ls) next =
      (next ≡ []) ⊎ (AtLong s n start l next ⊎ IsLineAnswer s n start l next)

  -- some lines are answered and told, and a front of what comes next
  pub record IsPartly (first : S) (input old new : Option (List ℕ)) : Type 0 where
    pub lines : List Line
    pub n : ℕ
    pub start : ℕ
    pub text : List ℕ
    pub s : S
    pub answered : Answered Takes first lines n start text s
    pub next : List ℕ
    pub among : IfSome input (λ all.
        (rest : List Line) × (cut all ≡ lines ++ rest) × IsNextTold s n start rest next)
    pub written : AppendsPrefix old (text ++ next) new

  -- what was told at an outcome: `first` is the state at the beginning, `input` and `left` are the
  -- bytes that the source had and has left, `old` and `new` what the sink was given before and by now
  abbrev pub IsTold : (first : S) (input old left new : Option (List ℕ)) → RunEnd E → Type 0
  IsTold first input old left new Done = IsDone first input old left new
  IsTold first input old left new (Bad n e) =
      IsEnded first input old new n (AtBad e) ⊎ IsFailed first input old new n e
  IsTold first input old left new (TooLong n) = IsEnded first input old new n AtLong
  IsTold first input old left new ReadFault = IsCutOff first input old left new
  IsTold first input old left new WriteFault = IsPartly first input old new
  IsTold first input old left new NoMemory = IsPartly first input old new
