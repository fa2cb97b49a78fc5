-- What one call sent, and how it ended the run.
use Rattle.std.specs.Prelude.{◌≡◌, ◌⊎◌, ℕ, List, Option}
use Rattle.st_io.specs.Bytes.{Appends}
use Rattle.st_pieces.specs.Told.{AppendsPrefix, long_line}
use Rattle.st_pieces.specs.declared.responder.Reply.{Reply}
use Rattle.st_pieces.specs.declared.responder.Reply.TheVariants.{Goes, Ends}
use Rattle.st_pieces.specs.declared.responder.RunEnd.{RunEnd}
use Rattle.st_pieces.specs.declared.responder.RunEnd.TheVariants.{Done, Bad, TooLong, ReadFault, WriteFault, NoMemory}

-- a line is answered, and its answer written
abbrev pub IsGoing : {S : Type 0} → (List ℕ → S → Type 0) → (S → Type 0)
    → (old new : Option (List ℕ)) → Type 0
IsGoing {S} Takes Stands old new =
    (told : List ℕ) × (v : S) × Takes told v × Stands v × Appends old told new

-- the line that says that one is too long was sent
abbrev pub IsLongSent : {E : Type 0} → ℕ → (old new : Option (List ℕ)) → RunEnd E → Type 0
IsLongSent n old new (TooLong m) = (m ≡ n) × Appends old (long_line n) new
IsLongSent n old new WriteFault = AppendsPrefix old (long_line n) new
IsLongSent n old new Done = ⊥
IsLongSent n old new (Bad m e) = ⊥
IsLongSent n old new ReadFault = ⊥
IsLongSent n old new NoMemory = new ≡ old

-- a run ended at a line
abbrev pub IsLineEnd : {E : Type 0} → (List ℕ → Type 0) → (List ℕ → E → Type 0) → ℕ
    → (old new : Option (List ℕ)) → RunEnd E → Type 0
IsLineEnd Told EndsWith n old new (Bad m e) =
    (m ≡ n) × (last : List ℕ) × EndsWith last e × Appends old last new
IsLineEnd Told EndsWith n old new WriteFault =
    (next : List ℕ) × Told next × AppendsPrefix old next new
IsLineEnd Told EndsWith n old new NoMemory = new ≡ old
IsLineEnd Told EndsWith n old new Done = ⊥
IsLineEnd Told EndsWith n old new (TooLong m) = ⊥
IsLineEnd Told EndsWith n old new ReadFault = ⊥

abbrev pub IsReplyEnd : {E : Type 0} → Reply E → ℕ → (old new : Option (List ℕ)) → RunEnd E → Type 0
IsReplyEnd (Goes text) n old new o = (o ≡ WriteFault) × AppendsPrefix old text.items new
IsReplyEnd (Ends text e) n old new o =
    IsLineEnd (λ next. next ≡ text.items) (λ last f. (last ≡ text.items) × (f ≡ e)) n old new o

-- a reply with which the run goes on was written
abbrev pub IsSent : {E : Type 0} → Reply E → Option (List ℕ) → Option (List ℕ) → Type 0
IsSent (Goes text) old new = Appends old text.items new
IsSent (Ends text e) old new = ⊥

-- what was told at the end of the input
abbrev pub IsEndTold : {E : Type 0} → (List ℕ → Type 0) → (List ℕ → E → Type 0) → ℕ
    → (old new : Option (List ℕ)) → RunEnd E → Type 0
IsEndTold Finishes Fails n old new Done = (last : List ℕ) × Finishes last × Appends old last new
IsEndTold Finishes Fails n old new (Bad m e) =
    (m ≡ n) × (last : List ℕ) × Fails last e × Appends old last new
IsEndTold {E} Finishes Fails n old new WriteFault =
    (next : List ℕ) × (Finishes next ⊎ ((e : E) × Fails next e)) × AppendsPrefix old next new
IsEndTold Finishes Fails n old new NoMemory = new ≡ old
IsEndTold Finishes Fails n old new (TooLong m) = ⊥
IsEndTold Finishes Fails n old new ReadFault = ⊥

-- a line is answered with some bytes, with which the run goes on or ends
abbrev pub IsAnswerTo : {S E : Type 0} → (List ℕ → S → Type 0) → (List ℕ → E → Type 0) → List ℕ → Type 0
IsAnswerTo {S} {E} Takes EndsWith next = ((v : S) × Takes next v) ⊎ ((e : E) × EndsWith next e)
