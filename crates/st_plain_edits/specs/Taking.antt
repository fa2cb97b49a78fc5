-- Words of taking in what an edit means: as a commit, or as a part of a transaction.
use Rattle.std.specs.Option.{option_map_or}
use Rattle.std.specs.Prelude.{◌-◌, ◌^◌, ℕ, Result, Ok, Err, ◌≡◌, ◌+◌, ◌<◌, ◌≤◌, [], ◌∷◌, length, Option, Some, None}
use Rattle.st_marks.specs.declared.intents.Intent.{Intent}
use Rattle.st_marks.specs.Intent.{Fits}
use Rattle.st_ids.specs.declared.names.Limit.{Limit}
use Rattle.st_tree.specs.declared.edit.EditFault.{EditFault}
use Rattle.st_doc.specs.Doc.{document_of}
use Rattle.st_heads.specs.Heads as head
use Rattle.st_heads.specs.Replicas.{IsCommitted}
use Rattle.st_heads.specs.declared.heads.Head.{Head}
use Rattle.st_lists.specs.Names.{names_made}
use Rattle.st_lists.specs.Clients.{joined_of, with_edited}
use Rattle.st_lists.specs.Limits.{limit_passed, names_limit_passed}
use Rattle.st_lists.specs.Lines.{Line, main_line}
use Rattle.st_lists.specs.declared.lists.Transaction.{Transaction}
use Rattle.st_heads.specs.Transactions.{HasOpen, IsOpen}
use Rattle.st_lists.specs.Open.{IsSoundPart, IsWithPart, with_open}
use Rattle.st_script.specs.declared.answer.Answer.{Answer}
use Rattle.st_script.specs.declared.answer.Answer.TheVariants as answer
use Rattle.st_script.specs.declared.refusal.Refusal.TheVariants as no
use Rattle.st_world.specs.declared.edit_word.EditWord.{EditWord}
use Rattle.st_world.specs.World.{IsJoined, answer_of, cells_given, with_new_on}
use Rattle.st_heads.specs.declared.replica.Replica.{Replica}
use Rattle.st_lists.specs.declared.lists.Client.{Client}

-- a commit that passes no limit is carried out, and after another nothing has changed
abbrev pub IsPending : Replica → Intent → Option Limit → Replica → Type 0
IsPending old N None new = IsCommitted old N new
IsPending old N (Some l) new = new ≡ old

-- ## Transactions

-- the numbers that a transaction has given are small
abbrev pub HasNumbersLeft : Option Transaction → Type 0
HasNumbersLeft None = Unit {0}
HasNumbersLeft (Some t) = (t.nodes < 2 ^ 31) × (t.cells < 2 ^ 31)

-- an intent can be joined to what was edited in a line's transaction: it is a sound part of the same commit, and gives few
-- numbers
pub record CanJoin (k : Head) (t : Transaction) (word : EditWord) (M : Intent) : Type 0 where
  pub going : IsOpen k t.joined M.rev M.under
  pub part : IsSoundPart (with_open (document_of k.doc) t.joined) M
  pub counted : (t.nodes + length M.new) + (t.cells + cells_given word M) ≤ 2048

-- what an edit means can be taken in on a line: as a commit, or as a part of the transaction that is open
abbrev pub CanTake : Head → Option Transaction → EditWord → Intent → Type 0
CanTake k None word N = Fits (document_of k.doc) N
CanTake k (Some t) word N = CanJoin k t word N

-- a transaction with one part more, if that passes no limit, and the answer
abbrev pub IsJoinedIn : Transaction → EditWord → Intent → Option Limit → Transaction → Answer → Type 0
IsJoinedIn t word M None u a = (J : Intent) × IsWithPart t.joined M J × (u ≡ with_edited t J (length M.new) (cells_given word M)) × (a ≡ answer_of word t.rev)
IsJoinedIn t word M (Some l) u a = (u ≡ t) × (a ≡ answer.No (no.Limit l))

-- a line's head, and so many names that wait, after a part more of what is edited, which is now so
pub record HasPart (old : Head) (before : ℕ) (M : Intent) (joined : Option Intent) (new : Head) (after : ℕ) : Type 0 where
  pub doc : new.doc ≡ old.doc
  pub own : new.own ≡ old.own
  pub edited : HasOpen new joined
  pub names : after ≡ before + names_made M

abbrev pub HasJoined : Head → ℕ → Intent → Option Limit → Option Intent → Head → ℕ → Type 0
HasJoined old before M None joined new after = HasPart old before M joined new after
HasJoined old before M (Some l) joined new after = (new ≡ old) × (after ≡ before)

-- the same on the main line
pub record HasJoinedMain (old : Replica) (M : Intent) (passed : Option Limit) (joined : Option Intent) (new : Replica) : Type 0 where
  pub main : HasJoined old.main old.names M passed joined new.main new.names
  pub received : new.received ≡ old.received
  pub branches : new.branches ≡ old.branches

-- a client, after what an edit means was taken in on a line
abbrev pub IsTakenIn : Client → ℕ → Line → Option Transaction → EditWord → Intent → Client → Answer → Type 0
IsTakenIn c k l None word N d a = with_new_on c k word N (limit_passed c k l N) ≡ (d, a)
IsTakenIn c k l (Some t) word N d a = IsJoined c k t word N (names_limit_passed c N) d a

-- and what is kept of it, on the main line
abbrev pub HasTakenIn : Client → Option Transaction → Replica → Intent → Client → Replica → Type 0
HasTakenIn c None old N d new = IsPending old N (limit_passed c 0 (main_line c) N) new
HasTakenIn c (Some t) old N d new = HasJoinedMain old N (names_limit_passed c N) (joined_of d) new

abbrev pub HasTaken : Client → Option Transaction → Replica → Result Intent EditFault → Client → Replica → Type 0
HasTaken c t old (Err f) d new = new ≡ old
HasTaken c t old (Ok N) d new = HasTakenIn c t old N d new

-- a need is taken in where a transaction is open
abbrev pub HasTakenNeed : Client → Option Transaction → Replica → Result Intent EditFault → Client → Replica → Type 0
HasTakenNeed c None old meant d new = new ≡ old
HasTakenNeed c (Some t) old meant d new = HasTaken c (Some t) old meant d new

-- what was edited is a commit at the head of the main line
pub record IsCommittedWhole (old : Replica) (J : Intent) (new : Replica) : Type 0 where
  pub main : head.HasCarried (record old.main { edited = None }) (J ∷ []) new.main
  pub received : new.received ≡ old.received
  pub branches : new.branches ≡ old.branches
  pub names : new.names ≡ old.names

abbrev pub HasCommittedOf : Replica → Option Intent → Replica → Type 0
HasCommittedOf old None new = new ≡ old
HasCommittedOf old (Some J) new = IsCommittedWhole old J new

abbrev pub HasCommitted : Option Transaction → Replica → Replica → Type 0
HasCommitted None old new = new ≡ old
HasCommitted (Some t) old new = HasCommittedOf old t.joined new

-- what was edited is dropped
abbrev pub HasAborted : Option Transaction → Replica → Replica → Type 0
HasAborted None old new = new ≡ old
HasAborted (Some t) old new = new ≡ record old { main = record old.main { edited = None }; names = old.names - option_map_or names_made t.joined 0 }
