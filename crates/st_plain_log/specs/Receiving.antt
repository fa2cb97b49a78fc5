-- Words of receiving entries, catching up and joining.
use Rattle.std.specs.Prelude.{◌-◌, false, ◌≡◌, ◌==◌, ◌+◌, ◌<◌, ◌≤◌, Bool, true, [], ◌∷◌, drop, length, List, Option, Some, None, IfSome}
use Rattle.st_marks.specs.declared.intents.Intent.{Intent}
use Rattle.st_marks.specs.declared.verdicts.Verdict.{Verdict}
use Rattle.st_marks.specs.Document.{Document}
use Rattle.st_marks.specs.Intent.{Fits}
use Rattle.st_marks.specs.Verdict.{IsVerdict, carried_document}
use Rattle.st_log_laws.specs.Turns.{FitInTurn}
use Rattle.st_doc.specs.Doc.{document_of}
use Rattle.st_heads.specs.Heads as head
use Rattle.st_heads.specs.Remembered.{AreCarried}
use Rattle.st_lists.specs.Log.{commit_of, commits_in, waiting}
use Rattle.st_lists.specs.Names.{names_in, names_made}
use Rattle.st_marks.specs.Run.{Run}
use Rattle.st_lists.specs.declared.lists.Transaction.{Transaction}
use Rattle.st_script.specs.declared.answer.Answer.TheVariants as answer
use Rattle.st_script.specs.declared.refusal.Refusal.TheVariants as no
use Rattle.st_heads.specs.declared.replica.Replica.{Replica}
use Rattle.st_lists.specs.declared.lists.Client.{Client}
use Rattle.st_lists.specs.declared.lists.Entry.{Entry}

-- ## Receiving

-- a commit with this verdict is carried out in the document of what was received; the other branches stay
pub record HasCarried (old : Replica) (N : Intent) (v : Verdict) (new : Replica) : Type 0 where
  pub verdict : IsVerdict (document_of old.received) N v
  pub after : document_of new.received ≡ carried_document v (document_of old.received) N
  pub branches : new.branches ≡ old.branches

-- a commit of its own was the first that the main line has, and goes; another comes before what is pending
abbrev pub HasMainAfter : Client → Replica → Bool → Intent → Replica → Type 0
HasMainAfter c old true N new = (new.main ≡ record old.main { own = drop 1 old.main.own }) × (new.names ≡ old.names - names_made N)
HasMainAfter c old false N new = AreCarried (document_of new.received) c.pending new.main.own (document_of new.main.doc)
    × (new.main.edited ≡ None) × (new.names ≡ old.names)

abbrev pub HasReceivedOne : Client → Replica → Bool → Intent → Verdict → Replica → Type 0
HasReceivedOne c old own N v new = HasCarried old N v new × HasMainAfter c old own N new

-- a commit can be received: it fits what was received, and what is pending then still fits
pub record CanCarry (c : Client) (k : Replica) (own : Bool) (N : Intent) : Type 0 where
  pub fits : Fits (document_of k.received) N
  pub later : own ≡ false → FitInTurn (document_of k.received) (N ∷ c.pending)
  pub first : own ≡ true → 0 < length k.main.own
  pub names : own ≡ true → names_made N ≤ k.names

abbrev pub CanReceive : Client → Replica → Entry → Type 0
CanReceive c k e = IfSome (commit_of e) (CanCarry c k (e.session == c.session))

-- an entry was received
abbrev pub HasReceivedOf : Client → Replica → Bool → Option Intent → Verdict → Replica → Type 0
HasReceivedOf c old own None v new = (v ≡ Verdict.Sound) × (new ≡ old)
HasReceivedOf c old own (Some N) v new = HasReceivedOne c old own N v new

abbrev pub HasReceivedNext : Client → Replica → Entry → Verdict → Replica → Type 0
HasReceivedNext c old e v new = HasReceivedOf c old (e.session == c.session) (commit_of e) v new

-- the next entry, if there is one, was received
abbrev pub HasMoved : Client → Replica → Option Entry → Replica → Type 0
HasMoved c old None new = new ≡ old
HasMoved c old (Some e) new = (v : Verdict) × HasReceivedNext c old e v new

-- what is received where no transaction is open can be, and nothing else is
pub record CanReceiveOf (c : Client) (k : Replica) (entry : Option Entry) : Type 0 where
  pub own : AreCarried (document_of k.received) c.pending k.main.own (document_of k.main.doc)
  pub edited : k.main.edited ≡ None
  pub next : IfSome entry (CanReceive c k)

abbrev pub CanReceiveIn : Client → Replica → Option Transaction → Option Entry → Type 0
CanReceiveIn c k None next = CanReceiveOf c k next
CanReceiveIn c k (Some t) next = Unit {0}

abbrev pub HasMovedIn : Client → Replica → Option Transaction → Option Entry → Replica → Type 0
HasMovedIn c old None next new = HasMoved c old next new
HasMovedIn c old (Some t) next new = new ≡ old

-- a client that comes back has caught up: the rest of the log was received, and what waits stands on that
pub record HasCaughtUp (log : List Entry) (c : Client) (old new : Replica) : Type 0 where
  pub received : Run (document_of old.received) (commits_in (drop c.received log)) (document_of new.received)
  pub own : AreCarried (document_of new.received) (waiting log c) new.main.own (document_of new.main.doc)
  pub edited : new.main.edited ≡ None
  pub branches : new.branches ≡ old.branches
  -- the names of the commits that are no longer pending are gone
  pub names : new.names + names_in c.pending ≡ old.names + names_in (waiting log c)

-- ## Joining

-- what is kept of a client that has received all commits, which lead to that document, and has nothing pending
pub record IsNewReplica (D : Document) (k : Replica) : Type 0 where
  pub received : document_of k.received ≡ D
  pub shown : document_of k.main.doc ≡ D
  pub own : k.main.own ≡ []
  pub edited : k.main.edited ≡ None
  pub branches : k.branches ≡ []
  pub names : k.names ≡ 0

-- ## Entries that are carried out

-- what a text says was carried out, if it is a commit, in the document of the whole log
abbrev pub HasEntered : Document → Option Intent → Document → Type 0
HasEntered D None E = E ≡ D
HasEntered D (Some N) E = (v : Verdict) × IsVerdict D N v × (E ≡ carried_document v D N)
