-- What the kept documents and numbers stand for, and what holds of a world after so many steps.
use Rattle.std.specs.Prelude.{◌≡◌, ℕ, ◌≤◌, List, [], ◌∷◌, length}
use Rattle.std.specs.List.{AllByRecursion}
use Rattle.st_ids.specs.Root.{opening}
use Rattle.st_marks.specs.Run.{Run}
use Rattle.st_marks.specs.Document.{Document}
use Rattle.st_log_laws.specs.Names.{HaveNewRevisions}
use Rattle.st_log_laws.specs.Turns.{FitInTurn}
use Rattle.st_doc.specs.Doc.{document_of}
use Rattle.st_heads.specs.Remembered.{AreCarried}
use Rattle.st_heads.specs.Transactions.{HasOpen}
use Rattle.st_script.specs.Header.{HeaderView, header_view}
use Rattle.st_lists.specs.Known.{AreConnected, AreKnown, AreMinima}
use Rattle.st_clusters.specs.Log.{AreInTurn}
use Rattle.st_lists.specs.Log.{commits_in, ranges_in, sessions_in}
use Rattle.st_lists.specs.Clients.{HasReceived, joined_of}
use Rattle.st_lists.specs.Lines.{base_of, branch_line, edited_on}
use Rattle.st_plain_undo.specs.Logged.{AreLogged}
use Rattle.st_plain_schemas.specs.Schemas.{HasReading}
use Rattle.st_world.specs.World.{opening_document}
use Rattle.st_lists.specs.Names.{names_in, unsequenced}
use Rattle.st_heads.specs.declared.heads.Head.{Head}
use Rattle.st_heads.specs.declared.replica.Replica.{Replica}
use Rattle.st_lists.specs.declared.lists.Branch.{Branch}
use Rattle.st_lists.specs.declared.lists.Client.{Client}
use Rattle.st_lists.specs.declared.lists.Entry.{Entry}
use Rattle.st_plain.specs.declared.world.World.{World}
use Rattle.st_world_laws.specs.Worlds.{HasOwnIds, HaveOwnSessions, IsClient, IsEntryOf, IsHeader, KeepToSchemas}

-- what is kept of a branch is the head of its line: the document to which its commits lead, how its own came out, and what
-- is edited beside them in the open transaction
pub record IsHeadOf (O : Document) (log : List Entry) (b : Branch) (k : Head) : Type 0 where
  pub base : Document
  pub stands : Run O (base_of log (branch_line b)) base
  pub own : AreCarried base b.own k.own (document_of k.doc)
  pub edited : HasOpen k (edited_on (branch_line b))

-- that of each of a client's branches
abbrev pub AreHeads : Document → List Entry → List Branch → List Head → Type 0
AreHeads O log [] [] = Unit {0}
AreHeads O log (b ∷ bs) [] = ⊥
AreHeads O log [] (k ∷ ks) = ⊥
AreHeads O log (b ∷ bs) (k ∷ ks) = IsHeadOf O log b k × AreHeads O log bs ks

-- what is kept is that to which the client's lists lead
pub record IsReplicaOf (h : HeaderView) (log : List Entry) (c : Client) (k : Replica) : Type 0 where
  pub received : HasReceived (opening_document h) log c (document_of k.received)
  -- the head of its main line stands on that document: its own commits are the pending ones, and what is edited beside
  -- them is that of the open transaction
  pub own : AreCarried (document_of k.received) c.pending k.main.own (document_of k.main.doc)
  pub edited : HasOpen k.main (joined_of c)
  pub branches : AreHeads (opening_document h) log c.branches k.branches
  pub names : k.names ≡ unsequenced c

-- what is kept of each client stands for its lists
abbrev pub AreReplicas : HeaderView → List Entry → List Client → List Replica → Type 0
AreReplicas h log [] [] = Unit {0}
AreReplicas h log (c ∷ cs) [] = ⊥
AreReplicas h log [] (k ∷ ks) = ⊥
AreReplicas h log (c ∷ cs) (k ∷ ks) = IsClient h log c × IsReplicaOf h log c k × AreReplicas h log cs ks

-- what holds of a world after so many steps
pub record IsSoundAfter (steps : ℕ) (w : World) : Type 0 where
  pub header : IsHeader (header_view w.header)
  pub kept : AreReplicas (header_view w.header) w.lists.log w.lists.clients w.kept
  -- each client has a session of its own, one of those that the log has given
  pub sessions : HaveOwnSessions w.lists.clients
  pub given : AllByRecursion (λ (c : Client). c.session ≤ sessions_in w.lists.log) w.lists.clients
  pub counted : w.sessions ≡ sessions_in w.lists.log
  pub few_sessions : sessions_in w.lists.log ≤ length w.lists.log
  pub clients : length w.lists.clients ≤ 64
  pub ids : AllByRecursion (λ (c : Client). c.ids ≤ steps) w.lists.clients
  pub forks : AllByRecursion (λ (c : Client). c.forks ≤ steps) w.lists.clients
  pub log : AllByRecursion IsEntryOf w.lists.log
  pub log_fit : FitInTurn (opening_document (header_view w.header)) (commits_in w.lists.log)
  pub log_new : HaveNewRevisions (opening ∷ []) (commits_in w.lists.log)
  pub own_ids : AllByRecursion HasOwnIds w.lists.log
  pub ranges : AreInTurn (ranges_in w.lists.log)
  -- which schema is the last in effect in a document is told by its revision, and the schema is kept
  pub schema : KeepToSchemas (header_view w.header) (HasReading w.schemas) w.lists.log w.lists.clients
  pub log_document : Run (opening_document (header_view w.header)) (commits_in w.lists.log) (document_of w.log_document)
  pub entries : length w.lists.log ≤ 65535
  pub names : w.names ≡ names_in (commits_in w.lists.log)
  pub few_names : names_in (commits_in w.lists.log) ≤ 131072
  pub known : AreKnown w.lists.log w.known
  -- who is connected, the minima and the commits of the log are those that it gives
  pub connected : AreConnected w.lists.log w.lists.clients
  pub minima : AreMinima w.lists.log w.minima
  pub logged : AreLogged (opening_document (header_view w.header)) w.lists.log w.logged

abbrev pub IsSound : World → Type 0
IsSound w = IsSoundAfter w.steps w
