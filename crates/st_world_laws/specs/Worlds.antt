-- What holds of the lists of each world that steps lead to.
use Rattle.std.specs.Prelude.{◌≡◌, ℕ, ◌+◌, ◌<◌, ◌≤◌, Bool, true, false, List, [], ◌∷◌, ◌++◌, length, None, IfSome}
use Rattle.std.specs.List.{AllByRecursion}
use Rattle.st_ids.specs.Listing.{AreDistinct, Has}
use Rattle.st_marks.specs.declared.intents.Intent.{Intent}
use Rattle.st_ids.specs.Root.{opening}
use Rattle.st_marks.specs.Document.{Document, IsSoundInForm}
use Rattle.st_tree.specs.Preorder.{cell_named, node_named}
use Rattle.st_log_laws.specs.Names.{HaveNewRevisions, revisions}
use Rattle.st_log_laws.specs.Turns.{FitInTurn}
use Rattle.serde_json.specs.Written.{compact_text}
use Rattle.st_ids.specs.declared.names.NodeId.{NodeId}
use Rattle.st_ids.specs.declared.names.Rev.{Rev}
use Rattle.st_schema.specs.Written.{schema_data}
use Rattle.st_schema_laws.specs.Agreeing.{TellsHomes}
use Rattle.st_schema_laws.specs.AgreeingInEffect.{AgreesInLine, Told}
use Rattle.st_schema_laws.specs.Lines.{IsLine}
use Rattle.st_schema.specs.Schema.{is_sound}
use Rattle.st_lists.specs.Open.{FitsSoFar, with_open}
use Rattle.st_script.specs.Header.{HeaderView, may_open}
use Rattle.st_clusters.specs.Log.{AreInTurn, GoOn, carried_count}
use Rattle.st_clusters.specs.declared.ids.IdRange.{IdRange}
use Rattle.st_lists.specs.Log.{commit_of, commits_in, intents_of, is_text, log_and_waiting, own_in_flight, range_of, ranges_in, ranges_of, sessions_in, waiting}
use Rattle.st_lists.specs.Lines.{AreStanding, HasHead, HaveOwnTransactions, Line, all_commits, branch_line, commits_of, edited_on, main_line, own_of}
use Rattle.st_edits.specs.Fields.{register_in}
use Rattle.st_edits.specs.InEffect.{last_in_effect}
use Rattle.st_world.specs.World.{opening_document}
use Rattle.st_lists.specs.Names.{names_in, unsequenced}
use Rattle.st_lists.specs.declared.lists.Body.{Body}
use Rattle.st_lists.specs.declared.lists.Branch.{Branch}
use Rattle.st_lists.specs.declared.lists.Client.{Client}
use Rattle.st_lists.specs.declared.lists.Entry.{Entry}
use Rattle.st_lists.specs.declared.lists.Transaction.{Transaction}
use Rattle.std.proofs.Common.{◌≡◌, ◌≤◌, ◌+◌, ℕ, Bool, true, false, List, [], ◌∷◌, ◌++◌, length, None, IfSome}
use Rattle.st_lists.specs.declared.lists.WorldState.{WorldState}
use Rattle.st_script.specs.Steps.{ActView}
use Rattle.st_script.specs.Steps as step

-- if a commit changes the schema, the schema is known as one of its revision
abbrev pub IsKnownBy : (Rev → List ℕ → Type 0) → Intent → Type 0
IsKnownBy K N = IfSome N.schema (K N.rev)

-- ## One client

-- the commits of a client's main line lead to this document
abbrev pub HasMain : HeaderView → List Entry → Client → Document → Type 0
HasMain h log c D = HasHead (opening_document h) log (main_line c) D

-- what a transaction is that is open on a line, beside the lists of the line's owner
pub record IsTransaction (h : HeaderView) (log : List Entry) (l : Line) (owner : Client) (t : Transaction) : Type 0 where
  -- its revision is one of the owner's ids, and that of no commit
  pub session : t.rev.session ≡ owner.session
  pub num : t.rev.num ≤ owner.ids
  pub new : Has (revisions (all_commits log owner) ++ opening ∷ []) t.rev → ⊥
  -- its commit can still be one of the line's own, and it has given at most as many names as a commit may
  pub room : length l.own < 256
  pub counted : t.nodes + t.cells ≤ 2048
  -- in the line's document: it is made under the last schema in effect, what was edited fits, and the numbers that it
  -- may give are of no name that is there
  pub before : Document
  pub main : HasHead (opening_document h) log l before
  pub under : t.under ≡ last_in_effect before
  pub so_far : FitsSoFar before t.rev t.under t.joined
  pub sound : IsSoundInForm (with_open before t.joined)
  pub nodes : (k : ℕ) → t.nodes ≤ k → (with_open before t.joined).nodes (node_named t.rev k) ≡ None
  pub cells : (k : ℕ) → t.cells ≤ k → (with_open before t.joined).row_of (cell_named t.rev k) ≡ None

-- the commits of a line can be carried out in turn
abbrev pub LineFits : HeaderView → List Entry → Line → Type 0
LineFits h log l = FitInTurn (opening_document h) (commits_of log l)

-- the queue of a client that is connected has the commits that wait, and that of another is empty
abbrev pub IsQueue : List Intent → Bool → List Body → Type 0
IsQueue commits true queue = intents_of queue ≡ commits
IsQueue commits false queue = queue ≡ []

-- the texts that wait carry ids of the client's session, beside the ranges that the log carries: each goes on where the last
-- one of the session ended, and no id is carried that isn't generated; while it is connected, these are the ids that it has
-- taken
pub record IsCarried (ranges : List IdRange) (c : Client) : Type 0 where
  pub numbered : 1 ≤ c.session
  pub own : AllByRecursion (λ (r : IdRange). r.session ≡ c.session) (ranges_of c.queue)
  pub on : GoOn ranges (ranges_of c.queue)
  pub within : carried_count c.session (ranges ++ ranges_of c.queue) ≤ c.ids
  pub taken : c.connected ≡ true → c.taken ≡ carried_count c.session (ranges ++ ranges_of c.queue)

-- what a branch is, beside the lists of its owner
pub record IsBranch (h : HeaderView) (log : List Entry) (owner : Client) (b : Branch) : Type 0 where
  -- its number is one of those that were given
  pub numbered : 0 < b.number
  pub given : b.number ≤ owner.forks
  -- it stands on entries that its owner has received; it has at most 256 commits of its own, and they can be carried out in
  -- turn after those on which it stands
  pub within : b.received ≤ length log
  pub received : b.received ≤ owner.received
  pub few : length b.own ≤ 256
  pub fit : LineFits h log (branch_line b)
  -- it may have a transaction open
  pub transaction : IfSome b.transaction (IsTransaction h log (branch_line b) owner)

-- what a client's branches are beside the main one
pub record AreBranches (h : HeaderView) (log : List Entry) (c : Client) : Type 0 where
  pub few : length c.branches ≤ 16
  pub numbers : AreDistinct (λ (b : Branch). b.number) c.branches
  pub each : AllByRecursion (IsBranch h log c) c.branches
  -- each stands on its parent
  pub standing : AreStanding log (main_line c) [] c.branches
  -- their own commits are of the client's session
  pub own : AllByRecursion (λ (N : Intent). N.rev.session ≡ c.session) (own_of c.branches)
  pub transactions : HaveOwnTransactions c

-- what a client's lists are, beside the log
pub record IsClient (h : HeaderView) (log : List Entry) (c : Client) : Type 0 where
  pub within : c.received ≤ length log
  -- it has at most 256 commits pending, and with those of its branches and of open transactions 16,384 names
  pub few : length c.pending ≤ 256
  pub few_names : unsequenced c ≤ 16384
  -- pending are its commits in the log that it has not received, and then those that wait
  pub under_way : c.pending ≡ own_in_flight log c ++ waiting log c
  -- the queue has the commits that wait, while it is connected
  pub queued : IsQueue (waiting log c) c.connected c.queue
  -- what it shows, and what the log comes to when all that waits is sent, can be carried out in turn
  pub shown_fit : LineFits h log (main_line c)
  pub sent_fit : FitInTurn (opening_document h) (log_and_waiting log c)
  -- no revision is there twice, those that wait are of its session, and those of its session are among the ids that it generated
  pub new : HaveNewRevisions (opening ∷ []) (all_commits log c)
  pub own : AllByRecursion (λ (N : Intent). N.rev.session ≡ c.session) (waiting log c)
  pub ids : (N : Intent) → Has (all_commits log c) N → N.rev.session ≡ c.session → N.rev.num ≤ c.ids
  -- those that wait are texts
  pub texts : AllByRecursion (λ (text : Body). is_text text ≡ true) c.queue
  -- they carry the ids that it generated
  pub carried : IsCarried (ranges_in log) c
  -- it may have a transaction open, and other branches
  pub transaction : IfSome c.transaction (IsTransaction h log (main_line c) c)
  pub branches : AreBranches h log c

-- ## The world

-- no two clients have one session
abbrev pub HaveOwnSessions : List Client → Type 0
HaveOwnSessions cs = AreDistinct (λ (c : Client). c.session) cs

-- the header is one that a trace may open with
pub record IsHeader (h : HeaderView) : Type 0 where
  pub schema : is_sound h.schema ≡ true
  pub tree : may_open h.schema h.tree ≡ true

-- the homes that are told of the opening's nodes are the registers in which they stand
abbrev pub TellsOpening : Told → Document → Type 0
TellsOpening T O = (m : NodeId) → m.0.rev ≡ opening → T.home m ≡ register_in (O.place m)

-- the homes that are told of a commit's new nodes are the registers into which it puts them, and where it brings in a schema,
-- fewer than 64 are in the line of the one before
pub record IsMadeAsTold (T : Told) (N : Intent) : Type 0 where
  pub homes : TellsHomes T.home N
  pub room : IfSome N.schema (λ _. length (T.chain N.under) < 64)

-- some commits, one after the other from the document opened, agree with the schemas under which they were made, as it is
-- told, and each schema that they bring in is known; and each is made as it is told
pub record KeepsLine (K : Rev → List ℕ → Type 0) (T : Told) (O : Document) (Ns : List Intent) : Type 0 where
  pub line : IsLine T O Ns
  pub known : AllByRecursion (IsKnownBy K) Ns
  pub made : AllByRecursion (IsMadeAsTold T) Ns
  pub first : TellsOpening T O

-- those of a line do
abbrev pub CommitsKeepSchemas : HeaderView → (Rev → List ℕ → Type 0) → Told → List Entry → Line → Type 0
CommitsKeepSchemas h K T log l = KeepsLine K T (opening_document h) (commits_of log l)

-- what was edited in the transaction that is open on a line agrees with its schema in the line's document
abbrev pub EditsKeepSchemas : HeaderView → Told → List Entry → Line → Type 0
EditsKeepSchemas h T log l = (D : Document) → HasHead (opening_document h) log l D → IfSome (edited_on l) (AgreesInLine T D)

-- both hold of each branch of a client beside the main one
abbrev pub BranchesKeepSchemas : HeaderView → (Rev → List ℕ → Type 0) → Told → List Entry → Client → Type 0
BranchesKeepSchemas h K T log c = AllByRecursion (λ (b : Branch). CommitsKeepSchemas h K T log (branch_line b) × EditsKeepSchemas h T log (branch_line b)) c.branches

-- the header's schema is known, and each commit agrees with the schema under which it was made, as it is told
pub record KeepSchemasAsTold (h : HeaderView) (K : Rev → List ℕ → Type 0) (log : List Entry) (cs : List Client) (T : Told) : Type 0 where
  pub opened : K opening (compact_text (schema_data h.schema))
  -- the commits of the log, one after the other, and those that each client shows
  pub logged : KeepsLine K T (opening_document h) (commits_in log)
  pub shown : AllByRecursion (λ (c : Client). CommitsKeepSchemas h K T log (main_line c)) cs
  -- and what is edited in transactions that are open
  pub edited : AllByRecursion (λ (c : Client). EditsKeepSchemas h T log (main_line c)) cs
  -- on the main line, and on each other branch
  pub branches : AllByRecursion (BranchesKeepSchemas h K T log) cs

-- something can be told of commits and nodes so
pub record KeepToSchemas (h : HeaderView) (K : Rev → List ℕ → Type 0) (log : List Entry) (cs : List Client) : Type 0 where
  pub told : Told
  pub keep : KeepSchemasAsTold h K log cs told

-- an entry's commit has a revision of its session
abbrev pub IsEntryOf : Entry → Type 0
IsEntryOf e = IfSome (commit_of e) (λ N. N.rev.session ≡ e.session)

-- and the ids that it carries are of its session
abbrev pub HasOwnIds : Entry → Type 0
HasOwnIds e = IfSome (range_of e) (λ (r : IdRange). r.session ≡ e.session)

-- the lists alone don't tell which schemas are kept
abbrev pub Any : Rev → List ℕ → Type 0
Any rev text = Unit {0}

-- what holds of the lists of each world that steps lead to
pub record IsWorld (h : HeaderView) (w : WorldState) : Type 0 where
  pub header : IsHeader h
  pub clients : AllByRecursion (IsClient h w.log) w.clients
  pub sessions : HaveOwnSessions w.clients
  pub given : AllByRecursion (λ (c : Client). c.session ≤ sessions_in w.log) w.clients
  pub log : AllByRecursion IsEntryOf w.log
  pub log_fit : FitInTurn (opening_document h) (commits_in w.log)
  pub log_new : HaveNewRevisions (opening ∷ []) (commits_in w.log)
  pub schema : KeepToSchemas h Any w.log w.clients
  pub few_names : names_in (commits_in w.log) ≤ 131072
  -- the ranges of ids that the log carries go on from one another, session by session
  pub own_ids : AllByRecursion HasOwnIds w.log
  pub ranges : AreInTurn (ranges_in w.log)

-- an act that changes the schema brings one that keeps the rules
abbrev pub KeepsRules : ActView → Type 0
KeepsRules (step.upgrade new) = is_sound new ≡ true
KeepsRules act = Unit {0}
