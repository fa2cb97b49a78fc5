-- The world, as lists alone: the log, and of each client what it received and what it has pending. What a client shows is
-- read off the document to which its list of commits leads from the opening.
use Rattle.std.specs.Prelude.{◌≡◌, ℕ, ◌+◌, ◌*◌, ◌^◌, Bool, true, false, nat_le, List, [], ◌∷◌, ◌++◌, length, slice_get, slice_set, Option, Some, None, is_some, option_map, Result, Ok, Err, if◌then◌else◌}
use Rattle.std.specs.List.{remove as remove_at}
use Rattle.serde_json.specs.Written.{compact_text}
use Rattle.st_clusters.specs.Free.{uuid_of}
use Rattle.st_ids.specs.declared.names.Limit.{Limit}
use Rattle.st_ids.specs.declared.names.LimitOf.TheVariants.{Clients, Log}
use Rattle.st_ids.specs.declared.names.Place.{Place}
use Rattle.st_ids.specs.declared.names.Rev.{Rev}
use Rattle.st_tree.specs.Node.{Node, nodes_of, first, no_nodes}
use Rattle.st_tree.specs.Preorder.{opening_listed}
use Rattle.st_tree.specs.declared.edit.EditFault.{EditFault}
use Rattle.st_tree.specs.declared.edit.EditFault.TheVariants as fault
use Rattle.st_edits.specs.ArrayTypes.{is_array_type}
use Rattle.st_schema.specs.Conforms.{conforms}
use Rattle.st_schema.specs.Schema.{SchemaView}
use Rattle.st_schema.specs.TreeText.{tree_data}
use Rattle.st_schema.specs.Written.{schema_data}
use Rattle.st_marks.specs.declared.intents.Intent.{Intent}
use Rattle.st_marks.specs.declared.verdicts.Verdict.{Verdict}
use Rattle.st_marks.specs.Document.{Document}
use Rattle.st_marks.specs.Intent.{group_cells}
use Rattle.st_marks.specs.LiveTree.{IsTreeText}
use Rattle.st_marks.specs.Verdict.{IsVerdict}
use Rattle.st_opening.specs.Start.{start_of}
use Rattle.st_edits.specs.InEffect.{last_in_effect, schema_in_effect}
use Rattle.st_edits.specs.declared.names.NameCounters.{NameCounters}
use Rattle.st_edits.specs.Resolve.{insert, remove, move, put, clear, need}
use Rattle.st_lists.specs.Open.{IsWithPart, with_open}
use Rattle.st_script.specs.Header.{HeaderView}
use Rattle.st_script.specs.Steps.{ActView, EditView, StepView}
use Rattle.st_script.specs.Steps as step
use Rattle.st_script.specs.declared.answer.Answer.{Answer}
use Rattle.st_script.specs.declared.answer.Answer.TheVariants as answer
use Rattle.st_script.specs.declared.refusal.Refusal.{Refusal}
use Rattle.st_script.specs.declared.refusal.Refusal.TheVariants as no
use Rattle.st_lists.specs.Clients.{HasReceived, client_named, new_client, new_transaction, next_rev, with_ack, with_id, with_connection, with_edited, with_received, without_connection}
use Rattle.st_lists.specs.Limits.{entries_limit_passed, limit_passed, log_limit_passed, names_limit_passed, own_limit_passed}
use Rattle.st_lists.specs.Lines.{HasHead, Line, branch_of, edited_on, line_of, main_line, with_commit_on, with_transaction_on}
use Rattle.st_lists.specs.Log.{clashes, commit_of, log_with, minimum, sessions_in, waiting}
use Rattle.st_lists.specs.Names.{names_in_text}
use Rattle.st_world.specs.Texts.{AreTextsOf}
use Rattle.st_lists.specs.Voids.{AreVoid}
use Rattle.st_world.specs.Branches.{IsMerged, IsRebased, drop_branch, fork, refusal_to_fork, refusal_to_merge, refusal_to_rebase}
use Rattle.st_world.specs.Kept.{IsKept, Unless}
use Rattle.st_world.specs.Undo.{IsAfterUndo}
use Rattle.st_world.specs.Upgrade.{change_of_schema, refusal_to_upgrade, upgrade}
use Rattle.st_world.specs.declared.edit_word.EditWord.{EditWord}
use Rattle.st_world.specs.declared.edit_word.EditWord.TheVariants as word
use Rattle.st_lists.specs.declared.lists.Body.TheVariants.{Join as Joined, Leave as Left}
use Rattle.st_lists.specs.declared.lists.Branch.{Branch}
use Rattle.st_lists.specs.declared.lists.Client.{Client}
use Rattle.st_lists.specs.declared.lists.Entry.{Entry}
use Rattle.st_lists.specs.declared.lists.Transaction.{Transaction}
use Rattle.st_lists.specs.declared.lists.WorldState.{WorldState}
use Rattle.st_lists.specs.declared.lists.Body.{Body}

-- ## Documents

-- the document that a trace opens with
abbrev pub opening_document : HeaderView → Document
opening_document h = start_of (opening_listed h.tree) (compact_text (schema_data h.schema))

-- ## Edits of one client

-- the intent that an edit means in a document, with the names that it may give, or the first refusal
abbrev pub intent_of : Document → SchemaView → NameCounters → EditView → Result Intent EditFault
intent_of D s G (step.insert at key index items) = insert D s G at key index (nodes_of items)
intent_of D s G (step.remove at key index count) = remove D s G at key index count
intent_of D s G (step.move at key index count to to_key to_index) = move D s G at key index count to to_key to_index
intent_of D s G (step.set at key item) = put D s G at key (first item no_nodes)
intent_of D s G (step.clear at key) = clear D s G at key

-- what is refused of an edit
abbrev pub refusal_of : EditFault → Refusal
refusal_of (fault.NoNode depth) = no.NoNode depth
refusal_of fault.Kind = no.Kind
refusal_of fault.Range = no.Range
refusal_of fault.Inside = no.Inside
refusal_of (fault.NotAllowed at) = no.NotAllowed at
refusal_of (fault.Limit l) = no.Limit l

-- which answer an edit gets that is accepted
abbrev pub word_of : EditView → EditWord
word_of (step.insert at key index items) = word.Insert
word_of (step.remove at key index count) = word.Remove
word_of (step.move at key index count to to_key to_index) = word.Move
word_of (step.set at key item) = word.Set
word_of (step.clear at key) = word.Clear

-- the answer to an edit that is accepted, with the revision of its commit
abbrev pub answer_of : EditWord → Rev → Answer
answer_of word.Insert rev = answer.Insert rev
answer_of word.Remove rev = answer.Remove rev
answer_of word.Move rev = answer.Move rev
answer_of word.Set rev = answer.Set rev
answer_of word.Clear rev = answer.Clear rev
answer_of word.Need rev = answer.Need rev

-- the names that an edit may give: those of the next commit, or the next ones of the transaction that is open
abbrev pub next_names : Client → Option Transaction → NameCounters
next_names c None = record { rev = next_rev c; nodes = 0; cells = 0 }
next_names c (Some t) = record { rev = t.rev; nodes = t.nodes; cells = t.cells }

-- how many numbers of cells an edit gives: one for each cell that it makes, and one for a node that is set, which needs none
abbrev pub cells_given : EditWord → Intent → ℕ
cells_given word.Insert M = length (group_cells M)
cells_given word.Remove M = length (group_cells M)
cells_given word.Move M = length (group_cells M)
cells_given word.Set M = length (group_cells M) + 1
cells_given word.Clear M = length (group_cells M)
cells_given word.Need M = length (group_cells M)

-- an id is generated and its commit is the last of a line from now on, if it passes no limit
abbrev pub with_new_on : Client → ℕ → EditWord → Intent → Option Limit → Client × Answer
with_new_on c k word N None = (with_commit_on (with_id c) k N, answer_of word (next_rev c))
with_new_on c k word N (Some o) = (c, answer.No (no.Limit o))

-- an edit that is refused, or whose commit is the last of its line from now on
abbrev pub after_edit : Client → ℕ → Line → EditWord → Result Intent EditFault → Client × Answer
after_edit c k l word (Err f) = (c, answer.No (refusal_of f))
after_edit c k l word (Ok N) = with_new_on c k word N (limit_passed c k l N)

-- ## Transactions

-- an edit in the transaction of a line is joined to what was edited in it before, if it passes no limit
abbrev pub IsJoined : Client → ℕ → Transaction → EditWord → Intent → Option Limit → Client → Answer → Type 0
IsJoined c k t word M None d a = (J : Intent) × IsWithPart t.joined M J
    × (d ≡ with_transaction_on c k (Some (with_edited t J (length M.new) (cells_given word M)))) × (a ≡ answer_of word t.rev)
IsJoined c k t word M (Some o) d a = IsKept c d a (answer.No (no.Limit o))

-- an edit in a transaction, which is refused or joined to the others
abbrev pub IsEditedIn : Client → ℕ → Transaction → EditWord → Result Intent EditFault → Client → Answer → Type 0
IsEditedIn c k t word (Err f) d a = IsKept c d a (answer.No (refusal_of f))
IsEditedIn c k t word (Ok M) d a = IsJoined c k t word M (names_limit_passed c M) d a

-- an edit is a commit of its own where no transaction is open
abbrev pub IsAfterEdit : Client → ℕ → Line → Option Transaction → EditWord → Result Intent EditFault → Client → Answer → Type 0
IsAfterEdit c k l None word meant d a = after_edit c k l word meant ≡ (d, a)
IsAfterEdit c k l (Some t) word meant d a = IsEditedIn c k t word meant d a

-- a need is an edit that only a transaction has
abbrev pub IsAfterNeed : Client → ℕ → Option Transaction → Result Intent EditFault → Client → Answer → Type 0
IsAfterNeed c k None meant d a = IsKept c d a (answer.No no.NotBegun)
IsAfterNeed c k (Some t) meant d a = IsEditedIn c k t word.Need meant d a

-- a transaction begins, if it passes no limit
abbrev pub with_beginning : Client → ℕ → Rev → Option Limit → Client × Answer
with_beginning c k under None = (record (with_transaction_on c k (Some (new_transaction (next_rev c) under))) { ids = c.ids + 1 }, answer.Begin (next_rev c))
with_beginning c k under (Some o) = (c, answer.No (no.Limit o))

-- a transaction begins where none is open, made under the schema that is last in effect
abbrev pub begin : Client → ℕ → Line → Option Transaction → Rev → Client × Answer
begin c k l None under = with_beginning c k under (own_limit_passed k l 1)
begin c k l (Some t) under = (c, answer.No no.Unfinished)

-- what was edited, if anything was, is a commit now, of the revision that the transaction has
abbrev pub after_commit : Client → ℕ → Rev → Option Intent → Client × Answer
after_commit c k rev None = (c, answer.Commit None)
after_commit c k rev (Some J) = (with_commit_on c k J, answer.Commit (Some rev))

abbrev pub commit : Client → ℕ → Option Transaction → Client × Answer
commit c k None = (c, answer.No no.NotBegun)
commit c k (Some t) = after_commit (with_transaction_on c k None) k t.rev t.joined

-- what was edited is dropped; the revision stays used
abbrev pub abort : Client → ℕ → Option Transaction → Client × Answer
abort c k None = (c, answer.No no.NotBegun)
abort c k (Some t) = (with_transaction_on c k None, answer.Abort)

-- ## Receiving

-- the verdict of an entry where it comes; one without a commit is sound
abbrev pub IsVerdictOf : Document → Option Intent → Verdict → Type 0
IsVerdictOf D None v = v ≡ Verdict.Sound
IsVerdictOf D (Some N) v = IsVerdict D N v

-- the next entry, if there is one, is received; its verdict is that in the document of the entries before it
abbrev pub IsDeliveredTo : Document → Client → Option Entry → Client → Answer → Type 0
IsDeliveredTo D c None d a = IsKept c d a (answer.No no.NothingNew)
IsDeliveredTo D c (Some e) d a = (void : Verdict) × IsVerdictOf D (commit_of e) void × (d ≡ with_received e c) × (a ≡ answer.Deliver (c.received + 1) void)

-- nothing is received while a transaction is open
abbrev pub IsDeliveredIn : Document → Client → Option Transaction → Option Entry → Client → Answer → Type 0
IsDeliveredIn D c None next d a = IsDeliveredTo D c next d a
IsDeliveredIn D c (Some t) next d a = IsKept c d a (answer.No no.Unfinished)

-- ## What a client shows

-- a line shows the document of its commits, and while a transaction is open that one with what was edited carried out whole
abbrev pub HasShown : Document → List Entry → Line → Document → Type 0
HasShown O log l E = (D : Document) × HasHead O log l D × (E ≡ with_open D (edited_on l))

-- ## The world

-- the client at a place is now so
abbrev pub with_client : WorldState → ℕ → Client × Answer → WorldState × Answer
with_client w i p = (record w { clients = slice_set w.clients i p.0 }, p.1)

-- a refusal by a limit, with the count that stands
abbrev pub limit_refusal : Limit → Answer
limit_refusal l = answer.No (no.Limit l)

-- the UUID of a session: the one that is told, or else the one whose free number is the session's times 2^64
abbrev pub uuid_for : ℕ → Option ℕ → ℕ
uuid_for session None = uuid_of (session * 2 ^ 64)
uuid_for session (Some uuid) = uuid

-- a client enters by a session with a UUID
abbrev pub enter : WorldState → ℕ → ℕ → List ℕ → WorldState × Answer
enter w session uuid name = (
  record w {
    log = log_with w.log session (Joined uuid);
    clients = w.clients ++ new_client (length w.log + 1) session uuid name ∷ [];
  },
  answer.Join (length w.log + 1) session,
)

-- it does, if its stable ids are those of no session before
abbrev pub enter_apart : WorldState → ℕ → ℕ → List ℕ → WorldState × Answer
enter_apart w session uuid name = if clashes uuid w.log then (w, answer.No no.Clash) else enter w session uuid name

-- a client of a name that no other has, by the next session: at most 64 clients at a time, also those that are not
-- connected, and 65,535 entries
abbrev pub join : WorldState → List ℕ → Option ℕ → WorldState × Answer
join w name told =
    if nat_le 64 (length w.clients) then (w, limit_refusal (record { of = Clients; kept = length w.clients })) else
    if nat_le 65535 (length w.log) then (w, limit_refusal (record { of = Log; kept = length w.log })) else
    enter_apart w (sessions_in w.log + 1) (uuid_for (sessions_in w.log + 1) told) name

-- a client leaves, if the log has room: it is gone, and its name is free
abbrev pub leave : WorldState → ℕ → Client → Option Limit → WorldState × Answer
leave w i c None = (record w { log = log_with w.log c.session Left; clients = remove_at w.clients i }, answer.Leave (length w.log + 1))
leave w i c (Some l) = (w, limit_refusal l)

-- a client is dropped, if the log has room: it stays, and isn't connected
abbrev pub drop_client : WorldState → ℕ → Client → Option Limit → WorldState × Answer
drop_client w i c None = (record w { log = log_with w.log c.session Left; clients = slice_set w.clients i (without_connection c) }, answer.Drop (length w.log + 1))
drop_client w i c (Some l) = (w, limit_refusal l)

-- why a client can't come back: it is connected, has a transaction open, or the log has no room
abbrev pub refusal_to_reconnect : List Entry → Client → Option Refusal
refusal_to_reconnect log c =
    if c.connected then Some no.Connected else
    if is_some c.transaction then Some no.Unfinished else option_map (λ l. no.Limit l) (entries_limit_passed log)

-- a client comes back by a new join of its session, and sends anew what is in no log
abbrev pub reconnect : WorldState → ℕ → Client → Option Refusal → WorldState × Answer
reconnect w i c None = (
  record w { log = log_with w.log c.session (Joined c.uuid); clients = slice_set w.clients i (with_connection w.log c) },
  answer.Reconnect (length w.log + 1) (length (waiting w.log c)),
)
reconnect w i c (Some why) = (w, answer.No why)

-- a text enters the log, if it passes no limit
abbrev pub after_entry : WorldState → ℕ → Client → Body → List Body → Option Limit → WorldState × Answer
after_entry w i c text rest None =
    let log = log_with w.log c.session text in
    let clients = slice_set w.clients i (record c { queue = rest }) in
    (record w { log = log; clients = clients }, answer.Sequence (minimum log) (length log))
after_entry w i c text rest (Some l) = (w, limit_refusal l)

-- the oldest text of a client's queue enters the log
abbrev pub sequence : WorldState → ℕ → Client → List Body → WorldState × Answer
sequence w i c [] = (w, answer.No no.NothingToSend)
sequence w i c (text ∷ rest) = after_entry w i c text rest (log_limit_passed w.log (names_in_text text))

-- ## Steps

-- a step that changes nothing, and its answer
abbrev pub IsUnchanged : WorldState → WorldState → Answer → Answer → Type 0
IsUnchanged w v a b = (v ≡ w) × (a ≡ b)

-- the client at a place, and none else, takes a step that goes by the document that one of its lines shows
abbrev pub IsDoneIn : HeaderView → WorldState → ℕ → Line → (Document → Client → Answer → Type 0) → WorldState → Answer → Type 0
IsDoneIn h w i l does v a = (D : Document) × (d : Client) × HasShown (opening_document h) w.log l D × does D d a
    × (v ≡ record w { clients = slice_set w.clients i d })

-- an edit is resolved in the document that the line shows, by that one's schema
abbrev pub IsEdited : HeaderView → WorldState → ℕ → Client → ℕ → Line → EditView → WorldState → Answer → Type 0
IsEdited h w i c k l e v a = IsDoneIn h w i l (λ D. IsAfterEdit c k l l.transaction (word_of e) (intent_of D (schema_in_effect D) (next_names c l.transaction) e)) v a

-- the node that a path leads to in the document shown is needed
abbrev pub IsNeeded : HeaderView → WorldState → ℕ → Client → ℕ → Line → List Place → WorldState → Answer → Type 0
IsNeeded h w i c k l at v a = IsDoneIn h w i l (λ D. IsAfterNeed c k l.transaction (need D (next_names c l.transaction) at)) v a

-- a transaction begins under the schema that is last in effect in the document shown
abbrev pub IsBegun : HeaderView → WorldState → ℕ → Client → ℕ → Line → WorldState → Answer → Type 0
IsBegun h w i c k l v a = IsDoneIn h w i l (λ D d b. begin c k l l.transaction (last_in_effect D) ≡ (d, b)) v a

-- the client receives the next entry
abbrev pub IsDelivered : HeaderView → WorldState → ℕ → Client → WorldState → Answer → Type 0
IsDelivered h w i c v a = (D : Document) × (d : Client) × HasReceived (opening_document h) w.log c D
    × IsDeliveredIn D c c.transaction (slice_get w.log c.received) d a × (v ≡ record w { clients = slice_set w.clients i d })

-- the client undoes a commit, of those that it received and has pending
abbrev pub IsUndoneBy : HeaderView → WorldState → ℕ → Client → Rev → WorldState → Answer → Type 0
IsUndoneBy h w i c rev v a = (d : Client) × IsAfterUndo (opening_document h) h.history w.log c c.transaction rev d a × (v ≡ record w { clients = slice_set w.clients i d })

-- the client makes the schema of what its main line shows wider, by a commit made under the last entry in effect
abbrev pub IsUpgradedBy : HeaderView → WorldState → ℕ → Client → SchemaView → WorldState → Answer → Type 0
IsUpgradedBy h w i c new v a =
    IsDoneIn h w i (main_line c) (λ D d b. upgrade c (change_of_schema (next_rev c) (last_in_effect D) new) (refusal_to_upgrade c (schema_in_effect D) (length D.schemas) new) ≡ (d, b)) v a

-- a branch begins, and stands on a line
abbrev pub IsForked : WorldState → ℕ → Client → ℕ → Line → WorldState → Answer → Type 0
IsForked w i c k l v a = with_client w i (fork c k l (refusal_to_fork c l)) ≡ (v, a)

-- the branch of a number, which isn't the main one, takes a step that goes by its parent's line
abbrev pub OnParent : WorldState → (Line → Type 0) → Option Line → WorldState → Answer → Type 0
OnParent w does None v a = IsUnchanged w v a (answer.No no.NoBranch)
OnParent w does (Some parent) v a = does parent

abbrev pub OnOwnBranch : WorldState → Client → (Branch → Line → Type 0) → Option Branch → WorldState → Answer → Type 0
OnOwnBranch w c does None v a = IsUnchanged w v a (answer.No no.NoBranch)
OnOwnBranch w c does (Some b) v a = OnParent w (does b) (line_of c b.parent) v a

-- a branch is brought up to date
abbrev pub IsRebasedBy : HeaderView → WorldState → ℕ → Client → ℕ → WorldState → Answer → Type 0
IsRebasedBy h w i c k v a = OnOwnBranch w c (λ b parent. (d : Client) × Unless (refusal_to_rebase b) c d a (IsRebased (opening_document h) w.log c k b parent d a)
    × (v ≡ record w { clients = slice_set w.clients i d })) (branch_of c k) v a

-- a branch is merged
abbrev pub IsMergedBy : HeaderView → WorldState → ℕ → Client → ℕ → WorldState → Answer → Type 0
IsMergedBy h w i c k v a = OnOwnBranch w c (λ b parent. (d : Client) × Unless (refusal_to_merge c k b parent) c d a (IsMerged (opening_document h) w.log c k b parent d a)
    × (v ≡ record w { clients = slice_set w.clients i d })) (branch_of c k) v a

-- a branch is dropped
abbrev pub IsBranchDropped : WorldState → ℕ → Client → ℕ → WorldState → Answer → Type 0
IsBranchDropped w i c k v a = OnOwnBranch w c (λ b parent. with_client w i (drop_branch c k) ≡ (v, a)) (branch_of c k) v a

-- the text of the tree that a line shows, in which nodes have rows as the schema of its document says
abbrev pub IsShown : HeaderView → WorldState → Line → Answer → Type 0
IsShown h w l a = (D : Document) × (tree : List ℕ) × HasShown (opening_document h) w.log l D
    × IsTreeText (is_array_type (schema_in_effect D)) D tree × (a ≡ answer.Show tree)

-- the text of each pending commit as the change that it is after the commits received and the pending ones before it, and
-- the revisions of those that are void there
abbrev pub IsPendingTold : HeaderView → WorldState → Client → Answer → Type 0
IsPendingTold h w c a = (D : Document) × (texts : List (List ℕ)) × (void : List Rev) × HasReceived (opening_document h) w.log c D
    × AreTextsOf D c.pending texts × AreVoid D c.pending void × (a ≡ answer.Pending texts void)

-- what an act makes of the world, for its client and that one's place, on the line of a number
abbrev pub IsActOf : HeaderView → WorldState → ActView → ℕ → Client → ℕ → Line → WorldState → Answer → Type 0
IsActOf h w (step.join uuid) i c k l v a = IsUnchanged w v a (answer.No no.Taken)
IsActOf h w (step.edit e) i c k l v a = IsEdited h w i c k l e v a
IsActOf h w (step.need at) i c k l v a = IsNeeded h w i c k l at v a
IsActOf h w step.begin i c k l v a = IsBegun h w i c k l v a
IsActOf h w step.commit i c k l v a = with_client w i (commit c k l.transaction) ≡ (v, a)
IsActOf h w step.abort i c k l v a = with_client w i (abort c k l.transaction) ≡ (v, a)
IsActOf h w (step.undo rev) i c k l v a = IsUndoneBy h w i c rev v a
IsActOf h w (step.upgrade schema) i c k l v a = IsUpgradedBy h w i c schema v a
IsActOf h w step.sequence i c k l v a = sequence w i c c.queue ≡ (v, a)
IsActOf h w step.ack i c k l v a = with_client w i (with_ack c, answer.Ack c.received) ≡ (v, a)
IsActOf h w step.deliver i c k l v a = IsDelivered h w i c v a
IsActOf h w step.leave i c k l v a = leave w i c (entries_limit_passed w.log) ≡ (v, a)
IsActOf h w step.drop_client i c k l v a = drop_client w i c (entries_limit_passed w.log) ≡ (v, a)
IsActOf h w step.reconnect i c k l v a = reconnect w i c (refusal_to_reconnect w.log c) ≡ (v, a)
IsActOf h w step.fork i c k l v a = IsForked w i c k l v a
IsActOf h w step.rebase i c k l v a = IsRebasedBy h w i c k v a
IsActOf h w step.merge i c k l v a = IsMergedBy h w i c k v a
IsActOf h w step.drop_branch i c k l v a = IsBranchDropped w i c k v a
IsActOf h w step.show i c k l v a = (v ≡ w) × IsShown h w l a
IsActOf h w step.pending i c k l v a = (v ≡ w) × IsPendingTold h w c a

-- where no client has the name: one joins, and nothing else is done
abbrev pub act_of_none : WorldState → List ℕ → ActView → WorldState × Answer
act_of_none w name (step.join uuid) = join w name uuid
act_of_none w name (step.edit e) = (w, answer.No no.NoClient)
act_of_none w name (step.need at) = (w, answer.No no.NoClient)
act_of_none w name step.begin = (w, answer.No no.NoClient)
act_of_none w name step.commit = (w, answer.No no.NoClient)
act_of_none w name step.abort = (w, answer.No no.NoClient)
act_of_none w name (step.undo rev) = (w, answer.No no.NoClient)
act_of_none w name (step.upgrade schema) = (w, answer.No no.NoClient)
act_of_none w name step.sequence = (w, answer.No no.NoClient)
act_of_none w name step.ack = (w, answer.No no.NoClient)
act_of_none w name step.deliver = (w, answer.No no.NoClient)
act_of_none w name step.leave = (w, answer.No no.NoClient)
act_of_none w name step.drop_client = (w, answer.No no.NoClient)
act_of_none w name step.reconnect = (w, answer.No no.NoClient)
act_of_none w name step.fork = (w, answer.No no.NoClient)
act_of_none w name step.rebase = (w, answer.No no.NoClient)
act_of_none w name step.merge = (w, answer.No no.NoClient)
act_of_none w name step.drop_branch = (w, answer.No no.NoClient)
act_of_none w name step.show = (w, answer.No no.NoClient)
act_of_none w name step.pending = (w, answer.No no.NoClient)

-- the branch that an act is on: what a client does as a whole is on the main one, 0, whatever branch stands beside it
abbrev pub branch_at : ℕ → ActView → ℕ
branch_at branch (step.join uuid) = 0
branch_at branch (step.edit e) = branch
branch_at branch (step.need at) = branch
branch_at branch step.begin = branch
branch_at branch step.commit = branch
branch_at branch step.abort = branch
branch_at branch (step.undo rev) = 0
branch_at branch (step.upgrade schema) = 0
branch_at branch step.sequence = 0
branch_at branch step.ack = 0
branch_at branch step.deliver = 0
branch_at branch step.leave = 0
branch_at branch step.drop_client = 0
branch_at branch step.reconnect = 0
branch_at branch step.fork = branch
branch_at branch step.rebase = branch
branch_at branch step.merge = branch
branch_at branch step.drop_branch = branch
branch_at branch step.show = branch
branch_at branch step.pending = 0

-- whether only a client that is connected does the act
abbrev pub needs_connection : ActView → Bool
needs_connection (step.join uuid) = false
needs_connection (step.edit e) = false
needs_connection (step.need at) = false
needs_connection step.begin = false
needs_connection step.commit = false
needs_connection step.abort = false
needs_connection (step.undo rev) = false
needs_connection (step.upgrade schema) = false
needs_connection step.sequence = true
needs_connection step.ack = true
needs_connection step.deliver = true
needs_connection step.leave = true
needs_connection step.drop_client = true
needs_connection step.reconnect = false
needs_connection step.fork = false
needs_connection step.rebase = false
needs_connection step.merge = false
needs_connection step.drop_branch = false
needs_connection step.show = false
needs_connection step.pending = false

-- an act that needs a connection is refused of a client that has none
abbrev pub ByConnected : Bool → Bool → WorldState → WorldState → Answer → Type 0 → Type 0
ByConnected false connected w v a next = next
ByConnected true true w v a next = next
ByConnected true false w v a next = IsUnchanged w v a (answer.No no.NotConnected)

-- an act on a line that the client has
abbrev pub OnLine : WorldState → (Line → Type 0) → Option Line → WorldState → Answer → Type 0
OnLine w does None v a = IsUnchanged w v a (answer.No no.NoBranch)
OnLine w does (Some l) v a = does l

-- a step of the client at a place, on the line of a number
abbrev pub AtLine : HeaderView → WorldState → ActView → ℕ → Client → ℕ → WorldState → Answer → Type 0
AtLine h w act i c k v a = OnLine w (λ l. ByConnected (needs_connection act) c.connected w v a (IsActOf h w act i c k l v a)) (line_of c k) v a

-- a step of the client at its place, if there is one
abbrev pub AtClient : HeaderView → WorldState → StepView → Option (ℕ × Client) → WorldState → Answer → Type 0
AtClient h w s None v a = act_of_none w s.client s.act ≡ (v, a)
AtClient h w s (Some p) v a = AtLine h w s.act p.0 p.1 (branch_at s.branch s.act) v a

-- the world after a step, and the answer
abbrev pub IsNext : HeaderView → WorldState → StepView → WorldState → Answer → Type 0
IsNext h w s v a = AtClient h w s (client_named s.client w.clients) v a

-- ## Answers

-- what holds where an answer is a refusal
abbrev pub AtRefusal : Answer → Type 0 → Type 0
AtRefusal (answer.No why) P = P
AtRefusal a P = Unit {0}

-- the JSON text of a tree that the schema allows as its root
abbrev pub IsAllowedText : SchemaView → List ℕ → Type 0
IsAllowedText s text = (t : Node) × (conforms s s.root t ≡ true) × (text ≡ compact_text (tree_data t))

-- what holds of the text of the tree that an answer shows, if it shows one
abbrev pub AtShow : (List ℕ → Type 0) → Answer → Type 0
AtShow P (answer.Show text) = P text
AtShow P a = Unit {0}

-- the document that is shown on the line of a step's client and branch
abbrev pub IsShownTo : HeaderView → WorldState → StepView → Document → Type 0
IsShownTo h w s D = (p : ℕ × Client) × (l : Line) × (client_named s.client w.clients ≡ Some p) × (line_of p.1 (branch_at s.branch s.act) ≡ Some l)
    × HasShown (opening_document h) w.log l D

-- the tree that an answer to a step shows, if it shows one, is one that the schema of the document shown allows
abbrev pub ShowsAllowed : HeaderView → WorldState → StepView → Answer → Type 0
ShowsAllowed h w s a = AtShow (λ text. (D : Document) × IsShownTo h w s D × IsAllowedText (schema_in_effect D) text) a
