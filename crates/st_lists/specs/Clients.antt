-- The clients of a world: who is there, and what a client's own steps make of its lists.
use Rattle.std.specs.Prelude.{◌≡◌, ℕ, ◌+◌, ◌-◌, ◌≤◌, ◌==◌, ◌&&◌, Bool, true, false, List, length, [], ◌∷◌, ◌++◌, drop, take, position, slice_get, nat_eq, Option, Some, None, is_some, option_map, option_and_then, if◌then◌else◌}
use Rattle.std.specs.Cmp.Lexicographic.{pointwise}
use Rattle.st_clusters.specs.Log.{carried_count}
use Rattle.st_clusters.specs.declared.ids.IdRange.{IdRange}
use Rattle.st_ids.specs.declared.names.Rev.{Rev}
use Rattle.st_marks.specs.declared.intents.Intent.{Intent}
use Rattle.st_marks.specs.Document.{Document}
use Rattle.st_marks.specs.Run.{Run}
use Rattle.st_lists.specs.Log.{commit_of, commits_in, ranges_in, waiting}
use Rattle.st_lists.specs.declared.lists.Body.{Body}
use Rattle.st_lists.specs.declared.lists.Body.TheVariants.{Ack, Commit}
use Rattle.st_lists.specs.declared.lists.Client.{Client}
use Rattle.st_lists.specs.declared.lists.Entry.{Entry}
use Rattle.st_lists.specs.declared.lists.Transaction.{Transaction}
use Rattle.st_lists.specs.declared.lists.WorldState.{WorldState}

-- ## Who is there

-- the world before any client joins
abbrev pub empty_state : WorldState
empty_state = record { log = []; clients = [] }

-- the client of a name, and its place
abbrev pub place_of : List ℕ → List Client → Option ℕ
place_of name clients = position (λ (c : Client). pointwise nat_eq c.name name) clients

abbrev pub client_named : List ℕ → List Client → Option (ℕ × Client)
client_named name clients = option_and_then (λ i. option_map (λ c. (i, c)) (slice_get clients i)) (place_of name clients)

-- a new client has received all of the log, with its own join
abbrev pub new_client : ℕ → ℕ → ℕ → List ℕ → Client
new_client n session uuid name =
    record { name = name; session = session; uuid = uuid; connected = true; received = n; ids = 0; taken = 0; pending = []; transaction = None; queue = []; forks = 0; branches = [] }

-- ## The commits of a client

-- the commits that a client received, in their order
abbrev pub received_by : List Entry → Client → List Intent
received_by log c = commits_in (take c.received log)

-- the commits that a client received, carried out from the document opened, lead to this document
abbrev pub HasReceived : Document → List Entry → Client → Document → Type 0
HasReceived O log c D = Run O (received_by log c) D

-- the revision of its next commit
abbrev pub next_rev : Client → Rev
next_rev c = record { session = c.session; num = c.ids + 1 }

-- a text waits in the queue of a client that is connected; one that isn't has no queue
abbrev pub queue_with : Client → Body → List Body
queue_with c text = if c.connected then c.queue ++ text ∷ [] else c.queue

-- the ids of a session from the one after so many up to another
abbrev pub ids_from : ℕ → ℕ → ℕ → IdRange
ids_from session taken ids = record { session = session; first = taken + 1; count = ids - taken }

-- how many ids the texts of a client have taken, where one more is written: all that it generated, if it is connected
abbrev pub taken_with : Client → ℕ
taken_with c = if c.connected then c.ids else c.taken

-- one that is connected has taken no ids but those that it generated
abbrev pub KeepsIds : Client → Type 0
KeepsIds c = c.connected ≡ true → c.taken ≤ c.ids

-- a commit is pending, and its text waits, which takes the ids that no text has taken yet
abbrev pub with_commit : Client → Intent → Client
with_commit c intent = record c {
  taken = taken_with c;
  pending = c.pending ++ intent ∷ [];
  queue = queue_with c (Commit c.received (ids_from c.session c.taken c.ids) intent);
}

-- one more id is generated
abbrev pub with_id : Client → Client
with_id c = record c { ids = c.ids + 1 }

-- a commit for which an id is generated, that its text takes
abbrev pub with_new_commit : Client → Intent → Client
with_new_commit c intent = with_commit (with_id c) intent

-- it tells how many entries it received, by a text that waits in the queue
abbrev pub with_ack : Client → Client
with_ack c = record c { queue = c.queue ++ Ack c.received ∷ [] }

-- ## Transactions

-- a transaction that begins: it has the next revision, and nothing is edited in it
abbrev pub new_transaction : Rev → Rev → Transaction
new_transaction rev under = record { rev = rev; under = under; joined = None; nodes = 0; cells = 0 }

abbrev pub with_begun : Client → Rev → Client
with_begun c under = record c { ids = c.ids + 1; transaction = Some (new_transaction (next_rev c) under) }

-- a transaction after an edit: what was edited is now so, and so many numbers more were given
abbrev pub with_edited : Transaction → Intent → ℕ → ℕ → Transaction
with_edited t joined nodes cells = record t { joined = Some joined; nodes = t.nodes + nodes; cells = t.cells + cells }

-- the client after an edit in its transaction
abbrev pub with_transaction : Client → Transaction → Client
with_transaction c t = record c { transaction = Some t }

-- no transaction is open any more
abbrev pub without_transaction : Client → Client
without_transaction c = record c { transaction = None }

-- what was edited in the transaction that is open, if one is
abbrev pub joined_of : Client → Option Intent
joined_of c = option_and_then (λ (t : Transaction). t.joined) c.transaction

-- ## Receiving

-- whether an entry is a commit of its own
abbrev pub is_own : Entry → Client → Bool
is_own e c = is_some (commit_of e) && (e.session == c.session)

-- what stays pending after an entry: a commit of its own was the first of them
abbrev pub pending_after : Entry → Client → List Intent
pending_after e c = if is_own e c then drop 1 c.pending else c.pending

abbrev pub with_received : Entry → Client → Client
with_received e c = record c { received = c.received + 1; pending = pending_after e c }

-- ## Leaving and coming back

-- a client that is dropped has no queue; what is pending and edited stays
abbrev pub without_connection : Client → Client
without_connection c = record c { connected = false; queue = [] }

-- texts of commits that are written one after the other, under one reference: the first takes all ids from the one after so
-- many, and there are none left for the others
abbrev pub texts_from : ℕ → ℕ → ℕ → ℕ → List Intent → List Body
texts_from reference session taken ids [] = []
texts_from reference session taken ids (N ∷ Ns) = Commit reference (ids_from session taken ids) N ∷ texts_from reference session ids ids Ns

-- how many ids are taken after them
abbrev pub taken_after : ℕ → ℕ → List Intent → ℕ
taken_after taken ids [] = taken
taken_after taken ids (N ∷ Ns) = ids

-- how many ids of its own the log carries
abbrev pub carried_of : List Entry → Client → ℕ
carried_of log c = carried_count c.session (ranges_in log)

-- one that comes back has received the whole log, with its new join as the last entry; what was in no log is pending
-- still, and waits with the join's number as its reference, from the ids on that the log doesn't carry
abbrev pub with_connection : List Entry → Client → Client
with_connection log c = record c {
  connected = true;
  received = length log + 1;
  taken = taken_after (carried_of log c) c.ids (waiting log c);
  pending = waiting log c;
  queue = texts_from (length log + 1) c.session (carried_of log c) c.ids (waiting log c);
}
