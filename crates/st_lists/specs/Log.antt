-- The log: its commits, and what its entries say of how much each session had received.
use Rattle.std.specs.Prelude.{ℕ, ◌+◌, ◌-◌, ◌==◌, min, max, Bool, true, false, List, [], ◌∷◌, ◌++◌, length, take, drop, filter, fold, Option, Some, None, if◌then◌else◌}
use Rattle.std.specs.List.{filter_map, cons_option, list_any}
use Rattle.std.specs.Option.{option_map_or}
use Rattle.st_clusters.specs.Free.{free_number, spans_meet}
use Rattle.st_clusters.specs.declared.ids.IdRange.{IdRange}
use Rattle.st_marks.specs.declared.intents.Intent.{Intent}
use Rattle.st_lists.specs.declared.lists.Body.{Body}
use Rattle.st_lists.specs.declared.lists.Body.TheVariants.{Join, Leave, Ack, Commit}
use Rattle.st_lists.specs.declared.lists.Client.{Client}
use Rattle.st_lists.specs.declared.lists.Entry.{Entry}

-- the commit of an entry, if it is one
abbrev pub commit_in : Body → Option Intent
commit_in (Join uuid) = None
commit_in Leave = None
commit_in (Ack reference) = None
commit_in (Commit reference ids intent) = Some intent

abbrev pub commit_of : Entry → Option Intent
commit_of e = commit_in e.body

-- the commits of some entries, in their order
abbrev pub commits_in : List Entry → List Intent
commits_in entries = filter_map commit_of entries

-- the log with one more entry
abbrev pub log_with : List Entry → ℕ → Body → List Entry
log_with log session body = log ++ record { n = length log + 1; session = session; body = body } ∷ []

-- up to which entry its session had received the log: a join says so of itself, a text by its reference, and one who leaves
-- says nothing of it
abbrev pub reference_in : ℕ → Body → ℕ
reference_in n (Join uuid) = n
reference_in n Leave = 0
reference_in n (Ack reference) = reference
reference_in n (Commit reference ids intent) = reference

abbrev pub reference_of : Entry → ℕ
reference_of e = reference_in e.n e.body

-- sessions are counted from 1 by their first joins: so many are there in a log
abbrev pub sessions_in : List Entry → ℕ
sessions_in log = fold (λ most (e : Entry). max most e.session) 0 log

-- the known reference of a session: the greatest that its entries say
abbrev pub with_reference : ℕ → ℕ → Entry → ℕ
with_reference session known e = if e.session == session then max known (reference_of e) else known

abbrev pub known_reference : ℕ → List Entry → ℕ
known_reference session log = fold (with_reference session) 0 log

-- whether a session is connected after what an entry of its own says
abbrev pub connected_after : Bool → Body → Bool
connected_after before (Join uuid) = true
connected_after before Leave = false
connected_after before (Ack reference) = before
connected_after before (Commit reference ids intent) = before

abbrev pub connected_by : ℕ → Bool → Entry → Bool
connected_by session before e = if e.session == session then connected_after before e.body else before

-- a session is connected where the last of its joins and leaves is a join
abbrev pub is_connected : ℕ → List Entry → Bool
is_connected session log = fold (connected_by session) false log

-- the minimum after some entries: the least known reference of the sessions that are connected; with none connected, the
-- number of the last entry
abbrev pub minimum : List Entry → ℕ
minimum log = fold (λ least (e : Entry). if is_connected e.session log then min least (known_reference e.session log) else least) (length log) log

-- the floor of one who received so many entries: the minimum after them, less the history that is kept
abbrev pub floor : ℕ → List Entry → ℕ → ℕ
floor history log received = minimum (take received log) - history

-- ## Ids and UUIDs

-- the ids that a text carries, if it carries any
abbrev pub range_in : Body → Option IdRange
range_in (Join uuid) = None
range_in Leave = None
range_in (Ack reference) = None
range_in (Commit reference ids intent) = Some ids

-- the ranges of ids of some entries, in their order
abbrev pub range_of : Entry → Option IdRange
range_of e = range_in e.body

abbrev pub ranges_in : List Entry → List IdRange
ranges_in entries = filter_map range_of entries

-- those of the texts that wait
abbrev pub ranges_of : List Body → List IdRange
ranges_of texts = filter_map range_in texts

-- the UUID of an entry's session, if the entry tells one
abbrev pub uuid_in : Body → Option ℕ
uuid_in (Join uuid) = Some uuid
uuid_in Leave = None
uuid_in (Ack reference) = None
uuid_in (Commit reference ids intent) = None

abbrev pub uuid_told : Entry → Option ℕ
uuid_told e = uuid_in e.body

-- whether an entry tells a UUID whose span of stable ids meets that of another
abbrev pub meets : ℕ → Entry → Bool
meets uuid e = option_map_or (λ u. spans_meet (free_number u) (free_number uuid)) (uuid_told e) false

-- whether that of a session that joined does
abbrev pub clashes : ℕ → List Entry → Bool
clashes uuid log = list_any (meets uuid) log

-- ## The commits of one session

-- the commits of a text: one, or none
abbrev pub commits_of_text : Body → List Intent
commits_of_text text = cons_option (commit_in text) []

-- a text that waits is a commit, or says how much was received
abbrev pub is_text : Body → Bool
is_text (Join uuid) = false
is_text Leave = false
is_text (Ack reference) = true
is_text (Commit reference ids intent) = true

-- the commits of the texts that wait
abbrev pub intents_of : List Body → List Intent
intents_of texts = filter_map commit_in texts

-- the commits of a session among some entries
abbrev pub commits_by : ℕ → List Entry → List Intent
commits_by s entries = commits_in (filter (λ (e : Entry). e.session == s) entries)

-- those of a client in the log that it has not received
abbrev pub own_in_flight : List Entry → Client → List Intent
own_in_flight log c = commits_by c.session (drop c.received log)

-- its pending ones that are in no log
abbrev pub waiting : List Entry → Client → List Intent
waiting log c = drop (length (own_in_flight log c)) c.pending

-- all commits that are in the log, and those of a client that wait to get there
abbrev pub log_and_waiting : List Entry → Client → List Intent
log_and_waiting log c = commits_in log ++ waiting log c
