-- Messages, and the JSON values that they are. A change stays a value here: what its names are depends on the table of ids.
use Rattle.std.specs.Prelude.{ℕ, ◌^◌, nat_lt, List, [], ◌∷◌, Bool, ◌&&◌, not, is_some, Option, None, Some, option_and_then, option_map, codes, if◌then◌else◌}
use Rattle.std.specs.Int.{w128, from_be_bytes}
use Rattle.serde_json.specs.Data.{Data, number, unsigned, string, array, object, item, no_items, member, no_members}
use Rattle.serde_json.specs.Find.{as_object, as_str, get}
use Rattle.uuid.specs.Text.{parsed}
use Rattle.st_clusters.specs.declared.ids.IdRange.{IdRange}
use Rattle.st_idcodec.specs.TableText.{uuid_text}
use Rattle.st_mark_reader.specs.Reading.{is_named, member_of, small_number}
use Rattle.st_schema.specs.Reading.{two_items}
use Rattle.st_schema.specs.Schema.{same}
use Rattle.st_msg.specs.declared.parts.Head.{Head}

-- ## Messages

-- what a message says: its session joins, leaves, tells how many entries it has received, or commits a change, after so many
-- entries and with so many ids
pub data SaidView : Type 0 where
  Join : ℕ → SaidView
  Leave : SaidView
  Ack : ℕ → SaidView
  Commit : ℕ → IdRange → Data → SaidView

-- a message: its number in the log, the minimum after it, its session, and what it says
pub record MessageView : Type 0 where
  pub n : ℕ
  pub min : ℕ
  pub session : ℕ
  pub said : SaidView

-- ## What is written

abbrev pub number_data : ℕ → Data
number_data n = number (unsigned n)

-- a change with the member `schema` is one of the schema
abbrev pub is_upgrade : Data → Bool
is_upgrade change = is_some (get (codes "schema") change)

-- how a commit of a change is called
abbrev pub kind_of : Data → List ℕ
kind_of change = if is_upgrade change then codes "schema" else codes "op"

-- the first id that a commit carries, and how many
abbrev pub ids_data : IdRange → Data
ids_data ids = array (item (number_data ids.first) (item (number_data ids.count) no_items))

-- the members of an object stand in the order of their names
abbrev pub said_data : ℕ → ℕ → ℕ → SaidView → Data
said_data n min s (Join uuid) = object (
    member (codes "kind") (string (codes "join")) (
    member (codes "min") (number_data min) (
    member (codes "n") (number_data n) (
    member (codes "s") (number_data s) (
    member (codes "uuid") (string (uuid_text uuid)) no_members)))))
said_data n min s Leave = object (
    member (codes "kind") (string (codes "leave")) (
    member (codes "min") (number_data min) (
    member (codes "n") (number_data n) (
    member (codes "s") (number_data s) no_members))))
said_data n min s (Ack reference) = object (
    member (codes "kind") (string (codes "ack")) (
    member (codes "min") (number_data min) (
    member (codes "n") (number_data n) (
    member (codes "ref") (number_data reference) (
    member (codes "s") (number_data s) no_members)))))
said_data n min s (Commit reference ids change) = object (
    member (codes "change") change (
    member (codes "ids") (ids_data ids) (
    member (codes "kind") (string (kind_of change)) (
    member (codes "min") (number_data min) (
    member (codes "n") (number_data n) (
    member (codes "ref") (number_data reference) (
    member (codes "s") (number_data s) no_members)))))))

-- the value of a message
abbrev pub message_data : MessageView → Data
message_data m = said_data m.n m.min m.session m.said

-- ## What is read

-- the number, the minimum and the session
abbrev pub head_of : Data → Option Head
head_of d =
    option_and_then (λ n.
    option_and_then (λ min.
    option_map (λ session. record { n = n; min = min; session = session })
    (member_of small_number (codes "s") d)) (member_of small_number (codes "min") d)) (member_of small_number (codes "n") d)

-- a number of 128 bits
abbrev pub if_wide : ℕ → Option ℕ
if_wide u = if nat_lt u (2 ^ 128) then Some u else None

-- the number of the UUID that a text is: of any version, and in any form that a UUID has
abbrev pub uuid_number : List ℕ → Option ℕ
uuid_number s = option_and_then if_wide (option_map (from_be_bytes w128) (parsed s))

abbrev pub uuid_of : Data → Option ℕ
uuid_of d = option_and_then uuid_number (as_str d)

abbrev pub join_of : Data → Option SaidView
join_of d = option_map (λ uuid. Join uuid) (member_of uuid_of (codes "uuid") d)

abbrev pub ack_of : Data → Option SaidView
ack_of d = option_map (λ reference. Ack reference) (member_of small_number (codes "ref") d)

-- two numbers
abbrev pub ids_of : Data → Option (ℕ × ℕ)
ids_of d = option_and_then (λ p. option_and_then (λ first. option_map (λ count. (first, count)) (small_number p.1)) (small_number p.0)) (two_items d)

-- the commit of a change by a session, which the ids are of
abbrev pub commit_of : ℕ → Data → Data → Option SaidView
commit_of s d change =
    option_and_then (λ reference.
    option_map (λ p. Commit reference (record { session = s; first = p.0; count = p.1 }) change)
    (member_of ids_of (codes "ids") d)) (member_of small_number (codes "ref") d)

-- a change of data is an object without the member `schema`, a change of the schema one with it
abbrev pub edits_in : Data → Option Data
edits_in change = if is_some (as_object change) && not (is_upgrade change) then Some change else None

abbrev pub upgrade_in : Data → Option Data
upgrade_in change = if is_upgrade change then Some change else None

abbrev pub edits_of : ℕ → Data → Option SaidView
edits_of s d = option_and_then (commit_of s d) (member_of edits_in (codes "change") d)

abbrev pub upgrade_of : ℕ → Data → Option SaidView
upgrade_of s d = option_and_then (commit_of s d) (member_of upgrade_in (codes "change") d)

abbrev pub join_names : List (List ℕ)
join_names = codes "kind" ∷ codes "min" ∷ codes "n" ∷ codes "s" ∷ codes "uuid" ∷ []

abbrev pub leave_names : List (List ℕ)
leave_names = codes "kind" ∷ codes "min" ∷ codes "n" ∷ codes "s" ∷ []

abbrev pub ack_names : List (List ℕ)
ack_names = codes "kind" ∷ codes "min" ∷ codes "n" ∷ codes "ref" ∷ codes "s" ∷ []

abbrev pub commit_names : List (List ℕ)
commit_names = codes "change" ∷ codes "ids" ∷ codes "kind" ∷ codes "min" ∷ codes "n" ∷ codes "ref" ∷ codes "s" ∷ []

-- what is said in a message of a kind of commit, which has the members of that kind and no others
abbrev pub commit_named : List ℕ → ℕ → Data → Option SaidView
commit_named kind s d =
    if same kind (codes "op") && is_named commit_names d then edits_of s d else
    if same kind (codes "schema") && is_named commit_names d then upgrade_of s d else None

-- what is said in a message of any kind
abbrev pub said_named : List ℕ → ℕ → Data → Option SaidView
said_named kind s d =
    if same kind (codes "join") && is_named join_names d then join_of d else
    if same kind (codes "leave") && is_named leave_names d then Some Leave else
    if same kind (codes "ack") && is_named ack_names d then ack_of d else commit_named kind s d

abbrev pub said_of : ℕ → Data → Option SaidView
said_of s d = option_and_then (λ kind. said_named kind s d) (member_of as_str (codes "kind") d)

abbrev pub message_with : Head → SaidView → MessageView
message_with h said = record { n = h.n; min = h.min; session = h.session; said = said }

-- the message that a value is, if it is one
abbrev pub message_of : Data → Option MessageView
message_of d = option_and_then (λ h. option_map (λ said. message_with h said) (said_of h.session d)) (head_of d)
