-- What each world keeps to which steps lead, so that each entry of its log has a valid message.
use Rattle.std.specs.Prelude.{◌≡◌, ◌<◌, ◌≤◌, ◌+◌, ◌||◌, ℕ, true, List, [], ◌∷◌, ◌++◌, length, slice_get, take, Some}
use Rattle.std.specs.List.{AllByRecursion}
use Rattle.st_carried_ids.specs.CarriedIds.{CarryFew}
use Rattle.st_ids.specs.Listing.{Has}
use Rattle.st_marks.specs.declared.intents.Intent.{Intent}
use Rattle.st_lists.specs.Known.{AreConnected}
use Rattle.st_lists.specs.Log.{commits_of_text, is_connected, known_reference, reference_in, sessions_in}
use Rattle.st_lists.specs.Names.{names_made}
use Rattle.st_lists.specs.declared.lists.Body.{Body}
use Rattle.st_lists.specs.declared.lists.Body.TheVariants.{Join, Leave, Ack, Commit}
use Rattle.st_lists.specs.declared.lists.Client.{Client}
use Rattle.st_lists.specs.declared.lists.Entry.{Entry}
use Rattle.st_lists.specs.declared.lists.WorldState.{WorldState}
use Rattle.st_author_lists.specs.Authors.{FitAuthors}
use Rattle.st_schema_laws.specs.AgreeingInEffect.{Told}
use Rattle.st_script.specs.Header.{HeaderView}
use Rattle.st_valid.specs.Author.{author_list}
use Rattle.st_valid.specs.Room.{connected_in}
use Rattle.st_valid.specs.Sessions.{comes_back, has_joined, is_new_session}
use Rattle.st_world.specs.World.{opening_document}
use Rattle.st_world_laws.specs.Worlds.{Any, IsWorld, KeepsLine}
use Rattle.st_world_messages.specs.Steps.{own_commits}

-- something holds of each entry of a log, behind the entries before it
abbrev pub EachBehind : (List Entry → Entry → Type 0) → List Entry → Type 0
EachBehind Q log = (i : ℕ) (e : Entry) → slice_get log i ≡ Some e → Q (take i log) e

-- ## Entries in order

-- the session of an entry is a new one that joins, or one that comes back; all else is said by one that is connected
abbrev pub MaySay : List Entry → ℕ → Body → Type 0
MaySay log session (Join uuid) = (is_new_session session uuid log || comes_back session uuid log) ≡ true
MaySay log session Leave = is_connected session log ≡ true
MaySay log session (Ack reference) = is_connected session log ≡ true
MaySay log session (Commit reference ids N) = is_connected session log ≡ true

-- the reference that a text tells isn't below the known one, and not past the log
pub record RefersWithin (log : List Entry) (session reference : ℕ) : Type 0 where
  pub least : known_reference session log ≤ reference
  pub most : reference ≤ length log

abbrev pub Refers : List Entry → ℕ → Body → Type 0
Refers log session (Join uuid) = Unit {0}
Refers log session Leave = Unit {0}
Refers log session (Ack reference) = RefersWithin log session reference
Refers log session (Commit reference ids N) = RefersWithin log session reference

-- there is room for it
abbrev pub HasRoom : List Entry → Body → Type 0
HasRoom log (Join uuid) = (length log < 65535) × (connected_in log < 64)
HasRoom log Leave = length log < 65535
HasRoom log (Ack reference) = length log < 65535
HasRoom log (Commit reference ids N) = (length log < 65535) × (names_made N ≤ 2048)

pub record EntersInOrder (log : List Entry) (e : Entry) : Type 0 where
  pub number : e.n ≡ length log + 1
  pub may : MaySay log e.session e.body
  pub refers : Refers log e.session e.body
  pub room : HasRoom log e.body

-- ## Clients in order

-- the references of texts that wait rise from one number to another
abbrev pub Rise : ℕ → ℕ → List Body → Type 0
Rise low high [] = low ≤ high
Rise low high (text ∷ texts) = (low ≤ reference_in 0 text) × Rise (reference_in 0 text) high texts

pub record SpeaksInOrder (steps : ℕ) (log : List Entry) (c : Client) : Type 0 where
  -- it has joined with its UUID
  pub joined : has_joined c.session c.uuid log ≡ true
  -- its texts refer to more and more, from what is known of its session up to what it received
  pub rise : Rise (known_reference c.session log) c.received c.queue
  -- each commit that waits, or is a branch's, makes at most 2,048 names
  pub small : (N : Intent) → Has (own_commits c) N → names_made N ≤ 2048
  -- a step generates one id at most
  pub ids : c.ids ≤ steps

-- after so many steps
pub record IsOrdered (steps : ℕ) (w : WorldState) : Type 0 where
  pub log : EachBehind EntersInOrder w.log
  pub clients : AllByRecursion (SpeaksInOrder steps w.log) w.clients
  -- the sessions that are connected are those of the clients that are
  pub connected : AreConnected w.log w.clients
  pub few : length w.clients ≤ 64
  -- no session has a greater number than the log has entries, and none has received more than these
  pub sessions : sessions_in w.log ≤ length w.log
  pub known : (session : ℕ) → known_reference session w.log ≤ length w.log
  pub carried : CarryFew steps w.log

-- ## What commits are written over

-- something holds of the commits over which a session writes one, with that one behind them
abbrev pub IsWrittenSo : (List Intent → Type 0) → List Entry → ℕ → List Intent → Body → Type 0
IsWrittenSo P log session before (Join uuid) = Unit {0}
IsWrittenSo P log session before Leave = Unit {0}
IsWrittenSo P log session before (Ack reference) = Unit {0}
IsWrittenSo P log session before (Commit reference ids N) = (reference ≤ length log) × P ((author_list log session reference ++ before) ++ N ∷ [])

-- so for each of the texts that wait, behind those before it
abbrev pub AreWrittenSo : (List Intent → Type 0) → List Entry → ℕ → List Intent → List Body → Type 0
AreWrittenSo P log session before [] = Unit {0}
AreWrittenSo P log session before (text ∷ texts) = IsWrittenSo P log session before text × AreWrittenSo P log session (before ++ commits_of_text text) texts

pub record EachIsWrittenSo (P : List Intent → Type 0) (w : WorldState) : Type 0 where
  pub log : EachBehind (λ log e. IsWrittenSo P log e.session [] e.body) w.log
  pub waiting : AllByRecursion (λ (c : Client). AreWrittenSo P w.log c.session [] c.queue) w.clients

-- some commits, one after the other from the document opened, agree with the schemas under which they were made, as something
-- tells, and are made as it tells
abbrev pub AreALine : HeaderView → List Intent → Type 0
AreALine h Ns = (T : Told) × KeepsLine Any T (opening_document h) Ns

-- each commit was made under a schema that its author had, and agrees with it where it was written
abbrev pub KnowTheirSchemas : HeaderView → WorldState → Type 0
KnowTheirSchemas h w = EachIsWrittenSo (AreALine h) w

-- ## The world

-- a world to which so many steps lead: it is one, each commit fits where its author wrote it, and all comes in order
pub record SendsInOrder (h : HeaderView) (steps : ℕ) (w : WorldState) : Type 0 where
  pub world : IsWorld h w
  pub authors : FitAuthors h w
  pub order : IsOrdered steps w
  pub schemas : KnowTheirSchemas h w
