-- What a step does to a world: nothing, or one client goes on by itself, or one entry comes.
use Rattle.std.specs.Prelude.{◌≡◌, ◌⊎◌, ◌<◌, ◌≤◌, ◌+◌, ℕ, true, false, List, [], ◌∷◌, ◌++◌, length, Option, None, Some, IfSome, slice_get, slice_set}
use Rattle.std.specs.List.{AllByRecursion, remove}
use Rattle.st_clusters.specs.Free.{is_v4}
use Rattle.st_ids.specs.Listing.{Has}
use Rattle.st_marks.specs.declared.intents.Intent.{Intent}
use Rattle.st_lists.specs.Clients.{new_client, with_connection, without_connection}
use Rattle.st_lists.specs.Limits.{log_limit_passed}
use Rattle.st_lists.specs.Lines.{own_of}
use Rattle.st_lists.specs.Log.{clashes, log_with, sessions_in}
use Rattle.st_lists.specs.Names.{names_in_text, names_made}
use Rattle.st_lists.specs.declared.lists.Body.{Body}
use Rattle.st_lists.specs.declared.lists.Body.TheVariants.{Join, Leave, Ack, Commit}
use Rattle.st_lists.specs.declared.lists.Client.{Client}
use Rattle.st_lists.specs.declared.lists.WorldState.{WorldState}
use Rattle.st_script.specs.Steps.{ActView}
use Rattle.st_script.specs.Steps as step
use Rattle.st_world.specs.World.{uuid_for}

-- an act that joins with a UUID brings one of a kind
abbrev pub Brings : (ℕ → Type 0) → ActView → Type 0
Brings U (step.join told) = IfSome told U
Brings U act = Unit {0}

abbrev pub IsVersion4 : ℕ → Type 0
IsVersion4 u = is_v4 u ≡ true

abbrev pub BringsVersion4 : ActView → Type 0
BringsVersion4 act = Brings IsVersion4 act

-- ## One client

-- a client's commits that wait, and its branches' own
abbrev pub own_commits : Client → List Intent
own_commits c = c.pending ++ own_of c.branches

-- a text tells so many entries as received
abbrev pub RefersTo : ℕ → Body → Type 0
RefersTo n (Join uuid) = ⊥
RefersTo n Leave = ⊥
RefersTo n (Ack reference) = reference ≡ n
RefersTo n (Commit reference ids N) = reference ≡ n

-- a client after something that it does by itself
pub record GoesOn (c d : Client) : Type 0 where
  pub session : d.session ≡ c.session
  pub uuid : d.uuid ≡ c.uuid
  pub connected : d.connected ≡ c.connected
  pub received : c.received ≤ d.received
  pub ids : d.ids ≤ c.ids + 1
  -- some texts more wait behind the others, and refer to what it has received
  pub written : List Body
  pub queue : d.queue ≡ c.queue ++ written
  pub refer : AllByRecursion (RefersTo d.received) written
  -- each of its commits is an old one, or makes at most 2,048 names
  pub commits : (N : Intent) → Has (own_commits d) N → Has (own_commits c) N ⊎ (names_made N ≤ 2048)

-- ## The world

-- a UUID that a new client brings is of a kind
pub data LeadsTo (U : ℕ → Type 0) (w : WorldState) : WorldState → Type 0 where
  -- nothing changes
  stays : LeadsTo U w w
  -- a client goes on
  goes : (i : ℕ) (c d : Client) → slice_get w.clients i ≡ Some c → GoesOn c d → LeadsTo U w (record w { clients = slice_set w.clients i d })
  -- the oldest text of a client that is connected enters the log
  sends : (i : ℕ) (c : Client) (text : Body) (rest : List Body) → slice_get w.clients i ≡ Some c → c.connected ≡ true → c.queue ≡ text ∷ rest
      → log_limit_passed w.log (names_in_text text) ≡ None → LeadsTo U w (record w { log = log_with w.log c.session text; clients = slice_set w.clients i (record c { queue = rest }) })
  -- one that is connected leaves, or is dropped
  leaves : (i : ℕ) (c : Client) → slice_get w.clients i ≡ Some c → c.connected ≡ true → length w.log < 65535
      → LeadsTo U w (record w { log = log_with w.log c.session Leave; clients = remove w.clients i })
  drops : (i : ℕ) (c : Client) → slice_get w.clients i ≡ Some c → c.connected ≡ true → length w.log < 65535
      → LeadsTo U w (record w { log = log_with w.log c.session Leave; clients = slice_set w.clients i (without_connection c) })
  -- one that isn't connected comes back
  returns : (i : ℕ) (c : Client) → slice_get w.clients i ≡ Some c → c.connected ≡ false → length w.log < 65535
      → LeadsTo U w (record w { log = log_with w.log c.session (Join c.uuid); clients = slice_set w.clients i (with_connection w.log c) })
  -- a new one joins by the next session, with the UUID that is told, or else the session's own
  joins : (name : List ℕ) (told : Option ℕ) → IfSome told U → length w.clients < 64 → length w.log < 65535 → clashes (uuid_for (sessions_in w.log + 1) told) w.log ≡ false
      → LeadsTo U w (record w {
        log = log_with w.log (sessions_in w.log + 1) (Join (uuid_for (sessions_in w.log + 1) told));
        clients = w.clients ++ new_client (length w.log + 1) (sessions_in w.log + 1) (uuid_for (sessions_in w.log + 1) told) name ∷ [];
      })
