-- For which log a ledger stands.
use Rattle.std.specs.Prelude.{◌≡◌, ◌≤◌, ℕ, ◌==◌, Bool, false, List, length, is_some}
use Rattle.std.specs.BTreeMap.{get}
use Rattle.std.specs.List.{list_any}
use Rattle.std.specs.Option.{option_map_or}
use Rattle.st_ids.specs.Listing.{AreDistinct, Has}
use Rattle.st_ids.specs.Order.{rev_cmp, same_rev}
use Rattle.st_ids.specs.declared.names.Rev.{Rev}
use Rattle.st_clusters.specs.Free.{free_number, spans_meet}
use Rattle.st_clusters.specs.Ids.{ids_of}
use Rattle.st_clusters.specs.Log.{IsTableOf}
use Rattle.st_clusters.specs.Table.{session_of}
use Rattle.st_clusters.specs.declared.ids.SessionIds.{SessionIds}
use Rattle.st_lists.specs.Known.{AreKnown}
use Rattle.st_lists.specs.Log.{clashes, commits_in, is_connected, ranges_in, sessions_in}
use Rattle.st_lists.specs.Names.{names_in}
use Rattle.st_lists.specs.declared.lists.Entry.{Entry}
use Rattle.st_marks.specs.declared.intents.Intent.{Intent}
use Rattle.st_valid.specs.Sessions.{has_joined}
use Rattle.st_ledger.specs.declared.ledger.Ledger.{Ledger}

-- whether the stable ids of a session meet those of a UUID
abbrev pub meets_span : ℕ → SessionIds → Bool
meets_span uuid x = spans_meet (free_number x.uuid) (free_number uuid)

-- the sessions of a table, with their UUIDs, are those that joined in a log
pub record AreSessionsOf (log : List Entry) (ss : List SessionIds) : Type 0 where
  pub count : length ss ≡ sessions_in log
  pub uuids : (s uuid : ℕ) → option_map_or (λ (x : SessionIds). x.uuid == uuid) (session_of ss s) false ≡ has_joined s uuid log
  pub spans : (uuid : ℕ) → list_any (meets_span uuid) ss ≡ clashes uuid log

-- the sessions listed are those that are connected, each once, and none is 0
pub record AreConnectedIn (log : List Entry) (connected : List ℕ) : Type 0 where
  pub each : (s : ℕ) → list_any (λ (t : ℕ). t == s) connected ≡ is_connected s log
  pub once : AreDistinct (λ (t : ℕ). t) connected
  pub some : (s : ℕ) → Has connected s → 1 ≤ s

-- what is kept is what the log says; there are at most as many sessions as entries, as each joined in one
pub record StandsFor (l : Ledger) (log : List Entry) : Type 0 where
  pub entries : l.entries ≡ length log
  pub ids : IsTableOf (ranges_in log) (ids_of l.ids)
  pub sessions : AreSessionsOf log (ids_of l.ids).sessions
  pub few : length (ids_of l.ids).sessions ≤ l.entries
  pub known : AreKnown log l.known
  pub connected : AreConnectedIn log l.connected
  pub names : l.names ≡ names_in (commits_in log)
  pub revisions : (r : Rev) → is_some (get rev_cmp l.revisions r) ≡ list_any (λ (N : Intent). same_rev N.rev r) (commits_in log)
