-- What is kept beside the log: the references of sessions that are known, and the minima.
use Rattle.std.specs.Prelude.{◌≡◌, ◌+◌, ◌<◌, ℕ, true, List, length, slice_get, take, Some, unwrap_or}
use Rattle.std.specs.BTreeMap.{BTreeMap, get}
use Rattle.std.specs.Ordering.{nat_cmp}
use Rattle.st_ids.specs.Listing.{Has}
use Rattle.st_lists.specs.Log.{is_connected, known_reference, minimum}
use Rattle.st_lists.specs.declared.lists.Client.{Client}
use Rattle.st_lists.specs.declared.lists.Entry.{Entry}

abbrev pub known_so_far : BTreeMap ℕ ℕ → ℕ → ℕ
known_so_far known session = unwrap_or (get nat_cmp known session) 0

-- they are those that the log says
abbrev pub AreKnown : List Entry → BTreeMap ℕ ℕ → Type 0
AreKnown log known = (session : ℕ) → known_so_far known session ≡ known_reference session log

-- a client is connected exactly where its session is, and the sessions that are connected are clients'
pub record AreConnected (log : List Entry) (clients : List Client) : Type 0 where
  pub each : (c : Client) → Has clients c → is_connected c.session log ≡ c.connected
  pub no_other : (session : ℕ) → is_connected session log ≡ true → (c : Client) × Has clients c × (c.session ≡ session)

-- the minimum after each entry, in order
pub record AreMinima (log : List Entry) (minima : List ℕ) : Type 0 where
  pub size : length minima ≡ length log
  pub each : (i : ℕ) → i < length log → slice_get minima i ≡ Some (minimum (take (i + 1) log))
