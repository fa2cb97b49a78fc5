-- Where there is room for names in a log, its ledger has numbers left.
use Rattle.std.proofs.Common.{◌≡◌, ◌≤◌, ◌<◌, ◌+◌, ◌-◌, ◌^◌, ◌&&◌, ◌∙◌, ℕ, true, min, nat_le, nat_lt, not, is_some, List, length, arith}
use Rattle.std.proofs.lemmas.Bool.Decides.{nat_tests}
use Rattle.st_ledger.specs.Stands.{StandsFor}
use Rattle.st_ledger.specs.declared.ledger.Ledger.{Ledger}
use Rattle.st_clusters.specs.Ids.{ids_of}
use Rattle.st_ledger.proofs.RoomLeft.{entry_of_ledger, names_of_ledger}
use Rattle.st_lemmas.proofs.Bools.{and-first, and-second}
use Rattle.st_lists.specs.Limits.{log_limit_passed}
use Rattle.st_lists.specs.declared.lists.Entry.{Entry}
use Rattle.st_valid.specs.Room.{has_room_for_entry, has_room_for_names}

pub names_few : (log : List Entry) (names : ℕ) → has_room_for_names log names ≡ true → names ≤ 2048
names_few log names room =
    let few : nat_le names 2048 ≡ true = and-first (nat_le names 2048) (not (is_some (log_limit_passed log names))) room in
    grind (arith, nat_tests)

pub numbers_left : (l : Ledger) (log : List Entry) (names : ℕ) → StandsFor l log → has_room_for_names log names ≡ true → (l.entries + 1 < 2 ^ 32) × (l.names + names < 2 ^ 32)
numbers_left l log names stands room =
    let few : names ≤ 2048 = names_few log names room in
    let same : names ≡ min names (2 ^ 64 - 1) = omega (arith, few) in
    let both = and-second (nat_le names 2048) (nat_lt l.entries 65535 && nat_le (l.names + names) 131072) (names_of_ledger l names names log stands same ∙ room) in
    let entries : nat_lt l.entries 65535 ≡ true = and-first (nat_lt l.entries 65535) (nat_le (l.names + names) 131072) both in
    let all : nat_le (l.names + names) 131072 ≡ true = and-second (nat_lt l.entries 65535) (nat_le (l.names + names) 131072) both in
    let low : l.entries < 65535 = grind (arith, nat_tests) in
    let most : l.names + names ≤ 131072 = grind (arith, nat_tests) in
    (omega (arith, low), omega (arith, most))

-- and where there is room for an entry, it has numbers for it
pub entries_left : (l : Ledger) (log : List Entry) → StandsFor l log → has_room_for_entry log ≡ true → (l.entries < 65535) × (length (ids_of l.ids).sessions ≤ l.entries)
entries_left l log stands room =
    let same : nat_lt l.entries 65535 ≡ true = entry_of_ledger l log stands ∙ room in
    let low : l.entries < 65535 = grind (arith, nat_tests) in
    (low, stands.few)
