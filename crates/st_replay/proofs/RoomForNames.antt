-- For how many names there is room in a log.
use Rattle.std.proofs.Common.{◌≡◌, ◌≤◌, ◌<◌, ◌+◌, ◌^◌, ℕ, Bool, true, false, cond, not, is_some, nat_le, nat_lt, List, length, None, Some, refl, arith}
use Rattle.std.proofs.lemmas.Bool.Decides.{nat_tests}
use Rattle.st_lemmas.proofs.Bools.{and-both, and-true}
use Rattle.st_lists.specs.Limits.{log_limit_passed}
use Rattle.st_lists.specs.Log.{commits_in}
use Rattle.st_lists.specs.Names.{names_in}
use Rattle.st_lists.specs.declared.lists.Entry.{Entry}
use Rattle.st_ledger.specs.Stands.{StandsFor}
use Rattle.st_ledger.specs.declared.ledger.Ledger.{Ledger}
use Rattle.st_valid.specs.Room.{has_room_for_names}

none_passed : {A : Type 0} (a b : Bool) (x y : A) → not (is_some (cond a (Some x) (cond b (Some y) None))) ≡ true → (a ≡ false) × (b ≡ false)
none_passed true b x y e = cc
none_passed false true x y e = cc
none_passed false false x y e = (refl, refl)

passed_none : {A : Type 0} (a b : Bool) (x y : A) → a ≡ false → b ≡ false → not (is_some (cond a (Some x) (cond b (Some y) None))) ≡ true
passed_none true b x y e f = cc
passed_none false true x y e f = cc
passed_none false false x y e f = refl

-- there is room for so many names
pub record HasRoom (log : List Entry) (names : ℕ) : Type 0 where
  pub few : names ≤ 2048
  pub entries : length log < 65535
  pub all : names_in (commits_in log) + names ≤ 131072

pub room_told : (log : List Entry) (names : ℕ) → has_room_for_names log names ≡ true → HasRoom log names
room_told log names e =
    let p = and-true (nat_le names 2048) (not (is_some (log_limit_passed log names))) e in
    let q = none_passed (nat_le 65535 (length log)) (nat_lt 131072 (names_in (commits_in log) + names)) _ _ p.1 in
    record { few = grind (arith, nat_tests, p.0); entries = grind (arith, nat_tests, q.0); all = grind (arith, nat_tests, q.1) }

room_is : (log : List Entry) (names : ℕ) → HasRoom log names → has_room_for_names log names ≡ true
room_is log names h =
    let few : nat_le names 2048 ≡ true = let l = h.few in grind (arith, nat_tests) in
    let entries : nat_le 65535 (length log) ≡ false = let l = h.entries in grind (arith, nat_tests) in
    let all : nat_lt 131072 (names_in (commits_in log) + names) ≡ false = let l = h.all in grind (arith, nat_tests) in
    and-both (nat_le names 2048) (not (is_some (log_limit_passed log names))) few (passed_none (nat_le 65535 (length log)) (nat_lt 131072 (names_in (commits_in log) + names)) _ _ entries all)

pub room_for_less : (log : List Entry) (names less : ℕ) → less ≤ names → has_room_for_names log names ≡ true → has_room_for_names log less ≡ true
room_for_less log names less low e =
    let h = room_told log names e in
    let few = h.few in
    let all = h.all in
    room_is log less (record { few = omega (arith, low, few); entries = h.entries; all = omega (arith, low, all) })

-- ## The ledger

pub entries_fit : (l : Ledger) (log : List Entry) (names : ℕ) → StandsFor l log → has_room_for_names log names ≡ true → l.entries + 1 < 2 ^ 32
entries_fit l log names stands room = let h = (room_told log names room).entries in let e = stands.entries in omega (arith, h, e)

pub names_fit : (l : Ledger) (log : List Entry) (names : ℕ) → StandsFor l log → has_room_for_names log names ≡ true → l.names + names < 2 ^ 32
names_fit l log names stands room = let h = (room_told log names room).all in let e = stands.names in omega (arith, h, e)

pub names_few : (log : List Entry) (names : ℕ) → has_room_for_names log names ≡ true → names ≤ 2048
names_few log names room = (room_told log names room).few
