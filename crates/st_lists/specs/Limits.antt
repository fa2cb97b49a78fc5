-- The limits on what waits and on the log.
use Rattle.std.specs.Prelude.{ℕ, zero, suc, ◌+◌, ◌==◌, nat_le, nat_lt, List, length, Option, Some, None, if◌then◌else◌}
use Rattle.std.specs.Option.{option_or}
use Rattle.st_ids.specs.declared.names.Limit.{Limit}
use Rattle.st_ids.specs.declared.names.LimitOf.{LimitOf}
use Rattle.st_ids.specs.declared.names.LimitOf.TheVariants.{Branch, Branches, Log, Names, Pending, Unsequenced}
use Rattle.st_marks.specs.declared.intents.Intent.{Intent}
use Rattle.st_lists.specs.Lines.{Line, main_line}
use Rattle.st_lists.specs.Log.{commits_in}
use Rattle.st_lists.specs.Names.{names_in, names_made, unsequenced}
use Rattle.st_lists.specs.declared.lists.Client.{Client}
use Rattle.st_lists.specs.declared.lists.Entry.{Entry}

-- what is limited on the line of a number: pending commits on the main one, and else the commits of a branch
abbrev pub limit_on : ℕ → LimitOf
limit_on k = if k == 0 then Pending else Branch

-- the limit that so many more commits on it would pass beside so many
abbrev pub line_limit : ℕ → ℕ → ℕ → Option Limit
line_limit k own more = if nat_lt 256 (own + more) then Some (record { of = limit_on k; kept = own }) else None

-- the limit that so many more commits of its own on a line would pass: at most 256 commits
abbrev pub own_limit_passed : ℕ → Line → ℕ → Option Limit
own_limit_passed zero l more = if nat_lt 256 (length l.own + more) then Some (record { of = Pending; kept = length l.own }) else None
own_limit_passed (suc k) l more = if nat_lt 256 (length l.own + more) then Some (record { of = Branch; kept = length l.own }) else None

-- the limit that one more pending commit would pass
abbrev pub pending_limit_passed : Client → Option Limit
pending_limit_passed c = own_limit_passed 0 (main_line c) 1

-- the limit that one more branch would pass: at most 16 beside the main one
abbrev pub branches_limit_passed : Client → Option Limit
branches_limit_passed c = if nat_le 16 (length c.branches) then Some (record { of = Branches; kept = length c.branches }) else None

-- the limit that the names of an intent would pass beside so many that wait: at most 16,384
abbrev pub names_limit : ℕ → Intent → Option Limit
names_limit n N = if nat_lt 16384 (n + names_made N) then Some (record { of = Unsequenced; kept = n }) else None

-- the limit that what one more edit makes would pass: at most 16,384 names that wait
abbrev pub names_limit_passed : Client → Intent → Option Limit
names_limit_passed c N = if nat_lt 16384 (unsequenced c + names_made N) then Some (record { of = Unsequenced; kept = unsequenced c }) else None

-- the limit that one more commit on the line of a number would pass
abbrev pub limit_passed : Client → ℕ → Line → Intent → Option Limit
limit_passed c k l N = option_or (own_limit_passed k l 1) (names_limit_passed c N)

-- the limit that one more entry would pass: at most 65,535 entries
abbrev pub entries_limit_passed : List Entry → Option Limit
entries_limit_passed log = if nat_le 65535 (length log) then Some (record { of = Log; kept = length log }) else None

-- the limit that an entry with so many names would pass: at most 65,535 entries, which make at most 131,072 names
abbrev pub log_limit_passed : List Entry → ℕ → Option Limit
log_limit_passed log made =
    if nat_le 65535 (length log) then Some (record { of = Log; kept = length log }) else
    if nat_lt 131072 (names_in (commits_in log) + made) then Some (record { of = Names; kept = names_in (commits_in log) }) else None
