-- How many names commits make: their nodes and their cells.
use Rattle.std.specs.Prelude.{ℕ, ◌+◌, List, [], ◌∷◌, length}
use Rattle.std.specs.Option.{option_and_then, option_map_or}
use Rattle.st_marks.specs.declared.intents.Intent.{Intent}
use Rattle.st_marks.specs.Intent.{group_cells}
use Rattle.st_lists.specs.Clients.{joined_of}
use Rattle.st_lists.specs.Log.{commit_in}
use Rattle.st_lists.specs.declared.lists.Body.{Body}
use Rattle.st_lists.specs.declared.lists.Branch.{Branch}
use Rattle.st_lists.specs.declared.lists.Client.{Client}
use Rattle.st_lists.specs.declared.lists.Transaction.{Transaction}

-- how many names an intent makes: its nodes and its cells
abbrev pub names_made : Intent → ℕ
names_made N = length N.new + length (group_cells N)

-- how many names some intents make together
abbrev pub names_in : List Intent → ℕ
names_in [] = 0
names_in (N ∷ Ns) = names_made N + names_in Ns

-- how many names the commit of a text makes; none where it has none
abbrev pub names_in_text : Body → ℕ
names_in_text text = option_map_or names_made (commit_in text) 0

-- how many names wait on a branch: those of its own commits, and those of what is edited in its open transaction
abbrev pub names_on : Branch → ℕ
names_on b = option_map_or names_made (option_and_then (λ (t : Transaction). t.joined) b.transaction) 0 + names_in b.own

abbrev pub names_on_all : List Branch → ℕ
names_on_all [] = 0
names_on_all (b ∷ bs) = names_on b + names_on_all bs

-- how many names wait at a client: those of its pending commits, those of what is edited in its open transaction, and
-- those that wait on its other branches
abbrev pub unsequenced : Client → ℕ
unsequenced c = (option_map_or names_made (joined_of c) 0 + names_in c.pending) + names_on_all c.branches
