-- Pieces of the texts of messages, as they are written.
use Rattle.std.specs.Prelude.{ℕ, List, ◌++◌, Bool, codes, decimal, if◌then◌else◌}
use Rattle.st_clusters.specs.declared.ids.IdRange.{IdRange}

-- a member behind what stands before its number
abbrev pub number_member : List ℕ → ℕ → List ℕ
number_member front n = front ++ decimal n

-- the minimum and the number
abbrev pub place_text : ℕ → ℕ → List ℕ
place_text n min = number_member (codes ",\"min\":") min ++ number_member (codes ",\"n\":") n

-- how a message is called, and the numbers that each has
abbrev pub plain_text : List ℕ → ℕ → ℕ → ℕ → List ℕ
plain_text front n min s = front ++ (place_text n min ++ number_member (codes ",\"s\":") s)

-- the last members of an ack or a commit
abbrev pub tail_text : ℕ → ℕ → ℕ → ℕ → List ℕ
tail_text n min reference s = place_text n min ++ (number_member (codes ",\"ref\":") reference ++ (number_member (codes ",\"s\":") s ++ codes "}"))

abbrev pub ids_text : IdRange → List ℕ
ids_text ids = number_member (codes ",\"ids\":[") ids.first ++ (number_member (codes ",") ids.count ++ codes "]")

abbrev pub kind_text : Bool → List ℕ
kind_text upgrade = if upgrade then codes ",\"kind\":\"schema\"" else codes ",\"kind\":\"op\""

-- the change and the ids of a commit
abbrev pub change_text : List ℕ → IdRange → List ℕ
change_text change ids = codes "{\"change\":" ++ (change ++ ids_text ids)

-- a commit of a change of a text
abbrev pub commit_text : ℕ → ℕ → ℕ → ℕ → IdRange → Bool → List ℕ → List ℕ
commit_text n min s reference ids upgrade change = change_text change ids ++ (kind_text upgrade ++ tail_text n min reference s)
