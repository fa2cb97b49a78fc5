-- What becomes of a node where it stands.
use Rattle.std.specs.Prelude.{Bool, true, false}
use Rattle.st_marks.specs.declared.marks.How.{How}
use Rattle.st_marks.specs.declared.marks.How.TheVariants.{Stay, Here, Leave}

-- it isn't put
abbrev pub is_stay : How → Bool
is_stay Stay = true
is_stay Here = false
is_stay Leave = false

-- it is put where it stands
abbrev pub is_here : How → Bool
is_here Stay = false
is_here Here = true
is_here Leave = false

-- it is put elsewhere
abbrev pub is_leave : How → Bool
is_leave Stay = false
is_leave Here = false
is_leave Leave = true
