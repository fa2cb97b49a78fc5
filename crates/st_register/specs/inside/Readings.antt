-- Words of the private functions behind `Readings`.
use Rattle.std.specs.Prelude.{◌&&◌, ◌||◌, Bool, Option, Some, None, if◌then◌else◌}
use Rattle.std.specs.Option.{option_or}
use Rattle.st_ids.specs.Order.{same_node}
use Rattle.st_ids.specs.declared.names.NodeId.{NodeId}
use Rattle.st_marks.specs.declared.marks.How.{How}
use Rattle.st_marks.specs.declared.marks.How.TheVariants.{Stay, Here, Leave}
use Rattle.st_marks.specs.Intent.{same_option}
use Rattle.st_marks.specs.How.{is_here, is_leave}
use Rattle.st_register.specs.declared.values.RegChange.{RegChange}

-- which node the change puts there: the occupant that is put where it is, or else the one that comes in
abbrev pub put_by : RegChange → Option NodeId
put_by x = if is_here x.how then x.held else x.fill

-- who is there after the void change: a new node that comes into a new node's register, or else the occupant
abbrev pub left_void_by : RegChange → Option NodeId
left_void_by x = if x.in_new && x.fill_new then x.fill else x.held

-- what becomes of a node by the change, where that node is the occupant
abbrev pub how_by : RegChange → Option NodeId → How
how_by x None = Stay
how_by x (Some n) = if same_option same_node (put_by x) (Some n) then Here else if same_option same_node x.held (Some n) then x.how else Stay

-- whether the change makes a node that comes in
abbrev pub makes_by : RegChange → NodeId → Bool
makes_by x n = x.fill_new && same_option same_node x.fill (Some n)

-- which node two changes in turn put there
abbrev pub put_in_turn : RegChange → RegChange → Option NodeId
put_in_turn x y = option_or (put_by y) (if y.clear || is_leave y.how then None else put_by x)

-- what becomes of the first's occupant, unless it is put there at last: one that the first only finds and doesn't evict goes as
-- the second says
abbrev pub stays_in_turn : Bool → How → How → How
stays_in_turn clear next Stay = if clear then Stay else next
stays_in_turn clear next Here = Leave
stays_in_turn clear next Leave = Leave

-- the same, if there is an occupant
abbrev pub held_in_turn : RegChange → RegChange → Option NodeId → How
held_in_turn x y None = Stay
held_in_turn x y (Some n) = if same_option same_node (put_in_turn x y) (Some n) then Here else stays_in_turn x.clear y.how x.how

-- what becomes, by two changes in turn, of the occupant that the first finds
abbrev pub how_in_turn : RegChange → RegChange → How
how_in_turn x y = held_in_turn x y x.held
