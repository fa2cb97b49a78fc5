-- Where two parts of one commit put nodes together, and what they say together of registers and nodes.
use Rattle.std.specs.Prelude.{◌||◌, Bool, false, List, map, Option, Some, None, is_some, option_and_then, option_map, if◌then◌else◌}
use Rattle.std.specs.BTreeMap.{get}
use Rattle.std.specs.BTreeSet.{contains}
use Rattle.std.specs.List.{filter_map}
use Rattle.std.specs.Option.{option_or}
use Rattle.st_ids.specs.Listing.{IsListing, item_of}
use Rattle.st_ids.specs.Order.{field_cmp, node_cmp}
use Rattle.st_ids.specs.declared.names.FieldId.{FieldId}
use Rattle.st_ids.specs.declared.names.NodeId.{NodeId}
use Rattle.st_kind.specs.Named.{Nodes}
use Rattle.st_marks.specs.declared.intents.To.{To}
use Rattle.st_marks.specs.declared.marks.How.{How}
use Rattle.st_marks.specs.declared.marks.How.TheVariants.{Stay}
use Rattle.st_marks.specs.declared.marks.Loose.{Loose}
use Rattle.st_marks.specs.declared.marks.RegMark.{RegMark}
use Rattle.st_marks.specs.How.{is_here}
use Rattle.st_marks.specs.Join.{put_unless_new}
use Rattle.st_marks.specs.Register.{comes_in}
use Rattle.st_marks.specs.Row.{how}
use Rattle.st_part_listings.specs.declared.joint_puts.Tables.{Tables}

-- ## One name at a time, where `goes` tells where both parts together put a node

-- whom the mark of a register puts there: who comes in, or is set where it is
abbrev pub put_there : RegMark → Option NodeId
put_there r = option_or r.fill (if is_here r.how then r.held else None)

-- the node, if both parts together put it there
abbrev pub if_it_goes : (NodeId → Option To) → To → Option NodeId → Option NodeId
if_it_goes goes here None = None
if_it_goes goes here (Some n) = if is_here (how (goes n) here) then Some n else None

-- what becomes of an occupant
abbrev pub how_it_goes : (NodeId → Option To) → To → Option NodeId → How
how_it_goes goes here None = Stay
how_it_goes goes here (Some n) = how (goes n) here

-- the mark of a register, by its occupant, whether it is cleared, and whom it gets
abbrev pub mark_joined : (NodeId → Option To) → FieldId → Option NodeId → Bool → Option NodeId → RegMark
mark_joined goes f held clear gets = record { field = f; held = held; how = how_it_goes goes (To.Register f) held; clear = clear; fill = comes_in held gets }

-- ## Where both parts put a node

-- whether a register that the second lists, or doesn't, is cleared by it
abbrev pub clears_in : Option RegMark → Bool
clears_in None = false
clears_in (Some r) = r.clear

-- a put of the first: one into a register that is cleared leads nowhere
abbrev pub unless_cleared_in : (FieldId → Bool) → To → To
unless_cleared_in cleared To.Nowhere = To.Nowhere
unless_cleared_in cleared (To.Cell c) = To.Cell c
unless_cleared_in cleared (To.Register f) = if cleared f then To.Nowhere else To.Register f

-- whether the second clears a register, as its table tells
abbrev pub cleared_by : Tables → FieldId → Bool
cleared_by t f = clears_in (get field_cmp t.regs f)

-- where the tables tell that both put a node
abbrev pub goes_of : Tables → NodeId → Option To
goes_of t n = option_and_then (put_unless_new (contains node_cmp t.new n)) (option_or (get node_cmp t.second n) (option_map (unless_cleared_in (cleared_by t)) (get node_cmp t.first n)))

-- whether the first makes a node, or finds it in a register, or puts it
abbrev pub known_by : Tables → Nodes
known_by t n = contains node_cmp t.new n || (is_some (get node_cmp t.first n) || contains node_cmp t.held n)

-- ## What each part says of a name

-- a register of the second, behind that of the first; or of one that the other doesn't list
abbrev pub register_behind : (NodeId → Option To) → Option RegMark → RegMark → RegMark
register_behind goes None t = mark_joined goes t.field t.held t.clear (if_it_goes goes (To.Register t.field) (put_there t))
register_behind goes (Some r) t = mark_joined goes t.field r.held (r.clear || t.clear) (option_or (if_it_goes goes (To.Register t.field) (put_there t)) (if_it_goes goes (To.Register t.field) (put_there r)))

-- a node that is nowhere
abbrev pub loose_before : (NodeId → Option To) → Loose → Loose
loose_before goes l = record { node = l.node; how = how (goes l.node) To.Nowhere }

-- a node that is nowhere before the second, unless the first knows it
abbrev pub loose_behind : (NodeId → Option To) → Nodes → Loose → Option Loose
loose_behind goes known l = if known l.node then None else Some (loose_before goes l)

-- a node, unless the first makes it
abbrev pub unless_new : Nodes → NodeId → Option NodeId
unless_new new n = if new n then None else Some n

-- ## Lists of two parts

-- the registers
abbrev pub AreRegistersOf : (NodeId → Option To) → List RegMark → List RegMark → List RegMark → Type 0
AreRegistersOf goes cs xs l = IsListing field_cmp (λ (r : RegMark). r.field) l (λ f. option_or
    (item_of field_cmp (λ (r : RegMark). r.field) (map (λ (r : RegMark). register_behind goes (item_of field_cmp (λ (q : RegMark). q.field) cs r.field) r) xs) f)
    (item_of field_cmp (λ (r : RegMark). r.field) (map (register_behind goes None) cs) f))

-- the nodes that are needed
abbrev pub AreNeedsOf : Nodes → List NodeId → List NodeId → List NodeId → Type 0
AreNeedsOf new cs xs l = IsListing node_cmp (λ (n : NodeId). n) l (λ n. option_or
    (item_of node_cmp (λ (n : NodeId). n) cs n) (item_of node_cmp (λ (n : NodeId). n) (filter_map (unless_new new) xs) n))

-- the nodes that are nowhere
abbrev pub AreLooseOf : (NodeId → Option To) → Nodes → List Loose → List Loose → List Loose → Type 0
AreLooseOf goes known cs xs l = IsListing node_cmp (λ (m : Loose). m.node) l (λ n. option_or
    (item_of node_cmp (λ (m : Loose). m.node) (map (loose_before goes) cs) n) (item_of node_cmp (λ (m : Loose). m.node) (filter_map (loose_behind goes known) xs) n))
