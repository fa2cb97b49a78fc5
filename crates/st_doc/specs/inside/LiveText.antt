-- Words of the private functions behind `LiveText`.
use Rattle.std.specs.Prelude.{◌≡◌, ℕ, Bool, List, [], ◌∷◌, Option, Some, None, IsSome, unwrap_or, if◌then◌else◌}
use Rattle.std.specs.BTreeMap.{BTreeMap, get}
use Rattle.std.specs.List.{filter_map, AllByRecursion}
use Rattle.std.specs.Ordering.{nat_cmp}
use Rattle.std.specs.Cmp.Lexicographic.{slice_cmp}
use Rattle.std.specs.declared.cmp.Ordering.TheVariants.{Less}
use Rattle.serde_json.specs.Data.{Members, no_members, member}
use Rattle.serde_json.specs.View.{view}
use Rattle.serde_json.specs.declared.value.Value.{Value}
use Rattle.st_ids.specs.Listing.{Has}
use Rattle.st_ids.specs.Order.{node_cmp, field_cmp, same_node}
use Rattle.st_ids.specs.declared.names.FieldId.{FieldId}
use Rattle.st_ids.specs.declared.names.NodeId.{NodeId}
use Rattle.st_marks.specs.Document.{Document}
use Rattle.st_marks.specs.LiveTree.{Shows, register}
use Rattle.st_doc.specs.declared.seats.Seat.{Seat}

-- ## Registers

-- the register of an entry, if it is one of the node's
abbrev pub seat_at : NodeId → FieldId × NodeId → Option Seat
seat_at n e = if same_node e.0.node n then Some (record { key = e.0.key.0; node = e.1 }) else None

abbrev pub seats_of : NodeId → List (FieldId × NodeId) → List Seat
seats_of n es = filter_map (seat_at n) es

-- each key is below those behind it
abbrev pub KeysRise : List Seat → Type 0
KeysRise [] = Unit {0}
KeysRise (s ∷ ss) = AllByRecursion (λ (t : Seat). slice_cmp nat_cmp s.key t.key ≡ Less) ss × KeysRise ss

-- of each node its registers, whose keys rise, and which hold what is said
pub record AreSeats (held : BTreeMap FieldId NodeId) (seats : BTreeMap NodeId (List Seat)) : Type 0 where
  pub listed : (n : NodeId) → unwrap_or (get node_cmp seats n) [] ≡ seats_of n held.entries
  pub rise : (n : NodeId) → KeysRise (seats_of n held.entries)
  pub holds : (n : NodeId) → AllByRecursion (λ (s : Seat). get field_cmp held (register n s.key) ≡ Some s.node) (seats_of n held.entries)

-- ## Values

-- the value of each node that has one is what the node shows
abbrev pub AllShown : (List ℕ → Bool) → Document → BTreeMap NodeId Value → Type 0
AllShown is_array D done = (n : NodeId) (v : Value) → get node_cmp done n ≡ Some v → Shows is_array D n (view v)

-- what one map has, another has too
abbrev pub IsPart : BTreeMap NodeId Value → BTreeMap NodeId Value → Type 0
IsPart part whole = (n : NodeId) (v : Value) → get node_cmp part n ≡ Some v → get node_cmp whole n ≡ Some v

-- each of some nodes has its value
abbrev pub AreMade : BTreeMap NodeId Value → List NodeId → Type 0
AreMade done ns = (n : NodeId) → Has ns n → IsSome (get node_cmp done n)

-- of nodes that aren't among some, one map has what another has
abbrev pub KeepsOthers : List NodeId → BTreeMap NodeId Value → BTreeMap NodeId Value → Type 0
KeepsOthers ns new old = (n : NodeId) → ¬ (Has ns n) → get node_cmp new n ≡ get node_cmp old n

-- the values of nodes, in order
abbrev pub AreValues : BTreeMap NodeId Value → List NodeId → List Value → Type 0
AreValues done [] [] = Unit {0}
AreValues done [] (v ∷ vs) = ⊥
AreValues done (n ∷ ns) [] = ⊥
AreValues done (n ∷ ns) (v ∷ vs) = (get node_cmp done n ≡ Some v) × AreValues done ns vs

-- the members for registers, in order: under each key the value of the node in it
abbrev pub AreMembers : BTreeMap NodeId Value → List Seat → Members → Type 0
AreMembers done [] ms = ms ≡ no_members
AreMembers done (s ∷ ss) ms = (v : Value) × (rest : Members) × (get node_cmp done s.node ≡ Some v) × AreMembers done ss rest × (ms ≡ member s.key (view v) rest)
