-- Whether two arguments of an operation, each a change or a step, agree: what both show of one document has to be the same.
-- Each rule that is broken names fields, and two arguments that don't agree are refused with the least field that is named.
use Rattle.std.specs.Prelude.{◌≡◌, ◌≢◌, ◌↔◌, ◌⊎◌, ◌||◌, ℕ, false, List, [], Option, Some, None, IsTrue, IfSome}
use Rattle.std.specs.List.{AllZip, AllByRecursion}
use Rattle.st_ids.specs.Order.{field_cmp}
use Rattle.st_ids.specs.declared.names.CellId.{CellId}
use Rattle.st_ids.specs.declared.names.FieldId.{FieldId}
use Rattle.st_ids.specs.declared.names.NodeId.{NodeId}
use Rattle.st_marks.specs.declared.changes.Change.{Change}
use Rattle.st_marks.specs.declared.places.Spot.{Spot}
use Rattle.st_marks.specs.declared.schemas.SchemaEntry.{SchemaEntry}
use Rattle.st_marks.specs.declared.steps.Step.{Step}
use Rattle.st_marks.specs.Document.{CanBeInEffect, node_of}
use Rattle.st_ids.specs.Root.{root}
use Rattle.st_marks.specs.Verdict.{HasBase, IsLeast}
use Rattle.st_marks.specs.Step.{IsSchemaStep}
use Rattle.st_marks.specs.Listings.{Listing, CellView, Places, ListsCell, listing_before_change, listing_before_step, listing_after_change, listing_after_step}

-- the field of a node's row
abbrev pub row_field : NodeId → FieldId
row_field n = record { node = n; key = record { 0 = [] } }

-- the field of a place
abbrev pub field_of : Spot → Option FieldId
field_of Spot.Nowhere = None
field_of (Spot.Row n c) = Some (row_field n)
field_of (Spot.Register f) = Some f

-- the same, where both are said
abbrev pub SameIfBoth : {A : Type 0} → Option A → Option A → Type 0
SameIfBoth None b = Unit {0}
SameIfBoth (Some a) None = Unit {0}
SameIfBoth (Some a) (Some b) = a ≡ b

-- a cell as two arguments show it: full in both or empty in both, with one name and one owner
pub record IsSameView (a b : CellView) : Type 0 where
  pub full : a.full ≡ b.full
  pub cell : SameIfBoth a.cell b.cell
  pub node : SameIfBoth a.node b.node

-- L or M names the cell in the row of that node
abbrev pub IsNamedInRow : Listing → Listing → CellId → NodeId → Type 0
IsNamedInRow L M c r = IsTrue (L.names.names_cell r c || M.names.names_cell r c)

-- ## What is shown twice of one document

-- what L and M show of one document differs, and that names the field
pub data Differs (L M : Listing) : FieldId → Type 0 where
  -- a row that both show doesn't have the same cells, place by place
  rows_differ : (n : NodeId) (a b : List CellView) → L.row n ≡ Some a → M.row n ≡ Some b → (AllZip IsSameView a b → ⊥) → Differs L M (row_field n)
  -- a cell that both show stands at two places or has two owners; the rows that name it are named
  cell_twice : (c : CellId) (n m : NodeId) (k l : ℕ) (o p : Option NodeId) → ListsCell L c n k o → ListsCell M c m l p
      → ((n ≡ m) × (k ≡ l) × SameIfBoth o p → ⊥) → (r : NodeId) → IsNamedInRow L M c r → Differs L M (row_field r)
  -- a register that both show has two occupants
  registers_differ : (f : FieldId) (a b : Option NodeId) → L.register f ≡ Some a → M.register f ≡ Some b → a ≢ b → Differs L M f
  -- a node that both show has two places; the fields of both are named
  node_twice : (n : NodeId) (s t : Spot) → Places L n s → Places M n t → s ≢ t → (f : FieldId) → (field_of s ≡ Some f) ⊎ (field_of t ≡ Some f) → Differs L M f

-- ## Names

-- the second makes what the first names already; that names the row of the new node, or the rows that name the new cell
pub data MadeAgain (L M : Listing) : FieldId → Type 0 where
  node_again : (n : NodeId) → IsTrue (M.names.makes_node n) → IsTrue (L.names.names_node n) → MadeAgain L M (row_field n)
  cell_again : (c : CellId) (q r : NodeId) → IsTrue (M.names.makes_cell c) → IsTrue (L.names.names_cell q c) → IsNamedInRow L M c r → MadeAgain L M (row_field r)

-- the second finds a cell that the first doesn't make, owned by a node that the first makes; the rows that name it are named
pub data OwnedTooEarly (L M : Listing) : FieldId → Type 0 where
  owned_early : (c : CellId) (n q r : NodeId) (k : ℕ) → ListsCell M c q k (Some n) → IsTrue (L.names.makes_node n) → L.names.makes_cell c ≡ false → IsNamedInRow L M c r → OwnedTooEarly L M (row_field r)

-- ## Schemas

-- the entries can be in effect where a change stands
pub record SchemasAtChange (entries : List SchemaEntry) (C : Change) : Type 0 where
  pub in_effect : CanBeInEffect entries
  pub base : IsTrue C.base ↔ HasBase entries C.schema C.under
  pub fresh : IfSome C.schema (λ _. AllByRecursion (λ (e : SchemaEntry). e.rev ≢ C.rev) entries)

-- some entries can be in effect before a step, and others after it
pub record SchemasOverStep (before after : List SchemaEntry) (S : Step) : Type 0 where
  pub before_in_effect : CanBeInEffect before
  pub after_in_effect : CanBeInEffect after
  pub step : IsSchemaStep before after S.schema

-- entries can be in effect before two steps in turn, between them and after them
abbrev pub HaveSchemasInTurn : Step → Step → Type 0
HaveSchemasInTurn S T = (before : List SchemaEntry) × (between : List SchemaEntry) × (after : List SchemaEntry) × SchemasOverStep before between S × SchemasOverStep between after T

-- entries can be in effect where a change and a step stand; a change of schema has a new revision after the step too
abbrev pub HaveSchemasBeside : Change → Step → Type 0
HaveSchemasBeside C S = (before : List SchemaEntry) × (after : List SchemaEntry) × SchemasAtChange before C × SchemasOverStep before after S × IfSome C.schema (λ _. AllByRecursion (λ (e : SchemaEntry). e.rev ≢ C.rev) after)

-- entries can be in effect where two parts of one commit stand, neither of which changes them
abbrev pub HaveSchemasOfParts : Change → Change → Type 0
HaveSchemasOfParts C K = (entries : List SchemaEntry) × SchemasAtChange entries C × SchemasAtChange entries K

-- ## Rings

-- from a node, the places lead up to another, where `At n s` says that n is at s
pub data LeadsUp (At : NodeId → Spot → Type 0) : NodeId → NodeId → Type 0 where
  one_up : {n p : NodeId} (s : Spot) → At n s → node_of s ≡ Some p → LeadsUp At n p
  further_up : {n p q : NodeId} (s : Spot) → At n s → node_of s ≡ Some p → LeadsUp At p q → LeadsUp At n q

-- a node that either change makes, where both together leave it: where the second leaves it, or else where the first does
abbrev pub MadeAt : Change → Change → NodeId → Spot → Type 0
MadeAt C K n s = IsMade n × IfSome (node_of s) IsMade × (Places second n s ⊎ (((t : Spot) → Places second n t → ⊥) × Places first n s))
  where
    first : Listing
    first = listing_after_change C

    second : Listing
    second = listing_after_change K

    IsMade : NodeId → Type 0
    IsMade x = IsTrue (first.names.makes_node x || second.names.makes_node x)

-- what joining asks further of two changes
pub record CanBeParts (C K : Change) : Type 0 where
  pub one_rev : C.rev ≡ K.rev
  pub one_under : C.under ≡ K.under
  pub no_schema : (C.schema ≡ None) × (K.schema ≡ None)
  pub first_no_ring : (n : NodeId) → LeadsUp (Places (listing_after_change C)) n n → ⊥
  pub made_no_ring : (n : NodeId) → LeadsUp (MadeAt C K) n n → ⊥

-- a rule that names the root's row where it is broken
pub data RootRule (Holds : Type 0) : FieldId → Type 0 where
  broken : (Holds → ⊥) → RootRule Holds (row_field root)

-- ## The fields that each call names, of which it shows the least

-- what the first step leaves is what the second finds
abbrev pub ComposeClash : Step → Step → FieldId → Type 0
ComposeClash S T f = Differs L M f ⊎ MadeAgain L M f ⊎ OwnedTooEarly L M f ⊎ RootRule (HaveSchemasInTurn S T) f
  where
    L : Listing
    L = listing_after_step S

    M : Listing
    M = listing_before_step T

-- what the first change leaves is what the second finds
abbrev pub JoinClash : Change → Change → FieldId → Type 0
JoinClash C K f = Differs L M f ⊎ MadeAgain L M f ⊎ OwnedTooEarly L M f ⊎ RootRule (HaveSchemasOfParts C K) f ⊎ RootRule (CanBeParts C K) f
  where
    L : Listing
    L = listing_after_change C

    M : Listing
    M = listing_before_change K

-- both find the same: rebasing the change over the step, and the bridge from the step to the change
abbrev pub RebaseClash : Change → Step → FieldId → Type 0
RebaseClash C S f = Differs L M f ⊎ MadeAgain L M f ⊎ MadeAgain M L f ⊎ RootRule (HaveSchemasBeside C S) f
  where
    L : Listing
    L = listing_before_change C

    M : Listing
    M = listing_before_step S

-- two arguments agree where no field is named
abbrev pub Agrees : (FieldId → Type 0) → Type 0
Agrees Clash = (f : FieldId) → Clash f → ⊥

-- the field that is shown where they don't
abbrev pub IsApartAt : (FieldId → Type 0) → FieldId → Type 0
IsApartAt Clash f = IsLeast field_cmp Clash f
