-- Two parts of one commit, told together name by name.
use Rattle.std.specs.Prelude.{◌≡◌, ◌||◌, ◌&&◌, Bool, true, false, Option, Some, None, if◌then◌else◌}
use Rattle.std.specs.Option.{option_or}
use Rattle.st_ids.specs.Listing.{IsListing, item_of}
use Rattle.st_ids.specs.Order.{field_cmp, node_cmp}
use Rattle.st_ids.specs.declared.names.FieldId.{FieldId}
use Rattle.st_ids.specs.declared.names.NodeId.{NodeId}
use Rattle.st_kind.specs.Named.{Nodes, either}
use Rattle.st_marks.specs.declared.changes.Change.{Change}
use Rattle.st_marks.specs.declared.changes.NewNode.{NewNode}
use Rattle.st_marks.specs.declared.intents.Intent.{Intent}
use Rattle.st_marks.specs.declared.intents.To.{To}
use Rattle.st_marks.specs.declared.marks.Loose.{Loose}
use Rattle.st_marks.specs.declared.marks.RegMark.{RegMark}
use Rattle.st_marks.specs.declared.marks.RowMarks.{RowMarks}
use Rattle.st_marks.specs.Back.{is_in}
use Rattle.st_marks.specs.CarryOut.{full}
use Rattle.st_marks.specs.Document.{Document}
use Rattle.st_marks.specs.Embedding.{is_nowhere}
use Rattle.st_marks.specs.Intent.{is_new}
use Rattle.st_marks.specs.Join.{joined_put}
use Rattle.st_marks.specs.Row.{how}
use Rattle.st_part_listings.specs.Together.{if_it_goes, mark_joined, put_there}
use Rattle.st_parts.specs.Joined.{row_joined}

-- ## One name at a time, where `goes` tells where both parts together put a node

-- a register: the occupant is the one that the first part finds, if that lists it
abbrev pub register_joined : (NodeId → Option To) → FieldId → Option RegMark → Option RegMark → Option RegMark
register_joined goes f None None = None
register_joined goes f (Some r) None = Some (mark_joined goes f r.held r.clear (if_it_goes goes (To.Register f) (put_there r)))
register_joined goes f None (Some t) = Some (mark_joined goes f t.held t.clear (if_it_goes goes (To.Register f) (put_there t)))
register_joined goes f (Some r) (Some t) = Some (mark_joined goes f r.held (r.clear || t.clear) (option_or (if_it_goes goes (To.Register f) (put_there t)) (if_it_goes goes (To.Register f) (put_there r))))

-- a node that is nowhere: as the first part lists it; or as the second does, unless it stood somewhere or is new
abbrev pub loose_joined : (NodeId → Option To) → Bool → NodeId → Option Loose → Option Loose → Option Loose
loose_joined goes known n None None = None
loose_joined goes known n (Some l) t = Some (record { node = n; how = how (goes n) To.Nowhere })
loose_joined goes known n None (Some l) = if known then None else Some (record { node = n; how = how (goes n) To.Nowhere })

-- a node that is needed, unless it is the second part alone that needs it and the first makes it
abbrev pub need_joined : Bool → Option NodeId → Option NodeId → Option NodeId
need_joined new a b = option_or a (if new then None else b)

-- ## All of it

-- G says of each name what two parts of one commit say together: `new` are the nodes that the first makes, `known` those that
-- it makes or finds somewhere
pub record IsOfParts (C X G : Change) (new known : Nodes) (goes : NodeId → Option To) : Type 0 where
  pub rev : G.rev ≡ C.rev
  pub under : G.under ≡ C.under
  pub base : G.base ≡ C.base
  pub schema : G.schema ≡ None
  pub need : IsListing node_cmp (λ (n : NodeId). n) G.need (λ n. need_joined (new n) (item_of node_cmp (λ (n : NodeId). n) C.need n) (item_of node_cmp (λ (n : NodeId). n) X.need n))
  pub new_nodes : IsListing node_cmp (λ (m : NewNode). m.node) G.new (λ n. option_or (item_of node_cmp (λ (m : NewNode). m.node) C.new n) (item_of node_cmp (λ (m : NewNode). m.node) X.new n))
  pub rows : IsListing node_cmp (λ (r : RowMarks). r.node) G.rows (λ n. row_joined n (item_of node_cmp (λ (r : RowMarks). r.node) C.rows n) (item_of node_cmp (λ (r : RowMarks). r.node) X.rows n))
  pub regs : IsListing field_cmp (λ (r : RegMark). r.field) G.regs (λ f. register_joined goes f (item_of field_cmp (λ (r : RegMark). r.field) C.regs f) (item_of field_cmp (λ (r : RegMark). r.field) X.regs f))
  pub loose : IsListing node_cmp (λ (l : Loose). l.node) G.loose (λ n. loose_joined goes (known n) n (item_of node_cmp (λ (l : Loose). l.node) C.loose n) (item_of node_cmp (λ (l : Loose). l.node) X.loose n))

-- what the tables tell is so, where the first part mentions m, and the second k
pub record TellsParts (D : Document) (N M : Intent) (m k new known : Nodes) (goes : NodeId → Option To) : Type 0 where
  -- where both together put a node
  pub goes_so : (n : NodeId) → goes n ≡ joined_put N M n
  -- who is new in the first
  pub new_so : (n : NodeId) → new n ≡ is_new N n
  -- who is new or stood somewhere, of those that the first doesn't mention; and all such that are nowhere after it and that the
  -- second mentions
  pub known_so : (n : NodeId) → m n ≡ false → known n ≡ true → (is_in D n && is_nowhere (D.place n)) ≡ false
  pub all_known : (n : NodeId) → k n ≡ true → is_nowhere ((full D N).place n) ≡ true → (is_in D n && is_nowhere (D.place n)) ≡ false → known n ≡ true

-- ## What is named

-- what the first part names, and what the second names and was there before
abbrev pub named_by_parts : Document → Nodes → Nodes → Nodes
named_by_parts D m k = either m (λ n. k n && is_in D n)
