-- The rules that the change of a row keeps, as tests.
use Rattle.std.specs.Prelude.{◌≡◌, None, ◌&&◌, ◌||◌, zero, suc, Bool, true, false, not, List, [], ◌∷◌}
use Rattle.std.specs.List.{list_all, list_any}
use Rattle.st_ids.specs.Listing.{IsRising}
use Rattle.st_ids.specs.Order.{node_cmp, same_cell, same_node, same_rev}
use Rattle.st_ids.specs.declared.names.CellId.{CellId}
use Rattle.st_ids.specs.declared.names.NodeId.{NodeId}
use Rattle.st_ids.specs.declared.names.Rev.{Rev}
use Rattle.st_marks.specs.declared.marks.How.TheVariants.{Stay, Here, Leave}
use Rattle.st_marks.specs.declared.marks.Mark.{Mark}
use Rattle.st_marks.specs.declared.places.Slot.{Slot}
use Rattle.st_ids.specs.Root.{root}
use Rattle.st_marks.specs.Embedding.{is_among}
use Rattle.st_marks.specs.Row.{CellMark, Counted, Gap, Touch, Make, Fill, spread}
use Rattle.st_marks.specs.Listings.{cells_before}
use Rattle.st_rows.specs.Views.{row_views}
use Rattle.st_rows.specs.Differences.{first_difference}
use Rattle.st_rows.specs.Merged.{begins_with_skip}
use Rattle.st_rows.specs.declared.values.RowChange.{RowChange}

-- ## Marks

-- whether a mark stands well before others: it counts some cells, and none before another that counts
abbrev pub stands_before : Mark → List Mark → Bool
stands_before (Mark.Skip zero) ms = false
stands_before (Mark.Skip (suc k)) ms = not (begins_with_skip ms)
stands_before (Mark.Gap c) ms = true
stands_before (Mark.Touch c n h) ms = true
stands_before (Mark.Make c n b) ms = true
stands_before (Mark.Fill c n) ms = true

-- marks in their normal form
abbrev pub is_normal : List Mark → Bool
is_normal [] = true
is_normal (m ∷ ms) = stands_before m ms && is_normal ms

-- ## What a cell's mark does

-- it puts the node into the cell
abbrev pub places : NodeId → CellMark → Bool
places n Counted = false
places n (Gap c) = false
places n (Touch c x Stay) = false
places n (Touch c x Here) = same_node x n
places n (Touch c x Leave) = false
places n (Make c x b) = b && same_node x n
places n (Fill c x) = same_node x n

-- it makes the cell
abbrev pub makes_cell : CellId → CellMark → Bool
makes_cell a Counted = false
makes_cell a (Gap c) = false
makes_cell a (Touch c x h) = false
makes_cell a (Make c x b) = same_cell c a
makes_cell a (Fill c x) = false

-- it finds the node and puts it there or elsewhere
abbrev pub puts_found : NodeId → CellMark → Bool
puts_found n Counted = false
puts_found n (Gap c) = false
puts_found n (Touch c x Stay) = false
puts_found n (Touch c x Here) = same_node x n
puts_found n (Touch c x Leave) = same_node x n
puts_found n (Make c x b) = false
puts_found n (Fill c x) = false

-- ## What a change may do

-- the cell is in the row
abbrev pub has_cell : List Slot → CellId → Bool
has_cell c a = list_any (λ (s : Slot). same_cell s.cell a) c

-- the node stands in the row
abbrev pub stands_in : List Slot → NodeId → Bool
stands_in c n = list_any (λ (s : Slot). s.full && same_node s.node n) c

-- the node may be put: it isn't the root, and if it stands in the row its mark there says that it is put
abbrev pub may_put : List Slot → List CellMark → NodeId → Bool
may_put c all n = not (same_node n root) && (not (stands_in c n) || list_any (puts_found n) all)

-- the cell may be made before others: it has the commit's revision, isn't in the row, and isn't made again
abbrev pub may_make : Rev → List Slot → CellId → List CellMark → Bool
may_make rev c a behind = same_rev a.0.rev rev && (not (has_cell c a) && not (list_any (makes_cell a) behind))

-- the mark may stand before others: no two marks put one node into a cell
abbrev pub is_allowed : Rev → List Slot → List CellMark → CellMark → List CellMark → Bool
is_allowed rev c all Counted behind = true
is_allowed rev c all (Gap a) behind = true
is_allowed rev c all (Touch a n Stay) behind = true
is_allowed rev c all (Touch a n Here) behind = not (list_any (places n) behind)
is_allowed rev c all (Touch a n Leave) behind = true
is_allowed rev c all (Make a n b) behind = may_make rev c a behind && (may_put c all n && not (b && list_any (places n) behind))
is_allowed rev c all (Fill a n) behind = may_put c all n && not (list_any (places n) behind)

abbrev pub are_allowed : Rev → List Slot → List CellMark → List CellMark → Bool
are_allowed rev c all [] = true
are_allowed rev c all (x ∷ xs) = is_allowed rev c all x xs && are_allowed rev c all xs

-- ## The whole

-- a change that can stand where the row holds this
pub record IsNormalRowChange (x : RowChange) (c : List Slot) : Type 0 where
  -- its new nodes rise by name, have the commit's revision, and aren't the root
  pub rising : IsRising node_cmp (λ (n : NodeId). n) x.new
  pub new : list_all (λ (n : NodeId). same_rev n.0.rev x.rev && not (same_node n root)) x.new ≡ true
  -- no cell that is there has one of them as its owner, and the row of a new node has no cells yet
  pub old : list_all (λ (s : Slot). not (is_among x.new s.node)) c ≡ true
  pub empty : x.in_new ≡ true → c ≡ []
  -- its marks are in their normal form, list the row, and may stand before each other
  pub normal : is_normal x.marks ≡ true
  pub listed : first_difference (row_views c) (cells_before (spread x.marks)) ≡ None
  pub allowed : are_allowed x.rev c (spread x.marks) (spread x.marks) ≡ true
