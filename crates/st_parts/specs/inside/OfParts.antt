-- What each of two parts of one commit says of a name, told so that the two are one listing.
use Rattle.std.specs.Prelude.{◌≡◌, List, map, Option, Some, None}
use Rattle.std.specs.Option.{option_or}
use Rattle.st_ids.specs.Listing.{IsListing, item_of}
use Rattle.st_ids.specs.Order.{node_cmp}
use Rattle.st_ids.specs.declared.names.NodeId.{NodeId}
use Rattle.st_kind.specs.Named.{Nodes}
use Rattle.st_marks.specs.declared.changes.Change.{Change}
use Rattle.st_marks.specs.declared.changes.NewNode.{NewNode}
use Rattle.st_marks.specs.declared.intents.Intent.{Intent}
use Rattle.st_marks.specs.declared.intents.To.{To}
use Rattle.st_marks.specs.declared.marks.Mark.{Mark}
use Rattle.st_marks.specs.declared.marks.RowMarks.{RowMarks}
use Rattle.st_marks.specs.Document.{Document}
use Rattle.st_marks.specs.Row.{merge, spread}
use Rattle.st_mention_laws.specs.Shown.{thin}
use Rattle.st_rows.specs.Cells.{join_row}
use Rattle.st_part_listings.specs.Together.{AreLooseOf, AreNeedsOf, AreRegistersOf}
use Rattle.st_parts.specs.TrimmedChange.{ListsChange}

-- ## One name

-- a row that both list
abbrev pub row_of_both : NodeId → List Mark → List Mark → RowMarks
row_of_both n s t = record { node = n; marks = merge (join_row (spread s) (spread t)) }

-- a row of the second, behind that of the first
abbrev pub row_behind : Option RowMarks → RowMarks → RowMarks
row_behind None t = t
row_behind (Some s) t = row_of_both t.node s.marks t.marks

-- ## Lists of two parts

-- the rows
abbrev pub AreRowsOf : List RowMarks → List RowMarks → List RowMarks → Type 0
AreRowsOf cs xs l = IsListing node_cmp (λ (r : RowMarks). r.node) l (λ n. option_or
    (item_of node_cmp (λ (r : RowMarks). r.node) (map (λ (r : RowMarks). row_behind (item_of node_cmp (λ (q : RowMarks). q.node) cs r.node) r) xs) n)
    (item_of node_cmp (λ (r : RowMarks). r.node) cs n))

-- the new nodes
abbrev pub AreNewOf : List NewNode → List NewNode → List NewNode → Type 0
AreNewOf cs xs l = IsListing node_cmp (λ (m : NewNode). m.node) l (λ n. option_or (item_of node_cmp (λ (m : NewNode). m.node) cs n) (item_of node_cmp (λ (m : NewNode). m.node) xs n))

-- all that two parts say, each name in two listings as one
pub record ToldOfParts (C X G : Change) (new known : Nodes) (goes : NodeId → Option To) : Type 0 where
  pub rev : G.rev ≡ C.rev
  pub under : G.under ≡ C.under
  pub base : G.base ≡ C.base
  pub schema : G.schema ≡ None
  pub rows : AreRowsOf C.rows X.rows G.rows
  pub regs : AreRegistersOf goes C.regs X.regs G.regs
  pub need : AreNeedsOf new C.need X.need G.need
  pub new_nodes : AreNewOf C.new X.new G.new
  pub loose : AreLooseOf goes known C.loose X.loose G.loose

-- g lists the change of N in D with the nodes of K named, but for which empty cells it names
abbrev pub ShowsListed : Document → Intent → Nodes → Change → Type 0
ShowsListed D N K g = (G : Change) × ListsChange D N K G × (thin g ≡ thin G)
