-- What a change lists after a step.
use Rattle.std.specs.Prelude.{◌≡◌, Bool, List, Option, map}
use Rattle.std.specs.BTreeSet.{BTreeSet, IsOrdered, contains}
use Rattle.std.specs.List.{filter_map}
use Rattle.st_ids.specs.Listing.{IsListing}
use Rattle.st_ids.specs.Order.{field_cmp, node_cmp}
use Rattle.st_ids.specs.declared.names.NodeId.{NodeId}
use Rattle.st_marks.specs.declared.changes.Change.{Change}
use Rattle.st_marks.specs.declared.intents.To.{To}
use Rattle.st_marks.specs.declared.marks.Loose.{Loose}
use Rattle.st_marks.specs.declared.marks.RegMark.{RegMark}
use Rattle.st_marks.specs.declared.marks.RowMarks.{RowMarks}
use Rattle.st_marks.specs.declared.places.Spot.{Spot}
use Rattle.st_marks.specs.declared.steps.Step.{Step}
use Rattle.st_kind.specs.Named.{Nodes}
use Rattle.st_marks.specs.declared.intents.Intent.{Intent}
use Rattle.st_marks.specs.Document.{Document, content}
use Rattle.st_marks.specs.Embedding.{embed_loose, register_part, row_marks, row_part}
use Rattle.st_marks.specs.Register.{embed_register}
use Rattle.st_marks.specs.Row.{embed_row}
use Rattle.st_puts.specs.Mentions.{AreMentions}
use Rattle.st_read_laws.specs.Reading.{read}
use Rattle.st_moves.specs.inside.Registers.{loose_in}
use Rattle.st_over.specs.inside.Registers.{register_beside}
use Rattle.st_over.specs.inside.Rows.{row_beside}

-- the rows, registers and loose nodes of a change over a step, where nodes are put and stand so
pub record AreOver (l : Bool) (target_of : NodeId → Option To) (place : NodeId → Spot) (named : BTreeSet NodeId) (C : Change) (S : Step)
    (rows : List RowMarks) (regs : List RegMark) (loose : List Loose) : Type 0 where
  pub rows_listed : IsListing node_cmp (λ (r : RowMarks). r.node) rows (row_beside l target_of (contains node_cmp named) C.rows S.rows)
  pub regs_listed : IsListing field_cmp (λ (r : RegMark). r.field) regs (register_beside target_of (contains node_cmp named) C.regs S.regs)
  pub loose_listed : loose ≡ filter_map (loose_in target_of place) named.keys
  pub ordered : IsOrdered node_cmp named

-- these are the rows, registers and loose nodes of the intent's change in the document, read so
abbrev pub HasFields : Bool → Document → Intent → List RowMarks → List RegMark → List Loose → Type 0
HasFields l E N rows regs loose = (m : Nodes) × AreMentions E N m
    × IsListing node_cmp (λ (r : RowMarks). r.node) rows (λ n. row_marks n (map (read l) (embed_row (row_part m N n) (content E n))))
    × IsListing field_cmp (λ (r : RegMark). r.field) regs (λ f. embed_register f (register_part m N f) (E.held f))
    × IsListing node_cmp (λ (k : Loose). k.node) loose (embed_loose m E N)

-- the change with these, and with this said of the schema in effect
abbrev pub change_with : Bool → List RowMarks → List RegMark → List Loose → Change → Change
change_with base rows regs loose C = record C { base = base; rows = rows; regs = regs; loose = loose }
