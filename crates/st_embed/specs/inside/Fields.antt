-- What a change lists of rows, registers and loose nodes.
use Rattle.std.specs.Prelude.{Bool}
use Rattle.st_ids.specs.Listing.{IsListing}
use Rattle.st_ids.specs.Order.{field_cmp, node_cmp}
use Rattle.st_ids.specs.declared.names.NodeId.{NodeId}
use Rattle.st_marks.specs.declared.intents.Intent.{Intent}
use Rattle.st_marks.specs.declared.marks.Loose.{Loose}
use Rattle.st_marks.specs.declared.marks.RegMark.{RegMark}
use Rattle.st_marks.specs.declared.marks.RowMarks.{RowMarks}
use Rattle.st_marks.specs.Document.{Document, content}
use Rattle.st_marks.specs.Embedding.{embed_loose, register_part, row_marks, row_part}
use Rattle.st_marks.specs.Register.{embed_register}
use Rattle.st_marks.specs.Row.{embed_row}
use Rattle.st_embed.specs.declared.change.Fields.{Fields}

-- they are those of an intent's change in a document, where some nodes are mentioned
pub record AreFields (D : Document) (N : Intent) (mentioned : NodeId → Bool) (x : Fields) : Type 0 where
  pub rows : IsListing node_cmp (λ (r : RowMarks). r.node) x.rows (λ n. row_marks n (embed_row (row_part mentioned N n) (content D n)))
  pub regs : IsListing field_cmp (λ (r : RegMark). r.field) x.regs (λ f. embed_register f (register_part mentioned N f) (D.held f))
  pub loose : IsListing node_cmp (λ (l : Loose). l.node) x.loose (embed_loose mentioned D N)
