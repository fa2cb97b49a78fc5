-- What an intent wants, by name.
use Rattle.std.specs.Prelude.{◌≡◌, Bool, Option, Some, None, if◌then◌else◌}
use Rattle.std.specs.BTreeMap.{get}
use Rattle.std.specs.BTreeSet.{contains}
use Rattle.st_ids.specs.Order.{field_cmp, node_cmp}
use Rattle.st_ids.specs.declared.names.CellId.{CellId}
use Rattle.st_ids.specs.declared.names.FieldId.{FieldId}
use Rattle.st_ids.specs.declared.names.NodeId.{NodeId}
use Rattle.st_marks.specs.declared.intents.Intent.{Intent}
use Rattle.st_marks.specs.Intent.{clears, group_at, put_in, put_of}
use Rattle.st_marks.specs.Register.{RegisterPart, embed_register}
use Rattle.st_marks.specs.Row.{RowPart, embed_row, how}
use Rattle.st_marks.specs.Document.{Document, content}
use Rattle.st_marks.specs.Embedding.{is_loose, row_marks}
use Rattle.st_marks.specs.declared.intents.To.{To}
use Rattle.st_marks.specs.declared.marks.Loose.{Loose}
use Rattle.st_marks.specs.declared.marks.RegMark.{RegMark}
use Rattle.st_marks.specs.declared.marks.RowMarks.{RowMarks}
use Rattle.st_embed.specs.inside.Places.{cells_at}
use Rattle.st_embed.specs.declared.wants.Wants.{Wants}

-- they are an intent's
pub record AreWants (N : Intent) (w : Wants) : Type 0 where
  pub targets : (n : NodeId) → get node_cmp w.targets n ≡ put_of N n
  pub cells : (n : NodeId) (a : Option CellId) → cells_at w.cells n a ≡ group_at N n a
  pub fills : (f : FieldId) → get field_cmp w.fills f ≡ put_in N f
  pub clear : (f : FieldId) → contains field_cmp w.clear f ≡ clears N f

-- what they say of a row
abbrev pub part_in_row : Wants → (NodeId → Bool) → NodeId → RowPart
part_in_row w mentioned n = record { new_cells = λ a. cells_at w.cells n a; target_of = λ m. get node_cmp w.targets m; mentioned = mentioned }

-- what they say of a register
abbrev pub part_in_register : Wants → (NodeId → Bool) → FieldId → RegisterPart
part_in_register w mentioned f = record { clear = contains field_cmp w.clear f; fill = get field_cmp w.fills f; target_of = λ m. get node_cmp w.targets m; mentioned = mentioned }

-- what is listed of a node's row
abbrev pub row_in : Wants → (NodeId → Bool) → Document → NodeId → Option RowMarks
row_in w mentioned D n = row_marks n (embed_row (part_in_row w mentioned n) (content D n))

-- what is listed of a register
abbrev pub register_in : Wants → (NodeId → Bool) → Document → FieldId → Option RegMark
register_in w mentioned D f = embed_register f (part_in_register w mentioned f) (D.held f)

-- what becomes of a node that is nowhere
abbrev pub loose_in : Wants → (NodeId → Bool) → Document → NodeId → Option Loose
loose_in w mentioned D n = if is_loose mentioned D n then Some (record { node = n; how = how (get node_cmp w.targets n) To.Nowhere }) else None
