-- The form over plain names is the form with plain names.
use Rattle.std.proofs.Common.{◌≡◌, ℕ, List, [], ◌∷◌, map, Option, None, Some, codes, refl}
use Rattle.serde_json.specs.Data.{boolean, member, no_members, object, string}
use Rattle.st_ids.specs.declared.names.Leaf.{Leaf}
use Rattle.st_ids.specs.declared.names.NodeId.{NodeId}
use Rattle.st_marks.specs.declared.changes.Change.{Change}
use Rattle.st_marks.specs.declared.changes.NewNode.{NewNode}
use Rattle.st_marks.specs.declared.marks.Mark.{Mark}
use Rattle.st_marks.specs.declared.marks.RegMark.{RegMark}
use Rattle.st_marks.specs.declared.marks.RowMarks.{RowMarks}
use Rattle.st_change_codec.specs.Changes as plain
use Rattle.st_change_codec.specs.Changes.{how_text, list_data}
use Rattle.st_mark_reader.specs.Naming.{plain_naming}
use Rattle.st_change_writer.specs.Listed.{made_data, mark_data, new_data, node_or_null, register_data, row_data}
use Rattle.st_change_writer.specs.Told.{change_data, data_with, edits_data}

mark_same : (m : Mark) → plain.mark_data m ≡ mark_data plain_naming m
mark_same (Mark.Skip k) = refl
mark_same (Mark.Gap c) = refl
mark_same (Mark.Touch c x how) = refl
mark_same (Mark.Make c x full) = refl
mark_same (Mark.Fill c x) = refl

row_same : (r : RowMarks) → plain.row_data r ≡ row_data plain_naming r
row_same r = λ i. list_data (plain.node_data r.node ∷ list_data (map (λ m. mark_same m i) r.marks) ∷ [])

occupant_same : (o : Option NodeId) → plain.node_or_null o ≡ node_or_null plain_naming o
occupant_same None = refl
occupant_same (Some x) = refl

register_same : (r : RegMark) → plain.register_data r ≡ register_data plain_naming r
register_same r = λ i. list_data (plain.node_data r.field.node ∷ string r.field.key.0 ∷ occupant_same r.held i ∷ string (how_text r.how) ∷ boolean r.clear ∷ occupant_same r.fill i ∷ [])

made_same : (x : NodeId) (ty : List ℕ) (leaf : Option Leaf) → plain.made_data x ty leaf ≡ made_data plain_naming x ty leaf
made_same x ty None = refl
made_same x ty (Some v) = refl

new_same : (m : NewNode) → plain.new_data m ≡ new_data plain_naming m
new_same m = made_same m.node m.ty m.leaf

edits_same : (c : Change) → plain.edits_data c ≡ edits_data plain_naming c
edits_same c = λ i. object (
    member (codes "base") (boolean c.base) (
    member (codes "loose") (list_data (map plain.loose_data c.loose)) (
    member (codes "need") (list_data (map plain.node_data c.need)) (
    member (codes "new") (list_data (map (λ m. new_same m i) c.new)) (
    member (codes "regs") (list_data (map (λ r. register_same r i) c.regs)) (
    member (codes "rev") (plain.rev_data c.rev) (
    member (codes "rows") (list_data (map (λ r. row_same r i) c.rows)) (
    member (codes "under") (plain.rev_data c.under) no_members))))))))

with_same : (c : Change) (o : Option (List ℕ)) → plain.data_with c o ≡ data_with plain_naming c o
with_same c None = edits_same c
with_same c (Some t) = refl

pub change_same : (c : Change) → plain.change_data c ≡ change_data plain_naming c
change_same c = with_same c c.schema
