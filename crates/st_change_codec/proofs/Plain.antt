-- The form of a change has no floating-point number.
use Rattle.std.proofs.Common.{◌≡◌, ℕ, false, List, [], ◌∷◌, map, Option, None, Some, refl}
use Rattle.serde_json.specs.Data.{Data}
use Rattle.serde_json.specs.View.{items_of}
use Rattle.serde_json.specs.Written.{has_float, items_have_float}
use Rattle.st_ids.specs.declared.names.Leaf.{Leaf}
use Rattle.st_ids.specs.declared.names.NodeId.{NodeId}
use Rattle.st_ids.proofs.LeafTexts.{leaf_no_float}
use Rattle.st_marks.specs.declared.changes.Change.{Change}
use Rattle.st_marks.specs.declared.changes.NewNode.{NewNode}
use Rattle.st_marks.specs.declared.marks.Mark.{Mark}
use Rattle.st_marks.specs.declared.marks.RegMark.{RegMark}
use Rattle.st_marks.specs.declared.marks.RowMarks.{RowMarks}
use Rattle.st_schema.specs.Schema.{SchemaView}
use Rattle.st_schema.proofs.Plain.{schema_plain}
use Rattle.st_change_codec.specs.Changes.{change_data, data_with, edits_data, loose_data, made_data, mark_data, new_data, node_data, node_or_null, register_data, row_data}
use Rattle.st_change_codec.specs.SchemaTexts.{schema_or, sound_schema_of, text_data}

list_plain : {A : Type 0} (f : A → Data) → ((x : A) → has_float (f x) ≡ false) → (xs : List A) → items_have_float (items_of (map f xs)) ≡ false
list_plain f plain [] = refl
list_plain f plain (x ∷ xs) = rw (plain x) (list_plain f plain xs)

mark_plain : (m : Mark) → has_float (mark_data m) ≡ false
mark_plain (Mark.Skip k) = refl
mark_plain (Mark.Gap c) = refl
mark_plain (Mark.Touch c n how) = refl
mark_plain (Mark.Make c n full) = refl
mark_plain (Mark.Fill c n) = refl

row_plain : (r : RowMarks) → has_float (row_data r) ≡ false
row_plain r = rw (list_plain mark_data mark_plain r.marks) refl

occupant_plain : (o : Option NodeId) → has_float (node_or_null o) ≡ false
occupant_plain None = refl
occupant_plain (Some n) = refl

register_plain : (r : RegMark) → has_float (register_data r) ≡ false
register_plain r = rw (occupant_plain r.held, occupant_plain r.fill) refl

made_plain : (n : NodeId) (ty : List ℕ) (leaf : Option Leaf) → has_float (made_data n ty leaf) ≡ false
made_plain n ty None = refl
made_plain n ty (Some v) = rw (leaf_no_float v) refl

edits_plain : (c : Change) → has_float (edits_data c) ≡ false
edits_plain c = rw (
  list_plain loose_data (λ l. refl) c.loose,
  list_plain node_data (λ n. refl) c.need,
  list_plain new_data (λ (m : NewNode). made_plain m.node m.ty m.leaf) c.new,
  list_plain register_data register_plain c.regs,
  list_plain row_data row_plain c.rows,
) refl

schema_or_plain : (text : List ℕ) (s : Option SchemaView) → has_float (schema_or text s) ≡ false
schema_or_plain text None = refl
schema_or_plain text (Some s) = schema_plain s

pub text_plain : (text : List ℕ) → has_float (text_data text) ≡ false
text_plain text = schema_or_plain text (sound_schema_of text)

with_plain : (c : Change) (schema : Option (List ℕ)) → has_float (data_with c schema) ≡ false
with_plain c None = edits_plain c
with_plain c (Some text) = rw (schema_or_plain text (sound_schema_of text)) refl

pub change_plain : (c : Change) → has_float (change_data c) ≡ false
change_plain c = with_plain c c.schema
