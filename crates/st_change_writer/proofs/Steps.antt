-- The texts of steps, of pieces one after another.
use Rattle.std.proofs.Common.{◌≡◌, ap, ◌∙◌, ℕ, List, ◌++◌, map, append_assoc, codes}
use Rattle.json.specs.Print.{escape_byte}
use Rattle.serde_json.specs.Data.{string}
use Rattle.serde_json.specs.Written.{compact_text}
use Rattle.st_marks.specs.declared.marks.RegStep.{RegStep}
use Rattle.st_marks.specs.declared.schemas.SchemaEntry.{SchemaEntry}
use Rattle.st_marks.specs.declared.schemas.SchemaStep.{SchemaStep}
use Rattle.st_marks.specs.declared.steps.Step.{Step}
use Rattle.st_change_codec.specs.Changes.{list_data}
use Rattle.st_change_codec.specs.SchemaTexts.{text_data}
use Rattle.st_mark_reader.specs.Naming.{Naming}
use Rattle.st_change_writer.specs.Listed.{loose_data, new_data, node_or_null, row_data}
use Rattle.st_change_writer.specs.Told.{entry_data, reg_step_data, schema_part_data, schema_step_data, step_data}
use Rattle.st_change_writer.specs.Texts.{step_head_text, step_tail_text}
use Rattle.st_change_writer.proofs.Append.{five, seven}

pub entry_is : (out : List ℕ) (n : Naming) (e : SchemaEntry) → ((((out ++ codes "[") ++ compact_text (n.rev e.rev)) ++ codes ",") ++ compact_text (text_data e.text)) ++ codes "]" ≡ out ++ compact_text (entry_data n e)
entry_is out n e = five out (codes "[") (compact_text (n.rev e.rev)) (codes ",") (compact_text (text_data e.text)) (codes "]")

pub schema_step_is : (out : List ℕ) (n : Naming) (s : SchemaStep)
    → ((((((out ++ codes "{\"add\":") ++ compact_text (list_data (map (entry_data n) s.add))) ++ codes ",\"cut\":") ++ compact_text (list_data (map (entry_data n) s.cut))) ++ codes ",\"on\":") ++ compact_text (n.rev s.on)) ++ codes "}"
    ≡ out ++ compact_text (schema_step_data n s)
unfolding escape_byte
schema_step_is out n s = seven out (codes "{\"add\":") (compact_text (list_data (map (entry_data n) s.add))) (codes ",\"cut\":") (compact_text (list_data (map (entry_data n) s.cut))) (codes ",\"on\":") (compact_text (n.rev s.on)) (codes "}")

nine : (o a b c d e f g h i : List ℕ) → ((((((((o ++ a) ++ b) ++ c) ++ d) ++ e) ++ f) ++ g) ++ h) ++ i ≡ o ++ (a ++ (b ++ (c ++ (d ++ (e ++ (f ++ (g ++ (h ++ i))))))))
nine o a b c d e f g h i = simp append_assoc

pub reg_step_is : (out : List ℕ) (n : Naming) (r : RegStep)
    → ((((((((out ++ codes "[") ++ compact_text (n.atom r.field.node.0)) ++ codes ",") ++ compact_text (string r.field.key.0)) ++ codes ",") ++ compact_text (node_or_null n r.before)) ++ codes ",") ++ compact_text (node_or_null n r.after)) ++ codes "]"
    ≡ out ++ compact_text (reg_step_data n r)
reg_step_is out n r = nine out (codes "[") (compact_text (n.atom r.field.node.0)) (codes ",") (compact_text (string r.field.key.0)) (codes ",") (compact_text (node_or_null n r.before)) (codes ",") (compact_text (node_or_null n r.after)) (codes "]")

nested : (a b c d e f g h i j k : List ℕ) → ((a ++ b) ++ (c ++ d)) ++ (((e ++ f) ++ ((g ++ h) ++ i)) ++ (j ++ k)) ≡ a ++ (b ++ (c ++ (d ++ (e ++ (f ++ (g ++ (h ++ (i ++ (j ++ k)))))))))
nested a b c d e f g h i j k = simp append_assoc

four : (o a b c d : List ℕ) → (((o ++ a) ++ b) ++ c) ++ d ≡ o ++ (a ++ (b ++ (c ++ d)))
four o a b c d = simp append_assoc

pub step_is : (out : List ℕ) (n : Naming) (s : Step) → (((out ++ step_head_text n s) ++ step_tail_text n s) ++ compact_text (schema_part_data n s.schema)) ++ codes "}" ≡ out ++ compact_text (step_data n s)
unfolding escape_byte
step_is out n s =
    four out (step_head_text n s) (step_tail_text n s) (compact_text (schema_part_data n s.schema)) (codes "}")
    ∙ ap (λ (x : List ℕ). out ++ x) (nested (codes "{\"loose\":") (compact_text (list_data (map (loose_data n) s.loose))) (codes ",\"new\":") (compact_text (list_data (map (new_data n) s.new)))
    (codes ",\"regs\":") (compact_text (list_data (map (reg_step_data n) s.regs))) (codes ",\"rows\":") (compact_text (list_data (map (row_data n) s.rows))) (codes ",\"schema\":")
    (compact_text (schema_part_data n s.schema)) (codes "}"))
