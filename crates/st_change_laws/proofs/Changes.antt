-- What is read as a change is told by its value.
use Rattle.std.proofs.Common.{◌≡◌, ◌∙◌, ℕ, Bool, true, false, List, [], ◌∷◌, map, Option, None, Some, option_map, option_and_then, codes, refl, sym, ap, subst}
use Rattle.std.specs.Prelude.{if◌then◌else◌}
use Rattle.serde_json.specs.Data.{Data, boolean, object}
use Rattle.serde_json.specs.Find.{get, as_bool}
use Rattle.serde_json.specs.Written.{compact_text}
use Rattle.st_ids.specs.declared.names.Atom.{Atom}
use Rattle.st_ids.specs.declared.names.NodeId.{NodeId}
use Rattle.st_ids.specs.declared.names.Rev.{Rev}
use Rattle.st_lemmas.proofs.Options.{one_some, option_map-Some, option_and_then-Some}
use Rattle.st_marks.specs.declared.changes.Change.{Change}
use Rattle.st_marks.specs.declared.changes.NewNode.{NewNode}
use Rattle.st_marks.specs.declared.marks.RegMark.{RegMark}
use Rattle.st_marks.specs.declared.marks.RowMarks.{RowMarks}
use Rattle.st_schema.specs.Reading.{schema_of}
use Rattle.st_schema.specs.Schema.{SchemaView, is_sound}
use Rattle.st_schema.specs.Written.{schema_data}
use Rattle.st_schema.proofs.Forms.{schema_back}
use Rattle.st_schema_laws.proofs.Texts.{schema_text}
use Rattle.st_change_codec.specs.Changes.{list_data}
use Rattle.st_change_codec.specs.SchemaTexts.{if_sound, schema_or, sound_schema_of, text_data}
use Rattle.st_mark_reader.specs.Naming.{Naming, NameForm}
use Rattle.st_change_writer.specs.Listed.{loose_data, new_data, node_data, register_data, row_data}
use Rattle.st_mark_reader.specs.Reading.{is_named, list_of, loose_of, member_of, new_of, node_of, register_of, row_of}
use Rattle.st_change_writer.specs.Told.{change_data}
use Rattle.st_change_reader.specs.Reading.{change_of, edit_names, edits_of, fields_of, ground_of, nodes_of, read_edits, read_lists, read_upgrade, schema_text_of, upgrade_names, upgrade_of}
use Rattle.st_change_reader.specs.declared.parts.Fields.{Fields}
use Rattle.st_change_reader.specs.declared.parts.Ground.{Ground}
use Rattle.st_change_reader.specs.declared.parts.Nodes.{Nodes}
use Rattle.st_change_laws.specs.Both.{Reads}
use Rattle.st_change_laws.specs.Signed.{NumbersAreSigned}
use Rattle.st_change_laws.specs.Within.{ChangeIsWithin, IsSchemaText, LooseIsWithin, NewIsWithin, NodeIsWithin, RegisterIsWithin, RowIsWithin}
use Rattle.st_change_laws.proofs.Members.{first, later, named_object, with_names}
use Rattle.st_change_laws.proofs.ReadValues.{is_bool, list_reads, loose_reads, new_reads, node_reads, register_reads, row_reads}

-- ## Ground

-- what the values of the three members are told by
ground_reads : (n : Naming) (F : NameForm) (R : Rev → Type 0) → Reads F.rev n.rev R → (d base rev under : Data) (g : Ground)
    → get (codes "base") d ≡ Some base → get (codes "rev") d ≡ Some rev → get (codes "under") d ≡ Some under → NumbersAreSigned rev → NumbersAreSigned under → ground_of F d ≡ Some g
    → (base ≡ boolean g.base) × (rev ≡ n.rev g.rev) × (under ≡ n.rev g.under) × R g.rev × R g.under
ground_reads n F R r d base rev under g b e u hr hu q =
    let made : Rev → Rev → Bool → Ground = λ rev under base. record { rev = rev; under = under; base = base } in
    let x = option_and_then-Some (λ rev. option_and_then (λ under. option_map (made rev under) (member_of as_bool (codes "base") d)) (member_of F.rev (codes "under") d)) (member_of F.rev (codes "rev") d) g q in
    let y = option_and_then-Some (λ under. option_map (made x.0 under) (member_of as_bool (codes "base") d)) (member_of F.rev (codes "under") d) g x.2 in
    let z = option_map-Some (made x.0 y.0) (member_of as_bool (codes "base") d) g y.2 in
    let one = r rev x.0 hr (sym (ap (option_and_then F.rev) e) ∙ x.1) in
    let two = r under y.0 hu (sym (ap (option_and_then F.rev) u) ∙ y.1) in
    let three = is_bool base z.0 (sym (ap (option_and_then as_bool) b) ∙ z.1) in
    subst (λ (g : Ground). (base ≡ boolean g.base) × (rev ≡ n.rev g.rev) × (under ≡ n.rev g.under) × R g.rev × R g.under) z.2 (three, one.0, two.0, one.1, two.1)

member_reads : {A : Type 0} (f : Data → Option A) (g : A → Data) (P : A → Type 0) → Reads f g P → (name : List ℕ) (d e : Data) (x : A) → get name d ≡ Some e → NumbersAreSigned e → member_of f name d ≡ Some x → (e ≡ g x) × P x
member_reads f g P r name d e x there h q = r e x h (sym (ap (option_and_then f) there) ∙ q)

-- ## Changes of data

edits_read : (n : Naming) (F : NameForm) (R : Rev → Type 0) (A : Atom → Type 0) → Reads F.rev n.rev R → Reads F.atom n.atom A → (ds : List Data) (C : Change)
    → NumbersAreSigned (object (with_names edit_names ds)) → read_edits F (object (with_names edit_names ds)) ≡ Some C
    → (object (with_names edit_names ds) ≡ change_data n C) × ChangeIsWithin R A C
edits_read n F R A r a ds C h q =
    let d = object (with_names edit_names ds) in
    let x0 = first ds in let r1 = later ds in let x1 = first r1 in let r2 = later r1 in let x2 = first r2 in let r3 = later r2 in let x3 = first r3 in
    let r4 = later r3 in let x4 = first r4 in let r5 = later r4 in let x5 = first r5 in let r6 = later r5 in let x6 = first r6 in let r7 = later r6 in let x7 = first r7 in
    let g = option_and_then-Some (λ g. read_lists F g d) (ground_of F d) C q in
    let ground = ground_reads n F R r d x0 x5 x7 g.0 refl refl refl h.1.1.1.1.1.0 h.1.1.1.1.1.1.1.0 g.1 in
    let nodes = option_and_then-Some (λ nodes. option_and_then (λ fields. option_map (λ loose. edits_of g.0 nodes fields loose) (member_of (list_of (loose_of F)) (codes "loose") d)) (fields_of F d)) (nodes_of F d) C g.2 in
    let fields = option_and_then-Some (λ fields. option_map (λ loose. edits_of g.0 nodes.0 fields loose) (member_of (list_of (loose_of F)) (codes "loose") d)) (fields_of F d) C nodes.2 in
    let loose = option_map-Some (λ loose. edits_of g.0 nodes.0 fields.0 loose) (member_of (list_of (loose_of F)) (codes "loose") d) C fields.2 in
    let of_nodes : List NodeId → List NewNode → Nodes = λ need new. record { need = need; new = new } in
    let need = option_and_then-Some (λ need. option_map (of_nodes need) (member_of (list_of (new_of F)) (codes "new") d)) (member_of (list_of (node_of F)) (codes "need") d) nodes.0 nodes.1 in
    let new = option_map-Some (of_nodes need.0) (member_of (list_of (new_of F)) (codes "new") d) nodes.0 need.2 in
    let of_fields : List RowMarks → List RegMark → Fields = λ rows regs. record { rows = rows; regs = regs } in
    let rows = option_and_then-Some (λ rows. option_map (of_fields rows) (member_of (list_of (register_of F)) (codes "regs") d)) (member_of (list_of (row_of F)) (codes "rows") d) fields.0 fields.1 in
    let regs = option_map-Some (of_fields rows.0) (member_of (list_of (register_of F)) (codes "regs") d) fields.0 rows.2 in
    let l = list_reads (loose_of F) (loose_data n) (LooseIsWithin A) (loose_reads n F A a) x1 loose.0 h.1.0 loose.1 in
    let e = list_reads (node_of F) (node_data n) (NodeIsWithin A) (node_reads n F A a) x2 need.0 h.1.1.0 need.1 in
    let m = list_reads (new_of F) (new_data n) (NewIsWithin A) (new_reads n F A a) x3 new.0 h.1.1.1.0 new.1 in
    let g4 = list_reads (register_of F) (register_data n) (RegisterIsWithin A) (register_reads n F A a) x4 regs.0 h.1.1.1.1.0 regs.1 in
    let w = list_reads (row_of F) (row_data n) (RowIsWithin A) (row_reads n F A a) x6 rows.0 h.1.1.1.1.1.1.0 rows.1 in
    let made : Nodes → Fields → Change = λ nodes fields. edits_of g.0 nodes fields loose.0 in
    let whole : made (of_nodes need.0 new.0) (of_fields rows.0 regs.0) ≡ C = (λ i. made (new.2 i) (regs.2 i)) ∙ loose.2 in
    let told : List Data = boolean g.0.base ∷ list_data (map (loose_data n) loose.0) ∷ list_data (map (node_data n) need.0) ∷ list_data (map (new_data n) new.0) ∷ list_data (map (register_data n) regs.0)
    ∷ n.rev g.0.rev ∷ list_data (map (row_data n) rows.0) ∷ n.rev g.0.under ∷ [] in
    subst (λ (C : Change). (d ≡ change_data n C) × ChangeIsWithin R A C) whole (
      (λ i. object (with_names edit_names (ground.0 i ∷ l.0 i ∷ e.0 i ∷ m.0 i ∷ g4.0 i ∷ ground.1 i ∷ w.0 i ∷ ground.2 i ∷ []))),
      record { rev = ground.3; under = ground.4; content = record { need = e.1; new = m.1; rows = w.1; regs = g4.1; loose = l.1 } },
    )

-- ## Changes of the schema

sound_is : (s t : SchemaView) (b : Bool) → is_sound s ≡ b → if_sound s ≡ Some t → (is_sound s ≡ true) × (s ≡ t)
sound_is s t true e h = (e, one_some s t (rw e at h))
sound_is s t false e h = absurd (none_some (rw e at h))
  where
    none_some : ◌≡◌ {A = Option SchemaView} None (Some t) → ⊥
    none_some q = cc

-- the text of a sound schema is told as the schema's form
pub text_told : (s : SchemaView) → is_sound s ≡ true → text_data (compact_text (schema_data s)) ≡ schema_data s
text_told s h =
    let back : sound_schema_of (compact_text (schema_data s)) ≡ Some s = ap (option_and_then if_sound) (schema_text s h).back ∙ kept (is_sound s) refl h in
    ap (schema_or (compact_text (schema_data s))) back
  where
    kept : (b : Bool) → is_sound s ≡ b → b ≡ true → if_sound s ≡ Some s
    kept true e q = rw e refl
    kept false e q = absurd (cc)

pub schema_reads : (d : Data) (t : List ℕ) → schema_text_of d ≡ Some t → (d ≡ text_data t) × IsSchemaText t
schema_reads d t e =
    let s = option_map-Some (λ s. compact_text (schema_data s)) (option_and_then if_sound (schema_of d)) t e in
    let u = option_and_then-Some if_sound (schema_of d) s.0 s.1 in
    let sound = sound_is u.0 s.0 (is_sound u.0) refl u.2 in
    let is_s : is_sound s.0 ≡ true = subst (λ (v : SchemaView). is_sound v ≡ true) sound.1 sound.0 in
    let form : d ≡ schema_data s.0 = schema_back d u.0 u.1 ∙ ap schema_data sound.1 in
    (form ∙ sym (text_told s.0 is_s) ∙ ap text_data s.2, (s.0, is_s, sym s.2))

upgrade_reads : (n : Naming) (F : NameForm) (R : Rev → Type 0) (A : Atom → Type 0) → Reads F.rev n.rev R → (ds : List Data) (C : Change)
    → NumbersAreSigned (object (with_names upgrade_names ds)) → read_upgrade F (object (with_names upgrade_names ds)) ≡ Some C
    → (object (with_names upgrade_names ds) ≡ change_data n C) × ChangeIsWithin R A C
upgrade_reads n F R A r ds C h q =
    let d = object (with_names upgrade_names ds) in
    let x0 = first ds in let r1 = later ds in let x1 = first r1 in let r2 = later r1 in let x2 = first r2 in let r3 = later r2 in let x3 = first r3 in
    let g = option_and_then-Some (λ g. option_map (λ text. upgrade_of g text) (member_of schema_text_of (codes "schema") d)) (ground_of F d) C q in
    let ground = ground_reads n F R r d x0 x1 x3 g.0 refl refl refl h.1.0 h.1.1.1.0 g.1 in
    let t = option_map-Some (λ text. upgrade_of g.0 text) (member_of schema_text_of (codes "schema") d) C g.2 in
    let s = schema_reads x2 t.0 t.1 in
    subst (λ (C : Change). (d ≡ change_data n C) × ChangeIsWithin R A C) t.2 (
      (λ i. object (with_names upgrade_names (ground.0 i ∷ ground.1 i ∷ s.0 i ∷ ground.2 i ∷ []))),
      record { rev = ground.3; under = ground.4; content = (s.1, record { need = refl; new = refl; rows = refl; regs = refl; loose = refl }) },
    )

-- ## Changes

pub change_reads : (n : Naming) (F : NameForm) (R : Rev → Type 0) (A : Atom → Type 0) → Reads F.rev n.rev R → Reads F.atom n.atom A → Reads (change_of F) (change_data n) (ChangeIsWithin R A)
change_reads n F R A r a d C h q = go (is_named upgrade_names d) refl (is_named edit_names d) refl q
  where
    go : (b : Bool) → is_named upgrade_names d ≡ b → (c : Bool) → is_named edit_names d ≡ c → (if b then read_upgrade F d else if c then read_edits F d else None) ≡ Some C → (d ≡ change_data n C) × ChangeIsWithin R A C
    go true u c e q =
        let ds = named_object upgrade_names d u in
        let D = object (with_names upgrade_names ds.0) in
        let one = upgrade_reads n F R A r ds.0 C (subst NumbersAreSigned ds.1 h) (sym (ap (read_upgrade F) ds.1) ∙ q) in
        (ds.1 ∙ one.0, one.1)
    go false u true e q =
        let ds = named_object edit_names d e in
        let one = edits_read n F R A r a ds.0 C (subst NumbersAreSigned ds.1 h) (sym (ap (read_edits F) ds.1) ∙ q) in
        (ds.1 ∙ one.0, one.1)
    go false u false e q = absurd (cc)
