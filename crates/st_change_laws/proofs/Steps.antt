-- What is read as a step is told by its value.
use Rattle.std.proofs.Common.{◌≡◌, ◌∙◌, ℕ, Bool, true, false, List, [], ◌∷◌, Option, None, Some, option_map, option_and_then, is_some, codes, refl, sym, ap, subst}
use Rattle.std.specs.Prelude.{if◌then◌else◌}
use Rattle.serde_json.specs.Data.{Data, array, object, Items, no_items, item}
use Rattle.serde_json.specs.Find.{as_null, as_array}
use Rattle.st_ids.specs.declared.names.Atom.{Atom}
use Rattle.st_ids.specs.declared.names.FieldId.{FieldId}
use Rattle.st_ids.specs.declared.names.NodeId.{NodeId}
use Rattle.st_ids.specs.declared.names.Rev.{Rev}
use Rattle.st_json.proofs.Shared.{is_array}
use Rattle.st_lemmas.proofs.Options.{one_some, option_map-Some, option_and_then-Some}
use Rattle.st_marks.specs.declared.changes.NewNode.{NewNode}
use Rattle.st_marks.specs.declared.marks.How.{How}
use Rattle.st_marks.specs.declared.marks.Loose.{Loose}
use Rattle.st_marks.specs.declared.marks.Mark.{Mark}
use Rattle.st_marks.specs.declared.marks.RegStep.{RegStep}
use Rattle.st_marks.specs.declared.marks.RowMarks.{RowMarks}
use Rattle.st_marks.specs.declared.schemas.SchemaEntry.{SchemaEntry}
use Rattle.st_marks.specs.declared.schemas.SchemaStep.{SchemaStep}
use Rattle.st_marks.specs.declared.steps.Step.{Step}
use Rattle.st_change_codec.specs.Changes.{list_data}
use Rattle.st_mark_reader.specs.Naming.{Naming, NameForm}
use Rattle.st_mark_reader.specs.Reading.{four_in, is_named, list_of, loose_of, mark_of, member_of, new_of, node_of, occupant_of, field_of}
use Rattle.st_change_writer.specs.Listed.{loose_data, mark_data, new_data, row_data}
use Rattle.st_change_writer.specs.Told.{entry_data, reg_step_data, schema_part_data, schema_step_data, step_data}
use Rattle.st_change_reader.specs.Reading.{schema_text_of}
use Rattle.st_change_reader.specs.StepReading.{entry_in, entry_of, if_moves, reg_step_at, reg_step_in, reg_step_of, schema_lists_of, schema_part_of, schema_step_names, schema_step_of, step_fields_of, step_lists_of, step_loose_in, step_loose_of, step_mark_in, step_mark_of, step_names, step_nodes_of, step_of, step_of_parts, step_row_in, step_row_of, turn_of}
use Rattle.st_change_reader.specs.declared.parts.StepFields.{StepFields}
use Rattle.st_change_reader.specs.declared.parts.StepNodes.{StepNodes}
use Rattle.st_change_reader.specs.declared.parts.Turn.{Turn}
use Rattle.st_change_laws.specs.Both.{Reads}
use Rattle.st_change_laws.specs.Signed.{NumbersAreSigned}
use Rattle.st_change_laws.specs.Within.{EntryIsWithin, HowMoves, MarkMoves, NewIsWithin, RegStepIsWithin, SchemaPartIsWithin, SchemaStepIsWithin, StepIsWithin, StepLooseIsWithin, StepMarkIsWithin, StepRowIsWithin}
use Rattle.st_change_laws.proofs.Changes.{schema_reads}
use Rattle.st_change_laws.proofs.Members.{first, later, named_object, with_names}
use Rattle.st_change_laws.proofs.ReadValues.{field_reads, guarded, is_null, list_reads, loose_reads, mark_reads, new_reads, node_reads, occupant_reads, pair_reads}

-- ## Marks and rows

moves_is : (h k : How) → if_moves h ≡ Some k → (h ≡ k) × HowMoves h
moves_is How.Stay k e = (one_some How.Stay k e, tt)
moves_is How.Here k e = absurd (cc)
moves_is How.Leave k e = (one_some How.Leave k e, tt)

mark_is : (m k : Mark) → step_mark_in m ≡ Some k → (m ≡ k) × MarkMoves m
mark_is (Mark.Skip j) k e = (one_some (Mark.Skip j) k e, tt)
mark_is (Mark.Gap c) k e = (one_some (Mark.Gap c) k e, tt)
mark_is (Mark.Touch c x how) k e =
    let touch : How → Mark = λ h. Mark.Touch c x h in
    let h = option_map-Some touch (if_moves how) k e in
    let same = moves_is how h.0 h.1 in
    (ap touch same.0 ∙ h.2, same.1)
mark_is (Mark.Make c x full) k e = (one_some (Mark.Make c x full) k e, tt)
mark_is (Mark.Fill c x) k e = (one_some (Mark.Fill c x) k e, tt)

step_mark_reads : (n : Naming) (F : NameForm) (A : Atom → Type 0) → Reads F.atom n.atom A → Reads (step_mark_of F) (mark_data n) (StepMarkIsWithin A)
step_mark_reads n F A r d m h e =
    let k = option_and_then-Some step_mark_in (mark_of F d) m e in
    let one = mark_reads n F A r d k.0 h k.1 in
    let same = mark_is k.0 m k.2 in
    subst (λ (z : Mark). (d ≡ mark_data n z) × StepMarkIsWithin A z) same.0 (one.0, (one.1, same.1))

step_row_reads : (n : Naming) (F : NameForm) (A : Atom → Type 0) → Reads F.atom n.atom A → Reads (step_row_of F) (row_data n) (StepRowIsWithin A)
step_row_reads n F A r d x h e =
    let p = pair_reads (step_row_in F) d x h e in
    let made : NodeId → List Mark → RowMarks = λ node marks. record { node = node; marks = marks } in
    let y = option_and_then-Some (λ (node : NodeId). option_map (made node) (list_of (step_mark_of F) p.0.1)) (node_of F p.0.0) x p.4 in
    let ms = option_map-Some (made y.0) (list_of (step_mark_of F) p.0.1) x y.2 in
    let one = node_reads n F A r p.0.0 y.0 p.2 y.1 in
    let two = list_reads (step_mark_of F) (mark_data n) (StepMarkIsWithin A) (step_mark_reads n F A r) p.0.1 ms.0 p.3 ms.1 in
    subst (λ (z : RowMarks). (d ≡ row_data n z) × StepRowIsWithin A z) ms.2 (p.1 ∙ (λ i. list_data (one.0 i ∷ two.0 i ∷ [])), (one.1, two.1))

loose_is : (l k : Loose) → step_loose_in l ≡ Some k → (l ≡ k) × HowMoves l.how
loose_is l k e =
    let made : How → Loose = λ how. record { node = l.node; how = how } in
    let h = option_map-Some made (if_moves l.how) k e in
    let same = moves_is l.how h.0 h.1 in
    (ap made same.0 ∙ h.2, same.1)

step_loose_reads : (n : Naming) (F : NameForm) (A : Atom → Type 0) → Reads F.atom n.atom A → Reads (step_loose_of F) (loose_data n) (StepLooseIsWithin A)
step_loose_reads n F A r d x h e =
    let l = option_and_then-Some step_loose_in (loose_of F d) x e in
    let one = loose_reads n F A r d l.0 h l.1 in
    let same = loose_is l.0 x l.2 in
    subst (λ (z : Loose). (d ≡ loose_data n z) × StepLooseIsWithin A z) same.0 (one.0, (one.1, same.1))

-- ## Registers

four_back : (ds : Items) (p : Data × Data × Data × Data) → four_in ds ≡ Some p → ds ≡ item p.0 (item p.1 (item p.2 (item p.3 no_items)))
four_back no_items p e = absurd (cc)
four_back (item a no_items) p e = absurd (cc)
four_back (item a (item b no_items)) p e = absurd (cc)
four_back (item a (item b (item c no_items))) p e = absurd (cc)
four_back (item a (item b (item c (item d no_items)))) p e =
    let same : (a, b, c, d) ≡ p = one_some (a, b, c, d) p e in
    ap (λ (q : Data × Data × Data × Data). item q.0 (item q.1 (item q.2 (item q.3 no_items)))) same
four_back (item a (item b (item c (item d (item e ds))))) p h = absurd (cc)

reg_step_reads : (n : Naming) (F : NameForm) (A : Atom → Type 0) → Reads F.atom n.atom A → Reads (reg_step_of F) (reg_step_data n) (RegStepIsWithin A)
reg_step_reads n F A r d x h e =
    let p = option_and_then-Some (reg_step_in F) (option_and_then four_in (as_array d)) x e in
    let ds = option_and_then-Some four_in (as_array d) p.0 p.1 in
    let form : d ≡ list_data (p.0.0 ∷ p.0.1 ∷ p.0.2 ∷ p.0.3 ∷ []) = is_array d ds.0 ds.1 ∙ ap array (four_back ds.0 p.0 ds.2) in
    let s : NumbersAreSigned (list_data (p.0.0 ∷ p.0.1 ∷ p.0.2 ∷ p.0.3 ∷ [])) = subst NumbersAreSigned form h in
    let turn = option_and_then-Some (reg_step_at F p.0.0 p.0.1) (turn_of F p.0.2 p.0.3) x p.2 in
    let whole : FieldId → RegStep = λ field. record { field = field; before = turn.0.before; after = turn.0.after } in
    let f = option_map-Some whole (field_of F p.0.0 p.0.1) x turn.2 in
    let made : Option NodeId → Option NodeId → Turn = λ before after. record { before = before; after = after } in
    let b = option_and_then-Some (λ before. option_map (made before) (occupant_of F p.0.3)) (occupant_of F p.0.2) turn.0 turn.1 in
    let a = option_map-Some (made b.0) (occupant_of F p.0.3) turn.0 b.2 in
    let field = field_reads n F A r p.0.0 p.0.1 f.0 s.0 f.1 in
    let before = occupant_reads n F A r p.0.2 b.0 s.1.1.0 b.1 in
    let after = occupant_reads n F A r p.0.3 a.0 s.1.1.1.0 a.1 in
    let told : Turn → RegStep = λ t. record { field = f.0; before = t.before; after = t.after } in
    let at_turn : (d ≡ reg_step_data n (told turn.0)) × RegStepIsWithin A (told turn.0) = subst (λ (t : Turn). (d ≡ reg_step_data n (told t)) × RegStepIsWithin A (told t)) a.2
    (form ∙ (λ i. list_data (field.0 i ∷ field.1 i ∷ before.0 i ∷ after.0 i ∷ [])), (field.2, before.1, after.1)) in
    subst (λ (y : RegStep). (d ≡ reg_step_data n y) × RegStepIsWithin A y) f.2 at_turn

-- ## Schemas

entry_reads : (n : Naming) (F : NameForm) (R : Rev → Type 0) → Reads F.rev n.rev R → Reads (entry_of F) (entry_data n) (EntryIsWithin R)
entry_reads n F R r d x h e =
    let p = pair_reads (entry_in F) d x h e in
    let made : Rev → List ℕ → SchemaEntry = λ rev text. record { rev = rev; text = text } in
    let y = option_and_then-Some (λ (rev : Rev). option_map (made rev) (schema_text_of p.0.1)) (F.rev p.0.0) x p.4 in
    let t = option_map-Some (made y.0) (schema_text_of p.0.1) x y.2 in
    let one = r p.0.0 y.0 p.2 y.1 in
    let two = schema_reads p.0.1 t.0 t.1 in
    subst (λ (z : SchemaEntry). (d ≡ entry_data n z) × EntryIsWithin R z) t.2 (p.1 ∙ (λ i. list_data (one.0 i ∷ two.0 i ∷ [])), (one.1, two.1))

schema_lists_read : (n : Naming) (F : NameForm) (R : Rev → Type 0) → Reads F.rev n.rev R → (ds : List Data) (x : SchemaStep)
    → NumbersAreSigned (object (with_names schema_step_names ds)) → schema_lists_of F (object (with_names schema_step_names ds)) ≡ Some x
    → (object (with_names schema_step_names ds) ≡ schema_step_data n x) × SchemaStepIsWithin R x
schema_lists_read n F R r ds x h e =
    let d = object (with_names schema_step_names ds) in
    let x0 = first ds in let r1 = later ds in let x1 = first r1 in let r2 = later r1 in let x2 = first r2 in
    let made : Rev → List SchemaEntry → List SchemaEntry → SchemaStep = λ on cut add. record { on = on; cut = cut; add = add } in
    let o = option_and_then-Some (λ on. option_and_then (λ cut. option_map (made on cut) (member_of (list_of (entry_of F)) (codes "add") d)) (member_of (list_of (entry_of F)) (codes "cut") d)) (member_of F.rev (codes "on") d) x e in
    let c = option_and_then-Some (λ cut. option_map (made o.0 cut) (member_of (list_of (entry_of F)) (codes "add") d)) (member_of (list_of (entry_of F)) (codes "cut") d) x o.2 in
    let a = option_map-Some (made o.0 c.0) (member_of (list_of (entry_of F)) (codes "add") d) x c.2 in
    let add = list_reads (entry_of F) (entry_data n) (EntryIsWithin R) (entry_reads n F R r) x0 a.0 h.0 a.1 in
    let cut = list_reads (entry_of F) (entry_data n) (EntryIsWithin R) (entry_reads n F R r) x1 c.0 h.1.0 c.1 in
    let on = r x2 o.0 h.1.1.0 o.1 in
    subst (λ (z : SchemaStep). (d ≡ schema_step_data n z) × SchemaStepIsWithin R z) a.2 ((λ i. object (with_names schema_step_names (add.0 i ∷ cut.0 i ∷ on.0 i ∷ []))), (on.1, cut.1, add.1))

schema_step_reads : (n : Naming) (F : NameForm) (R : Rev → Type 0) → Reads F.rev n.rev R → Reads (schema_step_of F) (schema_step_data n) (SchemaStepIsWithin R)
schema_step_reads n F R r d x h e =
    let g = guarded (is_named schema_step_names d) (schema_lists_of F d) x e in
    let ds = named_object schema_step_names d g.0 in
    let one = schema_lists_read n F R r ds.0 x (subst NumbersAreSigned ds.1 h) (sym (ap (schema_lists_of F) ds.1) ∙ g.1) in
    (ds.1 ∙ one.0, one.1)

schema_part_reads : (n : Naming) (F : NameForm) (R : Rev → Type 0) → Reads F.rev n.rev R → Reads (schema_part_of F) (schema_part_data n) (SchemaPartIsWithin R)
schema_part_reads n F R r d x h e = go (is_some (as_null d)) refl e
  where
    go : (b : Bool) → is_some (as_null d) ≡ b → (if b then Some None else option_map Some (schema_step_of F d)) ≡ Some x → (d ≡ schema_part_data n x) × SchemaPartIsWithin R x
    go true is q =
        let same : ◌≡◌ {A = Option SchemaStep} None x = one_some None x q in
        subst (λ (z : Option SchemaStep). (d ≡ schema_part_data n z) × SchemaPartIsWithin R z) same (is_null d is, tt)
    go false is q =
        let wrap : SchemaStep → Option SchemaStep = λ s. Some s in
        let s = option_map-Some wrap (schema_step_of F d) x q in
        let one = schema_step_reads n F R r d s.0 h s.1 in
        subst (λ (z : Option SchemaStep). (d ≡ schema_part_data n z) × SchemaPartIsWithin R z) s.2 one

-- ## Steps

lists_read : (n : Naming) (F : NameForm) (R : Rev → Type 0) (A : Atom → Type 0) → Reads F.rev n.rev R → Reads F.atom n.atom A → (ds : List Data) (S : Step)
    → NumbersAreSigned (object (with_names step_names ds)) → step_lists_of F (object (with_names step_names ds)) ≡ Some S
    → (object (with_names step_names ds) ≡ step_data n S) × StepIsWithin R A S
lists_read n F R A r a ds S h q =
    let d = object (with_names step_names ds) in
    let x0 = first ds in let r1 = later ds in let x1 = first r1 in let r2 = later r1 in let x2 = first r2 in let r3 = later r2 in let x3 = first r3 in let r4 = later r3 in let x4 = first r4 in
    let nodes = option_and_then-Some (λ nodes. option_and_then (λ fields. option_map (λ schema. step_of_parts nodes fields schema) (member_of (schema_part_of F) (codes "schema") d)) (step_fields_of F d)) (step_nodes_of F d) S q in
    let fields = option_and_then-Some (λ fields. option_map (λ schema. step_of_parts nodes.0 fields schema) (member_of (schema_part_of F) (codes "schema") d)) (step_fields_of F d) S nodes.2 in
    let schema = option_map-Some (λ schema. step_of_parts nodes.0 fields.0 schema) (member_of (schema_part_of F) (codes "schema") d) S fields.2 in
    let of_nodes : List NewNode → List Loose → StepNodes = λ new loose. record { new = new; loose = loose } in
    let new = option_and_then-Some (λ new. option_map (of_nodes new) (member_of (list_of (step_loose_of F)) (codes "loose") d)) (member_of (list_of (new_of F)) (codes "new") d) nodes.0 nodes.1 in
    let loose = option_map-Some (of_nodes new.0) (member_of (list_of (step_loose_of F)) (codes "loose") d) nodes.0 new.2 in
    let of_fields : List RowMarks → List RegStep → StepFields = λ rows regs. record { rows = rows; regs = regs } in
    let rows = option_and_then-Some (λ rows. option_map (of_fields rows) (member_of (list_of (reg_step_of F)) (codes "regs") d)) (member_of (list_of (step_row_of F)) (codes "rows") d) fields.0 fields.1 in
    let regs = option_map-Some (of_fields rows.0) (member_of (list_of (reg_step_of F)) (codes "regs") d) fields.0 rows.2 in
    let l = list_reads (step_loose_of F) (loose_data n) (StepLooseIsWithin A) (step_loose_reads n F A a) x0 loose.0 h.0 loose.1 in
    let m = list_reads (new_of F) (new_data n) (NewIsWithin A) (new_reads n F A a) x1 new.0 h.1.0 new.1 in
    let g = list_reads (reg_step_of F) (reg_step_data n) (RegStepIsWithin A) (reg_step_reads n F A a) x2 regs.0 h.1.1.0 regs.1 in
    let w = list_reads (step_row_of F) (row_data n) (StepRowIsWithin A) (step_row_reads n F A a) x3 rows.0 h.1.1.1.0 rows.1 in
    let p = schema_part_reads n F R r x4 schema.0 h.1.1.1.1.0 schema.1 in
    let made : StepNodes → StepFields → Step = λ nodes fields. step_of_parts nodes fields schema.0 in
    let whole : made (of_nodes new.0 loose.0) (of_fields rows.0 regs.0) ≡ S = (λ i. made (loose.2 i) (regs.2 i)) ∙ schema.2 in
    subst (λ (S : Step). (d ≡ step_data n S) × StepIsWithin R A S) whole (
      (λ i. object (with_names step_names (l.0 i ∷ m.0 i ∷ g.0 i ∷ w.0 i ∷ p.0 i ∷ []))),
      record { new = m.1; rows = w.1; regs = g.1; loose = l.1; schema = p.1 },
    )

pub step_reads : (n : Naming) (F : NameForm) (R : Rev → Type 0) (A : Atom → Type 0) → Reads F.rev n.rev R → Reads F.atom n.atom A → Reads (step_of F) (step_data n) (StepIsWithin R A)
step_reads n F R A r a d S h q =
    let g = guarded (is_named step_names d) (step_lists_of F d) S q in
    let ds = named_object step_names d g.0 in
    let one = lists_read n F R A r a ds.0 S (subst NumbersAreSigned ds.1 h) (sym (ap (step_lists_of F) ds.1) ∙ g.1) in
    (ds.1 ∙ one.0, one.1)
