-- What is kept of the schema that is last in effect where a line of a client shows a document.
use Rattle.std.proofs.Common.{◌≡◌, ℕ, true, cond, List, Option, Some, None, IfSome, refl, sym, ap, ◌∙◌, subst}
use Rattle.std.specs.BTreeMap.{BTreeMap, get}
use Rattle.std.specs.List.{AllByRecursion, slice_get}
use Rattle.std.specs.Option.{option_and_then}
use Rattle.std.specs.Prelude.{unwrap_or}
use Rattle.serde_json.specs.Written.{compact_text}
use Rattle.st_ids.specs.Order.{rev_cmp, same_rev}
use Rattle.st_ids.specs.Root.{opening}
use Rattle.st_ids.specs.declared.names.Rev.{Rev}
use Rattle.st_ids.proofs.Orders.{same_rev-itself}
use Rattle.st_schema.specs.Reading.{schema_of_text}
use Rattle.st_schema.specs.Schema.{SchemaView, is_sound}
use Rattle.st_schema.specs.Written.{schema_data}
use Rattle.st_marks.specs.declared.intents.Intent.{Intent}
use Rattle.st_marks.specs.declared.schemas.SchemaEntry.{SchemaEntry}
use Rattle.st_marks.specs.CarryOut.{with_schema}
use Rattle.st_marks.specs.Document.{Document, last_of, revs}
use Rattle.st_marks.proofs.OneVerdict.{one_run}
use Rattle.st_doc.specs.LiveText.{is_among}
use Rattle.st_edits.specs.ArrayTypes.{is_array_type}
use Rattle.st_lists.specs.Open.{FitsSoFar, with_open}
use Rattle.st_script.specs.Header.{HeaderView, header_view}
use Rattle.st_lists.specs.Lines.{HasHead, Line, edited_on, line_of}
use Rattle.st_lists.specs.declared.lists.Client.{Client}
use Rattle.st_lists.specs.declared.lists.Entry.{Entry}
use Rattle.st_lists.specs.declared.lists.Transaction.{Transaction}
use Rattle.st_edits.specs.InEffect.{empty_schema, schema_in_effect}
use Rattle.st_schema_laws.proofs.Texts.{schema_text}
use Rattle.st_world_laws.specs.Worlds.{IsClient, IsTransaction}
use Rattle.st_plain.specs.Replicas.{IsSound}
use Rattle.st_plain_schemas.specs.Schemas.{HasReading}
use Rattle.st_world.specs.World.{HasShown, opening_document}
use Rattle.st_edits.specs.InEffect.{last_in_effect}
use Rattle.st_plain_schemas.specs.declared.known.KnownSchema.{KnownSchema}
use Rattle.st_plain.specs.declared.world.World.{World}
use Rattle.st_world_laws.proofs.Among.{line_transaction}
use Rattle.st_world_laws.proofs.Effect.{IsLastEntry, entry_known, has_last_entry, head_in_form}
use Rattle.st_world_laws.proofs.Everyone.{all_get}
use Rattle.st_plain.proofs.Everyone.{clients_of}
use Rattle.st_plain.proofs.Stepping.{start_of}

-- a table has the schema that is last in effect in a document, and its types whose nodes have a row
abbrev pub HasInEffect : BTreeMap Rev KnownSchema → Document → Type 0
HasInEffect schemas E = (x : KnownSchema) × (get rev_cmp schemas (last_in_effect E) ≡ Some x) × (x.schema ≡ schema_in_effect E) × (is_among x.arrays ≡ is_array_type (schema_in_effect E))

-- the table that has the schema of a header alone has it as the text's reading
pub first_known : (s v : SchemaView) (k : KnownSchema) (schemas old : BTreeMap Rev KnownSchema) → is_sound s ≡ true → v ≡ s → k.schema ≡ v → is_among k.arrays ≡ is_array_type v
    → ((r : Rev) → get rev_cmp schemas r ≡ cond (same_rev opening r) (Some k) (get rev_cmp old r)) → HasReading schemas opening (compact_text (schema_data s))
first_known s v k schemas old sound same is arrays kept = (
  k,
  kept opening ∙ ap (λ b. cond b (Some k) (get rev_cmp old opening)) (same_rev-itself opening),
  record {
    schema = (schema_text s sound).back ∙ ap (λ (x : SchemaView). Some x) (sym (is ∙ same));
    arrays = arrays ∙ ap is_array_type (sym is);
  },
)

-- what was edited leaves the schemas in effect
leaves_schemas : (D : Document) (rev under : Rev) (joined : Option Intent) → FitsSoFar D rev under joined → (with_open D joined).schemas ≡ D.schemas
leaves_schemas D rev under None so = refl
leaves_schemas D rev under (Some J) so = ap (λ (o : Option (List ℕ)). with_schema J o D.schemas) so.3

-- where the reading of the last entry is kept
read_in_effect : (schemas : BTreeMap Rev KnownSchema) (D E : Document) (e : SchemaEntry) → E.schemas ≡ D.schemas → IsLastEntry D e → HasReading schemas e.rev e.text → HasInEffect schemas E
read_in_effect schemas D E e same is has =
    let rev : last_in_effect E ≡ e.rev = ap (λ (es : List SchemaEntry). unwrap_or (last_of (revs es)) opening) same ∙ ap (λ (o : Option Rev). unwrap_or o opening) is.rev in
    let schema : schema_in_effect E ≡ has.0.schema =
    ap (λ (es : List SchemaEntry). unwrap_or (option_and_then (λ (x : SchemaEntry). schema_of_text x.text) (last_of es)) empty_schema) same
    ∙ ap (λ (o : Option SchemaEntry). unwrap_or (option_and_then (λ (x : SchemaEntry). schema_of_text x.text) o) empty_schema) is.last
    ∙ ap (λ (o : Option SchemaView). unwrap_or o empty_schema) has.2.schema in
    (has.0, ap (get rev_cmp schemas) rev ∙ has.1, sym schema, has.2.arrays ∙ ap is_array_type (sym schema))

some_is : (x y : KnownSchema) → Some x ≡ Some y → x ≡ y
some_is x y e = cc

module _ (w : World) (i : ℕ) (c : Client) (s : IsSound w) (at : slice_get w.lists.clients i ≡ Some c) (j : ℕ) (l : Line) (line : line_of c j ≡ Some l) where
  abbrev h : HeaderView
  h = header_view w.header

  abbrev log : List Entry
  log = w.lists.log

  are : AllByRecursion (IsClient h log) w.lists.clients
  are = clients_of h log w.lists.clients w.kept s.kept

  -- what a line shows has the schemas in effect of the line's document
  pub same_schemas : (D : Document) → HasHead (opening_document h) log l D → (with_open D (edited_on l)).schemas ≡ D.schemas
  same_schemas D head = go l.transaction (line_transaction h (start_of w w.steps s) log c (all_get (IsClient h log) w.lists.clients i c are at) j l line)
    where
      go : (o : Option Transaction) → IfSome o (IsTransaction h log l c) → (with_open D (option_and_then (λ (t : Transaction). t.joined) o)).schemas ≡ D.schemas
      go None x = refl
      go (Some t) x = leaves_schemas D t.rev t.under t.joined (subst (λ F. FitsSoFar F t.rev t.under t.joined) (one_run x.main head) x.so_far)

  pub in_effect_known : (E : Document) → HasShown (opening_document h) log l E → HasInEffect w.schemas E
  in_effect_known E shown =
      let D = shown.0 in
      let st = start_of w w.steps s in
      let e = has_last_entry D (head_in_form h st (HasReading w.schemas) log w.lists.clients s.schema are i c at j l line D shown.1) in
      read_in_effect w.schemas D E e.0 (ap (λ (F : Document). F.schemas) shown.2 ∙ same_schemas D shown.1) e.1
      (entry_known h st (HasReading w.schemas) log w.lists.clients s.schema are i c at j l line D shown.1 e.0 e.1.there)

  -- what the look-up gives is that schema, and it gives one
  pub known_schema : (E : Document) → HasShown (opening_document h) log l E → (x : KnownSchema) → Some x ≡ get rev_cmp w.schemas (last_in_effect E) → x.schema ≡ schema_in_effect E
  known_schema E shown x found =
      let y = in_effect_known E shown in
      subst (λ (z : KnownSchema). z.schema ≡ schema_in_effect E) (some_is y.0 x (sym y.1 ∙ sym found)) y.2

  pub known_arrays : (E : Document) → HasShown (opening_document h) log l E → (x : KnownSchema) → Some x ≡ get rev_cmp w.schemas (last_in_effect E) → is_among x.arrays ≡ is_array_type (schema_in_effect E)
  known_arrays E shown x found =
      let y = in_effect_known E shown in
      subst (λ (z : KnownSchema). is_among z.arrays ≡ is_array_type (schema_in_effect E)) (some_is y.0 x (sym y.1 ∙ sym found)) y.3

  pub known_some : (E : Document) → HasShown (opening_document h) log l E → None ≡ get rev_cmp w.schemas (last_in_effect E) → ⊥
  known_some E shown none =
      let y = in_effect_known E shown in
      let bad : None ≡ Some y.0 = none ∙ y.1 in
      absurd (cc)
