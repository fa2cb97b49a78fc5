-- The tree that the document of a log shows.
use Rattle.std.proofs.Common.{◌≡◌, ◌-◌, ℕ, zero, suc, List, [], ◌∷◌, length, Option, Some, None, refl, sym, ap, ◌∙◌, subst, inl, inr, arith, unwrap_or, option_and_then, slice_get}
use Rattle.std.specs.List.{last_or}
use Rattle.st_conform_laws.proofs.ValidEntries.{entries_have_schemas}
use Rattle.st_conform_laws.proofs.ValidMessages.{valid_commits}
use Rattle.st_conform_laws.specs.Entries.{IsOpened}
use Rattle.st_edits.proofs.SchemaTexts.{schema_back}
use Rattle.st_edits.specs.Fields.{register_in}
use Rattle.st_edits.specs.InEffect.{empty_schema, schema_in_effect}
use Rattle.st_ids.specs.Listing.{Has}
use Rattle.st_ids.specs.declared.names.NodeId.{NodeId}
use Rattle.st_lists.specs.Log.{commits_in}
use Rattle.st_lists.specs.declared.lists.Entry.{Entry}
use Rattle.st_marks.specs.Document.{Document, last_of}
use Rattle.st_marks.specs.Run.{Run}
use Rattle.st_marks.specs.declared.schemas.SchemaEntry.{SchemaEntry}
use Rattle.st_run.specs.inside.Trees.{HasSchemas}
use Rattle.st_schema.specs.Reading.{schema_of_text}
use Rattle.st_schema.specs.Schema.{SchemaView}
use Rattle.st_schema_laws.proofs.Opened.{allowed_conforms}
use Rattle.st_schema_laws.specs.Widening.{IsTextOf}
use Rattle.st_script.specs.Header.{HeaderView}
use Rattle.st_valid.specs.Room.{HasRoomForNames}
use Rattle.st_valid_laws.specs.Messages.{IsValidLog}
use Rattle.st_valid_laws.proofs.Standing.{all_stand, room_of_names}
use Rattle.st_valid_laws.proofs.ValidLogs.{have_new_revisions}
use Rattle.st_world.specs.World.{opening_document}
use Rattle.st_world_laws.specs.Worlds.{IsHeader}
use Rattle.st_world_laws.proofs.Begun.{opened_start, opens_allowed}

-- ## The opening

-- the document of a header keeps to the header's schema
header_opened : (h : HeaderView) → IsHeader h → IsOpened h.schema (opening_document h)
header_opened h k =
    let s = opened_start h k in
    record {
      sound = s.sound;
      made = s.made;
      one = refl;
      schema = k.schema;
      text = text;
      conforms = allowed_conforms h.schema (λ (m : NodeId). register_in ((opening_document h).place m)) h.tree _ k.schema (opens_allowed h.schema h.tree k.tree) (λ m there. refl);
    }
  where
    text : (e : SchemaEntry) → Has (opening_document h).schemas e → IsTextOf h.schema e.text
    text e (inl is) = subst (λ (x : SchemaEntry). IsTextOf h.schema x.text) is (record { written = refl; back = schema_back h.schema k.schema })
    text e (inr none) = absurd none

-- ## The document of a log

pub log_has_schemas : (h : HeaderView) (log : List Entry) (D : Document) → IsHeader h → IsValidLog (opening_document h) log → Run (opening_document h) (commits_in log) D → HasSchemas D
log_has_schemas h log D k valid ran e there =
    let O = opening_document h in
    let s = opened_start h k in
    let room : HasRoomForNames O = λ n. omega (arith, s.short n) in
    let opened = header_opened h k in
    let is = entries_have_schemas h.schema O (commits_in log) opened (valid_commits O s.sound s.made room valid) (have_new_revisions valid)
    (room_of_names O (commits_in log) room (all_stand O s.sound s.made room valid).names) D ran e there in
    (is.0, (is.1, is.2.written))

-- ## The schema last in effect

got_has : {A : Type 0} (xs : List A) (i : ℕ) (x : A) → slice_get xs i ≡ Some x → Has xs x
got_has [] i x e = absurd (let f : None ≡ Some x = e in cc)
got_has (y ∷ ys) zero x e = inl (let f : Some y ≡ Some x = e in cc)
got_has (y ∷ ys) (suc i) x e = inr (got_has ys i x e)

last_got : {A : Type 0} (o : Option A) (x : A) (xs : List A) → slice_get (x ∷ xs) (length xs) ≡ last_or o (x ∷ xs)
last_got o x [] = refl
last_got o x (y ∷ ys) = last_got (Some x) y ys

last_is : {A : Type 0} (xs : List A) (x : A) → Some x ≡ slice_get xs (length xs - 1) → last_of xs ≡ Some x
last_is [] x e = absurd (let f : Some x ≡ None = e in cc)
last_is (y ∷ ys) x e =
    let short : length (y ∷ ys) - 1 ≡ length ys = omega arith in
    sym (last_got None y ys) ∙ ap (slice_get (y ∷ ys)) (sym short) ∙ sym e

pub last_there : (es : List SchemaEntry) (e : SchemaEntry) → Some e ≡ slice_get es (length es - 1) → Has es e
last_there es e at = got_has es (length es - 1) e (sym at)

-- the last entry's schema is the one in effect
pub effect_of_last : (D : Document) (e : SchemaEntry) (s : SchemaView) → Some e ≡ slice_get D.schemas (length D.schemas - 1) → schema_of_text e.text ≡ Some s → schema_in_effect D ≡ s
effect_of_last D e s at is = ap (λ (o : Option SchemaEntry). unwrap_or (option_and_then (λ (x : SchemaEntry). schema_of_text x.text) o) empty_schema) (last_is D.schemas e at) ∙ ap (λ (o : Option SchemaView). unwrap_or o empty_schema) is
