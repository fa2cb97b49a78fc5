-- The text of a value that has no number, and whose names rise, is read as that value; so the text of a sound schema is
-- read as that schema.
use Rattle.std.proofs.Common.{◌≡◌, ℕ, ◌≤◌, suc, max, true, List, [], ◌∷◌, map, Option, Some, option_map, option_and_then, IsTrue, Less, Greater, Ordering, refl, sym, ap, ap₂, ◌∙◌, arith, append-nil, subst}
use Rattle.std.specs.Prelude.{⊤}
use Rattle.std.specs.List.{list_all}
use Rattle.std.specs.Ordering.{nat_cmp, is_lt, ordering_reverse}
use Rattle.std.specs.Cmp.Lexicographic.{slice_cmp}
use Rattle.std.proofs.lemmas.Cmp.{nat_list_cmp_total}
use Rattle.json.specs.Token.{Token}
use Rattle.json.specs.Json as json
use Rattle.json.specs.Tree as tree
use Rattle.json.proofs.Printed.Tokens.{tokens-print}
use Rattle.json.proofs.Printed.Trees.{ArePrintable-json_tokens, value-json_tokens}
use Rattle.serde_json.specs.Data.{Data, null, boolean, number, string, array, object, Items, no_items, item, Members, no_members, member, put, depth, items_depth, members_depth}
use Rattle.serde_json.specs.Read.{max_depth, of_json, of_items, of_members, read}
use Rattle.serde_json.specs.View.{items_of}
use Rattle.serde_json.specs.Written.{compact_text, items_outline, members_outline, outline}
use Rattle.serde_json.proofs.Texts.{print-outline}
use Rattle.st_lemmas.proofs.Bools.{and-true}
use Rattle.st_json.specs.Order.{is_before, ItemsRise, MembersRise, NamesRise}
use Rattle.st_schema.specs.Reading.{schema_of, schema_of_text}
use Rattle.st_schema.specs.Schema.{SchemaView, defs_rise, is_sound}
use Rattle.st_schema.specs.Written.{definition_data, fields_data, form_data, schema_data}
use Rattle.st_schema.specs.declared.names.FieldDef.{FieldDef}
use Rattle.st_schema.specs.declared.names.Form.{Form}
use Rattle.st_schema.specs.declared.names.Form.TheVariants.{Array, Map, Object}
use Rattle.st_schema.specs.inside.Schema.{form_rises}
use Rattle.st_schema.proofs.Forms.{schema_read}
use Rattle.st_schema.proofs.Plain.{schema_shallow, sound_rises}

-- ## Values without numbers

abbrev mutual
  pub HasNoNumber : Data → Type 0
  HasNoNumber null = ⊤
  HasNoNumber (boolean b) = ⊤
  HasNoNumber (number n) = ⊥
  HasNoNumber (string s) = ⊤
  HasNoNumber (array ds) = ItemsHaveNoNumber ds
  HasNoNumber (object ms) = MembersHaveNoNumber ms

  pub ItemsHaveNoNumber : Items → Type 0
  ItemsHaveNoNumber no_items = ⊤
  ItemsHaveNoNumber (item d ds) = HasNoNumber d × ItemsHaveNoNumber ds

  pub MembersHaveNoNumber : Members → Type 0
  MembersHaveNoNumber no_members = ⊤
  MembersHaveNoNumber (member k d ms) = HasNoNumber d × MembersHaveNoNumber ms

mutual
  printable : (d : Data) → HasNoNumber d → tree.HasNumbers (outline d)
  printable null h = tt
  printable (boolean b) h = tt
  printable (number n) h = absurd h
  printable (string s) h = tt
  printable (array ds) h = items_printable ds h
  printable (object ms) h = members_printable ms h

  items_printable : (ds : Items) → ItemsHaveNoNumber ds → tree.ItemsHaveNumbers (items_outline ds)
  items_printable no_items h = tt
  items_printable (item d ds) h = (printable d h.0, items_printable ds h.1)

  members_printable : (ms : Members) → MembersHaveNoNumber ms → tree.MembersHaveNumbers (members_outline ms)
  members_printable no_members h = tt
  members_printable (member k d ms) h = (printable d h.0, members_printable ms h.1)

mutual
  outline_depth : (d : Data) → tree.depth (outline d) ≡ depth d
  outline_depth null = refl
  outline_depth (boolean b) = refl
  outline_depth (number n) = refl
  outline_depth (string s) = refl
  outline_depth (array ds) = ap suc (items_outline_depth ds)
  outline_depth (object ms) = ap suc (members_outline_depth ms)

  items_outline_depth : (ds : Items) → tree.items_depth (items_outline ds) ≡ items_depth ds
  items_outline_depth no_items = refl
  items_outline_depth (item d ds) = ap₂ max (outline_depth d) (items_outline_depth ds)

  members_outline_depth : (ms : Members) → tree.members_depth (members_outline ms) ≡ members_depth ms
  members_outline_depth no_members = refl
  members_outline_depth (member k d ms) = ap₂ max (outline_depth d) (members_outline_depth ms)

-- ## Members that rise go in one after the other

abbrev joined : Members → Members → Members
joined no_members ms = ms
joined (member k d ks) ms = member k d (joined ks ms)

joined_none : (ms : Members) → joined ms no_members ≡ ms
joined_none no_members = refl
joined_none (member k d ms) = ap (member k d) (joined_none ms)

joined_one : (ks ms : Members) (k : List ℕ) (d : Data) → joined (joined ks (member k d no_members)) ms ≡ joined ks (member k d ms)
joined_one no_members ms k d = refl
joined_one (member l e ks) ms k d = ap (member l e) (joined_one ks ms k d)

rest_rises : (ks ms : Members) → MembersRise (joined ks ms) → MembersRise ms
rest_rises no_members ms h = h
rest_rises (member k d ks) ms h = rest_rises ks ms h.2

is-less : (o : Ordering) → IsTrue (is_lt o) → o ≡ Less
is-less Less h = refl
is-less Ordering.Equal h = cc
is-less Greater h = cc

-- a name before the first of some is before each of them
before_later : (l : List ℕ) (ks : Members) (k : List ℕ) (d : Data) (ms : Members) → IsTrue (is_before l (joined ks (member k d ms))) → MembersRise (joined ks (member k d ms)) → slice_cmp nat_cmp l k ≡ Less
before_later l no_members k d ms first rises = is-less (slice_cmp nat_cmp l k) first
before_later l (member m e ks) k d ms first rises =
    nat_list_cmp_total.trans l m k (is-less (slice_cmp nat_cmp l m) first) (before_later m ks k d ms rises.0 rises.2)

put_last : (ks : Members) (k : List ℕ) (d : Data) (ms : Members) → MembersRise (joined ks (member k d ms)) → put k d ks ≡ joined ks (member k d no_members)
put_last no_members k d ms rises = refl
put_last (member l e ks) k d ms rises =
    let above : slice_cmp nat_cmp k l ≡ Greater = nat_list_cmp_total.antisymm k l ∙ ap ordering_reverse (before_later l ks k d ms rises.0 rises.2) in
    rw above (ap (member l e) (put_last ks k d ms rises.2))

mutual
  outline_back : (d : Data) → HasNoNumber d → NamesRise d → of_json (outline d) ≡ Some d
  outline_back null h rises = refl
  outline_back (boolean b) h rises = refl
  outline_back (number n) h rises = absurd h
  outline_back (string s) h rises = refl
  outline_back (array ds) h rises = ap (option_map array) (items_back ds h rises)
  outline_back (object ms) h rises = ap (option_map object) (members_back no_members ms h rises)

  items_back : (ds : Items) → ItemsHaveNoNumber ds → ItemsRise ds → of_items (items_outline ds) ≡ Some ds
  items_back no_items h rises = refl
  items_back (item d ds) h rises =
      ap (option_and_then (λ (e : Data). option_map (item e) (of_items (items_outline ds)))) (outline_back d h.0 rises.0) ∙ ap (option_map (item d)) (items_back ds h.1 rises.1)

  members_back : (ks ms : Members) → MembersHaveNoNumber ms → MembersRise (joined ks ms) → of_members (members_outline ms) ks ≡ Some (joined ks ms)
  members_back ks no_members h rises = ap (λ (ms : Members). Some ms) (sym (joined_none ks))
  members_back ks (member k d ms) h rises =
      let longer = joined ks (member k d no_members) in
      ap (option_and_then (λ (e : Data). of_members (members_outline ms) (put k e ks))) (outline_back d h.0 (rest_rises ks (member k d ms) rises).1)
      ∙ ap (of_members (members_outline ms)) (put_last ks k d ms rises)
      ∙ members_back longer ms h.1 (subst MembersRise (sym (joined_one ks ms k d)) rises)
      ∙ ap (λ (ms : Members). Some ms) (joined_one ks ms k d)

-- ## Texts

pub text_read : (d : Data) → HasNoNumber d → NamesRise d → depth d ≤ max_depth → read (compact_text d) ≡ Some d
text_read d h rises low =
    let j = outline d in
    let ts = tree.json_tokens j in
    ap read (sym (print-outline d))
    ∙ ap (λ (ts : List Token). option_and_then of_json (option_and_then (λ p. json.if_last p.0 p.1) (json.value max_depth ts))) (tokens-print ts (ArePrintable-json_tokens j (printable d h)) ∙ sym (append-nil ts))
    ∙ ap (λ (o : Option (json.Json × List Token)). option_and_then of_json (option_and_then (λ p. json.if_last p.0 p.1) o)) (value-json_tokens j max_depth [] (omega (arith, outline_depth d)))
    ∙ outline_back d h rises

-- ## The form of a schema

names_rise : (ts : List (List ℕ)) → ItemsRise (items_of (map string ts)) × ItemsHaveNoNumber (items_of (map string ts))
names_rise [] = (tt, tt)
names_rise (t ∷ ts) = let more = names_rise ts in ((tt, more.0), (tt, more.1))

keys_rise : (before : List ℕ) (fs : List FieldDef) → defs_rise before fs ≡ true → IsTrue (is_before before (fields_data fs)) × MembersRise (fields_data fs) × MembersHaveNoNumber (fields_data fs)
keys_rise before [] h = (refl, tt, tt)
keys_rise before (f ∷ fs) h =
    let both = and-true (is_lt (slice_cmp nat_cmp before f.key.0)) (defs_rise f.key.0 fs) h in
    let more = keys_rise f.key.0 fs both.1 in
    let types = names_rise f.types in
    (both.0, (more.0, (tt, (types.0, tt)), more.1), ((tt, (types.1, tt)), more.2))

form_fits : (name : List ℕ) (form : Form) → form_rises form ≡ true → NamesRise (form_data name form) × HasNoNumber (form_data name form)
form_fits name (Array types) h = let all = names_rise types in ((refl, all.0, (refl, tt, tt)), (all.1, (tt, tt)))
form_fits name (Map types) h = let all = names_rise types in ((refl, all.0, (refl, tt, tt)), (all.1, (tt, tt)))
form_fits name (Object fields) h = let all = keys_rise [] fields h in ((refl, tt, (refl, all.1, tt)), (tt, (all.2, tt)))

forms_fit : (ds : List (List ℕ × Form)) → list_all (λ (d : List ℕ × Form). form_rises d.1) ds ≡ true → ItemsRise (items_of (map definition_data ds)) × ItemsHaveNoNumber (items_of (map definition_data ds))
forms_fit [] h = (tt, tt)
forms_fit (d ∷ ds) h =
    let both = and-true (form_rises d.1) (list_all (λ (d : List ℕ × Form). form_rises d.1) ds) h in
    let one = form_fits d.0 d.1 both.0 in
    let more = forms_fit ds both.1 in
    ((one.0, more.0), (one.1, more.1))

pub schema_fits : (s : SchemaView) → is_sound s ≡ true → NamesRise (schema_data s) × HasNoNumber (schema_data s)
schema_fits s h =
    let root = names_rise s.root in
    let types = forms_fit s.types (sound_rises s h) in
    ((refl, root.0, (refl, types.0, tt)), (root.1, (types.1, tt)))

pub schema_back : (s : SchemaView) → is_sound s ≡ true → schema_of_text (compact_text (schema_data s)) ≡ Some s
schema_back s h = let fits = schema_fits s h in ap (option_and_then schema_of) (text_read (schema_data s) fits.1 fits.0 (schema_shallow s)) ∙ schema_read s h
