-- Each two lines come to something, and each two schemas have a relation.
use Rattle.std.proofs.Common.{◌≡◌, ◌∙◌, ℕ, zero, suc, ◌<◌, ◌≤◌, ◌+◌, nat_eq, List, [], ◌∷◌, ◌++◌, length, set, replicate, Bool, true, false, not, ◌&&◌, Option, Some, None, Result, Ok, Err, is_ok, is_some, option_map, refl, sym, ap, arith, inl, inr, ◌⊎◌, true≢false, length-set}
use Rattle.std.specs.List.{slice_get}
use Rattle.std.proofs.lemmas.Bool.{cases_lt}
use Rattle.std.proofs.lemmas.Bool.Decides.{nat_tests}
use Rattle.std.proofs.lemmas.List.{get_or_past}
use Rattle.std.proofs.lemmas.Option.{slice_get_within}
use Rattle.serde_json.specs.Data.{Data}
use Rattle.st_lemmas.proofs.Bools.{and-true}
use Rattle.st_json.specs.Line.{line_value}
use Rattle.st_json.specs.declared.fault.BadCause.{BadCause}
use Rattle.st_json.specs.declared.fault.BadCause.TheVariants.{Json, Shape}
use Rattle.st_schema.specs.Reading.{schema_of}
use Rattle.st_schema.specs.Schema.{SchemaView, is_sound, is_among, form_of, type_names}
use Rattle.st_schema.specs.Wider.{contains_all, wider_of}
use Rattle.st_schema.specs.declared.names.Form.{Form}
use Rattle.st_schema.specs.declared.names.NotWider.{NotWider}
use Rattle.st_schema.proofs.Forms.{schema_back, schema_read}
use Rattle.st_schema.proofs.Widening.{few_types}
use Rattle.st_compat.specs.Compared.{IsSchemaIn, IsCompared}
use Rattle.st_compat.specs.Relation.{IsReachable, Covers, CausesOf, none, fails, passes, unreached, AreEqual, IsRelation, root_cause, why, why_form}
use Rattle.st_compat.specs.RelationText.{relation_line}
use Rattle.st_compat.specs.SchemaLine.{IsSchemaLine}
use Rattle.st_compat.specs.declared.compare.BadSchema.{BadSchema}
use Rattle.st_compat.specs.declared.compare.BadSchema.TheVariants.{Stored, View}
use Rattle.st_compat.specs.declared.relation.Cause.{Cause}
use Rattle.st_compat.specs.declared.relation.Relation.{Relation}
use Rattle.st_compat.specs.declared.relation.Relation.TheVariants as relation
use Rattle.st_compat.specs.declared.relation.Why.{Why}
use Rattle.st_compat.specs.inside.Marks.{flag, below_number, IsMarkedToo, IsMarkedBelow, IsMarking, AreMarks, AllFollowed, PassesWhere, left, relation_by}
use Rattle.st_compat.proofs.Marking.{name_marked, name_left, list_marked, none_named, marks_begin, marks_next, marks_all, left_less, unmarked}
use Rattle.st_compat.proofs.Numbers.{NameAt, name_within, number_of}
use Rattle.st_compat.proofs.Passing.{all_pass, relation_told}

-- ---- a line is a schema, or fails a test

line_decided : (bytes : List ℕ) → (r : Result SchemaView BadCause) × IsSchemaLine bytes r
line_decided bytes = by (line_value bytes) refl
  where
    kept : (d : Data) (s : SchemaView) → line_value bytes ≡ Some d → schema_of d ≡ Some s → (sound : Bool) → is_sound s ≡ sound → (r : Result SchemaView BadCause) × IsSchemaLine bytes r
    kept d s is read true sound = (Ok s, (sound, is ∙ ap Some (schema_back d s read)))
    kept d s is read false unsound = (
      Err Shape,
      (
        d,
        is,
        λ t sound form.
            let same_one : ◌≡◌ {A = Option SchemaView} (Some s) (Some t) = sym read ∙ ap schema_of form ∙ schema_read t sound in
            let same : s ≡ t = cc in
            true≢false (sym sound ∙ ap is_sound (sym same) ∙ unsound),
      ),
    )

    read : (d : Data) → line_value bytes ≡ Some d → (o : Option SchemaView) → schema_of d ≡ o → (r : Result SchemaView BadCause) × IsSchemaLine bytes r
    read d is None none_read = (
      Err Shape,
      (
        d,
        is,
        λ t sound form.
            let same_one : ◌≡◌ {A = Option SchemaView} None (Some t) = sym none_read ∙ ap schema_of form ∙ schema_read t sound in cc,
      ),
    )
    read d is (Some s) some = kept d s is some (is_sound s) refl

    by : (o : Option Data) → line_value bytes ≡ o → (r : Result SchemaView BadCause) × IsSchemaLine bytes r
    by None is = (Err Json, is)
    by (Some d) is = read d is (schema_of d) refl

schema_decided : (line : Option (List ℕ)) → (r : Result SchemaView BadCause) × IsSchemaIn line r
schema_decided None = (Err Shape, refl)
schema_decided (Some bytes) = line_decided bytes

-- ---- which numbers pass a test

abbrev Found : (ℕ → Bool) → ℕ → Type 0
Found p n = (k : ℕ) × (k < n) × (p k ≡ true)

abbrev NoneBelow : (ℕ → Bool) → ℕ → Type 0
NoneBelow p n = (k : ℕ) → k < n → p k ≡ false

below_decided : (p : ℕ → Bool) (n : ℕ) → Found p n ⊎ NoneBelow p n
below_decided p zero = inr (λ k low. absurd (omega arith))
below_decided p (suc n) = by (p n) refl (below_decided p n)
  where
    by : (x : Bool) → p n ≡ x → Found p n ⊎ NoneBelow p n → Found p (suc n) ⊎ NoneBelow p (suc n)
    by x is (inl found) = inl (found.0, omega (arith, found.1), found.2)
    by true is (inr others) = inl (n, omega arith, is)
    by false is (inr others) = inr (λ k low. last k low (nat_eq k n) refl)
      where
        last : (k : ℕ) → k < suc n → (y : Bool) → nat_eq k n ≡ y → p k ≡ false
        last k low true same = let at : k ≡ n = grind (arith, nat_tests) in ap p at ∙ is
        last k low false other = others k (grind (arith, nat_tests))

-- ---- marks of reachable types

abbrev Marked : SchemaView → List (List ℕ) → List Bool → Type 0
Marked s types old = (new : List Bool) × (length new ≡ 256) × IsMarkedToo s types old new

-- one name, and then those that follow it
mark_name : (s : SchemaView) (types : List (List ℕ)) (old : List Bool) → is_sound s ≡ true → (i : ℕ) (name : List ℕ) (marks : List Bool) → NameAt s i (Some name) → length marks ≡ 256 → IsMarkedBelow s types old marks i
    → ((new : List Bool) → length new ≡ 256 → IsMarkedBelow s types old new (i + 1) → Marked s types old) → Marked s types old
mark_name s types old sound i name marks there long so_far next = by (is_among name types) refl
  where
    by : (x : Bool) → is_among name types ≡ x → Marked s types old
    by true among =
        let within : i < length marks = omega (arith, name_within s i name there, few_types s sound, long) in
        next (set marks i true) (length-set marks i true ∙ long) (name_marked s types old marks i name there within among so_far)
    by false lacks = next marks long (name_left s types old marks i name there lacks so_far)

mark_on : (s : SchemaView) (types : List (List ℕ)) (old : List Bool) → is_sound s ≡ true → (n i : ℕ) (marks : List Bool) → i + n ≡ length s.types → length marks ≡ 256 → IsMarkedBelow s types old marks i → Marked s types old
mark_on s types old sound zero i marks end long so_far = by (option_map (λ (d : List ℕ × Form). d.0) (slice_get s.types i)) refl
  where
    by : (o : Option (List ℕ)) → NameAt s i o → Marked s types old
    by None there = (marks, long, list_marked s types old marks i there so_far)
    by (Some name) there = absurd (omega (arith, end, name_within s i name there))
mark_on s types old sound (suc n) i marks end long so_far =
    by (λ new whole far. mark_on s types old sound n (i + 1) new (omega (arith, end)) whole far) (option_map (λ (d : List ℕ × Form). d.0) (slice_get s.types i)) refl
  where
    by : ((new : List Bool) → length new ≡ 256 → IsMarkedBelow s types old new (i + 1) → Marked s types old) → (o : Option (List ℕ)) → NameAt s i o → Marked s types old
    by next None there = (marks, long, list_marked s types old marks i there so_far)
    by next (Some name) there = mark_name s types old sound i name marks there long so_far next

marked_too : (s : SchemaView) (types : List (List ℕ)) (old : List Bool) → is_sound s ≡ true → length old ≡ 256 → Marked s types old
marked_too s types old sound long = mark_on s types old sound (length s.types) 0 old (omega arith) long (none_named s types old)

abbrev unfollowed : List Bool → List Bool → ℕ → Bool
unfollowed marks followed k = flag marks k && not (flag followed k)

all_followed : (marks followed : List Bool) → length marks ≡ 256 → NoneBelow (unfollowed marks followed) 256 → AllFollowed marks followed
all_followed marks followed long others k marked = by (flag followed k) refl (cases_lt k 256)
  where
    by : (x : Bool) → flag followed k ≡ x → (k < 256) ⊎ (256 ≤ k) → flag followed k ≡ true
    by true is place = is
    by false is (inl within) = absurd (true≢false (sym (rw (marked, is) refl) ∙ others k within))
    by false is (inr past) = absurd (true≢false (sym marked ∙ get_or_past marks k false (omega (arith, long, past))))

abbrev HasMarks : SchemaView → Type 0
HasMarks s = (marks : List Bool) × IsMarking s marks

-- one mark is followed, and then the others
follow_one : (s : SchemaView) → is_sound s ≡ true → (k : ℕ) (marks followed : List Bool) → k < 256 → unfollowed marks followed k ≡ true → length marks ≡ 256 → length followed ≡ 256 → AreMarks s marks followed
    → ((new after : List Bool) → left after < left followed → length new ≡ 256 → length after ≡ 256 → AreMarks s new after → HasMarks s) → HasMarks s
follow_one s sound k marks followed low found long whole are next =
    let m = marked_too s (below_number s k) marks sound long in
    let is = and-true (flag marks k) (not (flag followed k)) found in
    next m.0 (set followed k true) (left_less followed k (omega (arith, whole, low)) (unset (flag followed k) is.1)) m.1 (length-set followed k true ∙ whole)
    (marks_next s marks followed m.0 k is.0 (omega (arith, whole, low)) m.2 are)
  where
    unset : (x : Bool) → not x ≡ true → x ≡ false
    unset true h = absurd (cc)
    unset false h = refl

follow_on : (s : SchemaView) → is_sound s ≡ true → (n : ℕ) (marks followed : List Bool) → left followed ≤ n → length marks ≡ 256 → length followed ≡ 256 → AreMarks s marks followed → HasMarks s
follow_on s sound zero marks followed few long whole are = by (below_decided (unfollowed marks followed) 256)
  where
    by : Found (unfollowed marks followed) 256 ⊎ NoneBelow (unfollowed marks followed) 256 → HasMarks s
    by (inl found) = follow_one s sound found.0 marks followed found.1 found.2 long whole are (λ new after less newly afterwards then. absurd (omega (arith, less, few)))
    by (inr others) = (marks, marks_all s marks followed (all_followed marks followed long others) are)
follow_on s sound (suc n) marks followed few long whole are =
    by (λ new after less newly afterwards then. follow_on s sound n new after (omega (arith, less, few)) newly afterwards then) (below_decided (unfollowed marks followed) 256)
  where
    by : ((new after : List Bool) → left after < left followed → length new ≡ 256 → length after ≡ 256 → AreMarks s new after → HasMarks s)
        → Found (unfollowed marks followed) 256 ⊎ NoneBelow (unfollowed marks followed) 256 → HasMarks s
    by next (inl found) = follow_one s sound found.0 marks followed found.1 found.2 long whole are next
    by next (inr others) = (marks, marks_all s marks followed (all_followed marks followed long others) are)

has_marks : (s : SchemaView) → is_sound s ≡ true → HasMarks s
has_marks s sound =
    let empty = replicate 256 false in
    let m = marked_too s s.root empty sound refl in
    follow_on s sound (left empty) m.0 empty (omega arith) m.1 refl (marks_begin s empty empty m.0 (unmarked 256) (unmarked 256) m.2)

-- ---- which types pass

abbrev fails_in : SchemaView → SchemaView → Option (List ℕ × Form) → Bool
fails_in s v None = false
fails_in s v (Some d) = is_some (why s v d.0)

passes_or_not : (marks : List Bool) (s v : SchemaView) → PassesWhere marks s v ⊎ (PassesWhere marks s v → ⊥)
passes_or_not marks s v = by (below_decided failing (length s.types))
  where
    failing : ℕ → Bool
    failing k = flag marks k && fails_in s v (slice_get s.types k)

    one : (k : ℕ) → flag marks k ≡ true → (o : Option (List ℕ × Form)) → slice_get s.types k ≡ o → fails_in s v o ≡ true → PassesWhere marks s v → ⊥
    one k marked None at failed pass = absurd (cc)
    one k marked (Some d) at failed pass = true≢false (sym failed ∙ ap is_some (pass k d at marked))

    nothing : (o : Option Why) → is_some o ≡ false → o ≡ None
    nothing None h = refl
    nothing (Some w) h = absurd (cc)

    by : Found failing (length s.types) ⊎ NoneBelow failing (length s.types) → PassesWhere marks s v ⊎ (PassesWhere marks s v → ⊥)
    by (inl found) =
        let is = and-true (flag marks found.0) (fails_in s v (slice_get s.types found.0)) found.2 in
        inr (one found.0 is.0 (slice_get s.types found.0) refl is.1)
    by (inr others) = inl (λ k d at marked. nothing (why s v d.0)
        (let none : (flag marks k && fails_in s v (slice_get s.types k)) ≡ false = others k (slice_get_within s.types k d at) in rw (marked, at) at none))

covers_or_not : (s v : SchemaView) → is_sound s ≡ true → Covers s v ⊎ (Covers s v → ⊥)
covers_or_not s v sound = by (contains_all v.root s.root) refl (passes_or_not (replicate 256 true) s v)
  where
    by : (x : Bool) → contains_all v.root s.root ≡ x → PassesWhere (replicate 256 true) s v ⊎ (PassesWhere (replicate 256 true) s v → ⊥) → Covers s v ⊎ (Covers s v → ⊥)
    by false lacks pass = inr (λ covers. true≢false (sym covers.root ∙ lacks))
    by true root (inl pass) = inl (record { types = all_pass s v sound pass; root = root })
    by true root (inr failing) = inr (λ covers. failing (λ k d at marked. covers.types d.0))

equal_or_not : (s v : SchemaView) → is_sound s ≡ true → is_sound v ≡ true → AreEqual s v ⊎ (AreEqual s v → ⊥)
equal_or_not s v sound view_sound = by (covers_or_not s v sound) (covers_or_not v s view_sound)
  where
    by : Covers s v ⊎ (Covers s v → ⊥) → Covers v s ⊎ (Covers v s → ⊥) → AreEqual s v ⊎ (AreEqual s v → ⊥)
    by (inl covers) (inl covered) = inl (covers, covered)
    by (inl covers) (inr other) = inr (λ e. other e.1)
    by (inr other) covered = inr (λ e. other e.0)

-- ---- causes

reached_or_not : (s : SchemaView) (marks : List Bool) → IsMarking s marks → (ty : List ℕ) (form : Form) → form_of s.types ty ≡ Some form → IsReachable s ty ⊎ (IsReachable s ty → ⊥)
reached_or_not s marks marking ty form is = let k = number_of s ty form is in by k.0 k.1 (flag marks k.0) refl
  where
    by : (k : ℕ) → slice_get s.types k ≡ Some (ty, form) → (x : Bool) → flag marks k ≡ x → IsReachable s ty ⊎ (IsReachable s ty → ⊥)
    by k at true marked = inl (marking.only k (ty, form) at marked)
    by k at false unmarked_there = inr (λ r. true≢false (sym (marking.all k (ty, form) at r) ∙ unmarked_there))

has_causes : (s v : SchemaView) (marks : List Bool) → IsMarking s marks → (tys : List (List ℕ)) → (causes : List Cause) × CausesOf s v tys causes
has_causes s v marks marking [] = ([], none)
has_causes s v marks marking (ty ∷ tys) = by (has_causes s v marks marking tys) (form_of s.types ty) refl
  where
    formed : (causes : List Cause) → CausesOf s v tys causes → (form : Form) → form_of s.types ty ≡ Some form → (o : Option Why) → why s v ty ≡ o → (cs : List Cause) × CausesOf s v (ty ∷ tys) cs
    formed causes rest form is None fine = (causes, passes ty tys causes fine rest)
    formed causes rest form is (Some w) failing = reached (reached_or_not s marks marking ty form is)
      where
        reached : IsReachable s ty ⊎ (IsReachable s ty → ⊥) → (cs : List Cause) × CausesOf s v (ty ∷ tys) cs
        reached (inl r) = (record { ty = ty; why = w } ∷ causes, fails ty w tys causes r failing rest)
        reached (inr apart) = (causes, unreached ty tys causes apart rest)

    by : ((causes : List Cause) × CausesOf s v tys causes) → (o : Option Form) → form_of s.types ty ≡ o → (cs : List Cause) × CausesOf s v (ty ∷ tys) cs
    by rest None is = (rest.0, passes ty tys rest.0 (ap (λ (o : Option Form). why_form o (form_of v.types ty)) is) rest.1)
    by rest (Some form) is = formed rest.0 rest.1 form is (why s v ty) refl

-- ---- relations

pub has_relation : (s v : SchemaView) → is_sound s ≡ true → is_sound v ≡ true → (r : Relation) × IsRelation s v r
has_relation s v sound view_sound = by (equal_or_not s v sound view_sound)
  where
    wide : (AreEqual s v → ⊥) → (x : Bool) → is_ok (wider_of s v) ≡ x → (r : Relation) × IsRelation s v r
    wide unequal true up = (relation.Upgrade, (unequal, went (wider_of s v) up))
      where
        went : (r : Result Unit NotWider) → is_ok r ≡ true → r ≡ Ok tt
        went (Ok u) h = refl
        went (Err e) h = absurd (cc)
    wide unequal false narrower =
        let marks = has_marks s sound in
        let causes = has_causes s v marks.0 marks.1 (type_names s.types) in
        (relation_by (causes.0 ++ root_cause s v), relation_told s v (causes.0 ++ root_cause s v) unequal (λ up. true≢false (sym (ap is_ok up) ∙ narrower)) (causes.0, causes.1, refl))

    by : AreEqual s v ⊎ (AreEqual s v → ⊥) → (r : Relation) × IsRelation s v r
    by (inl e) = (relation.Equal, e)
    by (inr unequal) = wide unequal (is_ok (wider_of s v)) refl

-- ---- two lines

sound_in : (line : Option (List ℕ)) (s : SchemaView) → IsSchemaIn line (Ok s) → is_sound s ≡ true
sound_in None s is = absurd (cc)
sound_in (Some bytes) s is = is.0

pub are_compared : (stored view : Option (List ℕ)) → (r : Result (List ℕ) BadSchema) × IsCompared stored view r
are_compared stored view = by (schema_decided stored) (schema_decided view)
  where
    by : ((r : Result SchemaView BadCause) × IsSchemaIn stored r) → ((r : Result SchemaView BadCause) × IsSchemaIn view r) → (r : Result (List ℕ) BadSchema) × IsCompared stored view r
    by (Err cause, bad) second = (Err (Stored cause), bad)
    by (Ok s, is) (Err cause, bad) = (Err (View cause), (s, is, bad))
    by (Ok s, is) (Ok v, is_view) =
        let r = has_relation s v (sound_in stored s is) (sound_in view v is_view) in
        (Ok (relation_line r.0), record { s = s; v = v; relation = r.0; of_stored = is; of_view = is_view; is = r.1; whole = refl })
