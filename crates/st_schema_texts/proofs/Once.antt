-- A text is that of one schema, and the schemas up to one are one list.
use Rattle.std.proofs.Common.{◌≡◌, ◌≢◌, ◌↔◌, ◌∙◌, ◌+◌, ℕ, suc, Bool, true, false, List, [], ◌∷◌, take, Option, Some, None, Result, Ok, Err, is_ok, nat_eq, refl, sym, ap, ap₂, cond, subst, arith}
use Rattle.std.proofs.lemmas.Iterator.Adapters.{position_from-zero}
use Rattle.std.specs.List.{position, position_from}
use Rattle.std.specs.Cmp.Lexicographic.{pointwise}
use Rattle.serde_json.specs.Data.{Data}
use Rattle.serde_json.specs.Read.{read}
use Rattle.serde_json.specs.Written.{compact_text}
use Rattle.st_ids.specs.Order.{same_rev}
use Rattle.st_ids.specs.declared.names.Rev.{Rev}
use Rattle.st_ids.proofs.Orders.{bytes-itself, same_rev-itself, same_rev-true}
use Rattle.st_schema.specs.Reading.{schema_of_text}
use Rattle.st_schema.specs.Schema.{SchemaView, is_sound}
use Rattle.st_schema.specs.Wider.{wider_of}
use Rattle.st_schema.specs.Written.{schema_data}
use Rattle.st_schema.specs.declared.names.NotWider.{NotWider}
use Rattle.st_schema.proofs.Plain.{schema_shallow}
use Rattle.st_marks.specs.Document.{revs}
use Rattle.st_marks.specs.declared.schemas.SchemaEntry.{SchemaEntry}
use Rattle.st_edits.specs.Keeping.{IsUpTo, MayFollow, here, later}
use Rattle.st_edits.proofs.SchemaTexts.{schema_back, schema_fits, text_read}
use Rattle.st_schema_texts.specs.Reading.{IsSchemaOf}

-- ## Texts

-- the text of a schema that keeps the rules is read as its form
pub text_back : (s : SchemaView) → is_sound s ≡ true → read (compact_text (schema_data s)) ≡ Some (schema_data s)
text_back s h = let fits = schema_fits s h in text_read (schema_data s) fits.1 fits.0 (schema_shallow s)

-- and of one alone
pub same_text : (s v : SchemaView) → is_sound s ≡ true → is_sound v ≡ true → compact_text (schema_data s) ≡ compact_text (schema_data v) → s ≡ v
same_text s v p q e =
    let one : Some s ≡ Some v = sym (schema_back s p) ∙ subst (λ t. schema_of_text t ≡ Some v) (sym e) (schema_back v q) in cc

-- a text that is read as a form is the text of no schema, if it isn't that of the form's schema
pub not_written : (text : List ℕ) (s : SchemaView) → read text ≡ Some (schema_data s) → text ≢ compact_text (schema_data s) → IsSchemaOf text None
not_written text s is other v sound e =
    let same : Some (schema_data s) ≡ Some (schema_data v) = sym is ∙ ap read e ∙ text_back v sound in
    let one : schema_data s ≡ schema_data v = cc in
    other (e ∙ ap compact_text (sym one))

-- one that is no JSON is that of none
pub not_json : (text : List ℕ) → read text ≡ None → IsSchemaOf text None
not_json text is v sound e = let no : None ≡ Some (schema_data v) = sym is ∙ ap read e ∙ text_back v sound in cc

-- it isn't, where that one's text is another
pub not_same : (text written : List ℕ) (s : SchemaView) → written ≡ compact_text (schema_data s) → pointwise nat_eq written text ≡ false → text ≢ compact_text (schema_data s)
not_same text written s is differ e = let b : true ≡ false = sym (bytes-itself text) ∙ ap (λ t. pointwise nat_eq t text) (e ∙ sym is) ∙ differ in cc

-- one that is read as the form of no schema is that of none
pub not_read : (text : List ℕ) (d : Data) → read text ≡ Some d → ((s : SchemaView) → is_sound s ≡ true → d ≢ schema_data s) → IsSchemaOf text None
not_read text d is none v sound e =
    let same : Some d ≡ Some (schema_data v) = sym is ∙ ap read e ∙ text_back v sound in
    let one : d ≡ schema_data v = cc in
    none v sound one

-- a text may follow a schema exactly where its own is wider
pub follows : (U V : SchemaView) (text : List ℕ) (r : Result (Unit {0}) NotWider) (b : Bool) → IsSchemaOf text (Some V) → r ≡ wider_of U V → b ≡ is_ok r → (b ≡ true) ↔ MayFollow U text
follows U V text r b is wide test = (
  λ yes. record { view = V; written = is.1; sound = is.0; wide = sym wide ∙ passes r (sym test ∙ yes) },
  λ m.
      let one : m.view ≡ V = same_text m.view V m.sound is.0 (sym m.written ∙ is.1) in
      test ∙ ap is_ok (wide ∙ ap (wider_of U) (sym one) ∙ m.wide),
)
  where
    passes : (q : Result (Unit {0}) NotWider) → is_ok q ≡ true → q ≡ Ok tt
    passes (Ok tt) e = refl
    passes (Err x) e = cc

pub schema_once : (text : List ℕ) (o p : Option SchemaView) → IsSchemaOf text o → IsSchemaOf text p → o ≡ p
schema_once text None None g h = refl
schema_once text None (Some v) g h = absurd (g v h.0 h.1)
schema_once text (Some s) None g h = absurd (h s g.0 g.1)
schema_once text (Some s) (Some v) g h = ap Some (same_text s v g.0 h.0 (sym g.1 ∙ h.1))

-- ## Fronts

front_same : {u v : Rev} {rs ss f g : List Rev} → u ≡ v → rs ≡ ss → IsUpTo u rs f → IsUpTo v ss g → f ≡ g
front_same p q here here = ap (λ r. r ∷ []) p
front_same {u} {v} p q (here {rest = rest}) (later {r = r} {rest = more} ne k) = let e : u ≡ r = cc in absurd (ne (sym e ∙ p))
front_same {u} {v} p q (later {r = r} {rest = more} ne k) (here {rest = rest}) = let e : r ≡ v = cc in absurd (ne (e ∙ sym p))
front_same {u} {v} p q (later {r = r} {rest = rest} {front = f} ne h) (later {r = s} {rest = more} {front = g} other k) =
    let e : r ≡ s = cc in
    let l : rest ≡ more = cc in
    ap₂ (λ x xs. x ∷ xs) e (front_same p l h k)

pub front_once : (u : Rev) (rs f g : List Rev) → IsUpTo u rs f → IsUpTo u rs g → f ≡ g
front_once u rs f g h k = front_same refl refl h k

-- the place of the first entry of a revision
abbrev Fronts : Rev → ℕ → List SchemaEntry → Option ℕ → Type 0
Fronts u k es None = (front : List Rev) → IsUpTo u (revs es) front → ⊥
Fronts u k es (Some i) = (j : ℕ) × (i ≡ k + j) × IsUpTo u (revs es) (revs (take (suc j) es))

up_to_none : {u : Rev} {front : List Rev} → IsUpTo u [] front → ⊥
up_to_none p = elim p [ ]

not_there : (u r : Rev) (rs front : List Rev) → r ≢ u → ((f : List Rev) → IsUpTo u rs f → ⊥) → IsUpTo u (r ∷ rs) front → ⊥
not_there u r rs front other none here = other refl
not_there u r rs front other none (later {front = rest} ne p) = none rest p

fronts_from : (u : Rev) (k : ℕ) (es : List SchemaEntry) → Fronts u k es (position_from (λ (e : SchemaEntry). same_rev e.rev u) k es)
fronts_from u k [] = λ front p. up_to_none p
fronts_from u k (e ∷ es) = go (same_rev e.rev u) refl (fronts_from u (k + 1) es)
  where
    differs : same_rev e.rev u ≡ false → e.rev ≢ u
    differs is same = let b : true ≡ false = sym (same_rev-itself u) ∙ sym (ap (λ r. same_rev r u) same) ∙ is in cc

    further : same_rev e.rev u ≡ false → (o : Option ℕ) → Fronts u (k + 1) es o → Fronts u k (e ∷ es) o
    further is None none = λ front p. not_there u e.rev (revs es) front (differs is) none p
    further is (Some i) f = (suc f.0, omega (arith, f.1), later (differs is) f.2)

    go : (b : Bool) → same_rev e.rev u ≡ b → Fronts u (k + 1) es (position_from (λ (e : SchemaEntry). same_rev e.rev u) (k + 1) es) → Fronts u k (e ∷ es) (cond b (Some k) (position_from (λ (e : SchemaEntry). same_rev e.rev u) (k + 1) es))
    go true is rest = (0, omega arith, subst (λ v. IsUpTo v (e.rev ∷ revs es) (e.rev ∷ [])) (same_rev-true e.rev u is) here)
    go false is rest = further is (position_from (λ (e : SchemaEntry). same_rev e.rev u) (k + 1) es) rest

-- what the place of the first entry of a revision tells of the schemas up to it
pub fronts_at : (u : Rev) (es : List SchemaEntry) (o : Option ℕ) → o ≡ position (λ (e : SchemaEntry). same_rev e.rev u) es → Fronts u 0 es o
fronts_at u es o is = subst (Fronts u 0 es) (sym (is ∙ position_from-zero (λ (e : SchemaEntry). same_rev e.rev u) es)) (fronts_from u 0 es)

pub front_there : (u : Rev) (es : List SchemaEntry) (i : ℕ) → Some i ≡ position (λ (e : SchemaEntry). same_rev e.rev u) es → IsUpTo u (revs es) (revs (take (i + 1) es))
front_there u es i is =
    let f = fronts_at u es (Some i) is in
    let e : suc f.0 ≡ i + 1 = omega (arith, f.1) in
    subst (λ n. IsUpTo u (revs es) (revs (take n es))) e f.2

pub front_none : (u : Rev) (es : List SchemaEntry) (o : Option ℕ) → o ≡ position (λ (e : SchemaEntry). same_rev e.rev u) es → o ≡ None → (front : List Rev) → IsUpTo u (revs es) front → ⊥
front_none u es o is none = fronts_at u es None (sym none ∙ is)
