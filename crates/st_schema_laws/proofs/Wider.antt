-- What keeps to a schema keeps to each wider one.
use Rattle.std.proofs.Common.{◌≡◌, ℕ, Bool, true, false, cond, List, [], ◌∷◌, ◌++◌, Option, Some, None, is_some, option_map, option_and_then, Ok, refl, sym, ap, ◌∙◌, subst, inl, inr}
use Rattle.std.specs.List.{list_all}
use Rattle.std.specs.Option.{option_or, option_map_or}
use Rattle.std.proofs.lemmas.List.Folds.{list_all-append}
use Rattle.st_ids.specs.declared.names.FieldId.{FieldId}
use Rattle.st_ids.specs.declared.names.Key.{Key}
use Rattle.st_ids.specs.declared.names.Leaf.{Leaf}
use Rattle.st_ids.specs.declared.names.NodeId.{NodeId}
use Rattle.st_schema.specs.Schema.{SchemaView, same, is_among, is_key, form_of, declared_field, field_in, field_of, is_sound}
use Rattle.st_schema.specs.Wider.{contains_all, kind_widens, widens_found, def_widens, form_widens, types_widen, wider_of}
use Rattle.st_schema.specs.declared.names.FieldDef.{FieldDef}
use Rattle.st_schema.specs.declared.names.FieldRule.{FieldRule}
use Rattle.st_schema.specs.declared.names.Form.{Form}
use Rattle.st_schema.specs.declared.names.Form.TheVariants.{Array, Map, Object}
use Rattle.st_schema.specs.declared.names.KindName.{KindName}
use Rattle.st_schema.specs.declared.names.KindName.TheVariants.{Required, Optional, Sequence}
use Rattle.st_marks.specs.declared.intents.Intent.{Intent}
use Rattle.st_marks.specs.declared.intents.To.{To}
use Rattle.st_marks.specs.declared.places.Spot.{Spot}
use Rattle.st_marks.specs.Document.{Document, NodeType}
use Rattle.st_ids.specs.Root.{root}
use Rattle.st_marks.specs.Intent.{new_type}
use Rattle.st_marks.specs.CarryOut.{with_names}
use Rattle.st_marks.proofs.Members.{first-has}
use Rattle.st_edits.specs.Resolve.{rule_at, has_type}
use Rattle.st_schema.specs.Kind.{is_optional, is_required, is_row, is_single_kind}
use Rattle.st_edits.specs.Fields.{row_key, type_fits, is_required_field}
use Rattle.st_schema_laws.specs.Conforming.{Admits, MayStand, IsConforming, IsFree}
use Rattle.st_schema_laws.specs.Agreeing.{KeepsSchema, MayGo, MayBeLeft}
use Rattle.st_schema_laws.proofs.Kept.{one_rule, required_by, required_rule}
use Rattle.st_schema_laws.proofs.Rules.{leaf_undefined}
use Rattle.st_schema.proofs.MoreTrees.{form_found, among_all, no_narrowing, declared_wider}
use Rattle.st_lemmas.proofs.Bools.{and-true, true-false}
use Rattle.st_schema.proofs.Forms.{text_same}
use Rattle.st_edits.proofs.Fits.{all_pass}

-- ## Lists of types

-- ## Rules

-- a rule that takes what another takes, and more
pub record Widens (old new : FieldRule) : Type 0 where
  pub types : contains_all new.types old.types ≡ true
  pub rows : is_row old.kind ≡ true → is_row new.kind ≡ true
  pub singles : is_single_kind old.kind ≡ true → is_single_kind new.kind ≡ true

kind_single : (k l : KindName) → kind_widens k l ≡ true → (is_row k ≡ true → is_row l ≡ true) × (is_single_kind k ≡ true → is_single_kind l ≡ true)
kind_single Required Required e = (λ f. f, λ f. f)
kind_single Required Optional e = (λ f. f, λ f. f)
kind_single Required Sequence e = absurd (cc)
kind_single Optional Required e = absurd (cc)
kind_single Optional Optional e = (λ f. f, λ f. f)
kind_single Optional Sequence e = absurd (cc)
kind_single Sequence l e = absurd (cc)

only_required : (k l : KindName) → kind_widens k l ≡ true → is_required l ≡ true → is_required k ≡ true
only_required Required l e f = refl
only_required Optional Required e f = absurd (cc)
only_required Optional Optional e f = f
only_required Optional Sequence e f = absurd (cc)
only_required Sequence l e f = absurd (cc)

not_optional : (k : KindName) → is_optional k ≡ true → is_required k ≡ true → ⊥
not_optional Required e f = cc
not_optional Optional e f = cc
not_optional Sequence e f = cc

some_there : {A : Type 0} (o : Option A) → is_some o ≡ true → (x : A) × (o ≡ Some x)
some_there None h = absurd (cc)
some_there (Some x) h = (x, refl)

rule_wider : (f g : Form) (key : List ℕ) (rule : FieldRule) → form_widens f g ≡ true → field_in f key ≡ Some rule → (r : FieldRule) × (field_in g key ≡ Some r) × Widens rule r
rule_wider (Array old) (Array new) [] rule wide e =
    let is : record { kind = Sequence; types = old } ≡ rule = cc in
    (record { kind = Sequence; types = new }, refl, subst (λ r. Widens r (record { kind = Sequence; types = new })) is (record { types = wide; rows = λ f. f; singles = λ f. f }))
rule_wider (Array old) (Array new) (b ∷ key) rule wide e = absurd (cc)
rule_wider (Array old) (Map new) key rule wide e = absurd (cc)
rule_wider (Array old) (Object new) key rule wide e = absurd (cc)
rule_wider (Map old) (Array new) key rule wide e = absurd (cc)
rule_wider (Map old) (Map new) key rule wide e = go (is_key key) e
  where
    go : (b : Bool) → cond b (Some (record { kind = Optional; types = old })) None ≡ Some rule → (r : FieldRule) × (cond b (Some (record { kind = Optional; types = new })) None ≡ Some r) × Widens rule r
    go true f =
        let is : record { kind = Optional; types = old } ≡ rule = cc in
        (record { kind = Optional; types = new }, refl, subst (λ r. Widens r (record { kind = Optional; types = new })) is (record { types = wide; rows = λ f. f; singles = λ f. f }))
    go false f = absurd (cc)
rule_wider (Map old) (Object new) key rule wide e = absurd (cc)
rule_wider (Object olds) (Array new) key rule wide e = absurd (cc)
rule_wider (Object olds) (Map new) key rule wide e = absurd (cc)
rule_wider (Object olds) (Object news) key rule wide e = go (declared_field olds key) refl e
  where
    go : (o : Option FieldDef) → declared_field olds key ≡ o → option_map (λ (f : FieldDef). record { kind = f.kind; types = f.types }) o ≡ Some rule → (r : FieldRule) × (field_in (Object news) key ≡ Some r) × Widens rule r
    go None q f = absurd (cc)
    go (Some o) q f =
        let is : record { kind = o.kind; types = o.types } ≡ rule = cc in
        let n = declared_wider olds news key o wide q in
        let w = and-true (kind_widens o.kind n.0.kind) (contains_all n.0.types o.types) n.2 in
        let kinds = kind_single o.kind n.0.kind w.0 in (
          record { kind = n.0.kind; types = n.0.types },
          ap (option_map (λ (f : FieldDef). record { kind = f.kind; types = f.types })) n.1,
          subst (λ r. Widens r (record { kind = n.0.kind; types = n.0.types })) is (record { types = w.1; rows = kinds.0; singles = kinds.1 }),
        )

-- what the new form requires, the old one did
required_before : (f g : Form) (key : List ℕ) (r : FieldRule) → form_widens f g ≡ true → field_in g key ≡ Some r → is_required r.kind ≡ true → (rule : FieldRule) × (field_in f key ≡ Some rule) × (is_required rule.kind ≡ true)
required_before f (Array new) [] r wide e required = let is : record { kind = Sequence; types = new } ≡ r = cc in absurd (true-false required (ap (λ (r : FieldRule). is_required r.kind) (sym is)))
required_before f (Array new) (b ∷ key) r wide e required = absurd (cc)
required_before f (Map new) key r wide e required = go (is_key key) e
  where
    go : (b : Bool) → cond b (Some (record { kind = Optional; types = new })) None ≡ Some r → (rule : FieldRule) × (field_in f key ≡ Some rule) × (is_required rule.kind ≡ true)
    go true q = let is : record { kind = Optional; types = new } ≡ r = cc in absurd (true-false required (ap (λ (r : FieldRule). is_required r.kind) (sym is)))
    go false q = absurd (cc)
required_before (Array old) (Object news) key r wide e required = absurd (cc)
required_before (Map old) (Object news) key r wide e required = absurd (cc)
required_before (Object olds) (Object news) key r wide e required = go (declared_field news key) refl e
  where
    was : (n : FieldDef) → is_required n.kind ≡ true → (o : Option FieldDef) → declared_field olds key ≡ o → widens_found o n ≡ true → (rule : FieldRule) × (field_in (Object olds) key ≡ Some rule) × (is_required rule.kind ≡ true)
    was n need None q w = absurd (not_optional n.kind w need)
    was n need (Some o) q w = (
      record { kind = o.kind; types = o.types },
      ap (option_map (λ (f : FieldDef). record { kind = f.kind; types = f.types })) q,
      only_required o.kind n.kind (and-true (kind_widens o.kind n.kind) _ w).0 need,
    )

    go : (p : Option FieldDef) → declared_field news key ≡ p → option_map (λ (f : FieldDef). record { kind = f.kind; types = f.types }) p ≡ Some r → (rule : FieldRule) × (field_in (Object olds) key ≡ Some rule) × (is_required rule.kind ≡ true)
    go None q h = absurd (cc)
    go (Some n) q h =
        let is : record { kind = n.kind; types = n.types } ≡ r = cc in
        let found = first-has (λ (f : FieldDef). same f.key.0 key) news n q in
        let widens : widens_found (declared_field olds n.key.0) n ≡ true = all_pass (def_widens olds) news n (and-true (list_all (λ (old : FieldDef). is_some (declared_field news old.key.0)) olds) (list_all (def_widens olds) news) wide).1 found.0 in
        was n (ap (λ (r : FieldRule). is_required r.kind) is ∙ required) (declared_field olds key) refl (ap (λ k. widens_found (declared_field olds k) n) (sym (text_same n.key.0 key found.1)) ∙ widens)

-- ## The form of a type

-- ## Documents and intents

module _ (old new : SchemaView) (sound : is_sound new ≡ true) (wide : wider_of old new ≡ Ok tt) where
  pub parts : (list_all (λ ok. ok) (types_widen old.types new.types) ≡ true) × (contains_all new.root old.root ≡ true)
  parts =
      let b = and-true _ _ (sym (list_all-append (λ ok. ok) (types_widen old.types new.types) (contains_all new.root old.root ∷ [])) ∙ no_narrowing 0 (types_widen old.types new.types ++ contains_all new.root old.root ∷ []) wide) in
      (b.0, (and-true (contains_all new.root old.root) true b.1).0)

  pub type_wider : (ty : List ℕ) (leaf : Option Leaf) → type_fits old ty leaf ≡ true → type_fits new ty leaf ≡ true
  type_wider ty (Some v) e = e
  type_wider ty None e = let f = some_there (form_of old.types ty) e in ap is_some (form_found old.types new.types ty f.0 parts.0 f.1).1

  pub field_wider : (ty key : List ℕ) (rule : FieldRule) → field_of old ty key ≡ Some rule → (r : FieldRule) × (field_of new ty key ≡ Some r) × Widens rule r
  field_wider ty key rule e = go (form_of old.types ty) refl e
    where
      go : (o : Option Form) → form_of old.types ty ≡ o → option_and_then (λ (form : Form). field_in form key) o ≡ Some rule → (r : FieldRule) × (field_of new ty key ≡ Some r) × Widens rule r
      go None q f = absurd (cc)
      go (Some form) q f =
          let g = form_found old.types new.types ty form parts.0 q in
          let r = rule_wider form g.0 key rule g.2 f in
          (r.0, ap (option_and_then (λ (form : Form). field_in form key)) g.1 ∙ r.1, r.2)

  pub field_before : (ty key : List ℕ) (leaf : Option Leaf) (r : FieldRule) → type_fits old ty leaf ≡ true → field_of new ty key ≡ Some r → is_required r.kind ≡ true → (rule : FieldRule) × (field_of old ty key ≡ Some rule) × (is_required rule.kind ≡ true)
  field_before ty key (Some v) r fits e required =
      let bad : None ≡ Some r = sym (ap (option_and_then (λ (form : Form). field_in form key)) (leaf_undefined new sound ty v fits)) ∙ e in
      absurd (cc)
  field_before ty key None r fits e required =
      let f = some_there (form_of old.types ty) fits in
      let g = form_found old.types new.types ty f.0 parts.0 f.1 in
      let rule = required_before f.0 g.0 key r g.2 (sym (ap (option_and_then (λ (form : Form). field_in form key)) g.1) ∙ e) required in
      (rule.0, ap (option_and_then (λ (form : Form). field_in form key)) f.1 ∙ rule.1, rule.2)

  among_wider : (E : Document) (types more : List (List ℕ)) (m : NodeId) → contains_all more types ≡ true → has_type E types m ≡ true → has_type E more m ≡ true
  among_wider E types more m contains e = go (E.nodes m) e
    where
      go : (o : Option NodeType) → option_map_or (λ (t : NodeType). is_among t.ty types) o false ≡ true → option_map_or (λ (t : NodeType). is_among t.ty more) o false ≡ true
      go None f = absurd (cc)
      go (Some t) f = among_all t.ty more types contains f

  -- in a document whose nodes have types as the old schema wants them
  module _ (E : Document) (typed : (n : NodeId) (t : NodeType) → E.nodes n ≡ Some t → type_fits old t.ty t.leaf ≡ true) where
    rule_later_wider : (n : NodeId) (key : Key) (rule : FieldRule) → rule_at E old n key ≡ Some rule → (r : FieldRule) × (rule_at E new n key ≡ Some r) × Widens rule r
    rule_later_wider n key rule e = go (E.nodes n) e
      where
        go : (o : Option NodeType) → option_and_then (λ (t : NodeType). field_of old t.ty key.0) o ≡ Some rule → (r : FieldRule) × (option_and_then (λ (t : NodeType). field_of new t.ty key.0) o ≡ Some r) × Widens rule r
        go None f = absurd (cc)
        go (Some t) f = field_wider t.ty key.0 rule f

    rule_before : (n : NodeId) (key : Key) (r : FieldRule) → rule_at E new n key ≡ Some r → is_required r.kind ≡ true → (rule : FieldRule) × (rule_at E old n key ≡ Some rule) × (is_required rule.kind ≡ true)
    rule_before n key r e required = go (E.nodes n) refl e
      where
        go : (o : Option NodeType) → E.nodes n ≡ o → option_and_then (λ (t : NodeType). field_of new t.ty key.0) o ≡ Some r → (rule : FieldRule) × (rule_at E old n key ≡ Some rule) × (is_required rule.kind ≡ true)
        go None q f = absurd (cc)
        go (Some t) q f =
            let rule = field_before t.ty key.0 t.leaf r (typed n t q) f required in
            (rule.0, ap (option_and_then (λ (t : NodeType). field_of old t.ty key.0)) q ∙ rule.1, rule.2)

    required_was : (f : FieldId) → is_required_field new E f ≡ true → is_required_field old E f ≡ true
    required_was f e =
        let r = required_rule new E f e in
        let rule = rule_before f.node f.key r.0 r.1 r.2 in
        required_by E old f.node f.key rule.0 rule.1 rule.2

    free_still : (f : FieldId) → IsFree old E f → IsFree new E f
    free_still f free = record { known = free.known; open_field = go (is_required_field new E f) refl }
      where
        go : (b : Bool) → is_required_field new E f ≡ b → is_required_field new E f ≡ false
        go false e = e
        go true e = absurd (true-false (required_was f e) free.open_field)

    admits_wider : (home : NodeId → Option FieldId) (kinds : KindName → Bool) (n : NodeId) (key : Key) (m : NodeId) → ((rule r : FieldRule) → Widens rule r → kinds rule.kind ≡ true → kinds r.kind ≡ true) → Admits old home E kinds n key m → Admits new home E kinds n key m
    admits_wider home kinds n key m kept a =
        let r = rule_later_wider n key a.rule a.ruled in
        record {
          rule = r.0;
          ruled = r.1;
          kind = kept a.rule r.0 r.2 a.kind;
          typed = among_wider E a.rule.types r.0.types m r.2.types a.typed;
          at_home = λ required. (let rule = rule_before n key r.0 r.1 required in
              a.at_home (ap (λ (r : FieldRule). is_required r.kind) (one_rule E old n key a.rule rule.0 a.ruled rule.1) ∙ rule.2));
          away = λ f e. elim (a.away f e) [ inl q ↦ inl q | inr free ↦ inr (free_still f free) ];
        }

    stands_wider : (home : NodeId → Option FieldId) (m : NodeId) (spot : Spot) → MayStand old home E m spot → MayStand new home E m spot
    stands_wider home m Spot.Nowhere h = tt
    stands_wider home m (Spot.Row n c) h = admits_wider home is_row n row_key m (λ rule r w e. w.rows e) h
    stands_wider home m (Spot.Register f) h = admits_wider home is_single_kind f.node f.key m (λ rule r w e. w.singles e) h

  pub conforms_wider : (home : NodeId → Option FieldId) (D : Document) → IsConforming old home D → IsConforming new home D
  conforms_wider home D here = record {
    types = λ n t e. type_wider t.ty t.leaf (here.types n t e);
    places = λ m. stands_wider D here.types home m (D.place m) (here.places m);
    filled = λ n key r e required. (let rule = rule_before D here.types n key r e required in here.filled n key rule.0 rule.1 rule.2);
    homes = here.homes;
    root_type = among_wider D old.root new.root root parts.1 here.root_type;
  }

  module _ (home : NodeId → Option FieldId) (D : Document) (N : Intent) (types : (n : NodeId) (t : NodeType) → D.nodes n ≡ Some t → type_fits old t.ty t.leaf ≡ true) (a : KeepsSchema old home D N) where
    named : (n : NodeId) (t : NodeType) → (with_names D N).nodes n ≡ Some t → type_fits old t.ty t.leaf ≡ true
    named n t e = go (D.nodes n) refl e
      where
        go : (o : Option NodeType) → D.nodes n ≡ o → option_or o (new_type N n) ≡ Some t → type_fits old t.ty t.leaf ≡ true
        go None q f = a.types n t f
        go (Some u) q f = types n t (q ∙ f)

    goes_wider : (m : NodeId) (to : To) → MayGo old home D N m to → MayGo new home D N m to
    goes_wider m To.Nowhere h = tt
    goes_wider m (To.Cell c) h = (h.0, h.1, admits_wider (with_names D N) named home is_row h.0 row_key m (λ rule r w e. w.rows e) h.2)
    goes_wider m (To.Register f) h = admits_wider (with_names D N) named home is_single_kind f.node f.key m (λ rule r w e. w.singles e) h

    left_wider : (f : FieldId) → MayBeLeft old D N f → MayBeLeft new D N f
    left_wider f h = record { known = h.known; filled = λ required. h.filled (required_was (with_names D N) named f required) }

    pub agrees_wider : KeepsSchema new home D N
    agrees_wider = record {
      types = λ n t e. type_wider t.ty t.leaf (a.types n t e);
      puts = λ m to e. goes_wider m to (a.puts m to e);
      leaves = λ m f put old_node lives. left_wider f (a.leaves m f put old_node lives);
      clears = λ f e. left_wider f (a.clears f e);
      homes = a.homes;
      filled = λ n key r new_node e required. (let rule = rule_before (with_names D N) named n key r e required in a.filled n key rule.0 new_node rule.1 rule.2);
    }
