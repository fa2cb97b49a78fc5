-- A wider schema allows every tree of the old one.
use Rattle.std.proofs.Common.{◌≡◌, ◌∙◌, ℕ, ◌+◌, Bool, true, false, not, ◌&&◌, ◌||◌, List, [], ◌∷◌, ◌++◌, Option, None, Some, is_some, Ok, refl, sym, ap, subst}
use Rattle.std.specs.Prelude.{if◌then◌else◌, option_map}
use Rattle.std.specs.List.{list_all, position_from}
use Rattle.st_tree.specs.Node.{Node, node, Fields, no_fields, field, Nodes, no_nodes, first}
use Rattle.st_tree.specs.Form.{keys_rise}
use Rattle.st_schema.specs.Schema.{SchemaView, same, is_among, is_key, declared_field, field_in, form_of}
use Rattle.st_schema.specs.Conforms.{leaf_type, has_key, have_rules, required_there, fields_fit, is_as_typed, node_fits, types_in, types_under, verdicts, fields_verdicts, items_verdicts, conforms}
use Rattle.st_schema.specs.Wider.{contains_all, kind_widens, widens_found, def_widens, defs_widen, form_widens, definition_widens, types_widen, none_narrowed, wider_of}
use Rattle.st_schema.specs.Kind.{is_optional, is_required}
use Rattle.st_schema.specs.declared.names.KindName.{KindName}
use Rattle.st_schema.specs.declared.names.KindName.TheVariants.{Required, Optional, Sequence}
use Rattle.st_schema.specs.declared.names.FieldRule.{FieldRule}
use Rattle.st_schema.specs.declared.names.FieldDef.{FieldDef}
use Rattle.st_schema.specs.declared.names.Form.{Form}
use Rattle.st_schema.specs.declared.names.Form.TheVariants.{Array, Map, Object}
use Rattle.st_lemmas.proofs.Options.{is_some-option_map}
use Rattle.st_schema.proofs.Forms.{text_same}
use Rattle.st_schema.proofs.AllowedForm.{all-parts}
use Rattle.st_lemmas.proofs.Bools.{and-both, and-true}

-- ---- tests

pub all-append : (us vs : List Bool) → list_all (λ ok. ok) us ≡ true → list_all (λ ok. ok) vs ≡ true → list_all (λ ok. ok) (us ++ vs) ≡ true
all-append [] vs p q = q
all-append (u ∷ us) vs p q = let parts = and-true u (list_all (λ ok. ok) us) p in and-both u _ parts.0 (all-append us vs parts.1 q)

pub no_narrowing : (n : ℕ) (vs : List Bool) → none_narrowed (position_from (λ ok. not ok) n vs) ≡ Ok tt → list_all (λ ok. ok) vs ≡ true
no_narrowing n [] h = refl
no_narrowing n (true ∷ vs) h = no_narrowing (n + 1) vs h
no_narrowing n (false ∷ vs) h = absurd (cc)

-- ---- lists of types

among_first : (b : Bool) (u t : List ℕ) (new us : List (List ℕ)) → same u t ≡ b → is_among u new ≡ true → (is_among t us ≡ true → is_among t new ≡ true) → b || is_among t us ≡ true → is_among t new ≡ true
among_first true u t new us is here later among = ap (λ v. is_among v new) (sym (text_same u t is)) ∙ here
among_first false u t new us is here later among = later among

pub among_all : (t : List ℕ) (new old : List (List ℕ)) → contains_all new old ≡ true → is_among t old ≡ true → is_among t new ≡ true
among_all t new [] wide among = absurd (cc)
among_all t new (u ∷ us) wide among =
    let parts = and-true (is_among u new) (contains_all new us) wide in
    among_first (same u t) u t new us refl parts.0 (among_all t new us parts.1) among

-- ---- declared fields

-- what is found under a key has that key, and all that holds of each field
found_at : (b : Bool) (f g : FieldDef) (fs : List FieldDef) (key : List ℕ) (p : FieldDef → Bool) → same f.key.0 key ≡ b → p f ≡ true → (declared_field fs key ≡ Some g → (same g.key.0 key ≡ true) × (p g ≡ true))
    → (if b then Some f else declared_field fs key) ≡ Some g → (same g.key.0 key ≡ true) × (p g ≡ true)
found_at true f g fs key p is here later h = let e : f ≡ g = cc in subst (λ (x : FieldDef). (same x.key.0 key ≡ true) × (p x ≡ true)) e (is, here)
found_at false f g fs key p is here later h = later h

declared_field-list_all : (fs : List FieldDef) (key : List ℕ) (g : FieldDef) (p : FieldDef → Bool) → list_all p fs ≡ true → declared_field fs key ≡ Some g → (same g.key.0 key ≡ true) × (p g ≡ true)
declared_field-list_all [] key g p all h = absurd (cc)
declared_field-list_all (f ∷ fs) key g p all h = let parts = and-true (p f) (list_all p fs) all in found_at (same f.key.0 key) f g fs key p refl parts.0 (declared_field-list_all fs key g p parts.1) h

is_some_found : (o : Option FieldDef) → is_some o ≡ true → (g : FieldDef) × (o ≡ Some g)
is_some_found None h = absurd (cc)
is_some_found (Some g) h = (g, refl)

-- a field that the old object declares is declared by the new one, and is wider there
pub declared_wider : (olds news : List FieldDef) (key : List ℕ) (o : FieldDef) → defs_widen olds news ≡ true → declared_field olds key ≡ Some o
    → (n : FieldDef) × (declared_field news key ≡ Some n) × (kind_widens o.kind n.kind && contains_all n.types o.types ≡ true)
declared_wider olds news key o wide h =
    let parts = and-true (list_all (λ (old : FieldDef). is_some (declared_field news old.key.0)) olds) (list_all (def_widens olds) news) wide in
    let there = declared_field-list_all olds key o (λ old. is_some (declared_field news old.key.0)) parts.0 h in
    let new = is_some_found (declared_field news key) (ap (λ k. is_some (declared_field news k)) (sym (text_same o.key.0 key there.0)) ∙ there.1) in
    let n = new.0 in
    let widens = declared_field-list_all news key n (def_widens olds) parts.1 new.1 in
    (n, new.1, ap (λ (x : Option FieldDef). widens_found x n) (sym (ap (declared_field olds) (text_same n.key.0 key widens.0) ∙ h)) ∙ widens.1)

-- ---- the fields of a node

rules_kept : (f g : Form) (fs : Fields) → ((key : List ℕ) → is_some (field_in f key) ≡ true → is_some (field_in g key) ≡ true) → have_rules f fs ≡ true → have_rules g fs ≡ true
rules_kept f g no_fields keep h = refl
rules_kept f g (field key row items rest) keep h =
    let parts = and-true (is_some (field_in f key)) (have_rules f rest) h in
    and-both (is_some (field_in g key)) _ (keep key parts.0) (rules_kept f g rest keep parts.1)

map_rule : (b : Bool) (old new : FieldRule) → is_some (if b then Some old else None) ≡ true → is_some (if b then Some new else None) ≡ true
map_rule true old new h = refl
map_rule false old new h = absurd (cc)

object_rule : (olds news : List FieldDef) (key : List ℕ) → defs_widen olds news ≡ true → is_some (field_in (Object olds) key) ≡ true → is_some (field_in (Object news) key) ≡ true
object_rule olds news key wide h =
    let o = is_some_found (declared_field olds key) (sym (is_some-option_map _ (declared_field olds key)) ∙ h) in
    let n = declared_wider olds news key o.0 wide o.1 in
    is_some-option_map _ (declared_field news key) ∙ ap is_some n.1

only_required : (k : KindName) → kind_widens k Required ≡ true → k ≡ Required
only_required Required h = refl
only_required Optional h = absurd (cc)
only_required Sequence h = absurd (cc)

required_one : (olds : List FieldDef) (fs : Fields) (n : FieldDef) (k : KindName) (o : Option FieldDef) → n.kind ≡ k → declared_field olds n.key.0 ≡ o → widens_found o n ≡ true → required_there olds fs ≡ true
    → not (is_required n.kind) || has_key fs n.key.0 ≡ true
required_one olds fs n Optional o is h wide there = ap (λ k. not (is_required k) || has_key fs n.key.0) is
required_one olds fs n Sequence o is h wide there = ap (λ k. not (is_required k) || has_key fs n.key.0) is
required_one olds fs n Required None is h wide there = let no = sym (ap is_optional is) ∙ wide in absurd (cc)
required_one olds fs n Required (Some old) is h wide there =
    let kinds = (and-true (kind_widens old.kind n.kind) _ wide).0 in
    let was = only_required old.kind (ap (kind_widens old.kind) (sym is) ∙ kinds) in
    let held = declared_field-list_all olds n.key.0 old (λ d. not (is_required d.kind) || has_key fs d.key.0) there h in
    ap (λ k. not (is_required k) || has_key fs n.key.0) is
    ∙ ap (has_key fs) (sym (text_same old.key.0 n.key.0 held.0))
    ∙ ap (λ k. not (is_required k) || has_key fs old.key.0) (sym was)
    ∙ held.1

required_kept : (olds : List FieldDef) (fs : Fields) (ns : List FieldDef) → list_all (def_widens olds) ns ≡ true → required_there olds fs ≡ true → required_there ns fs ≡ true
required_kept olds fs [] wide there = refl
required_kept olds fs (n ∷ ns) wide there =
    let parts = and-true (def_widens olds n) (list_all (def_widens olds) ns) wide in
    and-both _ _ (required_one olds fs n n.kind (declared_field olds n.key.0) refl refl parts.0 there) (required_kept olds fs ns parts.1 there)

fit_kept : (f g : Form) (fs : Fields) → form_widens f g ≡ true → fields_fit f fs ≡ true → fields_fit g fs ≡ true
fit_kept (Array old) (Array new) fs wide h = h
fit_kept (Array old) (Map new) fs wide h = absurd (cc)
fit_kept (Array old) (Object new) fs wide h = absurd (cc)
fit_kept (Map old) (Array new) fs wide h = absurd (cc)
fit_kept (Map old) (Map new) fs wide h =
    let parts = and-true (keys_rise [] fs) (have_rules (Map old) fs) h in
    and-both (keys_rise [] fs) _ parts.0 (rules_kept (Map old) (Map new) fs (λ key k. map_rule (is_key key) (record { kind = Optional; types = old }) (record { kind = Optional; types = new }) k) parts.1)
fit_kept (Map old) (Object new) fs wide h = absurd (cc)
fit_kept (Object olds) (Array new) fs wide h = absurd (cc)
fit_kept (Object olds) (Map new) fs wide h = absurd (cc)
fit_kept (Object olds) (Object news) fs wide h =
    let parts = and-true (keys_rise [] fs) (have_rules (Object olds) fs && required_there olds fs) h in
    let rules = and-true (have_rules (Object olds) fs) (required_there olds fs) parts.1 in
    let widens = and-true (list_all (λ (old : FieldDef). is_some (declared_field news old.key.0)) olds) (list_all (def_widens olds) news) wide in
    and-both (keys_rise [] fs) _ parts.0 (and-both (have_rules (Object news) fs) _
    (rules_kept (Object olds) (Object news) fs (λ key k. object_rule olds news key wide k) rules.0) (required_kept olds fs news widens.1 rules.1))

-- ---- what a field may hold

map_types : (b : Bool) (old new : List (List ℕ)) → contains_all new old ≡ true
    → contains_all (types_in (if b then Some (record { kind = Optional; types = new }) else None)) (types_in (if b then Some (record { kind = Optional; types = old }) else None)) ≡ true
map_types true old new wide = wide
map_types false old new wide = refl

object_types : (olds news : List FieldDef) (key : List ℕ) (o : Option FieldDef) → defs_widen olds news ≡ true → declared_field olds key ≡ o
    → contains_all (types_in (field_in (Object news) key)) (types_in (option_map (λ f. record { kind = f.kind; types = f.types }) o)) ≡ true
object_types olds news key None wide h = refl
object_types olds news key (Some o) wide h =
    let n = declared_wider olds news key o wide h in
    let lists = (and-true (kind_widens o.kind n.0.kind) (contains_all n.0.types o.types) n.2).1 in
    ap (λ (m : Option FieldDef). contains_all (types_in (option_map (λ f. record { kind = f.kind; types = f.types }) m)) o.types) n.1 ∙ lists

types_kept : (f g : Form) (key : List ℕ) → form_widens f g ≡ true → contains_all (types_under (Some g) key) (types_under (Some f) key) ≡ true
types_kept (Array old) (Array new) [] wide = wide
types_kept (Array old) (Array new) (b ∷ key) wide = refl
types_kept (Array old) (Map new) key wide = absurd (cc)
types_kept (Array old) (Object new) key wide = absurd (cc)
types_kept (Map old) (Array new) key wide = absurd (cc)
types_kept (Map old) (Map new) key wide = map_types (is_key key) old new wide
types_kept (Map old) (Object new) key wide = absurd (cc)
types_kept (Object olds) (Array new) key wide = absurd (cc)
types_kept (Object olds) (Map new) key wide = absurd (cc)
types_kept (Object olds) (Object news) key wide = object_types olds news key (declared_field olds key) wide refl

-- ---- the form of a type

form_at : (b : Bool) (ty : List ℕ) (o n : List ℕ × Form) (os ns : List (List ℕ × Form)) (f : Form) → same ty o.0 ≡ b → definition_widens o n ≡ true
    → (form_of os ty ≡ Some f → (g : Form) × (form_of ns ty ≡ Some g) × (form_widens f g ≡ true)) → (if b then Some o.1 else form_of os ty) ≡ Some f
    → (g : Form) × (form_of (n ∷ ns) ty ≡ Some g) × (form_widens f g ≡ true)
form_at true ty o n os ns f is wide later h =
    let parts = and-true (same o.0 n.0) (form_widens o.1 n.1) wide in
    let e : o.1 ≡ f = cc in
    let at : same ty n.0 ≡ true = ap (same ty) (sym (text_same o.0 n.0 parts.0)) ∙ is in
    (n.1, ap (λ c. if c then Some n.1 else form_of ns ty) at, ap (λ x. form_widens x n.1) (sym e) ∙ parts.1)
form_at false ty o n os ns f is wide later h =
    let parts = and-true (same o.0 n.0) (form_widens o.1 n.1) wide in
    let at : same ty n.0 ≡ false = ap (same ty) (sym (text_same o.0 n.0 parts.0)) ∙ is in
    let g = later h in
    (g.0, ap (λ c. if c then Some n.1 else form_of ns ty) at ∙ g.1, g.2)

pub form_found : (olds news : List (List ℕ × Form)) (ty : List ℕ) (f : Form) → list_all (λ ok. ok) (types_widen olds news) ≡ true → form_of olds ty ≡ Some f
    → (g : Form) × (form_of news ty ≡ Some g) × (form_widens f g ≡ true)
form_found [] news ty f wide h = absurd (cc)
form_found (o ∷ os) [] ty f wide h = absurd (cc)
form_found (o ∷ os) (n ∷ ns) ty f wide h =
    let parts = and-true (definition_widens o n) (list_all (λ ok. ok) (types_widen os ns)) wide in
    form_at (same ty o.0) ty o n os ns f refl parts.0 (form_found os ns ty f parts.1) h

-- ---- trees

module _ (old new : SchemaView) (wide : list_all (λ ok. ok) (types_widen old.types new.types) ≡ true) where
  node_kept : (ty : List ℕ) (fs : Fields) (o : Option Form) → form_of old.types ty ≡ o → is_as_typed o ty None fs ≡ true → list_all (λ ok. ok) (fields_verdicts old o fs) ≡ true
      → ((f g : Form) → form_widens f g ≡ true → list_all (λ ok. ok) (fields_verdicts old (Some f) fs) ≡ true → list_all (λ ok. ok) (fields_verdicts new (Some g) fs) ≡ true)
      → (is_as_typed (form_of new.types ty) ty None fs ≡ true) × (list_all (λ ok. ok) (fields_verdicts new (form_of new.types ty) fs) ≡ true)
  node_kept ty fs None is fits below keep = absurd (cc)
  node_kept ty fs (Some f) is fits below keep =
      let g = form_found old.types new.types ty f wide is in (
        ap (λ o. is_as_typed o ty None fs) g.1 ∙ fit_kept f g.0 fs g.2 fits,
        ap (λ o. list_all (λ ok. ok) (fields_verdicts new o fs)) g.1 ∙ keep f g.0 g.2 below,
      )

  mutual
    tree_kept : (t : Node) (was is : List (List ℕ)) → contains_all is was ≡ true → conforms old was t ≡ true → conforms new is t ≡ true
    tree_kept (node ty (Some v) no_fields) was is more h =
        let fits = and-true (is_among ty was) (same ty (leaf_type v) && true) (and-true _ true h).0 in
        and-both _ true (and-both (is_among ty is) _ (among_all ty is was more fits.0) fits.1) refl
    tree_kept (node ty (Some v) (field key row items rest)) was is more h =
        let fits = and-true (is_among ty was) (same ty (leaf_type v) && false) (and-true _ _ h).0 in
        let no = (and-true (same ty (leaf_type v)) false fits.1).1 in absurd (cc)
    tree_kept (node ty None fs) was is more h =
        let parts = and-true (node_fits old was ty None fs) (list_all (λ ok. ok) (fields_verdicts old (form_of old.types ty) fs)) h in
        let fits = and-true (is_among ty was) (is_as_typed (form_of old.types ty) ty None fs) parts.0 in
        let kept = node_kept ty fs (form_of old.types ty) refl fits.1 parts.1 (λ f g w k. fields_kept f g fs w k) in
        and-both _ _ (and-both (is_among ty is) _ (among_all ty is was more fits.0) kept.0) kept.1

    fields_kept : (f g : Form) (fs : Fields) → form_widens f g ≡ true → list_all (λ ok. ok) (fields_verdicts old (Some f) fs) ≡ true → list_all (λ ok. ok) (fields_verdicts new (Some g) fs) ≡ true
    fields_kept f g no_fields widens h = refl
    fields_kept f g (field key row items rest) widens h =
        let parts = all-parts (items_verdicts old (types_under (Some f) key) items) (fields_verdicts old (Some f) rest) h in
        all-append (items_verdicts new (types_under (Some g) key) items) (fields_verdicts new (Some g) rest)
        (items_kept items (types_under (Some f) key) (types_under (Some g) key) (types_kept f g key widens) parts.0) (fields_kept f g rest widens parts.1)

    items_kept : (ts : Nodes) (was is : List (List ℕ)) → contains_all is was ≡ true → list_all (λ ok. ok) (items_verdicts old was ts) ≡ true → list_all (λ ok. ok) (items_verdicts new is ts) ≡ true
    items_kept no_nodes was is more h = refl
    items_kept (first t ts) was is more h =
        let parts = all-parts (verdicts old was t) (items_verdicts old was ts) h in
        all-append (verdicts new is t) (items_verdicts new is ts) (tree_kept t was is more parts.0) (items_kept ts was is more parts.1)

pub wider_conforms : (old new : SchemaView) (t : Node) → wider_of old new ≡ Ok tt → conforms old old.root t ≡ true → conforms new new.root t ≡ true
wider_conforms old new t wide conforming =
    let parts = all-parts (types_widen old.types new.types) (contains_all new.root old.root ∷ []) (no_narrowing 0 (types_widen old.types new.types ++ contains_all new.root old.root ∷ []) wide) in
    tree_kept old new parts.0 t old.root new.root (and-true (contains_all new.root old.root) true parts.1).0 conforming
