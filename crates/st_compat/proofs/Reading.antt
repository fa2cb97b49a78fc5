-- A view that reads what is stored allows each stored tree.
use Rattle.std.proofs.Common.{◌≡◌, ◌∙◌, ℕ, ◌+◌, Bool, true, false, not, ◌&&◌, List, [], ◌∷◌, ◌++◌, map, filter, Option, None, Some, is_none, Ok, refl, sym, ap, ap₂}
use Rattle.std.specs.Prelude.{if◌then◌else◌, option_map, unwrap_or}
use Rattle.std.specs.List.{list_all, position_from}
use Rattle.std.proofs.lemmas.Cmp.{nat_list_eq_equiv}
use Rattle.std.proofs.lemmas.List.Folds.{list_any-append}
use Rattle.st_lemmas.proofs.Bools.{and-both, and-true, or-left, or-right}
use Rattle.st_tree.specs.Node.{Node, node, Fields, no_fields, field, Nodes, no_nodes, first}
use Rattle.st_schema.specs.Schema.{SchemaView, same, is_among, is_key, declared_field, form_of}
use Rattle.st_schema.specs.Conforms.{leaf_type, is_as_typed, node_fits, types_in, types_under, verdicts, fields_verdicts, items_verdicts, conforms}
use Rattle.st_schema.specs.Wider.{contains_all, defs_widen, form_widens, definition_widens, types_widen, none_narrowed, wider_of}
use Rattle.st_schema.specs.declared.names.FieldDef.{FieldDef}
use Rattle.st_schema.specs.declared.names.Form.{Form}
use Rattle.st_schema.specs.declared.names.Form.TheVariants.{Array, Map, Object}
use Rattle.st_schema.specs.declared.names.KindName.TheVariants.{Optional}
use Rattle.st_schema.proofs.AllowedForm.{all-parts}
use Rattle.st_schema.proofs.Forms.{text_same}
use Rattle.st_schema.proofs.MoreTrees.{all-append, no_narrowing, form_found, wider_conforms}
use Rattle.st_compat.specs.Relation.{IsReachable, at_root, below, Reads, AreEqual, IsRelation, is_readable, difference, lack, why_form, types_below, types_of_fields}
use Rattle.st_compat.specs.declared.relation.Relation.{Relation}
use Rattle.st_compat.specs.declared.relation.Relation.TheVariants as relation
use Rattle.st_compat.specs.declared.relation.Why.{Why}
use Rattle.st_compat.proofs.Passing.{why_of}

-- ---- equal and wider views

pub equal_reads : (s v : SchemaView) → AreEqual s v → Reads s v
equal_reads s v e = record { types = λ ty r. e.0.types ty; root = e.0.root }

-- a form that is as wide has no difference
passed : {A : Type 0} (b : Bool) (w : A) → b ≡ true → (if b then None else Some w) ≡ None
passed true w h = refl
passed false w h = absurd (cc)

widens_same : (f g : Form) → form_widens f g ≡ true → difference f g ≡ None
widens_same (Array old) (Array new) h = passed (contains_all new old) Why.Allow h
widens_same (Array old) (Map new) h = absurd (cc)
widens_same (Array old) (Object new) h = absurd (cc)
widens_same (Map old) (Array new) h = absurd (cc)
widens_same (Map old) (Map new) h = passed (contains_all new old) Why.Allow h
widens_same (Map old) (Object new) h = absurd (cc)
widens_same (Object olds) (Array new) h = absurd (cc)
widens_same (Object olds) (Map new) h = absurd (cc)
widens_same (Object olds) (Object news) h = passed (defs_widen olds news) Why.Fields h

pub wider_reads : (s v : SchemaView) → wider_of s v ≡ Ok tt → Reads s v
wider_reads s v wide =
    let all = no_narrowing 0 (types_widen s.types v.types ++ contains_all v.root s.root ∷ []) wide in
    let parts = all-parts (types_widen s.types v.types) (contains_all v.root s.root ∷ []) all in
    record {
      types = λ ty r. why_of s v ty (λ form is. let g = form_found s.types v.types ty form parts.0 is in ap₂ why_form is g.1 ∙ widens_same form g.0 g.2);
      root = (and-true (contains_all v.root s.root) true parts.1).0;
    }

pub related_reads : (s v : SchemaView) (r : Relation) → IsRelation s v r → is_readable r ≡ true → Reads s v
related_reads s v relation.Equal is readable = equal_reads s v is
related_reads s v relation.Upgrade is readable = wider_reads s v is.1
related_reads s v relation.Viewable is readable = is.2
related_reads s v (relation.Refuse causes) is readable = absurd (cc)

-- ---- what a field may hold

picked_below : (b : Bool) (f o : FieldDef) (fs : List FieldDef) (key t : List ℕ) → (if b then Some f else declared_field fs key) ≡ Some o → is_among t o.types ≡ true
    → (declared_field fs key ≡ Some o → is_among t (types_of_fields fs) ≡ true) → is_among t (types_of_fields (f ∷ fs)) ≡ true
picked_below true f o fs key t is among later =
    let e : f ≡ o = cc in
    list_any-append (λ u. same u t) f.types (types_of_fields fs) ∙ or-left (is_among t f.types) (is_among t (types_of_fields fs)) (ap (λ (g : FieldDef). is_among t g.types) e ∙ among)
picked_below false f o fs key t is among later = list_any-append (λ u. same u t) f.types (types_of_fields fs) ∙ or-right (is_among t f.types) (is_among t (types_of_fields fs)) (later is)

found_below : (fs : List FieldDef) (key t : List ℕ) (o : FieldDef) → declared_field fs key ≡ Some o → is_among t o.types ≡ true → is_among t (types_of_fields fs) ≡ true
found_below [] key t o is among = absurd (cc)
found_below (f ∷ fs) key t o is among = picked_below (same f.key.0 key) f o fs key t is among (λ e. found_below fs key t o e among)

map_below : (b : Bool) (types : List (List ℕ)) (t : List ℕ) → is_among t (types_in (if b then Some (record { kind = Optional; types = types }) else None)) ≡ true → is_among t types ≡ true
map_below true types t among = among
map_below false types t among = absurd (cc)

object_below : (fs : List FieldDef) (key t : List ℕ) (o : Option FieldDef) → declared_field fs key ≡ o → is_among t (types_in (option_map (λ f. record { kind = f.kind; types = f.types }) o)) ≡ true → is_among t (types_of_fields fs) ≡ true
object_below fs key t None is among = absurd (cc)
object_below fs key t (Some o) is among = found_below fs key t o is among

under_below : (f : Form) (key t : List ℕ) → is_among t (types_under (Some f) key) ≡ true → is_among t (types_below f) ≡ true
under_below (Array types) [] t among = among
under_below (Array types) (b ∷ key) t among = absurd (cc)
under_below (Map types) key t among = map_below (is_key key) types t among
under_below (Object fs) key t among = object_below fs key t (declared_field fs key) refl among

-- ---- a tree whose types have the same forms in two schemas

module _ (a b : SchemaView) (P : List ℕ → Type 0) (closed : (up t : List ℕ) (f : Form) → P up → form_of a.types up ≡ Some f → is_among t (types_below f) ≡ true → P t)
    (kept : (ty : List ℕ) (f : Form) → P ty → form_of a.types ty ≡ Some f → form_of b.types ty ≡ Some f) where
  abbrev AllP : List (List ℕ) → Type 0
  AllP types = (t : List ℕ) → is_among t types ≡ true → P t

  node_moved : (ty : List ℕ) (fs : Fields) (o : Option Form) → P ty → form_of a.types ty ≡ o → is_as_typed o ty None fs ≡ true → list_all (λ ok. ok) (fields_verdicts a o fs) ≡ true
      → ((f : Form) → AllP (types_below f) → list_all (λ ok. ok) (fields_verdicts a (Some f) fs) ≡ true → list_all (λ ok. ok) (fields_verdicts b (Some f) fs) ≡ true)
      → (is_as_typed (form_of b.types ty) ty None fs ≡ true) × (list_all (λ ok. ok) (fields_verdicts b (form_of b.types ty) fs) ≡ true)
  node_moved ty fs None p is fits below_it move = absurd (cc)
  node_moved ty fs (Some f) p is fits below_it move =
      let there = kept ty f p is in (
        ap (λ o. is_as_typed o ty None fs) there ∙ fits,
        ap (λ o. list_all (λ ok. ok) (fields_verdicts b o fs)) there ∙ move f (λ t among. closed ty t f p is among) below_it,
      )

  mutual
    tree_moved : (t : Node) (types : List (List ℕ)) → AllP types → conforms a types t ≡ true → conforms b types t ≡ true
    tree_moved (node ty (Some v) no_fields) types all h = h
    tree_moved (node ty (Some v) (field key row items rest)) types all h =
        let fits = and-true (is_among ty types) (same ty (leaf_type v) && false) (and-true _ _ h).0 in
        let wrong = (and-true (same ty (leaf_type v)) false fits.1).1 in absurd (cc)
    tree_moved (node ty None fs) types all h =
        let parts = and-true (node_fits a types ty None fs) (list_all (λ ok. ok) (fields_verdicts a (form_of a.types ty) fs)) h in
        let fits = and-true (is_among ty types) (is_as_typed (form_of a.types ty) ty None fs) parts.0 in
        let moved = node_moved ty fs (form_of a.types ty) (all ty fits.0) refl fits.1 parts.1 (λ f p k. fields_moved f fs p k) in
        and-both _ _ (and-both (is_among ty types) _ fits.0 moved.0) moved.1

    fields_moved : (f : Form) (fs : Fields) → AllP (types_below f) → list_all (λ ok. ok) (fields_verdicts a (Some f) fs) ≡ true → list_all (λ ok. ok) (fields_verdicts b (Some f) fs) ≡ true
    fields_moved f no_fields all h = refl
    fields_moved f (field key row items rest) all h =
        let parts = all-parts (items_verdicts a (types_under (Some f) key) items) (fields_verdicts a (Some f) rest) h in
        all-append (items_verdicts b (types_under (Some f) key) items) (fields_verdicts b (Some f) rest)
        (items_moved items (types_under (Some f) key) (λ t among. all t (under_below f key t among)) parts.0) (fields_moved f rest all parts.1)

    items_moved : (ts : Nodes) (types : List (List ℕ)) → AllP types → list_all (λ ok. ok) (items_verdicts a types ts) ≡ true → list_all (λ ok. ok) (items_verdicts b types ts) ≡ true
    items_moved no_nodes types all h = refl
    items_moved (first t ts) types all h =
        let parts = all-parts (verdicts a types t) (items_verdicts a types ts) h in
        all-append (verdicts b types t) (items_verdicts b types ts) (tree_moved t types all parts.0) (items_moved ts types all parts.1)

-- ---- the stored types that don't fail, and what the view says of them

module _ (v : SchemaView) where
  abbrev passing : List ℕ × Form → Bool
  passing d = is_none (lack d.1 (form_of v.types d.0))

  abbrev viewed : List ℕ × Form → List ℕ × Form
  viewed d = (d.0, unwrap_or (form_of v.types d.0) d.1)

  -- no difference is a form that is as wide
  narrows : {A : Type 0} (b : Bool) (w : A) → is_none (if b then None else Some w) ≡ true → b ≡ true
  narrows true w h = refl
  narrows false w h = absurd (cc)

  same_widens : (f g : Form) → is_none (difference f g) ≡ true → form_widens f g ≡ true
  same_widens (Array old) (Array new) h = narrows (contains_all new old) Why.Allow h
  same_widens (Array old) (Map new) h = absurd (cc)
  same_widens (Array old) (Object new) h = absurd (cc)
  same_widens (Map old) (Array new) h = absurd (cc)
  same_widens (Map old) (Map new) h = narrows (contains_all new old) Why.Allow h
  same_widens (Map old) (Object new) h = absurd (cc)
  same_widens (Object olds) (Array new) h = absurd (cc)
  same_widens (Object olds) (Map new) h = absurd (cc)
  same_widens (Object olds) (Object news) h = narrows (defs_widen olds news) Why.Fields h

  text_itself : (t : List ℕ) → same t t ≡ true
  text_itself t = nat_list_eq_equiv.refl t

  passing_found : (d : List ℕ × Form) (o : Option Form) → form_of v.types d.0 ≡ o → is_none (lack d.1 o) ≡ true → (g : Form) × (form_of v.types d.0 ≡ Some g) × (form_widens d.1 g ≡ true)
  passing_found d None is h = absurd (cc)
  passing_found d (Some g) is h = (g, is, same_widens d.1 g h)

  passing_widens : (d : List ℕ × Form) → passing d ≡ true → definition_widens d (viewed d) ≡ true
  passing_widens d h =
      let g = passing_found d (form_of v.types d.0) refl h in
      and-both (same d.0 d.0) (form_widens d.1 (viewed d).1) (text_itself d.0) (ap (λ (o : Option Form). form_widens d.1 (unwrap_or o d.1)) g.1 ∙ g.2)

  abbrev taken : List (List ℕ × Form) → List (List ℕ × Form)
  taken ds = filter passing ds

  one_widens : (d : List ℕ × Form) (ds : List (List ℕ × Form)) (b : Bool) → passing d ≡ b → list_all (λ ok. ok) (types_widen (taken ds) (map viewed (taken ds))) ≡ true
      → list_all (λ ok. ok) (types_widen (if b then d ∷ taken ds else taken ds) (map viewed (if b then d ∷ taken ds else taken ds))) ≡ true
  one_widens d ds true is rest = and-both (definition_widens d (viewed d)) _ (passing_widens d is) rest
  one_widens d ds false is rest = rest

  all_widen : (ds : List (List ℕ × Form)) → list_all (λ ok. ok) (types_widen (taken ds) (map viewed (taken ds))) ≡ true
  all_widen [] = refl
  all_widen (d ∷ ds) = one_widens d ds (passing d) refl (all_widen ds)

  none_first : (n : ℕ) (vs : List Bool) → list_all (λ ok. ok) vs ≡ true → none_narrowed (position_from (λ ok. not ok) n vs) ≡ Ok tt
  none_first n [] h = refl
  none_first n (true ∷ vs) h = none_first (n + 1) vs h
  none_first n (false ∷ vs) h = absurd (cc)

  -- a type that passes keeps its form
  taken_first : (d : List ℕ × Form) (ds : List (List ℕ × Form)) (ty : List ℕ) (f : Form) (x y : Bool) → passing (ty, f) ≡ true → (form_of ds ty ≡ Some f → form_of (taken ds) ty ≡ Some f)
      → same ty d.0 ≡ x → passing d ≡ y → (if x then Some d.1 else form_of ds ty) ≡ Some f → form_of (if y then d ∷ taken ds else taken ds) ty ≡ Some f
  taken_first d ds ty f true true pass later at pass_d is = ap (λ (x : Bool). if x then Some d.1 else form_of (taken ds) ty) at ∙ is
  taken_first d ds ty f true false pass later at pass_d is =
      let one : d.1 ≡ f = cc in
      let passes : passing d ≡ true = (λ i. passing (sym (text_same ty d.0 at) i, one i)) ∙ pass in absurd (cc)
  taken_first d ds ty f false true pass later at pass_d is = ap (λ (x : Bool). if x then Some d.1 else form_of (taken ds) ty) at ∙ later is
  taken_first d ds ty f false false pass later at pass_d is = later is

  taken_form : (ds : List (List ℕ × Form)) (ty : List ℕ) (f : Form) → passing (ty, f) ≡ true → form_of ds ty ≡ Some f → form_of (taken ds) ty ≡ Some f
  taken_form [] ty f pass is = absurd (cc)
  taken_form (d ∷ ds) ty f pass is = taken_first d ds ty f (same ty d.0) (passing d) pass (taken_form ds ty f pass) refl refl is

  -- and the view says so too
  viewed_first : (d : List ℕ × Form) (es : List (List ℕ × Form)) (ty : List ℕ) (f : Form) (x : Bool) → (form_of es ty ≡ Some f → form_of v.types ty ≡ Some f)
      → same ty d.0 ≡ x → passing d ≡ true → (if x then Some (viewed d).1 else form_of es ty) ≡ Some f → form_of v.types ty ≡ Some f
  viewed_first d es ty f true later at pass is =
      let g = passing_found d (form_of v.types d.0) refl pass in
      ap (form_of v.types) (text_same ty d.0 at) ∙ g.1 ∙ sym (ap (λ (o : Option Form). Some (unwrap_or o d.1)) g.1) ∙ is
  viewed_first d es ty f false later at pass is = later is

  viewed_next : (d : List ℕ × Form) (ds : List (List ℕ × Form)) (ty : List ℕ) (f : Form) (b : Bool) → (form_of (map viewed (taken ds)) ty ≡ Some f → form_of v.types ty ≡ Some f)
      → passing d ≡ b → form_of (map viewed (if b then d ∷ taken ds else taken ds)) ty ≡ Some f → form_of v.types ty ≡ Some f
  viewed_next d ds ty f true later pass is = viewed_first d (map viewed (taken ds)) ty f (same ty d.0) later refl pass is
  viewed_next d ds ty f false later pass is = later is

  viewed_form : (ds : List (List ℕ × Form)) (ty : List ℕ) (f : Form) → form_of (map viewed (taken ds)) ty ≡ Some f → form_of v.types ty ≡ Some f
  viewed_form [] ty f is = absurd (cc)
  viewed_form (d ∷ ds) ty f is = viewed_next d ds ty f (passing d) (viewed_form ds ty f) refl is

pub reads_allow : (s v : SchemaView) (t : Node) → Reads s v → conforms s s.root t ≡ true → conforms v v.root t ≡ true
reads_allow s v t reads h =
    let part : SchemaView = record { root = s.root; types = taken v s.types } in
    let seen : SchemaView = record { root = v.root; types = map (viewed v) (taken v s.types) } in
    let pass : (ty : List ℕ) (f : Form) → IsReachable s ty → form_of s.types ty ≡ Some f → passing v (ty, f) ≡ true
    = λ ty f r is. ap is_none (sym (ap (λ (o : Option Form). why_form o (form_of v.types ty)) is) ∙ reads.types ty r) in
    let in_part = tree_moved s part (IsReachable s) (λ up t f r is among. below up t f r is among) (λ ty f r is. taken_form v s.types ty f (pass ty f r is) is) t s.root (λ ty among. at_root ty among) h in
    let wide : wider_of part seen ≡ Ok tt = none_first v 0 (types_widen part.types seen.types ++ contains_all v.root s.root ∷ [])
    (all-append (types_widen part.types seen.types) (contains_all v.root s.root ∷ []) (all_widen v s.types) (and-both (contains_all v.root s.root) true reads.root refl)) in
    tree_moved seen v (λ ty. Unit {0}) (λ up t f r is among. tt) (λ ty f r is. viewed_form v s.types ty f is) t v.root (λ ty among. tt) (wider_conforms part seen t wide in_part)
