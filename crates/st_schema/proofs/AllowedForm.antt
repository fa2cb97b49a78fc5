-- A tree that a schema allows is of the form of trees.
use Rattle.std.proofs.Common.{◌≡◌, ℕ, Bool, true, false, ◌&&◌, List, [], ◌∷◌, ◌++◌, Option, None, Some, refl}
use Rattle.std.specs.List.{list_all}
use Rattle.st_tree.specs.Node.{Node, node, Fields, no_fields, field, Nodes, no_nodes, first}
use Rattle.st_tree.specs.Form.{is_row_alone, keys_rise, has_form, fields_have_form, all_have_form}
use Rattle.st_tree.specs.Form as tree
use Rattle.st_schema.specs.Schema.{SchemaView, same, is_among, form_of}
use Rattle.st_schema.specs.Conforms.{leaf_type, have_rules, required_there, fields_fit, is_as_typed, node_fits, types_under, verdicts, fields_verdicts, items_verdicts, conforms}
use Rattle.st_schema.specs.declared.names.Form.{Form}
use Rattle.st_schema.specs.declared.names.Form.TheVariants.{Array, Map, Object}
use Rattle.st_lemmas.proofs.Bools.{or-right, or-left, and-both, and-true}

pub all-parts : (us vs : List Bool) → list_all (λ ok. ok) (us ++ vs) ≡ true → (list_all (λ ok. ok) us ≡ true) × (list_all (λ ok. ok) vs ≡ true)
all-parts [] vs h = (refl, h)
all-parts (u ∷ us) vs h =
    let parts = and-true u (list_all (λ ok. ok) (us ++ vs)) h in
    let rest = all-parts us vs parts.1 in
    (and-both u (list_all (λ ok. ok) us) parts.0 rest.0, rest.1)

fields_formed_as : (form : Form) (fs : Fields) → fields_fit form fs ≡ true → tree.fields_fit_leaf None fs ≡ true
fields_formed_as (Array types) fs h = or-left (is_row_alone fs) (keys_rise [] fs) h
fields_formed_as (Map types) fs h = or-right (is_row_alone fs) (keys_rise [] fs) (and-true (keys_rise [] fs) (have_rules (Map types) fs) h).0
fields_formed_as (Object defs) fs h = or-right (is_row_alone fs) (keys_rise [] fs) (and-true (keys_rise [] fs) (have_rules (Object defs) fs && required_there defs fs) h).0

typed_formed : (form : Option Form) (ty : List ℕ) (fs : Fields) → is_as_typed form ty None fs ≡ true → tree.fields_fit_leaf None fs ≡ true
typed_formed None ty fs h = absurd (cc)
typed_formed (Some form) ty fs h = fields_formed_as form fs h

mutual
  tree_formed : (s : SchemaView) (types : List (List ℕ)) (t : Node) → list_all (λ ok. ok) (verdicts s types t) ≡ true → has_form t ≡ true
  tree_formed s types (node ty (Some v) no_fields) h = refl
  tree_formed s types (node ty (Some v) (field key row items rest)) h =
      let fits = and-true (is_among ty types) (same ty (leaf_type v) && false) (and-true _ _ h).0 in
      let no = (and-true (same ty (leaf_type v)) false fits.1).1 in absurd (cc)
  tree_formed s types (node ty None fs) h =
      let parts = and-true (node_fits s types ty None fs) (list_all (λ ok. ok) (fields_verdicts s (form_of s.types ty) fs)) h in
      let fits = and-true (is_among ty types) (is_as_typed (form_of s.types ty) ty None fs) parts.0 in
      and-both (tree.fields_fit_leaf None fs) (fields_have_form fs) (typed_formed (form_of s.types ty) ty fs fits.1) (fields_formed s (form_of s.types ty) fs parts.1)

  fields_formed : (s : SchemaView) (form : Option Form) (fs : Fields) → list_all (λ ok. ok) (fields_verdicts s form fs) ≡ true → fields_have_form fs ≡ true
  fields_formed s form no_fields h = refl
  fields_formed s form (field key row items rest) h =
      let parts = all-parts (items_verdicts s (types_under form key) items) (fields_verdicts s form rest) h in
      and-both (all_have_form items) (fields_have_form rest) (items_formed s (types_under form key) items parts.0) (fields_formed s form rest parts.1)

  items_formed : (s : SchemaView) (types : List (List ℕ)) (ts : Nodes) → list_all (λ ok. ok) (items_verdicts s types ts) ≡ true → all_have_form ts ≡ true
  items_formed s types no_nodes h = refl
  items_formed s types (first t ts) h =
      let parts = all-parts (verdicts s types t) (items_verdicts s types ts) h in
      and-both (has_form t) (all_have_form ts) (tree_formed s types t parts.0) (items_formed s types ts parts.1)

pub conforming_formed : (s : SchemaView) (types : List (List ℕ)) (t : Node) → conforms s types t ≡ true → has_form t ≡ true
conforming_formed s types t h = tree_formed s types t h
