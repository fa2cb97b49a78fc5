-- The first refusal, by looking at each node in turn.
use Rattle.std.proofs.Common.{◌≡◌, ◌∙◌, ℕ, suc, ◌+◌, ◌<◌, ◌≤◌, length, drop, get_or, drop-cons, arith, Bool, true, false, not, ◌&&◌, List, [], ◌∷◌, ◌++◌, Option, None, Some, Result, Ok, Err, refl, sym, ap}
use Rattle.std.specs.List.{position_from}
use Rattle.std.proofs.lemmas.List.{drop_all}
use Rattle.st_tree.specs.Node.{Node, Nodes, no_nodes, first, Fields, no_fields, field, FieldNode, view, trees_view}
use Rattle.st_tree.specs.inside.Node.{field_view, fields_view}
use Rattle.st_tree.specs.Size.{node_count, item_count, field_count}
use Rattle.st_tree.specs.declared.tree.Tree.{Tree}
use Rattle.st_tree.specs.declared.tree.Field.{Field}
use Rattle.st_tree.specs.declared.tree.Field.TheViews.{out-Tree, out-Field}
use Rattle.st_tree.proofs.Views.{view_out, field_view_out}
use Rattle.st_schema.specs.Schema.{SchemaView, is_among, form_of}
use Rattle.st_schema.specs.Conforms.{is_as_typed, types_under, verdicts, fields_verdicts, items_verdicts, refusal, allows_of, allows_all_of}
use Rattle.st_schema.specs.inside.Conforms.{first_fault, walk_on, walk_over}
use Rattle.st_schema.specs.declared.allows.Walk.{Walk}
use Rattle.st_schema.specs.declared.names.Form.{Form}
use Rattle.st_schema.specs.declared.names.NotAllowed.{NotAllowed}

-- the answer of a walk
abbrev pub settled : Option NotAllowed → Result (Unit {0}) NotAllowed
settled None = Ok tt
settled (Some e) = Err e

fault_kept : (w : Walk) (f : NotAllowed) (vs : List Bool) → w.fault ≡ Some f → (walk_over w vs).fault ≡ Some f
fault_kept w f [] h = h
fault_kept w f (true ∷ vs) h = fault_kept (walk_on w true) f vs h
fault_kept w f (false ∷ vs) h = fault_kept (walk_on w false) f vs (ap (λ o. first_fault o w.next) h)

fault_found : (w : Walk) (vs : List Bool) → w.fault ≡ None → settled (walk_over w vs).fault ≡ refusal (position_from (λ ok. not ok) w.next vs)
fault_found w [] h = ap settled h
fault_found w (true ∷ vs) h = fault_found (walk_on w true) vs h
fault_found w (false ∷ vs) h = ap settled (fault_kept (walk_on w false) (record { at = w.next }) vs (ap (λ o. first_fault o w.next) h))

pub allows_walked : (s : SchemaView) (types : List (List ℕ)) (t : Node) (w : Walk) → w ≡ walk_over (record { next = 0; fault = None }) (verdicts s types t) → settled w.fault ≡ allows_of s types t
allows_walked s types t w h = ap (λ (v : Walk). settled v.fault) h ∙ fault_found (record { next = 0; fault = None }) (verdicts s types t) refl

pub allows_all_walked : (s : SchemaView) (types : List (List ℕ)) (ts : Nodes) (w : Walk) → w ≡ walk_over (record { next = 0; fault = None }) (items_verdicts s types ts) → settled w.fault ≡ allows_all_of s types ts
allows_all_walked s types ts w h = ap (λ (v : Walk). settled v.fault) h ∙ fault_found (record { next = 0; fault = None }) (items_verdicts s types ts) refl

walked-append : (w : Walk) (us vs : List Bool) → walk_over w (us ++ vs) ≡ walk_over (walk_over w us) vs
walked-append w [] vs = refl
walked-append w (ok ∷ us) vs = walked-append (walk_on w ok) us vs

-- ---- one item on, and the end

pub items_next : (ts : List Tree) (i : ℕ) (t : Tree) → i < length ts → t ≡ get_or ts i t → trees_view (drop i ts) ≡ first (view t) (trees_view (drop (i + 1) ts))
items_next ts i t h is = let one : i + 1 ≡ suc i = omega arith in ap trees_view (drop-cons ts i t h) ∙ (λ j. first (view (sym is j)) (trees_view (drop (sym one j) ts)))

pub items_end : (ts : List Tree) (i : ℕ) → length ts ≤ i → trees_view (drop i ts) ≡ no_nodes
items_end ts i h = ap trees_view (drop_all i ts h)

pub fields_next : (fs : List Field) (i : ℕ) (f : Field) → i < length fs → f ≡ get_or fs i f
    → fields_view (drop i fs) ≡ field (field_view f).key (field_view f).row (field_view f).items (fields_view (drop (i + 1) fs))
fields_next fs i f h is = let one : i + 1 ≡ suc i = omega arith in
    ap fields_view (drop-cons fs i f h) ∙ (λ j. field (field_view (sym is j)).key (field_view (sym is j)).row (field_view (sym is j)).items (fields_view (drop (sym one j) fs)))

pub fields_end : (fs : List Field) (i : ℕ) → length fs ≤ i → fields_view (drop i fs) ≡ no_fields
fields_end fs i h = ap fields_view (drop_all i fs h)

module _ (s : SchemaView) (types : List (List ℕ)) (left rest : Nodes) (t : Node) (next : left ≡ first t rest) where
  pub items_number : (n m total : ℕ) → m ≡ n + node_count t → n + item_count left ≡ total → m + item_count rest ≡ total
  items_number n m total h whole = omega (arith, ap item_count next)

  pub items_walked : (w v all : Walk) → v ≡ walk_over w (verdicts s types t) → walk_over w (items_verdicts s types left) ≡ all → walk_over v (items_verdicts s types rest) ≡ all
  items_walked w v all h whole =
      ap (λ x. walk_over x (items_verdicts s types rest)) h
      ∙ sym (walked-append w (verdicts s types t) (items_verdicts s types rest))
      ∙ ap (λ us. walk_over w (items_verdicts s types us)) (sym next)
      ∙ whole

module _ (s : SchemaView) (form : Option Form) (left rest : Fields) (key : List ℕ) (row : Bool) (items : Nodes) (next : left ≡ field key row items rest) where
  pub fields_number : (n m total : ℕ) → m ≡ n + item_count items → n + field_count left ≡ total → m + field_count rest ≡ total
  fields_number n m total h whole = omega (arith, ap field_count next)

  pub fields_walked : (types : List (List ℕ)) (w v all : Walk) → types ≡ types_under form key → v ≡ walk_over w (items_verdicts s types items) → walk_over w (fields_verdicts s form left) ≡ all → walk_over v (fields_verdicts s form rest) ≡ all
  fields_walked types w v all allowed h whole =
      ap (λ x. walk_over x (fields_verdicts s form rest)) (h ∙ ap (λ ts. walk_over w (items_verdicts s ts items)) allowed)
      ∙ sym (walked-append w (items_verdicts s (types_under form key) items) (fields_verdicts s form rest))
      ∙ ap (λ us. walk_over w (fields_verdicts s form us)) (sym next)
      ∙ whole

-- ---- the whole

pub field_whole : (f : Field) (ts : List Tree) → ts ≡ (out-Field f).items → (field_view f).items ≡ trees_view ts
field_whole f ts is = ap (λ (v : FieldNode). v.items) (field_view_out f) ∙ ap trees_view (sym is)

pub tree_number : (t : Tree) (fs : List Field) → fs ≡ (out-Tree t).fields → node_count (view t) ≡ 1 + field_count (fields_view fs)
tree_number t fs is = ap node_count (view_out t) ∙ ap (λ gs. 1 + field_count (fields_view gs)) (sym is)

-- a node is looked at, and its fields follow
pub tree_walked : (s : SchemaView) (types : List (List ℕ)) (t : Tree) (fs : List Field) (form : Option Form) (b : Bool) (w : Walk) → fs ≡ (out-Tree t).fields → form ≡ form_of s.types (out-Tree t).ty
    → b ≡ (is_among (out-Tree t).ty types && is_as_typed form (out-Tree t).ty (out-Tree t).leaf (fields_view (out-Tree t).fields))
    → walk_over (walk_on w b) (fields_verdicts s form (fields_view fs)) ≡ walk_over w (verdicts s types (view t))
tree_walked s types t fs form b w is formed fits =
    let x = out-Tree t in
    ap (λ gs. walk_over (walk_on w b) (fields_verdicts s form (fields_view gs))) is
    ∙ ap (λ ok. walk_over (walk_on w ok) (fields_verdicts s form (fields_view x.fields))) fits
    ∙ ap (λ (o : Option Form). walk_over w ((is_among x.ty types && is_as_typed o x.ty x.leaf (fields_view x.fields)) ∷ fields_verdicts s o (fields_view x.fields))) formed
    ∙ ap (λ v. walk_over w (verdicts s types v)) (sym (view_out t))

pub field_key : (f : Field) → (field_view f).key ≡ (out-Field f).key.0
field_key f = ap (λ (v : FieldNode). v.key) (field_view_out f)
