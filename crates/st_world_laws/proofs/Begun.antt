-- The opening document: it is sound in form, its names are the opening's, and its rows are short.
use Rattle.std.proofs.Common.{◌≡◌, ℕ, ◌+◌, ◌≤◌, Bool, true, false, cond, List, [], ◌∷◌, length, Option, Some, None, IsSome, refl, sym, ap, ◌∙◌, arith, inl, inr, nat_lt, Result, Ok, Err, is_ok}
use Rattle.std.specs.List.{AllByRecursion}
use Rattle.std.specs.Option.{option_or}
use Rattle.std.proofs.lemmas.Bool.Decides.{nat_tests}
use Rattle.serde_json.specs.Written.{compact_text}
use Rattle.st_ids.specs.Listing.{Has}
use Rattle.st_ids.specs.Order.{same_node}
use Rattle.st_ids.specs.declared.names.NodeId.{NodeId}
use Rattle.st_ids.specs.declared.names.Rev.{Rev}
use Rattle.st_ids.proofs.Orders.{same_node-true}
use Rattle.st_marks.specs.declared.intents.Owned.{Owned}
use Rattle.st_marks.specs.declared.schemas.SchemaEntry.{SchemaEntry}
use Rattle.st_marks.specs.Document.{Document, NodeType, IsSoundInForm}
use Rattle.st_ids.specs.Root.{opening}
use Rattle.st_marks.proofs.Members.{all-has}
use Rattle.st_tree.specs.declared.flat.FlatAt.{FlatAt}
use Rattle.st_tree.specs.declared.flat.FlatNode.{FlatNode}
use Rattle.st_tree.specs.declared.limits.TreeFault.{TreeFault}
use Rattle.st_tree.specs.declared.limits.TreeFault.TheVariants.{TooDeep, TooMany}
use Rattle.st_tree.specs.Node.{Node, node, Fields, no_fields, field, Nodes, no_nodes, first}
use Rattle.st_tree.specs.Form.{has_form}
use Rattle.st_tree.specs.Size.{node_count, item_count, height, check_of}
use Rattle.st_tree.specs.Preorder.{cells_taken, cell_count, item_cells, at_of, tree_listed, fields_listed, items_listed, opening_listed}
use Rattle.st_schema.specs.Schema.{SchemaView}
use Rattle.st_schema.specs.Conforms.{verdicts, allows_of}
use Rattle.st_schema.specs.Written.{schema_data}
use Rattle.st_schema.proofs.AllowedForm.{conforming_formed}
use Rattle.st_opening.proofs.PreorderNames.{listed_length}
use Rattle.st_opening.specs.Start.{first_said, type_at, cell_at, start_of}
use Rattle.st_opening.proofs.StartSound.{start_sound}
use Rattle.st_log_laws.specs.Names.{IsMadeUnder}
use Rattle.st_schema.specs.declared.header.Header.{Header}
use Rattle.st_script.specs.Header.{HeaderView, header_line, header_view, may_open}
use Rattle.st_script.proofs.OfForm.{header_line_kept}
use Rattle.st_world_laws.specs.Worlds.{IsHeader}
use Rattle.st_world.specs.World.{opening_document}
use Rattle.st_schema.proofs.Shared.{none_refused}
use Rattle.st_lemmas.proofs.Lists.{filter_map-length, AllByRecursion-append}
use Rattle.st_ids.proofs.Shared.{filter-from}
use Rattle.st_lemmas.proofs.Bools.{and-true}

-- ## The list of a tree's nodes

-- its nodes and cells are named under one revision
abbrev IsCellOf : Rev → FlatAt → Type 0
IsCellOf rev FlatAt.Root = Unit {0}
IsCellOf rev (FlatAt.Top c) = Unit {0}
IsCellOf rev (FlatAt.Row n c) = c.0.rev ≡ rev
IsCellOf rev (FlatAt.Register f) = Unit {0}

abbrev IsOf : Rev → FlatNode → Type 0
IsOf rev x = (x.node.0.rev ≡ rev) × IsCellOf rev x.at

cell_of : (rev : Rev) (owner : ℕ) (key : List ℕ) (row : Bool) (c : ℕ) → IsCellOf rev (at_of rev owner key row c)
cell_of rev owner key true c = refl
cell_of rev owner key false c = tt

mutual
  tree_of : (rev : Rev) (at : FlatAt) (n c : ℕ) (t : Node) → IsCellOf rev at → AllByRecursion (IsOf rev) (tree_listed rev at n c t)
  tree_of rev at n c (node ty leaf fields) h = ((refl, h), fields_of rev n (n + 1) c fields)

  fields_of : (rev : Rev) (owner n c : ℕ) (fs : Fields) → AllByRecursion (IsOf rev) (fields_listed rev owner n c fs)
  fields_of rev owner n c no_fields = tt
  fields_of rev owner n c (field key row items rest) =
      AllByRecursion-append (IsOf rev) (items_listed rev owner key row n c items) (fields_listed rev owner (n + item_count items) (c + item_cells row items) rest)
      (items_of rev owner key row n c items) (fields_of rev owner (n + item_count items) (c + item_cells row items) rest)

  items_of : (rev : Rev) (owner : ℕ) (key : List ℕ) (row : Bool) (n c : ℕ) (ts : Nodes) → AllByRecursion (IsOf rev) (items_listed rev owner key row n c ts)
  items_of rev owner key row n c no_nodes = tt
  items_of rev owner key row n c (first t ts) =
      AllByRecursion-append (IsOf rev) (tree_listed rev (at_of rev owner key row c) n (c + cells_taken row) t) (items_listed rev owner key row (n + node_count t) (c + (cells_taken row + cell_count t)) ts)
      (tree_of rev (at_of rev owner key row c) n (c + cells_taken row) t (cell_of rev owner key row c))
      (items_of rev owner key row (n + node_count t) (c + (cells_taken row + cell_count t)) ts)

-- ## The document of such a list

-- what is said, an item says
pub said_by : {A B : Type 0} (say : A → Option B) (xs : List A) → IsSome (first_said say xs) → (x : A) × Has xs x × IsSome (say x)
said_by say [] h = cc
said_by {A} {B} say (x ∷ xs) h = go (say x) refl (λ k. said_by say xs k) h
  where
    go : (o : Option B) → say x ≡ o → (IsSome (first_said say xs) → (y : A) × Has xs y × IsSome (say y)) → IsSome (option_or o (first_said say xs)) → (y : A) × Has (x ∷ xs) y × IsSome (say y)
    go None e rest h = let y = rest h in (y.0, inr y.1, y.2)
    go (Some b) e rest h = (x, inl refl, rw e refl)

pub typed_name : (n : NodeId) (x : FlatNode) → IsSome (type_at n x) → x.node ≡ n
typed_name n x h = go (same_node x.node n) refl h
  where
    go : (b : Bool) → same_node x.node n ≡ b → IsSome {T = NodeType} (cond b (Some (record { ty = x.ty; leaf = x.leaf })) None) → x.node ≡ n
    go true e h = same_node-true x.node n e
    go false e h = cc

cell_there : (rev : Rev) (n m : NodeId) (at : FlatAt) (o : Owned) → IsCellOf rev at → cell_at n m at ≡ Some o → o.cell.0.rev ≡ rev
cell_there rev n m FlatAt.Root o h e = cc
cell_there rev n m (FlatAt.Top c) o h e = cc
cell_there rev n m (FlatAt.Row r c) o h e = go (same_node r n) e
  where
    go : (b : Bool) → cond b (Some (record { cell = c; node = m })) None ≡ Some o → o.cell.0.rev ≡ rev
    go true f = let q : record { cell = c; node = m } ≡ o = cc in ap (λ (p : Owned). p.cell.0.rev) (sym q) ∙ h
    go false f = cc
cell_there rev n m (FlatAt.Register f) o h e = cc

list_made : (xs : List FlatNode) (schema : List ℕ) → AllByRecursion (IsOf opening) xs → IsMadeUnder (opening ∷ []) (start_of xs schema)
list_made xs schema h = record {
  nodes = λ n i.
      let x = said_by (type_at n) xs i in
      let w = all-has (IsOf opening) xs x.0 h x.1 in
      inl (sym w.0 ∙ ap (λ (m : NodeId). m.0.rev) (typed_name n x.0 x.2));
  cells = λ n o i.
      let x = filter-from (λ (x : FlatNode). cell_at n x.node x.at) xs o i in
      let w = all-has (IsOf opening) xs x.0 h x.1 in
      inl (sym (cell_there opening n x.0.node x.0.at o w.1 x.2));
  schemas = λ e i. elim i [ inl q ↦ inl (ap (λ (e : SchemaEntry). e.rev) q) | inr j ↦ absurd j ];
}

-- ## The opening of a trace

-- what holds of a document that a trace opens with
pub record IsStart (D : Document) : Type 0 where
  pub sound : IsSoundInForm D
  pub made : IsMadeUnder (opening ∷ []) D
  pub short : (n : NodeId) → length (D.rows n) ≤ 1024

ok_is : {E : Type 0} (r : Result (Unit {0}) E) → is_ok r ≡ true → r ≡ Ok tt
ok_is (Ok u) h = refl
ok_is (Err e) h = cc

few_nodes : (t : Node) → check_of t ≡ Ok tt → node_count t ≤ 1024
few_nodes t h = go (nat_lt 1024 (node_count t)) refl h
  where
    go : (b : Bool) → nat_lt 1024 (node_count t) ≡ b → ◌≡◌ {A = Result (Unit {0}) TreeFault} (cond b (Err TooMany) (cond (nat_lt 48 (height t)) (Err TooDeep) (Ok tt))) (Ok tt) → node_count t ≤ 1024
    go true e f = absurd (cc)
    go false e f = grind (arith, nat_tests)

-- a tree that a trace may open with is within the limits, and of the form
pub opens_within : (s : SchemaView) (t : Node) → may_open s t ≡ true → check_of t ≡ Ok tt
opens_within s t h = ok_is (check_of t) (and-true (is_ok (check_of t)) (is_ok (allows_of s s.root t)) h).0

pub opens_allowed : (s : SchemaView) (t : Node) → may_open s t ≡ true → allows_of s s.root t ≡ Ok tt
opens_allowed s t h = ok_is (allows_of s s.root t) (and-true (is_ok (check_of t)) (is_ok (allows_of s s.root t)) h).1

pub opens_formed : (s : SchemaView) (t : Node) → may_open s t ≡ true → has_form t ≡ true
opens_formed s t h = conforming_formed s s.root t (none_refused 0 (verdicts s s.root t) (opens_allowed s t h))

pub opened_start : (h : HeaderView) → IsHeader h → IsStart (opening_document h)
opened_start h k =
    let within = opens_within h.schema h.tree k.tree in
    let few = few_nodes h.tree within in
    let xs = opening_listed h.tree in
    let schema = compact_text (schema_data h.schema) in
    let many : length xs ≡ node_count h.tree = listed_length opening FlatAt.Root 0 0 h.tree in
    record {
      sound = start_sound h.tree schema (opens_formed h.schema h.tree k.tree) (omega (arith, few));
      made = list_made xs schema (tree_of opening FlatAt.Root 0 0 h.tree tt);
      short = λ n. omega (arith, few, many, filter_map-length (λ (x : FlatNode). cell_at n x.node x.at) xs);
    }

-- the header that a line is
pub header_opens : (word bytes : List ℕ) (h : Header) → header_line word bytes ≡ Ok (header_view h) → IsHeader (header_view h)
header_opens word bytes h is = let kept = header_line_kept word bytes (header_view h) is in record { schema = kept.0; tree = kept.1 }
