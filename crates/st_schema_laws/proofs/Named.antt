-- The list of the nodes of new trees, where the schema allows the trees.
use Rattle.std.proofs.Common.{◌≡◌, ℕ, ◌+◌, List, [], ◌∷◌, ◌++◌, map, Option, Some, None, refl, sym, ap, ◌∙◌, subst, inl, inr}
use Rattle.std.specs.List.{cons_option}
use Rattle.st_ids.specs.Listing.{Has}
use Rattle.st_ids.specs.declared.names.CellId.{CellId}
use Rattle.st_ids.specs.declared.names.FieldId.{FieldId}
use Rattle.st_ids.specs.declared.names.NodeId.{NodeId}
use Rattle.st_ids.specs.declared.names.Rev.{Rev}
use Rattle.st_tree.specs.Node.{Node, node, Nodes, no_nodes, first}
use Rattle.st_tree.specs.Preorder.{node_named, cell_named, cell_count, tree_listed, tops_listed, fields_listed}
use Rattle.st_tree.specs.Size.{node_count}
use Rattle.st_tree.specs.declared.flat.FlatAt.{FlatAt}
use Rattle.st_tree.specs.declared.flat.FlatNode.{FlatNode}
use Rattle.st_marks.specs.declared.intents.Group.{Group}
use Rattle.st_marks.specs.declared.intents.Owned.{Owned}
use Rattle.st_marks.specs.Document.{Document, owned_cell}
use Rattle.st_edits.specs.New.{owned_by, top_cell, top_cells, group_of}
use Rattle.st_opening.specs.Start.{register_at, registers}
use Rattle.st_edits.specs.declared.names.NameCounters.{NameCounters}
use Rattle.st_edits.proofs.NewFits.{NodesFresh}
use Rattle.st_edits.proofs.Numbered.{Counted, IsAt, numbered, IsInner, fields_inner}
use Rattle.st_schema_laws.proofs.NewTreesShown.{Own, inner, item_nodes}
use Rattle.st_ids.proofs.Shared.{filter-from}

-- the whole list has all
pub own_all : (rev : Rev) (xs : List FlatNode) (low high : ℕ) → Own rev xs xs low high
own_all rev xs low high = record { inside = λ y h. h; cells = λ r lo hi. refl; regs = λ r lo hi v f h e n. h }

-- ## Top items

no_top : (n : NodeId) (at : FlatAt) → IsInner at → owned_by n (top_cell at) ≡ None
no_top n FlatAt.Root inner = refl
no_top n (FlatAt.Top c) inner = absurd inner
no_top n (FlatAt.Row r c) inner = refl
no_top n (FlatAt.Register f) inner = refl

tops_joined : (xs ys : List FlatNode) → top_cells (xs ++ ys) ≡ top_cells xs ++ top_cells ys
tops_joined [] ys = refl
tops_joined (x ∷ xs) ys = ap (cons_option (owned_by x.node (top_cell x.at))) (tops_joined xs ys) ∙ go (owned_by x.node (top_cell x.at))
  where
    go : (o : Option Owned) → cons_option o (top_cells xs ++ top_cells ys) ≡ cons_option o (top_cells xs) ++ top_cells ys
    go None = refl
    go (Some y) = refl

none_top : (xs : List FlatNode) → ((y : FlatNode) → Has xs y → IsInner y.at) → top_cells xs ≡ []
none_top [] inside = refl
none_top (x ∷ xs) inside = ap (λ o. cons_option o (top_cells xs)) (no_top x.node x.at (inside x (inl refl))) ∙ none_top xs (λ y h. inside y (inr h))

tree_top : (rev : Rev) (c d n : ℕ) (t : Node) → top_cells (tree_listed rev (FlatAt.Top (cell_named rev c)) n d t) ≡ owned_cell (cell_named rev c) (node_named rev n) ∷ []
tree_top rev c d n (node ty leaf fields) = ap (λ os. owned_cell (cell_named rev c) (node_named rev n) ∷ os) (none_top (fields_listed rev n (n + 1) d fields) (fields_inner rev n (n + 1) d fields))

pub top_nodes : (rev : Rev) (n c : ℕ) (ts : Nodes) → map (λ (o : Owned). o.node) (top_cells (tops_listed rev n c ts)) ≡ item_nodes rev n ts
top_nodes rev n c no_nodes = refl
top_nodes rev n c (first t ts) =
    let later = tops_listed rev (n + node_count t) (c + (1 + cell_count t)) ts in
    ap (map (λ (o : Owned). o.node)) (tops_joined (tree_listed rev (FlatAt.Top (cell_named rev c)) n (c + 1) t) later ∙ ap (λ os. os ++ top_cells later) (tree_top rev c (c + 1) n t))
    ∙ ap (λ ns. node_named rev n ∷ ns) (top_nodes rev (n + node_count t) (c + (1 + cell_count t)) ts)

-- ## Groups and registers

pub group_is : (n : NodeId) (after : Option CellId) (os : List Owned) (g : Group) → group_of n after os ≡ Some g → (g.node ≡ n) × (g.after ≡ after) × (g.cells ≡ os)
group_is n after [] g e = absurd (cc)
group_is n after (o ∷ os) g e = let q : record { node = n; after = after; cells = o ∷ os } ≡ g = cc in (ap (λ (g : Group). g.node) (sym q), ap (λ (g : Group). g.after) (sym q), ap (λ (g : Group). g.cells) (sym q))

at_register : (at : FlatAt) (f : FieldId) → register_at at ≡ Some f → at ≡ FlatAt.Register f
at_register FlatAt.Root f e = absurd (cc)
at_register (FlatAt.Top c) f e = absurd (cc)
at_register (FlatAt.Row r c) f e = absurd (cc)
at_register (FlatAt.Register g) f e = let q : g ≡ f = cc in ap (λ x. FlatAt.Register x) q

-- the registers of new nodes are new
pub registers_new : (D : Document) (G : NameCounters) (xs : List FlatNode) → Counted G.rev G.nodes xs G.nodes G.cells → NodesFresh D G → (f : FieldId) → Has (registers xs) f → D.nodes f.node ≡ None
registers_new D G xs counted fresh f h =
    let v = filter-from (λ (x : FlatNode). register_at x.at) xs f h in
    let r = numbered G.rev G.nodes xs G.nodes G.cells v.0 counted v.1 in
    let at = subst (IsAt G.rev G.nodes r.number r.cell) (at_register v.0.at f v.2) r.at in
    ap D.nodes at.3 ∙ fresh at.0 at.1
