-- What an edit means can be told: its names are counted on from those of its commit, its trees are allowed, and its keys are
-- those of fields of which the schema has a rule.
use Rattle.std.proofs.Common.{◌≡◌, ◌<◌, ◌≤◌, ◌^◌, ℕ, ◌+◌, nat_le, Bool, true, false, List, [], ◌∷◌, Option, Some, None, IfSome, is_some, option_map, Result, Ok, cond, refl, sym, ap, ◌∙◌, ◌⊎◌, subst, inl, inr, arith}
use Rattle.std.specs.List.{AllByRecursion, cons_option, find}
use Rattle.st_ids.specs.Listing.{Has}
use Rattle.st_ids.specs.Or.{and_then}
use Rattle.st_ids.specs.Order.{same_node}
use Rattle.st_ids.proofs.Orders.{same_node-itself}
use Rattle.st_ids.specs.declared.names.CellId.{CellId}
use Rattle.st_ids.specs.declared.names.FieldId.{FieldId}
use Rattle.st_ids.specs.declared.names.Key.{Key}
use Rattle.st_ids.specs.declared.names.NodeId.{NodeId}
use Rattle.st_ids.specs.declared.names.Place.{Place}
use Rattle.st_tree.specs.Node.{Nodes, first, no_nodes, nodes_of}
use Rattle.st_tree.specs.declared.edit.EditFault.{EditFault}
use Rattle.st_tree.specs.declared.edit.EditFault.TheVariants.{Range}
use Rattle.st_tree.specs.declared.flat.FlatAt.{FlatAt}
use Rattle.st_tree.specs.declared.flat.FlatNode.{FlatNode}
use Rattle.st_schema.specs.Schema.{SchemaView, is_sound}
use Rattle.st_schema.specs.declared.names.KindName.{KindName}
use Rattle.st_schema.specs.declared.names.KindName.TheVariants.{Optional, Required, Sequence}
use Rattle.st_marks.specs.declared.changes.NewNode.{NewNode}
use Rattle.st_marks.specs.declared.intents.Intent.{Intent}
use Rattle.st_marks.specs.declared.intents.Owned.{Owned}
use Rattle.st_marks.specs.declared.intents.Put.{Put}
use Rattle.st_marks.specs.declared.intents.To.{To}
use Rattle.st_marks.specs.Document.{Document, NodeType}
use Rattle.st_marks.specs.Intent.{group_cells, is_new, register_of}
use Rattle.st_marks.proofs.Members.{all-has, has-all}
use Rattle.st_opening.specs.Start.{register_at, registers}
use Rattle.st_edits.specs.Given.{IsCountedFrom}
use Rattle.st_edits.specs.New.{new_nodes, puts, to_at}
use Rattle.st_edits.specs.Paths.{field_at, row_length}
use Rattle.st_edits.specs.Resolve.{allowed_nodes, cells_for, clear, empty_intent, insert, intent_to_insert, intent_to_move, intent_to_place, intent_to_remove, may_move, move, named_nodes, need, nodes_taken, put, remove, require, rule_for, walk, within_row}
use Rattle.st_edits.specs.declared.names.NameCounters.{NameCounters}
use Rattle.st_edits.specs.declared.names.Takes.TheVariants as takes
use Rattle.st_edits.proofs.Fits.{all_map, passed}
use Rattle.st_edits.proofs.NewFits.{are_allowed}
use Rattle.st_script.specs.Steps.{EditView}
use Rattle.st_script.specs.Steps as step
use Rattle.st_world.specs.World.{intent_of}
use Rattle.st_change_laws.specs.Within.{IntentIsWithin, IsSchemaText, KeyIsShort, LeafFits, NewIsWithin}
use Rattle.st_commit_laws.specs.Tellable.{AllLeavesAreShort, EditBringsShortLeaves, NameIsShort}
use Rattle.st_commit_laws.proofs.Keys.{ruled_key_short}
use Rattle.st_commit_laws.proofs.Trees.{HasShortKey, tops_keys, tops_leaves}

-- ## Beside the numbers of names

-- a put into a register goes under a short key
abbrev pub PutIsShort : To → Type 0
PutIsShort to = IfSome (register_of to) KeyIsShort

-- the values of its new nodes fit their types, and its keys are short
pub record HasFitParts (N : Intent) : Type 0 where
  pub leaves : AllByRecursion (λ (m : NewNode). LeafFits m.ty m.leaf) N.new
  pub puts : AllByRecursion (λ (p : Put). PutIsShort p.to) N.put
  pub clears : AllByRecursion KeyIsShort N.clear

-- ## Names that are counted on

module _ (G : NameCounters) (nodes cells : ℕ) (N : Intent) (counted : IsCountedFrom G nodes cells N) (low : G.nodes + G.cells ≤ 2048) where
  -- a node that is listed as new is new
  found : (p : NewNode → Bool) (xs : List NewNode) (m : NewNode) → Has xs m → p m ≡ true → is_some (find p xs) ≡ true
  found p [] m i e = absurd i
  found p (x ∷ xs) m i e = go (p x) refl (λ j. found p xs m j e) i
    where
      go : (b : Bool) → p x ≡ b → (Has xs m → is_some (find p xs) ≡ true) → (x ≡ m) ⊎ Has xs m → is_some (cond b (Some x) (find p xs)) ≡ true
      go true q rest j = refl
      go false q rest (inl same) = let bad : true ≡ false = sym e ∙ ap p (sym same) ∙ q in cc
      go false q rest (inr j) = rest j

  typed : NewNode → NodeType
  typed x = record { ty = x.ty; leaf = x.leaf }

  listed_new : (m : NewNode) → Has N.new m → is_new N m.node ≡ true
  listed_new m i = there (find (λ (x : NewNode). same_node x.node m.node) N.new) (found (λ (x : NewNode). same_node x.node m.node) N.new m i (same_node-itself m.node))
    where
      there : (o : Option NewNode) → is_some o ≡ true → is_some {T = NodeType} (option_map (λ (x : NewNode). record { ty = x.ty; leaf = x.leaf }) o) ≡ true
      there None e = cc
      there (Some x) e = refl

  new_short : (m : NewNode) → Has N.new m → NameIsShort m.node.0
  new_short m i =
      let k = counted.nodes m.node (listed_new m i) in
      let short : k.0 < 2 ^ 32 = omega (arith, counted.room low, k.3) in
      subst (λ (n : NodeId). n.0.at < 2 ^ 32) (sym k.1) short

  cell_short : (o : Owned) → Has (group_cells N) o → NameIsShort o.cell.0
  cell_short o i =
      let k = counted.cells o i in
      let short : k.0 < 2 ^ 32 = omega (arith, counted.room low, k.3) in
      subst (λ (c : CellId). c.0.at < 2 ^ 32) (sym k.1) short

  pub counted_within : N.schema ≡ None → HasFitParts N → IntentIsWithin NameIsShort N
  counted_within none fit = record {
    new = has-all (NewIsWithin NameIsShort) N.new (λ m i. (new_short m i, all-has (λ (m : NewNode). LeafFits m.ty m.leaf) N.new m fit.leaves i));
    cells = has-all (λ (o : Owned). NameIsShort o.cell.0) (group_cells N) cell_short;
    puts = fit.puts;
    clears = fit.clears;
    schema = subst (λ (o : Option (List ℕ)). IfSome o IsSchemaText) (sym none) tt;
  }

-- ## New trees

to_short : (into : Option FieldId) (at : FlatAt) → IfSome into KeyIsShort → HasShortKey at → PutIsShort (to_at into at)
to_short into FlatAt.Root top own = tt
to_short None (FlatAt.Top c) top own = tt
to_short (Some f) (FlatAt.Top c) top own = top
to_short into (FlatAt.Row n c) top own = tt
to_short into (FlatAt.Register f) top own = own

register_keys : (xs : List FlatNode) → ((y : FlatNode) → Has xs y → HasShortKey y.at) → AllByRecursion KeyIsShort (registers xs)
register_keys [] keys = tt
register_keys (x ∷ xs) keys = go (register_at x.at) (keys x (inl refl)) (register_keys xs (λ y i. keys y (inr i)))
  where
    go : (o : Option FieldId) → IfSome o KeyIsShort → AllByRecursion KeyIsShort (registers xs) → AllByRecursion KeyIsShort (cons_option o (registers xs))
    go None own rest = rest
    go (Some f) own rest = (own, rest)

module _ (xs : List FlatNode) (leaves : (y : FlatNode) → Has xs y → LeafFits y.ty y.leaf) (keys : (y : FlatNode) → Has xs y → HasShortKey y.at) where
  new_fit : AllByRecursion (λ (m : NewNode). LeafFits m.ty m.leaf) (new_nodes xs)
  new_fit = all_map (λ (m : NewNode). LeafFits m.ty m.leaf) (λ (x : FlatNode). record { node = x.node; ty = x.ty; leaf = x.leaf }) xs leaves

  puts_fit : (into : Option FieldId) → IfSome into KeyIsShort → AllByRecursion (λ (p : Put). PutIsShort p.to) (puts into xs)
  puts_fit into top = all_map (λ (p : Put). PutIsShort p.to) (λ (x : FlatNode). record { node = x.node; to = to_at into x.at }) xs (λ x i. to_short into x.at top (keys x i))

  inserted_fit : (D : Document) (G : NameCounters) (n : NodeId) (index : ℕ) → HasFitParts (intent_to_insert D G n index xs)
  inserted_fit D G n index = record { leaves = new_fit; puts = puts_fit None tt; clears = register_keys xs keys }

  placed_fit : (D : Document) (G : NameCounters) (f : FieldId) → KeyIsShort f → HasFitParts (intent_to_place D G f xs)
  placed_fit D G f short = record { leaves = new_fit; puts = puts_fit (Some f) short; clears = (short, register_keys xs keys) }

-- ## Edits

ended : (M N : Intent) → HasFitParts M → ◌≡◌ {A = Result Intent EditFault} (Ok M) (Ok N) → HasFitParts N
ended M N fit e = let same : M ≡ N = cc in subst HasFitParts same fit

module _ (D : Document) (s : SchemaView) (sound : is_sound s ≡ true) (G : NameCounters) where
  insert_fit : (at : List Place) (key : Key) (index : ℕ) (trees : Nodes) (N : Intent) → AllLeavesAreShort trees → insert D s G at key index trees ≡ Ok N → HasFitParts N
  insert_fit at key index trees N short e =
      let n = passed (walk D at) _ N e in
      let rule = passed (rule_for takes.Row D s n.0 key) _ N n.2 in
      let at_end = passed (require (nat_le index (row_length D n.0)) Range) (λ _. and_then (allowed_nodes s G rule.0 trees) (λ xs. Ok (intent_to_insert D G n.0 index xs))) N rule.2 in
      let xs = passed (allowed_nodes s G rule.0 trees) (λ xs. Ok (intent_to_insert D G n.0 index xs)) N at_end.2 in
      let a = are_allowed s G rule.0 trees xs.0 xs.1 in
      let fit = inserted_fit (named_nodes G trees) (tops_leaves s sound rule.0.types G.rev G.nodes G.cells trees a.0 short) (tops_keys s sound rule.0.types G.rev G.nodes G.cells trees a.0) D G n.0 index in
      ended (intent_to_insert D G n.0 index xs.0) N (subst (λ (ys : List FlatNode). HasFitParts (intent_to_insert D G n.0 index ys)) a.1 fit) xs.2

  put_fit : (at : List Place) (key : Key) (trees : Nodes) (N : Intent) → AllLeavesAreShort trees → put D s G at key trees ≡ Ok N → HasFitParts N
  put_fit at key trees N short e =
      let n = passed (walk D at) _ N e in
      let rule = passed (rule_for takes.Single D s n.0 key) _ N n.2 in
      let xs = passed (allowed_nodes s G rule.0 trees) (λ xs. Ok (intent_to_place D G (field_at n.0 key) xs)) N rule.2 in
      let a = are_allowed s G rule.0 trees xs.0 xs.1 in
      let own = ruled_key_short s sound takes.Single D n.0 key rule.0 rule.1 in
      let fit = placed_fit (named_nodes G trees) (tops_leaves s sound rule.0.types G.rev G.nodes G.cells trees a.0 short) (tops_keys s sound rule.0.types G.rev G.nodes G.cells trees a.0) D G (field_at n.0 key) own in
      ended (intent_to_place D G (field_at n.0 key) xs.0) N (subst (λ (ys : List FlatNode). HasFitParts (intent_to_place D G (field_at n.0 key) ys)) a.1 fit) xs.2

  removed_fit : (ns : List NodeId) → HasFitParts (intent_to_remove D G ns)
  removed_fit ns = record { leaves = tt; puts = all_map (λ (p : Put). PutIsShort p.to) (λ (n : NodeId). record { node = n; to = To.Nowhere }) ns (λ n i. tt); clears = tt }

  remove_fit : (at : List Place) (key : Key) (index count : ℕ) (N : Intent) → remove D s G at key index count ≡ Ok N → HasFitParts N
  remove_fit at key index count N e =
      let n = passed (walk D at) (λ n. and_then (rule_for takes.Row D s n key) (λ _. and_then (within_row D n index count) (λ ns. Ok (intent_to_remove D G ns)))) N e in
      let r = passed (rule_for takes.Row D s n.0 key) (λ _. and_then (within_row D n.0 index count) (λ ns. Ok (intent_to_remove D G ns))) N n.2 in
      let ns = passed (within_row D n.0 index count) (λ ns. Ok (intent_to_remove D G ns)) N r.2 in
      ended (intent_to_remove D G ns.0) N (removed_fit ns.0) ns.2

  moved_fit : (f : FieldId) (k : KindName) (index : ℕ) (ns : List NodeId) → KeyIsShort f → HasFitParts (intent_to_move D G f k index ns)
  moved_fit f Required index ns short = record { leaves = tt; puts = tt; clears = tt }
  moved_fit f Optional index ns short = record {
    leaves = tt;
    puts = all_map (λ (p : Put). PutIsShort p.to) (λ (n : NodeId). record { node = n; to = To.Register f }) ns (λ n i. short);
    clears = (short, tt);
  }
  moved_fit f Sequence index ns short = record {
    leaves = tt;
    puts = all_map (λ (p : Put). PutIsShort p.to) (λ (o : Owned). record { node = o.node; to = To.Cell o.cell }) (cells_for G.rev G.cells ns) (λ o i. tt);
    clears = tt;
  }

  move_fit : (at : List Place) (key : Key) (index count : ℕ) (to : List Place) (to_key : Key) (to_index : ℕ) (N : Intent) → move D s G at key index count to to_key to_index ≡ Ok N → HasFitParts N
  move_fit at key index count to to_key to_index N e =
      let n = passed (walk D at) _ N e in
      let m = passed (walk D to) _ N n.2 in
      let source = passed (rule_for takes.Open D s n.0 key) _ N m.2 in
      let target = passed (rule_for takes.Open D s m.0 to_key) _ N source.2 in
      let ns = passed (nodes_taken D (field_at n.0 key) source.0.kind index count) _ N target.2 in
      let may = passed (may_move D G m.0 target.0 to to_index count ns.0) _ N ns.2 in
      let short = ruled_key_short s sound takes.Open D m.0 to_key target.0 target.1 in
      ended (intent_to_move D G (field_at m.0 to_key) target.0.kind to_index ns.0) N (moved_fit (field_at m.0 to_key) target.0.kind to_index ns.0 short) may.2

  clear_fit : (at : List Place) (key : Key) (N : Intent) → clear D s G at key ≡ Ok N → HasFitParts N
  clear_fit at key N e =
      let n = passed (walk D at) (λ n. and_then (rule_for takes.Optional D s n key) (λ _. Ok (record (empty_intent D G) { clear = field_at n key ∷ [] }))) N e in
      let r = passed (rule_for takes.Optional D s n.0 key) (λ _. Ok (record (empty_intent D G) { clear = field_at n.0 key ∷ [] })) N n.2 in
      let short = ruled_key_short s sound takes.Optional D n.0 key r.0 r.1 in
      ended (record (empty_intent D G) { clear = field_at n.0 key ∷ [] }) N (record { leaves = tt; puts = tt; clears = (short, tt) }) r.2

  pub need_fit : (at : List Place) (N : Intent) → need D G at ≡ Ok N → HasFitParts N
  need_fit at N e =
      let n = passed (walk D at) (λ n. Ok (record (empty_intent D G) { need = n ∷ [] })) N e in
      ended (record (empty_intent D G) { need = n.0 ∷ [] }) N (record { leaves = tt; puts = tt; clears = tt }) n.2

  pub edit_fit : (e : EditView) (N : Intent) → EditBringsShortLeaves e → intent_of D s G e ≡ Ok N → HasFitParts N
  edit_fit (step.insert at key index items) N short e = insert_fit at key index (nodes_of items) N short e
  edit_fit (step.remove at key index count) N short e = remove_fit at key index count N e
  edit_fit (step.move at key index count to to_key to_index) N short e = move_fit at key index count to to_key to_index N e
  edit_fit (step.set at key item) N short e = put_fit at key (first item no_nodes) N (short, tt) e
  edit_fit (step.clear at key) N short e = clear_fit at key N e
