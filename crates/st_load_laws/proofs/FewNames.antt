-- An edit of a load makes at most two names: those of one text and its cell, or of the cell of one item that is moved.
use Rattle.std.proofs.Common.{◌≡◌, ◌≤◌, ◌+◌, ◌==◌, ◌&&◌, nat_le, ℕ, suc, Bool, true, false, cond, List, [], ◌∷◌, append-nil, length, take, drop, Option, Result, Ok, Err, refl, sym, ap, ◌∙◌, subst, arith}
use Rattle.std.proofs.lemmas.List.{length-map, length-take}
use Rattle.st_ids.specs.Or.{and_then}
use Rattle.st_ids.specs.declared.names.CellId.{CellId}
use Rattle.st_ids.specs.declared.names.FieldId.{FieldId}
use Rattle.st_ids.specs.declared.names.Key.{Key}
use Rattle.st_ids.specs.declared.names.NodeId.{NodeId}
use Rattle.st_ids.specs.declared.names.Place.{Place}
use Rattle.st_ids.specs.declared.names.Rev.{Rev}
use Rattle.st_tree.specs.Node.{first, no_nodes}
use Rattle.st_tree.specs.declared.edit.EditFault.{EditFault}
use Rattle.st_tree.specs.declared.edit.EditFault.TheVariants.{Range}
use Rattle.st_marks.specs.Document.{Document}
use Rattle.st_marks.specs.Intent.{group_cells}
use Rattle.st_marks.specs.LiveTree.{live_slots}
use Rattle.st_marks.specs.declared.intents.Intent.{Intent}
use Rattle.st_marks.specs.declared.intents.Owned.{Owned}
use Rattle.st_marks.specs.declared.places.Slot.{Slot}
use Rattle.st_schema.specs.Schema.{SchemaView}
use Rattle.st_schema.specs.declared.names.KindName.{KindName}
use Rattle.st_schema.specs.declared.names.KindName.TheVariants.{Required, Optional, Sequence}
use Rattle.st_edits.specs.Paths.{field_at, items_from, left_of, or_refuse, row_length}
use Rattle.st_edits.specs.Resolve.{allowed_nodes, cells_for, in_cells, insert, intent_to_insert, intent_to_move, intent_to_remove, may_move, move, named_nodes, names_left, nodes_taken, remove, require, rule_for, trees_allowed, walk, within_row}
use Rattle.st_edits.specs.New.{names_taken}
use Rattle.st_edits.specs.declared.names.NameCounters.{NameCounters}
use Rattle.st_edits.specs.declared.names.Takes.TheVariants as field
use Rattle.st_lists.specs.Names.{names_made}
use Rattle.st_work.specs.Generator.{text_item}

passed : {A B : Type 0} (r : Result A EditFault) (next : A → Result B EditFault) (y : B) → and_then r next ≡ Ok y → (x : A) × (r ≡ Ok x) × (next x ≡ Ok y)
passed (Err e) next y h = cc
passed (Ok x) next y h = (x, refl, h)

abbrev fine : {A : Type 0} → A → Result A EditFault
fine x = Ok x

ok_is : {A : Type 0} (x y : A) → fine x ≡ fine y → x ≡ y
ok_is x y e = cc

-- ## One text

insert_two : (D : Document) (G : NameCounters) (n : NodeId) (index m : ℕ) → names_made (intent_to_insert D G n index (named_nodes G (first (text_item m) no_nodes))) ≡ 2
insert_two D G n index m = refl

pub insert_few : (D : Document) (s : SchemaView) (G : NameCounters) (at : List Place) (key : Key) (index m : ℕ) (N : Intent)
    → insert D s G at key index (first (text_item m) no_nodes) ≡ Ok N → names_made N ≤ 2
insert_few D s G at key index m N e =
    let n = passed (walk D at) _ N e in
    let rule = passed (rule_for field.Row D s n.0 key) _ N n.2 in
    let there = passed (require (nat_le index (row_length D n.0)) Range) _ N rule.2 in
    let xs = passed (allowed_nodes s G rule.0 (first (text_item m) no_nodes)) _ N there.2 in
    let u = passed (trees_allowed s rule.0 (first (text_item m) no_nodes)) _ xs.0 xs.1 in
    let v = passed (names_left G (names_taken (named_nodes G (first (text_item m) no_nodes)))) _ xs.0 u.2 in
    let same : named_nodes G (first (text_item m) no_nodes) ≡ xs.0 = ok_is (named_nodes G (first (text_item m) no_nodes)) xs.0 v.2 in
    let is : intent_to_insert D G n.0 index xs.0 ≡ N = ok_is (intent_to_insert D G n.0 index xs.0) N xs.2 in
    let two : names_made N ≡ 2 = ap names_made (sym is) ∙ ap (λ ys. names_made (intent_to_insert D G n.0 index ys)) (sym same) ∙ insert_two D G n.0 index m in
    omega (arith, two)

-- ## Items that go nowhere

pub remove_few : (D : Document) (s : SchemaView) (G : NameCounters) (at : List Place) (key : Key) (index count : ℕ) (N : Intent)
    → remove D s G at key index count ≡ Ok N → names_made N ≤ 2
remove_few D s G at key index count N e =
    let n = passed (walk D at) _ N e in
    let rule = passed (rule_for field.Row D s n.0 key) _ N n.2 in
    let ns = passed (within_row D n.0 index count) _ N rule.2 in
    let none : names_made N ≡ 0 = ap names_made (sym (ok_is (intent_to_remove D G ns.0) N ns.2)) in
    omega (arith, none)

-- ## One item that is moved

one_taken : (D : Document) (f : FieldId) (k : KindName) (index : ℕ) (ns : List NodeId) → nodes_taken D f k index 1 ≡ Ok ns → length ns ≤ 1
one_taken D f Required index ns e = cc
one_taken D f Optional index ns e = go (index == 0 && 1 == 1) e
  where
    go : (b : Bool) → cond b (and_then (or_refuse (D.held f) Range) (λ (n : NodeId). Ok (n ∷ []))) (Err Range) ≡ Ok ns → length ns ≤ 1
    go false g = cc
    go true g =
        let n = passed (or_refuse (D.held f) Range) (λ (n : NodeId). Ok (n ∷ [])) ns g in
        let one : length ns ≡ 1 = ap length (sym (ok_is (n.0 ∷ []) ns n.2)) in
        omega (arith, one)
one_taken D f Sequence index ns e = go (nat_le (index + 1) (row_length D f.node)) e
  where
    go : (b : Bool) → cond b (Ok (items_from D f.node index 1)) (Err Range) ≡ Ok ns → length ns ≤ 1
    go false g = cc
    go true g =
        let is : items_from D f.node index 1 ≡ ns = ok_is (items_from D f.node index 1) ns g in
        let many = ap length (sym is) ∙ length-map (take 1 (drop index (live_slots D f.node))) (λ (s : Slot). s.node) in
        let few = length-take 1 (drop index (live_slots D f.node)) in
        omega (arith, many, few)

cells_many : (rev : Rev) (c : ℕ) (ns : List NodeId) → length (cells_for rev c ns) ≡ length ns
cells_many rev c [] = refl
cells_many rev c (n ∷ ns) = ap suc (cells_many rev (c + 1) ns)

one_group : (m : NodeId) (after : Option CellId) (os : List Owned) (D : Document) (G : NameCounters) (index : ℕ) → after ≡ left_of D m index → length (group_cells (in_cells D G m index os)) ≡ length os
one_group m after [] D G index e = refl
one_group m after (o ∷ os) D G index e = ap length (append-nil (o ∷ os))

moved_few : (D : Document) (G : NameCounters) (f : FieldId) (k : KindName) (index : ℕ) (ns : List NodeId) → length ns ≤ 1 → names_made (intent_to_move D G f k index ns) ≤ 2
moved_few D G f Required index ns few = omega arith
moved_few D G f Optional index ns few = omega arith
moved_few D G f Sequence index ns few =
    let a = one_group f.node (left_of D f.node index) (cells_for G.rev G.cells ns) D G index refl in
    let b = cells_many G.rev G.cells ns in
    omega (arith, a, b, few)

pub move_few : (D : Document) (s : SchemaView) (G : NameCounters) (at : List Place) (key : Key) (index : ℕ) (to : List Place) (to_key : Key) (to_index : ℕ) (N : Intent)
    → move D s G at key index 1 to to_key to_index ≡ Ok N → names_made N ≤ 2
move_few D s G at key index to to_key to_index N e =
    let n = passed (walk D at) _ N e in
    let m = passed (walk D to) _ N n.2 in
    let source = passed (rule_for field.Open D s n.0 key) _ N m.2 in
    let target = passed (rule_for field.Open D s m.0 to_key) _ N source.2 in
    let ns = passed (nodes_taken D (field_at n.0 key) source.0.kind index 1) _ N target.2 in
    let may = passed (may_move D G m.0 target.0 to to_index 1 ns.0) _ N ns.2 in
    let few = moved_few D G (field_at m.0 to_key) target.0.kind to_index ns.0 (one_taken D (field_at n.0 key) source.0.kind index ns.0 ns.1) in
    subst (λ M. names_made M ≤ 2) (ok_is (intent_to_move D G (field_at m.0 to_key) target.0.kind to_index ns.0) N may.2) few
