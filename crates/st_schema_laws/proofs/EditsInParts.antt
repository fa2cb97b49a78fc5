-- What an edit means in a closed part it means in the whole document, and it is refused there as here.
use Rattle.std.proofs.Common.{◌≡◌, ◌==◌, ◌&&◌, ◌+◌, ℕ, zero, suc, nat_le, not, Bool, true, false, cond, List, [], ◌∷◌, map, length, take, drop, Some, None, Result, Ok, Err, option_map, option_and_then, slice_get, refl, sym, ap, ◌∙◌, subst, inl, inr}
use Rattle.std.specs.List.{list_any, position_from}
use Rattle.std.specs.Option.{option_map_or}
use Rattle.st_ids.specs.Listing.{Has}
use Rattle.st_ids.specs.Or.{and_then}
use Rattle.st_ids.specs.Order.{same_node}
use Rattle.st_ids.specs.Root.{opening, root}
use Rattle.st_ids.specs.declared.names.Key.{Key}
use Rattle.st_ids.specs.declared.names.NodeId.{NodeId}
use Rattle.st_ids.specs.declared.names.Place.{Place}
use Rattle.st_ids.specs.declared.names.Rev.{Rev}
use Rattle.st_tree.specs.Node.{Nodes, first, no_nodes, trees_view, view}
use Rattle.st_tree.specs.declared.edit.Edit.{Edit}
use Rattle.st_tree.specs.declared.edit.EditFault.{EditFault}
use Rattle.st_tree.specs.declared.edit.EditFault.TheVariants.{Inside, Kind, Range}
use Rattle.st_schema.specs.Schema.{SchemaView, field_of, is_among}
use Rattle.st_schema.specs.declared.names.FieldRule.{FieldRule}
use Rattle.st_schema.specs.declared.names.KindName.{KindName}
use Rattle.st_schema.specs.declared.names.KindName.TheVariants.{Required, Optional, Sequence}
use Rattle.st_marks.specs.declared.places.Slot.{Slot}
use Rattle.st_marks.specs.Document.{Document, IsSoundInForm, NodeType, revs}
use Rattle.st_edits.specs.New.{group_of, groups_under, top_cells}
use Rattle.st_edits.specs.Paths.{field_at, items_from, left_of, or_refuse, row_length}
use Rattle.st_edits.specs.Resolve.{allowed_nodes, cells_for, cells_taken, clear, empty_intent, has_type, insert, intent_to_insert, intent_to_move, intent_to_place, intent_to_remove, is_inside, is_there, may_move, move, move_to, moved_to_row, names_left, need, nodes_allowed, nodes_taken, none_refused, of_kind, put, remove, require, resolve, rule_for, takes_kind, walk, with_group, within_row}
use Rattle.st_edits.specs.declared.names.NameCounters.{NameCounters}
use Rattle.st_edits.specs.declared.names.Takes.{Takes}
use Rattle.st_edits.specs.declared.names.Takes.TheVariants as field
use Rattle.st_edits.proofs.Fits.{or_refuse-Ok, passed}
use Rattle.st_schema_laws.proofs.Beneath.{held_above, row_above}
use Rattle.st_schema_laws.proofs.Removed.{items_in}
use Rattle.st_part_laws.specs.Parts.{IsClosedBy, IsClosedInEffect, is_of_schemas, part_by, part_in_effect}
use Rattle.st_part_laws.proofs.Closed.{root_in_effect}
use Rattle.st_schema_laws.proofs.Live.{on_path_same, slots_same, walk_in, walk_same}

-- the same is done next with what was passed
next_same : {A B : Type 0} (r : Result A EditFault) (f g : A → Result B EditFault) → ((x : A) → r ≡ Ok x → f x ≡ g x) → and_then r f ≡ and_then r g
next_same (Err e) f g same = refl
next_same (Ok x) f g same = same x refl

position_same : {A : Type 0} (f g : A → Bool) (k : ℕ) (xs : List A) → ((x : A) → Has xs x → f x ≡ g x) → position_from f k xs ≡ position_from g k xs
position_same f g k [] same = refl
position_same f g k (x ∷ xs) same = λ i. cond (same x (inl refl) i) (Some k) (position_same f g (k + 1) xs (λ y h. same y (inr h)) i)

module _ (p : NodeId → Bool) (D : Document) (sound : IsSoundInForm D) (closed : IsClosedBy p D) (of_root : p root ≡ true) where
  abbrev P : Document
  P = part_by p D

  -- ## What is asked

  after_walk : {B : Type 0} (f g : NodeId → Result B EditFault) (at : List Place) → ((n : NodeId) → p n ≡ true → f n ≡ g n) → and_then (walk P at) f ≡ and_then (walk D at) g
  after_walk f g at same =
      ap (λ r. and_then r f) (walk_same p D sound closed 0 root at of_root)
      ∙ next_same (walk D at) f g (λ n e. same n (walk_in p D sound closed 0 root n at of_root e))

  rule_same : (takes : Takes) (s : SchemaView) (n : NodeId) (key : Key) → p n ≡ true → rule_for takes P s n key ≡ rule_for takes D s n key
  rule_same takes s n key e = ap (λ b. and_then (or_refuse (option_and_then (λ (t : NodeType). field_of s t.ty key.0) (cond b (D.nodes n) None)) Kind) (of_kind (takes_kind takes))) e

  left_same : (n : NodeId) (index : ℕ) → p n ≡ true → left_of P n index ≡ left_of D n index
  left_same n zero e = refl
  left_same n (suc j) e = ap (λ l. option_map (λ (s : Slot). s.cell) (slice_get l j)) (slots_same p D sound closed n e)

  length_same : (n : NodeId) → p n ≡ true → row_length P n ≡ row_length D n
  length_same n e = ap length (slots_same p D sound closed n e)

  within_same : (n : NodeId) (index count : ℕ) → p n ≡ true → within_row P n index count ≡ within_row D n index count
  within_same n index count e = ap (λ l. cond (nat_le (index + count) (length l)) (Ok (map (λ (s : Slot). s.node) (take count (drop index l)))) (Err Range)) (slots_same p D sound closed n e)

  -- ## What a move takes

  taken_same : (n : NodeId) (key : Key) (k : KindName) (index count : ℕ) → p n ≡ true → nodes_taken P (field_at n key) k index count ≡ nodes_taken D (field_at n key) k index count
  taken_same n key Required index count e = refl
  taken_same n key Optional index count e = ap (λ b. cond (index == 0 && count == 1) (and_then (or_refuse (cond b (D.held (field_at n key)) None) Range) (λ n. Ok (n ∷ []))) (Err Range)) e
  taken_same n key Sequence index count e = within_same n index count e

  pub taken_in : (n : NodeId) (key : Key) (k : KindName) (index count : ℕ) (ns : List NodeId) → nodes_taken D (field_at n key) k index count ≡ Ok ns → p n ≡ true → (x : NodeId) → Has ns x → p x ≡ true
  taken_in n key Required index count ns e here x h = cc
  taken_in n key Optional index count ns e here x h = go (index == 0 && count == 1) e
    where
      go : (b : Bool) → cond b (and_then (or_refuse (D.held (field_at n key)) Range) (λ (m : NodeId). Ok (m ∷ []))) (Err Range) ≡ Ok ns → p x ≡ true
      go false e = cc
      go true e =
          let m = passed (or_refuse (D.held (field_at n key)) Range) (λ (m : NodeId). Ok (m ∷ [])) ns e in
          let is : m.0 ∷ [] ≡ ns = cc in
          let up = closed m.0 n (held_above D sound n m.0 key.0 (or_refuse-Ok (D.held (field_at n key)) Range m.0 m.1)) in
          elim (subst (λ l. Has l x) (sym is) h) [ inl same ↦ ap p (sym same) ∙ up ∙ here | inr none ↦ absurd none ]
  taken_in n key Sequence index count ns e here x h = go (nat_le (index + count) (row_length D n)) e
    where
      go : (b : Bool) → cond b (Ok (items_from D n index count)) (Err Range) ≡ Ok ns → p x ≡ true
      go false e = cc
      go true e =
          let is : items_from D n index count ≡ ns = cc in
          closed x n (row_above D sound n x (items_in D n index count x (subst (λ l. Has l x) (sym is) h))) ∙ here

  -- ## Where a move goes

  there_same : (m : NodeId) (k : KindName) (index count : ℕ) → p m ≡ true → is_there P m k index count ≡ is_there D m k index count
  there_same m Required index count e = refl
  there_same m Optional index count e = refl
  there_same m Sequence index count e = ap (nat_le index) (length_same m e)

  type_same : (types : List (List ℕ)) (n : NodeId) → p n ≡ true → has_type P types n ≡ has_type D types n
  type_same types n e = ap (λ b. option_map_or (λ (t : NodeType). is_among t.ty types) (cond b (D.nodes n) None) false) e

  allowed_same : (rule : FieldRule) (ns : List NodeId) → ((n : NodeId) → Has ns n → p n ≡ true) → nodes_allowed P rule ns ≡ nodes_allowed D rule ns
  allowed_same rule ns all = ap none_refused (position_same (λ n. not (has_type P rule.types n)) (λ n. not (has_type D rule.types n)) 0 ns (λ n h. ap not (type_same rule.types n (all n h))))

  inside_same : (to : List Place) (ns : List NodeId) → is_inside P to ns ≡ is_inside D to ns
  inside_same to ns = ap (λ l. list_any (λ m. list_any (λ n. same_node n m) ns) (root ∷ l)) (on_path_same p D sound closed root to of_root)

  moved_same : (G : NameCounters) (m : NodeId) (key : Key) (k : KindName) (index : ℕ) (ns : List NodeId) → p m ≡ true → intent_to_move P G (field_at m key) k index ns ≡ intent_to_move D G (field_at m key) k index ns
  moved_same G m key Required index ns e = refl
  moved_same G m key Optional index ns e = refl
  moved_same G m key Sequence index ns e = ap (λ a. record (moved_to_row D G m index ns) { groups = with_group (group_of m a (cells_for G.rev G.cells ns)) [] }) (left_same m index e)

  may_same : (G : NameCounters) (m : NodeId) (target : FieldRule) (to : List Place) (index count : ℕ) (ns : List NodeId) → p m ≡ true → ((n : NodeId) → Has ns n → p n ≡ true) → may_move P G m target to index count ns ≡ may_move D G m target to index count ns
  may_same G m target to index count ns e all = λ i.
      and_then (require (there_same m target.kind index count e i) Range) (λ _.
      and_then (require (not (inside_same to ns i)) Inside) (λ _.
      and_then (allowed_same target ns all i) (λ _.
      names_left G (cells_taken target.kind ns))))

  -- ## Edits

  insert_same : (s : SchemaView) (G : NameCounters) (at : List Place) (key : Key) (index : ℕ) (trees : Nodes) → insert P s G at key index trees ≡ insert D s G at key index trees
  insert_same s G at key index trees = after_walk _ _ at (λ n e. λ i.
      and_then (rule_same field.Row s n key e i) (λ rule.
      and_then (require (nat_le index (length_same n e i)) Range) (λ _.
      and_then (allowed_nodes s G rule trees) (λ xs.
      Ok (record (intent_to_insert D G n index xs) { groups = with_group (group_of n (left_same n index e i) (top_cells xs)) (groups_under xs) })))))

  remove_same : (s : SchemaView) (G : NameCounters) (at : List Place) (key : Key) (index count : ℕ) → remove P s G at key index count ≡ remove D s G at key index count
  remove_same s G at key index count = after_walk _ _ at (λ n e. λ i.
      and_then (rule_same field.Row s n key e i) (λ _.
      and_then (within_same n index count e i) (λ ns.
      Ok (intent_to_remove D G ns))))

  move_same : (s : SchemaView) (G : NameCounters) (at : List Place) (key : Key) (index count : ℕ) (to : List Place) (to_key : Key) (to_index : ℕ) → move P s G at key index count to to_key to_index ≡ move D s G at key index count to to_key to_index
  move_same s G at key index count to to_key to_index = after_walk _ _ at (λ n e. after_walk _ _ to (λ m f.
      (λ i.
      and_then (rule_same field.Open s n key e i) (λ source.
      and_then (rule_same field.Open s m to_key f i) (λ target.
      and_then (taken_same n key source.kind index count e i) (λ ns.
      move_to P G (field_at m to_key) target to to_index count ns))))
      ∙ next_same (rule_for field.Open D s n key) _ _ (λ source _.
      next_same (rule_for field.Open D s m to_key) _ _ (λ target _.
      next_same (nodes_taken D (field_at n key) source.kind index count) _ _ (λ ns t. λ i.
      and_then (may_same G m target to to_index count ns f (taken_in n key source.kind index count ns t e) i) (λ _.
      Ok (moved_same G m to_key target.kind to_index ns f i)))))))

  put_same : (s : SchemaView) (G : NameCounters) (at : List Place) (key : Key) (trees : Nodes) → put P s G at key trees ≡ put D s G at key trees
  put_same s G at key trees = after_walk _ _ at (λ n e. λ i.
      and_then (rule_same field.Single s n key e i) (λ rule.
      and_then (allowed_nodes s G rule trees) (λ xs.
      Ok (intent_to_place D G (field_at n key) xs))))

  clear_same : (s : SchemaView) (G : NameCounters) (at : List Place) (key : Key) → clear P s G at key ≡ clear D s G at key
  clear_same s G at key = after_walk _ _ at (λ n e. λ i.
      and_then (rule_same field.Optional s n key e i) (λ _.
      Ok (record (empty_intent D G) { clear = field_at n key ∷ [] })))

  need_same : (G : NameCounters) (at : List Place) → need P G at ≡ need D G at
  need_same G at = after_walk _ _ at (λ n e. refl)

  pub resolves_same : (s : SchemaView) (G : NameCounters) (edit : Edit) → resolve (part_by p D) s G edit ≡ resolve D s G edit
  resolves_same s G (Edit.Insert at key index items) = insert_same s G at key index (trees_view items)
  resolves_same s G (Edit.Remove at key index count) = remove_same s G at key index count
  resolves_same s G (Edit.Move at key index count to to_key to_index) = move_same s G at key index count to to_key to_index
  resolves_same s G (Edit.Put at key item) = put_same s G at key (first (view item) no_nodes)
  resolves_same s G (Edit.Clear at key) = clear_same s G at key
  resolves_same s G (Edit.Need at) = need_same G at

pub resolves_in_effect : (under : Rev → Rev) (D : Document) (s : SchemaView) (G : NameCounters) (edit : Edit) → IsSoundInForm D → IsClosedInEffect under D → under opening ≡ opening → resolve (part_in_effect under D) s G edit ≡ resolve D s G edit
resolves_in_effect under D s G edit sound closed told = resolves_same (is_of_schemas under (revs D.schemas)) D sound closed (root_in_effect under D sound told) s G edit
