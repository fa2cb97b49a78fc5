-- What is shown after a move: first without the moved nodes, and then with them where they come.
use Rattle.std.proofs.Common.{◌≡◌, ◌≢◌, ℕ, zero, suc, ◌+◌, ◌==◌, ◌≤◌, ◌&&◌, nat_le, Bool, true, false, cond, not, List, [], ◌∷◌, ◌++◌, map, take, drop, filter, length, take-append-drop, drop-drop, length-take-le, length-drop, Option, Some, None, IsSome, option_and_then, option_to_list, Ok, Err, refl, sym, ap, ◌∙◌, subst, arith, inl, inr, ◌⊎◌}
use Rattle.std.specs.List.{list_any}
use Rattle.std.specs.Option.{option_map_or}
use Rattle.std.proofs.lemmas.Bool.Decides.{nat_tests}
use Rattle.std.proofs.lemmas.List.{length-map}
use Rattle.serde_json.specs.Data.{Data}
use Rattle.st_ids.specs.Listing.{Has, AreDistinct}
use Rattle.st_ids.specs.Order.{same_node, same_field}
use Rattle.st_ids.specs.declared.names.FieldId.{FieldId}
use Rattle.st_ids.specs.declared.names.Key.{Key}
use Rattle.st_ids.specs.declared.names.NodeId.{NodeId}
use Rattle.st_ids.specs.declared.names.Place.{Place}
use Rattle.st_ids.proofs.Orders.{same_field-true, same_field-itself}
use Rattle.st_tree.specs.declared.edit.EditFault.TheVariants.{Inside, NoNode, Range}
use Rattle.st_schema.specs.Schema.{SchemaView, is_sound}
use Rattle.st_schema.specs.declared.names.FieldRule.{FieldRule}
use Rattle.st_schema.specs.declared.names.KindName.{KindName}
use Rattle.st_schema.specs.declared.names.KindName.TheVariants.{Required, Optional, Sequence}
use Rattle.st_marks.specs.declared.intents.Intent.{Intent}
use Rattle.st_marks.specs.declared.places.Slot.{Slot}
use Rattle.st_marks.specs.declared.places.Spot.{Spot}
use Rattle.st_marks.specs.declared.verdicts.Verdict.{Verdict}
use Rattle.st_marks.specs.Document.{Document, NodeType, IsSoundInForm, above, climb, content, node_of}
use Rattle.st_ids.specs.Root.{root}
use Rattle.st_marks.specs.Intent.{Fits}
use Rattle.st_marks.specs.CarryOut.{full}
use Rattle.st_marks.specs.Verdict.{IsVerdict}
use Rattle.st_marks.specs.LiveTree.{Shows, owners_shown, register, live_slots}
use Rattle.st_marks.proofs.Members.{has-any}
use Rattle.st_edits.specs.Paths.{nodes_below_path, child, field_at, items_from, nodes_on_path, row_length, or_refuse, walk_from}
use Rattle.st_ids.specs.Or.{and_then}
use Rattle.st_edits.specs.Resolve.{require, is_inside, is_there, may_move, move, intent_to_move, moved_to_field, moved_to_row, rule_for, nodes_taken, takes_kind, walk}
use Rattle.st_schema.specs.Kind.{is_row}
use Rattle.st_edits.specs.declared.names.NameCounters.{NameCounters}
use Rattle.st_edits.specs.declared.names.Takes.TheVariants as field
use Rattle.st_edits.proofs.Fits.{passed, or_refuse-Ok, has_take, has_drop}
use Rattle.st_edits.proofs.MoveFits.{CellsFresh, move_fits, asked}
use Rattle.st_schema_laws.specs.Alike.{IsFrom, AreAlikeAt}
use Rattle.st_schema_laws.specs.Edited.{TellsRows, at_path, same_key, with_items, without_items, without_key, is_row_key}
use Rattle.st_schema_laws.specs.Moved.{index_after, inside, moved_in, path_after, row_items, same_path, taken_from, taken_here, target_index, target_path, with_first_under, with_taken, without_taken}
use Rattle.st_schema_laws.specs.Typed.{IsAsTyped}
use Rattle.st_schema_laws.proofs.Along.{AreShown, along, child_up, kept_child, kept_items, kept_other, owners_live, owners_once}
use Rattle.st_schema_laws.proofs.Arrived.{field_verdict, held_after, held_there, node_there, nodes_there, row_elsewhere, row_here, row_verdict, rows_there}
use Rattle.st_schema_laws.proofs.AtNode.{items_come, items_left, member_comes, member_left}
use Rattle.st_schema_laws.proofs.Beneath.{in_row as stands_in_row, row_above, held_above}
use Rattle.st_schema_laws.proofs.Cleared.{other_register, same_register}
use Rattle.st_schema_laws.proofs.Gap.{cut_at}
use Rattle.st_schema_laws.proofs.Looked.{StandsAsTyped, member_seen, node_seen, row_seen, stands_typed}
use Rattle.st_schema_laws.proofs.Parted.{from_before, parted, parted_row, parted_sound, unless_among}
use Rattle.st_schema_laws.proofs.Removed.{items_in, taken_from as taken_part}
use Rattle.st_schema_laws.proofs.Rows.{among, filter_all, has-among, not-among, shown_drop, shown_take, without_part}
use Rattle.st_schema_laws.proofs.Ruled.{ruled_key, ruled_kind}
use Rattle.st_schema_laws.proofs.Ways.{one_path, path_same, walks, walks_after}
use Rattle.st_lemmas.proofs.Bools.{not-true, and-true, true-false}

-- ## What stands above the target

-- each node above the end of a path is on it, or above its beginning
on_path : (D : Document) → IsSoundInForm D → (path : List Place) (k : ℕ) (n m z : NodeId) (j : ℕ) → walk_from D k n path ≡ Ok m → climb (above D) j m ≡ Some z
    → Has (nodes_on_path D n path) z ⊎ ((i : ℕ) × (climb (above D) (suc i) n ≡ Some z))
on_path D sound [] k n m z zero e f = let same : n ≡ m = cc in let at : m ≡ z = cc in inl (inl (same ∙ at))
on_path D sound [] k n m z (suc j) e f = let same : n ≡ m = cc in inr (j, ap (climb (above D) (suc j)) same ∙ f)
on_path D sound (p ∷ ps) k n m z j e f =
    let x = passed (or_refuse (child D n p) (NoNode k)) (λ x. walk_from D (k + 1) x ps) m e in
    let c = or_refuse-Ok (child D n p) (NoNode k) x.0 x.1 in
    go x.0 c (child_up D sound n x.0 p c) (on_path D sound ps (k + 1) x.0 m z j x.2 f)
  where
    go : (x : NodeId) → child D n p ≡ Some x → above D x ≡ Some n → Has (nodes_on_path D x ps) z ⊎ ((i : ℕ) × (climb (above D) (suc i) x ≡ Some z)) → Has (nodes_on_path D n (p ∷ ps)) z ⊎ ((i : ℕ) × (climb (above D) (suc i) n ≡ Some z))
    go x c up (inl h) = inl (inr (subst (λ (o : Option NodeId). Has (elim o [ None ↦ [] | Some y ↦ y ∷ nodes_below_path D y ps ]) z) (sym c) h))
    go x c up (inr w) = later w.0 (ap (option_and_then (climb (above D) w.0)) (sym up) ∙ w.1)
      where
        later : (i : ℕ) → climb (above D) i n ≡ Some z → Has (nodes_on_path D n (p ∷ ps)) z ⊎ ((i : ℕ) × (climb (above D) (suc i) n ≡ Some z))
        later zero g = let same : n ≡ z = cc in inl (inl same)
        later (suc i) g = inr (i, g)

way_clear : (D : Document) (sound : IsSoundInForm D) (to : List Place) (m : NodeId) (ns : List NodeId) → walk D to ≡ Ok m → is_inside D to ns ≡ false → (z : NodeId) → IsFrom D z m → Has ns z → ⊥
way_clear D sound to m ns e out z w h = elim (on_path D sound to 0 root m z w.0 e w.1) [
  | inl i ↦ true-false (has-any (λ x. list_any (λ n. same_node n x) ns) (nodes_on_path D root to) z i (has-among ns z h)) out
  | inr v ↦ (let bad : None ≡ Some z = ap (λ s. option_and_then (climb (above D) v.0) (node_of s)) (sym sound.root_nowhere) ∙ v.1 in cc)
]

-- ## What is taken away

pub record Departs (is_array : List ℕ → Bool) (D : Document) (ns : List NodeId) (at : List Place) (key : Key) (index count : ℕ) (to : List Place) (m : NodeId) (d : Data) : Type 0 where
  pub without : Shows is_array (parted D ns) root (at_path at (without_taken key index count) d)
  pub way : walk (parted D ns) (target_path at key index count to) ≡ Ok m
  pub trees : AreShown is_array D ns (taken_from at key index count d)
  pub below : (x : NodeId) → Has ns x → (e : Data) → Shows is_array D x e → Shows is_array (parted D ns) x e
  pub many : length ns ≡ count
  pub cut : (i : ℕ) → (filter (λ x. not (among ns x)) (take i (owners_shown (content D m))) ≡ take (target_index at key index count to i) (owners_shown (content (parted D ns) m)))
      × (filter (λ x. not (among ns x)) (drop i (owners_shown (content D m))) ≡ drop (target_index at key index count to i) (owners_shown (content (parted D ns) m)))

-- where no item of a list is taken, it is cut as before
uncut : (ns xs ys : List NodeId) (i : ℕ) → ((x : NodeId) → Has xs x → Has ns x → ⊥) → ys ≡ xs → (filter (λ x. not (among ns x)) (take i xs) ≡ take i ys) × (filter (λ x. not (among ns x)) (drop i xs) ≡ drop i ys)
uncut ns xs ys i out same = (
  filter_all (λ x. not (among ns x)) (take i xs) (λ x h. ap not (not-among ns x (out x (has_take i xs x h)))) ∙ ap (take i) (sym same),
  filter_all (λ x. not (among ns x)) (drop i xs) (λ x h. ap not (not-among ns x (out x (has_drop i xs x h)))) ∙ ap (drop i) (sym same),
)

-- ### From a row

module _ (is_array : List ℕ → Bool) (D : Document) (sound : IsSoundInForm D) (typed : StandsAsTyped is_array D) (n m : NodeId) (at : List Place) (key : Key) (index count : ℕ) (to : List Place) (d : Data) (type : NodeType) (known : D.nodes n ≡ Some type)
    (rowed : is_array type.ty ≡ true) (row_key : is_row_key key ≡ true) (way : walk D at ≡ Ok n) (target_way : walk D to ≡ Ok m) (in_range : index + count ≤ row_length D n) (shows : Shows is_array D root d) where
  abbrev ns : List NodeId
  ns = items_from D n index count

  abbrev F : Document
  F = parted D ns

  abbrev xs : List NodeId
  xs = owners_shown (content D n)

  long : index + count ≤ length xs
  long =
      let a = length-map (live_slots D n) (λ (s : Slot). s.node) in
      let b : length xs ≡ length (map (λ (s : Slot). s.node) (live_slots D n)) = ap length (owners_live (content D n)) in
      omega (arith, a, b, in_range)

  part : ns ≡ take count (drop index xs)
  part = taken_part D n index count

  in_n : (x : NodeId) → Has ns x → Has xs x
  in_n = items_in D n index count

  not_elsewhere : (x y : NodeId) → x ≢ n → Has (owners_shown (content D x)) y → Has ns y → ⊥
  not_elsewhere x y apart h i =
      let a = stands_in_row D sound x y h in
      let b = stands_in_row D sound n y (in_n y i) in
      let q : Spot.Row x a.0 ≡ Spot.Row n b.0 = sym a.1 ∙ b.1 in
      let same : x ≡ n = cc in apart same

  row_stays : (x : NodeId) → x ≢ n → owners_shown (content F x) ≡ owners_shown (content D x)
  row_stays x apart = parted_row D ns sound x ∙ filter_all (λ y. not (among ns y)) (owners_shown (content D x)) (λ y h. ap not (not-among ns y (not_elsewhere x y apart h)))

  row_left : owners_shown (content F n) ≡ take index xs ++ drop (index + count) xs
  row_left = parted_row D ns sound n ∙ ap (λ l. filter (λ x. not (among l x)) xs) part ∙ without_part xs index count (owners_once D n sound)

  held_stays : (f : FieldId) → F.held f ≡ D.held f
  held_stays f = go (D.held f) refl
    where
      go : (o : Option NodeId) → D.held f ≡ o → unless_among ns o ≡ o
      go None e = refl
      go (Some y) e = ap (λ b. cond b None (Some y)) (not-among ns y (λ h.
          let b = stands_in_row D sound n y (in_n y h) in
          let bad : Spot.Row n b.0 ≡ Spot.Register f = sym b.1 ∙ (sound.one_held y f).0 e in cc))

  alike : (x : NodeId) → IsSome (D.nodes x) → x ≢ n → AreAlikeAt D F x
  alike x _ apart = record { node = λ t e. e; row = row_stays x apart; held = λ k. held_stays (register x k) }

  left_here : (e : Data) → Shows is_array D n e → Shows is_array F n (without_taken key index count e)
  left_here e s = subst (λ b. Shows is_array F n (cond b (without_items index count e) (without_key key.0 e))) (sym row_key) (items_left is_array D F sound n alike (λ t q. q) type known index count rowed row_left e s)

  parts : take index xs ++ (take count (drop index xs) ++ drop count (drop index xs)) ≡ xs
  parts = ap (λ ys. take index xs ++ ys) (take-append-drop count (drop index xs)) ∙ take-append-drop index xs

  left_length : length (take index xs) ≡ index
  left_length = length-take-le index xs (let l = long in omega (arith, l))

  middle_length : length (take count (drop index xs)) ≡ count
  middle_length = length-take-le count (drop index xs) (let l = length-drop index xs in let g = long in omega (arith, l, g))

  abbrev Cut : NodeId → ℕ → ℕ → Type 0
  Cut y i j = (filter (λ x. not (among ns x)) (take i (owners_shown (content D y))) ≡ take j (owners_shown (content F y))) × (filter (λ x. not (among ns x)) (drop i (owners_shown (content D y))) ≡ drop j (owners_shown (content F y)))

  cut_here : (i : ℕ) → Cut n i (index_after index count i)
  cut_here i =
      let a = take index xs in
      let b = take count (drop index xs) in
      let c = drop count (drop index xs) in
      let w = cut_at a b c (subst (AreDistinct (λ (x : NodeId). x)) (sym parts) (owners_once D n sound)) i in
      let j : index_after (length a) (length b) i ≡ index_after index count i = (λ t. index_after (left_length t) (middle_length t) i) in
      let left : owners_shown (content F n) ≡ a ++ c = row_left ∙ ap (λ ys. a ++ ys) (sym (drop-drop count index xs)) in (
        (λ t. filter (λ x. not (among (part t) x)) (take i (sym parts t))) ∙ w.0 ∙ (λ t. take (j t) (sym left t)),
        (λ t. filter (λ x. not (among (part t) x)) (drop i (sym parts t))) ∙ w.1 ∙ (λ t. drop (j t) (sym left t)),
      )

  cut_row : (i : ℕ) → Cut m i (target_index at key index count to i)
  cut_row i = subst (λ b. Cut m i (cond (b && same_path at to) (index_after index count i) i)) (sym row_key) (go (same_path at to) refl)
    where
      go : (b : Bool) → same_path at to ≡ b → Cut m i (cond b (index_after index count i) i)
      go true e =
          let both : Ok n ≡ Ok m = sym way ∙ ap (walk D) (path_same D sound at to e) ∙ target_way in
          let same : n ≡ m = cc in
          subst (λ y. Cut y i (index_after index count i)) same (cut_here i)
      go false e =
          let apart : m ≢ n = (λ same. true-false (one_path D sound 0 root n at to way (target_way ∙ ap (λ x. Ok x) same)) e) in
          uncut ns (owners_shown (content D m)) (owners_shown (content F m)) i (λ x h. not_elsewhere m x apart h) (row_stays m apart)

  trees_taken : AreShown is_array D ns (taken_from at key index count d)
  trees_taken =
      let e = node_seen is_array D typed at 0 root n d way shows in
      subst (AreShown is_array D ns)
      (sym (ap (λ o. option_map_or (taken_here key index count) o []) e.1 ∙ ap (λ b. cond b (take count (drop index (row_items e.0))) (option_to_list (Rattle.serde_json.specs.Find.get key.0 (inside e.0)))) row_key))
      (subst (λ l. AreShown is_array D l (take count (drop index (row_items e.0)))) (sym part)
      (shown_take is_array D count (drop index xs) (drop index (row_items e.0)) (shown_drop is_array D index xs (row_items e.0) (row_seen is_array D typed n e.0 e.2))))

  pub row_departs : (clear_way : (z : NodeId) → IsFrom D z m → Has ns z → ⊥) → Departs is_array D ns at key index count to m d
  row_departs clear_way = record {
    without = (along is_array D F sound n alike (without_taken key index count) left_here at 0 root way).1 d shows;
    way = ap (λ b. walk F (cond b (path_after at index count to) to)) row_key ∙ walks_after D ns sound m clear_way n index count long part row_left row_stays 0 root at to way target_way;
    trees = trees_taken;
    below = λ x h e s. kept_child is_array D F sound n alike x (row_above D sound n x (in_n x h)) e s;
    many = ap length part ∙ middle_length;
    cut = cut_row;
  }

-- ### From a field

module _ (is_array : List ℕ → Bool) (D : Document) (sound : IsSoundInForm D) (typed : StandsAsTyped is_array D) (n m x : NodeId) (at : List Place) (key : Key) (index count : ℕ) (to : List Place) (d : Data) (type : NodeType) (known : D.nodes n ≡ Some type)
    (unrowed : is_array type.ty ≡ false) (field_key : is_row_key key ≡ false) (way : walk D at ≡ Ok n) (target_way : walk D to ≡ Ok m) (one : count ≡ 1) (at_field : D.held (field_at n key) ≡ Some x) (shows : Shows is_array D root d) where
  abbrev one_node : List NodeId
  one_node = x ∷ []

  abbrev B : Document
  B = parted D one_node

  not_in_row : (y z : NodeId) → Has (owners_shown (content D y)) z → Has one_node z → ⊥
  not_in_row y z h (inl q) =
      let b = stands_in_row D sound y z h in
      let bad : Spot.Row y b.0 ≡ Spot.Register (field_at n key) = sym b.1 ∙ ap D.place (sym q) ∙ (sound.one_held x (field_at n key)).0 at_field in cc
  not_in_row y z h (inr k) = absurd k

  all_rows : (y : NodeId) → owners_shown (content B y) ≡ owners_shown (content D y)
  all_rows y = parted_row D one_node sound y ∙ filter_all (λ z. not (among one_node z)) (owners_shown (content D y)) (λ z h. ap not (not-among one_node z (not_in_row y z h)))

  held_left : (f : FieldId) → B.held f ≡ cond (same_field (field_at n key) f) None (D.held f)
  held_left f = go (same_field (field_at n key) f) refl (D.held f) refl
    where
      go : (b : Bool) → same_field (field_at n key) f ≡ b → (o : Option NodeId) → D.held f ≡ o → unless_among one_node o ≡ cond b None o
      go true e None q = refl
      go false e None q = refl
      go true e (Some y) q =
          let both : Some y ≡ Some x = sym q ∙ ap D.held (sym (same_field-true (field_at n key) f e)) ∙ at_field in
          let same : x ≡ y = cc in
          ap (λ b. cond b None (Some y)) (has-among one_node y (inl same))
      go false e (Some y) q = ap (λ b. cond b None (Some y)) (not-among one_node y (λ h. elim h [
        | inl same ↦ (let place : Spot.Register (field_at n key) ≡ Spot.Register f = sym ((sound.one_held x (field_at n key)).0 at_field) ∙ ap D.place same ∙ (sound.one_held y f).0 q in
            let fields : field_at n key ≡ f = cc in
            true-false (same_field-itself (field_at n key)) (ap (same_field (field_at n key)) fields ∙ e))
        | inr k ↦ k
      ]))

  alike_field : (y : NodeId) → IsSome (D.nodes y) → y ≢ n → AreAlikeAt D B y
  alike_field y _ apart = record {
    node = λ t e. e;
    row = all_rows y;
    held = λ k. held_left (register y k) ∙ ap (λ b. cond b None (D.held (register y k))) (other_register n y key.0 k apart);
  }

  field_left : (e : Data) → Shows is_array D n e → Shows is_array B n (without_taken key index count e)
  field_left e s =
      subst (λ b. Shows is_array B n (cond b (without_items index count e) (without_key key.0 e))) (sym field_key)
      (member_left is_array D B sound n alike_field (λ t q. q) type known key.0 unrowed (λ k. held_left (register n k) ∙ ap (λ b. cond b None (D.held (register n k))) (same_register n key.0 k)) e s)

  pub field_departs : (clear_way : (z : NodeId) → IsFrom D z m → Has one_node z → ⊥) → Departs is_array D one_node at key index count to m d
  field_departs clear_way = record {
    without = (along is_array D B sound n alike_field (without_taken key index count) field_left at 0 root way).1 d shows;
    way = ap (λ b. walk B (cond b (path_after at index count to) to)) field_key ∙ walks D one_node sound m clear_way (λ y. Unit {0}) (λ y z _ _. tt) (λ y _. all_rows y) 0 root to tt target_way;
    trees = (let e = node_seen is_array D typed at 0 root n d way shows in
        let c = member_seen is_array D typed n e.0 e.2 key.0 x at_field in
        subst (AreShown is_array D one_node)
        (sym (ap (λ o. option_map_or (taken_here key index count) o []) e.1 ∙ ap (λ b. cond b (take count (drop index (row_items e.0))) (option_to_list (Rattle.serde_json.specs.Find.get key.0 (inside e.0)))) field_key
        ∙ ap option_to_list c.1)) (c.2, tt));
    below = λ y h e s. kept_child is_array D B sound n alike_field y (elim h [ inl q ↦ ap (above D) (sym q) ∙ held_above D sound n x key.0 at_field | inr k ↦ absurd k ]) e s;
    many = sym one;
    cut = λ i. (subst (λ j. (filter (λ z. not (among one_node z)) (take i (owners_shown (content D m))) ≡ take j (owners_shown (content B m))) × (filter (λ z. not (among one_node z)) (drop i (owners_shown (content D m))) ≡ drop j (owners_shown (content B m))))
        (sym (ap (λ b. cond (b && same_path at to) (index_after index count i) i) field_key)) (uncut one_node (owners_shown (content D m)) (owners_shown (content B m)) i (λ z h. not_in_row m z h) (all_rows m)));
  }

-- ## What comes

module _ (is_array : List ℕ → Bool) (D : Document) (sound : IsSoundInForm D) (ns : List NodeId) (m : NodeId) (clear_way : (z : NodeId) → IsFrom D z m → Has ns z → ⊥) (at : List Place) (key : Key) (index count : ℕ) (to : List Place) (to_key : Key) (to_index : ℕ)
    (d : Data) (w : Departs is_array D ns at key index count to m d) (type : NodeType) (known : D.nodes m ≡ Some type) where
  abbrev A : Document
  A = parted D ns

  safe : IsSoundInForm A
  safe = parted_sound D ns sound

  abbrev trees : List Data
  trees = taken_from at key index count d

  module _ (E : Document) (nodes : (x : NodeId) → E.nodes x ≡ A.nodes x) (rows : (x : NodeId) → x ≢ m → owners_shown (content E x) ≡ owners_shown (content A x)) (held : (f : FieldId) → f.node ≢ m → E.held f ≡ A.held f) where
    alike_after : (x : NodeId) → IsSome (A.nodes x) → x ≢ m → AreAlikeAt A E x
    alike_after x _ apart = record { node = λ t e. nodes x ∙ e; row = rows x apart; held = λ k. held (register x k) apart }

    trees_come : AreShown is_array E ns trees
    trees_come = kept_items is_array D E ns trees w.trees (λ x h e s. kept_other is_array A E safe m alike_after x (λ v. clear_way x (v.0, from_before D ns sound v.0 m x v.1) h) e (w.below x h e s))

    come : ((e : Data) → Shows is_array A m e → Shows is_array E m (with_taken to_key (target_index at key index count to to_index) trees e)) → Shows is_array E root (moved_in at key index count to to_key to_index d)
    come here = (along is_array A E safe m alike_after (with_taken to_key (target_index at key index count to to_index) trees) here (target_path at key index count to) 0 root w.way).1 (at_path at (without_taken key index count) d) w.without

    pub into_row : is_array type.ty ≡ true → is_row_key to_key ≡ true
        → owners_shown (content E m) ≡ filter (λ x. not (among ns x)) (take to_index (owners_shown (content D m))) ++ (ns ++ filter (λ x. not (among ns x)) (drop to_index (owners_shown (content D m))))
        → Shows is_array E root (moved_in at key index count to to_key to_index d)
    into_row rowed row_key row =
        come (λ e s. subst (λ b. Shows is_array E m (cond b (with_items (target_index at key index count to to_index) trees e) (with_first_under to_key.0 trees e))) (sym row_key)
        (items_come is_array A E safe m alike_after (λ t q. nodes m ∙ q) type known (target_index at key index count to to_index) ns trees rowed (row ∙ (λ t. (w.cut to_index).0 t ++ (ns ++ (w.cut to_index).1 t))) trees_come e s))

    pub into_field : (x : NodeId) → ns ≡ x ∷ [] → is_array type.ty ≡ false → is_row_key to_key ≡ false → ((k : List ℕ) → E.held (register m k) ≡ cond (same_key k to_key.0) (Some x) (A.held (register m k)))
        → Shows is_array E root (moved_in at key index count to to_key to_index d)
    into_field x is unrowed field_key held_here =
        come (λ e s. subst (λ b. Shows is_array E m (cond b (with_items (target_index at key index count to to_index) trees e) (with_first_under to_key.0 trees e))) (sym field_key)
        (first_comes trees (subst (λ l. AreShown is_array E l trees) is trees_come) e s))
      where
        first_comes : (ts : List Data) → AreShown is_array E (x ∷ []) ts → (e : Data) → Shows is_array A m e → Shows is_array E m (with_first_under to_key.0 ts e)
        first_comes [] h e s = absurd h
        first_comes (t ∷ ts) h e s = member_comes is_array A E safe m alike_after (λ t q. nodes m ∙ q) type known to_key.0 x t unrowed h.0 held_here e s

-- ## A move

single : (ns : List NodeId) (k : ℕ) → length ns ≡ k → k ≡ 1 → (x : NodeId) × (ns ≡ x ∷ [])
single [] k e f = absurd (omega (arith, e, f))
single (x ∷ []) k e f = (x, refl)
single (x ∷ (y ∷ ns)) k e f = absurd (omega (arith, e, f))

pub record IsMove (D : Document) (s : SchemaView) (G : NameCounters) (at : List Place) (key : Key) (index count : ℕ) (to : List Place) (to_key : Key) (to_index : ℕ) (N : Intent) : Type 0 where
  pub node : NodeId
  pub way : walk D at ≡ Ok node
  pub target : NodeId
  pub target_way : walk D to ≡ Ok target
  pub source_rule : FieldRule
  pub source_ruled : rule_for field.Open D s node key ≡ Ok source_rule
  pub target_rule : FieldRule
  pub target_ruled : rule_for field.Open D s target to_key ≡ Ok target_rule
  pub nodes : List NodeId
  pub taken_nodes : nodes_taken D (field_at node key) source_rule.kind index count ≡ Ok nodes
  pub there_is : is_there D target target_rule.kind to_index count ≡ true
  pub outside : is_inside D to nodes ≡ false
  pub intent : intent_to_move D G (field_at target to_key) target_rule.kind to_index nodes ≡ N

pub is_move : (D : Document) (s : SchemaView) (G : NameCounters) (at : List Place) (key : Key) (index count : ℕ) (to : List Place) (to_key : Key) (to_index : ℕ) (N : Intent) → move D s G at key index count to to_key to_index ≡ Ok N
    → IsMove D s G at key index count to to_key to_index N
is_move D s G at key index count to to_key to_index N e =
    let n = passed (walk D at) _ N e in
    let m = passed (walk D to) _ N n.2 in
    let source = passed (rule_for field.Open D s n.0 key) _ N m.2 in
    let target = passed (rule_for field.Open D s m.0 to_key) _ N source.2 in
    let ns = passed (nodes_taken D (field_at n.0 key) source.0.kind index count) _ N target.2 in
    let may = passed (may_move D G m.0 target.0 to to_index count ns.0) _ N ns.2 in
    let range = passed (require (is_there D m.0 target.0.kind to_index count) Range) _ may.0 may.1 in
    let inside_not = passed (require (not (is_inside D to ns.0)) Inside) _ may.0 range.2 in
    let is : intent_to_move D G (field_at m.0 to_key) target.0.kind to_index ns.0 ≡ N = cc in
    record {
      node = n.0;
      way = n.1;
      target = m.0;
      target_way = m.1;
      source_rule = source.0;
      source_ruled = source.1;
      target_rule = target.0;
      target_ruled = target.1;
      nodes = ns.0;
      taken_nodes = ns.1;
      there_is = asked (is_there D m.0 target.0.kind to_index count) Range range.0 range.1;
      outside = not-true (is_inside D to ns.0) (asked (not (is_inside D to ns.0)) Inside inside_not.0 inside_not.1);
      intent = is;
    }

module _ (D : Document) (s : SchemaView) (G : NameCounters) (at : List Place) (key : Key) (index count : ℕ) (to : List Place) (to_key : Key) (to_index : ℕ) (N : Intent) (sound : IsSoundInForm D) (schema : is_sound s ≡ true) (cells : CellsFresh D G)
    (e : move D s G at key index count to to_key to_index ≡ Ok N) where
  w : IsMove D s G at key index count to to_key to_index N
  w = is_move D s G at key index count to to_key to_index N e

  clear : (z : NodeId) → IsFrom D z w.target → Has w.nodes z → ⊥
  clear = way_clear D sound to w.target w.nodes w.target_way w.outside

  many_taken : (k : KindName) → nodes_taken D (field_at w.node key) k index count ≡ Ok w.nodes → length w.nodes ≡ count
  many_taken Required f = cc
  many_taken Optional f = go (index == 0 && count == 1) refl f
    where
      go : (b : Bool) → (index == 0 && count == 1) ≡ b → cond b (and_then (or_refuse (D.held (field_at w.node key)) Range) (λ (n : NodeId). Ok (n ∷ []))) (Err Range) ≡ Ok w.nodes → length w.nodes ≡ count
      go false h g = cc
      go true h g =
          let x = passed (or_refuse (D.held (field_at w.node key)) Range) (λ (n : NodeId). Ok (n ∷ [])) w.nodes g in
          let is : x.0 ∷ [] ≡ w.nodes = cc in
          let test = (and-true (index == 0) (count == 1) h).1 in
          let one : count ≡ 1 = grind (arith, nat_tests) in
          ap length (sym is) ∙ sym one
  many_taken Sequence f = go (nat_le (index + count) (row_length D w.node)) refl f
    where
      go : (b : Bool) → nat_le (index + count) (row_length D w.node) ≡ b → cond b (Ok (items_from D w.node index count)) (Err Range) ≡ Ok w.nodes → length w.nodes ≡ count
      go false h g = cc
      go true h g =
          let le : index + count ≤ row_length D w.node = grind (arith, nat_tests) in
          let is : items_from D w.node index count ≡ w.nodes = cc in
          let a = length-map (take count (drop index (live_slots D w.node))) (λ (s : Slot). s.node) in
          let b = length-drop index (live_slots D w.node) in
          let c = length-take-le count (drop index (live_slots D w.node)) (omega (arith, b, le)) in
          ap length (sym is) ∙ a ∙ c

  fits : Fits D (intent_to_move D G (field_at w.target to_key) w.target_rule.kind to_index w.nodes)
  fits = subst (Fits D) (sym w.intent) (move_fits D s G at key index count to to_key to_index N sound schema cells e)

  one_there : w.target_rule.kind ≡ Optional → count ≡ 1
  one_there q =
      let both = and-true (to_index == 0) (count == 1) (ap (λ k. is_there D w.target k to_index count) (sym q) ∙ w.there_is) in
      let test = both.1 in
      grind (arith, nat_tests)

  row_there : w.target_rule.kind ≡ Sequence → to_index ≤ row_length D w.target
  row_there q = let test : nat_le to_index (row_length D w.target) ≡ true = ap (λ k. is_there D w.target k to_index count) (sym q) ∙ w.there_is in grind (arith, nat_tests)

  none_required : w.target_rule.kind ≡ Required → ⊥
  none_required q = let bad : false ≡ true = ap (λ k. is_there D w.target k to_index count) (sym q) ∙ w.there_is in cc

  fits_at : (k : KindName) → w.target_rule.kind ≡ k → Fits D (intent_to_move D G (field_at w.target to_key) k to_index w.nodes)
  fits_at k q = subst (λ k. Fits D (intent_to_move D G (field_at w.target to_key) k to_index w.nodes)) q fits

  is_at : (k : KindName) → w.target_rule.kind ≡ k → intent_to_move D G (field_at w.target to_key) k to_index w.nodes ≡ N
  is_at k q = ap (λ k. intent_to_move D G (field_at w.target to_key) k to_index w.nodes) (sym q) ∙ w.intent

  pub move_verdict : IsVerdict D N Verdict.Sound
  move_verdict = go w.target_rule.kind refl
    where
      go : (k : KindName) → w.target_rule.kind ≡ k → IsVerdict D N Verdict.Sound
      go Required q = absurd (none_required q)
      go Sequence q = subst (λ N. IsVerdict D N Verdict.Sound) (is_at Sequence q) (row_verdict D G w.target to_index w.nodes sound (fits_at Sequence q) (row_there q) clear)
      go Optional q =
          let x = single w.nodes count (many_taken w.source_rule.kind w.taken_nodes) (one_there q) in
          subst (λ N. IsVerdict D N Verdict.Sound) (ap (moved_to_field D G (field_at w.target to_key)) (sym x.1) ∙ is_at Optional q)
          (field_verdict D G (field_at w.target to_key) x.0 sound (λ z v h. clear z v (subst (λ l. Has l z) (sym x.1) h)))

  module _ (is_array : List ℕ → Bool) (tells : TellsRows is_array s) (as_typed : IsAsTyped is_array D) (d : Data) (shows : Shows is_array D root d) where
    typed : StandsAsTyped is_array D
    typed = stands_typed is_array D sound as_typed

    abbrev Goes : List NodeId → Type 0
    Goes ns = Departs is_array D ns at key index count to w.target d

    departs : (k : KindName) → w.source_rule.kind ≡ k → nodes_taken D (field_at w.node key) k index count ≡ Ok w.nodes → Goes w.nodes
    departs Required q f = cc
    departs Optional q f = go (index == 0 && count == 1) refl f
      where
        t : (t : NodeType) × (D.nodes w.node ≡ Some t) × ((is_array : List ℕ → Bool) → is_sound s ≡ true → TellsRows is_array s → is_array t.ty ≡ is_row w.source_rule.kind) × (takes_kind field.Open w.source_rule.kind ≡ true)
        t = ruled_kind field.Open D s w.node key w.source_rule w.source_ruled

        go : (b : Bool) → (index == 0 && count == 1) ≡ b → cond b (and_then (or_refuse (D.held (field_at w.node key)) Range) (λ (n : NodeId). Ok (n ∷ []))) (Err Range) ≡ Ok w.nodes → Goes w.nodes
        go false h g = cc
        go true h g =
            let x = passed (or_refuse (D.held (field_at w.node key)) Range) (λ (n : NodeId). Ok (n ∷ [])) w.nodes g in
            let is : x.0 ∷ [] ≡ w.nodes = cc in
            let test = (and-true (index == 0) (count == 1) h).1 in
            let one : count ≡ 1 = grind (arith, nat_tests) in
            subst Goes is
            (field_departs is_array D sound typed w.node w.target x.0 at key index count to d t.0 t.1 (t.2 is_array schema tells ∙ ap is_row q) (ruled_key field.Open D s w.node key w.source_rule schema w.source_ruled ∙ ap is_row q) w.way w.target_way
            one (or_refuse-Ok (D.held (field_at w.node key)) Range x.0 x.1) shows (λ z v i. clear z v (subst (λ l. Has l z) is i)))
    departs Sequence q f = go (nat_le (index + count) (row_length D w.node)) refl f
      where
        t : (t : NodeType) × (D.nodes w.node ≡ Some t) × ((is_array : List ℕ → Bool) → is_sound s ≡ true → TellsRows is_array s → is_array t.ty ≡ is_row w.source_rule.kind) × (takes_kind field.Open w.source_rule.kind ≡ true)
        t = ruled_kind field.Open D s w.node key w.source_rule w.source_ruled

        go : (b : Bool) → nat_le (index + count) (row_length D w.node) ≡ b → cond b (Ok (items_from D w.node index count)) (Err Range) ≡ Ok w.nodes → Goes w.nodes
        go false h g = cc
        go true h g =
            let le : index + count ≤ row_length D w.node = grind (arith, nat_tests) in
            let is : items_from D w.node index count ≡ w.nodes = cc in
            subst Goes is
            (row_departs is_array D sound typed w.node w.target at key index count to d t.0 t.1 (t.2 is_array schema tells ∙ ap is_row q) (ruled_key field.Open D s w.node key w.source_rule schema w.source_ruled ∙ ap is_row q) w.way w.target_way
            le shows (λ z v i. clear z v (subst (λ l. Has l z) is i)))

    pub move_seen : Shows is_array (full D N) root (moved_in at key index count to to_key to_index d)
    move_seen = go w.target_rule.kind refl
      where
        target_of : Goes w.nodes
        target_of = departs w.source_rule.kind refl w.taken_nodes

        t : (t : NodeType) × (D.nodes w.target ≡ Some t) × ((is_array : List ℕ → Bool) → is_sound s ≡ true → TellsRows is_array s → is_array t.ty ≡ is_row w.target_rule.kind) × (takes_kind field.Open w.target_rule.kind ≡ true)
        t = ruled_kind field.Open D s w.target to_key w.target_rule w.target_ruled

        go : (k : KindName) → w.target_rule.kind ≡ k → Shows is_array (full D N) root (moved_in at key index count to to_key to_index d)
        go Required q = absurd (none_required q)
        go Sequence q =
            subst (λ N. Shows is_array (full D N) root (moved_in at key index count to to_key to_index d)) (is_at Sequence q)
            (into_row is_array D sound w.nodes w.target clear at key index count to to_key to_index d target_of t.0 t.1 (full D (moved_to_row D G w.target to_index w.nodes))
            (node_there D G w.target to_index w.nodes sound (fits_at Sequence q) (row_there q)) (row_elsewhere D G w.target to_index w.nodes sound (fits_at Sequence q) (row_there q))
            (λ f _. held_there D G w.target to_index w.nodes sound (fits_at Sequence q) (row_there q) f) (t.2 is_array schema tells ∙ ap is_row q) (ruled_key field.Open D s w.target to_key w.target_rule schema w.target_ruled ∙ ap is_row q)
            (row_here D G w.target to_index w.nodes sound (fits_at Sequence q) (row_there q)))
        go Optional q =
            let x = single w.nodes count (many_taken w.source_rule.kind w.taken_nodes) (one_there q) in
            let g = field_at w.target to_key in
            subst (λ N. Shows is_array (full D N) root (moved_in at key index count to to_key to_index d)) (ap (moved_to_field D G g) (sym x.1) ∙ is_at Optional q)
            (into_field is_array D sound (x.0 ∷ []) w.target (λ z v h. clear z v (subst (λ l. Has l z) (sym x.1) h)) at key index count to to_key to_index d (subst Goes x.1 target_of) t.0 t.1 (full D (moved_to_field D G g (x.0 ∷ [])))
            (nodes_there D G g x.0 sound) (λ y _. rows_there D G g x.0 sound y)
            (λ f apart. held_after D G g x.0 sound f ∙ ap (λ b. cond b (Some x.0) ((parted D (x.0 ∷ [])).held f)) (other_register f.node w.target f.key.0 to_key.0 (λ same. apart (sym same))))
            x.0 refl (t.2 is_array schema tells ∙ ap is_row q) (ruled_key field.Open D s w.target to_key w.target_rule schema w.target_ruled ∙ ap is_row q)
            (λ k. held_after D G g x.0 sound (register w.target k) ∙ ap (λ b. cond b (Some x.0) ((parted D (x.0 ∷ [])).held (register w.target k))) (same_register w.target k to_key.0)))
