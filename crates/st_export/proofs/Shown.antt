-- What stands directly beneath a node in the tables of a document, and what a node shows by what those beneath it show.
use Rattle.std.proofs.Common.{◌≡◌, ◌≢◌, ◌+◌, slice_get, append_assoc, Result, Ok, Err, OnOk, ℕ, Bool, true, false, cond, List, [], ◌∷◌, ◌++◌, map, length, take, drop, Option, Some, None, is_some, refl, sym, ap, ◌∙◌, subst, option_map, suc}
use Rattle.std.specs.BTreeMap.{get, IsOrdered}
use Rattle.std.specs.List.{AllByRecursion}
use Rattle.std.specs.Ordering.{nat_cmp}
use Rattle.std.specs.Cmp.Lexicographic.{slice_cmp}
use Rattle.std.proofs.lemmas.List.{append-nil}
use Rattle.std.proofs.lemmas.Option.{get_or_from_slice_get, slice_get_within}
use Rattle.serde_json.specs.Data.{Data, array, object, Members}
use Rattle.serde_json.specs.View.{view, items_of}
use Rattle.serde_json.specs.declared.value.Value.{Value}
use Rattle.st_ids.specs.Listing.{AreDistinct, Has, IsListing}
use Rattle.st_ids.specs.Order.{field_cmp, node_cmp}
use Rattle.st_ids.specs.declared.names.Leaf.{Leaf}
use Rattle.st_ids.specs.declared.names.NodeId.{NodeId}
use Rattle.st_marks.specs.Document.{Document, IsSoundInForm, NodeType}
use Rattle.st_marks.specs.LiveTree.{Shows, ShowsItems, ShowsMembers, key_at, next_item, next_member, no_more_items, no_more_members, one_member, owners_shown, register, shows_registers, shows_row}
use Rattle.st_lemmas.proofs.FirstItems.{take_one}
use Rattle.st_marks.specs.declared.places.Slot.{Slot}
use Rattle.st_marks.proofs.Shared.{owners_append}
use Rattle.st_marks.proofs.Members.{all-has, has-all, has-map}
use Rattle.st_doc.specs.declared.seats.Seat.{Seat}
use Rattle.st_doc.specs.inside.LiveText.{seats_of}
use Rattle.st_doc.proofs.Children.{row_child, row_once, seat_child, seats_once}
use Rattle.st_doc.proofs.KeyOrder.{keys_found, keys_rise, keys_rising, seat_held}
use Rattle.st_forest.specs.Stands.{StandsFor, named}
use Rattle.st_forest.specs.declared.forest.Forest.{Forest}
use Rattle.st_forest.specs.declared.forest.Seated.{Seated}
use Rattle.st_marks.specs.declared.changes.NewNode.{NewNode}
use Rattle.st_export.specs.inside.Beneath.{AreBeneath, AreShown, beneath, inner}
use Rattle.st_export.specs.inside.Members.{members_with}

-- ## Lists

distinct_keys : {A K : Type 0} (key : A → K) (xs : List A) → AreDistinct key xs → AreDistinct (λ (k : K). k) (map key xs)
distinct_keys key [] a = tt
distinct_keys key (x ∷ xs) a = (
  has-all (λ k. k ≢ key x) (map key xs) (λ k h same. let t = has-map key xs k h in all-has (λ y. key y ≢ key x) xs t.0 a.0 t.1 (t.2 ∙ same)),
  distinct_keys key xs a.1,
)

-- nodes behind others as a row shows them, with one slot more
pub items_more : (row : List Slot) (i : ℕ) (s : Slot) (before now whole : List NodeId) → slice_get row i ≡ Some s → now ≡ before ++ cond s.full (s.node ∷ []) []
    → before ≡ whole ++ owners_shown (take i row) → now ≡ whole ++ owners_shown (take (i + 1) row)
items_more row i s before now whole at pushed so_far =
    pushed ∙ ap (λ l. l ++ one) so_far ∙ append_assoc whole (owners_shown (take i row)) one ∙ ap (λ l. whole ++ l) (sym more)
  where
    one : List NodeId
    one = cond s.full (s.node ∷ []) []

    more : owners_shown (take (i + 1) row) ≡ owners_shown (take i row) ++ one
    more =
        ap owners_shown (take_one row i s s (slice_get_within row i s at) (get_or_from_slice_get row i s s at)) ∙ owners_append (take i row) (s ∷ [])
        ∙ ap (λ l. owners_shown (take i row) ++ l) (append-nil one)

pub on_ok : {T E P Q : Type 0} (r : Result T E) → (P → Q) → OnOk r P → OnOk r Q
on_ok (Ok x) f p = f p
on_ok (Err e) f p = tt

-- ## What stands beneath

pub none_beneath : (D : Document) (n : NodeId) → AreBeneath D n []
none_beneath D n = record { once = tt; up = λ m h. absurd h }

module _ (F : Forest) (D : Document) (stands : StandsFor F D) where
  pub row_beneath : (n : NodeId) → IsSoundInForm D → AreBeneath D n (inner F n true)
  row_beneath n sound =
      let row = ap owners_shown (stands.rows n) in
      record {
        once = subst (AreDistinct (λ (m : NodeId). m)) (sym row) (row_once D sound n);
        up = λ m h. row_child D sound n m (subst (λ ms. Has ms m) row h);
      }

  -- a node's registers hold what the document says
  pub all_held : (n : NodeId) → IsOrdered field_cmp F.held → AllByRecursion (λ (s : Seat). D.held (register n s.key) ≡ Some s.node) (seats_of n F.held.entries)
  all_held n ordered =
      has-all (λ (s : Seat). D.held (register n s.key) ≡ Some s.node) (seats_of n F.held.entries)
      (λ s h. sym (stands.held (register n s.key)) ∙ all-has (λ (s : Seat). get field_cmp F.held (register n s.key) ≡ Some s.node) (seats_of n F.held.entries) s (seat_held n F.held.entries ordered) h)

  pub occupants_beneath : (n : NodeId) → IsOrdered field_cmp F.held → IsSoundInForm D → AreBeneath D n (inner F n false)
  occupants_beneath n ordered sound =
      let ss = seats_of n F.held.entries in
      let held = all_held n ordered in
      record {
        once = distinct_keys (λ (s : Seat). s.node) ss (seats_once D sound n ss (keys_rise n F.held.entries ordered) held);
        up = λ m h. (
            let t = has-map (λ (s : Seat). s.node) ss m h in
            seat_child D sound n m t.0.key (all-has (λ (s : Seat). D.held (register n s.key) ≡ Some s.node) ss t.0 held t.1 ∙ ap (λ x. Some x) t.2));
      }

  -- ## What is known of a node

  pub seated_known : (n : NodeId) (s : Seated) → get node_cmp F.nodes n ≡ Some s → D.nodes n ≡ Some (record { ty = s.node.ty; leaf = s.node.leaf })
  seated_known n s e = go (D.nodes n) (ap (option_map (λ (s : Seated). s.node)) (sym e) ∙ stands.nodes n)
    where
      go : (o : Option NodeType) → Some s.node ≡ option_map (named n) o → o ≡ Some (record { ty = s.node.ty; leaf = s.node.leaf })
      go None q = cc
      go (Some t) q = let same : s.node ≡ named n t = cc in ap (λ (m : NewNode). Some (record { ty = m.ty; leaf = m.leaf })) (sym same)

  pub unseated_unknown : (n : NodeId) → get node_cmp F.nodes n ≡ None → D.nodes n ≡ None
  unseated_unknown n e = go (D.nodes n) (ap (option_map (λ (s : Seated). s.node)) (sym e) ∙ stands.nodes n)
    where
      go : (o : Option NodeType) → None ≡ option_map (named n) o → o ≡ None
      go None q = refl
      go (Some t) q = cc

  pub keys_listed : (n : NodeId) → IsOrdered field_cmp F.held → IsListing (slice_cmp nat_cmp) (λ (k : List ℕ). k) (map (λ (s : Seat). s.key) (seats_of n F.held.entries)) (key_at D n)
  keys_listed n ordered = record {
    rising = keys_rising (seats_of n F.held.entries) (keys_rise n F.held.entries ordered);
    at_each = λ k. keys_found n F.held.entries k ∙ ap (λ o. cond (is_some o) (Some k) None) (stands.held (register n k));
  }

-- ## What is shown

module _ (is_array : List ℕ → Bool) (D : Document) where
  pub items_shown : (ns : List NodeId) (vs : List Value) → AreShown is_array D ns vs → ShowsItems is_array D ns (items_of (map view vs))
  items_shown [] [] h = no_more_items
  items_shown [] (v ∷ vs) h = absurd h
  items_shown (n ∷ ns) [] h = absurd h
  items_shown (n ∷ ns) (v ∷ vs) h = next_item n (view v) ns (items_of (map view vs)) h.0 (items_shown ns vs h.1)

  pub members_shown : (n : NodeId) (ss : List Seat) (vs : List Value) → AllByRecursion (λ (s : Seat). D.held (register n s.key) ≡ Some s.node) ss
      → AreShown is_array D (map (λ (s : Seat). s.node) ss) vs → ShowsMembers is_array D n (map (λ (s : Seat). s.key) ss) (members_with ss vs)
  members_shown n [] [] held h = no_more_members n
  members_shown n [] (v ∷ vs) held h = absurd h
  members_shown n (s ∷ ss) [] held h = absurd h
  members_shown n (s ∷ ss) (v ∷ vs) held h =
      next_member n s.node s.key (view v) (map (λ (s : Seat). s.key) ss) (members_with ss vs) held.0 h.0 (members_shown n ss vs held.1 h.1)

  shown_length : (ns : List NodeId) (vs : List Value) → AreShown is_array D ns vs → length vs ≡ length ns
  shown_length [] [] h = refl
  shown_length [] (v ∷ vs) h = absurd h
  shown_length (n ∷ ns) [] h = absurd h
  shown_length (n ∷ ns) (v ∷ vs) h = ap suc (shown_length ns vs h.1)

  pub shown_push : (ns : List NodeId) (vs : List Value) (n : NodeId) (v : Value) → AreShown is_array D ns vs → Shows is_array D n (view v) → AreShown is_array D (ns ++ n ∷ []) (vs ++ v ∷ [])
  shown_push [] [] n v h e = (e, tt)
  shown_push [] (w ∷ vs) n v h e = absurd h
  shown_push (m ∷ ns) [] n v h e = absurd h
  shown_push (m ∷ ns) (w ∷ vs) n v h e = (h.0, shown_push ns vs n v h.1 e)

  -- those of the first nodes, and those of the others
  pub shown_parts : (ns ms : List NodeId) (vs : List Value) → AreShown is_array D (ns ++ ms) vs → AreShown is_array D ns (take (length ns) vs) × AreShown is_array D ms (drop (length ns) vs)
  shown_parts [] ms vs h = (tt, h)
  shown_parts (n ∷ ns) ms [] h = absurd h
  shown_parts (n ∷ ns) ms (v ∷ vs) h = let rest = shown_parts ns ms vs h.1 in ((h.0, rest.0), rest.1)

-- ## One node

module _ (is_array : List ℕ → Bool) (F : Forest) (D : Document) (stands : StandsFor F D) (n : NodeId) (s : Seated) (at : get node_cmp F.nodes n ≡ Some s) (plain : s.node.leaf ≡ None) where
  known : D.nodes n ≡ Some (record { ty = s.node.ty; leaf = None })
  known = seated_known F D stands n s at ∙ ap (λ (l : Option Leaf). Some (record { ty = s.node.ty; leaf = l })) plain

  inner_shown : (b : Bool) → is_array s.node.ty ≡ b → (vs : List Value) → AreShown is_array D (beneath is_array F n) vs → AreShown is_array D (inner F n b) vs
  inner_shown b kind vs h = subst (λ ns. AreShown is_array D ns vs) opened h
    where
      opened : beneath is_array F n ≡ inner F n b
      opened = ap (Rattle.st_export.specs.inside.Beneath.beneath_seated is_array F n) at
          ∙ ap (λ l. Rattle.st_export.specs.inside.Beneath.unless_leaf l (inner F n (is_array s.node.ty))) plain ∙ ap (inner F n) kind

  pub row_shown : (vs : List Value) (inside d : Data) → is_array s.node.ty ≡ true → AreShown is_array D (beneath is_array F n) vs → inside ≡ array (items_of (map view vs)) → d ≡ one_member s.node.ty inside → Shows is_array D n d
  row_shown vs inside d kind h e same =
      subst (Shows is_array D n) (sym (same ∙ ap (one_member s.node.ty) e))
      (shows_row n s.node.ty (items_of (map view vs)) known kind (subst (λ ns. ShowsItems is_array D ns (items_of (map view vs))) (ap owners_shown (stands.rows n))
      (items_shown is_array D (inner F n true) vs (inner_shown true kind vs h))))

  pub registers_shown : (vs : List Value) (ms : Members) (inside d : Data) → IsOrdered field_cmp F.held → is_array s.node.ty ≡ false → AreShown is_array D (beneath is_array F n) vs
      → ms ≡ members_with (seats_of n F.held.entries) vs → inside ≡ object ms → d ≡ one_member s.node.ty inside → Shows is_array D n d
  registers_shown vs ms inside d ordered kind h members e same =
      let ss = seats_of n F.held.entries in
      subst (Shows is_array D n) (sym (same ∙ ap (one_member s.node.ty) (e ∙ ap object members)))
      (shows_registers n s.node.ty (map (λ (s : Seat). s.key) ss) (members_with ss vs) known kind (keys_listed F D stands n ordered)
      (members_shown is_array D n ss vs (all_held F D stands n ordered) (inner_shown false kind vs h)))
