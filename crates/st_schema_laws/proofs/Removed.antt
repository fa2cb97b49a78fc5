-- What is shown after a removal.
use Rattle.std.proofs.Common.{◌≡◌, ◌≢◌, ℕ, suc, ◌+◌, Bool, true, false, cond, not, nat_le, List, [], ◌∷◌, ◌++◌, map, take, drop, filter, Option, Some, None, IsSome, is_some, option_map, option_and_then, Ok, Err, refl, sym, ap, ◌∙◌, subst, ◌||◌}
use Rattle.std.specs.List.{find, take-map, drop-map}
use Rattle.std.specs.Option.{option_or}
use Rattle.serde_json.specs.Data.{Data}
use Rattle.st_ids.specs.Listing.{Has}
use Rattle.st_ids.specs.Order.{same_node}
use Rattle.st_ids.specs.declared.names.FieldId.{FieldId}
use Rattle.st_ids.specs.declared.names.Key.{Key}
use Rattle.st_ids.specs.declared.names.NodeId.{NodeId}
use Rattle.st_ids.specs.declared.names.Place.{Place}
use Rattle.st_tree.specs.declared.edit.EditFault.TheVariants.{Range}
use Rattle.st_schema.specs.Schema.{SchemaView, is_sound}
use Rattle.st_marks.specs.declared.intents.Intent.{Intent}
use Rattle.st_marks.specs.declared.intents.Owned.{Owned}
use Rattle.st_marks.specs.declared.intents.Put.{Put}
use Rattle.st_marks.specs.declared.intents.To.{To}
use Rattle.st_marks.specs.declared.places.Slot.{Slot}
use Rattle.st_marks.specs.declared.places.Spot.{Spot}
use Rattle.st_marks.specs.declared.verdicts.Verdict.{Verdict}
use Rattle.st_marks.specs.Document.{Document, NodeType, IsSoundInForm, above, climb, node_of, content, is_cell, slot}
use Rattle.st_ids.specs.Root.{root}
use Rattle.st_marks.specs.Intent.{put_of, is_register}
use Rattle.st_marks.specs.CarryOut.{full, with_groups, with_names, place_after, unless_cleared, unless_put}
use Rattle.st_marks.specs.Verdict.{IsVerdict}
use Rattle.st_marks.specs.LiveTree.{Shows, owners_shown, register, live_slots}
use Rattle.st_edits.specs.Paths.{items_from, row_length}
use Rattle.st_edits.specs.Resolve.{remove, intent_to_remove, rule_for, walk, within_row}
use Rattle.st_edits.specs.declared.names.NameCounters.{NameCounters}
use Rattle.st_edits.specs.declared.names.Takes.TheVariants as field
use Rattle.st_edits.proofs.Fits.{passed, has_take, has_drop}
use Rattle.st_schema_laws.specs.Alike.{AreAlikeAt}
use Rattle.st_schema_laws.specs.Edited.{TellsRows, at_path, without_items}
use Rattle.st_schema_laws.proofs.Along.{along, owners_live, owners_once}
use Rattle.st_schema_laws.proofs.AtNode.{items_left}
use Rattle.st_schema_laws.proofs.Beneath.{in_row as stands_in_row}
use Rattle.st_schema_laws.proofs.Rows.{among, among-has, not-among, filter_all, without_part, owners_filtered}
use Rattle.st_schema_laws.proofs.Sound.{last_in_effect}
use Rattle.st_schema_laws.proofs.Ruled.{row_ruled}
use Rattle.st_lemmas.proofs.Options.{option_or-None}

abbrev nowhere : NodeId → Put
nowhere n = record { node = n; to = To.Nowhere }

put_nowhere : (ns : List NodeId) (x : NodeId) → option_map (λ (p : Put). p.to) (find (λ (p : Put). same_node p.node x) (map nowhere ns)) ≡ cond (among ns x) (Some To.Nowhere) None
put_nowhere [] x = refl
put_nowhere (n ∷ ns) x = go (same_node n x) (put_nowhere ns x)
  where
    go : (b : Bool) → option_map (λ (p : Put). p.to) (find (λ (p : Put). same_node p.node x) (map nowhere ns)) ≡ cond (among ns x) (Some To.Nowhere) None
        → option_map (λ (p : Put). p.to) (cond b (Some (nowhere n)) (find (λ (p : Put). same_node p.node x) (map nowhere ns))) ≡ cond (b || among ns x) (Some To.Nowhere) None
    go true e = refl
    go false e = e

none_in : (ns : List NodeId) (f : FieldId) → option_map (λ (p : Put). p.node) (find (λ (p : Put). is_register f p.to) (map nowhere ns)) ≡ None
none_in [] f = refl
none_in (n ∷ ns) f = none_in ns f

-- without groups a row stays
pub no_groups : (N : Intent) (n : NodeId) → ((a : _) → Rattle.st_marks.specs.Intent.group_at N n a ≡ []) → (os : List Owned) → with_groups N n os ≡ os
no_groups N n none [] = refl
no_groups N n none (o ∷ os) = ap (λ l. o ∷ (l ++ with_groups N n os)) (none (Some o.cell)) ∙ ap (λ l. o ∷ l) (no_groups N n none os)

module _ (D : Document) (G : NameCounters) (sound : IsSoundInForm D) (m : NodeId) (ns : List NodeId) (in_m : (x : NodeId) → Has ns x → Has (owners_shown (content D m)) x) where
  abbrev N : Intent
  N = intent_to_remove D G ns

  abbrev E : Document
  E = full D N

  put_is : (x : NodeId) → put_of N x ≡ cond (among ns x) (Some To.Nowhere) None
  put_is x = put_nowhere ns x

  uncleared : (s : Spot) → unless_cleared N s ≡ s
  uncleared Spot.Nowhere = refl
  uncleared (Spot.Row n c) = refl
  uncleared (Spot.Register f) = refl

  pub place_is : (x : NodeId) → E.place x ≡ cond (among ns x) Spot.Nowhere (D.place x)
  place_is x = ap (λ o. place_after (with_names D N).row_of N o (D.place x)) (put_is x) ∙ go (among ns x)
    where
      go : (b : Bool) → place_after (with_names D N).row_of N (cond b (Some To.Nowhere) None) (D.place x) ≡ cond b Spot.Nowhere (D.place x)
      go true = refl
      go false = uncleared (D.place x)

  pub rows_are : (n : NodeId) → E.rows n ≡ D.rows n
  rows_are n = no_groups N n (λ a. refl) (D.rows n)

  stood : (x : NodeId) → among ns x ≡ true → (c : _) × (D.place x ≡ Spot.Row m c)
  stood x e = stands_in_row D sound m x (in_m x (among-has ns x e))

  full_is : (o : Owned) → is_cell o.cell (E.place o.node) ≡ cond (not (among ns o.node)) (is_cell o.cell (D.place o.node)) false
  full_is o = ap (is_cell o.cell) (place_is o.node) ∙ go (among ns o.node)
    where
      go : (b : Bool) → is_cell o.cell (cond b Spot.Nowhere (D.place o.node)) ≡ cond (not b) (is_cell o.cell (D.place o.node)) false
      go true = refl
      go false = refl

  pub owners_are : (n : NodeId) → owners_shown (content E n) ≡ filter (λ x. not (among ns x)) (owners_shown (content D n))
  owners_are n = ap (λ os. owners_shown (map (slot E) os)) (rows_are n) ∙ owners_filtered D E (λ x. not (among ns x)) (D.rows n) (λ o h. full_is o)

  other_row : (n : NodeId) → n ≢ m → owners_shown (content E n) ≡ owners_shown (content D n)
  other_row n apart = owners_are n ∙ filter_all (λ x. not (among ns x)) (owners_shown (content D n)) (λ x h. ap not (not-among ns x (λ i.
      let a = stands_in_row D sound n x h in
      let b = stands_in_row D sound m x (in_m x i) in
      let q : Spot.Row n a.0 ≡ Spot.Row m b.0 = sym a.1 ∙ b.1 in
      let same : n ≡ m = cc in apart same)))

  held_is : (f : FieldId) → E.held f ≡ D.held f
  held_is f = ap (λ o. option_or o (unless_put N (D.held f))) (none_in ns f) ∙ go (D.held f) refl
    where
      unput : (y : NodeId) → D.held f ≡ Some y → (b : Bool) → among ns y ≡ b → is_some (put_of N y) ≡ false
      unput y e false h = ap is_some (put_is y) ∙ ap (λ b. is_some (cond b (Some To.Nowhere) None)) h
      unput y e true h =
          let c = stood y h in
          let bad : Spot.Row m c.0 ≡ Spot.Register f = sym c.1 ∙ (sound.one_held y f).0 e in cc

      go : (o : Option NodeId) → D.held f ≡ o → unless_put N o ≡ o
      go None e = refl
      go (Some y) e = ap (λ b. cond b None (Some y)) (unput y e (among ns y) refl)

  pub nodes_are : (x : NodeId) → E.nodes x ≡ D.nodes x
  nodes_are x = option_or-None (D.nodes x)

  pub alike : (x : NodeId) → x ≢ m → AreAlikeAt D E x
  alike x apart = record { node = λ t e. nodes_are x ∙ e; row = other_row x apart; held = λ k. held_is (register x k) }

  pub sound_verdict : IsVerdict D N Verdict.Sound
  sound_verdict = (last_in_effect D G sound, (λ x h. absurd h.0), λ x h. none_above x h.0 h.1.0 h.1.1)
    where
      none_above : (x : NodeId) → IsSome (put_of N x) → (k : ℕ) → climb (above E) (suc k) x ≡ Some x → ⊥
      none_above x h k e = go (among ns x) refl
        where
          go : (b : Bool) → among ns x ≡ b → ⊥
          go false q = let bad : false ≡ true = ap (λ b. is_some (cond b (Some To.Nowhere) None)) (sym q) ∙ ap is_some (sym (put_is x)) ∙ h in cc
          go true q =
              let up : above E x ≡ None = ap node_of (place_is x ∙ ap (λ b. cond b Spot.Nowhere (D.place x)) q) in
              let bad : None ≡ Some x = ap (option_and_then (climb (above E) k)) (sym up) ∙ e in cc

-- ## The nodes of a removal

pub taken_from : (D : Document) (n : NodeId) (index count : ℕ) → items_from D n index count ≡ take count (drop index (owners_shown (content D n)))
taken_from D n index count =
    sym (take-map (λ (s : Slot). s.node) count (drop index (live_slots D n))) ∙ ap (take count) (sym (drop-map (λ (s : Slot). s.node) index (live_slots D n)))
    ∙ ap (λ ns. take count (drop index ns)) (sym (owners_live (content D n)))

pub items_in : (D : Document) (n : NodeId) (index count : ℕ) (x : NodeId) → Has (items_from D n index count) x → Has (owners_shown (content D n)) x
items_in D n index count x h = has_drop index (owners_shown (content D n)) x (has_take count (drop index (owners_shown (content D n))) x (subst (λ ns. Has ns x) (taken_from D n index count) h))

-- what the row of the node shows then
module _ (D : Document) (G : NameCounters) (sound : IsSoundInForm D) (m : NodeId) (index count : ℕ) where
  abbrev F : Document
  F = full D (intent_to_remove D G (items_from D m index count))

  there : (x : NodeId) → Has (items_from D m index count) x → Has (owners_shown (content D m)) x
  there = items_in D m index count

  pub row_is : owners_shown (content F m) ≡ take index (owners_shown (content D m)) ++ drop (index + count) (owners_shown (content D m))
  row_is =
      owners_are D G sound m (items_from D m index count) there m
      ∙ ap (λ ns. filter (λ x. not (among ns x)) (owners_shown (content D m))) (taken_from D m index count)
      ∙ without_part (owners_shown (content D m)) index count (owners_once D m sound)

-- ## A removal

pub record IsRemoval (D : Document) (s : SchemaView) (G : NameCounters) (at : List Place) (key : Key) (index count : ℕ) (N : Intent) : Type 0 where
  pub node : NodeId
  pub way : walk D at ≡ Ok node
  pub type : NodeType
  pub known : D.nodes node ≡ Some type
  pub rowed : (is_array : List ℕ → Bool) → is_sound s ≡ true → TellsRows is_array s → is_array type.ty ≡ true
  pub intent : intent_to_remove D G (items_from D node index count) ≡ N

pub is_removal : (D : Document) (s : SchemaView) (G : NameCounters) (at : List Place) (key : Key) (index count : ℕ) (N : Intent) → remove D s G at key index count ≡ Ok N → IsRemoval D s G at key index count N
is_removal D s G at key index count N e =
    let n = passed (walk D at) _ N e in
    let r = passed (rule_for field.Row D s n.0 key) _ N n.2 in
    let ns = passed (within_row D n.0 index count) (λ ns. Ok (intent_to_remove D G ns)) N r.2 in
    let is : intent_to_remove D G ns.0 ≡ N = cc in
    let t = row_ruled D s n.0 key r.0 r.1 in
    record { node = n.0; way = n.1; type = t.0; known = t.1; rowed = t.2; intent = ap (intent_to_remove D G) (taken_is (nat_le (index + count) (row_length D n.0)) n.0 ns.0 ns.1) ∙ is }
  where
    taken_is : (b : Bool) (n : NodeId) (ns : List NodeId) → cond b (Ok (items_from D n index count)) (Err Range) ≡ Ok ns → items_from D n index count ≡ ns
    taken_is true n ns h = cc
    taken_is false n ns h = cc

pub removal_verdict : (D : Document) (s : SchemaView) (G : NameCounters) (at : List Place) (key : Key) (index count : ℕ) (N : Intent) → IsSoundInForm D → remove D s G at key index count ≡ Ok N → IsVerdict D N Verdict.Sound
removal_verdict D s G at key index count N sound e =
    let w = is_removal D s G at key index count N e in
    subst (λ N. IsVerdict D N Verdict.Sound) w.intent (sound_verdict D G sound w.node (items_from D w.node index count) (items_in D w.node index count))

pub removal_seen : (is_array : List ℕ → Bool) (D : Document) (s : SchemaView) (G : NameCounters) (at : List Place) (key : Key) (index count : ℕ) (N : Intent) (d : Data) → IsSoundInForm D → is_sound s ≡ true → TellsRows is_array s
    → remove D s G at key index count ≡ Ok N → Shows is_array D root d → Shows is_array (full D N) root (at_path at (without_items index count) d)
removal_seen is_array D s G at key index count N d sound schema tells e shows =
    let w = is_removal D s G at key index count N e in
    let F = full D (intent_to_remove D G (items_from D w.node index count)) in
    subst (λ N. Shows is_array (full D N) root (at_path at (without_items index count) d)) w.intent
    ((along is_array D F sound w.node (λ x _ apart. alike D G sound w.node (items_from D w.node index count) (items_in D w.node index count) x apart) (without_items index count)
    (items_left is_array D F sound w.node (λ x _ apart. alike D G sound w.node (items_from D w.node index count) (items_in D w.node index count) x apart)
    (λ t e. nodes_are D G sound w.node (items_from D w.node index count) (items_in D w.node index count) w.node ∙ e) w.type w.known index count (w.rowed is_array schema tells) (row_is D G sound w.node index count)) at 0 root w.way).1 d shows)
