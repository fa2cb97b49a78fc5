-- What a move means fits the document where it was resolved.
use Rattle.std.proofs.Common.{◌≡◌, ◌≢◌, ℕ, zero, suc, ◌+◌, ◌==◌, ◌≤◌, ◌&&◌, ◌||◌, Bool, true, false, cond, List, [], ◌∷◌, map, take, drop, length, Option, Some, None, IsSome, IfSome, IsTrue, is_some, nat_le, option_map, Ok, Err, refl, sym, ap, ◌∙◌, subst, arith, inl, inr, ◌⊎◌}
use Rattle.std.specs.List.{AllByRecursion, filter_map, cons_option, find, list_any, slice_get}
use Rattle.std.proofs.lemmas.Bool.Decides.{nat_tests}
use Rattle.std.proofs.lemmas.List.{append-nil, length-map}
use Rattle.st_ids.specs.Listing.{AreDistinct, Has}
use Rattle.st_ids.specs.Order.{same_node, same_cell}
use Rattle.st_ids.specs.declared.names.CellId.{CellId}
use Rattle.st_ids.specs.declared.names.FieldId.{FieldId}
use Rattle.st_ids.specs.declared.names.Key.{Key}
use Rattle.st_ids.specs.declared.names.NodeId.{NodeId}
use Rattle.st_ids.specs.declared.names.Place.{Place}
use Rattle.st_ids.specs.declared.names.Rev.{Rev}
use Rattle.st_ids.proofs.Orders.{same_node-true, same_node-itself, same_cell-true, same_field-itself}
use Rattle.st_tree.specs.Preorder.{cell_named}
use Rattle.st_tree.specs.declared.edit.EditFault.{EditFault}
use Rattle.st_tree.specs.declared.edit.EditFault.TheVariants.{Kind, Range}
use Rattle.st_schema.specs.Schema.{SchemaView, is_sound, field_of}
use Rattle.st_schema.specs.declared.names.FieldRule.{FieldRule}
use Rattle.st_schema.specs.declared.names.KindName.{KindName}
use Rattle.st_schema.specs.declared.names.KindName.TheVariants.{Required, Optional, Sequence}
use Rattle.st_marks.specs.declared.intents.Group.{Group}
use Rattle.st_marks.specs.declared.intents.Intent.{Intent}
use Rattle.st_marks.specs.declared.intents.Owned.{Owned}
use Rattle.st_marks.specs.declared.intents.Put.{Put}
use Rattle.st_marks.specs.declared.intents.To.{To}
use Rattle.st_marks.specs.declared.places.Slot.{Slot}
use Rattle.st_marks.specs.declared.places.Spot.{Spot}
use Rattle.st_marks.specs.Document.{Document, NodeType, IsSoundInForm, owned_cell}
use Rattle.st_ids.specs.Root.{root}
use Rattle.st_marks.specs.Intent.{Fits, IsKnown, Owns, cell_of, clears, group_cells, is_new, new_row_of, put_of, register_of}
use Rattle.st_marks.proofs.Members.{all-has, has-all, any-has, first-has, none-has, has-map, map-has}
use Rattle.st_marks.specs.LiveTree.{live_slots}
use Rattle.st_edits.specs.Paths.{or_refuse, field_at, items_from, left_of, row_length}
use Rattle.st_ids.specs.Or.{and_then}
use Rattle.st_edits.specs.Resolve.{require, cells_for, moved_to_row, moved_to_field, empty_intent, walk, rule_for, rule_at, of_kind, nodes_taken, is_there, may_move, intent_to_move, move}
use Rattle.st_schema.specs.Kind.{is_open, is_single_kind}
use Rattle.st_edits.specs.declared.names.NameCounters.{NameCounters}
use Rattle.st_edits.specs.declared.names.Takes.TheVariants as field
use Rattle.st_edits.proofs.Fits.{all_map, distinct_map, none_kept, passed, or_refuse-Ok, shown, item_there, items_once, nowhere_fits, emptied_fits, key_some, ruled}
use Rattle.st_lemmas.proofs.Bools.{and-true, true-false}
use Rattle.st_ids.proofs.Shared.{at_has}

-- ## New cells

abbrev pub CellsFresh : Document → NameCounters → Type 0
CellsFresh D G = (k : ℕ) → G.cells ≤ k → D.row_of (cell_named G.rev k) ≡ None

-- a new cell is named by the commit, under a number from the first on, and owned by one of the nodes
pub record IsNewCell (rev : Rev) (c : ℕ) (ns : List NodeId) (o : Owned) : Type 0 where
  pub number : ℕ
  pub low : c ≤ number
  pub named : o.cell ≡ cell_named rev number
  pub owner : Has ns o.node

new_cell : (rev : Rev) (c : ℕ) (ns : List NodeId) (o : Owned) → Has (cells_for rev c ns) o → IsNewCell rev c ns o
new_cell rev c [] o h = absurd h
new_cell rev c (n ∷ ns) o (inl e) = record { number = c; low = omega arith; named = ap (λ (o : Owned). o.cell) (sym e); owner = inl (ap (λ (o : Owned). o.node) e) }
new_cell rev c (n ∷ ns) o (inr h) =
    let w = new_cell rev (c + 1) ns o h in
    let low : c + 1 ≤ w.number = w.low in
    record { number = w.number; low = omega arith; named = w.named; owner = inr w.owner }

cells_once : (rev : Rev) (c : ℕ) (ns : List NodeId) → AreDistinct (λ (o : Owned). o.cell) (cells_for rev c ns)
cells_once rev c [] = tt
cells_once rev c (n ∷ ns) = (
  has-all (λ (o : Owned). o.cell ≢ cell_named rev c) (cells_for rev (c + 1) ns) (λ o h same.
      let w = new_cell rev (c + 1) ns o h in
      let e : w.number ≡ c = ap (λ (d : CellId). d.0.at) (sym w.named ∙ same) in
      let low : c + 1 ≤ w.number = w.low in
      absurd (omega arith)),
  cells_once rev (c + 1) ns,
)

nodes_once : (rev : Rev) (c : ℕ) (ns : List NodeId) → AreDistinct (λ (n : NodeId). n) ns → AreDistinct (λ (o : Owned). o.node) (cells_for rev c ns)
nodes_once rev c [] d = tt
nodes_once rev c (n ∷ ns) d = (
  has-all (λ (o : Owned). o.node ≢ n) (cells_for rev (c + 1) ns) (λ o h. all-has (λ m. m ≢ n) ns o.node d.0 (new_cell rev (c + 1) ns o h).owner),
  nodes_once rev (c + 1) ns d.1,
)

-- ## Puts

-- what is put is found
put_found : {A : Type 0} (f : A → Put) (xs : List A) (x : A) → Has xs x → IsSome (option_map (λ (p : Put). p.to) (find (λ (p : Put). same_node p.node (f x).node) (map f xs)))
put_found f xs x h = go (find (λ (p : Put). same_node p.node (f x).node) (map f xs)) refl
  where
    go : (o : Option Put) → find (λ (p : Put). same_node p.node (f x).node) (map f xs) ≡ o → IsSome (option_map (λ (p : Put). p.to) o)
    go (Some p) e = refl
    go None e = absurd (true-false (same_node-itself (f x).node) (none-has (λ (p : Put). same_node p.node (f x).node) (map f xs) (f x) e (map-has f xs x h)))

-- what isn't put isn't found
pub put_none : {A : Type 0} (f : A → Put) (xs : List A) (m : NodeId) → ((x : A) → Has xs x → (f x).node ≢ m) → option_map (λ (p : Put). p.to) (find (λ (p : Put). same_node p.node m) (map f xs)) ≡ None
put_none f xs m apart = go (find (λ (p : Put). same_node p.node m) (map f xs)) refl
  where
    go : (o : Option Put) → find (λ (p : Put). same_node p.node m) (map f xs) ≡ o → option_map (λ (p : Put). p.to) o ≡ None
    go None e = refl
    go (Some p) e =
        let w = first-has (λ (p : Put). same_node p.node m) (map f xs) p e in
        let x = has-map f xs p w.0 in
        absurd (apart x.0 x.1 (ap (λ (p : Put). p.node) x.2 ∙ same_node-true p.node m w.1))

all_kept : {A B K : Type 0} (f : A → B) (g : B → Option K) (key : A → K) (xs : List A) → ((x : A) → g (f x) ≡ Some (key x)) → filter_map g (map f xs) ≡ map key xs
all_kept f g key [] h = refl
all_kept f g key (x ∷ xs) h = ap (λ o. cons_option o (filter_map g (map f xs))) (h x) ∙ ap (λ ys. key x ∷ ys) (all_kept f g key xs h)

abbrev into_cell : Owned → Put
into_cell o = record { node = o.node; to = To.Cell o.cell }

-- ## Into a row

-- the intent of a move of some nodes, at least one, into a row
abbrev row_move : Document → NameCounters → NodeId → Option CellId → Owned → List Owned → Intent
row_move D G m after o os = record (empty_intent D G) {
  groups = record { node = m; after = after; cells = o ∷ os } ∷ [];
  put = map into_cell (o ∷ os);
}

module _ (D : Document) (G : NameCounters) (m : NodeId) (after : Option CellId) (o : Owned) (os : List Owned) where
  group_is : group_cells (row_move D G m after o os) ≡ o ∷ os
  group_is = append-nil (o ∷ os)

  no_new_row : (c : CellId) → ((p : Owned) → Has (o ∷ os) p → p.cell ≢ c) → new_row_of (row_move D G m after o os) c ≡ None
  no_new_row c apart = go (list_any (λ (p : Owned). same_cell p.cell c) (o ∷ os)) refl
    where
      go : (b : Bool) → list_any (λ (p : Owned). same_cell p.cell c) (o ∷ os) ≡ b → option_map (λ (g : Group). g.node) (cond (list_any (λ (p : Owned). same_cell p.cell c) (o ∷ os)) (Some (record { node = m; after = after; cells = o ∷ os })) None) ≡ None
      go false e = ap (λ b. option_map (λ (g : Group). g.node) (cond b (Some (record { node = m; after = after; cells = o ∷ os })) None)) e
      go true e = let p = any-has (λ (p : Owned). same_cell p.cell c) (o ∷ os) e in absurd (apart p.0 p.1 (same_cell-true p.0.cell c p.2))

  new_row_from : (c : CellId) → IsSome (new_row_of (row_move D G m after o os) c) → (p : Owned) × Has (o ∷ os) p × (p.cell ≡ c)
  new_row_from c h = go (list_any (λ (p : Owned). same_cell p.cell c) (o ∷ os)) refl h
    where
      go : (b : Bool) → list_any (λ (p : Owned). same_cell p.cell c) (o ∷ os) ≡ b → is_some (option_map (λ (g : Group). g.node) (cond b (Some (record { node = m; after = after; cells = o ∷ os })) None)) ≡ true
          → (p : Owned) × Has (o ∷ os) p × (p.cell ≡ c)
      go false e k = cc
      go true e k = let p = any-has (λ (p : Owned). same_cell p.cell c) (o ∷ os) e in (p.0, p.1, same_cell-true p.0.cell c p.2)

  row_move_fits : ((p : Owned) → Has (o ∷ os) p → (p.cell.0.rev ≡ G.rev) × (D.row_of p.cell ≡ None) × IsSome (D.nodes p.node) × (p.node ≢ root))
      → AreDistinct (λ (p : Owned). p.cell) (o ∷ os) → AreDistinct (λ (p : Owned). p.node) (o ∷ os) → IsSome (D.nodes m) → IfSome after (λ c. D.row_of c ≡ Some m)
      → Fits D (row_move D G m after o os)
  row_move_fits each cells nodes known anchor = record {
    itself = record {
      new_rev = tt;
      new_once = tt;
      cell_rev = all_cells (λ p. p.cell.0.rev ≡ G.rev) (λ p h. (each p h).0);
      cell_once = subst (AreDistinct (λ (p : Owned). p.cell)) (sym group_is) cells;
      group_some = (λ e. cc, tt);
      start_once = (tt, tt);
      anchor_once = one_anchor after;
      anchor_old = (old_anchor after refl, tt);
      owners = all_cells (λ p. IsTrue (is_new (row_move D G m after o os) p.node) ⊎ IsSome (put_of (row_move D G m after o os) p.node)) (λ p h. inr (put_found into_cell (o ∷ os) p h));
      root_stays = put_none into_cell (o ∷ os) root (λ p h. (each p h).3);
      put_once = distinct_map into_cell (λ (p : Put). p.node) (o ∷ os) nodes;
      no_cell_twice = subst (AreDistinct (λ (c : CellId). c)) (sym (all_kept into_cell (λ (p : Put). cell_of p.to) (λ (p : Owned). p.cell) (o ∷ os) (λ p. refl)))
          (distinct_map (λ (p : Owned). p.cell) (λ (c : CellId). c) (o ∷ os) cells);
      no_register_twice = subst (AreDistinct (λ (f : FieldId). f)) (sym (none_kept into_cell (λ (p : Put). register_of p.to) (o ∷ os) (λ p. refl))) tt;
      new_somewhere = all_map (λ (p : Put). IsTrue (is_new (row_move D G m after o os) p.node) → p.to ≢ To.Nowhere) into_cell (o ∷ os) (λ p h new. absurd (cc));
      cleared = all_map (λ (p : Put). IfSome (register_of p.to) (λ f. IsTrue (clears (row_move D G m after o os) f))) into_cell (o ∷ os) (λ p h. tt);
      register_keys = tt;
      need_old = tt;
      no_ring = λ x. (1, refl);
      schema_alone = tt;
    };
    fresh_nodes = λ x h. cc;
    fresh_cells = λ c h. (let p = new_row_from c h in ap D.row_of (sym p.2) ∙ (each p.0 p.1).1);
    fresh_schema = tt;
    groups_known = ((inr known, anchor), tt);
    owners_known = all_cells (λ p. IsKnown D (row_move D G m after o os) p.node) (λ p h. inr (each p h).2);
    puts_known = all_map (λ (p : Put). IsKnown D (row_move D G m after o os) p.node × IfSome (cell_of p.to) (Owns D (row_move D G m after o os) p.node) × IfSome (register_of p.to) (λ f. IsKnown D (row_move D G m after o os) f.node)) into_cell (o ∷ os)
        (λ p h. (inr (each p h).2, inr (subst (λ ps. Has ps p) (sym group_is) h), tt));
    clears_known = tt;
    needs_known = tt;
  }
    where
      all_cells : (P : Owned → Type 0) → ((p : Owned) → Has (o ∷ os) p → P p) → AllByRecursion P (group_cells (row_move D G m after o os))
      all_cells P h = subst (AllByRecursion P) (sym group_is) (has-all P (o ∷ os) h)

      one_anchor : (a : Option CellId) → AreDistinct (λ (c : CellId). c) (cons_option a [])
      one_anchor None = tt
      one_anchor (Some c) = (tt, tt)

      old_anchor : (a : Option CellId) → after ≡ a → IfSome a (λ c. new_row_of (row_move D G m after o os) c ≡ None)
      old_anchor None e = tt
      old_anchor (Some c) e = no_new_row c (λ p h same.
          let or_refuse : D.row_of c ≡ Some m = subst (λ a. IfSome a (λ c. D.row_of c ≡ Some m)) e anchor in
          let bad : None ≡ Some m = sym (each p h).1 ∙ ap D.row_of same ∙ or_refuse in cc)

-- the item left of an index is in the row
pub left_in_row : (D : Document) (m : NodeId) (index : ℕ) → IsSoundInForm D → IfSome (left_of D m index) (λ c. D.row_of c ≡ Some m)
left_in_row D m zero sound = tt
left_in_row D m (suc i) sound = go (slice_get (live_slots D m) i) refl
  where
    go : (o : Option Slot) → slice_get (live_slots D m) i ≡ o → IfSome (option_map (λ (s : Slot). s.cell) o) (λ c. D.row_of c ≡ Some m)
    go None e = tt
    go (Some s) e = (sound.one_row s.cell m).1 (s.node, (shown D m s (at_has (live_slots D m) i s e)).in_row)

row_fits : (D : Document) (G : NameCounters) (m : NodeId) (index : ℕ) (ns : List NodeId) → IsSoundInForm D → CellsFresh D G → AreDistinct (λ (n : NodeId). n) ns → ((n : NodeId) → Has ns n → IsSome (D.nodes n) × (n ≢ root))
    → IsSome (D.nodes m) → Fits D (moved_to_row D G m index ns)
row_fits D G m index [] sound fresh once or_refuse known = nowhere_fits D G [] tt (λ n h. absurd h)
row_fits D G m index (n ∷ ns) sound fresh once or_refuse known =
    row_move_fits D G m (left_of D m index) (owned_cell (cell_named G.rev G.cells) n) (cells_for G.rev (G.cells + 1) ns)
    (λ p h. (let w = new_cell G.rev G.cells (n ∷ ns) p h in
    (ap (λ (c : CellId). c.0.rev) w.named, ap D.row_of w.named ∙ fresh w.number w.low, (or_refuse p.node w.owner).0, (or_refuse p.node w.owner).1)))
    (cells_once G.rev G.cells (n ∷ ns)) (nodes_once G.rev G.cells (n ∷ ns) once) known (left_in_row D m index sound)

-- ## Into a field

abbrev into_field : FieldId → NodeId → Put
into_field f n = record { node = n; to = To.Register f }

field_fits : (D : Document) (G : NameCounters) (f : FieldId) (n : NodeId) → IsSome (D.nodes n) → n ≢ root → IsSome (D.nodes f.node) → f.key.0 ≢ [] → Fits D (moved_to_field D G f (n ∷ []))
field_fits D G f n known other or_refuse some = record {
  itself = record {
    new_rev = tt;
    new_once = tt;
    cell_rev = tt;
    cell_once = tt;
    group_some = tt;
    start_once = tt;
    anchor_once = tt;
    anchor_old = tt;
    owners = tt;
    root_stays = put_none (into_field f) (n ∷ []) root (λ m h. elim h [ inl e ↦ (λ r. other (e ∙ r)) | inr k ↦ absurd k ]);
    put_once = (tt, tt);
    no_cell_twice = tt;
    no_register_twice = (tt, tt);
    new_somewhere = (λ new e. cc, tt);
    cleared = (ap (λ b. b || false) (same_field-itself f), tt);
    register_keys = (some, tt);
    need_old = tt;
    no_ring = λ x. (1, refl);
    schema_alone = tt;
  };
  fresh_nodes = λ x h. cc;
  fresh_cells = λ c h. cc;
  fresh_schema = tt;
  groups_known = tt;
  owners_known = tt;
  puts_known = ((inr known, tt, inr or_refuse), tt);
  clears_known = (inr or_refuse, tt);
  needs_known = tt;
}

one_fits : (D : Document) (G : NameCounters) (f : FieldId) (ns : List NodeId) → length ns ≤ 1 → ((n : NodeId) → Has ns n → IsSome (D.nodes n) × (n ≢ root)) → IsSome (D.nodes f.node) → f.key.0 ≢ [] → Fits D (moved_to_field D G f ns)
one_fits D G f [] few each or_refuse some = emptied_fits D G f or_refuse some
one_fits D G f (n ∷ []) few each or_refuse some = field_fits D G f n (each n (inl refl)).0 (each n (inl refl)).1 or_refuse some
one_fits D G f (n ∷ (m ∷ ns)) few each or_refuse some = absurd (omega arith)

-- ## What a move takes

pub record AreTaken (D : Document) (count : ℕ) (ns : List NodeId) : Type 0 where
  pub once : AreDistinct (λ (n : NodeId). n) ns
  pub each : (n : NodeId) → Has ns n → IsSome (D.nodes n) × (n ≢ root)
  pub few : length ns ≤ count

take_few : {A : Type 0} (k : ℕ) (xs : List A) → length (take k xs) ≤ k
take_few zero xs = omega arith
take_few (suc k) [] = omega arith
take_few (suc k) (x ∷ xs) = let rest = take_few k xs in omega (arith, rest)

held_taken : (D : Document) (f : FieldId) (n : NodeId) → IsSoundInForm D → D.held f ≡ Some n → IsSome (D.nodes n) × (n ≢ root)
held_taken D f n sound e = ((sound.held_known n f e).0, λ r. (let at : D.place root ≡ Spot.Register f = ap D.place (sym r) ∙ (sound.one_held n f).0 e in let bad : Spot.Nowhere ≡ Spot.Register f = sym sound.root_nowhere ∙ at in cc))

are_taken : (D : Document) (f : FieldId) (k : KindName) (index count : ℕ) (ns : List NodeId) → IsSoundInForm D → nodes_taken D f k index count ≡ Ok ns → AreTaken D count ns
are_taken D f Required index count ns sound e = cc
are_taken D f Optional index count ns sound e = go (index == 0 && count == 1) refl e
  where
    go : (b : Bool) → (index == 0 && count == 1) ≡ b → cond b (and_then (or_refuse (D.held f) Range) (λ (n : NodeId). Ok (n ∷ []))) (Err Range) ≡ Ok ns → AreTaken D count ns
    go false h g = cc
    go true h g =
        let n = passed (or_refuse (D.held f) Range) (λ (n : NodeId). Ok (n ∷ [])) ns g in
        let is : n.0 ∷ [] ≡ ns = cc in
        let one : (count == 1) ≡ true = (and-true (index == 0) (count == 1) h).1 in
        let w = held_taken D f n.0 sound (or_refuse-Ok (D.held f) Range n.0 n.1) in
        let few : 1 ≤ count = grind (arith, nat_tests) in
        subst (AreTaken D count) is (record { once = (tt, tt); each = λ m i. elim i [ inl q ↦ subst (λ x. IsSome (D.nodes x) × (x ≢ root)) q w | inr j ↦ absurd j ]; few = few })
are_taken D f Sequence index count ns sound e = go (nat_le (index + count) (row_length D f.node)) e
  where
    short : length (items_from D f.node index count) ≤ count
    short = let a = length-map (take count (drop index (live_slots D f.node))) (λ (s : Slot). s.node) in let b = take_few count (drop index (live_slots D f.node)) in omega (arith, a, b)

    go : (b : Bool) → cond b (Ok (items_from D f.node index count)) (Err Range) ≡ Ok ns → AreTaken D count ns
    go false g = cc
    go true g =
        let is : items_from D f.node index count ≡ ns = cc in
        subst (AreTaken D count) is (record { once = items_once D f.node index count sound; each = item_there D f.node index count sound; few = short })

-- ## A move

pub asked : (b : Bool) (e : EditFault) (u : Unit {0}) → require b e ≡ Ok u → b ≡ true
asked true e u h = refl
asked false e u h = cc

kind_same : (takes : KindName → Bool) (rule got : FieldRule) → of_kind takes rule ≡ Ok got → rule ≡ got
kind_same takes rule got e = go (takes rule.kind) e
  where
    go : (b : Bool) → cond b (Ok rule) (Err Kind) ≡ Ok got → rule ≡ got
    go true f = cc
    go false f = cc

pub move_fits : (D : Document) (s : SchemaView) (G : NameCounters) (at : List Place) (key : Key) (index count : ℕ) (to : List Place) (to_key : Key) (to_index : ℕ) (N : Intent)
    → IsSoundInForm D → is_sound s ≡ true → CellsFresh D G → move D s G at key index count to to_key to_index ≡ Ok N → Fits D N
move_fits D s G at key index count to to_key to_index N sound schema fresh e =
    let n = passed (walk D at) _ N e in
    let m = passed (walk D to) _ N n.2 in
    let source = passed (rule_for field.Open D s n.0 key) _ N m.2 in
    let target = passed (rule_for field.Open D s m.0 to_key) _ N source.2 in
    let ns = passed (nodes_taken D (field_at n.0 key) source.0.kind index count) _ N target.2 in
    let may = passed (may_move D G m.0 target.0 to to_index count ns.0) _ N ns.2 in
    let in_range = passed (require (is_there D m.0 target.0.kind to_index count) Range) _ may.0 may.1 in
    let inside = asked (is_there D m.0 target.0.kind to_index count) Range in_range.0 in_range.1 in
    let rule = passed (or_refuse (rule_at D s m.0 to_key) Kind) (of_kind is_open) target.0 target.1 in
    let known = ruled D s m.0 to_key rule.0 (or_refuse-Ok (rule_at D s m.0 to_key) Kind rule.0 rule.1) in
    let same = kind_same is_open rule.0 target.0 rule.2 in
    let is : intent_to_move D G (field_at m.0 to_key) target.0.kind to_index ns.0 ≡ N = cc in
    go m.0 target.0 ns.0 (are_taken D (field_at n.0 key) source.0.kind index count ns.0 sound ns.1) known.0 known.1.0 (known.1.1 ∙ ap (λ (r : FieldRule). Some r) same) target.0.kind refl is inside
  where
    go : (m : NodeId) (target : FieldRule) (ns : List NodeId) → AreTaken D count ns → IsSome (D.nodes m) → (t : NodeType) → field_of s t.ty to_key.0 ≡ Some target → (k : KindName) → target.kind ≡ k
        → intent_to_move D G (field_at m to_key) k to_index ns ≡ N → is_there D m k to_index count ≡ true → Fits D N
    go m target ns w known t rule Required kind is inside = cc
    go m target ns w known t rule Optional kind is inside =
        let single : is_single_kind target.kind ≡ true = ap is_single_kind kind in
        let test : (count == 1) ≡ true = (and-true (to_index == 0) (count == 1) inside).1 in
        let few : length ns ≤ count = w.few in
        let one : length ns ≤ 1 = grind (arith, nat_tests) in
        subst (Fits D) is (one_fits D G (field_at m to_key) ns one w.each known (key_some s t.ty to_key.0 target schema rule single))
    go m target ns w known t rule Sequence kind is inside = subst (Fits D) is (row_fits D G m to_index ns sound fresh w.once w.each known)
