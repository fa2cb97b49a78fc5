-- The document between is sound in form, extends the earlier one and is extended by the later one; an intent that fits both
-- fits it.
use Rattle.std.proofs.Common.{◌≡◌, ◌≢◌, ℕ, zero, suc, Bool, true, false, List, [], ◌∷◌, Option, Some, None, cond, refl, sym, ap, ◌∙◌, IsSome, inl, inr, ◌⊎◌, ◌↔◌, option_and_then}
use Rattle.st_ids.specs.declared.names.CellId.{CellId}
use Rattle.st_ids.specs.declared.names.FieldId.{FieldId}
use Rattle.st_ids.specs.declared.names.NodeId.{NodeId}
use Rattle.st_ids.specs.Listing.{Has}
use Rattle.st_marks.specs.declared.intents.Intent.{Intent}
use Rattle.st_marks.specs.declared.intents.Owned.{Owned}
use Rattle.st_marks.specs.declared.places.Spot.{Spot}
use Rattle.st_marks.specs.Document.{Document, above, climb, node_of, owned_cell, ClimbsToAnEnd, IsSoundInForm}
use Rattle.st_ids.specs.Root.{root}
use Rattle.st_marks.specs.Embedding.{IsMentionedByIntent, named_by_intent}
use Rattle.st_marks.specs.Extends.{IsExtendedBy, GainsItems, no_more, item_kept}
use Rattle.st_marks.specs.Intent.{Fits}
use Rattle.st_marks.specs.Register.{holds_mentioned}
use Rattle.st_marks.proofs.Climb.{climb_end, ends_above}
use Rattle.st_marks.proofs.Later.{has_later, node_later}
use Rattle.st_mention_laws.specs.Closed.{IsClosedIn}
use Rattle.st_moves.specs.Between.{between, unless_taken, only_others}

true_false : {b : Bool} → b ≡ true → b ≡ false → ⊥
true_false e f = let q : ◌≡◌ {A = Bool} true false = sym e ∙ f in cc

some_one : {x y : NodeId} → ◌≡◌ {A = Option NodeId} (Some x) (Some y) → x ≡ y
some_one {x} e = ap at e
  where
    at : Option NodeId → NodeId
    at None = x
    at (Some y) = y

module _ (D E : Document) (m : NodeId → Bool) where
  abbrev B : Document
  B = between m D E

  pub place_named : (n : NodeId) → m n ≡ true → B.place n ≡ E.place n
  place_named n e = rw e refl

  pub place_other : (n : NodeId) → m n ≡ false → B.place n ≡ unless_taken m E (D.place n)
  place_other n e = rw e refl

  held_taken : (f : FieldId) → holds_mentioned m (E.held f) ≡ true → B.held f ≡ E.held f
  held_taken f e = rw e refl

  held_other : (f : FieldId) → holds_mentioned m (E.held f) ≡ false → B.held f ≡ only_others m (D.held f)
  held_other f e = rw e refl

  holds_it : (f : FieldId) (n : NodeId) → E.held f ≡ Some n → m n ≡ true → holds_mentioned m (E.held f) ≡ true
  holds_it f n e h = rw e h

  taken_by : (o : Option NodeId) → holds_mentioned m o ≡ true → (n : NodeId) × (o ≡ Some n) × (m n ≡ true)
  taken_by None e = cc
  taken_by (Some n) e = (n, refl, e)

  only-some : (o : Option NodeId) (n : NodeId) → only_others m o ≡ Some n → (o ≡ Some n) × (m n ≡ false)
  only-some None n e = cc
  only-some (Some x) n e = go (m x) refl e
    where
      go : (b : Bool) → m x ≡ b → cond b None (Some x) ≡ Some n → (Some x ≡ Some n) × (m n ≡ false)
      go true h e = cc
      go false h e = (e, ap m (sym (some_one e)) ∙ h)

  some-only : (o : Option NodeId) (n : NodeId) → o ≡ Some n → m n ≡ false → only_others m o ≡ Some n
  some-only o n e h = rw (e, h) refl

  -- where one of the others stands in a register
  in_register : (s : Spot) (f : FieldId) → unless_taken m E s ≡ Spot.Register f → (s ≡ Spot.Register f) × (holds_mentioned m (E.held f) ≡ false)
  in_register Spot.Nowhere f e = cc
  in_register (Spot.Row n c) f e = cc
  in_register (Spot.Register g) f e = go (holds_mentioned m (E.held g)) refl e
    where
      go : (b : Bool) → holds_mentioned m (E.held g) ≡ b → cond b Spot.Nowhere (Spot.Register g) ≡ Spot.Register f → (Spot.Register g ≡ Spot.Register f) × (holds_mentioned m (E.held f) ≡ false)
      go true h e = cc
      go false h e = let q : g ≡ f = cc in (e, ap (λ (g : FieldId). holds_mentioned m (E.held g)) (sym q) ∙ h)

  in_row : (s : Spot) (n : NodeId) (c : CellId) → unless_taken m E s ≡ Spot.Row n c → s ≡ Spot.Row n c
  in_row Spot.Nowhere n c e = cc
  in_row (Spot.Row k a) n c e = e
  in_row (Spot.Register g) n c e = go (holds_mentioned m (E.held g)) e
    where
      go : (b : Bool) → cond b Spot.Nowhere (Spot.Register g) ≡ Spot.Row n c → Spot.Register g ≡ Spot.Row n c
      go true e = cc
      go false e = cc

  not_taken : (s : Spot) (f : FieldId) → s ≡ Spot.Register f → holds_mentioned m (E.held f) ≡ false → unless_taken m E s ≡ Spot.Register f
  not_taken s f e h = rw (e, h) refl

  -- above one of the others is who was above it, or nobody
  above_other : (s : Spot) → (node_of (unless_taken m E s) ≡ None) ⊎ (node_of (unless_taken m E s) ≡ node_of s)
  above_other Spot.Nowhere = inl refl
  above_other (Spot.Row n c) = inr refl
  above_other (Spot.Register g) = elim (holds_mentioned m (E.held g)) as (λ b. (node_of (cond b Spot.Nowhere (Spot.Register g)) ≡ None) ⊎ (node_of (cond b Spot.Nowhere (Spot.Register g)) ≡ Some g.node)) [ true ↦ inl refl | false ↦ inr refl ]

  named_or_not : (n : NodeId) → (m n ≡ true) ⊎ (m n ≡ false)
  named_or_not n = elim (m n) as (λ b. (b ≡ true) ⊎ (b ≡ false)) [ true ↦ inl refl | false ↦ inr refl ]

  taken_or_not : (f : FieldId) → (holds_mentioned m (E.held f) ≡ true) ⊎ (holds_mentioned m (E.held f) ≡ false)
  taken_or_not f = elim (holds_mentioned m (E.held f)) as (λ b. (b ≡ true) ⊎ (b ≡ false)) [ true ↦ inl refl | false ↦ inr refl ]

  module _ (x : IsExtendedBy D E) (closed : IsClosedIn E m) where
    -- ## Climbing

    above_named : (n : NodeId) → m n ≡ true → above B n ≡ above E n
    above_named n e = ap node_of (place_named n e)

    -- from one of the nodes climbing is as in E
    pub climb_named : (k : ℕ) (n : NodeId) → m n ≡ true → climb (above B) k n ≡ climb (above E) k n
    climb_named zero n e = refl
    climb_named (suc k) n e = go (above E n) refl (λ p f. climb_named k p f)
      where
        go : (o : Option NodeId) → above E n ≡ o → ((p : NodeId) → m p ≡ true → climb (above B) k p ≡ climb (above E) k p) → climb (above B) (suc k) n ≡ climb (above E) (suc k) n
        go None h rest = ap (option_and_then (climb (above B) k)) (above_named n e ∙ h) ∙ ap (option_and_then (climb (above E) k)) (sym h)
        go (Some p) h rest = ap (option_and_then (climb (above B) k)) (above_named n e ∙ h) ∙ rest p (closed n p e h) ∙ ap (option_and_then (climb (above E) k)) (sym h)

    ends_named : (n : NodeId) → m n ≡ true → ClimbsToAnEnd (above B) n
    ends_named n e = let r = x.after.no_ring n in (r.0, climb_named r.0 n e ∙ r.1)

    ends_by : (k : ℕ) (n : NodeId) → climb (above D) k n ≡ None → ClimbsToAnEnd (above B) n
    ends_by zero n e = cc
    ends_by (suc k) n e = elim (named_or_not n) [
      | inl h ↦ ends_named n h
      | inr h ↦ elim (above_other (D.place n)) [
        | inl f ↦ climb_end (above B) n (ap node_of (place_other n h) ∙ f)
        | inr f ↦ go (above D n) refl (λ p g. ends_by k p g) (ap node_of (place_other n h) ∙ f) e
      ]
    ]
      where
        go : (o : Option NodeId) → above D n ≡ o → ((p : NodeId) → climb (above D) k p ≡ None → ClimbsToAnEnd (above B) p) → above B n ≡ above D n → option_and_then (climb (above D) k) o ≡ None → ClimbsToAnEnd (above B) n
        go None g rest f e = climb_end (above B) n (f ∙ g)
        go (Some p) g rest f e = ends_above (above B) n p (f ∙ g) (rest p e)

    no_ring : (n : NodeId) → ClimbsToAnEnd (above B) n
    no_ring n = let r = x.before.no_ring n in ends_by r.0 n r.1

    -- ## What stands where

    own_cell : (k n : NodeId) (c : CellId) → B.place k ≡ Spot.Row n c → Has (E.rows n) (owned_cell c k)
    own_cell k n c e = elim (named_or_not k) [
      | inl h ↦ x.after.own_cell k n c (sym (place_named k h) ∙ e)
      | inr h ↦ has_later (x.rows n) (owned_cell c k) (x.before.own_cell k n c (in_row (D.place k) n c (sym (place_other k h) ∙ e)))
    ]

    stands_if_held : (k : NodeId) (f : FieldId) → B.held f ≡ Some k → B.place k ≡ Spot.Register f
    stands_if_held k f e = elim (taken_or_not f) [
      | inl h ↦ (let r = taken_by (E.held f) h in let same : k ≡ r.0 = some_one (sym e ∙ held_taken f h ∙ r.1) in place_named k (ap m same ∙ r.2) ∙ (x.after.one_held k f).0 (sym (held_taken f h) ∙ e))
      | inr h ↦ (let r = only-some (D.held f) k (sym (held_other f h) ∙ e) in place_other k r.1 ∙ not_taken (D.place k) f ((x.before.one_held k f).0 r.0) h)
    ]

    held_if_stands : (k : NodeId) (f : FieldId) → B.place k ≡ Spot.Register f → B.held f ≡ Some k
    held_if_stands k f e = elim (named_or_not k) [
      | inl h ↦ (let r = (x.after.one_held k f).1 (sym (place_named k h) ∙ e) in held_taken f (holds_it f k r h) ∙ r)
      | inr h ↦ (let r = in_register (D.place k) f (sym (place_other k h) ∙ e) in held_other f r.1 ∙ some-only (D.held f) k ((x.before.one_held k f).1 r.0) h)
    ]

    held_by_one : (k : NodeId) (f : FieldId) → B.held f ≡ Some k → (E.held f ≡ Some k) ⊎ (D.held f ≡ Some k)
    held_by_one k f e = elim (taken_or_not f) [
      | inl h ↦ inl (sym (held_taken f h) ∙ e)
      | inr h ↦ inr (only-some (D.held f) k (sym (held_other f h) ∙ e)).0
    ]

    held_known : (k : NodeId) (f : FieldId) → B.held f ≡ Some k → IsSome (E.nodes k) × IsSome (E.nodes f.node)
    held_known k f e = elim (held_by_one k f e) [
      | inl h ↦ x.after.held_known k f h
      | inr h ↦ (let r = x.before.held_known k f h in (node_later D E x k r.0, node_later D E x f.node r.1))
    ]

    register_key : (k : NodeId) (f : FieldId) → B.held f ≡ Some k → f.key.0 ≢ []
    register_key k f e = elim (held_by_one k f e) [ inl h ↦ x.after.register_key k f h | inr h ↦ x.before.register_key k f h ]

    root_stands : B.place root ≡ Spot.Nowhere
    root_stands = elim (named_or_not root) [
      | inl h ↦ place_named root h ∙ x.after.root_nowhere
      | inr h ↦ place_other root h ∙ ap (unless_taken m E) x.before.root_nowhere
    ]

    pub between_sound : IsSoundInForm B
    between_sound = record {
      root_known = x.after.root_known;
      root_nowhere = root_stands;
      one_row = x.after.one_row;
      once = x.after.once;
      short = x.after.short;
      own_cell = own_cell;
      one_held = λ k f. (stands_if_held k f, held_if_stands k f);
      cells_known = x.after.cells_known;
      held_known = held_known;
      register_key = register_key;
      no_ring = no_ring;
      in_effect = x.before.in_effect;
    }

    same_row : (os : List Owned) → GainsItems (λ (o p : Owned). o ≡ p) os os
    same_row [] = no_more
    same_row (o ∷ os) = item_kept refl (same_row os)

    pub extends_before : IsExtendedBy D B
    extends_before = record { before = x.before; after = between_sound; nodes = x.nodes; rows = x.rows; first_schema = refl }

    pub extended_after : IsExtendedBy B E
    extended_after = record { before = between_sound; after = x.after; nodes = λ n t e. e; rows = λ n. same_row (E.rows n); first_schema = x.first_schema }

  -- ## An intent there

  pub fits_between : (N : Intent) → Fits D N → Fits E N → Fits B N
  fits_between N f g = record {
    itself = f.itself;
    fresh_nodes = g.fresh_nodes;
    fresh_cells = g.fresh_cells;
    fresh_schema = f.fresh_schema;
    groups_known = g.groups_known;
    owners_known = g.owners_known;
    puts_known = g.puts_known;
    clears_known = g.clears_known;
    needs_known = g.needs_known;
  }

  -- what it mentions there is what it mentions in E, where the nodes are those
  pub mentions_between : (N : Intent) → IsExtendedBy D E → ((n : NodeId) → (m n ≡ true) ↔ IsMentionedByIntent E N n) → IsClosedIn E m
      → (n : NodeId) → (m n ≡ true) ↔ IsMentionedByIntent B N n
  mentions_between N x w closed n = (λ e. forth ((w n).0 e), λ k. (w n).1 (back k))
    where
      start : (s : NodeId) → Has (named_by_intent E N) s → IsSome (E.nodes s) → m s ≡ true
      start s h k = (w s).1 (s, h, k, 0, refl)

      forth : IsMentionedByIntent E N n → IsMentionedByIntent B N n
      forth k = (k.0, k.1, k.2, k.3, climb_named x closed k.3 k.0 (start k.0 k.1 k.2) ∙ k.4)

      back : IsMentionedByIntent B N n → IsMentionedByIntent E N n
      back k = (k.0, k.1, k.2, k.3, sym (climb_named x closed k.3 k.0 (start k.0 k.1 k.2)) ∙ k.4)
