-- The part of the document after an intent is what the intent makes of the part, where what it names is in the part.
use Rattle.std.proofs.Common.{◌≡◌, Bool, true, false, List, [], ◌∷◌, ◌++◌, Option, Some, None, IsSome, IfSome, is_some, refl, sym, ap, ◌∙◌, subst, inl, inr}
use mathlib.Core.Path.{fun_ext}
use Rattle.std.specs.List.{filter}
use Rattle.std.specs.Option.{option_or, option_map_or}
use Rattle.std.specs.Prelude.{if◌then◌else◌}
use Rattle.std.proofs.lemmas.List.Elements.{filter-append}
use Rattle.st_ids.specs.Listing.{Has}
use Rattle.st_ids.specs.declared.names.CellId.{CellId}
use Rattle.st_ids.specs.declared.names.FieldId.{FieldId}
use Rattle.st_ids.specs.declared.names.NodeId.{NodeId}
use Rattle.st_marks.specs.declared.intents.Group.{Group}
use Rattle.st_marks.specs.declared.intents.Intent.{Intent}
use Rattle.st_marks.specs.declared.intents.Owned.{Owned}
use Rattle.st_marks.specs.declared.intents.Put.{Put}
use Rattle.st_marks.specs.declared.intents.To.{To}
use Rattle.st_marks.specs.declared.places.Spot.{Spot}
use Rattle.st_marks.specs.Document.{Document, NodeType, IsSoundInForm, node_of, owned_cell}
use Rattle.st_ids.specs.Root.{root}
use Rattle.st_marks.specs.Intent.{Fits, IsKnown, Owns, cell_of, register_of, group_at, group_cells, new_type, put_of}
use Rattle.st_marks.specs.CarryOut.{full, place_after, spot_of, with_groups, with_names}
use Rattle.st_lemmas.proofs.Bools.{true-false}
use Rattle.st_ids.proofs.Shared.{no_members}
use Rattle.st_marks.proofs.Members.{all-has, has-all, flat_map-has}
use Rattle.st_marks.proofs.Lookups.{group_at-group, has-put}
use Rattle.st_marks.proofs.NewRows.{one_row_each, owns_in_row}
use Rattle.st_marks.proofs.Full.{full_one_held, known_put, same_held, unput_above}
use Rattle.st_part_laws.specs.Parts.{IsClosedBy, NamesWithin, cells_by, part_by}
use Rattle.st_part_laws.proofs.Parts.{part_holds, part_one_row, part_sound, row_in, has_row}

filter-all : {A : Type 0} (f : A → Bool) (xs : List A) → ((x : A) → Has xs x → f x ≡ true) → filter f xs ≡ xs
filter-all f [] all = refl
filter-all f (x ∷ xs) all = rw (all x (inl refl)) (ap (λ l. x ∷ l) (filter-all f xs (λ y h. all y (inr h))))

same_option : {A : Type 0} (a b : Option A) → ((x : A) → a ≡ Some x → b ≡ Some x) → ((x : A) → b ≡ Some x → a ≡ Some x) → a ≡ b
same_option None None to back = refl
same_option None (Some y) to back = back y refl
same_option (Some x) b to back = sym (to x refl)

module _ (p : NodeId → Bool) (D : Document) (N : Intent) (s : IsSoundInForm D) (closed : IsClosedBy p D) (of_root : p root ≡ true) (f : Fits D N) (w : NamesWithin p D N) where
  -- what is made at an anchor
  made : (n : NodeId) (a : Option CellId) (o : Owned) → Has (group_at N n a) o → (p n ≡ true) × (p o.node ≡ true)
  made n a o h =
      let g = group_at-group N n a o h in
      (subst (λ n. p n ≡ true) g.node (w.groups g.group g.listed), w.owners o (flat_map-has (λ (g : Group). g.cells) N.groups g.group o g.listed g.cell))

  anchored : (n : NodeId) (o q : Owned) → Has (D.rows n) o → Has (group_at N n (Some o.cell)) q → p o.node ≡ true
  anchored n o q h i = let g = group_at-group N n (Some o.cell) q i in w.anchors g.group n o g.listed g.after h

  -- ## Rows

  rest_kept : (n : NodeId) (os : List Owned) → ((o : Owned) → Has os o → Has (D.rows n) o) → cells_by p (with_groups N n os) ≡ with_groups N n (cells_by p os)
  rest_kept n [] old = refl
  rest_kept n (o ∷ os) old = go (p o.node) refl (rest_kept n os (λ q h. old q (inr h)))
    where
      rest : cells_by p (with_groups N n os) ≡ with_groups N n (cells_by p os) → cells_by p (group_at N n (Some o.cell) ++ with_groups N n os) ≡ group_at N n (Some o.cell) ++ with_groups N n (cells_by p os)
      rest before =
          filter-append (λ (o : Owned). p o.node) (group_at N n (Some o.cell)) (with_groups N n os)
          ∙ ap (λ l. l ++ cells_by p (with_groups N n os)) (filter-all (λ (o : Owned). p o.node) (group_at N n (Some o.cell)) (λ q i. (made n (Some o.cell) q i).1))
          ∙ ap (λ l. group_at N n (Some o.cell) ++ l) before

      go : (b : Bool) → p o.node ≡ b → cells_by p (with_groups N n os) ≡ with_groups N n (cells_by p os) → (if b then o ∷ cells_by p (group_at N n (Some o.cell) ++ with_groups N n os) else cells_by p (group_at N n (Some o.cell) ++ with_groups N n os))
          ≡ with_groups N n (if b then o ∷ cells_by p os else cells_by p os)
      go true e before = ap (λ l. o ∷ l) (rest before)
      go false e before = rest before ∙ ap (λ l. l ++ with_groups N n (cells_by p os)) (no_members (group_at N n (Some o.cell)) (λ q i. true-false (anchored n o q (old o (inl refl)) i) e))

  pub rows_kept : (n : NodeId) → (part_by p (full D N)).rows n ≡ (full (part_by p D) N).rows n
  rows_kept n = go (p n) refl
    where
      go : (b : Bool) → p n ≡ b → (if b then cells_by p ((full D N).rows n) else []) ≡ group_at N n None ++ with_groups N n (if b then cells_by p (D.rows n) else [])
      go true e =
          filter-append (λ (o : Owned). p o.node) (group_at N n None) (with_groups N n (D.rows n))
          ∙ ap (λ l. l ++ cells_by p (with_groups N n (D.rows n))) (filter-all (λ (o : Owned). p o.node) (group_at N n None) (λ q i. (made n None q i).1))
          ∙ ap (λ l. group_at N n None ++ l) (rest_kept n (D.rows n) (λ o h. h))
      go false e = sym (ap (λ l. l ++ []) (no_members (group_at N n None) (λ q i. true-false (made n None q i).0 e)))

  -- ## It fits the part

  known : (n : NodeId) → p n ≡ true → IsKnown D N n → IsKnown (part_by p D) N n
  known n e (inl h) = inl h
  known n e (inr h) = inr (rw e h)

  if_some : {A : Type 0} (P Q : A → Type 0) → (o : Option A) → ((a : A) → o ≡ Some a → P a → Q a) → IfSome o P → IfSome o Q
  if_some P Q None k x = tt
  if_some P Q (Some a) k x = k a refl x

  no_cell : (c : CellId) → D.row_of c ≡ None → (part_by p D).row_of c ≡ None
  no_cell c e = rw e refl

  no_node : (n : NodeId) → D.nodes n ≡ None → (part_by p D).nodes n ≡ None
  no_node n e = go (p n)
    where
      go : (b : Bool) → (if b then D.nodes n else None) ≡ None
      go true = e
      go false = refl

  anchor_there : (g : Group) → Has N.groups g → (c : CellId) → g.after ≡ Some c → D.row_of c ≡ Some g.node → (part_by p D).row_of c ≡ Some g.node
  anchor_there g h c at e =
      let o = (s.one_row c g.node).0 e in
      row_in p D s.one_row c g.node (o.0, has_row p D g.node (owned_cell c o.0) (w.groups g h) o.1 (w.anchors g g.node (owned_cell c o.0) h at o.1))

  owns_there : (m : NodeId) (c : CellId) → put_of N m ≡ Some (To.Cell c) → Owns D N m c → Owns (part_by p D) N m c
  owns_there m c e (inr h) = inr h
  owns_there m c e (inl h) =
      let row : D.row_of c ≡ Some h.0 = (s.one_row c h.0).1 (m, h.1) in
      let at : node_of (spot_of (with_names D N).row_of (To.Cell c)) ≡ Some h.0 = rw row refl in
      inl (h.0, has_row p D h.0 (owned_cell c m) (w.targets m h.0 (To.Cell c) e at) h.1 (w.puts m (To.Cell c) e))

  pub fits_part : Fits (part_by p D) N
  fits_part = record {
    itself = f.itself;
    fresh_nodes = λ n h. no_node n (f.fresh_nodes n h);
    fresh_cells = λ c h. no_cell c (f.fresh_cells c h);
    fresh_schema = f.fresh_schema;
    groups_known = has-all (λ (g : Group). IsKnown (part_by p D) N g.node × IfSome g.after (λ c. (part_by p D).row_of c ≡ Some g.node)) N.groups (λ g h.
        let k = all-has (λ (g : Group). IsKnown D N g.node × IfSome g.after (λ c. D.row_of c ≡ Some g.node)) N.groups g f.groups_known h in
        (known g.node (w.groups g h) k.0, if_some (λ c. D.row_of c ≡ Some g.node) (λ c. (part_by p D).row_of c ≡ Some g.node) g.after (λ c at e. anchor_there g h c at e) k.1));
    owners_known = has-all (λ (o : Owned). IsKnown (part_by p D) N o.node) (group_cells N) (λ o h. known o.node (w.owners o h) (all-has (λ (o : Owned). IsKnown D N o.node) (group_cells N) o f.owners_known h));
    puts_known = has-all (λ (q : Put). IsKnown (part_by p D) N q.node × IfSome (cell_of q.to) (Owns (part_by p D) N q.node) × IfSome (register_of q.to) (λ (r : FieldId). IsKnown (part_by p D) N r.node)) N.put (λ q h.
        let k = all-has (λ (q : Put). IsKnown D N q.node × IfSome (cell_of q.to) (Owns D N q.node) × IfSome (register_of q.to) (λ (r : FieldId). IsKnown D N r.node)) N.put q f.puts_known h in
        let e = has-put N f.itself q h in
        (known q.node (w.puts q.node q.to e) k.0, cell q.node q.to e k.1, register q.node q.to e k.2));
    clears_known = has-all (λ (r : FieldId). IsKnown (part_by p D) N r.node) N.clear (λ r h. known r.node (w.clears r h) (all-has (λ (r : FieldId). IsKnown D N r.node) N.clear r f.clears_known h));
    needs_known = has-all (λ n. IsSome ((part_by p D).nodes n)) N.need (λ n h. rw (w.needs n h) (all-has (λ n. IsSome (D.nodes n)) N.need n f.needs_known h));
  }
    where
      cell : (m : NodeId) (to : To) → put_of N m ≡ Some to → IfSome (cell_of to) (Owns D N m) → IfSome (cell_of to) (Owns (part_by p D) N m)
      cell m To.Nowhere e k = tt
      cell m (To.Cell c) e k = owns_there m c e k
      cell m (To.Register r) e k = tt

      register : (m : NodeId) (to : To) → put_of N m ≡ Some to → IfSome (register_of to) (λ (r : FieldId). IsKnown D N r.node) → IfSome (register_of to) (λ (r : FieldId). IsKnown (part_by p D) N r.node)
      register m To.Nowhere e k = tt
      register m (To.Cell c) e k = tt
      register m (To.Register r) e k = known r.node (w.targets m r.node (To.Register r) e refl) k

  -- ## The rows of cells

  pub cells_kept : (c : CellId) → (part_by p (full D N)).row_of c ≡ (full (part_by p D) N).row_of c
  cells_kept c =
      let here = part_one_row p (full D N) (one_row_each D N s f) in
      let there = one_row_each (part_by p D) N (part_sound p D s closed of_root) fits_part in
      same_option ((part_by p (full D N)).row_of c) ((full (part_by p D) N).row_of c)
      (λ n e. let h = (here c n).0 e in (there c n).1 (h.0, subst (λ l. Has l (owned_cell c h.0)) (rows_kept n) h.1))
      (λ n e. let h = (there c n).0 e in (here c n).1 (h.0, subst (λ l. Has l (owned_cell c h.0)) (sym (rows_kept n)) h.1))

  -- ## Places

  pub spot_there : (m : NodeId) (to : To) → put_of N m ≡ Some to → spot_of (with_names D N).row_of to ≡ spot_of (with_names (part_by p D) N).row_of to
  spot_there m To.Nowhere e = refl
  spot_there m (To.Register r) e = refl
  spot_there m (To.Cell c) e = ap (λ o. option_map_or (λ n. Spot.Row n c) o Spot.Nowhere) (row ((with_names D N).row_of c) refl ∙ cells_kept c)
    where
      row : (o : Option NodeId) → (with_names D N).row_of c ≡ o → (with_names D N).row_of c ≡ (part_by p (full D N)).row_of c
      row None q = q ∙ sym (no_row q)
        where
          no_row : (with_names D N).row_of c ≡ None → (part_by p (full D N)).row_of c ≡ None
          no_row q = rw q refl
      row (Some n) q =
          let at : node_of (spot_of (with_names D N).row_of (To.Cell c)) ≡ Some n = rw q refl in
          let own = owns_in_row D N s f m n c (known_put D N f m (To.Cell c) e).1 q in
          q ∙ sym (row_in p (full D N) (one_row_each D N s f) c n (m, has_row p (full D N) n (owned_cell c m) (w.targets m n (To.Cell c) e at) own (w.puts m (To.Cell c) e)))

  pub places_kept : (m : NodeId) → (part_by p (full D N)).place m ≡ (full (part_by p D) N).place m
  places_kept m = go (put_of N m) refl (p m) refl
    where
      go : (o : Option To) → put_of N m ≡ o → (b : Bool) → p m ≡ b → (if b then place_after (with_names D N).row_of N o (D.place m) else Spot.Nowhere)
          ≡ place_after (with_names (part_by p D) N).row_of N o (if b then D.place m else Spot.Nowhere)
      go None e true q = refl
      go None e false q = refl
      go (Some to) e true q = spot_there m to e
      go (Some to) e false q = absurd (true-false (w.puts m to e) q)

  -- ## The part stays closed

  pub stays_closed : IsClosedBy p (full D N)
  stays_closed m n e = go (put_of N m) refl
    where
      go : (o : Option To) → put_of N m ≡ o → p m ≡ p n
      go (Some to) q =
          let at : node_of (spot_of (with_names D N).row_of to) ≡ Some n = rw q at e in
          w.puts m to q ∙ sym (w.targets m n to q at)
      go None q = elim (unput_above D N m q) [ inl k ↦ (let bad : None ≡ Some n = sym k ∙ e in cc) | inr k ↦ closed m n (sym k ∙ e) ]

  -- ## Together

  pub nodes_kept : (n : NodeId) → (part_by p (full D N)).nodes n ≡ (full (part_by p D) N).nodes n
  nodes_kept n = go (p n) refl (new_type N n) refl
    where
      go : (b : Bool) → p n ≡ b → (o : Option NodeType) → new_type N n ≡ o → (if b then option_or (D.nodes n) o else None) ≡ option_or (if b then D.nodes n else None) o
      go true e o q = refl
      go false e None q = refl
      go false e (Some t) q = absurd (true-false (w.new n (ap is_some q)) e)

  pub part_of_full : part_by p (full D N) ≡ full (part_by p D) N
  part_of_full =
      let nodes : (part_by p (full D N)).nodes ≡ (full (part_by p D) N).nodes = fun_ext nodes_kept in
      let rows : (part_by p (full D N)).rows ≡ (full (part_by p D) N).rows = fun_ext rows_kept in
      let row_of : (part_by p (full D N)).row_of ≡ (full (part_by p D) N).row_of = fun_ext cells_kept in
      let place : (part_by p (full D N)).place ≡ (full (part_by p D) N).place = fun_ext places_kept in
      let held : (part_by p (full D N)).held ≡ (full (part_by p D) N).held =
      fun_ext (same_held (part_by p (full D N)) (full (part_by p D) N)
      (part_holds p (full D N) stays_closed (full_one_held D N s.one_held f.itself))
      (full_one_held (part_by p D) N (part_holds p D closed s.one_held) f.itself) places_kept) in
      λ i. record { nodes = nodes i; rows = rows i; row_of = row_of i; place = place i; held = held i; schemas = (full D N).schemas }
