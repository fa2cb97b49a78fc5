-- A void intent leaves a document that is sound in form and extends the one before.
use Rattle.std.proofs.Common.{◌≡◌, ◌<◌, ◌^◌, ℕ, zero, suc, Bool, true, false, List, length, Option, Some, None, cond, ◌&&◌, refl, sym, ap, ◌∙◌, inr, is_some, IsSome, option_and_then}
use Rattle.std.specs.Option.{option_or, option_map_or}
use Rattle.st_ids.specs.Listing.{Has}
use Rattle.st_ids.specs.declared.names.CellId.{CellId}
use Rattle.st_ids.specs.declared.names.FieldId.{FieldId}
use Rattle.st_ids.specs.declared.names.NodeId.{NodeId}
use Rattle.st_marks.specs.declared.intents.Intent.{Intent}
use Rattle.st_marks.specs.declared.intents.To.{To}
use Rattle.st_marks.specs.declared.places.Spot.{Spot}
use Rattle.st_marks.specs.Document.{Document, node_of, above, climb, ClimbsToAnEnd, IsSoundInForm, owned_cell}
use Rattle.st_ids.specs.Root.{root}
use Rattle.st_marks.specs.Extends.{IsExtendedBy}
use Rattle.st_marks.specs.Intent.{put_of, put_in, put_under, above_new, is_new, new_row_of, Fits}
use Rattle.st_marks.specs.CarryOut.{full, void, void_data, with_names, spot_of, place_after, is_put_in_new, only_new}
use Rattle.st_marks.proofs.Lookups.{put-has, has-put, put_in-has, has-put_in}
use Rattle.st_marks.proofs.Climb.{climb_end, ends_above, above_known, unknown_nowhere}
use Rattle.st_marks.proofs.NewRows.{old_cell, known_after, row_cells, one_row_each, rows_once, owns_in_row, rows_grow}
use Rattle.st_marks.proofs.Full.{put_to_register, put_to_cell, known_put, known_put_in, old_register, IsRegister}
use Rattle.st_marks.proofs.Turns.{extends_itself}
use Rattle.st_lemmas.proofs.Bools.{true-false, and-true}

module _ (D : Document) (N : Intent) (s : IsSoundInForm D) (f : Fits D N) where
  -- a node of the document isn't new
  old_not_new : (n : NodeId) → IsSome (D.nodes n) → is_new N n ≡ false
  old_not_new n h = go (is_new N n) refl
    where
      go : (b : Bool) → is_new N n ≡ b → is_new N n ≡ false
      go true e = absurd (true-false h (ap is_some (f.fresh_nodes n e)))
      go false e = e

  -- the test by which a node is placed
  abbrev moves : NodeId → Bool
  moves n = is_new N n && is_put_in_new D N n

  place_of_moved : (n : NodeId) → moves n ≡ true → (void_data D N).place n ≡ place_after (with_names D N).row_of N (put_of N n) (D.place n)
  place_of_moved n e = rw e refl

  place_of_other : (n : NodeId) → moves n ≡ false → (void_data D N).place n ≡ D.place n
  place_of_other n e = rw e refl

  other_old : (n : NodeId) → is_new N n ≡ false → moves n ≡ false
  other_old n e = rw e refl

  -- a node that is placed is put
  moved_put : (n : NodeId) → moves n ≡ true → (to : To) × (put_of N n ≡ Some to) × ((void_data D N).place n ≡ spot_of (with_names D N).row_of to) × (option_map_or (is_new N) (node_of (spot_of (with_names D N).row_of to)) false ≡ true)
  moved_put n e = go (put_of N n) refl (and-true _ _ e).1
    where
      go : (o : Option To) → put_of N n ≡ o → option_map_or (λ to. option_map_or (is_new N) (node_of (spot_of (with_names D N).row_of to)) false) o false ≡ true
          → (to : To) × (put_of N n ≡ Some to) × ((void_data D N).place n ≡ spot_of (with_names D N).row_of to) × (option_map_or (is_new N) (node_of (spot_of (with_names D N).row_of to)) false ≡ true)
      go None h t = cc
      go (Some to) h t = (to, h, rw (e, h) refl, t)

  -- ## Registers

  held_is_placed : (m : NodeId) (r : FieldId) → (void_data D N).held r ≡ Some m → (void_data D N).place m ≡ Spot.Register r
  held_is_placed m r e = go (is_new N r.node) refl e
    where
      new : is_new N r.node ≡ true → (o : Option NodeId) → put_in N r ≡ o → only_new N o ≡ Some m → (void_data D N).place m ≡ Spot.Register r
      new t None h e = cc
      new t (Some x) h e = look (is_new N x) refl e
        where
          look : (b : Bool) → is_new N x ≡ b → cond b (Some x) None ≡ Some m → (void_data D N).place m ≡ Spot.Register r
          look false i e = cc
          look true i e =
              let q : x ≡ m = cc in
              let p = has-put N f.itself (record { node = m; to = To.Register r }) (put_in-has N r m (h ∙ ap (λ x. Some x) q)) in
              let n : is_new N m ≡ true = ap (is_new N) (sym q) ∙ i in
              rw (n, p, t) refl

      go : (b : Bool) → is_new N r.node ≡ b → cond b (only_new N (put_in N r)) (D.held r) ≡ Some m → (void_data D N).place m ≡ Spot.Register r
      go true t e = new t (put_in N r) refl e
      go false t e = place_of_other m (other_old m (old_not_new m (s.held_known m r e).0)) ∙ (s.one_held m r).0 e

  placed_is_held : (m : NodeId) (r : FieldId) → (void_data D N).place m ≡ Spot.Register r → (void_data D N).held r ≡ Some m
  placed_is_held m r e = go (moves m) refl
    where
      go : (b : Bool) → moves m ≡ b → (void_data D N).held r ≡ Some m
      go true t =
          let p = moved_put m t in
          let q = put_to_register (with_names D N).row_of p.0 r (sym p.2 ∙ e) in
          let new : is_new N r.node ≡ true = rw q at p.3 in
          let i = has-put_in N f.itself m r (put-has N m (To.Register r) (p.1 ∙ ap (λ t. Some t) q)) in
          let is : is_new N m ≡ true = (and-true _ _ t).0 in
          rw (new, i, is) refl
      go false t =
          let h = (s.one_held m r).1 (sym (place_of_other m t) ∙ e) in
          let old : is_new N r.node ≡ false = old_not_new r.node (s.held_known m r h).1 in
          rw old h

  held_register : (m : NodeId) (r : FieldId) → (void_data D N).held r ≡ Some m → IsRegister (with_names D N) m r
  held_register m r e = go (is_new N r.node) e
    where
      new : (o : Option NodeId) → put_in N r ≡ o → only_new N o ≡ Some m → put_in N r ≡ Some m
      new None h e = cc
      new (Some x) h e = elim (is_new N x) as (λ b. cond b (Some x) None ≡ Some m → put_in N r ≡ Some m) [ true ↦ λ e. h ∙ e | false ↦ λ e. cc ] e

      go : (b : Bool) → cond b (only_new N (put_in N r)) (D.held r) ≡ Some m → IsRegister (with_names D N) m r
      go true e = known_put_in D N f s m r (new (put_in N r) refl e)
      go false e = old_register D N f s m r e

  -- ## Rows

  place_in_row : (m n : NodeId) (c : CellId) → (void_data D N).place m ≡ Spot.Row n c → Has ((with_names D N).rows n) (owned_cell c m)
  place_in_row m n c e = go (moves m) refl
    where
      go : (b : Bool) → moves m ≡ b → Has ((with_names D N).rows n) (owned_cell c m)
      go true t =
          let p = moved_put m t in
          let q = put_to_cell (with_names D N).row_of p.0 n c (sym p.2 ∙ e) in
          owns_in_row D N s f m n c (known_put D N f m (To.Cell c) (p.1 ∙ ap (λ t. Some t) q.0)).1 q.1
      go false t = old_cell D N s f n _ (s.own_cell m n c (sym (place_of_other m t) ∙ e))

  -- ## Rings

  old_ends : (k : ℕ) (n : NodeId) → is_new N n ≡ false → climb (above D) k n ≡ None → ClimbsToAnEnd (above (void_data D N)) n
  old_ends zero n h e = cc
  old_ends (suc k) n h e = go (above D n) refl e (λ m q i. old_ends k m q i)
    where
      same : above (void_data D N) n ≡ above D n
      same = rw h refl

      go : (o : Option NodeId) → above D n ≡ o → option_and_then (climb (above D) k) o ≡ None → ((m : NodeId) → is_new N m ≡ false → climb (above D) k m ≡ None → ClimbsToAnEnd (above (void_data D N)) m) → ClimbsToAnEnd (above (void_data D N)) n
      go None q e rest = climb_end (above (void_data D N)) n (same ∙ q)
      go (Some m) q e rest = ends_above (above (void_data D N)) n m (same ∙ q) (rest m (old_not_new m (above_known D s n m q)) e)

  -- the node above a new node is new, by the intent alone
  above_void : (n p : NodeId) → is_new N n ≡ true → above (void_data D N) n ≡ Some p → (above_new N n ≡ Some p) × (is_new N p ≡ true)
  above_void n p new e = go (moves n) refl
    where
      new_above : (to : To) → put_of N n ≡ Some to → put_under N (Some to) ≡ Some p → is_new N p ≡ true → above_new N n ≡ Some p
      new_above to h u i = rw (new, h, u, i) refl

      under : (to : To) → node_of (spot_of (with_names D N).row_of to) ≡ Some p → is_new N p ≡ true → put_under N (Some to) ≡ Some p
      under To.Nowhere e i = cc
      under (To.Cell c) e i = look (D.row_of c) refl e
        where
          look : (o : Option NodeId) → D.row_of c ≡ o → node_of (option_map_or (λ n. Spot.Row n c) (option_or o (new_row_of N c)) Spot.Nowhere) ≡ Some p → new_row_of N c ≡ Some p
          look (Some r) h e =
              let q : r ≡ p = cc in
              let own = (s.one_row c r).0 h in
              absurd (true-false i (ap (is_new N) (sym q) ∙ old_not_new r (s.cells_known r _ own.1).0))
          look None h e = made (new_row_of N c) refl e
            where
              made : (o : Option NodeId) → new_row_of N c ≡ o → node_of (option_map_or (λ n. Spot.Row n c) o Spot.Nowhere) ≡ Some p → o ≡ Some p
              made None h e = cc
              made (Some r) h e = e
      under (To.Register r) e i = e

      go : (b : Bool) → moves n ≡ b → (above_new N n ≡ Some p) × (is_new N p ≡ true)
      go true t =
          let q = moved_put n t in
          let a : node_of (spot_of (with_names D N).row_of q.0) ≡ Some p = sym (ap node_of q.2) ∙ e in
          let i : is_new N p ≡ true = rw a at q.3 in
          (new_above q.0 q.1 (under q.0 a i) i, i)
      go false t = let bad : None ≡ Some p = sym (ap node_of (place_of_other n t ∙ unknown_nowhere D s n (f.fresh_nodes n new))) ∙ e in cc

  new_ends : (k : ℕ) (n : NodeId) → is_new N n ≡ true → climb (above_new N) k n ≡ None → ClimbsToAnEnd (above (void_data D N)) n
  new_ends zero n h e = cc
  new_ends (suc k) n h e = go (above (void_data D N) n) refl (λ m i d. new_ends k m i d)
    where
      go : (o : Option NodeId) → above (void_data D N) n ≡ o → ((m : NodeId) → is_new N m ≡ true → climb (above_new N) k m ≡ None → ClimbsToAnEnd (above (void_data D N)) m) → ClimbsToAnEnd (above (void_data D N)) n
      go None q rest = climb_end (above (void_data D N)) n q
      go (Some m) q rest = let a = above_void n m h q in ends_above (above (void_data D N)) n m q (rest m a.1 (rw a.0 at e))

  void_no_ring : (n : NodeId) → ClimbsToAnEnd (above (void_data D N)) n
  void_no_ring n = go (is_new N n) refl
    where
      go : (b : Bool) → is_new N n ≡ b → ClimbsToAnEnd (above (void_data D N)) n
      go true t = let e = f.itself.no_ring n in new_ends e.0 n t e.1
      go false t = let e = s.no_ring n in old_ends e.0 n t e.1

  -- ## Together

  module _ (short : (n : NodeId) → length ((full D N).rows n) < 2 ^ 32) where
    void_data_sound : IsSoundInForm (void_data D N)
    void_data_sound = record {
      root_known = known_after D N s f root (inr s.root_known);
      root_nowhere = place_of_other root (other_old root (old_not_new root s.root_known)) ∙ s.root_nowhere;
      one_row = one_row_each D N s f;
      once = rows_once D N s f;
      short = short;
      own_cell = place_in_row;
      one_held = λ m r. (held_is_placed m r, placed_is_held m r);
      cells_known = λ n o h. ((row_cells D N s f n o h).1, (row_cells D N s f n o h).2);
      held_known = λ m r e. ((held_register m r e).0, (held_register m r e).1);
      register_key = λ m r e. (held_register m r e).2;
      no_ring = void_no_ring;
      in_effect = s.in_effect;
    }

    pub void_extends : IsExtendedBy D (void D N)
    void_extends = go N.schema refl
      where
        data_extends : IsExtendedBy D (void_data D N)
        data_extends = record { before = s; after = void_data_sound; nodes = λ n k e. rw e refl; rows = rows_grow D N; first_schema = refl }

        go : (o : Option (List ℕ)) → N.schema ≡ o → IsExtendedBy D (option_map_or (λ _. D) o (void_data D N))
        go None e = data_extends
        go (Some t) e = extends_itself D s
