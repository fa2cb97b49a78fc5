-- The part of a sound document is sound, where it is closed.
use Rattle.std.proofs.Common.{◌≡◌, ◌≢◌, ◌↔◌, ◌≤◌, ◌<◌, ◌^◌, ◌&&◌, ℕ, zero, suc, Bool, true, false, List, [], ◌∷◌, length, Option, Some, None, option_and_then, refl, sym, ap, ◌∙◌, subst, arith}
use Rattle.std.specs.List.{filter}
use Rattle.std.specs.Prelude.{if◌then◌else◌}
use Rattle.st_ids.specs.Listing.{AreDistinct, Has}
use Rattle.st_ids.specs.Order.{same_cell}
use Rattle.st_ids.specs.declared.names.CellId.{CellId}
use Rattle.st_ids.specs.declared.names.NodeId.{NodeId}
use Rattle.st_ids.proofs.Orders.{same_cell-true, same_cell-itself}
use Rattle.st_marks.specs.declared.intents.Owned.{Owned}
use Rattle.st_marks.specs.declared.places.Spot.{Spot}
use Rattle.st_marks.specs.Document.{Document, IsSoundInForm, above, climb, node_of, owned_cell}
use Rattle.st_ids.specs.Root.{root}
use Rattle.st_marks.proofs.Full.{HoldsWhatIsPlaced}
use Rattle.st_lemmas.proofs.Bools.{and-true}
use Rattle.st_ids.proofs.Shared.{filtered, filter-has}
use Rattle.st_marks.proofs.Members.{any-has, has-any, distinct-filter}
use Rattle.st_part_laws.specs.Parts.{IsClosedBy, cells_by, has_cell, part_by}

-- ## What is kept by a test

shorter-filter : {A : Type 0} (f : A → Bool) (xs : List A) → length (filter f xs) ≤ length xs
shorter-filter f [] = omega (arith)
shorter-filter {A} f (y ∷ ys) = go (f y) (shorter-filter f ys)
  where
    go : (b : Bool) → length (filter f ys) ≤ length ys → length (if b then y ∷ filter f ys else filter f ys) ≤ length (y ∷ ys)
    go true rest = omega (arith, rest)
    go false rest = omega (arith, rest)

kept_if : {A : Type 0} (b : Bool) (o : Option A) (v : A) → (if b then o else None) ≡ Some v → (b ≡ true) × (o ≡ Some v)
kept_if true o v e = (refl, e)
kept_if false o v e = let bad : None ≡ Some v = e in cc

kept_list : {A : Type 0} (b : Bool) (xs : List A) (x : A) → Has (if b then xs else []) x → (b ≡ true) × Has xs x
kept_list true xs x h = (refl, h)
kept_list false xs x h = absurd h

given_list : {A : Type 0} (b : Bool) (xs : List A) (x : A) → b ≡ true → Has xs x → Has (if b then xs else []) x
given_list true xs x e h = h
given_list false xs x e h = let bad : false ≡ true = e in cc

-- ## Rows, registers, of any document

abbrev pub HasOneRow : Document → Type 0
HasOneRow D = (c : CellId) (n : NodeId) → (D.row_of c ≡ Some n) ↔ ((m : NodeId) × Has (D.rows n) (owned_cell c m))

module _ (p : NodeId → Bool) (D : Document) where
  abbrev pub P : Document
  P = part_by p D

  pub row_has : (n : NodeId) (o : Owned) → Has (P.rows n) o → (p n ≡ true) × Has (D.rows n) o × (p o.node ≡ true)
  row_has n o h =
      let a = kept_list (p n) (cells_by p (D.rows n)) o h in
      let b = filtered (λ (o : Owned). p o.node) (D.rows n) o a.1 in
      (a.0, b.0, b.1)

  pub has_row : (n : NodeId) (o : Owned) → p n ≡ true → Has (D.rows n) o → p o.node ≡ true → Has (P.rows n) o
  has_row n o e h f = rw e (filter-has (λ (o : Owned). p o.node) (D.rows n) o h f)

  -- a cell is in the row that it says
  in_row : HasOneRow D → (c : CellId) (n : NodeId) → P.row_of c ≡ Some n → (m : NodeId) × Has (P.rows n) (owned_cell c m)
  in_row one c n e = go (D.row_of c) refl e
    where
      go : (o : Option NodeId) → D.row_of c ≡ o → option_and_then (λ n. if p n && has_cell (cells_by p (D.rows n)) c then Some n else None) o ≡ Some n → (m : NodeId) × Has (P.rows n) (owned_cell c m)
      go None q e = let bad : None ≡ Some n = e in cc
      go (Some r) q e =
          let k = kept_if (p r && has_cell (cells_by p (D.rows r)) c) (Some r) n e in
          let b = and-true (p r) (has_cell (cells_by p (D.rows r)) c) k.0 in
          let same : r ≡ n = cc in
          let f = any-has (λ (o : Owned). same_cell o.cell c) (cells_by p (D.rows r)) b.1 in
          let cell : f.0.cell ≡ c = same_cell-true f.0.cell c f.2 in
          let here : Has (P.rows r) f.0 = given_list (p r) (cells_by p (D.rows r)) f.0 b.0 f.1 in
          (f.0.node, subst (λ r. Has (P.rows r) (owned_cell c f.0.node)) same (subst (λ c. Has (P.rows r) (owned_cell c f.0.node)) cell here))

  pub row_in : HasOneRow D → (c : CellId) (n : NodeId) → (m : NodeId) × Has (P.rows n) (owned_cell c m) → P.row_of c ≡ Some n
  row_in one c n h =
      let a = row_has n (owned_cell c h.0) h.1 in
      let at : D.row_of c ≡ Some n = (one c n).1 (h.0, a.1) in
      let any : has_cell (cells_by p (D.rows n)) c ≡ true = has-any (λ (o : Owned). same_cell o.cell c) (cells_by p (D.rows n)) (owned_cell c h.0)
      (filter-has (λ (o : Owned). p o.node) (D.rows n) (owned_cell c h.0) a.1 a.2) (same_cell-itself c) in
      rw (at, a.0, any) refl

  pub part_one_row : HasOneRow D → HasOneRow P
  part_one_row one c n = (in_row one c n, row_in one c n)

  spot_kept : (b : Bool) (x y : Spot) → y ≢ Spot.Nowhere → (if b then x else Spot.Nowhere) ≡ y → (b ≡ true) × (x ≡ y)
  spot_kept true x y away e = (refl, e)
  spot_kept false x y away e = absurd (away (sym e))

  step_of : IsClosedBy p D → (m : NodeId) (x : Spot) (n : NodeId) → D.place m ≡ x → node_of x ≡ Some n → p m ≡ p n
  step_of closed m x n e f = closed m n (ap node_of e ∙ f)

  pub part_holds : IsClosedBy p D → HoldsWhatIsPlaced D → HoldsWhatIsPlaced P
  part_holds closed one m f = (held_place, place_held)
    where
      held_place : P.held f ≡ Some m → P.place m ≡ Spot.Register f
      held_place e =
          let k = kept_if (p f.node) (D.held f) m e in
          let at = (one m f).0 k.1 in
          let same = step_of closed m (Spot.Register f) f.node at refl in
          rw (same ∙ k.0) at

      place_held : P.place m ≡ Spot.Register f → P.held f ≡ Some m
      place_held e =
          let k = spot_kept (p m) (D.place m) (Spot.Register f) (λ q. cc) e in
          let same = step_of closed m (Spot.Register f) f.node k.1 refl in
          rw (sym same ∙ k.0) ((one m f).1 k.1)

module _ (p : NodeId → Bool) (D : Document) (s : IsSoundInForm D) (closed : IsClosedBy p D) (of_root : p root ≡ true) where
  ends : (k : ℕ) (n : NodeId) → climb (above D) k n ≡ None → climb (above (part_by p D)) k n ≡ None
  ends zero n e = e
  ends (suc k) n e = go (p n) refl (D.place n) refl (λ q f. ends k q f) e
    where
      go : (b : Bool) → p n ≡ b → (x : Spot) → D.place n ≡ x → ((q : NodeId) → climb (above D) k q ≡ None → climb (above (part_by p D)) k q ≡ None)
          → option_and_then (climb (above D) k) (node_of x) ≡ None → option_and_then (climb (above (part_by p D)) k) (node_of (if b then x else Spot.Nowhere)) ≡ None
      go false q x at rest e = refl
      go true q Spot.Nowhere at rest e = refl
      go true q (Spot.Row r c) at rest e = rest r e
      go true q (Spot.Register f) at rest e = rest f.node e

  pub part_sound : IsSoundInForm (part_by p D)
  part_sound = record {
    root_known = rw of_root s.root_known;
    root_nowhere = rw of_root s.root_nowhere;
    one_row = part_one_row p D s.one_row;
    once = λ n. once_if n (p n);
    short = λ n. short_if n (p n);
    own_cell = λ m n c e.
        let k = spot_kept p D (p m) (D.place m) (Spot.Row n c) (λ q. cc) e in
        has_row p D n (owned_cell c m) (sym (step_of p D closed m (Spot.Row n c) n k.1 refl) ∙ k.0) (s.own_cell m n c k.1) k.0;
    one_held = part_holds p D closed s.one_held;
    cells_known = λ n o h. (let a = row_has p D n o h in let k = s.cells_known n o a.1 in (rw a.0 k.0, rw a.2 k.1));
    held_known = λ m f e. (
        let k = kept_if (p f.node) (D.held f) m e in
        let r = s.held_known m f k.1 in
        let same = step_of p D closed m (Spot.Register f) f.node ((s.one_held m f).0 k.1) refl in
        (rw (same ∙ k.0) r.0, rw k.0 r.1));
    register_key = λ m f e. s.register_key m f (kept_if (p f.node) (D.held f) m e).1;
    no_ring = λ n. let k = s.no_ring n in (k.0, ends k.0 n k.1);
    in_effect = s.in_effect;
  }
    where
      once_if : (n : NodeId) (b : Bool) → AreDistinct (λ (o : Owned). o.cell) (if b then cells_by p (D.rows n) else [])
      once_if n true = distinct-filter (λ (o : Owned). o.cell) (λ (o : Owned). p o.node) (D.rows n) (s.once n)
      once_if n false = tt

      short_if : (n : NodeId) (b : Bool) → length (if b then cells_by p (D.rows n) else []) < 2 ^ 32
      short_if n true = omega (arith, shorter-filter (λ (o : Owned). p o.node) (D.rows n), s.short n)
      short_if n false = omega (arith)
