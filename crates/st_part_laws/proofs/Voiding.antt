-- The same of a void intent, and of verdicts.
use Rattle.std.proofs.Common.{◌≡◌, ◌↔◌, ℕ, zero, suc, Bool, true, false, ◌&&◌, Option, Some, None, IsSome, option_and_then, refl, sym, ap, ◌∙◌, subst}
use mathlib.Core.Path.{fun_ext}
use Rattle.std.specs.Option.{option_map_or}
use Rattle.std.specs.Prelude.{if◌then◌else◌}
use Rattle.st_ids.specs.declared.names.FieldId.{FieldId}
use Rattle.st_ids.specs.declared.names.NodeId.{NodeId}
use Rattle.st_marks.specs.declared.intents.Intent.{Intent}
use Rattle.st_marks.specs.declared.intents.To.{To}
use Rattle.st_marks.specs.declared.places.Spot.{Spot}
use Rattle.st_marks.specs.declared.verdicts.Verdict.{Verdict}
use Rattle.st_marks.specs.Document.{Document, IsSoundInForm, IsAncestor, IsLive, above, climb, node_of}
use Rattle.st_ids.specs.Root.{root}
use Rattle.st_marks.specs.Intent.{Fits, is_new, put_in, put_of}
use Rattle.st_marks.specs.CarryOut.{full, is_put_in_new, only_new, place_after, spot_of, void_data, with_names}
use Rattle.st_marks.specs.Verdict.{IsVerdict, IsUnmetNeed, IsAboveItself}
use Rattle.st_lemmas.proofs.Bools.{true-false}
use Rattle.st_part_laws.specs.Parts.{IsClosedBy, NamesWithin, part_by}
use Rattle.st_part_laws.proofs.Carrying.{cells_kept, nodes_kept, part_of_full, rows_kept, spot_there, stays_closed}

-- climbing from a node of the part stays in it
module _ (p : NodeId → Bool) (E : Document) (closed : IsClosedBy p E) where
  pub climb_part : (k : ℕ) (n : NodeId) → p n ≡ true → climb (above (part_by p E)) k n ≡ climb (above E) k n
  climb_part zero n e = refl
  climb_part (suc k) n e = go (E.place n) refl (λ q i. climb_part k q i)
    where
      go : (x : Spot) → E.place n ≡ x → ((q : NodeId) → p q ≡ true → climb (above (part_by p E)) k q ≡ climb (above E) k q)
          → option_and_then (climb (above (part_by p E)) k) (node_of (if p n then E.place n else Spot.Nowhere)) ≡ option_and_then (climb (above E) k) (node_of (E.place n))
      go Spot.Nowhere at rest = rw (e, at) refl
      go (Spot.Row r c) at rest = rw (e, at) (rest r (sym (closed n r (ap node_of at)) ∙ e))
      go (Spot.Register f) at rest = rw (e, at) (rest f.node (sym (closed n f.node (ap node_of at)) ∙ e))

  pub live_part : (n : NodeId) → p n ≡ true → IsLive (part_by p E) n ↔ IsLive E n
  live_part n e = (λ h. (h.0, sym (climb_part h.0 n e) ∙ h.1), λ h. (h.0, climb_part h.0 n e ∙ h.1))

  pub ancestor_part : (a n : NodeId) → p n ≡ true → IsAncestor (part_by p E) a n ↔ IsAncestor E a n
  ancestor_part a n e = (λ h. (h.0, sym (climb_part (suc h.0) n e) ∙ h.1), λ h. (h.0, climb_part (suc h.0) n e ∙ h.1))

module _ (p : NodeId → Bool) (D : Document) (N : Intent) (s : IsSoundInForm D) (closed : IsClosedBy p D) (of_root : p root ≡ true) (f : Fits D N) (w : NamesWithin p D N) where
  -- ## Verdicts

  unmet : (n : NodeId) → IsUnmetNeed (part_by p D) N n ↔ IsUnmetNeed D N n
  unmet n = (
    λ h. (h.0, λ l. h.1 ((live_part p D closed n (w.needs n h.0)).1 l)),
    λ h. (h.0, λ l. h.1 ((live_part p D closed n (w.needs n h.0)).0 l)),
  )

  put_in_part : (n : NodeId) → IsSome (put_of N n) → p n ≡ true
  put_in_part n h = go (put_of N n) refl h
    where
      go : (o : Option To) → put_of N n ≡ o → IsSome o → p n ≡ true
      go None e h = cc
      go (Some to) e h = w.puts n to e

  ring : (n : NodeId) → IsAboveItself (part_by p D) N n ↔ IsAboveItself D N n
  ring n = (to, back)
    where
      to : IsAboveItself (part_by p D) N n → IsAboveItself D N n
      to h = (
        h.0,
        (ancestor_part p (full D N) (stays_closed p D N s closed of_root f w) n n (put_in_part n h.0)).0
            (subst (λ E. IsAncestor E n n) (sym (part_of_full p D N s closed of_root f w)) h.1),
      )

      back : IsAboveItself D N n → IsAboveItself (part_by p D) N n
      back h = (
        h.0,
        subst (λ E. IsAncestor E n n) (part_of_full p D N s closed of_root f w)
            ((ancestor_part p (full D N) (stays_closed p D N s closed of_root f w) n n (put_in_part n h.0)).1 h.1),
      )

  pub verdict_part : (v : Verdict) → IsVerdict D N v → IsVerdict (part_by p D) N v
  verdict_part (Verdict.Schema u) h = h
  verdict_part (Verdict.Need n) h = (h.0, ((unmet n).1 h.1.0, λ m i. h.1.1 m ((unmet m).0 i)))
  verdict_part (Verdict.Cycle n) h = (h.0, (λ m i. h.1 m ((unmet m).0 i)), ((ring n).1 h.2.0, λ m i. h.2.1 m ((ring m).0 i)))
  verdict_part Verdict.Sound h = (h.0, (λ m i. h.1 m ((unmet m).0 i)), λ m i. h.2 m ((ring m).0 i))

  -- ## Void

  inside_kept : (m : NodeId) → is_put_in_new D N m ≡ is_put_in_new (part_by p D) N m
  inside_kept m = go (put_of N m) refl
    where
      go : (o : Option To) → put_of N m ≡ o → option_map_or (λ to. option_map_or (is_new N) (node_of (spot_of (with_names D N).row_of to)) false) o false
          ≡ option_map_or (λ to. option_map_or (is_new N) (node_of (spot_of (with_names (part_by p D) N).row_of to)) false) o false
      go None e = refl
      go (Some to) e = ap (λ x. option_map_or (is_new N) (node_of x) false) (spot_there p D N s closed of_root f w m to e)

  void_place : (m : NodeId) → (part_by p (void_data D N)).place m ≡ (void_data (part_by p D) N).place m
  void_place m = go (is_new N m) refl (is_put_in_new D N m) (is_put_in_new (part_by p D) N m) (inside_kept m) (put_of N m) refl (p m) refl
    where
      go : (a : Bool) → is_new N m ≡ a → (b c : Bool) → b ≡ c → (o : Option To) → put_of N m ≡ o → (q : Bool) → p m ≡ q
          → (if q then (if a && b then place_after (with_names D N).row_of N o (D.place m) else D.place m) else Spot.Nowhere)
          ≡ (if a && c then place_after (with_names (part_by p D) N).row_of N o (if q then D.place m else Spot.Nowhere) else (if q then D.place m else Spot.Nowhere))
      go false i b c e o k q l = refl
      go true i b c e o k false l = absurd (true-false (w.new m i) l)
      go true i true true e None k true l = refl
      go true i true true e (Some to) k true l = spot_there p D N s closed of_root f w m to k
      go true i false false e o k true l = refl
      go true i true false e o k true l = cc
      go true i false true e o k true l = cc

  void_held : (r : FieldId) → (part_by p (void_data D N)).held r ≡ (void_data (part_by p D) N).held r
  void_held r = go (is_new N r.node) refl (p r.node) refl
    where
      go : (a : Bool) → is_new N r.node ≡ a → (q : Bool) → p r.node ≡ q → (if q then (if a then only_new N (put_in N r) else D.held r) else None)
          ≡ (if a then only_new N (put_in N r) else (if q then D.held r else None))
      go true i true l = refl
      go true i false l = absurd (true-false (w.new r.node i) l)
      go false i true l = refl
      go false i false l = refl

  pub part_of_void : part_by p (void_data D N) ≡ void_data (part_by p D) N
  part_of_void =
      let nodes : (part_by p (void_data D N)).nodes ≡ (void_data (part_by p D) N).nodes = fun_ext (nodes_kept p D N s closed of_root f w) in
      let rows : (part_by p (void_data D N)).rows ≡ (void_data (part_by p D) N).rows = fun_ext (rows_kept p D N s closed of_root f w) in
      let row_of : (part_by p (void_data D N)).row_of ≡ (void_data (part_by p D) N).row_of = fun_ext (cells_kept p D N s closed of_root f w) in
      let place : (part_by p (void_data D N)).place ≡ (void_data (part_by p D) N).place = fun_ext void_place in
      let held : (part_by p (void_data D N)).held ≡ (void_data (part_by p D) N).held = fun_ext void_held in
      λ i. record { nodes = nodes i; rows = rows i; row_of = row_of i; place = place i; held = held i; schemas = D.schemas }

-- ## Out of effect

-- a void intent of which no new node is in the part leaves what the part says of places and registers
module _ (p : NodeId → Bool) (D : Document) (N : Intent) (away : (n : NodeId) → is_new N n ≡ true → p n ≡ false) where
  pub places_stay : (m : NodeId) → (part_by p (void_data D N)).place m ≡ (part_by p D).place m
  places_stay m = go (p m) refl (is_new N m) refl
    where
      go : (q : Bool) → p m ≡ q → (a : Bool) → is_new N m ≡ a
          → (if q then (if a && is_put_in_new D N m then place_after (with_names D N).row_of N (put_of N m) (D.place m) else D.place m) else Spot.Nowhere) ≡ (if q then D.place m else Spot.Nowhere)
      go true l true i = absurd (true-false l (away m i))
      go true l false i = refl
      go false l a i = refl

  pub registers_stay : (r : FieldId) → (part_by p (void_data D N)).held r ≡ (part_by p D).held r
  registers_stay r = go (p r.node) refl (is_new N r.node) refl
    where
      go : (q : Bool) → p r.node ≡ q → (a : Bool) → is_new N r.node ≡ a → (if q then (if a then only_new N (put_in N r) else D.held r) else None) ≡ (if q then D.held r else None)
      go true l true i = absurd (true-false l (away r.node i))
      go true l false i = refl
      go false l a i = refl
