-- The register's part of the join of two intents.
use Rattle.std.proofs.Common.{◌≡◌, ◌≢◌, ◌⊎◌, inl, inr, Bool, true, false, ◌&&◌, ◌||◌, not, Option, Some, None, cond, refl, sym, ap, ◌∙◌, IfSome, IsSome, IsTrue, is_some, option_map}
use Rattle.std.specs.Option.{option_or, option_and_then}
use Rattle.st_ids.specs.Order.{same_node, same_field}
use Rattle.st_ids.specs.declared.names.FieldId.{FieldId}
use Rattle.st_ids.specs.declared.names.NodeId.{NodeId}
use Rattle.st_ids.proofs.Orders.{same_field-true, same_field-itself}
use Rattle.st_marks.specs.declared.changes.NewNode.{NewNode}
use Rattle.st_marks.specs.declared.intents.Intent.{Intent}
use Rattle.st_marks.specs.declared.intents.Put.{Put}
use Rattle.st_marks.specs.declared.intents.To.{To}
use Rattle.st_marks.specs.declared.marks.How.TheVariants.{Leave}
use Rattle.st_marks.specs.Document.{Document, NodeType, IsSoundInForm}
use Rattle.st_marks.specs.Intent.{IsIntent, IsKnown, new_node, new_type, is_new, put_of, put_in, clears, cell_of, register_of, Owns, same_option}
use Rattle.st_marks.specs.Join.{AreParts, IsJoin, joined_put, put_unless_new, unless_cleared_by}
use Rattle.st_marks.specs.Row.{how}
use Rattle.st_marks.proofs.Lookups.{put-has, has-put, put_in-has, has-put_in, put_clears}
use Rattle.st_marks.proofs.Members.{all-has}
use Rattle.st_register.specs.Joined.{AreRegPartsJoined, evicts}
use Rattle.st_register.specs.Register.{reg_part_of, unless_put}
use Rattle.st_register.proofs.Documents.{if_some}
use Rattle.st_marks.proofs.Shared.{not_made, old_put, held-same}
use Rattle.st_register.proofs.Occupants.{not_true, other_occupant}
use Rattle.st_register.proofs.Forms.{some_is}
use Rattle.st_lemmas.proofs.Options.{is_some-option_map_or, one_some}

-- ## Puts of an intent, from both sides

goes-in : (N : Intent) → IsIntent N → (n : NodeId) (f : FieldId) → put_of N n ≡ Some (To.Register f) → put_in N f ≡ Some n
goes-in N w n f e = has-put_in N w n f (put-has N n (To.Register f) e)

in-target_of : (N : Intent) → IsIntent N → (n : NodeId) (f : FieldId) → put_in N f ≡ Some n → put_of N n ≡ Some (To.Register f)
in-target_of N w n f e = has-put N w (record { node = n; to = To.Register f }) (put_in-has N f n e)

filled-cleared : (N : Intent) → IsIntent N → (n : NodeId) (f : FieldId) → put_in N f ≡ Some n → clears N f ≡ true
filled-cleared N w n f e = put_clears N w n f (put_in-has N f n e)

one_option : (a b : Option NodeId) → ((n : NodeId) → a ≡ Some n → b ≡ Some n) → ((n : NodeId) → b ≡ Some n → a ≡ Some n) → a ≡ b
one_option None None to from = refl
one_option None (Some n) to from = from n refl
one_option (Some n) b to from = sym (to n refl)

register_is : (f g : FieldId) → ◌≡◌ {A = Option To} (Some (To.Register f)) (Some (To.Register g)) → f ≡ g
register_is f g e = ap (λ (o : Option To). field o) e
  where
    of : To → FieldId
    of To.Nowhere = f
    of (To.Cell c) = f
    of (To.Register h) = h

    field : Option To → FieldId
    field None = f
    field (Some t) = of t

-- a put that leads into a register, leads there whether or not the node is new
unless_new : (b : Bool) (t : To) (f : FieldId) → put_unless_new b t ≡ Some (To.Register f) → t ≡ To.Register f
unless_new true To.Nowhere f e = cc
unless_new false To.Nowhere f e = cc
unless_new b (To.Cell c) f e = cc
unless_new b (To.Register g) f e = ap (λ (h : FieldId). To.Register h) (register_is g f e)

unless_old : (t : To) → put_unless_new false t ≡ Some t
unless_old To.Nowhere = refl
unless_old (To.Cell c) = refl
unless_old (To.Register g) = refl

-- a put of the first that leads into the register in spite of the second
still : (M : Intent) (t : To) (f : FieldId) → unless_cleared_by M t ≡ To.Register f → (t ≡ To.Register f) × (clears M f ≡ false)
still M To.Nowhere f e = cc
still M (To.Cell c) f e = cc
still M (To.Register g) f e =
    elim (clears M g) as (λ b. clears M g ≡ b → cond b To.Nowhere (To.Register g) ≡ To.Register f → (To.Register g ≡ To.Register f) × (clears M f ≡ false)) [
      | true ↦ λ c h. cc
      | false ↦ λ c h. (h, ap (clears M) (sym (register_is g f (ap (λ (t : To). Some t) h))) ∙ c)
    ] refl e

abbrev type_of : NewNode → NodeType
type_of m = record { ty = m.ty; leaf = m.leaf }

module _ (D : Document) (N M J : Intent) (f : FieldId) (x : IsSoundInForm D) (p : AreParts D N M) (j : IsJoin N M J) where
  -- whom both parts put there, by the second and what it leaves of the first
  abbrev at_last : Option NodeId
  at_last = option_or (put_in M f) (cond (clears M f) None (unless_put (put_of M) (put_in N f)))

  abbrev first : IsIntent N
  first = p.first_fits.itself

  abbrev next : IsIntent M
  next = p.then_fits.itself

  fill_to : (n : NodeId) → put_in J f ≡ Some n → at_last ≡ Some n
  fill_to n e = go (put_of M n) refl (put_of N n) refl (sym (j.puts n) ∙ in-target_of J j.itself n f e)
    where
      nobody : clears M f ≡ false → (q : Option NodeId) → put_in M f ≡ q → q ≡ None
      nobody c None h = refl
      nobody c (Some q) h = absurd (not_true c (filled-cleared M next q f h))

      go : (a : Option To) → put_of M n ≡ a → (b : Option To) → put_of N n ≡ b → option_and_then (put_unless_new (is_new N n)) (option_or a (option_map (unless_cleared_by M) b)) ≡ Some (To.Register f) → at_last ≡ Some n
      go (Some t) a b c h =
          let there : put_in M f ≡ Some n = goes-in M next n f (a ∙ ap (λ (s : To). Some s) (unless_new (is_new N n) t f h)) in
          ap (λ (q : Option NodeId). option_or q (cond (clears M f) None (unless_put (put_of M) (put_in N f)))) there
      go None a (Some t) c h =
          let s : (t ≡ To.Register f) × (clears M f ≡ false) = still M t f (unless_new (is_new N n) (unless_cleared_by M t) f h) in
          let there : put_in N f ≡ Some n = goes-in N first n f (c ∙ ap (λ (k : To). Some k) s.0) in
          let none : put_in M f ≡ None = nobody s.1 (put_in M f) refl in
          rw (none, s.1, there, a) refl
      go None a None c h = cc

  fill_from : (n : NodeId) → at_last ≡ Some n → put_in J f ≡ Some n
  fill_from n e = goes-in J j.itself n f (j.puts n ∙ by_second (put_in M f) refl e)
    where
      by_first : (q : Option NodeId) → put_in N f ≡ q → clears M f ≡ false → unless_put (put_of M) q ≡ Some n → joined_put N M n ≡ Some (To.Register f)
      by_first None g c h = cc
      by_first (Some q) g c h = go (put_of M q) refl h
        where
          go : (a : Option To) → put_of M q ≡ a → cond (is_some a) None (Some q) ≡ Some n → joined_put N M n ≡ Some (To.Register f)
          go None a k =
              let same : q ≡ n = one_some q n k in
              let unput : put_of M n ≡ None = ap (put_of M) (sym same) ∙ a in
              let put : put_of N n ≡ Some (To.Register f) = in-target_of N first n f (g ∙ k) in
              rw (unput, put, c) refl
          go (Some t) a k = cc

      cleared : (b : Bool) → clears M f ≡ b → cond b None (unless_put (put_of M) (put_in N f)) ≡ Some n → joined_put N M n ≡ Some (To.Register f)
      cleared true c h = cc
      cleared false c h = by_first (put_in N f) refl c h

      by_second : (q : Option NodeId) → put_in M f ≡ q → option_or q (cond (clears M f) None (unless_put (put_of M) (put_in N f))) ≡ Some n → joined_put N M n ≡ Some (To.Register f)
      by_second (Some q) g h =
          let put : put_of M n ≡ Some (To.Register f) = in-target_of M next n f (g ∙ h) in
          rw put refl
      by_second None g h = cleared (clears M f) refl h

  fill_is : put_in J f ≡ at_last
  fill_is = one_option (put_in J f) at_last fill_to fill_from

  -- ## How an occupant goes

  abbrev told : NodeId → Option To
  told n = cond ((clears N f && not (is_some (put_of N n))) && not (same_option same_node (put_in M f) (Some n))) None
      (option_or (put_of M n) (cond (same_option same_node (put_in N f) (Some n) && clears M f) (Some To.Nowhere) (put_of N n)))

  not_filled : (K : Intent) → IsIntent K → (n : NodeId) (o : Option To) → put_of K n ≡ o → o ≢ Some (To.Register f) → same_option same_node (put_in K f) (Some n) ≡ false
  not_filled K w n o e h = other_occupant (put_in K f) (Some n) (λ k. h (sym e ∙ in-target_of K w n f k))

  -- the second puts it somewhere
  by_next : (n : NodeId) (t : To) → put_of M n ≡ Some t → (IsTrue (clears N f && not (is_some (put_of N n))) → (put_of M n ≡ None) ⊎ (put_in M f ≡ Some n)) → Some t ≡ told n
  by_next n t e h = rw e (go (clears N f && not (is_some (put_of N n))) refl (same_option same_node (put_in M f) (Some n)) refl)
    where
      none : same_option same_node (put_in M f) (Some n) ≡ false → (put_of M n ≡ None) ⊎ (put_in M f ≡ Some n) → ⊥
      none s (inl k) = let q : ◌≡◌ {A = Option To} (Some t) None = sym e ∙ k in cc
      none s (inr k) = not_true s (held-same (put_in M f) (Some n) k)

      go : (a : Bool) → (clears N f && not (is_some (put_of N n))) ≡ a → (b : Bool) → same_option same_node (put_in M f) (Some n) ≡ b → ◌≡◌ {A = Option To} (Some t) (cond (a && not b) None (Some t))
      go true a true b = refl
      go true a false b = absurd (none b (h a))
      go false a b c = refl

  -- the first puts it somewhere, and the second doesn't
  by_first : (n : NodeId) (t : To) → put_of N n ≡ Some t → how (Some (unless_cleared_by M t)) (To.Register f) ≡ how (cond (same_option same_node (put_in N f) (Some n) && clears M f) (Some To.Nowhere) (Some t)) (To.Register f)
  by_first n To.Nowhere e = rw (not_filled N first n (Some To.Nowhere) e (λ k. cc)) refl
  by_first n (To.Cell c) e = rw (not_filled N first n (Some (To.Cell c)) e (λ k. cc)) refl
  by_first n (To.Register g) e = go (same_field g f) refl
    where
      go : (b : Bool) → same_field g f ≡ b → how (Some (unless_cleared_by M (To.Register g))) (To.Register f) ≡ how (cond (same_option same_node (put_in N f) (Some n) && clears M f) (Some To.Nowhere) (Some (To.Register g))) (To.Register f)
      go true s =
          let same : g ≡ f = same_field-true g f s in
          let there : put_in N f ≡ Some n = goes-in N first n f (e ∙ ap (λ (h : FieldId). Some (To.Register h)) same) in
          rw (held-same (put_in N f) (Some n) there, ap (clears M) same)
          (elim (clears M f) as (λ b. how (Some (cond b To.Nowhere (To.Register g))) (To.Register f) ≡ how (cond (true && b) (Some To.Nowhere) (Some (To.Register g))) (To.Register f)) [ true ↦ refl | false ↦ refl ])
      go false s =
          let away : same_option same_node (put_in N f) (Some n) ≡ false = not_filled N first n (Some (To.Register g)) e (λ k. not_true s (ap (λ (h : FieldId). same_field h f) (register_is g f k) ∙ same_field-itself f)) in
          rw (away, s) (elim (clears M g) as (λ b. how (Some (cond b To.Nowhere (To.Register g))) (To.Register f) ≡ Leave) [ true ↦ refl | false ↦ rw s refl ])

  -- neither does, or the first alone
  by_neither : (n : NodeId) → put_of M n ≡ None → (b : Option To) → put_of N n ≡ b → how (option_map (unless_cleared_by M) (put_of N n)) (To.Register f) ≡ how (told n) (To.Register f)
  by_neither n e None g =
      rw (e, g, not_filled M next n None e (λ k. cc), not_filled N first n None g (λ k. cc))
      (elim (clears N f) as (λ b. how None (To.Register f) ≡ how (cond {A = Option To} ((b && true) && true) None None) (To.Register f)) [ true ↦ refl | false ↦ refl ])
  by_neither n e (Some t) g =
      rw (e, g, not_filled M next n None e (λ k. cc))
      (elim (clears N f) as (λ b. how (Some (unless_cleared_by M t)) (To.Register f) ≡ how (cond ((b && false) && true) None (cond (same_option same_node (put_in N f) (Some n) && clears M f) (Some To.Nowhere) (Some t))) (To.Register f)) [
        | true ↦ by_first n t g
        | false ↦ by_first n t g
      ])

  goes_is : (n : NodeId) → D.held f ≡ Some n → (IsTrue (clears N f && not (is_some (put_of N n))) → (put_of M n ≡ None) ⊎ (put_in M f ≡ Some n)) → how (put_of J n) (To.Register f) ≡ how (told n) (To.Register f)
  goes_is n e h = ap (λ (o : Option To). how o (To.Register f)) (j.puts n ∙ joined) ∙ go (put_of M n) refl
    where
      joined : joined_put N M n ≡ option_or (put_of M n) (option_map (unless_cleared_by M) (put_of N n))
      joined = ap (λ (b : Bool). option_and_then (put_unless_new b) (option_or (put_of M n) (option_map (unless_cleared_by M) (put_of N n)))) (not_made D N p.first_fits n (x.held_known n f e).0) ∙ old_put _

      go : (a : Option To) → put_of M n ≡ a → how (option_or (put_of M n) (option_map (unless_cleared_by M) (put_of N n))) (To.Register f) ≡ how (told n) (To.Register f)
      go None a = ap (λ (o : Option To). how (option_or o (option_map (unless_cleared_by M) (put_of N n))) (To.Register f)) a ∙ by_neither n a (put_of N n) refl
      go (Some t) a = ap (λ (o : Option To). how (option_or o (option_map (unless_cleared_by M) (put_of N n))) (To.Register f)) a ∙ ap (λ (o : Option To). how o (To.Register f)) (by_next n t a h)

  -- ## Which nodes are new

  new_is : (n : NodeId) → is_new J n ≡ (is_new N n || is_new M n)
  new_is n = ap (λ (o : Option NewNode). is_some (option_map type_of o)) (j.new_nodes n) ∙ is_some-option_map_or type_of (new_node N n) (new_node M n)

  -- a node that the second makes, and the first doesn't, is put there by the second
  made_put : (n : NodeId) → put_in J f ≡ Some n → is_new N n ≡ false → is_new M n ≡ true → put_in M f ≡ Some n
  made_put n e a b = go (put_in M f) refl (fill_to n e)
    where
      known : put_in N f ≡ Some n → ⊥
      known h = absurd (elim (all-has (λ (q : Put). IsKnown D N q.node × IfSome (cell_of q.to) (Owns D N q.node) × IfSome (register_of q.to) (λ g. IsKnown D N g.node)) N.put (record { node = n; to = To.Register f }) p.first_fits.puts_known (put_in-has N f n h)).0 [
        | inl k ↦ not_true a k
        | inr k ↦ not_true (ap is_some (p.then_fits.fresh_nodes n b)) (there (D.nodes n) k)
      ])
        where
          there : (o : Option NodeType) → IsSome o → is_some (option_or o (new_type N n)) ≡ true
          there None k = absurd (not_true {b = false} refl k)
          there (Some t) k = refl

      left : (c : Bool) → (q : Option NodeId) → put_in N f ≡ q → cond c None (unless_put (put_of M) q) ≡ Some n → ⊥
      left true q g h = cc
      left false None g h = cc
      left false (Some q) g h = put (is_some (put_of M q)) h
        where
          put : (c : Bool) → cond c None (Some q) ≡ Some n → ⊥
          put true k = cc
          put false k = known (g ∙ k)

      go : (q : Option NodeId) → put_in M f ≡ q → option_or q (cond (clears M f) None (unless_put (put_of M) (put_in N f))) ≡ Some n → put_in M f ≡ Some n
      go (Some q) g h = g ∙ h
      go None g h = absurd (left (clears M f) (put_in N f) refl h)

  made_is : (n : NodeId) → put_in J f ≡ Some n → (IsTrue (is_new N n) → put_in N f ≡ Some n)
      → is_new J n ≡ ((same_option same_node (put_in N f) (Some n) && is_new N n) || (same_option same_node (put_in M f) (Some n) && is_new M n))
  made_is n e h = new_is n ∙ go (is_new N n) refl (is_new M n) refl
    where
      none : (c d : Bool) → ((c && false) || (d && false)) ≡ false
      none true true = refl
      none true false = refl
      none false true = refl
      none false false = refl

      go : (a : Bool) → is_new N n ≡ a → (b : Bool) → is_new M n ≡ b → (is_new N n || is_new M n) ≡ ((same_option same_node (put_in N f) (Some n) && is_new N n) || (same_option same_node (put_in M f) (Some n) && is_new M n))
      go true a b c = rw (a, held-same (put_in N f) (Some n) (h a)) refl
      go false a true c =
          rw (a, c, held-same (put_in M f) (Some n) (made_put n e a c)) (elim (same_option same_node (put_in N f) (Some n)) as (λ d. true ≡ ((d && false) || true)) [ true ↦ refl | false ↦ refl ])
      go false a false c = rw (a, c) (sym (none (same_option same_node (put_in N f) (Some n)) (same_option same_node (put_in M f) (Some n))))

pub parts_join : (D : Document) (N M J : Intent) (m k l : NodeId → Bool) (f : FieldId) → IsSoundInForm D → AreParts D N M → IsJoin N M J
    → IfSome (D.held f) (λ n. IsTrue (evicts (reg_part_of m N f) n) → (put_of M n ≡ None) ⊎ (put_in M f ≡ Some n))
    → IfSome (put_in J f) (λ n. IsTrue (is_new N n) → put_in N f ≡ Some n)
    → AreRegPartsJoined (reg_part_of m N f) (reg_part_of k M f) (record { node = D.held f }) (reg_part_of l J f)
parts_join D N M J m k l f x p j h g = record {
  field = (refl, refl);
  rev = sym j.rev;
  clear = j.clears_both f;
  fill = fill_is D N M J f x p j;
  target_of = if_some (D.held f) _ (λ n e. goes_is D N M J f x p j n e (some_is (D.held f) _ n h e));
  in_new = new_is D N M J f x p j f.node;
  made = if_some (put_in J f) _ (λ n e. made_is D N M J f x p j n e (some_is (put_in J f) _ n g e));
}
