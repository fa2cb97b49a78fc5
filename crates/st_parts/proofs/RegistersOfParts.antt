-- A register of two parts of one commit, told together, is the register's mark of both as one.
use Rattle.std.proofs.Common.{◌≡◌, ◌⊎◌, inl, inr, Bool, true, false, ◌&&◌, ◌||◌, Option, Some, None, MatchOption, cond, refl, sym, ap, ◌∙◌, subst, IsSome, is_some, option_map, option_and_then}
use Rattle.std.specs.Option.{option_or}
use Rattle.st_ids.specs.Order.{same_node}
use Rattle.st_ids.proofs.Orders.{same_node-true}
use Rattle.st_ids.specs.declared.names.FieldId.{FieldId}
use Rattle.st_ids.specs.declared.names.NodeId.{NodeId}
use Rattle.st_kind.specs.Named.{Nodes}
use Rattle.st_lemmas.proofs.Bools.{or-false, refuted-false, true-false}
use Rattle.st_lemmas.proofs.Options.{one_some}
use Rattle.st_marks.specs.declared.intents.Intent.{Intent}
use Rattle.st_marks.specs.declared.intents.To.{To}
use Rattle.st_marks.specs.declared.marks.How.TheVariants.{Stay}
use Rattle.st_marks.specs.declared.marks.RegMark.{RegMark}
use Rattle.st_marks.specs.Back.{is_in}
use Rattle.st_marks.specs.CarryOut.{full, unless_put}
use Rattle.st_marks.specs.Document.{Document, IsSoundInForm}
use Rattle.st_marks.specs.Embedding.{register_part}
use Rattle.st_marks.specs.How.{is_here}
use Rattle.st_marks.specs.Intent.{IsIntent, clears, is_new, put_in, put_of}
use Rattle.st_marks.specs.Join.{AreParts, IsJoin, put_unless_new, unless_cleared_by}
use Rattle.st_marks.specs.Register.{comes_in, embed_register, holds_mentioned, how_held}
use Rattle.st_marks.specs.Row.{how}
use Rattle.st_marks.proofs.Lookups.{has-put, has-put_in, put-has, put_clears, put_in-has}
use Rattle.st_puts.proofs.ListedIf.{or_parts}
use Rattle.st_puts.proofs.PutsOfIntents.{is_here-put, put-is_here}
use Rattle.st_part_listings.specs.Together.{how_it_goes, if_it_goes, mark_joined, put_there}
use Rattle.st_parts.specs.JoinedParts.{named_by_parts, register_joined}
use Rattle.st_parts.specs.TrimmedChange.{mark_of}

-- ## Whom one part puts into a register

module _ (N : Intent) (w : IsIntent N) (f : FieldId) where
  goes_in : (n : NodeId) → put_of N n ≡ Some (To.Register f) → put_in N f ≡ Some n
  goes_in n e = has-put_in N w n f (put-has N n (To.Register f) e)

  in_goes : (n : NodeId) → put_in N f ≡ Some n → put_of N n ≡ Some (To.Register f)
  in_goes n e = has-put N w (record { node = n; to = To.Register f }) (put_in-has N f n e)

  -- one that isn't cleared gets nobody
  no_put : clears N f ≡ false → put_in N f ≡ None
  no_put c = go (put_in N f) refl
    where
      go : (o : Option NodeId) → put_in N f ≡ o → put_in N f ≡ None
      go None e = e
      go (Some n) e = absurd (true-false (put_clears N w n f (put_in-has N f n e)) c)

  -- whom its mark puts there the part puts there
  mark_tells_put : (m : Nodes) (h : Option NodeId) → option_or (comes_in h (put_in N f)) (cond (is_here (how_held f (register_part m N f) h)) h None) ≡ put_in N f
  mark_tells_put m None = go (put_in N f)
    where
      go : (p : Option NodeId) → option_or (comes_in None p) (cond {A = Option NodeId} (is_here Stay) None None) ≡ p
      go None = refl
      go (Some y) = refl
  mark_tells_put m (Some n) = go (put_in N f) refl
    where
      go : (p : Option NodeId) → put_in N f ≡ p → option_or (comes_in (Some n) p) (cond (is_here (how (put_of N n) (To.Register f))) (Some n) None) ≡ p
      go None e =
          let away : is_here (how (put_of N n) (To.Register f)) ≡ false = refuted-false (is_here (how (put_of N n) (To.Register f))) (λ h. let bad : ◌≡◌ {A = Option NodeId} None (Some n) = sym e ∙ goes_in n (is_here-put (put_of N n) (To.Register f) h) in cc) in
          ap (λ b. cond {A = Option NodeId} b (Some n) None) away
      go (Some y) e = at (same_node n y) refl
        where
          at : (b : Bool) → same_node n y ≡ b → option_or (cond b None (Some y)) (cond (is_here (how (put_of N n) (To.Register f))) (Some n) None) ≡ Some y
          at false q = refl
          at true q =
              let same : n ≡ y = same_node-true n y q in
              let here : is_here (how (put_of N n) (To.Register f)) ≡ true = ap is_here (put-is_here (put_of N n) (To.Register f) (ap (put_of N) same ∙ in_goes y e)) in
              ap (λ b. cond {A = Option NodeId} b (Some n) None) here ∙ ap (λ k. Some k) same

-- ## Both parts

-- a put that leads into a register, whether or not the node is new
unless_new_in : (b : Bool) (t : To) (f : FieldId) → put_unless_new b t ≡ Some (To.Register f) → t ≡ To.Register f
unless_new_in true To.Nowhere f e = cc
unless_new_in false To.Nowhere f e = cc
unless_new_in b (To.Cell c) f e = cc
unless_new_in b (To.Register g) f e = one_some (To.Register g) (To.Register f) e

-- a put of the first that leads into the register in spite of the second
in_spite : (M : Intent) (t : To) (f : FieldId) → unless_cleared_by M t ≡ To.Register f → t ≡ To.Register f
in_spite M To.Nowhere f e = cc
in_spite M (To.Cell c) f e = cc
in_spite M (To.Register g) f e = go (clears M g) e
  where
    go : (b : Bool) → cond b To.Nowhere (To.Register g) ≡ To.Register f → To.Register g ≡ To.Register f
    go true h = cc
    go false h = h

module _ (D : Document) (N M J : Intent) (x : IsSoundInForm D) (p : AreParts D N M) (j : IsJoin N M J) (goes : NodeId → Option To) (so : (n : NodeId) → goes n ≡ put_of J n) (f : FieldId) where
  abbrev first : IsIntent N
  first = p.first_fits.itself

  abbrev next : IsIntent M
  next = p.then_fits.itself

  -- who goes there goes there by both together
  it_goes : (o : Option NodeId) (n : NodeId) → if_it_goes goes (To.Register f) o ≡ Some n → put_in J f ≡ Some n
  it_goes None n e = cc
  it_goes (Some q) n e = go (is_here (how (goes q) (To.Register f))) refl e
    where
      go : (b : Bool) → is_here (how (goes q) (To.Register f)) ≡ b → cond b (Some q) None ≡ Some n → put_in J f ≡ Some n
      go false h e = cc
      go true h e = ap (put_in J) refl ∙ goes_in J j.itself f q (sym (so q) ∙ is_here-put (goes q) (To.Register f) h) ∙ e

  it_comes : (n : NodeId) → put_of J n ≡ Some (To.Register f) → if_it_goes goes (To.Register f) (Some n) ≡ Some n
  it_comes n e = ap (λ b. cond {A = Option NodeId} b (Some n) None) (ap is_here (put-is_here (goes n) (To.Register f) (so n ∙ e)))

  -- whom both put there one of the two puts there
  of_which : (n : NodeId) → put_in J f ≡ Some n → (put_in M f ≡ Some n) ⊎ (put_in N f ≡ Some n)
  of_which n e = go (put_of M n) refl (put_of N n) refl (sym (j.puts n) ∙ in_goes J j.itself f n e)
    where
      go : (a : Option To) → put_of M n ≡ a → (b : Option To) → put_of N n ≡ b → option_and_then (put_unless_new (is_new N n)) (option_or a (option_map (unless_cleared_by M) b)) ≡ Some (To.Register f)
          → (put_in M f ≡ Some n) ⊎ (put_in N f ≡ Some n)
      go (Some t) q b r h = inl (goes_in M next f n (q ∙ ap (λ (s : To). Some s) (unless_new_in (is_new N n) t f h)))
      go None q (Some t) r h = inr (goes_in N first f n (r ∙ ap (λ (s : To). Some s) (in_spite M t f (unless_new_in (is_new N n) (unless_cleared_by M t) f h))))
      go None q None r h = cc

  abbrev at_last : Option NodeId
  at_last = option_or (if_it_goes goes (To.Register f) (put_in M f)) (if_it_goes goes (To.Register f) (put_in N f))

  put_at_last : at_last ≡ put_in J f
  put_at_last = go (if_it_goes goes (To.Register f) (put_in M f)) refl (if_it_goes goes (To.Register f) (put_in N f)) refl (put_in J f) refl
    where
      there : (n : NodeId) (o : Option NodeId) → put_in J f ≡ Some n → o ≡ Some n → if_it_goes goes (To.Register f) o ≡ None → ⊥
      there n o q r e = let bad : ◌≡◌ {A = Option NodeId} None (Some n) = sym e ∙ ap (if_it_goes goes (To.Register f)) r ∙ it_comes n (in_goes J j.itself f n q) in cc

      go : (a : Option NodeId) → if_it_goes goes (To.Register f) (put_in M f) ≡ a → (b : Option NodeId) → if_it_goes goes (To.Register f) (put_in N f) ≡ b → (c : Option NodeId) → put_in J f ≡ c → option_or a b ≡ put_in J f
      go (Some n) e b g c q = sym (it_goes (put_in M f) n e)
      go None e (Some n) g c q = sym (it_goes (put_in N f) n g)
      go None e None g None q = sym q
      go None e None g (Some n) q = absurd (elim (of_which n q) [ inl r ↦ there n (put_in M f) q r e | inr r ↦ there n (put_in N f) q r g ])

  -- how the occupant goes
  how_same : (h : Option NodeId) → how_it_goes goes (To.Register f) h ≡ how_held f (register_part (λ n. true) J f) h
  how_same None = refl
  how_same (Some n) = ap (λ o. how o (To.Register f)) (so n)

  module _ (m k : Nodes) (put_named : (n : NodeId) (t : To) → put_of N n ≡ Some t → IsSome (D.nodes n) → m n ≡ true) where
    -- an occupant that the first neither evicts nor mentions stays
    held_still : clears N f ≡ false → holds_mentioned m (D.held f) ≡ false → (full D N).held f ≡ D.held f
    held_still c h = (λ i. option_or (no_put N first f c i) (cond (c i) None (unless_put N (D.held f)))) ∙ go (D.held f) refl h
      where
        go : (o : Option NodeId) → D.held f ≡ o → holds_mentioned m o ≡ false → unless_put N o ≡ o
        go None e h = refl
        go (Some n) e h = at (put_of N n) refl
          where
            at : (q : Option To) → put_of N n ≡ q → cond (is_some q) None (Some n) ≡ Some n
            at None r = refl
            at (Some t) r = absurd (true-false (put_named n t r (x.held_known n f e).0) h)

    abbrev r0 : RegMark
    r0 = record { field = f; held = D.held f; how = how_held f (register_part m N f) (D.held f); clear = clears N f; fill = comes_in (D.held f) (put_in N f) }

    abbrev t0 : RegMark
    t0 = record { field = f; held = (full D N).held f; how = how_held f (register_part k M f) ((full D N).held f); clear = clears M f; fill = comes_in ((full D N).held f) (put_in M f) }

    -- the mark, by what it has
    mark_is : (clear : Bool) (gets : Option NodeId) → clear ≡ clears J f → gets ≡ put_in J f → mark_joined goes f (D.held f) clear gets ≡ mark_of D J f
    mark_is clear gets c g = λ i. record { field = f; held = D.held f; how = how_same (D.held f) i; clear = c i; fill = comes_in (D.held f) (g i) }

    pub register_told : (s t : Option RegMark) → embed_register f (register_part m N f) (D.held f) ≡ s → embed_register f (register_part k M f) ((full D N).held f) ≡ t
        → MatchOption (register_joined goes f s t) (embed_register f (register_part (named_by_parts D m k) J f) (D.held f) ≡ None) (λ r. r ≡ mark_of D J f)
    register_told s t e g = by (clears N f || holds_mentioned m (D.held f)) refl (clears M f || holds_mentioned k ((full D N).held f)) refl
      where
        Goal : Option RegMark → Option RegMark → Type 0
        Goal s t = MatchOption (register_joined goes f s t) (embed_register f (register_part (named_by_parts D m k) J f) (D.held f) ≡ None) (λ r. r ≡ mark_of D J f)

        told : (a b : Bool) → (clears N f || holds_mentioned m (D.held f)) ≡ a → (clears M f || holds_mentioned k ((full D N).held f)) ≡ b → Goal (cond a (Some r0) None) (cond b (Some t0) None)
        told true true u v =
            mark_is (clears N f || clears M f) (option_or (if_it_goes goes (To.Register f) (put_there t0)) (if_it_goes goes (To.Register f) (put_there r0))) (sym (j.clears_both f))
            ((λ i. option_or (if_it_goes goes (To.Register f) (mark_tells_put M next f k ((full D N).held f) i)) (if_it_goes goes (To.Register f) (mark_tells_put N first f m (D.held f) i))) ∙ put_at_last)
        told true false u v =
            let c = (or_parts (clears M f) (holds_mentioned k ((full D N).held f)) v).0 in
            mark_is (clears N f) (if_it_goes goes (To.Register f) (put_there r0)) (sym (j.clears_both f ∙ ap (λ b. clears N f || b) c ∙ or-false (clears N f)))
            (ap (if_it_goes goes (To.Register f)) (mark_tells_put N first f m (D.held f)) ∙ ap (λ o. option_or (if_it_goes goes (To.Register f) o) (if_it_goes goes (To.Register f) (put_in N f))) (sym (no_put M next f c)) ∙ put_at_last)
        told false true u v =
            let c = or_parts (clears N f) (holds_mentioned m (D.held f)) u in
            ap (λ h. mark_joined goes f h (clears M f) (if_it_goes goes (To.Register f) (put_there t0))) (held_still c.0 c.1)
            ∙ mark_is (clears M f) (if_it_goes goes (To.Register f) (put_there t0)) (sym (j.clears_both f ∙ ap (λ b. b || clears M f) c.0))
            (ap (if_it_goes goes (To.Register f)) (mark_tells_put M next f k ((full D N).held f)) ∙ last c.0 ∙ put_at_last)
          where
            last : clears N f ≡ false → if_it_goes goes (To.Register f) (put_in M f) ≡ at_last
            last c = go (if_it_goes goes (To.Register f) (put_in M f)) ∙ ap (λ o. option_or (if_it_goes goes (To.Register f) (put_in M f)) (if_it_goes goes (To.Register f) o)) (sym (no_put N first f c))
              where
                go : (o : Option NodeId) → o ≡ option_or o None
                go None = refl
                go (Some y) = refl
        told false false u v =
            let c = or_parts (clears N f) (holds_mentioned m (D.held f)) u in
            let d = or_parts (clears M f) (holds_mentioned k ((full D N).held f)) v in
            let clear : clears J f ≡ false = j.clears_both f ∙ (λ i. c.0 i || d.0 i) in
            let named : holds_mentioned (named_by_parts D m k) (D.held f) ≡ false = unnamed (D.held f) c.1 (ap (holds_mentioned k) (sym (held_still c.0 c.1)) ∙ d.1) in
            ap (λ b. cond {A = Option RegMark} b (Some (record { field = f; held = D.held f; how = how_held f (register_part (named_by_parts D m k) J f) (D.held f); clear = clears J f; fill = comes_in (D.held f) (put_in J f) })) None) (λ i. clear i || named i)
          where
            unnamed : (o : Option NodeId) → holds_mentioned m o ≡ false → holds_mentioned k o ≡ false → holds_mentioned (named_by_parts D m k) o ≡ false
            unnamed None a b = refl
            unnamed (Some n) a b = λ i. a i || (b i && is_in D n)

        by : (a : Bool) → (clears N f || holds_mentioned m (D.held f)) ≡ a → (b : Bool) → (clears M f || holds_mentioned k ((full D N).held f)) ≡ b → Goal s t
        by a u b v = subst_both (sym (ap (λ z. cond {A = Option RegMark} z (Some r0) None) u) ∙ e) (sym (ap (λ z. cond {A = Option RegMark} z (Some t0) None) v) ∙ g) (told a b u v)
          where
            subst_both : cond {A = Option RegMark} a (Some r0) None ≡ s → cond {A = Option RegMark} b (Some t0) None ≡ t → Goal (cond a (Some r0) None) (cond b (Some t0) None) → Goal s t
            subst_both p q h = subst (λ s. Goal s t) p (subst (λ t. Goal (cond a (Some r0) None) t) q h)
