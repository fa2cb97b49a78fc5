-- The way back over an intent names what the intent names, and is the way back between the parts.
use Rattle.std.proofs.Common.{◌≡◌, ◌≢◌, ◌↔◌, Bool, true, false, Option, Some, None, IsSome, MatchOption, refl, sym, ap, ◌∙◌, subst}
use Rattle.std.specs.List.{flat_map}
use Rattle.std.specs.Option.{option_map_or}
use Rattle.std.specs.Prelude.{if◌then◌else◌}
use Rattle.st_lemmas.proofs.Bools.{true-false}
use Rattle.st_ids.specs.Listing.{Has}
use Rattle.st_ids.specs.Order.{same_field}
use Rattle.st_ids.specs.declared.names.FieldId.{FieldId}
use Rattle.st_ids.specs.declared.names.NodeId.{NodeId}
use Rattle.st_ids.specs.declared.names.Rev.{Rev}
use Rattle.st_ids.proofs.Orders.{same_field-itself}
use Rattle.st_marks.specs.declared.intents.Group.{Group}
use Rattle.st_marks.specs.declared.intents.Intent.{Intent}
use Rattle.st_marks.specs.declared.intents.To.{To}
use Rattle.st_marks.specs.declared.places.Spot.{Spot}
use Rattle.st_marks.specs.Back.{IsBack, is_in, place_back, to_of}
use Rattle.st_marks.specs.CarryOut.{full, place_after, spot_of, unless_cleared, with_names}
use Rattle.st_marks.specs.Document.{Document, NodeType, above, node_of}
use Rattle.st_marks.specs.Extends.{IsExtendedBy}
use Rattle.st_marks.specs.Intent.{Fits, clears, is_new, put_in, put_of}
use Rattle.st_marks.proofs.Climb.{unknown_nowhere}
use Rattle.st_marks.proofs.Lookups.{clears-has, has-put, put_in-has}
use Rattle.st_marks.proofs.Members.{has-any}
use Rattle.st_marks.proofs.WayBack.{leads_back}
use Rattle.st_part_laws.specs.Parts.{IsClosedBy, NamesWithin, part_by}

-- ## What the way back names

module _ (p : NodeId → Bool) (D : Document) (N : Intent) (x : IsExtendedBy D (full D N)) (closed : IsClosedBy p D) (f : Fits D N) (w : NamesWithin p D N) where
  -- a node that stands elsewhere after the intent
  moved_within : (n : NodeId) → D.place n ≢ (full D N).place n → p n ≡ true
  moved_within n apart = go (put_of N n) refl
    where
      cleared : put_of N n ≡ None → (s : Spot) → D.place n ≡ s → (s ≢ unless_cleared N s) → p n ≡ true
      cleared q Spot.Nowhere e away = absurd (away refl)
      cleared q (Spot.Row r c) e away = absurd (away refl)
      cleared q (Spot.Register g) e away = at (clears N g) refl
        where
          at : (b : Bool) → clears N g ≡ b → p n ≡ true
          at true c = closed n g.node (ap node_of e) ∙ w.clears g (clears-has N.clear g c)
          at false c = absurd (away (rw c refl))

      go : (o : Option To) → put_of N n ≡ o → p n ≡ true
      go (Some to) q = w.puts n to q
      go None q = cleared q (D.place n) refl (λ e. apart (e ∙ sym (ap (λ o. place_after (with_names D N).row_of N o (D.place n)) q)))

  -- a register with another occupant after it
  held_within : (r : FieldId) → D.held r ≢ (full D N).held r → p r.node ≡ true
  held_within r apart = go (put_in N r) refl
    where
      left : put_in N r ≡ None → clears N r ≡ false → (o : Option NodeId) → D.held r ≡ o → p r.node ≡ true
      left q c None h = absurd (apart (rw (q, c, h) refl))
      left q c (Some m) h = at (put_of N m) refl
        where
          at : (o : Option To) → put_of N m ≡ o → p r.node ≡ true
          at None e = absurd (apart (rw (q, c, h, e) refl))
          at (Some to) e = sym (closed m r.node (ap node_of ((x.before.one_held m r).0 h))) ∙ w.puts m to e

      go : (o : Option NodeId) → put_in N r ≡ o → p r.node ≡ true
      go (Some m) q = w.targets m r.node (To.Register r) (has-put N f.itself (record { node = m; to = To.Register r }) (put_in-has N r m q)) refl
      go None q = at (clears N r) refl
        where
          at : (b : Bool) → clears N r ≡ b → p r.node ≡ true
          at true c = w.clears r (clears-has N.clear r c)
          at false c = left q c (D.held r) refl

  -- a node that goes back goes where it stood
  back_before : (n : NodeId) → place_back D (full D N) n ≢ (full D N).place n → place_back D (full D N) n ≡ D.place n
  back_before n apart = go (D.nodes n) refl (option_map_or (is_in D) (node_of ((full D N).place n)) false) refl
    where
      go : (o : Option NodeType) → D.nodes n ≡ o → (b : Bool) → option_map_or (is_in D) (node_of ((full D N).place n)) false ≡ b → place_back D (full D N) n ≡ D.place n
      go (Some t) e b h = rw e refl
      go None e true h = rw (e, h) (sym (unknown_nowhere D x.before n e))
      go None e false h = absurd (apart (rw (e, h) refl))

  module _ (rev under : Rev) (B : Intent) (b : IsBack D (full D N) rev under B) where
    put_back : (n : NodeId) (to : To) → put_of B n ≡ Some to → place_back D (full D N) n ≢ (full D N).place n
    put_back n to e =
        let k = subst (λ o. MatchOption o (place_back D (full D N) n ≡ (full D N).place n) (λ to. (place_back D (full D N) n ≢ (full D N).place n) × (to ≡ to_of (place_back D (full D N) n)))) e (b.puts_what_differs n) in
        k.0

    back_within : (n : NodeId) (to : To) → put_of B n ≡ Some to → p n ≡ true
    back_within n to e =
        let apart = put_back n to e in
        moved_within n (λ same. apart (back_before n apart ∙ same))

    target_back : (m n : NodeId) (to : To) → put_of B m ≡ Some to → node_of (spot_of (with_names (full D N) B).row_of to) ≡ Some n → p n ≡ true
    target_back m n to e k =
        let at : spot_of (with_names (full D N) B).row_of to ≡ place_back D (full D N) m =
        ap (λ o. place_after (with_names (full D N) B).row_of B o ((full D N).place m)) (sym e) ∙ ap (λ (F : Document). F.place m) (leads_back D (full D N) x rev under B b) in
        let stood : above D m ≡ Some n = ap node_of (sym (at ∙ back_before m (put_back m to e))) ∙ k in
        sym (closed m n stood) ∙ back_within m to e

    clear_back : (r : FieldId) → Has B.clear r → p r.node ≡ true
    clear_back r h = held_within r ((b.clears_what_differs r).0 (has-any (λ g. same_field g r) B.clear r h (same_field-itself r))).1

    no_group : (g : Group) → Has B.groups g → ⊥
    no_group g h = subst (λ gs. Has gs g) b.nothing_new.1 h

    pub way_within : NamesWithin p (full D N) B
    way_within = record {
      new = λ n e. (let bad : false ≡ true = subst (λ ms. is_new (record B { new = ms }) n ≡ true) b.nothing_new.0 e in cc);
      groups = λ g h. absurd (no_group g h);
      owners = λ o h. absurd (subst (λ gs. Has (flat_map (λ (g : Group). g.cells) gs) o) b.nothing_new.1 h);
      anchors = λ g n o h e i. absurd (no_group g h);
      puts = back_within;
      targets = target_back;
      clears = clear_back;
      needs = λ n h. absurd (subst (λ ns. Has ns n) b.nothing_new.2 h);
    }

-- ## The way back between the parts

-- what `IsBack` says of a node: where it is put, where it goes, and where it stands
abbrev GoesBack : Option To → Spot → Spot → Type 0
GoesBack o s t = MatchOption o (s ≡ t) (λ to. (s ≢ t) × (to ≡ to_of s))

module _ (p : NodeId → Bool) (D E : Document) (rev under : Rev) (B : Intent) (closed : IsClosedBy p E) (w : NamesWithin p E B) (b : IsBack D E rev under B) where
  stands_in_part : (n : NodeId) → p n ≡ true → option_map_or (is_in (part_by p D)) (node_of (E.place n)) false ≡ option_map_or (is_in D) (node_of (E.place n)) false
  stands_in_part n e = go (node_of (E.place n)) refl
    where
      go : (o : Option NodeId) → node_of (E.place n) ≡ o → option_map_or (is_in (part_by p D)) o false ≡ option_map_or (is_in D) o false
      go None h = refl
      go (Some q) h =
          let there : p q ≡ true = sym (closed n q h) ∙ e in
          rw there refl

  same_back : (n : NodeId) → p n ≡ true → place_back (part_by p D) (part_by p E) n ≡ place_back D E n
  same_back n e = rw e (ap (λ b. if is_in D n then D.place n else if b then Spot.Nowhere else E.place n) (stands_in_part n e))

  same_place : (n : NodeId) → p n ≡ true → (part_by p E).place n ≡ E.place n
  same_place n e = rw e refl

  no_back : (n : NodeId) → p n ≡ false → place_back (part_by p D) (part_by p E) n ≡ (part_by p E).place n
  no_back n e = rw e refl

  put_in_part : (n : NodeId) → GoesBack (put_of B n) (place_back (part_by p D) (part_by p E) n) ((part_by p E).place n)
  put_in_part n = go (p n) refl
    where
      away : p n ≡ false → (o : Option To) → put_of B n ≡ o → GoesBack o (place_back (part_by p D) (part_by p E) n) ((part_by p E).place n)
      away e None q = no_back n e
      away e (Some to) q = absurd (true-false (w.puts n to q) e)

      go : (b : Bool) → p n ≡ b → GoesBack (put_of B n) (place_back (part_by p D) (part_by p E) n) ((part_by p E).place n)
      go true e = subst (λ s. GoesBack (put_of B n) s ((part_by p E).place n)) (sym (same_back n e)) (subst (λ t. GoesBack (put_of B n) (place_back D E n) t) (sym (same_place n e)) (b.puts_what_differs n))
      go false e = away e (put_of B n) refl

  clear_in_part : (r : FieldId) → (clears B r ≡ true) ↔ (IsSome ((part_by p D).nodes r.node) × ((part_by p D).held r ≢ (part_by p E).held r))
  clear_in_part r = go (p r.node) refl
    where
      none : p r.node ≡ false → IsSome ((part_by p D).nodes r.node) → ⊥
      none e h = let bad : false ≡ true = subst (λ c. IsSome (if c then D.nodes r.node else None)) e h in cc

      go : (c : Bool) → p r.node ≡ c → (clears B r ≡ true) ↔ (IsSome ((part_by p D).nodes r.node) × ((part_by p D).held r ≢ (part_by p E).held r))
      go true e = rw e (b.clears_what_differs r)
      go false e = (λ c. absurd (true-false (w.clears r (clears-has B.clear r c)) e), λ h. absurd (none e h.0))

  pub back_in_part : IsBack (part_by p D) (part_by p E) rev under B
  back_in_part = record {
    itself = b.itself;
    rev_and_under = b.rev_and_under;
    nothing_new = b.nothing_new;
    puts_what_differs = put_in_part;
    clears_what_differs = clear_in_part;
  }
