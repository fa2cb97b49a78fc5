-- Over each commit that fits a document there is a way back.
use Rattle.std.proofs.Common.{◌≡◌, ◌≢◌, Bool, true, false, cond, List, [], ◌∷◌, ◌++◌, map, Option, Some, None, IsSome, refl, sym, ap, ◌∙◌, subst, ◌⊎◌, inl, inr}
use Rattle.std.specs.List.{AllByRecursion, filter_map, find, list_any}
use Rattle.std.specs.Option.{option_map}
use Rattle.st_ids.specs.Listing.{AreDistinct, Has}
use Rattle.st_ids.specs.Order.{same_field, same_node}
use Rattle.st_ids.specs.declared.names.FieldId.{FieldId}
use Rattle.st_ids.specs.declared.names.NodeId.{NodeId}
use Rattle.st_ids.proofs.Orders.{same_field-true, same_node-true, same_node-itself}
use Rattle.st_marks.specs.declared.intents.Intent.{Intent}
use Rattle.st_marks.specs.declared.intents.Put.{Put}
use Rattle.st_marks.specs.declared.intents.To.{To}
use Rattle.st_marks.specs.declared.places.Spot.{Spot}
use Rattle.st_marks.specs.Document.{Document, IsSoundInForm}
use Rattle.st_marks.specs.Intent.{Fits, put_of, register_of}
use Rattle.st_marks.proofs.Lookups.{put-has}
use Rattle.st_marks.proofs.Members.{any-has, append_left, append_right, has-all, has-filter_map, map-has, none-has}
use Rattle.st_lemmas.proofs.Bools.{true-false}
use Rattle.st_heads.specs.declared.ways.Way.{Way}
use Rattle.st_heads.specs.Remembered.{IsWayBack}
use Rattle.st_heads.specs.inside.GoingBack.{back_by, entered_field, if_evicted, in_old_row}
use Rattle.st_heads.proofs.GoingBack.{is_way_back}

-- where the puts of a list lead a node
abbrev led_by : List Put → NodeId → Option To
led_by ps n = option_map (λ (q : Put). q.to) (find (λ (q : Put). same_node q.node n) ps)

-- the puts of some nodes, by where each goes
record ArePutsOf (f : NodeId → Option To) (ns : List NodeId) (ps : List Put) : Type 0 where
  once : AreDistinct (λ (q : Put). q.node) ps
  listed : (n : NodeId) → Has ns n → led_by ps n ≡ f n
  no_other : (n : NodeId) → (led_by ps n ≡ None) ⊎ (led_by ps n ≡ f n)

-- one node more
module _ (f : NodeId → Option To) (m : NodeId) (ms : List NodeId) (ps : List Put) (w : ArePutsOf f ms ps) where
  -- that is listed already, or does not go
  as_before : led_by ps m ≡ f m → ArePutsOf f (m ∷ ms) ps
  as_before e = record { once = w.once; listed = λ n h. go n h; no_other = w.no_other }
    where
      go : (n : NodeId) → (m ≡ n) ⊎ Has ms n → led_by ps n ≡ f n
      go n (inl same) = subst (λ k. led_by ps k ≡ f k) same e
      go n (inr h) = w.listed n h

  -- that is not listed yet, and goes
  with_put : (to : To) → find (λ (q : Put). same_node q.node m) ps ≡ None → f m ≡ Some to → ArePutsOf f (m ∷ ms) (record { node = m; to = to } ∷ ps)
  with_put to none goes = record {
    once = (has-all (λ (q : Put). q.node ≢ m) ps (λ q h e. true-false (ap (λ k. same_node k m) e ∙ same_node-itself m) (none-has (λ (r : Put). same_node r.node m) ps q none h)), w.once);
    listed = λ n h. at n h (same_node m n) refl;
    no_other = λ n. other n (same_node m n) refl;
  }
    where
      first : (n : NodeId) → same_node m n ≡ true → led_by (record { node = m; to = to } ∷ ps) n ≡ f n
      first n e = ap (λ b. option_map (λ (q : Put). q.to) (cond b (Some (record { node = m; to = to })) (find (λ (q : Put). same_node q.node n) ps))) e ∙ sym goes ∙ ap f (same_node-true m n e)

      later : (n : NodeId) → same_node m n ≡ false → led_by (record { node = m; to = to } ∷ ps) n ≡ led_by ps n
      later n e = ap (λ b. option_map (λ (q : Put). q.to) (cond b (Some (record { node = m; to = to })) (find (λ (q : Put). same_node q.node n) ps))) e

      at : (n : NodeId) → (m ≡ n) ⊎ Has ms n → (b : Bool) → same_node m n ≡ b → led_by (record { node = m; to = to } ∷ ps) n ≡ f n
      at n h true e = first n e
      at n (inl same) false e = absurd (true-false (ap (same_node m) (sym same) ∙ same_node-itself m) e)
      at n (inr h) false e = later n e ∙ w.listed n h

      other : (n : NodeId) → (b : Bool) → same_node m n ≡ b → (led_by (record { node = m; to = to } ∷ ps) n ≡ None) ⊎ (led_by (record { node = m; to = to } ∷ ps) n ≡ f n)
      other n true e = inr (first n e)
      other n false e = elim (w.no_other n) [ inl none ↦ inl (later n e ∙ none) | inr same ↦ inr (later n e ∙ same) ]

has_puts : (f : NodeId → Option To) (ns : List NodeId) → (ps : List Put) × ArePutsOf f ns ps
has_puts f [] = ([], record { once = tt; listed = λ n h. absurd h; no_other = λ n. inl refl })
has_puts f (m ∷ ms) = let r = has_puts f ms in go r.0 r.1 (find (λ (q : Put). same_node q.node m) r.0) refl (f m) refl
  where
    go : (ps : List Put) → ArePutsOf f ms ps → (o : Option Put) → find (λ (q : Put). same_node q.node m) ps ≡ o → (g : Option To) → f m ≡ g → (qs : List Put) × ArePutsOf f (m ∷ ms) qs
    go ps w (Some q) e g goes = (ps, as_before f m ms ps w (there (w.no_other m)))
      where
        is : led_by ps m ≡ Some q.to
        is = ap (option_map (λ (r : Put). r.to)) e

        there : (led_by ps m ≡ None) ⊎ (led_by ps m ≡ f m) → led_by ps m ≡ f m
        there (inl none) = let bad : Some q.to ≡ None = sym is ∙ none in absurd (cc)
        there (inr same) = same
    go ps w None e None goes = (ps, as_before f m ms ps w (ap (option_map (λ (r : Put). r.to)) e ∙ sym goes))
    go ps w None e (Some to) goes = (record { node = m; to = to } ∷ ps, with_put f m ms ps w to e goes)

-- those that go back are put, or stand in a register that is cleared
pub has_way : (D : Document) (N : Intent) → IsSoundInForm D → Fits D N → (w : Way) × IsWayBack D N w
has_way D N s fits = (way, is_way_back D N s fits way r.1.once look refl)
  where
    goes : NodeId → Option To
    goes n = back_by D (in_old_row D N.groups) n (put_of N n) (if_evicted N.clear (D.place n))

    nodes : List NodeId
    nodes = map (λ (q : Put). q.node) N.put ++ filter_map D.held N.clear

    r : (ps : List Put) × ArePutsOf goes nodes ps
    r = has_puts goes nodes

    way : Way
    way = record { clear = filter_map (λ (q : Put). register_of q.to) r.0 ++ filter_map (λ (q : Put). entered_field D q.node q.to) N.put; put = r.0 }

    evicted : (n : NodeId) (t : Spot) → D.place n ≡ t → (to : To) → if_evicted N.clear t ≡ Some to → Has nodes n
    evicted n Spot.Nowhere at to e = cc
    evicted n (Spot.Row m c) at to e = cc
    evicted n (Spot.Register g) at to e = go (list_any (λ h. same_field h g) N.clear) refl e
      where
        go : (b : Bool) → list_any (λ h. same_field h g) N.clear ≡ b → cond b (Some (To.Register g)) None ≡ Some to → Has nodes n
        go false q e = cc
        go true q e =
            let x = any-has (λ h. same_field h g) N.clear q in
            let held : D.held x.0 ≡ Some n = ap D.held (same_field-true x.0 g x.2) ∙ (s.one_held n g).1 at in
            append_right (map (λ (q : Put). q.node) N.put) (filter_map D.held N.clear) n (has-filter_map D.held N.clear x.0 n x.1 held)

    among : (n : NodeId) (to : To) → goes n ≡ Some to → Has nodes n
    among n to e = go (put_of N n) refl e
      where
        go : (o : Option To) → put_of N n ≡ o → back_by D (in_old_row D N.groups) n o (if_evicted N.clear (D.place n)) ≡ Some to → Has nodes n
        go None p e = evicted n (D.place n) refl to e
        go (Some t) p e = append_left (map (λ (q : Put). q.node) N.put) (filter_map D.held N.clear) n (map-has (λ (q : Put). q.node) N.put (record { node = n; to = t }) (put-has N n t p))

    look : (n : NodeId) → led_by r.0 n ≡ goes n
    look n = go (goes n) refl (r.1.no_other n)
      where
        go : (o : Option To) → goes n ≡ o → (led_by r.0 n ≡ None) ⊎ (led_by r.0 n ≡ goes n) → led_by r.0 n ≡ goes n
        go o e (inr same) = same
        go None e (inl none) = none ∙ sym e
        go (Some to) e (inl none) = r.1.listed n (among n to e)
