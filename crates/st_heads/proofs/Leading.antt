-- Puts and clears that have the look-ups of the way back, and put each node once, are an intent.
use Rattle.std.proofs.Common.{◌≡◌, ◌≢◌, ◌⊎◌, ◌↔◌, Bool, true, false, [], Option, Some, None, IsSome, IsTrue, IfSome, refl, sym, ap, ◌∙◌, subst, inl, inr}
use Rattle.std.specs.Option.{option_map, option_map_or}
use Rattle.std.specs.Prelude.{MatchOption}
use Rattle.st_ids.specs.Listing.{AreDistinct, Has}
use Rattle.st_ids.specs.Order.{same_field, same_node}
use Rattle.st_ids.specs.declared.names.CellId.{CellId}
use Rattle.st_ids.specs.declared.names.FieldId.{FieldId}
use Rattle.st_ids.specs.declared.names.NodeId.{NodeId}
use Rattle.st_ids.specs.declared.names.Rev.{Rev}
use Rattle.st_ids.proofs.Orders.{same_field-itself, same_node-true, same_node-itself}
use Rattle.st_marks.specs.declared.intents.Intent.{Intent}
use Rattle.st_marks.specs.declared.intents.Owned.{Owned}
use Rattle.st_marks.specs.declared.intents.Put.{Put}
use Rattle.st_marks.specs.declared.intents.To.{To}
use Rattle.st_marks.specs.declared.places.Spot.{Spot}
use Rattle.st_marks.specs.Document.{Document, IsSoundInForm, node_of, owned_cell}
use Rattle.st_ids.specs.Root.{root}
use Rattle.st_marks.proofs.Full.{HoldsWhatIsPlaced}
use Rattle.st_marks.specs.Back.{IsBack, is_in, place_back, to_of}
use Rattle.st_marks.specs.Intent.{IsIntent, cell_of, register_of, clears, is_new, put_of}
use Rattle.st_marks.proofs.Members.{has-all, distinct-has, first-distinct, has-any}
use Rattle.st_join.proofs.Picked.{picked_distinct}
use Rattle.st_heads.specs.declared.ways.Way.{Way}
use Rattle.st_heads.specs.Remembered.{intent_of_way}

module _ (D E : Document) (s : IsSoundInForm D) (after_held : HoldsWhatIsPlaced E) (keys : (m : NodeId) (f : FieldId) → E.held f ≡ Some m → f.key.0 ≢ []) (root_out : E.place root ≡ Spot.Nowhere)
    (w : Way) (rev under : Rev)
    (once : AreDistinct (λ (q : Put). q.node) w.put)
    (puts : (n : NodeId) → MatchOption (put_of (intent_of_way w rev under) n) (place_back D E n ≡ E.place n) (λ to. (place_back D E n ≢ E.place n) × (to ≡ to_of (place_back D E n))))
    (cleared : (f : FieldId) → (clears (intent_of_way w rev under) f ≡ true) ↔ (IsSome (D.nodes f.node) × (D.held f ≢ E.held f))) where
  abbrev B : Intent
  B = intent_of_way w rev under

  -- a listed put leads back
  put_is : (q : Put) → Has w.put q → put_of B q.node ≡ Some q.to
  put_is q h = ap (λ o. option_map (λ (q : Put). q.to) o) (first-distinct (λ (q : Put). q.node) w.put (λ (r : Put). same_node r.node q.node) q once h (same_node-itself q.node) (λ r e. same_node-true r.node q.node e))

  leads : (q : Put) → Has w.put q → (place_back D E q.node ≢ E.place q.node) × (q.to ≡ to_of (place_back D E q.node))
  leads q h = rw (put_is q h) at (puts q.node)

  -- one that leads somewhere is of a node of D, and leads to its place there
  back_in : (n : NodeId) → place_back D E n ≢ E.place n → (place_back D E n ≡ D.place n) ⊎ (place_back D E n ≡ Spot.Nowhere)
  back_in n differs = go (is_in D n) refl
    where
      go : (b : Bool) → is_in D n ≡ b → (place_back D E n ≡ D.place n) ⊎ (place_back D E n ≡ Spot.Nowhere)
      go true e = inl (rw e refl)
      go false e = inner (option_map_or (is_in D) (node_of (E.place n)) false) refl
        where
          inner : (c : Bool) → option_map_or (is_in D) (node_of (E.place n)) false ≡ c → (place_back D E n ≡ D.place n) ⊎ (place_back D E n ≡ Spot.Nowhere)
          inner true k = inr (rw (e, k) refl)
          inner false k = absurd (differs (rw (e, k) refl))

  to_cell : (t : Spot) (c : CellId) → cell_of (to_of t) ≡ Some c → (r : NodeId) × (t ≡ Spot.Row r c)
  to_cell Spot.Nowhere c e = let bad : None ≡ Some c = e in cc
  to_cell (Spot.Row r d) c e = (r, (let q : d ≡ c = cc in ap (Spot.Row r) q))
  to_cell (Spot.Register f) c e = let bad : None ≡ Some c = e in cc

  to_register : (t : Spot) (f : FieldId) → register_of (to_of t) ≡ Some f → t ≡ Spot.Register f
  to_register Spot.Nowhere f e = let bad : None ≡ Some f = e in cc
  to_register (Spot.Row r d) f e = let bad : None ≡ Some f = e in cc
  to_register (Spot.Register g) f e = let q : g ≡ f = cc in ap Spot.Register q

  cell_place : (q : Put) (c : CellId) → Has w.put q → cell_of q.to ≡ Some c → (r : NodeId) × (D.place q.node ≡ Spot.Row r c)
  cell_place q c h e =
      let l = leads q h in
      let t = to_cell (place_back D E q.node) c (ap cell_of (sym l.1) ∙ e) in
      elim (back_in q.node l.0) [
        | inl k ↦ (t.0, sym k ∙ t.1)
        | inr k ↦ (let bad : Spot.Nowhere ≡ Spot.Row t.0 c = sym k ∙ t.1 in cc)
      ]

  register_place : (q : Put) (f : FieldId) → Has w.put q → register_of q.to ≡ Some f → (D.place q.node ≡ Spot.Register f) × (E.place q.node ≢ Spot.Register f)
  register_place q f h e =
      let l = leads q h in
      let t = to_register (place_back D E q.node) f (ap register_of (sym l.1) ∙ e) in
      elim (back_in q.node l.0) [
        | inl k ↦ (sym k ∙ t, λ r. l.0 (t ∙ sym r))
        | inr k ↦ (let bad : Spot.Nowhere ≡ Spot.Register f = sym k ∙ t in cc)
      ]

  one_cell : (q r : Put) (c : CellId) → Has w.put q → Has w.put r → cell_of q.to ≡ Some c → cell_of r.to ≡ Some c → q.node ≡ r.node
  one_cell q r c h i e k =
      let a = cell_place q c h e in
      let b = cell_place r c i k in
      let at = s.own_cell q.node a.0 c a.1 in
      let bt = s.own_cell r.node b.0 c b.1 in
      let ra : D.row_of c ≡ Some a.0 = (s.one_row c a.0).1 (q.node, at) in
      let rb : D.row_of c ≡ Some b.0 = (s.one_row c b.0).1 (r.node, bt) in
      let same : b.0 ≡ a.0 = (let t : Some b.0 ≡ Some a.0 = sym rb ∙ ra in cc) in
      ap (λ (o : Owned). o.node) (distinct-has (λ (o : Owned). o.cell) (D.rows a.0) (owned_cell c q.node) (owned_cell c r.node) (s.once a.0) at (subst (λ n. Has (D.rows n) (owned_cell c r.node)) same bt) refl)

  one_register : (q r : Put) (f : FieldId) → Has w.put q → Has w.put r → register_of q.to ≡ Some f → register_of r.to ≡ Some f → q.node ≡ r.node
  one_register q r f h i e k =
      let a : D.held f ≡ Some q.node = (s.one_held q.node f).1 (register_place q f h e).0 in
      let b : D.held f ≡ Some r.node = (s.one_held r.node f).1 (register_place r f i k).0 in
      let t : Some q.node ≡ Some r.node = sym a ∙ b in cc

  clears_put : (q : Put) (f : FieldId) → Has w.put q → register_of q.to ≡ Some f → clears B f ≡ true
  clears_put q f h e =
      let a = register_place q f h e in
      let held : D.held f ≡ Some q.node = (s.one_held q.node f).1 a.0 in
      (cleared f).1 ((s.held_known q.node f held).1, λ same. a.1 ((after_held q.node f).0 (sym same ∙ held)))

  keyed : (f : FieldId) → Has w.clear f → f.key.0 ≢ []
  keyed f h = go (D.held f) refl (E.held f) refl ((cleared f).0 (has-any (λ g. same_field g f) w.clear f h (same_field-itself f))).1
    where
      go : (a : Option NodeId) → D.held f ≡ a → (b : Option NodeId) → E.held f ≡ b → (D.held f ≢ E.held f) → f.key.0 ≢ []
      go (Some m) e b k differs = s.register_key m f e
      go None e (Some m) k differs = keys m f k
      go None e None k differs = absurd (differs (e ∙ sym k))

  root_unput : put_of B root ≡ None
  root_unput = go (put_of B root) refl (puts root)
    where
      known : is_in D root ≡ true
      known = s.root_known

      go : (o : Option To) → put_of B root ≡ o → MatchOption o (place_back D E root ≡ E.place root) (λ to. (place_back D E root ≢ E.place root) × (to ≡ to_of (place_back D E root))) → put_of B root ≡ None
      go None e k = e
      go (Some to) e k = absurd (k.0 (rw s.root_known (s.root_nowhere ∙ sym root_out)))

  if_register : (q : Put) → Has w.put q → (o : Option FieldId) → register_of q.to ≡ o → IfSome o (λ f. IsTrue (clears B f))
  if_register q h None e = tt
  if_register q h (Some f) e = clears_put q f h e

  pub way_is_intent : IsIntent B
  way_is_intent = record {
    new_rev = tt;
    new_once = tt;
    cell_rev = tt;
    cell_once = tt;
    group_some = tt;
    start_once = tt;
    anchor_once = tt;
    anchor_old = tt;
    owners = tt;
    root_stays = root_unput;
    put_once = once;
    no_cell_twice = picked_distinct (λ (q : Put). cell_of q.to) (λ (q : Put). q.node) w.put once one_cell;
    no_register_twice = picked_distinct (λ (q : Put). register_of q.to) (λ (q : Put). q.node) w.put once one_register;
    new_somewhere = has-all (λ (q : Put). IsTrue (is_new B q.node) → q.to ≢ To.Nowhere) w.put (λ q h i. let bad : false ≡ true = i in cc);
    cleared = has-all (λ (q : Put). IfSome (register_of q.to) (λ f. IsTrue (clears B f))) w.put (λ q h. if_register q h (register_of q.to) refl);
    register_keys = has-all (λ (f : FieldId). f.key.0 ≢ []) w.clear keyed;
    need_old = tt;
    no_ring = λ n. (1, refl);
    schema_alone = tt;
  }

  pub way_leads_back : IsBack D E rev under B
  way_leads_back = record {
    itself = way_is_intent;
    rev_and_under = (refl, refl);
    nothing_new = (refl, refl, refl, refl);
    puts_what_differs = puts;
    clears_what_differs = cleared;
  }
