-- The way back over a sound commit of data keeps to each wider schema, directly after the commit.
use Rattle.std.proofs.Common.{◌≡◌, ◌≢◌, Bool, true, false, cond, List, Option, Some, None, IsSome, MatchOption, is_some, refl, sym, ap, ◌∙◌, subst, ◌⊎◌, inl, inr}
use Rattle.std.specs.Option.{option_map_or, option_or}
use Rattle.st_lemmas.proofs.Bools.{true-false}
use Rattle.st_lemmas.proofs.Options.{IsSome-Some}
use Rattle.st_ids.specs.Listing.{Has}
use Rattle.st_ids.specs.declared.names.FieldId.{FieldId}
use Rattle.st_ids.specs.declared.names.NodeId.{NodeId}
use Rattle.st_ids.specs.declared.names.Rev.{Rev}
use Rattle.st_schema.specs.Kind.{is_required, is_row, is_single_kind}
use Rattle.st_schema.specs.Schema.{SchemaView}
use Rattle.st_schema.specs.declared.names.FieldRule.{FieldRule}
use Rattle.st_marks.specs.declared.intents.Intent.{Intent}
use Rattle.st_marks.specs.declared.intents.To.{To}
use Rattle.st_marks.specs.declared.places.Spot.{Spot}
use Rattle.st_marks.specs.Back.{IsBack, is_in, place_back, to_of}
use Rattle.st_marks.specs.CarryOut.{full, place_after, unless_cleared, unless_put, with_names}
use Rattle.st_marks.specs.Document.{Document, IsSoundInForm, NodeType, node_of}
use Rattle.st_marks.specs.Extends.{IsExtendedBy}
use Rattle.st_marks.specs.Intent.{Fits, clears, is_new, new_type, put_in, put_of}
use Rattle.st_marks.proofs.Climb.{unknown_nowhere}
use Rattle.st_marks.proofs.Lookups.{has-put_in, put-has, put_clears, put_in-has}
use Rattle.st_marks.proofs.Retreat.{retreat_sound}
use Rattle.st_log_laws.proofs.Names.{new_node_rev}
use Rattle.st_edits.specs.Fields.{is_required_field, row_key}
use Rattle.st_schema_laws.proofs.Kept.{known_later, named_later, one_rule, required_later, required_rule}
use Rattle.st_schema_laws.specs.AgreeingInEffect.{Told}
use Rattle.st_schema_laws.specs.Widening.{BecomesWider}
use Rattle.st_schema_laws.proofs.Widening.{type_becomes}
use Rattle.st_edits.specs.Keeping.{GoesWell}
use Rattle.st_conform_laws.specs.Keeping.{KeepsTo}
use Rattle.st_conform_laws.specs.Nodes.{IsUnder, NodesConform, StandsKnown, StandsWell}
use Rattle.st_conform_laws.proofs.NodesThatConform.{has_field_wider, known_old_or_new, known_stands_later, may_stand_later, old_not_new, required_was, stands_later}

module _ (T : Told) (D : Document) (N : Intent) (rs : List Rev) (s : SchemaView) (sound : IsSoundInForm D) (fits : Fits D N) (x : IsExtendedBy D (full D N)) (before : NodesConform T rs s D) (after : NodesConform T rs s (full D N))
    (own : T.under N.rev ≡ N.under) (based : Has rs N.under) (front : (r : Rev) → Has (T.chain N.under) r → Has rs r) (becomes : (r : Rev) → Has rs r → BecomesWider (T.view r) s) (k : KeepsTo T D N)
    (rev under : Rev) (B : Intent) (b : IsBack D (full D N) rev under B) (wide : BecomesWider s (T.view B.under)) (more : (r : Rev) → Has rs r → Has (T.chain B.under) r) where
  abbrev F : Document
  F = full D N

  abbrev W : SchemaView
  W = T.view B.under

  -- ## What the commit changed is in effect

  moved : (m : NodeId) → IsSome (D.nodes m) → place_after (with_names D N).row_of N (put_of N m) (D.place m) ≢ D.place m → IsUnder T rs m
  moved m known apart = go (put_of N m) refl apart
    where
      left : (spot : Spot) → D.place m ≡ spot → unless_cleared N spot ≢ spot → IsUnder T rs m
      left Spot.Nowhere q out = absurd (out refl)
      left (Spot.Row n c) q out = absurd (out refl)
      left (Spot.Register f) q out = cleared (clears N f) refl
        where
          owner : IsSome (D.nodes f.node)
          owner = (sound.held_known m f ((sound.one_held m f).1 q)).1

          cleared : (t : Bool) → clears N f ≡ t → IsUnder T rs m
          cleared true e =
              let i = front (T.under f.node.0.rev) (k.clear_makers f e (old_not_new D N fits f.node owner)) in
              (subst (StandsWell T rs s D m) q (before.places m) i).in_effect
          cleared false e = absurd (out (ap (λ t. cond t Spot.Nowhere (Spot.Register f)) e))

      go : (o : Option To) → put_of N m ≡ o → place_after (with_names D N).row_of N o (D.place m) ≢ D.place m → IsUnder T rs m
      go (Some to) q out = front (T.under m.0.rev) (k.put_makers m to q (old_not_new D N fits m known))
      go None q out = left (D.place m) refl out

  changed : (f : FieldId) → IsSome (D.nodes f.node) → D.held f ≢ F.held f → IsUnder T rs f.node
  changed f owner apart = go (clears N f) refl
    where
      old : is_new N f.node ≡ false
      old = old_not_new D N fits f.node owner

      not_filled : clears N f ≡ false → (o : Option NodeId) → put_in N f ≡ o → put_in N f ≡ None
      not_filled c None e = e
      not_filled c (Some y) e = absurd (true-false (put_clears N fits.itself y f (put_in-has N f y e)) c)

      held_is : clears N f ≡ false → F.held f ≡ unless_put N (D.held f)
      held_is c = ap (λ o. option_or o (cond (clears N f) None (unless_put N (D.held f)))) (not_filled c (put_in N f) refl) ∙ ap (λ t. cond t None (unless_put N (D.held f))) c

      occupant : clears N f ≡ false → (o : Option NodeId) → D.held f ≡ o → IsUnder T rs f.node
      occupant c None e = absurd (apart (e ∙ sym (held_is c ∙ ap (unless_put N) e)))
      occupant c (Some m) e = put (put_of N m) refl
        where
          known : IsSome (D.nodes m)
          known = (sound.held_known m f e).0

          put : (o : Option To) → put_of N m ≡ o → IsUnder T rs f.node
          put None q = absurd (apart (e ∙ sym (held_is c ∙ ap (unless_put N) e ∙ ap (λ o. cond (is_some o) None (Some m)) q)))
          put (Some to) q =
              let i = front (T.under m.0.rev) (k.put_makers m to q (old_not_new D N fits m known)) in
              subst (StandsKnown T rs s D m) ((sound.one_held m f).0 e) (before.known m i)

      go : (t : Bool) → clears N f ≡ t → IsUnder T rs f.node
      go true c = front (T.under f.node.0.rev) (k.clear_makers f c old)
      go false c = occupant c (D.held f) refl

  -- ## What the way back puts

  no_new : (n : NodeId) → is_new B n ≡ false
  no_new n = rw b.nothing_new.0 refl

  put_is : (m : NodeId) (to : To) → put_of B m ≡ Some to → (place_back D F m ≢ F.place m) × (to ≡ to_of (place_back D F m))
  put_is m to e = subst (λ o. MatchOption o (place_back D F m ≡ F.place m) (λ to. (place_back D F m ≢ F.place m) × (to ≡ to_of (place_back D F m)))) e (b.puts_what_differs m)

  must_put : (m : NodeId) (spot : Spot) → place_back D F m ≡ spot → spot ≢ F.place m → put_of B m ≡ Some (to_of spot)
  must_put m spot at apart = go (put_of B m) refl (b.puts_what_differs m)
    where
      go : (o : Option To) → put_of B m ≡ o → MatchOption o (place_back D F m ≡ F.place m) (λ to. (place_back D F m ≢ F.place m) × (to ≡ to_of (place_back D F m))) → put_of B m ≡ Some (to_of spot)
      go None e h = absurd (apart (sym at ∙ h))
      go (Some to) e h = e ∙ ap (λ to. Some to) (h.1 ∙ ap to_of at)

  back_old : (m : NodeId) → is_in D m ≡ true → place_back D F m ≡ D.place m
  back_old m e = rw e refl

  none_of : (o : Option NodeType) → is_some o ≡ false → o ≡ None
  none_of None e = refl
  none_of (Some t) e = absurd (cc)

  -- a node that is put is there, and in effect
  put_there : (m : NodeId) → place_back D F m ≢ F.place m → IsSome (F.nodes m)
  put_there m apart = go (is_some (F.nodes m)) refl (is_in D m) refl
    where
      go : (t : Bool) → is_some (F.nodes m) ≡ t → (v : Bool) → is_in D m ≡ v → IsSome (F.nodes m)
      go true e v i = e
      go false e true i = known_later s D F x.nodes m i
      go false e false i =
          let out : F.place m ≡ Spot.Nowhere = unknown_nowhere F x.after m (none_of (F.nodes m) e) in
          absurd (apart (ap (λ t. cond t (D.place m) (cond (option_map_or (is_in D) (node_of (F.place m)) false) Spot.Nowhere (F.place m))) i
          ∙ ap (λ spot. cond (option_map_or (is_in D) (node_of spot) false) Spot.Nowhere spot) out ∙ sym out))

  put_in_effect : (m : NodeId) → place_back D F m ≢ F.place m → IsUnder T rs m
  put_in_effect m apart = go (is_in D m) refl
    where
      new : is_in D m ≡ false → IsSome (D.nodes m) ⊎ (is_new N m ≡ true) → IsUnder T rs m
      new i (inl h) = absurd (true-false h i)
      new i (inr h) = subst (Has rs) (sym (ap T.under (new_node_rev N fits.itself m h) ∙ own)) based

      go : (t : Bool) → is_in D m ≡ t → IsUnder T rs m
      go true i = moved m i (λ same. apart (back_old m i ∙ sym same))
      go false i = new i (known_old_or_new D N fits m (put_there m apart))

  -- ## Where it puts nodes

  stands_back : (m : NodeId) → StandsWell T rs s F m (place_back D F m)
  stands_back m = elim (is_in D m) as (λ t. StandsWell T rs s F m (cond t (D.place m) (cond (option_map_or (is_in D) (node_of (F.place m)) false) Spot.Nowhere (F.place m)))) [
    | true ↦ stands_later s D F x.nodes T rs m (D.place m) (before.places m)
    | false ↦ elim (option_map_or (is_in D) (node_of (F.place m)) false) as (λ t. StandsWell T rs s F m (cond t Spot.Nowhere (F.place m))) [ true ↦ tt | false ↦ after.places m ]
  ]

  known_back : (m : NodeId) → IsUnder T rs m → StandsKnown T rs s F m (place_back D F m)
  known_back m i = elim (is_in D m) as (λ t. StandsKnown T rs s F m (cond t (D.place m) (cond (option_map_or (is_in D) (node_of (F.place m)) false) Spot.Nowhere (F.place m)))) [
    | true ↦ known_stands_later s D F x.nodes T rs m (D.place m) (before.known m i)
    | false ↦ elim (option_map_or (is_in D) (node_of (F.place m)) false) as (λ t. StandsKnown T rs s F m (cond t Spot.Nowhere (F.place m))) [ true ↦ tt | false ↦ after.known m i ]
  ]

  goes_back : (m : NodeId) (spot : Spot) → place_back D F m ≡ spot → StandsWell T rs s F m spot → StandsKnown T rs s F m spot → GoesWell W (with_names F B) m (to_of spot)
  goes_back m Spot.Nowhere e may known = tt
  goes_back m (Spot.Row n c) e may known =
      let row : F.row_of c ≡ Some n = (x.after.one_row c n).1 (m, (retreat_sound D F x).own_cell m n c e) in
      (n, rw row refl, has_field_wider wide (with_names F B) is_row n row_key m (λ rule r w q. w.rows q) (known_stands_later s F (with_names F B) (named_later F B) T rs m (Spot.Row n c) known))
  goes_back m (Spot.Register f) e may known = has_field_wider wide (with_names F B) is_single_kind f.node f.key m (λ rule r w q. w.singles q)
      (may_stand_later s F (with_names F B) (named_later F B) T rs is_single_kind f.node f.key m (may known)).field

  -- ## Required fields

  -- what the wider schema requires of a node in effect, the document required before
  needs_after : (f : FieldId) → IsSome (F.nodes f.node) → IsUnder T rs f.node → is_required_field W (with_names F B) f ≡ true → is_required_field s F f ≡ true
  needs_after f known i needs =
      let r = required_rule W F f (sym (required_later W F (with_names F B) (named_later F B) f known) ∙ needs) in
      required_was wide F f r.0 (λ t e. type_becomes (becomes (T.under f.node.0.rev) i) t.ty t.leaf (after.types f.node t e i)) r.1 r.2

  needs_before : (f : FieldId) → IsSome (D.nodes f.node) → is_required_field s F f ≡ true → is_required_field s D f ≡ true
  needs_before f known needs = sym (required_later s D F x.nodes f known) ∙ needs

  -- such a field of an old node that holds another node than before is filled with the one that stood there, whose home it is
  filled_back : (f : FieldId) → IsSome (D.nodes f.node) → IsUnder T rs f.node → is_required_field s D f ≡ true → D.held f ≢ F.held f → (y : NodeId) × (put_in B f ≡ Some y) × (T.home y ≡ Some f)
  filled_back f known i needs apart =
      let rule = required_rule s D f needs in
      let y = IsSome-Some (D.held f) (before.filled f.node f.key rule.0 i rule.1 rule.2) in
      let stood : D.place y.0 ≡ Spot.Register f = (x.before.one_held y.0 f).0 y.1 in
      let back : place_back D F y.0 ≡ Spot.Register f = back_old y.0 (x.before.held_known y.0 f y.1).0 ∙ stood in
      let put = must_put y.0 (Spot.Register f) back (λ e. apart (y.1 ∙ sym ((x.after.one_held y.0 f).1 (sym e)))) in
      let may = subst (StandsWell T rs s D y.0) stood (before.places y.0) i in
      (y.0, has-put_in B b.itself y.0 f (put-has B y.0 (To.Register f) put), may.at_home (ap (λ (r : FieldRule). is_required r.kind) (one_rule D s f.node f.key may.field.rule rule.0 may.field.ruled rule.1) ∙ rule.2))

  required_back : (f : FieldId) → clears B f ≡ true → is_required_field W (with_names F B) f ≡ true → (y : NodeId) × (put_in B f ≡ Some y) × ((is_new B y ≡ true) ⊎ (T.home y ≡ Some f))
  required_back f e needs =
      let d = (b.clears_what_differs f).0 e in
      let i = changed f d.0 d.1 in
      let y = filled_back f d.0 i (needs_before f d.0 (needs_after f (known_later s D F x.nodes f.node d.0) i needs)) d.1 in
      (y.0, y.1, inr y.2)

  homes_back : (m : NodeId) (to : To) (f : FieldId) → put_of B m ≡ Some to → T.home m ≡ Some f → is_required_field W (with_names F B) f ≡ true → (to ≡ To.Register f) ⊎ ((to ≡ To.Nowhere) × IsSome (put_in B f))
  homes_back m to f e lives needs = go (is_in D m) refl
    where
      differs : place_back D F m ≢ F.place m
      differs = (put_is m to e).0

      known : IsSome (F.nodes m)
      known = put_there m differs

      i : IsUnder T rs m
      i = put_in_effect m differs

      home : IsSome (F.nodes f.node) × IsUnder T rs f.node × BecomesWider (T.view (T.under f.node.0.rev)) (T.view (T.under m.0.rev))
      home = after.homes m f known i lives

      need : is_required_field s F f ≡ true
      need = needs_after f home.0 home.1 needs

      fill : IsSome (D.nodes f.node) → D.held f ≢ F.held f → IsSome (put_in B f)
      fill there apart = let y = filled_back f there home.1 (needs_before f there need) apart in ap is_some y.1

      go : (t : Bool) → is_in D m ≡ t → (to ≡ To.Register f) ⊎ ((to ≡ To.Nowhere) × IsSome (put_in B f))
      go true old = elim (before.away m f old i lives (needs_before f there need)) [
        | inl at ↦ inl ((put_is m to e).1 ∙ ap to_of (back_old m old ∙ at))
        | inr out ↦ inr ((put_is m to e).1 ∙ ap to_of (back_old m old ∙ out), filled out (after.away m f known i lives need))
      ]
        where
          there : IsSome (D.nodes f.node)
          there = (before.homes m f old i lives).0

          filled : D.place m ≡ Spot.Nowhere → (F.place m ≡ Spot.Register f) ⊎ (F.place m ≡ Spot.Nowhere) → IsSome (put_in B f)
          filled out (inr q) = absurd (differs (back_old m old ∙ out ∙ sym q))
          filled out (inl q) = fill there (λ same. (let at : D.place m ≡ Spot.Register f = (x.before.one_held m f).0 (same ∙ (x.after.one_held m f).1 q) in
              let bad : Spot.Nowhere ≡ Spot.Register f = sym out ∙ at in cc))
      go false new = stood (F.place m) refl (after.away m f known i lives need)
        where
          back : place_back D F m ≡ cond (option_map_or (is_in D) (node_of (F.place m)) false) Spot.Nowhere (F.place m)
          back = ap (λ t. cond t (D.place m) (cond (option_map_or (is_in D) (node_of (F.place m)) false) Spot.Nowhere (F.place m))) new

          here : F.place m ≡ Spot.Register f → (t : Bool) → is_in D f.node ≡ t → (to ≡ To.Register f) ⊎ ((to ≡ To.Nowhere) × IsSome (put_in B f))
          here q true there = inr (
            (put_is m to e).1 ∙ ap to_of (back ∙ ap (λ spot. cond (option_map_or (is_in D) (node_of spot) false) Spot.Nowhere (F.place m)) q ∙ ap (λ t. cond t Spot.Nowhere (F.place m)) there),
            fill there (λ same. true-false (x.before.held_known m f (same ∙ (x.after.one_held m f).1 q)).0 new),
          )
          here q false there = absurd (differs (back ∙ ap (λ spot. cond (option_map_or (is_in D) (node_of spot) false) Spot.Nowhere (F.place m)) q ∙ ap (λ t. cond t Spot.Nowhere (F.place m)) there))

          stood : (spot : Spot) → F.place m ≡ spot → (F.place m ≡ Spot.Register f) ⊎ (F.place m ≡ Spot.Nowhere) → (to ≡ To.Register f) ⊎ ((to ≡ To.Nowhere) × IsSome (put_in B f))
          stood spot r (inl q) = here q (is_in D f.node) refl
          stood spot r (inr q) = absurd (differs (back ∙ ap (λ spot. cond (option_map_or (is_in D) (node_of spot) false) Spot.Nowhere spot) q ∙ sym q))

  pub back_keeps : KeepsTo T F B
  back_keeps = record {
    types = λ n t e. (let none : new_type B n ≡ None = rw b.nothing_new.0 refl in let bad : None ≡ Some t = sym none ∙ e in cc);
    filled = λ n key rule new ruled required. absurd (true-false new (no_new n));
    fields = λ m to e. subst (GoesWell W (with_names F B) m) (sym (put_is m to e).1) (goes_back m (place_back D F m) refl (stands_back m) (known_back m (put_in_effect m (put_is m to e).0)));
    put_makers = λ m to e old. more (T.under m.0.rev) (put_in_effect m (put_is m to e).0);
    clear_makers = λ f e old. (let d = (b.clears_what_differs f).0 e in more (T.under f.node.0.rev) (changed f d.0 d.1));
    required = required_back;
    homes = λ m to f e old lives needs. homes_back m to f e lives needs;
  }
