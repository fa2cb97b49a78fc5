-- A commit of data that keeps to its schema, which is in effect, leaves nodes that conform, carried out whole or void.
use Rattle.std.proofs.Common.{◌≡◌, Bool, true, false, List, Option, Some, None, IsSome, is_some, cond, ◌&&◌, refl, sym, ap, ◌∙◌, subst, ◌⊎◌, inl, inr, option_and_then}
use Rattle.std.specs.Option.{option_or, option_map_or}
use Rattle.st_lemmas.proofs.Bools.{true-false}
use Rattle.st_ids.specs.Listing.{Has}
use Rattle.st_ids.specs.Root.{root}
use Rattle.st_ids.specs.declared.names.FieldId.{FieldId}
use Rattle.st_ids.specs.declared.names.Key.{Key}
use Rattle.st_ids.specs.declared.names.NodeId.{NodeId}
use Rattle.st_ids.specs.declared.names.Rev.{Rev}
use Rattle.st_schema.specs.Kind.{is_required, is_row, is_single_kind}
use Rattle.st_schema.specs.Schema.{SchemaView, field_of, is_among}
use Rattle.st_schema.specs.declared.names.FieldRule.{FieldRule}
use Rattle.st_schema.specs.declared.names.KindName.{KindName}
use Rattle.st_marks.specs.declared.intents.Intent.{Intent}
use Rattle.st_marks.specs.declared.intents.To.{To}
use Rattle.st_marks.specs.declared.places.Spot.{Spot}
use Rattle.st_marks.specs.CarryOut.{full, is_put_in_new, only_new, place_after, spot_of, unless_cleared, unless_put, void_data, with_names}
use Rattle.st_marks.specs.Document.{Document, IsSoundInForm, NodeType, node_of}
use Rattle.st_marks.specs.Intent.{Fits, clears, is_new, new_type, put_in, put_of, register_of}
use Rattle.st_marks.proofs.Climb.{unknown_nowhere}
use Rattle.st_marks.proofs.Full.{known_put}
use Rattle.st_marks.proofs.Lookups.{has-put_in, put-has, put_clears}
use Rattle.st_log_laws.proofs.Names.{new_node_rev}
use Rattle.st_edits.specs.Paths.{field_at}
use Rattle.st_edits.specs.Resolve.{has_type, rule_at}
use Rattle.st_edits.specs.Fields.{put_register, is_required_field, row_key, type_fits}
use Rattle.st_schema_laws.specs.Agreeing.{TellsHomes}
use Rattle.st_schema_laws.proofs.Kept.{HasNodes, known_later, named_later, one_rule, required_by, required_later, required_rule, rule_later, type_later}
use Rattle.st_schema_laws.proofs.Rules.{required_not_row}
use Rattle.st_schema_laws.specs.AgreeingInEffect.{Told}
use Rattle.st_schema_laws.specs.Widening.{BecomesWider, no_change}
use Rattle.st_schema_laws.proofs.Widening.{type_becomes}
use Rattle.st_edits.specs.Keeping.{GoesWell, HasField}
use Rattle.st_conform_laws.specs.Keeping.{KeepsTo}
use Rattle.st_conform_laws.specs.Nodes.{IsUnder, MayStandIn, NodesConform, StandsKnown, StandsWell}
use Rattle.st_conform_laws.proofs.WiderSchemas.{TakesMore, becomes_on, field_becomes, field_was}

-- ## In a document with more nodes

module _ (s : SchemaView) (D E : Document) (same : HasNodes D E) where
  module _ (T : Told) (rs : List Rev) where
    pub may_stand_later : (kinds : KindName → Bool) (n : NodeId) (key : Key) (m : NodeId) → MayStandIn T rs s D kinds n key m → MayStandIn T rs s E kinds n key m
    may_stand_later kinds n key m h = record {
      in_effect = h.in_effect;
      field = record { rule = h.field.rule; ruled = rule_later s D E same n key h.field.rule h.field.ruled; kind = h.field.kind; typed = type_later s D E same h.field.rule.types m h.field.typed };
      at_home = h.at_home;
    }

    pub stands_later : (m : NodeId) (spot : Spot) → StandsWell T rs s D m spot → StandsWell T rs s E m spot
    stands_later m Spot.Nowhere h = tt
    stands_later m (Spot.Row n c) h = λ i. may_stand_later is_row n row_key m (h i)
    stands_later m (Spot.Register f) h = λ i. may_stand_later is_single_kind f.node f.key m (h i)

    pub known_stands_later : (m : NodeId) (spot : Spot) → StandsKnown T rs s D m spot → StandsKnown T rs s E m spot
    known_stands_later m Spot.Nowhere h = tt
    known_stands_later m (Spot.Row n c) h = record { rule = h.rule; ruled = rule_later s D E same n row_key h.rule h.ruled; kind = h.kind; typed = type_later s D E same h.rule.types m h.typed }
    known_stands_later m (Spot.Register f) h = h

-- ## By a wider schema

module _ {old new : SchemaView} (wide : BecomesWider old new) (E : Document) where
  pub has_field_wider : (kinds : KindName → Bool) (n : NodeId) (key : Key) (m : NodeId) → ((rule r : FieldRule) → TakesMore rule r → kinds rule.kind ≡ true → kinds r.kind ≡ true) → HasField old E kinds n key m → HasField new E kinds n key m
  has_field_wider kinds n key m kept h =
      let r = at (E.nodes n) h.ruled in
      record { rule = r.0; ruled = r.1; kind = kept h.rule r.0 r.2 h.kind; typed = among (E.nodes m) r.0 r.2 h.typed }
    where
      at : (o : Option NodeType) → option_and_then (λ (t : NodeType). field_of old t.ty key.0) o ≡ Some h.rule
          → (r : FieldRule) × (option_and_then (λ (t : NodeType). field_of new t.ty key.0) o ≡ Some r) × TakesMore h.rule r
      at None e = absurd (cc)
      at (Some t) e = field_becomes wide t.ty key.0 h.rule e

      among : (o : Option NodeType) (r : FieldRule) → TakesMore h.rule r → option_map_or (λ (t : NodeType). is_among t.ty h.rule.types) o false ≡ true → option_map_or (λ (t : NodeType). is_among t.ty r.types) o false ≡ true
      among None r w e = absurd (cc)
      among (Some t) r w e = w.types t.ty e

  -- what the wider schema requires of a node whose type fits the old one, the old one required
  pub rule_was : (n : NodeId) (key : Key) (r : FieldRule) → ((t : NodeType) → E.nodes n ≡ Some t → type_fits old t.ty t.leaf ≡ true) → rule_at E new n key ≡ Some r → is_required r.kind ≡ true
      → (rule : FieldRule) × (rule_at E old n key ≡ Some rule) × (is_required rule.kind ≡ true)
  rule_was n key r typed e required = go (E.nodes n) refl e
    where
      go : (o : Option NodeType) → E.nodes n ≡ o → option_and_then (λ (t : NodeType). field_of new t.ty key.0) o ≡ Some r → (rule : FieldRule) × (rule_at E old n key ≡ Some rule) × (is_required rule.kind ≡ true)
      go None q f = absurd (cc)
      go (Some t) q f =
          let x = field_was wide t.ty key.0 t.leaf r (typed t q) f required in
          (x.0, ap (option_and_then (λ (t : NodeType). field_of old t.ty key.0)) q ∙ x.1, x.2)

  pub required_was : (f : FieldId) (r : FieldRule) → ((t : NodeType) → E.nodes f.node ≡ Some t → type_fits old t.ty t.leaf ≡ true) → rule_at E new f.node f.key ≡ Some r → is_required r.kind ≡ true
      → is_required_field old E f ≡ true
  required_was f r typed e required =
      let x = rule_was f.node f.key r typed e required in
      required_by E old f.node f.key x.0 x.1 x.2

-- ## Old and new nodes

module _ (D : Document) (N : Intent) (fits : Fits D N) where
  pub old_not_new : (n : NodeId) → IsSome (D.nodes n) → is_new N n ≡ false
  old_not_new n h = go (is_new N n) refl
    where
      go : (b : Bool) → is_new N n ≡ b → is_new N n ≡ false
      go true e = absurd (true-false h (ap is_some (fits.fresh_nodes n e)))
      go false e = e

  pub ruled_old : (s : SchemaView) (n : NodeId) (key : Key) (rule : FieldRule) → is_new N n ≡ false → rule_at (with_names D N) s n key ≡ Some rule → rule_at D s n key ≡ Some rule
  ruled_old s n key rule old e = go (D.nodes n) refl (new_type N n) refl e
    where
      go : (o : Option NodeType) → D.nodes n ≡ o → (p : Option NodeType) → new_type N n ≡ p → option_and_then (λ (t : NodeType). field_of s t.ty key.0) (option_or o p) ≡ Some rule → rule_at D s n key ≡ Some rule
      go (Some t) q p r f = rw q f
      go None q None r f = cc
      go None q (Some t) r f = absurd (true-false (ap is_some r) old)

  -- a node of the document with the new names is old or new
  pub old_or_new : (n : NodeId) (t : NodeType) → (with_names D N).nodes n ≡ Some t → (D.nodes n ≡ Some t) ⊎ ((is_new N n ≡ true) × (new_type N n ≡ Some t))
  old_or_new n t e = go (D.nodes n) refl e
    where
      go : (o : Option NodeType) → D.nodes n ≡ o → option_or o (new_type N n) ≡ Some t → (D.nodes n ≡ Some t) ⊎ ((is_new N n ≡ true) × (new_type N n ≡ Some t))
      go None q f = inr (ap is_some f, f)
      go (Some u) q f = inl (q ∙ f)

  pub known_old_or_new : (n : NodeId) → IsSome ((with_names D N).nodes n) → IsSome (D.nodes n) ⊎ (is_new N n ≡ true)
  known_old_or_new n h = go (D.nodes n) refl h
    where
      go : (o : Option NodeType) → D.nodes n ≡ o → IsSome (option_or o (new_type N n)) → IsSome (D.nodes n) ⊎ (is_new N n ≡ true)
      go None q f = inr f
      go (Some u) q f = inl (ap is_some q)

  pub root_there : (s : SchemaView) → has_type D s.root root ≡ true → has_type (with_names D N) s.root root ≡ true
  root_there s e = type_later s D (with_names D N) (named_later D N) s.root root e

-- ## Where the schema is in effect

module _ (T : Told) (D : Document) (N : Intent) (rs : List Rev) (s : SchemaView) (sound : IsSoundInForm D) (fits : Fits D N) (here : NodesConform T rs s D)
    (own : T.under N.rev ≡ N.under) (tells : TellsHomes T.home N) (based : Has rs N.under) (front : (r : Rev) → Has (T.chain N.under) r → Has rs r × BecomesWider (T.view r) (T.view N.under))
    (wide : BecomesWider (T.view N.under) s) (k : KeepsTo T D N) where
  abbrev E : Document
  E = with_names D N

  abbrev U : SchemaView
  U = T.view N.under

  new_under : (n : NodeId) → is_new N n ≡ true → T.under n.0.rev ≡ N.under
  new_under n e = ap T.under (new_node_rev N fits.itself n e) ∙ own

  new_in_effect : (n : NodeId) → is_new N n ≡ true → IsUnder T rs n
  new_in_effect n e = subst (Has rs) (sym (new_under n e)) based

  put_in_effect : (m : NodeId) (to : To) → put_of N m ≡ Some to → IsUnder T rs m
  put_in_effect m to e = go (is_new N m) refl
    where
      go : (b : Bool) → is_new N m ≡ b → IsUnder T rs m
      go true q = new_in_effect m q
      go false q = (front (T.under m.0.rev) (k.put_makers m to e q)).0

  -- ### Types

  types_named : (n : NodeId) (t : NodeType) → E.nodes n ≡ Some t → IsUnder T rs n → type_fits (T.view (T.under n.0.rev)) t.ty t.leaf ≡ true
  types_named n t e i = elim (old_or_new D N fits n t e) [
    | inl q ↦ here.types n t q i
    | inr q ↦ ap (λ u. type_fits (T.view u) t.ty t.leaf) (new_under n q.0) ∙ k.types n t q.1
  ]

  -- of a node whose maker's schema became U
  fits_front : (n : NodeId) → IsUnder T rs n → BecomesWider (T.view (T.under n.0.rev)) U → (t : NodeType) → E.nodes n ≡ Some t → type_fits U t.ty t.leaf ≡ true
  fits_front n i w t e = type_becomes w t.ty t.leaf (types_named n t e i)

  -- of a new node
  fits_new : (n : NodeId) → is_new N n ≡ true → (t : NodeType) → E.nodes n ≡ Some t → type_fits U t.ty t.leaf ≡ true
  fits_new n q t e = ap (λ u. type_fits (T.view u) t.ty t.leaf) (sym (new_under n q)) ∙ types_named n t e (new_in_effect n q)

  -- of a node whose field is cleared
  fits_cleared : (f : FieldId) → clears N f ≡ true → (t : NodeType) → E.nodes f.node ≡ Some t → type_fits U t.ty t.leaf ≡ true
  fits_cleared f c t e = go (is_new N f.node) refl
    where
      go : (b : Bool) → is_new N f.node ≡ b → type_fits U t.ty t.leaf ≡ true
      go true q = fits_new f.node q t e
      go false q = let w = front (T.under f.node.0.rev) (k.clear_makers f c q) in fits_front f.node w.0 w.1 t e

  -- ### Places

  filled_by : (m : NodeId) (f : FieldId) → put_of N m ≡ Some (To.Register f) → (clears N f ≡ true) × (put_in N f ≡ Some m)
  filled_by m f e = let h = put-has N m (To.Register f) e in (put_clears N fits.itself m f h, has-put_in N fits.itself m f h)

  went : (m : NodeId) (to : To) → put_of N m ≡ Some to → GoesWell U E m to → StandsWell T rs s E m (spot_of E.row_of to)
  went m To.Nowhere e h = tt
  went m (To.Cell c) e h = subst (λ o. StandsWell T rs s E m (option_map_or (λ n. Spot.Row n c) o Spot.Nowhere)) (sym h.1) (λ i. record {
    in_effect = put_in_effect m (To.Cell c) e;
    field = there;
    at_home = λ required. absurd (true-false required (required_not_row there.rule.kind there.kind));
  })
    where
      there : HasField s E is_row h.0 row_key m
      there = has_field_wider wide E is_row h.0 row_key m (λ rule r w q. w.rows q) h.2
  went m (To.Register f) e h = λ i. record {
    in_effect = put_in_effect m (To.Register f) e;
    field = there;
    at_home = λ required. home_of required;
  }
    where
      there : HasField s E is_single_kind f.node f.key m
      there = has_field_wider wide E is_single_kind f.node f.key m (λ rule r w q. w.singles q) h

      home_of : is_required there.rule.kind ≡ true → T.home m ≡ Some f
      home_of required =
          let by = filled_by m f e in
          let w = k.required f by.0 (required_was wide E f there.rule (fits_cleared f by.0) there.ruled required) in
          let one : Some w.0 ≡ Some m = sym w.1 ∙ by.1 in
          let same : w.0 ≡ m = cc in
          elim w.2 [
            | inl new ↦ tells m (subst (λ x. is_new N x ≡ true) same new) ∙ ap (option_and_then register_of) e
            | inr home ↦ subst (λ x. T.home x ≡ Some f) same home
          ]

  stays : (m : NodeId) (spot : Spot) → StandsWell T rs s D m spot → StandsWell T rs s E m spot
  stays = stands_later s D E (named_later D N) T rs

  unless : (m : NodeId) (spot : Spot) → StandsWell T rs s D m spot → StandsWell T rs s E m (unless_cleared N spot)
  unless m Spot.Nowhere h = tt
  unless m (Spot.Row n c) h = stays m (Spot.Row n c) h
  unless m (Spot.Register f) h = elim (clears N f) as (λ b. StandsWell T rs s E m (cond b Spot.Nowhere (Spot.Register f))) [ true ↦ tt | false ↦ stays m (Spot.Register f) h ]

  place_later : (m : NodeId) → StandsWell T rs s E m (place_after E.row_of N (put_of N m) (D.place m))
  place_later m = go (put_of N m) refl
    where
      go : (o : Option To) → put_of N m ≡ o → StandsWell T rs s E m (place_after E.row_of N o (D.place m))
      go None e = unless m (D.place m) (here.places m)
      go (Some to) e = went m to e (k.fields m to e)

  went_known : (m : NodeId) (to : To) → put_of N m ≡ Some to → GoesWell U E m to → StandsKnown T rs s E m (spot_of E.row_of to)
  went_known m To.Nowhere e h = tt
  went_known m (To.Cell c) e h = subst (λ o. StandsKnown T rs s E m (option_map_or (λ n. Spot.Row n c) o Spot.Nowhere)) (sym h.1) (has_field_wider wide E is_row h.0 row_key m (λ rule r w q. w.rows q) h.2)
  went_known m (To.Register f) e h = go (is_new N f.node) refl
    where
      go : (b : Bool) → is_new N f.node ≡ b → IsUnder T rs f.node
      go true q = new_in_effect f.node q
      go false q = (front (T.under f.node.0.rev) (k.clear_makers f (filled_by m f e).0 q)).0

  stays_known : (m : NodeId) (spot : Spot) → StandsKnown T rs s D m spot → StandsKnown T rs s E m spot
  stays_known = known_stands_later s D E (named_later D N) T rs

  unless_known : (m : NodeId) (spot : Spot) → StandsKnown T rs s D m spot → StandsKnown T rs s E m (unless_cleared N spot)
  unless_known m Spot.Nowhere h = tt
  unless_known m (Spot.Row n c) h = stays_known m (Spot.Row n c) h
  unless_known m (Spot.Register f) h = elim (clears N f) as (λ b. StandsKnown T rs s E m (cond b Spot.Nowhere (Spot.Register f))) [ true ↦ tt | false ↦ h ]

  known_later_place : (m : NodeId) → IsUnder T rs m → StandsKnown T rs s E m (place_after E.row_of N (put_of N m) (D.place m))
  known_later_place m i = go (put_of N m) refl
    where
      go : (o : Option To) → put_of N m ≡ o → StandsKnown T rs s E m (place_after E.row_of N o (D.place m))
      go None e = unless_known m (D.place m) (here.known m i)
      go (Some to) e = went_known m to e (k.fields m to e)

  void_known : (m : NodeId) → IsUnder T rs m → StandsKnown T rs s E m ((void_data D N).place m)
  void_known m i = elim (is_new N m && is_put_in_new D N m) as (λ b. StandsKnown T rs s E m (cond b (place_after E.row_of N (put_of N m) (D.place m)) (D.place m))) [
    | true ↦ known_later_place m i
    | false ↦ stays_known m (D.place m) (here.known m i)
  ]

  -- ### Homes

  home_put : (m : NodeId) (f : FieldId) → put_register N m ≡ Some f → put_of N m ≡ Some (To.Register f)
  home_put m f e = go (put_of N m) e
    where
      to_is : (to : To) → register_of to ≡ Some f → to ≡ To.Register f
      to_is To.Nowhere q = cc
      to_is (To.Cell c) q = cc
      to_is (To.Register g) q = let same : g ≡ f = cc in ap To.Register same

      go : (o : Option To) → option_and_then register_of o ≡ Some f → o ≡ Some (To.Register f)
      go None q = cc
      go (Some to) q = ap (λ t. Some t) (to_is to q)

  homes_named : (m : NodeId) (f : FieldId) → IsSome (E.nodes m) → IsUnder T rs m → T.home m ≡ Some f → IsSome (E.nodes f.node) × IsUnder T rs f.node × BecomesWider (T.view (T.under f.node.0.rev)) (T.view (T.under m.0.rev))
  homes_named m f known i e = elim (known_old_or_new D N fits m known) [
    | inl old ↦ (let h = here.homes m f old i e in (known_later s D E (named_later D N) f.node h.0, h.1, h.2))
    | inr new ↦ made new
  ]
    where
      made : is_new N m ≡ true → IsSome (E.nodes f.node) × IsUnder T rs f.node × BecomesWider (T.view (T.under f.node.0.rev)) (T.view (T.under m.0.rev))
      made new =
          let to = home_put m f (sym (tells m new) ∙ e) in
          (there (known_put D N fits m (To.Register f) to).2, (wider to).0, subst (λ u. BecomesWider (T.view (T.under f.node.0.rev)) (T.view u)) (sym (new_under m new)) (wider to).1)
        where
          there : (is_new N f.node ≡ true) ⊎ IsSome (D.nodes f.node) → IsSome (E.nodes f.node)
          there (inr h) = known_later s D E (named_later D N) f.node h
          there (inl h) = ap (λ o. is_some (option_or o (new_type N f.node))) (fits.fresh_nodes f.node h) ∙ h

          wider : put_of N m ≡ Some (To.Register f) → IsUnder T rs f.node × BecomesWider (T.view (T.under f.node.0.rev)) U
          wider to = go (is_new N f.node) refl
            where
              go : (b : Bool) → is_new N f.node ≡ b → IsUnder T rs f.node × BecomesWider (T.view (T.under f.node.0.rev)) U
              go true q = (new_in_effect f.node q, subst (λ u. BecomesWider (T.view u) U) (sym (new_under f.node q)) no_change)
              go false q = front (T.under f.node.0.rev) (k.clear_makers f (filled_by m f to).0 q)

  -- ### Required homes

  -- a new node that has a home is put there
  new_home : (m : NodeId) (f : FieldId) → is_new N m ≡ true → T.home m ≡ Some f → put_of N m ≡ Some (To.Register f)
  new_home m f new e = home_put m f (sym (tells m new) ∙ e)

  -- what is required of the home of an old node
  needs_before : (m : NodeId) (f : FieldId) → IsSome (D.nodes m) → IsUnder T rs m → T.home m ≡ Some f → is_required_field s E f ≡ true → is_required_field s D f ≡ true
  needs_before m f known i e needs = sym (required_later s D E (named_later D N) f (here.homes m f known i e).0) ∙ needs

  old_away : (m : NodeId) (f : FieldId) → IsSome (D.nodes m) → IsUnder T rs m → T.home m ≡ Some f → is_required_field s E f ≡ true → (D.place m ≡ Spot.Register f) ⊎ (D.place m ≡ Spot.Nowhere)
  old_away m f known i e needs = here.away m f known i e (needs_before m f known i e needs)

  away_put : (m : NodeId) (f : FieldId) (to : To) → put_of N m ≡ Some to → IsSome (D.nodes m) → IsUnder T rs m → T.home m ≡ Some f → is_required_field s E f ≡ true
      → (spot_of E.row_of to ≡ Spot.Register f) ⊎ (spot_of E.row_of to ≡ Spot.Nowhere)
  away_put m f to q known i e needs =
      let old = old_not_new D N fits m known in
      let home = here.homes m f known i e in
      let w : BecomesWider (T.view (T.under f.node.0.rev)) U = becomes_on home.2 (front (T.under m.0.rev) (k.put_makers m to q old)).1 in
      let r = required_rule s E f needs in
      elim (k.homes m to f q old e (required_was wide E f r.0 (fits_front f.node home.1 w) r.1 r.2)) [
        | inl there ↦ inl (ap (spot_of E.row_of) there)
        | inr out ↦ inr (ap (spot_of E.row_of) out.0)
      ]

  away_left : (f : FieldId) (spot : Spot) → (spot ≡ Spot.Register f) ⊎ (spot ≡ Spot.Nowhere) → (unless_cleared N spot ≡ Spot.Register f) ⊎ (unless_cleared N spot ≡ Spot.Nowhere)
  away_left f spot (inr q) = inr (ap (unless_cleared N) q)
  away_left f spot (inl q) = elim (clears N f) as (λ b. clears N f ≡ b → (unless_cleared N spot ≡ Spot.Register f) ⊎ (unless_cleared N spot ≡ Spot.Nowhere)) [
    | true ↦ λ c. inr (ap (unless_cleared N) q ∙ ap (λ b. cond b Spot.Nowhere (Spot.Register f)) c)
    | false ↦ λ c. inl (ap (unless_cleared N) q ∙ ap (λ b. cond b Spot.Nowhere (Spot.Register f)) c)
  ] refl

  full_away : (m : NodeId) (f : FieldId) → IsSome (E.nodes m) → IsUnder T rs m → T.home m ≡ Some f → is_required_field s E f ≡ true
      → (place_after E.row_of N (put_of N m) (D.place m) ≡ Spot.Register f) ⊎ (place_after E.row_of N (put_of N m) (D.place m) ≡ Spot.Nowhere)
  full_away m f known i e needs = elim (known_old_or_new D N fits m known) [
    | inr new ↦ inl (ap (λ o. place_after E.row_of N o (D.place m)) (new_home m f new e))
    | inl old ↦ go (put_of N m) refl old
  ]
    where
      go : (o : Option To) → put_of N m ≡ o → IsSome (D.nodes m) → (place_after E.row_of N o (D.place m) ≡ Spot.Register f) ⊎ (place_after E.row_of N o (D.place m) ≡ Spot.Nowhere)
      go None q old = away_left f (D.place m) (old_away m f old i e needs)
      go (Some to) q old = away_put m f to q old i e needs

  void_away : (m : NodeId) (f : FieldId) → IsSome (E.nodes m) → IsUnder T rs m → T.home m ≡ Some f → is_required_field s E f ≡ true → ((void_data D N).place m ≡ Spot.Register f) ⊎ ((void_data D N).place m ≡ Spot.Nowhere)
  void_away m f known i e needs = elim (known_old_or_new D N fits m known) [
    | inr new ↦ made new (is_put_in_new D N m) refl
    | inl old ↦ stood (is_new N m) (old_not_new D N fits m old) old
  ]
    where
      made : is_new N m ≡ true → (b : Bool) → is_put_in_new D N m ≡ b → ((void_data D N).place m ≡ Spot.Register f) ⊎ ((void_data D N).place m ≡ Spot.Nowhere)
      made new true q = inl (rw (new, q) (ap (λ o. place_after E.row_of N o (D.place m)) (new_home m f new e)))
      made new false q = inr (rw (new, q) (unknown_nowhere D sound m (fits.fresh_nodes m new)))

      stood : (b : Bool) → is_new N m ≡ false → IsSome (D.nodes m) → ((void_data D N).place m ≡ Spot.Register f) ⊎ ((void_data D N).place m ≡ Spot.Nowhere)
      stood b q old = elim (old_away m f old i e needs) [
        | inl x ↦ inl (rw q x)
        | inr x ↦ inr (rw q x)
      ]

  -- ### Whole

  -- the occupant of a required field stays, unless the field is filled
  occupant_stays : (n : NodeId) (key : Key) (rule : FieldRule) → IsUnder T rs n → put_in N (field_at n key) ≡ None → rule_at D s n key ≡ Some rule → is_required rule.kind ≡ true → IsSome (unless_put N (D.held (field_at n key)))
  occupant_stays n key rule i none ruled required = go (D.held (field_at n key)) refl (here.filled n key rule i ruled required)
    where
      go : (o : Option NodeId) → D.held (field_at n key) ≡ o → IsSome o → IsSome (unless_put N o)
      go None e h = cc
      go (Some m) e h = put (put_of N m) refl
        where
          known : IsSome (D.nodes m)
          known = (sound.held_known m (field_at n key) e).0

          may : MayStandIn T rs s D is_single_kind n key m
          may = subst (StandsWell T rs s D m) ((sound.one_held m (field_at n key)).0 e) (here.places m) i

          lives : T.home m ≡ Some (field_at n key)
          lives = may.at_home (ap (λ (r : FieldRule). is_required r.kind) (one_rule D s n key may.field.rule rule may.field.ruled ruled) ∙ required)

          put : (o : Option To) → put_of N m ≡ o → IsSome (cond (is_some o) None (Some m))
          put None q = refl
          put (Some to) q =
              let old = old_not_new D N fits m known in
              let home = here.homes m (field_at n key) known may.in_effect lives in
              let w : BecomesWider (T.view (T.under n.0.rev)) U = becomes_on home.2 (front (T.under m.0.rev) (k.put_makers m to q old)).1 in
              let needs = required_was wide E (field_at n key) rule (fits_front n i w) (rule_later s D E (named_later D N) n key rule ruled) required in
              elim (k.homes m to (field_at n key) q old lives needs) [
                | inl same ↦ absurd (bad (filled_by m (field_at n key) (q ∙ ap (λ t. Some t) same)).1)
                | inr out ↦ absurd (true-false out.1 (ap is_some none))
              ]
            where
              bad : put_in N (field_at n key) ≡ Some m → ⊥
              bad f = let x : None ≡ Some m = sym none ∙ f in cc

  full_filled : (n : NodeId) (key : Key) (rule : FieldRule) → IsUnder T rs n → rule_at E s n key ≡ Some rule → is_required rule.kind ≡ true → IsSome ((full D N).held (field_at n key))
  full_filled n key rule i ruled required = go (put_in N (field_at n key)) refl
    where
      kept : put_in N (field_at n key) ≡ None → (b : Bool) → clears N (field_at n key) ≡ b → (c : Bool) → is_new N n ≡ c → IsSome (cond b None (unless_put N (D.held (field_at n key))))
      kept none true e c q =
          let w = k.required (field_at n key) e (required_was wide E (field_at n key) rule (fits_cleared (field_at n key) e) ruled required) in
          let bad : None ≡ Some w.0 = sym none ∙ w.1 in cc
      kept none false e true q =
          let x = rule_was wide E n key rule (fits_new n q) ruled required in
          let w = k.filled n key x.0 q x.1 x.2 in
          let bad : None ≡ Some w.0 = sym none ∙ w.1 in cc
      kept none false e false q = occupant_stays n key rule i none (ruled_old D N fits s n key rule q ruled) required

      go : (o : Option NodeId) → put_in N (field_at n key) ≡ o → IsSome (option_or o (cond (clears N (field_at n key)) None (unless_put N (D.held (field_at n key)))))
      go (Some m) e = refl
      go None e = kept e (clears N (field_at n key)) refl (is_new N n) refl

  pub full_conform : NodesConform T rs s (full D N)
  full_conform = record {
    types = types_named;
    places = λ m. stands_later s E (full D N) (λ n t e. e) T rs m _ (place_later m);
    known = λ m i. known_stands_later s E (full D N) (λ n t e. e) T rs m _ (known_later_place m i);
    filled = full_filled;
    homes = homes_named;
    away = full_away;
    root_type = root_there D N fits s here.root_type;
  }

  -- ### Void

  void_place : (m : NodeId) → StandsWell T rs s E m ((void_data D N).place m)
  void_place m = elim (is_new N m && is_put_in_new D N m) as (λ b. StandsWell T rs s E m (cond b (place_after E.row_of N (put_of N m) (D.place m)) (D.place m))) [
    | true ↦ place_later m
    | false ↦ stays m (D.place m) (here.places m)
  ]

  void_filled : (n : NodeId) (key : Key) (rule : FieldRule) → IsUnder T rs n → rule_at E s n key ≡ Some rule → is_required rule.kind ≡ true → IsSome ((void_data D N).held (field_at n key))
  void_filled n key rule i ruled required = go (is_new N n) refl
    where
      new : is_new N n ≡ true → IsSome (only_new N (put_in N (field_at n key)))
      new q =
          let x = rule_was wide E n key rule (fits_new n q) ruled required in
          let m = k.filled n key x.0 q x.1 x.2 in
          rw (m.1, m.2) refl

      go : (b : Bool) → is_new N n ≡ b → IsSome (cond b (only_new N (put_in N (field_at n key))) (D.held (field_at n key)))
      go true q = new q
      go false q = here.filled n key rule i (ruled_old D N fits s n key rule q ruled) required

  pub void_conform : NodesConform T rs s (void_data D N)
  void_conform = record {
    types = types_named;
    places = λ m. stands_later s E (void_data D N) (λ n t e. e) T rs m _ (void_place m);
    known = λ m i. known_stands_later s E (void_data D N) (λ n t e. e) T rs m _ (void_known m i);
    filled = void_filled;
    homes = homes_named;
    away = void_away;
    root_type = root_there D N fits s here.root_type;
  }

-- ## Where the schema isn't in effect

module _ (T : Told) (D : Document) (N : Intent) (rs : List Rev) (s : SchemaView) (fits : Fits D N) (here : NodesConform T rs s D) (own : T.under N.rev ≡ N.under) (out : Has rs N.under → ⊥) where
  new_out : (n : NodeId) → is_new N n ≡ true → IsUnder T rs n → ⊥
  new_out n e i = out (subst (Has rs) (ap T.under (new_node_rev N fits.itself n e) ∙ own) i)

  -- nothing is asked of a place in a new node
  in_new : (m : NodeId) (spot : Spot) → option_map_or (is_new N) (node_of spot) false ≡ true → StandsWell T rs s (with_names D N) m spot
  in_new m Spot.Nowhere h = tt
  in_new m (Spot.Row n c) h = λ i. absurd (new_out n h i)
  in_new m (Spot.Register f) h = λ i. absurd (new_out f.node h i)

  put_out : (m : NodeId) (o : Option To) → option_map_or (λ to. option_map_or (is_new N) (node_of (spot_of (with_names D N).row_of to)) false) o false ≡ true
      → StandsWell T rs s (with_names D N) m (place_after (with_names D N).row_of N o (D.place m))
  put_out m None h = absurd (cc)
  put_out m (Some to) h = in_new m (spot_of (with_names D N).row_of to) h

  left_place : (m : NodeId) → StandsWell T rs s (with_names D N) m ((void_data D N).place m)
  left_place m = go (is_new N m) (is_put_in_new D N m) refl
    where
      old : StandsWell T rs s (with_names D N) m (D.place m)
      old = stands_later s D (with_names D N) (named_later D N) T rs m (D.place m) (here.places m)

      go : (a b : Bool) → is_put_in_new D N m ≡ b → StandsWell T rs s (with_names D N) m (cond (a && b) (place_after (with_names D N).row_of N (put_of N m) (D.place m)) (D.place m))
      go true true e = put_out m (put_of N m) e
      go true false e = old
      go false b e = old

  left_known : (m : NodeId) → IsUnder T rs m → StandsKnown T rs s (with_names D N) m ((void_data D N).place m)
  left_known m i = go (is_new N m) refl
    where
      go : (a : Bool) → is_new N m ≡ a → StandsKnown T rs s (with_names D N) m (cond (a && is_put_in_new D N m) (place_after (with_names D N).row_of N (put_of N m) (D.place m)) (D.place m))
      go true q = absurd (new_out m q i)
      go false q = known_stands_later s D (with_names D N) (named_later D N) T rs m (D.place m) (here.known m i)

  left_filled : (n : NodeId) (key : Key) (rule : FieldRule) → IsUnder T rs n → rule_at (with_names D N) s n key ≡ Some rule → is_required rule.kind ≡ true → IsSome ((void_data D N).held (field_at n key))
  left_filled n key rule i ruled required = go (is_new N n) refl
    where
      go : (b : Bool) → is_new N n ≡ b → IsSome (cond b (only_new N (put_in N (field_at n key))) (D.held (field_at n key)))
      go true q = absurd (new_out n q i)
      go false q = here.filled n key rule i (ruled_old D N fits s n key rule q ruled) required

  stood : (m : NodeId) (f : FieldId) → IsSome (D.nodes m) → (D.place m ≡ Spot.Register f) ⊎ (D.place m ≡ Spot.Nowhere) → ((void_data D N).place m ≡ Spot.Register f) ⊎ ((void_data D N).place m ≡ Spot.Nowhere)
  stood m f old h = let q = old_not_new D N fits m old in elim h [
    | inl x ↦ inl (rw q x)
    | inr x ↦ inr (rw q x)
  ]

  pub left_conform : NodesConform T rs s (void_data D N)
  left_conform = record {
    types = λ n t e i. elim (old_or_new D N fits n t e) [ inl q ↦ here.types n t q i | inr q ↦ absurd (new_out n q.0 i) ];
    places = λ m. stands_later s (with_names D N) (void_data D N) (λ n t e. e) T rs m _ (left_place m);
    known = λ m i. known_stands_later s (with_names D N) (void_data D N) (λ n t e. e) T rs m _ (left_known m i);
    filled = left_filled;
    homes = λ m f known i e. elim (known_old_or_new D N fits m known) [
      | inl old ↦ (let h = here.homes m f old i e in (known_later s D (with_names D N) (named_later D N) f.node h.0, h.1, h.2))
      | inr new ↦ absurd (new_out m new i)
    ];
    away = λ m f known i e needs. elim (known_old_or_new D N fits m known) [
      | inl old ↦ stood m f old (here.away m f old i e (sym (required_later s D (with_names D N) (named_later D N) f (here.homes m f old i e).0) ∙ needs))
      | inr new ↦ absurd (new_out m new i)
    ];
    root_type = root_there D N fits s here.root_type;
  }
