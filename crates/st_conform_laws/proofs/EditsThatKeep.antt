-- What an edit means passes the test of valid messages, in every document that conforms node by node: also where it has
-- commits of strangers. The edit is resolved in the live part, in which the home of a node is told where its node is live.
use Rattle.std.proofs.Common.{◌≡◌, ℕ, zero, suc, Bool, true, false, cond, Option, Some, None, IsSome, Ok, option_and_then, refl, sym, ap, ◌∙◌, subst, ◌⊎◌, inl, inr}
use Rattle.std.specs.Option.{option_map_or}
use Rattle.st_lemmas.proofs.Bools.{true-false}
use Rattle.st_ids.specs.Listing.{Has}
use Rattle.st_ids.specs.Root.{root}
use Rattle.st_ids.specs.declared.names.FieldId.{FieldId}
use Rattle.st_ids.specs.declared.names.Key.{Key}
use Rattle.st_ids.specs.declared.names.NodeId.{NodeId}
use Rattle.st_tree.specs.Preorder.{node_named}
use Rattle.st_tree.specs.declared.edit.Edit.{Edit}
use Rattle.st_schema.specs.Kind.{is_required, is_row, is_single_kind}
use Rattle.st_schema.specs.Schema.{SchemaView, field_of, is_among, is_sound}
use Rattle.st_schema.specs.declared.names.FieldRule.{FieldRule}
use Rattle.st_schema.specs.declared.names.KindName.{KindName}
use Rattle.st_marks.specs.declared.intents.Intent.{Intent}
use Rattle.st_marks.specs.declared.intents.To.{To}
use Rattle.st_marks.specs.declared.places.Spot.{Spot}
use Rattle.st_marks.specs.CarryOut.{with_names}
use Rattle.st_marks.specs.Document.{Document, IsSoundInForm, NodeType, above, climb, node_of, revs}
use Rattle.st_marks.specs.Intent.{Fits, IsKnown, clears, is_new, put_of}
use Rattle.st_marks.proofs.Climb.{placed_known}
use Rattle.st_marks.proofs.Full.{known_put}
use Rattle.st_marks.proofs.Lookups.{clears-has}
use Rattle.st_marks.proofs.Members.{all-has}
use Rattle.st_edits.specs.Paths.{field_at}
use Rattle.st_edits.specs.Resolve.{resolve}
use Rattle.st_edits.specs.declared.names.NameCounters.{NameCounters}
use Rattle.st_edits.proofs.MoveFits.{CellsFresh}
use Rattle.st_edits.proofs.NewFits.{NodesFresh}
use Rattle.st_edits.proofs.Resolved.{resolved_fits}
use Rattle.st_schema_laws.specs.Agreeing.{KeepsSchema, TellsHomes}
use Rattle.st_edits.specs.Fields.{is_required_field, row_key}
use Rattle.st_schema_laws.specs.Conforming.{Admits, IsConforming, IsFree, MayStand}
use Rattle.st_schema_laws.proofs.Kept.{named_later, required_later}
use Rattle.st_schema_laws.proofs.Resolved.{resolved_agrees}
use Rattle.st_schema_laws.proofs.Rules.{required_not_row}
use Rattle.st_part_laws.specs.Parts.{part_by}
use Rattle.st_part_laws.proofs.Chains.{last-has}
use Rattle.st_part_laws.proofs.Parts.{part_sound}
use Rattle.st_schema_laws.specs.AgreeingInEffect.{Told}
use Rattle.st_edits.specs.InEffect.{last_in_effect}
use Rattle.st_schema_laws.proofs.EditsInLine.{meant}
use Rattle.st_schema_laws.proofs.NamesInParts.{IsFromPart}
use Rattle.st_schema_laws.proofs.SchemasKept.{no_line, no_upgrade}
use Rattle.st_schema_laws.proofs.EditsInParts.{resolves_same}
use Rattle.st_conform_laws.specs.Keeping.{KeepsTo, KeepsWhereBased}
use Rattle.st_conform_laws.specs.Nodes.{ConformsByNodes, MayStandIn, StandsWell}
use Rattle.st_conform_laws.proofs.DocumentsAfter.{last}
use Rattle.st_conform_laws.proofs.NodesThatConform.{old_not_new}
use Rattle.st_conform_laws.proofs.OwnCommits.{keeps_of_part, part_nodes, part_rows}
use Rattle.st_conform_laws.proofs.ShownTrees.{is_live, live_closed, live_in, nodes_same, part_filled, part_root, part_types, root_live, true_live}

module _ (T : Told) (D : Document) (s : IsSoundInForm D) (here : ConformsByNodes T D) (N : Intent) (fits : Fits D N) where
  abbrev p : NodeId → Bool
  p = is_live D s

  abbrev P : Document
  P = part_by p D

  abbrev V : SchemaView
  V = T.view (last_in_effect D)

  -- the home of an old node is told where the home's node is live
  abbrev if_live : Option FieldId → Option FieldId
  if_live None = None
  if_live (Some f) = cond (p f.node) (Some f) None

  abbrev home : NodeId → Option FieldId
  home m = cond (is_new N m) (T.home m) (if_live (T.home m))

  home_up : (m : NodeId) (f : FieldId) → is_new N m ≡ false → T.home m ≡ Some f → p f.node ≡ true → home m ≡ Some f
  home_up m f old e high = ap (λ b. cond b (T.home m) (if_live (T.home m))) old ∙ ap if_live e ∙ ap (λ b. cond b (Some f) None) high

  home_down : (m : NodeId) (f : FieldId) → is_new N m ≡ false → home m ≡ Some f → (T.home m ≡ Some f) × (p f.node ≡ true)
  home_down m f old e = go (T.home m) refl (sym (ap (λ b. cond b (T.home m) (if_live (T.home m))) old) ∙ e)
    where
      pick : (g : FieldId) (b : Bool) → p g.node ≡ b → cond b (Some g) None ≡ Some f → (Some g ≡ Some f) × (p f.node ≡ true)
      pick g true q h = let same : g ≡ f = cc in (h, ap (λ (x : FieldId). p x.node) (sym same) ∙ q)
      pick g false q h = absurd (cc)

      go : (o : Option FieldId) → T.home m ≡ o → if_live o ≡ Some f → (T.home m ≡ Some f) × (p f.node ≡ true)
      go None q h = absurd (cc)
      go (Some g) q h = let w = pick g (p g.node) refl h in (q ∙ w.0, w.1)

  known_live : (m : NodeId) → IsSome (P.nodes m) → (p m ≡ true) × IsSome (D.nodes m)
  known_live m h = go (p m) refl h
    where
      go : (b : Bool) → p m ≡ b → IsSome (cond b (D.nodes m) None) → (p m ≡ true) × IsSome (D.nodes m)
      go true q h = (q, h)
      go false q h = absurd (cc)

  required_in_part : (f : FieldId) → p f.node ≡ true → is_required_field V P f ≡ is_required_field V D f
  required_in_part f high = ap (λ o. option_map_or (λ (rule : FieldRule). is_required rule.kind) (option_and_then (λ (t : NodeType). field_of V t.ty f.key.0) o) false) (nodes_same T D s here f.node high)

  -- the home of a live node that stands elsewhere is free
  module _ (m : NodeId) (low : p m ≡ true) (known : IsSome (D.nodes m)) (f : FieldId) (e : home m ≡ Some f) where
    old : is_new N m ≡ false
    old = old_not_new D N fits m known

    lives : (T.home m ≡ Some f) × (p f.node ≡ true)
    lives = home_down m f old e

    home_there : IsSome (D.nodes f.node)
    home_there = (here.nodes.homes m f known (live_in T D s here m low) lives.0).0

    home_in_part : IsSome (P.nodes f.node)
    home_in_part = subst (λ o. IsSome o) (sym (nodes_same T D s here f.node lives.1)) home_there

    free_or_there : IsFree V P f ⊎ ((D.place m ≡ Spot.Register f) ⊎ (D.place m ≡ Spot.Nowhere))
    free_or_there = go (is_required_field V P f) refl
      where
        go : (b : Bool) → is_required_field V P f ≡ b → IsFree V P f ⊎ ((D.place m ≡ Spot.Register f) ⊎ (D.place m ≡ Spot.Nowhere))
        go false q = inl (record { known = home_in_part; open_field = q })
        go true q = inr (here.nodes.away m f known (live_in T D s here m low) lives.0 (sym (required_in_part f lives.1) ∙ q))

  module _ (kinds : KindName → Bool) (n : NodeId) (key : Key) (m : NodeId) (high : p n ≡ true) (low : p m ≡ true) (h : MayStandIn T (revs D.schemas) V D kinds n key m)
      (at_home : is_required h.field.rule.kind ≡ true → home m ≡ Some (field_at n key)) (only : (f : FieldId) → home m ≡ Some f → (f ≡ field_at n key) ⊎ IsFree V P f) where
    admits : Admits V home P kinds n key m
    admits = record {
      rule = h.field.rule;
      ruled = ap (option_and_then (λ (t : NodeType). field_of V t.ty key.0)) (nodes_same T D s here n high) ∙ h.field.ruled;
      kind = h.field.kind;
      typed = ap (λ o. option_map_or (λ (t : NodeType). is_among t.ty h.field.rule.types) o false) (nodes_same T D s here m low) ∙ h.field.typed;
      at_home = at_home;
      away = only;
    }

  place_live : (m : NodeId) (spot : Spot) → D.place m ≡ spot → p m ≡ true → IsSome (D.nodes m) → StandsWell T (revs D.schemas) V D m spot → MayStand V home P m spot
  place_live m Spot.Nowhere q low known h = tt
  place_live m (Spot.Row n c) q low known h =
      let high : p n ≡ true = sym (live_closed D s m n (ap node_of q)) ∙ low in
      let may = h (live_in T D s here n high) in
      admits is_row n row_key m high low may (λ required. absurd (true-false required (required_not_row may.field.rule.kind may.field.kind)))
      (λ f e. elim (free_or_there m low known f e) [
        | inl free ↦ inr free
        | inr (inl x) ↦ (let bad : Spot.Row n c ≡ Spot.Register f = sym q ∙ x in cc)
        | inr (inr x) ↦ (let bad : Spot.Row n c ≡ Spot.Nowhere = sym q ∙ x in cc)
      ])
  place_live m (Spot.Register g) q low known h =
      let high : p g.node ≡ true = sym (live_closed D s m g.node (ap node_of q)) ∙ low in
      let may = h (live_in T D s here g.node high) in
      admits is_single_kind g.node g.key m high low may (λ required. home_up m g (old_not_new D N fits m known) (may.at_home required) high)
      (λ f e. elim (free_or_there m low known f e) [
        | inl free ↦ inr free
        | inr (inl x) ↦ (let one : Spot.Register g ≡ Spot.Register f = sym q ∙ x in inl (the g f one))
        | inr (inr x) ↦ (let bad : Spot.Register g ≡ Spot.Nowhere = sym q ∙ x in cc)
      ])
    where
      the : (g f : FieldId) → Spot.Register g ≡ Spot.Register f → f ≡ g
      the g f e = cc

  place_part : (m : NodeId) → MayStand V home P m (P.place m)
  place_part m = go (p m) refl (D.nodes m) refl
    where
      stands : (spot : Spot) → D.place m ≡ spot → p m ≡ true → MayStand V home P m spot
      stands Spot.Nowhere q low = tt
      stands (Spot.Row n c) q low = place_live m (Spot.Row n c) q low (placed_known D s m (λ w. (let bad : Spot.Row n c ≡ Spot.Nowhere = sym q ∙ w in cc))) (subst (StandsWell T (revs D.schemas) V D m) q (here.nodes.places m))
      stands (Spot.Register g) q low = place_live m (Spot.Register g) q low (placed_known D s m (λ w. (let bad : Spot.Register g ≡ Spot.Nowhere = sym q ∙ w in cc))) (subst (StandsWell T (revs D.schemas) V D m) q (here.nodes.places m))

      go : (b : Bool) → p m ≡ b → (o : Option NodeType) → D.nodes m ≡ o → MayStand V home P m (cond b (D.place m) Spot.Nowhere)
      go true q o r = stands (D.place m) refl q
      go false q o r = tt

  pub live_conforms : IsConforming V home P
  live_conforms = record {
    types = part_types T D s here;
    places = place_part;
    filled = part_filled T D s here;
    homes = λ m f known e. (let w = known_live m known in home_in_part m w.0 w.1 f e);
    root_type = part_root T D s here;
  }

  -- ## What an edit means

  live_nowhere : (m : NodeId) → p m ≡ true → D.place m ≡ Spot.Nowhere → m ≡ root
  live_nowhere m low e = let w = true_live D s m low in go w.0 w.1
    where
      go : (k : ℕ) → climb (above D) k m ≡ Some root → m ≡ root
      go zero q = cc
      go (suc k) q = let bad : None ≡ Some root = sym (ap (λ x. option_and_then (climb (above D) k) (node_of x)) e) ∙ q in cc

  module _ (G : NameCounters) (edit : Edit) (nodes : NodesFresh D G) (cells : CellsFresh D G) (told : T.under N.rev ≡ N.under) (tells : TellsHomes T.home N) (e : resolve D V G edit ≡ Ok N) where
    schema : is_sound V ≡ true
    schema = here.widening.sound (last_in_effect D) (last-has (revs D.schemas) (last_in_effect D) (last T D s here))

    whole : IsSoundInForm P
    whole = part_sound p D s (live_closed D s) (root_live D s)

    nodes_fresh : NodesFresh P G
    nodes_fresh k low = go (p (node_named G.rev k))
      where
        go : (b : Bool) → cond b (D.nodes (node_named G.rev k)) None ≡ None
        go true = nodes k low
        go false = refl

    cells_fresh : CellsFresh P G
    cells_fresh k low = rw (cells k low) refl

    in_part : resolve P V G edit ≡ Ok N
    in_part = resolves_same p D s (live_closed D s) (root_live D s) V G edit ∙ e

    fits_part : Fits P N
    fits_part = resolved_fits P V G edit N whole schema nodes_fresh cells_fresh in_part

    is : IsFromPart (λ n. true) D G N
    is = meant D V G edit N s schema nodes cells e

    keeps : KeepsSchema V home P N
    keeps = resolved_agrees V home P G N whole schema live_conforms nodes_fresh cells_fresh (λ m new. ap (λ b. cond b (T.home m) (if_live (T.home m))) new ∙ tells m new) edit in_part

    live_known : (n : NodeId) → is_new N n ≡ false → IsKnown P N n → p n ≡ true
    live_known n it (inl new) = absurd (true-false new it)
    live_known n it (inr h) = (known_live n h).0

    puts_live : (m : NodeId) (to : To) → put_of N m ≡ Some to → is_new N m ≡ false → p m ≡ true
    puts_live m to q old = live_known m old (known_put P N fits_part m to q).0

    clears_live : (f : FieldId) → clears N f ≡ true → is_new N f.node ≡ false → p f.node ≡ true
    clears_live f q old = live_known f.node old (all-has (λ (f : FieldId). IsKnown P N f.node) N.clear f fits_part.clears_known (clears-has N.clear f q))

    upper : (m : NodeId) (to : To) (f : FieldId) → put_of N m ≡ Some to → is_new N m ≡ false → T.home m ≡ Some f → is_required_field V (with_names D N) f ≡ true → home m ≡ Some f
    upper m to f q old own needs =
        let low = puts_live m to q old in
        let known = is_old (known_put D N fits m to q).0 in
        let i = live_in T D s here m low in
        let there = (here.nodes.homes m f known i own).0 in
        elim (here.nodes.away m f known i own (sym (required_later V D (with_names D N) (named_later D N) f there) ∙ needs)) [
          | inl x ↦ home_up m f old own (sym (live_closed D s m f.node (ap node_of x)) ∙ low)
          | inr x ↦ absurd (not_root (live_nowhere m low x))
        ]
      where
        is_old : IsKnown D N m → IsSome (D.nodes m)
        is_old (inl new) = absurd (true-false new old)
        is_old (inr h) = h

        not_root : m ≡ root → ⊥
        not_root same = let bad : None ≡ Some to = sym fits.itself.root_stays ∙ ap (put_of N) (sym same) ∙ q in cc

    line : revs D.schemas ≡ T.chain N.under
    line = here.line.last N.under (last T D s here ∙ ap (λ r. Some r) (sym is.under))

    keeps_to : KeepsTo T D N
    keeps_to = keeps_of_part T D P N fits p (part_nodes p D) (part_rows p D) (λ n q. subst (λ rs. Has rs (T.under n.0.rev)) line (live_in T D s here n q)) puts_live clears_live
        home (λ m f old q. (home_down m f old q).0) (λ m to f q old own needs. upper m to f q old own (subst (λ u. is_required_field (T.view u) (with_names D N) f ≡ true) is.under needs))
        (subst (λ u. KeepsSchema (T.view u) home P N) (sym is.under) keeps)

    pub edit_keeps : KeepsWhereBased T D N
    edit_keeps = record { under = told; chain = no_line T N is.no_schema; homes = tells; keeps = λ base none. keeps_to; widens = λ base. no_upgrade T N is.no_schema }
