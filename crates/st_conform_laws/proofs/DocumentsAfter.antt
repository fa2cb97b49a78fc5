-- Any commit that keeps to its schema where that is in effect leaves a document that conforms node by node.
use Rattle.std.proofs.Common.{◌≡◌, ◌≢◌, ℕ, Bool, true, false, List, [], ◌∷◌, ◌++◌, Option, Some, None, IsSome, IfSome, is_some, unwrap_or, option_and_then, refl, sym, ap, ◌∙◌, subst, ◌⊎◌, inl, inr}
use Rattle.std.specs.Option.{option_map_or}
use Rattle.st_lemmas.proofs.Bools.{true-false}
use Rattle.st_lemmas.proofs.Lists.{map-append}
use Rattle.st_ids.specs.Listing.{Has}
use Rattle.st_ids.specs.Root.{opening, root}
use Rattle.st_ids.specs.declared.names.FieldId.{FieldId}
use Rattle.st_ids.specs.declared.names.Key.{Key}
use Rattle.st_ids.specs.declared.names.NodeId.{NodeId}
use Rattle.st_ids.specs.declared.names.Rev.{Rev}
use Rattle.st_schema.specs.Kind.{is_required, is_row, is_single_kind}
use Rattle.st_schema.specs.Schema.{SchemaView, field_of, is_among, is_sound}
use Rattle.st_schema.specs.declared.names.FieldRule.{FieldRule}
use Rattle.st_schema.specs.declared.names.KindName.{KindName}
use Rattle.st_marks.specs.declared.intents.Intent.{Intent}
use Rattle.st_marks.specs.declared.places.Spot.{Spot}
use Rattle.st_marks.specs.declared.schemas.SchemaEntry.{SchemaEntry}
use Rattle.st_marks.specs.declared.verdicts.Verdict.{Verdict}
use Rattle.st_marks.specs.CarryOut.{full, void, void_data, with_schema}
use Rattle.st_marks.specs.Document.{Document, HasShortRows, IsSoundInForm, NodeType, last_of, node_of, revs}
use Rattle.st_marks.specs.Intent.{Fits, IsIntent, clears, is_new, put_of}
use Rattle.st_marks.specs.declared.intents.To.{To}
use Rattle.st_marks.specs.Run.{Run, done, next}
use Rattle.st_marks.specs.Verdict.{HasBase, IsBaseInEffect, IsVerdict, carried_document}
use Rattle.st_marks.proofs.Climb.{above_known, placed_known}
use Rattle.st_marks.proofs.Members.{has-append, append_left}
use Rattle.st_marks.proofs.OneVerdict.{carried_extends}
use Rattle.st_log_laws.specs.Names.{IsMadeUnder}
use Rattle.st_log_laws.specs.Turns.{FitInTurn}
use Rattle.st_log_laws.proofs.Names.{made_after}
use Rattle.st_edits.specs.Paths.{field_at}
use Rattle.st_edits.specs.Resolve.{has_type, rule_at}
use Rattle.st_edits.specs.Fields.{is_required_field, row_key, type_fits}
use Rattle.st_schema_laws.specs.Conforming.{IsConforming, MayStand}
use Rattle.st_schema_laws.proofs.Kept.{one_rule as one_rule_of, required_rule}
use Rattle.st_schema_laws.proofs.Rules.{required_not_row}
use Rattle.st_part_laws.specs.Chains.{AreInLine}
use Rattle.st_part_laws.specs.Turns.{ComesFirst, SchemasComeFirst}
use Rattle.st_part_laws.proofs.Chains.{last-has, last_or-append, line_after, line_begins}
use Rattle.st_part_laws.proofs.Closed.{comes_first}
use Rattle.st_part_laws.proofs.Schemas.{based, entries_carried, kept_carried}
use Rattle.st_schema_laws.specs.AgreeingInEffect.{Told}
use Rattle.st_edits.specs.InEffect.{last_in_effect}
use Rattle.st_schema_laws.specs.Widening.{AreWidening, BecomesWider, IsTextOf, IsUpgrade, no_change, one_change}
use Rattle.st_schema_laws.proofs.EditsInLine.{some_last}
use Rattle.st_schema_laws.proofs.Widening.{type_becomes, widening_after, widening_begins}
use Rattle.st_conform_laws.specs.Keeping.{KeepInTurn, KeepsTo, KeepsWhereBased}
use Rattle.st_edits.specs.Keeping.{HasField}
use Rattle.st_conform_laws.specs.Nodes.{ConformsByNodes, IsUnder, MayStandIn, NodesConform, StandsKnown, StandsWell}
use Rattle.st_marks.specs.Back.{IsBack}
use Rattle.st_conform_laws.proofs.WaysBack.{back_keeps}
use Rattle.st_conform_laws.proofs.NodesThatConform.{full_conform, has_field_wider, known_old_or_new, left_conform, required_was, rule_was, void_conform}
use Rattle.st_conform_laws.proofs.WiderSchemas.{TakesMore, root_becomes}

-- ## What follows from the line of schemas

module _ (T : Told) (D : Document) (sound : IsSoundInForm D) (here : ConformsByNodes T D) where
  pub last : last_of (revs D.schemas) ≡ Some (last_in_effect D)
  last = some_last (revs D.schemas) sound.in_effect.begun

  -- each schema in effect becomes the last
  pub becomes_last : (r : Rev) → Has (revs D.schemas) r → BecomesWider (T.view r) (T.view (last_in_effect D))
  becomes_last r h = here.widening.each (last_in_effect D) r (last-has (revs D.schemas) (last_in_effect D) last) (subst (λ rs. Has rs r) (here.line.last (last_in_effect D) last) h)

  -- each of the line of a schema in effect is in effect, and becomes it
  pub front_of : (u : Rev) → Has (revs D.schemas) u → (r : Rev) → Has (T.chain u) r → Has (revs D.schemas) r × BecomesWider (T.view r) (T.view u)
  front_of u h r i = (here.line.each u r h i, here.widening.each u r h i)

-- ## One schema more

module _ (T : Told) (D : Document) (rs : List Rev) (u : Rev) (old new : SchemaView) (sound : IsSoundInForm D) (wide : BecomesWider old new) (becomes : (r : Rev) → Has rs r → BecomesWider (T.view r) old)
    (first : (n : NodeId) → IsSome (D.nodes n) → T.under n.0.rev ≡ u → ⊥) (here : NodesConform T rs old D) where
  before : (n : NodeId) → IsSome (D.nodes n) → IsUnder T (rs ++ u ∷ []) n → IsUnder T rs n
  before n known i = elim (has-append rs (u ∷ []) (T.under n.0.rev) i) [
    | inl h ↦ h
    | inr h ↦ absurd (only h)
  ]
    where
      only : Has (u ∷ []) (T.under n.0.rev) → ⊥
      only (inl q) = first n known (sym q)
      only (inr h) = absurd h

  may_wider : (kinds : KindName → Bool) (n : NodeId) (key : Key) (m : NodeId) → ((rule r : FieldRule) → TakesMore rule r → kinds rule.kind ≡ true → kinds r.kind ≡ true) → ((t : NodeType) → D.nodes n ≡ Some t → type_fits old t.ty t.leaf ≡ true)
      → ((rule r : FieldRule) → rule_at D old n key ≡ Some rule → rule_at D old n key ≡ Some r → rule ≡ r)
      → MayStandIn T rs old D kinds n key m → MayStandIn T (rs ++ u ∷ []) new D kinds n key m
  may_wider kinds n key m kept typed one h = record {
    in_effect = append_left rs (u ∷ []) (T.under m.0.rev) h.in_effect;
    field = there;
    at_home = λ required. (let was = rule_was wide D n key there.rule typed there.ruled required in
        h.at_home (ap (λ (r : FieldRule). is_required r.kind) (one h.field.rule was.0 h.field.ruled was.1) ∙ was.2));
  }
    where
      there : HasField new D kinds n key m
      there = has_field_wider wide D kinds n key m kept h.field

  typed : (n : NodeId) → IsUnder T rs n → (t : NodeType) → D.nodes n ≡ Some t → type_fits old t.ty t.leaf ≡ true
  typed n i t e = type_becomes (becomes (T.under n.0.rev) i) t.ty t.leaf (here.types n t e i)

  one_rule : (n : NodeId) (key : Key) (rule r : FieldRule) → rule_at D old n key ≡ Some rule → rule_at D old n key ≡ Some r → rule ≡ r
  one_rule n key rule r e f = let q : Some rule ≡ Some r = sym e ∙ f in cc

  stands_wider : (m : NodeId) (spot : Spot) → D.place m ≡ spot → StandsWell T rs old D m spot → StandsWell T (rs ++ u ∷ []) new D m spot
  stands_wider m Spot.Nowhere q h = tt
  stands_wider m (Spot.Row n c) q h = λ i. (let j = before n (above_known D sound m n (ap node_of q)) i in
      may_wider is_row n row_key m (λ rule r w e. w.rows e) (typed n j) (one_rule n row_key) (h j))
  stands_wider m (Spot.Register f) q h = λ i. (let j = before f.node (above_known D sound m f.node (ap node_of q)) i in
      may_wider is_single_kind f.node f.key m (λ rule r w e. w.singles e) (typed f.node j) (one_rule f.node f.key) (h j))

  known_wider : (m : NodeId) (spot : Spot) → D.place m ≡ spot → IsUnder T (rs ++ u ∷ []) m → (IsUnder T rs m → StandsKnown T rs old D m spot) → StandsKnown T (rs ++ u ∷ []) new D m spot
  known_wider m Spot.Nowhere q i h = tt
  known_wider m (Spot.Row n c) q i h = has_field_wider wide D is_row n row_key m (λ rule r w e. w.rows e) (h (before m (placed_known D sound m (λ w. (let bad : None ≡ Some n = ap node_of (sym w ∙ q) in cc))) i))
  known_wider m (Spot.Register f) q i h = append_left rs (u ∷ []) (T.under f.node.0.rev) (h (before m (placed_known D sound m (λ w. (let bad : None ≡ Some f.node = ap node_of (sym w ∙ q) in cc))) i))

  root_wider : has_type D new.root root ≡ true
  root_wider = go (D.nodes root) here.root_type
    where
      go : (o : Option NodeType) → option_map_or (λ (t : NodeType). is_among t.ty old.root) o false ≡ true → option_map_or (λ (t : NodeType). is_among t.ty new.root) o false ≡ true
      go None e = absurd (cc)
      go (Some t) e = root_becomes wide t.ty e

  known_by_rule : (n : NodeId) (key : Key) (rule : FieldRule) → rule_at D new n key ≡ Some rule → IsSome (D.nodes n)
  known_by_rule n key rule e = go (D.nodes n) refl e
    where
      go : (o : Option NodeType) → D.nodes n ≡ o → option_and_then (λ (t : NodeType). field_of new t.ty key.0) o ≡ Some rule → IsSome (D.nodes n)
      go None q f = absurd (cc)
      go (Some t) q f = ap is_some q

  pub conform_wider : NodesConform T (rs ++ u ∷ []) new D
  conform_wider = record {
    types = λ n t e i. here.types n t e (before n (ap is_some e) i);
    places = λ m. stands_wider m (D.place m) refl (here.places m);
    known = λ m i. known_wider m (D.place m) refl i (here.known m);
    filled = λ n key rule i e required. (
        let j = before n (known_by_rule n key rule e) i in
        let was = rule_was wide D n key rule (typed n j) e required in
        here.filled n key was.0 j was.1 was.2);
    homes = λ m f known i e. (let h = here.homes m f known (before m known i) e in (h.0, append_left rs (u ∷ []) (T.under f.node.0.rev) h.1, h.2));
    away = λ m f known i e needs. (
        let j = before m known i in
        let r = required_rule new D f needs in
        here.away m f known j e (required_was wide D f r.0 (typed f.node (here.homes m f known j e).1) r.1 r.2));
    root_type = root_wider;
  }

-- ## A change of schema has nothing else

module _ (T : Told) (D : Document) (N : Intent) (itself : IsIntent N) (changes : IsSome N.schema) where
  alone_of : (o : Option (List ℕ)) → IfSome o (λ _. (N.new ≡ []) × (N.groups ≡ []) × (N.clear ≡ []) × (N.put ≡ []) × (N.need ≡ [])) → IsSome o → (N.new ≡ []) × (N.groups ≡ []) × (N.clear ≡ []) × (N.put ≡ []) × (N.need ≡ [])
  alone_of None h some = absurd (cc)
  alone_of (Some text) h some = h

  alone : (N.new ≡ []) × (N.groups ≡ []) × (N.clear ≡ []) × (N.put ≡ []) × (N.need ≡ [])
  alone = alone_of N.schema itself.schema_alone changes

  not_put : (m : NodeId) → put_of N m ≡ None
  not_put m = rw alone.3 refl

  not_new : (n : NodeId) → is_new N n ≡ false
  not_new n = rw alone.0 refl

  not_cleared : (f : FieldId) → clears N f ≡ false
  not_cleared f = rw alone.2 refl

  no_put : (m : NodeId) (to : To) → put_of N m ≡ Some to → ⊥
  no_put m to e = let bad : None ≡ Some to = sym (not_put m) ∙ e in cc

  pub change_keeps : KeepsTo T D N
  change_keeps = record {
    types = λ n t e. absurd (true-false (ap is_some e) (not_new n));
    filled = λ n key rule new ruled required. absurd (true-false new (not_new n));
    fields = λ m to e. absurd (no_put m to e);
    put_makers = λ m to e old. absurd (no_put m to e);
    clear_makers = λ f e old. absurd (true-false e (not_cleared f));
    required = λ f e needs. absurd (true-false e (not_cleared f));
    homes = λ m to f e old home needs. absurd (no_put m to e);
  }

-- ## After one commit

last_push : (rs : List Rev) (r : Rev) → unwrap_or (last_of (rs ++ r ∷ [])) opening ≡ r
last_push rs r = ap (λ o. unwrap_or o opening) (last_or-append None rs r)

abbrev KeptBy : Told → Document → Type 0
KeptBy T F = NodesConform T (revs F.schemas) (T.view (last_in_effect F)) F

kept_by : (T : Told) (D F : Document) → F.schemas ≡ D.schemas → NodesConform T (revs D.schemas) (T.view (last_in_effect D)) F → KeptBy T F
kept_by T D F q k = subst (λ es. NodesConform T (revs es) (T.view (unwrap_or (last_of (revs es)) opening)) F) (sym q) k

module _ (T : Told) (D : Document) (N : Intent) (s : IsSoundInForm D) (f : Fits D N) (a : KeepsWhereBased T D N) (here : ConformsByNodes T D) where
  in_line : IsBaseInEffect D N → Has (revs D.schemas) N.under
  in_line base = go N.schema refl
    where
      go : (o : Option (List ℕ)) → N.schema ≡ o → Has (revs D.schemas) N.under
      go None e = subst (λ o. HasBase D.schemas o N.under) e base
      go (Some text) e = last-has (revs D.schemas) N.under (based D N text e base)

  -- ### Carried out whole, whatever the verdict, as in a transaction

  whole : IsBaseInEffect D N → KeepsTo T D N → NodesConform T (revs D.schemas) (T.view (last_in_effect D)) (full D N)
  whole base k = full_conform T D N (revs D.schemas) (T.view (last_in_effect D)) s f here.nodes a.under a.homes (in_line base) (front_of T D s here N.under (in_line base)) (becomes_last T D s here N.under (in_line base)) k

  void_whole : IsBaseInEffect D N → KeepsTo T D N → NodesConform T (revs D.schemas) (T.view (last_in_effect D)) (void_data D N)
  void_whole base k = void_conform T D N (revs D.schemas) (T.view (last_in_effect D)) s f here.nodes a.under a.homes (in_line base) (front_of T D s here N.under (in_line base)) (becomes_last T D s here N.under (in_line base)) k

  pub conforms_edited : N.schema ≡ None → IsBaseInEffect D N → ConformsByNodes T (full D N)
  conforms_edited e base =
      let same : D.schemas ≡ (full D N).schemas = sym (kept_carried D N e Verdict.Sound) in
      record {
        opened = here.opened;
        line = subst (AreInLine T.chain) same here.line;
        widening = subst (AreWidening T.view T.chain) same here.widening;
        nodes = kept_by T D (full D N) (sym same) (whole base (a.keeps base e));
      }

  -- ### Data

  is_data : N.schema ≡ None → void D N ≡ void_data D N
  is_data e = ap (λ o. option_map_or (λ _. D) o (void_data D N)) e

  voided : N.schema ≡ None → IsBaseInEffect D N → KeptBy T (void D N)
  voided e base = subst (KeptBy T) (sym (is_data e)) (kept_by T D (void_data D N) refl (void_whole base (a.keeps base e)))

  left : N.schema ≡ None → (IsBaseInEffect D N → ⊥) → KeptBy T (void D N)
  left e out = subst (KeptBy T) (sym (is_data e)) (kept_by T D (void_data D N) refl
      (left_conform T D N (revs D.schemas) (T.view (last_in_effect D)) f here.nodes a.under (λ i. out (subst (λ o. HasBase D.schemas o N.under) (sym e) i))))

  data_after : N.schema ≡ None → (v : Verdict) → IsVerdict D N v → KeptBy T (carried_document v D N)
  data_after e Verdict.Sound h = kept_by T D (full D N) (kept_carried D N e Verdict.Sound) (whole h.0 (a.keeps h.0 e))
  data_after e (Verdict.Need n) h = voided e h.0
  data_after e (Verdict.Cycle n) h = voided e h.0
  data_after e (Verdict.Schema u) h = left e h.1

  -- ### A change of schema

  module _ (short : HasShortRows (full D N)) (first : ComesFirst T.under D N) where
    changed : (text : List ℕ) → N.schema ≡ Some text → IsVerdict D N Verdict.Sound → KeptBy T (full D N)
    changed text e h =
        let upgrade : IsUpgrade (T.view N.under) (T.view N.rev) text = subst (λ o. IfSome o (IsUpgrade (T.view N.under) (T.view N.rev))) e (a.widens h.0) in
        let old : last_in_effect D ≡ N.under = ap (λ o. unwrap_or o opening) (based D N text e h.0) in
        let wide : BecomesWider (T.view (last_in_effect D)) (T.view N.rev) = subst (λ r. BecomesWider (T.view r) (T.view N.rev)) (sym old) (one_change no_change upgrade.sound upgrade.wide) in
        let entries : revs (full D N).schemas ≡ revs D.schemas ++ N.rev ∷ [] = ap (λ o. revs (with_schema N o D.schemas)) e ∙ map-append (λ (e : SchemaEntry). e.rev) D.schemas (record { rev = N.rev; text = text } ∷ []) in
        let k = conform_wider T (full D N) (revs D.schemas) N.rev (T.view (last_in_effect D)) (T.view N.rev) (carried_extends D N Verdict.Sound s f short h).after wide (becomes_last T D s here) comes (whole h.0 (change_keeps T D N f.itself (ap is_some e))) in
        subst (λ rs. NodesConform T rs (T.view (unwrap_or (last_of rs) opening)) (full D N)) (sym entries)
        (subst (λ r. NodesConform T (revs D.schemas ++ N.rev ∷ []) (T.view r) (full D N)) (sym (last_push (revs D.schemas) N.rev)) k)
      where
        earlier : (n : NodeId) → IsSome (D.nodes n) → T.under n.0.rev ≢ N.rev
        earlier = subst (λ o. IfSome o (λ (_ : List ℕ). (m : NodeId) → IsSome (D.nodes m) → T.under m.0.rev ≢ N.rev)) e first

        comes : (n : NodeId) → IsSome ((full D N).nodes n) → T.under n.0.rev ≡ N.rev → ⊥
        comes n known q = elim (known_old_or_new D N f n known) [
          | inl there ↦ earlier n there q
          | inr new ↦ true-false new (not_new T D N f.itself (ap is_some e) n)
        ]

    stayed : (text : List ℕ) → N.schema ≡ Some text → KeptBy T (void D N)
    stayed text e = subst (KeptBy T) (ap (λ o. option_map_or (λ _. D) o (void_data D N)) (sym e)) here.nodes

    change_after : (text : List ℕ) → N.schema ≡ Some text → (v : Verdict) → IsVerdict D N v → KeptBy T (carried_document v D N)
    change_after text e Verdict.Sound h = changed text e h
    change_after text e (Verdict.Need n) h = stayed text e
    change_after text e (Verdict.Cycle n) h = stayed text e
    change_after text e (Verdict.Schema u) h = stayed text e

    nodes_after : (v : Verdict) → IsVerdict D N v → KeptBy T (carried_document v D N)
    nodes_after v h = go N.schema refl
      where
        go : (o : Option (List ℕ)) → N.schema ≡ o → KeptBy T (carried_document v D N)
        go None e = data_after e v h
        go (Some text) e = change_after text e v h

    -- ### The line

    widens_on : (v : Verdict) → IsVerdict D N v → IsBaseInEffect D N → AreWidening T.view T.chain (carried_document v D N).schemas
    widens_on v h base = subst (AreWidening T.view T.chain) (sym (entries_carried D N f.itself v h)) (widening_after T.view T.chain D.schemas N a.chain (a.widens base) here.widening)

    void_schemas : (o : Option (List ℕ)) → D.schemas ≡ (option_map_or (λ _. D) o (void_data D N)).schemas
    void_schemas None = refl
    void_schemas (Some text) = refl

    widening_then : (v : Verdict) → IsVerdict D N v → AreWidening T.view T.chain (carried_document v D N).schemas
    widening_then Verdict.Sound h = widens_on Verdict.Sound h h.0
    widening_then (Verdict.Need n) h = widens_on (Verdict.Need n) h h.0
    widening_then (Verdict.Cycle n) h = widens_on (Verdict.Cycle n) h h.0
    widening_then (Verdict.Schema u) h = subst (AreWidening T.view T.chain) (void_schemas N.schema) here.widening

    pub conforms_after : (v : Verdict) → IsVerdict D N v → ConformsByNodes T (carried_document v D N)
    conforms_after v h = record {
      opened = here.opened;
      line = subst (AreInLine T.chain) (sym (entries_carried D N f.itself v h)) (line_after T.chain D.schemas N a.chain here.line);
      widening = widening_then v h;
      nodes = nodes_after v h;
    }

-- ## After a list

pub conforms_in_turn : (T : Told) (rs : List Rev) {D E : Document} {Ns : List Intent} → Run D Ns E → IsSoundInForm D → FitInTurn D Ns → IsMadeUnder rs D → SchemasComeFirst T.under rs Ns → KeepInTurn T D Ns → ConformsByNodes T D → ConformsByNodes T E
conforms_in_turn T rs done s f made first a here = here
conforms_in_turn T rs (next {D} {N = N} v is r) s f made first a here =
    conforms_in_turn T (N.rev ∷ rs) r (carried_extends D N v s f.0 f.1 is).after (f.2 v is) (made_after rs D N v f.0 made) first.1 (a.1 v is)
    (conforms_after T D N s f.0 a.0 here f.1 (comes_first T.under rs D N made first.0) v is)

-- ## At the opening

module _ (T : Told) (D : Document) (s : IsSoundInForm D) (made : IsMadeUnder (opening ∷ []) D) (one : revs D.schemas ≡ opening ∷ []) (under : T.under opening ≡ opening) (here : IsConforming (T.view opening) T.home D) where
  of_opening : (n : NodeId) → IsSome (D.nodes n) → T.under n.0.rev ≡ opening
  of_opening n h = only (made.nodes n h)
    where
      only : Has (opening ∷ []) n.0.rev → T.under n.0.rev ≡ opening
      only (inl q) = ap T.under (sym q) ∙ under
      only (inr h) = absurd h

  is_under : (n : NodeId) → IsSome (D.nodes n) → IsUnder T (opening ∷ []) n
  is_under n h = inl (sym (of_opening n h))

  stands_first : (m : NodeId) (spot : Spot) → D.place m ≡ spot → MayStand (T.view opening) T.home D m spot → StandsWell T (opening ∷ []) (T.view opening) D m spot
  stands_first m Spot.Nowhere q h = tt
  stands_first m (Spot.Row n c) q h = λ i. record {
    in_effect = is_under m (placed_known D s m (λ w. (let bad : None ≡ Some n = ap node_of (sym w ∙ q) in cc)));
    field = record { rule = h.rule; ruled = h.ruled; kind = h.kind; typed = h.typed };
    at_home = h.at_home;
  }
  stands_first m (Spot.Register f) q h = λ i. record {
    in_effect = is_under m (placed_known D s m (λ w. (let bad : None ≡ Some f.node = ap node_of (sym w ∙ q) in cc)));
    field = record { rule = h.rule; ruled = h.ruled; kind = h.kind; typed = h.typed };
    at_home = h.at_home;
  }

  known_first : (m : NodeId) (spot : Spot) → D.place m ≡ spot → MayStand (T.view opening) T.home D m spot → StandsKnown T (opening ∷ []) (T.view opening) D m spot
  known_first m Spot.Nowhere q h = tt
  known_first m (Spot.Row n c) q h = record { rule = h.rule; ruled = h.ruled; kind = h.kind; typed = h.typed }
  known_first m (Spot.Register f) q h = is_under f.node (above_known D s m f.node (ap node_of q))

  away_first : (m : NodeId) (f : FieldId) (spot : Spot) → MayStand (T.view opening) T.home D m spot → T.home m ≡ Some f → is_required_field (T.view opening) D f ≡ true → (spot ≡ Spot.Register f) ⊎ (spot ≡ Spot.Nowhere)
  away_first m f Spot.Nowhere h e needs = inr refl
  away_first m f (Spot.Row n c) h e needs = elim (h.away f e) [
    | inl q ↦ (let r = required_rule (T.view opening) D (field_at n row_key) (ap (is_required_field (T.view opening) D) (sym q) ∙ needs) in
        absurd (true-false (ap (λ (r : FieldRule). is_required r.kind) (one_rule_of D (T.view opening) n row_key h.rule r.0 h.ruled r.1) ∙ r.2) (required_not_row h.rule.kind h.kind)))
    | inr free ↦ absurd (true-false needs free.open_field)
  ]
  away_first m f (Spot.Register g) h e needs = elim (h.away f e) [
    | inl q ↦ inl (ap Spot.Register (sym q))
    | inr free ↦ absurd (true-false needs free.open_field)
  ]

  nodes_first : NodesConform T (opening ∷ []) (T.view opening) D
  nodes_first = record {
    types = λ n t e i. ap (λ u. type_fits (T.view u) t.ty t.leaf) (of_opening n (ap is_some e)) ∙ here.types n t e;
    places = λ m. stands_first m (D.place m) refl (here.places m);
    known = λ m i. known_first m (D.place m) refl (here.places m);
    filled = λ n key rule i e required. here.filled n key rule e required;
    homes = λ m f known i e. (let there = here.homes m f known e in
        (there, is_under f.node there, subst (λ u. BecomesWider (T.view u) (T.view (T.under m.0.rev))) (of_opening m known ∙ sym (of_opening f.node there)) no_change));
    away = λ m f known i e needs. away_first m f (D.place m) (here.places m) e needs;
    root_type = here.root_type;
  }

  pub conforms_at_first : T.chain opening ≡ opening ∷ [] → is_sound (T.view opening) ≡ true → ((e : SchemaEntry) → Has D.schemas e → IsTextOf (T.view opening) e.text) → ConformsByNodes T D
  conforms_at_first chain sound written = record {
    opened = under;
    line = line_begins T.chain D.schemas one chain;
    widening = widening_begins T.view T.chain D.schemas one chain sound written;
    nodes = subst (λ rs. NodesConform T rs (T.view (unwrap_or (last_of rs) opening)) D) (sym one) nodes_first;
  }

-- ## The way back

pub way_keeps : (T : Told) (D E : Document) (N B : Intent) (rev : Rev) → IsSoundInForm D → Fits D N → HasShortRows (full D N) → N.schema ≡ None → IsVerdict D N Verdict.Sound → KeepsWhereBased T D N → ConformsByNodes T D
    → IsSoundInForm E → ConformsByNodes T E → ((r : Rev) → Has (revs D.schemas) r → Has (revs E.schemas) r) → IsBack D (full D N) rev (last_in_effect E) B → KeepsTo T (full D N) B
way_keeps T D E N B rev s f short no_change_of_schema h a here other there more b =
    let i : Has (revs D.schemas) N.under = in_line T D N s f a here h.0 in
    let x = carried_extends D N Verdict.Sound s f short h in
    let mine : last_in_effect E ≡ B.under = sym b.rev_and_under.1 in
    let old : Has (revs E.schemas) (last_in_effect D) = more (last_in_effect D) (last-has (revs D.schemas) (last_in_effect D) (last T D s here)) in
    let wide : BecomesWider (T.view (last_in_effect D)) (T.view B.under) = subst (λ u. BecomesWider (T.view (last_in_effect D)) (T.view u)) mine (becomes_last T E other there (last_in_effect D) old) in
    let line : revs E.schemas ≡ T.chain B.under = there.line.last B.under (last T E other there ∙ ap (λ r. Some r) mine) in
    back_keeps T D N (revs D.schemas) (T.view (last_in_effect D)) s f x here.nodes (whole T D N s f a here h.0 (a.keeps h.0 no_change_of_schema)) a.under i
    (λ r j. (front_of T D s here N.under i r j).0) (becomes_last T D s here) (a.keeps h.0 no_change_of_schema) rev (last_in_effect E) B b wide (λ r j. subst (λ rs. Has rs r) line (more r j))
