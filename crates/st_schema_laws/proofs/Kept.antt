-- An intent that agrees with the schema leaves a conforming document, carried out whole or void.
use Rattle.std.proofs.Common.{◌≡◌, Bool, true, false, List, Option, Some, None, IsSome, is_some, cond, ◌&&◌, refl, sym, ap, ◌∙◌, subst, inl, inr, option_and_then}
use Rattle.std.specs.Option.{option_or, option_map_or}
use Rattle.st_ids.specs.declared.names.FieldId.{FieldId}
use Rattle.st_ids.specs.declared.names.Key.{Key}
use Rattle.st_ids.specs.declared.names.NodeId.{NodeId}
use Rattle.st_schema.specs.Schema.{SchemaView, field_of, is_among}
use Rattle.st_schema.specs.declared.names.FieldRule.{FieldRule}
use Rattle.st_schema.specs.declared.names.KindName.{KindName}
use Rattle.st_marks.specs.declared.intents.Intent.{Intent}
use Rattle.st_marks.specs.declared.intents.To.{To}
use Rattle.st_marks.specs.declared.places.Spot.{Spot}
use Rattle.st_marks.specs.declared.verdicts.Verdict.{Verdict}
use Rattle.st_marks.specs.Document.{Document, NodeType, IsSoundInForm}
use Rattle.st_ids.specs.Root.{root}
use Rattle.st_marks.specs.Intent.{Fits, new_type, is_new, put_of, put_in, clears}
use Rattle.st_marks.specs.CarryOut.{with_names, full, void, void_data, spot_of, place_after, unless_cleared, unless_put, is_put_in_new, only_new}
use Rattle.st_marks.specs.Verdict.{carried_document}
use Rattle.st_edits.specs.Paths.{field_at}
use Rattle.st_edits.specs.Resolve.{rule_at, has_type}
use Rattle.st_schema.specs.Kind.{is_required, is_row, is_single_kind}
use Rattle.st_edits.specs.Fields.{row_key, type_fits, is_required_field}
use Rattle.st_schema_laws.specs.Conforming.{Admits, MayStand, IsConforming, IsFree}
use Rattle.st_schema_laws.specs.Agreeing.{KeepsSchema, MayGo}
use Rattle.st_lemmas.proofs.Bools.{true-false}

-- ## What is said of nodes stays said where they are the same

-- each node of D is in E, with its type
abbrev pub HasNodes : Document → Document → Type 0
HasNodes D E = (n : NodeId) (t : NodeType) → D.nodes n ≡ Some t → E.nodes n ≡ Some t

module _ (s : SchemaView) (D E : Document) (same : HasNodes D E) where
  pub rule_later : (n : NodeId) (key : Key) (rule : FieldRule) → rule_at D s n key ≡ Some rule → rule_at E s n key ≡ Some rule
  rule_later n key rule e = go (D.nodes n) refl e
    where
      go : (o : Option NodeType) → D.nodes n ≡ o → option_and_then (λ (t : NodeType). field_of s t.ty key.0) o ≡ Some rule → rule_at E s n key ≡ Some rule
      go None q f = cc
      go (Some t) q f = rw (same n t q) f

  pub type_later : (types : List (List _)) (m : NodeId) → has_type D types m ≡ true → has_type E types m ≡ true
  type_later types m e = go (D.nodes m) refl e
    where
      go : (o : Option NodeType) → D.nodes m ≡ o → option_map_or (λ (t : NodeType). is_among t.ty types) o false ≡ true → has_type E types m ≡ true
      go None q f = cc
      go (Some t) q f = rw (same m t q) f

  -- whether a field of a known node is required
  pub required_later : (f : FieldId) → IsSome (D.nodes f.node) → is_required_field s E f ≡ is_required_field s D f
  required_later f known = go (D.nodes f.node) refl known
    where
      go : (o : Option NodeType) → D.nodes f.node ≡ o → IsSome o → is_required_field s E f ≡ is_required_field s D f
      go None q h = absurd (cc)
      go (Some t) q h = rw (q, same f.node t q) refl

  pub known_later : (n : NodeId) → IsSome (D.nodes n) → IsSome (E.nodes n)
  known_later n h = go (D.nodes n) refl h
    where
      go : (o : Option NodeType) → D.nodes n ≡ o → IsSome o → IsSome (E.nodes n)
      go None q h = absurd (cc)
      go (Some t) q h = ap is_some (same n t q)

  pub free_later : (f : FieldId) → IsFree s D f → IsFree s E f
  free_later f free = record { known = known_later f.node free.known; open_field = required_later f free.known ∙ free.open_field }

  module _ (home : NodeId → Option FieldId) where
    pub admits_later : (kinds : KindName → Bool) (n : NodeId) (key : Key) (m : NodeId) → Admits s home D kinds n key m → Admits s home E kinds n key m
    admits_later kinds n key m a = record {
      rule = a.rule;
      ruled = rule_later n key a.rule a.ruled;
      kind = a.kind;
      typed = type_later a.rule.types m a.typed;
      at_home = a.at_home;
      away = λ f e. elim (a.away f e) [ inl q ↦ inl q | inr free ↦ inr (free_later f free) ];
    }

    pub stands_later : (m : NodeId) (spot : Spot) → MayStand s home D m spot → MayStand s home E m spot
    stands_later m Spot.Nowhere h = tt
    stands_later m (Spot.Row n c) h = admits_later is_row n row_key m h
    stands_later m (Spot.Register f) h = admits_later is_single_kind f.node f.key m h

-- new names are added
pub named_later : (D : Document) (N : Intent) → HasNodes D (with_names D N)
named_later D N n t e = rw e refl

-- one rule of a field
pub one_rule : (D : Document) (s : SchemaView) (n : NodeId) (key : Key) (a b : FieldRule) → rule_at D s n key ≡ Some a → rule_at D s n key ≡ Some b → a ≡ b
one_rule D s n key a b e f = let q : Some a ≡ Some b = sym e ∙ f in cc

-- a field with such a rule is required
pub required_by : (D : Document) (s : SchemaView) (n : NodeId) (key : Key) (rule : FieldRule) → rule_at D s n key ≡ Some rule → is_required rule.kind ≡ true → is_required_field s D (field_at n key) ≡ true
required_by D s n key rule e required = ap (λ o. option_map_or (λ (rule : FieldRule). is_required rule.kind) o false) e ∙ required

-- a required field has such a rule
pub required_rule : (s : SchemaView) (D : Document) (f : FieldId) → is_required_field s D f ≡ true → (rule : FieldRule) × (rule_at D s f.node f.key ≡ Some rule) × (is_required rule.kind ≡ true)
required_rule s D f e = go (rule_at D s f.node f.key) refl e
  where
    go : (o : Option FieldRule) → rule_at D s f.node f.key ≡ o → option_map_or (λ (rule : FieldRule). is_required rule.kind) o false ≡ true → (rule : FieldRule) × (rule_at D s f.node f.key ≡ Some rule) × (is_required rule.kind ≡ true)
    go None q h = absurd (cc)
    go (Some rule) q h = (rule, q, h)

-- ## Carried out

module _ (s : SchemaView) (home : NodeId → Option FieldId) (D : Document) (N : Intent) (sound : IsSoundInForm D) (fits : Fits D N) (here : IsConforming s home D) (agrees : KeepsSchema s home D N) where
  types_after : (n : NodeId) (t : NodeType) → (with_names D N).nodes n ≡ Some t → type_fits s t.ty t.leaf ≡ true
  types_after n t e = go (D.nodes n) refl e
    where
      go : (o : Option NodeType) → D.nodes n ≡ o → option_or o (new_type N n) ≡ Some t → type_fits s t.ty t.leaf ≡ true
      go None q f = agrees.types n t f
      go (Some u) q f = here.types n t (q ∙ f)

  -- an old node isn't new
  old_not_new : (n : NodeId) → IsSome (D.nodes n) → is_new N n ≡ false
  old_not_new n h = go (is_new N n) refl
    where
      go : (b : Bool) → is_new N n ≡ b → is_new N n ≡ false
      go true e = absurd (true-false h (ap is_some (fits.fresh_nodes n e)))
      go false e = e

  -- in a document with the new names
  module _ (E : Document) (same : HasNodes (with_names D N) E) where
    stays : (m : NodeId) (spot : Spot) → MayStand s home D m spot → MayStand s home E m spot
    stays m spot h = stands_later s (with_names D N) E same home m spot (stands_later s D (with_names D N) (named_later D N) home m spot h)

    unless : (m : NodeId) (spot : Spot) → MayStand s home D m spot → MayStand s home E m (unless_cleared N spot)
    unless m Spot.Nowhere h = tt
    unless m (Spot.Row n c) h = stays m (Spot.Row n c) h
    unless m (Spot.Register f) h = elim (clears N f) as (λ b. MayStand s home E m (cond b Spot.Nowhere (Spot.Register f))) [ true ↦ tt | false ↦ stays m (Spot.Register f) h ]

    went : (m : NodeId) (to : To) → MayGo s home D N m to → MayStand s home E m (spot_of (with_names D N).row_of to)
    went m To.Nowhere h = tt
    went m (To.Cell c) h =
        subst (λ o. MayStand s home E m (option_map_or (λ n. Spot.Row n c) o Spot.Nowhere)) (sym h.1) (stands_later s (with_names D N) E same home m (Spot.Row h.0 c) h.2)
    went m (To.Register f) h = stands_later s (with_names D N) E same home m (Spot.Register f) h

    place_later : (m : NodeId) → MayStand s home E m (place_after (with_names D N).row_of N (put_of N m) (D.place m))
    place_later m = go (put_of N m) refl
      where
        go : (o : Option To) → put_of N m ≡ o → MayStand s home E m (place_after (with_names D N).row_of N o (D.place m))
        go None e = unless m (D.place m) (here.places m)
        go (Some to) e = went m to (agrees.puts m to e)

  root_later : (E : Document) → HasNodes (with_names D N) E → has_type E s.root root ≡ true
  root_later E same = type_later s (with_names D N) E same s.root root (type_later s D (with_names D N) (named_later D N) s.root root here.root_type)

  -- the homes of the nodes that are there after are those of old nodes and of new ones
  homes_later : (m : NodeId) (f : FieldId) → IsSome ((with_names D N).nodes m) → home m ≡ Some f → IsSome ((with_names D N).nodes f.node)
  homes_later m f known lives = go (D.nodes m) refl known
    where
      go : (o : Option NodeType) → D.nodes m ≡ o → IsSome (option_or o (new_type N m)) → IsSome ((with_names D N).nodes f.node)
      go None e h = agrees.homes m f h lives
      go (Some t) e h = known_later s D (with_names D N) (named_later D N) f.node (here.homes m f (ap is_some e) lives)

  -- a rule of an old node, or of a new one
  ruled_old : (n : NodeId) (key : Key) (rule : FieldRule) → is_new N n ≡ false → rule_at (with_names D N) s n key ≡ Some rule → rule_at D s n key ≡ Some rule
  ruled_old n key rule old e = go (D.nodes n) refl (new_type N n) refl e
    where
      go : (o : Option NodeType) → D.nodes n ≡ o → (p : Option NodeType) → new_type N n ≡ p → option_and_then (λ (t : NodeType). field_of s t.ty key.0) (option_or o p) ≡ Some rule → rule_at D s n key ≡ Some rule
      go (Some t) q p r f = rw q f
      go None q None r f = cc
      go None q (Some t) r f = absurd (true-false (ap is_some r) old)

  -- ## Whole

  -- the occupant of a required field stays, unless the field is filled
  occupant_stays : (n : NodeId) (key : Key) (rule : FieldRule) → put_in N (field_at n key) ≡ None → rule_at D s n key ≡ Some rule → is_required rule.kind ≡ true → IsSome (unless_put N (D.held (field_at n key)))
  occupant_stays n key rule none ruled required = go (D.held (field_at n key)) refl (here.filled n key rule ruled required)
    where
      go : (o : Option NodeId) → D.held (field_at n key) ≡ o → IsSome o → IsSome (unless_put N o)
      go None e h = cc
      go (Some m) e h = put (put_of N m) refl
        where
          may : Admits s home D is_single_kind n key m
          may = subst (MayStand s home D m) ((sound.one_held m (field_at n key)).0 e) (here.places m)

          lives : home m ≡ Some (field_at n key)
          lives = may.at_home (ap (λ (r : FieldRule). is_required r.kind) (one_rule D s n key may.rule rule may.ruled ruled) ∙ required)

          here_required : is_required_field s (with_names D N) (field_at n key) ≡ true
          here_required = required_by (with_names D N) s n key rule (rule_later s D (with_names D N) (named_later D N) n key rule ruled) required

          put : (o : Option To) → put_of N m ≡ o → IsSome (cond (is_some o) None (Some m))
          put None q = refl
          put (Some to) q =
              let left = agrees.leaves m (field_at n key) (ap is_some q) (old_not_new m (sound.held_known m (field_at n key) e).0) lives in
              absurd (true-false (left.filled here_required) (ap is_some none))

  full_filled : (n : NodeId) (key : Key) (rule : FieldRule) → rule_at (full D N) s n key ≡ Some rule → is_required rule.kind ≡ true → IsSome ((full D N).held (field_at n key))
  full_filled n key rule ruled required = go (put_in N (field_at n key)) refl
    where
      kept : put_in N (field_at n key) ≡ None → (b : Bool) → clears N (field_at n key) ≡ b → (c : Bool) → is_new N n ≡ c → IsSome (cond b None (unless_put N (D.held (field_at n key))))
      kept none true e c q = absurd (true-false ((agrees.clears (field_at n key) e).filled (required_by (with_names D N) s n key rule ruled required)) (ap is_some none))
      kept none false e true q = absurd (true-false (ap is_some (agrees.filled n key rule q ruled required).1) (ap is_some none))
      kept none false e false q = occupant_stays n key rule none (ruled_old n key rule q ruled) required

      go : (o : Option NodeId) → put_in N (field_at n key) ≡ o → IsSome (option_or o (cond (clears N (field_at n key)) None (unless_put N (D.held (field_at n key)))))
      go (Some m) e = refl
      go None e = kept e (clears N (field_at n key)) refl (is_new N n) refl

  pub full_conforms : IsConforming s home (full D N)
  full_conforms = record {
    types = types_after;
    places = place_later (full D N) (λ n t e. e);
    filled = full_filled;
    homes = homes_later;
    root_type = root_later (full D N) (λ n t e. e);
  }

  -- ## Void

  void_place : (m : NodeId) → MayStand s home (void_data D N) m ((void_data D N).place m)
  void_place m = elim (is_new N m && is_put_in_new D N m) as (λ b. MayStand s home (void_data D N) m (cond b (place_after (with_names D N).row_of N (put_of N m) (D.place m)) (D.place m))) [
    | true ↦ place_later (void_data D N) (λ n t e. e) m
    | false ↦ stays (void_data D N) (λ n t e. e) m (D.place m) (here.places m)
  ]

  void_filled : (n : NodeId) (key : Key) (rule : FieldRule) → rule_at (void_data D N) s n key ≡ Some rule → is_required rule.kind ≡ true → IsSome ((void_data D N).held (field_at n key))
  void_filled n key rule ruled required = go (is_new N n) refl
    where
      new : is_new N n ≡ true → IsSome (only_new N (put_in N (field_at n key)))
      new q = let m = agrees.filled n key rule q ruled required in rw (m.1, m.2) refl

      go : (b : Bool) → is_new N n ≡ b → IsSome (cond b (only_new N (put_in N (field_at n key))) (D.held (field_at n key)))
      go true q = new q
      go false q = here.filled n key rule (ruled_old n key rule q ruled) required

  void_data_conforms : IsConforming s home (void_data D N)
  void_data_conforms = record {
    types = types_after;
    places = void_place;
    filled = void_filled;
    homes = homes_later;
    root_type = root_later (void_data D N) (λ n t e. e);
  }

  pub void_conforms : IsConforming s home (void D N)
  void_conforms = elim N.schema as (λ o. IsConforming s home (option_map_or (λ _. D) o (void_data D N))) [ None ↦ void_data_conforms | Some t ↦ here ]

  pub carried_conforms : (v : Verdict) → IsConforming s home (carried_document v D N)
  carried_conforms Verdict.Sound = full_conforms
  carried_conforms (Verdict.Need n) = void_conforms
  carried_conforms (Verdict.Cycle n) = void_conforms
  carried_conforms (Verdict.Schema u) = void_conforms
