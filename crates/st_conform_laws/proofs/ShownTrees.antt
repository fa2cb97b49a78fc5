-- What a document shows whose nodes in effect conform: a tree that the last schema in effect allows. The live nodes are a
-- closed part, each of them is in effect, and that part conforms, if each node's home is told to be where it stands.
use Rattle.std.proofs.Common.{◌≡◌, ℕ, zero, suc, Bool, true, false, ◌||◌, cond, List, [], ◌∷◌, Option, Some, None, IsSome, option_and_then, refl, sym, ap, ◌∙◌, subst, inl, inr}
use Rattle.std.specs.Option.{option_map_or}
use Rattle.serde_json.specs.Data.{Data}
use Rattle.st_lemmas.proofs.Bools.{or-cases, true-false}
use Rattle.st_ids.specs.Listing.{Has}
use Rattle.st_ids.specs.Order.{same_node}
use Rattle.st_ids.specs.Root.{opening, root}
use Rattle.st_ids.specs.declared.names.FieldId.{FieldId}
use Rattle.st_ids.specs.declared.names.Key.{Key}
use Rattle.st_ids.specs.declared.names.NodeId.{NodeId}
use Rattle.st_ids.specs.declared.names.Rev.{Rev}
use Rattle.st_ids.proofs.Orders.{same_node-itself, same_node-true}
use Rattle.st_tree.specs.Node.{Node}
use Rattle.st_schema.specs.Conforms.{conforms}
use Rattle.st_schema.specs.Kind.{is_required, is_row, is_single_kind}
use Rattle.st_schema.specs.Schema.{SchemaView, field_of, is_among}
use Rattle.st_schema.specs.TreeText.{tree_data}
use Rattle.st_schema.specs.declared.names.FieldRule.{FieldRule}
use Rattle.st_schema.specs.declared.names.KindName.{KindName}
use Rattle.st_marks.specs.declared.places.Spot.{Spot}
use Rattle.st_marks.specs.Document.{Document, IsLive, IsSoundInForm, NodeType, above, climb, first_of, node_of, revs}
use Rattle.st_marks.specs.LiveTree.{Shows}
use Rattle.st_edits.specs.ArrayTypes.{is_array_type}
use Rattle.st_edits.specs.Paths.{field_at}
use Rattle.st_edits.specs.Resolve.{has_type, rule_at}
use Rattle.st_edits.specs.Fields.{register_in, row_key, type_fits}
use Rattle.st_schema_laws.specs.Conforming.{Admits, IsConforming, MayStand}
use Rattle.st_schema_laws.proofs.Rules.{required_not_row}
use Rattle.st_schema_laws.proofs.ShownTree.{shown_conforms}
use Rattle.st_part_laws.specs.Parts.{IsClosedBy, part_by}
use Rattle.st_part_laws.proofs.Chains.{last-has}
use Rattle.st_part_laws.proofs.Parts.{part_sound}
use Rattle.st_schema_laws.specs.AgreeingInEffect.{Told}
use Rattle.st_edits.specs.InEffect.{last_in_effect}
use Rattle.st_schema_laws.proofs.Shown.{shows_same}
use Rattle.st_schema_laws.proofs.Widening.{type_becomes}
use Rattle.st_conform_laws.specs.Nodes.{ConformsByNodes, IsUnder, MayStandIn, StandsWell}
use Rattle.st_conform_laws.proofs.DocumentsAfter.{becomes_last, last}

-- ## Whether a node is live

-- whether fewer than so many steps up lead to the root
abbrev pub reaches_root : Document → ℕ → NodeId → Bool
reaches_root D zero n = false
reaches_root D (suc k) n = same_node n root || option_map_or (reaches_root D k) (above D n) false

module _ (D : Document) (sound : IsSoundInForm D) where
  found : (j k : ℕ) (n : NodeId) → climb (above D) j n ≡ Some root → climb (above D) k n ≡ None → reaches_root D k n ≡ true
  found j zero n e f = let bad : Some n ≡ None = f in cc
  found zero (suc k) n e f = let same : n ≡ root = cc in ap (λ x. same_node x root || option_map_or (reaches_root D k) (above D n) false) same ∙ ap (λ b. b || option_map_or (reaches_root D k) (above D n) false) (same_node-itself root)
  found (suc j) (suc k) n e f = go (above D n) e f (found j k)
    where
      or_true : (b : Bool) → (b || true) ≡ true
      or_true true = refl
      or_true false = refl

      go : (o : Option NodeId) → option_and_then (climb (above D) j) o ≡ Some root → option_and_then (climb (above D) k) o ≡ None → ((x : NodeId) → climb (above D) j x ≡ Some root → climb (above D) k x ≡ None → reaches_root D k x ≡ true) → (same_node n root || option_map_or (reaches_root D k) o false) ≡ true
      go None e f rest = cc
      go (Some x) e f rest = ap (λ b. same_node n root || b) (rest x e f) ∙ or_true (same_node n root)

  live_of : (k : ℕ) (n : NodeId) → reaches_root D k n ≡ true → IsLive D n
  live_of zero n e = absurd (cc)
  live_of (suc k) n e = elim (or-cases (same_node n root) (option_map_or (reaches_root D k) (above D n) false) e) [
    | inl q ↦ (0, ap (λ x. Some x) (same_node-true n root q))
    | inr q ↦ go (above D n) refl q (live_of k)
  ]
    where
      go : (o : Option NodeId) → above D n ≡ o → option_map_or (reaches_root D k) o false ≡ true → ((x : NodeId) → reaches_root D k x ≡ true → IsLive D x) → IsLive D n
      go None q f rest = absurd (cc)
      go (Some x) q f rest = let w = rest x f in (suc w.0, ap (option_and_then (climb (above D) w.0)) q ∙ w.1)

  abbrev pub is_live : NodeId → Bool
  is_live n = reaches_root D (sound.no_ring n).0 n

  live_true : (n : NodeId) → IsLive D n → is_live n ≡ true
  live_true n w = found w.0 (sound.no_ring n).0 n w.1 (sound.no_ring n).1

  pub true_live : (n : NodeId) → is_live n ≡ true → IsLive D n
  true_live n e = live_of (sound.no_ring n).0 n e

  pub root_live : is_live root ≡ true
  root_live = live_true root (0, refl)

  pub live_closed : IsClosedBy is_live D
  live_closed m n up = both (is_live m) refl (is_live n) refl
    where
      down : IsLive D n → IsLive D m
      down w = (suc w.0, ap (option_and_then (climb (above D) w.0)) up ∙ w.1)

      higher : (k : ℕ) → climb (above D) k m ≡ Some root → IsLive D n
      higher zero e = let same : m ≡ root = cc in let none : above D m ≡ None = ap (above D) same ∙ ap node_of sound.root_nowhere in let bad : None ≡ Some n = sym none ∙ up in cc
      higher (suc k) e = (k, sym (ap (option_and_then (climb (above D) k)) up) ∙ e)

      both : (a : Bool) → is_live m ≡ a → (b : Bool) → is_live n ≡ b → is_live m ≡ is_live n
      both true e true f = e ∙ sym f
      both false e false f = e ∙ sym f
      both true e false f = let w = true_live m e in absurd (true-false (live_true n (higher w.0 w.1)) f)
      both false e true f = absurd (true-false (live_true m (down (true_live n f))) e)

-- ## The live part conforms

module _ (T : Told) (D : Document) (s : IsSoundInForm D) (here : ConformsByNodes T D) where
  abbrev p : NodeId → Bool
  p = is_live D s

  abbrev P : Document
  P = part_by p D

  abbrev V : SchemaView
  V = T.view (last_in_effect D)

  abbrev home : NodeId → Option FieldId
  home m = register_in (D.place m)

  begins : Has (revs D.schemas) opening
  begins = go (revs D.schemas) s.in_effect.begun
    where
      go : (rs : List Rev) → first_of rs ≡ Some opening → Has rs opening
      go [] e = absurd (cc)
      go (r ∷ rs) e = let same : r ≡ opening = cc in inl same

  in_field : (m n : NodeId) → above D m ≡ Some n → IsUnder T (revs D.schemas) n → IsUnder T (revs D.schemas) m
  in_field m n up i = go (D.place m) up (here.nodes.places m)
    where
      go : (spot : Spot) → node_of spot ≡ Some n → StandsWell T (revs D.schemas) V D m spot → IsUnder T (revs D.schemas) m
      go Spot.Nowhere e h = absurd (cc)
      go (Spot.Row r c) e h = let same : r ≡ n = cc in (h (subst (IsUnder T (revs D.schemas)) (sym same) i)).in_effect
      go (Spot.Register f) e h = let same : f.node ≡ n = cc in (h (subst (IsUnder T (revs D.schemas)) (sym same) i)).in_effect

  in_effect : (k : ℕ) (n : NodeId) → climb (above D) k n ≡ Some root → IsUnder T (revs D.schemas) n
  in_effect zero n e = let same : n ≡ root = cc in subst (IsUnder T (revs D.schemas)) (sym same) (subst (Has (revs D.schemas)) (sym here.opened) begins)
  in_effect (suc k) n e = go (above D n) refl e (in_effect k)
    where
      go : (o : Option NodeId) → above D n ≡ o → option_and_then (climb (above D) k) o ≡ Some root → ((x : NodeId) → climb (above D) k x ≡ Some root → IsUnder T (revs D.schemas) x) → IsUnder T (revs D.schemas) n
      go None q f rest = absurd (cc)
      go (Some x) q f rest = in_field n x q (rest x f)

  pub live_in : (n : NodeId) → p n ≡ true → IsUnder T (revs D.schemas) n
  live_in n e = let w = true_live D s n e in in_effect w.0 n w.1

  pub there : (n : NodeId) (t : NodeType) → P.nodes n ≡ Some t → (p n ≡ true) × (D.nodes n ≡ Some t)
  there n t e = go (p n) refl e
    where
      go : (b : Bool) → p n ≡ b → cond b (D.nodes n) None ≡ Some t → (p n ≡ true) × (D.nodes n ≡ Some t)
      go true q f = (q, f)
      go false q f = absurd (cc)

  pub nodes_same : (n : NodeId) → p n ≡ true → P.nodes n ≡ D.nodes n
  nodes_same n e = ap (λ b. cond b (D.nodes n) None) e

  pub rule_there : (n : NodeId) (key : Key) (rule : FieldRule) → rule_at P V n key ≡ Some rule → (p n ≡ true) × (rule_at D V n key ≡ Some rule)
  rule_there n key rule e = go (p n) refl e
    where
      go : (b : Bool) → p n ≡ b → option_and_then (λ (t : NodeType). field_of V t.ty key.0) (cond b (D.nodes n) None) ≡ Some rule → (p n ≡ true) × (rule_at D V n key ≡ Some rule)
      go true q f = (q, f)
      go false q f = absurd (cc)

  module _ (kinds : KindName → Bool) (n : NodeId) (key : Key) (m : NodeId) (high : p n ≡ true) (low : p m ≡ true) (h : MayStandIn T (revs D.schemas) V D kinds n key m)
      (at_home : is_required h.field.rule.kind ≡ true → home m ≡ Some (field_at n key)) (only : (f : FieldId) → home m ≡ Some f → f ≡ field_at n key) where
    admits : Admits V home P kinds n key m
    admits = record {
      rule = h.field.rule;
      ruled = ap (option_and_then (λ (t : NodeType). field_of V t.ty key.0)) (nodes_same n high) ∙ h.field.ruled;
      kind = h.field.kind;
      typed = ap (λ o. option_map_or (λ (t : NodeType). is_among t.ty h.field.rule.types) o false) (nodes_same m low) ∙ h.field.typed;
      at_home = at_home;
      away = λ f e. inl (only f e);
    }

  place_live : (m : NodeId) (spot : Spot) → D.place m ≡ spot → p m ≡ true → StandsWell T (revs D.schemas) V D m spot → MayStand V home P m spot
  place_live m Spot.Nowhere q low h = tt
  place_live m (Spot.Row n c) q low h =
      let high : p n ≡ true = sym (live_closed D s m n (ap node_of q)) ∙ low in
      let may = h (live_in n high) in
      admits is_row n row_key m high low may (λ required. absurd (true-false required (required_not_row may.field.rule.kind may.field.kind)))
      (λ f e. (let bad : None ≡ Some f = ap register_in (sym q) ∙ e in cc))
  place_live m (Spot.Register g) q low h =
      let high : p g.node ≡ true = sym (live_closed D s m g.node (ap node_of q)) ∙ low in
      admits is_single_kind g.node g.key m high low (h (live_in g.node high)) (λ required. ap register_in q)
      (λ f e. (let one : Some g ≡ Some f = ap register_in (sym q) ∙ e in sym (the g f one)))
    where
      the : (g f : FieldId) → Some g ≡ Some f → g ≡ f
      the g f e = cc

  place_part : (m : NodeId) → MayStand V home P m (P.place m)
  place_part m = go (p m) refl
    where
      go : (b : Bool) → p m ≡ b → MayStand V home P m (cond b (D.place m) Spot.Nowhere)
      go true q = place_live m (D.place m) refl q (here.nodes.places m)
      go false q = tt

  pub part_filled : (n : NodeId) (key : Key) (rule : FieldRule) → rule_at P V n key ≡ Some rule → is_required rule.kind ≡ true → IsSome (P.held (field_at n key))
  part_filled n key rule e required =
      let w = rule_there n key rule e in
      subst (λ b. IsSome (cond b (D.held (field_at n key)) None)) (sym w.0) (here.nodes.filled n key rule (live_in n w.0) w.1 required)

  part_homes : (m : NodeId) (f : FieldId) → IsSome (P.nodes m) → home m ≡ Some f → IsSome (P.nodes f.node)
  part_homes m f known e = go (p m) refl known
    where
      at : (spot : Spot) → register_in spot ≡ Some f → spot ≡ Spot.Register f
      at Spot.Nowhere q = cc
      at (Spot.Row n c) q = cc
      at (Spot.Register g) q = let same : g ≡ f = cc in ap Spot.Register same

      go : (b : Bool) → p m ≡ b → IsSome (cond b (D.nodes m) None) → IsSome (P.nodes f.node)
      go false q h = absurd (cc)
      go true q h =
          let spot = at (D.place m) e in
          let known = (s.held_known m f ((s.one_held m f).1 spot)).1 in
          let high : p f.node ≡ true = sym (live_closed D s m f.node (ap node_of spot)) ∙ q in
          subst (λ o. IsSome o) (sym (nodes_same f.node high)) known

  pub part_types : (n : NodeId) (t : NodeType) → P.nodes n ≡ Some t → type_fits V t.ty t.leaf ≡ true
  part_types n t e = let w = there n t e in let i = live_in n w.0 in type_becomes (becomes_last T D s here (T.under n.0.rev) i) t.ty t.leaf (here.nodes.types n t w.1 i)

  pub part_root : has_type P V.root root ≡ true
  part_root = ap (λ o. option_map_or (λ (t : NodeType). is_among t.ty V.root) o false) (nodes_same root (root_live D s)) ∙ here.nodes.root_type

  part_conforms : IsConforming V home P
  part_conforms = record {
    types = part_types;
    places = place_part;
    filled = part_filled;
    homes = part_homes;
    root_type = part_root;
  }

  pub shown_allowed : (is_array : List ℕ → Bool) (d : Data) → ((ty : List ℕ) → is_array ty ≡ is_array_type V ty) → Shows is_array D root d → (t : Node) × (tree_data t ≡ d) × (conforms V V.root t ≡ true)
  shown_allowed is_array d tells shows =
      shown_conforms V (here.widening.sound (last_in_effect D) (last-has (revs D.schemas) (last_in_effect D) (last T D s here))) home P (part_sound p D s (live_closed D s) (root_live D s)) part_conforms is_array tells d
      ((shows_same p D s (live_closed D s) is_array root d (root_live D s) (root_live D s)).0 shows)
