-- What is shown after a field is emptied, and after a need.
use Rattle.std.proofs.Common.{◌≡◌, ◌≢◌, ℕ, Bool, true, false, cond, ◌||◌, List, [], ◌∷◌, map, Option, Some, None, Ok, refl, sym, ap, ◌∙◌, subst, inl, inr}
use Rattle.serde_json.specs.Data.{Data}
use Rattle.st_ids.specs.Order.{same_field}
use Rattle.st_ids.specs.declared.names.CellId.{CellId}
use Rattle.st_ids.specs.declared.names.FieldId.{FieldId}
use Rattle.st_ids.specs.declared.names.Key.{Key}
use Rattle.st_ids.specs.declared.names.NodeId.{NodeId}
use Rattle.st_ids.specs.declared.names.Place.{Place}
use Rattle.st_ids.proofs.Orders.{same_field-true, same_field-itself}
use Rattle.st_schema.specs.Schema.{SchemaView, is_sound}
use Rattle.st_schema.specs.declared.names.KindName.{KindName}
use Rattle.st_schema.specs.declared.names.KindName.TheVariants.{Required, Optional, Sequence}
use Rattle.st_marks.specs.declared.intents.Intent.{Intent}
use Rattle.st_marks.specs.declared.places.Spot.{Spot}
use Rattle.st_marks.specs.declared.verdicts.Verdict.{Verdict}
use Rattle.st_marks.specs.Document.{Document, NodeType, IsSoundInForm, IsLive, content, is_cell, slot}
use Rattle.st_ids.specs.Root.{root}
use Rattle.st_marks.specs.Intent.{clears}
use Rattle.st_marks.specs.CarryOut.{full, unless_cleared, unless_put}
use Rattle.st_marks.specs.Verdict.{IsVerdict}
use Rattle.st_marks.specs.LiveTree.{Shows, owners_shown, register}
use Rattle.st_edits.specs.Paths.{field_at}
use Rattle.st_edits.specs.Resolve.{clear, need, empty_intent, rule_for, walk}
use Rattle.st_schema.specs.Kind.{is_optional, is_row}
use Rattle.st_edits.specs.declared.names.NameCounters.{NameCounters}
use Rattle.st_edits.specs.declared.names.Takes.TheVariants as field
use Rattle.st_edits.proofs.Fits.{passed}
use Rattle.st_schema_laws.specs.Alike.{AreAlikeAt}
use Rattle.st_schema_laws.specs.Edited.{TellsRows, at_path, same_key, without_key}
use Rattle.st_schema_laws.proofs.Alike.{same_below}
use Rattle.st_schema_laws.proofs.Along.{along, live_at, same_key-true, same_key-itself}
use Rattle.st_schema_laws.proofs.AtNode.{member_left}
use Rattle.st_schema_laws.proofs.Removed.{no_groups}
use Rattle.st_schema_laws.proofs.Rows.{owners_same}
use Rattle.st_schema_laws.proofs.Ruled.{ruled_kind}
use Rattle.st_schema_laws.proofs.Sound.{last_in_effect}
use Rattle.st_lemmas.proofs.Bools.{true-false}
use Rattle.st_lemmas.proofs.Options.{option_or-None}

-- ## Registers by their keys

-- whether two registers of one node are one is told by their keys
pub same_register : (n : NodeId) (k l : List ℕ) → same_field (register n k) (register n l) ≡ same_key k l
same_register n k l = go (same_field (register n k) (register n l)) refl (same_key k l) refl
  where
    go : (a : Bool) → same_field (register n k) (register n l) ≡ a → (b : Bool) → same_key k l ≡ b → same_field (register n k) (register n l) ≡ same_key k l
    go true e true f = e ∙ sym f
    go false e false f = e ∙ sym f
    go true e false f =
        let same = same_field-true (register n k) (register n l) e in
        absurd (true-false (same_key-itself k) (ap (λ (g : FieldId). same_key k g.key.0) same ∙ f))
    go false e true f = absurd (true-false (same_field-itself (register n k)) (ap (λ x. same_field (register n k) (register n x)) (same_key-true k l f) ∙ e))

-- registers of two nodes are two
pub other_register : (n m : NodeId) (k l : List ℕ) → m ≢ n → same_field (register n k) (register m l) ≡ false
other_register n m k l apart = go (same_field (register n k) (register m l)) refl
  where
    go : (b : Bool) → same_field (register n k) (register m l) ≡ b → same_field (register n k) (register m l) ≡ false
    go false e = e
    go true e = absurd (apart (sym (ap (λ (f : FieldId). f.node) (same_field-true (register n k) (register m l) e))))

-- ## An intent that only clears one register

module _ (D : Document) (G : NameCounters) (sound : IsSoundInForm D) (m : NodeId) (key : Key) where
  abbrev N : Intent
  N = record (empty_intent D G) { clear = field_at m key ∷ [] }

  abbrev E : Document
  E = full D N

  clears_is : (g : FieldId) → clears N g ≡ same_field (field_at m key) g
  clears_is g = or_false (same_field (field_at m key) g)
    where
      or_false : (b : Bool) → (b || false) ≡ b
      or_false true = refl
      or_false false = refl

  full_same : (c : CellId) (x : NodeId) → is_cell c (E.place x) ≡ is_cell c (D.place x)
  full_same c x = go (D.place x)
    where
      go : (s : Spot) → is_cell c (unless_cleared N s) ≡ is_cell c s
      go Spot.Nowhere = refl
      go (Spot.Row r d) = refl
      go (Spot.Register f) = elim (clears N f) as (λ b. is_cell c (cond b Spot.Nowhere (Spot.Register f)) ≡ false) [ true ↦ refl | false ↦ refl ]

  owners_kept : (n : NodeId) → owners_shown (content E n) ≡ owners_shown (content D n)
  owners_kept n = ap (λ os. owners_shown (map (slot E) os)) (no_groups N n (λ a. refl) (D.rows n)) ∙ owners_same D E (D.rows n) (λ o h. full_same o.cell o.node)

  held_is : (g : FieldId) → E.held g ≡ cond (same_field (field_at m key) g) None (D.held g)
  held_is g = ap (λ b. cond b None (unless_put N (D.held g))) (clears_is g) ∙ ap (cond (same_field (field_at m key) g) None) (unput (D.held g))
    where
      unput : (o : Option NodeId) → unless_put N o ≡ o
      unput None = refl
      unput (Some n) = refl

  nodes_are : (x : NodeId) → E.nodes x ≡ D.nodes x
  nodes_are x = option_or-None (D.nodes x)

  alike : (x : NodeId) → x ≢ m → AreAlikeAt D E x
  alike x apart = record {
    node = λ t e. nodes_are x ∙ e;
    row = owners_kept x;
    held = λ k. held_is (register x k) ∙ ap (λ b. cond b None (D.held (register x k))) (other_register m x key.0 k apart);
  }

  held_here : (k : List ℕ) → E.held (register m k) ≡ cond (same_key key.0 k) None (D.held (register m k))
  held_here k = held_is (register m k) ∙ ap (λ b. cond b None (D.held (register m k))) (same_register m key.0 k)

  pub cleared_verdict : IsVerdict D N Verdict.Sound
  cleared_verdict = (last_in_effect D G sound, (λ x h. absurd h.0), λ x h. absurd (none h.0))
    where
      none : ◌≡◌ {A = Bool} false true → ⊥
      none e = cc

-- ## An emptied field

optional_unrowed : (k : KindName) → is_optional k ≡ true → is_row k ≡ false
optional_unrowed Required e = refl
optional_unrowed Optional e = refl
optional_unrowed Sequence e = cc

pub record IsClearing (D : Document) (s : SchemaView) (G : NameCounters) (at : List Place) (key : Key) (N : Intent) : Type 0 where
  pub node : NodeId
  pub way : walk D at ≡ Ok node
  pub type : NodeType
  pub known : D.nodes node ≡ Some type
  pub unrowed : (is_array : List ℕ → Bool) → is_sound s ≡ true → TellsRows is_array s → is_array type.ty ≡ false
  pub intent : record (empty_intent D G) { clear = field_at node key ∷ [] } ≡ N

pub is_clearing : (D : Document) (s : SchemaView) (G : NameCounters) (at : List Place) (key : Key) (N : Intent) → clear D s G at key ≡ Ok N → IsClearing D s G at key N
is_clearing D s G at key N e =
    let n = passed (walk D at) _ N e in
    let r = passed (rule_for field.Optional D s n.0 key) (λ _. Ok (record (empty_intent D G) { clear = field_at n.0 key ∷ [] })) N n.2 in
    let is : record (empty_intent D G) { clear = field_at n.0 key ∷ [] } ≡ N = cc in
    let t = ruled_kind field.Optional D s n.0 key r.0 r.1 in
    record { node = n.0; way = n.1; type = t.0; known = t.1; unrowed = λ is_array schema tells. t.2 is_array schema tells ∙ optional_unrowed r.0.kind t.3; intent = is }

pub clearing_verdict : (D : Document) (s : SchemaView) (G : NameCounters) (at : List Place) (key : Key) (N : Intent) → IsSoundInForm D → clear D s G at key ≡ Ok N → IsVerdict D N Verdict.Sound
clearing_verdict D s G at key N sound e = let w = is_clearing D s G at key N e in subst (λ N. IsVerdict D N Verdict.Sound) w.intent (cleared_verdict D G sound w.node key)

pub clearing_seen : (is_array : List ℕ → Bool) (D : Document) (s : SchemaView) (G : NameCounters) (at : List Place) (key : Key) (N : Intent) (d : Data) → IsSoundInForm D → is_sound s ≡ true → TellsRows is_array s
    → clear D s G at key ≡ Ok N → Shows is_array D root d → Shows is_array (full D N) root (at_path at (without_key key.0) d)
clearing_seen is_array D s G at key N d sound schema tells e shows =
    let w = is_clearing D s G at key N e in
    let F = full D (record (empty_intent D G) { clear = field_at w.node key ∷ [] }) in
    subst (λ N. Shows is_array (full D N) root (at_path at (without_key key.0) d)) w.intent
    ((along is_array D F sound w.node (λ x _ apart. alike D G sound w.node key x apart) (without_key key.0)
    (member_left is_array D F sound w.node (λ x _ apart. alike D G sound w.node key x apart) (λ t e. nodes_are D G sound w.node key w.node ∙ e) w.type w.known key.0 (w.unrowed is_array schema tells) (held_here D G sound w.node key)) at 0 root w.way).1 d shows)

-- ## A need

module _ (D : Document) (G : NameCounters) (sound : IsSoundInForm D) (n : NodeId) where
  abbrev M : Intent
  M = record (empty_intent D G) { need = n ∷ [] }

  needed_alike : (x : NodeId) → AreAlikeAt D (full D M) x
  needed_alike x = record {
    node = λ t e. option_or-None (D.nodes x) ∙ e;
    row = ap (λ os. owners_shown (map (slot (full D M)) os)) (no_groups M x (λ a. refl) (D.rows x)) ∙ owners_same D (full D M) (D.rows x) (λ o h. ap (is_cell o.cell) (stays (D.place o.node)));
    held = λ k. unput (D.held (register x k));
  }
    where
      stays : (s : Spot) → unless_cleared M s ≡ s
      stays Spot.Nowhere = refl
      stays (Spot.Row r c) = refl
      stays (Spot.Register f) = refl

      unput : (o : Option NodeId) → unless_put M o ≡ o
      unput None = refl
      unput (Some y) = refl

  needed_verdict : IsLive D n → IsVerdict D M Verdict.Sound
  needed_verdict live = (
    last_in_effect D G sound,
    (λ x h. elim h.0 [ inl e ↦ h.1 (subst (IsLive D) e live) | inr k ↦ absurd k ]),
    λ x h. absurd (none h.0),
  )
    where
      none : ◌≡◌ {A = Bool} false true → ⊥
      none e = cc

pub is_need : (D : Document) (G : NameCounters) (at : List Place) (N : Intent) → need D G at ≡ Ok N → (n : NodeId) × (walk D at ≡ Ok n) × (record (empty_intent D G) { need = n ∷ [] } ≡ N)
is_need D G at N e =
    let n = passed (walk D at) (λ n. Ok (record (empty_intent D G) { need = n ∷ [] })) N e in
    let is : record (empty_intent D G) { need = n.0 ∷ [] } ≡ N = cc in
    (n.0, n.1, is)

pub needing_verdict : (D : Document) (G : NameCounters) (at : List Place) (N : Intent) → IsSoundInForm D → need D G at ≡ Ok N → IsVerdict D N Verdict.Sound
needing_verdict D G at N sound e =
    let w = is_need D G at N e in
    subst (λ N. IsVerdict D N Verdict.Sound) w.2 (needed_verdict D G sound w.0 (live_at D sound at 0 root w.0 w.1))

pub needing_seen : (is_array : List ℕ → Bool) (D : Document) (G : NameCounters) (at : List Place) (N : Intent) (d : Data) → IsSoundInForm D → need D G at ≡ Ok N → Shows is_array D root d → Shows is_array (full D N) root d
needing_seen is_array D G at N d sound e shows =
    let w = is_need D G at N e in
    subst (λ N. Shows is_array (full D N) root d) w.2
    (same_below is_array D (full D (record (empty_intent D G) { need = w.0 ∷ [] })) sound root d (λ x _ _. needed_alike D G sound w.0 x) shows)
