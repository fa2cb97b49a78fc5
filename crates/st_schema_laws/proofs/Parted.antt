-- A document with some nodes taken away, each with all that stands beneath it.
use Rattle.std.proofs.Common.{◌≡◌, ◌≢◌, ℕ, zero, suc, Bool, true, false, cond, not, List, filter, Option, Some, None, option_and_then, refl, sym, ap, ◌∙◌}
use Rattle.st_ids.specs.declared.names.FieldId.{FieldId}
use Rattle.st_ids.specs.declared.names.NodeId.{NodeId}
use Rattle.st_marks.specs.declared.intents.Owned.{Owned}
use Rattle.st_marks.specs.declared.places.Spot.{Spot}
use Rattle.st_marks.specs.Document.{Document, IsSoundInForm, above, climb, node_of, content, is_cell}
use Rattle.st_ids.specs.Root.{root}
use Rattle.st_marks.specs.LiveTree.{owners_shown}
use Rattle.st_schema_laws.proofs.Rows.{among, owners_filtered}

-- the occupant of a register, if it isn't taken away
abbrev pub unless_among : List NodeId → Option NodeId → Option NodeId
unless_among ns None = None
unless_among ns (Some x) = cond (among ns x) None (Some x)

abbrev pub parted : Document → List NodeId → Document
parted D ns = record D {
  place = λ x. cond (among ns x) Spot.Nowhere (D.place x);
  held = λ f. unless_among ns (D.held f);
}

module _ (D : Document) (ns : List NodeId) (sound : IsSoundInForm D) where
  abbrev F : Document
  F = parted D ns

  place_cases : (x : NodeId) (s : Spot) → F.place x ≡ s → s ≢ Spot.Nowhere → (among ns x ≡ false) × (D.place x ≡ s)
  place_cases x s e out = go (among ns x) refl e
    where
      go : (b : Bool) → among ns x ≡ b → cond b Spot.Nowhere (D.place x) ≡ s → (among ns x ≡ false) × (D.place x ≡ s)
      go true q f = absurd (out (sym f))
      go false q f = (q, f)

  held_cases : (f : FieldId) (x : NodeId) → F.held f ≡ Some x → (among ns x ≡ false) × (D.held f ≡ Some x)
  held_cases f x e = go (D.held f) refl e
    where
      one : (y : NodeId) → D.held f ≡ Some y → (b : Bool) → among ns y ≡ b → cond b None (Some y) ≡ Some x → (among ns x ≡ false) × (D.held f ≡ Some x)
      one y p true q r = cc
      one y p false q r = let same : y ≡ x = cc in (ap (among ns) (sym same) ∙ q, p ∙ r)

      go : (o : Option NodeId) → D.held f ≡ o → unless_among ns o ≡ Some x → (among ns x ≡ false) × (D.held f ≡ Some x)
      go None p q = cc
      go (Some y) p q = one y p (among ns y) refl q

  pub up_before : (x p : NodeId) → above F x ≡ Some p → above D x ≡ Some p
  up_before x p e = go (among ns x) e
    where
      go : (b : Bool) → node_of (cond b Spot.Nowhere (D.place x)) ≡ Some p → node_of (D.place x) ≡ Some p
      go true f = cc
      go false f = f

  pub from_before : (k : ℕ) (x y : NodeId) → climb (above F) k x ≡ Some y → climb (above D) k x ≡ Some y
  from_before zero x y e = e
  from_before (suc k) x y e = go (above F x) refl (λ p f. from_before k p y f) e
    where
      go : (o : Option NodeId) → above F x ≡ o → ((p : NodeId) → climb (above F) k p ≡ Some y → climb (above D) k p ≡ Some y) → option_and_then (climb (above F) k) o ≡ Some y → option_and_then (climb (above D) k) (above D x) ≡ Some y
      go None q rest f = cc
      go (Some p) q rest f = ap (option_and_then (climb (above D) k)) (up_before x p q) ∙ rest p f

  ends : (k : ℕ) (x : NodeId) → climb (above D) k x ≡ None → climb (above F) k x ≡ None
  ends k x e = go (climb (above F) k x) refl
    where
      go : (o : Option NodeId) → climb (above F) k x ≡ o → climb (above F) k x ≡ None
      go None q = q
      go (Some y) q = let bad : None ≡ Some y = sym e ∙ from_before k x y q in cc

  pub parted_sound : IsSoundInForm F
  parted_sound = record {
    root_known = sound.root_known;
    root_nowhere = rooted (among ns root);
    one_row = sound.one_row;
    once = sound.once;
    short = sound.short;
    own_cell = λ m n c e. sound.own_cell m n c (place_cases m (Spot.Row n c) e (λ q. cc)).1;
    one_held = λ m f. (
      (λ e. (let h = held_cases f m e in ap (λ b. cond b Spot.Nowhere (D.place m)) h.0 ∙ (sound.one_held m f).0 h.1)),
      λ e. (let h = place_cases m (Spot.Register f) e (λ q. cc) in ap (unless_among ns) ((sound.one_held m f).1 h.1) ∙ ap (λ b. cond b None (Some m)) h.0),
    );
    cells_known = sound.cells_known;
    held_known = λ m f e. sound.held_known m f (held_cases f m e).1;
    register_key = λ m f e. sound.register_key m f (held_cases f m e).1;
    no_ring = λ n. (let k = sound.no_ring n in (k.0, ends k.0 n k.1));
    in_effect = sound.in_effect;
  }
    where
      rooted : (b : Bool) → cond b Spot.Nowhere (D.place root) ≡ Spot.Nowhere
      rooted true = refl
      rooted false = sound.root_nowhere

  pub parted_row : (n : NodeId) → owners_shown (content F n) ≡ filter (λ x. not (among ns x)) (owners_shown (content D n))
  parted_row n = owners_filtered D F (λ x. not (among ns x)) (D.rows n) (λ o h. go o (among ns o.node))
    where
      go : (o : Owned) (b : Bool) → is_cell o.cell (cond b Spot.Nowhere (D.place o.node)) ≡ cond (not b) (is_cell o.cell (D.place o.node)) false
      go o true = refl
      go o false = refl
