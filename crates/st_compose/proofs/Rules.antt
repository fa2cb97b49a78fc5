-- The rules by themselves and all together.
use Rattle.std.proofs.Common.{◌≡◌, List, [], ◌∷◌, ◌++◌, refl, sym, ap, ◌∙◌, subst, inl, inr, ◌⊎◌}
use Rattle.st_ids.specs.Listing.{Has}
use Rattle.st_ids.specs.Root.{root}
use Rattle.st_ids.specs.declared.names.FieldId.{FieldId}
use Rattle.st_marks.specs.declared.steps.Step.{Step}
use Rattle.st_marks.specs.Agree.{ComposeClash, Differs, HaveSchemasInTurn, MadeAgain, OwnedTooEarly, RootRule, broken, cell_again, cell_twice, node_again, node_twice, owned_early, registers_differ, row_field, rows_differ}
use Rattle.st_marks.specs.Listings.{Listing, listing_after_step, listing_before_step}
use Rattle.st_normal.specs.Rules.{ObeysStepRules}
use Rattle.st_clash.specs.Adds.{Adds}
use Rattle.st_clash.specs.Cells.{AreCellsOnce}
use Rattle.st_turn_places.specs.Rules.{IsPlacedOnce}
use Rattle.st_agree.proofs.AllRules.{added_as, added_both}
use Rattle.st_agree.proofs.RulesObeyed.{step_is_clear}
use Rattle.st_compose.specs.inside.Clashes.{IsClear, IsNamedApart, IsShownApart, ListsRise, SchemasFit}

-- three rules, one after the other
pub added_three : (a b c d : List FieldId) (R Q W : FieldId → Type 0) (P O N : Type 0) → Adds a b R P → Adds b c Q O → Adds c d W N → Adds a d (λ f. (R f ⊎ Q f) ⊎ W f) ((P × O) × N)
added_three a b c d R Q W P O N x y z = added_both a c d (λ f. R f ⊎ Q f) W (P × O) N (added_both a b c R Q P O x y) z

module _ (S T : Step) where
  abbrev L : Listing
  L = listing_after_step S

  abbrev M : Listing
  M = listing_before_step T

  abbrev By : FieldId → Type 0
  By f = (IsShownApart L M f ⊎ IsNamedApart L M f) ⊎ RootRule (HaveSchemasInTurn S T) f

  differs_by : (f : FieldId) → Differs L M f → By f
  differs_by f (rows_differ n a b e g apart) = inl (inl (inl (inl (n, a, b, e, g, apart, refl))))
  differs_by f (cell_twice c n m k l o p v w apart r named) = inl (inl (inr (c, inl (n, m, k, l, o, p, v, w, apart), r, named, refl)))
  differs_by f (registers_differ g a b e h apart) = inl (inl (inl (inr (a, b, e, h, apart))))
  differs_by f (node_twice n a b v w apart g h) = inl (inr (inr (n, a, b, v, w, apart, h)))

  again_by : (f : FieldId) → MadeAgain L M f → By f
  again_by f (node_again n made named) = inl (inr (inl (inl (n, made, named, refl))))
  again_by f (cell_again c q r made named w) = inl (inl (inr (c, inr (q, made, named), r, w, refl)))

  early_by : (f : FieldId) → OwnedTooEarly L M f → By f
  early_by f (owned_early c n q r k lists makes old named) = inl (inr (inl (inr (c, n, q, k, lists, makes, old, r, named, refl))))

  pub clash_by : (f : FieldId) → ComposeClash S T f → By f
  clash_by f (inl d) = differs_by f d
  clash_by f (inr (inl d)) = again_by f d
  clash_by f (inr (inr (inl d))) = early_by f d
  clash_by f (inr (inr (inr d))) = inr d

  pub by_clash : (f : FieldId) → By f → ComposeClash S T f
  by_clash f (inl (inl (inl (inl d)))) = inl (subst (Differs L M) d.6 (rows_differ d.0 d.1 d.2 d.3 d.4 d.5))
  by_clash f (inl (inl (inl (inr d)))) = inl (registers_differ f d.0 d.1 d.2 d.3 d.4)
  by_clash f (inl (inl (inr d))) = elim d.1 [
    | inl t ↦ inl (subst (Differs L M) d.4 (cell_twice d.0 t.0 t.1 t.2 t.3 t.4 t.5 t.6 t.7 t.8 d.2 d.3))
    | inr m ↦ inr (inl (subst (MadeAgain L M) d.4 (cell_again d.0 m.0 d.2 m.1 m.2 d.3)))
  ]
  by_clash f (inl (inr (inl (inl d)))) = inr (inl (subst (MadeAgain L M) d.3 (node_again d.0 d.1 d.2)))
  by_clash f (inl (inr (inl (inr d)))) = inr (inr (inl (subst (OwnedTooEarly L M) d.9 (owned_early d.0 d.1 d.2 d.7 d.3 d.4 d.5 d.6 d.8))))
  by_clash f (inl (inr (inr d))) = inl (node_twice d.0 d.1 d.2 d.3 d.4 d.5 f d.6)
  by_clash f (inr d) = inr (inr (inr d))

-- all rules, one after the other
pub added_all : (S T : Step) (a b c d : List FieldId) → Adds a b (IsShownApart (listing_after_step S) (listing_before_step T)) ((Unit {0} × Unit {0}) × AreCellsOnce (listing_before_step T))
    → Adds b c (IsNamedApart (listing_after_step S) (listing_before_step T)) ((Unit {0} × Unit {0}) × IsPlacedOnce (listing_before_step T))
    → Adds c d (RootRule (HaveSchemasInTurn S T)) (SchemasFit S T) → Adds a d (ComposeClash S T) (IsClear S T)
added_all S T a b c d x y z =
    let Cells = (Unit {0} × Unit {0}) × AreCellsOnce (listing_before_step T) in
    let Nodes = (Unit {0} × Unit {0}) × IsPlacedOnce (listing_before_step T) in
    added_as a d (By S T) (ComposeClash S T) ((Cells × Nodes) × SchemasFit S T) (IsClear S T) (by_clash S T) (clash_by S T) (λ w. ((((tt, tt), w.cells), ((tt, tt), w.nodes)), w.schemas))
    (added_three a b c d (IsShownApart (listing_after_step S) (listing_before_step T)) (IsNamedApart (listing_after_step S) (listing_before_step T)) (RootRule (HaveSchemasInTurn S T)) Cells Nodes (SchemasFit S T) x y z)

-- ## The root's row

no_more : {A : Type 0} (xs : List A) → xs ++ [] ≡ xs
no_more [] = refl
no_more (x ∷ xs) = ap (λ l. x ∷ l) (no_more xs)

rule_passes : (H P : Type 0) → (P → H) → P → (f : FieldId) → RootRule H f → Has [] f
rule_passes H P there p f (broken w) = absurd (w (there p))

pub root_passes : (H P : Type 0) (found : List FieldId) → (P → H) → Adds found found (RootRule H) P
root_passes H P found there = ([], sym (no_more found), (λ f h. absurd h), (λ p f w. rule_passes H P there p f w))

rule_names : (H : Type 0) (f g : FieldId) → f ≡ row_field root → RootRule H g → Has (f ∷ []) g
rule_names H f g is (broken w) = inl is

pub root_clash : (H P : Type 0) (found now : List FieldId) (f : FieldId) → f ≡ row_field root → now ≡ found ++ f ∷ [] → (H → ⊥) → Adds found now (RootRule H) P
root_clash H P found now f is e none = (f ∷ [], e, (λ g h. elim h [ inl q ↦ subst (RootRule H) (sym is ∙ q) (broken none) | inr w ↦ absurd w ]), (λ p g w. rule_names H f g is w))

-- ## Steps in normal form

pub lists_rise : (S T : Step) → ObeysStepRules S → ObeysStepRules T → ListsRise S T
lists_rise S T first last = record { rows = first.rising.rows; rows_then = last.rising.rows; regs = first.rising.regs; regs_then = last.rising.regs }

pub steps_are_clear : (S T : Step) → ObeysStepRules S → ObeysStepRules T → IsClear S T
steps_are_clear S T first last = record { nodes = (step_is_clear T last).nodes; cells = (step_is_clear T last).cells; schemas = (first.schema, last.schema) }
