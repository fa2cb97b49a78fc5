-- The rules by themselves and all together, between two changes that are told as steps.
use Rattle.std.proofs.Common.{◌≡◌, ℕ, List, [], ◌∷◌, ◌++◌, Option, refl, sym, ap, ◌∙◌, subst, inl, inr, ◌⊎◌}
use Rattle.st_ids.specs.Listing.{Has}
use Rattle.st_ids.specs.Root.{root}
use Rattle.st_ids.specs.declared.names.CellId.{CellId}
use Rattle.st_ids.specs.declared.names.FieldId.{FieldId}
use Rattle.st_ids.specs.declared.names.NodeId.{NodeId}
use Rattle.st_marks.specs.declared.changes.Change.{Change}
use Rattle.st_marks.specs.Agree.{Differs, JoinClash, MadeAgain, OwnedTooEarly, RootRule, broken, cell_again, cell_twice, node_again, node_twice, owned_early, registers_differ, row_field, rows_differ}
use Rattle.st_marks.specs.Listings.{Listing, ListsCell, Names, listing_after_change, listing_after_step, listing_before_change, listing_before_step, names_of_step}
use Rattle.st_clash.specs.Adds.{Adds}
use Rattle.st_clash.specs.Cells.{AreCellsOnce}
use Rattle.st_turn_places.specs.Rules.{IsPlacedOnce}
use Rattle.st_agree.proofs.AllRules.{added_as, added_both}
use Rattle.st_part_rings.specs.Told.{step_of}
use Rattle.st_part_rings.proofs.ToldListings.{places_told, registers_rise, same_after, same_before, told_by, told_places}
use Rattle.st_join_parts.specs.inside.Clashes.{AreNoParts, IsNamedApart, IsShownApart, ListsRise, NeededAgain, ObeyRules, StepsRise}
use Rattle.st_join_parts.proofs.FoundOnce.{cells_once, lists_rise, placed_once}
use Rattle.st_join_parts.proofs.NamesTold.{change_named, named-needed, step_named}

-- three rules, one after the other
pub added_three : (a b c d : List FieldId) (R Q W : FieldId → Type 0) (P O N : Type 0) → Adds a b R P → Adds b c Q O → Adds c d W N → Adds a d (λ f. (R f ⊎ Q f) ⊎ W f) ((P × O) × N)
added_three a b c d R Q W P O N x y z = added_both a c d (λ f. R f ⊎ Q f) W (P × O) N (added_both a b c R Q P O x y) z

-- ## Cells in listings with other names

cell_told : (L : Listing) (N : Names) (c : CellId) (n : NodeId) (k : ℕ) (o : Option NodeId) → ListsCell (told_by L N) c n k o → ListsCell L c n k o
cell_told L N c n k o v = record { cells = v.cells; full = v.full; listed = v.listed; at_place = v.at_place }

told_cell : (L : Listing) (N : Names) (c : CellId) (n : NodeId) (k : ℕ) (o : Option NodeId) → ListsCell L c n k o → ListsCell (told_by L N) c n k o
told_cell L N c n k o v = record { cells = v.cells; full = v.full; listed = v.listed; at_place = v.at_place }

module _ (C K : Change) where
  abbrev L : Listing
  L = listing_after_change C

  abbrev M : Listing
  M = listing_before_change K

  abbrev N : Names
  N = names_of_step (step_of C)

  abbrev O : Names
  O = names_of_step (step_of K)

  -- the rules between the two as steps
  abbrev Told : FieldId → Type 0
  Told f = IsShownApart (told_by L N) (told_by M O) f ⊎ IsNamedApart (told_by L N) (told_by M O) f

  abbrev By : FieldId → Type 0
  By f = (Told f ⊎ NeededAgain C K f) ⊎ AreNoParts C K f

  differs_by : (f : FieldId) → Differs L M f → By f
  differs_by f (rows_differ n a b e g apart) = inl (inl (inl (inl (inl (n, a, b, e, g, apart, refl)))))
  differs_by f (cell_twice c n m k l o p v w apart r named) = inl (inl (inl (inr (c, inl (n, m, k, l, o, p, told_cell L N c n k o v, told_cell M O c m l p w, apart), r, named, refl))))
  differs_by f (registers_differ g a b e h apart) = inl (inl (inl (inl (inr (a, b, e, h, apart)))))
  differs_by f (node_twice n a b v w apart g h) = inl (inl (inr (inr (n, a, b, told_places L N n a v, told_places M O n b w, apart, h))))

  again_by : (f : FieldId) → MadeAgain L M f → By f
  again_by f (node_again n made named) = elim (change_named C n named) [
    | inl h ↦ inl (inr (n, made, h, refl))
    | inr t ↦ inl (inl (inr (inl (inl (n, made, t, refl)))))
  ]
  again_by f (cell_again c q r made named w) = inl (inl (inl (inr (c, inr (q, made, named), r, w, refl))))

  early_by : (f : FieldId) → OwnedTooEarly L M f → By f
  early_by f (owned_early c n q r k lists makes old named) = inl (inl (inr (inl (inr (c, n, q, k, told_cell M O c q k _ lists, makes, old, r, named, refl)))))

  clash_by : (f : FieldId) → JoinClash C K f → By f
  clash_by f (inl d) = differs_by f d
  clash_by f (inr (inl d)) = again_by f d
  clash_by f (inr (inr (inl d))) = early_by f d
  clash_by f (inr (inr (inr (inl d)))) = inr (inl d)
  clash_by f (inr (inr (inr (inr d)))) = inr (inr d)

  told_clash : (f : FieldId) → Told f → JoinClash C K f
  told_clash f (inl (inl (inl d))) = inl (subst (Differs L M) d.6 (rows_differ d.0 d.1 d.2 d.3 d.4 d.5))
  told_clash f (inl (inl (inr d))) = inl (registers_differ f d.0 d.1 d.2 d.3 d.4)
  told_clash f (inl (inr d)) = elim d.1 [
    | inl t ↦ inl (subst (Differs L M) d.4 (cell_twice d.0 t.0 t.1 t.2 t.3 t.4 t.5 (cell_told L N d.0 t.0 t.2 t.4 t.6) (cell_told M O d.0 t.1 t.3 t.5 t.7) t.8 d.2 d.3))
    | inr m ↦ inr (inl (subst (MadeAgain L M) d.4 (cell_again d.0 m.0 d.2 m.1 m.2 d.3)))
  ]
  told_clash f (inr (inl (inl d))) = inr (inl (subst (MadeAgain L M) d.3 (node_again d.0 d.1 (step_named C d.0 d.2))))
  told_clash f (inr (inl (inr d))) = inr (inr (inl (subst (OwnedTooEarly L M) d.9 (owned_early d.0 d.1 d.2 d.7 d.3 (cell_told M O d.0 d.2 d.3 _ d.4) d.5 d.6 d.8))))
  told_clash f (inr (inr d)) = inl (node_twice d.0 d.1 d.2 (places_told L N d.0 d.1 d.3) (places_told M O d.0 d.2 d.4) d.5 f d.6)

  by_clash : (f : FieldId) → By f → JoinClash C K f
  by_clash f (inl (inl d)) = told_clash f d
  by_clash f (inl (inr d)) = inr (inl (subst (MadeAgain L M) d.3 (node_again d.0 d.1 (named-needed C d.0 d.2))))
  by_clash f (inr (inl d)) = inr (inr (inr (inl d)))
  by_clash f (inr (inr d)) = inr (inr (inr (inr d)))

  abbrev pub Clear : Type 0
  Clear = ((Unit {0} × Unit {0}) × AreCellsOnce (listing_before_step (step_of K))) × ((Unit {0} × Unit {0}) × IsPlacedOnce (listing_before_step (step_of K)))

  abbrev pub StepsApart : FieldId → Type 0
  StepsApart f = IsShownApart (listing_after_step (step_of C)) (listing_before_step (step_of K)) f ⊎ IsNamedApart (listing_after_step (step_of C)) (listing_before_step (step_of K)) f

  told_added : (a b : List FieldId) → Adds a b StepsApart Clear → Adds a b Told Clear
  told_added a b x =
      subst (λ z. Adds a b (λ f. IsShownApart (told_by L N) z f ⊎ IsNamedApart (told_by L N) z f) Clear) (same_before K)
      (subst (λ z. Adds a b (λ f. IsShownApart z (listing_before_step (step_of K)) f ⊎ IsNamedApart z (listing_before_step (step_of K)) f) Clear) (same_after C) x)

  -- all rules, one after the other
  pub added_all : (a b c d : List FieldId) → Adds a b StepsApart Clear → Adds b c (NeededAgain C K) (Unit {0}) → Adds c d (AreNoParts C K) (ObeyRules C K) → Adds a d (JoinClash C K) (ObeyRules C K)
  added_all a b c d x y z =
      added_as a d By (JoinClash C K) ((Clear × Unit {0}) × ObeyRules C K) (ObeyRules C K) by_clash clash_by (λ w. (((((tt, tt), cells_once K w.1), ((tt, tt), placed_once K w.1)), tt), w))
      (added_three a b c d Told (NeededAgain C K) (AreNoParts C K) Clear (Unit {0}) (ObeyRules C K) (told_added a b x) y z)

-- ## The root's row

no_more : {A : Type 0} (xs : List A) → xs ++ [] ≡ xs
no_more [] = refl
no_more (x ∷ xs) = ap (λ l. x ∷ l) (no_more xs)

rule_passes : (H : Type 0) → H → (f : FieldId) → RootRule H f → Has [] f
rule_passes H there f (broken w) = absurd (w there)

pub root_passes : (H G P : Type 0) (found : List FieldId) → (P → H × G) → Adds found found (λ f. RootRule H f ⊎ RootRule G f) P
root_passes H G P found there = ([], sym (no_more found), (λ f h. absurd h), (λ p f w. elim w [ inl r ↦ rule_passes H (there p).0 f r | inr r ↦ rule_passes G (there p).1 f r ]))

rule_names : (H : Type 0) (f g : FieldId) → f ≡ row_field root → RootRule H g → Has (f ∷ []) g
rule_names H f g is (broken w) = inl is

broken_at : (H : Type 0) (f g : FieldId) → f ≡ row_field root → f ≡ g → (H → ⊥) → RootRule H g
broken_at H f g is q none = subst (RootRule H) (sym is ∙ q) (broken none)

pub root_clash : (H G P : Type 0) (found now : List FieldId) (f : FieldId) → f ≡ row_field root → now ≡ found ++ f ∷ [] → (H → ⊥) ⊎ (G → ⊥) → Adds found now (λ f. RootRule H f ⊎ RootRule G f) P
root_clash H G P found now f is e none = (
  f ∷ [],
  e,
  (λ g h. elim h [ inl q ↦ elim none [ inl x ↦ inl (broken_at H f g is q x) | inr x ↦ inr (broken_at G f g is q x) ] | inr w ↦ absurd w ]),
  (λ p g w. elim w [ inl r ↦ rule_names H f g is r | inr r ↦ rule_names G f g is r ]),
)

-- ## What rises

pub steps_rise : (C K : Change) → ListsRise C K → StepsRise (step_of C) (step_of K)
steps_rise C K w = record { rows = w.rows; rows_then = w.rows_then; regs = registers_rise C w.regs; regs_then = registers_rise K w.regs_then }

pub both_rise : (C K : Change) → ObeyRules C K → ListsRise C K
both_rise C K w = let a = lists_rise C w.0 in let b = lists_rise K w.1 in record { rows = a.0; rows_then = b.0; regs = a.1; regs_then = b.1 }
