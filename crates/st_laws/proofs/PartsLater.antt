-- Two parts of a commit that fit another document in turn are parts of it there.
use Rattle.std.proofs.Common.{◌≡◌, Bool, true, false, ◌||◌, Option, Some, None, IsSome, cond, option_and_then, refl, sym, ap, ◌∙◌, subst, inr}
use mathlib.Core.Path.{fun_ext}
use Rattle.std.specs.Option.{option_map_or, option_or}
use Rattle.st_ids.specs.declared.names.CellId.{CellId}
use Rattle.st_ids.specs.declared.names.NodeId.{NodeId}
use Rattle.st_lemmas.proofs.Options.{None-IsSome}
use Rattle.st_marks.specs.declared.changes.Change.{Change}
use Rattle.st_marks.specs.declared.intents.Intent.{Intent}
use Rattle.st_marks.specs.declared.intents.To.{To}
use Rattle.st_marks.specs.declared.places.Spot.{Spot}
use Rattle.st_marks.specs.declared.steps.Step.{Step}
use Rattle.st_marks.specs.CarryOut.{full, place_after, spot_of, unless_cleared, with_names}
use Rattle.st_marks.specs.Document.{ClimbsToAnEnd, Document, IsSoundInForm, above, node_of}
use Rattle.st_marks.specs.Intent.{Fits, is_new, new_row_of, put_of}
use Rattle.st_marks.specs.Join.{AreParts, above_made}
use Rattle.st_marks.proofs.Climb.{unknown_nowhere}
use Rattle.st_marks.proofs.NewRows.{known_after}
use Rattle.st_laws.specs.PartsOver.{AreOver}

module _ (N M : Intent) where
  abbrev made : NodeId → Bool
  made n = is_new N n || is_new M n

  abbrev only : Option NodeId → Option NodeId
  only = option_and_then (λ p. cond (made p) (Some p) None)

  -- the place of a node that was nowhere after both parts, where the rows of cells are told
  abbrev place_by : (CellId → Option NodeId) → (CellId → Option NodeId) → NodeId → Spot
  place_by r s n = place_after s M (put_of M n) (place_after r N (put_of N n) Spot.Nowhere)

  -- where only the cells that the parts make have rows
  abbrev up_by_parts : NodeId → Option NodeId
  up_by_parts n = cond (made n) (only (node_of (place_by (new_row_of N) (λ c. option_or (new_row_of N c) (new_row_of M c)) n))) None

  same-spot : (r s : CellId → Option NodeId) → ((c : CellId) → only (r c) ≡ only (s c)) → (to : To) → only (node_of (spot_of r to)) ≡ only (node_of (spot_of s to))
  same-spot r s same To.Nowhere = refl
  same-spot r s same (To.Register f) = refl
  same-spot r s same (To.Cell c) = ap only (row-of (r c)) ∙ same c ∙ sym (ap only (row-of (s c)))
    where
      row-of : (o : Option NodeId) → node_of (option_map_or (λ n. Spot.Row n c) o Spot.Nowhere) ≡ o
      row-of None = refl
      row-of (Some n) = refl

  same-kept : (r s : CellId → Option NodeId) → ((c : CellId) → only (r c) ≡ only (s c)) → (to : To) → only (node_of (unless_cleared M (spot_of r to))) ≡ only (node_of (unless_cleared M (spot_of s to)))
  same-kept r s same To.Nowhere = refl
  same-kept r s same (To.Register f) = refl
  same-kept r s same (To.Cell c) = ap only (row-of (r c)) ∙ same c ∙ sym (ap only (row-of (s c)))
    where
      row-of : (o : Option NodeId) → node_of (unless_cleared M (option_map_or (λ n. Spot.Row n c) o Spot.Nowhere)) ≡ o
      row-of None = refl
      row-of (Some n) = refl

  same-place : (r s t u : CellId → Option NodeId) → ((c : CellId) → only (r c) ≡ only (t c)) → ((c : CellId) → only (s c) ≡ only (u c)) → (a b : Option To)
      → only (node_of (place_after s M b (place_after r N a Spot.Nowhere))) ≡ only (node_of (place_after u M b (place_after t N a Spot.Nowhere)))
  same-place r s t u first then' a (Some to) = same-spot s u then' to
  same-place r s t u first then' None None = refl
  same-place r s t u first then' (Some to) None = same-kept r t first to

  module _ (D : Document) (x : IsSoundInForm D) (f : Fits D N) (g : Fits (full D N) M) where
    -- a node that the document has isn't made
    old : (p : NodeId) → IsSome (D.nodes p) → made p ≡ false
    old p h = go (is_new N p) refl (is_new M p) refl
      where
        go : (a : Bool) → is_new N p ≡ a → (b : Bool) → is_new M p ≡ b → (a || b) ≡ false
        go true e b k = absurd (None-IsSome (D.nodes p) (f.fresh_nodes p e) h)
        go false e true k = absurd (None-IsSome ((full D N).nodes p) (g.fresh_nodes p k) (known_after D N x f p (inr h)))
        go false e false k = refl

    -- and one that is made is nowhere before
    made-nowhere : (n : NodeId) → made n ≡ true → D.place n ≡ Spot.Nowhere
    made-nowhere n e = unknown_nowhere D x n (go (D.nodes n) refl)
      where
        go : (o : _) → D.nodes n ≡ o → o ≡ None
        go None k = refl
        go (Some t) k = absurd (let bad : ◌≡◌ {A = Bool} true false = sym e ∙ old n (subst (λ o. IsSome o) (sym k) refl) in cc)

    row-old : (c : CellId) (q : NodeId) → D.row_of c ≡ Some q → only (Some q) ≡ None
    row-old c q e = let o = (x.one_row c q).0 e in ap (λ b. cond b (Some q) None) (old q (x.cells_known q _ o.1).0)

    unmade-first : (c : CellId) (q : NodeId) → D.row_of c ≡ Some q → new_row_of N c ≡ None
    unmade-first c q e = go (new_row_of N c) refl
      where
        go : (o : Option NodeId) → new_row_of N c ≡ o → o ≡ None
        go None k = refl
        go (Some r) k = absurd (let bad : None ≡ Some q = sym (f.fresh_cells c (subst (λ o. IsSome o) (sym k) refl)) ∙ e in cc)

    unmade-then : (c : CellId) (q : NodeId) → D.row_of c ≡ Some q → new_row_of M c ≡ None
    unmade-then c q e = go (new_row_of M c) refl
      where
        go : (o : Option NodeId) → new_row_of M c ≡ o → o ≡ None
        go None k = refl
        go (Some r) k = absurd (let bad : None ≡ Some q = sym (g.fresh_cells c (subst (λ o. IsSome o) (sym k) refl)) ∙ ap (λ o. option_or o (new_row_of N c)) e in cc)

    first-cells : (c : CellId) → only (option_or (D.row_of c) (new_row_of N c)) ≡ only (new_row_of N c)
    first-cells c = go (D.row_of c) refl
      where
        go : (o : Option NodeId) → D.row_of c ≡ o → only (option_or o (new_row_of N c)) ≡ only (new_row_of N c)
        go None e = refl
        go (Some q) e = row-old c q e ∙ sym (ap only (unmade-first c q e))

    both-cells : (c : CellId) → only (option_or (option_or (D.row_of c) (new_row_of N c)) (new_row_of M c)) ≡ only (option_or (new_row_of N c) (new_row_of M c))
    both-cells c = go (D.row_of c) refl
      where
        go : (o : Option NodeId) → D.row_of c ≡ o → only (option_or (option_or o (new_row_of N c)) (new_row_of M c)) ≡ only (option_or (new_row_of N c) (new_row_of M c))
        go None e = refl
        go (Some q) e = row-old c q e ∙ sym ((λ i. only (option_or (unmade-first c q e i) (unmade-then c q e i))))

    made-alike : (n : NodeId) → above_made D N M n ≡ up_by_parts n
    made-alike n = go (made n) refl
      where
        go : (b : Bool) → made n ≡ b → cond b (only (above (full (full D N) M) n)) None ≡ cond b (only (node_of (place_by (new_row_of N) (λ c. option_or (new_row_of N c) (new_row_of M c)) n))) None
        go false e = refl
        go true e =
            ap (λ s. only (node_of (place_after (with_names (full D N) M).row_of M (put_of M n) (place_after (with_names D N).row_of N (put_of N n) s)))) (made-nowhere n e)
            ∙ same-place (with_names D N).row_of (with_names (full D N) M).row_of (new_row_of N) (λ c. option_or (new_row_of N c) (new_row_of M c)) first-cells both-cells (put_of N n) (put_of M n)

pub parts_later : (D E : Document) (N M J : Intent) (C K : Change) (S : Step) → AreOver D E N M J C K S → AreParts E N M
parts_later D E N M J C K S w = record {
  first_fits = w.first_fits;
  then_fits = w.then_fits;
  no_schema = w.parts.no_schema;
  one_rev = w.parts.one_rev;
  one_under = w.parts.one_under;
  no_ring = λ n. subst (λ up. ClimbsToAnEnd up n) (fun_ext (λ n. made-alike N M D w.extends.before w.parts.first_fits w.parts.then_fits n ∙ sym (made-alike N M E w.extends.after w.first_fits w.then_fits n))) (w.parts.no_ring n);
}
