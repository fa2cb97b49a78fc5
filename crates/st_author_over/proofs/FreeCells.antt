-- Cells that a change makes, in the rows of a forest and of the document for which it stands.
use Rattle.std.proofs.Common.{ℕ, MatchOption, if◌then◌else◌, ◌≡◌, ◌↔◌, ◌||◌, ◌&&◌, Bool, true, false, not, List, [], ◌∷◌, Option, Some, None, IfSome, unwrap_or, refl, sym, ap, ◌∙◌, subst}
use Rattle.std.specs.BTreeMap.{IsOrdered, get, values}
use Rattle.std.specs.List.{AllByRecursion, list_any}
use Rattle.std.proofs.lemmas.Cmp.{eq_by_cmp_equiv}
use Rattle.std.proofs.lemmas.List.Elements.{All-from_recursion, recursion_from_All}
use Rattle.std.proofs.lemmas.Map.Keys.{IsDistinct-from_sorted}
use Rattle.std.proofs.lemmas.Map.Views.{All-values_from_lookup, IfSome-lookup_from_All}
use Rattle.st_ids.specs.Listing.{Has}
use Rattle.st_ids.specs.Order.{node_cmp, same_cell, same_rev}
use Rattle.st_ids.specs.declared.names.CellId.{CellId}
use Rattle.st_ids.specs.declared.names.NodeId.{NodeId}
use Rattle.st_ids.proofs.Orders.{node_cmp_total, same_cell-itself, same_cell-true, same_rev-itself}
use Rattle.st_lemmas.proofs.Bools.{and-both, and-first, and-second, not-true, refuted-false, true-false}
use Rattle.st_marks.specs.declared.changes.Change.{Change}
use Rattle.st_marks.specs.declared.marks.RowMarks.{RowMarks}
use Rattle.st_marks.specs.declared.places.Slot.{Slot}
use Rattle.st_marks.specs.declared.steps.Step.{Step}
use Rattle.st_marks.specs.Document.{Document, IsSoundInForm, owned_cell, slot}
use Rattle.st_marks.specs.Listings.{cells_made, is_among_cells}
use Rattle.st_marks.specs.Row.{CellMark, Counted, Gap, Touch, Make, Fill, spread}
use Rattle.st_marks.proofs.Members.{all-has, any-has, has-all, has-any, has-map, map-has}
use Rattle.st_normal.specs.Rules.{ObeysChangeRules, ObeysDataRules, ObeysSchemaRules, in_rows}
use Rattle.st_forest.specs.declared.forest.Forest.{Forest}
use Rattle.st_forest.specs.Stands.{StandsFor}
use Rattle.st_author_laws.specs.Back.{row_of_back}
use Rattle.st_author_over.specs.inside.Seen.{IsFree, makes_anew, slots_in}
use Rattle.st_author_over.specs.inside.Side.{is_make}
use Rattle.st_author_over.proofs.Found.{made_first}

-- ## Whether a cell is in a list

among-cell : (cs : List CellId) (c : CellId) → is_among_cells cs c ≡ true → Has cs c
among-cell cs c e = let r = any-has (λ d. same_cell d c) cs e in subst (Has cs) (same_cell-true r.0 c r.2) r.1

cell-among : (cs : List CellId) (c : CellId) → Has cs c → is_among_cells cs c ≡ true
cell-among cs c h = has-any (λ d. same_cell d c) cs c h (same_cell-itself c)

-- ## A change that makes no cells

none-made : (ms : List CellMark) → list_any is_make ms ≡ false → cells_made ms ≡ []
none-made [] e = refl
none-made (Counted ∷ ms) e = none-made ms e
none-made (Gap c ∷ ms) e = none-made ms e
none-made (Touch c n h ∷ ms) e = none-made ms e
none-made (Make c n b ∷ ms) e = cc
none-made (Fill c n ∷ ms) e = none-made ms e

no-first : (a b : Bool) → (a || b) ≡ false → a ≡ false
no-first true b e = cc
no-first false b e = refl

no-second : (a b : Bool) → (a || b) ≡ false → b ≡ false
no-second true b e = cc
no-second false b e = e

none-among : (rs : List RowMarks) (c : CellId) → list_any (λ (r : RowMarks). list_any is_make (spread r.marks)) rs ≡ false → is_among_cells (in_rows cells_made rs) c ≡ false
none-among [] c e = refl
none-among (r ∷ rs) c e =
    made_first r rs c
    ∙ (λ i. is_among_cells (none-made (spread r.marks) (no-first _ _ e) i) c || none-among rs c (no-second _ _ e) i)

all-free : (S : Step) (C : Change) → ((c : CellId) → is_among_cells (in_rows cells_made C.rows) c ≡ false) → (d : List Slot) → IsFree S C d
all-free S C none d = has-all (λ (s : Slot). makes_anew S C s.cell ≡ false) d (λ s h. refuted-false _ (λ t. true-false (and-first _ _ (and-second _ _ t)) (none s.cell)))

pub quiet_is_free : (S : Step) (C : Change) (b : Bool) → b ≡ list_any (λ (r : RowMarks). list_any is_make (spread r.marks)) C.rows → b ≡ false → (d : List Slot) → IsFree S C d
quiet_is_free S C b e f d = all-free S C (λ c. none-among C.rows c (sym e ∙ f)) d

-- ## The rows of a map, one by one and by name

pub free_by_name : (F : Forest) (S : Step) (C : Change) → IsOrdered node_cmp F.rows → AllByRecursion (IsFree S C) (values F.rows) ↔ ((n : NodeId) → IsFree S C (slots_in F n))
free_by_name F S C ordered = (
  λ a n. there n (get node_cmp F.rows n) (IfSome-lookup_from_All (IsFree S C) _ F.rows.entries (All-from_recursion (IsFree S C) (values F.rows) a)),
  λ h. recursion_from_All (IsFree S C) (values F.rows) (All-values_from_lookup (eq_by_cmp_equiv node_cmp_total) (IsFree S C) F.rows.entries (IsDistinct-from_sorted node_cmp _ ordered) (λ n. back (get node_cmp F.rows n) (h n))),
)
  where
    there : (n : NodeId) (o : Option (List Slot)) → IfSome o (IsFree S C) → IsFree S C (unwrap_or o [])
    there n None i = tt
    there n (Some d) i = i

    back : (o : Option (List Slot)) → IsFree S C (unwrap_or o []) → IfSome o (IsFree S C)
    back None i = tt
    back (Some d) i = i

-- ## The document's rows

-- a cell that the change makes is in no row before the step
abbrev pub CellsAreNew : Step → Document → Change → Type 0
CellsAreNew S T C = (c : CellId) → Has (in_rows cells_made C.rows) c → row_of_back S T c ≡ None

module _ (F : Forest) (T : Document) (stands : StandsFor F T) (sound : IsSoundInForm T) (S : Step) (C : Change) where
  -- a cell in no row of the forest
  pub free_are_new : ((c : CellId) → Has (in_rows cells_made C.rows) c → c.0.rev ≡ C.rev) → ((n : NodeId) → IsFree S C (slots_in F n)) → CellsAreNew S T C
  free_are_new own free c h = go (is_among_cells (in_rows cells_made S.rows) c) refl
    where
      nowhere : is_among_cells (in_rows cells_made S.rows) c ≡ false → (o : Option NodeId) → T.row_of c ≡ o → o ≡ None
      nowhere f None e = refl
      nowhere f (Some n) e =
          let r = (sound.one_row c n).0 e in
          let there : Has (slots_in F n) (slot T (owned_cell c r.0)) = subst (λ d. Has d (slot T (owned_cell c r.0))) (sym (stands.rows n)) (map-has (slot T) (T.rows n) (owned_cell c r.0) r.1) in
          let made : makes_anew S C c ≡ true = and-both _ _ (ap (same_rev c.0.rev) (sym (own c h)) ∙ same_rev-itself c.0.rev) (and-both _ _ (cell-among _ c h) (ap not f)) in
          absurd (true-false made (all-has (λ (s : Slot). makes_anew S C s.cell ≡ false) (slots_in F n) (slot T (owned_cell c r.0)) (free n) there))

      go : (b : Bool) → is_among_cells (in_rows cells_made S.rows) c ≡ b → row_of_back S T c ≡ None
      go true e = ap (λ b. if b then None else T.row_of c) e
      go false e = ap (λ b. if b then None else T.row_of c) e ∙ nowhere e (T.row_of c) refl

  pub new_are_free : CellsAreNew S T C → (n : NodeId) → IsFree S C (slots_in F n)
  new_are_free new n = has-all (λ (s : Slot). makes_anew S C s.cell ≡ false) (slots_in F n) (λ s h. refuted-false _ (λ t. go s h t))
    where
      go : (s : Slot) → Has (slots_in F n) s → makes_anew S C s.cell ≡ true → ⊥
      go s h t =
          let o = has-map (slot T) (T.rows n) s (subst (λ d. Has d s) (stands.rows n) h) in
          let p = and-second (same_rev s.cell.0.rev C.rev) (is_among_cells (in_rows cells_made C.rows) s.cell && not (is_among_cells (in_rows cells_made S.rows) s.cell)) t in
          let made = among-cell (in_rows cells_made C.rows) s.cell (and-first (is_among_cells (in_rows cells_made C.rows) s.cell) (not (is_among_cells (in_rows cells_made S.rows) s.cell)) p) in
          let kept = and-second (is_among_cells (in_rows cells_made C.rows) s.cell) (not (is_among_cells (in_rows cells_made S.rows) s.cell)) p in
          let row : T.row_of s.cell ≡ Some n = (sound.one_row s.cell n).1 (o.0.node, subst (λ (q : CellId). Has (T.rows n) (owned_cell q o.0.node)) (ap (λ (z : Slot). z.cell) o.2) o.1) in
          let back : row_of_back S T s.cell ≡ T.row_of s.cell = ap (λ b. if b then None else T.row_of s.cell) (not-true (is_among_cells (in_rows cells_made S.rows) s.cell) kept) in
          none-some (sym (new s.cell made) ∙ back ∙ row)
        where
          none-some : {A : Type 0} {x : A} → None ≡ Some x → ⊥
          none-some e = cc

-- the cells that a change makes have its revision
pub own_cells : (C : Change) → ObeysChangeRules C → (c : CellId) → Has (in_rows cells_made C.rows) c → c.0.rev ≡ C.rev
own_cells C rules c h = go C.schema rules
  where
    go : (o : Option (List ℕ)) → MatchOption o (ObeysDataRules C) (λ _. ObeysSchemaRules C) → c.0.rev ≡ C.rev
    go None r = all-has (λ (d : CellId). d.0.rev ≡ C.rev) (in_rows cells_made C.rows) c r.revision.1 h
    go (Some s) r = absurd (subst (λ rs. Has (in_rows cells_made rs) c) r.alone.2 h)
