-- Worked cases of what is refused: changes and steps that aren't normal, an intent that doesn't lead back, and arguments
-- that don't agree.
use Rattle.std.proofs.Common.{◌≡◌, ◌≢◌, ◌<◌, arith, ℕ, zero, suc, Bool, true, false, List, [], ◌∷◌, ◌++◌, Option, Some, None, refl, sym, ap, subst, inl, inr}
use Rattle.std.specs.Ordering.{nat_cmp, ordering_then, is_lt}
use Rattle.std.specs.Cmp.{nat_cmp_is}
use Rattle.std.specs.Cmp.Lexicographic.{slice_cmp}
use Rattle.std.specs.declared.cmp.Ordering.{Ordering}
use Rattle.std.specs.declared.cmp.Ordering.TheVariants.{Less, Equal, Greater}
use Rattle.st_ids.specs.Listing.{AreDistinct, Has}
use Rattle.st_ids.specs.Order.{field_cmp, same_node, same_cell, same_field}
use Rattle.st_ids.specs.declared.names.FieldId.{FieldId}
use Rattle.st_ids.specs.declared.names.NodeId.{NodeId}
use Rattle.st_ids.specs.declared.names.Rev.{Rev}
use Rattle.st_marks.specs.declared.changes.Change.{Change}
use Rattle.st_marks.specs.declared.intents.Intent.{Intent}
use Rattle.st_marks.specs.declared.intents.Put.{Put}
use Rattle.st_marks.specs.declared.intents.To.{To}
use Rattle.st_marks.specs.declared.marks.How.TheVariants.{Stay, Leave}
use Rattle.st_marks.specs.declared.marks.Mark.{Mark}
use Rattle.st_marks.specs.declared.places.Spot.{Spot}
use Rattle.st_marks.specs.declared.schemas.SchemaEntry.{SchemaEntry}
use Rattle.st_marks.specs.declared.steps.Step.{Step}
use Rattle.st_marks.specs.Document.{Document, last_of, revs, CanBeInEffect}
use Rattle.st_ids.specs.Root.{root, opening}
use Rattle.st_marks.specs.Verdict.{HasBase}
use Rattle.st_marks.specs.Back.{IsBack}
use Rattle.st_marks.specs.Normal.{IsNormalChange, IsNormalStep}
use Rattle.st_marks.specs.Listings.{placed_in_row, placed_nowhere, listing_before_change, listing_after_change}
use Rattle.st_marks.specs.Agree.{Differs, node_twice, cell_again, owned_early, ComposeClash, IsApartAt, row_field}
use Rattle.st_marks.proofs.Members.{all-has, append_right}
use Rattle.st_marks.proofs.Worked.{node, cell, old, old_cell, rev, field, new, puts, opening_entry}

-- ## Not normal

-- a change of data under the opening's schema, which is always in effect, that says that it isn't
abbrev odd : Change
odd = record { rev = rev 2 1; under = opening; base = false; need = []; new = []; rows = []; regs = []; loose = []; schema = None }

opening_in_effect : (es : List SchemaEntry) → CanBeInEffect es → Has (revs es) opening
opening_in_effect [] a = let bad : None ≡ Some opening = a.begun in cc
opening_in_effect (e ∷ es) a = inl (let q : Some e.rev ≡ Some opening = a.begun in cc)

base_of_odd : (es : List SchemaEntry) (schema : Option (List ℕ)) (under : Rev) → CanBeInEffect es → None ≡ schema → opening ≡ under → HasBase es schema under
base_of_odd es None under a e f = subst (Has (revs es)) f (opening_in_effect es a)
base_of_odd es (Some t) under a e f = cc

odd_is_not_normal : IsNormalChange odd → ⊥
odd_is_not_normal h =
    let D = h.0 in
    let N = h.1 in
    let e = h.5 in
    let bad : ◌≡◌ {A = Bool} false true = e.base.1 (base_of_odd D.schemas N.schema N.under h.2.in_effect e.schema e.under) in cc

-- a step that takes the opening's schema away
abbrev forgets : Step
forgets = record { new = []; rows = []; regs = []; loose = []; schema = Some (record { on = rev 1 1; cut = opening_entry ∷ []; add = [] }) }

opening_is_first : (front es : List SchemaEntry) → CanBeInEffect es → es ≡ front ++ opening_entry ∷ [] → last_of (revs front) ≡ Some (rev 1 1) → ⊥
opening_is_first [] es a e f = cc
opening_is_first (d ∷ front) es a e f =
    let b = subst CanBeInEffect e a in
    let first : d.rev ≡ opening = let q : Some d.rev ≡ Some opening = b.begun in cc in
    all-has (λ (x : SchemaEntry). x.rev ≢ d.rev) (front ++ opening_entry ∷ []) opening_entry b.once.0 (append_right front (opening_entry ∷ []) opening_entry (inl refl)) (sym first)

forgets_is_not_normal : IsNormalStep forgets → ⊥
forgets_is_not_normal h =
    let s = h.3.schema in
    opening_is_first s.0 h.0.schemas h.2.before.in_effect s.1 s.3

-- ## Not back

-- an intent that puts one node twice
not_back : (D E : Document) (r u : Rev) (B : Intent) (n : NodeId) (a b : To) (ps : List Put) → B.put ≡ puts n a ∷ puts n b ∷ ps → IsBack D E r u B → ⊥
not_back D E r u B n a b ps e h = (subst (λ l. AreDistinct (λ (p : Put). p.node) l) e h.itself.put_once).0.0 refl

-- ## Not agreeing

-- no field is before the root's row
not_less : (n : ℕ) → is_lt (nat_cmp n 0) ≡ false
not_less zero = refl
not_less (suc n) = let positive : 0 < suc n = omega arith in sym (ap is_lt (nat_cmp_is (suc n) 0 Greater positive))

then_not_less : (a b : Ordering) → is_lt a ≡ false → is_lt b ≡ false → is_lt (ordering_then a b) ≡ false
then_not_less Less b e f = cc
then_not_less Equal b e f = f
then_not_less Greater b e f = refl

root_is_first : (f : FieldId) → is_lt (field_cmp f (row_field root)) ≡ false
root_is_first f = then_not_less _ _ (then_not_less _ _ (then_not_less _ _ (not_less f.node.0.rev.session) (not_less f.node.0.rev.num)) (not_less f.node.0.at)) (key f.key.0)
  where
    key : (bs : List ℕ) → is_lt (slice_cmp nat_cmp bs []) ≡ false
    key [] = refl
    key (b ∷ bs) = refl

abbrev step : List Rattle.st_marks.specs.declared.changes.NewNode.NewNode → List Rattle.st_marks.specs.declared.marks.RowMarks.RowMarks → List Rattle.st_marks.specs.declared.marks.Loose.Loose → Step
step made rows loose = record { new = made; rows = rows; regs = []; loose = loose; schema = None }

-- the second finds the old cell 0.0.5 as that of a node that the first makes
abbrev makes_owner : Step
makes_owner = step (new (node 1 1 0) ∷ []) (record { node = root; marks = Mark.Gap (old_cell 5) ∷ Mark.Make (cell 1 1 1) (node 1 1 0) false ∷ [] } ∷ []) []

abbrev fills_old : Step
fills_old = step [] (record { node = root; marks = Mark.Fill (old_cell 5) (node 1 1 0) ∷ Mark.Gap (cell 1 1 1) ∷ [] } ∷ []) (record { node = node 1 1 0; how = Leave } ∷ [])

owned_too_early : IsApartAt (ComposeClash makes_owner fills_old) (row_field root)
unfolding same_node same_cell
owned_too_early = (inr (inr (inl (owned_early (old_cell 5) (node 1 1 0) root root 0 (record { cells = _; full = false; listed = refl; at_place = refl }) refl refl refl))), λ f h. root_is_first f)

-- the second makes a cell that the first names, in another row: both rows are named, of which the root's is shown
abbrev names_cell : Step
names_cell = step [] (record { node = root; marks = Mark.Gap (old_cell 5) ∷ Mark.Touch (old_cell 6) (old 3) Leave ∷ [] } ∷ []) []

abbrev makes_cell : Step
makes_cell = step [] (record { node = old 3; marks = Mark.Make (old_cell 5) (old 9) false ∷ [] } ∷ []) (record { node = old 3; how = Stay } ∷ [])

made_again : IsApartAt (ComposeClash names_cell makes_cell) (row_field root)
unfolding same_node same_cell
made_again = (inr (inl (cell_again (old_cell 5) root root refl refl refl)), λ f h. root_is_first f)

also_named : ComposeClash names_cell makes_cell (row_field (old 3))
unfolding same_node same_cell
also_named = inr (inl (cell_again (old_cell 5) root (old 3) refl refl refl))

-- the first clears a register and so evicts 0.0.2; the second finds that in the root's row
abbrev evicts : Change
evicts = record { rev = rev 1 1; under = opening; base = true; need = []; new = []; rows = []; regs = record { field = field root; held = Some (old 2); how = Stay; clear = true; fill = None } ∷ []; loose = []; schema = None }

abbrev finds : Change
finds = record { rev = rev 1 1; under = opening; base = true; need = []; new = []; rows = record { node = root; marks = Mark.Touch (old_cell 1) (old 2) Leave ∷ [] } ∷ []; regs = []; loose = []; schema = None }

evicted_elsewhere : Differs (listing_after_change evicts) (listing_before_change finds) (row_field root)
unfolding same_node same_cell same_field
evicted_elsewhere = node_twice (old 2) Spot.Nowhere (Spot.Row root (old_cell 1)) (placed_nowhere (old 2) refl)
    (placed_in_row root (old 2) (old_cell 1) _ 0 refl refl) (λ e. cc) (row_field root) (inr refl)
