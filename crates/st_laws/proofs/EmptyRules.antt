-- The step and the change that change nothing are in normal form, and have room in rows beside each that is.
use Rattle.std.proofs.Common.{◌≡◌, ◌<◌, ◌^◌, ℕ, false, List, [], Option, Some, None, MatchOption, length, refl, sym, subst, arith}
use Rattle.std.specs.List.{AllByRecursion}
use Rattle.std.specs.Option.{option_map_or}
use Rattle.st_ids.proofs.Listings.{item_of-has}
use Rattle.st_ids.proofs.Orders.{node_cmp_total, node_cmp_exact}
use Rattle.st_ids.specs.Listing.{item_of}
use Rattle.st_ids.specs.Order.{node_cmp}
use Rattle.st_ids.specs.declared.names.FieldId.{FieldId}
use Rattle.st_ids.specs.declared.names.NodeId.{NodeId}
use Rattle.st_ids.specs.declared.names.Rev.{Rev}
use Rattle.st_marks.specs.declared.changes.Change.{Change}
use Rattle.st_marks.specs.declared.marks.RowMarks.{RowMarks}
use Rattle.st_marks.specs.declared.places.Spot.{Spot}
use Rattle.st_marks.specs.declared.steps.Step.{Step}
use Rattle.st_marks.specs.Agree.{LeadsUp, one_up, further_up}
use Rattle.st_marks.specs.Listings.{Listing, Places, cells_after, cells_before, cells_made, listing_after_step, listing_before_change, listing_before_step, marks_of, placed_in_row, placed_in_register, placed_nowhere}
use Rattle.st_marks.specs.Row.{CellMark, spread}
use Rattle.st_marks.proofs.Members.{all-has}
use Rattle.st_moves.specs.Room.{HasRoomInRows}
use Rattle.st_normal.specs.Rules.{IsNewInNew, ObeysChangeRules, ObeysDataRules, ObeysSchemaRules, ObeysStepRules}
use Rattle.st_rows.proofs.KindLaws.{made_or_found}
use Rattle.st_rows.proofs.ShortRows.{all_after}
use Rattle.st_rows.specs.Changes.{may_list}
use Rattle.st_laws.specs.Empty.{empty_change, nothing}

-- ## No place is shown

nowhere-up : (At : NodeId → Spot → Type 0) → ((n : NodeId) (s : Spot) → At n s → ⊥) → (n m : NodeId) → LeadsUp At n m → ⊥
nowhere-up At none n m (one_up s h up) = none n s h
nowhere-up At none n m (further_up s h up rest) = none n s h

unplaced : (L : Listing) → ((n : NodeId) → L.row n ≡ None) → ((f : FieldId) → L.register f ≡ None) → ((n : NodeId) → L.nowhere n ≡ false) → (n : NodeId) (s : Spot) → Places L n s → ⊥
unplaced L row register loose n s (placed_in_row q m c cells k e f) = let g : L.row q ≡ None = row q in cc
unplaced L row register loose n s (placed_in_register f m e) = let g : L.register f ≡ None = register f in cc
unplaced L row register loose n s (placed_nowhere m e) = let g : L.nowhere m ≡ false = loose m in cc

-- ## The rules

pub nothing_obeys : ObeysStepRules nothing
nothing_obeys = record {
  common = record { merged = tt; tells = tt; short = tt; cells_once = tt; new_rows = tt; found_once = tt; put_once = tt; put_leave = tt; new_not_found = tt; root_stays = ((λ h. absurd h), (λ h. absurd h)); filled_old = tt; fields_found = tt; keys = tt };
  rising = record { new = refl; rows = refl; regs = refl; loose = refl };
  set_nowhere = tt;
  registers_tell = tt;
  new_registers = tt;
  loose_put = tt;
  mentioned = tt;
  no_ring = record {
    before = λ n. nowhere-up (Places (listing_before_step nothing)) (unplaced (listing_before_step nothing) (λ n. refl) (λ f. refl) (λ n. refl)) n n;
    after = λ n. nowhere-up (Places (listing_after_step nothing)) (unplaced (listing_after_step nothing) (λ n. refl) (λ f. refl) (λ n. refl)) n n;
  };
  schema = tt;
}

empty_obeys_data : (rev under : Rev) → ObeysDataRules (empty_change rev under)
empty_obeys_data rev under = record {
  common = record { merged = tt; tells = tt; short = tt; cells_once = tt; new_rows = tt; found_once = tt; put_once = tt; put_leave = tt; new_not_found = tt; root_stays = ((λ h. absurd h), (λ h. absurd h)); filled_old = tt; fields_found = tt; keys = tt };
  rising = record { need = refl; new = refl; rows = refl; regs = refl; loose = refl };
  revision = (tt, tt);
  holes = tt;
  cleared = tt;
  registers_fit = tt;
  registers_tell = tt;
  new_registers = tt;
  loose_put = tt;
  needed = tt;
  mentioned = tt;
  no_ring = λ n. nowhere-up (Places (listing_before_change (empty_change rev under))) (unplaced (listing_before_change (empty_change rev under)) (λ n. refl) (λ f. refl) (λ n. refl)) n n;
  no_new_ring = λ n. nowhere-up (IsNewInNew (empty_change rev under)) (λ n s h. absurd h.0) n n;
  base = λ e. refl;
}

pub empty_obeys_rules : (rev under : Rev) → ObeysChangeRules (empty_change rev under)
empty_obeys_rules rev under = empty_obeys_data rev under

-- ## Room in rows

abbrev IsShort : RowMarks → Type 0
IsShort r = (length (cells_before (spread r.marks)) < 2 ^ 32) × (length (cells_after (spread r.marks)) < 2 ^ 32)

some-room : 0 < 2 ^ 32
some-room = omega arith

few-cells : (xs : List CellMark) → length (cells_after xs) ≡ length xs → length (cells_after xs) < 2 ^ 32 → length xs < 2 ^ 32
few-cells xs after few = omega (arith, after, few)

few-marks : (rows : List RowMarks) (n : NodeId) → AllByRecursion IsShort rows → length (marks_of rows n) < 2 ^ 32
few-marks rows n short = go (item_of node_cmp (λ (r : RowMarks). r.node) rows n) refl
  where
    go : (o : Option RowMarks) → item_of node_cmp (λ (r : RowMarks). r.node) rows n ≡ o → length (option_map_or (λ (r : RowMarks). spread r.marks) o []) < 2 ^ 32
    go None e = some-room
    go (Some r) e =
        let after = all_after (spread r.marks) in
        let few = (all-has IsShort rows r short (item_of-has node_cmp node_cmp_total node_cmp_exact (λ (q : RowMarks). q.node) rows n r e).0).1 in
        few-cells (spread r.marks) after few

beside-none : (xs : List CellMark) → length xs < 2 ^ 32 → (may_list [] xs < 2 ^ 32) × (may_list xs [] < 2 ^ 32)
beside-none xs few =
    let all = made_or_found xs in
    let made : length (cells_made []) ≡ 0 = refl in
    let found : length (cells_before []) ≡ 0 = refl in
    (omega (arith, all, made, few), omega (arith, all, made, found, few))

pub empty_has_room : (rev under : Rev) (S : Step) → ObeysStepRules S → HasRoomInRows (empty_change rev under) S
empty_has_room rev under S o = λ n. beside-none (marks_of S.rows n) (few-marks S.rows n o.common.short)

pub nothing_has_room : (C : Change) → ObeysChangeRules C → HasRoomInRows C nothing
nothing_has_room C o = λ n. let r = beside-none (marks_of C.rows n) (few-marks C.rows n (short C.schema o)) in (r.1, r.0)
  where
    short : (s : Option (List ℕ)) → MatchOption s (ObeysDataRules C) (λ _. ObeysSchemaRules C) → AllByRecursion IsShort C.rows
    short None d = d.common.short
    short (Some t) d = subst (λ (rows : List RowMarks). AllByRecursion IsShort rows) (sym d.alone.2) tt
