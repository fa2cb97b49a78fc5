-- What the step that a change is told as shows, and what the change does.
use Rattle.std.proofs.Common.{◌≡◌, Bool, true, false, ◌&&◌, cond, List, [], ◌∷◌, ◌++◌, map, Option, Some, None, option_map, refl, ap, ◌∙◌}
use mathlib.Core.Path.{fun_ext}
use Rattle.std.specs.Ordering.{is_eq, is_lt}
use Rattle.std.specs.declared.cmp.Ordering.{Ordering}
use Rattle.std.specs.FinMap.Entries.{below_all, is_sorted}
use Rattle.st_ids.specs.Listing.{IsRising, item_of, key_pairs}
use Rattle.st_ids.specs.Order.{field_cmp}
use Rattle.st_ids.specs.declared.names.FieldId.{FieldId}
use Rattle.st_ids.specs.declared.names.NodeId.{NodeId}
use Rattle.st_marks.specs.declared.changes.Change.{Change}
use Rattle.st_marks.specs.declared.marks.RegMark.{RegMark}
use Rattle.st_marks.specs.declared.marks.RegStep.{RegStep}
use Rattle.st_marks.specs.declared.places.Spot.{Spot}
use Rattle.st_marks.specs.Listings.{Listing, Names, Places, listing_after_change, listing_after_step, listing_before_change, listing_before_step, names_of_step, nodes_loose, nodes_new, nowhere_after, placed_after, placed_before, registers_after, rows_after}
use Rattle.st_marks.specs.Listings.Places.{placed_in_row, placed_in_register, placed_nowhere}
use Rattle.st_part_rings.specs.Told.{register_over, step_of}

-- ## A list that is mapped, name by name

module _ {K A B : Type 0} (R : K → K → Ordering) (key : A → K) (name : B → K) (f : A → B) (keeps : (x : A) → name (f x) ≡ key x) where
  pub item_of-map : (xs : List A) (k : K) → item_of R name (map f xs) k ≡ option_map f (item_of R key xs k)
  item_of-map [] k = refl
  item_of-map (x ∷ xs) k = (λ i. cond (is_eq (R k (keeps x i))) (Some (f x)) (item_of-map xs k i)) ∙ go (is_eq (R k (key x)))
    where
      go : (b : Bool) → cond b (Some (f x)) (option_map f (item_of R key xs k)) ≡ option_map f (cond b (Some x) (item_of R key xs k))
      go true = refl
      go false = refl

  below-map : (xs : List A) (k : K) → below_all R k (key_pairs name (map f xs)) ≡ below_all R k (key_pairs key xs)
  below-map [] k = refl
  below-map (x ∷ xs) k = λ i. is_lt (R k (keeps x i)) && below-map xs k i

  pub rising-map : (xs : List A) → is_sorted R (key_pairs name (map f xs)) ≡ is_sorted R (key_pairs key xs)
  rising-map [] = refl
  rising-map (x ∷ xs) = λ i. (ap (λ j. below_all R j (key_pairs name (map f xs))) (keeps x) ∙ below-map xs (key x)) i && rising-map xs i

map-map : {A B C : Type 0} (g : B → C) (f : A → B) (xs : List A) → map g (map f xs) ≡ map (λ x. g (f x)) xs
map-map g f [] = refl
map-map g f (x ∷ xs) = ap (λ l. g (f x) ∷ l) (map-map g f xs)

option-map : {A B C : Type 0} (g : B → C) (f : A → B) (o : Option A) → option_map g (option_map f o) ≡ option_map (λ x. g (f x)) o
option-map g f None = refl
option-map g f (Some x) = refl

-- ## The same listings, but for the names

-- a listing with other names
abbrev pub told_by : Listing → Names → Listing
told_by L N = record { row = L.row; register = L.register; nowhere = L.nowhere; names = N }

module _ (C : Change) where
  register_is : {V : Type 0} (g : RegStep → V) (f : FieldId) → option_map g (item_of field_cmp (λ (r : RegStep). r.field) (map register_over C.regs) f) ≡ option_map (λ (r : RegMark). g (register_over r)) (item_of field_cmp (λ (r : RegMark). r.field) C.regs f)
  register_is g f = ap (option_map g) (item_of-map field_cmp (λ (r : RegMark). r.field) (λ (r : RegStep). r.field) register_over (λ r. refl) C.regs f) ∙ option-map g register_over (item_of field_cmp (λ (r : RegMark). r.field) C.regs f)

  pub same_before : listing_before_step (step_of C) ≡ told_by (listing_before_change C) (names_of_step (step_of C))
  same_before = λ i. record {
    row = (listing_before_change C).row;
    register = fun_ext (λ f. register_is (λ (r : RegStep). r.before) f) i;
    nowhere = (listing_before_change C).nowhere;
    names = names_of_step (step_of C);
  }

  pub same_after : listing_after_step (step_of C) ≡ told_by (listing_after_change C) (names_of_step (step_of C))
  same_after = λ i. record {
    row = rows_after C.rows C.new;
    register = λ f. registers_after (register_is (λ (r : RegStep). r.after) f i) C.new f;
    nowhere = nowhere_after (nodes_new C.new ++ nodes_loose C.loose ++ placed_before C.rows (map-map (λ (r : RegStep). r.before) register_over C.regs i)) (placed_after C.rows (map-map (λ (r : RegStep). r.after) register_over C.regs i));
    names = names_of_step (step_of C);
  }

  pub registers_rise : IsRising field_cmp (λ (r : RegMark). r.field) C.regs → IsRising field_cmp (λ (r : RegStep). r.field) (step_of C).regs
  registers_rise h = rising-map field_cmp (λ (r : RegMark). r.field) (λ (r : RegStep). r.field) register_over (λ r. refl) C.regs ∙ h

pub places_told : (L : Listing) (N : Names) (n : NodeId) (s : Spot) → Places (told_by L N) n s → Places L n s
places_told L N n s (placed_in_row r m c cells k e at) = placed_in_row r m c cells k e at
places_told L N n s (placed_in_register f m e) = placed_in_register f m e
places_told L N n s (placed_nowhere m e) = placed_nowhere m e

pub told_places : (L : Listing) (N : Names) (n : NodeId) (s : Spot) → Places L n s → Places (told_by L N) n s
told_places L N n s (placed_in_row r m c cells k e at) = placed_in_row r m c cells k e at
told_places L N n s (placed_in_register f m e) = placed_in_register f m e
told_places L N n s (placed_nowhere m e) = placed_nowhere m e
