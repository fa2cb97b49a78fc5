-- Rows of a change and a step that pass each other.
use Rattle.std.proofs.Common.{◌≡◌, Bool, true, false, not, ◌&&◌, ◌||◌, List, [], ◌∷◌, map, Option, Some, None, cond, refl, sym, ap, ◌∙◌}
use Rattle.std.specs.List.{AllByRecursion}
use Rattle.st_ids.specs.declared.names.CellId.{CellId}
use Rattle.st_ids.specs.declared.names.NodeId.{NodeId}
use Rattle.st_kind.specs.Named.{Nodes}
use Rattle.st_marks.specs.declared.intents.To.{To}
use Rattle.st_marks.specs.declared.marks.How.TheVariants.{Stay, Here, Leave}
use Rattle.st_marks.specs.How.{is_here}
use Rattle.st_marks.specs.Row.{CellMark, Counted, Gap, Touch, Make, Fill, how, same_to}
use Rattle.st_rows.specs.Changes.{full_after}
use Rattle.st_rows.specs.Walks.{CellPiece, Both, First, Then, beside}
use Rattle.st_passing.specs.Passing.{AreAside, DoesNotMeet, IsAside, IsFree, IsNamed, IsUnseen, all_pass, first_kept, piece_passes, raised, raised_beside, then_kept, trimmed}
use Rattle.st_reading.specs.Bridge.{crossed_piece, crossed_row, target_by, turned}
use Rattle.st_reading.specs.Over.{empty_cell, full_cell, over_piece, over_row}
use Rattle.st_read_laws.specs.Reading.{read}

unequal : {P : Type 0} → false ≡ true → P
unequal e = cc

-- where empty cells are counted
thin_gap : (l : Bool) → not l ≡ true → (c : CellId) → read l (Gap c) ≡ Counted
thin_gap true h c = unequal h
thin_gap false h c = refl

-- ## The change over the step

module _ (l : Bool) (t : NodeId → Option To) (m k : Nodes) where
  unseen_full : (c : CellId) (n : NodeId) → m n ≡ false → full_cell t m c n ≡ Counted
  unseen_full c n h = ap (λ b. cond b (Touch c n (how (t n) (To.Cell c))) Counted) h

  unseen_empty : (c : CellId) (n : NodeId) → t n ≡ None → empty_cell l t c n ≡ read l (Gap c)
  unseen_empty c n h = ap (λ o. cond (is_here (how o (To.Cell c))) (Fill c n) (read l (Gap c))) h

  said_full : (c : CellId) (n : NodeId) (h : _) → m n ≡ true → how (t n) (To.Cell c) ≡ h → full_cell t m c n ≡ Touch c n h
  said_full c n h e f = ap (λ b. cond b (Touch c n (how (t n) (To.Cell c))) Counted) e ∙ ap (λ i. Touch c n i) f

  unseen_made : (c : CellId) (n : NodeId) (b : Bool) → (b || not l) ≡ true → IsUnseen t m (Make c n b) → over_piece l t m (Then (Make c n b)) ≡ Counted
  unseen_made c n true h a = unseen_full c n a.0
  unseen_made c n false h a = ap (λ b. cond b (Fill c n) (read l (Gap c))) a ∙ thin_gap l h c

  over_passes : (p : CellPiece) → piece_passes l p ≡ true → IsAside t m k p → over_piece l t m p ≡ read l (first_kept p)
  over_passes (Both Counted Counted) h a = refl
  over_passes (Both Counted (Gap d)) h a = refl
  over_passes (Both Counted (Touch d j Stay)) h a = unseen_full d j a.2.0
  over_passes (Both Counted (Touch d j Here)) h a = unequal h
  over_passes (Both Counted (Touch d j Leave)) h a = unseen_empty d j a.2.1 ∙ thin_gap l h d
  over_passes (Both Counted (Make d j b)) h a = unequal h
  over_passes (Both Counted (Fill d j)) h a = unseen_full d j a.2.0
  over_passes (Both (Gap c) Counted) h a = refl
  over_passes (Both (Gap c) (Gap d)) h a = refl
  over_passes (Both (Gap c) (Touch d j i)) h a = unequal h
  over_passes (Both (Gap c) (Make d j b)) h a = unequal h
  over_passes (Both (Gap c) (Fill d j)) h a = unseen_full d j a.2.0 ∙ sym (thin_gap l h c)
  over_passes (Both (Touch c n Leave) Counted) h a = said_full c n Leave a.0.0 a.0.1
  over_passes (Both (Touch c n Leave) (Gap d)) h a = unequal h
  over_passes (Both (Touch c n Leave) (Touch d j i)) h a = unequal h
  over_passes (Both (Touch c n Leave) (Make d j b)) h a = unequal h
  over_passes (Both (Touch c n Leave) (Fill d j)) h a = unequal h
  over_passes (Both (Touch c n Stay) Counted) h a = said_full c n Stay a.0.0 a.0.1
  over_passes (Both (Touch c n Stay) (Gap d)) h a = unequal h
  over_passes (Both (Touch c n Stay) (Touch d j Stay)) h a = (λ i. full_cell t m (sym a.2.0 i) (sym a.2.1 i)) ∙ said_full c n Stay a.0.0 a.0.1
  over_passes (Both (Touch c n Stay) (Touch d j Here)) h a = unequal h
  over_passes (Both (Touch c n Stay) (Touch d j Leave)) h a = unequal h
  over_passes (Both (Touch c n Stay) (Make d j b)) h a = unequal h
  over_passes (Both (Touch c n Stay) (Fill d j)) h a = unequal h
  over_passes (Both (Touch c n Here) Counted) h a = said_full c n Here a.0.0 a.0.1
  over_passes (Both (Touch c n Here) (Gap d)) h a = unequal h
  over_passes (Both (Touch c n Here) (Touch d j Stay)) h a = (λ i. full_cell t m (sym a.2.0 i) (sym a.2.1 i)) ∙ said_full c n Here a.0.0 a.0.1
  over_passes (Both (Touch c n Here) (Touch d j Here)) h a = unequal h
  over_passes (Both (Touch c n Here) (Touch d j Leave)) h a = unequal h
  over_passes (Both (Touch c n Here) (Make d j b)) h a = unequal h
  over_passes (Both (Touch c n Here) (Fill d j)) h a = unequal h
  over_passes (Both (Make c n b) y) h a = unequal h
  over_passes (Both (Fill c n) Counted) h a = refl
  over_passes (Both (Fill c n) (Gap d)) h a = refl
  over_passes (Both (Fill c n) (Touch d j i)) h a = unequal h
  over_passes (Both (Fill c n) (Make d j b)) h a = unequal h
  over_passes (Both (Fill c n) (Fill d j)) h a = unequal h
  over_passes (First x) h a = refl
  over_passes (Then Counted) h a = unequal h
  over_passes (Then (Gap d)) h a = unequal h
  over_passes (Then (Touch d j i)) h a = unequal h
  over_passes (Then (Make d j b)) h a = unseen_made d j b h a
  over_passes (Then (Fill d j)) h a = unequal h

-- ## The step over the change

stays : (g : Option To) (c : CellId) → how g (To.Cell c) ≡ Stay → full_after g c true ≡ true
stays None c h = refl
stays (Some to) c h = elim (same_to to (To.Cell c)) as (λ b. cond b Here Leave ≡ Stay → b ≡ true) [ true ↦ (λ q. refl) | false ↦ (λ q. cc) ] h

comes : (g : Option To) (c : CellId) (a : Bool) → how g (To.Cell c) ≡ Here → full_after g c a ≡ true
comes None c a h = cc
comes (Some to) c a h = elim (same_to to (To.Cell c)) as (λ b. cond b Here Leave ≡ Here → b ≡ true) [ true ↦ (λ q. refl) | false ↦ (λ q. cc) ] h

pub leaves : (g : Option To) (c : CellId) (a : Bool) → how g (To.Cell c) ≡ Leave → full_after g c a ≡ false
leaves None c a h = cc
leaves (Some to) c a h = elim (same_to to (To.Cell c)) as (λ b. cond b Here Leave ≡ Leave → b ≡ false) [ true ↦ (λ q. cc) | false ↦ (λ q. refl) ] h

-- a cell that isn't where the node is put
away : (g : Option To) (c : CellId) → is_here (how g (To.Cell c)) ≡ false → full_after g c false ≡ false
away None c e = refl
away (Some to) c e = elim (same_to to (To.Cell c)) as (λ b. is_here (cond b Here Leave) ≡ false → b ≡ false) [ true ↦ (λ q. cc) | false ↦ (λ q. refl) ] e

not_put : (g : Option To) (c : CellId) (a : Bool) → g ≡ None → full_after g c a ≡ a
not_put g c a h = ap (λ o. full_after o c a) h

module _ (l : Bool) (t : NodeId → Option To) (m k placed : Nodes) where
  gap_kept : (b : Bool) (c : CellId) → trimmed k (read b (Gap c)) ≡ read b (Gap c)
  gap_kept true c = refl
  gap_kept false c = refl

  -- a cell that is full before and after
  named_stays : (c : CellId) (n : NodeId) (e f : Bool) → e ≡ true → f ≡ true → k n ≡ true → trimmed k (read l (turned c n e f)) ≡ Touch c n Stay
  named_stays c n e f p q h = (λ i. trimmed k (read l (turned c n (p i) (q i)))) ∙ ap (λ b. cond b (Touch c n Stay) Counted) h

  other_stays : (c : CellId) (n : NodeId) (e f : Bool) → e ≡ true → f ≡ true → k n ≡ false → trimmed k (read l (turned c n e f)) ≡ Counted
  other_stays c n e f p q h = (λ i. trimmed k (read l (turned c n (p i) (q i)))) ∙ ap (λ b. cond b (Touch c n Stay) Counted) h

  -- one that is empty before and after
  stays_empty : (c : CellId) (n : NodeId) (e f : Bool) → e ≡ false → f ≡ false → not l ≡ true → trimmed k (read l (turned c n e f)) ≡ Counted
  stays_empty c n e f p q h = (λ i. trimmed k (read l (turned c n (p i) (q i)))) ∙ gap_kept l c ∙ thin_gap l h c

  becomes_empty : (c : CellId) (n : NodeId) (e f : Bool) → e ≡ true → f ≡ false → trimmed k (read l (turned c n e f)) ≡ Touch c n Leave
  becomes_empty c n e f p q = λ i. trimmed k (read l (turned c n (p i) (q i)))

  becomes_full : (c : CellId) (n : NodeId) (e f : Bool) → e ≡ false → f ≡ true → trimmed k (read l (turned c n e f)) ≡ Fill c n
  becomes_full c n e f p q = λ i. trimmed k (read l (turned c n (p i) (q i)))

  -- a cell that both name
  both_stay : (c d : CellId) (n j : NodeId) → full_after (t n) c true ≡ true → c ≡ d → n ≡ j → k j ≡ true
      → trimmed k (read l (turned c n (full_after (t j) d true) (full_after (t j) d true))) ≡ Touch d j Stay
  both_stay c d n j h p q w =
      let e : full_after (t j) d true ≡ true = (λ i. full_after (t (sym q i)) (sym p i) true) ∙ h in
      (λ i. trimmed k (read l (turned (p i) (q i) (full_after (t j) d true) (full_after (t j) d true)))) ∙ named_stays d j _ _ e e w

  made_passes : (c : CellId) (n : NodeId) (b : Bool) → (b || not l) ≡ true → IsFree k (Make c n b) → trimmed k (read l (turned c n b b)) ≡ Counted
  made_passes c n true h a = other_stays c n true true refl refl a
  made_passes c n false h a = stays_empty c n false false refl refl h

  crossed_passes : (p : CellPiece) → piece_passes l p ≡ true → IsAside t m k p → trimmed k (read l (crossed_piece false false placed t p)) ≡ read l (then_kept p)
  crossed_passes (Both Counted Counted) h a = refl
  crossed_passes (Both Counted (Gap d)) h a = gap_kept l d
  crossed_passes (Both Counted (Touch d j Stay)) h a = named_stays d j _ _ (not_put (t j) d true a.2.1) (not_put (t j) d true a.2.1) a.1
  crossed_passes (Both Counted (Touch d j Here)) h a = unequal h
  crossed_passes (Both Counted (Touch d j Leave)) h a = becomes_empty d j _ _ (not_put (t j) d true a.2.1) (not_put (t j) d false a.2.1)
  crossed_passes (Both Counted (Make d j b)) h a = unequal h
  crossed_passes (Both Counted (Fill d j)) h a = becomes_full d j _ _ (not_put (t j) d false a.2.1) (not_put (t j) d true a.2.1)
  crossed_passes (Both (Gap c) Counted) h a = refl
  crossed_passes (Both (Gap c) (Gap d)) h a = gap_kept l d
  crossed_passes (Both (Gap c) (Touch d j i)) h a = unequal h
  crossed_passes (Both (Gap c) (Make d j b)) h a = unequal h
  crossed_passes (Both (Gap c) (Fill d j)) h a = becomes_full d j _ _ (not_put (t j) d false a.2.1) (not_put (t j) d true a.2.1)
  crossed_passes (Both (Touch c n Leave) Counted) h a = stays_empty c n _ _ (leaves (t n) c true a.0.1) (leaves (t n) c true a.0.1) h
  crossed_passes (Both (Touch c n Leave) (Gap d)) h a = unequal h
  crossed_passes (Both (Touch c n Leave) (Touch d j i)) h a = unequal h
  crossed_passes (Both (Touch c n Leave) (Make d j b)) h a = unequal h
  crossed_passes (Both (Touch c n Leave) (Fill d j)) h a = unequal h
  crossed_passes (Both (Touch c n Stay) Counted) h a = other_stays c n _ _ (stays (t n) c a.0.1) (stays (t n) c a.0.1) a.2
  crossed_passes (Both (Touch c n Stay) (Gap d)) h a = unequal h
  crossed_passes (Both (Touch c n Stay) (Touch d j Stay)) h a = both_stay c d n j (stays (t n) c a.0.1) a.2.0 a.2.1 a.1
  crossed_passes (Both (Touch c n Stay) (Touch d j Here)) h a = unequal h
  crossed_passes (Both (Touch c n Stay) (Touch d j Leave)) h a = unequal h
  crossed_passes (Both (Touch c n Stay) (Make d j b)) h a = unequal h
  crossed_passes (Both (Touch c n Stay) (Fill d j)) h a = unequal h
  crossed_passes (Both (Touch c n Here) Counted) h a = other_stays c n _ _ (comes (t n) c true a.0.1) (comes (t n) c true a.0.1) a.2
  crossed_passes (Both (Touch c n Here) (Gap d)) h a = unequal h
  crossed_passes (Both (Touch c n Here) (Touch d j Stay)) h a = both_stay c d n j (comes (t n) c true a.0.1) a.2.0 a.2.1 a.1
  crossed_passes (Both (Touch c n Here) (Touch d j Here)) h a = unequal h
  crossed_passes (Both (Touch c n Here) (Touch d j Leave)) h a = unequal h
  crossed_passes (Both (Touch c n Here) (Make d j b)) h a = unequal h
  crossed_passes (Both (Touch c n Here) (Fill d j)) h a = unequal h
  crossed_passes (Both (Make c n b) y) h a = unequal h
  crossed_passes (Both (Fill c n) Counted) h a = other_stays c n _ _ (comes (t n) c false a.0) (comes (t n) c false a.0) a.2
  crossed_passes (Both (Fill c n) (Gap d)) h a = other_stays c n _ _ (comes (t n) c false a.0) (comes (t n) c false a.0) a.2 ∙ sym (thin_gap l h d)
  crossed_passes (Both (Fill c n) (Touch d j i)) h a = unequal h
  crossed_passes (Both (Fill c n) (Make d j b)) h a = unequal h
  crossed_passes (Both (Fill c n) (Fill d j)) h a = unequal h
  crossed_passes (First Counted) h a = unequal h
  crossed_passes (First (Gap d)) h a = unequal h
  crossed_passes (First (Touch d j i)) h a = unequal h
  crossed_passes (First (Make c n b)) h a = made_passes c n b h a
  crossed_passes (First (Fill d j)) h a = unequal h
  crossed_passes (Then Counted) h a = unequal h
  crossed_passes (Then (Gap d)) h a = unequal h
  crossed_passes (Then (Touch d j i)) h a = unequal h
  crossed_passes (Then (Make d j true)) h a = ap (λ x. Make d j x) (not_put (t j) d true a.1)
  crossed_passes (Then (Make d j false)) h a = ap (λ x. Make d j x) (away (t j) d a)
  crossed_passes (Then (Fill d j)) h a = unequal h

  -- a void change, where empty cells are counted
  kept : (y : CellMark) → IsNamed k y → trimmed k (read l y) ≡ read l y
  kept Counted h = refl
  kept (Gap c) h = gap_kept l c
  kept (Touch c n Stay) h = ap (λ b. cond b (Touch c n Stay) Counted) h
  kept (Touch c n Here) h = refl
  kept (Touch c n Leave) h = refl
  kept (Make c n b) h = refl
  kept (Fill c n) h = refl

  any_made : (c : CellId) (n : NodeId) (b : Bool) → not l ≡ true → (b ≡ true → k n ≡ false) → trimmed k (read l (turned c n b b)) ≡ Counted
  any_made c n true h a = other_stays c n true true refl refl (a refl)
  any_made c n false h a = stays_empty c n false false refl refl h

  void_away : (n : NodeId) (c : CellId) → is_here (how (t n) (To.Cell c)) ≡ false → full_after (target_by true placed t n) c false ≡ false
  void_away n c h = elim (placed n) as (λ b. full_after (cond b (t n) None) c false ≡ false) [ true ↦ away (t n) c h | false ↦ refl ]

  void_target : (n : NodeId) → t n ≡ None → target_by true placed t n ≡ None
  void_target n h = elim (placed n) as (λ b. cond b (t n) None ≡ None) [ true ↦ h | false ↦ refl ]

  void_passes : not l ≡ true → (p : CellPiece) → piece_passes l p ≡ true → IsAside t m k p → trimmed k (read l (crossed_piece true true placed t p)) ≡ read l (then_kept p)
  void_passes w (Both x y) h a = kept y a.1
  void_passes w (First Counted) h a = unequal h
  void_passes w (First (Gap d)) h a = unequal h
  void_passes w (First (Touch d j i)) h a = unequal h
  void_passes w (First (Make c n true)) h a = any_made c n (placed n) w (λ _. a)
  void_passes w (First (Make c n false)) h a = any_made c n false w unequal
  void_passes w (First (Fill d j)) h a = unequal h
  void_passes w (Then Counted) h a = unequal h
  void_passes w (Then (Gap d)) h a = unequal h
  void_passes w (Then (Touch d j i)) h a = unequal h
  void_passes w (Then (Make d j true)) h a = ap (λ x. Make d j x) (not_put (target_by true placed t j) d true (void_target j a.1))
  void_passes w (Then (Make d j false)) h a = ap (λ x. Make d j x) (void_away j d a)
  void_passes w (Then (Fill d j)) h a = unequal h

-- ## Piece by piece

module _ (l : Bool) (t : NodeId → Option To) (m k : Nodes) (f g : CellPiece → CellMark) (one : (p : CellPiece) → piece_passes l p ≡ true → IsAside t m k p → f p ≡ g p) where
  first_passes : (a b : Bool) → cond a b false ≡ true → (a ≡ true) × (b ≡ true)
  first_passes true b h = (refl, h)
  first_passes false b h = unequal h

  pub each : (ps : List CellPiece) → all_pass l ps ≡ true → AllByRecursion (IsAside t m k) ps → map f ps ≡ map g ps
  each [] h a = refl
  each (p ∷ ps) h a =
      let b = first_passes (piece_passes l p) (all_pass l ps) h in
      λ i. one p b.0 a.0 i ∷ each ps b.1 a.1 i

pub twice : {A B C : Type 0} (f : B → C) (g : A → B) (xs : List A) → map f (map g xs) ≡ map (λ x. f (g x)) xs
twice f g [] = refl
twice f g (x ∷ xs) = λ i. f (g x) ∷ twice f g xs i

pub row_passes : (l : Bool) (t : NodeId → Option To) (m k : Nodes) (xs ys : List CellMark) → DoesNotMeet l xs ys → AreAside t m k xs ys → over_row l t m xs ys ≡ map (read l) (raised xs ys)
row_passes l t m k xs ys h a = each l t m k (over_piece l t m) (λ p. read l (first_kept p)) (over_passes l t m k) (beside xs ys) h a ∙ sym (twice (read l) first_kept (beside xs ys))

thin_if : (l : Bool) → l ≡ false → not l ≡ true
thin_if l h = ap not h

pub row_crosses : (l v : Bool) (t : NodeId → Option To) (m k placed : Nodes) (xs ys : List CellMark) → DoesNotMeet l xs ys → AreAside t m k xs ys → (v && l) ≡ false
    → map (trimmed k) (crossed_row l v v placed t xs ys) ≡ map (read l) (raised_beside xs ys)
row_crosses l v t m k placed xs ys h a e =
    twice (trimmed k) (λ p. read l (crossed_piece v v placed t p)) (beside xs ys)
    ∙ each l t m k (λ p. trimmed k (read l (crossed_piece v v placed t p))) (λ p. read l (then_kept p)) (one v e) (beside xs ys) h a
    ∙ sym (twice (read l) then_kept (beside xs ys))
  where
    one : (v : Bool) → (v && l) ≡ false → (p : CellPiece) → piece_passes l p ≡ true → IsAside t m k p → trimmed k (read l (crossed_piece v v placed t p)) ≡ read l (then_kept p)
    one true e = void_passes l t m k placed (thin_if l e)
    one false e = crossed_passes l t m k placed
