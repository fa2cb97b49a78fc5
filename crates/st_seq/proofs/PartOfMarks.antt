-- The part of an intent of which the change of a row tells.
use Rattle.std.proofs.Common.{◌≡◌, ◌≢◌, Bool, true, false, ◌&&◌, ◌||◌, not, List, [], ◌∷◌, Option, Some, None, is_some, cond, refl, sym, ap, ◌∙◌, subst, inl, inr, ◌⊎◌}
use Rattle.std.specs.List.{AllByRecursion, list_any}
use Rattle.st_ids.specs.Listing.{AreDistinct, Has, IsRising}
use Rattle.st_marks.proofs.Members.{all-has, has-all}
use Rattle.st_rows.specs.Changes.{StandsIn}
use Rattle.st_ids.specs.Order.{node_cmp, same_cell, same_node, same_rev}
use Rattle.st_ids.proofs.Orders.{same_cell-true, same_cell-itself, same_node-true, same_node-itself, same_rev-true}
use Rattle.st_ids.specs.declared.names.CellId.{CellId}
use Rattle.st_ids.specs.declared.names.NodeId.{NodeId}
use Rattle.st_ids.specs.declared.names.Rev.{Rev}
use Rattle.st_marks.specs.declared.intents.Owned.{Owned}
use Rattle.st_marks.specs.declared.intents.To.{To}
use Rattle.st_marks.specs.declared.marks.How.{How}
use Rattle.st_marks.specs.declared.marks.How.TheVariants.{Stay, Here, Leave}
use Rattle.st_marks.specs.declared.places.Slot.{Slot}
use Rattle.st_ids.specs.Root.{root}
use Rattle.st_marks.specs.Embedding.{is_among}
use Rattle.st_marks.specs.Row.{CellMark, Counted, Gap, Touch, Make, Fill, RowPart, how, embed_cell, embed_row}
use Rattle.st_marks.specs.How.{is_here}
use Rattle.st_seq.specs.inside.NormalForm.{places, makes_cell, puts_found, has_cell, stands_in, may_put, may_make, is_allowed, are_allowed}
use Rattle.st_rows.specs.Sequence.{RowCanHold, RowFits, cells_of, made_in}
use Rattle.st_rows.proofs.ListTests.{any_has, has_any, none_any}
use Rattle.st_rows.proofs.RowRebases.{is-here, not-here, moved_how}
use Rattle.st_rows.proofs.PlacesInRows.{Groups, groups_of, embeds, makes, makes_them, has_makes, behind_cell, Lays, FoundAt, Says, behind, lead, found_says, found_slot, found_mark, has_slot, has_mark, one_cell, one_stands, in_row, in_cells}
use Rattle.st_lemmas.proofs.Bools.{and-true, not-true, true-false, or-right}

-- ## Where the marks put a node

abbrev named_cell : CellMark → Option CellId
named_cell Counted = None
named_cell (Gap a) = Some a
named_cell (Touch a n h) = Some a
named_cell (Make a n b) = Some a
named_cell (Fill a n) = Some a

-- the first cell into which they put it
abbrev placed_at : List CellMark → NodeId → Option CellId
placed_at [] n = None
placed_at (x ∷ xs) n = cond (places n x) (named_cell x) (placed_at xs n)

abbrev leaves : NodeId → CellMark → Bool
leaves n Counted = false
leaves n (Gap a) = false
leaves n (Touch a x Stay) = false
leaves n (Touch a x Here) = false
leaves n (Touch a x Leave) = same_node x n
leaves n (Make a x b) = false
leaves n (Fill a x) = false

abbrev owns_empty : NodeId → CellMark → Bool
owns_empty n Counted = false
owns_empty n (Gap a) = false
owns_empty n (Touch a x h) = false
owns_empty n (Make a x b) = not b && same_node x n
owns_empty n (Fill a x) = false

abbrev touches : NodeId → CellMark → Bool
touches n Counted = false
touches n (Gap a) = false
touches n (Touch a x h) = same_node x n
touches n (Make a x b) = false
touches n (Fill a x) = false

-- whether a node goes elsewhere, if it isn't put here
abbrev away : List NodeId → List CellMark → NodeId → Bool
away new xs n = list_any (leaves n) xs || (list_any (owns_empty n) xs && not (is_among new n))

abbrev go_to : Option CellId → Bool → Option To
go_to (Some a) b = Some (To.Cell a)
go_to None b = cond b (Some To.Nowhere) None

-- where the marks say that a node goes
abbrev pub told_goes : List NodeId → List CellMark → NodeId → Option To
told_goes new xs n = go_to (placed_at xs n) (away new xs n)

-- the cells that they make
abbrev told_made : {c : List Slot} {xs : List CellMark} → Lays c xs → Option CellId → List Owned
told_made {xs = xs} l None = lead xs
told_made l (Some a) = behind l a

-- the part
abbrev pub told : List NodeId → {c : List Slot} {xs : List CellMark} → Lays c xs → RowPart
told new {xs = xs} l = record {
  new_cells = told_made l;
  target_of = told_goes new xs;
  mentioned = λ n. list_any (touches n) xs || is_some (told_goes new xs n);
}

-- ## Reading the look-up

placed_named : (n : NodeId) (x : CellMark) → places n x ≡ true → (a : CellId) × (named_cell x ≡ Some a)
placed_named n Counted e = cc
placed_named n (Gap a) e = cc
placed_named n (Touch a x Stay) e = cc
placed_named n (Touch a x Here) e = (a, refl)
placed_named n (Touch a x Leave) e = cc
placed_named n (Make a x b) e = (a, refl)
placed_named n (Fill a x) e = (a, refl)

placed_has : (n : NodeId) (xs : List CellMark) (a : CellId) → placed_at xs n ≡ Some a → (x : CellMark) × Has xs x × (places n x ≡ true) × (named_cell x ≡ Some a)
placed_has n [] a e = cc
placed_has n (y ∷ xs) a e = elim (places n y) as (λ b. places n y ≡ b → cond b (named_cell y) (placed_at xs n) ≡ Some a → (x : CellMark) × Has (y ∷ xs) x × (places n x ≡ true) × (named_cell x ≡ Some a)) [
  | true ↦ (λ q r. (y, inl refl, q, r))
  | false ↦ (λ q r. let z = placed_has n xs a r in (z.0, inr z.1, z.2, z.3))
] refl e

-- of two marks that put one node there would be one behind the other
none_behind : (rev : Rev) (c : List Slot) (all : List CellMark) (n : NodeId) (y : CellMark) (ys : List CellMark) → is_allowed rev c all y ys ≡ true → places n y ≡ true → list_any (places n) ys ≡ false
none_behind rev c all n Counted ys h e = cc
none_behind rev c all n (Gap a) ys h e = cc
none_behind rev c all n (Touch a x Stay) ys h e = cc
none_behind rev c all n (Touch a x Here) ys h e = ap (λ m. list_any (places m) ys) (sym (same_node-true x n e)) ∙ not-true _ h
none_behind rev c all n (Touch a x Leave) ys h e = cc
none_behind rev c all n (Make a x b) ys h e =
    let p = and-true b (same_node x n) e in
    let q = not-true _ (and-true (may_put c all x) _ (and-true (may_make rev c a ys) _ h).1).1 in
    ap (λ m. list_any (places m) ys) (sym (same_node-true x n p.1)) ∙ ap (λ z. z && list_any (places x) ys) (sym p.0) ∙ q
none_behind rev c all n (Fill a x) ys h e = ap (λ m. list_any (places m) ys) (sym (same_node-true x n e)) ∙ not-true _ (and-true (may_put c all x) _ h).1

placed_is : (rev : Rev) (c : List Slot) (all : List CellMark) (n : NodeId) (xs : List CellMark) → are_allowed rev c all xs ≡ true → (x : CellMark) → Has xs x → places n x ≡ true → placed_at xs n ≡ named_cell x
placed_is rev c all n [] h x w e = absurd w
placed_is rev c all n (y ∷ xs) h x (inl q) e = ap (λ b. cond b (named_cell y) (placed_at xs n)) (ap (places n) q ∙ e) ∙ ap named_cell q
placed_is rev c all n (y ∷ xs) h x (inr w) e = elim (places n y) as (λ b. places n y ≡ b → cond b (named_cell y) (placed_at xs n) ≡ named_cell x) [
  | true ↦ (λ q. let p = and-true (is_allowed rev c all y xs) _ h in let z : ◌≡◌ {A = Bool} true false = sym (any_has (places n) xs x w e) ∙ none_behind rev c all n y xs p.0 q in cc)
  | false ↦ (λ q. placed_is rev c all n xs (and-true (is_allowed rev c all y xs) _ h).1 x w e)
] refl

-- ## Marks that make or fill

allowed_make : (rev : Rev) (c : List Slot) (all : List CellMark) (xs : List CellMark) → are_allowed rev c all xs ≡ true → (a : CellId) (n : NodeId) (b : Bool) → Has xs (Make a n b) → (same_rev a.0.rev rev ≡ true) × (has_cell c a ≡ false) × (may_put c all n ≡ true)
allowed_make rev c all [] h a n b w = absurd w
allowed_make rev c all (y ∷ xs) h a n b (inl q) =
    let z = subst (λ x. is_allowed rev c all x xs ≡ true) q (and-true (is_allowed rev c all y xs) _ h).0 in
    let p = and-true (may_make rev c a xs) _ z in
    let r = and-true (same_rev a.0.rev rev) _ p.0 in
    (r.0, not-true _ (and-true (not (has_cell c a)) _ r.1).0, (and-true (may_put c all n) _ p.1).0)
allowed_make rev c all (y ∷ xs) h a n b (inr w) = allowed_make rev c all xs (and-true (is_allowed rev c all y xs) _ h).1 a n b w

allowed_fill : (rev : Rev) (c : List Slot) (all : List CellMark) (xs : List CellMark) → are_allowed rev c all xs ≡ true → (a : CellId) (n : NodeId) → Has xs (Fill a n) → may_put c all n ≡ true
allowed_fill rev c all [] h a n w = absurd w
allowed_fill rev c all (y ∷ xs) h a n (inl q) = (and-true (may_put c all n) _ (subst (λ x. is_allowed rev c all x xs ≡ true) q (and-true (is_allowed rev c all y xs) _ h).0)).0
allowed_fill rev c all (y ∷ xs) h a n (inr w) = allowed_fill rev c all xs (and-true (is_allowed rev c all y xs) _ h).1 a n w

-- none makes the cell behind one that does
made_before : (rev : Rev) (c : List Slot) (all : List CellMark) (a : CellId) (n : NodeId) (b : Bool) (y : CellMark) (xs : List CellMark) → is_allowed rev c all y xs ≡ true → y ≡ Make a n b → list_any (makes_cell a) xs ≡ false
made_before rev c all a n b y xs h q =
    let z = subst (λ x. is_allowed rev c all x xs ≡ true) q h in
    not-true _ (and-true (not (has_cell c a)) _ (and-true (same_rev a.0.rev rev) _ (and-true (may_make rev c a xs) _ z).0).1).1

-- one cell is made once
one_make : (rev : Rev) (c : List Slot) (all : List CellMark) (xs : List CellMark) → are_allowed rev c all xs ≡ true → (a : CellId) (n m : NodeId) (b e : Bool) → Has xs (Make a n b) → Has xs (Make a m e) → ◌≡◌ {A = CellMark} (Make a n b) (Make a m e)
one_make rev c all [] h a n m b e v w = absurd v
one_make rev c all (y ∷ xs) h a n m b e (inl v) (inl w) = sym v ∙ w
one_make rev c all (y ∷ xs) h a n m b e (inl v) (inr w) = let z : ◌≡◌ {A = Bool} true false = sym (any_has (makes_cell a) xs (Make a m e) w (same_cell-itself a)) ∙ made_before rev c all a n b y xs (and-true (is_allowed rev c all y xs) _ h).0 v in cc
one_make rev c all (y ∷ xs) h a n m b e (inr v) (inl w) = let z : ◌≡◌ {A = Bool} true false = sym (any_has (makes_cell a) xs (Make a n b) v (same_cell-itself a)) ∙ made_before rev c all a m e y xs (and-true (is_allowed rev c all y xs) _ h).0 w in cc
one_make rev c all (y ∷ xs) h a n m b e (inr v) (inr w) = one_make rev c all xs (and-true (is_allowed rev c all y xs) _ h).1 a n m b e v w

-- ## The part says the same of each cell

module _ (rev : Rev) (new : List NodeId) {c : List Slot} {xs : List CellMark} (l : Lays c xs) (hold : RowCanHold c) (old : AllByRecursion (λ (s : Slot). is_among new s.node ≡ false) c) (ok : are_allowed rev c xs xs ≡ true) where
  -- a made cell isn't in the row
  not_there : (a : CellId) (n : NodeId) (b : Bool) → Has xs (Make a n b) → Has (cells_of c) a → ⊥
  not_there a n b w h = true-false (in_list c h) (allowed_make rev c xs xs ok a n b w).1
    where
      in_list : (d : List Slot) → Has (cells_of d) a → has_cell d a ≡ true
      in_list [] h = absurd h
      in_list (s ∷ d) (inl e) = ap (λ b. b || has_cell d a) (ap (λ x. same_cell x a) e ∙ same_cell-itself a)
      in_list (s ∷ d) (inr h) = later (same_cell s.cell a) (has_cell d a) (in_list d h)
        where
          later : (x y : Bool) → y ≡ true → (x || y) ≡ true
          later true y e = refl
          later false y e = e

  -- a node that is put, and stands in the row, is put by its mark there
  put_found : (n : NodeId) → may_put c xs n ≡ true → (t : Slot) (y : CellMark) → FoundAt l t y → t.full ≡ true → t.node ≡ n → puts_found n y ≡ true
  put_found n h t y w f e =
      let r = has_any (puts_found n) xs (either_way (stands_in c n) (list_any (puts_found n) xs) (any_has (λ (s : Slot). s.full && same_node s.node n) c t (found_slot l t y w) (all_two f (ap (λ m. same_node m n) e ∙ same_node-itself n))) (and-true (not (same_node n root)) _ h).1) in
      let z = standing_mark (r.0) (r.1) (r.2) in
      ap (puts_found n) (sym z) ∙ r.2
    where
      all_two : {a b : Bool} → a ≡ true → b ≡ true → (a && b) ≡ true
      all_two p q = rw (p, q) refl

      either_way : (a b : Bool) → a ≡ true → (not a || b) ≡ true → b ≡ true
      either_way true b p q = q
      either_way false b p q = cc

      standing_mark : (x : CellMark) → Has xs x → puts_found n x ≡ true → x ≡ y
      standing_mark Counted v p = cc
      standing_mark (Gap a) v p = cc
      standing_mark (Touch a m Stay) v p = cc
      standing_mark (Touch a m Here) v p = let u = has_slot l (Touch a m Here) refl v in let g = found_says l u.0 _ u.1 in one_stands l hold.stand_once u.0 t _ y u.1 w g.2 f (g.1 ∙ same_node-true m n p ∙ sym e)
      standing_mark (Touch a m Leave) v p = let u = has_slot l (Touch a m Leave) refl v in let g = found_says l u.0 _ u.1 in one_stands l hold.stand_once u.0 t _ y u.1 w g.2 f (g.1 ∙ same_node-true m n p ∙ sym e)
      standing_mark (Make a m b) v p = cc
      standing_mark (Fill a m) v p = cc

  -- a node that is put into a cell of the row is put by that cell's mark
  placed_here : (n : NodeId) (t : Slot) (y : CellMark) → FoundAt l t y → placed_at xs n ≡ Some t.cell → places n y ≡ true
  placed_here n t y w e = let r = placed_has n xs t.cell e in go r.0 r.1 r.2 r.3
    where
      option_or_else : CellId → Option CellId → CellId
      option_or_else d None = d
      option_or_else d (Some x) = x

      cell_in : (a : CellId) → ◌≡◌ {A = Option CellId} (Some a) (Some t.cell) → a ≡ t.cell
      cell_in a q = ap (λ (o : Option CellId). option_or_else t.cell o) q

      go : (x : CellMark) → Has xs x → places n x ≡ true → named_cell x ≡ Some t.cell → places n y ≡ true
      go Counted v p q = cc
      go (Gap a) v p q = cc
      go (Touch a m Stay) v p q = cc
      go (Touch a m Here) v p q = let u = has_slot l (Touch a m Here) refl v in let g = found_says l u.0 _ u.1 in ap (places n) (sym (one_cell l hold.once u.0 t _ y u.1 w (g.0 ∙ cell_in a q))) ∙ p
      go (Touch a m Leave) v p q = cc
      go (Make a m b) v p q = absurd (not_there a m b v (subst (Has (cells_of c)) (sym (cell_in a q)) (in_cells c t (found_slot l t y w))))
      go (Fill a m) v p q = let u = has_slot l (Fill a m) refl v in let g = found_says l u.0 _ u.1 in ap (places n) (sym (one_cell l hold.once u.0 t _ y u.1 w (g.0 ∙ cell_in a q))) ∙ p

  here_iff : (o : Option CellId) (b : Bool) (a : CellId) → (o ≡ Some a → ⊥) → is_here (how (go_to o b) (To.Cell a)) ≡ false
  here_iff None true a h = refl
  here_iff None false a h = refl
  here_iff (Some d) b a h = elim (same_cell d a) as (λ x. same_cell d a ≡ x → is_here (cond x Here Leave) ≡ false) [
    | true ↦ (λ e. absurd (h (ap (λ (x : CellId). Some x) (same_cell-true d a e))))
    | false ↦ (λ e. refl)
  ] refl

  here_at : (o : Option CellId) (b : Bool) (a : CellId) → o ≡ Some a → is_here (how (go_to o b) (To.Cell a)) ≡ true
  here_at o b a e = ap (λ x. is_here (how (go_to x b) (To.Cell a))) e ∙ ap (λ x. is_here (cond x Here Leave)) (same_cell-itself a)

  -- whether a node is put into its cell
  here_is : (t : Slot) (y : CellMark) → FoundAt l t y → is_here (how (told_goes new xs t.node) (To.Cell t.cell)) ≡ places t.node y
  here_is t y w = elim (places t.node y) as (λ b. places t.node y ≡ b → is_here (how (told_goes new xs t.node) (To.Cell t.cell)) ≡ b) [
    | true ↦ (λ p. here_at _ _ _ (placed_is rev c xs t.node xs ok y (found_mark l t y w) p ∙ own y p (found_says l t y w)))
    | false ↦ (λ p. here_iff _ _ _ (λ q. true-false (placed_here t.node t y w q) p))
  ] refl
    where
      own : (x : CellMark) → places t.node x ≡ true → Says t x → named_cell x ≡ Some t.cell
      own Counted p h = cc
      own (Gap a) p h = cc
      own (Touch a m Stay) p h = cc
      own (Touch a m Here) p h = ap (λ (x : CellId). Some x) (sym h.0)
      own (Touch a m Leave) p h = cc
      own (Make a m b) p h = absurd h
      own (Fill a m) p h = ap (λ (x : CellId). Some x) (sym h.0)

  -- a mark of a node that stands in the row is its own
  touch_is : (a : CellId) (m : NodeId) (h : How) → Has xs (Touch a m h) → (t : Slot) (y : CellMark) → FoundAt l t y → t.full ≡ true → m ≡ t.node → Touch a m h ≡ y
  touch_is a m h v t y w f e = let u = has_slot l (Touch a m h) refl v in let g = found_says l u.0 _ u.1 in one_stands l hold.stand_once u.0 t _ y u.1 w g.2 f (g.1 ∙ e)

  -- a node that stands in the row and isn't put by its mark there isn't put
  idle : (t : Slot) (y : CellMark) → FoundAt l t y → t.full ≡ true → puts_found t.node y ≡ false → told_goes new xs t.node ≡ None
  idle t y w f p = go (placed_at xs t.node) refl
    where
      not_put : may_put c xs t.node ≡ true → ⊥
      not_put h = true-false (put_found t.node h t y w f refl) p

      no_place : (x : CellMark) → Has xs x → places t.node x ≡ true → ⊥
      no_place Counted v q = cc
      no_place (Gap a) v q = cc
      no_place (Touch a m Stay) v q = cc
      no_place (Touch a m Here) v q = let e = same_node-true m t.node q in true-false (ap (puts_found t.node) (sym (touch_is a m Here v t y w f e)) ∙ q) p
      no_place (Touch a m Leave) v q = cc
      no_place (Make a m b) v q = not_put (subst (λ n. may_put c xs n ≡ true) (same_node-true m t.node (and-true b (same_node m t.node) q).1) (allowed_make rev c xs xs ok a m b v).2)
      no_place (Fill a m) v q = not_put (subst (λ n. may_put c xs n ≡ true) (same_node-true m t.node q) (allowed_fill rev c xs xs ok a m v))

      no_leave : (x : CellMark) → Has xs x → leaves t.node x ≡ true → ⊥
      no_leave Counted v q = cc
      no_leave (Gap a) v q = cc
      no_leave (Touch a m Stay) v q = cc
      no_leave (Touch a m Here) v q = cc
      no_leave (Touch a m Leave) v q = let e = same_node-true m t.node q in true-false (ap (puts_found t.node) (sym (touch_is a m Leave v t y w f e)) ∙ q) p
      no_leave (Make a m b) v q = cc
      no_leave (Fill a m) v q = cc

      no_hole : (x : CellMark) → Has xs x → owns_empty t.node x ≡ true → ⊥
      no_hole Counted v q = cc
      no_hole (Gap a) v q = cc
      no_hole (Touch a m h) v q = cc
      no_hole (Make a m b) v q = not_put (subst (λ n. may_put c xs n ≡ true) (same_node-true m t.node (and-true (not b) (same_node m t.node) q).1) (allowed_make rev c xs xs ok a m b v).2)
      no_hole (Fill a m) v q = cc

      go : (o : Option CellId) → placed_at xs t.node ≡ o → go_to o (away new xs t.node) ≡ None
      go None e = (λ i. cond (none_any (leaves t.node) xs no_leave i || (none_any (owns_empty t.node) xs no_hole i && not (is_among new t.node))) (Some To.Nowhere) None)
      go (Some a) e = let r = placed_has t.node xs a e in absurd (no_place r.0 r.1 r.2)

  -- what the part says of a cell of the row
  cell_told : (t : Slot) (y : CellMark) → FoundAt l t y → embed_cell (told new l) t.cell t.node t.full ≡ y
  cell_told t y w = go y (found_says l t y w) w
    where
      goes_here : To
      goes_here = To.Cell t.cell

      set : How → CellMark
      set k = Touch t.cell t.node k

      mention : (a : CellId) (m : NodeId) (k : How) → t.node ≡ m → Has xs (Touch a m k) → (told new l).mentioned t.node ≡ true
      mention a m k e v = ap (λ b. b || is_some (told_goes new xs t.node)) (any_has (touches t.node) xs (Touch a m k) v (ap (λ n. same_node n t.node) (sym e) ∙ same_node-itself t.node))

      unmentioned : (z : CellMark) → FoundAt l t z → z ≡ Counted → t.full ≡ true → (told new l).mentioned t.node ≡ false
      unmentioned z u e f = λ i. none_any (touches t.node) xs no_touch i || is_some (idle t z u f (ap (puts_found t.node) e) i)
        where
          no_touch : (x : CellMark) → Has xs x → touches t.node x ≡ true → ⊥
          no_touch Counted v q = cc
          no_touch (Gap a) v q = cc
          no_touch (Touch a m k) v q = let z : ◌≡◌ {A = CellMark} (Touch a m k) Counted = touch_is a m k v t z u f (same_node-true m t.node q) ∙ e in cc
          no_touch (Make a m b) v q = cc
          no_touch (Fill a m) v q = cc

      left_for : (o : Option CellId) (b : Bool) → b ≡ true → moved_how (go_to o b) ≡ Leave
      left_for None true e = refl
      left_for None false e = cc
      left_for (Some a) b e = refl

      how_told : (a : CellId) (m : NodeId) (k : How) → t.node ≡ m → t.full ≡ true → FoundAt l t (Touch a m k) → how (told_goes new xs t.node) (To.Cell t.cell) ≡ k
      how_told a m Stay e f u = ap (λ g. how g (To.Cell t.cell)) (idle t (Touch a m Stay) u f refl)
      how_told a m Here e f u = is-here _ (here_is t (Touch a m Here) u ∙ ap (λ n. same_node n t.node) (sym e) ∙ same_node-itself t.node)
      how_told a m Leave e f u =
          not-here (told_goes new xs t.node) (To.Cell t.cell) (here_is t (Touch a m Leave) u)
          ∙ left_for (placed_at xs t.node) (away new xs t.node) (ap (λ b. b || (list_any (owns_empty t.node) xs && not (is_among new t.node))) (any_has (leaves t.node) xs (Touch a m Leave) (found_mark l t (Touch a m Leave) u) (ap (λ n. same_node n t.node) (sym e) ∙ same_node-itself t.node)))

      go : (z : CellMark) → Says t z → FoundAt l t z → embed_cell (told new l) t.cell t.node t.full ≡ z
      go Counted h u = ap (embed_cell (told new l) t.cell t.node) h ∙ ap (λ b. cond b (Touch t.cell t.node (how (told_goes new xs t.node) (To.Cell t.cell))) Counted) (unmentioned Counted u refl h)
      go (Gap a) h u = ap (embed_cell (told new l) t.cell t.node) h.1 ∙ ap (λ b. cond b (Fill t.cell t.node) (Gap t.cell)) (here_is t (Gap a) u) ∙ ap (λ x. Gap x) h.0
      go (Touch a m k) h u =
          ap (embed_cell (told new l) t.cell t.node) h.2
          ∙ (λ i. cond (mention a m k h.1 (found_mark l t (Touch a m k) u) i) (Touch t.cell t.node (how_told a m k h.1 h.2 u i)) Counted) ∙ (λ i. Touch (h.0 i) (h.1 i) k)
      go (Make a m b) h u = absurd h
      go (Fill a m) h u =
          ap (embed_cell (told new l) t.cell t.node) h.2 ∙ ap (λ b. cond b (Fill t.cell t.node) (Gap t.cell)) (here_is t (Fill a m) u ∙ ap (λ n. same_node n t.node) (sym h.1) ∙ same_node-itself t.node) ∙ (λ i. Fill (h.0 i) (h.1 i))

  -- one mark puts a node into a cell that is made
  place_made : (a : CellId) (n : NodeId) (b : Bool) → Has xs (Make a n b) → (m : NodeId) → placed_at xs m ≡ Some a → ◌≡◌ {A = CellMark} (Make a n b) (Make a m true)
  place_made a n b v m e = let r = placed_has m xs a e in go r.0 r.1 r.2 r.3
    where
      option_or_else : Option CellId → CellId
      option_or_else None = a
      option_or_else (Some x) = x

      go : (x : CellMark) → Has xs x → places m x ≡ true → named_cell x ≡ Some a → ◌≡◌ {A = CellMark} (Make a n b) (Make a m true)
      go Counted u p q = cc
      go (Gap d) u p q = cc
      go (Touch d k Stay) u p q = cc
      go (Touch d k Here) u p q = let s = has_slot l (Touch d k Here) refl u in absurd (not_there a n b v (subst (Has (cells_of c)) ((found_says l s.0 _ s.1).0 ∙ ap option_or_else q) (in_cells c s.0 (found_slot l s.0 _ s.1))))
      go (Touch d k Leave) u p q = cc
      go (Make d k f) u p q =
          let z = and-true f (same_node k m) p in
          one_make rev c xs xs ok a n m b true v (subst (Has xs) (λ i. Make (ap option_or_else q i) (same_node-true k m z.1 i) (z.0 i)) u)
      go (Fill d k) u p q = let s = has_slot l (Fill d k) refl u in absurd (not_there a n b v (subst (Has (cells_of c)) ((found_says l s.0 _ s.1).0 ∙ ap option_or_else q) (in_cells c s.0 (found_slot l s.0 _ s.1))))

  abbrev full_in : CellMark → Bool
  full_in Counted = false
  full_in (Gap a) = false
  full_in (Touch a n h) = false
  full_in (Make a n b) = b
  full_in (Fill a n) = false

  -- what the part says of a cell that it makes
  make_told : (a : CellId) (n : NodeId) (b : Bool) → Has xs (Make a n b) → is_here (how (told_goes new xs n) (To.Cell a)) ≡ b
  make_told a n true v = here_at _ _ a (placed_is rev c xs n xs ok (Make a n true) v (same_node-itself n))
  make_told a n false v = here_iff _ _ a (λ q. let z : ◌≡◌ {A = Bool} false true = ap full_in (place_made a n false v n q) in cc)

  groups : Groups (told new l) l
  groups = groups_of (told new l) l hold.once (λ a w. refl)

  pub told_row : embed_row (told new l) c ≡ xs
  told_row = embeds (told new l) l groups cell_told make_told

  all_made : made_in (told new l) c ≡ makes xs
  all_made = makes_them (told new l) l groups

  -- ## It fits

  make_once : (ys : List CellMark) → are_allowed rev c xs ys ≡ true → AreDistinct (λ (o : Owned). o.cell) (makes ys)
  make_once [] h = tt
  make_once (Counted ∷ ys) h = make_once ys h
  make_once (Gap a ∷ ys) h = make_once ys h
  make_once (Touch a n Stay ∷ ys) h = make_once ys h
  make_once (Touch a n Here ∷ ys) h = make_once ys (and-true _ _ h).1
  make_once (Touch a n Leave ∷ ys) h = make_once ys h
  make_once (Make a n b ∷ ys) h =
      let p = and-true (is_allowed rev c xs (Make a n b) ys) _ h in
      (has-all (λ (o : Owned). o.cell ≢ a) (makes ys) (λ o w e. let r = has_makes ys o w in true-false (any_has (makes_cell a) ys (Make o.cell o.node r.0) r.1 (ap (λ x. same_cell x a) e ∙ same_cell-itself a)) (made_before rev c xs a n b (Make a n b) ys p.0 refl)), make_once ys p.1)
  make_once (Fill a n ∷ ys) h = make_once ys (and-true _ _ h).1

  goes_some : (o : Option CellId) (b : Bool) → b ≡ true → go_to o b ≢ None
  goes_some None true e = λ q. cc
  goes_some None false e = cc
  goes_some (Some a) b e = λ q. cc

  goes_placed : (o : Option CellId) (b : Bool) (a : CellId) → o ≡ Some a → go_to o b ≢ None
  goes_placed None b a e = cc
  goes_placed (Some d) b a e = λ q. cc

  -- the owner of a new cell is new or is put
  owner_put : (a : CellId) (n : NodeId) (b : Bool) → Has xs (Make a n b) → is_among new n ≡ false → told_goes new xs n ≢ None
  owner_put a n true v e = goes_placed _ _ a (placed_is rev c xs n xs ok (Make a n true) v (same_node-itself n))
  owner_put a n false v e = goes_some _ _ (later (list_any (leaves n) xs) (λ i. any_has (owns_empty n) xs (Make a n false) v (same_node-itself n) i && not (e i)))
    where
      later : (x : Bool) {y : Bool} → y ≡ true → (x || y) ≡ true
      later true e = refl
      later false e = e

  goes_to_cell : (o : Option CellId) (b : Bool) (a : CellId) → go_to o b ≡ Some (To.Cell a) → o ≡ Some a
  goes_to_cell None true a e = cc
  goes_to_cell None false a e = cc
  goes_to_cell (Some d) b a e = ap cell_in e
    where
      cell_in : Option To → Option CellId
      cell_in None = None
      cell_in (Some To.Nowhere) = None
      cell_in (Some (To.Cell x)) = Some x
      cell_in (Some (To.Register f)) = None

  placed_owner : (t : Slot) (y : CellMark) (n : NodeId) → Says t y → places n y ≡ true → t.node ≡ n
  placed_owner t Counted n h e = cc
  placed_owner t (Gap a) n h e = cc
  placed_owner t (Touch a m Stay) n h e = cc
  placed_owner t (Touch a m Here) n h e = h.1 ∙ same_node-true m n e
  placed_owner t (Touch a m Leave) n h e = cc
  placed_owner t (Make a m b) n h e = absurd h
  placed_owner t (Fill a m) n h e = h.1 ∙ same_node-true m n e

  own_found : (s : Slot) → Has c s → (n : NodeId) → told_goes new xs n ≡ Some (To.Cell s.cell) → s.node ≡ n
  own_found s w n e = let r = has_mark l s w in placed_owner s r.0 n (found_says l s r.0 r.1) (placed_here n s r.0 r.1 (goes_to_cell _ _ s.cell e))

  own_new : (a : CellId) (m : NodeId) (b : Bool) → Has xs (Make a m b) → (n : NodeId) → told_goes new xs n ≡ Some (To.Cell a) → m ≡ n
  own_new a m b v n e = ap owner (place_made a m b v n (goes_to_cell _ _ a e))
    where
      owner : CellMark → NodeId
      owner Counted = m
      owner (Gap a) = m
      owner (Touch a k h) = k
      owner (Make a k f) = k
      owner (Fill a k) = k

  root_not_put : may_put c xs root ≡ true → ⊥
  root_not_put h = true-false (same_node-itself root) (not-true _ (and-true (not (same_node root root)) _ h).0)

  root_absent : (a : CellId) (m : NodeId) (k : How) → Has xs (Touch a m k) → m ≡ root → ⊥
  root_absent a m k v e = let u = has_slot l (Touch a m k) refl v in let g = found_says l u.0 _ u.1 in hold.no_root (subst (λ n. StandsIn n c) (g.1 ∙ e) (in_row c u.0 (found_slot l u.0 _ u.1) g.2))

  root_told : told_goes new xs root ≡ None
  root_told = go (placed_at xs root) refl
    where
      no_place : (x : CellMark) → Has xs x → places root x ≡ true → ⊥
      no_place Counted v q = cc
      no_place (Gap a) v q = cc
      no_place (Touch a m Stay) v q = cc
      no_place (Touch a m Here) v q = root_absent a m Here v (same_node-true m root q)
      no_place (Touch a m Leave) v q = cc
      no_place (Make a m b) v q = root_not_put (subst (λ n. may_put c xs n ≡ true) (same_node-true m root (and-true b (same_node m root) q).1) (allowed_make rev c xs xs ok a m b v).2)
      no_place (Fill a m) v q = root_not_put (subst (λ n. may_put c xs n ≡ true) (same_node-true m root q) (allowed_fill rev c xs xs ok a m v))

      no_leave : (x : CellMark) → Has xs x → leaves root x ≡ true → ⊥
      no_leave Counted v q = cc
      no_leave (Gap a) v q = cc
      no_leave (Touch a m Stay) v q = cc
      no_leave (Touch a m Here) v q = cc
      no_leave (Touch a m Leave) v q = root_absent a m Leave v (same_node-true m root q)
      no_leave (Make a m b) v q = cc
      no_leave (Fill a m) v q = cc

      no_hole : (x : CellMark) → Has xs x → owns_empty root x ≡ true → ⊥
      no_hole Counted v q = cc
      no_hole (Gap a) v q = cc
      no_hole (Touch a m h) v q = cc
      no_hole (Make a m b) v q = root_not_put (subst (λ n. may_put c xs n ≡ true) (same_node-true m root (and-true (not b) (same_node m root) q).1) (allowed_make rev c xs xs ok a m b v).2)
      no_hole (Fill a m) v q = cc

      go : (o : Option CellId) → placed_at xs root ≡ o → go_to o (away new xs root) ≡ None
      go None e = (λ i. cond (none_any (leaves root) xs no_leave i || (none_any (owns_empty root) xs no_hole i && not (is_among new root))) (Some To.Nowhere) None)
      go (Some a) e = let r = placed_has root xs a e in absurd (no_place r.0 r.1 r.2)

  new_told : (n : NodeId) → is_among new n ≡ true → told_goes new xs n ≢ Some To.Nowhere
  new_told n e = go (placed_at xs n)
    where
      no_leave : (x : CellMark) → Has xs x → leaves n x ≡ true → ⊥
      no_leave Counted v q = cc
      no_leave (Gap a) v q = cc
      no_leave (Touch a m Stay) v q = cc
      no_leave (Touch a m Here) v q = cc
      no_leave (Touch a m Leave) v q =
          let u = has_slot l (Touch a m Leave) refl v in
          let g = found_says l u.0 _ u.1 in
          true-false e (ap (is_among new) (sym (g.1 ∙ same_node-true m n q)) ∙ all-has (λ (s : Slot). is_among new s.node ≡ false) c u.0 old (found_slot l u.0 _ u.1))
      no_leave (Make a m b) v q = cc
      no_leave (Fill a m) v q = cc

      none : (b : Bool) → (b && false) ≡ false
      none true = refl
      none false = refl

      go : (o : Option CellId) → go_to o (away new xs n) ≢ Some To.Nowhere
      go None = λ q.
          let z : away new xs n ≡ false = (λ i. none_any (leaves n) xs no_leave i || (list_any (owns_empty n) xs && not (e i))) ∙ none (list_any (owns_empty n) xs) in
          let w : ◌≡◌ {A = Option To} None (Some To.Nowhere) = ap (λ b. cond b (Some To.Nowhere) None) (sym z) ∙ q in
          cc
      go (Some a) = λ q. cc

  is_put : (g : Option To) → g ≢ None → is_some g ≡ true
  is_put None h = absurd (h refl)
  is_put (Some to) h = refl

  -- over the cells that are made
  of_made : (P : Owned → Type 0) → ((o : Owned) (b : Bool) → Has xs (Make o.cell o.node b) → P o) → AllByRecursion P (made_in (told new l) c)
  of_made P h = subst (AllByRecursion P) (sym all_made) (has-all P (makes xs) (λ o w. let r = has_makes xs o w in h o r.0 r.1))

  pub told_fits : (in_new : Bool) → (in_new ≡ true → c ≡ []) → IsRising node_cmp (λ (n : NodeId). n) new → AllByRecursion (λ (n : NodeId). n.0.rev ≡ rev) new → is_among new root ≡ false → RowFits (record { rev = rev; in_new = in_new; new = new; part = told new l }) c
  told_fits in_new empty rises revs no_root = record {
    content = hold;
    empty = empty;
    old = old;
    rising = rises;
    new_rev = revs;
    root_old = no_root;
    cell_rev = of_made (λ (o : Owned). o.cell.0.rev ≡ rev) (λ o b v. same_rev-true o.cell.0.rev rev (allowed_make rev c xs xs ok o.cell o.node b v).0);
    fresh = of_made (λ (o : Owned). Has (cells_of c) o.cell → ⊥) (λ o b v. not_there o.cell o.node b v);
    made_once = subst (AreDistinct (λ (o : Owned). o.cell)) (sym all_made) (make_once xs ok);
    behind = behind_cell l;
    owners = of_made (λ (o : Owned). (is_among new o.node ≡ true) ⊎ (told_goes new xs o.node ≢ None)) (λ o b v. elim (is_among new o.node) as (λ z. is_among new o.node ≡ z → (is_among new o.node ≡ true) ⊎ (told_goes new xs o.node ≢ None)) [
      | true ↦ (λ e. inl e)
      | false ↦ (λ e. inr (owner_put o.cell o.node b v e))
    ] refl);
    own_old = has-all (λ (s : Slot). (n : NodeId) → told_goes new xs n ≡ Some (To.Cell s.cell) → s.node ≡ n) c own_found;
    own_made = of_made (λ (o : Owned). (n : NodeId) → told_goes new xs n ≡ Some (To.Cell o.cell) → o.node ≡ n) (λ o b v. own_new o.cell o.node b v);
    root_stays = root_told;
    somewhere = new_told;
    mentions = λ n q e. or-right (list_any (touches n) xs) (is_some (told_goes new xs n)) (is_put (told_goes new xs n) q);
  }
