-- A change of a row after a step.
use Rattle.std.proofs.Common.{◌≡◌, ◌≢◌, Bool, true, false, List, [], ◌∷◌, ◌++◌, Option, Some, None, cond, refl, sym, ap, ◌∙◌, subst, inl, inr}
use Rattle.std.specs.Option.{option_or}
use Rattle.st_ids.specs.Order.{same_node}
use Rattle.st_ids.proofs.Orders.{same_node-true, same_cell-true, same_node-itself}
use Rattle.st_ids.specs.declared.names.CellId.{CellId}
use Rattle.st_ids.specs.declared.names.NodeId.{NodeId}
use Rattle.st_marks.specs.declared.intents.Owned.{Owned}
use Rattle.st_marks.specs.declared.intents.To.{To}
use Rattle.st_marks.specs.declared.marks.How.{How}
use Rattle.st_marks.specs.declared.marks.How.TheVariants.{Stay, Here, Leave}
use Rattle.st_marks.specs.declared.places.Slot.{Slot}
use Rattle.st_marks.specs.Extends.{GainsItems, no_more, item_gained, item_kept}
use Rattle.st_marks.specs.Row.{CellMark, Counted, Gap, Touch, Make, Fill, RowPart, SameCell, same_to, how, step_cell, step_row, embed_cell, embed_made, embed_cells, embed_row}
use Rattle.st_marks.specs.How.{is_here}
use Rattle.st_rows.specs.Cells.{touch_of, still, emptied_mark, how_there, filled_mark, rebased_mark, gained_cell, rebased_piece, over_row}
use Rattle.st_rows.specs.Changes.{StandsIn, NamesNoGained}
use Rattle.st_rows.proofs.PiecesBeside.{beside-kept, beside-gained}

pub same_put : (to : To) (c : CellId) → same_to to (To.Cell c) ≡ true → to ≡ To.Cell c
same_put To.Nowhere c e = cc
same_put (To.Cell d) c e = ap (λ (x : CellId). To.Cell x) (same_cell-true d c e)
same_put (To.Register f) c e = cc

-- who is set there is put there
pub is_put : (g : Option To) (a : CellId) → is_here (how g (To.Cell a)) ≡ true → g ≡ Some (To.Cell a)
is_put None a e = cc
is_put (Some to) a e = elim (same_to to (To.Cell a)) as (λ b. same_to to (To.Cell a) ≡ b → is_here (cond b Here Leave) ≡ true → Some to ≡ Some (To.Cell a)) [
  | true ↦ (λ f h. ap (λ (q : To). Some q) (same_put to a f))
  | false ↦ (λ f h. cc)
] refl e

-- ## How the walk goes

over-made : (t : NodeId → Option How) (p : RowPart) (os : List Owned) (xs ys : List CellMark) → over_row t (embed_made p os ++ xs) ys ≡ embed_made p os ++ over_row t xs ys
over-made t p [] xs ys = refl
over-made t p (o ∷ os) xs ys = ap (λ l. Make o.cell o.node (is_here (how (p.target_of o.node) (To.Cell o.cell))) ∷ l) (over-made t p os xs ys)

-- ## What the marks tell of a node

-- what becomes of a node elsewhere, by where it is put
abbrev pub moved_how : Option To → How
moved_how None = Stay
moved_how (Some to) = Leave

still-how : (g : Option To) (here : To) → still (how g here) ≡ moved_how g
still-how None here = refl
still-how (Some to) here = elim (same_to to here) as (λ b. still (cond b Here Leave) ≡ Leave) [ true ↦ refl | false ↦ refl ]

pub not-here : (g : Option To) (here : To) → is_here (how g here) ≡ false → how g here ≡ moved_how g
not-here None here e = refl
not-here (Some to) here e = elim (same_to to here) as (λ b. is_here (cond b Here Leave) ≡ false → cond b Here Leave ≡ Leave) [ true ↦ (λ e. cc) | false ↦ (λ e. refl) ] e

pub is-here : (h : How) → is_here h ≡ true → h ≡ Here
is-here Stay e = cc
is-here Here e = refl
is-here Leave e = cc

-- what the look-up has to tell of a node that stands in the row after the step: whether it is mentioned, and whether it is put
abbrev pub Tells : RowPart → NodeId → Option How → Type 0
Tells p n None = p.mentioned n ≡ false
Tells p n (Some h) = (p.mentioned n ≡ true) × (still h ≡ moved_how (p.target_of n))

module _ (t : NodeId → Option How) (p : RowPart) where
  -- a cell that is filled
  filled-found : (c : CellId) (n : NodeId) (o : Option How) → Tells p n o → filled_mark c n (embed_cell p c n false) o ≡ embed_cell p c n true
  filled-found c n None e = rw e refl
  filled-found c n (Some h) e = rw e.0 (ap (λ (k : How). Touch c n k) (elim (is_here (how (p.target_of n) (To.Cell c))) as (λ b. is_here (how (p.target_of n) (To.Cell c)) ≡ b → how_there (cond b (Fill c n) (Gap c)) h ≡ how (p.target_of n) (To.Cell c)) [
    | true ↦ (λ k. sym (is-here (how (p.target_of n) (To.Cell c)) k))
    | false ↦ (λ k. e.1 ∙ sym (not-here (p.target_of n) (To.Cell c) k))
  ] refl))

  -- a cell that is emptied
  emptied-found : (c : CellId) (n : NodeId) → (p.target_of n ≢ None → p.mentioned n ≡ true) → emptied_mark c n (embed_cell p c n true) ≡ embed_cell p c n false
  emptied-found c n h = elim (p.mentioned n) as (λ b. p.mentioned n ≡ b → emptied_mark c n (cond b (Touch c n (how (p.target_of n) (To.Cell c))) Counted) ≡ embed_cell p c n false) [
    | true ↦ (λ e. touched (how (p.target_of n) (To.Cell c)))
    | false ↦ (λ e. unput (p.target_of n) h e)
  ] refl
    where
      touched : (k : How) → emptied_mark c n (Touch c n k) ≡ cond (is_here k) (Fill c n) (Gap c)
      touched Stay = refl
      touched Here = refl
      touched Leave = refl

      unput : (g : Option To) → (g ≢ None → p.mentioned n ≡ true) → p.mentioned n ≡ false → Gap c ≡ cond (is_here (how g (To.Cell c))) (Fill c n) (Gap c)
      unput None h e = refl
      unput (Some to) h e = let q : ◌≡◌ {A = Bool} false true = sym e ∙ h (λ z. cc) in cc

  pub rebased-found : (m : NodeId → Bool) (c : CellId) (n : NodeId) (a b : Bool) → (a ≡ true → p.target_of n ≢ None → p.mentioned n ≡ true) → (b ≡ true → Tells p n (t n)) → rebased_mark t (embed_cell p c n a) (step_cell m c n a b) ≡ embed_cell p c n b
  rebased-found m c n true true h e = elim (m n) as (λ b. rebased_mark t (embed_cell p c n true) (cond b (Touch c n Stay) Counted) ≡ embed_cell p c n true) [ true ↦ refl | false ↦ refl ]
  rebased-found m c n true false h e = emptied-found c n (h refl)
  rebased-found m c n false true h e = filled-found c n (t n) (e refl)
  rebased-found m c n false false h e = refl

  -- a cell that is gained
  pub gained-found : (c : CellId) (n : NodeId) (b : Bool) → p.target_of n ≢ Some (To.Cell c) → (b ≡ true → Tells p n (t n)) → gained_cell t c n b ≡ embed_cell p c n b
  gained-found c n b h e = go b e
    where
      away : is_here (how (p.target_of n) (To.Cell c)) ≡ false
      away = elsewhere (p.target_of n) h
        where
          elsewhere : (g : Option To) → g ≢ Some (To.Cell c) → is_here (how g (To.Cell c)) ≡ false
          elsewhere None k = refl
          elsewhere (Some to) k = elim (same_to to (To.Cell c)) as (λ b. same_to to (To.Cell c) ≡ b → is_here (cond b Here Leave) ≡ false) [
            | true ↦ (λ q. absurd (k (ap (λ (x : To). Some x) (same_put to c q))))
            | false ↦ (λ q. refl)
          ] refl

      go : (b : Bool) → (b ≡ true → Tells p n (t n)) → gained_cell t c n b ≡ embed_cell p c n b
      go true e = ap (λ x. filled_mark c n x (t n)) (sym (ap (λ b. cond b (Fill c n) (Gap c)) away)) ∙ filled-found c n (t n) (e refl)
      go false e = sym (ap (λ b. cond b (Fill c n) (Gap c)) away)

  over-cells : (m : NodeId → Bool) {c d : List Slot} (g : GainsItems SameCell c d) → NamesNoGained p g → ((n : NodeId) → StandsIn n c → p.target_of n ≢ None → p.mentioned n ≡ true) → ((n : NodeId) → StandsIn n d → Tells p n (t n)) → over_row t (embed_cells p c) (step_row m g) ≡ embed_cells p d
  over-cells m no_more h k e = refl
  over-cells m (item_gained {y = s} {xs = c} {ys = d} g) h k e =
      rw h.0 (beside-gained (rebased_piece t) p c s.cell s.node s.full (step_row m g) ∙ (λ i. gained-found s.cell s.node s.full h.1 (λ q. e s.node (inl (refl, q))) i ∷ over-cells m g h.2 k (λ n w. e n (inr w)) i))
  over-cells m (item_kept {x = s} {y = u} {xs = c} {ys = d} a g) h k e =
      beside-kept (rebased_piece t) p m s.cell s.node s.full u.full (embed_made p (p.new_cells (Some s.cell)) ++ embed_cells p c) (step_row m g)
      ∙ (λ i. rebased-found m s.cell s.node s.full u.full (λ q. k s.node (inl (refl, q))) (λ q. subst (λ n. Tells p n (t n)) (sym a.1) (e u.node (inl (refl, q)))) i
      ∷ (over-made t p (p.new_cells (Some s.cell)) (embed_cells p c) (step_row m g) ∙ ap (λ l. embed_made p (p.new_cells (Some s.cell)) ++ l) (over-cells m g h (λ n w. k n (inr w)) (λ n w. e n (inr w)))) i)
      ∙ (λ i. embed_cell p (a.0 i) (a.1 i) u.full ∷ (embed_made p (p.new_cells (Some (a.0 i))) ++ embed_cells p d))

  -- the law of rebasing, with a look-up that tells what it has to
  pub over_row-embed_row : (m : NodeId → Bool) {c d : List Slot} (g : GainsItems SameCell c d) → NamesNoGained p g → ((n : NodeId) → StandsIn n c → p.target_of n ≢ None → p.mentioned n ≡ true) → ((n : NodeId) → StandsIn n d → Tells p n (t n)) → over_row t (embed_row p c) (step_row m g) ≡ embed_row p d
  over_row-embed_row m {c} {d} g h k e = over-made t p (p.new_cells None) (embed_cells p c) (step_row m g) ∙ ap (λ l. embed_made p (p.new_cells None) ++ l) (over-cells m g h k e)

-- ## The marks of the change tell it

touch-made : (p : RowPart) (n : NodeId) (os : List Owned) (xs : List CellMark) → touch_of (embed_made p os ++ xs) n ≡ touch_of xs n
touch-made p n [] xs = refl
touch-made p n (o ∷ os) xs = touch-made p n os xs

-- a node that isn't mentioned isn't touched
untouched-cell : (p : RowPart) (n : NodeId) → p.mentioned n ≡ false → (xs : List CellMark) → touch_of xs n ≡ None → (c : CellId) (m : NodeId) (b : Bool) → touch_of (embed_cell p c m b ∷ xs) n ≡ None
untouched-cell p n e xs rest c m true = elim (p.mentioned m) as (λ b. p.mentioned m ≡ b → touch_of (cond b (Touch c m (how (p.target_of m) (To.Cell c))) Counted ∷ xs) n ≡ None) [
  | true ↦ (λ h. (λ i. option_or (rest i) (cond (apart h i) (Some (how (p.target_of m) (To.Cell c))) None)))
  | false ↦ (λ h. rest)
] refl
  where
    apart : p.mentioned m ≡ true → same_node m n ≡ false
    apart h = elim (same_node m n) as (λ b. same_node m n ≡ b → b ≡ false) [
      | true ↦ (λ q. let z : ◌≡◌ {A = Bool} true false = sym h ∙ ap p.mentioned (same_node-true m n q) ∙ e in cc)
      | false ↦ (λ q. refl)
    ] refl
untouched-cell p n e xs rest c m false = elim (is_here (how (p.target_of m) (To.Cell c))) as (λ b. touch_of (cond b (Fill c m) (Gap c) ∷ xs) n ≡ None) [ true ↦ rest | false ↦ rest ]

untouched : (p : RowPart) (n : NodeId) → p.mentioned n ≡ false → (c : List Slot) → touch_of (embed_cells p c) n ≡ None
untouched p n e [] = refl
untouched p n e (s ∷ c) = untouched-cell p n e _ (touch-made p n (p.new_cells (Some s.cell)) (embed_cells p c) ∙ untouched p n e c) s.cell s.node s.full

-- a mentioned node is touched where it stands, as it goes
abbrev Right : RowPart → NodeId → Option How → Type 0
Right p n None = Unit {0}
Right p n (Some h) = still h ≡ moved_how (p.target_of n)

abbrev Told : RowPart → NodeId → List Slot → Option How → Type 0
Told p n c o = Right p n o × (StandsIn n c → o ≢ None)

-- behind a cell that doesn't hold it
behind : (p : RowPart) (n : NodeId) (s : Slot) (c : List Slot) (o : Option How) → Told p n c o → ((s.node ≡ n) → s.full ≡ true → ⊥) → Told p n (s ∷ c) o
behind p n s c o r k = (r.0, λ w. elim w [ inl q ↦ absurd (k q.0 q.1) | inr q ↦ r.1 q ])

-- behind its own
own : (p : RowPart) (n : NodeId) (s : Slot) (c : List Slot) (o : Option How) (h : How) → Told p n c o → still h ≡ moved_how (p.target_of n) → Told p n (s ∷ c) (option_or o (Some h))
own p n s c None h r q = (q, λ w z. cc)
own p n s c (Some k) h r q = (r.0, λ w z. cc)

other : (p : RowPart) (n : NodeId) (s : Slot) (c : List Slot) (o : Option How) → Told p n c o → ((s.node ≡ n) → s.full ≡ true → ⊥) → Told p n (s ∷ c) (option_or o None)
other p n s c None r k = behind p n s c None r k
other p n s c (Some h) r k = behind p n s c (Some h) r k

told-cell : (p : RowPart) (n : NodeId) → p.mentioned n ≡ true → (s : Slot) (c : List Slot) (xs : List CellMark) → Told p n c (touch_of xs n) → (a : CellId) (m : NodeId) (b : Bool) → s.node ≡ m → s.full ≡ b → Told p n (s ∷ c) (touch_of (embed_cell p a m b ∷ xs) n)
told-cell p n e s c xs rest a m true f g = elim (p.mentioned m) as (λ b. p.mentioned m ≡ b → Told p n (s ∷ c) (touch_of (cond b (Touch a m (how (p.target_of m) (To.Cell a))) Counted ∷ xs) n)) [
  | true ↦ (λ h. elim (same_node m n) as (λ b. same_node m n ≡ b → Told p n (s ∷ c) (option_or (touch_of xs n) (cond b (Some (how (p.target_of m) (To.Cell a))) None))) [
    | true ↦ (λ q. own p n s c (touch_of xs n) (how (p.target_of m) (To.Cell a)) rest (still-how (p.target_of m) (To.Cell a) ∙ ap (λ x. moved_how (p.target_of x)) (same_node-true m n q)))
    | false ↦ (λ q. other p n s c (touch_of xs n) rest (λ z w. let y : ◌≡◌ {A = Bool} true false = sym (same_node-itself n) ∙ ap (λ x. same_node x n) (sym z ∙ f) ∙ q in cc))
  ] refl)
  | false ↦ (λ h. behind p n s c (touch_of xs n) rest (λ z w. let y : ◌≡◌ {A = Bool} true false = sym e ∙ ap p.mentioned (sym z ∙ f) ∙ h in cc))
] refl
told-cell p n e s c xs rest a m false f g = elim (is_here (how (p.target_of m) (To.Cell a))) as (λ b. Told p n (s ∷ c) (touch_of (cond b (Fill a m) (Gap a) ∷ xs) n)) [
  | true ↦ behind p n s c (touch_of xs n) rest (λ z w. let y : ◌≡◌ {A = Bool} true false = sym w ∙ g in cc)
  | false ↦ behind p n s c (touch_of xs n) rest (λ z w. let y : ◌≡◌ {A = Bool} true false = sym w ∙ g in cc)
]

told : (p : RowPart) (n : NodeId) → p.mentioned n ≡ true → (c : List Slot) → Told p n c (touch_of (embed_cells p c) n)
told p n e [] = (tt, λ w. absurd w)
told p n e (s ∷ c) = told-cell p n e s c _ (subst (Told p n c) (sym (touch-made p n (p.new_cells (Some s.cell)) (embed_cells p c))) (told p n e c)) s.cell s.node s.full refl refl

-- what a look-up in the marks of the change tells
pub marks_tell : (p : RowPart) (c d : List Slot) → ((n : NodeId) → p.mentioned n ≡ true → StandsIn n d → StandsIn n c) → (n : NodeId) → StandsIn n d → Tells p n (touch_of (embed_row p c) n)
marks_tell p c d stays n w = subst (Tells p n) (sym (touch-made p n (p.new_cells None) (embed_cells p c))) (elim (p.mentioned n) as (λ b. p.mentioned n ≡ b → Tells p n (touch_of (embed_cells p c) n)) [
  | true ↦ (λ e. whole (touch_of (embed_cells p c) n) e (told p n e c))
  | false ↦ (λ e. subst (Tells p n) (sym (untouched p n e c)) e)
] refl)
  where
    whole : (o : Option How) → p.mentioned n ≡ true → Told p n c o → Tells p n o
    whole None e r = absurd (r.1 (stays n e w) refl)
    whole (Some h) e r = (e, r.0)
