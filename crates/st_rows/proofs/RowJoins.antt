-- Two changes of a row in turn, as one.
use Rattle.std.proofs.Common.{◌≡◌, ◌≢◌, Bool, true, false, List, [], ◌∷◌, ◌++◌, ◌||◌, Option, Some, None, map, cond, refl, sym, ap, ◌∙◌, inl, inr, append_assoc}
use Rattle.std.specs.List.{AllByRecursion}
use Rattle.std.specs.Option.{option_or}
use Rattle.st_ids.specs.Listing.{Has}
use Rattle.st_ids.specs.declared.names.CellId.{CellId}
use Rattle.st_ids.specs.declared.names.NodeId.{NodeId}
use Rattle.st_marks.specs.declared.intents.Owned.{Owned}
use Rattle.st_marks.specs.declared.intents.To.{To}
use Rattle.st_marks.specs.declared.marks.How.{How}
use Rattle.st_marks.specs.declared.marks.How.TheVariants.{Stay, Here, Leave}
use Rattle.st_marks.specs.declared.places.Slot.{Slot}
use Rattle.st_marks.specs.Row.{CellMark, Counted, Gap, Touch, Make, Fill, RowPart, same_to, how, embed_cell, embed_made, embed_cells, embed_row}
use Rattle.st_marks.specs.How.{is_here}
use Rattle.st_rows.specs.Cells.{joined_mark, join_row}
use Rattle.st_rows.proofs.RowRebases.{same_put}
use Rattle.st_rows.specs.Changes.{StandsIn, full_after, made_cells, carried_cells, carried_row, interleaved_cells, goes_in_turn, AreJoined}

-- ## The walk

join-made_then : (q : RowPart) (os : List Owned) (xs ys : List CellMark) → join_row xs (embed_made q os ++ ys) ≡ embed_made q os ++ join_row xs ys
join-made_then q [] xs ys = refl
join-made_then q (o ∷ os) xs ys = ap (λ l. Make o.cell o.node (is_here (how (q.target_of o.node) (To.Cell o.cell))) ∷ l) (join-made_then q os xs ys)

join-found : (q : RowPart) (x : CellMark) (c : CellId) (n : NodeId) (b : Bool) (xs ys : List CellMark) → join_row (x ∷ xs) (embed_cell q c n b ∷ ys) ≡ joined_mark x (embed_cell q c n b) ∷ join_row xs ys
join-found q x c n true xs ys = elim (q.mentioned n) as (λ b. join_row (x ∷ xs) (cond b (Touch c n (how (q.target_of n) (To.Cell c))) Counted ∷ ys) ≡ joined_mark x (cond b (Touch c n (how (q.target_of n) (To.Cell c))) Counted) ∷ join_row xs ys) [ true ↦ refl | false ↦ refl ]
join-found q x c n false xs ys = elim (is_here (how (q.target_of n) (To.Cell c))) as (λ b. join_row (x ∷ xs) (cond b (Fill c n) (Gap c) ∷ ys) ≡ joined_mark x (cond b (Fill c n) (Gap c)) ∷ join_row xs ys) [ true ↦ refl | false ↦ refl ]

embed_made-append : (j : RowPart) (xs ys : List Owned) → embed_made j (xs ++ ys) ≡ embed_made j xs ++ embed_made j ys
embed_made-append j [] ys = refl
embed_made-append j (o ∷ xs) ys = ap (λ l. Make o.cell o.node (is_here (how (j.target_of o.node) (To.Cell o.cell))) ∷ l) (embed_made-append j xs ys)

-- ## One cell

-- how a node goes, seen from a cell: it isn't put, put there, or put elsewhere
abbrev told_how : Option Bool → How
told_how None = Stay
told_how (Some true) = Here
told_how (Some false) = Leave

abbrev told_full : Option Bool → Bool → Bool
told_full None b = b
told_full (Some s) b = s

abbrev seen_from : CellId → Option To → Option Bool
seen_from c None = None
seen_from c (Some to) = Some (same_to to (To.Cell c))

how-told : (c : CellId) (g : Option To) → how g (To.Cell c) ≡ told_how (seen_from c g)
how-told c None = refl
how-told c (Some to) = elim (same_to to (To.Cell c)) as (λ b. cond b Here Leave ≡ told_how (Some b)) [ true ↦ refl | false ↦ refl ]

full-told : (c : CellId) (g : Option To) (b : Bool) → full_after g c b ≡ told_full (seen_from c g) b
full-told c None b = refl
full-told c (Some to) b = refl

both-told : (c : CellId) (g h : Option To) → seen_from c (option_or g h) ≡ option_or (seen_from c g) (seen_from c h)
both-told c None h = refl
both-told c (Some to) h = refl

put-told : (c : CellId) (g : Option To) → seen_from c g ≢ None → g ≢ None
put-told c None h = absurd (h refl)
put-told c (Some to) h = λ e. cc

module _ (c : CellId) (n : NodeId) where
  abbrev told_cell : Bool → Option Bool → Bool → CellMark
  told_cell m y true = cond m (Touch c n (told_how y)) Counted
  told_cell m y false = cond (is_here (told_how y)) (Fill c n) (Gap c)

  full-joined : (x y : Option Bool) (mp mq : Bool) → (x ≢ None → mp ≡ true) → (told_full x true ≡ true → y ≢ None → mq ≡ true) → joined_mark (cond mp (Touch c n (told_how x)) Counted) (told_cell mq y (told_full x true)) ≡ cond (mp || mq) (Touch c n (told_how (option_or y x))) Counted
  full-joined None None true true hp hq = refl
  full-joined None None true false hp hq = refl
  full-joined None None false true hp hq = refl
  full-joined None None false false hp hq = refl
  full-joined None (Some true) true true hp hq = refl
  full-joined None (Some true) true false hp hq = let e : ◌≡◌ {A = Bool} false true = hq refl (λ z. cc) in cc
  full-joined None (Some true) false true hp hq = refl
  full-joined None (Some true) false false hp hq = let e : ◌≡◌ {A = Bool} false true = hq refl (λ z. cc) in cc
  full-joined None (Some false) true true hp hq = refl
  full-joined None (Some false) true false hp hq = let e : ◌≡◌ {A = Bool} false true = hq refl (λ z. cc) in cc
  full-joined None (Some false) false true hp hq = refl
  full-joined None (Some false) false false hp hq = let e : ◌≡◌ {A = Bool} false true = hq refl (λ z. cc) in cc
  full-joined (Some true) None true true hp hq = refl
  full-joined (Some true) None true false hp hq = refl
  full-joined (Some true) None false true hp hq = let e : ◌≡◌ {A = Bool} false true = hp (λ z. cc) in cc
  full-joined (Some true) None false false hp hq = let e : ◌≡◌ {A = Bool} false true = hp (λ z. cc) in cc
  full-joined (Some true) (Some true) true true hp hq = refl
  full-joined (Some true) (Some true) true false hp hq = let e : ◌≡◌ {A = Bool} false true = hq refl (λ z. cc) in cc
  full-joined (Some true) (Some true) false true hp hq = let e : ◌≡◌ {A = Bool} false true = hp (λ z. cc) in cc
  full-joined (Some true) (Some true) false false hp hq = let e : ◌≡◌ {A = Bool} false true = hp (λ z. cc) in cc
  full-joined (Some true) (Some false) true true hp hq = refl
  full-joined (Some true) (Some false) true false hp hq = let e : ◌≡◌ {A = Bool} false true = hq refl (λ z. cc) in cc
  full-joined (Some true) (Some false) false true hp hq = let e : ◌≡◌ {A = Bool} false true = hp (λ z. cc) in cc
  full-joined (Some true) (Some false) false false hp hq = let e : ◌≡◌ {A = Bool} false true = hp (λ z. cc) in cc
  full-joined (Some false) None true true hp hq = refl
  full-joined (Some false) None true false hp hq = refl
  full-joined (Some false) None false true hp hq = let e : ◌≡◌ {A = Bool} false true = hp (λ z. cc) in cc
  full-joined (Some false) None false false hp hq = let e : ◌≡◌ {A = Bool} false true = hp (λ z. cc) in cc
  full-joined (Some false) (Some true) true true hp hq = refl
  full-joined (Some false) (Some true) true false hp hq = refl
  full-joined (Some false) (Some true) false true hp hq = let e : ◌≡◌ {A = Bool} false true = hp (λ z. cc) in cc
  full-joined (Some false) (Some true) false false hp hq = let e : ◌≡◌ {A = Bool} false true = hp (λ z. cc) in cc
  full-joined (Some false) (Some false) true true hp hq = refl
  full-joined (Some false) (Some false) true false hp hq = refl
  full-joined (Some false) (Some false) false true hp hq = let e : ◌≡◌ {A = Bool} false true = hp (λ z. cc) in cc
  full-joined (Some false) (Some false) false false hp hq = let e : ◌≡◌ {A = Bool} false true = hp (λ z. cc) in cc

  empty-joined : (x y : Option Bool) (mq : Bool) → (told_full x false ≡ true → y ≢ None → mq ≡ true) → joined_mark (cond (is_here (told_how x)) (Fill c n) (Gap c)) (told_cell mq y (told_full x false)) ≡ cond (is_here (told_how (option_or y x))) (Fill c n) (Gap c)
  empty-joined None None true hq = refl
  empty-joined None None false hq = refl
  empty-joined None (Some true) true hq = refl
  empty-joined None (Some true) false hq = refl
  empty-joined None (Some false) true hq = refl
  empty-joined None (Some false) false hq = refl
  empty-joined (Some true) None true hq = refl
  empty-joined (Some true) None false hq = refl
  empty-joined (Some true) (Some true) true hq = refl
  empty-joined (Some true) (Some true) false hq = let e : ◌≡◌ {A = Bool} false true = hq refl (λ z. cc) in cc
  empty-joined (Some true) (Some false) true hq = refl
  empty-joined (Some true) (Some false) false hq = let e : ◌≡◌ {A = Bool} false true = hq refl (λ z. cc) in cc
  empty-joined (Some false) None true hq = refl
  empty-joined (Some false) None false hq = refl
  empty-joined (Some false) (Some true) true hq = refl
  empty-joined (Some false) (Some true) false hq = refl
  empty-joined (Some false) (Some false) true hq = refl
  empty-joined (Some false) (Some false) false hq = refl

  made-joined : (x y : Option Bool) (mq : Bool) → (is_here (told_how x) ≡ true → y ≢ None → mq ≡ true) → joined_mark (Make c n (is_here (told_how x))) (told_cell mq y (is_here (told_how x))) ≡ Make c n (is_here (told_how (option_or y x)))
  made-joined None None true hq = refl
  made-joined None None false hq = refl
  made-joined None (Some true) true hq = refl
  made-joined None (Some true) false hq = refl
  made-joined None (Some false) true hq = refl
  made-joined None (Some false) false hq = refl
  made-joined (Some true) None true hq = refl
  made-joined (Some true) None false hq = refl
  made-joined (Some true) (Some true) true hq = refl
  made-joined (Some true) (Some true) false hq = let e : ◌≡◌ {A = Bool} false true = hq refl (λ z. cc) in cc
  made-joined (Some true) (Some false) true hq = refl
  made-joined (Some true) (Some false) false hq = let e : ◌≡◌ {A = Bool} false true = hq refl (λ z. cc) in cc
  made-joined (Some false) None true hq = refl
  made-joined (Some false) None false hq = refl
  made-joined (Some false) (Some true) true hq = refl
  made-joined (Some false) (Some true) false hq = refl
  made-joined (Some false) (Some false) true hq = refl
  made-joined (Some false) (Some false) false hq = refl

cell-told : (q : RowPart) (c : CellId) (n : NodeId) (b : Bool) → embed_cell q c n b ≡ told_cell c n (q.mentioned n) (seen_from c (q.target_of n)) b
cell-told q c n true = λ i. cond (q.mentioned n) (Touch c n (how-told c (q.target_of n) i)) Counted
cell-told q c n false = λ i. cond (is_here (how-told c (q.target_of n) i)) (Fill c n) (Gap c)

-- who isn't put into a cell by the first comes into it by the second alone
alone : (g h : Option To) (c : CellId) → h ≢ Some (To.Cell c) → is_here (how g (To.Cell c)) ≡ is_here (how (option_or g h) (To.Cell c))
alone (Some to) h c z = refl
alone None None c z = refl
alone None (Some to) c z = elim (same_to to (To.Cell c)) as (λ b. same_to to (To.Cell c) ≡ b → false ≡ is_here (cond b Here Leave)) [ true ↦ (λ e. absurd (z (ap (λ (x : To). Some x) (same_put to c e)))) | false ↦ (λ e. refl) ] refl

behind-made : (p : RowPart) (os : List Owned) (n : NodeId) (d : List Slot) → StandsIn n d → StandsIn n (made_cells p os ++ d)
behind-made p [] n d w = w
behind-made p (o ∷ os) n d w = inr (behind-made p os n d w)

module _ (p q j : RowPart) where
  both-how : (c : CellId) (n : NodeId) → how (goes_in_turn p q n) (To.Cell c) ≡ told_how (option_or (seen_from c (q.target_of n)) (seen_from c (p.target_of n)))
  both-how c n = how-told c (goes_in_turn p q n) ∙ ap told_how (both-told c (q.target_of n) (p.target_of n))

  -- what the second finds of a cell that the first found
  then-found : (c : CellId) (n : NodeId) (b : Bool) → embed_cell q c n (full_after (p.target_of n) c b) ≡ told_cell c n (q.mentioned n) (seen_from c (q.target_of n)) (told_full (seen_from c (p.target_of n)) b)
  then-found c n b = cell-told q c n (full_after (p.target_of n) c b) ∙ ap (told_cell c n (q.mentioned n) (seen_from c (q.target_of n))) (full-told c (p.target_of n) b)

  joined-cell : (c : CellId) (n : NodeId) (b : Bool) → (b ≡ true → j.mentioned n ≡ (p.mentioned n || q.mentioned n)) → (b ≡ true → how (j.target_of n) (To.Cell c) ≡ how (goes_in_turn p q n) (To.Cell c)) → is_here (how (j.target_of n) (To.Cell c)) ≡ is_here (how (goes_in_turn p q n) (To.Cell c))
      → (b ≡ true → p.target_of n ≢ None → p.mentioned n ≡ true) → (full_after (p.target_of n) c b ≡ true → q.target_of n ≢ None → q.mentioned n ≡ true) → joined_mark (embed_cell p c n b) (embed_cell q c n (full_after (p.target_of n) c b)) ≡ embed_cell j c n b
  joined-cell c n true mj gj cj pm qm =
      (λ i. joined_mark (cond (p.mentioned n) (Touch c n (how-told c (p.target_of n) i)) Counted) (then-found c n true i))
      ∙ full-joined c n (seen_from c (p.target_of n)) (seen_from c (q.target_of n)) (p.mentioned n) (q.mentioned n) (λ z. pm refl (put-told c (p.target_of n) z)) (λ f z. qm (full-told c (p.target_of n) true ∙ f) (put-told c (q.target_of n) z))
      ∙ (λ i. cond (sym (mj refl) i) (Touch c n (sym (gj refl ∙ both-how c n) i)) Counted)
  joined-cell c n false mj gj cj pm qm =
      (λ i. joined_mark (cond (is_here (how-told c (p.target_of n) i)) (Fill c n) (Gap c)) (then-found c n false i))
      ∙ empty-joined c n (seen_from c (p.target_of n)) (seen_from c (q.target_of n)) (q.mentioned n) (λ f z. qm (full-told c (p.target_of n) false ∙ f) (put-told c (q.target_of n) z))
      ∙ (λ i. cond (sym (cj ∙ ap is_here (both-how c n)) i) (Fill c n) (Gap c))

  joined-made : (c : CellId) (n : NodeId) → is_here (how (j.target_of n) (To.Cell c)) ≡ is_here (how (goes_in_turn p q n) (To.Cell c)) → (is_here (how (p.target_of n) (To.Cell c)) ≡ true → q.target_of n ≢ None → q.mentioned n ≡ true)
      → joined_mark (Make c n (is_here (how (p.target_of n) (To.Cell c)))) (embed_cell q c n (is_here (how (p.target_of n) (To.Cell c)))) ≡ Make c n (is_here (how (j.target_of n) (To.Cell c)))
  joined-made c n cj qm =
      (λ i. joined_mark (Make c n (is_here (how-told c (p.target_of n) i))) ((cell-told q c n (is_here (how (p.target_of n) (To.Cell c))) ∙ ap (λ h. told_cell c n (q.mentioned n) (seen_from c (q.target_of n)) (is_here h)) (how-told c (p.target_of n))) i))
      ∙ made-joined c n (seen_from c (p.target_of n)) (seen_from c (q.target_of n)) (q.mentioned n) (λ f z. qm (ap is_here (how-told c (p.target_of n)) ∙ f) (put-told c (q.target_of n) z))
      ∙ (λ i. Make c n (sym (cj ∙ ap is_here (both-how c n)) i))

  -- ## The row

  -- a cell that the second makes is filled as the second says
  made-alone : (os : List Owned) → ((n : NodeId) (a : CellId) → is_here (how (j.target_of n) (To.Cell a)) ≡ is_here (how (goes_in_turn p q n) (To.Cell a))) → AllByRecursion (λ (o : Owned). p.target_of o.node ≢ Some (To.Cell o.cell)) os → embed_made q os ≡ embed_made j os
  made-alone [] cj k = refl
  made-alone (o ∷ os) cj k = λ i. Make o.cell o.node ((alone (q.target_of o.node) (p.target_of o.node) o.cell k.0 ∙ sym (cj o.node o.cell)) i) ∷ made-alone os cj k.1 i

  module _ (cj : (n : NodeId) (a : CellId) → is_here (how (j.target_of n) (To.Cell a)) ≡ is_here (how (goes_in_turn p q n) (To.Cell a))) (older : (a : Option CellId) → AllByRecursion (λ (o : Owned). p.target_of o.node ≢ Some (To.Cell o.cell)) (q.new_cells a)) where
    -- cells that the second makes, then both groups of the first
    gathered : (new os : List Owned) (R : List CellMark) → embed_made j new ++ (embed_made j os ++ R) ≡ embed_made j (new ++ os) ++ R
    gathered new os R = sym (append_assoc (embed_made j new) (embed_made j os) R) ∙ ap (λ l. l ++ R) (sym (embed_made-append j new os))

    join-made : (os : List Owned) (xs : List CellMark) (d : List Slot) → ((n : NodeId) → StandsIn n (made_cells p os ++ d) → q.target_of n ≢ None → q.mentioned n ≡ true)
        → join_row (embed_made p os ++ xs) (embed_cells q (made_cells p os ++ d)) ≡ embed_made j (interleaved_cells q os) ++ join_row xs (embed_cells q d)
    join-made [] xs d qm = refl
    join-made (o ∷ os) xs d qm =
        join-found q (Make o.cell o.node (is_here (how (p.target_of o.node) (To.Cell o.cell)))) o.cell o.node (is_here (how (p.target_of o.node) (To.Cell o.cell))) _ _
        ∙ (λ i. joined-made o.cell o.node (cj o.node o.cell) (λ f z. qm o.node (inl (refl, f)) z) i
        ∷ (join-made_then q (q.new_cells (Some o.cell)) (embed_made p os ++ xs) (embed_cells q (made_cells p os ++ d))
        ∙ (λ k. made-alone (q.new_cells (Some o.cell)) cj (older (Some o.cell)) k ++ join-made os xs d (λ n w. qm n (inr w)) k)
        ∙ gathered (q.new_cells (Some o.cell)) (interleaved_cells q os) (join_row xs (embed_cells q d))) i)

    join-cells : (c : List Slot) → ((a : CellId) → Has (map (λ (s : Slot). s.cell) c) a → j.new_cells (Some a) ≡ q.new_cells (Some a) ++ interleaved_cells q (p.new_cells (Some a))) → ((n : NodeId) → StandsIn n c → j.mentioned n ≡ (p.mentioned n || q.mentioned n))
        → ((n : NodeId) (a : CellId) → StandsIn n c → how (j.target_of n) (To.Cell a) ≡ how (goes_in_turn p q n) (To.Cell a)) → ((n : NodeId) → StandsIn n c → p.target_of n ≢ None → p.mentioned n ≡ true) → ((n : NodeId) → StandsIn n (carried_cells p c) → q.target_of n ≢ None → q.mentioned n ≡ true)
        → join_row (embed_cells p c) (embed_cells q (carried_cells p c)) ≡ embed_cells j c
    join-cells [] b mj gj pm qm = refl
    join-cells (s ∷ c) b mj gj pm qm =
        join-found q (embed_cell p s.cell s.node s.full) s.cell s.node (full_after (p.target_of s.node) s.cell s.full) _ _
        ∙ (λ i. joined-cell s.cell s.node s.full (λ e. mj s.node (inl (refl, e))) (λ e. gj s.node s.cell (inl (refl, e))) (cj s.node s.cell) (λ e. pm s.node (inl (refl, e))) (λ e. qm s.node (inl (refl, e))) i
        ∷ (join-made_then q (q.new_cells (Some s.cell)) (embed_made p (p.new_cells (Some s.cell)) ++ embed_cells p c) (embed_cells q (made_cells p (p.new_cells (Some s.cell)) ++ carried_cells p c))
        ∙ (λ k. made-alone (q.new_cells (Some s.cell)) cj (older (Some s.cell)) k ++ join-made (p.new_cells (Some s.cell)) (embed_cells p c) (carried_cells p c) (λ n w. qm n (inr w)) k)
        ∙ gathered (q.new_cells (Some s.cell)) (interleaved_cells q (p.new_cells (Some s.cell))) (join_row (embed_cells p c) (embed_cells q (carried_cells p c)))
        ∙ (λ k. embed_made j (sym (b s.cell (inl refl)) k) ++ join-cells c (λ a h. b a (inr h)) (λ n w. mj n (inr w)) (λ n a w. gj n a (inr w)) (λ n w. pm n (inr w)) (λ n w. qm n (inr (behind-made p (p.new_cells (Some s.cell)) n (carried_cells p c) w))) k)) i)

-- the law of joining
pub join_row-embed_row : (p q j : RowPart) (c : List Slot) → AreJoined p q c j → ((n : NodeId) → StandsIn n c → p.target_of n ≢ None → p.mentioned n ≡ true) → ((n : NodeId) → StandsIn n (carried_row p c) → q.target_of n ≢ None → q.mentioned n ≡ true)
    → join_row (embed_row p c) (embed_row q (carried_row p c)) ≡ embed_row j c
join_row-embed_row p q j c both pm qm =
    join-made_then q (q.new_cells None) (embed_row p c) (embed_cells q (carried_row p c))
    ∙ (λ k. made-alone p q j (q.new_cells None) both.comes (both.older None) k ++ join-made p q j both.comes both.older (p.new_cells None) (embed_cells p c) (carried_cells p c) qm k)
    ∙ gathered p q j both.comes both.older (q.new_cells None) (interleaved_cells q (p.new_cells None)) (join_row (embed_cells p c) (embed_cells q (carried_cells p c)))
    ∙ (λ k. embed_made j (sym both.first k) ++ join-cells p q j both.comes both.older c both.behind both.mentions both.target_of pm (λ n w. qm n (behind-made p (p.new_cells None) n (carried_cells p c) w)) k)
