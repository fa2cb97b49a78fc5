-- A row of documents, of which a change and a step list what they tell, read so: over the step.
use Rattle.std.proofs.Common.{◌≡◌, Bool, true, false, cond, ◌||◌, List, [], ◌∷◌, map, Option, Some, None, refl, sym, ap, ◌∙◌}
use Rattle.std.specs.List.{list_any}
use Rattle.st_ids.specs.declared.names.CellId.{CellId}
use Rattle.st_ids.specs.declared.names.NodeId.{NodeId}
use Rattle.st_kind.specs.Named.{Nodes}
use Rattle.st_marks.specs.declared.intents.To.{To}
use Rattle.st_marks.specs.declared.marks.RowMarks.{RowMarks}
use Rattle.st_marks.specs.Embedding.{row_marks, tells}
use Rattle.st_marks.specs.Row.{CellMark, Counted, Gap, Touch, Make, Fill, merge, spread}
use Rattle.st_moves.specs.inside.Rows.{bare}
use Rattle.st_rows.proofs.KindLaws.{spread-merge}
use Rattle.st_read_laws.specs.Reading.{read}
use Rattle.st_read_laws.proofs.Readings.{read-twice}
use Rattle.st_reading.specs.Over.{over_row}
use Rattle.st_reading.specs.Pieces.{AreAlike}
use Rattle.st_ids.specs.Listing.{item_of}
use Rattle.st_ids.specs.Order.{node_cmp}
use Rattle.st_over.specs.inside.Rows.{row_beside, row_listed}
use Rattle.st_over.proofs.Listed.{any_read}

-- ## What is read so, and what is bare of it

pub twice : (l : Bool) (xs : List CellMark) → AreAlike l (map (read l) xs) xs
twice l [] = refl
twice l (x ∷ xs) = λ i. read-twice l x i ∷ twice l xs i

pub bare_read : (l : Bool) (xs : List CellMark) → AreAlike l (bare (map (read l) xs)) (bare xs)
bare_read l [] = refl
bare_read l (Counted ∷ xs) = ap (λ ys. Counted ∷ ys) (bare_read l xs)
bare_read true (Gap c ∷ xs) = ap (λ ys. Gap c ∷ ys) (bare_read true xs)
bare_read false (Gap c ∷ xs) = ap (λ ys. Counted ∷ ys) (bare_read false xs)
bare_read l (Touch c n h ∷ xs) = ap (λ ys. Counted ∷ ys) (bare_read l xs)
bare_read l (Make c n b ∷ xs) = bare_read l xs
bare_read l (Fill c n ∷ xs) = ap (λ ys. read l (Gap c) ∷ ys) (bare_read l xs)

-- ## Both tell nothing

gap_silent : (l : Bool) (c : CellId) → tells (read l (Gap c)) ≡ false
gap_silent true c = refl
gap_silent false c = refl

both_silent : (a b : Bool) → a ≡ false → b ≡ false → (a || b) ≡ false
both_silent a b e f = rw (e, f) refl

module _ (l : Bool) (target_of : NodeId → Option To) (m : Nodes) where
  silent_over : (xs ys : List CellMark) → list_any tells xs ≡ false → list_any tells ys ≡ false → list_any tells (over_row l target_of m xs ys) ≡ false
  silent_over [] [] e f = refl
  silent_over [] (Counted ∷ ys) e f = refl
  silent_over [] (Gap c ∷ ys) e f = refl
  silent_over [] (Touch c n h ∷ ys) e f = cc
  silent_over [] (Make c n b ∷ ys) e f = cc
  silent_over [] (Fill c n ∷ ys) e f = cc
  silent_over (Touch c n h ∷ xs) ys e f = cc
  silent_over (Make c n b ∷ xs) ys e f = cc
  silent_over (Fill c n ∷ xs) ys e f = cc
  silent_over (Counted ∷ xs) [] e f = refl
  silent_over (Counted ∷ xs) (Counted ∷ ys) e f = silent_over xs ys e f
  silent_over (Counted ∷ xs) (Gap c ∷ ys) e f = silent_over xs ys e f
  silent_over (Counted ∷ xs) (Touch c n h ∷ ys) e f = cc
  silent_over (Counted ∷ xs) (Make c n b ∷ ys) e f = cc
  silent_over (Counted ∷ xs) (Fill c n ∷ ys) e f = cc
  silent_over (Gap d ∷ xs) [] e f = refl
  silent_over (Gap d ∷ xs) (Counted ∷ ys) e f = both_silent (tells (read l (Gap d))) (list_any tells (over_row l target_of m xs ys)) (gap_silent l d) (silent_over xs ys e f)
  silent_over (Gap d ∷ xs) (Gap c ∷ ys) e f = both_silent (tells (read l (Gap d))) (list_any tells (over_row l target_of m xs ys)) (gap_silent l d) (silent_over xs ys e f)
  silent_over (Gap d ∷ xs) (Touch c n h ∷ ys) e f = cc
  silent_over (Gap d ∷ xs) (Make c n b ∷ ys) e f = cc
  silent_over (Gap d ∷ xs) (Fill c n ∷ ys) e f = cc

  -- ## Listed or not

  -- zs is what alike listings come to
  module _ (n : NodeId) (xs ys zs : List CellMark) (comes : (us vs : List CellMark) → AreAlike l us xs → AreAlike l vs ys → over_row l target_of m us vs ≡ zs)
      (first_silent : list_any tells xs ≡ false → xs ≡ bare ys) (then_silent : list_any tells ys ≡ false → ys ≡ bare xs) where
    abbrev Read : List CellMark → RowMarks
    Read us = record { node = n; marks = merge us }

    alike_bare : (us vs : List CellMark) → vs ≡ bare us → AreAlike l (bare (map (read l) us)) vs
    alike_bare us vs e = bare_read l us ∙ ap (map (read l)) (sym e)

    pub listed_over : row_listed l target_of m n (row_marks n (map (read l) xs)) (row_marks n (map (read l) ys)) ≡ row_marks n zs
    listed_over = go (list_any tells (map (read l) xs)) refl (list_any tells (map (read l) ys)) refl
      where
        go : (a : Bool) → list_any tells (map (read l) xs) ≡ a → (b : Bool) → list_any tells (map (read l) ys) ≡ b
            → row_listed l target_of m n (cond a (Some (Read (map (read l) xs))) None) (cond b (Some (Read (map (read l) ys))) None) ≡ row_marks n zs
        go true e true f =
            (λ i. row_marks n (over_row l target_of m (spread-merge (map (read l) xs) i) (spread-merge (map (read l) ys) i)))
            ∙ ap (row_marks n) (comes (map (read l) xs) (map (read l) ys) (twice l xs) (twice l ys))
        go true e false f =
            (λ i. row_marks n (over_row l target_of m (spread-merge (map (read l) xs) i) (bare (spread-merge (map (read l) xs) i))))
            ∙ ap (row_marks n) (comes (map (read l) xs) (bare (map (read l) xs)) (twice l xs) (alike_bare xs ys (then_silent (sym (any_read l ys) ∙ f))))
        go false e true f =
            (λ i. row_marks n (over_row l target_of m (bare (spread-merge (map (read l) ys) i)) (spread-merge (map (read l) ys) i)))
            ∙ ap (row_marks n) (comes (bare (map (read l) ys)) (map (read l) ys) (alike_bare ys xs (first_silent (sym (any_read l xs) ∙ e))) (twice l ys))
        go false e false f =
            let none : list_any tells zs ≡ false = ap (list_any tells) (sym (comes xs ys refl refl)) ∙ silent_over xs ys (sym (any_read l xs) ∙ e) (sym (any_read l ys) ∙ f) in
            ap (λ b. cond b (Some (Read zs)) None) (sym none)

-- ## Names

picked : (n : NodeId) (b : Bool) (us : List CellMark) (r : RowMarks) → cond b (Some (record { node = n; marks = merge us })) None ≡ Some r → r.node ≡ n
picked n true us r h = ap at (sym h)
  where
    at : Option RowMarks → NodeId
    at None = n
    at (Some q) = q.node
picked n false us r h = cc

pub row_named : (l : Bool) (target_of : NodeId → Option To) (m : Nodes) (cs ss : List RowMarks) (n : NodeId) (r : RowMarks) → row_beside l target_of m cs ss n ≡ Some r → r.node ≡ n
row_named l target_of m cs ss n r h = go (item_of node_cmp (λ (r : RowMarks). r.node) cs n) (item_of node_cmp (λ (r : RowMarks). r.node) ss n) h
  where
    one : (us : List CellMark) → row_marks n us ≡ Some r → r.node ≡ n
    one us e = picked n (list_any tells us) us r e

    go : (c s : Option RowMarks) → row_listed l target_of m n c s ≡ Some r → r.node ≡ n
    go None None e = cc
    go (Some c) None e = one (over_row l target_of m (spread c.marks) (bare (spread c.marks))) e
    go None (Some s) e = one (over_row l target_of m (bare (spread s.marks)) (spread s.marks)) e
    go (Some c) (Some s) e = one (over_row l target_of m (spread c.marks) (spread s.marks)) e
