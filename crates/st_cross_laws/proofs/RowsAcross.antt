-- A row of documents, of which a change and a step list what they tell, read so: the step's after the change.
use Rattle.std.proofs.Common.{◌≡◌, Bool, true, false, cond, ◌||◌, ◌&&◌, List, [], ◌∷◌, map, Option, Some, None, refl, sym, ap, ◌∙◌}
use Rattle.std.specs.List.{list_any}
use Rattle.st_ids.specs.Listing.{item_of}
use Rattle.st_ids.specs.Order.{node_cmp}
use Rattle.st_ids.specs.declared.names.CellId.{CellId}
use Rattle.st_ids.specs.declared.names.NodeId.{NodeId}
use Rattle.st_kind.specs.Named.{Nodes, named_beside}
use Rattle.st_marks.specs.declared.changes.Change.{Change}
use Rattle.st_marks.specs.declared.intents.Intent.{Intent}
use Rattle.st_marks.specs.declared.intents.To.{To}
use Rattle.st_marks.specs.declared.marks.RowMarks.{RowMarks}
use Rattle.st_marks.specs.declared.steps.Step.{Step}
use Rattle.st_marks.specs.declared.verdicts.Verdict.{Verdict}
use Rattle.st_marks.specs.Document.{Document, content}
use Rattle.st_marks.specs.Embedding.{IsEmbedding, is_among, row_marks, row_part, tells}
use Rattle.st_marks.specs.Extends.{GainsItems, IsExtendedBy}
use Rattle.st_marks.specs.Intent.{Fits, is_new, put_of}
use Rattle.st_marks.specs.Row.{CellMark, Counted, Gap, Touch, Make, Fill, SameCell, embed_row, merge, step_row}
use Rattle.st_marks.specs.Step.{IsStep}
use Rattle.st_marks.specs.Verdict.{carried_document}
use Rattle.st_moves.specs.inside.Rows.{bare}
use Rattle.st_moves.proofs.BesideRows.{silent-change, silent-step}
use Rattle.st_rows.proofs.KindLaws.{spread-merge}
use Rattle.st_rows.specs.Changes.{placed_by}
use Rattle.st_rows.specs.Rows.{NamesMoved}
use Rattle.st_rows.specs.Sequence.{ListsNew}
use Rattle.st_read_laws.specs.Reading.{read, read_change, read_step}
use Rattle.st_reading.specs.Bridge.{crossed_cell, crossed_piece, crossed_row, is_void}
use Rattle.st_reading.specs.Pieces.{AreAlike}
use Rattle.st_reading.proofs.CountedPieces.{alike_beside}
use Rattle.st_reading.proofs.DocumentRowsCrossed.{crossed, crossed_blind}
use Rattle.st_over.proofs.Listed.{any_read, rows_read}
use Rattle.st_over.proofs.ReadRows.{bare_read, twice}
use Rattle.st_over.specs.Across.{row_across}

gap_silent : (l : Bool) (c : CellId) → tells (read l (Gap c)) ≡ false
gap_silent true c = refl
gap_silent false c = refl

both_silent : (a b : Bool) → a ≡ false → b ≡ false → (a || b) ≡ false
both_silent a b e f = rw (e, f) refl

module _ (l was is : Bool) (placed : Nodes) (t : NodeId → Option To) where
  abbrev row : List CellMark → List CellMark → List CellMark
  row xs ys = crossed_row l was is placed t xs ys

  counted : (b : Bool) → tells (read l (cond b Counted Counted)) ≡ false
  counted true = refl
  counted false = refl

  gap : (c : CellId) (b : Bool) → tells (read l (cond b (Gap c) (Gap c))) ≡ false
  gap c true = gap_silent l c
  gap c false = gap_silent l c

  silent_row : (xs ys : List CellMark) → list_any tells xs ≡ false → list_any tells ys ≡ false → list_any tells (row xs ys) ≡ false
  silent_row [] [] e f = refl
  silent_row [] (Counted ∷ ys) e f = refl
  silent_row [] (Gap c ∷ ys) e f = refl
  silent_row [] (Touch c n h ∷ ys) e f = cc
  silent_row [] (Make c n b ∷ ys) e f = cc
  silent_row [] (Fill c n ∷ ys) e f = cc
  silent_row (Touch c n h ∷ xs) ys e f = cc
  silent_row (Make c n b ∷ xs) ys e f = cc
  silent_row (Fill c n ∷ xs) ys e f = cc
  silent_row (Counted ∷ xs) [] e f = refl
  silent_row (Counted ∷ xs) (Counted ∷ ys) e f = both_silent (tells (read l (crossed_cell was is placed t Counted Counted))) (list_any tells (row xs ys)) (counted (was && is)) (silent_row xs ys e f)
  silent_row (Counted ∷ xs) (Gap c ∷ ys) e f = both_silent (tells (read l (crossed_cell was is placed t Counted (Gap c)))) (list_any tells (row xs ys)) (gap c (was && is)) (silent_row xs ys e f)
  silent_row (Counted ∷ xs) (Touch c n h ∷ ys) e f = cc
  silent_row (Counted ∷ xs) (Make c n b ∷ ys) e f = cc
  silent_row (Counted ∷ xs) (Fill c n ∷ ys) e f = cc
  silent_row (Gap d ∷ xs) [] e f = refl
  silent_row (Gap d ∷ xs) (Counted ∷ ys) e f = both_silent (tells (read l (crossed_cell was is placed t (Gap d) Counted))) (list_any tells (row xs ys)) (counted (was && is)) (silent_row xs ys e f)
  silent_row (Gap d ∷ xs) (Gap c ∷ ys) e f = both_silent (tells (read l (crossed_cell was is placed t (Gap d) (Gap c)))) (list_any tells (row xs ys)) (gap c (was && is)) (silent_row xs ys e f)
  silent_row (Gap d ∷ xs) (Touch c n h ∷ ys) e f = cc
  silent_row (Gap d ∷ xs) (Make c n b ∷ ys) e f = cc
  silent_row (Gap d ∷ xs) (Fill c n ∷ ys) e f = cc

  -- zs is what alike listings come to
  module _ (n : NodeId) (xs ys zs : List CellMark) (comes : (us vs : List CellMark) → AreAlike l us xs → AreAlike l vs ys → row us vs ≡ zs)
      (first_silent : list_any tells xs ≡ false → xs ≡ bare ys) (then_silent : list_any tells ys ≡ false → ys ≡ bare xs) where
    abbrev Read : List CellMark → RowMarks
    Read us = record { node = n; marks = merge us }

    alike_bare : (us vs : List CellMark) → vs ≡ bare us → AreAlike l (bare (map (read l) us)) vs
    alike_bare us vs e = bare_read l us ∙ ap (map (read l)) (sym e)

    listed_across : row_across l was is placed t n (row_marks n (map (read l) xs)) (row_marks n (map (read l) ys)) ≡ row_marks n zs
    listed_across = go (list_any tells (map (read l) xs)) refl (list_any tells (map (read l) ys)) refl
      where
        go : (a : Bool) → list_any tells (map (read l) xs) ≡ a → (b : Bool) → list_any tells (map (read l) ys) ≡ b
            → row_across l was is placed t n (cond a (Some (Read (map (read l) xs))) None) (cond b (Some (Read (map (read l) ys))) None) ≡ row_marks n zs
        go true e true f =
            (λ i. row_marks n (row (spread-merge (map (read l) xs) i) (spread-merge (map (read l) ys) i)))
            ∙ ap (row_marks n) (comes (map (read l) xs) (map (read l) ys) (twice l xs) (twice l ys))
        go true e false f =
            (λ i. row_marks n (row (spread-merge (map (read l) xs) i) (bare (spread-merge (map (read l) xs) i))))
            ∙ ap (row_marks n) (comes (map (read l) xs) (bare (map (read l) xs)) (twice l xs) (alike_bare xs ys (then_silent (sym (any_read l ys) ∙ f))))
        go false e true f =
            (λ i. row_marks n (row (bare (spread-merge (map (read l) ys) i)) (spread-merge (map (read l) ys) i)))
            ∙ ap (row_marks n) (comes (bare (map (read l) ys)) (map (read l) ys) (alike_bare ys xs (first_silent (sym (any_read l xs) ∙ e))) (twice l ys))
        go false e false f =
            let none : list_any tells zs ≡ false = ap (list_any tells) (sym (comes xs ys refl refl)) ∙ silent_row xs ys (sym (any_read l xs) ∙ e) (sym (any_read l ys) ∙ f) in
            ap (λ b. cond b (Some (Read zs)) None) (sym none)

-- ## Over documents

module _ (l : Bool) (D E : Document) (N : Intent) (C : Change) (S : Step) (new : List NodeId) (v u : Verdict) (n : NodeId)
    (x : IsExtendedBy D E) (f : Fits D N) (g : Fits E N) (change : IsEmbedding D N C) (step : IsStep D E S) (listed : ListsNew N new) where
  abbrev K : Nodes
  K = named_beside step.mentioned change.mentioned (is_among new) (is_void v) (is_void u)

  abbrev xs : List CellMark
  xs = embed_row (row_part change.mentioned N n) (content D n)

  abbrev ys : List CellMark
  ys = step_row step.mentioned (step.grows n)

  abbrev at : NodeId → Nodes
  at k = placed_by (is_new N k) new

  pub row_crossed_there : (h : GainsItems SameCell (content (carried_document v D N) n) (content (carried_document u E N) n))
      × (row_across l (is_void v) (is_void u) (at n) (put_of N) n
      (item_of node_cmp (λ (r : RowMarks). r.node) (read_change l C).rows n) (item_of node_cmp (λ (r : RowMarks). r.node) (read_step l S).rows n)
      ≡ row_marks n (map (read l) (step_row K h))) × NamesMoved K h
  row_crossed_there =
      let led = crossed D E N x f g C S change step new listed l v u n xs ys refl refl in (
        led.0,
        (λ i. row_across l (is_void v) (is_void u) (at n) (put_of N) n ((rows_read l C.rows (λ k. embed_row (row_part change.mentioned N k) (content D k)) change.rows).at_each n i) ((rows_read l S.rows (λ k. step_row step.mentioned (step.grows k)) step.rows).at_each n i))
            ∙ listed_across l (is_void v) (is_void u) (at n) (put_of N) n xs ys (map (read l) (step_row K led.0))
            (λ us vs a b. alike_beside l (λ p. read l (crossed_piece (is_void v) (is_void u) (at n) (put_of N) p)) us vs xs ys (crossed_blind l (is_void v) (is_void u) (at n) (put_of N)) a b ∙ led.1)
            (silent-change (row_part change.mentioned N n) step.mentioned (step.grows n)) (silent-step (row_part change.mentioned N n) step.mentioned (step.grows n)),
        led.2,
      )
