-- The rows of what is listed are those of the step, with all that is named.
use Rattle.std.proofs.Common.{◌≡◌, Bool, true, false, ◌||◌, List, [], ◌∷◌, map, Some, None, MatchOption, cond, refl, sym, ap, ◌∙◌, subst, inl, inr}
use Rattle.std.specs.List.{list_any}
use Rattle.st_ids.specs.Listing.{Has, item_of}
use Rattle.st_ids.specs.Order.{node_cmp}
use Rattle.st_ids.specs.declared.names.CellId.{CellId}
use Rattle.st_ids.specs.declared.names.NodeId.{NodeId}
use Rattle.st_kind.specs.Named.{Nodes, either}
use Rattle.st_marks.specs.declared.changes.Change.{Change}
use Rattle.st_marks.specs.declared.intents.Intent.{Intent}
use Rattle.st_marks.specs.declared.marks.How.TheVariants.{Stay}
use Rattle.st_marks.specs.declared.marks.RowMarks.{RowMarks}
use Rattle.st_marks.specs.declared.places.Slot.{Slot}
use Rattle.st_marks.specs.Document.{Document, IsSoundInForm, content}
use Rattle.st_marks.specs.Embedding.{IsEmbedding, is_among, row_marks, row_part, tells}
use Rattle.st_marks.specs.Extends.{GainsItems, IsExtendedBy, no_more, item_gained, item_kept}
use Rattle.st_marks.specs.Intent.{Fits}
use Rattle.st_marks.specs.Row.{CellMark, Counted, Gap, Touch, Make, Fill, SameCell, embed_row, merge, step_cell, step_row}
use Rattle.st_rows.specs.Cells.{effected_mark, voided_mark}
use Rattle.st_rows.specs.Changes.{placed_by, void_part}
use Rattle.st_rows.specs.Rows.{IsRowStep}
use Rattle.st_rows.specs.Sequence.{ListsNew, RowFits, SeqPart, row_carried, row_change_of, row_part_of}
use Rattle.st_rows.proofs.Documents.{can_hold, part_fits}
use Rattle.st_rows.proofs.RowEffects.{effect_row-embed_row, grown_row}
use Rattle.st_rows.proofs.Existence.{contents_grow}
use Rattle.st_rows.proofs.PartsThatFit.{change_is, old_placed}
use Rattle.st_rows.proofs.KindLaws.{same_grown}
use Rattle.st_rows.proofs.VoidRows.{void_row-embed_row}
use Rattle.st_trim.specs.Evicted.{in_cleared}
use Rattle.st_effect.specs.inside.Done.{AreRowsDone, IsRowDone}
use Rattle.st_effect.proofs.ItemPairs.{matched}
use Rattle.st_effect.proofs.NamesListed.{named_in_row}
use Rattle.st_puts.proofs.ListedIf.{or_parts, shown-None, shown-Some}

-- ## What a row tells

silent_map : (f : CellMark → CellMark) → ((x : CellMark) → tells x ≡ false → tells (f x) ≡ false) → (xs : List CellMark) → list_any tells xs ≡ false → list_any tells (map f xs) ≡ false
silent_map f k [] h = refl
silent_map f k (x ∷ xs) h = let p = or_parts (tells x) (list_any tells xs) h in λ i. k x p.0 i || silent_map f k xs p.1 i

silent_effect : (x : CellMark) → tells x ≡ false → tells (effected_mark x) ≡ false
silent_effect Counted e = refl
silent_effect (Gap c) e = refl
silent_effect (Touch c n h) e = cc
silent_effect (Make c n b) e = cc
silent_effect (Fill c n) e = cc

silent_void : (placed : Nodes) (x : CellMark) → tells x ≡ false → tells (voided_mark placed x) ≡ false
silent_void placed Counted e = refl
silent_void placed (Gap c) e = refl
silent_void placed (Touch c n h) e = cc
silent_void placed (Make c n b) e = cc
silent_void placed (Fill c n) e = cc

-- what a part leads to is told by no more than its change
abbrev pub IsSilent : SeqPart → Bool → List Slot → Type 0
IsSilent p void c = (g : GainsItems SameCell c (row_carried p void c)) × (list_any tells (step_row p.part.mentioned g) ≡ false)

pub silent_part : (p : SeqPart) (void : Bool) (c : List Slot) → RowFits p c → list_any tells (embed_row p.part c) ≡ false → IsSilent p void c
silent_part p false c w h =
    let change = change_is p c (row_change_of p c) w refl in
    (grown_row p.part c, ap (list_any tells) (sym (effect_row-embed_row p.part c change.mentions)) ∙ silent_map effected_mark silent_effect (embed_row p.part c) h)
silent_part p true c w h =
    let placed = placed_by p.in_new p.new in (
      grown_row (void_part placed p.part) c,
      ap (list_any tells) (sym (void_row-embed_row placed p.part c (old_placed p.in_new p.new c w.old))) ∙ silent_map (voided_mark placed) (silent_void placed) (embed_row p.part c) h,
    )

-- ## Which nodes are named

cell_alike : (m k : Nodes) (c : CellId) (n : NodeId) (a b : Bool) → (a ≡ true → m n ≡ k n) → step_cell m c n a b ≡ step_cell k c n a b
cell_alike m k c n true true h = ap (λ z. cond z (Touch c n Stay) Counted) (h refl)
cell_alike m k c n true false h = refl
cell_alike m k c n false true h = refl
cell_alike m k c n false false h = refl

row_alike : (m k : Nodes) {c d : List Slot} (g : GainsItems SameCell c d) → ((s : Slot) → Has c s → s.full ≡ true → m s.node ≡ k s.node) → step_row m g ≡ step_row k g
row_alike m k no_more h = refl
row_alike m k (item_gained {y = t} g) h = ap (λ l. Make t.cell t.node t.full ∷ l) (row_alike m k g h)
row_alike m k (item_kept {x = s} {y = t} a g) h = λ i. cell_alike m k s.cell s.node s.full t.full (h s (inl refl)) i ∷ row_alike m k g (λ u w. h u (inr w)) i

-- ## Over documents

module _ (D E : Document) (N : Intent) (C : Change) (void : Bool) (x : IsSoundInForm D) (f : Fits D N) (emb : IsEmbedding D N C) (ext : IsExtendedBy D E) (names : List NodeId) (listed : ListsNew N names)
    (carried : (n : NodeId) → content E n ≡ row_carried (row_part_of emb.mentioned names N n) void (content D n)) (n : NodeId) where
  abbrev p : SeqPart
  p = row_part_of emb.mentioned names N n

  abbrev named : Nodes
  named = either emb.mentioned (in_cleared D N)

  fits : RowFits p (content D n)
  fits = part_fits D N emb.mentioned names n x f listed (λ k h. (emb.which k).1 h)

  abbrev grows : GainsItems SameCell (content D n) (content E n)
  grows = contents_grow D E n ext

  -- the row's step, however it grew, says what is listed
  one_step : (d : List Slot) → content E n ≡ d → (g : GainsItems SameCell (content D n) d) → step_row named grows ≡ step_row emb.mentioned g
  one_step d e g =
      row_alike named emb.mentioned grows (λ s h q. named_in_row D N emb.mentioned n s x h q)
      ∙ subst (λ l. (h : GainsItems SameCell (content D n) l) → step_row emb.mentioned grows ≡ step_row emb.mentioned h) e (λ h. (same_grown emb.mentioned grows h (can_hold E ext.after n).once).0) g

  row_done : (r t : RowMarks) → item_of node_cmp (λ (r : RowMarks). r.node) C.rows n ≡ Some r → IsRowDone void names r t → t.marks ≡ merge (step_row named grows)
  row_done r t at done =
      let here : row_marks n (embed_row (row_part emb.mentioned N n) (content D n)) ≡ Some r = sym (emb.rows.at_each n) ∙ at in
      let row : r ≡ record { node = n; marks = merge (embed_row (row_part emb.mentioned N n) (content D n)) } = shown-Some (list_any tells (embed_row (row_part emb.mentioned N n) (content D n))) (record { node = n; marks = merge (embed_row (row_part emb.mentioned N n) (content D n)) }) r here in
      let in_new : p.in_new ≡ is_among names r.node = sym (listed.each n) ∙ ap (is_among names) (sym (ap (λ (q : RowMarks). q.node) row)) in
      let s : IsRowStep emb.mentioned (content D n) (row_carried p void (content D n)) t.marks = done p (content D n) in_new refl fits (ap (λ (q : RowMarks). q.marks) row) in
      s.says ∙ ap merge (sym (one_step (row_carried p void (content D n)) (carried n) s.grows))

  silent_change : item_of node_cmp (λ (r : RowMarks). r.node) C.rows n ≡ None → list_any tells (embed_row (row_part emb.mentioned N n) (content D n)) ≡ false
  silent_change at = shown-None (list_any tells (embed_row (row_part emb.mentioned N n) (content D n))) (record { node = n; marks = merge (embed_row (row_part emb.mentioned N n) (content D n)) }) (sym (emb.rows.at_each n) ∙ at)

  row_silent : item_of node_cmp (λ (r : RowMarks). r.node) C.rows n ≡ None → list_any tells (step_row named grows) ≡ false
  row_silent at =
      let s = silent_part p void (content D n) fits (silent_change at) in
      ap (list_any tells) (one_step (row_carried p void (content D n)) (carried n) s.0) ∙ s.1

  pub row_listed : (rows : List RowMarks) → AreRowsDone void names C.rows rows
      → MatchOption (item_of node_cmp (λ (r : RowMarks). r.node) rows n) (list_any tells (step_row named grows) ≡ false) (λ r. r.marks ≡ merge (step_row named grows))
  row_listed rows done =
      matched node_cmp (λ (r : RowMarks). r.node) (λ (r : RowMarks). r.node) (IsRowDone void names) C.rows rows n (list_any tells (step_row named grows) ≡ false) (λ r. r.marks ≡ merge (step_row named grows))
      done row_silent row_done
