-- An intent makes no more names than its change does.
use Rattle.std.proofs.Common.{◌≡◌, ◌≤◌, ◌+◌, Bool, true, cond, List, [], ◌∷◌, length, Option, Some, None, IfSome, refl, sym, ap, ◌∙◌, subst, arith, inl, inr}
use Rattle.std.specs.List.{flat_map, list_any, sum_by}
use Rattle.std.proofs.lemmas.List.Sums.{sum_by-cons}
use Rattle.st_ids.specs.Listing.{Has}
use Rattle.st_ids.specs.Order.{node_cmp, same_node}
use Rattle.st_ids.specs.declared.names.CellId.{CellId}
use Rattle.st_ids.specs.declared.names.NodeId.{NodeId}
use Rattle.st_ids.proofs.Listings.{item_of-has}
use Rattle.st_ids.proofs.Orders.{node_cmp_exact, node_cmp_total, same_node-itself, same_node-true}
use Rattle.st_lemmas.proofs.Lists.{length-append}
use Rattle.st_marks.specs.declared.changes.Change.{Change}
use Rattle.st_marks.specs.declared.changes.NewNode.{NewNode}
use Rattle.st_marks.specs.declared.intents.Group.{Group}
use Rattle.st_marks.specs.declared.intents.Intent.{Intent}
use Rattle.st_marks.specs.declared.intents.Owned.{Owned}
use Rattle.st_marks.specs.declared.marks.Mark.{Mark}
use Rattle.st_marks.specs.declared.marks.RowMarks.{RowMarks}
use Rattle.st_marks.specs.declared.places.Slot.{Slot}
use Rattle.st_marks.specs.Document.{Document, IsSoundInForm, content, owned_cell, slot}
use Rattle.st_marks.specs.Embedding.{IsEmbedding, row_marks, row_part, tells}
use Rattle.st_marks.specs.Intent.{Fits, IsKnown, group_cells, new_node}
use Rattle.st_marks.specs.Row.{CellMark, Counted, Gap, Touch, Make, Fill, RowPart, embed_cells, embed_made, embed_row, merge, skip_one}
use Rattle.st_marks.proofs.Contained.{no_longer}
use Rattle.st_marks.proofs.Lookups.{group_found}
use Rattle.st_marks.proofs.Members.{all-has, append_left, append_right, first-distinct, flat_map-has, has-any, has-flat_map, map-has}
use Rattle.st_lists.specs.Names.{names_made}
use Rattle.st_valid.specs.Room.{cells_made_in, makes_cell, names_of_change}

-- ## Cells that marks make

abbrev made_cells : List Mark → List Owned
made_cells [] = []
made_cells (Mark.Skip k ∷ ms) = made_cells ms
made_cells (Mark.Gap c ∷ ms) = made_cells ms
made_cells (Mark.Touch c n h ∷ ms) = made_cells ms
made_cells (Mark.Make c n b ∷ ms) = owned_cell c n ∷ made_cells ms
made_cells (Mark.Fill c n ∷ ms) = made_cells ms

one_counted : (m : Mark) (ms : List Mark) → length (made_cells ms) ≡ sum_by makes_cell ms → length (made_cells (m ∷ ms)) ≡ makes_cell m + sum_by makes_cell ms
one_counted (Mark.Skip k) ms h = omega (arith, h)
one_counted (Mark.Gap c) ms h = omega (arith, h)
one_counted (Mark.Touch c n w) ms h = omega (arith, h)
one_counted (Mark.Make c n b) ms h = omega (arith, h)
one_counted (Mark.Fill c n) ms h = omega (arith, h)

made_counted : (ms : List Mark) → length (made_cells ms) ≡ sum_by makes_cell ms
made_counted [] = refl
made_counted (m ∷ ms) = one_counted m ms (made_counted ms) ∙ sym (sum_by-cons makes_cell m ms)

abbrev all_made : List RowMarks → List Owned
all_made rows = flat_map (λ (r : RowMarks). made_cells r.marks) rows

all_counted : (rows : List RowMarks) → length (all_made rows) ≡ sum_by cells_made_in rows
all_counted [] = refl
all_counted (r ∷ rows) =
    let all : length (all_made (r ∷ rows)) ≡ length (made_cells r.marks) + length (all_made rows) = length-append (made_cells r.marks) (all_made rows) in
    omega (arith, all, made_counted r.marks, all_counted rows, sum_by-cons cells_made_in r rows)

-- ## A row's marks

skipped : (ms : List Mark) → made_cells (skip_one ms) ≡ made_cells ms
skipped [] = refl
skipped (Mark.Skip k ∷ ms) = refl
skipped (Mark.Gap c ∷ ms) = refl
skipped (Mark.Touch c n h ∷ ms) = refl
skipped (Mark.Make c n b ∷ ms) = refl
skipped (Mark.Fill c n ∷ ms) = refl

made_merged : (ms : List CellMark) (c : CellId) (n : NodeId) (b : Bool) → Has ms (Make c n b) → Has (made_cells (merge ms)) (owned_cell c n)
made_merged [] c n b h = absurd h
made_merged (Counted ∷ ms) c n b (inl e) = cc
made_merged (Counted ∷ ms) c n b (inr h) = subst (λ os. Has os (owned_cell c n)) (sym (skipped (merge ms))) (made_merged ms c n b h)
made_merged (Gap d ∷ ms) c n b (inl e) = cc
made_merged (Gap d ∷ ms) c n b (inr h) = made_merged ms c n b h
made_merged (Touch d m w ∷ ms) c n b (inl e) = cc
made_merged (Touch d m w ∷ ms) c n b (inr h) = made_merged ms c n b h
made_merged (Make d m x ∷ ms) c n b (inl e) = let same : owned_cell d m ≡ owned_cell c n = cc in inl same
made_merged (Make d m x ∷ ms) c n b (inr h) = inr (made_merged ms c n b h)
made_merged (Fill d m ∷ ms) c n b (inl e) = cc
made_merged (Fill d m ∷ ms) c n b (inr h) = made_merged ms c n b h

-- a mark that makes an owned cell
abbrev IsMade : List CellMark → Owned → Type 0
IsMade ms o = (b : Bool) × Has ms (Make o.cell o.node b)

made_in : (p : RowPart) (os : List Owned) (o : Owned) → Has os o → IsMade (embed_made p os) o
made_in p [] o h = absurd h
made_in p (q ∷ os) o (inl e) = subst (λ (x : Owned). IsMade (embed_made p (q ∷ os)) x) e (_, inl refl)
made_in p (q ∷ os) o (inr h) = let r = made_in p os o h in (r.0, inr r.1)

made_after : (p : RowPart) (ss : List Slot) (s : Slot) (o : Owned) → Has ss s → Has (p.new_cells (Some s.cell)) o → IsMade (embed_cells p ss) o
made_after p [] s o i h = absurd i
made_after p (t ∷ ss) s o (inl e) h =
    let here : Has (p.new_cells (Some t.cell)) o = subst (λ (x : Slot). Has (p.new_cells (Some x.cell)) o) (sym e) h in
    let r = made_in p (p.new_cells (Some t.cell)) o here in
    (r.0, inr (append_left (embed_made p (p.new_cells (Some t.cell))) (embed_cells p ss) (Make o.cell o.node r.0) r.1))
made_after p (t ∷ ss) s o (inr i) h =
    let r = made_after p ss s o i h in
    (r.0, inr (append_right (embed_made p (p.new_cells (Some t.cell))) (embed_cells p ss) (Make o.cell o.node r.0) r.1))

-- what is made at a row's start, or after a cell of the row, is made in the row
made_in_row : (p : RowPart) (ss : List Slot) (a : Option CellId) (o : Owned) → IfSome a (λ c. (s : Slot) × Has ss s × (s.cell ≡ c)) → Has (p.new_cells a) o → IsMade (embed_row p ss) o
made_in_row p ss None o at h =
    let r = made_in p (p.new_cells None) o h in
    (r.0, append_left (embed_made p (p.new_cells None)) (embed_cells p ss) (Make o.cell o.node r.0) r.1)
made_in_row p ss (Some c) o at h =
    let here : Has (p.new_cells (Some at.0.cell)) o = subst (λ (x : CellId). Has (p.new_cells (Some x)) o) (sym at.2) h in
    let r = made_after p ss at.0 o at.1 here in
    (r.0, append_right (embed_made p (p.new_cells None)) (embed_cells p ss) (Make o.cell o.node r.0) r.1)

-- ## A change

module _ (D : Document) (N : Intent) (C : Change) (sound : IsSoundInForm D) (fits : Fits D N) (embeds : IsEmbedding D N C) where
  new_listed : (m : NewNode) → Has N.new m → Has C.new m
  new_listed m h =
      let found : new_node N m.node ≡ Some m = first-distinct (λ (x : NewNode). x.node) N.new (λ (x : NewNode). same_node x.node m.node) m fits.itself.new_once h (same_node-itself m.node) (λ x e. same_node-true x.node m.node e) in
      (item_of-has node_cmp node_cmp_total node_cmp_exact (λ (x : NewNode). x.node) C.new m.node m (embeds.new.at_each m.node ∙ found)).0

  anchored : (n : NodeId) (a : Option CellId) → IfSome a (λ c. D.row_of c ≡ Some n) → IfSome a (λ c. (s : Slot) × Has (content D n) s × (s.cell ≡ c))
  anchored n None at = tt
  anchored n (Some c) at =
      let there = (sound.one_row c n).0 at in
      (slot D (owned_cell c there.0), map-has (slot D) (D.rows n) (owned_cell c there.0) there.1, refl)

  row_listed : (n : NodeId) (o : Owned) → IsMade (embed_row (row_part embeds.mentioned N n) (content D n)) o → Has (all_made C.rows) o
  row_listed n o made =
      let ms = embed_row (row_part embeds.mentioned N n) (content D n) in
      let r : RowMarks = record { node = n; marks = merge ms } in
      let told : list_any tells ms ≡ true = has-any tells ms (Make o.cell o.node made.0) made.1 refl in
      let is : row_marks n ms ≡ Some r = ap (λ b. cond b (Some r) None) told in
      let listed = (item_of-has node_cmp node_cmp_total node_cmp_exact (λ (x : RowMarks). x.node) C.rows n r (embeds.rows.at_each n ∙ is)).0 in
      flat_map-has (λ (x : RowMarks). made_cells x.marks) C.rows r o listed (made_merged ms o.cell o.node made.0 made.1)

  cell_listed : (o : Owned) → Has (group_cells N) o → Has (all_made C.rows) o
  cell_listed o h =
      let g = has-flat_map (λ (g : Group). g.cells) N.groups o h in
      let known = all-has (λ (g : Group). IsKnown D N g.node × IfSome g.after (λ c. D.row_of c ≡ Some g.node)) N.groups g.0 fits.groups_known g.1 in
      let here = subst (λ (os : List Owned). Has os o) (sym (group_found N fits.itself g.0 g.1)) g.2 in
      row_listed g.0.node o (made_in_row (row_part embeds.mentioned N g.0.node) (content D g.0.node) g.0.after o (anchored g.0.node g.0.after known.1) here)

  pub no_more_names : names_made N ≤ names_of_change C
  no_more_names =
      let nodes = no_longer (λ (m : NewNode). m.node) N.new C.new fits.itself.new_once new_listed in
      let cells = no_longer (λ (o : Owned). o.cell) (group_cells N) (all_made C.rows) fits.itself.cell_once cell_listed in
      omega (arith, nodes, cells, all_counted C.rows)
