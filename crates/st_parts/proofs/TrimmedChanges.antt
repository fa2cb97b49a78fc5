-- A listing of a change with the nodes alone named that the intent mentions is the change.
use Rattle.std.proofs.Common.{◌≡◌, ◌≢◌, ◌↔◌, zero, Bool, true, false, ◌||◌, ◌&&◌, not, List, [], ◌∷◌, ◌++◌, map, Option, Some, None, MatchOption, cond, refl, sym, ap, ◌∙◌, subst, inl, inr, IsSome, IsTrue}
use Rattle.std.specs.List.{list_any}
use Rattle.st_ids.specs.Listing.{Has, IsListing, item_of}
use Rattle.st_ids.specs.Order.{field_cmp, node_cmp, same_node}
use Rattle.st_ids.specs.Root.{root}
use Rattle.st_ids.specs.declared.names.CellId.{CellId}
use Rattle.st_ids.specs.declared.names.FieldId.{FieldId}
use Rattle.st_ids.specs.declared.names.NodeId.{NodeId}
use Rattle.st_kind.specs.Named.{Nodes}
use Rattle.st_marks.specs.declared.changes.Change.{Change}
use Rattle.st_marks.specs.declared.changes.NewNode.{NewNode}
use Rattle.st_marks.specs.declared.intents.Intent.{Intent}
use Rattle.st_marks.specs.declared.intents.Owned.{Owned}
use Rattle.st_marks.specs.declared.intents.Put.{Put}
use Rattle.st_marks.specs.declared.intents.To.{To}
use Rattle.st_marks.specs.declared.marks.How.{How}
use Rattle.st_marks.specs.declared.marks.How.TheVariants.{Stay, Here, Leave}
use Rattle.st_marks.specs.declared.marks.Loose.{Loose}
use Rattle.st_marks.specs.declared.marks.RegMark.{RegMark}
use Rattle.st_marks.specs.declared.marks.RowMarks.{RowMarks}
use Rattle.st_marks.specs.declared.places.Slot.{Slot}
use Rattle.st_marks.specs.Document.{Document, IsSoundInForm, content}
use Rattle.st_marks.specs.Embedding.{IsEmbedding, IsMentionedByIntent, embed_loose, is_among, is_nowhere, register_part, row_marks, row_part, tells}
use Rattle.st_marks.specs.How.{is_here}
use Rattle.st_marks.specs.Intent.{clears, new_node, put_in, put_of}
use Rattle.st_marks.specs.Register.{comes_in, embed_register, holds_mentioned, how_held}
use Rattle.st_marks.specs.Row.{CellMark, Counted, Gap, Touch, Make, Fill, RowPart, embed_cell, embed_cells, embed_made, embed_row, how, merge, spread}
use Rattle.st_marks.specs.Verdict.{IsBaseInEffect}
use Rattle.st_marks.proofs.Lookups.{put-has}
use Rattle.st_marks.proofs.Members.{append_left, map-has}
use Rattle.st_rows.proofs.Documents.{is_slot}
use Rattle.st_rows.proofs.KindLaws.{spread-merge}
use Rattle.st_trim.specs.Trimmed.{trim_loose, trim_mark, trim_row}
use Rattle.st_parts.specs.TrimmedChange.{IsChangeTrimmedTo, ListsChange, mark_of, trim_mark_of}
use Rattle.st_puts.proofs.ListedIf.{or_parts, shown-None}

-- ## One row

abbrev with_names : Nodes → RowPart → RowPart
with_names k p = record { new_cells = p.new_cells; target_of = p.target_of; mentioned = k }

module _ (K k : Nodes) (p : RowPart) where
  touched : (c : CellId) (n : NodeId) (g : Option To) → (k n ≡ true → K n ≡ true) → (g ≢ None → k n ≡ true)
      → trim_mark k (cond (K n) (Touch c n (how g (To.Cell c))) Counted) ≡ cond (k n) (Touch c n (how g (To.Cell c))) Counted
  touched c n g sub put = go (K n) refl (k n) refl g (λ q. put q)
    where
      go : (a : Bool) → K n ≡ a → (b : Bool) → k n ≡ b → (g : Option To) → (g ≢ None → k n ≡ true) → trim_mark k (cond a (Touch c n (how g (To.Cell c))) Counted) ≡ cond b (Touch c n (how g (To.Cell c))) Counted
      go true e true q g w = kept (how g (To.Cell c))
        where
          kept : (h : How) → trim_mark k (Touch c n h) ≡ Touch c n h
          kept Stay = ap (λ z. cond z (Touch c n Stay) Counted) q
          kept Here = refl
          kept Leave = refl
      go true e false q None w = ap (λ z. cond z (Touch c n Stay) Counted) q
      go true e false q (Some to) w = let bad : ◌≡◌ {A = Bool} true false = sym (w (λ z. cc)) ∙ q in cc
      go false e true q g w = let bad : ◌≡◌ {A = Bool} true false = sym (sub q) ∙ e in cc
      go false e false q g w = refl

  cell : (c : CellId) (n : NodeId) (b : Bool) → (k n ≡ true → K n ≡ true) → (b ≡ true → p.target_of n ≢ None → k n ≡ true)
      → trim_mark k (embed_cell (with_names K p) c n b) ≡ embed_cell (with_names k p) c n b
  cell c n true sub put = touched c n (p.target_of n) sub (put refl)
  cell c n false sub put = go (is_here (how (p.target_of n) (To.Cell c)))
    where
      go : (z : Bool) → trim_mark k (cond z (Fill c n) (Gap c)) ≡ cond z (Fill c n) (Gap c)
      go true = refl
      go false = refl

  made : (os : List Owned) (xs ys : List CellMark) → map (trim_mark k) xs ≡ ys → map (trim_mark k) (embed_made (with_names K p) os ++ xs) ≡ embed_made (with_names k p) os ++ ys
  made [] xs ys e = e
  made (o ∷ os) xs ys e = λ i. Make o.cell o.node (is_here (how (p.target_of o.node) (To.Cell o.cell))) ∷ made os xs ys e i

  cells : (c : List Slot) → ((s : Slot) → Has c s → k s.node ≡ true → K s.node ≡ true) → ((s : Slot) → Has c s → s.full ≡ true → p.target_of s.node ≢ None → k s.node ≡ true)
      → map (trim_mark k) (embed_cells (with_names K p) c) ≡ embed_cells (with_names k p) c
  cells [] sub put = refl
  cells (s ∷ c) sub put = λ i. cell s.cell s.node s.full (sub s (inl refl)) (put s (inl refl)) i
      ∷ made (p.new_cells (Some s.cell)) (embed_cells (with_names K p) c) (embed_cells (with_names k p) c) (cells c (λ t w. sub t (inr w)) (λ t w. put t (inr w))) i

  pub row : (c : List Slot) → ((s : Slot) → Has c s → k s.node ≡ true → K s.node ≡ true) → ((s : Slot) → Has c s → s.full ≡ true → p.target_of s.node ≢ None → k s.node ≡ true)
      → map (trim_mark k) (embed_row (with_names K p) c) ≡ embed_row (with_names k p) c
  row c sub put = made (p.new_cells None) (embed_cells (with_names K p) c) (embed_cells (with_names k p) c) (cells c sub put)

silent_trim : (k : Nodes) (xs : List CellMark) → list_any tells xs ≡ false → list_any tells (map (trim_mark k) xs) ≡ false
silent_trim k [] e = refl
silent_trim k (Counted ∷ xs) e = silent_trim k xs e
silent_trim k (Gap c ∷ xs) e = silent_trim k xs e
silent_trim k (Touch c n h ∷ xs) e = cc
silent_trim k (Make c n b ∷ xs) e = cc
silent_trim k (Fill c n ∷ xs) e = cc

-- ## The whole change

module _ (D : Document) (N : Intent) (K k : Nodes) (G T : Change) (x : IsSoundInForm D) (lists : ListsChange D N K G) (which : (n : NodeId) → (k n ≡ true) ↔ IsMentionedByIntent D N n) (cut : IsChangeTrimmedTo k G T) where
  more : (n : NodeId) → k n ≡ true → K n ≡ true
  more n e = lists.covers n ((which n).0 e)

  -- an old node that is put is mentioned
  put_named : (n : NodeId) → IsSome (D.nodes n) → put_of N n ≢ None → k n ≡ true
  put_named n known q = go (put_of N n) refl q
    where
      go : (o : Option To) → put_of N n ≡ o → o ≢ None → k n ≡ true
      go None e q = absurd (q refl)
      go (Some to) e q =
          let named = map-has (λ (p : Put). p.node) N.put (record { node = n; to = to }) (put-has N n to e) in
          (which n).1 (n, append_left _ _ n (append_left _ _ n (append_left _ _ n (append_left _ _ n named))), known, zero, refl)

  row_at : (n : NodeId) → map (trim_mark k) (embed_row (row_part K N n) (content D n)) ≡ embed_row (row_part k N n) (content D n)
  row_at n = row K k (row_part K N n) (content D n) (λ s h e. more s.node e) (λ s h e q. put_named s.node (known s h) q)
    where
      known : (s : Slot) → Has (content D n) s → IsSome (D.nodes s.node)
      known s h = let o = is_slot D n s h in subst (λ j. IsSome (D.nodes j)) (ap (λ (u : Slot). u.node) o.2) (x.cells_known n o.0 o.1).1

  rows_at : (n : NodeId) → trim_row k n (item_of node_cmp (λ (r : RowMarks). r.node) G.rows n) ≡ row_marks n (embed_row (row_part k N n) (content D n))
  rows_at n = go (item_of node_cmp (λ (r : RowMarks). r.node) G.rows n) (lists.rows n)
    where
      go : (o : Option RowMarks) → MatchOption o (list_any tells (embed_row (row_part K N n) (content D n)) ≡ false) (λ r. r.marks ≡ merge (embed_row (row_part K N n) (content D n)))
          → trim_row k n o ≡ row_marks n (embed_row (row_part k N n) (content D n))
      go None h =
          let quiet : list_any tells (embed_row (row_part k N n) (content D n)) ≡ false = ap (list_any tells) (sym (row_at n)) ∙ silent_trim k (embed_row (row_part K N n) (content D n)) h in
          sym (ap (λ b. cond {A = Option RowMarks} b (Some (record { node = n; marks = merge (embed_row (row_part k N n) (content D n)) })) None) quiet)
      go (Some r) h = ap (row_marks n) (ap (λ ms. map (trim_mark k) (spread ms)) h ∙ ap (map (trim_mark k)) (spread-merge (embed_row (row_part K N n) (content D n))) ∙ row_at n)

  regs_at : (f : FieldId) → trim_mark_of k (item_of field_cmp (λ (r : RegMark). r.field) G.regs f) ≡ embed_register f (register_part k N f) (D.held f)
  regs_at f = go (item_of field_cmp (λ (r : RegMark). r.field) G.regs f) (lists.regs f)
    where
      held_more : (o : Option NodeId) → holds_mentioned K o ≡ false → holds_mentioned k o ≡ false
      held_more None e = refl
      held_more (Some n) e = at (k n) refl
        where
          at : (b : Bool) → k n ≡ b → b ≡ false
          at false q = refl
          at true q = let bad : ◌≡◌ {A = Bool} true false = sym (more n q) ∙ e in cc

      one_mark : (m : Nodes) → embed_register f (register_part m N f) (D.held f) ≡ cond (clears N f || holds_mentioned m (D.held f)) (Some (mark_of D N f)) None
      one_mark m = at (D.held f)
        where
          at : (o : Option NodeId) → embed_register f (register_part m N f) o ≡ cond (clears N f || holds_mentioned m o) (Some (record { field = f; held = o; how = how_held f (register_part (λ n. true) N f) o; clear = clears N f; fill = comes_in o (put_in N f) })) None
          at None = refl
          at (Some n) = refl

      go : (o : Option RegMark) → MatchOption o (embed_register f (register_part K N f) (D.held f) ≡ None) (λ r. r ≡ mark_of D N f) → trim_mark_of k o ≡ embed_register f (register_part k N f) (D.held f)
      go None h =
          let p = or_parts (clears N f) (holds_mentioned K (D.held f)) (shown-None (clears N f || holds_mentioned K (D.held f)) (mark_of D N f) (sym (one_mark K) ∙ h)) in
          sym (one_mark k ∙ (λ i. cond {A = Option RegMark} (p.0 i || held_more (D.held f) p.1 i) (Some (mark_of D N f)) None))
      go (Some r) h = ap (λ r. trim_mark_of k (Some r)) h ∙ sym (one_mark k)

  loose_at : (n : NodeId) → trim_loose k (embed_loose K D N n) ≡ embed_loose k D N n
  loose_at n = go (K n) refl (k n) refl (is_nowhere (D.place n)) (not (same_node n root))
    where
      go : (a : Bool) → K n ≡ a → (b : Bool) → k n ≡ b → (p z : Bool) → trim_loose k (cond (a && p && z) (Some (record { node = n; how = how (put_of N n) To.Nowhere })) None) ≡ cond (b && p && z) (Some (record { node = n; how = how (put_of N n) To.Nowhere })) None
      go true e b q true true = ap (λ w. cond {A = Option Loose} w (Some (record { node = n; how = how (put_of N n) To.Nowhere })) None) q ∙ last b
        where
          last : (b : Bool) → cond {A = Option Loose} b (Some (record { node = n; how = how (put_of N n) To.Nowhere })) None ≡ cond (b && true && true) (Some (record { node = n; how = how (put_of N n) To.Nowhere })) None
          last true = refl
          last false = refl
      go true e true q true false = refl
      go true e false q true false = refl
      go true e true q false z = refl
      go true e false q false z = refl
      go false e true q p z = let bad : ◌≡◌ {A = Bool} true false = sym (more n q) ∙ e in cc
      go false e false q p z = refl

  pub trimmed_change : IsEmbedding D N T
  trimmed_change = record {
    mentioned = k;
    which = which;
    rev = cut.rev ∙ lists.rev;
    under = cut.under ∙ lists.under;
    base = subst (λ b. IsTrue b ↔ IsBaseInEffect D N) (sym cut.base) lists.base;
    schema = cut.schema ∙ lists.schema;
    need = subst (λ (l : List NodeId). IsListing node_cmp (λ (n : NodeId). n) l (λ n. cond (is_among N.need n) (Some n) None)) (sym cut.need) lists.need;
    new = subst (λ (l : List NewNode). IsListing node_cmp (λ (m : NewNode). m.node) l (new_node N)) (sym cut.new) lists.new;
    rows = record { rising = cut.rows.rising; at_each = λ n. cut.rows.at_each n ∙ rows_at n };
    regs = record { rising = cut.regs.rising; at_each = λ f. cut.regs.at_each f ∙ regs_at f };
    loose = record { rising = cut.loose.rising; at_each = λ n. cut.loose.at_each n ∙ ap (trim_loose k) (lists.loose.at_each n) ∙ loose_at n };
  }
