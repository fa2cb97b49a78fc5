-- A change shows each node that its intent names below the node that is above it, before and after.
use Rattle.std.proofs.Common.{◌≡◌, ◌↔◌, Bool, true, false, ◌||◌, List, Option, Some, None, option_map, cond, refl, sym, ap, ◌∙◌, subst, inl, inr, ◌⊎◌, IsSome}
use Rattle.std.proofs.lemmas.Option.{same_Some}
use Rattle.std.specs.List.{find, list_any}
use Rattle.std.specs.Option.{option_or}
use Rattle.st_ids.specs.Listing.{Has}
use Rattle.st_ids.specs.Order.{field_cmp, node_cmp, same_node}
use Rattle.st_ids.specs.declared.names.CellId.{CellId}
use Rattle.st_ids.specs.declared.names.FieldId.{FieldId}
use Rattle.st_ids.specs.declared.names.NodeId.{NodeId}
use Rattle.st_ids.proofs.Listings.{has-item_of, item_of-has}
use Rattle.st_ids.proofs.Orders.{field_cmp_exact, field_cmp_total, node_cmp_exact, node_cmp_total, same_cell-itself}
use Rattle.st_lemmas.proofs.Bools.{true-false}
use Rattle.st_marks.specs.declared.changes.Change.{Change}
use Rattle.st_marks.specs.declared.intents.Intent.{Intent}
use Rattle.st_marks.specs.declared.intents.To.{To}
use Rattle.st_marks.specs.declared.marks.RegMark.{RegMark}
use Rattle.st_marks.specs.declared.marks.RowMarks.{RowMarks}
use Rattle.st_marks.specs.declared.places.Slot.{Slot}
use Rattle.st_marks.specs.declared.places.Spot.{Spot}
use Rattle.st_marks.specs.CarryOut.{full, place_after, unless_cleared, unless_put, with_names}
use Rattle.st_marks.specs.Document.{Document, IsSoundInForm, above, content, is_cell, node_of, owned_cell, slot}
use Rattle.st_marks.specs.Embedding.{IsEmbedding, register_part, row_marks, row_part, tells}
use Rattle.st_marks.specs.Intent.{Fits, clears, put_in, put_of, same_option}
use Rattle.st_marks.specs.Register.{embed_register, holds_mentioned}
use Rattle.st_marks.specs.Row.{CellMark, embed_row, merge, spread}
use Rattle.st_marks.proofs.Climb.{is_cell-true}
use Rattle.st_marks.proofs.Full.{full_one_held, known_put, put_to_cell}
use Rattle.st_marks.proofs.Lookups.{put_clears, put_in-has}
use Rattle.st_marks.proofs.Members.{first-has, has-map, map-has, none-has}
use Rattle.st_marks.proofs.NewRows.{old_cell, one_row_each, owns_in_row}
use Rattle.st_register.specs.Register.{reg_part_of}
use Rattle.st_register.proofs.Documents.{part_fits}
use Rattle.st_register.proofs.Registers.{left_is}
use Rattle.st_rows.specs.Changes.{carried_row}
use Rattle.st_rows.proofs.DocumentsAfter.{whole_is}
use Rattle.st_rows.proofs.KindLaws.{spread-merge}
use Rattle.st_void.specs.declared.standing.When.{When}
use Rattle.st_void.specs.Standing.{above_shown, document_at, held_by, stands as stands_at}
use Rattle.st_void.proofs.MentionsClosed.{IsNamedAt}
use Rattle.st_climb.proofs.ShortestClimbs.{is_some_node, some_node_is}
use Rattle.st_void.proofs.ShownInRows.{IsIn, after_found, after_shown, before_found, before_shown, full_cell, told_after, told_before}

-- ## Places of the document after

-- places, cells and registers say the same of who stands where
pub record PlacesHold (D : Document) : Type 0 where
  pub own_cell : (m n : NodeId) (c : CellId) → D.place m ≡ Spot.Row n c → Has (D.rows n) (owned_cell c m)
  pub one_row : (c : CellId) (n m : NodeId) → Has (D.rows n) (owned_cell c m) → D.row_of c ≡ Some n
  pub one_held : (m : NodeId) (f : FieldId) → (D.held f ≡ Some m) ↔ (D.place m ≡ Spot.Register f)

unless_cleared-row : (N : Intent) (s : Spot) (n : NodeId) (c : CellId) → unless_cleared N s ≡ Spot.Row n c → s ≡ Spot.Row n c
unless_cleared-row N Spot.Nowhere n c e = e
unless_cleared-row N (Spot.Row r d) n c e = e
unless_cleared-row N (Spot.Register g) n c e = go (clears N g) e
  where
    go : (b : Bool) → cond b Spot.Nowhere (Spot.Register g) ≡ Spot.Row n c → Spot.Register g ≡ Spot.Row n c
    go true e = cc
    go false e = cc

full_places : (D : Document) (N : Intent) → IsSoundInForm D → Fits D N → PlacesHold (full D N)
full_places D N s f = record {
  own_cell = λ m n c e. go m n c (put_of N m) refl e;
  one_row = λ c n m h. (one_row_each D N s f c n).1 (m, h);
  one_held = full_one_held D N s.one_held f.itself;
}
  where
    go : (m n : NodeId) (c : CellId) (o : Option To) → put_of N m ≡ o → place_after (with_names D N).row_of N o (D.place m) ≡ Spot.Row n c → Has ((with_names D N).rows n) (owned_cell c m)
    go m n c None h e = old_cell D N s f n _ (s.own_cell m n c (unless_cleared-row N (D.place m) n c e))
    go m n c (Some to) h e =
        let t = put_to_cell (with_names D N).row_of to n c e in
        owns_in_row D N s f m n c (known_put D N f m (To.Cell c) (h ∙ ap (λ t. Some t) t.0)).1 t.1

pub places : (w : When) (D : Document) (N : Intent) → IsSoundInForm D → Fits D N → PlacesHold (document_at w D N)
places When.Before D N s f = record { own_cell = s.own_cell; one_row = λ c n m h. (s.one_row c n).1 (m, h); one_held = s.one_held }
places When.After D N s f = full_places D N s f

stands_there : (E : Document) → PlacesHold E → (n r : NodeId) → IsIn n (content E r) → above E n ≡ Some r
stands_there E p n r (c, h) =
    let o = has-map (slot E) (E.rows r) (full_cell c n) h in
    let at = is_cell-true o.0.cell (E.place o.0.node) (ap (λ (x : Slot). x.full) o.2) in
    let here = p.own_cell o.0.node at.0 o.0.cell at.1 in
    let same : at.0 ≡ r = same_Some at.0 r (sym (p.one_row o.0.cell at.0 o.0.node here) ∙ p.one_row o.0.cell r o.0.node o.1) in
    ap (λ m. node_of (E.place m)) (sym (ap (λ (x : Slot). x.node) o.2)) ∙ ap node_of at.1 ∙ ap (λ z. Some z) same

pub is_shown : (E : Document) → PlacesHold E → (n r : NodeId) (c : CellId) → E.place n ≡ Spot.Row r c → IsIn n (content E r)
is_shown E p n r c e = (c, subst (λ b. Has (content E r) (record { cell = c; node = n; full = b })) (ap (is_cell c) e ∙ same_cell-itself c) (map-has (slot E) (E.rows r) (record { cell = c; node = n }) (p.own_cell n r c e)))

-- ## What is listed

pub row_is : (n : NodeId) (cells : List CellMark) (r : RowMarks) → row_marks n cells ≡ Some r → spread r.marks ≡ cells
row_is n cells r e = go (list_any tells cells) e
  where
    go : (b : Bool) → cond b (Some (record { node = n; marks = merge cells })) None ≡ Some r → spread r.marks ≡ cells
    go true e = ap (λ (x : RowMarks). spread x.marks) (sym (same_Some (record { node = n; marks = merge cells }) r e)) ∙ spread-merge cells
    go false e = cc

module _ (D : Document) (N : Intent) (C : Change) (s : IsSoundInForm D) (f : Fits D N) (emb : IsEmbedding D N C) where
  abbrev pub part : NodeId → Rattle.st_marks.specs.Row.RowPart
  part r = row_part emb.mentioned N r

  abbrev pub cells_of_row : NodeId → List CellMark
  cells_of_row r = embed_row (part r) (content D r)

  pub after_is : (r : NodeId) → content (full D N) r ≡ carried_row (part r) (content D r)
  after_is r = whole_is D N r s f emb.mentioned Rattle.std.proofs.Common.[]

  pub mentioned_in : (n : NodeId) → IsNamedAt When.After D N n → IsSome (D.nodes n) → emb.mentioned n ≡ true
  mentioned_in n (inl m) k = (emb.which n).1 m
  mentioned_in n (inr m) k = let fresh = f.fresh_nodes n m in let bad = subst IsSome fresh k in cc

  pub known_in_row : (r : NodeId) (t : Slot) → Has (content D r) t → IsSome (D.nodes t.node)
  known_in_row r t h =
      let o = has-map (slot D) (D.rows r) t h in
      subst (λ (t : Slot). IsSome (D.nodes t.node)) o.2 (s.cells_known r o.0 o.1).1

  row_found : (w : When) (n r : NodeId) → list_any (stands_at w n) (cells_of_row r) ≡ true → IsIn n (content (document_at w D N) r)
  row_found When.Before n r e = before_found (part r) n (content D r) e
  row_found When.After n r e = subst (IsIn n) (sym (after_is r)) (after_found (part r) n (content D r) e)

  pub row_shown : (w : When) (n r : NodeId) → IsNamedAt w D N n → IsIn n (content (document_at w D N) r) → list_any (stands_at w n) (cells_of_row r) ≡ true
  row_shown When.Before n r told h = before_shown (part r) n (content D r) ((emb.which n).1 told) h
  row_shown When.After n r told h = after_shown (part r) n (content D r) (λ t i e k. mentioned_in n told (subst (λ m. IsSome (D.nodes m)) e (known_in_row r t i))) (subst (IsIn n) (after_is r) h)

  pub row_told : (w : When) (n : NodeId) (xs : List CellMark) → list_any (stands_at w n) xs ≡ true → list_any tells xs ≡ true
  row_told When.Before n xs e = told_before (part n) n xs e
  row_told When.After n xs e = told_after (part n) n xs e

  in_row : (w : When) (n : NodeId) (r : RowMarks) → Has C.rows r → list_any (stands_at w n) (spread r.marks) ≡ true → above (document_at w D N) n ≡ Some r.node
  in_row w n r h e =
      let found = has-item_of node_cmp node_cmp_total node_cmp_exact (λ (r : RowMarks). r.node) C.rows r emb.rows.rising h in
      let same = row_is r.node (cells_of_row r.node) r (sym (emb.rows.at_each r.node) ∙ found) in
      stands_there (document_at w D N) (places w D N s f) n r.node (row_found w n r.node (ap (list_any (stands_at w n)) (sym same) ∙ e))

  listed_row : (w : When) (n r : NodeId) → IsNamedAt w D N n → IsIn n (content (document_at w D N) r) → (x : RowMarks) × Has C.rows x × (list_any (stands_at w n) (spread x.marks) ≡ true)
  listed_row w n r told h =
      let e = row_shown w n r told h in
      let listed : row_marks r (cells_of_row r) ≡ Some (record { node = r; marks = merge (cells_of_row r) }) = ap (λ b. cond b (Some (record { node = r; marks = merge (cells_of_row r) })) None) (row_told w n (cells_of_row r) e) in
      let x : RowMarks = record { node = r; marks = merge (cells_of_row r) } in
      (x, (item_of-has node_cmp node_cmp_total node_cmp_exact (λ (r : RowMarks). r.node) C.rows r x (emb.rows.at_each r ∙ listed)).0, ap (list_any (stands_at w n)) (spread-merge (cells_of_row r)) ∙ e)

  -- ## Registers

  abbrev pub mark_of : FieldId → Option RegMark
  mark_of g = embed_register g (register_part emb.mentioned N g) (D.held g)

  abbrev pub said : FieldId → RegMark
  said g = record { field = g; held = D.held g; how = Rattle.st_marks.specs.Register.how_held g (register_part emb.mentioned N g) (D.held g); clear = clears N g; fill = Rattle.st_marks.specs.Register.comes_in (D.held g) (put_in N g) }

  pub said_is : (g : FieldId) (r : RegMark) → mark_of g ≡ Some r → said g ≡ r
  said_is g r e = go (clears N g || holds_mentioned emb.mentioned (D.held g)) e
    where
      go : (b : Bool) → cond b (Some (said g)) None ≡ Some r → said g ≡ r
      go true e = same_Some (said g) r e
      go false e = cc

  pub said_held : (w : When) (g : FieldId) → held_by w (said g) ≡ (document_at w D N).held g
  said_held When.Before g = refl
  said_held When.After g = left_is (reg_part_of emb.mentioned N g) (D.held g) (part_fits D N emb.mentioned g s f) ∙ sym (Rattle.st_register.proofs.Documents.whole_is D N emb.mentioned g)

  in_register : (w : When) (n : NodeId) (r : RegMark) → Has C.regs r → same_option same_node (held_by w r) (Some n) ≡ true → above (document_at w D N) n ≡ Some r.field.node
  in_register w n r h e =
      let found = has-item_of field_cmp field_cmp_total field_cmp_exact (λ (r : RegMark). r.field) C.regs r emb.regs.rising h in
      let same = said_is r.field r (sym (emb.regs.at_each r.field) ∙ found) in
      let held = sym (said_held w r.field) ∙ ap (held_by w) same ∙ is_some_node (held_by w r) n e in
      ap node_of (((places w D N s f).one_held n r.field).0 held)

  pub listed_if : (n : NodeId) (g : FieldId) → (clears N g ≡ true) ⊎ (holds_mentioned emb.mentioned (D.held g) ≡ true) → mark_of g ≡ Some (said g)
  listed_if n g w = ap (λ b. cond b (Some (said g)) None) (either w)
    where
      either : (clears N g ≡ true) ⊎ (holds_mentioned emb.mentioned (D.held g) ≡ true) → (clears N g || holds_mentioned emb.mentioned (D.held g)) ≡ true
      either (inl e) = ap (λ b. b || holds_mentioned emb.mentioned (D.held g)) e
      either (inr e) = Rattle.st_lemmas.proofs.Bools.or-right (clears N g) (holds_mentioned emb.mentioned (D.held g)) e

  why_listed : (w : When) (n : NodeId) (g : FieldId) → IsNamedAt w D N n → (document_at w D N).held g ≡ Some n → (clears N g ≡ true) ⊎ (holds_mentioned emb.mentioned (D.held g) ≡ true)
  why_listed When.Before n g told e = inr (ap (holds_mentioned emb.mentioned) e ∙ (emb.which n).1 told)
  why_listed When.After n g told e = go (clears N g) refl (put_in N g) refl (D.held g) refl e
    where
      go : (b : Bool) → clears N g ≡ b → (i : Option NodeId) → put_in N g ≡ i → (o : Option NodeId) → D.held g ≡ o → option_or i (cond b None (unless_put N o)) ≡ Some n → (clears N g ≡ true) ⊎ (holds_mentioned emb.mentioned (D.held g) ≡ true)
      go true b i p o h e = inl b
      go false b (Some x) p o h e = absurd (true-false (put_clears N f.itself x g (put_in-has N g x p)) b)
      go false b None p None h e = cc
      go false b None p (Some x) h e = inr (ap (holds_mentioned emb.mentioned) h ∙ stays (put_of N x) e)
        where
          stays : (o : Option To) → cond (Rattle.std.proofs.Common.is_some o) None (Some x) ≡ Some n → emb.mentioned x ≡ true
          stays (Some to) e = cc
          stays None e = mentioned_in x (subst (IsNamedAt When.After D N) (sym (same_Some x n e)) told) (s.held_known x g h).0

  listed_register : (w : When) (n : NodeId) (g : FieldId) → IsNamedAt w D N n → (document_at w D N).held g ≡ Some n → Has C.regs (said g) × (same_option same_node (held_by w (said g)) (Some n) ≡ true)
  listed_register w n g told e =
      let listed = listed_if n g (why_listed w n g told e) in
      ((item_of-has field_cmp field_cmp_total field_cmp_exact (λ (r : RegMark). r.field) C.regs g (said g) (emb.regs.at_each g ∙ listed)).0, some_node_is (held_by w (said g)) n (said_held w g ∙ e))

  -- ## Together

  pub above_true : (w : When) (n : NodeId) → IsNamedAt w D N n → above_shown w C n ≡ above (document_at w D N) n
  above_true w n told = go (find (λ (r : RowMarks). list_any (stands_at w n) (spread r.marks)) C.rows) refl (find (λ (r : RegMark). same_option same_node (held_by w r) (Some n)) C.regs) refl
    where
      none : find (λ (r : RowMarks). list_any (stands_at w n) (spread r.marks)) C.rows ≡ None → find (λ (r : RegMark). same_option same_node (held_by w r) (Some n)) C.regs ≡ None → (t : Spot) → (document_at w D N).place n ≡ t → None ≡ node_of t
      none e i Spot.Nowhere h = refl
      none e i (Spot.Row r c) h =
          let x = listed_row w n r told (is_shown (document_at w D N) (places w D N s f) n r c h) in
          absurd (true-false x.2 (none-has (λ (r : RowMarks). list_any (stands_at w n) (spread r.marks)) C.rows x.0 e x.1))
      none e i (Spot.Register g) h =
          let x = listed_register w n g told (((places w D N s f).one_held n g).1 h) in
          absurd (true-false x.1 (none-has (λ (r : RegMark). same_option same_node (held_by w r) (Some n)) C.regs (said g) i x.0))

      go : (o : Option RowMarks) → find (λ (r : RowMarks). list_any (stands_at w n) (spread r.marks)) C.rows ≡ o → (q : Option RegMark) → find (λ (r : RegMark). same_option same_node (held_by w r) (Some n)) C.regs ≡ q → option_or (option_map (λ (r : RowMarks). r.node) o) (option_map (λ (r : RegMark). r.field.node) q) ≡ above (document_at w D N) n
      go (Some r) e q i = let h = first-has (λ (r : RowMarks). list_any (stands_at w n) (spread r.marks)) C.rows r e in sym (in_row w n r h.0 h.1)
      go None e (Some r) i = let h = first-has (λ (r : RegMark). same_option same_node (held_by w r) (Some n)) C.regs r i in sym (in_register w n r h.0 h.1)
      go None e None i = none e i ((document_at w D N).place n) refl
