-- What an intent mentions, read off a listing of its change that may name more.
use Rattle.std.proofs.Common.{◌≡◌, ◌↔◌, ◌⊎◌, inl, inr, zero, Bool, true, false, ◌&&◌, ◌||◌, not, filter, List, [], ◌∷◌, ◌++◌, map, Option, Some, None, MatchOption, IsSome, cond, refl, sym, ap, ◌∙◌, subst, unwrap_or}
use Rattle.std.specs.BTreeMap.{BTreeMap, get}
use Rattle.std.specs.List.{filter_map, flat_map, list_any}
use Rattle.st_ids.specs.Listing.{Has, item_of}
use Rattle.st_ids.specs.Order.{field_cmp, node_cmp}
use Rattle.st_ids.proofs.Listings.{has-item_of, item_of-has}
use Rattle.st_ids.proofs.Orders.{field_cmp_exact, field_cmp_total, node_cmp_exact, node_cmp_total}
use Rattle.st_ids.proofs.Shared.{filter-from, filter-has, filtered}
use Rattle.st_ids.specs.declared.names.CellId.{CellId}
use Rattle.st_ids.specs.declared.names.FieldId.{FieldId}
use Rattle.st_ids.specs.declared.names.NodeId.{NodeId}
use Rattle.st_kind.specs.Named.{Nodes}
use Rattle.st_lemmas.proofs.Bools.{and-both, and-true, not-true, or-left, or-right, refuted-false, true-false}
use Rattle.st_marks.specs.declared.changes.Change.{Change}
use Rattle.st_marks.specs.declared.intents.Intent.{Intent}
use Rattle.st_marks.specs.declared.intents.To.{To}
use Rattle.st_marks.specs.declared.marks.How.{How}
use Rattle.st_marks.specs.declared.marks.How.TheVariants.{Stay, Here, Leave}
use Rattle.st_marks.specs.declared.marks.Loose.{Loose}
use Rattle.st_marks.specs.declared.marks.Mark.{Mark}
use Rattle.st_marks.specs.declared.marks.RegMark.{RegMark}
use Rattle.st_marks.specs.declared.marks.RowMarks.{RowMarks}
use Rattle.st_marks.specs.declared.places.Spot.{Spot}
use Rattle.st_marks.specs.Document.{Document, IsSoundInForm, content}
use Rattle.st_marks.specs.Embedding.{IsEmbedding, IsMentionedByIntent, is_among, is_loose, named_by_intent, register_part, row_part, tells}
use Rattle.st_marks.specs.How.{is_stay}
use Rattle.st_marks.specs.Intent.{Fits, clears, group_at, is_new, put_in, put_of}
use Rattle.st_marks.specs.Listings.{nodes_new, one_or_none}
use Rattle.st_marks.specs.Register.{comes_in, embed_register, holds_mentioned, how_held}
use Rattle.st_marks.specs.Row.{CellMark, Counted, Gap, Touch, Make, Fill, embed_cells, embed_row, how, merge, spread}
use Rattle.st_marks.proofs.Climb.{shown, stands}
use Rattle.st_marks.proofs.Full.{known_put}
use Rattle.st_marks.proofs.Members.{append_left, append_right, flat_map-has, has-any, has-append, has-filter_map, has-flat_map, has-map, map-has}
use Rattle.st_marks.proofs.Turns.{extends_itself}
use Rattle.st_normal.proofs.NoRings.{among_has}
use Rattle.st_rows.proofs.KindLaws.{spread-merge}
use Rattle.st_puts.specs.Mentions.{AreMentions, PlacesMentioned, above_in}
use Rattle.st_puts.specs.inside.First.{first_at}
use Rattle.st_puts.specs.inside.Names.{loose_names, moved_held, names_by, names_told, node_cleared, register_names, row_names}
use Rattle.st_puts.specs.inside.Spots.{held_spot, stood_by}
use Rattle.st_puts.proofs.Basics.{one-is}
use Rattle.st_puts.proofs.Firsts.{first-is, is-first}
use Rattle.st_puts.proofs.FoundOnce.{has-new}
use Rattle.st_puts.proofs.FoundPlaces.{touched}
use Rattle.st_puts.proofs.ListedIf.{shown-None, shown-Some}
use Rattle.st_puts.proofs.Marks.{as_mark, from-spread, in-spread}
use Rattle.st_puts.proofs.MentionsExact.{mentions_exact}
use Rattle.st_puts.proofs.NamesExact.{names_exact}
use Rattle.st_puts.proofs.OverDocuments.{skip-made, touches}
use Rattle.st_puts.proofs.RowsAsSeen.{change_sees}
use Rattle.st_trim.specs.Trimmed.{trim_mark}
use Rattle.st_trim.specs.inside.Cut.{cut_row}
use Rattle.st_climb.specs.Upwards.{AreUpwards}
use Rattle.st_change_listings.specs.Places.{places_told, stood_in_register, stood_in_row}
use Rattle.st_parts.specs.TrimmedChange.{ListsChange, mark_of}
use Rattle.st_parts.specs.inside.Cut.{tells_register}
use Rattle.st_parts.proofs.AboveNames.{mentions_in, mentions_which}
use Rattle.st_parts.proofs.CutChanges.{cut_trims}
use Rattle.st_parts.proofs.NamesOfParts.{put_names}
use Rattle.st_parts.proofs.ShortListings.{row_is}
use Rattle.st_parts.proofs.TrimmedChanges.{trimmed_change}

-- a mark stays as it is, or is counted
trim_is : (k : Nodes) (w : CellMark) → (trim_mark k w ≡ w) ⊎ (trim_mark k w ≡ Counted)
trim_is k Counted = inl refl
trim_is k (Gap c) = inl refl
trim_is k (Touch c n Stay) = go (k n)
  where
    go : (b : Bool) → (cond b (Touch c n Stay) Counted ≡ Touch c n Stay) ⊎ (cond b (Touch c n Stay) Counted ≡ Counted)
    go true = inl refl
    go false = inr refl
trim_is k (Touch c n Here) = inl refl
trim_is k (Touch c n Leave) = inl refl
trim_is k (Make c n b) = inl refl
trim_is k (Fill c n) = inl refl

-- what tells names
touch-not : (c : CellId) (n : NodeId) (h : How) → Touch c n h ≡ Counted → ⊥
touch-not c n h e = cc

make-not : (c : CellId) (n : NodeId) (b : Bool) → Make c n b ≡ Counted → ⊥
make-not c n b e = cc

fill-not : (c : CellId) (n : NodeId) → Fill c n ≡ Counted → ⊥
fill-not c n e = cc

-- who doesn't stay is put
moved_put : (o : Option To) (t : To) → is_stay (how o t) ≡ false → (u : To) × (o ≡ Some u)
moved_put None t e = cc
moved_put (Some u) t e = (u, refl)

-- the cell of a mark that names someone
data NamesAs (n : NodeId) (row : NodeId) : Mark → Type 0 where
  by_cell : (z : CellMark) → (z ≡ Counted → ⊥) → tells z ≡ true → ((k : Nodes) → trim_mark k z ≡ z) → NamesAs n row (as_mark z)

names_as : (n row : NodeId) (y : Mark) → Has (names_by row y) n → NamesAs n row y
names_as n row (Mark.Skip k) h = absurd h
names_as n row (Mark.Gap c) h = absurd h
names_as n row (Mark.Touch c j Stay) h = absurd h
names_as n row (Mark.Touch c j Here) h = by_cell (Touch c j Here) (touch-not c j Here) refl (λ k. refl)
names_as n row (Mark.Touch c j Leave) h = by_cell (Touch c j Leave) (touch-not c j Leave) refl (λ k. refl)
names_as n row (Mark.Make c j b) h = by_cell (Make c j b) (make-not c j b) refl (λ k. refl)
names_as n row (Mark.Fill c j) h = by_cell (Fill c j) (fill-not c j) refl (λ k. refl)

module _ (D : Document) (N : Intent) (K : Nodes) (G : Change) (x : IsSoundInForm D) (f : Fits D N) (l : ListsChange D N K G) where
  abbrev k : Nodes
  k = mentions_in D x N

  which : (n : NodeId) → (k n ≡ true) ↔ IsMentionedByIntent D N n
  which = mentions_which D x N

  -- the change itself
  abbrev C : Change
  C = record { rev = G.rev; under = G.under; base = G.base; need = G.need; new = G.new; rows = filter_map (cut_row k) G.rows; regs = filter (tells_register k) G.regs; loose = filter (λ (l : Loose). k l.node) G.loose; schema = G.schema }

  emb : IsEmbedding D N C
  emb = trimmed_change D N K k G C x l which (cut_trims D N K k G C l (record { rev = refl; under = refl; base = refl; schema = refl; need = refl; new = refl; rows = refl; regs = refl; loose = refl }))

  reg_is : (r : RegMark) → Has G.regs r → r ≡ mark_of D N r.field
  reg_is r h =
      let listed = has-item_of field_cmp field_cmp_total field_cmp_exact (λ (q : RegMark). q.field) G.regs r l.regs_rise h in
      subst (λ (o : Option RegMark). MatchOption o (embed_register r.field (register_part K N r.field) (D.held r.field) ≡ None) (λ q. q ≡ mark_of D N r.field)) listed (l.regs r.field)

  loose_is : (y : Loose) → Has G.loose y → y.how ≡ how (put_of N y.node) To.Nowhere
  loose_is y h = ap (λ (z : Loose). z.how) (shown-Some (is_loose K D y.node) (record { node = y.node; how = how (put_of N y.node) To.Nowhere }) y (sym (l.loose.at_each y.node) ∙ has-item_of node_cmp node_cmp_total node_cmp_exact (λ (q : Loose). q.node) G.loose y l.loose.rising h))

  put_known : (n : NodeId) (t : To) → put_of N n ≡ Some t → is_new N n ≡ false → k n ≡ true
  put_known n t e old = (which n).1 (n, put_names D N n t e, elim (known_put D N f n t e).0 [ inl new ↦ absurd (true-false new old) | inr known ↦ known ], zero, refl)

  -- ## Names

  abbrev rows_part : Change → List NodeId
  rows_part A = flat_map row_names A.rows

  abbrev regs_part : Change → List NodeId
  regs_part A = flat_map register_names A.regs

  abbrev loose_part : Change → List NodeId
  loose_part A = flat_map loose_names A.loose

  by_part : (A : Change) (n : NodeId) (P : Type 0) → (Has (rows_part A) n → P) → (Has (regs_part A) n → P) → (Has (loose_part A) n → P) → (Has A.need n → P) → Has (names_told A) n → P
  by_part A n P rows regs loose need h = elim (has-append (rows_part A ++ regs_part A ++ loose_part A) A.need n h) [
    | inr i ↦ need i
    | inl a ↦ elim (has-append (rows_part A ++ regs_part A) (loose_part A) n a) [
      | inr i ↦ loose i
      | inl b ↦ elim (has-append (rows_part A) (regs_part A) n b) [ inl i ↦ rows i | inr i ↦ regs i ]
    ]
  ]

  in_rows : (A : Change) (n : NodeId) → Has (rows_part A) n → Has (names_told A) n
  in_rows A n i = append_left (rows_part A ++ regs_part A ++ loose_part A) A.need n (append_left (rows_part A ++ regs_part A) (loose_part A) n (append_left (rows_part A) (regs_part A) n i))

  in_regs : (A : Change) (n : NodeId) → Has (regs_part A) n → Has (names_told A) n
  in_regs A n i = append_left (rows_part A ++ regs_part A ++ loose_part A) A.need n (append_left (rows_part A ++ regs_part A) (loose_part A) n (append_right (rows_part A) (regs_part A) n i))

  in_loose : (A : Change) (n : NodeId) → Has (loose_part A) n → Has (names_told A) n
  in_loose A n i = append_left (rows_part A ++ regs_part A ++ loose_part A) A.need n (append_right (rows_part A ++ regs_part A) (loose_part A) n i)

  in_need : (A : Change) (n : NodeId) → Has A.need n → Has (names_told A) n
  in_need A n i = append_right (rows_part A ++ regs_part A ++ loose_part A) A.need n i

  -- a mark that tells is there with fewer named
  mark_kept : (r : RowMarks) (z : CellMark) → Has G.rows r → (z ≡ Counted → ⊥) → tells z ≡ true → trim_mark k z ≡ z → Has r.marks (as_mark z) → (q : RowMarks) × Has C.rows q × (q.node ≡ r.node) × Has q.marks (as_mark z)
  mark_kept r z i some t e j =
      let cells = map (trim_mark k) (spread r.marks) in
      let there : Has cells z = subst (Has cells) e (map-has (trim_mark k) (spread r.marks) z (in-spread r.marks z some j)) in
      let q : RowMarks = record { node = r.node; marks = merge cells } in (
        q,
        has-filter_map (cut_row k) G.rows r q i (ap (λ b. cond {A = Option RowMarks} b (Some q) None) (has-any tells cells z there t)),
        refl,
        from-spread (merge cells) z some (subst (λ ms. Has ms z) (sym (spread-merge cells)) there),
      )

  -- and one that is there with fewer named was there
  mark_there : (q : RowMarks) (z : CellMark) → Has C.rows q → (z ≡ Counted → ⊥) → Has q.marks (as_mark z) → (r : RowMarks) × Has G.rows r × (q.node ≡ r.node) × Has r.marks (as_mark z)
  mark_there q z i some j =
      let r = filter-from (cut_row k) G.rows q i in
      let cells = map (trim_mark k) (spread r.0.marks) in
      let is : q ≡ record { node = r.0.node; marks = merge cells } = shown-Some (list_any tells cells) (record { node = r.0.node; marks = merge cells }) q r.2 in
      let there : Has cells z = subst (λ ms. Has ms z) (ap (λ (q : RowMarks). spread q.marks) is ∙ spread-merge cells) (in-spread q.marks z some j) in
      let w = has-map (trim_mark k) (spread r.0.marks) z there in
      let same : w.0 ≡ z = elim (trim_is k w.0) [ inl e ↦ sym e ∙ w.2 | inr e ↦ absurd (some (sym w.2 ∙ e)) ] in
      (r.0, r.1, ap (λ (q : RowMarks). q.node) is, from-spread r.0.marks z some (subst (Has (spread r.0.marks)) same w.1))

  row_kept : (r : RowMarks) (n : NodeId) → Has G.rows r → Has (row_names r) n → Has (names_told C) n
  row_kept r n i h = let y = has-flat_map (names_by r.node) r.marks n h in go y.0 y.1 y.2 (names_as n r.node y.0 y.2)
    where
      go : (y : Mark) → Has r.marks y → Has (names_by r.node y) n → NamesAs n r.node y → Has (names_told C) n
      go y j h (by_cell z some t e) =
          let q = mark_kept r z i some t (e k) j in
          in_rows C n (flat_map-has row_names C.rows q.0 n q.1 (flat_map-has (names_by q.0.node) q.0.marks (as_mark z) n q.3 (subst (λ a. Has (names_by a (as_mark z)) n) (sym q.2) h)))

  row_there : (q : RowMarks) (n : NodeId) → Has C.rows q → Has (row_names q) n → Has (names_told G) n
  row_there q n i h = let y = has-flat_map (names_by q.node) q.marks n h in go y.0 y.1 y.2 (names_as n q.node y.0 y.2)
    where
      go : (y : Mark) → Has q.marks y → Has (names_by q.node y) n → NamesAs n q.node y → Has (names_told G) n
      go y j h (by_cell z some t e) =
          let r = mark_there q z i some j in
          in_rows G n (flat_map-has row_names G.rows r.0 n r.1 (flat_map-has (names_by r.0.node) r.0.marks (as_mark z) n r.3 (subst (λ a. Has (names_by a (as_mark z)) n) r.2 h)))

  -- a register that names someone is listed with fewer named
  reg_kept : (r : RegMark) (n : NodeId) → Has G.regs r → is_new N n ≡ false → Has (register_names r) n → tells_register k r ≡ true
  reg_kept r n i old h = elim (has-append (one_or_none (moved_held r)) (one_or_none (node_cleared r)) n h) [
    | inr j ↦ or-left r.clear (holds_mentioned k r.held) (cleared r.clear (one-is (node_cleared r) n j))
    | inl j ↦ (let m = moved (is_stay r.how) refl (one-is (moved_held r) n j) in
        let p = moved_put (put_of N n) (To.Register r.field) (ap is_stay (sym (held_how (D.held r.field) (sym (ap (λ (q : RegMark). q.held) (reg_is r i)) ∙ m.1) (ap (λ (q : RegMark). q.how) (reg_is r i)))) ∙ m.0) in
        or-right r.clear (holds_mentioned k r.held) (ap (holds_mentioned k) m.1 ∙ put_known n p.0 p.1 old))
  ]
    where
      cleared : (b : Bool) → cond b (Some r.field.node) None ≡ Some n → b ≡ true
      cleared true e = refl
      cleared false e = cc

      moved : (b : Bool) → is_stay r.how ≡ b → cond b None r.held ≡ Some n → (is_stay r.how ≡ false) × (r.held ≡ Some n)
      moved true q e = cc
      moved false q e = (q, e)

      held_how : (o : Option NodeId) → o ≡ Some n → r.how ≡ how_held r.field (register_part (λ n. true) N r.field) o → r.how ≡ how (put_of N n) (To.Register r.field)
      held_how o e g = g ∙ ap (how_held r.field (register_part (λ n. true) N r.field)) e

  loose_kept : (y : Loose) (n : NodeId) → Has G.loose y → is_new N n ≡ false → Has (loose_names y) n → k y.node ≡ true
  loose_kept y n i old h = go (is_stay y.how) refl h
    where
      go : (b : Bool) → is_stay y.how ≡ b → Has (cond b [] (y.node ∷ [])) n → k y.node ≡ true
      go true e q = absurd q
      go false e (inr q) = absurd q
      go false e (inl q) = let p = moved_put (put_of N y.node) To.Nowhere (ap is_stay (sym (loose_is y i)) ∙ e) in put_known y.node p.0 p.1 (ap (is_new N) q ∙ old)

  names_kept : (n : NodeId) → is_new N n ≡ false → Has (names_told G) n → Has (names_told C) n
  names_kept n old = by_part G n (Has (names_told C) n)
      (λ i. let r = has-flat_map row_names G.rows n i in row_kept r.0 n r.1 r.2)
      (λ i. let r = has-flat_map register_names G.regs n i in in_regs C n (flat_map-has register_names C.regs r.0 n (filter-has (tells_register k) G.regs r.0 r.1 (reg_kept r.0 n r.1 old r.2)) r.2))
      (λ i. let y = has-flat_map loose_names G.loose n i in in_loose C n (flat_map-has loose_names C.loose y.0 n (filter-has (λ (l : Loose). k l.node) G.loose y.0 y.1 (loose_kept y.0 n y.1 old y.2)) y.2))
      (in_need C n)

  names_there : (n : NodeId) → Has (names_told C) n → Has (names_told G) n
  names_there n = by_part C n (Has (names_told G) n)
      (λ i. let r = has-flat_map row_names C.rows n i in row_there r.0 n r.1 r.2)
      (λ i. let r = has-flat_map register_names C.regs n i in in_regs G n (flat_map-has register_names G.regs r.0 n (filtered (tells_register k) G.regs r.0 r.1).0 r.2))
      (λ i. let y = has-flat_map loose_names C.loose n i in in_loose G n (flat_map-has loose_names G.loose y.0 n (filtered (λ (l : Loose). k l.node) G.loose y.0 y.1).0 y.2))
      (in_need G n)

  new_listed : (n : NodeId) → not (is_among (nodes_new G.new) n) ≡ true → is_new N n ≡ false
  new_listed n e = refuted-false (is_new N n) (λ new. true-false ((among_has (nodes_new G.new) n).1 (has-new D N C x f emb n new)) (not-true (is_among (nodes_new G.new) n) e))

  pub names_right : (n : NodeId) → ((is_among (names_told G) n && not (is_among (nodes_new G.new) n)) ≡ true) ↔ (Has (named_by_intent D N) n × IsSome (D.nodes n))
  names_right n = (
    λ e. (let p = and-true (is_among (names_told G) n) (not (is_among (nodes_new G.new) n)) e in
        (names_exact D N C x f emb n).0 (and-both (is_among (names_told C) n) (not (is_among (nodes_new C.new) n)) ((among_has (names_told C) n).1 (names_kept n (new_listed n p.1) ((among_has (names_told G) n).0 p.0))) p.1)),
    λ h. (let p = and-true (is_among (names_told C) n) (not (is_among (nodes_new C.new) n)) ((names_exact D N C x f emb n).1 h) in
        and-both (is_among (names_told G) n) (not (is_among (nodes_new G.new) n)) ((among_has (names_told G) n).1 (names_there n ((among_has (names_told C) n).0 p.0))) p.1),
  )

  -- ## Places

  abbrev Pair : Type 0
  Pair = NodeId × Spot

  right_of : (n j : NodeId) (p q : Spot) → Has {A = Pair} ((j, q) ∷ []) (n, p) → D.place j ≡ q → D.place n ≡ p
  right_of n j p q (inl e) h = ap (λ (w : Pair). D.place w.0) (sym e) ∙ h ∙ ap (λ (w : Pair). w.1) e
  right_of n j p q (inr e) h = absurd e

  touch_right : (r : RowMarks) (c : CellId) (j : NodeId) (h : How) → Has G.rows r → Has r.marks (Mark.Touch c j h) → D.place j ≡ Spot.Row r.node c
  touch_right r c j h i m =
      let p = row_part K N r.node in
      let there = subst (λ ms. Has ms (Touch c j h)) (row_is D N K G l r i) (in-spread r.marks (Touch c j h) (touch-not c j h) m) in
      stands D x j r.node c (touched (content D r.node) (embed_row p (content D r.node)) c j h (change_sees p (content D r.node)) there)

  held_right : (r : RegMark) (j : NodeId) → Has G.regs r → r.held ≡ Some j → D.place j ≡ Spot.Register r.field
  held_right r j i e = (x.one_held j r.field).0 (sym (ap (λ (q : RegMark). q.held) (reg_is r i)) ∙ e)

  told_right : (n : NodeId) (p : Spot) → Has (places_told G) (n, p) → D.place n ≡ p
  told_right n p h = elim (has-append (flat_map stood_in_row G.rows) (flat_map stood_in_register G.regs) (n, p) h) [
    | inl i ↦ (let r = has-flat_map stood_in_row G.rows (n, p) i in let y = has-flat_map (stood_by r.0.node) r.0.marks (n, p) r.2 in at r.0 y.0 r.1 y.1 y.2)
    | inr i ↦ (let r = has-flat_map stood_in_register G.regs (n, p) i in held r.0 r.1 r.0.held refl r.2)
  ]
    where
      at : (r : RowMarks) (y : Mark) → Has G.rows r → Has r.marks y → Has (stood_by r.node y) (n, p) → D.place n ≡ p
      at r (Mark.Skip k) i j h = absurd h
      at r (Mark.Gap c) i j h = absurd h
      at r (Mark.Touch c m w) i j h = right_of n m p (Spot.Row r.node c) h (touch_right r c m w i j)
      at r (Mark.Make c m b) i j h = absurd h
      at r (Mark.Fill c m) i j h = absurd h

      held : (r : RegMark) → Has G.regs r → (o : Option NodeId) → r.held ≡ o → Has (held_spot r.field o) (n, p) → D.place n ≡ p
      held r i None e h = absurd h
      held r i (Some j) e h = right_of n j p (Spot.Register r.field) h (held_right r j i e)

  -- whom the intent mentions stands where it is told, if it stands somewhere
  told_row : (n r : NodeId) (c : CellId) → K n ≡ true → D.place n ≡ Spot.Row r c → Has (places_told G) (n, Spot.Row r c)
  told_row n r c named e = go (item_of node_cmp (λ (q : RowMarks). q.node) G.rows r) refl (l.rows r)
    where
      h : How
      h = how (put_of N n) (To.Cell c)

      there : Has (embed_row (row_part K N r) (content D r)) (Touch c n h)
      there = skip-made (row_part K N r) (group_at N r None) (embed_cells (row_part K N r) (content D r)) (Touch c n h) (touches (row_part K N r) (content D r) c n (shown D x n r c e) named)

      go : (o : Option RowMarks) → item_of node_cmp (λ (q : RowMarks). q.node) G.rows r ≡ o → MatchOption o (list_any tells (embed_row (row_part K N r) (content D r)) ≡ false) (λ q. q.marks ≡ merge (embed_row (row_part K N r) (content D r))) → Has (places_told G) (n, Spot.Row r c)
      go None q w = absurd (true-false (has-any tells (embed_row (row_part K N r) (content D r)) (Touch c n h) there refl) w)
      go (Some q) g w =
          let i = item_of-has node_cmp node_cmp_total node_cmp_exact (λ (q : RowMarks). q.node) G.rows r q g in
          let mark = from-spread q.marks (Touch c n h) (touch-not c n h) (subst (λ ms. Has ms (Touch c n h)) (sym (ap spread w ∙ spread-merge (embed_row (row_part K N r) (content D r)))) there) in
          append_left (flat_map stood_in_row G.rows) (flat_map stood_in_register G.regs) (n, Spot.Row r c)
          (flat_map-has stood_in_row G.rows q (n, Spot.Row r c) i.0 (flat_map-has (stood_by q.node) q.marks (Mark.Touch c n h) (n, Spot.Row r c) mark (inl (λ w. (n, Spot.Row (i.1 w) c)))))

  told_register : (n : NodeId) (g : FieldId) → K n ≡ true → D.place n ≡ Spot.Register g → Has (places_told G) (n, Spot.Register g)
  told_register n g named e = go (item_of field_cmp (λ (q : RegMark). q.field) G.regs g) refl (l.regs g)
    where
      held : D.held g ≡ Some n
      held = (x.one_held n g).1 e

      tells_it : (clears N g || holds_mentioned K (D.held g)) ≡ true
      tells_it = or-right (clears N g) (holds_mentioned K (D.held g)) (ap (holds_mentioned K) held ∙ named)

      m : RegMark
      m = record { field = g; held = D.held g; how = how_held g (register_part K N g) (D.held g); clear = clears N g; fill = comes_in (D.held g) (put_in N g) }

      go : (o : Option RegMark) → item_of field_cmp (λ (q : RegMark). q.field) G.regs g ≡ o → MatchOption o (embed_register g (register_part K N g) (D.held g) ≡ None) (λ q. q ≡ mark_of D N g) → Has (places_told G) (n, Spot.Register g)
      go None q w = absurd (true-false tells_it (shown-None (clears N g || holds_mentioned K (D.held g)) m w))
      go (Some q) u w =
          let i = item_of-has field_cmp field_cmp_total field_cmp_exact (λ (q : RegMark). q.field) G.regs g q u in
          append_right (flat_map stood_in_row G.rows) (flat_map stood_in_register G.regs) (n, Spot.Register g)
          (flat_map-has stood_in_register G.regs q (n, Spot.Register g) i.0 (subst (λ o. Has (held_spot q.field o) (n, Spot.Register g)) (sym (ap (λ (q : RegMark). q.held) w ∙ held)) (inl (λ w. (n, Spot.Register (i.1 w))))))

  pub places_right : (places : BTreeMap NodeId Spot) → ((n : NodeId) → get node_cmp places n ≡ first_at (places_told G) n) → PlacesMentioned D N places
  places_right places told n h = ap (λ o. unwrap_or o Spot.Nowhere) (told n) ∙ go (first_at (places_told G) n) refl
    where
      named : K n ≡ true
      named = l.covers n h

      missing : (p : Spot) → first_at (places_told G) n ≡ None → Has (places_told G) (n, p) → ⊥
      missing p e i = let q = is-first (places_told G) n p i in let bad : ◌≡◌ {A = Option Spot} None (Some q.0) = sym e ∙ q.1 in cc

      go : (o : Option Spot) → first_at (places_told G) n ≡ o → unwrap_or o Spot.Nowhere ≡ D.place n
      go (Some p) e = sym (told_right n p (first-is (places_told G) n p e))
      go None e = at (D.place n) refl
        where
          at : (s : Spot) → D.place n ≡ s → Spot.Nowhere ≡ D.place n
          at Spot.Nowhere q = sym q
          at (Spot.Row r c) q = absurd (missing (Spot.Row r c) e (told_row n r c named q))
          at (Spot.Register g) q = absurd (missing (Spot.Register g) e (told_register n g named q))

  -- all above the names, by the places that are told
  pub mentions_listed : (places : BTreeMap NodeId Spot) (begins has : Nodes) → ((n : NodeId) → get node_cmp places n ≡ first_at (places_told G) n)
      → ((n : NodeId) → begins n ≡ (is_among (names_told G) n && not (is_among (nodes_new G.new) n))) → AreUpwards (above_in places) begins has → AreMentions D N has
  mentions_listed places begins has told names up =
      mentions_exact D D N (extends_itself D x) f f places begins has (places_right places told)
      (λ s. subst (λ b. (b ≡ true) ↔ (Has (named_by_intent D N) s × IsSome (D.nodes s))) (sym (names s)) (names_right s)) (λ s h known. known) up
