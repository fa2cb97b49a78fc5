-- Two parts of a commit over a document agree.
use Rattle.std.proofs.Common.{◌≡◌, ◌≢◌, ℕ, Bool, true, false, ◌||◌, List, [], ◌++◌, map, Option, Some, None, IsSome, IsTrue, IfSome, cond, option_and_then, refl, sym, ap, ◌∙◌, subst, inl, inr, ◌⊎◌, ◌↔◌}
use Rattle.std.specs.List.{AllByRecursion, flat_map, list_any}
use Rattle.std.specs.Option.{option_map_or, option_or}
use Rattle.st_ids.specs.Listing.{Has, item_of}
use Rattle.st_ids.specs.Order.{node_cmp, same_cell}
use Rattle.st_ids.proofs.Listings.{has-item_of}
use Rattle.st_ids.proofs.Orders.{node_cmp_exact, node_cmp_total, same_cell-itself, same_cell-true}
use Rattle.st_ids.specs.declared.names.CellId.{CellId}
use Rattle.st_ids.specs.declared.names.FieldId.{FieldId}
use Rattle.st_ids.specs.declared.names.NodeId.{NodeId}
use Rattle.st_marks.specs.declared.changes.Change.{Change}
use Rattle.st_marks.specs.declared.intents.Group.{Group}
use Rattle.st_marks.specs.declared.intents.Intent.{Intent}
use Rattle.st_marks.specs.declared.intents.Owned.{Owned}
use Rattle.st_marks.specs.declared.intents.To.{To}
use Rattle.st_marks.specs.declared.marks.How.{How}
use Rattle.st_marks.specs.declared.marks.Loose.{Loose}
use Rattle.st_marks.specs.declared.marks.RegMark.{RegMark}
use Rattle.st_marks.specs.declared.marks.RowMarks.{RowMarks}
use Rattle.st_marks.specs.declared.places.Slot.{Slot}
use Rattle.st_marks.specs.declared.places.Spot.{Spot}
use Rattle.st_marks.specs.declared.schemas.SchemaEntry.{SchemaEntry}
use Rattle.st_marks.specs.Agree.{Agrees, CanBeParts, HaveSchemasOfParts, JoinClash, LeadsUp, MadeAgain, MadeAt, OwnedTooEarly, SchemasAtChange, broken, cell_again, further_up, node_again, one_up, owned_early}
use Rattle.st_marks.specs.CarryOut.{full, place_after, unless_cleared, with_names, with_schema}
use Rattle.st_marks.specs.Document.{Document, HasShortRows, IsSoundInForm, Reaches, above, content, node_of, slot}
use Rattle.st_marks.specs.Embedding.{IsEmbedding, row_marks, row_part, tells}
use Rattle.st_marks.specs.Intent.{Fits, clears, is_new, new_row_of, put_of}
use Rattle.st_marks.specs.Join.{AreParts, above_made}
use Rattle.st_marks.specs.Row.{CellMark, Make, embed_row, merge, spread}
use Rattle.st_marks.specs.Listings.{Listing, Places, cell_made, cells_before, cells_in, cells_made, is_among_cells, listing_after_change, listing_before_change, marks_of, names_of_change, nodes_loose, nodes_new, nodes_standing, one_or_none, placed_before}
use Rattle.st_marks.specs.Verdict.{HasBase, IsAboveItself}
use Rattle.st_marks.proofs.Climb.{placed_known}
use Rattle.st_marks.proofs.Full.{full_sound}
use Rattle.st_marks.proofs.Lookups.{group_at-group, made_there}
use Rattle.st_marks.proofs.Members.{any-has, append_left, append_right, flat_map-has, has-any, has-flat_map, has-map, map-has}
use Rattle.st_marks.proofs.NewRows.{known_after, old_or_made}
use Rattle.st_lemmas.proofs.Options.{None-IsSome}
use Rattle.st_rows.proofs.Documents.{in_document}
use Rattle.st_rows.proofs.KindLaws.{spread-merge}
use Rattle.st_normal.proofs.AboveItself.{never_ends, one_step, step_before}
use Rattle.st_puts.proofs.FoundPlaces.{PlacedAs, as_held, as_loose, as_row}
use Rattle.st_puts.proofs.OverDocuments.{row-told}
use Rattle.st_puts.proofs.PutsInMarks.{cleared-listed, in-group, put-placed}
use Rattle.st_agree_laws.proofs.CellsOnce.{in-row, made-row}
use Rattle.st_agree_laws.proofs.NamesApart.{change_makes_new, change_names_known}
use Rattle.st_agree_laws.proofs.ShownTruth.{change_true, no_difference_shown}
use Rattle.st_part_agree_laws.proofs.LeftByChange.{change_left_true, described-at, says_left, shown_left, there, touched-standing}

cell-has : (cs : List CellId) (c : CellId) → is_among_cells cs c ≡ true → Has cs c
cell-has cs c e = let r = any-has (λ d. same_cell d c) cs e in subst (Has cs) (same_cell-true r.0 c r.2) r.1

has-cell : (cs : List CellId) (c : CellId) → Has cs c → is_among_cells cs c ≡ true
has-cell cs c h = has-any (λ d. same_cell d c) cs c h (same_cell-itself c)

has-made : (xs : List CellMark) (a : CellId) (n : NodeId) (b : Bool) → Has xs (Make a n b) → Has (cells_made xs) a
has-made xs a n b h = flat_map-has cell_made xs (Make a n b) a h (inl refl)

-- the marks of a row that is listed, or none
marks-told : (rows : List RowMarks) (n : NodeId) (cells : List CellMark) (a : CellId) → item_of node_cmp (λ (r : RowMarks). r.node) rows n ≡ row_marks n cells → Has (cells_in (marks_of rows n)) a → Has (cells_in cells) a
marks-told rows n cells a e h = go (list_any tells cells) (subst (λ o. Has (cells_in (option_map_or (λ (r : RowMarks). spread r.marks) o [])) a) e h)
  where
    go : (b : Bool) → Has (cells_in (option_map_or (λ (r : RowMarks). spread r.marks) (cond b (Some (record { node = n; marks = merge cells })) None) [])) a → Has (cells_in cells) a
    go true i = subst (λ l. Has (cells_in l) a) (spread-merge cells) i
    go false i = absurd i

-- ## One change

module _ (D : Document) (N : Intent) (C : Change) (x : IsSoundInForm D) (f : Fits D N) (emb : IsEmbedding D N C) where
  made-new : (r : NodeId) (k : Option CellId) (o : Owned) → Has (Rattle.st_marks.specs.Intent.group_at N r k) o → IsSome (new_row_of N o.cell)
  made-new r k o h = let q = group_at-group N r k o h in made_there N o (flat_map-has (λ (k : Group). k.cells) N.groups q.group o q.listed q.cell)

  -- the cells that it names are in the document after it, and those that it makes are new
  cell-named : (q : NodeId) (a : CellId) → IsTrue ((names_of_change C).names_cell q a) → IsSome ((full D N).row_of a)
  cell-named q a e = elim (in-row (row_part emb.mentioned N q) a (content D q) (marks-told C.rows q (embed_row (row_part emb.mentioned N q) (content D q)) a (emb.rows.at_each q) (cell-has (cells_in (marks_of C.rows q)) a e))) [
    | inl h ↦ old (D.row_of a) (in_document D x q a h)
    | inr w ↦ new (D.row_of a) (new_row_of N a) (subst (λ c. IsSome (new_row_of N c)) w.3 (made-new q w.0 w.1 w.2))
  ]
    where
      old : (o : Option NodeId) → o ≡ Some q → IsSome (option_or o (new_row_of N a))
      old None e = cc
      old (Some k) e = refl

      new : (o p : Option NodeId) → IsSome p → IsSome (option_or o p)
      new None p h = h
      new (Some k) p h = refl

  cell-new : (a : CellId) → IsTrue ((names_of_change C).makes_cell a) → IsSome (new_row_of N a)
  cell-new a e =
      let r = has-flat_map (λ (r : RowMarks). cells_made (spread r.marks)) C.rows a (cell-has (flat_map (λ (r : RowMarks). cells_made (spread r.marks)) C.rows) a e) in
      let w = row-told r.0 r.0.node (embed_row (row_part emb.mentioned N r.0.node) (content D r.0.node)) (sym (emb.rows.at_each r.0.node) ∙ has-item_of node_cmp node_cmp_total node_cmp_exact (λ (r : RowMarks). r.node) C.rows r.0 emb.rows.rising r.1) in
      let k = made-row (row_part emb.mentioned N r.0.node) a (content D r.0.node) (subst (λ l. Has (cells_made l) a) w.0 r.2) in
      subst (λ c. IsSome (new_row_of N c)) k.3 (made-new r.0.node k.0 k.1 k.2)

  -- a cell of a node that it makes is one that it makes
  owner-makes : (q : NodeId) (o : Owned) → Has ((full D N).rows q) o → is_new N o.node ≡ true → IsTrue ((names_of_change C).makes_cell o.cell)
  owner-makes q o h new = elim (old_or_made D N q o h) [
    | inl i ↦ absurd (None-IsSome (D.nodes o.node) (f.fresh_nodes o.node new) (x.cells_known q o i).1)
    | inr i ↦ (let g = has-flat_map (λ (g : Group). g.cells) N.groups o i in
        let r = in-group D N C x f emb g.0 o g.1 g.2 in
        has-cell (flat_map (λ (r : RowMarks). cells_made (spread r.marks)) C.rows) o.cell (flat_map-has (λ (r : RowMarks). cells_made (spread r.marks)) C.rows r.0 o.cell r.1 (has-made (spread r.0.marks) o.cell o.node _ r.3)))
  ]

  -- ## Who is put is found

  in-there : (n : NodeId) → Has (placed_before C.rows (map (λ (r : RegMark). r.held) C.regs)) n → Has (there D N C x f emb) n
  in-there n i = append_right (nodes_new C.new ++ nodes_loose C.loose) (placed_before C.rows (map (λ (r : RegMark). r.held) C.regs)) n i

  held-there : (r : RegMark) (n : NodeId) → Has C.regs r → r.held ≡ Some n → Has (there D N C x f emb) n
  held-there r n i e = in-there n (append_right (flat_map (λ (r : RowMarks). nodes_standing (cells_before (spread r.marks))) C.rows) (flat_map one_or_none (map (λ (r : RegMark). r.held) C.regs)) n
      (flat_map-has one_or_none (map (λ (r : RegMark). r.held) C.regs) r.held n (map-has (λ (r : RegMark). r.held) C.regs r i) (subst (λ o. Has (one_or_none o) n) (sym e) (inl refl))))

  placed-there : (n : NodeId) (h : How) → PlacedAs D C n h → Has (there D N C x f emb) n
  placed-there n h (as_row r c i j e) = in-there n (append_left (flat_map (λ (r : RowMarks). nodes_standing (cells_before (spread r.marks))) C.rows) (flat_map one_or_none (map (λ (r : RegMark). r.held) C.regs)) n
      (flat_map-has (λ (r : RowMarks). nodes_standing (cells_before (spread r.marks))) C.rows r n i (touched-standing (spread r.marks) c n h j)))
  placed-there n h (as_held r i e g p) = held-there r n i e
  placed-there n h (as_loose l i e g p k) = append_left (nodes_new C.new ++ nodes_loose C.loose) (placed_before C.rows (map (λ (r : RegMark). r.held) C.regs)) n
      (append_right (nodes_new C.new) (nodes_loose C.loose) n (subst (Has (nodes_loose C.loose)) e (map-has (λ (l : Loose). l.node) C.loose l i)))

  -- a node that isn't shown after it, and stands somewhere, stays there
  unshown-stays : (n : NodeId) (s : Spot) → IsSome (D.nodes n) → D.place n ≡ s → ((t : Spot) → Places (listing_after_change C) n t → ⊥) → (full D N).place n ≡ s
  unshown-stays n s known at none = go (put_of N n) refl
    where
      hidden : Has (there D N C x f emb) n → ⊥
      hidden i = let w = shown_left D N C x f emb n i in none w.0 w.1

      stays : (s : Spot) → D.place n ≡ s → unless_cleared N s ≡ s
      stays Spot.Nowhere e = refl
      stays (Spot.Row r c) e = refl
      stays (Spot.Register k) e = unclear (clears N k) refl
        where
          unclear : (b : Bool) → clears N k ≡ b → cond b Spot.Nowhere (Spot.Register k) ≡ Spot.Register k
          unclear true w = absurd (hidden (held-there _ n (cleared-listed D N C x f emb k w) ((x.one_held n k).1 e)))
          unclear false w = refl

      go : (t : Option To) → put_of N n ≡ t → (full D N).place n ≡ s
      go (Some t) e = let p = put-placed D N C x f emb n t e known in absurd (hidden (placed-there n p.0 p.1))
      go None e = (λ i. place_after (with_names D N).row_of N (e i) (at i)) ∙ stays s at

-- ## Schemas

at_change : (es : List SchemaEntry) (D : Document) (N : Intent) (C : Change) → IsSoundInForm D → IsEmbedding D N C → N.schema ≡ None → D.schemas ≡ es → SchemasAtChange es C
at_change es D N C x emb plain same = subst (λ es. SchemasAtChange es C) same (record {
  in_effect = x.in_effect;
  base = subst (λ u. IsTrue C.base ↔ HasBase D.schemas C.schema u) (sym emb.under) (subst (λ (s : Option (List ℕ)). IsTrue C.base ↔ HasBase D.schemas s N.under) (sym emb.schema) emb.base);
  fresh = subst (λ (o : Option (List ℕ)). IfSome o (λ _. AllByRecursion (λ (e : SchemaEntry). e.rev ≢ C.rev) D.schemas)) (sym (emb.schema ∙ plain)) tt;
})

-- ## Two parts

module _ (D : Document) (N M : Intent) (C K : Change) (x : IsSoundInForm D) (parts : AreParts D N M) (sound : (n : NodeId) → IsAboveItself D N n → ⊥) (short : HasShortRows (full D N))
    (first : IsEmbedding D N C) (next : IsEmbedding (full D N) M K) where
  abbrev E : Document
  E = full D N

  abbrev L : Listing
  L = listing_after_change C

  y : IsSoundInForm E
  y = full_sound D N x parts.first_fits short (λ p put ring. sound p (put, ring))

  none-again : (k : FieldId) → MadeAgain L (listing_before_change K) k → ⊥
  none-again k (node_again n made named) = None-IsSome (E.nodes n) (parts.then_fits.fresh_nodes n (change_makes_new E M K y parts.then_fits next n made)) (known_after D N x parts.first_fits n (change_names_known D N C x parts.first_fits first n named))
  none-again k (cell_again c q r made named w) = None-IsSome (E.row_of c) (parts.then_fits.fresh_cells c (cell-new E M K y parts.then_fits next c made)) (cell-named D N C x parts.first_fits first q c named)

  none-early : (k : FieldId) → OwnedTooEarly L (listing_before_change K) k → ⊥
  none-early k (owned_early c n q r i w made unmade named) =
      let d = described-at (content E q) w.cells i (record { cell = Some c; node = Some n; full = w.full }) ((change_true E M K next).rows q w.cells w.listed) w.at_place in
      let o = has-map (slot E) (E.rows q) d.0 d.1 in
      let cell : c ≡ o.0.cell = d.2.1 ∙ sym (ap (λ (s : Slot). s.cell) o.2) in
      let node : n ≡ o.0.node = d.2.2 ∙ sym (ap (λ (s : Slot). s.node) o.2) in
      let new = subst (λ z. is_new N z ≡ true) node (change_makes_new D N C x parts.first_fits first n made) in
      not-both ((names_of_change C).makes_cell c) (subst (λ z. IsTrue ((names_of_change C).makes_cell z)) (sym cell) (owner-makes D N C x parts.first_fits first q o.0 o.1 new)) unmade
    where
      not-both : (b : Bool) → b ≡ true → b ≡ false → ⊥
      not-both true p q = cc
      not-both false p q = cc

  same-schemas : E.schemas ≡ D.schemas
  same-schemas = ap (λ o. with_schema N o D.schemas) parts.no_schema.0

  have-schemas : HaveSchemasOfParts C K
  have-schemas = (D.schemas, at_change D.schemas D N C x first parts.no_schema.0 refl, at_change D.schemas E M K y next parts.no_schema.1 same-schemas)

  -- ## Rings

  shown-up : (n p : NodeId) → LeadsUp (Places L) n p → Reaches (above E) n p
  shown-up n p (one_up s at e) = one_step (above E) n p (ap node_of (says_left D N C x parts.first_fits first n s at) ∙ e)
  shown-up n p (further_up {p = q} s at e l) = step_before (above E) n q p (ap node_of (says_left D N C x parts.first_fits first n s at) ∙ e) (shown-up q p l)

  abbrev up : NodeId → Option NodeId
  up = above_made D N M

  either-new : (n : NodeId) → IsTrue (L.names.makes_node n || (listing_after_change K).names.makes_node n) → (is_new N n || is_new M n) ≡ true
  either-new n e = go (L.names.makes_node n) refl ((listing_after_change K).names.makes_node n) refl e
    where
      go : (a : Bool) → L.names.makes_node n ≡ a → (b : Bool) → (listing_after_change K).names.makes_node n ≡ b → (a || b) ≡ true → (is_new N n || is_new M n) ≡ true
      go true p b q w = ap (λ z. z || is_new M n) (change_makes_new D N C x parts.first_fits first n p)
      go false p true q w = orr (is_new N n) (is_new M n) (change_makes_new E M K y parts.then_fits next n q)
        where
          orr : (a b : Bool) → b ≡ true → (a || b) ≡ true
          orr true b e = refl
          orr false b e = e
      go false p false q w = cc

  stands : (n : NodeId) (s : Spot) (p : NodeId) → node_of s ≡ Some p → (Places (listing_after_change K) n s ⊎ (((t : Spot) → Places (listing_after_change K) n t → ⊥) × Places L n s)) → (full E M).place n ≡ s
  stands n s p e (inl at) = says_left E M K y parts.then_fits next n s at
  stands n s p e (inr w) =
      let at = says_left D N C x parts.first_fits first n s w.1 in
      unshown-stays E M K y parts.then_fits next n s (placed_known E y n (λ q. somewhere (ap node_of (sym q ∙ at) ∙ e))) at w.0
    where
      somewhere : None ≡ Some p → ⊥
      somewhere q = cc

  made-up : (n p : NodeId) (s : Spot) → MadeAt C K n s → node_of s ≡ Some p → up n ≡ Some p
  made-up n p s w e =
      let a = either-new n w.0 in
      let b = either-new p (subst (λ o. IfSome o (λ z. IsTrue (L.names.makes_node z || (listing_after_change K).names.makes_node z))) e w.1) in
      let at : above (full E M) n ≡ Some p = ap node_of (stands n s p e w.2) ∙ e in
      (λ i. cond (a i) (option_and_then (λ q. cond (is_new N q || is_new M q) (Some q) None) (at i)) None) ∙ ap (λ z. cond z (Some p) None) b

  made-leads : (n p : NodeId) → LeadsUp (MadeAt C K) n p → Reaches up n p
  made-leads n p (one_up s at e) = one_step up n p (made-up n p s at e)
  made-leads n p (further_up {p = q} s at e l) = step_before up n q p (made-up n q s at e) (made-leads q p l)

  can-be-parts : CanBeParts C K
  can-be-parts = record {
    one_rev = first.rev ∙ sym parts.one_rev ∙ sym next.rev;
    one_under = first.under ∙ sym parts.one_under ∙ sym next.under;
    no_schema = (first.schema ∙ parts.no_schema.0, next.schema ∙ parts.no_schema.1);
    first_no_ring = λ n l. never_ends (above E) (y.no_ring n).0 n (shown-up n n l) (y.no_ring n).1;
    made_no_ring = λ n l. never_ends up (parts.no_ring n).0 n (made-leads n n l) (parts.no_ring n).1;
  }

  pub agree_as_parts : Agrees (JoinClash C K)
  agree_as_parts k (inl w) = no_difference_shown E y L (listing_before_change K) k (change_left_true D N C x parts.first_fits first) (change_true E M K next) w
  agree_as_parts k (inr (inl w)) = none-again k w
  agree_as_parts k (inr (inr (inl w))) = none-early k w
  agree_as_parts k (inr (inr (inr (inl (broken bad))))) = bad have-schemas
  agree_as_parts k (inr (inr (inr (inr (broken bad))))) = bad can-be-parts
