-- What a change leaves of a document over which it is, carried out whole: where nodes stand, and which rows and registers stay.
use Rattle.std.proofs.Common.{◌≡◌, ◌≢◌, ℕ, zero, suc, Bool, true, false, List, [], ◌∷◌, map, slice_get, Option, Some, None, IsSome, is_some, option_and_then, cond, refl, sym, ap, ◌∙◌, subst, inl, inr, ◌⊎◌}
use Rattle.std.specs.List.{AllZip, list_any}
use Rattle.std.specs.Option.{option_or}
use Rattle.st_ids.specs.Listing.{Has, item_of}
use Rattle.st_ids.specs.Order.{field_cmp, node_cmp}
use Rattle.st_ids.specs.Root.{root}
use Rattle.st_ids.specs.declared.names.CellId.{CellId}
use Rattle.st_ids.specs.declared.names.FieldId.{FieldId}
use Rattle.st_ids.specs.declared.names.NodeId.{NodeId}
use Rattle.st_marks.specs.declared.changes.Change.{Change}
use Rattle.st_marks.specs.declared.intents.Intent.{Intent}
use Rattle.st_marks.specs.declared.intents.To.{To}
use Rattle.st_marks.specs.declared.marks.How.TheVariants.{Stay, Here, Leave}
use Rattle.st_marks.specs.declared.marks.RegMark.{RegMark}
use Rattle.st_marks.specs.declared.marks.RowMarks.{RowMarks}
use Rattle.st_marks.specs.declared.places.Slot.{Slot}
use Rattle.st_marks.specs.declared.places.Spot.{Spot}
use Rattle.st_marks.specs.Agree.{IsSameView, LeadsUp}
use Rattle.st_marks.specs.Agree.LeadsUp.{one_up, further_up}
use Rattle.st_marks.specs.CarryOut.{full, place_after, unless_cleared, unless_put, with_names}
use Rattle.st_marks.specs.Document.{Document, IsSoundInForm, NodeType, above, climb, content, node_of, slot}
use Rattle.st_marks.specs.Embedding.{IsEmbedding, register_part, row_part, tells}
use Rattle.st_marks.specs.Intent.{Fits, clears, new_row_of, new_type, put_in, put_of}
use Rattle.st_marks.specs.Listings.{CellView, Listing, Places, cell_view, cells_after, cells_made, counted_view, empty_view, held_after, listing_after_change, nodes_new, placed_in_register, placed_in_row, placed_nowhere}
use Rattle.st_marks.specs.Register.{comes_in, holds_mentioned, how_held}
use Rattle.st_marks.specs.Row.{CellMark, Counted, Gap, Touch, Make, Fill, RowPart, embed_row, merge, spread}
use Rattle.st_marks.specs.Verdict.{IsAboveItself}
use Rattle.st_marks.proofs.Full.{full_sound}
use Rattle.st_marks.proofs.Lookups.{group-new_row_of, put-has, put_clears, put_in-has}
use Rattle.st_marks.proofs.Members.{all-has, append_left, append_right, flat_map-has, has-map, map-has}
use Rattle.st_marks.proofs.NewRows.{known_after}
use Rattle.st_rows.specs.Cells.{effect_row}
use Rattle.st_rows.specs.Changes.{StandsIn, carried_row}
use Rattle.st_rows.proofs.DocumentsAfter.{whole_row}
use Rattle.st_rows.proofs.RowEffects.{effect_row-embed_row, grown_row}
use Rattle.st_trim.proofs.Effects.{quiet-carried}
use Rattle.st_normal.specs.Rules.{Entries, IsFound, ObeysDataRules, entries_of_change, fields_of, in_rows}
use Rattle.st_lemmas.proofs.Bools.{or-right, refuted-false, true-false}
use Rattle.st_lemmas.proofs.Options.{one_some}
use Rattle.st_puts.specs.Meant.{IsOver, meant_intent, put_to}
use Rattle.st_puts.specs.Seen.{AreAsSeen}
use Rattle.st_puts.proofs.MeaningFits.{group-cell, is-new, make-made, moving-found, new-is}
use Rattle.st_puts.proofs.MentionsListed.{put-moved}
use Rattle.st_puts.proofs.OverDocuments.{row-look}
use Rattle.st_puts.proofs.PutsInMarks.{put-mentioned}
use Rattle.st_normal_laws.proofs.MeantIntent.{is-clear, meant_fits}
use Rattle.st_normal_laws.proofs.StandsChange.{short_after, stands_over}
use Rattle.st_part_agree_laws.proofs.LeftByChange.{change_left_true, says_left}
use Rattle.st_part_pair_laws.specs.inside.PartBack.{back_cells, blank_view}
use Rattle.st_part_pair_laws.proofs.BackRows.{later-seen}
use Rattle.st_part_pair_laws.proofs.Marks.{none-some, row_key}
use Rattle.st_part_pair_laws.proofs.Shown.{item-reg, item-row, left-bare, left-empty, left-place, left-register, reg-finds, reg-item, reg_key}

-- ## One row

-- the step of a change pulls back the same
effect-back : (xs : List CellMark) (ys : List CellView) → back_cells (effect_row xs) ys ≡ back_cells xs ys
effect-back [] ys = refl
effect-back (x ∷ xs) [] = refl
effect-back (Counted ∷ xs) (y ∷ ys) = ap (λ l. y ∷ l) (effect-back xs ys)
effect-back (Gap c ∷ xs) (y ∷ ys) = ap (λ l. blank_view y.node ∷ l) (effect-back xs ys)
effect-back (Touch c n Stay ∷ xs) (y ∷ ys) = ap (λ l. counted_view ∷ l) (effect-back xs ys)
effect-back (Touch c n Here ∷ xs) (y ∷ ys) = ap (λ l. counted_view ∷ l) (effect-back xs ys)
effect-back (Touch c n Leave ∷ xs) (y ∷ ys) = ap (λ l. counted_view ∷ l) (effect-back xs ys)
effect-back (Make c n b ∷ xs) (y ∷ ys) = effect-back xs ys
effect-back (Fill c n ∷ xs) (y ∷ ys) = ap (λ l. blank_view None ∷ l) (effect-back xs ys)

-- and shows the same after it
effect-after : (xs : List CellMark) → cells_after (effect_row xs) ≡ cells_after xs
effect-after [] = refl
effect-after (Counted ∷ xs) = ap (λ l. counted_view ∷ l) (effect-after xs)
effect-after (Gap c ∷ xs) = ap (λ l. empty_view c ∷ l) (effect-after xs)
effect-after (Touch c n Stay ∷ xs) = ap (λ l. cell_view c n true ∷ l) (effect-after xs)
effect-after (Touch c n Here ∷ xs) = ap (λ l. cell_view c n true ∷ l) (effect-after xs)
effect-after (Touch c n Leave ∷ xs) = ap (λ l. cell_view c n false ∷ l) (effect-after xs)
effect-after (Make c n b ∷ xs) = ap (λ l. cell_view c n b ∷ l) (effect-after xs)
effect-after (Fill c n ∷ xs) = ap (λ l. cell_view c n true ∷ l) (effect-after xs)

-- after the change the row is as it is seen, where before it the rest is, and what the change leaves is seen
carried-seen : (p : RowPart) (c : List Slot) (ys : List CellView) → ((n : NodeId) → StandsIn n c → p.target_of n ≢ None → p.mentioned n ≡ true)
    → AreAsSeen c (back_cells (embed_row p c) ys) → AllZip IsSameView (cells_after (embed_row p c)) ys → AreAsSeen (carried_row p c) ys
carried-seen p c ys m h z =
    let same = effect_row-embed_row p c m in
    later-seen p.mentioned (grown_row p c) ys (subst (AreAsSeen c) (sym (effect-back (embed_row p c) ys) ∙ ap (λ ms. back_cells ms ys) same) h) (subst (λ l. AllZip IsSameView l ys) (sym (effect-after (embed_row p c)) ∙ ap cells_after same) z)

standing-slot : (c : List Slot) (n : NodeId) → StandsIn n c → (s : Slot) × Has c s × (s.node ≡ n)
standing-slot [] n h = absurd h
standing-slot (s ∷ c) n (inl w) = (s, inl refl, w.0)
standing-slot (s ∷ c) n (inr h) = let r = standing-slot c n h in (r.0, inr r.1, r.2)

-- ## A change over a document

module _ (D : Document) (C : Change) (x : IsSoundInForm D) (w : ObeysDataRules C) (o : IsOver D C) (plain : C.schema ≡ None) where
  abbrev N : Intent
  N = meant_intent D C

  abbrev E : Document
  E = full D N

  abbrev L : Listing
  L = listing_after_change C

  abbrev X : Entries
  X = entries_of_change C

  pub fits : Fits D N
  fits = meant_fits D C x w o plain

  pub emb : IsEmbedding D N C
  emb = stands_over D C x w o plain

  -- ## Where nodes stand

  -- it finds or makes the node
  abbrev pub IsOwn : NodeId → Type 0
  IsOwn n = IsFound X n ⊎ Has (nodes_new C.new) n

  -- then it places it somewhere, where it stands
  pub left-at : (n : NodeId) → IsOwn n → (s : Spot) × Places L n s × (E.place n ≡ s)
  left-at n h = let p = left-place C w n h in (p.0, p.1, says_left D N C x fits emb n p.0 p.1)

  pub put-own : (n : NodeId) (t : To) → put_of N n ≡ Some t → IsOwn n
  put-own n t e = elim (put-moved D C x w o (put_to n t) (put-has N n t e)) [ inl i ↦ inr i | inr i ↦ inl (moving-found D C x w o plain n i) ]

  -- others stay
  pub unmoved : (n : NodeId) → (IsOwn n → ⊥) → E.place n ≡ D.place n
  unmoved n other = go (put_of N n) refl
    where
      stays : (s : Spot) → D.place n ≡ s → unless_cleared N s ≡ s
      stays Spot.Nowhere e = refl
      stays (Spot.Row r c) e = refl
      stays (Spot.Register k) e = unclear (clears N k) refl
        where
          unclear : (b : Bool) → clears N k ≡ b → cond b Spot.Nowhere (Spot.Register k) ≡ Spot.Register k
          unclear true f = let r = is-clear D C x w o plain k f in absurd (other (inl (reg-finds C w r.0 n r.1 (sym (o.held r.0 r.1) ∙ ap D.held r.3 ∙ (x.one_held n k).1 e))))
          unclear false f = refl

      go : (t : Option To) → put_of N n ≡ t → E.place n ≡ D.place n
      go (Some t) e = absurd (other (put-own n t e))
      go None e = ap (λ t. place_after (with_names D N).row_of N t (D.place n)) e ∙ stays (D.place n) refl

  -- ## Rows

  abbrev part : NodeId → RowPart
  part n = row_part emb.mentioned N n

  -- whoever owns a cell and is put is mentioned
  told : (n : NodeId) (s : Slot) → Has (content D n) s → put_of N s.node ≢ None → emb.mentioned s.node ≡ true
  told n s h put = go (put_of N s.node) refl
    where
      known : IsSome (D.nodes s.node)
      known = let q = has-map (slot D) (D.rows n) s h in subst (λ k. IsSome (D.nodes k)) (ap (λ (t : Slot). t.node) q.2) (x.cells_known n q.0 q.1).1

      go : (t : Option To) → put_of N s.node ≡ t → emb.mentioned s.node ≡ true
      go None e = absurd (put e)
      go (Some t) e = put-mentioned D N C x fits emb s.node t e known

  standing-told : (n k : NodeId) → StandsIn k (content D n) → put_of N k ≢ None → emb.mentioned k ≡ true
  standing-told n k h put = let s = standing-slot (content D n) k h in subst (λ k. emb.mentioned k ≡ true) s.2 (told n s.0 s.1 (subst (λ k. put_of N k ≢ None) (sym s.2) put))

  row-after : (n : NodeId) → content E n ≡ carried_row (part n) (content D n)
  row-after n = whole_row D N n x fits (part n) (λ a. refl) (λ k. refl)

  -- a row that it doesn't list stays
  pub row-stays : (n : NodeId) → item_of node_cmp row_key C.rows n ≡ None → content E n ≡ content D n
  row-stays n e = row-after n ∙ quiet-carried (part n) (content D n) (λ s h f g. told n s h g) (quiet (list_any tells (embed_row (part n) (content D n))) refl)
    where
      quiet : (b : Bool) → list_any tells (embed_row (part n) (content D n)) ≡ b → b ≡ false
      quiet false f = refl
      quiet true f = absurd (none-some (sym e ∙ emb.rows.at_each n ∙ ap (λ (b : Bool). cond b (Some (let r : RowMarks = record { node = n; marks = merge (embed_row (part n) (content D n)) } in r)) None) f))

  -- one that it lists is as it is seen after it
  pub row-later : (p : RowMarks) (ys : List CellView) → Has C.rows p → AreAsSeen (content D p.node) (back_cells (spread p.marks) ys) → AllZip IsSameView (cells_after (spread p.marks)) ys → AreAsSeen (content E p.node) ys
  row-later p ys i h z =
      let look = (row-look D N C x fits emb p i).0 in
      subst (λ c. AreAsSeen c ys) (sym (row-after p.node)) (carried-seen (part p.node) (content D p.node) ys (λ k s g. standing-told p.node k s g)
      (subst (λ ms. AreAsSeen (content D p.node) (back_cells ms ys)) look h) (subst (λ ms. AllZip IsSameView (cells_after ms) ys) look z))

  -- ## Registers

  pub register-left : (r : RegMark) → Has C.regs r → E.held r.field ≡ held_after r
  register-left r i = (change_left_true D N C x fits emb).registers r.field (held_after r) (left-register C w r i)

  pub register-stays : (f : FieldId) → item_of field_cmp reg_key C.regs f ≡ None → E.held f ≡ D.held f
  register-stays f e = (λ i. option_or (unfilled i) (cond (unclear i) None (unless_put N (D.held f)))) ∙ kept (D.held f) refl
    where
      unclear : clears N f ≡ false
      unclear = refuted-false (clears N f) (λ g. let r = is-clear D C x w o plain f g in none-some (sym e ∙ ap (item_of field_cmp reg_key C.regs) (sym r.3) ∙ reg-item C w r.0 r.1))

      unfilled : put_in N f ≡ None
      unfilled = go (put_in N f) refl
        where
          go : (q : Option NodeId) → put_in N f ≡ q → q ≡ None
          go None g = refl
          go (Some n) g = absurd (true-false (put_clears N fits.itself n f (put_in-has N f n g)) unclear)

      mentioned-not : (n : NodeId) → D.held f ≡ Some n → emb.mentioned n ≡ true → ⊥
      mentioned-not n g m = none-some (sym e ∙ emb.regs.at_each f
          ∙ ap (λ (b : Bool). cond b (Some (let r : RegMark = record { field = f; held = D.held f; how = how_held f (register_part emb.mentioned N f) (D.held f); clear = clears N f; fill = comes_in (D.held f) (put_in N f) } in r)) None)
          (or-right (clears N f) (holds_mentioned emb.mentioned (D.held f)) (ap (holds_mentioned emb.mentioned) g ∙ m)))

      kept : (h : Option NodeId) → D.held f ≡ h → unless_put N h ≡ h
      kept None g = refl
      kept (Some n) g = go (put_of N n) refl
        where
          go : (t : Option To) → put_of N n ≡ t → cond (is_some (put_of N n)) None (Some n) ≡ Some n
          go None q = ap (λ t. cond (is_some t) None (Some n)) q
          go (Some t) q = absurd (mentioned-not n g (put-mentioned D N C x fits emb n t q (x.held_known n f g).0))

  -- ## Names

  pub known-later : (n : NodeId) → IsSome (D.nodes n) → IsSome (E.nodes n)
  known-later n h = known_after D N x fits n (inr h)

  pub new-later : (n : NodeId) → Has (nodes_new C.new) n → IsSome (E.nodes n)
  new-later n h = known_after D N x fits n (inl (new-is D C x w o plain n h))

  pub unknown-later : (n : NodeId) → D.nodes n ≡ None → (Has (nodes_new C.new) n → ⊥) → E.nodes n ≡ None
  unknown-later n e other = go (new_type N n) refl
    where
      go : (q : Option NodeType) → new_type N n ≡ q → E.nodes n ≡ None
      go None g = λ i. option_or (e i) (g i)
      go (Some t) g = absurd (other (is-new D C x w o plain n (ap is_some g)))

  pub uncelled-later : (c : CellId) → D.row_of c ≡ None → (Has (in_rows cells_made C.rows) c → ⊥) → E.row_of c ≡ None
  uncelled-later c e other = go (new_row_of N c) refl
    where
      go : (q : Option NodeId) → new_row_of N c ≡ q → E.row_of c ≡ None
      go None g = λ i. option_or (e i) (g i)
      go (Some n) g =
          let k = group-new_row_of N c n g in
          let r = group-cell D C x w o plain k.0 k.3.0 k.1 k.3.1 in
          absurd (other (subst (Has (in_rows cells_made C.rows)) k.3.2 (flat_map-has (λ (r : RowMarks). cells_made (spread r.marks)) C.rows r.0 k.3.0.cell r.2 (make-made (spread r.0.marks) k.3.0.cell k.3.0.node r.1 r.3))))

  -- ## Rings

  field-own : (p : NodeId) → Has (fields_of X) p → (p ≡ root) ⊎ IsOwn p
  field-own p h = elim (all-has (λ (n : NodeId). (n ≡ root) ⊎ Has (nodes_new C.new) n ⊎ IsFound X n) (fields_of X) p w.common.fields_found h) [
    | inl e ↦ inl e
    | inr a ↦ elim a [ inl i ↦ inr (inr i) | inr f ↦ inr (inl f) ]
  ]

  -- in whose field it places somebody is the root, or one that it finds or makes
  up-own : (n p : NodeId) (s : Spot) → Places L n s → node_of s ≡ Some p → (p ≡ root) ⊎ IsOwn p
  up-own n p s (placed_in_row r k c cells j listed here) e = go (item_of node_cmp row_key C.rows r) refl
    where
      go : (q : Option RowMarks) → item_of node_cmp row_key C.rows r ≡ q → (p ≡ root) ⊎ IsOwn p
      go None g = absurd (none-some (ap (λ cells. slice_get cells j) (sym (left-bare C w r g cells listed)) ∙ here))
      go (Some q) g = let i = item-row C w r q g in
          field-own p (append_left (map row_key C.rows) (map (λ (f : FieldId). f.node) X.registers) p (subst (Has (map row_key C.rows)) (i.1 ∙ one_some r p e) (map-has row_key C.rows q i.0)))
  up-own n p s (placed_in_register f k listed) e = go (item_of field_cmp reg_key C.regs f) refl
    where
      go : (q : Option RegMark) → item_of field_cmp reg_key C.regs f ≡ q → (p ≡ root) ⊎ IsOwn p
      go None g = absurd (left-empty C w f g k listed)
      go (Some q) g = let i = item-reg C w f q g in
          field-own p (append_right (map row_key C.rows) (map (λ (f : FieldId). f.node) X.registers) p
          (subst (Has (map (λ (f : FieldId). f.node) X.registers)) (ap (λ (f : FieldId). f.node) i.1 ∙ one_some f.node p e) (map-has (λ (f : FieldId). f.node) X.registers q.field (map-has reg_key C.regs q i.0))))
  up-own n p s (placed_nowhere k listed) e = absurd (none-some e)

  root-stays : above E root ≡ None
  root-stays = λ i. node_of (place_after (with_names D N).row_of N (fits.itself.root_stays i) (x.root_nowhere i))

  -- a climb from one that it finds or makes is one along what it shows
  climbs : (k : ℕ) (n m : NodeId) → IsOwn n → climb (above E) (suc k) n ≡ Some m → LeadsUp (Places L) n m
  climbs zero n m h e = go (above E n) refl e
    where
      go : (q : Option NodeId) → above E n ≡ q → option_and_then (climb (above E) zero) q ≡ Some m → LeadsUp (Places L) n m
      go None f e = absurd (none-some e)
      go (Some p) f e = let s = left-at n h in one_up s.0 s.1 (ap node_of (sym s.2) ∙ f ∙ e)
  climbs (suc k) n m h e = go (above E n) refl e (λ p i e. climbs k p m i e)
    where
      go : (q : Option NodeId) → above E n ≡ q → option_and_then (climb (above E) (suc k)) q ≡ Some m → ((p : NodeId) → IsOwn p → climb (above E) (suc k) p ≡ Some m → LeadsUp (Places L) p m) → LeadsUp (Places L) n m
      go None f e rest = absurd (none-some e)
      go (Some p) f e rest =
          let s = left-at n h in
          let up = ap node_of (sym s.2) ∙ f in
          elim (up-own n p s.0 s.1 up) [
            | inl r ↦ absurd (none-some (sym (ap (option_and_then (climb (above E) k)) root-stays) ∙ ap (climb (above E) (suc k)) (sym r) ∙ e))
            | inr i ↦ further_up s.0 s.1 up (rest p i e)
          ]

  -- where it shows no ring, no node that it puts is above itself
  pub nothing-above : ((n : NodeId) → LeadsUp (Places L) n n → ⊥) → (n : NodeId) → IsAboveItself D N n → ⊥
  nothing-above free n (put, (k, e)) = go (put_of N n) refl put
    where
      go : (t : Option To) → put_of N n ≡ t → IsSome t → ⊥
      go None q s = cc
      go (Some t) q s = free n (climbs k n n (put-own n t q) e)

  pub sound : ((n : NodeId) → LeadsUp (Places L) n n → ⊥) → IsSoundInForm E
  sound free = full_sound D N x fits (short_after D C x w o plain) (λ p put ring. nothing-above free p (put, ring))
