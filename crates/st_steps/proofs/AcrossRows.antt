-- The rows of a step where it stands after a void commit.
use Rattle.std.proofs.Common.{◌≡◌, Bool, true, false, ◌||◌, List, [], ◌∷◌, map, Option, Some, None, MatchOption, cond, refl, sym, ap, ◌∙◌, subst, inl, inr, IsSome}
use Rattle.std.specs.List.{list_any}
use Rattle.st_ids.specs.Listing.{AreDistinct, Has, item_of}
use Rattle.st_ids.specs.Order.{node_cmp}
use Rattle.st_ids.specs.declared.names.NodeId.{NodeId}
use Rattle.st_kind.specs.Named.{Nodes, either, named_beside}
use Rattle.st_marks.specs.declared.changes.Change.{Change}
use Rattle.st_marks.specs.declared.intents.Intent.{Intent}
use Rattle.st_marks.specs.declared.intents.Owned.{Owned}
use Rattle.st_marks.specs.declared.marks.How.TheVariants.{Stay}
use Rattle.st_marks.specs.declared.marks.RowMarks.{RowMarks}
use Rattle.st_marks.specs.declared.places.Slot.{Slot}
use Rattle.st_marks.specs.declared.places.Spot.{Spot}
use Rattle.st_marks.specs.declared.steps.Step.{Step}
use Rattle.st_marks.specs.CarryOut.{void}
use Rattle.st_marks.specs.Document.{Document, IsSoundInForm, NodeType, content, owned_cell, slot}
use Rattle.st_marks.specs.Embedding.{IsEmbedding, is_among, row_marks, tells}
use Rattle.st_marks.specs.Extends.{GainsItems, IsExtendedBy, no_more, item_gained, item_kept}
use Rattle.st_marks.specs.Intent.{Fits, is_new}
use Rattle.st_marks.specs.Listings.{nodes_new}
use Rattle.st_marks.specs.Row.{CellMark, Counted, Touch, SameCell, embed_row, merge, spread, step_cell, step_row}
use Rattle.st_marks.specs.Step.{IsStep}
use Rattle.st_marks.proofs.Climb.{stands}
use Rattle.st_rows.specs.Changes.{placed_by, row_after}
use Rattle.st_rows.specs.Rows.{NamesMoved}
use Rattle.st_rows.specs.Sequence.{ListsNew, RowFits, SeqPart, row_carried, row_part_of}
use Rattle.st_rows.specs.Cells.{bridge_row}
use Rattle.st_rows.proofs.RowBridges.{Led, bridge_row-embed_row}
use Rattle.st_rows.proofs.Documents.{can_hold, part_fits}
use Rattle.st_rows.proofs.DocumentsAfter.{void_is}
use Rattle.st_rows.proofs.DocumentsListed.{document_is}
use Rattle.st_rows.proofs.Existence.{lists_new}
use Rattle.st_rows.proofs.PartsThatFit.{stands_over}
use Rattle.st_rows.proofs.KindLaws.{same_grown, spread-merge}
use Rattle.st_steps.specs.Across.{row_across, with_holes}
use Rattle.st_puts.proofs.ListedIf.{shown-None, shown-Some}
use Rattle.st_steps.proofs.Holes.{holes-bridge, silent_change, silent_step}
use Rattle.st_steps.proofs.RowsInTurn.{row_alike}
use Rattle.st_steps.proofs.VoidPlaces.{old_stays, stands_in_new}

-- a row that stays, with no node named that stands in it, tells nothing
abbrev itself : (c : List Slot) → GainsItems SameCell c c
itself [] = no_more
itself (s ∷ c) = item_kept (refl, refl) (itself c)

still : (m : Nodes) (c : List Slot) → ((s : Slot) → Has c s → s.full ≡ true → m s.node ≡ false) → list_any tells (step_row m (itself c)) ≡ false
still m [] k = refl
still m (s ∷ c) k = λ i. cell s.full (k s (inl refl)) i || still m c (λ r w. k r (inr w)) i
  where
    cell : (b : Bool) → (b ≡ true → m s.node ≡ false) → tells (step_cell m s.cell s.node b b) ≡ false
    cell true e = ap (λ z. tells (cond z (Touch s.cell s.node Stay) Counted)) (e refl)
    cell false e = refl

quiet_row : (m : Nodes) {c d : List Slot} (g : GainsItems SameCell c d) → AreDistinct (λ (s : Slot). s.cell) d → c ≡ d → ((s : Slot) → Has c s → s.full ≡ true → m s.node ≡ false) → list_any tells (step_row m g) ≡ false
quiet_row m {c} {d} g o e k = subst (λ l. (g : GainsItems SameCell c l) → AreDistinct (λ (s : Slot). s.cell) l → list_any tells (step_row m g) ≡ false) e (λ g o. ap (list_any tells) (same_grown m g (itself c) o).0 ∙ still m c k) g o

module _ (D E : Document) (N : Intent) (C : Change) (S : Step) (x : IsExtendedBy D E) (f : Fits D N) (h : Fits E N) (data_alone : N.schema ≡ None) (emb : IsEmbedding D N C) (s : IsStep D E S) (ext : IsExtendedBy (void D N) (void E N)) (mention_known : (n : NodeId) → s.mentioned n ≡ true → IsSome (D.nodes n)) (after_covered : (n : NodeId) → RowFits (row_part_of emb.mentioned (nodes_new C.new) N n) (content E n)) (n : NodeId) where
  abbrev m : Nodes
  m = s.mentioned

  abbrev new : List NodeId
  new = nodes_new C.new

  abbrev p : SeqPart
  p = row_part_of emb.mentioned new N n

  abbrev makes : Nodes
  makes = is_among new

  abbrev V : Document
  V = void D N

  abbrev W : Document
  W = void E N

  listed_new : ListsNew N new
  listed_new = lists_new D N C emb

  fits : RowFits p (content D n)
  fits = part_fits D N emb.mentioned new n x.before f listed_new (λ k q. (emb.which k).1 q)

  -- who stands in the row of an old node after the void commit is old
  stands_old : is_new N n ≡ false → (r : Slot) → Has (content V n) r → r.full ≡ true → makes r.node ≡ false
  stands_old old r w e = go (is_new N r.node) refl
    where
      place : V.place r.node ≡ Spot.Row n r.cell
      place = stands V ext.before r.node n r.cell (subst (λ b. Has (content V n) (record { cell = r.cell; node = r.node; full = b })) e w)

      go : (b : Bool) → is_new N r.node ≡ b → makes r.node ≡ false
      go false q = listed_new.each r.node ∙ q
      go true q = let bad : ◌≡◌ {A = Bool} true false = sym (stands_in_new D N x.before f data_alone r.node n r.cell q place) ∙ old in cc

  alike : is_new N n ≡ false → (g : GainsItems SameCell (content V n) (content W n)) → step_row m g ≡ step_row (either m makes) g
  alike old g = row_alike m (either m makes) g (λ r w e. sym (ap (λ b. m r.node || b) (stands_old old r w e) ∙ or_none (m r.node)))
    where
      or_none : (b : Bool) → (b || false) ≡ b
      or_none true = refl
      or_none false = refl

  one_step : (g : GainsItems SameCell (content V n) (content W n)) (c d : List Slot) → content V n ≡ c → content W n ≡ d → (w : GainsItems SameCell c d) → step_row (either m makes) g ≡ step_row (either m makes) w
  one_step g c d e q w =
      subst (λ a. (w : GainsItems SameCell a d) → step_row (either m makes) g ≡ step_row (either m makes) w) e
      (subst (λ b. (w : GainsItems SameCell (content V n) b) → step_row (either m makes) g ≡ step_row (either m makes) w) q (λ w. (same_grown (either m makes) g w (can_hold W ext.after n).once).0)) w

  abbrev none : Nodes
  none k = false

  moved : NamesMoved m (s.grows n)
  moved = let l = document_is D E S n s x in (same_grown m l.step.grows (s.grows n) l.after.once).1 l.moved

  -- the law of the kind
  led : Led (named_beside m p.part.mentioned makes true true) (row_after none p.part true (content D n)) (row_after none p.part true (content E n)) (bridge_row true true none (λ k. None) (embed_row p.part (content D n)) (step_row m (s.grows n)))
  led =
      let over = stands_over p (s.grows n) fits (can_hold E x.after n).once (after_covered n) in
      bridge_row-embed_row (λ k. None) p.part m none makes true true (λ k q. refl) fits.mentions (s.grows n) over.groups over.old_before over.old_after moved (λ q. cc) (λ q. cc)

  content_is : is_new N n ≡ false → (A : Document) → IsSoundInForm A → Fits A N → content (void A N) n ≡ row_after none p.part true (content A n)
  content_is old A y k = void_is A N n y k emb.mentioned new listed_new ∙ ap (λ b. row_after (placed_by b new) p.part true (content A n)) old

  old_row : is_new N n ≡ false → (g : GainsItems SameCell (content V n) (content W n)) → step_row m g ≡ with_holes (embed_row p.part (content D n)) (step_row m (s.grows n))
  old_row old g = alike old g ∙ one_step g (row_after none p.part true (content D n)) (row_after none p.part true (content E n)) (content_is old D x.before f) (content_is old E x.after h) led.0 ∙ sym led.1 ∙ sym (holes-bridge (λ k. None) (embed_row p.part (content D n)) (step_row m (s.grows n)))

  -- ## What is listed

  abbrev Listed : (g : GainsItems SameCell (content V n) (content W n)) → Option RowMarks → Type 0
  Listed g o = MatchOption o (list_any tells (step_row m g) ≡ false) (λ r. r.marks ≡ merge (step_row m g))

  abbrev cells : List CellMark
  cells = embed_row p.part (content D n)

  abbrev steps : List CellMark
  steps = step_row m (s.grows n)

  listed_old : is_new N n ≡ false → (g : GainsItems SameCell (content V n) (content W n)) (a b : Option RowMarks) → row_marks n cells ≡ a → row_marks n steps ≡ b → Listed g (row_across n a b)
  listed_old old g a None e q = ap (list_any tells) (old_row old g) ∙ silent_step cells steps (shown-None (list_any tells steps) (record { node = n; marks = merge steps }) q)
  listed_old old g None (Some r) e q =
      let row = shown-Some (list_any tells steps) (record { node = n; marks = merge steps }) r q in
      let quiet = shown-None (list_any tells cells) (record { node = n; marks = merge cells }) e in
      ap (λ (z : RowMarks). z.marks) row ∙ ap merge (sym (silent_change p.part m (s.grows n) quiet) ∙ sym (old_row old g))
  listed_old old g (Some c) (Some r) e q =
      let first : spread c.marks ≡ cells = ap (λ (z : RowMarks). spread z.marks) (shown-Some (list_any tells cells) (record { node = n; marks = merge cells }) c e) ∙ spread-merge cells in
      let then_ : spread r.marks ≡ steps = ap (λ (z : RowMarks). spread z.marks) (shown-Some (list_any tells steps) (record { node = n; marks = merge steps }) r q) ∙ spread-merge steps in
      ap merge ((λ i. with_holes (first i) (then_ i)) ∙ sym (old_row old g))

  -- ## The row of a node that the commit makes

  module _ (made : is_new N n ≡ true) where
    empty : (A : Document) → IsSoundInForm A → Fits A N → A.rows n ≡ []
    empty A y k = go (A.rows n) (λ o w. (y.cells_known n o w).0)
      where
        none_there : IsSome (A.nodes n) → ⊥
        none_there w = not_some (A.nodes n) (k.fresh_nodes n made) w
          where
            not_some : (o : Option NodeType) → o ≡ None → IsSome o → ⊥
            not_some None e w = cc
            not_some (Some t) e w = cc

        go : (os : List Owned) → ((o : Owned) → Has os o → IsSome (A.nodes n)) → os ≡ []
        go [] w = refl
        go (o ∷ os) w = absurd (none_there (w o (inl refl)))

    unlisted : row_marks n steps ≡ None
    unlisted = ap (row_marks n) (go (ap (map (slot D)) (empty D x.before f)) (ap (map (slot E)) (empty E x.after h)) (s.grows n))
      where
        go : {c d : List Slot} → c ≡ [] → d ≡ [] → (g : GainsItems SameCell c d) → step_row m g ≡ []
        go e q no_more = refl
        go e q (item_gained g) = cc
        go e q (item_kept a g) = cc

    same_content : content V n ≡ content W n
    same_content = void_is D N n x.before f emb.mentioned new listed_new ∙ ap (row_carried p true) (ap (map (slot D)) (empty D x.before f) ∙ sym (ap (map (slot E)) (empty E x.after h))) ∙ sym (void_is E N n x.after h emb.mentioned new listed_new)

    unnamed : (r : Slot) → Has (content V n) r → r.full ≡ true → m r.node ≡ false
    unnamed r w e = go (m r.node) refl
      where
        place : V.place r.node ≡ Spot.Row n r.cell
        place = stands V ext.before r.node n r.cell (subst (λ b. Has (content V n) (record { cell = r.cell; node = r.node; full = b })) e w)

        not_in : (os : List Owned) (o : Owned) → os ≡ [] → Has os o → ⊥
        not_in [] o q w = w
        not_in (u ∷ os) o q w = cc

        not_some : (o : Option NodeType) → o ≡ None → IsSome o → ⊥
        not_some None e w = cc
        not_some (Some t) e w = cc

        known : IsSome (D.nodes r.node) → (b : Bool) → is_new N r.node ≡ b → ⊥
        known q true z = not_some (D.nodes r.node) (f.fresh_nodes r.node z) q
        known q false z = not_in (D.rows n) (owned_cell r.cell r.node) (empty D x.before f) (x.before.own_cell r.node n r.cell (sym (old_stays D N x.before f data_alone r.node z) ∙ place))

        go : (b : Bool) → m r.node ≡ b → b ≡ false
        go false q = refl
        go true q = absurd (known (mention_known r.node q) (is_new N r.node) refl)

    listed_new_row : (g : GainsItems SameCell (content V n) (content W n)) (a b : Option RowMarks) → row_marks n steps ≡ b → Listed g (row_across n a b)
    listed_new_row g a None q = quiet_row m g (can_hold W ext.after n).once same_content unnamed
    listed_new_row g a (Some r) q = let bad : ◌≡◌ {A = Option RowMarks} None (Some r) = sym unlisted ∙ q in cc

  -- the row that is listed is that of the step after the void commit
  pub row_across-listed : (g : GainsItems SameCell (content V n) (content W n)) (o : Option RowMarks)
      → o ≡ row_across n (item_of node_cmp (λ (r : RowMarks). r.node) C.rows n) (item_of node_cmp (λ (r : RowMarks). r.node) S.rows n) → Listed g o
  row_across-listed g o e =
      let says : o ≡ row_across n (row_marks n cells) (row_marks n steps) = e ∙ (λ i. row_across n (emb.rows.at_each n i) (s.rows.at_each n i)) in
      subst (Listed g) (sym says) (go (is_new N n) refl)
    where
      go : (b : Bool) → is_new N n ≡ b → Listed g (row_across n (row_marks n cells) (row_marks n steps))
      go true q = listed_new_row q g (row_marks n cells) (row_marks n steps) refl
      go false q = listed_old q g (row_marks n cells) (row_marks n steps) refl refl
