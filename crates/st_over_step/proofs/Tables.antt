-- What a step finds in the tables is what it finds in the document for which they stand.
use Rattle.std.proofs.Common.{◌≡◌, false, true, ◌≢◌, ◌↔◌, ◌⊎◌, inl, inr, List, [], Option, Some, None, IsSome, IfSome, option_map, unwrap_or, refl, sym, ap, ◌∙◌, subst}
use Rattle.std.specs.BTreeMap.{get}
use Rattle.std.specs.List.{AllByRecursion}
use Rattle.st_ids.specs.Listing.{Has}
use Rattle.st_ids.specs.Order.{node_cmp}
use Rattle.st_ids.specs.declared.names.CellId.{CellId}
use Rattle.st_ids.specs.declared.names.NodeId.{NodeId}
use Rattle.st_lemmas.proofs.Options.{one_some}
use Rattle.st_marks.specs.declared.changes.NewNode.{NewNode}
use Rattle.st_marks.specs.declared.marks.RowMarks.{RowMarks}
use Rattle.st_marks.specs.declared.places.Slot.{Slot}
use Rattle.st_marks.specs.declared.places.Spot.{Spot}
use Rattle.st_marks.specs.declared.steps.Step.{Step}
use Rattle.st_marks.specs.Document.{Document, IsSoundInForm, NodeType, content, owned_cell, slot}
use Rattle.st_marks.specs.Listings.{cells_before, cells_made, nodes_new}
use Rattle.st_marks.specs.Row.{spread}
use Rattle.st_marks.proofs.Members.{all-has, has-all, map-has, has-map, flat_map-has, has-flat_map}
use Rattle.st_normal.specs.Rules.{hole_owners, in_rows}
use Rattle.st_normal_step_laws.specs.StepOver.{EndsWithCut, IsOverStep}
use Rattle.st_puts.specs.Seen.{AreAsSeen}
use Rattle.st_forest.specs.Stands.{StandsFor, named}
use Rattle.st_forest.specs.declared.forest.Forest.{Forest}
use Rattle.st_forest.specs.declared.forest.Seated.{Seated}
use Rattle.st_over_step.specs.inside.Tables.{CellsAreNew, FindsWhatIsSo, IsHeld, IsKnown, IsNotMade, IsNowhere, IsUnknown, MakesOthers, OwnersAreKnown, RowIsSeen}

-- ## One node

module _ (o : Option Seated) (t : Option NodeType) (p : Spot) (n : NodeId) (same : option_map (λ (s : Seated). s.node) o ≡ option_map (named n) t)
    (at : unwrap_or (option_map (λ (s : Seated). s.place) o) Spot.Nowhere ≡ p) where
  is_nowhere : option_map (λ (s : Seated). s.place) o ≡ Some Spot.Nowhere → (p ≡ Spot.Nowhere) × IsSome t
  is_nowhere = go o t same at
    where
      go : (r : Option Seated) (u : Option NodeType) → option_map (λ (s : Seated). s.node) r ≡ option_map (named n) u → unwrap_or (option_map (λ (s : Seated). s.place) r) Spot.Nowhere ≡ p
          → option_map (λ (s : Seated). s.place) r ≡ Some Spot.Nowhere → (p ≡ Spot.Nowhere) × IsSome u
      go None u e f h = cc
      go (Some s) None e f h = cc
      go (Some s) (Some u) e f h = (sym f ∙ one_some s.place Spot.Nowhere h, refl)

  nowhere_is : (p ≡ Spot.Nowhere) × IsSome t → option_map (λ (s : Seated). s.place) o ≡ Some Spot.Nowhere
  nowhere_is = go o t same at
    where
      go : (r : Option Seated) (u : Option NodeType) → option_map (λ (s : Seated). s.node) r ≡ option_map (named n) u → unwrap_or (option_map (λ (s : Seated). s.place) r) Spot.Nowhere ≡ p
          → (p ≡ Spot.Nowhere) × IsSome u → option_map (λ (s : Seated). s.place) r ≡ Some Spot.Nowhere
      go r None e f h = let no : false ≡ true = h.1 in cc
      go None (Some u) e f h = cc
      go (Some s) (Some u) e f h = ap (λ k. Some k) (f ∙ h.0)

none_alike : {A B C : Type 0} (f : A → C) (g : B → C) (o : Option A) (t : Option B) → option_map f o ≡ option_map g t → (o ≡ None) ↔ (t ≡ None)
none_alike f g None None e = (λ h. refl, λ h. refl)
none_alike f g None (Some b) e = cc
none_alike f g (Some a) None e = cc
none_alike f g (Some a) (Some b) e = (λ h. cc, λ h. cc)

some_alike : {A B C : Type 0} (f : A → C) (g : B → C) (o : Option A) (t : Option B) → option_map f o ≡ option_map g t → IsSome o ↔ IsSome t
some_alike f g None None e = (λ h. h, λ h. h)
some_alike f g None (Some b) e = cc
some_alike f g (Some a) None e = cc
some_alike f g (Some a) (Some b) e = (λ h. refl, λ h. refl)

-- ## All that is listed

module _ (F : Forest) (D : Document) (S : Step) (stands : StandsFor F D) (sound : IsSoundInForm D) where
  known_alike : (n : NodeId) → IsSome (get node_cmp F.nodes n) ↔ IsSome (D.nodes n)
  known_alike n = some_alike (λ (s : Seated). s.node) (named n) (get node_cmp F.nodes n) (D.nodes n) (stands.nodes n)

  unknown_alike : (n : NodeId) → (get node_cmp F.nodes n ≡ None) ↔ (D.nodes n ≡ None)
  unknown_alike n = none_alike (λ (s : Seated). s.node) (named n) (get node_cmp F.nodes n) (D.nodes n) (stands.nodes n)

  is_known : (n : NodeId) → IsKnown F S.new n → Has (nodes_new S.new) n ⊎ IsSome (D.nodes n)
  is_known n (inl h) = inl h
  is_known n (inr h) = inr ((known_alike n).0 h)

  known_is : (n : NodeId) → Has (nodes_new S.new) n ⊎ IsSome (D.nodes n) → IsKnown F S.new n
  known_is n (inl h) = inl h
  known_is n (inr h) = inr ((known_alike n).1 h)

  holes : List NodeId
  holes = in_rows hole_owners S.rows

  -- a cell that is made is in no row of the document
  pub new_in_document : CellsAreNew F S.rows → (c : CellId) → Has (in_rows cells_made S.rows) c → D.row_of c ≡ None
  new_in_document new c made = go (D.row_of c) refl
    where
      clash : (n : NodeId) → D.row_of c ≡ Some n → ⊥
      clash n e =
          let there = (sound.one_row c n).0 e in
          let s : Slot = slot D (owned_cell c there.0) in
          let listed : Has (unwrap_or (get node_cmp F.rows n) []) s = subst (λ l. Has l s) (sym (stands.rows n)) (map-has (slot D) (D.rows n) (owned_cell c there.0) there.1) in
          let not_made = all-has (IsNotMade S.rows) (unwrap_or (get node_cmp F.rows n) []) s (new n) listed in
          let by = has-flat_map (λ (r : RowMarks). cells_made (spread r.marks)) S.rows c made in
          all-has (λ (d : CellId). d ≢ c) (cells_made (spread by.0.marks)) c (all-has (λ (r : RowMarks). MakesOthers c r.marks) S.rows by.0 not_made by.1) by.2 refl

      go : (o : Option NodeId) → D.row_of c ≡ o → D.row_of c ≡ None
      go None e = e
      go (Some n) e = absurd (clash n e)

  pub new_in_tables : ((c : CellId) → Has (in_rows cells_made S.rows) c → D.row_of c ≡ None) → CellsAreNew F S.rows
  new_in_tables new n = subst (AllByRecursion (IsNotMade S.rows)) (sym (stands.rows n)) (has-all (IsNotMade S.rows) (content D n)
      (λ s h. has-all (λ (r : RowMarks). MakesOthers s.cell r.marks) S.rows (λ r l. has-all (λ (d : CellId). d ≢ s.cell) (cells_made (spread r.marks)) (λ d m e. clash s h r l d m e))))
    where
      none_some : {A : Type 0} {a : A} → None ≡ Some a → ⊥
      none_some e = cc

      clash : (s : Slot) → Has (content D n) s → (r : RowMarks) → Has S.rows r → (d : CellId) → Has (cells_made (spread r.marks)) d → d ≡ s.cell → ⊥
      clash s h r l d m e =
          let o = has-map (slot D) (D.rows n) s h in
          let cell : d ≡ o.0.cell = e ∙ ap (λ (z : Slot). z.cell) (sym o.2) in
          let there : D.row_of d ≡ Some n = (sound.one_row d n).1 (o.0.node, subst (λ (z : CellId). Has (D.rows n) (owned_cell z o.0.node)) (sym cell) o.1) in
          none_some (sym (new d (flat_map-has (λ (q : RowMarks). cells_made (spread q.marks)) S.rows r d l m)) ∙ there)

  pub over_document : FindsWhatIsSo F S → IfSome S.schema (EndsWithCut F.schemas) → ((c : CellId) → Has (in_rows cells_made S.rows) c → D.row_of c ≡ None) → IsOverStep D S
  over_document x schema new = record {
    rows = λ r h. subst (λ l. AreAsSeen l (cells_before (spread r.marks))) (stands.rows r.node) (all-has (RowIsSeen F) S.rows r x.rows h);
    held = λ r h. sym (stands.held r.field) ∙ all-has (IsHeld F) S.regs r x.held h;
    loose = λ l h. is_nowhere (get node_cmp F.nodes l.node) (D.nodes l.node) (D.place l.node) l.node (stands.nodes l.node) (stands.places l.node) (all-has (IsNowhere F) S.loose l x.loose h);
    new_nodes = λ n h.
        let m = has-map (λ (m : NewNode). m.node) S.new n h in
        (unknown_alike n).0 (subst (λ k. get node_cmp F.nodes k ≡ None) m.2 (all-has (IsUnknown F) S.new m.0 x.new_nodes m.1));
    new_cells = new;
    owners = λ n h.
        let r = has-flat_map (λ (r : RowMarks). hole_owners (spread r.marks)) S.rows n h in
        is_known n (all-has (IsKnown F S.new) (hole_owners (spread r.0.marks)) n (all-has (λ (q : RowMarks). OwnersAreKnown F S.new q.marks) S.rows r.0 x.owners r.1) r.2);
    schema = subst (λ l. IfSome S.schema (EndsWithCut l)) stands.schemas schema;
  }

  pub in_tables : IsOverStep D S → FindsWhatIsSo F S × IfSome S.schema (EndsWithCut F.schemas)
  in_tables o = (
    record {
      rows = has-all (RowIsSeen F) S.rows (λ r h. subst (λ l. AreAsSeen l (cells_before (spread r.marks))) (sym (stands.rows r.node)) (o.rows r h));
      held = has-all (IsHeld F) S.regs (λ r h. stands.held r.field ∙ o.held r h);
      loose = has-all (IsNowhere F) S.loose (λ l h. nowhere_is (get node_cmp F.nodes l.node) (D.nodes l.node) (D.place l.node) l.node (stands.nodes l.node) (stands.places l.node) (o.loose l h));
      new_nodes = has-all (IsUnknown F) S.new (λ m h. (unknown_alike m.node).1 (o.new_nodes m.node (map-has (λ (q : NewNode). q.node) S.new m h)));
      owners = has-all (λ (q : RowMarks). OwnersAreKnown F S.new q.marks) S.rows
          (λ r h. has-all (IsKnown F S.new) (hole_owners (spread r.marks)) (λ n l. known_is n (o.owners n (flat_map-has (λ (q : RowMarks). hole_owners (spread q.marks)) S.rows r n h l))));
    },
    subst (λ l. IfSome S.schema (EndsWithCut l)) (sym stands.schemas) o.schema,
  )
