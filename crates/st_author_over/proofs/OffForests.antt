-- What is read off a forest is what is read off the document for which it stands.
use Rattle.std.proofs.Common.{if◌then◌else◌, ◌≡◌, ◌≢◌, ◌↔◌, ◌||◌, ◌&&◌, Bool, true, false, not, Option, Some, None, IfSome, is_some, refl, sym, ap, ◌∙◌, subst}
use Rattle.std.specs.BTreeMap.{get}
use Rattle.std.specs.Option.{option_map_or}
use Rattle.std.specs.List.{AllByRecursion}
use Rattle.st_ids.specs.Listing.{item_of}
use Rattle.st_ids.specs.Order.{field_cmp, node_cmp}
use Rattle.st_ids.specs.declared.names.FieldId.{FieldId}
use Rattle.st_ids.specs.declared.names.NodeId.{NodeId}
use Rattle.st_lemmas.proofs.Options.{is_some-option_map}
use Rattle.st_marks.specs.declared.changes.Change.{Change}
use Rattle.st_marks.specs.declared.changes.NewNode.{NewNode}
use Rattle.st_marks.specs.declared.marks.Loose.{Loose}
use Rattle.st_marks.specs.declared.marks.RegMark.{RegMark}
use Rattle.st_marks.specs.declared.marks.RegStep.{RegStep}
use Rattle.st_marks.specs.declared.marks.RowMarks.{RowMarks}
use Rattle.st_marks.specs.declared.schemas.SchemaEntry.{SchemaEntry}
use Rattle.st_marks.specs.declared.steps.Step.{Step}
use Rattle.st_marks.specs.Document.{Document, NodeType, content}
use Rattle.st_marks.specs.Embedding.{is_among, is_nowhere}
use Rattle.st_marks.specs.Listings.{cells_before, marks_of, nodes_loose, nodes_new}
use Rattle.st_marks.specs.Row.{spread}
use Rattle.st_marks.specs.Verdict.{HasBase}
use Rattle.st_marks.proofs.Members.{all-has, has-all, has-map, map-has}
use Rattle.st_puts.specs.Seen.{AreAsSeen}
use Rattle.st_forest.specs.declared.forest.Forest.{Forest}
use Rattle.st_forest.specs.declared.forest.Seated.{Seated}
use Rattle.st_forest.specs.Stands.{StandsFor, named}
use Rattle.st_author_laws.specs.Back.{IsOverBack, finds_node, held_back, node_back, nowhere_back, row_back, schemas_back, schemas_by}
use Rattle.st_author_over.specs.inside.Seen.{FindsAll, has_node, held_seen, known_seen, nowhere_seen, row_seen}
use Rattle.st_author_over.proofs.FreeCells.{CellsAreNew}

module _ (F : Forest) (T : Document) (stands : StandsFor F T) (S : Step) where
  row-is : (n : NodeId) → row_seen F S n ≡ row_back (content T n) (marks_of S.rows n)
  row-is n = ap (λ d. row_back d (marks_of S.rows n)) (stands.rows n)

  held-is : (f : FieldId) → held_seen F S f ≡ held_back S T f
  held-is f = ap (option_map_or (λ (r : RegStep). r.before) (item_of field_cmp (λ (r : RegStep). r.field) S.regs f)) (stands.held f)

  nowhere-is : (n : NodeId) → nowhere_seen F S n ≡ nowhere_back S T n
  nowhere-is n = ap (λ s. is_among (nodes_loose S.loose) n || (not (finds_node S n) && is_nowhere s)) (stands.places n)

  there-is : (n : NodeId) → has_node F n ≡ is_some (T.nodes n)
  there-is n = sym (is_some-option_map (λ (s : Seated). s.node) (get node_cmp F.nodes n)) ∙ ap is_some (stands.nodes n) ∙ is_some-option_map (named n) (T.nodes n)

  known-is : (n : NodeId) → known_seen F S n ≡ is_some (node_back S T n)
  known-is n = ap (λ b. b && not (is_among (nodes_new S.new) n)) (there-is n) ∙ both (T.nodes n) (is_among (nodes_new S.new) n)
    where
      both : (o : Option NodeType) (b : Bool) → (is_some o && not b) ≡ is_some (if b then None else o)
      both None true = refl
      both None false = refl
      both (Some t) true = refl
      both (Some t) false = refl

  schemas-are : schemas_by S.schema F.schemas ≡ schemas_back S T
  schemas-are = ap (schemas_by S.schema) stands.schemas

  none-is : {A : Type 0} (o : Option A) → is_some o ≡ false → o ≡ None
  none-is None e = refl
  none-is (Some x) e = cc

  is-none : {A : Type 0} (o : Option A) → o ≡ None → is_some o ≡ false
  is-none o e = ap is_some e

  pub found_is_over : (C : Change) → CellsAreNew S T C → FindsAll F S C → IsOverBack S T C
  found_is_over C new x = record {
    rows = λ r h. subst (λ d. AreAsSeen d (cells_before (spread r.marks))) (row-is r.node) (all-has (λ (r : RowMarks). AreAsSeen (row_seen F S r.node) (cells_before (spread r.marks))) C.rows r x.0.0 h);
    held = λ r h. sym (held-is r.field) ∙ all-has (λ (r : RegMark). held_seen F S r.field ≡ r.held) C.regs r x.0.1 h;
    loose = λ l h. (let p = all-has (λ (l : Loose). (nowhere_seen F S l.node ≡ true) × (known_seen F S l.node ≡ true)) C.loose l x.1.0 h in
        (sym (nowhere-is l.node) ∙ p.0, sym (known-is l.node) ∙ p.1));
    new_nodes = λ n h. (let m = has-map (λ (m : NewNode). m.node) C.new n h in
        none-is (node_back S T n) (sym (known-is n) ∙ subst (λ a. known_seen F S a ≡ false) m.2 (all-has (λ (m : NewNode). known_seen F S m.node ≡ false) C.new m.0 x.1.1 m.1)));
    new_cells = new;
    base = subst (λ es. (C.base ≡ true) ↔ HasBase es C.schema C.under) schemas-are x.2.0;
    new_schema = subst (λ es. IfSome C.schema (λ _. AllByRecursion (λ (e : SchemaEntry). e.rev ≢ C.rev) es)) schemas-are x.2.1;
  }

  pub over_is_found : (C : Change) → IsOverBack S T C → FindsAll F S C
  over_is_found C x = (
    (
      has-all (λ (r : RowMarks). AreAsSeen (row_seen F S r.node) (cells_before (spread r.marks))) C.rows (λ r h. subst (λ d. AreAsSeen d (cells_before (spread r.marks))) (sym (row-is r.node)) (x.rows r h)),
      has-all (λ (r : RegMark). held_seen F S r.field ≡ r.held) C.regs (λ r h. held-is r.field ∙ x.held r h),
    ),
    (
      has-all (λ (l : Loose). (nowhere_seen F S l.node ≡ true) × (known_seen F S l.node ≡ true)) C.loose (λ l h. (let p = x.loose l h in (nowhere-is l.node ∙ p.0, known-is l.node ∙ p.1))),
      has-all (λ (m : NewNode). known_seen F S m.node ≡ false) C.new (λ m h. known-is m.node ∙ is-none (node_back S T m.node) (x.new_nodes m.node (map-has (λ (m : NewNode). m.node) C.new m h))),
    ),
    (
      subst (λ es. (C.base ≡ true) ↔ HasBase es C.schema C.under) (sym schemas-are) x.base,
      subst (λ es. IfSome C.schema (λ _. AllByRecursion (λ (e : SchemaEntry). e.rev ≢ C.rev) es)) (sym schemas-are) x.new_schema,
    ),
  )
