-- What is told name by name lists the step after the change, with all that it names.
use Rattle.std.proofs.Common.{◌≡◌, Bool, true, false, ◌||◌, ◌&&◌, not, List, map, is_some, Option, Some, None, MatchOption, cond, refl, sym, ap, ◌∙◌, subst}
use Rattle.std.specs.BTreeSet.{contains}
use Rattle.std.specs.List.{list_any}
use Rattle.std.specs.Option.{option_or}
use mathlib.Core.Path.{fun_ext}
use Rattle.st_ids.specs.Listing.{IsListing, item_of}
use Rattle.st_ids.specs.Order.{field_cmp, node_cmp, same_node}
use Rattle.st_ids.specs.Root.{root}
use Rattle.st_ids.proofs.Orders.{node_cmp_exact}
use Rattle.st_ids.specs.declared.names.FieldId.{FieldId}
use Rattle.st_ids.specs.declared.names.NodeId.{NodeId}
use Rattle.st_kind.specs.Named.{Nodes, either}
use Rattle.st_lemmas.proofs.Bools.{or-false}
use Rattle.st_lemmas.proofs.Options.{one_some}
use Rattle.st_marks.specs.declared.changes.Change.{Change}
use Rattle.st_marks.specs.declared.changes.NewNode.{NewNode}
use Rattle.st_marks.specs.declared.intents.Intent.{Intent}
use Rattle.st_marks.specs.declared.marks.How.TheVariants.{Stay, Leave}
use Rattle.st_marks.specs.declared.marks.Loose.{Loose}
use Rattle.st_marks.specs.declared.marks.RegMark.{RegMark}
use Rattle.st_marks.specs.declared.marks.RegStep.{RegStep}
use Rattle.st_marks.specs.declared.marks.RowMarks.{RowMarks}
use Rattle.st_marks.specs.declared.steps.Step.{Step}
use Rattle.st_marks.specs.declared.verdicts.Verdict.{Verdict}
use Rattle.st_marks.specs.CarryOut.{full, with_schema}
use Rattle.st_marks.specs.Document.{Document, HasShortRows, NodeType, content}
use Rattle.st_marks.specs.Embedding.{IsEmbedding, is_among, is_nowhere, row_marks, tells}
use Rattle.st_marks.specs.Extends.{GainsItems, IsExtendedBy}
use Rattle.st_marks.specs.Intent.{Fits, is_new, new_type, put_of}
use Rattle.st_marks.specs.Listings.{nodes_new, placed_after, placed_before}
use Rattle.st_marks.specs.Register.{step_register}
use Rattle.st_marks.specs.Row.{CellMark, SameCell, merge, step_row}
use Rattle.st_marks.specs.Step.{IsSchemaStep, IsStep, gained_node, step_loose}
use Rattle.st_marks.specs.Verdict.{IsVerdict, carried_document}
use Rattle.st_marks.proofs.OneVerdict.{carried_extends}
use Rattle.st_moves.proofs.OrderedNames.{listing}
use Rattle.st_over.proofs.Listed.{rows_whole}
use Rattle.st_puts.proofs.ListedIf.{shown-None, shown-Some}
use Rattle.st_read_laws.specs.Reading.{read, read_change, read_step}
use Rattle.st_read_laws.proofs.Readings.{listing_stays}
use Rattle.st_reading.specs.Bridge.{is_void}
use Rattle.st_rows.specs.Changes.{placed_by}
use Rattle.st_rows.specs.Sequence.{ListsNew}
use Rattle.st_rows.proofs.Existence.{lists_new}
use Rattle.st_trim.specs.Evicted.{in_cleared}
use Rattle.st_trim.specs.Trimmed.{ListsStep}
use Rattle.st_effect.proofs.VoidIntents.{void_schemas}
use Rattle.st_over.specs.Across.{register_across, row_across}
use Rattle.st_cross_laws.specs.Crossed.{IsCrossed, loose_across}
use Rattle.st_cross_laws.specs.Named.{named_across}
use Rattle.st_cross_laws.proofs.NodesCovered.{across_covers, carried_nodes}
use Rattle.st_cross_laws.proofs.NodesListed.{change_finds, step_finds}
use Rattle.st_cross_laws.proofs.NodesNamed.{register_named, row_named}
use Rattle.st_cross_laws.proofs.NodesStanding.{stand_is, stood_is}
use Rattle.st_cross_laws.proofs.RegistersAcross.{register_there}
use Rattle.st_cross_laws.proofs.RowsAcross.{row_crossed_there}

-- ## Schemas and new nodes

carried_schemas : (D : Document) (N : Intent) (w : Verdict) → Fits D N → N.schema ≡ None → D.schemas ≡ (carried_document w D N).schemas
carried_schemas D N Verdict.Sound f e = sym (ap (λ o. with_schema N o D.schemas) e)
carried_schemas D N (Verdict.Need n) f e = void_schemas D N f
carried_schemas D N (Verdict.Cycle n) f e = void_schemas D N f
carried_schemas D N (Verdict.Schema u) f e = void_schemas D N f

gained_across : (D E : Document) (N : Intent) (v u : Verdict) → Fits D N → Fits E N → (n : NodeId) → gained_node n (D.nodes n) (E.nodes n) ≡ gained_node n ((carried_document v D N).nodes n) ((carried_document u E N).nodes n)
gained_across D E N v u f g n = go (new_type N n) refl ∙ sym (λ i. gained_node n (carried_nodes D N v f n i) (carried_nodes E N u g n i))
  where
    go : (o : Option NodeType) → new_type N n ≡ o → gained_node n (D.nodes n) (E.nodes n) ≡ gained_node n (option_or (D.nodes n) (new_type N n)) (option_or (E.nodes n) (new_type N n))
    go None e = λ i. gained_node n (sym (none (D.nodes n)) i) (sym (none (E.nodes n)) i)
      where
        none : (o : Option NodeType) → option_or o (new_type N n) ≡ o
        none None = e
        none (Some t) = refl
    go (Some t) e =
        let made : is_new N n ≡ true = ap is_some e in
        (λ i. gained_node n (f.fresh_nodes n made i) (g.fresh_nodes n made i))
        ∙ sym (λ i. gained_node n (option_or (f.fresh_nodes n made i) (e i)) (option_or (g.fresh_nodes n made i) (e i)))

-- ## Truth values

or-swap : (a b : Bool) → (a || b) ≡ (b || a)
or-swap true true = refl
or-swap true false = refl
or-swap false true = refl
or-swap false false = refl

or-true : (a : Bool) → (a || true) ≡ true
or-true true = refl
or-true false = refl

and-false : (a : Bool) → (a && false) ≡ false
and-false true = refl
and-false false = refl

-- a node that is named, is nowhere before or not, and after or not
same_loose : (n : NodeId) (a b : Bool) → ◌≡◌ {A = Option Loose} (cond (not a || false) None (Some (record { node = n; how = cond (not b) Leave Stay }))) (cond (true && a && not false) (Some (record { node = n; how = cond b Stay Leave })) None)
same_loose n true true = refl
same_loose n true false = refl
same_loose n false b = refl

across_named : (stood stands : Nodes) (n : NodeId) (o : Loose) → loose_across stood stands n ≡ Some o → o.node ≡ n
across_named stood stands n o e = go (stood n || same_node n root) e
  where
    go : (b : Bool) → cond {A = Option Loose} b None (Some (record { node = n; how = cond (stands n) Leave Stay })) ≡ Some o → o.node ≡ n
    go true q = cc
    go false q = sym (ap (λ (z : Loose). z.node) (one_some (record { node = n; how = cond (stands n) Leave Stay }) o q))

-- ## The step

module _ (l : Bool) (D E : Document) (N : Intent) (C X : Change) (S G : Step) (v u : Verdict) (x : IsExtendedBy D E) (f : Fits D N) (g : Fits E N)
    (short : HasShortRows (full D N)) (short_later : HasShortRows (full E N)) (data_alone : N.schema ≡ None) (is : IsVerdict D N v) (there : IsVerdict E N u)
    (change : IsEmbedding D N C) (later : IsEmbedding E N X) (step : IsStep D E S) (got : IsCrossed l (is_void v) (is_void u) (put_of N) (read_change l C) (read_step l S) G) where
  abbrev A : Document
  A = carried_document v D N

  abbrev B : Document
  B = carried_document u E N

  abbrev new : List NodeId
  new = nodes_new C.new

  abbrev listed : ListsNew N new
  listed = lists_new D N C change

  first : IsExtendedBy D A
  first = carried_extends D N v x.before f short is

  then : IsExtendedBy E B
  then = carried_extends E N u x.after g short_later there

  makes : is_among new ≡ is_new N
  makes = fun_ext (λ n. listed.each n)

  abbrev K : Nodes
  K = named_across D N step.mentioned change.mentioned (is_among new) (is_void v) (is_void u)

  -- ## Rows

  abbrev grows : (n : NodeId) → GainsItems SameCell (content A n) (content B n)
  grows n = (row_crossed_there l D E N C S new v u n x f g change step listed).0

  abbrev cells : NodeId → List CellMark
  cells n = step_row K (grows n)

  rows_listed : IsListing node_cmp (λ (r : RowMarks). r.node) G.rows (λ n. row_marks n (map (read l) (cells n)))
  rows_listed = record {
    rising = got.rows.rising;
    at_each = λ n. got.rows.at_each n
        ∙ (λ i. row_across l (is_void v) (is_void u) (placed_by (makes i n) new) (put_of N) n (item_of node_cmp (λ (r : RowMarks). r.node) (read_change l C).rows n) (item_of node_cmp (λ (r : RowMarks). r.node) (read_step l S).rows n))
        ∙ (row_crossed_there l D E N C S new v u n x f g change step listed).1
        ∙ ap (λ xs. row_marks n (map (read l) xs)) (row_named D E N C S new v u x.before f change step listed first.after n (grows n));
  }

  abbrev whole_rows : List RowMarks
  whole_rows = map (λ (r : RowMarks). record { node = r.node; marks = merge (cells r.node) }) G.rows

  row_at : (n : NodeId) → MatchOption (item_of node_cmp (λ (r : RowMarks). r.node) whole_rows n) (list_any tells (cells n) ≡ false) (λ r. r.marks ≡ merge (cells n))
  row_at n = go (item_of node_cmp (λ (r : RowMarks). r.node) whole_rows n) ((rows_whole l cells G.rows rows_listed).0.at_each n)
    where
      go : (o : Option RowMarks) → o ≡ row_marks n (cells n) → MatchOption o (list_any tells (cells n) ≡ false) (λ r. r.marks ≡ merge (cells n))
      go None e = shown-None (list_any tells (cells n)) (record { node = n; marks = merge (cells n) }) (sym e)
      go (Some r) e = ap (λ (z : RowMarks). z.marks) (shown-Some (list_any tells (cells n)) (record { node = n; marks = merge (cells n) }) r (sym e))

  -- ## Registers

  register_at : (k : FieldId) → MatchOption (item_of field_cmp (λ (r : RegStep). r.field) G.regs k) (step_register k K (A.held k) (B.held k) ≡ None) (λ r. r ≡ record { field = k; before = A.held k; after = B.held k })
  register_at k =
      subst (λ o. MatchOption o (step_register k K (A.held k) (B.held k) ≡ None) (λ r. r ≡ record { field = k; before = A.held k; after = B.held k }))
      (sym (got.regs.at_each k ∙ (λ i. register_across (is_void v) (is_void u) (makes i) (put_of N) k (item_of field_cmp (λ (r : RegMark). r.field) C.regs k) (item_of field_cmp (λ (r : RegStep). r.field) S.regs k))))
      (register_named D E N C S new v u x.before f change step listed first.after k (item_of field_cmp (λ (r : RegMark). r.field) C.regs k) (item_of field_cmp (λ (r : RegStep). r.field) S.regs k)
      (change.regs.at_each k) (register_there D E N C S new v u k x f g change step listed))

  -- ## Loose nodes

  abbrev stood : Nodes
  stood = is_among (placed_before G.rows (map (λ (r : RegStep). r.before) G.regs))

  abbrev stands : Nodes
  stands = is_among (placed_after G.rows (map (λ (r : RegStep). r.after) G.regs))

  names_are : (n : NodeId) → same_node n root ≡ false → contains node_cmp got.names n ≡ K n
  names_are n z =
      got.named n
      ∙ (λ i. step_finds l D E S x step n z i || (is_among new n || (not (is_void v && is_void u) && change_finds l D N C x.before change n z i)))
      ∙ go (is_void v && is_void u)
    where
      go : (b : Bool) → (step.mentioned n || (is_among new n || (not b && either change.mentioned (in_cleared D N) n))) ≡ (step.mentioned n || (cond b (is_among new) (either (either change.mentioned (in_cleared D N)) (is_among new))) n)
      go true = ap (λ b. step.mentioned n || b) (or-false (is_among new n))
      go false = ap (λ b. step.mentioned n || b) (or-swap (is_among new n) (either change.mentioned (in_cleared D N) n))

  loose_named : (n : NodeId) → K n ≡ true → same_node n root ≡ false → loose_across stood stands n ≡ step_loose K A B n
  loose_named n e z =
      (λ i. cond {A = Option Loose} (stood_is l A B K first.after then.after G.rows G.regs grows rows_listed register_at got.regs.rising n e i || z i) None
      (Some (record { node = n; how = cond (stand_is l A B K first.after then.after G.rows G.regs grows rows_listed register_at got.regs.rising n e i) Leave Stay })))
      ∙ same_loose n (is_nowhere (A.place n)) (is_nowhere (B.place n))
      ∙ sym (λ i. cond {A = Option Loose} (e i && is_nowhere (A.place n) && not (z i)) (Some (record { node = n; how = cond (is_nowhere (B.place n)) Stay Leave })) None)

  root_unlisted : (n : NodeId) → same_node n root ≡ true → step_loose K A B n ≡ None
  root_unlisted n z = ap (λ b. cond {A = Option Loose} b (Some (record { node = n; how = cond (is_nowhere (B.place n)) Stay Leave })) None) ((λ i. K n && is_nowhere (A.place n) && not (z i)) ∙ and-false (K n && is_nowhere (A.place n)))

  loose_same : (n : NodeId) → contains node_cmp got.names n ≡ true → loose_across stood stands n ≡ step_loose K A B n
  loose_same n e = go (same_node n root) refl
    where
      go : (b : Bool) → same_node n root ≡ b → loose_across stood stands n ≡ step_loose K A B n
      go true z = ap (λ b. cond {A = Option Loose} b None (Some (record { node = n; how = cond (stands n) Leave Stay }))) (ap (λ b. stood n || b) z ∙ or-true (stood n)) ∙ sym (root_unlisted n z)
      go false z = loose_named n (sym (names_are n z) ∙ e) z

  loose_other : (n : NodeId) → contains node_cmp got.names n ≡ false → step_loose K A B n ≡ None
  loose_other n e = go (same_node n root) refl
    where
      go : (b : Bool) → same_node n root ≡ b → step_loose K A B n ≡ None
      go true z = root_unlisted n z
      go false z = ap (λ b. cond {A = Option Loose} (b && is_nowhere (A.place n) && not (same_node n root)) (Some (record { node = n; how = cond (is_nowhere (B.place n)) Stay Leave })) None) (sym (names_are n z) ∙ e)

  loose_listed : IsListing node_cmp (λ (q : Loose). q.node) G.loose (step_loose K A B)
  loose_listed = listing node_cmp node_cmp_exact (λ (q : Loose). q.node) (loose_across stood stands) (across_named stood stands) got.names.keys G.loose (step_loose K A B) got.ordered got.loose loose_same loose_other

  -- ## All of it

  abbrev whole : Step
  whole = record G { rows = whole_rows }

  crossed_lists : ListsStep A B K whole
  crossed_lists = record {
    covers = across_covers D E N C X S new v u x f g first change later step listed;
    schema = subst (IsSchemaStep A.schemas B.schemas) (sym got.schema) (subst (λ es. IsSchemaStep es B.schemas S.schema) (carried_schemas D N v f data_alone) (subst (λ es. IsSchemaStep D.schemas es S.schema) (carried_schemas E N u g data_alone) step.schema));
    new = subst (λ (ms : List NewNode). IsListing node_cmp (λ (m : NewNode). m.node) ms (λ n. gained_node n (A.nodes n) (B.nodes n))) (sym got.new_nodes) (record { rising = step.new.rising; at_each = λ n. step.new.at_each n ∙ gained_across D E N v u f g n });
    grows = grows;
    rows_rise = (rows_whole l cells G.rows rows_listed).0.rising;
    rows = row_at;
    regs_rise = got.regs.rising;
    regs = register_at;
    loose = loose_listed;
  }

  crossed_read : G ≡ read_step l whole
  crossed_read = λ i. record G { rows = (rows_whole l cells G.rows rows_listed).1 i }

  -- where empty cells are named, it is the listing itself
  crossed_whole : l ≡ true → G ≡ whole
  crossed_whole e = crossed_read ∙ (λ i. read_step (e i) whole) ∙ (λ i. record G { rows = listing_stays cells whole_rows (rows_whole l cells G.rows rows_listed).0 i })

  pub crossed_there : (W : Step) × ListsStep A B K W × (G ≡ read_step l W) × (l ≡ true → G ≡ W)
  crossed_there = (whole, crossed_lists, crossed_read, crossed_whole)
