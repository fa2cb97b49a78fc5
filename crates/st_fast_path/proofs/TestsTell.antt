-- What the test tells, entry by entry.
use Rattle.std.proofs.Common.{◌≡◌, ◌≢◌, ◌&&◌, Bool, true, false, not, is_none, List, [], ◌∷◌, Option, Some, None, refl, sym, ap, ◌∙◌, subst, inl, inr, ◌⊎◌}
use Rattle.std.specs.List.{list_all}
use Rattle.std.specs.Option.{option_map_or}
use Rattle.st_lemmas.proofs.Bools.{and-true, not-true, or-cases}
use Rattle.st_ids.proofs.Listings.{item_of-has}
use Rattle.st_ids.proofs.Orders.{field_cmp_exact, field_cmp_total, node_cmp_exact, node_cmp_total, same_node-itself}
use Rattle.st_ids.specs.Listing.{Has, item_of}
use Rattle.st_ids.specs.Order.{field_cmp, node_cmp, same_node}
use Rattle.st_ids.specs.declared.names.FieldId.{FieldId}
use Rattle.st_ids.specs.declared.names.NodeId.{NodeId}
use Rattle.st_marks.specs.declared.changes.Change.{Change}
use Rattle.st_marks.specs.declared.marks.How.{How}
use Rattle.st_marks.specs.declared.marks.How.TheVariants.{Stay, Here, Leave}
use Rattle.st_marks.specs.declared.marks.Loose.{Loose}
use Rattle.st_marks.specs.declared.marks.RegMark.{RegMark}
use Rattle.st_marks.specs.declared.marks.RegStep.{RegStep}
use Rattle.st_marks.specs.declared.marks.RowMarks.{RowMarks}
use Rattle.st_marks.specs.declared.steps.Step.{Step}
use Rattle.st_marks.specs.How.{is_stay}
use Rattle.st_marks.specs.Intent.{same_option}
use Rattle.st_marks.proofs.Shared.{same-held}
use Rattle.st_passing.specs.Whole.{Passes, row_in}
use Rattle.st_passing.specs.Whole as whole
use Rattle.st_fast_path.specs.Tests.{all_loose_pass, is_leave, list_few_loose, loose_pass, no_schema_parts, pass_each_other, register_passes, registers_pass, row_passes}

all-has : {A : Type 0} (p : A → Bool) (xs : List A) (x : A) → list_all p xs ≡ true → Has xs x → p x ≡ true
all-has p [] x e h = absurd h
all-has p (y ∷ ys) x e (inl q) = subst (λ z. p z ≡ true) q (and-true (p y) (list_all p ys) e).0
all-has p (y ∷ ys) x e (inr h) = all-has p ys x (and-true (p y) (list_all p ys) e).1 h

none_is : {A : Type 0} (o : Option A) → is_none o ≡ true → o ≡ None
none_is None e = refl
none_is (Some a) e = cc

no_leave : (h : How) → not (is_leave h) ≡ true → h ≢ Leave
no_leave Stay e q = cc
no_leave Here e q = cc
no_leave Leave e q = cc

it_stays : (h : How) → is_stay h ≡ true → h ≡ Stay
it_stays Stay e = refl
it_stays Here e = cc
it_stays Leave e = cc

registers_tell : (c : RegMark) (s : RegStep) → registers_pass c s ≡ true → whole.registers_pass c s
registers_tell c s e =
    let a = and-true (same_option same_node s.before s.after) (not c.clear && (is_none c.fill && not (is_leave c.how))) e in
    let b = and-true (not c.clear) (is_none c.fill && not (is_leave c.how)) a.1 in
    let d = and-true (is_none c.fill) (not (is_leave c.how)) b.1 in
    (same-held s.before s.after a.0, not-true c.clear b.0, none_is c.fill d.0, no_leave c.how d.1)

loose_tells : (c s : Loose) → c.node ≡ s.node → loose_pass c s ≡ true → whole.loose_pass c s
loose_tells c s q e = go (or-cases (not (same_node c.node s.node)) (is_stay s.how && not (is_leave c.how)) e)
  where
    go : (not (same_node c.node s.node) ≡ true) ⊎ ((is_stay s.how && not (is_leave c.how)) ≡ true) → whole.loose_pass c s
    go (inl a) =
        let b : same_node c.node s.node ≡ false = not-true (same_node c.node s.node) a in
        let d : same_node c.node s.node ≡ true = subst (λ n. same_node c.node n ≡ true) q (same_node-itself c.node) in
        let f : ◌≡◌ {A = Bool} true false = sym d ∙ b in
        cc
    go (inr a) = let b = and-true (is_stay s.how) (not (is_leave c.how)) a in (it_stays s.how b.0, no_leave c.how b.1)

module _ (C : Change) (S : Step) (e : pass_each_other C S ≡ true) where
  abbrev rest_loose : Bool
  rest_loose = all_loose_pass C.loose S.loose && (list_all (register_passes S.regs) C.regs && list_all (row_passes S.rows) C.rows)

  schemas : (no_schema_parts C S ≡ true) × ((list_few_loose C.loose S.loose && rest_loose) ≡ true)
  schemas = and-true (no_schema_parts C S) (list_few_loose C.loose S.loose && (all_loose_pass C.loose S.loose && (list_all (register_passes S.regs) C.regs && list_all (row_passes S.rows) C.rows))) e

  few : (list_few_loose C.loose S.loose ≡ true) × (rest_loose ≡ true)
  few = and-true (list_few_loose C.loose S.loose) (all_loose_pass C.loose S.loose && (list_all (register_passes S.regs) C.regs && list_all (row_passes S.rows) C.rows)) schemas.1

  loose : (all_loose_pass C.loose S.loose ≡ true) × ((list_all (register_passes S.regs) C.regs && list_all (row_passes S.rows) C.rows) ≡ true)
  loose = and-true (all_loose_pass C.loose S.loose) (list_all (register_passes S.regs) C.regs && list_all (row_passes S.rows) C.rows) few.1

  fields : (list_all (register_passes S.regs) C.regs ≡ true) × (list_all (row_passes S.rows) C.rows ≡ true)
  fields = and-true (list_all (register_passes S.regs) C.regs) (list_all (row_passes S.rows) C.rows) loose.1

  each_row : (n : NodeId) (r : RowMarks) → row_in C.rows n ≡ Some r → whole.row_passes S.rows r
  each_row n r f = all-has (row_passes S.rows) C.rows r fields.1 (item_of-has node_cmp node_cmp_total node_cmp_exact (λ (q : RowMarks). q.node) C.rows n r f).0

  each_register : (f : FieldId) (c : RegMark) (s : RegStep) → item_of field_cmp (λ (r : RegMark). r.field) C.regs f ≡ Some c → item_of field_cmp (λ (r : RegStep). r.field) S.regs f ≡ Some s → whole.registers_pass c s
  each_register f c s g h =
      let here = item_of-has field_cmp field_cmp_total field_cmp_exact (λ (r : RegMark). r.field) C.regs f c g in
      let found : item_of field_cmp (λ (r : RegStep). r.field) S.regs c.field ≡ Some s = ap (λ k. item_of field_cmp (λ (r : RegStep). r.field) S.regs k) here.1 ∙ h in
      registers_tell c s (ap (λ o. option_map_or (registers_pass c) o true) (sym found) ∙ all-has (register_passes S.regs) C.regs c fields.0 here.0)

  each_loose : (n : NodeId) (c s : Loose) → item_of node_cmp (λ (l : Loose). l.node) C.loose n ≡ Some c → item_of node_cmp (λ (l : Loose). l.node) S.loose n ≡ Some s → whole.loose_pass c s
  each_loose n c s g h =
      let here = item_of-has node_cmp node_cmp_total node_cmp_exact (λ (l : Loose). l.node) C.loose n c g in
      let there = item_of-has node_cmp node_cmp_total node_cmp_exact (λ (l : Loose). l.node) S.loose n s h in
      loose_tells c s (here.1 ∙ sym there.1) (all-has (loose_pass c) S.loose s (all-has (λ (d : Loose). list_all (loose_pass d) S.loose) C.loose c loose.0 here.0) there.0)

  pub they_pass : Passes C S
  they_pass =
      let parts = and-true (is_none C.schema) (is_none S.schema) schemas.0 in
      record {
        rows = each_row;
        regs = each_register;
        loose = each_loose;
        change_schema = none_is C.schema parts.0;
        step_schema = none_is S.schema parts.1;
      }
