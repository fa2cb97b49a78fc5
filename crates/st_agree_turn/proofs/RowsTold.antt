-- The rows, registers and cells that are found apart are those that the rules name.
use Rattle.std.proofs.Common.{◌≡◌, ◌≢◌, ◌↔◌, ℕ, zero, suc, Bool, true, false, not, cond, if◌then◌else◌, List, [], ◌∷◌, ◌++◌, map, Option, Some, None, option_map, refl, sym, ap, ◌∙◌, subst}
use Rattle.std.specs.List.{AllZip, flat_map}
use Rattle.std.specs.Option.{option_or}
use Rattle.std.specs.Ordering.{is_eq}
use Rattle.std.specs.declared.cmp.Ordering.{Ordering}
use Rattle.st_ids.specs.Listing.{Has, IsRising, item_of}
use Rattle.st_ids.specs.Order.{field_cmp, node_cmp}
use Rattle.st_ids.specs.declared.names.CellId.{CellId}
use Rattle.st_ids.specs.declared.names.FieldId.{FieldId}
use Rattle.st_ids.specs.declared.names.NodeId.{NodeId}
use Rattle.st_ids.proofs.Listings.{has-item_of, item_of-has}
use Rattle.st_ids.proofs.Orders.{field_cmp_exact, field_cmp_total, node_cmp_exact, node_cmp_total}
use Rattle.st_lemmas.proofs.Bools.{true-false}
use Rattle.st_kind.specs.Named.{Nodes}
use Rattle.st_marks.specs.declared.marks.How.TheVariants.{Stay, Here, Leave}
use Rattle.st_marks.specs.declared.marks.Mark.{Mark}
use Rattle.st_marks.specs.declared.marks.RegStep.{RegStep}
use Rattle.st_marks.specs.declared.marks.RowMarks.{RowMarks}
use Rattle.st_marks.specs.declared.steps.Step.{Step}
use Rattle.st_marks.specs.Agree.{IsSameView, row_field}
use Rattle.st_marks.specs.Embedding.{is_among}
use Rattle.st_marks.specs.Listings.{CellView, cells_after, cells_before, cells_in, cells_made, listing_after_step, listing_before_step, nodes_new}
use Rattle.st_marks.specs.Row.{CellMark, counted_cells, spread}
use Rattle.st_marks.proofs.Members.{flat_map-has, has-flat_map}
use Rattle.st_marks.proofs.Shared.{held-same, same-held}
use Rattle.st_clash.specs.Adds.{Adds}
use Rattle.st_clash.specs.Views.{same_views}
use Rattle.st_clash.proofs.Names.{pick, picked}
use Rattle.st_clash.proofs.RowWalks.{views_same}
use Rattle.st_agree_turn.specs.Rules.{RegistersApart, RowsApart}
use Rattle.st_agree_turn.specs.inside.Left.{left_mark, row_left}
use Rattle.st_agree_turn.specs.inside.Registers.{holds_otherwise, register_apart}
use Rattle.st_agree_turn.specs.inside.Rows.{is_otherwise, row_apart}

-- ## What is left of marks

counted_views : (k : ℕ) (xs ys : List CellMark) → cells_before xs ≡ cells_after ys → cells_before (counted_cells k xs) ≡ cells_after (counted_cells k ys)
counted_views zero xs ys e = e
counted_views (suc k) xs ys e = ap (λ (l : List CellView). record { cell = None; node = None; full = true } ∷ l) (counted_views k xs ys e)

pub marks_left_views : (ms : List Mark) → cells_before (spread (map left_mark ms)) ≡ cells_after (spread ms)
marks_left_views [] = refl
marks_left_views (Mark.Skip k ∷ ms) = counted_views k (spread (map left_mark ms)) (spread ms) (marks_left_views ms)
marks_left_views (Mark.Gap c ∷ ms) = ap (λ (l : List CellView). record { cell = Some c; node = None; full = false } ∷ l) (marks_left_views ms)
marks_left_views (Mark.Touch c n Stay ∷ ms) = ap (λ (l : List CellView). record { cell = Some c; node = Some n; full = true } ∷ l) (marks_left_views ms)
marks_left_views (Mark.Touch c n Here ∷ ms) = ap (λ (l : List CellView). record { cell = Some c; node = Some n; full = true } ∷ l) (marks_left_views ms)
marks_left_views (Mark.Touch c n Leave ∷ ms) = ap (λ (l : List CellView). record { cell = Some c; node = Some n; full = false } ∷ l) (marks_left_views ms)
marks_left_views (Mark.Make c n true ∷ ms) = ap (λ (l : List CellView). record { cell = Some c; node = Some n; full = true } ∷ l) (marks_left_views ms)
marks_left_views (Mark.Make c n false ∷ ms) = ap (λ (l : List CellView). record { cell = Some c; node = Some n; full = false } ∷ l) (marks_left_views ms)
marks_left_views (Mark.Fill c n ∷ ms) = ap (λ (l : List CellView). record { cell = Some c; node = Some n; full = true } ∷ l) (marks_left_views ms)

counted_names : (k : ℕ) (xs ys : List CellMark) → cells_in xs ≡ cells_in ys → cells_in (counted_cells k xs) ≡ cells_in (counted_cells k ys)
counted_names zero xs ys e = e
counted_names (suc k) xs ys e = counted_names k xs ys e

-- what is left of marks names the same cells
pub marks_left_names : (ms : List Mark) → cells_in (spread (map left_mark ms)) ≡ cells_in (spread ms)
marks_left_names [] = refl
marks_left_names (Mark.Skip k ∷ ms) = counted_names k (spread (map left_mark ms)) (spread ms) (marks_left_names ms)
marks_left_names (Mark.Gap c ∷ ms) = ap (λ (l : List CellId). c ∷ l) (marks_left_names ms)
marks_left_names (Mark.Touch c n Stay ∷ ms) = ap (λ (l : List CellId). c ∷ l) (marks_left_names ms)
marks_left_names (Mark.Touch c n Here ∷ ms) = ap (λ (l : List CellId). c ∷ l) (marks_left_names ms)
marks_left_names (Mark.Touch c n Leave ∷ ms) = ap (λ (l : List CellId). c ∷ l) (marks_left_names ms)
marks_left_names (Mark.Make c n true ∷ ms) = ap (λ (l : List CellId). c ∷ l) (marks_left_names ms)
marks_left_names (Mark.Make c n false ∷ ms) = ap (λ (l : List CellId). c ∷ l) (marks_left_names ms)
marks_left_names (Mark.Fill c n ∷ ms) = ap (λ (l : List CellId). c ∷ l) (marks_left_names ms)

counted_made : (k : ℕ) (xs : List CellMark) → cells_made xs ≡ [] → cells_made (counted_cells k xs) ≡ []
counted_made zero xs e = e
counted_made (suc k) xs e = counted_made k xs e

-- and makes none
pub marks_left_made : (ms : List Mark) → cells_made (spread (map left_mark ms)) ≡ []
marks_left_made [] = refl
marks_left_made (Mark.Skip k ∷ ms) = counted_made k (spread (map left_mark ms)) (marks_left_made ms)
marks_left_made (Mark.Gap c ∷ ms) = marks_left_made ms
marks_left_made (Mark.Touch c n Stay ∷ ms) = marks_left_made ms
marks_left_made (Mark.Touch c n Here ∷ ms) = marks_left_made ms
marks_left_made (Mark.Touch c n Leave ∷ ms) = marks_left_made ms
marks_left_made (Mark.Make c n true ∷ ms) = marks_left_made ms
marks_left_made (Mark.Make c n false ∷ ms) = marks_left_made ms
marks_left_made (Mark.Fill c n ∷ ms) = marks_left_made ms

-- ## Rows

pub item_of-map : {K A : Type 0} (R : K → K → Ordering) (key : A → K) (f : A → A) → ((x : A) → key (f x) ≡ key x) → (xs : List A) (k : K) → item_of R key (map f xs) k ≡ option_map f (item_of R key xs k)
item_of-map R key f keeps [] k = refl
item_of-map R key f keeps (x ∷ xs) k = (λ i. cond (is_eq (R k (keeps x i))) (Some (f x)) (item_of-map R key f keeps xs k i)) ∙ go (is_eq (R k (key x)))
  where
    go : (b : Bool) → cond b (Some (f x)) (option_map f (item_of R key xs k)) ≡ option_map f (cond b (Some x) (item_of R key xs k))
    go true = refl
    go false = refl

not_true : (b : Bool) → not b ≡ true → b ≡ false
not_true true e = cc
not_true false e = refl

true_not : (b : Bool) → (b ≡ true → ⊥) → not b ≡ true
true_not true e = absurd (e refl)
true_not false e = refl

mapped : {A B : Type 0} (g : A → B) (o : Option A) (b : B) → option_map g o ≡ Some b → (a : A) × (o ≡ Some a) × (g a ≡ b)
mapped g None b e = cc
mapped g (Some a) b e = (a, refl, let q : g a ≡ b = cc in q)

-- a row that is left otherwise is shown so
otherwise_told : (o : Option RowMarks) (made : Bool) (vs : List CellView) → is_otherwise (option_map row_left o) made vs ≡ true
    → (a : List CellView) × (option_or (option_map (λ (r : RowMarks). cells_after (spread r.marks)) o) (if made then Some [] else None) ≡ Some a) × (AllZip IsSameView a vs → ⊥)
otherwise_told (Some r) made vs e = (
  cells_after (spread r.marks),
  refl,
  λ z. true-false ((views_same (cells_after (spread r.marks)) vs).1 z) (sym (ap (λ l. same_views l vs) (marks_left_views r.marks)) ∙ not_true _ e),
)
otherwise_told None true vs e = ([], refl, λ z. true-false ((views_same [] vs).1 z) (not_true _ e))
otherwise_told None false vs e = cc

told_otherwise : (o : Option RowMarks) (made : Bool) (vs a : List CellView) → option_or (option_map (λ (r : RowMarks). cells_after (spread r.marks)) o) (if made then Some [] else None) ≡ Some a
    → (AllZip IsSameView a vs → ⊥) → is_otherwise (option_map row_left o) made vs ≡ true
told_otherwise (Some r) made vs a e apart =
    let same : cells_after (spread r.marks) ≡ a = cc in
    true_not _ (λ q. apart (subst (λ l. AllZip IsSameView l vs) same ((views_same (cells_after (spread r.marks)) vs).0 (sym (ap (λ l. same_views l vs) (marks_left_views r.marks)) ∙ q))))
told_otherwise None true vs a e apart =
    let same : [] ≡ a = cc in
    true_not _ (λ q. apart (subst (λ l. AllZip IsSameView l vs) same ((views_same [] vs).0 q)))
told_otherwise None false vs a e apart = cc

module _ (S T : Step) (made : Nodes) (makes : (n : NodeId) → made n ≡ is_among (nodes_new S.new) n) where
  abbrev row_at : List RowMarks → NodeId → Option RowMarks
  row_at rows n = item_of node_cmp (λ (r : RowMarks). r.node) rows n

  left_at : (n : NodeId) (vs : List CellView) → is_otherwise (row_at (map row_left S.rows) n) (made n) vs ≡ is_otherwise (option_map row_left (row_at S.rows n)) (is_among (nodes_new S.new) n) vs
  left_at n vs = λ i. is_otherwise (item_of-map node_cmp (λ (r : RowMarks). r.node) row_left (λ r. refl) S.rows n i) (makes n i) vs

  rows_told : IsRising node_cmp (λ (r : RowMarks). r.node) T.rows → (f : FieldId) → Has (flat_map (row_apart (map row_left S.rows) made) T.rows) f ↔ RowsApart (listing_after_step S) (listing_before_step T) f
  rows_told rise f = (to, back)
    where
      to : Has (flat_map (row_apart (map row_left S.rows) made) T.rows) f → RowsApart (listing_after_step S) (listing_before_step T) f
      to h =
          let r = has-flat_map (row_apart (map row_left S.rows) made) T.rows f h in
          let p = picked _ (row_field r.0.node) f r.2 in
          let vs = cells_before (spread r.0.marks) in
          let d = otherwise_told (row_at S.rows r.0.node) (is_among (nodes_new S.new) r.0.node) vs (sym (left_at r.0.node vs) ∙ p.0) in (
            r.0.node,
            d.0,
            vs,
            d.1,
            ap (option_map (λ (q : RowMarks). cells_before (spread q.marks))) (has-item_of node_cmp node_cmp_total node_cmp_exact (λ (q : RowMarks). q.node) T.rows r.0 rise r.1),
            d.2,
            p.1,
          )

      back : RowsApart (listing_after_step S) (listing_before_step T) f → Has (flat_map (row_apart (map row_left S.rows) made) T.rows) f
      back d =
          let o = mapped (λ (q : RowMarks). cells_before (spread q.marks)) (row_at T.rows d.0) d.2 d.4 in
          let h = item_of-has node_cmp node_cmp_total node_cmp_exact (λ (q : RowMarks). q.node) T.rows d.0 o.0 o.1 in
          let vs = cells_before (spread o.0.marks) in
          let apart = told_otherwise (row_at S.rows d.0) (is_among (nodes_new S.new) d.0) vs d.1 d.3 (λ z. d.5 (subst (λ l. AllZip IsSameView d.1 l) o.2 z)) in
          flat_map-has (row_apart (map row_left S.rows) made) T.rows o.0 f h.0
          (pick _ (row_field o.0.node) f (ap (λ n. is_otherwise (row_at (map row_left S.rows) n) (made n) vs) h.1 ∙ left_at d.0 vs ∙ apart) (ap row_field h.1 ∙ d.6))

  -- ## Registers

  held_told : (o : Option RegStep) (b : Bool) (held : Option NodeId) → holds_otherwise o b held ≡ true
      → (a : Option NodeId) × (option_or (option_map (λ (r : RegStep). r.after) o) (if b then Some None else None) ≡ Some a) × (a ≢ held)
  held_told (Some r) b held e = (r.after, refl, λ q. true-false (held-same r.after held q) (not_true _ e))
  held_told None true held e = (None, refl, λ q. true-false (held-same None held q) (not_true _ e))
  held_told None false held e = cc

  told_held : (o : Option RegStep) (b : Bool) (held a : Option NodeId) → option_or (option_map (λ (r : RegStep). r.after) o) (if b then Some None else None) ≡ Some a
      → a ≢ held → holds_otherwise o b held ≡ true
  told_held (Some r) b held a e apart = let same : r.after ≡ a = cc in true_not _ (λ q. apart (sym same ∙ same-held r.after held q))
  told_held None true held a e apart = let same : ◌≡◌ {A = Option NodeId} None a = cc in true_not _ (λ q. apart (sym same ∙ same-held None held q))
  told_held None false held a e apart = cc

  abbrev reg_at : List RegStep → FieldId → Option RegStep
  reg_at regs k = item_of field_cmp (λ (r : RegStep). r.field) regs k

  registers_told : IsRising field_cmp (λ (r : RegStep). r.field) T.regs → (f : FieldId) → Has (flat_map (register_apart S.regs made) T.regs) f ↔ RegistersApart (listing_after_step S) (listing_before_step T) f
  registers_told rise f = (to, back)
    where
      to : Has (flat_map (register_apart S.regs made) T.regs) f → RegistersApart (listing_after_step S) (listing_before_step T) f
      to h =
          let r = has-flat_map (register_apart S.regs made) T.regs f h in
          let p = picked _ r.0.field f r.2 in
          let d = held_told (reg_at S.regs f) (is_among (nodes_new S.new) f.node) r.0.before (sym (λ i. holds_otherwise (reg_at S.regs (p.1 i)) ((makes r.0.field.node ∙ ap (λ (k : FieldId). is_among (nodes_new S.new) k.node) p.1) i) r.0.before) ∙ p.0) in (
            d.0,
            r.0.before,
            d.1,
            ap (option_map (λ (q : RegStep). q.before)) (ap (reg_at T.regs) (sym p.1) ∙ has-item_of field_cmp field_cmp_total field_cmp_exact (λ (q : RegStep). q.field) T.regs r.0 rise r.1),
            d.2,
          )

      back : RegistersApart (listing_after_step S) (listing_before_step T) f → Has (flat_map (register_apart S.regs made) T.regs) f
      back d =
          let o = mapped (λ (q : RegStep). q.before) (reg_at T.regs f) d.1 d.3 in
          let h = item_of-has field_cmp field_cmp_total field_cmp_exact (λ (q : RegStep). q.field) T.regs f o.0 o.1 in
          let apart = told_held (reg_at S.regs f) (is_among (nodes_new S.new) f.node) o.0.before d.0 d.2 (λ z. d.4 (z ∙ o.2)) in
          flat_map-has (register_apart S.regs made) T.regs o.0 f h.0
          (pick _ o.0.field f (ap (λ (k : FieldId). holds_otherwise (reg_at S.regs k) (made k.node) o.0.before) h.1 ∙ ap (λ b. holds_otherwise (reg_at S.regs f) b o.0.before) (makes f.node) ∙ apart) h.1)

  -- ## What is added

  pub rows_added : (old new : List FieldId) → IsRising node_cmp (λ (r : RowMarks). r.node) T.rows → new ≡ old ++ flat_map (row_apart (map row_left S.rows) made) T.rows
      → Adds old new (RowsApart (listing_after_step S) (listing_before_step T)) (Unit {0})
  rows_added old new rise e = (flat_map (row_apart (map row_left S.rows) made) T.rows, e, (λ f h. (rows_told rise f).0 h), (λ u f d. (rows_told rise f).1 d))

  pub registers_added : (old new : List FieldId) → IsRising field_cmp (λ (r : RegStep). r.field) T.regs → new ≡ old ++ flat_map (register_apart S.regs made) T.regs
      → Adds old new (RegistersApart (listing_after_step S) (listing_before_step T)) (Unit {0})
  registers_added old new rise e = (flat_map (register_apart S.regs made) T.regs, e, (λ f h. (registers_told rise f).0 h), (λ u f d. (registers_told rise f).1 d))
