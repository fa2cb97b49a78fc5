-- Whole changes and steps with their empty cells named again.
use Rattle.std.proofs.Common.{◌≡◌, ◌<◌, ◌^◌, ℕ, suc, Bool, true, false, nat_lt, List, [], ◌∷◌, Some, map, length, unwrap_or, cond, refl, sym, ap, ◌∙◌, subst, inl, inr, arith}
use Rattle.std.specs.BTreeMap.{get}
use Rattle.std.specs.List.{list_any}
use Rattle.std.proofs.lemmas.Bool.Decides.{nat_tests}
use Rattle.st_ids.proofs.Listings.{has-item_of}
use Rattle.st_ids.proofs.Orders.{node_cmp_exact, node_cmp_total}
use Rattle.st_ids.specs.Listing.{Has}
use Rattle.st_ids.specs.Order.{node_cmp}
use Rattle.st_marks.specs.declared.changes.Change.{Change}
use Rattle.st_marks.specs.declared.intents.Intent.{Intent}
use Rattle.st_marks.specs.declared.marks.RowMarks.{RowMarks}
use Rattle.st_marks.specs.declared.steps.Step.{Step}
use Rattle.st_marks.specs.CarryOut.{full}
use Rattle.st_marks.specs.Document.{Document, HasShortRows, content}
use Rattle.st_marks.specs.Embedding.{IsEmbedding, row_marks, row_part, tells}
use Rattle.st_marks.specs.Row.{CellMark, embed_row, merge, spread, step_row}
use Rattle.st_marks.specs.Step.{IsStep}
use Rattle.st_mention_laws.specs.Shown.{Shows, ShowsStep, thin, thin_row, thin_step, unnamed}
use Rattle.st_puts.proofs.ListedIf.{shown-Some}
use Rattle.st_puts.proofs.RowLengths.{row_listed}
use Rattle.st_rows.proofs.KindLaws.{spread-merge}
use Rattle.st_forest.specs.Stands.{StandsFor}
use Rattle.st_forest.specs.declared.forest.Forest.{Forest}
use Rattle.st_listed.specs.Named.{named_change, named_step}
use Rattle.st_listed.specs.inside.Rows.{change_row, step_row as step_row_of}
use Rattle.st_listed.proofs.RowsNamed.{named_change-counted, named_step-counted, row_of_change, row_of_step}

-- rows that are the same with their empty cells counted
same_cells : (r q : RowMarks) → thin_row r ≡ thin_row q → map unnamed (spread r.marks) ≡ map unnamed (spread q.marks)
same_cells r q e = sym (spread-merge (map unnamed (spread r.marks))) ∙ ap (λ (z : RowMarks). spread z.marks) e ∙ spread-merge (map unnamed (spread q.marks))

heads_are : (r q : RowMarks) (rs qs : List RowMarks) → ◌≡◌ {A = List RowMarks} (r ∷ rs) (q ∷ qs) → r ≡ q
heads_are r q rs qs e = cc

tails_are : (r q : RowMarks) (rs qs : List RowMarks) → ◌≡◌ {A = List RowMarks} (r ∷ rs) (q ∷ qs) → rs ≡ qs
tails_are r q rs qs e = cc

-- row by row
all_rows : (f : RowMarks → RowMarks) (rs qs : List RowMarks) → map thin_row rs ≡ map thin_row qs → ((r q : RowMarks) → Has qs q → thin_row r ≡ thin_row q → f r ≡ q) → map f rs ≡ qs
all_rows f [] [] e h = refl
all_rows f [] (q ∷ qs) e h = cc
all_rows f (r ∷ rs) [] e h = cc
all_rows f (r ∷ rs) (q ∷ qs) e h = λ i. h r q (inl refl) (heads_are (thin_row r) (thin_row q) (map thin_row rs) (map thin_row qs) e) i ∷ all_rows f rs qs (tails_are (thin_row r) (thin_row q) (map thin_row rs) (map thin_row qs) e) (λ a b w. h a b (inr w)) i

few : (n : ℕ) {A : Type 0} (x y : A) → n < 2 ^ 32 → cond (nat_lt n (2 ^ 32)) x y ≡ x
few n x y h = go (nat_lt n (2 ^ 32)) refl
  where
    over : nat_lt n (2 ^ 32) ≡ false → ⊥
    over e = grind (arith, nat_tests, e, h)

    go : (b : Bool) → nat_lt n (2 ^ 32) ≡ b → cond b x y ≡ x
    go true e = refl
    go false e = absurd (over e)

-- ## A change

module _ (F : Forest) (D : Document) (N : Intent) (stands : StandsFor F D) (short : HasShortRows (full D N)) (C : Change) (e : IsEmbedding D N C) where
  change_row_is : (r q : RowMarks) → Has C.rows q → thin_row r ≡ thin_row q → change_row (unwrap_or (get node_cmp F.rows r.node) []) r ≡ q
  change_row_is r q h same =
      let cells : List CellMark = embed_row (row_part e.mentioned N q.node) (content D q.node) in
      let listed : row_marks q.node cells ≡ Some q = sym (e.rows.at_each q.node) ∙ has-item_of node_cmp node_cmp_total node_cmp_exact (λ (z : RowMarks). z.node) C.rows q e.rows.rising h in
      let is : q ≡ record { node = q.node; marks = merge cells } = shown-Some (list_any tells cells) (record { node = q.node; marks = merge cells }) q listed in
      let here : r.node ≡ q.node = ap (λ (z : RowMarks). z.node) same in
      let said : spread q.marks ≡ cells = ap (λ (z : RowMarks). spread z.marks) is ∙ spread-merge cells in
      let counted : map unnamed (spread r.marks) ≡ map unnamed cells = same_cells r q same ∙ ap (map unnamed) said in
      let long : length (spread r.marks) ≡ length ((full D N).rows q.node) =
      sym (map-length unnamed (spread r.marks)) ∙ ap length counted ∙ map-length unnamed cells ∙ row_listed D N e.mentioned q.node in
      let least : length (spread r.marks) < 2 ^ 32 = (let s = short q.node in omega (arith, long, s)) in
      let found : unwrap_or (get node_cmp F.rows r.node) [] ≡ content D q.node = ap (λ n. unwrap_or (get node_cmp F.rows n) []) here ∙ stands.rows q.node in
      few (length (spread r.marks)) (record { node = r.node; marks = merge (named_change (unwrap_or (get node_cmp F.rows r.node) []) (spread r.marks)) }) r least
      ∙ (λ i. record { node = here i; marks = merge (named_change (found i) (spread r.marks)) })
      ∙ ap (λ l. record { node = q.node; marks = merge l }) (named_change-counted (content D q.node) (spread r.marks) cells counted ∙ row_of_change (row_part e.mentioned N q.node) (content D q.node))
      ∙ sym is
    where
      map-length : {A B : Type 0} (f : A → B) (xs : List A) → length (map f xs) ≡ length xs
      map-length f [] = refl
      map-length f (x ∷ xs) = ap (λ k. suc k) (map-length f xs)

  pub change_listed : (x : Change) → thin x ≡ thin C → record x { rows = map (λ (r : RowMarks). change_row (unwrap_or (get node_cmp F.rows r.node) []) r) x.rows } ≡ C
  change_listed x same =
      let rows = all_rows (λ (r : RowMarks). change_row (unwrap_or (get node_cmp F.rows r.node) []) r) x.rows C.rows (ap (λ (z : Change). z.rows) same) change_row_is in
      ap (λ l. record x { rows = l }) rows ∙ ap (λ (z : Change). record z { rows = C.rows }) same

pub change_is : (F : Forest) (D : Document) (N : Intent) (x y : Change) → y ≡ record x { rows = map (λ (r : RowMarks). change_row (unwrap_or (get node_cmp F.rows r.node) []) r) x.rows }
    → StandsFor F D → HasShortRows (full D N) → Shows D N x → IsEmbedding D N y
change_is F D N x y e stands short shows = subst (IsEmbedding D N) (sym (e ∙ change_listed F D N stands short shows.0 shows.1 x shows.2)) shows.1

-- ## A step

module _ (F : Forest) (D E : Document) (stands : StandsFor F E) (S : Step) (s : IsStep D E S) where
  step_row_is : (r q : RowMarks) → Has S.rows q → thin_row r ≡ thin_row q → step_row_of (unwrap_or (get node_cmp F.rows r.node) []) r ≡ q
  step_row_is r q h same =
      let cells : List CellMark = step_row s.mentioned (s.grows q.node) in
      let listed : row_marks q.node cells ≡ Some q = sym (s.rows.at_each q.node) ∙ has-item_of node_cmp node_cmp_total node_cmp_exact (λ (z : RowMarks). z.node) S.rows q s.rows.rising h in
      let is : q ≡ record { node = q.node; marks = merge cells } = shown-Some (list_any tells cells) (record { node = q.node; marks = merge cells }) q listed in
      let here : r.node ≡ q.node = ap (λ (z : RowMarks). z.node) same in
      let said : spread q.marks ≡ cells = ap (λ (z : RowMarks). spread z.marks) is ∙ spread-merge cells in
      let counted : map unnamed (spread r.marks) ≡ map unnamed cells = same_cells r q same ∙ ap (map unnamed) said in
      let found : unwrap_or (get node_cmp F.rows r.node) [] ≡ content E q.node = ap (λ n. unwrap_or (get node_cmp F.rows n) []) here ∙ stands.rows q.node in
      (λ i. record { node = here i; marks = merge (named_step (found i) (spread r.marks)) })
      ∙ ap (λ l. record { node = q.node; marks = merge l }) (named_step-counted (content E q.node) (spread r.marks) cells counted ∙ row_of_step s.mentioned (s.grows q.node))
      ∙ sym is

  pub step_listed : (x : Step) → thin_step x ≡ thin_step S → record x { rows = map (λ (r : RowMarks). step_row_of (unwrap_or (get node_cmp F.rows r.node) []) r) x.rows } ≡ S
  step_listed x same =
      let rows = all_rows (λ (r : RowMarks). step_row_of (unwrap_or (get node_cmp F.rows r.node) []) r) x.rows S.rows (ap (λ (z : Step). z.rows) same) step_row_is in
      ap (λ l. record x { rows = l }) rows ∙ ap (λ (z : Step). record z { rows = S.rows }) same

pub step_is : (F : Forest) (D E : Document) (x y : Step) → y ≡ record x { rows = map (λ (r : RowMarks). step_row_of (unwrap_or (get node_cmp F.rows r.node) []) r) x.rows }
    → StandsFor F E → ShowsStep D E x → IsStep D E y
step_is F D E x y e stands shows = subst (IsStep D E) (sym (e ∙ step_listed F D E stands shows.0 shows.1 x shows.2)) shows.1
