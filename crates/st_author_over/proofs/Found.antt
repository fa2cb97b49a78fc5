-- Who is found, and what is made, in lists of several parts.
use Rattle.std.proofs.lemmas.Bool.Decides.{nat_tests}
use Rattle.std.proofs.Common.{arith, ◌≡◌, ◌++◌, ◌||◌, ◌&&◌, ◌↔◌, ℕ, zero, suc, Bool, true, false, not, List, [], ◌∷◌, map, length, Option, Some, None, refl, sym, ap, ◌∙◌, min, ◌==◌, ◌^◌}
use Rattle.std.specs.List.{flat_map, list_any}
use Rattle.st_ids.specs.Order.{same_cell, same_node}
use Rattle.st_ids.specs.declared.names.CellId.{CellId}
use Rattle.st_ids.specs.declared.names.NodeId.{NodeId}
use Rattle.st_marks.specs.declared.marks.How.{How}
use Rattle.st_marks.specs.declared.marks.Loose.{Loose}
use Rattle.st_marks.specs.declared.marks.RegStep.{RegStep}
use Rattle.st_marks.specs.declared.marks.RowMarks.{RowMarks}
use Rattle.st_marks.specs.declared.steps.Step.{Step}
use Rattle.st_marks.specs.Embedding.{is_among}
use Rattle.st_marks.specs.Listings.{CellView, cells_made, is_among_cells, nodes_loose, one_or_none}
use Rattle.st_marks.specs.Row.{CellMark, counted_cells, spread}
use Rattle.st_normal.specs.declared.entries.Found.{Found}
use Rattle.st_normal.specs.Rules.{found_held, found_in, found_loose, found_over, how_over, in_rows}
use Rattle.st_puts.specs.Seen.{AreAsSeen}
use Rattle.st_lemmas.proofs.Lists.{map-append}
use Rattle.st_author_laws.specs.Back.{finds_node}
use Rattle.st_author_over.specs.inside.Seen.{found_names, found_over_names}
use Rattle.st_author_over.specs.inside.Side.{is_make}

-- ## Counted cells

pub names_counted : (k : ℕ) (ms : List CellMark) → found_names (counted_cells k ms) ≡ found_names ms
names_counted zero ms = refl
names_counted (suc k) ms = names_counted k ms

pub made_counted : (k : ℕ) (ms : List CellMark) → cells_made (counted_cells k ms) ≡ cells_made ms
made_counted zero ms = refl
made_counted (suc k) ms = made_counted k ms

pub none_counted : (k : ℕ) (ms : List CellMark) → list_any is_make (counted_cells k ms) ≡ list_any is_make ms
none_counted zero ms = refl
none_counted (suc k) ms = none_counted k ms

-- ## Parts

or-assoc : (a b c : Bool) → ((a || b) || c) ≡ (a || (b || c))
or-assoc true b c = refl
or-assoc false b c = refl

pub any-append : {A : Type 0} (p : A → Bool) (xs ys : List A) → list_any p (xs ++ ys) ≡ (list_any p xs || list_any p ys)
any-append p [] ys = refl
any-append p (x ∷ xs) ys = ap (λ b. p x || b) (any-append p xs ys) ∙ sym (or-assoc (p x) (list_any p xs) (list_any p ys))

-- a list of several parts, the first of them first
pub rows_first : (f : List CellMark → List NodeId) (r : RowMarks) (rs : List RowMarks) (n : NodeId) → is_among (in_rows f (r ∷ rs)) n ≡ (is_among (f (spread r.marks)) n || is_among (in_rows f rs) n)
rows_first f r rs n = any-append (λ m. same_node m n) (f (spread r.marks)) (in_rows f rs)

pub registers_first : (r : RegStep) (rs : List RegStep) (n : NodeId) → is_among (flat_map found_over_names (r ∷ rs)) n ≡ (is_among (found_over_names r) n || is_among (flat_map found_over_names rs) n)
registers_first r rs n = any-append (λ m. same_node m n) (found_over_names r) (flat_map found_over_names rs)

pub made_first : (r : RowMarks) (rs : List RowMarks) (c : CellId) → is_among_cells (in_rows cells_made (r ∷ rs)) c ≡ (is_among_cells (cells_made (spread r.marks)) c || is_among_cells (in_rows cells_made rs) c)
made_first r rs c = any-append (λ d. same_cell d c) (cells_made (spread r.marks)) (in_rows cells_made rs)

-- ## Who is found

map-flat : {A B D : Type 0} (g : B → D) (f : A → List B) (xs : List A) → map g (flat_map f xs) ≡ flat_map (λ x. map g (f x)) xs
map-flat g f [] = refl
map-flat g f (x ∷ xs) = map-append g (f x) (flat_map f xs) ∙ ap (λ l. map g (f x) ++ l) (map-flat g f xs)

held-names : (o : Option NodeId) (h : How) → map (λ (f : Found). f.node) (found_held o h) ≡ one_or_none o
held-names None h = refl
held-names (Some n) h = refl

over-names : (rs : List RegStep) → map (λ (f : Found). f.node) (flat_map found_over rs) ≡ flat_map found_over_names rs
over-names [] = refl
over-names (r ∷ rs) = map-append (λ (f : Found). f.node) (found_over r) (flat_map found_over rs) ∙ (λ i. held-names r.before (how_over r) i ++ over-names rs i)

loose-names : (ls : List Loose) → map (λ (f : Found). f.node) (found_loose ls) ≡ nodes_loose ls
loose-names [] = refl
loose-names (l ∷ ls) = ap (λ ns. l.node ∷ ns) (loose-names ls)

pub finds_parts : (S : Step) (n : NodeId) → finds_node S n ≡ ((is_among (in_rows found_names S.rows) n || is_among (flat_map found_over_names S.regs) n) || is_among (nodes_loose S.loose) n)
finds_parts S n =
    let node : Found → NodeId = λ f. f.node in
    let p : NodeId → Bool = λ m. same_node m n in
    ap (list_any p) (map-append node (in_rows found_in S.rows) (flat_map found_over S.regs ++ found_loose S.loose))
    ∙ any-append p (map node (in_rows found_in S.rows)) (map node (flat_map found_over S.regs ++ found_loose S.loose))
    ∙ (λ i. list_any p (map-flat node (λ (r : RowMarks). found_in (spread r.marks)) S.rows i)
    || list_any p ((map-append node (flat_map found_over S.regs) (found_loose S.loose) ∙ (λ j. over-names S.regs j ++ loose-names S.loose j)) i))
    ∙ ap (λ b. is_among (in_rows found_names S.rows) n || b) (any-append p (flat_map found_over_names S.regs) (nodes_loose S.loose))
    ∙ sym (or-assoc (is_among (in_rows found_names S.rows) n) (is_among (flat_map found_over_names S.regs) n) (is_among (nodes_loose S.loose) n))

-- two tests, in one order or the other
pub one_order : (a b : Bool) → (a && not b) ≡ (not b && a)
one_order true true = refl
one_order true false = refl
one_order false true = refl
one_order false false = refl

-- no cells
pub none_seen : (xs : List CellView) → (min (length xs) (2 ^ 32) == 0) ≡ true ↔ AreAsSeen [] xs
none_seen [] = (λ e. tt, λ h. refl)
none_seen (x ∷ xs) = (λ e. (let bad : min (suc (length xs)) (2 ^ 32) ≡ 0 = grind (arith, nat_tests, e) in absurd (omega (arith, bad))), λ h. absurd h)
