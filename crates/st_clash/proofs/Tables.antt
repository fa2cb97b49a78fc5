-- A table of what is seen of each cell, and sets of cells.
use Rattle.std.proofs.Common.{◌≡◌, ◌≢◌, ◌<◌, ◌+◌, ℕ, ◌||◌, Bool, true, false, cond, List, [], ◌∷◌, ◌++◌, length, take, get_or, Option, Some, None, MatchOption, refl, sym, ap, ◌∙◌, subst, inl, inr}
use Rattle.std.specs.Ordering.{is_eq}
use Rattle.std.specs.Prelude.{OnOk, Result, Ok, Err}
use Rattle.std.specs.BTreeSet.{BTreeSet, btree_set_len, contains}
use Rattle.std.specs.List.{flat_map, list_any}
use Rattle.std.proofs.lemmas.List.{append-nil}
use Rattle.st_ids.specs.declared.names.FieldId.{FieldId}
use Rattle.st_marks.specs.declared.marks.RowMarks.{RowMarks}
use Rattle.st_marks.specs.Agree.{row_field}
use Rattle.st_marks.specs.Listings.{cells_in}
use Rattle.st_marks.specs.Row.{spread}
use Rattle.st_clash.specs.inside.Bad.{row_naming}
use Rattle.st_ids.specs.Listing.{Has, IsRising, item_of}
use Rattle.st_ids.specs.Order.{cell_cmp, same_cell}
use Rattle.st_ids.specs.declared.names.CellId.{CellId}
use Rattle.st_ids.proofs.Listings.{has-item_of, item_of-has}
use Rattle.st_ids.proofs.Orders.{cell_cmp_exact, cell_cmp_total, is_eq_equal, same_cell-itself, same_cell-true}
use Rattle.st_lemmas.proofs.FirstItems.{any_more, take_one}
use Rattle.st_marks.specs.Listings.{is_among_cells}
use Rattle.st_marks.proofs.Members.{append_left, append_right, has-append}
use Rattle.st_clash.specs.declared.seen.Seen.{Seen}
use Rattle.st_clash.specs.inside.Seen.{IsTable, apart_cell, apart_from}

-- what is told of a cell
abbrev pub Tells : List Seen → CellId → Option Seen → Type 0
Tells xs c o = MatchOption o ((s : Seen) → Has xs s → s.cell ≢ c) (λ s. Has xs s × (s.cell ≡ c))

pub no_table : (at : CellId → Option Seen) → ((c : CellId) → at c ≡ None) → IsTable [] at
no_table at none c = subst (Tells [] c) (sym (none c)) (λ s h. absurd h)

pub table_more : (xs : List Seen) (i : ℕ) (d x : Seen) (before now : CellId → Option Seen) → i < length xs → get_or xs i d ≡ x
    → ((c : CellId) → now c ≡ cond (is_eq (cell_cmp x.cell c)) (Some x) (before c)) → IsTable (take i xs) before → IsTable (take (i + 1) xs) now
unfolding same_cell
table_more xs i d x before now l e more so_far c =
    subst (λ ys. Tells ys c (now c)) (sym (take_one xs i d x l e)) (subst (Tells (take i xs ++ x ∷ []) c) (sym (more c)) (go (is_eq (cell_cmp x.cell c)) refl (before c) (so_far c)))
  where
    go : (b : Bool) → is_eq (cell_cmp x.cell c) ≡ b → (o : Option Seen) → Tells (take i xs) c o → Tells (take i xs ++ x ∷ []) c (cond b (Some x) o)
    go true f o t = (append_right (take i xs) (x ∷ []) x (inl refl), cell_cmp_exact x.cell c (is_eq_equal _ f))
    go false f (Some s) t = (append_left (take i xs) (x ∷ []) s t.0, t.1)
    go false f None t = λ s h. elim (has-append (take i xs) (x ∷ []) s h) [
      | inl k ↦ t s k
      | inr k ↦ elim k [ inl q ↦ (λ z. apart (ap (λ (r : Seen). r.cell) q ∙ z)) | inr w ↦ absurd w ]
    ]
      where
        apart : x.cell ≡ c → ⊥
        apart z = let bad : true ≡ false = sym (same_cell-itself c) ∙ ap (λ k. is_eq (cell_cmp k c)) (sym z) ∙ f in cc

or-last : (a b : Bool) → cond b true a ≡ (a || b)
or-last true true = refl
or-last true false = refl
or-last false true = refl
or-last false false = refl

pub set_more : (cells : List CellId) (i : ℕ) (d x : CellId) (before now : CellId → Bool) → i < length cells → get_or cells i d ≡ x → ((c : CellId) → now c ≡ cond (is_eq (cell_cmp x c)) true (before c))
    → ((c : CellId) → before c ≡ is_among_cells (take i cells) c) → (c : CellId) → now c ≡ is_among_cells (take (i + 1) cells) c
unfolding same_cell
set_more cells i d x before now l e more so_far c =
    more c ∙ or-last (before c) (is_eq (cell_cmp x c)) ∙ ap (λ b. b || same_cell x c) (so_far c) ∙ sym (any_more (λ y. same_cell y c) cells i d x l e)

-- ## A table that no code builds

-- what is seen first of a cell
seen_of : List Seen → CellId → Option Seen
seen_of [] c = None
seen_of (x ∷ xs) c = cond (same_cell x.cell c) (Some x) (seen_of xs c)

seen_told : (xs : List Seen) → IsTable xs (seen_of xs)
unfolding seen_of
seen_told [] c = λ s h. absurd h
seen_told (x ∷ xs) c = go (same_cell x.cell c) refl (seen_of xs c) (seen_told xs c)
  where
    go : (b : Bool) → same_cell x.cell c ≡ b → (o : Option Seen) → Tells xs c o → Tells (x ∷ xs) c (cond b (Some x) o)
    go true f o t = (inl refl, same_cell-true x.cell c f)
    go false f (Some s) t = (inr t.0, t.1)
    go false f None t = λ s h. elim h [
      | inl q ↦ (λ z. apart (ap (λ (r : Seen). r.cell) q ∙ z))
      | inr w ↦ t s w
    ]
      where
        apart : x.cell ≡ c → ⊥
        apart z = let bad : true ≡ false = sym (same_cell-itself c) ∙ ap (λ k. same_cell k c) (sym z) ∙ f in cc

pub some_table : (xs : List Seen) → (at : CellId → Option Seen) × IsTable xs at
some_table xs = (seen_of xs, seen_told xs)

-- ## A list that rises by name is its own table

pub rising_table : (xs : List Seen) → IsRising cell_cmp (λ (s : Seen). s.cell) xs → IsTable xs (item_of cell_cmp (λ (s : Seen). s.cell) xs)
rising_table xs rise c = go (item_of cell_cmp (λ (s : Seen). s.cell) xs c) refl
  where
    go : (o : Option Seen) → item_of cell_cmp (λ (s : Seen). s.cell) xs c ≡ o → Tells xs c o
    go (Some s) e = let r = item_of-has cell_cmp cell_cmp_total cell_cmp_exact (λ (s : Seen). s.cell) xs c s e in (r.0, r.1)
    go None e = λ s h z.
        let found = has-item_of cell_cmp cell_cmp_total cell_cmp_exact (λ (s : Seen). s.cell) xs s rise h in
        let bad : Some s ≡ None = sym found ∙ ap (item_of cell_cmp (λ (s : Seen). s.cell) xs) z ∙ e in cc

-- ## Nothing is found

pub nothing : {A B : Type 0} (f : A → List B) (old : List B) (xs : List A) → length xs ≡ 0 → old ≡ old ++ flat_map f xs
nothing f old [] e = sym (append-nil old)
nothing f old (x ∷ xs) e = cc

pub no_row : (set : BTreeSet CellId) (old : List FieldId) (rows : List RowMarks) → btree_set_len set ≡ 0 → old ≡ old ++ flat_map (row_naming (contains cell_cmp set)) rows
no_row set old rows e = sym (append-nil old) ∙ ap (λ l. old ++ l) (sym (none_name rows))
  where
    none_in : (ks : List CellId) → length ks ≡ 0 → (c : CellId) → contains cell_cmp (record { keys = ks }) c ≡ false
    none_in [] e c = refl
    none_in (k ∷ ks) e c = cc

    none_of : (cs : List CellId) → list_any (contains cell_cmp set) cs ≡ false
    none_of [] = refl
    none_of (c ∷ cs) = λ k. none_in set.keys e c k || none_of cs k

    none_name : (rows : List RowMarks) → flat_map (row_naming (contains cell_cmp set)) rows ≡ []
    none_name [] = refl
    none_name (r ∷ rs) = ap (λ b. cond b (row_field r.node ∷ []) [] ++ flat_map (row_naming (contains cell_cmp set)) rs) (none_of (cells_in (spread r.marks))) ∙ none_name rs

-- what others don't show isn't apart
pub none_apart : (old : List CellId) (s : Seen) (o : Option Seen) → o ≡ None → old ≡ old ++ apart_from s o
none_apart old s o e = sym (append-nil old) ∙ ap (λ p. old ++ apart_from s p) (sym e)

pub found_with : {E : Type 0} (xs : List Seen) (at : CellId → Option Seen) → IsTable xs at → (result : Result (Unit {0}) E) (old now : List CellId) (list : List Seen) → OnOk result (now ≡ old ++ flat_map (apart_cell at) list)
    → OnOk result ((f : CellId → Option Seen) × IsTable xs f × (now ≡ old ++ flat_map (apart_cell f) list))
found_with xs at t (Ok v) old now list h = (at, t, h)
found_with xs at t (Err e) old now list h = h
