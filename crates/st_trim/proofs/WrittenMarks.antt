-- Marks that are written one after another, with counted cells that aren't written yet.
use Rattle.std.proofs.Common.{◌≡◌, ℕ, zero, suc, ◌+◌, ◌≤◌, ◌<◌, ◌^◌, true, false, cond, List, [], ◌∷◌, ◌++◌, length, map, take, drop, get_or, Some, None, refl, sym, ap, ◌∙◌, arith, append_assoc}
use Rattle.std.proofs.lemmas.List.{append-nil}
use Rattle.st_ids.specs.declared.names.CellId.{CellId}
use Rattle.st_ids.specs.declared.names.NodeId.{NodeId}
use Rattle.st_kind.specs.Named.{Nodes}
use Rattle.st_lemmas.proofs.FirstItems.{take_one}
use Rattle.st_lemmas.proofs.Lists.{length-append, map-append}
use Rattle.st_marks.proofs.MarkLengths.{spread-append}
use Rattle.st_marks.specs.declared.marks.How.TheVariants.{Stay}
use Rattle.st_marks.specs.declared.marks.Mark.{Mark}
use Rattle.st_marks.specs.Row.{CellMark, Counted, Gap, Touch, Make, Fill, counted_cells, merge, skip_one, spread}
use Rattle.st_rows.proofs.MergedMarks.{counted-plus, length-counted}
use Rattle.st_rows.specs.Merged.{count_in}
use Rattle.st_trim.specs.Trimmed.{trim_mark}
use Rattle.st_trim.specs.inside.Cut.{skips}

-- ## Counted cells

-- counted cells, and then others
pub counted-append : (k : ℕ) (xs : List CellMark) → counted_cells k [] ++ xs ≡ counted_cells k xs
counted-append zero xs = refl
counted-append (suc k) xs = ap (λ l. Counted ∷ l) (counted-append k xs)

pub counted_end : (k : ℕ) → merge (counted_cells k []) ≡ skips k
counted_end zero = refl
counted_end (suc zero) = refl
counted_end (suc (suc k)) = ap skip_one (counted_end (suc k))

-- counted cells before a mark that counts none
pub counted_named : (k : ℕ) (m : Mark) (rest : List CellMark) → count_in m ≡ None → merge (counted_cells k (spread (m ∷ []) ++ rest)) ≡ skips k ++ (m ∷ merge rest)
counted_named k (Mark.Skip j) rest e = cc
counted_named k (Mark.Gap c) rest e = go k
  where
    go : (k : ℕ) → merge (counted_cells k (Gap c ∷ rest)) ≡ skips k ++ (Mark.Gap c ∷ merge rest)
    go zero = refl
    go (suc zero) = refl
    go (suc (suc k)) = ap skip_one (go (suc k))
counted_named k (Mark.Touch c n h) rest e = go k
  where
    go : (k : ℕ) → merge (counted_cells k (Touch c n h ∷ rest)) ≡ skips k ++ (Mark.Touch c n h ∷ merge rest)
    go zero = refl
    go (suc zero) = refl
    go (suc (suc k)) = ap skip_one (go (suc k))
counted_named k (Mark.Make c n b) rest e = go k
  where
    go : (k : ℕ) → merge (counted_cells k (Make c n b ∷ rest)) ≡ skips k ++ (Mark.Make c n b ∷ merge rest)
    go zero = refl
    go (suc zero) = refl
    go (suc (suc k)) = ap skip_one (go (suc k))
counted_named k (Mark.Fill c n) rest e = go k
  where
    go : (k : ℕ) → merge (counted_cells k (Fill c n ∷ rest)) ≡ skips k ++ (Mark.Fill c n ∷ merge rest)
    go zero = refl
    go (suc zero) = refl
    go (suc (suc k)) = ap skip_one (go (suc k))

-- ## One mark more

-- a mark that counts cells is counted with those before it
pub push_counted : (out : List Mark) (count left more : ℕ) (m : Mark) (rest : List CellMark) → count_in m ≡ Some more → left ≡ count + more
    → out ++ merge (counted_cells count (spread (m ∷ []) ++ rest)) ≡ out ++ merge (counted_cells left rest)
push_counted out count left more (Mark.Skip j) rest e f =
    let same : j ≡ more = cc in
    ap (λ l. out ++ merge l) (ap (counted_cells count) (counted-append j rest) ∙ sym (counted-plus count j rest) ∙ ap (λ i. counted_cells i rest) (ap (λ i. count + i) same ∙ sym f))
push_counted out count left more (Mark.Gap c) rest e f = cc
push_counted out count left more (Mark.Touch c n h) rest e f = cc
push_counted out count left more (Mark.Make c n b) rest e f = cc
push_counted out count left more (Mark.Fill c n) rest e f = cc

pub push_named : (out new : List Mark) (count : ℕ) (m : Mark) (rest : List CellMark) → count_in m ≡ None → new ≡ (out ++ skips count) ++ m ∷ []
    → out ++ merge (counted_cells count (spread (m ∷ []) ++ rest)) ≡ new ++ merge (counted_cells 0 rest)
push_named out new count m rest e f =
    ap (λ l. out ++ l) (counted_named count m rest e) ∙ sym (append_assoc out (skips count) (m ∷ merge rest))
    ∙ sym (append_assoc (out ++ skips count) (m ∷ []) (merge rest)) ∙ ap (λ l. l ++ merge rest) (sym f)

pub count_length : (m : Mark) (more : ℕ) → count_in m ≡ Some more → length (spread (m ∷ [])) ≡ more
count_length (Mark.Skip j) more e = let same : j ≡ more = cc in let h = length-counted j [] in omega (arith, h, same)
count_length (Mark.Gap c) more e = cc
count_length (Mark.Touch c n h) more e = cc
count_length (Mark.Make c n b) more e = cc
count_length (Mark.Fill c n) more e = cc

-- ## A row, mark by mark

pub trim_counted : (k : Nodes) (j : ℕ) → counted_cells j [] ≡ map (trim_mark k) (counted_cells j [])
trim_counted k zero = refl
trim_counted k (suc j) = ap (λ l. Counted ∷ l) (trim_counted k j)

pub trim_named : (k : Nodes) (c : CellId) (n : NodeId) → k n ≡ true → Touch c n Stay ∷ [] ≡ trim_mark k (Touch c n Stay) ∷ []
trim_named k c n e = ap (λ b. cond b (Touch c n Stay) Counted ∷ []) (sym e)

pub trim_unnamed : (k : Nodes) (c : CellId) (n : NodeId) → k n ≡ false → Counted ∷ [] ≡ trim_mark k (Touch c n Stay) ∷ []
trim_unnamed k c n e = ap (λ b. cond b (Touch c n Stay) Counted ∷ []) (sym e)

prefix_length : (marks : List Mark) (i : ℕ) → length (spread (take i marks)) ≤ length (spread marks)
prefix_length marks i =
    let whole : spread marks ≡ spread (take i marks) ++ spread (drop i marks) = ap spread (parts marks i) ∙ spread-append (take i marks) (drop i marks) in
    let sum : length (spread marks) ≡ length (spread (take i marks)) + length (spread (drop i marks)) = ap length whole ∙ length-append (spread (take i marks)) (spread (drop i marks)) in
    omega (arith, sum)
  where
    parts : (xs : List Mark) (i : ℕ) → xs ≡ take i xs ++ drop i xs
    parts [] zero = refl
    parts [] (suc i) = refl
    parts (x ∷ xs) zero = refl
    parts (x ∷ xs) (suc i) = ap (λ l. x ∷ l) (parts xs i)

map_length : {A B : Type 0} (f : A → B) (xs : List A) → length (map f xs) ≡ length xs
map_length f [] = refl
map_length f (x ∷ xs) = ap suc (map_length f xs)

-- what is written and counted of the first marks of a row
pub record IsWritten (k : Nodes) (marks : List Mark) (i : ℕ) (out : List Mark) (count : ℕ) : Type 0 where
  pub few : count ≤ length (spread (take i marks))
  pub cells : length (spread marks) < 2 ^ 32 → (rest : List CellMark) → merge (map (trim_mark k) (spread (take i marks)) ++ rest) ≡ out ++ merge (counted_cells count rest)

pub written_none : (k : Nodes) (marks : List Mark) → IsWritten k marks 0 [] 0
written_none k marks = record { few = omega arith; cells = λ h rest. refl }

pub written_more : (k : Nodes) (marks : List Mark) (i : ℕ) (d m t : Mark) (out new : List Mark) (count left : ℕ) → i < length marks → get_or marks i d ≡ m
    → spread (t ∷ []) ≡ map (trim_mark k) (spread (m ∷ [])) → left ≤ count + length (spread (t ∷ []))
    → ((rest : List CellMark) → count + length (spread (t ∷ [])) < 2 ^ 32 → out ++ merge (counted_cells count (spread (t ∷ []) ++ rest)) ≡ new ++ merge (counted_cells left rest))
    → IsWritten k marks i out count → IsWritten k marks (i + 1) new left
written_more k marks i d m t out new count left inside at trimmed fewer pushed w = record {
  few = omega (arith, fewer, w.few, one, sum);
  cells = λ short rest.
      ap (λ l. merge (map (trim_mark k) l ++ rest)) next ∙ ap (λ l. merge (l ++ rest)) (map-append (trim_mark k) (spread (take i marks)) (spread (m ∷ [])))
      ∙ ap merge (append_assoc (map (trim_mark k) (spread (take i marks))) (map (trim_mark k) (spread (m ∷ []))) rest)
      ∙ w.cells short (map (trim_mark k) (spread (m ∷ [])) ++ rest)
      ∙ ap (λ l. out ++ merge (counted_cells count (l ++ rest))) (sym trimmed)
      ∙ pushed rest (let whole = prefix_length marks (i + 1) in omega (arith, short, whole, w.few, one, sum));
}
  where
    next : spread (take (i + 1) marks) ≡ spread (take i marks) ++ spread (m ∷ [])
    next = ap spread (take_one marks i d m inside at) ∙ spread-append (take i marks) (m ∷ [])

    one : length (spread (t ∷ [])) ≡ length (spread (m ∷ []))
    one = ap length trimmed ∙ map_length (trim_mark k) (spread (m ∷ []))

    sum : length (spread (take (i + 1) marks)) ≡ length (spread (take i marks)) + length (spread (m ∷ []))
    sum = ap length next ∙ length-append (spread (take i marks)) (spread (m ∷ []))

pub written_all : (k : Nodes) (marks : List Mark) (i : ℕ) (out new : List Mark) (count : ℕ) → take i marks ≡ marks → new ≡ out ++ skips count
    → IsWritten k marks i out count → length (spread marks) < 2 ^ 32 → new ≡ merge (map (trim_mark k) (spread marks))
written_all k marks i out new count all last w short =
    last ∙ ap (λ l. out ++ l) (sym (counted_end count)) ∙ sym (w.cells short []) ∙ ap merge (append-nil (map (trim_mark k) (spread (take i marks)))) ∙ ap (λ l. merge (map (trim_mark k) (spread l))) all
