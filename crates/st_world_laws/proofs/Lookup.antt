-- A client's lines by their numbers, and which transactions are open on them.
use Rattle.std.proofs.Common.{List, None, Option, Some, ap, arith, inl, inr, refl, subst, suc, sym, true, zero, ℕ, ◌∙◌, ◌≡◌, ◌⊎◌}
use Rattle.std.proofs.lemmas.Bool.Decides.{nat_tests}
use Rattle.std.specs.Prelude.{option_map, ◌==◌}
use Rattle.st_ids.specs.Listing.{AreDistinct, Has}
use Rattle.st_ids.specs.declared.names.Rev.{Rev}
use Rattle.st_lists.specs.Lines.{HaveOwnTransactions, Line, branch_line, branch_of, line_of, main_line}
use Rattle.st_lists.specs.declared.lists.Branch.{Branch}
use Rattle.st_lists.specs.declared.lists.Client.{Client}
use Rattle.st_lists.specs.declared.lists.Transaction.{Transaction}
use Rattle.st_marks.proofs.Members.{first-distinct, first-has}

-- ## Lines

-- the branch of a number is one of them
pub branch_there : (c : Client) (k : ℕ) (b : Branch) → branch_of c k ≡ Some b → Has c.branches b × (b.number ≡ k)
branch_there c k b e =
    let p = first-has (λ (x : Branch). x.number == k) c.branches b e in
    let same : (b.number == k) ≡ true = p.1 in
    let number : b.number ≡ k = grind (arith, nat_tests) in
    (p.0, number)

-- the line of a number other than 0 is that of a branch
pub line_there : (c : Client) (j : ℕ) (l : Line) → line_of c (suc j) ≡ Some l → (b : Branch) × (branch_of c (suc j) ≡ Some b) × (branch_line b ≡ l)
line_there c j l e = go (branch_of c (suc j)) refl e
  where
    go : (o : Option Branch) → branch_of c (suc j) ≡ o → option_map branch_line o ≡ Some l → (b : Branch) × (branch_of c (suc j) ≡ Some b) × (branch_line b ≡ l)
    go None q e = absurd (some_none e)
      where
        some_none : None ≡ Some l → ⊥
        some_none e = cc
    go (Some b) q e = (b, q, some_same e)
      where
        some_same : Some (branch_line b) ≡ Some l → branch_line b ≡ l
        some_same e = cc

-- a branch is found by its number
pub branch_found : (c : Client) (j : ℕ) (b : Branch) → AreDistinct (λ (x : Branch). x.number) c.branches → Has c.branches b → b.number ≡ j → branch_of c j ≡ Some b
branch_found c j b distinct i e =
    let test : (b.number == j) ≡ true = grind (arith, nat_tests) in
    first-distinct (λ (x : Branch). x.number) c.branches (λ (x : Branch). x.number == j) b distinct i test (λ y q. same y q)
  where
    same : (y : Branch) → (y.number == j) ≡ true → y.number ≡ b.number
    same y q = let there : y.number ≡ j = grind (arith, nat_tests) in there ∙ sym e

-- ## Transactions

-- a transaction of this revision is open on the line of a number
abbrev pub IsOpenAt : Client → ℕ → Rev → Type 0
IsOpenAt c zero r = (t : Transaction) × (c.transaction ≡ Some t) × (t.rev ≡ r)
IsOpenAt c (suc j) r = (b : Branch) × (t : Transaction) × Has c.branches b × (b.number ≡ suc j) × (b.transaction ≡ Some t) × (t.rev ≡ r)

pub open_line : (c : Client) (j : ℕ) (l : Line) (t : Transaction) → line_of c j ≡ Some l → l.transaction ≡ Some t → IsOpenAt c j t.rev
open_line c zero l t e is = let same : main_line c ≡ l = cc in (t, ap (λ (m : Line). m.transaction) same ∙ is, refl)
open_line c (suc j) l t e is =
    let b = line_there c j l e in
    let p = branch_there c (suc j) b.0 b.1 in
    (b.0, t, p.0, p.1, ap (λ (m : Line). m.transaction) b.2 ∙ is, refl)

pub line_open : (c : Client) (j : ℕ) (r : Rev) → AreDistinct (λ (x : Branch). x.number) c.branches → IsOpenAt c j r → (l : Line) × (t : Transaction) × (line_of c j ≡ Some l) × (l.transaction ≡ Some t) × (t.rev ≡ r)
line_open c zero r distinct x = (main_line c, x.0, refl, x.1, x.2)
line_open c (suc j) r distinct x = (branch_line x.0, x.1, ap (option_map branch_line) (branch_found c (suc j) x.0 distinct x.2 x.3), x.4, x.5)

pub one_place : (c : Client) (i j : ℕ) (r : Rev) → HaveOwnTransactions c → AreDistinct (λ (x : Branch). x.number) c.branches → IsOpenAt c i r → IsOpenAt c j r → i ≡ j
one_place c i j r own distinct x y =
    let a = line_open c i r distinct x in
    let b = line_open c j r distinct y in
    own i j a.0 b.0 a.1 b.1 a.2 b.2 a.3 b.3 (a.4 ∙ sym b.4)

pub own_by_places : (c : Client) → ((i j : ℕ) (r : Rev) → IsOpenAt c i r → IsOpenAt c j r → i ≡ j) → HaveOwnTransactions c
own_by_places c one i j l m t u e f is_t is_u same = one i j u.rev (subst (IsOpenAt c i) same (open_line c i l t e is_t)) (open_line c j m u f is_u)

-- what is open after a step was so before, or it is one more, of another revision than all of them
pub own_with : (c c' : Client) (k : ℕ) (r : Rev) → HaveOwnTransactions c → AreDistinct (λ (x : Branch). x.number) c.branches
    → ((j : ℕ) (s : Rev) → IsOpenAt c' j s → IsOpenAt c j s ⊎ ((j ≡ k) × (s ≡ r))) → ((j : ℕ) → IsOpenAt c j r → ⊥) → HaveOwnTransactions c'
own_with c c' k r own distinct was none = own_by_places c' (λ i j s x y. go i j s (was i s x) (was j s y))
  where
    go : (i j : ℕ) (s : Rev) → IsOpenAt c i s ⊎ ((i ≡ k) × (s ≡ r)) → IsOpenAt c j s ⊎ ((j ≡ k) × (s ≡ r)) → i ≡ j
    go i j s (inl x) (inl y) = one_place c i j s own distinct x y
    go i j s (inl x) (inr q) = absurd (none i (subst (IsOpenAt c i) q.1 x))
    go i j s (inr q) (inl y) = absurd (none j (subst (IsOpenAt c j) q.1 y))
    go i j s (inr p) (inr q) = p.0 ∙ sym q.0

pub own_kept : (c c' : Client) → HaveOwnTransactions c → AreDistinct (λ (x : Branch). x.number) c.branches → ((j : ℕ) (s : Rev) → IsOpenAt c' j s → IsOpenAt c j s) → HaveOwnTransactions c'
own_kept c c' own distinct was = own_by_places c' (λ i j s x y. one_place c i j s own distinct (was i s x) (was j s y))

-- a step of the main line keeps those of branches
branches_open : (c c' : Client) (j : ℕ) (s : Rev) → c'.branches ≡ c.branches → IsOpenAt c' (suc j) s → IsOpenAt c (suc j) s
branches_open c c' j s same x = (x.0, x.1, subst (λ (bs : List Branch). Has bs x.0) same x.2, x.3, x.4, x.5)

pub own_beside : (c c' : Client) → HaveOwnTransactions c → AreDistinct (λ (x : Branch). x.number) c.branches → c'.branches ≡ c.branches → ((s : Rev) → IsOpenAt c' 0 s → IsOpenAt c 0 s) → HaveOwnTransactions c'
own_beside c c' own distinct same main = own_kept c c' own distinct (λ j s x. go j s x)
  where
    go : (j : ℕ) (s : Rev) → IsOpenAt c' j s → IsOpenAt c j s
    go zero s x = main s x
    go (suc j) s x = branches_open c c' j s same x

pub own_same : (c c' : Client) → HaveOwnTransactions c → AreDistinct (λ (x : Branch). x.number) c.branches → c'.branches ≡ c.branches → c'.transaction ≡ c.transaction → HaveOwnTransactions c'
own_same c c' own distinct same main = own_beside c c' own distinct same (λ s x. (x.0, sym main ∙ x.1, x.2))

pub own_gone : (c c' : Client) → HaveOwnTransactions c → AreDistinct (λ (x : Branch). x.number) c.branches → c'.branches ≡ c.branches → c'.transaction ≡ None → HaveOwnTransactions c'
own_gone c c' own distinct same none = own_beside c c' own distinct same (λ s x. absurd (bad x.0 x.1))
  where
    bad : (t : Transaction) → c'.transaction ≡ Some t → ⊥
    bad t is = cc
