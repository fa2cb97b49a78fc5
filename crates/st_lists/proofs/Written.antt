-- What is written on one line of a client is read there, and all other lines stay.
use Rattle.std.proofs.Common.{◌≡◌, ◌≢◌, ◌==◌, ℕ, zero, suc, Bool, true, false, cond, List, [], ◌∷◌, ◌++◌, Option, Some, None, option_map, refl, sym, ap, ◌∙◌, arith}
use Rattle.std.specs.List.{find}
use Rattle.std.proofs.lemmas.Bool.Decides.{nat_tests}
use Rattle.st_marks.specs.declared.intents.Intent.{Intent}
use Rattle.st_lists.specs.Lines.{Line, branch_line, branch_of, line_of, on_branch, with_commit_on, with_transaction_on}
use Rattle.st_lists.specs.declared.lists.Branch.{Branch}
use Rattle.st_lists.specs.declared.lists.Client.{Client}
use Rattle.st_lists.specs.declared.lists.Transaction.{Transaction}

abbrev has_number : ℕ → Branch → Bool
has_number k b = b.number == k

module _ (k : ℕ) (f : Branch → Branch) (keeps : (b : Branch) → (f b).number ≡ b.number) where
  written_here : (bs : List Branch) → find (has_number k) (on_branch k f bs) ≡ option_map f (find (has_number k) bs)
  written_here [] = refl
  written_here (b ∷ bs) = go (b.number == k) refl (written_here bs)
    where
      go : (x : Bool) → (b.number == k) ≡ x → find (has_number k) (on_branch k f bs) ≡ option_map f (find (has_number k) bs)
          → find (has_number k) (cond x (f b) b ∷ on_branch k f bs) ≡ option_map f (cond x (Some b) (find (has_number k) bs))
      go true e rest = ap (λ y. cond y (Some (f b)) (find (has_number k) (on_branch k f bs))) (ap (λ n. n == k) (keeps b) ∙ e)
      go false e rest = ap (λ y. cond y (Some b) (find (has_number k) (on_branch k f bs))) e ∙ rest

  others_stay : (j : ℕ) → j ≢ k → (bs : List Branch) → find (has_number j) (on_branch k f bs) ≡ find (has_number j) bs
  others_stay j apart [] = refl
  others_stay j apart (b ∷ bs) = go (b.number == k) refl (others_stay j apart bs)
    where
      not_j : (n : ℕ) → (n == k) ≡ true → (n == j) ≡ false
      not_j n e = let same : n ≡ k = grind (arith, nat_tests) in by (n == j) refl same
        where
          by : (x : Bool) → (n == j) ≡ x → n ≡ k → (n == j) ≡ false
          by false q same = q
          by true q same = let here : n ≡ j = grind (arith, nat_tests) in absurd (apart (sym here ∙ same))

      go : (x : Bool) → (b.number == k) ≡ x → find (has_number j) (on_branch k f bs) ≡ find (has_number j) bs
          → find (has_number j) (cond x (f b) b ∷ on_branch k f bs) ≡ cond (b.number == j) (Some b) (find (has_number j) bs)
      go true e rest =
          ap (λ y. cond y (Some (f b)) (find (has_number j) (on_branch k f bs))) (ap (λ n. n == j) (keeps b) ∙ not_j b.number e) ∙ rest ∙ sym (ap (λ y. cond y (Some b) (find (has_number j) bs)) (not_j b.number e))
      go false e rest = ap (cond (b.number == j) (Some b)) rest

-- the line of a branch after a change of it
changed : (k : ℕ) (f : Branch → Branch) (g : Line → Line) → ((b : Branch) → (f b).number ≡ b.number) → ((b : Branch) → branch_line (f b) ≡ g (branch_line b)) → (bs : List Branch)
    → option_map branch_line (find (has_number k) (on_branch k f bs)) ≡ option_map g (option_map branch_line (find (has_number k) bs))
changed k f g keeps is bs = ap (option_map branch_line) (written_here k f keeps bs) ∙ go (find (has_number k) bs)
  where
    go : (o : Option Branch) → option_map branch_line (option_map f o) ≡ option_map g (option_map branch_line o)
    go None = refl
    go (Some b) = ap Some (is b)

-- ## A commit, and a transaction

pub commit_here : (c : Client) (k : ℕ) (N : Intent) → line_of (with_commit_on c k N) k ≡ option_map (λ (l : Line). record l { own = l.own ++ N ∷ [] }) (line_of c k)
commit_here c zero N = refl
commit_here c (suc k) N = changed (suc k) (λ b. record b { own = b.own ++ N ∷ [] }) (λ l. record l { own = l.own ++ N ∷ [] }) (λ b. refl) (λ b. refl) c.branches

pub commit_elsewhere : (c : Client) (k j : ℕ) (N : Intent) → j ≢ k → line_of (with_commit_on c k N) j ≡ line_of c j
commit_elsewhere c zero zero N apart = absurd (apart refl)
commit_elsewhere c zero (suc j) N apart = refl
commit_elsewhere c (suc k) zero N apart = refl
commit_elsewhere c (suc k) (suc j) N apart = ap (option_map branch_line) (others_stay (suc k) (λ b. record b { own = b.own ++ N ∷ [] }) (λ b. refl) (suc j) apart c.branches)

pub transaction_here : (c : Client) (k : ℕ) (t : Option Transaction) → line_of (with_transaction_on c k t) k ≡ option_map (λ (l : Line). record l { transaction = t }) (line_of c k)
transaction_here c zero t = refl
transaction_here c (suc k) t = changed (suc k) (λ b. record b { transaction = t }) (λ l. record l { transaction = t }) (λ b. refl) (λ b. refl) c.branches

pub transaction_elsewhere : (c : Client) (k j : ℕ) (t : Option Transaction) → j ≢ k → line_of (with_transaction_on c k t) j ≡ line_of c j
transaction_elsewhere c zero zero t apart = absurd (apart refl)
transaction_elsewhere c zero (suc j) t apart = refl
transaction_elsewhere c (suc k) zero t apart = refl
transaction_elsewhere c (suc k) (suc j) t apart = ap (option_map branch_line) (others_stay (suc k) (λ b. record b { transaction = t }) (λ b. refl) (suc j) apart c.branches)
