-- Branches: their lines are among what a client made, and so is what its parent has with its own commits behind.
use Rattle.std.proofs.Common.{◌≡◌, ℕ, List, [], ◌∷◌, ◌++◌, refl, sym, ap, ◌∙◌, subst, append_assoc, ◌⊎◌, inl, inr}
use Rattle.std.specs.List.{flat_map}
use Rattle.std.proofs.lemmas.List.{append-nil}
use Rattle.st_ids.specs.Listing.{Has}
use Rattle.st_marks.specs.declared.intents.Intent.{Intent}
use Rattle.st_marks.proofs.Members.{has-append}
use Rattle.st_log_laws.specs.Turns.{IsSublist}
use Rattle.st_log_laws.proofs.Shorter.{sublist_itself, sublist_joined, sublist_none, sublist_on}
use Rattle.st_lists.specs.Lines.{AreStanding, Line, StandsOn, base_of, branch_line, commits_of, own_of}
use Rattle.st_lists.specs.declared.lists.Branch.{Branch}
use Rattle.st_lists.specs.declared.lists.Entry.{Entry}

-- a front of a list is a sublist
front_of : (As Bs : List Intent) → IsSublist As (As ++ Bs)
front_of As Bs = subst (λ l. IsSublist l (As ++ Bs)) (append-nil As) (sublist_joined (sublist_itself As) (sublist_none Bs))

-- the commits of a line are what it stands on, and then its own
pub line_parts : (log : List Entry) (l : Line) → commits_of log l ≡ base_of log l ++ l.own
line_parts log l = sym (append_assoc _ l.base l.own)

own_more : (bs : List Branch) (b : Branch) → own_of (bs ++ b ∷ []) ≡ own_of bs ++ b.own
own_more [] b = append-nil b.own
own_more (c ∷ bs) b = ap (λ l. c.own ++ l) (own_more bs b) ∙ sym (append_assoc c.own (own_of bs) b.own)

module _ (log : List Entry) (main : Line) (Ms : List Intent) (whole : IsSublist (commits_of log main) Ms) where
  -- the lines of these branches are among the commits of the main one and their own
  abbrev AreAmong : List Branch → Type 0
  AreAmong before = (p : Branch) → Has before p → IsSublist (commits_of log (branch_line p)) (Ms ++ own_of before)

  -- what a branch stands on is
  ground : (before : List Branch) (b : Branch) → AreAmong before → StandsOn log main before b → IsSublist (base_of log (branch_line b)) (Ms ++ own_of before)
  ground before b among (inl s) = sublist_on s.1 (sublist_on whole (front_of Ms (own_of before)))
  ground before b among (inr s) = sublist_on s.3 (among s.0 s.1)

  one_more : (before : List Branch) (b : Branch) → AreAmong before → StandsOn log main before b → AreAmong (before ++ b ∷ [])
  one_more before b among s p i = go (has-append before (b ∷ []) p i)
    where
      longer : Ms ++ own_of (before ++ b ∷ []) ≡ (Ms ++ own_of before) ++ b.own
      longer = ap (λ l. Ms ++ l) (own_more before b) ∙ sym (append_assoc Ms (own_of before) b.own)

      mine : IsSublist (commits_of log (branch_line b)) (Ms ++ own_of (before ++ b ∷ []))
      mine = subst (IsSublist (commits_of log (branch_line b))) (sym longer) (subst (λ l. IsSublist l ((Ms ++ own_of before) ++ b.own)) (sym (line_parts log (branch_line b))) (sublist_joined (ground before b among s) (sublist_itself b.own)))

      go : Has before p ⊎ Has (b ∷ []) p → IsSublist (commits_of log (branch_line p)) (Ms ++ own_of (before ++ b ∷ []))
      go (inl j) = subst (IsSublist (commits_of log (branch_line p))) (sym longer) (sublist_on (among p j) (front_of (Ms ++ own_of before) b.own))
      go (inr (inl e)) = subst (λ x. IsSublist (commits_of log (branch_line x)) (Ms ++ own_of (before ++ b ∷ []))) e mine
      go (inr (inr j)) = absurd j

  -- and so all are
  pub lines_among : (before bs : List Branch) → AreAmong before → AreStanding log main before bs → AreAmong (before ++ bs)
  lines_among before [] among s = λ p i. subst (λ (l : List Branch). IsSublist (commits_of log (branch_line p)) (Ms ++ own_of l)) (sym (append-nil before)) (among p (subst (λ (l : List Branch). Has l p) (append-nil before) i))
  lines_among before (b ∷ bs) among s =
      let rest = lines_among (before ++ b ∷ []) bs (one_more before b among s.0) s.1 in
      λ p i. subst (λ (l : List Branch). IsSublist (commits_of log (branch_line p)) (Ms ++ own_of l)) (append_assoc before (b ∷ []) bs) (rest p (subst (λ (l : List Branch). Has l p) (sym (append_assoc before (b ∷ []) bs)) i))
