-- What a client's lines have: they are among all of its commits, and few names are made on them.
use Rattle.std.proofs.Common.{IfSome, List, Some, [], ap, arith, inl, inr, refl, subst, suc, sym, zero, ℕ, ◌++◌, ◌+◌, ◌<◌, ◌∷◌, ◌≡◌, ◌≤◌}
use Rattle.std.proofs.lemmas.List.{append-nil}
use Rattle.std.specs.Option.{option_map_or}
use Rattle.st_ids.specs.Listing.{Has}
use Rattle.st_ids.specs.Root.{opening}
use Rattle.st_ids.specs.declared.names.Rev.{Rev}
use Rattle.st_lists.proofs.Branches.{lines_among}
use Rattle.st_lists.proofs.Names.{fewer_names, names_append}
use Rattle.st_lists.specs.Clients.{next_rev}
use Rattle.st_lists.specs.Lines.{Line, all_commits, branch_line, branch_of, commits_of, edited_on, line_of, main_line, own_of}
use Rattle.st_lists.specs.Log.{commits_in, log_and_waiting, waiting}
use Rattle.st_lists.specs.Names.{names_in, names_made, names_on_all, unsequenced}
use Rattle.st_lists.specs.declared.lists.Branch.{Branch}
use Rattle.st_lists.specs.declared.lists.Client.{Client}
use Rattle.st_lists.specs.declared.lists.Entry.{Entry}
use Rattle.st_lists.specs.declared.lists.Transaction.{Transaction}
use Rattle.st_log_laws.proofs.Shorter.{sublist_itself, sublist_joined, sublist_none}
use Rattle.st_log_laws.specs.Names.{revisions}
use Rattle.st_log_laws.specs.Turns.{IsSublist}
use Rattle.st_marks.proofs.Members.{all-has}
use Rattle.st_script.specs.Header.{HeaderView}
use Rattle.st_world_laws.proofs.Begun.{IsStart}
use Rattle.st_world_laws.proofs.Clients.{among_new, main_among, shown_among, waiting_fewer}
use Rattle.st_world_laws.proofs.Lookup.{IsOpenAt, branch_there, line_there}
use Rattle.st_world_laws.specs.Worlds.{IsBranch, IsClient, IsTransaction, LineFits}
use Rattle.st_world.specs.World.{opening_document}

-- ## Lists of branches

-- the own commits of a branch are among those of all
pub own_among : (bs : List Branch) (b : Branch) → Has bs b → IsSublist b.own (own_of bs)
own_among [] b i = absurd i
own_among (x ∷ bs) b (inl e) =
    subst (λ (y : Branch). IsSublist y.own (x.own ++ own_of bs)) e (subst (λ l. IsSublist l (x.own ++ own_of bs)) (append-nil x.own) (sublist_joined (sublist_itself x.own) (sublist_none (own_of bs))))
own_among (x ∷ bs) b (inr i) = sublist_joined (sublist_none x.own) (own_among bs b i)

-- how many names their own commits make
pub own_names : (bs : List Branch) → names_in (own_of bs) ≤ names_on_all bs
own_names [] = omega arith
own_names (b ∷ bs) = omega (arith, names_append b.own (own_of bs), own_names bs)

-- and with what is edited on one of them
pub own_and_edited : (bs : List Branch) (b : Branch) → Has bs b → names_in (own_of bs) + option_map_or names_made (edited_on (branch_line b)) 0 ≤ names_on_all bs
own_and_edited [] b i = absurd i
own_and_edited (x ∷ bs) b (inl e) =
    let here : option_map_or names_made (edited_on (branch_line b)) 0 ≡ option_map_or names_made (edited_on (branch_line x)) 0 = ap (λ (y : Branch). option_map_or names_made (edited_on (branch_line y)) 0) (sym e) in
    omega (arith, names_append x.own (own_of bs), own_names bs, here)
own_and_edited (x ∷ bs) b (inr i) = omega (arith, names_append x.own (own_of bs), own_and_edited bs b i)

module _ (h : HeaderView) (st : IsStart (opening_document h)) where
  module _ (log : List Entry) (c : Client) (k : IsClient h log c) where
    -- ## Lines are among all commits

    pub branch_among : (b : Branch) → Has c.branches b → IsSublist (commits_of log (branch_line b)) (all_commits log c)
    branch_among b i = lines_among log (main_line c) (log_and_waiting log c) (shown_among h st log c k) [] c.branches (λ p i. absurd i) k.branches.standing b i

    pub line_among : (j : ℕ) (l : Line) → line_of c j ≡ Some l → IsSublist (commits_of log l) (all_commits log c)
    line_among zero l e = let same : main_line c ≡ l = cc in subst (λ (m : Line). IsSublist (commits_of log m) (all_commits log c)) same (main_among h st log c k)
    line_among (suc j) l e =
        let b = line_there c j l e in
        subst (λ (m : Line). IsSublist (commits_of log m) (all_commits log c)) b.2 (branch_among b.0 (branch_there c (suc j) b.0 b.1).0)

    -- the own commits of a branch are
    pub branch_own_among : (b : Branch) → Has c.branches b → IsSublist b.own (all_commits log c)
    branch_own_among b i = sublist_joined (sublist_none (log_and_waiting log c)) (own_among c.branches b i)

    -- a revision that is new to all is new to each line
    pub branch_new : (b : Branch) (r : Rev) → Has c.branches b → (Has (revisions (all_commits log c) ++ opening ∷ []) r → ⊥) → Has (revisions (commits_of log (branch_line b)) ++ opening ∷ []) r → ⊥
    branch_new b r i fresh = among_new h st log c r (commits_of log (branch_line b)) (branch_among b i) fresh

    pub line_new : (j : ℕ) (l : Line) (r : Rev) → line_of c j ≡ Some l → (Has (revisions (all_commits log c) ++ opening ∷ []) r → ⊥) → Has (revisions (commits_of log l) ++ opening ∷ []) r → ⊥
    line_new j l r e fresh = among_new h st log c r (commits_of log l) (line_among j l e) fresh

    -- ## What a branch is

    pub branch_is : (b : Branch) → Has c.branches b → IsBranch h log c b
    branch_is b i = all-has (IsBranch h log c) c.branches b k.branches.each i

    pub branch_at : (j : ℕ) (b : Branch) → branch_of c j ≡ Some b → Has c.branches b × (b.number ≡ j) × IsBranch h log c b
    branch_at j b e = let p = branch_there c j b e in (p.0, p.1, branch_is b p.0)

    pub line_fit : (j : ℕ) (l : Line) → line_of c j ≡ Some l → LineFits h log l
    line_fit zero l e = let same : main_line c ≡ l = cc in subst (LineFits h log) same k.shown_fit
    line_fit (suc j) l e = let b = line_there c j l e in subst (LineFits h log) b.2 (branch_is b.0 (branch_there c (suc j) b.0 b.1).0).fit

    pub line_transaction : (j : ℕ) (l : Line) → line_of c j ≡ Some l → IfSome l.transaction (IsTransaction h log l c)
    line_transaction zero l e = let same : main_line c ≡ l = cc in subst (λ (m : Line). IfSome m.transaction (IsTransaction h log m c)) same k.transaction
    line_transaction (suc j) l e =
        let b = line_there c j l e in
        subst (λ (m : Line). IfSome m.transaction (IsTransaction h log m c)) b.2 (branch_is b.0 (branch_there c (suc j) b.0 b.1).0).transaction

    -- ## Few names

    -- all commits, and what is edited on one line, make few
    pub all_and_edited : (j : ℕ) (l : Line) → line_of c j ≡ Some l → names_in (all_commits log c) + option_map_or names_made (edited_on l) 0 ≤ names_in (commits_in log) + unsequenced c
    all_and_edited j l e =
        omega (arith, names_append (log_and_waiting log c) (own_of c.branches), names_append (commits_in log) (waiting log c), waiting_fewer h st log c k, go j e)
      where
        go : (j : ℕ) → line_of c j ≡ Some l → names_in (own_of c.branches) + (names_in c.pending + option_map_or names_made (edited_on l) 0) ≤ unsequenced c
        go zero e =
            let same : option_map_or names_made (edited_on l) 0 ≡ option_map_or names_made (edited_on (main_line c)) 0 = ap (λ (m : Line). option_map_or names_made (edited_on m) 0) (line_is e) in
            let sum : unsequenced c ≡ (option_map_or names_made (edited_on (main_line c)) 0 + names_in c.pending) + names_on_all c.branches = refl in
            omega (arith, own_names c.branches, same, sum)
          where
            line_is : Some (main_line c) ≡ Some l → l ≡ main_line c
            line_is e = cc
        go (suc j) e =
            let b = line_there c j l e in
            let same : option_map_or names_made (edited_on l) 0 ≡ option_map_or names_made (edited_on (branch_line b.0)) 0 = ap (λ (m : Line). option_map_or names_made (edited_on m) 0) (sym b.2) in
            let sum : unsequenced c ≡ (option_map_or names_made (edited_on (main_line c)) 0 + names_in c.pending) + names_on_all c.branches = refl in
            omega (arith, own_and_edited c.branches b.0 (branch_there c (suc j) b.0 b.1).0, same, sum)

    pub all_few : names_in (all_commits log c) ≤ names_in (commits_in log) + 16384
    all_few = omega (arith, all_and_edited zero (main_line c) refl, k.few_names)

    -- a line leaves room for what is edited on it and one part more
    pub line_room : (j : ℕ) (l : Line) → line_of c j ≡ Some l → names_in (commits_in log) ≤ 131072 → names_in (commits_of log l) + (option_map_or names_made (edited_on l) 0 + 2048) ≤ 200000
    line_room j l e all = omega (arith, all_and_edited j l e, k.few_names, fewer_names (line_among j l e), all)

    -- ## What is open

    -- what a transaction is that is open on some line
    pub open_is : (j : ℕ) (r : Rev) → IsOpenAt c j r → (l : Line) × (t : Transaction) × IsTransaction h log l c t × (t.rev ≡ r)
    open_is zero r x = (main_line c, x.0, subst (λ o. IfSome o (IsTransaction h log (main_line c) c)) x.1 k.transaction, x.2)
    open_is (suc j) r x = (branch_line x.0, x.1, subst (λ o. IfSome o (IsTransaction h log (branch_line x.0) c)) x.4 (branch_is x.0 x.2).transaction, x.5)

    -- its revision is that of no commit, and not the next one
    pub open_new : (j : ℕ) (r : Rev) → IsOpenAt c j r → Has (revisions (all_commits log c) ++ opening ∷ []) r → ⊥
    open_new j r x i = let t = open_is j r x in t.2.new (subst (Has (revisions (all_commits log c) ++ opening ∷ [])) (sym t.3) i)

    pub open_apart : (j : ℕ) → IsOpenAt c j (next_rev c) → ⊥
    open_apart j x =
        let t = open_is j (next_rev c) x in
        let num : t.1.rev.num ≡ c.ids + 1 = ap (λ (r : Rev). r.num) t.3 in
        omega (arith, t.2.num, num)

    -- one that is open on a branch is so on the line of its number
    pub open_on_branch : (b : Branch) (t : Transaction) → Has c.branches b → b.transaction ≡ Some t → (j : ℕ) × IsOpenAt c j t.rev
    open_on_branch b t i e = go b.number refl (branch_is b i).numbered
      where
        go : (n : ℕ) → b.number ≡ n → 0 < n → (j : ℕ) × IsOpenAt c j t.rev
        go zero q low = absurd (omega (arith, low))
        go (suc j) q low = (suc j, (b, t, i, q, e, refl))
