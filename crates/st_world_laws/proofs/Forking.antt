-- Branches come and go: one is made, is brought up to date, or is dropped.
use Rattle.std.proofs.Common.{Bool, List, None, Some, [], ap, append_assoc, arith, cond, false, inl, inr, length, length-append, refl, subst, suc, sym, take, true, zero, ℕ, ◌++◌, ◌+◌, ◌<◌, ◌∙◌, ◌∷◌, ◌≡◌, ◌≢◌, ◌≤◌, ◌⊎◌}
use Rattle.std.proofs.lemmas.Bool.Decides.{nat_tests}
use Rattle.std.proofs.lemmas.List.{append-nil}
use Rattle.std.proofs.lemmas.List.Elements.{filter-append}
use Rattle.std.specs.List.{AllByRecursion}
use Rattle.std.specs.Option.{option_map_or}
use Rattle.std.specs.Prelude.{not, option_map, ◌==◌}
use Rattle.st_ids.specs.Listing.{AreDistinct, Has}
use Rattle.st_ids.specs.Root.{opening}
use Rattle.st_ids.specs.declared.names.Rev.{Rev}
use Rattle.st_lemmas.proofs.Lists.{AllByRecursion-append}
use Rattle.st_lists.specs.Clients.{joined_of}
use Rattle.st_lists.specs.Lines.{AreStanding, Line, StandsOn, all_commits, branch_line, commits_of, has_children, line_of, main_line, new_branch, own_of, with_branch, without_branch}
use Rattle.st_lists.specs.Log.{commits_in, log_and_waiting}
use Rattle.st_lists.specs.Names.{names_in, names_made, names_on_all, unsequenced}
use Rattle.st_lists.specs.declared.lists.Branch.{Branch}
use Rattle.st_lists.specs.declared.lists.Client.{Client}
use Rattle.st_lists.specs.declared.lists.Entry.{Entry}
use Rattle.st_log_laws.proofs.Shorter.{has_longer, new_shorter, sublist_itself, sublist_joined, sublist_none}
use Rattle.st_log_laws.specs.Names.{HaveNewRevisions, revisions}
use Rattle.st_log_laws.specs.Turns.{FitInTurn, IsSublist}
use Rattle.st_marks.proofs.Members.{all-has, append_right, distinct-append, distinct-filter, has-all, has-any, has-append}
use Rattle.st_world_laws.proofs.Branching.{others, IsSplitAt, branched, is_not, names_around, names_both, own_both, split_at}
use Rattle.st_marks.specs.declared.intents.Intent.{Intent}
use Rattle.st_script.specs.Header.{HeaderView}
use Rattle.st_world_laws.proofs.Among.{branch_is, line_fit}
use Rattle.st_world_laws.proofs.Begun.{IsStart}
use Rattle.st_world_laws.proofs.Beside.{among_same, branch_beside, same_fronts}
use Rattle.st_world_laws.proofs.Clients.{among_new}
use Rattle.st_world_laws.proofs.Lookup.{IsOpenAt, branch_found, branch_there, line_there, own_kept}
use Rattle.st_world_laws.specs.Worlds.{AreBranches, IsBranch, IsClient}
use Rattle.st_world.specs.World.{opening_document}

-- ## Standing

-- one more stands behind the others
standing_more : (log : List Entry) (main : Line) (b : Branch) (before bs : List Branch) → AreStanding log main before bs → StandsOn log main (before ++ bs) b → AreStanding log main before (bs ++ b ∷ [])
standing_more log main b before [] s last = (subst (λ (l : List Branch). StandsOn log main l b) (append-nil before) last, tt)
standing_more log main b before (x ∷ xs) s last =
    (s.0, standing_more log main b (before ++ x ∷ []) xs s.1 (subst (λ (l : List Branch). StandsOn log main l b) (sym (append_assoc before (x ∷ []) xs)) last))

-- where one stands in the list
pub standing_at : (log : List Entry) (main : Line) (before xs ys : List Branch) (b : Branch) → AreStanding log main before (xs ++ b ∷ ys) → AreStanding log main before xs × StandsOn log main (before ++ xs) b
standing_at log main before [] ys b s = (tt, subst (λ (l : List Branch). StandsOn log main l b) (sym (append-nil before)) s.0)
standing_at log main before (x ∷ xs) ys b s =
    let rest = standing_at log main (before ++ x ∷ []) xs ys b s.1 in
    ((s.0, rest.0), subst (λ (l : List Branch). StandsOn log main l b) (append_assoc before (x ∷ []) xs) rest.1)

-- ## Without one

among_others : (n : ℕ) (bs : List Branch) (b : Branch) → Has bs b → b.number ≢ n → Has (others n bs) b
among_others n [] b i apart = absurd i
among_others n (x ∷ xs) b (inl e) apart =
    let test : (x.number == n) ≡ false = is_not x.number n (λ q. apart (ap (λ (y : Branch). y.number) (sym e) ∙ q)) in
    subst (λ t. Has (cond (not t) (x ∷ others n xs) (others n xs)) b) (sym test) (inl e)
among_others n (x ∷ xs) b (inr i) apart = go (x.number == n) (among_others n xs b i apart)
  where
    go : (t : Bool) → Has (others n xs) b → Has (cond (not t) (x ∷ others n xs) (others n xs)) b
    go true j = j
    go false j = inr j

pub of_others : (n : ℕ) (bs : List Branch) (b : Branch) → Has (others n bs) b → Has bs b × (b.number ≢ n)
of_others n [] b i = absurd i
of_others n (x ∷ xs) b i = go (x.number == n) refl (λ j. of_others n xs b j) i
  where
    go : (t : Bool) → (x.number == n) ≡ t → (Has (others n xs) b → Has xs b × (b.number ≢ n)) → Has (cond (not t) (x ∷ others n xs) (others n xs)) b → Has (x ∷ xs) b × (b.number ≢ n)
    go true q rest j = (inr (rest j).0, (rest j).1)
    go false q rest (inl e) = (inl e, λ same. differ (ap (λ (y : Branch). y.number) e ∙ same))
      where
        differ : x.number ≡ n → ⊥
        differ same = grind (arith, nat_tests)
    go false q rest (inr j) = (inr (rest j).0, (rest j).1)

-- the others stand as before, where none stands on it
standing_others : (log : List Entry) (main : Line) (n : ℕ) (before bs : List Branch) → ((b : Branch) → Has bs b → b.parent ≢ n) → AreStanding log main before bs → AreStanding log main (others n before) (others n bs)
standing_others log main n before [] childless s = tt
standing_others log main n before (b ∷ bs) childless s = go (b.number == n) refl (standing_others log main n (before ++ b ∷ []) bs (λ x i. childless x (inr i)) s.1)
  where
    stands : StandsOn log main before b → StandsOn log main (others n before) b
    stands (inl q) = inl q
    stands (inr q) = inr (q.0, among_others n before q.0 q.1 (λ e. childless b (inl refl) (sym q.2 ∙ e)), q.2, q.3)

    go : (t : Bool) → (b.number == n) ≡ t → AreStanding log main (others n (before ++ b ∷ [])) (others n bs) → AreStanding log main (others n before) (cond (not t) (b ∷ others n bs) (others n bs))
    go true q rest = subst (λ (l : List Branch). AreStanding log main l (others n bs))
        (filter-append (λ (x : Branch). not (x.number == n)) before (b ∷ []) ∙ ap (λ t. others n before ++ cond (not t) (b ∷ []) []) q ∙ append-nil (others n before)) rest
    go false q rest = (stands s.0, subst (λ (l : List Branch). AreStanding log main l (others n bs)) (filter-append (λ (x : Branch). not (x.number == n)) before (b ∷ []) ∙ ap (λ t. others n before ++ cond (not t) (b ∷ []) []) q) rest)

-- none of a client's branches stands on one that has no children
pub no_child : (c : Client) (n : ℕ) → has_children c n ≡ false → (b : Branch) → Has c.branches b → b.parent ≢ n
no_child c n none b i e =
    let test : (b.parent == n) ≡ true = same e in
    let some : has_children c n ≡ true = has-any (λ (x : Branch). x.parent == n) c.branches b i test in
    bad (sym none ∙ some)
  where
    same : b.parent ≡ n → (b.parent == n) ≡ true
    same e = grind (arith, nat_tests)

    bad : false ≡ true → ⊥
    bad q = cc

-- what is open on the lines that are left was so before
pub open_left : (c : Client) (n j : ℕ) (s : Rev) → IsOpenAt (without_branch c n) j s → IsOpenAt c j s
open_left c n zero s x = x
open_left c n (suc j) s x = (x.0, x.1, (of_others n c.branches x.0 x.2).0, x.3, x.4, x.5)

-- the lines that are left are as before
pub line_left : (c : Client) (n j : ℕ) (l : Line) → AreDistinct (λ (x : Branch). x.number) c.branches → line_of c j ≡ Some l → j ≢ n → line_of (without_branch c n) j ≡ Some l
line_left c n zero l distinct at apart = at
line_left c n (suc j) l distinct at apart =
    let b = line_there c j l at in
    let p = branch_there c (suc j) b.0 b.1 in
    ap (option_map branch_line) (branch_found (without_branch c n) (suc j) b.0 (distinct-filter (λ (x : Branch). x.number) (λ (x : Branch). not (x.number == n)) c.branches distinct) (among_others n c.branches b.0 p.0 (λ q. apart (sym p.1 ∙ q))) p.1) ∙ ap Some b.2

module _ (h : HeaderView) (st : IsStart (opening_document h)) where
  module _ (log : List Entry) (c : Client) (k : IsClient h log c) where
    -- ## A branch is made

    pub line_within : (j : ℕ) (l : Line) → line_of c j ≡ Some l → l.received ≤ length log
    line_within zero l e = let same : main_line c ≡ l = cc in omega (arith, k.within, ap (λ (m : Line). m.received) same)
    line_within (suc j) l e =
        let b = line_there c j l e in
        omega (arith, (branch_is h st log c k b.0 (branch_there c (suc j) b.0 b.1).0).within, ap (λ (m : Line). m.received) b.2)

    -- no line of a client stands on more entries than the client received
    pub line_received : (j : ℕ) (l : Line) → line_of c j ≡ Some l → l.received ≤ c.received
    line_received zero l e = let same : main_line c ≡ l = cc in omega (arith, ap (λ (m : Line). m.received) same)
    line_received (suc j) l e =
        let b = line_there c j l e in
        omega (arith, (branch_is h st log c k b.0 (branch_there c (suc j) b.0 b.1).0).received, ap (λ (m : Line). m.received) b.2)

    pub client_forks : (j : ℕ) (l : Line) → line_of c j ≡ Some l → length c.branches < 16 → IsClient h log (with_branch c j l)
    client_forks j l at room =
        branched h st log c c.ids (c.forks + 1) (c.branches ++ new ∷ []) k (omega arith) few_now (subst (λ Ns. HaveNewRevisions (opening ∷ []) (log_and_waiting log c ++ Ns)) (sym same_own) k.new)
        (λ N i s. k.ids N (append_right (log_and_waiting log c) (own_of c.branches) N (subst (λ Ns. Has Ns N) same_own i)) s) (λ t q x i. x.new (still t.rev i)) are
      where
        new : Branch
        new = new_branch (c.forks + 1) j l

        d : Client
        d = with_branch c j l

        same_own : own_of (c.branches ++ new ∷ []) ≡ own_of c.branches
        same_own = own_both c.branches (new ∷ []) ∙ append-nil (own_of c.branches)

        still : (r : Rev) → Has (revisions (log_and_waiting log c ++ own_of (c.branches ++ new ∷ [])) ++ opening ∷ []) r → Has (revisions (all_commits log c) ++ opening ∷ []) r
        still r i = subst (λ Ns. Has (revisions (log_and_waiting log c ++ Ns) ++ opening ∷ []) r) same_own i

        few_now : (option_map_or names_made (joined_of c) 0 + names_in c.pending) + names_on_all (c.branches ++ new ∷ []) ≤ 16384
        few_now =
            let one : names_on_all (new ∷ []) ≡ 0 = refl in
            let sum : unsequenced c ≡ (option_map_or names_made (joined_of c) 0 + names_in c.pending) + names_on_all c.branches = refl in
            omega (arith, names_both c.branches (new ∷ []), one, sum, k.few_names)

        is_new : IsBranch h log d new
        is_new = record {
          numbered = omega arith;
          given = omega arith;
          within = line_within j l at;
          received = line_received j l at;
          few = omega arith;
          fit = subst (FitInTurn (opening_document h)) (ap (λ Ns. commits_in (take l.received log) ++ Ns) (sym (append-nil (l.base ++ l.own)))) (line_fit h st log c k j l at);
          transaction = tt;
        }

        stands : (i : ℕ) → line_of c i ≡ Some l → StandsOn log (main_line c) c.branches (new_branch (c.forks + 1) i l)
        stands zero e = let same : l ≡ main_line c = cc in inl (refl, among_same (ap (commits_of log) same))
        stands (suc i) e =
            let b = line_there c i l e in
            let p = branch_there c (suc i) b.0 b.1 in
            inr (b.0, p.0, p.1, among_same (ap (commits_of log) (sym b.2)))

        are : AreBranches h log d
        are = record {
          few = omega (arith, length-append c.branches (new ∷ []), room);
          numbers = distinct-append (λ (b : Branch). b.number) c.branches (new ∷ []) k.branches.numbers (tt, tt) (λ x y i m. apart x y i m);
          each = AllByRecursion-append (IsBranch h log d) c.branches (new ∷ [])
              (has-all (IsBranch h log d) c.branches (λ b i. branch_beside h log log c d b (branch_is h st log c k b i) (omega arith) (omega arith) refl (omega arith) (same_fronts log) (λ t e x q. x.new (still t.rev q)))) (is_new, tt);
          standing = standing_more log (main_line c) new [] c.branches k.branches.standing (stands j at);
          own = subst (AllByRecursion (λ (N : Intent). N.rev.session ≡ c.session)) (sym same_own) k.branches.own;
          transactions = own_kept c d k.branches.transactions k.branches.numbers (λ i s x. was i s x);
        }
          where
            apart : (x y : Branch) → Has c.branches x → Has (new ∷ []) y → y.number ≢ x.number
            apart x y i (inl e) q = omega (arith, (branch_is h st log c k x i).given, ap (λ (b : Branch). b.number) e, q)
            apart x y i (inr m) q = absurd m

            was : (i : ℕ) (s : Rev) → IsOpenAt d i s → IsOpenAt c i s
            was zero s x = x
            was (suc i) s x = go (has-append c.branches (new ∷ []) x.0 x.2)
              where
                go : Has c.branches x.0 ⊎ Has (new ∷ []) x.0 → IsOpenAt c (suc i) s
                go (inl m) = (x.0, x.1, m, x.3, x.4, x.5)
                go (inr (inl e)) = absurd (bad (ap (λ (b : Branch). b.transaction) e ∙ x.4))
                  where
                    bad : None ≡ Some x.1 → ⊥
                    bad q = cc
                go (inr (inr m)) = absurd m

    -- ## A branch is dropped

    pub client_drops : (n : ℕ) (b : Branch) → Has c.branches b → b.number ≡ n → has_children c n ≡ false → IsClient h log (without_branch c n)
    client_drops n b i e childless =
        branched h st log c c.ids c.forks (others n c.branches) k (omega arith) few_now (new_shorter (opening ∷ []) (all_commits log d) (all_commits log c) fewer k.new)
        (λ N j s. k.ids N (append_right (log_and_waiting log c) (own_of c.branches) N (has_longer fewer_own N j)) s) (λ t q x j. still t.rev x.new j) are
      where
        d : Client
        d = without_branch c n

        p : IsSplitAt n b c.branches
        p = split_at n b c.branches k.branches.numbers i e

        fewer_own : IsSublist (own_of (others n c.branches)) (own_of c.branches)
        fewer_own = subst (λ Ns. IsSublist Ns (own_of c.branches)) (sym (ap own_of p.without ∙ own_both p.before p.after)) (subst (IsSublist (own_of p.before ++ own_of p.after)) (sym (ap own_of p.is ∙ own_both p.before (b ∷ p.after)))
            (sublist_joined (sublist_itself (own_of p.before)) (sublist_joined (sublist_none b.own) (sublist_itself (own_of p.after)))))

        fewer : IsSublist (all_commits log d) (all_commits log c)
        fewer = sublist_joined (sublist_itself (log_and_waiting log c)) fewer_own

        still : (r : Rev) → (Has (revisions (all_commits log c) ++ opening ∷ []) r → ⊥) → Has (revisions (all_commits log d) ++ opening ∷ []) r → ⊥
        still r fresh j = among_new h st log c r (all_commits log d) fewer fresh j

        few_now : (option_map_or names_made (joined_of c) 0 + names_in c.pending) + names_on_all (others n c.branches) ≤ 16384
        few_now =
            let was = ap names_on_all p.is ∙ names_around p.before p.after b in
            let is = ap names_on_all p.without ∙ names_both p.before p.after in
            let sum : unsequenced c ≡ (option_map_or names_made (joined_of c) 0 + names_in c.pending) + names_on_all c.branches = refl in
            omega (arith, was, is, sum, k.few_names)

        are : AreBranches h log d
        are = record {
          few = omega (arith, ap length p.is, length-append p.before (b ∷ p.after), ap length p.without, length-append p.before p.after, k.branches.few);
          numbers = distinct-filter (λ (x : Branch). x.number) (λ (x : Branch). not (x.number == n)) c.branches k.branches.numbers;
          each = has-all (IsBranch h log d) (others n c.branches)
              (λ x j. branch_beside h log log c d x (branch_is h st log c k x (of_others n c.branches x j).0) (omega arith) (omega arith) refl (omega arith) (same_fronts log) (λ t q y m. still t.rev y.new m));
          standing = standing_others log (main_line c) n [] c.branches (no_child c n childless) k.branches.standing;
          own = has-all (λ (N : Intent). N.rev.session ≡ c.session) (own_of (others n c.branches)) (λ N j. all-has (λ (M : Intent). M.rev.session ≡ c.session) (own_of c.branches) N k.branches.own (has_longer fewer_own N j));
          transactions = own_kept c d k.branches.transactions k.branches.numbers (λ j s x. open_left c n j s x);
        }
