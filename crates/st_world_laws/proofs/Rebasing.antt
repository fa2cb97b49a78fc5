-- A branch and its parent: the branch is brought up to date with it.
use Rattle.std.proofs.Common.{List, None, Some, [], ap, append_assoc, arith, inl, inr, map, refl, subst, suc, sym, take, zero, ℕ, ◌++◌, ◌+◌, ◌<◌, ◌∙◌, ◌∷◌, ◌≡◌, ◌≤◌, ◌⊎◌}
use Rattle.std.proofs.lemmas.List.{append-nil}
use Rattle.std.specs.List.{AllByRecursion}
use Rattle.std.specs.Option.{option_map_or}
use Rattle.std.specs.Prelude.{if◌then◌else◌, option_map, ◌==◌}
use Rattle.st_ids.specs.Listing.{Has}
use Rattle.st_ids.specs.Root.{opening}
use Rattle.st_ids.specs.declared.names.Rev.{Rev}
use Rattle.st_lists.proofs.Branches.{line_parts, lines_among}
use Rattle.st_lists.proofs.Names.{fewer_names}
use Rattle.st_lists.specs.Clients.{joined_of}
use Rattle.st_lists.specs.Lines.{AreStanding, HaveOwnTransactions, Line, StandsOn, all_commits, base_of, branch_line, commits_of, line_of, main_line, on_branch, own_of, with_base}
use Rattle.st_lists.specs.Log.{commits_in, log_and_waiting}
use Rattle.st_lists.specs.Names.{names_in, names_made, names_on_all, unsequenced}
use Rattle.st_lists.specs.declared.lists.Branch.{Branch}
use Rattle.st_lists.specs.declared.lists.Client.{Client}
use Rattle.st_lists.specs.declared.lists.Entry.{Entry}
use Rattle.st_lists.specs.declared.lists.Transaction.{Transaction}
use Rattle.st_log_laws.proofs.Beside.{all_fit_later}
use Rattle.st_log_laws.proofs.Shorter.{new_shorter, sublist_itself, sublist_joined, sublist_none, sublist_on}
use Rattle.st_log_laws.specs.Names.{HaveNewRevisions, revisions}
use Rattle.st_log_laws.specs.Turns.{FitInTurn, IsSublist}
use Rattle.st_marks.proofs.Members.{append_left, append_right, distinct-has, map-has}
use Rattle.st_marks.specs.declared.intents.Intent.{Intent}
use Rattle.st_script.specs.Header.{HeaderView}
use Rattle.st_world_laws.proofs.Among.{all_few, branch_is, line_fit}
use Rattle.st_world_laws.proofs.Begun.{IsStart}
use Rattle.st_world_laws.proofs.Beside.{among_same, branch_beside, same_fronts}
use Rattle.st_world_laws.proofs.Branching.{IsSplitAt, branched, branches_changed, by_number, names_unchanged, open_changed, own_both, own_unchanged, split_at, stand_changed}
use Rattle.st_world_laws.proofs.Clients.{none_open, shown_among}
use Rattle.st_world_laws.proofs.Counting.{room_left}
use Rattle.st_world_laws.proofs.Forking.{line_received, line_within, standing_at}
use Rattle.st_world_laws.proofs.Lookup.{IsOpenAt, branch_found, own_kept}
use Rattle.st_world_laws.specs.Worlds.{IsBranch, IsClient}
use Rattle.st_world.specs.World.{opening_document}

same_line : (l m : Line) → Some l ≡ Some m → l ≡ m
same_line l m e = cc

module _ (h : HeaderView) (st : IsStart (opening_document h)) (log : List Entry) (c : Client) (k : IsClient h log c) where
  -- the line of a branch's number is its line
  pub line_of_branch : (b : Branch) → Has c.branches b → line_of c b.number ≡ Some (branch_line b)
  line_of_branch b i = go b.number refl (branch_is h st log c k b i).numbered
    where
      go : (m : ℕ) → b.number ≡ m → 0 < m → line_of c m ≡ Some (branch_line b)
      go zero e low = absurd (omega (arith, low))
      go (suc m) e low = ap (option_map branch_line) (branch_found c (suc m) b k.branches.numbers i e)

  module _ (n : ℕ) (b : Branch) (parent : Line) (i : Has c.branches b) (e : b.number ≡ n) (at : line_of c b.parent ≡ Some parent) where
    p : IsSplitAt n b c.branches
    p = split_at n b c.branches k.branches.numbers i e

    stands : AreStanding log (main_line c) [] p.before × StandsOn log (main_line c) p.before b
    stands = standing_at log (main_line c) [] p.before p.after b (subst (AreStanding log (main_line c) []) p.is k.branches.standing)

    -- a branch of the parent's number has the parent's line
    parent_line : (q : Branch) → Has c.branches q → q.number ≡ b.parent → branch_line q ≡ parent
    parent_line q j same = same_line (branch_line q) parent (sym (line_of_branch q j) ∙ ap (line_of c) same ∙ at)

    parent_main : b.parent ≡ 0 → main_line c ≡ parent
    parent_main zero_is = same_line (main_line c) parent (subst (λ m. line_of c m ≡ Some parent) zero_is at)

    -- what the branch stands on is among the parent's commits, and these are among those that come before its own
    parent_among : IsSublist (commits_of log parent) (log_and_waiting log c ++ own_of p.before) × IsSublist (base_of log (branch_line b)) (commits_of log parent)
    parent_among = go stands.1
      where
        longer : IsSublist (log_and_waiting log c) (log_and_waiting log c ++ own_of p.before)
        longer = subst (λ Ns. IsSublist Ns (log_and_waiting log c ++ own_of p.before)) (append-nil (log_and_waiting log c)) (sublist_joined (sublist_itself (log_and_waiting log c)) (sublist_none (own_of p.before)))

        go : StandsOn log (main_line c) p.before b → IsSublist (commits_of log parent) (log_and_waiting log c ++ own_of p.before) × IsSublist (base_of log (branch_line b)) (commits_of log parent)
        go (inl s) =
            let same = parent_main s.0 in (
              subst (λ (m : Line). IsSublist (commits_of log m) (log_and_waiting log c ++ own_of p.before)) same (sublist_on (shown_among h st log c k) longer),
              subst (λ (m : Line). IsSublist (base_of log (branch_line b)) (commits_of log m)) same s.1,
            )
        go (inr s) =
            let there : Has c.branches s.0 = subst (λ (bs : List Branch). Has bs s.0) (sym p.is) (append_left p.before (b ∷ p.after) s.0 s.1) in
            let same = parent_line s.0 there s.2 in (
              subst (λ (m : Line). IsSublist (commits_of log m) (log_and_waiting log c ++ own_of p.before)) same (lines_among log (main_line c) (log_and_waiting log c) (shown_among h st log c k) [] p.before (λ q j. absurd j) stands.0 s.0 s.1),
              subst (λ (m : Line). IsSublist (base_of log (branch_line b)) (commits_of log m)) same s.3,
            )

    -- the parent's commits and then its own are among all
    pub own_behind_parent : IsSublist (commits_of log parent ++ b.own) (all_commits log c)
    own_behind_parent = subst (IsSublist (commits_of log parent ++ b.own)) all (sublist_joined parent_among.0 own_front)
      where
        own_front : IsSublist b.own (b.own ++ own_of p.after)
        own_front = subst (λ Ns. IsSublist Ns (b.own ++ own_of p.after)) (append-nil b.own) (sublist_joined (sublist_itself b.own) (sublist_none (own_of p.after)))

        all : (log_and_waiting log c ++ own_of p.before) ++ (b.own ++ own_of p.after) ≡ all_commits log c
        all = append_assoc (log_and_waiting log c) (own_of p.before) (b.own ++ own_of p.after) ∙ ap (λ Ns. log_and_waiting log c ++ Ns) (sym (ap own_of p.is ∙ own_both p.before (b ∷ p.after)))

    -- and fit in this order
    pub own_fits_behind_parent : names_in (commits_in log) ≤ 131072 → FitInTurn (opening_document h) (commits_of log parent ++ b.own)
    own_fits_behind_parent all =
        all_fit_later (opening ∷ []) (opening_document h) (base_of log (branch_line b)) (commits_of log parent) b.own st.sound st.made parent_among.1
        (subst (FitInTurn (opening_document h)) (line_parts log (branch_line b)) (branch_is h st log c k b i).fit) (line_fit h st log c k b.parent parent at)
        (new_shorter (opening ∷ []) (commits_of log parent ++ b.own) (all_commits log c) own_behind_parent k.new)
        (room_left (opening_document h) (commits_of log parent ++ b.own) st (omega (arith, fewer_names own_behind_parent, all_few h st log c k, all)))

    -- ## Brought up to date

    pub client_rebases : b.transaction ≡ None → names_in (commits_in log) ≤ 131072 → IsClient h log (with_base c n parent)
    client_rebases none all =
        branched h st log c c.ids c.forks bs k (omega arith) few_now (subst (λ Ns. HaveNewRevisions (opening ∷ []) (log_and_waiting log c ++ Ns)) (sym same_own) k.new)
        (λ N s q. k.ids N (append_right (log_and_waiting log c) (own_of c.branches) N (subst (λ Ns. Has Ns N) same_own s)) q) (λ t q x j. x.new (still t.rev j))
        (branches_changed h st log c c.ids n g (λ x. refl) k.branches here there (stand_changed h st log c c.ids n g (λ x. refl) grown on k.branches.standing) (subst (AllByRecursion (λ (N : Intent). N.rev.session ≡ c.session)) (sym same_own) k.branches.own) apart)
      where
        g : Branch → Branch
        g x = record x { received = parent.received; base = parent.base ++ parent.own }

        bs : List Branch
        bs = on_branch n g c.branches

        d : Client
        d = with_base c n parent

        same_own : own_of bs ≡ own_of c.branches
        same_own = own_unchanged n g (λ x. refl) c.branches

        still : (r : Rev) → Has (revisions (log_and_waiting log c ++ own_of bs) ++ opening ∷ []) r → Has (revisions (all_commits log c) ++ opening ∷ []) r
        still r j = subst (λ Ns. Has (revisions (log_and_waiting log c ++ Ns) ++ opening ∷ []) r) same_own j

        few_now : (option_map_or names_made (joined_of c) 0 + names_in c.pending) + names_on_all bs ≤ 16384
        few_now =
            let sum : unsequenced c ≡ (option_map_or names_made (joined_of c) 0 + names_in c.pending) + names_on_all c.branches = refl in
            omega (arith, names_unchanged n g (λ x. refl) c.branches, sum, k.few_names)

        is_branch : IsBranch h log c b
        is_branch = branch_is h st log c k b i

        this : (x : Branch) → Has c.branches x → x.number ≡ n → b ≡ x
        this x j q = distinct-has (λ (y : Branch). y.number) c.branches b x k.branches.numbers i j (e ∙ sym q)

        here_b : IsBranch h log d (g b)
        here_b = record {
          numbered = is_branch.numbered;
          given = is_branch.given;
          within = line_within h st log c k b.parent parent at;
          received = line_received h st log c k b.parent parent at;
          few = is_branch.few;
          fit = subst (FitInTurn (opening_document h)) (append_assoc (commits_in (take parent.received log)) (parent.base ++ parent.own) b.own) (own_fits_behind_parent all);
          transaction = none_open b.transaction _ none;
        }

        here : (x : Branch) → Has c.branches x → x.number ≡ n → IsBranch h log d (g x)
        here x j q = subst (λ y. IsBranch h log d (g y)) (this x j q) here_b

        there : (x : Branch) → Has c.branches x → IsBranch h log d x
        there x j = branch_beside h log log c d x (branch_is h st log c k x j) (omega arith) (omega arith) refl (omega arith) (same_fronts log) (λ t q y r. y.new (still t.rev r))

        grown_b : IsSublist (commits_of log (branch_line b)) (commits_of log (branch_line (g b)))
        grown_b = subst (λ Ns. IsSublist Ns (commits_of log (branch_line (g b)))) (sym (line_parts log (branch_line b)))
            (subst (IsSublist (base_of log (branch_line b) ++ b.own)) (append_assoc (commits_in (take parent.received log)) (parent.base ++ parent.own) b.own) (sublist_joined parent_among.1 (sublist_itself b.own)))

        grown : (x : Branch) → Has c.branches x → x.number ≡ n → IsSublist (commits_of log (branch_line x)) (commits_of log (branch_line (g x)))
        grown x j q = subst (λ (y : Branch). IsSublist (commits_of log (branch_line y)) (commits_of log (branch_line (g y)))) (this x j q) grown_b

        f : Branch → Branch
        f x = if x.number == n then g x else x

        on_b : (before : List Branch) → ((q : Branch) → Has before q → Has c.branches q) → StandsOn log (main_line c) before b → StandsOn log (main_line c) (map f before) (g b)
        on_b before within (inl s) = inl (s.0, among_same (ap (commits_of log) (sym (parent_main s.0))))
        on_b before within (inr s) =
            let there = within s.0 s.1 in
            let same = parent_line s.0 there s.2 in
            inr (
              f s.0,
              map-has f before s.0 s.1,
              by_number (λ y. y.number ≡ b.parent) n g s.0 (λ q. s.2) (λ q. s.2),
              subst (λ (m : Line). IsSublist (commits_of log m) (commits_of log (branch_line (f s.0)))) same
                  (by_number (λ y. IsSublist (commits_of log (branch_line s.0)) (commits_of log (branch_line y))) n g s.0 (λ q. grown s.0 there q) (λ q. sublist_itself (commits_of log (branch_line s.0)))),
            )

        on : (before : List Branch) (x : Branch) → Has c.branches x → x.number ≡ n → ((q : Branch) → Has before q → Has c.branches q) → StandsOn log (main_line c) before x → StandsOn log (main_line c) (map f before) x
            → StandsOn log (main_line c) (map f before) (g x)
        on before x j q within s r = subst (λ y. StandsOn log (main_line c) (map f before) (g y)) (this x j q) (on_b before within (subst (StandsOn log (main_line c) before) (sym (this x j q)) s))

        apart : HaveOwnTransactions d
        apart = own_kept c d k.branches.transactions k.branches.numbers (λ j s x. was j s x)
          where
            was : (j : ℕ) (s : Rev) → IsOpenAt d j s → IsOpenAt c j s
            was zero s x = x
            was (suc m) s x = let y = open_changed c d n g m s (λ y. refl) refl x in (y.0, y.1, y.2, y.3, either y.0 y.1 y.4, y.5)
              where
                either : (y : Branch) (t : Transaction) → ((y.number ≡ n) × (y.transaction ≡ Some t)) ⊎ (y.transaction ≡ Some t) → y.transaction ≡ Some t
                either y t (inl q) = q.1
                either y t (inr q) = q
