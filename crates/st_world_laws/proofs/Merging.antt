-- A branch is merged: its own commits come behind those of its parent, and it is gone.
use Rattle.std.proofs.Common.{List, None, Some, [], ap, append_assoc, arith, false, inl, inr, length, length-append, refl, subst, suc, sym, zero, ℕ, ◌++◌, ◌+◌, ◌∙◌, ◌∷◌, ◌≡◌, ◌≢◌, ◌≤◌, ◌⊎◌}
use Rattle.std.specs.List.{AllByRecursion}
use Rattle.std.specs.Option.{option_map_or}
use Rattle.std.specs.Prelude.{option_map}
use Rattle.st_ids.specs.Listing.{Has}
use Rattle.st_ids.specs.Root.{opening}
use Rattle.st_ids.specs.declared.names.Rev.{Rev}
use Rattle.st_lists.proofs.Names.{names_append}
use Rattle.st_lists.proofs.Written.{commit_here}
use Rattle.st_lists.specs.Clients.{joined_of, with_commit}
use Rattle.st_lists.specs.Lines.{with_commit_on, Line, all_commits, branch_line, commits_of, edited_on, has_children, line_of, own_of, with_commits_on, without_branch}
use Rattle.st_lists.specs.Log.{commits_in, log_and_waiting}
use Rattle.st_lists.specs.Names.{names_in, names_made, names_on_all, unsequenced}
use Rattle.st_lists.specs.declared.lists.Branch.{Branch}
use Rattle.st_lists.specs.declared.lists.Client.{Client}
use Rattle.st_lists.specs.declared.lists.Entry.{Entry}
use Rattle.st_lists.specs.declared.lists.Transaction.{Transaction}
use Rattle.st_log_laws.proofs.Shorter.{new_shorter}
use Rattle.st_log_laws.proofs.Turns.{has_run, rest}
use Rattle.st_log_laws.specs.Names.{HaveNewRevisions, revisions}
use Rattle.st_log_laws.specs.Turns.{FitInTurn}
use Rattle.st_marks.proofs.Members.{all-has, append_left, append_right, distinct-between, distinct-right, flat_map-has, has-all, has-append, has-flat_map, has-map, map-has, one_list}
use Rattle.st_world_laws.proofs.Branching.{others, IsBetween, branch_between, branch_names, names_around, names_both, open_changed, rev_there, split_at}
use Rattle.st_marks.specs.declared.intents.Intent.{Intent}
use Rattle.st_script.specs.Header.{HeaderView}
use Rattle.st_world_laws.proofs.Among.{branch_own_among, line_fit, open_new}
use Rattle.st_world_laws.proofs.Begun.{IsStart}
use Rattle.st_world_laws.proofs.Clients.{main_between, own_more}
use Rattle.st_world_laws.proofs.Forking.{client_drops, line_left, no_child, of_others, open_left}
use Rattle.st_world_laws.proofs.Lookup.{IsOpenAt, branch_there, line_there}
use Rattle.st_world_laws.proofs.Parts.{client_takes}
use Rattle.st_world_laws.proofs.Rebasing.{own_fits_behind_parent}
use Rattle.st_world_laws.specs.Worlds.{IsClient}
use Rattle.st_world.specs.World.{opening_document}

session_kept : (c : Client) (j : ℕ) (N : Intent) → (with_commit_on c j N).session ≡ c.session
session_kept c zero N = refl
session_kept c (suc j) N = refl

ids_kept : (c : Client) (j : ℕ) (N : Intent) → (with_commit_on c j N).ids ≡ c.ids
ids_kept c zero N = refl
ids_kept c (suc j) N = refl

open_before : (c : Client) (j : ℕ) (N : Intent) (i : ℕ) (s : Rev) → IsOpenAt (with_commit_on c j N) i s → IsOpenAt c i s
open_before c zero N zero s x = x
open_before c zero N (suc i) s x = x
open_before c (suc j) N zero s x = x
open_before c (suc j) N (suc i) s x =
    let y = open_changed c (with_commit_on c (suc j) N) (suc j) (λ b. record b { own = b.own ++ N ∷ [] }) i s (λ b. refl) refl x in
    (y.0, y.1, y.2, y.3, either y.0 y.1 y.4, y.5)
  where
    either : (b : Branch) (t : Transaction) → ((b.number ≡ suc j) × (b.transaction ≡ Some t)) ⊎ (b.transaction ≡ Some t) → b.transaction ≡ Some t
    either b t (inl q) = q.1
    either b t (inr q) = q

module _ (h : HeaderView) (st : IsStart (opening_document h)) where
  -- ## A line takes some commits

  -- a commit that a line takes stands between all others
  line_between : (log : List Entry) (c : Client) (j : ℕ) (l : Line) (N : Intent) → IsClient h log c → line_of c j ≡ Some l → IsBetween N (all_commits log c) (all_commits log (with_commit_on c j N))
  line_between log c zero l N k at = record { front = log_and_waiting log c; rest = own_of c.branches; before = refl; after = sym (main_between h st log c N k) }
  line_between log c (suc j) l N k at =
      let b = line_there c j l at in
      let p = branch_there c (suc j) b.0 b.1 in
      let o = branch_between h st log c (suc j) b.0 N k p.0 p.1 in
      let L = log_and_waiting log c in record {
        front = L ++ o.front;
        rest = o.rest;
        before = ap (λ Ns. L ++ Ns) o.before ∙ sym (append_assoc L o.front o.rest);
        after = ap (λ Ns. L ++ Ns) o.after ∙ sym (append_assoc L o.front (N ∷ o.rest));
      }

  -- and its names are counted
  names_counted : (log : List Entry) (c : Client) (j : ℕ) (l : Line) (N : Intent) → IsClient h log c → line_of c j ≡ Some l → unsequenced (with_commit_on c j N) ≡ unsequenced c + names_made N
  names_counted log c zero l N k at =
      let now : unsequenced (with_commit c N) ≡ (option_map_or names_made (joined_of c) 0 + names_in (c.pending ++ N ∷ [])) + names_on_all c.branches = refl in
      let was : unsequenced c ≡ (option_map_or names_made (joined_of c) 0 + names_in c.pending) + names_on_all c.branches = refl in
      let one : names_in (N ∷ []) ≡ names_made N = omega arith in
      omega (arith, now, was, names_append c.pending (N ∷ []), one)
  names_counted log c (suc j) l N k at =
      let b = line_there c j l at in
      let p = branch_there c (suc j) b.0 b.1 in
      let now : unsequenced (with_commit_on c (suc j) N) ≡ (option_map_or names_made (joined_of c) 0 + names_in c.pending) + names_on_all (with_commit_on c (suc j) N).branches = refl in
      let was : unsequenced c ≡ (option_map_or names_made (joined_of c) 0 + names_in c.pending) + names_on_all c.branches = refl in
      omega (arith, now, was, branch_names h st log c (suc j) b.0 N k p.0 p.1)

  pub client_takes_all : (log : List Entry) (Ns : List Intent) (c : Client) (j : ℕ) (l : Line) → IsClient h log c → line_of c j ≡ Some l → l.transaction ≡ None → FitInTurn (opening_document h) (commits_of log l ++ Ns)
      → HaveNewRevisions (revisions (all_commits log c) ++ opening ∷ []) Ns → AllByRecursion (λ (N : Intent). N.rev.session ≡ c.session) Ns → AllByRecursion (λ (N : Intent). N.rev.num ≤ c.ids) Ns
      → ((N : Intent) → Has Ns N → (i : ℕ) → IsOpenAt c i N.rev → ⊥) → length l.own + length Ns ≤ 256 → unsequenced c + names_in Ns ≤ 16384 → names_in (commits_in log) ≤ 131072 → IsClient h log (with_commits_on c j Ns)
  client_takes_all log [] c j l k at none fit new sessions nums unopened room few all = k
  client_takes_all log (N ∷ Ns) c j l k at none fit new sessions nums unopened room few all =
      let O = opening_document h in
      let run = has_run (commits_of log l) O st.sound (line_fit h st log c k j l at) in
      let fits = (rest (N ∷ Ns) run.1 fit).0 in
      let size : length (N ∷ Ns) ≡ 1 + length Ns = omega arith in
      let names : names_in (N ∷ Ns) ≡ names_made N + names_in Ns = refl in
      let one = client_takes h st log c j l run.0 N k at none run.1 fits sessions.0 nums.0 (new.new N (inl refl)) (unopened N (inl refl)) (omega (arith, room, size)) (omega (arith, few, names)) all in
      client_takes_all log Ns (with_commit_on c j N) j (record l { own = l.own ++ N ∷ [] }) one (commit_here c j N ∙ ap (option_map (λ (x : Line). record x { own = x.own ++ N ∷ [] })) at) none
      (subst (FitInTurn O) (sym (append_assoc (commits_of log l) (N ∷ []) Ns) ∙ ap (λ Ks. Ks ++ Ns) (own_more h st log l N)) fit)
      (record { once = new.once.1; new = λ M i q. fresh M i (rev_there (opening ∷ []) N (all_commits log c) (all_commits log (with_commit_on c j N)) M.rev (line_between log c j l N k at) q) })
      (subst (λ s. AllByRecursion (λ (M : Intent). M.rev.session ≡ s) Ns) (sym (session_kept c j N)) sessions.1) (subst (λ n. AllByRecursion (λ (M : Intent). M.rev.num ≤ n) Ns) (sym (ids_kept c j N)) nums.1)
      (λ M i n x. unopened M (inr i) n (open_before c j N n M.rev x)) (omega (arith, room, size, length-append l.own (N ∷ []))) (omega (arith, few, names, names_counted log c j l N k at)) all
    where
      fresh : (M : Intent) → Has Ns M → (N.rev ≡ M.rev) ⊎ Has (revisions (all_commits log c) ++ opening ∷ []) M.rev → ⊥
      fresh M i (inl same) = all-has (λ (X : Intent). X.rev ≢ N.rev) Ns M new.once.0 i (sym same)
      fresh M i (inr q) = new.new M (inr i) q

  -- ## A branch is merged

  pub client_merges : (log : List Entry) (c : Client) (n : ℕ) (b : Branch) (parent : Line) → IsClient h log c → Has c.branches b → b.number ≡ n → line_of c b.parent ≡ Some parent → parent.transaction ≡ None
      → has_children c n ≡ false → length parent.own + length b.own ≤ 256 → names_in (commits_in log) ≤ 131072 → IsClient h log (with_commits_on (without_branch c n) b.parent b.own)
  client_merges log c n b parent k i e at none childless room all =
      client_takes_all log b.own (without_branch c n) b.parent parent (client_drops h st log c k n b i e childless) (line_left c n b.parent parent k.branches.numbers at (no_child c n childless b i)) none
      (own_fits_behind_parent h st log c k n b parent i e at all) (record { once = (new_shorter (opening ∷ []) b.own (all_commits log c) (branch_own_among h st log c k b i) k.new).once; new = λ M m q. fresh M m (has-append (revisions (all_commits log (without_branch c n))) (opening ∷ []) M.rev q) })
      (has-all (λ (N : Intent). N.rev.session ≡ c.session) b.own (λ N m. session N m)) (has-all (λ (N : Intent). N.rev.num ≤ c.ids) b.own (λ N m. k.ids N (there N m) (session N m)))
      (λ N m j x. open_new h st log c k j N.rev (open_left c n j N.rev x) (append_left (revisions (all_commits log c)) (opening ∷ []) N.rev (map-has (λ (X : Intent). X.rev) (all_commits log c) N (there N m)))) room few all
    where
      own : (N : Intent) → Has b.own N → Has (own_of c.branches) N
      own N m = flat_map-has (λ (x : Branch). x.own) c.branches b N i m

      there : (N : Intent) → Has b.own N → Has (all_commits log c) N
      there N m = append_right (log_and_waiting log c) (own_of c.branches) N (own N m)

      session : (N : Intent) → Has b.own N → N.rev.session ≡ c.session
      session N m = all-has (λ (X : Intent). X.rev.session ≡ c.session) (own_of c.branches) N k.branches.own (own N m)

      fresh : (M : Intent) → Has b.own M → Has (revisions (all_commits log (without_branch c n))) M.rev ⊎ Has (opening ∷ []) M.rev → ⊥
      fresh M m (inr q) = k.new.new M (there M m) q
      fresh M m (inl q) =
          let x = has-map (λ (X : Intent). X.rev) (all_commits log (without_branch c n)) M.rev q in
          place x.0 x.2 (has-append (log_and_waiting log c) (own_of (others n c.branches)) x.0 x.1)
        where
          place : (X : Intent) → X.rev ≡ M.rev → Has (log_and_waiting log c) X ⊎ Has (own_of (others n c.branches)) X → ⊥
          place X same (inl j) = distinct-between (λ (Y : Intent). Y.rev) (log_and_waiting log c) (own_of c.branches) X M k.new.once j (own M m) (sym same)
          place X same (inr j) =
              let y = has-flat_map (λ (x : Branch). x.own) (others n c.branches) X j in
              let z = of_others n c.branches y.0 y.1 in
              let line : y.0 ≡ b = one_list (λ (x : Branch). x.own) (λ (Y : Intent). Y.rev) c.branches y.0 b X M (distinct-right (λ (Y : Intent). Y.rev) (log_and_waiting log c) (own_of c.branches) k.new.once) z.0 i y.2 m same in
              z.1 (ap (λ (x : Branch). x.number) line ∙ e)

      few : unsequenced (without_branch c n) + names_in b.own ≤ 16384
      few =
          let p = split_at n b c.branches k.branches.numbers i e in
          let was : names_on_all c.branches ≡ names_on_all p.before + ((option_map_or names_made (edited_on (branch_line b)) 0 + names_in b.own) + names_on_all p.after) = ap names_on_all p.is ∙ names_around p.before p.after b in
          let is : names_on_all (others n c.branches) ≡ names_on_all p.before + names_on_all p.after = ap names_on_all p.without ∙ names_both p.before p.after in
          let sum : unsequenced c ≡ (option_map_or names_made (joined_of c) 0 + names_in c.pending) + names_on_all c.branches = refl in
          let now : unsequenced (without_branch c n) ≡ (option_map_or names_made (joined_of c) 0 + names_in c.pending) + names_on_all (others n c.branches) = refl in
          omega (arith, was, is, sum, now, k.few_names)
