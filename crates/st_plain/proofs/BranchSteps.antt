-- What is kept of a client after the steps of its branches.
use Rattle.std.proofs.Common.{List, None, Option, Some, [], ap, arith, cond, refl, subst, suc, sym, take, zero, ℕ, ◌++◌, ◌+◌, ◌∙◌, ◌∷◌, ◌≡◌}
use Rattle.std.specs.List.{remove, slice_get, slice_set}
use Rattle.std.specs.Option.{option_and_then, option_map_or}
use Rattle.std.specs.Prelude.{option_map, ◌-◌}
use Rattle.st_doc.specs.Doc.{document_of}
use Rattle.st_heads.proofs.Runs.{as_many, opened, runs_joined}
use Rattle.st_heads.specs.Remembered.{AreCarried, none as nothing_done}
use Rattle.st_heads.specs.Transactions.{HasOpen}
use Rattle.st_heads.specs.declared.heads.Head.{Head}
use Rattle.st_heads.specs.declared.ways.Carried.{Carried}
use Rattle.st_ids.specs.Listing.{AreDistinct}
use Rattle.st_lemmas.proofs.Options.{one_some}
use Rattle.st_lists.proofs.Names.{names_append}
use Rattle.st_lists.specs.Clients.{joined_of}
use Rattle.st_lists.specs.Lines.{HasHead, Line, branch_line, line_of, main_line, new_branch, on_branch, with_branch, with_commits_on}
use Rattle.st_lists.specs.Log.{commits_in}
use Rattle.st_lists.specs.Names.{names_in, names_made, names_on, names_on_all, unsequenced}
use Rattle.st_lists.specs.declared.lists.Branch.{Branch}
use Rattle.st_lists.specs.declared.lists.Client.{Client}
use Rattle.st_lists.specs.declared.lists.Entry.{Entry}
use Rattle.st_lists.specs.declared.lists.Transaction.{Transaction}
use Rattle.st_marks.specs.Document.{Document}
use Rattle.st_marks.specs.Run.{Run}
use Rattle.st_marks.specs.Verdict.{carried_document}
use Rattle.st_marks.specs.declared.intents.Intent.{Intent}
use Rattle.st_script.specs.Header.{HeaderView}
use Rattle.st_script.specs.declared.answer.Answer.{Answer}
use Rattle.st_plain.proofs.AtBranch.{heads_set, names_set}
use Rattle.st_plain.proofs.BranchHeads.{head_at, heads_more, heads_without}
use Rattle.st_world_laws.proofs.BranchNames.{names_apart}
use Rattle.st_plain_branches.proofs.Branched.{changed_at, found_by}
use Rattle.st_world_laws.proofs.Branching.{names_both}
use Rattle.st_plain.proofs.Keeping.{names_with, none_edited}
use Rattle.st_world_laws.proofs.OnBranches.{HasMore, several_on_branch, several_on_main, with_branches, with_own}
use Rattle.st_lists.specs.Voids.{AreVoid}
use Rattle.st_plain.specs.Replicas.{AreHeads, IsHeadOf, IsReplicaOf}
use Rattle.st_world.specs.World.{opening_document}
use Rattle.st_heads.specs.declared.replica.Replica.{Replica}
use Rattle.st_plain_branches.specs.Branches.{HasMergedInto, IsNewHead, ground_of, void_among, with_ground, without_place}
use Rattle.st_heads.specs.Replicas.{head_of}

-- the commits that came out void are those that are void where they come
pub void_as : (D E : Document) (Ns : List Intent) (ks : List Carried) → AreCarried D Ns ks E → AreVoid D Ns (void_among Ns ks)
void_as D E [] ks run = refl
void_as D E (N ∷ Ns) [] run = absurd (omega (arith, as_many run))
void_as D E (N ∷ Ns) (k ∷ ks) run =
    let o = opened run in
    (o.0, void_among Ns ks, o.1, void_as (carried_document o.0 D N) E Ns ks o.3, ap (λ t. cond t (N.rev ∷ void_among Ns ks) (void_among Ns ks)) o.2.void)

module _ (h : HeaderView) (log : List Entry) where
  pub kept_forked : (c : Client) (k : Replica) (n : ℕ) (l : Line) (p head : Head) → IsReplicaOf h log c k → HasHead (opening_document h) log l (document_of p.doc) → IsNewHead (document_of p.doc) head
      → IsReplicaOf h log (with_branch c n l) (record k { branches = k.branches ++ head ∷ [] })
  kept_forked c k n l p head w main new = record {
    received = w.received;
    own = w.own;
    edited = w.edited;
    branches = heads_more (opening_document h) log c.branches k.branches b head w.branches (record {
      base = document_of p.doc;
      stands = main;
      own = subst (λ (E : Document). AreCarried (document_of p.doc) [] head.own E) (sym new.doc) (subst (λ ks. AreCarried (document_of p.doc) [] ks (document_of p.doc)) (sym new.own) nothing_done);
      edited = new.edited;
    });
    names = names;
  }
    where
      b : Branch
      b = new_branch (c.forks + 1) n l

      names : k.names ≡ (option_map_or names_made (joined_of c) 0 + names_in c.pending) + names_on_all (c.branches ++ b ∷ [])
      names =
          let one : names_on_all (b ∷ []) ≡ 0 = refl in
          let was : k.names ≡ (option_map_or names_made (joined_of c) 0 + names_in c.pending) + names_on_all c.branches = w.names in
          omega (arith, names_both c.branches (b ∷ []), one, was)

  pub kept_rebased : (c : Client) (k : Replica) (j : ℕ) (b : Branch) (l : Line) (p head : Head) → IsReplicaOf h log c k → slice_get c.branches j ≡ Some b → b.transaction ≡ None → HasHead (opening_document h) log l (document_of p.doc)
      → AreCarried (document_of p.doc) b.own head.own (document_of head.doc) → head.edited ≡ None
      → IsReplicaOf h log (record c { branches = slice_set c.branches j (with_ground b (ground_of l)) }) (record k { branches = slice_set k.branches j head })
  kept_rebased c k j b l p head w at none main run edited = record {
    received = w.received;
    own = w.own;
    edited = w.edited;
    branches = heads_set (opening_document h) log c.branches k.branches j (with_ground b (ground_of l)) head w.branches (record {
      base = document_of p.doc;
      stands = main;
      own = run;
      edited = subst (λ (o : Option Transaction). HasOpen head (option_and_then (λ (t : Transaction). t.joined) o)) (sym none) edited;
    });
    names = names;
  }
    where
      names : k.names ≡ (option_map_or names_made (joined_of c) 0 + names_in c.pending) + names_on_all (slice_set c.branches j (with_ground b (ground_of l)))
      names =
          let same : names_on (with_ground b (ground_of l)) ≡ names_on b = refl in
          let was : k.names ≡ (option_map_or names_made (joined_of c) 0 + names_in c.pending) + names_on_all c.branches = w.names in
          omega (arith, names_set c.branches j b (with_ground b (ground_of l)) at, same, was)

  pub kept_dropped : (c : Client) (k : Replica) (j : ℕ) (b : Branch) → IsReplicaOf h log c k → slice_get c.branches j ≡ Some b
      → IsReplicaOf h log (without_place c j) (record k { branches = remove k.branches j; names = k.names - names_on b })
  kept_dropped c k j b w at = record {
    received = w.received;
    own = w.own;
    edited = w.edited;
    branches = heads_without (opening_document h) log c.branches k.branches j w.branches;
    names = names;
  }
    where
      names : k.names - names_on b ≡ (option_map_or names_made (joined_of c) 0 + names_in c.pending) + names_on_all (remove c.branches j)
      names =
          let was : k.names ≡ (option_map_or names_made (joined_of c) 0 + names_in c.pending) + names_on_all c.branches = w.names in
          omega (arith, names_apart c.branches j b at, was)

  -- ## Merged

  module _ (e : Client) (q : Replica) (n : ℕ) (Ns : List Intent) (w : IsReplicaOf h log e (record q { names = n })) (more : q.names ≡ n + names_in Ns) (l : Line) (p head : Head) (ks : List Carried) (none : l.transaction ≡ None)
      (run : AreCarried (document_of p.doc) Ns ks (document_of head.doc)) (own : head.own ≡ p.own ++ ks) (edited : head.edited ≡ p.edited) where
    -- into the main line
    merged_main : main_line e ≡ l → q.main ≡ p → IsReplicaOf h log (with_commits_on e zero Ns) (record q { main = head })
    merged_main line same = record {
      received = subst (λ n. Run (opening_document h) (commits_in (take n log)) (document_of q.received)) (sym m.received) w.received;
      own = subst (λ Ps. AreCarried (document_of q.received) Ps head.own (document_of head.doc)) (sym m.pending) (subst (λ ks. AreCarried (document_of q.received) (e.pending ++ Ns) ks (document_of head.doc)) (sym own_main) (runs_joined w.own run_main));
      edited = subst (λ (o : Option Transaction). HasOpen head (option_and_then (λ (t : Transaction). t.joined) o)) (sym (m.transaction ∙ closed)) (edited ∙ ap (λ (x : Head). x.edited) (sym same) ∙ none_edited e (record q { names = n }) closed w);
      branches = subst (λ (bs : List Branch). AreHeads (opening_document h) log bs q.branches) (sym m.branches) w.branches;
      names = names;
    }
      where
        d : Client
        d = with_commits_on e zero Ns

        m : HasMore e Ns d
        m = several_on_main Ns e

        closed : e.transaction ≡ None
        closed = ap (λ (x : Line). x.transaction) line ∙ none

        run_main : AreCarried (document_of q.main.doc) Ns ks (document_of head.doc)
        run_main = subst (λ (x : Head). AreCarried (document_of x.doc) Ns ks (document_of head.doc)) (sym same) run

        own_main : head.own ≡ q.main.own ++ ks
        own_main = own ∙ ap (λ (x : Head). x.own ++ ks) (sym same)

        names : q.names ≡ unsequenced d
        names =
            let now : unsequenced d ≡ (0 + names_in (e.pending ++ Ns)) + names_on_all e.branches = names_with d None (m.transaction ∙ closed) ∙ ap (λ Ps. (0 + names_in Ps) + names_on_all d.branches) m.pending ∙ ap (λ bs. (0 + names_in (e.pending ++ Ns)) + names_on_all bs) m.branches in
            let was : n ≡ (0 + names_in e.pending) + names_on_all e.branches = w.names ∙ names_with e None closed in
            omega (arith, now, was, more, names_append e.pending Ns)

    -- into another branch
    merged_branch : (j : ℕ) (b : Branch) → slice_get e.branches j ≡ Some b → branch_line b ≡ l → slice_get q.branches j ≡ Some p
        → IsReplicaOf h log (record e { branches = slice_set e.branches j (with_own Ns b) }) (record q { branches = slice_set q.branches j head })
    merged_branch j b at line at_p = record {
      received = w.received;
      own = w.own;
      edited = w.edited;
      branches = heads_set (opening_document h) log e.branches q.branches j (with_own Ns b) head w.branches (record {
        base = was.base;
        stands = was.stands;
        own = subst (λ ks. AreCarried was.base (b.own ++ Ns) ks (document_of head.doc)) (sym own) (runs_joined was.own run);
        edited = subst (λ (o : Option Transaction). HasOpen head (option_and_then (λ (t : Transaction). t.joined) o)) (sym closed) (edited ∙ subst (λ (o : Option Transaction). HasOpen p (option_and_then (λ (t : Transaction). t.joined) o)) closed was.edited);
      });
      names = names;
    }
      where
        closed : b.transaction ≡ None
        closed = ap (λ (x : Line). x.transaction) line ∙ none

        was : IsHeadOf (opening_document h) log b p
        was =
            let x = head_at (opening_document h) log e.branches q.branches j b w.branches at in
            subst (IsHeadOf (opening_document h) log b) (one_some x.0 p (sym x.1 ∙ at_p)) x.2

        names : q.names ≡ (option_map_or names_made (joined_of e) 0 + names_in e.pending) + names_on_all (slice_set e.branches j (with_own Ns b))
        names =
            let edits = option_map_or names_made (option_and_then (λ (t : Transaction). t.joined) b.transaction) 0 in
            let now : names_on (with_own Ns b) ≡ edits + names_in (b.own ++ Ns) = refl in
            let old : names_on b ≡ edits + names_in b.own = refl in
            let before : n ≡ (option_map_or names_made (joined_of e) 0 + names_in e.pending) + names_on_all e.branches = w.names in
            omega (arith, names_set e.branches j b (with_own Ns b) at, now, old, before, more, names_append b.own Ns)

  pub kept_merged : (e d : Client) (q k' : Replica) (n m : ℕ) (Ns : List Intent) (l : Line) (p : Head) (a : Answer) → IsReplicaOf h log e (record q { names = n }) → q.names ≡ n + names_in Ns → AreDistinct (λ (x : Branch). x.number) e.branches
      → line_of e m ≡ Some l → l.transaction ≡ None → head_of e q m ≡ Some p → HasMergedInto e q m p Ns d k' a → (d ≡ with_commits_on e m Ns) × IsReplicaOf h log d k'
  kept_merged e d q k' n zero Ns l p a w more distinct line none at done =
      let now = merged_main e q n Ns w more l p done.0 done.1 none done.2 done.3 done.4 (one_some (main_line e) l line) (one_some q.main p at) in
      (done.5, subst (λ x. IsReplicaOf h log x k') (sym done.5) (subst (IsReplicaOf h log (with_commits_on e zero Ns)) (sym done.6) now))
  kept_merged e d q k' n (suc m) Ns l p a w more distinct line none at done =
      let j = done.0 in
      let b = done.1 in
      let found = found_by (suc m) e.branches j done.4 in
      let same : found.0 ≡ b = one_some found.0 b (sym found.2 ∙ done.5) in
      let here : branch_line b ≡ l = one_some (branch_line b) l (ap (λ x. Some (branch_line x)) (sym same) ∙ ap (option_map branch_line) (sym found.1) ∙ line) in
      let number : b.number ≡ suc m = ap (λ (x : Branch). x.number) (sym same) ∙ found.3 in
      let at_p : slice_get q.branches j ≡ Some p = sym (ap (option_and_then (λ i. slice_get q.branches i)) done.4) ∙ at in
      let now = merged_branch e q n Ns w more l p done.2 done.3 none done.6 done.7 done.8 j b done.5 here at_p in
      let changed : on_branch (suc m) (with_own Ns) e.branches ≡ slice_set e.branches j (with_own Ns b) = subst (λ k. on_branch k (with_own Ns) e.branches ≡ slice_set e.branches j (with_own Ns b)) number (changed_at (with_own Ns) e.branches j b distinct done.5) in (
        done.9 ∙ sym (several_on_branch m Ns e ∙ ap (with_branches e) changed),
        subst (λ x. IsReplicaOf h log x k') (sym done.9) (subst (IsReplicaOf h log (record e { branches = slice_set e.branches j (with_own Ns b) })) (sym done.10) now),
      )
