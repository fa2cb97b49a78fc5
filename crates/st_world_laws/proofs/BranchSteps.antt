-- A client goes on by the steps of its branches.
use Rattle.std.proofs.Common.{Bool, List, None, Option, Some, [], ap, arith, cond, false, inl, inr, length, nat_le, nat_lt, refl, subst, suc, sym, true, zero, ℕ, ◌++◌, ◌+◌, ◌<◌, ◌∙◌, ◌∷◌, ◌≡◌, ◌≢◌, ◌≤◌}
use Rattle.std.proofs.lemmas.Bool.Decides.{nat_tests}
use Rattle.std.specs.List.{AllByRecursion, slice_get}
use Rattle.std.specs.Prelude.{is_some, option_map}
use Rattle.st_ids.specs.Listing.{AreDistinct, Has}
use Rattle.st_ids.specs.declared.names.Limit.{Limit}
use Rattle.st_ids.specs.declared.names.LimitOf.TheVariants.{Branch as OfBranch, Branches as OfBranches, Pending}
use Rattle.st_lists.specs.Limits.{own_limit_passed}
use Rattle.st_lists.specs.Lines.{AreStanding, Line, StandsOn, branch_line, branch_of, has_children, line_of, main_line, with_base, with_commits_on, without_branch}
use Rattle.st_lists.specs.Log.{commits_in}
use Rattle.st_lists.specs.Names.{names_in}
use Rattle.st_lists.specs.declared.lists.Branch.{Branch}
use Rattle.st_lists.specs.declared.lists.Client.{Client}
use Rattle.st_lists.specs.declared.lists.Entry.{Entry}
use Rattle.st_lists.specs.declared.lists.Transaction.{Transaction}
use Rattle.st_marks.proofs.Members.{distinct-between}
use Rattle.st_marks.specs.declared.intents.Intent.{Intent}
use Rattle.st_script.specs.Header.{HeaderView}
use Rattle.st_script.specs.declared.answer.Answer.{Answer}
use Rattle.st_script.specs.declared.refusal.Refusal.{Refusal}
use Rattle.st_script.specs.declared.refusal.Refusal.TheVariants.{HasChildren, Limit as OverLimit, Unfinished}
use Rattle.st_world_laws.proofs.Agreed.{branch_numbered}
use Rattle.st_world_laws.proofs.Among.{branch_is}
use Rattle.st_world_laws.proofs.Begun.{IsStart}
use Rattle.st_world_laws.proofs.BranchesAgree.{dropped_branch_keeps, forked_keeps, merged_fits, merged_keeps, rebased_fits, rebased_keeps}
use Rattle.st_world_laws.proofs.Branching.{split_at}
use Rattle.st_world_laws.proofs.Everyone.{all_get}
use Rattle.st_world_laws.proofs.Forking.{client_drops, client_forks, standing_at}
use Rattle.st_world_laws.proofs.Going.{GoesOn, IsNear, stays}
use Rattle.st_world_laws.proofs.Lookup.{branch_there}
use Rattle.st_world_laws.proofs.Merging.{client_merges}
use Rattle.st_world_laws.proofs.OnBranches.{several_on_branch, several_on_main, stands_among}
use Rattle.st_world_laws.proofs.Rebasing.{client_rebases}
use Rattle.st_world_laws.proofs.Going.{none_of}
use Rattle.st_world.specs.Branches.{fork, refusal_to_fork, refusal_to_merge, refusal_to_rebase}
use Rattle.st_ids.specs.declared.names.Rev.{Rev}
use Rattle.st_world_laws.specs.Worlds.{HaveOwnSessions, IsClient, KeepToSchemas}
use Rattle.st_world.specs.World.{opening_document}

-- ## What a step that isn't refused asks for

pub may_fork : (c : Client) (l : Line) → refusal_to_fork c l ≡ None → (l.transaction ≡ None) × (length c.branches < 16)
may_fork c l e = go (is_some l.transaction) refl (nat_le 16 (length c.branches)) refl e
  where
    go : (t : Bool) → is_some l.transaction ≡ t → (u : Bool) → nat_le 16 (length c.branches) ≡ u
        → ◌≡◌ {A = Option Refusal} (cond t (Some Unfinished) (option_map (λ (o : Limit). OverLimit o) (cond u (Some (record { of = OfBranches; kept = length c.branches })) None))) None → (l.transaction ≡ None) × (length c.branches < 16)
    go true p u q e = absurd (cc)
    go false p true q e = absurd (cc)
    go false p false q e = (none_of l.transaction p, few q)
      where
        few : nat_le 16 (length c.branches) ≡ false → length c.branches < 16
        few q = grind (arith, nat_tests)

pub may_rebase : (b : Branch) → refusal_to_rebase b ≡ None → b.transaction ≡ None
may_rebase b e = go b.transaction e
  where
    go : (o : Option Transaction) → ◌≡◌ {A = Option Refusal} (cond (is_some o) (Some Unfinished) None) None → o ≡ None
    go None e = refl
    go (Some t) e = absurd (cc)

pub within_more : (k : ℕ) (l : Line) (more : ℕ) → own_limit_passed k l more ≡ None → length l.own + more ≤ 256
within_more k l more e = by k e
  where
    few : nat_lt 256 (length l.own + more) ≡ false → length l.own + more ≤ 256
    few q = grind (arith, nat_tests)

    go : (x : Limit) (u : Bool) → nat_lt 256 (length l.own + more) ≡ u → ◌≡◌ {A = Option Limit} (cond u (Some x) None) None → length l.own + more ≤ 256
    go x true q e = absurd (cc)
    go x false q e = few q

    by : (k : ℕ) → own_limit_passed k l more ≡ None → length l.own + more ≤ 256
    by zero e = go (record { of = Pending; kept = length l.own }) (nat_lt 256 (length l.own + more)) refl e
    by (suc k) e = go (record { of = OfBranch; kept = length l.own }) (nat_lt 256 (length l.own + more)) refl e

pub may_merge : (c : Client) (k : ℕ) (b : Branch) (l : Line) → refusal_to_merge c k b l ≡ None
    → (b.transaction ≡ None) × (l.transaction ≡ None) × (has_children c k ≡ false) × (length l.own + length b.own ≤ 256)
may_merge c k b l e = go (is_some b.transaction) refl (is_some l.transaction) refl (has_children c k) refl (own_limit_passed b.parent l (length b.own)) refl e
  where
    go : (t : Bool) → is_some b.transaction ≡ t → (u : Bool) → is_some l.transaction ≡ u → (v : Bool) → has_children c k ≡ v → (o : Option Limit) → own_limit_passed b.parent l (length b.own) ≡ o
        → ◌≡◌ {A = Option Refusal} (cond t (Some Unfinished) (cond u (Some Unfinished) (cond v (Some HasChildren) (option_map (λ (o : Limit). OverLimit o) o)))) None
        → (b.transaction ≡ None) × (l.transaction ≡ None) × (has_children c k ≡ false) × (length l.own + length b.own ≤ 256)
    go true p u q v r o x e = absurd (cc)
    go false p true q v r o x e = absurd (cc)
    go false p false q true r o x e = absurd (cc)
    go false p false q false r (Some x) y e = absurd (cc)
    go false p false q false r None y e = (none_of b.transaction p, none_of l.transaction q, r, within_more b.parent l (length b.own) y)

-- ## Parents

module _ (h : HeaderView) (st : IsStart (opening_document h)) (log : List Entry) (c : Client) (own : IsClient h log c) (b : Branch) (i : Has c.branches b) where
  -- a branch's parent has a line
  pub parent_there : (l : Line) × (line_of c b.parent ≡ Some l)
  parent_there = go (stands_among log (main_line c) [] c.branches b own.branches.standing i)
    where
      go : StandsOn log (main_line c) c.branches b → (l : Line) × (line_of c b.parent ≡ Some l)
      go (inl q) = (main_line c, ap (line_of c) q.0)
      go (inr q) = (branch_line q.0, ap (line_of c) (sym q.2) ∙ branch_numbered h st log c q.0 own q.1)

  -- and isn't the branch itself
  pub parent_apart : b.parent ≢ b.number
  parent_apart e =
      let p = split_at b.number b c.branches own.branches.numbers i refl in
      let stands = standing_at log (main_line c) [] p.before p.after b (subst (AreStanding log (main_line c) []) p.is own.branches.standing) in
      go p.before p.after p.is stands.1
    where
      go : (before after : List Branch) → c.branches ≡ before ++ b ∷ after → StandsOn log (main_line c) before b → ⊥
      go before after is (inl q) = absurd (omega (arith, (branch_is h st log c own b i).numbered, q.0, e))
      go before after is (inr q) = distinct-between (λ (x : Branch). x.number) before (b ∷ after) q.0 b (subst (AreDistinct (λ (x : Branch). x.number)) is own.branches.numbers) q.1 (inl refl) (sym (q.2 ∙ e))

-- ## The client goes on

-- several commits more on a line leave its numbers
several_near : (c : Client) (j : ℕ) (Ns : List Intent) → IsNear c (with_commits_on c j Ns)
several_near c zero Ns =
    let m = several_on_main Ns c in
    record { session = m.session; connected = m.connected; ids = omega (arith, m.ids); forks = omega (arith, m.forks) }
several_near c (suc j) Ns = subst (IsNear c) (sym (several_on_branch j Ns c)) (record { session = refl; connected = refl; ids = omega arith; forks = omega arith })

module _ (h : HeaderView) (st : IsStart (opening_document h)) (K : Rev → List ℕ → Type 0) (log : List Entry) (cs : List Client) (sessions : HaveOwnSessions cs) (are : AllByRecursion (IsClient h log) cs) (few : names_in (commits_in log) ≤ 131072) (keeps : KeepToSchemas h K log cs)
    (i : ℕ) (c : Client) (at : slice_get cs i ≡ Some c) where
  is_client : IsClient h log c
  is_client = all_get (IsClient h log) cs i c are at

  pub same_goes : (c' : Client) → c' ≡ c → GoesOn h st K log cs i c c'
  same_goes c' same = stays h st K log cs sessions are few keeps i c at c' same

  pub fork_goes : (c' : Client) (k : ℕ) (l : Line) (a : Answer) → line_of c k ≡ Some l → fork c k l (refusal_to_fork c l) ≡ (c', a) → GoesOn h st K log cs i c c'
  fork_goes c' k l a line done = go (refusal_to_fork c l) refl done
    where
      go : (o : Option Refusal) → refusal_to_fork c l ≡ o → fork c k l o ≡ (c', a) → GoesOn h st K log cs i c c'
      go (Some why) e done = same_goes c' (ap (λ (p : Client × Answer). p.0) (sym done))
      go None e done = subst (GoesOn h st K log cs i c) (ap (λ (p : Client × Answer). p.0) done) (record {
        client = client_forks h st log c is_client k l line (may_fork c l e).1;
        session = refl;
        connected = refl;
        ids = omega arith;
        forks = omega arith;
        keeps = forked_keeps h st K log cs i c k l at line keeps;
      })

  module _ (k : ℕ) (b : Branch) (is : branch_of c k ≡ Some b) where
    there : Has c.branches b × (b.number ≡ k)
    there = branch_there c k b is

    pub drop_goes : has_children c k ≡ false → GoesOn h st K log cs i c (without_branch c k)
    drop_goes childless = record {
      client = client_drops h st log c is_client k b there.0 there.1 childless;
      session = refl;
      connected = refl;
      ids = omega arith;
      forks = omega arith;
      keeps = dropped_branch_keeps h st K log cs i c k at keeps;
    }

    module _ (l : Line) (line : line_of c b.parent ≡ Some l) where
      pub rebase_goes : refusal_to_rebase b ≡ None → GoesOn h st K log cs i c (with_base c k l)
      rebase_goes may =
          let none = may_rebase b may in
          let now = client_rebases h st log c is_client k b l there.0 there.1 line none few in
          record {
            client = now;
            session = refl;
            connected = refl;
            ids = omega arith;
            forks = omega arith;
            keeps = rebased_keeps h st K log cs i c k b l are at is line none (rebased_fits h st K log c k b l is now) keeps;
          }

      pub merge_goes : refusal_to_merge c k b l ≡ None → GoesOn h st K log cs i c (with_commits_on (without_branch c k) b.parent b.own)
      merge_goes may =
          let m = may_merge c k b l may in
          let now = client_merges h st log c k b l is_client there.0 there.1 line m.1 m.2 m.3 few in
          let near = several_near (without_branch c k) b.parent b.own in
          record {
            client = now;
            session = near.session;
            connected = near.connected;
            ids = near.ids;
            forks = near.forks;
            keeps = merged_keeps h st K log cs i c k b l are at is line m.1 (merged_fits h st K log c k b l is line m.2 now) keeps;
          }
