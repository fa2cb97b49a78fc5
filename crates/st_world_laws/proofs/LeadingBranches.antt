-- From lists of which holds what steps keep, each step of branches leads on.
use Rattle.st_world_laws.proofs.Clients.{head_sound}
use Rattle.std.proofs.Common.{Bool, List, None, Option, Some, cond, false, refl, true, ℕ, ◌≡◌}
use Rattle.std.specs.List.{slice_get, slice_set}
use Rattle.st_ids.specs.declared.names.Rev.{Rev}
use Rattle.st_lists.specs.Lines.{HasHead, Line, branch_of, commits_of, has_children, line_of, with_base, with_commits_on, without_branch}
use Rattle.st_lists.specs.declared.lists.Branch.{Branch}
use Rattle.st_lists.specs.declared.lists.Client.{Client}
use Rattle.st_lists.specs.declared.lists.WorldState.{WorldState}
use Rattle.st_log_laws.proofs.Turns.{has_run, rest as rest_fit}
use Rattle.st_marks.specs.Document.{Document}
use Rattle.st_script.specs.Header.{HeaderView}
use Rattle.st_script.specs.declared.answer.Answer.{Answer}
use Rattle.st_script.specs.declared.answer.Answer.TheVariants.{DropBranch, Merge, No, Rebase}
use Rattle.st_script.specs.declared.refusal.Refusal.{Refusal}
use Rattle.st_script.specs.declared.refusal.Refusal.TheVariants.{HasChildren, NoBranch}
use Rattle.st_world_laws.proofs.Among.{line_fit}
use Rattle.st_world_laws.proofs.Begun.{IsStart}
use Rattle.st_world_laws.proofs.BranchSteps.{drop_goes, fork_goes, merge_goes, rebase_goes, same_goes}
use Rattle.st_world_laws.proofs.Everyone.{all_get}
use Rattle.st_world_laws.specs.Worlds.{Any, IsWorld}
use Rattle.st_world_laws.proofs.Going.{GoesOn, set_sound}
use Rattle.st_world_laws.proofs.Leading.{AllLead, BranchesLead, Leads, st as start_from}
use Rattle.st_world_laws.proofs.LineGoing.{line_goes}
use Rattle.st_world_laws.proofs.Lookup.{branch_there}
use Rattle.st_world_laws.proofs.Rebasing.{own_fits_behind_parent}
use Rattle.st_world_laws.proofs.Voids.{has_void}
use Rattle.st_lists.specs.Voids.{AreVoid}
use Rattle.st_world.specs.Branches.{IsMerged, IsRebased, drop_branch, fork, refusal_to_fork, refusal_to_merge, refusal_to_rebase}
use Rattle.st_world.specs.Kept.{Unless}
use Rattle.st_world_laws.specs.Worlds.{IsClient}
use Rattle.st_world.specs.World.{IsForked, OnOwnBranch, OnParent, opening_document, with_client}

module _ (h : HeaderView) (w : WorldState) (s : IsWorld h w) where
  abbrev st : IsStart (opening_document h)
  st = start_from h w s

  module _ (i : ℕ) (c : Client) (at : slice_get w.clients i ≡ Some c) where
    client : IsClient h w.log c
    client = all_get (IsClient h w.log) w.clients i c s.clients at

    goes_to : (is_next : WorldState → Answer → Type 0) (d : Client) (a : Answer) → is_next (record w { clients = slice_set w.clients i d }) a → GoesOn h st Any w.log w.clients i c d → Leads h w s is_next
    goes_to is_next d a p g = (record w { clients = slice_set w.clients i d }, a, p, set_sound h w i c d s at g.client g.session g.keeps)

    goes_nowhere : GoesOn h st Any w.log w.clients i c c
    goes_nowhere = same_goes h st Any w.log w.clients s.sessions s.clients s.few_names s.schema i c at c refl

    -- a step of the branch of a number, by its parent's line
    on_own_leads : (k : ℕ) (does : WorldState → Answer → Branch → Line → Type 0) → ((b : Branch) (l : Line) → branch_of c k ≡ Some b → line_of c b.parent ≡ Some l → Leads h w s (λ v a. does v a b l))
        → Leads h w s (λ v a. OnOwnBranch w c (does v a) (branch_of c k) v a)
    on_own_leads k does some = go (branch_of c k) refl
      where
        by : (b : Branch) → branch_of c k ≡ Some b → (o : Option Line) → line_of c b.parent ≡ o → Leads h w s (λ v a. OnParent w (does v a b) o v a)
        by b is None line = (w, No NoBranch, (refl, refl), s)
        by b is (Some l) line = some b l is line

        go : (o : Option Branch) → branch_of c k ≡ o → Leads h w s (λ v a. OnOwnBranch w c (does v a) o v a)
        go None is = (w, No NoBranch, (refl, refl), s)
        go (Some b) is = by b is (line_of c b.parent) refl

    forks_lead : (k : ℕ) (l : Line) → line_of c k ≡ Some l → Leads h w s (IsForked w i c k l)
    forks_lead k l line =
        let p = fork c k l (refusal_to_fork c l) in
        goes_to (IsForked w i c k l) p.0 p.1 refl (fork_goes h st Any w.log w.clients s.sessions s.clients s.few_names s.schema i c at p.0 k l p.1 line refl)

    module _ (k : ℕ) (b : Branch) (l : Line) (is : branch_of c k ≡ Some b) (line : line_of c b.parent ≡ Some l) where
      -- the parent's document, and what is void over it
      over : (D : Document) × (void : List Rev) × HasHead (opening_document h) w.log l D × AreVoid D b.own void
      over =
          let fit = line_fit h st w.log c client b.parent l line in
          let D = has_run (commits_of w.log l) (opening_document h) st.sound fit in
          let there = branch_there c k b is in
          let void = has_void D.0 b.own (head_sound h st w.log l D.0 fit D.1) (rest_fit b.own D.1 (own_fits_behind_parent h st w.log c client k b l there.0 there.1 line s.few_names)) in
          (D.0, void.0, D.1, void.1)

      abbrev Rebases : WorldState → Answer → Type 0
      Rebases v a = (d : Client) × Unless (refusal_to_rebase b) c d a (IsRebased (opening_document h) w.log c k b l d a) × (v ≡ record w { clients = slice_set w.clients i d })

      has_rebased : Leads h w s Rebases
      has_rebased = go (refusal_to_rebase b) refl
        where
          go : (o : Option Refusal) → refusal_to_rebase b ≡ o → Leads h w s (λ v a. (d : Client) × Unless o c d a (IsRebased (opening_document h) w.log c k b l d a) × (v ≡ record w { clients = slice_set w.clients i d }))
          go (Some why) e = goes_to (λ v a. (d : Client) × Unless (Some why) c d a (IsRebased (opening_document h) w.log c k b l d a) × (v ≡ record w { clients = slice_set w.clients i d })) c (No why) (c, (refl, refl), refl) goes_nowhere
          go None e = goes_to (λ v a. (d : Client) × Unless None c d a (IsRebased (opening_document h) w.log c k b l d a) × (v ≡ record w { clients = slice_set w.clients i d })) (with_base c k l) (Rebase over.1)
              (with_base c k l, (over.0, over.1, over.2, over.3, refl, refl), refl) (rebase_goes h st Any w.log w.clients s.sessions s.clients s.few_names s.schema i c at k b is l line e)

      abbrev Merges : WorldState → Answer → Type 0
      Merges v a = (d : Client) × Unless (refusal_to_merge c k b l) c d a (IsMerged (opening_document h) w.log c k b l d a) × (v ≡ record w { clients = slice_set w.clients i d })

      has_merged : Leads h w s Merges
      has_merged = go (refusal_to_merge c k b l) refl
        where
          go : (o : Option Refusal) → refusal_to_merge c k b l ≡ o → Leads h w s (λ v a. (d : Client) × Unless o c d a (IsMerged (opening_document h) w.log c k b l d a) × (v ≡ record w { clients = slice_set w.clients i d }))
          go (Some why) e = goes_to (λ v a. (d : Client) × Unless (Some why) c d a (IsMerged (opening_document h) w.log c k b l d a) × (v ≡ record w { clients = slice_set w.clients i d })) c (No why) (c, (refl, refl), refl) goes_nowhere
          go None e =
              let d = with_commits_on (without_branch c k) b.parent b.own in
              goes_to (λ v a. (d : Client) × Unless None c d a (IsMerged (opening_document h) w.log c k b l d a) × (v ≡ record w { clients = slice_set w.clients i d })) d (Merge over.1)
              (d, (over.0, over.1, over.2, over.3, refl, refl), refl) (merge_goes h st Any w.log w.clients s.sessions s.clients s.few_names s.schema i c at k b is l line e)

      has_branch_dropped : Leads h w s (λ v a. with_client w i (drop_branch c k) ≡ (v, a))
      has_branch_dropped = go (has_children c k) refl
        where
          go : (t : Bool) → has_children c k ≡ t → Leads h w s (λ v a. with_client w i (cond t (c, No HasChildren) (without_branch c k, DropBranch)) ≡ (v, a))
          go true e = goes_to (λ v a. with_client w i (c, No HasChildren) ≡ (v, a)) c (No HasChildren) refl goes_nowhere
          go false e = goes_to (λ v a. with_client w i (without_branch c k, DropBranch) ≡ (v, a)) (without_branch c k) DropBranch refl (drop_goes h st Any w.log w.clients s.sessions s.clients s.few_names s.schema i c at k b is e)

    branches_lead : (k : ℕ) (l : Line) → line_of c k ≡ Some l → BranchesLead h w s i c k l
    branches_lead k l line = record {
      forks = forks_lead k l line;
      rebases = on_own_leads k (λ v a b l. (d : Client) × Unless (refusal_to_rebase b) c d a (IsRebased (opening_document h) w.log c k b l d a) × (v ≡ record w { clients = slice_set w.clients i d })) (λ b l is line. has_rebased k b l is line);
      merges = on_own_leads k (λ v a b l. (d : Client) × Unless (refusal_to_merge c k b l) c d a (IsMerged (opening_document h) w.log c k b l d a) × (v ≡ record w { clients = slice_set w.clients i d })) (λ b l is line. has_merged k b l is line);
      drops = on_own_leads k (λ v a b l. with_client w i (drop_branch c k) ≡ (v, a)) (λ b l is line. has_branch_dropped k b l is line);
    }

  -- each line of each client goes on, and so do the steps of branches
  pub all_lead : AllLead h w s
  all_lead = record {
    lines = λ i c k l at line. line_goes h st Any w.log w.clients s.sessions s.clients s.few_names s.schema i c at k l line;
    branches = λ i c k l at line. branches_lead i c at k l line;
  }
