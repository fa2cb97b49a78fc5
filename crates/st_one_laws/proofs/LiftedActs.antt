-- The acts as they stand, and those of one client lifted to the world, are the same.
use Rattle.std.proofs.Common.{◌≡◌, ℕ, zero, suc, List, [], ◌∷◌, Option, Some, None, refl, sym, ap, ◌∙◌}
use Rattle.std.specs.List.{slice_get, slice_set}
use Rattle.st_script.specs.Header.{HeaderView}
use Rattle.st_script.specs.Steps.{ActView}
use Rattle.st_script.specs.Steps as step
use Rattle.st_script.specs.declared.answer.Answer.{Answer}
use Rattle.st_script.specs.declared.answer.Answer.TheVariants as answer
use Rattle.st_script.specs.declared.refusal.Refusal.TheVariants as no
use Rattle.st_lists.specs.Clients.{with_ack}
use Rattle.st_lists.specs.Lines.{Line, branch_of, line_of}
use Rattle.st_lists.specs.declared.lists.Branch.{Branch}
use Rattle.st_lists.specs.declared.lists.Client.{Client}
use Rattle.st_lists.specs.declared.lists.WorldState.{WorldState}
use Rattle.st_world.specs.Branches.{IsMerged, IsRebased, drop_branch, fork, refusal_to_fork, refusal_to_merge, refusal_to_rebase}
use Rattle.st_world.specs.Kept.{Unless}
use Rattle.st_world.specs.World.{IsActOf, OnOwnBranch, OnParent, abort, commit, opening_document, with_client}
use Rattle.st_one_laws.specs.ClientActs.{IsActCut, WithBranch, WithParent}

set_same : {A : Type 0} (xs : List A) (i : ℕ) (x : A) → slice_get xs i ≡ Some x → xs ≡ slice_set xs i x
set_same [] i x e = refl
set_same (y ∷ ys) zero x e = let same : y ≡ x = cc in ap (λ z. z ∷ ys) same
set_same (y ∷ ys) (suc i) x e = ap (λ zs. y ∷ zs) (set_same ys i x e)

module _ (h : HeaderView) (w : WorldState) (i : ℕ) (c : Client) (at : slice_get w.clients i ≡ Some c) (v : WorldState) (a : Answer) where
  abbrev Set : Client → Type 0
  Set d = v ≡ record w { clients = slice_set w.clients i d }

  stays : w ≡ record w { clients = slice_set w.clients i c }
  stays = ap (λ cs. record w { clients = cs }) (set_same w.clients i c at)

  -- what changes no client
  kept_to : (b : Answer) → (v ≡ w) × (a ≡ b) → (d : Client) × ((d ≡ c) × (a ≡ b)) × Set d
  kept_to b p = (c, (refl, p.1), p.0 ∙ stays)

  kept_back : (b : Answer) → ((d : Client) × ((d ≡ c) × (a ≡ b)) × Set d) → (v ≡ w) × (a ≡ b)
  kept_back b (d, p, e) = (e ∙ ap (λ x. record w { clients = slice_set w.clients i x }) p.0 ∙ sym stays, p.1)

  shown_to : (P : Type 0) → (v ≡ w) × P → (d : Client) × ((d ≡ c) × P) × Set d
  shown_to P p = (c, (refl, p.1), p.0 ∙ stays)

  shown_back : (P : Type 0) → ((d : Client) × ((d ≡ c) × P) × Set d) → (v ≡ w) × P
  shown_back P (d, p, e) = (e ∙ ap (λ x. record w { clients = slice_set w.clients i x }) p.0 ∙ sym stays, p.1)

  -- what is a function
  pair_to : (p : Client × Answer) → with_client w i p ≡ (v, a) → (d : Client) × (p ≡ (d, a)) × Set d
  pair_to p e = (p.0, (λ j. (p.0, (e j).1)), sym (ap (λ (x : WorldState × Answer). x.0) e))

  pair_back : (p : Client × Answer) → ((d : Client) × (p ≡ (d, a)) × Set d) → with_client w i p ≡ (v, a)
  pair_back p (d, e, f) = ap (with_client w i) e ∙ (λ j. (sym f j, a))

  -- what goes by a branch and its parent
  parent_to : (does : Line → Type 0) (did : Client → Line → Type 0) (o : Option Line) → ((l : Line) → does l → (d : Client) × did d l × Set d) → OnParent w does o v a → (d : Client) × WithParent c (did d) o d a × Set d
  parent_to does did None f p = kept_to (answer.No no.NoBranch) p
  parent_to does did (Some l) f p = f l p

  parent_back : (does : Line → Type 0) (did : Client → Line → Type 0) (o : Option Line) → ((l : Line) → ((d : Client) × did d l × Set d) → does l) → ((d : Client) × WithParent c (did d) o d a × Set d) → OnParent w does o v a
  parent_back does did None f p = kept_back (answer.No no.NoBranch) p
  parent_back does did (Some l) f p = f l p

  branch_to : (does : Branch → Line → Type 0) (did : Client → Branch → Line → Type 0) (o : Option Branch) → ((b : Branch) (l : Line) → does b l → (d : Client) × did d b l × Set d) → OnOwnBranch w c does o v a → (d : Client) × WithBranch c (did d) o d a × Set d
  branch_to does did None f p = kept_to (answer.No no.NoBranch) p
  branch_to does did (Some b) f p = parent_to (does b) (λ d. did d b) (line_of c b.parent) (f b) p

  branch_back : (does : Branch → Line → Type 0) (did : Client → Branch → Line → Type 0) (o : Option Branch) → ((b : Branch) (l : Line) → ((d : Client) × did d b l × Set d) → does b l) → ((d : Client) × WithBranch c (did d) o d a × Set d) → OnOwnBranch w c does o v a
  branch_back does did None f p = kept_back (answer.No no.NoBranch) p
  branch_back does did (Some b) f p = parent_back (does b) (λ d. did d b) (line_of c b.parent) (f b) p

  module _ (k : ℕ) (l : Line) where
    abbrev DoesRebase : Client → Branch → Line → Type 0
    DoesRebase d b p = Unless (refusal_to_rebase b) c d a (IsRebased (opening_document h) w.log c k b p d a)

    abbrev DoesMerge : Client → Branch → Line → Type 0
    DoesMerge d b p = Unless (refusal_to_merge c k b p) c d a (IsMerged (opening_document h) w.log c k b p d a)

    pub act_to : (x : ActView) → IsActOf h w x i c k l v a → IsActCut h w x i c k l v a
    act_to (step.join uuid) p = kept_to (answer.No no.Taken) p
    act_to (step.edit e) (D, d, s, p, q) = (d, (D, s, p), q)
    act_to (step.need path) (D, d, s, p, q) = (d, (D, s, p), q)
    act_to step.begin (D, d, s, p, q) = (d, (D, s, p), q)
    act_to step.commit p = pair_to (commit c k l.transaction) p
    act_to step.abort p = pair_to (abort c k l.transaction) p
    act_to (step.undo rev) p = p
    act_to (step.upgrade new) (D, d, s, p, q) = (d, (D, s, p), q)
    act_to step.sequence p = p
    act_to step.ack p = pair_to (with_ack c, answer.Ack c.received) p
    act_to step.deliver (D, d, s, p, q) = (d, (D, s, p), q)
    act_to step.leave p = p
    act_to step.drop_client p = p
    act_to step.reconnect p = p
    act_to step.fork p = pair_to (fork c k l (refusal_to_fork c l)) p
    act_to step.rebase p = branch_to (λ b m. (d : Client) × DoesRebase d b m × Set d) DoesRebase (branch_of c k) (λ b m q. q) p
    act_to step.merge p = branch_to (λ b m. (d : Client) × DoesMerge d b m × Set d) DoesMerge (branch_of c k) (λ b m q. q) p
    act_to step.drop_branch p = branch_to (λ b m. with_client w i (drop_branch c k) ≡ (v, a)) (λ d b m. drop_branch c k ≡ (d, a)) (branch_of c k) (λ b m q. pair_to (drop_branch c k) q) p
    act_to step.show p = shown_to _ p
    act_to step.pending p = shown_to _ p

    pub act_back : (x : ActView) → IsActCut h w x i c k l v a → IsActOf h w x i c k l v a
    act_back (step.join uuid) p = kept_back (answer.No no.Taken) p
    act_back (step.edit e) (d, (D, s, p), q) = (D, d, s, p, q)
    act_back (step.need path) (d, (D, s, p), q) = (D, d, s, p, q)
    act_back step.begin (d, (D, s, p), q) = (D, d, s, p, q)
    act_back step.commit p = pair_back (commit c k l.transaction) p
    act_back step.abort p = pair_back (abort c k l.transaction) p
    act_back (step.undo rev) p = p
    act_back (step.upgrade new) (d, (D, s, p), q) = (D, d, s, p, q)
    act_back step.sequence p = p
    act_back step.ack p = pair_back (with_ack c, answer.Ack c.received) p
    act_back step.deliver (d, (D, s, p), q) = (D, d, s, p, q)
    act_back step.leave p = p
    act_back step.drop_client p = p
    act_back step.reconnect p = p
    act_back step.fork p = pair_back (fork c k l (refusal_to_fork c l)) p
    act_back step.rebase p = branch_back (λ b m. (d : Client) × DoesRebase d b m × Set d) DoesRebase (branch_of c k) (λ b m q. q) p
    act_back step.merge p = branch_back (λ b m. (d : Client) × DoesMerge d b m × Set d) DoesMerge (branch_of c k) (λ b m q. q) p
    act_back step.drop_branch p = branch_back (λ b m. with_client w i (drop_branch c k) ≡ (v, a)) (λ d b m. drop_branch c k ≡ (d, a)) (branch_of c k) (λ b m q. pair_back (drop_branch c k) q) p
    act_back step.show p = shown_back _ p
    act_back step.pending p = shown_back _ p
