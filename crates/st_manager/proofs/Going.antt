-- What is told goes on by a commit that is known.
use Rattle.std.proofs.Common.{◌≡◌, ◌≢◌, ◌≤◌, ◌==◌, ◌++◌, ◌∷◌, ◌⊎◌, [], ℕ, Bool, true, false, List, length, Option, None, Some, inl, inr, refl, sym, ap, ◌∙◌, subst, arith, append_assoc}
use Rattle.std.proofs.lemmas.Bool.Decides.{nat_tests}
use Rattle.st_clusters.specs.declared.ids.IdRange.{IdRange}
use Rattle.st_ids.specs.Listing.{Has}
use Rattle.st_ids.specs.Root.{opening}
use Rattle.st_ids.specs.declared.names.Rev.{Rev}
use Rattle.st_lists.specs.Log.{commits_in, log_with}
use Rattle.st_lists.specs.declared.lists.Body.{Body}
use Rattle.st_lists.specs.declared.lists.Body.TheVariants.{Commit}
use Rattle.st_lists.specs.declared.lists.Entry.{Entry}
use Rattle.st_lists.proofs.Logs.{entered_commits, last_entry}
use Rattle.st_log_laws.specs.Names.{HaveNewRevisions, IsMadeUnder}
use Rattle.st_log_laws.specs.Turns.{FitInTurn, HasRoom}
use Rattle.st_log_laws.proofs.Beside.{another_later}
use Rattle.st_log_laws.proofs.Turns.{rest}
use Rattle.st_marks.specs.declared.changes.Change.{Change}
use Rattle.st_marks.specs.declared.intents.Intent.{Intent}
use Rattle.st_marks.specs.Document.{Document, IsSoundInForm}
use Rattle.st_marks.proofs.Members.{append_left, append_right, distinct-append, distinct-between, distinct-left, distinct-right, has-all, has-append}
use Rattle.st_valid.specs.Room.{HasRoomForNames}
use Rattle.st_valid.specs.declared.message.Message.{Message}
use Rattle.st_valid_laws.specs.Messages.{IsBodyOf, IsValid, IsValidLog, one_message_more}
use Rattle.st_valid_laws.proofs.ValidLogs.{have_new_revisions, have_own_revisions}
use Rattle.st_valid_laws.proofs.Standing.{all_stand}
use Rattle.st_manager.specs.Taking.{IsKnownAs}
use Rattle.st_manager.specs.Told.{IsNextTold, IsSoundTold, IsTrunk, Told, local_list}

-- ## Another commit before the pending ones

new_between : (rs : List Rev) (Ns : List Intent) (N : Intent) (Ms : List Intent) → HaveNewRevisions rs (Ns ++ N ∷ []) → HaveNewRevisions rs (Ns ++ Ms) → ((M : Intent) → Has Ms M → M.rev ≢ N.rev) → HaveNewRevisions rs (Ns ++ N ∷ Ms)
new_between rs Ns N Ms a b other = record {
  once = distinct-append (λ (M : Intent). M.rev) Ns (N ∷ Ms) (distinct-left (λ (M : Intent). M.rev) Ns Ms b.once)
      (has-all (λ (M : Intent). M.rev ≢ N.rev) Ms other, distinct-right (λ (M : Intent). M.rev) Ns Ms b.once) apart;
  new = λ M i. new M (has-append Ns (N ∷ Ms) M i);
}
  where
    apart : (M K : Intent) → Has Ns M → Has (N ∷ Ms) K → K.rev ≢ M.rev
    apart M K i (inl e) = distinct-between (λ (M : Intent). M.rev) Ns (N ∷ []) M K a.once i (inl e)
    apart M K i (inr j) = distinct-between (λ (M : Intent). M.rev) Ns Ms M K b.once i j

    new : (M : Intent) → Has Ns M ⊎ Has (N ∷ Ms) M → Has rs M.rev → ⊥
    new M (inl i) = b.new M (append_left Ns Ms M i)
    new M (inr (inl e)) = a.new M (append_right Ns (N ∷ []) M (inl e))
    new M (inr (inr j)) = b.new M (append_right Ns Ms M j)

-- ## The log

pub valid_more : (O : Document) (log : List Entry) (session : ℕ) (body : Body) (m : Message) → m.session ≡ session → IsValidLog O log → IsValid O log m → IsBodyOf O log session m.said body → IsValidLog O (log_with log session body)
valid_more O log session body m of before valid says = subst (λ s. IsValidLog O (log_with log s body)) of (one_message_more before m valid body (subst (λ s. IsBodyOf O log s m.said body) (sym of) says))

own_revision : (O : Document) (log : List Entry) (session reference : ℕ) (ids : IdRange) (N : Intent) → IsValidLog O (log_with log session (Commit reference ids N)) → N.rev.session ≡ session
own_revision O log session reference ids N v =
    let e : Entry = last_entry log session (Commit reference ids N) in
    have_own_revisions v e (append_right log (e ∷ []) e (inl refl)) N refl

-- ## What is told

own_or_other : (o : Option ℕ) (session : ℕ) → (o ≡ Some session) ⊎ ((o ≡ Some session) → ⊥)
own_or_other None session = inr (λ e. cc)
own_or_other (Some k) session = go (k == session) refl
  where
    go : (b : Bool) → (k == session) ≡ b → (Some k ≡ Some session) ⊎ ((Some k ≡ Some session) → ⊥)
    go true e = let same : k ≡ session = grind (arith, nat_tests) in inl (ap (λ n. Some n) same)
    go false e = let differ : k ≢ session = grind (arith, nat_tests) in inr (λ q. let same : k ≡ session = cc in differ same)

-- the pending commits, and the local view's list
record GoesOn (t u : Told) : Type 0 where
  own : (M : Intent) → Has u.pending M → Has t.pending M
  few : length u.pending ≤ length t.pending
  fits : FitInTurn t.opening (local_list u)
  new : HaveNewRevisions (opening ∷ []) (local_list u)

module _ (t u : Told) (session reference : ℕ) (ids : IdRange) (N : Intent) (n : IsNextTold t session (Commit reference ids N) u) where
  pub entered : commits_in u.log ≡ commits_in t.log ++ N ∷ []
  entered = ap commits_in n.log ∙ entered_commits t.log session (Commit reference ids N)

  pub list_after : local_list u ≡ commits_in t.log ++ N ∷ u.pending
  list_after = ap (λ Ns. Ns ++ u.pending) entered ∙ append_assoc (commits_in t.log) (N ∷ []) u.pending

  module _ (s : IsSoundTold t) (v : IsValidLog t.opening (log_with t.log session (Commit reference ids N))) where
    own_goes : t.own ≡ Some session → GoesOn t u
    own_goes own =
        let first : t.pending ≡ N ∷ u.pending = n.pending.0 own in
        let same : local_list t ≡ local_list u = ap (λ Ns. commits_in t.log ++ Ns) first ∙ sym list_after in
        let one : length t.pending ≡ length (N ∷ u.pending) = ap length first in
        record {
          own = λ M h. subst (λ Ns. Has Ns M) (sym first) (inr h);
          few = omega (arith, one);
          fits = subst (FitInTurn t.opening) same s.fits;
          new = subst (HaveNewRevisions (opening ∷ [])) same s.new;
        }

    other_goes : ((t.own ≡ Some session) → ⊥) → HasRoom u.opening (local_list u) → GoesOn t u
    other_goes other room =
        let stays : u.pending ≡ t.pending = n.pending.1 other in
        let list : commits_in t.log ++ N ∷ t.pending ≡ local_list u = sym (list_after ∙ ap (λ Ns. commits_in t.log ++ N ∷ Ns) stays) in
        let after = entered_commits t.log session (Commit reference ids N) in
        let apart : (M : Intent) → Has t.pending M → M.rev ≢ N.rev = λ M h e. other (s.own M h ∙ ap (λ (r : Rev). Some r.session) e ∙ ap (λ k. Some k) (own_revision t.opening t.log session reference ids N v)) in
        let new : HaveNewRevisions (opening ∷ []) (commits_in t.log ++ N ∷ t.pending) =
        new_between (opening ∷ []) (commits_in t.log) N t.pending (subst (HaveNewRevisions (opening ∷ [])) after (have_new_revisions v)) s.new apart in
        record {
          own = λ M h. subst (λ Ns. Has Ns M) stays h;
          few = let same : length u.pending ≡ length t.pending = ap length stays in omega (arith, same);
          fits = subst (FitInTurn t.opening) list (another_later (opening ∷ []) t.opening (commits_in t.log) N t.pending s.sound s.made
              (subst (FitInTurn t.opening) after (all_stand t.opening s.sound s.made s.names v).whole.fit) s.fits new
              (subst (HasRoom t.opening) (sym list) (subst (λ O. HasRoom O (local_list u)) n.opening room)));
          new = subst (HaveNewRevisions (opening ∷ [])) list new;
        }

    goes : HasRoom u.opening (local_list u) → GoesOn t u
    goes room = elim (own_or_other t.own session) [ inl own ↦ own_goes own | inr other ↦ other_goes other room ]

    sound_after : HasRoom u.opening (local_list u) → IsSoundTold u
    sound_after room =
        let on = goes room in
        let back = sym n.opening in
        record {
          sound = subst IsSoundInForm back s.sound;
          made = subst (IsMadeUnder (opening ∷ [])) back s.made;
          names = subst HasRoomForNames back s.names;
          valid = subst (λ O. IsValidLog O u.log) back (subst (IsValidLog t.opening) (sym n.log) v);
          own = λ M h. n.own ∙ s.own M (on.own M h);
          few = omega (arith, on.few, s.few);
          fits = subst (λ O. FitInTurn O (local_list u)) back on.fits;
          new = on.new;
          room = room;
        }

-- where a commit that is known comes next and leaves room, what is told after it is sound again
pub told_goes_on : (l : Bool) (t u : Told) (session reference : ℕ) (ids : IdRange) (C : Change) (N : Intent) → IsSoundTold t → IsKnownAs l t session reference ids C N → IsNextTold t session (Commit reference ids N) u
    → HasRoom u.opening (local_list u) → IsSoundTold u
told_goes_on l t u session reference ids C N s k n room =
    sound_after t u session reference ids N n s (valid_more t.opening t.log session (Commit reference ids N) k.message k.of s.valid k.valid k.says) room

-- ## The pending commits

-- they fit behind all commits received
pub pending_fit : (t : Told) (T : Document) → IsSoundTold t → IsTrunk t T → FitInTurn T t.pending
pending_fit t T s r = rest t.pending r s.fits

-- and where another's commit came, so do those that were pending before it
pub pending_fit_after : (t u : Told) (session reference : ℕ) (ids : IdRange) (N : Intent) (T : Document) → IsSoundTold u → IsNextTold t session (Commit reference ids N) u → ((t.own ≡ Some session) → ⊥) → IsTrunk u T → FitInTurn T t.pending
pending_fit_after t u session reference ids N T s n other r = subst (FitInTurn T) (n.pending.1 other) (pending_fit u T s r)
