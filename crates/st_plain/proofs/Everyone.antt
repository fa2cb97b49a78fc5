-- What is kept of all clients.
use Rattle.std.proofs.Common.{◌≡◌, ◌≢◌, ◌≤◌, ◌+◌, ◌==◌, ℕ, zero, suc, false, List, [], ◌∷◌, ◌++◌, Some, None, refl, subst}
use Rattle.std.specs.List.{remove, slice_get, slice_set, AllByRecursion}
use Rattle.st_script.specs.Header.{HeaderView}
use Rattle.st_world_laws.specs.Worlds.{IsClient, HaveOwnSessions}
use Rattle.st_plain.specs.Replicas.{IsReplicaOf, AreReplicas}
use Rattle.st_ids.proofs.Shared.{at_has}
use Rattle.st_lists.specs.Log.{commit_in, log_with, commits_in}
use Rattle.st_lists.proofs.Present.{are_apart}
use Rattle.st_lists.specs.Names.{names_in, names_in_text}
use Rattle.st_world.specs.World.{opening_document}
use Rattle.st_heads.specs.declared.replica.Replica.{Replica}
use Rattle.st_lists.specs.declared.lists.Client.{Client}
use Rattle.st_lists.specs.declared.lists.Entry.{Entry}
use Rattle.st_world_laws.proofs.Begun.{IsStart}
use Rattle.st_world_laws.proofs.Clients.{client_after_text, client_beside, client_sent}
use Rattle.st_plain.proofs.Keeping.{AreOne, kept_entered, kept_rest}
use Rattle.st_lists.specs.declared.lists.Body.{Body}
use Rattle.st_world_laws.proofs.Everyone.{others_apart}

module _ (h : HeaderView) (log : List Entry) where
  pub kept_at : (cs : List Client) (ks : List Replica) (i : ℕ) (c : Client) (k : Replica) → AreReplicas h log cs ks → slice_get cs i ≡ Some c → slice_get ks i ≡ Some k → AreOne h log c k
  kept_at [] ks i c k w p q = cc
  kept_at (x ∷ cs) [] i c k w p q = absurd w
  kept_at (x ∷ cs) (y ∷ ks) zero c k w p q =
      let same_c : x ≡ c = cc in
      let same_k : y ≡ k = cc in
      rw (← same_c, ← same_k) (record { client = w.0; kept = w.1 })
  kept_at (x ∷ cs) (y ∷ ks) (suc i) c k w p q = kept_at cs ks i c k w.2 p q

  -- a client has something kept
  pub kept_none : (cs : List Client) (ks : List Replica) (i : ℕ) (c : Client) → AreReplicas h log cs ks → slice_get cs i ≡ Some c → slice_get ks i ≡ None → ⊥
  kept_none [] ks i c w p q = cc
  kept_none (x ∷ cs) [] i c w p q = w
  kept_none (x ∷ cs) (y ∷ ks) zero c w p q = cc
  kept_none (x ∷ cs) (y ∷ ks) (suc i) c w p q = kept_none cs ks i c w.2 p q

  -- what is kept is a client's
  pub kept_of : (cs : List Client) (ks : List Replica) (i : ℕ) (k : Replica) → AreReplicas h log cs ks → slice_get ks i ≡ Some k → (c : Client) × (slice_get cs i ≡ Some c)
  kept_of [] [] i k w q = cc
  kept_of [] (y ∷ ks) i k w q = absurd w
  kept_of (x ∷ cs) [] i k w q = cc
  kept_of (x ∷ cs) (y ∷ ks) zero k w q = (x, refl)
  kept_of (x ∷ cs) (y ∷ ks) (suc i) k w q = kept_of cs ks i k w.2 q

  pub kept_some : (cs : List Client) (ks : List Replica) (i : ℕ) (c : Client) → AreReplicas h log cs ks → slice_get cs i ≡ Some c → IsClient h log c
  kept_some [] ks i c w p = cc
  kept_some (x ∷ cs) [] i c w p = absurd w
  kept_some (x ∷ cs) (y ∷ ks) zero c w p = let same : x ≡ c = cc in rw (← same) w.0
  kept_some (x ∷ cs) (y ∷ ks) (suc i) c w p = kept_some cs ks i c w.2 p

  pub clients_of : (cs : List Client) (ks : List Replica) → AreReplicas h log cs ks → AllByRecursion (IsClient h log) cs
  clients_of [] ks w = tt
  clients_of (x ∷ cs) [] w = absurd w
  clients_of (x ∷ cs) (y ∷ ks) w = (w.0, clients_of cs ks w.2)

  -- one client goes on, and the others stay
  pub kept_set : (cs : List Client) (ks : List Replica) (i : ℕ) (c : Client) (k : Replica) → AreReplicas h log cs ks → AreOne h log c k → AreReplicas h log (slice_set cs i c) (slice_set ks i k)
  kept_set [] [] i c k w one = tt
  kept_set [] (y ∷ ks) i c k w one = absurd w
  kept_set (x ∷ cs) [] i c k w one = absurd w
  kept_set (x ∷ cs) (y ∷ ks) zero c k w one = (one.client, one.kept, w.2)
  kept_set (x ∷ cs) (y ∷ ks) (suc i) c k w one = (w.0, w.1, kept_set cs ks i c k w.2 one)

  pub kept_push : (cs : List Client) (ks : List Replica) (c : Client) (k : Replica) → AreReplicas h log cs ks → IsClient h log c → IsReplicaOf h log c k → AreReplicas h log (cs ++ c ∷ []) (ks ++ k ∷ [])
  kept_push [] [] c k w p q = (p, q, tt)
  kept_push [] (y ∷ ks) c k w p q = absurd w
  kept_push (x ∷ cs) [] c k w p q = absurd w
  kept_push (x ∷ cs) (y ∷ ks) c k w p q = (w.0, w.1, kept_push cs ks c k w.2 p q)

  -- one client goes
  pub kept_without : (cs : List Client) (ks : List Replica) (i : ℕ) → AreReplicas h log cs ks → AreReplicas h log (remove cs i) (remove ks i)
  kept_without [] [] zero w = tt
  kept_without [] [] (suc i) w = tt
  kept_without [] (k ∷ ks) i w = absurd w
  kept_without (c ∷ cs) [] i w = absurd w
  kept_without (c ∷ cs) (k ∷ ks) zero w = w.2
  kept_without (c ∷ cs) (k ∷ ks) (suc i) w = (w.0, w.1, kept_without cs ks i w.2)

module _ (h : HeaderView) (st : IsStart (opening_document h)) (log : List Entry) where
  -- the oldest text of one client is in the log
  module _ (c : Client) (text : Body) (rest : List Body) (own : IsClient h log c) (is : c.queue ≡ text ∷ rest) (few : names_in (commits_in log) + names_in_text text ≤ 131072) where
    abbrev longer : List Entry
    longer = log_with log c.session text

    beside : (d : Client) (k : Replica) → (c.session == d.session) ≡ false → IsClient h log d → IsReplicaOf h log d k → AreOne h longer d k
    beside d k apart w v = record { client = client_beside h st log c d text rest own w is apart few; kept = kept_entered h st log c.session text d k w v }

    all_beside : (cs : List Client) (ks : List Replica) → AllByRecursion (λ (x : Client). x.session ≢ c.session) cs → AreReplicas h log cs ks → AreReplicas h longer cs ks
    all_beside [] [] apart w = tt
    all_beside [] (k ∷ ks) apart w = absurd w
    all_beside (d ∷ cs) [] apart w = absurd w
    all_beside (d ∷ cs) (k ∷ ks) apart w =
        let one = beside d k (are_apart c.session d.session apart.0) w.0 w.1 in
        (one.client, one.kept, all_beside cs ks apart.1 w.2)

    pub all_sent : (cs : List Client) (ks : List Replica) (i : ℕ) → HaveOwnSessions cs → slice_get cs i ≡ Some c → AreReplicas h log cs ks → AreReplicas h longer (slice_set cs i (record c { queue = rest })) ks
    all_sent [] ks i s at w = cc
    all_sent (d ∷ cs) [] i s at w = absurd w
    all_sent (d ∷ cs) (k ∷ ks) zero s at w =
        let same : d ≡ c = cc in
        let kept : IsReplicaOf h log c k = rw (← same) w.1 in
        let apart = subst (λ (x : Client). AllByRecursion (λ (y : Client). y.session ≢ x.session) cs) same s.0 in (
          client_sent h st log c text rest own is,
          kept_rest h st longer c rest k (kept_entered h st log c.session text c k own kept),
          all_beside cs ks apart w.2,
        )
    all_sent (d ∷ cs) (k ∷ ks) (suc i) s at w =
        let one = beside d k (others_apart cs d c s.0 (at_has cs i c at)) w.0 w.1 in
        (one.client, one.kept, all_sent cs ks i s.1 at w.2)

  -- the log has an entry without a commit
  pub all_after_text : (session : ℕ) (text : Body) → commit_in text ≡ None → (cs : List Client) (ks : List Replica) → AreReplicas h log cs ks → AreReplicas h (log_with log session text) cs ks
  all_after_text session text none [] [] w = tt
  all_after_text session text none [] (k ∷ ks) w = absurd w
  all_after_text session text none (c ∷ cs) [] w = absurd w
  all_after_text session text none (c ∷ cs) (k ∷ ks) w =
      (client_after_text h st log session text c none w.0, kept_entered h st log session text c k w.0 w.1, all_after_text session text none cs ks w.2)
