-- What a step does to the log: it stays, or one entry comes.
use Rattle.std.proofs.Common.{◌≡◌, ◌≢◌, ◌≤◌, ◌+◌, ◌==◌, ℕ, zero, suc, Bool, true, false, cond, List, [], ◌∷◌, ◌++◌, length, nat_le, Option, Some, None, ◌⊎◌, inl, inr, refl, sym, ap, ◌∙◌, subst, arith}
use Rattle.std.specs.List.{AllByRecursion, cons_option, slice_get, slice_set}
use Rattle.std.specs.Option.{option_and_then}
use Rattle.std.specs.Prelude.{option_map}
use Rattle.std.proofs.lemmas.List.{append-nil}
use Rattle.st_ids.specs.declared.names.Limit.{Limit}
use Rattle.st_ids.specs.declared.names.LimitOf.TheVariants.{Clients, Log}
use Rattle.st_clusters.specs.Log.{carried_count}
use Rattle.st_clusters.specs.declared.ids.IdRange.{IdRange}
use Rattle.st_clusters.proofs.Logs.{carried_other}
use Rattle.st_script.specs.Header.{HeaderView}
use Rattle.st_script.specs.Steps.{ActView, StepView}
use Rattle.st_script.specs.Steps as step
use Rattle.st_script.specs.declared.answer.Answer.{Answer}
use Rattle.st_script.specs.declared.answer.Answer.TheVariants.{Ack as Acked, No}
use Rattle.st_script.specs.declared.refusal.Refusal.{Refusal}
use Rattle.st_script.specs.declared.refusal.Refusal.TheVariants.{Clash, NoClient, NothingToSend}
use Rattle.st_lists.specs.Clients.{place_of, with_ack}
use Rattle.st_lists.specs.Limits.{entries_limit_passed, log_limit_passed}
use Rattle.st_lists.specs.Lines.{Line, branch_of, line_of}
use Rattle.st_lists.specs.Log.{clashes, log_with, range_in, ranges_in, ranges_of, sessions_in}
use Rattle.st_lists.specs.Names.{names_in_text}
use Rattle.st_lists.specs.declared.lists.Body.{Body}
use Rattle.st_lists.specs.declared.lists.Body.TheVariants.{Join, Leave}
use Rattle.st_lists.specs.declared.lists.Branch.{Branch}
use Rattle.st_lists.specs.declared.lists.Client.{Client}
use Rattle.st_lists.specs.declared.lists.WorldState.{WorldState}
use Rattle.st_lists.proofs.Logs.{last_entry}
use Rattle.st_lists.specs.declared.lists.Entry.{Entry}
use Rattle.st_world.specs.Branches.{drop_branch, fork, refusal_to_fork}
use Rattle.st_world.specs.World.{AtClient, ByConnected, IsActOf, IsNext, OnLine, OnOwnBranch, OnParent, abort, act_of_none, after_entry, branch_at, commit, drop_client, enter, join, leave, limit_refusal, needs_connection, reconnect, refusal_to_reconnect, sequence, uuid_for, with_client}
use Rattle.st_world_laws.specs.Worlds.{IsCarried, IsClient, IsWorld}
use Rattle.st_world_laws.proofs.Everyone.{all_get}
use Rattle.st_world_laws.proofs.Ranges.{entered_ranges, same_ranges}

-- an entry that comes carries no ids, or is the oldest text of a client that waits
pub record IsText (w : WorldState) (session : ℕ) (body : Body) : Type 0 where
  pub place : ℕ
  pub client : Client
  pub there : slice_get w.clients place ≡ Some client
  pub rest : List Body
  pub first : client.queue ≡ body ∷ rest
  pub own : session ≡ client.session

abbrev pub IsSent : WorldState → ℕ → Body → Type 0
IsSent w session body = (range_in body ≡ None) ⊎ IsText w session body

pub record IsEntered (w v : WorldState) : Type 0 where
  pub session : ℕ
  pub body : Body
  pub is : v.log ≡ log_with w.log session body
  pub sent : IsSent w session body

abbrev pub LogNext : WorldState → WorldState → Type 0
LogNext w v = (v.log ≡ w.log) ⊎ IsEntered w v

module _ (h : HeaderView) (w : WorldState) (v : WorldState) (a : Answer) where
  -- where the log stays
  kept : v.log ≡ w.log → LogNext w v
  kept e = inl e

  -- where the lists stay
  same : v ≡ w → LogNext w v
  same e = kept (ap (λ (u : WorldState). u.log) e)

  -- so where they stay as they are told
  as_told : (b : Answer) → ◌≡◌ {A = WorldState × Answer} (w, b) (v, a) → LogNext w v
  as_told b e = kept (sym (ap (λ (q : WorldState × Answer). q.0.log) e))

  -- an entry comes
  entered : (session : ℕ) (body : Body) (p : WorldState × Answer) → p ≡ (v, a) → p.0.log ≡ log_with w.log session body → IsSent w session body → LogNext w v
  entered session body p e is from = inr (record { session = session; body = body; is = sym (ap (λ (q : WorldState × Answer). q.0.log) e) ∙ is; sent = from })

  module _ (i : ℕ) (c : Client) (at : slice_get w.clients i ≡ Some c) where
    -- where only the clients change
    now : (cs : List Client) → v ≡ record w { clients = cs } → LogNext w v
    now cs e = kept (ap (λ (u : WorldState). u.log) e)

    now_as : (p : Client × Answer) → with_client w i p ≡ (v, a) → LogNext w v
    now_as p e = kept (sym (ap (λ (q : WorldState × Answer). q.0.log) e))

    sent : (texts : List Body) → c.queue ≡ texts → sequence w i c texts ≡ (v, a) → LogNext w v
    sent [] is e = as_told (No NothingToSend) e
    sent (text ∷ rest) is e = go (log_limit_passed w.log (names_in_text text)) e
      where
        go : (o : Option Limit) → after_entry w i c text rest o ≡ (v, a) → LogNext w v
        go (Some l) e = as_told (limit_refusal l) e
        go None e = entered c.session text (after_entry w i c text rest None) e refl (inr (record { place = i; client = c; there = at; rest = rest; first = is; own = refl }))

    left : leave w i c (entries_limit_passed w.log) ≡ (v, a) → LogNext w v
    left e = go (entries_limit_passed w.log) e
      where
        go : (o : Option Limit) → leave w i c o ≡ (v, a) → LogNext w v
        go (Some l) e = as_told (limit_refusal l) e
        go None e = entered c.session Leave (leave w i c None) e refl (inl refl)

    dropped : drop_client w i c (entries_limit_passed w.log) ≡ (v, a) → LogNext w v
    dropped e = go (entries_limit_passed w.log) e
      where
        go : (o : Option Limit) → drop_client w i c o ≡ (v, a) → LogNext w v
        go (Some l) e = as_told (limit_refusal l) e
        go None e = entered c.session Leave (drop_client w i c None) e refl (inl refl)

    returned : reconnect w i c (refusal_to_reconnect w.log c) ≡ (v, a) → LogNext w v
    returned e = go (refusal_to_reconnect w.log c) e
      where
        go : (o : Option Refusal) → reconnect w i c o ≡ (v, a) → LogNext w v
        go (Some why) e = as_told (No why) e
        go None e = entered c.session (Join c.uuid) (reconnect w i c None) e refl (inl refl)

    -- on a branch that the client has, by its parent's line
    on_own : (j : ℕ) (does : Branch → Line → Type 0) → ((b : Branch) (l : Line) → does b l → LogNext w v) → OnOwnBranch w c does (branch_of c j) v a → LogNext w v
    on_own j does some x = go (branch_of c j) x
      where
        by : (b : Branch) (o : Option Line) → OnParent w (does b) o v a → LogNext w v
        by b None x = same x.0
        by b (Some l) x = some b l x

        go : (o : Option Branch) → OnOwnBranch w c does o v a → LogNext w v
        go None x = same x.0
        go (Some b) x = by b (line_of c b.parent) x

    acted : (x : ActView) (j : ℕ) (l : Line) → IsActOf h w x i c j l v a → LogNext w v
    acted (step.join uuid) j l y = same y.0
    acted (step.edit e) j l y = now (slice_set w.clients i y.1) y.4
    acted (step.need path) j l y = now (slice_set w.clients i y.1) y.4
    acted step.begin j l y = now (slice_set w.clients i y.1) y.4
    acted step.commit j l y = now_as (commit c j l.transaction) y
    acted step.abort j l y = now_as (abort c j l.transaction) y
    acted (step.undo rev) j l y = now (slice_set w.clients i y.0) y.2
    acted (step.upgrade new) j l y = now (slice_set w.clients i y.1) y.4
    acted step.sequence j l y = sent c.queue refl y
    acted step.ack j l y = now_as (with_ack c, Acked c.received) y
    acted step.deliver j l y = now (slice_set w.clients i y.1) y.4
    acted step.leave j l y = left y
    acted step.drop_client j l y = dropped y
    acted step.reconnect j l y = returned y
    acted step.fork j l y = now_as (fork c j l (refusal_to_fork c l)) y
    acted step.rebase j l y = on_own j _ (λ b m z. now (slice_set w.clients i z.0) z.2) y
    acted step.merge j l y = on_own j _ (λ b m z. now (slice_set w.clients i z.0) z.2) y
    acted step.drop_branch j l y = on_own j _ (λ b m z. now_as (drop_branch c j) z) y
    acted step.show j l y = same y.0
    acted step.pending j l y = same y.0

    by : (x : ActView) (j : ℕ) (l : Line) (needs connected : Bool) → ByConnected needs connected w v a (IsActOf h w x i c j l v a) → LogNext w v
    by x j l false connected y = acted x j l y
    by x j l true true y = acted x j l y
    by x j l true false y = same y.0

    on_line : (x : ActView) (o : Option Line) (j : ℕ) → OnLine w (λ l. ByConnected (needs_connection x) c.connected w v a (IsActOf h w x i c j l v a)) o v a → LogNext w v
    on_line x None j y = same y.0
    on_line x (Some l) j y = by x j l (needs_connection x) c.connected y

  joined : (name : List ℕ) (told : Option ℕ) → join w name told ≡ (v, a) → LogNext w v
  joined name told e = go (nat_le 64 (length w.clients)) (nat_le 65535 (length w.log)) (clashes uuid w.log) e
    where
      session : ℕ
      session = sessions_in w.log + 1

      uuid : ℕ
      uuid = uuid_for session told

      go : (b c d : Bool) → cond b (w, limit_refusal (record { of = Clients; kept = length w.clients })) (cond c (w, limit_refusal (record { of = Log; kept = length w.log })) (cond d (w, No Clash) (enter w session uuid name))) ≡ (v, a) → LogNext w v
      go true c d e = as_told (limit_refusal (record { of = Clients; kept = length w.clients })) e
      go false true d e = as_told (limit_refusal (record { of = Log; kept = length w.log })) e
      go false false true e = as_told (No Clash) e
      go false false false e = entered session (Join uuid) (enter w session uuid name) e refl (inl refl)

  acted_none : (name : List ℕ) (x : ActView) → act_of_none w name x ≡ (v, a) → LogNext w v
  acted_none name (step.join told) e = joined name told e
  acted_none name (step.edit e) y = as_told (No NoClient) y
  acted_none name (step.need path) y = as_told (No NoClient) y
  acted_none name step.begin y = as_told (No NoClient) y
  acted_none name step.commit y = as_told (No NoClient) y
  acted_none name step.abort y = as_told (No NoClient) y
  acted_none name (step.undo rev) y = as_told (No NoClient) y
  acted_none name (step.upgrade schema) y = as_told (No NoClient) y
  acted_none name step.sequence y = as_told (No NoClient) y
  acted_none name step.ack y = as_told (No NoClient) y
  acted_none name step.deliver y = as_told (No NoClient) y
  acted_none name step.leave y = as_told (No NoClient) y
  acted_none name step.drop_client y = as_told (No NoClient) y
  acted_none name step.reconnect y = as_told (No NoClient) y
  acted_none name step.fork y = as_told (No NoClient) y
  acted_none name step.rebase y = as_told (No NoClient) y
  acted_none name step.merge y = as_told (No NoClient) y
  acted_none name step.drop_branch y = as_told (No NoClient) y
  acted_none name step.show y = as_told (No NoClient) y
  acted_none name step.pending y = as_told (No NoClient) y

  next_log : (x : StepView) → IsNext h w x v a → LogNext w v
  next_log x y = place (place_of x.client w.clients) y
    where
      client_at : (i : ℕ) (o : Option Client) → slice_get w.clients i ≡ o → AtClient h w x (option_map (λ c. (i, c)) o) v a → LogNext w v
      client_at i None at y = acted_none x.client x.act y
      client_at i (Some c) at y = on_line i c at x.act (line_of c (branch_at x.branch x.act)) (branch_at x.branch x.act) y

      place : (o : Option ℕ) → AtClient h w x (option_and_then (λ i. option_map (λ c. (i, c)) (slice_get w.clients i)) o) v a → LogNext w v
      place None y = acted_none x.client x.act y
      place (Some i) y = client_at i (slice_get w.clients i) refl y

-- the log after a step
pub log_next : (h : HeaderView) (w v : WorldState) (x : StepView) (a : Answer) → IsNext h w x v a → LogNext w v
log_next h w v x a next = next_log h w v a x next

-- it has what it had, and perhaps more
pub log_grown : (h : HeaderView) (w v : WorldState) (x : StepView) (a : Answer) → IsNext h w x v a → (es : List Entry) × (v.log ≡ w.log ++ es)
log_grown h w v x a next = go (log_next h w v x a next)
  where
    go : LogNext w v → (es : List Entry) × (v.log ≡ w.log ++ es)
    go (inl same) = ([], same ∙ sym (append-nil w.log))
    go (inr e) = (last_entry w.log e.session e.body ∷ [], e.is)
