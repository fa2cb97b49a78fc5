-- Whatever world a step leads to from a world is one too.
use Rattle.st_edits.specs.InEffect.{schema_in_effect}
use Rattle.std.proofs.Common.{Bool, List, None, Option, Some, [], cond, false, length, nat_le, refl, subst, true, ℕ, ◌+◌, ◌∷◌, ◌≡◌, ap, sym}
use Rattle.std.specs.Option.{option_and_then}
use Rattle.std.specs.Prelude.{option_map}
use Rattle.st_lists.specs.Clients.{next_rev, place_of, with_ack}
use Rattle.st_lists.specs.Lines.{HasHead, Line, line_of, main_line}
use Rattle.st_world_laws.specs.Worlds.{Any, IsWorld}
use Rattle.st_world_laws.proofs.Going.{GoesOn, LineGoes, ack_goes, delivery_goes, dropped_sound, joined_sound, left_sound, returned_sound, sent_sound, set_sound, undo_goes}
use Rattle.st_world.specs.World.{AtClient, ByConnected, IsActOf, IsBegun, IsBranchDropped, IsDelivered, IsEdited, IsForked, IsMergedBy, IsNeeded, IsNext, IsRebasedBy, IsUndoneBy, OnLine, abort, act_of_none, after_entry, branch_at, commit, drop_client, enter, intent_of, join, leave, limit_refusal, needs_connection, next_names, opening_document, reconnect, refusal_to_reconnect, sequence, uuid_for, with_client, word_of, IsUpgradedBy}
use Rattle.st_edits.specs.InEffect.{last_in_effect}
use Rattle.std.specs.List.{slice_get, slice_set}
use Rattle.st_ids.specs.declared.names.Limit.{Limit}
use Rattle.st_ids.specs.declared.names.LimitOf.TheVariants.{Clients, Log}
use Rattle.st_ids.specs.declared.names.Place.{Place}
use Rattle.st_marks.specs.declared.intents.Intent.{Intent}
use Rattle.st_marks.specs.Document.{Document}
use Rattle.st_edits.specs.Resolve.{need}
use Rattle.st_script.specs.Header.{HeaderView}
use Rattle.st_script.specs.Steps.{ActView, EditView, StepView}
use Rattle.st_script.specs.Steps as step
use Rattle.st_script.specs.declared.answer.Answer.{Answer}
use Rattle.st_script.specs.declared.answer.Answer.TheVariants.{Ack, No}
use Rattle.st_script.specs.declared.refusal.Refusal.{Refusal}
use Rattle.st_script.specs.declared.refusal.Refusal.TheVariants.{Clash, NoClient, NothingToSend}
use Rattle.st_lists.specs.Open.{with_open}
use Rattle.st_lists.specs.declared.lists.Transaction.{Transaction}
use Rattle.st_lists.specs.Log.{clashes, sessions_in}
use Rattle.st_lists.specs.Limits.{entries_limit_passed, log_limit_passed}
use Rattle.st_lists.specs.Names.{names_in_text}
use Rattle.st_lists.specs.declared.lists.Client.{Client}
use Rattle.st_lists.specs.declared.lists.WorldState.{WorldState}
use Rattle.st_world_laws.proofs.Begun.{IsStart, opened_start}
use Rattle.st_ids.specs.declared.names.Rev.{Rev}
use Rattle.st_world_laws.proofs.Meant.{edit_means, need_means}
use Rattle.st_world_laws.proofs.Entering.{may_reconnect, within_log}
use Rattle.st_lists.specs.declared.lists.Body.{Body}
use Rattle.st_world.specs.Upgrade.{change_of_schema, refusal_to_upgrade, upgrade}
use Rattle.st_world_laws.proofs.Upgrading.{upgrade_goes}
use Rattle.st_schema.specs.Schema.{is_sound, SchemaView}
use Rattle.st_lists.specs.Lines.{branch_of, has_children, without_branch}
use Rattle.st_lists.specs.declared.lists.Branch.{Branch}
use Rattle.st_script.specs.declared.answer.Answer.TheVariants.{DropBranch}
use Rattle.st_script.specs.declared.refusal.Refusal.TheVariants.{HasChildren}
use Rattle.st_world_laws.proofs.BranchSteps.{drop_goes, fork_goes, merge_goes, rebase_goes, same_goes}
use Rattle.st_world_laws.proofs.LineGoing.{line_goes}
use Rattle.st_world.specs.Branches.{IsMerged, IsRebased, fork, refusal_to_fork, refusal_to_merge, refusal_to_rebase}
use Rattle.st_world.specs.Kept.{Unless}
use Rattle.st_world.specs.World.{OnOwnBranch, OnParent}
use Rattle.st_world_laws.proofs.Leading.{may_upgrade}
use Rattle.std.proofs.Common.{◌∙◌}
use Rattle.st_world_laws.specs.Worlds.{KeepsRules}

module _ (h : HeaderView) (w : WorldState) (s : IsWorld h w) where
  abbrev st : IsStart (opening_document h)
  st = opened_start h s.header

  -- where the lists stay
  kept : (v : WorldState) → v ≡ w → IsWorld h v
  kept v e = subst (IsWorld h) (sym e) s

  as_told : (p : WorldState × Answer) (v : WorldState) (a : Answer) → p ≡ (v, a) → IsWorld h p.0 → IsWorld h v
  as_told p v a e x = subst (IsWorld h) (ap (λ (q : WorldState × Answer). q.0) e) x

  module _ (i : ℕ) (c : Client) (at : slice_get w.clients i ≡ Some c) (v : WorldState) (a : Answer) where
    abbrev Goes : Client → Type 0
    Goes d = GoesOn h st Any w.log w.clients i c d

    -- where the client at the place goes on
    now : (d : Client) → Goes d → v ≡ record w { clients = slice_set w.clients i d } → IsWorld h v
    now d x e = subst (IsWorld h) (sym e) (set_sound h w i c d s at x.client x.session x.keeps)

    now_as : (p : Client × Answer) → Goes p.0 → with_client w i p ≡ (v, a) → IsWorld h v
    now_as p x e = now p.0 x (sym (ap (λ (q : WorldState × Answer). q.0) e))

    same : (d : Client) → d ≡ c → Goes d
    same d e = same_goes h st Any w.log w.clients s.sessions s.clients s.few_names s.schema i c at d e

    -- ## On a line

    module _ (k : ℕ) (l : Line) (g : LineGoes h st Any w.log w.clients i c k l) where
      edited : (e : EditView) → IsEdited h w i c k l e v a → IsWorld h v
      edited e x =
          let means = edit_means x.0 (next_names c l.transaction) (g.editable x.0 x.2) (g.schema x.0 x.2) e in
          now x.1 (g.edits x.1 x.0 (word_of e) (intent_of x.0 (schema_in_effect x.0) (next_names c l.transaction) e) a x.2 means x.3) x.4

      needed : (path : List Place) → IsNeeded h w i c k l path v a → IsWorld h v
      needed path x =
          let means = need_means x.0 (next_names c l.transaction) (g.editable x.0 x.2) (g.schema x.0 x.2) path in
          now x.1 (g.needs x.1 x.0 (need x.0 (next_names c l.transaction) path) a x.2 means x.3) x.4

      begun : IsBegun h w i c k l v a → IsWorld h v
      begun x = now x.1 (g.begins x.1 x.0 a x.2 x.3) x.4

      committed : with_client w i (commit c k l.transaction) ≡ (v, a) → IsWorld h v
      committed e = let p = commit c k l.transaction in now_as p (g.commits p.0 p.1 refl) e

      aborted : with_client w i (abort c k l.transaction) ≡ (v, a) → IsWorld h v
      aborted e = let p = abort c k l.transaction in now_as p (g.aborts p.0 p.1 refl) e

    -- ## The client as a whole

    undone : (rev : Rev) → IsUndoneBy h w i c rev v a → IsWorld h v
    undone rev x = now x.0 (undo_goes h st Any w.log w.clients s.sessions s.clients s.few_names s.schema i c at x.0 h.history rev a x.1) x.2

    upgraded : (new : SchemaView) → is_sound new ≡ true → IsUpgradedBy h w i c new v a → IsWorld h v
    upgraded new sound x = go (refusal_to_upgrade c (schema_in_effect E) (length E.schemas) new) refl x.3
      where
        E : Document
        E = x.0

        N : Intent
        N = change_of_schema (next_rev c) (last_in_effect E) new

        go : (o : Option Refusal) → refusal_to_upgrade c (schema_in_effect E) (length E.schemas) new ≡ o → upgrade c N o ≡ (x.1, a) → IsWorld h v
        go (Some why) e u = now x.1 (same x.1 (sym (ap (λ (p : Client × Answer). p.0) u))) x.4
        go None e u =
            let may = may_upgrade c (schema_in_effect E) (length E.schemas) new e in
            let shown = x.2 in
            let there : shown.0 ≡ E = sym (shown.2 ∙ ap (λ (o : Option Transaction). with_open shown.0 (option_and_then (λ (t : Transaction). t.joined) o)) may.none) in
            let head = subst (HasHead (opening_document h) w.log (main_line c)) there shown.1 in
            let goes = upgrade_goes h st Any w.log w.clients s.sessions s.clients s.few_names s.schema i c at may.none may.room E head may.few new sound may.wide Any (λ r t apart k. tt) tt in
            now x.1 (subst Goes (ap (λ (p : Client × Answer). p.0) u) goes) x.4

    acked : c.connected ≡ true → with_client w i (with_ack c, Ack c.received) ≡ (v, a) → IsWorld h v
    acked on e = now_as (with_ack c, Ack c.received) (ack_goes h st Any w.log w.clients s.sessions s.clients s.few_names s.schema i c at (with_ack c) on refl) e

    delivered : IsDelivered h w i c v a → IsWorld h v
    delivered x = now x.1 (delivery_goes h st Any w.log w.clients s.sessions s.clients s.few_names s.schema i c at x.1 x.0 a x.3) x.4

    -- ## The log

    sent : (texts : List Body) → c.queue ≡ texts → sequence w i c texts ≡ (v, a) → IsWorld h v
    sent [] is e = as_told (w, No NothingToSend) v a e s
    sent (text ∷ rest) is e = go (log_limit_passed w.log (names_in_text text)) refl e
      where
        go : (o : Option Limit) → log_limit_passed w.log (names_in_text text) ≡ o → after_entry w i c text rest o ≡ (v, a) → IsWorld h v
        go (Some l) q e = as_told (w, limit_refusal l) v a e s
        go None q e = as_told (after_entry w i c text rest None) v a e (sent_sound h w i c text rest s at is (within_log w.log (names_in_text text) q).1)

    left : leave w i c (entries_limit_passed w.log) ≡ (v, a) → IsWorld h v
    left e = go (entries_limit_passed w.log) e
      where
        go : (o : Option Limit) → leave w i c o ≡ (v, a) → IsWorld h v
        go (Some l) e = as_told (w, limit_refusal l) v a e s
        go None e = as_told (leave w i c None) v a e (left_sound h w i c s at)

    dropped : drop_client w i c (entries_limit_passed w.log) ≡ (v, a) → IsWorld h v
    dropped e = go (entries_limit_passed w.log) e
      where
        go : (o : Option Limit) → drop_client w i c o ≡ (v, a) → IsWorld h v
        go (Some l) e = as_told (w, limit_refusal l) v a e s
        go None e = as_told (drop_client w i c None) v a e (dropped_sound h w i c s at)

    returned : reconnect w i c (refusal_to_reconnect w.log c) ≡ (v, a) → IsWorld h v
    returned e = go (refusal_to_reconnect w.log c) refl e
      where
        go : (o : Option Refusal) → refusal_to_reconnect w.log c ≡ o → reconnect w i c o ≡ (v, a) → IsWorld h v
        go (Some why) q e = as_told (w, No why) v a e s
        go None q e = as_told (reconnect w i c None) v a e (returned_sound h w i c s at (may_reconnect w.log c q).0.1)

    -- ## Branches

    forked : (k : ℕ) (l : Line) → line_of c k ≡ Some l → IsForked w i c k l v a → IsWorld h v
    forked k l line e =
        let p = fork c k l (refusal_to_fork c l) in
        now_as p (fork_goes h st Any w.log w.clients s.sessions s.clients s.few_names s.schema i c at p.0 k l p.1 line refl) e

    -- on a branch that the client has, by its parent's line
    on_own : (k : ℕ) (does : Branch → Line → Type 0) → ((b : Branch) (l : Line) → branch_of c k ≡ Some b → line_of c b.parent ≡ Some l → does b l → IsWorld h v) → OnOwnBranch w c does (branch_of c k) v a → IsWorld h v
    on_own k does some x = go (branch_of c k) refl x
      where
        by : (b : Branch) → branch_of c k ≡ Some b → (o : Option Line) → line_of c b.parent ≡ o → OnParent w (does b) o v a → IsWorld h v
        by b is None line x = kept v x.0
        by b is (Some l) line x = some b l is line x

        go : (o : Option Branch) → branch_of c k ≡ o → OnOwnBranch w c does o v a → IsWorld h v
        go None is x = kept v x.0
        go (Some b) is x = by b is (line_of c b.parent) refl x

    rebased : (k : ℕ) → IsRebasedBy h w i c k v a → IsWorld h v
    rebased k x = on_own k _ (λ b l is line y. go b l is line (refusal_to_rebase b) refl y.0 y.1 y.2) x
      where
        go : (b : Branch) (l : Line) → branch_of c k ≡ Some b → line_of c b.parent ≡ Some l → (o : Option Refusal) → refusal_to_rebase b ≡ o → (d : Client) → Unless o c d a (IsRebased (opening_document h) w.log c k b l d a)
            → v ≡ record w { clients = slice_set w.clients i d } → IsWorld h v
        go b l is line (Some why) e d y to = now d (same d y.0) to
        go b l is line None e d y to = now d (subst Goes (sym y.4) (rebase_goes h st Any w.log w.clients s.sessions s.clients s.few_names s.schema i c at k b is l line e)) to

    merged : (k : ℕ) → IsMergedBy h w i c k v a → IsWorld h v
    merged k x = on_own k _ (λ b l is line y. go b l is line (refusal_to_merge c k b l) refl y.0 y.1 y.2) x
      where
        go : (b : Branch) (l : Line) → branch_of c k ≡ Some b → line_of c b.parent ≡ Some l → (o : Option Refusal) → refusal_to_merge c k b l ≡ o → (d : Client) → Unless o c d a (IsMerged (opening_document h) w.log c k b l d a)
            → v ≡ record w { clients = slice_set w.clients i d } → IsWorld h v
        go b l is line (Some why) e d y to = now d (same d y.0) to
        go b l is line None e d y to = now d (subst Goes (sym y.4) (merge_goes h st Any w.log w.clients s.sessions s.clients s.few_names s.schema i c at k b is l line e)) to

    branch_dropped : (k : ℕ) → IsBranchDropped w i c k v a → IsWorld h v
    branch_dropped k x = on_own k _ (λ b l is line y. go b is (has_children c k) refl y) x
      where
        go : (b : Branch) → branch_of c k ≡ Some b → (t : Bool) → has_children c k ≡ t → with_client w i (cond t (c, No HasChildren) (without_branch c k, DropBranch)) ≡ (v, a) → IsWorld h v
        go b is true e y = now_as (c, No HasChildren) (same c refl) y
        go b is false e y = now_as (without_branch c k, DropBranch) (drop_goes h st Any w.log w.clients s.sessions s.clients s.few_names s.schema i c at k b is e) y

    -- ## Acts

    goes : (k : ℕ) (l : Line) → line_of c k ≡ Some l → LineGoes h st Any w.log w.clients i c k l
    goes k l line = line_goes h st Any w.log w.clients s.sessions s.clients s.few_names s.schema i c at k l line

    acted : (x : ActView) (k : ℕ) (l : Line) → line_of c k ≡ Some l → KeepsRules x → (needs_connection x ≡ true → c.connected ≡ true) → IsActOf h w x i c k l v a → IsWorld h v
    acted (step.join uuid) k l line rules on y = kept v y.0
    acted (step.edit e) k l line rules on y = edited k l (goes k l line) e y
    acted (step.need path) k l line rules on y = needed k l (goes k l line) path y
    acted step.begin k l line rules on y = begun k l (goes k l line) y
    acted step.commit k l line rules on y = committed k l (goes k l line) y
    acted step.abort k l line rules on y = aborted k l (goes k l line) y
    acted (step.undo rev) k l line rules on y = undone rev y
    acted (step.upgrade new) k l line rules on y = upgraded new rules y
    acted step.sequence k l line rules on y = sent c.queue refl y
    acted step.ack k l line rules on y = acked (on refl) y
    acted step.deliver k l line rules on y = delivered y
    acted step.leave k l line rules on y = left y
    acted step.drop_client k l line rules on y = dropped y
    acted step.reconnect k l line rules on y = returned y
    acted step.fork k l line rules on y = forked k l line y
    acted step.rebase k l line rules on y = rebased k y
    acted step.merge k l line rules on y = merged k y
    acted step.drop_branch k l line rules on y = branch_dropped k y
    acted step.show k l line rules on y = kept v y.0
    acted step.pending k l line rules on y = kept v y.0

  module _ (v : WorldState) (a : Answer) where
    joined : (name : List ℕ) (told : Option ℕ) → join w name told ≡ (v, a) → IsWorld h v
    joined name told e = go (nat_le 64 (length w.clients)) (nat_le 65535 (length w.log)) (clashes uuid w.log) e
      where
        session : ℕ
        session = sessions_in w.log + 1

        uuid : ℕ
        uuid = uuid_for session told

        go : (b c d : Bool) → cond b (w, limit_refusal (record { of = Clients; kept = length w.clients })) (cond c (w, limit_refusal (record { of = Log; kept = length w.log })) (cond d (w, No Clash) (enter w session uuid name))) ≡ (v, a) → IsWorld h v
        go true c d e = as_told (w, limit_refusal (record { of = Clients; kept = length w.clients })) v a e s
        go false true d e = as_told (w, limit_refusal (record { of = Log; kept = length w.log })) v a e s
        go false false true e = as_told (w, No Clash) v a e s
        go false false false e = as_told (enter w session uuid name) v a e (joined_sound h w uuid name s)

    acted_none : (name : List ℕ) (x : ActView) → act_of_none w name x ≡ (v, a) → IsWorld h v
    acted_none name (step.join told) e = joined name told e
    acted_none name (step.edit e) y = as_told (w, No NoClient) v a y s
    acted_none name (step.need path) y = as_told (w, No NoClient) v a y s
    acted_none name step.begin y = as_told (w, No NoClient) v a y s
    acted_none name step.commit y = as_told (w, No NoClient) v a y s
    acted_none name step.abort y = as_told (w, No NoClient) v a y s
    acted_none name (step.undo rev) y = as_told (w, No NoClient) v a y s
    acted_none name (step.upgrade schema) y = as_told (w, No NoClient) v a y s
    acted_none name step.sequence y = as_told (w, No NoClient) v a y s
    acted_none name step.ack y = as_told (w, No NoClient) v a y s
    acted_none name step.deliver y = as_told (w, No NoClient) v a y s
    acted_none name step.leave y = as_told (w, No NoClient) v a y s
    acted_none name step.drop_client y = as_told (w, No NoClient) v a y s
    acted_none name step.reconnect y = as_told (w, No NoClient) v a y s
    acted_none name step.fork y = as_told (w, No NoClient) v a y s
    acted_none name step.rebase y = as_told (w, No NoClient) v a y s
    acted_none name step.merge y = as_told (w, No NoClient) v a y s
    acted_none name step.drop_branch y = as_told (w, No NoClient) v a y s
    acted_none name step.show y = as_told (w, No NoClient) v a y s
    acted_none name step.pending y = as_told (w, No NoClient) v a y s

    by : (x : ActView) (i : ℕ) (c : Client) (at : slice_get w.clients i ≡ Some c) (k : ℕ) (l : Line) → line_of c k ≡ Some l → KeepsRules x → (needs connected : Bool) → needs_connection x ≡ needs → c.connected ≡ connected
        → ByConnected needs connected w v a (IsActOf h w x i c k l v a) → IsWorld h v
    by x i c at k l line rules false connected n on y = acted i c at v a x k l line rules (λ e. absurd (cc)) y
    by x i c at k l line rules true true n on y = acted i c at v a x k l line rules (λ e. on) y
    by x i c at k l line rules true false n on y = kept v y.0

    on_line : (x : ActView) (i : ℕ) (c : Client) (at : slice_get w.clients i ≡ Some c) (k : ℕ) → KeepsRules x → (o : Option Line) → line_of c k ≡ o
        → OnLine w (λ l. ByConnected (needs_connection x) c.connected w v a (IsActOf h w x i c k l v a)) o v a → IsWorld h v
    on_line x i c at k rules None line y = kept v y.0
    on_line x i c at k rules (Some l) line y = by x i c at k l line rules (needs_connection x) c.connected refl refl y

    -- whatever world a step leads to is one too
    pub goes_on : (x : StepView) → KeepsRules x.act → IsNext h w x v a → IsWorld h v
    goes_on x rules y = place (place_of x.client w.clients) y
      where
        client_at : (i : ℕ) (o : Option Client) → slice_get w.clients i ≡ o → AtClient h w x (option_map (λ c. (i, c)) o) v a → IsWorld h v
        client_at i None at y = acted_none x.client x.act y
        client_at i (Some c) at y = on_line x.act i c at (branch_at x.branch x.act) rules (line_of c (branch_at x.branch x.act)) refl y

        place : (o : Option ℕ) → AtClient h w x (option_and_then (λ i. option_map (λ c. (i, c)) (slice_get w.clients i)) o) v a → IsWorld h v
        place None y = acted_none x.client x.act y
        place (Some i) y = client_at i (slice_get w.clients i) refl y
