-- A tree that a step shows is one that the schema allows.
use Rattle.std.specs.List.{slice_set, slice_get}
use Rattle.st_lists.specs.Limits.{own_limit_passed, entries_limit_passed, limit_passed, log_limit_passed, names_limit_passed}
use Rattle.st_lists.specs.declared.lists.Branch.{Branch}
use Rattle.st_marks.specs.Document.{Document}
use Rattle.st_script.specs.declared.refusal.Refusal.TheVariants.{HasChildren}
use Rattle.st_plain.specs.Replicas.{IsSound}
use Rattle.st_world.specs.World.{OnLine, OnOwnBranch, OnParent, with_new_on, HasShown, IsActOf, IsAfterEdit, IsAfterNeed, IsAllowedText, IsDeliveredIn, IsDeliveredTo, IsEditedIn, IsJoined, IsNext, AtClient, ByConnected, ShowsAllowed, abort, act_of_none, answer_of, after_edit, begin, branch_at, after_entry, commit, after_commit, drop_client, join, leave, needs_connection, reconnect, refusal_to_reconnect, opening_document, with_beginning, with_client, sequence, uuid_for, word_of, AtShow, IsShownTo}
use Rattle.st_lists.specs.Log.{clashes, sessions_in}
use Rattle.st_edits.specs.InEffect.{last_in_effect}
use Rattle.std.proofs.Common.{◌≡◌, ◌+◌, ℕ, Bool, true, false, cond, nat_le, List, [], ◌∷◌, length, Option, Some, None, option_map, option_and_then, Result, Ok, Err, refl, sym, ap, ◌∙◌, subst}
use Rattle.serde_json.specs.Written.{compact_text}
use Rattle.st_ids.specs.declared.names.Limit.{Limit}
use Rattle.st_ids.specs.declared.names.Rev.{Rev}
use Rattle.st_tree.specs.declared.edit.EditFault.{EditFault}
use Rattle.st_marks.specs.declared.intents.Intent.{Intent}
use Rattle.st_marks.specs.LiveTree.{IsTreeText}
use Rattle.st_edits.specs.ArrayTypes.{is_array_type}
use Rattle.st_script.specs.Header.{header_view}
use Rattle.st_script.specs.Steps.{ActView, StepView}
use Rattle.st_script.specs.Steps as step
use Rattle.st_script.specs.declared.answer.Answer.{Answer}
use Rattle.st_lists.specs.Lines.{Line, branch_of, commits_of, has_children, line_of, main_line, with_transaction_on, without_branch}
use Rattle.st_script.specs.declared.answer.Answer.TheVariants as answer
use Rattle.st_script.specs.declared.refusal.Refusal.{Refusal}
use Rattle.st_world.specs.Kept.{Unless}
use Rattle.st_world.specs.Undo.{IsAfterUndo, IsUndone, IsUndoneAt, refusal_of_rev, refusal_over}
use Rattle.st_lists.specs.declared.lists.Transaction.{Transaction}
use Rattle.st_world.specs.Branches.{IsMerged, IsRebased, drop_branch, fork, refusal_to_fork, refusal_to_merge, refusal_to_rebase}
use Rattle.st_lists.specs.Clients.{with_ack, next_rev, place_of, client_named}
use Rattle.st_lists.specs.Names.{names_in_text}
use Rattle.st_world.specs.declared.edit_word.EditWord.{EditWord}
use Rattle.st_lists.specs.declared.lists.Client.{Client}
use Rattle.st_lists.specs.declared.lists.Entry.{Entry}
use Rattle.st_lists.specs.declared.lists.WorldState.{WorldState}
use Rattle.st_plain.specs.declared.world.World.{World}
use Rattle.st_plain.proofs.Everyone.{clients_of}
use Rattle.st_plain.proofs.Stepping.{start_of}
use Rattle.st_lists.specs.declared.lists.Body.{Body}
use Rattle.st_schema_laws.proofs.SchemasKept.{shown_allowed}
use Rattle.st_schema_laws.proofs.Read.{read_as_told}
use Rattle.st_plain_schemas.specs.Schemas.{HasReading}
use Rattle.st_world.specs.Upgrade.{upgrade}
use Rattle.st_edits.specs.InEffect.{schema_in_effect}
use Rattle.st_world_laws.proofs.Effect.{shown_conforms, shown_in_form}
use Rattle.st_schema.specs.Conforms.{conforms}

-- the text of what a line shows is that of a tree which the schema in effect there allows
text_allowed : (w : World) (i : ℕ) (c : Client) (j : ℕ) (l : Line) (E : Document) (text : List ℕ) → IsSound w → slice_get w.lists.clients i ≡ Some c → line_of c j ≡ Some l → HasShown (opening_document (header_view w.header)) w.lists.log l E
    → IsTreeText (is_array_type (schema_in_effect E)) E text → IsAllowedText (schema_in_effect E) text
text_allowed w i c j l E text s at line shown is =
    let h = header_view w.header in
    let st = start_of w w.steps s in
    let are = clients_of h w.lists.log w.lists.clients w.kept s.kept in
    let sound = shown_in_form h st (HasReading w.schemas) w.lists.log w.lists.clients s.schema are i c at j l line E shown in
    let here = shown_conforms h st (HasReading w.schemas) w.lists.log w.lists.clients s.schema are i c at j l line E shown in
    let same = read_as_told s.schema.told E sound here in
    let tree = shown_allowed s.schema.told E sound here (is_array_type (schema_in_effect E)) is.0 (λ ty. ap (λ v. is_array_type v ty) same) is.1 in
    (tree.0, ap (λ v. conforms v v.root tree.0) same ∙ tree.2, is.2 ∙ ap compact_text (sym tree.1))

either : {A : Type 0} (P : A → Type 0) (b : Bool) (x y : A) → P x → P y → P (cond b x y)
either P true x y p q = p
either P false x y p q = q

module _ (P : List ℕ → Type 0) where
  abbrev Fine : WorldState × Answer → Type 0
  Fine p = AtShow P p.1

  answered_fine : (word : EditWord) (rev : Rev) → AtShow P (answer_of word rev)
  answered_fine EditWord.Insert rev = tt
  answered_fine EditWord.Remove rev = tt
  answered_fine EditWord.Move rev = tt
  answered_fine EditWord.Set rev = tt
  answered_fine EditWord.Clear rev = tt
  answered_fine EditWord.Need rev = tt

  join_fine : (w : WorldState) (name : List ℕ) (told : Option ℕ) → Fine (join w name told)
  join_fine w name told =
      either Fine (nat_le 64 (length w.clients)) _ _ tt (either Fine (nat_le 65535 (length w.log)) _ _ tt (either Fine (clashes (uuid_for (sessions_in w.log + 1) told) w.log) _ _ tt tt))

  none_fine : (w : WorldState) (name : List ℕ) (x : ActView) → Fine (act_of_none w name x)
  none_fine w name (step.join uuid) = join_fine w name uuid
  none_fine w name (step.edit e) = tt
  none_fine w name (step.need path) = tt
  none_fine w name step.begin = tt
  none_fine w name step.commit = tt
  none_fine w name step.abort = tt
  none_fine w name (step.undo rev) = tt
  none_fine w name (step.upgrade schema) = tt
  none_fine w name step.sequence = tt
  none_fine w name step.ack = tt
  none_fine w name step.deliver = tt
  none_fine w name step.leave = tt
  none_fine w name step.drop_client = tt
  none_fine w name step.reconnect = tt
  none_fine w name step.fork = tt
  none_fine w name step.rebase = tt
  none_fine w name step.merge = tt
  none_fine w name step.drop_branch = tt
  none_fine w name step.show = tt
  none_fine w name step.pending = tt

  edited_fine : (c : Client) (k : ℕ) (l : Line) (word : EditWord) (r : Result Intent EditFault) → AtShow P (after_edit c k l word r).1
  edited_fine c k l word (Err f) = tt
  edited_fine c k l word (Ok N) = go (limit_passed c k l N)
    where
      go : (o : Option Limit) → AtShow P (with_new_on c k word N o).1
      go None = answered_fine word (next_rev c)
      go (Some over) = tt

  sequence_fine : (w : WorldState) (i : ℕ) (c : Client) (texts : List Body) → Fine (sequence w i c texts)
  sequence_fine w i c [] = tt
  sequence_fine w i c (text ∷ rest) = go (log_limit_passed w.log (names_in_text text))
    where
      go : (o : Option Limit) → Fine (after_entry w i c text rest o)
      go None = tt
      go (Some l) = tt

  leave_fine : (w : WorldState) (i : ℕ) (c : Client) (o : Option Limit) → Fine (leave w i c o)
  leave_fine w i c None = tt
  leave_fine w i c (Some l) = tt

  drop_fine : (w : WorldState) (i : ℕ) (c : Client) (o : Option Limit) → Fine (drop_client w i c o)
  drop_fine w i c None = tt
  drop_fine w i c (Some l) = tt

  reconnect_fine : (w : WorldState) (i : ℕ) (c : Client) (o : Option Refusal) → Fine (reconnect w i c o)
  reconnect_fine w i c None = tt
  reconnect_fine w i c (Some why) = tt

  delivery_fine : (D : Document) (c d : Client) (o : Option Entry) (a : Answer) → IsDeliveredTo D c o d a → AtShow P a
  delivery_fine D c d None a is = subst (AtShow P) (sym is.1) tt
  delivery_fine D c d (Some e) a is = subst (AtShow P) (sym is.3) tt

  one_fine : (p : WorldState × Answer) (v : WorldState) (a : Answer) → p ≡ (v, a) → Fine p → AtShow P a
  one_fine p v a is fine = subst (AtShow P) (ap (λ (q : WorldState × Answer). q.1) is) fine

  edited_in_fine : (c d : Client) (k : ℕ) (t : Transaction) (word : EditWord) (r : Result Intent EditFault) (a : Answer) → IsEditedIn c k t word r d a → AtShow P a
  edited_in_fine c d k t word (Err f) a is = subst (AtShow P) (sym is.1) tt
  edited_in_fine c d k t word (Ok M) a is = go (names_limit_passed c M) is
    where
      go : (o : Option Limit) → IsJoined c k t word M o d a → AtShow P a
      go None is = subst (AtShow P) (sym is.3) (answered_fine word t.rev)
      go (Some over) is = subst (AtShow P) (sym is.1) tt

  edit_fine : (c d : Client) (k : ℕ) (l : Line) (o : Option Transaction) (word : EditWord) (r : Result Intent EditFault) (a : Answer) → IsAfterEdit c k l o word r d a → AtShow P a
  edit_fine c d k l None word r a is = subst (AtShow P) (ap (λ (q : Client × Answer). q.1) is) (edited_fine c k l word r)
  edit_fine c d k l (Some t) word r a is = edited_in_fine c d k t word r a is

  need_fine : (c d : Client) (k : ℕ) (o : Option Transaction) (r : Result Intent EditFault) (a : Answer) → IsAfterNeed c k o r d a → AtShow P a
  need_fine c d k None r a is = subst (AtShow P) (sym is.1) tt
  need_fine c d k (Some t) r a is = edited_in_fine c d k t EditWord.Need r a is

  begin_fine : (c : Client) (k : ℕ) (l : Line) (o : Option Transaction) (under : Rev) → AtShow P (begin c k l o under).1
  begin_fine c k l (Some t) under = tt
  begin_fine c k l None under = go (own_limit_passed k l 1)
    where
      go : (o : Option Limit) → AtShow P (with_beginning c k under o).1
      go None = tt
      go (Some over) = tt

  commit_fine : (c : Client) (k : ℕ) (o : Option Transaction) → AtShow P (commit c k o).1
  commit_fine c k None = tt
  commit_fine c k (Some t) = go t.joined
    where
      go : (o : Option Intent) → AtShow P (after_commit (with_transaction_on c k None) k t.rev o).1
      go None = tt
      go (Some J) = tt

  abort_fine : (c : Client) (k : ℕ) (o : Option Transaction) → AtShow P (abort c k o).1
  abort_fine c k None = tt
  abort_fine c k (Some t) = tt

  fork_fine : (c : Client) (k : ℕ) (l : Line) (o : Option Refusal) → AtShow P (fork c k l o).1
  fork_fine c k l None = tt
  fork_fine c k l (Some why) = tt

  drop_branch_fine : (c : Client) (k : ℕ) → AtShow P (drop_branch c k).1
  drop_branch_fine c k = go (has_children c k)
    where
      go : (t : Bool) → AtShow P (cond {A = Client × Answer} t (c, answer.No HasChildren) (without_branch c k, answer.DropBranch)).1
      go true = tt
      go false = tt

  -- a step by the parent's line of a branch, where each answer shows what is allowed
  on_own_fine : (w v : WorldState) (c : Client) (does : Branch → Line → Type 0) (a : Answer) → ((b : Branch) (l : Line) → does b l → AtShow P a) → (o : Option Branch) → OnOwnBranch w c does o v a → AtShow P a
  on_own_fine w v c does a fine None is = subst (AtShow P) (sym is.1) tt
  on_own_fine w v c does a fine (Some b) is = go (line_of c b.parent) is
    where
      go : (o : Option Line) → OnParent w (does b) o v a → AtShow P a
      go None is = subst (AtShow P) (sym is.1) tt
      go (Some l) is = fine b l is

  rebased_fine : (O : Document) (log : List Entry) (c d : Client) (k : ℕ) (b : Branch) (l : Line) (o : Option Refusal) (a : Answer) → Unless o c d a (IsRebased O log c k b l d a) → AtShow P a
  rebased_fine O log c d k b l (Some why) a is = subst (AtShow P) (sym is.1) tt
  rebased_fine O log c d k b l None a is = subst (AtShow P) (sym is.5) tt

  merged_fine : (O : Document) (log : List Entry) (c d : Client) (k : ℕ) (b : Branch) (l : Line) (o : Option Refusal) (a : Answer) → Unless o c d a (IsMerged O log c k b l d a) → AtShow P a
  merged_fine O log c d k b l (Some why) a is = subst (AtShow P) (sym is.1) tt
  merged_fine O log c d k b l None a is = subst (AtShow P) (sym is.5) tt

  undo_fine : (O : Document) (history : ℕ) (log : List Entry) (c d : Client) (o : Option Transaction) (rev : Rev) (a : Answer) → IsAfterUndo O history log c o rev d a → AtShow P a
  undo_fine O history es c d (Some t) rev a is = subst (AtShow P) (sym is.1) tt
  undo_fine O history es c d None rev a is = of_rev (refusal_of_rev history es c (commits_of es (main_line c)) rev) is
    where
      over : (o : Option Refusal) → Unless o c d a (IsUndone O (commits_of es (main_line c)) rev c d a) → AtShow P a
      over (Some why) is = subst (AtShow P) (sym is.1) tt
      over None is = subst (AtShow P) (sym is.3) tt

      of_rev : (o : Option Refusal) → Unless o c d a (IsUndoneAt O (commits_of es (main_line c)) rev c d a) → AtShow P a
      of_rev (Some why) is = subst (AtShow P) (sym is.1) tt
      of_rev None is = over (refusal_over is.2 is.0 c) is.4

  upgrade_fine : (c : Client) (N : Intent) (o : Option Refusal) → AtShow P (upgrade c N o).1
  upgrade_fine c N None = tt
  upgrade_fine c N (Some why) = tt

  delivered_fine : (D : Document) (c d : Client) (o : Option Transaction) (next : Option Entry) (a : Answer) → IsDeliveredIn D c o next d a → AtShow P a
  delivered_fine D c d None next a is = delivery_fine D c d next a is
  delivered_fine D c d (Some t) next a is = subst (AtShow P) (sym is.1) tt

-- what the client at the place does
of_fine : (P : List ℕ → Type 0) (w : World) (x : ActView) (i : ℕ) (c : Client) (k : ℕ) (l : Line) (v : WorldState) (a : Answer) → IsSound w → slice_get w.lists.clients i ≡ Some c → line_of c k ≡ Some l → IsActOf (header_view w.header) w.lists x i c k l v a
    → ((E : Document) (text : List ℕ) → HasShown (opening_document (header_view w.header)) w.lists.log l E → IsTreeText (is_array_type (schema_in_effect E)) E text → P text) → AtShow P a
of_fine P w (step.join uuid) i c k l v a sound at line is tree = subst (AtShow P) (sym is.1) tt
of_fine P w (step.edit e) i c k l v a sound at line is tree = edit_fine P c is.1 k l l.transaction (word_of e) _ a is.3
of_fine P w (step.need path) i c k l v a sound at line is tree = need_fine P c is.1 k l.transaction _ a is.3
of_fine P w step.begin i c k l v a sound at line is tree = subst (AtShow P) (ap (λ (q : Client × Answer). q.1) is.3) (begin_fine P c k l l.transaction (last_in_effect is.0))
of_fine P w step.commit i c k l v a sound at line is tree = one_fine P (with_client w.lists i (commit c k l.transaction)) v a is (commit_fine P c k l.transaction)
of_fine P w step.abort i c k l v a sound at line is tree = one_fine P (with_client w.lists i (abort c k l.transaction)) v a is (abort_fine P c k l.transaction)
of_fine P w (step.undo rev) i c k l v a sound at line is tree = undo_fine P (opening_document (header_view w.header)) w.header.history w.lists.log c is.0 c.transaction rev a is.1
of_fine P w step.sequence i c k l v a sound at line is tree = one_fine P (sequence w.lists i c c.queue) v a is (sequence_fine P w.lists i c c.queue)
of_fine P w step.ack i c k l v a sound at line is tree = one_fine P (with_client w.lists i (with_ack c, answer.Ack c.received)) v a is tt
of_fine P w step.deliver i c k l v a sound at line is tree = delivered_fine P is.0 c is.1 c.transaction (slice_get w.lists.log c.received) a is.3
of_fine P w step.leave i c k l v a sound at line is tree = one_fine P (leave w.lists i c (entries_limit_passed w.lists.log)) v a is (leave_fine P w.lists i c (entries_limit_passed w.lists.log))
of_fine P w step.drop_client i c k l v a sound at line is tree = one_fine P (drop_client w.lists i c (entries_limit_passed w.lists.log)) v a is (drop_fine P w.lists i c (entries_limit_passed w.lists.log))
of_fine P w step.reconnect i c k l v a sound at line is tree =
    one_fine P (reconnect w.lists i c (refusal_to_reconnect w.lists.log c)) v a is (reconnect_fine P w.lists i c (refusal_to_reconnect w.lists.log c))
of_fine P w step.fork i c k l v a sound at line is tree = one_fine P (with_client w.lists i (fork c k l (refusal_to_fork c l))) v a is (fork_fine P c k l (refusal_to_fork c l))
of_fine P w step.rebase i c k l v a sound at line is tree =
    let h = header_view w.header in
    on_own_fine P w.lists v c (λ b parent. (d : Client) × Unless (refusal_to_rebase b) c d a (IsRebased (opening_document h) w.lists.log c k b parent d a) × (v ≡ record w.lists { clients = slice_set w.lists.clients i d })) a
    (λ b m p. rebased_fine P (opening_document h) w.lists.log c p.0 k b m (refusal_to_rebase b) a p.1) (branch_of c k) is
of_fine P w step.merge i c k l v a sound at line is tree =
    let h = header_view w.header in
    on_own_fine P w.lists v c (λ b parent. (d : Client) × Unless (refusal_to_merge c k b parent) c d a (IsMerged (opening_document h) w.lists.log c k b parent d a) × (v ≡ record w.lists { clients = slice_set w.lists.clients i d })) a
    (λ b m p. merged_fine P (opening_document h) w.lists.log c p.0 k b m (refusal_to_merge c k b m) a p.1) (branch_of c k) is
of_fine P w step.drop_branch i c k l v a sound at line is tree =
    on_own_fine P w.lists v c (λ b parent. with_client w.lists i (drop_branch c k) ≡ (v, a)) a
    (λ b m p. one_fine P (with_client w.lists i (drop_branch c k)) v a p (drop_branch_fine P c k)) (branch_of c k) is
of_fine P w (step.upgrade new) i c k l v a sound at line is tree = subst (AtShow P) (ap (λ (q : Client × Answer). q.1) is.3) (upgrade_fine P c _ _)
of_fine P w step.show i c k l v a sound at line is tree =
    let shown = is.1 in
    subst (AtShow P) (sym shown.4) (tree shown.0 shown.1 shown.2 shown.3)
of_fine P w step.pending i c k l v a sound at line is tree =
    let told = is.1 in
    subst (AtShow P) (sym told.6) tt

pub next_allowed : (w : World) (s : StepView) (v : WorldState) (a : Answer) → IsSound w → IsNext (header_view w.header) w.lists s v a → ShowsAllowed (header_view w.header) w.lists s a
next_allowed w s v a sound is = place (place_of s.client w.lists.clients) refl is
  where
    P : List ℕ → Type 0
    P text = (D : Document) × IsShownTo (header_view w.header) w.lists s D × IsAllowedText (schema_in_effect D) text

    none : act_of_none w.lists s.client s.act ≡ (v, a) → AtShow P a
    none is = one_fine P (act_of_none w.lists s.client s.act) v a is (none_fine P w.lists s.client s.act)

    by : (needs connected : Bool) (next : Type 0) → (next → AtShow P a) → ByConnected needs connected w.lists v a next → AtShow P a
    by false connected next f is = f is
    by true true next f is = f is
    by true false next f is = subst (AtShow P) (sym is.1) tt

    on : (i : ℕ) (c : Client) (k : ℕ) (o : Option Line) → client_named s.client w.lists.clients ≡ Some (i, c) → k ≡ branch_at s.branch s.act → slice_get w.lists.clients i ≡ Some c → line_of c k ≡ o
        → OnLine w.lists (λ l. ByConnected (needs_connection s.act) c.connected w.lists v a (IsActOf (header_view w.header) w.lists s.act i c k l v a)) o v a → AtShow P a
    on i c k None named branch at line is = subst (AtShow P) (sym is.1) tt
    on i c k (Some l) named branch at line is =
        by (needs_connection s.act) c.connected (IsActOf (header_view w.header) w.lists s.act i c k l v a)
        (λ x. of_fine P w s.act i c k l v a sound at line x (λ E text shown tree. (E, ((i, c), l, named, subst (λ n. line_of c n ≡ Some l) branch line, shown), text_allowed w i c k l E text sound at line shown tree))) is

    client : (i : ℕ) (o : Option Client) → place_of s.client w.lists.clients ≡ Some i → slice_get w.lists.clients i ≡ o → AtClient (header_view w.header) w.lists s (option_map (λ c. (i, c)) o) v a → AtShow P a
    client i None found at is = none is
    client i (Some c) found at is =
        let named : client_named s.client w.lists.clients ≡ Some (i, c) = ap (option_and_then (λ n. option_map (λ (d : Client). (n, d)) (slice_get w.lists.clients n))) found ∙ ap (option_map (λ (d : Client). (i, d))) at in
        on i c (branch_at s.branch s.act) (line_of c (branch_at s.branch s.act)) named refl at refl is

    place : (o : Option ℕ) → place_of s.client w.lists.clients ≡ o → AtClient (header_view w.header) w.lists s (option_and_then (λ i. option_map (λ c. (i, c)) (slice_get w.lists.clients i)) o) v a → AtShow P a
    place None found is = none is
    place (Some i) found is = client i (slice_get w.lists.clients i) found refl is
