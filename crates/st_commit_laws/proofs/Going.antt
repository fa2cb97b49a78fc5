-- Whatever a step leads to, each commit can be told again.
use Rattle.std.proofs.Common.{◌≡◌, ◌≤◌, ◌+◌, ℕ, Bool, true, false, cond, List, [], ◌∷◌, ◌++◌, ◌⊎◌, length, nat_le, Option, Some, None, IfSome, Result, Ok, Err, refl, sym, ap, ◌∙◌, subst, arith, inl, inr}
use Rattle.std.specs.List.{AllByRecursion, slice_get, slice_set}
use Rattle.std.specs.Option.{option_and_then}
use Rattle.std.specs.Prelude.{option_map, unwrap_or}
use Rattle.st_lemmas.proofs.Lists.{AllByRecursion-append}
use Rattle.st_ids.specs.Listing.{Has}
use Rattle.st_ids.specs.Root.{opening}
use Rattle.st_ids.specs.declared.names.Limit.{Limit}
use Rattle.st_ids.specs.declared.names.LimitOf.TheVariants.{Clients, Log}
use Rattle.st_ids.specs.declared.names.Rev.{Rev}
use Rattle.st_tree.specs.declared.edit.EditFault.{EditFault}
use Rattle.st_schema.specs.Schema.{SchemaView, is_sound}
use Rattle.st_marks.specs.declared.intents.Intent.{Intent}
use Rattle.st_marks.specs.declared.schemas.SchemaEntry.{SchemaEntry}
use Rattle.st_marks.specs.Document.{Document, last_of, revs}
use Rattle.st_marks.proofs.Members.{all-has, has-map}
use Rattle.st_marks.proofs.OneVerdict.{one_run}
use Rattle.st_edits.specs.InEffect.{last_in_effect, schema_in_effect}
use Rattle.st_edits.specs.Resolve.{need}
use Rattle.st_edits.specs.declared.names.NameCounters.{NameCounters}
use Rattle.st_part_laws.proofs.Chains.{last-has}
use Rattle.st_schema_laws.proofs.Entries.{entries_from}
use Rattle.st_script.specs.Header.{HeaderView}
use Rattle.st_script.specs.Steps.{ActView, EditView, StepView}
use Rattle.st_script.specs.Steps as step
use Rattle.st_script.specs.declared.answer.Answer.{Answer}
use Rattle.st_script.specs.declared.answer.Answer.TheVariants.{Ack as Acked, DropBranch, No}
use Rattle.st_script.specs.declared.refusal.Refusal.{Refusal}
use Rattle.st_script.specs.declared.refusal.Refusal.TheVariants.{Clash, HasChildren, NoClient, NothingToSend}
use Rattle.st_lists.specs.Clients.{new_client, new_transaction, next_rev, place_of, with_ack, with_connection, with_edited, with_id, with_new_commit, without_connection}
use Rattle.st_lists.specs.Limits.{entries_limit_passed, limit_passed, log_limit_passed, names_limit_passed, own_limit_passed}
use Rattle.st_lists.specs.Lines.{HasHead, Line, branch_of, commits_of, has_children, line_of, main_line, with_transaction_on, without_branch}
use Rattle.st_lists.specs.Log.{clashes, commits_in, commits_of_text, intents_of, log_with, sessions_in}
use Rattle.st_lists.specs.Names.{names_in_text}
use Rattle.st_lists.specs.Open.{FitsSoFar, IsWithPart, with_open}
use Rattle.st_lists.specs.Undoing.{IsUndoing}
use Rattle.st_lists.specs.declared.lists.Body.{Body}
use Rattle.st_lists.specs.declared.lists.Body.TheVariants.{Join, Leave}
use Rattle.st_lists.specs.declared.lists.Branch.{Branch}
use Rattle.st_lists.specs.declared.lists.Client.{Client}
use Rattle.st_lists.specs.declared.lists.Entry.{Entry}
use Rattle.st_lists.specs.declared.lists.Transaction.{Transaction}
use Rattle.st_lists.specs.declared.lists.WorldState.{WorldState}
use Rattle.st_lists.proofs.Logs.{entered_commits, text_first}
use Rattle.st_lists.proofs.Present.{all_rest}
use Rattle.st_world.specs.Branches.{IsMerged, IsRebased, drop_branch, fork, refusal_to_fork, refusal_to_merge, refusal_to_rebase}
use Rattle.st_world.specs.Kept.{Unless}
use Rattle.st_world.specs.Undo.{IsAfterUndo, IsUndone, IsUndoneAt, refusal_of_rev, refusal_over}
use Rattle.st_world.specs.Upgrade.{change_of_schema, refusal_to_upgrade, upgrade}
use Rattle.st_world.specs.World.{AtClient, ByConnected, HasShown, IsActOf, IsAfterEdit, IsAfterNeed, IsDeliveredIn, IsEditedIn, IsJoined, IsNext, OnLine, OnOwnBranch, OnParent, abort, act_of_none, after_commit, after_edit, after_entry, begin, branch_at, cells_given, commit, drop_client, enter, intent_of, join, leave, limit_refusal, needs_connection, next_names, opening_document, reconnect, refusal_to_reconnect, sequence, uuid_for, with_beginning, with_client, with_new_on, word_of}
use Rattle.st_world.specs.declared.edit_word.EditWord.{EditWord}
use Rattle.st_world_laws.specs.Worlds.{Any, IsClient, IsTransaction, IsWorld, KeepsRules}
use Rattle.st_world_laws.proofs.Among.{line_fit, line_transaction}
use Rattle.st_world_laws.proofs.Begun.{IsStart, opened_start}
use Rattle.st_world_laws.proofs.Effect.{schema_sound_on}
use Rattle.st_world_laws.proofs.Everyone.{all_as, all_get, all_set}
use Rattle.st_world_laws.proofs.Lookup.{branch_there}
use Rattle.st_world_laws.proofs.Meant.{IsEditable, IsMeant, edit_means, need_means}
use Rattle.st_world_laws.proofs.Parts.{editable_on, open_schemas}
use Rattle.st_world_laws.proofs.Telling.{turn_intents}
use Rattle.st_commit_laws.specs.Tellable.{BranchIsTellable, BringsShortLeaves, ClientIsTellable, CommitsAreTellable, EditBringsShortLeaves, IsOpeningOrNumbered, IsTellable, NameIsShort, TransactionIsTellable}
use Rattle.st_commit_laws.proofs.Back.{PutsAreShort, undoing_within}
use Rattle.st_commit_laws.proofs.Clients.{AreTellable, LineIsTellable, ack_tellable, base_tellable, commit_tellable, commits_tellable, fork_tellable, gone_tellable, id_tellable, line_commits, line_tellable, offline_tellable, online_tellable, received_tellable, transaction_tellable}
use Rattle.st_commit_laws.proofs.Edits.{HasFitParts, counted_within, edit_fit, need_fit}
use Rattle.st_commit_laws.proofs.Joined.{joined_within}
use Rattle.st_commit_laws.proofs.Opening.{opening_keys}

module _ (h : HeaderView) (w : WorldState) (s : IsWorld h w) (f : CommitsAreTellable w) (v : WorldState) (a : Answer) where
  abbrev O : Document
  O = opening_document h

  st : IsStart O
  st = opened_start h s.header

  -- where the lists stay
  kept : v ≡ w → CommitsAreTellable v
  kept e = subst CommitsAreTellable (sym e) f

  as_told : (p : WorldState × Answer) → p ≡ (v, a) → CommitsAreTellable p.0 → CommitsAreTellable v
  as_told p e x = subst CommitsAreTellable (ap (λ (q : WorldState × Answer). q.0) e) x

  -- an entry comes
  longer : (session : ℕ) (body : Body) → AreTellable (commits_of_text body) → AreTellable (commits_in (log_with w.log session body))
  longer session body b = subst AreTellable (sym (entered_commits w.log session body)) (AllByRecursion-append IsTellable (commits_in w.log) (commits_of_text body) f.log b)

  module _ (i : ℕ) (c : Client) (at : slice_get w.clients i ≡ Some c) where
    mine : ClientIsTellable c
    mine = all_get ClientIsTellable w.clients i c f.clients at

    k : IsClient h w.log c
    k = all_get (IsClient h w.log) w.clients i c s.clients at

    now : (d : Client) → ClientIsTellable d → v ≡ record w { clients = slice_set w.clients i d } → CommitsAreTellable v
    now d x e = subst CommitsAreTellable (sym e) (record { log = f.log; clients = all_set ClientIsTellable w.clients i d f.clients x })

    now_as : (p : Client × Answer) → ClientIsTellable p.0 → with_client w i p ≡ (v, a) → CommitsAreTellable v
    now_as p x e = now p.0 x (sym (ap (λ (q : WorldState × Answer). q.0) e))

    same : (d : Client) → d ≡ c → ClientIsTellable d
    same d e = subst ClientIsTellable (sym e) mine

    -- the client that is told is this one
    told : (p : Client × Answer) (d : Client) (b : Answer) → p ≡ (d, b) → ClientIsTellable p.0 → ClientIsTellable d
    told p d b e x = subst ClientIsTellable (ap (λ (q : Client × Answer). q.0) e) x

    -- ## On a line

    module _ (j : ℕ) (l : Line) (line : line_of c j ≡ Some l) where
      own : LineIsTellable l
      own = line_tellable c j l line mine

      all : AreTellable (commits_of w.log l)
      all = line_commits w.log l f.log own

      -- the last schema in effect after the commits of the line was brought in by one of them, or by the opening
      head_under : (D : Document) → HasHead O w.log l D → IsOpeningOrNumbered (last_in_effect D)
      head_under D head = go (last_of (revs D.schemas)) refl
        where
          of : (e : SchemaEntry) → Has O.schemas e ⊎ ((N : Intent) × Has (commits_of w.log l) N × (N.rev ≡ e.rev) × (N.schema ≡ Some e.text)) → IsOpeningOrNumbered e.rev
          of e (inl (inl q)) = inl (sym (ap (λ (x : SchemaEntry). x.rev) q))
          of e (inl (inr bad)) = absurd bad
          of e (inr x) = inr (subst (λ (r : Rev). 1 ≤ r.num) x.2 (all-has IsTellable (commits_of w.log l) x.0 all x.1).numbered)

          go : (o : Option Rev) → last_of (revs D.schemas) ≡ o → IsOpeningOrNumbered (unwrap_or o opening)
          go None e = inl refl
          go (Some r) e =
              let there = has-map (λ (x : SchemaEntry). x.rev) D.schemas r (last-has (revs D.schemas) r e) in
              subst IsOpeningOrNumbered there.2 (of there.0 (entries_from O D (commits_of w.log l) (turn_intents (commits_of w.log l) O st.sound (line_fit h st w.log c k j l line)) head there.0 there.1))

      -- so does what the line shows
      shown_under : (E : Document) → HasShown O w.log l E → IsOpeningOrNumbered (last_in_effect E)
      shown_under E shown = subst (λ F. IsOpeningOrNumbered (last_in_effect F)) (sym shown.2) (go l.transaction (line_transaction h st w.log c k j l line))
        where
          go : (o : Option Transaction) → IfSome o (IsTransaction h w.log l c) → IsOpeningOrNumbered (last_in_effect (with_open shown.0 (option_and_then (λ (t : Transaction). t.joined) o)))
          go None x = head_under shown.0 shown.1
          go (Some t) x =
              let same = one_run x.main shown.1 in
              let so = subst (λ F. FitsSoFar F t.rev t.under t.joined) same x.so_far in
              subst IsOpeningOrNumbered (sym (open_schemas shown.0 t.rev t.under t.joined so)) (head_under shown.0 shown.1)

      -- what an edit means can be told
      meant_tellable : (E : Document) (G : NameCounters) (word : EditWord) (N : Intent) → HasShown O w.log l E → G.nodes + G.cells ≤ 2048 → 1 ≤ G.rev.num → IsMeant E G word N → HasFitParts N → IsTellable N
      meant_tellable E G word N shown low num m fit = record {
        within = counted_within G (length N.new) (cells_given word N) N m.counted low m.no_schema fit;
        numbered = subst (λ (r : Rev). 1 ≤ r.num) (sym m.rev) num;
        under = subst IsOpeningOrNumbered (sym m.under) (shown_under E shown);
      }

      -- it is a part of a transaction
      part_tellable : (t : Transaction) (M J : Intent) → IsTransaction h w.log l c t → TransactionIsTellable t → IsTellable M → IsWithPart t.joined M J → IsTellable J
      part_tellable t M J x y m p = go t.joined x.so_far y.joined p
        where
          go : (o : Option Intent) → FitsSoFar x.before t.rev t.under o → IfSome o IsTellable → IsWithPart o M J → IsTellable J
          go None so n p = subst IsTellable (sym p) m
          go (Some K) so n p = record {
            within = joined_within NameIsShort K M J so.0.itself p n.within m.within;
            numbered = subst (λ (r : Rev). 1 ≤ r.num) (sym p.rev) n.numbered;
            under = subst IsOpeningOrNumbered (sym p.under) n.under;
          }

      edited_in : (t : Transaction) (word : EditWord) (r : Result Intent EditFault) (d : Client) → IsTransaction h w.log l c t → TransactionIsTellable t → ((N : Intent) → r ≡ Ok N → IsTellable N) → IsEditedIn c j t word r d a → ClientIsTellable d
      edited_in t word (Err z) d x y fit done = same d done.0
      edited_in t word (Ok M) d x y fit done = go (names_limit_passed c M) done
        where
          go : (o : Option Limit) → IsJoined c j t word M o d a → ClientIsTellable d
          go (Some z) done = same d done.0
          go None done =
              let u = with_edited t done.0 (length M.new) (cells_given word M) in
              let now : TransactionIsTellable u = record { numbered = y.numbered; joined = part_tellable t M done.0 x y (fit M refl) done.1 } in
              subst ClientIsTellable (sym done.2) (transaction_tellable c j (Some u) now mine)

      edited_as : (word : EditWord) (r : Result Intent EditFault) (d : Client) → ((N : Intent) → r ≡ Ok N → IsTellable N) → after_edit c j l word r ≡ (d, a) → ClientIsTellable d
      edited_as word (Err z) d fit e = same d (sym (ap (λ (p : Client × Answer). p.0) e))
      edited_as word (Ok N) d fit e = go (limit_passed c j l N) e
        where
          go : (o : Option Limit) → with_new_on c j word N o ≡ (d, a) → ClientIsTellable d
          go (Some z) e = same d (sym (ap (λ (p : Client × Answer). p.0) e))
          go None e = told (with_new_on c j word N None) d a e (commit_tellable (with_id c) j N (fit N refl) (id_tellable c mine))

      -- the names that an edit may give are those of a commit that has a number
      next_low : (o : Option Transaction) → IfSome o (IsTransaction h w.log l c) → (next_names c o).nodes + (next_names c o).cells ≤ 2048
      next_low None x = omega arith
      next_low (Some t) x = x.counted

      next_numbered : (o : Option Transaction) → IfSome o TransactionIsTellable → 1 ≤ (next_names c o).rev.num
      next_numbered None y = omega arith
      next_numbered (Some t) y = y.numbered

      edits : (E : Document) (e : EditView) (d : Client) → EditBringsShortLeaves e → HasShown O w.log l E → IsAfterEdit c j l l.transaction (word_of e) (intent_of E (schema_in_effect E) (next_names c l.transaction) e) d a → ClientIsTellable d
      edits E e d short shown done = go l.transaction (line_transaction h st w.log c k j l line) own.edited (editable_on h st w.log c j l E k line shown) done
        where
          sound : is_sound (schema_in_effect E) ≡ true
          sound = schema_sound_on h st Any w.log w.clients s.schema s.clients i c at j l line E shown

          fit : (o : Option Transaction) → IfSome o (IsTransaction h w.log l c) → IfSome o TransactionIsTellable → IsEditable E (next_names c o) → (N : Intent) → intent_of E (schema_in_effect E) (next_names c o) e ≡ Ok N → IsTellable N
          fit o x y editable N is =
              meant_tellable E (next_names c o) (word_of e) N shown (next_low o x) (next_numbered o y) (edit_means E (next_names c o) editable sound e N is)
              (edit_fit E (schema_in_effect E) sound (next_names c o) e N short is)

          go : (o : Option Transaction) → IfSome o (IsTransaction h w.log l c) → IfSome o TransactionIsTellable → IsEditable E (next_names c o) → IsAfterEdit c j l o (word_of e) (intent_of E (schema_in_effect E) (next_names c o) e) d a → ClientIsTellable d
          go None x y editable done = edited_as (word_of e) (intent_of E (schema_in_effect E) (next_names c None) e) d (fit None x y editable) done
          go (Some t) x y editable done = edited_in t (word_of e) (intent_of E (schema_in_effect E) (next_names c (Some t)) e) d x y (fit (Some t) x y editable) done

      needs : (E : Document) (path : _) (d : Client) → HasShown O w.log l E → IsAfterNeed c j l.transaction (need E (next_names c l.transaction) path) d a → ClientIsTellable d
      needs E path d shown done = go l.transaction (line_transaction h st w.log c k j l line) own.edited (editable_on h st w.log c j l E k line shown) done
        where
          sound : is_sound (schema_in_effect E) ≡ true
          sound = schema_sound_on h st Any w.log w.clients s.schema s.clients i c at j l line E shown

          go : (o : Option Transaction) → IfSome o (IsTransaction h w.log l c) → IfSome o TransactionIsTellable → IsEditable E (next_names c o) → IsAfterNeed c j o (need E (next_names c o) path) d a → ClientIsTellable d
          go None x y editable done = same d done.0
          go (Some t) x y editable done = edited_in t EditWord.Need (need E (next_names c (Some t)) path) d x y (λ N is.
              meant_tellable E (next_names c (Some t)) EditWord.Need N shown (next_low (Some t) x) (next_numbered (Some t) y) (need_means E (next_names c (Some t)) editable sound path N is)
              (need_fit E (schema_in_effect E) sound (next_names c (Some t)) path N is)) done

      begins : (o : Option Transaction) (under : Rev) (d : Client) → begin c j l o under ≡ (d, a) → ClientIsTellable d
      begins (Some x) under d e = same d (sym (ap (λ (p : Client × Answer). p.0) e))
      begins None under d e = go (own_limit_passed j l 1) e
        where
          begun : Transaction
          begun = new_transaction (next_rev c) under

          more : (x : Client) → ClientIsTellable x → ClientIsTellable (record x { ids = c.ids + 1 })
          more x t = record { pending = t.pending; queued = t.queued; edited = t.edited; branches = t.branches }

          go : (o : Option Limit) → with_beginning c j under o ≡ (d, a) → ClientIsTellable d
          go (Some z) e = same d (sym (ap (λ (p : Client × Answer). p.0) e))
          go None e =
              let new : TransactionIsTellable begun = record { numbered = omega arith; joined = tt } in
              told (with_beginning c j under None) d a e (more (with_transaction_on c j (Some begun)) (transaction_tellable c j (Some begun) new mine))

      closed : ClientIsTellable (with_transaction_on c j None)
      closed = transaction_tellable c j None tt mine

      commits_edited : (o : Option Transaction) → IfSome o TransactionIsTellable → ClientIsTellable (commit c j o).0
      commits_edited None y = mine
      commits_edited (Some t) y = go t.joined y.joined
        where
          go : (o : Option Intent) → IfSome o IsTellable → ClientIsTellable (after_commit (with_transaction_on c j None) j t.rev o).0
          go None n = closed
          go (Some J) n = commit_tellable (with_transaction_on c j None) j J n closed

      aborts : (o : Option Transaction) → ClientIsTellable (abort c j o).0
      aborts None = mine
      aborts (Some t) = closed

      forks : (o : Option Refusal) → ClientIsTellable (fork c j l o).0
      forks None = fork_tellable c j l own mine
      forks (Some why) = mine

    -- ## The client as a whole

    adds : (N : Intent) → IsTellable N → ClientIsTellable (with_new_commit c N)
    adds N n = commit_tellable (with_id c) 0 N n (id_tellable c mine)

    undoes : (history : ℕ) (o : Option Transaction) (rev : Rev) (d : Client) → IsAfterUndo O history w.log c o rev d a → ClientIsTellable d
    undoes history (Some x) rev d y = same d y.0
    undoes history None rev d y = of_rev (refusal_of_rev history w.log c list rev) y
      where
        list : List Intent
        list = commits_of w.log (main_line c)

        puts : AllByRecursion PutsAreShort list
        puts = all_as IsTellable PutsAreShort list (λ N n. n.within.puts) (all 0 (main_line c) refl)

        undone : (B : Intent) → IsUndoing O list rev (next_rev c) B → IsTellable B
        undone B u = record {
          within = undoing_within NameIsShort O list rev (next_rev c) B st.sound (opening_keys h s.header) k.shown_fit puts u;
          numbered = (let num : B.rev.num ≡ c.ids + 1 = ap (λ (r : Rev). r.num) u.back.rev_and_under.0 in omega (arith, num));
          under = subst IsOpeningOrNumbered (sym u.back.rev_and_under.1) (head_under 0 (main_line c) refl u.after u.now);
        }

        of_commit : (o : Option Refusal) → Unless o c d a (IsUndone O list rev c d a) → ClientIsTellable d
        of_commit (Some why) y = same d y.0
        of_commit None y = subst ClientIsTellable (sym y.2) (adds y.0 (undone y.0 y.1))

        of_rev : (o : Option Refusal) → Unless o c d a (IsUndoneAt O list rev c d a) → ClientIsTellable d
        of_rev (Some why) y = same d y.0
        of_rev None y = of_commit (refusal_over y.2 y.0 c) y.4

    upgrades : (under : Rev) (new : SchemaView) (o : Option Refusal) → is_sound new ≡ true → IsOpeningOrNumbered under → ClientIsTellable (upgrade c (change_of_schema (next_rev c) under new) o).0
    upgrades under new (Some why) sound u = mine
    upgrades under new None sound u = adds (change_of_schema (next_rev c) under new) (record {
      within = record { new = tt; cells = tt; puts = tt; clears = tt; schema = (new, sound, refl) };
      numbered = omega arith;
      under = u;
    })

    delivers : (D : Document) (o : Option Transaction) (next : Option Entry) (d : Client) → IsDeliveredIn D c o next d a → ClientIsTellable d
    delivers D (Some x) next d y = same d y.0
    delivers D None None d y = same d y.0
    delivers D None (Some e) d y = subst ClientIsTellable (sym y.2) (received_tellable c e mine)

    -- ## The log

    sent : (texts : List Body) → c.queue ≡ texts → sequence w i c texts ≡ (v, a) → CommitsAreTellable v
    sent [] is e = as_told (w, No NothingToSend) e f
    sent (text ∷ rest) is e = go (log_limit_passed w.log (names_in_text text)) e
      where
        queue : AreTellable (commits_of_text text ++ intents_of rest)
        queue = subst AreTellable (ap intents_of is ∙ text_first text rest) mine.queued

        split : (xs ys : List Intent) → AreTellable (xs ++ ys) → AreTellable xs × AreTellable ys
        split [] ys x = (tt, x)
        split (N ∷ xs) ys x = let r = split xs ys x.1 in ((x.0, r.0), r.1)

        parts : AreTellable (commits_of_text text) × AreTellable (intents_of rest)
        parts = split (commits_of_text text) (intents_of rest) queue

        go : (o : Option Limit) → after_entry w i c text rest o ≡ (v, a) → CommitsAreTellable v
        go (Some z) e = as_told (w, limit_refusal z) e f
        go None e = as_told (after_entry w i c text rest None) e (record {
          log = longer c.session text parts.0;
          clients = all_set ClientIsTellable w.clients i (record c { queue = rest }) f.clients (record { pending = mine.pending; queued = parts.1; edited = mine.edited; branches = mine.branches });
        })

    left : leave w i c (entries_limit_passed w.log) ≡ (v, a) → CommitsAreTellable v
    left e = go (entries_limit_passed w.log) e
      where
        go : (o : Option Limit) → leave w i c o ≡ (v, a) → CommitsAreTellable v
        go (Some z) e = as_told (w, limit_refusal z) e f
        go None e = as_told (leave w i c None) e (record { log = longer c.session Leave tt; clients = all_rest ClientIsTellable w.clients i f.clients })

    dropped : drop_client w i c (entries_limit_passed w.log) ≡ (v, a) → CommitsAreTellable v
    dropped e = go (entries_limit_passed w.log) e
      where
        go : (o : Option Limit) → drop_client w i c o ≡ (v, a) → CommitsAreTellable v
        go (Some z) e = as_told (w, limit_refusal z) e f
        go None e = as_told (drop_client w i c None) e (record {
          log = longer c.session Leave tt;
          clients = all_set ClientIsTellable w.clients i (without_connection c) f.clients (offline_tellable c mine);
        })

    returned : reconnect w i c (refusal_to_reconnect w.log c) ≡ (v, a) → CommitsAreTellable v
    returned e = go (refusal_to_reconnect w.log c) e
      where
        go : (o : Option Refusal) → reconnect w i c o ≡ (v, a) → CommitsAreTellable v
        go (Some why) e = as_told (w, No why) e f
        go None e = as_told (reconnect w i c None) e (record {
          log = longer c.session (Join c.uuid) tt;
          clients = all_set ClientIsTellable w.clients i (with_connection w.log c) f.clients (online_tellable w.log c mine);
        })

    -- ## Branches

    -- on a branch that the client has, by its parent's line
    on_own : (j : ℕ) (does : Branch → Line → Type 0) → ((b : Branch) (l : Line) → branch_of c j ≡ Some b → line_of c b.parent ≡ Some l → does b l → CommitsAreTellable v) → OnOwnBranch w c does (branch_of c j) v a → CommitsAreTellable v
    on_own j does some x = go (branch_of c j) refl x
      where
        by : (b : Branch) → branch_of c j ≡ Some b → (o : Option Line) → line_of c b.parent ≡ o → OnParent w (does b) o v a → CommitsAreTellable v
        by b is None line x = kept x.0
        by b is (Some l) line x = some b l is line x

        go : (o : Option Branch) → branch_of c j ≡ o → OnOwnBranch w c does o v a → CommitsAreTellable v
        go None is x = kept x.0
        go (Some b) is x = by b is (line_of c b.parent) refl x

    rebases : (j : ℕ) (b : Branch) (l : Line) (o : Option Refusal) (d : Client) → line_of c b.parent ≡ Some l → Unless o c d a (IsRebased O w.log c j b l d a) → ClientIsTellable d
    rebases j b l (Some why) d line y = same d y.0
    rebases j b l None d line y = subst ClientIsTellable (sym y.4) (base_tellable c j l (line_tellable c b.parent l line mine) mine)

    -- the parent's line takes the branch's own commits
    merges : (j : ℕ) (b : Branch) (l : Line) (o : Option Refusal) (d : Client) → branch_of c j ≡ Some b → Unless o c d a (IsMerged O w.log c j b l d a) → ClientIsTellable d
    merges j b l (Some why) d is y = same d y.0
    merges j b l None d is y =
        let there = branch_there c j b is in
        let own = (all-has BranchIsTellable c.branches b mine.branches there.0).own in
        subst ClientIsTellable (sym y.4) (commits_tellable b.parent b.own (without_branch c j) own (gone_tellable c j mine))

    drops : (j : ℕ) → ClientIsTellable (drop_branch c j).0
    drops j = go (has_children c j)
      where
        go : (b : Bool) → ClientIsTellable (cond {A = Client × Answer} b (c, No HasChildren) (without_branch c j, DropBranch)).0
        go true = mine
        go false = gone_tellable c j mine

    -- ## Acts

    acts : (x : ActView) (j : ℕ) (l : Line) → line_of c j ≡ Some l → KeepsRules x → BringsShortLeaves x → IsActOf h w x i c j l v a → CommitsAreTellable v
    acts (step.join uuid) j l line rules short y = kept y.0
    acts (step.edit e) j l line rules short y = now y.1 (edits j l line y.0 e y.1 short y.2 y.3) y.4
    acts (step.need path) j l line rules short y = now y.1 (needs j l line y.0 path y.1 y.2 y.3) y.4
    acts step.begin j l line rules short y = now y.1 (begins j l line l.transaction (last_in_effect y.0) y.1 y.3) y.4
    acts step.commit j l line rules short y = now_as (commit c j l.transaction) (commits_edited j l line l.transaction (own j l line).edited) y
    acts step.abort j l line rules short y = now_as (abort c j l.transaction) (aborts j l line l.transaction) y
    acts (step.undo rev) j l line rules short y = now y.0 (undoes h.history c.transaction rev y.0 y.1) y.2
    acts (step.upgrade new) j l line rules short y =
        let o = refusal_to_upgrade c (schema_in_effect y.0) (length y.0.schemas) new in
        let under = last_in_effect y.0 in
        now y.1 (told (upgrade c (change_of_schema (next_rev c) under new) o) y.1 a y.3 (upgrades under new o rules (shown_under 0 (main_line c) refl y.0 y.2))) y.4
    acts step.sequence j l line rules short y = sent c.queue refl y
    acts step.ack j l line rules short y = now_as (with_ack c, Acked c.received) (ack_tellable c mine) y
    acts step.deliver j l line rules short y = now y.1 (delivers y.0 c.transaction (slice_get w.log c.received) y.1 y.3) y.4
    acts step.leave j l line rules short y = left y
    acts step.drop_client j l line rules short y = dropped y
    acts step.reconnect j l line rules short y = returned y
    acts step.fork j l line rules short y = now_as (fork c j l (refusal_to_fork c l)) (forks j l line (refusal_to_fork c l)) y
    acts step.rebase j l line rules short y = on_own j _ (λ b m is parent z. now z.0 (rebases j b m (refusal_to_rebase b) z.0 parent z.1) z.2) y
    acts step.merge j l line rules short y = on_own j _ (λ b m is parent z. now z.0 (merges j b m (refusal_to_merge c j b m) z.0 is z.1) z.2) y
    acts step.drop_branch j l line rules short y = on_own j _ (λ b m is parent z. now_as (drop_branch c j) (drops j) z) y
    acts step.show j l line rules short y = kept y.0
    acts step.pending j l line rules short y = kept y.0

  joined : (name : List ℕ) (told : Option ℕ) → join w name told ≡ (v, a) → CommitsAreTellable v
  joined name told e = go (nat_le 64 (length w.clients)) (nat_le 65535 (length w.log)) (clashes uuid w.log) e
    where
      session : ℕ
      session = sessions_in w.log + 1

      uuid : ℕ
      uuid = uuid_for session told

      go : (b c d : Bool) → cond b (w, limit_refusal (record { of = Clients; kept = length w.clients })) (cond c (w, limit_refusal (record { of = Log; kept = length w.log })) (cond d (w, No Clash) (enter w session uuid name))) ≡ (v, a) → CommitsAreTellable v
      go true c d e = as_told (w, limit_refusal (record { of = Clients; kept = length w.clients })) e f
      go false true d e = as_told (w, limit_refusal (record { of = Log; kept = length w.log })) e f
      go false false true e = as_told (w, No Clash) e f
      go false false false e = as_told (enter w session uuid name) e (record {
        log = longer session (Join uuid) tt;
        clients = AllByRecursion-append ClientIsTellable w.clients (new_client (length w.log + 1) session uuid name ∷ []) f.clients (record { pending = tt; queued = tt; edited = tt; branches = tt }, tt);
      })

  acts_none : (name : List ℕ) (x : ActView) → act_of_none w name x ≡ (v, a) → CommitsAreTellable v
  acts_none name (step.join told) e = joined name told e
  acts_none name (step.edit e) y = as_told (w, No NoClient) y f
  acts_none name (step.need path) y = as_told (w, No NoClient) y f
  acts_none name step.begin y = as_told (w, No NoClient) y f
  acts_none name step.commit y = as_told (w, No NoClient) y f
  acts_none name step.abort y = as_told (w, No NoClient) y f
  acts_none name (step.undo rev) y = as_told (w, No NoClient) y f
  acts_none name (step.upgrade schema) y = as_told (w, No NoClient) y f
  acts_none name step.sequence y = as_told (w, No NoClient) y f
  acts_none name step.ack y = as_told (w, No NoClient) y f
  acts_none name step.deliver y = as_told (w, No NoClient) y f
  acts_none name step.leave y = as_told (w, No NoClient) y f
  acts_none name step.drop_client y = as_told (w, No NoClient) y f
  acts_none name step.reconnect y = as_told (w, No NoClient) y f
  acts_none name step.fork y = as_told (w, No NoClient) y f
  acts_none name step.rebase y = as_told (w, No NoClient) y f
  acts_none name step.merge y = as_told (w, No NoClient) y f
  acts_none name step.drop_branch y = as_told (w, No NoClient) y f
  acts_none name step.show y = as_told (w, No NoClient) y f
  acts_none name step.pending y = as_told (w, No NoClient) y f

  by : (x : ActView) (i : ℕ) (c : Client) (at : slice_get w.clients i ≡ Some c) (j : ℕ) (l : Line) (needs connected : Bool) → line_of c j ≡ Some l → KeepsRules x → BringsShortLeaves x
      → ByConnected needs connected w v a (IsActOf h w x i c j l v a) → CommitsAreTellable v
  by x i c at j l false connected line rules short y = acts i c at x j l line rules short y
  by x i c at j l true true line rules short y = acts i c at x j l line rules short y
  by x i c at j l true false line rules short y = kept y.0

  on_line : (x : ActView) (i : ℕ) (c : Client) (at : slice_get w.clients i ≡ Some c) (o : Option Line) (j : ℕ) → line_of c j ≡ o → KeepsRules x → BringsShortLeaves x
      → OnLine w (λ l. ByConnected (needs_connection x) c.connected w v a (IsActOf h w x i c j l v a)) o v a → CommitsAreTellable v
  on_line x i c at None j line rules short y = kept y.0
  on_line x i c at (Some l) j line rules short y = by x i c at j l (needs_connection x) c.connected line rules short y

  next_tellable : (x : StepView) → KeepsRules x.act → BringsShortLeaves x.act → IsNext h w x v a → CommitsAreTellable v
  next_tellable x rules short y = place (place_of x.client w.clients) y
    where
      client_at : (i : ℕ) (o : Option Client) → slice_get w.clients i ≡ o → AtClient h w x (option_map (λ c. (i, c)) o) v a → CommitsAreTellable v
      client_at i None at y = acts_none x.client x.act y
      client_at i (Some c) at y = on_line x.act i c at (line_of c (branch_at x.branch x.act)) (branch_at x.branch x.act) refl rules short y

      place : (o : Option ℕ) → AtClient h w x (option_and_then (λ i. option_map (λ c. (i, c)) (slice_get w.clients i)) o) v a → CommitsAreTellable v
      place None y = acts_none x.client x.act y
      place (Some i) y = client_at i (slice_get w.clients i) refl y

-- each commit can be told in what a step leads to
pub tellable_next : (h : HeaderView) (w v : WorldState) (x : StepView) (a : Answer) → IsWorld h w → CommitsAreTellable w → KeepsRules x.act → BringsShortLeaves x.act → IsNext h w x v a → CommitsAreTellable v
tellable_next h w v x a s f rules short next = next_tellable h w s f v a x rules short next
