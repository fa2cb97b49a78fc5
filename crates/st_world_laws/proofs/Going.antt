-- The lists of a world by themselves: what holds of them holds after each step.
use Rattle.st_edits.specs.InEffect.{schema_in_effect}
use Rattle.st_world_laws.proofs.Parts.{editable, client_begun, client_commits, client_ended, client_parted, edited_room, names_edited}
use Rattle.st_lists.specs.Lines.{HasHead, Line, commits_of, main_line, with_commit_on}
use Rattle.st_lists.specs.Names.{names_in, names_in_text, names_made, names_on_all}
use Rattle.st_lists.specs.declared.lists.Branch.{Branch}
use Rattle.st_world_laws.proofs.Clients.{client_acked, client_after_text, client_beside, client_committed, client_joined, client_none, client_offline, client_other, client_own, client_returned, client_sent, next_apart, no_ids, next_new}
use Rattle.st_world_laws.proofs.Meant.{IsEditable, IsMeaning, IsMeant}
use Rattle.st_world_laws.specs.Worlds.{HasMain, HasOwnIds, HaveOwnSessions, IsClient, IsEntryOf, IsHeader, IsTransaction, KeepToSchemas, LineFits}
use Rattle.st_world.specs.World.{HasShown, IsAfterEdit, IsAfterNeed, IsDeliveredIn, IsDeliveredTo, IsEditedIn, IsJoined, abort, after_commit, after_edit, begin, commit, next_names, opening_document, with_beginning, with_new_on}
use Rattle.st_edits.specs.InEffect.{last_in_effect}
use Rattle.std.proofs.Common.{◌≡◌, ◌≢◌, ◌≤◌, ◌+◌, ◌==◌, ℕ, zero, suc, Bool, true, false, List, [], ◌∷◌, ◌++◌, length, drop, Option, Some, None, IfSome, Result, Ok, Err, refl, sym, ap, ◌∙◌, subst, arith, inl, is_some}
use Rattle.std.specs.List.{cons_option, remove, slice_get, slice_set, AllByRecursion}
use Rattle.std.proofs.lemmas.List.{append-nil}
use Rattle.st_ids.specs.declared.names.Limit.{Limit}
use Rattle.st_tree.specs.declared.edit.EditFault.{EditFault}
use Rattle.st_marks.specs.declared.intents.Intent.{Intent}
use Rattle.st_marks.specs.Document.{Document}
use Rattle.st_ids.specs.Root.{opening}
use Rattle.st_log_laws.specs.Names.{HaveNewRevisions}
use Rattle.st_log_laws.specs.Turns.{FitInTurn}
use Rattle.st_script.specs.Header.{HeaderView}
use Rattle.st_script.specs.declared.answer.Answer.{Answer}
use Rattle.st_clusters.specs.Log.{AreInTurn}
use Rattle.st_clusters.specs.declared.ids.IdRange.{IdRange}
use Rattle.st_world_laws.proofs.Ranges.{entered_ranges, none_carried, own_ids_sent, ranges_sent, same_ranges}
use Rattle.st_lists.specs.Log.{commit_in, commit_of, commits_in, commits_of_text, log_with, ranges_in, sessions_in}
use Rattle.st_lists.specs.Clients.{empty_state, joined_of, new_client, next_rev, with_ack, pending_after, with_begun, with_commit, with_connection, with_id, with_new_commit, with_received, without_connection, without_transaction}
use Rattle.st_lists.specs.Open.{with_open}
use Rattle.st_marks.proofs.OneVerdict.{one_run}
use Rattle.std.specs.Option.{option_and_then, option_map_or}
use Rattle.st_ids.specs.declared.names.Rev.{Rev}
use Rattle.st_lists.specs.Limits.{limit_passed, names_limit_passed, pending_limit_passed}
use Rattle.st_world.specs.declared.edit_word.EditWord.{EditWord}
use Rattle.st_lists.specs.declared.lists.Body.TheVariants.{Join, Leave}
use Rattle.st_lists.specs.declared.lists.Client.{Client}
use Rattle.st_lists.specs.declared.lists.Entry.{Entry}
use Rattle.st_lists.specs.declared.lists.Transaction.{Transaction}
use Rattle.st_lists.specs.declared.lists.WorldState.{WorldState}
use Rattle.st_marks.specs.declared.verdicts.Verdict.{Verdict}
use Rattle.st_lists.specs.Undoing.{IsUndoing}
use Rattle.st_heads.proofs.Fitting.{undoing_fits}
use Rattle.st_script.specs.declared.refusal.Refusal.{Refusal}
use Rattle.st_world.specs.Kept.{Unless}
use Rattle.st_world.specs.Undo.{IsAfterUndo, IsUndone, IsUndoneAt, refusal_of_rev, refusal_over}
use Rattle.st_world_laws.proofs.Undoing.{no_limit, undoing_makes_none}
use Rattle.st_world_laws.proofs.Agreed.{acked_keeps, undone_keeps, begun_keeps, committed_keeps, delivered_keeps, dropped_keeps, edited_keeps, ended_keeps, joined_keeps, left_keeps, parted_keeps, returned_keeps, same_keeps, sent_keeps}
use Rattle.st_world_laws.proofs.Begun.{IsStart, opened_start}
use Rattle.st_lists.proofs.Names.{names_append, names_of_text}
use Rattle.st_world_laws.proofs.Everyone.{all_as, all_get, all_set, others_apart}
use Rattle.st_ids.specs.Listing.{Has}
use Rattle.st_ids.proofs.Shared.{at_has}
use Rattle.st_marks.proofs.Members.{all-has, append_right, distinct-has}
use Rattle.st_lists.proofs.Present.{all_rest, are_apart, distinct_more, distinct_rest, distinct_set, session_given, session_of, sessions_entered}
use Rattle.st_world_laws.proofs.Limits.{within_limits, within_names, within_pending}
use Rattle.st_lists.proofs.Logs.{entered_commits, last_entry}
use Rattle.st_world_laws.proofs.Entering.{given_still, is_last, of_sessions}
use Rattle.st_lemmas.proofs.Lists.{AllByRecursion-append}
use Rattle.st_lists.specs.declared.lists.Body.{Body}
use Rattle.st_lists.specs.Undoing.{IsAt}
use Rattle.st_schema.specs.Schema.{is_sound}
use Rattle.st_world_laws.proofs.Effect.{schema_sound_on}
use Rattle.st_world_laws.proofs.BranchesAgree.{main_in_order}
use Rattle.st_world_laws.specs.Worlds.{Any, IsWorld}

-- and before any client joins
pub begun_sound : (h : HeaderView) → IsHeader h → IsWorld h empty_state
begun_sound h k = record {
  header = k;
  clients = tt;
  sessions = tt;
  given = tt;
  log = tt;
  log_fit = tt;
  log_new = record { once = tt; new = λ N i j. i };
  schema = begun_keeps h Any k tt;
  few_names = omega arith;
  own_ids = tt;
  ranges = tt;
}

-- ## One client goes on

pub none_of : {A : Type 0} (o : Option A) → is_some o ≡ false → o ≡ None
none_of None e = refl
none_of (Some a) e = absurd (cc)

pub set_sound : (h : HeaderView) (w : WorldState) (i : ℕ) (c c' : Client) → IsWorld h w → slice_get w.clients i ≡ Some c → IsClient h w.log c' → c'.session ≡ c.session → KeepToSchemas h Any w.log (slice_set w.clients i c')
    → IsWorld h (record w { clients = slice_set w.clients i c' })
set_sound h w i c c' s at client session keeps = record {
  header = s.header;
  clients = all_set (IsClient h w.log) w.clients i c' s.clients client;
  sessions = distinct_set session_of w.clients i c c' at session s.sessions;
  given = all_set (λ (x : Client). x.session ≤ sessions_in w.log) w.clients i c' s.given (omega (arith, session, all_get (λ (x : Client). x.session ≤ sessions_in w.log) w.clients i c s.given at));
  log = s.log;
  log_fit = s.log_fit;
  log_new = s.log_new;
  schema = keeps;
  few_names = s.few_names;
  own_ids = s.own_ids;
  ranges = s.ranges;
}

-- ## What a step leaves of a client's numbers

-- its session and its connection stay, and it has at most one more id and one more number of a branch
pub record IsNear (c c' : Client) : Type 0 where
  pub session : c'.session ≡ c.session
  pub connected : c'.connected ≡ c.connected
  pub ids : c'.ids ≤ c.ids + 1
  pub forks : c'.forks ≤ c.forks + 1

pub near_same : (c c' : Client) → c' ≡ c → IsNear c c'
near_same c c' same = record {
  session = ap (λ (x : Client). x.session) same;
  connected = ap (λ (x : Client). x.connected) same;
  ids = omega (arith, ap (λ (x : Client). x.ids) same);
  forks = omega (arith, ap (λ (x : Client). x.forks) same);
}

pub near_committed : (c : Client) (k : ℕ) (N : Intent) → IsNear c (with_commit_on (with_id c) k N)
near_committed c zero N = record { session = refl; connected = refl; ids = omega arith; forks = omega arith }
near_committed c (suc k) N = record { session = refl; connected = refl; ids = omega arith; forks = omega arith }

pub near_edited : (c c' : Client) (k : ℕ) (l : Line) (word : EditWord) (r : Result Intent EditFault) (a : Answer) → after_edit c k l word r ≡ (c', a) → IsNear c c'
near_edited c c' k l word (Err f) a is = near_same c c' (ap (λ (p : Client × Answer). p.0) (sym is))
near_edited c c' k l word (Ok N) a is = go (limit_passed c k l N) is
  where
    go : (o : Option Limit) → with_new_on c k word N o ≡ (c', a) → IsNear c c'
    go (Some over) is = near_same c c' (ap (λ (p : Client × Answer). p.0) (sym is))
    go None is = subst (IsNear c) (ap (λ (p : Client × Answer). p.0) is) (near_committed c k N)

near_delivered : (c c' : Client) (D : Document) (o : Option Entry) (a : Answer) → IsDeliveredTo D c o c' a → IsNear c c'
near_delivered c c' D None a done = near_same c c' done.0
near_delivered c c' D (Some e) a done = subst (IsNear c) (sym done.2) (record { session = refl; connected = refl; ids = omega arith; forks = omega arith })

module _ (h : HeaderView) (st : IsStart (opening_document h)) where
  -- where no transaction is open
  client_edited : (log : List Entry) (c c' : Client) (D : Document) (word : EditWord) (r : Result Intent EditFault) (a : Answer) → IsClient h log c → names_in (commits_in log) ≤ 131072 → c.transaction ≡ None → HasMain h log c D
      → IsMeaning D (next_names c None) word r → after_edit c 0 (main_line c) word r ≡ (c', a) → IsClient h log c'
  client_edited log c c' D word (Err f) a k all none main means is = subst (IsClient h log) (ap (λ (p : Client × Answer). p.0) is) k
  client_edited log c c' D word (Ok N) a k all none main means is = go (limit_passed c 0 (main_line c) N) refl is
    where
      go : (o : Option Limit) → limit_passed c 0 (main_line c) N ≡ o → with_new_on c 0 word N o ≡ (c', a) → IsClient h log c'
      go (Some l) e is = subst (IsClient h log) (ap (λ (p : Client × Answer). p.0) is) k
      go None e is =
          let m = means N refl in
          let few = within_limits h st c N e in
          let session : N.rev.session ≡ c.session = ap (λ (r : Rev). r.session) m.rev in
          let num : N.rev.num ≡ c.ids + 1 = ap (λ (r : Rev). r.num) m.rev in
          let waiting : ((option_map_or names_made (joined_of c) 0 + names_in c.pending) + names_on_all c.branches) + names_made N ≤ 16384 = few.1 in
          let names : (names_in c.pending + names_on_all c.branches) + names_made N ≤ 16384 = omega (arith, waiting) in
          let apart : (b : Branch) (t : Transaction) → Has c.branches b → b.transaction ≡ Some t → t.rev ≢ N.rev = λ b t i x e. next_apart h st log c k b t i x (e ∙ m.rev) in
          let now = client_committed h st log c (c.ids + 1) D N k main m.fits session (omega (arith, num)) (omega arith) (next_new h st log c N.rev k m.rev) apart few.0 names all in
          subst (IsClient h log) (ap (λ (p : Client × Answer). p.0) is) (subst (λ (o : Option Transaction). IsClient h log (with_commit (record c { ids = c.ids + 1; transaction = o }) N)) (sym none) now)

  client_taken : (log : List Entry) (c : Client) (e : Entry) → IsClient h log c → names_in (commits_in log) ≤ 131072 → slice_get log c.received ≡ Some e → c.transaction ≡ None → IsClient h log (with_received e c)
  client_taken log c e k all at none = go (commit_of e) refl
    where
      by : (N : Intent) → commit_of e ≡ Some N → (b : Bool) → (e.session == c.session) ≡ b → IsClient h log (with_received e c)
      by N is true own =
          let same : drop 1 c.pending ≡ pending_after e c = sym (rw (is, own) refl) in
          subst (λ (l : List Intent). IsClient h log (record c { received = c.received + 1; pending = l })) same (client_own h st log c e N (drop 1 c.pending) k at is own refl none)
      by N is false other =
          let same : c.pending ≡ pending_after e c = sym (rw (is, other) refl) in
          subst (λ (l : List Intent). IsClient h log (record c { received = c.received + 1; pending = l })) same (client_other h st log c e N k at is other all none)

      go : (o : Option Intent) → commit_of e ≡ o → IsClient h log (with_received e c)
      go (Some N) is = by N is (e.session == c.session) refl
      go None is =
          let same : c.pending ≡ pending_after e c = sym (rw is refl) in
          subst (λ (l : List Intent). IsClient h log (record c { received = c.received + 1; pending = l })) same (client_none h st log c e k at is none)

  client_delivered : (log : List Entry) (c c' : Client) (D : Document) (a : Answer) → IsClient h log c → names_in (commits_in log) ≤ 131072 → c.transaction ≡ None → IsDeliveredTo D c (slice_get log c.received) c' a → IsClient h log c'
  client_delivered log c c' D a k all none done = go (slice_get log c.received) refl done
    where
      go : (o : Option Entry) → slice_get log c.received ≡ o → IsDeliveredTo D c o c' a → IsClient h log c'
      go None at done = subst (IsClient h log) (sym done.0) k
      go (Some e) at done = subst (IsClient h log) (sym done.2) (client_taken log c e k all at none)

module _ (h : HeaderView) (st : IsStart (opening_document h)) (K : Rev → List ℕ → Type 0) where
  -- ## One client's steps

  -- a client after a step: it is one still, its session stays, it has at most one more id and one more number of a branch,
  -- and all agrees with the schema
  pub record GoesOn (log : List Entry) (cs : List Client) (i : ℕ) (c c' : Client) : Type 0 where
    pub client : IsClient h log c'
    pub session : c'.session ≡ c.session
    pub connected : c'.connected ≡ c.connected
    pub ids : c'.ids ≤ c.ids + 1
    pub forks : c'.forks ≤ c.forks + 1
    pub keeps : KeepToSchemas h K log (slice_set cs i c')

  -- the line of a number, on which a client goes on by each step that it takes there
  pub record LineGoes (log : List Entry) (cs : List Client) (i : ℕ) (c : Client) (k : ℕ) (l : Line) : Type 0 where
    pub fit : LineFits h log l
    pub transaction : IfSome l.transaction (IsTransaction h log l c)
    pub room : (t : Transaction) → l.transaction ≡ Some t → names_in (commits_of log l) + (names_edited t.joined + 2048) ≤ 200000
    pub editable : (E : Document) → HasShown (opening_document h) log l E → IsEditable E (next_names c l.transaction)
    pub schema : (E : Document) → HasShown (opening_document h) log l E → is_sound (schema_in_effect E) ≡ true
    pub edits : (d : Client) (E : Document) (word : EditWord) (r : Result Intent EditFault) (a : Answer) → HasShown (opening_document h) log l E → IsMeaning E (next_names c l.transaction) word r → IsAfterEdit c k l l.transaction word r d a → GoesOn log cs i c d
    pub needs : (d : Client) (E : Document) (r : Result Intent EditFault) (a : Answer) → HasShown (opening_document h) log l E → IsMeaning E (next_names c l.transaction) EditWord.Need r → IsAfterNeed c k l.transaction r d a → GoesOn log cs i c d
    pub begins : (d : Client) (E : Document) (a : Answer) → HasShown (opening_document h) log l E → begin c k l l.transaction (last_in_effect E) ≡ (d, a) → GoesOn log cs i c d
    pub commits : (d : Client) (a : Answer) → commit c k l.transaction ≡ (d, a) → GoesOn log cs i c d
    pub aborts : (d : Client) (a : Answer) → abort c k l.transaction ≡ (d, a) → GoesOn log cs i c d

  module _ (log : List Entry) (cs : List Client) (sessions : HaveOwnSessions cs) (are : AllByRecursion (IsClient h log) cs) (few : names_in (commits_in log) ≤ 131072) (keeps : KeepToSchemas h K log cs)
      (i : ℕ) (c : Client) (at : slice_get cs i ≡ Some c) where
    k : IsClient h log c
    k = all_get (IsClient h log) cs i c are at

    pub stays : (c' : Client) → c' ≡ c → GoesOn log cs i c c'
    stays c' same = record {
      client = subst (IsClient h log) (sym same) k;
      session = ap (λ (x : Client). x.session) same;
      connected = ap (λ (x : Client). x.connected) same;
      ids = omega (arith, ap (λ (x : Client). x.ids) same);
      forks = omega (arith, ap (λ (x : Client). x.forks) same);
      keeps = same_keeps h st K log cs i c c' at (sym same) keeps;
    }

    goes_as : (d c' : Client) → c' ≡ d → GoesOn log cs i c d → GoesOn log cs i c c'
    goes_as d c' same g = subst (GoesOn log cs i c) (sym same) g

    -- what an edit means in the document of an open transaction
    pub meant_in : (l : Line) (E : Document) (t : Transaction) (word : EditWord) (M : Intent) (x : IsTransaction h log l c t) (D : Document) → HasHead (opening_document h) log l D → E ≡ with_open D t.joined → IsMeant E (next_names c (Some t)) word M
        → IsMeant (with_open x.before t.joined) (next_names c (Some t)) word M
    meant_in l E t word M x D main same m =
        let here : E ≡ with_open x.before t.joined = same ∙ ap (λ F. with_open F t.joined) (one_run main x.main) in
        subst (λ F. IsMeant F (next_names c (Some t)) word M) here m

    goes_in : (c' : Client) (D E : Document) (t : Transaction) (word : EditWord) (r : Result Intent EditFault) (a : Answer) → c.transaction ≡ Some t → IsTransaction h log (main_line c) c t → HasMain h log c D → E ≡ with_open D t.joined
        → IsMeaning E (next_names c (Some t)) word r → IsEditedIn c 0 t word r c' a → GoesOn log cs i c c'
    goes_in c' D E t word (Err f) a is x main same means done = stays c' done.0
    goes_in c' D E t word (Ok M) a is x main same means done = go (names_limit_passed c M) refl done
      where
        go : (o : Option Limit) → names_limit_passed c M ≡ o → IsJoined c 0 t word M o c' a → GoesOn log cs i c c'
        go (Some l) e done = stays c' done.0
        go None e done =
            let m = meant_in (main_line c) E t word M x D main same (means M refl) in
            goes_as _ c' done.2 (record {
              client = client_parted h st log c t word M k is few x m done.0 done.1 (within_names h st c M e);
              session = refl;
              connected = refl;
              ids = omega arith;
              forks = omega arith;
              keeps = parted_keeps h st K log cs i c t word M done.0 sessions are few at is x m done.1 keeps;
            })

    pub edit_goes : (c' : Client) (E : Document) (word : EditWord) (r : Result Intent EditFault) (a : Answer) → HasShown (opening_document h) log (main_line c) E → IsMeaning E (next_names c c.transaction) word r
        → IsAfterEdit c 0 (main_line c) c.transaction word r c' a → GoesOn log cs i c c'
    edit_goes c' E word r a shown means done = go c.transaction refl k.transaction shown.2 means done
      where
        D : Document
        D = shown.0

        go : (o : Option Transaction) → c.transaction ≡ o → IfSome o (IsTransaction h log (main_line c) c) → E ≡ with_open D (option_and_then (λ (t : Transaction). t.joined) o) → IsMeaning E (next_names c o) word r → IsAfterEdit c 0 (main_line c) o word r c' a → GoesOn log cs i c c'
        go None none x same means done =
            let here = subst (λ F. IsMeaning F (next_names c None) word r) same means in
            let on = near_edited c c' 0 (main_line c) word r a done in
            let next = client_edited h st log c c' D word r a k few none shown.1 here done in
            record {
              client = next;
              session = on.session;
              connected = on.connected;
              ids = on.ids;
              forks = on.forks;
              keeps = edited_keeps h st K log cs i c c' D word r a sessions are few at none shown.1 here done next keeps;
            }
        go (Some t) is x same means done = goes_in c' D E t word r a is x shown.1 same means done

    pub need_goes : (c' : Client) (E : Document) (r : Result Intent EditFault) (a : Answer) → HasShown (opening_document h) log (main_line c) E → IsMeaning E (next_names c c.transaction) EditWord.Need r
        → IsAfterNeed c 0 c.transaction r c' a → GoesOn log cs i c c'
    need_goes c' E r a shown means done = go c.transaction refl k.transaction shown.2 means done
      where
        go : (o : Option Transaction) → c.transaction ≡ o → IfSome o (IsTransaction h log (main_line c) c) → E ≡ with_open shown.0 (option_and_then (λ (t : Transaction). t.joined) o) → IsMeaning E (next_names c o) EditWord.Need r → IsAfterNeed c 0 o r c' a → GoesOn log cs i c c'
        go None none x same means done = stays c' done.0
        go (Some t) is x same means done = goes_in c' shown.0 E t EditWord.Need r a is x shown.1 same means done

    pub begin_goes : (c' : Client) (E : Document) (a : Answer) → HasShown (opening_document h) log (main_line c) E → begin c 0 (main_line c) c.transaction (last_in_effect E) ≡ (c', a) → GoesOn log cs i c c'
    begin_goes c' E a shown done = go c.transaction refl shown.2 done
      where
        begun : E ≡ shown.0 → c.transaction ≡ None → (o : Option Limit) → pending_limit_passed c ≡ o → with_beginning c 0 (last_in_effect E) o ≡ (c', a) → GoesOn log cs i c c'
        begun same none (Some l) e done = stays c' (ap (λ (p : Client × Answer). p.0) (sym done))
        begun same none None e done =
            goes_as (with_begun c (last_in_effect E)) c' (ap (λ (p : Client × Answer). p.0) (sym done)) (record {
              client = client_begun h st log c E k (subst (HasMain h log c) (sym same) shown.1) (within_pending h st c e);
              session = refl;
              connected = refl;
              ids = omega arith;
              forks = omega arith;
              keeps = ended_keeps h st K log cs i c (with_begun c (last_in_effect E)) at refl refl refl refl keeps;
            })

        go : (o : Option Transaction) → c.transaction ≡ o → E ≡ with_open shown.0 (option_and_then (λ (t : Transaction). t.joined) o) → begin c 0 (main_line c) o (last_in_effect E) ≡ (c', a) → GoesOn log cs i c c'
        go (Some t) is same done = stays c' (ap (λ (p : Client × Answer). p.0) (sym done))
        go None is same done = begun same is (pending_limit_passed c) refl done

    ended : GoesOn log cs i c (without_transaction c)
    ended = record { client = client_ended h st log c k; session = refl; connected = refl; ids = omega arith; forks = omega arith; keeps = ended_keeps h st K log cs i c (without_transaction c) at refl refl refl refl keeps }

    pub commit_goes : (c' : Client) (a : Answer) → commit c 0 c.transaction ≡ (c', a) → GoesOn log cs i c c'
    commit_goes c' a done = go c.transaction refl k.transaction done
      where
        by : (t : Transaction) (o : Option Intent) → c.transaction ≡ Some t → t.joined ≡ o → IsTransaction h log (main_line c) c t → after_commit (without_transaction c) 0 t.rev o ≡ (c', a) → GoesOn log cs i c c'
        by t None is joined x done = goes_as (without_transaction c) c' (ap (λ (p : Client × Answer). p.0) (sym done)) ended
        by t (Some J) is joined x done =
            let next = client_commits h st log c t J k is joined x few in
            goes_as (with_commit (without_transaction c) J) c' (ap (λ (p : Client × Answer). p.0) (sym done)) (record {
              client = next;
              session = refl;
              connected = refl;
              ids = omega arith;
              forks = omega arith;
              keeps = committed_keeps h st K log cs i c t J sessions are few at is joined x next.shown_fit keeps;
            })

        go : (o : Option Transaction) → c.transaction ≡ o → IfSome o (IsTransaction h log (main_line c) c) → commit c 0 o ≡ (c', a) → GoesOn log cs i c c'
        go None is x done = stays c' (ap (λ (p : Client × Answer). p.0) (sym done))
        go (Some t) is x done = by t t.joined is refl x done

    pub abort_goes : (c' : Client) (a : Answer) → abort c 0 c.transaction ≡ (c', a) → GoesOn log cs i c c'
    abort_goes c' a done = go c.transaction done
      where
        go : (o : Option Transaction) → abort c 0 o ≡ (c', a) → GoesOn log cs i c c'
        go None done = stays c' (ap (λ (p : Client × Answer). p.0) (sym done))
        go (Some t) done = goes_as (without_transaction c) c' (ap (λ (p : Client × Answer). p.0) (sym done)) ended

    pub main_goes : LineGoes log cs i c 0 (main_line c)
    main_goes = record {
      schema = λ E shown. schema_sound_on h st K log cs keeps are i c at 0 (main_line c) refl E shown;
      fit = k.shown_fit;
      transaction = k.transaction;
      room = λ t is. edited_room h st log c t k is few;
      editable = λ E shown. editable h st log c E k shown;
      edits = edit_goes;
      needs = need_goes;
      begins = begin_goes;
      commits = commit_goes;
      aborts = abort_goes;
    }

    -- what undoes a commit is pending
    undone_goes : (rev : Rev) (B : Intent) → c.transaction ≡ None → pending_limit_passed c ≡ None → (u : IsUndoing (opening_document h) (commits_of log (main_line c)) rev (next_rev c) B) → u.commit.schema ≡ None → GoesOn log cs i c (with_new_commit c B)
    undone_goes rev B none few_pending u data_only =
        let O = opening_document h in
        let list = commits_of log (main_line c) in
        let named : B.rev ≡ next_rev c = u.back.rev_and_under.0 in
        let session : B.rev.session ≡ c.session = ap (λ (r : Rev). r.session) named in
        let num : B.rev.num ≡ c.ids + 1 = ap (λ (r : Rev). r.num) named in
        let nothing = undoing_makes_none O list rev (next_rev c) B u in
        let fits = undoing_fits O list rev (next_rev c) B u.after st.sound k.shown_fit u.now u in
        let waiting : (option_map_or names_made (joined_of c) 0 + names_in c.pending) + names_on_all c.branches ≤ 16384 = k.few_names in
        let names : (names_in c.pending + names_on_all c.branches) + names_made B ≤ 16384 = omega (arith, waiting, nothing) in
        let apart : (b : Branch) (t : Transaction) → Has c.branches b → b.transaction ≡ Some t → t.rev ≢ B.rev = λ b t i x e. next_apart h st log c k b t i x (e ∙ named) in
        let now = client_committed h st log c (c.ids + 1) u.after B k u.now fits session (omega (arith, num)) (omega arith) (next_new h st log c B.rev k named) apart (within_pending h st c few_pending) names few in
        let next : IsClient h log (with_new_commit c B) = subst (λ (o : Option Transaction). IsClient h log (with_commit (record c { ids = c.ids + 1; transaction = o }) B)) (sym none) now in
        record {
          client = next;
          session = refl;
          connected = refl;
          ids = omega arith;
          forks = omega arith;
          keeps = undone_keeps h st K log cs i c rev B u.after sessions are few at none u.now u data_only u.back.nothing_new.3 next.shown_fit keeps;
        }

    pub undo_goes : (c' : Client) (history : ℕ) (rev : Rev) (a : Answer) → IsAfterUndo (opening_document h) history log c c.transaction rev c' a → GoesOn log cs i c c'
    undo_goes c' history rev a done = go c.transaction refl done
      where
        list : List Intent
        list = commits_of log (main_line c)

        in_list : (N : Intent) (D : Document) (v : Verdict) → IsAt (opening_document h) list rev N D v → Has list N
        in_list N D v x = subst (λ l. Has l N) (sym x.list) (append_right x.front (N ∷ x.rest) N (inl refl))

        -- the commit that is undone is the one of that revision
        one_of_rev : (N : Intent) (D : Document) (v : Verdict) → IsAt (opening_document h) list rev N D v → is_some N.schema ≡ false → (B : Intent) (u : IsUndoing (opening_document h) list rev (next_rev c) B) → u.commit.schema ≡ None
        one_of_rev N D v x e B u =
            let once = (main_in_order h st log c k).1.once in
            let same : u.commit ≡ N = distinct-has (λ (M : Intent). M.rev) list u.commit N once (in_list u.commit u.before Verdict.Sound u.is_at) (in_list N D v x) (u.is_at.named ∙ sym x.named) in
            ap (λ (M : Intent). M.schema) same ∙ none_of N.schema e

        over : c.transaction ≡ None → (N : Intent) (D : Document) (v : Verdict) → IsAt (opening_document h) list rev N D v → (o : Option Refusal) → refusal_over v N c ≡ o → Unless o c c' a (IsUndone (opening_document h) list rev c c' a)
            → GoesOn log cs i c c'
        over none N D v x (Some why) e done = stays c' done.0
        over none N D v x None e done = let p = no_limit v N c e in goes_as (with_new_commit c done.0) c' done.2 (undone_goes rev done.0 none p.2 done.1 (one_of_rev N D v x p.1 done.0 done.1))

        of_rev : c.transaction ≡ None → (o : Option Refusal) → Unless o c c' a (IsUndoneAt (opening_document h) list rev c c' a) → GoesOn log cs i c c'
        of_rev none (Some why) done = stays c' done.0
        of_rev none None done = over none done.0 done.1 done.2 done.3 (refusal_over done.2 done.0 c) refl done.4

        go : (o : Option Transaction) → c.transaction ≡ o → IsAfterUndo (opening_document h) history log c o rev c' a → GoesOn log cs i c c'
        go (Some t) is done = stays c' done.0
        go None none done = of_rev none (refusal_of_rev history log c list rev) done

    pub ack_goes : (c' : Client) → c.connected ≡ true → c' ≡ with_ack c → GoesOn log cs i c c'
    ack_goes c' on same = goes_as (with_ack c) c' same (record { client = client_acked h st log c on k; session = refl; connected = refl; ids = omega arith; forks = omega arith; keeps = acked_keeps h st K log cs i c at keeps })

    pub delivery_goes : (c' : Client) (D : Document) (a : Answer) → IsDeliveredIn D c c.transaction (slice_get log c.received) c' a → GoesOn log cs i c c'
    delivery_goes c' D a done = go c.transaction refl done
      where
        go : (o : Option Transaction) → c.transaction ≡ o → IsDeliveredIn D c o (slice_get log c.received) c' a → GoesOn log cs i c c'
        go (Some t) is done = stays c' done.0
        go None none done =
            let on = near_delivered c c' D (slice_get log c.received) a done in
            let next = client_delivered h st log c c' D a k few none done in
            record {
              client = next;
              session = on.session;
              connected = on.connected;
              ids = on.ids;
              forks = on.forks;
              keeps = delivered_keeps h st K log cs i c c' D a are next at none done keeps;
            }

module _ (h : HeaderView) (st : IsStart (opening_document h)) where
  -- ## The oldest text of a client is in the log

  module _ (log : List Entry) (c : Client) (text : Body) (rest : List Body) (own : IsClient h log c) (is : c.queue ≡ text ∷ rest) (few : names_in (commits_in log) + names_in_text text ≤ 131072) where
    abbrev longer : List Entry
    longer = log_with log c.session text

    all_beside : (cs : List Client) → AllByRecursion (λ (x : Client). x.session ≢ c.session) cs → AllByRecursion (IsClient h log) cs → AllByRecursion (IsClient h longer) cs
    all_beside [] apart w = tt
    all_beside (d ∷ cs) apart w = (client_beside h st log c d text rest own w.0 is (are_apart c.session d.session apart.0) few, all_beside cs apart.1 w.1)

    pub clients_sent : (cs : List Client) (i : ℕ) → HaveOwnSessions cs → slice_get cs i ≡ Some c → AllByRecursion (IsClient h log) cs → AllByRecursion (IsClient h longer) (slice_set cs i (record c { queue = rest }))
    clients_sent [] i s at w = tt
    clients_sent (d ∷ cs) zero s at w =
        let same : d ≡ c = cc in
        (client_sent h st log c text rest own is, all_beside cs (subst (λ (x : Client). AllByRecursion (λ (y : Client). y.session ≢ x.session) cs) same s.0) w.1)
    clients_sent (d ∷ cs) (suc i) s at w = (client_beside h st log c d text rest own w.0 is (others_apart cs d c s.0 (at_has cs i c at)) few, clients_sent cs i s.1 at w.1)

-- an entry of a session that was given leaves those given as they are, and an entry of the next gives it
pub sent_sound : (h : HeaderView) (w : WorldState) (i : ℕ) (c : Client) (text : Body) (rest : List Body) → IsWorld h w → slice_get w.clients i ≡ Some c → c.queue ≡ text ∷ rest → names_in (commits_in w.log) + names_in_text text ≤ 131072
    → IsWorld h (record w { log = log_with w.log c.session text; clients = slice_set w.clients i (record c { queue = rest }) })
sent_sound h w i c text rest s at is few =
    let st = opened_start h s.header in
    let L = commits_in w.log in
    let X = commits_of_text text in
    let c' : Client = record c { queue = rest } in
    let k = all_get (IsClient h w.log) w.clients i c s.clients at in
    let last = is_last h w.log c text rest k is in
    let commits : L ++ X ≡ commits_in (log_with w.log c.session text) = sym (entered_commits w.log c.session text) in
    let names : names_in (commits_in (log_with w.log c.session text)) ≡ names_in L + names_in_text text = ap names_in (sym commits) ∙ names_append L X ∙ ap (λ n. names_in L + n) (names_of_text text) in
    record {
      header = s.header;
      clients = clients_sent h st w.log c text rest k is few w.clients i s.sessions at s.clients;
      sessions = distinct_set session_of w.clients i c c' at refl s.sessions;
      given = all_set (λ (x : Client). x.session ≤ sessions_in (log_with w.log c.session text)) w.clients i c' (given_still w.log c.session text w.clients s.given) (session_given (log_with w.log c.session text) (last_entry w.log c.session text) (append_right w.log (last_entry w.log c.session text ∷ []) (last_entry w.log c.session text) (inl refl)));
      log = AllByRecursion-append IsEntryOf w.log (last_entry w.log c.session text ∷ []) s.log (last.session, tt);
      log_fit = subst (FitInTurn (opening_document h)) commits last.fit;
      log_new = subst (HaveNewRevisions (opening ∷ [])) commits last.new;
      schema = sent_keeps h st Any w.log w.clients i c c' text s.clients at is refl last.fit last.new s.schema;
      few_names = omega (arith, few, names);
      own_ids = AllByRecursion-append HasOwnIds w.log (last_entry w.log c.session text ∷ []) s.own_ids (own_ids_sent (ranges_in w.log) c text rest is k.carried, tt);
      ranges = subst AreInTurn (sym (entered_ranges w.log c.session text)) (ranges_sent (ranges_in w.log) c text rest is k.carried s.ranges);
    }

-- ## Sessions come and go

-- a client that joins has a session that no other has, nor an entry of the log
pub apart_from_new : (log : List Entry) (cs : List Client) → AllByRecursion (λ (c : Client). c.session ≤ sessions_in log) cs → (x : Client) → Has cs x → x.session ≢ sessions_in log + 1
apart_from_new log cs given x h e = omega (arith, all-has (λ (c : Client). c.session ≤ sessions_in log) cs x given h, e)

pub joined_sound : (h : HeaderView) (w : WorldState) (uuid : ℕ) (name : List ℕ) → IsWorld h w
    → IsWorld h (record w { log = log_with w.log (sessions_in w.log + 1) (Join uuid); clients = w.clients ++ new_client (length w.log + 1) (sessions_in w.log + 1) uuid name ∷ [] })
joined_sound h w uuid name s =
    let st = opened_start h s.header in
    let session = sessions_in w.log + 1 in
    let L = commits_in w.log in
    let longer = log_with w.log session (Join uuid) in
    let c = new_client (length w.log + 1) session uuid name in
    let commits : L ≡ commits_in longer = sym (entered_commits w.log session (Join uuid) ∙ append-nil L) in
    let client = client_joined h st w.log session uuid name (omega arith) (none_carried w.log session (omega arith) s.own_ids) s.log_fit s.log_new (λ N i e. omega (arith, of_sessions w.log N s.log i, e)) in
    record {
      header = s.header;
      clients = AllByRecursion-append (IsClient h longer) w.clients (c ∷ []) (all_as (IsClient h w.log) (IsClient h longer) w.clients (λ d k. client_after_text h st w.log session (Join uuid) d refl k) s.clients) (client, tt);
      sessions = distinct_more session_of w.clients c s.sessions (apart_from_new w.log w.clients s.given);
      given = AllByRecursion-append (λ (x : Client). x.session ≤ sessions_in longer) w.clients (c ∷ []) (given_still w.log session (Join uuid) w.clients s.given) (omega (arith, sessions_entered w.log session (Join uuid)), tt);
      log = AllByRecursion-append IsEntryOf w.log (last_entry w.log session (Join uuid) ∷ []) s.log (tt, tt);
      log_fit = subst (FitInTurn (opening_document h)) commits s.log_fit;
      log_new = subst (HaveNewRevisions (opening ∷ [])) commits s.log_new;
      schema = joined_keeps h st Any w.log w.clients session uuid name c s.clients refl s.schema;
      few_names = omega (arith, s.few_names, ap names_in commits);
      own_ids = AllByRecursion-append HasOwnIds w.log (last_entry w.log session (Join uuid) ∷ []) s.own_ids (tt, tt);
      ranges = subst AreInTurn (sym (same_ranges w.log session (Join uuid) refl)) s.ranges;
    }

-- an entry without a commit, of a client that is there: the others stay, and it goes or is now so
module _ (h : HeaderView) (w : WorldState) (i : ℕ) (c : Client) (body : Body) (s : IsWorld h w) (at : slice_get w.clients i ≡ Some c) (none : commit_in body ≡ None) where
  abbrev log_after : List Entry
  log_after = log_with w.log c.session body

  st : IsStart (opening_document h)
  st = opened_start h s.header

  commits : commits_in w.log ≡ commits_in log_after
  commits = sym (entered_commits w.log c.session body ∙ ap (λ o. commits_in w.log ++ cons_option o []) none ∙ append-nil (commits_in w.log))

  others : AllByRecursion (IsClient h log_after) w.clients
  others = all_as (IsClient h w.log) (IsClient h log_after) w.clients (λ d k. client_after_text h st w.log c.session body d none k) s.clients

  pub entered_sound : (cs : List Client) → AllByRecursion (IsClient h log_after) cs → HaveOwnSessions cs → AllByRecursion (λ (x : Client). x.session ≤ sessions_in log_after) cs → KeepToSchemas h Any log_after cs → IsWorld h (record w { log = log_after; clients = cs })
  entered_sound cs clients sessions given keeps = record {
    header = s.header;
    clients = clients;
    sessions = sessions;
    given = given;
    log = AllByRecursion-append IsEntryOf w.log (last_entry w.log c.session body ∷ []) s.log (subst (λ o. IfSome o (λ (N : Intent). N.rev.session ≡ c.session)) (sym none) tt, tt);
    log_fit = subst (FitInTurn (opening_document h)) commits s.log_fit;
    log_new = subst (HaveNewRevisions (opening ∷ [])) commits s.log_new;
    schema = keeps;
    few_names = omega (arith, s.few_names, ap names_in commits);
    own_ids = AllByRecursion-append HasOwnIds w.log (last_entry w.log c.session body ∷ []) s.own_ids (subst (λ o. IfSome o (λ (r : IdRange). r.session ≡ c.session)) (sym (no_ids body none)) tt, tt);
    ranges = subst AreInTurn (sym (same_ranges w.log c.session body (no_ids body none))) s.ranges;
  }

  pub set_after : (c' : Client) → c'.session ≡ c.session → IsClient h log_after c' → KeepToSchemas h Any log_after (slice_set w.clients i c') → IsWorld h (record w { log = log_after; clients = slice_set w.clients i c' })
  set_after c' session client keeps =
      let low = all_get (λ (x : Client). x.session ≤ sessions_in w.log) w.clients i c s.given at in
      entered_sound (slice_set w.clients i c') (all_set (IsClient h log_after) w.clients i c' others client) (distinct_set session_of w.clients i c c' at session s.sessions)
      (all_set (λ (x : Client). x.session ≤ sessions_in log_after) w.clients i c' (given_still w.log c.session body w.clients s.given) (omega (arith, low, session, sessions_entered w.log c.session body))) keeps

  pub gone_after : KeepToSchemas h Any log_after (remove w.clients i) → IsWorld h (record w { log = log_after; clients = remove w.clients i })
  gone_after keeps =
      entered_sound (remove w.clients i) (all_rest (IsClient h log_after) w.clients i others) (distinct_rest session_of w.clients i s.sessions)
      (all_rest (λ (x : Client). x.session ≤ sessions_in log_after) w.clients i (given_still w.log c.session body w.clients s.given)) keeps

pub left_sound : (h : HeaderView) (w : WorldState) (i : ℕ) (c : Client) → IsWorld h w → slice_get w.clients i ≡ Some c → IsWorld h (record w { log = log_with w.log c.session Leave; clients = remove w.clients i })
left_sound h w i c s at = gone_after h w i c Leave s at refl (left_keeps h (opened_start h s.header) Any w.log w.clients i c.session s.clients s.schema)

pub dropped_sound : (h : HeaderView) (w : WorldState) (i : ℕ) (c : Client) → IsWorld h w → slice_get w.clients i ≡ Some c → IsWorld h (record w { log = log_with w.log c.session Leave; clients = slice_set w.clients i (without_connection c) })
dropped_sound h w i c s at =
    let st = opened_start h s.header in
    let k = all_get (IsClient h w.log) w.clients i c s.clients at in
    set_after h w i c Leave s at refl (without_connection c) refl (client_offline h st (log_with w.log c.session Leave) c (client_after_text h st w.log c.session Leave c refl k)) (dropped_keeps h st Any w.log w.clients i c s.clients at s.schema)

pub returned_sound : (h : HeaderView) (w : WorldState) (i : ℕ) (c : Client) → IsWorld h w → slice_get w.clients i ≡ Some c → c.transaction ≡ None → IsWorld h (record w { log = log_with w.log c.session (Join c.uuid); clients = slice_set w.clients i (with_connection w.log c) })
returned_sound h w i c s at none =
    let st = opened_start h s.header in
    let k = all_get (IsClient h w.log) w.clients i c s.clients at in
    set_after h w i c (Join c.uuid) s at refl (with_connection w.log c) refl (client_returned h st w.log c k none) (returned_keeps h st Any w.log w.clients i c s.clients at none s.schema)
