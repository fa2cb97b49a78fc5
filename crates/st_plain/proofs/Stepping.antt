-- The world after a step of one client.
use Rattle.std.proofs.Common.{Bool, IfSome, List, None, Option, Some, [], ap, arith, false, length, length-append, refl, subst, sym, true, ℕ, ◌&&◌, ◌++◌, ◌+◌, ◌<◌, ◌∙◌, ◌∷◌, ◌≡◌, ◌≢◌, ◌≤◌}
use Rattle.std.specs.Prelude.{min, not, ◌-◌, ◌^◌, nat_eq}
use Rattle.st_lists.specs.Lines.{Line}
use Rattle.st_world.specs.World.{AtClient, AtLine, ByConnected, IsNext, OnLine, act_of_none, branch_at, opening_document, sequence}
use Rattle.std.specs.List.{AllByRecursion, cons_option, remove, slice_get, slice_set}
use Rattle.std.specs.BTreeMap.{BTreeMap}
use Rattle.std.specs.Option.{option_map}
use Rattle.std.specs.Cmp.Lexicographic.{pointwise}
use Rattle.std.proofs.Math.ListN.{length-set}
use Rattle.std.proofs.lemmas.List.{append-nil}
use Rattle.std.proofs.lemmas.List.Quantifiers.{position-Some}
use Rattle.st_ids.specs.Listing.{Has}
use Rattle.st_ids.specs.declared.names.Limit.{Limit}
use Rattle.st_marks.specs.declared.intents.Intent.{Intent}
use Rattle.st_marks.specs.Document.{IsSoundInForm}
use Rattle.st_ids.specs.Root.{opening}
use Rattle.st_marks.specs.Intent.{Fits}
use Rattle.st_marks.specs.Run.{Run}
use Rattle.st_log_laws.specs.Names.{HaveNewRevisions}
use Rattle.st_log_laws.specs.Turns.{FitInTurn}
use Rattle.st_log_laws.proofs.Turns.{rest as rest_fit, turn_extends}
use Rattle.st_doc.specs.Doc.{document_of}
use Rattle.st_doc.specs.declared.doc.Doc.{Doc}
use Rattle.st_script.specs.Header.{HeaderView, header_view}
use Rattle.st_script.specs.declared.answer.Answer.{Answer}
use Rattle.st_script.specs.declared.answer.Answer.TheVariants.{No}
use Rattle.st_script.specs.declared.refusal.Refusal.TheVariants.{NotConnected, NothingToSend, NoBranch}
use Rattle.st_script.specs.Steps.{StepView}
use Rattle.st_plain_schemas.specs.Schemas.{HasReading}
use Rattle.st_plain_schemas.specs.declared.known.KnownSchema.{KnownSchema}
use Rattle.st_plain.specs.Replicas.{AreReplicas, IsReplicaOf, IsSound, IsSoundAfter}
use Rattle.st_world_laws.specs.Worlds.{HasOwnIds, HaveOwnSessions, IsClient, IsEntryOf, KeepToSchemas}
use Rattle.st_lists.specs.Log.{commit_in, commits_of_text, connected_after, is_text, minimum, ranges_in, sessions_in, commits_in, log_with}
use Rattle.st_clusters.specs.Log.{AreInTurn}
use Rattle.st_clusters.specs.declared.ids.IdRange.{IdRange}
use Rattle.st_world_laws.proofs.Ranges.{entered_ranges, none_carried, own_ids_sent, ranges_sent, same_ranges}
use Rattle.st_lists.specs.Known.{AreConnected, AreKnown}
use Rattle.st_lists.proofs.Minima.{minima_more}
use Rattle.st_lists.proofs.Present.{all_rest, connected_goes, connected_joined, connected_left, connected_stays, distinct_more, distinct_rest, distinct_set, rest_fewer, session_of, sessions_entered, text_stays}
use Rattle.st_marks.proofs.Members.{all-has}
use Rattle.st_lists.specs.Clients.{new_client, place_of, with_connection, without_connection}
use Rattle.st_lists.specs.Limits.{log_limit_passed}
use Rattle.st_lists.specs.Names.{names_in, names_in_text}
use Rattle.st_heads.specs.declared.replica.Replica.{Replica}
use Rattle.st_lists.specs.declared.lists.Body.TheVariants.{Join, Leave}
use Rattle.st_lists.specs.declared.lists.Client.{Client}
use Rattle.st_lists.specs.declared.lists.WorldState.{WorldState}
use Rattle.st_plain.specs.declared.world.World.{World}
use Rattle.st_world_laws.proofs.Agreed.{dropped_keeps, joined_keeps, left_keeps, returned_keeps, sent_keeps}
use Rattle.st_world_laws.proofs.Begun.{IsStart, opened_start}
use Rattle.st_world_laws.proofs.Clients.{client_joined, client_offline, client_returned, no_ids}
use Rattle.st_lists.proofs.Names.{names_append, names_of_text}
use Rattle.st_plain.proofs.Everyone.{all_after_text, all_sent, clients_of, kept_at, kept_none, kept_push, kept_set, kept_some, kept_without}
use Rattle.st_world_laws.proofs.Everyone.{all_as, all_get, all_set, past, set_same}
use Rattle.st_plain.proofs.Keeping.{AreOne, kept_joined, kept_offline, kept_returned}
use Rattle.st_lists.proofs.Logs.{entered_commits, last_entry}
use Rattle.st_lemmas.proofs.Lists.{AllByRecursion-append}
use Rattle.st_lists.specs.declared.lists.Body.{Body}
use Rattle.st_ids.specs.declared.names.Rev.{Rev}
use Rattle.st_plain_undo.specs.declared.logged.Logged.{Logged}
use Rattle.st_plain_log.specs.Receiving.{HasCaughtUp, IsNewReplica}
use Rattle.st_plain.specs.inside.Replicas.{HasLogged}
use Rattle.st_plain.proofs.Noting.{entered_of, logged_entered, logged_none}
use Rattle.st_world_laws.proofs.Entering.{given_still, is_last, limit_stopped, of_sessions, within_log}
use Rattle.st_plain_log.proofs.Entries.{run_entered}

abbrev pub start_of : (w : World) (steps : ℕ) → IsSoundAfter steps w → IsStart (opening_document (header_view w.header))
start_of w steps s = opened_start (header_view w.header) s.header

-- a step on
pub sound_later : (steps : ℕ) (w : World) → IsSoundAfter steps w → IsSoundAfter (steps + 1) w
sound_later steps w s = record {
  header = s.header;
  kept = s.kept;
  sessions = s.sessions;
  given = s.given;
  counted = s.counted;
  few_sessions = s.few_sessions;
  clients = s.clients;
  ids = all_as (λ (c : Client). c.ids ≤ steps) (λ (c : Client). c.ids ≤ steps + 1) w.lists.clients (λ c p. omega (arith, p)) s.ids;
  forks = all_as (λ (c : Client). c.forks ≤ steps) (λ (c : Client). c.forks ≤ steps + 1) w.lists.clients (λ c p. omega (arith, p)) s.forks;
  log = s.log;
  log_fit = s.log_fit;
  log_new = s.log_new;
  own_ids = s.own_ids;
  ranges = s.ranges;
  schema = s.schema;
  log_document = s.log_document;
  entries = s.entries;
  names = s.names;
  few_names = s.few_names;
  known = s.known;
  connected = s.connected;
  minima = s.minima;
  logged = s.logged;
}

-- one client goes on, and schemas may be kept beside the others
pub sound_client_with : (w : World) (i : ℕ) (c c' : Client) (k' : Replica) (schemas : BTreeMap Rev KnownSchema) → IsSound w → slice_get w.lists.clients i ≡ Some c → AreOne (header_view w.header) w.lists.log c' k' → c'.session ≡ c.session → c'.connected ≡ c.connected → c'.ids ≤ c.ids + 1 → c'.forks ≤ c.forks + 1
    → KeepToSchemas (header_view w.header) (HasReading schemas) w.lists.log (slice_set w.lists.clients i c') → IsSoundAfter (w.steps + 1) (record w { lists = record w.lists { clients = slice_set w.lists.clients i c' }; kept = slice_set w.kept i k'; schemas = schemas })
sound_client_with w i c c' k' schemas s at one session connected ids forks keeps = record {
  header = s.header;
  kept = kept_set (header_view w.header) w.lists.log w.lists.clients w.kept i c' k' s.kept one;
  sessions = distinct_set session_of w.lists.clients i c c' at session s.sessions;
  given = all_set (λ (x : Client). x.session ≤ sessions_in w.lists.log) w.lists.clients i c' s.given (omega (arith, session, all_get (λ (x : Client). x.session ≤ sessions_in w.lists.log) w.lists.clients i c s.given at));
  counted = s.counted;
  few_sessions = s.few_sessions;
  clients = omega (arith, s.clients, length-set w.lists.clients i c');
  ids = all_set (λ (x : Client). x.ids ≤ w.steps + 1) w.lists.clients i c' (all_as (λ (x : Client). x.ids ≤ w.steps) (λ (x : Client). x.ids ≤ w.steps + 1) w.lists.clients (λ x p. omega (arith, p)) s.ids)
      (omega (arith, ids, all_get (λ (x : Client). x.ids ≤ w.steps) w.lists.clients i c s.ids at));
  forks = all_set (λ (x : Client). x.forks ≤ w.steps + 1) w.lists.clients i c' (all_as (λ (x : Client). x.forks ≤ w.steps) (λ (x : Client). x.forks ≤ w.steps + 1) w.lists.clients (λ x p. omega (arith, p)) s.forks)
      (omega (arith, forks, all_get (λ (x : Client). x.forks ≤ w.steps) w.lists.clients i c s.forks at));
  log = s.log;
  log_fit = s.log_fit;
  log_new = s.log_new;
  own_ids = s.own_ids;
  ranges = s.ranges;
  schema = keeps;
  log_document = s.log_document;
  entries = s.entries;
  names = s.names;
  few_names = s.few_names;
  known = s.known;
  connected = connected_stays w.lists.log w.lists.clients i c at s.sessions s.connected c' session connected;
  minima = s.minima;
  logged = s.logged;
}

pub sound_client : (w : World) (i : ℕ) (c c' : Client) (k' : Replica) → IsSound w → slice_get w.lists.clients i ≡ Some c → AreOne (header_view w.header) w.lists.log c' k' → c'.session ≡ c.session → c'.connected ≡ c.connected → c'.ids ≤ c.ids + 1 → c'.forks ≤ c.forks + 1
    → KeepToSchemas (header_view w.header) (HasReading w.schemas) w.lists.log (slice_set w.lists.clients i c') → IsSoundAfter (w.steps + 1) (record w { lists = record w.lists { clients = slice_set w.lists.clients i c' }; kept = slice_set w.kept i k' })
sound_client w i c c' k' s at one session connected ids forks keeps = sound_client_with w i c c' k' w.schemas s at one session connected ids forks keeps

-- it fits the document after the whole log, which is sound in form
pub head_sound : (w : World) → IsSound w → IsSoundInForm (document_of w.log_document)
head_sound w s = (turn_extends (start_of w w.steps s).sound s.log_fit s.log_document).after

pub head_fits : (w : World) (i : ℕ) (c : Client) (text : Body) (rest : List Body) → IsSound w → slice_get w.lists.clients i ≡ Some c → c.queue ≡ text ∷ rest → IfSome (commit_in text) (Fits (document_of w.log_document))
head_fits w i c text rest s at is =
    let last = is_last (header_view w.header) w.lists.log c text rest (kept_some (header_view w.header) w.lists.log w.lists.clients w.kept i c s.kept at) is in
    first (commit_in text) (rest_fit (commits_of_text text) s.log_document last.fit)
  where
    first : (o : Option Intent) → FitInTurn (document_of w.log_document) (cons_option o []) → IfSome o (Fits (document_of w.log_document))
    first None f = tt
    first (Some N) f = f.0

-- who is connected is so still
pub sent_connected : (w : World) (i : ℕ) (c c' : Client) (text : Body) → IsSound w → slice_get w.lists.clients i ≡ Some c → c.queue ≡ text ∷ c'.queue → c' ≡ record c { queue = c'.queue }
    → AreConnected (log_with w.lists.log c.session text) (slice_set w.lists.clients i c')
sent_connected w i c c' text s at is is_c =
    let k = kept_some (header_view w.header) w.lists.log w.lists.clients w.kept i c s.kept at in
    let stays : connected_after c.connected text ≡ c'.connected = text_stays c.connected text (subst (AllByRecursion (λ (q : Body). is_text q ≡ true)) is k.texts).0 ∙ sym (ap (λ (x : Client). x.connected) is_c) in
    connected_goes w.lists.log w.lists.clients i c at s.sessions s.connected c' text (ap (λ (x : Client). x.session) is_c) stays

-- a client's session is one of those that the log has given, with one entry more too
given_here : (w : World) (i : ℕ) (c : Client) → IsSound w → slice_get w.lists.clients i ≡ Some c → c.session ≤ sessions_in w.lists.log
given_here w i c s at = all_get (λ (x : Client). x.session ≤ sessions_in w.lists.log) w.lists.clients i c s.given at

pub sound_sent : (w : World) (i : ℕ) (c c' : Client) (text : Body) (log_document : Doc) (known : BTreeMap ℕ ℕ) (logged : BTreeMap Rev Logged) → IsSound w → slice_get w.lists.clients i ≡ Some c → c.queue ≡ text ∷ c'.queue → c' ≡ record c { queue = c'.queue }
    → length w.lists.log < 65535 → names_in (commits_in w.lists.log) + names_in_text text ≤ 131072 → HasLogged (document_of w.log_document) w.logged (length w.lists.log + 1) (commit_in text) (document_of log_document) logged
    → AreKnown (log_with w.lists.log c.session text) known
    → IsSoundAfter (w.steps + 1) (record w {
      lists = record w.lists { log = log_with w.lists.log c.session text; clients = slice_set w.lists.clients i c' };
      log_document = log_document;
      known = known;
      minima = w.minima ++ minimum (log_with w.lists.log c.session text) ∷ [];
      logged = logged;
      names = w.names + names_in_text text;
    })
sound_sent w i c c' text log_document known logged s at is is_c few few_names noted knows =
    let h = header_view w.header in
    let st = start_of w w.steps s in
    let entered = entered_of (document_of w.log_document) (document_of log_document) w.logged logged (length w.lists.log + 1) (commit_in text) noted in
    let log = w.lists.log in
    let X = commits_of_text text in
    let L = commits_in log in
    let k = kept_some h log w.lists.clients w.kept i c s.kept at in
    let last = is_last h log c text c'.queue k is in
    let commits : L ++ X ≡ commits_in (log_with log c.session text) = sym (entered_commits log c.session text) in
    let names : names_in (commits_in (log_with log c.session text)) ≡ names_in L + names_in_text text = ap names_in (sym commits) ∙ names_append L X ∙ ap (λ n. names_in L + n) (names_of_text text) in
    let set : slice_set w.lists.clients i (record c { queue = c'.queue }) ≡ slice_set w.lists.clients i c' = ap (slice_set w.lists.clients i) (sym is_c) in
    let size = length-set w.lists.clients i c' in
    let mine = given_here w i c s at in
    let given : sessions_in (log_with log c.session text) ≡ sessions_in log = omega (arith, mine, sessions_entered log c.session text) in
    let low = all_get (λ (x : Client). x.ids ≤ w.steps) w.lists.clients i c s.ids at in
    let few_forks = all_get (λ (x : Client). x.forks ≤ w.steps) w.lists.clients i c s.forks at in
    record {
      header = s.header;
      kept = subst (λ (cs : List Client). AreReplicas h (log_with log c.session text) cs w.kept) set (all_sent h st log c text c'.queue k is few_names w.lists.clients w.kept i s.sessions at s.kept);
      sessions = distinct_set session_of w.lists.clients i c c' at (ap (λ (x : Client). x.session) is_c) s.sessions;
      given = all_set (λ (x : Client). x.session ≤ sessions_in (log_with log c.session text)) w.lists.clients i c' (given_still log c.session text w.lists.clients s.given) (omega (arith, mine, given, ap (λ (x : Client). x.session) is_c));
      counted = s.counted ∙ sym given;
      few_sessions = omega (arith, s.few_sessions, given, length-append log (last_entry log c.session text ∷ []));
      clients = omega (arith, s.clients, size);
      ids = all_set (λ (x : Client). x.ids ≤ w.steps + 1) w.lists.clients i c' (all_as (λ (x : Client). x.ids ≤ w.steps) (λ (x : Client). x.ids ≤ w.steps + 1) w.lists.clients (λ x p. omega (arith, p)) s.ids)
          (omega (arith, low, ap (λ (x : Client). x.ids) is_c));
      forks = all_set (λ (x : Client). x.forks ≤ w.steps + 1) w.lists.clients i c' (all_as (λ (x : Client). x.forks ≤ w.steps) (λ (x : Client). x.forks ≤ w.steps + 1) w.lists.clients (λ x p. omega (arith, p)) s.forks)
          (omega (arith, few_forks, ap (λ (x : Client). x.forks) is_c));
      log = AllByRecursion-append IsEntryOf log (last_entry log c.session text ∷ []) s.log (last.session, tt);
      log_fit = subst (FitInTurn (opening_document h)) commits last.fit;
      log_new = subst (HaveNewRevisions (opening ∷ [])) commits last.new;
      own_ids = AllByRecursion-append HasOwnIds log (last_entry log c.session text ∷ []) s.own_ids (own_ids_sent (ranges_in log) c text c'.queue is k.carried, tt);
      ranges = subst AreInTurn (sym (entered_ranges log c.session text)) (ranges_sent (ranges_in log) c text c'.queue is k.carried s.ranges);
      schema = sent_keeps h st (HasReading w.schemas) log w.lists.clients i c c' text (clients_of h log w.lists.clients w.kept s.kept) at is is_c last.fit last.new s.schema;
      log_document = subst (λ l. Run (opening_document h) l (document_of log_document)) commits (run_entered (opening_document h) (document_of w.log_document) (document_of log_document) L (commit_in text) s.log_document entered);
      entries = omega (arith, few, length-append log (last_entry log c.session text ∷ []));
      names = omega (arith, s.names, names);
      few_names = omega (arith, few_names, names);
      known = knows;
      connected = sent_connected w i c c' text s at is is_c;
      minima = minima_more log w.minima c.session text (minimum (log_with log c.session text)) refl s.minima;
      logged = logged_entered (opening_document h) (document_of w.log_document) (document_of log_document) log c.session text w.logged s.logged logged last.new s.log_document noted;
    }

-- an entry without a commit, after which the clients are so, and what is kept of them
pub record IsAfterEntry (w : World) (session : ℕ) (body : Body) (cs : List Client) (ks : List Replica) (refs : BTreeMap ℕ ℕ) (count : ℕ) : Type 0 where
  pub none : commit_in body ≡ None
  pub few : length w.lists.log < 65535
  pub kept : AreReplicas (header_view w.header) (log_with w.lists.log session body) cs ks
  pub sessions : HaveOwnSessions cs
  pub given : AllByRecursion (λ (c : Client). c.session ≤ sessions_in (log_with w.lists.log session body)) cs
  pub counted : count ≡ sessions_in (log_with w.lists.log session body)
  pub few_sessions : count ≤ length w.lists.log + 1
  pub clients : length cs ≤ 64
  pub ids : AllByRecursion (λ (c : Client). c.ids ≤ w.steps) cs
  pub forks : AllByRecursion (λ (c : Client). c.forks ≤ w.steps) cs
  pub schema : KeepToSchemas (header_view w.header) (HasReading w.schemas) (log_with w.lists.log session body) cs
  pub known : AreKnown (log_with w.lists.log session body) refs
  pub connected : AreConnected (log_with w.lists.log session body) cs

pub sound_entered : (w : World) (session : ℕ) (body : Body) (cs : List Client) (ks : List Replica) (known : BTreeMap ℕ ℕ) (sessions : ℕ) → IsSound w → IsAfterEntry w session body cs ks known sessions
    → IsSoundAfter (w.steps + 1) (record w {
      lists = record w.lists { log = log_with w.lists.log session body; clients = cs };
      kept = ks;
      known = known;
      minima = w.minima ++ minimum (log_with w.lists.log session body) ∷ [];
      sessions = sessions;
    })
sound_entered w session body cs ks known sessions s x =
    let h = header_view w.header in
    let log = w.lists.log in
    let L = commits_in log in
    let longer = log_with log session body in
    let commits : L ≡ commits_in longer = sym (entered_commits log session body ∙ ap (λ o. L ++ cons_option o []) x.none ∙ append-nil L) in
    let size : length longer ≡ length log + 1 = omega (arith, length-append log (last_entry log session body ∷ [])) in
    record {
      header = s.header;
      kept = x.kept;
      sessions = x.sessions;
      given = x.given;
      counted = x.counted;
      few_sessions = omega (arith, x.few_sessions, x.counted, size);
      clients = x.clients;
      ids = all_as (λ (c : Client). c.ids ≤ w.steps) (λ (c : Client). c.ids ≤ w.steps + 1) cs (λ c p. omega (arith, p)) x.ids;
      forks = all_as (λ (c : Client). c.forks ≤ w.steps) (λ (c : Client). c.forks ≤ w.steps + 1) cs (λ c p. omega (arith, p)) x.forks;
      log = AllByRecursion-append IsEntryOf log (last_entry log session body ∷ []) s.log (subst (λ o. IfSome o (λ (N : Intent). N.rev.session ≡ session)) (sym x.none) tt, tt);
      log_fit = subst (FitInTurn (opening_document h)) commits s.log_fit;
      log_new = subst (HaveNewRevisions (opening ∷ [])) commits s.log_new;
      own_ids = AllByRecursion-append HasOwnIds log (last_entry log session body ∷ []) s.own_ids (subst (λ o. IfSome o (λ (r : IdRange). r.session ≡ session)) (sym (no_ids body x.none)) tt, tt);
      ranges = subst AreInTurn (sym (same_ranges log session body (no_ids body x.none))) s.ranges;
      schema = x.schema;
      log_document = subst (λ l. Run (opening_document h) l (document_of w.log_document)) commits s.log_document;
      entries = omega (arith, x.few, size);
      names = s.names ∙ ap names_in commits;
      few_names = omega (arith, s.few_names, ap names_in commits);
      known = x.known;
      connected = x.connected;
      minima = minima_more log w.minima session body (minimum longer) refl s.minima;
      logged = logged_none (opening_document h) (document_of w.log_document) (document_of w.log_document) log session body w.logged s.logged x.none;
    }

-- a client joins, by the next session
apart_from_next : (w : World) → IsSound w → (x : Client) → Has w.lists.clients x → x.session ≢ sessions_in w.lists.log + 1
apart_from_next w s x i e = omega (arith, all-has (λ (c : Client). c.session ≤ sessions_in w.lists.log) w.lists.clients x s.given i, e)

pub joined_connected : (w : World) (session uuid : ℕ) (c : Client) → IsSound w → session ≡ sessions_in w.lists.log + 1 → c.session ≡ session → c.connected ≡ true → AreConnected (log_with w.lists.log session (Join uuid)) (w.lists.clients ++ c ∷ [])
joined_connected w session uuid c s next same on =
    subst (λ n. AreConnected (log_with w.lists.log n (Join uuid)) (w.lists.clients ++ c ∷ [])) same
    (connected_joined w.lists.log w.lists.clients c uuid (λ x i e. apart_from_next w s x i (e ∙ same ∙ next)) on s.connected)

pub sound_joined : (w : World) (name : List ℕ) (n session uuid : ℕ) (c : Client) (k : Replica) (known : BTreeMap ℕ ℕ) → IsSound w → length w.lists.clients < 64 → length w.lists.log < 65535 → session ≡ sessions_in w.lists.log + 1
    → n ≡ length w.lists.log + 1 → AreKnown (log_with w.lists.log session (Join uuid)) known → c ≡ new_client n session uuid name → IsNewReplica (document_of w.log_document) k
    → IsSoundAfter (w.steps + 1) (record w {
      lists = record w.lists { log = log_with w.lists.log session (Join uuid); clients = w.lists.clients ++ c ∷ [] };
      kept = w.kept ++ k ∷ [];
      known = known;
      minima = w.minima ++ minimum (log_with w.lists.log session (Join uuid)) ∷ [];
      sessions = session;
    })
sound_joined w name n session uuid c k known s few few_entries is_s is_n knows is_c new =
    let h = header_view w.header in
    let st = start_of w w.steps s in
    let log = w.lists.log in
    let L = commits_in log in
    let longer = log_with log session (Join uuid) in
    let commits : L ≡ commits_in longer = sym (entered_commits log session (Join uuid) ∙ append-nil L) in
    let size : length longer ≡ length log + 1 = omega (arith, length-append log (last_entry log session (Join uuid) ∷ [])) in
    let more : length (w.lists.clients ++ c ∷ []) ≡ length w.lists.clients + 1 = omega (arith, length-append w.lists.clients (c ∷ [])) in
    let client = client_joined h st log session uuid name (omega (arith, is_s)) (none_carried log session (omega (arith, is_s)) s.own_ids) s.log_fit s.log_new (λ N i e. omega (arith, of_sessions log N s.log i, e, is_s)) in
    let kept = kept_joined h st longer (length log + 1) session uuid name k (document_of w.log_document) (sym size) (subst (λ l. Run (opening_document h) l (document_of w.log_document)) commits s.log_document) new in
    let is : new_client (length log + 1) session uuid name ≡ c = ap (λ m. new_client m session uuid name) (sym is_n) ∙ sym is_c in
    let mine : c.session ≡ session = ap (λ (x : Client). x.session) is_c in
    let given : sessions_in longer ≡ session = omega (arith, is_s, sessions_entered log session (Join uuid)) in
    sound_entered w session (Join uuid) (w.lists.clients ++ c ∷ []) (w.kept ++ k ∷ []) known session s (record {
      none = refl;
      few = few_entries;
      kept = kept_push h longer w.lists.clients w.kept c k (all_after_text h st log session (Join uuid) refl w.lists.clients w.kept s.kept)
          (subst (λ x. IsClient h longer x) is client) (subst (λ x. IsReplicaOf h longer x k) is kept);
      sessions = distinct_more session_of w.lists.clients c s.sessions (λ x i e. apart_from_next w s x i (e ∙ mine ∙ is_s));
      given = AllByRecursion-append (λ (x : Client). x.session ≤ sessions_in longer) w.lists.clients (c ∷ []) (given_still log session (Join uuid) w.lists.clients s.given) (omega (arith, mine, given), tt);
      counted = sym given;
      few_sessions = omega (arith, is_s, s.few_sessions);
      clients = omega (arith, few, more);
      ids = AllByRecursion-append (λ (x : Client). x.ids ≤ w.steps) w.lists.clients (c ∷ []) s.ids (omega (arith, ap (λ (x : Client). x.ids) is_c), tt);
      forks = AllByRecursion-append (λ (x : Client). x.forks ≤ w.steps) w.lists.clients (c ∷ []) s.forks (omega (arith, ap (λ (x : Client). x.forks) is_c), tt);
      schema = joined_keeps h st (HasReading w.schemas) log w.lists.clients session uuid name c (clients_of h log w.lists.clients w.kept s.kept) (sym is) s.schema;
      known = knows;
      connected = joined_connected w session uuid c s is_s mine (ap (λ (x : Client). x.connected) is_c);
    })

-- an entry of a client that is there gives no session more
module _ (w : World) (i : ℕ) (c : Client) (body : Body) (s : IsSound w) (at : slice_get w.lists.clients i ≡ Some c) where
  given_again : w.sessions ≡ sessions_in (log_with w.lists.log c.session body)
  given_again = s.counted ∙ omega (arith, given_here w i c s at, sessions_entered w.lists.log c.session body)

  few_again : w.sessions ≤ length w.lists.log + 1
  few_again = omega (arith, s.counted, s.few_sessions)

-- a client leaves
pub left_connected : (w : World) (i : ℕ) (c : Client) → IsSound w → slice_get w.lists.clients i ≡ Some c → AreConnected (log_with w.lists.log c.session Leave) (remove w.lists.clients i)
left_connected w i c s at = connected_left w.lists.log w.lists.clients i c at s.sessions s.connected

pub sound_left : (w : World) (i : ℕ) (c : Client) (known : BTreeMap ℕ ℕ) → IsSound w → slice_get w.lists.clients i ≡ Some c → length w.lists.log < 65535 → AreKnown (log_with w.lists.log c.session Leave) known
    → IsSoundAfter (w.steps + 1) (record w {
      lists = record w.lists { log = log_with w.lists.log c.session Leave; clients = remove w.lists.clients i };
      kept = remove w.kept i;
      known = known;
      minima = w.minima ++ minimum (log_with w.lists.log c.session Leave) ∷ [];
    })
sound_left w i c known s at few knows =
    let h = header_view w.header in
    let st = start_of w w.steps s in
    let log = w.lists.log in
    let longer = log_with log c.session Leave in
    sound_entered w c.session Leave (remove w.lists.clients i) (remove w.kept i) known w.sessions s (record {
      none = refl;
      few = few;
      kept = kept_without h longer w.lists.clients w.kept i (all_after_text h st log c.session Leave refl w.lists.clients w.kept s.kept);
      sessions = distinct_rest session_of w.lists.clients i s.sessions;
      given = all_rest (λ (x : Client). x.session ≤ sessions_in longer) w.lists.clients i (given_still log c.session Leave w.lists.clients s.given);
      counted = given_again w i c Leave s at;
      few_sessions = few_again w i c Leave s at;
      clients = omega (arith, s.clients, rest_fewer w.lists.clients i);
      ids = all_rest (λ (x : Client). x.ids ≤ w.steps) w.lists.clients i s.ids;
      forks = all_rest (λ (x : Client). x.forks ≤ w.steps) w.lists.clients i s.forks;
      schema = left_keeps h st (HasReading w.schemas) log w.lists.clients i c.session (clients_of h log w.lists.clients w.kept s.kept) s.schema;
      known = knows;
      connected = left_connected w i c s at;
    })

-- a client that is there has an entry without a commit, and is now so
set_entered : (w : World) (i : ℕ) (c c' : Client) (ks : List Replica) (body : Body) (known : BTreeMap ℕ ℕ) → IsSound w → slice_get w.lists.clients i ≡ Some c → commit_in body ≡ None → length w.lists.log < 65535 → c'.session ≡ c.session → c'.ids ≡ c.ids → c'.forks ≡ c.forks
    → AreReplicas (header_view w.header) (log_with w.lists.log c.session body) (slice_set w.lists.clients i c') ks → KeepToSchemas (header_view w.header) (HasReading w.schemas) (log_with w.lists.log c.session body) (slice_set w.lists.clients i c')
    → AreConnected (log_with w.lists.log c.session body) (slice_set w.lists.clients i c') → AreKnown (log_with w.lists.log c.session body) known → IsAfterEntry w c.session body (slice_set w.lists.clients i c') ks known w.sessions
set_entered w i c c' ks body known s at none few session ids forks kept keeps connected knows =
    let log = w.lists.log in
    let longer = log_with log c.session body in
    let mine = given_here w i c s at in
    let low = all_get (λ (x : Client). x.ids ≤ w.steps) w.lists.clients i c s.ids at in
    let few_forks = all_get (λ (x : Client). x.forks ≤ w.steps) w.lists.clients i c s.forks at in
    record {
      none = none;
      few = few;
      kept = kept;
      sessions = distinct_set session_of w.lists.clients i c c' at session s.sessions;
      given = all_set (λ (x : Client). x.session ≤ sessions_in longer) w.lists.clients i c' (given_still log c.session body w.lists.clients s.given) (omega (arith, mine, session, sessions_entered log c.session body));
      counted = given_again w i c body s at;
      few_sessions = few_again w i c body s at;
      clients = omega (arith, s.clients, length-set w.lists.clients i c');
      ids = all_set (λ (x : Client). x.ids ≤ w.steps) w.lists.clients i c' s.ids (omega (arith, low, ids));
      forks = all_set (λ (x : Client). x.forks ≤ w.steps) w.lists.clients i c' s.forks (omega (arith, few_forks, forks));
      schema = keeps;
      known = knows;
      connected = connected;
    }

-- a client is dropped
pub dropped_connected : (w : World) (i : ℕ) (c : Client) → IsSound w → slice_get w.lists.clients i ≡ Some c → AreConnected (log_with w.lists.log c.session Leave) (slice_set w.lists.clients i (without_connection c))
dropped_connected w i c s at = connected_goes w.lists.log w.lists.clients i c at s.sessions s.connected (without_connection c) Leave refl refl

abbrev IsDropped : World → ℕ → Client → BTreeMap ℕ ℕ → Type 0
IsDropped w i c known = IsSoundAfter (w.steps + 1) (record w {
  lists = record w.lists { log = log_with w.lists.log c.session Leave; clients = slice_set w.lists.clients i (without_connection c) };
  known = known;
  minima = w.minima ++ minimum (log_with w.lists.log c.session Leave) ∷ [];
})

pub sound_dropped : (w : World) (i : ℕ) (c : Client) (known : BTreeMap ℕ ℕ) → IsSound w → slice_get w.lists.clients i ≡ Some c → length w.lists.log < 65535 → AreKnown (log_with w.lists.log c.session Leave) known → IsDropped w i c known
sound_dropped w i c known s at few knows = go (slice_get w.kept i) refl
  where
    h : HeaderView
    h = header_view w.header

    by : (k : Replica) → slice_get w.kept i ≡ Some k → IsDropped w i c known
    by k at_k =
        let st = start_of w w.steps s in
        let log = w.lists.log in
        let longer = log_with log c.session Leave in
        let all = all_after_text h st log c.session Leave refl w.lists.clients w.kept s.kept in
        let one = kept_at h longer w.lists.clients w.kept i c k all at at_k in
        let now : AreOne h longer (without_connection c) k = record { client = client_offline h st longer c one.client; kept = kept_offline h st longer c k one.kept } in
        let kept = subst (λ (ks : List Replica). AreReplicas h longer (slice_set w.lists.clients i (without_connection c)) ks) (set_same w.kept i k at_k) (kept_set h longer w.lists.clients w.kept i (without_connection c) k all now) in
        sound_entered w c.session Leave (slice_set w.lists.clients i (without_connection c)) w.kept known w.sessions s
        (set_entered w i c (without_connection c) w.kept Leave known s at refl few refl refl refl kept (dropped_keeps h st (HasReading w.schemas) log w.lists.clients i c (clients_of h log w.lists.clients w.kept s.kept) at s.schema) (dropped_connected w i c s at) knows)

    go : (o : Option Replica) → slice_get w.kept i ≡ o → IsDropped w i c known
    go None none = absurd (kept_none h w.lists.log w.lists.clients w.kept i c s.kept at none)
    go (Some k) at_k = by k at_k

-- a client comes back
pub returned_connected : (w : World) (i : ℕ) (c c' : Client) → IsSound w → slice_get w.lists.clients i ≡ Some c → c' ≡ with_connection w.lists.log c → AreConnected (log_with w.lists.log c.session (Join c.uuid)) (slice_set w.lists.clients i c')
returned_connected w i c c' s at is = connected_goes w.lists.log w.lists.clients i c at s.sessions s.connected c' (Join c.uuid) (ap (λ (x : Client). x.session) is) (sym (ap (λ (x : Client). x.connected) is))

pub sound_returned : (w : World) (i : ℕ) (c c' : Client) (k k' : Replica) (known : BTreeMap ℕ ℕ) → IsSound w → slice_get w.lists.clients i ≡ Some c → slice_get w.kept i ≡ Some k → c.transaction ≡ None → length w.lists.log < 65535
    → AreKnown (log_with w.lists.log c.session (Join c.uuid)) known → c' ≡ with_connection w.lists.log c → HasCaughtUp w.lists.log c k k'
    → IsSoundAfter (w.steps + 1) (record w {
      lists = record w.lists { log = log_with w.lists.log c.session (Join c.uuid); clients = slice_set w.lists.clients i c' };
      kept = slice_set w.kept i k';
      known = known;
      minima = w.minima ++ minimum (log_with w.lists.log c.session (Join c.uuid)) ∷ [];
    })
sound_returned w i c c' k k' known s at at_k none few knows is_c up =
    let h = header_view w.header in
    let st = start_of w w.steps s in
    let log = w.lists.log in
    let longer = log_with log c.session (Join c.uuid) in
    let one = kept_at h log w.lists.clients w.kept i c k s.kept at at_k in
    let all = all_after_text h st log c.session (Join c.uuid) refl w.lists.clients w.kept s.kept in
    let now : AreOne h longer (with_connection log c) k' = record { client = client_returned h st log c one.client none; kept = kept_returned h st log c k k' none one.client one.kept up } in
    let is : AreOne h longer c' k' = subst (λ x. AreOne h longer x k') (sym is_c) now in
    let keeps = subst (λ x. KeepToSchemas h (HasReading w.schemas) longer (slice_set w.lists.clients i x)) (sym is_c) (returned_keeps h st (HasReading w.schemas) log w.lists.clients i c (clients_of h log w.lists.clients w.kept s.kept) at none s.schema) in
    sound_entered w c.session (Join c.uuid) (slice_set w.lists.clients i c') (slice_set w.kept i k') known w.sessions s
    (set_entered w i c c' (slice_set w.kept i k') (Join c.uuid) known s at refl few (ap (λ (x : Client). x.session) is_c) (ap (λ (x : Client). x.ids) is_c) (ap (λ (x : Client). x.forks) is_c) (kept_set h longer w.lists.clients w.kept i c' k' all is) keeps (returned_connected w i c c' s at is_c) knows)

-- ## Answers

pub next_none : (h : HeaderView) (w : WorldState) (s : StepView) (v : WorldState) (a : Answer) → place_of s.client w.clients ≡ None
    → act_of_none w s.client s.act ≡ (v, a) → IsNext h w s v a
next_none h w s v a none is = rw none is

-- what the client at the place does
pub next_present : (h : HeaderView) (w : WorldState) (s : StepView) (i : ℕ) (v : WorldState) (a : Answer) → place_of s.client w.clients ≡ Some i
    → ((c : Client) → slice_get w.clients i ≡ Some c → AtLine h w s.act i c (branch_at s.branch s.act) v a) → IsNext h w s v a
next_present h w s i v a is does = rw is (at (slice_get w.clients i) refl)
  where
    within : i < length w.clients
    within = (position-Some (λ (c : Client). pointwise nat_eq c.name s.client) w.clients i (new_client 0 0 0 []) is).0

    at : (o : Option Client) → slice_get w.clients i ≡ o → AtClient h w s (option_map (λ c. (i, c)) (slice_get w.clients i)) v a
    at None none = absurd (past w.clients i within none)
    at (Some c) there = rw there (does c there)

-- a step on a line that is there, or on none
pub on_line : (w v : WorldState) (a : Answer) (does : Line → Type 0) (o : Option Line) (l : Line) → o ≡ Some l → does l → OnLine w does o v a
on_line w v a does o l is done = subst (λ x. OnLine w does x v a) (sym is) done

pub on_no_line : (w : WorldState) (does : Line → Type 0) (o : Option Line) → o ≡ None → OnLine w does o w (No NoBranch)
on_no_line w does o none = subst (λ x. OnLine w does x w (No NoBranch)) (sym none) (refl, refl)

-- whether an act is refused because its client isn't connected
pub by_connected : (needs connected : Bool) (w v : WorldState) (a : Answer) (next : Type 0) → needs && not connected ≡ false → next → ByConnected needs connected w v a next
by_connected false connected w v a next e n = n
by_connected true true w v a next e n = n
by_connected true false w v a next e n = cc

pub not_connected : (needs connected : Bool) (w : WorldState) (next : Type 0) → needs && not connected ≡ true → ByConnected needs connected w w (No NotConnected) next
not_connected false connected w next e = cc
not_connected true true w next e = cc
not_connected true false w next e = (refl, refl)

pub is_there : (needs connected : Bool) → needs ≡ true → needs && not connected ≡ false → connected ≡ true
is_there false connected n e = cc
is_there true true n e = refl
is_there true false n e = cc

-- a client whose queue is empty sends nothing
pub next_unsent : (w : WorldState) (i : ℕ) (c q : Client) → slice_get w.clients i ≡ Some c → slice_get w.clients i ≡ Some q → c.queue ≡ [] → sequence w i q q.queue ≡ (w, No NothingToSend)
next_unsent w i c q at_c at_q none =
    let same : c ≡ q = cc in
    let empty : q.queue ≡ [] = rw (← same) none in
    rw empty refl

-- a text that is sent passes no limit
pub text_within : (w : World) (i : ℕ) (c d : Client) (text : Body) (rest : List Body) (made : ℕ) (o : Option ℕ) (l : Option Limit) → slice_get w.lists.clients i ≡ Some c → slice_get w.lists.clients i ≡ Some d → d.queue ≡ text ∷ rest
    → o ≡ option_map (λ (text : Body). min (names_in_text text) (2 ^ 64 - 1)) (slice_get c.queue 0) → o ≡ Some made → l ≡ log_limit_passed w.lists.log made → l ≡ None
    → (length w.lists.log < 65535) × (names_in (commits_in w.lists.log) + names_in_text text ≤ 131072)
text_within w i c d text rest made o l at_c at_d is waits some limit none =
    let same : c ≡ d = cc in
    let queue : c.queue ≡ text ∷ rest = ap (λ (x : Client). x.queue) same ∙ is in
    let first : option_map (λ (text : Body). min (names_in_text text) (2 ^ 64 - 1)) (slice_get c.queue 0) ≡ Some (min (names_in_text text) (2 ^ 64 - 1)) = rw queue refl in
    let both : Some made ≡ Some (min (names_in_text text) (2 ^ 64 - 1)) = sym some ∙ waits ∙ first in
    let is_made : made ≡ min (names_in_text text) (2 ^ 64 - 1) = cc in
    within_log w.lists.log (names_in_text text) (sym (limit_stopped w.lists.log (names_in_text text)) ∙ ap (log_limit_passed w.lists.log) (sym is_made) ∙ sym limit ∙ none)
