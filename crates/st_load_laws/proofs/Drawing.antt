-- Each step of a load leads from a world of it to another.
use Rattle.std.proofs.Common.{◌≡◌, ◌⊎◌, inl, inr, ◌<◌, ◌≤◌, ◌+◌, ◌*◌, ◌-◌, nat_le, nat_lt, ℕ, zero, suc, Bool, true, false, cond, List, [], ◌∷◌, ◌++◌, length, length-append, Option, Some, None, Result, Ok, Err, refl, sym, ap, ◌∙◌, subst, arith}
use Rattle.std.specs.List.{AllByRecursion, cons_option, slice_get, slice_set}
use Rattle.std.specs.Option.{option_map_or}
use Rattle.std.proofs.lemmas.Bool.Decides.{nat_tests}
use Rattle.st_ids.specs.declared.names.Limit.{Limit}
use Rattle.st_ids.specs.declared.names.LimitOf.TheVariants.{Log, Names}
use Rattle.st_marks.specs.Document.{Document}
use Rattle.st_marks.specs.declared.intents.Intent.{Intent}
use Rattle.st_marks.specs.declared.verdicts.Verdict.{Verdict}
use Rattle.st_schema.specs.Schema.{SchemaView}
use Rattle.st_edits.specs.InEffect.{schema_in_effect}
use Rattle.st_edits.specs.declared.names.NameCounters.{NameCounters}
use Rattle.st_tree.specs.declared.edit.EditFault.{EditFault}
use Rattle.st_lists.specs.Clients.{ids_from, queue_with, with_id, with_received}
use Rattle.st_lists.specs.Limits.{limit_passed, log_limit_passed}
use Rattle.st_lists.specs.Lines.{main_line}
use Rattle.st_lists.specs.Log.{commit_of, commits_in, log_with}
use Rattle.st_lists.specs.Names.{names_in, names_in_text, names_made}
use Rattle.st_lists.specs.declared.lists.Body.{Body}
use Rattle.st_lists.specs.declared.lists.Body.TheVariants.{Commit}
use Rattle.st_lists.specs.declared.lists.Client.{Client}
use Rattle.st_lists.specs.declared.lists.Entry.{Entry}
use Rattle.st_lists.specs.declared.lists.Transaction.{Transaction}
use Rattle.st_lists.specs.declared.lists.WorldState.{WorldState}
use Rattle.st_script.specs.Header.{HeaderView}
use Rattle.st_script.specs.Steps.{ActView, EditView, StepView}
use Rattle.st_script.specs.Steps as step
use Rattle.st_script.specs.declared.answer.Answer.{Answer}
use Rattle.st_script.specs.declared.answer.Answer.TheVariants as answer
use Rattle.st_script.specs.declared.refusal.Refusal.TheVariants as no
use Rattle.st_world.specs.World.{AtClient, ByConnected, IsActOf, IsAfterEdit, IsDelivered, IsDeliveredIn, IsDeliveredTo, IsNext, after_edit, after_entry, intent_of, next_names, sequence, with_new_on, word_of}
use Rattle.st_world.specs.declared.edit_word.EditWord.{EditWord}
use Rattle.st_load_laws.specs.Load.{AreMade, load_clients, step_by}
use Rattle.st_load_laws.specs.Loaded.{IsLoaded, IsLoading, MakesFew, queued, total}
use Rattle.st_load_laws.proofs.FewNames.{insert_few, move_few, remove_few}
use Rattle.st_load_laws.proofs.Finding.{IsAmong, drawn_among, here}
use Rattle.st_load_laws.proofs.Sets.{all_append, all_get, all_set, names_set, total_set}
use Rattle.st_work.specs.Generator.{after_step, client_drawn, drawn, next_plan, row_key, step_planned, steps_from, text_item, turned}
use Rattle.st_work.specs.declared.work.Plan.{Plan}
use Rattle.st_work.specs.declared.work.Plan.TheVariants as plan
use Rattle.st_work.specs.declared.work.Work.{Work}

-- ## A client that changes

more_room : (names : List (List ℕ)) (n m : ℕ) (w : WorldState) → n ≤ m → IsLoaded names n w → IsLoaded names m w
more_room names n m w h l = let few = l.few in record { named = l.named; clients = l.clients; log = l.log; few = omega (arith, few, h) }

-- the client at a place is another now, and at most so many texts more wait
set_loaded : (names : List (List ℕ)) (n k : ℕ) (w v : WorldState) (i : ℕ) (c d : Client) → IsLoaded names n w → slice_get w.clients i ≡ Some c
    → IsLoading d → d.name ≡ c.name → queued d ≤ queued c + k → v ≡ record w { clients = slice_set w.clients i d } → IsLoaded names (n + k) v
set_loaded names n k w v i c d l at loading name more is = subst (IsLoaded names (n + k)) (sym is) (record {
  named = names_set (λ (x : Client). x.name) w.clients i c d at name ∙ l.named;
  clients = all_set IsLoading w.clients i d l.clients loading;
  log = l.log;
  few = (let t = total_set queued w.clients i c d at in let few = l.few in omega (arith, t, few, more));
})

-- ## Edits

queue_few : (c : Client) (text : Body) → IsLoading c → MakesFew text → AllByRecursion MakesFew (queue_with c text) × (length (queue_with c text) ≤ queued c + 1)
queue_few c text l few = go c.connected
  where
    go : (b : Bool) → AllByRecursion MakesFew (cond b (c.queue ++ text ∷ []) c.queue) × (length (cond b (c.queue ++ text ∷ []) c.queue) ≤ queued c + 1)
    go true = (all_append MakesFew c.queue (text ∷ []) l.queue (few, tt), (let e = length-append c.queue (text ∷ []) in omega (arith, e)))
    go false = (l.queue, omega arith)

-- a client after an edit
record IsEditedFrom (c d : Client) : Type 0 where
  loading : IsLoading d
  name : d.name ≡ c.name
  more : queued d ≤ queued c + 1

same_loading : (c : Client) → IsLoading c → IsLoading (with_id c)
same_loading c l = record { connected = l.connected; transaction = l.transaction; queue = l.queue }

same_client : (c d : Client) → IsLoading c → c ≡ d → IsEditedFrom c d
same_client c d l e = subst (IsEditedFrom c) e (record { loading = l; name = refl; more = omega arith })

edited : (c d : Client) (word : EditWord) (meant : Result Intent EditFault) (a : Answer) → IsLoading c
    → ((N : Intent) → meant ≡ Ok N → names_made N ≤ 2) → after_edit c 0 (main_line c) word meant ≡ (d, a) → IsEditedFrom c d
edited c d word (Err f) a l few e = same_client c d l (ap (λ (q : Client × Answer). q.0) e)
edited c d word (Ok N) a l few e = go (limit_passed c 0 (main_line c) N) e
  where
    go : (o : Option Limit) → with_new_on c 0 word N o ≡ (d, a) → IsEditedFrom c d
    go None f =
        let q = queue_few (with_id c) (Commit c.received (ids_from c.session c.taken (c.ids + 1)) N) (same_loading c l) (few N refl) in
        subst (IsEditedFrom c) (ap (λ (q : Client × Answer). q.0) f) (record {
          loading = record { connected = l.connected; transaction = l.transaction; queue = q.0 };
          name = refl;
          more = q.1;
        })
    go (Some o) f = same_client c d l (ap (λ (q : Client × Answer). q.0) f)

edit_goes : (h : HeaderView) (n : ℕ) (w v : WorldState) (name : List ℕ) (e : EditView) (a : Answer) → IsLoaded load_clients n w → IsAmong load_clients name
    → ((D : Document) (s : SchemaView) (G : NameCounters) (N : Intent) → intent_of D s G e ≡ Ok N → names_made N ≤ 2)
    → IsNext h w (step_by (step.edit e) name) v a → IsLoaded load_clients (n + 1) v
edit_goes h n w v name e a l among few is =
    let p = here load_clients n w name l among in
    let c = p.client in
    let loading = all_get IsLoading w.clients p.place c l.clients p.there in
    let done : IsActOf h w (step.edit e) p.place c 0 (main_line c) v a = subst (λ o. AtClient h w (step_by (step.edit e) name) o v a) p.found is in
    let D = done.0 in
    let d = done.1 in
    let meant = intent_of D (schema_in_effect D) (next_names c c.transaction) e in
    let after : after_edit c 0 (main_line c) (word_of e) meant ≡ (d, a) = subst (λ (t : Option Transaction). IsAfterEdit c 0 (main_line c) t (word_of e) meant d a) loading.transaction done.3 in
    let x = edited c d (word_of e) meant a loading (λ N q. few D (schema_in_effect D) (next_names c c.transaction) N q) after in
    set_loaded load_clients n 1 w v p.place c d l p.there x.loading x.name x.more done.4

-- ## Sending

names_of_first : (o : Option Intent) (Ns : List Intent) → names_in (cons_option o Ns) ≡ option_map_or names_made o 0 + names_in Ns
names_of_first None Ns = omega arith
names_of_first (Some N) Ns = refl

log_few : (log : List Entry) → AllByRecursion (λ (e : Entry). MakesFew e.body) log → names_in (commits_in log) ≤ 2 * length log
log_few [] l = omega arith
log_few (e ∷ es) l =
    let rest = log_few es l.1 in
    let one : names_in_text e.body ≤ 2 = l.0 in
    let sum : names_in (commits_in (e ∷ es)) ≡ names_in_text e.body + names_in (commits_in es) = names_of_first (commit_of e) (commits_in es) in
    omega (arith, rest, one, sum)

neither : (a b : Bool) (x y : Limit) → a ≡ false → b ≡ false → cond a (Some x) (cond b (Some y) None) ≡ None
neither false false x y e f = refl
neither true b x y e f = absurd (cc)
neither false true x y e f = absurd (cc)

-- so few texts pass no limit of the log
no_limit : (log : List Entry) (made : ℕ) → AllByRecursion (λ (e : Entry). MakesFew e.body) log → length log ≤ 60000 → made ≤ 2 → log_limit_passed log made ≡ None
no_limit log made l few two =
    let names = log_few log l in
    let a : nat_le 65535 (length log) ≡ false = grind (arith, nat_tests, few) in
    let b : nat_lt 131072 (names_in (commits_in log) + made) ≡ false = grind (arith, nat_tests, names, few, two) in
    neither (nat_le 65535 (length log)) (nat_lt 131072 (names_in (commits_in log) + made)) (record { of = Log; kept = length log }) (record { of = Names; kept = names_in (commits_in log) }) a b

-- a step of a client that is connected
connected_act : (h : HeaderView) (n : ℕ) (w v : WorldState) (name : List ℕ) (act : ActView) (a : Answer) (l : IsLoaded load_clients n w) (among : IsAmong load_clients name)
    → AtClient h w (step_by act name) (Some ((here load_clients n w name l among).place, (here load_clients n w name l among).client)) v a
    → IsNext h w (step_by act name) v a
connected_act h n w v name act a l among is = let p = here load_clients n w name l among in subst (λ o. AtClient h w (step_by act name) o v a) (sym p.found) is

-- what sending comes to: nothing is left to send, or there is one text less that waits
pub record IsSent (n : ℕ) (w v : WorldState) (a : Answer) : Type 0 where
  pub loaded : IsLoaded load_clients n v
  pub told : n ≤ 60000 → (a ≡ answer.No no.NothingToSend) ⊎ ((a ≡ answer.No no.NothingToSend → ⊥) × (total queued v.clients + 1 ≡ total queued w.clients))

sent_text : (n : ℕ) (w v : WorldState) (i : ℕ) (c : Client) (text : Body) (rest : List Body) (a : Answer) → IsLoaded load_clients n w → slice_get w.clients i ≡ Some c → IsLoading c
    → c.queue ≡ text ∷ rest → sequence w i c (text ∷ rest) ≡ (v, a) → IsSent n w v a
sent_text n w v i c text rest a l at loading queue is = go (log_limit_passed w.log (names_in_text text)) refl is
  where
    few : AllByRecursion MakesFew (text ∷ rest)
    few = subst (AllByRecursion MakesFew) queue loading.queue

    many : queued c ≡ suc (length rest)
    many = ap length queue

    d : Client
    d = record c { queue = rest }

    after : WorldState
    after = record w { log = log_with w.log c.session text; clients = slice_set w.clients i d }

    t : total queued (slice_set w.clients i d) + queued c ≡ total queued w.clients + length rest
    t = total_set queued w.clients i c d at

    longer : length (log_with w.log c.session text) ≡ length w.log + 1
    longer = length-append w.log _

    loaded : IsLoaded load_clients n after
    loaded = record {
      named = names_set (λ (x : Client). x.name) w.clients i c d at refl ∙ l.named;
      clients = all_set IsLoading w.clients i d l.clients (record { connected = loading.connected; transaction = loading.transaction; queue = few.1 });
      log = all_append (λ (e : Entry). MakesFew e.body) w.log _ l.log (few.0, tt);
      few = (let before = l.few in omega (arith, t, many, longer, before));
    }

    go : (o : Option Limit) → log_limit_passed w.log (names_in_text text) ≡ o → after_entry w i c text rest o ≡ (v, a) → IsSent n w v a
    go None e f =
        let same : after ≡ v = ap (λ (q : WorldState × Answer). q.0) f in
        let less : total queued after.clients + 1 ≡ total queued w.clients = omega (arith, t, many) in
        record { loaded = subst (IsLoaded load_clients n) same loaded; told = λ m. inr (other, subst (λ (x : WorldState). total queued x.clients + 1 ≡ total queued w.clients) same less) }
      where
        other : a ≡ answer.No no.NothingToSend → ⊥
        other q = let bad = ap (λ (x : WorldState × Answer). x.1) f ∙ q in cc
    go (Some o) e f =
        let same : w ≡ v = ap (λ (q : WorldState × Answer). q.0) f in
        record { loaded = subst (IsLoaded load_clients n) same l; told = λ m. absurd (passes m) }
      where
        passes : n ≤ 60000 → ⊥
        passes m =
            let before = l.few in
            let short : length w.log ≤ 60000 = omega (arith, before, m) in
            let none : None ≡ Some o = sym (no_limit w.log (names_in_text text) l.log short few.0) ∙ e in
            cc

pub sent : (h : HeaderView) (n : ℕ) (w v : WorldState) (name : List ℕ) (a : Answer) → IsLoaded load_clients n w → IsAmong load_clients name
    → IsNext h w (step_by step.sequence name) v a → IsSent n w v a
sent h n w v name a l among is =
    let p = here load_clients n w name l among in
    let c = p.client in
    let loading = all_get IsLoading w.clients p.place c l.clients p.there in
    let at = subst (λ o. AtClient h w (step_by step.sequence name) o v a) p.found is in
    let done : sequence w p.place c c.queue ≡ (v, a) = subst (λ b. ByConnected true b w v a (IsActOf h w step.sequence p.place c 0 (main_line c) v a)) loading.connected at in
    go p.place c p.there loading c.queue refl done
  where
    go : (i : ℕ) (c : Client) → slice_get w.clients i ≡ Some c → IsLoading c → (queue : List Body) → c.queue ≡ queue → sequence w i c queue ≡ (v, a) → IsSent n w v a
    go i c there loading [] e f =
        let same : w ≡ v = ap (λ (q : WorldState × Answer). q.0) f in
        record { loaded = subst (IsLoaded load_clients n) same l; told = λ m. inl (sym (ap (λ (q : WorldState × Answer). q.1) f)) }
    go i c there loading (text ∷ rest) e f = sent_text n w v i c text rest a l there loading e f

-- ## Receiving

-- how many entries a client has not received
abbrev pub unreceived : List Entry → Client → ℕ
unreceived log c = length log - c.received

-- what receiving comes to: nothing is new, or a client has one entry less to receive
pub record IsReceived (n : ℕ) (w v : WorldState) (a : Answer) : Type 0 where
  pub loaded : IsLoaded load_clients n v
  pub log : v.log ≡ w.log
  pub told : (a ≡ answer.No no.NothingNew) ⊎ ((a ≡ answer.No no.NothingNew → ⊥) × (total (unreceived w.log) v.clients + 1 ≡ total (unreceived w.log) w.clients))

delivered : {n : ℕ} {void : Verdict} → answer.Deliver n void ≡ answer.No no.NothingNew → ⊥
delivered e = cc

within : {X : Type 0} (xs : List X) (i : ℕ) (x : X) → slice_get xs i ≡ Some x → i < length xs
within [] i x e = cc
within (y ∷ ys) zero x e = omega arith
within (y ∷ ys) (suc i) x e = let rest = within ys i x e in omega (arith, rest)

pub received : (h : HeaderView) (n : ℕ) (w v : WorldState) (name : List ℕ) (a : Answer) → IsLoaded load_clients n w → IsAmong load_clients name
    → IsNext h w (step_by step.deliver name) v a → IsReceived n w v a
received h n w v name a l among is =
    let p = here load_clients n w name l among in
    let c = p.client in
    let loading = all_get IsLoading w.clients p.place c l.clients p.there in
    let at = subst (λ o. AtClient h w (step_by step.deliver name) o v a) p.found is in
    let done : IsDelivered h w p.place c v a = subst (λ b. ByConnected true b w v a (IsActOf h w step.deliver p.place c 0 (main_line c) v a)) loading.connected at in
    let told : IsDeliveredTo done.0 c (slice_get w.log c.received) done.1 a = subst (λ (t : Option Transaction). IsDeliveredIn done.0 c t (slice_get w.log c.received) done.1 a) loading.transaction done.3 in
    go p.place c done.0 done.1 p.there loading done.4 (slice_get w.log c.received) refl told
  where
    go : (i : ℕ) (c : Client) (D : Document) (d : Client) → slice_get w.clients i ≡ Some c → IsLoading c → v ≡ record w { clients = slice_set w.clients i d } → (o : Option Entry) → slice_get w.log c.received ≡ o
        → IsDeliveredTo D c o d a → IsReceived n w v a
    go i c D d there loading set None e (same, told) =
        let kept = set_loaded load_clients n 0 w v i c d l there (subst IsLoading (sym same) loading) (ap (λ (x : Client). x.name) same) (let q = ap queued same in omega (arith, q)) set in
        record { loaded = more_room load_clients (n + 0) n v (omega arith) kept; log = ap (λ (x : WorldState). x.log) set; told = inl told }
    go i c D d there loading set (Some x) e (void, judged, same, told) =
        let now : IsLoading (with_received x c) = record { connected = loading.connected; transaction = loading.transaction; queue = loading.queue } in
        let kept = set_loaded load_clients n 0 w v i c d l there (subst IsLoading (sym same) now) (ap (λ (y : Client). y.name) same) (let q = ap queued same in omega (arith, q)) set in
        let t = total_set (unreceived w.log) w.clients i c d there in
        let in_log = within w.log c.received x e in
        let up : d.received ≡ c.received + 1 = ap (λ (y : Client). y.received) same in
        let less : total (unreceived w.log) (slice_set w.clients i d) + 1 ≡ total (unreceived w.log) w.clients = omega (arith, t, in_log, up) in
        record {
          loaded = more_room load_clients (n + 0) n v (omega arith) kept;
          log = ap (λ (y : WorldState). y.log) set;
          told = inr (λ q. delivered (sym told ∙ q), subst (λ (y : WorldState). total (unreceived w.log) y.clients + 1 ≡ total (unreceived w.log) w.clients) (sym set) less);
        }

-- ## What is drawn

pub planned_goes : (h : HeaderView) (n m client : ℕ) (p : Plan) (w v : WorldState) (a : Answer) → IsLoaded load_clients n w → IsNext h w (step_planned m client p) v a → IsLoaded load_clients (n + 1) v
planned_goes h n m client (plan.Insert index) w v a l is = edit_goes h n w v (client_drawn client) (step.insert [] row_key index (text_item m ∷ [])) a l (drawn_among client) (λ D s G N e. insert_few D s G [] row_key index m N e) is
planned_goes h n m client (plan.Remove index) w v a l is = edit_goes h n w v (client_drawn client) (step.remove [] row_key index 1) a l (drawn_among client) (λ D s G N e. remove_few D s G [] row_key index 1 N e) is
planned_goes h n m client (plan.Move index to_index) w v a l is = edit_goes h n w v (client_drawn client) (step.move [] row_key index 1 [] row_key to_index) a l (drawn_among client) (λ D s G N e. move_few D s G [] row_key index [] row_key to_index N e) is
planned_goes h n m client plan.Sequence w v a l is = more_room load_clients n (n + 1) v (omega arith) (sent h n w v (client_drawn client) a l (drawn_among client) is).loaded
planned_goes h n m client plan.Deliver w v a l is = more_room load_clients n (n + 1) v (omega arith) (received h n w v (client_drawn client) a l (drawn_among client) is).loaded

pub drawn_goes : (h : HeaderView) (g : Work) (count n : ℕ) (w v : WorldState) (refused : ℕ) → IsLoaded load_clients n w → AreMade h w (steps_from g count) v refused → IsLoaded load_clients (n + count) v
drawn_goes h g zero n w v refused l (same, none) = more_room load_clients n (n + 0) v (omega arith) (subst (IsLoaded load_clients n) (sym same) l)
drawn_goes h g (suc count) n w v refused l (u, a, rest, is, more, e) =
    let one = planned_goes h n (g.made + 1) (drawn 4 (turned g.state)) (next_plan g).0 w u a l is in
    more_room load_clients (n + 1 + count) (n + suc count) v (omega arith) (drawn_goes h (after_step g) count (n + 1) u v rest one more)
