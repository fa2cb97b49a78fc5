-- Texts that carry ids: before any client joins, where entries come, and where commits wait or are written anew.
use Rattle.std.proofs.Common.{◌≡◌, ◌≤◌, ◌+◌, ℕ, zero, suc, Bool, true, false, cond, List, [], ◌∷◌, ◌++◌, length, length-append, take, Some, refl, sym, ap, ◌∙◌, subst, arith, append_assoc, ◌⊎◌, inl, inr}
use Rattle.std.specs.List.{AllByRecursion, slice_get}
use Rattle.std.proofs.lemmas.List.{append-nil, take-append-le, take_all}
use Rattle.std.proofs.lemmas.List.Elements.{filter_map-append}
use Rattle.std.proofs.lemmas.Option.{slice_get_within}
use Rattle.st_clusters.specs.Log.{carried_count}
use Rattle.st_clusters.specs.declared.ids.IdRange.{IdRange}
use Rattle.st_clusters.proofs.Logs.{carried_own}
use Rattle.st_marks.specs.declared.intents.Intent.{Intent}
use Rattle.st_marks.proofs.Members.{all-has, append_left, append_right}
use Rattle.st_ids.specs.Listing.{Has}
use Rattle.st_script.specs.Header.{HeaderView}
use Rattle.st_lists.specs.Clients.{empty_state, ids_from, queue_with, texts_from, with_commit}
use Rattle.st_lists.specs.Lines.{own_of, with_commit_on, with_commits_on}
use Rattle.st_lists.specs.Log.{commits_in, intents_of, log_with, range_in, ranges_in, ranges_of, waiting}
use Rattle.st_lists.specs.declared.lists.Body.{Body}
use Rattle.st_lists.specs.declared.lists.Body.TheVariants.{Join, Leave, Ack, Commit}
use Rattle.st_lists.specs.declared.lists.Client.{Client}
use Rattle.st_lists.specs.declared.lists.Entry.{Entry}
use Rattle.st_lists.proofs.Logs.{last_entry, texts_append}
use Rattle.st_lists.proofs.Texts.{carried_append}
use Rattle.st_world_laws.specs.Worlds.{IsCarried, IsClient, IsQueue}
use Rattle.st_world_laws.proofs.Ranges.{carried_commit, entered_ranges}
use Rattle.st_carried_ids.specs.CarriedIds.{AreNumbered, CarryIds, IsLogNumbered, IsNumbered}

-- before any client joins
pub begun_ids : CarryIds empty_state
begun_ids = record { log = λ i e reference ids N at is. nowhere i e at; waiting = tt }
  where
    nowhere : {A : Type 0} (i : ℕ) (e : Entry) → slice_get [] i ≡ Some e → A
    nowhere i e at = cc

-- an item of a list with one more at its end is one of the list, or that one
get_more : {X : Type 0} (xs : List X) (x : X) (i : ℕ) (y : X) → slice_get (xs ++ x ∷ []) i ≡ Some y → (slice_get xs i ≡ Some y) ⊎ ((i ≡ length xs) × (x ≡ y))
get_more [] x zero y e = let same : x ≡ y = cc in inr (refl, same)
get_more [] x (suc i) y e = cc
get_more (z ∷ zs) x zero y e = inl e
get_more (z ∷ zs) x (suc i) y e = elim (get_more zs x i y e) [ inl q ↦ inl q | inr q ↦ inr (ap (λ n. suc n) q.0, q.1) ]

-- ## Ranges come

-- more ranges carry no fewer ids
pub carried_least : (s : ℕ) (xs ys : List IdRange) → carried_count s xs ≤ carried_count s (xs ++ ys)
carried_least s xs ys = omega (arith, carried_append s xs ys)

-- a text stays numbered where no fewer ids are carried before it
text_raised : (s : ℕ) (xs ys : List IdRange) (text : Body) → carried_count s xs ≤ carried_count s ys → IsNumbered s xs text → IsNumbered s ys text
text_raised s xs ys (Join uuid) more x = tt
text_raised s xs ys Leave more x = tt
text_raised s xs ys (Ack reference) more x = tt
text_raised s xs ys (Commit reference ids N) more x = omega (arith, x, more, carried_append s xs (ids ∷ []), carried_append s ys (ids ∷ []))

-- so do all that wait
texts_raised : (s : ℕ) (xs ys : List IdRange) (texts : List Body) → carried_count s xs ≤ carried_count s ys → AreNumbered s xs texts → AreNumbered s ys texts
texts_raised s xs ys [] more x = tt
texts_raised s xs ys (text ∷ texts) more x =
    let own = ranges_of (text ∷ []) in
    (text_raised s xs ys text more x.0, texts_raised s (xs ++ own) (ys ++ own) texts (omega (arith, more, carried_append s xs own, carried_append s ys own)) x.1)

-- all that wait stay numbered where an entry comes
pub texts_beside : (log : List Entry) (session : ℕ) (body : Body) (s : ℕ) (texts : List Body) → AreNumbered s (ranges_in log) texts → AreNumbered s (ranges_in (log_with log session body)) texts
texts_beside log session body s texts x =
    let longer = entered_ranges log session body in
    texts_raised s (ranges_in log) (ranges_in (log_with log session body)) texts (omega (arith, carried_least s (ranges_in log) (ranges_of (body ∷ [])), ap (carried_count s) longer)) x

-- the others do where the first of them enters the log
pub rest_numbered : (log : List Entry) (s : ℕ) (text : Body) (rest : List Body) → AreNumbered s (ranges_in log) (text ∷ rest) → AreNumbered s (ranges_in (log_with log s text)) rest
rest_numbered log s text rest x = subst (λ l. AreNumbered s l rest) (sym (entered_ranges log s text)) x.1

-- a log stays so with one that is numbered behind it
pub log_numbered : (log : List Entry) (s : ℕ) (body : Body) → IsLogNumbered log → IsNumbered s (ranges_in log) body → IsLogNumbered (log_with log s body)
log_numbered log s body all last i e reference ids N at is = elim (get_more log x i e at) [ inl q ↦ before q | inr q ↦ here q.0 q.1 ]
  where
    x : Entry
    x = last_entry log s body

    before : slice_get log i ≡ Some e → N.rev.num ≤ carried_count e.session (ranges_in (take (i + 1) (log ++ x ∷ [])))
    before q = subst (λ l. N.rev.num ≤ carried_count e.session (ranges_in l)) (sym (take-append-le (i + 1) log (x ∷ []) (omega (arith, slice_get_within log i e q)))) (all i e reference ids N q is)

    here : i ≡ length log → x ≡ e → N.rev.num ≤ carried_count e.session (ranges_in (take (i + 1) (log ++ x ∷ [])))
    here size same =
        let whole : take (i + 1) (log ++ x ∷ []) ≡ log ++ x ∷ [] = take_all (i + 1) (log ++ x ∷ []) (omega (arith, size, length-append log (x ∷ []))) in
        let commit : body ≡ Commit reference ids N = ap (λ (y : Entry). y.body) same ∙ is in
        let low : N.rev.num ≤ carried_count s (ranges_in log ++ ids ∷ []) = subst (IsNumbered s (ranges_in log)) commit last in
        let ranges : ranges_in (take (i + 1) (log ++ x ∷ [])) ≡ ranges_in log ++ ids ∷ [] = ap ranges_in whole ∙ entered_ranges log s body ∙ ap (λ b. ranges_in log ++ ranges_of (b ∷ [])) commit in
        subst (λ l. N.rev.num ≤ carried_count e.session l) (sym ranges) (subst (λ n. N.rev.num ≤ carried_count n (ranges_in log ++ ids ∷ [])) (ap (λ (y : Entry). y.session) same) low)

-- ## Texts come

-- one more waits behind them
pub text_more : (s : ℕ) (ranges : List IdRange) (texts : List Body) (text : Body) → AreNumbered s ranges texts → IsNumbered s (ranges ++ ranges_of texts) text → AreNumbered s ranges (texts ++ text ∷ [])
text_more s ranges [] text x y = (subst (λ l. IsNumbered s l text) (append-nil ranges) y, tt)
text_more s ranges (q ∷ qs) text x y =
    let first : ranges_of (q ∷ qs) ≡ ranges_of (q ∷ []) ++ ranges_of qs = filter_map-append range_in (q ∷ []) qs in
    (x.0, text_more s (ranges ++ ranges_of (q ∷ [])) qs text x.1 (subst (λ l. IsNumbered s l text) (ap (λ l. ranges ++ l) first ∙ sym (append_assoc ranges (ranges_of (q ∷ [])) (ranges_of qs))) y))

-- commits are written anew: the first takes all ids
pub texts_anew : (n s taken ids : ℕ) (ranges : List IdRange) (Ns : List Intent) → taken ≡ carried_count s ranges → taken ≤ ids → AllByRecursion (λ (N : Intent). N.rev.num ≤ ids) Ns → AreNumbered s ranges (texts_from n s taken ids Ns)
texts_anew n s taken ids ranges [] is low all = tt
texts_anew n s taken ids ranges (N ∷ Ns) is low all =
    let q = ids_from s taken ids in
    let whole : ids ≡ carried_count s (ranges ++ q ∷ []) = omega (arith, carried_own s ranges q refl, is, low) in
    (omega (arith, all.0, whole), texts_anew n s ids ids (ranges ++ q ∷ []) Ns whole (omega arith) all.1)

-- ## A client's queue

-- what waits in its queue is numbered behind what the log carries
abbrev pub Waits : List Entry → Client → Type 0
Waits log c = AreNumbered c.session (ranges_in log) c.queue

-- a commit that has one of its ids waits
one_numbered : (log : List Entry) (c : Client) (N : Intent) → IsCarried (ranges_in log) c → (c.connected ≡ true → N.rev.num ≤ c.ids) → Waits log c → Waits log (with_commit c N)
one_numbered log c N k low x = go c.connected refl
  where
    text : Body
    text = Commit c.received (ids_from c.session c.taken c.ids) N

    before : List IdRange
    before = ranges_in log ++ ranges_of c.queue

    go : (b : Bool) → c.connected ≡ b → AreNumbered c.session (ranges_in log) (cond b (c.queue ++ text ∷ []) c.queue)
    go false off = x
    go true on =
        let all = carried_own c.session before (ids_from c.session c.taken c.ids) refl in
        text_more c.session (ranges_in log) c.queue text x (omega (arith, low on, all, k.taken on, k.within))

-- so do several
pub all_numbered : (log : List Entry) (Ns : List Intent) (c : Client) → IsCarried (ranges_in log) c → (c.connected ≡ true → AllByRecursion (λ (N : Intent). N.rev.num ≤ c.ids) Ns) → Waits log c → Waits log (with_commits_on c 0 Ns)
all_numbered log [] c k low x = x
all_numbered log (N ∷ Ns) c k low x = all_numbered log Ns (with_commit c N) (carried_commit (ranges_in log) c N k) (λ on. (low on).1) (one_numbered log c N k (λ on. (low on).0) x)

-- what a branch takes, no queue does
pub stays_numbered : (log : List Entry) (Ns : List Intent) (c : Client) (k : ℕ) → Waits log c → Waits log (with_commits_on c (suc k) Ns)
stays_numbered log [] c k x = x
stays_numbered log (N ∷ Ns) c k x = stays_numbered log Ns (with_commit_on c (suc k) N) k x

-- ## Ids that a client generated

all_of : {X : Type 0} (P : X → Type 0) (xs : List X) → ((x : X) → Has xs x → P x) → AllByRecursion P xs
all_of P [] f = tt
all_of P (x ∷ xs) f = (f x (inl refl), all_of P xs (λ y h. f y (inr h)))

-- each commit that waits has one
pub waiting_low : (h : HeaderView) (log : List Entry) (c : Client) → IsClient h log c → AllByRecursion (λ (N : Intent). N.rev.num ≤ c.ids) (waiting log c)
waiting_low h log c k = all_of (λ (N : Intent). N.rev.num ≤ c.ids) (waiting log c) (λ N there. k.ids N (append_left (commits_in log ++ waiting log c) (own_of c.branches) N (append_right (commits_in log) (waiting log c) N there)) (all-has (λ (M : Intent). M.rev.session ≡ c.session) (waiting log c) N k.own there))

ids_on : (Ns : List Intent) (c : Client) → (with_commits_on c 0 Ns).ids ≡ c.ids
ids_on [] c = refl
ids_on (N ∷ Ns) c = ids_on Ns (with_commit c N)

connected_on : (Ns : List Intent) (c : Client) → (with_commits_on c 0 Ns).connected ≡ c.connected
connected_on [] c = refl
connected_on (N ∷ Ns) c = connected_on Ns (with_commit c N)

queue_on : (Ns : List Intent) (c : Client) → c.connected ≡ true → intents_of (with_commits_on c 0 Ns).queue ≡ intents_of c.queue ++ Ns
queue_on [] c on = sym (append-nil (intents_of c.queue))
queue_on (N ∷ Ns) c on =
    let text : Body = Commit c.received (ids_from c.session c.taken c.ids) N in
    let one : intents_of (queue_with c text) ≡ intents_of c.queue ++ N ∷ [] = ap (λ b. intents_of (cond b (c.queue ++ text ∷ []) c.queue)) on ∙ texts_append c.queue (text ∷ []) in
    queue_on Ns (with_commit c N) on ∙ ap (λ l. l ++ Ns) one ∙ append_assoc (intents_of c.queue) (N ∷ []) Ns

-- so has each that its main line takes
pub taken_low_on : (h : HeaderView) (log : List Entry) (Ns : List Intent) (c : Client) → IsClient h log (with_commits_on c 0 Ns) → c.connected ≡ true → AllByRecursion (λ (N : Intent). N.rev.num ≤ c.ids) Ns
taken_low_on h log Ns c k on =
    let d = with_commits_on c 0 Ns in
    let wait : intents_of d.queue ≡ waiting log d = subst (λ b. IsQueue (waiting log d) b d.queue) (connected_on Ns c ∙ on) k.queued in
    let low = subst (AllByRecursion (λ (N : Intent). N.rev.num ≤ d.ids)) (sym wait ∙ queue_on Ns c on) (waiting_low h log d k) in
    all_of (λ (N : Intent). N.rev.num ≤ c.ids) Ns (λ N there. subst (λ n. N.rev.num ≤ n) (ids_on Ns c) (all-has (λ (M : Intent). M.rev.num ≤ d.ids) (intents_of c.queue ++ Ns) N low (append_right (intents_of c.queue) Ns N there)))
