-- The ranges of ids that texts carry, in the log and in the queues.
use Rattle.std.proofs.Common.{◌≡◌, ◌≢◌, ◌≤◌, ◌<◌, ◌+◌, ◌-◌, ℕ, Bool, true, false, List, [], ◌∷◌, ◌++◌, Option, Some, None, IfSome, refl, sym, ap, ◌∙◌, subst, arith, append_assoc, inl, inr}
use Rattle.std.specs.List.{AllByRecursion, cons_option}
use Rattle.std.proofs.lemmas.List.{append-nil}
use Rattle.std.proofs.lemmas.List.Elements.{filter_map-append}
use Rattle.std.specs.Prelude.{cond}
use Rattle.st_clusters.proofs.Logs.{carried_other, carried_own}
use Rattle.st_clusters.specs.Log.{AreInTurn, GoOn, carried_count}
use Rattle.st_clusters.specs.declared.ids.IdRange.{IdRange}
use Rattle.st_lemmas.proofs.Lists.{AllByRecursion-append}
use Rattle.st_lists.proofs.Logs.{last_entry}
use Rattle.st_lists.proofs.Present.{session_given}
use Rattle.st_lists.proofs.Texts.{carried_append, taken_low}
use Rattle.st_lists.specs.Clients.{ids_from, taken_after, texts_from, with_commit, without_connection}
use Rattle.st_lists.specs.Log.{log_with, range_in, range_of, ranges_in, ranges_of, sessions_in}
use Rattle.st_lists.specs.declared.lists.Body.{Body}
use Rattle.st_lists.specs.declared.lists.Body.TheVariants.{Ack, Commit}
use Rattle.st_lists.specs.declared.lists.Client.{Client}
use Rattle.st_lists.specs.declared.lists.Entry.{Entry}
use Rattle.st_ids.specs.Listing.{Has}
use Rattle.st_marks.specs.declared.intents.Intent.{Intent}
use Rattle.st_world_laws.specs.Worlds.{HasOwnIds, IsCarried}

-- ## Counts

-- ranges of one session go on alike where it has as many
goes_alike : (s : ℕ) (rs xs ys : List IdRange) → carried_count s xs ≡ carried_count s ys → AllByRecursion (λ (r : IdRange). r.session ≡ s) rs → GoOn xs rs → GoOn ys rs
goes_alike s [] xs ys e own on = tt
goes_alike s (r ∷ rs) xs ys e own on =
    let same : carried_count r.session xs ≡ carried_count r.session ys = subst (λ n. carried_count n xs ≡ carried_count n ys) (sym own.0) e in
    let next : carried_count s (xs ++ r ∷ []) ≡ carried_count s (ys ++ r ∷ []) = carried_append s xs (r ∷ []) ∙ ap (λ n. n + carried_count s (r ∷ [])) e ∙ sym (carried_append s ys (r ∷ [])) in
    (on.0, on.1 ∙ ap (λ n. n + 1) same, goes_alike s rs (xs ++ r ∷ []) (ys ++ r ∷ []) next own.1 on.2)

-- one more goes on
goes_more : (rs before : List IdRange) (q : IdRange) → GoOn before rs → 1 ≤ q.session → q.first ≡ carried_count q.session (before ++ rs) + 1 → GoOn before (rs ++ q ∷ [])
goes_more [] before q on one first = (one, first ∙ ap (λ l. carried_count q.session l + 1) (append-nil before), tt)
goes_more (r ∷ rs) before q on one first = (on.0, on.1, goes_more rs (before ++ r ∷ []) q on.2 one (first ∙ ap (λ l. carried_count q.session l + 1) (sym (append_assoc before (r ∷ []) rs))))

ranges_append : (xs ys : List Body) → ranges_of (xs ++ ys) ≡ ranges_of xs ++ ranges_of ys
ranges_append xs ys = filter_map-append range_in xs ys

-- the ranges of a log with one more entry
pub entered_ranges : (log : List Entry) (session : ℕ) (body : Body) → ranges_in (log_with log session body) ≡ ranges_in log ++ cons_option (range_in body) []
entered_ranges log session body = filter_map-append range_of log (last_entry log session body ∷ [])

pub same_ranges : (log : List Entry) (session : ℕ) (body : Body) → range_in body ≡ None → ranges_in (log_with log session body) ≡ ranges_in log
same_ranges log session body none = entered_ranges log session body ∙ ap (λ o. ranges_in log ++ cons_option o []) none ∙ append-nil (ranges_in log)

-- ## A client's own steps

-- one that has the same texts and no fewer ids
pub carried_as : (rs : List IdRange) (c d : Client) → d.session ≡ c.session → ranges_of d.queue ≡ ranges_of c.queue → d.connected ≡ c.connected → d.taken ≡ c.taken → c.ids ≤ d.ids → IsCarried rs c → IsCarried rs d
carried_as rs c d session queue connected taken ids k =
    let count : carried_count d.session (rs ++ ranges_of d.queue) ≡ carried_count c.session (rs ++ ranges_of c.queue) = ap (λ s. carried_count s (rs ++ ranges_of d.queue)) session ∙ ap (λ l. carried_count c.session (rs ++ l)) queue in
    record {
      numbered = omega (arith, k.numbered, session);
      own = subst (λ s. AllByRecursion (λ (r : IdRange). r.session ≡ s) (ranges_of d.queue)) (sym session) (subst (AllByRecursion (λ (r : IdRange). r.session ≡ c.session)) (sym queue) k.own);
      on = subst (GoOn rs) (sym queue) k.on;
      within = omega (arith, count, k.within, ids);
      taken = λ e. taken ∙ k.taken (sym connected ∙ e) ∙ sym count;
    }

-- one that has one text more, which takes all ids that are left
carried_text : (rs : List IdRange) (c d : Client) (q : IdRange) → d.session ≡ c.session → ranges_of d.queue ≡ ranges_of c.queue ++ q ∷ [] → q ≡ ids_from c.session c.taken c.ids → c.connected ≡ true → d.taken ≡ c.ids → d.ids ≡ c.ids
    → IsCarried rs c → IsCarried rs d
carried_text rs c d q session queue is on taken ids k =
    let before : c.taken ≡ carried_count c.session (rs ++ ranges_of c.queue) = k.taken on in
    let low : c.taken ≤ c.ids = omega (arith, before, k.within) in
    let of_q : q.session ≡ c.session = ap (λ (r : IdRange). r.session) is in
    let first : q.first ≡ c.taken + 1 = ap (λ (r : IdRange). r.first) is in
    let count : q.count ≡ c.ids - c.taken = ap (λ (r : IdRange). r.count) is in
    let here : q.first ≡ carried_count q.session (rs ++ ranges_of c.queue) + 1 = first ∙ ap (λ n. n + 1) (before ∙ ap (λ s. carried_count s (rs ++ ranges_of c.queue)) (sym of_q)) in
    let longer : rs ++ ranges_of d.queue ≡ (rs ++ ranges_of c.queue) ++ q ∷ [] = ap (λ l. rs ++ l) queue ∙ sym (append_assoc rs (ranges_of c.queue) (q ∷ [])) in
    let all : carried_count d.session (rs ++ ranges_of d.queue) ≡ carried_count c.session (rs ++ ranges_of c.queue) + q.count =
    ap (λ s. carried_count s (rs ++ ranges_of d.queue)) session ∙ ap (carried_count c.session) longer ∙ carried_own c.session (rs ++ ranges_of c.queue) q of_q in
    let whole : carried_count d.session (rs ++ ranges_of d.queue) ≡ c.ids = omega (arith, all, before, count, low) in
    record {
      numbered = omega (arith, k.numbered, session);
      own = subst (λ s. AllByRecursion (λ (r : IdRange). r.session ≡ s) (ranges_of d.queue)) (sym session)
          (subst (AllByRecursion (λ (r : IdRange). r.session ≡ c.session)) (sym queue) (AllByRecursion-append (λ (r : IdRange). r.session ≡ c.session) (ranges_of c.queue) (q ∷ []) k.own (of_q, tt)));
      on = subst (GoOn rs) (sym queue) (goes_more (ranges_of c.queue) rs q k.on (omega (arith, of_q, k.numbered)) here);
      within = omega (arith, whole, ids);
      taken = λ e. taken ∙ sym whole;
    }

pub carried_commit : (rs : List IdRange) (c : Client) (N : Intent) → IsCarried rs c → IsCarried rs (with_commit c N)
carried_commit rs c N k = go c.connected refl
  where
    text : Body
    text = Commit c.received (ids_from c.session c.taken c.ids) N

    go : (b : Bool) → c.connected ≡ b → IsCarried rs (with_commit c N)
    go false off =
        carried_as rs c (with_commit c N) refl (ap (λ b. ranges_of (cond b (c.queue ++ text ∷ []) c.queue)) off) refl (ap (λ b. cond b c.ids c.taken) off) (omega arith) k
    go true on =
        carried_text rs c (with_commit c N) (ids_from c.session c.taken c.ids) refl (ap (λ b. ranges_of (cond b (c.queue ++ text ∷ []) c.queue)) on ∙ ranges_append c.queue (text ∷ [])) refl on (ap (λ b. cond b c.ids c.taken) on) refl k

pub carried_ack : (rs : List IdRange) (c d : Client) → d.session ≡ c.session → d.queue ≡ c.queue ++ Ack c.received ∷ [] → d.connected ≡ c.connected → d.taken ≡ c.taken → c.ids ≤ d.ids → IsCarried rs c → IsCarried rs d
carried_ack rs c d session queue connected taken ids k =
    carried_as rs c d session (ap ranges_of queue ∙ ranges_append c.queue (Ack c.received ∷ []) ∙ append-nil (ranges_of c.queue)) connected taken ids k

pub carried_offline : (rs : List IdRange) (c : Client) → IsCarried rs c → IsCarried rs (without_connection c)
carried_offline rs c k =
    let whole = carried_append c.session rs (ranges_of c.queue) in
    record {
      numbered = k.numbered;
      own = tt;
      on = tt;
      within = omega (arith, whole, k.within, ap (carried_count c.session) (append-nil rs));
      taken = λ e. absurd (cc);
    }

-- a new one carries nothing, where its session has carried nothing
pub carried_new : (rs : List IdRange) (c : Client) → 1 ≤ c.session → c.queue ≡ [] → c.taken ≡ 0 → carried_count c.session rs ≡ 0 → IsCarried rs c
carried_new rs c one queue taken none =
    let texts : ranges_of c.queue ≡ [] = ap ranges_of queue in
    let count : carried_count c.session (rs ++ ranges_of c.queue) ≡ 0 = ap (λ l. carried_count c.session (rs ++ l)) texts ∙ ap (carried_count c.session) (append-nil rs) ∙ none in
    record {
      numbered = one;
      own = subst (AllByRecursion (λ (r : IdRange). r.session ≡ c.session)) (sym texts) tt;
      on = subst (GoOn rs) (sym texts) tt;
      within = omega (arith, count);
      taken = λ e. taken ∙ sym count;
    }

-- ## Texts that are written anew

pub record IsAnew (before : List IdRange) (n s taken ids : ℕ) (Ns : List Intent) : Type 0 where
  pub own : AllByRecursion (λ (r : IdRange). r.session ≡ s) (ranges_of (texts_from n s taken ids Ns))
  pub on : GoOn before (ranges_of (texts_from n s taken ids Ns))
  pub all : taken_after taken ids Ns ≡ carried_count s (before ++ ranges_of (texts_from n s taken ids Ns))

all_taken : (ids : ℕ) (Ns : List Intent) → taken_after ids ids Ns ≡ ids
all_taken ids [] = refl
all_taken ids (N ∷ Ns) = refl

ranges_anew : (before : List IdRange) (n s taken ids : ℕ) (Ns : List Intent) → 1 ≤ s → taken ≡ carried_count s before → taken ≤ ids → IsAnew before n s taken ids Ns
ranges_anew before n s taken ids [] one is low = record { own = tt; on = tt; all = is ∙ ap (carried_count s) (sym (append-nil before)) }
ranges_anew before n s taken ids (N ∷ Ns) one is low =
    let q = ids_from s taken ids in
    let next : ids ≡ carried_count s (before ++ q ∷ []) = omega (arith, carried_own s before q refl, is, low) in
    let rest = ranges_anew (before ++ q ∷ []) n s ids ids Ns one next (omega arith) in
    record {
      own = (refl, rest.own);
      on = (one, ap (λ k. k + 1) is, rest.on);
      all = sym (all_taken ids Ns) ∙ rest.all ∙ ap (carried_count s) (append_assoc before (q ∷ []) (ranges_of (texts_from n s ids ids Ns)));
    }

pub carried_anew : (rs : List IdRange) (c d : Client) (n : ℕ) (Ns : List Intent) → d.session ≡ c.session → d.queue ≡ texts_from n c.session (carried_count c.session rs) c.ids Ns → d.taken ≡ taken_after (carried_count c.session rs) c.ids Ns
    → d.ids ≡ c.ids → IsCarried rs c → IsCarried rs d
carried_anew rs c d n Ns session queue taken ids k =
    let s = c.session in
    let low : carried_count s rs ≤ c.ids = omega (arith, carried_append s rs (ranges_of c.queue), k.within) in
    let a = ranges_anew rs n s (carried_count s rs) c.ids Ns k.numbered refl low in
    let texts : ranges_of d.queue ≡ ranges_of (texts_from n s (carried_count s rs) c.ids Ns) = ap ranges_of queue in
    let count : carried_count d.session (rs ++ ranges_of d.queue) ≡ d.taken = ap (λ m. carried_count m (rs ++ ranges_of d.queue)) session ∙ ap (λ l. carried_count s (rs ++ l)) texts ∙ sym a.all ∙ sym taken in
    let most : taken_after (carried_count s rs) c.ids Ns ≤ c.ids = taken_low (carried_count s rs) c.ids Ns low in
    record {
      numbered = omega (arith, k.numbered, session);
      own = subst (λ m. AllByRecursion (λ (r : IdRange). r.session ≡ m) (ranges_of d.queue)) (sym session) (subst (AllByRecursion (λ (r : IdRange). r.session ≡ s)) (sym texts) a.own);
      on = subst (GoOn rs) (sym texts) a.on;
      within = omega (arith, count, taken, most, ids);
      taken = λ e. sym count;
    }

-- ## A text enters the log

pub carried_sent : (rs : List IdRange) (c : Client) (text : Body) (rest : List Body) → c.queue ≡ text ∷ rest → IsCarried rs c → IsCarried (rs ++ cons_option (range_in text) []) (record c { queue = rest })
carried_sent rs c text rest is k = go (range_in text) (ap ranges_of is)
  where
    go : (o : Option IdRange) → ranges_of c.queue ≡ cons_option o (ranges_of rest) → IsCarried (rs ++ cons_option o []) (record c { queue = rest })
    go None texts =
        let same : rs ++ [] ≡ rs = append-nil rs in
        subst (λ l. IsCarried l (record c { queue = rest })) (sym same) (carried_as rs c (record c { queue = rest }) refl (sym texts) refl refl (omega arith) k)
    go (Some r) texts =
        let all : (rs ++ r ∷ []) ++ ranges_of rest ≡ rs ++ ranges_of c.queue = append_assoc rs (r ∷ []) (ranges_of rest) ∙ ap (λ l. rs ++ l) (sym texts) in
        let own = subst (AllByRecursion (λ (q : IdRange). q.session ≡ c.session)) texts k.own in
        let on = subst (GoOn rs) texts k.on in
        let count : carried_count c.session ((rs ++ r ∷ []) ++ ranges_of rest) ≡ carried_count c.session (rs ++ ranges_of c.queue) = ap (carried_count c.session) all in
        record {
          numbered = k.numbered;
          own = own.1;
          on = on.2;
          within = omega (arith, count, k.within);
          taken = λ e. k.taken e ∙ sym count;
        }

-- what is first in a queue is of its session, and goes on from the log
pub sent_range : (rs : List IdRange) (c : Client) (text : Body) (rest : List Body) → c.queue ≡ text ∷ rest → IsCarried rs c → IfSome (range_in text) (λ (r : IdRange). (r.session ≡ c.session) × (1 ≤ r.session) × (r.first ≡ carried_count r.session rs + 1))
sent_range rs c text rest is k = go (range_in text) (ap ranges_of is)
  where
    go : (o : Option IdRange) → ranges_of c.queue ≡ cons_option o (ranges_of rest) → IfSome o (λ (r : IdRange). (r.session ≡ c.session) × (1 ≤ r.session) × (r.first ≡ carried_count r.session rs + 1))
    go None texts = tt
    go (Some r) texts = let on = subst (GoOn rs) texts k.on in ((subst (AllByRecursion (λ (q : IdRange). q.session ≡ c.session)) texts k.own).0, on.0, on.1)

-- so the log's go on
pub ranges_sent : (rs : List IdRange) (c : Client) (text : Body) (rest : List Body) → c.queue ≡ text ∷ rest → IsCarried rs c → AreInTurn rs → AreInTurn (rs ++ cons_option (range_in text) [])
ranges_sent rs c text rest is k turn = go (range_in text) (sent_range rs c text rest is k)
  where
    go : (o : Option IdRange) → IfSome o (λ (r : IdRange). (r.session ≡ c.session) × (1 ≤ r.session) × (r.first ≡ carried_count r.session rs + 1)) → AreInTurn (rs ++ cons_option o [])
    go None p = subst AreInTurn (sym (append-nil rs)) turn
    go (Some r) p = goes_more rs [] r turn p.1 p.2

pub carried_beside : (rs : List IdRange) (c d : Client) (text : Body) (rest : List Body) → c.queue ≡ text ∷ rest → IsCarried rs c → c.session ≢ d.session → IsCarried rs d → IsCarried (rs ++ cons_option (range_in text) []) d
carried_beside rs c d text rest is k apart l = go (range_in text) (sent_range rs c text rest is k)
  where
    go : (o : Option IdRange) → IfSome o (λ (r : IdRange). (r.session ≡ c.session) × (1 ≤ r.session) × (r.first ≡ carried_count r.session rs + 1)) → IsCarried (rs ++ cons_option o []) d
    go None p = subst (λ x. IsCarried x d) (sym (append-nil rs)) l
    go (Some r) p =
        let other : carried_count d.session (rs ++ r ∷ []) ≡ carried_count d.session rs = carried_other d.session rs r (λ e. apart (sym p.0 ∙ e)) in
        let count : carried_count d.session ((rs ++ r ∷ []) ++ ranges_of d.queue) ≡ carried_count d.session (rs ++ ranges_of d.queue) =
        carried_append d.session (rs ++ r ∷ []) (ranges_of d.queue) ∙ ap (λ n. n + carried_count d.session (ranges_of d.queue)) other ∙ sym (carried_append d.session rs (ranges_of d.queue)) in
        record {
          numbered = l.numbered;
          own = l.own;
          on = goes_alike d.session (ranges_of d.queue) rs (rs ++ r ∷ []) (sym other) l.own l.on;
          within = omega (arith, count, l.within);
          taken = λ e. l.taken e ∙ sym count;
        }

-- ## Sessions that are not there

-- a session that the log doesn't know has carried nothing
pub none_carried : (log : List Entry) (s : ℕ) → sessions_in log < s → AllByRecursion HasOwnIds log → carried_count s (ranges_in log) ≡ 0
none_carried log s new own = go log (λ e i. omega (arith, session_given log e i, new)) own
  where
    go : (es : List Entry) → ((e : Entry) → Has es e → e.session < s) → AllByRecursion HasOwnIds es → carried_count s (ranges_in es) ≡ 0
    go [] low own = refl
    go (e ∷ es) low own = by (range_of e) own.0 (go es (λ x i. low x (inr i)) own.1)
      where
        by : (o : Option IdRange) → IfSome o (λ (r : IdRange). r.session ≡ e.session) → carried_count s (ranges_in es) ≡ 0 → carried_count s (cons_option o (ranges_in es)) ≡ 0
        by None p rest = rest
        by (Some r) p rest =
            let less : e.session < s = low e (inl refl) in
            let apart : r.session ≢ s = λ q. omega (arith, p, less, q) in
            let one : carried_count s (r ∷ []) ≡ 0 = carried_other s [] r apart in
            omega (arith, carried_append s (r ∷ []) (ranges_in es), one, rest)

pub own_ids_sent : (rs : List IdRange) (c : Client) (text : Body) (rest : List Body) → c.queue ≡ text ∷ rest → IsCarried rs c → IfSome (range_in text) (λ (r : IdRange). r.session ≡ c.session)
own_ids_sent rs c text rest is k = go (range_in text) (sent_range rs c text rest is k)
  where
    go : (o : Option IdRange) → IfSome o (λ (r : IdRange). (r.session ≡ c.session) × (1 ≤ r.session) × (r.first ≡ carried_count r.session rs + 1)) → IfSome o (λ (r : IdRange). r.session ≡ c.session)
    go None p = tt
    go (Some r) p = p.0
