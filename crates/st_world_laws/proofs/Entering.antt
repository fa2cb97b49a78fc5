-- What enters the log, and what passes no limit of it.
use Rattle.std.proofs.Common.{◌≡◌, ◌<◌, ◌+◌, ℕ, zero, suc, Bool, true, false, cond, List, [], ◌∷◌, ◌++◌, length, Option, Some, None, is_some, refl, sym, ap, ◌∙◌, subst, arith, inl, inr}
use Rattle.std.specs.List.{cons_option, slice_get}
use Rattle.st_ids.specs.Listing.{Has}
use Rattle.st_ids.specs.Root.{opening}
use Rattle.st_marks.specs.declared.intents.Intent.{Intent}
use Rattle.st_log_laws.specs.Names.{HaveNewRevisions}
use Rattle.st_lists.specs.Log.{commit_in, commit_of, commits_in, commits_of_text, log_with}
use Rattle.st_lists.specs.declared.lists.Body.{Body}
use Rattle.st_lists.specs.declared.lists.Entry.{Entry}
use Rattle.std.proofs.Common.{IfSome, append_assoc, nat_le, nat_lt, ◌≤◌}
use Rattle.std.specs.Prelude.{is_some, min, ◌-◌, ◌^◌}
use Rattle.st_lists.specs.Lines.{own_of}
use Rattle.st_world.specs.World.{opening_document, refusal_to_reconnect}
use Rattle.std.specs.List.{AllByRecursion}
use Rattle.std.specs.Option.{option_map}
use Rattle.std.proofs.lemmas.Bool.Decides.{nat_tests}
use Rattle.std.proofs.lemmas.List.{append-nil}
use Rattle.st_ids.specs.declared.names.Limit.{Limit}
use Rattle.st_ids.specs.declared.names.LimitOf.TheVariants.{Log, Names}
use Rattle.st_log_laws.specs.Turns.{FitInTurn}
use Rattle.st_log_laws.proofs.Shorter.{sublist_itself, sublist_joined, sublist_none, new_shorter}
use Rattle.st_log_laws.proofs.Turns.{front}
use Rattle.st_script.specs.Header.{HeaderView}
use Rattle.st_script.specs.declared.refusal.Refusal.{Refusal}
use Rattle.st_script.specs.declared.refusal.Refusal.TheVariants.{Connected, Limit as OverLimit, Unfinished}
use Rattle.st_world_laws.specs.Worlds.{IsClient, IsEntryOf}
use Rattle.st_lists.specs.Log.{intents_of, log_and_waiting, sessions_in, waiting}
use Rattle.st_lists.proofs.Present.{session_given, sessions_entered}
use Rattle.st_ids.proofs.Shared.{at_has}
use Rattle.st_lists.specs.Limits.{entries_limit_passed, log_limit_passed}
use Rattle.st_lists.specs.Names.{names_in}
use Rattle.st_lists.specs.declared.lists.Client.{Client}
use Rattle.st_lists.specs.declared.lists.Transaction.{Transaction}
use Rattle.st_world_laws.proofs.Clients.{queue_first}
use Rattle.st_world_laws.proofs.Everyone.{all_as, all_get}

-- and each is that of an entry
pub place_among : (es : List Entry) (N : Intent) → Has (commits_in es) N → (i : ℕ) × (e : Entry) × (slice_get es i ≡ Some e) × (commit_of e ≡ Some N)
place_among [] N h = absurd h
place_among (x ∷ es) N h = go (commit_of x) refl (λ i. place_among es N i) h
  where
    later : (i : ℕ) × (e : Entry) × (slice_get es i ≡ Some e) × (commit_of e ≡ Some N) → (i : ℕ) × (e : Entry) × (slice_get (x ∷ es) i ≡ Some e) × (commit_of e ≡ Some N)
    later w = (suc w.0, w.1, w.2, w.3)

    go : (o : Option Intent) → commit_of x ≡ o → (Has (commits_in es) N → (i : ℕ) × (e : Entry) × (slice_get es i ≡ Some e) × (commit_of e ≡ Some N)) → Has (cons_option o (commits_in es)) N
        → (i : ℕ) × (e : Entry) × (slice_get (x ∷ es) i ≡ Some e) × (commit_of e ≡ Some N)
    go None e rest h = later (rest h)
    go (Some M) e rest (inl same) = (zero, x, refl, e ∙ ap Some same)
    go (Some M) e rest (inr h) = later (rest h)

-- the oldest text of a client, after the commits of the log
pub record IsLast (h : HeaderView) (log : List Entry) (c : Client) (text : Body) : Type 0 where
  pub fit : FitInTurn (opening_document h) (commits_in log ++ commits_of_text text)
  pub new : HaveNewRevisions (opening ∷ []) (commits_in log ++ commits_of_text text)
  pub session : IfSome (commit_in text) (λ N. N.rev.session ≡ c.session)

pub is_last : (h : HeaderView) (log : List Entry) (c : Client) (text : Body) (rest : List Body) → IsClient h log c → c.queue ≡ text ∷ rest → IsLast h log c text
is_last h log c text rest k is =
    let L = commits_in log in
    let X = commits_of_text text in
    let R = intents_of rest in
    let first : waiting log c ≡ X ++ R = (queue_first (waiting log c) c.connected c.queue rest text k.queued is).1 in
    let all : log_and_waiting log c ≡ (L ++ X) ++ R = ap (λ l. L ++ l) first ∙ sym (append_assoc L X R) in
    let W = own_of c.branches in
    let whole = subst (HaveNewRevisions (opening ∷ [])) (ap (λ l. l ++ W) all ∙ append_assoc (L ++ X) R W) k.new in
    record {
      fit = front (L ++ X) R (opening_document h) (subst (FitInTurn (opening_document h)) all k.sent_fit);
      new = subst (HaveNewRevisions (opening ∷ [])) (append-nil (L ++ X)) (new_shorter (opening ∷ []) ((L ++ X) ++ []) ((L ++ X) ++ (R ++ W)) (sublist_joined (sublist_itself (L ++ X)) (sublist_none (R ++ W))) whole);
      session = mine (commit_in text) R (subst (AllByRecursion (λ (M : Intent). M.rev.session ≡ c.session)) first k.own);
    }
  where
    mine : (o : Option Intent) (R : List Intent) → AllByRecursion (λ (M : Intent). M.rev.session ≡ c.session) (cons_option o [] ++ R) → IfSome o (λ N. N.rev.session ≡ c.session)
    mine None R p = tt
    mine (Some N) R p = p.0

-- a text that passes no limit
pub within_log : (log : List Entry) (made : ℕ) → log_limit_passed log made ≡ None → (length log < 65535) × (names_in (commits_in log) + made ≤ 131072)
within_log log made e = go (nat_le 65535 (length log)) refl (nat_lt 131072 (names_in (commits_in log) + made)) refl e
  where
    go : (a : Bool) → nat_le 65535 (length log) ≡ a → (b : Bool) → nat_lt 131072 (names_in (commits_in log) + made) ≡ b
        → ◌≡◌ {A = Option Limit} (cond a (Some (record { of = Log; kept = length log })) (cond b (Some (record { of = Names; kept = names_in (commits_in log) })) None)) None
        → (length log < 65535) × (names_in (commits_in log) + made ≤ 131072)
    go true p b q e = absurd (cc)
    go false p true q e = absurd (cc)
    go false p false q e = (few p, few_names q)
      where
        few : nat_le 65535 (length log) ≡ false → length log < 65535
        few p = grind (arith, nat_tests)

        few_names : nat_lt 131072 (names_in (commits_in log) + made) ≡ false → names_in (commits_in log) + made ≤ 131072
        few_names q = grind (arith, nat_tests)

-- a count that stops at a number's end passes the limit where the whole count does
pub limit_stopped : (log : List Entry) (made : ℕ) → log_limit_passed log (min made (2 ^ 64 - 1)) ≡ log_limit_passed log made
limit_stopped log made = ap (λ b. cond (nat_le 65535 (length log)) (Some (record { of = Log; kept = length log })) (cond b (Some (record { of = Names; kept = names_in (commits_in log) })) None)) (same (names_in (commits_in log)))
  where
    same : (n : ℕ) → nat_lt 131072 (n + min made (2 ^ 64 - 1)) ≡ nat_lt 131072 (n + made)
    same n = grind (arith, nat_tests)

pub given_still : (log : List Entry) (session : ℕ) (body : Body) (cs : List Client) → AllByRecursion (λ (c : Client). c.session ≤ sessions_in log) cs → AllByRecursion (λ (c : Client). c.session ≤ sessions_in (log_with log session body)) cs
given_still log session body cs all = all_as (λ (c : Client). c.session ≤ sessions_in log) (λ (c : Client). c.session ≤ sessions_in (log_with log session body)) cs (λ c p. omega (arith, p, sessions_entered log session body)) all

-- the log has room for one entry more
pub within_entries : (log : List Entry) → entries_limit_passed log ≡ None → length log < 65535
within_entries log e = go (nat_le 65535 (length log)) refl e
  where
    go : (b : Bool) → nat_le 65535 (length log) ≡ b → ◌≡◌ {A = Option Limit} (cond b (Some (record { of = Log; kept = length log })) None) None → length log < 65535
    go true p e = absurd (cc)
    go false p e = grind (arith, nat_tests)

-- a client may reconnect that isn't connected, and has no transaction open
pub may_reconnect : (log : List Entry) (c : Client) → refusal_to_reconnect log c ≡ None → ((c.connected ≡ false) × (c.transaction ≡ None)) × (length log < 65535)
may_reconnect log c e = let r = go c.connected c.transaction (entries_limit_passed log) e in ((r.0, r.1), within_entries log r.2)
  where
    go : (b : Bool) (t : Option Transaction) (o : Option Limit) → ◌≡◌ {A = Option Refusal} (cond b (Some Connected) (cond (is_some t) (Some Unfinished) (option_map (λ l. OverLimit l) o))) None → (b ≡ false) × (t ≡ None) × (o ≡ None)
    go true t o e = cc
    go false (Some t) o e = cc
    go false None (Some l) e = cc
    go false None None e = (refl, refl, refl)

-- a commit of the log is of one of the sessions that it has given
pub of_sessions : (log : List Entry) (N : Intent) → AllByRecursion IsEntryOf log → Has (commits_in log) N → N.rev.session ≤ sessions_in log
of_sessions log N all i =
    let p = place_among log N i in
    let own : N.rev.session ≡ p.1.session = subst (λ o. IfSome o (λ (M : Intent). M.rev.session ≡ p.1.session)) p.3 (all_get IsEntryOf log p.0 p.1 all p.2) in
    omega (arith, own, session_given log p.1 (at_has log p.0 p.1 p.2))
