-- One step of worlds that are alike: one answer, and next worlds that are alike.
use Rattle.std.proofs.Common.{◌≡◌, ℕ, ◌+◌, nat_le, nat_lt, nat_eq, Bool, true, false, not, List, [], ◌∷◌, ◌++◌, length, Option, Some, None, refl, sym, ap, ◌∙◌, subst, cond, option_map, option_and_then}
use Rattle.std.specs.Cmp.Lexicographic.{pointwise}
use Rattle.std.specs.List.{prefix_len, slice_get, slice_set}
use Rattle.st_ids.specs.Listing.{Has}
use Rattle.st_ids.specs.declared.names.Limit.{Limit}
use Rattle.st_ids.specs.declared.names.LimitOf.TheVariants.{Clients, Log}
use Rattle.st_ids.proofs.Shared.{at_has}
use Rattle.st_edits.specs.ArrayTypes.{is_array_type}
use Rattle.st_edits.specs.Resolve.{need}
use Rattle.st_marks.specs.Document.{Document}
use Rattle.st_marks.specs.LiveTree.{IsTreeText}
use Rattle.st_marks.proofs.OneTree.{one_text}
use Rattle.st_edits.specs.InEffect.{schema_in_effect}
use Rattle.st_script.specs.Header.{HeaderView}
use Rattle.st_script.specs.Steps.{ActView, StepView}
use Rattle.st_script.specs.Steps as step
use Rattle.st_script.specs.declared.answer.Answer.{Answer}
use Rattle.st_script.specs.declared.answer.Answer.TheVariants as answer
use Rattle.st_script.specs.declared.refusal.Refusal.{Refusal}
use Rattle.st_script.specs.declared.refusal.Refusal.TheVariants as no
use Rattle.st_world.specs.Texts.{AreTextsOf}
use Rattle.st_lists.specs.declared.lists.Body.{Body}
use Rattle.st_lists.specs.declared.lists.Body.TheVariants.{Join as Joined, Leave as Left}
use Rattle.st_lists.specs.declared.lists.Branch.{Branch}
use Rattle.st_lists.specs.declared.lists.Client.{Client}
use Rattle.st_lists.specs.declared.lists.Entry.{Entry}
use Rattle.st_lists.specs.declared.lists.WorldState.{WorldState}
use Rattle.st_lists.specs.Clients.{client_named, new_client, next_rev, place_of, with_ack, with_connection, without_connection}
use Rattle.st_lists.specs.Limits.{entries_limit_passed, log_limit_passed}
use Rattle.st_lists.specs.Lines.{Line, branch_of, line_of, main_line}
use Rattle.st_lists.specs.Log.{clashes, log_with, sessions_in, waiting}
use Rattle.st_lists.specs.Names.{names_in_text}
use Rattle.st_lists.specs.Voids.{AreVoid}
use Rattle.st_world.specs.Branches.{IsMerged, IsRebased, drop_branch, fork, refusal_to_fork, refusal_to_merge, refusal_to_rebase}
use Rattle.st_world.specs.Kept.{Unless}
use Rattle.st_world.specs.Upgrade.{change_of_schema, refusal_to_upgrade, upgrade}
use Rattle.st_world.specs.World.{AtClient, AtLine, ByConnected, IsActOf, IsAfterEdit, IsAfterNeed, IsDeliveredIn, IsDoneIn, IsNext, IsPendingTold, IsShown, OnLine, OnOwnBranch, OnParent, abort, act_of_none, after_entry, begin, branch_at, commit, drop_client, enter, intent_of, join, leave, limit_refusal, needs_connection, next_names, opening_document, reconnect, refusal_to_reconnect, sequence, uuid_for, with_client, word_of}
use Rattle.st_edits.specs.InEffect.{last_in_effect}
use Rattle.st_one_laws.specs.AlikeWorlds.{AlikeBody, AlikeBranch, AlikeClient, AlikeEntry, AlikeLine, AlikeTransaction, AreAlike, HasOneMeaning, InBoth, IsAlike, OneByOne}
use Rattle.st_one_laws.proofs.OneByOne.{as_long, behind, got, removed, set_both}
use Rattle.st_one_laws.proofs.AlikeLogs.{branch_of_alike, clashes_alike, connected_both, entries_limit_alike, line_of_alike, log_limit_alike, main_alike, minimum_alike, name_alike, received_alike, received_both, session_alike, sessions_alike, shown_alike, text_names_alike, waiting_alike}
use Rattle.st_one_laws.proofs.AlikeClients.{acked_alike, chosen, offline_alike, online_alike, sent_alike, some_alike}
use Rattle.st_one_laws.proofs.VoidCommits.{texts_alike, void_alike}
use Rattle.st_one_laws.proofs.ActsOfClients.{Same, abort_same, after_edit_same, after_need_same, begin_same, commit_same, delivered_same, drop_same, fork_same, merged_same, rebased_same, same_of, to_merge, to_rebase, undo_same, unless_same, upgrade_same}

-- one answer, and alike worlds
abbrev pub Ends : WorldState → WorldState → Answer → Answer → Type 0
Ends v x a b = (a ≡ b) × AreAlike v x

-- the same of pairs
abbrev pub EndsPair : WorldState × Answer → WorldState × Answer → Type 0
EndsPair p q = Ends p.0 q.0 p.1 q.1

ends_of : (p q : WorldState × Answer) (v x : WorldState) (a b : Answer) → EndsPair p q → p ≡ (v, a) → q ≡ (x, b) → Ends v x a b
ends_of p q v x a b s f g = subst (λ (z : WorldState × Answer). EndsPair z (x, b)) f (subst (EndsPair p) g s)

ends_by : (y z v x : WorldState) (a b : Answer) → AreAlike y z → a ≡ b → v ≡ y → x ≡ z → Ends v x a b
ends_by y z v x a b s e f g = (e, subst (λ t. AreAlike t x) (sym f) (subst (AreAlike y) (sym g) s))

-- ## Who is there

first_same : (xs ys : List Client) (name : List ℕ) → OneByOne AlikeClient xs ys
    → prefix_len (λ (c : Client). not (pointwise nat_eq c.name name)) xs ≡ prefix_len (λ (c : Client). not (pointwise nat_eq c.name name)) ys
first_same [] [] name o = refl
first_same [] (y ∷ ys) name o = absurd o
first_same (x ∷ xs) [] name o = absurd o
first_same (x ∷ xs) (y ∷ ys) name o = λ i. cond (not (pointwise nat_eq (name_alike x y o.0 i) name)) (1 + first_same xs ys name o.1 i) 0

place_same : (xs ys : List Client) (name : List ℕ) → OneByOne AlikeClient xs ys → place_of name xs ≡ place_of name ys
place_same xs ys name o = λ i. cond (nat_lt (first_same xs ys name o i) (as_long AlikeClient xs ys o i)) (Some (first_same xs ys name o i)) None

-- a client at one place in both, which is there
abbrev AreAt : List Client → ℕ × Client → ℕ × Client → Type 0
AreAt ys p q = (p.0 ≡ q.0) × AlikeClient p.1 q.1 × Has ys q.1

named_same : (xs ys : List Client) (name : List ℕ) → OneByOne AlikeClient xs ys → InBoth (AreAt ys) (client_named name xs) (client_named name ys)
named_same xs ys name o = subst (λ p. InBoth (AreAt ys) (client_named name xs) (option_and_then (λ i. option_map (λ c. (i, c)) (slice_get ys i)) p)) (place_same xs ys name o) (go (place_of name xs))
  where
    at : (i : ℕ) (c d : Option Client) → slice_get ys i ≡ d → InBoth AlikeClient c d → InBoth (AreAt ys) (option_map (λ c. (i, c)) c) (option_map (λ c. (i, c)) d)
    at i None None e a = tt
    at i None (Some d) e a = absurd a
    at i (Some c) None e a = absurd a
    at i (Some c) (Some d) e a = (refl, a, at_has ys i d e)

    go : (p : Option ℕ) → InBoth (AreAt ys) (option_and_then (λ i. option_map (λ c. (i, c)) (slice_get xs i)) p) (option_and_then (λ i. option_map (λ c. (i, c)) (slice_get ys i)) p)
    go None = tt
    go (Some i) = at i (slice_get xs i) (slice_get ys i) refl (got AlikeClient xs ys i o)

logged_alike : (es fs : List Entry) (n m : ℕ) (b d : Body) → OneByOne AlikeEntry es fs → n ≡ m → AlikeBody b d → OneByOne AlikeEntry (log_with es n b) (log_with fs m d)
logged_alike es fs n m b d o e a =
    let x : Entry = record { n = length es + 1; session = n; body = b } in
    let y : Entry = record { n = length fs + 1; session = m; body = d } in
    behind AlikeEntry es fs (x ∷ []) (y ∷ []) o (record { n = ap (λ k. k + 1) (as_long AlikeEntry es fs o); session = e; body = a }, tt)

client_itself : (c d : Client) → c.pending ≡ [] → c.transaction ≡ None → c.queue ≡ [] → c.branches ≡ [] → c ≡ d → AlikeClient c d
client_itself c d p t q b e = subst (AlikeClient c) e (record {
  plain = refl;
  pending = subst (λ l. OneByOne IsAlike l l) (sym p) tt;
  transaction = subst (λ l. InBoth AlikeTransaction l l) (sym t) tt;
  queue = subst (λ l. OneByOne AlikeBody l l) (sym q) tt;
  branches = subst (λ l. OneByOne AlikeBranch l l) (sym b) tt;
})

module _ (h : HeaderView) (w u : WorldState) (alike : AreAlike w u) (one : HasOneMeaning u) where
  enters : (s z x y : ℕ) (name : List ℕ) → s ≡ z → x ≡ y → EndsPair (enter w s x name) (enter u z y name)
  enters s z x y name session uuid =
      let long : length w.log ≡ length u.log = as_long AlikeEntry w.log u.log alike.log in
      let new : AlikeClient (new_client (length w.log + 1) s x name) (new_client (length u.log + 1) z y name) =
      client_itself (new_client (length w.log + 1) s x name) (new_client (length u.log + 1) z y name) refl refl refl refl (λ i. new_client (long i + 1) (session i) (uuid i) name) in (
        (λ i. answer.Join (long i + 1) (session i)),
        record {
          log = logged_alike w.log u.log s z (Joined x) (Joined y) alike.log session ((λ i. (Joined (uuid i), None)), tt);
          clients = behind AlikeClient w.clients u.clients (new_client (length w.log + 1) s x name ∷ []) (new_client (length u.log + 1) z y name ∷ []) alike.clients (new, tt);
        },
      )

  joined : (name : List ℕ) (told : Option ℕ) → EndsPair (join w name told) (join u name told)
  joined name told =
      let clients : length w.clients ≡ length u.clients = as_long AlikeClient w.clients u.clients alike.clients in
      let long : length w.log ≡ length u.log = as_long AlikeEntry w.log u.log alike.log in
      let s = sessions_in w.log + 1 in
      let z = sessions_in u.log + 1 in
      let session : s ≡ z = ap (λ n. n + 1) (sessions_alike w.log u.log alike.log) in
      let x = uuid_for s told in
      let y = uuid_for z told in
      let uuid : x ≡ y = ap (λ n. uuid_for n told) session in
      let meets : clashes x w.log ≡ clashes y u.log = ap (λ n. clashes n w.log) uuid ∙ clashes_alike y w.log u.log alike.log in
      chosen EndsPair (nat_le 64 (length w.clients)) (nat_le 64 (length u.clients)) (w, limit_refusal (record { of = Clients; kept = length w.clients })) (u, limit_refusal (record { of = Clients; kept = length u.clients }))
      (cond (nat_le 65535 (length w.log)) (w, limit_refusal (record { of = Log; kept = length w.log })) (cond (clashes x w.log) (w, answer.No no.Clash) (enter w s x name)))
      (cond (nat_le 65535 (length u.log)) (u, limit_refusal (record { of = Log; kept = length u.log })) (cond (clashes y u.log) (u, answer.No no.Clash) (enter u z y name)))
      (ap (nat_le 64) clients) (ap (λ n. limit_refusal (record { of = Clients; kept = n })) clients, alike)
      (chosen EndsPair (nat_le 65535 (length w.log)) (nat_le 65535 (length u.log)) (w, limit_refusal (record { of = Log; kept = length w.log })) (u, limit_refusal (record { of = Log; kept = length u.log }))
      (cond (clashes x w.log) (w, answer.No no.Clash) (enter w s x name)) (cond (clashes y u.log) (u, answer.No no.Clash) (enter u z y name))
      (ap (nat_le 65535) long) (ap (λ n. limit_refusal (record { of = Log; kept = n })) long, alike)
      (chosen EndsPair (clashes x w.log) (clashes y u.log) (w, answer.No no.Clash) (u, answer.No no.Clash) (enter w s x name) (enter u z y name) meets (refl, alike) (enters s z x y name session uuid)))

  none_same : (name : List ℕ) (act : ActView) → EndsPair (act_of_none w name act) (act_of_none u name act)
  none_same name (step.join uuid) = joined name uuid
  none_same name (step.edit e) = (refl, alike)
  none_same name (step.need at) = (refl, alike)
  none_same name step.begin = (refl, alike)
  none_same name step.commit = (refl, alike)
  none_same name step.abort = (refl, alike)
  none_same name (step.undo rev) = (refl, alike)
  none_same name (step.upgrade schema) = (refl, alike)
  none_same name step.sequence = (refl, alike)
  none_same name step.ack = (refl, alike)
  none_same name step.deliver = (refl, alike)
  none_same name step.leave = (refl, alike)
  none_same name step.drop_client = (refl, alike)
  none_same name step.reconnect = (refl, alike)
  none_same name step.fork = (refl, alike)
  none_same name step.rebase = (refl, alike)
  none_same name step.merge = (refl, alike)
  none_same name step.drop_branch = (refl, alike)
  none_same name step.show = (refl, alike)
  none_same name step.pending = (refl, alike)

  -- ## One client's lists

  set_alike : (i : ℕ) (e f : Client) → AlikeClient e f → AreAlike (record w { clients = slice_set w.clients i e }) (record u { clients = slice_set u.clients i f })
  set_alike i e f s = record { log = alike.log; clients = set_both AlikeClient w.clients u.clients i e f alike.clients s }

  lifted : (i : ℕ) (e f : Client) (v x : WorldState) (a b : Answer) → Same e a f b → v ≡ record w { clients = slice_set w.clients i e } → x ≡ record u { clients = slice_set u.clients i f } → Ends v x a b
  lifted i e f v x a b s p q = ends_by (record w { clients = slice_set w.clients i e }) (record u { clients = slice_set u.clients i f }) v x a b (set_alike i e f s.0) s.1 p q

  with_both : (i : ℕ) (p q : Client × Answer) (v x : WorldState) (a b : Answer) → Same p.0 p.1 q.0 q.1 → with_client w i p ≡ (v, a) → with_client u i q ≡ (x, b) → Ends v x a b
  with_both i p q v x a b s f g = ends_of (with_client w i p) (with_client u i q) v x a b (s.1, set_alike i p.0 q.0 s.0) f g

  unchanged : (v x : WorldState) (a b why : Answer) → (v ≡ w) × (a ≡ why) → (x ≡ u) × (b ≡ why) → Ends v x a b
  unchanged v x a b why p q = ends_by w u v x a b alike (p.1 ∙ sym q.1) p.0 q.0

  done_in : (i : ℕ) (l m : Line) (does did : Document → Client → Answer → Type 0) (v x : WorldState) (a b : Answer) → AlikeLine l m → ((D : Document) (e f : Client) → does D e a → did D f b → Same e a f b)
      → IsDoneIn h w i l does v a → IsDoneIn h u i m did x b → Ends v x a b
  done_in i l m does did v x a b line next (D, e, shown, done, to) (E, f, seen, made, into) =
      let same : D ≡ E = shown_alike (opening_document h) w.log u.log l m D E alike.log line shown seen in
      lifted i e f v x a b (next E e f (subst (λ (F : Document). does F e a) same done) made) to into

  -- ## The log

  left : (i : ℕ) (c d : Client) (o : Option Limit) → AlikeClient c d → EndsPair (leave w i c o) (leave u i d o)
  left i c d None s = (
    ap (λ n. answer.Leave (n + 1)) (as_long AlikeEntry w.log u.log alike.log),
    record { log = logged_alike w.log u.log c.session d.session Left Left alike.log (session_alike c d s) (refl, tt); clients = removed AlikeClient w.clients u.clients i alike.clients },
  )
  left i c d (Some l) s = (refl, alike)

  dropped : (i : ℕ) (c d : Client) (o : Option Limit) → AlikeClient c d → EndsPair (drop_client w i c o) (drop_client u i d o)
  dropped i c d None s = (
    ap (λ n. answer.Drop (n + 1)) (as_long AlikeEntry w.log u.log alike.log),
    record {
      log = logged_alike w.log u.log c.session d.session Left Left alike.log (session_alike c d s) (refl, tt);
      clients = set_both AlikeClient w.clients u.clients i (without_connection c) (without_connection d) alike.clients (offline_alike c d s);
    },
  )
  dropped i c d (Some l) s = (refl, alike)

  to_reconnect : (c d : Client) → AlikeClient c d → refusal_to_reconnect w.log c ≡ refusal_to_reconnect u.log d
  to_reconnect c d s = λ i. cond (connected_both c d s i) (Some no.Connected) (cond (some_alike AlikeTransaction c.transaction d.transaction s.transaction i) (Some no.Unfinished) (option_map (λ l. no.Limit l) (entries_limit_alike w.log u.log alike.log i)))

  reconnected : (i : ℕ) (c d : Client) (o : Option Refusal) → AlikeClient c d → EndsPair (reconnect w i c o) (reconnect u i d o)
  reconnected i c d None s = (
    (λ j. answer.Reconnect (as_long AlikeEntry w.log u.log alike.log j + 1) (as_long IsAlike (waiting w.log c) (waiting u.log d) (waiting_alike w.log u.log c d alike.log s) j)),
    record {
      log = logged_alike w.log u.log c.session d.session (Joined c.uuid) (Joined d.uuid) alike.log (session_alike c d s) (ap (λ (x : Client). (Joined x.uuid, None)) s.plain, tt);
      clients = set_both AlikeClient w.clients u.clients i (with_connection w.log c) (with_connection u.log d) alike.clients (online_alike w.log u.log c d alike.log s);
    },
  )
  reconnected i c d (Some why) s = (refl, alike)

  entered : (i : ℕ) (c d : Client) (t r : Body) (ts rs : List Body) (o : Option Limit) → AlikeClient c d → AlikeBody t r → OneByOne AlikeBody ts rs → EndsPair (after_entry w i c t ts o) (after_entry u i d r rs o)
  entered i c d t r ts rs None s a q =
      let log = logged_alike w.log u.log c.session d.session t r alike.log (session_alike c d s) a in
      let es = log_with w.log c.session t in
      let fs = log_with u.log d.session r in (
        (λ j. answer.Sequence (minimum_alike es fs log j) (as_long AlikeEntry es fs log j)),
        record { log = log; clients = set_both AlikeClient w.clients u.clients i (record c { queue = ts }) (record d { queue = rs }) alike.clients (sent_alike c d ts rs s q) },
      )
  entered i c d t r ts rs (Some l) s a q = (refl, alike)

  sequenced : (i : ℕ) (c d : Client) (ts rs : List Body) → AlikeClient c d → OneByOne AlikeBody ts rs → EndsPair (sequence w i c ts) (sequence u i d rs)
  sequenced i c d [] [] s q = (refl, alike)
  sequenced i c d [] (r ∷ rs) s q = absurd q
  sequenced i c d (t ∷ ts) [] s q = absurd q
  sequenced i c d (t ∷ ts) (r ∷ rs) s q =
      subst (λ o. EndsPair (after_entry w i c t ts (log_limit_passed w.log (names_in_text t))) (after_entry u i d r rs o)) (log_limit_alike w.log u.log (names_in_text t) (names_in_text r) alike.log (text_names_alike t r q.0))
      (entered i c d t r ts rs (log_limit_passed w.log (names_in_text t)) s q.0 q.1)

  -- ## A branch and its parent

  on_parent : (does did : Line → Type 0) (l m : Option Line) (v x : WorldState) (a b : Answer) → InBoth AlikeLine l m → ((l m : Line) → AlikeLine l m → does l → did m → Ends v x a b) → OnParent w does l v a → OnParent u did m x b → Ends v x a b
  on_parent does did None None v x a b r next y z = unchanged v x a b (answer.No no.NoBranch) y z
  on_parent does did None (Some m) v x a b r next y z = absurd r
  on_parent does did (Some l) None v x a b r next y z = absurd r
  on_parent does did (Some l) (Some m) v x a b r next y z = next l m r y z

  on_own : (c d : Client) (does did : Branch → Line → Type 0) (g e : Option Branch) (v x : WorldState) (a b : Answer) → AlikeClient c d → InBoth AlikeBranch g e
      → ((g e : Branch) (l m : Line) → AlikeBranch g e → AlikeLine l m → does g l → did e m → Ends v x a b) → OnOwnBranch w c does g v a → OnOwnBranch u d did e x b → Ends v x a b
  on_own c d does did None None v x a b s r next y z = unchanged v x a b (answer.No no.NoBranch) y z
  on_own c d does did None (Some e) v x a b s r next y z = absurd r
  on_own c d does did (Some g) None v x a b s r next y z = absurd r
  on_own c d does did (Some g) (Some e) v x a b s r next y z =
      on_parent (does g) (did e) (line_of c g.parent) (line_of d e.parent) v x a b (subst (λ n. InBoth AlikeLine (line_of c g.parent) (line_of d n)) r.parent (line_of_alike c d g.parent s)) (λ l m q. next g e l m r q) y z

  -- ## Each act

  shown_same : (l m : Line) (a b : Answer) → AlikeLine l m → IsShown h w l a → IsShown h u m b → a ≡ b
  shown_same l m a b line (D, t, shown, is, e) (E, r, seen, was, f) =
      let same : D ≡ E = shown_alike (opening_document h) w.log u.log l m D E alike.log line shown seen in
      let text : t ≡ r = one_text (is_array_type (schema_in_effect E)) E t r (subst (λ (F : Document). IsTreeText (is_array_type (schema_in_effect F)) F t) same is) was in
      e ∙ ap (λ z. answer.Show z) text ∙ sym f

  told_same : (c d : Client) (a b : Answer) → AlikeClient c d → IsPendingTold h w c a → IsPendingTold h u d b → a ≡ b
  told_same c d a b s (D, ts, vs, received, are, void, e) (E, rs, gs, taken, were, gone, f) =
      let same : D ≡ E = received_alike (opening_document h) w.log u.log c d D E alike.log s received taken in
      let texts : ts ≡ rs = texts_alike E c.pending d.pending ts rs s.pending (subst (λ (F : Document). AreTextsOf F c.pending ts) same are) were in
      let voids : vs ≡ gs = void_alike E c.pending d.pending vs gs s.pending (subst (λ (F : Document). AreVoid F c.pending vs) same void) gone in
      e ∙ (λ i. answer.Pending (texts i) (voids i)) ∙ sym f

  module _ (i k : ℕ) (c d : Client) (l m : Line) (s : AlikeClient c d) (line : AlikeLine l m) (there : Has u.clients d) (at : line_of d k ≡ Some m) (v x : WorldState) (a b : Answer) where
    act_same : (act : ActView) → IsActOf h w act i c k l v a → IsActOf h u act i d k m x b → Ends v x a b
    act_same (step.join uuid) y z = unchanged v x a b (answer.No no.Taken) y z
    act_same (step.edit e) y z =
        done_in i l m (λ D. IsAfterEdit c k l l.transaction (word_of e) (intent_of D (schema_in_effect D) (next_names c l.transaction) e)) (λ D. IsAfterEdit d k m m.transaction (word_of e) (intent_of D (schema_in_effect D) (next_names d m.transaction) e)) v x a b line
        (λ D f g p q. after_edit_same c d s k l m l.transaction m.transaction (word_of e) (λ G. intent_of D (schema_in_effect D) G e) f g a b line line.transaction (one.intents d k m there at) p q) y z
    act_same (step.need path) y z =
        done_in i l m (λ D. IsAfterNeed c k l.transaction (need D (next_names c l.transaction) path)) (λ D. IsAfterNeed d k m.transaction (need D (next_names d m.transaction) path)) v x a b line
        (λ D f g p q. after_need_same c d s k l.transaction m.transaction (λ G. need D G path) f g a b line.transaction (one.intents d k m there at) p q) y z
    act_same step.begin y z =
        done_in i l m (λ D e f. begin c k l l.transaction (last_in_effect D) ≡ (e, f)) (λ D e f. begin d k m m.transaction (last_in_effect D) ≡ (e, f)) v x a b line
        (λ D f g p q. same_of (begin c k l l.transaction (last_in_effect D)) (begin d k m m.transaction (last_in_effect D)) f g a b (begin_same c d s k l m l.transaction m.transaction (last_in_effect D) line line.transaction) p q) y z
    act_same step.commit y z = with_both i (commit c k l.transaction) (commit d k m.transaction) v x a b (commit_same c d k l.transaction m.transaction s line.transaction) y z
    act_same step.abort y z = with_both i (abort c k l.transaction) (abort d k m.transaction) v x a b (abort_same c d s k l.transaction m.transaction line.transaction) y z
    act_same (step.undo rev) (e, y, to) (f, z, into) =
        lifted i e f v x a b (undo_same (opening_document h) h.history w.log u.log c d c.transaction d.transaction rev e f a b alike.log s s.transaction (one.once d there) y z) to into
    act_same (step.upgrade new) y z =
        done_in i (main_line c) (main_line d)
        (λ D e f. upgrade c (change_of_schema (next_rev c) (last_in_effect D) new) (refusal_to_upgrade c (schema_in_effect D) (length D.schemas) new) ≡ (e, f))
        (λ D e f. upgrade d (change_of_schema (next_rev d) (last_in_effect D) new) (refusal_to_upgrade d (schema_in_effect D) (length D.schemas) new) ≡ (e, f)) v x a b (main_alike c d s)
        (λ D f g p q. same_of (upgrade c (change_of_schema (next_rev c) (last_in_effect D) new) (refusal_to_upgrade c (schema_in_effect D) (length D.schemas) new)) (upgrade d (change_of_schema (next_rev d) (last_in_effect D) new) (refusal_to_upgrade d (schema_in_effect D) (length D.schemas) new)) f g a b
        (upgrade_same c d (last_in_effect D) (schema_in_effect D) (length D.schemas) new s) p q) y z
    act_same step.sequence y z = ends_of (sequence w i c c.queue) (sequence u i d d.queue) v x a b (sequenced i c d c.queue d.queue s s.queue) y z
    act_same step.ack y z = with_both i (with_ack c, answer.Ack c.received) (with_ack d, answer.Ack d.received) v x a b (acked_alike c d s, ap (λ n. answer.Ack n) (received_both c d s)) y z
    act_same step.deliver (D, e, received, y, to) (E, f, taken, z, into) =
        let same : D ≡ E = received_alike (opening_document h) w.log u.log c d D E alike.log s received taken in
        let next : InBoth AlikeEntry (slice_get w.log c.received) (slice_get u.log d.received) = subst (λ n. InBoth AlikeEntry (slice_get w.log c.received) (slice_get u.log n)) (received_both c d s) (got AlikeEntry w.log u.log c.received alike.log) in
        lifted i e f v x a b (delivered_same c d E c.transaction d.transaction (slice_get w.log c.received) (slice_get u.log d.received) e f a b s s.transaction next (subst (λ (F : Document). IsDeliveredIn F c c.transaction (slice_get w.log c.received) e a) same y) z) to into
    act_same step.leave y z =
        ends_of (leave w i c (entries_limit_passed w.log)) (leave u i d (entries_limit_passed u.log)) v x a b
        (subst (λ o. EndsPair (leave w i c (entries_limit_passed w.log)) (leave u i d o)) (entries_limit_alike w.log u.log alike.log) (left i c d (entries_limit_passed w.log) s)) y z
    act_same step.drop_client y z =
        ends_of (drop_client w i c (entries_limit_passed w.log)) (drop_client u i d (entries_limit_passed u.log)) v x a b
        (subst (λ o. EndsPair (drop_client w i c (entries_limit_passed w.log)) (drop_client u i d o)) (entries_limit_alike w.log u.log alike.log) (dropped i c d (entries_limit_passed w.log) s)) y z
    act_same step.reconnect y z =
        ends_of (reconnect w i c (refusal_to_reconnect w.log c)) (reconnect u i d (refusal_to_reconnect u.log d)) v x a b
        (subst (λ o. EndsPair (reconnect w i c (refusal_to_reconnect w.log c)) (reconnect u i d o)) (to_reconnect c d s) (reconnected i c d (refusal_to_reconnect w.log c) s)) y z
    act_same step.fork y z = with_both i (fork c k l (refusal_to_fork c l)) (fork d k m (refusal_to_fork d m)) v x a b (fork_same c d k l m s line) y z
    act_same step.rebase y z =
        on_own c d (λ g p. (e : Client) × Unless (refusal_to_rebase g) c e a (IsRebased (opening_document h) w.log c k g p e a) × (v ≡ record w { clients = slice_set w.clients i e }))
        (λ g p. (e : Client) × Unless (refusal_to_rebase g) d e b (IsRebased (opening_document h) u.log d k g p e b) × (x ≡ record u { clients = slice_set u.clients i e })) (branch_of c k) (branch_of d k) v x a b s (branch_of_alike c d k s)
        (λ g r p q same on y z. lifted i y.0 z.0 v x a b (unless_same c d s (refusal_to_rebase g) (refusal_to_rebase r) y.0 z.0 a b (IsRebased (opening_document h) w.log c k g p y.0 a) (IsRebased (opening_document h) u.log d k r q z.0 b) (to_rebase g r same)
        (rebased_same (opening_document h) w.log u.log c d k g r p q y.0 z.0 a b alike.log s same on) y.1 z.1) y.2 z.2) y z
    act_same step.merge y z =
        on_own c d (λ g p. (e : Client) × Unless (refusal_to_merge c k g p) c e a (IsMerged (opening_document h) w.log c k g p e a) × (v ≡ record w { clients = slice_set w.clients i e }))
        (λ g p. (e : Client) × Unless (refusal_to_merge d k g p) d e b (IsMerged (opening_document h) u.log d k g p e b) × (x ≡ record u { clients = slice_set u.clients i e })) (branch_of c k) (branch_of d k) v x a b s (branch_of_alike c d k s)
        (λ g r p q same on y z. lifted i y.0 z.0 v x a b (unless_same c d s (refusal_to_merge c k g p) (refusal_to_merge d k r q) y.0 z.0 a b (IsMerged (opening_document h) w.log c k g p y.0 a) (IsMerged (opening_document h) u.log d k r q z.0 b) (to_merge c d k g r p q s same on)
        (merged_same (opening_document h) w.log u.log c d k g r p q y.0 z.0 a b alike.log s same on) y.1 z.1) y.2 z.2) y z
    act_same step.drop_branch y z =
        on_own c d (λ g p. with_client w i (drop_branch c k) ≡ (v, a)) (λ g p. with_client u i (drop_branch d k) ≡ (x, b)) (branch_of c k) (branch_of d k) v x a b s (branch_of_alike c d k s)
        (λ g r p q same on y z. with_both i (drop_branch c k) (drop_branch d k) v x a b (drop_same c d k s) y z) y z
    act_same step.show y z = ends_by w u v x a b alike (shown_same l m a b line y.1 z.1) y.0 z.0
    act_same step.pending y z = ends_by w u v x a b alike (told_same c d a b s y.1 z.1) y.0 z.0

  -- ## The step

  by_connected : (needs x y : Bool) (v z : WorldState) (a b : Answer) (P Q : Type 0) → x ≡ y → (P → Q → Ends v z a b) → ByConnected needs x w v a P → ByConnected needs y u z b Q → Ends v z a b
  by_connected false x y v z a b P Q e next p q = next p q
  by_connected true true true v z a b P Q e next p q = next p q
  by_connected true false false v z a b P Q e next p q = unchanged v z a b (answer.No no.NotConnected) p q
  by_connected true true false v z a b P Q e next p q = absurd (cc)
  by_connected true false true v z a b P Q e next p q = absurd (cc)

  on_line : (does did : Line → Type 0) (l m : Option Line) (v x : WorldState) (a b : Answer) → InBoth AlikeLine l m → ((l n : Line) → m ≡ Some n → AlikeLine l n → does l → did n → Ends v x a b) → OnLine w does l v a → OnLine u did m x b → Ends v x a b
  on_line does did None None v x a b r next y z = unchanged v x a b (answer.No no.NoBranch) y z
  on_line does did None (Some m) v x a b r next y z = absurd r
  on_line does did (Some l) None v x a b r next y z = absurd r
  on_line does did (Some l) (Some m) v x a b r next y z = next l m refl r y z

  at_line : (act : ActView) (i k : ℕ) (c d : Client) (v x : WorldState) (a b : Answer) → AlikeClient c d → Has u.clients d → AtLine h w act i c k v a → AtLine h u act i d k x b → Ends v x a b
  at_line act i k c d v x a b s there y z =
      on_line (λ l. ByConnected (needs_connection act) c.connected w v a (IsActOf h w act i c k l v a)) (λ l. ByConnected (needs_connection act) d.connected u x b (IsActOf h u act i d k l x b)) (line_of c k) (line_of d k) v x a b (line_of_alike c d k s)
      (λ l m at line p q. by_connected (needs_connection act) c.connected d.connected v x a b (IsActOf h w act i c k l v a) (IsActOf h u act i d k m x b) (connected_both c d s) (act_same i k c d l m s line there at v x a b act) p q) y z

  at_client : (x : StepView) (o p : Option (ℕ × Client)) (v z : WorldState) (a b : Answer) → InBoth (AreAt u.clients) o p → AtClient h w x o v a → AtClient h u x p z b → Ends v z a b
  at_client x None None v z a b r y q = ends_of (act_of_none w x.client x.act) (act_of_none u x.client x.act) v z a b (none_same x.client x.act) y q
  at_client x None (Some p) v z a b r y q = absurd r
  at_client x (Some o) None v z a b r y q = absurd r
  at_client x (Some o) (Some p) v z a b r y q =
      at_line x.act p.0 (branch_at x.branch x.act) o.1 p.1 v z a b r.1 r.2 (subst (λ i. AtLine h w x.act i o.1 (branch_at x.branch x.act) v a) r.0 y) q

  pub next_alike : (x : StepView) (v z : WorldState) (a b : Answer) → IsNext h w x v a → IsNext h u x z b → Ends v z a b
  next_alike x v z a b y q = at_client x (client_named x.client w.clients) (client_named x.client u.clients) v z a b (named_same w.clients u.clients x.client alike.clients) y q
