-- Texts that fit where their author stands: before any client joins, where entries come, and where one more text waits.
use Rattle.std.proofs.Common.{◌≡◌, ◌≤◌, ℕ, zero, suc, Bool, true, false, cond, List, [], ◌∷◌, ◌++◌, length, length-append, take, drop, Some, refl, sym, ap, ◌∙◌, subst, arith, append_assoc, ◌⊎◌, inl, inr}
use Rattle.std.specs.List.{slice_get}
use Rattle.std.proofs.lemmas.List.{append-nil, drop-append-le, take-append-le, take_all}
use Rattle.std.proofs.lemmas.Option.{slice_get_within}
use Rattle.st_marks.specs.declared.intents.Intent.{Intent}
use Rattle.st_marks.specs.Document.{Document}
use Rattle.st_log_laws.specs.Turns.{FitInTurn}
use Rattle.st_log_laws.proofs.Turns.{front}
use Rattle.st_script.specs.Header.{HeaderView}
use Rattle.st_lists.specs.Clients.{empty_state, ids_from, queue_with, received_by, texts_from, with_commit}
use Rattle.st_lists.specs.Lines.{with_commits_on}
use Rattle.st_lists.specs.Log.{commits_by, commits_in, commits_of_text, intents_of, log_with, own_in_flight}
use Rattle.st_lists.specs.declared.lists.Body.{Body}
use Rattle.st_lists.specs.declared.lists.Body.TheVariants.{Join, Leave, Ack, Commit}
use Rattle.st_lists.specs.declared.lists.Client.{Client}
use Rattle.st_lists.specs.declared.lists.Entry.{Entry}
use Rattle.st_lists.proofs.Logs.{by_append, by_own_text, last_entry, text_first, texts_append}
use Rattle.st_valid.specs.Author.{author_list}
use Rattle.st_world.specs.World.{opening_document}
use Rattle.st_author_lists.specs.Authors.{AreAuthored, FitAuthors, IsAuthored, IsLogAuthored}

-- before any client joins
pub begun_authors : (h : HeaderView) → FitAuthors h empty_state
begun_authors h = record { log = λ i e at. nowhere i e at; waiting = tt }
  where
    nowhere : (i : ℕ) (e : Entry) → slice_get [] i ≡ Some e → IsAuthored (opening_document h) (take i []) e.session [] e.body
    nowhere i e at = cc

-- ## Lists

-- an author's list of a longer log has the commits of the session among the entries that came
pub author_more : (log es : List Entry) (s r : ℕ) → r ≤ length log → author_list (log ++ es) s r ≡ author_list log s r ++ commits_by s es
author_more log es s r within =
    ap (λ l. commits_in l ++ commits_by s (drop r (log ++ es))) (take-append-le r log es within) ∙ ap (λ l. commits_in (take r log) ++ commits_by s l) (drop-append-le r log es within)
    ∙ ap (λ l. commits_in (take r log) ++ l) (by_append s (drop r log) es) ∙ sym (append_assoc (commits_in (take r log)) (commits_by s (drop r log)) (commits_by s es))

-- an item of a list with one more at its end is one of the list, or that one
get_more : {X : Type 0} (xs : List X) (x : X) (i : ℕ) (y : X) → slice_get (xs ++ x ∷ []) i ≡ Some y → (slice_get xs i ≡ Some y) ⊎ ((i ≡ length xs) × (x ≡ y))
get_more [] x zero y e = let same : x ≡ y = cc in inr (refl, same)
get_more [] x (suc i) y e = cc
get_more (z ∷ zs) x zero y e = inl e
get_more (z ∷ zs) x (suc i) y e = elim (get_more zs x i y e) [ inl q ↦ inl q | inr q ↦ inr (ap (λ n. suc n) q.0, q.1) ]

-- ## A client that writes

-- what a client has pending is in the log and not received, or waits in its queue while it is connected
pub record IsWriter (log : List Entry) (c : Client) : Type 0 where
  pub within : c.received ≤ length log
  pub pending : c.connected ≡ true → c.pending ≡ own_in_flight log c ++ intents_of c.queue

-- what it writes over is what it shows
pub writes_over : (log : List Entry) (c : Client) → IsWriter log c → c.connected ≡ true → author_list log c.session c.received ++ intents_of c.queue ≡ received_by log c ++ c.pending
writes_over log c k on = append_assoc (received_by log c) (own_in_flight log c) (intents_of c.queue) ∙ ap (λ l. received_by log c ++ l) (sym (k.pending on))

-- the text of a commit that it writes next
abbrev text_of : Client → Intent → Body
text_of c N = Commit c.received (ids_from c.session c.taken c.ids) N

-- it is one still, with one more commit pending
one_more : (log : List Entry) (c : Client) (N : Intent) → IsWriter log c → IsWriter log (with_commit c N)
one_more log c N k = record { within = k.within; pending = now }
  where
    B : List Intent
    B = own_in_flight log c

    longer : (b : Bool) (texts : List Body) → b ≡ true → intents_of (cond b (texts ++ text_of c N ∷ []) texts) ≡ intents_of texts ++ N ∷ []
    longer true texts on = texts_append texts (text_of c N ∷ [])
    longer false texts on = cc

    now : c.connected ≡ true → c.pending ++ N ∷ [] ≡ B ++ intents_of (queue_with c (text_of c N))
    now on = ap (λ l. l ++ N ∷ []) (k.pending on) ∙ append_assoc B (intents_of c.queue) (N ∷ []) ∙ ap (λ l. B ++ l) (sym (longer c.connected c.queue on))

module _ (O : Document) where
  -- ## Entries come

  -- a text stays one that fits, where those of its session among the entries were among the commits before it
  authored_on : (log es : List Entry) (s : ℕ) (before : List Intent) (text : Body) → IsAuthored O log s (commits_by s es ++ before) text → IsAuthored O (log ++ es) s before text
  authored_on log es s before (Join uuid) x = tt
  authored_on log es s before Leave x = tt
  authored_on log es s before (Ack reference) x = tt
  authored_on log es s before (Commit r ids N) x = record {
    within = omega (arith, x.within, length-append log es);
    fit = subst (λ l. FitInTurn O (l ++ N ∷ [])) (sym (append_assoc (author_list log s r) (commits_by s es) before) ∙ ap (λ l. l ++ before) (sym (author_more log es s r x.within))) x.fit;
  }

  pub texts_on : (log es : List Entry) (s : ℕ) (before : List Intent) (texts : List Body) → AreAuthored O log s (commits_by s es ++ before) texts → AreAuthored O (log ++ es) s before texts
  texts_on log es s before [] x = tt
  texts_on log es s before (text ∷ texts) x =
      (authored_on log es s before text x.0, texts_on log es s (before ++ commits_of_text text) texts (subst (λ l. AreAuthored O log s l texts) (append_assoc (commits_by s es) before (commits_of_text text)) x.1))

  -- all that wait stay so where entries have no commit of their session
  pub texts_beside : (log es : List Entry) (s : ℕ) (texts : List Body) → commits_by s es ≡ [] → AreAuthored O log s [] texts → AreAuthored O (log ++ es) s [] texts
  texts_beside log es s texts none x = texts_on log es s [] texts (subst (λ l. AreAuthored O log s l texts) (sym (append-nil (commits_by s es) ∙ none)) x)

  -- the others do where the first of them enters the log
  pub rest_authored : (log : List Entry) (s : ℕ) (text : Body) (rest : List Body) → AreAuthored O log s [] (text ∷ rest) → AreAuthored O (log_with log s text) s [] rest
  rest_authored log s text rest x =
      texts_on log (last_entry log s text ∷ []) s [] rest (subst (λ l. AreAuthored O log s l rest) (sym (append-nil (commits_by s (last_entry log s text ∷ [])) ∙ by_own_text log s text)) x.1)

  -- a log stays so with one that fits over it
  pub log_authored : (log : List Entry) (s : ℕ) (body : Body) → IsLogAuthored O log → IsAuthored O log s [] body → IsLogAuthored O (log_with log s body)
  log_authored log s body all last i e at = elim (get_more log x i e at) [ inl q ↦ before q | inr q ↦ here q.0 q.1 ]
    where
      x : Entry
      x = last_entry log s body

      before : slice_get log i ≡ Some e → IsAuthored O (take i (log ++ x ∷ [])) e.session [] e.body
      before q = subst (λ l. IsAuthored O l e.session [] e.body) (sym (take-append-le i log (x ∷ []) (omega (arith, slice_get_within log i e q)))) (all i e q)

      here : i ≡ length log → x ≡ e → IsAuthored O (take i (log ++ x ∷ [])) e.session [] e.body
      here size same =
          let whole : take i (log ++ x ∷ []) ≡ log = take-append-le i log (x ∷ []) (omega (arith, size)) ∙ take_all i log (omega (arith, size)) in
          subst (λ (y : Entry). IsAuthored O (take i (log ++ x ∷ [])) y.session [] y.body) same (subst (λ l. IsAuthored O l s [] body) (sym whole) last)

  -- ## Texts come

  -- one more waits behind them
  pub text_more : (log : List Entry) (s : ℕ) (before : List Intent) (texts : List Body) (text : Body) → AreAuthored O log s before texts → IsAuthored O log s (before ++ intents_of texts) text → AreAuthored O log s before (texts ++ text ∷ [])
  text_more log s before [] text x y = (subst (λ l. IsAuthored O log s l text) (append-nil before) y, tt)
  text_more log s before (q ∷ qs) text x y =
      (x.0, text_more log s (before ++ commits_of_text q) qs text x.1 (subst (λ l. IsAuthored O log s l text) (ap (λ l. before ++ l) (text_first q qs) ∙ sym (append_assoc before (commits_of_text q) (intents_of qs))) y))

  -- commits are written anew, all at one reference
  pub texts_anew : (log : List Entry) (s n taken ids : ℕ) (before Ns : List Intent) → n ≤ length log → FitInTurn O ((author_list log s n ++ before) ++ Ns) → AreAuthored O log s before (texts_from n s taken ids Ns)
  texts_anew log s n taken ids before [] within fit = tt
  texts_anew log s n taken ids before (N ∷ Ns) within fit =
      let A = author_list log s n in
      let first = subst (FitInTurn O) (sym (append_assoc (A ++ before) (N ∷ []) Ns)) fit in (
        record { within = within; fit = front ((A ++ before) ++ N ∷ []) Ns O first },
        texts_anew log s n ids ids (before ++ N ∷ []) Ns within (subst (λ l. FitInTurn O (l ++ Ns)) (append_assoc A before (N ∷ [])) first),
      )

  -- ## A client's queue

  -- the texts in its queue fit
  abbrev pub Waits : List Entry → Client → Type 0
  Waits log c = AreAuthored O log c.session [] c.queue

  -- a commit that fits behind what it shows waits where its author stands
  pub one_authored : (log : List Entry) (c : Client) (N : Intent) → IsWriter log c → FitInTurn O (received_by log c ++ (c.pending ++ N ∷ [])) → Waits log c → Waits log (with_commit c N)
  one_authored log c N k fit x = go c.connected refl
    where
      A : List Intent
      A = received_by log c

      go : (b : Bool) → c.connected ≡ b → AreAuthored O log c.session [] (cond b (c.queue ++ text_of c N ∷ []) c.queue)
      go false off = x
      go true on =
          let same : A ++ (c.pending ++ N ∷ []) ≡ (author_list log c.session c.received ++ intents_of c.queue) ++ N ∷ [] = sym (append_assoc A c.pending (N ∷ [])) ∙ ap (λ l. l ++ N ∷ []) (sym (writes_over log c k on)) in
          text_more log c.session [] c.queue (text_of c N) x (record { within = k.within; fit = subst (FitInTurn O) same fit })

  -- so do several
  pub all_authored : (log : List Entry) (Ns : List Intent) (c : Client) → IsWriter log c → FitInTurn O (received_by log c ++ (c.pending ++ Ns)) → Waits log c → Waits log (with_commits_on c 0 Ns)
  all_authored log [] c k fit x = x
  all_authored log (N ∷ Ns) c k fit x =
      let A = received_by log c in
      let all : A ++ (c.pending ++ N ∷ Ns) ≡ A ++ ((c.pending ++ N ∷ []) ++ Ns) = ap (λ l. A ++ l) (sym (append_assoc c.pending (N ∷ []) Ns)) in
      let whole = subst (FitInTurn O) all fit in
      let first = front (A ++ (c.pending ++ N ∷ [])) Ns O (subst (FitInTurn O) (sym (append_assoc A (c.pending ++ N ∷ []) Ns)) whole) in
      all_authored log Ns (with_commit c N) (one_more log c N k) whole (one_authored log c N k first x)
