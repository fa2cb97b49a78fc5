-- What holds of the commits over which each commit was written, whatever a step leads to: where it holds of what each client
-- shows, and of each front of a list of which it holds.
use Rattle.std.proofs.Common.{◌≡◌, ◌≢◌, ◌≤◌, ◌+◌, ℕ, Bool, true, false, List, [], ◌∷◌, ◌++◌, length, length-append, None, refl, sym, ap, ◌∙◌, subst, arith, append_assoc}
use Rattle.std.specs.List.{AllByRecursion, slice_set}
use Rattle.std.proofs.lemmas.List.{append-nil}
use Rattle.st_ids.specs.Listing.{Has}
use Rattle.st_lemmas.proofs.Lists.{AllByRecursion-append}
use Rattle.st_marks.specs.declared.intents.Intent.{Intent}
use Rattle.st_marks.proofs.Members.{all-has}
use Rattle.st_script.specs.Header.{HeaderView}
use Rattle.st_lists.specs.Clients.{carried_of, empty_state, new_client, texts_from, with_connection, without_connection}
use Rattle.st_lists.specs.Lines.{commits_of, main_line}
use Rattle.st_lists.specs.Log.{commit_in, commits_by, commits_of_text, intents_of, log_with, sessions_in, waiting}
use Rattle.st_lists.specs.declared.lists.Body.{Body}
use Rattle.st_lists.specs.declared.lists.Body.TheVariants.{Join, Leave, Ack, Commit}
use Rattle.st_lists.specs.declared.lists.Client.{Client}
use Rattle.st_lists.specs.declared.lists.Entry.{Entry}
use Rattle.st_lists.specs.declared.lists.WorldState.{WorldState}
use Rattle.st_lists.proofs.Logs.{by_none, by_other, by_own_text, last_entry, text_first}
use Rattle.st_lists.proofs.Present.{are_apart, set_here}
use Rattle.st_valid.specs.Author.{author_list}
use Rattle.st_world.specs.World.{uuid_for}
use Rattle.st_world_laws.specs.Worlds.{IsClient, IsQueue, IsWorld}
use Rattle.st_world_laws.proofs.Everyone.{all_as, all_get, all_set}
use Rattle.st_author_lists.proofs.Going.{writer}
use Rattle.st_author_lists.proofs.Written.{author_more, writes_over}
use Rattle.st_world_messages.specs.Order.{AreWrittenSo, EachBehind, EachIsWrittenSo, IsWrittenSo}
use Rattle.st_world_messages.specs.Steps.{GoesOn, LeadsTo, RefersTo, drops, goes, joins, leaves, returns, sends, stays}
use Rattle.st_world_messages.proofs.Counts.{all_but_gone, all_but_set, each_more, nothing_yet}

-- texts that are written anew refer to one number
pub refer_anew : (n s taken ids : ℕ) (Ns : List Intent) → AllByRecursion (RefersTo n) (texts_from n s taken ids Ns)
refer_anew n s taken ids [] = tt
refer_anew n s taken ids (N ∷ Ns) = (refl, refer_anew n s ids ids Ns)

module _ (P : List Intent → Type 0) where
  -- ## Entries come

  -- a text stays written so, where those of its session among the entries were among the commits before it
  written_on : (log es : List Entry) (s : ℕ) (before : List Intent) (text : Body) → IsWrittenSo P log s (commits_by s es ++ before) text → IsWrittenSo P (log ++ es) s before text
  written_on log es s before (Join uuid) x = tt
  written_on log es s before Leave x = tt
  written_on log es s before (Ack reference) x = tt
  written_on log es s before (Commit r ids N) x = (
    omega (arith, x.0, length-append log es),
    subst (λ l. P (l ++ N ∷ [])) (sym (append_assoc (author_list log s r) (commits_by s es) before) ∙ ap (λ l. l ++ before) (sym (author_more log es s r x.0))) x.1,
  )

  texts_on : (log es : List Entry) (s : ℕ) (before : List Intent) (texts : List Body) → AreWrittenSo P log s (commits_by s es ++ before) texts → AreWrittenSo P (log ++ es) s before texts
  texts_on log es s before [] x = tt
  texts_on log es s before (text ∷ texts) x =
      (written_on log es s before text x.0, texts_on log es s (before ++ commits_of_text text) texts (subst (λ l. AreWrittenSo P log s l texts) (append_assoc (commits_by s es) before (commits_of_text text)) x.1))

  -- all that wait stay so where an entry is no commit of their session
  texts_beside : (log : List Entry) (session : ℕ) (body : Body) (s : ℕ) (texts : List Body) → commits_by s (last_entry log session body ∷ []) ≡ [] → AreWrittenSo P log s [] texts → AreWrittenSo P (log_with log session body) s [] texts
  texts_beside log session body s texts none x =
      let es = last_entry log session body ∷ [] in
      texts_on log es s [] texts (subst (λ l. AreWrittenSo P log s l texts) (sym (append-nil (commits_by s es) ∙ none)) x)

  -- the others do where the first of them enters the log
  rest_written : (log : List Entry) (s : ℕ) (text : Body) (rest : List Body) → AreWrittenSo P log s [] (text ∷ rest) → AreWrittenSo P (log_with log s text) s [] rest
  rest_written log s text rest x =
      texts_on log (last_entry log s text ∷ []) s [] rest (subst (λ l. AreWrittenSo P log s l rest) (sym (append-nil (commits_by s (last_entry log s text ∷ [])) ∙ by_own_text log s text)) x.1)

  -- ## Texts come

  module _ (front : (xs ys : List Intent) → P (xs ++ ys) → P xs) where
    -- texts that refer to what their session received last
    texts_at : (log : List Entry) (s n : ℕ) (before : List Intent) (texts : List Body) → n ≤ length log → AllByRecursion (RefersTo n) texts → P ((author_list log s n ++ before) ++ intents_of texts) → AreWrittenSo P log s before texts
    texts_at log s n before [] within refer p = tt
    texts_at log s n before (text ∷ texts) within refer p = go text refer.0 (λ more. texts_at log s n more texts within refer.1) (subst (λ l. P ((author_list log s n ++ before) ++ l)) (text_first text texts) p)
      where
        A : List Intent
        A = author_list log s n

        go : (b : Body) → RefersTo n b → ((more : List Intent) → P ((A ++ more) ++ intents_of texts) → AreWrittenSo P log s more texts) → P ((A ++ before) ++ (commits_of_text b ++ intents_of texts)) → AreWrittenSo P log s before (b ∷ texts)
        go (Join uuid) at rest q = absurd at
        go Leave at rest q = absurd at
        go (Ack reference) at rest q = (tt, rest (before ++ []) (subst (λ l. P ((A ++ l) ++ intents_of texts)) (sym (append-nil before)) q))
        go (Commit reference ids N) at rest q =
            let first : P (((A ++ before) ++ N ∷ []) ++ intents_of texts) = subst P (sym (append_assoc (A ++ before) (N ∷ []) (intents_of texts))) q in
            let one : P ((author_list log s reference ++ before) ++ N ∷ []) = subst (λ r. P ((author_list log s r ++ before) ++ N ∷ [])) (sym at) (front ((A ++ before) ++ N ∷ []) (intents_of texts) first) in (
              (omega (arith, at, within), one),
              rest (before ++ N ∷ []) (subst (λ l. P (l ++ intents_of texts)) (append_assoc A before (N ∷ [])) first),
            )

    -- they wait behind others
    texts_behind : (log : List Entry) (s n : ℕ) (before : List Intent) (texts more : List Body) → n ≤ length log → AllByRecursion (RefersTo n) more → P ((author_list log s n ++ before) ++ intents_of (texts ++ more)) → AreWrittenSo P log s before texts → AreWrittenSo P log s before (texts ++ more)
    texts_behind log s n before [] more within refer p x = texts_at log s n before more within refer p
    texts_behind log s n before (text ∷ texts) more within refer p x =
        let A = author_list log s n in
        let X = commits_of_text text in
        let R = intents_of (texts ++ more) in
        let all : (A ++ before) ++ intents_of (text ∷ (texts ++ more)) ≡ (A ++ (before ++ X)) ++ R = ap (λ l. (A ++ before) ++ l) (text_first text (texts ++ more)) ∙ sym (append_assoc (A ++ before) X R) ∙ ap (λ l. l ++ R) (append_assoc A before X) in
        (x.0, texts_behind log s n (before ++ X) texts more within refer (subst P all p) x.1)

    -- ## A world

    module _ (h : HeaderView) (w : WorldState) (s : IsWorld h w) (f : EachIsWrittenSo P w) where
      abbrev Waits : List Entry → Client → Type 0
      Waits log c = AreWrittenSo P log c.session [] c.queue

      -- what is shown is what is written over
      none_waits : (log : List Entry) (c : Client) → IsClient h log c → c.connected ≡ false → c.queue ≡ []
      none_waits log c k off = subst (λ b. IsQueue (waiting log c) b c.queue) off k.queued

      -- one that goes on
      went : (c d : Client) → GoesOn c d → IsClient h w.log d → P (commits_of w.log (main_line d)) → Waits w.log c → Waits w.log d
      went c d g k shown x = go d.connected refl
        where
          mine : AreWrittenSo P w.log d.session [] c.queue
          mine = subst (λ t. AreWrittenSo P w.log t [] c.queue) (sym g.session) x

          go : (b : Bool) → d.connected ≡ b → Waits w.log d
          go false off = subst (AreWrittenSo P w.log d.session []) (sym (none_waits w.log d k off)) tt
          go true on =
              let A = author_list w.log d.session d.received in
              let same : commits_of w.log (main_line d) ≡ (A ++ []) ++ intents_of (c.queue ++ g.written) =
              sym (writes_over w.log d (writer h w.log d k) on) ∙ ap (λ l. l ++ intents_of d.queue) (sym (append-nil A)) ∙ ap (λ q. (A ++ []) ++ intents_of q) g.queue in
              subst (AreWrittenSo P w.log d.session []) (sym g.queue) (texts_behind w.log d.session d.received [] c.queue g.written k.within g.refer (subst P same shown) mine)

      -- an entry comes that has no commit
      beside_none : (session : ℕ) (body : Body) → commit_in body ≡ None → (d : Client) → Waits w.log d → Waits (log_with w.log session body) d
      beside_none session body none d x = texts_beside w.log session body d.session d.queue (by_none d.session (last_entry w.log session body) [] none) x

      -- one of another session
      beside_other : (session : ℕ) (body : Body) (d : Client) → d.session ≢ session → Waits w.log d → Waits (log_with w.log session body) d
      beside_other session body d apart x = texts_beside w.log session body d.session d.queue (by_other d.session (last_entry w.log session body) [] (are_apart session d.session apart)) x

      logged : (session : ℕ) (body : Body) → IsWrittenSo P w.log session [] body → EachBehind (λ log e. IsWrittenSo P log e.session [] e.body) (log_with w.log session body)
      logged session body x = each_more (λ log e. IsWrittenSo P log e.session [] e.body) w.log session body f.log x

      -- what a client shows that comes back
      returned : (c : Client) → IsClient h (log_with w.log c.session (Join c.uuid)) (with_connection w.log c) → P (commits_of (log_with w.log c.session (Join c.uuid)) (main_line (with_connection w.log c)))
          → Waits (log_with w.log c.session (Join c.uuid)) (with_connection w.log c)
      returned c k shown =
          let longer = log_with w.log c.session (Join c.uuid) in
          let d = with_connection w.log c in
          let A = author_list longer c.session d.received in
          let same : commits_of longer (main_line d) ≡ (A ++ []) ++ intents_of d.queue = sym (writes_over longer d (writer h longer d k) refl) ∙ ap (λ l. l ++ intents_of d.queue) (sym (append-nil A)) in
          texts_at longer c.session d.received [] d.queue k.within (refer_anew (length w.log + 1) c.session (carried_of w.log c) c.ids (waiting w.log c)) (subst P same shown)

      after : (U : ℕ → Type 0) (v : WorldState) → IsWorld h v → ((d : Client) → Has v.clients d → P (commits_of v.log (main_line d))) → LeadsTo U w v → EachIsWrittenSo P v
      after U v t shown stays = f
      after U v t shown (goes i c d at g) = record {
        log = f.log;
        waiting = all_set (Waits w.log) w.clients i d f.waiting (let there = set_here w.clients i c d at in
            went c d g (all-has (IsClient h w.log) (slice_set w.clients i d) d t.clients there) (shown d there) (all_get (Waits w.log) w.clients i c f.waiting at));
      }
      after U v t shown (sends i c text rest at on is room) =
          let queue = subst (AreWrittenSo P w.log c.session []) is (all_get (Waits w.log) w.clients i c f.waiting at) in
          record {
            log = logged c.session text queue.0;
            waiting = all_but_set (Waits w.log) (Waits (log_with w.log c.session text)) w.clients i c (record c { queue = rest }) s.sessions at (beside_other c.session text) (rest_written w.log c.session text rest queue) f.waiting;
          }
      after U v t shown (leaves i c at on room) = record {
        log = logged c.session Leave tt;
        waiting = all_but_gone (Waits w.log) (Waits (log_with w.log c.session Leave)) w.clients i c s.sessions at (beside_other c.session Leave) f.waiting;
      }
      after U v t shown (drops i c at on room) = record {
        log = logged c.session Leave tt;
        waiting = all_but_set (Waits w.log) (Waits (log_with w.log c.session Leave)) w.clients i c (without_connection c) s.sessions at (beside_other c.session Leave) tt f.waiting;
      }
      after U v t shown (returns i c at off room) = record {
        log = logged c.session (Join c.uuid) tt;
        waiting = all_but_set (Waits w.log) (Waits (log_with w.log c.session (Join c.uuid))) w.clients i c (with_connection w.log c) s.sessions at (beside_other c.session (Join c.uuid))
            (let there = set_here w.clients i c (with_connection w.log c) at in
            returned c (all-has (IsClient h (log_with w.log c.session (Join c.uuid))) (slice_set w.clients i (with_connection w.log c)) (with_connection w.log c) t.clients there) (shown (with_connection w.log c) there))
            f.waiting;
      }
      after U v t shown (joins name told v4 clients room apart) =
          let session = sessions_in w.log + 1 in
          let uuid = uuid_for session told in
          record {
            log = logged session (Join uuid) tt;
            waiting = AllByRecursion-append (Waits (log_with w.log session (Join uuid))) w.clients (new_client (length w.log + 1) session uuid name ∷ [])
                (all_as (Waits w.log) (Waits (log_with w.log session (Join uuid))) w.clients (beside_none session (Join uuid) refl) f.waiting) (tt, tt);
          }

-- after one step more
pub written_after : (U : ℕ → Type 0) (P : List Intent → Type 0) → ((xs ys : List Intent) → P (xs ++ ys) → P xs) → (h : HeaderView) (w v : WorldState) → IsWorld h w → IsWorld h v → EachIsWrittenSo P w
    → ((d : Client) → Has v.clients d → P (commits_of v.log (main_line d))) → LeadsTo U w v → EachIsWrittenSo P v
written_after U P front h w v s t f shown leads = after P front h w s f U v t shown leads

pub begun_written : (P : List Intent → Type 0) → EachIsWrittenSo P empty_state
begun_written P = record { log = nothing_yet (λ log e. IsWrittenSo P log e.session [] e.body); waiting = tt }
