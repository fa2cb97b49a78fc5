-- The change of an edit that is written, made in the document that its client showed, is known.
use Rattle.std.proofs.Common.{◌≡◌, ◌≢◌, ◌≤◌, ◌+◌, ℕ, zero, suc, true, false, cond, List, [], ◌∷◌, ◌++◌, Option, Some, None, Ok, refl, sym, ap, ◌∙◌, subst, arith, append_assoc, inl}
use Rattle.std.specs.List.{AllByRecursion, slice_get, slice_set}
use Rattle.std.specs.Option.{option_and_then}
use Rattle.std.specs.Prelude.{option_map}
use Rattle.st_ids.specs.Listing.{Has}
use Rattle.st_ids.specs.declared.names.Limit.{Limit}
use Rattle.st_ids.specs.declared.names.Rev.{Rev}
use Rattle.st_ids.proofs.Shared.{at_has}
use Rattle.st_edits.specs.InEffect.{schema_in_effect}
use Rattle.st_edits.specs.declared.names.NameCounters.{NameCounters}
use Rattle.st_known_changes.specs.Known.{AreKnownTexts, IsChangeOver}
use Rattle.st_known_changes.specs.Writing.{IsWriting}
use Rattle.st_known_changes.proofs.Known.{text_more}
use Rattle.st_lists.specs.Clients.{client_named, ids_from, place_of, with_id, with_new_commit}
use Rattle.st_lists.specs.Limits.{limit_passed}
use Rattle.st_lists.specs.Lines.{Line, commits_of, edited_on, main_line}
use Rattle.st_lists.specs.Log.{commits_in, intents_of, sessions_in}
use Rattle.st_lists.specs.declared.lists.Body.{Body}
use Rattle.st_lists.specs.declared.lists.Body.TheVariants.{Commit}
use Rattle.st_lists.specs.declared.lists.Client.{Client}
use Rattle.st_lists.specs.declared.lists.Transaction.{Transaction}
use Rattle.st_lists.specs.declared.lists.WorldState.{WorldState}
use Rattle.st_lists.specs.Open.{with_open}
use Rattle.st_lists.proofs.Logs.{texts_append}
use Rattle.st_lists.proofs.Present.{set_here}
use Rattle.st_log_laws.specs.Names.{revisions}
use Rattle.st_marks.specs.Document.{Document}
use Rattle.st_marks.specs.Embedding.{IsEmbedding}
use Rattle.st_marks.specs.Run.{Run}
use Rattle.st_marks.specs.declared.changes.Change.{Change}
use Rattle.st_marks.specs.declared.intents.Intent.{Intent}
use Rattle.st_marks.proofs.Members.{all-has, append_left, append_right, map-has}
use Rattle.st_marks.proofs.OneVerdict.{one_run}
use Rattle.st_schema.specs.Schema.{SchemaView}
use Rattle.st_script.specs.Header.{HeaderView}
use Rattle.st_script.specs.Steps.{ActView, EditView, StepView}
use Rattle.st_script.specs.Steps as step
use Rattle.st_script.specs.declared.answer.Answer.{Answer}
use Rattle.st_valid.specs.Author.{author_list}
use Rattle.st_world.specs.World.{AtClient, AtLine, IsAfterEdit, IsNext, IsEdited, after_edit, branch_at, intent_of, next_names, opening_document, with_new_on, word_of}
use Rattle.st_world_laws.specs.Worlds.{HaveOwnSessions, IsClient, IsWorld, KeepsRules}
use Rattle.st_world_laws.proofs.Everyone.{all_get}
use Rattle.st_world_laws.proofs.GoingOn.{goes_on}
use Rattle.st_author_lists.specs.KnownChanges.{IsKnownChange, IsKnownTo, is_no}
use Rattle.st_author_lists.proofs.Going.{writer}
use Rattle.st_author_lists.proofs.KnownTexts.{AreNew, new_behind, none_known, none_logged, not_before, other_known}
use Rattle.st_author_lists.proofs.Written.{writes_over}

module _ (h : HeaderView) (w : WorldState) (s : IsWorld h w) (i : ℕ) (c : Client) (at : slice_get w.clients i ≡ Some c) (on : c.connected ≡ true) (N : Intent) where
  abbrev O : Document
  O = opening_document h

  abbrev d : Client
  d = with_new_commit c N

  abbrev v : WorldState
  v = record w { clients = slice_set w.clients i d }

  abbrev text : Body
  text = Commit c.received (ids_from c.session c.taken (c.ids + 1)) N

  -- its text waits last
  queue_is : d.queue ≡ c.queue ++ text ∷ []
  queue_is = ap (λ b. cond b (c.queue ++ text ∷ []) c.queue) on

  module _ (t : IsWorld h v) (D : Document) (shown : Run O (commits_of w.log (main_line c)) D) (C : Change) (told : IsEmbedding D N C) where
    abbrev r : Rev
    r = N.rev

    client : IsClient h w.log d
    client = all-has (IsClient h w.log) (slice_set w.clients i d) d t.clients (set_here w.clients i c d at)

    k : IsClient h w.log c
    k = all_get (IsClient h w.log) w.clients i c s.clients at

    fresh : AreNew w.log (with_id c) (N ∷ [])
    fresh = new_behind h w.log (with_id c) (N ∷ []) client

    session : r.session ≡ c.session
    session = (fresh.own on).0

    new : (M : Intent) → Has (commits_in w.log ++ intents_of c.queue) M → M.rev ≡ r → ⊥
    new M there is = not_before (commits_in w.log ++ intents_of c.queue) [] N r (fresh.once on) (subst (Has (revisions (commits_in w.log ++ intents_of c.queue))) is (map-has (λ (x : Intent). x.rev) (commits_in w.log ++ intents_of c.queue) M there)) refl

    over : IsChangeOver O (author_list w.log c.session c.received ++ intents_of c.queue) N C
    over = record { author = D; stands = subst (λ l. Run O l D) (sym (writes_over w.log c (writer h w.log c k) on)) shown; embeds = told }

    own : IsKnownTo O w.log r c.received C d
    own = record {
      passed = λ e. omega arith;
      written = λ e f g.
          let last : commits_in w.log ++ intents_of d.queue ≡ (commits_in w.log ++ intents_of c.queue) ++ N ∷ [] = ap (λ l. commits_in w.log ++ intents_of l) (queue_is) ∙ ap (λ l. commits_in w.log ++ l) (texts_append c.queue (text ∷ [])) ∙ sym (append_assoc (commits_in w.log) (intents_of c.queue) (N ∷ [])) in
          subst (λ l. Has (revisions l) r) (sym last) (map-has (λ (x : Intent). x.rev) ((commits_in w.log ++ intents_of c.queue) ++ N ∷ []) N (append_right (commits_in w.log ++ intents_of c.queue) (N ∷ []) N (inl refl)));
      waiting = subst (AreKnownTexts O w.log c.session [] r c.received C) (sym (queue_is))
          (text_more O r c.received C w.log c.session [] c.queue text (none_known O w.log c.session r c.received C [] c.queue (λ M there. new M (append_right (commits_in w.log) (intents_of c.queue) M there))) (λ is n. over));
    }

    all : (cs : List Client) (j : ℕ) → HaveOwnSessions cs → slice_get cs j ≡ Some c → AllByRecursion (IsClient h w.log) cs → AllByRecursion (IsKnownTo O w.log r c.received C) (slice_set cs j d)
    all [] j apart there x = tt
    all (e ∷ cs) zero apart there x =
        let is_it : e ≡ c = cc in
        (own, others cs (subst (λ (y : Client). AllByRecursion (λ (z : Client). z.session ≢ y.session) cs) is_it apart.0) x.1)
      where
        others : (cs : List Client) → AllByRecursion (λ (z : Client). z.session ≢ c.session) cs → AllByRecursion (IsClient h w.log) cs → AllByRecursion (IsKnownTo O w.log r c.received C) cs
        others [] apart x = tt
        others (e ∷ cs) apart x = (other_known h O w.log r c.received C e x.0 (λ q. apart.0 (q ∙ session)), others cs apart.1 x.1)
    all (e ∷ cs) (suc j) apart there x = (other_known h O w.log r c.received C e x.0 (λ q. all-has (λ (z : Client). z.session ≢ e.session) cs c apart.0 (at_has cs j c there) (sym session ∙ sym q)), all cs j apart.1 there x.1)

    pub known_there : IsKnownChange h v r c.received C
    known_there = record {
      within = k.within;
      given = subst (λ m. m ≤ sessions_in w.log) (sym session) (all_get (λ (x : Client). x.session ≤ sessions_in w.log) w.clients i c s.given at);
      logged = none_logged O w.log r c.received C (λ M there. new M (append_left (commits_in w.log) (intents_of c.queue) M there));
      clients = all w.clients i s.sessions at s.clients;
    }

-- the client that a step names is at its place
named_at : (name : List ℕ) (cs : List Client) (i : ℕ) (c : Client) → client_named name cs ≡ Some (i, c) → slice_get cs i ≡ Some c
named_at name cs i c e = go (place_of name cs) e
  where
    there : (j : ℕ) (o : Option Client) → slice_get cs j ≡ o → option_map {U = ℕ × Client} (λ (x : Client). (j, x)) o ≡ Some (i, c) → slice_get cs i ≡ Some c
    there j None at e = cc
    there j (Some x) at e =
        let pair : (j, x) ≡ (i, c) = some_same (j, x) (i, c) e in
        subst (λ (p : ℕ × Client). slice_get cs p.0 ≡ Some p.1) pair at
      where
        some_same : (p q : ℕ × Client) → Some p ≡ Some q → p ≡ q
        some_same p q e = cc

    go : (o : Option ℕ) → option_and_then (λ j. option_map {U = ℕ × Client} (λ (x : Client). (j, x)) (slice_get cs j)) o ≡ Some (i, c) → slice_get cs i ≡ Some c
    go None e = cc
    go (Some j) e = there j (slice_get cs j) refl e

module _ (h : HeaderView) (w v : WorldState) (x : StepView) (a : Answer) (n : ℕ) (D : Document) (schema : SchemaView) (given : NameCounters) (e : EditView) (y : IsWriting h w x n D schema given e) (N : Intent)
    (meant : intent_of D schema given e ≡ Ok N) (next : IsNext h w x v a) (accepted : is_no a ≡ false) where
  abbrev i : ℕ
  i = y.place

  abbrev c : Client
  c = y.client

  abbrev l : Line
  l = main_line c

  edited : IsEdited h w i c 0 l e v a
  edited =
      let named : AtLine h w x.act i c (branch_at x.branch x.act) v a = subst (λ (o : Option (ℕ × Client)). AtClient h w x o v a) y.named next in
      let acted : AtLine h w (step.edit e) i c x.branch v a = subst (λ (z : ActView). AtLine h w z i c (branch_at x.branch z) v a) y.act named in
      subst (λ b. AtLine h w (step.edit e) i c b v a) y.main acted

  -- what the line shows is one document
  same : edited.0 ≡ D
  same = edited.2.2 ∙ ap (λ E. with_open E (edited_on l)) (one_run edited.2.1 y.shown.1) ∙ sym y.shown.2

  -- no transaction is open on it
  shows : Run (opening_document h) (commits_of w.log l) D
  shows =
      let plain : D ≡ y.shown.0 = y.shown.2 ∙ ap (λ (o : Option Transaction). with_open y.shown.0 (option_and_then (λ (t : Transaction). t.joined) o)) y.none in
      subst (λ E. Run (opening_document h) (commits_of w.log l) E) (sym plain) y.shown.1

  means : intent_of D (schema_in_effect D) (next_names c None) e ≡ Ok N
  means = subst (λ g. intent_of D (schema_in_effect D) g e ≡ Ok N) y.names (subst (λ z. intent_of D z given e ≡ Ok N) y.in_effect meant)

  after : after_edit c 0 l (word_of e) (Ok N) ≡ (edited.1, a)
  after =
      let here : IsAfterEdit c 0 l l.transaction (word_of e) (intent_of D (schema_in_effect D) (next_names c l.transaction) e) edited.1 a = subst (λ E. IsAfterEdit c 0 l l.transaction (word_of e) (intent_of E (schema_in_effect E) (next_names c l.transaction) e) edited.1 a) same edited.3 in
      let none : after_edit c 0 l (word_of e) (intent_of D (schema_in_effect D) (next_names c None) e) ≡ (edited.1, a) = subst (λ (o : Option Transaction). IsAfterEdit c 0 l o (word_of e) (intent_of D (schema_in_effect D) (next_names c o) e) edited.1 a) y.none here in
      subst (λ r. after_edit c 0 l (word_of e) r ≡ (edited.1, a)) means none

  written : edited.1 ≡ with_new_commit c N
  written = go (limit_passed c 0 l N) after
    where
      go : (o : Option Limit) → with_new_on c 0 (word_of e) N o ≡ (edited.1, a) → edited.1 ≡ with_new_commit c N
      go None q = sym (ap (λ (p : Client × Answer). p.0) q)
      go (Some z) q =
          let no : true ≡ is_no a = ap (λ (p : Client × Answer). is_no p.1) q in
          absurd (cc (no, accepted))

  leads : v ≡ record w { clients = slice_set w.clients i (with_new_commit c N) }
  leads = edited.4 ∙ ap (λ (z : Client). record w { clients = slice_set w.clients i z }) written

  pub known_written : (C : Change) → IsWorld h w → IsEmbedding D N C → IsKnownChange h v C.rev n C
  known_written C s told =
      let rules : KeepsRules x.act = subst KeepsRules (sym y.act) tt in
      let t : IsWorld h v = goes_on h w s v a x rules next in
      let at : slice_get w.clients i ≡ Some c = named_at x.client w.clients i c y.named in
      let known = known_there h w s i c at y.connected N (subst (IsWorld h) leads t) D shows C told in
      subst (λ (u : WorldState). IsKnownChange h u C.rev n C) (sym leads) (subst (λ m. IsKnownChange h (record w { clients = slice_set w.clients i (with_new_commit c N) }) C.rev m C) y.reference
      (subst (λ r. IsKnownChange h (record w { clients = slice_set w.clients i (with_new_commit c N) }) r c.received C) (sym told.rev) known))
