-- The world after a step of one client.
use Rattle.st_edits.specs.InEffect.{schema_in_effect}
use Rattle.std.proofs.Common.{arith, Err, IfSome, List, None, Ok, Option, Result, Some, ap, refl, subst, sym, ℕ, ◌+◌, ◌∙◌, ◌≡◌, ◌≤◌}
use Rattle.st_lists.specs.Open.{with_open}
use Rattle.st_lists.specs.Clients.{HasReceived, KeepsIds, joined_of, with_begun, without_transaction}
use Rattle.st_lists.specs.Lines.{Line, main_line}
use Rattle.st_script.specs.declared.answer.Answer.TheVariants.{Deliver, No}
use Rattle.st_script.specs.declared.refusal.Refusal.TheVariants.{NothingNew, Unfinished}
use Rattle.st_plain.proofs.LineActs.{IsKeptLine, line_can_take, line_commit_fits, line_doc_sound, line_edit_meant, line_need_meant, line_numbers, line_whole_names}
use Rattle.st_world_laws.proofs.Meant.{IsMeaning}
use Rattle.st_world_laws.proofs.Parts.{editable, edited_room}
use Rattle.st_plain.proofs.Refusing.{Left, StaysEdited, StaysIn, StaysNeeded, StaysOver, at_answer, line_abort_refused, line_begin_refused, line_commit_refused, line_edit_refused, line_need_refused, refusal_as}
use Rattle.st_world.specs.World.{AtRefusal, HasShown, IsAfterEdit, IsAfterNeed, IsDelivered, IsDeliveredIn, IsDeliveredTo, IsDoneIn, IsEditedIn, IsJoined, abort, begin, commit, next_names, opening_document, with_beginning, with_client, word_of}
use Rattle.st_edits.specs.InEffect.{last_in_effect}
use Rattle.st_plain_log.specs.Receiving.{CanReceive, CanReceiveIn, HasMoved, HasMovedIn}
use Rattle.st_plain_edits.specs.Taking.{CanTake, HasAborted, HasCommitted, HasJoined, HasJoinedMain, HasNumbersLeft, HasTaken, HasTakenNeed, IsPending}
use Rattle.std.specs.List.{slice_get, slice_set, AllByRecursion}
use Rattle.std.specs.Option.{option_and_then}
use Rattle.st_ids.specs.declared.names.Limit.{Limit}
use Rattle.st_ids.specs.declared.names.Rev.{Rev}
use Rattle.st_tree.specs.declared.edit.EditFault.{EditFault}
use Rattle.st_marks.specs.declared.intents.Intent.{Intent}
use Rattle.st_marks.specs.Document.{IsSoundInForm, Document}
use Rattle.st_marks.specs.Intent.{Fits}
use Rattle.st_doc.specs.Doc.{document_of}
use Rattle.st_edits.specs.Resolve.{need, resolve}
use Rattle.st_script.specs.Header.{HeaderView, header_view}
use Rattle.st_script.specs.Steps.{edit_view}
use Rattle.st_script.specs.declared.answer.Answer.{Answer}
use Rattle.st_script.specs.declared.step.EditAct.{EditAct}
use Rattle.st_ids.specs.declared.names.Place.{Place}
use Rattle.st_world_laws.specs.Worlds.{IsClient, IsTransaction}
use Rattle.st_plain.specs.Replicas.{IsReplicaOf, IsSound, IsSoundAfter}
use Rattle.st_world.specs.Edits.{edit_of}
use Rattle.st_lists.specs.Limits.{limit_passed, names_limit_passed, pending_limit_passed}
use Rattle.st_world.specs.declared.edit_word.EditWord.{EditWord}
use Rattle.st_heads.specs.declared.replica.Replica.{Replica}
use Rattle.st_lists.specs.declared.lists.Client.{Client}
use Rattle.st_lists.specs.declared.lists.Entry.{Entry}
use Rattle.st_lists.specs.declared.lists.Transaction.{Transaction}
use Rattle.st_lists.specs.declared.lists.WorldState.{WorldState}
use Rattle.st_plain.specs.declared.world.World.{World}
use Rattle.st_world_laws.proofs.Everyone.{all_get, set_same}
use Rattle.st_plain.proofs.Everyone.{clients_of, kept_at}
use Rattle.st_plain_schemas.specs.Schemas.{HasReading}
use Rattle.st_world_laws.proofs.Going.{GoesOn, abort_goes, begin_goes, commit_goes, delivery_goes, edit_goes, need_goes}
use Rattle.st_plain.proofs.Keeping.{AreOne, can_receive, kept_begun, kept_commits, kept_delivered, kept_ended, kept_main, kept_parted, kept_shown, kept_taken, none_edited}
use Rattle.st_plain.proofs.Stepping.{sound_client, start_of}
use Rattle.st_world_laws.proofs.Effect.{schema_sound_on}

-- a client and what is kept of it
pub one_at : (w : World) (i : ℕ) (c : Client) (k : Replica) → IsSound w → slice_get w.lists.clients i ≡ Some c → slice_get w.kept i ≡ Some k → AreOne (header_view w.header) w.lists.log c k
one_at w i c k s at_c at_k = kept_at (header_view w.header) w.lists.log w.lists.clients w.kept i c k s.kept at_c at_k

pub few_ids : (w : World) (i : ℕ) (c : Client) → IsSound w → slice_get w.lists.clients i ≡ Some c → c.ids ≤ w.steps
few_ids w i c s at = all_get (λ (x : Client). x.ids ≤ w.steps) w.lists.clients i c s.ids at

-- it has taken no ids but those that it generated
pub keeps_ids : (w : World) (i : ℕ) (c : Client) (k : Replica) → IsSound w → slice_get w.lists.clients i ≡ Some c → slice_get w.kept i ≡ Some k → KeepsIds c
keeps_ids w i c k s at_c at_k e = let one = one_at w i c k s at_c at_k in omega (arith, one.client.carried.taken e, one.client.carried.within)

-- ## What a client does

-- the document that what is kept of a client shows
abbrev pub shown_of : Client → Replica → Document
shown_of c k = with_open (document_of k.main.doc) (joined_of c)

-- what is kept is the same where its parts are
same_kept : (k k' : Replica) → k'.received ≡ k.received → k'.main ≡ k.main → k'.branches ≡ k.branches → k'.names ≡ k.names → k' ≡ k
same_kept k k' received main branches names = λ j. record { received = received j; main = main j; branches = branches j; names = names j }

module _ (w : World) (i : ℕ) (c : Client) (k : Replica) (s : IsSound w) (at_c : slice_get w.lists.clients i ≡ Some c) (at_k : slice_get w.kept i ≡ Some k) where
  abbrev h : HeaderView
  h = header_view w.header

  abbrev log : List Entry
  log = w.lists.log

  one : AreOne h log c k
  one = one_at w i c k s at_c at_k

  pub shown : HasShown (opening_document h) log (main_line c) (shown_of c k)
  shown = kept_shown h log c k one.kept

  -- the main line, and the head that is kept of it
  pub main_kept : IsKeptLine h log c (main_line c) k.main
  main_kept = record {
    schema = schema_sound_on h (start_of w w.steps s) (HasReading w.schemas) log w.lists.clients s.schema (clients_of h log w.lists.clients w.kept s.kept) i c at_c 0 (main_line c) refl (shown_of c k) shown;
    fit = one.client.shown_fit;
    transaction = one.client.transaction;
    room = λ t is. edited_room h (start_of w w.steps s) log c t one.client is s.few_names;
    head = kept_main h log c k one.kept;
    edited = one.kept.edited;
    editable = editable h (start_of w w.steps s) log c (shown_of c k) one.client shown;
  }

  pub line_sound : IsSoundInForm (document_of k.main.doc)
  line_sound = line_doc_sound h (start_of w w.steps s) log c (main_line c) k.main main_kept

  pub numbers : HasNumbersLeft c.transaction
  numbers = line_numbers h (start_of w w.steps s) log c (main_line c) k.main main_kept

  pub edit_meant : (e : EditAct) → IsMeaning (shown_of c k) (next_names c c.transaction) (word_of (edit_view e)) (resolve (shown_of c k) (schema_in_effect (shown_of c k)) (next_names c c.transaction) (edit_of e))
  edit_meant e = line_edit_meant h (start_of w w.steps s) log c (main_line c) k.main main_kept e

  pub need_meant : (path : List Place) → IsMeaning (shown_of c k) (next_names c c.transaction) EditWord.Need (need (shown_of c k) (next_names c c.transaction) path)
  need_meant path = line_need_meant h (start_of w w.steps s) log c (main_line c) k.main main_kept path

  -- what an edit means can be taken in
  pub can_take : (word : EditWord) (r : Result Intent EditFault) → IsMeaning (shown_of c k) (next_names c c.transaction) word r → (N : Intent) → r ≡ Ok N → CanTake k.main c.transaction word N
  can_take word r means N e = line_can_take h (start_of w w.steps s) log c (main_line c) k.main main_kept word r means N e

  -- what was edited fits the line's document
  pub commit_fits : IfSome (joined_of c) (Fits (document_of k.main.doc))
  commit_fits = line_commit_fits h (start_of w w.steps s) log c (main_line c) k.main main_kept

  -- ## What is kept stands for the lists

  module _ (c' : Client) (k' : Replica) where
    pub sound_goes : GoesOn h (start_of w w.steps s) (HasReading w.schemas) log w.lists.clients i c c' → IsReplicaOf h log c' k'
        → IsSoundAfter (w.steps + 1) (record w { lists = record w.lists { clients = slice_set w.lists.clients i c' }; kept = slice_set w.kept i k' })
    sound_goes g kept = sound_client w i c c' k' s at_c (record { client = g.client; kept = kept }) g.session g.connected g.ids g.forks g.keeps

    pub stays_kept : c' ≡ c → k' ≡ k → IsReplicaOf h log c' k'
    stays_kept same same_k = subst (λ x. IsReplicaOf h log x k') (sym same) (subst (λ x. IsReplicaOf h log c x) (sym same_k) one.kept)

    taken_in : (t : Transaction) (word : EditWord) (r : Result Intent EditFault) (a : Answer) → c.transaction ≡ Some t → IsTransaction h log (main_line c) c t → IsMeaning (with_open (document_of k.main.doc) t.joined) (next_names c (Some t)) word r
        → IsEditedIn c 0 t word r c' a → HasTaken c (Some t) k r c' k' → IsReplicaOf h log c' k'
    taken_in t word (Err f) a is x means done kept = stays_kept done.0 kept
    taken_in t word (Ok M) a is x means done kept = go (names_limit_passed c M) done kept
      where
        go : (o : Option Limit) → IsJoined c 0 t word M o c' a → HasJoinedMain k M o (joined_of c') k' → IsReplicaOf h log c' k'
        go (Some l) done kept = stays_kept done.0 (same_kept k k' kept.received kept.main.0 kept.branches kept.main.1)
        go None done kept =
            let st = start_of w w.steps s in
            let whole = line_whole_names h st log c (main_line c) k.main main_kept t is x word M done.0 (means M refl) done.1 in
            subst (λ d. IsReplicaOf h log d k') (sym done.2) (kept_parted h st log c t k k' word M done.0 is one.kept whole (subst (λ (d : Client). HasJoined k.main k.names M None (joined_of d) k'.main k'.names) done.2 kept.main) kept.received kept.branches)

    edit_kept : (word : EditWord) (r : Result Intent EditFault) (a : Answer) → IsMeaning (shown_of c k) (next_names c c.transaction) word r → IsAfterEdit c 0 (main_line c) c.transaction word r c' a → HasTaken c c.transaction k r c' k' → IsReplicaOf h log c' k'
    edit_kept word r a means done kept = go c.transaction refl one.client.transaction means done kept
      where
        go : (o : Option Transaction) → c.transaction ≡ o → IfSome o (IsTransaction h log (main_line c) c) → IsMeaning (with_open (document_of k.main.doc) (option_and_then (λ (t : Transaction). t.joined) o)) (next_names c o) word r → IsAfterEdit c 0 (main_line c) o word r c' a
            → HasTaken c o k r c' k' → IsReplicaOf h log c' k'
        go None none x means done kept = kept_taken h (start_of w w.steps s) log c c' k k' word r a none one.kept done kept
        go (Some t) is x means done kept = taken_in t word r a is x means done kept

    need_kept : (r : Result Intent EditFault) (a : Answer) → IsMeaning (shown_of c k) (next_names c c.transaction) EditWord.Need r → IsAfterNeed c 0 c.transaction r c' a → HasTakenNeed c c.transaction k r c' k' → IsReplicaOf h log c' k'
    need_kept r a means done kept = go c.transaction refl one.client.transaction means done kept
      where
        go : (o : Option Transaction) → c.transaction ≡ o → IfSome o (IsTransaction h log (main_line c) c) → IsMeaning (with_open (document_of k.main.doc) (option_and_then (λ (t : Transaction). t.joined) o)) (next_names c o) EditWord.Need r → IsAfterNeed c 0 o r c' a
            → HasTakenNeed c o k r c' k' → IsReplicaOf h log c' k'
        go None none x means done kept = stays_kept done.0 kept
        go (Some t) is x means done kept = taken_in t EditWord.Need r a is x means done kept

    begin_kept : (under : Rev) (a : Answer) → begin c 0 (main_line c) c.transaction under ≡ (c', a) → k' ≡ k → IsReplicaOf h log c' k'
    begin_kept under a done same = go c.transaction refl done
      where
        begun : c.transaction ≡ None → (o : Option Limit) → with_beginning c 0 under o ≡ (c', a) → IsReplicaOf h log c' k'
        begun none (Some l) done = stays_kept (ap (λ (p : Client × Answer). p.0) (sym done)) same
        begun none None done =
            subst (λ d. IsReplicaOf h log d k') (ap (λ (p : Client × Answer). p.0) done) (subst (λ x. IsReplicaOf h log (with_begun c under) x) (sym same) (kept_begun h (start_of w w.steps s) log c k under none one.kept))

        go : (o : Option Transaction) → c.transaction ≡ o → begin c 0 (main_line c) o under ≡ (c', a) → IsReplicaOf h log c' k'
        go (Some t) is done = stays_kept (ap (λ (p : Client × Answer). p.0) (sym done)) same
        go None none done = begun none (pending_limit_passed c) done

    commit_kept : (a : Answer) → commit c 0 c.transaction ≡ (c', a) → HasCommitted c.transaction k k' → IsReplicaOf h log c' k'
    commit_kept a done kept = go c.transaction refl done kept
      where
        go : (o : Option Transaction) → c.transaction ≡ o → commit c 0 o ≡ (c', a) → HasCommitted o k k' → IsReplicaOf h log c' k'
        go None none done kept = stays_kept (ap (λ (p : Client × Answer). p.0) (sym done)) kept
        go (Some t) is done kept = subst (λ d. IsReplicaOf h log d k') (ap (λ (p : Client × Answer). p.0) done) (kept_commits h (start_of w w.steps s) log c t k k' is one.kept kept)

    abort_kept : (a : Answer) → abort c 0 c.transaction ≡ (c', a) → HasAborted c.transaction k k' → IsReplicaOf h log c' k'
    abort_kept a done kept = go c.transaction refl done kept
      where
        go : (o : Option Transaction) → c.transaction ≡ o → abort c 0 o ≡ (c', a) → HasAborted o k k' → IsReplicaOf h log c' k'
        go None none done kept = stays_kept (ap (λ (p : Client × Answer). p.0) (sym done)) kept
        go (Some t) is done kept = subst (λ d. IsReplicaOf h log d k') (ap (λ (p : Client × Answer). p.0) done) (subst (λ x. IsReplicaOf h log (without_transaction c) x) (sym kept) (kept_ended h (start_of w w.steps s) log c t k is one.kept))

    delivery_kept : (D : Document) (a : Answer) → IsDeliveredIn D c c.transaction (slice_get log c.received) c' a → HasMovedIn c k c.transaction (slice_get log c.received) k' → IsReplicaOf h log c' k'
    delivery_kept D a done kept = go c.transaction refl done kept
      where
        go : (o : Option Transaction) → c.transaction ≡ o → IsDeliveredIn D c o (slice_get log c.received) c' a → HasMovedIn c k o (slice_get log c.received) k' → IsReplicaOf h log c' k'
        go None none done kept = kept_delivered h (start_of w w.steps s) log c c' k k' D a one s.few_names none done kept
        go (Some t) is done kept = stays_kept done.0 kept

    -- ## The world goes on

    abbrev Next : Type 0
    Next = IsSoundAfter (w.steps + 1) (record w { lists = record w.lists { clients = slice_set w.lists.clients i c' }; kept = slice_set w.kept i k' })

    abbrev Goes : Type 0
    Goes = GoesOn h (start_of w w.steps s) (HasReading w.schemas) log w.lists.clients i c c'

    are : AllByRecursion (IsClient h log) w.lists.clients
    are = clients_of h log w.lists.clients w.kept s.kept

    pub sound_edit : (e : EditAct) (a : Answer) → IsAfterEdit c 0 (main_line c) c.transaction (word_of (edit_view e)) (resolve (shown_of c k) (schema_in_effect (shown_of c k)) (next_names c c.transaction) (edit_of e)) c' a
        → HasTaken c c.transaction k (resolve (shown_of c k) (schema_in_effect (shown_of c k)) (next_names c c.transaction) (edit_of e)) c' k' → Next
    sound_edit e a done kept =
        let r = resolve (shown_of c k) (schema_in_effect (shown_of c k)) (next_names c c.transaction) (edit_of e) in
        sound_goes (edit_goes h (start_of w w.steps s) (HasReading w.schemas) log w.lists.clients s.sessions are s.few_names s.schema i c at_c c' (shown_of c k) (word_of (edit_view e)) r a shown (edit_meant e) done)
        (edit_kept (word_of (edit_view e)) r a (edit_meant e) done kept)

    pub sound_need : (path : List Place) (a : Answer) → IsAfterNeed c 0 c.transaction (need (shown_of c k) (next_names c c.transaction) path) c' a → HasTakenNeed c c.transaction k (need (shown_of c k) (next_names c c.transaction) path) c' k' → Next
    sound_need path a done kept =
        let r = need (shown_of c k) (next_names c c.transaction) path in
        sound_goes (need_goes h (start_of w w.steps s) (HasReading w.schemas) log w.lists.clients s.sessions are s.few_names s.schema i c at_c c' (shown_of c k) r a shown (need_meant path) done) (need_kept r a (need_meant path) done kept)

    pub sound_commit : (a : Answer) → commit c 0 c.transaction ≡ (c', a) → HasCommitted c.transaction k k' → Next
    sound_commit a done kept = sound_goes (commit_goes h (start_of w w.steps s) (HasReading w.schemas) log w.lists.clients s.sessions are s.few_names s.schema i c at_c c' a done) (commit_kept a done kept)

    pub sound_abort : (a : Answer) → abort c 0 c.transaction ≡ (c', a) → HasAborted c.transaction k k' → Next
    sound_abort a done kept = sound_goes (abort_goes h (start_of w w.steps s) (HasReading w.schemas) log w.lists.clients s.sessions are s.few_names s.schema i c at_c c' a done) (abort_kept a done kept)

    pub sound_delivery : (D : Document) (a : Answer) → IsDeliveredIn D c c.transaction (slice_get log c.received) c' a → HasMovedIn c k c.transaction (slice_get log c.received) k' → Next
    sound_delivery D a done kept = sound_goes (delivery_goes h (start_of w w.steps s) (HasReading w.schemas) log w.lists.clients s.sessions are s.few_names s.schema i c at_c c' D a done) (delivery_kept D a done kept)

  -- a transaction begins under the schema that is last in effect in the line's document, which is the one that is shown then
  pub begun_as : (c' : Client) (under : Rev) (a : Answer) → under ≡ last_in_effect (document_of k.main.doc) → begin c 0 (main_line c) c.transaction under ≡ (c', a) → begin c 0 (main_line c) c.transaction (last_in_effect (shown_of c k)) ≡ (c', a)
  begun_as c' under a is done = sym (go c.transaction) ∙ ap (begin c 0 (main_line c) c.transaction) (sym is) ∙ done
    where
      D : Document
      D = document_of k.main.doc

      go : (o : Option Transaction) → begin c 0 (main_line c) o (last_in_effect D) ≡ begin c 0 (main_line c) o (last_in_effect (with_open D (option_and_then (λ (t : Transaction). t.joined) o)))
      go None = refl
      go (Some t) = refl

  pub sound_begin : (c' : Client) (a : Answer) → begin c 0 (main_line c) c.transaction (last_in_effect (shown_of c k)) ≡ (c', a) → IsSoundAfter (w.steps + 1) (record w { lists = record w.lists { clients = slice_set w.lists.clients i c' } })
  sound_begin c' a done =
      let are = clients_of h log w.lists.clients w.kept s.kept in
      let now = sound_goes c' k (begin_goes h (start_of w w.steps s) (HasReading w.schemas) log w.lists.clients s.sessions are s.few_names s.schema i c at_c c' (shown_of c k) a shown done) (begin_kept c' k (last_in_effect (shown_of c k)) a done refl) in
      subst (λ (ks : List Replica). IsSoundAfter (w.steps + 1) (record w { lists = record w.lists { clients = slice_set w.lists.clients i c' }; kept = ks })) (set_same w.kept i k at_k) now

  -- the next entry, if there is one, can be received where no transaction is open
  pub can_deliver : CanReceiveIn c k c.transaction (slice_get log c.received)
  can_deliver = go c.transaction refl
    where
      next : (o : Option Entry) → slice_get log c.received ≡ o → IfSome o (CanReceive c k)
      next None at = tt
      next (Some e) at = can_receive h (start_of w w.steps s) log c k e one s.few_names at

      go : (o : Option Transaction) → c.transaction ≡ o → CanReceiveIn c k o (slice_get log c.received)
      go None none = record { own = one.kept.own; edited = none_edited c k none one.kept; next = next (slice_get log c.received) refl }
      go (Some t) is = tt

-- ## Refusals

-- a world whose client and what is kept of it are the same is the same
pub same_world : (w : World) (i : ℕ) (c c' : Client) (k k' : Replica) → slice_get w.lists.clients i ≡ Some c → slice_get w.kept i ≡ Some k → (c' ≡ c) × (k' ≡ k)
    → ◌≡◌ {A = World} (record w { lists = record w.lists { clients = slice_set w.lists.clients i c' }; kept = slice_set w.kept i k' }) w
same_world w i c c' k k' at_c at_k same =
    let clients : slice_set w.lists.clients i c' ≡ w.lists.clients = ap (slice_set w.lists.clients i) same.0 ∙ set_same w.lists.clients i c at_c in
    let kept : slice_set w.kept i k' ≡ w.kept = ap (slice_set w.kept i) same.1 ∙ set_same w.kept i k at_k in
    λ j. record w { lists = record w.lists { clients = clients j }; kept = kept j }

stays_pending : (k k' : Replica) (N : Intent) (o : Option Limit) → IsPending k N o k' → StaysOver o (k' ≡ k)
stays_pending k k' N None kept = tt
stays_pending k k' N (Some l) kept = kept

stays_joined : (k k' : Replica) (M : Intent) (o : Option Limit) (joined : Option Intent) → HasJoinedMain k M o joined k' → StaysOver o (k' ≡ k)
stays_joined k k' M None joined kept = tt
stays_joined k k' M (Some l) joined kept = same_kept k k' kept.received kept.main.0 kept.branches kept.main.1

-- a refusal leaves the client and what is kept of it
module _ (c c' : Client) (k k' : Replica) where
  abbrev Same : Answer → Type 0
  Same a = Left c c' (k' ≡ k) a

  stays_in : (t : Transaction) (r : Result Intent EditFault) → HasTaken c (Some t) k r c' k' → StaysIn c r (k' ≡ k)
  stays_in t (Err f) kept = kept
  stays_in t (Ok N) kept = stays_joined k k' N (names_limit_passed c N) (joined_of c') kept

  stays_edited : (o : Option Transaction) (r : Result Intent EditFault) → HasTaken c o k r c' k' → StaysEdited c 0 (main_line c) o r (k' ≡ k)
  stays_edited None (Err f) kept = kept
  stays_edited None (Ok N) kept = stays_pending k k' N (limit_passed c 0 (main_line c) N) kept
  stays_edited (Some t) r kept = stays_in t r kept

  stays_needed : (o : Option Transaction) (r : Result Intent EditFault) → HasTakenNeed c o k r c' k' → StaysNeeded c o r (k' ≡ k)
  stays_needed None r kept = kept
  stays_needed (Some t) r kept = stays_in t r kept

  pub edit_refused : (o : Option Transaction) (word : EditWord) (r : Result Intent EditFault) (a : Answer) → IsAfterEdit c 0 (main_line c) o word r c' a → HasTaken c o k r c' k' → Same a
  edit_refused o word r a is kept = line_edit_refused c c' (k' ≡ k) 0 (main_line c) o word r a is (stays_edited o r kept)

  pub need_refused : (o : Option Transaction) (r : Result Intent EditFault) (a : Answer) → IsAfterNeed c 0 o r c' a → HasTakenNeed c o k r c' k' → Same a
  need_refused o r a is kept = line_need_refused c c' (k' ≡ k) 0 o r a is (stays_needed o r kept)

  pub begin_refused : (o : Option Transaction) (under : Rev) (a : Answer) → begin c 0 (main_line c) o under ≡ (c', a) → k' ≡ k → Same a
  begin_refused o under a is same = line_begin_refused c c' (k' ≡ k) 0 (main_line c) o under a is same

  pub commit_refused : (o : Option Transaction) (a : Answer) → commit c 0 o ≡ (c', a) → HasCommitted o k k' → Same a
  commit_refused o a is kept = line_commit_refused c c' (k' ≡ k) 0 o a is (λ e. subst (λ (x : Option Transaction). HasCommitted x k k') e kept)

  pub abort_refused : (o : Option Transaction) (a : Answer) → abort c 0 o ≡ (c', a) → HasAborted o k k' → Same a
  abort_refused o a is kept = line_abort_refused c c' (k' ≡ k) 0 o a is (λ e. subst (λ (x : Option Transaction). HasAborted x k k') e kept)

  delivered_refused : (D : Document) (o : Option Entry) (a : Answer) → IsDeliveredTo D c o c' a → HasMoved c k o k' → Same a
  delivered_refused D None a is kept = at_answer c c' (k' ≡ k) a (No NothingNew) is.1 (is.0, kept)
  delivered_refused D (Some e) a is kept = at_answer c c' (k' ≡ k) a (Deliver (c.received + 1) is.0) is.3 tt

  pub delivery_refused : (o : Option Transaction) (D : Document) (next : Option Entry) (a : Answer) → IsDeliveredIn D c o next c' a → HasMovedIn c k o next k' → Same a
  delivery_refused None D next a is kept = delivered_refused D next a is kept
  delivery_refused (Some t) D next a is kept = at_answer c c' (k' ≡ k) a (No Unfinished) is.1 (is.0, kept)

pub begun_refused : (w : World) (i : ℕ) (c c' : Client) (k : Replica) (under : Rev) (a : Answer) → slice_get w.lists.clients i ≡ Some c → begin c 0 (main_line c) c.transaction under ≡ (c', a)
    → AtRefusal a (◌≡◌ {A = World} (record w { lists = record w.lists { clients = slice_set w.lists.clients i c' } }) w)
begun_refused w i c c' k under a at_c done = refusal_as a _ _ (λ same.
    let clients : slice_set w.lists.clients i c' ≡ w.lists.clients = ap (slice_set w.lists.clients i) same.0 ∙ set_same w.lists.clients i c at_c in
    λ j. record w { lists = record w.lists { clients = clients j } }) (begin_refused c c' k k c.transaction under a done refl)

pub world_refused : (w : World) (i : ℕ) (c c' : Client) (k k' : Replica) (a : Answer) → slice_get w.lists.clients i ≡ Some c → slice_get w.kept i ≡ Some k → AtRefusal a ((c' ≡ c) × (k' ≡ k))
    → AtRefusal a (◌≡◌ {A = World} (record w { lists = record w.lists { clients = slice_set w.lists.clients i c' }; kept = slice_set w.kept i k' }) w)
world_refused w i c c' k k' a at_c at_k p = refusal_as a _ _ (same_world w i c c' k k' at_c at_k) p

-- ## Steps by the document that is shown

-- what a client does with the document that is kept, it does with one that it shows
pub next_done : (h : HeaderView) (w : WorldState) (i : ℕ) (c q c' : Client) (line : Client → Line) (does : Client → Document → Client → Answer → Type 0) (E : Document) (a : Answer) → slice_get w.clients i ≡ Some c → slice_get w.clients i ≡ Some q
    → HasShown (opening_document h) w.log (line c) E → does c E c' a → IsDoneIn h w i (line q) (does q) (record w { clients = slice_set w.clients i c' }) a
next_done h w i c q c' line does E a at_c at_q shown done =
    let same : c ≡ q = cc in
    subst (λ (x : Client). IsDoneIn h w i (line x) (does x) (record w { clients = slice_set w.clients i c' }) a) same (E, c', shown, done, refl)

pub next_delivered : (h : HeaderView) (w : WorldState) (i : ℕ) (c q c' : Client) (D : Document) (a : Answer) → slice_get w.clients i ≡ Some c → slice_get w.clients i ≡ Some q → HasReceived (opening_document h) w.log c D
    → IsDeliveredIn D c c.transaction (slice_get w.log c.received) c' a → IsDelivered h w i q (record w { clients = slice_set w.clients i c' }) a
next_delivered h w i c q c' D a at_c at_q received done =
    let same : c ≡ q = cc in
    subst (λ (x : Client). IsDelivered h w i x (record w { clients = slice_set w.clients i c' }) a) same (D, c', received, done, refl)

-- what changes a client alone
pub next_with : (w : WorldState) (i : ℕ) (c q c' : Client) (f : Client → Client × Answer) (a : Answer) → slice_get w.clients i ≡ Some c → slice_get w.clients i ≡ Some q → f c ≡ (c', a)
    → with_client w i (f q) ≡ (record w { clients = slice_set w.clients i c' }, a)
next_with w i c q c' f a at_c at_q done =
    let same : c ≡ q = cc in
    subst (λ (x : Client). with_client w i (f x) ≡ (record w { clients = slice_set w.clients i c' }, a)) same (ap (with_client w i) done)
