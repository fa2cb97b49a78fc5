-- A client goes on by each step that it takes on one of its lines, whichever that is.
use Rattle.st_heads.proofs.Editing.{shows}
use Rattle.std.proofs.Common.{Bool, Err, IfSome, List, None, Ok, Option, Result, Some, ap, arith, cond, false, length, nat_lt, refl, subst, suc, sym, true, zero, ℕ, ◌+◌, ◌<◌, ◌∙◌, ◌≡◌, ◌≤◌, ◌∷◌, []}
use Rattle.std.proofs.lemmas.Bool.Decides.{nat_tests}
use Rattle.std.specs.List.{AllByRecursion, slice_get, slice_set}
use Rattle.std.specs.Option.{option_and_then, option_or}
use Rattle.st_lists.specs.Open.{with_open}
use Rattle.st_ids.specs.declared.names.Limit.{Limit}
use Rattle.st_lists.specs.Clients.{new_transaction, next_rev, with_edited, with_id}
use Rattle.st_lists.specs.Limits.{names_limit_passed, own_limit_passed}
use Rattle.st_lists.specs.Lines.{with_transaction_on, with_commit_on, HasHead, Line, line_of}
use Rattle.st_lists.specs.Log.{commits_in}
use Rattle.st_lists.specs.Names.{names_in}
use Rattle.st_lists.specs.declared.lists.Client.{Client}
use Rattle.st_lists.specs.declared.lists.Entry.{Entry}
use Rattle.st_lists.specs.declared.lists.Transaction.{Transaction}
use Rattle.st_marks.specs.Document.{Document}
use Rattle.st_marks.specs.declared.intents.Intent.{Intent}
use Rattle.st_script.specs.Header.{HeaderView}
use Rattle.st_script.specs.declared.answer.Answer.{Answer}
use Rattle.st_world_laws.proofs.Among.{line_fit, line_transaction}
use Rattle.st_world_laws.proofs.Begun.{IsStart}
use Rattle.st_world_laws.proofs.BranchesAgree.{closed_on_keeps, committed_on_keeps, ended_on_keeps, new_on_keeps, part_on_keeps}
use Rattle.st_world_laws.proofs.Everyone.{all_get}
use Rattle.st_lists.proofs.Written.{commit_here, transaction_here}
use Rattle.st_ids.specs.declared.names.Rev.{Rev}
use Rattle.std.specs.Prelude.{option_map, ◌++◌}
use Rattle.st_world_laws.proofs.Effect.{schema_sound_on}
use Rattle.st_world_laws.proofs.Going.{GoesOn, IsNear, LineGoes, meant_in, near_committed, stays}
use Rattle.st_world_laws.proofs.Limits.{within_names}
use Rattle.st_world_laws.proofs.LineEditable.{line_editable}
use Rattle.st_world_laws.proofs.Meant.{IsMeaning, IsMeant}
use Rattle.st_world_laws.proofs.Parts.{client_adds, client_begins, client_commits_on, client_edited, client_ends, edited_room_on}
use Rattle.st_world_laws.specs.Worlds.{HaveOwnSessions, IsClient, IsTransaction, KeepToSchemas, LineFits}
use Rattle.st_world.specs.World.{HasShown, IsAfterEdit, IsAfterNeed, IsEditedIn, IsJoined, abort, after_commit, after_edit, begin, cells_given, commit, next_names, opening_document, with_beginning, with_new_on}
use Rattle.st_edits.specs.InEffect.{last_in_effect}
use Rattle.st_world.specs.declared.edit_word.EditWord.{EditWord}
use Rattle.st_tree.specs.declared.edit.EditFault.{EditFault}
use Rattle.st_ids.specs.declared.names.LimitOf.TheVariants as limit

-- one more commit of a line's own passes no limit
pub within_own : (k : ℕ) (l : Line) → own_limit_passed k l 1 ≡ None → length l.own < 256
within_own k l e = few (go k e)
  where
    by : (b : Bool) (o : Limit) → ◌≡◌ {A = Option Limit} (cond b (Some o) None) None → b ≡ false
    by true o e = cc
    by false o e = refl

    go : (k : ℕ) → own_limit_passed k l 1 ≡ None → nat_lt 256 (length l.own + 1) ≡ false
    go zero e = by (nat_lt 256 (length l.own + 1)) (record { of = limit.Pending; kept = length l.own }) e
    go (suc j) e = by (nat_lt 256 (length l.own + 1)) (record { of = limit.Branch; kept = length l.own }) e

    few : nat_lt 256 (length l.own + 1) ≡ false → length l.own < 256
    few e = grind (arith, nat_tests)

-- what a transaction on a line leaves of a client's numbers
near_turned : (c : Client) (k : ℕ) (o : Option Transaction) → IsNear c (with_transaction_on c k o)
near_turned c zero o = record { session = refl; connected = refl; ids = omega arith; forks = omega arith }
near_turned c (suc k) o = record { session = refl; connected = refl; ids = omega arith; forks = omega arith }

near_begun : (c : Client) (k : ℕ) (o : Option Transaction) → IsNear c (record (with_transaction_on c k o) { ids = c.ids + 1 })
near_begun c zero o = record { session = refl; connected = refl; ids = omega arith; forks = omega arith }
near_begun c (suc k) o = record { session = refl; connected = refl; ids = omega arith; forks = omega arith }

near_ended : (c : Client) (k : ℕ) (J : Intent) → IsNear c (with_commit_on (with_transaction_on c k None) k J)
near_ended c zero J = record { session = refl; connected = refl; ids = omega arith; forks = omega arith }
near_ended c (suc k) J = record { session = refl; connected = refl; ids = omega arith; forks = omega arith }

ids_beside : (d : Client) (k ids : ℕ) → line_of (record d { ids = ids }) k ≡ line_of d k
ids_beside d zero ids = refl
ids_beside d (suc k) ids = refl

module _ (h : HeaderView) (st : IsStart (opening_document h)) (log : List Entry) (c : Client) (k : ℕ) (l : Line) (line : line_of c k ≡ Some l) where
  -- a line with one commit more fits, by what holds of the client then
  line_after_fits : (N : Intent) → IsClient h log (with_commit_on (with_id c) k N) → LineFits h log (record l { own = l.own ++ N ∷ [] })
  line_after_fits N next =
      line_fit h st log (with_commit_on (with_id c) k N) next k (record l { own = l.own ++ N ∷ [] }) (commit_here (with_id c) k N ∙ ap (option_map (λ (m : Line). record m { own = m.own ++ N ∷ [] })) (ids_beside c k (c.ids + 1) ∙ line))

  line_committed_fits : (J : Intent) → IsClient h log (with_commit_on (with_transaction_on c k None) k J) → LineFits h log (record l { own = l.own ++ J ∷ [] })
  line_committed_fits J next =
      line_fit h st log (with_commit_on (with_transaction_on c k None) k J) next k (record l { own = l.own ++ J ∷ []; transaction = None })
      (commit_here (with_transaction_on c k None) k J ∙ ap (option_map (λ (m : Line). record m { own = m.own ++ J ∷ [] })) (transaction_here c k None ∙ ap (option_map (λ (m : Line). record m { transaction = None })) line))

module _ (h : HeaderView) (st : IsStart (opening_document h)) (K : Rev → List ℕ → Type 0) (log : List Entry) (cs : List Client) (sessions : HaveOwnSessions cs) (are : AllByRecursion (IsClient h log) cs) (few : names_in (commits_in log) ≤ 131072) (keeps : KeepToSchemas h K log cs)
    (i : ℕ) (c : Client) (at : slice_get cs i ≡ Some c) (k : ℕ) (l : Line) (line : line_of c k ≡ Some l) where
  own : IsClient h log c
  own = all_get (IsClient h log) cs i c are at

  same : (d : Client) → d ≡ c → GoesOn h st K log cs i c d
  same d e = stays h st K log cs sessions are few keeps i c at d e

  near_goes : (d e : Client) → e ≡ d → IsNear c d → IsClient h log d → KeepToSchemas h K log (slice_set cs i d) → GoesOn h st K log cs i c e
  near_goes d e is n client agree =
      subst (GoesOn h st K log cs i c) (sym is) (record { client = client; session = n.session; connected = n.connected; ids = n.ids; forks = n.forks; keeps = agree })

  -- an edit that is a commit of its own
  line_adds : (d : Client) (D : Document) (word : EditWord) (r : Result Intent EditFault) (a : Answer) → l.transaction ≡ None → HasHead (opening_document h) log l D → IsMeaning D (next_names c None) word r → after_edit c k l word r ≡ (d, a) → GoesOn h st K log cs i c d
  line_adds d D word (Err f) a none head means is = same d (ap (λ (p : Client × Answer). p.0) (sym is))
  line_adds d D word (Ok N) a none head means is = go (own_limit_passed k l 1) refl (names_limit_passed c N) refl is
    where
      m : IsMeant D (next_names c None) word N
      m = means N refl

      go : (o : Option Limit) → own_limit_passed k l 1 ≡ o → (p : Option Limit) → names_limit_passed c N ≡ p → with_new_on c k word N (option_or o p) ≡ (d, a) → GoesOn h st K log cs i c d
      go (Some over) e p f is = same d (ap (λ (p : Client × Answer). p.0) (sym is))
      go None e (Some over) f is = same d (ap (λ (p : Client × Answer). p.0) (sym is))
      go None e None f is =
          let next = client_adds h st log c k l D N own line none head m.fits m.rev (within_own k l e) (within_names h st c N f) few in
          near_goes (with_commit_on (with_id c) k N) d (ap (λ (p : Client × Answer). p.0) (sym is)) (near_committed c k N) next
          (new_on_keeps h st K log cs i c k l D word N sessions are few at line none head m (line_after_fits h st log c k l line N next) keeps)

  -- an edit that is a part of a transaction
  line_joins : (d : Client) (D E : Document) (t : Transaction) (word : EditWord) (r : Result Intent EditFault) (a : Answer) → l.transaction ≡ Some t → IsTransaction h log l c t → HasHead (opening_document h) log l D → E ≡ with_open D t.joined
      → IsMeaning E (next_names c (Some t)) word r → IsEditedIn c k t word r d a → GoesOn h st K log cs i c d
  line_joins d D E t word (Err f) a is x head shows means done = same d done.0
  line_joins d D E t word (Ok M) a is x head shows means done = go (names_limit_passed c M) refl done
    where
      go : (o : Option Limit) → names_limit_passed c M ≡ o → IsJoined c k t word M o d a → GoesOn h st K log cs i c d
      go (Some over) e done = same d done.0
      go None e done =
          let m = meant_in h st K log cs sessions are few keeps i c at l E t word M x D head shows (means M refl) in
          near_goes (with_transaction_on c k (Some (with_edited t done.0 (length M.new) (cells_given word M)))) d done.2 (near_turned c k (Some (with_edited t done.0 (length M.new) (cells_given word M))))
          (client_edited h st log c k l t word M own line is few x m done.0 done.1 (within_names h st c M e))
          (part_on_keeps h st K log cs i c k l t word M done.0 sessions are few at line is x m done.1 keeps)

  line_edits : (d : Client) (E : Document) (word : EditWord) (r : Result Intent EditFault) (a : Answer) → HasShown (opening_document h) log l E → IsMeaning E (next_names c l.transaction) word r → IsAfterEdit c k l l.transaction word r d a → GoesOn h st K log cs i c d
  line_edits d E word r a shown means done = go l.transaction refl (line_transaction h st log c own k l line) shown.2 means done
    where
      go : (o : Option Transaction) → l.transaction ≡ o → IfSome o (IsTransaction h log l c) → E ≡ with_open shown.0 (option_and_then (λ (t : Transaction). t.joined) o) → IsMeaning E (next_names c o) word r → IsAfterEdit c k l o word r d a → GoesOn h st K log cs i c d
      go None none x shows means done = line_adds d shown.0 word r a none shown.1 (subst (λ F. IsMeaning F (next_names c None) word r) shows means) done
      go (Some t) is x shows means done = line_joins d shown.0 E t word r a is x shown.1 shows means done

  line_needs : (d : Client) (E : Document) (r : Result Intent EditFault) (a : Answer) → HasShown (opening_document h) log l E → IsMeaning E (next_names c l.transaction) EditWord.Need r → IsAfterNeed c k l.transaction r d a → GoesOn h st K log cs i c d
  line_needs d E r a shown means done = go l.transaction refl (line_transaction h st log c own k l line) shown.2 means done
    where
      go : (o : Option Transaction) → l.transaction ≡ o → IfSome o (IsTransaction h log l c) → E ≡ with_open shown.0 (option_and_then (λ (t : Transaction). t.joined) o) → IsMeaning E (next_names c o) EditWord.Need r → IsAfterNeed c k o r d a → GoesOn h st K log cs i c d
      go None none x shows means done = same d done.0
      go (Some t) is x shows means done = line_joins d shown.0 E t EditWord.Need r a is x shown.1 shows means done

  line_begins : (d : Client) (E : Document) (a : Answer) → HasShown (opening_document h) log l E → begin c k l l.transaction (last_in_effect E) ≡ (d, a) → GoesOn h st K log cs i c d
  line_begins d E a shown done = go l.transaction refl shown.2 done
    where
      begun : E ≡ shown.0 → (o : Option Limit) → own_limit_passed k l 1 ≡ o → with_beginning c k (last_in_effect E) o ≡ (d, a) → GoesOn h st K log cs i c d
      begun shows (Some over) e done = same d (ap (λ (p : Client × Answer). p.0) (sym done))
      begun shows None e done =
          let u = Some (new_transaction (next_rev c) (last_in_effect E)) in
          near_goes (record (with_transaction_on c k u) { ids = c.ids + 1 }) d (ap (λ (p : Client × Answer). p.0) (sym done)) (near_begun c k u)
          (client_begins h st log c k l E own line (subst (HasHead (opening_document h) log l) (sym shows) shown.1) (within_own k l e))
          (ended_on_keeps h st K log cs i c k l u (c.ids + 1) are at line refl keeps)

      go : (o : Option Transaction) → l.transaction ≡ o → E ≡ with_open shown.0 (option_and_then (λ (t : Transaction). t.joined) o) → begin c k l o (last_in_effect E) ≡ (d, a) → GoesOn h st K log cs i c d
      go (Some t) is shows done = same d (ap (λ (p : Client × Answer). p.0) (sym done))
      go None is shows done = begun shows (own_limit_passed k l 1) refl done

  line_ends : (d : Client) → d ≡ with_transaction_on c k None → GoesOn h st K log cs i c d
  line_ends d is = near_goes (with_transaction_on c k None) d is (near_turned c k None) (client_ends h st log c k l own line) (closed_on_keeps h st K log cs i c k l are at line keeps)

  line_commits : (d : Client) (a : Answer) → commit c k l.transaction ≡ (d, a) → GoesOn h st K log cs i c d
  line_commits d a done = go l.transaction refl (line_transaction h st log c own k l line) done
    where
      by : (t : Transaction) (o : Option Intent) → l.transaction ≡ Some t → t.joined ≡ o → IsTransaction h log l c t → after_commit (with_transaction_on c k None) k t.rev o ≡ (d, a) → GoesOn h st K log cs i c d
      by t None is joined x done = line_ends d (ap (λ (p : Client × Answer). p.0) (sym done))
      by t (Some J) is joined x done =
          let next = client_commits_on h st log c k l t J own line is joined x few in
          near_goes (with_commit_on (with_transaction_on c k None) k J) d (ap (λ (p : Client × Answer). p.0) (sym done)) (near_ended c k J) next
          (committed_on_keeps h st K log cs i c k l t J sessions are few at line is joined x (line_committed_fits h st log c k l line J next) keeps)

      go : (o : Option Transaction) → l.transaction ≡ o → IfSome o (IsTransaction h log l c) → commit c k o ≡ (d, a) → GoesOn h st K log cs i c d
      go None is x done = same d (ap (λ (p : Client × Answer). p.0) (sym done))
      go (Some t) is x done = by t t.joined is refl x done

  line_aborts : (d : Client) (a : Answer) → abort c k l.transaction ≡ (d, a) → GoesOn h st K log cs i c d
  line_aborts d a done = go l.transaction done
    where
      go : (o : Option Transaction) → abort c k o ≡ (d, a) → GoesOn h st K log cs i c d
      go None done = same d (ap (λ (p : Client × Answer). p.0) (sym done))
      go (Some t) done = line_ends d (ap (λ (p : Client × Answer). p.0) (sym done))

  pub line_goes : LineGoes h st K log cs i c k l
  line_goes = record {
    fit = line_fit h st log c own k l line;
    transaction = line_transaction h st log c own k l line;
    room = λ t is. edited_room_on h st log c k l t own line is few;
    schema = λ E shown. schema_sound_on h st K log cs keeps are i c at k l line E shown;
    editable = λ E shown. line_editable h st log c own k l line E shown;
    edits = line_edits;
    needs = line_needs;
    begins = line_begins;
    commits = line_commits;
    aborts = line_aborts;
  }
