-- What a client can do on one of its lines, by the head that is kept of it.
use Rattle.st_edits.specs.InEffect.{schema_in_effect}
use Rattle.st_world_laws.proofs.Among.{line_room, line_transaction, line_fit}
use Rattle.std.proofs.Common.{IfSome, List, None, Ok, Option, Result, Some, ap, arith, refl, subst, sym, true, ℕ, ◌+◌, ◌≡◌, ◌≤◌}
use Rattle.std.specs.Option.{option_and_then}
use Rattle.st_doc.specs.Doc.{document_of}
use Rattle.st_edits.specs.Resolve.{need, resolve}
use Rattle.st_heads.proofs.Runs.{run_of}
use Rattle.st_lists.specs.Open.{FitsSoFar, IsSoundPart, IsWithPart, with_open}
use Rattle.st_heads.specs.Transactions.{HasOpen}
use Rattle.st_heads.specs.declared.heads.Head.{Head}
use Rattle.st_ids.specs.declared.names.Place.{Place}
use Rattle.st_lists.proofs.Branches.{line_parts}
use Rattle.st_lists.specs.Lines.{HasHead, Line, branch_line, commits_of, edited_on, line_of}
use Rattle.st_lists.specs.Log.{commits_in}
use Rattle.st_lists.specs.Names.{names_in, names_made}
use Rattle.st_lists.specs.declared.lists.Branch.{Branch}
use Rattle.st_lists.specs.declared.lists.Client.{Client}
use Rattle.st_lists.specs.declared.lists.Entry.{Entry}
use Rattle.st_lists.specs.declared.lists.Transaction.{Transaction}
use Rattle.st_marks.proofs.OneVerdict.{one_run, run_then}
use Rattle.st_marks.specs.Document.{Document, IsSoundInForm}
use Rattle.st_marks.specs.Intent.{Fits}
use Rattle.st_marks.specs.Run.{Run}
use Rattle.st_marks.specs.declared.intents.Intent.{Intent}
use Rattle.st_schema.specs.Schema.{is_sound}
use Rattle.st_script.specs.Header.{HeaderView}
use Rattle.st_script.specs.Steps.{edit_view}
use Rattle.st_script.specs.declared.step.EditAct.{EditAct}
use Rattle.st_world_laws.proofs.Begun.{IsStart}
use Rattle.st_world_laws.proofs.Clients.{head_sound}
use Rattle.st_world_laws.proofs.Meant.{IsEditable, IsMeaning, IsMeant, need_means, resolved_means}
use Rattle.st_world_laws.proofs.Parts.{counted as numbers_left, is_part, names_edited, so_far, whole_names}
use Rattle.st_world_laws.specs.Worlds.{IsClient, IsTransaction, LineFits}
use Rattle.st_plain.specs.Replicas.{IsHeadOf}
use Rattle.st_world.specs.World.{HasShown, next_names, opening_document, word_of}
use Rattle.st_world.specs.declared.edit_word.EditWord.{EditWord}
use Rattle.st_world.specs.Edits.{edit_of}
use Rattle.st_plain_edits.specs.Taking.{CanTake, HasNumbersLeft}
use Rattle.st_tree.specs.declared.edit.EditFault.{EditFault}
use Rattle.st_world_laws.proofs.LineEditable.{line_editable}

-- the document that a head shows, where this is edited on its line
abbrev pub shown_on : Line → Head → Document
shown_on l k = with_open (document_of k.doc) (edited_on l)

-- what is known of a line and of the head that is kept of it
pub record IsKeptLine (h : HeaderView) (log : List Entry) (c : Client) (l : Line) (k : Head) : Type 0 where
  pub fit : LineFits h log l
  pub transaction : IfSome l.transaction (IsTransaction h log l c)
  -- what is edited in its transaction, and one part more, leaves room for all names
  pub room : (t : Transaction) → l.transaction ≡ Some t → names_in (commits_of log l) + (names_edited t.joined + 2048) ≤ 200000
  pub head : HasHead (opening_document h) log l (document_of k.doc)
  pub edited : HasOpen k (edited_on l)
  pub editable : IsEditable (shown_on l k) (next_names c l.transaction)
  -- and the last schema in effect keeps the rules
  pub schema : is_sound (schema_in_effect (shown_on l k)) ≡ true

module _ (h : HeaderView) (st : IsStart (opening_document h)) (log : List Entry) (c : Client) (l : Line) (k : Head) (x : IsKeptLine h log c l k) where
  pub line_shown : HasShown (opening_document h) log l (shown_on l k)
  line_shown = (document_of k.doc, x.head, refl)

  -- the line's document is sound in form, and the transaction's numbers are small
  pub line_doc_sound : IsSoundInForm (document_of k.doc)
  line_doc_sound = head_sound h st log l (document_of k.doc) x.fit x.head

  pub line_numbers : HasNumbersLeft l.transaction
  line_numbers = go l.transaction x.transaction
    where
      go : (o : Option Transaction) → IfSome o (IsTransaction h log l c) → HasNumbersLeft o
      go None i = tt
      go (Some t) i = (omega (arith, i.counted), omega (arith, i.counted))

  pub line_edit_meant : (e : EditAct) → IsMeaning (shown_on l k) (next_names c l.transaction) (word_of (edit_view e)) (resolve (shown_on l k) (schema_in_effect (shown_on l k)) (next_names c l.transaction) (edit_of e))
  line_edit_meant e = resolved_means (shown_on l k) (next_names c l.transaction) x.editable x.schema e

  pub line_need_meant : (path : List Place) → IsMeaning (shown_on l k) (next_names c l.transaction) EditWord.Need (need (shown_on l k) (next_names c l.transaction) path)
  line_need_meant path = need_means (shown_on l k) (next_names c l.transaction) x.editable x.schema path

  -- what a part of an open transaction means in the transaction's own document
  pub line_meant : (t : Transaction) (i : IsTransaction h log l c t) (word : EditWord) (M : Intent) → IsMeant (with_open (document_of k.doc) t.joined) (next_names c (Some t)) word M → IsMeant (with_open i.before t.joined) (next_names c (Some t)) word M
  line_meant t i word M m = subst (λ F. IsMeant (with_open F t.joined) (next_names c (Some t)) word M) (sym (one_run i.main x.head)) m

  -- what an edit means can be taken in
  pub line_can_take : (word : EditWord) (r : Result Intent EditFault) → IsMeaning (shown_on l k) (next_names c l.transaction) word r → (N : Intent) → r ≡ Ok N → CanTake k l.transaction word N
  line_can_take word r means N e = go l.transaction refl x.transaction x.edited (means N e)
    where
      go : (o : Option Transaction) → l.transaction ≡ o → IfSome o (IsTransaction h log l c) → HasOpen k (option_and_then (λ (t : Transaction). t.joined) o)
          → IsMeant (with_open (document_of k.doc) (option_and_then (λ (t : Transaction). t.joined) o)) (next_names c o) word N → CanTake k o word N
      go None is i edits m = m.fits
      go (Some t) is i edits m =
          let before : i.before ≡ document_of k.doc = one_run i.main x.head in
          let n = line_meant t i word N m in
          record {
            going = record {
              has = edits;
              so_far = subst (λ F. FitsSoFar F N.rev N.under t.joined) before (so_far h st log l c t word N x.fit (x.room t is) i n);
              sound = subst (λ F. IsSoundInForm (with_open F t.joined)) before i.sound;
            };
            part = subst (λ F. IsSoundPart (with_open F t.joined) N) before (is_part h st log l c t word N x.fit (x.room t is) i n);
            counted = numbers_left h st log l c t word N x.fit (x.room t is) i n;
          }

  -- what was edited fits the line's document
  pub line_commit_fits : IfSome (edited_on l) (Fits (document_of k.doc))
  line_commit_fits = go l.transaction x.transaction
    where
      by : (t : Transaction) (D : Document) (o : Option Intent) → FitsSoFar D t.rev t.under o → IfSome o (Fits D)
      by t D None so = tt
      by t D (Some J) so = so.0

      go : (o : Option Transaction) → IfSome o (IsTransaction h log l c) → IfSome (option_and_then (λ (t : Transaction). t.joined) o) (Fits (document_of k.doc))
      go None i = tt
      go (Some t) i = by t (document_of k.doc) t.joined (subst (λ F. FitsSoFar F t.rev t.under t.joined) (one_run i.main x.head) i.so_far)

  -- the names of what is edited, with one part more
  pub line_whole_names : (t : Transaction) → l.transaction ≡ Some t → (i : IsTransaction h log l c t) (word : EditWord) (M J : Intent) → IsMeant (with_open (document_of k.doc) t.joined) (next_names c (Some t)) word M → IsWithPart t.joined M J
      → names_made J ≡ names_edited t.joined + names_made M
  line_whole_names t is i word M J m with_part = whole_names h st log l c t word M x.fit (x.room t is) i (line_meant t i word M m) J with_part

-- ## Each line of a client is such a one

-- the head of a branch is that to which the commits of its line lead
pub branch_head : (O : Document) (log : List Entry) (b : Branch) (k : Head) → IsHeadOf O log b k → HasHead O log (branch_line b) (document_of k.doc)
branch_head O log b k w = subst (λ l. Run O l (document_of k.doc)) (sym (line_parts log (branch_line b))) (run_then w.stands (run_of w.own))

module _ (h : HeaderView) (st : IsStart (opening_document h)) (log : List Entry) (c : Client) (own : IsClient h log c) (j : ℕ) (l : Line) (at : line_of c j ≡ Some l) where
  pub line_kept : (k : Head) → is_sound (schema_in_effect (shown_on l k)) ≡ true → names_in (commits_in log) ≤ 131072 → HasHead (opening_document h) log l (document_of k.doc) → HasOpen k (edited_on l) → IsKeptLine h log c l k
  line_kept k schema few head edited = record {
    schema = schema;
    fit = line_fit h st log c own j l at;
    transaction = line_transaction h st log c own j l at;
    room = λ t is.
        let room = line_room h st log c own j l at few in
        let same : names_edited (edited_on l) ≡ names_edited t.joined = ap (λ (o : Option Transaction). names_edited (option_and_then (λ (x : Transaction). x.joined) o)) is in
        omega (arith, room, same);
    head = head;
    edited = edited;
    editable = line_editable h st log c own j l at (shown_on l k) (document_of k.doc, head, refl);
  }
