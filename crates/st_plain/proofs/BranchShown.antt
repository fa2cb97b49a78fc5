-- What a line shows is read off the head that is kept of it.
use Rattle.std.proofs.Common.{List, None, Option, Some, ap, refl, subst, suc, sym, zero, ℕ, ◌∙◌, ◌≡◌}
use Rattle.std.specs.BTreeMap.{get}
use Rattle.std.specs.List.{slice_get}
use Rattle.std.specs.Option.{option_and_then}
use Rattle.std.specs.Prelude.{option_map}
use Rattle.st_doc.specs.Doc.{document_of}
use Rattle.st_doc.specs.LiveText.{is_among}
use Rattle.st_heads.specs.Transactions.{HasOpen}
use Rattle.st_lists.specs.Open.{with_open}
use Rattle.st_heads.specs.declared.heads.Head.{Head}
use Rattle.st_ids.specs.Order.{rev_cmp}
use Rattle.st_lists.specs.Clients.{joined_of}
use Rattle.st_lists.specs.Lines.{branch_place}
use Rattle.st_heads.specs.Replicas.{head_of}
use Rattle.st_lists.specs.Lines.{HasHead, Line, branch_line, edited_on, line_of, main_line}
use Rattle.st_lists.specs.declared.lists.Client.{Client}
use Rattle.st_lists.specs.declared.lists.Entry.{Entry}
use Rattle.st_marks.specs.Document.{Document, IsSoundInForm}
use Rattle.st_marks.specs.LiveTree.{IsTreeText}
use Rattle.st_marks.specs.declared.intents.Intent.{Intent}
use Rattle.st_script.specs.Header.{HeaderView, header_view}
use Rattle.st_script.specs.declared.answer.Answer.TheVariants.{Show}
use Rattle.st_edits.specs.InEffect.{schema_in_effect}
use Rattle.st_plain.proofs.Acting.{one_at}
use Rattle.st_plain.proofs.BranchHeads.{head_at, heads_many}
use Rattle.st_plain_branches.proofs.Branched.{found_at, found_by, head_there}
use Rattle.st_plain.proofs.Keeping.{AreOne, kept_main}
use Rattle.st_world_laws.proofs.Effect.{schema_sound_on}
use Rattle.st_plain.proofs.Everyone.{clients_of}
use Rattle.st_plain.proofs.Knowing.{known_arrays, known_schema, known_some}
use Rattle.st_plain.proofs.LineActs.{IsKeptLine, branch_head, line_kept, shown_on}
use Rattle.st_world_laws.proofs.LineEditable.{line_editable}
use Rattle.st_world_laws.proofs.Lookup.{line_there}
use Rattle.st_plain.proofs.Stepping.{start_of}
use Rattle.st_plain.specs.Replicas.{IsHeadOf, IsSound}
use Rattle.st_plain_schemas.specs.Schemas.{HasReading}
use Rattle.st_world.specs.World.{HasShown, IsShown, opening_document}
use Rattle.st_edits.specs.InEffect.{last_in_effect}
use Rattle.st_plain_schemas.specs.declared.known.KnownSchema.{KnownSchema}
use Rattle.st_heads.specs.declared.replica.Replica.{Replica}
use Rattle.st_plain.specs.declared.world.World.{World}

-- the document that a head shows
abbrev pub IsShownBy : Head → Document → Type 0
IsShownBy p E = (joined : Option Intent) → HasOpen p joined → E ≡ with_open (document_of p.doc) joined

pub same_some : {X : Type 0} (x y : X) → Some x ≡ Some y → x ≡ y
same_some x y e = cc

-- a number of which a head is kept is that of a line
pub head_line : (c : Client) (k : Replica) (n : ℕ) (p : Head) → head_of c k n ≡ Some p → (l : Line) × (line_of c n ≡ Some l)
head_line c k zero p head = (main_line c, refl)
head_line c k (suc n) p head = go (branch_place (suc n) c.branches) refl head
  where
    go : (o : Option ℕ) → branch_place (suc n) c.branches ≡ o → option_and_then (λ i. slice_get k.branches i) o ≡ Some p → (l : Line) × (line_of c (suc n) ≡ Some l)
    go None e head = absurd (cc)
    go (Some j) e head =
        let b = found_by (suc n) c.branches j e in
        (branch_line b.0, ap (option_map branch_line) b.1)

module _ (w : World) (i : ℕ) (c : Client) (k : Replica) (s : IsSound w) (at_c : slice_get w.lists.clients i ≡ Some c) (at_k : slice_get w.kept i ≡ Some k) where
  abbrev h : HeaderView
  h = header_view w.header

  abbrev log : List Entry
  log = w.lists.log

  one : AreOne h log c k
  one = one_at w i c k s at_c at_k

  -- a head is kept of each line
  pub head_some : (n : ℕ) (l : Line) → line_of c n ≡ Some l → head_of c k n ≡ None → ⊥
  head_some n l line none = head_there c k n l (heads_many (opening_document h) log c.branches k.branches one.kept.branches) line none

  module _ (n : ℕ) (l : Line) (p : Head) (line : line_of c n ≡ Some l) (head : head_of c k n ≡ Some p) where
    pub line_head_kept : IsKeptLine h log c l p
    line_head_kept = go n line head
      where
        kept : HasHead (opening_document h) log l (document_of p.doc) → HasOpen p (edited_on l) → IsKeptLine h log c l p
        kept main edited = line_kept h (start_of w w.steps s) log c one.client n l line p
            (schema_sound_on h (start_of w w.steps s) (HasReading w.schemas) log w.lists.clients s.schema (clients_of h log w.lists.clients w.kept s.kept) i c at_c n l line (shown_on l p) (document_of p.doc, main, refl)) s.few_names main edited

        go : (m : ℕ) → line_of c m ≡ Some l → head_of c k m ≡ Some p → IsKeptLine h log c l p
        go zero line head =
            let same : main_line c ≡ l = same_some (main_line c) l line in
            let main : k.main ≡ p = same_some k.main p head in
            kept (subst (λ m. HasHead (opening_document h) log m (document_of p.doc)) same (subst (λ (x : Head). HasHead (opening_document h) log (main_line c) (document_of x.doc)) main (kept_main h log c k one.kept)))
            (subst (λ (m : Line). HasOpen p (edited_on m)) same (subst (λ (x : Head). HasOpen x (joined_of c)) main one.kept.edited))
        go (suc m) line head =
            let b = line_there c m l line in
            let r = found_at (suc m) c.branches b.0 b.1 in
            let q = head_at (opening_document h) log c.branches k.branches r.0 b.0 one.kept.branches r.2 in
            let at_p : slice_get k.branches r.0 ≡ Some p = sym (ap (option_and_then (λ i. slice_get k.branches i)) r.1) ∙ head in
            let same : q.0 ≡ p = same_some q.0 p (sym q.1 ∙ at_p) in
            let is : IsHeadOf (opening_document h) log b.0 p = subst (IsHeadOf (opening_document h) log b.0) same q.2 in
            kept (subst (λ m. HasHead (opening_document h) log m (document_of p.doc)) b.2 (branch_head (opening_document h) log b.0 p is))
            (subst (λ (m : Line). HasOpen p (edited_on m)) b.2 is.edited)

    pub shown_by_head : (E : Document) → IsShownBy p E → HasShown (opening_document h) log l E
    shown_by_head E shows = (document_of p.doc, line_head_kept.head, shows (edited_on l) line_head_kept.edited)

    pub sound_by_head : (E : Document) → IsShownBy p E → IsSoundInForm E
    sound_by_head E shows = (line_editable h (start_of w w.steps s) log c one.client n l line E (shown_by_head E shows)).sound

    -- what is kept of the schema in effect
    pub schema_some : (E : Document) → IsShownBy p E → None ≡ get rev_cmp w.schemas (last_in_effect E) → ⊥
    schema_some E shows none = known_some w i c s at_c n l line E (shown_by_head E shows) none

    pub schema_by_head : (E : Document) → IsShownBy p E → (x : KnownSchema) → Some x ≡ get rev_cmp w.schemas (last_in_effect E) → x.schema ≡ schema_in_effect E
    schema_by_head E shows x found = known_schema w i c s at_c n l line E (shown_by_head E shows) x found

    pub next_shown : (E : Document) (tree : List ℕ) → IsShownBy p E → (x : KnownSchema) → Some x ≡ get rev_cmp w.schemas (last_in_effect E) → IsTreeText (is_among x.arrays) E tree → IsShown h w.lists l (Show tree)
    next_shown E tree shows x found text = (E, tree, shown_by_head E shows, subst (λ f. IsTreeText f E tree) (known_arrays w i c s at_c n l line E (shown_by_head E shows) x found) text, refl)

-- what is kept of the schema in effect where a head shows a document that is kept of a client
pub known_there : (w : World) (i : ℕ) (c : Client) (k : Replica) (n : ℕ) (p : Head) (E : Document) → IsSound w → slice_get w.lists.clients i ≡ Some c → slice_get w.kept i ≡ Some k → head_of c k n ≡ Some p → IsShownBy p E
    → None ≡ get rev_cmp w.schemas (last_in_effect E) → ⊥
known_there w i c k n p E s at_c at_k head shows none =
    let l = head_line c k n p head in
    schema_some w i c k s at_c at_k n l.0 p l.1 head E shows none

-- what a head shows that is kept of a client is sound in form
pub shown_doc_sound : (w : World) (i : ℕ) (c : Client) (k : Replica) (n : ℕ) (p : Head) (E : Document) → IsSound w → slice_get w.lists.clients i ≡ Some c → slice_get w.kept i ≡ Some k → head_of c k n ≡ Some p → IsShownBy p E → IsSoundInForm E
shown_doc_sound w i c k n p E s at_c at_k head shows =
    let l = head_line c k n p head in
    sound_by_head w i c k s at_c at_k n l.0 p l.1 head E shows
