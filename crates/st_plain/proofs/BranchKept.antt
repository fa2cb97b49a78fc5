-- A branch and its head after a step on it: the head is that of the branch, the names are counted, and a refusal changes nothing.
use Rattle.std.proofs.Common.{Err, List, None, Ok, Option, Result, Some, [], ap, arith, refl, subst, sym, ℕ, ◌++◌, ◌+◌, ◌∙◌, ◌∷◌, ◌≡◌, ◌≤◌}
use Rattle.std.specs.Option.{option_and_then}
use Rattle.std.specs.Prelude.{◌-◌}
use Rattle.st_doc.specs.Doc.{document_of}
use Rattle.st_doc.specs.declared.doc.Doc.{Doc}
use Rattle.st_heads.proofs.Runs.{runs_joined}
use Rattle.st_heads.specs.Remembered.{AreCarried}
use Rattle.st_heads.specs.Transactions.{HasOpen}
use Rattle.st_lists.specs.Open.{IsWithPart}
use Rattle.st_heads.specs.declared.heads.Head.{Head}
use Rattle.st_ids.specs.declared.names.Limit.{Limit}
use Rattle.st_ids.specs.declared.names.Rev.{Rev}
use Rattle.st_lists.proofs.Names.{names_append}
use Rattle.st_lists.specs.Limits.{own_limit_passed}
use Rattle.st_lists.specs.Lines.{branch_line, edited_on}
use Rattle.st_lists.specs.Names.{names_in, names_made, names_on}
use Rattle.st_lists.specs.declared.lists.Branch.{Branch}
use Rattle.st_lists.specs.declared.lists.Entry.{Entry}
use Rattle.st_lists.specs.declared.lists.Transaction.{Transaction}
use Rattle.st_marks.specs.Document.{Document}
use Rattle.st_marks.specs.declared.intents.Intent.{Intent}
use Rattle.st_script.specs.declared.answer.Answer.{Answer}
use Rattle.st_script.specs.declared.answer.Answer.TheVariants.{No}
use Rattle.st_script.specs.declared.refusal.Refusal.{Refusal}
use Rattle.st_script.specs.declared.refusal.Refusal.TheVariants.{Limit as OverLimit, NotBegun, Unfinished}
use Rattle.st_world_laws.proofs.Parts.{names_edited}
use Rattle.st_plain.proofs.Refusing.{no_refusal}
use Rattle.st_plain.specs.Replicas.{IsHeadOf}
use Rattle.st_world.specs.World.{AtRefusal, refusal_of}
use Rattle.st_world.specs.declared.edit_word.EditWord.{EditWord}
use Rattle.st_plain_edits.specs.BranchEdits.{HasTakenIn, HasAbortedOn, HasBegunBy, HasBegunIn, HasBegunOn, HasCommittedOn, HasEndedOn, HasNeededIn, HasNeededOn, HasOwnTaken, HasTakenOf, IsAbortedOn, IsCommittedOf, IsCommittedOn, IsNeededOn, IsOwnTaken, IsPartTaken, IsTakenOf, own_limit}
use Rattle.st_lists.specs.Limits.{names_limit}
use Rattle.st_plain_edits.specs.Taking.{HasJoined}
use Rattle.st_tree.specs.declared.edit.EditFault.{EditFault}

-- how many names wait on a branch where what is edited in its open transaction is this
names_with : (b : Branch) (o : Option Transaction) → b.transaction ≡ o → names_on b ≡ names_edited (option_and_then (λ (t : Transaction). t.joined) o) + names_in b.own
names_with b o is = ap (λ (o : Option Transaction). names_edited (option_and_then (λ (t : Transaction). t.joined) o) + names_in b.own) is

module _ (O : Document) (log : List Entry) (b : Branch) (k : Head) (w : IsHeadOf O log b k) (ids n : ℕ) where
  -- what is known of them after a step
  pub record IsStepOn (d : Branch) (ids' : ℕ) (g : Head) (n' : ℕ) (a : Answer) : Type 0 where
    pub head : IsHeadOf O log d g
    pub names : n' + names_on b ≡ n + names_on d
    pub refused : AtRefusal a ((d ≡ b) × (ids' ≡ ids) × (g ≡ k) × (n' ≡ n))

  stays_on : (d : Branch) (ids' : ℕ) (g : Head) (n' : ℕ) (a : Answer) (why : Refusal) → d ≡ b → ids' ≡ ids → g ≡ k → n' ≡ n → a ≡ No why → IsStepOn d ids' g n' a
  stays_on d ids' g n' a why e p f q is = record {
    head = subst (λ x. IsHeadOf O log x g) (sym e) (subst (IsHeadOf O log b) (sym f) w);
    names = ap (λ m. m + names_on b) q ∙ ap (λ (x : Branch). n + names_on x) (sym e);
    refused = subst (λ x. AtRefusal x ((d ≡ b) × (ids' ≡ ids) × (g ≡ k) × (n' ≡ n))) (sym is) (e, p, f, q);
  }

  -- nothing is edited where no transaction is open
  none_on : b.transaction ≡ None → k.edited ≡ None
  none_on none = subst (λ (o : Option Transaction). HasOpen k (option_and_then (λ (t : Transaction). t.joined) o)) none w.edited

  own_on : (d : Branch) (ids' : ℕ) (g : Head) (n' : ℕ) (a : Answer) (word : EditWord) (rev : Rev) (N : Intent) (o : Option Limit) → b.transaction ≡ None → IsOwnTaken word rev N o b ids d ids' a → HasOwnTaken k n N o g n' → IsStepOn d ids' g n' a
  own_on d ids' g n' a word rev N (Some over) none is kept = stays_on d ids' g n' a (OverLimit over) is.0.0 is.0.1 kept.0 kept.1 is.1
  own_on d ids' g n' a word rev N None none is kept = record {
    head = subst (λ x. IsHeadOf O log x g) (sym is.0) (record {
      base = w.base;
      stands = w.stands;
      own = subst (λ ks. AreCarried w.base (b.own ++ N ∷ []) ks (document_of g.doc)) (sym kept.0.own) (runs_joined w.own kept.0.run);
      edited = subst (λ (o : Option Transaction). HasOpen g (option_and_then (λ (t : Transaction). t.joined) o)) (sym none) (kept.0.edited ∙ none_on none);
    });
    names =
        let one : names_in (N ∷ []) ≡ names_made N = omega arith in
        let now : names_on d ≡ names_edited (edited_on (branch_line b)) + names_in (b.own ++ N ∷ []) = ap (λ (x : Branch). names_on x) is.0 in
        let before : names_on b ≡ names_edited (edited_on (branch_line b)) + names_in b.own = refl in
        sum (names_on d) (names_on b) (names_edited (edited_on (branch_line b))) (names_in b.own) (names_in (b.own ++ N ∷ [])) (names_in (N ∷ [])) (names_made N) n n' one now before (names_append b.own (N ∷ [])) kept.1;
    refused = subst (λ x. AtRefusal x ((d ≡ b) × (ids' ≡ ids) × (g ≡ k) × (n' ≡ n))) (sym is.2) (no_refusal word rev ((d ≡ b) × (ids' ≡ ids) × (g ≡ k) × (n' ≡ n)));
  }
    where
      sum : (on_d on_b edited own more one made n n' : ℕ) → one ≡ made → on_d ≡ edited + more → on_b ≡ edited + own → more ≡ own + one → n' ≡ n + made → n' + on_b ≡ n + on_d
      sum on_d on_b edited own more one made n n' e f g h i = omega (arith, e, f, g, h, i)

  part_on : (d : Branch) (ids' : ℕ) (g : Head) (n' : ℕ) (a : Answer) (word : EditWord) (t : Transaction) (M : Intent) (o : Option Limit) → b.transaction ≡ Some t → ((J : Intent) → IsWithPart t.joined M J → names_made J ≡ names_edited t.joined + names_made M)
      → IsPartTaken word t M o b ids d ids' a → HasJoined k n M o (edited_on (branch_line d)) g n' → IsStepOn d ids' g n' a
  part_on d ids' g n' a word t M (Some over) open_at whole is kept = stays_on d ids' g n' a (OverLimit over) is.0.0 is.0.1 kept.0 kept.1 is.1
  part_on d ids' g n' a word t M None open_at whole is kept =
      let J = is.0 in
      let same : edited_on (branch_line d) ≡ Some J = ap (λ (x : Branch). edited_on (branch_line x)) is.2 in
      record {
        head = subst (λ x. IsHeadOf O log x g) (sym is.2) (record {
          base = w.base;
          stands = w.stands;
          own = subst (λ ks. AreCarried w.base b.own ks (document_of g.doc)) (sym kept.own) (subst (λ (x : Doc). AreCarried w.base b.own k.own (document_of x)) (sym kept.doc) w.own);
          edited = subst (HasOpen g) same kept.edited;
        });
        names =
            let now : names_on d ≡ names_made J + names_in b.own = ap (λ (x : Branch). names_on x) is.2 in
            sum (names_on d) (names_on b) (names_made J) (names_edited t.joined) (names_in b.own) (names_made M) n n' now (names_with b (Some t) open_at) (whole J is.1) kept.names;
        refused = subst (λ x. AtRefusal x ((d ≡ b) × (ids' ≡ ids) × (g ≡ k) × (n' ≡ n))) (sym is.4) (no_refusal word t.rev ((d ≡ b) × (ids' ≡ ids) × (g ≡ k) × (n' ≡ n)));
      }
    where
      sum : (on_d on_b whole before own made n n' : ℕ) → on_d ≡ whole + own → on_b ≡ before + own → whole ≡ before + made → n' ≡ n + made → n' + on_b ≡ n + on_d
      sum on_d on_b whole before own made n n' e f g h = omega (arith, e, f, g, h)

  -- each part that an edit may mean, joined to what is edited, makes all of their names
  abbrev pub MakeWhole : Result Intent EditFault → Type 0
  MakeWhole r = (t : Transaction) (M J : Intent) → b.transaction ≡ Some t → r ≡ Ok M → IsWithPart t.joined M J → names_made J ≡ names_edited t.joined + names_made M

  joined_on : (d : Branch) (ids' : ℕ) (g : Head) (n' : ℕ) (a : Answer) (word : EditWord) (rev : Rev) (r : Result Intent EditFault) (t : Transaction) → b.transaction ≡ Some t → MakeWhole r
      → IsTakenOf word rev r (Some t) n b ids d ids' a → HasTakenOf k n r b d g n' → IsStepOn d ids' g n' a
  joined_on d ids' g n' a word rev (Err f) t open_at whole is kept = stays_on d ids' g n' a (refusal_of f) is.0.0 is.0.1 kept.0 kept.1 is.1
  joined_on d ids' g n' a word rev (Ok M) t open_at whole is kept =
      part_on d ids' g n' a word t M (names_limit n M) open_at (λ J e. whole t M J open_at refl e) is (subst (λ (o : Option Transaction). HasTakenIn k n M o b d g n') open_at kept)

  pub edit_on : (d : Branch) (ids' : ℕ) (g : Head) (n' : ℕ) (a : Answer) (word : EditWord) (rev : Rev) (r : Result Intent EditFault) → MakeWhole r → IsTakenOf word rev r b.transaction n b ids d ids' a → HasTakenOf k n r b d g n' → IsStepOn d ids' g n' a
  edit_on d ids' g n' a word rev r whole is kept = go b.transaction refl is
    where
      by : (r : Result Intent EditFault) → b.transaction ≡ None → IsTakenOf word rev r None n b ids d ids' a → HasTakenOf k n r b d g n' → IsStepOn d ids' g n' a
      by (Err f) none is kept = stays_on d ids' g n' a (refusal_of f) is.0.0 is.0.1 kept.0 kept.1 is.1
      by (Ok N) none is kept = own_on d ids' g n' a word rev N (own_limit b n N) none is (subst (λ (o : Option Transaction). HasTakenIn k n N o b d g n') none kept)

      go : (o : Option Transaction) → b.transaction ≡ o → IsTakenOf word rev r o n b ids d ids' a → IsStepOn d ids' g n' a
      go None none is = by r none is kept
      go (Some t) open_at is = joined_on d ids' g n' a word rev r t open_at whole is kept

  pub need_on : (d : Branch) (ids' : ℕ) (g : Head) (n' : ℕ) (a : Answer) (rev : Rev) (r : Result Intent EditFault) → MakeWhole r → IsNeededOn rev r b.transaction n b ids d ids' a → HasNeededOn k n r b d g n' → IsStepOn d ids' g n' a
  need_on d ids' g n' a rev r whole is kept = go b.transaction refl is kept
    where
      go : (o : Option Transaction) → b.transaction ≡ o → IsNeededOn rev r o n b ids d ids' a → HasNeededIn k n r o b d g n' → IsStepOn d ids' g n' a
      go None none is kept = stays_on d ids' g n' a NotBegun is.0.0 is.0.1 kept.0 kept.1 is.1
      go (Some t) open_at is kept = joined_on d ids' g n' a EditWord.Need rev r t open_at whole is kept

  pub begin_on : (d : Branch) (ids' : ℕ) (a : Answer) (rev under : Rev) → HasBegunOn rev under b ids d ids' a → IsStepOn d ids' k n a
  begin_on d ids' a rev under is = go b.transaction refl is
    where
      by : (o : Option Limit) → b.transaction ≡ None → HasBegunBy rev under o b ids d ids' a → IsStepOn d ids' k n a
      by (Some over) none is = stays_on d ids' k n a (OverLimit over) is.0.0 is.0.1 refl refl is.1
      by None none is = record {
        head = subst (λ x. IsHeadOf O log x k) (sym is.0) (record { base = w.base; stands = w.stands; own = w.own; edited = none_on none });
        names =
            let now : names_on d ≡ 0 + names_in b.own = ap (λ (x : Branch). names_on x) is.0 in
            ap (λ m. n + m) (names_with b None none ∙ sym now);
        refused = subst (λ x. AtRefusal x ((d ≡ b) × (ids' ≡ ids) × (k ≡ k) × (n ≡ n))) (sym is.2) tt;
      }

      go : (o : Option Transaction) → b.transaction ≡ o → HasBegunIn rev under o b ids d ids' a → IsStepOn d ids' k n a
      go (Some t) open_at is = stays_on d ids' k n a Unfinished is.0.0 is.0.1 refl refl is.1
      go None none is = by (own_limit_passed b.number (branch_line b) 1) none is

  pub commit_on : (d : Branch) (ids' : ℕ) (g : Head) (n' : ℕ) (a : Answer) → ids' ≡ ids → n' ≡ n → IsCommittedOn b.transaction b d a → HasEndedOn b.transaction k g → IsStepOn d ids' g n' a
  commit_on d ids' g n' a same_ids same_names is kept = go b.transaction refl is kept
    where
      by : (t : Transaction) (o : Option Intent) → b.transaction ≡ Some t → t.joined ≡ o → IsCommittedOf t.rev o (record b { transaction = None }) d a → HasCommittedOn o k g → IsStepOn d ids' g n' a
      by t None open_at joined is kept = record {
        head = subst (λ x. IsHeadOf O log x g) (sym is.0) (subst (IsHeadOf O log (record b { transaction = None })) (sym kept) (record {
          base = w.base;
          stands = w.stands;
          own = w.own;
          edited = subst (HasOpen k) joined (subst (λ (o : Option Transaction). HasOpen k (option_and_then (λ (t : Transaction). t.joined) o)) open_at w.edited);
        }));
        names =
            let now : names_on d ≡ 0 + names_in b.own = ap (λ (x : Branch). names_on x) is.0 in
            let before : names_on b ≡ 0 + names_in b.own = names_with b (Some t) open_at ∙ ap (λ (o : Option Intent). names_edited o + names_in b.own) joined in
            ap (λ m. m + names_on b) same_names ∙ ap (λ m. n + m) (before ∙ sym now);
        refused = subst (λ x. AtRefusal x ((d ≡ b) × (ids' ≡ ids) × (g ≡ k) × (n' ≡ n))) (sym is.1) tt;
      }
      by t (Some J) open_at joined is kept = record {
        head = subst (λ x. IsHeadOf O log x g) (sym is.0) (record {
          base = w.base;
          stands = w.stands;
          own = subst (λ ks. AreCarried w.base (b.own ++ J ∷ []) ks (document_of g.doc)) (sym kept.own) (runs_joined w.own kept.run);
          edited = kept.edited;
        });
        names =
            let one : names_in (J ∷ []) ≡ names_made J = omega arith in
            let now : names_on d ≡ 0 + names_in (b.own ++ J ∷ []) = ap (λ (x : Branch). names_on x) is.0 in
            let before : names_on b ≡ names_made J + names_in b.own = names_with b (Some t) open_at ∙ ap (λ (o : Option Intent). names_edited o + names_in b.own) joined in
            sum (names_on d) (names_on b) (names_in b.own) (names_in (b.own ++ J ∷ [])) (names_in (J ∷ [])) (names_made J) n n' one now before (names_append b.own (J ∷ [])) same_names;
        refused = subst (λ x. AtRefusal x ((d ≡ b) × (ids' ≡ ids) × (g ≡ k) × (n' ≡ n))) (sym is.1) tt;
      }
        where
          sum : (on_d on_b own more one made n n' : ℕ) → one ≡ made → on_d ≡ 0 + more → on_b ≡ made + own → more ≡ own + one → n' ≡ n → n' + on_b ≡ n + on_d
          sum on_d on_b own more one made n n' e f g h i = omega (arith, e, f, g, h, i)

      go : (o : Option Transaction) → b.transaction ≡ o → IsCommittedOn o b d a → HasEndedOn o k g → IsStepOn d ids' g n' a
      go None none is kept = stays_on d ids' g n' a NotBegun is.0 same_ids kept same_names is.1
      go (Some t) open_at is kept = by t t.joined open_at refl is kept

  pub abort_on : (d : Branch) (ids' : ℕ) (g : Head) (n' : ℕ) (a : Answer) → ids' ≡ ids → names_on b ≤ n → IsAbortedOn b.transaction b d a → HasAbortedOn b.transaction n k n' g → IsStepOn d ids' g n' a
  abort_on d ids' g n' a same_ids counted is kept = go b.transaction refl is kept
    where
      sum : (on_d on_b own edited n n' : ℕ) → on_b ≤ n → on_d ≡ 0 + own → on_b ≡ edited + own → n' ≡ n - edited → n' + on_b ≡ n + on_d
      sum on_d on_b own edited n n' e f g h = omega (arith, e, f, g, h)

      go : (o : Option Transaction) → b.transaction ≡ o → IsAbortedOn o b d a → HasAbortedOn o n k n' g → IsStepOn d ids' g n' a
      go None none is kept = stays_on d ids' g n' a NotBegun is.0 same_ids kept.0 kept.1 is.1
      go (Some t) open_at is kept = record {
        head = subst (λ x. IsHeadOf O log x g) (sym is.0) (subst (IsHeadOf O log (record b { transaction = None })) (sym kept.0) (record { base = w.base; stands = w.stands; own = w.own; edited = refl }));
        names =
            let now : names_on d ≡ 0 + names_in b.own = ap (λ (x : Branch). names_on x) is.0 in
            sum (names_on d) (names_on b) (names_in b.own) (names_edited t.joined) n n' counted now (names_with b (Some t) open_at) kept.1;
        refused = subst (λ x. AtRefusal x ((d ≡ b) × (ids' ≡ ids) × (g ≡ k) × (n' ≡ n))) (sym is.1) tt;
      }
