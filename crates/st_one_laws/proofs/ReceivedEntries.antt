-- A client's acts, but for the receiving of the next entry, go by the entries that it received alone.
use Rattle.std.proofs.Common.{◌≡◌, ◌≢◌, ◌↔◌, ◌≤◌, ◌-◌, ◌==◌, ℕ, nat_le, false, not, List, ◌++◌, length, take, Option, Some, None, refl, sym, ap, subst, arith, cond, option_map}
use Rattle.std.specs.List.{find, list_any}
use Rattle.std.specs.Option.{option_map_or}
use Rattle.std.proofs.lemmas.List.{take-take}
use Rattle.st_edits.specs.ArrayTypes.{is_array_type}
use Rattle.st_edits.specs.Resolve.{need}
use Rattle.st_ids.specs.declared.names.Rev.{Rev}
use Rattle.st_marks.specs.Document.{Document}
use Rattle.st_marks.specs.LiveTree.{IsTreeText}
use Rattle.st_marks.specs.Run.{Run}
use Rattle.st_lists.specs.Open.{with_open}
use Rattle.st_edits.specs.InEffect.{schema_in_effect}
use Rattle.st_script.specs.Steps.{ActView}
use Rattle.st_script.specs.Steps as step
use Rattle.st_script.specs.declared.answer.Answer.{Answer}
use Rattle.st_script.specs.declared.answer.Answer.TheVariants as answer
use Rattle.st_script.specs.declared.refusal.Refusal.TheVariants as no
use Rattle.st_world.specs.Texts.{AreTextsOf}
use Rattle.st_lists.specs.Clients.{next_rev}
use Rattle.st_lists.specs.Lines.{HasHead, Line, branch_of, commits_of, edited_on, line_of, main_line, with_base, with_commits_on, without_branch}
use Rattle.st_lists.specs.Log.{commits_in, minimum}
use Rattle.st_lists.specs.declared.lists.Branch.{Branch}
use Rattle.st_lists.specs.declared.lists.Client.{Client}
use Rattle.st_lists.specs.declared.lists.Entry.{Entry}
use Rattle.st_lists.specs.declared.lists.Transaction.{Transaction}
use Rattle.st_lists.specs.Voids.{AreVoid}
use Rattle.st_world.specs.Branches.{IsMerged, IsRebased, refusal_to_merge, refusal_to_rebase}
use Rattle.st_world.specs.Kept.{Unless}
use Rattle.st_world.specs.Undo.{IsAfterUndo, IsUndoneAt, has_commit, has_rev, refusal_of_rev}
use Rattle.st_world.specs.Upgrade.{change_of_schema, refusal_to_upgrade, upgrade}
use Rattle.st_world.specs.World.{HasShown, IsAfterEdit, IsAfterNeed, begin, intent_of, next_names, word_of}
use Rattle.st_edits.specs.InEffect.{last_in_effect}
use Rattle.st_one_laws.specs.ClientActs.{IsClientAct, IsDoneOn, StandsOnReceived, WithBranch, WithParent}

module _ (O : Document) (history : ℕ) (log : List Entry) (c : Client) (within : StandsOnReceived c) (d : Client) (a : Answer) where
  abbrev seen : List Entry
  seen = take c.received log

  entries : (n : ℕ) → n ≤ c.received → take n log ≡ take n seen
  entries n few = sym (take-take n c.received log few)

  own : take c.received log ≡ take c.received seen
  own = entries c.received (omega arith)

  commits : (l : Line) → l.received ≤ c.received → commits_of log l ≡ commits_of seen l
  commits l few = ap (λ es. commits_in es ++ (l.base ++ l.own)) (entries l.received few)

  shown : (l : Line) → l.received ≤ c.received → (E : Document) → HasShown O log l E ≡ HasShown O seen l E
  shown l few E = λ i. (D : Document) × Run O (commits l few i) D × (E ≡ with_open D (edited_on l))

  done_on : (l : Line) (does : Document → Client → Answer → Type 0) → l.received ≤ c.received → IsDoneOn O log l does d a ≡ IsDoneOn O seen l does d a
  done_on l does few = λ i. (D : Document) × shown l few D i × does D d a

  refusal : (rev : Rev) → refusal_of_rev history log c (commits_of log (main_line c)) rev ≡ refusal_of_rev history seen c (commits_of seen (main_line c)) rev
  refusal rev = λ i.
      cond (not (list_any (has_rev rev) (commits (main_line c) (omega arith) i))) (Some no.NoCommit) (cond (not (rev.session == c.session)) (Some no.NotOwn)
      (cond (option_map_or (λ n. nat_le n (minimum (own i) - history)) (option_map (λ (e : Entry). e.n) (find (has_commit rev) (own i))) false) (Some (no.Gone (minimum (own i) - history))) None))

  undone : (t : Option Transaction) (rev : Rev) → IsAfterUndo O history log c t rev d a ≡ IsAfterUndo O history seen c t rev d a
  undone (Some t) rev = refl
  undone None rev = λ i. Unless (refusal rev i) c d a (IsUndoneAt O (commits (main_line c) (omega arith) i) rev c d a)

  on_parent : (does did : Line → Type 0) (o : Option Line) → ((m : Line) → o ≡ Some m → does m ≡ did m) → WithParent c does o d a ≡ WithParent c did o d a
  on_parent does did None f = refl
  on_parent does did (Some m) f = f m refl

  on_branch : (does did : Branch → Line → Type 0) (o : Option Branch) → ((b : Branch) (m : Line) → m.received ≤ c.received → does b m ≡ did b m) → WithBranch c does o d a ≡ WithBranch c did o d a
  on_branch does did None f = refl
  on_branch does did (Some b) f = on_parent (does b) (did b) (line_of c b.parent) (λ m e. f b m (within b.parent m e))

  head : (m : Line) → m.received ≤ c.received → (D : Document) → HasHead O log m D ≡ HasHead O seen m D
  head m few D = ap (λ Ns. Run O Ns D) (commits m few)

  rebased : (k : ℕ) (b : Branch) (m : Line) → m.received ≤ c.received → IsRebased O log c k b m d a ≡ IsRebased O seen c k b m d a
  rebased k b m few = λ i. (D : Document) × (void : List Rev) × head m few D i × AreVoid D b.own void × (d ≡ with_base c k m) × (a ≡ answer.Rebase void)

  merged : (k : ℕ) (b : Branch) (m : Line) → m.received ≤ c.received → IsMerged O log c k b m d a ≡ IsMerged O seen c k b m d a
  merged k b m few = λ i. (D : Document) × (void : List Rev) × head m few D i × AreVoid D b.own void × (d ≡ with_commits_on (without_branch c k) b.parent b.own) × (a ≡ answer.Merge void)

  act : (x : ActView) (k : ℕ) (l : Line) → x ≢ step.deliver → l.received ≤ c.received → IsClientAct O history log x c k l d a ≡ IsClientAct O history seen x c k l d a
  act (step.join uuid) k l never few = refl
  act (step.edit e) k l never few = done_on l (λ D. IsAfterEdit c k l l.transaction (word_of e) (intent_of D (schema_in_effect D) (next_names c l.transaction) e)) few
  act (step.need path) k l never few = done_on l (λ D. IsAfterNeed c k l.transaction (need D (next_names c l.transaction) path)) few
  act step.begin k l never few = done_on l (λ D e b. begin c k l l.transaction (last_in_effect D) ≡ (e, b)) few
  act step.commit k l never few = refl
  act step.abort k l never few = refl
  act (step.undo rev) k l never few = undone c.transaction rev
  act (step.upgrade new) k l never few =
      done_on (main_line c) (λ D e b. upgrade c (change_of_schema (next_rev c) (last_in_effect D) new) (refusal_to_upgrade c (schema_in_effect D) (length D.schemas) new) ≡ (e, b)) (omega arith)
  act step.sequence k l never few = refl
  act step.ack k l never few = refl
  act step.deliver k l never few = absurd (never refl)
  act step.leave k l never few = refl
  act step.drop_client k l never few = refl
  act step.reconnect k l never few = refl
  act step.fork k l never few = refl
  act step.rebase k l never few = on_branch (λ b m. Unless (refusal_to_rebase b) c d a (IsRebased O log c k b m d a)) (λ b m. Unless (refusal_to_rebase b) c d a (IsRebased O seen c k b m d a)) (branch_of c k)
      (λ b m less. ap (Unless (refusal_to_rebase b) c d a) (rebased k b m less))
  act step.merge k l never few = on_branch (λ b m. Unless (refusal_to_merge c k b m) c d a (IsMerged O log c k b m d a)) (λ b m. Unless (refusal_to_merge c k b m) c d a (IsMerged O seen c k b m d a)) (branch_of c k)
      (λ b m less. ap (Unless (refusal_to_merge c k b m) c d a) (merged k b m less))
  act step.drop_branch k l never few = refl
  act step.show k l never few = λ i. (d ≡ c) × ((D : Document) × (tree : List ℕ) × shown l few D i × IsTreeText (is_array_type (schema_in_effect D)) D tree × (a ≡ answer.Show tree))
  act step.pending k l never few = λ i. (d ≡ c) × ((D : Document) × (texts : List (List ℕ)) × (void : List Rev) × Run O (commits_in (own i)) D × AreTextsOf D c.pending texts × AreVoid D c.pending void × (a ≡ answer.Pending texts void))

  pub reads_received : (x : ActView) (k : ℕ) (l : Line) → x ≢ step.deliver → line_of c k ≡ Some l → IsClientAct O history log x c k l d a ↔ IsClientAct O history seen x c k l d a
  reads_received x k l never is =
      let same = act x k l never (within k l is) in
      (λ p. subst (λ (X : Type 0). X) same p, λ p. subst (λ (X : Type 0). X) (sym same) p)
