-- What a refusal leaves: the client as it was, on each line.
use Rattle.std.proofs.Common.{Err, None, Ok, Option, Result, Some, ap, refl, subst, sym, ℕ, ◌+◌, ◌≡◌}
use Rattle.st_ids.specs.declared.names.Limit.{Limit}
use Rattle.st_ids.specs.declared.names.Rev.{Rev}
use Rattle.st_lists.specs.Clients.{new_transaction, next_rev, with_id}
use Rattle.st_lists.specs.Limits.{limit_passed, names_limit_passed, own_limit_passed}
use Rattle.st_lists.specs.Lines.{Line, with_commit_on, with_transaction_on}
use Rattle.st_script.specs.declared.answer.Answer.TheVariants.{Commit, Abort, Begin, No}
use Rattle.st_lists.specs.declared.lists.Client.{Client}
use Rattle.st_lists.specs.declared.lists.Transaction.{Transaction}
use Rattle.st_marks.specs.declared.intents.Intent.{Intent}
use Rattle.st_script.specs.declared.answer.Answer.{Answer}
use Rattle.st_script.specs.declared.refusal.Refusal.TheVariants.{Limit as OverLimit, NotBegun, Unfinished}
use Rattle.st_world.specs.World.{AtRefusal, IsAfterEdit, IsAfterNeed, IsEditedIn, IsJoined, abort, after_commit, after_edit, answer_of, begin, commit, refusal_of, with_beginning, with_new_on}
use Rattle.st_world.specs.declared.edit_word.EditWord.{EditWord}
use Rattle.st_tree.specs.declared.edit.EditFault.{EditFault}

pub no_refusal : (word : EditWord) (rev : Rev) (P : Type 0) → AtRefusal (answer_of word rev) P
no_refusal EditWord.Insert rev P = tt
no_refusal EditWord.Remove rev P = tt
no_refusal EditWord.Move rev P = tt
no_refusal EditWord.Set rev P = tt
no_refusal EditWord.Clear rev P = tt
no_refusal EditWord.Need rev P = tt

pub refusal_as : (a : Answer) (P Q : Type 0) → (P → Q) → AtRefusal a P → AtRefusal a Q
refusal_as Answer.Header P Q f p = tt
refusal_as (Answer.Join n s) P Q f p = tt
refusal_as (Answer.Insert rev) P Q f p = tt
refusal_as (Answer.Remove rev) P Q f p = tt
refusal_as (Answer.Move rev) P Q f p = tt
refusal_as (Answer.Set rev) P Q f p = tt
refusal_as (Answer.Clear rev) P Q f p = tt
refusal_as (Answer.Need rev) P Q f p = tt
refusal_as (Answer.Begin rev) P Q f p = tt
refusal_as (Answer.Commit rev) P Q f p = tt
refusal_as Answer.Abort P Q f p = tt
refusal_as (Answer.Fork branch) P Q f p = tt
refusal_as (Answer.Rebase void) P Q f p = tt
refusal_as (Answer.Merge void) P Q f p = tt
refusal_as Answer.DropBranch P Q f p = tt
refusal_as (Answer.Undo rev) P Q f p = tt
refusal_as (Answer.Upgrade rev) P Q f p = tt
refusal_as (Answer.Sequence min n) P Q f p = tt
refusal_as (Answer.Ack reference) P Q f p = tt
refusal_as (Answer.Deliver n void) P Q f p = tt
refusal_as (Answer.Leave n) P Q f p = tt
refusal_as (Answer.Drop n) P Q f p = tt
refusal_as (Answer.Reconnect n sent) P Q f p = tt
refusal_as (Answer.Show tree) P Q f p = tt
refusal_as (Answer.Pending texts void) P Q f p = tt
refusal_as (Answer.No why) P Q f p = f p

-- what stays where a limit is passed
abbrev pub StaysOver : Option Limit → Type 0 → Type 0
StaysOver None K = Unit {0}
StaysOver (Some l) K = K

-- and where an edit of an open transaction is refused
abbrev pub StaysIn : Client → Result Intent EditFault → Type 0 → Type 0
StaysIn c (Err f) K = K
StaysIn c (Ok N) K = StaysOver (names_limit_passed c N) K

-- and where an edit on a line is
abbrev pub StaysOn : Client → ℕ → Line → Result Intent EditFault → Type 0 → Type 0
StaysOn c k l (Err f) K = K
StaysOn c k l (Ok N) K = StaysOver (limit_passed c k l N) K

abbrev pub StaysEdited : Client → ℕ → Line → Option Transaction → Result Intent EditFault → Type 0 → Type 0
StaysEdited c k l None r K = StaysOn c k l r K
StaysEdited c k l (Some t) r K = StaysIn c r K

abbrev pub StaysNeeded : Client → Option Transaction → Result Intent EditFault → Type 0 → Type 0
StaysNeeded c None r K = K
StaysNeeded c (Some t) r K = StaysIn c r K

-- a refusal leaves the client, and what stays of that which is kept of it
module _ (c c' : Client) (K : Type 0) where
  abbrev pub Left : Answer → Type 0
  Left a = AtRefusal a ((c' ≡ c) × K)

  pub at_answer : (a b : Answer) → a ≡ b → Left b → Left a
  at_answer a b same p = subst Left (sym same) p

  pub same_pair : (d : Client) (a b : Answer) → ◌≡◌ {A = Client × Answer} (d, b) (c', a) → Left b → Left a
  same_pair d a b e p = at_answer a b (ap (λ (q : Client × Answer). q.1) (sym e)) p

  first_same : (b a : Answer) → ◌≡◌ {A = Client × Answer} (c, b) (c', a) → c' ≡ c
  first_same b a e = ap (λ (q : Client × Answer). q.0) (sym e)

  taken_refused : (k : ℕ) (l : Line) (word : EditWord) (r : Result Intent EditFault) (a : Answer) → after_edit c k l word r ≡ (c', a) → StaysOn c k l r K → Left a
  taken_refused k l word (Err f) a is kept = same_pair c a (No (refusal_of f)) is (first_same (No (refusal_of f)) a is, kept)
  taken_refused k l word (Ok N) a is kept = go (limit_passed c k l N) is kept
    where
      go : (o : Option Limit) → with_new_on c k word N o ≡ (c', a) → StaysOver o K → Left a
      go (Some over) is kept = same_pair c a (No (OverLimit over)) is (first_same (No (OverLimit over)) a is, kept)
      go None is kept = same_pair (with_commit_on (with_id c) k N) a (answer_of word (next_rev c)) is (no_refusal word (next_rev c) ((c' ≡ c) × K))

  joined_refused : (k : ℕ) (t : Transaction) (word : EditWord) (r : Result Intent EditFault) (a : Answer) → IsEditedIn c k t word r c' a → StaysIn c r K → Left a
  joined_refused k t word (Err f) a is kept = at_answer a (No (refusal_of f)) is.1 (is.0, kept)
  joined_refused k t word (Ok M) a is kept = go (names_limit_passed c M) is kept
    where
      go : (o : Option Limit) → IsJoined c k t word M o c' a → StaysOver o K → Left a
      go (Some over) is kept = at_answer a (No (OverLimit over)) is.1 (is.0, kept)
      go None is kept = at_answer a (answer_of word t.rev) is.3 (no_refusal word t.rev ((c' ≡ c) × K))

  pub line_edit_refused : (k : ℕ) (l : Line) (o : Option Transaction) (word : EditWord) (r : Result Intent EditFault) (a : Answer) → IsAfterEdit c k l o word r c' a → StaysEdited c k l o r K → Left a
  line_edit_refused k l None word r a is kept = taken_refused k l word r a is kept
  line_edit_refused k l (Some t) word r a is kept = joined_refused k t word r a is kept

  pub line_need_refused : (k : ℕ) (o : Option Transaction) (r : Result Intent EditFault) (a : Answer) → IsAfterNeed c k o r c' a → StaysNeeded c o r K → Left a
  line_need_refused k None r a is kept = at_answer a (No NotBegun) is.1 (is.0, kept)
  line_need_refused k (Some t) r a is kept = joined_refused k t EditWord.Need r a is kept

  pub line_begin_refused : (k : ℕ) (l : Line) (o : Option Transaction) (under : Rev) (a : Answer) → begin c k l o under ≡ (c', a) → K → Left a
  line_begin_refused k l (Some t) under a is kept = same_pair c a (No Unfinished) is (first_same (No Unfinished) a is, kept)
  line_begin_refused k l None under a is kept = go (own_limit_passed k l 1) is
    where
      go : (o : Option Limit) → with_beginning c k under o ≡ (c', a) → Left a
      go (Some over) is = same_pair c a (No (OverLimit over)) is (first_same (No (OverLimit over)) a is, kept)
      go None is = same_pair (record (with_transaction_on c k (Some (new_transaction (next_rev c) under))) { ids = c.ids + 1 }) a (Begin (next_rev c)) is tt

  pub line_commit_refused : (k : ℕ) (o : Option Transaction) (a : Answer) → commit c k o ≡ (c', a) → (o ≡ None → K) → Left a
  line_commit_refused k None a is kept = same_pair c a (No NotBegun) is (first_same (No NotBegun) a is, kept refl)
  line_commit_refused k (Some t) a is kept = go t.joined is
    where
      go : (o : Option Intent) → after_commit (with_transaction_on c k None) k t.rev o ≡ (c', a) → Left a
      go None is = same_pair (with_transaction_on c k None) a (Commit None) is tt
      go (Some J) is = same_pair (with_commit_on (with_transaction_on c k None) k J) a (Commit (Some t.rev)) is tt

  pub line_abort_refused : (k : ℕ) (o : Option Transaction) (a : Answer) → abort c k o ≡ (c', a) → (o ≡ None → K) → Left a
  line_abort_refused k None a is kept = same_pair c a (No NotBegun) is (first_same (No NotBegun) a is, kept refl)
  line_abort_refused k (Some t) a is kept = same_pair (with_transaction_on c k None) a Abort is tt
