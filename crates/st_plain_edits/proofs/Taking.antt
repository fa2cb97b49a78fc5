-- What an edit means, or its refusal, is taken in.
use Rattle.std.proofs.Common.{Err, None, Ok, Option, Result, Some, ap, false, refl, subst, sym, true, ℕ, ◌+◌, ◌∙◌, ◌≡◌}
use Rattle.std.specs.Prelude.{is_some}
use Rattle.st_lists.specs.Clients.{new_transaction, next_rev, without_transaction}
use Rattle.st_lists.specs.Limits.{own_limit_passed}
use Rattle.st_lists.specs.Lines.{Line, with_transaction_on}
use Rattle.st_ids.specs.declared.names.Limit.{Limit}
use Rattle.st_ids.specs.declared.names.Rev.{Rev}
use Rattle.st_tree.specs.declared.edit.EditFault.{EditFault}
use Rattle.st_marks.specs.declared.intents.Intent.{Intent}
use Rattle.st_script.specs.declared.answer.Answer.{Answer}
use Rattle.st_script.specs.declared.answer.Answer.TheVariants.{Abort, Begin, No}
use Rattle.st_script.specs.declared.refusal.Refusal.TheVariants.{Limit as OverLimit, NotBegun, Unfinished}
use Rattle.st_world.specs.declared.edit_word.EditWord.{EditWord}
use Rattle.st_heads.specs.declared.replica.Replica.{Replica}
use Rattle.st_plain_edits.specs.Taking.{HasTaken, HasTakenIn, HasTakenNeed, IsTakenIn}
use Rattle.st_world.specs.World.{IsAfterEdit, IsAfterNeed, abort, begin, commit, after_commit, refusal_of, with_beginning}
use Rattle.st_lists.specs.declared.lists.Client.{Client}
use Rattle.st_lists.specs.declared.lists.Transaction.{Transaction}

module _ (c : Client) (k : ℕ) (l : Line) (o : Option Transaction) (word : EditWord) (r : Result Intent EditFault) where
  pub edit_taken : (d : Client) (N : Intent) (a : Answer) → r ≡ Ok N → IsTakenIn c k l o word N d a → IsAfterEdit c k l o word r d a
  edit_taken d N a e is = subst (λ x. IsAfterEdit c k l o word x d a) (sym e) (go o is)
    where
      go : (o : Option Transaction) → IsTakenIn c k l o word N d a → IsAfterEdit c k l o word (Ok N) d a
      go None is = is
      go (Some t) is = is

  pub edit_stopped : (f : EditFault) → r ≡ Err f → IsAfterEdit c k l o word r c (No (refusal_of f))
  edit_stopped f e = subst (λ x. IsAfterEdit c k l o word x c (No (refusal_of f))) (sym e) (go o)
    where
      go : (o : Option Transaction) → IsAfterEdit c k l o word (Err f) c (No (refusal_of f))
      go None = refl
      go (Some t) = (refl, refl)

-- what is kept of a client
module _ (c : Client) (o : Option Transaction) (r : Result Intent EditFault) where
  pub kept_of_taken : (d : Client) (k k' : Replica) (N : Intent) → r ≡ Ok N → HasTakenIn c o k N d k' → HasTaken c o k r d k'
  kept_of_taken d k k' N e is = subst (λ x. HasTaken c o k x d k') (sym e) is

  pub kept_of_stopped : (d : Client) (k : Replica) (f : EditFault) → r ≡ Err f → HasTaken c o k r d k
  kept_of_stopped d k f e = subst (λ x. HasTaken c o k x d k) (sym e) refl

-- a need, where a transaction is open
pub need_taken : (c d : Client) (k : ℕ) (l : Line) (o : Option Transaction) (t : Transaction) (r : Result Intent EditFault) (a : Answer) → o ≡ Some t → IsAfterEdit c k l o EditWord.Need r d a → IsAfterNeed c k o r d a
need_taken c d k l o t r a is done = subst (λ x. IsAfterNeed c k x r d a) (sym is) (subst (λ x. IsAfterEdit c k l x EditWord.Need r d a) is done)

pub need_kept : (c d : Client) (o : Option Transaction) (t : Transaction) (k k' : Replica) (r : Result Intent EditFault) → o ≡ Some t → HasTaken c o k r d k' → HasTakenNeed c o k r d k'
need_kept c d o t k k' r is done = subst (λ x. HasTakenNeed c x k r d k') (sym is) (subst (λ x. HasTaken c x k r d k') is done)

-- ## Whether a transaction is open

pub none_of : (o : Option Transaction) → is_some o ≡ false → o ≡ None
none_of None e = refl
none_of (Some t) e = cc

pub some_of : (o : Option Transaction) → is_some o ≡ true → (t : Transaction) × (o ≡ Some t)
some_of None e = cc
some_of (Some t) e = (t, refl)

pub begin_open : (c : Client) (k : ℕ) (l : Line) (o : Option Transaction) (under : Rev) → is_some o ≡ true → begin c k l o under ≡ (c, No Unfinished)
begin_open c k l None under e = cc
begin_open c k l (Some t) under e = refl

pub begin_over : (c : Client) (k : ℕ) (l : Line) (o : Option Transaction) (under : Rev) (over : Limit) → is_some o ≡ false → own_limit_passed k l 1 ≡ Some over → begin c k l o under ≡ (c, No (OverLimit over))
begin_over c k l None under over e is = ap (with_beginning c k under) is
begin_over c k l (Some t) under over e is = cc

pub begin_made : (c : Client) (k : ℕ) (l : Line) (o : Option Transaction) (under : Rev) → is_some o ≡ false → own_limit_passed k l 1 ≡ None
    → begin c k l o under ≡ (record (with_transaction_on c k (Some (new_transaction (next_rev c) under))) { ids = c.ids + 1 }, Begin (next_rev c))
begin_made c k l None under e few = ap (with_beginning c k under) few
begin_made c k l (Some t) under e few = cc

pub commit_none : (c : Client) → c.transaction ≡ None → commit c 0 c.transaction ≡ (without_transaction c, No NotBegun)
commit_none c none = ap (commit c 0) none ∙ ap (λ (o : Option Transaction). (record c { transaction = o }, No NotBegun)) none

pub commit_some : (c d : Client) (t : Transaction) (a : Answer) → c.transaction ≡ Some t → after_commit (without_transaction c) 0 t.rev t.joined ≡ (d, a) → commit c 0 c.transaction ≡ (d, a)
commit_some c d t a is done = ap (commit c 0) is ∙ done

pub abort_none : (c : Client) → c.transaction ≡ None → abort c 0 c.transaction ≡ (without_transaction c, No NotBegun)
abort_none c none = ap (abort c 0) none ∙ ap (λ (o : Option Transaction). (record c { transaction = o }, No NotBegun)) none

pub abort_some : (c : Client) (t : Transaction) → c.transaction ≡ Some t → abort c 0 c.transaction ≡ (without_transaction c, Abort)
abort_some c t is = ap (abort c 0) is

pub need_none : (c : Client) (k : ℕ) (o : Option Transaction) (r : Result Intent EditFault) → is_some o ≡ false → IsAfterNeed c k o r c (No NotBegun)
need_none c k None r e = (refl, refl)
need_none c k (Some t) r e = cc
