-- Words of the functions that edit on a branch beside the main one: the branch and the count of ids after them, and its head
-- and the count of names.
use Rattle.std.specs.Prelude.{◌≡◌, ℕ, ◌+◌, ◌-◌, [], ◌∷◌, ◌++◌, ◌≤◌, length, slice_set, Option, Some, None, Result, Ok, Err}
use Rattle.std.specs.Option.{option_map_or, option_or}
use Rattle.st_ids.specs.declared.names.Limit.{Limit}
use Rattle.st_ids.specs.declared.names.Rev.{Rev}
use Rattle.st_tree.specs.declared.edit.EditFault.{EditFault}
use Rattle.st_marks.specs.declared.intents.Intent.{Intent}
use Rattle.st_marks.specs.Document.{Document, IsSoundInForm}
use Rattle.st_doc.specs.Doc.{document_of}
use Rattle.st_heads.specs.declared.heads.Head.{Head}
use Rattle.st_heads.specs.Heads as head
use Rattle.st_heads.specs.Transactions.{HasOpen}
use Rattle.st_lists.specs.Open.{IsWithPart, with_open}
use Rattle.st_script.specs.declared.answer.Answer.{Answer}
use Rattle.st_script.specs.declared.answer.Answer.TheVariants as answer
use Rattle.st_script.specs.declared.refusal.Refusal.TheVariants as no
use Rattle.st_lists.specs.Clients.{new_transaction, next_rev, with_edited}
use Rattle.st_lists.specs.Limits.{own_limit_passed}
use Rattle.st_lists.specs.Lines.{branch_line, edited_on}
use Rattle.st_lists.specs.Names.{names_made}
use Rattle.st_lists.specs.declared.lists.Branch.{Branch}
use Rattle.st_lists.specs.declared.lists.Transaction.{Transaction}
use Rattle.st_world.specs.World.{answer_of, cells_given, next_names, refusal_of}
use Rattle.st_edits.specs.InEffect.{last_in_effect}
use Rattle.st_world.specs.declared.edit_word.EditWord.{EditWord}
use Rattle.st_world.specs.declared.edit_word.EditWord.TheVariants as word
use Rattle.st_lists.specs.Limits.{names_limit}
use Rattle.st_plain_edits.specs.Taking.{HasJoined, HasNumbersLeft}
use Rattle.st_lists.specs.declared.lists.Client.{Client}
use Rattle.st_heads.specs.declared.replica.Replica.{Replica}

-- the limit that one more commit of its own would pass, beside so many names that wait
abbrev pub own_limit : Branch → ℕ → Intent → Option Limit
own_limit b names N = option_or (own_limit_passed b.number (branch_line b) 1) (names_limit names N)

-- ## A branch, and the count of ids

-- nothing changes
abbrev pub IsSame : Branch → ℕ → Branch → ℕ → Type 0
IsSame b ids b' ids' = (b' ≡ b) × (ids' ≡ ids)

-- a commit of its own, if it passes no limit
abbrev pub IsOwnTaken : EditWord → Rev → Intent → Option Limit → Branch → ℕ → Branch → ℕ → Answer → Type 0
IsOwnTaken word next N None b ids b' ids' a = (b' ≡ record b { own = b.own ++ N ∷ [] }) × (ids' ≡ ids + 1) × (a ≡ answer_of word next)
IsOwnTaken word next N (Some o) b ids b' ids' a = IsSame b ids b' ids' × (a ≡ answer.No (no.Limit o))

-- a part of what is edited, if it passes no limit
abbrev pub IsPartTaken : EditWord → Transaction → Intent → Option Limit → Branch → ℕ → Branch → ℕ → Answer → Type 0
IsPartTaken word t M None b ids b' ids' a = (J : Intent) × IsWithPart t.joined M J
    × (b' ≡ record b { transaction = Some (with_edited t J (length M.new) (cells_given word M)) }) × (ids' ≡ ids) × (a ≡ answer_of word t.rev)
IsPartTaken word t M (Some o) b ids b' ids' a = IsSame b ids b' ids' × (a ≡ answer.No (no.Limit o))

abbrev pub IsTakenOn : EditWord → Rev → Intent → Option Transaction → ℕ → Branch → ℕ → Branch → ℕ → Answer → Type 0
IsTakenOn word next N None names b ids b' ids' a = IsOwnTaken word next N (own_limit b names N) b ids b' ids' a
IsTakenOn word next N (Some t) names b ids b' ids' a = IsPartTaken word t N (names_limit names N) b ids b' ids' a

abbrev pub IsTakenOf : EditWord → Rev → Result Intent EditFault → Option Transaction → ℕ → Branch → ℕ → Branch → ℕ → Answer → Type 0
IsTakenOf word next (Err f) o names b ids b' ids' a = IsSame b ids b' ids' × (a ≡ answer.No (refusal_of f))
IsTakenOf word next (Ok N) o names b ids b' ids' a = IsTakenOn word next N o names b ids b' ids' a

abbrev pub IsNeededOn : Rev → Result Intent EditFault → Option Transaction → ℕ → Branch → ℕ → Branch → ℕ → Answer → Type 0
IsNeededOn next meant None names b ids b' ids' a = IsSame b ids b' ids' × (a ≡ answer.No no.NotBegun)
IsNeededOn next meant (Some t) names b ids b' ids' a = IsTakenOf word.Need next meant (Some t) names b ids b' ids' a

-- a transaction begins, if it passes no limit
abbrev pub HasBegunBy : Rev → Rev → Option Limit → Branch → ℕ → Branch → ℕ → Answer → Type 0
HasBegunBy next under None b ids b' ids' a = (b' ≡ record b { transaction = Some (new_transaction next under) }) × (ids' ≡ ids + 1) × (a ≡ answer.Begin next)
HasBegunBy next under (Some o) b ids b' ids' a = IsSame b ids b' ids' × (a ≡ answer.No (no.Limit o))

abbrev pub HasBegunIn : Rev → Rev → Option Transaction → Branch → ℕ → Branch → ℕ → Answer → Type 0
HasBegunIn next under None b ids b' ids' a = HasBegunBy next under (own_limit_passed b.number (branch_line b) 1) b ids b' ids' a
HasBegunIn next under (Some t) b ids b' ids' a = IsSame b ids b' ids' × (a ≡ answer.No no.Unfinished)

abbrev pub HasBegunOn : Rev → Rev → Branch → ℕ → Branch → ℕ → Answer → Type 0
HasBegunOn next under b ids b' ids' a = HasBegunIn next under b.transaction b ids b' ids' a

-- what was edited, if anything was, is a commit of its own
abbrev pub IsCommittedOf : Rev → Option Intent → Branch → Branch → Answer → Type 0
IsCommittedOf rev None b b' a = (b' ≡ b) × (a ≡ answer.Commit None)
IsCommittedOf rev (Some J) b b' a = (b' ≡ record b { own = b.own ++ J ∷ [] }) × (a ≡ answer.Commit (Some rev))

abbrev pub IsCommittedOn : Option Transaction → Branch → Branch → Answer → Type 0
IsCommittedOn None b b' a = (b' ≡ b) × (a ≡ answer.No no.NotBegun)
IsCommittedOn (Some t) b b' a = IsCommittedOf t.rev t.joined (record b { transaction = None }) b' a

abbrev pub IsAbortedOn : Option Transaction → Branch → Branch → Answer → Type 0
IsAbortedOn None b b' a = (b' ≡ b) × (a ≡ answer.No no.NotBegun)
IsAbortedOn (Some t) b b' a = (b' ≡ record b { transaction = None }) × (a ≡ answer.Abort)

-- ## Its head, and the count of names

abbrev pub HasOwnTaken : Head → ℕ → Intent → Option Limit → Head → ℕ → Type 0
HasOwnTaken h n N None h' n' = head.HasCarried h (N ∷ []) h' × (n' ≡ n + names_made N)
HasOwnTaken h n N (Some o) h' n' = (h' ≡ h) × (n' ≡ n)

abbrev pub HasTakenIn : Head → ℕ → Intent → Option Transaction → Branch → Branch → Head → ℕ → Type 0
HasTakenIn h n N None b b' h' n' = HasOwnTaken h n N (own_limit b n N) h' n'
HasTakenIn h n N (Some t) b b' h' n' = HasJoined h n N (names_limit n N) (edited_on (branch_line b')) h' n'

abbrev pub HasTakenOn : Head → ℕ → Intent → Branch → Branch → Head → ℕ → Type 0
HasTakenOn h n N b b' h' n' = HasTakenIn h n N b.transaction b b' h' n'

abbrev pub HasTakenOf : Head → ℕ → Result Intent EditFault → Branch → Branch → Head → ℕ → Type 0
HasTakenOf h n (Err f) b b' h' n' = (h' ≡ h) × (n' ≡ n)
HasTakenOf h n (Ok N) b b' h' n' = HasTakenOn h n N b b' h' n'

abbrev pub HasNeededIn : Head → ℕ → Result Intent EditFault → Option Transaction → Branch → Branch → Head → ℕ → Type 0
HasNeededIn h n meant None b b' h' n' = (h' ≡ h) × (n' ≡ n)
HasNeededIn h n meant (Some t) b b' h' n' = HasTakenOf h n meant b b' h' n'

abbrev pub HasNeededOn : Head → ℕ → Result Intent EditFault → Branch → Branch → Head → ℕ → Type 0
HasNeededOn h n meant b b' h' n' = HasNeededIn h n meant b.transaction b b' h' n'

abbrev pub HasCommittedOn : Option Intent → Head → Head → Type 0
HasCommittedOn None h h' = h' ≡ h
HasCommittedOn (Some J) h h' = head.HasCarried (record h { edited = None }) (J ∷ []) h'

abbrev pub HasEndedOn : Option Transaction → Head → Head → Type 0
HasEndedOn None h h' = h' ≡ h
HasEndedOn (Some t) h h' = HasCommittedOn t.joined h h'

abbrev pub HasAbortedOn : Option Transaction → ℕ → Head → ℕ → Head → Type 0
HasAbortedOn None n h n' h' = (h' ≡ h) × (n' ≡ n)
HasAbortedOn (Some t) n h n' h' = (h' ≡ record h { edited = None }) × (n' ≡ n - option_map_or names_made t.joined 0)

-- ## A client's branch at a place

-- the document that a branch shows, by its head
abbrev pub shown_on : Branch → Head → Document
shown_on b k = with_open (document_of k.doc) (edited_on (branch_line b))

-- what an edit on a branch asks of it and of its head
pub record CanEditOn (c : Client) (b : Branch) (k : Head) : Type 0 where
  pub few : length b.own ≤ 256
  pub sound : IsSoundInForm (document_of k.doc)
  pub edited : HasOpen k (edited_on (branch_line b))
  pub left : HasNumbersLeft b.transaction

-- the client, and what is kept of it, differ after a step on the branch at a place by that branch, its head and counts alone
abbrev pub IsChangedAt : Client → Replica → ℕ → Branch → Head → Client → Replica → Type 0
IsChangedAt c old j branch head d new = (d ≡ record c { ids = d.ids; branches = slice_set c.branches j branch })
    × (new ≡ record old { branches = slice_set old.branches j head; names = new.names })

-- after an edit, by what it means
abbrev pub HasEditedAt : Client → Replica → ℕ → Branch → Head → EditWord → Result Intent EditFault → Client → Replica → Answer → Type 0
HasEditedAt c old j b k word meant d new a = (branch : Branch) × (head : Head) × IsChangedAt c old j branch head d new
    × IsTakenOf word (next_names c b.transaction).rev meant b.transaction old.names b c.ids branch d.ids a × HasTakenOf k old.names meant b branch head new.names

-- after a need
abbrev pub HasNeededAt : Client → Replica → ℕ → Branch → Head → Result Intent EditFault → Client → Replica → Answer → Type 0
HasNeededAt c old j b k meant d new a = (branch : Branch) × (head : Head) × IsChangedAt c old j branch head d new
    × IsNeededOn (next_names c b.transaction).rev meant b.transaction old.names b c.ids branch d.ids a × HasNeededOn k old.names meant b branch head new.names

-- after a transaction began, under the schema that is last in effect in the document of the branch
abbrev pub HasBegunAt : Client → ℕ → Branch → Head → Client → Answer → Type 0
HasBegunAt c j b k d a = (branch : Branch) × (d ≡ record c { ids = d.ids; branches = slice_set c.branches j branch })
    × HasBegunOn (next_rev c) (last_in_effect (document_of k.doc)) b c.ids branch d.ids a

-- after a commit
abbrev pub HasCommittedAt : Client → Replica → ℕ → Branch → Head → Client → Replica → Answer → Type 0
HasCommittedAt c old j b k d new a = (branch : Branch) × (head : Head) × IsChangedAt c old j branch head d new
    × IsCommittedOn b.transaction b branch a × HasEndedOn b.transaction k head × (d.ids ≡ c.ids) × (new.names ≡ old.names)

-- after an abort
abbrev pub HasAbortedAt : Client → Replica → ℕ → Branch → Head → Client → Replica → Answer → Type 0
HasAbortedAt c old j b k d new a = (branch : Branch) × (head : Head) × IsChangedAt c old j branch head d new
    × IsAbortedOn b.transaction b branch a × HasAbortedOn b.transaction old.names k new.names head × (d.ids ≡ c.ids)

-- after a step on a branch that the client doesn't have: nothing changes
abbrev pub IsNoBranch : Client → Replica → Client → Replica → Answer → Type 0
IsNoBranch c old d new a = (d ≡ c) × (new ≡ old) × (a ≡ answer.No no.NoBranch)
