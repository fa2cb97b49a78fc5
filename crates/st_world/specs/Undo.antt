-- Undoing a commit of one's own.
use Rattle.std.specs.Prelude.{◌≡◌, ℕ, ◌==◌, nat_le, Bool, false, not, List, take, Option, Some, None, is_some, option_map, if◌then◌else◌}
use Rattle.std.specs.List.{find, list_any}
use Rattle.std.specs.Option.{option_map_or}
use Rattle.st_ids.specs.Order.{same_rev}
use Rattle.st_ids.specs.declared.names.Rev.{Rev}
use Rattle.st_marks.specs.declared.intents.Intent.{Intent}
use Rattle.st_marks.specs.declared.verdicts.Verdict.{Verdict}
use Rattle.st_marks.specs.Document.{Document}
use Rattle.st_lists.specs.Voids.{is_void}
use Rattle.st_lists.specs.Undoing.{IsAt, IsUndoing}
use Rattle.st_script.specs.declared.answer.Answer.{Answer}
use Rattle.st_script.specs.declared.answer.Answer.TheVariants as answer
use Rattle.st_script.specs.declared.refusal.Refusal.{Refusal}
use Rattle.st_script.specs.declared.refusal.Refusal.TheVariants as no
use Rattle.st_lists.specs.Clients.{next_rev, with_new_commit}
use Rattle.st_lists.specs.Limits.{pending_limit_passed}
use Rattle.st_lists.specs.Lines.{commits_of, main_line}
use Rattle.st_lists.specs.Log.{commit_of, floor}
use Rattle.st_lists.specs.declared.lists.Client.{Client}
use Rattle.st_lists.specs.declared.lists.Entry.{Entry}
use Rattle.st_lists.specs.declared.lists.Transaction.{Transaction}
use Rattle.st_world.specs.Kept.{IsKept, Unless}

-- whether a commit has a revision
abbrev pub has_rev : Rev → Intent → Bool
has_rev rev N = same_rev N.rev rev

-- whether an entry has the commit of a revision
abbrev pub has_commit : Rev → Entry → Bool
has_commit rev e = option_map_or (has_rev rev) (commit_of e) false

-- the number of the entry that has the commit of a revision, if one of those that the client received has it
abbrev pub entry_number : Rev → List Entry → Client → Option ℕ
entry_number rev log c = option_map (λ (e : Entry). e.n) (find (has_commit rev) (take c.received log))

-- whether the client received the commit at or below the floor; one that is pending has no number yet
abbrev pub is_gone : ℕ → Rev → List Entry → Client → Bool
is_gone history rev log c = option_map_or (λ n. nat_le n (floor history log c.received)) (entry_number rev log c) false

-- a commit that undoes another is pending
abbrev pub IsUndone : Document → List Intent → Rev → Client → Client → Answer → Type 0
IsUndone O list rev c d a = (B : Intent) × IsUndoing O list rev (next_rev c) B × (d ≡ with_new_commit c B) × (a ≡ answer.Undo (next_rev c))

-- what is refused of the commit that is undone, by its verdict: it is void, or a change of the schema, or one more pending
-- commit would pass the limit
abbrev pub refusal_over : Verdict → Intent → Client → Option Refusal
refusal_over v N c =
    if is_void v then Some no.VoidCommit else
    if is_some N.schema then Some no.Kind else option_map (λ l. no.Limit l) (pending_limit_passed c)

-- the commit of a revision is undone, at its place in the list of those that the client received and has pending
abbrev pub IsUndoneAt : Document → List Intent → Rev → Client → Client → Answer → Type 0
IsUndoneAt O list rev c d a = (N : Intent) × (D : Document) × (v : Verdict) × IsAt O list rev N D v × Unless (refusal_over v N c) c d a (IsUndone O list rev c d a)

-- what is refused of the revision: no commit of the list has it, it is of another session, or its commit is gone
abbrev pub refusal_of_rev : ℕ → List Entry → Client → List Intent → Rev → Option Refusal
refusal_of_rev history log c list rev =
    if not (list_any (has_rev rev) list) then Some no.NoCommit else
    if not (rev.session == c.session) then Some no.NotOwn else
    if is_gone history rev log c then Some (no.Gone (floor history log c.received)) else None

-- the client undoes the commit of a revision, where no transaction is open
abbrev pub IsAfterUndo : Document → ℕ → List Entry → Client → Option Transaction → Rev → Client → Answer → Type 0
IsAfterUndo O history log c (Some t) rev d a = IsKept c d a (answer.No no.Unfinished)
IsAfterUndo O history log c None rev d a =
    let list = commits_of log (main_line c) in
    Unless (refusal_of_rev history log c list rev) c d a (IsUndoneAt O list rev c d a)
