-- What a client does with its branches: a branch is a line over what its parent had; bringing it up to date and merging it
-- move no commit.
use Rattle.std.specs.Prelude.{◌≡◌, ℕ, ◌+◌, List, length, Option, Some, None, is_some, option_map, if◌then◌else◌}
use Rattle.st_ids.specs.declared.names.Rev.{Rev}
use Rattle.st_marks.specs.Document.{Document}
use Rattle.st_script.specs.declared.answer.Answer.{Answer}
use Rattle.st_script.specs.declared.answer.Answer.TheVariants as answer
use Rattle.st_script.specs.declared.refusal.Refusal.{Refusal}
use Rattle.st_script.specs.declared.refusal.Refusal.TheVariants as no
use Rattle.st_lists.specs.Limits.{branches_limit_passed, own_limit_passed}
use Rattle.st_lists.specs.Lines.{HasHead, Line, has_children, with_base, with_branch, with_commits_on, without_branch}
use Rattle.st_lists.specs.declared.lists.Branch.{Branch}
use Rattle.st_lists.specs.declared.lists.Client.{Client}
use Rattle.st_lists.specs.declared.lists.Entry.{Entry}
use Rattle.st_lists.specs.Voids.{AreVoid}

-- a branch is made of a line, which has no transaction open
abbrev pub refusal_to_fork : Client → Line → Option Refusal
refusal_to_fork c l = if is_some l.transaction then Some no.Unfinished else option_map (λ o. no.Limit o) (branches_limit_passed c)

abbrev pub fork : Client → ℕ → Line → Option Refusal → Client × Answer
fork c k l None = (with_branch c k l, answer.Fork (c.forks + 1))
fork c k l (Some why) = (c, answer.No why)

-- a branch is brought up to date with its parent's line: its own commits stay, and come after what the parent has
abbrev pub IsRebased : Document → List Entry → Client → ℕ → Branch → Line → Client → Answer → Type 0
IsRebased O log c k b parent d a = (D : Document) × (void : List Rev) × HasHead O log parent D × AreVoid D b.own void
    × (d ≡ with_base c k parent) × (a ≡ answer.Rebase void)

abbrev pub refusal_to_rebase : Branch → Option Refusal
refusal_to_rebase b = if is_some b.transaction then Some no.Unfinished else None

-- a branch is merged: its own commits come behind its parent's, and it is gone
abbrev pub refusal_to_merge : Client → ℕ → Branch → Line → Option Refusal
refusal_to_merge c k b parent =
    if is_some b.transaction then Some no.Unfinished else
    if is_some parent.transaction then Some no.Unfinished else
    if has_children c k then Some no.HasChildren else option_map (λ o. no.Limit o) (own_limit_passed b.parent parent (length b.own))

abbrev pub IsMerged : Document → List Entry → Client → ℕ → Branch → Line → Client → Answer → Type 0
IsMerged O log c k b parent d a = (D : Document) × (void : List Rev) × HasHead O log parent D × AreVoid D b.own void
    × (d ≡ with_commits_on (without_branch c k) b.parent b.own) × (a ≡ answer.Merge void)

-- a branch is dropped, with what is edited on it
abbrev pub drop_branch : Client → ℕ → Client × Answer
drop_branch c k = if has_children c k then (c, answer.No no.HasChildren) else (without_branch c k, answer.DropBranch)
