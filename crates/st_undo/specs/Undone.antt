-- Undoing a commit of one's own, of the commits that a client received and has pending.
use Rattle.std.specs.Prelude.{◌≡◌, ◌+◌, ◌==◌, ◌⊎◌, ℕ, nat_le, Bool, false, not, List, slice_get, Option, Some, None, is_some, option_map, if◌then◌else◌}
use Rattle.std.specs.List.{find}
use Rattle.std.specs.Option.{option_map_or}
use Rattle.st_ids.specs.Listing.{AreDistinct}
use Rattle.st_ids.specs.Order.{same_rev}
use Rattle.st_ids.specs.declared.names.Rev.{Rev}
use Rattle.st_history.specs.Past.{Past, commits_of, has_commit}
use Rattle.st_lists.specs.declared.lists.Entry.{Entry}
use Rattle.st_lists.specs.Log.{commit_of}
use Rattle.st_lists.specs.Undoing.{IsAt}
use Rattle.st_lists.specs.Voids.{is_void}
use Rattle.st_log_laws.specs.Turns.{FitInTurn}
use Rattle.st_marks.specs.declared.intents.Intent.{Intent}
use Rattle.st_marks.specs.declared.verdicts.Verdict.{Verdict}
use Rattle.st_marks.specs.Document.{Document, IsSoundInForm}
use Rattle.st_undo.specs.declared.faults.UndoFault.{UndoFault}
use Rattle.st_undo.specs.declared.faults.UndoFault.TheVariants as no

-- ## What the commits have to be

-- the document opened is sound in form, and all commits fit in turn there; no two have one revision; entries are numbered from 1
pub record IsSoundPast (p : Past) : Type 0 where
  pub sound : IsSoundInForm p.opening
  pub fit : FitInTurn p.opening (commits_of p)
  pub once : AreDistinct (λ (N : Intent). N.rev) (commits_of p)
  pub numbered : (i : ℕ) (e : Entry) → slice_get p.log i ≡ Some e → e.n ≡ i + 1

-- ## What is refused

-- whether an entry has the commit of a revision
abbrev pub has_commit_of : Rev → Entry → Bool
has_commit_of rev e = option_map_or (λ (N : Intent). same_rev N.rev rev) (commit_of e) false

-- the number of the entry that has the commit of a revision, if one of them has it
abbrev pub entry_number : Rev → List Entry → Option ℕ
entry_number rev log = option_map (λ (e : Entry). e.n) (find (has_commit_of rev) log)

-- whether the commit was received at or below the floor; one that is pending has no number yet
abbrev pub is_gone : ℕ → Rev → List Entry → Bool
is_gone floor rev log = option_map_or (λ n. nat_le n floor) (entry_number rev log) false

-- what is refused of the revision: no commit has it, it is of another session, or its commit is gone
abbrev pub fault_of_rev : ℕ → ℕ → Past → Rev → Option UndoFault
fault_of_rev own floor p rev =
    if not (has_commit p rev) then Some no.NoCommit else
    if not (rev.session == own) then Some no.NotOwn else
    if is_gone floor rev p.log then Some (no.Gone floor) else None

-- what is refused of a commit by its verdict and its schema: it is void, or a change of the schema
abbrev pub fault_over : Verdict → Option (List ℕ) → Option UndoFault
fault_over v schema = if is_void v then Some no.VoidCommit else if is_some schema then Some no.Kind else None

-- the commit of a revision can be undone: nothing is refused of the revision, and the commit that has it is sound at its place and
-- doesn't change the schema
abbrev pub CanBeUndone : ℕ → ℕ → Past → Rev → Type 0
CanBeUndone own floor p rev =
    (fault_of_rev own floor p rev ≡ None)
    × ((N : Intent) × (D : Document) × IsAt p.opening (commits_of p) rev N D Verdict.Sound × (N.schema ≡ None))

-- it is refused so: of the revision, or else of the commit that has it, by its verdict at its place
abbrev pub IsRefused : ℕ → ℕ → Past → Rev → UndoFault → Type 0
IsRefused own floor p rev f =
    (fault_of_rev own floor p rev ≡ Some f)
    ⊎ ((fault_of_rev own floor p rev ≡ None)
    × ((N : Intent) × (D : Document) × (v : Verdict) × IsAt p.opening (commits_of p) rev N D v × (fault_over v N.schema ≡ Some f)))
