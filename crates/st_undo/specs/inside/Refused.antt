-- What is said of a commit of a revision that is there.
use Rattle.std.specs.Prelude.{◌≡◌, ◌⊎◌, ℕ, true, false, Some, None}
use Rattle.st_ids.specs.declared.names.Rev.{Rev}
use Rattle.st_history.specs.Past.{Past, commits_of}
use Rattle.st_lists.specs.Undoing.{IsAt}
use Rattle.st_marks.specs.declared.intents.Intent.{Intent}
use Rattle.st_marks.specs.declared.verdicts.Verdict.{Verdict}
use Rattle.st_marks.specs.Document.{Document}
use Rattle.st_undo.specs.declared.faults.UndoFault.{UndoFault}
use Rattle.st_undo.specs.declared.faults.UndoFault.TheVariants.{Gone}
use Rattle.st_undo.specs.Undone.{fault_over, is_gone}

-- it isn't gone, it is sound at its place, and it doesn't change the schema
abbrev pub IsUndoneThere : ℕ → Past → Rev → Type 0
IsUndoneThere floor p rev = (is_gone floor rev p.log ≡ false) × ((N : Intent) × (D : Document) × IsAt p.opening (commits_of p) rev N D Verdict.Sound × (N.schema ≡ None))

-- it is gone, or else it is refused by its verdict at its place
abbrev pub IsRefusedThere : ℕ → Past → Rev → UndoFault → Type 0
IsRefusedThere floor p rev f =
    ((is_gone floor rev p.log ≡ true) × (f ≡ Gone floor))
    ⊎ ((is_gone floor rev p.log ≡ false) × ((N : Intent) × (D : Document) × (v : Verdict) × IsAt p.opening (commits_of p) rev N D v × (fault_over v N.schema ≡ Some f)))
