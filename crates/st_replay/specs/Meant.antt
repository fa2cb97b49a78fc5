-- The intent that the change of a message means in its author's document.
use Rattle.std.specs.Prelude.{◌≡◌, ℕ, List}
use Rattle.st_lists.specs.declared.lists.Entry.{Entry}
use Rattle.st_marks.specs.declared.changes.Change.{Change}
use Rattle.st_marks.specs.declared.intents.Intent.{Intent}
use Rattle.st_marks.specs.Document.{Document}
use Rattle.st_meaning.specs.InOrder.{IsInOrder}
use Rattle.st_valid.specs.Context.{HasContext}

-- the change says something in its author's document, and this intent is what it says, its lists in the order of their names
pub record IsMeant (O : Document) (log : List Entry) (session reference : ℕ) (C : Change) (N : Intent) : Type 0 where
  pub context : HasContext O log session reference C
  pub intent : N ≡ context.meant.intent
  pub order : IsInOrder N
