-- A step over some of what is ahead of a session.
use Rattle.std.specs.Prelude.{ℕ, Bool, List}
use Rattle.st_lists.specs.declared.lists.Entry.{Entry}
use Rattle.st_marks.specs.declared.steps.Step.{Step}
use Rattle.st_marks.specs.Document.{Document}
use Rattle.st_marks.specs.Extends.{IsExtendedBy}
use Rattle.st_marks.specs.Run.{Run}
use Rattle.st_read_laws.specs.Reading.{IsStepRead}
use Rattle.st_valid.specs.Author.{author_list}

-- S leads from the document over which the session writes where it has received the entries up to one number, to that where it has
-- received those up to another
pub record IsBridgeTo (l : Bool) (O : Document) (log : List Entry) (session from to : ℕ) (S : Step) : Type 0 where
  pub before : Document
  pub after : Document
  pub to_before : Run O (author_list log session from) before
  pub to_after : Run O (author_list log session to) after
  pub extends : IsExtendedBy before after
  pub step : IsStepRead l before after S
