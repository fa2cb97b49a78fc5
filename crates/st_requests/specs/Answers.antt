-- The lines of answers.
use Rattle.std.specs.Prelude.{ℕ, List, [], ◌∷◌, ◌++◌, codes}
use Rattle.serde_json.specs.Data.{Data, string, object, no_members, member}
use Rattle.serde_json.specs.Written.{compact_text}
use Rattle.st_ids.specs.declared.names.FieldId.{FieldId}
use Rattle.st_marks.specs.declared.changes.Change.{Change}
use Rattle.st_marks.specs.declared.steps.Step.{Step}
use Rattle.st_marks.specs.declared.verdicts.Verdict.{Verdict}
use Rattle.st_change_codec.specs.Changes.{list_data}
use Rattle.st_script.specs.AnswerText.{void_data}
use Rattle.st_mark_reader.specs.Naming.{plain_naming}
use Rattle.st_change_writer.specs.Listed.{node_data}
use Rattle.st_change_writer.specs.Told.{change_data, step_data}

abbrev pub change_answer : List ℕ → Change → Data
change_answer word C = object (member (codes "change") (change_data plain_naming C) (member (codes "ok") (string word) no_members))

abbrev pub step_answer : List ℕ → Step → Data
step_answer word S = object (member (codes "ok") (string word) (member (codes "step") (step_data plain_naming S) no_members))

-- a step, and why the change that makes it is void
abbrev pub verdict_answer : List ℕ → Step → Verdict → Data
verdict_answer word S v = object (member (codes "ok") (string word) (member (codes "step") (step_data plain_naming S) (member (codes "verdict") (void_data v) no_members)))

-- the least field at which two arguments don't agree
abbrev pub apart_answer : FieldId → Data
apart_answer f = object (member (codes "field") (list_data (node_data plain_naming f.node ∷ string f.key.0 ∷ [])) (member (codes "no") (string (codes "Apart")) no_members))

-- the line of a value, with its line feed
abbrev pub line_of : Data → List ℕ
line_of d = compact_text d ++ 10 ∷ []
