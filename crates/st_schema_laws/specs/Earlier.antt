-- Each commit of a list was made under a schema that comes before it.
use Rattle.std.specs.Prelude.{List, [], ◌∷◌, is_some, if◌then◌else◌}
use Rattle.st_ids.specs.Listing.{Has}
use Rattle.st_ids.specs.declared.names.Rev.{Rev}
use Rattle.st_marks.specs.declared.intents.Intent.{Intent}

-- the schemas that came, and then a commit's own, if it changes the schema
abbrev pub with_own : List Rev → Intent → List Rev
with_own rs N = if is_some N.schema then N.rev ∷ rs else rs

-- the schemas that came before, and then those of a list of commits
abbrev pub schemas_made : List Rev → List Intent → List Rev
schemas_made rs [] = rs
schemas_made rs (N ∷ Ns) = schemas_made (with_own rs N) Ns

-- each commit was made under a schema that came before it: one of these, or one that an earlier commit of the list made
abbrev pub AreUnderEarlier : List Rev → List Intent → Type 0
AreUnderEarlier rs [] = Unit {0}
AreUnderEarlier rs (N ∷ Ns) = Has rs N.under × AreUnderEarlier (with_own rs N) Ns
