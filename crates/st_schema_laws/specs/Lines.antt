-- Lists of commits that begin at the document opened, as a client has them.
use Rattle.std.specs.Prelude.{List, [], ◌∷◌}
use Rattle.st_ids.specs.Root.{opening}
use Rattle.st_marks.specs.declared.intents.Intent.{Intent}
use Rattle.st_marks.specs.Document.{Document, IsSoundInForm}
use Rattle.st_log_laws.specs.Names.{HaveNewRevisions, IsMadeUnder}
use Rattle.st_log_laws.specs.Turns.{FitInTurn}
use Rattle.st_schema_laws.specs.AgreeingInEffect.{AgreeInTurn, ConformsInEffect, Told}
use Rattle.st_schema_laws.specs.Earlier.{AreUnderEarlier}

-- the document opened conforms; each commit fits where it comes, has a new revision, was made under a schema that came
-- before it, and agrees with that
pub record IsLine (T : Told) (O : Document) (Ns : List Intent) : Type 0 where
  pub sound : IsSoundInForm O
  pub made : IsMadeUnder (opening ∷ []) O
  pub conforms : ConformsInEffect T O
  pub fit : FitInTurn O Ns
  pub new : HaveNewRevisions (opening ∷ []) Ns
  pub earlier : AreUnderEarlier (opening ∷ []) Ns
  pub agree : AgreeInTurn T O Ns
