-- A change and a step in normal form stand over one document exactly where they agree.
use Rattle.std.proofs.Common.{◌≡◌, ℕ, List, Option, Some, None, refl, inr}
use Rattle.st_marks.specs.declared.changes.Change.{Change}
use Rattle.st_marks.specs.declared.steps.Step.{Step}
use Rattle.st_ids.specs.Root.{root}
use Rattle.st_marks.specs.Agree.{Agrees, HaveSchemasBeside, RebaseClash, broken, row_field}
use Rattle.std.specs.Prelude.{MatchOption}
use Rattle.st_normal.specs.Rules.{ObeysChangeRules, ObeysDataRules, ObeysSchemaRules, ObeysStepRules}
use Rattle.st_pair_laws.specs.Beside.{StandBeside}
use Rattle.st_pair_laws.proofs.SchemasBeside.{schemas_beside}
use Rattle.st_pair_laws.proofs.StandData.{data_stand}
use Rattle.st_pair_laws.proofs.StandSchema.{schema_stand}

pub stand_beside : (C : Change) (S : Step) → ObeysChangeRules C → ObeysStepRules S → Agrees (RebaseClash C S) → StandBeside C S
stand_beside C S w v g = go C.schema refl w
  where
    entries : HaveSchemasBeside C S
    entries = schemas_beside C S w v (λ none. g (row_field root) (inr (inr (inr (broken none)))))

    go : (o : Option (List ℕ)) → C.schema ≡ o → MatchOption o (ObeysDataRules C) (λ _. ObeysSchemaRules C) → StandBeside C S
    go None e r = data_stand C S r e v g entries
    go (Some text) e r = schema_stand C S r text e v entries
