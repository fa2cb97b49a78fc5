use Rattle.std.proofs.Common.{subst, inl}
use Rattle.std.specs.Prelude.{IfSome}
use Rattle.st_normal.specs.Rules.{SchemaStepFits}
use Rattle.st_agree_turn.proofs.SchemasMeet.{one_changes}
use Rattle.st_agree_turn.proofs.schemas.have_schemas_in_turn.Goals as goal

pub returns-in-None-clause-some : goal.returns-in-None-clause-some
returns-in-None-clause-some c = λ f h t. one_changes c.args.first.now c.args.then.now (inl c.in-None.is) f h

pub returns-in-Some-clause-all : goal.returns-in-Some-clause-all
returns-in-Some-clause-all c = λ w. c.goes_on.ensures.all c.args.first.now c.in-Some.is w

pub returns-in-Some-clause-some : goal.returns-in-Some-clause-some
returns-in-Some-clause-some c = λ f h t. c.goes_on.ensures.some c.args.first.now c.in-Some.is (subst (λ o. IfSome o SchemaStepFits) c.in-Some.is f) h t
