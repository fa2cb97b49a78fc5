use Rattle.std.proofs.Common.{sym, subst, inr}
use Rattle.std.specs.Prelude.{IfSome}
use Rattle.st_normal.specs.Rules.{SchemaStepFits}
use Rattle.st_agree_turn.proofs.SchemasMeet.{all_meet, one_changes, some_meet}
use Rattle.st_agree_turn.proofs.schemas.goes_on.Goals as goal

pub returns-in-None-clause-some : goal.returns-in-None-clause-some
returns-in-None-clause-some c = λ S e f h t. one_changes S c.args.then.now (inr c.in-None.is) (subst (λ o. IfSome o SchemaStepFits) (sym e) f) h

pub returns-in-Some-clause-all : goal.returns-in-Some-clause-all
returns-in-Some-clause-all c = λ S e w. all_meet S c.args.then.now c.args.part.now c.in-Some.next e c.in-Some.is c.do_meet.result c.do_meet.ensures.first c.do_meet.ensures.then w

pub returns-in-Some-clause-some : goal.returns-in-Some-clause-some
returns-in-Some-clause-some c = λ S e f h t. some_meet S c.args.then.now c.args.part.now c.in-Some.next e c.in-Some.is c.do_meet.result c.do_meet.ensures.first c.do_meet.ensures.then (subst (λ o. IfSome o SchemaStepFits) (sym e) f) h t
