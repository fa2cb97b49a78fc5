use Rattle.std.proofs.Common.{◌≡◌, subst, sym}
use Rattle.st_marks.specs.declared.intents.Intent.{Intent}
use Rattle.st_marks.specs.Join.{IsJoin}
use Rattle.st_lemmas.proofs.Options.{IfOk-along}
use Rattle.st_join.specs.inside.Lists.{join_of}
use Rattle.st_join.proofs.JoinOf.{joined_is_join}
use Rattle.st_join.proofs.joins.join.Goals as goal

pub returns : goal.returns
returns c = λ D s p.
    let N = c.args.first.now in
    let M = c.args.second.now in
    IfOk-along c.join_lists.result (λ (J : Intent). J ≡ join_of N M) (IsJoin N M) (λ J e. subst (IsJoin N M) (sym e) (joined_is_join D N M s p)) c.join_lists.ensures
