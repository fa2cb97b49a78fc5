use Rattle.std.proofs.lemmas.Result.{IfOk-weaker}
use Rattle.std.specs.BTreeSet.{contains}
use Rattle.st_ids.specs.Order.{node_cmp}
use Rattle.st_marks.specs.Embedding.{IsEmbedding}
use Rattle.st_rebase.specs.inside.Over.{IsChangeOver}
use Rattle.st_rebase.proofs.ChangeLater.{change_later}
use Rattle.st_rebase.proofs.change.rebase_with_base.Goals as goal

pub returns : goal.returns
returns c = λ D E N x f g change step b.
    let m = contains node_cmp c.in_ok-between.between.named in
    let w = c.in_ok-between.ensures.carried D E N x f g change step in
    IfOk-weaker c.change_over.result (IsChangeOver m c.in_ok-between.between.change c.args.step.now c.args.base) (IsEmbedding E N)
    (λ y over. change_later D E N x f g c.args.change.now c.args.step.now c.requires change step m w.0 c.in_ok-between.between.change w.1 c.args.base y b over)
    c.change_over.ensures
