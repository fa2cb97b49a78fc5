use Rattle.std.specs.BTreeMap.{get}
use Rattle.std.specs.BTreeSet.{contains}
use Rattle.st_ids.specs.Order.{node_cmp}
use Rattle.st_lemmas.proofs.Options.{IfOk-along}
use Rattle.st_marks.specs.declared.changes.Change.{Change}
use Rattle.st_moves.specs.Changes.{IsChangeBetween}
use Rattle.st_moves.specs.inside.Fields.{IsChangeWith}
use Rattle.st_moves.proofs.CarriedFields.{assembled}
use Rattle.st_moves.proofs.ChangeCarried.{carried_with}
use Rattle.st_moves.proofs.marks.change_beside.Goals as goal

pub returns : goal.returns
returns c = λ D E N x f g emb step puts right w.
    let C = c.args.change.now in
    let S = c.args.step.now in
    let m = contains node_cmp c.args.named.now in
    let fields = c.in_ok-fields.fields in
    IfOk-along c.change_with.result (λ (y : Change). IsChangeWith C fields.rows fields.regs fields.loose y) (λ (y : Change). IsChangeBetween D E N m y)
    (λ y made. carried_with D E N x f g C S emb step m w y
    (assembled D E N x f g C S emb step (get node_cmp c.args.puts.now) puts c.args.places.now right c.args.named.now w fields.rows fields.regs fields.loose y c.in_ok-fields.ensures made))
    c.change_with.ensures
