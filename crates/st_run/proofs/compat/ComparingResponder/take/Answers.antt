use Rattle.std.proofs.Common.{◌≡◌, Some, None, true, refl, rules}
use Rattle.std.proofs.lemmas.Result.{IfOk-weaker}
use Rattle.st_run.proofs.Comparing.{stored_taken, view_taken}
use Rattle.st_run.proofs.compat.ComparingResponder.take.Goals as goal

pub returns-in-Some : goal.returns-in-Some
returns-in-Some c =
    let self = c.args.self.now in
    let kept : self.schema ≡ Some c.in-Some.schema = search rules in
    IfOk-weaker c.take_view.result _ _
    (λ r h. view_taken self (record self { done = true }) c.args.number c.args.line.now c.in-Some.schema r c.if-self.false kept refl h) c.take_view.ensures

pub returns-in-None : goal.returns-in-None
returns-in-None c =
    let self = c.args.self.now in
    let none : self.schema ≡ None = search rules in
    IfOk-weaker c.take_stored.result _ _
    (λ r h. stored_taken self (record self { schema = c.take_stored.new.schema }) c.args.number c.args.line.now r c.if-self.false none c.if-self.false h) c.take_stored.ensures
