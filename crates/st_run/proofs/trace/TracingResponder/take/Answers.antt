use Rattle.std.proofs.Common.{◌≡◌, Some, None, refl, rules}
use Rattle.std.proofs.lemmas.Result.{IfOk-weaker}
use Rattle.st_run.proofs.Tracing.{header_taken, line_taken, may_go_on}
use Rattle.st_run.proofs.trace.TracingResponder.take.Goals as goal

pub take_line-requires : goal.take_line-requires
take_line-requires c =
    let is : c.args.self.now.world ≡ Some c.in-Some.world = search rules in
    record { under_way = may_go_on c.args.self.now c.args.number c.in-Some.world c.requires.few is c.requires.stands }

pub returns-in-Some : goal.returns-in-Some
returns-in-Some c =
    let self = c.args.self.now in
    let is : self.world ≡ Some c.in-Some.world = search rules in
    IfOk-weaker c.take_line.result _ _
    (λ r h. line_taken self (record { world = Some c.take_line.new.world; authors = c.take_line.new.authors }) c.args.number c.in-Some.world c.take_line.new.world c.args.line.now r is refl h) c.take_line.ensures

pub returns-in-None : goal.returns-in-None
returns-in-None c =
    let self = c.args.self.now in
    let none : self.world ≡ None = search rules in
    IfOk-weaker c.take_header.result _ _
    (λ r h. header_taken self (record self { world = c.take_header.new.opening }) c.args.number c.args.line.now r none refl h) c.take_header.ensures
