use Rattle.std.proofs.Common.{◌≡◌, Some, None, refl, rules}
use Rattle.std.proofs.lemmas.Result.{IfOk-weaker}
use Rattle.st_run.proofs.Replaying.{at_stands, message_taken, opening_taken, stands_at}
use Rattle.st_run.proofs.replay.ReplayingResponder.take.Goals as goal

pub take_message-requires : goal.take_message-requires
take_message-requires c =
    let is : c.args.self.now.replay ≡ Some c.in-Some.replay = search rules in
    record { stands = at_stands c.in-Some.replay (stands_at c.args.self.now c.args.number c.in-Some.replay is c.requires.stands) }

pub returns-in-Some : goal.returns-in-Some
returns-in-Some c =
    let self = c.args.self.now in
    let is : self.replay ≡ Some c.in-Some.replay = search rules in
    IfOk-weaker c.take_message.result _ _
    (λ r h. message_taken self (record { replay = Some c.take_message.new.messages }) c.args.number c.in-Some.replay c.take_message.new.messages c.args.line.now r is refl h) c.take_message.ensures

pub returns-in-None : goal.returns-in-None
returns-in-None c =
    let self = c.args.self.now in
    let none : self.replay ≡ None = search rules in
    IfOk-weaker c.take_opening.result _ _
    (λ r h. opening_taken self (record { replay = c.take_opening.new.opening }) c.args.number c.args.line.now r none h) c.take_opening.ensures
