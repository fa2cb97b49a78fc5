use Rattle.std.proofs.Common.{◌≡◌, refl, sym}
use Rattle.st_script.specs.declared.answer.Answer.{Answer}
use Rattle.st_script.specs.declared.answer.Answer.TheVariants.{Ack}
use Rattle.st_lists.specs.Clients.{with_ack}
use Rattle.st_lists.specs.declared.lists.Client.{Client}
use Rattle.st_plain.proofs.Acting.{next_with}
use Rattle.st_plain.proofs.Stepping.{sound_later}
use Rattle.st_plain.proofs.Undone.{sound_ack}
use Rattle.st_plain.proofs.world.World.ack.Goals as goal

pub returns-in_default-clause-sound : goal.returns-in_default-clause-sound
returns-in_default-clause-sound c = sound_later c.args.self.now.steps c.args.self.now c.requires.sound

pub returns-clause-next : goal.returns-clause-next
returns-clause-next c = λ q at.
    let client = c.in-Some.client.now in
    let done : ◌≡◌ {A = Client × Answer} (with_ack client, Ack client.received) (c.ack.new.client, c.in_ok-answer.answer) = rw (c.in_ok-answer.ensures.client, c.in_ok-answer.ensures.answer) refl in
    next_with c.args.self.now.lists c.args.i client q c.ack.new.client (λ x. (with_ack x, Ack x.received)) c.in_ok-answer.answer (sym c.in-Some.ensures.value) at done

pub returns-clause-sound : goal.returns-clause-sound
returns-clause-sound c = sound_ack c.args.self.now c.args.i c.in-Some.client.now c.ack.new.client c.requires.sound (sym c.in-Some.ensures.value) (c.requires.connected c.in-Some.client.now (sym c.in-Some.ensures.value)) c.in_ok-answer.ensures.client
