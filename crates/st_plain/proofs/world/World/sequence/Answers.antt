use Rattle.std.proofs.Common.{◌+◌, sym, ap, subst}
use Rattle.st_plain.specs.Replicas.{IsSoundAfter}
use Rattle.st_lists.specs.Known.{AreKnown}
use Rattle.st_plain.specs.declared.world.World.{World}
use Rattle.st_plain.proofs.Stepping.{head_fits, head_sound, sent_connected, sound_sent, text_within}
use Rattle.st_plain.proofs.world.World.sequence.Goals as goal

pub sequence_text-requires-clause-sound : goal.sequence_text-requires-clause-sound
sequence_text-requires-clause-sound c = head_sound c.args.self.now c.requires.sound

pub sequence_text-requires-clause-fits : goal.sequence_text-requires-clause-fits
sequence_text-requires-clause-fits c =
    head_fits c.args.self.now c.args.i c.in-Some-get_mut.client.now c.in-Some-take_text.text c.take_text.new.client.queue c.requires.sound (sym c.in-Some-get_mut.ensures.value) c.in-Some-take_text.ensures.0

pub returns-in_ok-answer-in-Some-take_text-clause-sound : goal.returns-in_ok-answer-in-Some-take_text-clause-sound
returns-in_ok-answer-in-Some-take_text-clause-sound c =
    let w = c.args.self.now in
    let client = c.in-Some-get_mut.client.now in
    let at = sym c.in-Some-get_mut.ensures.value in
    let text = c.in-Some-take_text.text in
    let rest = c.take_text.new.client.queue in
    let world = c.in_ok-answer-in-Some-take_text.ensures.world in
    let noted = c.in_ok-answer-in-Some-take_text.ensures.logged in
    let knows = subst (λ l. AreKnown l c.sequence_text.new.self.known) (ap (λ (x : World). x.lists.log) world) c.in_ok-answer-in-Some-take_text.ensures.known in
    let few = text_within w c.args.i c.in-Some.client.now client text rest c.in-Some-names_waiting.made c.names_waiting.result c.limit_passed.result (sym c.in-Some.ensures) at c.in-Some-take_text.ensures.0
    c.names_waiting.ensures c.in-Some-names_waiting.is c.limit_passed.ensures c.in_default-limit_passed.is in
    subst (λ (x : World). IsSoundAfter (x.steps + 1) x) (sym world)
    (sound_sent w c.args.i client c.take_text.new.client text c.sequence_text.new.self.log_document c.sequence_text.new.self.known c.sequence_text.new.self.logged c.requires.sound at c.in-Some-take_text.ensures.0 c.in-Some-take_text.ensures.1 few.0 few.1 noted knows)

pub sequence_text-requires-clause-connected : goal.sequence_text-requires-clause-connected
sequence_text-requires-clause-connected c =
    sent_connected c.args.self.now c.args.i c.in-Some-get_mut.client.now c.take_text.new.client c.in-Some-take_text.text c.requires.sound (sym c.in-Some-get_mut.ensures.value) c.in-Some-take_text.ensures.0 c.in-Some-take_text.ensures.1
