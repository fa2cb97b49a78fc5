use Rattle.st_lists.specs.Log.{commits_in}
use Rattle.st_replay.specs.inside.Taking.{opening_of}
use Rattle.st_replay.proofs.LogsLonger.{carried_on, fits, knows_on, named_by_none, not_opening}
use Rattle.st_replay.proofs.MessagesEntered.{always}
use Rattle.st_replay.proofs.replay.Replay.carry_out.Goals as goal

pub carry-requires-clause-fits : goal.carry-requires-clause-fits
carry-requires-clause-fits c =
    let a = c.args in
    let r = a.self.now in
    (fits (opening_of r) r.log a.session a.reference a.ids a.intent.now c.requires.stands.opens c.requires.follows r.doc c.requires.stands.document).0

pub returns-clause-document : goal.returns-clause-document
returns-clause-document c =
    let a = c.args in
    let r = a.self.now in
    carried_on (opening_of r) r.log a.session a.reference a.ids a.intent.now c.requires.stands.opens c.requires.follows c.carry.result r.doc c.carry.new.self c.requires.stands.document c.carry.ensures.verdict c.carry.ensures.after c.carry.ensures.still_sound

pub returns-clause-makers : goal.returns-clause-makers
returns-clause-makers c =
    let a = c.args in
    let r = a.self.now in
    let O = opening_of r in
    let none = named_by_none O r.log a.session a.reference a.ids a.intent.now c.requires.stands.opens c.requires.follows in
    let late = not_opening O r.log a.session a.reference a.ids a.intent.now c.requires.stands.opens c.requires.follows in
    always c.carry.result (knows_on O r.log a.session a.reference a.ids a.intent.now c.requires.stands.opens c.requires.follows c.enter.new.self
    (c.in_ok-enter.ensures O (commits_in r.log) c.requires.stands.makers none late))
