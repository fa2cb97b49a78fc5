use Rattle.std.proofs.Common.{◌∷◌, [], refl, arith}
use Rattle.st_lists.specs.declared.lists.Body.TheVariants.{Ack}
use Rattle.st_lists.proofs.Logs.{last_entry}
use Rattle.st_replay.specs.inside.Taking.{opening_of}
use Rattle.st_replay.proofs.DocsKept.{authors_stay}
use Rattle.st_replay.proofs.LogsLonger.{few, goes_on}
use Rattle.st_replay.proofs.MessagesEntered.{on_ok}
use Rattle.st_replay.proofs.replay.Replay.ack.Goals as goal

pub enter_ack-requires : goal.enter_ack-requires
enter_ack-requires c = let r = c.args.self.now in record { few = omega (arith, c.requires.stands.numbers.entries, few (opening_of r) r.log c.args.session (Ack c.args.reference) c.requires.follows) }

pub push_entry-requires : goal.push_entry-requires
push_entry-requires c = let r = c.args.self.now in omega (arith, few (opening_of r) r.log c.args.session (Ack c.args.reference) c.requires.follows)

pub returns : goal.returns
returns c =
    let r = c.args.self.now in
    let body = Ack c.args.reference in
    on_ok c.push_entry.result
    (λ entries. goes_on r _ c.args.session body refl c.requires.stands c.requires.follows entries (c.in_ok-enter_ack.ensures r.log c.requires.stands.numbers c.requires.connected) refl refl
    (authors_stay (opening_of r) r.log (last_entry r.log c.args.session body ∷ []) r.authors c.requires.stands.authors))
    c.push_entry.ensures
