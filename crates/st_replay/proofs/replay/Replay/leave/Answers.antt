use Rattle.std.proofs.Common.{◌∷◌, [], refl, arith}
use Rattle.st_lists.specs.Log.{log_with}
use Rattle.st_lists.specs.declared.lists.Body.TheVariants.{Leave}
use Rattle.st_lists.proofs.Logs.{last_entry}
use Rattle.st_replay.specs.inside.Taking.{opening_of}
use Rattle.st_replay.proofs.DocsKept.{authors_stay}
use Rattle.st_replay.proofs.LogsLonger.{few, goes_on}
use Rattle.st_replay.proofs.replay.Replay.leave.Goals as goal

pub enter_leave-requires : goal.enter_leave-requires
enter_leave-requires c = let r = c.args.self.now in record { few = omega (arith, c.requires.stands.numbers.entries, few (opening_of r) r.log c.args.session Leave c.requires.follows) }

pub push_entry-requires : goal.push_entry-requires
push_entry-requires c = let r = c.args.self.now in omega (arith, few (opening_of r) r.log c.args.session Leave c.requires.follows)

pub returns : goal.returns
returns c =
    let r = c.args.self.now in
    let O = opening_of r in
    goes_on r _ c.args.session Leave refl c.requires.stands c.requires.follows c.in_ok-push_entry.ensures (c.in_ok-enter_leave.ensures r.log c.requires.stands.numbers c.requires.connected) refl refl
    (c.leave.ensures O (log_with r.log c.args.session Leave) (authors_stay O r.log (last_entry r.log c.args.session Leave ∷ []) r.authors c.requires.stands.authors))
