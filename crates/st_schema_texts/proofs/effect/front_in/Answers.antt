use Rattle.std.proofs.Common.{◌≡◌, None, rules}
use Rattle.st_schema_texts.proofs.Once.{front_none, front_there}
use Rattle.st_schema_texts.proofs.effect.front_in.Goals as goal

pub returns-in_err-at-clause-none : goal.returns-in_err-at-clause-none
returns-in_err-at-clause-none c = λ none.
    let absent : c.place_of.result ≡ None = search rules in
    front_none c.args.rev c.args.entries.now c.place_of.result c.place_of.ensures absent

pub returns-clause-some : goal.returns-clause-some
returns-clause-some c = front_there c.args.rev c.args.entries.now c.in_ok-at.at c.in_ok-at.ensures
