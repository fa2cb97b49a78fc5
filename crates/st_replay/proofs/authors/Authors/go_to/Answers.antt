use Rattle.std.proofs.Common.{sym, subst}
use Rattle.st_marks.specs.Document.{IsSoundInForm}
use Rattle.st_replay.proofs.authors.Authors.go_to.Goals as goal

pub take_author-requires : goal.take_author-requires
take_author-requires c = subst IsSoundInForm (sym c.requires.can.are.opened) c.requires.can.sound

pub go_to-requires-clause-fit : goal.go_to-requires-clause-fit
go_to-requires-clause-fit c = let can = c.requires.can in record {
  opening = can.opening;
  is = c.in_ok-author.ensures.is can.opening c.args.log.now can.are;
  fit = can.fit;
}

pub returns-clause-at : goal.returns-clause-at
returns-clause-at c = record {
  author = c.go_to.new.self;
  kept = c.in_ok-keep_author.ensures.kept;
  at = c.in_ok-go_to.ensures.at;
  seen = c.in_ok-go_to.ensures.seen;
}

pub returns-clause-are : goal.returns-clause-are
returns-clause-are c = λ O are.
    c.in_ok-keep_author.ensures.are O c.args.log.now (c.in_ok-author.ensures.rest O c.args.log.now are) (c.in_ok-go_to.ensures.is O (c.in_ok-author.ensures.is O c.args.log.now are))
