use Rattle.std.proofs.Common.{sym, subst}
use Rattle.st_log_laws.specs.Turns.{FitInTurn}
use Rattle.st_valid.specs.Author.{author_list}
use Rattle.st_author_docs.proofs.author_doc.AuthorDoc.go_to.Goals as goal

pub follow-requires-clause-fit : goal.follow-requires-clause-fit
follow-requires-clause-fit c =
    let fit = c.requires.fit in
    let log = c.args.log.now in
    let s = c.args.session in
    record {
      opening = fit.opening;
      is = c.in_ok-rise.ensures.is fit.opening fit.is;
      fit = subst (λ r. FitInTurn fit.opening (author_list log s r)) (sym c.in_ok-rise.ensures.at) fit.fit;
    }

pub returns-clause-is : goal.returns-clause-is
returns-clause-is c = λ O x. c.in_ok-follow.ensures.is O (c.in_ok-rise.ensures.is O x)
