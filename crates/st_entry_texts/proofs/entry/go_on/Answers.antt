use Rattle.std.proofs.Common.{subst}
use Rattle.st_author_docs.specs.Authors.{IsAuthorOf}
use Rattle.st_entry_texts.proofs.Telling.{gone_on}
use Rattle.st_entry_texts.proofs.entry.go_on.Goals as goal

pub returns-clause-is : goal.returns-clause-is
returns-clause-is c = λ O is.
    gone_on O c.args.log.now c.args.before c.args.session c.args.reference c.args.author.now _ c.requires.can.seen
    (subst (λ l. IsAuthorOf O l c.args.session c.args.author.now.doc → IsAuthorOf O l c.args.session c.go_to.new.self) c.first_of-front.ensures (c.in_ok-go_to.ensures.is O)) c.in_ok-read_to.ensures is
