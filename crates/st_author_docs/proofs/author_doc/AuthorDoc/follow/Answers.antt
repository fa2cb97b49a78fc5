use Rattle.std.proofs.Common.{sym, subst}
use Rattle.st_doc.specs.Doc.{document_of}
use Rattle.st_log_laws.specs.Turns.{FitInTurn}
use Rattle.st_lists.specs.Log.{commits_by}
use Rattle.st_author_docs.specs.Authors.{written_over}
use Rattle.st_author_docs.specs.inside.Going.{HasGoneOn}
use Rattle.st_author_docs.proofs.Authors.{come_fit, goes_on, leads_over}
use Rattle.st_author_docs.proofs.author_doc.AuthorDoc.follow.Goals as goal

pub go_through-requires-clause-sound : goal.go_through-requires-clause-sound
go_through-requires-clause-sound c =
    let fit = c.requires.fit in
    (leads_over fit.opening c.args.log.now c.args.session c.args.self.now fit.is).sound

pub go_through-requires-clause-fit : goal.go_through-requires-clause-fit
go_through-requires-clause-fit c =
    let fit = c.requires.fit in
    let a = c.args.self.now in
    let s = c.args.session in
    subst (λ es. FitInTurn (document_of (written_over a)) (commits_by s es)) (sym c.entries_after-come.ensures) (come_fit fit.opening c.args.log.now s a fit.is fit.fit)

pub returns-clause-is : goal.returns-clause-is
returns-clause-is c =
    let a = c.args.self.now in
    let b = c.go_through.new.self in
    let s = c.args.session in
    λ O x. goes_on O c.args.log.now s a b x (subst (λ es. HasGoneOn a (commits_by s es) b) c.entries_after-come.ensures c.in_ok-go_through.ensures)
