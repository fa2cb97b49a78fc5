use Rattle.std.proofs.Common.{[], sym, subst, ne_eqb}
use Rattle.st_marks.specs.Run.{Run, done}
use Rattle.st_doc.specs.Doc.{document_of}
use Rattle.st_lists.proofs.Logs.{by_other}
use Rattle.st_author_docs.proofs.carrying.carry_own_entry.Goals as goal

pub returns-else-entry-session-clause-run : goal.returns-else-entry-session-clause-run
returns-else-entry-session-clause-run c =
    let D = document_of c.args.doc.now in
    let e = c.args.entry.now in
    let s = c.args.session in
    subst (λ Ns. Run D Ns D) (sym (by_other s e [] (ne_eqb e.session s c.if-entry-session.false))) done
