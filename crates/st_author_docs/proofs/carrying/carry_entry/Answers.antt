use Rattle.std.proofs.Common.{[], sym, ap, subst}
use Rattle.std.specs.List.{cons_option}
use Rattle.st_marks.specs.Run.{Run}
use Rattle.st_doc.specs.Doc.{document_of}
use Rattle.st_lists.specs.Log.{commit_in}
use Rattle.st_author_docs.proofs.Along.{nothing_carried, run_one}
use Rattle.st_author_docs.proofs.carrying.carry_entry.Goals as goal

pub returns-in_ok-carry-in-Commit-clause-run : goal.returns-in_ok-carry-in-Commit-clause-run
returns-in_ok-carry-in-Commit-clause-run c =
    let D = document_of c.args.doc.now in
    let E = document_of c.carry.new.self in
    let carried = c.in_ok-carry-in-Commit in
    subst (λ o. Run D (cons_option o []) E) (sym (ap commit_in c.in-Commit.is)) (run_one D E c.in-Commit.intent carried.field-0 carried.ensures.verdict carried.ensures.after)

pub returns-in-Join-clause-run : goal.returns-in-Join-clause-run
returns-in-Join-clause-run c = nothing_carried (document_of c.args.doc.now) c.args.entry.now.body c.in-Join.is

pub returns-in-Join-2-clause-run : goal.returns-in-Join-2-clause-run
returns-in-Join-2-clause-run c = nothing_carried (document_of c.args.doc.now) c.args.entry.now.body c.in-Join.is

pub returns-in-Join-3-clause-run : goal.returns-in-Join-3-clause-run
returns-in-Join-3-clause-run c = nothing_carried (document_of c.args.doc.now) c.args.entry.now.body c.in-Join.is
