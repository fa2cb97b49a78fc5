use Rattle.std.proofs.Common.{sym, ap, subst}
use Rattle.st_doc.specs.Doc.{document_of}
use Rattle.st_lists.specs.Log.{commit_in}
use Rattle.st_plain_log.specs.Receiving.{HasEntered}
use Rattle.st_plain_log.proofs.reconnecting.carry_entry.Goals as goal

pub returns-in_ok-carry-in-Commit : goal.returns-in_ok-carry-in-Commit
returns-in_ok-carry-in-Commit c =
    let done = c.in_ok-carry-in-Commit in
    subst (λ o. HasEntered (document_of c.args.doc.now) o (document_of c.carry.new.self)) (sym (ap commit_in c.in-Commit.is)) (done.field-0, done.ensures.verdict, done.ensures.after)
