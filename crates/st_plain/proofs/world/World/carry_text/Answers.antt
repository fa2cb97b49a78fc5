use Rattle.std.proofs.Common.{◌+◌, length, sym, ap, subst}
use Rattle.st_lists.specs.Log.{commit_in}
use Rattle.st_doc.specs.Doc.{document_of}
use Rattle.st_plain.specs.inside.Replicas.{HasLogged}
use Rattle.st_plain.proofs.world.World.carry_text.Goals as goal

pub returns-in_ok-log_commit-clause-logged : goal.returns-in_ok-log_commit-clause-logged
returns-in_ok-log_commit-clause-logged c =
    let w = c.args.self.now in
    subst (λ o. HasLogged (document_of w.log_document) w.logged (length w.lists.log + 1) o (document_of c.carry_one.new.doc) c.log_commit.new.logged) (sym (ap commit_in c.in-Commit.is))
    (c.in_ok-carried.carried, c.in_ok-carried.ensures.run, rw c.len.ensures at c.in_ok-log_commit.ensures)
