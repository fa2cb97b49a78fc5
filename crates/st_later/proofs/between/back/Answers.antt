use Rattle.std.proofs.Common.{subst, sym}
use Rattle.st_marks.specs.Back.{IsBack}
use Rattle.st_doc.specs.Doc.{document_of}
use Rattle.st_later.proofs.between.back.Goals as goal

pub returns-clause-back : goal.returns-clause-back
returns-clause-back c =
    subst (IsBack (document_of c.args.before.now) (document_of c.args.after.now) c.args.rev c.args.under) (sym c.in_ok-intent.ensures) (c.in_ok-way.ensures c.args.rev c.args.under)
