use Rattle.std.proofs.Common.{subst, sym}
use Rattle.st_marks.specs.Document.{IsSoundInForm}
use Rattle.st_doc_tests.proofs.transactions.head_shows.Goals as goal

pub shows-requires : goal.shows-requires
shows-requires c = subst IsSoundInForm (sym (c.shown_doc.ensures c.args.joined.now c.requires.has)) c.requires.sound
