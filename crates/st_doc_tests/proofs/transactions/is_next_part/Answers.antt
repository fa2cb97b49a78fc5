use Rattle.std.proofs.Common.{subst, sym}
use Rattle.st_marks.specs.Document.{IsSoundInForm}
use Rattle.st_doc_tests.proofs.transactions.is_next_part.Goals as goal

pub is_sound_part-requires : goal.is_sound_part-requires
is_sound_part-requires c = subst IsSoundInForm (sym (c.shown_doc.ensures c.args.joined.now c.requires.has)) c.requires.sound
