use Rattle.std.proofs.Common.{arith}
use Rattle.st_doc.specs.Doc.{document_of}
use Rattle.st_author_tests.proofs.Replays.{at_opening}
use Rattle.st_author_tests.proofs.messages.first_other.Goals as goal

pub loop-place-init : goal.loop-place-init
loop-place-init c =
    let opening = c.args.opening.now in
    record {
      is = c.start-author.ensures.is (document_of opening) c.args.log.now c.args.session (omega arith) (at_opening opening c.in_ok-copy.field-0 c.in_ok-copy.ensures c.requires.sound);
      seen = omega (arith, c.start-author.ensures.seen);
    }
