use Rattle.std.proofs.Common.{sym}
use Rattle.std.specs.BTreeMap.{get}
use Rattle.std.specs.Ordering.{nat_cmp}
use Rattle.st_replay.proofs.DocsKept.{leads_there}
use Rattle.st_replay.proofs.authors.Authors.doc.Goals as goal

pub returns-clause-some : goal.returns-clause-some
returns-clause-some c = λ O log reference are is.
    let s = c.args.session in
    let a = c.in_ok-author.author.now in
    leads_there O log a is.author c.doc.result.now s reference (get nat_cmp c.args.self.now.docs s) (sym c.in_ok-author.ensures.value) is.kept is.at is.seen (c.doc.ensures O log s (are.each s a (sym c.in_ok-author.ensures.value)))
