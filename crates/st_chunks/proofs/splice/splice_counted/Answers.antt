use Rattle.std.proofs.Common.{arith}
use Rattle.st_chunks.proofs.Walks.{groups_cut}
use Rattle.st_chunks.proofs.splice.splice_counted.Goals as goal

pub returns-clause-groups : goal.returns-clause-groups
returns-clause-groups c =
    groups_cut c.args.groups.now.items c.truncate.new.self.items c.args.blocks.now.items c.splice_at.new.blocks.items c.args.from.block (omega (arith, c.requires.from.1.inside)) c.requires.groups
    c.truncate.ensures.items c.in_ok-splice_at.ensures.front
