use Rattle.st_chunks.proofs.Walks.{put_behind}
use Rattle.st_chunks.proofs.splice.put.Goals as goal

pub returns-in-None-clause-groups : goal.returns-in-None-clause-groups
returns-in-None-clause-groups c =
    put_behind c.put_first.result c.args.groups.now.items c.args.blocks.now.items c.put_first.new.blocks.items c.args.with.now c.requires.groups c.put_first.ensures.ok c.put_first.ensures.err
