use Rattle.st_chunks.proofs.Found.{gap_count}
use Rattle.st_chunks.proofs.splice.put_at.Goals as goal

pub splice_counted-requires-clause-count : goal.splice_counted-requires-clause-count
splice_counted-requires-clause-count c = gap_count c.args.blocks.now.items c.args.place c.args.at.block c.args.at.offset c.args.count c.requires.gap c.requires.within
