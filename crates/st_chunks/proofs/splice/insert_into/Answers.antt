use Rattle.std.proofs.Common.{◌≡◌, ap, arith, length, get_or}
use Rattle.st_chunks.proofs.Found.{block_short, gap_inside, inserted, on_ok}
use Rattle.st_chunks.proofs.splice.insert_into.Goals as goal

pub insert-requires-clause-room : goal.insert-requires-clause-room
insert-requires-clause-room c =
    let bs = c.args.blocks.now.items in
    let x = c.index_mut.result.now in
    let h = block_short bs c.args.gap.block x (gap_inside bs c.requires.gap.0 c.args.gap.block c.args.gap.offset c.requires.gap.1) in
    let e : length x ≡ length (get_or bs c.args.gap.block x) = ap length c.index_mut.ensures.value in
    omega (arith, h, e, c.requires.room)

pub returns-clause-ok : goal.returns-clause-ok
returns-clause-ok c = on_ok c.insert.result
    (λ f place g. inserted c.args.blocks.now.items place c.args.gap.block c.args.gap.offset c.index_mut.result.now c.insert.new.self c.args.slot g c.index_mut.ensures.value f)
    c.insert.ensures.ok
