use Rattle.std.proofs.Common.{◌≡◌, arith, length, get_or, ap}
use Rattle.st_chunks.proofs.Found.{block_short, flipped, item_inside}
use Rattle.st_chunks.proofs.splice.flip_in.Goals as goal

pub flip-requires-clause-room : goal.flip-requires-clause-room
flip-requires-clause-room c =
    let bs = c.args.blocks.now.items in
    let x = c.index_mut.result.now in
    let h = block_short bs c.args.gap.block x (item_inside bs c.requires.item.0 c.args.gap.block c.args.gap.offset c.requires.item.1) in
    let e : length x ≡ length (get_or bs c.args.gap.block x) = ap length c.index_mut.ensures.value in
    omega (arith, h, e, c.requires.room)

pub returns-clause-flip : goal.returns-clause-flip
returns-clause-flip c = λ place g. flipped c.args.blocks.now.items place c.args.gap.block c.args.gap.offset c.index_mut.result.now c.flip.new.self c.args.full g c.index_mut.ensures.value c.flip.ensures
