use Rattle.std.proofs.Common.{◌+◌, ◌∷◌, [], ◌++◌, ap, ◌∙◌}
use Rattle.st_seq.proofs.NamedCells.{row_on, standing_row_on, with_none}
use Rattle.st_seq.proofs.name_clashes.named_in_row.Goals as goal

pub loop-slot-preserved : goal.loop-slot-preserved
loop-slot-preserved c = record {
  cells = row_on c.args.row.now c.loop-slot.slot-index c.loop-slot.left _ c.loop-slot.out.cells c.push_names.new.out.cells c.loop-slot-test.true c.loop-slot.invariant.cells c.loop-slot.invariant.left (c.in_ok-push_names.ensures.cells ∙ ap (λ n. c.loop-slot.out.cells ++ n ∷ []) c.found_at.ensures);
  nodes = standing_row_on c.args.row.now c.loop-slot.slot-index c.loop-slot.left _ c.loop-slot.out.nodes c.push_names.new.out.nodes _ c.loop-slot-test.true c.loop-slot.invariant.nodes c.loop-slot.invariant.left (with_none _ ∙ c.stands_at.ensures) c.in_ok-push_names.ensures.nodes;
  left = ap (λ n. n + 1) c.loop-slot.invariant.left;
}
