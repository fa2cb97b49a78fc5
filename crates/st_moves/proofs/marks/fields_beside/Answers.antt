use Rattle.st_moves.proofs.marks.fields_beside.Goals as goal

pub returns : goal.returns
returns c = record {
  rows_listed = c.in_ok-rows.ensures;
  regs_listed = c.in_ok-regs.ensures;
  loose_listed = c.in_ok-loose.ensures.loose;
  ordered = c.in_ok-loose.ensures.ordered;
}
