use Rattle.st_over.proofs.fields.fields_over.Goals as goal

pub returns : goal.returns
returns g c = record {
  rows_listed = c.in_ok-rows.ensures;
  regs_listed = c.in_ok-regs.ensures;
  loose_listed = c.in_ok-loose.ensures.loose;
  ordered = c.in_ok-loose.ensures.ordered;
}
