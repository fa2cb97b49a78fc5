use Rattle.st_strip.proofs.listing.fill.Goals as goal

pub returns : goal.returns
returns c = record {
  schema = c.in_ok-step-3.ensures;
  new_nodes = c.in_ok-step.ensures;
  fields = record { rows = c.in_ok-fill_fields.ensures.rows; regs = c.in_ok-fill_fields.ensures.regs };
  loose = c.in_ok-step-2.ensures;
}
