use Rattle.std.proofs.Common.{refl}
use Rattle.st_embed.proofs.change.change_with.Goals as goal

pub returns : goal.returns
returns c = λ m which f. record {
  mentioned = m;
  which = which;
  rev = refl;
  under = refl;
  base = c.has_base.ensures;
  schema = c.in_ok-schema.ensures;
  need = c.in_ok-need.ensures;
  new = c.in_ok-new.ensures;
  rows = f.rows;
  regs = f.regs;
  loose = f.loose;
}
