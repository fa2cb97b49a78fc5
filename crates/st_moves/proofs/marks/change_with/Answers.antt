use Rattle.std.proofs.Common.{refl}
use Rattle.st_moves.proofs.marks.change_with.Goals as goal

pub returns : goal.returns
returns c = record {
  commit = record {
    rev = refl;
    under = refl;
    schema = c.in_ok-schema.ensures;
    need = c.in_ok-need.ensures;
    new = c.in_ok-new.ensures;
  };
  base = refl;
  rows_are = refl;
  regs_are = refl;
  loose_are = refl;
}
