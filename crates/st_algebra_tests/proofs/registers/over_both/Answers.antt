use Rattle.st_register.proofs.Example.{stands}
use Rattle.st_algebra_tests.proofs.registers.over_both.Goals as goal

pub rebase_over_both-requires : goal.rebase_over_both-requires
rebase_over_both-requires c = stands
