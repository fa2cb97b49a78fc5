-- The names that an edit on a line may give have small numbers.
use Rattle.std.proofs.Common.{None, Option, Some, arith, ◌<◌}
use Rattle.std.specs.Prelude.{◌^◌}
use Rattle.st_lists.specs.declared.lists.Client.{Client}
use Rattle.st_lists.specs.declared.lists.Transaction.{Transaction}
use Rattle.st_world.specs.World.{next_names}
use Rattle.st_plain_edits.specs.Taking.{HasNumbersLeft}

pub left_few : (c : Client) (o : Option Transaction) → HasNumbersLeft o → (next_names c o).nodes < 2 ^ 31 × (next_names c o).cells < 2 ^ 31
left_few c None left = (omega arith, omega arith)
left_few c (Some t) left = (omega (arith, left), omega (arith, left))
