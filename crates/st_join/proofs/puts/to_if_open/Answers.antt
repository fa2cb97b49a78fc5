use Rattle.std.proofs.Common.{sym}
use Rattle.std.specs.BTreeSet.{contains}
use Rattle.st_ids.specs.Order.{field_cmp}
use Rattle.st_join.proofs.Assembled.{open_register}
use Rattle.st_join.proofs.puts.to_if_open.Goals as goal

pub returns-in_ok-copy-in-Register : goal.returns-in_ok-copy-in-Register
returns-in_ok-copy-in-Register c =
    open_register (contains field_cmp c.args.cleared.now) c.in-Register.field c.in_ok-copy-in-Register.field-0 c.args.to.now c.in-Register.is c.in_ok-copy-in-Register.ensures (sym c.if-contains.ensures)
