use Rattle.std.proofs.Common.{ap, ◌∙◌}
use Rattle.std.specs.Prelude.{min, ◌-◌, ◌^◌}
use Rattle.st_lists.specs.Names.{names_in}
use Rattle.st_lists.proofs.Names.{names_first}
use Rattle.st_plain_log.proofs.reconnecting.names_of_first.Goals as goal

pub returns : goal.returns
returns c = names_first c.args.count c.names_in.result c.args.pending.now c.requires.few (c.names_in.ensures ∙ ap (λ Ns. min (names_in Ns) (2 ^ 64 - 1)) c.split_at.ensures.front)
