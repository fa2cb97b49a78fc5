use Rattle.st_idcodec.proofs.Parsing.{few_values, many_values}
use Rattle.st_idcodec.proofs.read.cluster_in.Goals as goal

pub returns-in_default : goal.returns-in_default
returns-in_default c = few_values c.args.values.now c.in_default.len_below

pub returns-in_default-2 : goal.returns-in_default-2
returns-in_default-2 c = many_values c.args.values.now c.in_default.len_at_least
