use Rattle.serde_json.specs.View.{members_view}
use Rattle.st_mark_reader.specs.Reading.{has_names}
use Rattle.std.proofs.Common.{map}
use Rattle.st_mark_reader.proofs.Lengths.{names_ended}
use Rattle.st_mark_reader.proofs.values.has_names.Goals as goal

pub returns : goal.returns
returns c = names_ended (λ n. n.now) c.loop-key.left.now c.loop-key.key-iterator c.is_empty.result (has_names (map (λ n. n.now) c.args.names.now) (members_view c.args.members.now.entries)) c.in-None.ensures.steps.0 c.is_empty.ensures c.loop-key.invariant.named
