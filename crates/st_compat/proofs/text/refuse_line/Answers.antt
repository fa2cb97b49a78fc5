use Rattle.std.proofs.Common.{◌∙◌, ap}
use Rattle.serde_json.specs.Written.{has_float}
use Rattle.st_compat.proofs.PlainCauses.{refusal_plain}
use Rattle.st_compat.proofs.text.refuse_line.Goals as goal

pub write_line-requires : goal.write_line-requires
write_line-requires c = ap has_float c.in_ok-value.ensures ∙ refusal_plain c.args.causes.now
