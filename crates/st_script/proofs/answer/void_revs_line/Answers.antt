use Rattle.std.proofs.Common.{◌∙◌, ap}
use Rattle.serde_json.specs.Written.{has_float}
use Rattle.st_script.proofs.Revisions.{void_revs_plain}
use Rattle.st_script.proofs.answer.void_revs_line.Goals as goal

pub write_line-requires : goal.write_line-requires
write_line-requires c = ap has_float c.in_ok-value.ensures ∙ void_revs_plain c.args.word.now c.args.void.now
