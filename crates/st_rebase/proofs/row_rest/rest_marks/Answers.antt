use Rattle.std.proofs.Common.{◌≡◌, map}
use Rattle.std.proofs.lemmas.Result.{IfOk-weaker}
use Rattle.std.specs.BTreeSet.{contains}
use Rattle.st_ids.specs.Order.{node_cmp}
use Rattle.st_marks.specs.Row.{merge, spread}
use Rattle.st_rebase.specs.Rest.{rest_row}
use Rattle.st_rebase.specs.inside.Marks.{rest_of}
use Rattle.st_rebase.proofs.RestMarks.{rest_merged}
use Rattle.st_rebase.proofs.row_rest.rest_marks.Goals as goal

pub returns : goal.returns
returns c = λ h. IfOk-weaker c.rest_each.result (λ t. t ≡ map (rest_of (contains node_cmp c.args.named.now)) c.args.marks.now) (λ t. t ≡ merge (rest_row (contains node_cmp c.args.named.now) (spread c.args.marks.now))) (λ t e. rest_merged (contains node_cmp c.args.named.now) c.args.marks.now t e h) c.rest_each.ensures
