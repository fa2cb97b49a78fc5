use Rattle.std.proofs.Common.{◌∙◌}
use Rattle.std.specs.BTreeMap.{get}
use Rattle.std.specs.BTreeSet.{contains}
use Rattle.st_ids.specs.Order.{node_cmp}
use Rattle.st_marks.specs.Row.{spread}
use Rattle.st_rows.proofs.MergedMarks.{merged_is}
use Rattle.st_reading.proofs.TableAnswers.{both_ok, put_so}
use Rattle.st_reading.proofs.DocumentRowsOver.{rows_over}
use Rattle.st_reading.proofs.over.over_row.Goals as goal

pub returns-clause-documents : goal.returns-clause-documents
returns-clause-documents g c = λ D E N C S n x f h emb step puts w a b.
    let l = g.R.Reading.listed in
    let m = contains node_cmp c.args.named.now in
    let law = rows_over D E N x f h C S emb step m w l n (spread c.args.change.now) (spread c.args.step.now) a b in
    both_ok c.lay_alike.result c.lay_alike.ensures.merged c.lay_alike.ensures.cells
    (λ marks q e. merged_is marks _ q (e ∙ put_so l m (get node_cmp c.args.puts.now) _ (spread c.args.change.now) (spread c.args.step.now) puts ∙ law))
