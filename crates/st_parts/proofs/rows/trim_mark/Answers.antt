use Rattle.std.proofs.Common.{[], ◌∷◌, map, sym, ap, ◌∙◌}
use Rattle.std.specs.BTreeSet.{contains}
use Rattle.st_ids.specs.Order.{node_cmp}
use Rattle.st_marks.specs.declared.marks.Mark.{Mark}
use Rattle.st_marks.specs.Row.{spread}
use Rattle.st_trim.specs.Trimmed.{trim_mark}
use Rattle.st_parts.proofs.CutChanges.{trim_counted}
use Rattle.st_parts.proofs.rows.trim_mark.Goals as goal

pub returns-in-Skip : goal.returns-in-Skip
returns-in-Skip c = trim_counted (contains node_cmp c.args.named.now) c.in-Skip.count ∙ ap (λ (m : Mark). map (trim_mark (contains node_cmp c.args.named.now)) (spread (m ∷ []))) (sym c.in-Skip.is)
