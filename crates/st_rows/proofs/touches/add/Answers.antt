use Rattle.std.proofs.Common.{ap, sym, ◌∙◌, ◌∷◌, []}
use Rattle.std.specs.BTreeMap.{get}
use Rattle.std.specs.Option.{option_or}
use Rattle.st_ids.specs.Order.{node_cmp}
use Rattle.st_marks.specs.declared.marks.Mark.{Mark}
use Rattle.st_marks.specs.Row.{spread}
use Rattle.st_rows.specs.Cells.{touch_of}
use Rattle.st_rows.proofs.TouchMaps.{counted-untouched}
use Rattle.st_rows.proofs.touches.add.Goals as goal

pub returns-in-Skip : goal.returns-in-Skip
returns-in-Skip c = λ n. sym (ap (λ (m : Mark). option_or (touch_of (spread (m ∷ [])) n) (get node_cmp c.args.touches.now n)) c.in-Skip.is ∙ ap (λ o. option_or o (get node_cmp c.args.touches.now n)) (counted-untouched c.in-Skip.field-0 n))
