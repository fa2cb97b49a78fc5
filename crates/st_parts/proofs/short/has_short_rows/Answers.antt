use Rattle.std.proofs.Common.{◌≡◌, ◌^◌, length, nat_lt, ap, sym, ◌∙◌}
use Rattle.std.specs.List.{list_all}
use Rattle.st_marks.specs.declared.marks.RowMarks.{RowMarks}
use Rattle.st_marks.specs.Row.{spread}
use Rattle.st_parts.proofs.ShortRows.{all_tested}
use Rattle.st_parts.proofs.short.has_short_rows.Goals as goal

pub returns : goal.returns
returns c =
    let t = all_tested (λ (r : RowMarks). length (spread r.marks)) (2 ^ 32) c.args.change.now.rows in
    let says : c.are_short.result ≡ list_all (λ (r : RowMarks). nat_lt (length (spread r.marks)) (2 ^ 32)) c.args.change.now.rows
    = c.are_short.ensures ∙ ap (list_all (λ (r : RowMarks). nat_lt (length (spread r.marks)) (2 ^ 32))) c.as_slice.ensures in
    (λ e. t.0 (sym says ∙ e), λ a. says ∙ t.1 a)
