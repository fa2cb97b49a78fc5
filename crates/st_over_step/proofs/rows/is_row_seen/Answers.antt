use Rattle.std.proofs.Common.{[], unwrap_or, option_copied}
use Rattle.std.proofs.Common.{refl}
use Rattle.st_marks.specs.Listings.{cells_before}
use Rattle.st_marks.specs.Row.{spread}
use Rattle.st_lemmas.proofs.Bools.{true-false}
use Rattle.st_over_step.proofs.Passing.{never_seen, wholly_seen}
use Rattle.st_over_step.proofs.rows.is_row_seen.Goals as goal

pub returns-in-None : goal.returns-in-None
returns-in-None c = (λ t. absurd (true-false t refl), λ h. absurd (never_seen (unwrap_or (option_copied c.args.row) []) (cells_before (spread c.args.marks.now)) c.in-None.ensures h))

pub returns-in-Some : goal.returns-in-Some
returns-in-Some c = wholly_seen (unwrap_or (option_copied c.args.row) []) c.in-Some.place (cells_before (spread c.args.marks.now)) c.slot_at.result c.is_none.result c.in-Some.ensures c.slot_at.ensures.slot c.is_none.ensures
