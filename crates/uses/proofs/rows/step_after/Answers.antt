use Rattle.std.proofs.Common.{rules}
use Rattle.st_kind.proofs.Memory.{no_memory}
use Rattle.st_rows.proofs.KindLaws.{row_changes_are_short, row_has_room}
use Rattle.uses.proofs.rows.step_after.Goals as goal

pub rebase-requires : goal.rebase-requires
rebase-requires c =
    let r = c.requires in
    let b = r.4 in
    row_has_room r.0 r.1 r.2 r.3 _ _ b.fits b.fits_after b.makes_row b.says b.leads

pub returns-in_err-rebased : goal.returns-in_err-rebased
returns-in_err-rebased c p m a d b =
    let rebased = c.in_err-rebased.ensures.rebased p m a d b.fits b.fits_after b.keeps b.says b.leads in
    let none = no_memory c.in_err-rebased.field-0.0 _ rebased in
    search rules

pub effect-requires : goal.effect-requires
effect-requires c =
    let r = c.requires in
    let b = r.4 in
    let rebased = c.in_ok-rebased.ensures.rebased r.0 r.1 r.2 r.3 b.fits b.fits_after b.keeps b.says b.leads in
    row_changes_are_short r.0 r.3 _ b.fits_after b.makes_row rebased

pub returns : goal.returns
returns c p m a d b =
    let rebased = c.in_ok-rebased.ensures.rebased p m a d b.fits b.fits_after b.keeps b.says b.leads in
    c.in_ok-effect.ensures p d b.fits_after rebased b.makes_row
