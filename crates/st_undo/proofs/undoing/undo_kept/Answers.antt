use Rattle.std.proofs.Common.{refl}
use Rattle.std.proofs.lemmas.Result.{IfOk-weaker, on_ok_weaker}
use Rattle.st_undo.proofs.Answered.{kept_answered, kept_refused, kept_undone, never_gone, told_later, told_pending, told_window}
use Rattle.st_undo.proofs.Outcomes.{refused_along}
use Rattle.st_undo.proofs.undoing.undo_kept.Goals as goal

pub returns-in-Ok-clause-ok : goal.returns-in-Ok-clause-ok
returns-in-Ok-clause-ok g c = IfOk-weaker c.undo_step.result _ _
    (λ C gives p B F tells s has u is run.
    let l = g.R.Carrier.listed in
    let w = g.H.History.window c.args.history.now in
    let k = c.args.commit.now in
    kept_undone l p s c.args.fresh c.args.under w (told_window l g.H.History.listed p c.kept.result.now w c.requires c.kept.ensures.window (c.kept.ensures.kept p tells))
    c.as_slice.result.now (told_pending l g.H.History.listed p c.local.result.now c.as_slice.result.now c.requires c.as_slice.ensures (c.local.ensures p tells))
    k has c.in-Ok.later.now (told_later k.n c.kept.result.now w c.in-Ok.later.now c.kept.ensures.window c.in-Ok.ensures.ok) C gives B F u is run)
    c.undo_step.ensures.ok

pub returns-in-Ok-clause-answered : goal.returns-in-Ok-clause-answered
returns-in-Ok-clause-answered g c = on_ok_weaker c.undo_step.result
    (λ e p tells s has.
    let l = g.R.Carrier.listed in
    let w = g.H.History.window c.args.history.now in
    kept_answered l p s w (told_window l g.H.History.listed p c.kept.result.now w c.requires c.kept.ensures.window (c.kept.ensures.kept p tells)) c.args.commit.now has e)
    c.undo_step.ensures.answered

pub returns-in-Ok-clause-refused : goal.returns-in-Ok-clause-refused
returns-in-Ok-clause-refused g c = refused_along c.undo_step.result _ _
    (λ f e p tells s has.
    let l = g.R.Carrier.listed in
    let w = g.H.History.window c.args.history.now in
    kept_refused l p s w (told_window l g.H.History.listed p c.kept.result.now w c.requires c.kept.ensures.window (c.kept.ensures.kept p tells)) c.args.commit.now has f e)
    c.undo_step.ensures.refused

pub returns-in-Err-clause-refused : goal.returns-in-Err-clause-refused
returns-in-Err-clause-refused g c = λ p tells s has.
    let l = g.R.Carrier.listed in
    let w = g.H.History.window c.args.history.now in
    never_gone l p w (told_window l g.H.History.listed p c.kept.result.now w c.requires c.kept.ensures.window (c.kept.ensures.kept p tells)) c.args.commit.now has c.kept.result.now c.kept.ensures.window
    (c.in-Err.ensures.below.0 refl)
