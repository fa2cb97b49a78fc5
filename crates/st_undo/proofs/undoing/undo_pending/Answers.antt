use Rattle.std.proofs.lemmas.Result.{IfOk-weaker, on_ok_weaker}
use Rattle.st_undo.proofs.Answered.{pending_answered, pending_refused, pending_undone, told_at, told_gone}
use Rattle.st_undo.proofs.Outcomes.{refused_along}
use Rattle.st_undo.proofs.undoing.undo_pending.Goals as goal

pub returns-in_default-clause-refused : goal.returns-in_default-clause-refused
returns-in_default-clause-refused g c = λ p tells s there h none.
    told_gone g.R.Carrier.listed g.H.History.listed p s (g.H.History.window c.args.history.now) h c.local.result.now c.as_slice-pending.result.now c.args.rev c.place_of.result c.lowest.result
    c.requires c.as_slice-pending.ensures (c.local.ensures p tells) c.place_of.ensures.place c.in_default.is c.lowest.ensures there none

pub returns-in-Some-split_first-clause-ok : goal.returns-in-Some-split_first-clause-ok
returns-in-Some-split_first-clause-ok g c = IfOk-weaker c.undo_change.result _ _
    (λ C gives p B F tells s u is run.
    let q = told_at g.R.Carrier.listed g.H.History.listed p c.args.rev c.local.result.now c.as_slice-pending.result.now c.split_at.result.1.now c.place_of.result c.in-Some.place c.in-Some-split_first.commit.now c.in-Some-split_first.later.now
    c.requires c.as_slice-pending.ensures (c.local.ensures p tells) c.place_of.ensures.place c.in-Some.is c.split_at.ensures.back c.in-Some-split_first.ensures.cases.0 in
    pending_undone g.R.Carrier.listed p s c.args.fresh c.args.under c.args.rev c.in-Some-split_first.commit.now c.in-Some-split_first.later.now q C gives B F u is run)
    c.undo_change.ensures.ok

pub returns-in-Some-split_first-clause-answered : goal.returns-in-Some-split_first-clause-answered
returns-in-Some-split_first-clause-answered g c = on_ok_weaker c.undo_change.result
    (λ gives p tells s.
    let q = told_at g.R.Carrier.listed g.H.History.listed p c.args.rev c.local.result.now c.as_slice-pending.result.now c.split_at.result.1.now c.place_of.result c.in-Some.place c.in-Some-split_first.commit.now c.in-Some-split_first.later.now
    c.requires c.as_slice-pending.ensures (c.local.ensures p tells) c.place_of.ensures.place c.in-Some.is c.split_at.ensures.back c.in-Some-split_first.ensures.cases.0 in
    pending_answered g.R.Carrier.listed p s c.args.fresh c.args.under c.args.rev c.in-Some-split_first.commit.now c.in-Some-split_first.later.now q (g.H.History.window c.args.history.now).floor gives)
    c.undo_change.ensures.answered

pub returns-in-Some-split_first-clause-refused : goal.returns-in-Some-split_first-clause-refused
returns-in-Some-split_first-clause-refused g c = refused_along c.undo_change.result _ _
    (λ f gives p tells s there h none.
    let q = told_at g.R.Carrier.listed g.H.History.listed p c.args.rev c.local.result.now c.as_slice-pending.result.now c.split_at.result.1.now c.place_of.result c.in-Some.place c.in-Some-split_first.commit.now c.in-Some-split_first.later.now
    c.requires c.as_slice-pending.ensures (c.local.ensures p tells) c.place_of.ensures.place c.in-Some.is c.split_at.ensures.back c.in-Some-split_first.ensures.cases.0 in
    pending_refused g.R.Carrier.listed p s c.args.fresh c.args.under c.args.rev c.in-Some-split_first.commit.now c.in-Some-split_first.later.now q (g.H.History.window c.args.history.now).floor f gives)
    c.undo_change.ensures.refused
