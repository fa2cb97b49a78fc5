use Rattle.std.proofs.Common.{ap, subst}
use Rattle.std.proofs.lemmas.Result.{IfOk-weaker, on_ok_weaker}
use Rattle.std.specs.Option.{option_copied}
use Rattle.st_lists.specs.Undoing.{IsUndoing}
use Rattle.st_history.specs.Past.{commits_of}
use Rattle.st_undo.specs.inside.Refused.{IsRefusedThere, IsUndoneThere}
use Rattle.st_undo.proofs.Answered.{is_found, not_found, told_window}
use Rattle.st_undo.proofs.Outcomes.{refused_along}
use Rattle.st_undo.proofs.undoing.undo_own.Goals as goal

pub returns-in-Some-clause-ok : goal.returns-in-Some-clause-ok
returns-in-Some-clause-ok g c = IfOk-weaker c.undo_kept.result _ _
    (λ C gives p B F tells s u is run.
    let w = g.H.History.window c.args.history.now in
    let f = is_found c.args.rev c.kept.result.now w c.in-Some.commit.now c.kept.ensures.window c.in-Some.ensures in
    gives p B F tells s f.0 (subst (λ r. IsUndoing p.opening (commits_of p) r c.args.fresh B) f.2 u) is run)
    c.undo_kept.ensures.ok

pub returns-in-Some-clause-answered : goal.returns-in-Some-clause-answered
returns-in-Some-clause-answered g c = on_ok_weaker c.undo_kept.result
    (λ gives p tells s.
    let w = g.H.History.window c.args.history.now in
    let f = is_found c.args.rev c.kept.result.now w c.in-Some.commit.now c.kept.ensures.window c.in-Some.ensures in
    subst (IsUndoneThere w.floor p) f.1 (gives p tells s f.0))
    c.undo_kept.ensures.answered

pub returns-in-Some-clause-refused : goal.returns-in-Some-clause-refused
returns-in-Some-clause-refused g c = refused_along c.undo_kept.result _ _
    (λ x gives p tells s there.
    let w = g.H.History.window c.args.history.now in
    let f = is_found c.args.rev c.kept.result.now w c.in-Some.commit.now c.kept.ensures.window c.in-Some.ensures in
    subst (λ r. IsRefusedThere w.floor p r x) f.1 (gives p tells s f.0))
    c.undo_kept.ensures.refused

pub returns-in-None-clause-refused : goal.returns-in-None-clause-refused
returns-in-None-clause-refused g c = refused_along c.undo_pending.result _ _
    (λ x gives p tells s there.
    let l = g.R.Carrier.listed in
    let w = g.H.History.window c.args.history.now in
    gives p tells s there (told_window l g.H.History.listed p c.kept.result.now w c.requires c.kept.ensures.window (c.kept.ensures.kept p tells)) (not_found c.args.rev c.kept.result.now w (option_copied c.find.result) c.kept.ensures.window c.find.ensures (ap option_copied c.in-None.is)))
    c.undo_pending.ensures.refused
