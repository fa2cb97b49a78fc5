use Rattle.std.proofs.Common.{◌≡◌, true, Option, sym, subst}
use Rattle.st_lists.specs.Names.{names_made}
use Rattle.st_lists.specs.declared.lists.Body.TheVariants.{Commit}
use Rattle.st_marks.specs.declared.intents.Intent.{Intent}
use Rattle.st_marks.specs.declared.verdicts.Verdict.{Verdict}
use Rattle.st_valid.specs.Ids.{is_next_range}
use Rattle.st_valid.specs.Room.{has_room_for_names}
use Rattle.st_replay.specs.Stands.{StandsAt}
use Rattle.st_replay.specs.inside.Judging.{IsTurnedDown}
use Rattle.st_replay.specs.inside.Taking.{IsRefused, opening_of}
use Rattle.st_replay.proofs.MessagesEntered.{change_refused, commit_entered, follows_there}
use Rattle.st_replay.proofs.MessagesJudged.{change_says, change_valid, commit_may, follows}
use Rattle.st_replay.proofs.MessagesRead.{fault_along}
use Rattle.st_replay.proofs.replay.Replay.take_change.Goals as goal

pub commit-requires-clause-follows : goal.commit-requires-clause-follows
commit-requires-clause-follows c =
    let a = c.args in
    let r = a.self.now in
    let m = a.message.now in
    let O = opening_of r in
    let N = c.in-Ok.intent in
    let j = c.in-Ok.ensures.passed in
    let body = Commit a.reference a.ids N in
    follows_there c.judge.new.self O r.log m.session body j.1
    (follows O r.log m c.requires.passed c.requires.stands.valid (change_valid O r.log m c.requires.passed a.reference a.ids a.change.now c.requires.says N j.0) body
    (change_says O r.log m c.requires.passed a.reference a.ids a.change.now c.requires.says N j.0))

pub commit-requires-clause-next : goal.commit-requires-clause-next
commit-requires-clause-next c =
    let a = c.args in
    let r = a.self.now in
    let m = a.message.now in
    let j = c.in-Ok.ensures.passed in
    let may = commit_may (opening_of r) r.log m c.requires.passed a.reference a.ids a.change.now c.requires.says c.in-Ok.intent j.0 c.requires.stands.opens c.requires.stands.valid in
    subst (λ es. is_next_range es m.session a.ids ≡ true) (sym j.1.entries) may.1

pub commit-requires-clause-room : goal.commit-requires-clause-room
commit-requires-clause-room c =
    let a = c.args in
    let r = a.self.now in
    let m = a.message.now in
    let j = c.in-Ok.ensures.passed in
    let may = commit_may (opening_of r) r.log m c.requires.passed a.reference a.ids a.change.now c.requires.says c.in-Ok.intent j.0 c.requires.stands.opens c.requires.stands.valid in
    subst (λ es. has_room_for_names es (names_made c.in-Ok.intent) ≡ true) (sym j.1.entries) may.2

pub returns-in_ok-verdict-in-Ok-clause-entered : goal.returns-in_ok-verdict-in-Ok-clause-entered
returns-in_ok-verdict-in-Ok-clause-entered c =
    let a = c.args in
    let j = c.in-Ok.ensures.passed in
    let w = c.in_ok-verdict-in-Ok in
    commit_entered a.self.now c.commit.new.self a.message.now c.requires.passed a.reference a.ids a.change.now c.requires.says c.judge.new.self c.in-Ok.intent w.verdict j.1 j.0 w.ensures.verdict w.ensures.goes

pub returns-in-Err-clause-refused : goal.returns-in-Err-clause-refused
returns-in-Err-clause-refused c =
    let a = c.args in
    let r = a.self.now in
    let m = a.message.now in
    let s = c.judge.new.self in
    fault_along Intent (Option Verdict) c.in-Err.cause (λ x. IsTurnedDown (opening_of r) r.log m.session a.reference a.change.now x × StandsAt s (opening_of r) r.log) (λ x. IsRefused r m x s)
    (λ x h. change_refused r s m c.requires.passed a.reference a.ids a.change.now c.requires.says x h.0 h.1) c.in-Err.ensures.refused
