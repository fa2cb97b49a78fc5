use Rattle.std.proofs.Common.{rules, ◌≡◌, ◌+◌, ◌-◌, ◌==◌, Some, None, position, take, drop, length}
use Rattle.st_pieces.proofs.Cutting.{next_at, next_none}
use Rattle.st_pieces.proofs.reading.next_feed.Goals as goal

pub returns-in-Some-clause-feed : goal.returns-in-Some-clause-feed
returns-in-Some-clause-feed c =
    let r = c.args.reading.now in
    let items = r.pending.items in
    let found : Some c.in-Some.at ≡ position (λ b. b == 10) (take (length items - (r.from + r.seen)) (drop (r.from + r.seen) items)) = search rules in
    next_at items r.from r.seen (Some c.in-Some.at) c.requires.searched found

pub returns-in-None-clause-none : goal.returns-in-None-clause-none
returns-in-None-clause-none c = λ e.
    let r = c.args.reading.now in
    let items = r.pending.items in
    let found : None ≡ position (λ b. b == 10) (take (length items - (r.from + r.seen)) (drop (r.from + r.seen) items)) = search rules in
    next_none items r.from r.seen None c.requires.searched found e
