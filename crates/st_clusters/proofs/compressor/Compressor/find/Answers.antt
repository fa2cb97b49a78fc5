use Rattle.std.proofs.Common.{sym, ◌∙◌}
use Rattle.st_clusters.proofs.Stable.{found_ok, found_back, found_none, not_v4}
use Rattle.st_clusters.proofs.compressor.Compressor.find.Goals as goal

pub returns-then-not-is_v4-clause-back : goal.returns-then-not-is_v4-clause-back
returns-then-not-is_v4-clause-back c = λ r h.
    let self = c.args.self.now in
    absurd (not_v4 self.sessions.items self.clusters.items self.places.items c.args.uuid self.sound (sym c.if-not-is_v4.ensures) r h)

pub returns-in-Some-clause-ok : goal.returns-in-Some-clause-ok
returns-in-Some-clause-ok c =
    let self = c.args.self.now in
    rw c.id_at.ensures (found_ok self.sessions.items self.clusters.items self.places.items c.args.uuid c.free_number-free.result c.in-Some.place c.index.result.now self.sound c.ranges.uuid.fits
    (sym c.if-not-is_v4.ensures) c.free_number-free.ensures.value (sym c.in-Some.ensures) c.index.ensures)

pub returns-in-Some-clause-back : goal.returns-in-Some-clause-back
returns-in-Some-clause-back c = λ r h.
    let self = c.args.self.now in
    c.id_at.ensures ∙ found_back self.sessions.items self.clusters.items self.places.items c.args.uuid c.free_number-free.result c.in-Some.place c.index.result.now self.sound
    c.free_number-free.ensures.value (sym c.in-Some.ensures) c.index.ensures r h

pub returns-in-None-clause-back : goal.returns-in-None-clause-back
returns-in-None-clause-back c = λ r h.
    let self = c.args.self.now in
    absurd (found_none self.sessions.items self.clusters.items self.places.items c.args.uuid c.free_number-free.result self.sound
    c.free_number-free.ensures.value (sym c.in-None.ensures) r h)
