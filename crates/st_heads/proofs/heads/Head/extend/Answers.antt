use Rattle.std.proofs.Common.{sym}
use Rattle.st_heads.proofs.Extending.{none_carried, next_fits, HasCarried-take_next, rest_fits}
use Rattle.st_heads.proofs.heads.Head.extend.Goals as goal

pub loop-intent-init : goal.loop-intent-init
loop-intent-init c = record { carried = none_carried c.args.self.now; sound = c.requires.sound; fit = c.requires.fit }

pub loop-intent-preserved : goal.loop-intent-preserved
loop-intent-preserved c =
    let Ns = c.args.intents.now in
    let i = c.loop-intent.intent-index in
    let N = c.intent-item.result in
    let h = c.loop-intent.self in
    let k = c.carry.new.self in
    let inside = c.loop-intent-test.true in
    let at = sym c.intent-item.is in
    let v = c.loop-intent.invariant in
    record {
      carried = HasCarried-take_next Ns i N inside at c.args.self.now h k v.carried c.in_ok-carry.ensures.carried;
      sound = c.in_ok-carry.ensures.still_sound (next_fits Ns i N inside at h v.fit).1;
      fit = rest_fits Ns i N inside at h k v.fit c.in_ok-carry.ensures.carried;
    }
