use Rattle.std.proofs.Common.{sym}
use Rattle.st_clusters.proofs.InOrder.{meeting_least}
use Rattle.st_clusters.proofs.compressor.Compressor.session_meeting.Goals as goal

pub returns : goal.returns
returns c =
    let self = c.args.self.now in
    rw (c.least.ensures, c.session_spanning.ensures, c.session_spanning-2.ensures) (sym (meeting_least self.sessions.items c.args.uuid c.free_number-first.result c.free_after-last.result self.sound.wide c.ranges.uuid.fits
    c.free_number-first.ensures.value c.free_after-last.ensures.value))
