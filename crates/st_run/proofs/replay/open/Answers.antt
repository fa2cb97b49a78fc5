use Rattle.std.proofs.Common.{sym, subst}
use Rattle.st_replay.specs.Stands.{MayOpen}
use Rattle.st_script.specs.Header.{header_view}
use Rattle.st_run.proofs.Replaying.{header_may_open}
use Rattle.st_run.proofs.replay.open.Goals as goal

pub new-requires : goal.new-requires
new-requires c = record { opens = subst MayOpen (sym c.in_ok-doc.ensures) (header_may_open (header_view c.args.header.now) c.requires) }
