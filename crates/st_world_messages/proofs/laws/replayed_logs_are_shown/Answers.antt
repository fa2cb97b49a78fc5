use Rattle.st_world_messages.proofs.Replayed.{shown_whole}
use Rattle.st_world_messages.proofs.laws.replayed_logs_are_shown.Goals as goal

pub returns : goal.returns
returns c = λ O D log d received pending none shown. shown_whole O D log d received pending none shown
