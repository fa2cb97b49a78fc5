use Rattle.st_world_messages.proofs.Tests.{has_message, text_tells}
use Rattle.st_world_messages.proofs.laws.entries_have_messages.Goals as goal

pub returns : goal.returns
returns c = record { there = λ h n w i e x at. has_message h n w x i e at; told = λ O log i m v x y. text_tells O log i m v x y }
