use Rattle.st_reading.proofs.CountedPieces.{alike_beside, alike_in_turn, beside-read, in_turn-read}
use Rattle.st_reading.proofs.laws.pieces_are_counted.Goals as goal

pub returns-clause-beside : goal.returns-clause-beside
returns-clause-beside c = beside-read

pub returns-clause-in_turn : goal.returns-clause-in_turn
returns-clause-in_turn c = in_turn-read

pub returns-clause-blind : goal.returns-clause-blind
returns-clause-blind c = alike_beside

pub returns-clause-blind_in_turn : goal.returns-clause-blind_in_turn
returns-clause-blind_in_turn c = alike_in_turn
