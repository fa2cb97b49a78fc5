use Rattle.st_part_laws.proofs.Carrying.{fits_part, part_of_full, stays_closed}
use Rattle.st_part_laws.proofs.Voiding.{part_of_void, places_stay, registers_stay, verdict_part}
use Rattle.st_part_laws.proofs.laws.parts_are_carried.Goals as goal

pub returns : goal.returns
returns c = record { fits = fits_part; verdict = verdict_part; whole = part_of_full; void = part_of_void; closed = stays_closed; places = places_stay; registers = registers_stay }
