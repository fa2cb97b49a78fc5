use Rattle.st_part_laws.proofs.InEffect.{left_nodes, left_places, left_registers}
use Rattle.st_part_laws.proofs.laws.the_part_in_effect_is_left.Goals as goal

pub returns : goal.returns
returns c = record { nodes = left_nodes; places = left_places; registers = left_registers }
