-- Commits with few names leave room; how many names the first of them make, and which limit they pass.
use Rattle.std.proofs.Common.{List, arith, ◌≤◌}
use Rattle.st_lists.proofs.Names.{cells_few}
use Rattle.st_marks.specs.declared.intents.Intent.{Intent}
use Rattle.st_marks.specs.Document.{Document}
use Rattle.st_log_laws.specs.Turns.{HasRoom}
use Rattle.st_lists.specs.Names.{names_in}
use Rattle.st_world_laws.proofs.Begun.{IsStart}

pub room_left : (D : Document) (Ns : List Intent) → IsStart D → names_in Ns ≤ 200000 → HasRoom D Ns
room_left D Ns s few n = omega (arith, s.short n, cells_few Ns, few)
