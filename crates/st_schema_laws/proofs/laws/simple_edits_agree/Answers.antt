use Rattle.st_schema_laws.proofs.Simple.{remove_agrees, clear_agrees, need_agrees, move_agrees}
use Rattle.st_schema_laws.proofs.laws.simple_edits_agree.Goals as goal

pub returns : goal.returns
returns c = record { remove = remove_agrees; clear = clear_agrees; need = need_agrees; moves = move_agrees }
