use Rattle.st_heads.proofs.Runs.{way_undoes}
use Rattle.st_heads.proofs.laws.remembered_ways_undo.Goals as goal

pub returns : goal.returns
returns c = λ O E front rest ks ls N k fresh r e out. way_undoes O E front rest ks ls N k fresh r e out
