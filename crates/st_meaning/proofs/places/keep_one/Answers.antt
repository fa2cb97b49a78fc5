use Rattle.st_meaning.specs.inside.Made.{cells_at}
use Rattle.st_meaning.proofs.Loops.{none_kept, one_kept}
use Rattle.st_meaning.proofs.places.keep_one.Goals as goal

pub returns-in-None : goal.returns-in-None
returns-in-None c = λ n a. none_kept c.args.row n a c.args.one (cells_at c.args.cells.now n a) c.in-None.is

pub returns-in_ok-keep_made-in-Some : goal.returns-in_ok-keep_made-in-Some
returns-in_ok-keep_made-in-Some c = λ n a. one_kept c.args.row n a c.in-Some.after c.in-Some.made c.args.one (cells_at c.args.cells.now n a) (cells_at c.keep_made.new.cells n a) c.in-Some.is (c.in_ok-keep_made-in-Some.ensures n a)
