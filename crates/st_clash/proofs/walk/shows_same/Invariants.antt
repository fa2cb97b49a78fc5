use Rattle.std.proofs.Common.{◌≡◌, length}
use Rattle.st_marks.specs.Listings.{cells_before}
use Rattle.st_marks.specs.Row.{spread}
use Rattle.st_clash.specs.Views.{same_views}
use Rattle.st_clash.specs.inside.Walk.{views_left}
use Rattle.st_clash.proofs.walk.shows_same.Given as goal

abbrev pub invariant-cells : goal.invariant-cells
invariant-cells l = same_views (views_left l.x_count l.xs) (views_left l.y_count l.ys) ≡ same_views (cells_before (spread l.a)) (cells_before (spread l.b))

abbrev pub decreases-cells : goal.decreases-cells
decreases-cells l = length (views_left l.x_count l.xs)
