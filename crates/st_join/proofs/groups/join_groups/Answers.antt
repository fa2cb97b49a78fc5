use Rattle.std.proofs.Common.{◌∙◌, ◌++◌, ap, map, not}
use Rattle.std.specs.BTreeSet.{contains}
use Rattle.std.specs.List.{filter}
use Rattle.st_marks.specs.declared.intents.Group.{Group}
use Rattle.st_join.specs.inside.Lists.{with_cells_in}
use Rattle.st_join.specs.inside.Places.{cells_at, place_cmp}
use Rattle.st_join.proofs.Assembled.{groups_joined}
use Rattle.st_join.proofs.groups.join_groups.Goals as goal

pub returns : goal.returns
returns c = groups_joined c.args.first.now c.args.second.now (cells_at c.in_ok-places.places) (λ n a. contains place_cmp c.in_ok-taken.taken (n, a)) c.in_ok-places.ensures c.in_ok-taken.ensures
    c.new-groups.result c.push_first.new.list c.push_others.new.list c.new-groups.ensures
    (c.in_ok-push_first.ensures ∙ ap (λ gs. c.new-groups.result ++ map (with_cells_in (cells_at c.in_ok-places.places)) gs) c.as_slice.ensures)
    (c.in_ok-push_others.ensures ∙ ap (λ gs. c.push_first.new.list ++ filter (λ (g : Group). not (contains place_cmp c.in_ok-taken.taken (g.node, g.after))) gs) c.as_slice-2.ensures)
