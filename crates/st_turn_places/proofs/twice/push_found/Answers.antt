use Rattle.std.proofs.Common.{ap, subst, ◌++◌, ◌∙◌}
use Rattle.st_turn_places.specs.inside.Sides.{IsTable}
use Rattle.st_turn_places.specs.inside.Twice.{found_twice}
use Rattle.st_turn_places.proofs.twice.push_found.Goals as goal

pub returns : goal.returns
returns c =
    let r = c.in_ok-push_elsewhere.ensures in (
      c.in_ok-others.others,
      r.0,
      c.in_ok-others.ensures,
      subst (λ l. IsTable l r.0) c.as_slice.ensures r.1,
      r.2 ∙ ap (λ l. c.args.found.now ++ found_twice c.args.list.now l r.0) c.as_slice.ensures,
    )
