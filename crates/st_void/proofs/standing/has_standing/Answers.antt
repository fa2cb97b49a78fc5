use Rattle.std.proofs.Common.{◌≡◌, false, refl, ap, ◌∙◌}
use Rattle.std.specs.List.{list_any}
use Rattle.st_ids.specs.declared.names.NodeId.{NodeId}
use Rattle.st_marks.specs.Row.{Counted, spread}
use Rattle.st_rows.proofs.ListTests.{any_spread}
use Rattle.st_void.specs.declared.standing.When.{When}
use Rattle.st_void.specs.Standing.{stands}
use Rattle.st_void.proofs.standing.has_standing.Goals as goal

pub returns : goal.returns
returns c = c.some_stand.ensures ∙ any_spread (stands c.args.when c.args.node) (counted c.args.when c.args.node) c.as_slice.result.now ∙ ap (λ ms. list_any (stands c.args.when c.args.node) (spread ms)) c.as_slice.ensures
  where
    counted : (w : When) (n : NodeId) → stands w n Counted ≡ false
    counted When.Before n = refl
    counted When.After n = refl
