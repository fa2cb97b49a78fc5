use Rattle.std.proofs.Common.{◌++◌, ap, ◌∙◌, refl}
use Rattle.std.specs.List.{flat_map}
use Rattle.st_marks.specs.Listings.{listing_before_change, listing_before_step}
use Rattle.st_agree.specs.inside.Names.{made_again, nodes_of_change, nodes_of_step}
use Rattle.st_agree.specs.inside.Places.{found_twice, placements_of_change, placements_of_step}
use Rattle.st_agree.specs.inside.Rows.{register_apart, row_apart}
use Rattle.st_agree.proofs.ShownPlaces.{change_placed, step_placed}
use Rattle.st_agree.proofs.AllRules.{behind_five}
use Rattle.st_agree.proofs.FieldsFound.{all_found, all_told, told_all}
use Rattle.st_agree.proofs.NodesTwice.{told_twice, twice_told}
use Rattle.st_agree.proofs.named.push_ruled.Goals as goal

pub returns : goal.returns
returns c =
    let C = c.args.change.now in
    let S = c.args.step.now in
    let rise = c.requires in
    let at = c.in_ok-push_twice.ensures in
    let twice = found_twice (placements_of_change C) (placements_of_step S) at.0 in
    let rows = flat_map (row_apart S.rows) C.rows in
    let registers = flat_map (register_apart S.regs) C.regs in
    let made = flat_map (made_again S.new) (nodes_of_change C) in
    let made_back = flat_map (made_again C.new) (nodes_of_step S) in (
      all_found C S ++ twice,
      at.2 ∙ ap (λ l. l ++ twice) (c.in_ok-push_made.ensures ∙ ap (λ l. l ++ made ++ made_back) c.in_ok-push_listed.ensures)
          ∙ behind_five c.args.found.now rows registers made made_back twice,
      all_told C S rise (all_found C S ++ twice) twice refl
          (twice_told (listing_before_change C) (listing_before_step S) (placements_of_change C) (placements_of_step S) at.0 (change_placed C rise.rows rise.regs) (step_placed S rise.rows_over rise.regs_over) at.1),
      λ once. told_all C S rise (all_found C S ++ twice) twice refl
          (told_twice (listing_before_change C) (listing_before_step S) (placements_of_change C) (placements_of_step S) at.0 (change_placed C rise.rows rise.regs) (step_placed S rise.rows_over rise.regs_over) at.1 once),
    )
