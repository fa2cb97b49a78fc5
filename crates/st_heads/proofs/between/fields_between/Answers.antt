use Rattle.std.proofs.Common.{◌++◌, ◌∙◌, ap}
use Rattle.std.specs.List.{filter_map}
use Rattle.st_doc.specs.Doc.{document_of}
use Rattle.st_heads.specs.inside.Between.{changed_field}
use Rattle.st_heads.proofs.Differing.{changed-told}
use Rattle.st_heads.proofs.between.fields_between.Goals as goal

pub returns : goal.returns
returns c =
    let D = document_of c.args.before.now in
    let E = document_of c.args.after.now in
    let of_before = filter_map (changed_field D E) c.as_slice.result.now in
    let of_after = filter_map (changed_field D E) c.as_slice-2.result.now in
    changed-told D E _ c.in_ok-held_before.held_before c.in_ok-held_after.held_after c.in_ok-held_before.ensures c.in_ok-held_after.ensures
    (c.in_ok-push_changed-2.ensures ∙ ap (λ l. l ++ of_after) (c.in_ok-push_changed.ensures ∙ ap (λ l. l ++ of_before) c.new-fields.ensures)
    ∙ (λ i. filter_map (changed_field D E) (c.as_slice.ensures i) ++ filter_map (changed_field D E) (c.as_slice-2.ensures i)))
