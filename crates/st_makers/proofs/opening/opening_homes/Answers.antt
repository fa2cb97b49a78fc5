use Rattle.std.proofs.Common.{◌∙◌, ap}
use Rattle.std.specs.BTreeMap.{is_at}
use Rattle.std.specs.List.{find}
use Rattle.std.specs.Map.{lookup}
use Rattle.std.specs.Option.{option_or}
use Rattle.st_ids.specs.Order.{node_cmp}
use Rattle.st_doc.specs.Doc.{document_of}
use Rattle.st_makers.specs.inside.Homes.{stands_in}
use Rattle.st_makers.proofs.Openings.{opening_home}
use Rattle.st_makers.proofs.opening.opening_homes.Goals as goal

pub returns : goal.returns
returns c = λ n.
    let D = document_of c.args.doc.now in
    c.in_ok-add_registers.ensures n
    ∙ ap (λ o. option_or o (find (stands_in D n) c.as_slice.result.now)) (ap (lookup (is_at (node_cmp n))) c.new-homes.ensures.empty)
    ∙ ap (find (stands_in D n)) c.as_slice.ensures
    ∙ opening_home D c.requires n c.in_ok-fields.fields c.in_ok-fields.ensures
