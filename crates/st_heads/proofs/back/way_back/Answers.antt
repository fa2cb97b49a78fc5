use Rattle.std.proofs.Common.{◌++◌, ◌∙◌, ap}
use Rattle.std.specs.List.{filter_map}
use Rattle.st_marks.specs.declared.intents.Put.{Put}
use Rattle.st_marks.specs.Intent.{register_of}
use Rattle.st_doc.specs.Doc.{document_of}
use Rattle.st_heads.specs.inside.GoingBack.{entered_field}
use Rattle.st_heads.proofs.GoingBack.{is_way_back}
use Rattle.st_heads.proofs.back.way_back.Goals as goal

pub returns : goal.returns
returns c =
    let D = document_of c.args.doc.now in
    let N = c.args.intent.now in
    is_way_back D N c.requires.sound c.requires.fits (record { clear = c.in_ok-clear.clear; put = c.in_ok-put.put }) c.in_ok-put.ensures.once (λ n. c.in_ok-put.ensures.found n ∙ c.in_ok-back.ensures n)
    (c.in_ok-clear.ensures ∙ ap (λ ps. filter_map (λ (p : Put). register_of p.to) ps ++ filter_map (λ (p : Put). entered_field D p.node p.to) N.put) c.as_slice.ensures)
