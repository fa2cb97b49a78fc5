use Rattle.std.proofs.Common.{◌≡◌, ◌-◌, ◌∙◌, Some, ap, length, slice_get, subst, sym}
use Rattle.std.proofs.lemmas.Result.{IfOk-weaker}
use Rattle.st_doc.specs.Doc.{document_of}
use Rattle.st_edits.specs.ArrayTypes.{is_array_type}
use Rattle.st_run.proofs.Trees.{effect_of_last, last_there}
use Rattle.st_run.proofs.tree.arrays_in.Goals as goal

pub arrays_of-requires : goal.arrays_of-requires
arrays_of-requires c =
    let D = document_of c.args.doc.now in
    let e = c.in-Some.entry.now in
    c.requires e (last_there D.schemas e (subst (λ es. Some e ≡ slice_get es (length es - 1)) c.schemas.ensures c.in-Some.ensures.value))

pub returns-in-Some : goal.returns-in-Some
returns-in-Some c =
    let D = document_of c.args.doc.now in
    let e = c.in-Some.entry.now in
    let at = subst (λ es. Some e ≡ slice_get es (length es - 1)) c.schemas.ensures c.in-Some.ensures.value in
    IfOk-weaker c.arrays_of.result _ _ (λ types x. x.2 ∙ ap is_array_type (sym (effect_of_last D e x.0 at x.1))) c.arrays_of.ensures
