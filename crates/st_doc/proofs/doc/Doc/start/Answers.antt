use Rattle.std.proofs.Common.{◌≡◌, ◌∙◌, Result, Ok, Err, IfOk, sym, subst}
use Rattle.std.specs.declared.alloc.AllocError.{AllocError}
use Rattle.st_marks.specs.Document.{Document, IsSoundInForm}
use Rattle.st_tree.specs.Node.{view}
use Rattle.st_doc.specs.Doc.{document_of}
use Rattle.st_opening.specs.Start.{start_of}
use Rattle.st_doc.specs.declared.doc.Doc.{Doc}
use Rattle.st_opening.proofs.StartSound.{start_sound, within_few}
use Rattle.st_doc.proofs.doc.Doc.start.Goals as goal

sound_too : (r : Result Doc AllocError) (D : Document) → IsSoundInForm D → IfOk r (λ d. document_of d ≡ D) → IfOk r (λ d. IsSoundInForm (document_of d))
sound_too (Ok d) D sound e = subst IsSoundInForm (sym e) sound
sound_too (Err x) D sound e = tt

pub returns-in-Ok-clause-sound : goal.returns-in-Ok-clause-sound
returns-in-Ok-clause-sound c =
    let t = view c.args.tree.now in
    let schema = c.args.schema in
    sound_too c.of_nodes.result (start_of c.as_slice.result.now schema)
    (subst (λ xs. IsSoundInForm (start_of xs schema)) (sym (c.as_slice.ensures ∙ c.in-Ok.ensures.ok)) (start_sound t schema c.requires.form (within_few t c.requires.within)))
    c.of_nodes.ensures
