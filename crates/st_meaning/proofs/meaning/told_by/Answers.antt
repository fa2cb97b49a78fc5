use Rattle.std.proofs.Common.{◌≡◌, ◌∙◌, refl, sym, ap, subst}
use Rattle.std.specs.List.{flat_map}
use Rattle.st_doc.specs.Doc.{document_of}
use Rattle.st_lemmas.proofs.Options.{IfOk-along}
use Rattle.st_marks.specs.declared.intents.Intent.{Intent}
use Rattle.st_marks.specs.Embedding.{IsEmbedding}
use Rattle.st_marks.specs.Intent.{Fits}
use Rattle.st_same_laws.specs.Same.{LooksAlike}
use Rattle.st_meaning.specs.InOrder.{IsInOrder}
use Rattle.st_meaning.specs.inside.Made.{made_in_row}
use Rattle.st_meaning.proofs.Told.{told, told-alike, told-in_order}
use Rattle.st_meaning.proofs.meaning.told_by.Goals as goal

pub returns-clause-exact : goal.returns-clause-exact
returns-clause-exact c =
    let D = document_of c.args.doc.now in
    let C = c.args.change.now in
    IfOk-along c.intent_with.result (λ (M : Intent). M ≡ told C c.in_ok-groups.groups c.in_ok-put.put) (λ (M : Intent). (N : Intent) → Fits D N → IsEmbedding D N C → LooksAlike N M)
    (λ M is N f e. subst (LooksAlike N) (sym is) (told-alike D N C e c.in_ok-groups.groups c.in_ok-put.put c.requires f (λ n a. c.in_ok-groups.ensures.found n a ∙ ap (flat_map (made_in_row D n a)) c.as_slice.ensures) (c.in_ok-put.ensures.found D N c.requires f (C, e, refl)))) c.intent_with.ensures

pub returns-clause-order : goal.returns-clause-order
returns-clause-order c =
    let D = document_of c.args.doc.now in
    let C = c.args.change.now in
    IfOk-along c.intent_with.result (λ (M : Intent). M ≡ told C c.in_ok-groups.groups c.in_ok-put.put) (λ (M : Intent). (N : Intent) → IsEmbedding D N C → IsInOrder M)
    (λ M is N e. subst IsInOrder (sym is) (told-in_order D N C e c.in_ok-groups.groups c.in_ok-put.put c.in_ok-groups.ensures.rising c.in_ok-groups.ensures.some c.in_ok-put.ensures.rising)) c.intent_with.ensures
