use Rattle.st_push.proofs.ListsPushed.{push}
use Rattle.st_push.proofs.laws.references_are_raised.Goals as goal

pub returns : goal.returns
returns c = λ l O D E A Ns Cs gone S carries composes x f g shown s y h.
    let p = push l carries shown E S x f g s in
    let k = composes O A p.last gone p.step y p.extends h p.over in
    (p, k.0, k.1)
