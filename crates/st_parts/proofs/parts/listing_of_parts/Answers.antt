use Rattle.std.proofs.Common.{refl}
use Rattle.std.specs.BTreeSet.{contains}
use Rattle.st_ids.specs.Order.{node_cmp}
use Rattle.st_lemmas.proofs.Options.{IfOk-along}
use Rattle.st_join.proofs.JoinFits.{joins_fit}
use Rattle.st_marks.specs.declared.changes.Change.{Change}
use Rattle.st_parts.specs.JoinedParts.{named_by_parts}
use Rattle.st_parts.specs.TrimmedChange.{ListsChange}
use Rattle.st_part_listings.specs.Together.{goes_of, known_by}
use Rattle.st_parts.specs.inside.OfParts.{ShowsListed, ToldOfParts}
use Rattle.st_parts.proofs.PartsListed.{parts_listed}
use Rattle.st_parts.proofs.PartsTold.{of_parts}
use Rattle.st_parts.proofs.ShownParts.{shown_parts}
use Rattle.st_parts.proofs.parts.listing_of_parts.Goals as goal

pub returns-clause-exact : goal.returns-clause-exact
returns-clause-exact c = λ D N M J x p j d e.
    let C = c.args.first.now in
    let X = c.args.second.now in
    let t = c.in_ok-tables.tables in
    let new = contains node_cmp t.new in
    let known = known_by t in
    let goes = goes_of t in
    IfOk-along c.told_by.result (λ (g : Change). ToldOfParts C X g new known goes) (ListsChange D J (named_by_parts D d.mentioned e.mentioned))
    (λ g told. parts_listed D N M J C X g x p j (joins_fit D N M J x.before p j) d e new known goes (c.in_ok-tables.ensures D N M x p (C, d, refl) (X, e, refl)) (of_parts C X g new known goes told)) c.told_by.ensures

pub returns-clause-shown : goal.returns-clause-shown
returns-clause-shown c = λ D N M J x p j d e.
    let C = c.args.first.now in
    let X = c.args.second.now in
    let t = c.in_ok-tables.tables in
    let new = contains node_cmp t.new in
    let known = known_by t in
    let goes = goes_of t in
    IfOk-along c.told_by.result (λ (g : Change). ToldOfParts C X g new known goes) (ShowsListed D J (named_by_parts D d.1.mentioned e.1.mentioned))
    (λ g told.
    let w = shown_parts C X d.0 e.0 g d.2 e.2 new known goes (of_parts C X g new known goes told) in
    (w.0, parts_listed D N M J d.0 e.0 w.0 x p j (joins_fit D N M J x.before p j) d.1 e.1 new known goes (c.in_ok-tables.ensures D N M x p d e) w.1, w.2)) c.told_by.ensures
