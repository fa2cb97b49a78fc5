use Rattle.std.proofs.Common.{refl}
use Rattle.std.specs.BTreeMap.{get}
use Rattle.std.specs.BTreeSet.{contains}
use Rattle.st_ids.specs.Order.{node_cmp}
use Rattle.st_lemmas.proofs.Options.{IfOk-along}
use Rattle.st_marks.specs.declared.steps.Step.{Step}
use Rattle.st_trim.specs.Trimmed.{ListsStep}
use Rattle.st_steps.specs.Turned.{named_in_turn}
use Rattle.st_steps.specs.inside.Told.{ShowsListed, ToldInTurn}
use Rattle.st_steps.proofs.ShownInTurn.{shown_in_turn}
use Rattle.st_steps.proofs.StepsListed.{lists_in_turn}
use Rattle.st_steps.proofs.ToldTogether.{in_turn_of}
use Rattle.st_steps.proofs.listing.listing_in_turn.Goals as goal

pub returns-clause-exact : goal.returns-clause-exact
returns-clause-exact c = λ D E F x y s t.
    let S = c.args.first.now in
    let T = c.args.second.now in
    let stood = contains node_cmp c.in_ok-tables.tables.stood in
    let new = contains node_cmp c.in_ok-tables.tables.new in
    let spots = get node_cmp c.in_ok-tables.tables.spots in
    IfOk-along c.told_by.result (λ (g : Step). ToldInTurn S T g stood new spots) (λ (g : Step). ListsStep D F (named_in_turn D s.mentioned t.mentioned) g)
    (λ g told. lists_in_turn D E F S T g stood new spots x y s t (c.in_ok-tables.ensures D E F x y (S, s, refl) (T, t, refl)) (in_turn_of S T g stood new spots told)) c.told_by.ensures

pub returns-clause-shown : goal.returns-clause-shown
returns-clause-shown c = λ D E F x y p q.
    let S = c.args.first.now in
    let T = c.args.second.now in
    let stood = contains node_cmp c.in_ok-tables.tables.stood in
    let new = contains node_cmp c.in_ok-tables.tables.new in
    let spots = get node_cmp c.in_ok-tables.tables.spots in
    IfOk-along c.told_by.result (λ (g : Step). ToldInTurn S T g stood new spots) (ShowsListed D F (named_in_turn D p.1.mentioned q.1.mentioned))
    (λ g told.
    let w = shown_in_turn S T p.0 q.0 g p.2 q.2 stood new spots (in_turn_of S T g stood new spots told) in
    (w.0, lists_in_turn D E F p.0 q.0 w.0 stood new spots x y p.1 q.1 (c.in_ok-tables.ensures D E F x y p q) w.1, w.2)) c.told_by.ensures
