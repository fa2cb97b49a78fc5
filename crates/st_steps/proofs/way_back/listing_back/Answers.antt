use Rattle.std.proofs.Common.{refl}
use Rattle.std.specs.BTreeMap.{get}
use Rattle.std.specs.BTreeSet.{contains}
use Rattle.st_ids.specs.Order.{node_cmp}
use Rattle.st_lemmas.proofs.Options.{IfOk-along}
use Rattle.st_marks.specs.declared.steps.Step.{Step}
use Rattle.st_marks.specs.Back.{retreat}
use Rattle.st_trim.specs.Trimmed.{ListsStep}
use Rattle.st_steps.specs.WayBack.{named_back_of}
use Rattle.st_steps.specs.inside.Back.{ToldBack, told_of}
use Rattle.st_steps.specs.inside.Told.{ShowsListed}
use Rattle.st_steps.proofs.ShownBack.{shown_back}
use Rattle.st_steps.proofs.ToldBack.{back_of}
use Rattle.st_steps.proofs.WaysBack.{lists_back}
use Rattle.st_steps.proofs.way_back.listing_back.Goals as goal

pub returns-clause-exact : goal.returns-clause-exact
returns-clause-exact c = λ D E x s.
    let S = c.args.step.now in
    let new = contains node_cmp c.in_ok-tables.tables.new in
    let stood = contains node_cmp c.in_ok-tables.tables.stood in
    let listed = contains node_cmp c.in_ok-nodes.nodes in
    let spots = told_of listed (get node_cmp c.in_ok-tables.tables.spots) in
    let tells = c.in_ok-tables.ensures D E x (S, s, refl) listed c.in_ok-nodes.ensures in
    IfOk-along c.told_back.result (λ (g : Step). ToldBack S g new stood spots) (λ (g : Step). ListsStep E (retreat D E) (named_back_of D E s.mentioned) g)
    (λ g told. lists_back D E S x s g new stood spots tells (back_of D E S x s new tells.new_so g stood spots told)) c.told_back.ensures

pub returns-clause-shown : goal.returns-clause-shown
returns-clause-shown c = λ D E x p.
    let S = c.args.step.now in
    let new = contains node_cmp c.in_ok-tables.tables.new in
    let stood = contains node_cmp c.in_ok-tables.tables.stood in
    let listed = contains node_cmp c.in_ok-nodes.nodes in
    let spots = told_of listed (get node_cmp c.in_ok-tables.tables.spots) in
    let tells = c.in_ok-tables.ensures D E x p listed c.in_ok-nodes.ensures in
    IfOk-along c.told_back.result (λ (g : Step). ToldBack S g new stood spots) (ShowsListed E (retreat D E) (named_back_of D E p.1.mentioned))
    (λ g told.
    let w = shown_back S p.0 g p.2 new stood spots told in
    (w.0, lists_back D E p.0 x p.1 w.0 new stood spots tells (back_of D E p.0 x p.1 new tells.new_so w.0 stood spots w.1), w.2)) c.told_back.ensures
