use Rattle.std.proofs.Common.{◌≡◌, refl, sym, ap, subst}
use Rattle.std.specs.BTreeMap.{get}
use Rattle.std.specs.BTreeSet.{contains}
use Rattle.st_ids.specs.Listing.{IsRising}
use Rattle.st_ids.specs.Order.{node_cmp}
use Rattle.st_kind.specs.Named.{either}
use Rattle.st_lemmas.proofs.Options.{IfOk-along}
use Rattle.st_marks.specs.declared.changes.NewNode.{NewNode}
use Rattle.st_marks.specs.declared.steps.Step.{Step}
use Rattle.st_marks.proofs.Turns.{extends_on}
use Rattle.st_mention_laws.specs.Shown.{thin_step}
use Rattle.st_trim.specs.Trimmed.{ListsStep}
use Rattle.st_strip.specs.Rest.{named_rest}
use Rattle.st_strip.specs.inside.Told.{ToldRest, nowhere_told}
use Rattle.st_strip.proofs.NodesTold.{tells_rest}
use Rattle.st_strip.proofs.RestListed.{lists_rest}
use Rattle.st_strip.proofs.ThinRest.{rest_shown}
use Rattle.st_strip.proofs.ToldApart.{rest_of}
use Rattle.st_strip.proofs.listing.rest_listing.Goals as goal

pub returns-clause-exact : goal.returns-clause-exact
returns-clause-exact c = λ D E F x y s t.
    let S = c.args.first.now in
    let W = c.args.whole.now in
    let a = c.in_ok-of_first.of_first in
    let b = c.in_ok-of_whole.of_whole in
    let told = either (contains node_cmp a.listed) (contains node_cmp b.listed) in
    let between = nowhere_told (get node_cmp a.spots) (contains node_cmp b.stood) in
    let last = nowhere_told (get node_cmp b.spots) (contains node_cmp a.stood) in
    let tells = tells_rest D E F S W x y s t (contains node_cmp a.listed) (contains node_cmp a.stood) (get node_cmp a.spots) (contains node_cmp b.listed) (contains node_cmp b.stood) (get node_cmp b.spots)
    (c.in_ok-of_first.ensures D E S x s refl) (c.in_ok-of_whole.ensures D F W (extends_on D E F x y) t refl) in
    IfOk-along c.told_rest.result (λ (g : Step). ToldRest S W g told between last) (λ (g : Step). ListsStep E F (named_rest D F s.mentioned t.mentioned) g)
    (λ g h. lists_rest D E F S W g told between last x y s t tells (rest_of S W g told between last t.new.rising h)) c.told_rest.ensures

pub returns-clause-shown : goal.returns-clause-shown
returns-clause-shown c = λ D E F S W x y s t e f.
    let X = c.args.first.now in
    let Y = c.args.whole.now in
    let a = c.in_ok-of_first.of_first in
    let b = c.in_ok-of_whole.of_whole in
    let told = either (contains node_cmp a.listed) (contains node_cmp b.listed) in
    let between = nowhere_told (get node_cmp a.spots) (contains node_cmp b.stood) in
    let last = nowhere_told (get node_cmp b.spots) (contains node_cmp a.stood) in
    let tells = tells_rest D E F S W x y s t (contains node_cmp a.listed) (contains node_cmp a.stood) (get node_cmp a.spots) (contains node_cmp b.listed) (contains node_cmp b.stood) (get node_cmp b.spots)
    (c.in_ok-of_first.ensures D E S x s e) (c.in_ok-of_whole.ensures D F W (extends_on D E F x y) t f) in
    IfOk-along c.told_rest.result (λ (g : Step). ToldRest X Y g told between last) (λ (g : Step). (G : Step) × ListsStep E F (named_rest D F s.mentioned t.mentioned) G × (thin_step g ≡ thin_step G))
    (λ g h.
    let rising = subst (IsRising node_cmp (λ (m : NewNode). m.node)) (sym (ap (λ (z : Step). z.new) f)) t.new.rising in
    let r = rest_shown X Y S W g told between last e f (rest_of X Y g told between last rising h) in
    (r.0, lists_rest D E F S W r.0 told between last x y s t tells r.1, r.2)) c.told_rest.ensures
