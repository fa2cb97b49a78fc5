use Rattle.std.specs.BTreeMap.{get}
use Rattle.std.specs.BTreeSet.{contains}
use Rattle.st_ids.specs.Order.{node_cmp}
use Rattle.st_lemmas.proofs.Options.{IfOk-along}
use Rattle.st_cross_laws.specs.Crossed.{IsCrossed}
use Rattle.st_carry.specs.inside.Listed.{HasFields}
use Rattle.st_carry.proofs.Listings.{listed}
use Rattle.st_carry.proofs.listing.listing_across.Goals as goal

pub returns : goal.returns
returns g c =
    let l = g.R.Reading.listed in
    let was = c.args.across.now.was in
    let is = c.args.across.now.is in
    let made = contains node_cmp c.args.across.now.made.now in
    let t = get node_cmp c.args.across.now.puts.now in
    let C = c.args.change.now in
    let S = c.args.step.now in
    IfOk-along c.with_loose.result (HasFields was is C S c.in_ok-rows.rows c.in_ok-regs.regs) (IsCrossed l was is t C S)
    (λ G h. listed l was is made t C S G c.in_ok-rows.rows c.in_ok-regs.regs c.requires.made c.in_ok-rows.ensures c.in_ok-regs.ensures h) c.with_loose.ensures
