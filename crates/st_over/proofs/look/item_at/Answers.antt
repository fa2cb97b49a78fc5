use Rattle.std.proofs.Common.{◌≡◌, ◌+◌, ◌-◌, ◌/◌, ◌<◌, arith, slice_get, sym, ap, ◌∙◌}
use Rattle.std.specs.Option.{option_copied}
use Rattle.st_clash.proofs.ItemSearch.{all_between, copied_at, found_there, greater_after, less_before, none_between}
use Rattle.st_over.proofs.look.item_at.Goals as goal

pub loop-low-init : goal.loop-low-init
loop-low-init g c = λ e. all_between g.K.Ord.cmp g.met.K.Ord.total e g.T.Named.key c.args.list.now c.args.name.now

pub returns-in-Equal : goal.returns-in-Equal
returns-in-Equal g c =
    let middle : c.loop-low.low + (c.loop-low.high - c.loop-low.low) / 2 < c.loop-low.high = omega (arith, c.loop-low-test.true) in
    let within = (c.loop-low.invariant c.requires.exact).within in
    let here = ap (λ k. g.K.Ord.cmp (g.T.Named.key k) c.args.name.now) (sym c.index-list-middle.is) ∙ ap (λ k. g.K.Ord.cmp k c.args.name.now) (sym c.name.ensures) ∙ sym c.order.ensures ∙ c.in-Equal.is in
    let found = found_there g.K.Ord.cmp g.met.K.Ord.total c.requires.exact g.T.Named.key c.args.list.now c.args.name.now (c.loop-low.low + (c.loop-low.high - c.loop-low.low) / 2) c.index-list-middle.result c.requires.rising
    (omega (arith, middle, within)) here in
    let copied : option_copied c.get.result ≡ slice_get c.args.list.now (c.loop-low.low + (c.loop-low.high - c.loop-low.low) / 2) = copied_at c.args.list.now (c.loop-low.low + (c.loop-low.high - c.loop-low.low) / 2) c.get.result (omega (arith, middle, within)) c.get.ensures.lookup.0 c.get.ensures.lookup.1 in
    copied ∙ found

pub loop-low-preserved-in-Less : goal.loop-low-preserved-in-Less
loop-low-preserved-in-Less g c = λ e.
    let here = ap (λ k. g.K.Ord.cmp (g.T.Named.key k) c.args.name.now) (sym c.index-list-middle.is) ∙ ap (λ k. g.K.Ord.cmp k c.args.name.now) (sym c.name.ensures) ∙ sym c.order.ensures ∙ c.in-Less.is in
    less_before g.K.Ord.cmp g.met.K.Ord.total e g.T.Named.key c.args.list.now c.args.name.now c.loop-low.low c.loop-low.high (c.loop-low.low + (c.loop-low.high - c.loop-low.low) / 2) c.index-list-middle.result
    c.requires.rising (c.loop-low.invariant e) (omega (arith, c.loop-low-test.true)) here

pub loop-low-preserved : goal.loop-low-preserved
loop-low-preserved g c = λ e.
    let here = ap (λ k. g.K.Ord.cmp (g.T.Named.key k) c.args.name.now) (sym c.index-list-middle.is) ∙ ap (λ k. g.K.Ord.cmp k c.args.name.now) (sym c.name.ensures) ∙ sym c.order.ensures ∙ c.in-Greater.is in
    greater_after g.K.Ord.cmp g.met.K.Ord.total e g.T.Named.key c.args.list.now c.args.name.now c.loop-low.low c.loop-low.high (c.loop-low.low + (c.loop-low.high - c.loop-low.low) / 2) c.index-list-middle.result
    c.requires.rising (c.loop-low.invariant e) (omega (arith, c.loop-low-test.true)) here

pub returns : goal.returns
returns g c = sym (none_between g.K.Ord.cmp g.met.K.Ord.total c.requires.exact g.T.Named.key c.args.list.now c.args.name.now c.loop-low.low c.loop-low.high (c.loop-low.invariant c.requires.exact) c.loop-low-test.false)

pub offset_bounds-list-middle : goal.offset_bounds-list-middle
offset_bounds-list-middle g c = let w = (c.loop-low.invariant c.requires.exact).within in omega (arith, w, c.loop-low-test.true)

pub bounds-list-middle : goal.bounds-list-middle
bounds-list-middle g c = let w = (c.loop-low.invariant c.requires.exact).within in omega (arith, w, c.loop-low-test.true)
