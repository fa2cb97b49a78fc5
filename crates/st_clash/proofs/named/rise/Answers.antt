use Rattle.std.proofs.Common.{arith, refl, sym, ◌∙◌}
use Rattle.std.specs.Ordering.{is_lt}
use Rattle.st_clash.proofs.RisingListings.{falls, more_rises, one_rises, to_the_end}
use Rattle.st_clash.proofs.named.rise.Goals as goal

pub loop-at-init : goal.loop-at-init
loop-at-init g c = (omega arith, one_rises g.K.Ord.cmp g.met.K.Ord.total g.T.Named.key c.args.list.now)

pub returns-then-not-is_less : goal.returns-then-not-is_less
returns-then-not-is_less g c = (
  λ e. cc,
  λ h. absurd (falls g.K.Ord.cmp g.met.K.Ord.total g.T.Named.key c.args.list.now c.loop-at.at c.index-list-at.result c.index-list-at-in-loop-at.result c.loop-at.invariant.0 c.loop-at-test.true ((λ i. is_lt (g.K.Ord.cmp (g.T.Named.key (sym c.index-list-at.is i)) (g.T.Named.key (sym c.index-list-at-in-loop-at.is i)))) ∙ (λ i. is_lt (g.K.Ord.cmp (sym c.name.ensures i) (sym c.name-in-loop-at.ensures i))) ∙ sym c.is_less.ensures ∙ c.if-not-is_less.true) h),
)

pub loop-at-preserved : goal.loop-at-preserved
loop-at-preserved g c = (
  omega arith,
  more_rises g.K.Ord.cmp g.met.K.Ord.total g.T.Named.key c.args.list.now c.loop-at.at c.index-list-at.result c.index-list-at-in-loop-at.result c.loop-at.invariant.0 c.loop-at-test.true ((λ i. is_lt (g.K.Ord.cmp (g.T.Named.key (sym c.index-list-at.is i)) (g.T.Named.key (sym c.index-list-at-in-loop-at.is i)))) ∙ (λ i. is_lt (g.K.Ord.cmp (sym c.name.ensures i) (sym c.name-in-loop-at.ensures i))) ∙ sym c.is_less.ensures ∙ c.if-not-is_less.false) c.loop-at.invariant.1,
)

pub returns : goal.returns
returns g c = (λ e. to_the_end g.K.Ord.cmp g.met.K.Ord.total g.T.Named.key c.args.list.now c.loop-at.at (λ l. omega (arith, l, c.loop-at-test.false)) c.loop-at.invariant.1, λ h. refl)
