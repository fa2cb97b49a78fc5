use Rattle.std.proofs.Common.{◌+◌, arith, length, refl, subst, sym, ◌∙◌}
use Rattle.std.proofs.lemmas.Option.{slice_get_read}
use Rattle.st_marks.specs.declared.schemas.SchemaEntry.{SchemaEntry}
use Rattle.st_listings.specs.inside.Settling.{IsSettling}
use Rattle.st_listings.proofs.Settling.{agree_within, front_more, no_front}
use Rattle.st_listings.proofs.schemas.shared_front.Goals as goal

pub front-init : goal.front-init
front-init c = no_front c.args.on c.args.cut.now c.args.add.now

pub front-smaller : goal.front-smaller
front-smaller c = omega (arith, (agree_within c.args.cut.now c.args.add.now c.front.front (sym c.agree_at.ensures ∙ c.front-test.true)).0)

pub front-preserved : goal.front-preserved
front-preserved c =
    let agrees = sym c.agree_at.ensures ∙ c.front-test.true in
    let inside = (agree_within c.args.cut.now c.args.add.now c.front.front agrees).0 in
    subst (λ (x : SchemaEntry). IsSettling c.args.on c.args.cut.now c.args.add.now (c.front.front + 1) x.rev) c.index-cut-front.is
    (front_more c.args.on c.front.last c.args.cut.now c.args.add.now c.front.front c.index-cut-front.result
    (slice_get_read c.args.cut.now (length c.args.cut.now) c.front.front c.index-cut-front.result refl inside c.index-cut-front.is) agrees c.front.invariant)
