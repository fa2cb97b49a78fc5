use Rattle.std.proofs.Common.{get_or, refl}
use Rattle.st_ids.specs.Root.{root}
use Rattle.st_marks.specs.declared.marks.How.TheVariants.{Stay}
use Rattle.st_marks.specs.declared.marks.Loose.{Loose}
use Rattle.st_turn_places.specs.inside.Sides.{placed_loose}
use Rattle.st_clash.proofs.LeastFields.{mapped_more}
use Rattle.st_turn_places.proofs.places.add_loose.Goals as goal

blank : Loose
blank = record { node = root; how = Stay }

pub loop-one-preserved : goal.loop-one-preserved
unfolding blank
loop-one-preserved c =
    mapped_more placed_loose c.args.list.now c.loop-one.list c.push.new.self c.args.loose.now c.loop-one.one-index
    blank (get_or c.args.loose.now c.loop-one.one-index blank) c.loop-one-test.true refl c.loop-one.invariant c.in_ok-push.ensures.ok
