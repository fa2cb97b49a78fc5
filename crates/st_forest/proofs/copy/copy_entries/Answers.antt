use Rattle.std.proofs.Common.{refl}
use Rattle.st_forest.proofs.MapsCopied.{copied_more, copied_all}
use Rattle.st_forest.proofs.copy.copy_entries.Goals as goal

pub loop-key-preserved : goal.loop-key-preserved
loop-key-preserved g c =
    copied_more c.loop-key.entries.items c.push_copy.new.entries.items c.loop-key.key-iterator c.next.new.self c.args.map.now.entries c.in-Some.key.now c.in-Some.key.now c.in-Some.value.now c.in-Some.value.now
    c.in-Some.ensures.steps c.in_ok-push_copy.ensures refl refl c.loop-key.invariant

pub returns-clause-entries : goal.returns-clause-entries
returns-clause-entries g c = copied_all c.loop-key.entries.items c.loop-key.key-iterator c.args.map.now.entries c.in-None.ensures.steps.0 c.loop-key.invariant
