use Rattle.std.proofs.Common.{◌∙◌, sym}
use Rattle.std.specs.Vec.Iter.{into_iter_items}
use Rattle.st_schema.proofs.Known.{taken_again, put_next, distinct_next}
use Rattle.st_schema.proofs.table.table_of.Goals as goal

pub returns-then-branch-clause-bad : goal.returns-then-branch-clause-bad
returns-then-branch-clause-bad c =
    taken_again c.loop-name.types.entries (into_iter_items c.loop-name.name-iterator) (into_iter_items c.next.new.self) c.args.definitions c.in-Some.name c.in-Some.form
    c.loop-name.invariant.all c.in-Some.ensures.steps.0 (sym c.in_ok-is_taken.ensures.taken ∙ c.if-branch.true)

pub loop-name-preserved : goal.loop-name-preserved
loop-name-preserved c =
    let put = c.in_ok-is_taken.ensures.put c.if-branch.false in record {
      can = tt;
      finite = tt;
      all = put_next c.loop-name.types.entries c.is_taken.new.types.entries (into_iter_items c.loop-name.name-iterator) (into_iter_items c.next.new.self) c.args.definitions c.in-Some.name c.in-Some.form
          c.loop-name.invariant.all c.in-Some.ensures.steps.0 put;
      distinct = distinct_next c.loop-name.types.entries c.is_taken.new.types.entries c.in-Some.name c.in-Some.form
          c.loop-name.invariant.distinct (sym c.in_ok-is_taken.ensures.taken ∙ c.if-branch.false) put;
    }
