use Rattle.std.proofs.Common.{◌++◌, ◌∙◌, ap}
use Rattle.std.specs.BTreeMap.{get}
use Rattle.std.specs.BTreeSet.{contains}
use Rattle.std.specs.List.{filter_map}
use Rattle.st_marks.specs.Listings.{one_or_none}
use Rattle.st_ids.specs.Order.{node_cmp}
use Rattle.st_cross.specs.Fields.{register_at}
use Rattle.st_moves.proofs.NamesLeft.{listed_all}
use Rattle.st_over.proofs.Walked.{one_left}
use Rattle.st_cross.proofs.registers.registers_at.Goals as goal

pub loop-field-preserved : goal.loop-field-preserved
loop-field-preserved g c =
    let f = register_at c.args.across.now.was c.args.across.now.is (contains node_cmp c.args.across.now.made.now) (get node_cmp c.args.across.now.puts.now) c.args.change.now c.args.step.now in
    one_left f c.loop-field.list c.push_if_some.new.list (filter_map f c.args.fields.now.keys) c.loop-field.field-iterator c.next.new.self c.in-Some.field.now c.in-Some.ensures.steps
    (c.in_ok-push_if_some.ensures ∙ ap (λ o. c.loop-field.list ++ one_or_none o) c.in_ok-register.ensures) c.loop-field.invariant

pub returns-clause-registers : goal.returns-clause-registers
returns-clause-registers g c =
    let f = register_at c.args.across.now.was c.args.across.now.is (contains node_cmp c.args.across.now.made.now) (get node_cmp c.args.across.now.puts.now) c.args.change.now c.args.step.now in
    listed_all f c.loop-field.list (filter_map f c.args.fields.now.keys) c.loop-field.field-iterator c.in-None.ensures.steps.0 c.loop-field.invariant
