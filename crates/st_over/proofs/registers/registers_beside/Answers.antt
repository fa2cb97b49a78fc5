use Rattle.std.proofs.Common.{◌++◌, ◌∙◌, ap}
use Rattle.std.specs.BTreeMap.{get}
use Rattle.std.specs.BTreeSet.{contains}
use Rattle.std.specs.List.{filter_map}
use Rattle.st_marks.specs.Listings.{one_or_none}
use Rattle.st_ids.specs.Order.{node_cmp}
use Rattle.st_over.specs.inside.Registers.{register_beside}
use Rattle.st_moves.proofs.NamesLeft.{listed_all}
use Rattle.st_over.proofs.Walked.{one_left}
use Rattle.st_over.proofs.registers.registers_beside.Goals as goal

pub loop-field-preserved : goal.loop-field-preserved
loop-field-preserved c =
    let f = register_beside (get node_cmp c.args.puts.now) (contains node_cmp c.args.named.now) c.args.change.now c.args.step.now in
    one_left f c.loop-field.list c.push_if_some.new.list (filter_map f c.args.fields.now.keys) c.loop-field.field-iterator c.next.new.self c.in-Some.field.now c.in-Some.ensures.steps
    (c.in_ok-push_if_some.ensures ∙ ap (λ o. c.loop-field.list ++ one_or_none o) c.in_ok-register.ensures) c.loop-field.invariant

pub returns-clause-registers : goal.returns-clause-registers
returns-clause-registers c =
    let f = register_beside (get node_cmp c.args.puts.now) (contains node_cmp c.args.named.now) c.args.change.now c.args.step.now in
    listed_all f c.loop-field.list (filter_map f c.args.fields.now.keys) c.loop-field.field-iterator c.in-None.ensures.steps.0 c.loop-field.invariant
