use Rattle.std.proofs.Common.{◌≡◌, ◌++◌, ◌∙◌, sym, subst}
use Rattle.std.specs.BTreeMap.Range.{entries_between}
use Rattle.std.specs.declared.ops.Bound.TheVariants.{Included, Unbounded}
use Rattle.st_ids.specs.Order.{field_cmp}
use Rattle.st_export.proofs.Together.{AreLeft, from_least, left_first, left_more, left_none, left_past, occupants}
use Rattle.st_export.proofs.registers.push_occupants.Goals as goal

pub loop-field-init : goal.loop-field-init
loop-field-init c =
    let node = c.args.node in
    let nodes = c.args.nodes.now.items in
    let entries = c.args.held.now.entries in
    let first : c.into_iter-field-iterator.result ≡ from_least node entries =
    c.into_iter-field-iterator.ensures.into_iter_gives ∙ c.range-field-items.ensures.between tt
    ∙ (λ i. entries_between field_cmp (Included (c.first_name.ensures i)) Unbounded entries) in
    subst (λ l. AreLeft node nodes l (nodes ++ occupants node entries)) (sym first) (left_first node nodes entries c.range-field-items.ensures.ordered)

pub loop-field-preserved : goal.loop-field-preserved
loop-field-preserved c =
    left_more c.args.node c.loop-field.nodes.items (c.args.nodes.now.items ++ occupants c.args.node c.args.held.now.entries) (c.in-Some.field.now, c.in-Some.occupant.now) c.loop-field.field-iterator
    c.next.new.self c.in-Some.ensures.steps c.loop-field.invariant c.push.new.self.items (sym c.if-not-is_same_node.ensures) c.in_ok-push.ensures.items

pub returns-in-None-clause-occupants : goal.returns-in-None-clause-occupants
returns-in-None-clause-occupants c = left_none c.args.node c.loop-field.nodes.items (c.args.nodes.now.items ++ occupants c.args.node c.args.held.now.entries) c.loop-field.field-iterator c.in-None.ensures.steps.0 c.loop-field.invariant

pub returns-then-not-is_same_node-clause-occupants : goal.returns-then-not-is_same_node-clause-occupants
returns-then-not-is_same_node-clause-occupants c =
    left_past c.args.node c.loop-field.nodes.items (c.args.nodes.now.items ++ occupants c.args.node c.args.held.now.entries) (c.in-Some.field.now, c.in-Some.occupant.now) c.loop-field.field-iterator
    c.next.new.self c.in-Some.ensures.steps c.loop-field.invariant (sym c.if-not-is_same_node.ensures)
