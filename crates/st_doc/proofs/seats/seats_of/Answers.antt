use Rattle.std.proofs.Common.{[], unwrap_or}
use Rattle.std.specs.BTreeMap.{get}
use Rattle.st_ids.specs.Order.{node_cmp}
use Rattle.st_doc.specs.inside.LiveText.{seats_of}
use Rattle.st_doc.proofs.KeyOrder.{keys_rise, seat_held}
use Rattle.st_doc.proofs.LiveTexts.{seats_more, seats_end}
use Rattle.st_doc.proofs.seats.seats_of.Goals as goal

pub loop-field-preserved : goal.loop-field-preserved
loop-field-preserved c = λ n.
    seats_more n (unwrap_or (get node_cmp c.loop-field.seats n) []) (unwrap_or (get node_cmp c.push_seat.new.seats n) []) (seats_of n c.args.held.now.entries) (c.in-Some.field.now, c.in-Some.node.now)
    c.loop-field.field-iterator c.next.new.self c.in-Some.ensures.steps (c.in_ok-push_seat.ensures n) (c.loop-field.invariant n)

pub returns : goal.returns
returns c = record {
  listed = λ n. seats_end n (unwrap_or (get node_cmp c.loop-field.seats n) []) (seats_of n c.args.held.now.entries) c.loop-field.field-iterator c.in-None.ensures.steps.0 (c.loop-field.invariant n);
  rise = λ n. keys_rise n c.args.held.now.entries c.iter-field-items.ensures.ordered;
  holds = λ n. seat_held n c.args.held.now.entries c.iter-field-items.ensures.ordered;
}
