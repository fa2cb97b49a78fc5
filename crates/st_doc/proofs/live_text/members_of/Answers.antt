use Rattle.std.proofs.Common.{◌<◌, ◌≤◌, ◌-◌, ◌∙◌, length, sym, ap, arith}
use Rattle.serde_json.specs.Data.{put}
use Rattle.serde_json.specs.View.{view, members_view}
use Rattle.serde_json.proofs.Views.{members_view-insert_entry}
use Rattle.st_doc.proofs.KeyOrder.{rise_drop}
use Rattle.st_doc.proofs.LiveTexts.{members_more, occupant_there, others_seat, part_in_turn, part_without}
use Rattle.st_doc.proofs.live_text.members_of.Goals as goal

pub take-value-requires : goal.take-value-requires
take-value-requires c =
    let left = c.loop-left.left in
    let seats = c.args.seats.now in
    let seat = c.index-seats-left.result in
    let before = c.loop-left.invariant in
    let more : 0 < left = c.loop-left-test.true in
    let within : left ≤ length seats = before.within in
    occupant_there seats (left - 1) left seat (omega arith) (omega arith) (sym c.index-seats-left.is) c.args.done.now c.loop-left.done c.requires.once c.requires.made before.rest

pub loop-left-preserved : goal.loop-left-preserved
loop-left-preserved c =
    let left = c.loop-left.left in
    let seats = c.args.seats.now in
    let seat = c.index-seats-left.result in
    let v = c.take-value.result in
    let before = c.loop-left.invariant in
    let members = c.loop-left.members.entries in
    let more : 0 < left = c.loop-left-test.true in
    let within : left ≤ length seats = before.within in
    let inside : left - 1 < length seats = omega arith in
    record {
      within = omega arith;
      part = part_in_turn c.take-value.new.done c.loop-left.done c.args.done.now (part_without seat.node c.take-value.new.done c.loop-left.done c.take-value.ensures.rest) before.part;
      members = members_more c.args.done.now seats (left - 1) left seat v (members_view members) (members_view c.put_entry.new.map.entries) (omega arith) inside (sym c.index-seats-left.is)
          (rise_drop (left - 1) seats c.requires.rise) (before.part seat.node v c.take-value.ensures.value)
          (ap members_view c.in_ok-put_entry.ensures ∙ members_view-insert_entry members c.in_ok-key.key v ∙ ap (λ k. put k (view v) (members_view members)) (c.in_ok-key.ensures.ok ∙ c.as_str.ensures)) before.members;
      rest = others_seat seats (left - 1) left seat (omega arith) inside (sym c.index-seats-left.is) c.take-value.new.done c.loop-left.done c.args.done.now c.take-value.ensures.rest before.rest;
    }
