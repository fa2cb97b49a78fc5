use Rattle.std.proofs.Common.{◌≤◌, length, drop, map}
use Rattle.serde_json.specs.View.{members_view}
use Rattle.st_doc.specs.inside.LiveText.{AreMembers, IsPart, KeepsOthers}
use Rattle.st_doc.specs.declared.seats.Seat.{Seat}
use Rattle.st_doc.proofs.live_text.members_of.Given as goal

abbrev pub invariant-loop-left : goal.invariant-loop-left
invariant-loop-left l = record {
  within : l.left ≤ length l.seats;
  part : IsPart l.done l.initial.done;
  members : AreMembers l.initial.done (drop l.left l.seats) (members_view l.members.entries);
  rest : KeepsOthers (map (λ (s : Seat). s.node) (drop l.left l.seats)) l.done l.initial.done;
}

abbrev pub decreases-loop-left : goal.decreases-loop-left
decreases-loop-left l = l.left
