use Rattle.std.proofs.Common.{◌≡◌, true, not, take}
use Rattle.std.specs.List.{list_all}
use Rattle.st_marks.specs.declared.places.Slot.{Slot}
use Rattle.st_marks.specs.Embedding.{is_among}
use Rattle.st_seq.proofs.form.are_old.Given as goal

abbrev pub invariant-slots : goal.invariant-slots
invariant-slots l = list_all (λ (s : Slot). not (is_among l.nodes s.node)) (take l.slot-index l.row) ≡ true
