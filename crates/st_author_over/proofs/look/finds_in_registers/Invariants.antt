use Rattle.std.proofs.Common.{◌≡◌, drop}
use Rattle.std.specs.List.{flat_map}
use Rattle.st_marks.specs.Embedding.{is_among}
use Rattle.st_author_over.specs.inside.Seen.{found_over_names}
use Rattle.st_author_over.proofs.look.finds_in_registers.Given as goal

abbrev pub invariant-loop-reg : goal.invariant-loop-reg
invariant-loop-reg l = is_among (flat_map found_over_names (drop l.reg-index l.regs)) l.node ≡ is_among (flat_map found_over_names l.regs) l.node
