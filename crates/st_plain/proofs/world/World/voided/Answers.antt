use Rattle.std.proofs.Common.{List, ap, ◌∙◌, filter, length}
use Rattle.st_lists.specs.declared.lists.Entry.{Entry}
use Rattle.st_plain.specs.inside.Counted.{came_out_void}
use Rattle.st_plain.proofs.LogCounts.{stands_counted}
use Rattle.st_plain.proofs.world.World.voided.Goals as goal

pub returns : goal.returns
returns c =
    stands_counted c.args.self.now c.count_void.result
    (c.count_void.ensures ∙ ap (λ (log : List Entry). length (filter (came_out_void c.args.self.now.logged) log)) c.as_slice.ensures)
