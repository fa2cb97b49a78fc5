use Rattle.std.proofs.Common.{◌≡◌, drop}
use Rattle.std.specs.List.{list_any}
use Rattle.st_ids.specs.Order.{same_rev}
use Rattle.st_marks.specs.declared.schemas.SchemaEntry.{SchemaEntry}
use Rattle.st_author_over.proofs.schemas.has_rev.Given as goal

abbrev pub invariant-loop-entry : goal.invariant-loop-entry
invariant-loop-entry l = list_any (λ (e : SchemaEntry). same_rev e.rev l.rev) (drop l.entry-index l.entries) ≡ list_any (λ (e : SchemaEntry). same_rev e.rev l.rev) l.entries
