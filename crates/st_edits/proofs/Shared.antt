-- Lemmas that several crates above need.
use Rattle.std.proofs.Common.{List, Option, Some, None, inr}
use Rattle.st_ids.specs.Listing.{Has}
use Rattle.st_marks.specs.declared.intents.Group.{Group}
use Rattle.st_edits.specs.Resolve.{with_group}

pub with_others : (o : Option Group) (gs : List Group) (g : Group) → Has gs g → Has (with_group o gs) g
with_others None gs g h = h
with_others (Some a) gs g h = inr h
