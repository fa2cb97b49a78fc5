use Rattle.std.proofs.Common.{◌≡◌, ◌++◌}
use Rattle.std.specs.Map.{keys_of}
use Rattle.st_doc.proofs.doc.Doc.occupied_registers.Given as goal

-- what is listed, and what is left to list
abbrev pub invariant-loop-field : goal.invariant-loop-field
invariant-loop-field l = l.fields ++ keys_of l.field-iterator ≡ keys_of l.self.held.entries
