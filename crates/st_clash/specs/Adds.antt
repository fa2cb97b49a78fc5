-- Fields that are added to a list by a rule that names them.
use Rattle.std.specs.Prelude.{◌≡◌, ◌++◌, List}
use Rattle.st_ids.specs.Listing.{Has}
use Rattle.st_ids.specs.declared.names.FieldId.{FieldId}

-- each field that is added is one that the rule names; and where P holds, each that it names is added
abbrev pub Adds : List FieldId → List FieldId → (FieldId → Type 0) → Type 0 → Type 0
Adds old new Rule P = (more : List FieldId) × (new ≡ old ++ more) × ((f : FieldId) → Has more f → Rule f) × (P → (f : FieldId) → Rule f → Has more f)
