-- How two steps in turn change the list of schemas, where the second goes on from where the first leads.
use Rattle.std.specs.Prelude.{◌≡◌, ◌≢◌, List, ◌++◌}
use Rattle.std.specs.List.{AllByRecursion}
use Rattle.std.specs.Option.{option_map_or}
use Rattle.st_ids.specs.Listing.{Has}
use Rattle.st_ids.specs.declared.names.Rev.{Rev}
use Rattle.st_marks.specs.declared.schemas.SchemaEntry.{SchemaEntry}
use Rattle.st_marks.specs.Document.{last_of, revs}

-- the revision of the last of some entries, or else of the one before them
abbrev pub last_behind : Rev → List SchemaEntry → Rev
last_behind on es = option_map_or (λ (e : SchemaEntry). e.rev) (last_of es) on

-- entries of which each has another revision than the given one and than these entries
abbrev pub AreApartFrom : Rev → List SchemaEntry → List SchemaEntry → Type 0
AreApartFrom on es others = AllByRecursion (λ (e : SchemaEntry). (e.rev ≢ on) × (Has (revs es) e.rev → ⊥)) others

-- the list behind one entry ends with the list behind another, which is the last before it; and some others can stand there too
abbrev pub Meets : Rev → List SchemaEntry → Rev → List SchemaEntry → List SchemaEntry → Type 0
Meets on long at short others = (m : List SchemaEntry) × (long ≡ m ++ short) × (last_behind on m ≡ at) × AreApartFrom on m others
