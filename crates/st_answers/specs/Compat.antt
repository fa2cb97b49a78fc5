-- The relation of two schemas: a stored one, and one under which its documents are to be read.
use Rattle.std.specs.Prelude.{◌≡◌, ℕ, List, [], Ok, Err}
use Rattle.st_json.specs.declared.fault.BadCause.{BadCause}
use Rattle.st_json.specs.declared.fault.BadCause.TheVariants.{Shape}
use Rattle.st_schema.specs.Schema.{SchemaView}
use Rattle.st_compat.specs.Relation.{IsRelation}
use Rattle.st_compat.specs.RelationText.{relation_line}
use Rattle.st_compat.specs.SchemaLine.{IsSchemaLine, further_cause}
use Rattle.st_compat.specs.declared.relation.Relation.{Relation}
use Rattle.st_answers.specs.Meaning.{Meaning}

-- no schema was read yet, or the stored one, or both
pub data CompatState : Type 0 where
  unread : CompatState
  stored : SchemaView → CompatState
  related : CompatState

-- a line is the stored schema, of which nothing is told yet
pub record IsStored (line text : List ℕ) (t : CompatState) : Type 0 where
  pub schema : SchemaView
  pub is : IsSchemaLine line (Ok schema)
  pub told : text ≡ []
  pub state : t ≡ stored schema

-- a line is the other schema, and their relation is told
pub record IsRelated (s : SchemaView) (line text : List ℕ) (t : CompatState) : Type 0 where
  pub view : SchemaView
  pub relation : Relation
  pub is : IsSchemaLine line (Ok view)
  pub relates : IsRelation s view relation
  pub told : text ≡ relation_line relation
  pub state : t ≡ related

abbrev pub TakesCompat : CompatState → ℕ → List ℕ → List ℕ → CompatState → Type 0
TakesCompat unread n line told t = IsStored line told t
TakesCompat (stored s) n line told t = IsRelated s line told t
TakesCompat related n line told t = ⊥

abbrev pub IsBadInCompat : CompatState → List ℕ → BadCause → Type 0
IsBadInCompat unread line c = IsSchemaLine line (Err c)
IsBadInCompat (stored s) line c = IsSchemaLine line (Err c)
IsBadInCompat related line c = c ≡ further_cause line

abbrev pub FinishesCompat : CompatState → List ℕ → Type 0
FinishesCompat unread last = ⊥
FinishesCompat (stored s) last = ⊥
FinishesCompat related last = last ≡ []

abbrev pub LacksInCompat : CompatState → BadCause → Type 0
LacksInCompat unread c = c ≡ Shape
LacksInCompat (stored s) c = c ≡ Shape
LacksInCompat related c = ⊥

abbrev pub compat : Meaning
compat = record { State = CompatState; first = unread; Takes = TakesCompat; IsBad = IsBadInCompat; IsRefused = λ s line c. ⊥; Finishes = FinishesCompat; Lacks = LacksInCompat }
