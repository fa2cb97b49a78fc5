-- Words of the private functions that mark types by their numbers.
use Rattle.std.specs.Prelude.{◌≡◌, ◌<◌, ℕ, nat_lt, if◌then◌else◌, List, [], ◌∷◌, Bool, true, false, ◌&&◌, ◌||◌, Option, None, Some, slice_get, slice_index_or}
use Rattle.std.specs.List.{sum_by}
use Rattle.st_schema.specs.Schema.{SchemaView, is_among, form_of}
use Rattle.st_schema.specs.declared.names.Form.{Form}
use Rattle.st_compat.specs.Relation.{IsReachable, types_below, why}
use Rattle.st_compat.specs.declared.relation.Cause.{Cause}
use Rattle.st_compat.specs.declared.relation.Why.{Why}
use Rattle.st_compat.specs.declared.relation.Relation.{Relation}
use Rattle.st_compat.specs.declared.relation.Relation.TheVariants as relation

-- whether the type of that number is marked
abbrev pub flag : List Bool → ℕ → Bool
flag marks k = slice_index_or marks k false

abbrev pub names_one : Option (List ℕ × Form) → List (List ℕ) → Bool
names_one None types = false
names_one (Some d) types = is_among d.0 types

-- a list of types names the type of that number
abbrev pub is_named : SchemaView → List (List ℕ) → ℕ → Bool
is_named s types k = names_one (slice_get s.types k) types

abbrev pub below_form : Option Form → List (List ℕ)
below_form None = []
below_form (Some form) = types_below form

abbrev pub below_one : SchemaView → Option (List ℕ × Form) → List (List ℕ)
below_one s None = []
below_one s (Some d) = below_form (form_of s.types d.0)

-- the types that a node of the type of that number may hold
abbrev pub below_number : SchemaView → ℕ → List (List ℕ)
below_number s k = below_one s (slice_get s.types k)

-- the types that the list names are marked too
abbrev pub IsMarkedToo : SchemaView → List (List ℕ) → List Bool → List Bool → Type 0
IsMarkedToo s types old new = (k : ℕ) → flag new k ≡ (flag old k || is_named s types k)

-- a type is marked exactly where it is reachable
pub record IsMarking (s : SchemaView) (marks : List Bool) : Type 0 where
  pub only : (k : ℕ) (d : List ℕ × Form) → slice_get s.types k ≡ Some d → flag marks k ≡ true → IsReachable s d.0
  pub all : (k : ℕ) (d : List ℕ × Form) → slice_get s.types k ≡ Some d → IsReachable s d.0 → flag marks k ≡ true

-- no marked type fails
abbrev pub PassesWhere : List Bool → SchemaView → SchemaView → Type 0
PassesWhere marks s v = (k : ℕ) (d : List ℕ × Form) → slice_get s.types k ≡ Some d → flag marks k ≡ true → why s v d.0 ≡ None

-- no more than the marks that are followed
abbrev pub AllFollowed : List Bool → List Bool → Type 0
AllFollowed marks followed = (k : ℕ) → flag marks k ≡ true → flag followed k ≡ true

-- a mark that is not followed yet
pub record IsNext (marks followed : List Bool) (k : ℕ) : Type 0 where
  pub within : k < 256
  pub marked : flag marks k ≡ true
  pub left : flag followed k ≡ false

-- the cause of a type, if it fails
abbrev pub cause_of : List ℕ → Option Why → List Cause
cause_of ty None = []
cause_of ty (Some w) = record { ty = ty; why = w } ∷ []

-- by the causes, where a view is neither equal nor wider
abbrev pub relation_by : List Cause → Relation
relation_by [] = relation.Viewable
relation_by (c ∷ cs) = relation.Refuse (c ∷ cs)

-- ---- looked at in turn

-- the types of numbers below i that the list names are marked too
abbrev pub IsMarkedBelow : SchemaView → List (List ℕ) → List Bool → List Bool → ℕ → Type 0
IsMarkedBelow s types old new i = (k : ℕ) → flag new k ≡ (flag old k || (nat_lt k i && is_named s types k))

-- no marked type of a number below i fails
abbrev pub PassesBelow : List Bool → SchemaView → SchemaView → ℕ → Type 0
PassesBelow marks s v i = (k : ℕ) (d : List ℕ × Form) → k < i → slice_get s.types k ≡ Some d → flag marks k ≡ true → why s v d.0 ≡ None

-- what is marked is reachable, and all that the root's list or a followed type names is marked
pub record AreMarks (s : SchemaView) (marks followed : List Bool) : Type 0 where
  pub only : (k : ℕ) (d : List ℕ × Form) → slice_get s.types k ≡ Some d → flag marks k ≡ true → IsReachable s d.0
  pub root : (k : ℕ) → is_named s s.root k ≡ true → flag marks k ≡ true
  pub closed : (j k : ℕ) → flag followed j ≡ true → is_named s (below_number s j) k ≡ true → flag marks k ≡ true

-- how many marks are not followed yet, at most
abbrev pub left : List Bool → ℕ
left followed = sum_by (λ b. if b then 0 else 1) followed
