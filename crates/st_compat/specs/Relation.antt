-- What a view schema is to the schema that documents are stored under.
use Rattle.std.specs.Prelude.{◌≡◌, ℕ, List, [], ◌∷◌, ◌++◌, Bool, true, false, Option, None, Some, Ok, if◌then◌else◌}
use Rattle.std.specs.List.{flat_map}
use Rattle.st_schema.specs.Schema.{SchemaView, is_among, form_of, type_names}
use Rattle.st_schema.specs.Wider.{contains_all, defs_widen, wider_of}
use Rattle.st_schema.specs.declared.names.FieldDef.{FieldDef}
use Rattle.st_schema.specs.declared.names.Form.{Form}
use Rattle.st_schema.specs.declared.names.Form.TheVariants.{Array, Map, Object}
use Rattle.st_compat.specs.declared.relation.Cause.{Cause}
use Rattle.st_compat.specs.declared.relation.Why.{Why}
use Rattle.st_compat.specs.declared.relation.Relation.{Relation}
use Rattle.st_compat.specs.declared.relation.Relation.TheVariants as relation

-- ## Which types a document may hold

abbrev pub types_of_fields : List FieldDef → List (List ℕ)
types_of_fields fields = flat_map (λ f. f.types) fields

-- the types that the fields of a node of this form may hold
abbrev pub types_below : Form → List (List ℕ)
types_below (Array types) = types
types_below (Map types) = types
types_below (Object fields) = types_of_fields fields

-- a path of types leads from the root's list to the type, each of which may stand below the one before
pub data IsReachable (s : SchemaView) : List ℕ → Type 0 where
  at_root : (ty : List ℕ) → is_among ty s.root ≡ true → IsReachable s ty
  below : (up ty : List ℕ) (form : Form) → IsReachable s up → form_of s.types up ≡ Some form → is_among ty (types_below form) ≡ true → IsReachable s ty

-- ## Why a type fails

-- nothing, where a form of the view is the same and as wide; else the first difference
abbrev pub difference : Form → Form → Option Why
difference (Array old) (Array new) = if contains_all new old then None else Some Why.Allow
difference (Array old) (Map new) = Some Why.Shape
difference (Array old) (Object new) = Some Why.Shape
difference (Map old) (Array new) = Some Why.Shape
difference (Map old) (Map new) = if contains_all new old then None else Some Why.Allow
difference (Map old) (Object new) = Some Why.Shape
difference (Object olds) (Array new) = Some Why.Shape
difference (Object olds) (Map new) = Some Why.Shape
difference (Object olds) (Object news) = if defs_widen olds news then None else Some Why.Fields

-- the same against what the view defines
abbrev pub lack : Form → Option Form → Option Why
lack form None = Some Why.Absent
lack form (Some view) = difference form view

abbrev pub why_form : Option Form → Option Form → Option Why
why_form None view = None
why_form (Some form) view = lack form view

-- why a type that is stored fails in the view, and nothing where it doesn't fail or is no defined type
abbrev pub why : SchemaView → SchemaView → List ℕ → Option Why
why s v ty = why_form (form_of s.types ty) (form_of v.types ty)

-- ## Relations

-- no type fails that a stored document may hold, and the view's root may be what the stored root may be
pub record Reads (s v : SchemaView) : Type 0 where
  pub types : (ty : List ℕ) → IsReachable s ty → why s v ty ≡ None
  pub root : contains_all v.root s.root ≡ true

-- no type fails at all, reachable or not
pub record Covers (s v : SchemaView) : Type 0 where
  pub types : (ty : List ℕ) → why s v ty ≡ None
  pub root : contains_all v.root s.root ≡ true

-- each covers the other: the same types with the same forms, lists and fields, and the same root's list, in any order
abbrev pub AreEqual : SchemaView → SchemaView → Type 0
AreEqual s v = Covers s v × Covers v s

-- the causes of these types, in their order: of each that is reachable and fails
pub data CausesOf (s v : SchemaView) : List (List ℕ) → List Cause → Type 0 where
  none : CausesOf s v [] []
  fails : (ty : List ℕ) (w : Why) (tys : List (List ℕ)) (causes : List Cause) → IsReachable s ty → why s v ty ≡ Some w → CausesOf s v tys causes → CausesOf s v (ty ∷ tys) (record { ty = ty; why = w } ∷ causes)
  passes : (ty : List ℕ) (tys : List (List ℕ)) (causes : List Cause) → why s v ty ≡ None → CausesOf s v tys causes → CausesOf s v (ty ∷ tys) causes
  unreached : (ty : List ℕ) (tys : List (List ℕ)) (causes : List Cause) → (IsReachable s ty → ⊥) → CausesOf s v tys causes → CausesOf s v (ty ∷ tys) causes

-- the cause of the root's list, under an empty name
abbrev pub root_cause : SchemaView → SchemaView → List Cause
root_cause s v = if contains_all v.root s.root then [] else record { ty = []; why = Why.Root } ∷ []

-- of each stored type that is reachable and fails, in stored order, and last that of the root's list
abbrev pub AreCauses : SchemaView → SchemaView → List Cause → Type 0
AreCauses s v causes = (of_types : List Cause) × CausesOf s v (type_names s.types) of_types × (causes ≡ of_types ++ root_cause s v)

abbrev pub IsUpgrade : SchemaView → SchemaView → Type 0
IsUpgrade s v = wider_of s v ≡ Ok tt

-- the first that holds
abbrev pub IsRelation : SchemaView → SchemaView → Relation → Type 0
IsRelation s v relation.Equal = AreEqual s v
IsRelation s v relation.Upgrade = (AreEqual s v → ⊥) × IsUpgrade s v
IsRelation s v relation.Viewable = (AreEqual s v → ⊥) × (IsUpgrade s v → ⊥) × Reads s v
IsRelation s v (relation.Refuse causes) = (AreEqual s v → ⊥) × (IsUpgrade s v → ⊥) × (Reads s v → ⊥) × AreCauses s v causes

-- it is one by which each stored document is one of the view
abbrev pub is_readable : Relation → Bool
is_readable relation.Equal = true
is_readable relation.Upgrade = true
is_readable relation.Viewable = true
is_readable (relation.Refuse causes) = false
