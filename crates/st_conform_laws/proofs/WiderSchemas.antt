-- From a schema to one that it becomes by being widened.
use Rattle.std.proofs.Common.{◌≡◌, ℕ, true, List, Option, Some}
use Rattle.st_ids.specs.declared.names.Leaf.{Leaf}
use Rattle.st_schema.specs.Kind.{is_required, is_row, is_single_kind}
use Rattle.st_schema.specs.Schema.{SchemaView, field_of, is_among}
use Rattle.st_schema.specs.declared.names.FieldRule.{FieldRule}
use Rattle.st_schema.proofs.MoreTrees.{among_all}
use Rattle.st_edits.specs.Fields.{type_fits}
use Rattle.st_schema_laws.proofs.Wider.{field_before, field_wider, parts}
use Rattle.st_schema_laws.specs.Widening.{BecomesWider, no_change, one_change}
use Rattle.st_schema_laws.proofs.Widening.{type_becomes}

-- a rule that takes what another takes, and more
pub record TakesMore (old new : FieldRule) : Type 0 where
  pub types : (ty : List ℕ) → is_among ty old.types ≡ true → is_among ty new.types ≡ true
  pub rows : is_row old.kind ≡ true → is_row new.kind ≡ true
  pub singles : is_single_kind old.kind ≡ true → is_single_kind new.kind ≡ true

pub field_becomes : {old new : SchemaView} → BecomesWider old new → (ty key : List ℕ) (rule : FieldRule) → field_of old ty key ≡ Some rule
    → (r : FieldRule) × (field_of new ty key ≡ Some r) × TakesMore rule r
field_becomes no_change ty key rule e = (rule, e, record { types = λ t h. h; rows = λ h. h; singles = λ h. h })
field_becomes (one_change {before} {after} b sound wide) ty key rule e =
    let x = field_becomes b ty key rule e in
    let y = field_wider before after sound wide ty key x.0 x.1 in (
      y.0,
      y.1,
      record {
        types = λ t h. among_all t y.0.types x.0.types y.2.types (x.2.types t h);
        rows = λ h. y.2.rows (x.2.rows h);
        singles = λ h. y.2.singles (x.2.singles h);
      },
    )

-- what the wider schema requires of a type of the old one, the old one did
pub field_was : {old new : SchemaView} → BecomesWider old new → (ty key : List ℕ) (leaf : Option Leaf) (r : FieldRule) → type_fits old ty leaf ≡ true → field_of new ty key ≡ Some r → is_required r.kind ≡ true
    → (rule : FieldRule) × (field_of old ty key ≡ Some rule) × (is_required rule.kind ≡ true)
field_was no_change ty key leaf r fits e required = (r, e, required)
field_was (one_change {before} {after} b sound wide) ty key leaf r fits e required =
    let x = field_before before after sound wide ty key leaf r (type_becomes b ty leaf fits) e required in
    field_was b ty key leaf x.0 fits x.1 x.2

-- root types stay
pub root_becomes : {old new : SchemaView} → BecomesWider old new → (ty : List ℕ) → is_among ty old.root ≡ true → is_among ty new.root ≡ true
root_becomes no_change ty e = e
root_becomes (one_change {before} {after} b sound wide) ty e = among_all ty after.root before.root (parts before after sound wide).1 (root_becomes b ty e)

pub becomes_on : {a b c : SchemaView} → BecomesWider a b → BecomesWider b c → BecomesWider a c
becomes_on x no_change = x
becomes_on x (one_change y sound wide) = one_change (becomes_on x y) sound wide
