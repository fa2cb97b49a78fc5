-- What is known, made and required after two parts of a commit, by the two in turn and by their join.
use Rattle.std.proofs.Common.{◌≡◌, Bool, true, false, ◌||◌, Option, Some, None, IsSome, is_some, option_map, option_and_then, refl, ap, ◌∙◌}
use Rattle.std.specs.Option.{option_or, option_map_or}
use Rattle.st_ids.specs.declared.names.CellId.{CellId}
use Rattle.st_ids.specs.declared.names.FieldId.{FieldId}
use Rattle.st_ids.specs.declared.names.NodeId.{NodeId}
use Rattle.st_schema.specs.Schema.{SchemaView, field_of}
use Rattle.st_schema.specs.declared.names.FieldRule.{FieldRule}
use Rattle.st_marks.specs.declared.changes.NewNode.{NewNode}
use Rattle.st_marks.specs.declared.intents.Intent.{Intent}
use Rattle.st_marks.specs.Document.{Document, NodeType, IsSoundInForm}
use Rattle.st_marks.specs.Intent.{new_node, new_type, is_new}
use Rattle.st_marks.specs.CarryOut.{full, with_names}
use Rattle.st_marks.specs.Join.{AreParts, IsJoin}
use Rattle.st_marks.proofs.Joined.{joined_in_turn}
use Rattle.st_schema.specs.Kind.{is_required}
use Rattle.st_edits.specs.Fields.{is_required_field}
use Rattle.st_schema_laws.proofs.Kept.{HasNodes, named_later}
use Rattle.st_lemmas.proofs.Bools.{true-false}

pub record JoinedNames (D : Document) (N M J : Intent) : Type 0 where
  pub same_nodes : (n : NodeId) → (with_names D J).nodes n ≡ (with_names (full D N) M).nodes n
  pub same_rows : (d : CellId) → (with_names D J).row_of d ≡ (with_names (full D N) M).row_of d
  pub from_second : HasNodes (with_names (full D N) M) (with_names D J)
  pub from_first : HasNodes (with_names D N) (with_names D J)
  pub type_joined : (n : NodeId) → new_type J n ≡ option_or (new_type N n) (new_type M n)
  pub new_joined : (n : NodeId) → is_new J n ≡ (is_new N n || is_new M n)
  pub new_first : (n : NodeId) → is_new N n ≡ true → is_new J n ≡ true
  pub new_second : (n : NodeId) → is_new M n ≡ true → is_new J n ≡ true
  pub neither : (n : NodeId) → is_new J n ≡ false → (is_new N n ≡ false) × (is_new M n ≡ false)
  -- what is known after the first part isn't made by the second
  pub not_second : (n : NodeId) → IsSome ((with_names D N).nodes n) → is_new M n ≡ false
  pub required_second : (s : SchemaView) (f : FieldId) → is_required_field s (with_names D J) f ≡ is_required_field s (with_names (full D N) M) f

module _ (D : Document) (N M J : Intent) (sound : IsSoundInForm D) (p : AreParts D N M) (j : IsJoin N M J) where
  same_nodes : (n : NodeId) → (with_names D J).nodes n ≡ (with_names (full D N) M).nodes n
  same_nodes n = ap (λ (E : Document). E.nodes n) (joined_in_turn D N M J sound p j)

  same_rows : (d : CellId) → (with_names D J).row_of d ≡ (with_names (full D N) M).row_of d
  same_rows d = ap (λ (E : Document). E.row_of d) (joined_in_turn D N M J sound p j)

  from_second : HasNodes (with_names (full D N) M) (with_names D J)
  from_second n t e = same_nodes n ∙ e

  from_first : HasNodes (with_names D N) (with_names D J)
  from_first n t e = same_nodes n ∙ named_later (full D N) M n t e

  type_joined : (n : NodeId) → new_type J n ≡ option_or (new_type N n) (new_type M n)
  type_joined n = ap (option_map (λ (m : NewNode). record { ty = m.ty; leaf = m.leaf })) (j.new_nodes n) ∙ mapped (new_node N n)
    where
      mapped : (o : Option NewNode) → option_map (λ (m : NewNode). record { ty = m.ty; leaf = m.leaf }) (option_or o (new_node M n)) ≡ option_or (option_map (λ (m : NewNode). record { ty = m.ty; leaf = m.leaf }) o) (new_type M n)
      mapped None = refl
      mapped (Some m) = refl

  new_joined : (n : NodeId) → is_new J n ≡ (is_new N n || is_new M n)
  new_joined n = ap is_some (type_joined n) ∙ go (new_type N n)
    where
      go : (o : Option NodeType) → is_some (option_or o (new_type M n)) ≡ (is_some o || is_some (new_type M n))
      go None = refl
      go (Some t) = refl

  new_first : (n : NodeId) → is_new N n ≡ true → is_new J n ≡ true
  new_first n e = new_joined n ∙ ap (λ b. b || is_new M n) e

  new_second : (n : NodeId) → is_new M n ≡ true → is_new J n ≡ true
  new_second n e = new_joined n ∙ elim (is_new N n) as (λ b. (b || is_new M n) ≡ true) [ true ↦ refl | false ↦ e ]

  neither : (n : NodeId) → is_new J n ≡ false → (is_new N n ≡ false) × (is_new M n ≡ false)
  neither n e = go (is_new N n) refl (is_new M n) refl
    where
      go : (b : Bool) → is_new N n ≡ b → (d : Bool) → is_new M n ≡ d → (is_new N n ≡ false) × (is_new M n ≡ false)
      go true q d r = absurd (true-false (new_first n q) e)
      go false q true r = absurd (true-false (new_second n r) e)
      go false q false r = (q, r)

  not_second : (n : NodeId) → IsSome ((with_names D N).nodes n) → is_new M n ≡ false
  not_second n known = go (is_new M n) refl
    where
      go : (b : Bool) → is_new M n ≡ b → is_new M n ≡ false
      go false e = e
      go true e = let none : is_some ((full D N).nodes n) ≡ false = rw (p.then_fits.fresh_nodes n e) refl in absurd (true-false known none)

  required_second : (s : SchemaView) (f : FieldId) → is_required_field s (with_names D J) f ≡ is_required_field s (with_names (full D N) M) f
  required_second s f = ap (λ o. option_map_or (λ (rule : FieldRule). is_required rule.kind) (option_and_then (λ (t : NodeType). field_of s t.ty f.key.0) o) false) (same_nodes f.node)

  pub joined_names : JoinedNames D N M J
  joined_names = record {
    same_nodes = same_nodes;
    same_rows = same_rows;
    from_second = from_second;
    from_first = from_first;
    type_joined = type_joined;
    new_joined = new_joined;
    new_first = new_first;
    new_second = new_second;
    neither = neither;
    not_second = not_second;
    required_second = required_second;
  }
