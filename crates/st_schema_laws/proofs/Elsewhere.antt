-- An intent that agrees with the schema in one document agrees with it in each other one that has the same old names.
use Rattle.std.proofs.Common.{◌≡◌, true, Option, Some, None, IsSome, is_some, refl, sym, ap, ◌∙◌, option_and_then}
use Rattle.std.specs.Option.{option_or}
use Rattle.st_ids.specs.declared.names.CellId.{CellId}
use Rattle.st_ids.specs.declared.names.FieldId.{FieldId}
use Rattle.st_ids.specs.declared.names.Key.{Key}
use Rattle.st_ids.specs.declared.names.NodeId.{NodeId}
use Rattle.st_schema.specs.Schema.{SchemaView, field_of}
use Rattle.st_schema.specs.declared.names.FieldRule.{FieldRule}
use Rattle.st_marks.specs.declared.intents.Intent.{Intent}
use Rattle.st_marks.specs.declared.intents.To.{To}
use Rattle.st_marks.specs.Document.{Document, NodeType}
use Rattle.st_marks.specs.Intent.{new_type, is_new, new_row_of}
use Rattle.st_marks.specs.CarryOut.{with_names}
use Rattle.st_edits.specs.Resolve.{rule_at}
use Rattle.st_schema.specs.Kind.{is_row, is_single_kind}
use Rattle.st_edits.specs.Fields.{row_key}
use Rattle.st_schema_laws.specs.Agreeing.{KeepsSchema, MayGo, MayBeLeft}
use Rattle.st_schema_laws.proofs.Kept.{HasNodes, admits_later, required_later, known_later}

module _ (s : SchemaView) (home : NodeId → Option FieldId) (D E : Document) (N : Intent) (a : KeepsSchema s home D N) (nodes : HasNodes D E) (cells : (c : CellId) (n : NodeId) → D.row_of c ≡ Some n → E.row_of c ≡ Some n)
    (fresh_nodes : (n : NodeId) → is_new N n ≡ true → E.nodes n ≡ None) (fresh_cells : (c : CellId) → IsSome (new_row_of N c) → E.row_of c ≡ None) where
  names : HasNodes (with_names D N) (with_names E N)
  names n t e = go (D.nodes n) refl e
    where
      go : (o : Option NodeType) → D.nodes n ≡ o → option_or o (new_type N n) ≡ Some t → option_or (E.nodes n) (new_type N n) ≡ Some t
      go (Some u) q f = rw (nodes n u q) f
      go None q f = rw (fresh_nodes n (ap is_some f)) f

  rows : (c : CellId) (n : NodeId) → (with_names D N).row_of c ≡ Some n → (with_names E N).row_of c ≡ Some n
  rows c n e = go (D.row_of c) refl e
    where
      go : (o : Option NodeId) → D.row_of c ≡ o → option_or o (new_row_of N c) ≡ Some n → option_or (E.row_of c) (new_row_of N c) ≡ Some n
      go (Some u) q f = rw (cells c u q) f
      go None q f = rw (fresh_cells c (ap is_some f)) f

  -- what is said of a new node there is said of it here
  back : (n : NodeId) (key : Key) (rule : FieldRule) → is_new N n ≡ true → rule_at (with_names E N) s n key ≡ Some rule → rule_at (with_names D N) s n key ≡ Some rule
  back n key rule new e = go (D.nodes n) refl
    where
      there : option_and_then (λ (t : NodeType). field_of s t.ty key.0) (new_type N n) ≡ Some rule
      there = rw (fresh_nodes n new) at e

      go : (o : Option NodeType) → D.nodes n ≡ o → rule_at (with_names D N) s n key ≡ Some rule
      go None q = rw q there
      go (Some t) q = let bad : Some t ≡ None = sym (nodes n t q) ∙ fresh_nodes n new in cc

  may_go : (m : NodeId) (to : To) → MayGo s home D N m to → MayGo s home E N m to
  may_go m To.Nowhere h = tt
  may_go m (To.Cell c) h = (h.0, rows c h.0 h.1, admits_later s (with_names D N) (with_names E N) names home is_row h.0 row_key m h.2)
  may_go m (To.Register f) h = admits_later s (with_names D N) (with_names E N) names home is_single_kind f.node f.key m h

  may_be_left : (f : FieldId) → MayBeLeft s D N f → MayBeLeft s E N f
  may_be_left f may = record {
    known = known_later s (with_names D N) (with_names E N) names f.node may.known;
    filled = λ required. may.filled (sym (required_later s (with_names D N) (with_names E N) names f may.known) ∙ required);
  }

  pub agrees_there : KeepsSchema s home E N
  agrees_there = record {
    types = a.types;
    puts = λ m to e. may_go m to (a.puts m to e);
    leaves = λ m f put old lives. may_be_left f (a.leaves m f put old lives);
    clears = λ f e. may_be_left f (a.clears f e);
    homes = λ m f new lives. known_later s (with_names D N) (with_names E N) names f.node (a.homes m f new lives);
    filled = λ n key rule new ruled required. a.filled n key rule new (back n key rule new ruled) required;
  }
