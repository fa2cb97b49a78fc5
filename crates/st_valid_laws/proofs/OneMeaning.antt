-- What a change says in its author's document is one intent, up to the order of lists, and so is whether it keeps to its schema.
use Rattle.std.proofs.Common.{◌≡◌, ℕ, Bool, true, false, List, Option, Some, None, IfSome, IsSome, MatchOption, sym, ap, ◌∙◌, subst, ◌⊎◌, inl, inr, option_and_then, option_map, length, ◌<◌}
use Rattle.std.specs.Option.{option_map_or}
use Rattle.st_ids.specs.declared.names.CellId.{CellId}
use Rattle.st_ids.specs.declared.names.FieldId.{FieldId}
use Rattle.st_ids.specs.declared.names.Key.{Key}
use Rattle.st_ids.specs.declared.names.NodeId.{NodeId}
use Rattle.st_ids.specs.declared.names.Rev.{Rev}
use Rattle.st_schema.specs.Kind.{is_required, is_row, is_single_kind}
use Rattle.st_schema.specs.Schema.{SchemaView, field_of, is_among}
use Rattle.st_schema.specs.declared.names.FieldRule.{FieldRule}
use Rattle.st_schema.specs.declared.names.KindName.{KindName}
use Rattle.st_marks.specs.declared.changes.Change.{Change}
use Rattle.st_marks.specs.declared.changes.NewNode.{NewNode}
use Rattle.st_marks.specs.declared.intents.Intent.{Intent}
use Rattle.st_marks.specs.declared.intents.To.{To}
use Rattle.st_marks.specs.CarryOut.{with_names}
use Rattle.st_marks.specs.Document.{Document, IsSoundInForm, NodeType, revs}
use Rattle.st_marks.specs.Embedding.{IsEmbedding}
use Rattle.st_marks.specs.Intent.{Fits, is_new}
use Rattle.st_marks.proofs.OneVerdict.{one_run}
use Rattle.st_same_laws.specs.Same.{SaysTheSame}
use Rattle.st_same_laws.proofs.CarriedDocuments.{full_same, is_new_same}
use Rattle.st_told.proofs.OneIntent.{one_intent}
use Rattle.st_edits.specs.Fields.{is_required_field, row_key}
use Rattle.st_edits.specs.Paths.{field_at}
use Rattle.st_edits.specs.Resolve.{rule_at}
use Rattle.st_lists.specs.Log.{commits_in}
use Rattle.st_lists.specs.declared.lists.Entry.{Entry}
use Rattle.st_valid.specs.Context.{AuthorsIntent}
use Rattle.st_edits.specs.Keeping.{GoesWell, HasField, HasRoomForSchema, IsUpTo, IsViewOf, KeepsToSchema, MayFollow, MayLeave, PassesSchema}
use Rattle.st_valid_laws.specs.Schema.{KeepsInContext}

-- ## Fields

module _ (U : SchemaView) (D E : Document) (nodes : D.nodes ≡ E.nodes) (rows : D.row_of ≡ E.row_of) where
  field_same : (kinds : KindName → Bool) (n : NodeId) (key : Key) (m : NodeId) → HasField U D kinds n key m → HasField U E kinds n key m
  field_same kinds n key m h = record {
    rule = h.rule;
    ruled = subst (λ (f : NodeId → Option NodeType). option_and_then (λ (t : NodeType). field_of U t.ty key.0) (f n) ≡ Some h.rule) nodes h.ruled;
    kind = h.kind;
    typed = subst (λ (f : NodeId → Option NodeType). option_map_or (λ (t : NodeType). is_among t.ty h.rule.types) (f m) false ≡ true) nodes h.typed;
  }

  goes_same : (m : NodeId) (to : To) → GoesWell U D m to → GoesWell U E m to
  goes_same m To.Nowhere h = tt
  goes_same m (To.Cell c) h = (h.0, ap (λ (f : CellId → Option NodeId). f c) (sym rows) ∙ h.1, field_same is_row h.0 row_key m h.2)
  goes_same m (To.Register f) h = field_same is_single_kind f.node f.key m h

-- ## The test of a schema

module _ (O D : Document) (log : List Intent) (N M : Intent) (s : SaysTheSame N M) where
  nodes : (with_names D N).nodes ≡ (with_names D M).nodes
  nodes = ap (λ (F : Document). F.nodes) (full_same D N M s)

  rows : (with_names D N).row_of ≡ (with_names D M).row_of
  rows = ap (λ (F : Document). F.row_of) (full_same D N M s)

  old : (n : NodeId) → is_new M n ≡ false → is_new N n ≡ false
  old n e = is_new_same N M s n ∙ e

  new : (n : NodeId) → is_new N n ≡ true → is_new M n ≡ true
  new n e = sym (is_new_same N M s n) ∙ e

  leaves_same : (f : FieldId) (to : To) → MayLeave N f to → MayLeave M f to
  leaves_same f To.Nowhere h = subst (λ (o : Option NodeId). IsSome o) (s.fills f) h
  leaves_same f (To.Cell c) h = h
  leaves_same f (To.Register g) h = h

  rule_back : (U : SchemaView) (n : NodeId) (key : Key) (rule : FieldRule) → rule_at (with_names D M) U n key ≡ Some rule → rule_at (with_names D N) U n key ≡ Some rule
  rule_back U n key rule e = subst (λ (f : NodeId → Option NodeType). option_and_then (λ (t : NodeType). field_of U t.ty key.0) (f n) ≡ Some rule) (sym nodes) e

  required_back : (U : SchemaView) (f : FieldId) → is_required_field U (with_names D M) f ≡ true → is_required_field U (with_names D N) f ≡ true
  required_back U f e = subst (λ (g : NodeId → Option NodeType). option_map_or (λ (rule : FieldRule). is_required rule.kind) (option_and_then (λ (t : NodeType). field_of U t.ty f.key.0) (g f.node)) false ≡ true) (sym nodes) e

  data_same : (U : SchemaView) (front : List Rev) → KeepsToSchema O D log U front N → KeepsToSchema O D log U front M
  data_same U front h = record {
    types = λ n t e. h.types n t (ap (option_map (λ (m : NewNode). record { ty = m.ty; leaf = m.leaf })) (s.new n) ∙ e);
    filled = λ n key rule e r q. (let x = h.filled n key rule (is_new_same N M s n ∙ e) (rule_back U n key rule r) q in (x.0, sym (s.fills (field_at n key)) ∙ x.1, new x.0 x.2));
    fields = λ m to e. goes_same U (with_names D N) (with_names D M) nodes rows m to (h.fields m to (s.puts m ∙ e));
    put_makers = λ m p e. h.put_makers m (subst (λ (o : Option To). IsSome o) (sym (s.puts m)) p) (old m e);
    clear_makers = λ f c e. h.clear_makers f (s.clear f ∙ c) (old f.node e);
    required = λ f c r. (let x = h.required f (s.clear f ∙ c) (required_back U f r) in (x.0, sym (s.fills f) ∙ x.1, either x.0 x.2));
    homes = λ m to f p e w r. leaves_same f to (h.homes m to f (s.puts m ∙ p) (old m e) w (required_back U f r));
  }
    where
      either : {A : Type 0} (m : NodeId) → (is_new N m ≡ true) ⊎ A → (is_new M m ≡ true) ⊎ A
      either m (inl e) = inl (new m e)
      either m (inr a) = inr a

  pub passes_same : PassesSchema O D log N → PassesSchema O D log M
  passes_same h = record {
    schema = h.schema;
    front = h.front;
    view = subst (λ (u : Rev). IsViewOf D u h.schema) s.under h.view;
    up_to = subst (λ (u : Rev). IsUpTo u (revs D.schemas) h.front) s.under h.up_to;
    keeps = subst (λ o. MatchOption o (KeepsToSchema O D log h.schema h.front M) (MayFollow h.schema)) s.schema (kept N.schema h.keeps);
  }
    where
      kept : (o : Option (List ℕ)) → MatchOption o (KeepsToSchema O D log h.schema h.front N) (MayFollow h.schema) → MatchOption o (KeepsToSchema O D log h.schema h.front M) (MayFollow h.schema)
      kept None k = data_same h.schema h.front k
      kept (Some text) k = k

  pub room_same : HasRoomForSchema D N → HasRoomForSchema D M
  room_same h = subst (λ (o : Option (List ℕ)). IfSome o (λ _. length D.schemas < 64)) s.schema h

-- ## The author's intent

module _ (O : Document) (log : List Entry) (session reference : ℕ) (C : Change) (a b : AuthorsIntent O log session reference C) where
  pub one_document : a.document ≡ b.document
  one_document = one_run a.ran b.ran

  pub one_meaning : IsSoundInForm a.document → SaysTheSame a.intent b.intent
  one_meaning sound = one_intent a.document a.intent b.intent C sound a.fits (subst (λ D. Fits D b.intent) (sym one_document) b.fits) a.embeds (subst (λ D. IsEmbedding D b.intent C) (sym one_document) b.embeds)

-- one that keeps to its schema tells of all
pub keeps_as_one : (O : Document) (log : List Entry) (session reference : ℕ) (C : Change) (a : AuthorsIntent O log session reference C) → IsSoundInForm a.document
    → PassesSchema O a.document (commits_in log) a.intent → HasRoomForSchema a.document a.intent → KeepsInContext O log session reference C
keeps_as_one O log session reference C a sound passes room = record {
  keeps = λ b. subst (λ D. PassesSchema O D (commits_in log) b.intent) (one_document O log session reference C a b) (passes_same O a.document (commits_in log) a.intent b.intent (one_meaning O log session reference C a b sound) passes);
  room = λ b. subst (λ D. HasRoomForSchema D b.intent) (one_document O log session reference C a b) (room_same O a.document (commits_in log) a.intent b.intent (one_meaning O log session reference C a b sound) room);
}
