-- A commit that agrees with its schema does so by the homes of its own new nodes.
use Rattle.std.proofs.Common.{◌≡◌, Bool, true, false, cond, Option, Some, None, IsSome, option_and_then, sym, ap, subst, ◌∙◌, refl, inl}
use Rattle.st_ids.specs.declared.names.FieldId.{FieldId}
use Rattle.st_ids.specs.declared.names.Key.{Key}
use Rattle.st_ids.specs.declared.names.NodeId.{NodeId}
use Rattle.st_edits.specs.Fields.{put_register}
use Rattle.st_marks.specs.CarryOut.{with_names}
use Rattle.st_marks.specs.Document.{Document, NodeType}
use Rattle.st_marks.specs.Intent.{is_new, put_of, register_of}
use Rattle.st_marks.specs.declared.intents.Intent.{Intent}
use Rattle.st_marks.specs.declared.intents.To.{To}
use Rattle.st_schema.specs.Kind.{is_required, is_row}
use Rattle.st_schema.specs.Schema.{SchemaView, field_of}
use Rattle.st_schema.specs.declared.names.FieldRule.{FieldRule}
use Rattle.st_schema.specs.declared.names.KindName.{KindName}
use Rattle.st_schema_laws.specs.Agreeing.{KeepsSchema, MayGo, with_homes}
use Rattle.st_schema_laws.specs.AgreeingInEffect.{AgreesInLine, Told, with_home}
use Rattle.st_schema_laws.specs.Conforming.{Admits}

row_not_required : (k : KindName) → is_row k ≡ true → is_required k ≡ true → ⊥
row_not_required KindName.Required row required = let e : false ≡ true = row in cc
row_not_required KindName.Optional row required = let e : false ≡ true = row in cc
row_not_required KindName.Sequence row required = let e : false ≡ true = required in cc

module _ (s : SchemaView) (home : NodeId → Option FieldId) (D : Document) (N : Intent) (keeps : KeepsSchema s home D N) where
  new_home : (m : NodeId) → is_new N m ≡ true → with_homes home N m ≡ put_register N m
  new_home m e = ap (λ b. cond b (put_register N m) (home m)) e

  old_home : (m : NodeId) → is_new N m ≡ false → with_homes home N m ≡ home m
  old_home m e = ap (λ b. cond b (put_register N m) (home m)) e

  -- a node with the same home may go where it may
  admits : (kinds : KindName → Bool) (n : NodeId) (key : Key) (m : NodeId) → with_homes home N m ≡ home m → Admits s home (with_names D N) kinds n key m → Admits s (with_homes home N) (with_names D N) kinds n key m
  admits kinds n key m same h = record {
    rule = h.rule;
    ruled = h.ruled;
    kind = h.kind;
    typed = h.typed;
    at_home = λ required. same ∙ h.at_home required;
    away = λ f e. h.away f (sym same ∙ e);
  }

  -- and so may a new one, whose home is the register into which it is put, if it is put into one
  goes_new : (m : NodeId) (to : To) → with_homes home N m ≡ register_of to → MayGo s home D N m to → MayGo s (with_homes home N) D N m to
  goes_new m To.Nowhere at g = tt
  goes_new m (To.Cell c) at (n, row, h) = (
    n,
    row,
    record {
      rule = h.rule;
      ruled = h.ruled;
      kind = h.kind;
      typed = h.typed;
      at_home = λ required. absurd (row_not_required h.rule.kind h.kind required);
      away = λ f e. absurd (let q : None ≡ Some f = sym at ∙ e in cc);
    },
  )
  goes_new m (To.Register f) at h = record {
    rule = h.rule;
    ruled = h.ruled;
    kind = h.kind;
    typed = h.typed;
    at_home = λ required. at;
    away = λ g e. inl (one f g (sym at ∙ e));
  }
    where
      one : (f g : FieldId) → Some f ≡ Some g → g ≡ f
      one f g e = cc

  goes_old : (m : NodeId) (to : To) → with_homes home N m ≡ home m → MayGo s home D N m to → MayGo s (with_homes home N) D N m to
  goes_old m To.Nowhere same g = tt
  goes_old m (To.Cell c) same (n, row, h) = (n, row, admits is_row n _ m same h)
  goes_old m (To.Register f) same h = admits _ f.node f.key m same h

  goes : (m : NodeId) (to : To) (b : Bool) → is_new N m ≡ b → put_of N m ≡ Some to → MayGo s home D N m to → MayGo s (with_homes home N) D N m to
  goes m to true new e g = goes_new m to (new_home m new ∙ ap (option_and_then register_of) e) g
  goes m to false old e g = goes_old m to (old_home m old) g

  -- the node of a register into which something is put is there
  there : (o : Option NodeType) (key : Key) (rule : FieldRule) → option_and_then (λ (t : NodeType). field_of s t.ty key.0) o ≡ Some rule → IsSome o
  there None key rule e = absurd (let q : None ≡ Some rule = e in cc)
  there (Some t) key rule e = refl

  home_there : (m : NodeId) (f : FieldId) (o : Option To) → put_of N m ≡ o → option_and_then register_of o ≡ Some f → IsSome ((with_names D N).nodes f.node)
  home_there m f None e at = absurd (let q : None ≡ Some f = at in cc)
  home_there m f (Some To.Nowhere) e at = absurd (let q : None ≡ Some f = at in cc)
  home_there m f (Some (To.Cell c)) e at = absurd (let q : None ≡ Some f = at in cc)
  home_there m f (Some (To.Register g)) e at =
      let same : g ≡ f = cc in
      let h = keeps.puts m (To.Register g) e in
      subst (λ (k : FieldId). IsSome ((with_names D N).nodes k.node)) same (there ((with_names D N).nodes g.node) g.key h.rule h.ruled)

  own_homes_keep : KeepsSchema s (with_homes home N) D N
  own_homes_keep = record {
    types = keeps.types;
    puts = λ m to e. goes m to (is_new N m) refl e (keeps.puts m to e);
    leaves = λ m f put old e. keeps.leaves m f put old (sym (old_home m old) ∙ e);
    clears = keeps.clears;
    homes = λ m f new e. home_there m f (put_of N m) refl (sym (new_home m new) ∙ e);
    filled = keeps.filled;
  }

-- so does one that agrees as it is told
pub own_homes_agree : (T : Told) (D : Document) (N : Intent) → AgreesInLine T D N → AgreesInLine (with_home T N) D N
own_homes_agree T D N a = record { under = a.under; chain = a.chain; view = a.view; names = a.names; keeps = own_homes_keep (T.view N.under) T.home _ N a.keeps }
