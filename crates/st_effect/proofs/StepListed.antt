-- What a change does, listed with all that it names, lists the step to the document after it.
use Rattle.std.proofs.Common.{◌≡◌, ℕ, Bool, true, false, List, [], ◌∷◌, Option, Some, None, MatchOption, option_map, Result, Ok, Err, refl, sym, ap, ◌∙◌, subst, is_some}
use Rattle.std.proofs.lemmas.List.{append-nil}
use Rattle.std.specs.Option.{option_or}
use Rattle.std.specs.Prelude.{IfOk}
use Rattle.st_ids.specs.Listing.{Has, IsListing}
use Rattle.st_ids.specs.Order.{field_cmp, node_cmp, same_node}
use Rattle.st_ids.specs.declared.names.FieldId.{FieldId}
use Rattle.st_ids.specs.declared.names.NodeId.{NodeId}
use Rattle.st_ids.proofs.Orders.{same_node-true}
use Rattle.st_kind.specs.Named.{Nodes, either}
use Rattle.st_marks.specs.declared.changes.Change.{Change}
use Rattle.st_marks.specs.declared.changes.NewNode.{NewNode}
use Rattle.st_marks.specs.declared.intents.Intent.{Intent}
use Rattle.st_marks.specs.declared.marks.RegMark.{RegMark}
use Rattle.st_marks.specs.declared.marks.RegStep.{RegStep}
use Rattle.st_marks.specs.declared.marks.RowMarks.{RowMarks}
use Rattle.st_marks.specs.declared.places.Spot.{Spot}
use Rattle.st_marks.specs.declared.schemas.SchemaStep.{SchemaStep}
use Rattle.st_marks.specs.declared.steps.Step.{Step}
use Rattle.st_marks.specs.declared.verdicts.Verdict.{Verdict}
use Rattle.st_marks.specs.CarryOut.{full, void, with_schema}
use Rattle.st_marks.specs.Document.{Document, HasShortRows, IsSoundInForm, NodeType, content, last_of, revs}
use Rattle.st_marks.specs.Embedding.{IsEmbedding, is_nowhere}
use Rattle.st_marks.specs.Extends.{IsExtendedBy}
use Rattle.st_marks.specs.Intent.{Fits, new_node, new_type, put_of}
use Rattle.st_marks.specs.Step.{IsSchemaStep, gained_node}
use Rattle.st_marks.specs.Verdict.{IsBaseInEffect, IsVerdict, carried_document}
use Rattle.st_marks.proofs.Members.{first-has}
use Rattle.st_marks.proofs.OneVerdict.{carried_extends}
use Rattle.st_marks.proofs.Shared.{not_made}
use Rattle.st_mention_laws.specs.Shown.{thin}
use Rattle.st_register.specs.Register.{reg_carried, reg_part_of}
use Rattle.st_register.proofs.Documents.{void_is as register_void, whole_is as register_whole}
use Rattle.st_rows.specs.Sequence.{ListsNew, row_carried, row_part_of}
use Rattle.st_rows.proofs.DocumentsAfter.{void_is as row_void, whole_is as row_whole}
use Rattle.st_rows.proofs.Existence.{contents_grow, lists_new}
use Rattle.st_trim.specs.Covers.{CoversStep}
use Rattle.st_trim.specs.Evicted.{in_cleared}
use Rattle.st_trim.specs.Trimmed.{ListsStep}
use Rattle.st_trim.proofs.Effects.{effect_covers}
use Rattle.st_effect.specs.inside.Done.{IsRegisterDone, IsRowDone, ListsDone, ShowsListed, is_void, schema_done}
use Rattle.st_effect.proofs.FieldLaws.{rows_law}
use Rattle.st_effect.proofs.LooseListed.{MovesLoose, loose_listed, whole_moves}
use Rattle.st_effect.proofs.ItemPairs.{rising_same}
use Rattle.st_effect.proofs.NamesListed.{mentioned_there}
use Rattle.st_effect.proofs.RegistersListed.{register_listed}
use Rattle.st_effect.proofs.RowsListed.{row_listed}
use Rattle.st_effect.proofs.ShownChanges.{shown_done}
use Rattle.st_effect.proofs.VoidIntents.{void_covers, void_nodes, void_place, void_schemas}

-- ## New nodes

abbrev type_of : NewNode → NodeType
type_of m = record { ty = m.ty; leaf = m.leaf }

node_at : (D : Document) (N : Intent) → Fits D N → (n : NodeId) → new_node N n ≡ gained_node n (D.nodes n) (option_or (D.nodes n) (new_type N n))
node_at D N f n = go (D.nodes n) refl (new_node N n) refl
  where
    go : (o : Option NodeType) → D.nodes n ≡ o → (m : Option NewNode) → new_node N n ≡ m → m ≡ gained_node n o (option_or o (option_map type_of m))
    go None e None h = refl
    go None e (Some m) h = let same = same_node-true m.node n (first-has (λ (k : NewNode). same_node k.node n) N.new m h).1 in λ i. Some (record { node = same i; ty = m.ty; leaf = m.leaf })
    go (Some t) e None h = refl
    go (Some t) e (Some m) h = let bad : ◌≡◌ {A = Option NodeType} None (Some t) = sym (f.fresh_nodes n (ap (λ (k : Option NewNode). is_some (option_map type_of k)) h)) ∙ e in cc

-- ## Schemas

abbrev added : Intent → List ℕ → SchemaStep
added N text = record { on = N.under; cut = []; add = record { rev = N.rev; text = text } ∷ [] }

schema_whole : (D : Document) (N : Intent) (C : Change) → IsEmbedding D N C → IsBaseInEffect D N → IsSchemaStep D.schemas (full D N).schemas (schema_done false C)
schema_whole D N C emb base = subst (IsSchemaStep D.schemas (full D N).schemas) (sym says) (go N.schema refl base)
  where
    says : schema_done false C ≡ option_map (added N) N.schema
    says = λ i. option_map (λ text. record { on = emb.under i; cut = []; add = record { rev = emb.rev i; text = text } ∷ [] }) (emb.schema i)

    go : (q : Option (List ℕ)) → N.schema ≡ q → IsBaseInEffect D N → IsSchemaStep D.schemas (with_schema N q D.schemas) (option_map (added N) q)
    go None e b = refl
    go (Some text) e b =
        let last : last_of (revs D.schemas) ≡ Some N.under = subst (λ (q : Option (List ℕ)). MatchOption q (Has (revs D.schemas) N.under) (λ _. last_of (revs D.schemas) ≡ Some N.under)) e b in
        (D.schemas, sym (append-nil D.schemas), refl, last, λ q. cc)

-- ## All of it

module _ (D E : Document) (N : Intent) (C : Change) (v : Bool) (x : IsSoundInForm D) (f : Fits D N) (emb : IsEmbedding D N C) (ext : IsExtendedBy D E) where
  abbrev named : Nodes
  named = either emb.mentioned (in_cleared D N)

  -- what the document after a change has, where it is void or not
  pub record IsAfter : Type 0 where
    pub covers : CoversStep D E named
    pub schema : IsSchemaStep D.schemas E.schemas (schema_done v C)
    pub nodes : (n : NodeId) → E.nodes n ≡ option_or (D.nodes n) (new_type N n)
    pub rows : (new : List NodeId) → ListsNew N new → (n : NodeId) → content E n ≡ row_carried (row_part_of emb.mentioned new N n) v (content D n)
    pub regs : (k : FieldId) → E.held k ≡ (reg_carried (reg_part_of emb.mentioned N k) v (record { node = D.held k })).node
    pub loose : (n : NodeId) → emb.mentioned n ≡ true → D.place n ≡ Spot.Nowhere → MovesLoose D E N v n

  pub lists_step : IsAfter → (G : Step) → ListsDone v C G → G.schema ≡ schema_done v C → ListsStep D E named G
  lists_step a G l s =
      let listed : ListsNew N l.names = record { rising = l.rising; each = λ n. l.each n ∙ (lists_new D N C emb).each n } in
      record {
        covers = a.covers;
        schema = subst (IsSchemaStep D.schemas E.schemas) (sym s) a.schema;
        new = subst (λ (new : List NewNode). IsListing node_cmp (λ (m : NewNode). m.node) new (λ n. gained_node n (D.nodes n) (E.nodes n))) (sym l.new) (record {
          rising = emb.new.rising;
          at_each = λ n. emb.new.at_each n ∙ node_at D N f n ∙ ap (gained_node n (D.nodes n)) (sym (a.nodes n));
        });
        grows = λ n. contents_grow D E n ext;
        rows_rise = rising_same node_cmp (λ (r : RowMarks). r.node) (λ (t : RowMarks). t.node) (IsRowDone v l.names) C.rows G.rows (rows_law v l.names C.rows G.rows l.rows) ∙ emb.rows.rising;
        regs_rise = rising_same field_cmp (λ (r : RegMark). r.field) (λ (t : RegStep). t.field) (IsRegisterDone v C.rev l.names) C.regs G.regs l.regs ∙ emb.regs.rising;
        rows = λ n. row_listed D E N C v x f emb ext l.names listed (a.rows l.names listed) n G.rows (rows_law v l.names C.rows G.rows l.rows);
        regs = λ k. register_listed D E N C v x f emb l.names listed k (a.regs k) G.regs l.regs;
        loose = loose_listed D E N C v emb a.loose G.loose l.loose;
      }

module _ (D : Document) (N : Intent) (C : Change) (x : IsSoundInForm D) (f : Fits D N) (emb : IsEmbedding D N C) where
  whole_after : (ext : IsExtendedBy D (full D N)) → IsBaseInEffect D N → IsAfter D (full D N) N C false x f emb ext
  whole_after ext base = record {
    covers = effect_covers D N C x f emb;
    schema = schema_whole D N C emb base;
    nodes = λ n. refl;
    rows = λ new listed n. row_whole D N n x f emb.mentioned new;
    regs = λ k. register_whole D N emb.mentioned k;
    loose = λ n m place. whole_moves D N x f n place (put_of N n) refl;
  }

  void_after : (ext : IsExtendedBy D (void D N)) → IsAfter D (void D N) N C true x f emb ext
  void_after ext = record {
    covers = void_covers D N C x f emb;
    schema = void_schemas D N f;
    nodes = void_nodes D N f;
    rows = λ new listed n. row_void D N n x f emb.mentioned new listed;
    regs = λ k. register_void D N emb.mentioned k f;
    loose = λ n m place. ap is_nowhere (void_place D N f n (not_made D N f n (mentioned_there D N n x ((emb.which n).0 m))) ∙ place);
  }

  -- what is listed by the verdict lists the step to the document after the change
  pub lists_by_verdict : (w : Verdict) → IsVerdict D N w → HasShortRows (full D N) → (G : Step) → ListsDone (is_void w) C G → G.schema ≡ schema_done (is_void w) C
      → ListsStep D (carried_document w D N) (either emb.mentioned (in_cleared D N)) G
  lists_by_verdict w h short G l s = go w (carried_extends D N w x f short h) h l s
    where
      go : (w : Verdict) → IsExtendedBy D (carried_document w D N) → IsVerdict D N w → ListsDone (is_void w) C G → G.schema ≡ schema_done (is_void w) C
          → ListsStep D (carried_document w D N) (either emb.mentioned (in_cleared D N)) G
      go Verdict.Sound ext h l s = lists_step D (full D N) N C false x f emb ext (whole_after ext h.0) G l s
      go (Verdict.Schema u) ext h l s = lists_step D (void D N) N C true x f emb ext (void_after ext) G l s
      go (Verdict.Need n) ext h l s = lists_step D (void D N) N C true x f emb ext (void_after ext) G l s
      go (Verdict.Cycle n) ext h l s = lists_step D (void D N) N C true x f emb ext (void_after ext) G l s

-- so does what is answered
pub listed_by : {F : Type 0} (D : Document) (N : Intent) (C : Change) (w : Verdict) (v : Bool) (r : Result Step F) → v ≡ is_void w → IfOk r (λ g. ListsDone v C g) → IfOk r (λ g. g.schema ≡ schema_done v C)
    → IsSoundInForm D → Fits D N → HasShortRows (full D N) → (emb : IsEmbedding D N C) → IsVerdict D N w → IfOk r (λ g. ListsStep D (carried_document w D N) (either emb.mentioned (in_cleared D N)) g)
listed_by D N C w v (Err e) q l s x f short emb h = tt
listed_by D N C w v (Ok g) q l s x f short emb h = lists_by_verdict D N C x f emb w h short g (subst (λ b. ListsDone b C g) q l) (subst (λ b. g.schema ≡ schema_done b C) q s)

-- and of a change that is C but for which empty cells it names
pub shown_by : {F : Type 0} (D : Document) (N : Intent) (X C : Change) (w : Verdict) (v : Bool) (r : Result Step F) → thin X ≡ thin C → v ≡ is_void w → IfOk r (λ g. ListsDone v X g) → IfOk r (λ g. g.schema ≡ schema_done v X)
    → IsSoundInForm D → Fits D N → HasShortRows (full D N) → (emb : IsEmbedding D N C) → IsVerdict D N w → IfOk r (ShowsListed D (carried_document w D N) (either emb.mentioned (in_cleared D N)))
shown_by D N X C w v (Err e) same q l s x f short emb h = tt
shown_by D N X C w v (Ok g) same q l s x f short emb h =
    let t = shown_done (is_void w) X C g same (subst (λ b. ListsDone b X g) q l) (subst (λ b. g.schema ≡ schema_done b X) q s) in
    (t.0, lists_by_verdict D N C x f emb w h short t.0 t.1 t.2, t.3)
