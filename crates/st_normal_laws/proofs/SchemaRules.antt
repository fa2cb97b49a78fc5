-- The easy half for changes of schema: such a change has nothing else, a new revision, and a base that isn't it.
use Rattle.std.proofs.Common.{◌≡◌, ◌≢◌, ◌++◌, ◌||◌, ◌&&◌, ◌⊎◌, ℕ, Bool, not, true, false, List, [], ◌∷◌, map, Option, Some, None, IsTrue, IfSome, MatchOption, cond, refl, sym, ap, ◌∙◌, subst, inl, inr, option_and_then}
use Rattle.std.specs.List.{AllByRecursion, filter_map, last_or, list_any}
use Rattle.st_ids.specs.Listing.{Has, IsListing}
use Rattle.st_ids.specs.Order.{field_cmp, node_cmp, same_node}
use Rattle.st_ids.proofs.Orders.{field_cmp_exact, field_cmp_total, node_cmp_exact, node_cmp_total}
use Rattle.st_ids.specs.declared.names.CellId.{CellId}
use Rattle.st_ids.specs.declared.names.FieldId.{FieldId}
use Rattle.st_ids.specs.declared.names.NodeId.{NodeId}
use Rattle.st_ids.specs.declared.names.Rev.{Rev}
use Rattle.st_marks.specs.declared.changes.Change.{Change}
use Rattle.st_marks.specs.declared.changes.NewNode.{NewNode}
use Rattle.st_marks.specs.declared.intents.Group.{Group}
use Rattle.st_marks.specs.declared.intents.Intent.{Intent}
use Rattle.st_marks.specs.declared.intents.Put.{Put}
use Rattle.st_marks.specs.declared.intents.To.{To}
use Rattle.st_marks.specs.declared.marks.Loose.{Loose}
use Rattle.st_marks.specs.declared.marks.RegMark.{RegMark}
use Rattle.st_marks.specs.declared.marks.RowMarks.{RowMarks}
use Rattle.st_marks.specs.declared.places.Slot.{Slot}
use Rattle.st_marks.specs.declared.schemas.SchemaEntry.{SchemaEntry}
use Rattle.st_marks.specs.CarryOut.{full}
use Rattle.st_marks.specs.Document.{Document, HasShortRows, IsSoundInForm, content, first_of, revs}
use Rattle.st_ids.specs.Root.{opening, root}
use Rattle.st_marks.specs.Embedding.{IsEmbedding, embed_loose, is_among, is_nowhere, named_by_intent, register_part, row_marks, row_part, tells}
use Rattle.st_marks.specs.Intent.{Fits, cell_of, clears, group_at, new_node, put_of}
use Rattle.st_marks.specs.Register.{RegisterPart, comes_in, embed_register, holds_mentioned, how_held}
use Rattle.st_marks.specs.Row.{Counted, Gap, Touch, Fill, RowPart, embed_cell, embed_cells, embed_made, embed_row, how, merge}
use Rattle.st_marks.specs.How.{is_here}
use Rattle.st_marks.specs.Verdict.{HasBase}
use Rattle.st_marks.proofs.Members.{all-has}
use Rattle.st_normal.specs.Rules.{ObeysChangeRules, ObeysDataRules, ObeysSchemaRules}
use Rattle.st_ids.proofs.Listings.{has-item_of}
use Rattle.st_normal_laws.proofs.DataRules.{embedding_obeys}
use Rattle.st_lemmas.proofs.Options.{one_some}

-- ## Nothing is listed

none-some : {A : Type 0} {x : A} → None ≡ Some x → ⊥
none-some e = cc

-- nodes are listed where none is looked up
no-nodes : {A : Type 0} (key : A → NodeId) (xs : List A) (look : NodeId → Option A) → IsListing node_cmp key xs look → ((n : NodeId) → look n ≡ None) → xs ≡ []
no-nodes key [] look l h = refl
no-nodes key (x ∷ xs) look l h = absurd (none-some (sym (h (key x)) ∙ sym (l.at_each (key x)) ∙ has-item_of node_cmp node_cmp_total node_cmp_exact key (x ∷ xs) x l.rising (inl refl)))

no-fields : {A : Type 0} (key : A → FieldId) (xs : List A) (look : FieldId → Option A) → IsListing field_cmp key xs look → ((f : FieldId) → look f ≡ None) → xs ≡ []
no-fields key [] look l h = refl
no-fields key (x ∷ xs) look l h = absurd (none-some (sym (h (key x)) ∙ sym (l.at_each (key x)) ∙ has-item_of field_cmp field_cmp_total field_cmp_exact key (x ∷ xs) x l.rising (inl refl)))

-- a part that makes nothing, puts nobody and mentions nobody tells nothing of a row
module _ (p : RowPart) (made : (a : Option CellId) → p.new_cells a ≡ []) (target_of : (n : NodeId) → p.target_of n ≡ None) (mentioned : (n : NodeId) → p.mentioned n ≡ false) where
  quiet-cell : (c : CellId) (n : NodeId) (b : Bool) → tells (embed_cell p c n b) ≡ false
  quiet-cell c n true = ap (λ z. tells (cond z (Touch c n (how (p.target_of n) (To.Cell c))) Counted)) (mentioned n)
  quiet-cell c n false = ap (λ g. tells (cond (is_here (how g (To.Cell c))) (Fill c n) (Gap c))) (target_of n)

  quiet-cells : (c : List Slot) → list_any tells (embed_cells p c) ≡ false
  quiet-cells [] = refl
  quiet-cells (s ∷ c) = (λ i. quiet-cell s.cell s.node s.full i || list_any tells (embed_made p (made (Some s.cell) i) ++ embed_cells p c)) ∙ quiet-cells c

  quiet-row : (c : List Slot) → list_any tells (embed_row p c) ≡ false
  quiet-row c = ap (λ os. list_any tells (embed_made p os ++ embed_cells p c)) (made None) ∙ quiet-cells c

-- ## Entries

-- the last entry, or else what stands in for it
pub last-entry : (d : Option Rev) (es : List SchemaEntry) (r : Rev) → last_or d (revs es) ≡ Some r → ((e : SchemaEntry) × Has es e × (e.rev ≡ r)) ⊎ (d ≡ Some r)
last-entry d [] r q = inr q
last-entry d (x ∷ es) r q = elim (last-entry (Some x.rev) es r q) [ inl w ↦ inl (w.0, inr w.1, w.2) | inr e ↦ inl (x, inl refl, one_some _ _ e) ]

first-entry : (es : List SchemaEntry) (r : Rev) → first_of (revs es) ≡ Some r → (e : SchemaEntry) × Has es e × (e.rev ≡ r)
first-entry [] r q = absurd (none-some q)
first-entry (x ∷ es) r q = (x, inl refl, one_some _ _ q)

module _ (D : Document) (N : Intent) (C : Change) (x : IsSoundInForm D) (f : Fits D N) (emb : IsEmbedding D N C) (text : List ℕ) (s : N.schema ≡ Some text) where
  abbrev m : NodeId → Bool
  m = emb.mentioned

  alone : (N.new ≡ []) × (N.groups ≡ []) × (N.clear ≡ []) × (N.put ≡ []) × (N.need ≡ [])
  alone = subst (λ (o : Option (List ℕ)). IfSome o (λ _. (N.new ≡ []) × (N.groups ≡ []) × (N.clear ≡ []) × (N.put ≡ []) × (N.need ≡ []))) s f.itself.schema_alone

  new-entry : (e : SchemaEntry) → Has D.schemas e → e.rev ≢ C.rev
  new-entry e h q = all-has (λ (e : SchemaEntry). e.rev ≢ N.rev) D.schemas e (subst (λ (o : Option (List ℕ)). IfSome o (λ _. AllByRecursion (λ (e : SchemaEntry). e.rev ≢ N.rev) D.schemas)) s f.fresh_schema) h (q ∙ emb.rev)

  none-named : named_by_intent D N ≡ []
  none-named = λ i. map (λ (p : Put). p.node) (alone.3 i) ++ alone.4 i ++ map (λ (g : Group). g.node) (alone.1 i)
      ++ filter_map (λ (p : Put). option_and_then D.row_of (cell_of p.to)) (alone.3 i) ++ map (λ (k : FieldId). k.node) (alone.2 i)

  none-mentioned : (n : NodeId) → m n ≡ false
  none-mentioned n = go (m n) refl
    where
      go : (b : Bool) → m n ≡ b → b ≡ false
      go false e = refl
      go true e = let k = (emb.which n).0 e in absurd (subst (λ l. Has l k.0) none-named k.1)

  no-need : C.need ≡ []
  no-need = no-nodes (λ (n : NodeId). n) C.need (λ n. cond (is_among N.need n) (Some n) None) emb.need (λ n. ap (λ l. cond (is_among l n) (Some n) None) alone.4)

  no-new : C.new ≡ []
  no-new = no-nodes (λ (k : NewNode). k.node) C.new (new_node N) emb.new (λ n. ap (λ l. new_node (record N { new = l }) n) alone.0)

  quiet : (n : NodeId) → list_any tells (embed_row (row_part m N n) (content D n)) ≡ false
  quiet n = quiet-row (row_part m N n) (λ a. ap (λ l. group_at (record N { groups = l }) n a) alone.1) (λ k. ap (λ l. put_of (record N { put = l }) k) alone.3) none-mentioned (content D n)

  no-rows : C.rows ≡ []
  no-rows = no-nodes (λ (r : RowMarks). r.node) C.rows (λ n. row_marks n (embed_row (row_part m N n) (content D n))) emb.rows
      (λ n. ap (λ b. cond b (Some (record { node = n; marks = merge (embed_row (row_part m N n) (content D n)) })) None) (quiet n))

  untold-register : (k : FieldId) (p : RegisterPart) (o : Option NodeId) → p.clear ≡ false → ((n : NodeId) → p.mentioned n ≡ false) → embed_register k p o ≡ None
  untold-register k p o e h =
      ap (λ b. cond b (Some (record { field = k; held = o; how = how_held k p o; clear = p.clear; fill = comes_in o p.fill })) None) ((λ i. e i || holds_mentioned p.mentioned o) ∙ held o)
    where
      held : (o : Option NodeId) → holds_mentioned p.mentioned o ≡ false
      held None = refl
      held (Some n) = h n

  no-regs : C.regs ≡ []
  no-regs = no-fields (λ (r : RegMark). r.field) C.regs (λ k. embed_register k (register_part m N k) (D.held k)) emb.regs
      (λ k. untold-register k (register_part m N k) (D.held k) (ap (λ l. clears (record N { clear = l }) k) alone.2) none-mentioned)

  no-loose : C.loose ≡ []
  no-loose = no-nodes (λ (l : Loose). l.node) C.loose (embed_loose m D N) emb.loose
      (λ n. ap (λ b. cond (b && is_nowhere (D.place n) && not (same_node n root)) (Some (record { node = n; how = how (put_of N n) To.Nowhere })) None) (none-mentioned n))

  not-opening : C.rev ≢ opening
  not-opening q = let e = first-entry D.schemas opening x.in_effect.begun in new-entry e.0 e.1 (e.2 ∙ sym q)

  not-under-itself : IsTrue C.base → C.under ≢ C.rev
  not-under-itself t q = elim (last-entry None D.schemas N.under (subst (λ (o : Option (List ℕ)). HasBase D.schemas o N.under) s (emb.base.0 t))) [
    | inl e ↦ new-entry e.0 e.1 (e.2 ∙ sym emb.under ∙ q)
    | inr e ↦ none-some e
  ]

  pub schema_embedding_obeys : ObeysSchemaRules C
  schema_embedding_obeys = record {
    alone = (no-need, no-new, no-rows, no-regs, no-loose);
    not_opening = not-opening;
    not_under_itself = not-under-itself;
  }

-- the change of an intent that fits and leaves rows short obeys the rules
pub change_obeys : (D : Document) (N : Intent) (C : Change) → IsSoundInForm D → Fits D N → HasShortRows (full D N) → IsEmbedding D N C → ObeysChangeRules C
change_obeys D N C x f short emb = subst (λ (o : Option (List ℕ)). MatchOption o (ObeysDataRules C) (λ _. ObeysSchemaRules C)) (sym emb.schema) (go N.schema refl)
  where
    go : (o : Option (List ℕ)) → N.schema ≡ o → MatchOption o (ObeysDataRules C) (λ _. ObeysSchemaRules C)
    go None s = embedding_obeys D N C x f short s emb
    go (Some text) s = schema_embedding_obeys D N C x f emb text s
