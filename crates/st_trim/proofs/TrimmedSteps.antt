-- A listing of a step that names more than is asked, with the nodes that the step mentions alone, is the step.
use Rattle.std.proofs.Common.{◌≡◌, ℕ, zero, suc, Bool, true, false, ◌&&◌, ◌||◌, not, List, ◌∷◌, map, Option, Some, None, MatchOption, option_and_then, cond, refl, sym, ap, ◌∙◌, subst}
use Rattle.std.specs.List.{list_any}
use Rattle.st_ids.specs.Listing.{IsListing, item_of}
use Rattle.st_ids.specs.Order.{field_cmp, node_cmp, same_node}
use Rattle.st_ids.specs.declared.names.CellId.{CellId}
use Rattle.st_ids.specs.declared.names.FieldId.{FieldId}
use Rattle.st_ids.specs.declared.names.NodeId.{NodeId}
use Rattle.st_kind.specs.Named.{Nodes}
use Rattle.st_marks.specs.declared.changes.NewNode.{NewNode}
use Rattle.st_marks.specs.declared.marks.How.TheVariants.{Stay}
use Rattle.st_marks.specs.declared.marks.RegStep.{RegStep}
use Rattle.st_marks.specs.declared.marks.RowMarks.{RowMarks}
use Rattle.st_marks.specs.declared.places.Slot.{Slot}
use Rattle.st_marks.specs.declared.steps.Step.{Step}
use Rattle.st_marks.specs.Document.{Document, above, climb}
use Rattle.st_ids.specs.Root.{root}
use Rattle.st_marks.specs.Embedding.{is_nowhere, row_marks, tells}
use Rattle.st_marks.specs.Extends.{GainsItems, no_more, item_gained, item_kept}
use Rattle.st_marks.specs.Intent.{same_option}
use Rattle.st_marks.specs.Register.{holds_mentioned, step_register}
use Rattle.st_marks.specs.Row.{Counted, Touch, Make, SameCell, merge, spread, step_cell, step_row}
use Rattle.st_marks.specs.Step.{IsSchemaStep, IsStep, gained_node, step_loose}
use Rattle.st_rows.proofs.KindLaws.{spread-merge}
use Rattle.st_mention_laws.specs.Closed.{IsClosedIn}
use Rattle.st_trim.specs.Trimmed.{AreMentionedByStep, IsTrimmedTo, ListsStep, trim_mark, trim_row, trim_register, trim_loose}

-- what is closed above has all that is above its nodes
pub closed_climb : (D : Document) (K : Nodes) → IsClosedIn D K → (j : ℕ) (s n : NodeId) → K s ≡ true → climb (above D) j s ≡ Some n → K n ≡ true
closed_climb D K c j s n e h = go j s e h
  where
    up : (j : ℕ) (o : Option NodeId) (s : NodeId) → above D s ≡ o → K s ≡ true → option_and_then (climb (above D) j) o ≡ Some n → ((p : NodeId) → K p ≡ true → climb (above D) j p ≡ Some n → K n ≡ true) → K n ≡ true
    up j None s f e h rest = cc
    up j (Some p) s f e h rest = rest p (c s p e f) h

    go : (j : ℕ) (s : NodeId) → K s ≡ true → climb (above D) j s ≡ Some n → K n ≡ true
    go zero s e h = let q : s ≡ n = cc in ap K (sym q) ∙ e
    go (suc j) s e h = up j (above D s) s refl e h (λ p f q. go j p f q)

module _ (K k : Nodes) (fewer : (n : NodeId) → k n ≡ true → K n ≡ true) where
  both_named : (n : NodeId) (a b : Bool) → k n ≡ a → K n ≡ b → (a ≡ true) → b ≡ true
  both_named n a b e f h = sym f ∙ fewer n (e ∙ h)

  trim_mark-cell : (c : CellId) (n : NodeId) (a b : Bool) → trim_mark k (step_cell K c n a b) ≡ step_cell k c n a b
  trim_mark-cell c n true true = go (K n) refl (k n) refl
    where
      go : (a : Bool) → K n ≡ a → (b : Bool) → k n ≡ b → trim_mark k (cond a (Touch c n Stay) Counted) ≡ cond b (Touch c n Stay) Counted
      go true e true f = ap (λ z. cond z (Touch c n Stay) Counted) f
      go true e false f = ap (λ z. cond z (Touch c n Stay) Counted) f
      go false e true f = let q : ◌≡◌ {A = Bool} false true = sym e ∙ fewer n f in cc
      go false e false f = refl
  trim_mark-cell c n true false = refl
  trim_mark-cell c n false true = refl
  trim_mark-cell c n false false = refl

  pub trim_mark-row : {c d : List Slot} (g : GainsItems SameCell c d) → map (trim_mark k) (step_row K g) ≡ step_row k g
  trim_mark-row no_more = refl
  trim_mark-row (item_gained {y = t} g) = ap (λ l. Make t.cell t.node t.full ∷ l) (trim_mark-row g)
  trim_mark-row (item_kept {x = s} {y = t} a g) = λ i. trim_mark-cell s.cell s.node s.full t.full i ∷ trim_mark-row g i

  quiet-cell : (c : CellId) (n : NodeId) (a b : Bool) → tells (step_cell K c n a b) ≡ false → tells (step_cell k c n a b) ≡ false
  quiet-cell c n true true = go (K n) refl (k n) refl
    where
      go : (a : Bool) → K n ≡ a → (b : Bool) → k n ≡ b → tells (cond a (Touch c n Stay) Counted) ≡ false → tells (cond b (Touch c n Stay) Counted) ≡ false
      go true e b f h = cc
      go false e true f h = let q : ◌≡◌ {A = Bool} false true = sym e ∙ fewer n f in cc
      go false e false f h = refl
  quiet-cell c n true false = λ h. h
  quiet-cell c n false true = λ h. h
  quiet-cell c n false false = λ h. h

  or_parts : (a b : Bool) → (a || b) ≡ false → (a ≡ false) × (b ≡ false)
  or_parts true b e = cc
  or_parts false b e = (refl, e)

  pub quiet-row : {c d : List Slot} (g : GainsItems SameCell c d) → list_any tells (step_row K g) ≡ false → list_any tells (step_row k g) ≡ false
  quiet-row no_more h = refl
  quiet-row (item_gained g) h = cc
  quiet-row (item_kept {x = s} {y = t} a g) h =
      let p = or_parts (tells (step_cell K s.cell s.node s.full t.full)) (list_any tells (step_row K g)) h in
      λ i. quiet-cell s.cell s.node s.full t.full p.0 i || quiet-row g p.1 i

  quiet-held : (h : Option NodeId) → holds_mentioned K h ≡ false → holds_mentioned k h ≡ false
  quiet-held None e = refl
  quiet-held (Some n) e = go (k n) refl
    where
      go : (b : Bool) → k n ≡ b → b ≡ false
      go true f = let q : ◌≡◌ {A = Bool} false true = sym e ∙ fewer n f in cc
      go false f = refl

  unlisted : {A : Type 0} (b : Bool) (x : A) → ◌≡◌ {A = Option A} (cond b (Some x) None) None → b ≡ false
  unlisted true x e = cc
  unlisted false x e = refl

  quiet-register : (f : FieldId) (h a : Option NodeId) → step_register f K h a ≡ None → step_register f k h a ≡ None
  quiet-register f h a e =
      let p = or_parts (not (same_option same_node h a)) (holds_mentioned K h) (unlisted (not (same_option same_node h a) || holds_mentioned K h) _ e) in
      ap (λ (b : Bool). cond {A = Option RegStep} b (Some (record { field = f; before = h; after = a })) None) (λ i. p.0 i || quiet-held h p.1 i)

-- what is kept of a listing is the step
module _ (D E : Document) (K k : Nodes) (G T : Step) (l : ListsStep D E K G) (w : AreMentionedByStep D E k) where
  fewer : (n : NodeId) → k n ≡ true → K n ≡ true
  fewer n e = let m = (w n).0 e in closed_climb D K l.covers.closed m.2 m.0 n (l.covers.changed m.0 m.1) m.3

  row_trimmed : (n : NodeId) (o : Option RowMarks) → MatchOption o (list_any tells (step_row K (l.grows n)) ≡ false) (λ r. r.marks ≡ merge (step_row K (l.grows n))) → trim_row k n o ≡ row_marks n (step_row k (l.grows n))
  row_trimmed n None h = sym (ap (λ b. cond b (Some (record { node = n; marks = merge (step_row k (l.grows n)) })) None) (quiet-row K k fewer (l.grows n) h))
  row_trimmed n (Some r) h = ap (row_marks n) (ap (map (trim_mark k)) (ap spread h ∙ spread-merge (step_row K (l.grows n))) ∙ trim_mark-row K k fewer (l.grows n))

  register_trimmed : (f : FieldId) (o : Option RegStep) → MatchOption o (step_register f K (D.held f) (E.held f) ≡ None) (λ r. r ≡ record { field = f; before = D.held f; after = E.held f }) → trim_register k o ≡ step_register f k (D.held f) (E.held f)
  register_trimmed f None h = sym (quiet-register K k fewer f (D.held f) (E.held f) h)
  register_trimmed f (Some r) h = ap (λ (r : RegStep). step_register r.field k r.before r.after) h

  loose_trimmed : (n : NodeId) → trim_loose k (step_loose K D E n) ≡ step_loose k D E n
  loose_trimmed n = go (K n) refl (k n) refl (is_nowhere (D.place n)) (not (same_node n root)) _
    where
      go : (a : Bool) → K n ≡ a → (b : Bool) → k n ≡ b → (c d : Bool) (x : _) → trim_loose k (cond (a && c && d) (Some (record { node = n; how = x })) None) ≡ cond (b && c && d) (Some (record { node = n; how = x })) None
      go true e true f true true x = ap (λ z. cond z (Some (record { node = n; how = x })) None) f
      go true e true f true false x = refl
      go true e true f false d x = refl
      go true e false f true true x = ap (λ z. cond z (Some (record { node = n; how = x })) None) f
      go true e false f true false x = refl
      go true e false f false d x = refl
      go false e true f c d x = let q : ◌≡◌ {A = Bool} false true = sym e ∙ fewer n f in cc
      go false e false f c d x = refl

  pub listing_trimmed : IsTrimmedTo k G T → IsStep D E T
  listing_trimmed t = record {
    mentioned = k;
    which = w;
    schema = subst (IsSchemaStep D.schemas E.schemas) (sym t.schema) l.schema;
    new = subst (λ xs. IsListing node_cmp (λ (m : NewNode). m.node) xs (λ n. gained_node n (D.nodes n) (E.nodes n))) (sym t.new) l.new;
    grows = l.grows;
    rows = record { rising = t.rows.rising; at_each = λ n. t.rows.at_each n ∙ row_trimmed n (item_of node_cmp (λ (r : RowMarks). r.node) G.rows n) (l.rows n) };
    regs = record { rising = t.regs.rising; at_each = λ f. t.regs.at_each f ∙ register_trimmed f (item_of field_cmp (λ (r : RegStep). r.field) G.regs f) (l.regs f) };
    loose = record { rising = t.loose.rising; at_each = λ n. t.loose.at_each n ∙ ap (trim_loose k) (l.loose.at_each n) ∙ loose_trimmed n };
  }
