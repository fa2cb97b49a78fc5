-- An intent has one embedding in a document, and there is one step between two documents.
use Rattle.std.proofs.Common.{◌≡◌, ◌≢◌, Bool, true, List, [], ◌∷◌, ◌++◌, map, Option, Some, None, refl, sym, ap, ◌∙◌, ◌↔◌}
use Rattle.std.specs.List.{AllByRecursion}
use Rattle.std.specs.declared.cmp.Ordering.{Ordering}
use Rattle.std.specs.Cmp.{IsTotalOrder}
use Rattle.std.proofs.lemmas.Map.Lookups.{CmpEqualImpliesEq}
use mathlib.Core.Path.{fun_ext}
use Rattle.st_ids.specs.Listing.{IsListing, AreDistinct}
use Rattle.st_ids.specs.declared.names.CellId.{CellId}
use Rattle.st_ids.specs.declared.names.NodeId.{NodeId}
use Rattle.st_ids.proofs.Orders.{same_listing, node_cmp_total, node_cmp_exact, field_cmp_total, field_cmp_exact}
use Rattle.st_marks.specs.declared.changes.Change.{Change}
use Rattle.st_marks.specs.declared.changes.NewNode.{NewNode}
use Rattle.st_marks.specs.declared.intents.Intent.{Intent}
use Rattle.st_marks.specs.declared.intents.Owned.{Owned}
use Rattle.st_marks.specs.declared.marks.Loose.{Loose}
use Rattle.st_marks.specs.declared.marks.RegMark.{RegMark}
use Rattle.st_marks.specs.declared.marks.RegStep.{RegStep}
use Rattle.st_marks.specs.declared.marks.RowMarks.{RowMarks}
use Rattle.st_marks.specs.declared.places.Slot.{Slot}
use Rattle.st_marks.specs.declared.schemas.SchemaEntry.{SchemaEntry}
use Rattle.st_marks.specs.declared.schemas.SchemaStep.{SchemaStep}
use Rattle.st_marks.specs.declared.steps.Step.{Step}
use Rattle.st_marks.specs.Document.{Document, IsSoundInForm, slot, content, first_of, last_of, revs}
use Rattle.st_marks.specs.Extends.{GainsItems, no_more, item_gained, item_kept}
use Rattle.st_marks.specs.Row.{Make, SameCell, step_cell, step_row, embed_row}
use Rattle.st_marks.specs.Register.{embed_register, step_register}
use Rattle.st_marks.specs.Embedding.{IsEmbedding, IsMentionedByIntent, row_marks, row_part, register_part, embed_loose}
use Rattle.st_marks.specs.Step.{IsStep, IsMentionedByStep, IsSchemaStep, step_loose}
use Rattle.st_lemmas.proofs.Bools.{both-ways-same}

one_test : (m m' : NodeId → Bool) (P : NodeId → Type 0) → ((n : NodeId) → (m n ≡ true) ↔ P n) → ((n : NodeId) → (m' n ≡ true) ↔ P n) → m ≡ m'
one_test m m' P h h' = fun_ext (λ n. both-ways-same (m n) (m' n) (λ e. (h' n).1 ((h n).0 e)) (λ e. (h n).1 ((h' n).0 e)))

-- two listings that have the same at each name are one
pub one_list : {K A : Type 0} {cmp : K → K → Ordering} → IsTotalOrder cmp → CmpEqualImpliesEq cmp → (key : A → K) (xs ys : List A) (at at' : K → Option A) → at ≡ at' → IsListing cmp key xs at → IsListing cmp key ys at' → xs ≡ ys
one_list t exact key xs ys at at' e x y = same_listing t exact key xs ys x.rising y.rising (λ k. x.at_each k ∙ ap (λ (f : _ → Option _). f k) e ∙ sym (y.at_each k))

-- ## The embedding

pub one_embedding : (D : Document) (N : Intent) (C K : Change) → IsEmbedding D N C → IsEmbedding D N K → C ≡ K
one_embedding D N C K c k =
    let m = one_test c.mentioned k.mentioned (IsMentionedByIntent D N) c.which k.which in
    let rev : C.rev ≡ K.rev = c.rev ∙ sym k.rev in
    let under : C.under ≡ K.under = c.under ∙ sym k.under in
    let base : C.base ≡ K.base = both-ways-same C.base K.base (λ e. k.base.1 (c.base.0 e)) (λ e. c.base.1 (k.base.0 e)) in
    let need = one_list node_cmp_total node_cmp_exact (λ (n : NodeId). n) C.need K.need _ _ refl c.need k.need in
    let new = one_list node_cmp_total node_cmp_exact (λ (x : NewNode). x.node) C.new K.new _ _ refl c.new k.new in
    let rows = one_list node_cmp_total node_cmp_exact (λ (r : RowMarks). r.node) C.rows K.rows _ _ (ap (λ (m : NodeId → Bool). λ n. row_marks n (embed_row (row_part m N n) (content D n))) m) c.rows k.rows in
    let regs = one_list field_cmp_total field_cmp_exact (λ (r : RegMark). r.field) C.regs K.regs _ _ (ap (λ (m : NodeId → Bool). λ f. embed_register f (register_part m N f) (D.held f)) m) c.regs k.regs in
    let loose = one_list node_cmp_total node_cmp_exact (λ (l : Loose). l.node) C.loose K.loose _ _ (ap (λ (m : NodeId → Bool). embed_loose m D N) m) c.loose k.loose in
    let schema : C.schema ≡ K.schema = c.schema ∙ sym k.schema in
    λ i. record { rev = rev i; under = under i; base = base i; need = need i; new = new i; rows = rows i; regs = regs i; loose = loose i; schema = schema i }

-- ## The step

-- a cell that isn't in the longer row isn't in the shorter
not_before : (c : CellId) {x y : List Slot} → GainsItems SameCell x y → AllByRecursion (λ (t : Slot). t.cell ≢ c) y → AllByRecursion (λ (s : Slot). s.cell ≢ c) x
not_before c no_more a = tt
not_before c (item_gained g) a = not_before c g a.1
not_before c (item_kept same g) a = ((λ e. a.0 (sym same.0 ∙ e)), not_before c g a.1)

-- the step of a row is the same, however the growth is told
pub one_step_row : (m : NodeId → Bool) {c d : List Slot} (g h : GainsItems SameCell c d) → AreDistinct (λ (t : Slot). t.cell) d → step_row m g ≡ step_row m h
one_step_row m no_more no_more k = refl
one_step_row m (item_gained {y} g) (item_gained h) k = ap (λ l. Make y.cell y.node y.full ∷ l) (one_step_row m g h k.1)
one_step_row m (item_kept {x} {y} a g) (item_kept b h) k = ap (λ l. step_cell m x.cell x.node x.full y.full ∷ l) (one_step_row m g h k.1)
one_step_row m (item_gained {y} g) (item_kept a h) k = absurd ((not_before y.cell g k.0).0 a.0)
one_step_row m (item_kept {x} {y} a g) (item_gained h) k = absurd ((not_before y.cell h k.0).0 a.0)

pub distinct_content : (D : Document) (os : List Owned) → AreDistinct (λ (o : Owned). o.cell) os → AreDistinct (λ (s : Slot). s.cell) (map (slot D) os)
distinct_content D [] a = tt
distinct_content D (o ∷ os) a = (apart os a.0, distinct_content D os a.1)
  where
    apart : (ps : List Owned) → AllByRecursion (λ (p : Owned). p.cell ≢ o.cell) ps → AllByRecursion (λ (s : Slot). s.cell ≢ o.cell) (map (slot D) ps)
    apart [] a = tt
    apart (p ∷ ps) a = (a.0, apart ps a.1)

-- the longest front that two lists share, and what follows it in each
abbrev Parts : List SchemaEntry → List SchemaEntry → List SchemaEntry → List SchemaEntry → List SchemaEntry → List SchemaEntry → Type 0
Parts xs ys a b c d = (xs ≡ ys) × (a ≡ b) × (c ≡ d)

one_front : (xs ys a b c d : List SchemaEntry) → xs ++ a ≡ ys ++ b → xs ++ c ≡ ys ++ d → first_of a ≢ first_of c → first_of b ≢ first_of d → Parts xs ys a b c d
one_front [] [] a b c d p q h k = (refl, p, q)
one_front [] (y ∷ ys) a b c d p q h k = absurd (h (ap first_of p ∙ sym (ap first_of q)))
one_front (x ∷ xs) [] a b c d p q h k = absurd (k (sym (ap first_of p) ∙ ap first_of q))
one_front (x ∷ xs) (y ∷ ys) a b c d p q h k =
    let e : x ≡ y = cc in
    let r = one_front xs ys a b c d (let r : xs ++ a ≡ ys ++ b = cc in r) (let r : xs ++ c ≡ ys ++ d = cc in r) h k in
    ((λ i. e i ∷ r.0 i), r.1, r.2)

same_rest : (xs a c : List SchemaEntry) → xs ++ a ≡ xs ++ c → a ≡ c
same_rest [] a c e = e
same_rest (x ∷ xs) a c e = same_rest xs a c (let r : xs ++ a ≡ xs ++ c = cc in r)

one_schema_step : (ds es : List SchemaEntry) (s t : Option SchemaStep) → IsSchemaStep ds es s → IsSchemaStep ds es t → s ≡ t
one_schema_step ds es None None a b = refl
one_schema_step ds es None (Some t) a b = absurd (b.4 (ap first_of (same_rest b.0 t.cut t.add (sym b.1 ∙ a ∙ b.2))))
one_schema_step ds es (Some s) None a b = absurd (a.4 (ap first_of (same_rest a.0 s.cut s.add (sym a.1 ∙ b ∙ a.2))))
one_schema_step ds es (Some s) (Some t) a b =
    let r = one_front a.0 b.0 s.cut t.cut s.add t.add (sym a.1 ∙ b.1) (sym a.2 ∙ b.2) a.4 b.4 in
    let on : s.on ≡ t.on = let q : Some s.on ≡ Some t.on = sym a.3 ∙ ap (λ f. last_of (revs f)) r.0 ∙ b.3 in cc in
    ap (λ s. Some s) (let e : s ≡ t = λ i. record { on = on i; cut = r.1 i; add = r.2 i } in e)

pub one_step : (D E : Document) (S T : Step) → IsSoundInForm E → IsStep D E S → IsStep D E T → S ≡ T
one_step D E S T e s t =
    let m = one_test s.mentioned t.mentioned (IsMentionedByStep D E) s.which t.which in
    let new = one_list node_cmp_total node_cmp_exact (λ (x : NewNode). x.node) S.new T.new _ _ refl s.new t.new in
    let marks : (λ n. row_marks n (step_row s.mentioned (s.grows n))) ≡ (λ n. row_marks n (step_row t.mentioned (t.grows n))) =
    fun_ext (λ n. ap (row_marks n) (ap (λ (m : NodeId → Bool). step_row m (s.grows n)) m ∙ one_step_row t.mentioned (s.grows n) (t.grows n) (distinct_content E (E.rows n) (e.once n)))) in
    let rows = one_list node_cmp_total node_cmp_exact (λ (r : RowMarks). r.node) S.rows T.rows _ _ marks s.rows t.rows in
    let regs = one_list field_cmp_total field_cmp_exact (λ (r : RegStep). r.field) S.regs T.regs _ _ (ap (λ (m : NodeId → Bool). λ f. step_register f m (D.held f) (E.held f)) m) s.regs t.regs in
    let loose = one_list node_cmp_total node_cmp_exact (λ (l : Loose). l.node) S.loose T.loose _ _ (ap (λ (m : NodeId → Bool). step_loose m D E) m) s.loose t.loose in
    let schema = one_schema_step D.schemas E.schemas S.schema T.schema s.schema t.schema in
    λ i. record { new = new i; rows = rows i; regs = regs i; loose = loose i; schema = schema i }
