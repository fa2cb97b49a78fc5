-- A step over a change of schema: the documents that the change leaves, and how their lists of schemas differ.
use Rattle.std.proofs.Common.{◌≡◌, ◌≢◌, ℕ, Bool, true, false, List, [], ◌∷◌, ◌++◌, Option, Some, None, option_map, refl, sym, ap, ◌∙◌, subst, ◌↔◌, IsTrue, IfSome, IsSome, append_assoc}
use Rattle.std.specs.List.{AllByRecursion, find}
use Rattle.std.specs.Option.{option_map_or}
use mathlib.Core.Path.{fun_ext}
use Rattle.st_ids.specs.Listing.{Has}
use Rattle.st_ids.specs.Order.{same_node}
use Rattle.st_ids.specs.declared.names.NodeId.{NodeId}
use Rattle.st_lemmas.proofs.Options.{option_or-None}
use Rattle.st_marks.specs.declared.changes.Change.{Change}
use Rattle.st_marks.specs.declared.intents.Intent.{Intent}
use Rattle.st_marks.specs.declared.intents.Owned.{Owned}
use Rattle.st_marks.specs.declared.intents.Put.{Put}
use Rattle.st_marks.specs.declared.places.Spot.{Spot}
use Rattle.st_marks.specs.declared.schemas.SchemaEntry.{SchemaEntry}
use Rattle.st_marks.specs.declared.schemas.SchemaStep.{SchemaStep}
use Rattle.st_marks.specs.declared.steps.Step.{Step}
use Rattle.st_marks.specs.declared.verdicts.Verdict.{Verdict}
use Rattle.st_marks.specs.CarryOut.{full, unless_cleared, unless_put, void, void_data, with_groups}
use Rattle.st_marks.specs.Document.{Document, first_of}
use Rattle.st_marks.specs.Embedding.{IsEmbedding}
use Rattle.st_marks.specs.Intent.{Fits}
use Rattle.st_marks.specs.Step.{IsSchemaStep, IsStep}
use Rattle.st_marks.specs.Verdict.{HasBase, IsAboveItself, IsBaseInEffect, IsUnmetNeed, IsVerdict, carried_document}
use Rattle.st_carry.specs.inside.Entries.{document_with, entries_with, part_with}

-- ## An intent that has nothing but a schema

abbrev only_schema : Intent → List ℕ → Intent
only_schema N text = record N { schema = Some text; new = []; groups = []; clear = []; put = []; need = [] }

same_cells : (D : Document) (N : Intent) (text : List ℕ) (n : NodeId) (os : List Owned) → with_groups (only_schema N text) n os ≡ os
same_cells D N text n [] = refl
same_cells D N text n (o ∷ os) = ap (λ (l : List Owned). o ∷ l) (same_cells D N text n os)

same_place : (N : Intent) (text : List ℕ) (s : Spot) → unless_cleared (only_schema N text) s ≡ s
same_place N text Spot.Nowhere = refl
same_place N text (Spot.Row n c) = refl
same_place N text (Spot.Register f) = refl

same_held : (N : Intent) (text : List ℕ) (o : Option NodeId) → unless_put (only_schema N text) o ≡ o
same_held N text None = refl
same_held N text (Some n) = refl

only_full : (D : Document) (N : Intent) (text : List ℕ) → full D (only_schema N text) ≡ document_with (record { rev = N.rev; text = text }) true D
only_full D N text = λ i. record {
  nodes = fun_ext (λ n. option_or-None (D.nodes n)) i;
  rows = fun_ext (λ n. same_cells D N text n (D.rows n)) i;
  row_of = fun_ext (λ c. option_or-None (D.row_of c)) i;
  place = fun_ext (λ n. same_place N text (D.place n)) i;
  held = fun_ext (λ f. same_held N text (D.held f)) i;
  schemas = D.schemas ++ record { rev = N.rev; text = text } ∷ [];
}

module _ (D : Document) (N : Intent) (text : List ℕ) (changes : N.schema ≡ Some text) (f : Fits D N) where
  alone : (N.new ≡ []) × (N.groups ≡ []) × (N.clear ≡ []) × (N.put ≡ []) × (N.need ≡ [])
  alone = subst (λ o. IfSome o (λ (_ : List ℕ). (N.new ≡ []) × (N.groups ≡ []) × (N.clear ≡ []) × (N.put ≡ []) × (N.need ≡ []))) changes f.itself.schema_alone

  same_intent : N ≡ only_schema N text
  same_intent = λ i. record N { schema = changes i; new = alone.0 i; groups = alone.1 i; clear = alone.2 i; put = alone.3 i; need = alone.4 i }

  whole_is : full D N ≡ document_with (record { rev = N.rev; text = text }) true D
  whole_is = ap (full D) same_intent ∙ only_full D N text

  void_is : void D N ≡ D
  void_is = ap (λ o. option_map_or (λ _. D) o (void_data D N)) changes

  no_need : (n : NodeId) → IsUnmetNeed D N n → ⊥
  no_need n h = subst (λ ns. Has ns n) alone.4 h.0

  no_put : (n : NodeId) → IsAboveItself D N n → ⊥
  no_put n h = let bad : false ≡ true = subst (λ (ps : List Put). IsSome (option_map (λ (p : Put). p.to) (find (λ (p : Put). same_node p.node n) ps))) alone.3 h.0 in cc

  -- what the change leaves, by whether its schema is in effect
  carried_is : (b : Bool) → IsTrue b ↔ IsBaseInEffect D N → (v : Verdict) → IsVerdict D N v → carried_document v D N ≡ document_with (record { rev = N.rev; text = text }) b D
  carried_is true h Verdict.Sound is = whole_is
  carried_is true h (Verdict.Need n) is = absurd (no_need n is.1.0)
  carried_is true h (Verdict.Cycle n) is = absurd (no_put n is.2.0)
  carried_is true h (Verdict.Schema u) is = absurd (is.1 (h.0 refl))
  carried_is false h Verdict.Sound is = let bad : false ≡ true = h.1 is.0 in cc
  carried_is false h (Verdict.Need n) is = absurd (no_need n is.1.0)
  carried_is false h (Verdict.Cycle n) is = absurd (no_put n is.2.0)
  carried_is false h (Verdict.Schema u) is = void_is

-- ## How the lists differ

-- whether two are both so
same_truth : (a b : Bool) (P : Type 0) → IsTrue a ↔ P → IsTrue b ↔ P → a ≡ b
same_truth true true P h k = refl
same_truth true false P h k = let bad : false ≡ true = k.1 (h.0 refl) in cc
same_truth false true P h k = let bad : false ≡ true = h.1 (k.0 refl) in cc
same_truth false false P h k = refl

ends_with : (x : SchemaEntry) (b : Bool) (front es : List SchemaEntry) → entries_with x b (front ++ es) ≡ front ++ entries_with x b es
ends_with x true front es = append_assoc front es (x ∷ [])
ends_with x false front es = refl

-- the first that goes and the first that comes differ still
module _ (x : SchemaEntry) where
  first_stays : (b : Bool) (e : SchemaEntry) (es : List SchemaEntry) → first_of (entries_with x b (e ∷ es)) ≡ Some e
  first_stays true e es = refl
  first_stays false e es = refl

  apart_from : (b : Bool) (e : SchemaEntry) (es : List SchemaEntry) → e.rev ≢ x.rev → first_of (entries_with x b []) ≢ Some e
  apart_from true e es out q = let same : x ≡ e = cc in out (ap (λ (z : SchemaEntry). z.rev) (sym same))
  apart_from false e es out q = cc

  firsts_differ : (b c : Bool) (cut add : List SchemaEntry) → AllByRecursion (λ (e : SchemaEntry). e.rev ≢ x.rev) cut → AllByRecursion (λ (e : SchemaEntry). e.rev ≢ x.rev) add
      → first_of cut ≢ first_of add → first_of (entries_with x b cut) ≢ first_of (entries_with x c add)
  firsts_differ b c [] [] h k apart q = apart refl
  firsts_differ b c [] (e ∷ es) h k apart q = apart_from b e es k.0 (q ∙ first_stays c e es)
  firsts_differ b c (e ∷ es) [] h k apart q = apart_from c e es h.0 (sym q ∙ first_stays b e es)
  firsts_differ b c (d ∷ ds) (e ∷ es) h k apart q = apart (sym (first_stays b d ds) ∙ q ∙ first_stays c e es)

  fresh_end : (front es : List SchemaEntry) → AllByRecursion (λ (e : SchemaEntry). e.rev ≢ x.rev) (front ++ es) → AllByRecursion (λ (e : SchemaEntry). e.rev ≢ x.rev) es
  fresh_end [] es h = h
  fresh_end (e ∷ front) es h = fresh_end front es h.1

  part_over : (b c : Bool) (before after : List SchemaEntry) (s : SchemaStep) → AllByRecursion (λ (e : SchemaEntry). e.rev ≢ x.rev) before → AllByRecursion (λ (e : SchemaEntry). e.rev ≢ x.rev) after
      → IsSchemaStep before after (Some s) → IsSchemaStep (entries_with x b before) (entries_with x c after) (Some (part_with x b c s))
  part_over b c before after s h k is = (
    is.0,
    ap (entries_with x b) is.1 ∙ ends_with x b is.0 s.cut,
    ap (entries_with x c) is.2 ∙ ends_with x c is.0 s.add,
    is.3,
    firsts_differ b c s.cut s.add (fresh_end is.0 s.cut (subst (AllByRecursion (λ (e : SchemaEntry). e.rev ≢ x.rev)) is.1 h)) (fresh_end is.0 s.add (subst (AllByRecursion (λ (e : SchemaEntry). e.rev ≢ x.rev)) is.2 k)) is.4,
  )

  schemas_over : (b c : Bool) (before after : List SchemaEntry) (o : Option SchemaStep) → (before ≡ after → b ≡ c) → AllByRecursion (λ (e : SchemaEntry). e.rev ≢ x.rev) before → AllByRecursion (λ (e : SchemaEntry). e.rev ≢ x.rev) after
      → IsSchemaStep before after o → IsSchemaStep (entries_with x b before) (entries_with x c after) (option_map (part_with x b c) o)
  schemas_over b c before after None same h k is = λ i. entries_with x (same is i) (is i)
  schemas_over b c before after (Some s) same h k is = part_over b c before after s h k is

-- ## The step

-- a step between documents to each of which an entry may have come
step_with : (D E : Document) (S : Step) (x : SchemaEntry) (b c : Bool) (o : Option SchemaStep) → IsStep D E S → IsSchemaStep (entries_with x b D.schemas) (entries_with x c E.schemas) o
    → IsStep (document_with x b D) (document_with x c E) (record S { schema = o })
step_with D E S x b c o s is = record {
  mentioned = s.mentioned;
  which = s.which;
  schema = is;
  new = s.new;
  grows = s.grows;
  rows = s.rows;
  regs = s.regs;
  loose = s.loose;
}

abbrev entry_of : Intent → List ℕ → SchemaEntry
entry_of N text = record { rev = N.rev; text = text }

module _ (D E : Document) (N : Intent) (C Y : Change) (S : Step) (text : List ℕ) (v u : Verdict) (changes : N.schema ≡ Some text) (f : Fits D N) (g : Fits E N)
    (c : IsEmbedding D N C) (y : IsEmbedding E N Y) (s : IsStep D E S) (is : IsVerdict D N v) (there : IsVerdict E N u) where
  fresh : (F : Document) → Fits F N → AllByRecursion (λ (e : SchemaEntry). e.rev ≢ N.rev) F.schemas
  fresh F h = subst (λ o. IfSome o (λ (_ : List ℕ). AllByRecursion (λ (e : SchemaEntry). e.rev ≢ N.rev) F.schemas)) changes h.fresh_schema

  same : D.schemas ≡ E.schemas → C.base ≡ Y.base
  same q = same_truth C.base Y.base (IsBaseInEffect E N) (subst (λ es. IsTrue C.base ↔ HasBase es N.schema N.under) q c.base) y.base

  with_entry : IsStep (document_with (entry_of N text) C.base D) (document_with (entry_of N text) Y.base E) (record S { schema = option_map (part_with (entry_of N text) C.base Y.base) S.schema })
  with_entry = step_with D E S (entry_of N text) C.base Y.base (option_map (part_with (entry_of N text) C.base Y.base) S.schema) s
      (schemas_over (entry_of N text) C.base Y.base D.schemas E.schemas S.schema same (fresh D f) (fresh E g) s.schema)

  bridged : IsStep (carried_document v D N) (carried_document u E N) (record S { schema = option_map (part_with (entry_of N text) C.base Y.base) S.schema })
  bridged = rw (carried_is D N text changes f C.base c.base v is, carried_is E N text changes g Y.base y.base u there) with_entry

-- the step over a change of schema
pub over_change : (D E : Document) (N : Intent) (C Y : Change) (S : Step) (text : List ℕ) (v u : Verdict) → C.schema ≡ Some text → Fits D N → Fits E N
    → IsEmbedding D N C → IsEmbedding E N Y → IsStep D E S → IsVerdict D N v → IsVerdict E N u
    → IsStep (carried_document v D N) (carried_document u E N) (record S { schema = option_map (part_with (record { rev = C.rev; text = text }) C.base Y.base) S.schema })
over_change D E N C Y S text v u schema f g c y s is there =
    subst (λ r. IsStep (carried_document v D N) (carried_document u E N) (record S { schema = option_map (part_with (record { rev = r; text = text }) C.base Y.base) S.schema })) (sym c.rev)
    (bridged D E N C Y S text v u (sym c.schema ∙ schema) f g c y s is there)
