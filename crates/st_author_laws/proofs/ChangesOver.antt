-- A change finds in a document what is so exactly where it does by what is read off a step from it; and that is where it is the
-- change of an intent that fits.
use Rattle.std.proofs.Common.{◌≡◌, ◌≢◌, ◌↔◌, ◌||◌, ◌&&◌, Bool, true, false, not, ℕ, List, [], ◌∷◌, map, Option, Some, None, IsSome, IsTrue, IfSome, MatchOption, cond, refl, sym, ap, ◌∙◌, subst}
use Rattle.std.specs.List.{AllByRecursion, list_any}
use Rattle.st_ids.specs.Listing.{IsListing}
use Rattle.st_ids.specs.Order.{field_cmp, node_cmp}
use Rattle.st_ids.specs.declared.names.FieldId.{FieldId}
use Rattle.st_ids.specs.declared.names.NodeId.{NodeId}
use Rattle.st_marks.specs.declared.changes.Change.{Change}
use Rattle.st_marks.specs.declared.changes.NewNode.{NewNode}
use Rattle.st_marks.specs.declared.intents.Intent.{Intent}
use Rattle.st_marks.specs.declared.marks.Loose.{Loose}
use Rattle.st_marks.specs.declared.marks.RegMark.{RegMark}
use Rattle.st_marks.specs.declared.marks.RowMarks.{RowMarks}
use Rattle.st_marks.specs.declared.places.Slot.{Slot}
use Rattle.st_marks.specs.declared.places.Spot.{Spot}
use Rattle.st_marks.specs.declared.schemas.SchemaEntry.{SchemaEntry}
use Rattle.st_marks.specs.declared.steps.Step.{Step}
use Rattle.st_marks.specs.Document.{Document, IsSoundInForm, content}
use Rattle.st_marks.specs.Embedding.{IsEmbedding, embed_loose, is_among, is_nowhere, register_part, row_marks, row_part, tells}
use Rattle.st_marks.specs.Extends.{IsExtendedBy}
use Rattle.st_marks.specs.Intent.{Fits, IsIntent, new_node}
use Rattle.st_marks.specs.Listings.{cells_before, is_among_cells, marks_of, nodes_loose}
use Rattle.st_marks.specs.Register.{embed_register}
use Rattle.st_marks.specs.Row.{embed_cells, embed_row, merge, spread}
use Rattle.st_marks.specs.Verdict.{HasBase}
use Rattle.st_normal.specs.Rules.{ObeysChangeRules, ObeysDataRules, ObeysSchemaRules}
use Rattle.st_marks.specs.Listings.{cells_made}
use Rattle.st_puts.specs.Meant.{IsOver, meant_intent}
use Rattle.st_puts.specs.Seen.{AreAsSeen}
use Rattle.st_puts.proofs.OverDocuments.{embedding_over}
use Rattle.st_normal_laws.proofs.MeantIntent.{meant_fits}
use Rattle.st_normal_laws.proofs.SchemaNormal.{schema_intent}
use Rattle.st_normal_laws.proofs.StandsChange.{stands_over}
use Rattle.st_read_laws.specs.Reading.{IsStepRead, read_step}
use Rattle.st_author_laws.specs.Back.{IsOfAnIntent, IsOverBack, IsTakenBack, row_back}
use Rattle.st_normal.specs.declared.entries.Found.{Found}
use Rattle.st_author_laws.proofs.StepsBack.{taken_back}
use Rattle.st_author_laws.proofs.ReadLists.{finds-read, made-read, marks_of-read, rows-read}
use Rattle.st_author_laws.proofs.RowsBack.{row_back-read}

-- ## Read thin or not

taken_back_read : (l : Bool) (S : Step) (T A : Document) → IsTakenBack S T A → IsTakenBack (read_step l S) T A
taken_back_read l S T A t = record {
  rows = λ n. ap (row_back (content T n)) (marks_of-read l S.rows n) ∙ row_back-read l (content T n) (marks_of S.rows n) ∙ t.rows n;
  held = t.held;
  nodes = t.nodes;
  nowhere = λ n k. subst (λ (fs : List Found). ((is_among (nodes_loose S.loose) n || (not (is_among (map (λ (f : Found). f.node) fs) n) && is_nowhere (T.place n))) ≡ true) ↔ (A.place n ≡ Spot.Nowhere))
      (sym (finds-read l S)) (t.nowhere n k);
  row_of = λ c. ap (λ cs. cond (is_among_cells cs c) None (T.row_of c)) (rows-read cells_made l (made-read l) S.rows) ∙ t.row_of c;
  schemas = t.schemas;
}

pub step_taken_back : (l : Bool) (A T : Document) (S : Step) → IsExtendedBy A T → IsStepRead l A T S → IsTakenBack S T A
step_taken_back l A T S x s = subst (λ Z. IsTakenBack Z T A) (sym s.2) (taken_back_read l s.0 T A (taken_back A T s.0 x s.1))

-- ## A change

pub over_back : (S : Step) (T A : Document) (C : Change) → IsTakenBack S T A → IsOver A C → IsOverBack S T C
over_back S T A C t o = record {
  rows = λ r i. subst (λ c. AreAsSeen c (cells_before (spread r.marks))) (sym (t.rows r.node)) (o.rows r i);
  held = λ r i. t.held r.field ∙ o.held r i;
  loose = λ l i. let w = o.loose l i in ((t.nowhere l.node w.1).1 w.0, subst (λ q. IsSome q) (sym (t.nodes l.node)) w.1);
  new_nodes = λ n h. t.nodes n ∙ o.new_nodes n h;
  new_cells = λ c h. t.row_of c ∙ o.new_cells c h;
  base = subst (λ es. IsTrue C.base ↔ HasBase es C.schema C.under) (sym t.schemas) o.base;
  new_schema = subst (λ es. IfSome C.schema (λ _. AllByRecursion (λ (e : SchemaEntry). e.rev ≢ C.rev) es)) (sym t.schemas) o.new_schema;
}

pub back_over : (S : Step) (T A : Document) (C : Change) → IsTakenBack S T A → IsOverBack S T C → IsOver A C
back_over S T A C t o = record {
  rows = λ r i. subst (λ c. AreAsSeen c (cells_before (spread r.marks))) (t.rows r.node) (o.rows r i);
  held = λ r i. sym (t.held r.field) ∙ o.held r i;
  loose = λ l i. let w = o.loose l i in let k = subst (λ q. IsSome q) (t.nodes l.node) w.1 in ((t.nowhere l.node k).0 w.0, k);
  new_nodes = λ n h. sym (t.nodes n) ∙ o.new_nodes n h;
  new_cells = λ c h. sym (t.row_of c) ∙ o.new_cells c h;
  base = subst (λ es. IsTrue C.base ↔ HasBase es C.schema C.under) t.schemas o.base;
  new_schema = subst (λ es. IfSome C.schema (λ _. AllByRecursion (λ (e : SchemaEntry). e.rev ≢ C.rev) es)) t.schemas o.new_schema;
}

-- ## A change of schema

module _ (A : Document) (C : Change) (w : ObeysSchemaRules C) (text : List ℕ) (e : C.schema ≡ Some text) (o : IsOver A C) where
  abbrev N : Intent
  N = record { rev = C.rev; under = C.under; new = []; groups = []; clear = []; put = []; need = []; schema = Some text }

  intent : IsIntent N
  intent = schema_intent C.rev C.under text

  fits : Fits A N
  fits = record {
    itself = intent;
    fresh_nodes = λ n f. cc;
    fresh_cells = λ c f. cc;
    fresh_schema = subst (λ (s : Option (List ℕ)). IfSome s (λ _. AllByRecursion (λ (q : SchemaEntry). q.rev ≢ C.rev) A.schemas)) e o.new_schema;
    groups_known = tt;
    owners_known = tt;
    puts_known = tt;
    clears_known = tt;
    needs_known = tt;
  }

  quiet : (n : NodeId) (c : List Slot) → list_any tells (embed_cells (row_part (λ k. false) N n) c) ≡ false
  quiet n [] = refl
  quiet n (s ∷ c) = go s.full (quiet n c)
    where
      go : (b : Bool) → list_any tells (embed_cells (row_part (λ k. false) N n) c) ≡ false → list_any tells (embed_cells (row_part (λ k. false) N n) (record { cell = s.cell; node = s.node; full = b } ∷ c)) ≡ false
      go true q = q
      go false q = q

  untold : (f : FieldId) (h : Option NodeId) → None ≡ embed_register f (register_part (λ n. false) N f) h
  untold f None = refl
  untold f (Some n) = refl

  embedding : IsEmbedding A N C
  embedding = record {
    mentioned = λ n. false;
    which = λ n. (λ f. cc, λ f. absurd f.1);
    rev = refl;
    under = refl;
    base = subst (λ (s : Option (List ℕ)). IsTrue C.base ↔ HasBase A.schemas s C.under) e o.base;
    schema = e;
    need = subst (λ l. IsListing node_cmp (λ (n : NodeId). n) l (λ n. None)) (sym w.alone.0) (record { rising = refl; at_each = λ n. refl });
    new = subst (λ l. IsListing node_cmp (λ (k : NewNode). k.node) l (new_node N)) (sym w.alone.1) (record { rising = refl; at_each = λ n. refl });
    rows = subst (λ l. IsListing node_cmp (λ (r : RowMarks). r.node) l (λ n. row_marks n (embed_row (row_part (λ n. false) N n) (content A n)))) (sym w.alone.2)
        (record { rising = refl; at_each = λ n. sym (ap (λ b. cond b (Some (record { node = n; marks = merge (embed_row (row_part (λ n. false) N n) (content A n)) })) None) (quiet n (content A n))) });
    regs = subst (λ l. IsListing field_cmp (λ (r : RegMark). r.field) l (λ f. embed_register f (register_part (λ n. false) N f) (A.held f))) (sym w.alone.3) (record { rising = refl; at_each = λ f. untold f (A.held f) });
    loose = subst (λ l. IsListing node_cmp (λ (l : Loose). l.node) l (embed_loose (λ n. false) A N)) (sym w.alone.4) (record { rising = refl; at_each = λ n. refl });
  }

  pub schema_stands : IsOfAnIntent A C
  schema_stands = (N, fits, embedding)

-- ## Test 9

pub over_intent : (A : Document) (C : Change) → IsSoundInForm A → ObeysChangeRules C → IsOver A C → IsOfAnIntent A C
over_intent A C x w o = go C.schema refl w
  where
    go : (s : Option (List ℕ)) → C.schema ≡ s → MatchOption s (ObeysDataRules C) (λ _. ObeysSchemaRules C) → IsOfAnIntent A C
    go None e v = (meant_intent A C, meant_fits A C x v o e, stands_over A C x v o e)
    go (Some text) e v = schema_stands A C v text e o

pub is_over : (A : Document) (C : Change) → IsSoundInForm A → ObeysChangeRules C → IsOfAnIntent A C ↔ IsOver A C
is_over A C x w = ((λ n. embedding_over A n.0 C x n.1 n.2), over_intent A C x w)

pub author_over : (l : Bool) (A T : Document) (S : Step) (C : Change) → IsExtendedBy A T → IsStepRead l A T S → ObeysChangeRules C → IsOfAnIntent A C ↔ IsOverBack S T C
author_over l A T S C x s w =
    let t = step_taken_back l A T S x s in
    ((λ n. over_back S T A C t ((is_over A C x.before w).0 n)), (λ o. (is_over A C x.before w).1 (back_over S T A C t o)))
