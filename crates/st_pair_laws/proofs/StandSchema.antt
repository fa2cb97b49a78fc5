-- A change of schema and a step stand over what the step finds, with entries that suit both.
use Rattle.std.proofs.Common.{◌≡◌, ◌≢◌, ◌↔◌, ◌<◌, ◌^◌, ℕ, Bool, true, false, List, [], ◌∷◌, length, Option, Some, None, IsTrue, IfSome, cond, refl, sym, ap, subst, arith}
use Rattle.std.specs.List.{AllByRecursion, list_any}
use Rattle.st_ids.specs.Listing.{IsListing}
use Rattle.st_ids.specs.Order.{field_cmp, node_cmp}
use Rattle.st_ids.specs.declared.names.FieldId.{FieldId}
use Rattle.st_ids.specs.declared.names.NodeId.{NodeId}
use Rattle.st_marks.specs.declared.changes.Change.{Change}
use Rattle.st_marks.specs.declared.changes.NewNode.{NewNode}
use Rattle.st_marks.specs.declared.intents.Intent.{Intent}
use Rattle.st_marks.specs.declared.intents.Owned.{Owned}
use Rattle.st_marks.specs.declared.marks.Loose.{Loose}
use Rattle.st_marks.specs.declared.marks.RegMark.{RegMark}
use Rattle.st_marks.specs.declared.marks.RowMarks.{RowMarks}
use Rattle.st_marks.specs.declared.places.Slot.{Slot}
use Rattle.st_marks.specs.declared.schemas.SchemaEntry.{SchemaEntry}
use Rattle.st_marks.specs.declared.steps.Step.{Step}
use Rattle.st_marks.specs.Agree.{HaveSchemasBeside, SchemasAtChange}
use Rattle.st_marks.specs.CarryOut.{full, with_groups}
use Rattle.st_marks.specs.Document.{Document, HasShortRows, IsSoundInForm, content}
use Rattle.st_marks.specs.Embedding.{IsEmbedding, embed_loose, register_part, row_marks, row_part, tells}
use Rattle.st_marks.specs.Intent.{Fits, new_node}
use Rattle.st_marks.specs.Register.{embed_register}
use Rattle.st_marks.specs.Row.{embed_cell, embed_cells, embed_row, merge}
use Rattle.st_marks.specs.Verdict.{HasBase}
use Rattle.st_normal.specs.Rules.{ObeysSchemaRules, ObeysStepRules}
use Rattle.st_normal_laws.specs.Laid.{laid_document}
use Rattle.st_normal_laws.specs.Seed.{CanBeFound, Finds, seed}
use Rattle.st_normal_laws.specs.inside.One.{over_all}
use Rattle.st_normal_laws.proofs.SchemaNormal.{schema_intent}
use Rattle.st_normal_laws.proofs.SeedSound.{seed_sound}
use Rattle.st_normal_step_laws.specs.StepOver.{IsOverStep, later}
use Rattle.st_normal_step_laws.specs.inside.SeedOfStep.{finds_of_step, names_in_step}
use Rattle.st_normal_step_laws.proofs.RingsLater.{later_extends}
use Rattle.st_normal_step_laws.proofs.StepLater.{step_over}
use Rattle.st_pair_laws.specs.Beside.{StandBeside}
use Rattle.st_pair_laws.proofs.Bounds.{raised}
use Rattle.st_pair_laws.proofs.FitsLater.{fits_after, schemas_after}
use Rattle.st_pair_laws.proofs.StandData.{ends_with_cut}

-- ## What it is over a document

module _ (C : Change) (w : ObeysSchemaRules C) (text : List ℕ) (changes : C.schema ≡ Some text) (D : Document) (sound : IsSoundInForm D) (at : SchemasAtChange D.schemas C) where
  -- what it means
  abbrev pub schema_meant : Intent
  schema_meant = record { rev = C.rev; under = C.under; new = []; groups = []; clear = []; put = []; need = []; schema = Some text }

  pub fresh-in : (es : List SchemaEntry) → IfSome C.schema (λ _. AllByRecursion (λ (e : SchemaEntry). e.rev ≢ C.rev) es) → AllByRecursion (λ (e : SchemaEntry). e.rev ≢ C.rev) es
  fresh-in es f = subst (λ (o : Option (List ℕ)). IfSome o (λ _. AllByRecursion (λ (e : SchemaEntry). e.rev ≢ C.rev) es)) changes f

  pub schema_fits : Fits D schema_meant
  schema_fits = record {
    itself = schema_intent C.rev C.under text;
    fresh_nodes = λ n f. cc;
    fresh_cells = λ c f. cc;
    fresh_schema = fresh-in D.schemas at.fresh;
    groups_known = tt;
    owners_known = tt;
    puts_known = tt;
    clears_known = tt;
    needs_known = tt;
  }

  -- ## Its rows

  no-groups : (n : NodeId) (os : List Owned) → with_groups schema_meant n os ≡ os
  no-groups n [] = refl
  no-groups n (o ∷ os) = ap (λ l. o ∷ l) (no-groups n os)

  pub schema_short : HasShortRows (full D schema_meant)
  schema_short n = subst (λ l. length l < 2 ^ 32) (sym (no-groups n (D.rows n))) (sound.short n)

  -- ## Its change lists nothing

  abbrev none : NodeId → Bool
  none n = false

  quiet : (n : NodeId) (c : List Slot) → list_any tells (embed_cells (row_part none schema_meant n) c) ≡ false
  quiet n [] = refl
  quiet n (s ∷ c) = elim s.full as (λ b. list_any tells (embed_cell (row_part none schema_meant n) s.cell s.node b ∷ embed_cells (row_part none schema_meant n) c) ≡ false) [ true ↦ quiet n c | false ↦ quiet n c ]

  no-row : (n : NodeId) → None ≡ row_marks n (embed_row (row_part none schema_meant n) (content D n))
  no-row n = ap (λ (b : Bool). cond b (Some (let r : RowMarks = record { node = n; marks = merge (embed_row (row_part none schema_meant n) (content D n)) } in r)) None) (sym (quiet n (content D n)))

  no-register : (f : FieldId) → None ≡ embed_register f (register_part none schema_meant f) (D.held f)
  no-register f = go (D.held f)
    where
      go : (o : Option NodeId) → None ≡ embed_register f (register_part none schema_meant f) o
      go None = refl
      go (Some n) = refl

  pub schema_embedding : IsEmbedding D schema_meant C
  schema_embedding = record {
    mentioned = none;
    which = λ n. (λ f. cc, λ f. absurd f.1);
    rev = refl;
    under = refl;
    base = subst (λ (o : Option (List ℕ)). IsTrue C.base ↔ HasBase D.schemas o C.under) changes at.base;
    schema = changes;
    need = subst (λ l. IsListing node_cmp (λ (n : NodeId). n) l (λ n. None)) (sym w.alone.0) (record { rising = refl; at_each = λ n. refl });
    new = subst (λ l. IsListing node_cmp (λ (k : NewNode). k.node) l (new_node schema_meant)) (sym w.alone.1) (record { rising = refl; at_each = λ n. refl });
    rows = subst (λ l. IsListing node_cmp (λ (r : RowMarks). r.node) l (λ n. row_marks n (embed_row (row_part none schema_meant n) (content D n)))) (sym w.alone.2) (record { rising = refl; at_each = no-row });
    regs = subst (λ l. IsListing field_cmp (λ (r : RegMark). r.field) l (λ f. embed_register f (register_part none schema_meant f) (D.held f))) (sym w.alone.3) (record { rising = refl; at_each = no-register });
    loose = subst (λ l. IsListing node_cmp (λ (l : Loose). l.node) l (embed_loose none D schema_meant)) (sym w.alone.4) (record { rising = refl; at_each = λ n. refl });
  }

-- ## Over what the step finds

module _ (C : Change) (S : Step) (w : ObeysSchemaRules C) (text : List ℕ) (changes : C.schema ≡ Some text) (v : ObeysStepRules S) (h : HaveSchemasBeside C S) where
  abbrev F : ℕ
  F = over_all (names_in_step S)

  abbrev W : Finds
  W = record (finds_of_step S) { schemas = h.0 }

  found : CanBeFound F W
  found = raised F F (finds_of_step S) h.0 (omega arith) h.3.before_in_effect (Rattle.st_normal_step_laws.proofs.SeedOfStep.can_be_found S v)

  abbrev D : Document
  D = laid_document (seed F W)

  sound : IsSoundInForm D
  sound = seed_sound F W found

  alone : IsOverStep (laid_document (seed F (finds_of_step S))) S
  alone = Rattle.st_normal_step_laws.proofs.SeedOfStep.over_seed S v

  over : IsOverStep D S
  over = record {
    rows = alone.rows;
    held = alone.held;
    loose = alone.loose;
    new_nodes = alone.new_nodes;
    new_cells = alone.new_cells;
    owners = alone.owners;
    schema = ends_with_cut h.0 h.1 S h.3;
  }

  abbrev N : Intent
  N = schema_meant C w text changes D sound h.2

  fits : Fits D N
  fits = schema_fits C w text changes D sound h.2

  fits-after : Fits (later D S) N
  fits-after = fits_after D S sound v over N fits (λ n e i. cc) (λ c e i. cc)
      (subst (AllByRecursion (λ (e : SchemaEntry). e.rev ≢ C.rev)) (sym (schemas_after D S sound v over h.1 h.3.step)) (fresh-in C w text changes D sound h.2 h.1 h.4))

  pub schema_stand : StandBeside C S
  schema_stand = (D, later D S, N, later_extends D S sound v over, fits, fits-after, schema_short C w text changes D sound h.2, schema_embedding C w text changes D sound h.2, step_over D S sound v over)
