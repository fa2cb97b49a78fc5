-- A change of schema and two steps in turn stand over the documents of the steps, with entries that suit all three.
use Rattle.std.proofs.Common.{◌≡◌, ◌≢◌, ℕ, List, Some, IfSome, sym, subst}
use Rattle.std.specs.List.{AllByRecursion}
use Rattle.st_marks.specs.declared.changes.Change.{Change}
use Rattle.st_marks.specs.declared.schemas.SchemaEntry.{SchemaEntry}
use Rattle.st_marks.specs.declared.steps.Step.{Step}
use Rattle.st_marks.specs.Agree.{SchemasAtChange, SchemasOverStep}
use Rattle.st_marks.specs.Document.{Document, IsSoundInForm}
use Rattle.st_marks.specs.Extends.{IsExtendedBy}
use Rattle.st_marks.specs.Intent.{Fits}
use Rattle.st_marks.specs.Step.{IsStep}
use Rattle.st_normal.specs.Rules.{ObeysSchemaRules, ObeysStepRules}
use Rattle.st_normal_step_laws.specs.StepOver.{EndsWithCut, IsOverStep, later}
use Rattle.st_normal_step_laws.proofs.RingsLater.{later_extends}
use Rattle.st_normal_step_laws.proofs.StepLater.{step_over}
use Rattle.st_normal_step_laws.proofs.StepsFind.{finds_what_is_so}
use Rattle.st_pair_laws.proofs.FitsLater.{fits_after, schemas_after}
use Rattle.st_pair_laws.proofs.StandData.{ends_with_cut}
use Rattle.st_pair_laws.proofs.StandSchema.{fresh-in, schema_embedding, schema_fits, schema_meant, schema_short}
use Rattle.st_three_laws.proofs.NextOver.{data_of, data_rules, next_over}
use Rattle.st_three_laws.specs.Over.{StandOverBoth}

module _ (C : Change) (a b u : Step) (wc : ObeysSchemaRules C) (text : List ℕ) (changes : C.schema ≡ Some text) (wa : ObeysStepRules a) (wb : ObeysStepRules b) (wu : ObeysStepRules u)
    (O P Q : Document) (x : IsExtendedBy O P) (y : IsExtendedBy P Q) (z : IsExtendedBy O Q) (s : IsStep O P a) (t : IsStep P Q b) (w : IsStep O Q u)
    (before between after : List SchemaEntry) (at : SchemasAtChange before C) (over : SchemasOverStep before between a) (on : SchemasOverStep between after b)
    (fresh_between : IfSome C.schema (λ _. AllByRecursion (λ (e : SchemaEntry). e.rev ≢ C.rev) between)) (fresh_after : IfSome C.schema (λ _. AllByRecursion (λ (e : SchemaEntry). e.rev ≢ C.rev) after)) where
  -- the first document, with these entries
  abbrev D : Document
  D = record { nodes = O.nodes; rows = O.rows; row_of = O.row_of; place = O.place; held = O.held; schemas = before }

  sound : IsSoundInForm D
  sound = record {
    root_known = x.before.root_known;
    root_nowhere = x.before.root_nowhere;
    one_row = x.before.one_row;
    once = x.before.once;
    short = x.before.short;
    own_cell = x.before.own_cell;
    one_held = x.before.one_held;
    cells_known = x.before.cells_known;
    held_known = x.before.held_known;
    register_key = x.before.register_key;
    no_ring = x.before.no_ring;
    in_effect = at.in_effect;
  }

  first : IsOverStep O a
  first = finds_what_is_so O P a x s

  both : IsOverStep O u
  both = finds_what_is_so O Q u z w

  over-first_step : IsOverStep D a
  over-first_step = record { rows = first.rows; held = first.held; loose = first.loose; new_nodes = first.new_nodes; new_cells = first.new_cells; owners = first.owners; schema = ends_with_cut before between a over }

  over-both : IsOverStep D (data_of u)
  over-both = record { rows = both.rows; held = both.held; loose = both.loose; new_nodes = both.new_nodes; new_cells = both.new_cells; owners = both.owners; schema = tt }

  abbrev E : Document
  E = later D a

  entries : E.schemas ≡ between
  entries = schemas_after D a sound wa over-first_step between over.step

  over-next : IsOverStep E b
  over-next = next_over O P Q a b u x y z s t w D sound wa (data_rules u wu) over-first_step over-both (subst (λ l. IfSome b.schema (EndsWithCut l)) (sym entries) (ends_with_cut between after b on))

  ext : IsExtendedBy D E
  ext = later_extends D a sound wa over-first_step

  fits : Fits D (schema_meant C wc text changes D sound at)
  fits = schema_fits C wc text changes D sound at

  fits-between : Fits E (schema_meant C wc text changes D sound at)
  fits-between = fits_after D a sound wa over-first_step (schema_meant C wc text changes D sound at) fits (λ n e i. cc) (λ c e i. cc)
      (subst (AllByRecursion (λ (e : SchemaEntry). e.rev ≢ C.rev)) (sym entries) (fresh-in C wc text changes D sound at between fresh_between))

  fits-later : Fits (later E b) (schema_meant C wc text changes D sound at)
  fits-later = fits_after E b ext.after wb over-next (schema_meant C wc text changes D sound at) fits-between (λ n e i. cc) (λ c e i. cc)
      (subst (AllByRecursion (λ (e : SchemaEntry). e.rev ≢ C.rev)) (sym (schemas_after E b ext.after wb over-next after (subst (λ l. Rattle.st_marks.specs.Step.IsSchemaStep l after b.schema) (sym entries) on.step)))
      (fresh-in C wc text changes D sound at after fresh_after))

  pub schema_in_turn : StandOverBoth C a b
  schema_in_turn = (
    D,
    E,
    later E b,
    schema_meant C wc text changes D sound at,
    ext,
    later_extends E b ext.after wb over-next,
    fits,
    fits-between,
    fits-later,
    schema_short C wc text changes D sound at,
    schema_embedding C wc text changes D sound at,
    step_over D a sound wa over-first_step,
    step_over E b ext.after wb over-next,
  )
