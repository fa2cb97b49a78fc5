-- What the tests tell of the document for which a forest stands.
use Rattle.std.proofs.Common.{◌≡◌, ◌↔◌, Bool, true, false, List, None, IfSome, IsTrue, sym, ◌∙◌, subst}
use Rattle.st_ids.specs.Listing.{Has}
use Rattle.st_ids.specs.declared.names.CellId.{CellId}
use Rattle.st_lemmas.proofs.Bools.{true-false}
use Rattle.st_marks.specs.declared.marks.RowMarks.{RowMarks}
use Rattle.st_marks.specs.declared.schemas.SchemaEntry.{SchemaEntry}
use Rattle.st_marks.specs.declared.steps.Step.{Step}
use Rattle.st_marks.specs.Document.{CanBeInEffect, Document, IsSoundInForm}
use Rattle.st_marks.specs.Listings.{cells_made}
use Rattle.st_marks.specs.Normal.{IsNormalStep}
use Rattle.st_normal.specs.Rules.{SchemaStepFits, in_rows}
use Rattle.st_normal_step_laws.specs.StepOver.{EndsWithCut}
use Rattle.st_forest.specs.Stands.{StandsFor}
use Rattle.st_forest.specs.declared.forest.Forest.{Forest}
use Rattle.st_over_step.specs.Over.{LeadsFrom}
use Rattle.st_over_step.specs.inside.Tables.{CellsAreNew, FindsWhatIsSo}
use Rattle.st_over_step.proofs.Laws.{leads, obeys}
use Rattle.st_over_step.proofs.Tables.{in_tables, new_in_document, new_in_tables, over_document}

module _ (F : Forest) (S : Step) where
  -- no cell that the step makes is in a row of the document
  abbrev New : Document → Type 0
  New D = (c : CellId) → Has (in_rows cells_made S.rows) c → D.row_of c ≡ None

  pub leads_where : (entries : List SchemaEntry) (found r : Bool) → IsTrue found ↔ FindsWhatIsSo F S → found ≡ true → entries ≡ F.schemas
      → (CanBeInEffect entries → IfSome S.schema SchemaStepFits → IsTrue r ↔ IfSome S.schema (EndsWithCut entries))
      → (D : Document) → StandsFor F D → IsSoundInForm D → IsNormalStep S → New D → IsTrue r ↔ LeadsFrom D S
  leads_where entries found r finds t same test D stands sound normal new =
      let can : CanBeInEffect entries = subst CanBeInEffect (sym (same ∙ stands.schemas)) sound.in_effect in
      let told = test can (obeys S normal).schema in (
        λ q. (leads D S sound normal).0 (over_document F D S stands sound (finds.0 t) (subst (λ l. IfSome S.schema (EndsWithCut l)) same (told.0 q)) new),
        λ l. told.1 (subst (λ l. IfSome S.schema (EndsWithCut l)) (sym same) (in_tables F D S stands sound ((leads D S sound normal).1 l)).1),
      )

  pub leads_nowhere : (found : Bool) → IsTrue found ↔ FindsWhatIsSo F S → found ≡ false → (D : Document) → StandsFor F D → IsSoundInForm D → IsNormalStep S → New D → IsTrue found ↔ LeadsFrom D S
  leads_nowhere found finds f D stands sound normal new = (λ q. absurd (true-false q f), λ l. finds.1 (in_tables F D S stands sound ((leads D S sound normal).1 l)).0)

  pub leads_anew : (rows : List RowMarks) (of_new r : Bool) → ((D : Document) → StandsFor F D → IsSoundInForm D → IsNormalStep S → New D → IsTrue of_new ↔ LeadsFrom D S) → of_new ≡ true
      → rows ≡ S.rows → IsTrue r ↔ CellsAreNew F rows → (D : Document) → StandsFor F D → IsSoundInForm D → IsNormalStep S → IsTrue r ↔ LeadsFrom D S
  leads_anew rows of_new r if_new t same test D stands sound normal = (
    λ q. (if_new D stands sound normal (new_in_document F D S stands sound (subst (CellsAreNew F) same (test.0 q)))).0 t,
    λ l. test.1 (subst (CellsAreNew F) (sym same) (new_in_tables F D S stands sound ((leads D S sound normal).1 l).new_cells)),
  )

  pub leads_not : (of_new : Bool) → ((D : Document) → StandsFor F D → IsSoundInForm D → IsNormalStep S → New D → IsTrue of_new ↔ LeadsFrom D S) → of_new ≡ false
      → (D : Document) → StandsFor F D → IsSoundInForm D → IsNormalStep S → IsTrue of_new ↔ LeadsFrom D S
  leads_not of_new if_new f D stands sound normal = (λ q. absurd (true-false q f), λ l. (if_new D stands sound normal ((leads D S sound normal).1 l).new_cells).1 l)
