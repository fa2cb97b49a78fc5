-- A listing of the step after a change, trimmed, is that step, read so.
use Rattle.std.proofs.Common.{◌≡◌, ℕ, Result, Ok, Err, IfOk, Bool, true, false, List, [], ◌∷◌, map, Option, Some, option_map, refl, sym, ap, ◌∙◌, subst}
use Rattle.std.specs.declared.alloc.AllocError.{AllocError}
use mathlib.Core.Path.{fun_ext}
use Rattle.st_ids.specs.declared.names.NodeId.{NodeId}
use Rattle.st_kind.specs.Named.{Nodes}
use Rattle.st_marks.specs.declared.changes.Change.{Change}
use Rattle.st_marks.specs.declared.intents.Intent.{Intent}
use Rattle.st_marks.specs.declared.intents.To.{To}
use Rattle.st_marks.specs.declared.marks.RowMarks.{RowMarks}
use Rattle.st_marks.specs.declared.steps.Step.{Step}
use Rattle.st_marks.specs.Document.{Document, IsSoundInForm}
use Rattle.st_marks.specs.Extends.{IsExtendedBy}
use Rattle.st_marks.specs.Intent.{Fits, put_of}
use Rattle.st_marks.specs.Row.{CellMark, Counted, Gap, Touch, Make, Fill, merge, spread}
use Rattle.st_marks.specs.Step.{IsStep}
use Rattle.st_marks.specs.Verdict.{carried_document}
use Rattle.st_mention_laws.specs.Shown.{ShowsStep, thin_row, thin_step, unnamed}
use Rattle.st_push.proofs.ExtensionsBeside.{extends_beside}
use Rattle.st_read_laws.specs.Reading.{IsRead, IsStepRead, read, read_change, read_row, read_step}
use Rattle.st_read_laws.proofs.Readings.{step-counted, step_listed_read}
use Rattle.st_reading.specs.Bridge.{is_void}
use Rattle.st_trim.specs.Trimmed.{ListsStep}
use Rattle.st_cross_laws.specs.Crossed.{IsCrossed}
use Rattle.st_cross_laws.proofs.StepsCrossed.{crossed_there}
use Rattle.st_carry.specs.inside.Entries.{part_with}
use Rattle.st_carry.specs.inside.Over.{IsOver, IsOverData}
use Rattle.st_carry.proofs.EntriesOver.{over_change}

-- ## Empty cells counted

unnamed_is : (x : CellMark) → unnamed x ≡ read false x
unnamed_is Counted = refl
unnamed_is (Gap c) = refl
unnamed_is (Touch c n h) = refl
unnamed_is (Make c n b) = refl
unnamed_is (Fill c n) = refl

cells_counted : (xs : List CellMark) → map unnamed xs ≡ map (read false) xs
cells_counted [] = refl
cells_counted (x ∷ xs) = λ i. unnamed_is x i ∷ cells_counted xs i

rows_counted : (rows : List RowMarks) → map thin_row rows ≡ map (read_row false) rows
rows_counted [] = refl
rows_counted (r ∷ rows) = λ i. record { node = r.node; marks = merge (cells_counted (spread r.marks) i) } ∷ rows_counted rows i

thin_counted : (S : Step) → thin_step S ≡ read_step false S
thin_counted S = λ i. record S { rows = rows_counted S.rows i }

thin_read : (l : Bool) (S : Step) → thin_step (read_step l S) ≡ thin_step S
thin_read l S = thin_counted (read_step l S) ∙ step-counted l S ∙ sym (thin_counted S)

-- ## A change of data

module _ (l : Bool) (C : Change) (S L : Step) (was is : Bool) (t : NodeId → Option To)
    (known : (D : Document) (N : Intent) → IsSoundInForm D → Fits D N → IsRead l D N C → (n : NodeId) → t n ≡ put_of N n) (got : IsCrossed l was is t C S L) where
  module _ (T : Step)
      (exact : (D E : Document) (K : Nodes) → IsExtendedBy D E → ListsStep D E K L → IsStep D E T)
      (shown : (D E : Document) (K : Nodes) (G : Step) → IsExtendedBy D E → ListsStep D E K G → thin_step L ≡ thin_step G → ShowsStep D E T)
      (thin : (D E : Document) (K : Nodes) (G : Step) → IsExtendedBy D E → ListsStep D E K G → thin_step L ≡ thin_step G → thin_step L ≡ L → thin_step T ≡ T) where
    step_read : (D E : Document) (K : Nodes) (W : Step) → IsExtendedBy D E → ListsStep D E K W → L ≡ read_step l W → (l ≡ true → L ≡ W) → IsStepRead l D E T
    step_read D E K W x lists counted named = go l refl
      where
        go : (b : Bool) → l ≡ b → IsStepRead l D E T
        go true e = subst (λ (k : Bool). IsStepRead k D E T) (sym e) (step_listed_read D E T (exact D E K x (subst (ListsStep D E K) (sym (named e)) lists)))
        go false e =
            let same : thin_step L ≡ thin_step W = ap thin_step counted ∙ thin_read l W in
            let s = shown D E K W x lists same in
            let itself : thin_step L ≡ L = same ∙ thin_counted W ∙ (λ i. read_step (sym e i) W) ∙ sym counted in
            subst (λ (k : Bool). IsStepRead k D E T) (sym e) (s.0, s.1, sym (thin D E K W x lists same itself) ∙ s.2 ∙ thin_counted s.0)

    one_over : IsOverData l C S was is T
    one_over X schema D E N v u (x, f, g, short, short_later, c, y, s) before after was_so is_so =
        let at = crossed_there l D E N c.0 y.0 s.0 L v u x f g short short_later (sym c.1.schema ∙ sym (ap (λ (z : Change). z.schema) c.2) ∙ schema) before after c.1 y.1 s.1
        (subst (λ b. IsCrossed l b (is_void u) (put_of N) (read_change l c.0) (read_step l s.0) L) (sym was_so)
        (subst (λ b. IsCrossed l was b (put_of N) (read_change l c.0) (read_step l s.0) L) (sym is_so)
        (subst (λ p. IsCrossed l was is p (read_change l c.0) (read_step l s.0) L) (fun_ext (λ n. known D N x.before f c n))
        (subst (λ (k : Change). IsCrossed l was is t k (read_step l s.0) L) c.2
        (subst (λ (k : Step). IsCrossed l was is t C k L) s.2 got))))) in
        step_read (carried_document v D N) (carried_document u E N) _ at.0 (extends_beside D E N c.0 s.0 v u x f g short short_later before after c.1 s.1) at.1 at.2 at.3

  pub over_listed : (r : Result Step AllocError)
      → ((D E : Document) (K : Nodes) → IsExtendedBy D E → ListsStep D E K L → IfOk r (IsStep D E))
      → ((D E : Document) (K : Nodes) (G : Step) → IsExtendedBy D E → ListsStep D E K G → thin_step L ≡ thin_step G → IfOk r (ShowsStep D E))
      → ((D E : Document) (K : Nodes) (G : Step) → IsExtendedBy D E → ListsStep D E K G → thin_step L ≡ thin_step G → thin_step L ≡ L → IfOk r (λ (s : Step). thin_step s ≡ s))
      → IfOk r (IsOverData l C S was is)
  over_listed (Ok T) exact shown thin = one_over T exact shown thin
  over_listed (Err e) exact shown thin = tt

-- ## A change of schema

pub schema_over : (l : Bool) (C : Change) (S : Step) (was is : Bool) (X : Change) (text : List ℕ) → C.schema ≡ Some text
    → IsOver l C S was is X (record S { schema = option_map (part_with (record { rev = C.rev; text = text }) C.base X.base) S.schema })
schema_over l C S was is X text schema D E N v u (x, f, g, short, short_later, c, y, s) before after was_so is_so =
    let step = over_change D E N c.0 y.0 s.0 text v u (sym (ap (λ (z : Change). z.schema) c.2) ∙ schema) f g c.1 y.1 s.1 before after in (
      record s.0 { schema = option_map (part_with (record { rev = c.0.rev; text = text }) c.0.base y.0.base) s.0.schema },
      step,
      λ i. record (s.2 i) { schema = option_map (part_with (record { rev = (c.2 i).rev; text = text }) (c.2 i).base (y.2 i).base) (s.2 i).schema },
    )
