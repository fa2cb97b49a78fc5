-- Three steps in turn, taken together in either way.
use Rattle.std.proofs.Common.{◌≡◌, ◌⊎◌, Option, Some, None, refl, subst, inl, inr}
use Rattle.st_marks.specs.declared.schemas.SchemaStep.{SchemaStep}
use Rattle.st_marks.specs.declared.steps.Step.{Step}
use Rattle.st_marks.specs.Agree.{Agrees, ComposeClash, SchemasOverStep}
use Rattle.st_marks.specs.Document.{Document}
use Rattle.st_marks.specs.Extends.{IsExtendedBy}
use Rattle.st_marks.specs.Step.{IsSchemaStep, IsStep}
use Rattle.st_marks.proofs.Turns.{extends_on}
use Rattle.st_marks.proofs.Unique.{one_step}
use Rattle.st_normal.specs.Rules.{ObeysStepRules}
use Rattle.st_normal_laws.proofs.StepRules.{step_obeys}
use Rattle.st_three_laws.specs.Over.{LeadsOverTwo, StandInTurn}
use Rattle.st_three_laws.proofs.OverParts.{TwoStand}
use Rattle.st_three_laws.proofs.Schemas.{HaveSchemas, one_schema_step, stays}
use Rattle.st_three_laws.proofs.SchemasThree.{all_change}
use Rattle.st_three_laws.proofs.StandThree.{three_in_turn}

-- two steps in turn and both as one, over documents
record InTurn (S T V : Step) : Type 0 where
  before : Document
  between : Document
  after : Document
  first_extends : IsExtendedBy before between
  then_extends : IsExtendedBy between after
  extends : IsExtendedBy before after
  first : IsStep before between S
  next : IsStep between after T
  both : IsStep before after V
  rules : ObeysStepRules V

in-turn : TwoStand → (S T V : Step) → ObeysStepRules S → ObeysStepRules T → Agrees (ComposeClash S T) → LeadsOverTwo S T V → InTurn S T V
in-turn stand S T V s t g leads =
    let (D, E, F, x, y, p, q) = stand S T s t g in
    let both : IsStep D F V = leads D E F x y p q in
    let ends = extends_on D E F x y in
    record { before = D; between = E; after = F; first_extends = x; then_extends = y; extends = ends; first = p; next = q; both = both; rules = step_obeys D F V ends both }

over-step : (S : Step) (D E : Document) → IsExtendedBy D E → IsStep D E S → SchemasOverStep D.schemas E.schemas S
over-step S D E x s = record { before_in_effect = x.before.in_effect; after_in_effect = x.after.in_effect; step = s.schema }

-- where one of the three changes nothing, those of the two others
schemas-of_two : (a b c u d l : Step) → InTurn a b u → InTurn b c d → InTurn u c l → (a.schema ≡ None) ⊎ (b.schema ≡ None) ⊎ (c.schema ≡ None) → HaveSchemas a b c
schemas-of_two a b c u d l p q k (inl e) = (
  q.before.schemas,
  q.before.schemas,
  q.between.schemas,
  q.after.schemas,
  stays a q.before.schemas q.first_extends.before.in_effect e,
  over-step b q.before q.between q.first_extends q.first,
  over-step c q.between q.after q.then_extends q.next,
)
schemas-of_two a b c u d l p q k (inr (inl e)) =
    let there : p.between.schemas ≡ p.after.schemas = subst (IsSchemaStep p.between.schemas p.after.schemas) e p.next.schema in
    let same : u.schema ≡ a.schema = one_schema_step p.before.schemas p.after.schemas u.schema a.schema p.both.schema (subst (λ l. IsSchemaStep p.before.schemas l a.schema) there p.first.schema) in (
      k.before.schemas,
      k.between.schemas,
      k.between.schemas,
      k.after.schemas,
      record { before_in_effect = k.first_extends.before.in_effect; after_in_effect = k.first_extends.after.in_effect; step = subst (IsSchemaStep k.before.schemas k.between.schemas) same k.first.schema },
      stays b k.between.schemas k.first_extends.after.in_effect e,
      over-step c k.between k.after k.then_extends k.next,
    )
schemas-of_two a b c u d l p q k (inr (inr e)) = (
  p.before.schemas,
  p.between.schemas,
  p.after.schemas,
  p.after.schemas,
  over-step a p.before p.between p.first_extends p.first,
  over-step b p.between p.after p.then_extends p.next,
  stays c p.after.schemas p.then_extends.after.in_effect e,
)

schemas : (a b c u d l r : Step) → InTurn a b u → InTurn b c d → InTurn u c l → InTurn a d r → HaveSchemas a b c
schemas a b c u d l r p q k n = go a.schema refl b.schema refl c.schema refl
  where
    go : (o : Option SchemaStep) → a.schema ≡ o → (e : Option SchemaStep) → b.schema ≡ e → (f : Option SchemaStep) → c.schema ≡ f → HaveSchemas a b c
    go None x e y f z = schemas-of_two a b c u d l p q k (inl x)
    go (Some i) x None y f z = schemas-of_two a b c u d l p q k (inr (inl y))
    go (Some i) x (Some j) y None z = schemas-of_two a b c u d l p q k (inr (inr z))
    go (Some i) x (Some j) y (Some h) z = all_change a b c u d i j h x y z
        p.before.schemas p.between.schemas p.after.schemas p.first_extends.before.in_effect p.first_extends.after.in_effect p.then_extends.after.in_effect
        (subst (IsSchemaStep p.before.schemas p.between.schemas) x p.first.schema) (subst (IsSchemaStep p.between.schemas p.after.schemas) y p.next.schema) p.both.schema
        q.before.schemas q.between.schemas q.after.schemas q.first_extends.before.in_effect q.first_extends.after.in_effect q.then_extends.after.in_effect
        (subst (IsSchemaStep q.before.schemas q.between.schemas) y q.first.schema) (subst (IsSchemaStep q.between.schemas q.after.schemas) z q.next.schema) q.both.schema
        n.before.schemas n.between.schemas n.after.schemas n.first_extends.before.in_effect n.first_extends.after.in_effect n.then_extends.after.in_effect
        (subst (IsSchemaStep n.before.schemas n.between.schemas) x n.first.schema) n.next.schema
        k.before.schemas k.between.schemas k.after.schemas k.first_extends.before.in_effect k.first_extends.after.in_effect k.then_extends.after.in_effect
        k.first.schema (subst (IsSchemaStep k.between.schemas k.after.schemas) z k.next.schema)

module _ (stand : TwoStand) (a b c u d l r : Step) (wa : ObeysStepRules a) (wb : ObeysStepRules b) (wc : ObeysStepRules c)
    (gu : Agrees (ComposeClash a b)) (lu : LeadsOverTwo a b u) (gl : Agrees (ComposeClash u c)) (ll : LeadsOverTwo u c l)
    (gd : Agrees (ComposeClash b c)) (ld : LeadsOverTwo b c d) (gr : Agrees (ComposeClash a d)) (lr : LeadsOverTwo a d r) where
  p : InTurn a b u
  p = in-turn stand a b u wa wb gu lu

  q : InTurn b c d
  q = in-turn stand b c d wb wc gd ld

  k : InTurn u c l
  k = in-turn stand u c l p.rules wc gl ll

  n : InTurn a d r
  n = in-turn stand a d r wa q.rules gr lr

  h : HaveSchemas a b c
  h = schemas a b c u d l r p q k n

  pub stand_three : StandInTurn a b c
  stand_three = three_in_turn a b c u d r wa wb wc p.rules q.rules n.rules gl
      p.before p.between p.after p.first_extends p.then_extends p.extends p.first p.next p.both
      q.before q.between q.after q.first_extends q.then_extends q.extends q.first q.next q.both
      n.before n.between n.after n.first_extends n.then_extends n.extends n.first n.next n.both
      h.0 h.1 h.2 h.3 h.4 h.5 h.6

  pub one_whole : l ≡ r
  one_whole =
      let (D, E, F, G, x, y, z, s, t, w) = stand_three in
      one_step D G l r z.after
      (ll D F G (extends_on D E F x y) z (lu D E F x y s t) w)
      (lr D E G x (extends_on E F G y z) s (ld E F G y z t w))
