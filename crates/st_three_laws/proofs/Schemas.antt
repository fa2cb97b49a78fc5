-- Entries that suit a change and two steps in turn, of which one alone changes them.
use Rattle.std.proofs.Common.{◌≡◌, ◌≢◌, ◌⊎◌, ◌++◌, List, [], ◌∷◌, Option, Some, None, IfSome, refl, sym, ap, ◌∙◌, subst, inl, inr}
use Rattle.std.specs.List.{AllByRecursion}
use Rattle.st_ids.specs.Root.{root}
use Rattle.st_marks.specs.declared.changes.Change.{Change}
use Rattle.st_marks.specs.declared.schemas.SchemaEntry.{SchemaEntry}
use Rattle.st_marks.specs.declared.schemas.SchemaStep.{SchemaStep}
use Rattle.st_marks.specs.declared.steps.Step.{Step}
use Rattle.st_marks.specs.Agree.{Agrees, HaveSchemasBeside, RebaseClash, SchemasAtChange, SchemasOverStep, broken, row_field}
use Rattle.st_marks.specs.Document.{CanBeInEffect, first_of, last_of, revs}
use Rattle.st_marks.specs.Step.{IsSchemaStep}
use Rattle.st_normal.specs.Rules.{ObeysChangeRules, ObeysStepRules}
use Rattle.st_pair_laws.proofs.SchemasBeside.{schemas_beside}

-- ## One schema step

one_front : (xs ys a b c d : List SchemaEntry) → xs ++ a ≡ ys ++ b → xs ++ c ≡ ys ++ d → first_of a ≢ first_of c → first_of b ≢ first_of d → (xs ≡ ys) × (a ≡ b) × (c ≡ d)
one_front [] [] a b c d p q h k = (refl, p, q)
one_front [] (y ∷ ys) a b c d p q h k = absurd (h (ap first_of p ∙ sym (ap first_of q)))
one_front (x ∷ xs) [] a b c d p q h k = absurd (k (sym (ap first_of p) ∙ ap first_of q))
one_front (x ∷ xs) (y ∷ ys) a b c d p q h k =
    let e : x ≡ y = cc in
    let r = one_front xs ys a b c d (let r : xs ++ a ≡ ys ++ b = cc in r) (let r : xs ++ c ≡ ys ++ d = cc in r) h k in
    ((λ i. e i ∷ r.0 i), r.1, r.2)

pub same_rest : (xs a c : List SchemaEntry) → xs ++ a ≡ xs ++ c → a ≡ c
same_rest [] a c e = e
same_rest (x ∷ xs) a c e = same_rest xs a c (let r : xs ++ a ≡ xs ++ c = cc in r)

pub one_schema_step : (ds es : List SchemaEntry) (s t : Option SchemaStep) → IsSchemaStep ds es s → IsSchemaStep ds es t → s ≡ t
one_schema_step ds es None None a b = refl
one_schema_step ds es None (Some t) a b = absurd (b.4 (ap first_of (same_rest b.0 t.cut t.add (sym b.1 ∙ a ∙ b.2))))
one_schema_step ds es (Some s) None a b = absurd (a.4 (ap first_of (same_rest a.0 s.cut s.add (sym a.1 ∙ b ∙ a.2))))
one_schema_step ds es (Some s) (Some t) a b =
    let r = one_front a.0 b.0 s.cut t.cut s.add t.add (sym a.1 ∙ b.1) (sym a.2 ∙ b.2) a.4 b.4 in
    let on : s.on ≡ t.on = let q : Some s.on ≡ Some t.on = sym a.3 ∙ ap (λ f. last_of (revs f)) r.0 ∙ b.3 in cc in
    ap (λ s. Some s) (let e : s ≡ t = λ i. record { on = on i; cut = r.1 i; add = r.2 i } in e)

-- ## Entries for all three

-- entries can be in effect where a change and two steps in turn stand; a change of schema has a new revision after the steps too
abbrev pub HaveSchemasInTurn : Change → Step → Step → Type 0
HaveSchemasInTurn C a b = (before : List SchemaEntry) × (between : List SchemaEntry) × (after : List SchemaEntry)
    × SchemasAtChange before C × SchemasOverStep before between a × SchemasOverStep between after b
    × IfSome C.schema (λ _. AllByRecursion (λ (e : SchemaEntry). e.rev ≢ C.rev) between)
    × IfSome C.schema (λ _. AllByRecursion (λ (e : SchemaEntry). e.rev ≢ C.rev) after)

pub stays : (S : Step) (es : List SchemaEntry) → CanBeInEffect es → S.schema ≡ None → SchemasOverStep es es S
stays S es c e = record { before_in_effect = c; after_in_effect = c; step = subst (IsSchemaStep es es) (sym e) refl }

pub beside_step : (C : Change) (S : Step) → ObeysChangeRules C → ObeysStepRules S → Agrees (RebaseClash C S) → HaveSchemasBeside C S
beside_step C S w v g = schemas_beside C S w v (λ none. g (row_field root) (inr (inr (inr (broken none)))))

-- where the first changes nothing, those over both as one; and where the second changes nothing, those over the first
pub one_changes : (C : Change) (a b u : Step) → ObeysChangeRules C → ObeysStepRules a → ObeysStepRules u → Agrees (RebaseClash C a) → Agrees (RebaseClash C u)
    → (ds es fs : List SchemaEntry) → IsSchemaStep ds es a.schema → IsSchemaStep es fs b.schema → IsSchemaStep ds fs u.schema → (a.schema ≡ None) ⊎ (b.schema ≡ None) → HaveSchemasInTurn C a b
one_changes C a b u w va vu ga gu ds es fs s t q (inl e) =
    let h = beside_step C u w vu gu in
    let there : ds ≡ es = subst (IsSchemaStep ds es) e s in
    let same : u.schema ≡ b.schema = one_schema_step es fs u.schema b.schema (subst (λ l. IsSchemaStep l fs u.schema) there q) t in
    (h.0, h.0, h.1, h.2, stays a h.0 h.3.before_in_effect e, record { before_in_effect = h.3.before_in_effect; after_in_effect = h.3.after_in_effect; step = subst (IsSchemaStep h.0 h.1) same h.3.step }, h.2.fresh, h.4)
one_changes C a b u w va vu ga gu ds es fs s t q (inr e) =
    let h = beside_step C a w va ga in
    (h.0, h.1, h.1, h.2, h.3, stays b h.1 h.3.after_in_effect e, h.4, h.4)

-- entries can be in effect where three steps stand in turn
abbrev pub HaveSchemas : Step → Step → Step → Type 0
HaveSchemas a b c = (before : List SchemaEntry) × (between : List SchemaEntry) × (mid : List SchemaEntry) × (after : List SchemaEntry) × SchemasOverStep before between a × SchemasOverStep between mid b × SchemasOverStep mid after c
