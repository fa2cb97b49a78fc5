use Rattle.std.proofs.Common.{◌∙◌, ◌+◌, ◌++◌, List, [], Option, sym, ap, subst, take, arith}
use Rattle.st_schema.specs.Schema.{type_names}
use Rattle.st_compat.specs.Relation.{CausesOf, none}
use Rattle.st_compat.specs.declared.relation.Cause.{Cause}
use Rattle.st_compat.specs.declared.relation.Why.{Why}
use Rattle.st_compat.specs.inside.Marks.{cause_of}
use Rattle.st_compat.proofs.Numbers.{name_within, name_low}
use Rattle.st_compat.proofs.Passing.{cause_next, cause_none, cause_all}
use Rattle.st_compat.proofs.relation.causes_of_types.Goals as goal
use Rattle.st_compat.proofs.relation.causes_of_types.Goals.{then-marks-i+in_ok-push_cause, else-marks-i}

pub types-init : goal.types-init
types-init c = subst (λ (cs : List Cause). CausesOf c.args.stored.now c.args.view.now [] cs) (sym c.new-causes.ensures) none

pub bounds-marks-i : goal.bounds-marks-i
bounds-marks-i c = name_low c.args.stored.now c.types.i c.in-Some.ty.now c.is_kept.ensures c.in-Some.ensures

pub overflow_add-i : goal.overflow_add-i
overflow_add-i c = omega (arith, name_low c.args.stored.now c.types.i c.in-Some.ty.now c.is_kept.ensures c.in-Some.ensures)

pub types-smaller : goal.types-smaller
types-smaller c = omega (arith, name_within c.args.stored.now c.types.i c.in-Some.ty.now c.in-Some.ensures)

pub types-preserved : goal.types-preserved
types-preserved c =
    let s = c.args.stored.now in
    let v = c.args.view.now in
    let i = c.types.i in
    let ty = c.in-Some.ty.now in
    let causes = c.types.causes in
    elim c.if-marks-i.branch [
      | then-marks-i+in_ok-push_cause w ↦
          subst (λ (cs : List Cause). CausesOf s v (type_names (take (i + 1) s.types)) cs) (sym (w.causes-is ∙ w.in_ok-push_cause.ensures ∙ ap (λ (o : Option Why). causes ++ cause_of ty o) w.why.ensures))
          (cause_next s v c.args.marks.now i ty causes c.requires c.in-Some.ensures w.if-marks-i.true c.types.invariant)
      | else-marks-i w ↦
          subst (λ (cs : List Cause). CausesOf s v (type_names (take (i + 1) s.types)) cs) (sym w.causes-is)
          (cause_none s v c.args.marks.now i ty causes c.requires c.in-Some.ensures w.if-marks-i.false c.types.invariant)
    ]

pub returns : goal.returns
returns c = cause_all c.args.stored.now c.args.view.now c.types.i c.types.causes c.in_default.ensures c.types.invariant
