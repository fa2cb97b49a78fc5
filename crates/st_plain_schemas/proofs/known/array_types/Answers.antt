use Rattle.std.proofs.Common.{◌+◌, ◌≤◌, [], ◌∷◌, ◌++◌, length, sym, ap, ◌∙◌, arith}
use Rattle.st_plain_schemas.proofs.Arrays.{array_more, array_none, arrays_all, name_within}
use Rattle.st_plain_schemas.proofs.known.array_types.Goals as goal
use Rattle.st_plain_schemas.proofs.known.array_types.Goals.{then-is_array+in_ok-copy+in_ok-push, else-is_array}
use Rattle.st_schema.proofs.Widening.{few_types}

pub types-preserved : goal.types-preserved
types-preserved c =
    let s = c.args.schema.now in
    let i = c.types.i in
    let name = c.in-Some.name.now in
    let within : i + 1 ≤ length s.types = omega (arith, name_within s i name c.in-Some.ensures) in
    elim c.if-is_array.branch [
      | then-is_array+in_ok-copy+in_ok-push w ↦ record {
        so_far = w.types-is ∙ w.in_ok-push.ensures.ok ∙ ap (λ n. c.types.types ++ n ∷ []) w.in_ok-copy.ensures ∙ array_more s i name c.types.types c.in-Some.ensures (sym w.if-is_array.ensures) c.types.invariant.so_far;
        within = within;
      }
      | else-is_array w ↦ record { so_far = w.types-is ∙ array_none s i name c.types.types c.in-Some.ensures (sym w.if-is_array.ensures) c.types.invariant.so_far; within = within }
    ]

pub returns : goal.returns
returns c = arrays_all c.args.schema.now c.types.i c.types.types (sym c.in_default.ensures) c.types.invariant.so_far

pub overflow_add-i : goal.overflow_add-i
overflow_add-i c = omega (arith, name_within c.args.schema.now c.types.i c.in-Some.name.now c.in-Some.ensures, few_types c.args.schema.now c.is_kept.ensures)

pub types-smaller : goal.types-smaller
types-smaller c = omega (arith, name_within c.args.schema.now c.types.i c.in-Some.name.now c.in-Some.ensures)
