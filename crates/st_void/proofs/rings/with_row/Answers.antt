use Rattle.std.proofs.Common.{◌++◌, arith, ◌∙◌, subst, take, take_all}
use Rattle.std.specs.List.{flat_map}
use Rattle.st_marks.specs.Row.{spread}
use Rattle.st_void.specs.inside.Puts.{IsLeastRing, put_by}
use Rattle.st_void.proofs.GatheredLists.{row_step}
use Rattle.st_void.proofs.rings.with_row.Goals as goal

pub marks-preserved : goal.marks-preserved
marks-preserved c seen h =
    let ms = c.as_slice-mark-items.result.now in
    let i = c.marks.mark-index in
    row_step c.args.change.now ms i _ c.with_node-so_far.result seen c.put_by.result c.marks-test.true c.put_by.ensures
    (c.with_node-so_far.ensures (seen ++ flat_map put_by (spread (take i ms))) (c.marks.invariant seen h))

pub returns : goal.returns
returns c seen h = subst (λ ms. IsLeastRing c.args.change.now (seen ++ flat_map put_by (spread ms)) c.marks.so_far) (take_all _ _ (omega arith) ∙ c.as_slice-mark-items.ensures) (c.marks.invariant seen h)
