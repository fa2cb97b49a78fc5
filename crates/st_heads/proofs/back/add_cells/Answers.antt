use Rattle.std.proofs.Common.{◌∙◌, get_or, refl}
use Rattle.std.specs.BTreeSet.{contains}
use Rattle.st_ids.specs.Order.{cell_cmp, same_cell}
use Rattle.st_marks.specs.declared.intents.Owned.{Owned}
use Rattle.st_doc.proofs.Look.{no_cell}
use Rattle.st_heads.proofs.Listed.{set_more}
use Rattle.st_lemmas.proofs.FirstItems.{found_more}
use Rattle.st_heads.proofs.back.add_cells.Goals as goal

pub loop-owned-preserved : goal.loop-owned-preserved
unfolding same_cell
loop-owned-preserved c = λ d.
    let o = get_or c.args.cells.now c.loop-owned.owned-index no_cell in
    found_more (λ (o : Owned). same_cell o.cell d) (contains cell_cmp c.args.names.now d) (contains cell_cmp c.loop-owned.names d) (contains cell_cmp c.insert.new.self d)
    c.args.cells.now c.loop-owned.owned-index no_cell o c.loop-owned-test.true refl (c.loop-owned.invariant d) (c.in_ok-insert.ensures.updates.0 d ∙ set_more (same_cell o.cell d) (contains cell_cmp c.loop-owned.names d))
