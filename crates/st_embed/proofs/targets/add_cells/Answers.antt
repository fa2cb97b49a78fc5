use Rattle.std.proofs.Common.{sym, ◌∙◌, get_or, refl}
use Rattle.std.specs.BTreeSet.{contains}
use Rattle.st_ids.specs.Order.{cell_cmp, same_cell}
use Rattle.st_lemmas.proofs.Bools.{or-false}
use Rattle.st_lemmas.proofs.FirstItems.{found_more}
use Rattle.st_marks.specs.declared.intents.Owned.{Owned}
use Rattle.st_doc.proofs.Look.{no_cell}
use Rattle.st_embed.proofs.Keeping.{or_last}
use Rattle.st_embed.proofs.targets.add_cells.Goals as goal

pub loop-owned-init : goal.loop-owned-init
loop-owned-init c = λ d. sym (or-false (contains cell_cmp c.args.set.now d))

pub loop-owned-preserved : goal.loop-owned-preserved
unfolding same_cell
loop-owned-preserved c = λ d.
    let o = get_or c.args.cells.now c.loop-owned.owned-index no_cell in
    found_more (λ (o : Owned). same_cell o.cell d) (contains cell_cmp c.args.set.now d) (contains cell_cmp c.loop-owned.set d) (contains cell_cmp c.add.new.set d)
    c.args.cells.now c.loop-owned.owned-index no_cell o c.loop-owned-test.true refl (c.loop-owned.invariant d) (c.in_ok-add.ensures d ∙ or_last (contains cell_cmp c.loop-owned.set d) (same_cell o.cell d))
