use Rattle.std.proofs.Common.{◌||◌, sym, ap, ◌∙◌}
use Rattle.std.specs.BTreeSet.{contains}
use Rattle.std.specs.Ordering.{is_eq}
use Rattle.st_lemmas.proofs.Bools.{or-false}
use Rattle.st_lemmas.proofs.FirstItems.{found_more}
use Rattle.st_moves.proofs.NamesLeft.{or_last}
use Rattle.st_cross.proofs.names.add_names.Goals as goal

pub loop-item-init : goal.loop-item-init
loop-item-init g c = λ q. sym (or-false (contains g.K.Ord.cmp c.args.set.now q))

pub loop-item-preserved : goal.loop-item-preserved
loop-item-preserved g c = λ q.
    found_more (λ r. is_eq (g.K.Ord.cmp (g.T.Named.key r) q)) (contains g.K.Ord.cmp c.args.set.now q) (contains g.K.Ord.cmp c.loop-item.set q) (contains g.K.Ord.cmp c.add.new.set q)
    c.args.items.now c.loop-item.item-index c.item-item.result c.item-item.result c.loop-item-test.true (sym c.item-item.is)
    (c.loop-item.invariant q) (c.in_ok-add.ensures q ∙ or_last (contains g.K.Ord.cmp c.loop-item.set q) (is_eq (g.K.Ord.cmp c.in_ok-copy.field-0 q))
    ∙ ap (λ j. contains g.K.Ord.cmp c.loop-item.set q || is_eq (g.K.Ord.cmp j q)) (c.in_ok-copy.ensures ∙ c.name.ensures))
