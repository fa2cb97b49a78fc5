use Rattle.std.proofs.Common.{◌||◌, get_or, refl, sym, ap, ◌∙◌}
use Rattle.std.specs.BTreeSet.{contains}
use Rattle.st_ids.specs.Order.{node_cmp}
use Rattle.st_lemmas.proofs.Bools.{or-false}
use Rattle.st_marks.specs.Embedding.{is_among}
use Rattle.st_climb.proofs.GrownSets.{added_more}
use Rattle.st_puts.specs.inside.Names.{loose_names}
use Rattle.st_puts.proofs.Firsts.{no_loose}
use Rattle.st_change_listings.proofs.names.add_loose.Goals as goal

pub loop-one-init : goal.loop-one-init
loop-one-init c = λ n. sym (or-false (contains node_cmp c.args.set.now n))

pub loop-one-preserved : goal.loop-one-preserved
loop-one-preserved c = λ n.
    added_more loose_names (contains node_cmp c.args.set.now n) (contains node_cmp c.loop-one.set n) (contains node_cmp c.add_one.new.set n) n
    c.args.loose.now c.loop-one.one-index no_loose (get_or c.args.loose.now c.loop-one.one-index no_loose) c.loop-one-test.true refl
    (c.loop-one.invariant n) (c.in_ok-add_one.ensures n ∙ ap (λ l. contains node_cmp c.loop-one.set n || is_among l n) c.moved_loose.ensures)
