use Rattle.std.proofs.Common.{get_or, refl, sym, ap, ◌∙◌}
use Rattle.std.specs.BTreeMap.{get}
use Rattle.std.specs.Option.{option_or}
use Rattle.st_ids.specs.Order.{node_cmp, same_node}
use Rattle.st_lemmas.proofs.Options.{option_or-None}
use Rattle.st_puts.specs.inside.First.{first_at}
use Rattle.st_puts.proofs.Firsts.{no_loose, kept_more}
use Rattle.st_puts.specs.inside.Puts.{loose_put}
use Rattle.st_puts.proofs.puts.keep_loose.Goals as goal

pub loop-one-init : goal.loop-one-init
loop-one-init c = λ n. sym (option_or-None (get node_cmp c.args.puts.now n))

pub loop-one-preserved : goal.loop-one-preserved
unfolding same_node
loop-one-preserved c = λ n.
    kept_more loose_put (get node_cmp c.args.puts.now n) (get node_cmp c.loop-one.puts n) (get node_cmp c.keep_one.new.map n) n
    c.args.loose.now c.loop-one.one-index no_loose (get_or c.args.loose.now c.loop-one.one-index no_loose) c.loop-one-test.true refl
    (c.loop-one.invariant n) (c.in_ok-keep_one.ensures n ∙ ap (λ l. option_or (get node_cmp c.loop-one.puts n) (first_at l n)) c.loose_put.ensures)
