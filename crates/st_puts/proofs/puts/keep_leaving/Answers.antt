use Rattle.std.proofs.Common.{sym, ap, ◌∙◌}
use Rattle.std.specs.BTreeMap.{get}
use Rattle.std.specs.Option.{option_or}
use Rattle.st_ids.specs.Order.{node_cmp, same_node}
use Rattle.st_lemmas.proofs.Options.{option_or-None}
use Rattle.st_puts.specs.inside.First.{first_at}
use Rattle.st_puts.proofs.Firsts.{kept_more}
use Rattle.st_marks.specs.declared.marks.RegMark.{RegMark}
use Rattle.st_puts.specs.inside.Puts.{into_nowhere, leaving}
use Rattle.st_puts.proofs.puts.keep_leaving.Goals as goal

pub loop-reg-init : goal.loop-reg-init
loop-reg-init c = λ n. sym (option_or-None (get node_cmp c.args.puts.now n))

pub loop-reg-preserved : goal.loop-reg-preserved
unfolding same_node
loop-reg-preserved c = λ n.
    kept_more (λ (r : RegMark). into_nowhere (leaving r)) (get node_cmp c.args.puts.now n) (get node_cmp c.loop-reg.puts n) (get node_cmp c.keep_one.new.map n) n
    c.args.regs.now c.loop-reg.reg-index c.reg-item.result c.reg-item.result c.loop-reg-test.true (sym c.reg-item.is)
    (c.loop-reg.invariant n) (c.in_ok-keep_one.ensures n ∙ ap (λ l. option_or (get node_cmp c.loop-reg.puts n) (first_at l n)) c.leaving.ensures)
