use Rattle.std.proofs.Common.{get_or, refl, sym, ap, ◌∙◌}
use Rattle.std.specs.BTreeMap.{get}
use Rattle.std.specs.Option.{option_or}
use Rattle.st_ids.specs.Order.{node_cmp, same_node}
use Rattle.st_lemmas.proofs.Options.{option_or-None}
use Rattle.st_puts.specs.inside.First.{first_at}
use Rattle.st_puts.proofs.Firsts.{kept_more}
use Rattle.st_puts.specs.inside.Puts.{fate_by}
use Rattle.st_marks.specs.declared.marks.Mark.{Mark}
use Rattle.st_puts.proofs.puts.keep_row.Goals as goal

pub loop-mark-init : goal.loop-mark-init
loop-mark-init c = λ n. sym (option_or-None (get node_cmp c.args.puts.now n))

pub loop-mark-preserved : goal.loop-mark-preserved
unfolding same_node
loop-mark-preserved c = λ n.
    kept_more (fate_by c.args.fate) (get node_cmp c.args.puts.now n) (get node_cmp c.loop-mark.puts n) (get node_cmp c.keep_one.new.map n) n
    c.args.marks.now c.loop-mark.mark-index (Mark.Skip 0) (get_or c.args.marks.now c.loop-mark.mark-index (Mark.Skip 0)) c.loop-mark-test.true refl
    (c.loop-mark.invariant n) (c.in_ok-keep_one.ensures n ∙ ap (λ l. option_or (get node_cmp c.loop-mark.puts n) (first_at l n)) c.put_told.ensures)
