use Rattle.std.proofs.Common.{arith, ◌≡◌, ◌-◌, ◌<◌, ◌≤◌, length, sym, ap, ◌∙◌, drop}
use Rattle.std.specs.BTreeMap.{get}
use Rattle.std.proofs.Math.Seq.{drop-length}
use Rattle.st_ids.specs.Order.{node_cmp}
use Rattle.st_makers.specs.inside.Homes.{home_after}
use Rattle.st_makers.proofs.Puts.{home_same, put_more}
use Rattle.st_makers.proofs.homes.note_puts.Goals as goal

pub puts-init : goal.puts-init
puts-init c = record {
  within = omega arith;
  said = λ n.
      let puts = c.as_slice-puts.result.now in
      home_same c.args.intent.now.rev (get node_cmp c.args.homes.now n) n
      ∙ ap (λ ps. home_after c.args.intent.now.rev ps (get node_cmp c.args.homes.now n) n) (sym (drop-length puts));
}

pub puts-preserved : goal.puts-preserved
puts-preserved c =
    let left = c.puts.left in
    let some : 0 < left = c.puts-test.true in
    let puts = c.as_slice-puts.result.now in
    let within : left ≤ length puts = c.puts.invariant.within in
    let put = c.index-puts-left.result in
    record {
      within = omega arith;
      said = λ n. put_more c.args.intent.now.rev puts (left - 1) left put put (get node_cmp c.args.homes.now n) (get node_cmp c.puts.homes n) (get node_cmp c.note_put.new.homes n) n
          (omega arith) (omega arith) (sym c.index-puts-left.is) (c.puts.invariant.said n) (c.in_ok-note_put.ensures n);
    }

pub returns : goal.returns
returns c = λ n.
    let none : c.puts.left ≡ 0 = omega arith in
    c.puts.invariant.said n
    ∙ (λ i. home_after c.args.intent.now.rev (drop (none i) (c.as_slice-puts.ensures i)) (get node_cmp c.args.homes.now n) n)
