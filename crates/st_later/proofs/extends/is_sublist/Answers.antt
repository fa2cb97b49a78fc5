use Rattle.std.proofs.Common.{◌≤◌, ◌∙◌, ◌+◌, ap, sym, drop, get_or, length, refl, subst}
use Rattle.std.proofs.lemmas.List.{drop_all}
use Rattle.st_doc.proofs.Look.{drop_one, no_cell}
use Rattle.st_later.specs.inside.Extending.{is_sublist}
use Rattle.st_later.proofs.Extending.{all_looked_at, next_within, one_looked_at}
use Rattle.st_later.proofs.extends.is_sublist.Goals as goal

pub loop-owned-preserved : goal.loop-owned-preserved
loop-owned-preserved c =
    let xs = c.args.before.now in
    let ys = c.args.after.now in
    let i = c.loop-owned.owned-index in
    let y = get_or ys i no_cell in
    let at = c.next_after-next.ensures in
    record {
      within = subst (λ n. n ≤ length xs) (sym at) (next_within xs c.loop-owned.next y c.loop-owned.invariant.within);
      rest = ap (λ n. is_sublist (drop n xs) (drop (i + 1) ys)) at ∙ one_looked_at xs (drop (i + 1) ys) c.loop-owned.next y
          ∙ ap (is_sublist (drop c.loop-owned.next xs)) (sym (drop_one ys i no_cell y c.loop-owned-test.true refl)) ∙ c.loop-owned.invariant.rest;
    }

pub returns : goal.returns
returns c =
    let xs = c.args.before.now in
    let ys = c.args.after.now in
    all_looked_at xs c.loop-owned.next c.loop-owned.invariant.within
    ∙ ap (is_sublist (drop c.loop-owned.next xs)) (sym (drop_all c.loop-owned.owned-index ys c.loop-owned-test.false)) ∙ c.loop-owned.invariant.rest
