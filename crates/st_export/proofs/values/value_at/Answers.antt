use Rattle.std.proofs.Common.{◌≡◌, ◌≤◌, ◌<◌, ◌-◌, ◌++◌, ◌∷◌, [], length, take, refl, sym, subst, arith}
use Rattle.std.proofs.lemmas.List.{take_all}
use Rattle.std.proofs.lemmas.Option.{slice_get_read}
use Rattle.st_ids.proofs.Shared.{at_has}
use Rattle.st_doc.specs.LiveText.{is_among}
use Rattle.st_export.specs.inside.Beneath.{beneath}
use Rattle.st_export.specs.inside.Walk.{IsWalk}
use Rattle.st_export.proofs.Made.{count_made, none_made, one_made, take_last}
use Rattle.st_export.proofs.values.value_at.Goals as goal

pub loop-left-init : goal.loop-left-init
loop-left-init c =
    let is = is_among c.args.arrays.now in
    let F = c.args.forest.now in
    let n = c.args.node in
    let order = c.in-Some.order.items in
    let walk = rw c.in-Some.is at c.in_ok-order.ensures.walk in
    let all : length order ≤ c.len-left.result = omega (arith, c.len-left.ensures, c.in-Some.order.ok.0) in
    record {
      within = omega (arith, c.len-left.ensures, c.in-Some.order.ok.0);
      made = none_made is F n (take c.len-left.result order) c.new-values.result.items
          (subst (λ vs. IsWalk (beneath is F) (n ∷ []) vs []) (sym (take_all c.len-left.result order all)) walk) c.new-values.ensures.items;
    }

pub loop-left-preserved : goal.loop-left-preserved
loop-left-preserved c =
    let is = is_among c.args.arrays.now in
    let F = c.args.forest.now in
    let n = c.args.node in
    let order = c.in-Some.order.items in
    let left = c.loop-left.left in
    let v = c.index.result.now in
    let known = rw c.in-Some.is at c.in_ok-order.ensures.known in
    let more : 0 < left = c.loop-left-test.true in
    let within : left ≤ length order = c.loop-left.invariant.within in
    let last : take left order ≡ take (left - 1) order ++ v ∷ [] = take_last order left v more within c.index.ensures in
    let there = at_has order (left - 1) v (slice_get_read order (length order) (left - 1) v refl (omega arith) c.index.ensures) in
    record {
      within = omega arith;
      made = one_made is F n (take (left - 1) order) (take left order) v c.loop-left.values.items last c.loop-left.invariant.made c.fold.new.values.items c.in_ok-fold.ensures.count
          c.in_ok-fold.ensures.shown (λ D stands sound first. known D v stands sound first there);
    }

pub fold-requires : goal.fold-requires
fold-requires c =
    let order = c.in-Some.order.items in
    let left = c.loop-left.left in
    let v = c.index.result.now in
    let more : 0 < left = c.loop-left-test.true in
    let within : left ≤ length order = c.loop-left.invariant.within in
    count_made (is_among c.args.arrays.now) c.args.forest.now c.args.node (take (left - 1) order) (take left order) v c.loop-left.values.items
    (take_last order left v more within c.index.ensures) c.loop-left.invariant.made
