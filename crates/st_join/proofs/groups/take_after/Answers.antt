use Rattle.std.proofs.Common.{◌∙◌, ◌&&◌, ◌||◌, Some, ap, arith, cond, refl, take_all, true}
use Rattle.std.specs.BTreeSet.{contains}
use Rattle.std.specs.List.{list_any}
use Rattle.st_ids.specs.Order.{same_node}
use Rattle.st_ids.specs.Root.{root}
use Rattle.st_marks.specs.declared.intents.Owned.{Owned}
use Rattle.st_marks.specs.Document.{owned_cell}
use Rattle.st_marks.specs.Intent.{same_anchor}
use Rattle.st_join.specs.inside.Places.{place_cmp}
use Rattle.st_join.proofs.Steps.{any_same, or_last, place_eq}
use Rattle.st_lemmas.proofs.FirstItems.{found_more}
use Rattle.st_join.proofs.groups.take_after.Goals as goal

pub loop-owned-preserved : goal.loop-owned-preserved
loop-owned-preserved c = λ n a.
    let before = contains place_cmp c.loop-owned.taken (n, a) in
    found_more (λ (o : Owned). same_node c.args.node n && same_anchor (Some o.cell) a) (contains place_cmp c.args.taken.now (n, a)) before (contains place_cmp c.add.new.set (n, a))
    c.args.cells.now c.loop-owned.owned-index (owned_cell (record { 0 = root.0 }) root) _ c.loop-owned-test.true refl
    (c.loop-owned.invariant n a) (c.in_ok-add.ensures (n, a) ∙ ap (λ b. cond b true before) (place_eq c.args.node n (Some _) a) ∙ or_last before _)

pub returns : goal.returns
returns c = λ n a.
    let old = contains place_cmp c.args.taken.now (n, a) in
    let p = λ (o : Owned). same_anchor (Some o.cell) a in
    c.loop-owned.invariant n a ∙ ap (λ xs. old || list_any (λ (o : Owned). same_node c.args.node n && p o) xs) (take_all _ _ (omega arith))
    ∙ ap (λ b. old || b) (any_same (same_node c.args.node n) p c.args.cells.now)
