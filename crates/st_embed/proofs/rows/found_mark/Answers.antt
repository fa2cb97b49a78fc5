use Rattle.std.proofs.Common.{◌≡◌, Bool, Some, sym, subst}
use Rattle.std.specs.BTreeSet.{contains}
use Rattle.st_ids.specs.Order.{node_cmp}
use Rattle.st_marks.specs.Row.{embed_cell}
use Rattle.st_embed.specs.inside.Marks.{mark_of}
use Rattle.st_embed.specs.inside.Wants.{part_in_row}
use Rattle.st_embed.proofs.rows.found_mark.Goals as goal

pub returns-then-not-full : goal.returns-then-not-full
returns-then-not-full c = λ n.
    let m = contains node_cmp c.args.mentioned.now in
    subst (λ (f : Bool). Some c.empty_mark.result ≡ mark_of (embed_cell (part_in_row c.args.wants.now m n) c.args.owned.cell c.args.owned.node f)) (sym c.if-not-full.true) (c.empty_mark.ensures m n)
