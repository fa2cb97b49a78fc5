use Rattle.std.proofs.Common.{◌∙◌, cond, None, Some}
use Rattle.std.specs.BTreeMap.{get}
use Rattle.std.specs.Option.{option_or}
use Rattle.st_embed.specs.inside.Places.{place_cmp}
use Rattle.st_embed.proofs.Keeping.{place_eq}
use Rattle.st_embed.proofs.wants.keep_group.Goals as goal

pub returns : goal.returns
returns c = λ n a.
    let g = c.args.group.now in
    c.in_ok-keep.ensures (n, a) ∙ (λ i. option_or (get place_cmp c.args.cells.now (n, a)) (cond (place_eq g.node n g.after a i) (Some (c.in_ok-made.ensures i)) None))
