use Rattle.std.proofs.Common.{◌≡◌, ◌+◌, ◌-◌, drop, take, sym, subst, arith}
use Rattle.std.proofs.lemmas.List.{drop-take}
use Rattle.st_author_docs.proofs.author_doc.entries_between.Goals as goal

pub returns : goal.returns
returns c =
    let from = c.args.from in
    let to = c.args.to in
    let log = c.args.log.now in
    let sum : from + (to - from) ≡ to = omega (arith, c.requires.order) in
    sym (subst (λ k. drop from (take k log) ≡ take (to - from) (drop from log)) sum (drop-take from (to - from) log))
