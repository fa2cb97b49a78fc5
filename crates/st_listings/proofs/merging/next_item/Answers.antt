use Rattle.std.proofs.Common.{[], ◌∷◌, Less, Equal, Greater, refl}
use Rattle.std.proofs.lemmas.List.{nil_from_length}
use Rattle.st_listings.specs.inside.Merging.{IsNext}
use Rattle.st_listings.proofs.MergedListings.{along_both, next_both, next_first, next_greater, next_less, next_second, ordered}
use Rattle.st_listings.proofs.merging.next_item.Goals as goal

pub returns-in-None-Some : goal.returns-in-None-Some
returns-in-None-Some g c =
    let R = g.K.Ord.cmp in
    let key = g.T.Named.key in
    let y = c.in-None-Some.item.now in
    let vs = c.in-None-Some.left.now in
    along_both R key c.args.first.now [] c.args.second.now (y ∷ vs) (λ xs ys. IsNext R key xs ys y xs vs)
    (nil_from_length c.args.first.now c.in-None-Some.ensures.cases) c.in-None-Some.ensures'.cases.0 c.requires.first c.requires.second
    (λ r s. next_second R g.met.K.Ord.total key c.requires.exact y [] vs r s refl)

pub returns-in-Some-None : goal.returns-in-Some-None
returns-in-Some-None g c =
    let R = g.K.Ord.cmp in
    let key = g.T.Named.key in
    let x = c.in-Some-None.item.now in
    let us = c.in-Some-None.left.now in
    along_both R key c.args.first.now (x ∷ us) c.args.second.now [] (λ xs ys. IsNext R key xs ys x us ys)
    c.in-Some-None.ensures.cases.0 (nil_from_length c.args.second.now c.in-Some-None.ensures'.cases) c.requires.first c.requires.second
    (λ r s. next_first R g.met.K.Ord.total key c.requires.exact x us [] r s refl)

pub returns-in-Less : goal.returns-in-Less
returns-in-Less g c =
    let R = g.K.Ord.cmp in
    let key = g.T.Named.key in
    let w = c.in-Some-Some in
    let names = ordered R c.name.result.now c.name-in-Some-Some.result.now (key w.x.now) (key w.y.now) c.order.result Less c.name.ensures c.name-in-Some-Some.ensures c.order.ensures c.in-Less.is in
    along_both R key c.args.first.now (w.x.now ∷ w.xs.now) c.args.second.now (w.y.now ∷ w.ys.now) (λ xs ys. IsNext R key xs ys w.x.now w.xs.now ys)
    w.ensures.cases.0 w.ensures'.cases.0 c.requires.first c.requires.second
    (next_less R g.met.K.Ord.total key c.requires.exact w.x.now w.y.now w.xs.now w.ys.now names)

pub returns-in-Equal : goal.returns-in-Equal
returns-in-Equal g c =
    let R = g.K.Ord.cmp in
    let key = g.T.Named.key in
    let w = c.in-Some-Some in
    let names = ordered R c.name.result.now c.name-in-Some-Some.result.now (key w.x.now) (key w.y.now) c.order.result Equal c.name.ensures c.name-in-Some-Some.ensures c.order.ensures c.in-Equal.is in
    along_both R key c.args.first.now (w.x.now ∷ w.xs.now) c.args.second.now (w.y.now ∷ w.ys.now) (λ xs ys. IsNext R key xs ys w.x.now w.xs.now w.ys.now)
    w.ensures.cases.0 w.ensures'.cases.0 c.requires.first c.requires.second
    (next_both R g.met.K.Ord.total key c.requires.exact w.x.now w.y.now w.xs.now w.ys.now names)

pub returns-in-Greater : goal.returns-in-Greater
returns-in-Greater g c =
    let R = g.K.Ord.cmp in
    let key = g.T.Named.key in
    let w = c.in-Some-Some in
    let names = ordered R c.name.result.now c.name-in-Some-Some.result.now (key w.x.now) (key w.y.now) c.order.result Greater c.name.ensures c.name-in-Some-Some.ensures c.order.ensures c.in-Greater.is in
    along_both R key c.args.first.now (w.x.now ∷ w.xs.now) c.args.second.now (w.y.now ∷ w.ys.now) (λ xs ys. IsNext R key xs ys w.y.now xs w.ys.now)
    w.ensures.cases.0 w.ensures'.cases.0 c.requires.first c.requires.second
    (next_greater R g.met.K.Ord.total key c.requires.exact w.x.now w.y.now w.xs.now w.ys.now names)
