use Rattle.std.proofs.Common.{get_or, rules, sym, ◌∙◌}
use Rattle.std.specs.Ordering.{is_eq}
use Rattle.std.proofs.lemmas.List.Sorted.{answers_always}
use Rattle.st_ids.proofs.Orders.{is_eq_equal}
use Rattle.st_clash.proofs.ItemSearch.{found_at, found_there}
use Rattle.st_clash.proofs.named.place_of.Goals as goal

pub returns-then-is_equal : goal.returns-then-is_equal
returns-then-is_equal g c = (
  c.if-near-list.true,
  found_there g.K.Ord.cmp g.met.K.Ord.total c.requires.exact g.T.Named.key c.args.list.now c.args.name.now c.args.near c.index-list-near.result c.requires.rising c.if-near-list.true (is_eq_equal (g.K.Ord.cmp (g.T.Named.key (get_or c.args.list.now c.args.near c.index-list-near.result)) c.args.name.now) ((λ i. is_eq (g.K.Ord.cmp (g.T.Named.key (sym c.index-list-near.is i)) c.args.name.now)) ∙ (λ i. is_eq (g.K.Ord.cmp (sym c.name.ensures i) c.args.name.now)) ∙ sym c.is_equal.ensures ∙ c.if-is_equal.true)),
)

pub returns : goal.returns
returns g c =
    let facts = c.binary_search_by_key.ensures in
    let position = facts.position g.T.Named.key (answers_always _ _ _ (λ f a r g called. search rules)) in
    found_at g.K.Ord.cmp g.met.K.Ord.total c.requires.exact g.T.Named.key c.args.list.now c.args.name.now c.binary_search_by_key.result c.requires.rising facts.bound position
