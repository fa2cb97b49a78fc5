use Rattle.std.proofs.Common.{List}
use Rattle.std.specs.BTreeMap.{get}
use Rattle.std.specs.BTreeSet.{contains}
use Rattle.std.specs.Option.{option_or}
use Rattle.st_ids.specs.Listing.{IsListing, item_of}
use Rattle.st_ids.specs.Order.{node_cmp}
use Rattle.st_kind.specs.Named.{either}
use Rattle.st_lemmas.proofs.Options.{IfOk-along}
use Rattle.st_marks.specs.declared.marks.Loose.{Loose}
use Rattle.st_strip.specs.Rest.{rest_loose}
use Rattle.st_strip.specs.inside.Told.{nowhere_told}
use Rattle.st_strip.proofs.ToldApart.{rest_of_both}
use Rattle.st_strip.proofs.loose.rest_loose.Goals as goal

pub returns : goal.returns
returns c =
    let s = c.args.first.now in
    let w = c.args.whole.now in
    let a = contains node_cmp s.listed in
    let b = contains node_cmp w.listed in
    let between = nowhere_told (get node_cmp s.spots) (contains node_cmp w.stood) in
    let last = nowhere_told (get node_cmp w.spots) (contains node_cmp s.stood) in
    IfOk-along c.union.result
    (λ (l : List Loose). IsListing node_cmp (λ (m : Loose). m.node) l (λ n. option_or (item_of node_cmp (λ (m : Loose). m.node) c.as_slice.result.now n) (item_of node_cmp (λ (m : Loose). m.node) c.as_slice-2.result.now n)))
    (λ (l : List Loose). IsListing node_cmp (λ (m : Loose). m.node) l (λ n. rest_loose (either a b n) (between n) (last n) n))
    (λ l h. rest_of_both a b between last c.as_slice.result.now c.as_slice-2.result.now c.in_ok-of_first.of_first c.in_ok-of_whole.of_whole l c.as_slice.ensures c.as_slice-2.ensures c.in_ok-of_first.ensures c.in_ok-of_whole.ensures h) c.union.ensures
