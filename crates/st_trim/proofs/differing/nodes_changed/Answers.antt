use Rattle.std.proofs.Common.{◌≡◌, ◌||◌, ap, ◌∙◌}
use Rattle.std.specs.BTreeMap.{is_at}
use Rattle.std.specs.BTreeSet.{contains}
use Rattle.std.specs.List.{list_any}
use Rattle.st_ids.specs.Order.{node_cmp}
use Rattle.st_kind.specs.Named.{Nodes}
use Rattle.st_marks.specs.Embedding.{is_among}
use Rattle.st_marks.specs.Listings.{nodes_new}
use Rattle.st_trim.specs.inside.Told.{changes_told}
use Rattle.st_trim.proofs.differing.nodes_changed.Goals as goal

pub returns : goal.returns
returns c = λ n.
    let same : contains node_cmp c.in_ok-new.new ≡ is_among (nodes_new c.args.listing.now.new) = λ i m. (c.in_ok-new.ensures m ∙ ap (λ l. is_among (nodes_new l) m) c.as_slice.ensures) i in
    c.in_ok-add_told.ensures n
    ∙ ap (λ b. b || is_among (changes_told (contains node_cmp c.in_ok-new.new) c.args.listing.now) n) (ap (list_any (is_at (node_cmp n))) c.new-set.ensures.empty)
    ∙ ap (λ (new : Nodes). is_among (changes_told new c.args.listing.now) n) same
