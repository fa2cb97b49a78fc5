use Rattle.std.proofs.Common.{◌≡◌, List, ap, ◌∙◌}
use Rattle.std.specs.BTreeSet.{contains}
use Rattle.std.specs.List.{filter_map}
use Rattle.st_ids.specs.Order.{node_cmp}
use Rattle.st_lemmas.proofs.Options.{IfOk-along}
use Rattle.st_marks.specs.declared.changes.NewNode.{NewNode}
use Rattle.st_marks.specs.Embedding.{is_among}
use Rattle.st_marks.specs.Listings.{nodes_new}
use Rattle.st_strip.specs.inside.Told.{unless_made}
use Rattle.st_strip.proofs.new.rest_new.Goals as goal

pub returns : goal.returns
returns c =
    IfOk-along c.all_unless.result (λ (l : List NewNode). l ≡ filter_map (unless_made (contains node_cmp c.in_ok-made.made)) c.as_slice-2.result.now)
    (λ (l : List NewNode). l ≡ filter_map (unless_made (is_among (nodes_new c.args.first.now))) c.args.whole.now)
    (λ l e. e ∙ (λ i. filter_map (unless_made (λ n. (c.in_ok-made.ensures n ∙ ap (λ k. is_among (nodes_new k) n) c.as_slice.ensures) i)) (c.as_slice-2.ensures i))) c.all_unless.ensures
