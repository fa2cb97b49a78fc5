use Rattle.std.proofs.Common.{◌≡◌, ◌↔◌, ◌&&◌, not, true, IsSome, sym, subst, ◌∙◌}
use Rattle.std.specs.BTreeSet.{BTreeSet, contains}
use Rattle.st_ids.specs.Listing.{Has}
use Rattle.st_ids.specs.Order.{node_cmp}
use Rattle.st_ids.specs.declared.names.NodeId.{NodeId}
use Rattle.st_lemmas.proofs.Options.{IfOk-along}
use Rattle.st_marks.specs.Embedding.{is_among, named_by_intent}
use Rattle.st_marks.specs.Listings.{nodes_new}
use Rattle.st_puts.specs.inside.Names.{names_told}
use Rattle.st_puts.proofs.ThinMarks.{same_named}
use Rattle.st_puts.proofs.NamesExact.{names_exact}
use Rattle.st_puts.proofs.names.named_before.Goals as goal

pub returns : goal.returns
returns c = λ D N x f shows.
    let C = c.args.change.now in
    IfOk-along c.old_names.result (λ (s : BTreeSet NodeId). (n : NodeId) → contains node_cmp s n ≡ (is_among (names_told C) n && not (is_among (nodes_new C.new) n)))
    (λ (s : BTreeSet NodeId). (n : NodeId) → (contains node_cmp s n ≡ true) ↔ (Has (named_by_intent D N) n × IsSome (D.nodes n)))
    (λ s h n. subst (λ b. (b ≡ true) ↔ (Has (named_by_intent D N) n × IsSome (D.nodes n))) (sym (h n ∙ same_named C shows.0 shows.2 n)) (names_exact D N shows.0 x f shows.1 n)) c.old_names.ensures
