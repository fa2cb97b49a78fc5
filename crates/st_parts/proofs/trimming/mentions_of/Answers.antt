use Rattle.std.proofs.Common.{ap, ◌∙◌}
use Rattle.std.specs.BTreeSet.{BTreeSet, contains}
use Rattle.st_ids.specs.Order.{node_cmp}
use Rattle.st_ids.specs.declared.names.NodeId.{NodeId}
use Rattle.st_climb.specs.Upwards.{AreUpwards}
use Rattle.st_lemmas.proofs.Options.{IfOk-along}
use Rattle.st_puts.specs.Mentions.{AreMentions, above_in}
use Rattle.st_puts.specs.inside.First.{first_at}
use Rattle.st_puts.proofs.ThinMarks.{same_named}
use Rattle.st_parts.proofs.MentionsListed.{mentions_listed}
use Rattle.st_parts.proofs.ThinListings.{same_places}
use Rattle.st_parts.proofs.trimming.mentions_of.Goals as goal

pub returns : goal.returns
returns c = λ D N K G x f l e.
    let X = c.args.listing.now in
    let places = c.in_ok-places.places in
    let names = contains node_cmp c.in_ok-names.names in
    IfOk-along c.upwards.result (λ (s : BTreeSet NodeId). AreUpwards (above_in places) names (contains node_cmp s)) (λ (s : BTreeSet NodeId). AreMentions D N (contains node_cmp s))
    (λ s up. mentions_listed D N K G x f l places names (contains node_cmp s)
    (λ n. c.in_ok-places.ensures n ∙ ap (λ ps. first_at ps n) (same_places X G e)) (λ n. c.in_ok-names.ensures n ∙ same_named X G e n) up) c.upwards.ensures
