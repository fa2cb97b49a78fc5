use Rattle.std.proofs.Common.{ap, ◌∙◌}
use Rattle.std.specs.BTreeMap.{get}
use Rattle.std.specs.BTreeSet.{BTreeSet, contains}
use Rattle.st_ids.specs.Order.{node_cmp}
use Rattle.st_ids.specs.declared.names.NodeId.{NodeId}
use Rattle.st_lemmas.proofs.Options.{IfOk-along}
use Rattle.st_marks.specs.Embedding.{is_among}
use Rattle.st_puts.specs.Mentions.{above_in}
use Rattle.st_climb.specs.Upwards.{AreUpwards}
use Rattle.st_puts.specs.inside.First.{first_at}
use Rattle.st_trim.specs.Trimmed.{AreMentionedByStep}
use Rattle.st_trim.proofs.PlacesTold.{upwards_mentioned}
use Rattle.st_trim.proofs.ThinListings.{same_changes, same_stood}
use Rattle.st_trim.proofs.trimming.mentioned.Goals as goal

pub returns : goal.returns
returns c = λ D E K G x l e.
    let places = c.in_ok-places.places in
    let changed = contains node_cmp c.in_ok-changed.changed in
    IfOk-along c.upwards.result (λ (s : BTreeSet NodeId). AreUpwards (above_in places) changed (contains node_cmp s)) (λ (s : BTreeSet NodeId). AreMentionedByStep D E (contains node_cmp s))
    (λ s up. upwards_mentioned D E K G x l (get node_cmp places) (λ n. c.in_ok-places.ensures n ∙ ap (λ ps. first_at ps n) (same_stood c.args.listing.now G e)) changed (contains node_cmp s)
    (λ n. c.in_ok-changed.ensures n ∙ ap (λ ns. is_among ns n) (same_changes c.args.listing.now G e)) up) c.upwards.ensures
