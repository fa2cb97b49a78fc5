use Rattle.std.specs.BTreeSet.{BTreeSet, contains}
use Rattle.st_ids.specs.Order.{node_cmp}
use Rattle.st_ids.specs.declared.names.NodeId.{NodeId}
use Rattle.st_lemmas.proofs.Options.{IfOk-along}
use Rattle.st_puts.specs.Mentions.{AreMentions, above_in}
use Rattle.st_climb.specs.Upwards.{AreUpwards}
use Rattle.st_puts.proofs.MentionsExact.{mentions_exact, names_back}
use Rattle.st_puts.proofs.climb.mentioned_after.Goals as goal

pub returns : goal.returns
returns c = λ D E N x f g shows right.
    let places = c.args.places.now in
    let names = contains node_cmp c.in_ok-names.names in
    IfOk-along c.upwards.result (λ (s : BTreeSet NodeId). AreUpwards (above_in places) names (contains node_cmp s)) (λ (s : BTreeSet NodeId). AreMentions E N (contains node_cmp s))
    (λ s up. mentions_exact D E N x f g places names (contains node_cmp s) right (c.in_ok-names.ensures D N x.before f shows) (names_back D E N x f g shows.0 shows.1) up) c.upwards.ensures
