use Rattle.std.proofs.Common.{nat_lt, filter, rules, ap, ◌∙◌}
use Rattle.std.proofs.lemmas.Fn.{filter_same}
use Rattle.st_ahead.specs.declared.lag.Ahead.{Ahead}
use Rattle.st_ahead.proofs.lag.drop_up_to.Goals as goal

pub returns : goal.returns
returns c = c.from_vec.ensures ∙ filter_same _ _ _ (λ x b f' k. search rules) _ _ c.retain.ensures.filtered ∙ ap (filter (λ (x : Ahead). nat_lt c.args.n x.n)) (c.into_vec-items.ensures ∙ c.replace.ensures.value)
