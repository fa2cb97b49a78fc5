use Rattle.std.proofs.Common.{filter, rules, ap, ◌∙◌}
use Rattle.std.proofs.lemmas.Fn.{filter_same}
use Rattle.std.specs.BTreeSet.{contains}
use Rattle.st_ids.specs.Order.{node_cmp}
use Rattle.st_marks.specs.declared.marks.Loose.{Loose}
use Rattle.st_parts.proofs.trimming.trim_loose.Goals as goal

pub returns : goal.returns
returns c = c.from_vec.ensures ∙ filter_same _ _ _ (λ x b f' k. search rules) _ _ c.retain.ensures.filtered ∙ ap (filter (λ (l : Loose). contains node_cmp c.args.named.now l.node)) c.into_vec-items.ensures
