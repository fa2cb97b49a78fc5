use Rattle.std.proofs.Common.{sym, ◌∙◌}
use Rattle.std.specs.BTreeMap.{get}
use Rattle.st_ids.specs.Order.{node_cmp}
use Rattle.st_marks.specs.declared.changes.NewNode.{NewNode}
use Rattle.st_doc.proofs.fits.has_node.Goals as goal
use Rattle.st_lemmas.proofs.Options.{is_some-option_map}

pub returns : goal.returns
returns c = c.contains_key.ensures ∙ sym (is_some-option_map (λ (m : NewNode). record { ty = m.ty; leaf = m.leaf }) (get node_cmp c.args.doc.now.nodes c.args.node))
