use Rattle.std.proofs.Common.{◌++◌, ◌∙◌, ap, get_or, refl}
use Rattle.std.specs.Option.{option_to_list}
use Rattle.st_ids.specs.Root.{root}
use Rattle.st_doc.specs.Doc.{document_of}
use Rattle.st_embed.proofs.Naming.{picked_more}
use Rattle.st_step.specs.inside.Sources.{changed_node}
use Rattle.st_step.proofs.sources.push_changed.Goals as goal

pub loop-node-preserved : goal.loop-node-preserved
loop-node-preserved c =
    picked_more (changed_node (document_of c.args.doc.now) (document_of c.args.later.now)) c.args.names.now c.loop-node.names c.push_if_some.new.list c.args.nodes.now c.loop-node.node-index
    root (get_or c.args.nodes.now c.loop-node.node-index root) c.loop-node-test.true refl c.loop-node.invariant (c.in_ok-push_if_some.ensures ∙ ap (λ o. c.loop-node.names ++ option_to_list o) c.changed_node.ensures)
