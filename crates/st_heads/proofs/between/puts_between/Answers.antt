use Rattle.std.proofs.Common.{[], ◌++◌, ◌∙◌, ap, get_or, refl}
use Rattle.std.specs.Option.{option_to_list}
use Rattle.st_ids.specs.Root.{root}
use Rattle.st_doc.specs.Doc.{document_of}
use Rattle.st_heads.specs.inside.Between.{put_between}
use Rattle.st_heads.proofs.Listed.{picked_more}
use Rattle.st_heads.proofs.between.puts_between.Goals as goal

pub loop-node-preserved : goal.loop-node-preserved
loop-node-preserved c =
    let n = get_or c.args.nodes.now c.loop-node.node-index root in
    picked_more (put_between (document_of c.args.before.now) (document_of c.args.after.now)) [] c.loop-node.puts c.push_if_put.new.puts c.args.nodes.now c.loop-node.node-index root n
    c.loop-node-test.true refl c.loop-node.invariant (c.in_ok-push_if_put.ensures ∙ ap (λ o. c.loop-node.puts ++ option_to_list o) c.in_ok-put.ensures)
