use Rattle.std.proofs.Common.{ap, ◌∙◌, ◌||◌, refl}
use Rattle.std.specs.BTreeSet.{contains}
use Rattle.std.specs.List.{list_any}
use Rattle.st_ids.specs.Order.{node_cmp, same_node}
use Rattle.st_ids.specs.declared.names.NodeId.{NodeId}
use Rattle.st_ids.proofs.Orders.{node_cmp_exact}
use Rattle.st_marks.specs.declared.intents.Group.{Group}
use Rattle.st_marks.specs.declared.marks.RowMarks.{RowMarks}
use Rattle.st_marks.specs.Document.{content}
use Rattle.st_marks.specs.Embedding.{is_among, row_marks, row_part}
use Rattle.st_marks.specs.Row.{embed_row}
use Rattle.st_doc.specs.Doc.{document_of}
use Rattle.st_embed.specs.inside.Standing.{is_row_of}
use Rattle.st_embed.specs.inside.Wants.{part_in_row}
use Rattle.st_embed.proofs.Candidates.{no_row}
use Rattle.st_embed.proofs.Listing.{listing}
use Rattle.st_embed.proofs.Wanting.{row_named, row_same}
use Rattle.st_embed.proofs.listings.rows_of.Goals as goal

pub returns : goal.returns
returns c =
    let D = document_of c.args.doc.now in
    let N = c.args.intent.now in
    let w = c.args.wants.now in
    let m = contains node_cmp c.args.mentioned.now in
    let ks = c.args.mentioned.now.keys in
    let nodes = c.in_ok-nodes.nodes in
    listing node_cmp node_cmp_exact (λ (r : RowMarks). r.node) (λ (n : NodeId). row_marks n (embed_row (part_in_row w m n) (content D n))) (λ n r e. row_named n (embed_row (part_in_row w m n) (content D n)) r e)
    nodes.keys c.in_ok-list.list (λ (n : NodeId). row_marks n (embed_row (row_part m N n) (content D n))) c.in_ok-list.ensures.ordered c.in_ok-list.ensures.rows
    (λ q there. ap (λ p. row_marks q (embed_row p (content D q))) (row_same N w c.requires.wants m q))
    (λ q e. no_row D c.requires.sound N m ks (λ k. refl) q (contains node_cmp nodes q)
    (c.in_ok-nodes.ensures q ∙ ap (λ ts. (list_any (λ (g : Group). same_node g.node q) N.groups || is_among ts q) || list_any (λ k. is_row_of q (D.place k)) ks) c.requires.targets) e)
