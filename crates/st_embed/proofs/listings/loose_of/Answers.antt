use Rattle.std.proofs.Common.{◌&&◌, not, cond, ap, Some, None}
use Rattle.std.specs.BTreeSet.{contains}
use Rattle.st_ids.specs.Order.{node_cmp, same_node}
use Rattle.st_ids.specs.Root.{root}
use Rattle.st_ids.proofs.Orders.{node_cmp_exact}
use Rattle.st_marks.specs.declared.intents.To.{To}
use Rattle.st_marks.specs.declared.marks.Loose.{Loose}
use Rattle.st_marks.specs.Embedding.{embed_loose, is_nowhere}
use Rattle.st_marks.specs.Intent.{put_of}
use Rattle.st_marks.specs.Row.{how}
use Rattle.st_doc.specs.Doc.{document_of}
use Rattle.st_embed.specs.inside.Wants.{loose_in}
use Rattle.st_embed.proofs.Listing.{listing}
use Rattle.st_embed.proofs.Wanting.{loose_named, loose_same}
use Rattle.st_embed.proofs.listings.loose_of.Goals as goal

pub returns : goal.returns
returns c =
    let D = document_of c.args.doc.now in
    let N = c.args.intent.now in
    let w = c.args.wants.now in
    let m = contains node_cmp c.args.mentioned.now in
    listing node_cmp node_cmp_exact (λ (l : Loose). l.node) (loose_in w m D) (loose_named w m D)
    c.args.mentioned.now.keys c.in_ok-list.list (embed_loose m D N) c.in_ok-list.ensures.ordered c.in_ok-list.ensures.loose
    (λ q there. loose_same N w c.requires m D q)
    (λ q e. ap (λ b. cond (b && is_nowhere (D.place q) && not (same_node q root)) (Some (record { node = q; how = how (put_of N q) To.Nowhere })) None) e)
