use Rattle.std.proofs.Common.{◌∙◌, ap}
use Rattle.std.specs.List.{filter_map}
use Rattle.st_doc.specs.Doc.{document_of}
use Rattle.st_heads.specs.inside.Between.{put_between}
use Rattle.st_heads.proofs.Differing.{between-leads_back}
use Rattle.st_heads.proofs.between.way_between.Goals as goal

pub returns : goal.returns
returns c = λ rev under. between-leads_back (document_of c.args.before.now) (document_of c.args.after.now) c.requires (record { clear = c.in_ok-clear.clear; put = c.in_ok-put.put }) c.in_ok-nodes.nodes
    c.in_ok-nodes.ensures.all c.in_ok-nodes.ensures.once
    (c.in_ok-put.ensures ∙ ap (filter_map (put_between (document_of c.args.before.now) (document_of c.args.after.now))) c.as_slice.ensures) c.in_ok-clear.ensures rev under
