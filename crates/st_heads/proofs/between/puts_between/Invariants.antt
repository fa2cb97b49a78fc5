use Rattle.std.proofs.Common.{◌≡◌, take}
use Rattle.std.specs.List.{filter_map}
use Rattle.st_doc.specs.Doc.{document_of}
use Rattle.st_heads.specs.inside.Between.{put_between}
use Rattle.st_heads.proofs.between.puts_between.Given as goal

abbrev pub invariant-loop-node : goal.invariant-loop-node
invariant-loop-node l = l.puts ≡ filter_map (put_between (document_of l.before) (document_of l.after)) (take l.node-index l.nodes)
