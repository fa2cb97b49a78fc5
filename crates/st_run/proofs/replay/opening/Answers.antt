use Rattle.std.proofs.Common.{◌∙◌, ap}
use Rattle.st_tree.specs.Node.{view}
use Rattle.st_tree.specs.Preorder.{opening_listed}
use Rattle.st_opening.specs.Start.{start_of}
use Rattle.st_world_laws.proofs.Begun.{opens_formed}
use Rattle.st_run.proofs.replay.opening.Goals as goal

pub start-requires-clause-form : goal.start-requires-clause-form
start-requires-clause-form c = opens_formed c.args.header.now.schema (view c.args.header.now.tree) c.requires.tree

pub returns : goal.returns
returns c = c.in_ok-doc.ensures.document ∙ ap (start_of (opening_listed (view c.args.header.now.tree))) c.in_ok-schema.ensures.text
