use Rattle.std.proofs.Common.{◌≡◌, ◌∙◌, List, Option}
use Rattle.std.specs.List.{flat_map}
use Rattle.st_doc.specs.Doc.{document_of}
use Rattle.st_ids.specs.declared.names.CellId.{CellId}
use Rattle.st_ids.specs.declared.names.NodeId.{NodeId}
use Rattle.st_lemmas.proofs.Options.{IfOk-along}
use Rattle.st_marks.specs.declared.intents.Group.{Group}
use Rattle.st_meaning.specs.inside.Made.{cells_at, made_at, made_in_row}
use Rattle.st_meaning.proofs.groups.listed_groups.Goals as goal

pub returns-clause-found : goal.returns-clause-found
returns-clause-found c =
    IfOk-along c.listed.result (λ (gs : List Group). (n : NodeId) (a : Option CellId) → made_at gs n a ≡ cells_at c.in_ok-map.map n a)
    (λ (gs : List Group). (n : NodeId) (a : Option CellId) → made_at gs n a ≡ flat_map (made_in_row (document_of c.args.doc.now) n a) c.args.rows.now)
    (λ gs h n a. h n a ∙ c.in_ok-map.ensures n a) c.listed.ensures.found
