use Rattle.std.proofs.Common.{◌≡◌, ◌∙◌, List}
use Rattle.std.specs.BTreeMap.{get}
use Rattle.st_ids.specs.Order.{node_cmp}
use Rattle.st_ids.specs.declared.names.NodeId.{NodeId}
use Rattle.st_lemmas.proofs.Options.{IfOk-along}
use Rattle.st_marks.specs.declared.intents.Put.{Put}
use Rattle.st_marks.specs.Intent.{put_of}
use Rattle.st_meaning.specs.inside.Made.{put_by}
use Rattle.st_meaning.proofs.puts.listed_puts.Goals as goal

pub returns-clause-found : goal.returns-clause-found
returns-clause-found c = λ D N x f shows.
    IfOk-along c.listed.result (λ (ps : List Put). (n : NodeId) → put_by ps n ≡ get node_cmp c.in_ok-map.map n) (λ (ps : List Put). (n : NodeId) → put_by ps n ≡ put_of N n)
    (λ ps h n. h n ∙ c.in_ok-map.ensures D N x f shows n) c.listed.ensures.found
