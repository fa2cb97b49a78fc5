use Rattle.std.specs.BTreeSet.{contains}
use Rattle.st_ids.specs.Order.{node_cmp}
use Rattle.st_lemmas.proofs.Options.{IfOk-along}
use Rattle.st_marks.specs.Embedding.{IsEmbedding}
use Rattle.st_mention_laws.specs.Shown.{Shows}
use Rattle.st_parts.proofs.TrimmedChanges.{trimmed_change}
use Rattle.st_parts.specs.inside.Cut.{IsCutTo}
use Rattle.st_parts.proofs.CutChanges.{cut_trims}
use Rattle.st_parts.proofs.ThinListings.{trimmed_shows}
use Rattle.st_parts.proofs.trimming.trim_change.Goals as goal

pub returns-clause-exact : goal.returns-clause-exact
returns-clause-exact c = λ D N K x l which.
    let k = contains node_cmp c.args.named.now in
    IfOk-along c.cut.result (IsCutTo k c.args.listing) (IsEmbedding D N)
    (λ T cut. trimmed_change D N K k c.args.listing T x l which (cut_trims D N K k c.args.listing T l cut)) c.cut.ensures

pub returns-clause-shown : goal.returns-clause-shown
returns-clause-shown c = λ D N K G x l e which.
    let k = contains node_cmp c.args.named.now in
    IfOk-along c.cut.result (IsCutTo k c.args.listing) (Shows D N)
    (λ T cut. trimmed_shows D N K k G x l c.args.listing T e which cut) c.cut.ensures
