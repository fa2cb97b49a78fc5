use Rattle.std.proofs.Common.{◌≡◌}
use Rattle.std.specs.BTreeSet.{contains}
use Rattle.st_ids.specs.Order.{node_cmp}
use Rattle.st_lemmas.proofs.Options.{IfOk-along}
use Rattle.st_marks.specs.declared.steps.Step.{Step}
use Rattle.st_marks.specs.Step.{IsStep}
use Rattle.st_mention_laws.specs.Shown.{ShowsStep, thin_step}
use Rattle.st_trim.specs.inside.Cut.{IsCutTo}
use Rattle.st_trim.proofs.ChangesAlone.{cut_alike}
use Rattle.st_trim.proofs.CutItems.{cut_trims}
use Rattle.st_trim.proofs.SomeMentioned.{some_mentioned}
use Rattle.st_trim.proofs.ThinListings.{trimmed_shows, trimmed_thin}
use Rattle.st_trim.proofs.TrimmedSteps.{listing_trimmed}
use Rattle.st_trim.proofs.trimming.trim_changes.Goals as goal

pub returns-clause-exact : goal.returns-clause-exact
returns-clause-exact c = λ D E K x l.
    let m = some_mentioned D E K c.args.listing x l in
    IfOk-along c.cut.result (IsCutTo (contains node_cmp c.new-nobody.result) c.args.listing) (IsStep D E)
    (λ T cut. listing_trimmed D E K m.0 c.args.listing T l m.1 (cut_trims D E K m.0 c.args.listing T x l (cut_alike (contains node_cmp c.new-nobody.result) m.0 c.args.listing T c.requires cut))) c.cut.ensures

pub returns-clause-shown : goal.returns-clause-shown
returns-clause-shown c = λ D E K G x l e.
    let m = some_mentioned D E K G x l in
    IfOk-along c.cut.result (IsCutTo (contains node_cmp c.new-nobody.result) c.args.listing) (ShowsStep D E)
    (λ T cut. trimmed_shows D E K m.0 G x l c.args.listing T e (cut_alike (contains node_cmp c.new-nobody.result) m.0 c.args.listing T c.requires cut) m.1) c.cut.ensures

pub returns-clause-thin : goal.returns-clause-thin
returns-clause-thin c = λ D E K G x l e h.
    let m = some_mentioned D E K G x l in
    IfOk-along c.cut.result (IsCutTo (contains node_cmp c.new-nobody.result) c.args.listing) (λ (T : Step). thin_step T ≡ T)
    (λ T cut. trimmed_thin D E K m.0 G x l c.args.listing T e (cut_alike (contains node_cmp c.new-nobody.result) m.0 c.args.listing T c.requires cut) h) c.cut.ensures
