use Rattle.std.proofs.Common.{◌≡◌, refl}
use Rattle.std.specs.BTreeSet.{contains}
use Rattle.st_ids.specs.Order.{node_cmp}
use Rattle.st_lemmas.proofs.Options.{IfOk-along}
use Rattle.st_marks.specs.declared.steps.Step.{Step}
use Rattle.st_marks.specs.Step.{IsStep}
use Rattle.st_mention_laws.specs.Shown.{ShowsStep, thin_step}
use Rattle.st_trim.specs.inside.Cut.{IsCutTo}
use Rattle.st_trim.proofs.CutItems.{cut_trims}
use Rattle.st_trim.proofs.ThinListings.{trimmed_shows, trimmed_thin}
use Rattle.st_trim.proofs.TrimmedSteps.{listing_trimmed}
use Rattle.st_trim.proofs.trimming.trim_named.Goals as goal

pub returns-clause-exact : goal.returns-clause-exact
returns-clause-exact c = λ D E K x l.
    let k = contains node_cmp c.in_ok-named.named in
    IfOk-along c.cut.result (IsCutTo k c.args.listing) (IsStep D E)
    (λ T cut. listing_trimmed D E K k c.args.listing T l (c.in_ok-named.ensures D E K c.args.listing x l refl) (cut_trims D E K k c.args.listing T x l cut)) c.cut.ensures

pub returns-clause-shown : goal.returns-clause-shown
returns-clause-shown c = λ D E K G x l e.
    let k = contains node_cmp c.in_ok-named.named in
    IfOk-along c.cut.result (IsCutTo k c.args.listing) (ShowsStep D E)
    (λ T cut. trimmed_shows D E K k G x l c.args.listing T e cut (c.in_ok-named.ensures D E K G x l e)) c.cut.ensures

pub returns-clause-thin : goal.returns-clause-thin
returns-clause-thin c = λ D E K G x l e h.
    let k = contains node_cmp c.in_ok-named.named in
    IfOk-along c.cut.result (IsCutTo k c.args.listing) (λ (T : Step). thin_step T ≡ T)
    (λ T cut. trimmed_thin D E K k G x l c.args.listing T e cut h) c.cut.ensures
