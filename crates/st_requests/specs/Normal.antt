-- Which requests have arguments in normal form.
use Rattle.st_normal_texts.specs.NormalTexts.{IsNormalStepText, IsNormalText}
use Rattle.st_requests.specs.declared.request.Request.{Request}
use Rattle.st_requests.specs.declared.request.Request.TheVariants.{Compose, Join, Invert, Rebase, Bridge, Effect, Revert}

abbrev pub IsNormal : Request → Type 0
IsNormal (Compose first last) = IsNormalStepText first × IsNormalStepText last
IsNormal (Join first last) = IsNormalText first × IsNormalText last
IsNormal (Invert step) = IsNormalStepText step
IsNormal (Rebase change over) = IsNormalText change × IsNormalStepText over
IsNormal (Bridge change step) = IsNormalText change × IsNormalStepText step
IsNormal (Effect change) = IsNormalText change
IsNormal (Revert step rev under) = IsNormalStepText step
