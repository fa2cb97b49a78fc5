use Rattle.st_conform_laws.proofs.TestsAsTold.{keeps_as_told}
use Rattle.st_conform_laws.proofs.laws.tests_are_as_told.Goals as goal

pub returns : goal.returns
returns c = λ T O D Ls As N U front made one part new fit ran fits told begins line homes views v up_to given. keeps_as_told T O D Ls As N made one part new fit ran fits told begins line homes views U front v up_to given
