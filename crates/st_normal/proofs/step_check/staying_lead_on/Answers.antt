use Rattle.std.proofs.Common.{◌↔◌, IsTrue, List, subst}
use Rattle.std.specs.List.{AllByRecursion}
use Rattle.st_normal.specs.declared.entries.Found.{Found}
use Rattle.st_normal.specs.Rules.{HasListedField, entries_of_step}
use Rattle.st_marks.specs.How.{is_stay}
use Rattle.st_normal.proofs.Tells.{all_staying}
use Rattle.st_normal.proofs.step_check.staying_lead_on.Goals as goal

pub returns : goal.returns
returns c =
    let L = entries_of_step c.args.look.now.lists.0.now in
    let e = subst (λ (fs : List Found). IsTrue c.each.result ↔ AllByRecursion (λ (f : Found). IsTrue (is_stay f.how) → HasListedField L f.node) fs) c.finds.ensures c.each.ensures in
    let m = all_staying (HasListedField L) L.found in
    (λ t. m.0 (e.0 t), λ h. e.1 (m.1 h))
