use Rattle.st_doc.specs.LiveText.{is_among}
use Rattle.st_export.specs.inside.Beneath.{beneath}
use Rattle.st_export.proofs.Made.{folded}
use Rattle.st_export.proofs.values.fold.Goals as goal

pub returns-clause-shown : goal.returns-clause-shown
returns-clause-shown c = λ D rest stands known count shown.
    folded (is_among c.args.arrays.now) D rest (beneath (is_among c.args.arrays.now) c.args.forest.now c.args.visit.node) c.args.visit.node c.args.visit.others
    c.args.values.now.items c.split_off.new.self.items c.in_ok-beneath.beneath.items c.push.new.self.items c.in_ok-value.value count
    c.in_ok-beneath.ensures.items c.in_ok-beneath.ensures.tail c.in_ok-push.ensures.items (λ h. c.in_ok-value.ensures D stands known h) shown
