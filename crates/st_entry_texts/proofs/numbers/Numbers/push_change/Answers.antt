use Rattle.st_entry_texts.proofs.Telling.{told_as}
use Rattle.st_entry_texts.proofs.numbers.Numbers.push_change.Goals as goal

pub returns : goal.returns
returns c = λ log reference h. told_as log reference c.args.session c.args.ids c.args.self.now _ _ c.args.change.now c.args.out.now c.push_change.new.out h c.new-later.ensures c.generated_with.ensures c.in_ok-push_change.ensures
