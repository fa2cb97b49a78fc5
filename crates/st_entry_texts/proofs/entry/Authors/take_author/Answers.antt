use Rattle.std.proofs.Common.{refl}
use Rattle.st_entry_texts.proofs.Telling.{one_kept, without_one}
use Rattle.st_entry_texts.proofs.entry.Authors.take_author.Goals as goal

pub returns-clause-is : goal.returns-clause-is
returns-clause-is c = λ log authors. c.in_ok-author.ensures.is log c.args.session (one_kept log c.args.self.now c.args.session _ c.remove-kept.ensures.value authors)

pub returns-clause-rest : goal.returns-clause-rest
returns-clause-rest c = λ log authors. without_one log c.args.self.now _ c.args.session refl c.remove-kept.ensures.updates.0 authors
