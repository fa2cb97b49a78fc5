use Rattle.std.proofs.Common.{◌-◌, ◌∙◌, refl, sym}
use Rattle.st_entry_texts.proofs.Telling.{known_told, on_ok, read_on, unknown}
use Rattle.st_entry_texts.proofs.entry.push_by.Goals as goal

pub push_known-requires-clause-numbered : goal.push_known-requires-clause-numbered
push_known-requires-clause-numbered c = c.requires.may.1.is.numbers

pub push_anew-requires-clause-may : goal.push_anew-requires-clause-may
push_anew-requires-clause-may c = (c.requires.may.0, unknown c.requires.may.0 c.args.log.now (c.args.head.n - 1) c.args.head.session c.args.reference c.args.intent.now _ c.args.author.now c.requires.may.1)

pub returns-in-Some-clause-told : goal.returns-in-Some-clause-told
returns-in-Some-clause-told c =
    on_ok c.push_known.result
    (λ told O may.
    known_told O c.args.log.now (c.args.head.n - 1) c.args.head.session c.args.reference c.args.head.n c.args.head.min c.args.ids c.args.intent.now c.in-Some.change c.args.out.now c.push_known.new.out c.requires.before
    (may.told c.in-Some.change (sym c.take.ensures.told ∙ c.in-Some.is)) told) c.push_known.ensures.told

pub returns-in-Some-clause-is : goal.returns-in-Some-clause-is
returns-in-Some-clause-is c = on_ok c.push_known.result (λ numbers O is. read_on O c.args.log.now c.args.head.session c.args.reference c.args.author.now _ refl numbers is) c.push_known.ensures.numbers

pub returns-in-None-clause-told : goal.returns-in-None-clause-told
returns-in-None-clause-told c = on_ok c.push_anew.result (λ told O may. told O may.is) c.push_anew.ensures.told
