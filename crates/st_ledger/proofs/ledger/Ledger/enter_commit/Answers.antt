use Rattle.std.proofs.Common.{◌+◌, ◌∙◌, ℕ, Err, Some, ap, cond, refl}
use Rattle.std.specs.BTreeMap.{get}
use Rattle.st_ids.specs.Order.{rev_cmp, same_rev}
use Rattle.st_ids.specs.declared.names.Rev.{Rev}
use Rattle.st_ledger.proofs.CarriedIds.{range_refused}
use Rattle.st_ledger.proofs.JoinsEntered.{refused_along}
use Rattle.st_ledger.proofs.MoreEntries.{committed}
use Rattle.st_ledger.proofs.ledger.Ledger.enter_commit.Goals as goal

pub returns-in_ok-note_revision-in-Ok-clause-ok : goal.returns-in_ok-note_revision-in-Ok-clause-ok
returns-in_ok-note_revision-in-Ok-clause-ok c = λ log N stands on is made.
    committed c.args.self.now _ c.args.session c.args.reference c.args.ids N log stands on refl c.in-Ok.ensures.ok refl
    (ap (λ (n : ℕ). c.args.self.now.names + n) made)
    (λ r. c.in_ok-note_revision-in-Ok.ensures r ∙ ap (λ (q : Rev). cond (same_rev q r) (Some (c.args.self.now.entries + 1)) (get rev_cmp c.args.self.now.revisions r)) is)
    c.in_ok-note_reference-in-Ok.ensures

pub returns-in-Err-clause-refused : goal.returns-in-Err-clause-refused
returns-in-Err-clause-refused c =
    refused_along {T = Unit {0}} (Err c.in-Err.why) _ _ (λ f h log stands on. range_refused c.args.self.now c.args.session c.args.ids f log stands on h) c.in-Err.ensures.refused
