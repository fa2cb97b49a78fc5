use Rattle.std.proofs.Common.{◌∙◌, ap, Err, inl, inr, not, refl, sym}
use Rattle.std.proofs.lemmas.Bool.{cases_Bool}
use Rattle.st_ledger.proofs.JoinsEntered.{came_back, joined_first, refusal_told, refused_along}
use Rattle.st_ledger.proofs.ledger.Ledger.enter_join.Goals as goal

pub returns-in_ok-push-in-Ok-clause-ok : goal.returns-in_ok-push-in-Ok-clause-ok
returns-in_ok-push-in-Ok-clause-ok c = λ log stands may. elim (cases_Bool c.has_joined-new.result) [
  | inl is ↦ came_back c.args.self.now _ c.args.session c.args.uuid log stands may (sym (c.has_joined-new.ensures log stands) ∙ is) (c.in-Ok.ensures.stays (ap not is))
      refl c.in_ok-push-in-Ok.ensures.ok refl refl c.in_ok-note_reference-in-Ok.ensures
  | inr isnt ↦ joined_first c.args.self.now _ c.args.session c.args.uuid _ log stands may (sym (c.has_joined-new.ensures log stands) ∙ isnt) (c.in-Ok.ensures.joins (ap not isnt))
      refl c.in_ok-push-in-Ok.ensures.ok refl refl c.in_ok-note_reference-in-Ok.ensures
]

pub returns-in-Err-clause-refused : goal.returns-in-Err-clause-refused
returns-in-Err-clause-refused c =
    refused_along {T = Unit {0}} (Err c.in-Err.why) _ _ (λ f h. refusal_told c.args.self.now c.args.session c.args.uuid c.has_joined-new.result f c.has_joined-new.ensures h) c.in-Err.ensures.refused
