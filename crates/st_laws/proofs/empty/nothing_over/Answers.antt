use Rattle.std.proofs.Common.{◌≡◌, Err, not, true, refl, subst, sym, ap, ◌∙◌}
use Rattle.st_agree.specs.Apart.{TellsLeast}
use Rattle.st_agree.specs.declared.agreement.FieldApart.{FieldApart}
use Rattle.st_ids.specs.Or.{IfRefused}
use Rattle.st_laws.proofs.EmptyChanges.{empty_embeds, empty_fits, empty_intent, empty_short, still_in_effect}
use Rattle.st_laws.proofs.EmptyRules.{empty_has_room, empty_obeys_rules}
use Rattle.st_laws.proofs.Refusals.{least_same, memory_on, refused_same}
use Rattle.st_laws.specs.Empty.{empty_change}
use Rattle.st_laws.specs.declared.sides.ChangeSides.{ChangeSides}
use Rattle.st_marks.proofs.Unique.{one_embedding}
use Rattle.st_marks.specs.Agree.{Agrees, RebaseClash}
use Rattle.st_marks.specs.Embedding.{IsEmbedding}
use Rattle.st_marks.specs.declared.changes.Change.{Change}
use Rattle.st_moves.specs.Room.{HasRoomInRows}
use Rattle.st_normal.specs.Rules.{ObeysChangeRules}
use Rattle.st_revert.specs.Reversal.{takes_out}
use Rattle.st_laws.proofs.empty.nothing_over.Goals as goal

pub returns-in-Ok-clause-sides : goal.returns-in-Ok-clause-sides
returns-in-Ok-clause-sides c = λ D E x has s.
    let rev = c.args.rev in
    let under = c.args.under in
    let stays = empty_embeds rev under E (not (takes_out c.args.step.now.schema under)) (still_in_effect D.schemas E.schemas c.args.step.now.schema under x.before.in_effect s.schema has) in
    let over = c.in-Ok.ensures.later D E (empty_intent rev under) x (empty_fits rev under D) (empty_fits rev under E) (empty_short rev under E x.after)
    (subst (IsEmbedding D (empty_intent rev under)) (sym c.empty_change-right.ensures) (empty_embeds rev under D true ((λ t. has), (λ h. refl)))) s in (
      one_embedding E (empty_intent rev under) c.in-Ok.left (record (empty_change rev under) { base = not (takes_out c.args.step.now.schema under) }) over stays
          ∙ ap (λ (r : Change). record r { base = not (takes_out c.args.step.now.schema under) }) (sym c.empty_change-right.ensures),
      c.empty_change-right.ensures,
    )

pub returns-in-Ok-clause-apart : goal.returns-in-Ok-clause-apart
returns-in-Ok-clause-apart c = λ step.
    let rev = c.args.rev in
    let under = c.args.under in
    subst (λ (C : Change). Agrees (RebaseClash C c.args.step.now)) c.empty_change-right.ensures
    (c.in-Ok.ensures.apart
    (subst (λ (C : Change). HasRoomInRows C c.args.step.now) (sym c.empty_change-right.ensures) (empty_has_room rev under c.args.step.now step))
    (subst ObeysChangeRules (sym c.empty_change-right.ensures) (empty_obeys_rules rev under)) step)

pub returns-in-Err-clause-sides : goal.returns-in-Err-clause-sides
returns-in-Err-clause-sides c = λ D E x has s.
    let rev = c.args.rev in
    let under = c.args.under in
    memory_on Change ChangeSides FieldApart (IsEmbedding E (empty_intent rev under)) (λ t. (t.left ≡ record t.right { base = not (takes_out c.args.step.now.schema under) }) × (t.right ≡ empty_change rev under)) c.in-Err.why
    (c.in-Err.ensures.later D E (empty_intent rev under) x (empty_fits rev under D) (empty_fits rev under E) (empty_short rev under E x.after)
    (subst (IsEmbedding D (empty_intent rev under)) (sym c.empty_change-right.ensures) (empty_embeds rev under D true ((λ t. has), (λ h. refl)))) s)

pub returns-in-Err-clause-named : goal.returns-in-Err-clause-named
returns-in-Err-clause-named c =
    refused_same Change ChangeSides FieldApart (λ a. RebaseClash (empty_change c.args.rev c.args.under) c.args.step.now a.field) c.in-Err.why
    (subst (λ (C : Change). IfRefused {T = Change} {F = FieldApart} (Err c.in-Err.why) (λ a. RebaseClash C c.args.step.now a.field)) c.empty_change-right.ensures c.in-Err.ensures.named)

pub returns-in-Err-clause-apart : goal.returns-in-Err-clause-apart
returns-in-Err-clause-apart c = λ step.
    let rev = c.args.rev in
    let under = c.args.under in
    least_same Change ChangeSides (RebaseClash (empty_change rev under) c.args.step.now) c.in-Err.why
    (subst (λ (C : Change). TellsLeast {T = Change} (Err c.in-Err.why) (RebaseClash C c.args.step.now)) c.empty_change-right.ensures
    (c.in-Err.ensures.apart
    (subst (λ (C : Change). HasRoomInRows C c.args.step.now) (sym c.empty_change-right.ensures) (empty_has_room rev under c.args.step.now step))
    (subst ObeysChangeRules (sym c.empty_change-right.ensures) (empty_obeys_rules rev under)) step))
