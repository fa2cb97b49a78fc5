use Rattle.std.proofs.Common.{ap, refl, sym, ◌∙◌, arith}
use Rattle.std.specs.Prelude.{option_map}
use Rattle.st_marks.specs.declared.places.Slot.{Slot}
use Rattle.st_cursor.proofs.Ways.{count_within, full_found, none_found}
use Rattle.st_cursor.proofs.finding.item_in.Goals as goal

pub returns-then-index-len-clause-item : goal.returns-then-index-len-clause-item
returns-then-index-len-clause-item c =
    let few = count_within c.args.row.now in
    sym (ap (option_map (λ (s : Slot). s.node)) (none_found c.args.row.now c.args.index (omega (arith, few, c.len.ensures.len, c.if-index-len.true))))

pub returns-in-Ok-clause-item : goal.returns-in-Ok-clause-item
returns-in-Ok-clause-item c = c.owner_at.ensures ∙ ap (option_map (λ (s : Slot). s.node)) (sym (full_found c.args.row.now c.args.index c.in-Ok.place c.in-Ok.ensures.ok))

pub returns-in-Err-clause-item : goal.returns-in-Err-clause-item
returns-in-Err-clause-item c = sym (ap (option_map (λ (s : Slot). s.node)) (none_found c.args.row.now c.args.index (c.in-Err.ensures.range.0 refl)))
