use Rattle.std.proofs.Common.{◌≡◌, ◌↔◌, ◌-◌, true, false, sym, ap, ◌∙◌, subst, length, Some}
use Rattle.std.specs.List.{list_any, slice_get}
use Rattle.std.specs.Option.{option_map_or}
use Rattle.st_ids.specs.Listing.{Has}
use Rattle.st_ids.specs.Order.{same_rev}
use Rattle.st_marks.specs.declared.schemas.SchemaEntry.{SchemaEntry}
use Rattle.st_marks.specs.Document.{revs, last_of}
use Rattle.st_marks.specs.Verdict.{HasBase}
use Rattle.st_doc.proofs.Verdicts.{among_revs, last_rev}
use Rattle.st_embed.proofs.change.has_base.Goals as goal

pub returns-in-None : goal.returns-in-None
returns-in-None c =
    let entries = c.args.doc.now.schemas in
    let under = c.args.intent.now.under in
    subst (λ s. (c.has_rev.result ≡ true) ↔ HasBase entries s under) (sym c.in-None.is)
    (subst (λ b. (b ≡ true) ↔ Has (revs entries) under) (sym (c.has_rev.ensures ∙ ap (list_any (λ (e : SchemaEntry). same_rev e.rev under)) c.schemas.ensures)) (among_revs entries under))

pub returns-in-Some : goal.returns-in-Some
returns-in-Some c =
    let entries = c.args.doc.now.schemas in
    let under = c.args.intent.now.under in
    subst (λ s. (c.is_last_rev.result ≡ true) ↔ HasBase entries s under) (sym c.in-Some.is)
    (subst (λ b. (b ≡ true) ↔ (last_of (revs entries) ≡ Some under))
    (sym (c.is_last_rev.ensures ∙ ap (λ es. option_map_or (λ (e : SchemaEntry). same_rev e.rev under) (slice_get es (length es - 1)) false) c.schemas-in-Some.ensures)) (last_rev entries under))
