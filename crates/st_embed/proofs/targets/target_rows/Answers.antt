use Rattle.std.proofs.Common.{◌∙◌, sym, ap}
use Rattle.std.specs.BTreeSet.{contains}
use Rattle.std.specs.List.{list_any}
use Rattle.st_ids.specs.Order.{cell_cmp}
use Rattle.st_marks.specs.declared.intents.Put.{Put}
use Rattle.st_doc.specs.Doc.{document_of}
use Rattle.st_embed.specs.inside.Rows.{leads_to_old}
use Rattle.st_embed.proofs.Naming.{no_targets}
use Rattle.st_embed.proofs.targets.target_rows.Goals as goal

pub returns : goal.returns
returns c =
    let made = contains cell_cmp c.in_ok-made.made in
    c.new.ensures ∙ no_targets (document_of c.args.doc.now) c.args.intent.now c.requires.fits made c.in_ok-made.ensures
    (ap (list_any (λ (p : Put). leads_to_old made p.to)) (sym c.as_slice.ensures) ∙ sym c.if-any_leads_to_old.ensures)
