use Rattle.std.proofs.Common.{◌++◌, ◌∙◌, ap, map}
use Rattle.st_ids.specs.declared.names.FieldId.{FieldId}
use Rattle.st_marks.specs.declared.intents.Group.{Group}
use Rattle.st_marks.specs.declared.intents.Put.{Put}
use Rattle.st_embed.proofs.Naming.{five}
use Rattle.st_embed.proofs.named.push_named.Goals as goal

pub returns : goal.returns
returns c =
    let N = c.args.intent.now in
    five c.args.names.now c.push_put.new.names c.push_all.new.names c.push_grouped.new.names c.push_all-2.new.names c.push_cleared.new.names
    (map (λ (p : Put). p.node) N.put) N.need (map (λ (g : Group). g.node) N.groups) c.args.targets.now (map (λ (f : FieldId). f.node) N.clear)
    (c.in_ok-push_put.ensures ∙ ap (λ l. c.args.names.now ++ map (λ (p : Put). p.node) l) c.as_slice.ensures)
    (c.in_ok-push_all.ensures ∙ ap (λ l. c.push_put.new.names ++ l) c.as_slice-2.ensures)
    (c.in_ok-push_grouped.ensures ∙ ap (λ l. c.push_all.new.names ++ map (λ (g : Group). g.node) l) c.as_slice-3.ensures)
    c.in_ok-push_all-2.ensures
    (c.in_ok-push_cleared.ensures ∙ ap (λ l. c.push_all-2.new.names ++ map (λ (f : FieldId). f.node) l) c.as_slice-4.ensures)
