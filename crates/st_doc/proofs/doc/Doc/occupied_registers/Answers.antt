use Rattle.std.proofs.Common.{sym, ap, subst}
use Rattle.std.specs.Map.{keys_of}
use Rattle.st_ids.specs.Listing.{Has}
use Rattle.st_doc.proofs.Keys.{fields-found, key_more}
use Rattle.st_doc.proofs.Look.{copied_all}
use Rattle.st_doc.proofs.doc.Doc.occupied_registers.Goals as goal

pub loop-field-preserved : goal.loop-field-preserved
loop-field-preserved c =
    key_more c.loop-field.fields c.push_field.new.fields c.loop-field.field-iterator c.next.new.self (keys_of c.args.self.now.held.entries) c.in-Some.field.now c.in-Some.field-0-1.now c.in-Some.ensures.steps c.in_ok-push_field.ensures c.loop-field.invariant

pub returns : goal.returns
returns c = λ f. (
    let es = c.args.self.now.held.entries in
    let whole = copied_all c.loop-field.fields (keys_of c.loop-field.field-iterator) (keys_of es) (ap keys_of c.in-None.ensures.steps.0) c.loop-field.invariant in
    let known = fields-found es f in
    (λ h. known.0 (subst (λ fs. Has fs f) whole h), λ s. subst (λ fs. Has fs f) (sym whole) (known.1 s)))
