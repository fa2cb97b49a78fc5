use Rattle.std.proofs.Common.{refl, sym}
use Rattle.std.specs.BTreeMap.{get}
use Rattle.st_ids.specs.Order.{node_cmp}
use Rattle.st_doc.specs.Doc.{document_of}
use Rattle.st_doc.proofs.Look.{added_more}
use Rattle.st_makers.specs.inside.Homes.{stands_in}
use Rattle.st_makers.proofs.opening.add_registers.Goals as goal

pub loop-field-preserved : goal.loop-field-preserved
loop-field-preserved c = λ n. added_more (stands_in (document_of c.args.doc.now) n) (get node_cmp c.args.homes.now n) (get node_cmp c.loop-field.homes n) (get node_cmp c.add_register.new.homes n)
    c.args.fields.now c.loop-field.field-index c.field-item.result c.field-item.result c.field-item.result c.loop-field-test.true (sym c.field-item.is) refl (c.loop-field.invariant n) (c.in_ok-add_register.ensures n)
