use Rattle.std.proofs.Common.{◌++◌, ◌∙◌, ap, sym}
use Rattle.std.specs.Option.{option_to_list}
use Rattle.st_marks.specs.declared.intents.Put.{Put}
use Rattle.st_marks.specs.Intent.{register_of}
use Rattle.st_heads.proofs.Listed.{picked_more}
use Rattle.st_heads.proofs.back.push_registers.Goals as goal

pub loop-put-preserved : goal.loop-put-preserved
loop-put-preserved c =
    let put = c.put-item.result in
    picked_more (λ (p : Put). register_of p.to) c.args.fields.now c.loop-put.fields c.push_field.new.fields c.args.puts.now c.loop-put.put-index put put
    c.loop-put-test.true (sym c.put-item.is) c.loop-put.invariant (c.in_ok-push_field.ensures ∙ ap (λ o. c.loop-put.fields ++ option_to_list o) c.register_of.ensures)
