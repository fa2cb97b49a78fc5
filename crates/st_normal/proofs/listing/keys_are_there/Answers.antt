use Rattle.std.proofs.Common.{◌≢◌, []}
use Rattle.st_ids.specs.declared.names.FieldId.{FieldId}
use Rattle.st_normal.proofs.Tells.{all_map}
use Rattle.st_normal.proofs.listing.keys_are_there.Goals as goal

pub returns : goal.returns
returns g c =
    let m = all_map g.G.Register.field (λ (f : FieldId). f.key.0 ≢ []) c.args.regs.now in
    (λ t. m.0 (c.each_of.ensures.0 t), λ a. c.each_of.ensures.1 (m.1 a))
