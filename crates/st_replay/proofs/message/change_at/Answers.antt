use Rattle.serde_json.specs.View.{view}
use Rattle.st_change_reader.specs.Reading.{change_of}
use Rattle.st_mark_reader.specs.OpSpace.{any_form, op_form}
use Rattle.st_replay.proofs.OpReadings.{read_ok, refused_not_normal, refused_shape, refused_unknown}
use Rattle.st_replay.proofs.message.change_at.Goals as goal

pub returns-in-Ok-clause-ok : goal.returns-in-Ok-clause-ok
returns-in-Ok-clause-ok c = read_ok (change_of any_form (view c.args.value.now)) (change_of (op_form c.args.at.now) (view c.args.value.now)) c.in-Ok.change c.in-Ok.ensures.ok

pub returns-in-Err-Fault-Unknown-clause-ok : goal.returns-in-Err-Fault-Unknown-clause-ok
returns-in-Err-Fault-Unknown-clause-ok c =
    let w = c.in-Err-Fault-Unknown in
    refused_unknown w.field-0 w.field-0-0 (change_of any_form (view c.args.value.now)) (change_of (op_form c.args.at.now) (view c.args.value.now)) w.field-0-is w.ensures.refused w.field-0-0-is

pub returns-in-Err-Fault-Shape-clause-shape : goal.returns-in-Err-Fault-Shape-clause-shape
returns-in-Err-Fault-Shape-clause-shape c =
    let w = c.in-Err-Fault-Shape in
    refused_shape w.field-0 w.field-0-0 (change_of any_form (view c.args.value.now)) (change_of (op_form c.args.at.now) (view c.args.value.now)) w.field-0-is w.ensures.refused w.field-0-0-is

pub returns-in-Err-Fault-NotNormal-clause-shape : goal.returns-in-Err-Fault-NotNormal-clause-shape
returns-in-Err-Fault-NotNormal-clause-shape c =
    let w = c.in-Err-Fault-NotNormal in
    refused_not_normal w.field-0 w.field-0-0 (change_of any_form (view c.args.value.now)) (change_of (op_form c.args.at.now) (view c.args.value.now)) w.field-0-is w.ensures.refused w.field-0-0-is
