use Rattle.serde_json.specs.View.{members_view}
use Rattle.st_schema.specs.Reading.{fields_of_members}
use Rattle.st_schema.proofs.Steps.{fields_next}
use Rattle.st_schema.proofs.read.fields_in.Goals as goal

pub loop-key-preserved : goal.loop-key-preserved
loop-key-preserved c = record {
  can = tt;
  finite = tt;
  read = fields_next c.loop-key.fields c.push.new.self c.loop-key.key-iterator c.next.new.self c.in-Some.key.now c.as_str.result.now c.in-Some.value.now c.in_ok-field.field-0
      (fields_of_members (members_view c.args.members.now.entries))
      c.in-Some.ensures.steps c.as_str.ensures.value c.in_ok-field.ensures.ok c.in_ok-push.ensures.ok c.loop-key.invariant.read;
}
