use Rattle.std.proofs.Common.{sym, ◌∙◌}
use Rattle.serde_json.specs.View.{view}
use Rattle.st_json.proofs.Keys.{keys_seen, object_only}
use Rattle.st_json.proofs.look.only.Goals as goal

pub returns-then-keys_listed : goal.returns-then-keys_listed
returns-then-keys_listed c = sym c.if-keys_listed.true ∙ c.keys_listed.ensures ∙ keys_seen c.args.names.now c.in-Some.members.now.entries ∙ object_only c.args.names.now (view c.args.value.now) _ c.in-Some.ensures

pub returns-else-keys_listed : goal.returns-else-keys_listed
returns-else-keys_listed c = sym c.if-keys_listed.false ∙ c.keys_listed.ensures ∙ keys_seen c.args.names.now c.in-Some.members.now.entries ∙ object_only c.args.names.now (view c.args.value.now) _ c.in-Some.ensures
