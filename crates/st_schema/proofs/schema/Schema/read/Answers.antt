use Rattle.serde_json.specs.View.{view}
use Rattle.st_schema.proofs.Forms.{refused_unsound}
use Rattle.st_schema.proofs.schema.Schema.read.Goals as goal

pub returns-clause-bad : goal.returns-clause-bad
returns-clause-bad c = refused_unsound c.of_parts.result (view c.args.value.now) (record { root = c.in_ok-root.root; types = c.in_ok-root.definitions }) c.in_ok-root.ensures.ok c.of_parts.ensures.bad
