use Rattle.st_passing_laws.proofs.MentionedLeft.{read_leaves_mentioned, read_schemas_stay}
use Rattle.st_passing_laws.proofs.laws.passing_steps_leave_mentioned.Goals as goal

pub returns-clause-nodes : goal.returns-clause-nodes
returns-clause-nodes w = read_leaves_mentioned

pub returns-clause-schemas : goal.returns-clause-schemas
returns-clause-schemas w = read_schemas_stay
