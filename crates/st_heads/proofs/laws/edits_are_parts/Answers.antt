use Rattle.std.proofs.Common.{Some}
use Rattle.st_heads.proofs.Editing.{can_follow}
use Rattle.st_heads.proofs.laws.edits_are_parts.Goals as goal

pub returns : goal.returns
returns c = λ D J M sound so part after. can_follow D M sound part.no_schema (Some J) so part.fits after
