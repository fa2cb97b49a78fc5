use Rattle.st_schema_laws.proofs.Upgraded.{upgrade_seen, upgrade_verdict}
use Rattle.st_schema_laws.proofs.upgrade_laws.upgrades_are_seen.Goals as goal

pub returns : goal.returns
returns c = record { verdict = upgrade_verdict; tree = upgrade_seen }
