use Rattle.std.specs.Prelude.{◌<◌, ◌^◌}
use Rattle.st_within_laws.proofs.Revisions.{document_in_revisions, intent_in_revision}
use Rattle.st_within_laws.proofs.laws.intents_are_within_their_revision.Goals as goal

pub returns : goal.returns
returns g c = record {
  intent = λ k N wide w r i. intent_in_revision (g.K.NameKind.revs k) (λ a. a.at < 2 ^ 32) (g.K.NameKind.atoms k) wide N w r i;
  document = λ k rs D wide h m d. document_in_revisions (g.K.NameKind.revs k) (λ a. a.at < 2 ^ 32) (g.K.NameKind.atoms k) wide rs D h m d;
}
