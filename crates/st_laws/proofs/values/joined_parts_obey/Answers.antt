use Rattle.std.proofs.Common.{subst, sym}
use Rattle.st_join.proofs.JoinFits.{joins_fit}
use Rattle.st_marks.proofs.Joined.{joined_in_turn}
use Rattle.st_marks.specs.Document.{HasShortRows}
use Rattle.st_part_pair_laws.specs.Parts.{StandAsParts}
use Rattle.st_laws.proofs.values.joined_parts_obey.Goals as goal

pub returns : goal.returns
returns c = λ C K X v w g over.
    let d : StandAsParts C K = c.parts_stand.ensures C K v w g in
    c.embeddings_obey_rules.ensures.rules d.0 d.3 X d.4 (joins_fit d.0 d.1 d.2 d.3 d.4 d.5 d.7)
    (subst HasShortRows (sym (joined_in_turn d.0 d.1 d.2 d.3 d.4 d.5 d.7)) d.9)
    (over d.0 d.1 d.2 d.3 d.4 d.5 d.6 d.7 d.8 d.9 d.10 d.11)
