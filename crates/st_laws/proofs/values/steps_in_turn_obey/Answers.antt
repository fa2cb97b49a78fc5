use Rattle.st_marks.proofs.Turns.{extends_on}
use Rattle.st_laws.proofs.values.steps_in_turn_obey.Goals as goal

pub returns : goal.returns
returns c = λ S T U s t g over.
    let d = c.stand_in_turn.ensures S T s t g in
    c.normal_steps_obey.ensures U (d.0, d.2, extends_on d.0 d.1 d.2 d.3 d.4, over d.0 d.1 d.2 d.3 d.4 d.5 d.6)
