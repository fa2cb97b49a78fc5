use Rattle.st_laws.proofs.Makes.{made_in_turn, one_commit, parts_are_of_one, sides_are_of_one, sides_make}
use Rattle.st_laws.specs.inside.Together.{StandTogether}
use Rattle.st_part_pair_laws.specs.Parts.{StandAsParts}
use Rattle.st_laws.proofs.laws.sides_make_the_same.Goals as goal

pub returns-clause-associative : goal.returns-clause-associative
returns-clause-associative c = λ a b d s u v w is.
    sides_make (λ S T U t x h. let n = c.stand_in_turn.ensures S T t x h.agree in made_in_turn n.0 n.1 n.2 S T U n.3 n.4 n.5 n.6 (h.leads n.0 n.1 n.2 n.3 n.4 n.5 n.6))
    a b d s u v w is

pub returns-clause-over_parts : goal.returns-clause-over_parts
returns-clause-over_parts c = λ C a b s k u v is.
    sides_are_of_one (λ C K S x y h. let n : StandTogether C S = c.stand_together.ensures C S h.room x y h.agree in
    one_commit n.earlier n.later n.intent C K n.change (h.after n.earlier n.later n.intent n.extends n.fits n.fits_later n.change n.step))
    C a b s k u v is

pub returns-clause-parts_over : goal.returns-clause-parts_over
returns-clause-parts_over c = λ C K S s u v w is.
    parts_are_of_one (λ C K S x y h. let n : StandTogether C S = c.stand_together.ensures C S h.room x y h.agree in
    one_commit n.earlier n.later n.intent C K n.change (h.after n.earlier n.later n.intent n.extends n.fits n.fits_later n.change n.step))
    (λ C K X x y h. let d : StandAsParts C K = c.parts_stand.ensures C K x y h.agree in
    record { document = d.0; first = d.1; second = d.2; joint = d.3; parts = d.5; join = d.7; change = d.10; later = d.11; both = h.both d.0 d.1 d.2 d.3 d.4 d.5 d.6 d.7 d.8 d.9 d.10 d.11 })
    C K S s u v w is
