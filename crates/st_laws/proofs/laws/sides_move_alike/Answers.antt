use Rattle.st_laws.proofs.SidesAlike.{sides_make_cells, sides_move}
use Rattle.st_laws.proofs.laws.sides_move_alike.Goals as goal

pub returns-clause-takes : goal.returns-clause-takes
returns-clause-takes c = λ a b d s n p u v w is. (sides_move (λ S T U x y h. let o = c.stand_in_turn.ensures S T x y h.agree in
    record { before = o.0; between = o.1; after = o.2; first_extends = o.3; then_extends = o.4; first = o.5; next = o.6; both = h.leads o.0 o.1 o.2 o.3 o.4 o.5 o.6 })
    a b d s u v w is n p).0

pub returns-clause-puts : goal.returns-clause-puts
returns-clause-puts c = λ a b d s n p u v w is. (sides_move (λ S T U x y h. let o = c.stand_in_turn.ensures S T x y h.agree in
    record { before = o.0; between = o.1; after = o.2; first_extends = o.3; then_extends = o.4; first = o.5; next = o.6; both = h.leads o.0 o.1 o.2 o.3 o.4 o.5 o.6 })
    a b d s u v w is n p).1

pub returns-clause-cells : goal.returns-clause-cells
returns-clause-cells c = λ a b d s n k u v w is. sides_make_cells (λ S T U x y h. let o = c.stand_in_turn.ensures S T x y h.agree in
    record { before = o.0; between = o.1; after = o.2; first_extends = o.3; then_extends = o.4; first = o.5; next = o.6; both = h.leads o.0 o.1 o.2 o.3 o.4 o.5 o.6 })
    a b d s u v w is n k
