use Rattle.st_marks.proofs.Unique.{one_step}
use Rattle.st_laws.proofs.values.values_are_one.Goals as goal

pub returns-clause-composed : goal.returns-clause-composed
returns-clause-composed c = λ S T U V s t h k.
    let d = c.stand_in_turn.ensures S T s t h.agree in
    one_step d.0 d.2 U V d.4.after (h.leads d.0 d.1 d.2 d.3 d.4 d.5 d.6) (k.leads d.0 d.1 d.2 d.3 d.4 d.5 d.6)

pub returns-clause-rebased : goal.returns-clause-rebased
returns-clause-rebased c = λ C K M S v w h k.
    c.one_answer_beside.ensures.rebased C K M S v w h.agree (λ D E N x f g e s. (h.after D E N x f g e s, k.after D E N x f g e s))

pub returns-clause-bridged : goal.returns-clause-bridged
returns-clause-bridged c = λ C S T U v w h k.
    c.one_answer_beside.ensures.bridged C S T U v w h.agree h.room
    (λ D E N a b x f g short later e s i j. (h.leads D E N a b x f g short later e s i j, k.leads D E N a b x f g short later e s i j))

pub returns-clause-joined : goal.returns-clause-joined
returns-clause-joined c = λ C K X Y v w h k.
    c.one_change_of_parts.ensures C K X Y v w h.agree
    (λ D N M J x parts ring is short both e f. (h.both D N M J x parts ring is short both e f, k.both D N M J x parts ring is short both e f))
