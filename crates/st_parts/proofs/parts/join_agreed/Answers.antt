use Rattle.std.proofs.Common.{sym, subst}
use Rattle.st_join.proofs.JoinFits.{joins_fit}
use Rattle.st_marks.specs.Document.{HasShortRows}
use Rattle.st_marks.proofs.Full.{full_extends}
use Rattle.st_marks.proofs.Joined.{joined_in_turn}
use Rattle.st_parts.specs.JoinedParts.{named_by_parts}
use Rattle.st_parts.proofs.parts.join_agreed.Goals as goal

pub returns-clause-exact : goal.returns-clause-exact
returns-clause-exact c = λ D N M J x p alone j short long d e.
    let ext = full_extends D N x p.first_fits short (λ n put ring. alone n (put, ring)) in
    c.trim_if_short.ensures.exact D J (named_by_parts D d.mentioned e.mentioned) x (joins_fit D N M J x p j) (subst HasShortRows (sym (joined_in_turn D N M J x p j)) long)
    (c.in_ok-listing.ensures.exact D N M J ext p j d e)

pub returns-clause-shown : goal.returns-clause-shown
returns-clause-shown c = λ D N M J x p alone j short long d e.
    let ext = full_extends D N x p.first_fits short (λ n put ring. alone n (put, ring)) in
    let l = c.in_ok-listing.ensures.shown D N M J ext p j d e in
    c.trim_if_short.ensures.shown D J (named_by_parts D d.1.mentioned e.1.mentioned) l.0 x (joins_fit D N M J x p j) (subst HasShortRows (sym (joined_in_turn D N M J x p j)) long) l.1 l.2
