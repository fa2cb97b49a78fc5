use Rattle.st_mention_laws.proofs.ThinForms.{shows_itself}
use Rattle.st_moves.proofs.marks.between_with.Goals as goal

pub returns : goal.returns
returns c = λ D E N x f g emb step puts right.
    let w = c.in_ok-named.ensures D E N x f g (shows_itself D N c.args.change.now emb) right in
    (w, c.in_ok-change.ensures D E N x f g emb step puts right w)
