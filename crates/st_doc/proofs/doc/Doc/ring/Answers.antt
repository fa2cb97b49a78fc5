use Rattle.std.proofs.Common.{◌≡◌, refl, sym, subst, map}
use Rattle.st_ids.specs.Listing.{Has}
use Rattle.st_marks.specs.declared.intents.Put.{Put}
use Rattle.st_marks.specs.Document.{above, Reaches}
use Rattle.st_marks.specs.CarryOut.{full}
use Rattle.st_marks.specs.Verdict.{IsAboveItself}
use Rattle.st_doc.specs.inside.Ahead.{above_ahead}
use Rattle.st_doc.specs.Doc.{document_of}
use Rattle.st_doc.proofs.Verdicts.{above_is, least_from, put_among}
use Rattle.st_doc.proofs.doc.Doc.ring.Goals as goal

pub returns : goal.returns
returns c =
    let D = document_of c.args.self.now in
    let N = c.args.intent.now in
    let targets = c.args.targets.now in
    let place = c.args.self.now.place in
    let up = above_ahead N targets place in
    let ups : up ≡ above (full D N) = λ i n. above_is D N targets place n (c.requires n) refl i in
    least_from (λ n. Has (map (λ (p : Put). p.node) N.put) n × Reaches up n n) (IsAboveItself D N) c.in_ok-least.least
    (λ n h. ((put_among N n).0 h.0, subst (λ u. Reaches u n n) ups h.1))
    (λ n h. ((put_among N n).1 h.0, subst (λ u. Reaches u n n) (sym ups) h.1))
    c.in_ok-least.ensures
