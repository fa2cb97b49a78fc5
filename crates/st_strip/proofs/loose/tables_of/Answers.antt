use Rattle.std.proofs.Common.{ap, ◌∙◌}
use Rattle.st_marks.specs.Embedding.{is_among}
use Rattle.st_puts.proofs.ThinMarks.{same_listed}
use Rattle.st_strip.proofs.ThinPlaces.{same_placed}
use Rattle.st_strip.proofs.loose.tables_of.Goals as goal

pub returns : goal.returns
returns c = λ D E S x s e.
    let T = c.args.step.now in
    record {
      listed_so = λ n. c.in_ok-listed.ensures n ∙ ap (λ l. is_among l n) (same_listed T S e);
      stood_so = λ n. c.in_ok-stood.ensures n ∙ ap (λ l. is_among l n) (same_placed T S e);
      spots_so = c.in_ok-spots.ensures.right D E x (S, s, e);
      all_spots = λ n h. c.in_ok-spots.ensures.listed D E x (S, s, e) n (ap (λ l. is_among l n) (same_listed T S e) ∙ h);
    }
