use Rattle.std.proofs.Common.{◌⊎◌, ℕ, sym, ◌∙◌, subst}
use Rattle.st_marks.specs.Row.{spread}
use Rattle.st_marks.specs.Listings.{cells_after, cells_before}
use Rattle.st_seq.specs.NamedApart.{SaidApart, named_after, named_before}
use Rattle.st_seq.specs.inside.NamedApart.{IsPlace}
use Rattle.st_seq.specs.OwnedEarly.{OwnedEarly}
use Rattle.st_seq.proofs.NamedCells.{lesser_place}
use Rattle.st_seq.proofs.owners.agree_as_changes.Goals as goal

pub returns-in-None : goal.returns-in-None
returns-in-None c =
    let xs = spread c.args.first.now in
    let ys = spread c.args.then.now in
    let Sighting : ℕ → Type 0 = SaidApart (cells_after xs) (cells_before ys) (named_after 0 xs) (named_before 0 ys) in
    let Early : ℕ → Type 0 = OwnedEarly c.args.new.now xs ys in
    subst (IsPlace (λ k. Sighting k ⊎ Early k)) (sym c.lesser.ensures ∙ c.in-None.is) (lesser_place Sighting Early c.in_ok-said.said c.in_ok-early.early c.in_ok-said.ensures c.in_ok-early.ensures)

pub returns-in-Some : goal.returns-in-Some
returns-in-Some c =
    let xs = spread c.args.first.now in
    let ys = spread c.args.then.now in
    let Sighting : ℕ → Type 0 = SaidApart (cells_after xs) (cells_before ys) (named_after 0 xs) (named_before 0 ys) in
    let Early : ℕ → Type 0 = OwnedEarly c.args.new.now xs ys in
    subst (IsPlace (λ k. Sighting k ⊎ Early k)) (sym c.lesser.ensures ∙ c.in-Some.is) (lesser_place Sighting Early c.in_ok-said.said c.in_ok-early.early c.in_ok-said.ensures c.in_ok-early.ensures)
