use Rattle.std.proofs.Common.{◌≡◌, ◌∷◌, ◌+◌, [], length, Some, drop, refl, sym, subst}
use Rattle.std.specs.List.{slice_get}
use Rattle.std.proofs.lemmas.List.{drop_all}
use Rattle.std.proofs.lemmas.Option.{slice_get_read}
use Rattle.st_lemmas.proofs.Lists.{drop-slice_get}
use Rattle.st_seats.proofs.PastCommits.{AtPlace, arrived, moved_on, skipped}
use Rattle.st_seats.proofs.rising.pass_commits.Goals as goal
use Rattle.st_seats.proofs.rising.pass_commits.Goals.{then-one-reference+in_ok-pass_commit, else-one-reference}

pub loop-one-preserved : goal.loop-one-preserved
loop-one-preserved g c = λ O A log front back known w split above within end next risen.
    let l = g.R.Carrier.listed in
    let i = c.loop-one.one-index in
    let x = c.one-item.result in
    let there : slice_get c.args.kept.now i ≡ Some x = slice_get_read c.args.kept.now (length c.args.kept.now) i x refl c.loop-one-test.true c.one-item.is in
    let tail : drop i c.args.kept.now ≡ x ∷ drop (i + 1) c.args.kept.now = drop-slice_get c.args.kept.now i x there in
    let at : AtPlace l O A log c.args.session known c.args.reference (x ∷ drop (i + 1) c.args.kept.now) c.loop-one.sent c.loop-one.gone =
    subst (λ ks. AtPlace l O A log c.args.session known c.args.reference ks c.loop-one.sent c.loop-one.gone) tail (c.loop-one.invariant O A log front back known w split above within end next risen) in
    elim c.if-one-reference.branch [
      | then-one-reference+in_ok-pass_commit v ↦
          subst (λ s. AtPlace l O A log c.args.session known c.args.reference (drop (i + 1) c.args.kept.now) s c.if-one-reference.gone) (sym v.sent-is)
          (subst (λ o. AtPlace l O A log c.args.session known c.args.reference (drop (i + 1) c.args.kept.now) v.pass_commit.new.sent o) (sym v.gone-is)
          (moved_on l O A log c.args.session known c.args.reference w x (drop (i + 1) c.args.kept.now) c.loop-one.sent v.pass_commit.new.sent c.loop-one.gone v.pass_commit.new.gone
          v.if-one-reference.true at v.in_ok-pass_commit.ensures.own v.in_ok-pass_commit.ensures.other))
      | else-one-reference v ↦
          subst (λ s. AtPlace l O A log c.args.session known c.args.reference (drop (i + 1) c.args.kept.now) s c.if-one-reference.gone) (sym v.sent-is)
          (subst (λ o. AtPlace l O A log c.args.session known c.args.reference (drop (i + 1) c.args.kept.now) c.loop-one.sent o) (sym v.gone-is)
          (skipped l O A log c.args.session known c.args.reference w x (drop (i + 1) c.args.kept.now) c.loop-one.sent c.loop-one.gone v.if-one-reference.false at))
    ]

pub returns : goal.returns
returns g c = λ O A log front back known w split above within end next risen.
    let l = g.R.Carrier.listed in
    let none : drop c.loop-one.one-index c.args.kept.now ≡ [] = drop_all c.loop-one.one-index c.args.kept.now c.loop-one-test.false in
    arrived l O A log c.args.session known c.args.reference w c.loop-one.sent c.loop-one.gone end
    (subst (λ ks. AtPlace l O A log c.args.session known c.args.reference ks c.loop-one.sent c.loop-one.gone) none (c.loop-one.invariant O A log front back known w split above within end next risen))
