use Rattle.std.proofs.Common.{[], ◌++◌, ◌∙◌, ◌∷◌, ap, inl, inr, sym}
use Rattle.st_heads.specs.declared.ways.Carried.{Carried}
use Rattle.st_marks.specs.declared.intents.Intent.{Intent}
use Rattle.st_plain_branches.proofs.Branched.{void_all, void_more, void_same}
use Rattle.st_plain_branches.proofs.branches.void_revs.Goals as goal
use Rattle.st_plain_branches.proofs.branches.void_revs.Goals.{else-all-test, else-carried-i, then-all-test+else-i-carried, then-carried-i+in_ok-push}

pub all-preserved : goal.all-preserved
all-preserved c =
    let own = c.args.own.now in
    let carried = c.args.carried.now in
    let i = c.all.i in
    let k = c.index-carried-i.result in
    let voided = ap (λ (x : Carried). x.void) c.index-carried-i.is in
    elim c.if-carried-i.branch [
      | then-carried-i+in_ok-push w ↦
          void_more own carried i c.all.revs c.if-carried-i.revs w.index-own-i.result k c.all-test.true c.if-i-carried.true (sym w.index-own-i.is) (sym c.index-carried-i.is) (voided ∙ w.if-carried-i.true) c.all.invariant
          (w.revs-is ∙ w.in_ok-push.ensures.ok ∙ ap (λ (N : Intent). c.all.revs ++ N.rev ∷ []) (sym w.index-own-i.is))
      | else-carried-i w ↦ void_same own carried i c.all.revs c.if-carried-i.revs k c.all-test.true c.if-i-carried.true (sym c.index-carried-i.is) (voided ∙ w.if-carried-i.false) c.all.invariant w.revs-is
    ]

pub returns : goal.returns
returns c =
    let own = c.args.own.now in
    let carried = c.args.carried.now in
    elim c.all-test.branch [
      | then-all-test+else-i-carried w ↦ void_all own carried c.all.i c.all.revs c.all.invariant (inr w.if-i-carried.false)
      | else-all-test w ↦ void_all own carried c.all.i c.all.revs c.all.invariant (inl w.all-test.false)
    ]
