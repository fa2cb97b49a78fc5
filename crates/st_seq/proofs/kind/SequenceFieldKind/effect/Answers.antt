use Rattle.std.proofs.Common.{◌≡◌, ap, sym, ◌∙◌, subst}
use Rattle.st_ids.specs.Listing.{IsRising}
use Rattle.st_ids.specs.Order.{node_cmp}
use Rattle.st_ids.specs.declared.names.NodeId.{NodeId}
use Rattle.st_rows.specs.Changes.{AreOld, carried_row, placed_by, void_part}
use Rattle.st_rows.specs.Rows.{IsRowStep}
use Rattle.st_rows.specs.declared.values.RowChange.{RowChange}
use Rattle.st_rows.proofs.PartsThatFit.{change_is, old_placed, void_leads, whole_leads}
use Rattle.st_seq.proofs.kind.SequenceFieldKind.effect.Goals as goal

pub returns-then-not-void : goal.returns-then-not-void
returns-then-not-void c p a w e h = whole_leads p a.cells _ w c.args.void c.if-not-void.true h (c.in_ok-marks.ensures.carried p.part a.cells (change_is p a.cells _ w e))

pub returns : goal.returns
returns c p a w e h =
    let listed = ap (λ (x : RowChange). x.new) e in
    let new = c.in_ok-new.ensures.same (subst (λ n. IsRising node_cmp (λ (x : NodeId). x) n) (sym listed) w.rising) ∙ listed in
    let placed : placed_by c.args.change.now.in_new c.in_ok-new.new ≡ placed_by p.in_new p.new = λ i. placed_by (e i).in_new (new i) in
    let old = old_placed p.in_new p.new a.cells w.old in
    let step = c.in_ok-marks-2.ensures.carried p.part a.cells (change_is p a.cells _ w e) (subst (λ n. AreOld n a.cells) (sym placed) old) in
    void_leads p a.cells _ w c.args.void c.if-not-void.false h old (subst (λ n. IsRowStep p.part.mentioned a.cells (carried_row (void_part n p.part) a.cells) c.in_ok-marks-2.marks) placed step)
