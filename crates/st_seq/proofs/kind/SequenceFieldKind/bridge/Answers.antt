use Rattle.std.proofs.Common.{ap, sym, ◌∙◌, subst, rules, length, ◌<◌, ℕ, inl, inr}
use Rattle.st_kind.proofs.Memory.{no_memory}
use Rattle.st_ids.specs.Listing.{IsRising}
use Rattle.st_ids.specs.Order.{node_cmp}
use Rattle.st_ids.specs.declared.names.NodeId.{NodeId}
use Rattle.st_marks.specs.Embedding.{is_among}
use Rattle.st_rows.specs.Changes.{StandsOver}
use Rattle.st_rows.proofs.PartsThatFit.{beside_leads, change_is, keeps_is, stands_over}
use Rattle.st_rows.specs.declared.values.RowChange.{RowChange}
use Rattle.st_marks.specs.Row.{spread}
use Rattle.st_marks.specs.Listings.{cells_before}
use Rattle.st_seq.proofs.NamedOnce.{named_once-rebase}
use Rattle.st_seq.proofs.NodesOnce.{stands_once-rebase}
use Rattle.st_seq.proofs.Refusals.{nothing_apart, beside_short}
use Rattle.st_seq.specs.NamedApart.{SaidApart, named_before}
use Rattle.st_seq.proofs.kind.SequenceFieldKind.bridge.Goals as goal

pub returns-in_err-marks-clause-bridged : goal.returns-in_err-marks-clause-bridged
returns-in_err-marks-clause-bridged c p m a d w v k e l h g =
    let listed = ap (λ (x : RowChange). x.new) e in
    let new = c.in_ok-new.ensures.same (subst (λ n. IsRising node_cmp (λ (x : NodeId). x) n) (sym listed) w.rising) ∙ listed in
    let stands = subst (λ n. StandsOver p.part (is_among n) a.cells d.cells l.step.grows) (sym new) (stands_over p l.step.grows w l.after.once v) in
    let none = no_memory c.in_err-marks.field-0.0 _ (c.in_err-marks.ensures.bridged p.part m a.cells d.cells (change_is p a.cells _ w e) l.step l.moved stands (λ q. keeps_is p l.step.grows w l.after.once (k q))) in
    search rules

pub returns-clause-bridged : goal.returns-clause-bridged
returns-clause-bridged c p m a d w v k e l h g =
    let listed = ap (λ (x : RowChange). x.new) e in
    let new = c.in_ok-new.ensures.same (subst (λ n. IsRising node_cmp (λ (x : NodeId). x) n) (sym listed) w.rising) ∙ listed in
    let stands = subst (λ n. StandsOver p.part (is_among n) a.cells d.cells l.step.grows) (sym new) (stands_over p l.step.grows w l.after.once v) in
    let both = c.in_ok-marks.ensures.bridged p.part m a.cells d.cells (change_is p a.cells _ w e) l.step l.moved stands (λ q. keeps_is p l.step.grows w l.after.once (k q)) in
    beside_leads p m a.cells d.cells c.args.was_void c.args.is_void c.in_ok-marks.marks c.args.change.now.in_new c.in_ok-new.new (ap (λ (x : RowChange). x.in_new) e) new h g both

pub agree_beside-requires-clause-first : goal.agree_beside-requires-clause-first
agree_beside-requires-clause-first c = subst (λ r. length (cells_before (spread r)) < 4294967296) (sym c.as_slice.ensures) (beside_short (spread c.args.change.now.marks) (spread c.args.step.now.marks) 4294967296 c.in_ok-marks.ensures.apart c.requires)

pub returns-in_err-agree_beside-clause-bridged : goal.returns-in_err-agree_beside-clause-bridged
returns-in_err-agree_beside-clause-bridged c p m a d w v k e l h g = let none = nothing_apart c.in_err-agree_beside.field-0.0 _ c.in_err-agree_beside.ensures (λ j n. apart j (
    subst (λ x. SaidApart (cells_before (spread x)) (cells_before (spread c.args.step.now.marks)) (named_before 0 (spread x)) (named_before 0 (spread c.args.step.now.marks)) j) c.as_slice.ensures
    (subst (λ y. SaidApart (cells_before (spread c.as_slice.result.now)) (cells_before (spread y)) (named_before 0 (spread c.as_slice.result.now)) (named_before 0 (spread y)) j) c.as_slice-2.ensures n))) in search rules
  where
    apart : (j : ℕ) → SaidApart (cells_before (spread c.args.change.now.marks)) (cells_before (spread c.args.step.now.marks)) (named_before 0 (spread c.args.change.now.marks)) (named_before 0 (spread c.args.step.now.marks)) j → ⊥
    apart j (inl n) = named_once-rebase p m a.cells d.cells c.args.change.now c.args.step.now.marks w v e l j n
    apart j (inr n) = stands_once-rebase p m a.cells d.cells c.args.change.now c.args.step.now.marks w e l j n
