use Rattle.std.proofs.Common.{ap, sym, ◌∙◌, subst, rules, false, length, ◌<◌, ℕ, inl, inr, ◌⊎◌, List}
use Rattle.st_kind.proofs.Memory.{no_memory}
use Rattle.st_ids.specs.Listing.{IsRising}
use Rattle.st_ids.specs.Order.{node_cmp}
use Rattle.st_ids.specs.declared.names.NodeId.{NodeId}
use Rattle.st_marks.specs.Embedding.{is_among}
use Rattle.std.specs.Prelude.{◌||◌}
use Rattle.st_rows.specs.Sequence.{row_carried}
use Rattle.st_rows.proofs.PartsThatFit.{change_is}
use Rattle.st_rows.proofs.RisingNodes.{one_rising}
use Rattle.st_rows.specs.declared.values.RowChange.{RowChange}
use Rattle.st_marks.specs.Row.{spread}
use Rattle.st_marks.specs.Listings.{cells_after, cells_before}
use Rattle.st_seq.proofs.NamedOnce.{named_once-join}
use Rattle.st_seq.proofs.NodesOnce.{stands_once-join}
use Rattle.st_seq.proofs.Refusals.{nothing_apart, before_short, after_short}
use Rattle.st_seq.specs.NamedApart.{SaidApart, named_after, named_before}
use Rattle.st_marks.specs.declared.marks.Mark.{Mark}
use Rattle.st_seq.specs.OwnedEarly.{OwnedEarly}
use Rattle.st_seq.proofs.OwnersEarly.{never_early}
use Rattle.st_seq.proofs.kind.SequenceFieldKind.join.Goals as goal

pub returns-in_err-marks-clause-joined : goal.returns-in_err-marks-clause-joined
returns-in_err-marks-clause-joined c p q j a t w e v g =
    let none = no_memory c.in_err-marks.field-0.0 _ (c.in_err-marks.ensures.joined p.part q.part j.part a.cells t.part (change_is p a.cells _ w e) (change_is q (row_carried p false a.cells) _ v g)) in
    search rules

pub returns-clause-joined : goal.returns-clause-joined
returns-clause-joined c p q j a t w e v g =
    let marks = c.in_ok-marks.ensures.joined p.part q.part j.part a.cells t.part (change_is p a.cells _ w e) (change_is q (row_carried p false a.cells) _ v g) in
    let first = ap (λ (x : RowChange). x.new) e in
    let then = ap (λ (x : RowChange). x.new) g in
    let new = c.in_ok-new.ensures (subst (λ n. IsRising node_cmp (λ (x : NodeId). x) n) (sym first) w.rising) in
    let one = one_rising c.in_ok-new.new j.new new.0 t.rising (λ n. new.1 n ∙ (λ i. is_among (first i) n || is_among (then i) n) ∙ sym (t.new n)) in
    λ i. record { rev = (ap (λ (x : RowChange). x.rev) e ∙ t.rev) i; in_new = ((λ k. (e k).in_new || (g k).in_new) ∙ sym t.in_new) i; new = one i; marks = marks i }

pub agree_as_changes-requires-clause-first : goal.agree_as_changes-requires-clause-first
agree_as_changes-requires-clause-first c = subst (λ r. length (cells_after (spread r)) < 4294967296) (sym c.as_slice-2.ensures) (after_short (spread c.args.first.now.marks) 4294967296 c.requires.first)

pub agree_as_changes-requires-clause-then : goal.agree_as_changes-requires-clause-then
agree_as_changes-requires-clause-then c = subst (λ r. length (cells_before (spread r)) < 4294967296) (sym c.as_slice-3.ensures) (before_short (spread c.args.then.now.marks) 4294967296 c.requires.then)

pub returns-in_err-agree_as_changes-clause-joined : goal.returns-in_err-agree_as_changes-clause-joined
returns-in_err-agree_as_changes-clause-joined c p q j a t w e v g =
    let none = nothing_apart c.in_err-agree_as_changes.field-0.0 _ c.in_err-agree_as_changes.ensures (λ k n. apart k (
    subst (λ l. Apart l c.args.first.now.marks c.args.then.now.marks k) c.as_slice.ensures
    (subst (λ x. Apart c.as_slice.result.now x c.args.then.now.marks k) c.as_slice-2.ensures
    (subst (λ y. Apart c.as_slice.result.now c.as_slice-2.result.now y k) c.as_slice-3.ensures n)))) in search rules
  where
    Apart : List NodeId → List Mark → List Mark → ℕ → Type 0
    Apart new xs ys k = SaidApart (cells_after (spread xs)) (cells_before (spread ys)) (named_after 0 (spread xs)) (named_before 0 (spread ys)) k ⊎ OwnedEarly new (spread xs) (spread ys) k

    apart : (k : ℕ) → Apart c.args.first.now.new c.args.first.now.marks c.args.then.now.marks k → ⊥
    apart k (inl (inl n)) = named_once-join p q a.cells c.args.first.now c.args.then.now w e v g k n
    apart k (inl (inr n)) = stands_once-join p q a.cells c.args.first.now c.args.then.now w e v g k n
    apart k (inr n) = never_early p q a.cells c.args.first.now c.args.then.now w e v g k n
