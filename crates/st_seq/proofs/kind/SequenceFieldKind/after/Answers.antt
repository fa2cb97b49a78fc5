use Rattle.std.proofs.Common.{rules, arith, sym, subst, length, ◌<◌, ℕ, inl, inr}
use Rattle.st_kind.proofs.Memory.{no_memory}
use Rattle.st_marks.specs.Row.{spread}
use Rattle.st_rows.proofs.WalkLengths.{found_length}
use Rattle.st_marks.specs.Listings.{cells_before}
use Rattle.st_rows.specs.Views.{row_views}
use Rattle.st_seq.proofs.NamedOnce.{named_once-after}
use Rattle.st_seq.proofs.NodesOnce.{stands_once-after}
use Rattle.st_seq.proofs.Refusals.{nothing_apart, row_short, before_short}
use Rattle.st_seq.specs.NamedApart.{SaidApart, named_before, named_in_row}
use Rattle.st_seq.proofs.kind.SequenceFieldKind.after.Goals as goal

pub after-requires : goal.after-requires
after-requires c = let l = found_length (spread c.args.step.now.marks) in let r = c.requires in omega (arith, l, r)

pub returns-in_err-cells-clause-after : goal.returns-in_err-cells-clause-after
returns-in_err-cells-clause-after c m d l = let none = no_memory c.in_err-cells.field-0.0 _ (c.in_err-cells.ensures.after m d.cells l.step) in search rules

pub returns-clause-after : goal.returns-clause-after
returns-clause-after c m d l = λ i. record { cells = c.in_ok-cells.ensures.after m d.cells l.step i }

pub agree_over-requires-clause-row : goal.agree_over-requires-clause-row
agree_over-requires-clause-row c = subst (λ r. length r < 4294967296) (sym c.as_slice.ensures) (row_short c.args.ctx.now.cells (spread c.args.step.now.marks) 4294967296 c.in_ok-cells.ensures.apart c.requires)

pub agree_over-requires-clause-step : goal.agree_over-requires-clause-step
agree_over-requires-clause-step c = subst (λ r. length (cells_before (spread r)) < 4294967296) (sym c.as_slice-2.ensures) (before_short (spread c.args.step.now.marks) 4294967296 c.requires)

pub returns-in_err-agree_over-clause-after : goal.returns-in_err-agree_over-clause-after
returns-in_err-agree_over-clause-after c m d l = let none = nothing_apart c.in_err-agree_over.field-0.0 _ c.in_err-agree_over.ensures (λ k n. apart k (
    subst (λ x. SaidApart (row_views x) (cells_before (spread c.args.step.now.marks)) (named_in_row 0 x) (named_before 0 (spread c.args.step.now.marks)) k) c.as_slice.ensures
    (subst (λ y. SaidApart (row_views c.as_slice.result.now) (cells_before (spread y)) (named_in_row 0 c.as_slice.result.now) (named_before 0 (spread y)) k) c.as_slice-2.ensures n))) in search rules
  where
    apart : (k : ℕ) → SaidApart (row_views c.args.ctx.now.cells) (cells_before (spread c.args.step.now.marks)) (named_in_row 0 c.args.ctx.now.cells) (named_before 0 (spread c.args.step.now.marks)) k → ⊥
    apart k (inl n) = named_once-after m c.args.ctx.now.cells d.cells c.args.step.now.marks l k n
    apart k (inr n) = stands_once-after m c.args.ctx.now.cells d.cells c.args.step.now.marks l k n
