use Rattle.std.proofs.Common.{rules, sym, subst, length, ◌<◌, ℕ, inl, inr}
use Rattle.st_kind.specs.Named.{either}
use Rattle.st_kind.proofs.Memory.{no_memory}
use Rattle.st_rows.proofs.KindLaws.{same_grown}
use Rattle.st_rows.proofs.RowsInTurn.{grows_on}
use Rattle.st_rows.proofs.PartsThatFit.{leavers_of, moved_in_turn}
use Rattle.st_marks.specs.Row.{spread}
use Rattle.st_marks.specs.Listings.{cells_after, cells_before}
use Rattle.st_seq.proofs.NamedOnce.{named_once-compose}
use Rattle.st_seq.proofs.NodesOnce.{stands_once-compose}
use Rattle.st_seq.proofs.Refusals.{nothing_apart, before_short, after_short}
use Rattle.st_seq.specs.NamedApart.{SaidApart, named_after, named_before}
use Rattle.st_seq.proofs.kind.SequenceFieldKind.compose.Goals as goal

pub returns-in_err-marks-clause-composed : goal.returns-in_err-marks-clause-composed
returns-in_err-marks-clause-composed c m k a d e f t =
    let none = no_memory c.in_err-marks.field-0.0 _ (c.in_err-marks.ensures.composed m k a.cells d.cells e.cells f.step (leavers_of m f.step.grows f.moved) t.step) in
    search rules

pub returns-clause-composed : goal.returns-clause-composed
returns-clause-composed c m k a d e f t =
    let both = c.in_ok-marks.ensures.composed m k a.cells d.cells e.cells f.step (leavers_of m f.step.grows f.moved) t.step in
    record {
      before = f.before;
      after = t.after;
      step = both;
      moved = (same_grown (either m k) (grows_on f.step.grows t.step.grows) both.grows t.after.once).1 (moved_in_turn m k t.step.grows f.step.grows f.moved t.moved);
    }

pub agree_in_turn-requires-clause-first : goal.agree_in_turn-requires-clause-first
agree_in_turn-requires-clause-first c = subst (λ r. length (cells_after (spread r)) < 4294967296) (sym c.as_slice.ensures) (after_short (spread c.args.first.now.marks) 4294967296 c.requires.first)

pub agree_in_turn-requires-clause-then : goal.agree_in_turn-requires-clause-then
agree_in_turn-requires-clause-then c = subst (λ r. length (cells_before (spread r)) < 4294967296) (sym c.as_slice-2.ensures) (before_short (spread c.args.then.now.marks) 4294967296 c.requires.then)

pub returns-in_err-agree_in_turn-clause-composed : goal.returns-in_err-agree_in_turn-clause-composed
returns-in_err-agree_in_turn-clause-composed c m k a d e f t = let none = nothing_apart c.in_err-agree_in_turn.field-0.0 _ c.in_err-agree_in_turn.ensures (λ j n. apart j (
    subst (λ x. SaidApart (cells_after (spread x)) (cells_before (spread c.args.then.now.marks)) (named_after 0 (spread x)) (named_before 0 (spread c.args.then.now.marks)) j) c.as_slice.ensures
    (subst (λ y. SaidApart (cells_after (spread c.as_slice.result.now)) (cells_before (spread y)) (named_after 0 (spread c.as_slice.result.now)) (named_before 0 (spread y)) j) c.as_slice-2.ensures n))) in search rules
  where
    apart : (j : ℕ) → SaidApart (cells_after (spread c.args.first.now.marks)) (cells_before (spread c.args.then.now.marks)) (named_after 0 (spread c.args.first.now.marks)) (named_before 0 (spread c.args.then.now.marks)) j → ⊥
    apart j (inl n) = named_once-compose m k a.cells d.cells e.cells c.args.first.now.marks c.args.then.now.marks f t j n
    apart j (inr n) = stands_once-compose m k a.cells d.cells e.cells c.args.first.now.marks c.args.then.now.marks f t j n
