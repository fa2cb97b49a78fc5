-- A step that goes on over what is ahead of a session.
use Rattle.std.proofs.Common.{◌≡◌, ◌≤◌, ◌<◌, ◌-◌, ℕ, Bool, List, [], ◌∷◌, length, map, refl, sym, subst, arith, inl}
use Rattle.st_lists.specs.declared.lists.Entry.{Entry}
use Rattle.st_lists.specs.Log.{known_reference}
use Rattle.st_log_laws.proofs.Turns.{has_run, turn_extends}
use Rattle.st_marks.specs.declared.steps.Step.{Step}
use Rattle.st_marks.specs.Document.{Document}
use Rattle.st_marks.specs.Extends.{IsExtendedBy}
use Rattle.st_marks.specs.Run.{Run}
use Rattle.st_marks.proofs.OneVerdict.{one_run}
use Rattle.st_marks.proofs.Turns.{extends_itself, extends_on}
use Rattle.st_read_laws.specs.Reading.{IsStepRead}
use Rattle.st_seats.specs.Seats.{IsBridge, IsWrittenFrom}
use Rattle.st_valid.specs.Author.{author_list}
use Rattle.st_valid.proofs.AuthorsLists.{author_past}
use Rattle.st_window.specs.declared.kept.Kept.{Kept}
use Rattle.st_window.specs.Window.{WindowView, kept_above}
use Rattle.st_window_laws.specs.Windows.{IsWindowOf}
use Rattle.st_ahead.specs.Lags.{AreAhead, IsAhead, IsLagAt, IsOfAnother}
use Rattle.st_ahead.specs.inside.Bridging.{IsBridgeTo}
use Rattle.st_ahead.specs.inside.Lists.{ahead_of}
use Rattle.st_ahead.specs.declared.lag.Ahead.{Ahead}
use Rattle.st_ahead.specs.declared.lag.Lag.{Lag}
use Rattle.st_ahead.proofs.Along.{same_between}
use Rattle.st_ahead.proofs.AheadLists.{first_goes, none_before}
use Rattle.st_ahead.proofs.CaughtUp.{are_ahead}

module _ (l : Bool) (O : Document) (log : List Entry) (session from : ℕ) where
  -- so far it goes, and this is left
  pub record IsOnTheWay (last : ℕ) (xs : List Ahead) (S : Step) : Type 0 where
    pub place : ℕ
    pub up : place ≤ last
    pub left : AreAhead l O log session place last xs
    pub bridge : IsBridgeTo l O log session from place S

  -- it stays where no other commit comes
  goes_later : (m n : ℕ) (S : Step) → m ≤ n → n ≤ length log → ((k : ℕ) → m < k → k ≤ n → IsOfAnother log session k → ⊥) → IsBridgeTo l O log session from m S → IsBridgeTo l O log session from n S
  goes_later m n S up within none h = record {
    before = h.before;
    after = h.after;
    to_before = h.to_before;
    to_after = subst (λ Ns. Run O Ns h.after) (sym (same_between log session m n up within none)) h.to_after;
    extends = h.extends;
    step = h.step;
  }

  -- over the next one
  pub goes_over : (last : ℕ) (x : Ahead) (xs : List Ahead) (S T : Step) → last ≤ length log → IsOnTheWay last (x ∷ xs) S
      → ((D E F : Document) → IsExtendedBy D E → IsExtendedBy E F → IsStepRead l D E S → IsStepRead l E F x.step → IsStepRead l D F T) → IsOnTheWay last xs T
  goes_over last x xs S T within p splice = record {
    place = x.n;
    up = inside;
    left = first_goes l O log session p.place last x xs p.left;
    bridge = record {
      before = there.before;
      after = is.after;
      to_before = there.to_before;
      to_after = is.to_after;
      extends = extends_on there.before there.after is.after there.extends on;
      step = splice there.before there.after is.after there.extends on there.step (subst (λ D. IsStepRead l D is.after x.step) (sym same) is.step);
    };
  }
    where
      above : p.place < x.n
      above = p.left.rise.0

      inside : x.n ≤ last
      inside = (p.left.each x (inl refl)).0

      is : IsAhead l O log session x
      is = (p.left.each x (inl refl)).1

      there : IsBridgeTo l O log session from (x.n - 1) S
      there = goes_later p.place (x.n - 1) S (omega (arith, above)) (omega (arith, inside, within))
          (λ k a b o. none_before l O log session p.place last x xs p.left k a (omega (arith, b, above)) o) p.bridge

      same : there.after ≡ is.before
      same = one_run there.to_after is.to_before

      on : IsExtendedBy there.after is.after
      on = subst (λ D. IsExtendedBy D is.after) (sym same) is.extends

  -- over all
  pub went_over : (last : ℕ) (S : Step) → last ≤ length log → IsOnTheWay last [] S → IsBridgeTo l O log session from last S
  went_over last S within p = goes_later p.place last S p.up within (λ k a b o. (p.left.all k a b o).1) p.bridge

-- ## Up to the end

-- what the window has behind a lag
pub kept_ahead : (l : Bool) (O : Document) (log : List Entry) (session reference : ℕ) (w : WindowView) (q : Lag) (ks : List Kept) → IsWrittenFrom O log session reference → IsWindowOf l O log w → w.floor ≤ reference → IsLagAt l O log session reference q
    → ks ≡ kept_above q.last w.kept → AreAhead l O log session q.last (length log) (map ahead_of ks)
kept_ahead l O log session reference w q ks written window low h is =
    subst (λ js. AreAhead l O log session q.last (length log) (map ahead_of js)) (sym is)
    (are_ahead l O log session q.last written.sound written.commits h.none_sent w window (let up = h.low in omega (arith, low, up)))

-- from the document over which the session writes to itself
pub begun : (l : Bool) (O : Document) (log : List Entry) (session reference : ℕ) (S : Step) → IsWrittenFrom O log session reference → ((m : Bool) (D : Document) → IsStepRead m D D S) → IsBridgeTo l O log session reference reference S
begun l O log session reference S w none =
    let fits = w.author reference (omega arith) in
    let a = has_run (author_list log session reference) O w.sound fits in
    record { before = a.0; after = a.0; to_before = a.1; to_after = a.1; extends = extends_itself a.0 (turn_extends w.sound fits a.1).after; step = none l a.0 }

pub is_bridge : (l : Bool) (O : Document) (log : List Entry) (session : ℕ) (S : Step) → IsBridgeTo l O log session (known_reference session log) (length log) S → IsBridge l O log session S
is_bridge l O log session S h = record {
  author = h.before;
  trunk = h.after;
  to_author = h.to_before;
  to_trunk = subst (λ Ns. Run O Ns h.after) (author_past log session (length log) (omega arith)) h.to_after;
  extends = h.extends;
  step = h.step;
}
