-- Changes that stand in turn, carried over a step one after the other.
use Rattle.std.proofs.Common.{◌≡◌, ℕ, ◌+◌, ◌<◌, ◌≤◌, Bool, List, [], ◌∷◌, ◌++◌, Option, Some, None, length, get_or, take, drop, refl, sym, ap, ◌∙◌, subst, inl, inr, ◌⊎◌, arith, append_assoc, append-nil, take-append-drop}
use Rattle.std.specs.Prelude.{slice_get, slice_set}
use Rattle.std.proofs.lemmas.List.{drop-set-lt, length-set, set-get_or, take_all, take_more, take_more_set}
use Rattle.std.proofs.lemmas.Option.{get_or_from_slice_get, slice_get_cases, slice_get_within}
use Rattle.std.proofs.Math.ListN.{drop_of_length-le}
use Rattle.st_lemmas.proofs.Lists.{drop-slice_get}
use Rattle.st_marks.specs.declared.changes.Change.{Change}
use Rattle.st_marks.specs.declared.steps.Step.{Step}
use Rattle.st_marks.specs.declared.verdicts.Verdict.{Verdict}
use Rattle.st_marks.specs.Document.{Document}
use Rattle.st_marks.specs.Verdict.{carried_document}
use Rattle.st_marks.proofs.OneVerdict.{one_verdict}
use Rattle.st_rebaser.specs.InTurn.{HaveVerdicts, ShowInTurn, none_judged, none_shown, one_judged, one_shown}
use Rattle.st_rebaser.specs.inside.Turns.{ArePushed, IsCarried, IsTurn, IsTurnOf}

-- ## Lists of changes

none_judged_later : (D E : Document) (vs : List Verdict) → HaveVerdicts D [] vs → HaveVerdicts E [] vs
none_judged_later D E vs none_judged = none_judged

pub none_pushed : (l : Bool) (vs : List Verdict) (S : Step) → ArePushed l [] vs S [] vs S
none_pushed l vs S D E F Ns x f g none_shown judged s = (E, none_shown, none_judged_later D E vs judged, x, s)

pub one_pushed : (l : Bool) (C X : Change) (v u : Verdict) (S T : Step) → IsCarried l C v S X u T → (Cs Xs : List Change) (vs us : List Verdict) (W : Step)
    → ArePushed l Cs vs T Xs us W → ArePushed l (C ∷ Cs) (v ∷ vs) S (X ∷ Xs) (u ∷ us) W
one_pushed l C X v u S T one Cs Xs vs us W rest D E F Ns x f g (one_shown {N = N} {Ns = Ms} w was c shown) (one_judged is judged) s =
    let e : w ≡ v = one_verdict D N w v was is in
    let k = one D E N x f.0 g.0 f.1 g.1 is c s in
    let r = rest (carried_document v D N) (carried_document u E N) F Ms k.2 (f.2 v is) (g.2 u k.0) (subst (λ y. ShowInTurn l (carried_document y D N) Ms Cs F) e shown) judged k.3 in
    (r.0, one_shown u k.0 k.1 r.1, one_judged k.0 r.2, r.3, r.4)

-- a change without a verdict is none of changes in turn
pub unjudged : (l : Bool) (C : Change) (Cs Xs : List Change) (us : List Verdict) (S T : Step) → ArePushed l (C ∷ Cs) [] S Xs us T
unjudged l C Cs Xs us S T D E F Ns x f g (one_shown w was c shown) judged s = elim judged [ ]

-- ## One place after the other

same_set : {A : Type 0} (xs : List A) (i : ℕ) (x : A) → slice_get xs i ≡ Some x → slice_set xs i x ≡ xs
same_set xs i x e = ap (λ y. slice_set xs i y) (sym (get_or_from_slice_get xs i x x e)) ∙ set-get_or xs i x

-- a change without a verdict stays
pub no_turn : (l : Bool) (i : ℕ) (Cs : List Change) (vs : List Verdict) (S : Step) (C : Change) → slice_get Cs i ≡ Some C → slice_get vs i ≡ None → IsTurn l i Cs vs S (slice_set Cs i C) vs S
no_turn l i Cs vs S C e f =
    subst (λ o. IsTurnOf l i o (slice_get vs i) Cs vs S (slice_set Cs i C) vs S) (sym e)
    (subst (λ p. IsTurnOf l i (Some C) p Cs vs S (slice_set Cs i C) vs S) (sym f) (same_set Cs i C e, refl, refl))

past_end : {A : Type 0} (xs : List A) (i : ℕ) → slice_get xs i ≡ None → length xs ≤ i
past_end {A} xs i e = go (slice_get_cases xs i).1
  where
    go : ((x : A) × (i < length xs) × (slice_get xs i ≡ Some x) × (get_or xs i x ≡ x)) ⊎ ((length xs ≤ i) × (slice_get xs i ≡ None)) → length xs ≤ i
    go (inl t) = let f : ◌≡◌ {A = Option A} None (Some t.0) = sym e ∙ t.2 in cc
    go (inr t) = t.0

one_more : {A : Type 0} (xs : List A) (i : ℕ) (x : A) → slice_get xs i ≡ Some x → take (i + 1) xs ≡ take i xs ++ x ∷ []
one_more xs i x e = take_more xs i x (slice_get_within xs i x e) ∙ ap (λ y. take i xs ++ y ∷ []) (get_or_from_slice_get xs i x x e)

module _ (l : Bool) (As : List Change) (bs : List Verdict) (Z : Step) where
  -- what finishes the changes behind a place finishes all
  abbrev pub GoesOn : ℕ → List Change → List Verdict → Step → Type 0
  GoesOn i Cs vs S = (Xs : List Change) (us : List Verdict) (T : Step) → ArePushed l (drop i Cs) (drop i vs) S Xs us T → ArePushed l As bs Z (take i Cs ++ Xs) (take i vs ++ us) T

  pub turned : (i : ℕ) (Cs Xs : List Change) (vs us : List Verdict) (S T : Step) → i < length Cs → GoesOn i Cs vs S → IsTurn l i Cs vs S Xs us T
      → (length Xs ≡ length Cs) × GoesOn (i + 1) Xs us T
  turned i Cs Xs vs us S T within on turn = go (slice_get Cs i) (slice_get vs i) refl refl turn
    where
      both : (C X : Change) (v u : Verdict) → slice_get Cs i ≡ Some C → slice_get vs i ≡ Some v → IsCarried l C v S X u T
          → GoesOn (i + 1) (slice_set Cs i X) (slice_set vs i u) T
      both C X v u e f one Ys ws W h =
          let inside : i < length vs = slice_get_within vs i v f in
          let later : i < i + 1 = omega arith in
          let a : drop (i + 1) (slice_set Cs i X) ≡ drop (i + 1) Cs = drop-set-lt (i + 1) Cs i X later in
          let b : drop (i + 1) (slice_set vs i u) ≡ drop (i + 1) vs = drop-set-lt (i + 1) vs i u later in
          let rest : ArePushed l (drop (i + 1) Cs) (drop (i + 1) vs) T Ys ws W = subst (λ ys. ArePushed l (drop (i + 1) Cs) ys T Ys ws W) b (subst (λ xs. ArePushed l xs (drop (i + 1) (slice_set vs i u)) T Ys ws W) a h) in
          let all = one_pushed l C X v u S T one (drop (i + 1) Cs) Ys (drop (i + 1) vs) ws W rest in
          let here : ArePushed l (drop i Cs) (drop i vs) S (X ∷ Ys) (u ∷ ws) W =
          subst (λ ys. ArePushed l (drop i Cs) ys S (X ∷ Ys) (u ∷ ws) W) (sym (drop-slice_get vs i v f)) (subst (λ xs. ArePushed l xs (v ∷ drop (i + 1) vs) S (X ∷ Ys) (u ∷ ws) W) (sym (drop-slice_get Cs i C e)) all) in
          let p : take i Cs ++ (X ∷ Ys) ≡ take (i + 1) (slice_set Cs i X) ++ Ys = sym (ap (λ xs. xs ++ Ys) (take_more_set Cs i X within) ∙ append_assoc (take i Cs) (X ∷ []) Ys) in
          let q : take i vs ++ (u ∷ ws) ≡ take (i + 1) (slice_set vs i u) ++ ws = sym (ap (λ xs. xs ++ ws) (take_more_set vs i u inside) ∙ append_assoc (take i vs) (u ∷ []) ws) in
          subst (λ ys. ArePushed l As bs Z (take (i + 1) (slice_set Cs i X) ++ Ys) ys W) q (subst (λ xs. ArePushed l As bs Z xs (take i vs ++ (u ∷ ws)) W) p (on (X ∷ Ys) (u ∷ ws) W here))

      alone : (C : Change) → slice_get Cs i ≡ Some C → slice_get vs i ≡ None → GoesOn (i + 1) Cs vs S
      alone C e f Ys ws W h =
          let past : length vs ≤ i = past_end vs i f in
          let more : length vs ≤ i + 1 = omega arith in
          let here : ArePushed l (drop i Cs) (drop i vs) S (C ∷ Ys) ws W =
          subst (λ ys. ArePushed l (drop i Cs) ys S (C ∷ Ys) ws W) (sym (drop_of_length-le vs past)) (subst (λ xs. ArePushed l xs [] S (C ∷ Ys) ws W) (sym (drop-slice_get Cs i C e)) (unjudged l C (drop (i + 1) Cs) (C ∷ Ys) ws S W)) in
          let p : take i Cs ++ (C ∷ Ys) ≡ take (i + 1) Cs ++ Ys = sym (ap (λ xs. xs ++ Ys) (one_more Cs i C e) ∙ append_assoc (take i Cs) (C ∷ []) Ys) in
          let q : take i vs ++ ws ≡ take (i + 1) vs ++ ws = ap (λ xs. xs ++ ws) (take_all i vs past ∙ sym (take_all (i + 1) vs more)) in
          subst (λ ys. ArePushed l As bs Z (take (i + 1) Cs ++ Ys) ys W) q (subst (λ xs. ArePushed l As bs Z xs (take i vs ++ ws) W) p (on (C ∷ Ys) ws W here))

      go : (o : Option Change) (p : Option Verdict) → slice_get Cs i ≡ o → slice_get vs i ≡ p → IsTurnOf l i o p Cs vs S Xs us T → (length Xs ≡ length Cs) × GoesOn (i + 1) Xs us T
      go None p e f t = let past : length Cs ≤ i = past_end Cs i e in let never : ⊥ = omega arith in absurd never
      go (Some C) None e f t = (
        ap length t.0,
        subst (λ W. GoesOn (i + 1) Xs us W) (sym t.2) (subst (λ ys. GoesOn (i + 1) Xs ys S) (sym t.1) (subst (λ xs. GoesOn (i + 1) xs vs S) (sym t.0) (alone C e f))),
      )
      go (Some C) (Some v) e f t = (
        ap length t.3 ∙ length-set Cs i t.0,
        subst (λ ys. GoesOn (i + 1) Xs ys T) (sym t.4) (subst (λ xs. GoesOn (i + 1) xs (slice_set vs i t.1) T) (sym t.3) (both C t.0 v t.1 e f t.2)),
      )

  pub finished : (i : ℕ) (Cs : List Change) (vs : List Verdict) (S : Step) → length Cs ≤ i → GoesOn i Cs vs S → ArePushed l As bs Z Cs vs S
  finished i Cs vs S past on =
      let none = subst (λ xs. ArePushed l xs (drop i vs) S [] (drop i vs) S) (sym (drop_of_length-le Cs past)) (none_pushed l (drop i vs) S) in
      subst (λ ys. ArePushed l As bs Z Cs ys S) (take-append-drop i vs) (subst (λ xs. ArePushed l As bs Z xs (take i vs ++ drop i vs) S) (append-nil (take i Cs) ∙ take_all i Cs past) (on [] (drop i vs) S none))
