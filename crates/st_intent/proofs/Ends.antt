-- Steps up that come to an end do so before they have met each node.
use Rattle.std.proofs.Common.{◌≡◌, ℕ, zero, suc, ◌+◌, ◌<◌, ◌≤◌, true, List, [], ◌∷◌, length, Option, Some, None, refl, sym, ap, ◌∙◌, arith, option_and_then, ◌-◌, ◌⊎◌, inl, inr}
use Rattle.std.proofs.lemmas.Bool.{cases_lt}
use Rattle.st_ids.specs.Listing.{Has}
use Rattle.st_ids.specs.declared.names.NodeId.{NodeId}
use Rattle.st_marks.specs.Document.{climb, ClimbsToAnEnd}
use Rattle.st_intent.specs.inside.Rules.{ends_within}
use Rattle.st_marks.proofs.NoRing.{others, shorter, without_node}

module _ (up : NodeId → Option NodeId) where
  -- an end that is reached is an end
  pub ends_from : (k : ℕ) (n : NodeId) → ends_within up k n ≡ true → ClimbsToAnEnd up n
  ends_from zero n e = cc
  ends_from (suc k) n e = go (up n) refl (λ p f. ends_from k p f) e
    where
      go : (o : Option NodeId) → up n ≡ o → ((p : NodeId) → ends_within up k p ≡ true → ClimbsToAnEnd up p) → (elim o [ None ↦ true | Some p ↦ ends_within up k p ]) ≡ true → ClimbsToAnEnd up n
      go None u rest f = (1, ap (option_and_then (λ p. Some p)) u)
      go (Some p) u rest f = let h = rest p f in (suc h.0, ap (option_and_then (climb up h.0)) u ∙ h.1)

  more_steps : (j k : ℕ) (n : NodeId) → j ≤ k → ends_within up j n ≡ true → ends_within up k n ≡ true
  more_steps zero k n l e = cc
  more_steps (suc j) zero n l e = absurd (omega arith)
  more_steps (suc j) (suc k) n l e = go (up n) (λ p f. more_steps j k p (omega arith) f) e
    where
      go : (o : Option NodeId) → ((p : NodeId) → ends_within up j p ≡ true → ends_within up k p ≡ true)
          → (elim o [ None ↦ true | Some p ↦ ends_within up j p ]) ≡ true → (elim o [ None ↦ true | Some p ↦ ends_within up k p ]) ≡ true
      go None rest f = refl
      go (Some p) rest f = rest p f

  -- steps on from a node that is met again lead to no end
  climb_on : (j : ℕ) (k : ℕ) (n m : NodeId) → climb up j n ≡ Some m → climb up (j + k) n ≡ climb up k m
  climb_on zero k n m e = let s : n ≡ m = cc in let z : 0 + k ≡ k = omega arith in rw z (ap (climb up k) s)
  climb_on (suc j) k n m e =
      let z : suc j + k ≡ suc (j + k) = omega arith in
      rw z (go (up n) refl (λ p f. climb_on j k p m f) e)
    where
      go : (o : Option NodeId) → up n ≡ o → ((p : NodeId) → climb up j p ≡ Some m → climb up (j + k) p ≡ climb up k m) → option_and_then (climb up j) o ≡ Some m → option_and_then (climb up (j + k)) (up n) ≡ climb up k m
      go None u rest f = cc
      go (Some p) u rest f = ap (option_and_then (climb up (j + k))) u ∙ rest p f

  past_end : (j k : ℕ) (n : NodeId) → climb up k n ≡ None → k ≤ j → climb up j n ≡ None
  past_end zero zero n e l = e
  past_end zero (suc k) n e l = absurd (omega arith)
  past_end (suc j) zero n e l = cc
  past_end (suc j) (suc k) n e l = go (up n) (λ p f. past_end j k p f (omega arith)) e
    where
      go : (o : Option NodeId) → ((p : NodeId) → climb up k p ≡ None → climb up j p ≡ None) → option_and_then (climb up k) o ≡ None → option_and_then (climb up j) o ≡ None
      go None rest f = refl
      go (Some p) rest f = rest p f

  -- a node that is met again is on no way that ends
  pub met_again : (fuel k j : ℕ) (n : NodeId) → k ≤ fuel → climb up (suc j) n ≡ Some n → climb up k n ≡ None → ⊥
  met_again zero k j n l back e =
      let z : k ≡ 0 = omega arith in
      let f : Some n ≡ None = sym (ap (λ (i : ℕ). climb up i n) z) ∙ e in cc
  met_again (suc fuel) k j n l back e = go (λ r less back e. met_again fuel r j n less back e) (cases_lt j k)
    where
      go : ((r : ℕ) → r ≤ fuel → climb up (suc j) n ≡ Some n → climb up r n ≡ None → ⊥) → (j < k) ⊎ (k ≤ j) → ⊥
      go again (inr before) = let bad : None ≡ Some n = sym (past_end (suc j) k n e (omega arith)) ∙ back in cc
      go again (inl after) =
          let whole : suc j + (k - suc j) ≡ k = omega arith in
          let less : k - suc j ≤ fuel = omega arith in
          again (k - suc j) less back (sym (climb_on (suc j) (k - suc j) n n back) ∙ ap (λ (i : ℕ). climb up i n) whole ∙ e)

has_some : (n : NodeId) (xs : List NodeId) → Has xs n → 0 < length xs
has_some n [] h = absurd h
has_some n (x ∷ xs) h = omega arith

module _ (up : NodeId → Option NodeId) where
  -- where the nodes with another above them are in a list, the end comes within its length
  pub ends_soon : (most : ℕ) (ns : List NodeId) (n : NodeId) (k : ℕ) → length ns ≤ most → climb up k n ≡ None
      → ((j : ℕ) (x m : NodeId) → climb up j n ≡ Some x → up x ≡ Some m → Has ns x) → ends_within up (suc most) n ≡ true
  ends_soon zero ns n k few e closed = go (up n) refl
    where
      go : (o : Option NodeId) → up n ≡ o → (elim o [ None ↦ true | Some p ↦ ends_within up zero p ]) ≡ true
      go None u = refl
      go (Some p) u = let some : 0 < length ns = has_some n ns (closed 0 n p refl u) in absurd (omega arith)
  ends_soon (suc most) ns n k few e closed = go (up n) refl k e (λ p r i l f g. ends_soon most r p i l f g)
    where
      go : (o : Option NodeId) → up n ≡ o → (k : ℕ) → climb up k n ≡ None
          → ((p : NodeId) (r : List NodeId) (i : ℕ) → length r ≤ most → climb up i p ≡ None → ((j : ℕ) (x m : NodeId) → climb up j p ≡ Some x → up x ≡ Some m → Has r x) → ends_within up (suc most) p ≡ true)
          → (elim o [ None ↦ true | Some p ↦ ends_within up (suc most) p ]) ≡ true
      go None u k e rest = refl
      go (Some p) u zero e rest = cc
      go (Some p) u (suc i) e rest =
          let less : length (without_node n ns) < length ns = shorter n ns (closed 0 n p refl u) in
          let fewer : length (without_node n ns) ≤ most = omega (arith, less) in
          rest p (without_node n ns) i fewer (sym (ap (option_and_then (climb up i)) u) ∙ e) (λ j x m c v.
          let from_n : climb up (suc j) n ≡ Some x = ap (option_and_then (climb up j)) u ∙ c in
          others n x ns (closed (suc j) x m from_n v) (λ q. met_again up (suc i) (suc i) j n (omega arith) (from_n ∙ ap (λ y. Some y) q) e))
