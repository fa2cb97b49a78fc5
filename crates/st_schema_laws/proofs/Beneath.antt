-- What stands beneath what: there is one way up from a node, and it leads to no node twice.
use Rattle.std.proofs.Common.{◌≡◌, ℕ, zero, suc, ◌+◌, ◌-◌, ◌≤◌, ◌<◌, Bool, true, false, cond, List, [], ◌∷◌, ◌++◌, Option, Some, None, refl, sym, ap, ◌∙◌, arith, inl, inr, ◌⊎◌, option_and_then}
use Rattle.std.proofs.lemmas.Bool.{cases_lt}
use Rattle.st_ids.specs.Listing.{Has}
use Rattle.st_ids.specs.declared.names.CellId.{CellId}
use Rattle.st_ids.specs.declared.names.NodeId.{NodeId}
use Rattle.st_marks.specs.declared.places.Slot.{Slot}
use Rattle.st_marks.specs.declared.places.Spot.{Spot}
use Rattle.st_marks.specs.Document.{Document, IsSoundInForm, ClimbsToAnEnd, above, climb, node_of, content}
use Rattle.st_marks.specs.LiveTree.{owners_shown, register}
use Rattle.st_marks.proofs.Climb.{climb_more, stands}
use Rattle.st_schema_laws.specs.Alike.{IsFrom}

-- ## Ways up

-- of two ways up from a node, one goes on from the other
abbrev pub OneWay : (NodeId → Option NodeId) → NodeId → NodeId → Type 0
OneWay up x y = (x ≡ y) ⊎ (((i : ℕ) × (climb up (suc i) x ≡ Some y)) ⊎ ((i : ℕ) × (climb up (suc i) y ≡ Some x)))

pub one_way : (up : NodeId → Option NodeId) (j k : ℕ) (m x y : NodeId) → climb up j m ≡ Some x → climb up k m ≡ Some y → OneWay up x y
one_way up zero zero m x y e f = let p : m ≡ x = cc in let q : m ≡ y = cc in inl (sym p ∙ q)
one_way up zero (suc k) m x y e f = let p : m ≡ x = cc in inr (inl (k, ap (climb up (suc k)) (sym p) ∙ f))
one_way up (suc j) zero m x y e f = let p : m ≡ y = cc in inr (inr (j, ap (climb up (suc j)) (sym p) ∙ e))
one_way up (suc j) (suc k) m x y e f = go (up m) (λ p g h. one_way up j k p x y g h) e f
  where
    go : (o : Option NodeId) → ((p : NodeId) → climb up j p ≡ Some x → climb up k p ≡ Some y → OneWay up x y) → option_and_then (climb up j) o ≡ Some x → option_and_then (climb up k) o ≡ Some y → OneWay up x y
    go None rest e f = cc
    go (Some p) rest e f = rest p e f

-- past the end there is nothing
none_on : (up : NodeId → Option NodeId) (k m : ℕ) (x : NodeId) → climb up k x ≡ None → k ≤ m → climb up m x ≡ None
none_on up zero m x e le = cc
none_on up (suc k) zero x e le = absurd (omega arith)
none_on up (suc k) (suc m) x e le = go (up x) (λ p f. none_on up k m p f (omega arith)) e
  where
    go : (o : Option NodeId) → ((p : NodeId) → climb up k p ≡ None → climb up m p ≡ None) → option_and_then (climb up k) o ≡ None → option_and_then (climb up m) o ≡ None
    go None rest e = refl
    go (Some p) rest e = rest p e

climb_on : (up : NodeId → Option NodeId) (j k m : ℕ) (x y : NodeId) → m ≡ j + k → climb up j x ≡ Some y → climb up m x ≡ climb up k y
climb_on up zero k m x y e f = let p : x ≡ y = cc in let q : m ≡ k = omega (arith, e) in λ i. climb up (q i) (p i)
climb_on up (suc j) k m x y e f = let q : m ≡ suc (j + k) = omega (arith, e) in ap (λ l. climb up l x) q ∙ go (up x) (λ p g. climb_on up j k (j + k) p y refl g) f
  where
    go : (o : Option NodeId) → ((p : NodeId) → climb up j p ≡ Some y → climb up (j + k) p ≡ climb up k y) → option_and_then (climb up j) o ≡ Some y → option_and_then (climb up (j + k)) o ≡ climb up k y
    go None rest f = cc
    go (Some p) rest f = rest p f

goes_round : (up : NodeId → Option NodeId) (i : ℕ) (x : NodeId) → climb up (suc i) x ≡ Some x → (fuel k : ℕ) → k < fuel → climb up k x ≡ None → ⊥
goes_round up i x e zero k less f = omega arith
goes_round up i x e (suc fuel) k less f = elim (cases_lt k (suc i)) [
  | inl below ↦ (let none = none_on up k (suc i) x f (omega (arith, below)) in let bad : None ≡ Some x = sym none ∙ e in cc)
  | inr past ↦ (let j = k - suc i in goes_round up i x e fuel j (omega (arith, past, less)) (sym (climb_on up (suc i) j k x x (omega (arith, past)) e) ∙ f))
]

-- no node is above itself
pub not_round : (up : NodeId → Option NodeId) (i : ℕ) (x : NodeId) → ClimbsToAnEnd up x → climb up (suc i) x ≡ Some x → ⊥
not_round up i x ends e = goes_round up i x e (ends.0 + 1) ends.0 (omega arith) ends.1

one_up : (up : NodeId → Option NodeId) (i : ℕ) (x y n : NodeId) → up x ≡ Some n → climb up (suc i) x ≡ Some y → climb up i n ≡ Some y
one_up up i x y n e f = ap (option_and_then (climb up i)) (sym e) ∙ f

-- ## In a document

module _ (D : Document) (sound : IsSoundInForm D) where
  -- nothing beneath a node is above it
  pub not_beneath : (n x : NodeId) → above D x ≡ Some n → IsFrom D x n → ⊥
  not_beneath n x e w = not_round (above D) w.0 n (sound.no_ring n) (climb_more (above D) w.0 n x n w.1 e)

  -- nodes beneath one node have nothing beneath them in common
  pub one_child : (n x y m : NodeId) → above D x ≡ Some n → above D y ≡ Some n → IsFrom D x m → IsFrom D y m → x ≡ y
  one_child n x y m e f v w = elim (one_way (above D) v.0 w.0 m x y v.1 w.1) [
    | inl same ↦ same
    | inr (inl h) ↦ absurd (not_beneath n y f (h.0, one_up (above D) h.0 x y n e h.1))
    | inr (inr h) ↦ absurd (not_beneath n x e (h.0, one_up (above D) h.0 y x n f h.1))
  ]

  -- beneath a node that is beneath another
  pub from_child : (n x m : NodeId) → above D x ≡ Some n → IsFrom D x m → IsFrom D n m
  from_child n x m e w = (suc w.0, climb_more (above D) w.0 m x n w.1 e)

  -- what a row shows stands in it
  pub owner_stands : (n x : NodeId) (cells : List Slot) → ((c : CellId) → Has cells (record { cell = c; node = x; full = true }) → (b : CellId) × (D.place x ≡ Spot.Row n b)) → Has (owners_shown cells) x → (b : CellId) × (D.place x ≡ Spot.Row n b)
  owner_stands n x [] there h = absurd h
  owner_stands n x (s ∷ cells) there h = go s.full refl (owner_stands n x cells (λ c k. there c (inr k))) h
    where
      go : (b : Bool) → s.full ≡ b → (Has (owners_shown cells) x → (c : CellId) × (D.place x ≡ Spot.Row n c)) → Has (cond b (s.node ∷ []) [] ++ owners_shown cells) x → (c : CellId) × (D.place x ≡ Spot.Row n c)
      go true e rest (inl q) = there s.cell (inl (λ i. record { cell = s.cell; node = q i; full = e i }))
      go true e rest (inr k) = rest k
      go false e rest k = rest k

  pub in_row : (n x : NodeId) → Has (owners_shown (content D n)) x → (b : CellId) × (D.place x ≡ Spot.Row n b)
  in_row n x h = owner_stands n x (content D n) (λ c k. (c, stands D sound x n c k)) h

  pub row_above : (n x : NodeId) → Has (owners_shown (content D n)) x → above D x ≡ Some n
  row_above n x h = ap node_of (in_row n x h).1

  pub held_above : (n x : NodeId) (k : List ℕ) → D.held (register n k) ≡ Some x → above D x ≡ Some n
  held_above n x k e = ap node_of ((sound.one_held x (register n k)).0 e)
