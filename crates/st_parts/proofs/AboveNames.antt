-- Which nodes an intent mentions in a sound document can be told: those that it names there, and all above them.
use Rattle.std.proofs.Common.{◌≡◌, ◌↔◌, ℕ, zero, suc, Bool, true, false, List, [], ◌∷◌, ◌++◌, Option, Some, None, IsSome, option_and_then, refl, sym, ap, ◌∙◌, subst, inl, inr, ◌⊎◌}
use Rattle.std.specs.Option.{option_map_or}
use Rattle.st_ids.specs.Listing.{Has}
use Rattle.st_ids.specs.declared.names.NodeId.{NodeId}
use Rattle.st_marks.specs.declared.intents.Intent.{Intent}
use Rattle.st_marks.specs.Document.{Document, IsSoundInForm, above, climb}
use Rattle.st_marks.specs.Embedding.{IsMentionedByIntent, is_among, named_by_intent}
use Rattle.st_marks.proofs.Members.{append_left, append_right, has-append}
use Rattle.st_normal.proofs.NoRings.{among_has}

-- a node and those above it, as far as so many steps lead
abbrev path : (NodeId → Option NodeId) → ℕ → NodeId → List NodeId
path up zero n = n ∷ []
path up (suc k) n = n ∷ option_map_or (path up k) (up n) []

path-has : (up : NodeId → Option NodeId) (k : ℕ) (n m : NodeId) → Has (path up k n) m → (j : ℕ) × (climb up j n ≡ Some m)
path-has up zero n m (inl e) = (0, ap (λ x. Some x) e)
path-has up zero n m (inr h) = absurd h
path-has up (suc k) n m (inl e) = (0, ap (λ x. Some x) e)
path-has up (suc k) n m (inr h) = go (up n) refl (λ p i. path-has up k p m i) h
  where
    go : (o : Option NodeId) → up n ≡ o → ((p : NodeId) → Has (path up k p) m → (j : ℕ) × (climb up j p ≡ Some m)) → Has (option_map_or (path up k) o []) m → (j : ℕ) × (climb up j n ≡ Some m)
    go None e rest h = absurd h
    go (Some p) e rest h = let r = rest p h in (suc r.0, ap (option_and_then (climb up r.0)) e ∙ r.1)

has-path : (up : NodeId → Option NodeId) (k j : ℕ) (n m : NodeId) → climb up k n ≡ None → climb up j n ≡ Some m → Has (path up k n) m
has-path up zero j n m end at = absurd (let bad : Some n ≡ None = end in cc)
has-path up (suc k) zero n m end at = inl (let e : Some n ≡ Some m = at in cc)
has-path up (suc k) (suc j) n m end at = go (up n) refl (λ p e i. has-path up k j p m e i) end at
  where
    go : (o : Option NodeId) → up n ≡ o → ((p : NodeId) → climb up k p ≡ None → climb up j p ≡ Some m → Has (path up k p) m) → option_and_then (climb up k) o ≡ None → option_and_then (climb up j) o ≡ Some m → Has (n ∷ option_map_or (path up k) (up n) []) m
    go None e rest end at = absurd (let bad : None ≡ Some m = at in cc)
    go (Some p) e rest end at = inr (subst (λ o. Has (option_map_or (path up k) o []) m) (sym e) (rest p end at))

abbrev if_there : {A B : Type 0} → Option A → List B → List B
if_there None xs = []
if_there (Some a) xs = xs

has-if_there : {A B : Type 0} (o : Option A) (xs : List B) (x : B) → Has (if_there o xs) x → IsSome o × Has xs x
has-if_there None xs x h = absurd h
has-if_there (Some a) xs x h = (refl, h)

if_there-has : {A B : Type 0} (o : Option A) (xs : List B) (x : B) → IsSome o → Has xs x → Has (if_there o xs) x
if_there-has None xs x i h = absurd (let bad : false ≡ true = i in cc)
if_there-has (Some a) xs x i h = h

module _ (D : Document) (s : IsSoundInForm D) where
  abbrev above_all : List NodeId → List NodeId
  above_all [] = []
  above_all (x ∷ xs) = if_there (D.nodes x) (path (above D) (s.no_ring x).0 x) ++ above_all xs

  abbrev IsOver : List NodeId → NodeId → Type 0
  IsOver xs n = (x : NodeId) × Has xs x × IsSome (D.nodes x) × (k : ℕ) × (climb (above D) k x ≡ Some n)

  above_all-has : (xs : List NodeId) (n : NodeId) → Has (above_all xs) n → IsOver xs n
  above_all-has [] n h = absurd h
  above_all-has (x ∷ xs) n h = go (λ i. above_all-has xs n i) (has-append (if_there (D.nodes x) (path (above D) (s.no_ring x).0 x)) (above_all xs) n h)
    where
      go : (Has (above_all xs) n → IsOver xs n) → Has (if_there (D.nodes x) (path (above D) (s.no_ring x).0 x)) n ⊎ Has (above_all xs) n → IsOver (x ∷ xs) n
      go rest (inl i) = let r = has-if_there (D.nodes x) (path (above D) (s.no_ring x).0 x) n i in let q = path-has (above D) (s.no_ring x).0 x n r.1 in (x, inl refl, r.0, q.0, q.1)
      go rest (inr i) = let r = rest i in (r.0, inr r.1, r.2, r.3, r.4)

  has-above_all : (xs : List NodeId) (n x : NodeId) (k : ℕ) → Has xs x → IsSome (D.nodes x) → climb (above D) k x ≡ Some n → Has (above_all xs) n
  has-above_all [] n x k h there at = absurd h
  has-above_all (y ∷ xs) n x k (inl e) there at =
      append_left (if_there (D.nodes y) (path (above D) (s.no_ring y).0 y)) (above_all xs) n
      (if_there-has (D.nodes y) (path (above D) (s.no_ring y).0 y) n (subst (λ z. IsSome (D.nodes z)) (sym e) there)
      (has-path (above D) (s.no_ring y).0 k y n (s.no_ring y).1 (ap (climb (above D) k) e ∙ at)))
  has-above_all (y ∷ xs) n x k (inr h) there at = append_right (if_there (D.nodes y) (path (above D) (s.no_ring y).0 y)) (above_all xs) n (has-above_all xs n x k h there at)

  -- whether an intent mentions a node
  abbrev pub mentions_in : Intent → NodeId → Bool
  mentions_in N n = is_among (above_all (named_by_intent D N)) n

  pub mentions_which : (N : Intent) (n : NodeId) → (mentions_in N n ≡ true) ↔ IsMentionedByIntent D N n
  mentions_which N n = (
    λ e. above_all-has (named_by_intent D N) n ((among_has (above_all (named_by_intent D N)) n).0 e),
    λ i. (among_has (above_all (named_by_intent D N)) n).1 (has-above_all (named_by_intent D N) n i.0 i.3 i.1 i.2 i.4),
  )
