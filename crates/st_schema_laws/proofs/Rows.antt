-- Lists of nodes and of what they show, cut and filtered.
use Rattle.std.proofs.Common.{◌≡◌, ℕ, zero, suc, ◌+◌, Bool, true, false, cond, not, List, [], ◌∷◌, ◌++◌, map, take, drop, filter, drop-drop, take-append-drop, refl, sym, ap, ◌∙◌, subst, inl, inr}
use Rattle.std.specs.List.{list_any}
use Rattle.serde_json.specs.Data.{Data}
use Rattle.st_ids.specs.Listing.{Has, AreDistinct}
use Rattle.st_ids.specs.Order.{same_node}
use Rattle.st_ids.specs.declared.names.NodeId.{NodeId}
use Rattle.st_ids.proofs.Orders.{same_node-true, same_node-itself}
use Rattle.st_marks.specs.declared.intents.Owned.{Owned}
use Rattle.st_marks.specs.Document.{Document, is_cell, slot}
use Rattle.st_marks.specs.LiveTree.{owners_shown}
use Rattle.st_marks.proofs.Members.{any-has, has-any, distinct-between, distinct-right}
use Rattle.st_schema_laws.proofs.Along.{AreShown}

-- ## Members

-- ## Filtered

pub filter_all : {A : Type 0} (p : A → Bool) (xs : List A) → ((x : A) → Has xs x → p x ≡ true) → filter p xs ≡ xs
filter_all p [] h = refl
filter_all p (x ∷ xs) h = ap (λ b. cond b (x ∷ filter p xs) (filter p xs)) (h x (inl refl)) ∙ ap (λ ys. x ∷ ys) (filter_all p xs (λ y i. h y (inr i)))

pub filter_none : {A : Type 0} (p : A → Bool) (xs : List A) → ((x : A) → Has xs x → p x ≡ false) → filter p xs ≡ []
filter_none p [] h = refl
filter_none p (x ∷ xs) h = ap (λ b. cond b (x ∷ filter p xs) (filter p xs)) (h x (inl refl)) ∙ filter_none p xs (λ y i. h y (inr i))

pub filter_joined : {A : Type 0} (p : A → Bool) (xs ys : List A) → filter p (xs ++ ys) ≡ filter p xs ++ filter p ys
filter_joined p [] ys = refl
filter_joined p (x ∷ xs) ys = go (p x) (filter_joined p xs ys)
  where
    go : (b : Bool) → filter p (xs ++ ys) ≡ filter p xs ++ filter p ys → cond b (x ∷ filter p (xs ++ ys)) (filter p (xs ++ ys)) ≡ cond b (x ∷ filter p xs) (filter p xs) ++ filter p ys
    go true e = ap (λ zs. x ∷ zs) e
    go false e = e

-- ## Among some nodes

abbrev pub among : List NodeId → NodeId → Bool
among ns x = list_any (λ n. same_node n x) ns

pub among-has : (ns : List NodeId) (x : NodeId) → among ns x ≡ true → Has ns x
among-has ns x e = let r = any-has (λ n. same_node n x) ns e in subst (Has ns) (same_node-true r.0 x r.2) r.1

pub has-among : (ns : List NodeId) (x : NodeId) → Has ns x → among ns x ≡ true
has-among ns x h = has-any (λ n. same_node n x) ns x h (same_node-itself x)

pub not-among : (ns : List NodeId) (x : NodeId) → (Has ns x → ⊥) → among ns x ≡ false
not-among ns x out = go (among ns x) refl
  where
    go : (b : Bool) → among ns x ≡ b → among ns x ≡ false
    go false e = e
    go true e = absurd (out (among-has ns x e))

-- distinct nodes without those of a middle part
module _ (a b c : List NodeId) (once : AreDistinct (λ (x : NodeId). x) (a ++ (b ++ c))) where
  pub left_apart : (x : NodeId) → Has a x → Has b x → ⊥
  left_apart x h i = distinct-between (λ (x : NodeId). x) a (b ++ c) x x once h (append_left_of b c x i) refl
    where
      append_left_of : (xs ys : List NodeId) (y : NodeId) → Has xs y → Has (xs ++ ys) y
      append_left_of [] ys y k = absurd k
      append_left_of (z ∷ xs) ys y (inl q) = inl q
      append_left_of (z ∷ xs) ys y (inr k) = inr (append_left_of xs ys y k)

  pub right_apart : (x : NodeId) → Has c x → Has b x → ⊥
  right_apart x h i = distinct-between (λ (x : NodeId). x) b c x x (distinct-right (λ (x : NodeId). x) a (b ++ c) once) i h refl

  pub without_middle : filter (λ x. not (among b x)) (a ++ (b ++ c)) ≡ a ++ c
  without_middle =
      filter_joined (λ x. not (among b x)) a (b ++ c)
      ∙ (λ i. left i ++ (filter_joined (λ x. not (among b x)) b c ∙ (λ j. middle j ++ right j)) i)
    where
      left : filter (λ x. not (among b x)) a ≡ a
      left = filter_all (λ x. not (among b x)) a (λ x h. ap not (not-among b x (left_apart x h)))

      middle : filter (λ x. not (among b x)) b ≡ []
      middle = filter_none (λ x. not (among b x)) b (λ x h. ap not (has-among b x h))

      right : filter (λ x. not (among b x)) c ≡ c
      right = filter_all (λ x. not (among b x)) c (λ x h. ap not (not-among b x (right_apart x h)))

-- so many items from an index on
pub without_part : (xs : List NodeId) (i c : ℕ) → AreDistinct (λ (x : NodeId). x) xs → filter (λ x. not (among (take c (drop i xs)) x)) xs ≡ take i xs ++ drop (i + c) xs
without_part xs i c once =
    ap (filter (λ x. not (among (take c (drop i xs)) x))) (sym parts)
    ∙ without_middle (take i xs) (take c (drop i xs)) (drop c (drop i xs)) (subst (AreDistinct (λ (x : NodeId). x)) (sym parts) once)
    ∙ ap (λ ys. take i xs ++ ys) (drop-drop c i xs)
  where
    parts : take i xs ++ (take c (drop i xs) ++ drop c (drop i xs)) ≡ xs
    parts = ap (λ ys. take i xs ++ ys) (take-append-drop c (drop i xs)) ∙ take-append-drop i xs

-- ## What cells show

-- where each cell is full as before if its owner passes a test, and else empty
pub owners_filtered : (D E : Document) (p : NodeId → Bool) (os : List Owned) → ((o : Owned) → Has os o → is_cell o.cell (E.place o.node) ≡ cond (p o.node) (is_cell o.cell (D.place o.node)) false)
    → owners_shown (map (slot E) os) ≡ filter p (owners_shown (map (slot D) os))
owners_filtered D E p [] h = refl
owners_filtered D E p (o ∷ os) h =
    ap (λ b. cond b (o.node ∷ []) [] ++ owners_shown (map (slot E) os)) (h o (inl refl))
    ∙ go (is_cell o.cell (D.place o.node)) (p o.node) refl (owners_filtered D E p os (λ q i. h q (inr i)))
  where
    go : (full b : Bool) → p o.node ≡ b → owners_shown (map (slot E) os) ≡ filter p (owners_shown (map (slot D) os))
        → cond (cond b full false) (o.node ∷ []) [] ++ owners_shown (map (slot E) os) ≡ filter p (cond full (o.node ∷ []) [] ++ owners_shown (map (slot D) os))
    go true true e rest = ap (λ ns. o.node ∷ ns) rest ∙ ap (λ b. cond b (o.node ∷ filter p (owners_shown (map (slot D) os))) (filter p (owners_shown (map (slot D) os)))) (sym e)
    go true false e rest = rest ∙ ap (λ b. cond b (o.node ∷ filter p (owners_shown (map (slot D) os))) (filter p (owners_shown (map (slot D) os)))) (sym e)
    go false true e rest = rest
    go false false e rest = rest

-- where each cell is full as before
pub owners_same : (D E : Document) (os : List Owned) → ((o : Owned) → Has os o → is_cell o.cell (E.place o.node) ≡ is_cell o.cell (D.place o.node)) → owners_shown (map (slot E) os) ≡ owners_shown (map (slot D) os)
owners_same D E [] h = refl
owners_same D E (o ∷ os) h = λ i. cond (h o (inl refl) i) (o.node ∷ []) [] ++ owners_same D E os (λ q k. h q (inr k)) i

-- full cells show their owners
pub all_full : (E : Document) (os : List Owned) → ((o : Owned) → Has os o → is_cell o.cell (E.place o.node) ≡ true) → owners_shown (map (slot E) os) ≡ map (λ (o : Owned). o.node) os
all_full E [] h = refl
all_full E (o ∷ os) h = (λ i. cond (h o (inl refl) i) (o.node ∷ []) [] ++ owners_shown (map (slot E) os)) ∙ ap (λ ns. o.node ∷ ns) (all_full E os (λ p k. h p (inr k)))

-- ## What nodes show, cut and joined

module _ (is_array : List ℕ → Bool) (D : Document) where
  pub shown_take : (i : ℕ) (ns : List NodeId) (ds : List Data) → AreShown is_array D ns ds → AreShown is_array D (take i ns) (take i ds)
  shown_take zero ns ds h = tt
  shown_take (suc i) [] [] h = tt
  shown_take (suc i) [] (d ∷ ds) h = absurd h
  shown_take (suc i) (n ∷ ns) [] h = absurd h
  shown_take (suc i) (n ∷ ns) (d ∷ ds) h = (h.0, shown_take i ns ds h.1)

  pub shown_drop : (i : ℕ) (ns : List NodeId) (ds : List Data) → AreShown is_array D ns ds → AreShown is_array D (drop i ns) (drop i ds)
  shown_drop zero ns ds h = h
  shown_drop (suc i) [] [] h = tt
  shown_drop (suc i) [] (d ∷ ds) h = absurd h
  shown_drop (suc i) (n ∷ ns) [] h = absurd h
  shown_drop (suc i) (n ∷ ns) (d ∷ ds) h = shown_drop i ns ds h.1

  pub shown_joined : (ns : List NodeId) (ds : List Data) (ms : List NodeId) (es : List Data) → AreShown is_array D ns ds → AreShown is_array D ms es → AreShown is_array D (ns ++ ms) (ds ++ es)
  shown_joined [] [] ms es h k = k
  shown_joined [] (d ∷ ds) ms es h k = absurd h
  shown_joined (n ∷ ns) [] ms es h k = absurd h
  shown_joined (n ∷ ns) (d ∷ ds) ms es h k = (h.0, shown_joined ns ds ms es h.1 k)
