-- What is first at a name in lists of pairs, and a map that keeps what came first.
use Rattle.std.proofs.Common.{◌≡◌, ℕ, ◌+◌, ◌<◌, Bool, true, false, cond, List, [], ◌∷◌, ◌++◌, length, map, take, get_or, Option, Some, None, option_map, refl, sym, ap, ◌∙◌, subst, inl, inr, ◌⊎◌}
use Rattle.std.specs.List.{find, flat_map}
use Rattle.std.specs.Option.{option_or}
use Rattle.std.proofs.lemmas.Grind.{flat_map-append}
use Rattle.std.proofs.lemmas.List.{append-nil}
use Rattle.std.proofs.lemmas.List.Folds.{find-append}
use Rattle.st_ids.specs.Listing.{Has}
use Rattle.st_ids.specs.Order.{same_node}
use Rattle.st_ids.specs.declared.names.NodeId.{NodeId}
use Rattle.st_ids.specs.Root.{root}
use Rattle.st_marks.specs.declared.marks.How.TheVariants.{Stay}
use Rattle.st_marks.specs.declared.marks.Loose.{Loose}
use Rattle.st_ids.proofs.Orders.{same_node-itself, same_node-true}
use Rattle.st_lemmas.proofs.Bools.{true-false}
use Rattle.st_lemmas.proofs.FirstItems.{take_one}
use Rattle.st_lemmas.proofs.Lists.{map-append}
use Rattle.st_lemmas.proofs.Options.{option_map-Some, option_or-assoc}
use Rattle.st_marks.proofs.Members.{first-has, none-has}
use Rattle.st_puts.specs.inside.First.{first_at}

module _ {V : Type 0} where
  pub first-append : (xs ys : List (NodeId × V)) (n : NodeId) → first_at (xs ++ ys) n ≡ option_or (first_at xs n) (first_at ys n)
  first-append xs ys n =
      ap (option_map (λ (p : NodeId × V). p.1)) (find-append (λ (p : NodeId × V). same_node p.0 n) xs ys)
      ∙ both (find (λ (p : NodeId × V). same_node p.0 n) xs) (find (λ (p : NodeId × V). same_node p.0 n) ys)
    where
      both : (a b : Option (NodeId × V)) → option_map (λ (p : NodeId × V). p.1) (option_or a b) ≡ option_or (option_map (λ (p : NodeId × V). p.1) a) (option_map (λ (p : NodeId × V). p.1) b)
      both None b = refl
      both (Some p) b = refl

  -- ## A map that keeps what came first

  pub first_one : (k : NodeId) (v : V) (n : NodeId) → cond (same_node k n) (Some v) None ≡ first_at ((k, v) ∷ []) n
  first_one k v n = go (same_node k n)
    where
      go : (b : Bool) → cond b (Some v) None ≡ option_map (λ (p : NodeId × V). p.1) (cond b (Some (k, v)) None)
      go true = refl
      go false = refl

  pub kept_then : (old before now : Option V) (xs ys : List (NodeId × V)) (n : NodeId) → before ≡ option_or old (first_at xs n) → now ≡ option_or before (first_at ys n) → now ≡ option_or old (first_at (xs ++ ys) n)
  kept_then old before now xs ys n so_far h =
      h ∙ ap (λ o. option_or o (first_at ys n)) so_far ∙ option_or-assoc old (first_at xs n) (first_at ys n) ∙ ap (option_or old) (sym (first-append xs ys n))

  pub kept_more : {A : Type 0} (f : A → List (NodeId × V)) (old before now : Option V) (n : NodeId) (xs : List A) (i : ℕ) (d x : A) → i < length xs → get_or xs i d ≡ x
      → before ≡ option_or old (first_at (flat_map f (take i xs)) n) → now ≡ option_or before (first_at (f x) n)
      → now ≡ option_or old (first_at (flat_map f (take (i + 1) xs)) n)
  kept_more f old before now n xs i d x inside at so_far h =
      kept_then old before now (flat_map f (take i xs)) (f x) n so_far h
      ∙ ap (λ l. option_or old (first_at l n)) (ap (λ l. flat_map f (take i xs) ++ l) (sym (append-nil (f x))) ∙ sym (flat_map-append f (take i xs) (x ∷ [])) ∙ ap (flat_map f) (sym (take_one xs i d x inside at)))

  pub kept_mapped : {A : Type 0} (f : A → NodeId × V) (old before now : Option V) (n : NodeId) (xs : List A) (i : ℕ) (d x : A) → i < length xs → get_or xs i d ≡ x
      → before ≡ option_or old (first_at (map f (take i xs)) n) → now ≡ option_or before (cond (same_node (f x).0 n) (Some (f x).1) None)
      → now ≡ option_or old (first_at (map f (take (i + 1) xs)) n)
  kept_mapped f old before now n xs i d x inside at so_far h =
      kept_then old before now (map f (take i xs)) (f x ∷ []) n so_far (h ∙ ap (option_or before) (first_one (f x).0 (f x).1 n))
      ∙ ap (λ l. option_or old (first_at l n)) (sym (map-append f (take i xs) (x ∷ [])) ∙ ap (map f) (sym (take_one xs i d x inside at)))

  -- ## What is first is there

  pub first-is : (ps : List (NodeId × V)) (n : NodeId) (v : V) → first_at ps n ≡ Some v → Has ps (n, v)
  first-is ps n v e =
      let r = option_map-Some (λ (p : NodeId × V). p.1) (find (λ (p : NodeId × V). same_node p.0 n) ps) v e in
      let h = first-has (λ (p : NodeId × V). same_node p.0 n) ps r.0 r.1 in
      subst (Has ps) (λ i. (same_node-true r.0.0 n h.1 i, r.2 i)) h.0

  pub is-first : (ps : List (NodeId × V)) (n : NodeId) (v : V) → Has ps (n, v) → (w : V) × (first_at ps n ≡ Some w)
  is-first ps n v h = go (find (λ (p : NodeId × V). same_node p.0 n) ps) refl
    where
      go : (o : Option (NodeId × V)) → find (λ (p : NodeId × V). same_node p.0 n) ps ≡ o → (w : V) × (first_at ps n ≡ Some w)
      go (Some p) e = (p.1, ap (option_map (λ (p : NodeId × V). p.1)) e)
      go None e = absurd (true-false (same_node-itself n) (none-has (λ (p : NodeId × V). same_node p.0 n) ps (n, v) e h))

-- what is first in two lists
pub either-first : {V : Type 0} (a b : Option V) (v : V) → option_or a b ≡ Some v → (a ≡ Some v) × Unit {0} ⊎ (a ≡ None) × (b ≡ Some v)
either-first (Some x) b v e = inl (e, tt)
either-first None b v e = inr (refl, e)

-- some loose node
abbrev pub no_loose : Loose
no_loose = record { node = root; how = Stay }
