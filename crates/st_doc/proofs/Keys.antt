-- The keys of a map as a list.
use Rattle.std.proofs.Common.{◌≡◌, ◌≢◌, ◌↔◌, ◌⊎◌, Bool, true, false, cond, List, [], ◌∷◌, ◌++◌, Option, Some, None, IsSome, refl, sym, ap, ◌∙◌, append_assoc, inl, inr}
use Rattle.std.specs.declared.cmp.Ordering.TheVariants.{Less}
use Rattle.std.specs.List.{AllByRecursion}
use Rattle.std.specs.List.Sorted.{IsStrictlySortedBy}
use Rattle.std.specs.Map.{lookup, keys_of}
use Rattle.std.specs.Ordering.{is_eq}
use Rattle.st_ids.specs.Listing.{AreDistinct, Has}
use Rattle.st_ids.specs.Order.{field_cmp, node_cmp, same_field, same_node}
use Rattle.st_ids.specs.declared.names.FieldId.{FieldId}
use Rattle.st_ids.specs.declared.names.NodeId.{NodeId}
use Rattle.st_ids.proofs.Orders.{same_field-true, same_field-itself, same_node-true, same_node-itself}
use Rattle.st_doc.specs.Nodes.{type_of}
use Rattle.st_marks.specs.declared.changes.NewNode.{NewNode}

-- by a test that tells keys apart, a key is there exactly where something is found under it
pub keys-found : {K V : Type 0} (same : K → K → Bool) → ((a b : K) → same a b ≡ true → a ≡ b) → ((a : K) → same a a ≡ true)
    → (es : List (K × V)) (k : K) → Has (keys_of es) k ↔ IsSome (lookup (λ j. same k j) es)
keys-found same told itself [] k = (λ h. absurd h, λ s. absurd (let bad : false ≡ true = s in cc))
keys-found {V = V} same told itself (e ∷ es) k = go (same k e.0) refl (keys-found same told itself es k)
  where
    apart : same k e.0 ≡ false → e.0 ≡ k → ⊥
    apart f q = let bad : true ≡ false = sym (itself k) ∙ ap (λ j. same k j) (sym q) ∙ f in cc

    go : (b : Bool) → same k e.0 ≡ b → (Has (keys_of es) k ↔ IsSome (lookup (λ j. same k j) es)) → ((e.0 ≡ k) ⊎ Has (keys_of es) k) ↔ IsSome (cond (same k e.0) (Some e.1) (lookup (λ j. same k j) es))
    go true t rest = rw t (λ h. refl, λ s. inl (sym (told k e.0 t)))
    go false f rest = rw f (λ h. elim h [ inl q ↦ absurd (apart f q) | inr r ↦ rest.0 r ], λ s. inr (rest.1 s))

pub nodes-found : {V : Type 0} (es : List (NodeId × V)) (n : NodeId) → Has (keys_of es) n ↔ IsSome (lookup (λ k. is_eq (node_cmp n k)) es)
unfolding same_node
nodes-found es n = keys-found same_node same_node-true same_node-itself es n

pub fields-found : {V : Type 0} (es : List (FieldId × V)) (f : FieldId) → Has (keys_of es) f ↔ IsSome (lookup (λ k. is_eq (field_cmp f k)) es)
unfolding same_field
fields-found es f = keys-found same_field same_field-true same_field-itself es f

-- a node has a type exactly where something is kept of it
pub type-is_some : (o : Option NewNode) → IsSome o ↔ IsSome (type_of o)
type-is_some None = (λ h. h, λ h. h)
type-is_some (Some x) = (λ h. refl, λ h. refl)

pub nodes-typed : (es : List (NodeId × NewNode)) (n : NodeId) → Has (keys_of es) n ↔ IsSome (type_of (lookup (λ k. is_eq (node_cmp n k)) es))
nodes-typed es n =
    let found = nodes-found es n in
    let typed = type-is_some (lookup (λ k. is_eq (node_cmp n k)) es) in
    (λ h. typed.0 (found.0 h), λ s. found.1 (typed.1 s))

apart_from : (m : NodeId) (ns : List NodeId) → AllByRecursion (λ n. node_cmp m n ≡ Less) ns → AllByRecursion (λ n. n ≢ m) ns
unfolding same_node
apart_from m [] a = tt
apart_from m (n ∷ ns) a = (λ q. (let bad : is_eq Less ≡ true = sym (ap is_eq a.0) ∙ ap (λ n. is_eq (node_cmp m n)) q ∙ same_node-itself m in cc), apart_from m ns a.1)

-- nodes that rise are there once
pub rising_nodes-once : (ns : List NodeId) → IsStrictlySortedBy node_cmp ns → AreDistinct (λ n. n) ns
unfolding IsStrictlySortedBy
rising_nodes-once [] a = tt
rising_nodes-once (n ∷ ns) a = (apart_from n ns a.0, rising_nodes-once ns a.1)

-- one key more is put behind the others
pub key_more : {K V : Type 0} (before now : List K) (items left : List (K × V)) (whole : List K) (k : K) (v : V) → items ≡ (k, v) ∷ left → now ≡ before ++ k ∷ []
    → before ++ keys_of items ≡ whole → now ++ keys_of left ≡ whole
key_more before now items left whole k v first pushed so_far =
    ap (λ l. l ++ keys_of left) pushed ∙ append_assoc before (k ∷ []) (keys_of left) ∙ ap (λ l. before ++ keys_of l) (sym first) ∙ so_far
