-- What a map has, once a value is put at a name that has none.
use Rattle.std.proofs.Common.{◌≡◌, Bool, true, false, cond, List, Option, Some, None, unwrap_or, [], ◌∷◌, refl, sym, ap, ◌∙◌, inl, inr}
use Rattle.std.specs.BTreeMap.{BTreeMap, get, is_at, keys}
use Rattle.std.specs.Cmp.{IsTotalOrder, Equal-is}
use Rattle.std.specs.Map.{keys_of, lookup}
use Rattle.std.specs.Option.{option_or}
use Rattle.std.specs.Ordering.{is_eq}
use Rattle.std.specs.declared.cmp.Ordering.{Ordering}
use Rattle.st_ids.specs.Listing.{Has}
use Rattle.st_ids.specs.Order.{node_cmp, same_node}
use Rattle.st_ids.specs.declared.names.NodeId.{NodeId}
use Rattle.st_ids.proofs.Orders.{same_node-true}
use Rattle.st_marks.specs.declared.places.Spot.{Spot}
use Rattle.st_marks.specs.Document.{node_of}

pub kept_at : {K V : Type 0} {cmp : K → K → Ordering} → IsTotalOrder cmp → (old put : BTreeMap K V) (new : List (K × V)) (k : K) (v w : V)
    → new ≡ put.entries → ((q : K) → get cmp put q ≡ cond (is_eq (cmp k q)) (Some w) (get cmp old q))
    → w ≡ unwrap_or (get cmp old k) v
    → (q : K) → lookup (is_at (cmp q)) new ≡ option_or (get cmp old q) (cond (is_eq (cmp k q)) (Some v) None)
kept_at {V} {cmp} order old put new k v w is writes was q = ap (lookup (is_at (cmp q))) is ∙ writes q ∙ at (is_eq (cmp k q)) refl
  where
    same : is_eq (cmp k q) ≡ true → get cmp old k ≡ get cmp old q
    same e i = lookup (λ x. is_eq (order.congr k q x ((Equal-is (cmp k q)).0 e) i)) old.entries

    first : (o : Option V) → Some (unwrap_or o v) ≡ option_or o (Some v)
    first None = refl
    first (Some x) = refl

    alone : (o : Option V) → o ≡ option_or o None
    alone None = refl
    alone (Some x) = refl

    at : (b : Bool) → is_eq (cmp k q) ≡ b → cond b (Some w) (get cmp old q) ≡ option_or (get cmp old q) (cond b (Some v) None)
    at true e = ap Some (was ∙ ap (λ o. unwrap_or o v) (same e)) ∙ first (get cmp old q)
    at false e = alone (get cmp old q)

-- a node with another above it, as a map of places tells, is a name of the map
has_key_in : (es : List (NodeId × Spot)) (n m : NodeId) → node_of (unwrap_or (lookup (is_at (node_cmp n)) es) Spot.Nowhere) ≡ Some m → Has (keys_of es) n
unfolding same_node
has_key_in [] n m e = cc
has_key_in (p ∷ es) n m e = go (same_node n p.0) refl e (λ f. has_key_in es n m f)
  where
    go : (b : Bool) → same_node n p.0 ≡ b → node_of (unwrap_or (cond b (Some p.1) (lookup (is_at (node_cmp n)) es)) Spot.Nowhere) ≡ Some m
        → (node_of (unwrap_or (lookup (is_at (node_cmp n)) es) Spot.Nowhere) ≡ Some m → Has (keys_of es) n) → Has (p.0 ∷ keys_of es) n
    go true t e rest = inl (sym (same_node-true n p.0 t))
    go false t e rest = inr (rest e)

pub has_key : (places : BTreeMap NodeId Spot) (n m : NodeId) → node_of (unwrap_or (get node_cmp places n) Spot.Nowhere) ≡ Some m → Has (keys places) n
has_key places n m e = has_key_in places.entries n m e
