-- The places after an intent, whole and void.
use Rattle.std.proofs.Common.{◌≡◌, ℕ, ◌+◌, ◌<◌, Bool, true, false, cond, ◌&&◌, ◌||◌, List, length, take, get_or, Option, Some, None, IsSome, refl, sym, ap, ◌∙◌, option_map, unwrap_or, is_some}
use Rattle.std.specs.List.{list_any}
use Rattle.std.specs.Option.{option_or, option_map_or}
use Rattle.st_ids.specs.Order.{same_node}
use Rattle.st_ids.specs.declared.names.CellId.{CellId}
use Rattle.st_ids.specs.declared.names.FieldId.{FieldId}
use Rattle.st_ids.specs.declared.names.NodeId.{NodeId}
use Rattle.st_ids.proofs.Orders.{same_node-true}
use Rattle.st_marks.specs.declared.changes.NewNode.{NewNode}
use Rattle.st_marks.specs.declared.intents.Intent.{Intent}
use Rattle.st_marks.specs.declared.intents.To.{To}
use Rattle.st_marks.specs.declared.places.Spot.{Spot}
use Rattle.st_marks.specs.Document.{Document, IsSoundInForm, NodeType}
use Rattle.st_marks.specs.Intent.{Fits, is_new, put_of, clears}
use Rattle.st_marks.specs.CarryOut.{spot_of, place_after, with_names, is_put_in_new}
use Rattle.st_doc.specs.inside.Ahead.{place_ahead, in_new, inside_new}
use Rattle.st_doc.specs.inside.Evictions.{spot_if_cleared}
use Rattle.st_lemmas.proofs.FirstItems.{any_more}

-- where a node stands after evictions and puts, by where its put leads
pub placed_ahead : (N : Intent) (target o : Option Spot)
    → unwrap_or (option_or (option_or target (spot_if_cleared N.clear (unwrap_or o Spot.Nowhere))) o) Spot.Nowhere ≡ place_ahead N target (unwrap_or o Spot.Nowhere)
placed_ahead N (Some spot) o = refl
placed_ahead N None None = refl
placed_ahead N None (Some Spot.Nowhere) = refl
placed_ahead N None (Some (Spot.Row n c)) = refl
placed_ahead N None (Some (Spot.Register f)) = go (clears N f)
  where
    go : (b : Bool) → unwrap_or (option_or (cond b (Some Spot.Nowhere) None) (Some (Spot.Register f))) Spot.Nowhere ≡ cond b Spot.Nowhere (Spot.Register f)
    go true = refl
    go false = refl

-- where it stands after its put
pub ahead_after : (row_of : CellId → Option NodeId) (N : Intent) (to : Option To) (before : Spot) → place_ahead N (option_map (spot_of row_of) to) before ≡ place_after row_of N to before
ahead_after row_of N (Some to) before = refl
ahead_after row_of N None before = refl

-- where they stand after a void intent
pub placed_void : (D : Document) (N : Intent) (n : NodeId) (o : Option Spot)
    → unwrap_or (option_or (cond (is_new N n) (inside_new N (option_map (spot_of (with_names D N).row_of) (put_of N n))) None) o) Spot.Nowhere
    ≡ cond (is_new N n && is_put_in_new D N n) (place_after (with_names D N).row_of N (put_of N n) (unwrap_or o Spot.Nowhere)) (unwrap_or o Spot.Nowhere)
placed_void D N n o = go (is_new N n) (put_of N n)
  where
    in_it : To → Bool
    in_it to = in_new N (spot_of (with_names D N).row_of to)

    put : (to : To) (b : Bool) → unwrap_or (option_or (cond b (Some (spot_of (with_names D N).row_of to)) None) o) Spot.Nowhere ≡ cond b (spot_of (with_names D N).row_of to) (unwrap_or o Spot.Nowhere)
    put to true = refl
    put to false = refl

    go : (b : Bool) (q : Option To) → unwrap_or (option_or (cond b (inside_new N (option_map (spot_of (with_names D N).row_of) q)) None) o) Spot.Nowhere
        ≡ cond (b && option_map_or (λ to. option_map_or (is_new N) (Rattle.st_marks.specs.Document.node_of (spot_of (with_names D N).row_of to)) false) q false)
        (place_after (with_names D N).row_of N q (unwrap_or o Spot.Nowhere)) (unwrap_or o Spot.Nowhere)
    go false q = refl
    go true None = refl
    go true (Some to) = put to (in_new N (spot_of (with_names D N).row_of to))

-- one more new node
pub kept_one : (N : Intent) (ms : List NewNode) (i : ℕ) (m : NewNode) (targets : NodeId → Option Spot) (n : NodeId) → i < length ms → get_or ms i m ≡ m
    → cond (same_node m.node n) (option_or (inside_new N (targets m.node)) (cond (list_any (λ (k : NewNode). same_node k.node n) (take i ms)) (inside_new N (targets n)) None))
    (cond (list_any (λ (k : NewNode). same_node k.node n) (take i ms)) (inside_new N (targets n)) None)
    ≡ cond (list_any (λ (k : NewNode). same_node k.node n) (take (i + 1) ms)) (inside_new N (targets n)) None
kept_one N ms i m targets n inside at = go (same_node m.node n) refl (list_any (λ (k : NewNode). same_node k.node n) (take i ms)) ∙ sym (ap (λ b. cond b (inside_new N (targets n)) None) (any_more (λ (k : NewNode). same_node k.node n) ms i m m inside at))
  where
    or_itself : (x : Option Spot) (a : Bool) → option_or x (cond a x None) ≡ cond (a || true) x None
    or_itself None true = refl
    or_itself None false = refl
    or_itself (Some s) true = refl
    or_itself (Some s) false = refl

    or_not : (x : Option Spot) (a : Bool) → cond a x None ≡ cond (a || false) x None
    or_not x true = refl
    or_not x false = refl

    go : (b : Bool) → same_node m.node n ≡ b → (a : Bool)
        → cond (same_node m.node n) (option_or (inside_new N (targets m.node)) (cond a (inside_new N (targets n)) None)) (cond a (inside_new N (targets n)) None) ≡ cond (a || same_node m.node n) (inside_new N (targets n)) None
    go true e a = rw e (ap (λ k. option_or (inside_new N (targets k)) (cond a (inside_new N (targets n)) None)) (same_node-true m.node n e) ∙ or_itself (inside_new N (targets n)) a)
    go false e a = rw e (or_not (inside_new N (targets n)) a)

-- what a node that has no target keeps
pub kept_nothing : (b : Bool) (x : Option Spot) → x ≡ cond b (option_or None x) x
kept_nothing true x = refl
kept_nothing false x = refl

-- registers of new nodes are empty before
pub new_empty : (D : Document) (N : Intent) → IsSoundInForm D → Fits D N → (f : FieldId) → is_new N f.node ≡ true → D.held f ≡ None
new_empty D N s fits f new = go (D.held f) refl
  where
    go : (o : Option NodeId) → D.held f ≡ o → D.held f ≡ None
    go None e = e
    go (Some m) e =
        let known : IsSome (D.nodes f.node) = (s.held_known m f e).1 in
        absurd (none_known (D.nodes f.node) (fits.fresh_nodes f.node new) known)
      where
        none_known : (t : Option NodeType) → t ≡ None → IsSome t → ⊥
        none_known None p h = let q : false ≡ true = h in cc
        none_known (Some t) p h = cc

-- an intent that changes no schema is void as one of data
pub void_is_of_data : (D E : Document) (schema : Option (List ℕ)) → is_some schema ≡ false → E ≡ option_map_or (λ _. D) schema E
void_is_of_data D E None h = refl
void_is_of_data D E (Some text) h = cc
