-- Copies of maps, entry by entry.
use Rattle.std.proofs.Common.{◌≡◌, List, [], ◌∷◌, ◌++◌, map, Option, Some, None, Result, Ok, Err, IfOk, refl, sym, ap, ◌∙◌, subst, append_assoc}
use Rattle.std.specs.BTreeMap.{BTreeMap, get, IsOrdered}
use Rattle.std.specs.Cmp.{IsTotalOrder}
use Rattle.std.specs.declared.cmp.Ordering.{Ordering}
use Rattle.std.specs.Iterator.{DrainsIf}
use Rattle.std.specs.Map.{update_all}
use Rattle.std.specs.Option.{option_or}
use Rattle.std.specs.Ordering.{eq_by_cmp}
use Rattle.std.proofs.lemmas.Cmp.{eq_by_cmp_equiv}
use Rattle.std.proofs.lemmas.Iterator.{YieldsList, items_from_drains}
use Rattle.std.proofs.lemmas.List.{append-nil}
use Rattle.std.proofs.lemmas.Map.Keys.{IsDistinct-from_sorted}
use Rattle.std.proofs.lemmas.Map.Made.{update_all_distinct}
use Rattle.st_ids.specs.Order.{field_cmp, node_cmp}
use Rattle.st_ids.specs.declared.names.FieldId.{FieldId}
use Rattle.st_ids.specs.declared.names.NodeId.{NodeId}
use Rattle.st_marks.specs.declared.places.Spot.{Spot}
use Rattle.st_marks.specs.Document.{Document}
use Rattle.std.specs.Prelude.{option_map, unwrap_or}
use Rattle.st_forest.specs.declared.forest.Forest.{Forest}
use Rattle.st_forest.specs.declared.forest.Seated.{Seated}
use Rattle.st_forest.specs.Stands.{StandsFor}

-- an entry more is copied
pub copied_more : {K X : Type 0} (before now items left whole : List (K × X)) (k key : K) (v value : X) → items ≡ (k, v) ∷ left → now ≡ before ++ (key, value) ∷ [] → key ≡ k → value ≡ v
    → before ++ items ≡ whole → now ++ left ≡ whole
copied_more before now items left whole k key v value opened pushed same_key same_value so_far =
    ap (λ l. l ++ left) pushed ∙ append_assoc before ((key, value) ∷ []) left ∙ (λ i. before ++ (same_key i, same_value i) ∷ left) ∙ ap (λ l. before ++ l) (sym opened) ∙ so_far

pub copied_all : {A : Type 0} (done items whole : List A) → items ≡ [] → done ++ items ≡ whole → done ≡ whole
copied_all done items whole none so_far = sym (append-nil done) ∙ ap (λ l. done ++ l) (sym none) ∙ so_far

-- what is made of all that an iterator yields
pub made_of : {I E V Z : Type 0} (A : I → Type 0) (B : List E → V → Type 0) (steps : I → Option E → I → Type 0) (r : Result V Z) (all : List E) (Q : V → Type 0)
    → ((x : I) → A x → YieldsList steps (λ y. y) x all) → ((v : V) → B all v → Q v) → IfOk r (λ v. (x : I) × (xs : List E) × A x × DrainsIf steps (Unit {0}) x xs × B xs v) → IfOk r Q
made_of A B steps (Ok v) all Q yields made h = made v (subst (λ l. B l v) (sym (map_same h.1) ∙ items_from_drains h.1 h.3 (yields h.0 h.2)) h.4)
  where
    map_same : {A : Type 0} (xs : List A) → map (λ y. y) xs ≡ xs
    map_same [] = refl
    map_same (x ∷ xs) = ap (λ l. x ∷ l) (map_same xs)
made_of A B steps (Err e) all Q yields made h = tt

-- a map that is made of the entries of another has what the other has
pub map_from : {K X : Type 0} {cmp : K → K → Ordering} → IsTotalOrder cmp → (old new : BTreeMap K X) (entries : List (K × X)) → IsOrdered cmp old → entries ≡ old.entries
    → ((q : K) → get cmp new q ≡ update_all (eq_by_cmp cmp) (λ _. None) entries q) → (q : K) → get cmp new q ≡ get cmp old q
map_from {K} {X} {cmp = cmp} total old new entries ordered same made q =
    made q ∙ ap (λ es. update_all (eq_by_cmp cmp) (λ _. None) es q) same
    ∙ update_all_distinct (eq_by_cmp_equiv total) (eq_by_cmp cmp) (λ x y. refl) (λ _. None) old.entries q (IsDistinct-from_sorted cmp _ ordered) ∙ or_none (get cmp old q)
  where
    or_none : (o : Option X) → option_or o None ≡ o
    or_none None = refl
    or_none (Some x) = refl

-- forests with the same look-ups stand for the same
pub same_stands : (F G : Forest) (D : Document) → ((n : NodeId) → get node_cmp G.nodes n ≡ get node_cmp F.nodes n) → ((n : NodeId) → get node_cmp G.rows n ≡ get node_cmp F.rows n)
    → ((f : FieldId) → get field_cmp G.held f ≡ get field_cmp F.held f) → G.schemas ≡ F.schemas → StandsFor F D → StandsFor G D
same_stands F G D nodes rows held schemas is = record {
  nodes = λ n. ap (option_map (λ (s : Seated). s.node)) (nodes n) ∙ is.nodes n;
  places = λ n. ap (λ o. unwrap_or (option_map (λ (s : Seated). s.place) o) Spot.Nowhere) (nodes n) ∙ is.places n;
  rows = λ n. ap (λ o. unwrap_or o []) (rows n) ∙ is.rows n;
  held = λ f. held f ∙ is.held f;
  schemas = schemas ∙ is.schemas;
}
