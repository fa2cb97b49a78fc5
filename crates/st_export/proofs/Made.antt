-- The values that are made by going backwards through a walk.
use Rattle.std.proofs.Common.{◌≡◌, ℕ, ◌+◌, ◌-◌, ◌<◌, ◌≤◌, get_or, Bool, List, [], ◌∷◌, ◌++◌, length, take, drop, Option, Some, None, IsSome, refl, sym, ap, ◌∙◌, subst, arith, length-append}
use Rattle.std.specs.Option.{option_to_list, IfSome}
use Rattle.serde_json.specs.View.{view}
use Rattle.serde_json.specs.declared.value.Value.{Value}
use Rattle.st_ids.specs.declared.names.NodeId.{NodeId}
use Rattle.st_lemmas.proofs.FirstItems.{take_one}
use Rattle.st_marks.specs.Document.{Document, IsSoundInForm}
use Rattle.st_marks.specs.LiveTree.{Shows}
use Rattle.st_forest.specs.Stands.{StandsFor}
use Rattle.st_forest.specs.declared.forest.Forest.{Forest}
use Rattle.st_export.specs.declared.walk.Visit.{Visit}
use Rattle.st_export.specs.inside.Beneath.{AreShown, beneath}
use Rattle.st_export.specs.inside.Walk.{IsWalk}
use Rattle.st_export.proofs.Meeting.{walk_back}
use Rattle.st_export.proofs.Shown.{shown_parts, shown_push}

pub take_last : {A : Type 0} (xs : List A) (left : ℕ) (x : A) → 0 < left → left ≤ length xs → x ≡ get_or xs (left - 1) x → take left xs ≡ take (left - 1) xs ++ x ∷ []
take_last xs left x more within at =
    let back : left - 1 + 1 ≡ left = omega (arith, more) in
    subst (λ k. take k xs ≡ take (left - 1) xs ++ x ∷ []) back (take_one xs (left - 1) x x (omega (arith, more, within)) (sym at))

module _ (is_array : List ℕ → Bool) (F : Forest) (first : NodeId) where
  -- of the nodes that are still to be met after some visits, the values
  pub record AreMade (vs : List Visit) (values : List Value) : Type 0 where
    pub todo : List NodeId
    pub walk : IsWalk (beneath is_array F) (first ∷ []) vs todo
    pub count : length values ≡ length todo
    pub shown : (D : Document) → StandsFor F D → IsSoundInForm D → IsSome (D.nodes first) → AreShown is_array D todo values

  pub none_made : (vs : List Visit) (values : List Value) → IsWalk (beneath is_array F) (first ∷ []) vs [] → values ≡ [] → AreMade vs values
  none_made vs values walk none = record {
    todo = [];
    walk = walk;
    count = ap length none;
    shown = λ D stands sound known. subst (AreShown is_array D []) (sym none) tt;
  }

  module _ (vs more : List Visit) (v : Visit) (values : List Value) (last : more ≡ vs ++ v ∷ []) (h : AreMade more values) where
    back : (rest : List NodeId) × (h.todo ≡ rest ++ beneath is_array F v.node) × (v.others ≡ length rest) × IsWalk (beneath is_array F) (first ∷ []) vs (rest ++ v.node ∷ [])
    back = walk_back (beneath is_array F) (first ∷ []) vs v h.todo (subst (λ l. IsWalk (beneath is_array F) (first ∷ []) l h.todo) last h.walk)

    pub count_made : length values ≡ v.others + length (beneath is_array F v.node)
    count_made = h.count ∙ ap length back.1 ∙ length-append back.0 (beneath is_array F v.node) ∙ ap (λ k. k + length (beneath is_array F v.node)) (sym back.2)

    pub one_made : (now : List Value) → length now ≡ v.others + 1
        → ((D : Document) (rest : List NodeId) → StandsFor F D → IsSome (D.nodes v.node) → v.others ≡ length rest → AreShown is_array D (rest ++ beneath is_array F v.node) values
        → AreShown is_array D (rest ++ v.node ∷ []) now)
        → ((D : Document) → StandsFor F D → IsSoundInForm D → IsSome (D.nodes first) → IsSome (D.nodes v.node)) → AreMade vs now
    one_made now counted shows there = record {
      todo = back.0 ++ v.node ∷ [];
      walk = back.3;
      count = counted ∙ ap (λ k. k + 1) back.2 ∙ sym (length-append back.0 (v.node ∷ []));
      shown = λ D stands sound known. shows D back.0 stands (there D stands sound known) back.2 (subst (λ ns. AreShown is_array D ns values) back.1 (h.shown D stands sound known));
    }

  -- at the beginning of the walk there is one value, that of the first node
  pub first_made : (values now : List Value) (o : Option Value) → AreMade [] values → values ≡ now ++ option_to_list o → (0 < length values → IsSome o) → (D : Document) → StandsFor F D → IsSoundInForm D → IsSome (D.nodes first)
      → IsSome o × IfSome o (λ v. Shows is_array D first (view v))
  first_made values now o h last some D stands sound known = go now o (some (omega (arith, h.count, ap length (sym h.walk)))) (subst (λ ns. AreShown is_array D ns (now ++ option_to_list o)) (sym h.walk) (subst (AreShown is_array D h.todo) last (h.shown D stands sound known)))
    where
      none_behind : (vs : List Value) (v : Value) → AreShown is_array D [] (vs ++ v ∷ []) → ⊥
      none_behind [] v h = h
      none_behind (w ∷ vs) v h = h

      go : (vs : List Value) (o : Option Value) → IsSome o → AreShown is_array D (first ∷ []) (vs ++ option_to_list o) → IsSome o × IfSome o (λ v. Shows is_array D first (view v))
      go [] None i h = absurd h
      go [] (Some v) i h = (refl, h.0)
      go (w ∷ vs) (Some v) i h = absurd (none_behind vs v h.1)
      go (w ∷ vs) None i h = cc

-- what folding does: the value of a node in the place of those beneath it
pub folded : (is_array : List ℕ → Bool) (D : Document) (rest ms : List NodeId) (n : NodeId) (others : ℕ) (values front behind now : List Value) (v : Value) → others ≡ length rest
    → front ≡ take others values → behind ≡ drop others values → now ≡ front ++ v ∷ [] → (AreShown is_array D ms behind → Shows is_array D n (view v)) → AreShown is_array D (rest ++ ms) values
    → AreShown is_array D (rest ++ n ∷ []) now
folded is_array D rest ms n others values front behind now v count kept cut pushed shows h =
    let parts = shown_parts is_array D rest ms values h in
    let left : AreShown is_array D rest front = subst (AreShown is_array D rest) (ap (λ k. take k values) (sym count) ∙ sym kept) parts.0 in
    let those : AreShown is_array D ms behind = subst (AreShown is_array D ms) (ap (λ k. drop k values) (sym count) ∙ sym cut) parts.1 in
    subst (AreShown is_array D (rest ++ n ∷ [])) (sym pushed) (shown_push is_array D rest front n v left (shows those))
