-- Which nodes are changed between two documents, and which are mentioned.
use Rattle.std.proofs.Common.{◌≡◌, ◌≢◌, ◌↔◌, Bool, true, false, cond, ◌||◌, not, List, ◌++◌, Option, Some, None, IsSome, is_some, refl, sym, ap, ◌∙◌, subst, inl, inr, ◌⊎◌}
use Rattle.std.specs.List.{filter_map, list_any}
use Rattle.st_ids.specs.Listing.{Has}
use Rattle.st_ids.specs.Order.{same_node}
use Rattle.st_ids.specs.declared.names.FieldId.{FieldId}
use Rattle.st_ids.specs.declared.names.NodeId.{NodeId}
use Rattle.st_ids.proofs.Shared.{filter-from}
use Rattle.st_lemmas.proofs.Bools.{or-cases, or-left, or-right, true-false}
use Rattle.st_marks.specs.Document.{Document, content}
use Rattle.st_marks.specs.Extends.{IsExtendedBy}
use Rattle.st_marks.specs.Intent.{same_option}
use Rattle.st_marks.specs.Step.{IsChanged, IsMentionedByStep}
use Rattle.st_marks.proofs.Members.{append_left, append_right, has-append, has-filter_map}
use Rattle.st_marks.proofs.Shared.{held-same, same-held}
use Rattle.st_embed.specs.inside.Upwards.{AreAbove}
use Rattle.st_step.specs.inside.Marks.{differs, same_spot}
use Rattle.st_step.specs.inside.Sources.{AreChanged, changed_node, changed_owner}
use Rattle.st_step.proofs.Places.{spot-itself, spot-true}
use Rattle.st_step.proofs.Growing.{row_alike, row_unlike}

picked : {A : Type 0} (b : Bool) (x y : A) → cond b (Some x) None ≡ Some y → (b ≡ true) × (x ≡ y)
picked true x y e = (refl, let q : x ≡ y = cc in q)
picked false x y e = cc

pick : {A : Type 0} (b : Bool) (x : A) → b ≡ true → cond b (Some x) None ≡ Some x
pick b x e = ap (λ c. cond c (Some x) None) e

not_true : (b : Bool) → not b ≡ true → b ≡ false
not_true true e = cc
not_true false e = refl

true_not : (b : Bool) → (b ≡ true → ⊥) → not b ≡ true
true_not true e = absurd (e refl)
true_not false e = refl

not_false : (b : Bool) → (b ≡ false → ⊥) → b ≡ true
not_false true e = refl
not_false false e = absurd (e refl)

module _ (D E : Document) (x : IsExtendedBy D E) (nodes : List NodeId) (before after : List FieldId)
    (all : (n : NodeId) → Has nodes n ↔ IsSome (D.nodes n)) (in_before : (f : FieldId) → Has before f ↔ IsSome (D.held f)) (in_after : (f : FieldId) → Has after f ↔ IsSome (E.held f)) where
  abbrev names : List NodeId
  names = (filter_map (changed_node D E) nodes ++ filter_map (changed_owner D E) before) ++ filter_map (changed_owner D E) after

  node_changed : (n : NodeId) → IsSome (D.nodes n) → Has (filter_map (changed_node D E) nodes) n → IsChanged D E n
  node_changed n known h =
      let r = filter-from (changed_node D E) nodes n h in
      let q = picked (not (same_spot (D.place r.0) (E.place r.0)) || list_any (differs D E) (E.rows r.0)) r.0 n r.2 in (
        known,
        elim (or-cases (not (same_spot (D.place r.0) (E.place r.0))) (list_any (differs D E) (E.rows r.0)) q.0) [
          | inl p ↦ inl (λ e. true-false (ap (λ s. same_spot (D.place r.0) s) (sym (subst (λ k. D.place k ≡ E.place k) (sym q.1) e)) ∙ spot-itself (D.place r.0)) (not_true _ p))
          | inr p ↦ inr (inl (λ e. true-false p (row_unlike D E x r.0 (subst (λ k. content D k ≡ content E k) (sym q.1) e))))
        ],
      )

  owner_changed : (fs : List FieldId) (n : NodeId) → IsSome (D.nodes n) → Has (filter_map (changed_owner D E) fs) n → IsChanged D E n
  owner_changed fs n known h =
      let r = filter-from (changed_owner D E) fs n h in
      let q = picked (not (same_option same_node (D.held r.0) (E.held r.0))) r.0.node n r.2 in
      (known, inr (inr (r.0, q.1, λ e. true-false (held-same (D.held r.0) (E.held r.0) e) (not_true _ q.0))))

  to : (n : NodeId) → Has names n × IsSome (D.nodes n) → IsChanged D E n
  to n h = elim (has-append (filter_map (changed_node D E) nodes ++ filter_map (changed_owner D E) before) (filter_map (changed_owner D E) after) n h.0) [
    | inl i ↦ elim (has-append (filter_map (changed_node D E) nodes) (filter_map (changed_owner D E) before) n i) [
      | inl j ↦ node_changed n h.1 j
      | inr j ↦ owner_changed before n h.1 j
    ]
    | inr i ↦ owner_changed after n h.1 i
  ]

  among_nodes : (n : NodeId) → IsSome (D.nodes n) → (not (same_spot (D.place n) (E.place n)) || list_any (differs D E) (E.rows n)) ≡ true → Has names n
  among_nodes n known e = append_left (filter_map (changed_node D E) nodes ++ filter_map (changed_owner D E) before) (filter_map (changed_owner D E) after) n (append_left (filter_map (changed_node D E) nodes) (filter_map (changed_owner D E) before) n (has-filter_map (changed_node D E) nodes n n ((all n).1 known) (pick _ n e)))

  owner_is : (f : FieldId) (n : NodeId) → f.node ≡ n → D.held f ≢ E.held f → changed_owner D E f ≡ Some n
  owner_is f n e apart = pick _ f.node (true_not (same_option same_node (D.held f) (E.held f)) (λ s. apart (same-held (D.held f) (E.held f) s))) ∙ ap (λ k. Some k) e

  among_owners : (f : FieldId) (n : NodeId) → f.node ≡ n → D.held f ≢ E.held f → (o p : Option NodeId) → D.held f ≡ o → E.held f ≡ p → Has names n
  among_owners f n e apart (Some k) p is_o is_p = append_left (filter_map (changed_node D E) nodes ++ filter_map (changed_owner D E) before) (filter_map (changed_owner D E) after) n (append_right (filter_map (changed_node D E) nodes) (filter_map (changed_owner D E) before) n (has-filter_map (changed_owner D E) before f n ((in_before f).1 (ap is_some is_o)) (owner_is f n e apart)))
  among_owners f n e apart None (Some k) is_o is_p = append_right (filter_map (changed_node D E) nodes ++ filter_map (changed_owner D E) before) (filter_map (changed_owner D E) after) n (has-filter_map (changed_owner D E) after f n ((in_after f).1 (ap is_some is_p)) (owner_is f n e apart))
  among_owners f n e apart None None is_o is_p = absurd (apart (is_o ∙ sym is_p))

  back_from : (n : NodeId) → IsSome (D.nodes n) → (D.place n ≢ E.place n) ⊎ (content D n ≢ content E n) ⊎ ((f : FieldId) × (f.node ≡ n) × (D.held f ≢ E.held f)) → Has names n
  back_from n known (inl apart) = among_nodes n known (or-left _ _ (true_not (same_spot (D.place n) (E.place n)) (λ s. apart (spot-true (D.place n) (E.place n) s))))
  back_from n known (inr (inl apart)) = among_nodes n known (or-right _ _ (not_false (list_any (differs D E) (E.rows n)) (λ s. apart (row_alike D E x n s))))
  back_from n known (inr (inr r)) = among_owners r.0 n r.1 r.2 (D.held r.0) (E.held r.0) refl refl

  back : (n : NodeId) → IsChanged D E n → Has names n
  back n c = back_from n c.0 c.1

  pub are_changed : (found : List NodeId) → found ≡ names → AreChanged D E found
  are_changed found e = subst (AreChanged D E) (sym e) (λ n. (to n, λ c. (back n c, c.0)))

-- those, and all nodes above them, are mentioned
pub are_mentioned : (D E : Document) (found : List NodeId) (has : NodeId → Bool) → AreChanged D E found → AreAbove D found has → (n : NodeId) → (has n ≡ true) ↔ IsMentionedByStep D E n
are_mentioned D E found has changed above n = (
  λ h. let r = (above n).0 h in (r.0, (changed r.0).0 (r.1, r.2), r.3.0, r.3.1),
  λ r. let c = (changed r.0).1 r.1 in (above n).1 (r.0, c.0, c.1, (r.2, r.3)),
)
