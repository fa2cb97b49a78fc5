-- The fields that are found are those that the rules name.
use Rattle.std.proofs.Common.{◌≡◌, ◌≢◌, ◌↔◌, Bool, true, false, not, List, [], ◌∷◌, ◌++◌, Option, Some, None, option_map, refl, sym, ap, ◌∙◌, subst, inl, inr, ◌⊎◌}
use Rattle.std.specs.List.{AllZip, flat_map}
use Rattle.st_ids.specs.Listing.{Has, IsRising, item_of}
use Rattle.st_ids.specs.Order.{field_cmp, node_cmp, same_node}
use Rattle.st_ids.specs.declared.names.FieldId.{FieldId}
use Rattle.st_ids.specs.declared.names.NodeId.{NodeId}
use Rattle.st_ids.proofs.Listings.{has-item_of, item_of-has}
use Rattle.st_ids.proofs.Orders.{field_cmp_exact, field_cmp_total, node_cmp_exact, node_cmp_total, same_node-itself, same_node-true}
use Rattle.st_lemmas.proofs.Bools.{or-cases, or-left, or-right, true-false}
use Rattle.st_marks.specs.declared.changes.Change.{Change}
use Rattle.st_marks.specs.declared.changes.NewNode.{NewNode}
use Rattle.st_marks.specs.declared.marks.RegMark.{RegMark}
use Rattle.st_marks.specs.declared.marks.RegStep.{RegStep}
use Rattle.st_marks.specs.declared.marks.RowMarks.{RowMarks}
use Rattle.st_marks.specs.declared.steps.Step.{Step}
use Rattle.st_marks.specs.Agree.{Differs, IsSameView, MadeAgain, RebaseClash, node_again, node_twice, registers_differ, row_field, rows_differ}
use Rattle.st_marks.specs.Embedding.{is_among}
use Rattle.st_marks.specs.Listings.{CellView, cells_before, listing_before_change, listing_before_step, nodes_new}
use Rattle.st_marks.specs.Row.{spread}
use Rattle.st_marks.proofs.Members.{append_left, append_right, flat_map-has, has-append, has-flat_map}
use Rattle.st_marks.proofs.Shared.{held-same, same-held}
use Rattle.st_clash.proofs.Names.{pick, picked}
use Rattle.st_agree.specs.inside.Clashes.{IsNamedSoFar, ListsRise, NodesAgain, NodesTwice, RegistersDiffer, RowsDiffer}
use Rattle.st_agree.specs.inside.Names.{made_again, nodes_of_change, nodes_of_step}
use Rattle.st_agree.specs.inside.Rows.{differs_from, holds_other, register_apart, row_apart}
use Rattle.st_clash.proofs.RowWalks.{views_same}

not_true : (b : Bool) → not b ≡ true → b ≡ false
not_true true e = cc
not_true false e = refl

true_not : (b : Bool) → (b ≡ true → ⊥) → not b ≡ true
true_not true e = absurd (e refl)
true_not false e = refl

pub mapped : {A B : Type 0} (g : A → B) (o : Option A) (b : B) → option_map g o ≡ Some b → (a : A) × (o ≡ Some a) × (g a ≡ b)
mapped g None b e = cc
mapped g (Some a) b e = (a, refl, let q : g a ≡ b = cc in q)

module _ (C : Change) (S : Step) where
  abbrev row_key : RowMarks → NodeId
  row_key r = r.node

  shown : RowMarks → List CellView
  shown r = cells_before (spread r.marks)

  differing : (vs : List CellView) (o : Option RowMarks) → differs_from vs o ≡ true → (p : RowMarks) × (o ≡ Some p) × (AllZip IsSameView vs (cells_before (spread p.marks)) → ⊥)
  differing vs None e = cc
  differing vs (Some p) e = (p, refl, λ z. true-false ((views_same vs (cells_before (spread p.marks))).1 z) (not_true _ e))

  differing_back : (vs : List CellView) (o : Option RowMarks) (p : RowMarks) → o ≡ Some p → (AllZip IsSameView vs (cells_before (spread p.marks)) → ⊥) → differs_from vs o ≡ true
  differing_back vs o p e apart = ap (differs_from vs) e ∙ true_not _ (λ q. apart ((views_same vs (cells_before (spread p.marks))).0 q))

  pub rows_told : IsRising node_cmp (λ (r : RowMarks). r.node) C.rows → (f : FieldId) → Has (flat_map (row_apart S.rows) C.rows) f ↔ RowsDiffer (listing_before_change C) (listing_before_step S) f
  rows_told rise f = (to, back)
    where
      to : Has (flat_map (row_apart S.rows) C.rows) f → RowsDiffer (listing_before_change C) (listing_before_step S) f
      to h =
          let r = has-flat_map (row_apart S.rows) C.rows f h in
          let p = picked _ (row_field r.0.node) f r.2 in
          let d = differing (cells_before (spread r.0.marks)) (item_of node_cmp (λ (o : RowMarks). o.node) S.rows r.0.node) p.0 in (
            r.0.node,
            cells_before (spread r.0.marks),
            cells_before (spread d.0.marks),
            ap (option_map (λ (q : RowMarks). cells_before (spread q.marks))) (has-item_of node_cmp node_cmp_total node_cmp_exact (λ (q : RowMarks). q.node) C.rows r.0 rise r.1),
            ap (option_map (λ (q : RowMarks). cells_before (spread q.marks))) d.1,
            d.2,
            p.1,
          )

      back : RowsDiffer (listing_before_change C) (listing_before_step S) f → Has (flat_map (row_apart S.rows) C.rows) f
      back d =
          let r = mapped (λ (q : RowMarks). cells_before (spread q.marks)) (item_of node_cmp (λ (q : RowMarks). q.node) C.rows d.0) d.1 d.3 in
          let o = mapped (λ (q : RowMarks). cells_before (spread q.marks)) (item_of node_cmp (λ (q : RowMarks). q.node) S.rows d.0) d.2 d.4 in
          let h = item_of-has node_cmp node_cmp_total node_cmp_exact (λ (q : RowMarks). q.node) C.rows d.0 r.0 r.1 in
          flat_map-has (row_apart S.rows) C.rows r.0 f h.0 (pick _ (row_field r.0.node) f
          (differing_back (cells_before (spread r.0.marks)) _ o.0 (ap (item_of node_cmp (λ (q : RowMarks). q.node) S.rows) h.1 ∙ o.1) (λ z. d.5 (subst (λ vs. AllZip IsSameView d.1 vs) o.2 (subst (λ vs. AllZip IsSameView vs (cells_before (spread o.0.marks))) r.2 z))))
          (ap row_field h.1 ∙ d.6))

  held_otherwise : (held : Option NodeId) (o : Option RegStep) → holds_other held o ≡ true → (p : RegStep) × (o ≡ Some p) × (held ≢ p.before)
  held_otherwise held None e = cc
  held_otherwise held (Some p) e = (p, refl, λ q. true-false (held-same held p.before q) (not_true _ e))

  held_back : (held : Option NodeId) (o : Option RegStep) (p : RegStep) → o ≡ Some p → held ≢ p.before → holds_other held o ≡ true
  held_back held o p e apart = ap (holds_other held) e ∙ true_not _ (λ q. apart (same-held held p.before q))

  pub registers_told : IsRising field_cmp (λ (r : RegMark). r.field) C.regs → (f : FieldId) → Has (flat_map (register_apart S.regs) C.regs) f ↔ RegistersDiffer (listing_before_change C) (listing_before_step S) f
  registers_told rise f = (to, back)
    where
      to : Has (flat_map (register_apart S.regs) C.regs) f → RegistersDiffer (listing_before_change C) (listing_before_step S) f
      to h =
          let r = has-flat_map (register_apart S.regs) C.regs f h in
          let p = picked _ r.0.field f r.2 in
          let d = held_otherwise r.0.held (item_of field_cmp (λ (o : RegStep). o.field) S.regs r.0.field) p.0 in (
            r.0.held,
            d.0.before,
            ap (option_map (λ (q : RegMark). q.held)) (ap (item_of field_cmp (λ (q : RegMark). q.field) C.regs) (sym p.1) ∙ has-item_of field_cmp field_cmp_total field_cmp_exact (λ (q : RegMark). q.field) C.regs r.0 rise r.1),
            ap (option_map (λ (q : RegStep). q.before)) (ap (item_of field_cmp (λ (q : RegStep). q.field) S.regs) (sym p.1) ∙ d.1),
            d.2,
          )

      back : RegistersDiffer (listing_before_change C) (listing_before_step S) f → Has (flat_map (register_apart S.regs) C.regs) f
      back d =
          let r = mapped (λ (q : RegMark). q.held) (item_of field_cmp (λ (q : RegMark). q.field) C.regs f) d.0 d.2 in
          let o = mapped (λ (q : RegStep). q.before) (item_of field_cmp (λ (q : RegStep). q.field) S.regs f) d.1 d.3 in
          let h = item_of-has field_cmp field_cmp_total field_cmp_exact (λ (q : RegMark). q.field) C.regs f r.0 r.1 in
          flat_map-has (register_apart S.regs) C.regs r.0 f h.0 (pick _ r.0.field f
          (held_back r.0.held _ o.0 (ap (item_of field_cmp (λ (q : RegStep). q.field) S.regs) h.1 ∙ o.1) (λ z. d.4 (sym r.2 ∙ z ∙ o.2)))
          h.1)

-- ## Nodes that are made again

pub among-has : (ns : List NodeId) (n : NodeId) → is_among ns n ≡ true → Has ns n
among-has [] n e = cc
among-has (m ∷ ns) n e = elim (or-cases (same_node m n) (is_among ns n) e) [ inl p ↦ inl (same_node-true m n p) | inr p ↦ inr (among-has ns n p) ]

pub has-among : (ns : List NodeId) (n : NodeId) → Has ns n → is_among ns n ≡ true
has-among [] n h = absurd h
has-among (m ∷ ns) n (inl e) = or-left (same_node m n) (is_among ns n) (subst (λ k. same_node m k ≡ true) e (same_node-itself m))
has-among (m ∷ ns) n (inr h) = or-right (same_node m n) (is_among ns n) (has-among ns n h)

again : (new : List NewNode) (names : List NodeId) (f : FieldId) → Has (flat_map (made_again new) names) f ↔ ((n : NodeId) × (is_among (nodes_new new) n ≡ true) × (is_among names n ≡ true) × (row_field n ≡ f))
again new names f = (
  λ h. let r = has-flat_map (made_again new) names f h in let p = picked _ (row_field r.0) f r.2 in (r.0, p.0, has-among names r.0 r.1, p.1),
  λ d. flat_map-has (made_again new) names d.0 f (among-has names d.0 d.2) (pick _ (row_field d.0) f d.1 d.3),
)

pub made_told : (C : Change) (S : Step) (f : FieldId) → Has (flat_map (made_again S.new) (nodes_of_change C)) f ↔ NodesAgain (listing_before_change C) (listing_before_step S) f
made_told C S f = let r = again S.new (nodes_of_change C) f in (
  λ h. let d = r.0 h in (d.0, d.1, d.2, d.3),
  λ d. r.1 (d.0, d.1, d.2, d.3),
)

pub made_by_change_told : (C : Change) (S : Step) (f : FieldId) → Has (flat_map (made_again C.new) (nodes_of_step S)) f ↔ NodesAgain (listing_before_step S) (listing_before_change C) f
made_by_change_told C S f = let r = again C.new (nodes_of_step S) f in (
  λ h. let d = r.0 h in (d.0, d.1, d.2, d.3),
  λ d. r.1 (d.0, d.1, d.2, d.3),
)

-- ## All together

-- what is found, one list behind the other
abbrev pub all_found : Change → Step → List FieldId
all_found C S = flat_map (row_apart S.rows) C.rows ++ flat_map (register_apart S.regs) C.regs ++ flat_map (made_again S.new) (nodes_of_change C) ++ flat_map (made_again C.new) (nodes_of_step S)

in_four : {A : Type 0} (a b c d : List A) (x : A) → Has (a ++ b ++ c ++ d) x ↔ (Has a x ⊎ Has b x ⊎ Has c x ⊎ Has d x)
in_four a b c d x = (
  λ h. elim (has-append (a ++ b ++ c) d x h) [
    | inl i ↦ elim (has-append (a ++ b) c x i) [
      | inl j ↦ elim (has-append a b x j) [ inl k ↦ inl k | inr k ↦ inr (inl k) ]
      | inr j ↦ inr (inr (inl j))
    ]
    | inr i ↦ inr (inr (inr i))
  ],
  λ h. elim h [
    | inl k ↦ append_left (a ++ b ++ c) d x (append_left (a ++ b) c x (append_left a b x k))
    | inr k ↦ elim k [
      | inl k ↦ append_left (a ++ b ++ c) d x (append_left (a ++ b) c x (append_right a b x k))
      | inr k ↦ elim k [ inl k ↦ append_left (a ++ b ++ c) d x (append_right (a ++ b) c x k) | inr k ↦ append_right (a ++ b ++ c) d x k ]
    ]
  ],
)

pub all_told : (C : Change) (S : Step) → ListsRise C S → (l twice : List FieldId) → l ≡ all_found C S ++ twice → ((f : FieldId) → Has twice f → NodesTwice (listing_before_change C) (listing_before_step S) f) → (f : FieldId) → Has l f → IsNamedSoFar C S f
all_told C S rise l twice e sound f h = elim (has-append (all_found C S) twice f (subst (λ z. Has z f) e h)) [
  | inl h ↦ elim ((in_four _ _ _ _ f).0 h) [
    | inl k ↦ inl ((rows_told C S rise.rows f).0 k)
    | inr k ↦ elim k [
      | inl k ↦ inr (inl ((registers_told C S rise.regs f).0 k))
      | inr k ↦ elim k [ inl k ↦ inr (inr (inl ((made_told C S f).0 k))) | inr k ↦ inr (inr (inr (inl ((made_by_change_told C S f).0 k)))) ]
    ]
  ]
  | inr h ↦ inr (inr (inr (inr (sound f h))))
]

pub told_all : (C : Change) (S : Step) → ListsRise C S → (l twice : List FieldId) → l ≡ all_found C S ++ twice → ((f : FieldId) → NodesTwice (listing_before_change C) (listing_before_step S) f → Has twice f) → (f : FieldId) → IsNamedSoFar C S f → Has l f
told_all C S rise l twice e all f n = subst (λ z. Has z f) (sym e) (go n)
  where
    first : Has (flat_map (row_apart S.rows) C.rows) f ⊎ Has (flat_map (register_apart S.regs) C.regs) f ⊎ Has (flat_map (made_again S.new) (nodes_of_change C)) f ⊎ Has (flat_map (made_again C.new) (nodes_of_step S)) f → Has (all_found C S ++ twice) f
    first k = append_left (all_found C S) twice f ((in_four _ _ _ _ f).1 k)

    go : IsNamedSoFar C S f → Has (all_found C S ++ twice) f
    go (inl k) = first (inl ((rows_told C S rise.rows f).1 k))
    go (inr (inl k)) = first (inr (inl ((registers_told C S rise.regs f).1 k)))
    go (inr (inr (inl k))) = first (inr (inr (inl ((made_told C S f).1 k))))
    go (inr (inr (inr (inl k)))) = first (inr (inr (inr ((made_by_change_told C S f).1 k))))
    go (inr (inr (inr (inr k)))) = append_right (all_found C S) twice f (all f k)

pub is_clash : (C : Change) (S : Step) (f : FieldId) → IsNamedSoFar C S f → RebaseClash C S f
is_clash C S f (inl d) = inl (subst (Differs (listing_before_change C) (listing_before_step S)) d.6 (rows_differ d.0 d.1 d.2 d.3 d.4 d.5))
is_clash C S f (inr (inl d)) = inl (registers_differ f d.0 d.1 d.2 d.3 d.4)
is_clash C S f (inr (inr (inl d))) = inr (inl (subst (MadeAgain (listing_before_change C) (listing_before_step S)) d.3 (node_again d.0 d.1 d.2)))
is_clash C S f (inr (inr (inr (inr d)))) = inl (node_twice d.0 d.1 d.2 d.3 d.4 d.5 f d.6)
is_clash C S f (inr (inr (inr (inl d)))) = inr (inr (inl (subst (MadeAgain (listing_before_step S) (listing_before_change C)) d.3 (node_again d.0 d.1 d.2))))

-- a list that has nothing is empty
pub none_has : {A : Type 0} (xs : List A) → ((x : A) → Has xs x → ⊥) → xs ≡ []
none_has [] none = refl
none_has (x ∷ xs) none = absurd (none x (inl refl))
