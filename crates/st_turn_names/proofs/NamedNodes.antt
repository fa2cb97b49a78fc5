-- The nodes in marks, and those that are made.
use Rattle.std.proofs.Common.{◌≡◌, ◌<◌, ◌+◌, ℕ, zero, suc, List, [], ◌∷◌, ◌++◌, length, take, get_or, true, inl, inr, ◌↔◌, subst, refl, sym, ap, ◌∙◌}
use Rattle.std.specs.List.{flat_map}
use Rattle.st_ids.specs.Listing.{Has}
use Rattle.st_ids.specs.Order.{same_node}
use Rattle.st_ids.specs.declared.names.FieldId.{FieldId}
use Rattle.st_ids.specs.declared.names.NodeId.{NodeId}
use Rattle.st_ids.proofs.Orders.{same_node-itself, same_node-true}
use Rattle.st_kind.specs.Named.{Nodes}
use Rattle.st_lemmas.proofs.Bools.{or-cases, or-left, or-right}
use Rattle.st_marks.specs.declared.steps.Step.{Step}
use Rattle.st_marks.specs.Agree.{row_field}
use Rattle.st_marks.specs.Embedding.{is_among}
use Rattle.st_marks.proofs.Members.{flat_map-has, has-flat_map}
use Rattle.st_clash.specs.Adds.{Adds}
use Rattle.st_clash.proofs.Names.{pick, picked}
use Rattle.st_turn_names.specs.Rules.{NodesAgain}
use Rattle.st_marks.specs.declared.marks.Mark.{Mark}
use Rattle.st_marks.specs.Listings.{listing_after_step, listing_before_step, nodes_in, nodes_new}
use Rattle.st_marks.specs.Row.{CellMark, counted_cells, spread}
use Rattle.st_turn_names.specs.inside.Names.{made_again, node_of_mark, nodes_of_step}
use Rattle.st_clash.proofs.LeastFields.{flat_more}

counted_name : (k : ℕ) (xs : List CellMark) → nodes_in (counted_cells k xs) ≡ nodes_in xs
counted_name zero xs = refl
counted_name (suc k) xs = counted_name k xs

marks_name : (ms : List Mark) → nodes_in (spread ms) ≡ flat_map node_of_mark ms
marks_name [] = refl
marks_name (Mark.Skip k ∷ ms) = counted_name k (spread ms) ∙ marks_name ms
marks_name (Mark.Gap c ∷ ms) = marks_name ms
marks_name (Mark.Touch c n h ∷ ms) = ap (λ l. n ∷ l) (marks_name ms)
marks_name (Mark.Make c n b ∷ ms) = ap (λ l. n ∷ l) (marks_name ms)
marks_name (Mark.Fill c n ∷ ms) = ap (λ l. n ∷ l) (marks_name ms)

pub marks_more : (old before now : List NodeId) (ms : List Mark) (i : ℕ) (d m : Mark) → i < length ms → get_or ms i d ≡ m
    → before ≡ old ++ nodes_in (spread (take i ms)) → now ≡ before ++ node_of_mark m → now ≡ old ++ nodes_in (spread (take (i + 1) ms))
marks_more old before now ms i d m inside at so_far h =
    flat_more node_of_mark old before now ms i d m inside at (so_far ∙ ap (λ l. old ++ l) (marks_name (take i ms))) h
    ∙ ap (λ l. old ++ l) (sym (marks_name (take (i + 1) ms)))

-- ## Nodes that are made again

among-has : (ns : List NodeId) (n : NodeId) → is_among ns n ≡ true → Has ns n
among-has [] n e = cc
among-has (m ∷ ns) n e = elim (or-cases (same_node m n) (is_among ns n) e) [ inl p ↦ inl (same_node-true m n p) | inr p ↦ inr (among-has ns n p) ]

has-among : (ns : List NodeId) (n : NodeId) → Has ns n → is_among ns n ≡ true
has-among [] n h = absurd h
has-among (m ∷ ns) n (inl e) = or-left (same_node m n) (is_among ns n) (subst (λ k. same_node m k ≡ true) e (same_node-itself m))
has-among (m ∷ ns) n (inr h) = or-right (same_node m n) (is_among ns n) (has-among ns n h)

module _ (S T : Step) (made : Nodes) (makes : (n : NodeId) → made n ≡ is_among (nodes_new T.new) n) where
  again : (f : FieldId) → Has (flat_map (made_again made) (nodes_of_step S)) f ↔ NodesAgain (listing_after_step S) (listing_before_step T) f
  again f = (
    λ h.
        let r = has-flat_map (made_again made) (nodes_of_step S) f h in
        let p = picked _ (row_field r.0) f r.2 in
        (r.0, sym (makes r.0) ∙ p.0, has-among (nodes_of_step S) r.0 r.1, p.1),
    λ d. flat_map-has (made_again made) (nodes_of_step S) d.0 f (among-has (nodes_of_step S) d.0 d.2) (pick _ (row_field d.0) f (makes d.0 ∙ d.1) d.3),
  )

  pub made_added : (old new : List FieldId) → new ≡ old ++ flat_map (made_again made) (nodes_of_step S) → Adds old new (NodesAgain (listing_after_step S) (listing_before_step T)) (Unit {0})
  made_added old new e = (flat_map (made_again made) (nodes_of_step S), e, (λ f h. (again f).0 h), (λ u f d. (again f).1 d))
