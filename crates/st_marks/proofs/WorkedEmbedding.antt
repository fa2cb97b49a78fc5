-- A worked case of a whole embedding and of a whole step: a node is removed from the root's row.
use Rattle.std.proofs.Common.{◌≡◌, ℕ, zero, suc, Bool, true, false, ◌||◌, ◌⊎◌, List, [], ◌∷◌, map, Option, Some, None, refl, sym, ap, ◌∙◌, subst, inl, inr}
use Rattle.std.specs.Ordering.{is_eq}
use Rattle.std.specs.Option.{option_or}
use Rattle.st_ids.specs.Listing.{item_of}
use Rattle.st_ids.specs.Order.{node_cmp, same_node, same_cell}
use Rattle.st_ids.specs.declared.names.NodeId.{NodeId}
use Rattle.st_ids.proofs.Orders.{same_node-true}
use Rattle.st_marks.specs.declared.changes.Change.{Change}
use Rattle.st_marks.specs.declared.intents.Intent.{Intent}
use Rattle.st_marks.specs.declared.intents.Owned.{Owned}
use Rattle.st_marks.specs.declared.intents.To.{To}
use Rattle.st_marks.specs.declared.marks.How.TheVariants.{Leave}
use Rattle.st_marks.specs.declared.marks.Mark.{Mark}
use Rattle.st_marks.specs.declared.marks.RowMarks.{RowMarks}
use Rattle.st_marks.specs.declared.places.Spot.{Spot}
use Rattle.st_marks.specs.declared.steps.Step.{Step}
use Rattle.st_marks.specs.Document.{Document, NodeType, above, climb, slot, content}
use Rattle.st_ids.specs.Root.{root, opening}
use Rattle.st_marks.specs.Extends.{GainsItems, no_more, item_kept}
use Rattle.st_marks.specs.Intent.{put_of}
use Rattle.st_marks.specs.CarryOut.{full, with_names, with_groups, place_after, unless_cleared}
use Rattle.st_marks.specs.Row.{SameCell, embed_row, step_row}
use Rattle.st_marks.specs.Embedding.{IsEmbedding, IsMentionedByIntent, is_among, row_part, row_marks, embed_loose}
use Rattle.st_marks.specs.Step.{IsStep, IsMentionedByStep, IsChanged, gained_node, step_loose}
use Rattle.st_marks.proofs.Worked.{old, old_cell, rev, two, removes}
use Rattle.st_marks.proofs.WorkedBack.{not_same_node}

abbrev removal : Intent
removal = removes 1 (old 1)

-- the row of the root, whose first cell loses its node; the second is counted
abbrev marks : RowMarks
marks = record { node = root; marks = Mark.Touch (old_cell 0) (old 1) Leave ∷ Mark.Skip 1 ∷ [] }

abbrev change : Change
change = record { rev = rev 1 1; under = opening; base = true; need = []; new = []; rows = marks ∷ []; regs = []; loose = []; schema = None }

-- ## The mentioned nodes are the root and 0.0.1

abbrev mentioned : NodeId → Bool
mentioned = is_among (root ∷ old 1 ∷ [])

root_mentioned : IsMentionedByIntent two removal root
unfolding same_node
root_mentioned = (old 1, inl refl, refl, 1, refl)

removed_mentioned : IsMentionedByIntent two removal (old 1)
unfolding same_node
removed_mentioned = (old 1, inl refl, refl, 0, refl)

all_mentioned : (n : NodeId) → mentioned n ≡ true → IsMentionedByIntent two removal n
all_mentioned n e = go (same_node root n) (same_node (old 1) n) refl refl e
  where
    go : (a b : Bool) → same_node root n ≡ a → same_node (old 1) n ≡ b → (a || (b || false)) ≡ true → IsMentionedByIntent two removal n
    go true b f g e = subst (IsMentionedByIntent two removal) (same_node-true root n f) root_mentioned
    go false true f g e = subst (IsMentionedByIntent two removal) (same_node-true (old 1) n g) removed_mentioned
    go false false f g e = cc

on_the_way : (k : ℕ) (n : NodeId) → climb (above two) k (old 1) ≡ Some n → mentioned n ≡ true
unfolding same_node
on_the_way zero n e = let q : old 1 ≡ n = cc in subst (λ n. mentioned n ≡ true) q refl
on_the_way (suc zero) n e = let f : Some root ≡ Some n = e in let q : root ≡ n = cc in subst (λ n. mentioned n ≡ true) q refl
on_the_way (suc (suc k)) n e = let f : None ≡ Some n = e in cc

no_others : (n : NodeId) → IsMentionedByIntent two removal n → mentioned n ≡ true
no_others n h = elim h.1 [
  | inl q ↦ on_the_way h.3 n (subst (λ s. climb (above two) h.3 s ≡ Some n) (sym q) h.4)
  | inr r ↦ absurd r
]

-- ## The listed row

root_row : item_of node_cmp (λ (r : RowMarks). r.node) (marks ∷ []) root ≡ row_marks root (embed_row (row_part mentioned removal root) (content two root))
unfolding same_node same_cell
root_row = refl

other_name : (n : NodeId) → same_node n root ≡ false → is_eq (node_cmp n root) ≡ false
unfolding same_node
other_name n e = e

rows_listed : (n : NodeId) → item_of node_cmp (λ (r : RowMarks). r.node) (marks ∷ []) n ≡ row_marks n (embed_row (row_part mentioned removal n) (content two n))
rows_listed n = go (same_node n root) refl
  where
    Listed : NodeId → Type 0
    Listed n = item_of node_cmp (λ (r : RowMarks). r.node) (marks ∷ []) n ≡ row_marks n (embed_row (row_part mentioned removal n) (content two n))

    go : (t : Bool) → same_node n root ≡ t → Listed n
    go true e = subst Listed (sym (same_node-true n root e)) root_row
    go false e = rw (e, other_name n e) refl

-- ## Nothing is loose: the root isn't listed so, and 0.0.1 stands in the row

root_stays : embed_loose mentioned two removal root ≡ None
unfolding same_node
root_stays = refl

removed_stands : embed_loose mentioned two removal (old 1) ≡ None
unfolding same_node
removed_stands = refl

none_loose : (n : NodeId) → embed_loose mentioned two removal n ≡ None
none_loose n = go (same_node root n) (same_node (old 1) n) refl refl
  where
    go : (a b : Bool) → same_node root n ≡ a → same_node (old 1) n ≡ b → embed_loose mentioned two removal n ≡ None
    go true b e f = subst (λ n. embed_loose mentioned two removal n ≡ None) (same_node-true root n e) root_stays
    go false true e f = subst (λ n. embed_loose mentioned two removal n ≡ None) (same_node-true (old 1) n f) removed_stands
    go false false e f = rw (e, f) refl

removal_embedded : IsEmbedding two removal change
removal_embedded = record {
  mentioned = mentioned;
  which = λ n. (all_mentioned n, no_others n);
  rev = refl;
  under = refl;
  base = ((λ e. inl refl), (λ h. refl));
  schema = refl;
  need = record { rising = refl; at_each = λ n. refl };
  new = record { rising = refl; at_each = λ n. refl };
  rows = record { rising = refl; at_each = rows_listed };
  regs = record { rising = refl; at_each = λ f. refl };
  loose = record { rising = refl; at_each = λ n. sym (none_loose n) };
}

-- ## The step to the document after

abbrev without : Document
without = full two removal

abbrev step : Step
step = record { new = []; rows = marks ∷ []; regs = []; loose = []; schema = None }

root_changed : IsMentionedByStep two without root
unfolding same_node same_cell
root_changed = (old 1, (refl, inl (λ e. let q : Spot.Row root (old_cell 0) ≡ Spot.Nowhere = e in cc)), 1, refl)

removed_changed : IsMentionedByStep two without (old 1)
unfolding same_node same_cell
removed_changed = (old 1, (refl, inl (λ e. let q : Spot.Row root (old_cell 0) ≡ Spot.Nowhere = e in cc)), 0, refl)

all_changed : (n : NodeId) → mentioned n ≡ true → IsMentionedByStep two without n
all_changed n e = go (same_node root n) (same_node (old 1) n) refl refl e
  where
    go : (a b : Bool) → same_node root n ≡ a → same_node (old 1) n ≡ b → (a || (b || false)) ≡ true → IsMentionedByStep two without n
    go true b f g e = subst (IsMentionedByStep two without) (same_node-true root n f) root_changed
    go false true f g e = subst (IsMentionedByStep two without) (same_node-true (old 1) n g) removed_changed
    go false false f g e = cc

from_root : (k : ℕ) (n : NodeId) → climb (above two) k root ≡ Some n → mentioned n ≡ true
unfolding same_node
from_root zero n e = let q : root ≡ n = cc in subst (λ n. mentioned n ≡ true) q refl
from_root (suc k) n e = let f : None ≡ Some n = e in cc

not_cleared : (p : Spot) → unless_cleared removal p ≡ p
not_cleared Spot.Nowhere = refl
not_cleared (Spot.Row n c) = refl
not_cleared (Spot.Register f) = refl

same_place : (s : NodeId) → same_node (old 1) s ≡ false → two.place s ≡ without.place s
same_place s e =
    let not_put : put_of removal s ≡ None = rw e refl in
    let after : without.place s ≡ unless_cleared removal (two.place s) = ap (λ (o : Option To). place_after (with_names two removal).row_of removal o (two.place s)) not_put in
    sym (not_cleared (two.place s)) ∙ sym after

empty_row : (s : NodeId) (os : List Owned) → os ≡ [] → map (slot two) os ≡ map (slot without) (with_groups removal s os)
empty_row s [] e = refl
empty_row s (o ∷ os) e = cc

no_other_row : (s : NodeId) → same_node s root ≡ false → two.rows s ≡ []
no_other_row s e = rw e refl

changed : (s : NodeId) → IsChanged two without s → (root ≡ s) ⊎ (old 1 ≡ s)
changed s h = go (same_node root s) (same_node (old 1) s) refl refl
  where
    go : (a b : Bool) → same_node root s ≡ a → same_node (old 1) s ≡ b → (root ≡ s) ⊎ (old 1 ≡ s)
    go true b e f = inl (same_node-true root s e)
    go false true e f = inr (same_node-true (old 1) s f)
    go false false e f = elim h.1 [
      | inl p ↦ absurd (p (same_place s f))
      | inr r ↦ elim r [
        | inl c ↦ absurd (c (empty_row s (two.rows s) (no_other_row s (not_same_node root s e))))
        | inr g ↦ absurd (g.2 refl)
      ]
    ]

no_others_changed : (n : NodeId) → IsMentionedByStep two without n → mentioned n ≡ true
no_others_changed n h = elim (changed h.0 h.1) [
  | inl q ↦ from_root h.2 n (subst (λ s. climb (above two) h.2 s ≡ Some n) (sym q) h.3)
  | inr q ↦ on_the_way h.2 n (subst (λ s. climb (above two) h.2 s ≡ Some n) (sym q) h.3)
]

-- all cells stay
abbrev stays : (n : NodeId) (os : List Owned) → GainsItems SameCell (map (slot two) os) (map (slot without) (with_groups removal n os))
stays n [] = no_more
stays n (o ∷ os) = item_kept (refl, refl) (stays n os)

stepped_root : item_of node_cmp (λ (r : RowMarks). r.node) (marks ∷ []) root ≡ row_marks root (step_row mentioned (stays root (two.rows root)))
unfolding same_node same_cell
stepped_root = refl

nothing_stepped : (n : NodeId) (os : List Owned) → os ≡ [] → row_marks n (step_row mentioned (stays n os)) ≡ None
nothing_stepped n [] e = refl
nothing_stepped n (o ∷ os) e = cc

rows_stepped : (n : NodeId) → item_of node_cmp (λ (r : RowMarks). r.node) (marks ∷ []) n ≡ row_marks n (step_row mentioned (stays n (two.rows n)))
rows_stepped n = go (same_node n root) refl
  where
    Listed : NodeId → Type 0
    Listed n = item_of node_cmp (λ (r : RowMarks). r.node) (marks ∷ []) n ≡ row_marks n (step_row mentioned (stays n (two.rows n)))

    go : (t : Bool) → same_node n root ≡ t → Listed n
    go true e = subst Listed (sym (same_node-true n root e)) stepped_root
    go false e =
        let nothing : item_of node_cmp (λ (r : RowMarks). r.node) (marks ∷ []) n ≡ None = rw (other_name n e) refl in
        nothing ∙ sym (nothing_stepped n (two.rows n) (no_other_row n e))

none_gained : (n : NodeId) (o : Option NodeType) → gained_node n o (option_or o None) ≡ None
none_gained n None = refl
none_gained n (Some t) = refl

root_not_loose : step_loose mentioned two without root ≡ None
unfolding same_node
root_not_loose = refl

removed_not_loose : step_loose mentioned two without (old 1) ≡ None
unfolding same_node
removed_not_loose = refl

none_loose_in_step : (n : NodeId) → step_loose mentioned two without n ≡ None
none_loose_in_step n = go (same_node root n) (same_node (old 1) n) refl refl
  where
    go : (a b : Bool) → same_node root n ≡ a → same_node (old 1) n ≡ b → step_loose mentioned two without n ≡ None
    go true b e f = subst (λ n. step_loose mentioned two without n ≡ None) (same_node-true root n e) root_not_loose
    go false true e f = subst (λ n. step_loose mentioned two without n ≡ None) (same_node-true (old 1) n f) removed_not_loose
    go false false e f = rw (e, f) refl

removal_step : IsStep two without step
removal_step = record {
  mentioned = mentioned;
  which = λ n. (all_changed n, no_others_changed n);
  schema = refl;
  new = record { rising = refl; at_each = λ n. sym (none_gained n (two.nodes n)) };
  grows = λ n. stays n (two.rows n);
  rows = record { rising = refl; at_each = rows_stepped };
  regs = record { rising = refl; at_each = λ f. refl };
  loose = record { rising = refl; at_each = λ n. sym (none_loose_in_step n) };
}
