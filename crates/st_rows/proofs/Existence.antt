-- A part that fits has a change, and a step leads from a row to one that has all its cells.
use Rattle.std.proofs.Common.{◌≡◌, ◌<◌, ◌^◌, ◌&&◌, ◌||◌, true, false, List, [], ◌∷◌, map, Option, Some, None, cond, refl, sym, ap, ◌∙◌, subst, inl, IsSome, is_some, option_map, length, arith}
use Rattle.std.proofs.lemmas.List.{length-map}
use Rattle.std.specs.FinMap.Entries.{below_all, is_sorted}
use Rattle.std.specs.Ordering.{is_lt}
use Rattle.st_ids.specs.Listing.{item_of, key_pairs}
use Rattle.st_ids.specs.Order.{node_cmp, same_node}
use Rattle.st_ids.specs.declared.names.NodeId.{NodeId}
use Rattle.st_kind.specs.Named.{Nodes}
use Rattle.st_marks.specs.declared.changes.Change.{Change}
use Rattle.st_marks.specs.declared.changes.NewNode.{NewNode}
use Rattle.st_marks.specs.declared.intents.Intent.{Intent}
use Rattle.st_marks.specs.declared.intents.Owned.{Owned}
use Rattle.st_marks.specs.declared.marks.Mark.{Mark}
use Rattle.st_marks.specs.declared.marks.RowMarks.{RowMarks}
use Rattle.st_marks.specs.declared.places.Slot.{Slot}
use Rattle.st_marks.specs.declared.steps.Step.{Step}
use Rattle.st_marks.specs.CarryOut.{full}
use Rattle.st_marks.specs.Document.{Document, HasShortRows, IsSoundInForm, NodeType, content, slot}
use Rattle.st_marks.specs.Embedding.{IsEmbedding, IsMentionedByIntent, is_among, row_marks}
use Rattle.st_marks.specs.Extends.{GainsItems, IsExtendedBy, no_more, item_gained, item_kept}
use Rattle.st_marks.specs.Intent.{Fits, new_node}
use Rattle.st_marks.specs.Row.{SameCell, embed_row, merge, spread, step_row}
use Rattle.st_marks.specs.Listings.{nodes_new}
use Rattle.st_marks.specs.Step.{IsMentionedByStep, IsStep}
use Rattle.st_rows.specs.Existence.{HasChange, HasStep}
use Rattle.st_rows.proofs.KindLaws.{length-step_row, row_changes_are_short, spread-merge}
use Rattle.st_rows.specs.Rows.{NamesMoved}
use Rattle.st_rows.specs.Sequence.{RowCanHold, RowFits, ListsNew, SeqPart, row_carried, row_change_of, row_part_of}
use Rattle.st_rows.proofs.RowAfterPart.{carried_holds, void_long}
use Rattle.st_rows.proofs.Documents.{can_hold, is_slot, part_fits}
use Rattle.st_rows.proofs.DocumentsAfter.{whole_is}
use Rattle.st_rows.proofs.DocumentsListed.{document_is, moved_apart, names_moved}
use Rattle.st_rows.proofs.RisingNodes.{one_way}

-- ## Over contents

pub has_change : (p : SeqPart) (c : List Slot) → RowFits p c → length (row_carried p false c) < 2 ^ 32 → HasChange p c
has_change p c w short =
    let whole = carried_holds p c false w short in
    let long = void_long p c in
    record {
      change = row_change_of p c;
      says = refl;
      short = row_changes_are_short p (record { cells = c }) (row_change_of p c) w whole refl;
      whole = whole;
      void = carried_holds p c true w (subst (λ k. k < 2 ^ 32) long short);
    }

step_short : (m : Nodes) {c d : List Slot} (g : GainsItems SameCell c d) → RowCanHold d → length (spread (merge (step_row m g))) < 2 ^ 32
step_short m g v = subst (λ k. k < 2 ^ 32) (sym (ap length (spread-merge (step_row m g)) ∙ length-step_row m g)) v.short

pub has_step : (m : Nodes) (c d : List Slot) (g : GainsItems SameCell c d) → RowCanHold c → RowCanHold d → NamesMoved m g → HasStep m c d
has_step m c d g w v n = record {
  step = record { marks = merge (step_row m g) };
  leads = record { before = w; after = v; step = record { grows = g; says = refl }; moved = n };
  short = step_short m g v;
}

-- ## The new nodes of a change

below_same : (a : NodeId) (xs : List NewNode) → below_all node_cmp a (key_pairs (λ (k : NewNode). k.node) xs) ≡ below_all node_cmp a (key_pairs (λ (n : NodeId). n) (nodes_new xs))
below_same a [] = refl
below_same a (x ∷ xs) = ap (λ b. is_lt (node_cmp a x.node) && b) (below_same a xs)

sorted_same : (xs : List NewNode) → is_sorted node_cmp (key_pairs (λ (k : NewNode). k.node) xs) ≡ is_sorted node_cmp (key_pairs (λ (n : NodeId). n) (nodes_new xs))
sorted_same [] = refl
sorted_same (x ∷ xs) = λ i. below_same x.node xs i && sorted_same xs i

item_among : (xs : List NewNode) (n : NodeId) → is_some (item_of node_cmp (λ (k : NewNode). k.node) xs n) ≡ is_among (nodes_new xs) n
item_among [] n = refl
item_among (x ∷ xs) n = (λ i. is_some (cond (one_way n x.node i) (Some x) (item_of node_cmp (λ (k : NewNode). k.node) xs n))) ∙ elim (same_node x.node n) as (λ b. is_some (cond b (Some x) (item_of node_cmp (λ (k : NewNode). k.node) xs n)) ≡ (b || is_among (nodes_new xs) n)) [
  | true ↦ refl
  | false ↦ item_among xs n
]

new_there : (o : Option NewNode) → is_some (option_map (λ (m : NewNode). let t : NodeType = record { ty = m.ty; leaf = m.leaf } in t) o) ≡ is_some o
new_there None = refl
new_there (Some m) = refl

pub lists_new : (D : Document) (N : Intent) (C : Change) → IsEmbedding D N C → ListsNew N (nodes_new C.new)
lists_new D N C e = record {
  rising = sym (sorted_same C.new) ∙ e.new.rising;
  each = λ n. sym (item_among C.new n) ∙ ap is_some (e.new.at_each n) ∙ sym (new_there (new_node N n));
}

-- ## Over documents

-- what a change and a step list of a row, if anything
abbrev ListedAs : List RowMarks → NodeId → List Mark → Type 0
ListedAs rows n marks = item_of node_cmp (λ (r : RowMarks). r.node) rows n ≡ row_marks n (spread marks)

full_short : (D : Document) (N : Intent) (m : Nodes) (new : List NodeId) (n : NodeId) → IsSoundInForm D → Fits D N → HasShortRows (full D N) → length (row_carried (row_part_of m new N n) false (content D n)) < 2 ^ 32
full_short D N m new n x w short =
    let e : length (content (full D N) n) ≡ length (row_carried (row_part_of m new N n) false (content D n)) = ap length (whole_is D N n x w m new) in
    let l : length (content (full D N) n) ≡ length ((full D N).rows n) = length-map ((full D N).rows n) (slot (full D N)) in
    let s = short n in
    omega (arith, e, l, s)

pub part_has_change : (D : Document) (N : Intent) (m : Nodes) (new : List NodeId) (n : NodeId) → IsSoundInForm D → Fits D N → HasShortRows (full D N) → ListsNew N new → ((k : NodeId) → IsMentionedByIntent D N k → m k ≡ true)
    → HasChange (row_part_of m new N n) (content D n)
part_has_change D N m new n x w short listed mentions = has_change (row_part_of m new N n) (content D n) (part_fits D N m new n x w listed mentions) (full_short D N m new n x w short)

module _ (D : Document) (N : Intent) (C : Change) (n : NodeId) (e : IsEmbedding D N C) (x : IsSoundInForm D) (w : Fits D N) (short : HasShortRows (full D N)) where
  abbrev p : SeqPart
  p = row_part_of e.mentioned (nodes_new C.new) N n

  fits : RowFits p (content D n)
  fits = part_fits D N e.mentioned (nodes_new C.new) n x w (lists_new D N C e) (λ k h. (e.which k).1 h)

  pub change_there : RowFits p (content D n) × ((h : HasChange p (content D n)) × ListedAs C.rows n h.change.marks)
  unfolding has_change
  change_there = (
    fits,
    (has_change p (content D n) fits (full_short D N e.mentioned (nodes_new C.new) n x w short), e.rows.at_each n ∙ ap (row_marks n) (sym (spread-merge (embed_row p.part (content D n))))),
  )

slots_grow : (D E : Document) {os ps : List Owned} → GainsItems (λ (o p : Owned). o ≡ p) os ps → GainsItems SameCell (map (slot D) os) (map (slot E) ps)
slots_grow D E no_more = no_more
slots_grow D E (item_gained g) = item_gained (slots_grow D E g)
slots_grow D E (item_kept e g) = item_kept (ap (λ (o : Owned). o.cell) e, ap (λ (o : Owned). o.node) e) (slots_grow D E g)

pub contents_grow : (D E : Document) (n : NodeId) → IsExtendedBy D E → GainsItems SameCell (content D n) (content E n)
contents_grow D E n x = slots_grow D E (x.rows n)

pub step_between : (D E : Document) (m : Nodes) (n : NodeId) → IsExtendedBy D E → ((k : NodeId) → IsMentionedByStep D E k → m k ≡ true) → HasStep m (content D n) (content E n)
step_between D E m n x h = has_step m (content D n) (content E n) (contents_grow D E n x) (can_hold D x.before n) (can_hold E x.after n)
    (names_moved m (contents_grow D E n x) (λ a b v w same q.
    let o = is_slot D n a v in
    let known : IsSome (D.nodes a.node) = subst (λ k. IsSome (D.nodes k)) (ap (λ (t : Slot). t.node) o.2) (x.before.cells_known n o.0 o.1).1 in
    h a.node (a.node, (known, inl (moved_apart D E n a b v w same q)), 0, refl)))

pub step_there : (D E : Document) (S : Step) (n : NodeId) (s : IsStep D E S) → IsExtendedBy D E → (h : HasStep s.mentioned (content D n) (content E n)) × ListedAs S.rows n h.step.marks
step_there D E S n s x = (
  record {
    step = record { marks = merge (step_row s.mentioned (s.grows n)) };
    leads = document_is D E S n s x;
    short = step_short s.mentioned (s.grows n) (can_hold E x.after n);
  },
  s.rows.at_each n ∙ ap (row_marks n) (sym (spread-merge (step_row s.mentioned (s.grows n)))),
)
