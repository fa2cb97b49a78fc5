-- Lemmas that several crates above need.
use Rattle.std.proofs.Common.{◌≡◌, Bool, true, false, cond, List, [], ◌∷◌, ◌++◌, refl, inl, inr, sym, ap, ◌∙◌, append_assoc, Option, Some, None, subst, IsSome, is_some}
use Rattle.st_ids.specs.Listing.{Has}
use Rattle.st_ids.specs.declared.names.NodeId.{NodeId}
use Rattle.st_marks.specs.declared.places.Slot.{Slot}
use Rattle.st_marks.specs.LiveTree.{owners_shown}
use Rattle.st_ids.specs.declared.names.CellId.{CellId}
use Rattle.st_ids.proofs.Orders.{same_cell-true, same_node-true, same_cell-itself, same_field-true, same_field-itself, same_node-itself}
use Rattle.st_marks.specs.declared.places.Spot.{Spot}
use Rattle.st_marks.specs.Document.{is_cell, Document}
use Rattle.st_ids.specs.Order.{same_node}
use Rattle.st_marks.specs.Intent.{same_option, IsIntent, new_node, is_new, Fits}
use Rattle.st_marks.specs.declared.changes.NewNode.{NewNode}
use Rattle.st_marks.specs.declared.intents.Intent.{Intent}
use Rattle.st_marks.proofs.Members.{all-has, first-has}
use Rattle.std.specs.Option.{option_and_then}
use Rattle.st_marks.specs.declared.intents.To.{To}
use Rattle.st_marks.specs.Join.{put_unless_new}
use Rattle.st_marks.specs.Row.{same_to}
use Rattle.st_lemmas.proofs.Bools.{refuted-false, true-false}

pub owner_full : (cells : List Slot) (x : NodeId) → Has (owners_shown cells) x → (s : Slot) × Has cells s × (s.full ≡ true) × (s.node ≡ x)
owner_full [] x h = absurd h
owner_full (s ∷ cells) x h = go s.full refl (owner_full cells x) h
  where
    go : (b : Bool) → s.full ≡ b → (Has (owners_shown cells) x → (t : Slot) × Has cells t × (t.full ≡ true) × (t.node ≡ x)) → Has (cond b (s.node ∷ []) [] ++ owners_shown cells) x
        → (t : Slot) × Has (s ∷ cells) t × (t.full ≡ true) × (t.node ≡ x)
    go true e rest (inl q) = (s, inl refl, e, q)
    go true e rest (inr k) = let r = rest k in (r.0, inr r.1, r.2, r.3)
    go false e rest k = let r = rest k in (r.0, inr r.1, r.2, r.3)

pub owners_append : (xs ys : List Slot) → owners_shown (xs ++ ys) ≡ owners_shown xs ++ owners_shown ys
owners_append [] ys = refl
owners_append (s ∷ xs) ys = ap (λ ns. cond s.full (s.node ∷ []) [] ++ ns) (owners_append xs ys) ∙ sym (append_assoc (cond s.full (s.node ∷ []) []) (owners_shown xs) (owners_shown ys))

pub one_cell : (c d : CellId) (s : Spot) → is_cell c s ≡ true → is_cell d s ≡ true → c ≡ d
one_cell c d Spot.Nowhere e f = cc
one_cell c d (Spot.Row n b) e f = same_cell-true c b e ∙ sym (same_cell-true d b f)
one_cell c d (Spot.Register r) e f = cc

pub same-held : (a b : Option NodeId) → same_option same_node a b ≡ true → a ≡ b
same-held None None e = refl
same-held None (Some y) e = cc
same-held (Some x) None e = cc
same-held (Some x) (Some y) e = ap (λ z. Some z) (same_node-true x y e)

pub held-same : (a b : Option NodeId) → a ≡ b → same_option same_node a b ≡ true
held-same None b e = subst (λ (q : Option NodeId). same_option same_node None q ≡ true) e refl
held-same (Some x) b e = subst (λ (q : Option NodeId). same_option same_node (Some x) q ≡ true) e (same_node-itself x)

pub new_node-rev : (N : Intent) → IsIntent N → (n : NodeId) → is_new N n ≡ true → n.0.rev ≡ N.rev
new_node-rev N w n e = go (new_node N n) refl e
  where
    go : (o : Option NewNode) → new_node N n ≡ o → is_new N n ≡ true → n.0.rev ≡ N.rev
    go None f e = let q : ◌≡◌ {A = Bool} false true = sym (rw f refl) ∙ e in cc
    go (Some m) f e =
        let r = first-has (λ (k : NewNode). same_node k.node n) N.new m f in
        ap (λ (k : NodeId). k.0.rev) (sym (same_node-true m.node n r.1)) ∙ all-has (λ (k : NewNode). k.node.0.rev ≡ N.rev) N.new m w.new_rev r.0

pub old_put : (o : Option To) → option_and_then (put_unless_new false) o ≡ o
old_put None = refl
old_put (Some To.Nowhere) = refl
old_put (Some (To.Cell c)) = refl
old_put (Some (To.Register f)) = refl

pub same_to-true : (a b : To) → same_to a b ≡ true → a ≡ b
same_to-true To.Nowhere To.Nowhere e = refl
same_to-true To.Nowhere (To.Cell d) e = cc
same_to-true To.Nowhere (To.Register g) e = cc
same_to-true (To.Cell c) To.Nowhere e = cc
same_to-true (To.Cell c) (To.Cell d) e = ap (λ c. To.Cell c) (same_cell-true c d e)
same_to-true (To.Cell c) (To.Register g) e = cc
same_to-true (To.Register f) To.Nowhere e = cc
same_to-true (To.Register f) (To.Cell d) e = cc
same_to-true (To.Register f) (To.Register g) e = ap (λ f. To.Register f) (same_field-true f g e)

pub same_to-itself : (a : To) → same_to a a ≡ true
same_to-itself To.Nowhere = refl
same_to-itself (To.Cell c) = same_cell-itself c
same_to-itself (To.Register f) = same_field-itself f

-- a node that is there isn't made
pub not_made : (D : Document) (N : Intent) → Fits D N → (n : NodeId) → IsSome (D.nodes n) → is_new N n ≡ false
not_made D N w n h = refuted-false (is_new N n) (λ e. true-false h (ap is_some (w.fresh_nodes n e)))
