-- Rows that are changed one after the other.
use Rattle.std.proofs.Common.{◌≡◌, ◌≢◌, ℕ, ◌+◌, ◌<◌, ◌^◌, Bool, true, false, List, [], ◌∷◌, ◌++◌, length, take, drop, get_or, refl, sym, ap, ◌∙◌, subst, inl, inr, take-append-drop}
use Rattle.st_ids.specs.Listing.{AreDistinct, Has}
use Rattle.st_ids.specs.Order.{same_node}
use Rattle.st_ids.specs.declared.names.NodeId.{NodeId}
use Rattle.st_ids.proofs.Orders.{same_node-true}
use Rattle.st_lemmas.proofs.FirstItems.{take_one}
use Rattle.st_marks.specs.declared.marks.RowMarks.{RowMarks}
use Rattle.st_marks.specs.declared.places.Slot.{Slot}
use Rattle.st_marks.specs.Row.{spread}
use Rattle.st_marks.proofs.Members.{all-has, has-append, append_left, append_right, distinct-between}
use Rattle.st_forest.specs.RowSteps.{Leads}
use Rattle.st_forest.specs.inside.Writes.{AreLed, RowsLead}
use Rattle.st_forest.proofs.RowsLed.{drop_next}

pub led_none : (old R : NodeId → List Slot) → AreLed old R [] old
led_none old R = record { there = λ r h. absurd h; rest = λ n h. refl }

apart : (a b : NodeId) → a ≢ b → same_node a b ≡ false
apart a b h = go (same_node a b) refl
  where
    go : (t : Bool) → same_node a b ≡ t → same_node a b ≡ false
    go true e = absurd (h (same_node-true a b e))
    go false e = e

-- a row more
module _ (old R now new : NodeId → List Slot) (rs : List RowMarks) (i : ℕ) (d r : RowMarks) (l : i < length rs) (e : get_or rs i d ≡ r) (h : RowsLead old R rs) (so_far : AreLed old R (take i rs) now)
    (there : length (R r.node) < 2 ^ 32 → Leads (now r.node) (spread r.marks) (R r.node) → new r.node ≡ R r.node) (rest : (n : NodeId) → same_node r.node n ≡ false → new n ≡ now n) where
  split : rs ≡ take i rs ++ r ∷ drop (i + 1) rs
  split = sym (take-append-drop i rs) ∙ ap (λ ys. take i rs ++ ys) (drop_next rs i d r l e)

  listed : Has rs r
  listed = subst (λ ys. Has ys r) (sym split) (append_right (take i rs) (r ∷ drop (i + 1) rs) r (inl refl))

  -- none of those before is a row of that node
  others : (q : RowMarks) → Has (take i rs) q → r.node ≢ q.node
  others q k = distinct-between (λ (x : RowMarks). x.node) (take i rs) (r ∷ drop (i + 1) rs) q r (subst (AreDistinct (λ (x : RowMarks). x.node)) split h.once) k (inl refl)

  still : now r.node ≡ old r.node
  still = so_far.rest r.node (λ q k. apart q.node r.node (λ s. others q k (sym s)))

  changed : new r.node ≡ R r.node
  changed = there (h.short r.node) (subst (λ c. Leads c (spread r.marks) (R r.node)) (sym still) (all-has (λ (q : RowMarks). Leads (old q.node) (spread q.marks) (R q.node)) rs r h.lead listed))

  pub led_more : AreLed old R (take (i + 1) rs) new
  led_more = record {
    there = λ q k. elim (has-append (take i rs) (r ∷ []) q (subst (λ ys. Has ys q) (take_one rs i d r l e) k)) [
      | inl j ↦ rest q.node (apart r.node q.node (others q j)) ∙ so_far.there q j
      | inr (inl s) ↦ subst (λ (x : RowMarks). new x.node ≡ R x.node) s changed
      | inr (inr j) ↦ absurd j
    ];
    rest = λ n k.
        let within = λ (q : RowMarks) (j : Has (take i rs ++ r ∷ []) q). k q (subst (λ ys. Has ys q) (sym (take_one rs i d r l e)) j) in
        rest n (within r (append_right (take i rs) (r ∷ []) r (inl refl))) ∙ so_far.rest n (λ q j. within q (append_left (take i rs) (r ∷ []) q j));
  }
