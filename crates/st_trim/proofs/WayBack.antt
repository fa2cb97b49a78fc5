-- What the step back names: what the step names, and the nodes that it makes.
use Rattle.std.proofs.Common.{◌≡◌, ◌≢◌, zero, Bool, true, false, ◌&&◌, ◌||◌, not, List, [], ◌∷◌, map, Option, Some, None, refl, sym, ap, ◌∙◌, inl, inr, ◌⊎◌, IsSome, is_some, cond}
use Rattle.st_ids.specs.Listing.{AreDistinct, Has}
use Rattle.st_ids.specs.Order.{same_cell}
use Rattle.st_ids.proofs.Orders.{same_cell-true, same_cell-itself}
use Rattle.st_ids.specs.declared.names.FieldId.{FieldId}
use Rattle.st_ids.specs.declared.names.NodeId.{NodeId}
use Rattle.st_kind.specs.Named.{Nodes, either}
use Rattle.st_marks.specs.declared.places.Slot.{Slot}
use Rattle.st_marks.specs.declared.places.Spot.{Spot}
use Rattle.st_marks.specs.declared.steps.Step.{Step}
use Rattle.st_marks.specs.Back.{is_in, retreat, place_back, unless_in}
use Rattle.st_marks.specs.Document.{Document, NodeType, content, node_of}
use Rattle.st_marks.specs.Extends.{IsExtendedBy}
use Rattle.st_marks.specs.Step.{IsChanged, IsStep}
use Rattle.st_marks.proofs.Climb.{placed_known, same_spot}
use Rattle.st_marks.proofs.Members.{any-has, distinct-has, has-any}
use Rattle.st_rows.specs.Sequence.{is_full_in, retreat_to}
use Rattle.st_marks.proofs.Unique.{distinct_content}
use Rattle.st_rows.proofs.DocumentsBack.{back_is}
use Rattle.st_mention_laws.specs.Closed.{IsClosedIn}
use Rattle.st_mention_laws.proofs.Mentions.{changed_above}
use Rattle.st_trim.specs.Covers.{CoversStep}
use Rattle.st_trim.proofs.StepsInTurn.{step_closed}

-- a row that goes back to itself stays
full_itself : (c : List Slot) (s : Slot) → AreDistinct (λ (t : Slot). t.cell) c → Has c s → is_full_in c s.cell ≡ s.full
full_itself c s o h = go (is_full_in c s.cell) refl s.full refl
  where
    go : (a : Bool) → is_full_in c s.cell ≡ a → (b : Bool) → s.full ≡ b → a ≡ b
    go true e true f = refl
    go false e false f = refl
    go false e true f = sym e ∙ has-any (λ (t : Slot). t.full && same_cell t.cell s.cell) c s h (λ i. f i && same_cell-itself s.cell i)
    go true e false f =
        let r = any-has (λ (t : Slot). t.full && same_cell t.cell s.cell) c e in
        let q = parts r.0.full (same_cell r.0.cell s.cell) r.2 in
        let same : r.0 ≡ s = distinct-has (λ (t : Slot). t.cell) c r.0 s o r.1 h (same_cell-true r.0.cell s.cell q.1) in
        sym q.0 ∙ ap (λ (t : Slot). t.full) same ∙ f
      where
        parts : (a b : Bool) → (a && b) ≡ true → (a ≡ true) × (b ≡ true)
        parts true b e = (refl, e)
        parts false b e = cc

retreat_itself : (c : List Slot) → AreDistinct (λ (t : Slot). t.cell) c → retreat_to c c ≡ c
retreat_itself c o = go c (λ s h. full_itself c s o h)
  where
    go : (d : List Slot) → ((s : Slot) → Has d s → is_full_in c s.cell ≡ s.full) → map (λ (s : Slot). record s { full = is_full_in c s.cell }) d ≡ d
    go [] h = refl
    go (s ∷ d) h = λ i. record s { full = h s (inl refl) i } ∷ go d (λ t k. h t (inr k)) i

module _ (D E : Document) (S : Step) (x : IsExtendedBy D E) (s : IsStep D E S) where
  abbrev pub named_back : Nodes
  named_back = either s.mentioned (λ n. not (is_in D n))

  by_step : (n : NodeId) → s.mentioned n ≡ true → named_back n ≡ true
  by_step n e = ap (λ b. b || not (is_in D n)) e

  by_new : (n : NodeId) → is_in D n ≡ false → named_back n ≡ true
  by_new n e = or_second (s.mentioned n) (ap not e)
    where
      or_second : (a : Bool) {b : Bool} → b ≡ true → (a || b) ≡ true
      or_second true e = refl
      or_second false e = e

  known : (n : NodeId) → is_in D n ≡ true → IsSome (D.nodes n)
  known n e = go (D.nodes n) e
    where
      go : (o : Option NodeType) → is_some o ≡ true → IsSome o
      go None h = cc
      go (Some k) h = refl

  -- with each of them the one above it in the later document is one of them
  back_closed : IsClosedIn E named_back
  back_closed n p e up = go (is_in D p) refl
    where
      in_place : is_in D p ≡ true → D.place n ≡ E.place n → (a : Bool) → s.mentioned n ≡ a → (b : Bool) → is_in D n ≡ b → (a || not b) ≡ true → named_back p ≡ true
      in_place h same true f b g q = by_step p (step_closed D E S s n p f (ap node_of same ∙ up))
      in_place h same false f true g q = cc
      in_place h same false f false g q =
          let stood : D.place n ≢ Spot.Nowhere = λ (k : D.place n ≡ Spot.Nowhere). let z : None ≡ Some p = sym (ap node_of (sym same ∙ k)) ∙ up in cc in
          let bad : ◌≡◌ {A = Bool} false true = sym g ∙ some (D.nodes n) (placed_known D x.before n stood) in
          cc
        where
          some : (o : Option NodeType) → IsSome o → is_some o ≡ true
          some None h = cc
          some (Some k) h = refl

      go : (b : Bool) → is_in D p ≡ b → named_back p ≡ true
      go false h = by_new p h
      go true h = elim (same_spot (D.place n) (E.place n)) [
        | inr apart ↦ by_step p ((s.which p).1 (p, changed_above D E x.before x.after n p (known p h) apart up, zero, refl))
        | inl same ↦ in_place h same (s.mentioned n) refl (is_in D n) refl e
      ]

  -- and what differs from the later document after the way back is one of them
  back_changed : (n : NodeId) → IsChanged E (retreat D E) n → named_back n ≡ true
  back_changed n (there, why) = go (is_in D n) refl (s.mentioned n) refl
    where
      unchanged : s.mentioned n ≡ false → IsChanged D E n → ⊥
      unchanged e c = let q : ◌≡◌ {A = Bool} false true = sym e ∙ (s.which n).1 (n, c, zero, refl) in cc

      none : is_in D n ≡ true → s.mentioned n ≡ false → (E.place n ≢ (retreat D E).place n) ⊎ (content E n ≢ content (retreat D E) n) ⊎ ((f : FieldId) × (f.node ≡ n) × (E.held f ≢ (retreat D E).held f)) → ⊥
      none h e (inl apart) = unchanged e (known n h, inl (λ p. apart (sym p ∙ sym (place_old h))))
        where
          place_old : is_in D n ≡ true → place_back D E n ≡ D.place n
          place_old q = rw q refl
      none h e (inr (inl apart)) = unchanged e (known n h, inr (inl (λ p. apart (sym (back_is D E n x (known n h) ∙ ap (λ c. retreat_to c (content E n)) p ∙ retreat_itself (content E n) (distinct_content E (E.rows n) (x.after.once n)))))))
      none h e (inr (inr w)) = unchanged e (known n h, inr (inr (w.0, w.1, λ p. w.2 (sym p ∙ sym (ap (λ b. cond b (D.held w.0) (unless_in D (E.held w.0))) (ap (is_in D) w.1 ∙ h))))))

      go : (b : Bool) → is_in D n ≡ b → (a : Bool) → s.mentioned n ≡ a → named_back n ≡ true
      go false h a e = by_new n h
      go true h true e = by_step n e
      go true h false e = absurd (none h e why)

  pub back_covers : CoversStep E (retreat D E) named_back
  back_covers = record { closed = back_closed; changed = back_changed }
