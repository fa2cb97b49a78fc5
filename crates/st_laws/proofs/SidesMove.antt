-- Both sides move the same nodes, from the same places to the same places.
use Rattle.std.proofs.Common.{◌≡◌, ◌≢◌, Bool, true, false, ◌++◌, Option, Some, None, IsSome, refl, sym, ap, ◌∙◌, subst, inl, inr, ◌⊎◌}
use Rattle.std.specs.List.{flat_map}
use Rattle.st_ids.proofs.Orders.{same_node-itself, same_node-true}
use Rattle.st_ids.specs.Listing.{Has}
use Rattle.st_ids.specs.Order.{same_node}
use Rattle.st_ids.specs.Root.{root}
use Rattle.st_ids.specs.declared.names.NodeId.{NodeId}
use Rattle.st_marks.specs.declared.marks.How.TheVariants.{Stay, Leave}
use Rattle.st_marks.specs.declared.marks.Loose.{Loose}
use Rattle.st_marks.specs.declared.marks.RowMarks.{RowMarks}
use Rattle.st_marks.specs.declared.places.Spot.{Spot}
use Rattle.st_marks.specs.declared.steps.Step.{Step}
use Rattle.st_marks.specs.Document.{Document, NodeType}
use Rattle.st_marks.specs.Extends.{IsExtendedBy}
use Rattle.st_marks.specs.Listings.{nodes_new}
use Rattle.st_marks.specs.Row.{spread}
use Rattle.st_marks.specs.Step.{IsStep}
use Rattle.st_lemmas.proofs.Bools.{true-false}
use Rattle.st_marks.proofs.Climb.{placed_known}
use Rattle.st_marks.proofs.Members.{append_right, has-append, has-flat_map, map-has}
use Rattle.st_marks.proofs.Turns.{extends_on}
use Rattle.st_normal.specs.Rules.{IsFound, entries_of_step, found_in, found_loose, found_over, in_rows, incoming_nodes, put_over}
use Rattle.st_normal.specs.declared.entries.Found.{Found}
use Rattle.st_puts.proofs.Basics.{register-not-nowhere, row-not-nowhere}
use Rattle.st_puts.proofs.StepRows.{incoming-mark}
use Rattle.st_puts.proofs.StepPlaces.{FoundAt, StaysOrLeaves, at_loose, at_register, at_row, comes-put, fill-place, found-at, found-named, known, leaves, loose-place, make-place, put-place, reg-is, touch-place}
use Rattle.st_laws.proofs.BothTell.{both_tell}
use Rattle.st_laws.proofs.OneStep.{dropped_told, gained_new, lacked_nowhere, new_lacked, places_told, told, told_by_one}
use Rattle.st_laws.specs.InOrder.{PutsAt, TakesFrom, from_cell, from_nowhere, from_register, in_cell, in_register}

-- two steps in turn and both as one, over documents
pub record OverDocuments (S T U : Step) : Type 0 where
  pub before : Document
  pub between : Document
  pub after : Document
  pub first_extends : IsExtendedBy before between
  pub then_extends : IsExtendedBy between after
  pub first : IsStep before between S
  pub next : IsStep between after T
  pub both : IsStep before after U

-- ## One step

module _ (D E : Document) (S : Step) (x : IsExtendedBy D E) (s : IsStep D E S) (n : NodeId) where
  puts-moved : (p : Spot) → PutsAt S n p → (E.place n ≡ p) × (D.place n ≢ p) × (p ≢ Spot.Nowhere)
  puts-moved p (in_cell r c i (inl j)) = let w = make-place D E S x s r c n i j in (w.0, w.1, row-not-nowhere r.node c)
  puts-moved p (in_cell r c i (inr j)) = let w = fill-place D E S x s r c n i j in (w.0, w.1, row-not-nowhere r.node c)
  puts-moved p (in_register r i d e) = let w = reg-is D E S x s r i in (
    (x.after.one_held n r.field).0 (sym w.1 ∙ e),
    (λ q. d (w.0 ∙ (x.before.one_held n r.field).1 q)),
    register-not-nowhere r.field,
  )

  moved-puts : (p : Spot) → E.place n ≡ p → D.place n ≢ p → p ≢ Spot.Nowhere → PutsAt S n p
  moved-puts p e d somewhere = elim (has-append (in_rows incoming_nodes S.rows) (flat_map put_over S.regs) n (comes-put D E S x s n p (e, d) somewhere)) [
    | inl i ↦ (let r = has-flat_map (λ (r : RowMarks). incoming_nodes (spread r.marks)) S.rows n i in
        let w = incoming-mark (spread r.0.marks) n r.2 in
        elim w.1 [
          | inl j ↦ subst (PutsAt S n) (sym (make-place D E S x s r.0 w.0 n r.1 j).0 ∙ e) (in_cell r.0 w.0 r.1 (inl j))
          | inr j ↦ subst (PutsAt S n) (sym (fill-place D E S x s r.0 w.0 n r.1 j).0 ∙ e) (in_cell r.0 w.0 r.1 (inr j))
        ])
    | inr i ↦ (let r = has-flat_map put_over S.regs n i in
        let w = put-place D E S x s r.0 n r.1 r.2 in
        let o = reg-is D E S x s r.0 r.1 in
        subst (PutsAt S n) (sym w.0 ∙ e) (in_register r.0 r.1 (λ q. w.1 ((x.before.one_held n r.0.field).0 (sym o.0 ∙ q))) (o.1 ∙ (x.after.one_held n r.0.field).1 w.0)))
  ]

  left-apart : StaysOrLeaves D E S x s n Leave → D.place n ≢ E.place n
  left-apart (inl w) = absurd (let e : Leave ≡ Stay = w.0 in cc)
  left-apart (inr w) = w.1

  takes-moved : (p : Spot) → TakesFrom S n p → (D.place n ≡ p) × (D.place n ≢ E.place n)
  takes-moved p (from_cell r c i j) = let w = touch-place D E S x s r c n Leave i j in (w.0, left-apart w.1)
  takes-moved p (from_register r i e d) = let w = reg-is D E S x s r i in
      let here = (x.before.one_held n r.field).0 (sym w.0 ∙ e) in
      (here, λ q. d (w.1 ∙ (x.after.one_held n r.field).1 (sym q ∙ here)))
  takes-moved p (from_nowhere l i e h) = let w = loose-place D E S x s l i in
      (subst (λ k. D.place k ≡ Spot.Nowhere) e w.0, left-apart (subst (λ h. StaysOrLeaves D E S x s n h) h (subst (λ k. StaysOrLeaves D E S x s k l.how) e w.2)))

  moved-takes : IsSome (D.nodes n) → (p : Spot) → D.place n ≡ p → D.place n ≢ E.place n → TakesFrom S n p
  moved-takes k p e d = at (found-at D E S x s (record { node = n; how = Leave }) (leaves D E S x s n k d)).0
    where
      at : FoundAt D E S x s n Leave → TakesFrom S n p
      at (at_row r a i j q) = subst (TakesFrom S n) (sym q ∙ e) (from_cell r a i j)
      at (at_register r i o q) = subst (TakesFrom S n) (sym q ∙ e) (from_register r i o (λ f. d (q ∙ sym ((x.after.one_held n r.field).0 (sym (reg-is D E S x s r i).1 ∙ f)))))
      at (at_loose l i o q h) = subst (TakesFrom S n) (sym q ∙ e) (from_nowhere l i o (go (loose-place D E S x s l i).2))
        where
          go : StaysOrLeaves D E S x s l.node l.how → l.how ≡ Leave
          go (inl w) = absurd (d (subst (λ k. D.place k ≡ E.place k) o w.1))
          go (inr w) = w.0

  -- whom a step takes was there
  taken-known : (p : Spot) → TakesFrom S n p → IsSome (D.nodes n)
  taken-known p (from_cell r c i j) = placed_known D x.before n (λ q. row-not-nowhere r.node c (sym (takes-moved (Spot.Row r.node c) (from_cell r c i j)).0 ∙ q))
  taken-known p (from_register r i e d) = placed_known D x.before n (λ q. register-not-nowhere r.field (sym (takes-moved (Spot.Register r.field) (from_register r i e d)).0 ∙ q))
  taken-known p (from_nowhere l i e h) =
      let f : Found = record { node = l.node; how = l.how } in
      let j : Has (entries_of_step S).found f = append_right (in_rows found_in S.rows) (flat_map found_over S.regs ++ found_loose S.loose) f
      (append_right (flat_map found_over S.regs) (found_loose S.loose) f (map-has (λ (l : Loose). let f : Found = record { node = l.node; how = l.how } in f) S.loose l i)) in
      known D E S x s n (found-named D E S x s n (subst (IsFound (entries_of_step S)) e (map-has (λ (f : Found). f.node) (entries_of_step S).found f j))).0

-- ## Both sides

module _ (a b c ab bc l r : Step) (p : OverDocuments a b ab) (q : OverDocuments b c bc) (k : OverDocuments ab c l) (h : OverDocuments a bc r) (made : l.new ≡ r.new) (n : NodeId) where
  abbrev Alike : Type 0
  Alike = ((k.before.place n ≡ h.before.place n) × (k.after.place n ≡ h.after.place n)) ⊎ ((k.before.place n ≡ k.after.place n) × (h.before.place n ≡ h.after.place n))

  alike : Alike
  alike = go (same_node n root) refl
    where
      p-ends : IsExtendedBy p.before p.after
      p-ends = extends_on p.before p.between p.after p.first_extends p.then_extends

      q-ends : IsExtendedBy q.before q.after
      q-ends = extends_on q.before q.between q.after q.first_extends q.then_extends

      go : (z : Bool) → same_node n root ≡ z → Alike
      go true e = let same = same_node-true n root e in
          inl (
            subst (λ n. k.before.place n ≡ h.before.place n) (sym same) (k.first_extends.before.root_nowhere ∙ sym h.first_extends.before.root_nowhere),
            subst (λ n. k.after.place n ≡ h.after.place n) (sym same) (k.then_extends.after.root_nowhere ∙ sym h.then_extends.after.root_nowhere),
          )
      go false e = let unroot : n ≢ root = λ z. true-false (ap (λ m. same_node m root) z ∙ same_node-itself root) e in
          both_tell (told a n) (told b n) (told c n) (told ab n) (told bc n)
          (k.before.place n) (k.between.place n) (k.after.place n) (q.before.place n) (q.between.place n) (q.after.place n)
          (h.before.place n) (h.between.place n) (h.after.place n) (p.before.place n) (p.between.place n) (p.after.place n)
          (places_told p.before p.between h.before h.between a p.first_extends p.first h.first_extends h.first n)
          (places_told p.between p.after q.before q.between b p.then_extends p.next q.first_extends q.first n)
          (places_told q.between q.after k.between k.after c q.then_extends q.next k.then_extends k.next n)
          (places_told p.before p.after k.before k.between ab p-ends p.both k.first_extends k.first n)
          (places_told q.before q.after h.between h.after bc q-ends q.both h.then_extends h.next n)
          (told_by_one p.before p.between p.after a b ab p.first_extends p.then_extends p-ends p.first p.next p.both n unroot)
          (dropped_told p.before p.between p.after a b ab p.first_extends p.then_extends p-ends p.first p.next p.both n unroot)
          (told_by_one q.before q.between q.after b c bc q.first_extends q.then_extends q-ends q.first q.next q.both n unroot)
          (dropped_told q.before q.between q.after b c bc q.first_extends q.then_extends q-ends q.first q.next q.both n unroot)

  k-ends : IsExtendedBy k.before k.after
  k-ends = extends_on k.before k.between k.after k.first_extends k.then_extends

  h-ends : IsExtendedBy h.before h.after
  h-ends = extends_on h.before h.between h.after h.first_extends h.then_extends

  pub puts_on : (s : Spot) → PutsAt l n s → PutsAt r n s
  puts_on s w = let m = puts-moved k.before k.after l k-ends k.both n s w in
      elim alike [
        | inl e ↦ moved-puts h.before h.after r h-ends h.both n s (sym e.1 ∙ m.0) (λ z. m.1 (e.0 ∙ z)) m.2
        | inr e ↦ absurd (m.1 (e.0 ∙ m.0))
      ]

  pub puts_back : (s : Spot) → PutsAt r n s → PutsAt l n s
  puts_back s w = let m = puts-moved h.before h.after r h-ends h.both n s w in
      elim alike [
        | inl e ↦ moved-puts k.before k.after l k-ends k.both n s (e.1 ∙ m.0) (λ z. m.1 (sym e.0 ∙ z)) m.2
        | inr e ↦ absurd (m.1 (e.1 ∙ m.0))
      ]

  -- who is there on one side and is moved on the other is there on the other
  there : (D E F G : Document) (S T : Step) → IsExtendedBy D E → IsStep D E S → IsExtendedBy F G → IsStep F G T → S.new ≡ T.new → IsSome (D.nodes n) → F.place n ≢ G.place n → IsSome (F.nodes n)
  there D E F G S T x s y t same i apart = go (F.nodes n) refl
    where
      go : (o : Option NodeType) → F.nodes n ≡ o → IsSome (F.nodes n)
      go (Some t) f = subst IsSome (sym f) refl
      go None f =
          let j = gained_new F G T t n f (placed_known G y.after n (λ z. apart (lacked_nowhere F G y n f ∙ sym z))) in
          absurd (let bad : false ≡ true = subst IsSome (new_lacked D E S s n (subst (λ w. Has (nodes_new w) n) (sym same) j)) i in cc)

  pub takes_on : (s : Spot) → TakesFrom l n s → TakesFrom r n s
  takes_on s w = let m = takes-moved k.before k.after l k-ends k.both n s w in
      elim alike [
        | inl e ↦ (let apart : h.before.place n ≢ h.after.place n = λ z. m.1 (e.0 ∙ z ∙ sym e.1) in
            moved-takes h.before h.after r h-ends h.both n
            (there k.before k.after h.before h.after l r k-ends k.both h-ends h.both made (taken-known k.before k.after l k-ends k.both n s w) apart) s (sym e.0 ∙ m.0) apart)
        | inr e ↦ absurd (m.1 e.0)
      ]

  pub takes_back : (s : Spot) → TakesFrom r n s → TakesFrom l n s
  takes_back s w = let m = takes-moved h.before h.after r h-ends h.both n s w in
      elim alike [
        | inl e ↦ (let apart : k.before.place n ≢ k.after.place n = λ z. m.1 (sym e.0 ∙ z ∙ e.1) in
            moved-takes k.before k.after l k-ends k.both n
            (there h.before h.after k.before k.after r l h-ends h.both k-ends k.both (sym made) (taken-known h.before h.after r h-ends h.both n s w) apart) s (e.0 ∙ m.0) apart)
        | inr e ↦ absurd (m.1 e.1)
      ]
