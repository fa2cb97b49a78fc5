-- Where the nodes that a change finds stand, in a document over which it is.
use Rattle.std.proofs.Common.{◌≡◌, ◌++◌, Bool, true, false, List, [], ◌∷◌, map, Option, Some, None, IsSome, refl, sym, ap, ◌∙◌, subst, inl, inr}
use Rattle.std.specs.List.{flat_map}
use Rattle.st_ids.specs.Listing.{Has}
use Rattle.st_ids.specs.declared.names.CellId.{CellId}
use Rattle.st_ids.specs.declared.names.FieldId.{FieldId}
use Rattle.st_ids.specs.declared.names.NodeId.{NodeId}
use Rattle.st_marks.specs.declared.changes.Change.{Change}
use Rattle.st_normal.specs.declared.entries.Found.{Found}
use Rattle.st_marks.specs.declared.marks.How.{How}
use Rattle.st_marks.specs.declared.marks.Loose.{Loose}
use Rattle.st_marks.specs.declared.marks.RegMark.{RegMark}
use Rattle.st_marks.specs.declared.marks.RowMarks.{RowMarks}
use Rattle.st_marks.specs.declared.places.Slot.{Slot}
use Rattle.st_marks.specs.declared.places.Spot.{Spot}
use Rattle.st_marks.specs.Document.{Document, IsSoundInForm, above, content, node_of}
use Rattle.st_marks.specs.Row.{CellMark, Counted, Gap, Touch, Make, Fill, spread}
use Rattle.st_normal.specs.Rules.{IsFound, Entries, fields_of, found_at, found_held, found_in, found_loose, in_rows, entries_of_change}
use Rattle.st_marks.specs.Listings.{cells_before}
use Rattle.st_marks.proofs.Climb.{stands, placed_known}
use Rattle.st_marks.proofs.Members.{append_left, append_right, has-append, map-has, has-map, has-flat_map}
use Rattle.st_puts.specs.Seen.{AreAsSeen}
use Rattle.st_puts.specs.Meant.{IsOver}
use Rattle.st_puts.proofs.Basics.{register-not-nowhere, row-not-nowhere}

-- ## In one row

slot_is : (s : Slot) (d : CellId) (n : NodeId) (b : Bool) → b ≡ s.full → d ≡ s.cell → n ≡ s.node → s ≡ record { cell = d; node = n; full = b }
slot_is s d n b f c o i = record { cell = sym c i; node = sym o i; full = sym f i }

pub touched : (c : List Slot) (ms : List CellMark) (d : CellId) (n : NodeId) (h : How) → AreAsSeen c (cells_before ms) → Has ms (Touch d n h) → Has c (record { cell = d; node = n; full = true })
touched c [] d n h p i = absurd i
touched c (Make e m b ∷ ms) d n h p (inl q) = cc
touched c (Make e m b ∷ ms) d n h p (inr i) = touched c ms d n h p i
touched [] (Counted ∷ ms) d n h p i = absurd p
touched (s ∷ c) (Counted ∷ ms) d n h p (inl q) = cc
touched (s ∷ c) (Counted ∷ ms) d n h p (inr i) = inr (touched c ms d n h p.1 i)
touched [] (Gap e ∷ ms) d n h p i = absurd p
touched (s ∷ c) (Gap e ∷ ms) d n h p (inl q) = cc
touched (s ∷ c) (Gap e ∷ ms) d n h p (inr i) = inr (touched c ms d n h p.1 i)
touched [] (Touch e m g ∷ ms) d n h p i = absurd p
touched (s ∷ c) (Touch e m g ∷ ms) d n h p (inl q) = let a : e ≡ d = cc in let b : m ≡ n = cc in inl (slot_is s d n true p.0.0 (sym a ∙ p.0.1) (sym b ∙ p.0.2))
touched (s ∷ c) (Touch e m g ∷ ms) d n h p (inr i) = inr (touched c ms d n h p.1 i)
touched [] (Fill e m ∷ ms) d n h p i = absurd p
touched (s ∷ c) (Fill e m ∷ ms) d n h p (inl q) = cc
touched (s ∷ c) (Fill e m ∷ ms) d n h p (inr i) = inr (touched c ms d n h p.1 i)

pub filled : (c : List Slot) (ms : List CellMark) (d : CellId) (n : NodeId) → AreAsSeen c (cells_before ms) → Has ms (Fill d n) → Has c (record { cell = d; node = n; full = false })
filled c [] d n p i = absurd i
filled c (Make e m b ∷ ms) d n p (inl q) = cc
filled c (Make e m b ∷ ms) d n p (inr i) = filled c ms d n p i
filled [] (Counted ∷ ms) d n p i = absurd p
filled (s ∷ c) (Counted ∷ ms) d n p (inl q) = cc
filled (s ∷ c) (Counted ∷ ms) d n p (inr i) = inr (filled c ms d n p.1 i)
filled [] (Gap e ∷ ms) d n p i = absurd p
filled (s ∷ c) (Gap e ∷ ms) d n p (inl q) = cc
filled (s ∷ c) (Gap e ∷ ms) d n p (inr i) = inr (filled c ms d n p.1 i)
filled [] (Touch e m g ∷ ms) d n p i = absurd p
filled (s ∷ c) (Touch e m g ∷ ms) d n p (inl q) = cc
filled (s ∷ c) (Touch e m g ∷ ms) d n p (inr i) = inr (filled c ms d n p.1 i)
filled [] (Fill e m ∷ ms) d n p i = absurd p
filled (s ∷ c) (Fill e m ∷ ms) d n p (inl q) = let a : e ≡ d = cc in let b : m ≡ n = cc in inl (slot_is s d n false p.0.0 (sym a ∙ p.0.1) (sym b ∙ p.0.2))
filled (s ∷ c) (Fill e m ∷ ms) d n p (inr i) = inr (filled c ms d n p.1 i)

pub found_in-has : (ms : List CellMark) (f : Found) → Has (found_in ms) f → (d : CellId) × Has ms (Touch d f.node f.how)
found_in-has [] f i = absurd i
found_in-has (Counted ∷ ms) f i = let r = found_in-has ms f i in (r.0, inr r.1)
found_in-has (Gap e ∷ ms) f i = let r = found_in-has ms f i in (r.0, inr r.1)
found_in-has (Touch e m g ∷ ms) f (inl q) = (e, inl (λ i. Touch e (q i).node (q i).how))
found_in-has (Touch e m g ∷ ms) f (inr i) = let r = found_in-has ms f i in (r.0, inr r.1)
found_in-has (Make e m b ∷ ms) f i = let r = found_in-has ms f i in (r.0, inr r.1)
found_in-has (Fill e m ∷ ms) f i = let r = found_in-has ms f i in (r.0, inr r.1)

pub has-found_in : (ms : List CellMark) (d : CellId) (n : NodeId) (h : How) → Has ms (Touch d n h) → Has (found_in ms) (record { node = n; how = h })
has-found_in [] d n h i = absurd i
has-found_in (Counted ∷ ms) d n h (inl q) = cc
has-found_in (Counted ∷ ms) d n h (inr i) = has-found_in ms d n h i
has-found_in (Gap e ∷ ms) d n h (inl q) = cc
has-found_in (Gap e ∷ ms) d n h (inr i) = has-found_in ms d n h i
has-found_in (Touch e m g ∷ ms) d n h (inl q) = let b : m ≡ n = cc in let c : g ≡ h = cc in inl (λ i. record { node = b i; how = c i })
has-found_in (Touch e m g ∷ ms) d n h (inr i) = inr (has-found_in ms d n h i)
has-found_in (Make e m b ∷ ms) d n h (inl q) = cc
has-found_in (Make e m b ∷ ms) d n h (inr i) = has-found_in ms d n h i
has-found_in (Fill e m ∷ ms) d n h (inl q) = cc
has-found_in (Fill e m ∷ ms) d n h (inr i) = has-found_in ms d n h i

pub found_held-is : (o : Option NodeId) (h : How) (f : Found) → Has (found_held o h) f → (o ≡ Some f.node) × (h ≡ f.how)
found_held-is None h f i = absurd i
found_held-is (Some n) h f (inl q) = (ap (λ (f : Found). Some f.node) q, ap (λ (f : Found). f.how) q)
found_held-is (Some n) h f (inr i) = absurd i

pub is-found_held : (o : Option NodeId) (n : NodeId) (h : How) → o ≡ Some n → Has (found_held o h) (record { node = n; how = h })
is-found_held o n h e = subst (λ o. Has (found_held o h) (record { node = n; how = h })) (sym e) (inl refl)

-- ## Where it is found

-- a node that is found, with where
pub data PlacedAs (D : Document) (C : Change) (n : NodeId) (h : How) : Type 0 where
  as_row : (r : RowMarks) (c : CellId) → Has C.rows r → Has (spread r.marks) (Touch c n h) → D.place n ≡ Spot.Row r.node c → PlacedAs D C n h
  as_held : (r : RegMark) → Has C.regs r → r.held ≡ Some n → r.how ≡ h → D.place n ≡ Spot.Register r.field → PlacedAs D C n h
  as_loose : (l : Loose) → Has C.loose l → l.node ≡ n → l.how ≡ h → D.place n ≡ Spot.Nowhere → IsSome (D.nodes n) → PlacedAs D C n h

module _ (D : Document) (C : Change) (x : IsSoundInForm D) (o : IsOver D C) where
  abbrev L : Entries
  L = entries_of_change C

  pub touch_place : (r : RowMarks) (c : CellId) (n : NodeId) (h : How) → Has C.rows r → Has (spread r.marks) (Touch c n h) → D.place n ≡ Spot.Row r.node c
  touch_place r c n h i j = stands D x n r.node c (touched (content D r.node) (spread r.marks) c n h (o.rows r i) j)

  pub held_place : (r : RegMark) (n : NodeId) → Has C.regs r → r.held ≡ Some n → D.place n ≡ Spot.Register r.field
  held_place r n i e = (x.one_held n r.field).0 (o.held r i ∙ e)

  pub found_placed : (f : Found) → Has L.found f → PlacedAs D C f.node f.how
  found_placed f i = elim (has-append (in_rows found_in C.rows) (flat_map found_at C.regs ++ found_loose C.loose) f i) [
    | inl j ↦ (let r = has-flat_map (λ (r : RowMarks). found_in (spread r.marks)) C.rows f j in
        let t = found_in-has (spread r.0.marks) f r.2 in
        as_row r.0 t.0 r.1 t.1 (touch_place r.0 t.0 f.node f.how r.1 t.1))
    | inr j ↦ elim (has-append (flat_map found_at C.regs) (found_loose C.loose) f j) [
      | inl k ↦ (let r = has-flat_map found_at C.regs f k in
          let q = found_held-is r.0.held r.0.how f r.2 in
          as_held r.0 r.1 q.0 q.1 (held_place r.0 f.node r.1 q.0))
      | inr k ↦ (let l = has-map (λ (l : Loose). let f : Found = record { node = l.node; how = l.how } in f) C.loose f k in
          let w = o.loose l.0 l.1 in
          let n : l.0.node ≡ f.node = ap (λ (f : Found). f.node) l.2 in
          as_loose l.0 l.1 n (ap (λ (f : Found). f.how) l.2) (subst (λ m. D.place m ≡ Spot.Nowhere) n w.0) (subst (λ m. IsSome (D.nodes m)) n w.1))
    ]
  ]

  pub placed_there : (n : NodeId) (h : How) → PlacedAs D C n h → IsSome (D.nodes n)
  placed_there n h (as_row r c i j e) = placed_known D x n (λ q. row-not-nowhere r.node c (sym e ∙ q))
  placed_there n h (as_held r i e f g) = placed_known D x n (λ q. register-not-nowhere r.field (sym g ∙ q))
  placed_there n h (as_loose l i e f g k) = k

  pub found_there : (n : NodeId) → IsFound L n → IsSome (D.nodes n)
  found_there n i = let f = has-map (λ (f : Found). f.node) L.found n i in subst (λ m. IsSome (D.nodes m)) f.2 (placed_there f.0.node f.0.how (found_placed f.0 f.1))

  pub row_field-has : (r : RowMarks) → Has C.rows r → Has (fields_of L) r.node
  row_field-has r i = append_left (map (λ (r : RowMarks). r.node) C.rows) (map (λ (f : FieldId). f.node) L.registers) r.node (map-has (λ (r : RowMarks). r.node) C.rows r i)

  pub reg_field-has : (r : RegMark) → Has C.regs r → Has (fields_of L) r.field.node
  reg_field-has r i = append_right (map (λ (r : RowMarks). r.node) C.rows) (map (λ (f : FieldId). f.node) L.registers) r.field.node (map-has (λ (f : FieldId). f.node) L.registers r.field (map-has (λ (r : RegMark). r.field) C.regs r i))

  -- the node above one that is found has a field that is listed
  pub placed_above : (n p : NodeId) (h : How) → PlacedAs D C n h → above D n ≡ Some p → Has (fields_of L) p
  placed_above n p h (as_row r c i j e) f = let q : r.node ≡ p = some-one (sym (ap node_of e) ∙ f) in subst (Has (fields_of L)) q (row_field-has r i)
    where
      some-one : {a b : NodeId} → ◌≡◌ {A = Option NodeId} (Some a) (Some b) → a ≡ b
      some-one q = cc
  placed_above n p h (as_held r i e f g) k = let q : r.field.node ≡ p = some-one (sym (ap node_of g) ∙ k) in subst (Has (fields_of L)) q (reg_field-has r i)
    where
      some-one : {a b : NodeId} → ◌≡◌ {A = Option NodeId} (Some a) (Some b) → a ≡ b
      some-one q = cc
  placed_above n p h (as_loose l i e f g k) q = let bad : None ≡ Some p = sym (ap node_of g) ∙ q in cc

  pub found_above : (n p : NodeId) → IsFound L n → above D n ≡ Some p → Has (fields_of L) p
  found_above n p i e = let f = has-map (λ (f : Found). f.node) L.found n i in placed_above f.0.node p f.0.how (found_placed f.0 f.1) (ap (above D) f.2 ∙ e)
