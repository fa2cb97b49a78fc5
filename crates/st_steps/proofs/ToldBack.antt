-- The way back over a step, as code tells it, over documents.
use Rattle.std.proofs.Common.{◌≡◌, Bool, true, false, ◌&&◌, not, List, [], ◌∷◌, map, Option, Some, None, option_map, cond, refl, sym, ap, ◌∙◌, subst, inl, inr}
use Rattle.std.specs.FinMap.Entries.{below_all, is_sorted}
use Rattle.std.specs.Ordering.{is_lt}
use Rattle.std.specs.declared.cmp.Ordering.{Ordering}
use Rattle.st_ids.specs.Listing.{Has, IsListing, IsRising, item_of, key_pairs}
use Rattle.st_ids.specs.Order.{field_cmp, node_cmp, same_node}
use Rattle.st_ids.specs.Root.{root}
use Rattle.st_ids.specs.declared.names.NodeId.{NodeId}
use Rattle.st_kind.specs.Named.{Nodes}
use Rattle.st_marks.specs.declared.marks.How.TheVariants.{Stay, Leave}
use Rattle.st_marks.specs.declared.marks.Loose.{Loose}
use Rattle.st_marks.specs.declared.marks.Mark.{Mark}
use Rattle.st_marks.specs.declared.marks.RegStep.{RegStep}
use Rattle.st_marks.specs.declared.marks.RowMarks.{RowMarks}
use Rattle.st_marks.specs.declared.places.Slot.{Slot}
use Rattle.st_marks.specs.declared.places.Spot.{Spot}
use Rattle.st_marks.specs.declared.steps.Step.{Step}
use Rattle.st_marks.specs.Back.{is_in}
use Rattle.st_marks.specs.Document.{Document, content, slot}
use Rattle.st_marks.specs.Embedding.{is_nowhere}
use Rattle.st_marks.specs.Extends.{IsExtendedBy}
use Rattle.st_marks.specs.Row.{Touch, merge, spread}
use Rattle.st_marks.specs.Step.{IsStep}
use Rattle.st_rows.specs.Cells.{invert_row}
use Rattle.st_puts.proofs.StepPlaces.{row-look}
use Rattle.st_steps.specs.WayBack.{IsBackOf, loose_back, made_back, register_back, row_back}
use Rattle.st_steps.specs.inside.Back.{ToldBack, row_turned, stay_if}
use Rattle.st_steps.proofs.RowsBack.{all_made, empty, made_of}
use Rattle.st_steps.proofs.ToldTogether.{item_of-map}

-- ## A list that is mapped

pub map-same : {A B : Type 0} (f g : A → B) (xs : List A) → ((x : A) → Has xs x → f x ≡ g x) → map f xs ≡ map g xs
map-same f g [] h = refl
map-same f g (x ∷ xs) h = λ i. h x (inl refl) i ∷ map-same f g xs (λ y w. h y (inr w)) i

module _ {K A : Type 0} (R : K → K → Ordering) (key : A → K) (f : A → A) (keeps : (x : A) → key (f x) ≡ key x) where
  below-map : (xs : List A) (k : K) → below_all R k (key_pairs key (map f xs)) ≡ below_all R k (key_pairs key xs)
  below-map [] k = refl
  below-map (x ∷ xs) k = λ i. is_lt (R k (keeps x i)) && below-map xs k i

  rising-map : (xs : List A) → is_sorted R (key_pairs key (map f xs)) ≡ is_sorted R (key_pairs key xs)
  rising-map [] = refl
  rising-map (x ∷ xs) = λ i. (ap (λ j. below_all R j (key_pairs key (map f xs))) (keeps x) ∙ below-map xs (key x)) i && rising-map xs i

  pub listing-map : (xs ys : List A) → IsRising R key xs → ys ≡ map f xs → IsListing R key ys (λ k. option_map f (item_of R key xs k))
  listing-map xs ys rising e = record {
    rising = subst (IsRising R key) (sym e) (rising-map xs ∙ rising);
    at_each = λ k. ap (λ l. item_of R key l k) e ∙ item_of-map R key f keeps xs k;
  }

-- ## A row of a new node

turned_made : (new : Nodes) (d : List Slot) → map (stay_if new) (merge (invert_row (made_of d))) ≡ merge (map (made_back new) (made_of d))
turned_made new [] = refl
turned_made new (t ∷ d) = go t.full (new t.node) refl (turned_made new d)
  where
    go : (b z : Bool) → new t.node ≡ z → map (stay_if new) (merge (invert_row (made_of d))) ≡ merge (map (made_back new) (made_of d))
        → map (stay_if new) (merge (invert_row (made_of (record t { full = b } ∷ d)))) ≡ merge (map (made_back new) (made_of (record t { full = b } ∷ d)))
    go true z e rest = turned z e ∙ (λ i. merge (cond (sym e i) (Touch t.cell t.node Stay) (Touch t.cell t.node Leave) ∷ map (made_back new) (made_of d)))
      where
        turned : (z : Bool) → new t.node ≡ z → map (stay_if new) (merge (invert_row (made_of (record t { full = true } ∷ d)))) ≡ merge (cond z (Touch t.cell t.node Stay) (Touch t.cell t.node Leave) ∷ map (made_back new) (made_of d))
        turned true e = (λ i. Mark.Touch t.cell t.node (cond (e i) Stay Leave) ∷ rest i)
        turned false e = (λ i. Mark.Touch t.cell t.node (cond (e i) Stay Leave) ∷ rest i)
    go false z e rest = ap (λ l. Mark.Gap t.cell ∷ l) rest

-- ## Over documents

module _ (D E : Document) (S : Step) (x : IsExtendedBy D E) (s : IsStep D E S) (new : Nodes) (new_so : (n : NodeId) → new n ≡ (is_in E n && not (is_in D n))) where
  young : (b c : Bool) → (b && not c) ≡ true → c ≡ false
  young true true e = cc
  young true false e = refl
  young false c e = cc

  row_is : (r : RowMarks) → Has S.rows r → row_turned new r ≡ row_back new r
  row_is r h = go (new r.node) refl
    where
      go : (b : Bool) → new r.node ≡ b → row_turned new r ≡ row_back new r
      go false e = (λ i. record { node = r.node; marks = cond (e i) (map (stay_if new) (merge (invert_row (spread r.marks)))) (merge (invert_row (spread r.marks))) })
          ∙ (λ i. record { node = r.node; marks = merge (cond (sym e i) (map (made_back new) (spread r.marks)) (invert_row (spread r.marks))) })
      go true e =
          let out : is_in D r.node ≡ false = young (is_in E r.node) (is_in D r.node) (sym (new_so r.node) ∙ e) in
          let cells : spread r.marks ≡ made_of (content E r.node) = (row-look D E S x s r h).0 ∙ all_made s.mentioned (ap (map (slot D)) (empty D E S x s new new_so r.node out)) (s.grows r.node) in
          (λ i. record { node = r.node; marks = cond (e i) (map (stay_if new) (merge (invert_row (spread r.marks)))) (merge (invert_row (spread r.marks))) })
          ∙ (λ i. record { node = r.node; marks = map (stay_if new) (merge (invert_row (cells i))) })
          ∙ (λ i. record { node = r.node; marks = turned_made new (content E r.node) i })
          ∙ (λ i. record { node = r.node; marks = merge (map (made_back new) (sym cells i)) })
          ∙ (λ i. record { node = r.node; marks = merge (cond (sym e i) (map (made_back new) (spread r.marks)) (invert_row (spread r.marks))) })

  pub back_of : (G : Step) (stood : Nodes) (spots : NodeId → Option Spot) → ToldBack S G new stood spots → IsBackOf S G new stood spots
  back_of G stood spots g = record {
    schema = g.schema;
    new_nodes = g.new_nodes;
    rows = listing-map node_cmp (λ (r : RowMarks). r.node) (row_back new) (λ r. refl) S.rows G.rows s.rows.rising (g.rows ∙ map-same (row_turned new) (row_back new) S.rows row_is);
    regs = listing-map field_cmp (λ (r : RegStep). r.field) (register_back new) (λ r. refl) S.regs G.regs s.regs.rising g.regs;
    loose = g.loose;
  }

-- ## Nodes that are nowhere after

pub loose_named : (stood : Bool) (o : Option Spot) (n : NodeId) (l : Loose) → loose_back stood o n ≡ Some l → l.node ≡ n
loose_named stood None n l e = cc
loose_named stood (Some p) n l e = go (is_nowhere p && not (same_node n root)) e
  where
    go : (b : Bool) → cond {A = Option Loose} b (Some (record { node = n; how = cond stood Leave Stay })) None ≡ Some l → l.node ≡ n
    go true e = let q : ◌≡◌ {A = Loose} (record { node = n; how = cond stood Leave Stay }) l = cc in ap (λ (z : Loose). z.node) (sym q)
    go false e = cc
