-- In the document after a step going up comes to an end; so it is sound, and extends the one before.
use Rattle.std.proofs.Common.{◌≡◌, ◌≢◌, ◌++◌, ◌⊎◌, ℕ, zero, suc, Bool, true, false, List, [], ◌∷◌, Option, Some, None, refl, sym, ap, ◌∙◌, subst, inl, inr, option_and_then, option_map, slice_get}
use Rattle.std.specs.Option.{option_or}
use Rattle.st_ids.specs.Listing.{Has}
use Rattle.st_ids.specs.Order.{field_cmp, node_cmp}
use Rattle.st_ids.specs.Root.{root}
use Rattle.st_ids.proofs.Listings.{has-item_of}
use Rattle.st_ids.proofs.Orders.{field_cmp_exact, field_cmp_total, node_cmp_exact, node_cmp_total}
use Rattle.st_ids.specs.declared.names.CellId.{CellId}
use Rattle.st_ids.specs.declared.names.NodeId.{NodeId}
use Rattle.st_marks.specs.declared.marks.How.{How}
use Rattle.st_marks.specs.declared.marks.How.TheVariants.{Stay, Here, Leave}
use Rattle.st_marks.specs.declared.marks.RegStep.{RegStep}
use Rattle.st_marks.specs.declared.marks.RowMarks.{RowMarks}
use Rattle.st_marks.specs.declared.places.Spot.{Spot}
use Rattle.st_marks.specs.declared.steps.Step.{Step}
use Rattle.st_marks.specs.Agree.{LeadsUp}
use Rattle.st_marks.specs.Agree.LeadsUp.{one_up, further_up}
use Rattle.st_marks.specs.Document.{Document, ClimbsToAnEnd, IsSoundInForm, above, climb, node_of}
use Rattle.st_marks.specs.Embedding.{is_among}
use Rattle.st_marks.specs.Extends.{IsExtendedBy}
use Rattle.st_marks.specs.Listings.{CellView, Places, cell_after, cell_view, cells_after, listing_after_step, nodes_new, placed_in_register, placed_in_row, registers_after}
use Rattle.st_marks.specs.Row.{CellMark, Counted, Gap, Touch, Make, Fill, spread}
use Rattle.st_marks.proofs.Climb.{unknown_nowhere}
use Rattle.st_marks.proofs.Members.{all-has, append_left, append_right, has-append}
use Rattle.st_marks.proofs.NoRing.{no_ring_made}
use Rattle.st_normal.specs.declared.entries.Found.{Found}
use Rattle.st_normal.specs.Rules.{Entries, IsFound, IsFoundAs, ObeysStepRules, entries_of_step}
use Rattle.st_normal.proofs.NoRings.{among_has}
use Rattle.st_puts.specs.Meant.{leaving_nodes}
use Rattle.st_puts.proofs.Basics.{one-is}
use Rattle.st_puts.proofs.MentionsOfIntents.{has-leaving, leaving-has}
use Rattle.st_lemmas.proofs.Bools.{true-false}
use Rattle.st_lemmas.proofs.Options.{one_some}
use Rattle.st_marks.specs.How.{is_leave}
use Rattle.st_normal_step_laws.specs.StepOver.{IsOverStep, later}
use Rattle.st_normal_step_laws.proofs.PlacesLater.{FoundThere, there_row, there_held, there_loose, PlacedLater, by_row, by_register, by_going, by_staying, reg_key, row_key, found-as, is-found, later-placed, put-left, unmoved-place}
use Rattle.st_normal_step_laws.proofs.SoundLater.{cells_there, entries_fit, field-cases, first_kept, held-there, held_there, keys_there, known-later, node-kept, none-some, over-cases, owns, reg-field, root_stays, row-field, rows_gain, rows_of, rows_once, rows_short, there-held}

-- a mark that shows one cell shows it after
shown-at : (ms : List CellMark) (y : CellMark) (v : CellView) → Has ms y → cell_after y ≡ v ∷ [] → (k : ℕ) × (slice_get (cells_after ms) k ≡ Some v)
shown-at [] y v h e = absurd h
shown-at (z ∷ ms) y v (inl q) e = (zero, ap (λ (l : List CellView). slice_get (l ++ cells_after ms) zero) (ap cell_after q ∙ e))
shown-at (Counted ∷ ms) y v (inr h) e = let r = shown-at ms y v h e in (suc r.0, r.1)
shown-at (Gap c ∷ ms) y v (inr h) e = let r = shown-at ms y v h e in (suc r.0, r.1)
shown-at (Touch c n g ∷ ms) y v (inr h) e = let r = shown-at ms y v h e in (suc r.0, r.1)
shown-at (Make c n b ∷ ms) y v (inr h) e = let r = shown-at ms y v h e in (suc r.0, r.1)
shown-at (Fill c n ∷ ms) y v (inr h) e = let r = shown-at ms y v h e in (suc r.0, r.1)

module _ (D : Document) (S : Step) (x : IsSoundInForm D) (w : ObeysStepRules S) (o : IsOverStep D S) where
  abbrev L : Entries
  L = entries_of_step S

  abbrev E : Document
  E = later D S

  abbrev Shows : NodeId → Spot → Type 0
  Shows = Places (listing_after_step S)

  -- the root, or one that is new or found
  abbrev IsSeen : NodeId → Type 0
  IsSeen n = (n ≡ root) ⊎ Has L.new n ⊎ IsFound L n

  abbrev IsUp : NodeId → NodeId → Type 0
  IsUp n q = (s : Spot) × Shows n s × (node_of s ≡ Some q) × IsSeen q

  row-shows : (r : RowMarks) (y : CellMark) (c : CellId) (n q : NodeId) → Has S.rows r → Has (spread r.marks) y → cell_after y ≡ cell_view c n true ∷ [] → Some r.node ≡ Some q → IsUp n q
  row-shows r y c n q i j e f =
      let k = shown-at (spread r.marks) y (cell_view c n true) j e in (
        Spot.Row r.node c,
        placed_in_row r.node n c (cells_after (spread r.marks)) k.0
            (ap (λ (z : Option RowMarks). option_or (option_map (λ (r : RowMarks). cells_after (spread r.marks)) z) (Rattle.std.proofs.Common.cond (is_among (nodes_new S.new) r.node) (Some []) None)) (has-item_of node_cmp node_cmp_total node_cmp_exact row_key S.rows r w.rising.rows i)) k.1,
        f,
        subst IsSeen (one_some r.node q f) (field-cases D S x w o r.node (row-field D S x w o r i)),
      )

  register-shows : (r : RegStep) (n q : NodeId) → Has S.regs r → r.after ≡ Some n → Some r.field.node ≡ Some q → IsUp n q
  register-shows r n q i e f = (
    Spot.Register r.field,
    placed_in_register r.field n (ap (λ (z : Option RegStep). registers_after (option_map (λ (r : RegStep). r.after) z) S.new r.field) (has-item_of field_cmp field_cmp_total field_cmp_exact reg_key S.regs r w.rising.regs i) ∙ ap (λ z. Some z) e),
    f,
    subst IsSeen (one_some r.field.node q f) (field-cases D S x w o r.field.node (reg-field D S x w o r i)),
  )

  -- one step up from one that is seen is shown, and leads to one that is
  step-up : (n q : NodeId) → IsSeen n → above E n ≡ Some q → IsUp n q
  step-up n q seen e = go (later-placed D S x w o n)
    where
      nowhere : D.place n ≡ Spot.Nowhere → E.place n ≡ D.place n → IsUp n q
      nowhere a b = absurd (none-some (ap node_of (sym a ∙ sym b) ∙ e))

      stays : (IsFoundAs L n Leave → ⊥) → E.place n ≡ D.place n → (h : How) → IsFoundAs L n h → FoundThere D S n h → IsUp n q
      stays unleft p Leave i t = absurd (unleft i)
      stays unleft p Here i t = absurd (all-has (λ (f : Found). f.how ≢ Here) L.found (record { node = n; how = Here }) w.set_nowhere i refl)
      stays unleft p Stay i (there_row r c j k a) = row-shows r (Touch c n Stay) c n q j k refl (ap node_of (sym a ∙ sym p) ∙ e)
      stays unleft p Stay i (there_held r j b g a) = elim (over-cases r) [
        | inl (same, how, none) ↦ register-shows r n q j (sym same ∙ b) (ap node_of (sym a ∙ sym p) ∙ e)
        | inr (how, all, apart) ↦ absurd (let z : Leave ≡ Stay = sym how ∙ g in cc)
      ]
      stays unleft p Stay i (there_loose l j a b k t) = nowhere k p

      go : PlacedLater D S n → IsUp n q
      go (by_row r c i (inl j) p) = row-shows r (Make c n true) c n q i j refl (ap node_of (sym p) ∙ e)
      go (by_row r c i (inr j) p) = row-shows r (Fill c n) c n q i j refl (ap node_of (sym p) ∙ e)
      go (by_register r i j p) = elim (over-cases r) [
        | inl (same, how, none) ↦ absurd (subst (λ l. Has l n) none j)
        | inr (how, all, apart) ↦ register-shows r n q i (one-is r.after n (subst (λ l. Has l n) all j)) (ap node_of (sym p) ∙ e)
      ]
      go (by_going a i p) = absurd (none-some (ap node_of (sym p) ∙ e))
      go (by_staying a b p) = elim seen [
        | inl r ↦ nowhere (ap D.place r ∙ x.root_nowhere) p
        | inr c ↦ elim c [
          | inl i ↦ nowhere (unknown_nowhere D x n (o.new_nodes n i)) p
          | inr i ↦ (let f = found-as D S x w o n i in stays b p f.0 f.1 f.2)
        ]
      ]

  leads : (k : ℕ) (n q : NodeId) → IsSeen n → climb (above E) (suc k) n ≡ Some q → LeadsUp Shows n q
  leads zero n q seen e = go (above E n) refl e
    where
      go : (z : Option NodeId) → above E n ≡ z → option_and_then (climb (above E) zero) z ≡ Some q → LeadsUp Shows n q
      go None f g = cc
      go (Some p) f g = let r = step-up n p seen f in one_up r.0 r.1 (r.2 ∙ g)
  leads (suc k) n q seen e = go (above E n) refl e (λ p s f. leads k p q s f)
    where
      go : (z : Option NodeId) → above E n ≡ z → option_and_then (climb (above E) (suc k)) z ≡ Some q → ((p : NodeId) → IsSeen p → climb (above E) (suc k) p ≡ Some q → LeadsUp Shows p q) → LeadsUp Shows n q
      go None f g rest = cc
      go (Some p) f g rest = let r = step-up n p seen f in further_up r.0 r.1 r.2 (rest p r.3 g)

  abbrev moved : List NodeId
  moved = L.put ++ leaving_nodes L.found

  not-leave : (h : How) → is_leave h ≡ true → h ≡ Leave
  not-leave Stay e = cc
  not-leave Here e = cc
  not-leave Leave e = refl

  moved-seen : (n : NodeId) → Has moved n → IsSeen n
  moved-seen n h = elim (has-append L.put (leaving_nodes L.found) n h) [
    | inl i ↦ elim (put-left D S x w o n i) [ inl j ↦ inr (inl j) | inr j ↦ inr (inr (is-found D S x w o n Leave j)) ]
    | inr i ↦ (let f = leaving-has L.found n i in inr (inr (subst (IsFound L) f.2 (is-found D S x w o f.0.node f.0.how f.1))))
  ]

  pub ends : (n : NodeId) → ClimbsToAnEnd (above E) n
  ends = no_ring_made (above E) (above D) (λ n. is_among moved n) follows x.no_ring rings moved (λ q e. (among_has moved q).0 e)
    where
      follows : (n : NodeId) → is_among moved n ≡ false → (above E n ≡ None) ⊎ (above E n ≡ above D n)
      follows n e = inr (ap node_of (unmoved-place D S x w o n
          (λ h. true-false ((among_has moved n).1 (append_left L.put (leaving_nodes L.found) n h)) e)
          (λ h. true-false ((among_has moved n).1 (append_right L.put (leaving_nodes L.found) n (has-leaving L.found (record { node = n; how = Leave }) h refl))) e)))

      rings : (p : NodeId) → is_among moved p ≡ true → (k : ℕ) → climb (above E) (suc k) p ≢ Some p
      rings p e k f = w.no_ring.after p (leads k p p (moved-seen p ((among_has moved p).0 e)) f)

  pub later_sound : IsSoundInForm E
  later_sound = record {
    root_known = known-later D S x w o root x.root_known;
    root_nowhere = root_stays D S x w o;
    one_row = rows_of D S x w o;
    once = rows_once D S x w o;
    short = rows_short D S x w o;
    own_cell = owns D S x w o;
    one_held = λ m f. (held-there D S x w o m f, there-held D S x w o m f);
    cells_known = cells_there D S x w o;
    held_known = held_there D S x w o;
    register_key = keys_there D S x w o;
    no_ring = ends;
    in_effect = entries_fit D S x w o;
  }

  pub later_extends : IsExtendedBy D E
  later_extends = record {
    before = x;
    after = later_sound;
    nodes = node-kept D S x w o;
    rows = rows_gain D S x w o;
    first_schema = first_kept D S x w o;
  }
