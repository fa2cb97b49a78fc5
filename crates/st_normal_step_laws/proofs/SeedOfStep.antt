-- A step that obeys the rules stands over its seed.
use Rattle.std.proofs.Common.{◌^◌, ◌≡◌, ◌≢◌, ◌<◌, ◌++◌, ℕ, Bool, true, false, not, List, [], ◌∷◌, map, length, Option, Some, None, IsSome, IfSome, cond, refl, sym, ap, ◌∙◌, subst, inl, inr, ◌⊎◌, arith, option_map}
use Rattle.std.specs.List.{flat_map}
use Rattle.st_ids.specs.Listing.{AreDistinct, Has}
use Rattle.st_ids.specs.Order.{node_cmp, field_cmp, same_rev}
use Rattle.st_ids.proofs.Orders.{node_cmp_exact, node_cmp_total, field_cmp_exact, field_cmp_total, same_rev-true, same_rev-itself}
use Rattle.st_ids.specs.declared.names.CellId.{CellId}
use Rattle.st_ids.specs.declared.names.Rev.{Rev}
use Rattle.st_ids.specs.declared.names.FieldId.{FieldId}
use Rattle.st_ids.specs.declared.names.NodeId.{NodeId}
use Rattle.st_marks.specs.declared.steps.Step.{Step}
use Rattle.st_marks.specs.declared.intents.Owned.{Owned}
use Rattle.st_normal.specs.declared.entries.Found.{Found}
use Rattle.st_marks.specs.declared.marks.How.{How}
use Rattle.st_marks.specs.declared.marks.Loose.{Loose}
use Rattle.st_marks.specs.declared.marks.RegStep.{RegStep}
use Rattle.st_marks.specs.declared.marks.RowMarks.{RowMarks}
use Rattle.st_marks.specs.declared.places.Slot.{Slot}
use Rattle.st_marks.specs.declared.places.Spot.{Spot}
use Rattle.st_marks.specs.Agree.{LeadsUp}
use Rattle.st_marks.specs.Agree.LeadsUp.{one_up, further_up}
use Rattle.st_marks.specs.Document.{Document, IsSoundInForm, node_of, owned_cell, CanBeInEffect, last_of, revs}
use Rattle.st_ids.specs.Root.{root, opening}
use Rattle.st_marks.specs.Row.{CellMark, Counted, Gap, Touch, Make, Fill, spread}
use Rattle.st_normal.specs.Rules.{IsFound, Entries, ObeysStepRules, fields_of, found_over, found_held, found_in, found_loose, in_rows, entries_of_step, fill_owners, hole_owners, how_over, SchemaStepFits, AreEntriesBehind}
use Rattle.st_marks.specs.Listings.{CellView, Places, placed_in_row, placed_in_register, cells_after, cells_before, cells_in, cells_made, nodes_new, one_or_none, nodes_standing, listing_before_step}
use Rattle.st_ids.proofs.Listings.{has-item_of}
use Rattle.st_marks.proofs.Members.{all-has, has-all, append_left, append_right, has-append, map-has, has-map, flat_map-has, has-flat_map, distinct-left, distinct-between, list_distinct, one_list}
use Rattle.st_puts.proofs.Groups.{distinct-flat}
use Rattle.st_puts.proofs.MeaningFits.{rising_distinct, append-assoc}
use Rattle.st_ids.specs.declared.names.Atom.{Atom}
use Rattle.st_marks.specs.declared.schemas.SchemaEntry.{SchemaEntry}
use Rattle.st_marks.specs.declared.schemas.SchemaStep.{SchemaStep}
use Rattle.st_marks.specs.Embedding.{is_among}
use Rattle.st_marks.specs.Normal.{IsNormalStep}
use Rattle.st_normal.proofs.ShownPlaces.{stands-before}
use Rattle.st_normal.specs.inside.Links.{stands_before}
use Rattle.st_normal_laws.specs.Laid.{laid_document, LaidRow, owned_at, cells_at}
use Rattle.st_normal_laws.specs.inside.One.{over_all, node_atoms, found_row, entry}
use Rattle.st_normal_step_laws.specs.inside.SeedOfStep.{entries_before, entries_start, finds_of_step, found_before, names_in_step, nodes_found_by, old_holes}
use Rattle.st_normal_step_laws.specs.StepOver.{EndsWithCut, IsOverStep, later}
use Rattle.st_normal_step_laws.proofs.RingsLater.{later_extends}
use Rattle.st_normal_step_laws.proofs.StepLater.{step_over}
use Rattle.st_normal_laws.specs.Seed.{CanBeFound, Finds, FoundHeld, FoundRow, IsBelow, IsFoundAt, cells_named, fresh_node, lay, nodes_found, owners_laid, seed}
use Rattle.st_normal_laws.proofs.LaidSound.{cell_found}
use Rattle.st_normal_laws.proofs.SeedSound.{cell_is, fresh-not, seed_held, seed_layout, seed_nowhere, seed_row, seed_sound}
use Rattle.st_normal.proofs.NoRings.{among_has}
use Rattle.st_lemmas.proofs.Lists.{flat_map-map, flat_map-same, map-append}
use Rattle.st_lemmas.proofs.Bools.{true-false}
use Rattle.st_puts.proofs.Basics.{not-true}
use Rattle.st_ids.proofs.Shared.{filter-has, filtered}
use Rattle.st_normal.proofs.OnePlace.{map-all}

-- ## Above all

over-has : (names : List Atom) (a : Atom) → Has names a → a.rev.session < over_all names
over-has [] a h = absurd h
over-has (b ∷ names) a (inl e) = let s = ap (λ (a : Atom). a.rev.session) e in omega (arith, s)
over-has (b ∷ names) a (inr h) = omega (arith, over-has names a h)

-- ## What is named before is named

named-in : (ms : List CellMark) (c : CellId) → Has (cells_named (cells_before ms)) c → Has (cells_in ms) c
named-in [] c h = absurd h
named-in (Counted ∷ ms) c h = named-in ms c h
named-in (Gap d ∷ ms) c (inl e) = inl e
named-in (Gap d ∷ ms) c (inr h) = inr (named-in ms c h)
named-in (Touch d m g ∷ ms) c (inl e) = inl e
named-in (Touch d m g ∷ ms) c (inr h) = inr (named-in ms c h)
named-in (Make d m b ∷ ms) c h = inr (named-in ms c h)
named-in (Fill d m ∷ ms) c (inl e) = inl e
named-in (Fill d m ∷ ms) c (inr h) = inr (named-in ms c h)

named-distinct : (ms : List CellMark) → AreDistinct (λ (c : CellId). c) (cells_in ms) → AreDistinct (λ (c : CellId). c) (cells_named (cells_before ms))
named-distinct [] d = tt
named-distinct (Counted ∷ ms) d = named-distinct ms d
named-distinct (Gap e ∷ ms) d = (has-all (λ c. c ≢ e) (cells_named (cells_before ms)) (λ c h. all-has (λ c. c ≢ e) (cells_in ms) c d.0 (named-in ms c h)), named-distinct ms d.1)
named-distinct (Touch e m g ∷ ms) d = (has-all (λ c. c ≢ e) (cells_named (cells_before ms)) (λ c h. all-has (λ c. c ≢ e) (cells_in ms) c d.0 (named-in ms c h)), named-distinct ms d.1)
named-distinct (Make e m b ∷ ms) d = named-distinct ms d.1
named-distinct (Fill e m ∷ ms) d = (has-all (λ c. c ≢ e) (cells_named (cells_before ms)) (λ c h. all-has (λ c. c ≢ e) (cells_in ms) c d.0 (named-in ms c h)), named-distinct ms d.1)

made-in : (ms : List CellMark) (c : CellId) → Has (cells_made ms) c → Has (cells_in ms) c
made-in [] c h = absurd h
made-in (Counted ∷ ms) c h = made-in ms c h
made-in (Gap d ∷ ms) c h = inr (made-in ms c h)
made-in (Touch d m g ∷ ms) c h = inr (made-in ms c h)
made-in (Make d m b ∷ ms) c (inl e) = inl e
made-in (Make d m b ∷ ms) c (inr h) = inr (made-in ms c h)
made-in (Fill d m ∷ ms) c h = inr (made-in ms c h)

-- a cell that is found isn't made
found-unmade : (ms : List CellMark) (c : CellId) → AreDistinct (λ (c : CellId). c) (cells_in ms) → Has (cells_named (cells_before ms)) c → Has (cells_made ms) c → ⊥
found-unmade [] c d h i = h
found-unmade (Counted ∷ ms) c d h i = found-unmade ms c d h i
found-unmade (Gap e ∷ ms) c d (inl q) i = all-has (λ c. c ≢ e) (cells_in ms) c d.0 (made-in ms c i) (sym q)
found-unmade (Gap e ∷ ms) c d (inr h) i = found-unmade ms c d.1 h i
found-unmade (Touch e m g ∷ ms) c d (inl q) i = all-has (λ c. c ≢ e) (cells_in ms) c d.0 (made-in ms c i) (sym q)
found-unmade (Touch e m g ∷ ms) c d (inr h) i = found-unmade ms c d.1 h i
found-unmade (Make e m b ∷ ms) c d h (inl q) = all-has (λ c. c ≢ e) (cells_in ms) c d.0 (named-in ms c h) (sym q)
found-unmade (Make e m b ∷ ms) c d h (inr i) = found-unmade ms c d.1 h i
found-unmade (Fill e m ∷ ms) c d (inl q) i = all-has (λ c. c ≢ e) (cells_in ms) c d.0 (made-in ms c i) (sym q)
found-unmade (Fill e m ∷ ms) c d (inr h) i = found-unmade ms c d.1 h i

shown-found : (ms : List CellMark) → nodes_standing (cells_before ms) ≡ map (λ (f : Found). f.node) (found_in ms)
shown-found [] = refl
shown-found (Counted ∷ ms) = shown-found ms
shown-found (Gap e ∷ ms) = shown-found ms
shown-found (Touch e m g ∷ ms) = ap (λ l. m ∷ l) (shown-found ms)
shown-found (Make e m b ∷ ms) = shown-found ms
shown-found (Fill e m ∷ ms) = shown-found ms

shown-stands : (ms : List CellMark) → nodes_standing (cells_before ms) ≡ stands_before ms
shown-stands [] = refl
shown-stands (Counted ∷ ms) = shown-stands ms
shown-stands (Gap e ∷ ms) = shown-stands ms
shown-stands (Touch e m g ∷ ms) = ap (λ l. m ∷ l) (shown-stands ms)
shown-stands (Make e m b ∷ ms) = shown-stands ms
shown-stands (Fill e m ∷ ms) = shown-stands ms

-- who owns a laid cell is found, fills it, is the root or fresh
owner_is : (F : ℕ) (n : NodeId) (ms : List CellMark) (s : Slot) → Has (lay F n (cells_before ms)) s → Has (map (λ (f : Found). f.node) (found_in ms)) s.node ⊎ Has (fill_owners ms) s.node ⊎ (s.node ≡ root) ⊎ ((k : ℕ) × (s.node ≡ fresh_node F n k))
owner_is F n [] s h = absurd h
owner_is F n (Counted ∷ ms) s (inl e) = inr (inr (inr (length (cells_before ms), ap (λ (s : Slot). s.node) (sym e))))
owner_is F n (Counted ∷ ms) s (inr h) = owner_is F n ms s h
owner_is F n (Gap d ∷ ms) s (inl e) = inr (inr (inl (ap (λ (s : Slot). s.node) (sym e))))
owner_is F n (Gap d ∷ ms) s (inr h) = owner_is F n ms s h
owner_is F n (Touch d m g ∷ ms) s (inl e) = inl (inl (ap (λ (s : Slot). s.node) e))
owner_is F n (Touch d m g ∷ ms) s (inr h) = elim (owner_is F n ms s h) [ inl i ↦ inl (inr i) | inr a ↦ inr a ]
owner_is F n (Make d m b ∷ ms) s h = owner_is F n ms s h
owner_is F n (Fill d m ∷ ms) s (inl e) = inr (inl (inl (ap (λ (s : Slot). s.node) e)))
owner_is F n (Fill d m ∷ ms) s (inr h) = elim (owner_is F n ms s h) [ inl i ↦ inl i | inr a ↦ elim a [ inl i ↦ inr (inl (inr i)) | inr b ↦ inr (inr b) ] ]

distinct-of-map : {A B K : Type 0} (key : B → K) (g : A → B) (xs : List A) → AreDistinct (λ x. key (g x)) xs → AreDistinct key (map g xs)
distinct-of-map key g [] d = tt
distinct-of-map key g (x ∷ xs) d = (has-all (λ y. key y ≢ key (g x)) (map g xs) (λ y h. let z = has-map g xs y h in λ e. all-has (λ z. key (g z) ≢ key (g x)) xs z.0 d.0 z.1 (ap key z.2 ∙ e)), distinct-of-map key g xs d.1)

held-found : (o : Option NodeId) (h : How) → one_or_none o ≡ map (λ (f : Found). f.node) (found_held o h)
held-found None h = refl
held-found (Some n) h = refl

start-effect : (on : Rev) (more : List SchemaEntry) → AreEntriesBehind on more → CanBeInEffect (entries_start on ++ more)
start-effect on more b = go (same_rev on opening) refl
  where
    go : (c : Bool) → same_rev on opening ≡ c → CanBeInEffect (cond c (entry opening ∷ []) (entry opening ∷ entry on ∷ []) ++ more)
    go true e = record { begun = refl; once = (has-all (λ (y : SchemaEntry). y.rev ≢ opening) more (λ y h. (all-has (λ (y : SchemaEntry). (y.rev ≢ opening) × (y.rev ≢ on)) more y b.behind h).0), b.once) }
    go false e = record {
      begun = refl;
      once = (
        ((λ q. true-false (ap (λ r. same_rev r opening) q ∙ same_rev-itself opening) e), has-all (λ (y : SchemaEntry). y.rev ≢ opening) more (λ y h. (all-has (λ (y : SchemaEntry). (y.rev ≢ opening) × (y.rev ≢ on)) more y b.behind h).0)),
        (has-all (λ (y : SchemaEntry). y.rev ≢ on) more (λ y h. (all-has (λ (y : SchemaEntry). (y.rev ≢ opening) × (y.rev ≢ on)) more y b.behind h).1), b.once),
      );
    }

start-last : (on : Rev) → last_of (revs (entries_start on)) ≡ Some on
start-last on = go (same_rev on opening) refl
  where
    go : (c : Bool) → same_rev on opening ≡ c → last_of (revs (cond c (entry opening ∷ []) (entry opening ∷ entry on ∷ []))) ≡ Some on
    go true e = ap (λ r. Some r) (sym (same_rev-true on opening e))
    go false e = refl

module _ (S : Step) (w : ObeysStepRules S) where
  abbrev L : Entries
  L = entries_of_step S

  abbrev W : Finds
  W = finds_of_step S

  abbrev F : ℕ
  F = over_all (names_in_step S)

  abbrev found_rows : List Found
  found_rows = in_rows found_in S.rows

  abbrev found_regs : List Found
  found_regs = flat_map found_over S.regs

  nodes-are : nodes_found W ≡ map (λ (f : Found). f.node) (found_rows ++ found_regs)
  nodes-are =
      (λ z. (flat_map-map (λ (r : FoundRow). nodes_standing r.cells) found_row S.rows ∙ flat_map-same (λ (r : RowMarks). nodes_standing (cells_before (spread r.marks))) (λ (r : RowMarks). map (λ (f : Found). f.node) (found_in (spread r.marks))) (λ r. shown-found (spread r.marks)) S.rows ∙ sym (map-all (λ (f : Found). f.node) (λ (r : RowMarks). found_in (spread r.marks)) S.rows)) z
      ++ (flat_map-map (λ (h : FoundHeld). one_or_none h.node) found_before S.regs ∙ flat_map-same (λ (r : RegStep). one_or_none r.before) (λ (r : RegStep). map (λ (f : Found). f.node) (found_over r)) (λ r. held-found r.before (how_over r)) S.regs ∙ sym (map-all (λ (f : Found). f.node) found_over S.regs)) z)
      ∙ sym (map-append (λ (f : Found). f.node) found_rows found_regs)

  split : L.found ≡ (found_rows ++ found_regs) ++ found_loose S.loose
  split = sym (append-assoc found_rows found_regs (found_loose S.loose))

  all-once : AreDistinct (λ (f : Found). f.node) ((found_rows ++ found_regs) ++ found_loose S.loose)
  all-once = subst (AreDistinct (λ (f : Found). f.node)) split w.common.found_once

  in-found : (n : NodeId) → Has (nodes_found W) n → IsFound L n
  in-found n h = let f = has-map (λ (f : Found). f.node) (found_rows ++ found_regs) n (subst (λ l. Has l n) nodes-are h) in
      subst (IsFound L) f.2 (map-has (λ (f : Found). f.node) L.found f.0 (subst (λ l. Has l f.0) (sym split) (append_left (found_rows ++ found_regs) (found_loose S.loose) f.0 f.1)))

  -- ## Bounds

  below-new : (n : NodeId) → Has (nodes_new S.new) n → IsBelow F n.0
  below-new n h = over-has (names_in_step S) n.0 (append_left (node_atoms (nodes_new S.new)) _ n.0 (map-has (λ (n : NodeId). n.0) (nodes_new S.new) n h))

  below-found : (n : NodeId) → IsFound L n → IsBelow F n.0
  below-found n h = over-has (names_in_step S) n.0 (append_right (node_atoms (nodes_new S.new)) _ n.0 (append_left (node_atoms (nodes_found_by S)) _ n.0 (map-has (λ (n : NodeId). n.0) (nodes_found_by S) n h)))

  below-field : (n : NodeId) → Has (fields_of L) n → IsBelow F n.0
  below-field n h = over-has (names_in_step S) n.0 (append_right (node_atoms (nodes_new S.new)) _ n.0 (append_right (node_atoms (nodes_found_by S)) _ n.0 (append_left (node_atoms (fields_of L)) _ n.0 (map-has (λ (n : NodeId). n.0) (fields_of L) n h))))

  below-cell : (c : CellId) → Has (in_rows cells_in S.rows) c → IsBelow F c.0
  below-cell c h = over-has (names_in_step S) c.0 (append_right (node_atoms (nodes_new S.new)) _ c.0 (append_right (node_atoms (nodes_found_by S)) _ c.0 (append_right (node_atoms (fields_of L)) _ c.0 (map-has (λ (c : CellId). c.0) (in_rows cells_in S.rows) c h))))

  row-field : (r : RowMarks) → Has S.rows r → Has (fields_of L) r.node
  row-field r i = append_left (map (λ (r : RowMarks). r.node) S.rows) (map (λ (f : FieldId). f.node) L.registers) r.node (map-has (λ (r : RowMarks). r.node) S.rows r i)

  reg-field : (r : RegStep) → Has S.regs r → Has (fields_of L) r.field.node
  reg-field r i = append_right (map (λ (r : RowMarks). r.node) S.rows) (map (λ (f : FieldId). f.node) L.registers) r.field.node (map-has (λ (f : FieldId). f.node) L.registers r.field (map-has (λ (r : RegStep). r.field) S.regs r i))

  row-from : (r : FoundRow) → Has W.rows r → (q : RowMarks) × Has S.rows q × (found_row q ≡ r)
  row-from r h = has-map found_row S.rows r h

  reg-from : (h : FoundHeld) → Has W.held h → (q : RegStep) × Has S.regs q × (found_before q ≡ h)
  reg-from h i = has-map found_before S.regs h i

  -- the node of a field that has something in it is there
  field-known : (n : NodeId) → Has (fields_of L) n → (Has (nodes_new S.new) n → ⊥) → Has (root ∷ W.known) n
  field-known n h old = elim (all-has (λ (n : NodeId). (n ≡ root) ⊎ Has L.new n ⊎ IsFound L n) (fields_of L) n w.common.fields_found h) [
    | inl e ↦ inl (sym e)
    | inr a ↦ elim a [ inl i ↦ absurd (old i) | inr f ↦ inr (append_left (nodes_found_by S) (old_holes S) n f) ]
  ]

  reg-found : (r : RegStep) (n : NodeId) → Has S.regs r → r.before ≡ Some n → IsFound L n
  reg-found r n i e = map-has (λ (f : Found). f.node) L.found (record { node = n; how = how_over r }) (append_right found_rows (found_regs ++ found_loose S.loose) (record { node = n; how = how_over r })
      (append_left found_regs (found_loose S.loose) (record { node = n; how = how_over r }) (flat_map-has found_over S.regs r (record { node = n; how = how_over r }) i (Rattle.st_puts.proofs.FoundPlaces.is-found_held r.before n (how_over r) e))))

  -- ## No ring

  abbrev Shows : NodeId → Spot → Type 0
  Shows = Places (listing_before_step S)

  says-of : (n : NodeId) (s : Spot) → IsFoundAt W n s → (t : Spot) × Shows n t × (node_of t ≡ node_of s)
  says-of n s (inl (r, c, h, i, e)) =
      let q = row-from r h in
      let a = stands-before (spread q.0.marks) n (subst (λ l. Has l n) (shown-stands (spread q.0.marks)) (subst (λ (r : FoundRow). Has (nodes_standing r.cells) n) (sym q.2) i)) in (
        Spot.Row q.0.node a.1,
        placed_in_row q.0.node n a.1 (cells_before (spread q.0.marks)) a.0 (ap (option_map (λ (r : RowMarks). cells_before (spread r.marks))) (has-item_of node_cmp node_cmp_total node_cmp_exact (λ (r : RowMarks). r.node) S.rows q.0 w.rising.rows q.1)) a.2,
        ap (λ (r : FoundRow). Some r.node) q.2 ∙ sym (ap node_of e),
      )
  says-of n s (inr (h, i, e, f)) =
      let q = reg-from h i in (
        Spot.Register q.0.field,
        placed_in_register q.0.field n (ap (option_map (λ (r : RegStep). r.before)) (has-item_of field_cmp field_cmp_total field_cmp_exact (λ (r : RegStep). r.field) S.regs q.0 w.rising.regs q.1) ∙ ap (λ o. Some o) (ap (λ (h : FoundHeld). h.node) q.2 ∙ e)),
        ap (λ (h : FoundHeld). Some h.field.node) q.2 ∙ sym (ap node_of f),
      )

  leads : (n m : NodeId) → LeadsUp (IsFoundAt W) n m → LeadsUp Shows n m
  leads n m (one_up s a e) = let r = says-of n s a in one_up r.0 r.1 (r.2 ∙ e)
  leads n m (further_up {p = p} s a e l) = let r = says-of n s a in further_up r.0 r.1 (r.2 ∙ e) (leads p m l)

  -- ## Schemas

  entries-once : CanBeInEffect (entries_before S.schema)
  entries-once = go S.schema w.schema
    where
      go : (q : Option SchemaStep) → IfSome q SchemaStepFits → CanBeInEffect (entries_before q)
      go None h = record { begun = refl; once = (tt, tt) }
      go (Some s) h = start-effect s.on s.cut h.cut

  -- ## The seed

  pub can_be_found : CanBeFound F W
  can_be_found = record {
    rows_once = distinct-of-map (λ (r : FoundRow). r.node) found_row S.rows (rising_distinct node_cmp node_cmp_total (λ (r : RowMarks). r.node) S.rows w.rising.rows);
    cells_once = subst (AreDistinct (λ (c : CellId). c)) (sym (flat_map-map (λ (r : FoundRow). cells_named r.cells) found_row S.rows)) (distinct-flat (λ (c : CellId). c) (λ (r : RowMarks). cells_named (cells_before (spread r.marks))) (λ (r : RowMarks). r.node) S.rows
        (rising_distinct node_cmp node_cmp_total (λ (r : RowMarks). r.node) S.rows w.rising.rows)
        (λ r i. named-distinct (spread r.marks) (list_distinct (λ (r : RowMarks). cells_in (spread r.marks)) (λ (c : CellId). c) S.rows r w.common.cells_once i))
        (λ r q a b i j h k e. ap (λ (r : RowMarks). r.node) (sym (one_list (λ (r : RowMarks). cells_in (spread r.marks)) (λ (c : CellId). c) S.rows r q a b w.common.cells_once i j (named-in (spread r.marks) a h) (named-in (spread q.marks) b k) (sym e)))));
    fields_once = distinct-of-map (λ (h : FoundHeld). h.field) found_before S.regs (rising_distinct field_cmp field_cmp_total (λ (r : RegStep). r.field) S.regs w.rising.regs);
    nodes_once = subst (AreDistinct (λ n. n)) (sym nodes-are) (distinct-of-map (λ (n : NodeId). n) (λ (f : Found). f.node) (found_rows ++ found_regs) (distinct-left (λ (f : Found). f.node) (found_rows ++ found_regs) (found_loose S.loose) all-once));
    root_stays = λ h. w.common.root_stays.0 (in-found root h);
    row_known = λ r y h i. let q = row-from r h in subst (λ (r : FoundRow). Has (root ∷ W.known) r.node) q.2 (field-known q.0.node (row-field q.0 q.1) (λ j.
        empty-not (cells_before (spread q.0.marks)) y (subst (λ (r : FoundRow). Has r.cells y) (sym q.2) i) (all-has (λ (r : RowMarks). Has L.new r.node → cells_before (spread r.marks) ≡ []) S.rows q.0 w.common.new_rows q.1 j)));
    held_known = λ h n i e. let q = reg-from h i in let held = ap (λ (h : FoundHeld). h.node) q.2 ∙ e in (
      inr (append_left (nodes_found_by S) (old_holes S) n (reg-found q.0 n q.1 held)),
      subst (λ (h : FoundHeld). Has (root ∷ W.known) h.field.node) q.2 (field-known q.0.field.node (reg-field q.0 q.1) (λ j.
          none-not n (sym (all-has (λ (r : RegStep). Has (nodes_new S.new) r.field.node → r.before ≡ None) S.regs q.0 w.new_registers q.1 j) ∙ held))),
    );
    keys = λ h n i e. let q = reg-from h i in subst (λ (h : FoundHeld). h.field.key.0 ≢ []) q.2 (all-has (λ (f : FieldId). f.key.0 ≢ []) L.registers q.0.field w.common.keys (map-has (λ (r : RegStep). r.field) S.regs q.0 q.1));
    short = λ r h. let q = row-from r h in subst (λ (r : FoundRow). length r.cells < 2 ^ 32) q.2 (all-has (λ (r : RowMarks). (length (cells_before (spread r.marks)) < 2 ^ 32) × (length (cells_after (spread r.marks)) < 2 ^ 32)) S.rows q.0 w.common.short q.1).0;
    no_ring = λ n l. w.no_ring.before n (leads n n l);
    in_effect = entries-once;
    below_rows = λ r h. let q = row-from r h in subst (λ (r : FoundRow). IsBelow F r.node.0) q.2 (below-field q.0.node (row-field q.0 q.1));
    below_cells = λ r c h i. let q = row-from r h in below-cell c (flat_map-has (λ (r : RowMarks). cells_in (spread r.marks)) S.rows q.0 c q.1 (named-in (spread q.0.marks) c (subst (λ (r : FoundRow). Has (cells_named r.cells) c) (sym q.2) i)));
    below_nodes = λ n h. below-found n (in-found n h);
    below_fields = λ h i. let q = reg-from h i in subst (λ (h : FoundHeld). IsBelow F h.field.node.0) q.2 (below-field q.0.field.node (reg-field q.0 q.1));
  }
    where
      empty-not : (xs : List CellView) (y : CellView) → Has xs y → xs ≡ [] → ⊥
      empty-not xs y h e = absurd (subst (λ l. Has l y) e h)

      none-not : (n : NodeId) → ◌≡◌ {A = Option NodeId} None (Some n) → ⊥
      none-not n e = cc

  abbrev pub D : Document
  D = laid_document (seed F W)

  pub seed_is_sound : IsSoundInForm D
  seed_is_sound = seed_sound F W can_be_found

  -- new nodes aren't there
  new-unknown : (n : NodeId) → Has (nodes_new S.new) n → D.nodes n ≡ None
  new-unknown n h = go (is_among (root ∷ (seed F W).known) n) refl
    where
      unfound : IsFound L n → ⊥
      unfound = (all-has (λ (n : NodeId). (n ≢ root) × (IsFound L n → ⊥)) L.new n w.common.new_not_found h).1

      unroot : n ≢ root
      unroot = (all-has (λ (n : NodeId). (n ≢ root) × (IsFound L n → ⊥)) L.new n w.common.new_not_found h).0

      owner : (r : RowMarks) → Has S.rows r → (s : Slot) → Has (lay F r.node (cells_before (spread r.marks))) s → s.node ≡ n → ⊥
      owner r i s j e = elim (owner_is F r.node (spread r.marks) s j) [
        | inl a ↦ (let f = has-map (λ (f : Found). f.node) (found_in (spread r.marks)) s.node a in
            unfound (subst (IsFound L) (f.2 ∙ e) (map-has (λ (f : Found). f.node) L.found f.0 (append_left found_rows (found_regs ++ found_loose S.loose) f.0 (flat_map-has (λ (r : RowMarks). found_in (spread r.marks)) S.rows r f.0 i f.1)))))
        | inr b ↦ elim b [
          | inl a ↦ all-has (λ (n : NodeId). Has L.new n → ⊥) (in_rows fill_owners S.rows) n w.common.filled_old (flat_map-has (λ (r : RowMarks). fill_owners (spread r.marks)) S.rows r n i (subst (Has (fill_owners (spread r.marks))) e a)) h
          | inr c ↦ elim c [ inl a ↦ unroot (sym e ∙ a) | inr k ↦ fresh-not F r.node k.0 n.0 (below-new n h) (ap (λ (n : NodeId). n.0) (sym e ∙ k.1)) ]
        ]
      ]

      absent : Has (root ∷ (seed F W).known) n → ⊥
      absent (inl e) = unroot (sym e)
      absent (inr i) = elim (has-append W.known (owners_laid F W.rows) n i) [
        | inl j ↦ elim (has-append (nodes_found_by S) (old_holes S) n j) [ inl k ↦ unfound k | inr k ↦ not-true (is_among (nodes_new S.new) n) (filtered (λ n. not (is_among (nodes_new S.new) n)) (in_rows hole_owners S.rows) n k).1 ((among_has (nodes_new S.new) n).1 h) ]
        | inr j ↦ (let r = has-flat_map (λ (r : FoundRow). map (λ (s : Slot). s.node) (lay F r.node r.cells)) W.rows n j in let q = row-from r.0 r.1 in
            let s = has-map (λ (s : Slot). s.node) (lay F r.0.node r.0.cells) n r.2 in owner q.0 q.1 s.0 (subst (λ (r : FoundRow). Has (lay F r.node r.cells) s.0) (sym q.2) s.1) s.2)
      ]

      go : (b : Bool) → is_among (root ∷ (seed F W).known) n ≡ b → D.nodes n ≡ None
      go false e = rw e refl
      go true e = absurd (absent ((among_has (root ∷ (seed F W).known) n).0 e))

  -- nor are made cells
  made-absent : (c : CellId) → Has (in_rows cells_made S.rows) c → D.row_of c ≡ None
  made-absent c h = go (D.row_of c) refl
    where
      go : (q : Option NodeId) → D.row_of c ≡ q → q ≡ None
      go None e = refl
      go (Some n) e =
          let o = (seed_is_sound.one_row c n).0 e in
          let s = has-map owned_at (cells_at (seed F W).rows n) (owned_cell c o.0) o.1 in
          let r = cell_found (seed F W) (seed_layout F W can_be_found) n s.0 s.1 in
          let f = has-map (Rattle.st_normal_laws.specs.Seed.lay_row F) W.rows r.0 r.1 in
          let q = row-from f.0 f.1 in
          absurd (bad q.0 q.1 s.0 (subst (λ (g : FoundRow). Has (lay F g.node g.cells) s.0) (sym q.2) (subst (λ (l : LaidRow). Has l.cells s.0) (sym f.2) r.2)) (ap (λ (o : Owned). o.cell) s.2))
        where
          bad : (r : RowMarks) → Has S.rows r → (s : Slot) → Has (lay F r.node (cells_before (spread r.marks))) s → s.cell ≡ c → ⊥
          bad r i s j k =
              let m = has-flat_map (λ (r : RowMarks). cells_made (spread r.marks)) S.rows c h in
              elim (cell_is F r.node (cells_before (spread r.marks)) s j) [
                | inl a ↦ (let b = subst (Has (cells_named (cells_before (spread r.marks)))) k a in
                    let same = one_list (λ (r : RowMarks). cells_in (spread r.marks)) (λ (c : CellId). c) S.rows r m.0 c c w.common.cells_once i m.1 (named-in (spread r.marks) c b) (made-in (spread m.0.marks) c m.2) refl in
                    found-unmade (spread r.marks) c (list_distinct (λ (r : RowMarks). cells_in (spread r.marks)) (λ (c : CellId). c) S.rows r w.common.cells_once i) b (subst (λ (r : RowMarks). Has (cells_made (spread r.marks)) c) (sym same) m.2))
                | inr a ↦ fresh-not F r.node a.0 c.0 (below-cell c (flat_map-has (λ (r : RowMarks). cells_in (spread r.marks)) S.rows m.0 c m.1 (made-in (spread m.0.marks) c m.2))) (ap (λ (c : CellId). c.0) (sym k ∙ a.2))
              ]

  known-there : (n : NodeId) → Has W.known n → IsSome (D.nodes n)
  known-there n h = rw ((among_has (root ∷ (seed F W).known) n).1 (inr (append_left W.known (owners_laid F W.rows) n h))) refl

  loose-there : (l : Loose) → Has S.loose l → (D.place l.node ≡ Spot.Nowhere) × IsSome (D.nodes l.node)
  loose-there l i = (
    seed_nowhere F W can_be_found l.node (below-found l.node found) (λ h. let f = has-map (λ (f : Found). f.node) (found_rows ++ found_regs) l.node (subst (λ k. Has k l.node) nodes-are h) in
        distinct-between (λ (f : Found). f.node) (found_rows ++ found_regs) (found_loose S.loose) f.0 (record { node = l.node; how = l.how }) all-once f.1 (map-has (λ (l : Loose). let f : Found = record { node = l.node; how = l.how } in f) S.loose l i) (sym f.2)),
    known-there l.node (append_left (nodes_found_by S) (old_holes S) l.node found),
  )
    where
      found : IsFound L l.node
      found = map-has (λ (f : Found). f.node) L.found (record { node = l.node; how = l.how }) (append_right found_rows (found_regs ++ found_loose S.loose) (record { node = l.node; how = l.how })
          (append_right found_regs (found_loose S.loose) (record { node = l.node; how = l.how }) (map-has (λ (l : Loose). let f : Found = record { node = l.node; how = l.how } in f) S.loose l i)))

  hole-known : (n : NodeId) → Has (in_rows hole_owners S.rows) n → Has (nodes_new S.new) n ⊎ IsSome (D.nodes n)
  hole-known n h = go (is_among (nodes_new S.new) n) refl
    where
      go : (b : Bool) → is_among (nodes_new S.new) n ≡ b → Has (nodes_new S.new) n ⊎ IsSome (D.nodes n)
      go true e = inl ((among_has (nodes_new S.new) n).0 e)
      go false e = inr (known-there n (append_right (nodes_found_by S) (old_holes S) n (filter-has (λ n. not (is_among (nodes_new S.new) n)) (in_rows hole_owners S.rows) n h (ap not e))))

  ends_with_cut : IfSome S.schema (EndsWithCut D.schemas)
  ends_with_cut = go S.schema w.schema
    where
      go : (q : Option SchemaStep) → IfSome q SchemaStepFits → IfSome q (EndsWithCut (entries_before q))
      go None h = tt
      go (Some s) h = (entries_start s.on, refl, start-last s.on, start-effect s.on s.add h.add)

  pub over_seed : IsOverStep D S
  over_seed = record {
    rows = λ r i. seed_row F W can_be_found (found_row r) (map-has found_row S.rows r i);
    held = λ r i. seed_held F W can_be_found (found_before r) (map-has found_before S.regs r i);
    loose = loose-there;
    new_nodes = new-unknown;
    new_cells = made-absent;
    owners = hole-known;
    schema = ends_with_cut;
  }

  -- a step that obeys the rules is normal
  pub step_normal : IsNormalStep S
  step_normal = (D, later D S, later_extends D S seed_is_sound w over_seed, step_over D S seed_is_sound w over_seed)
