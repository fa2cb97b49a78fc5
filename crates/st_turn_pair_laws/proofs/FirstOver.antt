-- The first of two steps that agree in turn stands over the seed of what it finds and of what is pulled back of the second.
use Rattle.std.proofs.Common.{◌≡◌, ◌≢◌, ◌<◌, ◌++◌, ℕ, Bool, true, false, not, List, [], ◌∷◌, Option, Some, None, IsSome, IfSome, refl, sym, ap, subst, inl, inr, ◌⊎◌, arith}
use Rattle.st_ids.specs.Listing.{Has}
use Rattle.st_ids.specs.Root.{root}
use Rattle.st_ids.proofs.Shared.{filter-has, filtered}
use Rattle.st_ids.specs.declared.names.Atom.{Atom}
use Rattle.st_ids.specs.declared.names.CellId.{CellId}
use Rattle.st_ids.specs.declared.names.NodeId.{NodeId}
use Rattle.st_marks.specs.declared.marks.Loose.{Loose}
use Rattle.st_marks.specs.declared.marks.RowMarks.{RowMarks}
use Rattle.st_marks.specs.declared.places.Spot.{Spot}
use Rattle.st_marks.specs.declared.schemas.SchemaEntry.{SchemaEntry}
use Rattle.st_marks.specs.declared.schemas.SchemaStep.{SchemaStep}
use Rattle.st_marks.specs.declared.steps.Step.{Step}
use Rattle.st_marks.specs.Agree.{Agrees, ComposeClash, SchemasOverStep}
use Rattle.st_marks.specs.Document.{CanBeInEffect, Document, IsSoundInForm}
use Rattle.st_marks.specs.Embedding.{is_among}
use Rattle.st_marks.specs.Listings.{ListsCell, cells_in, cells_made, listing_after_step, nodes_new}
use Rattle.st_marks.specs.Row.{spread}
use Rattle.st_marks.specs.Step.{IsSchemaStep}
use Rattle.st_marks.proofs.Members.{all-has, append_left, append_right, flat_map-has, has-append, has-flat_map, has-map, map-has}
use Rattle.st_normal.specs.Rules.{IsFound, ObeysStepRules, entries_of_step, fields_of, fill_owners, hole_owners, in_rows}
use Rattle.st_normal.proofs.NoRings.{among_has}
use Rattle.st_puts.proofs.Basics.{not-true}
use Rattle.st_normal_laws.specs.Laid.{laid_document}
use Rattle.st_normal_laws.specs.Seed.{CanBeFound, Finds, FoundRow, IsBelow, cells_named, nodes_found, seed}
use Rattle.st_normal_laws.specs.Two.{joined_finds}
use Rattle.st_normal_laws.specs.inside.One.{found_row, node_atoms, over_all}
use Rattle.st_normal_laws.proofs.SeedSound.{seed_nowhere, seed_sound}
use Rattle.st_normal_laws.proofs.TwoSeed.{both_can_be_found, first_held, first_row, row-cell, row-shown}
use Rattle.st_normal_step_laws.specs.StepOver.{EndsWithCut, IsOverStep}
use Rattle.st_normal_step_laws.specs.inside.SeedOfStep.{found_before, names_in_step, nodes_found_by, old_holes}
use Rattle.st_turn_pair_laws.specs.inside.Back.{back_row}
use Rattle.st_turn_pair_laws.proofs.BackFound.{A, B, above_both, agree_beside, back_found, first_found, found-where, held-found, loose-unfound, row-found, row-named, stranger, told-old}
use Rattle.st_turn_pair_laws.proofs.Meeting.{cells-meet}
use Rattle.st_turn_pair_laws.proofs.Seeds.{IsToldIn, rows-told, seed-knows, seed-lacks, seed-lacks_cell}
use Rattle.st_turn_pair_laws.proofs.Shown.{loose-finds, made-in, made-left, row-finds, told-before, unmade}

-- ## Bounds

over-has : (names : List Atom) (a : Atom) → Has names a → a.rev.session < over_all names
over-has [] a h = absurd h
over-has (b ∷ names) a (inl e) = let s = ap (λ (a : Atom). a.rev.session) e in omega (arith, s)
over-has (b ∷ names) a (inr h) = omega (arith, over-has names a h)

module _ (S : Step) where
  abbrev O : ℕ
  O = over_all (names_in_step S)

  pub below-new : (n : NodeId) → Has (nodes_new S.new) n → IsBelow O n.0
  below-new n h = over-has (names_in_step S) n.0 (append_left (node_atoms (nodes_new S.new)) _ n.0 (map-has (λ (n : NodeId). n.0) (nodes_new S.new) n h))

  pub below-found : (n : NodeId) → IsFound (entries_of_step S) n → IsBelow O n.0
  below-found n h = over-has (names_in_step S) n.0 (append_right (node_atoms (nodes_new S.new)) _ n.0 (append_left (node_atoms (nodes_found_by S)) _ n.0 (map-has (λ (n : NodeId). n.0) (nodes_found_by S) n h)))

  pub below-cell : (c : CellId) → Has (in_rows cells_in S.rows) c → IsBelow O c.0
  below-cell c h = over-has (names_in_step S) c.0 (append_right (node_atoms (nodes_new S.new)) _ c.0 (append_right (node_atoms (nodes_found_by S)) _ c.0 (append_right (node_atoms (fields_of (entries_of_step S))) _ c.0 (map-has (λ (c : CellId). c.0) (in_rows cells_in S.rows) c h))))

  pub below-made : (c : CellId) → Has (in_rows cells_made S.rows) c → IsBelow O c.0
  below-made c h = let r = has-flat_map (λ (r : RowMarks). cells_made (spread r.marks)) S.rows c h in
      below-cell c (flat_map-has (λ (r : RowMarks). cells_in (spread r.marks)) S.rows r.0 c r.1 (made-in (spread r.0.marks) c r.2))

-- ## Schemas

-- a step over entries finds that they end with those that go
pub ends_with_cut : (before after : List SchemaEntry) (q : Option SchemaStep) → CanBeInEffect after → IsSchemaStep before after q → IfSome q (EndsWithCut before)
ends_with_cut before after None fit h = tt
ends_with_cut before after (Some z) fit h = (h.0, h.1, h.3, subst CanBeInEffect h.2 fit)

-- ## The first

module _ (S T : Step) (s : ObeysStepRules S) (t : ObeysStepRules T) (g : Agrees (ComposeClash S T)) (before between : List SchemaEntry) (over : SchemasOverStep before between S) where
  abbrev fit : CanBeInEffect before
  fit = over.before_in_effect

  abbrev F : ℕ
  F = above_both S T

  abbrev pub P : Finds
  P = A S T s t g before fit

  abbrev pub Q : Finds
  Q = B S T s t g before fit

  abbrev pub W : Finds
  W = joined_finds P Q

  p_found : CanBeFound F P
  p_found = first_found S T s t g before fit

  q_found : CanBeFound F Q
  q_found = back_found S T s t g before fit

  pub together : CanBeFound F W
  together = both_can_be_found F P Q p_found q_found (agree_beside S T s t g before fit)

  -- the document from which both lead in turn
  abbrev pub D : Document
  D = laid_document (seed F W)

  pub seed_is_sound : IsSoundInForm D
  seed_is_sound = seed_sound F W together

  -- who is found is found by one of both
  pub found-both : (n : NodeId) → Has (nodes_found W) n → Has (nodes_found P) n ⊎ Has (nodes_found Q) n
  found-both n h = elim (found-where W n h) [
    | inl r ↦ elim (row-shown F P Q p_found q_found (agree_beside S T s t g before fit) r.0 n r.1 r.2) [
      | inl p ↦ inl (row-found P p.0 n p.1 p.3)
      | inr q ↦ inr (row-found Q q.0 n q.1 q.3)
    ]
    | inr k ↦ elim (has-append P.held _ k.0 k.1) [
      | inl i ↦ inl (held-found P k.0 n i k.2)
      | inr i ↦ inr (held-found Q k.0 n (filtered _ Q.held k.0 i).0 k.2)
    ]
  ]

  first-known : (n : NodeId) → Has P.known n → IsSome (D.nodes n)
  first-known n h = seed-knows F W n (append_left P.known Q.known n h)

  new-unfound : (n : NodeId) → Has (nodes_new S.new) n → (n ≢ root) × (IsFound (entries_of_step S) n → ⊥)
  new-unfound n h = all-has (λ (n : NodeId). (n ≢ root) × (IsFound (entries_of_step S) n → ⊥)) (nodes_new S.new) n s.common.new_not_found h

  not-new : (n : NodeId) → not (is_among (nodes_new S.new) n) ≡ true → Has (nodes_new S.new) n → ⊥
  not-new n e h = not-true (is_among (nodes_new S.new) n) e ((among_has (nodes_new S.new) n).1 h)

  new-unknown : (n : NodeId) → Has (nodes_new S.new) n → D.nodes n ≡ None
  new-unknown n h = seed-lacks F W n below (new-unfound n h).0 unknown untold
    where
      below : IsBelow F n.0
      below = omega (arith, below-new S n h)

      unknown : Has (P.known ++ Q.known) n → ⊥
      unknown i = elim (has-append P.known Q.known n i) [
        | inl j ↦ elim (has-append (nodes_found_by S) (old_holes S) n j) [
          | inl k ↦ (new-unfound n h).1 k
          | inr k ↦ not-new n (filtered (λ n. not (is_among (nodes_new S.new) n)) (in_rows hole_owners S.rows) n k).1 h
        ]
        | inr j ↦ not-new n (filtered (λ n. not (is_among (nodes_new S.new) n)) (nodes_found_by T ++ old_holes T) n j).1 h
      ]

      untold : IsToldIn W.rows n → ⊥
      untold i = elim (rows-told P.rows Q.rows n i) [
        | inl (r, j, (v, k, e)) ↦ (let q = has-map found_row S.rows r j in
            elim (told-before (spread q.0.marks) v n (subst (λ (r : FoundRow). Has r.cells v) (sym q.2) k) e) [
              | inl f ↦ (new-unfound n h).1 (row-finds S s q.0 n q.1 f)
              | inr f ↦ all-has (λ (n : NodeId). Has (nodes_new S.new) n → ⊥) (in_rows fill_owners S.rows) n s.common.filled_old (flat_map-has (λ (r : RowMarks). fill_owners (spread r.marks)) S.rows q.0 n q.1 f) h
            ])
        | inr j ↦ told-old S T s t g before fit n j h
      ]

  made-absent : (c : CellId) → Has (in_rows cells_made S.rows) c → D.row_of c ≡ None
  made-absent c h = seed-lacks_cell F W together c below (λ r i j. elim (row-cell F P Q p_found q_found (agree_beside S T s t g before fit) r c i j) [
    | inl p ↦ (let q = has-map found_row S.rows p.0 p.1 in unmade S s q.0 c q.1 (subst (λ (r : FoundRow). Has (cells_named r.cells) c) (sym q.2) p.3) h)
    | inr p ↦ (let q = has-map (back_row S.rows) T.rows p.0 p.1 in unnamed q.0 q.1 (subst (λ (r : FoundRow). Has (cells_named r.cells) c) (sym q.2) p.3))
  ])
    where
      below : IsBelow F c.0
      below = omega (arith, below-made S c h)

      unnamed : (q : RowMarks) → Has T.rows q → Has (cells_named (back_row S.rows q).cells) c → ⊥
      unnamed q i j =
          let w = row-named S T s t g before fit q i c j in
          let m = made-left S s c h in
          cells-meet S T s t g c m.0 q.node m.1 w.0 (Some m.2) w.1 m.3 w.2 (λ same. w.3 c (Some m.2)
          (subst (λ k. ListsCell (listing_after_step S) c q.node k (Some m.2)) same.1 (subst (λ n. ListsCell (listing_after_step S) c n m.1 (Some m.2)) same.0 m.3)))

  loose-there : (l : Loose) → Has S.loose l → (D.place l.node ≡ Spot.Nowhere) × IsSome (D.nodes l.node)
  loose-there l i = (seed_nowhere F W together l.node below unfound, first-known l.node (append_left (nodes_found_by S) (old_holes S) l.node (loose-finds S s l i)))
    where
      below : IsBelow F l.node.0
      below = omega (arith, below-found S l.node (loose-finds S s l i))

      unfound : Has (nodes_found W) l.node → ⊥
      unfound h = elim (found-both l.node h) [
        | inl j ↦ loose-unfound S s l i j
        | inr j ↦ stranger S T s t g before fit l.node (inl (loose-finds S s l i)) j
      ]

  owners-there : (n : NodeId) → Has (in_rows hole_owners S.rows) n → Has (nodes_new S.new) n ⊎ IsSome (D.nodes n)
  owners-there n h = go (is_among (nodes_new S.new) n) refl
    where
      go : (b : Bool) → is_among (nodes_new S.new) n ≡ b → Has (nodes_new S.new) n ⊎ IsSome (D.nodes n)
      go true e = inl ((among_has (nodes_new S.new) n).0 e)
      go false e = inr (first-known n (append_right (nodes_found_by S) (old_holes S) n (filter-has (λ n. not (is_among (nodes_new S.new) n)) (in_rows hole_owners S.rows) n h (ap not e))))

  pub first_over : IsOverStep D S
  first_over = record {
    rows = λ r i. first_row F P Q p_found q_found (agree_beside S T s t g before fit) (found_row r) (map-has found_row S.rows r i);
    held = λ r i. first_held F P Q p_found q_found (agree_beside S T s t g before fit) (found_before r) (map-has found_before S.regs r i);
    loose = loose-there;
    new_nodes = new-unknown;
    new_cells = made-absent;
    owners = owners-there;
    schema = ends_with_cut before between S.schema over.after_in_effect over.step;
  }
