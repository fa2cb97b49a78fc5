-- The first of two parts that agree stands over the seed of what it finds and of what is pulled back of the second.
use Rattle.std.proofs.Common.{◌≡◌, ◌≢◌, ◌<◌, ◌++◌, ℕ, true, not, List, [], ◌∷◌, Some, None, IsSome, sym, ap, subst, inl, inr, ◌⊎◌, arith}
use Rattle.st_ids.specs.Listing.{Has}
use Rattle.st_ids.specs.Root.{root}
use Rattle.st_ids.proofs.Shared.{filtered}
use Rattle.st_ids.specs.declared.names.Atom.{Atom}
use Rattle.st_ids.specs.declared.names.CellId.{CellId}
use Rattle.st_ids.specs.declared.names.NodeId.{NodeId}
use Rattle.st_marks.specs.declared.marks.Loose.{Loose}
use Rattle.st_marks.specs.declared.marks.RowMarks.{RowMarks}
use Rattle.st_marks.specs.declared.places.Spot.{Spot}
use Rattle.st_marks.specs.declared.schemas.SchemaEntry.{SchemaEntry}
use Rattle.st_marks.specs.declared.changes.Change.{Change}
use Rattle.st_marks.specs.Agree.{Agrees, JoinClash, SchemasAtChange}
use Rattle.st_marks.specs.Document.{CanBeInEffect, Document, IsSoundInForm}
use Rattle.st_marks.specs.Embedding.{is_among}
use Rattle.st_marks.specs.Listings.{ListsCell, cells_in, cells_made, listing_after_change, nodes_new}
use Rattle.st_marks.specs.Row.{spread}
use Rattle.st_marks.proofs.Members.{all-has, append_left, append_right, flat_map-has, has-append, has-flat_map, has-map, map-has}
use Rattle.st_normal.specs.Rules.{IsFound, ObeysDataRules, entries_of_change, fields_of, fill_owners, in_rows}
use Rattle.st_normal.proofs.NoRings.{among_has}
use Rattle.st_puts.proofs.Basics.{not-true}
use Rattle.st_normal_laws.specs.Laid.{laid_document}
use Rattle.st_normal_laws.specs.Seed.{CanBeFound, Finds, FoundRow, IsBelow, cells_named, nodes_found, seed}
use Rattle.st_normal_laws.specs.Two.{joined_finds}
use Rattle.st_normal_laws.specs.inside.One.{found_reg, found_row, names_in, node_atoms, nodes_of_found, over_all}
use Rattle.st_normal_laws.proofs.SeedSound.{seed_nowhere, seed_sound}
use Rattle.st_normal_laws.proofs.TwoSeed.{both_can_be_found, first_held, first_row, row-cell, row-shown}
use Rattle.st_puts.specs.Meant.{IsOver}
use Rattle.st_part_pair_laws.specs.inside.PartBack.{back_row}
use Rattle.st_part_pair_laws.proofs.BackFound.{A, B, above_both, agree_beside, back_found, first_found, found-where, held-found, loose-unfound, row-found, row-named, stranger, told-old}
use Rattle.st_part_pair_laws.proofs.Meeting.{cells-meet}
use Rattle.st_part_pair_laws.proofs.Seeds.{IsToldIn, rows-told, seed-knows, seed-lacks, seed-lacks_cell}
use Rattle.st_part_pair_laws.proofs.Marks.{made-in, told-before}
use Rattle.st_part_pair_laws.proofs.Shown.{loose-finds, made-left, row-finds, unmade}

-- ## Bounds

over-has : (names : List Atom) (a : Atom) → Has names a → a.rev.session < over_all names
over-has [] a h = absurd h
over-has (b ∷ names) a (inl e) = let s = ap (λ (a : Atom). a.rev.session) e in omega (arith, s)
over-has (b ∷ names) a (inr h) = omega (arith, over-has names a h)

module _ (C : Change) where
  abbrev O : ℕ
  O = over_all (names_in C)

  pub below-new : (n : NodeId) → Has (nodes_new C.new) n → IsBelow O n.0
  below-new n h = over-has (names_in C) n.0 (append_left (node_atoms (nodes_new C.new)) _ n.0 (map-has (λ (n : NodeId). n.0) (nodes_new C.new) n h))

  pub below-found : (n : NodeId) → IsFound (entries_of_change C) n → IsBelow O n.0
  below-found n h = over-has (names_in C) n.0 (append_right (node_atoms (nodes_new C.new)) _ n.0 (append_left (node_atoms (nodes_of_found C)) _ n.0 (map-has (λ (n : NodeId). n.0) (nodes_of_found C) n h)))

  pub below-cell : (c : CellId) → Has (in_rows cells_in C.rows) c → IsBelow O c.0
  below-cell c h = over-has (names_in C) c.0 (append_right (node_atoms (nodes_new C.new)) _ c.0 (append_right (node_atoms (nodes_of_found C)) _ c.0 (append_right (node_atoms (fields_of (entries_of_change C))) _ c.0 (map-has (λ (c : CellId). c.0) (in_rows cells_in C.rows) c h))))

  pub below-made : (c : CellId) → Has (in_rows cells_made C.rows) c → IsBelow O c.0
  below-made c h = let r = has-flat_map (λ (r : RowMarks). cells_made (spread r.marks)) C.rows c h in
      below-cell c (flat_map-has (λ (r : RowMarks). cells_in (spread r.marks)) C.rows r.0 c r.1 (made-in (spread r.0.marks) c r.2))

-- ## The first

module _ (C K : Change) (s : ObeysDataRules C) (t : ObeysDataRules K) (g : Agrees (JoinClash C K)) (first_plain : C.schema ≡ None) (then_plain : K.schema ≡ None)
    (entries : List SchemaEntry) (standing : SchemasAtChange entries C) where
  abbrev fit : CanBeInEffect entries
  fit = standing.in_effect

  abbrev F : ℕ
  F = above_both C K

  abbrev pub P : Finds
  P = A C K s t g first_plain then_plain entries fit

  abbrev pub Q : Finds
  Q = B C K s t g first_plain then_plain entries fit

  abbrev pub W : Finds
  W = joined_finds P Q

  p_found : CanBeFound F P
  p_found = first_found C K s t g first_plain then_plain entries fit

  q_found : CanBeFound F Q
  q_found = back_found C K s t g first_plain then_plain entries fit

  pub together : CanBeFound F W
  together = both_can_be_found F P Q p_found q_found (agree_beside C K s t g first_plain then_plain entries fit)

  -- the document from which both lead in turn
  abbrev pub D : Document
  D = laid_document (seed F W)

  pub seed_is_sound : IsSoundInForm D
  seed_is_sound = seed_sound F W together

  -- who is found is found by one of both
  pub found-both : (n : NodeId) → Has (nodes_found W) n → Has (nodes_found P) n ⊎ Has (nodes_found Q) n
  found-both n h = elim (found-where W n h) [
    | inl r ↦ elim (row-shown F P Q p_found q_found (agree_beside C K s t g first_plain then_plain entries fit) r.0 n r.1 r.2) [
      | inl p ↦ inl (row-found P p.0 n p.1 p.3)
      | inr q ↦ inr (row-found Q q.0 n q.1 q.3)
    ]
    | inr k ↦ elim (has-append P.held _ k.0 k.1) [
      | inl i ↦ inl (held-found P k.0 n i k.2)
      | inr i ↦ inr (held-found Q k.0 n (filtered _ Q.held k.0 i).0 k.2)
    ]
  ]

  first-known : (n : NodeId) → Has P.known n → IsSome (D.nodes n)
  first-known n h = seed-knows F W n (append_left P.known Q.known n h)

  new-unfound : (n : NodeId) → Has (nodes_new C.new) n → (n ≢ root) × (IsFound (entries_of_change C) n → ⊥)
  new-unfound n h = all-has (λ (n : NodeId). (n ≢ root) × (IsFound (entries_of_change C) n → ⊥)) (nodes_new C.new) n s.common.new_not_found h

  not-new : (n : NodeId) → not (is_among (nodes_new C.new) n) ≡ true → Has (nodes_new C.new) n → ⊥
  not-new n e h = not-true (is_among (nodes_new C.new) n) e ((among_has (nodes_new C.new) n).1 h)

  new-unknown : (n : NodeId) → Has (nodes_new C.new) n → D.nodes n ≡ None
  new-unknown n h = seed-lacks F W n below (new-unfound n h).0 unknown untold
    where
      below : IsBelow F n.0
      below = omega (arith, below-new C n h)

      unknown : Has (P.known ++ Q.known) n → ⊥
      unknown i = elim (has-append P.known Q.known n i) [
        | inl j ↦ (new-unfound n h).1 j
        | inr j ↦ not-new n (filtered (λ n. not (is_among (nodes_new C.new) n)) (nodes_of_found K) n j).1 h
      ]

      untold : IsToldIn W.rows n → ⊥
      untold i = elim (rows-told P.rows Q.rows n i) [
        | inl (r, j, (v, k, e)) ↦ (let q = has-map found_row C.rows r j in
            elim (told-before (spread q.0.marks) v n (subst (λ (r : FoundRow). Has r.cells v) (sym q.2) k) e) [
              | inl f ↦ (new-unfound n h).1 (row-finds C s q.0 n q.1 f)
              | inr f ↦ all-has (λ (n : NodeId). Has (nodes_new C.new) n → ⊥) (in_rows fill_owners C.rows) n s.common.filled_old (flat_map-has (λ (r : RowMarks). fill_owners (spread r.marks)) C.rows q.0 n q.1 f) h
            ])
        | inr j ↦ told-old C K s t g first_plain then_plain entries fit n j h
      ]

  made-absent : (c : CellId) → Has (in_rows cells_made C.rows) c → D.row_of c ≡ None
  made-absent c h = seed-lacks_cell F W together c below (λ r i j. elim (row-cell F P Q p_found q_found (agree_beside C K s t g first_plain then_plain entries fit) r c i j) [
    | inl p ↦ (let q = has-map found_row C.rows p.0 p.1 in unmade C s q.0 c q.1 (subst (λ (r : FoundRow). Has (cells_named r.cells) c) (sym q.2) p.3) h)
    | inr p ↦ (let q = has-map (back_row C.rows) K.rows p.0 p.1 in unnamed q.0 q.1 (subst (λ (r : FoundRow). Has (cells_named r.cells) c) (sym q.2) p.3))
  ])
    where
      below : IsBelow F c.0
      below = omega (arith, below-made C c h)

      unnamed : (q : RowMarks) → Has K.rows q → Has (cells_named (back_row C.rows q).cells) c → ⊥
      unnamed q i j =
          let w = row-named C K s t g first_plain then_plain entries fit q i c j in
          let m = made-left C s c h in
          cells-meet C K s t g c m.0 q.node m.1 w.0 (Some m.2) w.1 m.3 w.2 (λ same. w.3 c (Some m.2)
          (subst (λ k. ListsCell (listing_after_change C) c q.node k (Some m.2)) same.1 (subst (λ n. ListsCell (listing_after_change C) c n m.1 (Some m.2)) same.0 m.3)))

  loose-there : (l : Loose) → Has C.loose l → (D.place l.node ≡ Spot.Nowhere) × IsSome (D.nodes l.node)
  loose-there l i = (seed_nowhere F W together l.node below unfound, first-known l.node (loose-finds C s l i))
    where
      below : IsBelow F l.node.0
      below = omega (arith, below-found C l.node (loose-finds C s l i))

      unfound : Has (nodes_found W) l.node → ⊥
      unfound h = elim (found-both l.node h) [
        | inl j ↦ loose-unfound C s l i j
        | inr j ↦ stranger C K s t g first_plain then_plain entries fit l.node (inl (loose-finds C s l i)) j
      ]

  pub first_over : IsOver D C
  first_over = record {
    rows = λ r i. first_row F P Q p_found q_found (agree_beside C K s t g first_plain then_plain entries fit) (found_row r) (map-has found_row C.rows r i);
    held = λ r i. first_held F P Q p_found q_found (agree_beside C K s t g first_plain then_plain entries fit) (found_reg r) (map-has found_reg C.regs r i);
    loose = loose-there;
    new_nodes = new-unknown;
    new_cells = made-absent;
    base = standing.base;
    new_schema = standing.fresh;
  }
