-- Three steps in turn, of which the first two agree, the last two, and either with both others as one, stand over documents in turn.
use Rattle.std.proofs.Common.{◌≡◌, ◌⊎◌, ◌++◌, ◌≤◌, ℕ, Bool, true, false, not, List, map, Option, Some, None, IsSome, IsTrue, IfSome, refl, sym, ap, ◌∙◌, subst, inl, inr, arith}
use Rattle.st_ids.specs.Listing.{Has}
use Rattle.st_ids.specs.Order.{same_cell}
use Rattle.st_ids.proofs.Orders.{same_cell-itself, same_cell-true}
use Rattle.st_ids.proofs.Shared.{filter-has, filtered}
use Rattle.st_ids.specs.declared.names.Atom.{Atom}
use Rattle.st_ids.specs.declared.names.CellId.{CellId}
use Rattle.st_ids.specs.declared.names.FieldId.{FieldId}
use Rattle.st_ids.specs.declared.names.NodeId.{NodeId}
use Rattle.st_lemmas.proofs.Bools.{or-left}
use Rattle.st_lemmas.proofs.Options.{None-IsSome}
use Rattle.st_marks.specs.declared.marks.Loose.{Loose}
use Rattle.st_marks.specs.declared.places.Slot.{Slot}
use Rattle.st_marks.specs.declared.schemas.SchemaEntry.{SchemaEntry}
use Rattle.st_marks.specs.declared.steps.Step.{Step}
use Rattle.st_marks.specs.Agree.{Agrees, ComposeClash, Differs, SchemasOverStep, cell_again, node_again}
use Rattle.st_marks.specs.Document.{Document, IsSoundInForm, content}
use Rattle.st_marks.specs.Embedding.{is_among}
use Rattle.st_marks.specs.Extends.{IsExtendedBy}
use Rattle.st_marks.specs.Listings.{CellView, cells_made, nodes_new, one_or_none}
use Rattle.st_marks.specs.Step.{IsStep}
use Rattle.st_marks.proofs.Members.{any-has, append_left, append_right, has-any, has-append, has-flat_map, has-map, map-has}
use Rattle.st_normal.specs.Rules.{ObeysStepRules, hole_owners, in_rows}
use Rattle.st_normal.proofs.NoRings.{among_has}
use Rattle.st_normal_laws.specs.Seed.{CanBeFound, FoundRow, cells_named}
use Rattle.st_normal_laws.specs.Two.{AgreeBeside}
use Rattle.st_normal_laws.specs.inside.One.{found_row, over_all}
use Rattle.st_normal_laws.proofs.TwoSeed.{first_held, first_row}
use Rattle.st_normal_step_laws.specs.StepOver.{EndsWithCut, IsOverStep, later}
use Rattle.st_normal_step_laws.specs.inside.SeedOfStep.{finds_of_step, found_before, names_in_step, nodes_found_by, old_holes}
use Rattle.st_normal_step_laws.proofs.RingsLater.{later_extends}
use Rattle.st_normal_step_laws.proofs.StepLater.{step_over}
use Rattle.st_normal_step_laws.proofs.StepsFind.{finds_what_is_so}
use Rattle.st_agree_laws.proofs.ShownTruth.{no_difference_shown, step_true}
use Rattle.st_puts.specs.Seen.{AreAsSeen}
use Rattle.st_puts.proofs.Basics.{not-true, one-is}
use Rattle.st_puts.proofs.StepPlaces.{found-named, known, slot-known}
use Rattle.st_rows.proofs.Documents.{in_document}
use Rattle.st_pair_laws.proofs.Alike.{IsApartFrom, ShowAlike}
use Rattle.st_pair_laws.proofs.Bounds.{over-first, over-has, over-second, raised}
use Rattle.st_pair_laws.proofs.FitsLater.{schemas_after}
use Rattle.st_pair_laws.proofs.OneDocument.{first_loose, first_made, first_new, known_there, second_loose}
use Rattle.st_pair_laws.proofs.Shown.{IsShown, Side}
use Rattle.st_pair_laws.proofs.ShownBefore.{side_of_step, step_shown}
use Rattle.st_pair_laws.proofs.StandData.{ends_with_cut}
use Rattle.st_three_laws.specs.Over.{StandInTurn}
use Rattle.st_three_laws.proofs.Between.{seen-has, told-is}
use Rattle.st_three_laws.proofs.BothFound.{first-holds, first-seen, other-holds, other-seen}
use Rattle.st_three_laws.proofs.JointSide.{AtOnePlace, agree, apart_bare, back, bare, bare_alike, bare_apart, bare_is_shown, joint_found}
use Rattle.st_three_laws.proofs.NextOver.{cells-first, cells-next, data_of, data_rules, new-first, new-next, next_data, next_over}
use Rattle.st_three_laws.proofs.Split.{cells-split, new-split}
use Rattle.st_three_laws.proofs.StandOver.{alike-shown, one-place}
use Rattle.st_three_laws.proofs.TwoBeside.{compositions_back, compositions_one}

-- whom a step finds, and the old owners of the empty cells that it makes, are there
pub known-before : (A B : Document) (S : Step) (e : IsExtendedBy A B) (q : IsStep A B S) (n : NodeId) → Has (nodes_found_by S ++ old_holes S) n → IsSome (A.nodes n)
known-before A B S e q n h = elim (has-append (nodes_found_by S) (old_holes S) n h) [
  | inl i ↦ known A B S e q n (found-named A B S e q n i).0
  | inr i ↦ (let k = filtered (λ n. not (is_among (nodes_new S.new) n)) (in_rows hole_owners S.rows) n i in
      elim ((finds_what_is_so A B S e q).owners n k.0) [ inl j ↦ absurd (not-true (is_among (nodes_new S.new) n) k.1 ((among_has (nodes_new S.new) n).1 j)) | inr j ↦ j ])
]

-- a step sees the rows as they are
pub rows-before : (A B : Document) (S : Step) (e : IsExtendedBy A B) (q : IsStep A B S) (r : FoundRow) → Has (finds_of_step S).rows r → AreAsSeen (content A r.node) r.cells
rows-before A B S e q r i = let p = has-map found_row S.rows r i in subst (λ (r : FoundRow). AreAsSeen (content A r.node) r.cells) p.2 ((finds_what_is_so A B S e q).rows p.0 p.1)

module _ (a b c u d r : Step) (wa : ObeysStepRules a) (wb : ObeysStepRules b) (wc : ObeysStepRules c) (wu : ObeysStepRules u) (wd : ObeysStepRules d) (wr : ObeysStepRules r) (g : Agrees (ComposeClash u c))
    -- a, then b, and both as u
    (O P Q : Document) (x : IsExtendedBy O P) (y : IsExtendedBy P Q) (z : IsExtendedBy O Q) (s : IsStep O P a) (t : IsStep P Q b) (w : IsStep O Q u)
    -- b, then c, and both as d
    (M B N : Document) (xm : IsExtendedBy M B) (ym : IsExtendedBy B N) (zm : IsExtendedBy M N) (sm : IsStep M B b) (tm : IsStep B N c) (wm : IsStep M N d)
    -- a, then d, and both as r
    (G H K : Document) (x' : IsExtendedBy G H) (y' : IsExtendedBy H K) (z' : IsExtendedBy G K) (s' : IsStep G H a) (t' : IsStep H K d) (w' : IsStep G K r)
    (before between mid after : List SchemaEntry) (on_a : SchemasOverStep before between a) (on_b : SchemasOverStep between mid b) (on_c : SchemasOverStep mid after c) where
  abbrev of_steps : List Atom
  of_steps = names_in_step a ++ names_in_step u

  abbrev F : ℕ
  F = over_all (names_in_step r ++ of_steps)

  abbrev X : Side
  X = side_of_step r before

  abbrev A : Side
  A = side_of_step a before

  abbrev U : Side
  U = side_of_step u before

  raised_to : (S : Step) → ObeysStepRules S → over_all (names_in_step S) ≤ F → CanBeFound F (side_of_step S before).finds
  raised_to S w more = raised (over_all (names_in_step S)) F (finds_of_step S) before more on_a.before_in_effect (Rattle.st_normal_step_laws.proofs.SeedOfStep.can_be_found S w)

  cx : CanBeFound F X.finds
  cx = raised_to r wr (over-first (names_in_step r) of_steps)

  more-first : over_all (names_in_step a) ≤ F
  more-first = omega (arith, over-second (names_in_step r) of_steps, over-first (names_in_step a) (names_in_step u))

  more-both : over_all (names_in_step u) ≤ F
  more-both = omega (arith, over-second (names_in_step r) of_steps, over-second (names_in_step a) (names_in_step u))

  ca : CanBeFound F A.finds
  ca = raised_to a wa more-first

  cu : CanBeFound F U.finds
  cu = raised_to u wu more-both

  px : IsShown F X
  px = step_shown r wr before F (λ m i. over-has (names_in_step r ++ of_steps) m (append_left (names_in_step r) of_steps m i))

  pa : IsShown F A
  pa = step_shown a wa before F (λ m i. over-has (names_in_step r ++ of_steps) m (append_right (names_in_step r) of_steps m (append_left (names_in_step a) (names_in_step u) m i)))

  pu : IsShown F U
  pu = step_shown u wu before F (λ m i. over-has (names_in_step r ++ of_steps) m (append_right (names_in_step r) of_steps m (append_right (names_in_step a) (names_in_step u) m i)))

  -- ## The first and both as one, from one document

  same-there : (f : FieldId) → Differs A.listing U.listing f → ⊥
  same-there f e = no_difference_shown O x.before A.listing U.listing f (step_true O P a s) (step_true O Q u w) e

  steps_alike : ShowAlike A.listing U.listing
  steps_alike = alike-shown A.listing U.listing same-there

  steps_one : AtOnePlace A.listing U.listing
  steps_one = one-place A.listing U.listing same-there

  seen : (q : FoundRow) → Has A.finds.rows q → AreAsSeen (content O q.node) q.cells
  seen q i = rows-before O P a x s q i

  abbrev Z : Side
  Z = bare F A U pa pu ca cu steps_alike steps_one O x.before seen (known-before O P a x s) (finds_what_is_so O Q u z w).new_nodes (finds_what_is_so O Q u z w).new_cells

  pz : IsShown F Z
  pz = bare_is_shown F A U pa pu ca cu steps_alike steps_one O x.before seen (known-before O P a x s) (finds_what_is_so O Q u z w).new_nodes (finds_what_is_so O Q u z w).new_cells

  cz : CanBeFound F Z.finds
  cz = joint_found F A U pa pu ca cu steps_alike steps_one

  beside : AgreeBeside A.finds U.finds
  beside = agree F A U pa pu ca cu steps_alike steps_one

  -- ## The whole beside both

  first-there : (f : FieldId) → Differs X.listing A.listing f → ⊥
  first-there f e = no_difference_shown G x'.before X.listing A.listing f (step_true G K r w') (step_true G H a s') e

  both_one : AtOnePlace U.listing X.listing
  both_one = compositions_one O P Q a b u x y z s t w G H K d r x' y' z' s' t' w' M B N xm sm zm wm

  -- what the whole makes, both as one make, or the last does
  new-where : (n : NodeId) → Has (nodes_new r.new) n → Has (nodes_new u.new) n ⊎ Has (nodes_new c.new) n
  new-where n h = elim (new-split G H K a d r x' y' z' s' t' w' n h) [
    | inl i ↦ inl (new-first O P Q a b u x y z s t w n i)
    | inr i ↦ elim (new-split M B N b c d xm ym zm sm tm wm n i) [ inl j ↦ inl (new-next O P Q a b u x y z s t w n j) | inr j ↦ inr j ]
  ]

  cells-where : (k : CellId) → Has (in_rows cells_made r.rows) k → Has (in_rows cells_made u.rows) k ⊎ Has (in_rows cells_made c.rows) k
  cells-where k h = elim (cells-split G H K a d r x' y' z' s' t' w' k h) [
    | inl i ↦ inl (cells-first O P Q a b u x y z s t w k i)
    | inr i ↦ elim (cells-split M B N b c d xm ym zm sm tm wm k i) [ inl j ↦ inl (cells-next O P Q a b u x y z s t w k j) | inr j ↦ inr j ]
  ]

  -- and so it names none of that before
  unknown-first : (n : NodeId) → Has (nodes_new r.new) n → IsSome (G.nodes n) → ⊥
  unknown-first n h k = None-IsSome (G.nodes n) ((finds_what_is_so G K r z' w').new_nodes n h) k

  nodes-untold : (n : NodeId) → IsTrue (X.listing.names.makes_node n)
      → (Has A.finds.known n ⊎ Has U.finds.known n ⊎ ((q : FoundRow) × (v : CellView) × Has A.finds.rows q × Has q.cells v × (v.node ≡ Some n)) ⊎ ((q : FoundRow) × (v : CellView) × Has U.finds.rows q × Has q.cells v × (v.node ≡ Some n))) → ⊥
  nodes-untold n made where-it = at ((among_has (nodes_new r.new) n).0 made) where-it
    where
      named : Has (nodes_new c.new) n → IsTrue (U.listing.names.names_node n) → ⊥
      named h e = g (Rattle.st_marks.specs.Agree.row_field n) (inr (inl (node_again n ((among_has (nodes_new c.new) n).1 h) e)))

      at : Has (nodes_new r.new) n → (Has A.finds.known n ⊎ Has U.finds.known n ⊎ ((q : FoundRow) × (v : CellView) × Has A.finds.rows q × Has q.cells v × (v.node ≡ Some n)) ⊎ ((q : FoundRow) × (v : CellView) × Has U.finds.rows q × Has q.cells v × (v.node ≡ Some n))) → ⊥
      at h (inl i) = unknown-first n h (known-before G H a x' s' n i)
      at h (inr (inl i)) = elim (new-where n h) [ inl j ↦ (pu.new_apart n j).1 i | inr j ↦ named j (pu.known_told n i) ]
      at h (inr (inr (inl (q, v, i, j, e)))) =
          let o = seen-has (content G q.node) q.cells v (rows-before G H a x' s' q i) j in
          unknown-first n h (subst (λ n. IsSome (G.nodes n)) (sym (told-is v.node n o.0.node e o.2.2)) (slot-known G x'.before q.node o.0 o.1).1)
      at h (inr (inr (inr (q, v, i, j, e)))) = elim (new-where n h) [ inl k ↦ pu.new_unowned n q v k i j e | inr k ↦ named k (pu.owner_told q v n i j e) ]

  cells-untold : (k : CellId) → IsTrue (X.listing.names.makes_cell k) → ((q : FoundRow) × Has A.finds.rows q × Has (cells_named q.cells) k) ⊎ ((q : FoundRow) × Has U.finds.rows q × Has (cells_named q.cells) k) → ⊥
  cells-untold k made where-it = at (let e = any-has (λ e. same_cell e k) (in_rows cells_made r.rows) made in subst (Has (in_rows cells_made r.rows)) (same_cell-true e.0 k e.2) e.1) where-it
    where
      none-not : {n : NodeId} → ◌≡◌ {A = Option NodeId} None (Some n) → ⊥
      none-not e = cc

      named : (q : NodeId) → Has (in_rows cells_made c.rows) k → IsTrue (U.listing.names.names_cell q k) → ⊥
      named q h e = g (Rattle.st_marks.specs.Agree.row_field q) (inr (inl (cell_again k q q (has-any (λ e. same_cell e k) (in_rows cells_made c.rows) k h (same_cell-itself k)) e (or-left _ _ e))))

      at : Has (in_rows cells_made r.rows) k → ((q : FoundRow) × Has A.finds.rows q × Has (cells_named q.cells) k) ⊎ ((q : FoundRow) × Has U.finds.rows q × Has (cells_named q.cells) k) → ⊥
      at h (inl (q, i, j)) =
          let v = has-flat_map (λ (x : CellView). one_or_none x.cell) q.cells k j in
          let o = seen-has (content G q.node) q.cells v.0 (rows-before G H a x' s' q i) v.1 in
          let same : k ≡ o.0.cell = told-is v.0.cell k o.0.cell (one-is v.0.cell k v.2) o.2.1 in
          none-not (sym ((finds_what_is_so G K r z' w').new_cells k h) ∙ in_document G x'.before q.node k (subst (Has (map (λ (s : Slot). s.cell) (content G q.node))) (sym same) (map-has (λ (s : Slot). s.cell) (content G q.node) o.0 o.1)))
      at h (inr (q, i, j)) = elim (cells-where k h) [ inl e ↦ pu.made_apart k q e i j | inr e ↦ named q.node e (pu.cell_told q k i j) ]

  both_back : ShowAlike X.listing U.listing
  both_back = compositions_back O P Q a b u x y z s t w G H K d r x' y' z' s' t' w' M B N xm sm zm wm

  one-back : AtOnePlace X.listing U.listing
  one-back = back U.listing X.listing both_one

  alike : ShowAlike X.listing Z.listing
  alike = bare_alike F A U pa pu ca cu steps_alike steps_one O x.before seen (known-before O P a x s) (finds_what_is_so O Q u z w).new_nodes (finds_what_is_so O Q u z w).new_cells
      X.listing (alike-shown X.listing A.listing first-there) both_back (one-place X.listing A.listing first-there) one-back nodes-untold cells-untold

  u_apart : IsApartFrom X.listing Z.listing
  u_apart = bare_apart F A U pa pu ca cu steps_alike steps_one O x.before seen (known-before O P a x s) (finds_what_is_so O Q u z w).new_nodes (finds_what_is_so O Q u z w).new_cells
      X.listing (alike-shown X.listing A.listing first-there) both_back (one-place X.listing A.listing first-there) one-back nodes-untold cells-untold

  v_apart : IsApartFrom Z.listing X.listing
  v_apart = apart_bare F A U pa pu ca cu steps_alike steps_one O x.before seen (known-before O P a x s) (finds_what_is_so O Q u z w).new_nodes (finds_what_is_so O Q u z w).new_cells
      X.listing (alike-shown X.listing A.listing first-there) both_back (one-place X.listing A.listing first-there) one-back nodes-untold cells-untold

  both : AgreeBeside X.finds Z.finds
  both = Rattle.st_pair_laws.proofs.OneDocument.agree_beside F X Z px pz cx cz alike u_apart v_apart

  abbrev D : Document
  D = Rattle.st_pair_laws.proofs.OneDocument.D F X Z px pz cx cz alike u_apart v_apart

  sound : IsSoundInForm D
  sound = Rattle.st_pair_laws.proofs.OneDocument.seed_is_sound F X Z px pz cx cz alike u_apart v_apart

  -- ## The steps over it

  hole-there : (S : Step) → ((n : NodeId) → Has (nodes_found_by S ++ old_holes S) n → Has (X.finds.known ++ Z.finds.known) n) → (n : NodeId) → Has (in_rows hole_owners S.rows) n → Has (nodes_new S.new) n ⊎ IsSome (D.nodes n)
  hole-there S there n i = go (is_among (nodes_new S.new) n) refl
    where
      go : (c : Bool) → is_among (nodes_new S.new) n ≡ c → Has (nodes_new S.new) n ⊎ IsSome (D.nodes n)
      go true e = inl ((among_has (nodes_new S.new) n).0 e)
      go false e = inr (known_there F X Z px pz cx cz alike u_apart v_apart n (there n (append_right (nodes_found_by S) (old_holes S) n (filter-has (λ n. not (is_among (nodes_new S.new) n)) (in_rows hole_owners S.rows) n i (ap not e)))))

  new-both : (n : NodeId) → Has (nodes_new u.new) n → Has (nodes_new r.new) n
  new-both n h = elim (new-split O P Q a b u x y z s t w n h) [
    | inl i ↦ new-first G H K a d r x' y' z' s' t' w' n i
    | inr i ↦ new-next G H K a d r x' y' z' s' t' w' n (new-first M B N b c d xm ym zm sm tm wm n i)
  ]

  cells-both : (k : CellId) → Has (in_rows cells_made u.rows) k → Has (in_rows cells_made r.rows) k
  cells-both k h = elim (cells-split O P Q a b u x y z s t w k h) [
    | inl i ↦ cells-first G H K a d r x' y' z' s' t' w' k i
    | inr i ↦ cells-next G H K a d r x' y' z' s' t' w' k (cells-first M B N b c d xm ym zm sm tm wm k i)
  ]

  over-a : IsOverStep D a
  over-a = record {
    rows = λ q i. first-seen F X.finds A.finds U.finds cx cz cu beside both (found_row q) (map-has found_row a.rows q i);
    held = λ q i. first-holds F X.finds A.finds U.finds cx cz cu beside both (found_before q) (map-has found_before a.regs q i);
    loose = λ l i. second_loose F X Z px pz cx cz alike u_apart v_apart l.node (append_left A.loose U.loose l.node (map-has (λ (l : Loose). l.node) a.loose l i));
    new_nodes = λ n i. first_new F X Z px pz cx cz alike u_apart v_apart n (new-first G H K a d r x' y' z' s' t' w' n i);
    new_cells = λ k i. first_made F X Z px pz cx cz alike u_apart v_apart k (cells-first G H K a d r x' y' z' s' t' w' k i);
    owners = hole-there a (λ n i. append_right X.finds.known Z.finds.known n (append_left A.finds.known U.finds.known n i));
    schema = ends_with_cut before between a on_a;
  }

  over-u : IsOverStep D (data_of u)
  over-u = record {
    rows = λ q i. other-seen F X.finds A.finds U.finds cx cz cu beside both (found_row q) (map-has found_row u.rows q i);
    held = λ q i. other-holds F X.finds A.finds U.finds cx cz cu beside both (found_before q) (map-has found_before u.regs q i);
    loose = λ l i. second_loose F X Z px pz cx cz alike u_apart v_apart l.node (append_right A.loose U.loose l.node (map-has (λ (l : Loose). l.node) u.loose l i));
    new_nodes = λ n i. first_new F X Z px pz cx cz alike u_apart v_apart n (new-both n i);
    new_cells = λ k i. first_made F X Z px pz cx cz alike u_apart v_apart k (cells-both k i);
    owners = hole-there u (λ n i. append_right X.finds.known Z.finds.known n (append_right A.finds.known U.finds.known n i));
    schema = tt;
  }

  over-r : IsOverStep D (data_of r)
  over-r = record {
    rows = λ q i. first_row F X.finds Z.finds cx cz both (found_row q) (map-has found_row r.rows q i);
    held = λ q i. first_held F X.finds Z.finds cx cz both (found_before q) (map-has found_before r.regs q i);
    loose = λ l i. first_loose F X Z px pz cx cz alike u_apart v_apart l.node (map-has (λ (l : Loose). l.node) r.loose l i);
    new_nodes = λ n i. first_new F X Z px pz cx cz alike u_apart v_apart n i;
    new_cells = λ k i. first_made F X Z px pz cx cz alike u_apart v_apart k i;
    owners = hole-there r (λ n i. append_left X.finds.known Z.finds.known n i);
    schema = tt;
  }

  -- ## In turn

  abbrev E : Document
  E = later D a

  ext : IsExtendedBy D E
  ext = later_extends D a sound wa over-a

  entries : E.schemas ≡ between
  entries = schemas_after D a sound wa over-a between on_a.step

  over-b : IsOverStep E b
  over-b = next_over O P Q a b u x y z s t w D sound wa (data_rules u wu) over-a over-u (subst (λ l. IfSome b.schema (EndsWithCut l)) (sym entries) (ends_with_cut between mid b on_b))

  over-d : IsOverStep E (data_of d)
  over-d = next_data G H K a d r x' y' z' s' t' w' D sound wa (data_rules r wr) over-a over-r

  abbrev I : Document
  I = later E b

  ext_b : IsExtendedBy E I
  ext_b = later_extends E b ext.after wb over-b

  entries_b : I.schemas ≡ mid
  entries_b = schemas_after E b ext.after wb over-b mid (subst (λ l. Rattle.st_marks.specs.Step.IsSchemaStep l mid b.schema) (sym entries) on_b.step)

  over-c : IsOverStep I c
  over-c = next_over M B N b c d xm ym zm sm tm wm E ext.after wb (data_rules d wd) over-b over-d (subst (λ l. IfSome c.schema (EndsWithCut l)) (sym entries_b) (ends_with_cut mid after c on_c))

  pub three_in_turn : StandInTurn a b c
  three_in_turn = (
    D,
    E,
    I,
    later I c,
    ext,
    ext_b,
    later_extends I c ext_b.after wc over-c,
    step_over D a sound wa over-a,
    step_over E b ext.after wb over-b,
    step_over I c ext_b.after wc over-c,
  )
