-- A change of data and two steps in turn, where it agrees with the first and with both as one, stand over one document.
use Rattle.std.proofs.Common.{◌≡◌, ◌≢◌, ◌⊎◌, ◌++◌, ◌≤◌, ℕ, Bool, true, false, not, List, Option, Some, None, IsSome, IsTrue, IfSome, refl, sym, ap, subst, inl, inr, arith}
use Rattle.std.specs.List.{AllByRecursion, filter, find, list_any}
use Rattle.std.specs.Option.{option_map_or}
use Rattle.st_ids.specs.Listing.{Has}
use Rattle.st_ids.proofs.Shared.{filter-has, filtered}
use Rattle.st_ids.specs.declared.names.Atom.{Atom}
use Rattle.st_ids.specs.declared.names.CellId.{CellId}
use Rattle.st_ids.specs.declared.names.FieldId.{FieldId}
use Rattle.st_ids.specs.declared.names.NodeId.{NodeId}
use Rattle.st_lemmas.proofs.Bools.{or-left}
use Rattle.st_marks.specs.declared.changes.Change.{Change}
use Rattle.st_marks.specs.declared.intents.Intent.{Intent}
use Rattle.st_marks.specs.declared.marks.Loose.{Loose}
use Rattle.st_marks.specs.declared.marks.RowMarks.{RowMarks}
use Rattle.st_marks.specs.declared.schemas.SchemaEntry.{SchemaEntry}
use Rattle.st_marks.specs.declared.steps.Step.{Step}
use Rattle.st_marks.specs.Agree.{Agrees, Differs, IsSameView, RebaseClash, SchemasAtChange, SchemasOverStep, cell_twice, node_twice, registers_differ, row_field, rows_differ}
use Rattle.st_marks.specs.Document.{Document, IsSoundInForm, content}
use Rattle.st_marks.specs.Embedding.{is_among}
use Rattle.st_marks.specs.Extends.{IsExtendedBy}
use Rattle.st_marks.specs.Intent.{Fits, is_new, new_row_of}
use Rattle.st_marks.specs.Listings.{Listing, cells_made, nodes_new}
use Rattle.st_marks.specs.Row.{spread}
use Rattle.st_marks.specs.Step.{IsStep}
use Rattle.st_marks.proofs.Lookups.{group-new_row_of}
use Rattle.st_marks.proofs.Members.{append_left, append_right, flat_map-has, has-append, has-map, map-has}
use Rattle.st_normal.specs.Rules.{ObeysDataRules, ObeysStepRules, hole_owners, in_rows}
use Rattle.st_normal.proofs.NoRings.{among_has}
use Rattle.st_normal_laws.specs.Seed.{CanBeFound, FoundRow}
use Rattle.st_normal_laws.specs.Two.{AgreeBeside}
use Rattle.st_normal_laws.specs.inside.One.{finds_of, found_reg, found_row, names_in, over_all}
use Rattle.st_normal_laws.proofs.MeantIntent.{meant_fits}
use Rattle.st_normal_laws.proofs.StandsChange.{short_after, stands_over}
use Rattle.st_normal_laws.proofs.TwoSeed.{first_held, first_row}
use Rattle.st_normal_step_laws.specs.StepOver.{EndsWithCut, IsOverStep, later}
use Rattle.st_normal_step_laws.specs.inside.SeedOfStep.{finds_of_step, found_before, names_in_step, nodes_found_by, old_holes}
use Rattle.st_normal_step_laws.proofs.RingsLater.{later_extends}
use Rattle.st_normal_step_laws.proofs.StepLater.{step_over}
use Rattle.st_normal_step_laws.proofs.StepsFind.{finds_what_is_so}
use Rattle.st_agree_laws.proofs.ShownTruth.{no_difference_shown, step_true}
use Rattle.st_puts.specs.Meant.{IsOver, meant_intent}
use Rattle.st_puts.specs.Seen.{AreAsSeen}
use Rattle.st_puts.proofs.Basics.{not-true}
use Rattle.st_puts.proofs.MeaningFits.{group-cell, is-new, make-made}
use Rattle.st_puts.proofs.StepPlaces.{found-named, known}
use Rattle.st_pair_laws.proofs.Alike.{IsApartFrom, ShowAlike, change_apart, show_alike, step_apart}
use Rattle.st_pair_laws.proofs.Bounds.{over-first, over-has, over-second, raised}
use Rattle.st_pair_laws.proofs.Decided.{nodes, numbers, options, rows_alike, spots, stable}
use Rattle.st_pair_laws.proofs.FitsLater.{fits_after, schemas_after}
use Rattle.st_pair_laws.proofs.OneDocument.{known_there, second_loose, second_made, second_new}
use Rattle.st_pair_laws.proofs.Shown.{IsShown, Side}
use Rattle.st_pair_laws.proofs.ShownBefore.{change_shown, side_of_change, side_of_step, step_shown}
use Rattle.st_pair_laws.proofs.StandData.{ends_with_cut}
use Rattle.st_three_laws.specs.Over.{StandOverBoth}
use Rattle.st_three_laws.proofs.BothFound.{first-holds, first-seen, other-holds, other-seen}
use Rattle.st_three_laws.proofs.JointSide.{AtOnePlace, agree, apart_joint, joint, joint_alike, joint_apart, joint_found, joint_shown}
use Rattle.st_three_laws.proofs.NextOver.{cells-first, cells-next, data_of, data_rules, new-first, new-next, next_over}

-- ## What two show that differ nowhere

module _ (L M : Listing) (no : (f : FieldId) → Differs L M f → ⊥) where
  pub alike-shown : ShowAlike L M
  alike-shown = record {
    rows = λ n a b e f. stable (Rattle.std.specs.List.AllZip IsSameView a b) (rows_alike a b) (λ apart. no (row_field n) (rows_differ n a b e f apart));
    cells = λ c n m k l o p named v w. (
      stable (n ≡ m) (nodes n m) (λ apart. no (row_field n) (cell_twice c n m k l o p v w (λ same. apart same.0) n (or-left _ _ named))),
      stable (k ≡ l) (numbers k l) (λ apart. no (row_field n) (cell_twice c n m k l o p v w (λ same. apart same.1) n (or-left _ _ named))),
    );
    registers = λ f a b e h. stable (a ≡ b) (options nodes a b) (λ apart. no f (registers_differ f a b e h apart));
  }

  pub one-place : AtOnePlace L M
  one-place n s t f p q h = stable (s ≡ t) (spots s t) (λ apart. no f (node_twice n s t p q apart f h))

-- ## All three stand

module _ (C : Change) (a b u : Step) (wc : ObeysDataRules C) (plain : C.schema ≡ None) (wa : ObeysStepRules a) (wb : ObeysStepRules b) (wu : ObeysStepRules u)
    (ga : Agrees (RebaseClash C a)) (gu : Agrees (RebaseClash C u))
    (O P Q : Document) (x : IsExtendedBy O P) (y : IsExtendedBy P Q) (z : IsExtendedBy O Q) (s : IsStep O P a) (t : IsStep P Q b) (w : IsStep O Q u)
    (before between after : List SchemaEntry) (at : SchemasAtChange before C) (over : SchemasOverStep before between a) (on : SchemasOverStep between after b) where
  abbrev of_steps : List Atom
  of_steps = names_in_step a ++ names_in_step u

  abbrev F : ℕ
  F = over_all (names_in C ++ of_steps)

  abbrev X : Side
  X = side_of_change C before

  abbrev A : Side
  A = side_of_step a before

  abbrev B : Side
  B = side_of_step u before

  cx : CanBeFound F X.finds
  cx = raised (over_all (names_in C)) F (finds_of C) before (over-first (names_in C) of_steps) at.in_effect (Rattle.st_normal_laws.proofs.OneSeed.can_be_found C wc plain)

  more-first : over_all (names_in_step a) ≤ F
  more-first = omega (arith, over-second (names_in C) of_steps, over-first (names_in_step a) (names_in_step u))

  more-both : over_all (names_in_step u) ≤ F
  more-both = omega (arith, over-second (names_in C) of_steps, over-second (names_in_step a) (names_in_step u))

  ca : CanBeFound F A.finds
  ca = raised (over_all (names_in_step a)) F (finds_of_step a) before more-first at.in_effect (Rattle.st_normal_step_laws.proofs.SeedOfStep.can_be_found a wa)

  cb : CanBeFound F B.finds
  cb = raised (over_all (names_in_step u)) F (finds_of_step u) before more-both at.in_effect (Rattle.st_normal_step_laws.proofs.SeedOfStep.can_be_found u wu)

  px : IsShown F X
  px = change_shown C wc before F (λ m i. over-has (names_in C ++ of_steps) m (append_left (names_in C) of_steps m i))

  pa : IsShown F A
  pa = step_shown a wa before F (λ m i. over-has (names_in C ++ of_steps) m (append_right (names_in C) of_steps m (append_left (names_in_step a) (names_in_step u) m i)))

  pb : IsShown F B
  pb = step_shown u wu before F (λ m i. over-has (names_in C ++ of_steps) m (append_right (names_in C) of_steps m (append_right (names_in_step a) (names_in_step u) m i)))

  -- ## Both steps from the one document

  same-there : (f : FieldId) → Differs A.listing B.listing f → ⊥
  same-there f d = no_difference_shown O x.before A.listing B.listing f (step_true O P a s) (step_true O Q u w) d

  steps_alike : ShowAlike A.listing B.listing
  steps_alike = alike-shown A.listing B.listing same-there

  steps_one : AtOnePlace A.listing B.listing
  steps_one = one-place A.listing B.listing same-there

  abbrev Z : Side
  Z = joint F A B pa pb ca cb steps_alike steps_one

  known-in : (n : NodeId) → Has (nodes_found_by a ++ old_holes a) n → IsSome (O.nodes n)
  known-in n h = elim (has-append (nodes_found_by a) (old_holes a) n h) [
    | inl i ↦ known O P a x s n (found-named O P a x s n i).0
    | inr i ↦ (let k = filtered (λ n. not (is_among (nodes_new a.new) n)) (in_rows hole_owners a.rows) n i in
        elim ((finds_what_is_so O P a x s).owners n k.0) [ inl j ↦ absurd (not-true (is_among (nodes_new a.new) n) k.1 ((among_has (nodes_new a.new) n).1 j)) | inr j ↦ j ])
  ]

  pz : IsShown F Z
  pz = joint_shown F A B pa pb ca cb steps_alike steps_one O x.before
      (λ r i. let q = has-map found_row a.rows r i in subst (λ (r : FoundRow). AreAsSeen (content O r.node) r.cells) q.2 ((finds_what_is_so O P a x s).rows q.0 q.1))
      known-in (finds_what_is_so O Q u z w).new_nodes (finds_what_is_so O Q u z w).new_cells

  cz : CanBeFound F Z.finds
  cz = joint_found F A B pa pb ca cb steps_alike steps_one

  beside : AgreeBeside A.finds B.finds
  beside = agree F A B pa pb ca cb steps_alike steps_one

  -- ## The change beside both

  alike : ShowAlike X.listing Z.listing
  alike = joint_alike F A B pa pb ca cb steps_alike steps_one X.listing (show_alike C a ga) (show_alike C u gu)

  u_apart : IsApartFrom X.listing Z.listing
  u_apart = joint_apart F A B pa pb ca cb steps_alike steps_one X.listing (change_apart C a ga) (change_apart C u gu) (step_apart C u gu)

  v_apart : IsApartFrom Z.listing X.listing
  v_apart = apart_joint F A B pa pb ca cb steps_alike steps_one X.listing (change_apart C a ga) (change_apart C u gu) (step_apart C u gu)

  both : AgreeBeside X.finds Z.finds
  both = Rattle.st_pair_laws.proofs.OneDocument.agree_beside F X Z px pz cx cz alike u_apart v_apart

  abbrev D : Document
  D = Rattle.st_pair_laws.proofs.OneDocument.D F X Z px pz cx cz alike u_apart v_apart

  sound : IsSoundInForm D
  sound = Rattle.st_pair_laws.proofs.OneDocument.seed_is_sound F X Z px pz cx cz alike u_apart v_apart

  over-change : IsOver D C
  over-change = record {
    rows = λ r i. first_row F X.finds Z.finds cx cz both (found_row r) (map-has found_row C.rows r i);
    held = λ r i. first_held F X.finds Z.finds cx cz both (found_reg r) (map-has found_reg C.regs r i);
    loose = λ l i. Rattle.st_pair_laws.proofs.OneDocument.first_loose F X Z px pz cx cz alike u_apart v_apart l.node (map-has (λ (l : Loose). l.node) C.loose l i);
    new_nodes = λ n i. Rattle.st_pair_laws.proofs.OneDocument.first_new F X Z px pz cx cz alike u_apart v_apart n i;
    new_cells = λ c i. Rattle.st_pair_laws.proofs.OneDocument.first_made F X Z px pz cx cz alike u_apart v_apart c i;
    base = at.base;
    new_schema = at.fresh;
  }

  -- ## The steps over it

  hole-there : (S : Step) → ((n : NodeId) → Has (nodes_found_by S ++ old_holes S) n → Has Z.finds.known n) → (n : NodeId) → Has (in_rows hole_owners S.rows) n → Has (nodes_new S.new) n ⊎ IsSome (D.nodes n)
  hole-there S in_both n i = go (is_among (nodes_new S.new) n) refl
    where
      go : (c : Bool) → is_among (nodes_new S.new) n ≡ c → Has (nodes_new S.new) n ⊎ IsSome (D.nodes n)
      go true e = inl ((among_has (nodes_new S.new) n).0 e)
      go false e = inr (known_there F X Z px pz cx cz alike u_apart v_apart n (append_right X.finds.known Z.finds.known n (in_both n (append_right (nodes_found_by S) (old_holes S) n (filter-has (λ n. not (is_among (nodes_new S.new) n)) (in_rows hole_owners S.rows) n i (ap not e))))))

  over-first_step : IsOverStep D a
  over-first_step = record {
    rows = λ r i. first-seen F X.finds A.finds B.finds cx cz cb beside both (found_row r) (map-has found_row a.rows r i);
    held = λ r i. first-holds F X.finds A.finds B.finds cx cz cb beside both (found_before r) (map-has found_before a.regs r i);
    loose = λ l i. second_loose F X Z px pz cx cz alike u_apart v_apart l.node (append_left A.loose B.loose l.node (map-has (λ (l : Loose). l.node) a.loose l i));
    new_nodes = λ n i. second_new F X Z px pz cx cz alike u_apart v_apart n (new-first O P Q a b u x y z s t w n i);
    new_cells = λ c i. second_made F X Z px pz cx cz alike u_apart v_apart c (cells-first O P Q a b u x y z s t w c i);
    owners = hole-there a (λ n i. append_left A.finds.known B.finds.known n i);
    schema = ends_with_cut before between a over;
  }

  over-both : IsOverStep D (data_of u)
  over-both = record {
    rows = λ r i. other-seen F X.finds A.finds B.finds cx cz cb beside both (found_row r) (map-has found_row u.rows r i);
    held = λ r i. other-holds F X.finds A.finds B.finds cx cz cb beside both (found_before r) (map-has found_before u.regs r i);
    loose = λ l i. second_loose F X Z px pz cx cz alike u_apart v_apart l.node (append_right A.loose B.loose l.node (map-has (λ (l : Loose). l.node) u.loose l i));
    new_nodes = λ n i. second_new F X Z px pz cx cz alike u_apart v_apart n i;
    new_cells = λ c i. second_made F X Z px pz cx cz alike u_apart v_apart c i;
    owners = hole-there u (λ n i. append_right A.finds.known B.finds.known n i);
    schema = tt;
  }

  abbrev E : Document
  E = later D a

  over-next : IsOverStep E b
  over-next = next_over O P Q a b u x y z s t w D sound wa (data_rules u wu) over-first_step over-both
      (subst (λ l. IfSome b.schema (EndsWithCut l)) (sym (schemas_after D a sound wa over-first_step between over.step)) (ends_with_cut between after b on))

  -- ## The intent

  abbrev N : Intent
  N = meant_intent D C

  fits : Fits D N
  fits = meant_fits D C sound wc over-change plain

  made-new : (n : NodeId) → IsTrue (is_new N n) → Has X.new n
  made-new n e = is-new D C sound wc over-change plain n e

  made-by-change : (c : CellId) → IsSome (new_row_of N c) → Has X.made c
  made-by-change c s = go (new_row_of N c) refl s
    where
      go : (o : Option NodeId) → new_row_of N c ≡ o → IsSome o → Has X.made c
      go None e t = cc
      go (Some n) e t =
          let k = group-new_row_of N c n e in
          let r = group-cell D C sound wc over-change plain k.0 k.3.0 k.1 k.3.1 in
          subst (Has X.made) k.3.2 (flat_map-has (λ (r : RowMarks). cells_made (spread r.marks)) C.rows r.0 k.3.0.cell r.2 (make-made (spread r.0.marks) k.3.0.cell k.3.0.node r.1 r.3))

  new-once : (n : NodeId) → IsTrue (is_new N n) → Has (nodes_new u.new) n → ⊥
  new-once n e i = (change_apart C u gu).nodes n (px.new_told n (made-new n e)).0 (pb.new_told n i).1

  made-once : (c : CellId) → IsSome (new_row_of N c) → Has (in_rows cells_made u.rows) c → ⊥
  made-once c s i = let k = (pb.made_told c i).1 in (change_apart C u gu).cells c k.0 (px.made_told c (made-by-change c s)).0 k.1

  no-schema : (es : List SchemaEntry) → IfSome N.schema (λ _. AllByRecursion (λ (e : SchemaEntry). e.rev ≢ N.rev) es)
  no-schema es = subst (λ (s : Option (List ℕ)). IfSome s (λ _. AllByRecursion (λ (e : SchemaEntry). e.rev ≢ C.rev) es)) (sym plain) tt

  ext : IsExtendedBy D E
  ext = later_extends D a sound wa over-first_step

  fits-between : Fits E N
  fits-between = fits_after D a sound wa over-first_step N fits (λ n e i. new-once n e (new-first O P Q a b u x y z s t w n i)) (λ c e i. made-once c e (cells-first O P Q a b u x y z s t w c i)) (no-schema E.schemas)

  fits-later : Fits (later E b) N
  fits-later = fits_after E b ext.after wb over-next N fits-between (λ n e i. new-once n e (new-next O P Q a b u x y z s t w n i)) (λ c e i. made-once c e (cells-next O P Q a b u x y z s t w c i)) (no-schema (later E b).schemas)

  pub data_in_turn : StandOverBoth C a b
  data_in_turn = (
    D,
    E,
    later E b,
    N,
    ext,
    later_extends E b ext.after wb over-next,
    fits,
    fits-between,
    fits-later,
    short_after D C sound wc over-change plain,
    stands_over D C sound wc over-change plain,
    step_over D a sound wa over-first_step,
    step_over E b ext.after wb over-next,
  )
