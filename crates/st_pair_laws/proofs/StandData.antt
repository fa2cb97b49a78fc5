-- A change of data and a step that agree stand over the seed of both.
use Rattle.std.proofs.Common.{◌≡◌, ◌≢◌, ◌⊎◌, ◌++◌, ℕ, Bool, true, false, not, List, Option, Some, None, IsSome, IsTrue, IfSome, refl, sym, ap, subst, inl, inr}
use Rattle.std.specs.List.{AllByRecursion}
use Rattle.st_ids.specs.Listing.{Has}
use Rattle.st_ids.specs.declared.names.Atom.{Atom}
use Rattle.st_ids.specs.declared.names.CellId.{CellId}
use Rattle.st_ids.specs.declared.names.NodeId.{NodeId}
use Rattle.st_marks.specs.declared.changes.Change.{Change}
use Rattle.st_marks.specs.declared.intents.Intent.{Intent}
use Rattle.st_marks.specs.declared.marks.Loose.{Loose}
use Rattle.st_marks.specs.declared.marks.RowMarks.{RowMarks}
use Rattle.st_marks.specs.declared.schemas.SchemaEntry.{SchemaEntry}
use Rattle.st_marks.specs.declared.schemas.SchemaStep.{SchemaStep}
use Rattle.st_marks.specs.declared.steps.Step.{Step}
use Rattle.st_marks.specs.Agree.{Agrees, HaveSchemasBeside, RebaseClash, SchemasOverStep}
use Rattle.st_marks.specs.Document.{CanBeInEffect, Document, IsSoundInForm}
use Rattle.st_marks.specs.Embedding.{is_among}
use Rattle.st_marks.specs.Intent.{Fits, is_new, new_row_of}
use Rattle.st_marks.specs.Listings.{cells_made}
use Rattle.st_marks.specs.Row.{spread}
use Rattle.st_marks.specs.Step.{IsSchemaStep}
use Rattle.st_marks.proofs.Lookups.{group-new_row_of}
use Rattle.st_marks.proofs.Members.{append_left, append_right, flat_map-has, map-has}
use Rattle.st_normal.specs.Rules.{ObeysDataRules, ObeysStepRules, hole_owners, in_rows}
use Rattle.st_normal.proofs.NoRings.{among_has}
use Rattle.st_normal_laws.specs.Seed.{CanBeFound}
use Rattle.st_normal_laws.specs.Two.{AgreeBeside}
use Rattle.st_normal_laws.specs.inside.One.{finds_of, found_reg, found_row, names_in, over_all}
use Rattle.st_normal_laws.proofs.MeantIntent.{meant_fits}
use Rattle.st_normal_laws.proofs.StandsChange.{short_after, stands_over}
use Rattle.st_normal_laws.proofs.TwoSeed.{first_held, first_row, second_held, second_row}
use Rattle.st_normal_step_laws.specs.StepOver.{EndsWithCut, IsOverStep, later}
use Rattle.st_normal_step_laws.specs.inside.SeedOfStep.{finds_of_step, found_before, names_in_step, nodes_found_by, old_holes}
use Rattle.st_normal_step_laws.proofs.RingsLater.{later_extends}
use Rattle.st_normal_step_laws.proofs.StepLater.{step_over}
use Rattle.st_ids.proofs.Shared.{filter-has}
use Rattle.st_puts.specs.Meant.{IsOver, meant_intent}
use Rattle.st_puts.proofs.MeaningFits.{group-cell, is-new, make-made}
use Rattle.st_pair_laws.specs.Beside.{StandBeside}
use Rattle.st_pair_laws.proofs.Alike.{IsApartFrom, ShowAlike, change_apart, show_alike, step_apart}
use Rattle.st_pair_laws.proofs.Bounds.{over-first, over-has, over-second, raised}
use Rattle.st_pair_laws.proofs.FitsLater.{fits_after}
use Rattle.st_pair_laws.proofs.OneDocument.{agree_beside, first_loose, first_made, first_new, known_there, second_loose, second_made, second_new}
use Rattle.st_pair_laws.proofs.Shown.{IsShown, Side}
use Rattle.st_pair_laws.proofs.ShownBefore.{change_shown, side_of_change, side_of_step, step_shown}

-- entries over which a step leads on end with those that it cuts
pub ends_with_cut : (before after : List SchemaEntry) (S : Step) → SchemasOverStep before after S → IfSome S.schema (EndsWithCut before)
ends_with_cut before after S s = go S.schema s.step
  where
    go : (q : Option SchemaStep) → IsSchemaStep before after q → IfSome q (EndsWithCut before)
    go None e = tt
    go (Some p) (front, e, f, l, d) = (front, e, l, subst CanBeInEffect f s.after_in_effect)

module _ (C : Change) (S : Step) (w : ObeysDataRules C) (plain : C.schema ≡ None) (v : ObeysStepRules S) (g : Agrees (RebaseClash C S)) (h : HaveSchemasBeside C S) where
  abbrev names : List Atom
  names = names_in C ++ names_in_step S

  abbrev F : ℕ
  F = over_all names

  abbrev X : Side
  X = side_of_change C h.0

  abbrev Y : Side
  Y = side_of_step S h.0

  a : CanBeFound F X.finds
  a = raised (over_all (names_in C)) F (finds_of C) h.0 (over-first (names_in C) (names_in_step S)) h.3.before_in_effect (Rattle.st_normal_laws.proofs.OneSeed.can_be_found C w plain)

  b : CanBeFound F Y.finds
  b = raised (over_all (names_in_step S)) F (finds_of_step S) h.0 (over-second (names_in C) (names_in_step S)) h.3.before_in_effect (Rattle.st_normal_step_laws.proofs.SeedOfStep.can_be_found S v)

  p : IsShown F X
  p = change_shown C w h.0 F (λ m i. over-has names m (append_left (names_in C) (names_in_step S) m i))

  q : IsShown F Y
  q = step_shown S v h.0 F (λ m i. over-has names m (append_right (names_in C) (names_in_step S) m i))

  alike : ShowAlike X.listing Y.listing
  alike = show_alike C S g

  u : IsApartFrom X.listing Y.listing
  u = change_apart C S g

  z : IsApartFrom Y.listing X.listing
  z = step_apart C S g

  agree : AgreeBeside X.finds Y.finds
  agree = agree_beside F X Y p q a b alike u z

  abbrev D : Document
  D = Rattle.st_pair_laws.proofs.OneDocument.D F X Y p q a b alike u z

  sound : IsSoundInForm D
  sound = Rattle.st_pair_laws.proofs.OneDocument.seed_is_sound F X Y p q a b alike u z

  over : IsOver D C
  over = record {
    rows = λ r i. first_row F X.finds Y.finds a b agree (found_row r) (map-has found_row C.rows r i);
    held = λ r i. first_held F X.finds Y.finds a b agree (found_reg r) (map-has found_reg C.regs r i);
    loose = λ l i. first_loose F X Y p q a b alike u z l.node (map-has (λ (l : Loose). l.node) C.loose l i);
    new_nodes = λ n i. first_new F X Y p q a b alike u z n i;
    new_cells = λ c i. first_made F X Y p q a b alike u z c i;
    base = h.2.base;
    new_schema = h.2.fresh;
  }

  -- who owns an empty cell that the step makes is new or there
  hole-there : (n : NodeId) → Has (in_rows hole_owners S.rows) n → Has Y.new n ⊎ IsSome (D.nodes n)
  hole-there n i = go (is_among Y.new n) refl
    where
      go : (c : Bool) → is_among Y.new n ≡ c → Has Y.new n ⊎ IsSome (D.nodes n)
      go true e = inl ((among_has Y.new n).0 e)
      go false e = inr (known_there F X Y p q a b alike u z n (append_right X.finds.known Y.finds.known n (append_right (nodes_found_by S) (old_holes S) n (filter-has (λ n. not (is_among Y.new n)) (in_rows hole_owners S.rows) n i (ap not e)))))

  over-step : IsOverStep D S
  over-step = record {
    rows = λ r i. second_row F X.finds Y.finds a b agree (found_row r) (map-has found_row S.rows r i);
    held = λ r i. second_held F X.finds Y.finds a b agree (found_before r) (map-has found_before S.regs r i);
    loose = λ l i. second_loose F X Y p q a b alike u z l.node (map-has (λ (l : Loose). l.node) S.loose l i);
    new_nodes = λ n i. second_new F X Y p q a b alike u z n i;
    new_cells = λ c i. second_made F X Y p q a b alike u z c i;
    owners = hole-there;
    schema = ends_with_cut h.0 h.1 S h.3;
  }

  abbrev E : Document
  E = later D S

  abbrev N : Intent
  N = meant_intent D C

  fits : Fits D N
  fits = meant_fits D C sound w over plain

  -- what one makes the other doesn't make
  new-once : (n : NodeId) → IsTrue (is_new N n) → Has Y.new n → ⊥
  new-once n e i = u.nodes n (p.new_told n (is-new D C sound w over plain n e)).0 (q.new_told n i).1

  made-by-change : (c : CellId) → IsSome (new_row_of N c) → Has X.made c
  made-by-change c s = go (new_row_of N c) refl s
    where
      go : (o : Option NodeId) → new_row_of N c ≡ o → IsSome o → Has X.made c
      go None e t = cc
      go (Some n) e t =
          let k = group-new_row_of N c n e in
          let r = group-cell D C sound w over plain k.0 k.3.0 k.1 k.3.1 in
          subst (Has X.made) k.3.2 (flat_map-has (λ (r : RowMarks). cells_made (spread r.marks)) C.rows r.0 k.3.0.cell r.2 (make-made (spread r.0.marks) k.3.0.cell k.3.0.node r.1 r.3))

  made-once : (c : CellId) → IsSome (new_row_of N c) → Has Y.made c → ⊥
  made-once c s i = let k = (q.made_told c i).1 in u.cells c k.0 (p.made_told c (made-by-change c s)).0 k.1

  no-schema : (es : List SchemaEntry) → IfSome N.schema (λ _. AllByRecursion (λ (e : SchemaEntry). e.rev ≢ N.rev) es)
  no-schema es = subst (λ (s : Option (List ℕ)). IfSome s (λ _. AllByRecursion (λ (e : SchemaEntry). e.rev ≢ C.rev) es)) (sym plain) tt

  pub data_stand : StandBeside C S
  data_stand = (
    D,
    E,
    N,
    later_extends D S sound v over-step,
    fits,
    fits_after D S sound v over-step N fits new-once made-once (no-schema E.schemas),
    short_after D C sound w over plain,
    stands_over D C sound w over plain,
    step_over D S sound v over-step,
  )
