-- What a change of data and a step in normal form show of the document before them.
use Rattle.std.proofs.Common.{◌≡◌, ◌++◌, ◌<◌, ℕ, List, ◌∷◌, None, not, inl, inr}
use Rattle.std.specs.List.{flat_map}
use Rattle.st_ids.specs.Listing.{Has}
use Rattle.st_ids.specs.declared.names.Atom.{Atom}
use Rattle.st_ids.specs.declared.names.NodeId.{NodeId}
use Rattle.st_ids.proofs.Shared.{filtered}
use Rattle.st_marks.specs.declared.changes.Change.{Change}
use Rattle.st_marks.specs.declared.marks.RegMark.{RegMark}
use Rattle.st_marks.specs.declared.marks.RegStep.{RegStep}
use Rattle.st_marks.specs.declared.schemas.SchemaEntry.{SchemaEntry}
use Rattle.st_marks.specs.declared.steps.Step.{Step}
use Rattle.st_marks.specs.Embedding.{is_among}
use Rattle.st_marks.specs.Listings.{cells_made, listing_before_change, listing_before_step, nodes_loose, nodes_new, nodes_of_rows, one_or_none}
use Rattle.st_marks.proofs.Members.{all-has, append_left, append_right, flat_map-has, has-append}
use Rattle.st_normal.specs.Rules.{ObeysDataRules, ObeysStepRules, hole_owners, how_over, in_rows, put_at, put_over}
use Rattle.st_normal.proofs.NoRings.{among_has}
use Rattle.st_normal_laws.specs.inside.One.{finds_of, names_in, nodes_of_found}
use Rattle.st_normal_step_laws.specs.inside.SeedOfStep.{finds_of_step, names_in_step, nodes_found_by, old_holes}
use Rattle.st_puts.proofs.Basics.{is-one, not-true}
use Rattle.st_pair_laws.proofs.Shown.{IsListed, IsShown, Side, shown_by}

abbrev pub side_of_change : Change → List SchemaEntry → Side
side_of_change C schemas = record {
  listing = listing_before_change C;
  finds = record (finds_of C) { schemas = schemas };
  new = nodes_new C.new;
  made = in_rows cells_made C.rows;
  loose = nodes_loose C.loose;
}

abbrev pub side_of_step : Step → List SchemaEntry → Side
side_of_step S schemas = record {
  listing = listing_before_step S;
  finds = record (finds_of_step S) { schemas = schemas };
  new = nodes_new S.new;
  made = in_rows cells_made S.rows;
  loose = nodes_loose S.loose;
}

module _ (C : Change) (w : ObeysDataRules C) (schemas : List SchemaEntry) (F : ℕ) (low : (a : Atom) → Has (names_in C) a → a.rev.session < F) where
  abbrev at_reg : RegMark → List NodeId
  at_reg r = r.field.node ∷ (one_or_none r.held ++ one_or_none r.fill)

  abbrev to_new : List NodeId
  to_new = C.need ++ nodes_new C.new

  abbrev to_rows : List NodeId
  to_rows = to_new ++ nodes_of_rows C.rows

  abbrev to_regs : List NodeId
  to_regs = to_rows ++ flat_map at_reg C.regs

  abbrev nodes : List NodeId
  nodes = to_regs ++ nodes_loose C.loose

  in-regs : (n : NodeId) → Has to_regs n → Has nodes n
  in-regs n h = append_left to_regs (nodes_loose C.loose) n h

  in-rows : (n : NodeId) → Has to_rows n → Has nodes n
  in-rows n h = in-regs n (append_left to_rows (flat_map at_reg C.regs) n h)

  listed : IsListed (λ (r : RegMark). r.field) (λ (r : RegMark). r.held) (λ (r : RegMark). r.how) put_at nodes C.new C.rows C.regs C.loose (nodes_of_found C) schemas F
  listed = record {
    common = w.common;
    rows_rise = w.rising.rows;
    regs_rise = w.rising.regs;
    new_empty = λ r i j. all-has (λ (r : RegMark). Has (nodes_new C.new) r.field.node → r.held ≡ None) C.regs r w.new_registers i j;
    new_named = λ n h. in-rows n (append_left to_new (nodes_of_rows C.rows) n (append_right C.need (nodes_new C.new) n h));
    rows_named = λ n h. in-rows n (append_right to_new (nodes_of_rows C.rows) n h);
    held_named = λ r n i e. in-regs n (append_right to_rows (flat_map at_reg C.regs) n (flat_map-has at_reg C.regs r n i (inr (append_left (one_or_none r.held) (one_or_none r.fill) n (is-one r.held n e)))));
    loose_named = λ n h. append_right to_regs (nodes_loose C.loose) n h;
    found_known = λ n f. f;
    known_found = λ n h. inl h;
    below = low;
  }

  pub change_shown : IsShown F (side_of_change C schemas)
  change_shown = shown_by (λ (r : RegMark). r.field) (λ (r : RegMark). r.held) (λ (r : RegMark). r.how) put_at nodes C.new C.rows C.regs C.loose (nodes_of_found C) schemas F listed

module _ (S : Step) (w : ObeysStepRules S) (schemas : List SchemaEntry) (F : ℕ) (low : (a : Atom) → Has (names_in_step S) a → a.rev.session < F) where
  abbrev at_step : RegStep → List NodeId
  at_step r = r.field.node ∷ (one_or_none r.before ++ one_or_none r.after)

  abbrev over_rows : List NodeId
  over_rows = nodes_new S.new ++ nodes_of_rows S.rows

  abbrev over_regs : List NodeId
  over_regs = over_rows ++ flat_map at_step S.regs

  abbrev nodes_over : List NodeId
  nodes_over = over_regs ++ nodes_loose S.loose

  in-over : (n : NodeId) → Has over_regs n → Has nodes_over n
  in-over n h = append_left over_regs (nodes_loose S.loose) n h

  listed_over : IsListed (λ (r : RegStep). r.field) (λ (r : RegStep). r.before) how_over put_over nodes_over S.new S.rows S.regs S.loose (nodes_found_by S ++ old_holes S) schemas F
  listed_over = record {
    common = w.common;
    rows_rise = w.rising.rows;
    regs_rise = w.rising.regs;
    new_empty = λ r i j. all-has (λ (r : RegStep). Has (nodes_new S.new) r.field.node → r.before ≡ None) S.regs r w.new_registers i j;
    new_named = λ n h. in-over n (append_left over_rows (flat_map at_step S.regs) n (append_left (nodes_new S.new) (nodes_of_rows S.rows) n h));
    rows_named = λ n h. in-over n (append_left over_rows (flat_map at_step S.regs) n (append_right (nodes_new S.new) (nodes_of_rows S.rows) n h));
    held_named = λ r n i e. in-over n (append_right over_rows (flat_map at_step S.regs) n (flat_map-has at_step S.regs r n i (inr (append_left (one_or_none r.before) (one_or_none r.after) n (is-one r.before n e)))));
    loose_named = λ n h. append_right over_regs (nodes_loose S.loose) n h;
    found_known = λ n f. append_left (nodes_found_by S) (old_holes S) n f;
    known_found = λ n h. elim (has-append (nodes_found_by S) (old_holes S) n h) [
      | inl f ↦ inl f
      | inr i ↦ (let k = filtered (λ n. not (is_among (nodes_new S.new) n)) (in_rows hole_owners S.rows) n i in
          inr (k.0, λ j. not-true (is_among (nodes_new S.new) n) k.1 ((among_has (nodes_new S.new) n).1 j)))
    ];
    below = low;
  }

  pub step_shown : IsShown F (side_of_step S schemas)
  step_shown = shown_by (λ (r : RegStep). r.field) (λ (r : RegStep). r.before) how_over put_over nodes_over S.new S.rows S.regs S.loose (nodes_found_by S ++ old_holes S) schemas F listed_over
