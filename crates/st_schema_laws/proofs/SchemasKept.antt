-- What is edited and joined agrees with the last schema in effect, and what is shown is allowed by it.
use Rattle.std.proofs.Common.{◌≡◌, ℕ, Bool, true, false, ◌||◌, List, [], ◌∷◌, ◌++◌, Option, Some, None, Ok, IfSome, cond, option_and_then, refl, sym, ap, ◌∙◌, subst, inl, inr}
use mathlib.Core.Path.{fun_ext}
use Rattle.serde_json.specs.Data.{Data}
use Rattle.st_lemmas.proofs.Bools.{or-cases}
use Rattle.st_ids.specs.Root.{root}
use Rattle.st_ids.specs.declared.names.NodeId.{NodeId}
use Rattle.st_ids.specs.declared.names.Rev.{Rev}
use Rattle.st_tree.specs.Node.{Node}
use Rattle.st_tree.specs.Preorder.{node_named}
use Rattle.st_tree.specs.declared.edit.Edit.{Edit}
use Rattle.st_schema.specs.Conforms.{conforms}
use Rattle.st_schema.specs.TreeText.{tree_data}
use Rattle.st_marks.specs.declared.intents.Intent.{Intent}
use Rattle.st_marks.specs.declared.places.Spot.{Spot}
use Rattle.st_marks.specs.CarryOut.{full}
use Rattle.st_marks.specs.Document.{ClimbsToAnEnd, Document, IsSoundInForm, above, last_of, node_of, revs}
use Rattle.st_marks.specs.Intent.{Fits, is_new}
use Rattle.st_marks.specs.Join.{AreParts, IsJoin, above_made}
use Rattle.st_marks.specs.LiveTree.{Shows}
use Rattle.st_edits.specs.ArrayTypes.{is_array_type}
use Rattle.st_edits.specs.Resolve.{resolve}
use Rattle.st_edits.specs.declared.names.NameCounters.{NameCounters}
use Rattle.st_edits.proofs.MoveFits.{CellsFresh}
use Rattle.st_edits.proofs.NewFits.{NodesFresh}
use Rattle.st_schema_laws.specs.Agreeing.{KeepsSchema, TellsHomes}
use Rattle.st_schema_laws.specs.Conforming.{IsConforming}
use Rattle.st_schema_laws.proofs.Joins.{joined_agrees}
use Rattle.st_schema_laws.proofs.Resolved.{resolved_agrees}
use Rattle.st_schema_laws.proofs.ShownTree.{shown_conforms}
use Rattle.st_part_laws.specs.Chains.{TellsChain}
use Rattle.st_part_laws.specs.Parts.{IsClosedBy, NamesWithin, is_of_schemas, part_by, part_in_effect, part_of_schemas}
use Rattle.st_part_laws.proofs.Carrying.{fits_part, part_of_full, stays_closed}
use Rattle.st_part_laws.proofs.Chains.{last-has}
use Rattle.st_part_laws.proofs.Closed.{root_in_effect}
use Rattle.st_part_laws.proofs.Joins.{join_within}
use Rattle.st_part_laws.proofs.Parts.{part_sound}
use Rattle.st_schema_laws.specs.AgreeingInEffect.{AgreesInLine, ConformsInEffect, Told}
use Rattle.st_edits.specs.InEffect.{last_in_effect}
use Rattle.st_schema_laws.specs.Widening.{IsUpgrade}
use Rattle.st_schema_laws.proofs.EditsInLine.{meant, names_in_line, some_last}
use Rattle.st_schema_laws.proofs.EditsInParts.{resolves_in_effect}
use Rattle.st_schema_laws.proofs.Shown.{shows_in_effect}

pub no_upgrade : (T : Told) (N : Intent) → N.schema ≡ None → IfSome N.schema (IsUpgrade (T.view N.under) (T.view N.rev))
no_upgrade T N e = subst (λ o. IfSome o (IsUpgrade (T.view N.under) (T.view N.rev))) (sym e) tt

pub no_line : (T : Told) (N : Intent) → N.schema ≡ None → TellsChain T.chain N
no_line T N e = subst (λ o. IfSome o (λ _. T.chain N.rev ≡ T.chain N.under ++ N.rev ∷ [])) (sym e) tt

module _ (T : Told) (D : Document) (s : IsSoundInForm D) (here : ConformsInEffect T D) where
  abbrev p : NodeId → Bool
  p = is_of_schemas T.under (revs D.schemas)

  of_root : p root ≡ true
  of_root = root_in_effect T.under D s here.opened

  last : last_of (revs D.schemas) ≡ Some (last_in_effect D)
  last = some_last (revs D.schemas) s.in_effect.begun

  -- the schemas in effect are the last one's line
  pub whole_line : (u : Rev) → u ≡ last_in_effect D → revs D.schemas ≡ T.chain u
  whole_line u e = here.line.last u (last ∙ ap (λ r. Some r) (sym e))

  pub shown_allowed : (is_array : List ℕ → Bool) (d : Data) → ((ty : List ℕ) → is_array ty ≡ is_array_type (T.view (last_in_effect D)) ty) → Shows is_array D root d
      → (t : Node) × (tree_data t ≡ d) × (conforms (T.view (last_in_effect D)) (T.view (last_in_effect D)).root t ≡ true)
  shown_allowed is_array d tells shows =
      shown_conforms (T.view (last_in_effect D)) (here.widening.sound (last_in_effect D) (last-has (revs D.schemas) (last_in_effect D) last)) T.home (part_in_effect T.under D) (part_sound p D s here.closed of_root) here.part is_array tells d
      ((shows_in_effect is_array T.under D d s here.closed here.opened).0 shows)

  -- ## Edits

  module _ (G : NameCounters) (nodes : NodesFresh D G) (cells : CellsFresh D G) where
    nodes_fresh : NodesFresh (part_by p D) G
    nodes_fresh k low = go (p (node_named G.rev k))
      where
        go : (b : Bool) → cond b (D.nodes (node_named G.rev k)) None ≡ None
        go true = nodes k low
        go false = refl

    cells_fresh : CellsFresh (part_by p D) G
    cells_fresh k low = rw (cells k low) refl

    pub edit_agrees : (edit : Edit) (N : Intent) → TellsHomes T.home N → T.under N.rev ≡ N.under → resolve D (T.view (last_in_effect D)) G edit ≡ Ok N → AgreesInLine T D N
    edit_agrees edit N own told e =
        let sound = here.widening.sound (last_in_effect D) (last-has (revs D.schemas) (last_in_effect D) last) in
        let m = meant D (T.view (last_in_effect D)) G edit N s sound nodes cells e in
        let k = resolved_agrees (T.view (last_in_effect D)) T.home (part_in_effect T.under D) G N (part_sound p D s here.closed of_root) sound here.part nodes_fresh cells_fresh own edit
        (resolves_in_effect T.under D (T.view (last_in_effect D)) G edit s here.closed here.opened ∙ e) in
        record {
          under = told;
          chain = no_line T N m.no_schema;
          view = no_upgrade T N m.no_schema;
          names = names_in_line T.under T.chain D (T.view (last_in_effect D)) G edit N s sound here.closed here.opened here.line nodes cells told e;
          keeps = subst (λ rs. KeepsSchema (T.view N.under) T.home (part_of_schemas T.under rs D) N) (whole_line N.under m.under)
              (subst (λ u. KeepsSchema (T.view u) T.home (part_in_effect T.under D) N) (sym m.under) k);
        }

  -- ## Joins

  module _ (N M J : Intent) (after : IsSoundInForm (full D N)) (parts : AreParts D N M) (join : IsJoin N M J) (a : AgreesInLine T D N) (b : AgreesInLine T (full D N) M) (base : N.under ≡ last_in_effect D) where
    line : revs D.schemas ≡ T.chain N.under
    line = whole_line N.under base

    first_names : NamesWithin p D N
    first_names = subst (λ rs. NamesWithin (is_of_schemas T.under rs) D N) (sym line) a.names

    second_line : T.chain M.under ≡ revs D.schemas
    second_line = ap T.chain parts.one_under ∙ sym line

    second_names : NamesWithin p (full D N) M
    second_names = subst (λ rs. NamesWithin (is_of_schemas T.under rs) (full D N) M) second_line b.names

    in_part : part_by p (full D N) ≡ full (part_by p D) N
    in_part = part_of_full p D N s here.closed of_root parts.first_fits first_names

    closed_then : IsClosedBy p (full D N)
    closed_then = stays_closed p D N s here.closed of_root parts.first_fits first_names

    both_in_part : full (full (part_by p D) N) M ≡ part_by p (full (full D N) M)
    both_in_part = ap (λ E. full E M) (sym in_part) ∙ sym (part_of_full p (full D N) M after closed_then of_root parts.then_fits second_names)

    -- the node above one that is made, where that is made too
    abbrev made_above : Document → NodeId → Option NodeId
    made_above E n = option_and_then (λ q. cond (is_new N q || is_new M q) (Some q) None) (above E n)

    above_there : (n : NodeId) → above_made (part_by p D) N M n ≡ above_made D N M n
    above_there n = ap (λ E. cond (is_new N n || is_new M n) (made_above E n) None) both_in_part ∙ go (is_new N n || is_new M n) refl
      where
        go : (b : Bool) → (is_new N n || is_new M n) ≡ b → cond b (made_above (part_by p (full (full D N) M)) n) None ≡ cond b (made_above (full (full D N) M) n) None
        go false e = refl
        go true e =
            let made : p n ≡ true = elim (or-cases (is_new N n) (is_new M n) e) [ inl i ↦ first_names.new n i | inr i ↦ second_names.new n i ] in
            ap (λ b. option_and_then (λ q. cond (is_new N q || is_new M q) (Some q) None) (node_of (cond b ((full (full D N) M).place n) Spot.Nowhere))) made

    parts_there : AreParts (part_by p D) N M
    parts_there = record {
      first_fits = fits_part p D N s here.closed of_root parts.first_fits first_names;
      then_fits = subst (λ E. Fits E M) in_part (fits_part p (full D N) M after closed_then of_root parts.then_fits second_names);
      no_schema = parts.no_schema;
      one_rev = parts.one_rev;
      one_under = parts.one_under;
      no_ring = λ n. subst (λ up. ClimbsToAnEnd up n) (sym (fun_ext above_there)) (parts.no_ring n);
    }

    pub join_agrees : AgreesInLine T D J
    join_agrees =
        let first : KeepsSchema (T.view N.under) T.home (part_by p D) N = subst (λ rs. KeepsSchema (T.view N.under) T.home (part_of_schemas T.under rs D) N) (sym line) a.keeps in
        let second : KeepsSchema (T.view N.under) T.home (full (part_by p D) N) M = subst (λ E. KeepsSchema (T.view N.under) T.home E M) in_part
        (subst (λ rs. KeepsSchema (T.view N.under) T.home (part_of_schemas T.under rs (full D N)) M) second_line (subst (λ u. KeepsSchema (T.view u) T.home (part_of_schemas T.under (T.chain M.under) (full D N)) M) parts.one_under b.keeps)) in
        let conforming : IsConforming (T.view N.under) T.home (part_by p D) = subst (λ u. IsConforming (T.view u) T.home (part_by p D)) (sym base) here.part in
        let k = joined_agrees (T.view N.under) T.home (part_by p D) N M J (part_sound p D s here.closed of_root) parts_there join conforming first second in
        record {
          under = ap T.under join.rev ∙ a.under ∙ sym join.under;
          chain = no_line T J join.no_schema;
          view = no_upgrade T J join.no_schema;
          names = subst (λ rs. NamesWithin (is_of_schemas T.under rs) D J) (line ∙ ap T.chain (sym join.under)) (join_within p D N M J s parts join first_names second_names);
          keeps = subst (λ rs. KeepsSchema (T.view J.under) T.home (part_of_schemas T.under rs D) J) (line ∙ ap T.chain (sym join.under))
              (subst (λ u. KeepsSchema (T.view u) T.home (part_by p D) J) (sym join.under) k);
        }
