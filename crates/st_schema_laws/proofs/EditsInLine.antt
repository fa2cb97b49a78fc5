-- A commit names nodes of its schema's line alone, where its author makes it of an edit.
use Rattle.std.proofs.Common.{◌≡◌, Bool, true, List, [], ◌∷◌, Some, None, Ok, unwrap_or, refl, sym, ap, ◌∙◌, subst}
use Rattle.std.specs.List.{last_or}
use Rattle.st_ids.specs.Order.{same_rev}
use Rattle.st_ids.specs.Root.{opening, root}
use Rattle.st_ids.specs.declared.names.NodeId.{NodeId}
use Rattle.st_ids.specs.declared.names.Rev.{Rev}
use Rattle.st_ids.proofs.Orders.{same_rev-itself}
use Rattle.st_tree.specs.declared.edit.Edit.{Edit}
use Rattle.st_schema.specs.Schema.{SchemaView, is_sound}
use Rattle.st_marks.specs.declared.intents.Intent.{Intent}
use Rattle.st_marks.specs.Document.{Document, IsSoundInForm, first_of, last_of, revs}
use Rattle.st_marks.proofs.Members.{has-any}
use Rattle.st_edits.specs.Resolve.{resolve}
use Rattle.st_edits.specs.declared.names.NameCounters.{NameCounters}
use Rattle.st_edits.proofs.MoveFits.{CellsFresh}
use Rattle.st_edits.proofs.NewFits.{NodesFresh}
use Rattle.st_edits.proofs.Resolved.{resolved_fits}
use Rattle.st_part_laws.specs.Chains.{AreInLine}
use Rattle.st_part_laws.specs.Parts.{IsClosedBy, IsClosedInEffect, NamesWithin, is_of_schemas}
use Rattle.st_part_laws.proofs.Chains.{last-has}
use Rattle.st_part_laws.proofs.Closed.{root_in_effect}
use Rattle.st_schema_laws.proofs.NamesInParts.{IsFromPart, edit_in, within_of}

pub names_within : (p : NodeId → Bool) (D : Document) (s : SchemaView) (G : NameCounters) (edit : Edit) (N : Intent) → IsSoundInForm D → is_sound s ≡ true → IsClosedBy p D → p root ≡ true → NodesFresh D G → CellsFresh D G
    → ((n : NodeId) → n.0.rev ≡ G.rev → p n ≡ true) → resolve D s G edit ≡ Ok N → NamesWithin p D N
names_within p D s G edit N sound schema closed of_root nodes cells own e =
    let f = resolved_fits D s G edit N sound schema nodes cells e in
    within_of p D sound G N f own (edit_in p D sound closed of_root s G nodes own edit N f e)

-- what an edit means has the commit's revision and the last schema's, and changes no schema
pub meant : (D : Document) (s : SchemaView) (G : NameCounters) (edit : Edit) (N : Intent) → IsSoundInForm D → is_sound s ≡ true → NodesFresh D G → CellsFresh D G → resolve D s G edit ≡ Ok N → IsFromPart (λ n. true) D G N
meant D s G edit N sound schema nodes cells e = edit_in (λ n. true) D sound (λ m n up. refl) refl s G nodes (λ n q. refl) edit N (resolved_fits D s G edit N sound schema nodes cells e) e

-- ## Under the last schema in effect

last_there : (x : Rev) (xs : List Rev) → (y : Rev) × (last_or (Some x) xs ≡ Some y)
last_there x [] = (x, refl)
last_there x (y ∷ xs) = last_there y xs

pub some_last : (xs : List Rev) → first_of xs ≡ Some opening → last_of xs ≡ Some (unwrap_or (last_of xs) opening)
some_last [] e = let bad : None ≡ Some opening = e in cc
some_last (x ∷ xs) e = let y = last_there x xs in y.1 ∙ ap (λ o. Some (unwrap_or o opening)) (sym y.1)

pub names_in_line : (under : Rev → Rev) (chain : Rev → List Rev) (D : Document) (s : SchemaView) (G : NameCounters) (edit : Edit) (N : Intent) → IsSoundInForm D → is_sound s ≡ true → IsClosedInEffect under D
    → under opening ≡ opening → AreInLine chain D.schemas → NodesFresh D G → CellsFresh D G → under N.rev ≡ N.under → resolve D s G edit ≡ Ok N → NamesWithin (is_of_schemas under (chain N.under)) D N
names_in_line under chain D s G edit N sound schema closed told line nodes cells made e =
    subst (λ rs. NamesWithin (is_of_schemas under rs) D N) (line.last N.under last) (names_within p D s G edit N sound schema closed (root_in_effect under D sound told) nodes cells own e)
  where
    p : NodeId → Bool
    p = is_of_schemas under (revs D.schemas)

    last : last_of (revs D.schemas) ≡ Some N.under
    last = some_last (revs D.schemas) sound.in_effect.begun ∙ ap (λ r. Some r) (sym (meant D s G edit N sound schema nodes cells e).under)

    own : (n : NodeId) → n.0.rev ≡ G.rev → p n ≡ true
    own n q =
        let same : under n.0.rev ≡ N.under = ap under (q ∙ sym (meant D s G edit N sound schema nodes cells e).rev) ∙ made in
        has-any (λ r. same_rev r (under n.0.rev)) (revs D.schemas) N.under (last-has (revs D.schemas) N.under last) (ap (same_rev N.under) same ∙ same_rev-itself N.under)
