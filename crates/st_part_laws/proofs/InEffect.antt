-- An intent whose schema is in effect does to the part in effect what it does to the document; one whose schema isn't leaves
-- the part's nodes, places and registers.
use Rattle.std.proofs.Common.{◌≡◌, ℕ, Bool, true, false, List, [], ◌∷◌, ◌++◌, Option, Some, None, refl, sym, ap, ◌∙◌, subst}
use Rattle.std.specs.Option.{option_or, option_map_or}
use Rattle.std.specs.Prelude.{if◌then◌else◌, is_some}
use Rattle.st_lemmas.proofs.Bools.{true-false}
use Rattle.st_lemmas.proofs.Options.{option_or-None}
use Rattle.st_ids.specs.Listing.{Has}
use Rattle.st_ids.specs.Order.{same_rev}
use Rattle.st_ids.specs.Root.{opening, root}
use Rattle.st_ids.specs.declared.names.FieldId.{FieldId}
use Rattle.st_ids.specs.declared.names.NodeId.{NodeId}
use Rattle.st_ids.specs.declared.names.Rev.{Rev}
use Rattle.st_ids.proofs.Orders.{same_rev-true}
use Rattle.st_marks.specs.declared.intents.Intent.{Intent}
use Rattle.st_marks.specs.declared.verdicts.Verdict.{Verdict}
use Rattle.st_marks.specs.CarryOut.{full, void, void_data}
use Rattle.st_marks.specs.Document.{Document, HasShortRows, IsSoundInForm, NodeType, revs}
use Rattle.st_marks.specs.Intent.{Fits, is_new, new_type}
use Rattle.st_marks.specs.Verdict.{HasBase, IsBaseInEffect, IsVerdict, carried_document}
use Rattle.st_marks.proofs.Members.{any-has}
use Rattle.st_marks.proofs.OneVerdict.{carried_extends}
use Rattle.st_log_laws.proofs.Names.{new_node_rev}
use Rattle.st_part_laws.specs.Chains.{AreInLine}
use Rattle.st_part_laws.specs.Parts.{IsClosedInEffect, NamesWithin, is_of_schemas, part_by, part_in_effect}
use Rattle.st_part_laws.specs.Turns.{ComesFirst}
use Rattle.st_part_laws.proofs.Carrying.{fits_part, part_of_full}
use Rattle.st_part_laws.proofs.Chains.{last-has, named_in_effect}
use Rattle.st_part_laws.proofs.Closed.{entries_of_change, root_in_effect, same_after_change}
use Rattle.st_part_laws.proofs.Schemas.{based, kept_carried}
use Rattle.st_part_laws.proofs.Told.{same_part}
use Rattle.st_part_laws.proofs.Voiding.{part_of_void, places_stay, registers_stay, verdict_part}

-- ## In effect

module _ (under : Rev → Rev) (chain : Rev → List Rev) (D : Document) (N : Intent) (s : IsSoundInForm D) (f : Fits D N) (short : HasShortRows (full D N)) (told : under opening ≡ opening)
    (line : AreInLine chain D.schemas) (w : NamesWithin (is_of_schemas under (chain N.under)) D N) (first : ComesFirst under D N) (closed : IsClosedInEffect under D) (based_on : IsBaseInEffect D N) where
  abbrev p : NodeId → Bool
  p = is_of_schemas under (revs D.schemas)

  in_effect : Has (revs D.schemas) N.under
  in_effect = go N.schema refl
    where
      go : (o : Option (List ℕ)) → N.schema ≡ o → Has (revs D.schemas) N.under
      go None e = subst (λ o. HasBase D.schemas o N.under) e based_on
      go (Some text) e = last-has (revs D.schemas) N.under (based D N text e based_on)

  within : NamesWithin p D N
  within = named_in_effect under chain D N line in_effect w

  of_root : p root ≡ true
  of_root = root_in_effect under D s told

  pub fits_in_effect : Fits (part_in_effect under D) N
  fits_in_effect = fits_part p D N s closed of_root f within

  pub verdict_in_effect : (v : Verdict) → IsVerdict D N v → IsVerdict (part_in_effect under D) N v
  verdict_in_effect v h = verdict_part p D N s closed of_root f within v h

  void_in_effect : (o : Option (List ℕ)) → part_in_effect under (option_map_or (λ _. D) o (void_data D N)) ≡ option_map_or (λ _. part_by p D) o (void_data (part_by p D) N)
  void_in_effect None = part_of_void p D N s closed of_root f within
  void_in_effect (Some t) = refl

  full_in_effect : IsVerdict D N Verdict.Sound → (o : Option (List ℕ)) → N.schema ≡ o → part_in_effect under (full D N) ≡ full (part_by p D) N
  full_in_effect h None e = ap (λ es. part_by (is_of_schemas under (revs es)) (full D N)) (kept_carried D N e Verdict.Sound) ∙ part_of_full p D N s closed of_root f within
  full_in_effect h (Some text) e =
      ap (λ rs. part_by (is_of_schemas under rs) (full D N)) (entries_of_change under chain D N s f short told line w first closed text e)
      ∙ sym (same_part p (is_of_schemas under (revs D.schemas ++ N.rev ∷ [])) (full D N) (carried_extends D N Verdict.Sound s f short h).after (same_after_change under chain D N s f short told line w first closed text e))
      ∙ part_of_full p D N s closed of_root f within

  pub carried_in_effect : (v : Verdict) → IsVerdict D N v → part_in_effect under (carried_document v D N) ≡ carried_document v (part_in_effect under D) N
  carried_in_effect Verdict.Sound h = full_in_effect h N.schema refl
  carried_in_effect (Verdict.Need n) h = void_in_effect N.schema
  carried_in_effect (Verdict.Cycle n) h = void_in_effect N.schema
  carried_in_effect (Verdict.Schema u) h = absurd (h.1 based_on)

-- ## Out of effect

module _ (under : Rev → Rev) (D : Document) (N : Intent) (f : Fits D N) (told : under N.rev ≡ N.under) (out : Has (revs D.schemas) N.under → ⊥) where
  away : (n : NodeId) → is_new N n ≡ true → is_of_schemas under (revs D.schemas) n ≡ false
  away n i = go (is_of_schemas under (revs D.schemas) n) refl
    where
      go : (b : Bool) → is_of_schemas under (revs D.schemas) n ≡ b → is_of_schemas under (revs D.schemas) n ≡ false
      go false e = e
      go true e =
          let r = any-has (λ r. same_rev r (under n.0.rev)) (revs D.schemas) e in
          let same : r.0 ≡ N.under = same_rev-true r.0 (under n.0.rev) r.2 ∙ ap under (new_node_rev N f.itself n i) ∙ told in
          absurd (out (subst (Has (revs D.schemas)) same r.1))

  nodes_stay : (n : NodeId) → (part_in_effect under (void_data D N)).nodes n ≡ (part_in_effect under D).nodes n
  nodes_stay n = go (is_of_schemas under (revs D.schemas) n) refl (new_type N n) refl
    where
      go : (b : Bool) → is_of_schemas under (revs D.schemas) n ≡ b → (o : Option NodeType) → new_type N n ≡ o → (if b then option_or (D.nodes n) o else None) ≡ (if b then D.nodes n else None)
      go false e o q = refl
      go true e None q = option_or-None (D.nodes n)
      go true e (Some t) q = absurd (true-false e (away n (ap is_some q)))

  -- where a void intent leaves what is told of the part, so does one that changes nothing at all
  module _ {A : Type 0} (look : Document → A) (same : look (part_in_effect under (void_data D N)) ≡ look (part_in_effect under D)) where
    either_void : (o : Option (List ℕ)) → look (part_in_effect under (option_map_or (λ _. D) o (void_data D N))) ≡ look (part_in_effect under D)
    either_void None = same
    either_void (Some t) = refl

  pub left_nodes : (n : NodeId) → (part_in_effect under (void D N)).nodes n ≡ (part_in_effect under D).nodes n
  left_nodes n = either_void (λ (E : Document). E.nodes n) (nodes_stay n) N.schema

  pub left_places : (n : NodeId) → (part_in_effect under (void D N)).place n ≡ (part_in_effect under D).place n
  left_places n = either_void (λ (E : Document). E.place n) (places_stay (is_of_schemas under (revs D.schemas)) D N away n) N.schema

  pub left_registers : (r : FieldId) → (part_in_effect under (void D N)).held r ≡ (part_in_effect under D).held r
  left_registers r = either_void (λ (E : Document). E.held r) (registers_stay (is_of_schemas under (revs D.schemas)) D N away r) N.schema
