-- An upgrade is sound directly after what its author had, and changes no tree that is shown.
use Rattle.std.proofs.Common.{◌≡◌, ℕ, Bool, true, false, List, [], ◌∷◌, ◌++◌, map, Option, Some, None, IsSome, IfSome, Ok, is_some, refl, sym, ap, ◌∙◌, subst}
use Rattle.std.specs.List.{list_all}
use Rattle.std.proofs.lemmas.List.Folds.{list_all-append}
use Rattle.serde_json.specs.Data.{Data, Items, Members}
use Rattle.st_lemmas.proofs.Bools.{and-true}
use Rattle.st_lemmas.proofs.Options.{IsSome-Some, option_or-None}
use Rattle.st_ids.specs.Root.{root}
use Rattle.st_ids.specs.declared.names.NodeId.{NodeId}
use Rattle.st_ids.specs.declared.names.Rev.{Rev}
use Rattle.st_schema.specs.Schema.{SchemaView, form_of}
use Rattle.st_schema.specs.Wider.{contains_all, form_widens, types_widen, wider_of}
use Rattle.st_schema.specs.declared.names.Form.{Form}
use Rattle.st_schema.specs.declared.names.Form.TheVariants.{Array, Map, Object}
use Rattle.st_schema.proofs.MoreTrees.{form_found, no_narrowing}
use Rattle.st_marks.specs.declared.intents.Intent.{Intent}
use Rattle.st_marks.specs.declared.places.Spot.{Spot}
use Rattle.st_marks.specs.declared.verdicts.Verdict.{Verdict}
use Rattle.st_marks.specs.CarryOut.{full, unless_cleared, unless_put}
use Rattle.st_marks.specs.Document.{Document, IsSoundInForm, NodeType, is_cell, last_of, revs, slot}
use Rattle.st_marks.specs.Intent.{IsIntent}
use Rattle.st_marks.specs.LiveTree.{Shows, shows_leaf, shows_row, shows_registers, ShowsItems, no_more_items, next_item, ShowsMembers, no_more_members, next_member, owners_shown, register}
use Rattle.st_marks.specs.Verdict.{HasBase, IsVerdict}
use Rattle.st_edits.specs.ArrayTypes.{is_array_form, is_array_type}
use Rattle.st_edits.specs.Fields.{type_fits}
use Rattle.st_schema_laws.specs.Alike.{AreAlikeAt}
use Rattle.st_schema_laws.proofs.Alike.{same_below}
use Rattle.st_schema_laws.proofs.Removed.{no_groups}
use Rattle.st_schema_laws.proofs.Rows.{owners_same}
use Rattle.st_part_laws.specs.Parts.{part_in_effect}
use Rattle.st_schema_laws.specs.AgreeingInEffect.{ConformsInEffect, Told}
use Rattle.st_edits.specs.InEffect.{last_in_effect}
use Rattle.st_schema_laws.proofs.Shown.{shows_in_effect}

-- ## A change of schema, which has nothing else

abbrev bare : Rev → Rev → Option (List ℕ) → Intent
bare rev under schema = record { rev = rev; under = under; new = []; groups = []; clear = []; put = []; need = []; schema = schema }

is_bare : (N : Intent) → IsIntent N → IsSome N.schema → bare N.rev N.under N.schema ≡ N
is_bare N itself change =
    let t = IsSome-Some N.schema change in
    let a = subst (λ o. IfSome o (λ (_ : List ℕ). (N.new ≡ []) × (N.groups ≡ []) × (N.clear ≡ []) × (N.put ≡ []) × (N.need ≡ []))) t.1 itself.schema_alone in
    let new = sym a.0 in
    let groups = sym a.1 in
    let clear = sym a.2 in
    let put = sym a.3 in
    let need = sym a.4 in
    (λ i. record { rev = N.rev; under = N.under; new = new i; groups = groups i; clear = clear i; put = put i; need = need i; schema = N.schema })

module _ (D : Document) (rev under : Rev) (schema : Option (List ℕ)) where
  abbrev M : Intent
  M = bare rev under schema

  bare_alike : (x : NodeId) → AreAlikeAt D (full D M) x
  bare_alike x = record {
    node = λ t e. option_or-None (D.nodes x) ∙ e;
    row = ap (λ os. owners_shown (map (slot (full D M)) os)) (no_groups M x (λ a. refl) (D.rows x)) ∙ owners_same D (full D M) (D.rows x) (λ o h. ap (is_cell o.cell) (stays (D.place o.node)));
    held = λ k. unput (D.held (register x k));
  }
    where
      stays : (s : Spot) → unless_cleared M s ≡ s
      stays Spot.Nowhere = refl
      stays (Spot.Row r c) = refl
      stays (Spot.Register f) = refl

      unput : (o : Option NodeId) → unless_put M o ≡ o
      unput None = refl
      unput (Some y) = refl

  bare_verdict : IsSome schema → last_of (revs D.schemas) ≡ Some under → IsVerdict D M Verdict.Sound
  bare_verdict change last = (base schema change, λ x h. absurd h.0, λ x h. absurd (none h.0))
    where
      base : (o : Option (List ℕ)) → IsSome o → HasBase D.schemas o under
      base None h = cc
      base (Some text) h = last

      none : ◌≡◌ {A = Bool} false true → ⊥
      none e = cc

pub upgrade_verdict : (D : Document) (N : Intent) → IsIntent N → IsSome N.schema → last_of (revs D.schemas) ≡ Some N.under → IsVerdict D N Verdict.Sound
upgrade_verdict D N itself change last = subst (λ N. IsVerdict D N Verdict.Sound) (is_bare N itself change) (bare_verdict D N.rev N.under N.schema change last)

-- ## Rows and registers by the wider schema

module _ (old new : SchemaView) (wide : wider_of old new ≡ Ok tt) where
  types_wide : list_all (λ ok. ok) (types_widen old.types new.types) ≡ true
  types_wide = (and-true _ _ (sym (list_all-append (λ ok. ok) (types_widen old.types new.types) (contains_all new.root old.root ∷ [])) ∙ no_narrowing 0 (types_widen old.types new.types ++ contains_all new.root old.root ∷ []) wide)).0

  same_form : (f g : Form) → form_widens f g ≡ true → is_array_form (Some g) ≡ is_array_form (Some f)
  same_form (Array a) (Array b) e = refl
  same_form (Array a) (Map b) e = absurd (cc)
  same_form (Array a) (Object b) e = absurd (cc)
  same_form (Map a) (Array b) e = absurd (cc)
  same_form (Map a) (Map b) e = refl
  same_form (Map a) (Object b) e = absurd (cc)
  same_form (Object a) (Array b) e = absurd (cc)
  same_form (Object a) (Map b) e = absurd (cc)
  same_form (Object a) (Object b) e = refl

  same_row : (ty : List ℕ) → is_some (form_of old.types ty) ≡ true → is_array_type new ty ≡ is_array_type old ty
  same_row ty h =
      let f = IsSome-Some (form_of old.types ty) h in
      let g = form_found old.types new.types ty f.0 types_wide f.1 in
      ap is_array_form g.1 ∙ same_form f.0 g.0 g.2 ∙ sym (ap is_array_form f.1)

  module _ (is_array is_array_then : List ℕ → Bool) (tells : (ty : List ℕ) → is_array ty ≡ is_array_type old ty) (tells_then : (ty : List ℕ) → is_array_then ty ≡ is_array_type new ty)
      (D : Document) (types : (n : NodeId) (t : NodeType) → D.nodes n ≡ Some t → type_fits old t.ty t.leaf ≡ true) where
    same_test : (n : NodeId) (ty : List ℕ) → D.nodes n ≡ Some (record { ty = ty; leaf = None }) → is_array_then ty ≡ is_array ty
    same_test n ty e = tells_then ty ∙ same_row ty (types n (record { ty = ty; leaf = None }) e) ∙ sym (tells ty)

    mutual
      shown_then : {n : NodeId} {d : Data} → Shows is_array D n d → Shows is_array_then D n d
      shown_then (shows_leaf n ty v e) = shows_leaf n ty v e
      shown_then (shows_row n ty items e a s) = shows_row n ty items e (same_test n ty e ∙ a) (items_then s)
      shown_then (shows_registers n ty keys ms e a l s) = shows_registers n ty keys ms e (same_test n ty e ∙ a) l (members_then s)

      items_then : {ns : List NodeId} {ds : Items} → ShowsItems is_array D ns ds → ShowsItems is_array_then D ns ds
      items_then no_more_items = no_more_items
      items_then (next_item n d ns ds a s) = next_item n d ns ds (shown_then a) (items_then s)

      members_then : {n : NodeId} {ks : List (List ℕ)} {ms : Members} → ShowsMembers is_array D n ks ms → ShowsMembers is_array_then D n ks ms
      members_then (no_more_members n) = no_more_members n
      members_then (next_member n m k d ks ms e a s) = next_member n m k d ks ms e (shown_then a) (members_then s)

-- ## The tree that is shown

pub upgrade_seen : (T : Told) (D : Document) (N : Intent) (new : SchemaView) (is_array is_array_then : List ℕ → Bool) (d : Data) → IsSoundInForm D → ConformsInEffect T D → IsIntent N → IsSome N.schema → wider_of (T.view (last_in_effect D)) new ≡ Ok tt
    → ((ty : List ℕ) → is_array ty ≡ is_array_type (T.view (last_in_effect D)) ty) → ((ty : List ℕ) → is_array_then ty ≡ is_array_type new ty) → Shows is_array D root d → Shows is_array_then (full D N) root d
upgrade_seen T D N new is_array is_array_then d s here itself change wide tells tells_then shows =
    let in_part = (shows_in_effect is_array T.under D d s here.closed here.opened).0 shows in
    let then = shown_then (T.view (last_in_effect D)) new wide is_array is_array_then tells tells_then (part_in_effect T.under D) here.part.types in_part in
    let whole = (shows_in_effect is_array_then T.under D d s here.closed here.opened).1 then in
    subst (λ N. Shows is_array_then (full D N) root d) (is_bare N itself change)
    (same_below is_array_then D (full D (bare N.rev N.under N.schema)) s root d (λ x known w. bare_alike D N.rev N.under N.schema x) whole)
