-- The schema entries in effect go by the entries before and the commits alone.
use Rattle.std.proofs.Common.{◌≡◌, ℕ, Bool, true, false, List, [], ◌∷◌, ◌++◌, Option, Some, None, IsSome, refl, sym, ap, ◌∙◌, subst}
use Rattle.std.specs.List.{AllByRecursion, find}
use Rattle.std.specs.Option.{option_map, option_map_or}
use Rattle.std.specs.Prelude.{if◌then◌else◌, IfSome}
use Rattle.st_ids.specs.Listing.{Has}
use Rattle.st_ids.specs.Order.{same_node, same_rev}
use Rattle.st_ids.specs.declared.names.NodeId.{NodeId}
use Rattle.st_ids.specs.declared.names.Rev.{Rev}
use Rattle.st_ids.proofs.Orders.{same_rev-true, same_rev-itself}
use Rattle.st_marks.specs.declared.intents.Intent.{Intent}
use Rattle.st_marks.specs.declared.intents.Put.{Put}
use Rattle.st_marks.specs.declared.schemas.SchemaEntry.{SchemaEntry}
use Rattle.st_marks.specs.declared.verdicts.Verdict.{Verdict}
use Rattle.st_marks.specs.CarryOut.{void_data}
use Rattle.st_marks.specs.Document.{Document, last_of, revs}
use Rattle.st_marks.specs.Intent.{IsIntent}
use Rattle.st_marks.specs.Run.{Run, done, next}
use Rattle.st_marks.specs.Verdict.{HasBase, IsBaseInEffect, IsUnmetNeed, IsAboveItself, IsVerdict, carried_document}
use Rattle.st_part_laws.specs.Schemas.{entries_after, is_last_entry, schemas_after}

-- ## The last entry

pub last-is : (entries : List SchemaEntry) (r : Rev) → last_of (revs entries) ≡ Some r → is_last_entry entries r ≡ true
last-is entries r e = rw e (same_rev-itself r)

pub is-last : (entries : List SchemaEntry) (r : Rev) → is_last_entry entries r ≡ true → last_of (revs entries) ≡ Some r
is-last entries r e = go (last_of (revs entries)) e
  where
    go : (o : Option Rev) → option_map_or (λ s. same_rev s r) o false ≡ true → o ≡ Some r
    go None e = let bad : false ≡ true = e in cc
    go (Some s) e = ap (λ t. Some t) (same_rev-true s r e)

not-last : (entries : List SchemaEntry) (r : Rev) → (last_of (revs entries) ≡ Some r → ⊥) → is_last_entry entries r ≡ false
not-last entries r out = go (is_last_entry entries r) refl
  where
    go : (b : Bool) → is_last_entry entries r ≡ b → is_last_entry entries r ≡ false
    go true e = absurd (out (is-last entries r e))
    go false e = e

-- ## One intent

module _ (D : Document) (N : Intent) where
  -- of one that changes no schema
  void_keeps : (o : Option (List ℕ)) → (option_map_or (λ _. D) o (void_data D N)).schemas ≡ D.schemas
  void_keeps None = refl
  void_keeps (Some t) = refl

  pub kept_carried : N.schema ≡ None → (v : Verdict) → (carried_document v D N).schemas ≡ D.schemas
  kept_carried e Verdict.Sound = rw e refl
  kept_carried e (Verdict.Need n) = void_keeps N.schema
  kept_carried e (Verdict.Cycle n) = void_keeps N.schema
  kept_carried e (Verdict.Schema u) = void_keeps N.schema

  kept_after : N.schema ≡ None → entries_after D.schemas N ≡ D.schemas
  kept_after e = rw e (go (is_last_entry D.schemas N.under))
    where
      go : (b : Bool) → (if b then D.schemas else D.schemas) ≡ D.schemas
      go true = refl
      go false = refl

  -- of one that changes the schema: it needs nothing and puts nothing
  pub changed_alone : (text : List ℕ) → N.schema ≡ Some text → IsIntent N → (N.need ≡ []) × (N.put ≡ [])
  changed_alone text e w =
      let a : IfSome (Some text) (λ _. (N.new ≡ []) × (N.groups ≡ []) × (N.clear ≡ []) × (N.put ≡ []) × (N.need ≡ [])) =
      subst (λ o. IfSome o (λ (_ : List ℕ). (N.new ≡ []) × (N.groups ≡ []) × (N.clear ≡ []) × (N.put ≡ []) × (N.need ≡ []))) e w.schema_alone in
      (a.4, a.3)

  pub based : (text : List ℕ) → N.schema ≡ Some text → IsBaseInEffect D N → last_of (revs D.schemas) ≡ Some N.under
  based text e h = subst (λ o. HasBase D.schemas o N.under) e h

  baseless : (text : List ℕ) → N.schema ≡ Some text → (IsBaseInEffect D N → ⊥) → last_of (revs D.schemas) ≡ Some N.under → ⊥
  baseless text e out h = out (subst (λ o. HasBase D.schemas o N.under) (sym e) h)

  no_need : N.need ≡ [] → (n : NodeId) → IsUnmetNeed D N n → ⊥
  no_need e n h = subst (λ ns. Has ns n) e h.0

  no_put : N.put ≡ [] → (n : NodeId) → IsAboveItself D N n → ⊥
  no_put e n h = let bad : false ≡ true = subst (λ (ps : List Put). IsSome (option_map (λ (p : Put). p.to) (find (λ (p : Put). same_node p.node n) ps))) e h.0 in cc

  changed_carried : (text : List ℕ) → N.schema ≡ Some text → IsIntent N → (v : Verdict) → IsVerdict D N v → (carried_document v D N).schemas ≡ entries_after D.schemas N
  changed_carried text e w Verdict.Sound h = rw (last-is D.schemas N.under (based text e h.0)) refl
  changed_carried text e w (Verdict.Need n) h = absurd (no_need (changed_alone text e w).0 n h.1.0)
  changed_carried text e w (Verdict.Cycle n) h = absurd (no_put (changed_alone text e w).1 n h.2.0)
  changed_carried text e w (Verdict.Schema u) h = void_keeps N.schema ∙ sym (passed_by (not-last D.schemas N.under (baseless text e h.1)))
    where
      passed_by : is_last_entry D.schemas N.under ≡ false → entries_after D.schemas N ≡ D.schemas
      passed_by q = rw q refl

  pub entries_carried : IsIntent N → (v : Verdict) → IsVerdict D N v → (carried_document v D N).schemas ≡ entries_after D.schemas N
  entries_carried w v h = go N.schema refl
    where
      go : (o : Option (List ℕ)) → N.schema ≡ o → (carried_document v D N).schemas ≡ entries_after D.schemas N
      go None e = kept_carried e v ∙ sym (kept_after e)
      go (Some text) e = changed_carried text e w v h

-- ## Lists

pub schemas_run : {D E : Document} {Ns : List Intent} → Run D Ns E → AllByRecursion IsIntent Ns → E.schemas ≡ schemas_after D.schemas Ns
schemas_run (done {D}) all = refl
schemas_run (next {D} {N = N} {Ns = Ns} v a r) all = schemas_run r all.1 ∙ ap (λ es. schemas_after es Ns) (entries_carried D N all.0 v a)

pub schemas_then : (entries : List SchemaEntry) (Ns Ms : List Intent) → schemas_after entries (Ns ++ Ms) ≡ schemas_after (schemas_after entries Ns) Ms
schemas_then entries [] Ms = refl
schemas_then entries (N ∷ Ns) Ms = schemas_then (entries_after entries N) Ns Ms
