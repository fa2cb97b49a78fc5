-- The schemas in effect stay such that each is wider than those of its line.
use Rattle.std.proofs.Common.{◌≡◌, ℕ, Bool, true, false, List, [], ◌∷◌, ◌++◌, Option, Some, None, IfSome, refl, sym, ap, ◌∙◌, subst, ◌⊎◌, inl, inr}
use Rattle.st_lemmas.proofs.Lists.{map-append}
use Rattle.st_ids.specs.Listing.{Has}
use Rattle.st_ids.specs.Root.{opening}
use Rattle.st_ids.specs.declared.names.Leaf.{Leaf}
use Rattle.st_ids.specs.declared.names.NodeId.{NodeId}
use Rattle.st_ids.specs.declared.names.FieldId.{FieldId}
use Rattle.st_ids.specs.declared.names.Rev.{Rev}
use Rattle.st_schema.specs.Schema.{SchemaView, is_sound}
use Rattle.st_marks.specs.declared.intents.Intent.{Intent}
use Rattle.st_marks.specs.declared.schemas.SchemaEntry.{SchemaEntry}
use Rattle.st_marks.specs.Document.{Document, NodeType, last_of, revs}
use Rattle.st_marks.proofs.Members.{has-append, map-has}
use Rattle.st_schema_laws.specs.Agreeing.{KeepsSchema}
use Rattle.st_edits.specs.Fields.{type_fits}
use Rattle.st_schema_laws.proofs.Wider.{agrees_wider, type_wider}
use Rattle.st_part_laws.specs.Chains.{TellsChain}
use Rattle.st_part_laws.specs.Schemas.{entries_after, is_last_entry}
use Rattle.st_part_laws.proofs.Chains.{last-has}
use Rattle.st_part_laws.proofs.Schemas.{is-last}
use Rattle.st_schema_laws.specs.Widening.{AreWidening, BecomesWider, IsTextOf, IsUpgrade, no_change, one_change}

-- ## From schema to schema

pub type_becomes : {old new : SchemaView} → BecomesWider old new → (ty : List ℕ) (leaf : Option Leaf) → type_fits old ty leaf ≡ true → type_fits new ty leaf ≡ true
type_becomes no_change ty leaf e = e
type_becomes (one_change {before} {after} b sound wide) ty leaf e = type_wider before after sound wide ty leaf (type_becomes b ty leaf e)

pub keeps_wider : {old new : SchemaView} → BecomesWider old new → (home : NodeId → Option FieldId) (D : Document) (N : Intent) → ((n : NodeId) (t : NodeType) → D.nodes n ≡ Some t → type_fits old t.ty t.leaf ≡ true)
    → KeepsSchema old home D N → KeepsSchema new home D N
keeps_wider no_change home D N types k = k
keeps_wider (one_change {before} {after} b sound wide) home D N types k =
    agrees_wider before after sound wide home D N (λ n t e. type_becomes b t.ty t.leaf (types n t e)) (keeps_wider b home D N types k)

-- ## Entries

pub widening_begins : (view : Rev → SchemaView) (chain : Rev → List Rev) (entries : List SchemaEntry) → revs entries ≡ opening ∷ [] → chain opening ≡ opening ∷ [] → is_sound (view opening) ≡ true
    → ((e : SchemaEntry) → Has entries e → IsTextOf (view opening) e.text) → AreWidening view chain entries
widening_begins view chain entries e c sound written = record {
  written = λ o h. subst (λ r. IsTextOf (view r) o.text) (only o.rev (subst (λ l. Has l o.rev) e (map-has (λ (e : SchemaEntry). e.rev) entries o h))) (written o h);
  sound = λ r h. ap (λ r. is_sound (view r)) (sym (only r (subst (λ l. Has l r) e h))) ∙ sound;
  each = λ r s h i. begin r s (only r (subst (λ l. Has l r) e h)) i;
}
  where
    only : (r : Rev) → Has (opening ∷ []) r → opening ≡ r
    only r (inl q) = q
    only r (inr h) = absurd h

    begin : (r s : Rev) → opening ≡ r → Has (chain r) s → BecomesWider (view s) (view r)
    begin r s q i =
        let same : opening ≡ s = only s (subst (λ l. Has l s) (ap chain (sym q) ∙ c) i) in
        subst (λ x. BecomesWider (view x) (view r)) same (subst (λ x. BecomesWider (view opening) (view x)) q no_change)

module _ (view : Rev → SchemaView) (chain : Rev → List Rev) (entries : List SchemaEntry) (N : Intent) (tells : TellsChain chain N) (shows : IfSome N.schema (IsUpgrade (view N.under) (view N.rev))) (k : AreWidening view chain entries) where
  widening_more : (text : List ℕ) → N.schema ≡ Some text → last_of (revs entries) ≡ Some N.under → AreWidening view chain (entries ++ record { rev = N.rev; text = text } ∷ [])
  widening_more text e last = record { written = λ o h. written o (has-append entries (record { rev = N.rev; text = text } ∷ []) o h); sound = λ r h. sound r (split r h); each = λ r s h i. each r s (split r h) i }
    where
      split : (r : Rev) → Has (revs (entries ++ record { rev = N.rev; text = text } ∷ [])) r → Has (revs entries) r ⊎ Has (N.rev ∷ []) r
      split r h = has-append (revs entries) (N.rev ∷ []) r (subst (λ l. Has l r) (map-append (λ (e : SchemaEntry). e.rev) entries (record { rev = N.rev; text = text } ∷ [])) h)

      upgrade : IsUpgrade (view N.under) (view N.rev) text
      upgrade = subst (λ o. IfSome o (IsUpgrade (view N.under) (view N.rev))) e shows

      written : (o : SchemaEntry) → Has entries o ⊎ Has (record { rev = N.rev; text = text } ∷ []) o → IsTextOf (view o.rev) o.text
      written o (inl h) = k.written o h
      written o (inr (inl q)) = subst (λ (o : SchemaEntry). IsTextOf (view o.rev) o.text) q upgrade.written
      written o (inr (inr h)) = absurd h

      own_line : chain N.rev ≡ chain N.under ++ N.rev ∷ []
      own_line = subst (λ o. IfSome o (λ (_ : List ℕ). chain N.rev ≡ chain N.under ++ N.rev ∷ [])) e tells

      sound : (r : Rev) → Has (revs entries) r ⊎ Has (N.rev ∷ []) r → is_sound (view r) ≡ true
      sound r (inl h) = k.sound r h
      sound r (inr (inl q)) = ap (λ r. is_sound (view r)) (sym q) ∙ upgrade.sound
      sound r (inr (inr h)) = absurd h

      onward : (s : Rev) → Has (chain N.under) s ⊎ Has (N.rev ∷ []) s → BecomesWider (view s) (view N.rev)
      onward s (inl i) = one_change (k.each N.under s (last-has (revs entries) N.under last) i) upgrade.sound upgrade.wide
      onward s (inr (inl q)) = subst (λ x. BecomesWider (view x) (view N.rev)) q no_change
      onward s (inr (inr h)) = absurd h

      each : (r s : Rev) → Has (revs entries) r ⊎ Has (N.rev ∷ []) r → Has (chain r) s → BecomesWider (view s) (view r)
      each r s (inl h) i = k.each r s h i
      each r s (inr (inr h)) i = absurd h
      each r s (inr (inl q)) i =
          let there : Has (chain N.under ++ N.rev ∷ []) s = subst (λ l. Has l s) (ap chain (sym q) ∙ own_line) i in
          subst (λ x. BecomesWider (view s) (view x)) q (onward s (has-append (chain N.under) (N.rev ∷ []) s there))

  pub widening_after : AreWidening view chain (entries_after entries N)
  widening_after = go (is_last_entry entries N.under) refl N.schema refl
    where
      go : (b : Bool) → is_last_entry entries N.under ≡ b → (o : Option (List ℕ)) → N.schema ≡ o → AreWidening view chain (entries_after entries N)
      go false q o e = rw q k
      go true q None e = rw (q, e) k
      go true q (Some text) e = rw (q, e) (widening_more text e (is-last entries N.under q))
