-- A change of schema names nothing, and so agrees with every schema; schemas in effect stay in effect.
use Rattle.std.proofs.Common.{◌≡◌, ℕ, Bool, true, false, cond, List, [], ◌∷◌, Option, Some, None, IsSome, IfSome, refl, sym, ◌∙◌, subst}
use Rattle.std.specs.List.{AllByRecursion, flat_map}
use Rattle.st_lemmas.proofs.Bools.{true-false}
use Rattle.st_lemmas.proofs.Lists.{map-append}
use Rattle.st_lemmas.proofs.Options.{IsSome-Some}
use Rattle.st_ids.specs.Listing.{Has}
use Rattle.st_ids.specs.declared.names.NodeId.{NodeId}
use Rattle.st_ids.specs.declared.names.Rev.{Rev}
use Rattle.st_marks.specs.declared.intents.Group.{Group}
use Rattle.st_marks.specs.declared.intents.Intent.{Intent}
use Rattle.st_marks.specs.declared.intents.To.{To}
use Rattle.st_marks.specs.declared.schemas.SchemaEntry.{SchemaEntry}
use Rattle.st_marks.specs.CarryOut.{with_schema}
use Rattle.st_marks.specs.Document.{Document, revs}
use Rattle.st_marks.specs.Intent.{IsIntent, is_new, put_of}
use Rattle.st_marks.specs.Run.{Run}
use Rattle.st_marks.proofs.Members.{append_left}
use Rattle.st_schema_laws.proofs.Simple.{schema_agrees}
use Rattle.st_part_laws.specs.Chains.{TellsChain}
use Rattle.st_part_laws.specs.Parts.{NamesWithin, is_of_schemas, part_of_schemas}
use Rattle.st_part_laws.specs.Schemas.{entries_after, is_last_entry, schemas_after}
use Rattle.st_part_laws.proofs.Schemas.{schemas_run}
use Rattle.st_schema_laws.specs.AgreeingInEffect.{AgreesInLine, Told}
use Rattle.st_schema_laws.specs.Widening.{IsUpgrade}

-- ## A change of schema

change_within : (p : NodeId → Bool) (D : Document) (N : Intent) → (N.new ≡ []) × (N.groups ≡ []) × (N.clear ≡ []) × (N.put ≡ []) × (N.need ≡ []) → NamesWithin p D N
change_within p D N alone = record {
  new = λ n i. (let none : is_new N n ≡ false = rw (alone.0) refl in absurd (true-false i none));
  groups = λ g h. none_made g h;
  owners = λ o h. absurd (subst (λ gs. Has (flat_map (λ (g : Group). g.cells) gs) o) alone.1 h);
  anchors = λ g n o h e i. none_made g h;
  puts = λ m to e. none_put m to e;
  targets = λ m n to e k. none_put m to e;
  clears = λ f h. absurd (subst (λ fs. Has fs f) alone.2 h);
  needs = λ n h. absurd (subst (λ ns. Has ns n) alone.4 h);
}
  where
    none_made : {A : Type 0} (g : Group) → Has N.groups g → A
    none_made g h = absurd (subst (λ gs. Has gs g) alone.1 h)

    none_put : {A : Type 0} (m : NodeId) (to : To) → put_of N m ≡ Some to → A
    none_put m to e =
        let none : put_of N m ≡ None = rw (alone.3) refl in
        let bad : None ≡ Some to = sym none ∙ e in
        cc

pub change_agrees : (T : Told) (D : Document) (N : Intent) → IsIntent N → IsSome N.schema → T.under N.rev ≡ N.under → TellsChain T.chain N → IfSome N.schema (IsUpgrade (T.view N.under) (T.view N.rev)) → AgreesInLine T D N
change_agrees T D N itself change under chain view = record {
  under = under;
  chain = chain;
  view = view;
  names = change_within (is_of_schemas T.under (T.chain N.under)) D N alone;
  keeps = schema_agrees (T.view N.under) T.home (part_of_schemas T.under (T.chain N.under) D) N itself change;
}
  where
    alone : (N.new ≡ []) × (N.groups ≡ []) × (N.clear ≡ []) × (N.put ≡ []) × (N.need ≡ [])
    alone = let t = IsSome-Some N.schema change in subst (λ o. IfSome o (λ (_ : List ℕ). (N.new ≡ []) × (N.groups ≡ []) × (N.clear ≡ []) × (N.put ≡ []) × (N.need ≡ []))) t.1 itself.schema_alone

-- ## Schemas stay

entries_stay : (entries : List SchemaEntry) (N : Intent) (r : Rev) → Has (revs entries) r → Has (revs (entries_after entries N)) r
entries_stay entries N r h = go (is_last_entry entries N.under) N.schema
  where
    go : (b : Bool) (o : Option (List ℕ)) → Has (revs (cond b (with_schema N o entries) entries)) r
    go false o = h
    go true None = h
    go true (Some text) = subst (λ l. Has l r) (sym (map-append (λ (e : SchemaEntry). e.rev) entries (record { rev = N.rev; text = text } ∷ []))) (append_left (revs entries) (N.rev ∷ []) r h)

all_stay : (entries : List SchemaEntry) (Ns : List Intent) (r : Rev) → Has (revs entries) r → Has (revs (schemas_after entries Ns)) r
all_stay entries [] r h = h
all_stay entries (N ∷ Ns) r h = all_stay (entries_after entries N) Ns r (entries_stay entries N r h)

pub schemas_stay : (D E : Document) (Ns : List Intent) → AllByRecursion IsIntent Ns → Run D Ns E → (r : Rev) → Has (revs D.schemas) r → Has (revs E.schemas) r
schemas_stay D E Ns all run r h = subst (λ es. Has (revs es) r) (sym (schemas_run run all)) (all_stay D.schemas Ns r h)
