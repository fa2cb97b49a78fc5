-- The entries in effect stay a line of ancestors.
use Rattle.std.proofs.Common.{◌≡◌, ℕ, Bool, true, false, List, [], ◌∷◌, ◌++◌, Option, Some, None, refl, sym, ap, ◌∙◌, subst, inl, inr, ◌⊎◌}
use Rattle.std.specs.List.{AllByRecursion, last_or}
use Rattle.std.specs.Prelude.{IfSome}
use Rattle.st_lemmas.proofs.Lists.{map-append}
use Rattle.st_lemmas.proofs.Options.{one_some}
use Rattle.st_ids.specs.Listing.{Has}
use Rattle.st_ids.specs.Root.{opening}
use Rattle.st_ids.specs.declared.names.Rev.{Rev}
use Rattle.st_marks.specs.declared.intents.Intent.{Intent}
use Rattle.st_marks.specs.declared.schemas.SchemaEntry.{SchemaEntry}
use Rattle.st_marks.specs.Document.{Document, last_of, revs}
use Rattle.st_marks.specs.Intent.{IsIntent}
use Rattle.st_marks.specs.Run.{Run}
use Rattle.st_marks.proofs.Members.{append_left, has-append}
use Rattle.st_part_laws.specs.Chains.{AreInLine, TellsChain}
use Rattle.st_part_laws.specs.Parts.{NamesWithin, is_of_schemas}
use Rattle.st_part_laws.specs.Schemas.{entries_after, is_last_entry, schemas_after}
use Rattle.st_part_laws.proofs.Schemas.{is-last, schemas_run}
use Rattle.st_part_laws.proofs.Within.{more_schemas, more_within}

pub last_or-append : {A : Type 0} (d : Option A) (xs : List A) (x : A) → last_or d (xs ++ x ∷ []) ≡ Some x
last_or-append d [] x = refl
last_or-append d (y ∷ ys) x = last_or-append (Some y) ys x

last_or-has : {A : Type 0} (d : Option A) (xs : List A) (x : A) → last_or d xs ≡ Some x → (d ≡ Some x) ⊎ Has xs x
last_or-has d [] x e = inl e
last_or-has {A} d (y ∷ ys) x e = later (last_or-has (Some y) ys x e)
  where
    later : (Some y ≡ Some x) ⊎ Has ys x → (d ≡ Some x) ⊎ Has (y ∷ ys) x
    later (inl q) = inr (inl (one_some y x q))
    later (inr h) = inr (inr h)

pub last-has : {A : Type 0} (xs : List A) (x : A) → last_of xs ≡ Some x → Has xs x
last-has {A} xs x e = go (last_or-has None xs x e)
  where
    go : (None ≡ Some x) ⊎ Has xs x → Has xs x
    go (inl q) = let bad : None ≡ Some x = q in cc
    go (inr h) = h

-- a list of revisions that is in line, as `AreInLine` says of entries
record InLine (chain : Rev → List Rev) (rs : List Rev) : Type 0 where
  last : (r : Rev) → last_of rs ≡ Some r → rs ≡ chain r
  each : (r s : Rev) → Has rs r → Has (chain r) s → Has rs s

line_more : (chain : Rev → List Rev) (rs : List Rev) (u r : Rev) → InLine chain rs → last_of rs ≡ Some u → chain r ≡ chain u ++ r ∷ [] → InLine chain (rs ++ r ∷ [])
line_more chain rs u r k e c = record { last = last; each = λ q s h i. each q s (has-append rs (r ∷ []) q h) i }
  where
    last : (q : Rev) → last_of (rs ++ r ∷ []) ≡ Some q → rs ++ r ∷ [] ≡ chain q
    last q i =
        let same : r ≡ q = one_some r q (sym (last_or-append None rs r) ∙ i) in
        ap (λ l. l ++ r ∷ []) (k.last u e) ∙ sym c ∙ ap chain same

    each : (q s : Rev) → Has rs q ⊎ Has (r ∷ []) q → Has (chain q) s → Has (rs ++ r ∷ []) s
    each q s (inl h) i = append_left rs (r ∷ []) s (k.each q s h i)
    each q s (inr (inr h)) i = absurd h
    each q s (inr (inl same)) i =
        let all : chain q ≡ rs ++ r ∷ [] = ap chain (sym same) ∙ c ∙ ap (λ l. l ++ r ∷ []) (sym (k.last u e)) in
        subst (λ l. Has l s) all i

pub line_begins : (chain : Rev → List Rev) (entries : List SchemaEntry) → revs entries ≡ opening ∷ [] → chain opening ≡ opening ∷ [] → AreInLine chain entries
line_begins chain entries e c = record {
  last = λ r i. (
      let same : opening ≡ r = one_some opening r (subst (λ rs. last_of rs ≡ Some r) e i) in
      e ∙ sym c ∙ ap chain same);
  each = λ r s h i. subst (λ rs. Has rs s) (sym e) (go r s (subst (λ rs. Has rs r) e h) i);
}
  where
    go : (r s : Rev) → Has (opening ∷ []) r → Has (chain r) s → Has (opening ∷ []) s
    go r s (inl q) i = subst (λ l. Has l s) (ap chain (sym q) ∙ c) i
    go r s (inr h) i = absurd h

pub line_after : (chain : Rev → List Rev) (entries : List SchemaEntry) (N : Intent) → TellsChain chain N → AreInLine chain entries → AreInLine chain (entries_after entries N)
line_after chain entries N tells k = go (is_last_entry entries N.under) refl N.schema refl
  where
    more : (text : List ℕ) → N.schema ≡ Some text → is_last_entry entries N.under ≡ true → AreInLine chain (entries ++ record { rev = N.rev; text = text } ∷ [])
    more text e q =
        let c : chain N.rev ≡ chain N.under ++ N.rev ∷ [] = subst (λ o. IfSome o (λ (_ : List ℕ). chain N.rev ≡ chain N.under ++ N.rev ∷ [])) e tells in
        let m = line_more chain (revs entries) N.under N.rev (record { last = k.last; each = k.each }) (is-last entries N.under q) c in
        let same : revs entries ++ N.rev ∷ [] ≡ revs (entries ++ record { rev = N.rev; text = text } ∷ []) = sym (map-append (λ (e : SchemaEntry). e.rev) entries (record { rev = N.rev; text = text } ∷ [])) in
        record {
          last = λ r i. sym same ∙ m.last r (subst (λ rs. last_of rs ≡ Some r) (sym same) i);
          each = λ r s h i. subst (λ rs. Has rs s) same (m.each r s (subst (λ rs. Has rs r) (sym same) h) i);
        }

    go : (b : Bool) → is_last_entry entries N.under ≡ b → (o : Option (List ℕ)) → N.schema ≡ o → AreInLine chain (entries_after entries N)
    go false q o e = rw q k
    go true q None e = rw (q, e) k
    go true q (Some text) e = rw (q, e) (more text e q)

pub lines_after : (chain : Rev → List Rev) (entries : List SchemaEntry) (Ns : List Intent) → AllByRecursion (TellsChain chain) Ns → AreInLine chain entries → AreInLine chain (schemas_after entries Ns)
lines_after chain entries [] all k = k
lines_after chain entries (N ∷ Ns) all k = lines_after chain (entries_after entries N) Ns all.1 (line_after chain entries N all.0 k)

pub lines_run : (chain : Rev → List Rev) (D E : Document) (Ns : List Intent) → AllByRecursion IsIntent Ns → AllByRecursion (TellsChain chain) Ns → Run D Ns E → AreInLine chain D.schemas → AreInLine chain E.schemas
lines_run chain D E Ns all tell r k = subst (AreInLine chain) (sym (schemas_run r all)) (lines_after chain D.schemas Ns tell k)

-- ## What is named

pub named_in_effect : (under : Rev → Rev) (chain : Rev → List Rev) (D : Document) (N : Intent) → AreInLine chain D.schemas → Has (revs D.schemas) N.under
    → NamesWithin (is_of_schemas under (chain N.under)) D N → NamesWithin (is_of_schemas under (revs D.schemas)) D N
named_in_effect under chain D N k h w =
    more_within (is_of_schemas under (chain N.under)) (is_of_schemas under (revs D.schemas)) D N
    (more_schemas under (chain N.under) (revs D.schemas) (λ s i. k.each N.under s h i)) w
