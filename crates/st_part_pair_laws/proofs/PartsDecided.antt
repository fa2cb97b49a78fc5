-- What two changes that agree are as parts is decided: of one revision, without a change of schema, without rings, and with entries
-- that suit both.
use Rattle.std.proofs.Common.{◌≡◌, ◌≢◌, ◌↔◌, ℕ, Bool, true, false, List, Option, Some, None, IsTrue, IfSome, refl, sym, ap, ◌∙◌, subst, inl, inr}
use Rattle.std.specs.List.{AllByRecursion}
use Rattle.st_ids.specs.Order.{same_rev}
use Rattle.st_ids.specs.Root.{root}
use Rattle.st_ids.specs.declared.names.Rev.{Rev}
use Rattle.st_ids.proofs.Orders.{same_rev-itself, same_rev-true}
use Rattle.st_lemmas.proofs.Bools.{true-false}
use Rattle.st_marks.specs.declared.changes.Change.{Change}
use Rattle.st_marks.specs.declared.schemas.SchemaEntry.{SchemaEntry}
use Rattle.st_marks.specs.Agree.{Agrees, CanBeParts, HaveSchemasOfParts, JoinClash, broken, row_field}
use Rattle.st_marks.specs.Verdict.{HasBase}
use Rattle.st_normal.specs.Rules.{ObeysDataRules}
use Rattle.st_normal_laws.specs.inside.One.{entries_for}
use Rattle.st_normal_laws.proofs.OneSeed.{over_seed, seed_is_sound}
use Rattle.st_part_pair_laws.proofs.Marks.{none-some}
use Rattle.st_part_pair_laws.proofs.Meeting.{NotNot, full-is}

rev-is : (a b : Rev) → NotNot (a ≡ b) → a ≡ b
rev-is a b h = go (same_rev a b) refl
  where
    go : (c : Bool) → same_rev a b ≡ c → a ≡ b
    go true e = same_rev-true a b e
    go false e = absurd (h (λ q. true-false (ap (λ r. same_rev r b) q ∙ same_rev-itself b) e))

none-is : (o : Option (List ℕ)) → NotNot (o ≡ None) → o ≡ None
none-is None h = refl
none-is (Some a) h = absurd (h (λ e. none-some (sym e)))

bools-same : (a b : Bool) → (a ≡ true → b ≡ true) → (b ≡ true → a ≡ true) → a ≡ b
bools-same true b f g = sym (f refl)
bools-same false true f g = g refl
bools-same false false f g = refl

pub parts-are : (C K : Change) → Agrees (JoinClash C K) → CanBeParts C K
parts-are C K g = record {
  one_rev = rev-is C.rev K.rev (λ n. unless (λ p. n p.one_rev));
  one_under = rev-is C.under K.under (λ n. unless (λ p. n p.one_under));
  no_schema = (none-is C.schema (λ n. unless (λ p. n p.no_schema.0)), none-is K.schema (λ n. unless (λ p. n p.no_schema.1)));
  first_no_ring = λ n l. unless (λ p. p.first_no_ring n l);
  made_no_ring = λ n l. unless (λ p. p.made_no_ring n l);
}
  where
    unless : NotNot (CanBeParts C K)
    unless bad = g (row_field root) (inr (inr (inr (inr (broken bad)))))

module _ (C K : Change) (w : ObeysDataRules C) (g : Agrees (JoinClash C K)) (plain : C.schema ≡ None) (also : K.schema ≡ None) (under : C.under ≡ K.under) where
  abbrev es : List SchemaEntry
  es = entries_for C.base C.under

  -- what is asked of the base of the first is asked of that of the second
  based : (entries : List SchemaEntry) → IsTrue C.base ↔ HasBase entries C.schema C.under → IsTrue C.base ↔ HasBase entries K.schema K.under
  based entries h = subst (λ u. IsTrue C.base ↔ HasBase entries K.schema u) under (subst (λ (o : Option (List ℕ)). IsTrue C.base ↔ HasBase entries o C.under) (plain ∙ sym also) h)

  told : HaveSchemasOfParts C K → C.base ≡ K.base
  told (entries, a, b) = let h = based entries a.base in bools-same C.base K.base (λ t. b.base.1 (h.0 t)) (λ t. h.1 (b.base.0 t))

  same-base : C.base ≡ K.base
  same-base = full-is C.base K.base (λ n. g (row_field root) (inr (inr (inr (inl (broken (λ s. n (told s))))))))

  pub schemas-are : HaveSchemasOfParts C K
  schemas-are = (
    es,
    record { in_effect = (seed_is_sound C w plain).in_effect; base = (over_seed C w plain).base; fresh = (over_seed C w plain).new_schema },
    record {
      in_effect = (seed_is_sound C w plain).in_effect;
      base = subst (λ b. IsTrue b ↔ HasBase es K.schema K.under) same-base (based es (over_seed C w plain).base);
      fresh = subst (λ (o : Option (List ℕ)). IfSome o (λ _. AllByRecursion (λ (e : SchemaEntry). e.rev ≢ K.rev) es)) (sym also) tt;
    },
  )
