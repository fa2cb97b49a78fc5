-- What several proofs need of booleans, options, lists and places.
use Rattle.std.proofs.Common.{◌≡◌, Bool, true, false, not, Option, Some, None, refl, sym, ap, subst, inl, inr}
use Rattle.st_ids.specs.Listing.{Has}
use Rattle.st_ids.specs.declared.names.CellId.{CellId}
use Rattle.st_ids.specs.declared.names.FieldId.{FieldId}
use Rattle.st_ids.specs.declared.names.NodeId.{NodeId}
use Rattle.st_marks.specs.declared.places.Spot.{Spot}
use Rattle.st_marks.specs.Listings.{one_or_none}

-- ## Booleans

pub not-true : (b : Bool) → not b ≡ true → b ≡ true → ⊥
not-true true e f = cc
not-true false e f = cc

pub not-false : (a : Bool) → (a ≡ true → ⊥) → not a ≡ true
not-false true h = absurd (h refl)
not-false false h = refl

-- ## Lists

pub one-is : {K : Type 0} (o : Option K) (c : K) → Has (one_or_none o) c → o ≡ Some c
one-is None c h = absurd h
one-is (Some d) c (inl e) = ap (λ y. Some y) e
one-is (Some d) c (inr h) = absurd h

pub is-one : {K : Type 0} (o : Option K) (c : K) → o ≡ Some c → Has (one_or_none o) c
is-one o c e = subst (λ o. Has (one_or_none o) c) (sym e) (inl refl)

-- ## Places

pub row-not-nowhere : (n : NodeId) (c : CellId) → Spot.Row n c ≡ Spot.Nowhere → ⊥
row-not-nowhere n c e = cc

pub register-not-nowhere : (f : FieldId) → Spot.Register f ≡ Spot.Nowhere → ⊥
register-not-nowhere f e = cc
