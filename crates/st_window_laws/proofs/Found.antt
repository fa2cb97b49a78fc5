-- The commit of a revision is found exactly where one is kept.
use Rattle.std.proofs.Common.{◌≡◌, ◌≢◌, Bool, true, false, cond, List, [], ◌∷◌, Option, Some, None, refl, sym, ap, ◌∙◌, inl, inr, ◌↔◌}
use Rattle.st_ids.specs.declared.names.Rev.{Rev}
use Rattle.st_ids.specs.Listing.{Has}
use Rattle.st_ids.specs.Order.{same_rev}
use Rattle.st_ids.proofs.Orders.{same_rev-true, same_rev-itself}
use Rattle.st_window.specs.declared.kept.Kept.{Kept}
use Rattle.st_window.specs.Window.{kept_with}

pub found : (rev : Rev) (ks : List Kept) (k : Kept) → kept_with rev ks ≡ Some k → Has ks k × (k.change.rev ≡ rev)
found rev [] k e = absurd (let bad : ◌≡◌ {A = Option Kept} None (Some k) = e in cc)
found rev (x ∷ xs) k e = go (same_rev x.change.rev rev) refl (found rev xs k) e
  where
    go : (b : Bool) → same_rev x.change.rev rev ≡ b → (kept_with rev xs ≡ Some k → Has xs k × (k.change.rev ≡ rev))
        → cond b (Some x) (kept_with rev xs) ≡ Some k → Has (x ∷ xs) k × (k.change.rev ≡ rev)
    go true is rest here =
        let same : x ≡ k = cc in
        (inl same, sym (ap (λ (y : Kept). y.change.rev) same) ∙ same_rev-true x.change.rev rev is)
    go false is rest here = let r = rest here in (inr r.0, r.1)

none_kept : (rev : Rev) (ks : List Kept) → kept_with rev ks ≡ None → (k : Kept) → Has ks k → k.change.rev ≢ rev
none_kept rev [] e k h q = h
none_kept rev (x ∷ xs) e k h q = go (same_rev x.change.rev rev) refl (none_kept rev xs) e h
  where
    go : (b : Bool) → same_rev x.change.rev rev ≡ b → (kept_with rev xs ≡ None → (y : Kept) → Has xs y → y.change.rev ≢ rev)
        → cond b (Some x) (kept_with rev xs) ≡ None → Has (x ∷ xs) k → ⊥
    go true is rest here i = let bad : ◌≡◌ {A = Option Kept} (Some x) None = here in cc
    go false is rest here (inr i) = rest here k i q
    go false is rest here (inl same) =
        let yes : same_rev x.change.rev rev ≡ true = ap (λ (r : Rev). same_rev r rev) (ap (λ (y : Kept). y.change.rev) same ∙ q) ∙ same_rev-itself rev in
        cc (yes, is)

not_kept : (rev : Rev) (ks : List Kept) → ((k : Kept) → Has ks k → k.change.rev ≢ rev) → kept_with rev ks ≡ None
not_kept rev [] none = refl
not_kept rev (x ∷ xs) none = go (same_rev x.change.rev rev) refl (not_kept rev xs (λ k h. none k (inr h)))
  where
    go : (b : Bool) → same_rev x.change.rev rev ≡ b → kept_with rev xs ≡ None → cond b (Some x) (kept_with rev xs) ≡ None
    go true is rest = absurd (none x (inl refl) (same_rev-true x.change.rev rev is))
    go false is rest = rest

pub found_unless : (rev : Rev) (ks : List Kept) → (kept_with rev ks ≡ None) ↔ ((k : Kept) → Has ks k → k.change.rev ≢ rev)
found_unless rev ks = (none_kept rev ks, not_kept rev ks)
