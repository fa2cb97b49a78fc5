-- Changes that are kept by revision: one more, and one less.
use Rattle.std.proofs.Common.{◌≡◌, Bool, true, false, cond, Some, None, refl, sym, ◌∙◌, ap, ◌⊎◌, inl, inr}
use Rattle.std.specs.BTreeMap.{get}
use Rattle.std.specs.Ordering.{is_eq}
use Rattle.st_ids.specs.Order.{rev_cmp, same_rev}
use Rattle.st_ids.specs.declared.names.Rev.{Rev}
use Rattle.st_ids.proofs.Orders.{is_eq_equal, rev_cmp_exact, same_rev-itself}
use Rattle.st_entry_texts.specs.KnownChanges.{IsKept}
use Rattle.st_entry_texts.specs.declared.known.Known.{Known}
use Rattle.st_entry_texts.specs.declared.known.KnownChanges.{KnownChanges}

module _ (x y : KnownChanges) (rev : Rev) where
  -- of what is left after one was taken out, each was there
  pub left : ((q : Rev) → get rev_cmp y.map q ≡ cond (is_eq (rev_cmp rev q)) None (get rev_cmp x.map q)) → (r : Rev) (k : Known) → IsKept y r k → IsKept x r k
  left gone r k e = go (is_eq (rev_cmp rev r)) (sym (gone r) ∙ e)
    where
      go : (b : Bool) → cond b None (get rev_cmp x.map r) ≡ Some k → IsKept x r k
      go true e = cc
      go false e = e

  pub noted : (z : KnownChanges) (one : Known) → ((q : Rev) → get rev_cmp y.map q ≡ cond (is_eq (rev_cmp rev q)) (Some one) (get rev_cmp x.map q)) → ((r : Rev) (k : Known) → IsKept x r k → IsKept z r k) → (r : Rev) (k : Known) → IsKept y r k → IsKept z r k ⊎ ((r ≡ rev) × (k ≡ one))
  noted z one put room r k e = go (is_eq (rev_cmp rev r)) refl (sym (put r) ∙ e)
    where
      go : (b : Bool) → is_eq (rev_cmp rev r) ≡ b → cond b (Some one) (get rev_cmp x.map r) ≡ Some k → IsKept z r k ⊎ ((r ≡ rev) × (k ≡ one))
      go true is e = let same : one ≡ k = cc in inr (sym (rev_cmp_exact rev r (is_eq_equal (rev_cmp rev r) is)), sym same)
      go false is e = inl (room r k e)

  itself : is_eq (rev_cmp rev rev) ≡ true
  unfolding same_rev
  itself = same_rev-itself rev

  pub noted_there : (one : Known) → ((q : Rev) → get rev_cmp y.map q ≡ cond (is_eq (rev_cmp rev q)) (Some one) (get rev_cmp x.map q)) → IsKept y rev one
  noted_there one put = put rev ∙ ap (λ b. cond b (Some one) (get rev_cmp x.map rev)) itself
