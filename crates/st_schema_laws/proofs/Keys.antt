-- The keys of a node's registers, in order, with one less or one more.
use Rattle.std.proofs.Common.{◌≡◌, Bool, true, false, cond, not, T, List, [], ◌∷◌, filter, Option, Some, None, refl, sym, ap, ◌∙◌, subst, ℕ}
use Rattle.std.specs.Ordering.{nat_cmp, match_ordering}
use Rattle.std.specs.declared.cmp.Ordering.{Ordering}
use Rattle.std.specs.declared.cmp.Ordering.TheVariants.{Less, Equal, Greater}
use Rattle.std.specs.Cmp.Lexicographic.{slice_cmp, nat_list_cmp_total}
use Rattle.std.specs.FinMap.Entries.{find, put, by_order, where_key, is_sorted, is_sorted-where_key, find-where_key, is_sorted-put, find-put}
use Rattle.std.proofs.lemmas.Map.Lookups.{exact_bytes}
use Rattle.st_ids.specs.Listing.{IsListing, key_pairs}
use Rattle.st_schema_laws.specs.Edited.{same_key}
use Rattle.st_lemmas.proofs.Bools.{T-true}

abbrev bytes_cmp : List ℕ → List ℕ → Ordering
bytes_cmp = slice_cmp nat_cmp

abbrev itself : List ℕ → List ℕ
itself k = k

-- ## One less

keyed_filter : (p : List ℕ → Bool) (ks : List (List ℕ)) → key_pairs itself (filter p ks) ≡ where_key bytes_cmp p (key_pairs itself ks)
keyed_filter p [] = refl
keyed_filter p (k ∷ ks) = go (p k) (keyed_filter p ks)
  where
    go : (b : Bool) → key_pairs itself (filter p ks) ≡ where_key bytes_cmp p (key_pairs itself ks)
        → key_pairs itself (cond b (k ∷ filter p ks) (filter p ks)) ≡ cond b ((k, k) ∷ where_key bytes_cmp p (key_pairs itself ks)) (where_key bytes_cmp p (key_pairs itself ks))
    go true e = ap (λ es. (k, k) ∷ es) e
    go false e = e

abbrev pub other_keys : List ℕ → List (List ℕ) → List (List ℕ)
other_keys key ks = filter (λ k. not (same_key key k)) ks

pub one_less : (key : List ℕ) (ks : List (List ℕ)) (look now : List ℕ → Option (List ℕ)) → ((k : List ℕ) → now k ≡ cond (not (same_key key k)) (look k) None)
    → IsListing bytes_cmp itself ks look → IsListing bytes_cmp itself (other_keys key ks) now
one_less key ks look now is l = record {
  rising = ap (is_sorted bytes_cmp) (keyed_filter p ks) ∙ T-true (is_sorted bytes_cmp (where_key bytes_cmp p (key_pairs itself ks))) (is_sorted-where_key bytes_cmp p (key_pairs itself ks) (subst T (sym l.rising) tt));
  at_each = λ k. ap (find bytes_cmp k) (keyed_filter p ks) ∙ find-where_key bytes_cmp p k (λ x e. ap p (sym (exact_bytes k x e))) (key_pairs itself ks)
      ∙ ap (λ o. cond (p k) o None) (l.at_each k) ∙ sym (is k);
}
  where
    p : List ℕ → Bool
    p k = not (same_key key k)

-- ## One more

abbrev pub with_one : List ℕ → List (List ℕ) → List (List ℕ)
with_one key [] = key ∷ []
with_one key (k ∷ ks) = match_ordering (slice_cmp nat_cmp key k) (key ∷ (k ∷ ks)) (k ∷ ks) (k ∷ with_one key ks)

keyed_put : (key : List ℕ) (ks : List (List ℕ)) → key_pairs itself (with_one key ks) ≡ put bytes_cmp key key (key_pairs itself ks)
keyed_put key [] = refl
keyed_put key (k ∷ ks) = go (bytes_cmp key k) refl (keyed_put key ks)
  where
    go : (o : Ordering) → bytes_cmp key k ≡ o → key_pairs itself (with_one key ks) ≡ put bytes_cmp key key (key_pairs itself ks)
        → key_pairs itself (match_ordering o (key ∷ (k ∷ ks)) (k ∷ ks) (k ∷ with_one key ks)) ≡ by_order o ((key, key) ∷ ((k, k) ∷ key_pairs itself ks)) ((k, key) ∷ key_pairs itself ks) ((k, k) ∷ put bytes_cmp key key (key_pairs itself ks))
    go Less e rest = refl
    go Equal e rest = ap (λ l. (k, l) ∷ key_pairs itself ks) (sym (exact_bytes key k e))
    go Greater e rest = ap (λ es. (k, k) ∷ es) rest

pub IsListing-with_one : (key : List ℕ) (ks : List (List ℕ)) (look now : List ℕ → Option (List ℕ)) → ((k : List ℕ) → now k ≡ cond (same_key k key) (Some key) (look k))
    → IsListing bytes_cmp itself ks look → IsListing bytes_cmp itself (with_one key ks) now
IsListing-with_one key ks look now is l = record {
  rising = ap (is_sorted bytes_cmp) (keyed_put key ks) ∙ T-true (is_sorted bytes_cmp (put bytes_cmp key key (key_pairs itself ks))) (is_sorted-put bytes_cmp nat_list_cmp_total key key (key_pairs itself ks) (subst T (sym l.rising) tt));
  at_each = λ k. ap (find bytes_cmp k) (keyed_put key ks) ∙ find-put bytes_cmp nat_list_cmp_total k key key (key_pairs itself ks)
      ∙ ap (λ o. cond (same_key k key) (Some key) o) (l.at_each k) ∙ sym (is k);
}
