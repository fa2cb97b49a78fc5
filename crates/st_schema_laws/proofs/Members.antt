-- The members of a node with one less or one more.
use Rattle.std.proofs.Common.{◌≡◌, ℕ, Bool, true, false, cond, not, List, [], ◌∷◌, Some, None, refl, sym, ap, ◌∙◌, subst, inl, inr}
use Rattle.std.specs.Ordering.{nat_cmp, is_lt, match_ordering}
use Rattle.std.specs.declared.cmp.Ordering.{Ordering}
use Rattle.std.specs.declared.cmp.Ordering.TheVariants.{Less, Equal, Greater}
use Rattle.std.specs.Cmp.Lexicographic.{slice_cmp, nat_list_cmp_total}
use Rattle.std.specs.FinMap.Entries.{below_all, is_sorted}
use Rattle.std.proofs.lemmas.Cmp.{tied_itself}
use Rattle.std.proofs.lemmas.Map.Lookups.{exact_bytes}
use Rattle.serde_json.specs.Data.{Data, Members, no_members, member, put as put_member}
use Rattle.st_ids.specs.Listing.{Has, key_pairs}
use Rattle.st_ids.specs.declared.names.NodeId.{NodeId}
use Rattle.st_marks.specs.Document.{Document}
use Rattle.st_marks.specs.LiveTree.{Shows, ShowsMembers, no_more_members, next_member, register}
use Rattle.st_schema_laws.specs.Edited.{same_key, other_members}
use Rattle.st_schema_laws.proofs.Along.{same_key-true, same_key-itself}
use Rattle.st_schema_laws.proofs.Keys.{other_keys, with_one}
use Rattle.st_lemmas.proofs.Orders.{is_lt-Less}
use Rattle.st_lemmas.proofs.Bools.{and-true}

-- ## Members without those of a key

module _ (is_array : List ℕ → Bool) (D E : Document) (key : List ℕ) where
  pub members_without : {n : NodeId} {ks : List (List ℕ)} {ms : Members} → ShowsMembers is_array D n ks ms → ((k : List ℕ) → E.held (register n k) ≡ cond (same_key key k) None (D.held (register n k)))
      → ((k : List ℕ) (x : NodeId) → D.held (register n k) ≡ Some x → (d : Data) → Shows is_array D x d → Shows is_array E x d) → ShowsMembers is_array E n (other_keys key ks) (other_members key ms)
  members_without (no_more_members n) held kept = no_more_members n
  members_without (next_member n m k d ks ms p a s) held kept = go (same_key key k) refl (members_without s held kept)
    where
      go : (b : Bool) → same_key key k ≡ b → ShowsMembers is_array E n (other_keys key ks) (other_members key ms)
          → ShowsMembers is_array E n (cond (not b) (k ∷ other_keys key ks) (other_keys key ks)) (cond b (other_members key ms) (member k d (other_members key ms)))
      go true e rest = rest
      go false e rest = next_member n m k d (other_keys key ks) (other_members key ms) (held k ∙ ap (λ b. cond b None (D.held (register n k))) e ∙ p) (kept k m p d a) rest

-- ## Members with one more

abbrev bytes_cmp : List ℕ → List ℕ → Ordering
bytes_cmp = slice_cmp nat_cmp

abbrev itself : List ℕ → List ℕ
itself k = k

-- keys that differ
apart_less : (key k : List ℕ) → bytes_cmp key k ≡ Less → same_key k key ≡ false
apart_less key k less = go (same_key k key) refl
  where
    go : (b : Bool) → same_key k key ≡ b → same_key k key ≡ false
    go false e = e
    go true e = let bad : Less ≡ Equal = sym less ∙ ap (bytes_cmp key) (same_key-true k key e) ∙ tied_itself nat_list_cmp_total key in cc

apart_greater : (key k : List ℕ) → bytes_cmp key k ≡ Greater → same_key k key ≡ false
apart_greater key k more = go (same_key k key) refl
  where
    go : (b : Bool) → same_key k key ≡ b → same_key k key ≡ false
    go false e = e
    go true e = let bad : Greater ≡ Equal = sym more ∙ ap (bytes_cmp key) (same_key-true k key e) ∙ tied_itself nat_list_cmp_total key in cc

-- each key is above one
abbrev AllAbove : List ℕ → List (List ℕ) → Type 0
AllAbove key ks = (k : List ℕ) → Has ks k → bytes_cmp key k ≡ Less

above_all : (key : List ℕ) (ks : List (List ℕ)) → below_all bytes_cmp key (key_pairs itself ks) ≡ true → AllAbove key ks
above_all key [] e k h = absurd h
above_all key (l ∷ ks) e k (inl q) = subst (λ k. bytes_cmp key k ≡ Less) q (is_lt-Less (bytes_cmp key l) (and-true _ _ e).0)
above_all key (l ∷ ks) e k (inr h) = above_all key ks (and-true (is_lt (bytes_cmp key l)) _ e).1 k h

module _ (is_array : List ℕ → Bool) (D E : Document) (key : List ℕ) (top : NodeId) (new : Data) (shown : Shows is_array E top new) where
  abbrev Held : NodeId → Type 0
  Held n = (k : List ℕ) → E.held (register n k) ≡ cond (same_key k key) (Some top) (D.held (register n k))

  abbrev KeptAll : NodeId → Type 0
  KeptAll n = (k : List ℕ) (x : NodeId) → D.held (register n k) ≡ Some x → (d : Data) → Shows is_array D x d → Shows is_array E x d

  -- behind the key nothing changes
  members_behind : {n : NodeId} {ks : List (List ℕ)} {ms : Members} → ShowsMembers is_array D n ks ms → Held n → KeptAll n → AllAbove key ks → ShowsMembers is_array E n ks ms
  members_behind (no_more_members n) held kept above = no_more_members n
  members_behind (next_member n m k d ks ms p a s) held kept above =
      next_member n m k d ks ms (held k ∙ ap (λ b. cond b (Some top) (D.held (register n k))) (apart_less key k (above k (inl refl))) ∙ p) (kept k m p d a) (members_behind s held kept (λ l h. above l (inr h)))

  pub members_with : {n : NodeId} {ks : List (List ℕ)} {ms : Members} → ShowsMembers is_array D n ks ms → is_sorted bytes_cmp (key_pairs itself ks) ≡ true → Held n → KeptAll n
      → ShowsMembers is_array E n (with_one key ks) (put_member key new ms)
  members_with (no_more_members n) rising held kept = next_member n top key new [] no_members (held key ∙ ap (λ b. cond b (Some top) (D.held (register n key))) (same_key-itself key)) shown (no_more_members n)
  members_with (next_member n m k d ks ms p a s) rising held kept = go (bytes_cmp key k) refl (members_with s parts.1 held kept)
    where
      parts : (below_all bytes_cmp k (key_pairs itself ks) ≡ true) × (is_sorted bytes_cmp (key_pairs itself ks) ≡ true)
      parts = and-true (below_all bytes_cmp k (key_pairs itself ks)) _ rising

      top_held : E.held (register n key) ≡ Some top
      top_held = held key ∙ ap (λ b. cond b (Some top) (D.held (register n key))) (same_key-itself key)

      go : (o : Ordering) → bytes_cmp key k ≡ o → ShowsMembers is_array E n (with_one key ks) (put_member key new ms)
          → ShowsMembers is_array E n (match_ordering o (key ∷ (k ∷ ks)) (k ∷ ks) (k ∷ with_one key ks)) (match_ordering o (member key new (member k d ms)) (member k new ms) (member k d (put_member key new ms)))
      go Less e rest =
          next_member n top key new (k ∷ ks) (member k d ms) top_held shown
          (next_member n m k d ks ms (held k ∙ ap (λ b. cond b (Some top) (D.held (register n k))) (apart_less key k e) ∙ p) (kept k m p d a)
          (members_behind s held kept (λ l h. nat_list_cmp_total.trans key k l e (above_all k ks parts.0 l h))))
      go Equal e rest =
          let same = exact_bytes key k e in
          next_member n top k new ks ms (ap (λ l. E.held (register n l)) (sym same) ∙ top_held) shown
          (members_behind s held kept (λ l h. ap (λ x. bytes_cmp x l) same ∙ above_all k ks parts.0 l h))
      go Greater e rest =
          next_member n m k d (with_one key ks) (put_member key new ms) (held k ∙ ap (λ b. cond b (Some top) (D.held (register n k))) (apart_greater key k e) ∙ p) (kept k m p d a) rest
