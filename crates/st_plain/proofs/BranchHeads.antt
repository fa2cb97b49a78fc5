-- The heads that are kept of a client's branches, as branches come, change and go, and the head of each line.
use Rattle.std.proofs.Common.{List, Some, [], ap, arith, cond, false, filter, length, refl, subst, suc, sym, true, zero, ℕ, ◌++◌, ◌∙◌, ◌∷◌, ◌≡◌, ◌≢◌}
use Rattle.std.proofs.lemmas.Bool.Decides.{nat_tests}
use Rattle.std.specs.List.{AllByRecursion, remove, slice_get}
use Rattle.std.specs.Option.{option_and_then}
use Rattle.std.specs.Prelude.{not, ◌==◌}
use Rattle.st_doc.specs.Doc.{document_of}
use Rattle.st_heads.specs.declared.heads.Head.{Head}
use Rattle.st_ids.specs.Listing.{AreDistinct}
use Rattle.st_lists.specs.Lines.{HasHead, Line, line_of, main_line}
use Rattle.st_lists.specs.declared.lists.Branch.{Branch}
use Rattle.st_lists.specs.declared.lists.Client.{Client}
use Rattle.st_lists.specs.declared.lists.Entry.{Entry}
use Rattle.st_marks.specs.Document.{Document}
use Rattle.st_plain_branches.proofs.Branched.{found_at}
use Rattle.st_plain.proofs.LineActs.{branch_head}
use Rattle.st_world_laws.proofs.Lookup.{line_there}
use Rattle.st_plain.specs.Replicas.{AreHeads, IsHeadOf}
use Rattle.st_heads.specs.declared.replica.Replica.{Replica}
use Rattle.st_heads.specs.Replicas.{head_of}

-- ## Places

-- to be without the branch of a number is to be without the one at its place
pub without_at : (bs : List Branch) (j : ℕ) (b : Branch) → AreDistinct (λ (x : Branch). x.number) bs → slice_get bs j ≡ Some b → filter (λ (x : Branch). not (x.number == b.number)) bs ≡ remove bs j
without_at [] j b apart e = absurd (cc)
without_at (x ∷ xs) zero b apart e =
    let same : x ≡ b = cc in
    subst (λ (b : Branch). filter (λ (y : Branch). not (y.number == b.number)) (x ∷ xs) ≡ xs) same (ap (λ t. cond (not t) (x ∷ others_of xs) (others_of xs)) (itself x.number) ∙ all xs apart.0)
  where
    others_of : List Branch → List Branch
    others_of ys = filter (λ (y : Branch). not (y.number == x.number)) ys

    itself : (n : ℕ) → (n == n) ≡ true
    itself n = grind (arith, nat_tests)

    unlike : (n m : ℕ) → n ≢ m → (n == m) ≡ false
    unlike n m differ = grind (arith, nat_tests)

    all : (ys : List Branch) → AllByRecursion (λ (y : Branch). y.number ≢ x.number) ys → others_of ys ≡ ys
    all [] p = refl
    all (y ∷ ys) p = ap (λ t. cond (not t) (y ∷ others_of ys) (others_of ys)) (unlike y.number x.number p.0) ∙ ap (λ l. y ∷ l) (all ys p.1)
without_at (x ∷ xs) (suc j) b apart e =
    ap (λ t. cond (not t) (x ∷ rest) rest) (unlike x.number b.number (λ same. differ xs j e apart.0 (sym same))) ∙ ap (λ l. x ∷ l) (without_at xs j b apart.1 e)
  where
    rest : List Branch
    rest = filter (λ (y : Branch). not (y.number == b.number)) xs

    unlike : (n m : ℕ) → n ≢ m → (n == m) ≡ false
    unlike n m differ = grind (arith, nat_tests)

    differ : (ys : List Branch) (i : ℕ) → slice_get ys i ≡ Some b → AllByRecursion (λ (y : Branch). y.number ≢ x.number) ys → b.number ≢ x.number
    differ [] i e p = absurd (cc)
    differ (y ∷ ys) zero e p = let same : y ≡ b = cc in subst (λ (z : Branch). z.number ≢ x.number) same p.0
    differ (y ∷ ys) (suc i) e p = differ ys i e p.1

-- ## Heads

module _ (O : Document) (log : List Entry) where
  pub heads_many : (bs : List Branch) (ks : List Head) → AreHeads O log bs ks → length ks ≡ length bs
  heads_many [] [] w = refl
  heads_many [] (k ∷ ks) w = absurd w
  heads_many (b ∷ bs) [] w = absurd w
  heads_many (b ∷ bs) (k ∷ ks) w = ap suc (heads_many bs ks w.1)

  -- the head of the branch at a place
  pub head_at : (bs : List Branch) (ks : List Head) (j : ℕ) (b : Branch) → AreHeads O log bs ks → slice_get bs j ≡ Some b → (k : Head) × (slice_get ks j ≡ Some k) × IsHeadOf O log b k
  head_at [] ks j b w e = absurd (cc)
  head_at (x ∷ xs) [] j b w e = absurd w
  head_at (x ∷ xs) (k ∷ ks) zero b w e = let same : x ≡ b = cc in (k, refl, subst (λ (y : Branch). IsHeadOf O log y k) same w.0)
  head_at (x ∷ xs) (k ∷ ks) (suc j) b w e = head_at xs ks j b w.1 e

  -- one comes behind the others
  pub heads_more : (bs : List Branch) (ks : List Head) (b : Branch) (k : Head) → AreHeads O log bs ks → IsHeadOf O log b k → AreHeads O log (bs ++ b ∷ []) (ks ++ k ∷ [])
  heads_more [] [] b k w h = (h, tt)
  heads_more [] (y ∷ ks) b k w h = absurd w
  heads_more (x ∷ bs) [] b k w h = absurd w
  heads_more (x ∷ bs) (y ∷ ks) b k w h = (w.0, heads_more bs ks b k w.1 h)

  -- one goes
  pub heads_without : (bs : List Branch) (ks : List Head) (j : ℕ) → AreHeads O log bs ks → AreHeads O log (remove bs j) (remove ks j)
  heads_without [] [] zero w = tt
  heads_without [] [] (suc j) w = tt
  heads_without [] (k ∷ ks) j w = absurd w
  heads_without (b ∷ bs) [] j w = absurd w
  heads_without (b ∷ bs) (k ∷ ks) zero w = w.1
  heads_without (b ∷ bs) (k ∷ ks) (suc j) w = (w.0, heads_without bs ks j w.1)

  -- each line has a head, and that is the document of its commits
  pub line_head : (c : Client) (k : Replica) (n : ℕ) (l : Line) → HasHead O log (main_line c) (document_of k.main.doc) → AreHeads O log c.branches k.branches → line_of c n ≡ Some l
      → (p : Head) × (head_of c k n ≡ Some p) × HasHead O log l (document_of p.doc)
  line_head c k zero l main heads at = let same : main_line c ≡ l = cc in (k.main, refl, subst (λ m. HasHead O log m (document_of k.main.doc)) same main)
  line_head c k (suc n) l main heads at =
      let b = line_there c n l at in
      let r = found_at (suc n) c.branches b.0 b.1 in
      let p = head_at c.branches k.branches r.0 b.0 heads r.2 in
      (p.0, ap (option_and_then (λ i. slice_get k.branches i)) r.1 ∙ p.1, subst (λ m. HasHead O log m (document_of p.0.doc)) b.2 (branch_head O log b.0 p.0 p.2))
