-- A client's branches by their numbers and by their places, and the heads that are kept of them.
use Rattle.std.proofs.Common.{Bool, List, None, Option, Some, [], ap, append_assoc, arith, cond, drop, false, get_or, inl, inr, length, nat_lt, refl, subst, suc, sym, true, zero, ℕ, ◌++◌, ◌+◌, ◌<◌, ◌∙◌, ◌∷◌, ◌≡◌, ◌≢◌, ◌≤◌, ◌⊎◌}
use Rattle.std.proofs.lemmas.Bool.Decides.{nat_tests}
use Rattle.std.proofs.lemmas.List.{append-nil, drop_all}
use Rattle.std.proofs.lemmas.Option.{slice_get-get_or}
use Rattle.std.specs.List.{AllByRecursion, find, position, position_or_len, slice_get, slice_set}
use Rattle.std.specs.Option.{option_and_then, option_map_or}
use Rattle.std.specs.Prelude.{if◌then◌else◌, not, option_map, ◌==◌}
use Rattle.st_heads.specs.declared.ways.Carried.{Carried}
use Rattle.st_ids.specs.Listing.{AreDistinct, Has}
use Rattle.st_ids.specs.declared.names.Rev.{Rev}
use Rattle.st_lemmas.proofs.Lists.{drop-slice_get}
use Rattle.st_lists.specs.Lines.{Line, branch_line, branch_of, line_of, on_branch}
use Rattle.st_lists.specs.Clients.{joined_of}
use Rattle.st_lists.specs.Names.{names_in, names_made, names_on, names_on_all, unsequenced}
use Rattle.st_lists.specs.declared.lists.Branch.{Branch}
use Rattle.st_lists.specs.declared.lists.Client.{Client}
use Rattle.st_marks.specs.declared.intents.Intent.{Intent}
use Rattle.st_heads.specs.declared.replica.Replica.{Replica}
use Rattle.st_heads.specs.Replicas.{head_of}
use Rattle.st_lists.specs.Lines.{branch_place}
use Rattle.st_plain_branches.specs.Branches.{void_among}

-- ## Places

pub number_is : (n k : ℕ) → (n == k) ≡ true → n ≡ k
number_is n k e = grind (arith, nat_tests)

-- the first place at which a test passes, where one more element comes in front
pub position_step : {X : Type 0} (p : X → Bool) (x : X) (xs : List X) → position p (x ∷ xs) ≡ cond (p x) (Some 0) (option_map suc (position p xs))
position_step p x xs = step (p x) (position_or_len p xs) (length xs)
  where
    low : (m : ℕ) → nat_lt 0 (suc m) ≡ true
    low m = grind (arith, nat_tests)

    yes : (n m : ℕ) → nat_lt n m ≡ true → nat_lt (1 + n) (suc m) ≡ true
    yes n m q = grind (arith, nat_tests)

    not_so : (n m : ℕ) → nat_lt n m ≡ false → nat_lt (1 + n) (suc m) ≡ false
    not_so n m q = grind (arith, nat_tests)

    one_more : (n : ℕ) → 1 + n ≡ suc n
    one_more n = omega arith

    further : (n m : ℕ) (u : Bool) → nat_lt n m ≡ u → ◌≡◌ {A = Option ℕ} (cond (nat_lt (1 + n) (suc m)) (Some (1 + n)) None) (option_map suc (cond u (Some n) None))
    further n m true q = ap (λ t. cond t (Some (1 + n)) None) (yes n m q) ∙ ap (λ i. Some i) (one_more n)
    further n m false q = ap (λ t. cond t (Some (1 + n)) None) (not_so n m q)

    step : (t : Bool) (n m : ℕ) → ◌≡◌ {A = Option ℕ} (cond (nat_lt (cond (not t) (1 + n) 0) (suc m)) (Some (cond (not t) (1 + n) 0)) None) (cond t (Some 0) (option_map suc (cond (nat_lt n m) (Some n) None)))
    step true n m = ap (λ t. cond t (Some 0) None) (low m)
    step false n m = further n m (nat_lt n m) refl

-- the branch of a number is at its place
pub found_at : (k : ℕ) (bs : List Branch) (b : Branch) → find (λ (x : Branch). x.number == k) bs ≡ Some b → (j : ℕ) × (branch_place k bs ≡ Some j) × (slice_get bs j ≡ Some b) × (b.number ≡ k)
found_at k [] b e = cc
found_at k (x ∷ xs) b e = go (x.number == k) refl (λ e. found_at k xs b e) e
  where
    go : (y : Bool) → (x.number == k) ≡ y → (find (λ (x : Branch). x.number == k) xs ≡ Some b → (j : ℕ) × (branch_place k xs ≡ Some j) × (slice_get xs j ≡ Some b) × (b.number ≡ k)) → cond y (Some x) (find (λ (x : Branch). x.number == k) xs) ≡ Some b
        → (j : ℕ) × (position (λ (x : Branch). x.number == k) (x ∷ xs) ≡ Some j) × (slice_get (x ∷ xs) j ≡ Some b) × (b.number ≡ k)
    go true t rest e =
        let same : x ≡ b = cc in
        (0, position_step (λ (z : Branch). z.number == k) x xs ∙ ap (λ y. cond y (Some 0) (option_map suc (branch_place k xs))) t, e, ap (λ (z : Branch). z.number) (sym same) ∙ number_is x.number k t)
    go false t rest e =
        let r = rest e in
        (suc r.0, position_step (λ (z : Branch). z.number == k) x xs ∙ ap (λ y. cond y (Some 0) (option_map suc (branch_place k xs))) t ∙ ap (option_map suc) r.1, r.2, r.3)

-- the branch of a number, by its place
pub found_by : (k : ℕ) (bs : List Branch) (j : ℕ) → branch_place k bs ≡ Some j → (b : Branch) × (find (λ (x : Branch). x.number == k) bs ≡ Some b) × (slice_get bs j ≡ Some b) × (b.number ≡ k)
found_by k [] j e = cc
found_by k (x ∷ xs) j e = go (x.number == k) refl (position (λ (x : Branch). x.number == k) xs) refl (λ i is. found_by k xs i is) (sym (position_step (λ (z : Branch). z.number == k) x xs) ∙ e)
  where
    go : (y : Bool) → (x.number == k) ≡ y → (o : Option ℕ) → position (λ (x : Branch). x.number == k) xs ≡ o
        → ((i : ℕ) → branch_place k xs ≡ Some i → (b : Branch) × (find (λ (x : Branch). x.number == k) xs ≡ Some b) × (slice_get xs i ≡ Some b) × (b.number ≡ k)) → cond y (Some 0) (option_map suc o) ≡ Some j
        → (b : Branch) × (find (λ (x : Branch). x.number == k) (x ∷ xs) ≡ Some b) × (slice_get (x ∷ xs) j ≡ Some b) × (b.number ≡ k)
    go true t o is rest e = let first : 0 ≡ j = cc in (x, rw t refl, subst (λ i. slice_get (x ∷ xs) i ≡ Some x) first refl, number_is x.number k t)
    go false t None is rest e = absurd (cc)
    go false t (Some i) is rest e =
        let next : suc i ≡ j = cc in
        let r = rest i is in
        (r.0, rw (t, r.1) refl, subst (λ i. slice_get (x ∷ xs) i ≡ Some r.0) next r.2, r.3)

-- what is at a place is there where the place is
pub there : {X : Type 0} (xs : List X) (j : ℕ) → j < length xs → (x : X) × (slice_get xs j ≡ Some x)
there [] j low = absurd (omega (arith, low))
there (x ∷ xs) zero low = (x, refl)
there (x ∷ xs) (suc j) low = there xs j (omega (arith, low))

pub has_at : {X : Type 0} (xs : List X) (j : ℕ) (x : X) → slice_get xs j ≡ Some x → Has xs x
has_at [] j x e = absurd (cc)
has_at (y ∷ ys) zero x e = let same : y ≡ x = cc in inl same
has_at (y ∷ ys) (suc j) x e = inr (has_at ys j x e)

-- a change of the branch of a number is one at its place
pub changed_at : (f : Branch → Branch) (bs : List Branch) (j : ℕ) (b : Branch) → AreDistinct (λ (x : Branch). x.number) bs → slice_get bs j ≡ Some b → on_branch b.number f bs ≡ slice_set bs j (f b)
changed_at f [] j b apart e = cc
changed_at f (x ∷ xs) zero b apart e =
    let same : x ≡ b = cc in
    subst (λ (b : Branch). on_branch b.number f (x ∷ xs) ≡ f b ∷ xs) same (rw (itself x.number) (ap (λ l. f x ∷ l) (others xs apart.0)))
  where
    itself : (n : ℕ) → (n == n) ≡ true
    itself n = grind (arith, nat_tests)

    others : (ys : List Branch) → AllByRecursion (λ (y : Branch). y.number ≢ x.number) ys → on_branch x.number f ys ≡ ys
    others [] all = refl
    others (y ∷ ys) all = let no : (y.number == x.number) ≡ false = unlike y.number x.number all.0 in rw no (ap (λ l. y ∷ l) (others ys all.1))
      where
        unlike : (n m : ℕ) → n ≢ m → (n == m) ≡ false
        unlike n m differ = grind (arith, nat_tests)
changed_at f (x ∷ xs) (suc j) b apart e =
    let no : (x.number == b.number) ≡ false = unlike x.number b.number (λ same. differ xs j e apart.0 (sym same)) in
    rw no (ap (λ l. x ∷ l) (changed_at f xs j b apart.1 e))
  where
    unlike : (n m : ℕ) → n ≢ m → (n == m) ≡ false
    unlike n m differ = grind (arith, nat_tests)

    differ : (ys : List Branch) (i : ℕ) → slice_get ys i ≡ Some b → AllByRecursion (λ (y : Branch). y.number ≢ x.number) ys → b.number ≢ x.number
    differ [] i e all = absurd (cc)
    differ (y ∷ ys) zero e all = let same : y ≡ b = cc in subst (λ (z : Branch). z.number ≢ x.number) same all.0
    differ (y ∷ ys) (suc i) e all = differ ys i e all.1

-- ## Heads

-- a head is kept of each line
pub head_there : (c : Client) (k : Replica) (n : ℕ) (l : Line) → length k.branches ≡ length c.branches → line_of c n ≡ Some l → head_of c k n ≢ None
head_there c k zero l many is none = absurd (cc)
head_there c k (suc n) l many is none = go (branch_of c (suc n)) refl is
  where
    go : (o : Option Branch) → branch_of c (suc n) ≡ o → option_map branch_line o ≡ Some l → ⊥
    go None e is = absurd (cc)
    go (Some b) e is =
        let r = found_at (suc n) c.branches b e in
        let h = there k.branches r.0 (omega (arith, many, within c.branches r.0 b r.2)) in
        let some : head_of c k (suc n) ≡ Some h.0 = ap (λ (o : Option ℕ). option_and_then (λ i. slice_get k.branches i) o) r.1 ∙ h.1 in
        absurd (cc)
      where
        within : (bs : List Branch) (j : ℕ) (b : Branch) → slice_get bs j ≡ Some b → j < length bs
        within [] j b e = absurd (cc)
        within (x ∷ xs) zero b e = omega arith
        within (x ∷ xs) (suc j) b e = omega (arith, within xs j b e)

-- ## Void commits

pub void_next : (own : List Intent) (carried : List Carried) (i : ℕ) (N : Intent) (k : Carried) → slice_get own i ≡ Some N → slice_get carried i ≡ Some k
    → void_among (drop i own) (drop i carried) ≡ (if k.void then N.rev ∷ void_among (drop (i + 1) own) (drop (i + 1) carried) else void_among (drop (i + 1) own) (drop (i + 1) carried))
void_next own carried i N k at_own at_carried =
    rw (drop-slice_get own i N at_own, drop-slice_get carried i k at_carried) refl

pub void_end : (own : List Intent) (carried : List Carried) (i : ℕ) → length own ≤ i ⊎ length carried ≤ i → void_among (drop i own) (drop i carried) ≡ []
void_end own carried i (inl past) = rw (drop_all i own past) refl
void_end own carried i (inr past) = rw (drop_all i carried past) (none (drop i own))
  where
    none : (Ns : List Intent) → void_among Ns [] ≡ []
    none [] = refl
    none (N ∷ Ns) = refl

-- so far, and one more that is void or is not
pub void_more : (own : List Intent) (carried : List Carried) (i : ℕ) (revs more : List Rev) (N : Intent) (k : Carried) → i < length own → i < length carried → get_or own i N ≡ N → get_or carried i k ≡ k → k.void ≡ true
    → void_among own carried ≡ revs ++ void_among (drop i own) (drop i carried) → more ≡ revs ++ N.rev ∷ [] → void_among own carried ≡ more ++ void_among (drop (i + 1) own) (drop (i + 1) carried)
void_more own carried i revs more N k low low_k at at_k void so_far is =
    so_far ∙ ap (λ l. revs ++ l) next ∙ sym (append_assoc revs (N.rev ∷ []) rest) ∙ ap (λ l. l ++ rest) (sym is)
  where
    rest : List Rev
    rest = void_among (drop (i + 1) own) (drop (i + 1) carried)

    next : void_among (drop i own) (drop i carried) ≡ N.rev ∷ rest
    next = void_next own carried i N k (slice_get-get_or own i N low ∙ ap (λ (x : Intent). Some x) at) (slice_get-get_or carried i k low_k ∙ ap (λ (x : Carried). Some x) at_k) ∙ ap (λ t. cond t (N.rev ∷ rest) rest) void

pub void_same : (own : List Intent) (carried : List Carried) (i : ℕ) (revs more : List Rev) (k : Carried) → i < length own → i < length carried → get_or carried i k ≡ k → k.void ≡ false
    → void_among own carried ≡ revs ++ void_among (drop i own) (drop i carried) → more ≡ revs → void_among own carried ≡ more ++ void_among (drop (i + 1) own) (drop (i + 1) carried)
void_same own carried i revs more k low low_k at_k void so_far is =
    so_far ∙ ap (λ l. revs ++ l) next ∙ ap (λ l. l ++ rest) (sym is)
  where
    rest : List Rev
    rest = void_among (drop (i + 1) own) (drop (i + 1) carried)

    next : void_among (drop i own) (drop i carried) ≡ rest
    next =
        let N = there own i low in
        void_next own carried i N.0 k N.1 (slice_get-get_or carried i k low_k ∙ ap (λ (x : Carried). Some x) at_k) ∙ ap (λ t. cond t (N.0.rev ∷ rest) rest) void

pub void_all : (own : List Intent) (carried : List Carried) (i : ℕ) (revs : List Rev) → void_among own carried ≡ revs ++ void_among (drop i own) (drop i carried) → length own ≤ i ⊎ length carried ≤ i → revs ≡ void_among own carried
void_all own carried i revs so_far past = sym (so_far ∙ ap (λ l. revs ++ l) (void_end own carried i past) ∙ append-nil revs)

-- ## Names

-- those that wait on one branch are among those on all
pub few_on : (bs : List Branch) (j : ℕ) (b : Branch) → slice_get bs j ≡ Some b → names_on b ≤ names_on_all bs
few_on [] j b e = absurd (cc)
few_on (x ∷ bs) zero b e = let same : x ≡ b = cc in less (names_on x) (names_on b) (names_on_all bs) (ap (λ (z : Branch). names_on z) same)
  where
    less : (m n p : ℕ) → m ≡ n → n ≤ m + p
    less m n p e = omega (arith, e)
few_on (x ∷ bs) (suc j) b e = more (names_on b) (names_on_all bs) (names_on x) (few_on bs j b e)
  where
    more : (m n p : ℕ) → m ≤ n → m ≤ p + n
    more m n p e = omega (arith, e)

pub few_among : (c : Client) (j : ℕ) (b : Branch) → slice_get c.branches j ≡ Some b → names_on b ≤ unsequenced c
few_among c j b e = more (names_on b) (names_on_all c.branches) (option_map_or names_made (joined_of c) 0 + names_in c.pending) (few_on c.branches j b e)
  where
    more : (m n p : ℕ) → m ≤ n → m ≤ p + n
    more m n p e = omega (arith, e)
