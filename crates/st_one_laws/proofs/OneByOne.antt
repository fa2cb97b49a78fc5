-- Lists that are related one by one.
use Rattle.std.proofs.Common.{◌≡◌, ℕ, zero, suc, Bool, true, false, List, [], ◌∷◌, ◌++◌, length, Option, Some, None, refl, ap, ◌∙◌, take, drop, map, fold, cond, ◌||◌}
use Rattle.std.specs.List.{filter, filter_map, find, list_any, slice_get, slice_set, remove, cons_option}
use Rattle.std.specs.Prelude.{option_map}
use Rattle.st_one_laws.specs.AlikeWorlds.{OneByOne, InBoth}

module _ {A : Type 0} (R : A → A → Type 0) where
  pub each_itself : ((x : A) → R x x) → (xs : List A) → OneByOne R xs xs
  each_itself r [] = tt
  each_itself r (x ∷ xs) = (r x, each_itself r xs)

  pub option_itself : ((x : A) → R x x) → (o : Option A) → InBoth R o o
  option_itself r None = tt
  option_itself r (Some x) = r x

  pub as_long : (xs ys : List A) → OneByOne R xs ys → length xs ≡ length ys
  as_long [] [] o = refl
  as_long [] (y ∷ ys) o = absurd o
  as_long (x ∷ xs) [] o = absurd o
  as_long (x ∷ xs) (y ∷ ys) o = ap suc (as_long xs ys o.1)

  pub behind : (xs ys zs us : List A) → OneByOne R xs ys → OneByOne R zs us → OneByOne R (xs ++ zs) (ys ++ us)
  behind [] [] zs us o p = p
  behind [] (y ∷ ys) zs us o p = absurd o
  behind (x ∷ xs) [] zs us o p = absurd o
  behind (x ∷ xs) (y ∷ ys) zs us o p = (o.0, behind xs ys zs us o.1 p)

  pub taken : (n : ℕ) (xs ys : List A) → OneByOne R xs ys → OneByOne R (take n xs) (take n ys)
  taken zero xs ys o = tt
  taken (suc n) [] [] o = tt
  taken (suc n) [] (y ∷ ys) o = absurd o
  taken (suc n) (x ∷ xs) [] o = absurd o
  taken (suc n) (x ∷ xs) (y ∷ ys) o = (o.0, taken n xs ys o.1)

  pub dropped : (n : ℕ) (xs ys : List A) → OneByOne R xs ys → OneByOne R (drop n xs) (drop n ys)
  dropped zero xs ys o = o
  dropped (suc n) [] [] o = tt
  dropped (suc n) [] (y ∷ ys) o = absurd o
  dropped (suc n) (x ∷ xs) [] o = absurd o
  dropped (suc n) (x ∷ xs) (y ∷ ys) o = dropped n xs ys o.1

  pub got : (xs ys : List A) (i : ℕ) → OneByOne R xs ys → InBoth R (slice_get xs i) (slice_get ys i)
  got [] [] i o = tt
  got [] (y ∷ ys) i o = absurd o
  got (x ∷ xs) [] i o = absurd o
  got (x ∷ xs) (y ∷ ys) zero o = o.0
  got (x ∷ xs) (y ∷ ys) (suc i) o = got xs ys i o.1

  pub set_both : (xs ys : List A) (i : ℕ) (x y : A) → OneByOne R xs ys → R x y → OneByOne R (slice_set xs i x) (slice_set ys i y)
  set_both [] [] i a b o r = tt
  set_both [] (y ∷ ys) i a b o r = absurd o
  set_both (x ∷ xs) [] i a b o r = absurd o
  set_both (x ∷ xs) (y ∷ ys) zero a b o r = (r, o.1)
  set_both (x ∷ xs) (y ∷ ys) (suc i) a b o r = (o.0, set_both xs ys i a b o.1 r)

  pub removed : (xs ys : List A) (i : ℕ) → OneByOne R xs ys → OneByOne R (remove xs i) (remove ys i)
  removed xs ys i o = behind (take i xs) (take i ys) (drop (suc i) xs) (drop (suc i) ys) (taken i xs ys o) (dropped (suc i) xs ys o)

  pub folded : {B : Type 0} (f g : B → A → B) → ((b : B) (x y : A) → R x y → f b x ≡ g b y) → (b : B) (xs ys : List A) → OneByOne R xs ys → fold f b xs ≡ fold g b ys
  folded f g e b [] [] o = refl
  folded f g e b [] (y ∷ ys) o = absurd o
  folded f g e b (x ∷ xs) [] o = absurd o
  folded f g e b (x ∷ xs) (y ∷ ys) o = folded f g e (f b x) xs ys o.1 ∙ ap (λ z. fold g z ys) (e b x y o.0)

  pub mapped : {B : Type 0} (S : B → B → Type 0) (f g : A → B) → ((x y : A) → R x y → S (f x) (g y)) → (xs ys : List A) → OneByOne R xs ys → OneByOne S (map f xs) (map g ys)
  mapped S f g e [] [] o = tt
  mapped S f g e [] (y ∷ ys) o = absurd o
  mapped S f g e (x ∷ xs) [] o = absurd o
  mapped S f g e (x ∷ xs) (y ∷ ys) o = (e x y o.0, mapped S f g e xs ys o.1)

  consed : {B : Type 0} (S : B → B → Type 0) (o p : Option B) (xs ys : List B) → InBoth S o p → OneByOne S xs ys → OneByOne S (cons_option o xs) (cons_option p ys)
  consed S None None xs ys s r = r
  consed S None (Some y) xs ys s r = absurd s
  consed S (Some x) None xs ys s r = absurd s
  consed S (Some x) (Some y) xs ys s r = (s, r)

  pub filter_mapped : {B : Type 0} (S : B → B → Type 0) (f g : A → Option B) → ((x y : A) → R x y → InBoth S (f x) (g y)) → (xs ys : List A) → OneByOne R xs ys → OneByOne S (filter_map f xs) (filter_map g ys)
  filter_mapped S f g e [] [] o = tt
  filter_mapped S f g e [] (y ∷ ys) o = absurd o
  filter_mapped S f g e (x ∷ xs) [] o = absurd o
  filter_mapped S f g e (x ∷ xs) (y ∷ ys) o = consed S (f x) (g y) (filter_map f xs) (filter_map g ys) (e x y o.0) (filter_mapped S f g e xs ys o.1)

  kept : (b c : Bool) (x y : A) (xs ys : List A) → b ≡ c → R x y → OneByOne R xs ys → OneByOne R (cond b (x ∷ xs) xs) (cond c (y ∷ ys) ys)
  kept true true x y xs ys e r o = (r, o)
  kept true false x y xs ys e r o = absurd (cc)
  kept false true x y xs ys e r o = absurd (cc)
  kept false false x y xs ys e r o = o

  pub filtered : (f g : A → Bool) → ((x y : A) → R x y → f x ≡ g y) → (xs ys : List A) → OneByOne R xs ys → OneByOne R (filter f xs) (filter g ys)
  filtered f g e [] [] o = tt
  filtered f g e [] (y ∷ ys) o = absurd o
  filtered f g e (x ∷ xs) [] o = absurd o
  filtered f g e (x ∷ xs) (y ∷ ys) o = kept (f x) (g y) x y (filter f xs) (filter g ys) (e x y o.0) o.0 (filtered f g e xs ys o.1)

  either : (b c : Bool) (x y : A) (o p : Option A) → b ≡ c → R x y → InBoth R o p → InBoth R (cond b (Some x) o) (cond c (Some y) p)
  either true true x y o p e r s = r
  either true false x y o p e r s = absurd (cc)
  either false true x y o p e r s = absurd (cc)
  either false false x y o p e r s = s

  pub found : (f g : A → Bool) → ((x y : A) → R x y → f x ≡ g y) → (xs ys : List A) → OneByOne R xs ys → InBoth R (find f xs) (find g ys)
  found f g e [] [] o = tt
  found f g e [] (y ∷ ys) o = absurd o
  found f g e (x ∷ xs) [] o = absurd o
  found f g e (x ∷ xs) (y ∷ ys) o = either (f x) (g y) x y (find f xs) (find g ys) (e x y o.0) o.0 (found f g e xs ys o.1)

  pub any_same : (f g : A → Bool) → ((x y : A) → R x y → f x ≡ g y) → (xs ys : List A) → OneByOne R xs ys → list_any f xs ≡ list_any g ys
  any_same f g e [] [] o = refl
  any_same f g e [] (y ∷ ys) o = absurd o
  any_same f g e (x ∷ xs) [] o = absurd o
  any_same f g e (x ∷ xs) (y ∷ ys) o = λ i. e x y o.0 i || any_same f g e xs ys o.1 i

  pub option_mapped : {B : Type 0} (f g : A → B) → ((x y : A) → R x y → f x ≡ g y) → (o p : Option A) → InBoth R o p → option_map f o ≡ option_map g p
  option_mapped f g e None None s = refl
  option_mapped f g e None (Some y) s = absurd s
  option_mapped f g e (Some x) None s = absurd s
  option_mapped f g e (Some x) (Some y) s = ap (λ z. Some z) (e x y s)
