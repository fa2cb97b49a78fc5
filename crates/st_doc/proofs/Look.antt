-- Look-ups in lists that are gone through from the first item or from the last.
use Rattle.std.proofs.Common.{◌≡◌, ℕ, ◌+◌, ◌<◌, Bool, true, false, cond, ◌&&◌, ◌||◌, List, [], ◌∷◌, ◌++◌, length, take, drop, get_or, Option, Some, None, refl, sym, ap, ◌∙◌, append_assoc, option_map, unwrap_or, suc, map, subst, drop-cons, add-one, Result, Ok, Err, IfOk}
use Rattle.std.specs.BTreeMap.{BTreeMap, get, InsertsAll, IsOrdered}
use Rattle.std.specs.Cmp.{IsTotalOrder}
use Rattle.std.specs.declared.cmp.Ordering.{Ordering}
use Rattle.std.specs.Ordering.{eq_by_cmp}
use Rattle.std.proofs.lemmas.Cmp.{eq_by_cmp_equiv}
use Rattle.std.proofs.lemmas.Map.Keys.{IsDistinct-from_sorted}
use Rattle.std.proofs.lemmas.Iterator.{YieldsList, items_from_drains}
use Rattle.std.specs.Iterator.{DrainsIf}
use Rattle.std.specs.Map.{update_all}
use Rattle.std.proofs.lemmas.Map.Made.{update_all_distinct}
use Rattle.std.specs.Option.{option_or}
use Rattle.std.specs.List.{find, list_any}
use Rattle.std.proofs.lemmas.List.Folds.{find-append}
use Rattle.std.proofs.lemmas.List.{append-nil}
use Rattle.st_marks.specs.declared.intents.Owned.{Owned}
use Rattle.st_marks.specs.Document.{owned_cell}
use Rattle.st_ids.specs.Root.{root}
use Rattle.st_lemmas.proofs.Options.{option_or-assoc}
use Rattle.st_lemmas.proofs.FirstItems.{take_one, any_more}

-- one more looked for behind the first ones
find_more : {A : Type 0} (p : A → Bool) (o : Option A) (xs : List A) (i : ℕ) (d x : A) → i < length xs → get_or xs i d ≡ x
    → option_or (option_or o (find p (take i xs))) (cond (p x) (Some x) None) ≡ option_or o (find p (take (i + 1) xs))
find_more p o xs i d x l e =
    option_or-assoc o (find p (take i xs)) (cond (p x) (Some x) None)
    ∙ ap (option_or o) (sym (find-append p (take i xs) (x ∷ [])) ∙ ap (find p) (sym (take_one xs i d x l e)))

-- an item is added where none is there yet, after the first ones were
pub added_more : {A : Type 0} (p : A → Bool) (old before now : Option A) (xs : List A) (i : ℕ) (d x y : A) → i < length xs → get_or xs i d ≡ x → y ≡ x
    → before ≡ option_or old (find p (take i xs)) → now ≡ option_or before (cond (p x) (Some y) None) → now ≡ option_or old (find p (take (i + 1) xs))
added_more p old before now xs i d x y l e same b h =
    h ∙ ap (λ o. option_or o (cond (p x) (Some y) None)) b ∙ ap (λ z. option_or (option_or old (find p (take i xs))) (cond (p x) (Some z) None)) same ∙ find_more p old xs i d x l e

-- the same where all are added with one value
pub told_more : {A B : Type 0} (p : A → Bool) (v : B) (old before now : Option B) (xs : List A) (i : ℕ) (d x : A) → i < length xs → get_or xs i d ≡ x
    → before ≡ option_or old (cond (list_any p (take i xs)) (Some v) None) → now ≡ option_or before (cond (p x) (Some v) None)
    → now ≡ option_or old (cond (list_any p (take (i + 1) xs)) (Some v) None)
told_more {B = B} p v old before now xs i d x l e b h =
    h ∙ ap (λ o. option_or o (cond (p x) (Some v) None)) b ∙ both old (list_any p (take i xs)) (p x) ∙ ap (λ c. option_or old (cond c (Some v) None)) (sym (any_more p xs i d x l e))
  where
    both : (o : Option B) (b c : Bool) → option_or (option_or o (cond b (Some v) None)) (cond c (Some v) None) ≡ option_or o (cond (b || c) (Some v) None)
    both (Some w) b c = refl
    both None true c = refl
    both None false c = refl

-- the same where each is added with a value of its own
pub valued_more : {A B : Type 0} (p : A → Bool) (f : A → B) (old before now : Option B) (xs : List A) (i : ℕ) (d x : A) → i < length xs → get_or xs i d ≡ x
    → before ≡ option_or old (option_map f (find p (take i xs))) → now ≡ option_or before (cond (p x) (Some (f x)) None)
    → now ≡ option_or old (option_map f (find p (take (i + 1) xs)))
valued_more {A} {B} p f old before now xs i d x l e b h =
    h ∙ ap (λ o. option_or o (cond (p x) (Some (f x)) None)) b ∙ both old (find p (take i xs)) (p x)
    ∙ ap (λ o. option_or old (option_map f o)) (sym (find-append p (take i xs) (x ∷ [])) ∙ ap (find p) (sym (take_one xs i d x l e)))
  where
    both : (o : Option B) (q : Option A) (c : Bool) → option_or (option_or o (option_map f q)) (cond c (Some (f x)) None) ≡ option_or o (option_map f (option_or q (cond c (Some x) None)))
    both (Some w) q c = refl
    both None (Some y) c = refl
    both None None true = refl
    both None None false = refl

-- none passes both tests where none passes the first
pub find_neither : {A : Type 0} (p q : A → Bool) (xs : List A) → list_any p xs ≡ false → find (λ x. p x && q x) xs ≡ None
find_neither p q [] e = refl
find_neither {A} p q (x ∷ xs) e = go (p x) refl e (λ f. find_neither p q xs f)
  where
    go : (b : Bool) → p x ≡ b → (b || list_any p xs) ≡ false → (list_any p xs ≡ false → find (λ x. p x && q x) xs ≡ None) → cond (p x && q x) (Some x) (find (λ x. p x && q x) xs) ≡ None
    go true f e rest = cc
    go false f e rest = rw f (rest e)

-- what a look-up finds, or else what was there
pub unwrap_or-cond : {A : Type 0} (b : Bool) (v d : A) (o : Option A) → unwrap_or (cond b (Some v) o) d ≡ cond b v (unwrap_or o d)
unwrap_or-cond true v d o = refl
unwrap_or-cond false v d o = refl

pub option_map-or : {A B : Type 0} (f : A → B) (a b : Option A) → option_map f (option_or a b) ≡ option_or (option_map f a) (option_map f b)
option_map-or f None b = refl
option_map-or f (Some x) b = refl

-- the last items with one more
pub drop_one : {A : Type 0} (xs : List A) (i : ℕ) (d x : A) → i < length xs → get_or xs i d ≡ x → drop i xs ≡ x ∷ drop (i + 1) xs
drop_one xs i d x l e = drop-cons xs i d l ∙ ap (λ y. y ∷ drop (suc i) xs) e ∙ ap (λ k. x ∷ drop k xs) (sym (add-one i))

-- what a map has after all entries of another were put into it
pub all_put : {K X : Type 0} {R : K → K → Ordering} → IsTotalOrder R → (m n values : BTreeMap K X) → IsOrdered R values → InsertsAll R m values.entries n → (q : K) → get R n q ≡ option_or (get R values q) (get R m q)
all_put {R = R} t m n values ordered h q = h.0 q ∙ update_all_distinct (eq_by_cmp_equiv t) (eq_by_cmp R) (λ x y. refl) (get R m) values.entries q (IsDistinct-from_sorted R _ ordered)

-- some cell with an owner, for look-ups past a list's end
abbrev pub no_cell : Owned
no_cell = owned_cell (record { 0 = root.0 }) root

-- an entry more is copied
pub copied_more : {K X : Type 0} (before now items left whole : List (K × X)) (k key : K) (v value : X) → items ≡ (k, v) ∷ left → now ≡ before ++ (key, value) ∷ [] → key ≡ k → value ≡ v
    → before ++ items ≡ whole → now ++ left ≡ whole
copied_more before now items left whole k key v value opened pushed same_key same_value so_far =
    ap (λ l. l ++ left) pushed ∙ append_assoc before ((key, value) ∷ []) left ∙ (λ i. before ++ (same_key i, same_value i) ∷ left) ∙ ap (λ l. before ++ l) (sym opened) ∙ so_far

pub copied_all : {A : Type 0} (done items whole : List A) → items ≡ [] → done ++ items ≡ whole → done ≡ whole
copied_all done items whole none so_far = sym (append-nil done) ∙ ap (λ l. done ++ l) (sym none) ∙ so_far

-- what is made of all that an iterator yields
pub made_of : {I E V Z : Type 0} (A : I → Type 0) (B : List E → V → Type 0) (steps : I → Option E → I → Type 0) (r : Result V Z) (all : List E) (Q : V → Type 0)
    → ((x : I) → A x → YieldsList steps (λ y. y) x all) → ((v : V) → B all v → Q v) → IfOk r (λ v. (x : I) × (xs : List E) × A x × DrainsIf steps (Unit {0}) x xs × B xs v) → IfOk r Q
made_of A B steps (Ok v) all Q yields made h = made v (subst (λ l. B l v) (sym (map_same h.1) ∙ items_from_drains h.1 h.3 (yields h.0 h.2)) h.4)
  where
    map_same : {A : Type 0} (xs : List A) → map (λ y. y) xs ≡ xs
    map_same [] = refl
    map_same (x ∷ xs) = ap (λ l. x ∷ l) (map_same xs)
made_of A B steps (Err e) all Q yields made h = tt

-- a map that is made of the entries of another has what the other has
pub map_from : {K X : Type 0} {cmp : K → K → Ordering} → IsTotalOrder cmp → (old new : BTreeMap K X) (entries : List (K × X)) → IsOrdered cmp old → entries ≡ old.entries
    → ((q : K) → get cmp new q ≡ update_all (eq_by_cmp cmp) (λ _. None) entries q) → (q : K) → get cmp new q ≡ get cmp old q
map_from {K} {X} {cmp = cmp} total old new entries ordered same made q =
    made q ∙ ap (λ es. update_all (eq_by_cmp cmp) (λ _. None) es q) same
    ∙ update_all_distinct (eq_by_cmp_equiv total) (eq_by_cmp cmp) (λ x y. refl) (λ _. None) old.entries q (IsDistinct-from_sorted cmp _ ordered) ∙ or_none (get cmp old q)
  where
    or_none : (o : Option X) → option_or o None ≡ o
    or_none None = refl
    or_none (Some x) = refl
