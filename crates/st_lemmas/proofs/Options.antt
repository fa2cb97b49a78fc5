-- On options and results.
use Rattle.std.proofs.Common.{Result, Ok, Err, IfOk, ◌≡◌, Option, Some, None, refl, IsSome, is_some, option_map, option_and_then, ◌||◌, ap, unwrap_or}
use Rattle.std.specs.Option.{option_or}

pub IfOk-along : {T E : Type 0} (r : Result T E) (P Q : T → Type 0) → ((x : T) → P x → Q x) → IfOk r P → IfOk r Q
IfOk-along (Ok x) P Q f p = f x p
IfOk-along (Err e) P Q f p = tt

pub option_or-assoc : {A : Type 0} (a b c : Option A) → option_or (option_or a b) c ≡ option_or a (option_or b c)
option_or-assoc None b c = refl
option_or-assoc (Some x) b c = refl

pub option_or-None : {A : Type 0} (o : Option A) → option_or o None ≡ o
option_or-None None = refl
option_or-None (Some x) = refl

pub None-IsSome : {A : Type 0} (o : Option A) → o ≡ None → IsSome o → ⊥
None-IsSome None e h = cc
None-IsSome (Some x) e h = cc

pub is_some-option_map : {A B : Type 0} (f : A → B) (o : Option A) → is_some (option_map f o) ≡ is_some o
is_some-option_map f None = refl
is_some-option_map f (Some x) = refl

pub IsSome-Some : {A : Type 0} (o : Option A) → IsSome o → (x : A) × (o ≡ Some x)
IsSome-Some None h = absurd (cc)
IsSome-Some (Some x) h = (x, refl)

pub option_and_then-Some : {A B : Type 0} (f : A → Option B) (o : Option A) (b : B) → option_and_then f o ≡ Some b → (a : A) × (o ≡ Some a) × (f a ≡ Some b)
option_and_then-Some f None b h = absurd (cc)
option_and_then-Some f (Some a) b h = (a, refl, h)

pub option_map-Some : {A B : Type 0} (f : A → B) (o : Option A) (b : B) → option_map f o ≡ Some b → (a : A) × (o ≡ Some a) × (f a ≡ b)
option_map-Some f None b h = absurd (cc)
option_map-Some f (Some a) b h = (a, refl, cc)

pub is_some-option_map_or : {A B : Type 0} (f : A → B) (a b : Option A) → is_some (option_map f (option_or a b)) ≡ (is_some (option_map f a) || is_some (option_map f b))
is_some-option_map_or f None b = refl
is_some-option_map_or f (Some x) b = refl

pub one_some : {A : Type 0} (x y : A) → Some x ≡ Some y → x ≡ y
one_some {A} x y e = ap (λ (o : Option A). unwrap_or o x) e
