-- Op-space numbers are names of one id each.
use Rattle.std.proofs.Common.{◌≡◌, inl, inr, ◌<◌, ◌≤◌, ◌-◌, ℕ, true, false, List, [], length, refl, sym, subst, ap, ◌∙◌, arith, Option, Some, None, MatchOption}
use Rattle.std.specs.Prelude.{Result, Ok, Err, IfOk, MatchResult, ℤ, pos, negsuc}
use Rattle.std.specs.Option.{ok_or}
use Rattle.std.proofs.lemmas.Bool.Decides.{nat_tests}
use lib.Signed.{le_z}
use lib.IntN.{nat_abs}
use Rattle.st_ids.specs.declared.names.Rev.{Rev}
use Rattle.st_clusters.specs.Table.{at}
use Rattle.st_clusters.specs.Names.{IsFinal, IsFinalBefore, IsOwn, IsOp}
use Rattle.st_clusters.specs.inside.Kept.{AreApart}
use Rattle.st_clusters.specs.declared.ids.Cluster.{Cluster}
use Rattle.st_clusters.specs.declared.ids.IdRange.{IdRange}
use Rattle.st_clusters.specs.declared.ids.Unknown.{Unknown}
use Rattle.st_clusters.proofs.Unique.{one_before, one_id_before, rev_is}

-- every cluster is a session's
abbrev AreOwned : List Cluster → Type 0
AreOwned cs = (i : ℕ) → i < length cs → 1 ≤ (at cs i).session

same_pos : (z : ℤ) (m n : ℕ) → z ≡ pos m → z ≡ pos n → m ≡ n
same_pos z m n a b = cc (a, b)

apart_signs : (z : ℤ) (m n : ℕ) → z ≡ pos m → z ≡ negsuc n → ⊥
apart_signs z m n a b = cc (a, b)

same_neg : (z : ℤ) (m n : ℕ) → z ≡ negsuc m → z ≡ negsuc n → m ≡ n
same_neg z m n a b = cc (a, b)

pub one_op : (cs : List Cluster) (later : List IdRange) (own have : ℕ) (r : Rev) (y z : ℤ) → AreApart cs → AreOwned cs → IsOp cs later own have r y → IsOp cs later own have r z → y ≡ z
one_op cs later own have r y z apart owned (inl h) (inl k) = h.2 ∙ ap (λ (n : ℕ). pos n) (one_before cs later r h.0 k.0 apart owned h.1 k.1) ∙ sym k.2
one_op cs later own have r y z apart owned (inl h) (inr k) = absurd (k.0 h.0 h.1)
one_op cs later own have r y z apart owned (inr h) (inl k) = absurd (h.0 k.0 k.1)
one_op cs later own have r y z apart owned (inr h) (inr k) = h.2 ∙ sym k.2

pub one_op_id : (cs : List Cluster) (later : List IdRange) (own have : ℕ) (r s : Rev) (z : ℤ) → AreApart cs → IsOp cs later own have r z → IsOp cs later own have s z → r ≡ s
one_op_id cs later own have r s z apart (inl h) (inl k) =
    one_id_before cs later r s k.0 apart (subst (λ (n : ℕ). IsFinalBefore cs later r n) (same_pos z h.0 k.0 h.2 k.2) h.1) k.1
one_op_id cs later own have r s z apart (inl h) (inr k) = absurd (apart_signs z h.0 (s.num - 1) h.2 k.2)
one_op_id cs later own have r s z apart (inr h) (inl k) = absurd (apart_signs z k.0 (r.num - 1) k.2 h.2)
one_op_id cs later own have r s z apart (inr h) (inr k) =
    let e : r.num - 1 ≡ s.num - 1 = same_neg z (r.num - 1) (s.num - 1) h.2 k.2 in
    rev_is r s (h.1.0 ∙ sym k.1.0) (omega (arith, e, h.1.1, k.1.1))

-- ## Answers

pub op_back : (cs : List Cluster) (later : List IdRange) (own have : ℕ) (r : Rev) (answer : Result ℤ Unknown) → AreApart cs → AreOwned cs
    → MatchResult answer (λ z. IsOp cs later own have r z) (λ _. (z : ℤ) → ¬ IsOp cs later own have r z) → (z : ℤ) → IsOp cs later own have r z → answer ≡ Ok z
op_back cs later own have r (Ok y) apart owned said z is = ap (λ (x : ℤ). Ok x) (one_op cs later own have r y z apart owned said is)
op_back cs later own have r (Err e) apart owned said z is = absurd (said z is)

pub id_back : (cs : List Cluster) (later : List IdRange) (own have : ℕ) (z : ℤ) (answer : Result Rev Unknown) → AreApart cs
    → MatchResult answer (λ r. IsOp cs later own have r z) (λ _. (r : Rev) → ¬ IsOp cs later own have r z) → (r : Rev) → IsOp cs later own have r z → answer ≡ Ok r
id_back cs later own have z (Ok s) apart said r is = ap (λ (x : Rev). Ok x) (one_op_id cs later own have s r z apart said is)
id_back cs later own have z (Err e) apart said r is = absurd (said r is)

before_none : (cs : List Cluster) (r : Rev) (n : ℕ) → IsFinal cs r n → IsFinalBefore cs [] r n
before_none cs r n (inl h) = inl h
before_none cs r n (inr h) = inr (h, refl)

pub final_back : (cs : List Cluster) (r : Rev) (o : Option ℕ) (u : Unknown) → AreApart cs → AreOwned cs
    → MatchOption o ((n : ℕ) → ¬ IsFinalBefore cs [] r n) (λ n. IsFinalBefore cs [] r n) → (n : ℕ) → IsFinal cs r n → ok_or o u ≡ Ok n
final_back cs r None u apart owned said n is = absurd (said n (before_none cs r n is))
final_back cs r (Some m) u apart owned said n is = ap (λ (x : ℕ). Ok x) (one_before cs [] r m n apart owned said (before_none cs r n is))

-- ## No answer

pub no_op : (cs : List Cluster) (later : List IdRange) (own have : ℕ) (r : Rev) → ((n : ℕ) → ¬ IsFinalBefore cs later r n) → (IsOwn own have r → ⊥) → (z : ℤ) → ¬ IsOp cs later own have r z
no_op cs later own have r none other z (inl h) = none h.0 h.1
no_op cs later own have r none other z (inr h) = other h.1

no_id : (cs : List Cluster) (later : List IdRange) (own have : ℕ) (z : ℤ) (m : ℕ) → z ≡ pos m → ((r : Rev) → ¬ IsFinalBefore cs later r m) → (r : Rev) → IsOp cs later own have r z → ⊥
no_id cs later own have z m is none r (inl h) = none r (subst (λ (n : ℕ). IsFinalBefore cs later r n) (same_pos z h.0 m h.2 is) h.1)
no_id cs later own have z m is none r (inr h) = apart_signs z m (r.num - 1) is h.2

pub id_of_number : (cs : List Cluster) (later : List IdRange) (own have : ℕ) (z : ℤ) (m : ℕ) (o : Option Rev) (u : Unknown) → z ≡ pos m
    → MatchOption o ((r : Rev) → ¬ IsFinalBefore cs later r m) (λ r. IsFinalBefore cs later r m) → MatchResult (ok_or o u) (λ r. IsOp cs later own have r z) (λ _. (r : Rev) → ¬ IsOp cs later own have r z)
id_of_number cs later own have z m None u is said = λ r k. no_id cs later own have z m is said r k
id_of_number cs later own have z m (Some r) u is said = inl (m, said, is)

pub own_is_final : (cs : List Cluster) (later : List IdRange) (own have num n : ℕ) (z : ℤ) → IsFinalBefore cs later (record { session = own; num = num }) n → z ≡ negsuc (num - 1) → 1 ≤ num → (r : Rev) → ¬ IsOp cs later own have r z
own_is_final cs later own have num n z final is some r (inl h) = apart_signs z h.0 (num - 1) h.2 is
own_is_final cs later own have num n z final is some r (inr h) =
    let e : r.num - 1 ≡ num - 1 = same_neg z (r.num - 1) (num - 1) h.2 is in
    h.0 n (subst (λ (s : Rev). IsFinalBefore cs later s n) (sym (rev_is r (record { session = own; num = num }) h.1.0 (omega (arith, e, h.1.1, some)))) final)

-- ## Signs

pub not_negative : (z : ℤ) → le_z (pos 0) z ≡ true → z ≡ pos (nat_abs z)
not_negative (pos n) h = refl
not_negative (negsuc n) h = cc

pub negative : (z : ℤ) (n : ℕ) → le_z (pos 0) z ≡ false → n ≡ nat_abs z → (z ≡ negsuc (n - 1)) × (1 ≤ n)
negative (pos m) n h e = absurd (grind (arith, nat_tests, h))
negative (negsuc m) n h e =
    let back : n - 1 ≡ m = omega (arith, e) in
    (ap (λ (k : ℕ). negsuc k) (sym back), omega (arith, e))

pub op_ok : {A : Type 0} (P : A → Type 0) (N : Type 0) (answer : Result A Unknown) → MatchResult answer P (λ _. N) → IfOk answer P
op_ok P N (Ok a) h = h
op_ok P N (Err e) h = tt
