-- The id of an op-space number is the one to which the table gives it, and the other way round.
use Rattle.std.proofs.Common.{◌≡◌, ◌∙◌, refl, sym, ap, subst, ℕ, ℤ, zero, suc, pos, negsuc, ◌+◌, ◌-◌, ◌<◌, ◌≤◌, ◌==◌, ◌&&◌, inl, inr, nat_le, nat_lt, not, Bool, true, false, List, [], ◌∷◌, length, is_some, Option, None, Some, arith}
use Rattle.std.specs.Prelude.{if◌then◌else◌}
use Rattle.std.proofs.lemmas.Bool.Decides.{nat_tests}
use Rattle.st_ids.specs.Root.{opening}
use Rattle.st_ids.specs.declared.names.Rev.{Rev}
use Rattle.st_lemmas.proofs.Bools.{and-true}
use Rattle.st_lemmas.proofs.Options.{one_some}
use Rattle.st_clusters.specs.Names.{IsFinalBefore, IsInTable, IsOp, IsWithin, is_later}
use Rattle.st_clusters.specs.Table.{at}
use Rattle.st_clusters.specs.declared.ids.Cluster.{Cluster}
use Rattle.st_clusters.specs.declared.ids.IdRange.{IdRange}
use Rattle.st_mark_reader.specs.OpSpace.{final_before, given_by, gives, has_id, id_in, is_opening, number_in, number_of, op_id_in, own_id}

none_some : {A : Type 0} (a : A) → ◌≡◌ {A = Option A} None (Some a) → ⊥
none_some a e = cc

same_rev : (r s : Rev) → r.session ≡ s.session → r.num ≡ s.num → r ≡ s
same_rev r s a b = λ i. record { session = a i; num = b i }

-- ## Clusters

has_within : (r : Rev) (c : Cluster) → has_id r c ≡ true → IsWithin c r (number_in r c)
has_within r c h =
    let p = and-true (c.session == r.session) (nat_le c.first r.num && nat_lt r.num (c.first + c.used)) h in
    let q = and-true (nat_le c.first r.num) (nat_lt r.num (c.first + c.used)) p.1 in
    record { own = grind (arith, nat_tests, p.0); from = grind (arith, nat_tests, q.0); before = grind (arith, nat_tests, q.1); number = refl }

within_has : (r : Rev) (c : Cluster) (n : ℕ) → IsWithin c r n → has_id r c ≡ true
within_has r c n w =
    let a : (c.session == r.session) ≡ true = let e = w.own in grind (arith, nat_tests) in
    let b : nat_le c.first r.num ≡ true = let e = w.from in grind (arith, nat_tests) in
    let d : nat_lt r.num (c.first + c.used) ≡ true = let e = w.before in grind (arith, nat_tests) in
    rw (a, b, d) refl

in_later : (c : Cluster) (cs : List Cluster) (r : Rev) (n : ℕ) → IsInTable cs r n → IsInTable (c ∷ cs) r n
in_later c cs r n t = record { place = suc t.place; there = let l = t.there in (omega arith); within = t.within }

in_first : (c : Cluster) (cs : List Cluster) (r : Rev) (n : ℕ) → IsWithin c r n → IsInTable (c ∷ cs) r n
in_first c cs r n w = record { place = 0; there = (omega arith); within = w }

number_some : (r : Rev) (cs : List Cluster) (n : ℕ) → number_of r cs ≡ Some n → IsInTable cs r n
number_some r [] n e = absurd (none_some n e)
number_some r (c ∷ cs) n e = go (has_id r c) refl e (number_some r cs n)
  where
    go : (b : Bool) → has_id r c ≡ b → (if b then Some (number_in r c) else number_of r cs) ≡ Some n → (number_of r cs ≡ Some n → IsInTable cs r n) → IsInTable (c ∷ cs) r n
    go true h q rest = in_first c cs r n (subst (IsWithin c r) (one_some (number_in r c) n q) (has_within r c h))
    go false h q rest = in_later c cs r n (rest q)

some_at : (r : Rev) (cs : List Cluster) → number_of r cs ≡ None → (i : ℕ) → i < length cs → (n : ℕ) → IsWithin (at cs i) r n → ⊥
some_at r [] e i there n w = omega arith
some_at r (c ∷ cs) e zero there n w = absurd (none_some (number_in r c) (sym e ∙ rw (within_has r c n w) refl))
some_at r (c ∷ cs) e (suc i) there n w = go (has_id r c) refl e (λ q. some_at r cs q i (omega arith) n w)
  where
    go : (b : Bool) → has_id r c ≡ b → (if b then Some (number_in r c) else number_of r cs) ≡ None → (number_of r cs ≡ None → ⊥) → ⊥
    go true h q rest = none_some (number_in r c) (sym q)
    go false h q rest = rest q

number_none : (r : Rev) (cs : List Cluster) → number_of r cs ≡ None → (n : ℕ) → IsInTable cs r n → ⊥
number_none r cs e n t = some_at r cs e t.place t.there n t.within

-- ## Final numbers

opening_is : (r : Rev) → is_opening r ≡ true → r ≡ opening
opening_is r h =
    let p = and-true (r.session == 0) (r.num == 0) h in
    same_rev r opening (grind (arith, nat_tests, p.0)) (grind (arith, nat_tests, p.1))

is_the_opening : (r : Rev) → r ≡ opening → is_opening r ≡ true
is_the_opening r e = ap is_opening e

final_some : (cs : List Cluster) (later : List IdRange) (r : Rev) (n : ℕ) → final_before cs later r ≡ Some n → IsFinalBefore cs later r n
final_some cs later r n e = go (is_opening r) refl e
  where
    rest : (b : Bool) → is_later later r ≡ b → (if b then None else number_of r cs) ≡ Some n → IsFinalBefore cs later r n
    rest true h q = absurd (none_some n q)
    rest false h q = inr (number_some r cs n q, h)

    go : (b : Bool) → is_opening r ≡ b → (if b then Some 0 else if is_later later r then None else number_of r cs) ≡ Some n → IsFinalBefore cs later r n
    go true h q = inl (opening_is r h, sym (one_some 0 n q))
    go false h q = rest (is_later later r) refl q

final_none : (cs : List Cluster) (later : List IdRange) (r : Rev) → final_before cs later r ≡ None → (n : ℕ) → IsFinalBefore cs later r n → ⊥
final_none cs later r e n (inl p) = none_some 0 (sym e ∙ ap (λ (b : Bool). if b then Some 0 else if is_later later r then None else number_of r cs) (is_the_opening r p.0))
final_none cs later r e n (inr p) = go (is_opening r) refl e
  where
    go : (b : Bool) → is_opening r ≡ b → (if b then Some 0 else if is_later later r then None else number_of r cs) ≡ None → ⊥
    go true h q = none_some 0 (sym q)
    go false h q = number_none r cs (sym (ap (λ (b : Bool). if b then None else number_of r cs) p.1) ∙ q) n p.0

-- ## The id of a number

gives_within : (n : ℕ) (later : List IdRange) (c : Cluster) → gives n later c ≡ true → IsWithin c (id_in n c) n × (is_later later (id_in n c) ≡ false)
gives_within n later c h =
    let p = and-true (nat_le c.first_final n && nat_lt n (c.first_final + c.used)) (not (is_later later (id_in n c))) h in
    let q = and-true (nat_le c.first_final n) (nat_lt n (c.first_final + c.used)) p.0 in
    let low : c.first_final ≤ n = grind (arith, nat_tests, q.0) in
    let high : n < c.first_final + c.used = grind (arith, nat_tests, q.1) in
    (record { own = refl; from = (omega arith); before = (omega arith); number = (omega arith) }, off (is_later later (id_in n c)) p.1)
  where
    off : (b : Bool) → not b ≡ true → b ≡ false
    off true e = cc
    off false e = refl

within_gives : (n : ℕ) (later : List IdRange) (c : Cluster) (r : Rev) → IsWithin c r n → is_later later r ≡ false → gives n later c ≡ true
within_gives n later c r w l =
    let a = w.from in let b = w.before in let d = w.number in
    let low : nat_le c.first_final n ≡ true = grind (arith, nat_tests) in
    let high : nat_lt n (c.first_final + c.used) ≡ true = grind (arith, nat_tests) in
    let num : (id_in n c).num ≡ r.num = (omega arith) in
    let is : is_later later (id_in n c) ≡ false = ap (is_later later) (same_rev (id_in n c) r w.own num) ∙ l in
    rw (low, high, is) refl

given_some : (n : ℕ) (later : List IdRange) (cs : List Cluster) (r : Rev) → given_by n later cs ≡ Some r → IsInTable cs r n × (is_later later r ≡ false)
given_some n later [] r e = absurd (none_some r e)
given_some n later (c ∷ cs) r e = go (gives n later c) refl e (given_some n later cs r)
  where
    go : (b : Bool) → gives n later c ≡ b → (if b then Some (id_in n c) else given_by n later cs) ≡ Some r → (given_by n later cs ≡ Some r → IsInTable cs r n × (is_later later r ≡ false)) → IsInTable (c ∷ cs) r n × (is_later later r ≡ false)
    go true h q rest =
        let w = gives_within n later c h in
        subst (λ (s : Rev). IsInTable (c ∷ cs) s n × (is_later later s ≡ false)) (one_some (id_in n c) r q) (in_first c cs (id_in n c) n w.0, w.1)
    go false h q rest = let t = rest q in (in_later c cs r n t.0, t.1)

given_at : (n : ℕ) (later : List IdRange) (cs : List Cluster) → given_by n later cs ≡ None → (i : ℕ) → i < length cs → (r : Rev) → IsWithin (at cs i) r n → is_later later r ≡ false → ⊥
given_at n later [] e i there r w l = omega arith
given_at n later (c ∷ cs) e zero there r w l = absurd (none_some (id_in n c) (sym e ∙ rw (within_gives n later c r w l) refl))
given_at n later (c ∷ cs) e (suc i) there r w l = go (gives n later c) refl e (λ q. given_at n later cs q i (omega arith) r w l)
  where
    go : (b : Bool) → gives n later c ≡ b → (if b then Some (id_in n c) else given_by n later cs) ≡ None → (given_by n later cs ≡ None → ⊥) → ⊥
    go true h q rest = none_some (id_in n c) (sym q)
    go false h q rest = rest q

abbrev own_name : ℕ → ℕ → Rev
own_name own k = record { session = own; num = k + 1 }

own_some : (cs : List Cluster) (later : List IdRange) (own have k : ℕ) (r : Rev) → own_id cs later have (own_name own k) ≡ Some r → IsOp cs later own have r (negsuc k)
own_some cs later own have k r e = go (nat_le (k + 1) have && not (is_some (final_before cs later (own_name own k)))) refl e
  where
    free : (o : Option ℕ) → final_before cs later (own_name own k) ≡ o → not (is_some o) ≡ true → final_before cs later (own_name own k) ≡ None
    free None f q = f
    free (Some n) f q = cc

    go : (b : Bool) → (nat_le (k + 1) have && not (is_some (final_before cs later (own_name own k)))) ≡ b → (if b then Some (own_name own k) else None) ≡ Some r → IsOp cs later own have r (negsuc k)
    go true h q =
        let p = and-true (nat_le (k + 1) have) (not (is_some (final_before cs later (own_name own k)))) h in
        let none = free (final_before cs later (own_name own k)) refl p.1 in
        let low : k + 1 ≤ have = grind (arith, nat_tests, p.0) in
        let back : k ≡ (k + 1) - 1 = (omega arith) in
        subst (λ (t : Rev). IsOp cs later own have t (negsuc k)) (one_some (own_name own k) r q) (inr (final_none cs later (own_name own k) none, (refl, (omega arith), low), ap negsuc back))
    go false h q = absurd (none_some r q)

pub id_some : (cs : List Cluster) (later : List IdRange) (own have : ℕ) (z : ℤ) (r : Rev) → op_id_in cs later own have z ≡ Some r → IsOp cs later own have r z
id_some cs later own have (pos n) r e = go (n == 0) refl e
  where
    go : (b : Bool) → (n == 0) ≡ b → (if b then Some opening else given_by n later cs) ≡ Some r → IsOp cs later own have r (pos n)
    go true h q = let zero_is : n ≡ 0 = grind (arith, nat_tests, h) in inl (n, inl (sym (one_some opening r q), zero_is), refl)
    go false h q = inl (n, inr (given_some n later cs r q), refl)
id_some cs later own have (negsuc k) r e = own_some cs later own have k r e

pub id_none : (cs : List Cluster) (later : List IdRange) (own have : ℕ) (z : ℤ) → op_id_in cs later own have z ≡ None → (r : Rev) → IsOp cs later own have r z → ⊥
id_none cs later own have (pos n) e r (inl x) =
    let same : n ≡ x.0 = ap number x.2 in
    go (n == 0) refl e same x.1
  where
    number : ℤ → ℕ
    number (pos m) = m
    number (negsuc m) = m

    go : (b : Bool) → (n == 0) ≡ b → (if b then Some opening else given_by n later cs) ≡ None → n ≡ x.0 → IsFinalBefore cs later r x.0 → ⊥
    go true h q same f = none_some opening (sym q)
    go false h q same (inl p) = let zero_is = p.1 in (grind (arith, nat_tests, h))
    go false h q same (inr p) = let t : IsInTable cs r n = subst (IsInTable cs r) (sym same) p.0 in given_at n later cs q t.place t.there r t.within p.1
id_none cs later own have (pos n) e r (inr x) = let t = x.2 in cc
id_none cs later own have (negsuc k) e r (inl x) = let t = x.2 in cc
id_none cs later own have (negsuc k) e r (inr x) =
    let same : k ≡ r.num - 1 = ap number x.2 in
    let low = x.1.1 in let high = x.1.2 in
    let num : r.num ≡ k + 1 = (omega arith) in
    let is : r ≡ record { session = own; num = k + 1 } = same_rev r (record { session = own; num = k + 1 }) x.1.0 num in
    let le : nat_le (k + 1) have ≡ true = grind (arith, nat_tests) in
    go (final_before cs later (record { session = own; num = k + 1 })) refl le (subst (λ (t : Rev). (n : ℕ) → IsFinalBefore cs later t n → ⊥) is x.0) e
  where
    number : ℤ → ℕ
    number (pos m) = m
    number (negsuc m) = m

    go : (o : Option ℕ) → final_before cs later (record { session = own; num = k + 1 }) ≡ o → nat_le (k + 1) have ≡ true → ((n : ℕ) → IsFinalBefore cs later (record { session = own; num = k + 1 }) n → ⊥)
        → own_id cs later have (record { session = own; num = k + 1 }) ≡ None → ⊥
    go (Some n) f le free q = free n (final_some cs later (record { session = own; num = k + 1 }) n f)
    go None f le free q = none_some (record { session = own; num = k + 1 }) (sym q ∙ rw (le, f) refl)
