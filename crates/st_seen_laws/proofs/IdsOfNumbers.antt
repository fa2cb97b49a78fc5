-- A table's number of an id, and the id of that number.
use Rattle.std.proofs.Common.{◌≡◌, ◌∙◌, refl, sym, ap, subst, ℕ, ℤ, zero, suc, pos, negsuc, ◌+◌, ◌-◌, ◌<◌, ◌≤◌, ◌^◌, ◌==◌, ◌&&◌, nat_le, nat_lt, Bool, true, false, List, [], ◌∷◌, length, Option, None, Some, arith}
use Rattle.std.specs.Prelude.{if◌then◌else◌}
use Rattle.std.proofs.lemmas.Bool.Decides.{nat_tests}
use Rattle.st_ids.specs.Root.{opening}
use Rattle.st_ids.specs.declared.names.Rev.{Rev}
use Rattle.st_lemmas.proofs.Bools.{and-true}
use Rattle.st_lemmas.proofs.Options.{one_some}
use Rattle.st_clusters.specs.Names.{IsInTable, IsOwn, IsWithin}
use Rattle.st_clusters.specs.Table.{at}
use Rattle.st_clusters.specs.declared.ids.Cluster.{Cluster}
use Rattle.st_clusters.specs.inside.Kept.{AreApart}
use Rattle.st_clusters.proofs.Unique.{one_id, rev_is}
use Rattle.st_clusters.proofs.Unique as clusters
use Rattle.st_idcodec.specs.OpText.{IsShort}
use Rattle.st_mark_reader.specs.OpSpace.{final_before, given_by, gives, has_id, id_in, is_opening, is_own, number_in, number_of, number_or_own, op_id_in, op_number_in, own_id}

none_some : {A : Type 0} (a : A) → ◌≡◌ {A = Option A} None (Some a) → ⊥
none_some a e = cc

-- ## Clusters

has_within : (r : Rev) (c : Cluster) → has_id r c ≡ true → IsWithin c r (number_in r c)
has_within r c h =
    let p = and-true (c.session == r.session) (nat_le c.first r.num && nat_lt r.num (c.first + c.used)) h in
    let q = and-true (nat_le c.first r.num) (nat_lt r.num (c.first + c.used)) p.1 in
    record { own = grind (arith, nat_tests, p.0); from = grind (arith, nat_tests, q.0); before = grind (arith, nat_tests, q.1); number = refl }

within_has : (r : Rev) (c : Cluster) (n : ℕ) → IsWithin c r n → has_id r c ≡ true
within_has r c n w =
    let a : (c.session == r.session) ≡ true = let e = w.own in grind (arith, nat_tests) in
    let b : nat_le c.first r.num ≡ true = let e = w.from in grind (arith, nat_tests) in
    let d : nat_lt r.num (c.first + c.used) ≡ true = let e = w.before in grind (arith, nat_tests) in
    rw (a, b, d) refl

gives_within : (n : ℕ) (c : Cluster) → gives n [] c ≡ true → IsWithin c (id_in n c) n
gives_within n c h =
    let p = and-true (nat_le c.first_final n && nat_lt n (c.first_final + c.used)) true h in
    let q = and-true (nat_le c.first_final n) (nat_lt n (c.first_final + c.used)) p.0 in
    let low : c.first_final ≤ n = grind (arith, nat_tests, q.0) in
    let high : n < c.first_final + c.used = grind (arith, nat_tests, q.1) in
    record { own = refl; from = (omega arith); before = (omega arith); number = (omega arith) }

within_gives : (n : ℕ) (c : Cluster) (r : Rev) → IsWithin c r n → gives n [] c ≡ true
within_gives n c r w =
    let a = w.from in let b = w.before in let d = w.number in
    let low : nat_le c.first_final n ≡ true = grind (arith, nat_tests) in
    let high : nat_lt n (c.first_final + c.used) ≡ true = grind (arith, nat_tests) in
    rw (low, high) refl

-- ## Tables

in_later : (c : Cluster) (cs : List Cluster) (r : Rev) (n : ℕ) → IsInTable cs r n → IsInTable (c ∷ cs) r n
in_later c cs r n t = record { place = suc t.place; there = let l = t.there in (omega arith); within = t.within }

in_first : (c : Cluster) (cs : List Cluster) (r : Rev) (n : ℕ) → IsWithin c r n → IsInTable (c ∷ cs) r n
in_first c cs r n w = record { place = 0; there = (omega arith); within = w }

pub number_some : (r : Rev) (cs : List Cluster) (n : ℕ) → number_of r cs ≡ Some n → IsInTable cs r n
number_some r [] n e = absurd (none_some n e)
number_some r (c ∷ cs) n e = go (has_id r c) refl e (number_some r cs n)
  where
    go : (b : Bool) → has_id r c ≡ b → (if b then Some (number_in r c) else number_of r cs) ≡ Some n → (number_of r cs ≡ Some n → IsInTable cs r n) → IsInTable (c ∷ cs) r n
    go true h q rest = in_first c cs r n (subst (IsWithin c r) (one_some (number_in r c) n q) (has_within r c h))
    go false h q rest = in_later c cs r n (rest q)

some_at : (r : Rev) (cs : List Cluster) → number_of r cs ≡ None → (i : ℕ) → i < length cs → (n : ℕ) → IsWithin (at cs i) r n → ⊥
some_at r [] e i there n w = omega arith
some_at r (c ∷ cs) e zero there n w = absurd (none_some (number_in r c) (sym e ∙ rw (within_has r c n w) refl))
some_at r (c ∷ cs) e (suc i) there n w = go (has_id r c) refl e (λ q. some_at r cs q i (omega arith) n w)
  where
    go : (b : Bool) → has_id r c ≡ b → (if b then Some (number_in r c) else number_of r cs) ≡ None → (number_of r cs ≡ None → ⊥) → ⊥
    go true h q rest = none_some (number_in r c) (sym q)
    go false h q rest = rest q

pub number_none : (r : Rev) (cs : List Cluster) → number_of r cs ≡ None → (n : ℕ) → IsInTable cs r n → ⊥
number_none r cs e n t = some_at r cs e t.place t.there n t.within

given_some : (n : ℕ) (cs : List Cluster) (r : Rev) → given_by n [] cs ≡ Some r → IsInTable cs r n
given_some n [] r e = absurd (none_some r e)
given_some n (c ∷ cs) r e = go (gives n [] c) refl e (given_some n cs r)
  where
    go : (b : Bool) → gives n [] c ≡ b → (if b then Some (id_in n c) else given_by n [] cs) ≡ Some r → (given_by n [] cs ≡ Some r → IsInTable cs r n) → IsInTable (c ∷ cs) r n
    go true h q rest = subst (λ (s : Rev). IsInTable (c ∷ cs) s n) (one_some (id_in n c) r q) (in_first c cs (id_in n c) n (gives_within n c h))
    go false h q rest = in_later c cs r n (rest q)

given_at : (n : ℕ) (cs : List Cluster) → given_by n [] cs ≡ None → (i : ℕ) → i < length cs → (r : Rev) → IsWithin (at cs i) r n → ⊥
given_at n [] e i there r w = omega arith
given_at n (c ∷ cs) e zero there r w = absurd (none_some (id_in n c) (sym e ∙ rw (within_gives n c r w) refl))
given_at n (c ∷ cs) e (suc i) there r w = go (gives n [] c) refl e (λ q. given_at n cs q i (omega arith) r w)
  where
    go : (b : Bool) → gives n [] c ≡ b → (if b then Some (id_in n c) else given_by n [] cs) ≡ None → (given_by n [] cs ≡ None → ⊥) → ⊥
    go true h q rest = none_some (id_in n c) (sym q)
    go false h q rest = rest q

given_back : (n : ℕ) (cs : List Cluster) (r : Rev) → AreApart cs → IsInTable cs r n → given_by n [] cs ≡ Some r
given_back n cs r apart t = go (given_by n [] cs) refl
  where
    go : (o : Option Rev) → given_by n [] cs ≡ o → given_by n [] cs ≡ Some r
    go None e = absurd (given_at n cs e t.place t.there r t.within)
    go (Some s) e = e ∙ ap (λ (q : Rev). Some q) (one_id cs s r n apart (given_some n cs s e) t)

-- ## Final numbers

second_false : (a b : Bool) → b ≡ false → (a && b) ≡ false
second_false true b e = e
second_false false b e = refl

no_opening : (r : Rev) → 1 ≤ r.num → is_opening r ≡ false
no_opening r some = let test : (r.num == 0) ≡ false = grind (arith, nat_tests) in second_false (r.session == 0) (r.num == 0) test

final_is : (cs : List Cluster) (r : Rev) → 1 ≤ r.num → final_before cs [] r ≡ number_of r cs
final_is cs r some = ap (λ (b : Bool). if b then Some 0 else number_of r cs) (no_opening r some)

-- ## The number of an id, and the id of that number

-- a table gives a number of 64 bits to an id, and that number to no other
pub record IsNumbered (cs : List Cluster) (own have : ℕ) (r : Rev) : Type 0 where
  pub number : ℤ
  pub told : op_number_in cs [] own have r ≡ Some number
  pub short : IsShort number
  pub read : op_id_in cs [] own have number ≡ Some r

pub opening_numbered : (cs : List Cluster) (own have : ℕ) → IsNumbered cs own have opening
opening_numbered cs own have = record { number = pos 0; told = refl; short = (omega arith); read = refl }

module _ (cs : List Cluster) (own have : ℕ) (r : Rev) (some : 1 ≤ r.num) where
  pub final_numbered : AreApart cs → (n : ℕ) → n < 2 ^ 63 → number_of r cs ≡ Some n → IsNumbered cs own have r
  final_numbered apart n low e =
      let t : IsInTable cs r n = number_some r cs n e in
      let counted : 1 ≤ n = clusters.number_some cs r n apart t in
      let test : (n == 0) ≡ false = grind (arith, nat_tests) in
      record {
        number = pos n;
        told = ap (λ (o : Option ℕ). number_or_own o (is_own own have r) r) (final_is cs r some ∙ e);
        short = low;
        read = ap (λ (b : Bool). if b then Some opening else given_by n [] cs) test ∙ given_back n cs r apart t;
      }

  pub own_numbered : have < 2 ^ 63 → IsOwn own have r → number_of r cs ≡ None → IsNumbered cs own have r
  own_numbered low is e =
      let a : (r.session == own) ≡ true = let e = is.0 in grind (arith, nat_tests) in
      let b : nat_le 1 r.num ≡ true = let e = is.1 in grind (arith, nat_tests) in
      let d : nat_le r.num have ≡ true = let e = is.2 in grind (arith, nat_tests) in
      let none : final_before cs [] r ≡ None = final_is cs r some ∙ e in
      let its : is_own own have r ≡ true = rw (a, b, d) refl in
      let num : (r.num - 1) + 1 ≡ r.num = omega (arith, some) in
      let same : record { session = own; num = (r.num - 1) + 1 } ≡ r = rev_is (record { session = own; num = (r.num - 1) + 1 }) r (sym is.0) num in
      let found : own_id cs [] have r ≡ Some r = rw (d, none) refl in
      record {
        number = negsuc (r.num - 1);
        told = rw (none, its) refl;
        short = (let high = is.2 in omega (arith, low, high));
        read = ap (own_id cs [] have) same ∙ found;
      }
