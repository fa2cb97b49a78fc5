-- Why a name is refused.
use Rattle.std.proofs.Common.{◌≡◌, ◌⊎◌, inr, ℕ, sym, subst, ap, ◌∙◌, List, Option, Some, None}
use Rattle.std.specs.Prelude.{Result, Ok, Err, IfErr, ℤ}
use Rattle.std.specs.Option.{ok_or}
use Rattle.st_ids.specs.declared.names.Rev.{Rev}
use Rattle.st_json.specs.declared.fault.Shape.{Shape}
use Rattle.st_clusters.specs.Names.{IsOp}
use Rattle.st_clusters.specs.declared.ids.Cluster.{Cluster}
use Rattle.st_clusters.specs.declared.ids.IdRange.{IdRange}
use Rattle.st_idcodec.specs.declared.names.CodecFault.{CodecFault}
use Rattle.st_idcodec.specs.declared.names.CodecFault.TheVariants.{Shape as NoForm, Unknown}

pub not_answered : {A E : Type 0} (e : E) (a : A) (B : Type 0) → Err e ≡ Ok a → B
not_answered e a B h = absurd (cc h)

the_number : (o : Option ℤ) (z id : ℤ) (s : Shape) → Ok id ≡ ok_or o s → o ≡ Some z → id ≡ z
the_number o z id s h e = let same : Ok id ≡ ok_or (Some z) s = rw e at h in cc same

abbrev first_of : ℤ → Option (ℤ × ℕ) → ℤ
first_of a None = a
first_of a (Some p) = p.0

first_same : (a : ℤ) (m : ℕ) (b : ℤ) (n : ℕ) → ◌≡◌ {A = Option (ℤ × ℕ)} (Some (a, m)) (Some (b, n)) → a ≡ b
first_same a m b n h = ap (λ (o : Option (ℤ × ℕ)). first_of a o) h

pub no_rev : {A : Type 0} (answer : Result A CodecFault) (cs : List Cluster) (later : List IdRange) (own have : ℕ) (o : Option ℤ) (id : ℤ) (s : Shape) → Ok id ≡ ok_or o s
    → IfErr answer (λ f. (f ≡ Unknown) × ((r : Rev) → ¬ IsOp cs later own have r id))
    → IfErr answer (λ f. (f ≡ NoForm) ⊎ ((f ≡ Unknown) × ((z : ℤ) (r : Rev) → o ≡ Some z → ¬ IsOp cs later own have r z)))
no_rev (Ok a) cs later own have o id s read h = tt
no_rev (Err f) cs later own have o id s read h = inr (h.0, λ z r e k. h.1 r (subst (λ (x : ℤ). IsOp cs later own have r x) (sym (the_number o z id s read e)) k))

pub no_atom : {A : Type 0} (answer : Result A CodecFault) (cs : List Cluster) (later : List IdRange) (own have : ℕ) (o : Option (ℤ × ℕ)) (id : ℤ) (place : ℕ) → o ≡ Some (id, place)
    → IfErr answer (λ f. (f ≡ Unknown) × ((r : Rev) → ¬ IsOp cs later own have r id))
    → IfErr answer (λ f. (f ≡ NoForm) ⊎ ((f ≡ Unknown) × ((z : ℤ) (n : ℕ) (r : Rev) → o ≡ Some (z, n) → ¬ IsOp cs later own have r z)))
no_atom (Ok a) cs later own have o id place read h = tt
no_atom (Err f) cs later own have o id place read h = inr (h.0, λ z n r e k. h.1 r (subst (λ (x : ℤ). IsOp cs later own have r x) (sym (first_same id place z n (sym read ∙ e))) k))
