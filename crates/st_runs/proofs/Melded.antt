-- A run that takes in another one, among the kept runs.
use Rattle.std.proofs.Common.{◌≡◌, ◌<◌, ◌-◌, ℕ, zero, suc, List, [], ◌∷◌, ◌++◌, length, get_or, set, sym, ◌∙◌, ap, arith}
use Rattle.std.specs.Prelude.{MatchOption, Option, Some, None, slice_set, slice_index_or}
use Rattle.std.specs.List.{flat_map}
use Rattle.std.proofs.lemmas.List.{append-nil, append_assoc, set-get_or}

-- the last run lists more items: so does the whole
pub longer_last : {R A : Type 0} (f : R → List A) (xs : List R) (n : ℕ) (d new : R) (more : List A) → suc n ≡ length xs → f new ≡ f (get_or xs n d) ++ more → flat_map f (set xs n new) ≡ flat_map f xs ++ more
longer_last f [] n d new more h e = absurd (omega (arith, h))
longer_last {A = A} f (x ∷ []) zero d new more h e =
    append-nil (f new) ∙ e ∙ ap (λ (l : List A). l ++ more) (sym (append-nil (f x)))
longer_last f (x ∷ []) (suc n) d new more h e = absurd (omega (arith, h))
longer_last f (x ∷ y ∷ ys) zero d new more h e = absurd (omega (arith, h))
longer_last {A = A} f (x ∷ y ∷ ys) (suc n) d new more h e =
    let ih : flat_map f (set (y ∷ ys) n new) ≡ flat_map f (y ∷ ys) ++ more = longer_last f (y ∷ ys) n d new more (omega (arith, h)) e in
    ap (λ (l : List A). f x ++ l) ih ∙ sym (append_assoc (f x) (flat_map f (y ∷ ys)) more)

pub melded : {R A : Type 0} (f : R → List A) (xs : List R) (n : ℕ) (last new run : R) (back : Option R) → n ≡ length xs → 0 < n → last ≡ slice_index_or xs (n - 1) last → MatchOption back (f new ≡ f last ++ f run) (λ b. (b ≡ run) × (new ≡ last)) → MatchOption back (flat_map f (slice_set xs (n - 1) new) ≡ flat_map f xs ++ f run) (λ b. (b ≡ run) × (slice_set xs (n - 1) new ≡ xs))
melded {R = R} f xs n last new run None h some is m = longer_last f xs (n - 1) last new (f run) (omega (arith, h, some)) (m ∙ ap (λ (r : R). f r ++ f run) is)
melded {R = R} f xs n last new run (Some b) h some is m = (m.0, ap (λ (r : R). set xs (n - 1) r) (m.1 ∙ is) ∙ set-get_or xs (n - 1) last)
