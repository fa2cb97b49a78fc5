-- What is looked up in a row and in the list of schema entries.
use Rattle.std.proofs.Common.{◌≡◌, ℕ, suc, ◌+◌, ◌-◌, ◌<◌, Bool, true, false, cond, List, [], ◌∷◌, length, drop, get_or, map, filter, slice_get, Option, option_map, refl, sym, ap, ◌∙◌, arith}
use Rattle.st_marks.specs.declared.schemas.SchemaEntry.{SchemaEntry}
use Rattle.st_marks.specs.Document.{last_of, revs}
use Rattle.st_doc.proofs.Showing.{opened}
use Rattle.st_doc.proofs.Verdicts.{last_read, last_map}

-- the revision of the last entry
pub last_entry : (es : List SchemaEntry) → option_map (λ (e : SchemaEntry). e.rev) (slice_get es (length es - 1)) ≡ last_of (revs es)
last_entry [] = refl
last_entry (x ∷ xs) =
    ap (option_map (λ (e : SchemaEntry). e.rev)) (last_read x xs (length (x ∷ xs) - 1) (omega arith)) ∙ sym (last_map (λ (e : SchemaEntry). e.rev) x xs)

module _ {A B : Type 0} (f : A → B) (p : B → Bool) (xs : List A) (i : ℕ) (d x : A) (inside : i < length xs) (at : get_or xs i d ≡ x) where
  abbrev rest : List B
  rest = filter p (map f (drop (i + 1) xs))

  read : (b : Bool) → p (f x) ≡ b → (k : ℕ) → slice_get (filter p (map f (drop i xs))) k ≡ slice_get (cond b (f x ∷ rest) rest) k
  read b passes k = ap (λ l. slice_get l k) (opened f p xs i d x inside at ∙ ap (λ c. cond c (f x ∷ rest) rest) passes)

  -- an item that passes, and isn't the one looked for, is passed over
  pub one_less : (k m : ℕ) (whole : Option B) → p (f x) ≡ true → k ≡ suc m → slice_get (filter p (map f (drop i xs))) k ≡ whole → slice_get rest m ≡ whole
  one_less k m whole passes more so_far = sym (read true passes k ∙ ap (slice_get (f x ∷ rest)) more) ∙ so_far

  -- one that doesn't pass isn't counted
  pub not_counted : (k : ℕ) (whole : Option B) → p (f x) ≡ false → slice_get (filter p (map f (drop i xs))) k ≡ whole → slice_get rest k ≡ whole
  not_counted k whole passes so_far = sym (read false passes k) ∙ so_far
