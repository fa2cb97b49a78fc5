-- Tests of all nodes that are put and of all registers that are cleared.
use Rattle.std.proofs.Common.{◌≡◌, ◌↔◌, Bool, true, false, ◌&&◌, List, [], ◌∷◌, Option, Some, None, IsSome, refl, sym, ap, ◌∙◌, inl, inr, option_map}
use Rattle.std.specs.List.{find, list_all}
use Rattle.st_ids.specs.Listing.{Has}
use Rattle.st_ids.specs.Order.{same_field, same_node}
use Rattle.st_ids.specs.declared.names.FieldId.{FieldId}
use Rattle.st_ids.specs.declared.names.NodeId.{NodeId}
use Rattle.st_ids.proofs.Orders.{same_field-itself, same_node-itself}
use Rattle.st_marks.specs.Intent.{clears, put_of}
use Rattle.st_marks.specs.declared.intents.Intent.{Intent}
use Rattle.st_marks.specs.declared.intents.Put.{Put}
use Rattle.st_lemmas.proofs.Options.{IsSome-Some}
use Rattle.st_marks.proofs.Lookups.{clears-has, put-has}
use Rattle.st_edits.proofs.Fits.{all_pass}
use Rattle.st_marks.proofs.Members.{has-any, none-has}

all_passed : {A : Type 0} (p : A → Bool) (xs : List A) → ((x : A) → Has xs x → p x ≡ true) → list_all p xs ≡ true
all_passed p [] h = refl
all_passed p (x ∷ xs) h = ap (λ b. b && list_all p xs) (h x (inl refl)) ∙ all_passed p xs (λ y k. h y (inr k))

-- the node of a put is put
put_some : (N : Intent) (p : Put) → Has N.put p → IsSome (put_of N p.node)
put_some N p h = go (find (λ (q : Put). same_node q.node p.node) N.put) refl
  where
    go : (o : Option Put) → find (λ (q : Put). same_node q.node p.node) N.put ≡ o → IsSome (option_map (λ (p : Put). p.to) (find (λ (q : Put). same_node q.node p.node) N.put))
    go None e =
        let bad : true ≡ false = sym (same_node-itself p.node) ∙ none-has (λ (q : Put). same_node q.node p.node) N.put p e h in
        absurd (let b : true ≡ false = bad in cc)
    go (Some q) e = rw e refl

-- a test of all that is put, by a test of each
pub puts_all : (N : Intent) (q : NodeId → Bool) (P : NodeId → Type 0) → ((m : NodeId) → (q m ≡ true) ↔ P m)
    → (list_all (λ (p : Put). q p.node) N.put ≡ true) ↔ ((m : NodeId) → IsSome (put_of N m) → P m)
puts_all N q P each = (
  λ e m s. (let to = IsSome-Some (put_of N m) s in (each m).0 (all_pass (λ (p : Put). q p.node) N.put (record { node = m; to = to.0 }) e (put-has N m to.0 to.1))),
  λ h. all_passed (λ (p : Put). q p.node) N.put (λ p k. (each p.node).1 (h p.node (put_some N p k))),
)

pub clears_all : (N : Intent) (q : FieldId → Bool) (P : FieldId → Type 0) → ((f : FieldId) → (q f ≡ true) ↔ P f)
    → (list_all q N.clear ≡ true) ↔ ((f : FieldId) → clears N f ≡ true → P f)
clears_all N q P each = (
  λ e f c. (each f).0 (all_pass q N.clear f e (clears-has N.clear f c)),
  λ h. all_passed q N.clear (λ f k. (each f).1 (h f (has-any (λ (g : FieldId). same_field g f) N.clear f k (same_field-itself f)))),
)
