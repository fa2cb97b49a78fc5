-- The names that wait on a client's branches.
use Rattle.std.proofs.Common.{List, Some, [], ap, arith, refl, suc, zero, ℕ, ◌+◌, ◌∷◌, ◌≡◌, ◌≤◌}
use Rattle.std.specs.List.{remove, slice_get}
use Rattle.std.specs.Option.{option_map_or}
use Rattle.st_lists.specs.Clients.{joined_of}
use Rattle.st_lists.specs.Names.{names_in, names_made, names_on, names_on_all, unsequenced}
use Rattle.st_lists.specs.declared.lists.Branch.{Branch}
use Rattle.st_lists.specs.declared.lists.Client.{Client}

-- the names that wait on a branch, and those on the others
pub names_apart : (bs : List Branch) (j : ℕ) (b : Branch) → slice_get bs j ≡ Some b → names_on_all bs ≡ names_on b + names_on_all (remove bs j)
names_apart [] j b e = absurd (cc)
names_apart (x ∷ xs) zero b e = let same : x ≡ b = cc in ap (λ (y : Branch). names_on y + names_on_all xs) same
names_apart (x ∷ xs) (suc j) b e =
    let rest = names_apart xs j b e in
    let now : names_on_all (remove (x ∷ xs) (suc j)) ≡ names_on x + names_on_all (remove xs j) = refl in
    let was : names_on_all (x ∷ xs) ≡ names_on x + names_on_all xs = refl in
    omega (arith, rest, now, was)

-- so those are at most those that wait at the client
pub names_among : (c : Client) (j : ℕ) (b : Branch) → slice_get c.branches j ≡ Some b → names_on b ≤ unsequenced c
names_among c j b e =
    let sum : unsequenced c ≡ (option_map_or names_made (joined_of c) 0 + names_in c.pending) + names_on_all c.branches = refl in
    omega (arith, sum, names_apart c.branches j b e)
