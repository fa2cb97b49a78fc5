-- A branch, its place and its head: what is kept stands for the lists where they change.
use Rattle.std.proofs.Common.{List, Some, [], ap, arith, refl, subst, suc, sym, zero, ℕ, ◌+◌, ◌∷◌, ◌≡◌, ◌≢◌}
use Rattle.std.specs.List.{slice_get, slice_set}
use Rattle.std.specs.Option.{option_and_then}
use Rattle.std.specs.Prelude.{option_map}
use Rattle.st_heads.specs.declared.heads.Head.{Head}
use Rattle.st_lists.specs.Lines.{branch_line, branch_of, line_of}
use Rattle.st_lists.specs.Names.{names_in, names_on, names_on_all}
use Rattle.st_lists.specs.declared.lists.Branch.{Branch}
use Rattle.st_lists.specs.declared.lists.Client.{Client}
use Rattle.st_lists.specs.declared.lists.Entry.{Entry}
use Rattle.st_lists.specs.declared.lists.Transaction.{Transaction}
use Rattle.st_marks.specs.Document.{Document}
use Rattle.st_script.specs.Header.{HeaderView}
use Rattle.st_world_laws.proofs.Parts.{names_edited}
use Rattle.st_plain.specs.Replicas.{AreHeads, IsHeadOf, IsReplicaOf}
use Rattle.st_world.specs.World.{opening_document}
use Rattle.st_heads.specs.declared.replica.Replica.{Replica}
use Rattle.st_plain_edits.specs.BranchEdits.{IsChangedAt}

-- ## Lines

-- the line of a branch's number
pub branch_line_of : (c : Client) (number : ℕ) (b : Branch) → number ≢ 0 → branch_of c number ≡ Some b → line_of c number ≡ Some (branch_line b)
branch_line_of c zero b other e = absurd (other refl)
branch_line_of c (suc n) b other e = ap (option_map branch_line) e

-- ## Heads

module _ (O : Document) (log : List Entry) where
  pub heads_get : (bs : List Branch) (ks : List Head) (j : ℕ) (b : Branch) (g : Head) → AreHeads O log bs ks → slice_get bs j ≡ Some b → slice_get ks j ≡ Some g → IsHeadOf O log b g
  heads_get [] ks j b g w p q = absurd (cc)
  heads_get (x ∷ bs) [] j b g w p q = absurd w
  heads_get (x ∷ bs) (y ∷ ks) zero b g w p q =
      let same_b : x ≡ b = cc in
      let same_g : y ≡ g = cc in
      subst (λ z. IsHeadOf O log z g) same_b (subst (IsHeadOf O log x) same_g w.0)
  heads_get (x ∷ bs) (y ∷ ks) (suc j) b g w p q = heads_get bs ks j b g w.1 p q

  pub heads_some : (bs : List Branch) (ks : List Head) (j : ℕ) (b : Branch) → AreHeads O log bs ks → slice_get bs j ≡ Some b → (g : Head) × (slice_get ks j ≡ Some g)
  heads_some [] ks j b w p = absurd (cc)
  heads_some (x ∷ bs) [] j b w p = absurd w
  heads_some (x ∷ bs) (y ∷ ks) zero b w p = (y, refl)
  heads_some (x ∷ bs) (y ∷ ks) (suc j) b w p = heads_some bs ks j b w.1 p

  pub heads_set : (bs : List Branch) (ks : List Head) (j : ℕ) (b : Branch) (g : Head) → AreHeads O log bs ks → IsHeadOf O log b g → AreHeads O log (slice_set bs j b) (slice_set ks j g)
  heads_set [] [] j b g w x = tt
  heads_set [] (y ∷ ks) j b g w x = absurd w
  heads_set (z ∷ bs) [] j b g w x = absurd w
  heads_set (z ∷ bs) (y ∷ ks) zero b g w x = (x, w.1)
  heads_set (z ∷ bs) (y ∷ ks) (suc j) b g w x = (w.0, heads_set bs ks j b g w.1 x)

-- how many names wait on all branches where one changes
pub names_set : (bs : List Branch) (j : ℕ) (b d : Branch) → slice_get bs j ≡ Some b → names_on_all (slice_set bs j d) + names_on b ≡ names_on_all bs + names_on d
names_set [] j b d e = absurd (cc)
names_set (x ∷ bs) zero b d e = let same : x ≡ b = cc in sum (names_on d) (names_on_all bs) (names_on b) (names_on x) (sym (ap (λ (z : Branch). names_on z) same))
  where
    sum : (m n p q : ℕ) → p ≡ q → (m + n) + p ≡ (q + n) + m
    sum m n p q e = omega (arith, e)
names_set (x ∷ bs) (suc j) b d e = sum (names_on x) (names_on_all (slice_set bs j d)) (names_on b) (names_on_all bs) (names_on d) (names_set bs j b d e)
  where
    sum : (m n p q r : ℕ) → n + p ≡ q + r → (m + n) + p ≡ (m + q) + r
    sum m n p q r e = omega (arith, e)

pub names_at : (bs : List Branch) (j : ℕ) (b : Branch) → slice_get bs j ≡ Some b → (rest : ℕ) × (names_on_all bs ≡ names_on b + rest)
names_at [] j b e = absurd (cc)
names_at (x ∷ bs) zero b e = let same : x ≡ b = cc in (names_on_all bs, ap (λ (z : Branch). names_on z + names_on_all bs) same)
names_at (x ∷ bs) (suc j) b e =
    let r = names_at bs j b e in
    (names_on x + r.0, sum (names_on x) (names_on_all bs) (names_on b) r.0 r.1)
  where
    sum : (m n p q : ℕ) → n ≡ p + q → m + n ≡ p + (m + q)
    sum m n p q e = omega (arith, e)

-- what is kept stands for the lists where a branch, its head and the counts change
pub kept_there : (h : HeaderView) (log : List Entry) (c : Client) (k : Replica) (j : ℕ) (b d : Branch) (g : Head) (ids n : ℕ) → IsReplicaOf h log c k → slice_get c.branches j ≡ Some b → IsHeadOf (opening_document h) log d g
    → n + names_on b ≡ k.names + names_on d → IsReplicaOf h log (record c { ids = ids; branches = slice_set c.branches j d }) (record k { branches = slice_set k.branches j g; names = n })
kept_there h log c k j b d g ids n w there x names = record {
  received = w.received;
  own = w.own;
  edited = w.edited;
  branches = heads_set (opening_document h) log c.branches k.branches j d g w.branches x;
  names = sum n (names_on b) k.names (names_on d) (names_edited (option_and_then (λ (t : Transaction). t.joined) c.transaction) + names_in c.pending) (names_on_all c.branches) (names_on_all (slice_set c.branches j d)) names w.names (names_set c.branches j b d there);
}
  where
    sum : (n b k d x all now : ℕ) → n + b ≡ k + d → k ≡ x + all → now + b ≡ all + d → n ≡ x + now
    sum n b k d x all now e f g = omega (arith, e, f, g)

pub kept_changed : (h : HeaderView) (log : List Entry) (c d : Client) (k l : Replica) (j : ℕ) (b x : Branch) (g : Head) → IsReplicaOf h log c k → slice_get c.branches j ≡ Some b → IsChangedAt c k j x g d l → IsHeadOf (opening_document h) log x g
    → l.names + names_on b ≡ k.names + names_on x → IsReplicaOf h log d l
kept_changed h log c d k l j b x g w there changed head names =
    subst (λ y. IsReplicaOf h log y l) (sym changed.0) (subst (IsReplicaOf h log (record c { ids = d.ids; branches = slice_set c.branches j x })) (sym changed.1) (kept_there h log c k j b x g d.ids l.names w there head names))
