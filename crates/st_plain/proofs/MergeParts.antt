-- The lines and the heads that stay where the branch at a place is taken away.
use Rattle.std.proofs.Common.{Bool, List, None, Option, Some, [], ap, arith, cond, false, length, refl, suc, sym, true, zero, ℕ, ◌∙◌, ◌∷◌, ◌≡◌, ◌≢◌}
use Rattle.std.specs.List.{remove, slice_get}
use Rattle.std.specs.Option.{option_and_then}
use Rattle.std.specs.Prelude.{option_map, ◌==◌}
use Rattle.st_doc.specs.Doc.{document_of}
use Rattle.st_heads.specs.declared.heads.Head.{Head}
use Rattle.st_ids.specs.declared.names.Rev.{Rev}
use Rattle.st_lists.specs.Lines.{branch_place}
use Rattle.st_plain_branches.specs.Branches.{HasMergedInto, void_among, without_head, without_place}
use Rattle.st_heads.specs.Replicas.{head_of}
use Rattle.st_lists.specs.declared.lists.Branch.{Branch}
use Rattle.st_lists.specs.declared.lists.Client.{Client}
use Rattle.st_marks.specs.declared.intents.Intent.{Intent}
use Rattle.st_script.specs.declared.answer.Answer.{Answer}
use Rattle.st_script.specs.declared.answer.Answer.TheVariants.{Merge}
use Rattle.st_plain.proofs.BranchSteps.{void_as}
use Rattle.st_plain_branches.proofs.Branched.{position_step}
use Rattle.st_world_laws.proofs.Branching.{is_not}
use Rattle.st_lists.specs.Voids.{AreVoid}
use Rattle.st_heads.specs.declared.replica.Replica.{Replica}

-- the head of a number stays where the branch of another goes
pub head_left : (n : ℕ) (bs : List Branch) (ks : List Head) (j : ℕ) (b : Branch) → slice_get bs j ≡ Some b → b.number ≢ n → length ks ≡ length bs
    → option_and_then (λ i. slice_get (remove ks j) i) (branch_place n (remove bs j)) ≡ option_and_then (λ i. slice_get ks i) (branch_place n bs)
head_left n [] ks j b at other many = absurd (cc)
head_left n (x ∷ bs) [] j b at other many = absurd (omega (arith, many))
head_left n (x ∷ bs) (y ∷ ks) zero b at other many =
    let same : x ≡ b = cc in
    let no : (x.number == n) ≡ false = is_not x.number n (λ e. other (ap (λ (z : Branch). z.number) (sym same) ∙ e)) in
    sym (ap (option_and_then (λ i. slice_get (y ∷ ks) i)) (position_step (λ (z : Branch). z.number == n) x bs ∙ ap (λ t. cond t (Some 0) (option_map suc (branch_place n bs))) no) ∙ shifted (branch_place n bs))
  where
    shifted : (o : Option ℕ) → option_and_then (λ i. slice_get (y ∷ ks) i) (option_map suc o) ≡ option_and_then (λ i. slice_get ks i) o
    shifted None = refl
    shifted (Some i) = refl
head_left n (x ∷ bs) (y ∷ ks) (suc j) b at other many = go (x.number == n) refl (head_left n bs ks j b at other (omega (arith, many)))
  where
    at_step : (xs : List Branch) (t : Bool) → (x.number == n) ≡ t → branch_place n (x ∷ xs) ≡ cond t (Some 0) (option_map suc (branch_place n xs))
    at_step xs t e = position_step (λ (z : Branch). z.number == n) x xs ∙ ap (λ t. cond t (Some 0) (option_map suc (branch_place n xs))) e

    shifted : (ks : List Head) (o : Option ℕ) → option_and_then (λ i. slice_get (y ∷ ks) i) (option_map suc o) ≡ option_and_then (λ i. slice_get ks i) o
    shifted ks None = refl
    shifted ks (Some i) = refl

    go : (t : Bool) → (x.number == n) ≡ t → option_and_then (λ i. slice_get (remove ks j) i) (branch_place n (remove bs j)) ≡ option_and_then (λ i. slice_get ks i) (branch_place n bs)
        → option_and_then (λ i. slice_get (y ∷ remove ks j) i) (branch_place n (x ∷ remove bs j)) ≡ option_and_then (λ i. slice_get (y ∷ ks) i) (branch_place n (x ∷ bs))
    go true e rest = ap (option_and_then (λ i. slice_get (y ∷ remove ks j) i)) (at_step (remove bs j) true e) ∙ sym (ap (option_and_then (λ i. slice_get (y ∷ ks) i)) (at_step bs true e))
    go false e rest =
        ap (option_and_then (λ i. slice_get (y ∷ remove ks j) i)) (at_step (remove bs j) false e) ∙ shifted (remove ks j) (branch_place n (remove bs j)) ∙ rest
        ∙ sym (shifted ks (branch_place n bs)) ∙ sym (ap (option_and_then (λ i. slice_get (y ∷ ks) i)) (at_step bs false e))

-- the same of a client and of what is kept of it
pub head_beside : (c : Client) (k : Replica) (n j : ℕ) (b : Branch) → slice_get c.branches j ≡ Some b → b.number ≢ n → length k.branches ≡ length c.branches → head_of (without_place c j) (without_head k j) n ≡ head_of c k n
head_beside c k zero j b at other many = refl
head_beside c k (suc n) j b at other many = head_left (suc n) c.branches k.branches j b at other many

-- what was merged is told with those that are void
pub merged_void : (e d : Client) (q m : Replica) (n : ℕ) (p : Head) (Ns : List Intent) (a : Answer) → HasMergedInto e q n p Ns d m a → (void : List Rev) × AreVoid (document_of p.doc) Ns void × (a ≡ Merge void)
merged_void e d q m zero p Ns a done = (void_among Ns done.1, void_as (document_of p.doc) (document_of done.0.doc) Ns done.1 done.2, done.7)
merged_void e d q m (suc n) p Ns a done = (void_among Ns done.3, void_as (document_of p.doc) (document_of done.2.doc) Ns done.3 done.6, done.11)
