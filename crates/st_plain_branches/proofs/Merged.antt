-- A merge is told by the branch, its parent's line and that one's head.
use Rattle.std.proofs.Common.{List, None, Option, Some, ap, arith, length, subst, suc, sym, zero, ℕ, ◌++◌, ◌∙◌, ◌≡◌, ◌≢◌, ◌≤◌, ◌∷◌, [], refl}
use Rattle.std.specs.List.{AllByRecursion, find, fold, remove, slice_get, slice_set}
use Rattle.std.specs.Option.{option_and_then}
use Rattle.std.specs.Prelude.{option_map, ◌==◌}
use Rattle.st_ids.specs.declared.names.Rev.{Rev}
use Rattle.st_heads.specs.Heads.{HasCarried}
use Rattle.st_heads.specs.declared.heads.Head.{Head}
use Rattle.st_heads.specs.declared.ways.Carried.{Carried}
use Rattle.st_lemmas.proofs.Options.{one_some}
use Rattle.st_lists.specs.Clients.{with_commit}
use Rattle.st_lists.specs.Lines.{Line, branch_line, branch_of, line_of}
use Rattle.st_lists.specs.declared.lists.Branch.{Branch}
use Rattle.st_lists.specs.declared.lists.Client.{Client}
use Rattle.st_marks.specs.declared.intents.Intent.{Intent}
use Rattle.st_script.specs.declared.answer.Answer.{Answer}
use Rattle.st_script.specs.declared.answer.Answer.TheVariants.{Merge}
use Rattle.st_script.specs.declared.refusal.Refusal.{Refusal}
use Rattle.st_plain_branches.proofs.Branched.{found_at, found_by}
use Rattle.st_world.specs.Branches.{refusal_to_merge}
use Rattle.st_plain_branches.specs.declared.branches.LineState.{LineState}
use Rattle.st_heads.specs.declared.replica.Replica.{Replica}
use Rattle.st_plain_branches.specs.Branches.{HasMerged, HasMergedInto, state_of, void_among, without_head, without_place}
use Rattle.st_heads.specs.Replicas.{head_of}
use Rattle.st_lists.specs.Lines.{branch_place}

-- ## Into a line

pub merged_main : (c d : Client) (k l : Replica) (n : ℕ) (Ns : List Intent) (revs : List Rev) → n ≡ 0 → d ≡ fold (λ x N. with_commit x N) c Ns → HasCarried k.main Ns l.main → l ≡ record k { main = l.main }
    → ((ks : List Carried) → l.main.own ≡ k.main.own ++ ks → revs ≡ void_among Ns ks) → (p : Head) → head_of c k n ≡ Some p → HasMergedInto c k n p Ns d l (Merge revs)
merged_main c d k l zero Ns revs z is_d run is_l void p at =
    let same : k.main ≡ p = one_some k.main p at in
    subst (λ q. HasMergedInto c k 0 q Ns d l (Merge revs)) same (l.main, run.more, run.run, run.own, run.edited, is_d, is_l, ap (λ r. Merge r) (void run.more run.own))
merged_main c d k l (suc n) Ns revs z is_d run is_l void p at = absurd (cc)

pub merged_branch : (c d : Client) (k l : Replica) (n j : ℕ) (b x : Branch) (g h : Head) (Ns : List Intent) (revs : List Rev) → n ≢ 0 → branch_place n c.branches ≡ Some j → slice_get c.branches j ≡ Some b → slice_get k.branches j ≡ Some g
    → x ≡ record b { own = b.own ++ Ns } → HasCarried g Ns h → ((ks : List Carried) → h.own ≡ g.own ++ ks → revs ≡ void_among Ns ks) → d ≡ record c { branches = slice_set c.branches j x } → l ≡ record k { branches = slice_set k.branches j h }
    → (p : Head) → head_of c k n ≡ Some p → HasMergedInto c k n p Ns d l (Merge revs)
merged_branch c d k l zero j b x g h Ns revs other place at at_g is_x run void is_d is_l p at_p = absurd (other refl)
merged_branch c d k l (suc n) j b x g h Ns revs other place at at_g is_x run void is_d is_l p at_p =
    let found : head_of c k (suc n) ≡ Some g = ap (option_and_then (λ i. slice_get k.branches i)) place ∙ at_g in
    let same : g ≡ p = one_some g p (sym found ∙ at_p) in
    subst (λ q. HasMergedInto c k (suc n) q Ns d l (Merge revs)) same
    (j, b, h, run.more, place, at, run.run, run.own, run.edited, is_d ∙ ap (λ (y : Branch). record c { branches = slice_set c.branches j y }) is_x, is_l, ap (λ r. Merge r) (void run.more run.own))

-- the head of a branch is at its place
pub head_by : (c : Client) (k : Replica) (n j : ℕ) (g : Head) → n ≢ 0 → branch_place n c.branches ≡ Some j → slice_get k.branches j ≡ Some g → head_of c k n ≡ Some g
head_by c k zero j g other place at = absurd (other refl)
head_by c k (suc n) j g other place at = ap (option_and_then (λ i. slice_get k.branches i)) place ∙ at

-- a branch is at its place
pub place_there : (bs : List Branch) (n j : ℕ) → branch_place n bs ≡ Some j → slice_get bs j ≡ None → ⊥
place_there bs n j place none = differ (slice_get bs j) none (found_by n bs j place).2
  where
    differ : (o : Option Branch) → o ≡ None → {b : Branch} → o ≡ Some b → ⊥
    differ o e f = cc

-- ## A branch into its parent

-- what is told of a merge by the branch, and its parent's state, is so for the line of that state
pub merge_as : (c : Client) (k : Replica) (n i : ℕ) (x : Branch) (q : LineState) (o : Option Refusal) (P : ℕ → Branch → Head → Option Refusal → Type 0) → branch_place n c.branches ≡ Some i → slice_get c.branches i ≡ Some x
    → option_map state_of (line_of c x.parent) ≡ Some q → ((l : Line) → state_of l ≡ q → o ≡ refusal_to_merge c x.number x l)
    → ((p : Head) → head_of (without_place c i) (without_head k i) x.parent ≡ Some p → P i x p o)
    → (j : ℕ) (b : Branch) (l : Line) (p : Head) → branch_place n c.branches ≡ Some j → slice_get c.branches j ≡ Some b → line_of c b.parent ≡ Some l → head_of (without_place c j) (without_head k j) b.parent ≡ Some p
    → P j b p (refusal_to_merge c n b l)
merge_as c k n i x q o P place at state refusal holds j b l p place_j at_b line at_p =
    let same : i ≡ j = one_some i j (sym place ∙ place_j) in
    let same_b : x ≡ b = one_some x b (sym at ∙ ap (slice_get c.branches) same ∙ at_b) in
    let f = found_by n c.branches i place in
    let number : x.number ≡ n = ap (λ (y : Branch). y.number) (one_some x f.0 (sym at ∙ f.2)) ∙ f.3 in
    let here : line_of c x.parent ≡ Some l = ap (λ (y : Branch). line_of c y.parent) same_b ∙ line in
    let same_q : state_of l ≡ q = one_some (state_of l) q (sym (ap (option_map state_of) here) ∙ state) in
    let why : o ≡ refusal_to_merge c n x l = refusal l same_q ∙ ap (λ m. refusal_to_merge c m x l) number in
    let head : head_of (without_place c i) (without_head k i) x.parent ≡ Some p = ap (λ m. head_of (without_place c m) (without_head k m) x.parent) same ∙ ap (λ (y : Branch). head_of (without_place c j) (without_head k j) y.parent) same_b ∙ at_p in
    subst (λ y. P j y p (refusal_to_merge c n y l)) same_b (subst (λ m. P m x p (refusal_to_merge c n x l)) same (subst (P i x p) why (holds p head)))

-- what is told of a merge by what is left without the branch, is so for the branch at its place
pub taken_as : (c e d : Client) (k m l : Replica) (i : ℕ) (x y : Branch) (Ns : List Intent) (a : Answer) → e ≡ without_place c i → m ≡ without_head k i → Ns ≡ y.own → y ≡ x
    → ((p : Head) → head_of e m y.parent ≡ Some p → HasMergedInto e m y.parent p Ns d l a)
    → (p : Head) → head_of (without_place c i) (without_head k i) x.parent ≡ Some p → HasMerged c k i x p None d l a
taken_as c e d k m l i x y Ns a is_e is_m is_own same told =
    subst (λ (z : Branch). (p : Head) → head_of (without_place c i) (without_head k i) z.parent ≡ Some p → HasMergedInto (without_place c i) (without_head k i) z.parent p z.own d l a) same
    (subst (λ Ms. (p : Head) → head_of (without_place c i) (without_head k i) y.parent ≡ Some p → HasMergedInto (without_place c i) (without_head k i) y.parent p Ms d l a) is_own
    (subst (λ r. (p : Head) → head_of (without_place c i) r y.parent ≡ Some p → HasMergedInto (without_place c i) r y.parent p Ns d l a) is_m
    (subst (λ f. (p : Head) → head_of f m y.parent ≡ Some p → HasMergedInto f m y.parent p Ns d l a) is_e told)))

-- a branch has few commits of its own
pub few_at : (bs : List Branch) (j : ℕ) (b : Branch) → AllByRecursion (λ (b : Branch). length b.own ≤ 256) bs → slice_get bs j ≡ Some b → length b.own ≤ 256
few_at [] j b all e = absurd (cc)
few_at (x ∷ bs) zero b all e = subst (λ (y : Branch). length y.own ≤ 256) (one_some x b e) all.0
few_at (x ∷ bs) (suc j) b all e = few_at bs j b all.1 e

-- a parent's line has few commits of its own
pub parent_few : (c : Client) (n : ℕ) (q : LineState) → AllByRecursion (λ (b : Branch). length b.own ≤ 256) c.branches → length c.pending ≤ 256 → option_map state_of (line_of c n) ≡ Some q → q.own ≤ 256
parent_few c zero q own pending e = subst (λ (s : LineState). s.own ≤ 256) (some_same e) pending
  where
    some_same : {x y : LineState} → Some x ≡ Some y → x ≡ y
    some_same {x} {y} e = one_some x y e
parent_few c (suc n) q own pending e = go (branch_of c (suc n)) (few c.branches own) e
  where
    few : (bs : List Branch) → AllByRecursion (λ (b : Branch). length b.own ≤ 256) bs → (b : Branch) → find (λ (y : Branch). y.number == suc n) bs ≡ Some b → length b.own ≤ 256
    few bs own b f = let r = found_at (suc n) bs b f in few_at bs r.0 b own r.2

    go : (o : Option Branch) → ((b : Branch) → o ≡ Some b → length b.own ≤ 256) → option_map state_of (option_map branch_line o) ≡ Some q → q.own ≤ 256
    go None f e = absurd (cc)
    go (Some b) f e = subst (λ (s : LineState). s.own ≤ 256) (one_some (state_of (branch_line b)) q e) (f b refl)

-- lists without what is at a place
pub removed_many : {X Y : Type 0} (xs : List X) (ys : List Y) (j : ℕ) → length xs ≡ length ys → length (remove xs j) ≡ length (remove ys j)
removed_many [] [] zero e = refl
removed_many [] [] (suc j) e = refl
removed_many [] (y ∷ ys) j e = absurd (omega (arith, e))
removed_many (x ∷ xs) [] j e = absurd (omega (arith, e))
removed_many (x ∷ xs) (y ∷ ys) zero e = omega (arith, e)
removed_many (x ∷ xs) (y ∷ ys) (suc j) e = let rest : length (remove xs j) ≡ length (remove ys j) = removed_many xs ys j (omega (arith, e)) in ap suc rest
