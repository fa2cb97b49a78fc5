-- A rebase is told by the branch, its parent's line and that one's head.
use Rattle.std.proofs.Common.{None, Some, ap, cond, false, subst, sym, ℕ, ◌∙◌, ◌≡◌}
use Rattle.std.specs.List.{slice_get, slice_set}
use Rattle.std.specs.Prelude.{is_some, option_map}
use Rattle.st_doc.specs.Doc.{document_of}
use Rattle.st_heads.specs.Remembered.{AreCarried}
use Rattle.st_heads.specs.declared.heads.Head.{Head}
use Rattle.st_lemmas.proofs.Options.{one_some}
use Rattle.st_lists.specs.Lines.{Line, line_of}
use Rattle.st_lists.specs.declared.lists.Branch.{Branch}
use Rattle.st_lists.specs.declared.lists.Client.{Client}
use Rattle.st_script.specs.declared.answer.Answer.{Answer}
use Rattle.st_script.specs.declared.answer.Answer.TheVariants.{Rebase}
use Rattle.st_script.specs.declared.refusal.Refusal.TheVariants.{Unfinished}
use Rattle.st_world.specs.Branches.{refusal_to_rebase}
use Rattle.st_plain_branches.specs.declared.branches.Ground.{Ground}
use Rattle.st_heads.specs.declared.replica.Replica.{Replica}
use Rattle.st_plain_branches.specs.Branches.{HasRebased, ground_of, void_among, with_ground}
use Rattle.st_heads.specs.Replicas.{head_of}
use Rattle.st_lists.specs.Lines.{branch_place}

-- the place, the branch, its parent's line and that one's head are those by which it was rebased
pub rebased_as : (c d : Client) (k k' : Replica) (n j : ℕ) (b : Branch) (g : Ground) (p head : Head) (a : Answer) → branch_place n c.branches ≡ Some j → slice_get c.branches j ≡ Some b → is_some b.transaction ≡ false
    → option_map ground_of (line_of c b.parent) ≡ Some g → head_of c k b.parent ≡ Some p → AreCarried (document_of p.doc) b.own head.own (document_of head.doc) → head.edited ≡ None
    → d ≡ record c { branches = slice_set c.branches j (with_ground b g) } → k' ≡ record k { branches = slice_set k.branches j head } → a ≡ Rebase (void_among b.own head.own)
    → (i : ℕ) (x : Branch) (l : Line) (q : Head) → branch_place n c.branches ≡ Some i → slice_get c.branches i ≡ Some x → line_of c x.parent ≡ Some l → head_of c k x.parent ≡ Some q → HasRebased c k i x l q (refusal_to_rebase x) d k' a
rebased_as c d k k' n j b g p head a place at none ground at_p run edited is_d is_k is_a i x l q place_i at_x line at_q =
    let same : j ≡ i = one_some j i (sym place ∙ place_i) in
    let same_b : b ≡ x = one_some b x (sym at ∙ ap (slice_get c.branches) same ∙ at_x) in
    let here : line_of c b.parent ≡ Some l = ap (λ (y : Branch). line_of c y.parent) same_b ∙ line in
    let same_g : ground_of l ≡ g = one_some (ground_of l) g (sym (ap (option_map ground_of) here) ∙ ground) in
    let same_p : p ≡ q = one_some p q (sym at_p ∙ ap (λ (y : Branch). head_of c k y.parent) same_b ∙ at_q) in
    let may : None ≡ refusal_to_rebase b = sym (ap (λ t. cond t (Some Unfinished) None) none) in
    let core : HasRebased c k j b l p None d k' a = (head, run, edited, is_d ∙ ap (λ (y : Ground). record c { branches = slice_set c.branches j (with_ground b y) }) (sym same_g), is_k, is_a) in
    subst (λ y. HasRebased c k i x l y (refusal_to_rebase x) d k' a) same_p
    (subst (λ y. HasRebased c k i y l p (refusal_to_rebase y) d k' a) same_b (subst (λ m. HasRebased c k m b l p (refusal_to_rebase b) d k' a) same (subst (λ o. HasRebased c k j b l p o d k' a) may core)))
