-- What is told of the pending commits of a client.
use Rattle.std.proofs.Common.{Err, IfOk, List, Ok, Result, Some, refl, subst, sym, ℕ, ◌∙◌, ◌≡◌}
use Rattle.std.specs.List.{slice_get}
use Rattle.st_doc.specs.Doc.{document_of}
use Rattle.st_lists.specs.declared.lists.Client.{Client}
use Rattle.st_lists.specs.declared.lists.Entry.{Entry}
use Rattle.st_log_laws.specs.Turns.{FitInTurn}
use Rattle.st_log_laws.proofs.Turns.{rest}
use Rattle.st_marks.specs.Document.{IsSoundInForm}
use Rattle.st_world.specs.Texts.{AreTextsOf}
use Rattle.st_script.specs.Header.{HeaderView, header_view}
use Rattle.st_script.specs.declared.answer.Answer.{Answer}
use Rattle.st_script.specs.declared.answer.Answer.TheVariants.{Pending}
use Rattle.st_plain.proofs.Acting.{one_at}
use Rattle.st_plain.proofs.BranchShown.{same_some}
use Rattle.st_plain.proofs.BranchSteps.{void_as}
use Rattle.st_world_laws.proofs.Clients.{received_sound}
use Rattle.st_plain.proofs.Keeping.{AreOne}
use Rattle.st_plain.proofs.Stepping.{start_of}
use Rattle.st_plain_branches.specs.Branches.{void_among}
use Rattle.st_plain.specs.Replicas.{IsSound}
use Rattle.st_world.specs.World.{IsPendingTold}
use Rattle.st_heads.specs.declared.replica.Replica.{Replica}
use Rattle.st_plain.specs.declared.world.World.{World}

module _ (w : World) (i : ℕ) (c : Client) (k : Replica) (s : IsSound w) (at_c : slice_get w.lists.clients i ≡ Some c) (at_k : slice_get w.kept i ≡ Some k) where
  abbrev h : HeaderView
  h = header_view w.header

  abbrev log : List Entry
  log = w.lists.log

  one : AreOne h log c k
  one = one_at w i c k s at_c at_k

  pub kept_sound : IsSoundInForm (document_of k.received)
  kept_sound = received_sound h (start_of w w.steps s) log c (document_of k.received) one.client one.kept.received

  pub pending_fit : FitInTurn (document_of k.received) c.pending
  pending_fit = rest c.pending one.kept.received one.client.shown_fit

  pub next_told : (texts : List (List ℕ)) → AreTextsOf (document_of k.received) c.pending texts → IsPendingTold h w.lists c (Pending texts (void_among c.pending k.main.own))
  next_told texts are = (
    document_of k.received,
    texts,
    void_among c.pending k.main.own,
    one.kept.received,
    are,
    void_as (document_of k.received) (document_of k.main.doc) c.pending k.main.own one.kept.own,
    refl,
  )

  -- and so is what is told of the client at the place, whoever that is
  pub told_at : {E : Type 0} (r : Result Answer E)
      → IfOk r (λ a. (texts : List (List ℕ)) × AreTextsOf (document_of k.received) c.pending texts × (a ≡ Pending texts (void_among c.pending k.main.own)))
      → IfOk r (λ a. (q : Client) → slice_get w.lists.clients i ≡ Some q → IsPendingTold h w.lists q a)
  told_at (Ok a) t = λ q at.
      let same : c ≡ q = same_some c q (sym at_c ∙ at) in
      subst (λ x. IsPendingTold h w.lists x a) same (subst (IsPendingTold h w.lists c) (sym t.2) (next_told t.0 t.1))
  told_at (Err e) t = tt
