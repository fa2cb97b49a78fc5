-- What it says that an entry was received, from the steps that receive it.
use Rattle.std.proofs.Common.{◌≡◌, ◌==◌, ◌<◌, ℕ, Bool, true, false, List, [], ◌∷◌, drop, length, None, Some, refl, sym, ap, ◌∙◌, subst, arith}
use Rattle.st_clusters.specs.declared.ids.IdRange.{IdRange}
use Rattle.st_marks.specs.declared.intents.Intent.{Intent}
use Rattle.st_marks.specs.declared.verdicts.Verdict.{Verdict}
use Rattle.st_marks.specs.Document.{Document}
use Rattle.st_marks.specs.Verdict.{IsVerdict, carried_document}
use Rattle.st_marks.proofs.OneVerdict.{one_carried}
use Rattle.st_doc.specs.Doc.{document_of}
use Rattle.st_heads.specs.Remembered.{AreCarried, none as nothing_done, more}
use Rattle.st_heads.specs.declared.ways.Carried.{Carried}
use Rattle.st_heads.proofs.Runs.{as_many}
use Rattle.st_plain_log.specs.Receiving.{CanCarry, CanReceive, HasCarried, HasReceivedNext, HasReceivedOf, HasReceivedOne}
use Rattle.st_lists.specs.Log.{commit_of}
use Rattle.st_heads.specs.declared.heads.Head.{Head}
use Rattle.st_heads.specs.declared.replica.Replica.{Replica}
use Rattle.st_lists.specs.declared.lists.Body.TheVariants.{Commit}
use Rattle.st_lists.specs.declared.lists.Client.{Client}
use Rattle.st_lists.specs.declared.lists.Entry.{Entry}

-- ## Remembered runs

-- a remembered run of no commits changes nothing
nothing_carried : (Ns : List Intent) (ks : List Carried) (D E : Document) → length Ns ≡ 0 → AreCarried D Ns ks E → (ks ≡ []) × (E ≡ D)
nothing_carried [] [] D E h nothing_done = (refl, refl)
nothing_carried [] (k ∷ ks) D E h r = absurd (omega (arith, as_many r))
nothing_carried (N ∷ Ns) ks D E h r = absurd (omega (arith, h))

pub same_main : (c : Client) (k : Replica) → length c.pending ≡ 0 → AreCarried (document_of k.received) c.pending k.main.own (document_of k.main.doc) → document_of k.main.doc ≡ document_of k.received
same_main c k h r = (nothing_carried c.pending k.main.own (document_of k.received) (document_of k.main.doc) h r).1

still_nothing : (Ns : List Intent) (ks ls : List Carried) (D E X Y : Document) → length Ns ≡ 0 → AreCarried D Ns ks E → ls ≡ ks → Y ≡ X → AreCarried X Ns ls Y
still_nothing [] [] ls D E X Y h r same is = subst (λ F. AreCarried X [] ls F) (sym is) (subst (λ l. AreCarried X [] l X) (sym same) nothing_done)
still_nothing [] (k ∷ ks) ls D E X Y h r same is = absurd (omega (arith, as_many r))
still_nothing (N ∷ Ns) ks ls D E X Y h r same is = absurd (omega (arith, h))

-- a remembered run after its first commit
first_carried : {D F : Document} {N : Intent} {Ns : List Intent} {k : Carried} {ks : List Carried} → AreCarried D (N ∷ Ns) (k ∷ ks) F → (v : Verdict) × IsVerdict D N v × AreCarried (carried_document v D N) Ns ks F
first_carried (more v a k r) = (v, a, r)

pub rest_carried : (D E F : Document) (N : Intent) (Ns : List Intent) (ks : List Carried) (v : Verdict) → AreCarried D (N ∷ Ns) ks F → 0 < length ks → IsVerdict D N v → E ≡ carried_document v D N → AreCarried E Ns (drop 1 ks) F
rest_carried D E F N Ns [] v r some a after = absurd (omega (arith, some))
rest_carried D E F N Ns (k ∷ ks) v r some a after = let o = first_carried r in subst (λ X. AreCarried X Ns ks F) (one_carried D N o.0 v o.1 a ∙ sym after) o.2

-- an intent is carried out in two documents that are one
pub both_carried : (D E X Y : Document) (N : Intent) (v w : Verdict) → D ≡ E → IsVerdict D N v → IsVerdict E N w → X ≡ carried_document v D N → Y ≡ carried_document w E N → X ≡ Y
both_carried D E X Y N v w same a b x y = x ∙ ap (λ F. carried_document v F N) same ∙ one_carried E N v w (subst (λ F. IsVerdict F N v) same a) b ∙ sym y

-- ## Entries

pub received_last : (c : Client) (old new : Replica) (own : Bool) (N : Intent) (v : Verdict) → own ≡ false → length c.pending ≡ 0 → AreCarried (document_of old.received) c.pending old.main.own (document_of old.main.doc) → old.main.edited ≡ None
    → HasCarried old N v new → document_of new.main.doc ≡ document_of new.received → new.main ≡ record old.main { doc = new.main.doc } → new.names ≡ old.names → HasReceivedOne c old own N v new
received_last c old new true N v other empty run edited got same main names = absurd (cc)
received_last c old new false N v other empty run edited got same main names = (
  got,
  (
    still_nothing c.pending old.main.own new.main.own (document_of old.received) (document_of old.main.doc) (document_of new.received) (document_of new.main.doc) empty run (ap (λ (m : Head). m.own) main) same,
    ap (λ (m : Head). m.edited) main ∙ edited,
    names,
  ),
)

pub received_before : (c : Client) (old new : Replica) (own : Bool) (N : Intent) (v : Verdict) (pending : List Intent) → own ≡ false → pending ≡ c.pending → HasCarried old N v new
    → AreCarried (document_of new.received) pending new.main.own (document_of new.main.doc) → new.main.edited ≡ None → new.names ≡ old.names → HasReceivedOne c old own N v new
received_before c old new true N v pending other is got run edited names = absurd (cc)
received_before c old new false N v pending other is got run edited names =
    (got, (subst (λ l. AreCarried (document_of new.received) l new.main.own (document_of new.main.doc)) is run, edited, names))

-- an entry with a commit
pub can_carry : (c : Client) (old : Replica) (e : Entry) (reference : ℕ) (ids : IdRange) (N : Intent) (own : Bool) → e.body ≡ Commit reference ids N → own ≡ (e.session == c.session) → CanReceive c old e → CanCarry c old own N
can_carry c old e reference ids N own is by can =
    let at : commit_of e ≡ Some N = rw is refl in
    let here : CanCarry c old (e.session == c.session) N = rw at at can in
    subst (λ b. CanCarry c old b N) (sym by) here

pub received_commit : (c : Client) (old new : Replica) (e : Entry) (reference : ℕ) (ids : IdRange) (N : Intent) (own : Bool) (v : Verdict) → e.body ≡ Commit reference ids N → own ≡ (e.session == c.session) → HasReceivedOne c old own N v new → HasReceivedNext c old e v new
received_commit c old new e reference ids N own v is by got =
    let at : Some N ≡ commit_of e = rw is refl in
    subst (λ o. HasReceivedOf c old (e.session == c.session) o v new) at (subst (λ b. HasReceivedOne c old b N v new) by got)
