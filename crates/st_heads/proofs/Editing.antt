-- A part more of an open transaction.
use Rattle.std.proofs.Common.{◌≡◌, ◌⊎◌, inl, inr, ℕ, zero, suc, Bool, true, false, Option, Some, None, ◌||◌, option_and_then, unwrap_or, refl, sym, ap, ◌∙◌, subst}
use Rattle.st_ids.specs.declared.names.NodeId.{NodeId}
use Rattle.st_marks.specs.declared.intents.Intent.{Intent}
use Rattle.st_marks.specs.CarryOut.{full}
use Rattle.st_marks.specs.Document.{Document, IsSoundInForm, above, climb, ClimbsToAnEnd}
use Rattle.st_marks.specs.Intent.{Fits, is_new}
use Rattle.st_marks.specs.Join.{above_made}
use Rattle.st_marks.specs.declared.verdicts.Verdict.{Verdict}
use Rattle.st_marks.specs.Document.{HasShortRows}
use Rattle.st_marks.specs.Verdict.{IsVerdict, carried_document}
use Rattle.st_marks.proofs.Joined.{joined_in_turn}
use Rattle.st_marks.proofs.OneVerdict.{one_verdict}
use Rattle.st_doc.specs.declared.doc.Doc.{Doc}
use Rattle.st_doc.specs.Doc.{document_of}
use Rattle.st_heads.specs.declared.heads.Head.{Head}
use Rattle.st_join.proofs.JoinFits as fit
use Rattle.st_lists.specs.Open.{with_open, FitsSoFar, IsSoundPart, IsWithPart}
use Rattle.st_heads.specs.Transactions.{HasOpen, IsOpen}
use Rattle.st_heads.specs.inside.Parts.{CanFollow}

-- a way up that leaves out some of the steps ends where the whole one does
climb-part : (up part : NodeId → Option NodeId) → ((n : NodeId) → (part n ≡ None) ⊎ (part n ≡ up n)) → (k : ℕ) (n : NodeId) → climb up k n ≡ None → climb part k n ≡ None
climb-part up part less zero n e = cc
climb-part up part less (suc k) n e = go (λ p. climb-part up part less k p) (less n)
  where
    on : ((p : NodeId) → climb up k p ≡ None → climb part k p ≡ None) → (o : Option NodeId) → up n ≡ o → option_and_then (climb part k) o ≡ None
    on rest None q = refl
    on rest (Some p) q = rest p (sym (ap (option_and_then (climb up k)) q) ∙ e)

    go : ((p : NodeId) → climb up k p ≡ None → climb part k p ≡ None) → (part n ≡ None) ⊎ (part n ≡ up n) → option_and_then (climb part k) (part n) ≡ None
    go rest (inl none) = ap (option_and_then (climb part k)) none
    go rest (inr same) = ap (option_and_then (climb part k)) same ∙ on rest (up n) refl

-- in a document that is sound in form, no nodes that two intents make are in a ring
made_no_ring : (D : Document) (N M : Intent) → IsSoundInForm (full (full D N) M) → (n : NodeId) → ClimbsToAnEnd (above_made D N M) n
made_no_ring D N M s n = let r = s.no_ring n in (r.0, climb-part (above E) (above_made D N M) made_up r.0 n r.1)
  where
    E : Document
    E = full (full D N) M

    made : NodeId → Bool
    made x = is_new N x || is_new M x

    made_up : (m : NodeId) → (above_made D N M m ≡ None) ⊎ (above_made D N M m ≡ above E m)
    made_up m = go (made m) refl (above E m) refl
      where
        on : (p : NodeId) (b : Bool) → made p ≡ b → made m ≡ true → above E m ≡ Some p → (above_made D N M m ≡ None) ⊎ (above_made D N M m ≡ above E m)
        on p true q h e = inr (rw (h, e, q) refl)
        on p false q h e = inl (rw (h, e, q) refl)

        go : (b : Bool) → made m ≡ b → (o : Option NodeId) → above E m ≡ o → (above_made D N M m ≡ None) ⊎ (above_made D N M m ≡ above E m)
        go false h o e = inl (rw h refl)
        go true h None e = inl (rw (h, e) refl)
        go true h (Some p) e = on p (made p) refl h e

module _ (D : Document) (M : Intent) (sound : IsSoundInForm D) (none : M.schema ≡ None) where
  pub can_follow : (joined : Option Intent) → FitsSoFar D M.rev M.under joined → Fits (with_open D joined) M → IsSoundInForm (full (with_open D joined) M) → CanFollow D joined M
  can_follow None so fits s = tt
  can_follow (Some J) so fits s = record {
    first_fits = so.0;
    then_fits = fits;
    no_schema = (so.3, none);
    one_rev = sym so.1;
    one_under = sym so.2;
    no_ring = made_no_ring D J M s;
  }

  pub open_shows : (joined : Option Intent) (K : Intent) → CanFollow D joined M → IsWithPart joined M K → full D K ≡ full (with_open D joined) M
  open_shows None K p w = ap (full D) w
  open_shows (Some J) K p w = joined_in_turn D J M K sound p w

  pub fits_so_far : (joined : Option Intent) (K : Intent) → FitsSoFar D M.rev M.under joined → Fits (with_open D joined) M → CanFollow D joined M → IsWithPart joined M K → FitsSoFar D M.rev M.under (Some K)
  fits_so_far None K so fits p w = subst (λ I. FitsSoFar D M.rev M.under (Some I)) (sym w) (fits, refl, refl, none)
  fits_so_far (Some J) K so fits p w = (fit.joins_fit D J M K sound p w, w.rev ∙ so.1, w.under ∙ so.2, w.no_schema)

-- where the transaction goes on, the document is the one that is shown
opened : (h : Head) (joined : Option Intent) → HasOpen h joined → document_of (unwrap_or h.edited h.doc) ≡ with_open (document_of h.doc) joined
opened h None has = ap (λ o. document_of (unwrap_or o h.doc)) has
opened h (Some J) has = ap (λ o. document_of (unwrap_or o h.doc)) has.1 ∙ has.2

module _ (h : Head) (joined : Option Intent) (M K : Intent) (T U : Doc) (v : Verdict)
    (line : IsSoundInForm (document_of h.doc)) (o : IsOpen h joined M.rev M.under) (p : IsSoundPart (with_open (document_of h.doc) joined) M)
    (copied : document_of T ≡ document_of (unwrap_or h.edited h.doc)) (is : IsVerdict (document_of T) M v)
    (after : document_of U ≡ carried_document v (document_of T) M) (still : HasShortRows (full (document_of T) M) → IsSoundInForm (document_of U))
    (joins : (D : Document) → IsSoundInForm D → CanFollow D joined M → IsWithPart joined M K) where
  abbrev D : Document
  D = document_of h.doc

  abbrev E : Document
  E = with_open D joined

  there : document_of T ≡ E
  there = copied ∙ opened h joined o.has

  pub whole : document_of U ≡ full E M
  whole = let same : v ≡ Verdict.Sound = one_verdict E M v Verdict.Sound (subst (λ F. IsVerdict F M v) there is) p.verdict in
      after ∙ ap (λ F. carried_document v F M) there ∙ ap (λ w. carried_document w E M) same

  after_sound : IsSoundInForm (full E M)
  after_sound = subst IsSoundInForm whole (still (subst (λ F. HasShortRows (full F M)) (sym there) p.short))

  follow : CanFollow D joined M
  follow = can_follow D M line p.no_schema joined o.so_far p.fits after_sound

  pub with_part_is : IsWithPart joined M K
  with_part_is = joins D line follow

  pub shows : full D K ≡ full E M
  shows = open_shows D M line p.no_schema joined K follow with_part_is

  pub is_open : document_of U ≡ full D K
  is_open = whole ∙ sym shows

  pub so_far : FitsSoFar D M.rev M.under (Some K)
  so_far = fits_so_far D M line p.no_schema joined K o.so_far p.fits follow with_part_is

  pub still_sound : IsSoundInForm (full D K)
  still_sound = subst IsSoundInForm (sym shows) after_sound
