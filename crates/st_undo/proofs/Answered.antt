-- What is answered of a commit, by where it stands.
use Rattle.std.proofs.Common.{◌≡◌, ◌<◌, ℕ, Bool, true, false, List, [], ◌∷◌, ◌++◌, take, drop, Option, Some, None, refl, sym, ap, ◌∙◌, subst, arith, inl, inr}
use Rattle.std.specs.List.{position}
use Rattle.std.specs.Option.{unwrap_or}
use Rattle.st_ids.specs.Listing.{Has}
use Rattle.st_ids.specs.Order.{same_rev}
use Rattle.st_ids.specs.Root.{opening}
use Rattle.st_ids.specs.declared.names.Rev.{Rev}
use Rattle.st_history.specs.Past.{ArePending, Past, commits_of, has_commit}
use Rattle.st_lists.specs.Log.{commits_in}
use Rattle.st_lists.specs.Undoing.{IsAt, IsUndoing}
use Rattle.st_log_laws.specs.Turns.{FitInTurn}
use Rattle.st_log_laws.proofs.Turns.{front as fits_front, rest as fits_rest, turn_extends}
use Rattle.st_marks.specs.declared.changes.Change.{Change}
use Rattle.st_marks.specs.declared.intents.Intent.{Intent}
use Rattle.st_marks.specs.declared.verdicts.Verdict.{Verdict}
use Rattle.st_marks.specs.Back.{IsBack}
use Rattle.st_marks.specs.Document.{Document, IsSoundInForm, last_of, revs}
use Rattle.st_marks.specs.Extends.{IsExtendedBy}
use Rattle.st_marks.specs.Run.{Run}
use Rattle.st_marks.specs.Verdict.{IsVerdict, carried_document}
use Rattle.st_marks.proofs.Members.{append_right}
use Rattle.st_marks.proofs.OneVerdict.{carried_extends, one_run, one_verdict, run_then}
use Rattle.st_push.proofs.ListsPushed.{runs}
use Rattle.st_read_laws.specs.Reading.{IsRead, IsStepRead}
use Rattle.st_rebaser.specs.InTurn.{ShowInTurn}
use Rattle.st_rebaser.specs.declared.rebaser.Effected.{Effected}
use Rattle.st_window.specs.declared.kept.Kept.{Kept}
use Rattle.st_window.specs.Window.{WindowView, kept_above, kept_with}
use Rattle.st_window_laws.specs.Windows.{IsKept, IsWindowOf}
use Rattle.st_window_laws.proofs.Found.{found}
use Rattle.st_window_laws.proofs.Windowed.{risen}
use Rattle.st_undo.specs.declared.faults.UndoFault.{UndoFault}
use Rattle.st_undo.specs.declared.faults.UndoFault.TheVariants as no
use Rattle.st_undo.specs.Undone.{IsSoundPast, fault_over, is_gone}
use Rattle.st_undo.specs.inside.Carrying.{LeadInTurn, none_leads}
use Rattle.st_undo.specs.inside.Refused.{IsRefusedThere, IsUndoneThere}
use Rattle.st_undo.proofs.Places.{ShownAt, back_at, found_rev, gone, kept_at, kept_not_gone, pending_at, pending_list, pending_not_gone, schema_read, shown_at}
use Rattle.st_undo.proofs.GoingOver.{Does}
use Rattle.st_undo.proofs.WaysBack.{last_in_effect}
use Rattle.st_undo.proofs.WindowLeads.{LeadsOn, least_first, leads, leads_on}

-- ## By a verdict and a schema

-- where nothing is refused, the commit is sound, and no change of the schema
pub none_refused : (v : Verdict) (o : Option (List ℕ)) → fault_over v o ≡ None → (v ≡ Verdict.Sound) × (o ≡ None)
none_refused Verdict.Sound None e = (refl, refl)
none_refused Verdict.Sound (Some t) e = absurd (let bad : ◌≡◌ {A = Option UndoFault} (Some no.Kind) None = e in cc)
none_refused (Verdict.Need n) o e = absurd (let bad : ◌≡◌ {A = Option UndoFault} (Some no.VoidCommit) None = e in cc)
none_refused (Verdict.Cycle n) o e = absurd (let bad : ◌≡◌ {A = Option UndoFault} (Some no.VoidCommit) None = e in cc)
none_refused (Verdict.Schema u) o e = absurd (let bad : ◌≡◌ {A = Option UndoFault} (Some no.VoidCommit) None = e in cc)

-- ## By a commit that is there

-- it stands there, and isn't gone
pub undone_at : (floor : ℕ) (p : Past) (rev : Rev) (N : Intent) (D : Document) (v : Verdict) → is_gone floor rev p.log ≡ false → IsAt p.opening (commits_of p) rev N D v → fault_over v N.schema ≡ None → IsUndoneThere floor p rev
undone_at floor p rev N D v stays at e =
    let q = none_refused v N.schema e in
    (stays, (N, D, subst (IsAt p.opening (commits_of p) rev N D) q.0 at, q.1))

pub refused_at : (floor : ℕ) (p : Past) (rev : Rev) (f : UndoFault) (N : Intent) (D : Document) (v : Verdict) → is_gone floor rev p.log ≡ false → IsAt p.opening (commits_of p) rev N D v → fault_over v N.schema ≡ Some f → IsRefusedThere floor p rev f
refused_at floor p rev f N D v stays at e = inr (stays, (N, D, v, at, e))

-- ## The change

-- the change K shows a pending commit of a revision, and the Xs those behind it
pub record IsPendingOf (l : Bool) (p : Past) (rev : Rev) (K : Change) (Xs : List Change) : Type 0 where
  pub received : Document
  pub last : Document
  pub changes : List Change
  pub run : Run p.opening (commits_in p.log) received
  pub shown : ShowInTurn l received p.pending changes last
  pub named : K.rev ≡ rev
  pub at : ShownAt l received p.pending K Xs last

module _ (l : Bool) (p : Past) (s : IsSoundPast p) (fresh under : Rev) where
  in_log : FitInTurn p.opening (commits_in p.log)
  in_log = fits_front (commits_in p.log) p.pending p.opening s.fit

  has_under : (F : Document) → Run p.opening (commits_of p) F → under ≡ unwrap_or (last_of (revs F.schemas)) opening → Has (revs F.schemas) under
  has_under F run is = subst (Has (revs F.schemas)) (sym is) (last_in_effect F (turn_extends s.sound s.fit run).after)

  -- that of a commit that is kept
  pub kept_undone : (w : WindowView) → IsWindowOf l p.opening p.log w → (Cs : List Change) → ArePending l p Cs → (k : Kept) → Has w.kept k → (later : List Kept) → later ≡ kept_above k.n w.kept → (C : Change)
      → ((D E T F : Document) (Ns : List Intent) (B : Intent) → IsExtendedBy D E → IsSoundInForm T → IsBack D E fresh under B → IsStepRead l D E k.step → LeadInTurn l E later T → FitInTurn T Ns
      → ShowInTurn l T Ns Cs F → Has (revs F.schemas) under → IsRead l F B C)
      → (B : Intent) (F : Document) → IsUndoing p.opening (commits_of p) k.change.rev fresh B → B.under ≡ under → Run p.opening (commits_of p) F → IsRead l F B C
  kept_undone w h Cs pend k has later are C gives B F u is to_all = go (h.each k has) pend
    where
      up : w.floor < k.n
      up = least_first w.floor w.kept k h.rise has

      go : IsKept l p.opening p.log k → ArePending l p Cs → IsRead l F B C
      go a (T, G, run, shown) =
          gives a.before (carried_document k.verdict a.before a.intent) T F p.pending B o.extends (turn_extends s.sound in_log run).after back.0 a.step trunk (fits_rest p.pending run s.fit)
          (subst (ShowInTurn l T p.pending Cs) same shown) (has_under F to_all back.1)
        where
          o : LeadsOn l p.opening p.log s.sound in_log k a
          o = leads_on l p.opening p.log s.sound in_log k a

          same : G ≡ F
          same = one_run (run_then run (runs shown)) to_all

          back : IsBack a.before (carried_document k.verdict a.before a.intent) fresh under B × (under ≡ unwrap_or (last_of (revs F.schemas)) opening)
          back = back_at p.opening (commits_of p) k.change.rev fresh under B a.intent a.before F k.verdict s.once (kept_at l p s w k a) to_all u is

          trunk : LeadInTurn l (carried_document k.verdict a.before a.intent) later T
          trunk = subst (λ ks. LeadInTurn l (carried_document k.verdict a.before a.intent) ks T) (sym are)
              (leads l p.opening p.log s.sound in_log (kept_above k.n w.kept) k.n (carried_document k.verdict a.before a.intent) T (risen l p.opening p.log w k.n h (omega (arith, up)))
              (subst (λ n. Run p.opening (commits_in (take n p.log)) (carried_document k.verdict a.before a.intent)) (omega (arith, up)) o.to_after) run)

  module _ (rev : Rev) (C : Change) (Xs : List Change) (q : IsPendingOf l p rev C Xs) where
    abbrev a : ShownAt l q.received p.pending C Xs q.last
    a = q.at

    at : IsAt p.opening (commits_of p) rev a.commit a.before a.verdict
    at = pending_at l p s q.received q.last q.run q.changes rev C Xs q.named a

    turn : FitInTurn p.opening ((commits_in p.log ++ a.front) ++ a.commit ∷ a.rest)
    turn = subst (FitInTurn p.opening) (pending_list l p s q.received q.last q.run q.changes rev C Xs a) s.fit

    pub sound_there : IsSoundInForm a.before
    sound_there = (turn_extends s.sound (fits_front (commits_in p.log ++ a.front) (a.commit ∷ a.rest) p.opening turn) (run_then q.run a.to_before)).after

    pub fits_there : FitInTurn a.before (a.commit ∷ a.rest)
    fits_there = fits_rest (a.commit ∷ a.rest) (run_then q.run a.to_before) turn

    -- that of a pending one
    pub pending_undone : (X : Change)
        → ((D F : Document) (N B : Intent) (Ns : List Intent) (v : Verdict) → IsSoundInForm D → FitInTurn D (N ∷ Ns) → IsVerdict D N v → IsRead l D N C → ShowInTurn l (carried_document v D N) Ns Xs F
        → IsBack D (carried_document v D N) fresh under B → Has (revs F.schemas) under → IsRead l F B X)
        → (B : Intent) (F : Document) → IsUndoing p.opening (commits_of p) rev fresh B → B.under ≡ under → Run p.opening (commits_of p) F → IsRead l F B X
    pending_undone X gives B F u is to_all =
        let same : q.last ≡ F = one_run (run_then q.run (runs q.shown)) to_all in
        let back = back_at p.opening (commits_of p) rev fresh under B a.commit a.before F a.verdict s.once at to_all u is in
        gives a.before F a.commit B a.rest a.verdict sound_there fits_there a.is a.change (subst (ShowInTurn l (carried_document a.verdict a.before a.commit) a.rest Xs) same a.shown) back.0 (has_under F to_all back.1)

    pub stays : (floor : ℕ) → is_gone floor rev p.log ≡ false
    stays floor = pending_not_gone l p s q.received q.last q.run q.changes rev floor a.commit (subst (λ Ns. Has Ns a.commit) (sym a.list) (append_right a.front (a.commit ∷ a.rest) a.commit (inl refl))) at.named

    pub pending_answered : (floor : ℕ) → ((D : Document) (N : Intent) (Ns : List Intent) (v : Verdict) → IsSoundInForm D → FitInTurn D (N ∷ Ns) → IsVerdict D N v → IsRead l D N C → fault_over v N.schema ≡ None) → IsUndoneThere floor p rev
    pending_answered floor e = undone_at floor p rev a.commit a.before a.verdict (stays floor) at (e a.before a.commit a.rest a.verdict sound_there fits_there a.is a.change)

    pub pending_refused : (floor : ℕ) (f : UndoFault) → ((D : Document) (N : Intent) (Ns : List Intent) (v : Verdict) → IsSoundInForm D → FitInTurn D (N ∷ Ns) → IsVerdict D N v → IsRead l D N C → fault_over v N.schema ≡ Some f) → IsRefusedThere floor p rev f
    pending_refused floor f e = refused_at floor p rev f a.commit a.before a.verdict (stays floor) at (e a.before a.commit a.rest a.verdict sound_there fits_there a.is a.change)

-- what is answered of one that is kept
module _ (l : Bool) (p : Past) (s : IsSoundPast p) (w : WindowView) (h : IsWindowOf l p.opening p.log w) (k : Kept) (has : Has w.kept k) where
  up : w.floor < k.n
  up = least_first w.floor w.kept k h.rise has

  read_schema : (a : IsKept l p.opening p.log k) (o : Option UndoFault) → fault_over k.verdict k.change.schema ≡ o → fault_over k.verdict a.intent.schema ≡ o
  read_schema a o e = ap (fault_over k.verdict) (schema_read l a.before a.intent k.change a.change) ∙ e

  pub kept_answered : fault_over k.verdict k.change.schema ≡ None → IsUndoneThere w.floor p k.change.rev
  kept_answered e = go (h.each k has)
    where
      go : IsKept l p.opening p.log k → IsUndoneThere w.floor p k.change.rev
      go a = undone_at w.floor p k.change.rev a.intent a.before k.verdict (kept_not_gone l p s w k a up) (kept_at l p s w k a) (read_schema a None e)

  pub kept_refused : (f : UndoFault) → fault_over k.verdict k.change.schema ≡ Some f → IsRefusedThere w.floor p k.change.rev f
  kept_refused f e = go (h.each k has)
    where
      go : IsKept l p.opening p.log k → IsRefusedThere w.floor p k.change.rev f
      go a = refused_at w.floor p k.change.rev f a.intent a.before k.verdict (kept_not_gone l p s w k a up) (kept_at l p s w k a) (read_schema a (Some f) e)

-- one that is neither kept nor pending
pub gone_refused : (l : Bool) (p : Past) → IsSoundPast p → (w : WindowView) → IsWindowOf l p.opening p.log w → (Cs : List Change) → ArePending l p Cs → (rev : Rev) → has_commit p rev ≡ true
    → kept_with rev w.kept ≡ None → position (λ (C : Change). same_rev C.rev rev) Cs ≡ None → IsRefusedThere w.floor p rev (no.Gone w.floor)
gone_refused l p s w h Cs (T, F, run, shown) rev there none nowhere = inl (gone l p s w h T F Cs shown rev none nowhere there, refl)

-- ## A commit that is pending

-- what it does, with its verdict
pub pending_way : (l : Bool) (fresh under : Rev) (K C : Change) (Xs : List Change) (ks : List Kept) (e : Effected) → ks ≡ [] → Does l K e
    → ((D E T F : Document) (Ns : List Intent) (B : Intent) → IsExtendedBy D E → IsSoundInForm T → IsBack D E fresh under B → IsStepRead l D E e.step → LeadInTurn l E ks T → FitInTurn T Ns
    → ShowInTurn l T Ns Xs F → Has (revs F.schemas) under → IsRead l F B C)
    → (D F : Document) (N B : Intent) (Ns : List Intent) (v : Verdict) → IsSoundInForm D → FitInTurn D (N ∷ Ns) → IsVerdict D N v → IsRead l D N K → ShowInTurn l (carried_document v D N) Ns Xs F
    → IsBack D (carried_document v D N) fresh under B → Has (revs F.schemas) under → IsRead l F B C
pending_way l fresh under K C Xs ks e nothing does gives D F N B Ns v sound fit is read shown back has =
    let d = does D N sound fit.0 fit.1 read in
    let same : e.verdict ≡ v = one_verdict D N e.verdict v d.0 is in
    let x = carried_extends D N v sound fit.0 fit.1 is in
    let E = carried_document v D N in
    gives D E E F Ns B x x.after back (subst (λ y. IsStepRead l D (carried_document y D N) e.step) same d.1) (subst (λ ks. LeadInTurn l E ks E) (sym nothing) none_leads) (fit.2 v is) shown has

pub pending_fault : (l : Bool) (K : Change) (e : Effected) (o : Option UndoFault) → Does l K e → fault_over e.verdict K.schema ≡ o
    → (D : Document) (N : Intent) (Ns : List Intent) (v : Verdict) → IsSoundInForm D → FitInTurn D (N ∷ Ns) → IsVerdict D N v → IsRead l D N K → fault_over v N.schema ≡ o
pending_fault l K e o does is_so D N Ns v sound fit is read =
    let d = does D N sound fit.0 fit.1 read in
    let same : v ≡ e.verdict = one_verdict D N v e.verdict is d.0 in
    ap (λ w. fault_over w N.schema) same ∙ ap (fault_over e.verdict) (schema_read l D N K read) ∙ is_so

-- ## As it is told

pub told_window : (l m : Bool) (p : Past) (v w : WindowView) → m ≡ l → v ≡ w → IsWindowOf m p.opening p.log v → IsWindowOf l p.opening p.log w
told_window l m p v w same is h = subst (λ x. IsWindowOf l p.opening p.log x) is (subst (λ b. IsWindowOf b p.opening p.log v) same h)

pub told_pending : (l m : Bool) (p : Past) (Cs Ks : List Change) → m ≡ l → Ks ≡ Cs → ArePending m p Cs → ArePending l p Ks
told_pending l m p Cs Ks same is h = subst (ArePending l p) (sym is) (subst (λ b. ArePending b p Cs) same h)

-- a kept commit is above the floor
pub never_gone : (l : Bool) (p : Past) (w : WindowView) → IsWindowOf l p.opening p.log w → (k : Kept) → Has w.kept k → (v : WindowView) → v ≡ w → k.n < v.floor → {A : Type 0} → A
never_gone l p w h k has v same low =
    let up = least_first w.floor w.kept k h.rise has in
    let floor : v.floor ≡ w.floor = ap (λ (x : WindowView). x.floor) same in
    absurd (omega (arith, up, low, floor))

-- one that is found is kept, and has the revision
pub is_found : (rev : Rev) (v w : WindowView) (k : Kept) → v ≡ w → Some k ≡ kept_with rev v.kept → Has w.kept k × (k.change.rev ≡ rev) × (rev ≡ k.change.rev)
is_found rev v w k same e =
    let f = found rev w.kept k (sym (e ∙ ap (λ (x : WindowView). kept_with rev x.kept) same)) in
    (f.0, f.1, sym f.1)

pub not_found : (rev : Rev) (v w : WindowView) (o : Option Kept) → v ≡ w → o ≡ kept_with rev v.kept → o ≡ None → kept_with rev w.kept ≡ None
not_found rev v w o same e none = ap (λ (x : WindowView). kept_with rev x.kept) (sym same) ∙ sym e ∙ none

-- the commits that are kept above a number
pub told_later : (n : ℕ) (v w : WindowView) (later : List Kept) → v ≡ w → later ≡ kept_above n v.kept → later ≡ kept_above n w.kept
told_later n v w later is e = e ∙ ap (λ (x : WindowView). kept_above n x.kept) is

-- it is the one at the place that was found
pub told_at : (l m : Bool) (p : Past) (rev : Rev) (Cs Ks behind : List Change) (o : Option ℕ) (j : ℕ) (K : Change) (Xs : List Change) → m ≡ l → Ks ≡ Cs → ArePending m p Cs
    → o ≡ position (λ (C : Change). same_rev C.rev rev) Ks → o ≡ Some j → behind ≡ drop j Ks → behind ≡ K ∷ Xs → IsPendingOf l p rev K Xs
told_at l m p rev Cs Ks behind o j K Xs same is h look found back split = go (told_pending l m p Cs Ks same is h)
  where
    there : drop j Ks ≡ K ∷ Xs
    there = sym back ∙ split

    go : ArePending l p Ks → IsPendingOf l p rev K Xs
    go (T, G, run, shown) = record { received = T; last = G; changes = Ks; run = run; shown = shown; named = found_rev rev Ks j K Xs (sym look ∙ found) there; at = shown_at l p.pending T Ks G j K Xs shown there }

-- none is pending, and it isn't kept
pub told_gone : (l m : Bool) (p : Past) → IsSoundPast p → (w : WindowView) → IsWindowOf l p.opening p.log w → (Cs Ks : List Change) (rev : Rev) (o : Option ℕ) (n : ℕ) → m ≡ l → Ks ≡ Cs → ArePending m p Cs
    → o ≡ position (λ (C : Change). same_rev C.rev rev) Ks → o ≡ None → n ≡ w.floor → has_commit p rev ≡ true → kept_with rev w.kept ≡ None → IsRefusedThere w.floor p rev (no.Gone n)
told_gone l m p s w h Cs Ks rev o n same is pend look none floor there unkept =
    subst (λ k. IsRefusedThere w.floor p rev (no.Gone k)) (sym floor) (gone_refused l p s w h Ks (told_pending l m p Cs Ks same is pend) rev there unkept (sym look ∙ none))
