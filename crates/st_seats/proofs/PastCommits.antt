-- What a session sent goes past commits of the log, one after the other.
use Rattle.std.proofs.Common.{◌≡◌, ◌≤◌, ◌<◌, ◌+◌, ◌-◌, ◌==◌, ℕ, zero, suc, Bool, true, false, List, [], ◌∷◌, ◌++◌, length, length-append, take, drop, Option, Some, None, refl, sym, ap, ◌∙◌, subst, append_assoc, arith, inl, inr}
use Rattle.std.specs.List.{cons_option, slice_get}
use Rattle.std.proofs.Math.Seq.{drop-append_seam, take-append_seam}
use Rattle.std.proofs.lemmas.Bool.Decides.{nat_tests}
use Rattle.std.proofs.lemmas.List.{append-nil, length-take-le, take-append-drop}
use Rattle.std.proofs.lemmas.Option.{slice_get_within}
use Rattle.st_lemmas.proofs.Lists.{drop-slice_get}
use Rattle.st_ids.specs.Listing.{Has}
use Rattle.st_ids.proofs.Shared.{at_has}
use Rattle.st_ids.specs.declared.names.Rev.{Rev}
use Rattle.st_lists.specs.declared.lists.Entry.{Entry}
use Rattle.st_lists.specs.Log.{commit_in, commit_of, commits_by, commits_in}
use Rattle.st_lists.proofs.Logs.{by_none, by_other, by_own, commits_append}
use Rattle.st_log_laws.specs.Turns.{FitInTurn}
use Rattle.st_log_laws.proofs.Turns.{front as fits_front, has_run, rest as fits_rest, turn_extends}
use Rattle.st_marks.specs.declared.changes.Change.{Change}
use Rattle.st_marks.specs.declared.intents.Intent.{Intent}
use Rattle.st_marks.specs.declared.steps.Step.{Step}
use Rattle.st_marks.specs.declared.verdicts.Verdict.{Verdict}
use Rattle.st_marks.specs.Document.{Document, IsSoundInForm}
use Rattle.st_marks.specs.Extends.{IsExtendedBy}
use Rattle.st_marks.specs.Run.{Run, done, next}
use Rattle.st_marks.specs.Verdict.{IsVerdict, carried_document}
use Rattle.st_marks.proofs.OneVerdict.{carried_extends, one_run, one_verdict, run_then}
use Rattle.st_marks.proofs.Turns.{extends_itself, extends_on}
use Rattle.st_read_laws.specs.Reading.{IsRead, IsStepRead}
use Rattle.st_rebaser.specs.InTurn.{HaveVerdicts, ShowInTurn, one_judged, one_shown}
use Rattle.st_push.proofs.LaterLists.{later}
use Rattle.st_window.specs.declared.kept.Kept.{Kept}
use Rattle.st_window.specs.Window.{RiseFrom}
use Rattle.st_window_laws.specs.Windows.{IsKept}
use Rattle.st_seats.specs.Seats.{IsWrittenFrom, StandInTurn}
use Rattle.st_seats.specs.inside.Rising.{AreNext, HasGone, IsPassed, IsRisen}
use Rattle.st_seats.specs.declared.seat.Turns.{Turns}

-- ## A log in two parts

-- the commits of the front, and of one entry more
more_commits : (front : List Entry) (e : Entry) (N : Intent) → commit_of e ≡ Some N → commits_in (front ++ e ∷ []) ≡ commits_in front ++ N ∷ []
more_commits front e N is = commits_append front (e ∷ []) ∙ ap (λ o. commits_in front ++ cons_option o []) is

same_commits : (front : List Entry) (e : Entry) → commit_of e ≡ None → commits_in (front ++ e ∷ []) ≡ commits_in front
same_commits front e none = commits_append front (e ∷ []) ∙ ap (λ o. commits_in front ++ cons_option o []) none ∙ append-nil (commits_in front)

first_commit : (e : Entry) (back : List Entry) (N : Intent) → commit_of e ≡ Some N → commits_in (e ∷ back) ≡ N ∷ commits_in back
first_commit e back N is = ap (λ o. cons_option o (commits_in back)) is

no_commit : (e : Entry) (back : List Entry) → commit_of e ≡ None → commits_in (e ∷ back) ≡ commits_in back
no_commit e back none = ap (λ o. cons_option o (commits_in back)) none

moved : (front : List Entry) (e : Entry) (back : List Entry) → front ++ e ∷ back ≡ (front ++ e ∷ []) ++ back
moved front e back = sym (append_assoc front (e ∷ []) back)

longer : (front : List Entry) (e : Entry) → length (front ++ e ∷ []) ≡ length front + 1
longer front e = length-append front (e ∷ [])

module _ (O : Document) (log : List Entry) (session known : ℕ) (w : IsWrittenFrom O log session known) where
  -- what the session has in the back fits over the document of the front
  pub own_fit : (front back : List Entry) (D : Document) → log ≡ front ++ back → known ≤ length front → Run O (commits_in front) D → FitInTurn D (commits_by session back)
  own_fit front back D split above r = fits_rest (commits_by session back) r
      (subst (λ (es : List Entry). FitInTurn O (commits_in front ++ commits_by session es)) (ap (drop (length front)) split ∙ drop-append_seam front back)
      (subst (λ (es : List Entry). FitInTurn O (commits_in es ++ commits_by session (drop (length front) log))) (ap (take (length front)) split ∙ take-append_seam front back) (w.author (length front) above)))

  all_fit : (front back : List Entry) (D : Document) → log ≡ front ++ back → Run O (commits_in front) D → FitInTurn D (commits_in back)
  all_fit front back D split r = fits_rest (commits_in back) r (subst (FitInTurn O) (ap commits_in split ∙ commits_append front back) w.commits)

  front_fits : (front back : List Entry) → log ≡ front ++ back → FitInTurn O (commits_in front)
  front_fits front back split = fits_front (commits_in front) (commits_in back) O (subst (FitInTurn O) (ap commits_in split ∙ commits_append front back) w.commits)

  pub sound_after : (front back : List Entry) (D : Document) → log ≡ front ++ back → Run O (commits_in front) D → IsSoundInForm D
  sound_after front back D split r = (turn_extends w.sound (front_fits front back split) r).after

  run_more : (front : List Entry) (e : Entry) (N : Intent) (D : Document) (v : Verdict) → commit_of e ≡ Some N → Run O (commits_in front) D → IsVerdict D N v → Run O (commits_in (front ++ e ∷ [])) (carried_document v D N)
  run_more front e N D v is r judged = subst (λ Ns. Run O Ns (carried_document v D N)) (sym (more_commits front e N is)) (run_then r (next v judged done))

  run_same : (front : List Entry) (e : Entry) (D : Document) → commit_of e ≡ None → Run O (commits_in front) D → Run O (commits_in (front ++ e ∷ [])) D
  run_same front e D none r = subst (λ Ns. Run O Ns D) (sym (same_commits front e none)) r

  -- ## The author's document is extended by that of all commits

  -- one entry, where it is so behind it
  module _ (front : List Entry) (e : Entry) (back : List Entry) (T : Document) (split : log ≡ front ++ e ∷ back) (above : known ≤ length front)
      (then : (E B : Document) → Run O (commits_in (front ++ e ∷ [])) E → Run E (commits_in back) T → Run E (commits_by session back) B → IsExtendedBy B T) where
    reach_one : (D A : Document) (N : Intent) → commit_of e ≡ Some N → (b : Bool) → (e.session == session) ≡ b → Run O (commits_in front) D → Run D (N ∷ commits_in back) T → Run D (commits_by session (e ∷ back)) A → IsExtendedBy A T
    reach_one D A N is true own r (next v judged q) p = mine (subst (λ Ns. Run D Ns A) (by_own session e back N own is) p)
      where
        mine : Run D (N ∷ commits_by session back) A → IsExtendedBy A T
        mine (next u was s) = then (carried_document v D N) A (run_more front e N D v is r judged) q (subst (λ y. Run (carried_document y D N) (commits_by session back) A) (one_verdict D N u v was judged) s)
    reach_one D A N is false other r (next v judged q) p =
        let fits : FitInTurn D (N ∷ commits_in back) = subst (FitInTurn D) (first_commit e back N is) (all_fit front (e ∷ back) D split r) in
        let x = carried_extends D N v (sound_after front (e ∷ back) D split r) fits.0 fits.1 judged in
        let base = run_more front e N D v is r judged in
        let own = own_fit (front ++ e ∷ []) back (carried_document v D N) (split ∙ moved front e back) (omega (arith, above, longer front e)) base in
        let after = has_run (commits_by session back) (carried_document v D N) x.after own in
        let before : Run D (commits_by session back) A = subst (λ Ns. Run D Ns A) (by_other session e back other) p in
        let was : FitInTurn D (commits_by session back) = subst (FitInTurn D) (by_other session e back other) (own_fit front (e ∷ back) D split above r) in
        extends_on A after.0 T (later before after.1 x was own) (then (carried_document v D N) after.0 base q after.1)

    reach_entry : (o : Option Intent) → commit_of e ≡ o → (D A : Document) → Run O (commits_in front) D → Run D (commits_in (e ∷ back)) T → Run D (commits_by session (e ∷ back)) A → IsExtendedBy A T
    reach_entry None none D A r t a = then D A (run_same front e D none r) (subst (λ Ns. Run D Ns T) (no_commit e back none) t) (subst (λ Ns. Run D Ns A) (by_none session e back none) a)
    reach_entry (Some N) is D A r t a = reach_one D A N is (e.session == session) refl r (subst (λ Ns. Run D Ns T) (first_commit e back N is) t) a

  reach_end : (front : List Entry) (D T A : Document) → log ≡ front ++ [] → Run O (commits_in front) D → Run D [] T → Run D [] A → IsExtendedBy A T
  reach_end front D T A split r done done = extends_itself D (sound_after front [] D split r)

  pub reach : (back front : List Entry) (D T A : Document) → log ≡ front ++ back → known ≤ length front → Run O (commits_in front) D → Run D (commits_in back) T → Run D (commits_by session back) A → IsExtendedBy A T
  reach [] front D T A split above r t a = reach_end front D T A split r t a
  reach (e ∷ back) front D T A split above r t a =
      reach_entry front e back T split above (λ E B base q own. reach back (front ++ e ∷ []) E T B (split ∙ moved front e back) (omega (arith, above, longer front e)) base q own)
      (commit_of e) refl D A r t a

-- ## One entry

-- a change has the revision of its intent
rev_read : (l : Bool) (D : Document) (N : Intent) (C : Change) → IsRead l D N C → N.rev ≡ C.rev
rev_read l D N C h = sym h.1.rev ∙ ap (λ (K : Change). K.rev) (sym h.2)

first_shown : {l : Bool} {D F : Document} {N : Intent} {Ns : List Intent} {Cs : List Change} → ShowInTurn l D (N ∷ Ns) Cs F → (v : Verdict) × IsVerdict D N v × ShowInTurn l (carried_document v D N) Ns (drop 1 Cs) F
first_shown (one_shown v is c rest) = (v, is, rest)

first_judged : {D : Document} {N : Intent} {Ns : List Intent} {vs : List Verdict} → HaveVerdicts D (N ∷ Ns) vs → (v : Verdict) × IsVerdict D N v × HaveVerdicts (carried_document v D N) Ns (drop 1 vs)
first_judged (one_judged {v} is rest) = (v, is, rest)

-- the first of several commits in turn goes: the others stand behind it
pub first_goes : (l : Bool) (D F : Document) (N : Intent) (Ns : List Intent) (q : Turns) (v : Verdict) → IsVerdict D N v → StandInTurn l D (N ∷ Ns) q F
    → StandInTurn l (carried_document v D N) Ns (record { changes = drop 1 q.changes; verdicts = drop 1 q.verdicts }) F
first_goes l D F N Ns q v is s =
    let a = first_shown s.shown in
    let b = first_judged s.judged in
    record {
      shown = subst (λ y. ShowInTurn l (carried_document y D N) Ns (drop 1 q.changes) F) (one_verdict D N a.0 v a.1 is) a.2;
      judged = subst (λ y. HaveVerdicts (carried_document y D N) Ns (drop 1 q.verdicts)) (one_verdict D N b.0 v b.1 is) b.2;
    }

-- what was pushed through, with the step that goes on by the one behind it
pub passes : (l : Bool) (S W T : Step) (sent : Turns) (gone on : Option Step) (Xs : List Change) (us : List Verdict) → W ≡ S
    → ((D E F : Document) (Ns : List Intent) → IsExtendedBy D E → FitInTurn D Ns → FitInTurn E Ns → ShowInTurn l D Ns sent.changes F → HaveVerdicts D Ns sent.verdicts → IsStepRead l D E W
    → (G : Document) × ShowInTurn l E Ns Xs G × HaveVerdicts E Ns us × IsExtendedBy F G × IsStepRead l F G T)
    → ((A B C : Document) → IsExtendedBy A B → IsExtendedBy B C → HasGone l A B gone → IsStepRead l B C T → HasGone l A C on)
    → IsPassed l S sent gone (record { changes = Xs; verdicts = us }) on
passes l S W T sent gone on Xs us e pushed goes A D E F Ns x f g s y h step =
    let p = pushed D E F Ns x f g s.shown s.judged (subst (IsStepRead l D E) (sym e) step) in
    (p.0, record { shown = p.1; judged = p.2 }, p.3, goes A F p.0 y p.3 h p.4)

module _ (l : Bool) (O A : Document) (session : ℕ) where
  pass_none : (front : List Entry) (e : Entry) (back : List Entry) (sent : Turns) (gone : Option Step) → commit_of e ≡ None
      → IsRisen l O A front (e ∷ back) session sent gone → IsRisen l O A (front ++ e ∷ []) back session sent gone
  pass_none front e back sent gone none h = record {
    base = h.base;
    author = h.author;
    to_base = subst (λ Ns. Run O Ns h.base) (sym (same_commits front e none)) h.to_base;
    stands = subst (λ Ns. StandInTurn l h.base Ns sent h.author) (by_none session e back none) h.stands;
    extends = h.extends;
    step = h.step;
  }

  -- past entries that are no commits
  pub pass_to : (g : ℕ) (front back : List Entry) (sent : Turns) (gone : Option Step) → g ≤ length back
      → ((i : ℕ) (e : Entry) → i < g → slice_get back i ≡ Some e → commit_of e ≡ None)
      → IsRisen l O A front back session sent gone → IsRisen l O A (front ++ take g back) (drop g back) session sent gone
  pass_to zero front back sent gone within none h = subst (λ (es : List Entry). IsRisen l O A es back session sent gone) (sym (append-nil front)) h
  pass_to (suc g) front [] sent gone within none h = absurd (omega (arith, within))
  pass_to (suc g) front (e ∷ back) sent gone within none h =
      subst (λ (es : List Entry). IsRisen l O A es (drop g back) session sent gone) (append_assoc front (e ∷ []) (take g back))
      (pass_to g (front ++ e ∷ []) back sent gone (omega (arith, within)) (λ i x low at. none (suc i) x (omega (arith, low)) at)
      (pass_none front e back sent gone (none 0 e (omega arith) refl) h))

  pass_own : (front : List Entry) (e : Entry) (back : List Entry) (N : Intent) (v : Verdict) (sent : Turns) (gone : Option Step) → commit_of e ≡ Some N → (e.session == session) ≡ true
      → (h : IsRisen l O A front (e ∷ back) session sent gone) → IsVerdict h.base N v
      → IsRisen l O A (front ++ e ∷ []) back session (record { changes = drop 1 sent.changes; verdicts = drop 1 sent.verdicts }) gone
  pass_own front e back N v sent gone is own h judged = record {
    base = carried_document v h.base N;
    author = h.author;
    to_base = subst (λ Ns. Run O Ns (carried_document v h.base N)) (sym (more_commits front e N is)) (run_then h.to_base (next v judged done));
    stands = first_goes l h.base h.author N (commits_by session back) sent v judged (subst (λ Ns. StandInTurn l h.base Ns sent h.author) (by_own session e back N own is) h.stands);
    extends = h.extends;
    step = h.step;
  }

  pass_other : (log : List Entry) (known : ℕ) → IsWrittenFrom O log session known → (front : List Entry) (e : Entry) (back : List Entry) (N : Intent) (v : Verdict) (S : Step) (sent sent_later : Turns) (gone gone_later : Option Step)
      → log ≡ front ++ e ∷ back → known ≤ length front → commit_of e ≡ Some N → (e.session == session) ≡ false
      → (h : IsRisen l O A front (e ∷ back) session sent gone) → IsVerdict h.base N v → IsStepRead l h.base (carried_document v h.base N) S
      → IsPassed l S sent gone sent_later gone_later → IsRisen l O A (front ++ e ∷ []) back session sent_later gone_later
  pass_other log known w front e back N v S sent sent_later gone gone_later split above is other h judged step passed =
      let on : log ≡ (front ++ e ∷ []) ++ back = split ∙ moved front e back in
      let up : known ≤ length (front ++ e ∷ []) = omega (arith, above, longer front e) in
      let base : Run O (commits_in (front ++ e ∷ [])) (carried_document v h.base N) = subst (λ Ns. Run O Ns (carried_document v h.base N)) (sym (more_commits front e N is)) (run_then h.to_base (next v judged done)) in
      let fits : FitInTurn h.base (N ∷ commits_in back) = subst (FitInTurn h.base) (first_commit e back N is) (all_fit O log session known w front (e ∷ back) h.base split h.to_base) in
      let x = carried_extends h.base N v (sound_after O log session known w front (e ∷ back) h.base split h.to_base) fits.0 fits.1 judged in
      let here = subst (FitInTurn h.base) (by_other session e back other) (own_fit O log session known w front (e ∷ back) h.base split above h.to_base) in
      let there = own_fit O log session known w (front ++ e ∷ []) back (carried_document v h.base N) on up base in
      let p = passed A h.base (carried_document v h.base N) h.author (commits_by session back) x here there (subst (λ Ns. StandInTurn l h.base Ns sent h.author) (by_other session e back other) h.stands) h.extends h.step step in
      record {
        base = carried_document v h.base N;
        author = p.0;
        to_base = base;
        stands = p.1;
        extends = extends_on A h.author p.0 h.extends p.2;
        step = p.3;
      }

-- ## Up to a reference

-- where the session is in the log, with these commits still to be looked at
pub record AtPlace (l : Bool) (O A : Document) (log : List Entry) (session known reference : ℕ) (ks : List Kept) (sent : Turns) (gone : Option Step) : Type 0 where
  pub ahead : List Entry
  pub rest : List Entry
  pub split : log ≡ ahead ++ rest
  pub above : known ≤ length ahead
  pub within : length ahead ≤ reference
  pub next : AreNext l O log (length ahead) reference ks
  pub risen : IsRisen l O A ahead rest session sent gone

-- the first number is the least
least_first : (n : ℕ) (ks : List Kept) (k : Kept) → RiseFrom n ks → Has ks k → n < k.n
least_first n [] k rise h = absurd h
least_first n (x ∷ xs) k rise (inl e) = subst (λ (y : Kept). n < y.n) e rise.0
least_first n (x ∷ xs) k rise (inr h) = let a = rise.0 in let b : x.n < k.n = least_first x.n xs k rise.1 h in omega (arith)

get_past : {X : Type 0} (xs ys : List X) (g i : ℕ) → i ≡ length xs + g → slice_get (xs ++ ys) i ≡ slice_get ys g
get_past [] ys g i e = ap (slice_get ys) (omega (arith, e))
get_past (x ∷ xs) ys g zero e = absurd (omega (arith, e))
get_past (x ∷ xs) ys g (suc i) e = get_past xs ys g i (omega (arith, e))

module _ (l : Bool) (O A : Document) (log : List Entry) (session known reference : ℕ) (w : IsWrittenFrom O log session known) where
  -- one that is above the reference is passed over
  pub skipped : (x : Kept) (xs : List Kept) (sent : Turns) (gone : Option Step) → reference < x.n → AtPlace l O A log session known reference (x ∷ xs) sent gone → AtPlace l O A log session known reference xs sent gone
  skipped x xs sent gone high p = record {
    ahead = p.ahead;
    rest = p.rest;
    split = p.split;
    above = p.above;
    within = p.within;
    next = record { rise = lower (length p.ahead) p.next.rise; each = λ k h. p.next.each k (inr h); all = all };
    risen = p.risen;
  }
    where
      lower : (n : ℕ) → RiseFrom n (x ∷ xs) → RiseFrom n xs
      lower n rise = go xs rise.1
        where
          go : (ys : List Kept) → RiseFrom x.n ys → RiseFrom n ys
          go [] r = tt
          go (y ∷ ys) r = (let a = rise.0 in let b = r.0 in omega (arith), r.1)

      all : (i : ℕ) (e : Entry) (N : Intent) → slice_get log i ≡ Some e → commit_of e ≡ Some N → length p.ahead < i + 1 → i + 1 ≤ reference → (k : Kept) × Has xs k × (k.n ≡ i + 1)
      all i e N at is up low = go (p.next.all i e N at is up low)
        where
          go : (k : Kept) × Has (x ∷ xs) k × (k.n ≡ i + 1) → (k : Kept) × Has xs k × (k.n ≡ i + 1)
          go (k, inl q, n) = let same : x.n ≡ k.n = ap (λ (y : Kept). y.n) q in absurd (omega (arith, high, low, n, same))
          go (k, inr h, n) = (k, h, n)

  -- at the entry of the next one
  pub record AtEntry (x : Kept) (xs : List Kept) (sent : Turns) (gone : Option Step) : Type 0 where
    pub ahead : List Entry
    pub entry : Entry
    pub rest : List Entry
    pub intent : Intent
    pub split : log ≡ ahead ++ entry ∷ rest
    pub above : known ≤ length ahead
    pub number : x.n ≡ length ahead + 1
    pub is : commit_of entry ≡ Some intent
    pub rev : intent.rev.session ≡ entry.session
    pub risen : IsRisen l O A ahead (entry ∷ rest) session sent gone
    pub verdict : IsVerdict risen.base intent x.verdict
    pub change : IsRead l risen.base intent x.change
    pub step : IsStepRead l risen.base (carried_document x.verdict risen.base intent) x.step
    pub next : AreNext l O log x.n reference xs

  pub entered : (x : Kept) (xs : List Kept) (sent : Turns) (gone : Option Step) → x.n ≤ reference → AtPlace l O A log session known reference (x ∷ xs) sent gone → AtEntry x xs sent gone
  entered x xs sent gone low p = record {
    ahead = p.ahead ++ take g p.rest;
    entry = kept.entry;
    rest = drop (g + 1) p.rest;
    intent = kept.intent;
    split = whole;
    above = omega (arith, p.above, far);
    number = omega (arith, far, up);
    is = is;
    rev = w.own kept.entry kept.intent (at_has log (x.n - 1) kept.entry kept.there) is;
    risen = at;
    verdict = subst (λ D. IsVerdict D kept.intent x.verdict) same kept.verdict;
    change = subst (λ D. IsRead l D kept.intent x.change) same kept.change;
    step = subst (λ D. IsStepRead l D (carried_document x.verdict D kept.intent) x.step) same kept.step;
    next = record { rise = p.next.rise.1; each = λ k h. p.next.each k (inr h); all = all };
  }
    where
      up : length p.ahead < x.n
      up = p.next.rise.0

      g : ℕ
      g = x.n - 1 - length p.ahead

      kept : IsKept l O log x
      kept = p.next.each x (inl refl)

      is : commit_of kept.entry ≡ Some kept.intent
      is = ap commit_in kept.commit

      place : x.n - 1 ≡ length p.ahead + g
      place = omega (arith, up)

      there : slice_get p.rest g ≡ Some kept.entry
      there = sym (get_past p.ahead p.rest g (x.n - 1) place) ∙ ap (λ (es : List Entry). slice_get es (x.n - 1)) (sym p.split) ∙ kept.there

      inside : g < length p.rest
      inside = slice_get_within p.rest g kept.entry there

      far : length (p.ahead ++ take g p.rest) ≡ length p.ahead + g
      far = length-append p.ahead (take g p.rest) ∙ ap (λ n. length p.ahead + n) (length-take-le g p.rest (omega (arith, inside)))

      tail : drop g p.rest ≡ kept.entry ∷ drop (g + 1) p.rest
      tail = drop-slice_get p.rest g kept.entry there

      whole : log ≡ (p.ahead ++ take g p.rest) ++ kept.entry ∷ drop (g + 1) p.rest
      whole = p.split ∙ ap (λ (es : List Entry). p.ahead ++ es) (sym (take-append-drop g p.rest) ∙ ap (λ (es : List Entry). take g p.rest ++ es) tail) ∙ sym (append_assoc p.ahead (take g p.rest) (kept.entry ∷ drop (g + 1) p.rest))

      -- no commit stands between
      none : (i : ℕ) (e : Entry) → i < g → slice_get p.rest i ≡ Some e → commit_of e ≡ None
      none i e before here = go (commit_of e) refl
        where
          go : (o : Option Intent) → commit_of e ≡ o → commit_of e ≡ None
          go None q = q
          go (Some N) q =
              let there : slice_get log (length p.ahead + i) ≡ Some e = ap (λ (es : List Entry). slice_get es (length p.ahead + i)) p.split ∙ get_past p.ahead p.rest i (length p.ahead + i) refl ∙ here in
              let k = p.next.all (length p.ahead + i) e N there q (omega arith) (omega (arith, before, low, up)) in
              absurd (first k.0 k.1 k.2)
            where
              first : (k : Kept) → Has (x ∷ xs) k → k.n ≡ length p.ahead + i + 1 → ⊥
              first k (inl q) n = let same : x.n ≡ k.n = ap (λ (y : Kept). y.n) q in omega (arith, same, n, before, up)
              first k (inr h) n = let later : x.n < k.n = least_first x.n xs k p.next.rise.1 h in omega (arith, later, n, before, up)

      at : IsRisen l O A (p.ahead ++ take g p.rest) (kept.entry ∷ drop (g + 1) p.rest) session sent gone
      at = subst (λ (es : List Entry). IsRisen l O A (p.ahead ++ take g p.rest) es session sent gone) tail (pass_to l O A session g p.ahead p.rest sent gone (omega (arith, inside)) none p.risen)

      same : kept.before ≡ at.base
      same = one_run (subst (λ (es : List Entry). Run O (commits_in es) kept.before) front kept.to_before) at.to_base
        where
          front : take (x.n - 1) log ≡ p.ahead ++ take g p.rest
          front = ap (λ (es : List Entry). take (x.n - 1) es) whole ∙ ap (λ n. take n ((p.ahead ++ take g p.rest) ++ kept.entry ∷ drop (g + 1) p.rest)) (place ∙ sym far) ∙ take-append_seam (p.ahead ++ take g p.rest) (kept.entry ∷ drop (g + 1) p.rest)

      all : (i : ℕ) (e : Entry) (N : Intent) → slice_get log i ≡ Some e → commit_of e ≡ Some N → x.n < i + 1 → i + 1 ≤ reference → (k : Kept) × Has xs k × (k.n ≡ i + 1)
      all i e N here q later within = go (p.next.all i e N here q (omega (arith, later, up)) within)
        where
          go : (k : Kept) × Has (x ∷ xs) k × (k.n ≡ i + 1) → (k : Kept) × Has xs k × (k.n ≡ i + 1)
          go (k, inl e, n) = let same : x.n ≡ k.n = ap (λ (y : Kept). y.n) e in absurd (omega (arith, same, n, later))
          go (k, inr h, n) = (k, h, n)

  module _ (x : Kept) (xs : List Kept) (sent : Turns) (gone : Option Step) (low : x.n ≤ reference) (a : AtEntry x xs sent gone) where
    past : (later : Turns) (on : Option Step) → IsRisen l O A (a.ahead ++ a.entry ∷ []) a.rest session later on → AtPlace l O A log session known reference xs later on
    past later on risen = record {
      ahead = a.ahead ++ a.entry ∷ [];
      rest = a.rest;
      split = a.split ∙ moved a.ahead a.entry a.rest;
      above = omega (arith, a.above, longer a.ahead a.entry);
      within = omega (arith, a.number, longer a.ahead a.entry, low);
      next = subst (λ n. AreNext l O log n reference xs) (omega (arith, a.number, longer a.ahead a.entry)) a.next;
      risen = risen;
    }

    -- a commit of the session
    pub own_passed : x.change.rev.session ≡ session → AtPlace l O A log session known reference xs (record { changes = drop 1 sent.changes; verdicts = drop 1 sent.verdicts }) gone
    own_passed own = past (record { changes = drop 1 sent.changes; verdicts = drop 1 sent.verdicts }) gone (pass_own l O A session a.ahead a.entry a.rest a.intent x.verdict sent gone a.is yes a.risen a.verdict)
      where
        yes : (a.entry.session == session) ≡ true
        yes = let e : a.entry.session ≡ session = sym a.rev ∙ ap (λ (r : Rev). r.session) (rev_read l a.risen.base a.intent x.change a.change) ∙ own in grind (arith, nat_tests)

    -- another's commit
    pub other_passed : (x.change.rev.session ≡ session → ⊥) → (later : Turns) (on : Option Step) → IsPassed l x.step sent gone later on → AtPlace l O A log session known reference xs later on
    other_passed other later on passed = past later on (pass_other l O A session log known w a.ahead a.entry a.rest a.intent x.verdict x.step sent later gone on a.split a.above a.is no a.risen a.verdict a.step passed)
      where
        no : (a.entry.session == session) ≡ false
        no = go (a.entry.session == session) refl
          where
            go : (b : Bool) → (a.entry.session == session) ≡ b → (a.entry.session == session) ≡ false
            go false e = e
            go true e =
                let same : a.entry.session ≡ session = grind (arith, nat_tests) in
                absurd (other (sym (ap (λ (r : Rev). r.session) (rev_read l a.risen.base a.intent x.change a.change)) ∙ a.rev ∙ same))

  -- with none left it is at the reference
  pub arrived : (sent : Turns) (gone : Option Step) → reference ≤ length log → AtPlace l O A log session known reference [] sent gone
      → (ahead rest : List Entry) × (log ≡ ahead ++ rest) × (length ahead ≡ reference) × IsRisen l O A ahead rest session sent gone
  arrived sent gone end p = (p.ahead ++ take g p.rest, drop g p.rest, whole, far, pass_to l O A session g p.ahead p.rest sent gone inside none p.risen)
    where
      g : ℕ
      g = reference - length p.ahead

      size : length log ≡ length p.ahead + length p.rest
      size = ap length p.split ∙ length-append p.ahead p.rest

      inside : g ≤ length p.rest
      inside = omega (arith, size, end, p.within)

      whole : log ≡ (p.ahead ++ take g p.rest) ++ drop g p.rest
      whole = p.split ∙ ap (λ (es : List Entry). p.ahead ++ es) (sym (take-append-drop g p.rest)) ∙ sym (append_assoc p.ahead (take g p.rest) (drop g p.rest))

      far : length (p.ahead ++ take g p.rest) ≡ reference
      far = let a = length-append p.ahead (take g p.rest) in let b = length-take-le g p.rest inside in omega (arith, a, b, p.within)

      none : (i : ℕ) (e : Entry) → i < g → slice_get p.rest i ≡ Some e → commit_of e ≡ None
      none i e before here = go (commit_of e) refl
        where
          go : (o : Option Intent) → commit_of e ≡ o → commit_of e ≡ None
          go None q = q
          go (Some N) q =
              let there : slice_get log (length p.ahead + i) ≡ Some e = ap (λ (es : List Entry). slice_get es (length p.ahead + i)) p.split ∙ get_past p.ahead p.rest i (length p.ahead + i) refl ∙ here in
              let k = p.next.all (length p.ahead + i) e N there q (omega arith) (omega (arith, before, p.within)) in
              absurd k.1

  -- past the next one, whosever it is
  pub moved_on : (x : Kept) (xs : List Kept) (sent later : Turns) (gone on : Option Step) → x.n ≤ reference → AtPlace l O A log session known reference (x ∷ xs) sent gone
      → (x.change.rev.session ≡ session → (on ≡ gone) × (later ≡ record { changes = drop 1 sent.changes; verdicts = drop 1 sent.verdicts }))
      → ((x.change.rev.session ≡ session → ⊥) → IsPassed l x.step sent gone later on) → AtPlace l O A log session known reference xs later on
  moved_on x xs sent later gone on low p own other = go (x.change.rev.session == session) refl
    where
      a : AtEntry x xs sent gone
      a = entered x xs sent gone low p

      go : (b : Bool) → (x.change.rev.session == session) ≡ b → AtPlace l O A log session known reference xs later on
      go true e =
          let same : x.change.rev.session ≡ session = grind (arith, nat_tests) in
          let o = own same in
          subst (λ s. AtPlace l O A log session known reference xs s on) (sym o.1) (subst (λ h. AtPlace l O A log session known reference xs (record { changes = drop 1 sent.changes; verdicts = drop 1 sent.verdicts }) h) (sym o.0) (own_passed x xs sent gone low a same))
      go false e =
          let apart : x.change.rev.session ≡ session → ⊥ = λ q. differs q e in
          other_passed x xs sent gone low a apart later on (other apart)
        where
          differs : x.change.rev.session ≡ session → (x.change.rev.session == session) ≡ false → ⊥
          differs q e = grind (arith, nat_tests)

-- before the first one
pub begun : (l : Bool) (O A : Document) (log : List Entry) (session known reference : ℕ) (front back : List Entry) (ks : List Kept) (sent : Turns) → log ≡ front ++ back → known ≤ length front → length front ≤ reference
    → AreNext l O log (length front) reference ks → IsRisen l O A front back session sent None → AtPlace l O A log session known reference ks sent None
begun l O A log session known reference front back ks sent split above within coming risen = record { ahead = front; rest = back; split = split; above = above; within = within; next = coming; risen = risen }
