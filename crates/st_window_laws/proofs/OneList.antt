-- A log has one window above a floor.
use Rattle.std.proofs.Common.{◌≡◌, ◌<◌, ◌+◌, ◌-◌, ℕ, Bool, List, [], ◌∷◌, ◌++◌, take, drop, Option, Some, refl, sym, ap, ◌∙◌, subst, arith, inl, inr}
use Rattle.std.specs.List.{slice_get}
use Rattle.st_ids.specs.Listing.{Has}
use Rattle.st_marks.specs.declared.intents.Intent.{Intent}
use Rattle.st_marks.specs.Document.{Document, IsSoundInForm}
use Rattle.st_marks.specs.Extends.{IsExtendedBy}
use Rattle.st_marks.specs.Run.{Run, done, next, FitsInTurn}
use Rattle.st_marks.specs.Verdict.{IsVerdict, carried_document}
use Rattle.st_marks.proofs.OneVerdict.{one_run, one_verdict, run_front, run_then}
use Rattle.st_lists.specs.declared.lists.Body.TheVariants.{Commit}
use Rattle.st_lists.specs.declared.lists.Entry.{Entry}
use Rattle.st_lists.specs.Log.{commit_in, commit_of, commits_in}
use Rattle.st_lists.proofs.Logs.{commits_append, commits_split, one_commit, take-get}
use Rattle.st_read_laws.specs.Reading.{IsRead, IsStepRead}
use Rattle.st_read_laws.proofs.Readings.{one_read, one_step_read}
use Rattle.st_window.specs.declared.kept.Kept.{Kept}
use Rattle.st_window.specs.Window.{RiseFrom, WindowView}
use Rattle.st_window_laws.specs.Windows.{IsKept, IsWindowOf}

-- ## Lists that rise

-- each number is above the one that they rise from
above : (n : ℕ) (ks : List Kept) (k : Kept) → RiseFrom n ks → Has ks k → n < k.n
above n [] k rise h = absurd h
above n (x ∷ xs) k rise (inl e) = let same : x.n ≡ k.n = ap (λ (y : Kept). y.n) e in omega (arith, rise.0, same)
above n (x ∷ xs) k rise (inr h) = let later : x.n < k.n = above x.n xs k rise.1 h in omega (arith, rise.0, later)

-- what rises from a first one isn't that
behind : (y z : Kept) (zs : List Kept) → y.n < z.n → Has (y ∷ zs) z → Has zs z
behind y z zs less (inl e) = let same : y.n ≡ z.n = ap (λ (v : Kept). v.n) e in absurd (omega (arith, less, same))
behind y z zs less (inr h) = h

-- the first of each is the first of the other
firsts : (n m : ℕ) (k x : Kept) (ks xs : List Kept) → RiseFrom n (k ∷ ks) → RiseFrom m (x ∷ xs) → Has (x ∷ xs) k → Has (k ∷ ks) x → k ≡ x
firsts n m k x ks xs a b (inl e) i = sym e
firsts n m k x ks xs a b (inr h) (inl e) = e
firsts n m k x ks xs a b (inr h) (inr i) =
    let one : x.n < k.n = above x.n xs k b.1 h in
    let two : k.n < x.n = above k.n ks x a.1 i in
    absurd (omega (arith, one, two))

-- two that have the same items are one
one_rising : (n m : ℕ) (ks xs : List Kept) → RiseFrom n ks → RiseFrom m xs
    → ((k : Kept) → Has ks k → Has xs k) → ((k : Kept) → Has xs k → Has ks k) → ks ≡ xs
one_rising n m [] [] a b there back = refl
one_rising n m [] (x ∷ xs) a b there back = absurd (back x (inl refl))
one_rising n m (k ∷ ks) [] a b there back = absurd (there k (inl refl))
one_rising n m (k ∷ ks) (x ∷ xs) a b there back =
    let first : k ≡ x = firsts n m k x ks xs a b (there k (inl refl)) (back x (inl refl)) in
    let same : k.n ≡ x.n = ap (λ (v : Kept). v.n) first in
    let rest : ks ≡ xs = one_rising k.n x.n ks xs a.1 b.1
    (λ z h. let less : k.n < z.n = above k.n ks z a.1 h in behind x z xs (omega (arith, less, same)) (there z (inr h)))
    (λ z h. let less : x.n < z.n = above x.n xs z b.1 h in behind k z ks (omega (arith, less, same)) (back z (inr h))) in
    λ i. first i ∷ rest i

-- ## One commit

-- the document after a commit of the log is sound in form
after_sound : (D T : Document) (log : List Entry) → IsSoundInForm D → (r : Run D (commits_in log) T) → FitsInTurn r
    → (i : ℕ) (e : Entry) (N : Intent) (B : Document) (v : _) → slice_get log i ≡ Some e → commit_of e ≡ Some N → Run D (commits_in (take i log)) B → IsVerdict B N v
    → IsSoundInForm (carried_document v B N)
after_sound D T log sound r fits i e N B v there is run verdict = subst IsSoundInForm same sound_after
  where
    front : List Intent
    front = commits_in (take i log) ++ N ∷ []

    fronts : commits_in (take (i + 1) log) ≡ front
    fronts = ap commits_in (take-get log i e there) ∙ commits_append (take i log) (e ∷ []) ∙ ap (λ Ns. commits_in (take i log) ++ Ns) (one_commit e N is)

    split : commits_in log ≡ front ++ commits_in (drop (i + 1) log)
    split = commits_split (i + 1) log ∙ ap (λ Ns. Ns ++ commits_in (drop (i + 1) log)) fronts

    both : (s : Run D (front ++ commits_in (drop (i + 1) log)) T) × FitsInTurn s
    both = subst (λ Ns. (s : Run D Ns T) × FitsInTurn s) split (r, fits)

    at : (E : Document) × Run D front E × Run E (commits_in (drop (i + 1) log)) T × IsExtendedBy D E × IsExtendedBy E T
    at = run_front front both.0 sound both.1

    sound_after : IsSoundInForm at.0
    sound_after = at.3.after

    same : at.0 ≡ carried_document v B N
    same = one_run at.1 (run_then run (next v verdict done))

-- two that are kept of one number are one
one_kept : (l : Bool) (D T : Document) (log : List Entry) → IsSoundInForm D → (r : Run D (commits_in log) T) → FitsInTurn r
    → (k x : Kept) → IsKept l D log k → IsKept l D log x → k.n ≡ x.n → k ≡ x
one_kept l D T log sound r fits k x a b num = λ i. record { n = num i; ids = ids i; change = change i; step = step i; verdict = verdict i }
  where
    entries : ◌≡◌ {A = Option Entry} (Some a.entry) (Some b.entry)
    entries = sym a.there ∙ ap (λ n. slice_get log (n - 1)) num ∙ b.there

    entry : a.entry ≡ b.entry
    entry = cc

    bodies : Commit a.reference k.ids a.intent ≡ Commit b.reference x.ids b.intent
    bodies = sym a.commit ∙ ap (λ (e : Entry). e.body) entry ∙ b.commit

    ids : k.ids ≡ x.ids
    ids = cc

    intent : a.intent ≡ b.intent
    intent = cc

    before : a.before ≡ b.before
    before = one_run (subst (λ n. Run D (commits_in (take (n - 1) log)) a.before) num a.to_before) b.to_before

    verdict : k.verdict ≡ x.verdict
    verdict = one_verdict b.before b.intent k.verdict x.verdict (moved (λ B N. IsVerdict B N k.verdict) a.verdict) b.verdict
      where
        moved : (P : Document → Intent → Type 0) → P a.before a.intent → P b.before b.intent
        moved P p = subst (λ N. P b.before N) intent (subst (λ B. P B a.intent) before p)

    change : k.change ≡ x.change
    change = one_read l b.before b.intent k.change x.change
        (subst (λ N. IsRead l b.before N k.change) intent (subst (λ B. IsRead l B a.intent k.change) before a.change)) b.change

    now : Document
    now = carried_document x.verdict b.before b.intent

    step : k.step ≡ x.step
    step = one_step_read l b.before now k.step x.step
        (after_sound D T log sound r fits (x.n - 1) b.entry b.intent b.before x.verdict b.there (ap commit_in b.commit) b.to_before b.verdict)
        (subst (λ v. IsStepRead l b.before (carried_document v b.before b.intent) k.step) verdict
        (subst (λ N. IsStepRead l b.before (carried_document k.verdict b.before N) k.step) intent
        (subst (λ B. IsStepRead l B (carried_document k.verdict B a.intent) k.step) before a.step)))
        b.step

-- ## One window

-- what one keeps, the other does
among : (l : Bool) (D T : Document) (log : List Entry) → IsSoundInForm D → (r : Run D (commits_in log) T) → FitsInTurn r
    → (v w : WindowView) → IsWindowOf l D log v → IsWindowOf l D log w → v.floor ≡ w.floor → (k : Kept) → Has v.kept k → Has w.kept k
among l D T log sound r fits v w a b floors k h = subst (Has w.kept) same x.1
  where
    kept : IsKept l D log k
    kept = a.each k h

    high : v.floor < k.n
    high = above v.floor v.kept k a.rise h

    x : (x : Kept) × Has w.kept x × (x.n ≡ k.n - 1 + 1)
    x = b.all (k.n - 1) kept.entry kept.intent kept.there (ap commit_in kept.commit) (omega (arith, high, floors))

    same : x.0 ≡ k
    same = one_kept l D T log sound r fits x.0 k (b.each x.0 x.1) kept (omega (arith, x.2, high))

pub one_window : (l : Bool) (D T : Document) (log : List Entry) (v w : WindowView) → IsSoundInForm D → (r : Run D (commits_in log) T) → FitsInTurn r
    → IsWindowOf l D log v → IsWindowOf l D log w → v.floor ≡ w.floor → v ≡ w
one_window l D T log v w sound r fits a b floors = λ i. record { floor = floors i; kept = kept i }
  where
    kept : v.kept ≡ w.kept
    kept = one_rising v.floor w.floor v.kept w.kept a.rise b.rise
        (among l D T log sound r fits v w a b floors) (among l D T log sound r fits w v b a (sym floors))
