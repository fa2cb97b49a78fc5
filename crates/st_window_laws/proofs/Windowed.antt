-- A window is that of its log as the log grows and the floor rises.
use Rattle.std.proofs.Common.{◌≡◌, ◌≤◌, ◌<◌, ◌+◌, ◌-◌, ℕ, zero, suc, Bool, true, List, [], ◌∷◌, ◌++◌, length, length-append, get_or, take, nat_lt, Option, Some, None, refl, sym, ap, ◌∙◌, subst, arith, ◌⊎◌, inl, inr}
use Rattle.std.specs.List.{All, slice_get}
use Rattle.std.proofs.lemmas.Bool.{cases_lt}
use Rattle.std.proofs.lemmas.Bool.Decides.{nat_tests}
use Rattle.std.proofs.lemmas.List.{take-append-le, take_all}
use Rattle.std.proofs.lemmas.Option.{slice_get_within, slice_get-get_or}
use Rattle.st_ids.proofs.Shared.{at_has, filtered, filter-has}
use Rattle.st_ids.specs.Listing.{Has}
use Rattle.st_marks.specs.declared.intents.Intent.{Intent}
use Rattle.st_marks.specs.Document.{Document}
use Rattle.st_marks.specs.Run.{Run}
use Rattle.st_marks.specs.Verdict.{IsVerdict, carried_document}
use Rattle.st_marks.proofs.Members.{append_left, append_right, has-append}
use Rattle.st_lists.specs.declared.lists.Body.{Body}
use Rattle.st_lists.specs.declared.lists.Body.TheVariants.{Commit}
use Rattle.st_lists.specs.declared.lists.Entry.{Entry}
use Rattle.st_lists.specs.Log.{commit_in, commit_of, commits_in, log_with}
use Rattle.st_lists.proofs.Logs.{last_entry}
use Rattle.st_read_laws.specs.Reading.{IsRead, IsStepRead}
use Rattle.st_window.specs.declared.kept.Kept.{Kept}
use Rattle.st_window.specs.Window.{RiseFrom, WindowView, kept_above}
use Rattle.st_window.proofs.Numbers.{above_rise, pushed_rise}
use Rattle.st_window_laws.specs.Windows.{IsKept, IsWindowOf}

-- ## Lists with one item more

get_front : {X : Type 0} (xs ys : List X) (i : ℕ) → i < length xs → slice_get (xs ++ ys) i ≡ slice_get xs i
get_front [] ys i h = absurd (omega (arith, h))
get_front (x ∷ xs) ys zero h = refl
get_front (x ∷ xs) ys (suc i) h = get_front xs ys i (omega (arith, h))

get_last : {X : Type 0} (xs : List X) (x : X) → slice_get (xs ++ x ∷ []) (length xs) ≡ Some x
get_last [] x = refl
get_last (y ∷ ys) x = get_last ys x

-- each item is one of before, or the last one
get_either : {X : Type 0} (xs : List X) (x y : X) (i : ℕ) → slice_get (xs ++ x ∷ []) i ≡ Some y
    → (slice_get xs i ≡ Some y) ⊎ ((i ≡ length xs) × (x ≡ y))
get_either xs x y i there = elim (cases_lt i (length xs)) [
  | inl within ↦ inl (sym (get_front xs (x ∷ []) i within) ∙ there)
  | inr past ↦
      let inside : i < length (xs ++ x ∷ []) = slice_get_within (xs ++ x ∷ []) i y there in
      let last : i ≡ length xs = omega (arith, inside, past, length-append xs (x ∷ [])) in
      let same : ◌≡◌ {A = Option _} (Some x) (Some y) = sym (get_last xs x) ∙ ap (slice_get (xs ++ x ∷ [])) (sym last) ∙ there in
      inr (last, (cc))
]

-- ## What is kept

-- it stays so as entries come
kept_longer : (l : Bool) (D : Document) (log more : List Entry) (k : Kept) → IsKept l D log k → IsKept l D (log ++ more) k
kept_longer l D log more k w = record {
  entry = w.entry;
  reference = w.reference;
  intent = w.intent;
  before = w.before;
  there = get_front log more (k.n - 1) inside ∙ w.there;
  commit = w.commit;
  to_before = subst (λ (es : List Entry). Run D (commits_in es) w.before) (sym (take-append-le (k.n - 1) log more (omega (arith, inside)))) w.to_before;
  verdict = w.verdict;
  change = w.change;
  step = w.step;
}
  where
    inside : k.n - 1 < length log
    inside = slice_get_within log (k.n - 1) w.entry w.there

-- its number is that of an entry
pub numbers_within : (l : Bool) (D : Document) (log : List Entry) (w : WindowView) → IsWindowOf l D log w → All (λ (k : Kept). k.n < length log + 1) w.kept
numbers_within l D log w h i d inside = omega (arith, within)
  where
    k : Kept
    k = get_or w.kept i d

    kept : IsKept l D log k
    kept = h.each k (at_has w.kept i k (slice_get-get_or w.kept i d inside))

    within : k.n - 1 < length log
    within = slice_get_within log (k.n - 1) kept.entry kept.there

-- ## The log grows

pub begun : (l : Bool) (D : Document) (floor : ℕ) → IsWindowOf l D [] (record { floor = floor; kept = [] })
begun l D floor = record {
  rise = tt;
  each = λ k h. absurd h;
  all = λ i e N there is above. absurd (let bad : ◌≡◌ {A = Option Entry} None (Some e) = there in cc);
}

pub taken : (l : Bool) (D E : Document) (log : List Entry) (w : WindowView) (session reference : ℕ) (N : Intent) (k : Kept)
    → IsWindowOf l D log w → w.floor ≤ length log → k.n ≡ length log + 1 → Run D (commits_in log) E
    → IsVerdict E N k.verdict → IsRead l E N k.change → IsStepRead l E (carried_document k.verdict E N) k.step
    → IsWindowOf l D (log_with log session (Commit reference k.ids N)) (record { floor = w.floor; kept = w.kept ++ k ∷ [] })
taken l D E log w session reference N k h low num run verdict change step = record { rise = rise; each = each; all = all }
  where
    last : Entry
    last = last_entry log session (Commit reference k.ids N)

    longer : List Entry
    longer = log ++ last ∷ []

    place : k.n - 1 ≡ length log
    place = omega (arith, num)

    numbers : All (λ (x : Kept). x.n < k.n) w.kept
    numbers i d inside = let within : (get_or w.kept i d).n < length log + 1 = numbers_within l D log w h i d inside in omega (arith, within, num)

    rise : RiseFrom w.floor (w.kept ++ k ∷ [])
    rise = pushed_rise w.floor w.kept k h.rise (omega (arith, low, num)) numbers

    before : take (k.n - 1) longer ≡ log
    before = ap (λ i. take i longer) place ∙ take-append-le (length log) log (last ∷ []) (omega arith) ∙ take_all (length log) log (omega arith)

    new : IsKept l D longer k
    new = record {
      entry = last;
      reference = reference;
      intent = N;
      before = E;
      there = ap (slice_get longer) place ∙ get_last log last;
      commit = refl;
      to_before = subst (λ (es : List Entry). Run D (commits_in es) E) (sym before) run;
      verdict = verdict;
      change = change;
      step = step;
    }

    each : (x : Kept) → Has (w.kept ++ k ∷ []) x → IsKept l D longer x
    each x i = go (has-append w.kept (k ∷ []) x i)
      where
        go : (Has w.kept x ⊎ Has (k ∷ []) x) → IsKept l D longer x
        go (inl j) = kept_longer l D log (last ∷ []) x (h.each x j)
        go (inr (inl e)) = subst (IsKept l D longer) e new
        go (inr (inr none)) = absurd none

    all : (i : ℕ) (e : Entry) (M : Intent) → slice_get longer i ≡ Some e → commit_of e ≡ Some M → w.floor < i + 1
        → (x : Kept) × Has (w.kept ++ k ∷ []) x × (x.n ≡ i + 1)
    all i e M there is above = go (get_either log last e i there)
      where
        go : ((slice_get log i ≡ Some e) ⊎ ((i ≡ length log) × (last ≡ e))) → (x : Kept) × Has (w.kept ++ k ∷ []) x × (x.n ≡ i + 1)
        go (inl old) = let x = h.all i e M old is above in (x.0, append_left w.kept (k ∷ []) x.0 x.1, x.2)
        go (inr at) = (k, append_right w.kept (k ∷ []) k (inl refl), omega (arith, num, at.0))

pub passed : (l : Bool) (D : Document) (log : List Entry) (w : WindowView) (session : ℕ) (body : Body)
    → IsWindowOf l D log w → commit_in body ≡ None → IsWindowOf l D (log_with log session body) w
passed l D log w session body h none = record {
  rise = h.rise;
  each = λ k i. kept_longer l D log (last ∷ []) k (h.each k i);
  all = all;
}
  where
    last : Entry
    last = last_entry log session body

    all : (i : ℕ) (e : Entry) (M : Intent) → slice_get (log ++ last ∷ []) i ≡ Some e → commit_of e ≡ Some M → w.floor < i + 1
        → (x : Kept) × Has w.kept x × (x.n ≡ i + 1)
    all i e M there is above = go (get_either log last e i there)
      where
        go : ((slice_get log i ≡ Some e) ⊎ ((i ≡ length log) × (last ≡ e))) → (x : Kept) × Has w.kept x × (x.n ≡ i + 1)
        go (inl old) = h.all i e M old is above
        go (inr at) = absurd (let bad : ◌≡◌ {A = Option Intent} None (Some M) = sym none ∙ ap commit_of at.1 ∙ is in cc)

-- ## The floor rises

pub risen : (l : Bool) (D : Document) (log : List Entry) (w : WindowView) (floor : ℕ)
    → IsWindowOf l D log w → w.floor ≤ floor → IsWindowOf l D log (record { floor = floor; kept = kept_above floor w.kept })
risen l D log w floor h up = record {
  rise = above_rise w.floor floor w.kept h.rise;
  each = λ k i. h.each k (filtered passes w.kept k i).0;
  all = all;
}
  where
    passes : Kept → Bool
    passes k = nat_lt floor k.n

    all : (i : ℕ) (e : Entry) (M : Intent) → slice_get log i ≡ Some e → commit_of e ≡ Some M → floor < i + 1
        → (x : Kept) × Has (kept_above floor w.kept) x × (x.n ≡ i + 1)
    all i e M there is above =
        let x = h.all i e M there is (omega (arith, up, above)) in
        let high : floor < x.0.n = omega (arith, above, x.2) in
        let yes : nat_lt floor x.0.n ≡ true = grind (arith, nat_tests) in
        (x.0, filter-has passes w.kept x.0 x.1 yes, x.2)
