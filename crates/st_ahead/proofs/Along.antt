-- The lists over which a session writes, along the entries of a log.
use Rattle.std.proofs.Common.{◌≡◌, ◌≤◌, ◌<◌, ◌+◌, ◌-◌, ◌==◌, ℕ, zero, suc, Bool, true, false, List, [], ◌∷◌, ◌++◌, length, take, drop, Option, Some, None, refl, sym, ap, ◌∙◌, append_assoc, arith, ◌⊎◌, inl, inr}
use Rattle.std.specs.List.{slice_get}
use Rattle.std.proofs.lemmas.List.{append-nil, take-append-drop}
use Rattle.st_lemmas.proofs.Lists.{drop-slice_get}
use Rattle.st_lists.specs.declared.lists.Body.{Body}
use Rattle.st_lists.specs.declared.lists.Entry.{Entry}
use Rattle.st_lists.specs.Log.{commit_of, commits_by, commits_in, log_with}
use Rattle.st_lists.proofs.Logs.{by_append, by_none, by_own, commits_append, last_entry, no_commit, one_commit, take-get}
use Rattle.st_marks.specs.declared.intents.Intent.{Intent}
use Rattle.st_valid.specs.Author.{author_list}
use Rattle.st_valid.proofs.AuthorsLists.{author_grows}
use Rattle.st_ahead.specs.Lags.{IsOfAnother}

-- ## Lists

none_left : {X : Type 0} (xs ys : List X) → xs ++ ys ≡ [] → ys ≡ []
none_left [] ys e = e
none_left (x ∷ xs) ys e = cc

pub get_front : {X : Type 0} (xs ys : List X) (i : ℕ) → i < length xs → slice_get (xs ++ ys) i ≡ slice_get xs i
get_front [] ys i h = absurd (omega (arith, h))
get_front (x ∷ xs) ys zero h = refl
get_front (x ∷ xs) ys (suc i) h = get_front xs ys i (omega (arith, h))

pub get_some : {X : Type 0} (xs : List X) (i : ℕ) → i < length xs → (x : X) × (slice_get xs i ≡ Some x)
get_some [] i h = absurd (omega (arith, h))
get_some (x ∷ xs) zero h = (x, refl)
get_some (x ∷ xs) (suc i) h = get_some xs i (omega (arith, h))

module _ (log : List Entry) (session : ℕ) where
  -- ## One entry more is received

  front_next : (i : ℕ) (e : Entry) → slice_get log i ≡ Some e → commits_in (take (i + 1) log) ≡ commits_in (take i log) ++ commits_in (e ∷ [])
  front_next i e at = ap commits_in (take-get log i e at) ∙ commits_append (take i log) (e ∷ [])

  pub rest_next : (i : ℕ) (e : Entry) → slice_get log i ≡ Some e → commits_by session (drop i log) ≡ commits_by session (e ∷ drop (i + 1) log)
  rest_next i e at = ap (commits_by session) (drop-slice_get log i e at)

  -- one that is no commit, or the session's own: the list stays
  none_next : (i : ℕ) (e : Entry) → slice_get log i ≡ Some e → commit_of e ≡ None → author_list log session (i + 1) ≡ author_list log session i
  none_next i e at none =
      ap (λ Ns. Ns ++ commits_by session (drop (i + 1) log)) (front_next i e at ∙ ap (λ Ns. commits_in (take i log) ++ Ns) (no_commit e none) ∙ append-nil (commits_in (take i log)))
      ∙ ap (λ Ns. commits_in (take i log) ++ Ns) (sym (rest_next i e at ∙ by_none session e (drop (i + 1) log) none))

  own_next : (i : ℕ) (e : Entry) (N : Intent) → slice_get log i ≡ Some e → commit_of e ≡ Some N → (e.session == session) ≡ true → author_list log session (i + 1) ≡ author_list log session i
  own_next i e N at is own =
      ap (λ Ns. Ns ++ commits_by session (drop (i + 1) log)) (front_next i e at ∙ ap (λ Ns. commits_in (take i log) ++ Ns) (one_commit e N is))
      ∙ append_assoc (commits_in (take i log)) (N ∷ []) (commits_by session (drop (i + 1) log))
      ∙ ap (λ Ns. commits_in (take i log) ++ Ns) (sym (rest_next i e at ∙ by_own session e (drop (i + 1) log) N own is))

  -- it is another's commit, or the list stays
  next : (i : ℕ) → i < length log → IsOfAnother log session (i + 1) ⊎ (author_list log session (i + 1) ≡ author_list log session i)
  next i within = at (get_some log i within)
    where
      at : (e : Entry) × (slice_get log i ≡ Some e) → IsOfAnother log session (i + 1) ⊎ (author_list log session (i + 1) ≡ author_list log session i)
      at (e, there) = go (commit_of e) (e.session == session) refl refl
        where
          go : (o : Option Intent) (b : Bool) → commit_of e ≡ o → (e.session == session) ≡ b → IsOfAnother log session (i + 1) ⊎ (author_list log session (i + 1) ≡ author_list log session i)
          go None b none whose = inr (none_next i e there none)
          go (Some N) true is own = inr (own_next i e N there is own)
          go (Some N) false is other = inl (record { entry = e; intent = N; there = ap (slice_get log) (omega arith) ∙ there; commit = is; other = other })

  -- ## Several more

  -- where none of them is another's commit the list stays
  same_over : (g m : ℕ) → m + g ≤ length log → ((k : ℕ) → m < k → k ≤ m + g → IsOfAnother log session k → ⊥) → author_list log session (m + g) ≡ author_list log session m
  same_over zero m within none = ap (author_list log session) (omega arith)
  same_over (suc g) m within none =
      ap (author_list log session) (omega arith) ∙ here (next (m + g) (omega (arith, within))) ∙ same_over g m (omega (arith, within)) (λ k up low. none k up (omega (arith, low)))
    where
      here : IsOfAnother log session (m + g + 1) ⊎ (author_list log session (m + g + 1) ≡ author_list log session (m + g)) → author_list log session (m + g + 1) ≡ author_list log session (m + g)
      here (inl o) = absurd (none (m + g + 1) (omega arith) (omega arith) o)
      here (inr e) = e

  pub same_between : (m n : ℕ) → m ≤ n → n ≤ length log → ((k : ℕ) → m < k → k ≤ n → IsOfAnother log session k → ⊥) → author_list log session n ≡ author_list log session m
  same_between m n up within none =
      let far : m + (n - m) ≡ n = omega (arith, up) in
      ap (author_list log session) (sym far) ∙ same_over (n - m) m (omega (arith, far, within)) (λ k a b. none k a (omega (arith, b, far)))

  -- ## Where the session has no commits behind

  pub none_behind : (m n : ℕ) → m ≤ n → commits_by session (drop m log) ≡ [] → commits_by session (drop n log) ≡ []
  none_behind m n up none = ap (λ k. commits_by session (drop k log)) (sym far) ∙ ap (commits_by session) (sym (dropped (n - m) m log)) ∙ rest (n - m) (drop m log) none
    where
      far : m + (n - m) ≡ n
      far = omega (arith, up)

      none_of : (k : ℕ) → ◌≡◌ {A = List Entry} (drop k []) []
      none_of zero = refl
      none_of (suc k) = refl

      dropped : (g m : ℕ) (es : List Entry) → drop g (drop m es) ≡ drop (m + g) es
      dropped g zero es = ap (λ k. drop k es) (omega arith)
      dropped g (suc m) [] = none_of g ∙ sym (none_of (suc m + g))
      dropped g (suc m) (e ∷ es) = let q : suc m + g ≡ suc (m + g) = omega arith in rw q (dropped g m es)

      rest : (g : ℕ) (es : List Entry) → commits_by session es ≡ [] → commits_by session (drop g es) ≡ []
      rest g es e = none_left (commits_by session (take g es)) (commits_by session (drop g es)) (sym (by_append session (take g es) (drop g es)) ∙ ap (commits_by session) (take-append-drop g es) ∙ e)

  pub received_list : (n : ℕ) → commits_by session (drop n log) ≡ [] → author_list log session n ≡ commits_in (take n log)
  received_list n none = ap (λ Ns. commits_in (take n log) ++ Ns) none ∙ append-nil (commits_in (take n log))

  -- a commit that stands there is another's
  pub not_own : (m i : ℕ) (e : Entry) (N : Intent) → m ≤ i → commits_by session (drop m log) ≡ [] → slice_get log i ≡ Some e → commit_of e ≡ Some N → (e.session == session) ≡ false
  not_own m i e N up none at is = go (e.session == session) refl
    where
      go : (b : Bool) → (e.session == session) ≡ b → (e.session == session) ≡ false
      go false q = q
      go true q =
          let first : commits_by session (drop i log) ≡ N ∷ commits_by session (drop (i + 1) log) = rest_next i e at ∙ by_own session e (drop (i + 1) log) N q is in
          let bad : ◌≡◌ {A = List Intent} (N ∷ commits_by session (drop (i + 1) log)) [] = sym first ∙ none_behind m i up none in
          absurd (cc)

-- ## A log with one entry more

module _ (log : List Entry) (by : ℕ) (body : Body) (session : ℕ) where
  abbrev longer : List Entry
  longer = log_with log by body

  abbrev last : Entry
  last = last_entry log by body

  pub longer_list : (n : ℕ) → n ≤ length log → author_list longer session n ≡ author_list log session n ++ commits_by session (last ∷ [])
  longer_list n within = author_grows log (last ∷ []) session n within

  pub still_of_another : (n : ℕ) → n - 1 < length log → IsOfAnother log session n → IsOfAnother longer session n
  still_of_another n within o = record { entry = o.entry; intent = o.intent; there = get_front log (last ∷ []) (n - 1) within ∙ o.there; commit = o.commit; other = o.other }

  pub was_of_another : (n : ℕ) → n - 1 < length log → IsOfAnother longer session n → IsOfAnother log session n
  was_of_another n within o = record { entry = o.entry; intent = o.intent; there = sym (get_front log (last ∷ []) (n - 1) within) ∙ o.there; commit = o.commit; other = o.other }
