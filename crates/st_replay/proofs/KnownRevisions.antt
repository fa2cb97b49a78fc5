-- Which revisions the author of a message knew, by the entries of the log.
use Rattle.std.proofs.Common.{◌≡◌, ℕ, Bool, true, false, ◌==◌, ◌&&◌, ◌||◌, List, [], ◌∷◌, ◌++◌, take, drop, filter, Option, None, Some, sym, ap, ◌∙◌, subst, ◌⊎◌, inl, inr}
use Rattle.std.specs.List.{cons_option, list_any}
use Rattle.std.specs.Option.{option_map_or}
use Rattle.std.specs.Prelude.{if◌then◌else◌}
use Rattle.st_ids.specs.Listing.{Has}
use Rattle.st_ids.specs.Order.{same_rev}
use Rattle.st_ids.specs.Root.{opening}
use Rattle.st_ids.specs.declared.names.Rev.{Rev}
use Rattle.st_ids.proofs.Orders.{same_rev-itself, same_rev-true}
use Rattle.st_lemmas.proofs.Bools.{or-cases, or-left, or-right}
use Rattle.st_lemmas.proofs.Lists.{map-append}
use Rattle.st_lists.specs.Log.{commit_of, commits_by, commits_in}
use Rattle.st_lists.specs.declared.lists.Entry.{Entry}
use Rattle.st_log_laws.specs.Names.{revisions}
use Rattle.st_marks.specs.declared.intents.Intent.{Intent}
use Rattle.st_marks.proofs.Members.{append_left, append_right, has-append}
use Rattle.st_valid.specs.Author.{author_list}
use Rattle.st_valid.specs.Context.{known_revisions}
use Rattle.st_replay.specs.inside.Known.{has_commit, has_own_commit}

one_rev : (a b : Rev) → a ≡ b → same_rev a b ≡ true
one_rev a b e = subst (λ (r : Rev). same_rev a r ≡ true) e (same_rev-itself a)

-- ## Commits of entries

module _ (rev : Rev) where
  first_has : (o : Option Intent) (b : Bool) (Ns : List Intent) → (b ≡ true → Has (revisions Ns) rev)
      → (option_map_or (λ (N : Intent). same_rev N.rev rev) o false || b) ≡ true → Has (revisions (cons_option o Ns)) rev
  first_has None b Ns rest e = rest e
  first_has (Some N) b Ns rest e = elim (or-cases (same_rev N.rev rev) b e) [
    | inl q ↦ inl (same_rev-true N.rev rev q)
    | inr q ↦ inr (rest q)
  ]

  has_first : (o : Option Intent) (b : Bool) (Ns : List Intent) → (Has (revisions Ns) rev → b ≡ true)
      → Has (revisions (cons_option o Ns)) rev → (option_map_or (λ (N : Intent). same_rev N.rev rev) o false || b) ≡ true
  has_first None b Ns rest h = rest h
  has_first (Some N) b Ns rest (inl q) = or-left (same_rev N.rev rev) b (one_rev N.rev rev q)
  has_first (Some N) b Ns rest (inr h) = or-right (same_rev N.rev rev) b (rest h)

  any_has : (es : List Entry) → list_any (has_commit rev) es ≡ true → Has (revisions (commits_in es)) rev
  any_has [] e = cc
  any_has (x ∷ es) e = first_has (commit_of x) (list_any (has_commit rev) es) (commits_in es) (any_has es) e

  has_any : (es : List Entry) → Has (revisions (commits_in es)) rev → list_any (has_commit rev) es ≡ true
  has_any [] h = absurd h
  has_any (x ∷ es) h = has_first (commit_of x) (list_any (has_commit rev) es) (commits_in es) (has_any es) h

  any_own : (s : ℕ) (es : List Entry) → list_any (has_own_commit s rev) es ≡ true → Has (revisions (commits_by s es)) rev
  any_own s [] e = cc
  any_own s (x ∷ es) e = go (x.session == s) (any_own s es) e
    where
      go : (b : Bool) → (list_any (has_own_commit s rev) es ≡ true → Has (revisions (commits_by s es)) rev) → ((b && has_commit rev x) || list_any (has_own_commit s rev) es) ≡ true
          → Has (revisions (commits_in (if b then x ∷ filter (λ (e : Entry). e.session == s) es else filter (λ (e : Entry). e.session == s) es))) rev
      go true rest e = first_has (commit_of x) (list_any (has_own_commit s rev) es) (commits_by s es) rest e
      go false rest e = rest e

  own_any : (s : ℕ) (es : List Entry) → Has (revisions (commits_by s es)) rev → list_any (has_own_commit s rev) es ≡ true
  own_any s [] h = absurd h
  own_any s (x ∷ es) h = go (x.session == s) (own_any s es) h
    where
      go : (b : Bool) → (Has (revisions (commits_by s es)) rev → list_any (has_own_commit s rev) es ≡ true) → Has (revisions (commits_in (if b then x ∷ filter (λ (e : Entry). e.session == s) es else filter (λ (e : Entry). e.session == s) es))) rev
          → ((b && has_commit rev x) || list_any (has_own_commit s rev) es) ≡ true
      go true rest h = has_first (commit_of x) (list_any (has_own_commit s rev) es) (commits_by s es) rest h
      go false rest h = rest h

-- ## The author's list

module _ (log : List Entry) (session reference : ℕ) (rev : Rev) where
  abbrev front : List Intent
  front = commits_in (take reference log)

  abbrev own : List Intent
  own = commits_by session (drop reference log)

  split : revisions (author_list log session reference) ≡ revisions front ++ revisions own
  split = map-append (λ (N : Intent). N.rev) front own

  known_has : ((same_rev rev opening || list_any (has_commit rev) (take reference log)) || list_any (has_own_commit session rev) (drop reference log)) ≡ true
      → Has (known_revisions (author_list log session reference)) rev
  known_has e = elim (or-cases (same_rev rev opening || list_any (has_commit rev) (take reference log)) (list_any (has_own_commit session rev) (drop reference log)) e) [
    | inl q ↦ either (or-cases (same_rev rev opening) (list_any (has_commit rev) (take reference log)) q)
    | inr q ↦ listed (append_right (revisions front) (revisions own) rev (any_own rev session (drop reference log) q))
  ]
    where
      listed : Has (revisions front ++ revisions own) rev → Has (known_revisions (author_list log session reference)) rev
      listed h = append_left (revisions (author_list log session reference)) (opening ∷ []) rev (subst (λ (rs : List Rev). Has rs rev) (sym split) h)

      either : (same_rev rev opening ≡ true) ⊎ (list_any (has_commit rev) (take reference log) ≡ true) → Has (known_revisions (author_list log session reference)) rev
      either (inl q) = append_right (revisions (author_list log session reference)) (opening ∷ []) rev (inl (sym (same_rev-true rev opening q)))
      either (inr q) = listed (append_left (revisions front) (revisions own) rev (any_has rev (take reference log) q))

  abbrev first : Bool
  first = same_rev rev opening

  abbrev among : Bool
  among = list_any (has_commit rev) (take reference log)

  abbrev later : Bool
  later = list_any (has_own_commit session rev) (drop reference log)

  has_known : Has (known_revisions (author_list log session reference)) rev → ((first || among) || later) ≡ true
  has_known h = elim (has-append (revisions (author_list log session reference)) (opening ∷ []) rev h) [
    | inl i ↦ listed (has-append (revisions front) (revisions own) rev (subst (λ (rs : List Rev). Has rs rev) split i))
    | inr i ↦ last i
  ]
    where
      listed : Has (revisions front) rev ⊎ Has (revisions own) rev → ((first || among) || later) ≡ true
      listed (inl i) = or-left (first || among) later (or-right first among (has_any rev (take reference log) i))
      listed (inr i) = or-right (first || among) later (own_any rev session (drop reference log) i)

      last : Has (opening ∷ []) rev → ((first || among) || later) ≡ true
      last (inl q) = or-left (first || among) later (or-left first among (one_rev rev opening (sym q)))
      last (inr q) = absurd q

  pub known_is : (xs ys : List Entry) (b : Bool) → xs ≡ take reference log → ys ≡ drop reference log
      → b ≡ ((same_rev rev opening || list_any (has_commit rev) xs) || list_any (has_own_commit session rev) ys)
      → (b ≡ true → Has (known_revisions (author_list log session reference)) rev) × (Has (known_revisions (author_list log session reference)) rev → b ≡ true)
  known_is xs ys b up behind is =
      let all : b ≡ ((first || among) || later) = is ∙ ap (λ (es : List Entry). (first || list_any (has_commit rev) es) || list_any (has_own_commit session rev) ys) up
      ∙ ap (λ (es : List Entry). (first || among) || list_any (has_own_commit session rev) es) behind in
      (λ e. known_has (sym all ∙ e), λ h. all ∙ has_known h)
