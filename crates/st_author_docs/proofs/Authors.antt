-- What is kept of a session's author, as it goes on along the log.
use Rattle.std.proofs.Common.{◌≡◌, ◌≤◌, ◌==◌, ◌&&◌, ◌||◌, ℕ, Bool, true, false, not, is_some, List, [], ◌∷◌, ◌++◌, length, length-append, length-take, length-take-le, take, drop, take-take, Option, Some, None, MatchOption, unwrap_or, refl, sym, ap, ap₂, ◌∙◌, subst, append_assoc, arith}
use Rattle.std.specs.List.{cons_option, list_any}
use Rattle.std.proofs.lemmas.List.{append-nil, take-append-drop, take-append-le, drop-append-le, take_all, drop_all}
use Rattle.st_marks.specs.declared.intents.Intent.{Intent}
use Rattle.st_marks.specs.Document.{Document, IsSoundInForm}
use Rattle.st_marks.specs.Run.{done}
use Rattle.st_marks.proofs.OneVerdict.{run_then}
use Rattle.st_log_laws.specs.Turns.{FitInTurn}
use Rattle.st_log_laws.proofs.Turns.{front, rest}
use Rattle.st_doc.specs.Doc.{document_of}
use Rattle.st_doc.specs.declared.doc.Doc.{Doc}
use Rattle.st_lists.specs.Log.{commit_of, commits_by, commits_in}
use Rattle.st_lists.specs.declared.lists.Entry.{Entry}
use Rattle.st_lists.proofs.Logs.{by_append, by_none, by_own, commits_append}
use Rattle.st_valid.specs.Author.{author_list}
use Rattle.st_valid.proofs.AuthorsLists.{author_grows}
use Rattle.st_author_docs.specs.Authors.{IsAuthorOf, LeadsTo, written_over}
use Rattle.st_author_docs.specs.inside.Going.{HasGoneOn, is_others}
use Rattle.st_author_docs.specs.declared.author_doc.AuthorDoc.{AuthorDoc}

-- ## Lists

-- the commits up to a later reference
pub commits_up_to : (log : List Entry) (r q : ℕ) → r ≤ q → commits_in (take q log) ≡ commits_in (take r log) ++ commits_in (drop r (take q log))
commits_up_to log r q low =
    ap commits_in (sym (take-append-drop r (take q log)))
    ∙ commits_append (take r (take q log)) (drop r (take q log))
    ∙ ap (λ es. commits_in es ++ commits_in (drop r (take q log))) (take-take r q log low)

-- the author's list, by the first entries and those behind them
pub list_behind : (log : List Entry) (s r k : ℕ) → r ≤ k → k ≤ length log → author_list log s r ≡ author_list (take k log) s r ++ commits_by s (drop k log)
list_behind log s r k low within =
    ap (λ es. author_list es s r) (sym (take-append-drop k log))
    ∙ author_grows (take k log) (drop k log) s r (subst (λ n. r ≤ n) (sym (length-take-le k log within)) low)

-- a session's commits after a reference, likewise
own_behind : (log : List Entry) (s r k : ℕ) → r ≤ k → k ≤ length log → commits_by s (drop r log) ≡ commits_by s (drop r (take k log)) ++ commits_by s (drop k log)
own_behind log s r k low within =
    ap (λ es. commits_by s (drop r es)) (sym (take-append-drop k log))
    ∙ ap (commits_by s) (drop-append-le r (take k log) (drop k log) (subst (λ n. r ≤ n) (sym (length-take-le k log within)) low))
    ∙ by_append s (drop r (take k log)) (drop k log)

-- the list at a reference, where the session has no commit after it
list_without_own : (log : List Entry) (s r k : ℕ) → r ≤ k → commits_by s (drop r (take k log)) ≡ [] → commits_in (take r log) ≡ author_list (take k log) s r
list_without_own log s r k low none =
    sym (ap₂ (λ es Ns. commits_in es ++ Ns) (take-take r k log low) none ∙ append-nil (commits_in (take r log)))

neither : (a b : Bool) → (a || b) ≡ false → (a ≡ false) × (b ≡ false)
neither true b e = cc
neither false b e = (refl, e)

-- ## What commits lead to

leads_on : (O : Document) (Ns Ms : List Intent) (d e : Doc) → LeadsTo O Ns d → LeadsTo (document_of d) Ms e → LeadsTo O (Ns ++ Ms) e
leads_on O Ns Ms d e x y = record { ran = run_then x.ran y.ran; sound = y.sound }

over : (O : Document) (log : List Entry) (s r k : ℕ) (base : Doc) (head : Option Doc) → r ≤ k → LeadsTo O (commits_in (take r log)) base
    → MatchOption head (commits_by s (drop r (take k log)) ≡ []) (LeadsTo O (author_list (take k log) s r)) → LeadsTo O (author_list (take k log) s r) (unwrap_or head base)
over O log s r k base None low b h = subst (λ Ns. LeadsTo O Ns base) (list_without_own log s r k low h) b
over O log s r k base (Some d) low b h = h

pub leads_over : (O : Document) (log : List Entry) (s : ℕ) (a : AuthorDoc) → IsAuthorOf O log s a → LeadsTo O (author_list (take a.seen log) s a.at) (written_over a)
leads_over O log s a x = over O log s a.at a.seen a.base a.head x.passed x.base x.head

-- ## Another log with the same first entries

same_entries : (O : Document) (log es : List Entry) (s : ℕ) (a : AuthorDoc) → take a.seen log ≡ take a.seen es → a.seen ≤ length es → IsAuthorOf O log s a → IsAuthorOf O es s a
same_entries O log es s a same within x =
    let first : take a.at log ≡ take a.at es = sym (take-take a.at a.seen log x.passed) ∙ ap (take a.at) same ∙ take-take a.at a.seen es x.passed in
    record {
      passed = x.passed;
      within = within;
      base = subst (λ l. LeadsTo O (commits_in l) a.base) first x.base;
      head = subst (λ l. MatchOption a.head (commits_by s (drop a.at l) ≡ []) (LeadsTo O (author_list l s a.at))) same x.head;
    }

pub stays_longer : (O : Document) (log more : List Entry) (s : ℕ) (a : AuthorDoc) → IsAuthorOf O log s a → IsAuthorOf O (log ++ more) s a
stays_longer O log more s a x =
    same_entries O log (log ++ more) s a (sym (take-append-le a.seen log more x.within)) (omega (arith, x.within, length-append log more)) x

pub stays_shorter : (O : Document) (log : List Entry) (s k : ℕ) (a : AuthorDoc) → a.seen ≤ k → IsAuthorOf O log s a → IsAuthorOf O (take k log) s a
stays_shorter O log s k a low x =
    same_entries O log (take k log) s a (sym (take-take a.seen k log low)) (omega (arith, x.within, low, length-take k log)) x

-- ## At the beginning

pub begins : (O : Document) (log : List Entry) (s : ℕ) (base : Doc) (r : ℕ) → r ≤ length log → LeadsTo O (commits_in (take r log)) base → IsAuthorOf O log s (record { at = r; seen = r; base = base; head = None })
begins O log s base r within x = record {
  passed = omega arith;
  within = within;
  base = x;
  head = ap (commits_by s) (drop_all r (take r log) (omega (arith, length-take-le r log within)));
}

-- ## A later reference

pub base_fits : (O : Document) (log : List Entry) (s : ℕ) (a : AuthorDoc) (q : ℕ) → a.at ≤ q → IsAuthorOf O log s a → FitInTurn O (author_list log s q) → FitInTurn (document_of a.base) (commits_in (drop a.at (take q log)))
base_fits O log s a q low x fit =
    rest (commits_in (drop a.at (take q log))) x.base.ran
    (subst (FitInTurn O) (commits_up_to log a.at q low) (front (commits_in (take q log)) (commits_by s (drop q log)) O fit))

pub base_moves : (O : Document) (log : List Entry) (s : ℕ) (a : AuthorDoc) (q : ℕ) (base : Doc) → a.at ≤ q → q ≤ length log → IsAuthorOf O log s a
    → LeadsTo (document_of a.base) (commits_in (drop a.at (take q log))) base → IsAuthorOf O log s (record { at = q; seen = q; base = base; head = None })
base_moves O log s a q base low within x led =
    begins O log s base q within
    (subst (λ Ns. LeadsTo O Ns base) (sym (commits_up_to log a.at q low)) (leads_on O (commits_in (take a.at log)) (commits_in (drop a.at (take q log))) a.base base x.base led))

-- ## Entries that have come

none_there : (Ns : List Intent) → length Ns ≡ 0 → Ns ≡ []
none_there [] e = refl
none_there (N ∷ Ns) e = absurd (omega (arith, e))

-- without a commit of its own nothing changes
pub nothing_own : (a : AuthorDoc) (Ns : List Intent) → IsSoundInForm (document_of (written_over a)) → length Ns ≡ 0 → HasGoneOn a Ns a
nothing_own a Ns sound few =
    let none = none_there Ns few in
    record {
      at = refl;
      seen = refl;
      base = refl;
      leads = subst (λ Ms. LeadsTo (document_of (written_over a)) Ms (written_over a)) (sym none) (record { ran = done; sound = sound });
      none = λ h. (h, none);
    }

pub come_fit : (O : Document) (log : List Entry) (s : ℕ) (a : AuthorDoc) → IsAuthorOf O log s a → FitInTurn O (author_list log s a.at) → FitInTurn (document_of (written_over a)) (commits_by s (drop a.seen log))
come_fit O log s a x fit =
    rest (commits_by s (drop a.seen log)) (leads_over O log s a x).ran (subst (FitInTurn O) (list_behind log s a.at a.seen x.passed x.within) fit)

module _ (O : Document) (log : List Entry) (s : ℕ) (a b : AuthorDoc) (x : IsAuthorOf O log s a) (on : HasGoneOn a (commits_by s (drop a.seen log)) b) where
  -- the whole list, in the words of what is kept
  whole : take (length log) log ≡ log
  whole = take_all (length log) log (omega arith)

  list_now : author_list (take a.seen log) s a.at ++ commits_by s (drop a.seen log) ≡ author_list (take (length log) log) s b.at
  list_now = sym (list_behind log s a.at a.seen x.passed x.within) ∙ ap₂ (λ es r. author_list es s r) (sym whole) (sym on.at)

  own_now : commits_by s (drop b.at (take (length log) log)) ≡ commits_by s (drop a.at (take a.seen log)) ++ commits_by s (drop a.seen log)
  own_now = ap₂ (λ es r. commits_by s (drop r es)) whole on.at ∙ own_behind log s a.at a.seen x.passed x.within

  head_now : (head : Option Doc) → b.head ≡ head → MatchOption head (commits_by s (drop b.at (take (length log) log)) ≡ []) (LeadsTo O (author_list (take (length log) log) s b.at))
  head_now None is =
      let none = on.none is in
      let before = subst (λ h. MatchOption h (commits_by s (drop a.at (take a.seen log)) ≡ []) (LeadsTo O (author_list (take a.seen log) s a.at))) none.0 x.head in
      own_now ∙ ap₂ (λ Ns Ms. Ns ++ Ms) before none.1
  head_now (Some d) is =
      subst (λ Ns. LeadsTo O Ns d) list_now
      (leads_on O (author_list (take a.seen log) s a.at) (commits_by s (drop a.seen log)) (written_over a) d (leads_over O log s a x)
      (subst (λ h. LeadsTo (document_of (written_over a)) (commits_by s (drop a.seen log)) (unwrap_or h b.base)) is on.leads))

  pub goes_on : IsAuthorOf O log s (record b { seen = length log })
  goes_on = record {
    passed = omega (arith, on.at, x.passed, x.within);
    within = omega arith;
    base = subst (λ d. LeadsTo O (commits_in (take b.at log)) d) (sym on.base) (subst (λ r. LeadsTo O (commits_in (take r log)) a.base) (sym on.at) x.base);
    head = head_now b.head refl;
  }

-- ## A later reference, up to which nobody else has a commit

one_alone : (s : ℕ) (e : Entry) (es : List Entry) (o : Option Intent) → commit_of e ≡ o → (b : Bool) → (e.session == s) ≡ b
    → (is_some o && not b) ≡ false → commits_in es ≡ commits_by s es → commits_in (e ∷ es) ≡ commits_by s (e ∷ es)
one_alone s e es None is b own alone same = rw is same ∙ sym (by_none s e es is)
one_alone s e es (Some N) is true own alone same = ap (cons_option (commit_of e)) same ∙ ap (λ o. cons_option o (commits_by s es)) is ∙ sym (by_own s e es N own is)
one_alone s e es (Some N) is false own alone same = cc

-- where no other session has a commit, all are the session's own
pub own_alone : (s : ℕ) (es : List Entry) → list_any (is_others s) es ≡ false → commits_in es ≡ commits_by s es
own_alone s [] alone = refl
own_alone s (e ∷ es) alone =
    let both = neither (is_others s e) (list_any (is_others s) es) alone in
    one_alone s e es (commit_of e) refl (e.session == s) refl both.0 (own_alone s es both.1)

module _ (log : List Entry) (s r q : ℕ) (low : r ≤ q) (within : q ≤ length log) (alone : commits_in (drop r (take q log)) ≡ commits_by s (drop r (take q log))) where
  -- the author's list at both references is one
  pub same_list : author_list log s r ≡ author_list log s q
  same_list =
      ap (λ Ns. commits_in (take r log) ++ Ns) (own_behind log s r q low within)
      ∙ sym (append_assoc (commits_in (take r log)) (commits_by s (drop r (take q log))) (commits_by s (drop q log)))
      ∙ ap (λ Ns. (commits_in (take r log) ++ Ns) ++ commits_by s (drop q log)) (sym alone)
      ∙ ap (λ Ns. Ns ++ commits_by s (drop q log)) (sym (commits_up_to log r q low))

no_rest : (Ns Ms : List Intent) → Ns ++ Ms ≡ [] → Ms ≡ []
no_rest [] Ms e = e
no_rest (N ∷ Ns) Ms e = cc

module _ (O : Document) (log : List Entry) (s : ℕ) (b : AuthorDoc) (q : ℕ) (base : Doc) (low : b.at ≤ q) (within : q ≤ length log) (end : b.seen ≡ length log)
    (alone : commits_in (drop b.at (take q log)) ≡ commits_by s (drop b.at (take q log))) (x : IsAuthorOf O log s b) (led : LeadsTo (document_of b.base) (commits_in (drop b.at (take q log))) base) where
  all : take b.seen log ≡ log
  all = take_all b.seen log (omega (arith, end))

  under : (head : Option Doc) → MatchOption head (commits_by s (drop b.at (take b.seen log)) ≡ []) (LeadsTo O (author_list (take b.seen log) s b.at))
      → MatchOption head (commits_by s (drop q (take b.seen log)) ≡ []) (LeadsTo O (author_list (take b.seen log) s q))
  under None h =
      ap (λ es. commits_by s (drop q es)) all
      ∙ no_rest (commits_by s (drop b.at (take q log))) (commits_by s (drop q log)) (sym (own_behind log s b.at q low within) ∙ ap (λ es. commits_by s (drop b.at es)) (sym all) ∙ h)
  under (Some d) h =
      subst (λ Ns. LeadsTo O Ns d)
      (ap (λ es. author_list es s b.at) all ∙ same_list log s b.at q low within alone ∙ ap (λ es. author_list es s q) (sym all)) h

  pub moves_under : IsAuthorOf O log s (record b { at = q; base = base })
  moves_under = record {
    passed = omega (arith, end, within);
    within = x.within;
    base = subst (λ Ns. LeadsTo O Ns base) (sym (commits_up_to log b.at q low)) (leads_on O (commits_in (take b.at log)) (commits_in (drop b.at (take q log))) b.base base x.base led);
    head = under b.head x.head;
  }
