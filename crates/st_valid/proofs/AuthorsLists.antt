-- The commits over which a session writes, of a log that grows.
use Rattle.std.proofs.Common.{◌≡◌, ◌≤◌, ◌==◌, ℕ, zero, suc, Bool, true, false, cond, List, [], ◌∷◌, ◌++◌, length, take, drop, filter, Option, Some, None, refl, sym, ap, ◌∙◌, subst, append_assoc, arith}
use Rattle.std.specs.List.{cons_option, filter_map}
use Rattle.std.proofs.lemmas.List.{append-nil, take-append-le, drop-append-le, take_all, drop_all}
use Rattle.st_marks.specs.declared.intents.Intent.{Intent}
use Rattle.st_marks.specs.Extends.{no_more, item_gained, item_kept}
use Rattle.st_log_laws.specs.Turns.{IsSublist}
use Rattle.st_log_laws.proofs.Shorter.{sublist_itself, sublist_joined}
use Rattle.st_lists.specs.Log.{commit_of, commits_by, commits_in}
use Rattle.st_lists.specs.declared.lists.Entry.{Entry}
use Rattle.st_lists.proofs.Logs.{by_append, by_sublist, commits_split}
use Rattle.st_valid.specs.Author.{author_list}

-- they are among all commits of the log, in their order
pub author_among : (log : List Entry) (s r : ℕ) → IsSublist (author_list log s r) (commits_in log)
author_among log s r =
    subst (IsSublist (author_list log s r)) (sym (commits_split r log))
    (sublist_joined (sublist_itself (commits_in (take r log))) (by_sublist s (drop r log)))

-- of what comes later its own commits are added, where the reference is within the log before
pub author_grows : (log more : List Entry) (s r : ℕ) → r ≤ length log → author_list (log ++ more) s r ≡ author_list log s r ++ commits_by s more
author_grows log more s r within =
    ap (λ es. commits_in es ++ commits_by s (drop r (log ++ more))) (take-append-le r log more within)
    ∙ ap (λ es. commits_in (take r log) ++ commits_by s es) (drop-append-le r log more within)
    ∙ ap (λ Ns. commits_in (take r log) ++ Ns) (by_append s (drop r log) more)
    ∙ sym (append_assoc (commits_in (take r log)) (commits_by s (drop r log)) (commits_by s more))

-- ## With a later reference

kept : (o : Option Intent) {As Bs : List Intent} → IsSublist As Bs → IsSublist (cons_option o As) (cons_option o Bs)
kept None g = g
kept (Some N) g = item_kept refl g

gained : (o : Option Intent) {As Bs : List Intent} → IsSublist As Bs → IsSublist As (cons_option o Bs)
gained None g = g
gained (Some N) g = item_gained g

cons-append : (o : Option Intent) (As Bs : List Intent) → cons_option o As ++ Bs ≡ cons_option o (As ++ Bs)
cons-append None As Bs = refl
cons-append (Some N) As Bs = refl

-- of the first entry, one's own commit, or none
one_own : (s : ℕ) (e : Entry) (es : List Entry) (Bs : List Intent) → IsSublist (commits_by s es) Bs → IsSublist (commits_by s (e ∷ es)) (cons_option (commit_of e) Bs)
one_own s e es Bs g = go (e.session == s)
  where
    go : (b : Bool) → IsSublist (filter_map commit_of (cond b (e ∷ filter (λ (e : Entry). e.session == s) es) (filter (λ (e : Entry). e.session == s) es))) (cons_option (commit_of e) Bs)
    go true = kept (commit_of e) g
    go false = gained (commit_of e) g

-- what a session wrote over at a reference is part of that at a later one
pub author_later : (log : List Entry) (s r q : ℕ) → r ≤ q → IsSublist (author_list log s r) (author_list log s q)
author_later [] s zero zero low = no_more
author_later [] s zero (suc q) low = no_more
author_later [] s (suc r) zero low = no_more
author_later [] s (suc r) (suc q) low = no_more
author_later (e ∷ es) s zero zero low = sublist_itself (author_list (e ∷ es) s 0)
author_later (e ∷ es) s zero (suc q) low =
    subst (IsSublist (author_list (e ∷ es) s 0)) (sym (cons-append (commit_of e) (commits_in (take q es)) (commits_by s (drop q es))))
    (one_own s e es (author_list es s q) (author_later es s zero q (omega arith)))
author_later (e ∷ es) s (suc r) zero low = absurd (omega (arith, low))
author_later (e ∷ es) s (suc r) (suc q) low =
    subst (λ As. IsSublist As (author_list (e ∷ es) s (suc q))) (sym (cons-append (commit_of e) (commits_in (take r es)) (commits_by s (drop r es))))
    (subst (IsSublist (cons_option (commit_of e) (author_list es s r))) (sym (cons-append (commit_of e) (commits_in (take q es)) (commits_by s (drop q es))))
    (kept (commit_of e) (author_later es s r q (omega (arith, low)))))

-- past the end of the log it is all of the log
pub author_past : (log : List Entry) (s r : ℕ) → length log ≤ r → author_list log s r ≡ commits_in log
author_past log s r past =
    ap (λ es. commits_in es ++ commits_by s (drop r log)) (take_all r log past)
    ∙ ap (λ es. commits_in log ++ commits_by s es) (drop_all r log past)
    ∙ append-nil (commits_in log)
