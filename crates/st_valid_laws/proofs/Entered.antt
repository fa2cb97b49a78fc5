-- What an entry says of its session, as a message told it.
use Rattle.std.proofs.Common.{◌≡◌, ◌+◌, ◌==◌, ℕ, Bool, false, cond, min, max, List, [], ◌∷◌, length, length-append, Some, None, refl, sym, ap, ◌∙◌}
use Rattle.std.specs.List.{fold}
use Rattle.std.proofs.lemmas.List.Sums.{fold_push}
use Rattle.st_marks.specs.Document.{Document}
use Rattle.st_lists.specs.Log.{connected_after, connected_by, is_connected, known_reference, log_with, minimum, reference_in, with_reference}
use Rattle.st_lists.specs.declared.lists.Body.{Body}
use Rattle.st_lists.specs.declared.lists.Entry.{Entry}
use Rattle.st_lists.proofs.Logs.{last_entry}
use Rattle.st_valid_laws.specs.Messages.{IsBodyOf}
use Rattle.st_valid.specs.References.{body_without_change}
use Rattle.st_valid.specs.declared.message.Said.{Said}
use Rattle.st_valid.specs.declared.message.Said.TheVariants as said

-- two bodies say the same of their session: which reference it has, and whether it is connected
pub record SayAlike (b c : Body) : Type 0 where
  pub reference : (n : ℕ) → reference_in n b ≡ reference_in n c
  pub connected : (before : Bool) → connected_after before b ≡ connected_after before c

alike_itself : (b : Body) → SayAlike b b
alike_itself b = record { reference = λ n. refl; connected = λ x. refl }

-- a message, and the entry that it becomes
pub told_alike : (O : Document) (log : List Entry) (session : ℕ) (says : Said) (b : Body) → IsBodyOf O log session says b → SayAlike b (body_without_change says)
told_alike O log session (said.Join uuid) b is = rw is (alike_itself (body_without_change (said.Join uuid)))
told_alike O log session said.Leave b is = rw is (alike_itself (body_without_change said.Leave))
told_alike O log session (said.Ack reference) b is = rw is (alike_itself (body_without_change (said.Ack reference)))
told_alike O log session (said.Commit reference ids None) b is = absurd is
told_alike O log session (said.Commit reference ids (Some C)) b is = record { reference = λ n. rw is.1 refl; connected = λ x. rw is.1 refl }

-- ## The minimum

abbrev lower : (ℕ → Bool) → (ℕ → ℕ) → ℕ → Entry → ℕ
lower on known m e = cond (on e.session) (min m (known e.session)) m

lower_same : (on off : ℕ → Bool) (known told : ℕ → ℕ) → ((s : ℕ) → on s ≡ off s) → ((s : ℕ) → known s ≡ told s) → (n : ℕ) (es : List Entry) → fold (lower on known) n es ≡ fold (lower off told) n es
lower_same on off known told p k n [] = refl
lower_same on off known told p k n (e ∷ es) =
    ap (λ b. fold (lower on known) (cond b (min n (known e.session)) n) es) (p e.session)
    ∙ ap (λ j. fold (lower on known) (cond (off e.session) (min n j) n) es) (k e.session)
    ∙ lower_same on off known told p k (lower off told n e) es

module _ (log : List Entry) (t : ℕ) (b c : Body) (alike : SayAlike b c) where
  known_alike : (s : ℕ) → known_reference s (log_with log t b) ≡ known_reference s (log_with log t c)
  known_alike s =
      fold_push (with_reference s) 0 log (last_entry log t b)
      ∙ ap (λ r. cond (t == s) (max (known_reference s log) r) (known_reference s log)) (alike.reference (length log + 1))
      ∙ sym (fold_push (with_reference s) 0 log (last_entry log t c))

  connected_alike : (s : ℕ) → is_connected s (log_with log t b) ≡ is_connected s (log_with log t c)
  connected_alike s =
      fold_push (connected_by s) false log (last_entry log t b)
      ∙ ap (λ x. cond (t == s) x (is_connected s log)) (alike.connected (is_connected s log))
      ∙ sym (fold_push (connected_by s) false log (last_entry log t c))

  size_alike : length (log_with log t b) ≡ length (log_with log t c)
  size_alike = length-append log (last_entry log t b ∷ []) ∙ sym (length-append log (last_entry log t c ∷ []))

  abbrev on : Body → ℕ → Bool
  on x s = is_connected s (log_with log t x)

  abbrev known : Body → ℕ → ℕ
  known x s = known_reference s (log_with log t x)

  pub minimum_alike : minimum (log_with log t b) ≡ minimum (log_with log t c)
  minimum_alike =
      fold_push (lower (on b) (known b)) (length (log_with log t b)) log (last_entry log t b)
      ∙ ap (λ m. lower (on b) (known b) m (last_entry log t b)) (ap (λ n. fold (lower (on b) (known b)) n log) size_alike ∙ lower_same (on b) (on c) (known b) (known c) connected_alike known_alike (length (log_with log t c)) log)
      ∙ last_same (fold (lower (on c) (known c)) (length (log_with log t c)) log)
      ∙ sym (fold_push (lower (on c) (known c)) (length (log_with log t c)) log (last_entry log t c))
    where
      last_same : (m : ℕ) → lower (on b) (known b) m (last_entry log t b) ≡ lower (on c) (known c) m (last_entry log t c)
      last_same m = ap (λ x. cond x (min m (known b t)) m) (connected_alike t) ∙ ap (λ k. cond (on c t) (min m k) m) (known_alike t)
