-- Messages that passed the tests which read the log alone.
use Rattle.std.proofs.Common.{◌≡◌, ◌≤◌, ◌<◌, ◌+◌, ◌==◌, ℕ, true, false, nat_le, nat_lt, List, length, Option, Some, None, refl, sym, ap, subst, arith, inl, inr}
use Rattle.std.specs.Option.{option_map_or}
use Rattle.std.proofs.lemmas.Bool.Decides.{nat_tests}
use Rattle.st_clusters.specs.declared.ids.IdRange.{IdRange}
use Rattle.st_lemmas.proofs.Bools.{and-first, and-second}
use Rattle.st_lists.specs.Log.{is_connected, known_reference, log_with, minimum}
use Rattle.st_lists.specs.Names.{names_made}
use Rattle.st_lists.specs.declared.lists.Body.{Body}
use Rattle.st_lists.specs.declared.lists.Body.TheVariants.{Ack, Commit, Join, Leave}
use Rattle.st_lists.specs.declared.lists.Entry.{Entry}
use Rattle.st_marks.specs.declared.changes.Change.{Change}
use Rattle.st_marks.specs.declared.intents.Intent.{Intent}
use Rattle.st_marks.specs.declared.verdicts.Verdict.{Verdict}
use Rattle.st_marks.specs.Document.{Document, IsSoundInForm}
use Rattle.st_log_laws.proofs.Turns.{turn_extends}
use Rattle.st_valid.specs.Context.{HasContext, IsInContext, SaysInContext}
use Rattle.st_valid.specs.Ids.{ids_are_next, is_next_range}
use Rattle.st_valid.specs.References.{is_within, minimum_after, reference_said}
use Rattle.st_valid.specs.Refusals.{refused_by_log}
use Rattle.st_valid.specs.Room.{has_room_for_names}
use Rattle.st_valid.specs.Sessions.{session_may}
use Rattle.st_valid.specs.declared.message.Message.{Message}
use Rattle.st_valid.specs.declared.message.ReplayCause.{ReplayCause}
use Rattle.st_valid.specs.declared.message.ReplayCause.TheVariants as cause
use Rattle.st_valid.specs.declared.message.Said.{Said}
use Rattle.st_valid.specs.declared.message.Said.TheVariants as said
use Rattle.st_valid_laws.specs.Messages.{IsBodyOf, IsRefusedFor, IsValid, IsValidLog, one_message_more}
use Rattle.st_valid_laws.specs.Schema.{ChangeKeeps, KeepsToItsSchema, SaysBySchema}
use Rattle.st_valid_laws.specs.Taking.{ComesOut, IsEnteredAs}
use Rattle.st_valid_laws.proofs.RefusedByLog.{passed}
use Rattle.st_valid_laws.proofs.Standing.{all_stand}
use Rattle.st_replay.specs.Stands.{MayOpen}
use Rattle.st_replay.specs.inside.Judging.{IsJudged, IsTurnedDown}
use Rattle.st_replay.proofs.AcceptedCommits.{may_enter}

module _ (O : Document) (log : List Entry) (m : Message) (none : refused_by_log log m ≡ None) where
  -- ## The tests

  pub valid_when : IsInContext O log m → KeepsToItsSchema O log m → IsValid O log m
  valid_when context schema cause.Shape = tt
  valid_when context schema cause.Sequence = passed O log m none cause.Sequence (λ e. cc) (λ e. cc)
  valid_when context schema cause.Session = passed O log m none cause.Session (λ e. cc) (λ e. cc)
  valid_when context schema cause.Window = passed O log m none cause.Window (λ e. cc) (λ e. cc)
  valid_when context schema cause.RefBack = passed O log m none cause.RefBack (λ e. cc) (λ e. cc)
  valid_when context schema cause.Ids = passed O log m none cause.Ids (λ e. cc) (λ e. cc)
  valid_when context schema cause.Revision = passed O log m none cause.Revision (λ e. cc) (λ e. cc)
  valid_when context schema cause.Limit = passed O log m none cause.Limit (λ e. cc) (λ e. cc)
  valid_when context schema cause.Context = context
  valid_when context schema cause.Schema = schema

  pub without_context : (IsInContext O log m → ⊥) → IsRefusedFor O log m cause.Context
  without_context fails =
      inr (
        tt,
        inr (
          passed O log m none cause.Sequence (λ e. cc) (λ e. cc),
          inr (
            passed O log m none cause.Session (λ e. cc) (λ e. cc),
            inr (
              passed O log m none cause.Window (λ e. cc) (λ e. cc),
              inr (
                passed O log m none cause.RefBack (λ e. cc) (λ e. cc),
                inr (
                  passed O log m none cause.Ids (λ e. cc) (λ e. cc),
                  inr (
                    passed O log m none cause.Revision (λ e. cc) (λ e. cc),
                    inr (
                      passed O log m none cause.Limit (λ e. cc) (λ e. cc),
                      inl (refl, fails),
                    ),
                  ),
                ),
              ),
            ),
          ),
        ),
      )

  pub without_schema : IsInContext O log m → (KeepsToItsSchema O log m → ⊥) → IsRefusedFor O log m cause.Schema
  without_schema context fails =
      inr (
        tt,
        inr (
          passed O log m none cause.Sequence (λ e. cc) (λ e. cc),
          inr (
            passed O log m none cause.Session (λ e. cc) (λ e. cc),
            inr (
              passed O log m none cause.Window (λ e. cc) (λ e. cc),
              inr (
                passed O log m none cause.RefBack (λ e. cc) (λ e. cc),
                inr (
                  passed O log m none cause.Ids (λ e. cc) (λ e. cc),
                  inr (
                    passed O log m none cause.Revision (λ e. cc) (λ e. cc),
                    inr (
                      passed O log m none cause.Limit (λ e. cc) (λ e. cc),
                      inr (
                        context,
                        inl (refl, fails),
                      ),
                    ),
                  ),
                ),
              ),
            ),
          ),
        ),
      )

  pub may_say : session_may log m.session m.said ≡ true
  may_say = passed O log m none cause.Session (λ e. cc) (λ e. cc)

  -- each name of a change has an id
  pub some_change : (reference : ℕ) (ids : IdRange) → m.said ≡ said.Commit reference ids None → ⊥
  some_change reference ids says =
      let none_next : false ≡ true = and-second (is_next_range log m.session ids) false (subst (λ (s : Said). ids_are_next log m.session s ≡ true) says (passed O log m none cause.Ids (λ e. cc) (λ e. cc))) in
      cc

  -- ## What says no change

  pub join_valid : (uuid : ℕ) → m.said ≡ said.Join uuid → IsValid O log m
  join_valid uuid says = valid_when (subst (SaysInContext O log m.session) (sym says) tt) (subst (SaysBySchema O log m.session) (sym says) tt)

  pub leave_valid : m.said ≡ said.Leave → IsValid O log m
  leave_valid says = valid_when (subst (SaysInContext O log m.session) (sym says) tt) (subst (SaysBySchema O log m.session) (sym says) tt)

  pub ack_valid : (reference : ℕ) → m.said ≡ said.Ack reference → IsValid O log m
  ack_valid reference says = valid_when (subst (SaysInContext O log m.session) (sym says) tt) (subst (SaysBySchema O log m.session) (sym says) tt)

  pub join_says : (uuid : ℕ) → m.said ≡ said.Join uuid → IsBodyOf O log m.session m.said (Join uuid)
  join_says uuid says = subst (λ x. IsBodyOf O log m.session x (Join uuid)) (sym says) refl

  pub leave_says : m.said ≡ said.Leave → IsBodyOf O log m.session m.said Leave
  leave_says says = subst (λ x. IsBodyOf O log m.session x Leave) (sym says) refl

  pub ack_says : (reference : ℕ) → m.said ≡ said.Ack reference → IsBodyOf O log m.session m.said (Ack reference)
  ack_says reference says = subst (λ x. IsBodyOf O log m.session x (Ack reference)) (sym says) refl

  pub follows : IsValidLog O log → IsValid O log m → (body : Body) → IsBodyOf O log m.session m.said body → IsValidLog O (log_with log m.session body)
  follows before valid body is = one_message_more before m valid body is

  pub enters : (body : Body) (v : Option Verdict) → IsValid O log m → IsBodyOf O log m.session m.said body → ComesOut O log body v → IsEnteredAs O log m (log_with log m.session body) v
  enters body v valid is out = record { valid = valid; body = body; says = is; after = refl; verdict = out }

  -- ## A change

  module _ (reference : ℕ) (ids : IdRange) (C : Change) (says : m.said ≡ said.Commit reference ids (Some C)) where
    pub known : known_reference m.session log ≤ reference
    known =
        let t : nat_le (known_reference m.session log) reference ≡ true = subst (λ q. option_map_or (nat_le (known_reference m.session log)) (reference_said q) true ≡ true) says (passed O log m none cause.RefBack (λ e. cc) (λ e. cc)) in
        grind (arith, nat_tests)

    window : is_within log m.n reference ≡ true
    window = subst (λ q. option_map_or (is_within log m.n) (reference_said q) true ≡ true) says (and-first (option_map_or (is_within log m.n) (reference_said m.said) true) (m.min == minimum_after log m) (passed O log m none cause.Window (λ e. cc) (λ e. cc)))

    pub within : reference ≤ length log
    within =
        let t : nat_lt reference m.n ≡ true = and-second (nat_le (minimum log) reference) (nat_lt reference m.n) window in
        let order : (m.n == length log + 1) ≡ true = passed O log m none cause.Sequence (λ e. cc) (λ e. cc) in
        let below : reference < m.n = grind (arith, nat_tests) in
        let next : m.n ≡ length log + 1 = grind (arith, nat_tests) in
        omega (arith, below, next)

    in_context : HasContext O log m.session reference C → IsInContext O log m
    in_context h = subst (SaysInContext O log m.session) (sym says) h

    no_context : (HasContext O log m.session reference C → ⊥) → IsInContext O log m → ⊥
    no_context fails h = fails (subst (SaysInContext O log m.session) says h)

    by_schema : ChangeKeeps O log m.session reference (Some C) → KeepsToItsSchema O log m
    by_schema h = subst (SaysBySchema O log m.session) (sym says) h

    no_schema : (ChangeKeeps O log m.session reference (Some C) → ⊥) → KeepsToItsSchema O log m → ⊥
    no_schema fails h = fails (subst (SaysBySchema O log m.session) says h)

    -- one that is turned down is refused
    pub turned_down : (c : ReplayCause) → IsTurnedDown O log m.session reference C c → IsRefusedFor O log m c
    turned_down c (inl h) = subst (IsRefusedFor O log m) (sym h.0) (without_context (no_context h.1))
    turned_down c (inr h) = subst (IsRefusedFor O log m) (sym h.0) (without_schema (in_context h.1) (no_schema h.2))

    module _ (N : Intent) (judged : IsJudged O log m.session reference C N) where
      pub change_valid : IsValid O log m
      change_valid = valid_when (in_context judged.context) (by_schema judged.keeps)

      pub change_says : IsBodyOf O log m.session m.said (Commit reference ids N)
      change_says = subst (λ x. IsBodyOf O log m.session x (Commit reference ids N)) (sym says) (judged.context.meant, ap (λ (M : Intent). Commit reference ids M) judged.intent)

      author_sound : MayOpen O → IsValidLog O log → IsSoundInForm judged.context.meant.document
      author_sound opens valid = (turn_extends opens.sound ((all_stand O opens.sound opens.made opens.room valid).authors m.session reference known).fit judged.context.meant.ran).after

      pub commit_may : MayOpen O → IsValidLog O log → (is_connected m.session log ≡ true) × (is_next_range log m.session ids ≡ true) × (has_room_for_names log (names_made N) ≡ true)
      commit_may opens valid =
          let may = may_enter O log m reference ids C says none judged.context.meant (author_sound opens valid) in
          (may.0, may.1, subst (λ (M : Intent). has_room_for_names log (names_made M) ≡ true) (sym judged.intent) may.2)
