-- Replies to lines, of whatever command.
use Rattle.std.proofs.Common.{ℕ, List, sym, ◌∙◌, ap, subst}
use Rattle.st_pieces.specs.Told.{IsEnd, IsReply}
use Rattle.st_pieces.specs.declared.responder.Reply.{Reply}
use Rattle.st_pieces.specs.declared.responder.Reply.TheVariants.{Goes, Ends}
use Rattle.st_answers.specs.Endings.{end_text}
use Rattle.st_answers.specs.Meaning.{EndsAt, EndsBy, FailsAt, FinishesAt, LacksFor, Meaning}
use Rattle.st_answers.specs.declared.cause.EndCause.{EndCause}
use Rattle.st_run.specs.inside.Replies.{IsRefusal, IsTelling}

module _ (m : Meaning) (s : m.State) (n : ℕ) (line : List ℕ) where
  -- a line ends the run
  pub refused : (Stands : m.State → Type 0) (c : EndCause) (r : Reply EndCause) → EndsBy m s line c → IsRefusal n c r → IsReply (m.Takes s n line) (EndsAt m s n line) Stands r
  refused Stands c (Goes text) is h = absurd h
  refused Stands c (Ends text e) is h = (subst (λ (x : EndCause). EndsBy m s line x) (sym h.0) is, h.1 ∙ ap (end_text n) (sym h.0))

  -- a line is answered with a text
  pub told_so : (Stands : m.State → Type 0) (told : List ℕ) (v : m.State) (r : Reply EndCause) → m.Takes s n line told v → Stands v → IsTelling told r → IsReply (m.Takes s n line) (EndsAt m s n line) Stands r
  told_so Stands told v (Goes text) takes stands h = (v, subst (λ (t : List ℕ). m.Takes s n line t v) (sym h) takes, stands)
  told_so Stands told v (Ends text e) takes stands h = absurd h

  -- what answers stands for the next state in other words
  pub reply_as : (These Those : m.State → Type 0) → ((v : m.State) → These v → Those v) → (r : Reply EndCause) → IsReply (m.Takes s n line) (EndsAt m s n line) These r → IsReply (m.Takes s n line) (EndsAt m s n line) Those r
  reply_as These Those also (Goes text) h = (h.0, h.1, also h.0 h.2)
  reply_as These Those also (Ends text e) h = h

-- the input ends where it may
pub ends_well : (m : Meaning) (s : m.State) (n : ℕ) (last : List ℕ) (r : Reply EndCause) → m.Finishes s last → IsTelling last r → IsEnd (FinishesAt m s n) (FailsAt m s n) r
ends_well m s n last (Goes text) f h = subst (λ (t : List ℕ). m.Finishes s t) (sym h) f
ends_well m s n last (Ends text e) f h = absurd h

-- and where a line is missing
pub ends_badly : (m : Meaning) (s : m.State) (n : ℕ) (c : EndCause) (r : Reply EndCause) → LacksFor m s c → IsRefusal n c r → IsEnd (FinishesAt m s n) (FailsAt m s n) r
ends_badly m s n c (Goes text) lacks h = absurd h
ends_badly m s n c (Ends text e) lacks h = (subst (λ (x : EndCause). LacksFor m s x) (sym h.0) lacks, h.1 ∙ ap (end_text n) (sym h.0))
