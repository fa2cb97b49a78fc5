-- Answers that were written.
use Rattle.std.proofs.Common.{ℕ, List, Option, inl, inr, sym, subst}
use Rattle.st_pieces.specs.declared.responder.RunEnd.{RunEnd}
use Rattle.st_pieces.specs.declared.responder.RunEnd.TheVariants.{Done, Bad, TooLong, ReadFault, WriteFault, NoMemory}
use Rattle.st_pieces.specs.declared.responder.Reply.{Reply}
use Rattle.st_pieces.specs.declared.responder.Reply.TheVariants.{Goes, Ends}
use Rattle.st_pieces.specs.Told.{IsReply}
use Rattle.st_pieces.specs.inside.Sent.{IsAnswerTo, IsLineEnd, IsReplyEnd, IsSent}

module _ {S E : Type 0} (Takes : List ℕ → S → Type 0) (EndsAt : List ℕ → E → Type 0) (Stands : S → Type 0) where
  -- an answer that ended a run
  pub reply_ended : (reply : Reply E) (n : ℕ) (old new : Option (List ℕ)) (o : RunEnd E) → IsReply Takes EndsAt Stands reply
      → IsReplyEnd reply n old new o → IsLineEnd (IsAnswerTo Takes EndsAt) EndsAt n old new o
  reply_ended (Goes text) n old new o r h =
      subst (IsLineEnd (IsAnswerTo Takes EndsAt) EndsAt n old new) (sym h.0) (text.items, inl (r.0, r.1), h.1)
  reply_ended (Ends text e) n old new Done r h = absurd h
  reply_ended (Ends text e) n old new (TooLong m) r h = absurd h
  reply_ended (Ends text e) n old new ReadFault r h = absurd h
  reply_ended (Ends text e) n old new NoMemory r h = h
  reply_ended (Ends text e) n old new (Bad m f) r h =
      (h.0, h.1, subst (λ g. EndsAt h.1 g) (sym h.2.1) (subst (λ last. EndsAt last e) (sym h.2.0) r), h.3)
  reply_ended (Ends text e) n old new WriteFault r h = (h.0, inr (e, subst (λ next. EndsAt next e) (sym h.1) r), h.2)

  -- where the run goes on what answers stands for some state
  pub reply_stands : (reply : Reply E) (old new : Option (List ℕ)) → IsReply Takes EndsAt Stands reply → IsSent reply old new → (v : S) × Stands v
  reply_stands (Goes text) old new r h = (r.0, r.2)
  reply_stands (Ends text e) old new r h = absurd h
