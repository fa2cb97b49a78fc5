-- What a line is replied to.
use Rattle.std.specs.Prelude.{◌≡◌, ℕ, List}
use Rattle.st_pieces.specs.declared.responder.Reply.{Reply}
use Rattle.st_pieces.specs.declared.responder.Reply.TheVariants.{Goes, Ends}
use Rattle.st_requests.specs.declared.request.Request.{Request}
use Rattle.st_answers.specs.Algebra.{AnswersRequest}
use Rattle.st_answers.specs.Endings.{end_text}
use Rattle.st_answers.specs.declared.cause.EndCause.{EndCause}

-- the run ends at the line of a number
abbrev pub IsRefusal : ℕ → EndCause → Reply EndCause → Type 0
IsRefusal n c (Goes text) = ⊥
IsRefusal n c (Ends text e) = (e ≡ c) × (text.items ≡ end_text n c)

-- the run goes on, and that is told
abbrev pub IsTelling : List ℕ → Reply EndCause → Type 0
IsTelling told (Goes text) = text.items ≡ told
IsTelling told (Ends text e) = ⊥

-- a request is answered
abbrev pub IsAnswerTo : Request → Reply EndCause → Type 0
IsAnswerTo q (Goes text) = AnswersRequest q text.items
IsAnswerTo q (Ends text e) = ⊥
