use Rattle.std.proofs.Common.{◌≡◌, ℕ, List, inl, inr, refl, ◌∙◌, subst}
use Rattle.st_io.specs.Bytes.{Appends}
use Rattle.st_pieces.specs.Told.{AppendsPrefix}
use Rattle.st_answers.specs.Endings.{cut_short, ended}
use Rattle.st_run.proofs.Carrying.{nothing_added}
use Rattle.st_run.proofs.work.tell_load.Goals as goal

pub returns-in_default-clause-output : goal.returns-in_default-clause-output
returns-in_default-clause-output g c = (cut_short, inl refl, (0, nothing_added (g.K.Sink.written c.args.sink.now)))

pub returns-in-Ok-write_all-clause-output : goal.returns-in-Ok-write_all-clause-output
returns-in-Ok-write_all-clause-output g c =
    let bytes : c.as_bytes.result.now ≡ c.in-Ok.line = c.as_bytes.ensures.value ∙ c.as_str.ensures in
    let written = subst (λ (more : List ℕ). Appends (g.K.Sink.written c.args.sink.now) more (g.K.Sink.written c.write_all.new.sink)) bytes c.in-Ok-write_all.ensures.ok in
    (ended c.in-Ok.line, inr (c.in-Ok.line, c.in-Ok.ensures, refl), refl, written)

pub returns-clause-output : goal.returns-clause-output
returns-clause-output g c =
    let bytes : c.as_bytes.result.now ≡ c.in-Ok.line = c.as_bytes.ensures.value ∙ c.as_str.ensures in
    let written = subst (λ (more : List ℕ). AppendsPrefix (g.K.Sink.written c.args.sink.now) more (g.K.Sink.written c.write_all.new.sink)) bytes c.in-Err.ensures.err in
    (ended c.in-Ok.line, inr (c.in-Ok.line, c.in-Ok.ensures, refl), written)
