-- A change and a step that agree have one change after the step, and one step over the change.
use Rattle.std.proofs.Common.{◌≡◌}
use Rattle.st_log_laws.proofs.Verdicts.{has_verdict}
use Rattle.st_marks.specs.declared.changes.Change.{Change}
use Rattle.st_marks.specs.declared.intents.Intent.{Intent}
use Rattle.st_marks.specs.declared.steps.Step.{Step}
use Rattle.st_marks.specs.declared.verdicts.Verdict.{Verdict}
use Rattle.st_marks.specs.Agree.{Agrees, RebaseClash}
use Rattle.st_marks.specs.CarryOut.{full}
use Rattle.st_marks.specs.Document.{Document, HasShortRows}
use Rattle.st_marks.specs.Embedding.{IsEmbedding}
use Rattle.st_marks.specs.Extends.{IsExtendedBy}
use Rattle.st_marks.specs.Intent.{Fits}
use Rattle.st_marks.specs.Step.{IsStep}
use Rattle.st_marks.specs.Verdict.{IsVerdict, carried_document}
use Rattle.st_marks.proofs.OneVerdict.{carried_extends}
use Rattle.st_marks.proofs.Unique.{one_embedding, one_step}
use Rattle.st_moves.specs.Room.{HasRoomInRows}
use Rattle.st_normal.specs.Rules.{ObeysChangeRules, ObeysStepRules}
use Rattle.st_pair_laws.specs.Beside.{StandBeside}
use Rattle.st_pair_laws.proofs.RoomInRows.{row_kept}
use Rattle.st_pair_laws.proofs.StandBeside.{stand_beside}

module _ (C : Change) (S : Step) (w : ObeysChangeRules C) (v : ObeysStepRules S) (g : Agrees (RebaseClash C S)) where
  pub one_rebase : (K M : Change)
      → ((D E : Document) (N : Intent) → IsExtendedBy D E → Fits D N → Fits E N → IsEmbedding D N C → IsStep D E S → IsEmbedding E N K × IsEmbedding E N M)
      → K ≡ M
  one_rebase K M both =
      let n : StandBeside C S = stand_beside C S w v g in
      let r = both n.0 n.1 n.2 n.3 n.4 n.5 n.7 n.8 in
      one_embedding n.1 n.2 K M r.0 r.1

  pub one_bridge : HasRoomInRows C S → (T U : Step)
      → ((D E : Document) (N : Intent) (a b : Verdict) → IsExtendedBy D E → Fits D N → Fits E N → HasShortRows (full D N) → HasShortRows (full E N)
      → IsEmbedding D N C → IsStep D E S → IsVerdict D N a → IsVerdict E N b
      → IsStep (carried_document a D N) (carried_document b E N) T × IsStep (carried_document a D N) (carried_document b E N) U)
      → T ≡ U
  one_bridge room T U both =
      let n : StandBeside C S = stand_beside C S w v g in
      let short : HasShortRows (full n.1 n.2) = λ k. row_kept n.0 n.1 n.2 C S n.3 n.4 n.6 n.7 n.8 room k in
      let a = has_verdict n.0 n.2 n.3.before in
      let b = has_verdict n.1 n.2 n.3.after in
      let r = both n.0 n.1 n.2 a.0 b.0 n.3 n.4 n.5 n.6 short n.7 n.8 a.1 b.1 in
      one_step (carried_document a.0 n.0 n.2) (carried_document b.0 n.1 n.2) T U (carried_extends n.1 n.2 b.0 n.3.after n.5 short b.1).after r.0 r.1
