-- How long rows become over a run.
use Rattle.std.proofs.Common.{◌≡◌, ◌≤◌, ◌+◌, List, [], ◌∷◌, ◌++◌, length, arith}
use Rattle.st_ids.specs.declared.names.NodeId.{NodeId}
use Rattle.st_marks.specs.declared.intents.Intent.{Intent}
use Rattle.st_marks.specs.declared.verdicts.Verdict.{Verdict}
use Rattle.st_marks.specs.CarryOut.{full}
use Rattle.st_marks.specs.Document.{Document, IsSoundInForm}
use Rattle.st_marks.specs.Intent.{Fits, group_cells}
use Rattle.st_marks.specs.Run.{Run, done, next}
use Rattle.st_marks.proofs.OneVerdict.{carried_extends}
use Rattle.st_log_laws.specs.Turns.{FitInTurn, cells_made}
use Rattle.st_log_laws.proofs.Room.{row_bound}
use Rattle.st_log_laws.proofs.Turns.{turn_extends}

pub run_bound : {Ns : List Intent} (n : NodeId) {D E : Document} → IsSoundInForm D → FitInTurn D Ns → Run D Ns E → length (E.rows n) ≤ length (D.rows n) + cells_made Ns
run_bound n s f done = omega arith
run_bound n s f (next {D} {N = N} v a r) =
    let rest = run_bound n (carried_extends D N v s f.0 f.1 a).after (f.2 v a) r in
    omega (arith, rest, row_bound D N s f.0 n v)

more_cells : (Ns : List Intent) (N : Intent) → cells_made (Ns ++ N ∷ []) ≡ cells_made Ns + length (group_cells N)
more_cells [] N = omega arith
more_cells (M ∷ Ns) N = omega (arith, more_cells Ns N)

pub full_bound : {Ns : List Intent} (n : NodeId) {D E : Document} (N : Intent) → IsSoundInForm D → FitInTurn D Ns → Run D Ns E → Fits E N → length ((full E N).rows n) ≤ length (D.rows n) + cells_made (Ns ++ N ∷ [])
full_bound {Ns} n {D} {E} N s f r g =
    let one : length ((full E N).rows n) ≤ length (E.rows n) + cells_made (N ∷ []) = row_bound E N (turn_extends s f r).after g n Verdict.Sound in
    omega (arith, one, run_bound n s f r, more_cells Ns N)
