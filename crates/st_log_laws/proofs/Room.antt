-- How long rows become.
use Rattle.std.proofs.Common.{◌≤◌, ◌+◌, List, [], ◌∷◌, ◌++◌, length, inl, inr, arith}
use Rattle.st_ids.specs.declared.names.NodeId.{NodeId}
use Rattle.st_marks.specs.declared.intents.Intent.{Intent}
use Rattle.st_marks.specs.declared.intents.Owned.{Owned}
use Rattle.st_marks.specs.declared.verdicts.Verdict.{Verdict}
use Rattle.st_marks.specs.Document.{Document, IsSoundInForm, HasShortRows}
use Rattle.st_marks.specs.Intent.{Fits, group_cells}
use Rattle.st_marks.specs.CarryOut.{full, with_names}
use Rattle.st_marks.specs.Verdict.{carried_document}
use Rattle.st_marks.specs.Run.{Run, done, next}
use Rattle.st_marks.proofs.Members.{append_left, append_right}
use Rattle.st_marks.proofs.NewRows.{rows_once, old_or_made}
use Rattle.st_marks.proofs.OneVerdict.{carried_extends}
use Rattle.st_log_laws.specs.Turns.{FitInTurn, HasRoom, cells_made}
use Rattle.st_log_laws.proofs.Names.{if_carried}
use Rattle.st_lemmas.proofs.Lists.{length-append}
use Rattle.st_marks.proofs.Contained.{no_longer}

-- ## Rows

module _ (D : Document) (N : Intent) (s : IsSoundInForm D) (f : Fits D N) where
  named_bound : (n : NodeId) → length ((with_names D N).rows n) ≤ length (D.rows n) + length (group_cells N)
  named_bound n =
      let l = no_longer (λ (o : Owned). o.cell) ((with_names D N).rows n) (D.rows n ++ group_cells N) (rows_once D N s f n)
      (λ o h. elim (old_or_made D N n o h) [ inl i ↦ append_left (D.rows n) (group_cells N) o i | inr i ↦ append_right (D.rows n) (group_cells N) o i ]) in
      omega (arith, l, length-append (D.rows n) (group_cells N))

  carried_bound : (n : NodeId) (v : Verdict) → length ((carried_document v D N).rows n) ≤ length (D.rows n) + length (group_cells N)
  carried_bound n v = if_carried (λ (C : Document). length (C.rows n) ≤ length (D.rows n) + length (group_cells N)) D N (omega arith) (named_bound n) (named_bound n) v

  pub row_bound : (n : NodeId) (v : Verdict) → length ((carried_document v D N).rows n) ≤ length (D.rows n) + cells_made (N ∷ [])
  row_bound n v = omega (arith, carried_bound n v)

  pub short_after : (Ns : List Intent) → HasRoom D (N ∷ Ns) → HasShortRows (full D N)
  short_after Ns room n = omega (arith, named_bound n, room n)

  pub room_after : (Ns : List Intent) (v : Verdict) → HasRoom D (N ∷ Ns) → HasRoom (carried_document v D N) Ns
  room_after Ns v room n = omega (arith, carried_bound n v, room n)

pub room_in_run : {Ns : List Intent} (Ms : List Intent) {D E : Document} → IsSoundInForm D → FitInTurn D Ns → Run D Ns E → HasRoom D (Ns ++ Ms) → HasRoom E Ms
room_in_run Ms s f done room = room
room_in_run Ms s f (next {D} {N = N} {Ns} v a r) room =
    room_in_run Ms (carried_extends D N v s f.0 f.1 a).after (f.2 v a) r (room_after D N s f.0 (Ns ++ Ms) v room)
