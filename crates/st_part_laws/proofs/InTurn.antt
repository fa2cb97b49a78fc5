-- Lists whose intents name nodes of their schemas' lines alone, each where it comes.
use Rattle.std.proofs.Common.{List, [], ◌∷◌, ◌++◌, subst}
use Rattle.st_ids.specs.declared.names.Rev.{Rev}
use Rattle.st_marks.specs.declared.intents.Intent.{Intent}
use Rattle.st_marks.specs.Document.{Document, IsSoundInForm}
use Rattle.st_marks.specs.Run.{Run, done, next}
use Rattle.st_marks.specs.Verdict.{carried_document}
use Rattle.st_marks.proofs.OneVerdict.{carried_extends, one_run}
use Rattle.st_log_laws.specs.Names.{HasNames}
use Rattle.st_log_laws.specs.Turns.{FitInTurn}
use Rattle.st_log_laws.proofs.Names.{names_beside}
use Rattle.st_log_laws.proofs.Verdicts.{has_verdict}
use Rattle.st_part_laws.specs.Parts.{is_of_schemas}
use Rattle.st_part_laws.specs.Turns.{NameInTurn}
use Rattle.st_part_laws.proofs.Within.{within_later}

module _ (under : Rev → Rev) (chain : Rev → List Rev) where
  pub name_front : (Ns Ms : List Intent) (D : Document) → NameInTurn under chain D (Ns ++ Ms) → NameInTurn under chain D Ns
  name_front [] Ms D n = tt
  name_front (N ∷ Ns) Ms D n = (n.0, λ v a. name_front Ns Ms (carried_document v D N) (n.1 v a))

  pub name_rest : {Ns : List Intent} (Ms : List Intent) {D E : Document} → Run D Ns E → NameInTurn under chain D (Ns ++ Ms) → NameInTurn under chain E Ms
  name_rest Ms done n = n
  name_rest Ms (next v a r) n = name_rest Ms r (n.1 v a)

  name_then : (Ns Ms : List Intent) (D : Document) → NameInTurn under chain D Ns → ((E : Document) → Run D Ns E → NameInTurn under chain E Ms) → NameInTurn under chain D (Ns ++ Ms)
  name_then [] Ms D n then = then D done
  name_then (N ∷ Ns) Ms D n then = (n.0, λ v a. name_then Ns Ms (carried_document v D N) (n.1 v a) (λ E r. then E (next v a r)))

  pub name_then_one : (Ns Ms : List Intent) {D E : Document} → NameInTurn under chain D Ns → Run D Ns E → NameInTurn under chain E Ms → NameInTurn under chain D (Ns ++ Ms)
  name_then_one Ns Ms {D} n r m = name_then Ns Ms D n (λ F q. subst (λ F. NameInTurn under chain F Ms) (one_run r q) m)

  pub name_beside : (Ns : List Intent) (D E : Document) → HasNames D E → IsSoundInForm D → IsSoundInForm E → FitInTurn D Ns → FitInTurn E Ns → NameInTurn under chain D Ns → NameInTurn under chain E Ns
  name_beside [] D E h s t f g n = tt
  name_beside (N ∷ Ns) D E h s t f g n = (
    within_later (is_of_schemas under (chain N.under)) D E N h s t f.0 g.0 n.0,
    λ v a. (
        let b = has_verdict D N s in
        name_beside Ns (carried_document b.0 D N) (carried_document v E N) (names_beside D E N b.0 v h g.0)
        (carried_extends D N b.0 s f.0 f.1 b.1).after (carried_extends E N v t g.0 g.1 a).after (f.2 b.0 b.1) (g.2 v a) (n.1 b.0 b.1)),
  )
