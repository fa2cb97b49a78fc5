-- Lists of commits that agree with their schemas, each where it comes, and in longer lists.
use Rattle.std.proofs.Common.{◌≡◌, List, [], ◌∷◌, ◌++◌, sym, ap, ◌∙◌, subst, inl, inr}
use Rattle.std.specs.List.{AllByRecursion}
use Rattle.st_ids.specs.Listing.{Has}
use Rattle.st_ids.specs.Root.{opening}
use Rattle.st_ids.specs.declared.names.Rev.{Rev}
use Rattle.st_marks.specs.declared.intents.Intent.{Intent}
use Rattle.st_marks.specs.Document.{Document, IsSoundInForm}
use Rattle.st_marks.specs.Intent.{Fits}
use Rattle.st_marks.specs.Run.{Run, done, next}
use Rattle.st_marks.specs.Verdict.{carried_document}
use Rattle.st_marks.proofs.OneVerdict.{carried_extends, one_run}
use Rattle.st_log_laws.specs.Names.{HasNames, HaveNewRevisions, IsMadeUnder}
use Rattle.st_log_laws.specs.Turns.{FitInTurn, IsSublist}
use Rattle.st_log_laws.proofs.Beside.{names_later}
use Rattle.st_log_laws.proofs.Names.{names_beside}
use Rattle.st_log_laws.proofs.Turns.{front, has_run, rest, turn_extends}
use Rattle.st_log_laws.proofs.Verdicts.{has_verdict}
use Rattle.st_part_laws.specs.Parts.{is_of_schemas}
use Rattle.st_part_laws.proofs.Within.{within_later}
use Rattle.st_schema_laws.specs.AgreeingInEffect.{AgreeInTurn, AgreesInLine, ConformsInEffect, Told}
use Rattle.st_schema_laws.specs.Earlier.{AreUnderEarlier}
use Rattle.st_schema_laws.proofs.Conformity.{conforms_in_turn, keeps_there}
use Rattle.st_schema_laws.proofs.Earlier.{come_first}

module _ (T : Told) where
  pub agrees_later : (D E : Document) (N : Intent) → HasNames D E → IsSoundInForm D → IsSoundInForm E → Fits D N → Fits E N → AgreesInLine T D N → AgreesInLine T E N
  agrees_later D E N h s t f g a = record {
    under = a.under;
    chain = a.chain;
    view = a.view;
    names = within_later (is_of_schemas T.under (T.chain N.under)) D E N h s t f g a.names;
    keeps = keeps_there (is_of_schemas T.under (T.chain N.under)) (is_of_schemas T.under (T.chain N.under)) (λ n e. e) D E h s t (T.view N.under) T.home N g a.keeps;
  }

  pub agree_front : (Ns Ms : List Intent) (D : Document) → AgreeInTurn T D (Ns ++ Ms) → AgreeInTurn T D Ns
  agree_front [] Ms D a = tt
  agree_front (N ∷ Ns) Ms D a = (a.0, λ v is. agree_front Ns Ms (carried_document v D N) (a.1 v is))

  pub agree_rest : {Ns : List Intent} (Ms : List Intent) {D E : Document} → Run D Ns E → AgreeInTurn T D (Ns ++ Ms) → AgreeInTurn T E Ms
  agree_rest Ms done a = a
  agree_rest Ms (next v is r) a = agree_rest Ms r (a.1 v is)

  agree_then : (Ns Ms : List Intent) (D : Document) → AgreeInTurn T D Ns → ((E : Document) → Run D Ns E → AgreeInTurn T E Ms) → AgreeInTurn T D (Ns ++ Ms)
  agree_then [] Ms D a then = then D done
  agree_then (N ∷ Ns) Ms D a then = (a.0, λ v is. agree_then Ns Ms (carried_document v D N) (a.1 v is) (λ E r. then E (next v is r)))

  pub agree_then_one : (Ns Ms : List Intent) {D E : Document} → AgreeInTurn T D Ns → Run D Ns E → AgreeInTurn T E Ms → AgreeInTurn T D (Ns ++ Ms)
  agree_then_one Ns Ms {D} a r b = agree_then Ns Ms D a (λ F q. subst (λ F. AgreeInTurn T F Ms) (one_run r q) b)

  pub agree_beside : (Ns : List Intent) (D E : Document) → HasNames D E → IsSoundInForm D → IsSoundInForm E → FitInTurn D Ns → FitInTurn E Ns → AgreeInTurn T D Ns → AgreeInTurn T E Ns
  agree_beside [] D E h s t f g a = tt
  agree_beside (N ∷ Ns) D E h s t f g a = (
    agrees_later D E N h s t f.0 g.0 a.0,
    λ v is. (
        let b = has_verdict D N s in
        agree_beside Ns (carried_document b.0 D N) (carried_document v E N) (names_beside D E N b.0 v h g.0)
        (carried_extends D N b.0 s f.0 f.1 b.1).after (carried_extends E N v t g.0 g.1 is).after (f.2 b.0 b.1) (g.2 v is) (a.1 b.0 b.1)),
  )

  pub agree_longer : (D : Document) (As Bs Ns : List Intent) → IsSoundInForm D → IsSublist As Bs → FitInTurn D (As ++ Ns) → FitInTurn D (Bs ++ Ns) → AgreeInTurn T D Bs → AgreeInTurn T D (As ++ Ns)
      → AgreeInTurn T D (Bs ++ Ns)
  agree_longer D As Bs Ns sound g f k b a = agree_then Bs Ns D b last
    where
      last : (F : Document) → Run D Bs F → AgreeInTurn T F Ns
      last F q =
          let fit_as : FitInTurn D As = front As Ns D f in
          let fit_bs : FitInTurn D Bs = front Bs Ns D k in
          let r = has_run As D sound fit_as in
          agree_beside Ns r.0 F (names_later D g fit_bs r.1 q) (turn_extends sound fit_as r.1).after (turn_extends sound fit_bs q).after (rest Ns r.1 f) (rest Ns q k) (agree_rest Ns r.1 a)

  -- ## What is told of each

  pub all_under : (Ns : List Intent) (D : Document) → IsSoundInForm D → FitInTurn D Ns → AgreeInTurn T D Ns → AllByRecursion (λ (N : Intent). T.under N.rev ≡ N.under) Ns
  all_under [] D s f a = tt
  all_under (N ∷ Ns) D s f a = (
    a.0.under,
    let b = has_verdict D N s in all_under Ns (carried_document b.0 D N) (carried_extends D N b.0 s f.0 f.1 b.1).after (f.2 b.0 b.1) (a.1 b.0 b.1),
  )

  -- where each commit was made under a schema that came before it
  pub line_conforms : (O D : Document) (Ns : List Intent) → IsSoundInForm O → FitInTurn O Ns → IsMadeUnder (opening ∷ []) O → HaveNewRevisions (opening ∷ []) Ns → AreUnderEarlier (opening ∷ []) Ns → AgreeInTurn T O Ns → ConformsInEffect T O
      → Run O Ns D → ConformsInEffect T D
  line_conforms O D Ns s f made new earlier a here run =
      conforms_in_turn T (opening ∷ []) run s f made (come_first T.under (opening ∷ []) (opening ∷ []) Ns (λ r h. h) own new (all_under Ns O s f a) earlier) a here
    where
      own : (r : Rev) → Has (opening ∷ []) r → Has (opening ∷ []) (T.under r)
      own r (inl e) = inl (sym here.opened ∙ ap T.under e)
      own r (inr h) = absurd h
