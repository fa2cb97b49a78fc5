-- Texts of intents, with one more carried out.
use Rattle.std.proofs.Common.{◌≡◌, ℕ, ◌+◌, ◌<◌, List, [], ◌∷◌, ◌++◌, length, drop, get_or, refl, sym, ap, ◌∙◌, subst, append_assoc}
use Rattle.std.proofs.lemmas.List.{append-nil}
use Rattle.st_marks.specs.declared.intents.Intent.{Intent}
use Rattle.st_marks.specs.CarryOut.{full}
use Rattle.st_marks.specs.Document.{Document, HasShortRows}
use Rattle.st_marks.specs.Intent.{Fits}
use Rattle.st_marks.specs.Run.{Run, done, next}
use Rattle.st_marks.specs.Verdict.{IsVerdict, carried_document}
use Rattle.st_marks.specs.declared.verdicts.Verdict.{Verdict}
use Rattle.st_log_laws.specs.Turns.{FitInTurn}
use Rattle.st_log_laws.proofs.Turns.{rest}
use Rattle.st_doc.proofs.Look.{drop_one}
use Rattle.st_world.specs.Texts.{AreTextsOf, IsTextOf}

-- texts with those of what is left behind them are the texts of all
abbrev pub GoesOn : Document → List Intent → Document → List Intent → List (List ℕ) → Type 0
GoesOn O Ns D left texts = (more : List (List ℕ)) → AreTextsOf D left more → AreTextsOf O Ns (texts ++ more)

one_more : (D E : Document) (N : Intent) (Ms : List Intent) (text : List ℕ) (more : List (List ℕ)) → IsTextOf D N text → Run D (N ∷ []) E → AreTextsOf E Ms more → AreTextsOf D (N ∷ Ms) (text ∷ more)
one_more D E N Ms text more is (next v a r) h = go v a E r h
  where
    go : (v : Verdict) → IsVerdict D N v → (F : Document) → Run (carried_document v D N) [] F → AreTextsOf F Ms more → AreTextsOf D (N ∷ Ms) (text ∷ more)
    go v a F done h = (text, v, more, is, a, h, refl)

-- an intent that was carried out is a run of its own
pub run_one : (D E : Document) (N : Intent) (v : Verdict) → IsVerdict D N v → E ≡ carried_document v D N → Run D (N ∷ []) E
run_one D E N v a e = next v a (subst (λ F. Run (carried_document v D N) [] F) (sym e) done)

module _ (Ns : List Intent) (i : ℕ) (N : Intent) (inside : i < length Ns) (at : get_or Ns i N ≡ N) where
  -- what is left begins with the next
  pub next_fits : (D : Document) → FitInTurn D (drop i Ns) → Fits D N × HasShortRows (full D N)
  next_fits D f = let g = subst (FitInTurn D) (drop_one Ns i N N inside at) f in (g.0, g.1)

  pub rest_fits : (D E : Document) → FitInTurn D (drop i Ns) → Run D (N ∷ []) E → FitInTurn E (drop (i + 1) Ns)
  rest_fits D E f r = rest (drop (i + 1) Ns) r (subst (FitInTurn D) (drop_one Ns i N N inside at) f)

  pub text_behind : (O D E : Document) (old new : List (List ℕ)) (text : List ℕ) → IsTextOf D N text → new ≡ old ++ text ∷ [] → Run D (N ∷ []) E
      → GoesOn O Ns D (drop i Ns) old → GoesOn O Ns E (drop (i + 1) Ns) new
  text_behind O D E old new text is pushed r goes more h =
      subst (AreTextsOf O Ns) (sym (ap (λ l. l ++ more) pushed ∙ append_assoc old (text ∷ []) more))
      (goes (text ∷ more) (subst (λ Ms. AreTextsOf D Ms (text ∷ more)) (sym (drop_one Ns i N N inside at)) (one_more D E N (drop (i + 1) Ns) text more is r h)))

-- at the end nothing is left
pub all_told : (O D : Document) (Ns left : List Intent) (texts : List (List ℕ)) → left ≡ [] → GoesOn O Ns D left texts → AreTextsOf O Ns texts
all_told O D Ns left texts none goes = subst (AreTextsOf O Ns) (append-nil texts) (goes [] (subst (λ Ms. AreTextsOf D Ms []) (sym none) refl))
