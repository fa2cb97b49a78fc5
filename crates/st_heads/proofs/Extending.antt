-- Heads after one more commit.
use Rattle.std.proofs.Common.{◌≡◌, ℕ, ◌+◌, ◌<◌, List, [], ◌∷◌, ◌++◌, length, take, drop, get_or, refl, sym, ap, ◌∙◌, subst, append_assoc}
use Rattle.std.proofs.lemmas.List.{append-nil}
use Rattle.st_marks.specs.declared.intents.Intent.{Intent}
use Rattle.st_marks.specs.CarryOut.{full}
use Rattle.st_marks.specs.Document.{HasShortRows}
use Rattle.st_marks.specs.Intent.{Fits}
use Rattle.st_log_laws.specs.Turns.{FitInTurn}
use Rattle.st_log_laws.proofs.Turns.{rest}
use Rattle.st_doc.specs.Doc.{document_of}
use Rattle.st_doc.proofs.Look.{drop_one}
use Rattle.st_lemmas.proofs.FirstItems.{take_one}
use Rattle.st_heads.specs.declared.heads.Head.{Head}
use Rattle.st_heads.specs.Heads.{HasCarried}
use Rattle.st_heads.specs.Remembered.{none}
use Rattle.st_heads.proofs.Runs.{run_of, runs_joined}

pub none_carried : (h : Head) → HasCarried h [] h
none_carried h = record { more = []; run = none; own = sym (append-nil h.own); edited = refl }

carried_on : (a b c : Head) (Ns Ms : List Intent) → HasCarried a Ns b → HasCarried b Ms c → HasCarried a (Ns ++ Ms) c
carried_on a b c Ns Ms h k = record {
  more = h.more ++ k.more;
  run = runs_joined h.run k.run;
  own = k.own ∙ ap (λ l. l ++ k.more) h.own ∙ append_assoc a.own h.more k.more;
  edited = k.edited ∙ h.edited;
}

module _ (Ns : List Intent) (i : ℕ) (N : Intent) (inside : i < length Ns) (at : get_or Ns i N ≡ N) where
  -- what is left begins with the next
  pub next_fits : (h : Head) → FitInTurn (document_of h.doc) (drop i Ns) → Fits (document_of h.doc) N × HasShortRows (full (document_of h.doc) N)
  next_fits h f = let g = subst (FitInTurn (document_of h.doc)) (drop_one Ns i N N inside at) f in (g.0, g.1)

  pub rest_fits : (h k : Head) → FitInTurn (document_of h.doc) (drop i Ns) → HasCarried h (N ∷ []) k → FitInTurn (document_of k.doc) (drop (i + 1) Ns)
  rest_fits h k f c = rest (drop (i + 1) Ns) (run_of c.run) (subst (FitInTurn (document_of h.doc)) (drop_one Ns i N N inside at) f)

  pub HasCarried-take_next : (a b c : Head) → HasCarried a (take i Ns) b → HasCarried b (N ∷ []) c → HasCarried a (take (i + 1) Ns) c
  HasCarried-take_next a b c h k = subst (λ Ms. HasCarried a Ms c) (sym (take_one Ns i N N inside at)) (carried_on a b c (take i Ns) (N ∷ []) h k)
