-- Commits that fit one after the other have texts.
use Rattle.std.proofs.Common.{ℕ, List, [], ◌∷◌, refl}
use Rattle.serde_json.specs.Written.{compact_text}
use Rattle.st_marks.specs.declared.intents.Intent.{Intent}
use Rattle.st_marks.specs.Document.{Document, IsSoundInForm}
use Rattle.st_marks.specs.Verdict.{carried_document}
use Rattle.st_marks.proofs.OneVerdict.{carried_extends}
use Rattle.st_change_codec.specs.Changes.{change_data}
use Rattle.st_log_laws.specs.Turns.{FitInTurn}
use Rattle.st_log_laws.proofs.Verdicts.{has_verdict}
use Rattle.st_world.specs.Texts.{AreTextsOf}
use Rattle.st_world_laws.proofs.TextsExist.{has_change}

pub has_texts : (Ns : List Intent) (D : Document) → IsSoundInForm D → FitInTurn D Ns → (texts : List (List ℕ)) × AreTextsOf D Ns texts
has_texts [] D s f = ([], refl)
has_texts (N ∷ Ns) D s f =
    let v = has_verdict D N s in
    let C = has_change D s N in
    let text = compact_text (change_data C.0) in
    let x = carried_extends D N v.0 s f.0 f.1 v.1 in
    let rest = has_texts Ns (carried_document v.0 D N) x.after (f.2 v.0 v.1) in
    (text ∷ rest.0, (text, v.0, rest.0, (C.0, C.1, refl), v.1, rest.1, refl))
