-- The texts of commits that are carried out one after the other, each as the change that it is where it comes.
use Rattle.std.specs.Prelude.{◌≡◌, ℕ, List, [], ◌∷◌}
use Rattle.serde_json.specs.Written.{compact_text}
use Rattle.st_marks.specs.declared.changes.Change.{Change}
use Rattle.st_marks.specs.declared.intents.Intent.{Intent}
use Rattle.st_marks.specs.declared.verdicts.Verdict.{Verdict}
use Rattle.st_marks.specs.Document.{Document}
use Rattle.st_marks.specs.Embedding.{IsEmbedding}
use Rattle.st_marks.specs.Verdict.{IsVerdict, carried_document}
use Rattle.st_change_codec.specs.Changes.{change_data}

-- a text is that of the change of an intent in a document
abbrev pub IsTextOf : Document → Intent → List ℕ → Type 0
IsTextOf D N text = (change : Change) × IsEmbedding D N change × (text ≡ compact_text (change_data change))

-- each text is that of the change of its intent in the document after those before it, each of which is carried out by its
-- verdict where it comes
abbrev pub AreTextsOf : Document → List Intent → List (List ℕ) → Type 0
AreTextsOf D [] texts = texts ≡ []
AreTextsOf D (N ∷ Ns) texts = (text : List ℕ) × (v : Verdict) × (rest : List (List ℕ)) × IsTextOf D N text × IsVerdict D N v
    × AreTextsOf (carried_document v D N) Ns rest × (texts ≡ text ∷ rest)
