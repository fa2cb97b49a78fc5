-- A list of revisions has no floating-point number.
use Rattle.std.proofs.Common.{◌≡◌, ℕ, false, List, [], ◌∷◌, map, refl}
use Rattle.serde_json.specs.Data.{string}
use Rattle.serde_json.specs.View.{items_of}
use Rattle.serde_json.specs.Written.{has_float, items_have_float}
use Rattle.st_ids.specs.declared.names.Rev.{Rev}
use Rattle.st_ids.specs.Names.{rev_text}
use Rattle.st_script.specs.AnswerText.{revs_data, void_revs_data}

revs_plain : (revs : List Rev) → items_have_float (items_of (map (λ rev. string (rev_text rev)) revs)) ≡ false
revs_plain [] = refl
revs_plain (rev ∷ revs) = revs_plain revs

pub list_plain : (revs : List Rev) → has_float (revs_data revs) ≡ false
list_plain = revs_plain

pub void_revs_plain : (word : List ℕ) (void : List Rev) → has_float (void_revs_data word void) ≡ false
void_revs_plain word void = rw (revs_plain void) refl
