-- A tree is allowed where it conforms.
use Rattle.std.specs.Prelude.{◌≡◌, ◌+◌, ℕ, List, [], ◌∷◌, Bool, true, false, not, is_ok, refl}
use Rattle.std.specs.List.{list_all, position_from}
use Rattle.st_tree.specs.Node.{Node}
use Rattle.st_schema.specs.Conforms.{allows_of, conforms, refusal, verdicts}
use Rattle.st_schema.specs.Schema.{SchemaView}

none_fails : (k : ℕ) (bs : List Bool) → is_ok (refusal (position_from (λ ok. not ok) k bs)) ≡ list_all (λ ok. ok) bs
none_fails k [] = refl
none_fails k (true ∷ bs) = none_fails (k + 1) bs
none_fails k (false ∷ bs) = refl

pub allowed_conforms : (s : SchemaView) (types : List (List ℕ)) (t : Node) → is_ok (allows_of s types t) ≡ conforms s types t
allowed_conforms s types t = none_fails 0 (verdicts s types t)
