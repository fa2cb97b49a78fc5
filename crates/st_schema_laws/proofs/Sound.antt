-- Why the intents that edits mean are sound: the last schema entry is in effect.
use Rattle.std.proofs.Common.{◌≡◌, List, [], ◌∷◌, Some, refl, inl, inr}
use Rattle.std.specs.List.{last_or}
use Rattle.std.specs.Option.{unwrap_or}
use Rattle.st_ids.specs.Listing.{Has}
use Rattle.st_ids.specs.declared.names.Rev.{Rev}
use Rattle.st_marks.specs.Document.{Document, IsSoundInForm, first_of, last_of, revs}
use Rattle.st_ids.specs.Root.{opening}
use Rattle.st_edits.specs.Resolve.{empty_intent}
use Rattle.st_edits.specs.declared.names.NameCounters.{NameCounters}

last_had : (x d : Rev) (xs : List Rev) → Has (x ∷ xs) (unwrap_or (last_or (Some x) xs) d)
last_had x d [] = inl refl
last_had x d (y ∷ xs) = inr (last_had y d xs)

last_there : (d : Rev) (xs : List Rev) (x : Rev) → first_of xs ≡ Some x → Has xs (unwrap_or (last_of xs) d)
last_there d [] x e = cc
last_there d (y ∷ xs) x e = last_had y d xs

pub last_in_effect : (D : Document) (G : NameCounters) → IsSoundInForm D → Has (revs D.schemas) (empty_intent D G).under
last_in_effect D G sound = last_there opening (revs D.schemas) opening sound.in_effect.begun
