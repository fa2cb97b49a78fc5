-- Which sessions have joined and may join, by the table of a ledger.
use Rattle.std.proofs.Common.{◌≡◌, ◌+◌, ◌==◌, ◌&&◌, ◌||◌, ℕ, Bool, true, false, not, is_some, cond, List, [], ◌∷◌, length, Option, Some, None, option_map, refl, ap, ◌∙◌}
use Rattle.std.specs.List.{list_any, position, position_from}
use Rattle.std.proofs.lemmas.Iterator.Adapters.{position_from-zero}
use Rattle.std.specs.Option.{option_map_or}
use Rattle.st_clusters.specs.Free.{is_v4}
use Rattle.st_clusters.specs.Ids.{ids_of}
use Rattle.st_clusters.specs.Table.{clash, session_meeting, session_of}
use Rattle.st_clusters.specs.declared.ids.SessionIds.{SessionIds}
use Rattle.st_lists.specs.Log.{sessions_in}
use Rattle.st_lists.specs.declared.lists.Entry.{Entry}
use Rattle.st_valid.specs.Sessions.{has_joined, is_new_session}
use Rattle.st_ledger.specs.Stands.{StandsFor, meets_span}
use Rattle.st_ledger.specs.declared.ledger.Ledger.{Ledger}

pub joined_of_ledger : (l : Ledger) (s u : ℕ) (log : List Entry) → StandsFor l log → option_map_or (λ (x : ℕ). x == u) (option_map (λ (x : SessionIds). x.uuid) (session_of (ids_of l.ids).sessions s)) false ≡ has_joined s u log
joined_of_ledger l s u log stands = mapped (session_of (ids_of l.ids).sessions s) ∙ stands.sessions.uuids s u
  where
    mapped : (o : Option SessionIds) → option_map_or (λ (x : ℕ). x == u) (option_map (λ (x : SessionIds). x.uuid) o) false ≡ option_map_or (λ (x : SessionIds). x.uuid == u) o false
    mapped None = refl
    mapped (Some x) = refl

-- there is a first one that passes exactly where any does
found_from : {A : Type 0} (p : A → Bool) (k : ℕ) (xs : List A) → is_some (position_from p k xs) ≡ list_any p xs
found_from p k [] = refl
found_from p k (x ∷ xs) = go (p x) (found_from p (k + 1) xs)
  where
    go : (b : Bool) → is_some (position_from p (k + 1) xs) ≡ list_any p xs → is_some (cond b (Some k) (position_from p (k + 1) xs)) ≡ (b || list_any p xs)
    go true h = refl
    go false h = h

found : {A : Type 0} (p : A → Bool) (xs : List A) → is_some (position p xs) ≡ list_any p xs
found p xs = ap is_some (position_from-zero p xs) ∙ found_from p 0 xs

pub new_of_ledger : (l : Ledger) (s u : ℕ) (log : List Entry) → StandsFor l log
    → (s == length (ids_of l.ids).sessions + 1 && (is_v4 u && not (is_some (clash u (ids_of l.ids).sessions)))) ≡ is_new_session s u log
new_of_ledger l s u log stands =
    ap (λ n. s == n + 1 && (is_v4 u && not (is_some (clash u (ids_of l.ids).sessions)))) stands.sessions.count
    ∙ ap (λ b. s == sessions_in log + 1 && (is_v4 u && not b)) (mapped (session_meeting u (ids_of l.ids).sessions) ∙ found (meets_span u) (ids_of l.ids).sessions ∙ stands.sessions.spans u)
  where
    mapped : (o : Option ℕ) → is_some (option_map (λ i. i + 1) o) ≡ is_some o
    mapped None = refl
    mapped (Some i) = refl
