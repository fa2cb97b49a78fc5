-- The client of a name, where the clients of a load are there.
use Rattle.std.proofs.Common.{◌≡◌, ◌<◌, nat_lt, nat_eq, ℕ, zero, suc, Bool, true, false, cond, List, [], ◌∷◌, length, map, Option, Some, None, option_map, option_and_then, refl, sym, ap, ◌∙◌, arith, codes}
use Rattle.std.specs.List.{AllByRecursion, position, position_or_len, slice_get}
use Rattle.std.specs.Cmp.Lexicographic.{pointwise}
use Rattle.std.proofs.lemmas.List.{length-map}
use Rattle.std.proofs.lemmas.List.Quantifiers.{position-Some}
use Rattle.st_lists.specs.Clients.{client_named, new_client, place_of}
use Rattle.st_lists.specs.declared.lists.Client.{Client}
use Rattle.st_lists.specs.declared.lists.WorldState.{WorldState}
use Rattle.st_load_laws.specs.Load.{load_clients}
use Rattle.st_load_laws.specs.Loaded.{IsLoaded}
use Rattle.st_ids.specs.Listing.{Has}
use Rattle.st_marks.proofs.Members.{all-has}
use Rattle.st_work.specs.Generator.{client_drawn}

abbrev pub is_name : List ℕ → List ℕ → Bool
is_name name n = pointwise nat_eq n name

-- a name is one of these
pub record IsAmong (names : List (List ℕ)) (name : List ℕ) : Type 0 where
  pub place : ℕ
  pub found : position (is_name name) names ≡ Some place

place_map : {X Y : Type 0} (p : Y → Bool) (f : X → Y) (xs : List X) → position_or_len p (map f xs) ≡ position_or_len (λ x. p (f x)) xs
place_map p f [] = refl
place_map p f (x ∷ xs) = let rest = place_map p f xs in rw rest refl

position_map : {X Y : Type 0} (p : Y → Bool) (f : X → Y) (xs : List X) → position p (map f xs) ≡ position (λ x. p (f x)) xs
position_map p f xs =
    let a = place_map p f xs in
    let b = length-map xs f in
    (λ i. cond (nat_lt (a i) (b i)) (Some (a i)) None)

pub place_named : (cs : List Client) (names : List (List ℕ)) (name : List ℕ) → map (λ (c : Client). c.name) cs ≡ names → place_of name cs ≡ position (is_name name) names
place_named cs names name e = sym (position_map (is_name name) (λ (c : Client). c.name) cs) ∙ ap (position (is_name name)) e

pub record IsHere (cs : List Client) (name : List ℕ) : Type 0 where
  pub place : ℕ
  pub client : Client
  pub found : client_named name cs ≡ Some (place, client)
  pub there : slice_get cs place ≡ Some client

past : {X : Type 0} (xs : List X) (i : ℕ) → i < length xs → slice_get xs i ≡ None → ⊥
past [] i h e = absurd (omega (arith, h))
past (x ∷ xs) zero h e = cc
past (x ∷ xs) (suc i) h e = past xs i (omega (arith, h)) e

pub here : (names : List (List ℕ)) (n : ℕ) (w : WorldState) (name : List ℕ) → IsLoaded names n w → IsAmong names name → IsHere w.clients name
here names n w name loaded among = go (slice_get w.clients among.place) refl
  where
    at : place_of name w.clients ≡ Some among.place
    at = place_named w.clients names name loaded.named ∙ among.found

    go : (o : Option Client) → slice_get w.clients among.place ≡ o → IsHere w.clients name
    go None e = absurd (past w.clients among.place (position-Some (λ (c : Client). is_name name c.name) w.clients among.place (new_client 0 0 0 []) at).0 e)
    go (Some c) e = record {
      place = among.place;
      client = c;
      found = ap (option_and_then (λ i. option_map (λ (d : Client). (i, d)) (slice_get w.clients i))) at ∙ ap (option_map (λ (d : Client). (among.place, d))) e;
      there = e;
    }

pub none_here : (cs : List Client) (names : List (List ℕ)) (name : List ℕ) → map (λ (c : Client). c.name) cs ≡ names → position (is_name name) names ≡ None → client_named name cs ≡ None
none_here cs names name e none = ap (option_and_then (λ i. option_map (λ (d : Client). (i, d)) (slice_get cs i))) (place_named cs names name e ∙ none)

-- each client that is drawn is there
pub drawn_among : (k : ℕ) → IsAmong load_clients (client_drawn k)
drawn_among k = go (nat_eq k 0) (nat_eq k 1) (nat_eq k 2)
  where
    go : (a b c : Bool) → IsAmong load_clients (cond a (codes "A") (cond b (codes "B") (cond c (codes "C") (codes "D"))))
    go true b c = record { place = 0; found = refl }
    go false true c = record { place = 1; found = refl }
    go false false true = record { place = 2; found = refl }
    go false false false = record { place = 3; found = refl }

pub all_among : AllByRecursion (IsAmong load_clients) load_clients
all_among = (record { place = 0; found = refl }, (record { place = 1; found = refl }, (record { place = 2; found = refl }, (record { place = 3; found = refl }, tt))))

pub has_among : (name : List ℕ) → Has load_clients name → IsAmong load_clients name
has_among name h = all-has (IsAmong load_clients) load_clients name all_among h
