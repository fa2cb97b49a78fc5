-- What clap found, and the rows that it is.
use Rattle.std.proofs.Common.{◌≡◌, Bool, true, false, List, [], ◌∷◌, Option, map, option_map, option_and_then, find, slice_get, refl, Bor}
use Rattle.std.specs.Str.{bytes_eq}
use Rattle.clap.specs.Words.{Row, Text, first_of, first_value, rows_of}
use Rattle.clap.specs.declared.parser.matches.Found.{Found}
use Rattle.clap.specs.declared.parser.matches.MatchedArg.{MatchedArg}

abbrev Entry : Type 0
Entry = Bor Text × MatchedArg

abbrev row_of : Entry → Row
row_of e = record {
  id = e.0.now;
  values = map (λ s. s.now) e.1.vals.items;
  count = e.1.count;
  source = e.1.source;
  reading = e.1.reading;
}

first_text : (vs : List (Bor Text)) → option_map (λ s. s.now) (slice_get vs 0) ≡ slice_get (map (λ (s : Bor Text). s.now) vs) 0
first_text [] = refl
first_text (v ∷ vs) = refl

abbrev Value : List Entry → Text → Option Text
Value es id = option_and_then (λ (a : MatchedArg). option_map (λ s. s.now) (slice_get a.vals.items 0)) (option_map (λ (e : Entry). e.1) (find (λ e. bytes_eq e.0.now id) es))

found_by : (e : Entry) (es : List Entry) (id : Text) (t : Bool) → bytes_eq e.0.now id ≡ t
    → Value es id ≡ first_of id (map row_of es) → Value (e ∷ es) id ≡ first_of id (map row_of (e ∷ es))
found_by e es id true t later = rw t (first_text e.1.vals.items)
found_by e es id false t later = rw t later

found : (es : List Entry) (id : Text) → Value es id ≡ first_of id (map row_of es)
found [] id = refl
found (e ∷ es) id = found_by e es id (bytes_eq e.0.now id) refl (found es id)

pub first_found : (f : Found) (id : Text) → first_value f id ≡ first_of id (rows_of f)
first_found f id = found f.entries.items id
