-- The words that are commands: one word, or `work` and two options in either order, each `--name value` or
-- `--name=value`.
use Rattle.std.specs.Prelude.{ℕ, ◌&&◌, nat_le, nat_lt, List, [], ◌∷◌, length, take, drop, Option, Some, None, option_map, option_and_then, Bool, if◌then◌else◌, codes}
use Rattle.std.specs.Option.{option_or}
use Rattle.std.specs.Char.{is_ascii_digit}
use Rattle.std.specs.List.{list_all}
use Rattle.std.specs.Str.{bytes_eq}
use Rattle.std.specs.Str.Parse.{digits_value}
use Rattle.st_words.specs.declared.request.Request.{Request}
use Rattle.st_words.specs.declared.request.Request.TheVariants.{Trace, Replay, Algebra, Compat, Work}

abbrev pub Words : Type 0
Words = List (List ℕ)

-- ## Numbers

-- a number is 1 to 20 digits
abbrev pub is_number : List ℕ → Bool
is_number text = nat_lt 0 (length text) && (nat_le (length text) 20 && list_all is_ascii_digit text)

abbrev pub number_in : ℕ → List ℕ → Option ℕ
number_in most text =
    if is_number text && nat_le (digits_value 10 text) most then Some (digits_value 10 text)
    else None

-- ## Options

-- what follows a prefix of a word
abbrev pub after_prefix : List ℕ → List ℕ → Option (List ℕ)
after_prefix prefix w =
    if bytes_eq (take (length prefix) w) prefix then Some (drop (length prefix) w) else None

abbrev pub first_and_rest : Words → Option (List ℕ × Words)
first_and_rest [] = None
first_and_rest (w ∷ ws) = Some (w, ws)

-- the value of an option with which some words begin, and the words after it; `tied` is the name with
-- its `=`
abbrev pub option_in : List ℕ → List ℕ → Words → Option (List ℕ × Words)
option_in name tied [] = None
option_in name tied (w ∷ ws) =
    if bytes_eq w name then first_and_rest ws else option_map (λ v. (v, ws)) (after_prefix tied w)

abbrev pub alone : List ℕ × Words → Option (List ℕ)
alone (v, []) = Some v
alone (v, w ∷ ws) = None

-- the value of an option that is all of some words
abbrev pub only_option : List ℕ → List ℕ → Words → Option (List ℕ)
only_option name tied ws = option_and_then alone (option_in name tied ws)

-- the values of two options, the words being these in this order and no others
abbrev pub both_in : List ℕ → List ℕ → List ℕ → List ℕ → Words → Option (List ℕ × List ℕ)
both_in a tied_a b tied_b ws =
    option_and_then (λ p. option_map (λ v. (p.0, v)) (only_option b tied_b p.1))
    (option_in a tied_a ws)

abbrev pub swapped : List ℕ × List ℕ → List ℕ × List ℕ
swapped p = (p.1, p.0)

-- the seed and the count of steps, in either order
abbrev pub values_in : Words → Option (List ℕ × List ℕ)
values_in ws = option_or
    (both_in (codes "--seed") (codes "--seed=") (codes "--steps") (codes "--steps=") ws)
    (option_map swapped
    (both_in (codes "--steps") (codes "--steps=") (codes "--seed") (codes "--seed=") ws))

-- ## Commands

abbrev pub max_seed : ℕ
max_seed = 18446744073709551615

abbrev pub max_steps : ℕ
max_steps = 50000

abbrev pub work_of : List ℕ → List ℕ → Option Request
work_of seed steps =
    option_and_then (λ s. option_map (λ m. Work s m) (number_in max_steps steps))
    (number_in max_seed seed)

abbrev pub work_in : Words → Option Request
work_in ws = option_and_then (λ p. work_of p.0 p.1) (values_in ws)

abbrev pub named : List ℕ → Option Request
named w =
    if bytes_eq w (codes "trace") then Some Trace else
    if bytes_eq w (codes "replay") then Some Replay else
    if bytes_eq w (codes "algebra") then Some Algebra else
    if bytes_eq w (codes "compat") then Some Compat else None

-- one word
abbrev pub named_alone : List ℕ → Words → Option Request
named_alone w [] = named w
named_alone w (v ∷ ws) = None

-- the command that the words are
abbrev pub request_in : Words → Option Request
request_in [] = None
request_in (w ∷ ws) = if bytes_eq w (codes "work") then work_in ws else named_alone w ws
