-- The forms of the table, before the numbers are read, and what is read of words that clap took.
use Rattle.std.specs.Prelude.{ℕ, ◌&&◌, List, [], ◌∷◌, Option, Some, None, option_and_then, Bool, false, if◌then◌else◌, codes, is_some}
use Rattle.std.specs.Str.{bytes_eq}
use Rattle.clap.specs.Words.{Row, Text, first_of}
use Rattle.st_words.specs.Table.{Words, is_number, named, named_alone, values_in, work_of}
use Rattle.st_words.specs.declared.request.Request.{Request}

abbrev pub are_numbers : Option (List ℕ × List ℕ) → Bool
are_numbers None = false
are_numbers (Some p) = is_number p.0 && is_number p.1

-- the words have the form of a command
abbrev pub is_form : Words → Bool
is_form [] = false
is_form (w ∷ ws) =
    if bytes_eq w (codes "work") then are_numbers (values_in ws) else is_some (named_alone w ws)

-- the numbers of a command's options
abbrev pub work_read : List Row → Option Request
work_read rows =
    option_and_then (λ s. option_and_then (λ t. work_of s t) (first_of (codes "steps") rows))
    (first_of (codes "seed") rows)

abbrev pub command_read : Text × List Row → Option Request
command_read p = if bytes_eq p.0 (codes "work") then work_read p.1 else named p.0

abbrev pub request_read : Option (Text × List Row) → Option Request
request_read rows = option_and_then command_read rows
