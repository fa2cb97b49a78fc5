-- How many names and cells lists of commits make.
use Rattle.std.proofs.Common.{◌≡◌, ◌≤◌, ◌+◌, ℕ, List, [], ◌∷◌, ◌++◌, drop, take, Option, Some, None, refl, sym, ap, ◌∙◌, arith}
use Rattle.std.proofs.lemmas.List.{take-append-drop}
use Rattle.std.specs.Prelude.{min, ◌-◌, ◌^◌}
use Rattle.std.specs.List.{cons_option, slice_get}
use Rattle.std.specs.Option.{option_map_or}
use Rattle.st_marks.specs.declared.intents.Intent.{Intent}
use Rattle.st_marks.specs.Extends.{no_more, item_gained, item_kept}
use Rattle.st_log_laws.specs.Turns.{IsSublist, cells_made}
use Rattle.st_lists.specs.Log.{commit_in, commits_of_text}
use Rattle.st_lists.specs.Names.{names_in_text, names_made, names_in}
use Rattle.st_lists.specs.declared.lists.Body.{Body}
use Rattle.st_lists.proofs.Logs.{take-get}

pub names_append : (As Bs : List Intent) → names_in (As ++ Bs) ≡ names_in As + names_in Bs
names_append [] Bs = omega arith
names_append (N ∷ As) Bs = omega (arith, names_append As Bs)

pub cells_few : (Ns : List Intent) → cells_made Ns ≤ names_in Ns
cells_few [] = omega arith
cells_few (N ∷ Ns) = omega (arith, cells_few Ns)

pub fewer_names : {As Bs : List Intent} → IsSublist As Bs → names_in As ≤ names_in Bs
fewer_names no_more = omega arith
fewer_names (item_gained g) = omega (arith, fewer_names g)
fewer_names (item_kept {x} {y} e g) = omega (arith, fewer_names g, ap names_made e)

pub names_of_text : (text : Body) → names_in (commits_of_text text) ≡ names_in_text text
names_of_text text = go (commit_in text)
  where
    go : (o : Option Intent) → names_in (cons_option o []) ≡ option_map_or names_made o 0
    go None = refl
    go (Some N) = omega arith

-- one more of a list
pub names_taken : (Ns : List Intent) (i : ℕ) (N : Intent) → slice_get Ns i ≡ Some N → names_in (take (i + 1) Ns) ≡ names_in (take i Ns) + names_made N
names_taken Ns i N at = ap names_in (take-get Ns i N at) ∙ names_append (take i Ns) (N ∷ []) ∙ omega arith

-- the names of the first commits, and those of the rest
pub names_split : (n : ℕ) (Ns : List Intent) → names_in (take n Ns) + names_in (drop n Ns) ≡ names_in Ns
names_split n Ns = sym (names_append (take n Ns) (drop n Ns)) ∙ ap names_in (take-append-drop n Ns)

pub names_first : (n made : ℕ) (Ns : List Intent) → names_in Ns ≤ 16384 → made ≡ min (names_in (take n Ns)) (2 ^ 64 - 1) → made + names_in (drop n Ns) ≡ names_in Ns
names_first n made Ns few is = omega (arith, names_split n Ns, few, is)
