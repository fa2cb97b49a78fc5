-- What the words ask for.
use Rattle.std.proofs.Common.{◌≡◌, nat_le, ◌&&◌, ℕ, Bool, true, false, cond, List, [], ◌∷◌, Option, Some, None, option_map, option_and_then, codes, refl, inl, arith}
use Rattle.std.specs.Str.{bytes_eq}
use Rattle.std.specs.Str.Parse.{digits_value}
use Rattle.std.proofs.lemmas.Bool.Decides.{nat_tests}
use Rattle.st_words.specs.Table.{is_number, max_seed, max_steps, named_alone, number_in, request_in, values_in, work_in, work_of}
use Rattle.st_words.specs.declared.request.Request.{Request}
use Rattle.st_words.specs.declared.request.Request.TheVariants.{Trace, Replay, Algebra, Compat, Work}
use Rattle.st_answers.specs.Endings.{cut_short}
use Rattle.st_answers.specs.Run.{IsAnsweredTo}
use Rattle.st_answers.specs.declared.command.Command.TheVariants as command
use Rattle.st_answers.specs.declared.outcome.Outcome.TheVariants.{NoMemory}
use Rattle.st_run.specs.inside.Working.{IsShortWork}
use Rattle.st_run.proofs.Carrying.{nothing_added, nothing_answered}

short_number : (text : List ℕ) (s : ℕ) → IsShortWork (option_map (λ (m : ℕ). Work s m) (number_in max_steps text))
short_number text s = go (is_number text) (nat_le (digits_value 10 text) max_steps) refl
  where
    go : (a b : Bool) → nat_le (digits_value 10 text) max_steps ≡ b → IsShortWork (option_map (λ (m : ℕ). Work s m) (cond (a && b) (Some (digits_value 10 text)) None))
    go true true e = grind (arith, nat_tests, e)
    go true false e = tt
    go false b e = tt

short_work : (seed steps : List ℕ) → IsShortWork (work_of seed steps)
short_work seed steps = go (number_in max_seed seed)
  where
    go : (o : Option ℕ) → IsShortWork (option_and_then (λ (s : ℕ). option_map (λ (m : ℕ). Work s m) (number_in max_steps steps)) o)
    go None = tt
    go (Some s) = short_number steps s

short_work_in : (ws : List (List ℕ)) → IsShortWork (work_in ws)
short_work_in ws = go (values_in ws)
  where
    go : (o : Option (List ℕ × List ℕ)) → IsShortWork (option_and_then (λ (p : List ℕ × List ℕ). work_of p.0 p.1) o)
    go None = tt
    go (Some p) = short_work p.0 p.1

short_named : (w : List ℕ) (ws : List (List ℕ)) → IsShortWork (named_alone w ws)
short_named w (v ∷ ws) = tt
short_named w [] = go (bytes_eq w (codes "trace")) (bytes_eq w (codes "replay")) (bytes_eq w (codes "algebra")) (bytes_eq w (codes "compat"))
  where
    go : (a b c d : Bool) → IsShortWork (cond a (Some Trace) (cond b (Some Replay) (cond c (Some Algebra) (cond d (Some Compat) None))))
    go true b c d = tt
    go false true c d = tt
    go false false true d = tt
    go false false false true = tt
    go false false false false = tt

-- a load that words ask for has at most so many steps
pub short_request : (words : List (List ℕ)) → IsShortWork (request_in words)
short_request [] = tt
short_request (w ∷ ws) = go (bytes_eq w (codes "work"))
  where
    go : (b : Bool) → IsShortWork (cond b (work_in ws) (named_alone w ws))
    go true = short_work_in ws
    go false = short_named w ws

-- where memory ran out at once nothing is told
pub nothing_told : (request : Option Request) (left old : Option (List ℕ)) → IsAnsweredTo request left left old old NoMemory
nothing_told None left old = nothing_answered None left old
nothing_told (Some Trace) left old = nothing_answered (Some command.Trace) left old
nothing_told (Some Replay) left old = nothing_answered (Some command.Replay) left old
nothing_told (Some Algebra) left old = nothing_answered (Some command.Algebra) left old
nothing_told (Some Compat) left old = nothing_answered (Some command.Compat) left old
nothing_told (Some (Work seed steps)) left old = (refl, (cut_short, inl refl, (0, nothing_added old)))
