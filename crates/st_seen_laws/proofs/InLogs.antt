-- The ids that a text of a log carries.
use Rattle.std.proofs.Common.{◌≡◌, ◌∙◌, ◌≤◌, ◌+◌, ◌^◌, ℕ, List, [], ◌∷◌, ◌++◌, take, drop, Some, refl, sym, ap, subst, arith}
use Rattle.std.specs.List.{cons_option, slice_get}
use Rattle.std.proofs.lemmas.List.{take-append-drop}
use Rattle.st_lemmas.proofs.Lists.{filter_map-append}
use Rattle.st_clusters.specs.Log.{GoOn}
use Rattle.st_clusters.specs.declared.ids.IdRange.{IdRange}
use Rattle.st_clusters.proofs.Logs.{carried_own, front_in_turn}
use Rattle.st_lists.specs.Log.{range_in, range_of, ranges_in}
use Rattle.st_lists.specs.declared.lists.Body.{Body}
use Rattle.st_lists.specs.declared.lists.Body.TheVariants.{Commit}
use Rattle.st_lists.specs.declared.lists.Entry.{Entry}
use Rattle.st_lists.proofs.Logs.{take-get}
use Rattle.st_marks.specs.declared.intents.Intent.{Intent}
use Rattle.st_seen_laws.specs.Told.{HaveFewIds}
use Rattle.st_seen_laws.proofs.Bounds.{few_front}

-- a range among few is of low ids
low_range : (before later : List IdRange) (r : IdRange) → HaveFewIds ((before ++ r ∷ []) ++ later) → r.first + r.count ≤ 2 ^ 32
low_range before later r few =
    let front : HaveFewIds (before ++ r ∷ []) = few_front (before ++ r ∷ []) later few in
    let on : GoOn before (r ∷ []) = (front_in_turn [] before (r ∷ []) front.turn).1 in
    omega (arith, on.1, carried_own r.session before r refl, front.ids r.session)

module _ (log : List Entry) (i : ℕ) (e : Entry) (reference : ℕ) (ids : IdRange) (N : Intent) (at : slice_get log i ≡ Some e) (is : e.body ≡ Commit reference ids N) where
  up_to : ranges_in (take (i + 1) log) ≡ ranges_in (take i log) ++ ids ∷ []
  up_to = ap ranges_in (take-get log i e at) ∙ filter_map-append range_of (take i log) (e ∷ []) ∙ ap (λ (b : Body). ranges_in (take i log) ++ cons_option (range_in b) []) is

  whole : ranges_in log ≡ (ranges_in (take i log) ++ ids ∷ []) ++ ranges_in (drop (i + 1) log)
  whole = ap ranges_in (sym (take-append-drop (i + 1) log)) ∙ filter_map-append range_of (take (i + 1) log) (drop (i + 1) log) ∙ ap (λ rs. rs ++ ranges_in (drop (i + 1) log)) up_to

  pub text_few : HaveFewIds (ranges_in log) → HaveFewIds (ranges_in (take i log)) × (ids.first + ids.count ≤ 2 ^ 32)
  text_few few =
      let all = subst HaveFewIds whole few in
      let later : List IdRange = ranges_in (drop (i + 1) log) in
      (few_front (ranges_in (take i log)) (ids ∷ []) (few_front (ranges_in (take i log) ++ ids ∷ []) later all), low_range (ranges_in (take i log)) later ids all)
