-- The ranges of entries, one entry more.
use Rattle.std.proofs.Common.{◌≡◌, ◌∙◌, ◌+◌, ◌<◌, ℕ, List, [], ◌∷◌, ◌++◌, length, take, get_or, sym, ap}
use Rattle.st_clusters.specs.declared.ids.IdRange.{IdRange}
use Rattle.st_lemmas.proofs.FirstItems.{take_one}
use Rattle.st_lemmas.proofs.Lists.{filter_map-append}
use Rattle.st_lists.specs.Log.{range_of, ranges_in}
use Rattle.st_lists.specs.declared.lists.Entry.{Entry}

pub ranges_more : (before after : List IdRange) (es : List Entry) (i : ℕ) (d e : Entry) → i < length es → get_or es i d ≡ e
    → before ≡ ranges_in (take i es) → after ≡ before ++ ranges_in (e ∷ []) → after ≡ ranges_in (take (i + 1) es)
ranges_more before after es i d e within at was now =
    now ∙ ap (λ rs. rs ++ ranges_in (e ∷ [])) was ∙ sym (filter_map-append range_of (take i es) (e ∷ [])) ∙ ap ranges_in (sym (take_one es i d e within at))
