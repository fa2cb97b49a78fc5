-- Texts that are written one after the other, and the ids that they carry.
use Rattle.std.proofs.Common.{◌≡◌, ◌≤◌, ◌+◌, ◌==◌, ℕ, List, [], ◌∷◌, ◌++◌, cond, take, Some, refl, ap, ◌∙◌, arith}
use Rattle.std.specs.List.{slice_get}
use Rattle.std.proofs.lemmas.List.Elements.{filter_map-append}
use Rattle.std.proofs.lemmas.List.Sums.{sum_by-append}
use Rattle.st_clusters.specs.Log.{carried_count}
use Rattle.st_clusters.specs.declared.ids.IdRange.{IdRange}
use Rattle.st_marks.specs.declared.intents.Intent.{Intent}
use Rattle.st_lists.specs.Clients.{ids_from, taken_after, texts_from}
use Rattle.st_lists.specs.Log.{range_of, ranges_in}
use Rattle.st_lists.specs.declared.lists.Body.TheVariants.{Commit}
use Rattle.st_lists.specs.declared.lists.Entry.{Entry}
use Rattle.st_lists.proofs.Logs.{take-get}

-- one more
pub text_written : (n s taken ids : ℕ) (Ns : List Intent) (N : Intent) → texts_from n s taken ids (Ns ++ N ∷ []) ≡ texts_from n s taken ids Ns ++ Commit n (ids_from s (taken_after taken ids Ns) ids) N ∷ []
text_written n s taken ids [] N = refl
text_written n s taken ids (M ∷ Ns) N = ap (λ l. Commit n (ids_from s taken ids) M ∷ l) (text_written n s ids ids Ns N ∙ ap (λ k. texts_from n s ids ids Ns ++ Commit n (ids_from s k ids) N ∷ []) (all_taken ids Ns))
  where
    all_taken : (ids : ℕ) (Ns : List Intent) → taken_after ids ids Ns ≡ ids
    all_taken ids [] = refl
    all_taken ids (N ∷ Ns) = refl

pub taken_all : (taken ids : ℕ) (Ns : List Intent) (N : Intent) → taken_after taken ids (Ns ++ N ∷ []) ≡ ids
taken_all taken ids [] N = refl
taken_all taken ids (M ∷ Ns) N = refl

pub taken_low : (taken ids : ℕ) (Ns : List Intent) → taken ≤ ids → taken_after taken ids Ns ≤ ids
taken_low taken ids [] low = low
taken_low taken ids (N ∷ Ns) low = omega arith

pub carried_append : (s : ℕ) (xs ys : List IdRange) → carried_count s (xs ++ ys) ≡ carried_count s xs + carried_count s ys
carried_append s xs ys = sum_by-append (λ (r : IdRange). cond (r.session == s) r.count 0) xs ys

pub carried_one_more : (s : ℕ) (es : List Entry) (i : ℕ) (e : Entry) → slice_get es i ≡ Some e → carried_count s (ranges_in (take (i + 1) es)) ≡ carried_count s (ranges_in (take i es)) + carried_count s (ranges_in (e ∷ []))
carried_one_more s es i e at =
    ap (λ l. carried_count s (ranges_in l)) (take-get es i e at) ∙ ap (carried_count s) (filter_map-append range_of (take i es) (e ∷ [])) ∙ carried_append s (ranges_in (take i es)) (ranges_in (e ∷ []))
