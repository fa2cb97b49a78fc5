-- The names that an author knows have numbers, of which they are read again.
use Rattle.std.proofs.Common.{◌≡◌, ◌∙◌, ◌<◌, ◌≤◌, ◌+◌, ◌^◌, ℕ, List, take, drop, Option, None, Some, refl, sym, ap, subst, inl, inr, arith}
use Rattle.std.proofs.lemmas.List.{take-append-drop}
use Rattle.st_ids.specs.Root.{opening}
use Rattle.st_ids.specs.declared.names.Rev.{Rev}
use Rattle.st_lemmas.proofs.Lists.{filter_map-append}
use Rattle.st_clusters.specs.Log.{carried_count}
use Rattle.st_clusters.specs.Names.{IsFinal, IsOwn}
use Rattle.st_clusters.specs.Table.{table_of}
use Rattle.st_clusters.specs.declared.ids.IdRange.{IdRange}
use Rattle.st_clusters.proofs.Covering.{law_covered}
use Rattle.st_clusters.proofs.Logs.{log_made}
use Rattle.st_lists.specs.Log.{range_of, ranges_in}
use Rattle.st_lists.specs.declared.lists.Entry.{Entry}
use Rattle.st_mark_reader.specs.OpSpace.{number_of}
use Rattle.st_texts.specs.Names.{IsKnownAt}
use Rattle.st_valid.specs.Author.{generated_with}
use Rattle.st_seen_laws.specs.Told.{HaveFewIds, IsNameKnown, IsReadBack}
use Rattle.st_seen_laws.proofs.Bounds.{few_front, number_short}
use Rattle.st_seen_laws.proofs.IdsOfNumbers.{IsNumbered, final_numbered, number_none, number_some, opening_numbered, own_numbered}

-- ## By a table

module _ (rs : List IdRange) (few : HaveFewIds rs) (own have : ℕ) (low : have < 2 ^ 63) (r : Rev) (some : 1 ≤ r.num) where
  not_final : number_of r (table_of rs) ≡ None → (n : ℕ) → IsFinal (table_of rs) r n → ⊥
  not_final e n (inl h) = let zero_is : r.num ≡ 0 = ap (λ (s : Rev). s.num) h.0 in omega (arith, zero_is, some)
  not_final e n (inr h) = number_none r (table_of rs) e n h

  final : (n : ℕ) → number_of r (table_of rs) ≡ Some n → IsNumbered (table_of rs) own have r
  final n e = final_numbered (table_of rs) own have r some (log_made rs few.turn).apart n (number_short rs few r n (number_some r (table_of rs) n e)) e

  pub carried_numbered : r.num ≤ carried_count r.session rs → IsNumbered (table_of rs) own have r
  carried_numbered carried = go (number_of r (table_of rs)) refl
    where
      go : (o : Option ℕ) → number_of r (table_of rs) ≡ o → IsNumbered (table_of rs) own have r
      go None e = let h = law_covered rs few.turn r some carried in absurd (not_final e h.0 h.1)
      go (Some n) e = final n e

  pub generated_numbered : IsOwn own have r → IsNumbered (table_of rs) own have r
  generated_numbered is = go (number_of r (table_of rs)) refl
    where
      go : (o : Option ℕ) → number_of r (table_of rs) ≡ o → IsNumbered (table_of rs) own have r
      go None e = own_numbered (table_of rs) own have r some low is e
      go (Some n) e = final n e

-- ## Beside a log

few_taken : (log : List Entry) (reference : ℕ) → HaveFewIds (ranges_in log) → HaveFewIds (ranges_in (take reference log))
few_taken log reference few =
    few_front (ranges_in (take reference log)) (ranges_in (drop reference log))
    (subst HaveFewIds (ap ranges_in (sym (take-append-drop reference log)) ∙ filter_map-append range_of (take reference log) (drop reference log)) few)

-- the author has generated each id up to the last that its text carries
generated : (ids : IdRange) (n : ℕ) → ids.first + ids.count ≤ 2 ^ 32 → n < ids.first + ids.count → n ≤ generated_with ids
generated ids n within less = omega (arith, within, less)

few_generated : (ids : IdRange) → generated_with ids < 2 ^ 63
few_generated ids = omega arith

module _ (log : List Entry) (session reference : ℕ) (ids : IdRange) (few : HaveFewIds (ranges_in log)) (within : ids.first + ids.count ≤ 2 ^ 32) where
  as_seen : (r : Rev) → IsNumbered (table_of (ranges_in (take reference log))) session (generated_with ids) r → IsReadBack log session reference ids r
  as_seen r h = record { number = h.number; told = h.told; short = h.short; read = h.read }

  pub name_read_back : (r : Rev) → IsNameKnown log session reference ids r → IsReadBack log session reference ids r
  name_read_back r (inl is) = subst (IsReadBack log session reference ids) (sym is) (as_seen opening (opening_numbered (table_of (ranges_in (take reference log))) session (generated_with ids)))
  name_read_back r (inr h) = as_seen r (go h.1)
    where
      go : IsKnownAt log session reference ids r → IsNumbered (table_of (ranges_in (take reference log))) session (generated_with ids) r
      go (inl carried) = carried_numbered (ranges_in (take reference log)) (few_taken log reference few) session (generated_with ids) (few_generated ids) r h.0 carried
      go (inr own) = generated_numbered (ranges_in (take reference log)) (few_taken log reference few) session (generated_with ids) (few_generated ids) r h.0 (own.0, h.0, generated ids r.num within own.1)
