-- Which ids have a number for the author of a message.
use Rattle.std.proofs.Common.{◌≡◌, ◌≤◌, ◌<◌, ◌-◌, ap, ℕ, ℤ, pos, negsuc, nat_le, Bool, true, false, List, take, refl, inl, inr, arith}
use Rattle.std.proofs.lemmas.Bool.Decides.{nat_tests}
use Rattle.st_ids.specs.declared.names.Rev.{Rev}
use Rattle.st_clusters.specs.Log.{AreInTurn, carried_count}
use Rattle.st_clusters.specs.Names.{IsFinal, IsOwn}
use Rattle.st_clusters.specs.Table.{table_of}
use Rattle.st_clusters.specs.declared.ids.IdRange.{IdRange}
use Rattle.st_clusters.proofs.Covering.{law_covered, law_only}
use Rattle.st_lists.specs.Log.{ranges_in}
use Rattle.st_lists.specs.declared.lists.Entry.{Entry}
use Rattle.st_valid.specs.Author.{IsSeenBy, generated_with}
use Rattle.st_replay.specs.Numbers.{IsSeen}
use Rattle.st_replay.proofs.SeenIds.{before_is_final, final_is_before, front_turn}

module _ (log : List Entry) (session reference : ℕ) (ids : IdRange) (turn : AreInTurn (ranges_in log)) (r : Rev) where
  abbrev rs : List IdRange
  rs = ranges_in (take reference log)

  abbrev HasFinal : Type 0
  HasFinal = (n : ℕ) × IsFinal (table_of rs) r n

  final_seen : HasFinal → (z : ℤ) × IsSeenBy log session reference ids r z
  final_seen h = (pos h.0, inl (h.0, final_is_before (table_of rs) r h.0 h.1, refl))

  own_seen : IsOwn session (generated_with ids) r → (z : ℤ) × IsSeenBy log session reference ids r z
  own_seen own = go (nat_le r.num (carried_count r.session rs)) refl
    where
      no_final : carried_count r.session rs < r.num → (n : ℕ) → IsFinal (table_of rs) r n → ⊥
      no_final above n f = elim (law_only rs (front_turn log reference turn) r n f) [
        | inl q ↦ let zero_is : r.num ≡ 0 = ap (λ (s : Rev). s.num) q in omega (arith, zero_is, own.1)
        | inr q ↦ omega (arith, above, q.1)
      ]

      go : (b : Bool) → nat_le r.num (carried_count r.session rs) ≡ b → (z : ℤ) × IsSeenBy log session reference ids r z
      go true e = let low : r.num ≤ carried_count r.session rs = grind (arith, nat_tests) in final_seen (law_covered rs (front_turn log reference turn) r own.1 low)
      go false e =
          let above : carried_count r.session rs < r.num = grind (arith, nat_tests) in
          (negsuc (r.num - 1), inr (λ n f. no_final above n (before_is_final (table_of rs) r n f), own, refl))

  pub has_number : IsSeen log session reference ids r → (z : ℤ) × IsSeenBy log session reference ids r z
  has_number (inl q) = final_seen (0, inl (q, refl))
  has_number (inr (inl h)) = final_seen (law_covered rs (front_turn log reference turn) r h.0 h.1)
  has_number (inr (inr own)) = own_seen own

  pub number_seen : (z : ℤ) → IsSeenBy log session reference ids r z → IsSeen log session reference ids r
  number_seen z (inl h) = elim (law_only rs (front_turn log reference turn) r h.0 (before_is_final (table_of rs) r h.0 h.1)) [
    | inl q ↦ inl q
    | inr q ↦ inr (inl q)
  ]
  number_seen z (inr h) = inr (inr h.1)
