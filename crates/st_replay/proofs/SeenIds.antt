-- The ids that the author of a message saw: those of the whole table without the ranges behind its reference.
use Rattle.std.proofs.Common.{◌≡◌, ◌∙◌, refl, sym, ap, subst, ℕ, ℤ, pos, negsuc, ◌-◌, inl, inr, List, [], ◌++◌, take, drop, Option, None, Some, arith}
use Rattle.std.proofs.lemmas.List.{take-append-drop}
use Rattle.st_ids.specs.declared.names.Rev.{Rev}
use Rattle.st_lemmas.proofs.Lists.{filter_map-append}
use Rattle.st_clusters.specs.Log.{AreInTurn}
use Rattle.st_clusters.specs.Names.{IsFinal, IsFinalBefore, IsOp}
use Rattle.st_clusters.specs.Table.{table_of}
use Rattle.st_clusters.specs.declared.ids.Cluster.{Cluster}
use Rattle.st_clusters.specs.declared.ids.IdRange.{IdRange}
use Rattle.st_clusters.proofs.Logs.{front_in_turn, law_as_it_was, law_one_id}
use Rattle.st_clusters.proofs.Unique.{rev_is}
use Rattle.st_mark_reader.specs.OpSpace.{op_id_in}
use Rattle.st_lists.specs.Log.{range_of, ranges_in}
use Rattle.st_lists.specs.declared.lists.Entry.{Entry}
use Rattle.st_replay.proofs.OpIds.{id_none, id_some}

-- ## One id

pub before_is_final : (cs : List Cluster) (r : Rev) (n : ℕ) → IsFinalBefore cs [] r n → IsFinal cs r n
before_is_final cs r n (inl h) = inl h
before_is_final cs r n (inr h) = inr h.0

pub final_is_before : (cs : List Cluster) (r : Rev) (n : ℕ) → IsFinal cs r n → IsFinalBefore cs [] r n
final_is_before cs r n (inl h) = inl h
final_is_before cs r n (inr h) = inr (h, refl)

same_pos : (z : ℤ) (m n : ℕ) → z ≡ pos m → z ≡ pos n → m ≡ n
same_pos z m n a b = cc (a, b)

apart_signs : (z : ℤ) (m n : ℕ) → z ≡ pos m → z ≡ negsuc n → ⊥
apart_signs z m n a b = cc (a, b)

same_neg : (z : ℤ) (m n : ℕ) → z ≡ negsuc m → z ≡ negsuc n → m ≡ n
same_neg z m n a b = cc (a, b)

one_id : (rs : List IdRange) (own have : ℕ) (r s : Rev) (z : ℤ) → AreInTurn rs → IsOp (table_of rs) [] own have r z → IsOp (table_of rs) [] own have s z → r ≡ s
one_id rs own have r s z turn (inl h) (inl k) =
    law_one_id rs turn r s k.0 (subst (λ (n : ℕ). IsFinal (table_of rs) r n) (same_pos z h.0 k.0 h.2 k.2) (before_is_final (table_of rs) r h.0 h.1)) (before_is_final (table_of rs) s k.0 k.1)
one_id rs own have r s z turn (inl h) (inr k) = absurd (apart_signs z h.0 (s.num - 1) h.2 k.2)
one_id rs own have r s z turn (inr h) (inl k) = absurd (apart_signs z k.0 (r.num - 1) k.2 h.2)
one_id rs own have r s z turn (inr h) (inr k) =
    let e : r.num - 1 ≡ s.num - 1 = same_neg z (r.num - 1) (s.num - 1) h.2 k.2 in
    rev_is r s (h.1.0 ∙ sym k.1.0) (omega (arith, e, h.1.1, k.1.1))

-- ## The table as it was

module _ (rs later : List IdRange) (own have : ℕ) (turn : AreInTurn (rs ++ later)) where
  was : (r : Rev) (z : ℤ) → IsOp (table_of (rs ++ later)) later own have r z → IsOp (table_of rs) [] own have r z
  was r z (inl h) = inl (h.0, final_is_before (table_of rs) r h.0 ((law_as_it_was rs later turn r h.0).1 h.1), h.2)
  was r z (inr h) = inr (λ n f. h.0 n ((law_as_it_was rs later turn r n).0 (before_is_final (table_of rs) r n f)), h.1, h.2)

  is_now : (r : Rev) (z : ℤ) → IsOp (table_of rs) [] own have r z → IsOp (table_of (rs ++ later)) later own have r z
  is_now r z (inl h) = inl (h.0, (law_as_it_was rs later turn r h.0).0 (before_is_final (table_of rs) r h.0 h.1), h.2)
  is_now r z (inr h) = inr (λ n f. h.0 n (final_is_before (table_of rs) r n ((law_as_it_was rs later turn r n).1 f)), h.1, h.2)

  pub id_then : (z : ℤ) → op_id_in (table_of (rs ++ later)) later own have z ≡ op_id_in (table_of rs) [] own have z
  id_then z = go (op_id_in (table_of (rs ++ later)) later own have z) (op_id_in (table_of rs) [] own have z) refl refl
    where
      go : (a b : Option Rev) → op_id_in (table_of (rs ++ later)) later own have z ≡ a → op_id_in (table_of rs) [] own have z ≡ b → a ≡ b
      go None None e f = refl
      go None (Some s) e f = absurd (id_none (table_of (rs ++ later)) later own have z e s (is_now s z (id_some (table_of rs) [] own have z s f)))
      go (Some r) None e f = absurd (id_none (table_of rs) [] own have z f r (was r z (id_some (table_of (rs ++ later)) later own have z r e)))
      go (Some r) (Some s) e f = ap Some (one_id rs own have r s z (front_in_turn [] rs later turn).0 (was r z (id_some (table_of (rs ++ later)) later own have z r e)) (id_some (table_of rs) [] own have z s f))

-- ## Beside a log

pub parts : (log : List Entry) (reference : ℕ) → ranges_in log ≡ ranges_in (take reference log) ++ ranges_in (drop reference log)
parts log reference = ap ranges_in (sym (take-append-drop reference log)) ∙ filter_map-append range_of (take reference log) (drop reference log)

pub front_turn : (log : List Entry) (reference : ℕ) → AreInTurn (ranges_in log) → AreInTurn (ranges_in (take reference log))
front_turn log reference turn = (front_in_turn [] (ranges_in (take reference log)) (ranges_in (drop reference log)) (subst AreInTurn (parts log reference) turn)).0
