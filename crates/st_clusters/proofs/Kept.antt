-- What a range of the log keeps.
use Rattle.std.proofs.Common.{◌≡◌, ◌≢◌, ◌<◌, ◌≤◌, ◌+◌, ◌-◌, ◌*◌, ℕ, false, List, [], ◌∷◌, ◌++◌, length, set, refl, sym, subst, ◌∙◌, arith, length-set}
use Rattle.std.proofs.lemmas.Bool.Decides.{nat_tests}
use Rattle.std.proofs.lemmas.List.{append-nil}
use Rattle.std.specs.Prelude.{◌==◌}
use Rattle.st_clusters.specs.Table.{at, room, next_free, new_cluster, with_more, with_growth, growth, with_range, places_of}
use Rattle.st_clusters.specs.inside.Kept.{AreApart, IsLastOf}
use Rattle.st_clusters.specs.declared.ids.Cluster.{Cluster}
use Rattle.st_clusters.specs.declared.ids.IdRange.{IdRange}
use Rattle.st_clusters.proofs.Clusters.{at_set, at_push, apart_set, apart_push, places_push, places_set}
use Rattle.st_clusters.proofs.Ranges.{free_push, free_above, free_some, free_set, free_set_last, range_cases}

-- the ids of a session's clusters end where a range of the session begins, or before
abbrev pub EndBefore : IdRange → List Cluster → Type 0
EndBefore r cs = (i : ℕ) → i < length cs → (at cs i).session ≡ r.session → (at cs i).first + (at cs i).used ≤ r.first

-- ## They stay apart

apart_more : (r : IdRange) (cs : List Cluster) (i n : ℕ) → AreApart cs → IsLastOf r.session cs i → n ≤ room (at cs i) → AreApart (set cs i (with_more (at cs i) n))
apart_more r cs i n apart last fits =
    let some : 1 ≤ (at cs i).used = apart.some i last.there in
    let inside : (at cs i).used ≤ (at cs i).capacity = apart.fits i last.there in
    apart_set cs i (with_more (at cs i) n) apart last.there refl refl refl (omega (arith, some)) (omega (arith, inside, fits))
    (λ j l h. apart.numbers i j l h) (λ j l h e. absurd (last.last j l h (sym e ∙ last.own)))

apart_new : (r : IdRange) (cs : List Cluster) (first n : ℕ) → AreApart cs → 1 ≤ n → 1 ≤ first → ((j : ℕ) → j < length cs → (at cs j).session ≡ r.session → (at cs j).first + (at cs j).used ≤ first)
    → AreApart (cs ++ new_cluster cs r.session first n ∷ [])
apart_new r cs first n apart some one ends =
    apart_push cs (new_cluster cs r.session first n) apart some (omega arith) (free_some cs apart) one (free_above cs apart) ends

pub range_apart : (r : IdRange) (cs : List Cluster) → AreApart cs → 1 ≤ r.first → EndBefore r cs → AreApart (with_range r cs)
range_apart r cs apart one ends = range_cases AreApart r cs
    (λ _. apart)
    (λ some none. apart_new r cs r.first r.count apart (omega (arith, some)) one ends)
    (λ i some last fits. apart_more r cs i r.count apart last fits)
    (λ i last past end.
    let some : 1 ≤ (at cs i).used = apart.some i last.there in
    let inside : (at cs i).used ≤ (at cs i).capacity = apart.fits i last.there in
    apart_set cs i (with_growth (at cs i) r.count) apart last.there refl refl refl (omega (arith, some)) (omega (arith, inside, past))
    (λ j l h. absurd (omega (arith, l, h, end))) (λ j l h e. absurd (omega (arith, l, h, end))))
    (λ i last past inner.
    let old : AreApart (set cs i (with_more (at cs i) (room (at cs i)))) = apart_more r cs i (room (at cs i)) apart last (omega arith) in
    let long : length (set cs i (with_more (at cs i) (room (at cs i)))) ≡ length cs = length-set cs i (with_more (at cs i) (room (at cs i))) in
    let free : next_free (set cs i (with_more (at cs i) (room (at cs i)))) ≡ next_free cs = free_set cs i (with_more (at cs i) (room (at cs i))) last.there refl refl in
    let here : (at cs i).first + (at cs i).used ≤ r.first = ends i last.there last.own in
    let made : AreApart (set cs i (with_more (at cs i) (room (at cs i))) ++ new_cluster (set cs i (with_more (at cs i) (room (at cs i)))) r.session (r.first + room (at cs i)) (r.count - room (at cs i)) ∷ []) =
    apart_new r (set cs i (with_more (at cs i) (room (at cs i)))) (r.first + room (at cs i)) (r.count - room (at cs i)) old (omega (arith, past)) (omega (arith, one))
    (λ j h own. at_set (λ k x. x.session ≡ r.session → x.first + x.used ≤ r.first + room (at cs i)) cs i (with_more (at cs i) (room (at cs i))) j last.there
    (λ _. omega (arith, here)) (λ e. omega (arith, ends j (omega (arith, long, h)) e)) own) in
    subst (λ (n : ℕ). AreApart (set cs i (with_more (at cs i) (room (at cs i))) ++ record { session = r.session; first = r.first + room (at cs i); first_final = n; capacity = growth (r.count - room (at cs i)); used = r.count - room (at cs i) } ∷ [])) free made)

-- ## The next free number

pub range_free : (r : IdRange) (cs : List Cluster) → AreApart cs → next_free (with_range r cs) ≤ next_free cs + 512 * r.count
range_free r cs apart = range_cases (λ ds. next_free ds ≤ next_free cs + 512 * r.count) r cs
    (λ _. omega arith)
    (λ some none. omega (arith, free_push cs (new_cluster cs r.session r.first r.count), some))
    (λ i some last fits. omega (arith, free_set cs i (with_more (at cs i) r.count) last.there refl refl))
    (λ i last past end.
    let inside : (at cs i).used ≤ (at cs i).capacity = apart.fits i last.there in
    omega (arith, free_set_last cs i (with_growth (at cs i) r.count) end, free_above cs apart i last.there, past))
    (λ i last past inner. omega (
      arith,
      past,
      free_push (set cs i (with_more (at cs i) (room (at cs i)))) (new_cluster cs r.session (r.first + room (at cs i)) (r.count - room (at cs i))),
    ))

-- ## Where the ids of a cluster end

ends_set : (Q : ℕ → ℕ → Type 0) (cs : List Cluster) (i : ℕ) (c : Cluster) → i < length cs → ((j : ℕ) → j < length cs → Q (at cs j).session ((at cs j).first + (at cs j).used)) → Q c.session (c.first + c.used)
    → (j : ℕ) → j < length (set cs i c) → Q (at (set cs i c) j).session ((at (set cs i c) j).first + (at (set cs i c) j).used)
ends_set Q cs i c within old here j h =
    let long : length (set cs i c) ≡ length cs = length-set cs i c in
    at_set (λ k x. Q x.session (x.first + x.used)) cs i c j within here (old j (omega (arith, long, h)))

pub range_ends : (Q : ℕ → ℕ → Type 0) (r : IdRange) (cs : List Cluster) → EndBefore r cs → ((j : ℕ) → j < length cs → Q (at cs j).session ((at cs j).first + (at cs j).used)) → ((e : ℕ) → e ≤ r.first + r.count → Q r.session e)
    → (j : ℕ) → j < length (with_range r cs) → Q (at (with_range r cs) j).session ((at (with_range r cs) j).first + (at (with_range r cs) j).used)
range_ends Q r cs ends old new = range_cases (λ ds. (j : ℕ) → j < length ds → Q (at ds j).session ((at ds j).first + (at ds j).used)) r cs
    (λ _. old)
    (λ some none j h. at_push (λ k x. Q x.session (x.first + x.used)) cs (new_cluster cs r.session r.first r.count) j h (new (r.first + r.count) (omega arith)) (old j))
    (λ i some last fits. ends_set Q cs i (with_more (at cs i) r.count) last.there old
    (rw last.own (new ((at cs i).first + ((at cs i).used + r.count)) (omega (arith, ends i last.there last.own)))))
    (λ i last past end. ends_set Q cs i (with_growth (at cs i) r.count) last.there old
    (rw last.own (new ((at cs i).first + ((at cs i).used + r.count)) (omega (arith, ends i last.there last.own)))))
    (λ i last past inner j h. at_push (λ k x. Q x.session (x.first + x.used)) (set cs i (with_more (at cs i) (room (at cs i)))) (new_cluster cs r.session (r.first + room (at cs i)) (r.count - room (at cs i))) j h
    (new (r.first + room (at cs i) + (r.count - room (at cs i))) (omega (arith, past)))
    (ends_set Q cs i (with_more (at cs i) (room (at cs i))) last.there old (rw last.own (new ((at cs i).first + ((at cs i).used + room (at cs i))) (omega (arith, ends i last.there last.own, past)))) j))

-- ## The places of the other sessions

other_push : (s : ℕ) (cs : List Cluster) (c : Cluster) → c.session ≢ s → places_of s (cs ++ c ∷ []) ≡ places_of s cs
other_push s cs c other =
    let test : (c.session == s) ≡ false = grind (arith, nat_tests, other) in
    rw (places_push s 0 cs c, test) (append-nil (places_of s cs))

pub range_others : (s : ℕ) (r : IdRange) (cs : List Cluster) → r.session ≢ s → places_of s (with_range r cs) ≡ places_of s cs
range_others s r cs other = range_cases (λ ds. places_of s ds ≡ places_of s cs) r cs
    (λ _. refl)
    (λ some none. other_push s cs (new_cluster cs r.session r.first r.count) other)
    (λ i some last fits. places_set s 0 i cs (with_more (at cs i) r.count) refl)
    (λ i last past end. places_set s 0 i cs (with_growth (at cs i) r.count) refl)
    (λ i last past inner. other_push s (set cs i (with_more (at cs i) (room (at cs i)))) (new_cluster cs r.session (r.first + room (at cs i)) (r.count - room (at cs i))) other
    ∙ places_set s 0 i cs (with_more (at cs i) (room (at cs i))) refl)
