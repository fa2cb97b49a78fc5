-- A session whose next range is finalised.
use Rattle.std.proofs.Common.{◌≡◌, ◌≢◌, inl, inr, ◌<◌, ◌≤◌, ◌+◌, ◌-◌, ◌*◌, ◌^◌, ℕ, true, false, List, [], length, get_or, set, refl, sym, subst, ap, ◌∙◌, arith, length-set}
use Rattle.std.proofs.lemmas.List.{get_or-set_same, get_or-set_other}
use Rattle.std.proofs.lemmas.List.Elements.{All-from_get_or}
use Rattle.std.proofs.lemmas.List.Sums.{sum_by-set, sum_by-le}
use Rattle.std.proofs.lemmas.Bool.{cases_eq}
use Rattle.std.proofs.lemmas.Bool.Decides.{nat_tests}
use Rattle.std.specs.Prelude.{Ok, Err}
use Rattle.st_clusters.specs.Table.{Ids, at, no_session, most_ids, next_free, places_of, with_range, raise_to, is_next, after_finalising}
use Rattle.st_clusters.specs.inside.Kept.{session_at, IsSound, AreCounts, finals}
use Rattle.st_clusters.specs.declared.ids.Cluster.{Cluster}
use Rattle.st_clusters.specs.declared.ids.IdFault.TheVariants.{RangeOrder}
use Rattle.st_clusters.specs.declared.ids.IdRange.{IdRange}
use Rattle.st_clusters.specs.declared.ids.SessionIds.{SessionIds}
use Rattle.st_clusters.proofs.Counts.{field_set, counts_at, read_at, is_there}
use Rattle.st_clusters.proofs.Kept.{EndBefore, range_apart, range_free, range_ends, range_others}

-- the places of the sessions after those of one are set
places_at : (ps : List (List ℕ)) (k : ℕ) (q : List ℕ) (j : ℕ) (R : List ℕ) → k < length ps → (j ≡ k → q ≡ R) → (j ≢ k → get_or ps j [] ≡ R) → get_or (set ps k q) j [] ≡ R
places_at ps k q j R within here there = elim (cases_eq j k) [
  | inl e ↦ subst (λ (i : ℕ). get_or (set ps k q) i [] ≡ R) (sym e) (get_or-set_same ps k q [] within ∙ here e)
  | inr ne ↦ get_or-set_other ps k j q [] ne ∙ there ne
]

raise_counts : (x : SessionIds) (n : ℕ) → n ≤ most_ids → AreCounts x → AreCounts (raise_to x n)
raise_counts x n few h = record {
  final_taken = omega arith;
  taken_made = omega (arith, h.taken_made);
  made = omega (arith, h.made, few);
}

-- where the clusters of the session end
pub ends_before : (ss : List SessionIds) (cs : List Cluster) (ps : List (List ℕ)) (k : ℕ) (x : SessionIds) (r : IdRange) → IsSound ss cs ps → k < length ss → x ≡ get_or ss k x → r.session ≡ k + 1 → r.first ≡ x.finalised + 1 → EndBefore r cs
ends_before ss cs ps k x r sound within is number next i h own =
    let back : (at cs i).session - 1 ≡ k = omega (arith, own, number) in
    let end : (at cs i).first + (at cs i).used ≤ (session_at ss k).finalised + 1 = rw back at (sound.finalised i h) in
    let here : (session_at ss k).finalised ≡ x.finalised = ap (λ (z : SessionIds). z.finalised) (read_at ss k x within is) in
    omega (arith, end, here, next)

-- the finalised ids of each session are no fewer than before
at_least : (ss : List SessionIds) (k : ℕ) (x : SessionIds) (n j e : ℕ) → k < length ss → x ≡ get_or ss k x → x.finalised ≤ n → e ≤ (session_at ss j).finalised + 1 → e ≤ (session_at (set ss k (raise_to x n)) j).finalised + 1
at_least ss k x n j e within is more h = elim (cases_eq j k) [
  | inl same ↦
      let here : (session_at ss k).finalised ≡ x.finalised = ap (λ (z : SessionIds). z.finalised) (read_at ss k x within is) in
      let now : (session_at (set ss k (raise_to x n)) k).finalised ≡ n = ap (λ (z : SessionIds). z.finalised) (get_or-set_same ss k (raise_to x n) no_session within) in
      let old : e ≤ (session_at ss k).finalised + 1 = rw same at h in
      rw (same, now) (omega (arith, old, here, more))
  | inr ne ↦ rw (get_or-set_other ss k j (raise_to x n) no_session ne) h
]

-- how many ids are finalised at most
finals_few : (ss : List SessionIds) → ((k : ℕ) → k < length ss → AreCounts (session_at ss k)) → finals ss ≤ length ss * most_ids
finals_few ss counts = sum_by-le (λ (x : SessionIds). x.finalised) most_ids ss (All-from_get_or (λ (x : SessionIds). x.finalised ≤ most_ids) ss no_session
    (λ k h. let c : AreCounts (session_at ss k) = counts k h in omega (arith, c.final_taken, c.taken_made, c.made)))

pub numbers_fit : (ss : List SessionIds) (cs : List Cluster) (ps : List (List ℕ)) (n : ℕ) → IsSound ss cs ps → n ≤ most_ids → next_free cs + 512 * n < 2 ^ 63
numbers_fit ss cs ps n sound few = omega (arith, sound.bound, sound.few, finals_few ss sound.counts, few)

pub sound_finalised : (ss : List SessionIds) (cs ds : List Cluster) (ps : List (List ℕ)) (k : ℕ) (x : SessionIds) (r : IdRange) (q : List ℕ) → IsSound ss cs ps → k < length ss → x ≡ get_or ss k x
    → r.session ≡ k + 1 → r.first ≡ x.finalised + 1 → x.finalised + r.count ≤ most_ids → ds ≡ with_range r cs → q ≡ places_of r.session ds
    → IsSound (set ss k (raise_to x (x.finalised + r.count))) ds (set ps k q)
sound_finalised ss cs ds ps k x r q sound within is number next few made placed =
    let here : session_at ss k ≡ x = read_at ss k x within is in
    let final_here : (session_at ss k).finalised ≡ x.finalised = ap (λ (z : SessionIds). z.finalised) here in
    let same_uuid : (j : ℕ) → (session_at (set ss k (raise_to x (x.finalised + r.count))) j).uuid ≡ (session_at ss j).uuid = λ j. field_set (λ z. z.uuid) ss k (raise_to x (x.finalised + r.count)) j within (sym (ap (λ (z : SessionIds). z.uuid) here)) in
    let long : length (set ss k (raise_to x (x.finalised + r.count))) ≡ length ss = length-set ss k (raise_to x (x.finalised + r.count)) in
    let lists : length (set ps k q) ≡ length ps = length-set ps k q in
    let total : finals (set ss k (raise_to x (x.finalised + r.count))) + (session_at ss k).finalised ≡ finals ss + (x.finalised + r.count) = sum_by-set (λ z. z.finalised) ss k (raise_to x (x.finalised + r.count)) no_session within in
    let ends : EndBefore r cs = ends_before ss cs ps k x r sound within is number next in
    let free : next_free (with_range r cs) ≤ next_free cs + 512 * r.count = range_free r cs sound.apart in
    let of_session : (j : ℕ) → j < length (with_range r cs) → (1 ≤ (at (with_range r cs) j).session) × ((at (with_range r cs) j).session ≤ length ss) =
    range_ends (λ s e. (1 ≤ s) × (s ≤ length ss)) r cs ends sound.owned (λ e h. (omega (arith, number), omega (arith, number, within))) in
    let back : r.session - 1 ≡ k = omega (arith, number) in
    let raised_here : (session_at (set ss k (raise_to x (x.finalised + r.count))) k).finalised ≡ x.finalised + r.count = ap (λ (z : SessionIds). z.finalised) (get_or-set_same ss k (raise_to x (x.finalised + r.count)) no_session within) in
    record {
      apart = rw made (range_apart r cs sound.apart (omega (arith, next)) ends);
      counts = λ j h. counts_at ss k (raise_to x (x.finalised + r.count)) j within (raise_counts x (x.finalised + r.count) few (subst AreCounts here (sound.counts k within))) (sound.counts j (omega (arith, long, h)));
      few = rw long sound.few;
      bound = rw made (omega (arith, sound.bound, free, total, final_here));
      owned = rw (made, long) of_session;
      finalised = rw made (range_ends (λ s e. e ≤ (session_at (set ss k (raise_to x (x.finalised + r.count))) (s - 1)).finalised + 1) r cs ends
          (λ j h. at_least ss k x (x.finalised + r.count) ((at cs j).session - 1) ((at cs j).first + (at cs j).used) within is (omega arith) (sound.finalised j h))
          (λ e h. rw (back, raised_here) (omega (arith, h, next))));
      each = lists ∙ sound.each ∙ sym long;
      places = λ j h. places_at ps k q j (places_of (j + 1) ds) (omega (arith, within, sound.each)) (λ e. placed ∙ ap (λ (s : ℕ). places_of s ds) (number ∙ ap (λ (i : ℕ). i + 1) (sym e)))
          (λ ne. sound.places j (omega (arith, long, h)) ∙ rw made (sym (range_others (j + 1) r cs (omega (arith, ne, number)))));
      wide = λ j h. rw (same_uuid j) (sound.wide j (omega (arith, long, h)));
      v4 = λ j h. rw (same_uuid j) (sound.v4 j (omega (arith, long, h)));
      spans = λ i j l h. rw (same_uuid i, same_uuid j) (sound.spans i j l (omega (arith, long, h)));
    }

-- what finalising says, where the range is the next one and where it isn't
pub finalising : (t : Ids) (k : ℕ) (x : SessionIds) (r : IdRange) → r.session ≡ k + 1 → k < length t.sessions → x ≡ get_or t.sessions k x → r.first ≡ x.finalised + 1 → x.finalised + r.count ≤ most_ids
    → after_finalising r t ≡ Ok (record { sessions = set t.sessions k (raise_to x (x.finalised + r.count)); clusters = with_range r t.clusters })
finalising t k x r number within is next few =
    let back : r.session - 1 ≡ k = omega (arith, number) in
    let test : is_next r x ≡ true = grind (arith, nat_tests, next, few) in
    rw (is_there t.sessions r.session k x number within is, test, back) refl

pub out_of_order : (t : Ids) (k : ℕ) (x : SessionIds) (r : IdRange) → r.session ≡ k + 1 → k < length t.sessions → x ≡ get_or t.sessions k x → is_next r x ≡ false
    → after_finalising r t ≡ Err (RangeOrder (x.finalised + 1))
out_of_order t k x r number within is test = rw (is_there t.sessions r.session k x number within is, test) refl

pub next_parts : (r : IdRange) (x : SessionIds) → is_next r x ≡ true → (r.first ≡ x.finalised + 1) × (x.finalised + r.count ≤ most_ids)
next_parts r x e = (grind (arith, nat_tests, e), grind (arith, nat_tests, e))
