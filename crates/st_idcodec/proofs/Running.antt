-- The ranges of the clusters of a table lead to that table again.
use Rattle.std.proofs.Common.{◌≡◌, ◌≢◌, inl, inr, ◌<◌, ◌≤◌, ◌+◌, ◌-◌, ℕ, true, false, refl, sym, subst, ap, ◌∙◌, arith, List, [], ◌∷◌, ◌++◌, length, get_or, set, length-set, Some}
use Rattle.std.proofs.lemmas.Bool.{cases_Bool, cases_eq}
use Rattle.std.proofs.lemmas.Bool.Decides.{nat_tests}
use Rattle.std.proofs.lemmas.List.{append_assoc, append-nil, get_or-set_same, get_or-set_other, get_or-map, ext_get_or}
use Rattle.std.proofs.lemmas.List.Sums.{sum_by-append}
use Rattle.std.proofs.lemmas.Option.{slice_get-get_or}
use Rattle.std.specs.Prelude.{◌==◌, cond, Result, Ok, Err}
use Rattle.st_clusters.specs.Reached.{uuids_in}
use Rattle.st_clusters.specs.Table.{Ids, no_session, most_ids, session_of, is_next, raise_to, with_range, after_finalising}
use Rattle.st_clusters.specs.inside.Kept.{session_at}
use Rattle.st_clusters.specs.declared.ids.Cluster.{Cluster}
use Rattle.st_clusters.specs.declared.ids.IdFault.{IdFault}
use Rattle.st_clusters.specs.declared.ids.IdRange.{IdRange}
use Rattle.st_clusters.specs.declared.ids.SessionIds.{SessionIds}
use Rattle.st_idcodec.specs.inside.Reading.{part, front_of, rest_of, after_cluster, after_clusters}
use Rattle.st_idcodec.proofs.Going.{used_of, used_new, used_more, used_others, Goes, AllGo, both_parts}
use Rattle.st_idcodec.proofs.Gone.{range_go}
use Rattle.st_idcodec.proofs.Sessions.{IsTaken, is_taken, uuids_kept, to_ok, after_log}
use Rattle.st_clusters.proofs.RangeTaken.{cases_result}

-- ## What the sessions have

-- a session has finalised, taken and generated a number of ids
abbrev pub HasAll : SessionIds → ℕ → Type 0
HasAll x m = (x.generated ≡ m) × (x.taken ≡ m) × (x.finalised ≡ m)

-- each of n sessions has finalised, taken and generated what the clusters give it
pub record IsSettled (n : ℕ) (t : Ids) : Type 0 where
  pub count : length t.sessions ≡ n
  pub each : (k : ℕ) → k < n → HasAll (session_at t.sessions k) (used_of (k + 1) t.clusters)
  pub most : (s : ℕ) → used_of s t.clusters ≤ most_ids

raised : (x : SessionIds) (m c : ℕ) → HasAll x m → HasAll (raise_to x (x.finalised + c)) (m + c)
raised x m c h = (omega (arith, h.0, h.2), omega (arith, h.1, h.2), omega (arith, h.2))

-- what the session of a range has
has_own : (n : ℕ) (r : IdRange) (t u : Ids) (took : IsTaken r t u) → IsSettled n t → HasAll took.ids (used_of r.session t.clusters)
has_own n r t u took s =
    let back : (r.session - 1) + 1 ≡ r.session = sym took.number in
    let at_place : HasAll (session_at t.sessions (r.session - 1)) (used_of ((r.session - 1) + 1) t.clusters) = s.each (r.session - 1) (omega (arith, took.within, s.count)) in
    rw (took.here, back) at at_place

each_after : (n : ℕ) (r : IdRange) (t u : Ids) (took : IsTaken r t u) → IsSettled n t → (j : ℕ) → j < n
    → HasAll (session_at (set t.sessions (r.session - 1) (raise_to took.ids (took.ids.finalised + r.count))) j) (used_of (j + 1) (with_range r t.clusters))
each_after n r t u took s j h = elim (cases_eq j (r.session - 1)) [
  | inl e ↦
      let back : j + 1 ≡ r.session = omega (arith, e, took.number) in
      let here : session_at (set t.sessions (r.session - 1) (raise_to took.ids (took.ids.finalised + r.count))) j ≡ raise_to took.ids (took.ids.finalised + r.count) =
      ap (λ (i : ℕ). session_at (set t.sessions (r.session - 1) (raise_to took.ids (took.ids.finalised + r.count))) i) e ∙ get_or-set_same t.sessions (r.session - 1) (raise_to took.ids (took.ids.finalised + r.count)) no_session took.within in
      rw (here, back, used_more r t.clusters) (raised took.ids (used_of r.session t.clusters) r.count (has_own n r t u took s))
  | inr ne ↦
      let other : r.session ≢ j + 1 = λ e. ne (omega (arith, e)) in
      rw (get_or-set_other t.sessions (r.session - 1) j (raise_to took.ids (took.ids.finalised + r.count)) no_session ne, used_others (j + 1) r t.clusters other) (s.each j h)
]

most_after : (n : ℕ) (r : IdRange) (t u : Ids) (took : IsTaken r t u) → IsSettled n t → (s : ℕ) → used_of s (with_range r t.clusters) ≤ most_ids
most_after n r t u took settled s = elim (cases_eq r.session s) [
  | inl e ↦
      let has = has_own n r t u took settled in
      let final : took.ids.finalised ≡ used_of r.session t.clusters = has.2 in
      let more : used_of r.session (with_range r t.clusters) ≡ used_of r.session t.clusters + r.count = used_more r t.clusters in
      let fits : used_of r.session (with_range r t.clusters) ≤ most_ids = omega (arith, more, final, took.few) in
      subst (λ (i : ℕ). used_of i (with_range r t.clusters) ≤ most_ids) e fits
  | inr ne ↦ rw (used_others s r t.clusters ne) (settled.most s)
]

pub settled_after : (n : ℕ) (r : IdRange) (t u : Ids) → IsSettled n t → after_finalising r t ≡ Ok u → IsSettled n u
settled_after n r t u s e =
    let took : IsTaken r t u = is_taken r t u e in
    let long : length (set t.sessions (r.session - 1) (raise_to took.ids (took.ids.finalised + r.count))) ≡ length t.sessions = length-set t.sessions (r.session - 1) (raise_to took.ids (took.ids.finalised + r.count)) in
    subst (IsSettled n) took.made (record { count = long ∙ s.count; each = each_after n r t u took s; most = most_after n r t u took s })

-- ## A log

-- a table of n sessions that ranges lead to
pub record IsLed (n : ℕ) (t : Ids) : Type 0 where
  pub go : AllGo n [] t.clusters
  pub settled : IsSettled n t

pub led_after : (n : ℕ) (r : IdRange) (t u : Ids) → IsLed n t → after_finalising r t ≡ Ok u → IsLed n u
led_after n r t u led e =
    let took : IsTaken r t u = is_taken r t u e in
    let has = has_own n r t u took led.settled in
    let final : took.ids.finalised ≡ used_of r.session t.clusters = has.2 in
    let go : AllGo n [] (with_range r t.clusters) = range_go n r t.clusters led.go (omega (arith, took.number)) (omega (arith, took.number, took.within, led.settled.count)) (omega (arith, took.next, final)) in
    record { go = subst (λ (v : Ids). AllGo n [] v.clusters) took.made go; settled = settled_after n r t u led.settled e }

pub log_led : (n : ℕ) (rs : List IdRange) (t u : Ids) → IsLed n t → after_log rs t ≡ Ok u → IsLed n u × (uuids_in u ≡ uuids_in t)
log_led n [] t u led e =
    let same : t ≡ u = cc e in
    (subst (IsLed n) same led, ap uuids_in (sym same))
log_led n (r ∷ rs) t u led e = elim (cases_result (after_finalising r t)) [
  | inr f ↦ let none : ◌≡◌ {A = Result Ids IdFault} (Err f.0) (Ok u) = rw f.1 at e in absurd (cc none)
  | inl v ↦
      let rest : after_log rs v.0 ≡ Ok u = rw v.1 at e in
      let later = log_led n rs v.0 u (led_after n r t v.0 led v.1) rest in
      (later.0, later.1 ∙ uuids_kept r t v.0 v.1)
]

-- ## A cluster at a time

-- a range that is finalised
pub record Finalises (n : ℕ) (r : IdRange) (t : Ids) : Type 0 where
  pub after : Ids
  pub done : after_finalising r t ≡ Ok after
  pub clusters : after.clusters ≡ with_range r t.clusters
  pub settled : IsSettled n after
  pub uuids : uuids_in after ≡ uuids_in t

known_session : (ss : List SessionIds) (s : ℕ) → 1 ≤ s → s ≤ length ss → session_of ss s ≡ Some (session_at ss (s - 1))
known_session ss s low high =
    let test : (s == 0) ≡ false = grind (arith, nat_tests, low) in
    rw test (slice_get-get_or ss (s - 1) no_session (omega (arith, low, high)))

finalises : (n : ℕ) (r : IdRange) (t : Ids) → IsSettled n t → 1 ≤ r.session → r.session ≤ n → r.first ≡ used_of r.session t.clusters + 1 → used_of r.session t.clusters + r.count ≤ most_ids → Finalises n r t
finalises n r t s low high next few =
    let x : SessionIds = session_at t.sessions (r.session - 1) in
    let back : (r.session - 1) + 1 ≡ r.session = omega (arith, low) in
    let at_place : HasAll (session_at t.sessions (r.session - 1)) (used_of ((r.session - 1) + 1) t.clusters) = s.each (r.session - 1) (omega (arith, low, high)) in
    let has : HasAll (session_at t.sessions (r.session - 1)) (used_of r.session t.clusters) = rw back at at_place in
    let final : (session_at t.sessions (r.session - 1)).finalised ≡ used_of r.session t.clusters = has.2 in
    let test : is_next r (session_at t.sessions (r.session - 1)) ≡ true = grind (arith, nat_tests, next, few, final) in
    let known : session_of t.sessions r.session ≡ Some (session_at t.sessions (r.session - 1)) = known_session t.sessions r.session low (omega (arith, high, s.count)) in
    let done : after_finalising r t ≡ Ok (record { sessions = set t.sessions (r.session - 1) (raise_to (session_at t.sessions (r.session - 1)) ((session_at t.sessions (r.session - 1)).finalised + r.count)); clusters = with_range r t.clusters }) = rw (known, test) refl in
    record {
      after = record { sessions = set t.sessions (r.session - 1) (raise_to (session_at t.sessions (r.session - 1)) ((session_at t.sessions (r.session - 1)).finalised + r.count)); clusters = with_range r t.clusters };
      done = done;
      clusters = refl;
      settled = settled_after n r t _ s done;
      uuids = uuids_kept r t _ done;
    }

part_within : (c : Cluster) → part c ≤ c.used
part_within c = elim (cases_Bool (c.used == c.capacity)) [ inl e ↦ rw e (omega arith) | inr e ↦ rw e (omega arith) ]

chain : (c : Cluster) (t w u : Ids) → after_finalising (front_of c) t ≡ Ok w → after_finalising (rest_of c) w ≡ Ok u → after_cluster c t ≡ Some u
chain c t w u e f = rw e (to_ok (after_finalising (rest_of c) w) u f)

-- a cluster that is given
pub record Gives (n : ℕ) (before : List Cluster) (c : Cluster) (t : Ids) : Type 0 where
  pub after : Ids
  pub done : after_cluster c t ≡ Some after
  pub clusters : after.clusters ≡ before ++ c ∷ []
  pub settled : IsSettled n after
  pub uuids : uuids_in after ≡ uuids_in t

gives : (n : ℕ) (before : List Cluster) (c : Cluster) (t : Ids) → Goes n before c → t.clusters ≡ before → IsSettled n t → used_of c.session before + c.used ≤ most_ids → Gives n before c t
gives n before c t g same s few =
    let less : part c ≤ c.used = part_within c in
    let used : used_of c.session t.clusters ≡ used_of c.session before = ap (λ (ds : List Cluster). used_of c.session ds) same in
    let front : Finalises n (front_of c) t = finalises n (front_of c) t s g.low g.high (omega (arith, g.first, used)) (omega (arith, used, few, less)) in
    let more : used_of c.session (with_range (front_of c) t.clusters) ≡ used_of c.session t.clusters + part c = used_more (front_of c) t.clusters in
    let now : used_of c.session front.after.clusters ≡ used_of c.session (with_range (front_of c) t.clusters) = ap (λ (ds : List Cluster). used_of c.session ds) front.clusters in
    let rest : Finalises n (rest_of c) front.after = finalises n (rest_of c) front.after front.settled g.low g.high (omega (arith, g.first, used, more, now, few, less)) (omega (arith, used, more, now, few, less)) in
    record {
      after = rest.after;
      done = chain c t front.after rest.after front.done rest.done;
      clusters = rest.clusters ∙ ap (λ (ds : List Cluster). with_range (rest_of c) ds) (front.clusters ∙ ap (λ (ds : List Cluster). with_range (front_of c) ds) same) ∙ both_parts n before c g (omega (arith, g.first, few));
      settled = rest.settled;
      uuids = rest.uuids ∙ front.uuids;
    }

-- clusters that are given one after the other
pub record AllGiven (n : ℕ) (all cs : List Cluster) (t : Ids) : Type 0 where
  pub after : Ids
  pub done : after_clusters cs t ≡ Some after
  pub clusters : after.clusters ≡ all
  pub settled : IsSettled n after
  pub uuids : uuids_in after ≡ uuids_in t

then_given : (n : ℕ) (all before cs : List Cluster) (c : Cluster) (t : Ids) (one : Gives n before c t) → AllGiven n all cs one.after → AllGiven n all (c ∷ cs) t
then_given n all before cs c t one rest = record {
  after = rest.after;
  done = rw one.done rest.done;
  clusters = rest.clusters;
  settled = rest.settled;
  uuids = rest.uuids ∙ one.uuids;
}

pub all_given : (n : ℕ) (before cs : List Cluster) (t : Ids) → AllGo n before cs → t.clusters ≡ before → IsSettled n t → ((s : ℕ) → used_of s (before ++ cs) ≤ most_ids) → AllGiven n (before ++ cs) cs t
all_given n before [] t go same s few = record { after = t; done = refl; clusters = same ∙ sym (append-nil before); settled = s; uuids = refl }
all_given n before (c ∷ cs) t go same s few =
    let in_turn : (before ++ c ∷ []) ++ cs ≡ before ++ c ∷ cs = append_assoc before (c ∷ []) cs in
    let front : used_of c.session (before ++ c ∷ []) ≡ used_of c.session before + c.used = used_new c.session before c refl in
    let whole : used_of c.session ((before ++ c ∷ []) ++ cs) ≡ used_of c.session (before ++ c ∷ []) + used_of c.session cs = sum_by-append (λ (d : Cluster). cond (d.session == c.session) d.used 0) (before ++ c ∷ []) cs in
    let all : used_of c.session ((before ++ c ∷ []) ++ cs) ≡ used_of c.session (before ++ c ∷ cs) = ap (λ (ds : List Cluster). used_of c.session ds) in_turn in
    let one : Gives n before c t = gives n before c t go.0 same s (omega (arith, front, whole, all, few c.session)) in
    let rest : AllGiven n ((before ++ c ∷ []) ++ cs) cs one.after = all_given n (before ++ c ∷ []) cs one.after go.1 one.clusters one.settled (λ i. rw in_turn (few i)) in
    subst (λ (ds : List Cluster). AllGiven n ds (c ∷ cs) t) in_turn (then_given n ((before ++ c ∷ []) ++ cs) before cs c t one rest)

-- ## Two such tables

abbrev session_with : ℕ → ℕ → ℕ → ℕ → SessionIds
session_with u g k f = record { uuid = u; generated = g; taken = k; finalised = f }

of_four : (u g k f v h l m : ℕ) → u ≡ v → g ≡ h → k ≡ l → f ≡ m → session_with u g k f ≡ session_with v h l m
of_four u g k f v h l m a b c d = rw (a, b, c, d) refl

session_same : (x y : SessionIds) (m : ℕ) → x.uuid ≡ y.uuid → HasAll x m → HasAll y m → x ≡ y
session_same x y m uuid a b = of_four x.uuid x.generated x.taken x.finalised y.uuid y.generated y.taken y.finalised uuid (a.0 ∙ sym b.0) (a.1 ∙ sym b.1) (a.2 ∙ sym b.2)

-- tables of the same UUIDs and the same clusters are the same
pub one_table : (n : ℕ) (t u : Ids) → IsSettled n t → IsSettled n u → uuids_in t ≡ uuids_in u → t.clusters ≡ u.clusters → t ≡ u
one_table n t u s v uuids clusters =
    let sessions : t.sessions ≡ u.sessions = ext_get_or no_session t.sessions u.sessions (s.count ∙ sym v.count) (λ k h.
    let low : k < n = omega (arith, h, s.count) in
    let in_t : get_or (uuids_in t) k 0 ≡ (session_at t.sessions k).uuid = get_or-map (λ (x : SessionIds). x.uuid) t.sessions k no_session 0 h in
    let in_u : get_or (uuids_in u) k 0 ≡ (session_at u.sessions k).uuid = get_or-map (λ (x : SessionIds). x.uuid) u.sessions k no_session 0 (omega (arith, low, v.count)) in
    let same_uuid : (session_at t.sessions k).uuid ≡ (session_at u.sessions k).uuid = sym in_t ∙ ap (λ (us : List ℕ). get_or us k 0) uuids ∙ in_u in
    let in_both : HasAll (session_at u.sessions k) (used_of (k + 1) t.clusters) = rw clusters (v.each k low) in
    session_same (session_at t.sessions k) (session_at u.sessions k) (used_of (k + 1) t.clusters) same_uuid (s.each k low) in_both) in
    whole t.sessions u.sessions t.clusters u.clusters sessions clusters
  where
    whole : (a b : List SessionIds) (c d : List Cluster) → a ≡ b → c ≡ d → ◌≡◌ {A = Ids} (record { sessions = a; clusters = c }) (record { sessions = b; clusters = d })
    whole a b c d e f = rw (e, f) refl
