-- What is written for a table is read as that table.
use Rattle.std.proofs.Common.{◌≡◌, ◌⊎◌, inl, inr, ◌<◌, ◌≤◌, ◌+◌, ◌-◌, ◌^◌, ◌%◌, ℕ, zero, suc, Bool, true, false, refl, sym, subst, ap, ◌∙◌, arith, List, [], ◌∷◌, ◌++◌, length, map, Option, Some, None}
use Rattle.std.proofs.lemmas.Bool.{cases_Bool, cases_lt}
use Rattle.std.proofs.lemmas.Bool.Decides.{nat_tests}
use Rattle.std.proofs.lemmas.List.{length-map, append_assoc, append-nil, length_push, get_or_push, get_or_append_left, map-append}
use Rattle.std.proofs.lemmas.List.Elements.{All-from_recursion}
use Rattle.std.proofs.lemmas.List.Sums.{sum_by-append}
use Rattle.std.specs.Int.{w128, to_be_bytes, from_be_bytes, byte_at, bytes_high_first}
use Rattle.std.specs.List.{AllByRecursion, position_or_len}
use Rattle.std.specs.Option.{option_map}
use Rattle.std.specs.Prelude.{◌==◌, cond, nat_lt, option_and_then, Result, Ok, Err}
use Rattle.serde_json.specs.Data.{Data, Items, item}
use Rattle.serde_json.specs.View.{items_of}
use Rattle.uuid.specs.Text.{lower, parsed}
use Rattle.uuid.proofs.OrderLemmas.{from_be_bytes-to_be_bytes_16}
use Rattle.uuid.proofs.RoundTrips.{parses_hyphenated}
use Rattle.st_ids.specs.Or.{IfRefused}
use Rattle.st_ids.specs.declared.fault.Or.{Or}
use Rattle.st_ids.specs.declared.fault.Or.TheVariants.{Fault, NoMemory}
use Rattle.st_clusters.specs.Table.{Ids, no_session, new_session, clash, join_unless, after_joining, after_finalising, most_ids}
use Rattle.st_clusters.specs.Free.{is_v4, free_number, spans_meet}
use Rattle.st_clusters.specs.inside.Kept.{session_at}
use Rattle.st_clusters.specs.declared.ids.Cluster.{Cluster}
use Rattle.st_clusters.specs.declared.ids.IdFault.{IdFault}
use Rattle.st_clusters.specs.declared.ids.IdFault.TheVariants.{NotV4}
use Rattle.st_clusters.specs.declared.ids.IdRange.{IdRange}
use Rattle.st_clusters.specs.declared.ids.SessionIds.{SessionIds}
use Rattle.st_clusters.proofs.Stable.{session_known}
use Rattle.st_idcodec.specs.TableText.{uuid_text, uuid_data, cluster_data, table_data}
use Rattle.st_clusters.specs.Reached.{no_ids, uuids_in, AreWide}
use Rattle.st_idcodec.specs.Tables.{Step, joins, finalises, IsTable, AreSettled, after_steps}
use Rattle.st_idcodec.specs.inside.Reading.{IsRead, same, with_text, uuid_of_text, uuid_of, cluster_of, clusters_of, after_uuid, after_uuid_value, after_uuids, after_clusters, led_to}
use Rattle.st_idcodec.proofs.Going.{used_of, used_new, AllGo}
use Rattle.st_idcodec.proofs.Running.{led_after, HasAll, IsLed, AllGiven, all_given, one_table}
use Rattle.st_idcodec.proofs.Sessions.{after_joins, uuids_kept}
use Rattle.st_clusters.proofs.SessionsTouched.{with_joined, joined_is}
use Rattle.st_idcodec.proofs.Tables.{text_data, texts_are}
use Rattle.st_clusters.proofs.RangeTaken.{cases_result}
use Rattle.st_ids.proofs.Orders.{bytes-itself}

-- ## UUIDs

low_byte : (m : ℕ) → m % 256 < 256
low_byte m = omega arith

byte_low : (k n : ℕ) → byte_at k n < 256
byte_low zero n = low_byte n
byte_low (suc k) n = omega arith

bytes_low : (k n : ℕ) → AllByRecursion (λ (b : ℕ). b < 256) (bytes_high_first k n)
bytes_low zero n = tt
bytes_low (suc k) n = (byte_low k n, bytes_low k n)

text_back : (s : List ℕ) (u : ℕ) → u < 2 ^ 128 → uuid_text u ≡ s → with_text s u ≡ Some u
text_back s u wide e =
    let low : nat_lt u (2 ^ 128) ≡ true = grind (arith, nat_tests, wide) in
    let equal : same (uuid_text u) s ≡ true = subst (λ (x : List ℕ). same (uuid_text u) x ≡ true) e (bytes-itself (uuid_text u)) in
    rw (low, equal) refl

pub parsed_back : (u : ℕ) → Some (to_be_bytes w128 u) ≡ parsed (uuid_text u)
parsed_back u = parses_hyphenated lower (to_be_bytes w128 u) (inl refl) refl (All-from_recursion (λ (b : ℕ). b < 256) (to_be_bytes w128 u) (bytes_low 16 u))

number_back : (s xs : List ℕ) (u : ℕ) → Some xs ≡ parsed s → from_be_bytes w128 xs ≡ u → with_text s u ≡ Some u → uuid_of_text s ≡ Some u
number_back s xs u e f g = rw (sym e, f) g

uuid_back : (u : ℕ) → u < 2 ^ 128 → uuid_of (text_data u) ≡ Some u
uuid_back u wide = number_back (uuid_text u) (to_be_bytes w128 u) u (parsed_back u) (from_be_bytes-to_be_bytes_16 u wide) (text_back (uuid_text u) u wide refl)

-- ## Clusters

cluster_back : (c : Cluster) → c.session < 2 ^ 32 → c.first < 2 ^ 32 → c.used < 2 ^ 32 → cluster_of (cluster_data c) ≡ Some c
cluster_back c session first used =
    let s : nat_lt c.session (2 ^ 32) ≡ true = grind (arith, nat_tests, session) in
    let f : nat_lt c.first (2 ^ 32) ≡ true = grind (arith, nat_tests, first) in
    let u : nat_lt c.used (2 ^ 32) ≡ true = grind (arith, nat_tests, used) in
    rw (s, f, u) refl

both_back : (d : Data) (ds : Items) (c : Cluster) (cs : List Cluster) → cluster_of d ≡ Some c → clusters_of ds ≡ Some cs → clusters_of (item d ds) ≡ Some (c ∷ cs)
both_back d ds c cs e f =
    ap (λ (o : Option Cluster). option_and_then (λ c. option_map (λ cs. c ∷ cs) (clusters_of ds)) o) e ∙ ap (λ (o : Option (List Cluster)). option_map (λ cs. c ∷ cs) o) f

clusters_back : (n : ℕ) (before cs : List Cluster) → n ≤ 65535 → AllGo n before cs → ((s : ℕ) → used_of s (before ++ cs) ≤ most_ids) → clusters_of (items_of (map cluster_data cs)) ≡ Some cs
clusters_back n before [] few go most = refl
clusters_back n before (c ∷ cs) few go most =
    let in_turn : (before ++ c ∷ []) ++ cs ≡ before ++ c ∷ cs = append_assoc before (c ∷ []) cs in
    let front : used_of c.session (before ++ c ∷ []) ≡ used_of c.session before + c.used = used_new c.session before c refl in
    let whole : used_of c.session ((before ++ c ∷ []) ++ cs) ≡ used_of c.session (before ++ c ∷ []) + used_of c.session cs = sum_by-append (λ (d : Cluster). cond (d.session == c.session) d.used 0) (before ++ c ∷ []) cs in
    let all : used_of c.session ((before ++ c ∷ []) ++ cs) ≡ used_of c.session (before ++ c ∷ cs) = ap (λ (ds : List Cluster). used_of c.session ds) in_turn in
    both_back (cluster_data c) (items_of (map cluster_data cs)) c cs
    (cluster_back c (omega (arith, go.0.high, few)) (omega (arith, go.0.first, front, whole, all, most c.session)) (omega (arith, front, whole, all, most c.session)))
    (clusters_back n (before ++ c ∷ []) cs few go.1 (λ i. rw in_turn (most i)))

-- ## Sessions

-- the sessions have no ids
abbrev HaveNone : List SessionIds → Type 0
HaveNone ss = (k : ℕ) → k < length ss → HasAll (session_at ss k) 0

none_push : (ss : List SessionIds) (u : ℕ) → HaveNone ss → HaveNone (ss ++ new_session u ∷ [])
none_push ss u none k h = elim (cases_lt k (length ss)) [
  | inl l ↦ rw (get_or_append_left ss (new_session u ∷ []) no_session k l) (none k l)
  | inr g ↦
      let long : length (ss ++ new_session u ∷ []) ≡ length ss + 1 = length_push ss (new_session u) in
      rw (get_or_push ss (new_session u) no_session k (omega (arith, g, h, long))) (refl, refl, refl)
]

-- sessions that joined, read of their texts
record Joins (us : List ℕ) (t v : Ids) : Type 0 where
  read : after_uuids (items_of (map text_data us)) t ≡ Some v
  clusters : v.clusters ≡ t.clusters
  none : HaveNone v.sessions
  uuids : uuids_in v ≡ uuids_in t ++ us
  count : length v.sessions ≡ length t.sessions + length us

value_joins : (d : Data) (u : ℕ) (t w : Ids) → uuid_of d ≡ Some u → after_uuid u t ≡ Some w → after_uuid_value d t ≡ Some w
value_joins d u t w e f = ap (λ (o : Option ℕ). option_and_then (λ u. after_uuid u t) o) e ∙ f

values_join : (d : Data) (ds : Items) (t w v : Ids) → after_uuid_value d t ≡ Some w → after_uuids ds w ≡ Some v → after_uuids (item d ds) t ≡ Some v
values_join d ds t w v e f = ap (λ (o : Option Ids). option_and_then (λ u. after_uuids ds u) o) e ∙ f

uuid_joins : (u : ℕ) (t : Ids) (p : ℕ × Ids) → after_joining u t ≡ Ok p → length t.sessions < 65535 → after_uuid u t ≡ Some p.1
uuid_joins u t p e few =
    let test : nat_lt (length t.sessions) 65535 ≡ true = grind (arith, nat_tests, few) in
    rw (test, e) refl

cases_joining : (o : Result (ℕ × Ids) IdFault) → ((p : ℕ × Ids) × (o ≡ Ok p)) ⊎ ((f : IdFault) × (o ≡ Err f))
cases_joining (Ok p) = inl (p, refl)
cases_joining (Err f) = inr (f, refl)

joins_first : (u : ℕ) (us : List ℕ) (t w v : Ids) → u < 2 ^ 128 → with_joined u t ≡ w → after_uuid u t ≡ Some w → Joins us w v → Joins (u ∷ us) t v
joins_first u us t w v wide made joined rest =
    let long : length (t.sessions ++ new_session u ∷ []) ≡ length t.sessions + 1 = length_push t.sessions (new_session u) in
    let count : length (t.sessions ++ new_session u ∷ []) ≡ length w.sessions = ap (λ (x : Ids). length x.sessions) made in
    let behind : uuids_in w ≡ uuids_in t ++ u ∷ [] = ap uuids_in (sym made) ∙ map-append (λ (x : SessionIds). x.uuid) t.sessions (new_session u ∷ []) in
    record {
      read = values_join (text_data u) (items_of (map text_data us)) t w v (value_joins (text_data u) u t w (uuid_back u wide) joined) rest.read;
      clusters = rest.clusters ∙ sym (ap (λ (x : Ids). x.clusters) made);
      none = rest.none;
      uuids = rest.uuids ∙ ap (λ (xs : List ℕ). xs ++ us) behind ∙ append_assoc (uuids_in t) (u ∷ []) us;
      count = omega (arith, rest.count, count, long);
    }

all_join : (us : List ℕ) (t v : Ids) → AreWide us → HaveNone t.sessions → length t.sessions + length us ≤ 65535 → after_joins us t ≡ Ok v → Joins us t v
all_join [] t v wide none few e =
    let equal : t ≡ v = cc e in
    record {
      read = ap (λ (x : Ids). Some x) equal;
      clusters = ap (λ (x : Ids). x.clusters) (sym equal);
      none = subst (λ (x : Ids). HaveNone x.sessions) equal none;
      uuids = ap uuids_in (sym equal) ∙ sym (append-nil (uuids_in t));
      count = omega (arith, ap (λ (x : Ids). length x.sessions) equal);
    }
all_join (u ∷ us) t v wide none few e = elim (cases_joining (after_joining u t)) [
  | inr f ↦ let stop : ◌≡◌ {A = Result Ids IdFault} (Err f.0) (Ok v) = rw f.1 at e in absurd (cc stop)
  | inl p ↦
      let rest : after_joins us p.0.1 ≡ Ok v = rw p.1 at e in
      let made : with_joined u t ≡ p.0.1 = joined_is u t p.0 p.1 in
      let long : length (t.sessions ++ new_session u ∷ []) ≡ length t.sessions + 1 = length_push t.sessions (new_session u) in
      let count : length (t.sessions ++ new_session u ∷ []) ≡ length p.0.1.sessions = ap (λ (x : Ids). length x.sessions) made in
      let none_after : HaveNone p.0.1.sessions = subst (λ (x : Ids). HaveNone x.sessions) made (none_push t.sessions u none) in
      joins_first u us t p.0.1 v wide.0 made (uuid_joins u t p.0 p.1 (omega (arith, few))) (all_join us p.0.1 v wide.1 none_after (omega (arith, few, long, count)) rest)
]

-- ## The whole

-- the sessions before any range
fresh_led : (us : List ℕ) (v : Ids) → Joins us no_ids v → IsLed (length us) v
fresh_led us v j =
    let clusters : v.clusters ≡ [] = j.clusters in
    record {
      go = subst (λ (cs : List Cluster). AllGo (length us) [] cs) (sym clusters) tt;
      settled = record {
        count = omega (arith, j.count);
        each = λ k h. rw clusters (j.none k (omega (arith, h, j.count)));
        most = λ s. rw clusters (omega arith);
      };
    }

led_on : (us : Items) (cs : List Cluster) (v u t : Ids) → after_uuids us no_ids ≡ Some v → after_clusters cs v ≡ Some u → u ≡ t → led_to us cs ≡ Some t
led_on us cs v u t e f g = ap (λ (o : Option Ids). option_and_then (λ t. after_clusters cs t) o) e ∙ f ∙ ap (λ (x : Ids). Some x) g

-- ## Sessions that join between ranges

more_go : (n : ℕ) (before cs : List Cluster) → AllGo n before cs → AllGo (n + 1) before cs
more_go n before [] go = tt
more_go n before (c ∷ cs) go = (
  record { low = go.0.low; high = omega (arith, go.0.high); begins = go.0.begins; size = go.0.size; final = go.0.final; first = go.0.first },
  more_go n (before ++ c ∷ []) cs go.1,
)

-- a session that isn't there yet has no ids
none_used : (n : ℕ) (before cs : List Cluster) → AllGo n before cs → used_of (n + 1) cs ≡ 0
none_used n before [] go = refl
none_used n before (c ∷ cs) go =
    let test : (c.session == n + 1) ≡ false = grind (arith, nat_tests, go.0.high) in
    let rest : used_of (n + 1) cs ≡ 0 = none_used n (before ++ c ∷ []) cs go.1 in
    rw test (omega (arith, rest))

joined_each : (n : ℕ) (u : ℕ) (t : Ids) → IsLed n t → (k : ℕ) → k < n + 1 → HasAll (session_at (t.sessions ++ new_session u ∷ []) k) (used_of (k + 1) t.clusters)
joined_each n u t led k h = elim (cases_lt k n) [
  | inl l ↦ rw (get_or_append_left t.sessions (new_session u ∷ []) no_session k (omega (arith, l, led.settled.count))) (led.settled.each k l)
  | inr g ↦
      let end : k ≡ n = omega (arith, g, h) in
      let none : used_of (k + 1) t.clusters ≡ 0 = ap (λ (i : ℕ). used_of (i + 1) t.clusters) end ∙ none_used n [] t.clusters led.go in
      rw (get_or_push t.sessions (new_session u) no_session k (omega (arith, end, led.settled.count)), none) (refl, refl, refl)
]

led_joined : (n : ℕ) (u : ℕ) (t w : Ids) → IsLed n t → with_joined u t ≡ w → IsLed (n + 1) w
led_joined n u t w led made =
    let long : length (t.sessions ++ new_session u ∷ []) ≡ length t.sessions + 1 = length_push t.sessions (new_session u) in
    subst (IsLed (n + 1)) made (record {
      go = more_go n [] t.clusters led.go;
      settled = record { count = omega (arith, long, led.settled.count); each = joined_each n u t led; most = led.settled.most };
    })

-- whether a session can join depends on the UUIDs alone
meets_of : (q : ℕ → Bool) (ss : List SessionIds) → position_or_len (λ (x : SessionIds). q x.uuid) ss ≡ position_or_len q (map (λ (x : SessionIds). x.uuid) ss)
meets_of q [] = refl
meets_of q (x ∷ ss) = rw (meets_of q ss) refl

clash_same : (u : ℕ) (a b : List SessionIds) → map (λ (x : SessionIds). x.uuid) a ≡ map (λ (x : SessionIds). x.uuid) b → clash u a ≡ clash u b
clash_same u a b e =
    let at_same : position_or_len (λ (x : SessionIds). spans_meet (free_number x.uuid) (free_number u)) a ≡ position_or_len (λ (x : SessionIds). spans_meet (free_number x.uuid) (free_number u)) b =
    meets_of (λ (v : ℕ). spans_meet (free_number v) (free_number u)) a ∙ ap (λ (us : List ℕ). position_or_len (λ (v : ℕ). spans_meet (free_number v) (free_number u)) us) e ∙ sym (meets_of (λ (v : ℕ). spans_meet (free_number v) (free_number u)) b) in
    let long : length a ≡ length b = sym (length-map a (λ (x : SessionIds). x.uuid)) ∙ ap (λ (us : List ℕ). length us) e ∙ length-map b (λ (x : SessionIds). x.uuid) in
    rw (at_same, long) refl

unless_ok : (u : ℕ) (t v : Ids) (o : Option ℕ) (p : ℕ × Ids) → join_unless u t o ≡ Ok p → join_unless u v o ≡ Ok (length v.sessions + 1, with_joined u v)
unless_ok u t v (Some s) p e = absurd (cc e)
unless_ok u t v None p e = refl

pub joins_too : (u : ℕ) (t v : Ids) (p : ℕ × Ids) → uuids_in t ≡ uuids_in v → after_joining u t ≡ Ok p → after_joining u v ≡ Ok (length v.sessions + 1, with_joined u v)
joins_too u t v p e f = elim (cases_Bool (is_v4 u)) [
  | inl y ↦
      let old : join_unless u t (clash u t.sessions) ≡ Ok p = rw y at f in
      let same_clash : join_unless u t (clash u v.sessions) ≡ Ok p = rw (clash_same u t.sessions v.sessions e) at old in
      rw y (unless_ok u t v (clash u v.sessions) p same_clash)
  | inr y ↦ let stop : ◌≡◌ {A = Result (ℕ × Ids) IdFault} (Err NotV4) (Ok p) = rw y at f in absurd (cc stop)
]

joins_push : (us : List ℕ) (u : ℕ) (a v w : Ids) (n : ℕ) → after_joins us a ≡ Ok v → after_joining u v ≡ Ok (n, w) → after_joins (us ++ u ∷ []) a ≡ Ok w
joins_push [] u a v w n e f =
    let equal : a ≡ v = cc e in
    rw (equal, f) refl
joins_push (x ∷ us) u a v w n e f = elim (cases_joining (after_joining x a)) [
  | inr g ↦ let stop : ◌≡◌ {A = Result Ids IdFault} (Err g.0) (Ok v) = rw g.1 at e in absurd (cc stop)
  | inl p ↦
      let rest : after_joins us p.0.1 ≡ Ok v = rw p.1 at e in
      rw p.1 (joins_push us u p.0.1 v w n rest f)
]

-- a table that steps led to, and the one that its sessions alone lead to
record WasLed (t : Ids) : Type 0 where
  count : ℕ
  before : Ids
  sessions : after_joins (uuids_in t) no_ids ≡ Ok before
  uuids : uuids_in t ≡ uuids_in before
  after : IsLed count t

led_join : (u : ℕ) (t : Ids) (p : ℕ × Ids) → WasLed t → after_joining u t ≡ Ok p → WasLed p.1
led_join u t p led e =
    let made : with_joined u t ≡ p.1 = joined_is u t p e in
    let behind : uuids_in p.1 ≡ uuids_in t ++ u ∷ [] = ap uuids_in (sym made) ∙ map-append (λ (x : SessionIds). x.uuid) t.sessions (new_session u ∷ []) in
    let behind_too : uuids_in (with_joined u led.before) ≡ uuids_in led.before ++ u ∷ [] = map-append (λ (x : SessionIds). x.uuid) led.before.sessions (new_session u ∷ []) in
    record {
      count = led.count + 1;
      before = with_joined u led.before;
      sessions = rw behind (joins_push (uuids_in t) u no_ids led.before (with_joined u led.before) (length led.before.sessions + 1) led.sessions (joins_too u t led.before p led.uuids e));
      uuids = behind ∙ ap (λ (us : List ℕ). us ++ u ∷ []) led.uuids ∙ sym behind_too;
      after = led_joined led.count u t p.1 led.after made;
    }

led_range : (r : IdRange) (t w : Ids) → WasLed t → after_finalising r t ≡ Ok w → WasLed w
led_range r t w led e = record {
  count = led.count;
  before = led.before;
  sessions = rw (uuids_kept r t w e) led.sessions;
  uuids = uuids_kept r t w e ∙ led.uuids;
  after = led_after led.count r t w led.after e;
}

steps_led : (steps : List Step) (t u : Ids) → WasLed t → after_steps steps t ≡ Ok u → WasLed u
steps_led [] t u led e = let equal : t ≡ u = cc e in subst WasLed equal led
steps_led (joins x ∷ steps) t u led e = elim (cases_joining (after_joining x t)) [
  | inr f ↦ let stop : ◌≡◌ {A = Result Ids IdFault} (Err f.0) (Ok u) = rw f.1 at e in absurd (cc stop)
  | inl p ↦ let rest : after_steps steps p.0.1 ≡ Ok u = rw p.1 at e in steps_led steps p.0.1 u (led_join x t p.0 led p.1) rest
]
steps_led (finalises r ∷ steps) t u led e = elim (cases_result (after_finalising r t)) [
  | inr f ↦ let stop : ◌≡◌ {A = Result Ids IdFault} (Err f.0) (Ok u) = rw f.1 at e in absurd (cc stop)
  | inl v ↦ let rest : after_steps steps v.0 ≡ Ok u = rw v.1 at e in steps_led steps v.0 u (led_range r t v.0 led v.1) rest
]

none_led : WasLed no_ids
none_led = record {
  count = 0;
  before = no_ids;
  sessions = refl;
  uuids = refl;
  after = record { go = tt; settled = record { count = refl; each = λ k h. absurd (omega (arith, h)); most = λ s. omega arith } };
}

was_led : (t : Ids) → IsTable t → WasLed t
was_led t h = steps_led h.steps no_ids t none_led h.led

read_written : (t : Ids) → IsTable t → WasLed t → IsRead (table_data t) t
read_written t h led =
    let long : length (uuids_in t) ≡ length t.sessions = length-map t.sessions (λ (x : SessionIds). x.uuid) in
    let count : led.count ≡ length (uuids_in t) = sym led.after.settled.count ∙ sym long in
    let after : IsLed (length (uuids_in t)) t = subst (λ (n : ℕ). IsLed n t) count led.after in
    let j : Joins (uuids_in t) no_ids led.before = all_join (uuids_in t) no_ids led.before h.wide (λ k l. absurd (omega (arith, l))) (omega (arith, h.few, long)) led.sessions in
    let fresh : IsLed (length (uuids_in t)) led.before = fresh_led (uuids_in t) led.before j in
    let given : AllGiven (length (uuids_in t)) t.clusters t.clusters led.before = all_given (length (uuids_in t)) [] t.clusters led.before after.go j.clusters fresh.settled after.settled.most in
    let equal : given.after ≡ t = one_table (length (uuids_in t)) given.after t given.settled after.settled (given.uuids ∙ sym led.uuids) given.clusters in
    record {
      clusters = items_of (map cluster_data t.clusters);
      uuids = items_of (map uuid_data t.sessions);
      parts = refl;
      read = clusters_back (length (uuids_in t)) [] t.clusters (omega (arith, h.few, long)) after.go after.settled.most;
      led = rw (texts_are t.sessions) (led_on (items_of (map text_data (uuids_in t))) t.clusters led.before given.after t j.read given.done equal);
    }

pub table_read : (d : Data) (t : Ids) → IsTable t → d ≡ table_data t → IsRead d t
table_read d t h e = subst (λ (x : Data). IsRead x t) (sym e) (read_written t h (was_led t h))

-- ## The laws

-- a value is read as one table at most
one_clusters : (d : Data) (t u : Ids) (a : IsRead d t) (b : IsRead d u) → ◌≡◌ {A = Items × Items} (a.clusters, a.uuids) (b.clusters, b.uuids) → t.clusters ≡ u.clusters
one_clusters d t u a b e =
    let both : ◌≡◌ {A = Option (List Cluster)} (Some t.clusters) (Some u.clusters) = sym a.read ∙ ap (λ (p : Items × Items). clusters_of p.0) e ∙ b.read in
    cc both

pub one_read : (d : Data) (t u : Ids) → IsRead d t → IsRead d u → t ≡ u
one_read d t u a b =
    let parts : ◌≡◌ {A = Option (Items × Items)} (Some (a.clusters, a.uuids)) (Some (b.clusters, b.uuids)) = sym a.parts ∙ b.parts in
    let same_parts : ◌≡◌ {A = Items × Items} (a.clusters, a.uuids) (b.clusters, b.uuids) = cc parts in
    let same_clusters : t.clusters ≡ u.clusters = one_clusters d t u a b same_parts in
    let tables : ◌≡◌ {A = Option Ids} (Some t) (Some u) = sym a.led ∙ ap (λ (p : Items × Items). led_to p.1 t.clusters) same_parts ∙ ap (λ (cs : List Cluster). led_to b.uuids cs) same_clusters ∙ b.led in
    cc tables

pub law_one : (t u : Ids) → IsTable t → IsTable u → table_data t ≡ table_data u → t ≡ u
law_one t u a b e = one_read (table_data t) t u (table_read (table_data t) t a refl) (table_read (table_data t) u b e)

pub law_settled : (t : Ids) → IsTable t → AreSettled t
law_settled t h s x e =
    let led : WasLed t = was_led t h in
    let known = session_known t.sessions s x e in
    let has : HasAll (session_at t.sessions (s - 1)) (used_of ((s - 1) + 1) t.clusters) = led.after.settled.each (s - 1) (omega (arith, known.1, led.after.settled.count)) in
    let here : HasAll x (used_of ((s - 1) + 1) t.clusters) = rw known.2 at has in
    (here.0 ∙ sym here.2, here.1 ∙ sym here.2)

pub read_refused : {A F : Type 0} (d : Data) (r : Result A (Or F)) → IfRefused r (λ _. (t : Ids) → ¬ IsRead d t) → IfRefused r (λ _. (t : Ids) → IsTable t → ¬ (d ≡ table_data t))
read_refused d (Ok v) h = tt
read_refused d (Err (Fault f)) h = λ t table e. h t (table_read d t table e)
read_refused d (Err NoMemory) h = tt
