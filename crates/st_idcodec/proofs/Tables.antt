-- What is read of a value as a table is a table.
use Rattle.std.proofs.Common.{◌≡◌, inl, inr, subst, ◌<◌, ◌≤◌, ◌+◌, ◌^◌, ℕ, refl, sym, ap, ◌∙◌, arith, List, [], ◌∷◌, ◌++◌, length, map, Option, Some, None}
use Rattle.std.proofs.lemmas.Bool.{cases_Bool}
use Rattle.std.proofs.lemmas.Bool.Decides.{nat_tests}
use Rattle.std.proofs.lemmas.List.{length-map, map-append, length_push, append_assoc, append-nil}
use Rattle.std.specs.Option.{option_map}
use Rattle.std.specs.Prelude.{nat_lt, Result, Ok, Err, IfOk}
use Rattle.std.specs.Result.{result_ok}
use Rattle.serde_json.specs.Data.{Data, string, Items, no_items, item}
use Rattle.serde_json.specs.View.{items_of}
use Rattle.st_clusters.specs.Table.{Ids, new_session, after_joining, after_finalising}
use Rattle.st_clusters.specs.Ids.{ids_of}
use Rattle.st_clusters.specs.declared.compressor.Compressor.{Compressor}
use Rattle.st_ids.specs.Or.{and_then}
use Rattle.st_clusters.specs.declared.ids.Cluster.{Cluster}
use Rattle.st_clusters.specs.declared.ids.IdRange.{IdRange}
use Rattle.st_clusters.specs.declared.ids.SessionIds.{SessionIds}
use Rattle.st_idcodec.specs.TableText.{uuid_text, uuid_data, table_data}
use Rattle.st_clusters.specs.Reached.{no_ids, uuids_in, AreWide}
use Rattle.st_idcodec.specs.Tables.{Step, joins, finalises, IsTable, after_steps}
use Rattle.st_idcodec.specs.inside.Reading.{IsRead, uuid_of, after_uuid, after_uuid_value, after_uuids, front_of, rest_of, after_range, after_cluster, after_clusters}
use Rattle.st_idcodec.proofs.Sound.{from_some, from_map, uuid_is, clusters_are, members_is}
use Rattle.st_clusters.proofs.SessionsTouched.{with_joined, joined_is}
use Rattle.st_idcodec.proofs.Sessions.{after_log, after_joins, uuids_kept, from_ok}

abbrev pub text_data : ℕ → Data
text_data u = string (uuid_text u)

pub texts_are : (ss : List SessionIds) → items_of (map uuid_data ss) ≡ items_of (map text_data (map (λ (x : SessionIds). x.uuid) ss))
texts_are [] = refl
texts_are (x ∷ ss) = ap (λ (ds : Items). item (text_data x.uuid) ds) (texts_are ss)

-- ## Sessions

-- a session that joined for a UUID
pub record HasJoined (u : ℕ) (t v : Ids) : Type 0 where
  pub number : ℕ
  pub joined : after_joining u t ≡ Ok (number, v)
  pub few : length t.sessions < 65535
  pub made : with_joined u t ≡ v

pub has_joined : (u : ℕ) (t v : Ids) → after_uuid u t ≡ Some v → HasJoined u t v
has_joined u t v e = elim (cases_Bool (nat_lt (length t.sessions) 65535)) [
  | inr f ↦ let none : ◌≡◌ {A = Option Ids} None (Some v) = rw f at e in absurd (cc none)
  | inl f ↦
      let given : option_map (λ (p : ℕ × Ids). p.1) (result_ok (after_joining u t)) ≡ Some v = rw f at e in
      let p = from_map (result_ok (after_joining u t)) (λ (p : ℕ × Ids). p.1) v given in
      let done : after_joining u t ≡ Ok p.0 = from_ok (after_joining u t) p.0 p.1 in
      record {
        number = p.0.0;
        joined = done ∙ ap (λ (w : Ids). Ok (p.0.0, w)) p.2;
        few = grind (arith, nat_tests, f);
        made = joined_is u t p.0 done ∙ p.2;
      }
]

-- the sessions of some values have joined
pub record HaveJoined (ds : Items) (t v : Ids) : Type 0 where
  pub uuids : List ℕ
  pub wide : AreWide uuids
  pub joined : after_joins uuids t ≡ Ok v
  pub texts : ds ≡ items_of (map text_data uuids)
  pub all : uuids_in v ≡ uuids_in t ++ uuids
  pub few : length t.sessions + length uuids ≤ 65535

join_first : (d : Data) (ds : Items) (t w v : Ids) (u : ℕ) → u < 2 ^ 128 → d ≡ text_data u → HasJoined u t w → HaveJoined ds w v → HaveJoined (item d ds) t v
join_first d ds t w v u wide text first rest =
    let long : length (t.sessions ++ new_session u ∷ []) ≡ length t.sessions + 1 = length_push t.sessions (new_session u) in
    let same : length (t.sessions ++ new_session u ∷ []) ≡ length w.sessions = ap (λ (x : Ids). length x.sessions) first.made in
    let behind : uuids_in w ≡ uuids_in t ++ u ∷ [] = ap uuids_in (sym first.made) ∙ map-append (λ (x : SessionIds). x.uuid) t.sessions (new_session u ∷ []) in
    let then_all : after_joins (u ∷ rest.uuids) t ≡ Ok v = rw first.joined rest.joined in
    let in_front : (uuids_in t ++ u ∷ []) ++ rest.uuids ≡ uuids_in t ++ u ∷ rest.uuids = append_assoc (uuids_in t) (u ∷ []) rest.uuids in
    record {
      uuids = u ∷ rest.uuids;
      wide = (wide, rest.wide);
      joined = then_all;
      texts = rw (text, rest.texts) refl;
      all = rest.all ∙ ap (λ (xs : List ℕ). xs ++ rest.uuids) behind ∙ in_front;
      few = omega (arith, rest.few, long, same);
    }

pub have_joined : (ds : Items) (t v : Ids) → length t.sessions ≤ 65535 → after_uuids ds t ≡ Some v → HaveJoined ds t v
have_joined no_items t v few e =
    let same : t ≡ v = cc e in
    record { uuids = []; wide = tt; joined = ap (λ (x : Ids). Ok x) same; texts = refl; all = ap uuids_in (sym same) ∙ sym (append-nil (uuids_in t)); few = omega (arith, few) }
have_joined (item d ds) t v few e =
    let h = from_some (after_uuid_value d t) (λ w. after_uuids ds w) v e in
    let u = from_some (uuid_of d) (λ u. after_uuid u t) h.0 h.1 in
    let is = uuid_is d u.0 u.1 in
    let first : HasJoined u.0 t h.0 = has_joined u.0 t h.0 u.2 in
    let long : length (t.sessions ++ new_session u.0 ∷ []) ≡ length t.sessions + 1 = length_push t.sessions (new_session u.0) in
    let same : length (t.sessions ++ new_session u.0 ∷ []) ≡ length h.0.sessions = ap (λ (x : Ids). length x.sessions) first.made in
    join_first d ds t h.0 v u.0 is.0 is.1 first (have_joined ds h.0 v (omega (arith, first.few, long, same)) h.2)

-- ## Ranges

-- the ranges that give some clusters
abbrev pub ranges_of : List Cluster → List IdRange
ranges_of [] = []
ranges_of (c ∷ cs) = front_of c ∷ rest_of c ∷ ranges_of cs

two_then : (r q : IdRange) (rs : List IdRange) (t w x u : Ids) → after_finalising r t ≡ Ok w → after_finalising q w ≡ Ok x → after_log rs x ≡ Ok u → after_log (r ∷ q ∷ rs) t ≡ Ok u
two_then r q rs t w x u e f g = rw (e, f) g

-- the ids of some clusters are finalised
abbrev pub AreFinalised : List Cluster → Ids → Ids → Type 0
AreFinalised cs t u = (after_log (ranges_of cs) t ≡ Ok u) × (uuids_in u ≡ uuids_in t)

pub are_finalised : (cs : List Cluster) (t u : Ids) → after_clusters cs t ≡ Some u → AreFinalised cs t u
are_finalised [] t u e = let same : t ≡ u = cc e in (ap (λ (x : Ids). Ok x) same, ap uuids_in (sym same))
are_finalised (c ∷ cs) t u e =
    let x = from_some (after_cluster c t) (λ w. after_clusters cs w) u e in
    let w = from_some (after_range (front_of c) t) (λ w. after_range (rest_of c) w) x.0 x.1 in
    let front : after_finalising (front_of c) t ≡ Ok w.0 = from_ok (after_finalising (front_of c) t) w.0 w.1 in
    let rest : after_finalising (rest_of c) w.0 ≡ Ok x.0 = from_ok (after_finalising (rest_of c) w.0) x.0 w.2 in
    let others : AreFinalised cs x.0 u = are_finalised cs x.0 u x.2 in
    (two_then (front_of c) (rest_of c) (ranges_of cs) t w.0 x.0 u front rest others.0, others.1 ∙ uuids_kept (rest_of c) w.0 x.0 rest ∙ uuids_kept (front_of c) t w.0 front)

-- ## The whole

-- the steps that some sessions and then some ranges are
abbrev pub steps_of : List ℕ → List IdRange → List Step
steps_of [] [] = []
steps_of [] (r ∷ rs) = finalises r ∷ steps_of [] rs
steps_of (u ∷ us) rs = joins u ∷ steps_of us rs

ranges_led : (rs : List IdRange) (v : Ids) → after_steps (steps_of [] rs) v ≡ after_log rs v
ranges_led [] v = refl
ranges_led (r ∷ rs) v = elim (after_finalising r v) as (λ o. and_then o (λ w. after_steps (steps_of [] rs) w) ≡ and_then o (λ w. after_log rs w)) [ Ok w ↦ ranges_led rs w | Err f ↦ refl ]

joins_led : (us : List ℕ) (rs : List IdRange) (a : Ids) → after_steps (steps_of us rs) a ≡ and_then (after_joins us a) (λ v. after_log rs v)
joins_led [] rs a = ranges_led rs a
joins_led (u ∷ us) rs a = elim (after_joining u a) as (λ o. and_then o (λ p. after_steps (steps_of us rs) p.1) ≡ and_then (and_then o (λ p. after_joins us p.1)) (λ v. after_log rs v)) [ Ok p ↦ joins_led us rs p.1 | Err f ↦ refl ]

led : (us : List ℕ) (rs : List IdRange) (v t : Ids) → after_joins us no_ids ≡ Ok v → after_log rs v ≡ Ok t → after_steps (steps_of us rs) no_ids ≡ Ok t
led us rs v t e f = joins_led us rs no_ids ∙ rw e f

pub read_is : (d : Data) (t : Ids) → IsRead d t → IsTable t × (d ≡ table_data t)
read_is d t r =
    let v = from_some (after_uuids r.uuids no_ids) (λ u. after_clusters t.clusters u) t r.led in
    let joined : HaveJoined r.uuids no_ids v.0 = have_joined r.uuids no_ids v.0 (omega arith) v.1 in
    let final : AreFinalised t.clusters v.0 t = are_finalised t.clusters v.0 t v.2 in
    let uuids : uuids_in t ≡ joined.uuids = final.1 ∙ joined.all in
    let count : length t.sessions ≡ length joined.uuids = sym (length-map t.sessions (λ (x : SessionIds). x.uuid)) ∙ ap (λ (us : List ℕ). length us) uuids in
    let texts : r.uuids ≡ items_of (map uuid_data t.sessions) = joined.texts ∙ ap (λ (us : List ℕ). items_of (map text_data us)) (sym uuids) ∙ sym (texts_are t.sessions) in (
      record { steps = steps_of joined.uuids (ranges_of t.clusters); few = omega (arith, joined.few, count); wide = subst AreWide (sym uuids) joined.wide; led = led joined.uuids (ranges_of t.clusters) v.0 t joined.joined final.0 },
      rw (members_is d r.clusters r.uuids r.parts, clusters_are r.clusters t.clusters r.read, texts) refl,
    )

pub read_ok : {E : Type 0} (d : Data) (r : Result Compressor E) → IfOk r (λ c. IsRead d (ids_of c)) → IfOk r (λ c. IsTable (ids_of c) × (d ≡ table_data (ids_of c)))
read_ok d (Ok c) h = read_is d (ids_of c) h
read_ok d (Err e) h = tt
