-- The clients of a load join.
use Rattle.std.proofs.Common.{◌≡◌, ◌<◌, ◌+◌, nat_le, ℕ, Bool, true, false, cond, List, [], ◌∷◌, ◌++◌, length, length-append, map, None, refl, sym, ap, ◌∙◌, subst, arith, codes}
use Rattle.std.specs.List.{position}
use Rattle.std.proofs.lemmas.Bool.Decides.{nat_tests}
use Rattle.std.proofs.lemmas.List.{length-map, map-append}
use Rattle.st_clusters.specs.Free.{ahead, free_number, uuid_of}
use Rattle.st_lists.specs.Clients.{empty_state, new_client}
use Rattle.st_lists.specs.Log.{clashes, log_with, sessions_in}
use Rattle.st_lists.specs.declared.lists.Body.TheVariants.{Join}
use Rattle.st_lists.specs.declared.lists.Client.{Client}
use Rattle.st_lists.specs.declared.lists.Entry.{Entry}
use Rattle.st_lists.specs.declared.lists.WorldState.{WorldState}
use Rattle.st_script.specs.Header.{HeaderView}
use Rattle.st_script.specs.Steps as step
use Rattle.st_script.specs.declared.answer.Answer.{Answer}
use Rattle.st_script.specs.declared.refusal.Refusal.TheVariants as no
use Rattle.st_world.specs.World.{AtClient, IsNext, join, limit_refusal, uuid_for}
use Rattle.st_script.specs.declared.answer.Answer.TheVariants as answer
use Rattle.st_ids.specs.declared.names.LimitOf.TheVariants.{Clients, Log}
use Rattle.st_load_laws.specs.Load.{AreMade, load_clients, step_by}
use Rattle.st_load_laws.specs.Loaded.{IsLoaded, IsLoading, MakesFew, queued, total}
use Rattle.st_load_laws.proofs.Finding.{is_name, none_here}
use Rattle.st_load_laws.proofs.Sets.{all_append, total_append}

-- the session that enters next, and its UUID
abbrev session_of : WorldState → ℕ
session_of w = sessions_in w.log + 1

abbrev uuid_next : WorldState → ℕ
uuid_next w = uuid_for (session_of w) None

-- where a client of a new name joins
abbrev after_join : WorldState → List ℕ → WorldState
after_join w name = record w {
  log = log_with w.log (session_of w) (Join (uuid_next w));
  clients = w.clients ++ new_client (length w.log + 1) (session_of w) (uuid_next w) name ∷ [];
}

-- three tests before what is done
abbrev chosen : Bool → Bool → Bool → Answer → Answer → Answer → Answer → WorldState → WorldState → WorldState × Answer
chosen b c d x y z t w u = cond b (w, x) (cond c (w, y) (cond d (w, z) (u, t)))

passed : (b c d : Bool) (x y z t : Answer) (w u v : WorldState) (a : Answer) → b ≡ false → c ≡ false → d ≡ false → chosen b c d x y z t w u ≡ (v, a) → u ≡ v
passed false false false x y z t w u v a p q r e = ap (λ (k : WorldState × Answer). k.0) e
passed true c d x y z t w u v a p q r e = absurd (cc)
passed false true d x y z t w u v a p q r e = absurd (cc)
passed false false true x y z t w u v a p q r e = absurd (cc)

joins_so : (w v : WorldState) (name : List ℕ) (a : Answer) → length w.clients < 64 → length w.log < 65535 → clashes (uuid_next w) w.log ≡ false → join w name None ≡ (v, a)
    → after_join w name ≡ v
joins_so w v name a few short apart is =
    let one : nat_le 64 (length w.clients) ≡ false = grind (arith, nat_tests, few) in
    let two : nat_le 65535 (length w.log) ≡ false = grind (arith, nat_tests, short) in
    passed (nat_le 64 (length w.clients)) (nat_le 65535 (length w.log)) (clashes (uuid_next w) w.log) (limit_refusal (record { of = Clients; kept = length w.clients })) (limit_refusal (record { of = Log; kept = length w.log }))
    (answer.No no.Clash) (answer.Join (length w.log + 1) (session_of w)) w (after_join w name) v a one two apart is

-- the world after a join, which is that of the load
record IsJoined (names : List (List ℕ)) (n : ℕ) (u v : WorldState) : Type 0 where
  same : u ≡ v
  loaded : IsLoaded names n v

joined : (h : HeaderView) (names : List (List ℕ)) (n : ℕ) (w v : WorldState) (name : List ℕ) (a : Answer) → IsLoaded names n w → length names < 60 → n < 60000
    → position (is_name name) names ≡ None → clashes (uuid_next w) w.log ≡ false → IsNext h w (step_by (step.join None) name) v a → IsJoined (names ++ name ∷ []) (n + 1) (after_join w name) v
joined h names n w v name a l count few none apart is =
    let new = none_here w.clients names name l.named none in
    let done : join w name None ≡ (v, a) = subst (λ o. AtClient h w (step_by (step.join None) name) o v a) new is in
    let many : length w.clients ≡ length names = sym (length-map w.clients (λ (c : Client). c.name)) ∙ ap length l.named in
    let most = l.few in
    let same : after_join w name ≡ v = joins_so w v name a (omega (arith, many, count)) (omega (arith, most, few)) apart done in
    let c = new_client (length w.log + 1) (session_of w) (uuid_next w) name in
    let longer : length (log_with w.log (session_of w) (Join (uuid_next w))) ≡ length w.log + 1 = length-append w.log _ in
    let waiting : total queued (w.clients ++ c ∷ []) ≡ total queued w.clients + total queued (c ∷ []) = total_append queued w.clients (c ∷ []) in
    record {
      same = same;
      loaded = subst (IsLoaded (names ++ name ∷ []) (n + 1)) same (record {
        named = map-append (λ (x : Client). x.name) w.clients (c ∷ []) ∙ ap (λ ns. ns ++ name ∷ []) l.named;
        clients = all_append IsLoading w.clients (c ∷ []) l.clients (record { connected = refl; transaction = refl; queue = tt }, tt);
        log = all_append (λ (e : Entry). MakesFew e.body) w.log _ l.log (omega arith, tt);
        few = omega (arith, longer, waiting, most);
      });
    }

empty_loaded : IsLoaded [] 0 empty_state
empty_loaded = record { named = refl; clients = tt; log = tt; few = omega arith }

-- ## The four clients

abbrev world_1 : WorldState
world_1 = after_join empty_state (codes "A")

abbrev world_2 : WorldState
world_2 = after_join world_1 (codes "B")

abbrev world_3 : WorldState
world_3 = after_join world_2 (codes "C")

-- the next client of a world joins, where the world is known
abbrev IsApart : WorldState → Type 0
IsApart w = clashes (uuid_next w) w.log ≡ false

apart_1 : IsApart world_1
unfolding ahead free_number uuid_of
apart_1 = refl

apart_2 : IsApart world_2
unfolding ahead free_number uuid_of
apart_2 = refl

apart_3 : IsApart world_3
unfolding ahead free_number uuid_of
apart_3 = refl

pub joins_load : (h : HeaderView) (v : WorldState) (refused : ℕ) → AreMade h empty_state (map (step_by (step.join None)) load_clients) v refused → IsLoaded load_clients 4 v
joins_load h v refused (w1, a1, r1, is1, (w2, a2, r2, is2, (w3, a3, r3, is3, (w4, a4, r4, is4, (same, none), e4), e3), e2), e1) =
    let l1 = joined h [] 0 empty_state w1 (codes "A") a1 empty_loaded (omega arith) (omega arith) refl refl is1 in
    let l2 = joined h (codes "A" ∷ []) 1 w1 w2 (codes "B") a2 l1.loaded (omega arith) (omega arith) refl (subst IsApart l1.same apart_1) is2 in
    let at2 : world_2 ≡ w2 = ap (λ (w : WorldState). after_join w (codes "B")) l1.same ∙ l2.same in
    let l3 = joined h (codes "A" ∷ codes "B" ∷ []) 2 w2 w3 (codes "C") a3 l2.loaded (omega arith) (omega arith) refl (subst IsApart at2 apart_2) is3 in
    let at3 : world_3 ≡ w3 = ap (λ (w : WorldState). after_join w (codes "C")) at2 ∙ l3.same in
    let l4 = joined h (codes "A" ∷ codes "B" ∷ codes "C" ∷ []) 3 w3 w4 (codes "D") a4 l3.loaded (omega arith) (omega arith) refl (subst IsApart at3 apart_3) is4 in
    subst (IsLoaded load_clients 4) (sym same) l4.loaded
