-- At the end of a load each client has sent and received all, so that all show one tree.
use Rattle.std.proofs.Common.{◌≡◌, ◌⊎◌, inl, inr, ◌<◌, ◌≤◌, ◌+◌, nat_eq, ℕ, zero, suc, Bool, true, List, [], ◌∷◌, ◌++◌, length, map, drop, Option, Some, None, option_map, option_and_then, codes, refl, sym, ap, ◌∙◌, subst, arith}
use Rattle.std.specs.Cmp.Lexicographic.{pointwise}
use Rattle.std.specs.List.{AllByRecursion, list_all, slice_get, slice_set}
use Rattle.std.specs.Option.{option_map_or}
use Rattle.std.proofs.lemmas.Bool.Decides.{nat_tests}
use Rattle.st_lemmas.proofs.Bools.{and-both}
use Rattle.st_marks.specs.Document.{Document}
use Rattle.st_ids.specs.declared.names.Limit.{Limit}
use Rattle.st_lists.specs.Clients.{empty_state, place_of}
use Rattle.st_lists.specs.Limits.{log_limit_passed}
use Rattle.st_lists.specs.Lines.{main_line}
use Rattle.st_lists.specs.Log.{commits_by, intents_of, own_in_flight, waiting}
use Rattle.st_lists.specs.Names.{names_in_text}
use Rattle.st_lists.specs.declared.lists.Body.{Body}
use Rattle.st_lists.specs.declared.lists.Client.{Client}
use Rattle.st_lists.specs.declared.lists.Entry.{Entry}
use Rattle.st_lists.specs.declared.lists.Transaction.{Transaction}
use Rattle.st_lists.specs.declared.lists.WorldState.{WorldState}
use Rattle.st_script.specs.Header.{HeaderView}
use Rattle.st_script.specs.Steps.{ActView, StepView}
use Rattle.st_script.specs.Steps as step
use Rattle.st_script.specs.declared.answer.Answer.{Answer}
use Rattle.st_script.specs.declared.answer.Answer.TheVariants as answer
use Rattle.st_script.specs.declared.refusal.Refusal.TheVariants as no
use Rattle.st_script.proofs.OfForm.{header_line_kept}
use Rattle.st_world.specs.World.{AtClient, ByConnected, IsActOf, IsDelivered, IsDeliveredIn, IsDeliveredTo, IsNext, IsShown, after_entry, sequence}
use Rattle.st_world_laws.specs.Worlds.{IsClient, IsQueue, IsWorld, KeepsRules}
use Rattle.st_world_laws.proofs.Going.{begun_sound}
use Rattle.st_world_laws.proofs.GoingOn.{goes_on}
use Rattle.st_load_laws.specs.Load.{AreMade, EachUntil, IsMadeUntil, ends, goes, load_clients, step_by}
use Rattle.st_load_laws.specs.Loaded.{IsLoaded, IsLoading}
use Rattle.st_load_laws.proofs.Drawing.{drawn_goes, received, sent}
use Rattle.st_load_laws.proofs.Ending.{received_loaded, sent_loaded}
use Rattle.st_load_laws.proofs.Finding.{IsAmong, IsHere, here, place_named}
use Rattle.st_load_laws.proofs.Joining.{joins_load}
use Rattle.st_load_laws.proofs.Sets.{all_get}
use Rattle.st_work.specs.Generator.{first_work, steps_of}
use Rattle.st_answers.proofs.LoadRules.{drawn_rules}
use Rattle.st_answers.specs.Work.{AreShown, IsWorkLine, are_same, load_header}
use Rattle.st_equal_laws.proofs.ShownAlike.{show_alike}

-- ## Lists

get_set : {X : Type 0} (xs : List X) (i j : ℕ) (x y : X) → slice_get (slice_set xs i x) j ≡ Some y → (slice_get xs j ≡ Some y) ⊎ ((y ≡ x) × (j ≡ i))
get_set [] i j x y e = inl e
get_set (z ∷ zs) zero zero x y e = let same : x ≡ y = cc in inr (sym same, refl)
get_set (z ∷ zs) zero (suc j) x y e = inl e
get_set (z ∷ zs) (suc i) zero x y e = inl e
get_set (z ∷ zs) (suc i) (suc j) x y e = later (get_set zs i j x y e)
  where
    later : (slice_get zs j ≡ Some y) ⊎ ((y ≡ x) × (j ≡ i)) → (slice_get zs j ≡ Some y) ⊎ ((y ≡ x) × (suc j ≡ suc i))
    later (inl q) = inl q
    later (inr (q, at)) = inr (q, ap suc at)

same_there : {X : Type 0} (xs : List X) (i : ℕ) (x y : X) → slice_get xs i ≡ Some x → slice_get xs i ≡ Some y → x ≡ y
same_there xs i x y e f = let both : Some x ≡ Some y = sym e ∙ f in cc

all_passed : {X : Type 0} (xs : List X) (i : ℕ) → slice_get xs i ≡ None → length xs ≤ i
all_passed [] i e = omega arith
all_passed (x ∷ xs) zero e = absurd (cc)
all_passed (x ∷ xs) (suc i) e = let rest = all_passed xs i e in omega (arith, rest)

drop_all : {X : Type 0} (xs : List X) (n : ℕ) → length xs ≤ n → drop n xs ≡ []
drop_all [] zero h = refl
drop_all [] (suc n) h = refl
drop_all (x ∷ xs) zero h = absurd (omega (arith, h))
drop_all (x ∷ xs) (suc n) h = drop_all xs n (omega (arith, h))

earlier_or_here : (i k : ℕ) → i < k + 1 → (i < k) ⊎ (i ≡ k)
earlier_or_here zero zero h = inr refl
earlier_or_here zero (suc k) h = inl (omega arith)
earlier_or_here (suc i) zero h = absurd (omega (arith, h))
earlier_or_here (suc i) (suc k) h = later (earlier_or_here i k (omega (arith, h)))
  where
    later : (i < k) ⊎ (i ≡ k) → (suc i < suc k) ⊎ (suc i ≡ suc k)
    later (inl q) = inl (omega (arith, q))
    later (inr q) = inr (ap suc q)

-- the client of a name stands at the name's place
place_here : (n : ℕ) (w : WorldState) (name : List ℕ) (l : IsLoaded load_clients n w) (among : IsAmong load_clients name) (p : IsHere w.clients name) → among.place ≡ p.place
place_here n w name l among p = go (slice_get w.clients among.place) (ap (λ (o : Option ℕ). option_and_then (λ (i : ℕ). option_map {U = ℕ × Client} (λ (d : Client). (i, d)) (slice_get w.clients i)) o) (sym at) ∙ p.found)
  where
    at : place_of name w.clients ≡ Some among.place
    at = place_named w.clients load_clients name l.named ∙ among.found

    go : (o : Option Client) → option_map {U = ℕ × Client} (λ (d : Client). (among.place, d)) o ≡ Some (p.place, p.client) → among.place ≡ p.place
    go None e = absurd (cc)
    go (Some c) e = ap (λ (x : Option (ℕ × Client)). option_map_or (λ (q : ℕ × Client). q.0) x 0) e

-- ## Sending

-- the first so many clients have nothing left to send
abbrev AreSent : ℕ → WorldState → Type 0
AreSent k w = (i : ℕ) (c : Client) → slice_get w.clients i ≡ Some c → i < k → c.queue ≡ []

-- what one that sends comes to
record SendsOn (k : ℕ) (w v : WorldState) (i : ℕ) (a : Answer) : Type 0 where
  keeps : AreSent k w → AreSent k v
  stays : a ≡ answer.No no.NothingToSend → v ≡ w
  empty : a ≡ answer.No no.NothingToSend → (c : Client) → slice_get w.clients i ≡ Some c → c.queue ≡ []

text_sent : (k : ℕ) (w v : WorldState) (i : ℕ) (c : Client) (text : Body) (rest : List Body) (a : Answer) → slice_get w.clients i ≡ Some c → c.queue ≡ text ∷ rest
    → (o : Option Limit) → after_entry w i c text rest o ≡ (v, a) → SendsOn k w v i a
text_sent k w v i c text rest a there queue None f = record { keeps = keeps; stays = λ q. absurd (other q); empty = λ q. absurd (other q) }
  where
    other : a ≡ answer.No no.NothingToSend → ⊥
    other q = let bad = ap (λ (x : WorldState × Answer). x.1) f ∙ q in cc

    keeps : AreSent k w → AreSent k v
    keeps s = subst (AreSent k) (ap (λ (q : WorldState × Answer). q.0) f) (λ j d at less. go j d less (get_set w.clients i j (record c { queue = rest }) d at))
      where
        go : (j : ℕ) (d : Client) → j < k → (slice_get w.clients j ≡ Some d) ⊎ ((d ≡ record c { queue = rest }) × (j ≡ i)) → d.queue ≡ []
        go j d less (inl q) = s j d q less
        go j d less (inr (q, at)) = let none : text ∷ rest ≡ [] = sym queue ∙ s i c there (subst (λ (x : ℕ). x < k) at less) in absurd (cc)
text_sent k w v i c text rest a there queue (Some o) f = record { keeps = λ s. subst (AreSent k) (ap (λ (q : WorldState × Answer). q.0) f) s; stays = λ q. absurd (other q); empty = λ q. absurd (other q) }
  where
    other : a ≡ answer.No no.NothingToSend → ⊥
    other q = let bad = ap (λ (x : WorldState × Answer). x.1) f ∙ q in cc

sends_on : (k : ℕ) (h : HeaderView) (n : ℕ) (w v : WorldState) (name : List ℕ) (a : Answer) (l : IsLoaded load_clients n w) (among : IsAmong load_clients name)
    → IsNext h w (step_by step.sequence name) v a → SendsOn k w v among.place a
sends_on k h n w v name a l among is =
    let p = here load_clients n w name l among in
    let c = p.client in
    let loading = all_get IsLoading w.clients p.place c l.clients p.there in
    let at = subst (λ o. AtClient h w (step_by step.sequence name) o v a) p.found is in
    let done : sequence w p.place c c.queue ≡ (v, a) = subst (λ b. ByConnected true b w v a (IsActOf h w step.sequence p.place c 0 (main_line c) v a)) loading.connected at in
    subst (λ (i : ℕ). SendsOn k w v i a) (sym (place_here n w name l among p)) (go p.place c p.there c.queue refl done)
  where
    go : (i : ℕ) (c : Client) → slice_get w.clients i ≡ Some c → (queue : List Body) → c.queue ≡ queue → sequence w i c queue ≡ (v, a) → SendsOn k w v i a
    go i c there [] e f =
        let same : w ≡ v = ap (λ (q : WorldState × Answer). q.0) f in
        record {
          keeps = λ s. subst (AreSent k) same s;
          stays = λ q. sym same;
          empty = λ q d at. ap (λ (x : Client). x.queue) (same_there w.clients i d c at there) ∙ e;
        }
    go i c there (text ∷ rest) e f = text_sent k w v i c text rest a there e (log_limit_passed w.log (names_in_text text)) f

sends_until : (k : ℕ) (h : HeaderView) (n : ℕ) (name : List ℕ) (among : IsAmong load_clients name) (w v : WorldState) → among.place ≡ k → IsLoaded load_clients n w → AreSent k w
    → IsMadeUntil h (step_by step.sequence name) (answer.No no.NothingToSend) w v → AreSent (k + 1) v
sends_until k h n name among w v here_is l s (ends is) =
    let on = sends_on k h n w v name (answer.No no.NothingToSend) l among is in
    let same : v ≡ w = on.stays refl in
    λ i c at less. go i c (subst (λ (x : WorldState). slice_get x.clients i ≡ Some c) same at) (earlier_or_here i k less) (on.empty refl)
  where
    go : (i : ℕ) (c : Client) → slice_get w.clients i ≡ Some c → (i < k) ⊎ (i ≡ k) → ((d : Client) → slice_get w.clients among.place ≡ Some d → d.queue ≡ []) → c.queue ≡ []
    go i c at (inl before) empty = s i c at before
    go i c at (inr q) empty = empty c (subst (λ (x : ℕ). slice_get w.clients x ≡ Some c) (q ∙ sym here_is) at)
sends_until k h n name among w v here_is l s (goes {u = u} a other is more) =
    sends_until k h n name among u v here_is (sent h n w u name a l among is).loaded ((sends_on k h n w u name a l among is).keeps s) more

abbrev in_a : IsAmong load_clients (codes "A")
in_a = record { place = 0; found = refl }

abbrev in_b : IsAmong load_clients (codes "B")
in_b = record { place = 1; found = refl }

abbrev in_c : IsAmong load_clients (codes "C")
in_c = record { place = 2; found = refl }

abbrev in_d : IsAmong load_clients (codes "D")
in_d = record { place = 3; found = refl }

-- the four, one after the other
all_sent : (h : HeaderView) (n : ℕ) (w v : WorldState) → IsLoaded load_clients n w → EachUntil h step.sequence no.NothingToSend load_clients w v → AreSent 4 v × IsLoaded load_clients n v
all_sent h n w v l (x, a, (y, b, (z, c, (t, d, e)))) =
    let lx = sent_loaded h (codes "A") n w x in_a l a in
    let ly = sent_loaded h (codes "B") n x y in_b lx b in
    let lz = sent_loaded h (codes "C") n y z in_c ly c in
    let lt = sent_loaded h (codes "D") n z t in_d lz d in
    let sx = sends_until 0 h n (codes "A") in_a w x refl l (λ i q at less. absurd (omega (arith, less))) a in
    let sy = sends_until 1 h n (codes "B") in_b x y refl lx sx b in
    let sz = sends_until 2 h n (codes "C") in_c y z refl ly sy c in
    let st = sends_until 3 h n (codes "D") in_d z t refl lz sz d in
    (subst (AreSent 4) (sym e) st, subst (IsLoaded load_clients n) (sym e) lt)

-- ## Receiving

-- the first so many clients have received the whole log
abbrev AreReceived : ℕ → WorldState → Type 0
AreReceived k w = (i : ℕ) (c : Client) → slice_get w.clients i ≡ Some c → i < k → length w.log ≤ c.received

-- what one that receives comes to
record ReceivesOn (k : ℕ) (w v : WorldState) (i : ℕ) (a : Answer) : Type 0 where
  sent_still : AreSent 4 w → AreSent 4 v
  keeps : AreReceived k w → AreReceived k v
  all : a ≡ answer.No no.NothingNew → (c : Client) → slice_get v.clients i ≡ Some c → length v.log ≤ c.received

-- a client is another now, which sends the same and has received as much or more
moved_on : (k : ℕ) (w v : WorldState) (i : ℕ) (c d : Client) (a : Answer) → slice_get w.clients i ≡ Some c → v ≡ record w { clients = slice_set w.clients i d } → d.queue ≡ c.queue → c.received ≤ d.received
    → (a ≡ answer.No no.NothingNew → length w.log ≤ c.received) → ReceivesOn k w v i a
moved_on k w v i c d a there set queue more all = subst (λ (x : WorldState). ReceivesOn k w x i a) (sym set) (record {
  sent_still = λ s j x at less. sent_go s j x less (get_set w.clients i j d x at);
  keeps = λ r j x at less. kept_go r j x less (get_set w.clients i j d x at);
  all = λ q x at. all_go (all q) x (get_set w.clients i i d x at);
})
  where
    sent_go : AreSent 4 w → (j : ℕ) (x : Client) → j < 4 → (slice_get w.clients j ≡ Some x) ⊎ ((x ≡ d) × (j ≡ i)) → x.queue ≡ []
    sent_go s j x less (inl q) = s j x q less
    sent_go s j x less (inr (q, at)) = ap (λ (y : Client). y.queue) q ∙ queue ∙ s i c there (subst (λ (y : ℕ). y < 4) at less)

    kept_go : AreReceived k w → (j : ℕ) (x : Client) → j < k → (slice_get w.clients j ≡ Some x) ⊎ ((x ≡ d) × (j ≡ i)) → length w.log ≤ x.received
    kept_go r j x less (inl q) = r j x q less
    kept_go r j x less (inr (q, at)) =
        let up : x.received ≡ d.received = ap (λ (y : Client). y.received) q in
        let was = r i c there (subst (λ (y : ℕ). y < k) at less) in
        omega (arith, up, was, more)

    all_go : length w.log ≤ c.received → (x : Client) → (slice_get w.clients i ≡ Some x) ⊎ ((x ≡ d) × (i ≡ i)) → length w.log ≤ x.received
    all_go whole x (inl q) = subst (λ (y : Client). length w.log ≤ y.received) (same_there w.clients i c x there q) whole
    all_go whole x (inr (q, at)) = let up : x.received ≡ d.received = ap (λ (y : Client). y.received) q in omega (arith, up, whole, more)

receives_on : (k : ℕ) (h : HeaderView) (n : ℕ) (w v : WorldState) (name : List ℕ) (a : Answer) (l : IsLoaded load_clients n w) (among : IsAmong load_clients name)
    → IsNext h w (step_by step.deliver name) v a → ReceivesOn k w v among.place a
receives_on k h n w v name a l among is =
    let p = here load_clients n w name l among in
    let c = p.client in
    let loading = all_get IsLoading w.clients p.place c l.clients p.there in
    let at = subst (λ o. AtClient h w (step_by step.deliver name) o v a) p.found is in
    let done : IsDelivered h w p.place c v a = subst (λ b. ByConnected true b w v a (IsActOf h w step.deliver p.place c 0 (main_line c) v a)) loading.connected at in
    let told : IsDeliveredTo done.0 c (slice_get w.log c.received) done.1 a = subst (λ (t : Option Transaction). IsDeliveredIn done.0 c t (slice_get w.log c.received) done.1 a) loading.transaction done.3 in
    subst (λ (i : ℕ). ReceivesOn k w v i a) (sym (place_here n w name l among p)) (go p.place c done.0 done.1 p.there done.4 (slice_get w.log c.received) refl told)
  where
    go : (i : ℕ) (c : Client) (D : Document) (d : Client) → slice_get w.clients i ≡ Some c → v ≡ record w { clients = slice_set w.clients i d } → (o : Option Entry) → slice_get w.log c.received ≡ o
        → IsDeliveredTo D c o d a → ReceivesOn k w v i a
    go i c D d there set None e (same, told) =
        let up = ap (λ (x : Client). x.received) same in
        moved_on k w v i c d a there set (ap (λ (x : Client). x.queue) same) (omega (arith, up)) (λ q. all_passed w.log c.received e)
    go i c D d there set (Some x) e (void, judged, same, told) =
        let up : d.received ≡ c.received + 1 = ap (λ (y : Client). y.received) same in
        moved_on k w v i c d a there set (ap (λ (y : Client). y.queue) same) (omega (arith, up)) (λ q. absurd (other (sym told ∙ q)))
      where
        other : answer.Deliver (c.received + 1) void ≡ answer.No no.NothingNew → ⊥
        other q = cc

receives_until : (k : ℕ) (h : HeaderView) (n : ℕ) (name : List ℕ) (among : IsAmong load_clients name) (w v : WorldState) → among.place ≡ k → IsLoaded load_clients n w → AreSent 4 w → AreReceived k w
    → IsMadeUntil h (step_by step.deliver name) (answer.No no.NothingNew) w v → AreSent 4 v × AreReceived (k + 1) v
receives_until k h n name among w v here_is l s r (ends is) =
    let on = receives_on k h n w v name (answer.No no.NothingNew) l among is in
    (on.sent_still s, λ i c at less. go i c at (earlier_or_here i k less) (on.keeps r) (on.all refl))
  where
    go : (i : ℕ) (c : Client) → slice_get v.clients i ≡ Some c → (i < k) ⊎ (i ≡ k) → AreReceived k v → ((d : Client) → slice_get v.clients among.place ≡ Some d → length v.log ≤ d.received) → length v.log ≤ c.received
    go i c at (inl before) kept all = kept i c at before
    go i c at (inr q) kept all = all c (subst (λ (x : ℕ). slice_get v.clients x ≡ Some c) (q ∙ sym here_is) at)
receives_until k h n name among w v here_is l s r (goes {u = u} a other is more) =
    let on = receives_on k h n w u name a l among is in
    receives_until k h n name among u v here_is (received h n w u name a l among is).loaded (on.sent_still s) (on.keeps r) more

-- the four, one after the other
record AreThrough (n : ℕ) (w : WorldState) : Type 0 where
  loaded : IsLoaded load_clients n w
  all_out : AreSent 4 w
  all_in : AreReceived 4 w

all_received : (h : HeaderView) (n : ℕ) (w v : WorldState) → IsLoaded load_clients n w → AreSent 4 w → EachUntil h step.deliver no.NothingNew load_clients w v → AreThrough n v
all_received h n w v l s (x, a, (y, b, (z, c, (t, d, e)))) =
    let lx = received_loaded h (codes "A") n w x in_a l a in
    let ly = received_loaded h (codes "B") n x y in_b lx b in
    let lz = received_loaded h (codes "C") n y z in_c ly c in
    let lt = received_loaded h (codes "D") n z t in_d lz d in
    let rx = receives_until 0 h n (codes "A") in_a w x refl l s (λ i q at less. absurd (omega (arith, less))) a in
    let ry = receives_until 1 h n (codes "B") in_b x y refl lx rx.0 rx.1 b in
    let rz = receives_until 2 h n (codes "C") in_c y z refl ly ry.0 ry.1 c in
    let rt = receives_until 3 h n (codes "D") in_d z t refl lz rz.0 rz.1 d in
    subst (AreThrough n) (sym e) (record { loaded = lt; all_out = rt.0; all_in = rt.1 })

-- ## What is pending then

none_pending : (h : HeaderView) (log : List Entry) (c : Client) → IsClient h log c → c.connected ≡ true → c.queue ≡ [] → length log ≤ c.received → c.pending ≡ []
none_pending h log c is connected empty whole =
    let queue : intents_of c.queue ≡ waiting log c = subst (λ (b : Bool). IsQueue (waiting log c) b c.queue) connected is.queued in
    let none : waiting log c ≡ [] = sym queue ∙ ap intents_of empty in
    let flying : own_in_flight log c ≡ [] = ap (commits_by c.session) (drop_all log c.received whole) in
    is.under_way ∙ (λ i. flying i ++ none i)

-- ## Worlds on the way

made_world : (h : HeaderView) (steps : List StepView) (w v : WorldState) (refused : ℕ) → IsWorld h w → AllByRecursion (λ (s : StepView). KeepsRules s.act) steps → AreMade h w steps v refused → IsWorld h v
made_world h [] w v refused world rules (same, none) = subst (IsWorld h) (sym same) world
made_world h (s ∷ steps) w v refused world rules (u, a, rest, is, more, e) = made_world h steps u v rest (goes_on h w world u a s rules.0 is) rules.1 more

until_world : (h : HeaderView) (s : StepView) (last : Answer) (w v : WorldState) → IsWorld h w → KeepsRules s.act → IsMadeUntil h s last w v → IsWorld h v
until_world h s last w v world rules (ends is) = goes_on h w world v last s rules is
until_world h s last w v world rules (goes {u = u} a other is more) = until_world h s last u v (goes_on h w world u a s rules is) rules more

sent_world : (h : HeaderView) (names : List (List ℕ)) (w v : WorldState) → IsWorld h w → EachUntil h step.sequence no.NothingToSend names w v → IsWorld h v
sent_world h [] w v world same = subst (IsWorld h) (sym same) world
sent_world h (name ∷ names) w v world (u, is, more) = sent_world h names u v (until_world h (step_by step.sequence name) (answer.No no.NothingToSend) w u world tt is) more

received_world : (h : HeaderView) (names : List (List ℕ)) (w v : WorldState) → IsWorld h w → EachUntil h step.deliver no.NothingNew names w v → IsWorld h v
received_world h [] w v world same = subst (IsWorld h) (sym same) world
received_world h (name ∷ names) w v world (u, is, more) = received_world h names u v (until_world h (step_by step.deliver name) (answer.No no.NothingNew) w u world tt is) more

-- ## What is shown

-- a client shows this text; it has received all, with nothing pending and no transaction open
record IsSeen (h : HeaderView) (w : WorldState) (text : List ℕ) : Type 0 where
  client : Client
  received_all : client.received ≡ length w.log
  nothing : client.pending ≡ []
  closed : client.transaction ≡ None
  shown : IsShown h w (main_line client) (answer.Show text)

seen : (h : HeaderView) (n : ℕ) (w : WorldState) (name text : List ℕ) → IsWorld h w → AreThrough n w → (among : IsAmong load_clients name) → among.place < 4
    → IsNext h w (step_by step.show name) w (answer.Show text) → IsSeen h w text
seen h n w name text world through among few is =
    let p = here load_clients n w name through.loaded among in
    let c = p.client in
    let loading = all_get IsLoading w.clients p.place c through.loaded.clients p.there in
    let holds = all_get (IsClient h w.log) w.clients p.place c world.clients p.there in
    let place : p.place < 4 = subst (λ (x : ℕ). x < 4) (place_here n w name through.loaded among p) few in
    let whole : length w.log ≤ c.received = through.all_in p.place c p.there place in
    let within = holds.within in
    let done : IsActOf h w step.show p.place c 0 (main_line c) w (answer.Show text) = subst (λ o. AtClient h w (step_by step.show name) o w (answer.Show text)) p.found is in
    record {
      client = c;
      received_all = omega (arith, whole, within);
      nothing = none_pending h w.log c holds loading.connected (through.all_out p.place c p.there place) whole;
      closed = loading.transaction;
      shown = done.1;
    }

text_of : (s t : List ℕ) → answer.Show s ≡ answer.Show t → s ≡ t
text_of s t e = cc

seen_alike : (h : HeaderView) (w : WorldState) (s t : List ℕ) → IsSeen h w s → IsSeen h w t → s ≡ t
seen_alike h w s t x y = text_of s t (show_alike h w x.client y.client (answer.Show s) (answer.Show t) (x.received_all ∙ sym y.received_all) x.nothing y.nothing x.closed y.closed x.shown y.shown)

same_bytes : (t : List ℕ) → pointwise nat_eq t t ≡ true
same_bytes [] = refl
same_bytes (b ∷ bs) = and-both (nat_eq b b) (pointwise nat_eq bs bs) (same_number b) (same_bytes bs)
  where
    same_number : (n : ℕ) → nat_eq n n ≡ true
    same_number n = grind (arith, nat_tests)

all_alike : (h : HeaderView) (n : ℕ) (w : WorldState) (first : List ℕ) → IsWorld h w → AreThrough n w → IsSeen h w first
    → (names texts : List (List ℕ)) → AllByRecursion (λ (name : List ℕ). (among : IsAmong load_clients name) × (among.place < 4)) names → AreShown h w names texts
    → list_all (λ (other : List ℕ). pointwise nat_eq other first) texts ≡ true
all_alike h n w first world through one [] texts among e = ap (list_all (λ (other : List ℕ). pointwise nat_eq other first)) e
all_alike h n w first world through one (name ∷ names) texts among (text, rest, is, more, e) =
    let x = seen h n w name text world through among.0.0 among.0.1 is in
    let same : first ≡ text = seen_alike h w first text one x in
    let here_too : pointwise nat_eq text first ≡ true = ap (pointwise nat_eq text) same ∙ same_bytes text in
    let later = all_alike h n w first world through one names rest among.1 more in
    ap (list_all (λ (other : List ℕ). pointwise nat_eq other first)) e ∙ and-both (pointwise nat_eq text first) (list_all (λ (other : List ℕ). pointwise nat_eq other first) rest) here_too later

shown_same : (h : HeaderView) (n : ℕ) (w : WorldState) (texts : List (List ℕ)) → IsWorld h w → AreThrough n w → AreShown h w load_clients texts → are_same texts ≡ true
shown_same h n w texts world through (text, rest, is, more, e) =
    let first : 0 < 4 = omega arith in
    let second : 1 < 4 = omega arith in
    let third : 2 < 4 = omega arith in
    let fourth : 3 < 4 = omega arith in
    let one = seen h n w (codes "A") text world through in_a first is in
    ap are_same e ∙ all_alike h n w text world through one (codes "B" ∷ codes "C" ∷ codes "D" ∷ []) rest ((in_b, second), ((in_c, third), ((in_d, fourth), tt))) more

-- ## The line

pub line_alike : (seed steps : ℕ) (line : List ℕ) (told : IsWorkLine seed steps line) → told.tally.equal ≡ true
line_alike seed steps line told =
    let h = told.header in
    let t = told.tallied in
    let kept = header_line_kept (codes "trace") load_header h told.opens in
    let begun : IsWorld h empty_state = begun_sound h (record { schema = kept.0; tree = kept.1 }) in
    let joined = made_world h (map (step_by (step.join None)) load_clients) empty_state t.joined t.unjoined begun (tt, (tt, (tt, (tt, tt)))) t.joins in
    let drawn = made_world h (steps_of seed steps) t.joined t.drawn told.tally.refused joined (drawn_rules (first_work seed) steps) t.draws in
    let out = sent_world h load_clients t.drawn t.sent drawn t.sends in
    let last = received_world h load_clients t.sent t.last out t.receives in
    let loaded = drawn_goes h (first_work seed) steps 4 t.joined t.drawn told.tally.refused (joins_load h t.joined t.unjoined t.joins) t.draws in
    let empty = all_sent h (4 + steps) t.drawn t.sent loaded t.sends in
    let through = all_received h (4 + steps) t.sent t.last empty.1 empty.0 t.receives in
    t.equal ∙ shown_same h (4 + steps) t.last t.shown last through t.shows
