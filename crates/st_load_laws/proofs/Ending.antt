-- The steps that clients make at the end of a load come to an end.
use Rattle.std.proofs.Common.{◌≡◌, ◌⊎◌, inl, inr, ◌<◌, ◌≤◌, ◌+◌, ◌*◌, ◌-◌, ℕ, zero, suc, List, length, sym, ap, ◌∙◌, subst, arith}
use Rattle.std.proofs.lemmas.List.{length-map}
use Rattle.st_lists.specs.Lines.{main_line}
use Rattle.st_lists.specs.declared.lists.Client.{Client}
use Rattle.st_lists.specs.declared.lists.Entry.{Entry}
use Rattle.st_lists.specs.declared.lists.WorldState.{WorldState}
use Rattle.st_script.specs.Header.{HeaderView}
use Rattle.st_script.specs.Steps.{ActView, StepView}
use Rattle.st_script.specs.Steps as step
use Rattle.st_script.specs.declared.answer.Answer.{Answer}
use Rattle.st_script.specs.declared.answer.Answer.TheVariants as answer
use Rattle.st_script.specs.declared.refusal.Refusal.TheVariants as no
use Rattle.st_world.specs.World.{AtClient, IsActOf, IsNext}
use Rattle.st_load_laws.specs.Load.{IsMadeUntil, ends, goes, load_clients, step_by}
use Rattle.st_load_laws.specs.Loaded.{EndsSoon, EndsWithin, IsLoaded, queued, total}
use Rattle.st_load_laws.proofs.Drawing.{received, sent, unreceived}
use Rattle.st_load_laws.proofs.Finding.{IsAmong, here}
use Rattle.st_load_laws.proofs.Sets.{total_most}

or_later : {A B C N : Type 0} → A ⊎ (N × B) → (B → C) → A ⊎ (N × C)
or_later (inl a) f = inl a
or_later (inr (n, b)) f = inr (n, f b)

-- ## Sending

pub sending_ends : (h : HeaderView) (name : List ℕ) → IsAmong load_clients name → (n m : ℕ) (w : WorldState) → n ≤ 60000 → IsLoaded load_clients n w → total queued w.clients < m
    → EndsWithin m h (step_by step.sequence name) (answer.No no.NothingToSend) w
sending_ends h name among n zero w few l h0 = absurd (omega (arith, h0))
sending_ends h name among n (suc m) w few l less = λ v a is.
    let s = sent h n w v name a l among is in
    or_later (s.told few) (λ e. sending_ends h name among n m v few s.loaded (omega (arith, e, less)))

-- ## Receiving

pub receiving_ends : (h : HeaderView) (name : List ℕ) → IsAmong load_clients name → (n m : ℕ) (w : WorldState) → IsLoaded load_clients n w → total (unreceived w.log) w.clients < m
    → EndsWithin m h (step_by step.deliver name) (answer.No no.NothingNew) w
receiving_ends h name among n zero w l h0 = absurd (omega (arith, h0))
receiving_ends h name among n (suc m) w l less = λ v a is.
    let s = received h n w v name a l among is in
    let moved : total (unreceived v.log) v.clients ≡ total (unreceived w.log) v.clients = ap (λ (log : List Entry). total (unreceived log) v.clients) s.log in
    or_later s.told (λ e. receiving_ends h name among n m v s.loaded (omega (arith, e, less, moved)))

-- ## Within so many times

four : (n : ℕ) (w : WorldState) → IsLoaded load_clients n w → length w.clients ≡ 4
four n w l = sym (length-map w.clients (λ (c : Client). c.name)) ∙ ap length l.named

pub sending_ends_soon : (h : HeaderView) (name : List ℕ) (n : ℕ) (w : WorldState) → IsAmong load_clients name → n ≤ 60000 → IsLoaded load_clients n w
    → EndsSoon h (step_by step.sequence name) (answer.No no.NothingToSend) w
sending_ends_soon h name n w among few l = let most = l.few in (total queued w.clients + 1, omega (arith, most, few), sending_ends h name among n (total queued w.clients + 1) w few l (omega arith))

pub receiving_ends_soon : (h : HeaderView) (name : List ℕ) (n : ℕ) (w : WorldState) → IsAmong load_clients name → n ≤ 60000 → IsLoaded load_clients n w
    → EndsSoon h (step_by step.deliver name) (answer.No no.NothingNew) w
receiving_ends_soon h name n w among few l =
    let most = total_most (unreceived w.log) (length w.log) w.clients (λ (c : Client). sub_le (length w.log) c.received) in
    let count = four n w l in
    let short = l.few in
    let all : length w.clients * length w.log ≡ 4 * length w.log = ap (λ k. k * length w.log) count in
    (total (unreceived w.log) w.clients + 1, omega (arith, most, all, short, few), receiving_ends h name among n (total (unreceived w.log) w.clients + 1) w l (omega arith))
  where
    sub_le : (a b : ℕ) → a - b ≤ a
    sub_le a b = omega arith

-- ## The worlds after

until_loaded : (h : HeaderView) (act : ActView) (name : List ℕ) (last : Answer) (n : ℕ) (w v : WorldState)
    → ((x y : WorldState) (a : Answer) → IsLoaded load_clients n x → IsNext h x (step_by act name) y a → IsLoaded load_clients n y)
    → IsLoaded load_clients n w → IsMadeUntil h (step_by act name) last w v → IsLoaded load_clients n v
until_loaded h act name last n w v keeps l (ends is) = keeps w v last l is
until_loaded h act name last n w v keeps l (goes {u = u} a other is more) = until_loaded h act name last n u v keeps (keeps w u a l is) more

pub sent_loaded : (h : HeaderView) (name : List ℕ) (n : ℕ) (w v : WorldState) → IsAmong load_clients name → IsLoaded load_clients n w
    → IsMadeUntil h (step_by step.sequence name) (answer.No no.NothingToSend) w v → IsLoaded load_clients n v
sent_loaded h name n w v among l more = until_loaded h step.sequence name (answer.No no.NothingToSend) n w v (λ x y a k is. (sent h n x y name a k among is).loaded) l more

pub received_loaded : (h : HeaderView) (name : List ℕ) (n : ℕ) (w v : WorldState) → IsAmong load_clients name → IsLoaded load_clients n w
    → IsMadeUntil h (step_by step.deliver name) (answer.No no.NothingNew) w v → IsLoaded load_clients n v
received_loaded h name n w v among l more = until_loaded h step.deliver name (answer.No no.NothingNew) n w v (λ x y a k is. (received h n x y name a k among is).loaded) l more

-- ## What is shown

-- the world stays, and a text is shown
pub record IsShowing (w v : WorldState) (a : Answer) : Type 0 where
  pub same : v ≡ w
  pub text : List ℕ
  pub told : a ≡ answer.Show text

pub shown : (h : HeaderView) (n : ℕ) (w v : WorldState) (name : List ℕ) (a : Answer) → IsLoaded load_clients n w → IsAmong load_clients name
    → IsNext h w (step_by step.show name) v a → IsShowing w v a
shown h n w v name a l among is =
    let p = here load_clients n w name l among in
    let c = p.client in
    let done : IsActOf h w step.show p.place c 0 (main_line c) v a = subst (λ o. AtClient h w (step_by step.show name) o v a) p.found is in
    record { same = done.0; text = done.1.1; told = done.1.4 }
