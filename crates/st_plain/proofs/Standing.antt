-- What a world stands for after a step.
use Rattle.std.proofs.Common.{◌≡◌, inl, inr, ℕ, ◌+◌, ◌-◌, ◌<◌, ◌≤◌, ◌^◌, false, length, take, Some, Result, Ok, Err, refl, ◌∙◌, ap, subst, arith}
use Rattle.std.specs.List.{AllByRecursion, slice_get}
use Rattle.std.specs.Prelude.{IfOk, OnOk}
use Rattle.st_ids.specs.declared.fault.Or.{Or}
use Rattle.st_lists.specs.Log.{minimum}
use Rattle.st_lists.specs.declared.lists.Client.{Client}
use Rattle.st_lists.specs.declared.lists.WorldState.{WorldState}
use Rattle.st_plain.specs.Replicas.{IsSound}
use Rattle.st_plain.specs.Stands.{IsSmall, MayStep, Stands}
use Rattle.st_plain.specs.declared.world.Spent.{Spent}
use Rattle.st_plain.specs.declared.world.World.{World}
use Rattle.st_schema.specs.declared.header.Header.{Header}
use Rattle.st_script.specs.Header.{HeaderView, header_view}
use Rattle.st_script.specs.Steps.{StepView}
use Rattle.st_script.specs.declared.answer.Answer.{Answer}
use Rattle.st_script.specs.declared.answer.Answer.TheVariants as answer
use Rattle.st_world.specs.World.{AtRefusal, IsNext, ShowsAllowed}
use Rattle.st_world_laws.specs.Worlds.{IsWorld}
use Rattle.st_world_laws.proofs.LeadingBranches.{all_lead}
use Rattle.st_plain.proofs.ListsOf.{has_next, lists_sound}

-- ## Before a step

spent_or : (w : World) → MayStep w → w.spent ≡ false → (steps : ℕ) × (h : HeaderView) × (v : WorldState) × Stands steps w h v × (steps + 1 < 2 ^ 32)
spent_or w (inl spent) fresh = absurd (cc)
spent_or w (inr stands) fresh = stands

pub may_step_sound : (w : World) → MayStep w → w.spent ≡ false → IsSound w
may_step_sound w may fresh = (spent_or w may fresh).3.sound

pub may_step_few : (w : World) → MayStep w → w.spent ≡ false → w.steps + 1 < 2 ^ 32
may_step_few w may fresh =
    let s = spent_or w may fresh in
    omega (arith, s.3.counted, s.4)

-- ## After a step

at_refusal : (a : Answer) (P Q : Type 0) → (P → Q) → AtRefusal a P → AtRefusal a Q
at_refusal answer.Header P Q f h = tt
at_refusal (answer.Join n s) P Q f h = tt
at_refusal (answer.Insert rev) P Q f h = tt
at_refusal (answer.Remove rev) P Q f h = tt
at_refusal (answer.Move rev) P Q f h = tt
at_refusal (answer.Set rev) P Q f h = tt
at_refusal (answer.Clear rev) P Q f h = tt
at_refusal (answer.Need rev) P Q f h = tt
at_refusal (answer.Begin rev) P Q f h = tt
at_refusal (answer.Commit rev) P Q f h = tt
at_refusal answer.Abort P Q f h = tt
at_refusal (answer.Fork branch) P Q f h = tt
at_refusal (answer.Rebase void) P Q f h = tt
at_refusal (answer.Merge void) P Q f h = tt
at_refusal answer.DropBranch P Q f h = tt
at_refusal (answer.Undo rev) P Q f h = tt
at_refusal (answer.Upgrade rev) P Q f h = tt
at_refusal (answer.Sequence min n) P Q f h = tt
at_refusal (answer.Ack reference) P Q f h = tt
at_refusal (answer.Deliver n void) P Q f h = tt
at_refusal (answer.Leave n) P Q f h = tt
at_refusal (answer.Drop n) P Q f h = tt
at_refusal (answer.Reconnect n sent) P Q f h = tt
at_refusal (answer.Show tree) P Q f h = tt
at_refusal (answer.Pending pending void) P Q f h = tt
at_refusal (answer.No why) P Q f h = f h

module _ (old new : World) (h : HeaderView) (w : WorldState) (k : ℕ) (st : Stands k old h w) where
  next_as : (s : StepView) (v : WorldState) (a : Answer) → IsNext (header_view old.header) old.lists s v a → IsNext h w s v a
  next_as s v a next = subst (λ (x : HeaderView). IsNext x w s v a) st.header (subst (λ (x : WorldState). IsNext (header_view old.header) x s v a) st.lists next)

  next_stands : IsSound new → new.spent ≡ false → new.steps ≡ old.steps + 1 → new.header ≡ old.header → Stands (k + 1) new h new.lists
  next_stands sound fresh steps header = record {
    header = ap header_view header ∙ st.header;
    lists = refl;
    counted = steps ∙ ap (λ n. n + 1) st.counted;
    fresh = fresh;
    sound = sound;
  }

  stays : IsSound new → new.spent ≡ false → new.steps ≡ old.steps + 1 → new.header ≡ old.header → new.lists ≡ old.lists → Stands (k + 1) new h w
  stays sound fresh steps header lists = record {
    header = ap header_view header ∙ st.header;
    lists = lists ∙ st.lists;
    counted = steps ∙ ap (λ n. n + 1) st.counted;
    fresh = fresh;
    sound = sound;
  }

module _ (old new : World) (s : StepView) where
  pub step_next : (r : Result Answer (Or Spent)) → IfOk r (λ a. IsNext (header_view old.header) old.lists s new.lists a) → OnOk r (IsSound new) → OnOk r (new.spent ≡ false) → OnOk r (new.steps ≡ old.steps + 1) → OnOk r (new.header ≡ old.header)
      → IfOk r (λ a. (k : ℕ) (h : HeaderView) (w : WorldState) → Stands k old h w → (v : WorldState) × IsNext h w s v a × Stands (k + 1) new h v)
  step_next (Ok a) next sound fresh steps header = λ k h w st. (new.lists, next_as old new h w k st s new.lists a next, next_stands old new h w k st sound fresh steps header)
  step_next (Err e) next sound fresh steps header = tt

  pub step_refused : (r : Result Answer (Or Spent)) → IfOk r (λ a. AtRefusal a (new ≡ record old { steps = old.steps + 1 })) → OnOk r (IsSound new) → OnOk r (new.spent ≡ false)
      → IfOk r (λ a. AtRefusal a ((k : ℕ) (h : HeaderView) (w : WorldState) → Stands k old h w → Stands (k + 1) new h w))
  step_refused (Ok a) refused sound fresh =
      at_refusal a (new ≡ record old { steps = old.steps + 1 }) ((k : ℕ) (h : HeaderView) (w : WorldState) → Stands k old h w → Stands (k + 1) new h w)
      (λ e k h w st. stays old new h w k st sound fresh (ap (λ (x : World). x.steps) e) (ap (λ (x : World). x.header) e) (ap (λ (x : World). x.lists) e)) refused
  step_refused (Err e) refused sound fresh = tt

  pub step_allowed : (r : Result Answer (Or Spent)) → IfOk r (λ a. ShowsAllowed (header_view old.header) old.lists s a)
      → IfOk r (λ a. (k : ℕ) (h : HeaderView) (w : WorldState) → Stands k old h w → ShowsAllowed h w s a)
  step_allowed (Ok a) shows = λ k h w st. subst (λ (x : HeaderView). ShowsAllowed x w s a) st.header (subst (λ (x : WorldState). ShowsAllowed (header_view old.header) x s a) st.lists shows)
  step_allowed (Err e) shows = tt

-- ## Laws

pub stands_for_world : (k : ℕ) (w : World) (h : HeaderView) (v : WorldState) → Stands k w h v → IsWorld h v
stands_for_world k w h v st = subst (λ (x : HeaderView). IsWorld x v) st.header (subst (λ (x : WorldState). IsWorld (header_view w.header) x) st.lists (lists_sound w st.sound))

pub stands_and_goes_on : (k : ℕ) (w : World) (h : HeaderView) (v : WorldState) (s : StepView) → Stands k w h v → (u : WorldState) × (a : Answer) × IsNext h v s u a
stands_and_goes_on k w h v s st =
    let n = has_next w s st.sound (all_lead (header_view w.header) w.lists (lists_sound w st.sound)) in
    (n.0, n.1, subst (λ (x : HeaderView). IsNext x v s n.0 n.1) st.header (subst (λ (x : WorldState). IsNext (header_view w.header) x s n.0 n.1) st.lists n.2))

pub stands_small : (k : ℕ) (w : World) (h : HeaderView) (v : WorldState) → Stands k w h v → IsSmall k v
stands_small k w h v st = subst (IsSmall k) st.lists (record {
  ids = subst (λ n. AllByRecursion (λ (c : Client). c.ids ≤ n) w.lists.clients) st.counted st.sound.ids;
  entries = st.sound.entries;
  sessions = st.sound.few_sessions;
})

-- ## The log

pub log_told : (k : ℕ) (w : World) (h : HeaderView) (v : WorldState) → Stands k w h v → w.lists.log ≡ v.log
log_told k w h v st = ap (λ (x : WorldState). x.log) st.lists

pub minimum_told : (k n : ℕ) (w : World) (h : HeaderView) (v : WorldState) → Stands k w h v → 0 < n → n ≤ length v.log → slice_get w.minima (n - 1) ≡ Some (minimum (take n v.log))
minimum_told k n w h v st counted within =
    let log = log_told k w h v st in
    let size : n - 1 < length w.lists.log = omega (arith, counted, within, ap (λ l. length l) log) in
    let back : (n - 1) + 1 ≡ n = omega (arith, counted) in
    st.sound.minima.each (n - 1) size ∙ ap (λ i. Some (minimum (take i w.lists.log))) back ∙ ap (λ l. Some (minimum (take n l))) log
