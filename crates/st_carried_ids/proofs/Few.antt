-- Whatever a step leads to, the log carries no more ids of a session than its client had generated.
use Rattle.std.proofs.Common.{◌≡◌, ◌≢◌, ◌≤◌, ◌+◌, ◌==◌, ℕ, Bool, true, false, List, [], ◌∷◌, ◌++◌, Option, Some, None, ◌⊎◌, inl, inr, refl, sym, ap, ◌∙◌, subst, arith}
use Rattle.std.proofs.lemmas.Bool.Decides.{nat_tests}
use Rattle.std.specs.List.{AllByRecursion, cons_option, slice_get}
use Rattle.std.proofs.lemmas.List.Elements.{filter_map-append}
use Rattle.st_clusters.specs.Log.{carried_count}
use Rattle.st_clusters.specs.declared.ids.IdRange.{IdRange}
use Rattle.st_clusters.proofs.Logs.{carried_other}
use Rattle.st_script.specs.Header.{HeaderView}
use Rattle.st_script.specs.Steps.{StepView}
use Rattle.st_script.specs.declared.answer.Answer.{Answer}
use Rattle.st_lists.specs.Log.{log_with, range_in, ranges_in, ranges_of}
use Rattle.st_lists.specs.declared.lists.Body.{Body}
use Rattle.st_lists.specs.declared.lists.Client.{Client}
use Rattle.st_lists.specs.declared.lists.WorldState.{WorldState}
use Rattle.st_lists.proofs.Texts.{carried_append}
use Rattle.st_world.specs.World.{IsNext}
use Rattle.st_world_laws.specs.Worlds.{IsCarried, IsClient, IsWorld}
use Rattle.st_world_laws.proofs.Everyone.{all_get}
use Rattle.st_world_laws.proofs.Ranges.{entered_ranges, same_ranges}
use Rattle.st_carried_ids.specs.CarriedIds.{CarryFew}
use Rattle.st_carried_ids.proofs.LogSteps.{IsSent, IsText, LogNext, log_next}

-- a range of another session carries none of a session's ids
others_none : (s own : ℕ) (o : Option IdRange) → own ≢ s → AllByRecursion (λ (r : IdRange). r.session ≡ own) (cons_option o []) → carried_count s (cons_option o []) ≡ 0
others_none s own None other all = refl
others_none s own (Some q) other all = carried_other s [] q (λ e. other (sym all.0 ∙ e))

front_all : (P : IdRange → Type 0) (xs ys : List IdRange) → AllByRecursion P (xs ++ ys) → AllByRecursion P xs
front_all P [] ys h = tt
front_all P (x ∷ xs) ys h = (h.0, front_all P xs ys h.1)

module _ (h : HeaderView) (w : WorldState) (s : IsWorld h w) (most : ℕ) (low : AllByRecursion (λ (c : Client). c.ids ≤ most) w.clients) (few : CarryFew most w.log) where
  -- the ranges that the log carries
  abbrev R : List IdRange
  R = ranges_in w.log

  -- an entry comes that carries no ids
  bare : (session : ℕ) (body : Body) → range_in body ≡ None → CarryFew most (log_with w.log session body)
  bare session body none t = subst (λ l. carried_count t l ≤ most) (sym (same_ranges w.log session body none)) (few t)

  -- the oldest text of a client comes
  entered : (text : Body) (session : ℕ) → IsText w session text → CarryFew most (log_with w.log session text)
  entered text session x t = subst (λ n. carried_count t (ranges_in (log_with w.log n text)) ≤ most) (sym x.own) (go (c.session == t) refl)
    where
      c : Client
      c = x.client

      carries : IsCarried R c
      carries = (all_get (IsClient h w.log) w.clients x.place c s.clients x.there).carried

      ids_low : c.ids ≤ most
      ids_low = all_get (λ (d : Client). d.ids ≤ most) w.clients x.place c low x.there

      own : List IdRange
      own = cons_option (range_in text) []

      longer : ranges_in (log_with w.log c.session text) ≡ R ++ own
      longer = entered_ranges w.log c.session text

      queue : ranges_of c.queue ≡ own ++ ranges_of x.rest
      queue = ap ranges_of x.first ∙ filter_map-append range_in (text ∷ []) x.rest

      count : carried_count t (ranges_in (log_with w.log c.session text)) ≡ carried_count t R + carried_count t own
      count = ap (carried_count t) longer ∙ carried_append t R own

      go : (b : Bool) → (c.session == t) ≡ b → carried_count t (ranges_in (log_with w.log c.session text)) ≤ most
      go true e =
          let mine : c.session ≡ t = grind (arith, nat_tests, e) in
          let all : carried_count t (R ++ ranges_of c.queue) ≡ carried_count t R + (carried_count t own + carried_count t (ranges_of x.rest)) =
          carried_append t R (ranges_of c.queue) ∙ ap (λ n. carried_count t R + n) (ap (carried_count t) queue ∙ carried_append t own (ranges_of x.rest)) in
          let within : carried_count t (R ++ ranges_of c.queue) ≤ c.ids = subst (λ n. carried_count n (R ++ ranges_of c.queue) ≤ c.ids) mine carries.within in
          omega (arith, count, all, within, ids_low)
      go false e =
          let other : c.session ≢ t = grind (arith, nat_tests, e) in
          let none : carried_count t own ≡ 0 = others_none t c.session (range_in text) other (front_all (λ (r : IdRange). r.session ≡ c.session) own (ranges_of x.rest) (subst (AllByRecursion (λ (r : IdRange). r.session ≡ c.session)) queue carries.own)) in
          omega (arith, count, none, few t)

  after : (v : WorldState) → LogNext w v → CarryFew most v.log
  after v (inl same) = subst (CarryFew most) (sym same) few
  after v (inr e) = subst (CarryFew most) (sym e.is) (by e.sent)
    where
      by : IsSent w e.session e.body → CarryFew most (log_with w.log e.session e.body)
      by (inl none) = bare e.session e.body none
      by (inr text) = entered e.body e.session text

-- the ids that the log carries after a step
pub few_next : (h : HeaderView) (w v : WorldState) (x : StepView) (a : Answer) (most : ℕ) → IsWorld h w → AllByRecursion (λ (c : Client). c.ids ≤ most) w.clients → CarryFew most w.log → IsNext h w x v a → CarryFew most v.log
few_next h w v x a most s low few next = after h w s most low few v (log_next h w v x a next)
