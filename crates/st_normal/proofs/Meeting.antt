-- Climbs that keep what they have met.
use Rattle.std.proofs.Common.{◌≡◌, ◌≢◌, ◌+◌, ℕ, suc, ◌≤◌, ◌<◌, Bool, true, false, cond, List, [], ◌∷◌, Option, Some, None, IsSome, is_some, refl, sym, ap, ◌∙◌, subst, arith, inl, inr, ◌⊎◌}
use Rattle.st_ids.specs.declared.names.NodeId.{NodeId}
use Rattle.st_ids.specs.Listing.{Has}
use Rattle.st_ids.specs.Order.{same_node}
use Rattle.st_ids.proofs.Orders.{same_node-true, same_node-itself}
use Rattle.st_marks.specs.Document.{ClimbsToAnEnd, Reaches}
use Rattle.st_normal.specs.inside.Ring.{HasRing, HaveEnded}
use Rattle.st_marks.proofs.Climb.{ends_above}
use Rattle.st_normal.proofs.AboveItself.{one_step, step_more, ends_below}

-- a climb from `start` is at `here`: what it has met leads to here, and from what was met before each climb ends
pub record Climbing (up met : NodeId → Option NodeId) (start here : NodeId) : Type 0 where
  pub fresh : met here ≡ None
  pub from_start : (start ≡ here) ⊎ (met start ≡ Some start)
  pub on_way : (n : NodeId) → met n ≡ Some start → Reaches up n here
  pub ends : (n s : NodeId) → met n ≡ Some s → s ≢ start → ClimbsToAnEnd up n
  pub begun : (n s : NodeId) → met n ≡ Some s → s ≢ start → IsSome (met s)

-- how many nodes of a list are not met
abbrev pub missing : List NodeId → (NodeId → Option NodeId) → ℕ
missing [] met = 0
missing (n ∷ ns) met = cond (is_some (met n)) 0 1 + missing ns met

-- where none of what was met is the start, the climb begins
pub climb_begins : (up met : NodeId → Option NodeId) (start : NodeId) → HaveEnded up met → met start ≡ None → Climbing up met start start
climb_begins up met start h e = record {
  fresh = e;
  from_start = inl refl;
  on_way = λ n f. absurd (let bad : ◌≡◌ {A = Bool} false true = ap is_some (sym e) ∙ h.begun n start f in cc);
  ends = λ n s f apart. h.ends n s f;
  begun = λ n s f apart. h.begun n s f;
}

-- from a node that was met before the climb ends
pub met_ends : (up met : NodeId → Option NodeId) (start : NodeId) → HaveEnded up met → is_some (met start) ≡ true → ClimbsToAnEnd up start
met_ends up met start h e = go (met start) refl e
  where
    go : (o : Option NodeId) → met start ≡ o → is_some o ≡ true → ClimbsToAnEnd up start
    go None f g = cc
    go (Some s) f g = h.ends start s f

-- a node that was not met
pub not_met : (o : Option NodeId) → is_some o ≡ false → o ≡ None
not_met None e = refl
not_met (Some s) e = cc

-- before the first climb
pub none_met : (up met : NodeId → Option NodeId) → ((n : NodeId) → met n ≡ None) → HaveEnded up met
none_met up met none = record {
  ends = λ n s e. absurd (let bad : None ≡ Some s = sym (none n) ∙ e in cc);
  begun = λ n s e. absurd (let bad : None ≡ Some s = sym (none n) ∙ e in cc);
}

module _ (up met new : NodeId → Option NodeId) (start here : NodeId) (added : (n : NodeId) → new n ≡ cond (same_node here n) (Some start) (met n)) (w : Climbing up met start here) where
  now_met : (n : NodeId) → here ≡ n → new n ≡ Some start
  now_met n e = added n ∙ ap (λ b. cond b (Some start) (met n)) (ap (same_node here) (sym e) ∙ same_node-itself here)

  split : (n s : NodeId) → new n ≡ Some s → ((here ≡ n) × (start ≡ s)) ⊎ (met n ≡ Some s)
  split n s e = go (same_node here n) refl (sym (added n) ∙ e)
    where
      go : (b : Bool) → same_node here n ≡ b → cond b (Some start) (met n) ≡ Some s → ((here ≡ n) × (start ≡ s)) ⊎ (met n ≡ Some s)
      go true t f = inl (same_node-true here n t, cc)
      go false t f = inr f

  stays : (n s : NodeId) → met n ≡ Some s → new n ≡ Some s
  stays n s e = go (same_node here n) refl
    where
      go : (b : Bool) → same_node here n ≡ b → new n ≡ Some s
      go true t = let bad : None ≡ Some s = sym w.fresh ∙ ap met (same_node-true here n t) ∙ e in cc
      go false t = added n ∙ ap (λ b. cond b (Some start) (met n)) t ∙ e

  keeps : (n : NodeId) → IsSome (met n) → IsSome (new n)
  keeps n h = ap is_some (added n) ∙ go (same_node here n) (met n) h
    where
      go : (b : Bool) (o : Option NodeId) → is_some o ≡ true → is_some (cond b (Some start) o) ≡ true
      go true o h = refl
      go false o h = h

  start_met : new start ≡ Some start
  start_met = elim w.from_start [ inl e ↦ now_met start (sym e) | inr e ↦ stays start start e ]

  same_start : (s : NodeId) → (s ≡ start) ⊎ (s ≢ start)
  same_start s = go (same_node s start) refl
    where
      go : (b : Bool) → same_node s start ≡ b → (s ≡ start) ⊎ (s ≢ start)
      go true t = inl (same_node-true s start t)
      go false t = inr (λ e. let bad : ◌≡◌ {A = Bool} false true = sym t ∙ ap (λ x. same_node x start) e ∙ same_node-itself start in cc)

  -- where the climb ends, so does it from each node that it has met
  pub climb_ends : ClimbsToAnEnd up here → HaveEnded up new × ClimbsToAnEnd up start
  climb_ends h = (record { ends = λ n s e. ends n s (split n s e); begun = λ n s e. begun n s (split n s e) }, from_start w.from_start)
    where
      on_way : (n : NodeId) → met n ≡ Some start → ClimbsToAnEnd up n
      on_way n e = let r = w.on_way n e in ends_below up (suc r.0) n here r.1 h

      from_start : (start ≡ here) ⊎ (met start ≡ Some start) → ClimbsToAnEnd up start
      from_start (inl e) = subst (ClimbsToAnEnd up) (sym e) h
      from_start (inr e) = on_way start e

      ends : (n s : NodeId) → ((here ≡ n) × (start ≡ s)) ⊎ (met n ≡ Some s) → ClimbsToAnEnd up n
      ends n s (inl e) = subst (ClimbsToAnEnd up) e.0 h
      ends n s (inr e) = elim (same_start s) [ inl f ↦ on_way n (e ∙ ap (λ x. Some x) f) | inr f ↦ w.ends n s e f ]

      begun : (n s : NodeId) → ((here ≡ n) × (start ≡ s)) ⊎ (met n ≡ Some s) → IsSome (new s)
      begun n s (inl e) = ap is_some (ap new (sym e.1) ∙ start_met)
      begun n s (inr e) = elim (same_start s) [ inl f ↦ ap is_some (ap new f ∙ start_met) | inr f ↦ keeps s (w.begun n s e f) ]

  -- where it comes to a node of this climb, there is a ring
  pub climb_closes : (above s : NodeId) → up here ≡ Some above → new above ≡ Some s → (b : Bool) → b ≡ same_node s start → b ≡ true → HasRing up
  climb_closes above s u e b same is = go (split above start (e ∙ ap (λ x. Some x) (same_node-true s start (sym same ∙ is))))
    where
      go : ((here ≡ above) × (start ≡ start)) ⊎ (met above ≡ Some start) → HasRing up
      go (inl f) = (here, one_step up here here (u ∙ ap (λ x. Some x) (sym f.0)))
      go (inr f) = (above, step_more up above here above (w.on_way above f) u)

  -- where it comes to a node of an earlier one, it ends
  pub climb_joins : (above s : NodeId) → up here ≡ Some above → new above ≡ Some s → (b : Bool) → b ≡ same_node s start → b ≡ false → HaveEnded up new × ClimbsToAnEnd up start
  climb_joins above s u e b same other = climb_ends (ends_above up here above u (go (split above s e)))
    where
      apart : s ≢ start
      apart f = let bad : ◌≡◌ {A = Bool} false true = sym other ∙ same ∙ ap (λ x. same_node x start) f ∙ same_node-itself start in cc

      go : ((here ≡ above) × (start ≡ s)) ⊎ (met above ≡ Some s) → ClimbsToAnEnd up above
      go (inl f) = absurd (apart (sym f.1))
      go (inr f) = w.ends above s f apart

  -- and else it goes on
  pub climb_goes_on : (above : NodeId) → up here ≡ Some above → new above ≡ None → Climbing up new start above
  climb_goes_on above u e = record {
    fresh = e;
    from_start = inr start_met;
    on_way = λ n f. on_way n (split n start f);
    ends = λ n s f apart. ends n s apart (split n s f);
    begun = λ n s f apart. begun n s apart (split n s f);
  }
    where
      on_way : (n : NodeId) → ((here ≡ n) × (start ≡ start)) ⊎ (met n ≡ Some start) → Reaches up n above
      on_way n (inl f) = subst (λ x. Reaches up x above) f.0 (one_step up here above u)
      on_way n (inr f) = step_more up n here above (w.on_way n f) u

      ends : (n s : NodeId) → s ≢ start → ((here ≡ n) × (start ≡ s)) ⊎ (met n ≡ Some s) → ClimbsToAnEnd up n
      ends n s apart (inl f) = absurd (apart (sym f.1))
      ends n s apart (inr f) = w.ends n s f apart

      begun : (n s : NodeId) → s ≢ start → ((here ≡ n) × (start ≡ s)) ⊎ (met n ≡ Some s) → IsSome (new s)
      begun n s apart (inl f) = absurd (apart (sym f.1))
      begun n s apart (inr f) = keeps s (w.begun n s f apart)

  one : (n : NodeId) → cond (is_some (new n)) 0 1 ≤ cond (is_some (met n)) 0 1
  one n = rw (added n) (go (same_node here n) (met n))
    where
      go : (b : Bool) (o : Option NodeId) → cond (is_some (cond b (Some start) o)) 0 1 ≤ cond (is_some o) 0 1
      go true None = omega arith
      go true (Some s) = omega arith
      go false None = omega arith
      go false (Some s) = omega arith

  missing_at_most : (ns : List NodeId) → missing ns new ≤ missing ns met
  missing_at_most [] = omega arith
  missing_at_most (n ∷ ns) = omega (arith, one n, missing_at_most ns)

  -- what came in is missing no more
  pub missing_less : (ns : List NodeId) → Has ns here → missing ns new < missing ns met
  missing_less [] h = absurd h
  missing_less (n ∷ ns) (inl e) =
      let was : met n ≡ None = ap met e ∙ w.fresh in
      let now : new n ≡ Some start = now_met n (sym e) in
      rw (was, now) (omega (arith, missing_at_most ns))
  missing_less (n ∷ ns) (inr h) = omega (arith, one n, missing_less ns h)
