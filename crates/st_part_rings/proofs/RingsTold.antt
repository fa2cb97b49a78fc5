-- Rings of places, as links tell them.
use Rattle.std.proofs.Common.{◌≡◌, ℕ, zero, suc, Bool, true, false, is_some, List, Option, Some, None, option_and_then, refl, sym, ap, ◌∙◌}
use Rattle.st_ids.specs.declared.names.NodeId.{NodeId}
use Rattle.st_lemmas.proofs.Bools.{true-false}
use Rattle.st_marks.specs.declared.places.Spot.{Spot}
use Rattle.st_marks.specs.Agree.{LeadsUp}
use Rattle.st_marks.specs.Agree.LeadsUp.{one_up, further_up}
use Rattle.st_marks.specs.Document.{climb, node_of, Reaches}
use Rattle.st_normal.proofs.AboveItself.{one_step, step_before}
use Rattle.st_part_rings.specs.declared.links.Link.{Link}
use Rattle.st_part_rings.specs.inside.Links.{AreLinks, IsUp, TellsRing, link}
use Rattle.st_part_rings.specs.Under.{HasRing, IsUnderOne}

module _ (At : NodeId → Spot → Type 0) (links : List Link) (are : AreLinks links At) (up : NodeId → Option NodeId) (is : IsUp links up) where
  real : (n p : NodeId) → up n ≡ Some p → (s : Spot) × At n s × (node_of s ≡ Some p)
  real n p e = (are n p).0 (is.linked n p e)

  back : IsUnderOne At → (n p : NodeId) (s : Spot) → At n s → node_of s ≡ Some p → up n ≡ Some p
  back once n p s a e = go (up n) refl (is.all (link n p) ((are n p).1 (s, a, e)))
    where
      go : (o : Option NodeId) → up n ≡ o → is_some o ≡ true → up n ≡ Some p
      go None f h = cc
      go (Some q) f h = let w = real n q f in f ∙ ap (λ x. Some x) (once n q p w.0 s w.1 a w.2 e)

  reaches-leads : (k : ℕ) (n m : NodeId) → climb up (suc k) n ≡ Some m → LeadsUp At n m
  reaches-leads zero n m e = go (up n) refl
    where
      go : (o : Option NodeId) → up n ≡ o → LeadsUp At n m
      go None f = absurd (let bad : None ≡ Some m = ap (option_and_then (climb up 0)) (sym f) ∙ e in cc)
      go (Some p) f =
          let is_m : Some p ≡ Some m = ap (option_and_then (climb up 0)) (sym f) ∙ e in
          let s = real n m (f ∙ is_m) in
          one_up s.0 s.1 s.2
  reaches-leads (suc k) n m e = go (up n) refl (λ p h. reaches-leads k p m h)
    where
      go : (o : Option NodeId) → up n ≡ o → ((p : NodeId) → climb up (suc k) p ≡ Some m → LeadsUp At p m) → LeadsUp At n m
      go None f rest = absurd (let bad : None ≡ Some m = ap (option_and_then (climb up (suc k))) (sym f) ∙ e in cc)
      go (Some p) f rest =
          let s = real n p f in
          further_up s.0 s.1 s.2 (rest p (ap (option_and_then (climb up (suc k))) (sym f) ∙ e))

  leads-reaches : IsUnderOne At → (n m : NodeId) → LeadsUp At n m → Reaches up n m
  leads-reaches once n m (one_up s a e) = one_step up n m (back once n m s a e)
  leads-reaches once n m (further_up {p = p} s a e r) = step_before up n p m (back once n p s a e) (leads-reaches once p m r)

module _ (At : NodeId → Spot → Type 0) (links : List Link) (are : AreLinks links At) (b : Bool) (tells : TellsRing links b) where
  pub ring_told : b ≡ true → HasRing At
  ring_told e = let r = tells.2.0 e in (r.0, reaches-leads At links are tells.0 tells.1 r.1.0 r.0 r.0 r.1.1)

  pub no_ring_told : IsUnderOne At → b ≡ false → HasRing At → ⊥
  no_ring_told once e r = true-false (tells.2.1 (r.0, leads-reaches At links are tells.0 tells.1 once r.0 r.0 r.1)) e
