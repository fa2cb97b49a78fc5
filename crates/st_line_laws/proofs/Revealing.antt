-- An intent that puts somewhere only new nodes and such as are live brings nothing dead to light.
use Rattle.std.proofs.Common.{◌≡◌, ◌⊎◌, inl, inr, ℕ, zero, suc, Option, Some, None, IsSome, refl, sym, ap, ◌∙◌, option_and_then}
use Rattle.st_ids.specs.Root.{root}
use Rattle.st_ids.specs.declared.names.NodeId.{NodeId}
use Rattle.st_marks.specs.declared.intents.Intent.{Intent}
use Rattle.st_marks.specs.declared.intents.To.{To}
use Rattle.st_marks.specs.CarryOut.{full, place_after, spot_of, with_names}
use Rattle.st_marks.specs.Document.{Document, IsLive, IsSoundInForm, above, climb, node_of}
use Rattle.st_marks.specs.Intent.{put_of}
use Rattle.st_marks.proofs.Climb.{above_known}
use Rattle.st_marks.proofs.Full.{unput_above}

-- each old node that an intent puts somewhere is live
abbrev pub PutsLiveOnes : Document → Intent → Type 0
PutsLiveOnes D N = (n : NodeId) (to : To) → put_of N n ≡ Some to → IsSome (D.nodes n) → (to ≡ To.Nowhere) ⊎ IsLive D n

-- beneath a live node
pub live_below : (D : Document) (n p : NodeId) → above D n ≡ Some p → IsLive D p → IsLive D n
live_below D n p e live = (suc live.0, ap (option_and_then (climb (above D) live.0)) e ∙ live.1)

module _ (D : Document) (N : Intent) (sound : IsSoundInForm D) (puts : PutsLiveOnes D N) where
  abbrev E : Document
  E = full D N

  no_way_up : (k : ℕ) (o : Option NodeId) → o ≡ None → option_and_then (climb (above E) k) o ≡ Some root → ⊥
  no_way_up k o e f = let bad : None ≡ Some root = sym (ap (option_and_then (climb (above E) k)) e) ∙ f in cc

  revealed : (k : ℕ) (n : NodeId) → IsSome (D.nodes n) → climb (above E) k n ≡ Some root → IsLive D n
  revealed zero n known e = (0, e)
  revealed (suc k) n known e = go (put_of N n) refl (λ p h f. revealed k p h f)
    where
      on : ((p : NodeId) → IsSome (D.nodes p) → climb (above E) k p ≡ Some root → IsLive D p) → (o : Option NodeId) → above D n ≡ o → above E n ≡ above D n → IsLive D n
      on rest None q same = absurd (no_way_up k (above E n) (same ∙ q) e)
      on rest (Some p) q same = live_below D n p q (rest p (above_known D sound n p q) (sym (ap (option_and_then (climb (above E) k)) (same ∙ q)) ∙ e))

      go : (o : Option To) → put_of N n ≡ o → ((p : NodeId) → IsSome (D.nodes p) → climb (above E) k p ≡ Some root → IsLive D p) → IsLive D n
      go None q rest = elim (unput_above D N n q) [
        | inl out ↦ absurd (no_way_up k (above E n) out e)
        | inr same ↦ on rest (above D n) refl same
      ]
      go (Some to) q rest = elim (puts n to q known) [
        | inl out ↦ (let up : above E n ≡ None = ap (λ o. node_of (place_after (with_names D N).row_of N o (D.place n))) q ∙ ap (λ t. node_of (spot_of (with_names D N).row_of t)) out in absurd (no_way_up k (above E n) up e))
        | inr live ↦ live
      ]

  pub nothing_revealed : (n : NodeId) → IsSome (D.nodes n) → IsLive E n → IsLive D n
  nothing_revealed n known live = revealed live.0 n known live.1
