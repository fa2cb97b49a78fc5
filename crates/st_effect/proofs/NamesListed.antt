-- The nodes that the listing of what a change does names: those that its intent mentions, and the occupants of the registers
-- that it clears.
use Rattle.std.proofs.Common.{◌≡◌, ℕ, zero, suc, true, false, ◌||◌, Option, Some, None, option_and_then, refl, ap, ◌∙◌, subst, IsSome}
use Rattle.st_ids.specs.Listing.{Has}
use Rattle.st_ids.specs.declared.names.FieldId.{FieldId}
use Rattle.st_ids.specs.declared.names.NodeId.{NodeId}
use Rattle.st_kind.specs.Named.{Nodes, either}
use Rattle.st_lemmas.proofs.Bools.{or-false}
use Rattle.st_marks.specs.declared.intents.Intent.{Intent}
use Rattle.st_marks.specs.declared.places.Slot.{Slot}
use Rattle.st_marks.specs.Document.{Document, IsSoundInForm, above, climb, content}
use Rattle.st_marks.specs.Embedding.{IsMentionedByIntent}
use Rattle.st_marks.specs.Intent.{clears}
use Rattle.st_marks.proofs.Climb.{above_known, stands}
use Rattle.st_trim.specs.Evicted.{in_cleared, is_cleared_spot}

-- a node that is full in a row stands in no register
pub named_in_row : (D : Document) (N : Intent) (m : Nodes) (n : NodeId) (s : Slot) → IsSoundInForm D → Has (content D n) s → s.full ≡ true → either m (in_cleared D N) s.node ≡ m s.node
named_in_row D N m n s x h e =
    let there = stands D x s.node n s.cell (subst (λ b. Has (content D n) (record { cell = s.cell; node = s.node; full = b })) e h) in
    ap (λ z. m s.node || is_cleared_spot N z) there ∙ or-false (m s.node)

-- nor is one that is in a register which isn't cleared named but where it is mentioned
pub named_in_register : (D : Document) (N : Intent) (m : Nodes) (f : FieldId) (n : NodeId) → IsSoundInForm D → D.held f ≡ Some n → clears N f ≡ false → either m (in_cleared D N) n ≡ m n
named_in_register D N m f n x h e = ap (λ z. m n || is_cleared_spot N z) ((x.one_held n f).0 h) ∙ ap (λ b. m n || b) e ∙ or-false (m n)

-- ## What is mentioned is there

climb_known : (D : Document) → IsSoundInForm D → (k : ℕ) (s n : NodeId) → IsSome (D.nodes s) → climb (above D) k s ≡ Some n → IsSome (D.nodes n)
climb_known D x zero s n known e = let same : s ≡ n = cc in subst (λ z. IsSome (D.nodes z)) same known
climb_known D x (suc k) s n known e = go (above D s) refl e (λ p f g. climb_known D x k p n f g)
  where
    go : (o : Option NodeId) → above D s ≡ o → option_and_then (climb (above D) k) o ≡ Some n
        → ((p : NodeId) → IsSome (D.nodes p) → climb (above D) k p ≡ Some n → IsSome (D.nodes n)) → IsSome (D.nodes n)
    go None up f rest = cc
    go (Some p) up f rest = rest p (above_known D x s p up) f

pub mentioned_there : (D : Document) (N : Intent) (n : NodeId) → IsSoundInForm D → IsMentionedByIntent D N n → IsSome (D.nodes n)
mentioned_there D N n x m = climb_known D x m.3 m.0 n m.2 m.4
