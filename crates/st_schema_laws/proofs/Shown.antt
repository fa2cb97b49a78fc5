-- A closed part shows what the whole document shows.
use Rattle.std.proofs.Common.{◌≡◌, ◌↔◌, ℕ, Bool, true, false, List, None, IsSome, cond, map, refl, sym, ap, ◌∙◌}
use Rattle.serde_json.specs.Data.{Data}
use Rattle.st_ids.specs.Root.{opening, root}
use Rattle.st_ids.specs.declared.names.NodeId.{NodeId}
use Rattle.st_ids.specs.declared.names.Rev.{Rev}
use Rattle.st_marks.specs.declared.places.Slot.{Slot}
use Rattle.st_marks.specs.Document.{Document, IsSoundInForm, content, revs}
use Rattle.st_marks.specs.LiveTree.{Shows, owners_shown, register}
use Rattle.st_schema_laws.specs.Alike.{AreAlikeAt}
use Rattle.st_schema_laws.proofs.Alike.{same_below}
use Rattle.st_schema_laws.proofs.Along.{owners_live}
use Rattle.st_part_laws.specs.Parts.{IsClosedBy, IsClosedInEffect, is_of_schemas, part_by, part_in_effect}
use Rattle.st_part_laws.proofs.Closed.{root_in_effect}
use Rattle.st_part_laws.proofs.Parts.{part_sound}
use Rattle.st_schema_laws.proofs.Live.{below_in, slots_same}

module _ (p : NodeId → Bool) (D : Document) (s : IsSoundInForm D) (closed : IsClosedBy p D) where
  row_same : (n : NodeId) → p n ≡ true → owners_shown (content (part_by p D) n) ≡ owners_shown (content D n)
  row_same n e = owners_live (content (part_by p D) n) ∙ ap (map (λ (s : Slot). s.node)) (slots_same p D s closed n e) ∙ sym (owners_live (content D n))

  held_same : (n : NodeId) (k : List ℕ) → p n ≡ true → (part_by p D).held (register n k) ≡ D.held (register n k)
  held_same n k e = ap (λ b. cond b (D.held (register n k)) None) e

  to_part : (n : NodeId) → p n ≡ true → AreAlikeAt D (part_by p D) n
  to_part n e = record {
    node = λ t q. ap (λ b. cond b (D.nodes n) None) e ∙ q;
    row = row_same n e;
    held = λ k. held_same n k e;
  }

  from_part : (n : NodeId) → p n ≡ true → AreAlikeAt (part_by p D) D n
  from_part n e = record {
    node = λ t q. sym (ap (λ b. cond b (D.nodes n) None) e) ∙ q;
    row = sym (row_same n e);
    held = λ k. sym (held_same n k e);
  }

  there : (n : NodeId) → IsSome ((part_by p D).nodes n) → p n ≡ true
  there n known = go (p n) known
    where
      go : (b : Bool) → IsSome (cond b (D.nodes n) None) → b ≡ true
      go true h = refl
      go false h = cc

  pub shows_same : (is_array : List ℕ → Bool) (n : NodeId) (d : Data) → p root ≡ true → p n ≡ true → Shows is_array D n d ↔ Shows is_array (part_by p D) n d
  shows_same is_array n d of_root e = (
    same_below is_array D (part_by p D) s n d (λ x known w. to_part x (below_in p D s closed n x w ∙ e)),
    same_below is_array (part_by p D) D (part_sound p D s closed of_root) n d (λ x known w. from_part x (there x known)),
  )

pub shows_in_effect : (is_array : List ℕ → Bool) (under : Rev → Rev) (D : Document) (d : Data) → IsSoundInForm D → IsClosedInEffect under D → under opening ≡ opening → Shows is_array D root d ↔ Shows is_array (part_in_effect under D) root d
shows_in_effect is_array under D d s closed told = let of_root = root_in_effect under D s told in shows_same (is_of_schemas under (revs D.schemas)) D s closed is_array root d of_root of_root
