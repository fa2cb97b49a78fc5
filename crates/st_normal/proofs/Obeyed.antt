-- Rules by what looks things up, and by what they say.
use Rattle.std.proofs.Common.{◌≡◌, ◌↔◌, List, Some, inl, inr, ◌⊎◌}
use Rattle.std.specs.List.{AllByRecursion}
use Rattle.st_ids.specs.Listing.{Has}
use Rattle.st_ids.specs.declared.names.NodeId.{NodeId}
use Rattle.st_marks.specs.declared.marks.How.TheVariants.{Here, Leave}
use Rattle.st_normal.specs.Rules.{Entries, NodesAreFoundOnce, IsFoundAs}
use Rattle.st_normal.specs.inside.Rules.{how_found}
use Rattle.st_normal.proofs.Naming.{how_found-is}
use Rattle.st_normal.proofs.Tells.{all-iff}

pub comes_in : (L : Entries) → NodesAreFoundOnce L → (xs : List NodeId) → AllByRecursion (λ n. Has L.new n ⊎ (how_found L n ≡ Some Leave)) xs ↔ AllByRecursion (λ n. Has L.new n ⊎ IsFoundAs L n Leave) xs
comes_in L d = all-iff (λ n. Has L.new n ⊎ (how_found L n ≡ Some Leave)) (λ n. Has L.new n ⊎ IsFoundAs L n Leave) (λ n. (
  λ h. elim h [ inl x ↦ inl x | inr e ↦ inr ((how_found-is L d n Leave).0 e) ],
  λ h. elim h [ inl x ↦ inl x | inr i ↦ inr ((how_found-is L d n Leave).1 i) ],
))

pub moves : (L : Entries) → NodesAreFoundOnce L → (xs : List NodeId) → AllByRecursion (λ n. Has L.new n ⊎ (how_found L n ≡ Some Here) ⊎ (how_found L n ≡ Some Leave)) xs ↔ AllByRecursion (λ n. Has L.new n ⊎ IsFoundAs L n Here ⊎ IsFoundAs L n Leave) xs
moves L d = all-iff (λ n. Has L.new n ⊎ (how_found L n ≡ Some Here) ⊎ (how_found L n ≡ Some Leave)) (λ n. Has L.new n ⊎ IsFoundAs L n Here ⊎ IsFoundAs L n Leave) (λ n. (to n, from n))
  where
    to : (n : NodeId) → Has L.new n ⊎ (how_found L n ≡ Some Here) ⊎ (how_found L n ≡ Some Leave) → Has L.new n ⊎ IsFoundAs L n Here ⊎ IsFoundAs L n Leave
    to n (inl x) = inl x
    to n (inr (inl e)) = inr (inl ((how_found-is L d n Here).0 e))
    to n (inr (inr e)) = inr (inr ((how_found-is L d n Leave).0 e))

    from : (n : NodeId) → Has L.new n ⊎ IsFoundAs L n Here ⊎ IsFoundAs L n Leave → Has L.new n ⊎ (how_found L n ≡ Some Here) ⊎ (how_found L n ≡ Some Leave)
    from n (inl x) = inl x
    from n (inr (inl e)) = inr (inl ((how_found-is L d n Here).1 e))
    from n (inr (inr e)) = inr (inr ((how_found-is L d n Leave).1 e))
