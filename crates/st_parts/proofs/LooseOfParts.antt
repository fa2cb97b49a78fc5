-- A node that is nowhere, told of two parts of one commit together, is told as both as one have it.
use Rattle.std.proofs.Common.{◌≡◌, Bool, true, false, ◌&&◌, ◌||◌, not, Option, Some, None, cond, refl, ap, ◌∙◌, IsSome}
use Rattle.st_ids.specs.Order.{same_node}
use Rattle.st_ids.specs.Root.{root}
use Rattle.st_ids.specs.declared.names.NodeId.{NodeId}
use Rattle.st_kind.specs.Named.{Nodes}
use Rattle.st_lemmas.proofs.Bools.{true-false}
use Rattle.st_marks.specs.declared.intents.Intent.{Intent}
use Rattle.st_marks.specs.declared.intents.To.{To}
use Rattle.st_marks.specs.declared.marks.Loose.{Loose}
use Rattle.st_marks.specs.declared.places.Spot.{Spot}
use Rattle.st_marks.specs.Back.{is_in}
use Rattle.st_marks.specs.CarryOut.{full, place_after, with_names}
use Rattle.st_marks.specs.Document.{Document}
use Rattle.st_marks.specs.Embedding.{embed_loose, is_nowhere}
use Rattle.st_marks.specs.Intent.{put_of}
use Rattle.st_marks.specs.Row.{how}
use Rattle.st_parts.specs.JoinedParts.{TellsParts, loose_joined, named_by_parts}

-- whether the node is listed, where `a` and `b` say that the parts mention it, `i` that it is in the document, `p` and `q` that
-- it is nowhere there and after the first part, and `z` that it isn't the root
same_listed : (l r : Loose) (a b i p q z known : Bool) → (b ≡ true → q ≡ true → (i && p) ≡ false → known ≡ true) → (a ≡ false → known ≡ true → (i && p) ≡ false)
    → (a ≡ false → i ≡ true → p ≡ true → q ≡ true) → (goes : NodeId → Option To) (n : NodeId)
    → loose_joined goes known n (cond (a && p && z) (Some l) None) (cond (b && q && z) (Some r) None) ≡ cond ((a || (b && i)) && p && z) (Some (record { node = n; how = how (goes n) To.Nowhere })) None
same_listed l r true b i true q true known k u v goes n = refl
same_listed l r true true i false true true known k u v goes n = ap (λ c. cond {A = Option Loose} c None (Some (record { node = n; how = how (goes n) To.Nowhere }))) (k refl refl (none i))
  where
    none : (i : Bool) → (i && false) ≡ false
    none true = refl
    none false = refl
same_listed l r true true i false false true known k u v goes n = refl
same_listed l r true false i false q true known k u v goes n = refl
same_listed l r true true i true true false known k u v goes n = refl
same_listed l r true true i true false false known k u v goes n = refl
same_listed l r true false i true q false known k u v goes n = refl
same_listed l r true true i false true false known k u v goes n = refl
same_listed l r true true i false false false known k u v goes n = refl
same_listed l r true false i false q false known k u v goes n = refl
same_listed l r false false i p q z known k u v goes n = refl
same_listed l r false true true true true true true k u v goes n = let bad : ◌≡◌ {A = Bool} true false = u refl refl in cc
same_listed l r false true true true true true false k u v goes n = refl
same_listed l r false true true true false true known k u v goes n = let bad : ◌≡◌ {A = Bool} false true = v refl refl refl in cc
same_listed l r false true true true true false known k u v goes n = refl
same_listed l r false true true true false false known k u v goes n = refl
same_listed l r false true true false true true known k u v goes n = ap (λ c. cond {A = Option Loose} c None (Some (record { node = n; how = how (goes n) To.Nowhere }))) (k refl refl refl)
same_listed l r false true true false true false known k u v goes n = refl
same_listed l r false true true false false z known k u v goes n = refl
same_listed l r false true false p true true known k u v goes n = ap (λ c. cond {A = Option Loose} c None (Some (record { node = n; how = how (goes n) To.Nowhere }))) (k refl refl refl)
same_listed l r false true false p true false known k u v goes n = refl
same_listed l r false true false p false z known k u v goes n = refl

module _ (D : Document) (N M J : Intent) (m k new known : Nodes) (goes : NodeId → Option To) (tells : TellsParts D N M m k new known goes) (so : (n : NodeId) → goes n ≡ put_of J n)
    (put_named : (n : NodeId) (t : To) → put_of N n ≡ Some t → IsSome (D.nodes n) → m n ≡ true) where
  -- a node that is nowhere and that the first doesn't mention stays so
  still_nowhere : (n : NodeId) → m n ≡ false → is_in D n ≡ true → is_nowhere (D.place n) ≡ true → is_nowhere ((full D N).place n) ≡ true
  still_nowhere n a i p = go (put_of N n) refl (D.place n) p
    where
      go : (o : Option To) → put_of N n ≡ o → (s : Spot) → is_nowhere s ≡ true → is_nowhere (place_after (with_names D N).row_of N o s) ≡ true
      go (Some t) e s h = absurd (true-false (put_named n t e i) a)
      go None e Spot.Nowhere h = refl
      go None e (Spot.Row r c) h = cc
      go None e (Spot.Register f) h = cc

  pub loose_told : (n : NodeId) → loose_joined goes (known n) n (embed_loose m D N n) (embed_loose k (full D N) M n) ≡ embed_loose (named_by_parts D m k) D J n
  loose_told n =
      same_listed (record { node = n; how = how (put_of N n) To.Nowhere }) (record { node = n; how = how (put_of M n) To.Nowhere })
      (m n) (k n) (is_in D n) (is_nowhere (D.place n)) (is_nowhere ((full D N).place n)) (not (same_node n root)) (known n)
      (tells.all_known n) (tells.known_so n) (still_nowhere n) goes n
      ∙ ap (λ o. cond {A = Option Loose} ((m n || (k n && is_in D n)) && is_nowhere (D.place n) && not (same_node n root)) (Some (record { node = n; how = how o To.Nowhere })) None) (so n)
