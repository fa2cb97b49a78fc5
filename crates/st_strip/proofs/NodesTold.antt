-- Where nodes are between and at last, as a first part of a step and the whole step tell together.
use Rattle.std.proofs.Common.{◌≡◌, ◌||◌, ◌&&◌, not, ◌⊎◌, zero, Bool, true, false, ◌++◌, map, Option, Some, None, IfSome, is_some, refl, sym, ap, ◌∙◌, subst, inl, inr}
use Rattle.st_ids.specs.Listing.{Has}
use Rattle.st_ids.specs.Order.{same_node}
use Rattle.st_ids.specs.Root.{root}
use Rattle.st_ids.proofs.Orders.{same_node-true}
use Rattle.st_ids.specs.declared.names.NodeId.{NodeId}
use Rattle.st_kind.specs.Named.{Nodes, either}
use Rattle.st_lemmas.proofs.Bools.{and-true, both-ways-same, not-true, or-cases, or-left, or-right, refuted-false, true-false}
use Rattle.st_lemmas.proofs.Options.{None-IsSome}
use Rattle.st_marks.specs.declared.marks.RegStep.{RegStep}
use Rattle.st_marks.specs.declared.places.Spot.{Spot}
use Rattle.st_marks.specs.declared.steps.Step.{Step}
use Rattle.st_marks.specs.Back.{is_in}
use Rattle.st_marks.specs.Document.{Document, NodeType}
use Rattle.st_marks.specs.Embedding.{is_nowhere}
use Rattle.st_marks.specs.Extends.{IsExtendedBy}
use Rattle.st_marks.specs.Listings.{nodes_loose, nodes_new, placed_before}
use Rattle.st_marks.specs.Step.{IsStep}
use Rattle.st_marks.proofs.Climb.{placed_known, same_spot, unknown_nowhere}
use Rattle.st_marks.proofs.Later.{node_later}
use Rattle.st_marks.proofs.Members.{any-has, append_left}
use Rattle.st_marks.proofs.Turns.{extends_on}
use Rattle.st_steps.proofs.NamesListed.{among, mentioned_stood}
use Rattle.st_steps.proofs.NodesFound.{all_listed, found_stands, listed_named, made_new, new_exactly}
use Rattle.st_steps.proofs.StepsListed.{mention_known}
use Rattle.st_strip.specs.Rest.{TellsRest, named_rest}
use Rattle.st_strip.specs.inside.Told.{TellsNodes, nowhere_by, nowhere_told}
use Rattle.st_strip.proofs.RestCovered.{by_first, by_new, by_whole, is_there, there_is}

-- ## One step

module _ (D E : Document) (S : Step) (x : IsExtendedBy D E) (s : IsStep D E S) (listed stood : Nodes) (spots : NodeId → Option Spot) (tells : TellsNodes D E S listed stood spots) (n : NodeId) where
  -- whom it doesn't mention stays
  stays : is_in D n ≡ true → s.mentioned n ≡ false → is_nowhere (D.place n) ≡ is_nowhere (E.place n)
  stays h e = elim (same_spot (D.place n) (E.place n)) [
    | inl q ↦ ap is_nowhere q
    | inr q ↦ absurd (true-false ((s.which n).1 (n, (there_is D n h, inl q), zero, refl)) e)
  ]

  -- whom it finds stands somewhere
  found : stood n ≡ true → is_nowhere (D.place n) ≡ false
  found e = found_stands D E S x s n (sym (tells.stood_so n) ∙ e)

  -- of whom it mentions it tells whether it is nowhere
  not_stood : s.mentioned n ≡ true → not (stood n) ≡ is_nowhere (D.place n)
  not_stood e = go (stood n) refl (is_nowhere (D.place n)) refl
    where
      go : (a : Bool) → stood n ≡ a → (b : Bool) → is_nowhere (D.place n) ≡ b → not a ≡ b
      go true p true q = absurd (true-false q (found p))
      go true p false q = refl
      go false p true q = refl
      go false p false q = absurd (true-false (tells.stood_so n ∙ mentioned_stood D E S x s n e q) p)

  -- who wasn't there didn't stand
  new_stood : is_in D n ≡ false → stood n ≡ false
  new_stood h = refuted-false (stood n) (λ e. true-false (is_there D n (placed_known D x.before n (λ (q : D.place n ≡ Spot.Nowhere). true-false (ap is_nowhere q) (found e)))) h)

  -- who is new is listed
  new_listed : is_in D n ≡ false → is_in E n ≡ true → listed n ≡ true
  new_listed h e =
      let new = made_new D E S x s n h (there_is E n e) in
      let r = any-has (λ m. same_node m n) (nodes_new S.new) new in
      let has : Has (nodes_new S.new) n = subst (Has (nodes_new S.new)) (same_node-true r.0 n r.2) r.1 in
      tells.listed_so n ∙ among (nodes_new S.new ++ nodes_loose S.loose ++ placed_before S.rows (map (λ (r : RegStep). r.before) S.regs)) n
      (append_left (nodes_new S.new ++ nodes_loose S.loose) (placed_before S.rows (map (λ (r : RegStep). r.before) S.regs)) n (append_left (nodes_new S.new) (nodes_loose S.loose) n has))

  -- whom it mentions, but for the root, it lists
  mentioned_listed : same_node n root ≡ false → s.mentioned n ≡ true → listed n ≡ true
  mentioned_listed z e = tells.listed_so n ∙ all_listed D E S x s n e z

  -- whom it lists it mentions, or that is new
  listed_is : listed n ≡ true → (s.mentioned n ≡ true) ⊎ ((is_in E n ≡ true) × (is_in D n ≡ false))
  listed_is e = elim (listed_named D E S x s n (sym (tells.listed_so n) ∙ e)) [
    | inl q ↦ inl q
    | inr q ↦ inr (let p = and-true (is_in E n) (not (is_in D n)) (sym (new_exactly D E S x s n) ∙ q) in (p.0, not-true (is_in D n) p.1))
  ]

  -- where it tells of no place, it lists nobody
  untold : spots n ≡ None → listed n ≡ false
  untold q = refuted-false (listed n) (λ e. None-IsSome (spots n) q (tells.all_spots n (sym (tells.listed_so n) ∙ e)))

-- ## Both

module _ (D E F : Document) (S W : Step) (x : IsExtendedBy D E) (y : IsExtendedBy E F) (s : IsStep D E S) (t : IsStep D F W)
    (l1 f1 : Nodes) (p1 : NodeId → Option Spot) (l2 f2 : Nodes) (p2 : NodeId → Option Spot) (a : TellsNodes D E S l1 f1 p1) (b : TellsNodes D F W l2 f2 p2) where
  abbrev named : Nodes
  named = named_rest D F s.mentioned t.mentioned

  later : IsExtendedBy D F
  later = extends_on D E F x y

  still : (n : NodeId) → is_in E n ≡ true → is_in F n ≡ true
  still n h = is_there F n (node_later E F y n (there_is E n h))

  told_is : (n : NodeId) → same_node n root ≡ false → either l1 l2 n ≡ named n
  told_is n z = both-ways-same (either l1 l2 n) (named n) forth back
    where
      forth : either l1 l2 n ≡ true → named n ≡ true
      forth e = elim (or-cases (l1 n) (l2 n) e) [
        | inl q ↦ elim (listed_is D E S x s l1 f1 p1 a n q) [
          | inl m ↦ by_first D E F S W x y s t n m
          | inr w ↦ by_new D E F S W x y s t n (there_is F n (still n w.0)) w.1
        ]
        | inr q ↦ elim (listed_is D F W later t l2 f2 p2 b n q) [
          | inl k ↦ by_whole D E F S W x y s t n k
          | inr w ↦ by_new D E F S W x y s t n (there_is F n w.0) w.1
        ]
      ]

      back : named n ≡ true → either l1 l2 n ≡ true
      back e = elim (or-cases (s.mentioned n || (is_in F n && not (is_in D n))) (t.mentioned n) e) [
        | inl q ↦ elim (or-cases (s.mentioned n) (is_in F n && not (is_in D n)) q) [
          | inl m ↦ or-left (l1 n) (l2 n) (mentioned_listed D E S x s l1 f1 p1 a n z m)
          | inr w ↦ (let p = and-true (is_in F n) (not (is_in D n)) w in or-right (l1 n) (l2 n) (new_listed D F W later t l2 f2 p2 b n (not-true (is_in D n) p.1) p.0))
        ]
        | inr k ↦ or-right (l1 n) (l2 n) (mentioned_listed D F W later t l2 f2 p2 b n z k)
      ]

  other : (u v : Bool) → (u || v) ≡ true → u ≡ false → v ≡ true
  other true v e f = absurd (true-false refl f)
  other false v e f = e

  other_first : (u v : Bool) → (u || v) ≡ true → v ≡ false → u ≡ true
  other_first true v e f = refl
  other_first false v e f = absurd (true-false e f)

  between_is : (n : NodeId) → same_node n root ≡ false → either l1 l2 n ≡ true → nowhere_told p1 f2 n ≡ is_nowhere (E.place n)
  between_is n z e = go (p1 n) refl (a.spots_so n)
    where
      silent : p1 n ≡ None → not (f2 n) ≡ is_nowhere (E.place n)
      silent q = at (is_in D n) refl
        where
          by_second : l2 n ≡ true
          by_second = other (l1 n) (l2 n) e (untold D E S x s l1 f1 p1 a n q)

          unmentioned : s.mentioned n ≡ false
          unmentioned = refuted-false (s.mentioned n) (λ m. true-false (mentioned_listed D E S x s l1 f1 p1 a n z m) (untold D E S x s l1 f1 p1 a n q))

          none : (o : Option NodeType) → E.nodes n ≡ o → is_in D n ≡ false → E.nodes n ≡ None
          none None w h = w
          none (Some u) w h = absurd (true-false (new_listed D E S x s l1 f1 p1 a n h (ap is_some w)) (untold D E S x s l1 f1 p1 a n q))

          at : (c : Bool) → is_in D n ≡ c → not (f2 n) ≡ is_nowhere (E.place n)
          at true h = elim (listed_is D F W later t l2 f2 p2 b n by_second) [
            | inl k ↦ not_stood D F W later t l2 f2 p2 b n k ∙ stays D E S x s l1 f1 p1 a n h unmentioned
            | inr w ↦ absurd (true-false h w.1)
          ]
          at false h = ap not (new_stood D F W later t l2 f2 p2 b n h) ∙ sym (ap is_nowhere (unknown_nowhere E x.after n (none (E.nodes n) refl h)))

      go : (o : Option Spot) → p1 n ≡ o → IfSome o (λ p. E.place n ≡ p) → nowhere_by o (f2 n) ≡ is_nowhere (E.place n)
      go None q h = silent q
      go (Some p) q h = ap is_nowhere (sym h)

  last_is : (n : NodeId) → same_node n root ≡ false → either l1 l2 n ≡ true → nowhere_told p2 f1 n ≡ is_nowhere (F.place n)
  last_is n z e = go (p2 n) refl (b.spots_so n)
    where
      silent : p2 n ≡ None → not (f1 n) ≡ is_nowhere (F.place n)
      silent q = elim (listed_is D E S x s l1 f1 p1 a n by_first_part) [
        | inl m ↦ not_stood D E S x s l1 f1 p1 a n m ∙ stays D F W later t l2 f2 p2 b n (is_there D n (mention_known D E S x.before s n m)) unmentioned
        | inr w ↦ absurd (true-false (new_listed D F W later t l2 f2 p2 b n w.1 (still n w.0)) (untold D F W later t l2 f2 p2 b n q))
      ]
        where
          by_first_part : l1 n ≡ true
          by_first_part = other_first (l1 n) (l2 n) e (untold D F W later t l2 f2 p2 b n q)

          unmentioned : t.mentioned n ≡ false
          unmentioned = refuted-false (t.mentioned n) (λ k. true-false (mentioned_listed D F W later t l2 f2 p2 b n z k) (untold D F W later t l2 f2 p2 b n q))

      go : (o : Option Spot) → p2 n ≡ o → IfSome o (λ p. F.place n ≡ p) → nowhere_by o (f1 n) ≡ is_nowhere (F.place n)
      go None q h = silent q
      go (Some p) q h = ap is_nowhere (sym h)

  pub tells_rest : TellsRest D E F s.mentioned t.mentioned (either l1 l2) (nowhere_told p1 f2) (nowhere_told p2 f1)
  tells_rest = record { told_so = told_is; between_so = between_is; last_so = last_is }
