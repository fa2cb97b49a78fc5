-- Each node stands at one place before, and at one place after.
use Rattle.std.proofs.Common.{◌≡◌, ◌≢◌, ◌+◌, ◌≤◌, ℕ, zero, suc, Bool, true, false, List, [], ◌∷◌, ◌++◌, map, Option, refl, sym, ap, ◌∙◌, subst, arith, inl, inr, ◌⊎◌, if◌then◌else◌}
use Rattle.std.specs.List.{flat_map}
use Rattle.st_ids.specs.Listing.{AreDistinct, Has}
use Rattle.st_ids.specs.declared.names.FieldId.{FieldId}
use Rattle.st_ids.specs.declared.names.NodeId.{NodeId}
use Rattle.st_marks.specs.declared.changes.NewNode.{NewNode}
use Rattle.st_normal.specs.declared.entries.Found.{Found}
use Rattle.st_marks.specs.declared.marks.How.TheVariants.{Leave}
use Rattle.st_marks.specs.declared.marks.Loose.{Loose}
use Rattle.st_marks.specs.declared.marks.RowMarks.{RowMarks}
use Rattle.st_ids.specs.Root.{root}
use Rattle.st_normal.specs.inside.Links.{link, links_in, links_at, stands_after, stands_before}
use Rattle.st_marks.specs.Row.{CellMark, Counted, Gap, Touch, Make, Fill, spread}
use Rattle.st_normal.specs.Rules.{Entries, entries_by, found_in, found_loose, incoming_nodes, in_rows, NodesAreFoundOnce, NodesArePutOnce, PutNodesLeave, NewNodesAreNotFound, IsFound, IsFoundAs}
use Rattle.st_marks.specs.Listings.{one_or_none}
use Rattle.st_marks.specs.How.{is_leave}
use Rattle.st_normal.proofs.Counts.{times, times-append, times-all, times-none, has-times, once-times, times-once}
use Rattle.st_normal.proofs.Linked.{link_node}
use Rattle.st_marks.proofs.Members.{all-has, append_left, append_right, distinct-has, has-append, map-has}
use Rattle.st_lemmas.proofs.Lists.{flat_map-same, map-append}

abbrev pub found_node : Found → NodeId
found_node f = f.node

-- those that don't leave
abbrev pub lasting : List Found → List NodeId
lasting [] = []
lasting (f ∷ fs) = if is_leave f.how then lasting fs else f.node ∷ lasting fs

lasting-append : (xs ys : List Found) → lasting (xs ++ ys) ≡ lasting xs ++ lasting ys
lasting-append [] ys = refl
lasting-append (f ∷ fs) ys = elim (is_leave f.how) as (λ b. (if b then lasting (fs ++ ys) else f.node ∷ lasting (fs ++ ys)) ≡ (if b then lasting fs else f.node ∷ lasting fs) ++ lasting ys) [
  | true ↦ lasting-append fs ys
  | false ↦ ap (λ l. f.node ∷ l) (lasting-append fs ys)
]

lasting-all : {A : Type 0} (f : A → List Found) (xs : List A) → lasting (flat_map f xs) ≡ flat_map (λ x. lasting (f x)) xs
lasting-all f [] = refl
lasting-all f (x ∷ xs) = lasting-append (f x) (flat_map f xs) ∙ ap (λ l. lasting (f x) ++ l) (lasting-all f xs)

lasting-has : (fs : List Found) (n : NodeId) → Has (lasting fs) n → (f : Found) × Has fs f × (f.node ≡ n) × (is_leave f.how ≡ false)
lasting-has [] n h = absurd h
lasting-has (f ∷ fs) n h = go (is_leave f.how) refl (λ i. let r = lasting-has fs n i in (r.0, inr r.1, r.2, r.3)) h
  where
    go : (b : Bool) → is_leave f.how ≡ b → (Has (lasting fs) n → (g : Found) × Has (f ∷ fs) g × (g.node ≡ n) × (is_leave g.how ≡ false)) → Has (if b then lasting fs else f.node ∷ lasting fs) n → (g : Found) × Has (f ∷ fs) g × (g.node ≡ n) × (is_leave g.how ≡ false)
    go true e rest i = rest i
    go false e rest (inl q) = (f, inl refl, q, e)
    go false e rest (inr i) = rest i

lasting-times : (n : NodeId) (fs : List Found) → times n (lasting fs) ≤ times n (map found_node fs)
lasting-times n [] = omega arith
lasting-times n (f ∷ fs) = elim (is_leave f.how) as (λ b. times n (if b then lasting fs else f.node ∷ lasting fs) ≤ times n (map found_node (f ∷ fs))) [
  | true ↦ omega (arith, lasting-times n fs)
  | false ↦ omega (arith, lasting-times n fs)
]

pub map-all : {A B C : Type 0} (f : B → C) (g : A → List B) (xs : List A) → map f (flat_map g xs) ≡ flat_map (λ x. map f (g x)) xs
map-all f g [] = refl
map-all f g (x ∷ xs) = map-append f (g x) (flat_map g xs) ∙ ap (λ l. map f (g x) ++ l) (map-all f g xs)

linked : (p : NodeId) (xs : List NodeId) → map link_node (map (link p) xs) ≡ xs
linked p [] = refl
linked p (x ∷ xs) = ap (λ l. x ∷ l) (linked p xs)

module _ {R : Type 0} (found : R → List Found) (put : R → List NodeId) (field : R → FieldId) where
  -- the nodes of the links
  linked_nodes : (stands : List CellMark → List NodeId) (held : R → Option NodeId) (rows : List RowMarks) (regs : List R)
      → map link_node (links_in stands rows ++ links_at field held regs) ≡ in_rows stands rows ++ flat_map (λ r. one_or_none (held r)) regs
  linked_nodes stands held rows regs =
      map-append link_node (links_in stands rows) (links_at field held regs)
      ∙ ap (λ l. l ++ map link_node (links_at field held regs)) (map-all link_node (λ (r : RowMarks). map (link r.node) (stands (spread r.marks))) rows ∙ flat_map-same (λ (r : RowMarks). map link_node (map (link r.node) (stands (spread r.marks)))) (λ (r : RowMarks). stands (spread r.marks)) (λ r. linked r.node (stands (spread r.marks))) rows)
      ∙ ap (λ l. in_rows stands rows ++ l) (map-all link_node (λ (r : R). map (link (field r).node) (one_or_none (held r))) regs ∙ flat_map-same (λ (r : R). map link_node (map (link (field r).node) (one_or_none (held r)))) (λ (r : R). one_or_none (held r)) (λ r. linked (field r).node (one_or_none (held r))) regs)

  -- ## Before

  before-times : (n : NodeId) (ms : List CellMark) → times n (stands_before ms) ≤ times n (map found_node (found_in ms))
  before-times n [] = omega arith
  before-times n (Counted ∷ ms) = before-times n ms
  before-times n (Gap c ∷ ms) = before-times n ms
  before-times n (Touch c m h ∷ ms) = omega (arith, before-times n ms)
  before-times n (Make c m b ∷ ms) = before-times n ms
  before-times n (Fill c m ∷ ms) = before-times n ms

  pub once_before : (held : R → Option NodeId) → ((r : R) (n : NodeId) → times n (one_or_none (held r)) ≤ times n (map found_node (found r))) → (new : List NewNode) (rows : List RowMarks) (regs : List R) (loose : List Loose)
      → NodesAreFoundOnce (entries_by found put field new rows regs loose) → AreDistinct link_node (links_in stands_before rows ++ links_at field held regs)
  once_before held l new rows regs loose d = times-once link_node (links_in stands_before rows ++ links_at field held regs) (λ n.
      let e = ap (times n) (linked_nodes stands_before held rows regs) ∙ times-append n (in_rows stands_before rows) (flat_map (λ r. one_or_none (held r)) regs) in
      let a = times-all n (λ (r : RowMarks). stands_before (spread r.marks)) (λ (r : RowMarks). map found_node (found_in (spread r.marks))) (λ r. []) (λ r. omega (arith, before-times n (spread r.marks))) rows in
      let b = times-all n (λ (r : R). one_or_none (held r)) (λ (r : R). map found_node (found r)) (λ r. []) (λ r. omega (arith, l r n)) regs in
      let f = times-append n (map found_node (in_rows found_in rows)) (map found_node (flat_map found regs ++ found_loose loose)) in
      let g = times-append n (map found_node (flat_map found regs)) (map found_node (found_loose loose)) in
      let h = ap (times n) (map-append found_node (in_rows found_in rows) (flat_map found regs ++ found_loose loose)) in
      let i = ap (times n) (map-append found_node (flat_map found regs) (found_loose loose)) in
      let j = ap (times n) (map-all found_node (λ (r : RowMarks). found_in (spread r.marks)) rows) in
      let k = ap (times n) (map-all found_node found regs) in
      let o = once-times found_node (entries_by found put field new rows regs loose).found d n in
      let z = nothing n rows in
      let y = nothing n regs in
      omega (arith, e, a, b, f, g, h, i, j, k, o, z, y))
    where
      nothing : {A : Type 0} (n : NodeId) (xs : List A) → times n (flat_map (λ x. []) xs) ≡ 0
      nothing n [] = refl
      nothing n (x ∷ xs) = nothing n xs

  -- ## After

  after-times : (n : NodeId) (ms : List CellMark) → times n (stands_after ms) ≤ times n (lasting (found_in ms)) + times n (incoming_nodes ms)
  after-times n [] = omega arith
  after-times n (Counted ∷ ms) = after-times n ms
  after-times n (Gap c ∷ ms) = after-times n ms
  after-times n (Touch c m h ∷ ms) = elim (is_leave h) as (λ b. times n ((if b then [] else m ∷ []) ++ stands_after ms) ≤ times n (if b then lasting (found_in ms) else m ∷ lasting (found_in ms)) + times n (incoming_nodes ms)) [
    | true ↦ after-times n ms
    | false ↦ omega (arith, after-times n ms)
  ]
  after-times n (Make c m b ∷ ms) = elim b as (λ b. times n ((if b then m ∷ [] else []) ++ stands_after ms) ≤ times n (lasting (found_in ms)) + times n ((if b then m ∷ [] else []) ++ incoming_nodes ms)) [
    | true ↦ omega (arith, after-times n ms)
    | false ↦ after-times n ms
  ]
  after-times n (Fill c m ∷ ms) = omega (arith, after-times n ms)

  -- a node that is put doesn't stay
  put-leaves : (L : Entries) → NodesAreFoundOnce L → PutNodesLeave L → NewNodesAreNotFound L → (n : NodeId) → Has L.put n → (f : Found) → Has L.found f → f.node ≡ n → is_leave f.how ≡ false → ⊥
  put-leaves L d p q n h f i e s = elim (all-has (λ (n : NodeId). Has L.new n ⊎ IsFoundAs L n Leave) L.put n p h) [
    | inl a ↦ (all-has (λ (n : NodeId). (n ≢ root) × (IsFound L n → ⊥)) L.new n q a).1 (subst (Has (map found_node L.found)) e (map-has found_node L.found f i))
    | inr j ↦ (let same : f ≡ record { node = n; how = Leave } = distinct-has found_node L.found f (record { node = n; how = Leave }) d i j e in let bad : ◌≡◌ {A = Bool} false true = sym s ∙ ap (λ (f : Found). is_leave f.how) same in cc)
  ]

  pub once_after : (held : R → Option NodeId) → ((r : R) (n : NodeId) → times n (one_or_none (held r)) ≤ times n (lasting (found r)) + times n (put r)) → (new : List NewNode) (rows : List RowMarks) (regs : List R) (loose : List Loose)
      → let L = entries_by found put field new rows regs loose in NodesAreFoundOnce L → NodesArePutOnce L → PutNodesLeave L → NewNodesAreNotFound L → AreDistinct link_node (links_in stands_after rows ++ links_at field held regs)
  once_after held l new rows regs loose d u p q = times-once link_node (links_in stands_after rows ++ links_at field held regs) (λ n. apart n (sum n))
    where
      L : Entries
      L = entries_by found put field new rows regs loose

      fs : List Found
      fs = in_rows found_in rows ++ flat_map found regs

      sum : (n : NodeId) → times n (map link_node (links_in stands_after rows ++ links_at field held regs)) ≤ times n (lasting fs) + times n L.put
      sum n =
          let e = ap (times n) (linked_nodes stands_after held rows regs) ∙ times-append n (in_rows stands_after rows) (flat_map (λ r. one_or_none (held r)) regs) in
          let a = times-all n (λ (r : RowMarks). stands_after (spread r.marks)) (λ (r : RowMarks). lasting (found_in (spread r.marks))) (λ (r : RowMarks). incoming_nodes (spread r.marks)) (λ r. after-times n (spread r.marks)) rows in
          let b = times-all n (λ (r : R). one_or_none (held r)) (λ (r : R). lasting (found r)) put (λ r. l r n) regs in
          let f = ap (times n) (lasting-append (in_rows found_in rows) (flat_map found regs)) ∙ times-append n (lasting (in_rows found_in rows)) (lasting (flat_map found regs)) in
          let g = ap (times n) (lasting-all (λ (r : RowMarks). found_in (spread r.marks)) rows) in
          let h = ap (times n) (lasting-all found regs) in
          let i = times-append n (in_rows incoming_nodes rows) (flat_map put regs) in
          omega (arith, e, a, b, f, g, h, i)

      within : (f : Found) → Has fs f → Has L.found f
      within f h = elim (has-append (in_rows found_in rows) (flat_map found regs) f h) [
        | inl i ↦ append_left (in_rows found_in rows) (flat_map found regs ++ found_loose loose) f i
        | inr i ↦ append_right (in_rows found_in rows) (flat_map found regs ++ found_loose loose) f (append_left (flat_map found regs) (found_loose loose) f i)
      ]

      few : (n : NodeId) → times n (lasting fs) ≤ 1
      few n =
          let o = once-times found_node L.found d n in
          let t = lasting-times n fs in
          let f = ap (times n) (map-append found_node (in_rows found_in rows) (flat_map found regs ++ found_loose loose)) ∙ times-append n (map found_node (in_rows found_in rows)) (map found_node (flat_map found regs ++ found_loose loose)) in
          let g = ap (times n) (map-append found_node (flat_map found regs) (found_loose loose)) ∙ times-append n (map found_node (flat_map found regs)) (map found_node (found_loose loose)) in
          let h = ap (times n) (map-append found_node (in_rows found_in rows) (flat_map found regs)) ∙ times-append n (map found_node (in_rows found_in rows)) (map found_node (flat_map found regs)) in
          omega (arith, o, t, f, g, h)

      puts : (n : NodeId) → times n L.put ≤ 1
      puts n = subst (λ xs. times n xs ≤ 1) (same L.put) (once-times (λ (n : NodeId). n) L.put u n)
        where
          same : (xs : List NodeId) → map (λ (n : NodeId). n) xs ≡ xs
          same [] = refl
          same (x ∷ xs) = ap (λ l. x ∷ l) (same xs)

      apart : (n : NodeId) → times n (map link_node (links_in stands_after rows ++ links_at field held regs)) ≤ times n (lasting fs) + times n L.put → times n (map link_node (links_in stands_after rows ++ links_at field held regs)) ≤ 1
      apart n s = go (times n L.put) refl
        where
          go : (k : ℕ) → times n L.put ≡ k → times n (map link_node (links_in stands_after rows ++ links_at field held regs)) ≤ 1
          go zero e = omega (arith, s, e, few n)
          go (suc k) e =
              let h = has-times n L.put (omega (arith, e)) in
              let z = times-none n (lasting fs) (λ i. let f = lasting-has fs n i in put-leaves L d p q n h f.0 (within f.0 f.1) f.2 f.3) in
              omega (arith, s, z, puts n)
