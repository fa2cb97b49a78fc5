-- Where the intent of a change puts nodes.
use Rattle.std.proofs.Common.{◌≡◌, ◌≢◌, ◌≤◌, ◌+◌, ◌++◌, ℕ, zero, suc, Bool, true, false, not, List, [], ◌∷◌, map, Option, Some, None, cond, refl, sym, ap, ◌∙◌, subst, inl, inr, ◌⊎◌, arith, option_map}
use Rattle.std.specs.List.{filter, filter_map, flat_map}
use Rattle.st_ids.specs.Listing.{AreDistinct, Has}
use Rattle.st_ids.specs.Order.{same_node}
use Rattle.st_ids.proofs.Orders.{same_node-true, same_node-itself}
use Rattle.st_ids.specs.declared.names.CellId.{CellId}
use Rattle.st_ids.specs.declared.names.FieldId.{FieldId}
use Rattle.st_ids.specs.declared.names.NodeId.{NodeId}
use Rattle.st_marks.specs.declared.changes.Change.{Change}
use Rattle.st_marks.specs.declared.intents.Intent.{Intent}
use Rattle.st_marks.specs.declared.intents.Put.{Put}
use Rattle.st_marks.specs.declared.intents.To.{To}
use Rattle.st_normal.specs.declared.entries.Found.{Found}
use Rattle.st_marks.specs.declared.marks.How.{How}
use Rattle.st_marks.specs.declared.marks.How.TheVariants.{Stay, Here, Leave}
use Rattle.st_marks.specs.declared.marks.Loose.{Loose}
use Rattle.st_marks.specs.declared.marks.RegMark.{RegMark}
use Rattle.st_marks.specs.declared.marks.RowMarks.{RowMarks}
use Rattle.st_marks.specs.Document.{Document, IsSoundInForm}
use Rattle.st_ids.specs.Root.{root}
use Rattle.st_marks.specs.Embedding.{is_among}
use Rattle.st_marks.specs.Intent.{put_of}
use Rattle.st_marks.specs.Row.{CellMark, Counted, Gap, Touch, Make, Fill, spread, how, same_to}
use Rattle.st_marks.specs.How.{is_here, is_leave}
use Rattle.st_normal.specs.Rules.{IsFound, IsFoundAs, Entries, ObeysDataRules, found_at, found_held, found_in, found_loose, in_rows, incoming_nodes, entries_of_change, put_at}
use Rattle.st_marks.specs.Listings.{cells_in, one_or_none}
use Rattle.st_normal.proofs.Counts.{times, times-append, times-all, times-has, times-none, has-times, once-times, times-once}
use Rattle.st_marks.proofs.Members.{all-has, has-append, has-map, first-distinct, distinct-filter_map, one_list, list_distinct}
use Rattle.st_puts.specs.Meant.{IsOver, nodes_gone, leaving_nodes, loose_puts, meant_intent, put_to, reg_puts, row_puts}
use Rattle.st_puts.proofs.MentionsOfIntents.{has-leaving, row_put-has}
use Rattle.st_puts.proofs.MentionsListed.{put-cases}
use Rattle.st_ids.proofs.Shared.{filtered}
use Rattle.st_normal.proofs.OnePlace.{map-all}
use Rattle.st_lemmas.proofs.Lists.{map-append}
use Rattle.st_marks.proofs.Shared.{same_to-true, same_to-itself}

abbrev put_node : Put → NodeId
put_node p = p.node

abbrev found_node : Found → NodeId
found_node f = f.node

-- ## Each node is put once

-- the nodes that are set where they are
abbrev heres : List Found → List NodeId
heres [] = []
heres (f ∷ fs) = cond (is_here f.how) (f.node ∷ heres fs) (heres fs)

heres-append : (xs ys : List Found) → heres (xs ++ ys) ≡ heres xs ++ heres ys
heres-append [] ys = refl
heres-append (f ∷ fs) ys = elim (is_here f.how) as (λ b. cond b (f.node ∷ heres (fs ++ ys)) (heres (fs ++ ys)) ≡ cond b (f.node ∷ heres fs) (heres fs) ++ heres ys) [
  | true ↦ ap (λ l. f.node ∷ l) (heres-append fs ys)
  | false ↦ heres-append fs ys
]

heres-all : {A : Type 0} (f : A → List Found) (xs : List A) → heres (flat_map f xs) ≡ flat_map (λ x. heres (f x)) xs
heres-all f [] = refl
heres-all f (x ∷ xs) = heres-append (f x) (flat_map f xs) ∙ ap (λ l. heres (f x) ++ l) (heres-all f xs)

both-times : (n : NodeId) (fs : List Found) → times n (heres fs) + times n (leaving_nodes fs) ≤ times n (map found_node fs)
both-times n [] = omega arith
both-times n (f ∷ fs) = go f.how (both-times n fs)
  where
    go : (h : How) → times n (heres fs) + times n (leaving_nodes fs) ≤ times n (map found_node fs)
        → times n (cond (is_here h) (f.node ∷ heres fs) (heres fs)) + times n (cond (is_leave h) (f.node ∷ leaving_nodes fs) (leaving_nodes fs)) ≤ times n (f.node ∷ map found_node fs)
    go Stay l = omega (arith, l)
    go Here l = omega (arith, l)
    go Leave l = omega (arith, l)

row-times : (n : NodeId) (ms : List CellMark) → times n (map put_node (row_puts ms)) ≤ times n (incoming_nodes ms) + times n (heres (found_in ms))
row-times n [] = omega arith
row-times n (Counted ∷ ms) = row-times n ms
row-times n (Gap c ∷ ms) = row-times n ms
row-times n (Touch c m h ∷ ms) = elim (is_here h) as (λ b. times n (map put_node (cond b (put_to m (To.Cell c) ∷ row_puts ms) (row_puts ms))) ≤ times n (incoming_nodes ms) + times n (cond b (m ∷ heres (found_in ms)) (heres (found_in ms)))) [
  | true ↦ omega (arith, row-times n ms)
  | false ↦ row-times n ms
]
row-times n (Make c m b ∷ ms) = elim b as (λ b. times n (map put_node (cond b (put_to m (To.Cell c) ∷ row_puts ms) (row_puts ms))) ≤ times n (cond b (m ∷ []) [] ++ incoming_nodes ms) + times n (heres (found_in ms))) [
  | true ↦ omega (arith, row-times n ms)
  | false ↦ row-times n ms
]
row-times n (Fill c m ∷ ms) = omega (arith, row-times n ms)

same-nodes : (f : FieldId) (o : Option NodeId) → map put_node (map (λ n. put_to n (To.Register f)) (one_or_none o)) ≡ one_or_none o
same-nodes f None = refl
same-nodes f (Some n) = refl

reg-times : (n : NodeId) (r : RegMark) → times n (map put_node (reg_puts r)) ≤ times n (put_at r) + times n (heres (found_at r))
reg-times n r =
    let e = ap (times n) (map-append put_node (map (λ n. put_to n (To.Register r.field)) (one_or_none r.fill)) (cond (is_here r.how) (map (λ n. put_to n (To.Register r.field)) (one_or_none r.held)) [])) in
    let f = times-append n (map put_node (map (λ n. put_to n (To.Register r.field)) (one_or_none r.fill))) (map put_node (cond (is_here r.how) (map (λ n. put_to n (To.Register r.field)) (one_or_none r.held)) [])) in
    let g = ap (times n) (same-nodes r.field r.fill) in
    let h = held r.held in
    omega (arith, e, f, g, h)
  where
    held : (o : Option NodeId) → times n (map put_node (cond (is_here r.how) (map (λ n. put_to n (To.Register r.field)) (one_or_none o)) [])) ≤ times n (heres (found_held o r.how))
    held None = elim (is_here r.how) as (λ b. times n (map put_node (cond b (map (λ n. put_to n (To.Register r.field)) (one_or_none None)) [])) ≤ 0) [ true ↦ omega arith | false ↦ omega arith ]
    held (Some m) = elim (is_here r.how) as (λ b. times n (map put_node (cond b (map (λ n. put_to n (To.Register r.field)) (one_or_none (Some m))) [])) ≤ times n (cond b (m ∷ []) [])) [ true ↦ omega arith | false ↦ omega arith ]

loose-times : (n : NodeId) (ls : List Loose) → times n (map put_node (flat_map loose_puts ls)) ≤ times n (heres (found_loose ls))
loose-times n [] = omega arith
loose-times n (l ∷ ls) = elim (is_here l.how) as (λ b. times n (map put_node (cond b (put_to l.node To.Nowhere ∷ []) [] ++ flat_map loose_puts ls)) ≤ times n (cond b (l.node ∷ heres (found_loose ls)) (heres (found_loose ls)))) [
  | true ↦ omega (arith, loose-times n ls)
  | false ↦ loose-times n ls
]

map-same : (ns : List NodeId) → map put_node (map (λ n. put_to n To.Nowhere) ns) ≡ ns
map-same [] = refl
map-same (n ∷ ns) = ap (λ l. n ∷ l) (map-same ns)

filter-times : (n : NodeId) (p : NodeId → Bool) (ns : List NodeId) → times n (filter p ns) ≤ times n ns
filter-times n p [] = omega arith
filter-times n p (m ∷ ms) = elim (p m) as (λ b. times n (cond b (m ∷ filter p ms) (filter p ms)) ≤ times n (m ∷ ms)) [
  | true ↦ omega (arith, filter-times n p ms)
  | false ↦ omega (arith, filter-times n p ms)
]

here-only : (o : Option To) (t : To) → is_here (how o t) ≡ true → (u : To) × (o ≡ Some u) × (same_to u t ≡ true)
here-only None t e = cc
here-only (Some u) t e = (u, refl, go (same_to u t) e)
  where
    go : (b : Bool) → is_here (cond b Here Leave) ≡ true → b ≡ true
    go true e = refl
    go false e = cc

-- who is set there is put there
pub is_here-put : (o : Option To) (t : To) → is_here (how o t) ≡ true → o ≡ Some t
is_here-put o t e = let r = here-only o t e in r.1 ∙ ap (λ u. Some u) (same_to-true r.0 t r.2)

pub put-is_here : (o : Option To) (t : To) → o ≡ Some t → how o t ≡ Here
put-is_here o t e = rw e (ap (λ b. cond b Here Leave) (same_to-itself t))

-- the cell of a mark
abbrev pub mark_cell : CellMark → Option CellId
mark_cell Counted = None
mark_cell (Gap c) = Some c
mark_cell (Touch c n h) = Some c
mark_cell (Make c n b) = Some c
mark_cell (Fill c n) = Some c

pub cells_in-marks : (ms : List CellMark) → cells_in ms ≡ filter_map mark_cell ms
cells_in-marks [] = refl
cells_in-marks (Counted ∷ ms) = cells_in-marks ms
cells_in-marks (Gap c ∷ ms) = ap (λ l. c ∷ l) (cells_in-marks ms)
cells_in-marks (Touch c n h ∷ ms) = ap (λ l. c ∷ l) (cells_in-marks ms)
cells_in-marks (Make c n b ∷ ms) = ap (λ l. c ∷ l) (cells_in-marks ms)
cells_in-marks (Fill c n ∷ ms) = ap (λ l. c ∷ l) (cells_in-marks ms)

pub mark-cell : (ms : List CellMark) (y : CellMark) (c : CellId) → Has ms y → mark_cell y ≡ Some c → Has (cells_in ms) c
mark-cell ms y c h e = subst (λ l. Has l c) (sym (cells_in-marks ms)) (Rattle.st_marks.proofs.Members.has-filter_map mark_cell ms y c h e)

module _ (D : Document) (C : Change) (x : IsSoundInForm D) (w : ObeysDataRules C) (o : IsOver D C) where
  abbrev L : Entries
  L = entries_of_change C

  abbrev N : Intent
  N = meant_intent D C

  put_sum : (n : NodeId) → times n (map put_node N.put) ≤ times n L.put + times n (heres L.found) + times n (nodes_gone C)
  put_sum n =
      let rows = flat_map (λ (r : RowMarks). row_puts (spread r.marks)) C.rows in
      let regs = flat_map reg_puts C.regs in
      let loose = flat_map loose_puts C.loose in
      let out = map (λ n. put_to n To.Nowhere) (nodes_gone C) in
      let a = ap (times n) (map-append put_node rows (regs ++ (loose ++ out))) ∙ times-append n (map put_node rows) (map put_node (regs ++ (loose ++ out))) in
      let b = ap (times n) (map-append put_node regs (loose ++ out)) ∙ times-append n (map put_node regs) (map put_node (loose ++ out)) in
      let c = ap (times n) (map-append put_node loose out) ∙ times-append n (map put_node loose) (map put_node out) in
      let d = ap (times n) (map-same (nodes_gone C)) in
      let e = ap (times n) (map-all put_node (λ (r : RowMarks). row_puts (spread r.marks)) C.rows) in
      let f = times-all n (λ (r : RowMarks). map put_node (row_puts (spread r.marks))) (λ (r : RowMarks). incoming_nodes (spread r.marks)) (λ (r : RowMarks). heres (found_in (spread r.marks))) (λ r. row-times n (spread r.marks)) C.rows in
      let g = ap (times n) (map-all put_node reg_puts C.regs) in
      let h = times-all n (λ (r : RegMark). map put_node (reg_puts r)) put_at (λ (r : RegMark). heres (found_at r)) (λ r. reg-times n r) C.regs in
      let i = loose-times n C.loose in
      let j = times-append n (in_rows incoming_nodes C.rows) (flat_map put_at C.regs) in
      let k = ap (times n) (heres-append (in_rows found_in C.rows) (flat_map found_at C.regs ++ found_loose C.loose)) ∙ times-append n (heres (in_rows found_in C.rows)) (heres (flat_map found_at C.regs ++ found_loose C.loose)) in
      let l = ap (times n) (heres-append (flat_map found_at C.regs) (found_loose C.loose)) ∙ times-append n (heres (flat_map found_at C.regs)) (heres (found_loose C.loose)) in
      let p = ap (times n) (heres-all (λ (r : RowMarks). found_in (spread r.marks)) C.rows) in
      let q = ap (times n) (heres-all found_at C.regs) in
      omega (arith, a, b, c, d, e, f, g, h, i, j, k, l, p, q)

  found_few : (n : NodeId) → times n (map found_node L.found) ≤ 1
  found_few n = once-times found_node L.found w.common.found_once n

  same : (xs : List NodeId) → map (λ (n : NodeId). n) xs ≡ xs
  same [] = refl
  same (x ∷ xs) = ap (λ l. x ∷ l) (same xs)

  put_few : (n : NodeId) → times n L.put ≤ 1
  put_few n = subst (λ xs. times n xs ≤ 1) (same L.put) (once-times (λ (n : NodeId). n) L.put w.common.put_once n)

  pub put_once : AreDistinct (λ (p : Put). p.node) N.put
  put_once = times-once put_node N.put (λ n. few n (put_sum n) (times n L.put) refl)
    where
      few : (n : NodeId) → times n (map put_node N.put) ≤ times n L.put + times n (heres L.found) + times n (nodes_gone C) → (k : ℕ) → times n L.put ≡ k → times n (map put_node N.put) ≤ 1
      few n s zero e =
          let a = both-times n L.found in
          let b = found_few n in
          let c = filter-times n (λ n. not (is_among L.put n)) (leaving_nodes L.found) in
          omega (arith, s, e, a, b, c)
      few n s (suc k) e =
          let h = has-times n L.put (omega (arith, e)) in
          let z = times-none n (nodes_gone C) (λ i. let q = filtered (λ n. not (is_among L.put n)) (leaving_nodes L.found) n i in not-among h q.1) in
          let y = none-here h in
          let p = put_few n in
          omega (arith, s, z, y, p)
        where
          not-among : Has L.put n → not (is_among L.put n) ≡ true → ⊥
          not-among h q = go (is_among L.put n) ((Rattle.st_normal.proofs.NoRings.among_has L.put n).1 h) q
            where
              go : (b : Bool) → b ≡ true → not b ≡ true → ⊥
              go true e f = cc
              go false e f = cc

          none-here : Has L.put n → times n (heres L.found) ≡ 0
          none-here h = elim (all-has (λ (n : NodeId). Has L.new n ⊎ IsFoundAs L n Leave) L.put n w.common.put_leave h) [
            | inl i ↦ (let z = times-none n (map found_node L.found) (all-has (λ (n : NodeId). (n ≢ root) × (IsFound L n → ⊥)) L.new n w.common.new_not_found i).1 in
                let a = both-times n L.found in omega (arith, z, a))
            | inr i ↦ (let l = times-has n (leaving_nodes L.found) (has-leaving L.found (record { node = n; how = Leave }) i refl) in
                let a = both-times n L.found in let b = found_few n in omega (arith, l, a, b))
          ]

  -- ## Look-ups

  pub put-is : (n : NodeId) (t : To) → Has N.put (put_to n t) → put_of N n ≡ Some t
  put-is n t h = ap (option_map (λ (p : Put). p.to)) (first-distinct (λ (p : Put). p.node) N.put (λ (q : Put). same_node q.node n) (put_to n t) put_once h (same_node-itself n) (λ q e. same_node-true q.node n e))

  -- the mark that puts a node into a cell
  pub cell-put : (n : NodeId) (c : CellId) → put_of N n ≡ Some (To.Cell c) → (r : RowMarks) × Has C.rows r × (Has (spread r.marks) (Touch c n Here) ⊎ Has (spread r.marks) (Make c n true) ⊎ Has (spread r.marks) (Fill c n))
  cell-put n c e = elim (put-cases D C x w o (put_to n (To.Cell c)) (Rattle.st_marks.proofs.Lookups.put-has N n (To.Cell c) e)) [
    | inl (r, i, j) ↦ (let q = row_put-has (spread r.marks) (put_to n (To.Cell c)) j in let s : q.0 ≡ c = one-cell q.0 c (sym q.1) in (
      r,
      i,
      elim q.2 [
        | inl a ↦ inl (subst (λ d. Has (spread r.marks) (Touch d n Here)) s a)
        | inr b ↦ elim b [ inl a ↦ inr (inl (subst (λ d. Has (spread r.marks) (Make d n true)) s a)) | inr a ↦ inr (inr (subst (λ d. Has (spread r.marks) (Fill d n)) s a)) ]
      ],
    ))
    | inr a ↦ absurd (elim a [
      | inl (r, i, j) ↦ elim (has-append (map (λ n. put_to n (To.Register r.field)) (one_or_none r.fill)) (cond (is_here r.how) (map (λ n. put_to n (To.Register r.field)) (one_or_none r.held)) []) (put_to n (To.Cell c)) j) [
        | inl k ↦ (let m = has-map (λ n. put_to n (To.Register r.field)) (one_or_none r.fill) (put_to n (To.Cell c)) k in not-register r.field c (ap (λ (p : Put). p.to) m.2))
        | inr k ↦ set r (is_here r.how) k
      ]
      | inr b ↦ elim b [
        | inl (l, i, j) ↦ nowhere l (is_here l.how) j
        | inr (m, i, q) ↦ not-nowhere c (ap (λ (p : Put). p.to) (sym q))
      ]
    ])
  ]
    where
      one-cell : (a b : CellId) → To.Cell a ≡ To.Cell b → a ≡ b
      one-cell a b q = cc

      not-register : (f : FieldId) (d : CellId) → To.Register f ≡ To.Cell d → ⊥
      not-register f d q = cc

      not-nowhere : (d : CellId) → To.Nowhere ≡ To.Cell d → ⊥
      not-nowhere d q = cc

      set : (r : RegMark) (b : Bool) → Has (cond b (map (λ n. put_to n (To.Register r.field)) (one_or_none r.held)) []) (put_to n (To.Cell c)) → ⊥
      set r false k = k
      set r true k = let m = has-map (λ n. put_to n (To.Register r.field)) (one_or_none r.held) (put_to n (To.Cell c)) k in not-register r.field c (ap (λ (p : Put). p.to) m.2)

      nowhere : (l : Loose) (b : Bool) → Has (cond b (put_to l.node To.Nowhere ∷ []) []) (put_to n (To.Cell c)) → ⊥
      nowhere l false k = k
      nowhere l true (inl q) = not-nowhere c (ap (λ (p : Put). p.to) q)
      nowhere l true (inr k) = k

  -- two marks of one cell are one
  pub one_mark : (r q : RowMarks) (y z : CellMark) (c : CellId) → Has C.rows r → Has C.rows q → Has (spread r.marks) y → Has (spread q.marks) z → mark_cell y ≡ Some c → mark_cell z ≡ Some c → (r ≡ q) × (y ≡ z)
  one_mark r q y z c i j k l e f =
      let s = one_list (λ (r : RowMarks). cells_in (spread r.marks)) (λ (c : CellId). c) C.rows r q c c w.common.cells_once i j (mark-cell (spread r.marks) y c k e) (mark-cell (spread q.marks) z c l f) refl in (
        s,
        distinct-filter_map mark_cell (spread r.marks) y z c
            (subst (AreDistinct (λ (c : CellId). c)) (cells_in-marks (spread r.marks)) (list_distinct (λ (r : RowMarks). cells_in (spread r.marks)) (λ (c : CellId). c) C.rows r w.common.cells_once i))
            k (subst (λ (r : RowMarks). Has (spread r.marks) z) (sym s) l) e f,
      )
