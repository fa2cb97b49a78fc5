-- The second of two parts that agree stands over the document that the first leaves, and both are parts of one commit.
use Rattle.std.proofs.Common.{◌≡◌, ◌≢◌, ◌↔◌, ◌++◌, ℕ, Bool, true, false, not, List, Option, Some, None, IsSome, IsTrue, IfSome, refl, sym, ap, ◌∙◌, subst, inl, inr, arith}
use Rattle.std.specs.List.{AllByRecursion, list_any}
use Rattle.std.specs.Option.{option_map_or}
use Rattle.st_ids.specs.Listing.{Has, item_of}
use Rattle.st_ids.specs.Order.{field_cmp, node_cmp, same_field}
use Rattle.st_ids.specs.Root.{root}
use Rattle.st_ids.proofs.Orders.{same_field-true}
use Rattle.st_ids.proofs.Shared.{filter-has, filtered}
use Rattle.st_ids.specs.declared.names.CellId.{CellId}
use Rattle.st_ids.specs.declared.names.NodeId.{NodeId}
use Rattle.st_marks.specs.declared.changes.Change.{Change}
use Rattle.st_marks.specs.declared.intents.Intent.{Intent}
use Rattle.st_marks.specs.declared.marks.Loose.{Loose}
use Rattle.st_marks.specs.declared.marks.RegMark.{RegMark}
use Rattle.st_marks.specs.declared.marks.RowMarks.{RowMarks}
use Rattle.st_marks.specs.declared.places.Spot.{Spot}
use Rattle.st_marks.specs.declared.schemas.SchemaEntry.{SchemaEntry}
use Rattle.st_marks.specs.Agree.{Agrees, CanBeParts, JoinClash, SchemasAtChange}
use Rattle.st_marks.specs.CarryOut.{full, with_schema}
use Rattle.st_marks.specs.Document.{Document, IsSoundInForm, content}
use Rattle.st_marks.specs.Embedding.{is_among}
use Rattle.st_marks.specs.Join.{AreParts}
use Rattle.st_marks.specs.Listings.{Listing, cells_after, cells_before, cells_in, cells_made, held_after, listing_after_change, names_of_change, nodes_new}
use Rattle.st_marks.specs.Row.{spread}
use Rattle.st_marks.specs.Verdict.{HasBase}
use Rattle.st_marks.proofs.Members.{all-has, any-has, append_right, flat_map-has, has-append, has-flat_map, has-map, map-has}
use Rattle.st_join.specs.inside.Lists.{join_of}
use Rattle.st_join.proofs.JoinOf.{joined_is_join}
use Rattle.st_normal.specs.Rules.{IsFound, ObeysDataRules, entries_of_change, fill_owners, in_rows}
use Rattle.st_normal.proofs.NoRings.{among_has}
use Rattle.st_puts.specs.Meant.{IsOver, meant_intent}
use Rattle.st_puts.specs.Seen.{AreAsSeen}
use Rattle.st_puts.proofs.Basics.{not-false, register-not-nowhere, row-not-nowhere}
use Rattle.st_normal_laws.specs.Seed.{CanBeFound, Finds, FoundRow, IsBelow, cells_named}
use Rattle.st_normal_laws.specs.Two.{AgreeBeside}
use Rattle.st_normal_laws.specs.inside.One.{found_reg, found_row, nodes_of_found}
use Rattle.st_normal_laws.proofs.SeedSound.{seed_nowhere}
use Rattle.st_normal_laws.proofs.StandsChange.{short_after}
use Rattle.st_normal_laws.proofs.TwoSeed.{row-cell, second_held, second_row}
use Rattle.st_part_agree_laws.proofs.LeftByChange.{says_left}
use Rattle.st_part_pair_laws.specs.Parts.{StandAsParts}
use Rattle.st_part_pair_laws.specs.inside.PartBack.{back_cells, back_regs, back_row}
use Rattle.st_part_pair_laws.proofs.BackFound.{above_both, agree_beside, back-loose, back_found, first-finds, first_found, row-cells, told-seen}
use Rattle.st_part_pair_laws.proofs.BackRows.{part-has}
use Rattle.st_part_pair_laws.proofs.ChangeLater.{emb, fits, known-later, new-later, nothing-above, register-left, register-stays, row-later, row-stays, sound, uncelled-later, unknown-later, unmoved}
use Rattle.st_part_pair_laws.proofs.FirstOver.{D as seed_of, P, Q, W, below-found, below-made, below-new, first_over, found-both, seed_is_sound, together}
use Rattle.st_part_pair_laws.proofs.MadeRings.{made-ends}
use Rattle.st_part_pair_laws.proofs.Marks.{made-in, named-in_row, none-some, row_key, told-before}
use Rattle.st_part_pair_laws.proofs.Meeting.{cell-fresh, node-fresh, nodes-meet, registers-meet, rows-meet}
use Rattle.st_part_pair_laws.proofs.Seeds.{IsToldIn, rows-told, seed-knows, seed-lacks, seed-lacks_cell}
use Rattle.st_part_pair_laws.proofs.Shown.{found-register, found-row, is-there, item-reg, item-row, left-register, left-row, loose-finds, loose-place, named-cell, named-found, named-new, named-told, reg-item, reg_key, row-finds, shown-or, unmade}

module _ (C K : Change) (s : ObeysDataRules C) (t : ObeysDataRules K) (g : Agrees (JoinClash C K)) (parts : CanBeParts C K)
    (entries : List SchemaEntry) (first : SchemasAtChange entries C) (then : SchemasAtChange entries K) where
  abbrev plain : C.schema ≡ None
  plain = parts.no_schema.0

  abbrev also : K.schema ≡ None
  also = parts.no_schema.1

  abbrev F : ℕ
  F = above_both C K

  abbrev L : Listing
  L = listing_after_change C

  abbrev A : Finds
  A = P C K s t g plain also entries first

  abbrev B : Finds
  B = Q C K s t g plain also entries first

  abbrev both : Finds
  both = W C K s t g plain also entries first

  a_found : CanBeFound F A
  a_found = first_found C K s t g plain also entries first.in_effect

  b_found : CanBeFound F B
  b_found = back_found C K s t g plain also entries first.in_effect

  agree : AgreeBeside A B
  agree = agree_beside C K s t g plain also entries first.in_effect

  found : CanBeFound F both
  found = together C K s t g plain also entries first

  abbrev D : Document
  D = seed_of C K s t g plain also entries first

  x : IsSoundInForm D
  x = seed_is_sound C K s t g plain also entries first

  o : IsOver D C
  o = first_over C K s t g plain also entries first

  abbrev N : Intent
  N = meant_intent D C

  abbrev E : Document
  E = full D N

  y : IsSoundInForm E
  y = sound D C x s o plain parts.first_no_ring

  -- ## Rows

  row-seen : (r : RowMarks) → Has K.rows r → AreAsSeen (content E r.node) (cells_before (spread r.marks))
  row-seen r i = go (item_of node_cmp row_key C.rows r.node) refl (second_row F A B a_found b_found agree (back_row C.rows r) (map-has (back_row C.rows) K.rows r i))
    where
      go : (q : Option RowMarks) → item_of node_cmp row_key C.rows r.node ≡ q
          → AreAsSeen (content D r.node) (option_map_or (λ (p : RowMarks). back_cells (spread p.marks) (cells_before (spread r.marks))) q (cells_before (spread r.marks))) → AreAsSeen (content E r.node) (cells_before (spread r.marks))
      go None f h = subst (λ c. AreAsSeen c (cells_before (spread r.marks))) (sym (row-stays D C x s o plain r.node f)) h
      go (Some p) f h =
          let i' = item-row C s r.node p f in
          let same = rows-meet C K s t g r.node (cells_after (spread p.marks)) (cells_before (spread r.marks)) (ap L.row (sym i'.1) ∙ left-row C s p i'.0) (found-row K t r i) in
          subst (λ n. AreAsSeen (content E n) (cells_before (spread r.marks))) i'.1
          (row-later D C x s o plain p (cells_before (spread r.marks)) i'.0 (subst (λ n. AreAsSeen (content D n) (back_cells (spread p.marks) (cells_before (spread r.marks)))) (sym i'.1) h) same)

  -- ## Registers

  register-held : (r : RegMark) → Has K.regs r → E.held r.field ≡ r.held
  register-held r i = go (item_of field_cmp reg_key C.regs r.field) refl
    where
      free : item_of field_cmp reg_key C.regs r.field ≡ None → list_any (λ (q : RegMark). same_field q.field r.field) C.regs ≡ true → ⊥
      free f e = let q = any-has (λ (q : RegMark). same_field q.field r.field) C.regs e in
          none-some (sym f ∙ ap (item_of field_cmp reg_key C.regs) (sym (same_field-true q.0.field r.field q.2)) ∙ reg-item C s q.0 q.1)

      go : (q : Option RegMark) → item_of field_cmp reg_key C.regs r.field ≡ q → E.held r.field ≡ r.held
      go (Some q) f =
          let i' = item-reg C s r.field q f in
          ap E.held (sym i'.1) ∙ register-left D C x s o plain q i'.0
          ∙ registers-meet C K s t g r.field (held_after q) r.held (ap L.register (sym i'.1) ∙ left-register C s q i'.0) (found-register K t r i)
      go None f =
          register-stays D C x s o plain r.field f
          ∙ second_held F A B a_found b_found agree (found_reg r) (map-has found_reg (back_regs C.regs K.regs) r
          (filter-has (λ (r : RegMark). not (list_any (λ (q : RegMark). same_field q.field r.field) C.regs)) K.regs r i (not-false (list_any (λ (q : RegMark). same_field q.field r.field) C.regs) (free f))))

  -- ## Nodes that stand nowhere

  then-known : (n : NodeId) → IsFound (entries_of_change K) n → IsSome (E.nodes n)
  then-known n h = go (is_among (nodes_new C.new) n) refl
    where
      go : (b : Bool) → is_among (nodes_new C.new) n ≡ b → IsSome (E.nodes n)
      go true e = new-later D C x s o plain n ((among_has (nodes_new C.new) n).0 e)
      go false e = known-later D C x s o plain n (seed-knows F both n (append_right A.known B.known n (filter-has (λ n. not (is_among (nodes_new C.new) n)) (nodes_of_found K) n h (ap not e))))

  only-nowhere : (n : NodeId) (p : Spot) → (p ≢ Spot.Nowhere → ⊥) → p ≡ Spot.Nowhere
  only-nowhere n Spot.Nowhere h = refl
  only-nowhere n (Spot.Row r c) h = absurd (h (row-not-nowhere r c))
  only-nowhere n (Spot.Register f) h = absurd (h (register-not-nowhere f))

  nowhere-left : (l : Loose) → Has K.loose l → E.place l.node ≡ Spot.Nowhere
  nowhere-left l i = elim (shown-or C s l.node) [
    | inl p ↦ says_left D N C x (fits D C x s o plain) (emb D C x s o plain) l.node p.0 p.1 ∙ only-nowhere l.node p.0 (λ d. nodes-meet C K s t g l.node p.0 Spot.Nowhere p.1 (loose-place K t l i) d)
    | inr u ↦ unmoved D C x s o plain l.node (λ own. u.0 (is-there C s l.node own)) ∙ seed_nowhere F both found l.node below (λ h. elim (found-both C K s t g plain also entries first l.node h) [
      | inl j ↦ u.0 (is-there C s l.node (inl (first-finds C K s t g plain also entries first.in_effect l.node j)))
      | inr j ↦ back-loose C K s t g plain also entries first.in_effect l i j
    ])
  ]
    where
      below : IsBelow F l.node.0
      below = omega (arith, below-found K l.node (loose-finds K t l i))

  -- ## What the second makes

  new-unfound : (n : NodeId) → Has (nodes_new K.new) n → (n ≢ root) × (IsFound (entries_of_change K) n → ⊥)
  new-unfound n h = all-has (λ (n : NodeId). (n ≢ root) × (IsFound (entries_of_change K) n → ⊥)) (nodes_new K.new) n t.common.new_not_found h

  new-unknown : (n : NodeId) → Has (nodes_new K.new) n → E.nodes n ≡ None
  new-unknown n h = unknown-later D C x s o plain n (seed-lacks F both n below (new-unfound n h).0 absent untold) (λ i. unnamed (named-new C s n i))
    where
      below : IsBelow F n.0
      below = omega (arith, below-new K n h)

      unnamed : IsTrue ((names_of_change C).names_node n) → ⊥
      unnamed k = node-fresh C K s t g n h k

      filled : Has (in_rows fill_owners K.rows) n → ⊥
      filled k = all-has (λ (n : NodeId). Has (nodes_new K.new) n → ⊥) (in_rows fill_owners K.rows) n t.common.filled_old k h

      absent : Has (A.known ++ B.known) n → ⊥
      absent i = elim (has-append A.known B.known n i) [
        | inl j ↦ unnamed (named-found C s n j)
        | inr j ↦ (new-unfound n h).1 (filtered (λ n. not (is_among (nodes_new C.new) n)) (nodes_of_found K) n j).0
      ]

      untold : IsToldIn both.rows n → ⊥
      untold i = elim (rows-told A.rows B.rows n i) [
        | inl (r, j, (v, k, e)) ↦ (let q = has-map found_row C.rows r j in unnamed (named-told C s q.0 v n q.1 (subst (λ (r : FoundRow). Has r.cells v) (sym q.2) k) e))
        | inr j ↦ (let q = told-seen C K s t g plain also entries first.in_effect n j in
            elim (told-before (spread q.0.marks) q.1 n q.3 q.4) [
              | inl f ↦ (new-unfound n h).1 (row-finds K t q.0 n q.2 f)
              | inr f ↦ filled (flat_map-has (λ (r : RowMarks). fill_owners (spread r.marks)) K.rows q.0 n q.2 f)
            ])
      ]

  made-absent : (c : CellId) → Has (in_rows cells_made K.rows) c → E.row_of c ≡ None
  made-absent c h = uncelled-later D C x s o plain c
      (seed-lacks_cell F both found c below (λ r i j. elim (row-cell F A B a_found b_found agree r c i j) [
        | inl p ↦ (let q = has-map found_row C.rows p.0 p.1 in unnamed q.0 q.1 (named-in_row (spread q.0.marks) c (subst (λ (r : FoundRow). Has (cells_named r.cells) c) (sym q.2) p.3)))
        | inr p ↦ (let q = has-map (back_row C.rows) K.rows p.0 p.1 in
            unmade K t q.0 c q.1 (part-has (row-cells C K s t g plain also entries first.in_effect q.0 q.1) c (subst (λ (r : FoundRow). Has (cells_named r.cells) c) (sym q.2) p.3)) h)
      ]))
      (λ m. let r = has-flat_map (λ (r : RowMarks). cells_made (spread r.marks)) C.rows c m in unnamed r.0 r.1 (made-in (spread r.0.marks) c r.2))
    where
      below : IsBelow F c.0
      below = omega (arith, below-made K c h)

      unnamed : (r : RowMarks) → Has C.rows r → Has (cells_in (spread r.marks)) c → ⊥
      unnamed r i j = cell-fresh C K s t g c r.node h (named-cell C s r c i j)

  -- ## Schemas

  entries-stay : E.schemas ≡ entries
  entries-stay = ap (λ (q : Option (List ℕ)). with_schema N q entries) plain

  then_over : IsOver E K
  then_over = record {
    rows = row-seen;
    held = register-held;
    loose = λ l i. (nowhere-left l i, then-known l.node (loose-finds K t l i));
    new_nodes = new-unknown;
    new_cells = made-absent;
    base = subst (λ es. IsTrue K.base ↔ HasBase es K.schema K.under) (sym entries-stay) then.base;
    new_schema = subst (λ es. IfSome K.schema (λ _. AllByRecursion (λ (e : SchemaEntry). e.rev ≢ K.rev) es)) (sym entries-stay) then.fresh;
  }

  -- ## Both

  abbrev M : Intent
  M = meant_intent E K

  are-parts : AreParts D N M
  are-parts = record {
    first_fits = fits D C x s o plain;
    then_fits = fits E K y t then_over also;
    no_schema = (plain, also);
    one_rev = sym parts.one_rev;
    one_under = sym parts.one_under;
    no_ring = made-ends D C K x s o plain y t then_over also parts.made_no_ring;
  }

  pub stand : StandAsParts C K
  stand = (
    D,
    N,
    M,
    join_of N M,
    x,
    are-parts,
    nothing-above D C x s o plain parts.first_no_ring,
    joined_is_join D N M x are-parts,
    short_after D C x s o plain,
    short_after E K y t then_over also,
    emb D C x s o plain,
    emb E K y t then_over also,
  )
