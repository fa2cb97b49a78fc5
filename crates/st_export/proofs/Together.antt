-- The registers of one node stand together among all: from its least name on they come first.
use Rattle.std.proofs.Common.{◌≡◌, ℕ, Bool, true, false, cond, ◌&&◌, List, [], ◌∷◌, ◌++◌, map, filter, Some, None, refl, sym, ap, ◌∙◌, subst, append_assoc}
use Rattle.std.specs.BTreeMap.Range.{entries_between, range_contains}
use Rattle.std.specs.List.{AllByRecursion, cons_option}
use Rattle.std.specs.List.Sorted.{IsStrictlySortedBy}
use Rattle.std.specs.Ordering.{nat_cmp, is_le, ordering_then, ordering_reverse}
use Rattle.std.specs.Cmp.Lexicographic.{slice_cmp}
use Rattle.std.specs.declared.cmp.Ordering.{Ordering}
use Rattle.std.specs.declared.cmp.Ordering.TheVariants.{Less, Equal, Greater}
use Rattle.std.specs.declared.ops.Bound.TheVariants.{Included, Unbounded}
use Rattle.std.proofs.lemmas.Cmp.{tied_itself}
use Rattle.std.proofs.lemmas.List.{append-nil}
use Rattle.std.proofs.lemmas.List.Kept.{IsStrictlySortedBy-filter}
use Rattle.std.proofs.lemmas.Map.Keys.{sorted_head, sorted_tail}
use Rattle.st_ids.specs.Order.{node_cmp, field_cmp, same_node}
use Rattle.st_ids.specs.declared.names.FieldId.{FieldId}
use Rattle.st_ids.specs.declared.names.NodeId.{NodeId}
use Rattle.st_ids.proofs.Orders.{same_node-true, same_node-itself, node_cmp_exact, node_cmp_total}
use Rattle.st_marks.specs.LiveTree.{register}
use Rattle.st_doc.specs.inside.LiveText.{seat_at, seats_of}
use Rattle.st_doc.specs.declared.seats.Seat.{Seat}

abbrev pub Entries : Type 0
Entries = List (FieldId × NodeId)

abbrev pub names : Entries → List FieldId
names es = map (λ e. e.0) es

abbrev pub AreRising : Entries → Type 0
AreRising es = IsStrictlySortedBy field_cmp (names es)

abbrev pub occupants : NodeId → Entries → List NodeId
occupants n es = map (λ (s : Seat). s.node) (seats_of n es)

-- the entries from the least name of a node on
abbrev pub from_least : NodeId → Entries → Entries
from_least n es = entries_between field_cmp (Included (register n [])) Unbounded es

-- an entry isn't below the least name of a node
abbrev pub IsFrom : NodeId → FieldId × NodeId → Type 0
IsFrom n e = range_contains field_cmp (Included (register n [])) Unbounded e.0 ≡ true

module _ (n : NodeId) where
  -- a register of the node isn't below
  own_from : (e : FieldId × NodeId) → same_node e.0.node n ≡ true → IsFrom n e
  own_from e own = ap (λ o. is_le (ordering_then o (slice_cmp nat_cmp [] e.0.key.0)) && true) tied ∙ first e.0.key.0
    where
      tied : node_cmp n e.0.node ≡ Equal
      tied = ap (node_cmp n) (same_node-true e.0.node n own) ∙ tied_itself node_cmp_total n

      first : (k : List ℕ) → (is_le (slice_cmp nat_cmp [] k) && true) ≡ true
      first [] = refl
      first (b ∷ k) = refl

  -- so none of them is lost
  pub seats_from_least : (es : Entries) → seats_of n (from_least n es) ≡ seats_of n es
  seats_from_least [] = refl
  seats_from_least (e ∷ es) = go (range_contains field_cmp (Included (register n [])) Unbounded e.0) refl (same_node e.0.node n) refl (seats_from_least es)
    where
      seat : Seat
      seat = record { key = e.0.key.0; node = e.1 }

      go : (b : Bool) → range_contains field_cmp (Included (register n [])) Unbounded e.0 ≡ b → (own : Bool) → same_node e.0.node n ≡ own → seats_of n (from_least n es) ≡ seats_of n es
          → seats_of n (cond b (e ∷ from_least n es) (from_least n es)) ≡ cons_option (cond (same_node e.0.node n) (Some seat) None) (seats_of n es)
      go true p own q rest = ap (cons_option (seat_at n e)) rest
      go false p true q rest = let bad : false ≡ true = sym p ∙ own_from e q in cc
      go false p false q rest = rest ∙ ap (λ b. cons_option (cond b (Some seat) None) (seats_of n es)) (sym q)

  names_kept : (p : FieldId → Bool) (es : Entries) → filter p (names es) ≡ names (filter (λ e. p e.0) es)
  names_kept p [] = refl
  names_kept p (e ∷ es) = go (p e.0) (names_kept p es)
    where
      go : (b : Bool) → filter p (names es) ≡ names (filter (λ e. p e.0) es) → cond b (e.0 ∷ filter p (names es)) (filter p (names es)) ≡ names (cond b (e ∷ filter (λ e. p e.0) es) (filter (λ e. p e.0) es))
      go true rest = ap (λ l. e.0 ∷ l) rest
      go false rest = rest

  pub rising_from_least : (es : Entries) → AreRising es → AreRising (from_least n es)
  rising_from_least es rise =
      let p = range_contains field_cmp (Included (register n [])) Unbounded in
      subst (IsStrictlySortedBy field_cmp) (names_kept p es) (IsStrictlySortedBy-filter field_cmp p (names es) rise)

  pub all_from_least : (es : Entries) → AllByRecursion (IsFrom n) (from_least n es)
  all_from_least [] = tt
  all_from_least (e ∷ es) = go (range_contains field_cmp (Included (register n [])) Unbounded e.0) refl (all_from_least es)
    where
      go : (b : Bool) → range_contains field_cmp (Included (register n [])) Unbounded e.0 ≡ b → AllByRecursion (IsFrom n) (from_least n es) → AllByRecursion (IsFrom n) (cond b (e ∷ from_least n es) (from_least n es))
      go true p rest = (p, rest)
      go false p rest = rest

  -- an entry of another node that isn't below is one of a later node
  later_node : (e : FieldId × NodeId) → IsFrom n e → same_node e.0.node n ≡ false → node_cmp e.0.node n ≡ Greater
  later_node e from other = node_cmp_total.antisymm e.0.node n ∙ ap ordering_reverse (go (node_cmp n e.0.node) refl from)
    where
      go : (o : Ordering) → node_cmp n e.0.node ≡ o → (is_le (ordering_then o (slice_cmp nat_cmp [] e.0.key.0)) && true) ≡ true → o ≡ Less
      go Less p h = refl
      go Equal p h = let bad : ◌≡◌ {A = Bool} true false = sym (same_node-itself n) ∙ ap (λ m. same_node m n) (node_cmp_exact n e.0.node p) ∙ other in cc
      go Greater p h = cc

  none_of : (es : Entries) → AllByRecursion (λ (e : FieldId × NodeId). same_node e.0.node n ≡ false) es → seats_of n es ≡ []
  none_of [] h = refl
  none_of (e ∷ es) h = ap (λ b. cons_option (cond b (Some (record { key = e.0.key.0; node = e.1 })) None) (seats_of n es)) h.0 ∙ none_of es h.1

  -- behind an entry of another node there are no registers of the node
  pub none_behind : (e : FieldId × NodeId) (es : Entries) → AreRising (e ∷ es) → IsFrom n e → same_node e.0.node n ≡ false → seats_of n (e ∷ es) ≡ []
  none_behind e es rise from other = none_of (e ∷ es) (other, apart es (sorted_head field_cmp e.0 (names es) rise))
    where
      up : node_cmp e.0.node n ≡ Greater
      up = later_node e from other

      apart : (fs : Entries) → AllByRecursion (λ f. field_cmp e.0 f ≡ Less) (names fs) → AllByRecursion (λ (e : FieldId × NodeId). same_node e.0.node n ≡ false) fs
      apart [] h = tt
      apart (f ∷ fs) h = (other_node f.0 h.0 (same_node f.0.node n) refl, apart fs h.1)
        where
          other_node : (f : FieldId) → field_cmp e.0 f ≡ Less → (b : Bool) → same_node f.node n ≡ b → same_node f.node n ≡ false
          other_node f h false p = p
          other_node f h true p =
              let bad : Greater ≡ Less = sym (ap (λ o. ordering_then o (slice_cmp nat_cmp e.0.key.0 f.key.0)) (ap (node_cmp e.0.node) (same_node-true f.node n p) ∙ up)) ∙ h in cc

-- ## Occupants, entry by entry
-- what is left to go through, with what was put behind other nodes so far
pub record AreLeft (n : NodeId) (so_far : List NodeId) (left : Entries) (whole : List NodeId) : Type 0 where
  pub nodes : so_far ++ occupants n left ≡ whole
  pub rise : AreRising left
  pub from : AllByRecursion (IsFrom n) left

pub left_first : (n : NodeId) (nodes : List NodeId) (es : Entries) → AreRising es → AreLeft n nodes (from_least n es) (nodes ++ occupants n es)
left_first n nodes es rise = record {
  nodes = ap (λ ss. nodes ++ map (λ (s : Seat). s.node) ss) (seats_from_least n es);
  rise = rising_from_least n es rise;
  from = all_from_least n es;
}

module _ (n : NodeId) (so_far whole : List NodeId) (e : FieldId × NodeId) (left es : Entries) (opened : left ≡ e ∷ es) (h : AreLeft n so_far left whole) where
  opened_left : AreLeft n so_far (e ∷ es) whole
  opened_left = subst (λ l. AreLeft n so_far l whole) opened h

  -- an entry of the node is the next
  pub left_more : (now : List NodeId) → same_node e.0.node n ≡ true → now ≡ so_far ++ e.1 ∷ [] → AreLeft n now es whole
  left_more now own pushed = record {
    nodes = ap (λ l. l ++ occupants n es) pushed ∙ append_assoc so_far (e.1 ∷ []) (occupants n es) ∙ ap (λ l. so_far ++ l) (sym one) ∙ opened_left.nodes;
    rise = sorted_tail field_cmp e.0 (names es) opened_left.rise;
    from = opened_left.from.1;
  }
    where
      one : occupants n (e ∷ es) ≡ e.1 ∷ occupants n es
      one = ap (λ b. map (λ (s : Seat). s.node) (cons_option (cond b (Some (record { key = e.0.key.0; node = e.1 })) None) (seats_of n es))) own

  -- one of another node says that all were
  pub left_past : same_node e.0.node n ≡ false → so_far ≡ whole
  left_past other =
      sym (append-nil so_far) ∙ ap (λ ss. so_far ++ map (λ (s : Seat). s.node) ss) (sym (none_behind n e es opened_left.rise opened_left.from.0 other)) ∙ opened_left.nodes

pub left_none : (n : NodeId) (so_far whole : List NodeId) (left : Entries) → left ≡ [] → AreLeft n so_far left whole → so_far ≡ whole
left_none n so_far whole left none h = sym (append-nil so_far) ∙ ap (λ es. so_far ++ occupants n es) (sym none) ∙ h.nodes
