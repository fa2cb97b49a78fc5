-- Values that are put under the keys of registers in turn are members in order.
use Rattle.std.proofs.Common.{◌≡◌, ℕ, suc, Bool, true, false, cond, List, [], ◌∷◌, drop, length, Some, None, refl, sym, ap, ◌∙◌, arith}
use Rattle.std.specs.List.{AllByRecursion, cons_option}
use Rattle.std.specs.Ordering.{nat_cmp, ordering_reverse, match_ordering}
use Rattle.std.specs.Cmp.Lexicographic.{slice_cmp, nat_list_cmp_total}
use Rattle.std.specs.declared.cmp.Ordering.TheVariants.{Less, Greater}
use Rattle.std.proofs.lemmas.Map.Keys.{sorted_tail}
use Rattle.serde_json.specs.Data.{Data, Members, no_members, member, put}
use Rattle.serde_json.specs.View.{view}
use Rattle.serde_json.specs.declared.value.Value.{Value}
use Rattle.st_ids.specs.Order.{field_cmp, same_node}
use Rattle.st_ids.specs.declared.names.NodeId.{NodeId}
use Rattle.st_doc.specs.inside.LiveText.{seats_of, KeysRise}
use Rattle.st_doc.specs.declared.seats.Seat.{Seat}
use Rattle.st_doc.proofs.KeyOrder.{keys_rise}
use Rattle.st_export.specs.inside.Members.{members_with, put_first}
use Rattle.st_export.proofs.Together.{Entries, AreRising, IsFrom, names, from_least, none_behind, rising_from_least, all_from_least, seats_from_least}

-- ## By entries

-- the members with values at the keys of entries, as far as there are any
abbrev pub puts : Entries → List Value → Members → Members
puts es [] ms = ms
puts es (v ∷ vs) ms = puts (drop 1 es) vs (put_first es (view v) ms)

pub puts_more : (es left : Entries) (vs more : List Value) (v : Value) (ms now whole : Members) → es ≡ drop 1 left → more ≡ v ∷ vs → now ≡ put_first left (view v) ms
    → puts left more ms ≡ whole → puts es vs now ≡ whole
puts_more es left vs more v ms now whole behind first is so_far = (λ i. puts (behind i) vs (is i)) ∙ ap (λ l. puts left l ms) (sym first) ∙ so_far

pub puts_end : (left : Entries) (more : List Value) (ms whole : Members) → more ≡ [] → puts left more ms ≡ whole → ms ≡ whole
puts_end left more ms whole none so_far = ap (λ vs. puts left vs ms) (sym none) ∙ so_far

-- ## By registers of one node

-- each key is below those of all registers
abbrev AreBelow : Members → List Seat → Type 0
AreBelow no_members ss = Unit {0}
AreBelow (member k d ms) ss = AllByRecursion (λ (s : Seat). slice_cmp nat_cmp k s.key ≡ Less) ss × AreBelow ms ss

abbrev append : Members → Members → Members
append no_members ns = ns
append (member k d ms) ns = member k d (append ms ns)

append_none : (ms : Members) → append ms no_members ≡ ms
append_none no_members = refl
append_none (member k d ms) = ap (member k d) (append_none ms)

append_one : (ms : Members) (k : List ℕ) (d : Data) (ns : Members) → append (append ms (member k d no_members)) ns ≡ append ms (member k d ns)
append_one no_members k d ns = refl
append_one (member l e ms) k d ns = ap (member l e) (append_one ms k d ns)

put_behind : (ms : Members) (s : Seat) (ss : List Seat) (d : Data) → AreBelow ms (s ∷ ss) → put s.key d ms ≡ append ms (member s.key d no_members)
put_behind no_members s ss d below = refl
put_behind (member l e ms) s ss d below =
    ap (λ o. match_ordering o (member s.key d (member l e ms)) (member l d ms) (member l e (put s.key d ms))) over ∙ ap (member l e) (put_behind ms s ss d below.1)
  where
    over : slice_cmp nat_cmp s.key l ≡ Greater
    over = nat_list_cmp_total.antisymm s.key l ∙ ap ordering_reverse below.0.0

below_more : (ms : Members) (s : Seat) (ss : List Seat) (d : Data) → AllByRecursion (λ (t : Seat). slice_cmp nat_cmp s.key t.key ≡ Less) ss → AreBelow ms (s ∷ ss)
    → AreBelow (append ms (member s.key d no_members)) ss
below_more no_members s ss d first below = (first, tt)
below_more (member l e ms) s ss d first below = (below.0.1, below_more ms s ss d first below.1)

abbrev seats_put : List Seat → List Value → Members → Members
seats_put [] vs ms = ms
seats_put (s ∷ ss) [] ms = ms
seats_put (s ∷ ss) (v ∷ vs) ms = seats_put ss vs (put s.key (view v) ms)

in_order : (ss : List Seat) (vs : List Value) (ms : Members) → KeysRise ss → AreBelow ms ss → seats_put ss vs ms ≡ append ms (members_with ss vs)
in_order [] vs ms rise below = sym (append_none ms)
in_order (s ∷ ss) [] ms rise below = sym (append_none ms)
in_order (s ∷ ss) (v ∷ vs) ms rise below =
    ap (seats_put ss vs) (put_behind ms s ss (view v) below)
    ∙ in_order ss vs (append ms (member s.key (view v) no_members)) rise.1 (below_more ms s ss (view v) rise.0 below)
    ∙ append_one ms s.key (view v) (members_with ss vs)

module _ (n : NodeId) where
  by_seats : (es : Entries) (vs : List Value) (ms : Members) → AreRising es → AllByRecursion (IsFrom n) es → length vs ≡ length (seats_of n es) → puts es vs ms ≡ seats_put (seats_of n es) vs ms
  by_seats [] [] ms rise from same = refl
  by_seats [] (v ∷ vs) ms rise from same = absurd (omega (arith, same))
  by_seats (e ∷ es) vs ms rise from same = go (same_node e.0.node n) refl vs same (λ vs same ms. by_seats es vs ms (sorted_tail field_cmp e.0 (names es) rise) from.1 same)
    where
      seat : Seat
      seat = record { key = e.0.key.0; node = e.1 }

      no_values : (vs : List Value) → length vs ≡ 0 → vs ≡ []
      no_values [] z = refl
      no_values (v ∷ vs) z = absurd (omega arith)

      go : (b : Bool) → same_node e.0.node n ≡ b → (vs : List Value) → length vs ≡ length (cons_option (cond (same_node e.0.node n) (Some seat) None) (seats_of n es))
          → ((vs : List Value) → length vs ≡ length (seats_of n es) → (ms : Members) → puts es vs ms ≡ seats_put (seats_of n es) vs ms) → puts (e ∷ es) vs ms ≡ seats_put (cons_option (cond (same_node e.0.node n) (Some seat) None) (seats_of n es)) vs ms
      go true p [] same rest = let bad : 0 ≡ suc (length (seats_of n es)) = same ∙ ap (λ b. length (cons_option (cond b (Some seat) None) (seats_of n es))) p in absurd (omega arith)
      go true p (v ∷ vs) same rest = rw p (rest vs (let e : suc (length vs) ≡ suc (length (seats_of n es)) = same ∙ ap (λ b. length (cons_option (cond b (Some seat) None) (seats_of n es))) p in omega arith) (put e.0.key.0 (view v) ms))
      go false p vs same rest =
          let none = none_behind n e es rise from.0 p in
          let empty = no_values vs (same ∙ ap length none) in
          ap (λ l. puts (e ∷ es) l ms) empty ∙ (λ i. seats_put (sym none i) (sym empty i) ms)

  -- from the least name of the node on, put into an object without members
  pub puts_in_order : (es : Entries) (vs : List Value) → AreRising es → length vs ≡ length (seats_of n es) → puts (from_least n es) vs no_members ≡ members_with (seats_of n es) vs
  puts_in_order es vs rise same =
      by_seats (from_least n es) vs no_members (rising_from_least n es rise) (all_from_least n es) (same ∙ ap length (sym (seats_from_least n es)))
      ∙ ap (λ ss. seats_put ss vs no_members) (seats_from_least n es) ∙ in_order (seats_of n es) vs no_members (keys_rise n es rise) tt
