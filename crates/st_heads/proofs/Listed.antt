-- What is gone through, one item after the other.
use Rattle.std.proofs.Common.{◌≡◌, ◌≢◌, ◌↔◌, ℕ, ◌+◌, ◌<◌, Bool, true, false, cond, ◌||◌, List, [], ◌∷◌, ◌++◌, length, take, drop, get_or, map, Option, Some, None, refl, sym, ap, ◌∙◌, append_assoc, option_map}
use Rattle.std.specs.declared.cmp.Ordering.TheVariants.{Less}
use Rattle.std.specs.List.{AllByRecursion, filter_map, find, list_any}
use Rattle.std.specs.List.Sorted.{IsStrictlySortedBy}
use Rattle.std.specs.Map.{lookup, keys_of}
use Rattle.std.specs.Option.{option_to_list}
use Rattle.std.specs.Ordering.{is_eq}
use Rattle.st_ids.specs.Listing.{AreDistinct}
use Rattle.st_ids.specs.Order.{node_cmp, same_field, same_node}
use Rattle.st_ids.specs.declared.names.CellId.{CellId}
use Rattle.st_ids.specs.declared.names.FieldId.{FieldId}
use Rattle.st_ids.specs.declared.names.NodeId.{NodeId}
use Rattle.st_ids.proofs.Orders.{same_field-true, same_field-itself, same_node-true, same_node-itself}
use Rattle.st_marks.specs.declared.intents.Put.{Put}
use Rattle.st_marks.specs.declared.intents.To.{To}
use Rattle.st_marks.specs.declared.places.Spot.{Spot}
use Rattle.st_marks.specs.Document.{Document}
use Rattle.st_marks.specs.Intent.{same_option}
use Rattle.st_lemmas.proofs.Bools.{both-ways-same, or-false, true-false}
use Rattle.st_lemmas.proofs.Lists.{filter_map-append}
use Rattle.st_doc.proofs.Look.{drop_one}
use Rattle.st_lemmas.proofs.FirstItems.{any_more, take_one}
use Rattle.st_doc.proofs.Placing.{put_by}
use Rattle.st_heads.specs.inside.GoingBack.{back_by, back_of_put, if_evicted}

-- ## Found in what is gone through

-- what a set has with one more key
pub set_more : (b a : Bool) → cond b true a ≡ (a || b)
set_more true true = refl
set_more true false = refl
set_more false true = refl
set_more false false = refl

-- what is put behind others, one item after the other
pub picked_more : {A B : Type 0} (f : A → Option B) (old before now : List B) (xs : List A) (i : ℕ) (d x : A) → i < length xs → get_or xs i d ≡ x
    → before ≡ old ++ filter_map f (take i xs) → now ≡ before ++ option_to_list (f x) → now ≡ old ++ filter_map f (take (i + 1) xs)
picked_more {B = B} f old before now xs i d x inside at so_far h =
    h ∙ ap (λ l. l ++ option_to_list (f x)) so_far ∙ append_assoc old (filter_map f (take i xs)) (option_to_list (f x))
    ∙ ap (λ l. old ++ l) (ap (λ l. filter_map f (take i xs) ++ l) (one (f x) refl) ∙ sym (filter_map-append f (take i xs) (x ∷ [])) ∙ ap (filter_map f) (sym (take_one xs i d x inside at)))
  where
    one : (o : Option B) → f x ≡ o → option_to_list o ≡ filter_map f (x ∷ [])
    one None e = rw e refl
    one (Some y) e = rw e refl

-- ## Occupants of cleared registers

pub sent_back : (held : Option NodeId) (node n : NodeId) (f g : FieldId) (o : Option To) → held ≡ Some node → f ≡ g
    → cond (same_node node n) (Some (To.Register f)) o ≡ cond (same_option same_node held (Some n)) (Some (To.Register g)) o
sent_back held node n f g o stands same =
    ap (λ h. cond (same_node node n) (Some (To.Register h)) o) same ∙ ap (λ h. cond (same_option same_node h (Some n)) (Some (To.Register g)) o) (sym stands)

module _ (fs : List FieldId) (i : ℕ) (f : FieldId) (inside : i < length fs) (at : get_or fs i f ≡ f) where
  any_with : (g : FieldId) → list_any (λ h. same_field h g) (take (i + 1) fs) ≡ (list_any (λ h. same_field h g) (take i fs) || same_field f g)
  any_with g = any_more (λ h. same_field h g) fs i f f inside at

  or_true : (b : Bool) → (b || true) ≡ true
  or_true true = refl
  or_true false = refl

  occupant : (o : Option NodeId) (n : NodeId) → same_option same_node o (Some n) ≡ true → o ≡ Some n
  occupant None n e = cc
  occupant (Some m) n e = ap (λ k. Some k) (same_node-true m n e)

  -- one more register cleared
  pub evicted_one : (held : Option NodeId) (n : NodeId) (s : Spot) → ((held ≡ Some n) ↔ (s ≡ Spot.Register f))
      → cond (same_option same_node held (Some n)) (Some (To.Register f)) (if_evicted (take i fs) s) ≡ if_evicted (take (i + 1) fs) s
  evicted_one held n s one = go (same_option same_node held (Some n)) refl s refl
    where
      go : (b : Bool) → same_option same_node held (Some n) ≡ b → (t : Spot) → s ≡ t → cond b (Some (To.Register f)) (if_evicted (take i fs) t) ≡ if_evicted (take (i + 1) fs) t
      go true e t is =
          let there : t ≡ Spot.Register f = sym is ∙ one.0 (occupant held n e) in
          sym (ap (if_evicted (take (i + 1) fs)) there ∙ ap (λ b. cond b (Some (To.Register f)) None) (any_with f ∙ ap (λ b. list_any (λ h. same_field h f) (take i fs) || b) (same_field-itself f) ∙ or_true _))
      go false e Spot.Nowhere is = refl
      go false e (Spot.Row r c) is = refl
      go false e (Spot.Register g) is =
          sym (ap (λ b. cond b (Some (To.Register g)) None) (any_with g ∙ ap (λ b. list_any (λ h. same_field h g) (take i fs) || b) (apart (same_field f g) refl) ∙ or-false _))
        where
          apart : (b : Bool) → same_field f g ≡ b → same_field f g ≡ false
          apart false q = q
          apart true q =
              let there : held ≡ Some n = one.1 (is ∙ ap (λ h. Spot.Register h) (sym (same_field-true f g q))) in
              absurd (true-false (ap (λ o. same_option same_node o (Some n)) there ∙ same_node-itself n) e)

-- ## Puts, from the last to the first

pub back_more : (D : Document) (made : CellId → Bool) (n : NodeId) (puts : List Put) (i j : ℕ) (p : Put) (old before : Option To) (to : Option To) → i + 1 ≡ j → i < length puts → get_or puts i p ≡ p
    → to ≡ back_of_put D made p.node p.to → before ≡ back_by D made n (put_by (drop j puts) n) old
    → cond (same_node p.node n) to before ≡ back_by D made n (put_by (drop i puts) n) old
back_more D made n puts i j p old before to next inside at goes so_far =
    go (same_node p.node n) refl ∙ ap (λ ps. back_by D made n (put_by ps n) old) (sym (drop_one puts i p p inside at ∙ ap (λ k. p ∷ drop k puts) next))
  where
    go : (b : Bool) → same_node p.node n ≡ b → cond (same_node p.node n) to before ≡ back_by D made n (put_by (p ∷ drop j puts) n) old
    go true e = rw e (goes ∙ ap (λ m. back_of_put D made m p.to) (same_node-true p.node n e))
    go false e = rw e so_far

-- by tests that tell the same
pub back_same : (D : Document) (a b : CellId → Bool) (n : NodeId) (o other : Option To) → ((c : CellId) → a c ≡ b c) → back_by D a n o other ≡ back_by D b n o other
back_same D a b n None other same = refl
back_same D a b n (Some To.Nowhere) other same = refl
back_same D a b n (Some (To.Cell c)) other same = ap (λ t. back_by D (λ _. t) n (Some (To.Cell c)) other) (same c)
back_same D a b n (Some (To.Register f)) other same = refl

-- ## The entries of a map, as puts

abbrev pub put_at : NodeId × To → Put
put_at e = record { node = e.0; to = e.1 }

same_node-swap : (m n : NodeId) → same_node m n ≡ same_node n m
same_node-swap m n = both-ways-same _ _
    (λ e. ap (λ k. same_node n k) (same_node-true m n e) ∙ same_node-itself n)
    (λ e. ap (λ k. same_node m k) (same_node-true n m e) ∙ same_node-itself m)

pub found_entry : (es : List (NodeId × To)) (n : NodeId) → option_map (λ (p : Put). p.to) (find (λ (p : Put). same_node p.node n) (map put_at es)) ≡ lookup (λ k. is_eq (node_cmp n k)) es
unfolding same_node
found_entry [] n = refl
found_entry (e ∷ es) n = rw (same_node-swap e.0 n) (go (same_node n e.0) (found_entry es n))
  where
    go : (b : Bool) → option_map (λ (p : Put). p.to) (find (λ (p : Put). same_node p.node n) (map put_at es)) ≡ lookup (λ k. is_eq (node_cmp n k)) es
        → option_map (λ (p : Put). p.to) (cond b (Some (put_at e)) (find (λ (p : Put). same_node p.node n) (map put_at es))) ≡ cond b (Some e.1) (lookup (λ k. is_eq (node_cmp n k)) es)
    go true rest = refl
    go false rest = rest

apart_from : (m : NodeId) (es : List (NodeId × To)) → AllByRecursion (λ n. node_cmp m n ≡ Less) (keys_of es) → AllByRecursion (λ (p : Put). p.node ≢ m) (map put_at es)
unfolding same_node
apart_from m [] a = tt
apart_from m (e ∷ es) a = (λ q. (let bad : is_eq Less ≡ true = sym (ap is_eq a.0) ∙ ap (λ n. is_eq (node_cmp m n)) q ∙ same_node-itself m in cc), apart_from m es a.1)

pub entries_distinct : (es : List (NodeId × To)) → IsStrictlySortedBy node_cmp (keys_of es) → AreDistinct (λ (p : Put). p.node) (map put_at es)
unfolding IsStrictlySortedBy
entries_distinct [] a = tt
entries_distinct (e ∷ es) a = (apart_from e.0 es a.0, entries_distinct es a.1)

-- an entry more is put behind the others
pub entry_more : (before now : List Put) (items left : List (NodeId × To)) (whole : List Put) (k : NodeId) (to : To) → items ≡ (k, to) ∷ left → now ≡ before ++ record { node = k; to = to } ∷ []
    → before ++ map put_at items ≡ whole → now ++ map put_at left ≡ whole
entry_more before now items left whole k to opened pushed so_far =
    ap (λ l. l ++ map put_at left) pushed ∙ append_assoc before (record { node = k; to = to } ∷ []) (map put_at left) ∙ ap (λ l. before ++ map put_at l) (sym opened) ∙ so_far
