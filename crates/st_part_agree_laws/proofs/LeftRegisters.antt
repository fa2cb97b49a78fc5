-- Who is in a register after a change, by its mark and by the intent.
use Rattle.std.proofs.Common.{◌≡◌, Bool, true, false, ◌&&◌, not, Option, Some, None, is_some, cond, refl, sym, ap, ◌∙◌}
use Rattle.std.specs.Option.{option_or}
use Rattle.st_ids.specs.Order.{same_node}
use Rattle.st_ids.proofs.Orders.{same_node-true}
use Rattle.st_ids.specs.declared.names.FieldId.{FieldId}
use Rattle.st_ids.specs.declared.names.NodeId.{NodeId}
use Rattle.st_marks.specs.declared.intents.Intent.{Intent}
use Rattle.st_marks.specs.declared.intents.To.{To}
use Rattle.st_marks.specs.declared.marks.How.{How}
use Rattle.st_marks.specs.declared.marks.How.TheVariants.{Here, Leave}
use Rattle.st_marks.specs.declared.marks.RegMark.{RegMark}
use Rattle.st_marks.specs.CarryOut.{unless_put}
use Rattle.st_marks.specs.How.{is_here, is_leave}
use Rattle.st_marks.specs.Intent.{IsIntent, clears, put_in, put_of}
use Rattle.st_marks.specs.Listings.{held_after}
use Rattle.st_marks.specs.Register.{comes_in, how_held}
use Rattle.st_marks.specs.Embedding.{register_part}
use Rattle.st_marks.specs.Row.{how, same_to}
use Rattle.st_marks.proofs.Lookups.{has-put, has-put_in, put-has, put_in-has}
use Rattle.st_puts.proofs.PutsOfIntents.{is_here-put, put-is_here}

-- who is there after it, by whether the register is cleared, who comes in, what becomes of the occupant, and the occupant
abbrev left : Bool → Option NodeId → How → Option NodeId → Option NodeId
left c fill h held = option_or fill (cond (is_leave h) None (cond (c && not (is_here h)) None held))

-- nobody was there
none-held : (c : Bool) (p : Option NodeId) (h : How) → is_leave h ≡ false → left c (comes_in None p) h None ≡ option_or p (cond c None None)
none-held c (Some k) h e = refl
none-held true None h e = (λ i. cond (e i) None (cond (not (is_here h)) None None)) ∙ go (not (is_here h))
  where
    go : (b : Bool) → cond {A = Option NodeId} b None None ≡ None
    go true = refl
    go false = refl
none-held false None h e = λ i. cond (e i) None None

-- somebody was there, who is put or not
some-held : (f : FieldId) (c : Bool) (p : Option NodeId) (t : Option To) (a : NodeId) → (p ≡ Some a → t ≡ Some (To.Register f)) → (t ≡ Some (To.Register f) → p ≡ Some a)
    → left c (comes_in (Some a) p) (how t (To.Register f)) (Some a) ≡ option_or p (cond c None (cond (is_some t) None (Some a)))
some-held f c (Some k) t a put back = go (same_node a k) refl
  where
    stays : (c : Bool) → left c None Here (Some a) ≡ Some a
    stays true = refl
    stays false = refl

    go : (b : Bool) → same_node a k ≡ b → left c (cond b None (Some k)) (how t (To.Register f)) (Some a) ≡ Some k
    go false e = refl
    go true e =
        let same : a ≡ k = same_node-true a k e in
        let here = put-is_here t (To.Register f) (put (ap (λ y. Some y) (sym same))) in
        ap (λ h. left c None h (Some a)) here ∙ stays c ∙ ap (λ y. Some y) same
some-held f true None None a put back = refl
some-held f false None None a put back = refl
some-held f c None (Some to) a put back = go (same_to to (To.Register f)) refl
  where
    nobody : (c : Bool) → None ≡ cond {A = Option NodeId} c None None
    nobody true = refl
    nobody false = refl

    go : (b : Bool) → same_to to (To.Register f) ≡ b → left c None (cond b Here Leave) (Some a) ≡ cond c None None
    go true e =
        let there : Some to ≡ Some (To.Register f) = is_here-put (Some to) (To.Register f) (ap (λ b. is_here (cond b Here Leave)) e) in
        let bad : None ≡ Some a = back there in
        cc
    go false e = nobody c

module _ (N : Intent) (w : IsIntent N) (m : NodeId → Bool) (f : FieldId) where
  -- what the mark says of it
  abbrev pub mark : Option NodeId → RegMark
  mark h = record { field = f; held = h; how = how_held f (register_part m N f) h; clear = clears N f; fill = comes_in h (put_in N f) }

  pub left_held : (h : Option NodeId) → held_after (mark h) ≡ option_or (put_in N f) (cond (clears N f) None (unless_put N h))
  left_held None = none-held (clears N f) (put_in N f) (how_held f (register_part m N f) None) refl
  left_held (Some a) = some-held f (clears N f) (put_in N f) (put_of N a) a
      (λ e. has-put N w (record { node = a; to = To.Register f }) (put_in-has N f a e))
      (λ e. has-put_in N w a f (put-has N a (To.Register f) e))
