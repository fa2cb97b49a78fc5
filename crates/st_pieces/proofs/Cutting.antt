-- Lines, cut from bytes of which a front was read.
use Rattle.std.proofs.Common.{◌≡◌, ℕ, suc, ◌+◌, ◌<◌, ◌≤◌, ◌==◌, Bool, true, false, nat_lt, List, [], ◌∷◌, ◌++◌, length, take, drop, Option, Some, None, arith, refl, sym, ◌∙◌, ap, subst, cond, position, length-append, append_assoc, min, ap₂, ◌-◌, drop-drop, option_map}
use Rattle.std.proofs.Math.Seq.{take-add, take-append-add}
use Rattle.st_pieces.proofs.Appending.{from_place}
use Rattle.std.specs.List.{position_or_len}
use Rattle.std.specs.Option.{IfSome}
use Rattle.std.proofs.lemmas.Bool.Decides.{nat_tests}
use Rattle.std.proofs.lemmas.Grind.{common_steps}
use Rattle.std.proofs.lemmas.List.{take-append-drop, append-nil}
use Rattle.st_io.specs.Bytes.{Takes, TakesFrom}
use Rattle.st_pieces.specs.Lines.{IsFeedAt, Line, NoFeed, cut, is_long, line_of}
use Rattle.st_pieces.specs.Outcomes.{IsFront}

-- ## The first line feed

is-feed : (b : ℕ) → (b == 10) ≡ true → b ≡ 10
is-feed b e = grind (arith, nat_tests)

abbrev place : List ℕ → ℕ
place bs = position_or_len (λ b. b == 10) bs

place_later : (b : ℕ) (bs : List ℕ) → (b == 10) ≡ false → place (b ∷ bs) ≡ suc (place bs)
place_later b bs other = let one : 1 + place bs ≡ suc (place bs) = omega arith in rw other one

found_by : (b : ℕ) (bs : List ℕ) (t : Bool) → (b == 10) ≡ t → place (b ∷ bs) < length (b ∷ bs) → (place bs < length bs → IsFeedAt bs (place bs)) → IsFeedAt (b ∷ bs) (place (b ∷ bs))
found_by b bs true t h later =
    let here : place (b ∷ bs) ≡ 0 = rw t refl in
    rw here (record { before = tt; whole = ap (λ x. x ∷ bs) (is-feed b t) })
found_by b bs false t h later =
    let e = place_later b bs t in
    let r = later (omega (arith, e, h)) in
    let next : suc (place bs) + 1 ≡ suc (place bs + 1) = omega arith in
    rw e (record { before = (t, r.before); whole = rw next (ap (λ l. b ∷ l) r.whole) })

place_found : (bs : List ℕ) → place bs < length bs → IsFeedAt bs (place bs)
place_found [] h = absurd (omega arith)
place_found (b ∷ bs) h = found_by b bs (b == 10) refl h (λ i. place_found bs i)

none_by : (b : ℕ) (bs : List ℕ) (t : Bool) → (b == 10) ≡ t → length (b ∷ bs) ≤ place (b ∷ bs) → (length bs ≤ place bs → NoFeed bs) → NoFeed (b ∷ bs)
none_by b bs true t h later = let here : place (b ∷ bs) ≡ 0 = rw t refl in absurd (omega (arith, here, h))
none_by b bs false t h later = (t, later (omega (arith, place_later b bs t, h)))

place_none : (bs : List ℕ) → length bs ≤ place bs → NoFeed bs
place_none [] h = tt
place_none (b ∷ bs) h = none_by b bs (b == 10) refl h (λ i. place_none bs i)

at_by : (bs : List ℕ) (at : ℕ) (t : Bool) → nat_lt (place bs) (length bs) ≡ t → cond t (Some (place bs)) None ≡ Some at → IsFeedAt bs at
at_by bs at true t e =
    let is : place bs ≡ at = cc in
    let h : place bs < length bs = grind (arith, nat_tests) in
    subst (IsFeedAt bs) is (place_found bs h)
at_by bs at false t e = cc

pub feed_at : (bs : List ℕ) (at : ℕ) → position (λ b. b == 10) bs ≡ Some at → IsFeedAt bs at
feed_at bs at e = at_by bs at (nat_lt (place bs) (length bs)) refl e

none_at : (bs : List ℕ) (t : Bool) → nat_lt (place bs) (length bs) ≡ t → cond t (Some (place bs)) None ≡ None → NoFeed bs
none_at bs true t e = cc
none_at bs false t e = let h : length bs ≤ place bs = grind (arith, nat_tests) in place_none bs h

pub no_feed : (bs : List ℕ) → position (λ b. b == 10) bs ≡ None → NoFeed bs
no_feed bs e = none_at bs (nat_lt (place bs) (length bs)) refl e

-- ## What was searched

joined : (front rest : List ℕ) → NoFeed front → NoFeed rest → NoFeed (front ++ rest)
joined [] rest f r = r
joined (b ∷ front) rest f r = (f.0, joined front rest f.1 r)

unended_after : (bs : List ℕ) (k : ℕ) → NoFeed (take k bs) → NoFeed (drop k bs) → NoFeed bs
unended_after bs k f r = subst NoFeed (take-append-drop k bs) (joined (take k bs) (drop k bs) f r)

feed_after : (bs : List ℕ) (k at : ℕ) → NoFeed (take k bs) → IsFeedAt (drop k bs) at → IsFeedAt bs (k + at)
feed_after bs k at f feed =
    let rest = drop k bs in
    let front : take (k + at) bs ≡ take k bs ++ take at rest = take-add k at bs in
    let same : k + (at + 1) ≡ k + at + 1 = omega arith in
    let behind : drop (at + 1) rest ≡ drop (k + at + 1) bs = drop-drop (at + 1) k bs ∙ ap (λ n. drop n bs) same in
    let whole : bs ≡ (take k bs ++ take at rest) ++ 10 ∷ drop (at + 1) rest =
    sym (take-append-drop k bs) ∙ ap (λ x. take k bs ++ x) feed.whole ∙ sym (append_assoc (take k bs) (take at rest) (10 ∷ drop (at + 1) rest)) in
    record {
      before = subst NoFeed (sym front) (joined (take k bs) (take at rest) f feed.before);
      whole = whole ∙ ap₂ (λ x y. x ++ 10 ∷ y) (sym front) behind;
    }

-- the bytes that weren't searched
unsearched : (items : List ℕ) (from seen : ℕ) → take (length items - (from + seen)) (drop (from + seen) items) ≡ drop seen (drop from items)
unsearched items from seen = from_place items (from + seen) ∙ sym (drop-drop seen from items)

pub next_at : (items : List ℕ) (from seen : ℕ) (found : Option ℕ) → NoFeed (take seen (drop from items))
    → found ≡ position (λ b. b == 10) (take (length items - (from + seen)) (drop (from + seen) items))
    → IfSome (option_map (λ at. seen + at) found) (IsFeedAt (drop from items))
next_at items from seen None searched e = tt
next_at items from seen (Some at) searched e =
    feed_after (drop from items) seen at searched (feed_at (drop seen (drop from items)) at (sym (e ∙ ap (position (λ b. b == 10)) (unsearched items from seen))))

pub next_none : (items : List ℕ) (from seen : ℕ) (found : Option ℕ) → NoFeed (take seen (drop from items))
    → found ≡ position (λ b. b == 10) (take (length items - (from + seen)) (drop (from + seen) items))
    → option_map (λ at. seen + at) found ≡ None → NoFeed (drop from items)
next_none items from seen (Some at) searched e none = cc
next_none items from seen None searched e none =
    unended_after (drop from items) seen searched (no_feed (drop seen (drop from items)) (sym (e ∙ ap (position (λ b. b == 10)) (unsearched items from seen))))

-- a tail without a line feed stays searched when more comes
pub searched_more : (tail more : List ℕ) (n : ℕ) → n ≡ length tail → NoFeed tail → NoFeed (take n (tail ++ more))
searched_more tail more n e unended =
    let size : n ≡ length tail + 0 = omega (arith, e) in
    let front : take n (tail ++ more) ≡ tail = ap (λ k. take k (tail ++ more)) size ∙ take-append-add tail more 0 ∙ append-nil tail in
    subst NoFeed (sym front) unended

-- ## Cutting

pub cut_line : (l more : List ℕ) → NoFeed l → cut (l ++ 10 ∷ more) ≡ line_of l 1 ∷ cut more
cut_line [] more nf = refl
cut_line (b ∷ l) more nf = rw (nf.0, cut_line l more nf.1) refl

pub cut_tail : (l : List ℕ) → NoFeed l → 0 < length l → cut l ≡ line_of l 0 ∷ []
cut_tail [] nf some = absurd (omega arith)
cut_tail (b ∷ []) nf some = rw nf.0 refl
cut_tail (b ∷ c ∷ l) nf some = rw (nf.0, cut_tail (c ∷ l) nf.1 (omega arith)) refl

-- what a line becomes whose end isn't read yet
pub record Grown (l : List ℕ) (all : List ℕ) : Type 0 where
  pub more : List ℕ
  pub feed : ℕ
  pub rest : List Line
  pub cuts : cut all ≡ line_of (l ++ more) feed ∷ rest

grown_first : (b : ℕ) (more : List ℕ) (ls : List Line) → (b == 10) ≡ false → cut more ≡ ls → Grown (b ∷ []) (b ∷ more)
grown_first b more [] nf e = record { more = []; feed = 0; rest = []; cuts = rw (nf, e) refl }
grown_first b more (l ∷ ls) nf e = record { more = l.bytes; feed = l.feed; rest = ls; cuts = rw (nf, e) refl }

pub cut_more : (l more : List ℕ) → NoFeed l → 0 < length l → Grown l (l ++ more)
cut_more [] more nf some = absurd (omega arith)
cut_more (b ∷ []) more nf some = grown_first b more (cut more) nf.0 refl
cut_more (b ∷ c ∷ l) more nf some =
    let g = cut_more (c ∷ l) more nf.1 (omega arith) in
    record { more = g.more; feed = g.feed; rest = g.rest; cuts = rw (nf.0, g.cuts) refl }

-- what is too long stays too long
pub long_more : (n start : ℕ) (l more : List ℕ) (feed : ℕ) → is_long n start (line_of l 0) ≡ true → is_long n start (line_of (l ++ more) feed) ≡ true
long_more n start l more feed e =
    let size : length (l ++ more) ≡ length l + length more = length-append l more in
    grind (arith, nat_tests)

-- a tail that isn't too long stands before the end of the longest input
pub short_within : (n start : ℕ) (tail : List ℕ) → start ≤ 16777216 → (0 < length tail → is_long n start (line_of tail 0) ≡ false)
    → start + length tail ≤ 16777216
short_within n start [] h short = omega (arith, h)
short_within n start (b ∷ tail) h short =
    let some : 0 < length (b ∷ tail) = omega arith in
    let is : is_long n start (line_of (b ∷ tail) 0) ≡ false = short some in
    grind (arith, nat_tests)

-- ## Fronts

pub front_start : (input : Option (List ℕ)) → IsFront input input [] []
front_start None = record { front = []; cuts = λ more. refl; whole = tt }
front_start (Some all) = record { front = []; cuts = λ more. refl; whole = (all, refl, refl) }

-- the bytes of a front, and then a line
line_cuts : (front l : List ℕ) (ls : List Line) → ((more : List ℕ) → cut (front ++ more) ≡ ls ++ cut more) → NoFeed l
    → (more : List ℕ) → cut ((front ++ (l ++ 10 ∷ [])) ++ more) ≡ (ls ++ line_of l 1 ∷ []) ++ cut more
line_cuts front l ls cuts nf more =
    let e : (front ++ (l ++ 10 ∷ [])) ++ more ≡ front ++ (l ++ 10 ∷ more) = append_assoc front (l ++ 10 ∷ []) more ∙ ap (λ x. front ++ x) (append_assoc l (10 ∷ []) more) in
    ap cut e ∙ cuts (l ++ 10 ∷ more) ∙ ap (λ x. ls ++ x) (cut_line l more nf) ∙ sym (append_assoc ls (line_of l 1 ∷ []) (cut more))

line_whole : (front l tail rest all : List ℕ) → all ≡ front ++ ((l ++ 10 ∷ tail) ++ rest) → all ≡ (front ++ (l ++ 10 ∷ [])) ++ (tail ++ rest)
line_whole front l tail rest all e =
    let moved : (l ++ 10 ∷ tail) ++ rest ≡ (l ++ 10 ∷ []) ++ (tail ++ rest) = append_assoc l (10 ∷ tail) rest ∙ sym (append_assoc l (10 ∷ []) (tail ++ rest)) in
    e ∙ ap (λ x. front ++ x) moved ∙ sym (append_assoc front (l ++ 10 ∷ []) (tail ++ rest))

pub front_line : (input left : Option (List ℕ)) (ls : List Line) (tail : List ℕ) (at : ℕ) → IsFront input left ls tail → IsFeedAt tail at
    → IsFront input left (ls ++ line_of (take at tail) 1 ∷ []) (drop (at + 1) tail)
front_line None left ls tail at f feed = record { front = f.front ++ (take at tail ++ 10 ∷ []); cuts = line_cuts f.front (take at tail) ls f.cuts feed.before; whole = tt }
front_line (Some all) left ls tail at f feed = record {
  front = f.front ++ (take at tail ++ 10 ∷ []);
  cuts = line_cuts f.front (take at tail) ls f.cuts feed.before;
  whole = (f.whole.0, line_whole f.front (take at tail) (drop (at + 1) tail) f.whole.0 all (f.whole.1 ∙ ap (λ x. f.front ++ (x ++ f.whole.0)) feed.whole), f.whole.2);
}

read_whole : (front tail rest all piece later : List ℕ) → all ≡ front ++ (tail ++ rest) → rest ≡ piece ++ later → all ≡ front ++ ((tail ++ piece) ++ later)
read_whole front tail rest all piece later e f = e ∙ ap (λ x. front ++ (tail ++ x)) f ∙ ap (λ x. front ++ x) (sym (append_assoc tail piece later))

pub front_read : (input left after : Option (List ℕ)) (ls : List Line) (tail buffer : List ℕ) (n : ℕ) → IsFront input left ls tail → Takes left n buffer after → IsFront input after ls (tail ++ take n buffer)
front_read None left after ls tail buffer n f takes = record { front = f.front; cuts = f.cuts; whole = tt }
front_read (Some all) left after ls tail buffer n f takes =
    let rest = f.whole.0 in
    let from : TakesFrom rest n buffer after = rw f.whole.2 at takes in
    let parts : rest ≡ take n buffer ++ drop n rest = sym (take-append-drop n rest) ∙ ap (λ x. x ++ drop n rest) (sym from.taken) in
    record { front = f.front; cuts = f.cuts; whole = (drop n rest, read_whole f.front tail rest all (take n buffer) (drop n rest) f.whole.1 parts, from.rest) }

-- all that there is was read
pub front_end : (input left after : Option (List ℕ)) (ls : List Line) (tail buffer : List ℕ) (n : ℕ) → IsFront input left ls tail → Takes left n buffer after → n ≡ 0
    → IfSome input (λ all. (cut all ≡ ls ++ cut tail) × (after ≡ Some []))
front_end None left after ls tail buffer n f takes none = tt
front_end (Some all) left after ls tail buffer n f takes none =
    let rest = f.whole.0 in
    let from : TakesFrom rest n buffer after = rw f.whole.2 at takes in
    let empty = from.end none in
    let all_is : all ≡ f.front ++ tail = f.whole.1 ∙ ap (λ x. f.front ++ (tail ++ x)) empty ∙ ap (λ x. f.front ++ x) (append-nil tail) in
    (ap cut all_is ∙ f.cuts tail, from.rest ∙ rw (none, empty) refl)

-- the lines of the whole input
pub front_lines : (input left : Option (List ℕ)) (ls : List Line) (tail : List ℕ) → IsFront input left ls tail → IfSome input (λ all. (rest : List ℕ) × (cut all ≡ ls ++ cut (tail ++ rest)))
front_lines None left ls tail f = tt
front_lines (Some all) left ls tail f = (f.whole.0, ap cut f.whole.1 ∙ f.cuts (tail ++ f.whole.0))

-- a line has as many bytes as its feed has before it
pub feed_length : (tail : List ℕ) (at : ℕ) → IsFeedAt tail at → length (take at tail) ≡ at
feed_length tail at feed =
    let size = ap length feed.whole in
    let sum = length-append (take at tail) (10 ∷ drop (at + 1) tail) in
    let some : length (take at tail) < length tail = omega (arith, size, sum) in
    let front : length (take at tail) ≡ min at (length tail) = grind (arith, common_steps) in
    omega (arith, front, some)
