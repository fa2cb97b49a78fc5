-- What was told at a line.
use Rattle.std.proofs.Common.{◌≡◌, ℕ, ◌+◌, true, false, List, [], ◌∷◌, ◌++◌, length, take, drop, Option, Some, None, refl, sym, ◌∙◌, ap, subst, append_assoc, inl, inr, append-nil, arith, ◌<◌, ◌⊎◌}
use Rattle.std.specs.Option.{IfSome}
use Rattle.std.proofs.Math.Seq.{take-append-add}
use Rattle.st_io.specs.Bytes.{Appends}
use Rattle.st_io.specs.Bytes as InOut
use Rattle.st_pieces.specs.declared.responder.RunEnd.{RunEnd}
use Rattle.st_pieces.specs.declared.responder.RunEnd.TheVariants.{Done, Bad, TooLong, ReadFault, WriteFault, NoMemory}
use Rattle.st_pieces.specs.Lines.{IsFeedAt, Line, NoFeed, cut, is_long, line_of}
use Rattle.st_pieces.specs.Told.{Answered, AppendsPrefix, long_line, more, nothing}
use Rattle.st_pieces.specs.inside.Sent.{IsAnswerTo, IsEndTold, IsLineEnd, IsLongSent}
use Rattle.st_pieces.specs.Outcomes.{IsFront, IsTold, IsEnded, IsPartly, IsNextTold}
use Rattle.st_pieces.specs.inside.Reached.{IsReached}
use Rattle.st_pieces.proofs.Appending.{appends_more}
use Rattle.st_pieces.proofs.Cutting.{cut_line, cut_more, cut_tail, front_end, front_line, front_lines, front_read, front_start, long_more}

-- ## Pieces

pub part_more : (old mid new : Option (List ℕ)) (line rest : List ℕ) → Appends old line mid → AppendsPrefix mid rest new → AppendsPrefix old (line ++ rest) new
part_more old mid new line rest p (k, h) = (length line + k, rw (take-append-add line rest k) (appends_more old mid new line (take k rest) p h))

nothing_more : (old new : Option (List ℕ)) (text : List ℕ) → Appends old text new → AppendsPrefix old (text ++ []) new
nothing_more old new text p =
    (length text + 0, rw (take-append-add text [] 0) (appends_more old new new text [] p (appends_nothing new)))
  where
    appends_nothing : (old : Option (List ℕ)) → Appends old [] old
    appends_nothing None = tt
    appends_nothing (Some bs) = ap Some (sym (append-nil bs))

no_bytes : (w new : Option (List ℕ)) → new ≡ w → AppendsPrefix w [] new
no_bytes w new e = (0, subst (λ (x : Option (List ℕ)). Appends w [] x) (sym e) (none w))
  where
    none : (old : Option (List ℕ)) → Appends old [] old
    none None = tt
    none (Some bs) = ap Some (sym (append-nil bs))

-- the lines of an input, of which the next one ends where a line feed stands
next_line : (input left : Option (List ℕ)) (ls : List Line) (tail : List ℕ) (at : ℕ) → IsFront input left ls tail → IsFeedAt tail at
    → IfSome input (λ all. (rest : List Line) × (cut all ≡ ls ++ line_of (take at tail) 1 ∷ rest))
next_line None left ls tail at f feed = tt
next_line (Some all) left ls tail at f feed =
    let r = front_lines (Some all) left ls tail f in
    let moved : tail ++ r.0 ≡ take at tail ++ 10 ∷ (drop (at + 1) tail ++ r.0) = ap (λ x. x ++ r.0) feed.whole ∙ append_assoc (take at tail) (10 ∷ drop (at + 1) tail) r.0 in
    (cut (drop (at + 1) tail ++ r.0), r.1 ∙ ap (λ x. ls ++ x) (ap cut moved ∙ cut_line (take at tail) (drop (at + 1) tail ++ r.0) feed.before))

lines_among : (input : Option (List ℕ)) (ls : List Line) (l : Line) (P : List Line → Type 0) → ((rest : List Line) → P (l ∷ rest)) → IfSome input (λ all. (rest : List Line) × (cut all ≡ ls ++ l ∷ rest)) → IfSome input (λ all. (rest : List Line) × (cut all ≡ ls ++ rest) × P rest)
lines_among None ls l P p h = tt
lines_among (Some all) ls l P p h = (l ∷ h.0, h.1, p h.0)

-- where nothing more is told, no line matters
any_among : (input : Option (List ℕ)) (ls : List Line) (P : List Line → Type 0) → ((rest : List Line) → P rest) → IfSome input (λ all. (rest : List Line) × (cut all ≡ ls ++ rest)) → IfSome input (λ all. (rest : List Line) × (cut all ≡ ls ++ rest) × P rest)
any_among None ls P p h = tt
any_among (Some all) ls P p h = (h.0, h.1, p h.0)

at_line : (input : Option (List ℕ)) (ls : List Line) (l : Line) (P : Line → Type 0) → P l → IfSome input (λ all. (rest : List Line) × (cut all ≡ ls ++ l ∷ rest))
    → IfSome input (λ all. (l : Line) × (rest : List Line) × (cut all ≡ ls ++ l ∷ rest) × P l)
at_line None ls l P p h = tt
at_line (Some all) ls l P p h = (l, h.0, h.1, p)

module _ {S E : Type 0} (Takes : S → ℕ → List ℕ → List ℕ → S → Type 0) (EndsAt : S → ℕ → List ℕ → List ℕ → E → Type 0)
    (Finishes : S → ℕ → List ℕ → Type 0) (Fails : S → ℕ → List ℕ → E → Type 0) where
  partly : (first : S) (input old : Option (List ℕ)) (s : S) (left w new : Option (List ℕ)) (n start : ℕ) (tail next : List ℕ) (at : ℕ) → ((rest : List Line) → IsNextTold Takes EndsAt Finishes Fails s n start (line_of (take at tail) 1 ∷ rest) next)
      → IsReached Takes first input old s left w n start tail → IsFeedAt tail at → AppendsPrefix w next new → IsPartly Takes EndsAt Finishes Fails first input old new
  partly first input old s left w new n start tail next at p r feed h = record {
    lines = r.lines;
    n = n;
    start = start;
    text = r.text;
    s = s;
    answered = r.answered;
    among = lines_among input r.lines (line_of (take at tail) 1) (λ rest. IsNextTold Takes EndsAt Finishes Fails s n start rest next) p (next_line input left r.lines tail at r.read feed);
    next = next;
    written = part_more old w new r.text next r.written h;
  }

  -- a line is too long
  pub long_told : (first : S) (input old : Option (List ℕ)) (s : S) (left w new : Option (List ℕ)) (n start : ℕ) (tail : List ℕ) (at : ℕ) (o : RunEnd E)
      → IsReached Takes first input old s left w n start tail → IsFeedAt tail at → is_long n start (line_of (take at tail) 1) ≡ true
      → IsLongSent n w new o → IsTold Takes EndsAt Finishes Fails first input old left new o
  long_told first input old s left w new n start tail at Done r feed long h = absurd h
  long_told first input old s left w new n start tail at (Bad m e) r feed long h = absurd h
  long_told first input old s left w new n start tail at ReadFault r feed long h = absurd h
  long_told first input old s left w new n start tail at NoMemory r feed long h =
      partly first input old s left w new n start tail [] at (λ rest. inl refl) r feed (no_bytes w new h)
  long_told first input old s left w new n start tail at WriteFault r feed long h = partly first input old s left w new n start tail (long_line n) at (λ rest. inr (inl (long, refl))) r feed h
  long_told first input old s left w new n start tail at (TooLong m) r feed long h =
      let ended : IsEnded Takes EndsAt Finishes Fails first input old new n (λ s n start l last. (is_long n start l ≡ true) × (last ≡ long_line n)) = record {
        lines = r.lines;
        start = start;
        text = r.text;
        last = long_line n;
        s = s;
        answered = r.answered;
        line = at_line input r.lines (line_of (take at tail) 1) (λ l. (is_long n start l ≡ true) × (long_line n ≡ long_line n)) (long, refl) (next_line input left r.lines tail at r.read feed);
        written = appends_more old w new r.text (long_line n) r.written h.1;
      } in
      subst (λ k. IsTold Takes EndsAt Finishes Fails first input old left new (TooLong k)) (sym h.0) ended

  -- a run ends at a line
  pub line_ended : (first : S) (input old : Option (List ℕ)) (s : S) (left w new : Option (List ℕ)) (n start : ℕ) (tail : List ℕ) (at : ℕ) (o : RunEnd E)
      → IsReached Takes first input old s left w n start tail → IsFeedAt tail at → is_long n start (line_of (take at tail) 1) ≡ false
      → IsLineEnd (IsAnswerTo (Takes s n (take at tail)) (EndsAt s n (take at tail))) (EndsAt s n (take at tail)) n w new o → IsTold Takes EndsAt Finishes Fails first input old left new o
  line_ended first input old s left w new n start tail at Done r feed short h = absurd h
  line_ended first input old s left w new n start tail at (TooLong m) r feed short h = absurd h
  line_ended first input old s left w new n start tail at ReadFault r feed short h = absurd h
  line_ended first input old s left w new n start tail at WriteFault r feed short h = partly first input old s left w new n start tail h.0 at (λ rest. inr (inr (short, h.1))) r feed h.2
  line_ended first input old s left w new n start tail at NoMemory r feed short h =
      partly first input old s left w new n start tail [] at (λ rest. inl refl) r feed (0, subst (λ (x : Option (List ℕ)). Appends w [] x) (sym h) (appends_nothing w))
    where
      appends_nothing : (old : Option (List ℕ)) → Appends old [] old
      appends_nothing None = tt
      appends_nothing (Some bs) = ap Some (sym (append-nil bs))
  line_ended first input old s left w new n start tail at (Bad m e) r feed short h =
      let last = h.1 in
      let ended : IsEnded Takes EndsAt Finishes Fails first input old new n (λ s n start l last. (is_long n start l ≡ false) × EndsAt s n l.bytes last e) = record {
        lines = r.lines;
        start = start;
        text = r.text;
        last = last;
        s = s;
        answered = r.answered;
        line = at_line input r.lines (line_of (take at tail) 1) (λ l. (is_long n start l ≡ false) × EndsAt s n l.bytes last e) (short, h.2) (next_line input left r.lines tail at r.read feed);
        written = appends_more old w new r.text last r.written h.3;
      } in
      subst (λ k. IsTold Takes EndsAt Finishes Fails first input old left new (Bad k e)) (sym h.0) (inl ended)

  -- a line is answered
  pub line_goes : (first : S) (input old : Option (List ℕ)) (s v : S) (left w new : Option (List ℕ)) (n start : ℕ) (tail told : List ℕ) (at : ℕ)
      → IsReached Takes first input old s left w n start tail → IsFeedAt tail at → is_long n start (line_of (take at tail) 1) ≡ false
      → Takes s n (take at tail) told v → Appends w told new → IsReached Takes first input old v left new (n + 1) (start + length (take at tail) + 1) (drop (at + 1) tail)
  line_goes first input old s v left w new n start tail told at r feed short takes h = record {
    lines = r.lines ++ line_of (take at tail) 1 ∷ [];
    text = r.text ++ told;
    answered = more (line_of (take at tail) 1) told v r.answered short takes;
    read = front_line input left r.lines tail at r.read feed;
    written = appends_more old w new r.text told r.written h;
  }

  -- ## The end of the input

  -- all lines are answered
  pub record IsAll (first : S) (input old : Option (List ℕ)) (s : S) (left new : Option (List ℕ)) (n : ℕ) : Type 0 where
    pub lines : List Line
    pub start : ℕ
    pub text : List ℕ
    pub answered : Answered Takes first lines n start text s
    pub whole : IfSome input (λ all. (cut all ≡ lines) × (left ≡ Some []))
    pub written : Appends old text new

  -- where nothing is left, the lines are those before a tail and the tail
  tail_lines : (input left : Option (List ℕ)) (ls : List Line) (tail : List ℕ) → IsFront input left ls tail → IfSome input (λ _. left ≡ Some []) → IfSome input (λ all. cut all ≡ ls ++ cut tail)
  tail_lines None left ls tail f h = tt
  tail_lines (Some all) left ls tail f h =
      let none : f.whole.0 ≡ [] = cc in
      ap cut (f.whole.1 ∙ ap (λ x. f.front ++ (tail ++ x)) none ∙ ap (λ x. f.front ++ x) (append-nil tail)) ∙ f.cuts tail

  both_known : (input left : Option (List ℕ)) (ls ms : List Line) → ls ≡ ms → IfSome input (λ all. cut all ≡ ls) → IfSome input (λ _. left ≡ Some []) → IfSome input (λ all. (cut all ≡ ms) × (left ≡ Some []))
  both_known None left ls ms e h l = tt
  both_known (Some all) left ls ms e h l = (h ∙ e, l)

  pub all_empty : (first : S) (input old : Option (List ℕ)) (s : S) (left new : Option (List ℕ)) (n start : ℕ) (tail : List ℕ)
      → IsReached Takes first input old s left new n start tail → length tail ≡ 0 → IfSome input (λ _. left ≡ Some []) → IsAll first input old s left new n
  all_empty first input old s left new n start [] r e h = record {
    lines = r.lines;
    start = start;
    text = r.text;
    answered = r.answered;
    whole = both_known input left (r.lines ++ cut []) r.lines (append-nil r.lines) (tail_lines input left r.lines [] r.read h) h;
    written = r.written;
  }
  all_empty first input old s left new n start (b ∷ tail) r e h = absurd (omega arith)

  pub all_last : (first : S) (input old : Option (List ℕ)) (s v : S) (left w new : Option (List ℕ)) (n start : ℕ) (tail told : List ℕ)
      → IsReached Takes first input old s left w n start tail → 0 < length tail → NoFeed tail → is_long n start (line_of tail 0) ≡ false
      → Takes s n tail told v → Appends w told new → IfSome input (λ _. left ≡ Some []) → IsAll first input old v left new (n + 1)
  all_last first input old s v left w new n start tail told r some unended short takes h nothing_left = record {
    lines = r.lines ++ line_of tail 0 ∷ [];
    start = start + length tail + 0;
    text = r.text ++ told;
    answered = more (line_of tail 0) told v r.answered short takes;
    whole = both_known input left (r.lines ++ cut tail) (r.lines ++ line_of tail 0 ∷ []) (ap (λ x. r.lines ++ x) (cut_tail tail unended some)) (tail_lines input left r.lines tail r.read nothing_left) nothing_left;
    written = appends_more old w new r.text told r.written h;
  }

  among_all : (input left : Option (List ℕ)) (ls : List Line) (P : List Line → Type 0) → P [] → IfSome input (λ all. (cut all ≡ ls) × (left ≡ Some [])) → IfSome input (λ all. (rest : List Line) × (cut all ≡ ls ++ rest) × P rest)
  among_all None left ls P p h = tt
  among_all (Some all) left ls P p h = ([], h.0 ∙ sym (append-nil ls), p)

  lines_all : (input left : Option (List ℕ)) (ls : List Line) → IfSome input (λ all. (cut all ≡ ls) × (left ≡ Some [])) → IfSome input (λ all. cut all ≡ ls)
  lines_all None left ls h = tt
  lines_all (Some all) left ls h = h.0

  all_partly : (first : S) (input old : Option (List ℕ)) (s : S) (left w new : Option (List ℕ)) (n : ℕ) (next : List ℕ) → ((next ≡ []) ⊎ (Finishes s n next ⊎ ((e : E) × Fails s n next e))) → IsAll first input old s left w n → AppendsPrefix w next new → IsPartly Takes EndsAt Finishes Fails first input old new
  all_partly first input old s left w new n next p a h = record {
    lines = a.lines;
    n = n;
    start = a.start;
    text = a.text;
    s = s;
    answered = a.answered;
    among = among_all input left a.lines (λ rest. IsNextTold Takes EndsAt Finishes Fails s n a.start rest next) p a.whole;
    next = next;
    written = part_more old w new a.text next a.written h;
  }

  -- the end is told
  pub end_told : (first : S) (input old : Option (List ℕ)) (s : S) (left w new : Option (List ℕ)) (n : ℕ) (o : RunEnd E)
      → IsAll first input old s left w n → IsEndTold (Finishes s n) (Fails s n) n w new o → IsTold Takes EndsAt Finishes Fails first input old left new o
  end_told first input old s left w new n (TooLong m) a h = absurd h
  end_told first input old s left w new n ReadFault a h = absurd h
  end_told first input old s left w new n WriteFault a h = all_partly first input old s left w new n h.0 (inr h.1) a h.2
  end_told first input old s left w new n NoMemory a h = all_partly first input old s left w new n [] (inl refl) a (no_bytes w new h)
  end_told first input old s left w new n Done a h = record {
    lines = a.lines;
    n = n;
    start = a.start;
    text = a.text;
    last = h.0;
    s = s;
    answered = a.answered;
    finishes = h.1;
    whole = a.whole;
    written = appends_more old w new a.text h.0 a.written h.2;
  }
  end_told first input old s left w new n (Bad m e) a h =
      subst (λ k. IsTold Takes EndsAt Finishes Fails first input old left new (Bad k e)) (sym h.0) (inr (record {
        lines = a.lines;
        start = a.start;
        text = a.text;
        last = h.1;
        s = s;
        answered = a.answered;
        fails = h.2;
        whole = lines_all input left a.lines a.whole;
        written = appends_more old w new a.text h.1 a.written h.3;
      }))

  -- a run ends at the last line
  pub last_ended : (first : S) (input old : Option (List ℕ)) (s : S) (left w new : Option (List ℕ)) (n start : ℕ) (tail : List ℕ) (o : RunEnd E)
      → IsReached Takes first input old s left w n start tail → 0 < length tail → NoFeed tail → is_long n start (line_of tail 0) ≡ false
      → IsLineEnd (IsAnswerTo (Takes s n tail) (EndsAt s n tail)) (EndsAt s n tail) n w new o → IfSome input (λ _. left ≡ Some []) → IsTold Takes EndsAt Finishes Fails first input old left new o
  last_ended first input old s left w new n start tail o r some unended short h nothing_left = by o h
    where
      next : IfSome input (λ all. (rest : List Line) × (cut all ≡ r.lines ++ line_of tail 0 ∷ rest))
      next = at_end input (tail_lines input left r.lines tail r.read nothing_left)
        where
          at_end : (input : Option (List ℕ)) → IfSome input (λ all. cut all ≡ r.lines ++ cut tail) → IfSome input (λ all. (rest : List Line) × (cut all ≡ r.lines ++ line_of tail 0 ∷ rest))
          at_end None h = tt
          at_end (Some all) h = ([], h ∙ ap (λ x. r.lines ++ x) (cut_tail tail unended some))

      in_part : (next_text : List ℕ) → ((rest : List Line) → IsNextTold Takes EndsAt Finishes Fails s n start (line_of tail 0 ∷ rest) next_text) → AppendsPrefix w next_text new → IsPartly Takes EndsAt Finishes Fails first input old new
      in_part next_text q p = record {
        lines = r.lines;
        n = n;
        start = start;
        text = r.text;
        s = s;
        answered = r.answered;
        among = lines_among input r.lines (line_of tail 0) (λ rest. IsNextTold Takes EndsAt Finishes Fails s n start rest next_text) q next;
        next = next_text;
        written = part_more old w new r.text next_text r.written p;
      }

      by : (o : RunEnd E) → IsLineEnd (IsAnswerTo (Takes s n tail) (EndsAt s n tail)) (EndsAt s n tail) n w new o → IsTold Takes EndsAt Finishes Fails first input old left new o
      by Done h = absurd h
      by (TooLong m) h = absurd h
      by ReadFault h = absurd h
      by WriteFault h = in_part h.0 (λ rest. inr (inr (short, h.1))) h.2
      by NoMemory h = in_part [] (λ rest. inl refl) (no_bytes w new h)
      by (Bad m e) h =
          subst (λ k. IsTold Takes EndsAt Finishes Fails first input old left new (Bad k e)) (sym h.0) (inl (record {
            lines = r.lines;
            start = start;
            text = r.text;
            last = h.1;
            s = s;
            answered = r.answered;
            line = at_line input r.lines (line_of tail 0) (λ l. (is_long n start l ≡ false) × EndsAt s n l.bytes h.1 e) (short, h.2) next;
            written = appends_more old w new r.text h.1 r.written h.3;
          }))

  -- ## A tail

  grown_line : (input left : Option (List ℕ)) (ls : List Line) (tail : List ℕ) (n start : ℕ) → IsFront input left ls tail → 0 < length tail → NoFeed tail → is_long n start (line_of tail 0) ≡ true
      → IfSome input (λ all. (l : Line) × (rest : List Line) × (cut all ≡ ls ++ l ∷ rest) × ((is_long n start l ≡ true) × (long_line n ≡ long_line n)))
  grown_line None left ls tail n start f some unended long = tt
  grown_line (Some all) left ls tail n start f some unended long =
      let r = front_lines (Some all) left ls tail f in
      let g = cut_more tail r.0 unended some in
      (line_of (tail ++ g.more) g.feed, g.rest, r.1 ∙ ap (λ x. ls ++ x) g.cuts, (long_more n start tail g.more g.feed long, refl))

  among_read : (input left : Option (List ℕ)) (ls : List Line) (tail : List ℕ) → IsFront input left ls tail → IfSome input (λ all. (rest : List Line) × (cut all ≡ ls ++ rest))
  among_read None left ls tail f = tt
  among_read (Some all) left ls tail f = let r = front_lines (Some all) left ls tail f in (cut (tail ++ r.0), r.1)

  among_grown : (input : Option (List ℕ)) (ls : List Line) (s : S) (n start : ℕ) → IfSome input (λ all. (l : Line) × (rest : List Line) × (cut all ≡ ls ++ l ∷ rest) × ((is_long n start l ≡ true) × (long_line n ≡ long_line n)))
      → IfSome input (λ all. (rest : List Line) × (cut all ≡ ls ++ rest) × IsNextTold Takes EndsAt Finishes Fails s n start rest (long_line n))
  among_grown None ls s n start h = tt
  among_grown (Some all) ls s n start h = (h.0 ∷ h.1, h.2, inr (inl h.3))

  none_next : (s : S) (n start : ℕ) (rest : List Line) → IsNextTold Takes EndsAt Finishes Fails s n start rest []
  none_next s n start [] = inl refl
  none_next s n start (l ∷ rest) = inl refl

  pub nothing_partly : (first : S) (input old : Option (List ℕ)) (s : S) (left w : Option (List ℕ)) (n start : ℕ) (tail : List ℕ)
      → IsReached Takes first input old s left w n start tail → IsPartly Takes EndsAt Finishes Fails first input old w
  nothing_partly first input old s left w n start tail r = record {
    lines = r.lines;
    n = n;
    start = start;
    text = r.text;
    s = s;
    answered = r.answered;
    next = [];
    among = any_among input r.lines (λ rest. IsNextTold Takes EndsAt Finishes Fails s n start rest []) (none_next s n start) (among_read input left r.lines tail r.read);
    written = part_more old w w r.text [] r.written (no_bytes w w refl);
  }

  -- a tail is too long
  pub long_tail_told : (first : S) (input old : Option (List ℕ)) (s : S) (left w new : Option (List ℕ)) (n start : ℕ) (tail : List ℕ) (o : RunEnd E)
      → IsReached Takes first input old s left w n start tail → 0 < length tail → NoFeed tail → is_long n start (line_of tail 0) ≡ true
      → IsLongSent n w new o → IsTold Takes EndsAt Finishes Fails first input old left new o
  long_tail_told first input old s left w new n start tail Done r some unended long h = absurd h
  long_tail_told first input old s left w new n start tail (Bad m e) r some unended long h = absurd h
  long_tail_told first input old s left w new n start tail ReadFault r some unended long h = absurd h
  long_tail_told first input old s left w new n start tail NoMemory r some unended long h =
      subst (λ (x : Option (List ℕ)). IsPartly Takes EndsAt Finishes Fails first input old x) (sym h)
      (nothing_partly first input old s left w n start tail r)
  long_tail_told first input old s left w new n start tail WriteFault r some unended long h = record {
    lines = r.lines;
    n = n;
    start = start;
    text = r.text;
    s = s;
    answered = r.answered;
    next = long_line n;
    among = among_grown input r.lines s n start (grown_line input left r.lines tail n start r.read some unended long);
    written = part_more old w new r.text (long_line n) r.written h;
  }
  long_tail_told first input old s left w new n start tail (TooLong m) r some unended long h =
      let ended : IsEnded Takes EndsAt Finishes Fails first input old new n (λ s n start l last. (is_long n start l ≡ true) × (last ≡ long_line n)) = record {
        lines = r.lines;
        start = start;
        text = r.text;
        last = long_line n;
        s = s;
        answered = r.answered;
        line = grown_line input left r.lines tail n start r.read some unended long;
        written = appends_more old w new r.text (long_line n) r.written h.1;
      } in
      subst (λ k. IsTold Takes EndsAt Finishes Fails first input old left new (TooLong k)) (sym h.0) ended

  -- the source failed
  pub cut_off : (first : S) (input old : Option (List ℕ)) (s : S) (left w : Option (List ℕ)) (n start : ℕ) (tail : List ℕ)
      → IsReached Takes first input old s left w n start tail → NoFeed tail → (0 < length tail → is_long n start (line_of tail 0) ≡ false) → IsTold Takes EndsAt Finishes Fails first input old left w ReadFault
  cut_off first input old s left w n start tail r unended short = record {
    lines = r.lines;
    n = n;
    start = start;
    text = r.text;
    tail = tail;
    s = s;
    answered = r.answered;
    read = r.read;
    unended = unended;
    short = short;
    written = r.written;
  }

  -- a piece was read
  pub piece_read : (first : S) (input old : Option (List ℕ)) (s : S) (left after w : Option (List ℕ)) (n start count : ℕ) (tail buffer : List ℕ)
      → IsReached Takes first input old s left w n start tail → InOut.Takes left count buffer after → IsReached Takes first input old s after w n start (tail ++ take count buffer)
  piece_read first input old s left after w n start count tail buffer r takes = record {
    lines = r.lines;
    text = r.text;
    answered = r.answered;
    read = front_read input left after r.lines tail buffer count r.read takes;
    written = r.written;
  }

  all_read : (input left after : Option (List ℕ)) (ls : List Line) (tail buffer : List ℕ) (count : ℕ) → IsFront input left ls tail → InOut.Takes left count buffer after → count ≡ 0 → IfSome input (λ _. after ≡ Some [])
  all_read None left after ls tail buffer count f takes none = tt
  all_read (Some all) left after ls tail buffer count f takes none = (front_end (Some all) left after ls tail buffer count f takes none).1

  pub end_read : (first : S) (input old : Option (List ℕ)) (s : S) (left after w : Option (List ℕ)) (n start count : ℕ) (tail buffer : List ℕ)
      → IsReached Takes first input old s left w n start tail → InOut.Takes left count buffer after → count ≡ 0
      → IsReached Takes first input old s after w n start tail × IfSome input (λ _. after ≡ Some [])
  end_read first input old s left after w n start count tail buffer r takes none =
      let same : tail ++ take count buffer ≡ tail = rw none (append-nil tail) in (
        subst (IsReached Takes first input old s after w n start) same (piece_read first input old s left after w n start count tail buffer r takes),
        all_read input left after r.lines tail buffer count r.read takes none,
      )

  -- the same in other words
  pub reached_as : (first : S) (input old : Option (List ℕ)) (s : S) (left w : Option (List ℕ)) (n m start from : ℕ) (tail rest : List ℕ)
      → IsReached Takes first input old s left w n start tail → m ≡ n → from ≡ start → rest ≡ tail → IsReached Takes first input old s left w m from rest
  reached_as first input old s left w n m start from tail rest r e f t =
      subst (λ k. IsReached Takes first input old s left w k from rest) (sym e)
      (subst (λ k. IsReached Takes first input old s left w n k rest) (sym f)
      (subst (IsReached Takes first input old s left w n start) (sym t) r))

  -- nothing is read yet
  pub start_reached : (first : S) (input old : Option (List ℕ)) → IsReached Takes first input old first input old 1 0 []
  start_reached first input old = record {
    lines = [];
    text = [];
    answered = nothing;
    read = front_start input;
    written = none old;
  }
    where
      none : (old : Option (List ℕ)) → Appends old [] old
      none None = tt
      none (Some bs) = ap Some (sym (append-nil bs))
