-- A load, from the header that opens its world to what its clients show.
use Rattle.std.proofs.Common.{◌≡◌, ◌↔◌, ◌⊎◌, inl, inr, ◌<◌, ◌≤◌, ◌+◌, ◌-◌, nat_eq, nat_lt, ℕ, zero, suc, Bool, true, false, ◌&&◌, List, [], ◌∷◌, length, map, None, Ok, Err, is_ok, codes, refl, sym, ap, ◌∙◌, subst, arith}
use Rattle.std.specs.Cmp.Lexicographic.{pointwise}
use Rattle.std.specs.List.{AllByRecursion, list_all}
use Rattle.std.specs.Str.{IsAscii}
use Rattle.std.proofs.lemmas.Bool.Decides.{nat_tests}
use Rattle.std.proofs.lemmas.Str.Ascii.{IsAscii-cons, IsAscii-nil}
use Rattle.st_lemmas.proofs.Bools.{and-true}
use Rattle.std.specs.Str.Lossy.{utf8_valid_len}
use Rattle.std.proofs.lemmas.Str.{IsUtf8-from_ascii, utf8_valid_len-IsUtf8}
use Rattle.serde_json.specs.Read.{read}
use Rattle.serde_json.proofs.OnLiterals.{serde_json_on_literals}
use Rattle.st_ids.specs.Listing.{Has}
use Rattle.st_json.specs.Line.{line_value}
use Rattle.st_json.specs.declared.fault.BadCause.{BadCause}
use Rattle.st_lists.specs.Clients.{empty_state}
use Rattle.st_lists.specs.declared.lists.WorldState.{WorldState}
use Rattle.st_script.specs.Header.{HeaderView, header_line, header_or_cause}
use Rattle.st_script.specs.Steps.{ActView, StepView}
use Rattle.st_script.specs.Steps as step
use Rattle.st_script.specs.declared.answer.Answer.{Answer}
use Rattle.st_script.specs.declared.answer.Answer.TheVariants as answer
use Rattle.st_script.specs.declared.refusal.Refusal.{Refusal}
use Rattle.st_script.specs.declared.refusal.Refusal.TheVariants as no
use Rattle.st_world.specs.World.{IsNext, opening_document}
use Rattle.st_load_laws.specs.Load.{AreMade, EachUntil, IsMadeUntil, ends, goes, load_clients, refusals, step_by}
use Rattle.st_load_laws.specs.Loaded.{EndsSoon, EndsWithin, IsLoaded}
use Rattle.st_load_laws.proofs.Drawing.{drawn_goes}
use Rattle.st_load_laws.proofs.Ending.{received_loaded, receiving_ends_soon, sending_ends_soon, sent_loaded, shown}
use Rattle.st_load_laws.proofs.Finding.{IsAmong, all_among, has_among}
use Rattle.st_load_laws.proofs.Joining.{joins_load}
use Rattle.st_work.specs.Generator.{after_step, first_work, step_drawn, steps_from, steps_of}
use Rattle.st_work.specs.declared.work.Work.{Work}
use Rattle.st_plain.specs.Stands.{Stands}
use Rattle.st_plain.specs.declared.world.World.{World}
use Rattle.st_ids.specs.declared.names.Rev.{Rev}
use Rattle.st_lists.specs.Log.{commits_in}
use Rattle.st_lists.specs.Voids.{AreVoid}
use Rattle.st_answers.specs.Work.{AreShown, IsTallied, IsWorkLine, are_same, load_header, work_line}
use Rattle.st_answers.specs.declared.tally.Tally.{Tally}
use Rattle.st_run.specs.inside.Standing.{GoesOn}
use Rattle.st_run.specs.inside.Working.{EndsIn, IsCounted, IsEmptied, IsLoadedFor, IsShowingStep, IsShown, IsTurned, IsUnder}

-- ## The header

read_well : is_ok (header_or_cause (codes "trace") (read load_header)) ≡ true
unfolding serde_json_on_literals
read_well = refl

ascii : (bs : List ℕ) → list_all (λ (b : ℕ). nat_lt b 128) bs ≡ true → IsAscii bs
ascii [] e = IsAscii-nil
ascii (b ∷ bs) e =
    let p = and-true (nat_lt b 128) (list_all (λ (c : ℕ). nat_lt c 128) bs) e in
    let small : nat_lt b 128 ≡ true = p.0 in
    let less : b < 128 = grind (arith, nat_tests, small) in
    IsAscii-cons b bs less (ascii bs p.1)

in_utf8 : line_value load_header ≡ read load_header
in_utf8 =
    let whole : utf8_valid_len load_header ≡ length load_header = utf8_valid_len-IsUtf8 load_header (IsUtf8-from_ascii load_header (ascii load_header refl)) in
    rw whole refl

pub opens_well : (c : BadCause) → header_line (codes "trace") load_header ≡ Err c → ⊥
opens_well c e =
    let well : is_ok (header_line (codes "trace") load_header) ≡ true = ap (λ o. is_ok (header_or_cause (codes "trace") o)) in_utf8 ∙ read_well in
    let bad : is_ok (header_line (codes "trace") load_header) ≡ false = ap is_ok e in
    let clash : true ≡ false = sym well ∙ bad in
    cc

-- ## Sending and receiving

pub sends_soon : (world : World) (s : StepView) (name : List ℕ) → s ≡ step_by step.sequence name → Has load_clients name → IsLoadedFor 262144 world → EndsIn world s (answer.No no.NothingToSend)
sends_soon world s name e has (k, h, w, stands, room, loaded) =
    (k, h, w, stands, room, subst (λ x. EndsSoon h x (answer.No no.NothingToSend) w) (sym e) (sending_ends_soon h name 60000 w (has_among name has) (omega arith) loaded))

pub receives_soon : (world : World) (s : StepView) (name : List ℕ) → s ≡ step_by step.deliver name → Has load_clients name → IsLoadedFor 262144 world → EndsIn world s (answer.No no.NothingNew)
receives_soon world s name e has (k, h, w, stands, room, loaded) =
    (k, h, w, stands, room, subst (λ x. EndsSoon h x (answer.No no.NothingNew) w) (sym e) (receiving_ends_soon h name 60000 w (has_among name has) (omega arith) loaded))

-- ## A step that is made until it is answered so

-- what a step leads to
abbrev pub IsStepped : World → World → StepView → Answer → Type 0
IsStepped old new s a = (k : ℕ) (h : HeaderView) (w : WorldState) → Stands k old h w → (v : WorldState) × IsNext h w s v a × Stands (k + 1) new h v

pub turn_made : (old new : World) (s : StepView) (last a : Answer) (b : Bool) → IsStepped old new s a → (b ≡ true) ↔ (a ≡ last) → IsTurned old new s last b
turn_made old new s last a b stepped is = λ k h w st. let m = stepped k h w st in (m.0, a, m.1, is, m.2)

pub step_counted : (old new : World) (s : StepView) (a : Answer) (r : ℕ) → IsStepped old new s a → r ≡ refusals a → IsCounted old new s r
step_counted old new s a r stepped is = λ k h w st. let m = stepped k h w st in (m.0, a, m.1, is, m.2)

pub counted_as : (old new : World) (s t : StepView) (r : ℕ) → s ≡ t → IsCounted old new s r → IsCounted old new t r
counted_as old new s t r e counted = subst (λ x. IsCounted old new x r) e counted

pub emptied_as : (old new : World) (s t : StepView) (last : Answer) → s ≡ t → IsEmptied old new s last → IsEmptied old new t last
emptied_as old new s t last e emptied = subst (λ x. IsEmptied old new x last) e emptied

-- so many turns were made, and what follows them follows from the first world
abbrev pub IsMaking : World → World → StepView → Answer → ℕ → Type 0
IsMaking start now s last turns = (k : ℕ) (h : HeaderView) (w : WorldState) → Stands k start h w
    → (u : WorldState) × Stands (k + turns) now h u × ((v : WorldState) → IsMadeUntil h s last u v → IsMadeUntil h s last w v)
    × ((n : ℕ) → EndsWithin n h s last w → EndsWithin (n - turns) h s last u)

pub making_first : (world : World) (s : StepView) (last : Answer) → IsMaking world world s last 0
making_first world s last = λ k h w st. (w, subst (λ n. Stands n world h w) (omega arith) st, λ v m. m, λ n e. subst (λ m. EndsWithin m h s last w) (omega arith) e)

-- one turn that isn't answered so
ends_on : (h : HeaderView) (s : StepView) (last : Answer) (u v : WorldState) (a : Answer) → (a ≡ last → ⊥) → IsNext h u s v a → (m : ℕ) → EndsWithin m h s last u → EndsWithin (m - 1) h s last v
ends_on h s last u v a other is zero e = absurd e
ends_on h s last u v a other is (suc m) e = subst (λ n. EndsWithin n h s last v) (omega arith) (late (e v a is))
  where
    late : {C : Type 0} → (a ≡ last) ⊎ ((a ≡ last → ⊥) × C) → C
    late (inl q) = absurd (other q)
    late (inr (n, c)) = c

pub making_on : (start now next : World) (s : StepView) (last : Answer) (turns : ℕ) (b : Bool) → IsMaking start now s last turns → IsTurned now next s last b → b ≡ false
    → IsMaking start next s last (turns + 1)
making_on start now next s last turns b making turned unlike = λ k h w st.
    let at = making k h w st in
    let m = turned (k + turns) h at.0 at.1 in
    let other : m.1 ≡ last → ⊥ = λ e. clash (m.3.1 e) in (
      m.0,
      subst (λ n. Stands n next h m.0) (omega arith) m.4,
      λ v rest. at.2 v (goes m.1 other m.2 rest),
      λ n e. subst (λ i. EndsWithin i h s last m.0) (omega arith) (ends_on h s last at.0 m.0 m.1 other m.2 (n - turns) (at.3 n e)),
    )
  where
    clash : b ≡ true → ⊥
    clash like = let bad : true ≡ false = sym like ∙ unlike in cc

pub making_done : (start now next : World) (s : StepView) (last : Answer) (turns : ℕ) (b : Bool) → IsMaking start now s last turns → turns < 262144 → IsTurned now next s last b → b ≡ true
    → (k : ℕ) (h : HeaderView) (w : WorldState) → Stands k start h w → (v : WorldState) × (j : ℕ) × (j ≤ 262144) × IsMadeUntil h s last w v × Stands (k + j) next h v
making_done start now next s last turns b making few turned like k h w st =
    let at = making k h w st in
    let m = turned (k + turns) h at.0 at.1 in
    let is : m.1 ≡ last = m.3.0 like in
    (m.0, turns + 1, omega (arith, few), at.2 m.0 (ends (subst (λ a. IsNext h at.0 s m.0 a) is m.2)), subst (λ n. Stands n next h m.0) (omega arith) m.4)

-- a turn can be made
pub making_goes : (start now : World) (s : StepView) (last : Answer) (turns : ℕ) → IsMaking start now s last turns → turns < 262144 → EndsIn start s last → GoesOn now
making_goes start now s last turns making few (k, h, w, st, room, soon) =
    let at = making k h w st in (k + turns, h, at.0, at.1, omega (arith, few, room))

pub making_never : (start now : World) (s : StepView) (last : Answer) (turns : ℕ) → IsMaking start now s last turns → 262144 ≤ turns → EndsIn start s last → ⊥
making_never start now s last turns making all (k, h, w, st, room, (n, few, soon)) =
    let at = making k h w st in
    let none : n - turns ≡ 0 = omega (arith, all, few) in
    subst (λ i. EndsWithin i h s last at.0) none (at.3 n soon)

-- ## Steps that are drawn

-- some steps were made, and what follows them follows from the first world
abbrev pub IsDrawing : World → World → ℕ → ℕ → Work → ℕ → Type 0
IsDrawing start now seed steps g refused = (k : ℕ) (h : HeaderView) (w : WorldState) → Stands k start h w
    → (u : WorldState) × Stands (k + g.made) now h u
    × ((v : WorldState) (rest : ℕ) → AreMade h u (steps_from g (steps - g.made)) v rest → AreMade h w (steps_of seed steps) v (refused + rest))

pub drawing_first : (world : World) (seed steps : ℕ) (g : Work) → g ≡ first_work seed → IsDrawing world world seed steps g 0
drawing_first world seed steps g e = subst (λ x. IsDrawing world world seed steps x 0) (sym e) (λ k h w st.
    (w, subst (λ n. Stands n world h w) (omega arith) st, λ v rest m. subst (λ n. AreMade h w (steps_of seed steps) v n) (omega arith) (subst (λ i. AreMade h w (steps_from (first_work seed) i) v rest) (omega arith) m)))

pub drawing_on : (start now next : World) (seed steps : ℕ) (g x : Work) (refused r : ℕ) → IsDrawing start now seed steps g refused → g.made < steps → x ≡ after_step g → IsCounted now next (step_drawn g) r
    → IsDrawing start next seed steps x (refused + r)
drawing_on start now next seed steps g x refused r drawing few is drawn = subst (λ y. IsDrawing start next seed steps y (refused + r)) (sym is) (λ k h w st.
    let at = drawing k h w st in
    let m = drawn (k + g.made) h at.0 at.1 in
    let left : steps - g.made ≡ suc (steps - (g.made + 1)) = omega (arith, few) in (
      m.0,
      subst (λ n. Stands n next h m.0) (omega arith) m.4,
      λ v rest made.
          let sum : refused + (refusals m.1 + rest) ≡ refused + r + rest = (let q = m.3 in omega (arith, q)) in
          subst (λ n. AreMade h w (steps_of seed steps) v n) sum
          (at.2 v (refusals m.1 + rest) (subst (λ n. AreMade h at.0 (steps_from g n) v (refusals m.1 + rest)) (sym left) (m.0, m.1, rest, m.2, made, refl))),
    ))

pub drawing_done : (start now : World) (seed steps : ℕ) (g : Work) (refused : ℕ) → IsDrawing start now seed steps g refused → g.made ≡ steps
    → (k : ℕ) (h : HeaderView) (w : WorldState) → Stands k start h w → (v : WorldState) × AreMade h w (steps_of seed steps) v refused × Stands (k + steps) now h v
drawing_done start now seed steps g refused drawing all k h w st =
    let at = drawing k h w st in
    let none : steps - g.made ≡ 0 = omega (arith, all) in (
      at.0,
      subst (λ n. AreMade h w (steps_of seed steps) at.0 n) (omega arith) (at.2 at.0 0 (subst (λ n. AreMade h at.0 (steps_from g n) at.0 0) (sym none) (refl, refl))),
      subst (λ n. Stands (k + n) now h at.0) all at.1,
    )

pub drawing_goes : (start now : World) (seed steps : ℕ) (g : Work) (refused : ℕ) → IsDrawing start now seed steps g refused → g.made < steps → steps ≤ 50000 → IsUnder 50000 start → GoesOn now
drawing_goes start now seed steps g refused drawing few most (k, h, w, st, room) =
    let at = drawing k h w st in (k + g.made, h, at.0, at.1, omega (arith, few, most, room))

-- ## One client after another

abbrev pub IsJoined : World → World → List ℕ → ℕ → Type 0
IsJoined old new name r = IsCounted old new (step_by (step.join None) name) r

pub counted_goes : (old new : World) (s : StepView) (r room : ℕ) → IsUnder (1 + room) old → IsCounted old new s r → IsUnder room new
counted_goes old new s r room (k, h, w, st, few) counted = let m = counted k h w st in (k + 1, h, m.0, m.4, omega (arith, few))

pub may_go : (world : World) (room : ℕ) → 1 ≤ room → IsUnder room world → GoesOn world
may_go world room some (k, h, w, st, few) = (k, h, w, st, omega (arith, few, some))

pub opened_under : (world : World) → (h : HeaderView) × Stands 0 world h empty_state → IsUnder 100 world
opened_under world (h, st) = (0, h, empty_state, st, omega arith)

pub all_joined : (o p q r n : World) (i j k l : ℕ) → IsJoined o p (codes "A") i → IsJoined p q (codes "B") j → IsJoined q r (codes "C") k → IsJoined r n (codes "D") l
    → (h : HeaderView) → Stands 0 o h empty_state → (v : WorldState) × (refused : ℕ) × AreMade h empty_state (map (step_by (step.join None)) load_clients) v refused × Stands 4 n h v
all_joined o p q r n i j k l a b c d = λ h st.
    let w = a 0 h empty_state st in
    let x = b 1 h w.0 w.4 in
    let y = c 2 h x.0 x.4 in
    let z = d 3 h y.0 y.4 in (
      z.0,
      refusals w.1 + (refusals x.1 + (refusals y.1 + (refusals z.1 + 0))),
      (w.0, w.1, refusals x.1 + (refusals y.1 + (refusals z.1 + 0)), w.2, (x.0, x.1, refusals y.1 + (refusals z.1 + 0), x.2, (y.0, y.1, refusals z.1 + 0, y.2, (z.0, z.1, 0, z.2, (refl, refl), refl), refl), refl), refl),
      z.4,
    )

pub fewer_room : (world : World) (m n : ℕ) → m ≤ n → IsLoadedFor n world → IsLoadedFor m world
fewer_room world m n less (k, h, w, st, room, l) = (k, h, w, st, omega (arith, room, less), l)

pub sent_on : (old new : World) (name : List ℕ) (room : ℕ) → Has load_clients name → IsLoadedFor (262144 + room) old → IsEmptied old new (step_by step.sequence name) (answer.No no.NothingToSend) → IsLoadedFor room new
sent_on old new name room has (k, h, w, st, few, l) emptied =
    let m = emptied k h w st in let j = m.2 in (k + m.1, h, m.0, m.4, omega (arith, few, j), sent_loaded h name 60000 w m.0 (has_among name has) l m.3)

pub received_on : (old new : World) (name : List ℕ) (room : ℕ) → Has load_clients name → IsLoadedFor (262144 + room) old → IsEmptied old new (step_by step.deliver name) (answer.No no.NothingNew) → IsLoadedFor room new
received_on old new name room has (k, h, w, st, few, l) emptied =
    let m = emptied k h w st in let j = m.2 in (k + m.1, h, m.0, m.4, omega (arith, few, j), received_loaded h name 60000 w m.0 (has_among name has) l m.3)

pub all_emptied : (act : ActView) (why : Refusal) (o p q r n : World) → IsEmptied o p (step_by act (codes "A")) (answer.No why) → IsEmptied p q (step_by act (codes "B")) (answer.No why)
    → IsEmptied q r (step_by act (codes "C")) (answer.No why) → IsEmptied r n (step_by act (codes "D")) (answer.No why)
    → (k : ℕ) (h : HeaderView) (w : WorldState) → Stands k o h w → (v : WorldState) × (j : ℕ) × (j ≤ 1048576) × EachUntil h act why load_clients w v × Stands (k + j) n h v
all_emptied act why o p q r n a b c d = λ k h w st.
    let x = a k h w st in
    let y = b (k + x.1) h x.0 x.4 in
    let z = c (k + x.1 + y.1) h y.0 y.4 in
    let t = d (k + x.1 + y.1 + z.1) h z.0 z.4 in
    let i = x.2 in let j = y.2 in let l = z.2 in let m = t.2 in
    (t.0, x.1 + y.1 + z.1 + t.1, omega (arith, i, j, l, m), (x.0, x.3, (y.0, y.3, (z.0, z.3, (t.0, t.3, refl)))), subst (λ i. Stands i n h t.0) (omega arith) t.4)

pub has_a : Has load_clients (codes "A")
has_a = inl refl

pub has_b : Has load_clients (codes "B")
has_b = inr (inl refl)

pub has_c : Has load_clients (codes "C")
has_c = inr (inr (inl refl))

pub has_d : Has load_clients (codes "D")
has_d = inr (inr (inr (inl refl)))

pub loaded_more : (n : ℕ) (w : WorldState) → n ≤ 60000 → IsLoaded load_clients n w → IsLoaded load_clients 60000 w
loaded_more n w most l = let few = l.few in record { named = l.named; clients = l.clients; log = l.log; few = omega (arith, few, most) }

-- ## The whole load

abbrev pub Joins : World → World → Type 0
Joins o p = (h : HeaderView) → Stands 0 o h empty_state → (v : WorldState) × (refused : ℕ) × AreMade h empty_state (map (step_by (step.join None)) load_clients) v refused × Stands 4 p h v

abbrev pub Draws : World → World → ℕ → ℕ → ℕ → Type 0
Draws p q seed steps refused = (k : ℕ) (h : HeaderView) (w : WorldState) → Stands k p h w → (v : WorldState) × AreMade h w (steps_of seed steps) v refused × Stands (k + steps) q h v

abbrev pub Empties : ActView → Refusal → World → World → Type 0
Empties act why q r = (k : ℕ) (h : HeaderView) (w : WorldState) → Stands k q h w → (v : WorldState) × (j : ℕ) × (j ≤ 1048576) × EachUntil h act why load_clients w v × Stands (k + j) r h v

abbrev pub Shows : World → World → Bool → Type 0
Shows n z equal = (k : ℕ) (h : HeaderView) (w : WorldState) → Stands k n h w → (texts : List (List ℕ)) × AreShown h w load_clients texts × (equal ≡ are_same texts) × Stands (k + 4) z h w

abbrev pub Voids : World → ℕ → Type 0
Voids z voided = (k : ℕ) (h : HeaderView) (w : WorldState) → Stands k z h w → (void : List Rev) × AreVoid (opening_document h) (commits_in w.log) void × (voided ≡ length void)

abbrev pub Counts : World → ℕ → Type 0
Counts z entries = (k : ℕ) (h : HeaderView) (w : WorldState) → Stands k z h w → entries ≡ length w.log

each_sent : (h : HeaderView) (n : ℕ) (names : List (List ℕ)) (w v : WorldState) → AllByRecursion (IsAmong load_clients) names → IsLoaded load_clients n w → EachUntil h step.sequence no.NothingToSend names w v → IsLoaded load_clients n v
each_sent h n [] w v among l same = subst (IsLoaded load_clients n) (sym same) l
each_sent h n (name ∷ names) w v among l (u, is, more) = each_sent h n names u v among.1 (sent_loaded h name n w u among.0 l is) more

each_received : (h : HeaderView) (n : ℕ) (names : List (List ℕ)) (w v : WorldState) → AllByRecursion (IsAmong load_clients) names → IsLoaded load_clients n w → EachUntil h step.deliver no.NothingNew names w v → IsLoaded load_clients n v
each_received h n [] w v among l same = subst (IsLoaded load_clients n) (sym same) l
each_received h n (name ∷ names) w v among l (u, is, more) = each_received h n names u v among.1 (received_loaded h name n w u among.0 l is) more

pub may_draw : (o p : World) → (h : HeaderView) × Stands 0 o h empty_state → Joins o p → IsUnder 50000 p
may_draw o p (h, st) joins = let j = joins h st in (4, h, j.0, j.3, omega arith)

pub may_send : (o p q : World) (seed steps refused : ℕ) → (h : HeaderView) × Stands 0 o h empty_state → steps ≤ 50000 → Joins o p → Draws p q seed steps refused → IsLoadedFor 3000000 q
may_send o p q seed steps refused (h, st) few joins draws =
    let j = joins h st in
    let d = draws 4 h j.0 j.3 in (
      4 + steps,
      h,
      d.0,
      d.2,
      omega (arith, few),
      loaded_more (4 + steps) d.0 (omega (arith, few)) (drawn_goes h (first_work seed) steps 4 j.0 d.0 refused (joins_load h j.0 j.1 j.2) d.1),
    )

pub may_receive : (q r : World) (room : ℕ) → IsLoadedFor (1048576 + room) q → Empties step.sequence no.NothingToSend q r → IsLoadedFor room r
may_receive q r room (k, h, w, st, few, l) sends =
    let s = sends k h w st in let j = s.2 in (k + s.1, h, s.0, s.4, omega (arith, few, j), each_sent h 60000 load_clients w s.0 all_among l s.3)

pub may_show : (r n : World) (room : ℕ) → IsLoadedFor (1048576 + room) r → Empties step.deliver no.NothingNew r n → IsLoadedFor room n
may_show r n room (k, h, w, st, few, l) receives =
    let s = receives k h w st in let j = s.2 in (k + s.1, h, s.0, s.4, omega (arith, few, j), each_received h 60000 load_clients w s.0 all_among l s.3)

pub tallied : (o p q r n z : World) (seed steps refused : ℕ) (equal : Bool) (t : Tally) → (t.equal ≡ equal) × (t.refused ≡ refused) × (t.steps ≡ steps) → Joins o p → Draws p q seed steps refused
    → Empties step.sequence no.NothingToSend q r → Empties step.deliver no.NothingNew r n → Shows n z equal → Voids z t.voided → Counts z t.entries
    → (h : HeaderView) → Stands 0 o h empty_state → IsTallied h seed steps t
tallied o p q r n z seed steps refused equal t (as_equal, as_refused, made) joins draws sends receives shows voids counts = λ h st.
    let a = joins h st in
    let b = draws 4 h a.0 a.3 in
    let c = sends (4 + steps) h b.0 b.2 in
    let d = receives (4 + steps + c.1) h c.0 c.4 in
    let e = shows (4 + steps + c.1 + d.1) h d.0 d.4 in
    let f = voids (4 + steps + c.1 + d.1 + 4) h d.0 e.3 in
    record {
      joined = a.0;
      unjoined = a.1;
      joins = a.2;
      drawn = b.0;
      draws = subst (λ (m : ℕ). AreMade h a.0 (steps_of seed steps) b.0 m) (sym as_refused) b.1;
      sent = c.0;
      sends = c.3;
      last = d.0;
      receives = d.3;
      shown = e.0;
      shows = e.1;
      equal = as_equal ∙ e.2;
      void = f.0;
      voids = f.1;
      voided = f.2;
      entries = counts (4 + steps + c.1 + d.1 + 4) h d.0 e.3;
      steps_made = made;
    }

-- ## What is shown

-- a load's world stands for one list of entries and clients
loaded_here : (k : ℕ) (h : HeaderView) (w : WorldState) (world : World) (room : ℕ) → Stands k world h w → IsLoadedFor room world → IsLoaded load_clients 60000 w
loaded_here k h w world room st (i, g, v, at, few, l) = subst (IsLoaded load_clients 60000) (sym at.lists ∙ st.lists) l

-- the answer to such a step is a text
pub is_text : (old new : World) (s : StepView) (a : Answer) → IsShowingStep old s → IsStepped old new s a → (text : List ℕ) × (a ≡ answer.Show text)
is_text old new s a (name, has, e, (k, h, w, st, few, l)) stepped =
    let m = stepped k h w st in
    let is : IsNext h w (step_by step.show name) m.0 a = subst (λ x. IsNext h w x m.0 a) e m.1 in
    let told = shown h 60000 w m.0 name a l (has_among name has) is in
    (told.text, told.told)

pub text_shown : (old new : World) (s : StepView) (a : Answer) (text : List ℕ) → IsShowingStep old s → IsStepped old new s a → a ≡ answer.Show text → IsShown old new s text
text_shown old new s a text (name, has, e, loaded) stepped told = λ k h w st.
    let m = stepped k h w st in
    let is : IsNext h w (step_by step.show name) m.0 a = subst (λ x. IsNext h w x m.0 a) e m.1 in
    let same = (shown h 60000 w m.0 name a (loaded_here k h w old 1 st loaded) (has_among name has) is).same in
    (subst (λ v. IsNext h w s v (answer.Show text)) same (subst (λ b. IsNext h w s m.0 b) told m.1), subst (λ v. Stands (k + 1) new h v) same m.2)

pub shown_as : (old new : World) (s t : StepView) (text : List ℕ) → s ≡ t → IsShown old new s text → IsShown old new t text
shown_as old new s t text e is = subst (λ x. IsShown old new x text) e is

pub showing_step : (world : World) (s : StepView) (name : List ℕ) → s ≡ step_by step.show name → Has load_clients name → IsLoadedFor 1 world → IsShowingStep world s
showing_step world s name e has loaded = (name, has, e, loaded)

pub loaded_goes : (world : World) → IsLoadedFor 1 world → GoesOn world
loaded_goes world (k, h, w, st, few, l) = (k, h, w, st, few)

-- whether it is as another text
pub shown_same : (old new : World) (s : StepView) (text other : List ℕ) (b : Bool) → IsShown old new s text → b ≡ pointwise nat_eq text other
    → (k : ℕ) (h : HeaderView) (w : WorldState) → Stands k old h w → (t : List ℕ) × IsNext h w s w (answer.Show t) × (b ≡ pointwise nat_eq t other) × Stands (k + 1) new h w
shown_same old new s text other b is e = λ k h w st. let m = is k h w st in (text, m.0, e, m.1)

pub shown_on : (old new : World) (s : StepView) (text : List ℕ) (room : ℕ) → IsLoadedFor (1 + room) old → IsShown old new s text → IsLoadedFor room new
shown_on old new s text room (k, h, w, st, few, l) shows = let m = shows k h w st in (k + 1, h, w, m.1, omega (arith, few), l)

-- what a client shows beside another text
abbrev pub IsShownBeside : World → World → StepView → List ℕ → Bool → Type 0
IsShownBeside old new s other b = (k : ℕ) (h : HeaderView) (w : WorldState) → Stands k old h w
    → (t : List ℕ) × IsNext h w s w (answer.Show t) × (b ≡ pointwise nat_eq t other) × Stands (k + 1) new h w

pub beside_on : (old new : World) (s : StepView) (other : List ℕ) (b : Bool) (room : ℕ) → IsLoadedFor (1 + room) old → IsShownBeside old new s other b → IsLoadedFor room new
beside_on old new s other b room (k, h, w, st, few, l) shows = let m = shows k h w st in (k + 1, h, w, m.3, omega (arith, few), l)

-- the four trees, and whether the others are as the first
pub all_shown : (o p q r n : World) (text : List ℕ) (b c d : Bool) → IsShown o p (step_by step.show (codes "A")) text → IsShownBeside p q (step_by step.show (codes "B")) text b
    → IsShownBeside q r (step_by step.show (codes "C")) text c → IsShownBeside r n (step_by step.show (codes "D")) text d → Shows o n (b && (c && d))
all_shown o p q r n text b c d first second third fourth = λ k h w st.
    let x = first k h w st in
    let y = second (k + 1) h w x.1 in
    let z = third (k + 1 + 1) h w y.3 in
    let t = fourth (k + 1 + 1 + 1) h w z.3 in (
      text ∷ y.0 ∷ z.0 ∷ t.0 ∷ [],
      (text, y.0 ∷ z.0 ∷ t.0 ∷ [], x.0, (y.0, z.0 ∷ t.0 ∷ [], y.1, (z.0, t.0 ∷ [], z.1, (t.0, [], t.1, refl, refl), refl), refl), refl),
      same_all b c d (pointwise nat_eq y.0 text) (pointwise nat_eq z.0 text) (pointwise nat_eq t.0 text) y.2 z.2 t.2,
      subst (λ i. Stands i n h w) (omega arith) t.3,
    )
  where
    same_all : (b c d x y z : Bool) → b ≡ x → c ≡ y → d ≡ z → (b && (c && d)) ≡ (x && (y && (z && true)))
    same_all b c d x y z e f g = λ i. e i && (f i && (g ∙ and_true z) i)
      where
        and_true : (z : Bool) → z ≡ (z && true)
        and_true true = refl
        and_true false = refl

-- ## The line

pub line_told : (world : World) (seed steps : ℕ) (t : Tally) (line : List ℕ) → (h : HeaderView) × (header_line (codes "trace") load_header ≡ Ok h) × Stands 0 world h empty_state
    → ((h : HeaderView) → Stands 0 world h empty_state → IsTallied h seed steps t) → line ≡ work_line t → IsWorkLine seed steps line
line_told world seed steps t line (h, opens, st) tallied told = record { header = h; opens = opens; tally = t; tallied = tallied h st; told = told }
