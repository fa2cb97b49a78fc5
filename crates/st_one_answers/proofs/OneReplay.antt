-- The answers to the messages of an input are one.
use Rattle.std.proofs.Common.{◌≡◌, ℕ, List, [], Option, Some, None, Result, Ok, Err, codes, refl, sym, ap, ◌∙◌, subst, arith}
use Rattle.serde_json.specs.Data.{Data}
use Rattle.st_answers.specs.Replay.{FinishesReplay, IsBadInReplay, IsMessageLine, IsRefusedInReplay, LacksInReplay, ReplayState, TakesReplay, opened, taken_line, unopened}
use Rattle.st_json.specs.Line.{line_value}
use Rattle.st_json.specs.declared.fault.BadCause.{BadCause}
use Rattle.st_lists.specs.Log.{commits_in}
use Rattle.st_lists.specs.declared.lists.Entry.{Entry}
use Rattle.st_marks.specs.Run.{Run}
use Rattle.st_one_laws.specs.AlikeWorlds.{AlikeEntry, OneByOne}
use Rattle.st_script.proofs.OfForm.{header_line_kept}
use Rattle.st_script.specs.AnswerText.{answer_line}
use Rattle.st_script.specs.Header.{HeaderView, header_line}
use Rattle.st_script.specs.declared.answer.Answer.TheVariants as answer
use Rattle.st_valid.specs.Room.{HasRoomForNames}
use Rattle.st_valid.specs.declared.message.ReplayCause.{ReplayCause}
use Rattle.st_valid_laws.specs.Messages.{IsValidLog, no_message}
use Rattle.st_valid_laws.specs.Shape.{IsValueRefusedFor}
use Rattle.st_valid_laws.specs.Taking.{IsTaken}
use Rattle.st_world.specs.World.{opening_document}
use Rattle.st_world_laws.proofs.Begun.{opened_start}
use Rattle.st_world_laws.specs.Worlds.{IsHeader}
use Rattle.st_one_laws.proofs.OneTaking.{log_back, refused_once, shown_once, taken_once, taken_or_refused}

-- two logs that are alike, of valid messages behind one header
abbrev pub AreOneLog : ReplayState → ReplayState → Type 0
AreOneLog unopened unopened = Unit {0}
AreOneLog unopened (opened g fs) = ⊥
AreOneLog (opened h es) unopened = ⊥
AreOneLog (opened h es) (opened g fs) = (h ≡ g) × IsHeader h × IsValidLog (opening_document h) es × OneByOne AlikeEntry es fs

there : {A E : Type 0} (r : Result A E) (x y : A) → r ≡ Ok x → r ≡ Ok y → x ≡ y
there r x y e f = let q : Ok x ≡ Ok y = sym e ∙ f in cc

why_one : {A E : Type 0} (r : Result A E) (x y : E) → r ≡ Err x → r ≡ Err y → x ≡ y
why_one r x y e f = let q : Err x ≡ Err y = sym e ∙ f in cc

both : {A E : Type 0} (r : Result A E) (x : A) (y : E) → r ≡ Ok x → r ≡ Err y → ⊥
both r x y e f = let q : Ok x ≡ Err y = sym e ∙ f in cc

one_value : (o : Option Data) (x y : Data) → o ≡ Some x → o ≡ Some y → x ≡ y
one_value o x y e f = let q : Some x ≡ Some y = sym e ∙ f in cc

no_value : (o : Option Data) (x : Data) → o ≡ Some x → o ≡ None → ⊥
no_value o x e f = let q : Some x ≡ None = sym e ∙ f in cc

-- ## One line

message_one : (h : HeaderView) (es fs : List Entry) (line a b : List ℕ) (u v : ReplayState) → IsHeader h → IsValidLog (opening_document h) es → OneByOne AlikeEntry es fs
    → IsMessageLine h es line a u → IsMessageLine h fs line b v → (a ≡ b) × AreOneLog u v
message_one h es fs line a b u v header valid o y z =
    let s = opened_start h header in
    let room : HasRoomForNames (opening_document h) = λ n. omega (arith, s.short n) in
    let same : y.value ≡ z.value = one_value (line_value line) y.value z.value y.is z.is in
    let first : IsTaken (opening_document h) es z.value y.after y.number y.void = subst (λ (d : Data). IsTaken (opening_document h) es d y.after y.number y.void) same y.taken in
    let once = taken_once (opening_document h) s.sound s.made room es fs valid o z.value y.after z.after y.number z.number y.void z.void first z.taken in
    let after : AreOneLog (opened h y.after) (opened h z.after) = (refl, header, once.3, once.2) in (
      y.told ∙ (λ i. taken_line (once.0 i) (once.1 i)) ∙ sym z.told,
      subst (λ (k : ReplayState). AreOneLog k v) (sym y.state) (subst (λ (k : ReplayState). AreOneLog (opened h y.after) k) (sym z.state) after),
    )

pub replay_takes_one : (s t u v : ReplayState) (n : ℕ) (line a b : List ℕ) → AreOneLog s t → TakesReplay s n line a u → TakesReplay t n line b v → (a ≡ b) × AreOneLog u v
replay_takes_one unopened unopened u v n line a b k y z =
    let kept = header_line_kept (codes "replay") line z.header z.is in
    let same : y.header ≡ z.header = there (header_line (codes "replay") line) y.header z.header y.is z.is in
    let header : IsHeader z.header = record { schema = kept.0; tree = kept.1 } in
    let after : AreOneLog (opened y.header []) (opened z.header []) = (same, subst IsHeader (sym same) header, no_message, tt) in (
      y.told ∙ sym z.told,
      subst (λ (x : ReplayState). AreOneLog x v) (sym y.state) (subst (λ (x : ReplayState). AreOneLog (opened y.header []) x) (sym z.state) after),
    )
replay_takes_one unopened (opened g fs) u v n line a b k y z = absurd k
replay_takes_one (opened h es) unopened u v n line a b k y z = absurd k
replay_takes_one (opened h es) (opened g fs) u v n line a b k y z =
    message_one g es fs line a b u v (subst IsHeader k.0 k.1) (subst (λ (i : HeaderView). IsValidLog (opening_document i) es) k.0 k.2) k.3 (subst (λ (i : HeaderView). IsMessageLine i es line a u) k.0 y) z

-- a line isn't both taken and bad, or refused

pub replay_bad_apart : (s t u : ReplayState) (n : ℕ) (line a : List ℕ) (c : BadCause) → AreOneLog s t → TakesReplay s n line a u → IsBadInReplay t line c → ⊥
replay_bad_apart unopened unopened u n line a c k y z = both (header_line (codes "replay") line) y.header c y.is z
replay_bad_apart unopened (opened g fs) u n line a c k y z = k
replay_bad_apart (opened h es) unopened u n line a c k y z = k
replay_bad_apart (opened h es) (opened g fs) u n line a c k y z = no_value (line_value line) y.value y.is z.0

pub replay_bad_other : (s t v : ReplayState) (n : ℕ) (line b : List ℕ) (c : BadCause) → AreOneLog s t → IsBadInReplay s line c → TakesReplay t n line b v → ⊥
replay_bad_other unopened unopened v n line b c k y z = both (header_line (codes "replay") line) z.header c z.is y
replay_bad_other unopened (opened g fs) v n line b c k y z = k
replay_bad_other (opened h es) unopened v n line b c k y z = k
replay_bad_other (opened h es) (opened g fs) v n line b c k y z = no_value (line_value line) z.value z.is y.0

pub replay_refused_apart : (s t u : ReplayState) (n : ℕ) (line a : List ℕ) (c : ReplayCause) → AreOneLog s t → TakesReplay s n line a u → IsRefusedInReplay t line c → ⊥
replay_refused_apart s unopened u n line a c k y z = z
replay_refused_apart unopened (opened g fs) u n line a c k y z = k
replay_refused_apart (opened h es) (opened g fs) u n line a c k y z =
    let same : y.value ≡ z.value = one_value (line_value line) y.value z.value y.is z.is in
    let taken = subst (λ (d : Data). IsTaken (opening_document h) es d y.after y.number y.void) same y.taken in
    taken_or_refused (opening_document h) es fs k.3 z.value y.after y.number y.void c taken (subst (λ (i : HeaderView). IsValueRefusedFor (opening_document i) fs z.value c) (sym k.0) z.refused)

pub replay_refused_other : (s t v : ReplayState) (n : ℕ) (line b : List ℕ) (c : ReplayCause) → AreOneLog s t → IsRefusedInReplay s line c → TakesReplay t n line b v → ⊥
replay_refused_other unopened t v n line b c k y z = y
replay_refused_other (opened h es) unopened v n line b c k y z = k
replay_refused_other (opened h es) (opened g fs) v n line b c k y z =
    let same : y.value ≡ z.value = one_value (line_value line) y.value z.value y.is z.is in
    let taken = subst (λ (i : HeaderView). IsTaken (opening_document i) fs z.value z.after z.number z.void) (sym k.0) z.taken in
    taken_or_refused (opening_document h) fs es (log_back es fs k.3) z.value z.after z.number z.void c taken (subst (λ (d : Data). IsValueRefusedFor (opening_document h) es d c) same y.refused)

-- nor both bad and refused

pub replay_one_bad : (s t : ReplayState) (line : List ℕ) (c e : BadCause) → AreOneLog s t → IsBadInReplay s line c → IsBadInReplay t line e → c ≡ e
replay_one_bad unopened unopened line c e k y z = why_one (header_line (codes "replay") line) c e y z
replay_one_bad unopened (opened g fs) line c e k y z = absurd k
replay_one_bad (opened h es) unopened line c e k y z = absurd k
replay_one_bad (opened h es) (opened g fs) line c e k y z = y.1 ∙ sym z.1

pub replay_bad_or_refused : (s t : ReplayState) (line : List ℕ) (c : BadCause) (e : ReplayCause) → AreOneLog s t → IsBadInReplay s line c → IsRefusedInReplay t line e → ⊥
replay_bad_or_refused s unopened line c e k y z = z
replay_bad_or_refused unopened (opened g fs) line c e k y z = k
replay_bad_or_refused (opened h es) (opened g fs) line c e k y z = no_value (line_value line) z.value z.is y.0

pub replay_refused_or_bad : (s t : ReplayState) (line : List ℕ) (c : ReplayCause) (e : BadCause) → AreOneLog s t → IsRefusedInReplay s line c → IsBadInReplay t line e → ⊥
replay_refused_or_bad unopened t line c e k y z = y
replay_refused_or_bad (opened h es) unopened line c e k y z = k
replay_refused_or_bad (opened h es) (opened g fs) line c e k y z = no_value (line_value line) y.value y.is z.0

pub replay_one_refusal : (s t : ReplayState) (line : List ℕ) (c e : ReplayCause) → AreOneLog s t → IsRefusedInReplay s line c → IsRefusedInReplay t line e → c ≡ e
replay_one_refusal unopened t line c e k y z = absurd y
replay_one_refusal (opened h es) unopened line c e k y z = absurd z
replay_one_refusal (opened h es) (opened g fs) line c e k y z =
    let same : y.value ≡ z.value = one_value (line_value line) y.value z.value y.is z.is in
    refused_once (opening_document h) es fs k.3 z.value c e (subst (λ (d : Data). IsValueRefusedFor (opening_document h) es d c) same y.refused)
    (subst (λ (i : HeaderView). IsValueRefusedFor (opening_document i) fs z.value e) (sym k.0) z.refused)

-- ## The end

pub replay_ends_one : (s t : ReplayState) (a b : List ℕ) → AreOneLog s t → FinishesReplay s a → FinishesReplay t b → a ≡ b
replay_ends_one unopened t a b k y z = absurd y
replay_ends_one (opened h es) unopened a b k y z = absurd z
replay_ends_one (opened h es) (opened g fs) a b k y z =
    y.told ∙ ap (λ (t : List ℕ). answer_line (answer.Show t)) (shown_once (opening_document g) es fs k.3 y.document z.document y.tree z.tree (subst (λ (i : HeaderView). Run (opening_document i) (commits_in es) y.document) k.0 y.ran) z.ran y.shown z.shown) ∙ sym z.told

pub replay_lacks_one : (s t : ReplayState) (c e : BadCause) → AreOneLog s t → LacksInReplay s c → LacksInReplay t e → c ≡ e
replay_lacks_one (opened h es) t c e k y z = absurd y
replay_lacks_one unopened (opened g fs) c e k y z = absurd z
replay_lacks_one unopened unopened c e k y z = y ∙ sym z

pub replay_ends_apart : (s t : ReplayState) (a : List ℕ) (c : BadCause) → AreOneLog s t → FinishesReplay s a → LacksInReplay t c → ⊥
replay_ends_apart unopened t a c k y z = y
replay_ends_apart (opened h es) unopened a c k y z = k
replay_ends_apart (opened h es) (opened g fs) a c k y z = z

pub replay_ends_other : (s t : ReplayState) (b : List ℕ) (c : BadCause) → AreOneLog s t → LacksInReplay s c → FinishesReplay t b → ⊥
replay_ends_other (opened h es) t b c k y z = y
replay_ends_other unopened unopened b c k y z = z
replay_ends_other unopened (opened g fs) b c k y z = k
