-- Names as texts: what is read is told, and what is told is read.
use Rattle.std.proofs.Common.{◌≡◌, ◌∙◌, ℕ, ◌<◌, ◌^◌, false, List, Option, Some, IfSome, option_map, is_some, refl, ap, subst}
use Rattle.std.specs.List.{before_first, after_first}
use Rattle.std.specs.Prelude.{◌==◌}
use Rattle.serde_json.specs.Data.{string}
use Rattle.serde_json.specs.Find.{as_null, as_str}
use Rattle.st_ids.specs.Names.{atom_text, read_atom, read_pair, read_rev, rev_text}
use Rattle.st_ids.specs.Numeral.{number_of}
use Rattle.st_ids.specs.declared.names.Atom.{Atom}
use Rattle.st_ids.specs.declared.names.Rev.{Rev}
use Rattle.st_ids.proofs.Points.{decimal-number_of, read_rev-rev_text, read_atom-atom_text, rev_text-read_rev, atom_text-read_atom}
use Rattle.st_json.proofs.Shared.{is_string}
use Rattle.st_lemmas.proofs.Options.{option_map-Some, option_and_then-Some}
use Rattle.st_mark_reader.specs.Naming.{plain_form, plain_naming}
use Rattle.st_change_laws.specs.Both.{Reads}
use Rattle.st_change_laws.specs.Within.{IsShortAtom, IsShortRev}

if_is : {A : Type 0} (o : Option A) (x : A) (P : A → Type 0) → IfSome o P → o ≡ Some x → P x
if_is {A} o x P h e = subst (λ (p : Option A). IfSome p P) e h

short_pair : (bs : List ℕ) (p : ℕ × ℕ) → read_pair bs ≡ Some p → (p.0 < 2 ^ 32) × (p.1 < 2 ^ 32)
short_pair bs p e =
    let made : ℕ → ℕ → ℕ × ℕ = λ m k. (m, k) in
    let m = option_and_then-Some (λ m. option_map (made m) (number_of (after_first (λ b. b == 46) bs))) (number_of (before_first (λ b. b == 46) bs)) p e in
    let k = option_map-Some (made m.0) (number_of (after_first (λ b. b == 46) bs)) p m.2 in
    subst (λ (q : ℕ × ℕ). (q.0 < 2 ^ 32) × (q.1 < 2 ^ 32)) k.2 ((decimal-number_of (before_first (λ b. b == 46) bs) m.0 m.1).1, (decimal-number_of (after_first (λ b. b == 46) bs) k.0 k.1).1)

short_rev : (bs : List ℕ) (r : Rev) → read_rev bs ≡ Some r → IsShortRev r
short_rev bs r e =
    let made : ℕ × ℕ → Rev = λ p. record { session = p.0; num = p.1 } in
    let p = option_map-Some made (read_pair bs) r e in
    subst IsShortRev p.2 (short_pair bs p.0 p.1)

short_atom : (bs : List ℕ) (a : Atom) → read_atom bs ≡ Some a → IsShortAtom a
short_atom bs a e =
    let made : ℕ → ℕ × ℕ → Atom = λ s p. record { rev = record { session = s; num = p.0 }; at = p.1 } in
    let rest = after_first (λ b. b == 46) bs in
    let s = option_and_then-Some (λ s. option_map (made s) (read_pair rest)) (number_of (before_first (λ b. b == 46) bs)) a e in
    let p = option_map-Some (made s.0) (read_pair rest) a s.2 in
    let two = short_pair rest p.0 p.1 in
    subst IsShortAtom p.2 ((decimal-number_of (before_first (λ b. b == 46) bs) s.0 s.1).1, two.0, two.1)

pub rev_reads : Reads plain_form.rev plain_naming.rev IsShortRev
rev_reads d r h e =
    let t = option_and_then-Some read_rev (as_str d) r e in
    (is_string d t.0 t.1 ∙ ap string (if_is (read_rev t.0) r (λ q. t.0 ≡ rev_text q) (rev_text-read_rev t.0) t.2), short_rev t.0 r t.2)

pub atom_reads : Reads plain_form.atom plain_naming.atom IsShortAtom
atom_reads d a h e =
    let t = option_and_then-Some read_atom (as_str d) a e in
    (is_string d t.0 t.1 ∙ ap string (if_is (read_atom t.0) a (λ b. t.0 ≡ atom_text b) (atom_text-read_atom t.0) t.2), short_atom t.0 a t.2)

pub rev_writes : (r : Rev) → IsShortRev r → plain_form.rev (plain_naming.rev r) ≡ Some r
rev_writes r h = read_rev-rev_text r h.0 h.1

pub atom_writes : (a : Atom) → IsShortAtom a → (plain_form.atom (plain_naming.atom a) ≡ Some a) × (is_some (as_null (plain_naming.atom a)) ≡ false)
atom_writes a h = (read_atom-atom_text a h.0 h.1 h.2, refl)
