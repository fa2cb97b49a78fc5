-- What is written for a message is read as that message.
use Rattle.std.proofs.Common.{◌≡◌, ◌<◌, ◌^◌, ◌&&◌, ℕ, Bool, true, false, not, nat_lt, is_some, List, Option, None, Some, option_map, option_and_then, codes, refl, sym, ap, ◌∙◌, arith}
use Rattle.std.specs.Prelude.{if◌then◌else◌}
use Rattle.std.proofs.lemmas.Bool.Decides.{nat_tests}
use Rattle.std.specs.Int.{w128, from_be_bytes}
use Rattle.serde_json.specs.Data.{Data}
use Rattle.serde_json.specs.Find.{as_object}
use Rattle.uuid.specs.Text.{parsed}
use Rattle.uuid.proofs.OrderLemmas.{from_be_bytes-to_be_bytes_16}
use Rattle.st_clusters.specs.declared.ids.IdRange.{IdRange}
use Rattle.st_idcodec.specs.TableText.{uuid_text}
use Rattle.st_idcodec.proofs.Complete.{parsed_back}
use Rattle.st_mark_reader.specs.Reading.{member_of, small_number}
use Rattle.st_msg.specs.declared.parts.Head.{Head}
use Rattle.st_msg.specs.Messages.{SaidView, Join, Leave, Ack, Commit, MessageView, number_data, is_upgrade, ids_data, said_data, message_data, head_of, if_wide, uuid_number, ids_of, commit_of, edits_in, upgrade_in, said_named, said_of, message_with, message_of}
use Rattle.st_msg.specs.Within.{IsWithin, SaidIsWithin}

then_some : {A B : Type 0} (f : A → Option B) (o : Option A) (x : A) (y : Option B) → o ≡ Some x → f x ≡ y → option_and_then f o ≡ y
then_some f o x y e g = ap (option_and_then f) e ∙ g

-- ## UUIDs

-- what is read has the number that its bytes have
pub number_is : (s xs : List ℕ) (u : ℕ) (r : Option ℕ) → Some xs ≡ parsed s → u ≡ from_be_bytes w128 xs → r ≡ if_wide u → r ≡ uuid_number s
number_is s xs u r form number is = rw (sym form) (is ∙ ap if_wide number)

wide_is : (u : ℕ) → u < 2 ^ 128 → if_wide u ≡ Some u
wide_is u h = let e : nat_lt u (2 ^ 128) ≡ true = grind (arith, nat_tests, h) in ap (λ (b : Bool). if b then Some u else None) e

uuid_back : (u : ℕ) → u < 2 ^ 128 → uuid_number (uuid_text u) ≡ Some u
uuid_back u h =
    ap (λ (o : Option (List ℕ)). option_and_then if_wide (option_map (from_be_bytes w128) o)) (sym (parsed_back u))
    ∙ ap if_wide (from_be_bytes-to_be_bytes_16 u h) ∙ wide_is u h

-- ## Numbers

small_back : (n : ℕ) → n < 2 ^ 32 → small_number (number_data n) ≡ Some n
small_back n h = let e : nat_lt n (2 ^ 32) ≡ true = grind (arith, nat_tests, h) in ap (λ (b : Bool). if b then Some n else None) e

abbrev pair : ℕ → ℕ → ℕ × ℕ
pair x y = (x, y)

ids_back : (ids : IdRange) → ids.first < 2 ^ 32 → ids.count < 2 ^ 32 → ids_of (ids_data ids) ≡ Some (ids.first, ids.count)
ids_back ids f g =
    then_some (λ (first : ℕ). option_map (λ (count : ℕ). pair first count) (small_number (number_data ids.count))) (small_number (number_data ids.first)) ids.first (Some (ids.first, ids.count))
    (small_back ids.first f) (ap (option_map (λ (count : ℕ). pair ids.first count)) (small_back ids.count g))

abbrev head : ℕ → ℕ → ℕ → Head
head n min s = record { n = n; min = min; session = s }

head_back : (n min s : ℕ) (d : Data) → member_of small_number (codes "n") d ≡ Some n → member_of small_number (codes "min") d ≡ Some min → member_of small_number (codes "s") d ≡ Some s → head_of d ≡ Some (head n min s)
head_back n min s d a b c =
    then_some (λ (x : ℕ). option_and_then (λ (y : ℕ). option_map (λ (z : ℕ). head x y z) (member_of small_number (codes "s") d)) (member_of small_number (codes "min") d)) (member_of small_number (codes "n") d) n (Some (head n min s)) a
    (then_some (λ (y : ℕ). option_map (λ (z : ℕ). head n y z) (member_of small_number (codes "s") d)) (member_of small_number (codes "min") d) min (Some (head n min s)) b
    (ap (option_map (λ (z : ℕ). head n min z)) c))

-- ## What is said

abbrev range : ℕ → ℕ × ℕ → IdRange
range s p = record { session = s; first = p.0; count = p.1 }

commit_back : (n min s r : ℕ) (ids : IdRange) (change : Data) → r < 2 ^ 32 → ids.session ≡ s → ids.first < 2 ^ 32 → ids.count < 2 ^ 32 → commit_of s (said_data n min s (Commit r ids change)) change ≡ Some (Commit r ids change)
commit_back n min s r ids change wide own f g =
    then_some (λ (x : ℕ). option_map (λ (p : ℕ × ℕ). Commit x (range s p) change) (ids_of (ids_data ids))) (small_number (number_data r)) r (Some (Commit r ids change)) (small_back r wide)
    (ap (option_map (λ (p : ℕ × ℕ). Commit r (range s p) change)) (ids_back ids f g) ∙ (λ i. Some (Commit r (range (sym own i) (ids.first, ids.count)) change)))

-- a commit is called by what its change is
commit_named : (n min s r : ℕ) (ids : IdRange) (change : Data) → SaidIsWithin s (Commit r ids change) → (b : Bool) → is_upgrade change ≡ b
    → said_named (if b then codes "schema" else codes "op") s (said_data n min s (Commit r ids change)) ≡ Some (Commit r ids change)
commit_named n min s r ids change h true e =
    then_some (commit_of s (said_data n min s (Commit r ids change))) (upgrade_in change) change (Some (Commit r ids change)) (ap (λ (b : Bool). if b then Some change else None) e)
    (commit_back n min s r ids change h.0 h.1 h.2 h.3)
commit_named n min s r ids change h false e =
    let whole : is_some (as_object change) ≡ true = h.4 in
    then_some (commit_of s (said_data n min s (Commit r ids change))) (edits_in change) change (Some (Commit r ids change)) (λ i. if whole i && not (e i) then Some change else None)
    (commit_back n min s r ids change h.0 h.1 h.2 h.3)

commit_said : (n min s r : ℕ) (ids : IdRange) (change : Data) → SaidIsWithin s (Commit r ids change) → said_of s (said_data n min s (Commit r ids change)) ≡ Some (Commit r ids change)
commit_said n min s r ids change h = commit_named n min s r ids change h (is_upgrade change) refl

said_back : (n min s : ℕ) (said : SaidView) → SaidIsWithin s said → said_of s (said_data n min s said) ≡ Some said
said_back n min s (Join u) h = ap (option_map (λ (v : ℕ). Join v)) (uuid_back u h)
said_back n min s Leave h = refl
said_back n min s (Ack r) h = ap (option_map (λ (v : ℕ). Ack v)) (small_back r h)
said_back n min s (Commit r ids change) h = commit_said n min s r ids change h

heads_back : (n min s : ℕ) (said : SaidView) → n < 2 ^ 32 → min < 2 ^ 32 → s < 2 ^ 32 → head_of (said_data n min s said) ≡ Some (head n min s)
heads_back n min s (Join u) a b c = head_back n min s (said_data n min s (Join u)) (small_back n a) (small_back min b) (small_back s c)
heads_back n min s Leave a b c = head_back n min s (said_data n min s Leave) (small_back n a) (small_back min b) (small_back s c)
heads_back n min s (Ack r) a b c = head_back n min s (said_data n min s (Ack r)) (small_back n a) (small_back min b) (small_back s c)
heads_back n min s (Commit r ids change) a b c = head_back n min s (said_data n min s (Commit r ids change)) (small_back n a) (small_back min b) (small_back s c)

pub message_back : (m : MessageView) → IsWithin m → message_of (message_data m) ≡ Some m
message_back m w =
    then_some (λ (h : Head). option_map (λ (said : SaidView). message_with h said) (said_of h.session (message_data m))) (head_of (message_data m)) (head m.n m.min m.session) (Some m)
    (heads_back m.n m.min m.session m.said w.n w.min w.session)
    (ap (option_map (λ (said : SaidView). message_with (head m.n m.min m.session) said)) (said_back m.n m.min m.session m.said w.said))
